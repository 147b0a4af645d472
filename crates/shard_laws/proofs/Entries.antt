-- Entries of attempts: of each attempt at most one, and which one is found.
use Rattle.std.proofs.Common.{◌≡◌, suc, Bool, true, false, List, [], ◌∷◌, length, map, Option, Some, None, is_some, refl, sym, ap, ◌∙◌, arith}
use Rattle.std.specs.Prelude.{◌==◌, if◌then◌else◌}
use Rattle.std.specs.List.{filter}
use Rattle.std.proofs.lemmas.Bool.{cond_both, true≢false, eqb-true}
use Rattle.std.proofs.lemmas.Grind.{common_steps}
use Rattle.rss_names.specs.declared.attempt.Attempt.{Attempt}
use Rattle.rss_tables.specs.Attempts.{same_attempt, attempt_lt, has_attempt}
use Rattle.shard_laws.specs.Entries.{entry_of, AreApart}

pub same_is : (a b : Attempt) → same_attempt a b ≡ true → a ≡ b
same_is a b e = grind (arith, common_steps, e)

pub same_itself : (a : Attempt) → same_attempt a a ≡ true
same_itself a = grind (arith, common_steps)

pub same_turned : (a b : Attempt) → same_attempt a b ≡ false → same_attempt b a ≡ false
same_turned a b e = grind (arith, common_steps, e)

-- an entry that a test keeps
abbrev pub kept : {E : Type 0} → (E → Bool) → Option E → Option E
kept test None = None
kept test (Some e) = if test e then Some e else None

-- an entry among entries by ascending attempt
abbrev pub with_entry : {E : Type 0} → (E → Attempt) → List E → E → List E
with_entry at [] new = new ∷ []
with_entry at (e ∷ entries) new = if attempt_lt (at new) (at e) then new ∷ e ∷ entries else e ∷ with_entry at entries new

module _ {E : Type 0} (at : E → Attempt) where
  pub found_at : (es : List E) (a : Attempt) (e : E) → entry_of at es a ≡ Some e → at e ≡ a
  found_at [] a e h = absurd (let x : ◌≡◌ {A = Option E} None (Some e) = h in cc)
  found_at (d ∷ es) a e h = go (same_attempt a (at d)) refl (found_at es a e)
    where
      go : (b : Bool) → same_attempt a (at d) ≡ b → (entry_of at es a ≡ Some e → at e ≡ a) → at e ≡ a
      go true f ih =
          let x : ◌≡◌ {A = Option E} (Some d) (Some e) = rw f at h in
          let y : d ≡ e = cc in
          ap at (sym y) ∙ sym (same_is a (at d) f)
      go false f ih = ih (rw f at h)

  -- what a test keeps of the entries
  pub found_kept : (test : E → Bool) (es : List E) (a : Attempt) → AreApart at es → entry_of at (filter test es) a ≡ kept test (entry_of at es a)
  found_kept test [] a h = refl
  found_kept test (d ∷ es) a h = go (test d) refl (same_attempt a (at d)) refl (found_kept test es a h.1)
    where
      gone : same_attempt a (at d) ≡ true → entry_of at es a ≡ None
      gone f = rw (same_is a (at d) f) h.0

      go : (b : Bool) → test d ≡ b → (c : Bool) → same_attempt a (at d) ≡ c → entry_of at (filter test es) a ≡ kept test (entry_of at es a) → entry_of at (filter test (d ∷ es)) a ≡ kept test (entry_of at (d ∷ es) a)
      go true e true f ih = rw (e, f) (rw e refl)
      go true e false f ih = rw (e, f) ih
      go false e true f ih = rw (e, f) (rw e (ih ∙ ap (kept test) (gone f)))
      go false e false f ih = rw (e, f) ih

  pub apart_kept : (test : E → Bool) (es : List E) → AreApart at es → AreApart at (filter test es)
  apart_kept test [] h = h
  apart_kept test (d ∷ es) h =
      let rest = apart_kept test es h.1 in
      cond_both (test d) (d ∷ filter test es) (filter test es) (AreApart at)
      (λ e. (found_kept test es (at d) h.1 ∙ ap (kept test) h.0, rest)) (λ e. rest)

  -- what is found where an entry is put in
  pub found_put : (es : List E) (new : E) (a : Attempt) → entry_of at es (at new) ≡ None → entry_of at (with_entry at es new) a ≡ (if same_attempt a (at new) then Some new else entry_of at es a)
  found_put [] new a h = refl
  found_put (d ∷ es) new a h = go (same_attempt (at new) (at d)) refl (found_put es new a)
    where
      by_tests : same_attempt (at new) (at d) ≡ false → (b : Bool) → attempt_lt (at new) (at d) ≡ b → (c : Bool) → same_attempt a (at d) ≡ c → (t : Bool) → same_attempt a (at new) ≡ t → entry_of at (with_entry at es new) a ≡ (if same_attempt a (at new) then Some new else entry_of at es a) → entry_of at (with_entry at (d ∷ es) new) a ≡ (if same_attempt a (at new) then Some new else entry_of at (d ∷ es) a)
      by_tests n true e c f t g ih = rw e refl
      by_tests n false e true f true g ih = absurd (true≢false (sym f ∙ ap (λ (x : Attempt). same_attempt x (at d)) (same_is a (at new) g) ∙ n))
      by_tests n false e true f false g ih = rw (e, f, g) refl
      by_tests n false e false f t g ih = rw (e, f) ih

      go : (b : Bool) → same_attempt (at new) (at d) ≡ b → (entry_of at es (at new) ≡ None → entry_of at (with_entry at es new) a ≡ (if same_attempt a (at new) then Some new else entry_of at es a)) → entry_of at (with_entry at (d ∷ es) new) a ≡ (if same_attempt a (at new) then Some new else entry_of at (d ∷ es) a)
      go true e ih = absurd (let x : ◌≡◌ {A = Option E} (Some d) None = rw e at h in cc)
      go false e ih = by_tests e (attempt_lt (at new) (at d)) refl (same_attempt a (at d)) refl (same_attempt a (at new)) refl (ih (rw e at h))

  pub apart_put : (es : List E) (new : E) → AreApart at es → entry_of at es (at new) ≡ None → AreApart at (with_entry at es new)
  apart_put [] new h n = (refl, tt)
  apart_put (d ∷ es) new h n = go (same_attempt (at new) (at d)) refl (apart_put es new h.1)
    where
      go : (b : Bool) → same_attempt (at new) (at d) ≡ b → (entry_of at es (at new) ≡ None → AreApart at (with_entry at es new)) → AreApart at (with_entry at (d ∷ es) new)
      go true e ih = absurd (let x : ◌≡◌ {A = Option E} (Some d) None = rw e at n in cc)
      go false e ih =
          let none : entry_of at es (at new) ≡ None = rw e at n in
          let turned : same_attempt (at d) (at new) ≡ false = same_turned (at new) (at d) e in
          let first : entry_of at (with_entry at es new) (at d) ≡ None = found_put es new (at d) none ∙ (rw turned h.0) in
          cond_both (attempt_lt (at new) (at d)) (new ∷ d ∷ es) (d ∷ with_entry at es new) (AreApart at) (λ f. (n, h)) (λ f. (first, ih none))

  -- an entry that is among those kept is found, and passes the test
  pub kept_some : (test : E → Bool) (o : Option E) (e : E) → kept test o ≡ Some e → (o ≡ Some e) × (test e ≡ true)
  kept_some test None e h = absurd (let x : ◌≡◌ {A = Option E} None (Some e) = h in cc)
  kept_some test (Some d) e h = go (test d) refl
    where
      go : (b : Bool) → test d ≡ b → (Some d ≡ Some e) × (test e ≡ true)
      go true f =
          let x : ◌≡◌ {A = Option E} (Some d) (Some e) = rw f at h in
          let y : d ≡ e = cc in
          (x, ap test (sym y) ∙ f)
      go false f = absurd (let x : ◌≡◌ {A = Option E} None (Some e) = rw f at h in cc)

  -- where no entry passes a test, none that is found does
  pub none_pass : (test : E → Bool) (es : List E) (a : Attempt) (e : E) → (length (filter test es) == 0) ≡ true → entry_of at es a ≡ Some e → test e ≡ false
  none_pass test [] a e l h = absurd (let x : ◌≡◌ {A = Option E} None (Some e) = h in cc)
  none_pass test (d ∷ es) a e l h = go (test d) refl (same_attempt a (at d)) refl (none_pass test es a e)
    where
      go : (b : Bool) → test d ≡ b → (c : Bool) → same_attempt a (at d) ≡ c → ((length (filter test es) == 0) ≡ true → entry_of at es a ≡ Some e → test e ≡ false) → test e ≡ false
      go true f c g ih = absurd (let n = eqb-true (suc (length (filter test es))) 0 (rw f at l) in omega (arith, n))
      go false f true g ih =
          let x : ◌≡◌ {A = Option E} (Some d) (Some e) = rw g at h in
          let y : d ≡ e = cc in
          ap test (sym y) ∙ f
      go false f false g ih = ih (rw f at l) (rw g at h)

  -- an attempt is named by the entries where it has one
  pub named_is : (es : List E) (a : Attempt) → has_attempt (map at es) a ≡ is_some (entry_of at es a)
  named_is [] a = refl
  named_is (d ∷ es) a = go (same_attempt a (at d)) refl (named_is es a)
    where
      go : (b : Bool) → same_attempt a (at d) ≡ b → has_attempt (map at es) a ≡ is_some (entry_of at es a) → has_attempt (map at (d ∷ es)) a ≡ is_some (entry_of at (d ∷ es) a)
      go true e ih = rw e refl
      go false e ih = rw e ih
