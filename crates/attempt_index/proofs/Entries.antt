-- What a search among attempts says of the entries themselves.
use Rattle.std.proofs.Common.{◌≡◌, ℕ, suc, zero, ◌<◌, Bool, true, false, List, [], ◌∷◌, length, map, get_or, slice_get, Option, Some, None, IfSome, Ok, Err, if◌then◌else◌, arith, refl, sym, ap, ◌∙◌}
use Rattle.std.specs.List.{insert, remove, list_all}
use Rattle.std.proofs.lemmas.Grind.{common_steps}
use Rattle.std.proofs.lemmas.Option.{slice_get-get_or}
use Rattle.std.proofs.lemmas.Bool.{false≢true}
use Rattle.rss_names.specs.declared.attempt.Attempt.{Attempt}
use Rattle.rss_tables.specs.Attempts.{same_attempt, attempt_lt}
use Rattle.attempt_index.specs.Ascending.{ascends, place_in, stands_in, searched, put_in, without_in}
use Rattle.attempt_index.specs.Entries.{entry_of, with_entry, without_entry}
use Rattle.attempt_index.specs.Orders.{attempts-transitive}
use Rattle.attempt_index.proofs.Searching.{both, all-behind, ascends-put, ascends-left, put-inserted, left-by, is-there, is-nowhere}
use Rattle.attempt_index.proofs.Indexed.{attempts-apart, attempts-same, attempts-turned, same_attempt-Decides}

module _ {E : Type 0} (at : E → Attempt) where
  -- one who stands before all is not among them
  pub none-there : (ps : List E) (a : Attempt) → list_all (attempt_lt a) (map at ps) ≡ true → (entry_of at ps a ≡ None) × (without_entry at ps a ≡ ps)
  none-there [] a h = (refl, refl)
  none-there (p ∷ ps) a h =
      let q = both (attempt_lt a (at p)) (list_all (attempt_lt a) (map at ps)) h in
      let r = none-there ps a q.1 in
      let apart : same_attempt a (at p) ≡ false = attempts-apart a (at p) q.0 in
      (rw apart r.0, rw apart (ap (λ (l : List E). p ∷ l) r.1))

  -- one that a search finds is there, and its entry stands at the place
  pub stands-there : (ps : List E) (a : Attempt) → ascends attempt_lt (map at ps) ≡ true → stands_in attempt_lt (map at ps) a ≡ true → (entry_of at ps a ≡ slice_get ps (place_in attempt_lt (map at ps) a)) × (without_entry at ps a ≡ remove ps (place_in attempt_lt (map at ps) a))
  stands-there [] a up h = absurd (false≢true h)
  stands-there (p ∷ ps) a up h =
      let q = both (list_all (attempt_lt (at p)) (map at ps)) (ascends attempt_lt (map at ps)) up in
      go (attempt_lt (at p) a) refl (attempt_lt a (at p)) refl q.0 (stands-there ps a q.1)
    where
      go : (b : Bool) → attempt_lt (at p) a ≡ b → (c : Bool) → attempt_lt a (at p) ≡ c → list_all (attempt_lt (at p)) (map at ps) ≡ true → (stands_in attempt_lt (map at ps) a ≡ true → (entry_of at ps a ≡ slice_get ps (place_in attempt_lt (map at ps) a)) × (without_entry at ps a ≡ remove ps (place_in attempt_lt (map at ps) a))) → (entry_of at (p ∷ ps) a ≡ slice_get (p ∷ ps) (place_in attempt_lt (map at (p ∷ ps)) a)) × (without_entry at (p ∷ ps) a ≡ remove (p ∷ ps) (place_in attempt_lt (map at (p ∷ ps)) a))
      go true e c f q ih =
          let r = ih (rw e at h) in
          let apart : same_attempt a (at p) ≡ false = attempts-turned (at p) a (attempts-apart (at p) a e) in
          (rw (apart, e) r.0, rw (apart, e) (ap (λ (l : List E). p ∷ l) r.1))
      go false e true f q ih = absurd (false≢true (rw (e, f) at h))
      go false e false f q ih =
          let same : same_attempt a (at p) ≡ true = attempts-same a (at p) f e in
          let is : a ≡ (at p) = (same_attempt-Decides a (at p)).0 same in
          let none : without_entry at ps a ≡ ps = (none-there ps a (ap (λ (x : Attempt). list_all (attempt_lt x) (map at ps)) is ∙ q)).1 in
          (rw (same, e) refl, rw (same, e) none)

  -- one that it does not find is not there
  pub stands-nowhere-there : (ps : List E) (a : Attempt) → ascends attempt_lt (map at ps) ≡ true → stands_in attempt_lt (map at ps) a ≡ false → (entry_of at ps a ≡ None) × (without_entry at ps a ≡ ps)
  stands-nowhere-there [] a up h = (refl, refl)
  stands-nowhere-there (p ∷ ps) a up h =
      let q = both (list_all (attempt_lt (at p)) (map at ps)) (ascends attempt_lt (map at ps)) up in
      go (attempt_lt (at p) a) refl (attempt_lt a (at p)) refl q.0 (stands-nowhere-there ps a q.1)
    where
      go : (b : Bool) → attempt_lt (at p) a ≡ b → (c : Bool) → attempt_lt a (at p) ≡ c → list_all (attempt_lt (at p)) (map at ps) ≡ true → (stands_in attempt_lt (map at ps) a ≡ false → (entry_of at ps a ≡ None) × (without_entry at ps a ≡ ps)) → (entry_of at (p ∷ ps) a ≡ None) × (without_entry at (p ∷ ps) a ≡ p ∷ ps)
      go true e c f q ih =
          let r = ih (rw e at h) in
          let apart : same_attempt a (at p) ≡ false = attempts-turned (at p) a (attempts-apart (at p) a e) in
          (rw apart r.0, rw apart (ap (λ (l : List E). p ∷ l) r.1))
      go false e true f q ih = none-there (p ∷ ps) a (rw f (all-behind attempt_lt attempts-transitive a (at p) (map at ps) f q))
      go false e false f q ih = absurd (false≢true (sym (rw (e, f) at h)))

  -- a new entry is inserted at the place of its attempt, and its attempt too
  pub inserted : (ps : List E) (new : E) → ascends attempt_lt (map at ps) ≡ true → stands_in attempt_lt (map at ps) (at new) ≡ false → (insert ps (place_in attempt_lt (map at ps) (at new)) new ≡ with_entry at ps new) × (insert (map at ps) (place_in attempt_lt (map at ps) (at new)) (at new) ≡ map at (with_entry at ps new))
  inserted [] new up h = (refl, refl)
  inserted (p ∷ ps) new up h =
      let q = both (list_all (attempt_lt (at p)) (map at ps)) (ascends attempt_lt (map at ps)) up in
      go (attempt_lt (at p) (at new)) refl (attempt_lt (at new) (at p)) refl (inserted ps new q.1)
    where
      go : (b : Bool) → attempt_lt (at p) (at new) ≡ b → (c : Bool) → attempt_lt (at new) (at p) ≡ c → (stands_in attempt_lt (map at ps) (at new) ≡ false → (insert ps (place_in attempt_lt (map at ps) (at new)) new ≡ with_entry at ps new) × (insert (map at ps) (place_in attempt_lt (map at ps) (at new)) (at new) ≡ map at (with_entry at ps new))) → (insert (p ∷ ps) (place_in attempt_lt (map at (p ∷ ps)) (at new)) new ≡ with_entry at (p ∷ ps) new) × (insert (map at (p ∷ ps)) (place_in attempt_lt (map at (p ∷ ps)) (at new)) (at new) ≡ map at (with_entry at (p ∷ ps) new))
      go true e true f ih = absurd (grind (arith, common_steps, e, f))
      go true e false f ih =
          let r = ih (rw e at h) in
          (rw (e, f) (ap (λ (l : List E). p ∷ l) r.0), rw (e, f) (ap (λ (l : List Attempt). (at p) ∷ l) r.1))
      go false e true f ih = (rw (e, f) refl, rw (e, f) refl)
      go false e false f ih = absurd (false≢true (sym (rw (e, f) at h)))

  -- one that is not there has no place
  absent-nowhere : (ps : List E) (a : Attempt) → entry_of at ps a ≡ None → stands_in attempt_lt (map at ps) a ≡ false
  absent-nowhere [] a h = refl
  absent-nowhere (p ∷ ps) a h = go (attempt_lt (at p) a) refl (attempt_lt a (at p)) refl (absent-nowhere ps a)
    where
      go : (b : Bool) → attempt_lt (at p) a ≡ b → (c : Bool) → attempt_lt a (at p) ≡ c → (entry_of at ps a ≡ None → stands_in attempt_lt (map at ps) a ≡ false) → stands_in attempt_lt (map at (p ∷ ps)) a ≡ false
      go true e c f ih = rw e (ih (rw (attempts-turned (at p) a (attempts-apart (at p) a e)) at h))
      go false e true f ih = rw (e, f) refl
      go false e false f ih =
          let same : same_attempt a (at p) ≡ true = attempts-same a (at p) f e in
          absurd (let x : ◌≡◌ {A = Option E} (Some p) None = rw same at h in cc)

  pub attempts-left : (ps : List E) (i : ℕ) → remove (map at ps) i ≡ map at (remove ps i)
  attempts-left [] zero = refl
  attempts-left [] (suc i) = refl
  attempts-left (p ∷ ps) zero = refl
  attempts-left (p ∷ ps) (suc i) = ap (λ (l : List Attempt). (at p) ∷ l) (attempts-left ps i)

  -- as many attempts as entries
  pub attempts-length : (ps : List E) → length (map at ps) ≡ length ps
  attempts-length [] = refl
  attempts-length (p ∷ ps) = ap suc (attempts-length ps)

  -- the entry at the place that a search answers is that of the attempt
  pub entry-found : (ps : List E) (ats : List Attempt) (a : Attempt) (i : ℕ) (x : E) → ats ≡ map at ps → ascends attempt_lt ats ≡ true → Ok i ≡ searched attempt_lt ats a → i < length ats → x ≡ get_or ps i x → (i < length ps) × (entry_of at ps a ≡ Some x)
  entry-found ps ats a i x e up found l g =
      let there = is-there attempt_lt (map at ps) a i (rw e at found) in
      let within : i < length ps = omega (arith, l, ap length e, attempts-length ps) in
      let at_place : entry_of at ps a ≡ slice_get ps i = (stands-there ps a (rw e at up) there.0).0 ∙ ap (λ (n : ℕ). slice_get ps n) (sym there.1) in
      (within, at_place ∙ slice_get-get_or ps i x within ∙ ap (λ (y : E). Some y) (sym g))

  -- and where it answers none, the attempt is not there
  pub entry-missing : (ps : List E) (ats : List Attempt) (a : Attempt) (i : ℕ) → ats ≡ map at ps → ascends attempt_lt ats ≡ true → Err i ≡ searched attempt_lt ats a → (entry_of at ps a ≡ None) × (without_entry at ps a ≡ ps)
  entry-missing ps ats a i e up found = stands-nowhere-there ps a (rw e at up) (is-nowhere attempt_lt (map at ps) a i (rw e at found)).0

  -- an entry and its attempt were put at its place
  pub added : (ps : List E) (ats : List Attempt) (new : E) (place : ℕ) (ps' : List E) (ats' : List Attempt)
      → ats ≡ map at ps → ascends attempt_lt ats ≡ true → entry_of at ps (at new) ≡ None → place ≡ place_in attempt_lt ats (at new) → ps' ≡ insert ps place new → ats' ≡ insert ats place (at new)
      → (ps' ≡ with_entry at ps new) × (ats' ≡ map at ps') × (ascends attempt_lt ats' ≡ true)
  added ps ats new place ps' ats' e up n p i j =
      let up' : ascends attempt_lt (map at ps) ≡ true = rw e at up in
      let none : stands_in attempt_lt (map at ps) (at new) ≡ false = absent-nowhere ps (at new) n in
      let both_in = inserted ps new up' none in
      let here : ps' ≡ with_entry at ps new = rw (i, p, e) both_in.0 in
      let there : ats' ≡ map at (with_entry at ps new) = rw (j, p, e) both_in.1 in
      let put : ats' ≡ put_in attempt_lt (map at ps) (at new) = rw (j, p, e) (sym (put-inserted attempt_lt (map at ps) (at new) none)) in
      (here, rw here there, rw put (ascends-put attempt_lt attempts-transitive (map at ps) (at new) up'))

  -- the entry of an attempt and the attempt were taken away
  pub taken : (ps : List E) (ats : List Attempt) (a : Attempt) (place : ℕ) (ps' : List E) (ats' : List Attempt)
      → ats ≡ map at ps → ascends attempt_lt ats ≡ true → Ok place ≡ searched attempt_lt ats a → ps' ≡ remove ps place → ats' ≡ remove ats place
      → (ps' ≡ without_entry at ps a) × (ats' ≡ map at ps') × (ascends attempt_lt ats' ≡ true)
  taken ps ats a place ps' ats' e up found i j =
      let there = is-there attempt_lt ats a place found in
      let here : ps' ≡ without_entry at ps a = i ∙ ap (λ (n : ℕ). remove ps n) (there.1 ∙ ap (λ (l : List Attempt). place_in attempt_lt l a) e) ∙ sym (stands-there ps a (rw e at up) (rw e at there.0)).1 in
      let left : ats' ≡ without_in attempt_lt ats a = j ∙ left-by attempt_lt ats a place found in
      (here, rw (j, i, e) (attempts-left ps place), rw left (ascends-left attempt_lt ats a up))

  -- an entry is that of its own attempt
  pub own-entry : (ps : List E) (a : Attempt) (p : E) → entry_of at ps a ≡ Some p → a ≡ (at p)
  own-entry [] a p e = absurd (let x : ◌≡◌ {A = Option E} None (Some p) = e in cc)
  own-entry (q ∷ qs) a p e = go (same_attempt a (at q)) refl (own-entry qs a p)
    where
      go : (s : Bool) → same_attempt a (at q) ≡ s → (entry_of at qs a ≡ Some p → a ≡ (at p)) → a ≡ (at p)
      go true s ih = let x : ◌≡◌ {A = Option E} (Some q) (Some p) = rw s at e in let y : q ≡ p = cc in (same_attempt-Decides a (at q)).0 s ∙ ap (λ (w : E). (at w)) y
      go false s ih = ih (rw s at e)

  -- one that is there behind another is of a later attempt
  pub later-there : (a : Attempt) (ps : List E) (b : Attempt) (q : E) → list_all (attempt_lt a) (map at ps) ≡ true → entry_of at ps b ≡ Some q → attempt_lt a (at q) ≡ true
  later-there a [] b q h e = absurd (let x : ◌≡◌ {A = Option E} None (Some q) = e in cc)
  later-there a (p ∷ ps) b q h e =
      let r = both (attempt_lt a (at p)) (list_all (attempt_lt a) (map at ps)) h in
      go (same_attempt b (at p)) refl r.0 (later-there a ps b q r.1)
    where
      go : (s : Bool) → same_attempt b (at p) ≡ s → attempt_lt a (at p) ≡ true → (entry_of at ps b ≡ Some q → attempt_lt a (at q) ≡ true) → attempt_lt a (at q) ≡ true
      go true s f ih = let x : ◌≡◌ {A = Option E} (Some p) (Some q) = rw s at e in let y : p ≡ q = cc in ap (λ (w : E). attempt_lt a (at w)) (sym y) ∙ f
      go false s f ih = ih (rw s at e)

  -- an entry stands where its attempt is asked for
  pub entry-itself : (ps : List E) (i : ℕ) (d : E) → ascends attempt_lt (map at ps) ≡ true → i < length ps → entry_of at ps (at (get_or ps i d)) ≡ Some (get_or ps i d)
  entry-itself [] i d up l = absurd (omega (arith, l))
  entry-itself (p ∷ ps) zero d up l =
      let same : same_attempt (at p) (at p) ≡ true = (same_attempt-Decides (at p) (at p)).1 refl in
      rw same refl
  entry-itself (p ∷ ps) (suc i) d up l =
      let r = both (list_all (attempt_lt (at p)) (map at ps)) (ascends attempt_lt (map at ps)) up in
      let ih = entry-itself ps i d r.1 (omega (arith, l)) in
      let apart : same_attempt (at (get_or ps i d)) (at p) ≡ false = attempts-turned (at p) (at (get_or ps i d)) (attempts-apart (at p) (at (get_or ps i d)) (later-there (at p) ps (at (get_or ps i d)) (get_or ps i d) r.0 ih)) in
      rw apart ih

  -- who is there once one more is
  abbrev pub one_more : E → Attempt → Option E → Option E
  one_more new a rest = if same_attempt a (at new) then Some new else rest

  pub found-with : (ps : List E) (new : E) (a : Attempt) → entry_of at ps (at new) ≡ None → entry_of at (with_entry at ps new) a ≡ one_more new a (entry_of at ps a)
  found-with [] new a h = refl
  found-with (p ∷ ps) new a h = go (same_attempt (at new) (at p)) refl (attempt_lt (at new) (at p)) refl (same_attempt a (at new)) refl (same_attempt a (at p)) refl (found-with ps new a)
    where
      go : (n : Bool) → same_attempt (at new) (at p) ≡ n → (l : Bool) → attempt_lt (at new) (at p) ≡ l → (s : Bool) → same_attempt a (at new) ≡ s → (t : Bool) → same_attempt a (at p) ≡ t → (entry_of at ps (at new) ≡ None → entry_of at (with_entry at ps new) a ≡ one_more new a (entry_of at ps a)) → entry_of at (with_entry at (p ∷ ps) new) a ≡ one_more new a (entry_of at (p ∷ ps) a)
      go true n l e s f t g ih = absurd (let x : ◌≡◌ {A = Option E} (Some p) None = rw n at h in cc)
      go false n true e s f t g ih = rw e refl
      go false n false e true f true g ih = absurd (grind (arith, common_steps, n, f, g))
      go false n false e true f false g ih = rw (e, g) (ih (rw n at h))
      go false n false e false f true g ih = rw (e, g, f) refl
      go false n false e false f false g ih = rw (e, g) (ih (rw n at h))

  -- who is there once one is not any more
  abbrev pub one_less : Attempt → Attempt → Option E → Option E
  one_less gone a rest = if same_attempt a gone then None else rest

  pub found-without : (ps : List E) (gone a : Attempt) → entry_of at (without_entry at ps gone) a ≡ one_less gone a (entry_of at ps a)
  found-without [] gone a = go (same_attempt a gone) refl
    where
      go : (s : Bool) → same_attempt a gone ≡ s → ◌≡◌ {A = Option E} None (one_less gone a None)
      go true e = rw e refl
      go false e = rw e refl
  found-without (p ∷ ps) gone a = go (same_attempt gone (at p)) refl (same_attempt a gone) refl (same_attempt a (at p)) refl (found-without ps gone a)
    where
      go : (n : Bool) → same_attempt gone (at p) ≡ n → (s : Bool) → same_attempt a gone ≡ s → (t : Bool) → same_attempt a (at p) ≡ t → entry_of at (without_entry at ps gone) a ≡ one_less gone a (entry_of at ps a) → entry_of at (without_entry at (p ∷ ps) gone) a ≡ one_less gone a (entry_of at (p ∷ ps) a)
      go true n true s t g ih = rw (n, s) (rw s at ih)
      go true n false s true g ih = absurd (grind (arith, common_steps, n, s, g))
      go true n false s false g ih = rw (n, s, g) (rw s at ih)
      go false n true s true g ih = absurd (grind (arith, common_steps, n, s, g))
      go false n true s false g ih = rw (n, g) ih
      go false n false s true g ih = rw (n, g, s) refl
      go false n false s false g ih = rw (n, g) ih

pub if-some : {X : Type 0} (P Q : X → Type 0) → ((x : X) → P x → Q x) → (o : Option X) → IfSome o P → IfSome o Q
if-some P Q f None h = h
if-some P Q f (Some x) h = f x h
