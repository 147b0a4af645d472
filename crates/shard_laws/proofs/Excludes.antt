-- Locks exclude: what holders keep apart, through each change of the locks.
use Rattle.std.proofs.Common.{◌≡◌, ◌⊎◌, inl, inr, Bool, true, false, not, List, [], length, Option, Some, None, refl, sym, ap, ◌∙◌, subst}
use Rattle.std.specs.Prelude.{◌==◌, if◌then◌else◌}
use Rattle.std.specs.List.{filter}
use Rattle.std.proofs.lemmas.Bool.{cond_both, and_cases, true≢false, false_from_ne_true, not_from_false}
use Rattle.rss_names.specs.declared.attempt.Attempt.{Attempt}
use Rattle.rss_names.specs.declared.service.Key.{Key}
use Rattle.rss_tables.specs.Attempts.{same_attempt}
use Rattle.rss_tables.specs.Locks.{LockHolder, Locks, conflicts, in_the_way, in_way_of, is_wounded_by, with_holder, after_wounds, taken}
use Rattle.shard_laws.specs.Entries.{AreApart, held_by, holder_of}
use Rattle.shard_laws.specs.Locked.{AreExcluded}
use Rattle.shard_laws.proofs.Entries.{kept, found_at, found_kept, apart_kept, found_put, apart_put, kept_some, none_pass, same_is, same_itself}
use Rattle.shard_laws.proofs.Lists.{with_holder_is}
use Rattle.shard_laws.proofs.Keys.{excluded, excluded_turned}

pub record Excludes (hs : List LockHolder) : Type 0 where
  pub apart : AreApart held_by hs
  pub excluded : (a b : Attempt) (h g : LockHolder) → holder_of hs a ≡ Some h → holder_of hs b ≡ Some g → same_attempt a b ≡ false → AreExcluded h g

pub excludes_none : Excludes []
excludes_none = record { apart = tt; excluded = λ a b h g e f n. absurd (let x : ◌≡◌ {A = Option LockHolder} None (Some h) = e in cc) }

-- a holder among those that a test keeps
pub holder_kept : (test : LockHolder → Bool) (hs : List LockHolder) → AreApart held_by hs → (a : Attempt) (h : LockHolder) → holder_of (filter test hs) a ≡ Some h → (holder_of hs a ≡ Some h) × (test h ≡ true)
holder_kept test hs p a h e = kept_some held_by test (holder_of hs a) h (sym (found_kept held_by test hs a p) ∙ e)

pub excludes_kept : (test : LockHolder → Bool) (hs : List LockHolder) → Excludes hs → Excludes (filter test hs)
excludes_kept test hs x = record {
  apart = apart_kept held_by test hs x.apart;
  excluded = λ a b h g e f n. x.excluded a b h g (holder_kept test hs x.apart a h e).0 (holder_kept test hs x.apart b g f).0 n;
}

-- a holder among others, where one is put in
pub holder_put : (hs : List LockHolder) (new : LockHolder) (a : Attempt) → holder_of hs new.attempt ≡ None → holder_of (with_holder hs new) a ≡ (if same_attempt a new.attempt then Some new else holder_of hs a)
holder_put hs new a n = ap (λ (l : List LockHolder). holder_of l a) (with_holder_is hs new) ∙ found_put held_by hs new a n

-- it is the new one, or one that was there
pub holder_put_cases : (hs : List LockHolder) (new : LockHolder) (a : Attempt) (h : LockHolder) → holder_of hs new.attempt ≡ None → holder_of (with_holder hs new) a ≡ Some h → ((a ≡ new.attempt) × (h ≡ new)) ⊎ (holder_of hs a ≡ Some h)
holder_put_cases hs new a h n e = go (same_attempt a new.attempt) refl (sym (holder_put hs new a n) ∙ e)
  where
    go : (b : Bool) → same_attempt a new.attempt ≡ b → (if b then Some new else holder_of hs a) ≡ Some h → ((a ≡ new.attempt) × (h ≡ new)) ⊎ (holder_of hs a ≡ Some h)
    go true f g = inl (same_is a new.attempt f, let x : ◌≡◌ {A = Option LockHolder} (Some new) (Some h) = g in cc)
    go false f g = inr g

pub excludes_put : (hs : List LockHolder) (new : LockHolder) → Excludes hs → holder_of hs new.attempt ≡ None → ((b : Attempt) (g : LockHolder) → holder_of hs b ≡ Some g → AreExcluded new g) → Excludes (with_holder hs new)
excludes_put hs new x n f = record {
  apart = ap_apart;
  excluded = λ a b h g e i j. by_cases a b h g (holder_put_cases hs new a h n e) (holder_put_cases hs new b g n i) j;
}
  where
    ap_apart : AreApart held_by (with_holder hs new)
    ap_apart = subst (AreApart held_by) (sym (with_holder_is hs new)) (apart_put held_by hs new x.apart n)

    by_cases : (a b : Attempt) (h g : LockHolder) → ((a ≡ new.attempt) × (h ≡ new)) ⊎ (holder_of hs a ≡ Some h) → ((b ≡ new.attempt) × (g ≡ new)) ⊎ (holder_of hs b ≡ Some g) → same_attempt a b ≡ false → AreExcluded h g
    by_cases a b h g (inl p) (inl q) j = absurd (true≢false (sym (same_itself new.attempt) ∙ ap (λ (t : Attempt). same_attempt t new.attempt) (sym p.0) ∙ ap (λ (t : Attempt). same_attempt a t) (sym q.0) ∙ j))
    by_cases a b h g (inl p) (inr q) j = subst (λ (t : LockHolder). AreExcluded t g) (sym p.1) (f b g q)
    by_cases a b h g (inr p) (inl q) j = subst (λ (t : LockHolder). AreExcluded h t) (sym q.1) (excluded_turned new h (f a h p))
    by_cases a b h g (inr p) (inr q) j = x.excluded a b h g p q j

-- whether a holder is not wounded
abbrev pub is_spared : List Attempt → Attempt → List Key → List Key → LockHolder → Bool
is_spared prepared attempt reads writes h = not (is_wounded_by prepared attempt reads writes h)

-- who is in nobody's way is kept apart from all
no_conflict : (new : LockHolder) (hs : List LockHolder) → (length (filter (conflicts new.attempt new.reads new.writes) hs) == 0) ≡ true → holder_of hs new.attempt ≡ None → (b : Attempt) (g : LockHolder) → holder_of hs b ≡ Some g → AreExcluded new g
no_conflict new hs l n b g e = by_cases (and_cases (not (same_attempt new.attempt g.attempt)) (in_the_way new.reads new.writes g.reads g.writes) (none_pass held_by (conflicts new.attempt new.reads new.writes) hs b g l e))
  where
    other : same_attempt new.attempt g.attempt ≡ false
    other = false_from_ne_true (same_attempt new.attempt g.attempt)
        (λ q. let i : new.attempt ≡ b = same_is new.attempt g.attempt q ∙ found_at held_by hs b g e in
        let x : ◌≡◌ {A = Option LockHolder} None (Some g) = sym n ∙ ap (holder_of hs) i ∙ e in absurd (cc))

    by_cases : (not (same_attempt new.attempt g.attempt) ≡ false) ⊎ (in_the_way new.reads new.writes g.reads g.writes ≡ false) → AreExcluded new g
    by_cases (inl q) = absurd (true≢false (sym (not_from_false (same_attempt new.attempt g.attempt) other) ∙ q))
    by_cases (inr q) = excluded new g q

pub excludes_locks : (locks : Locks) (prepared : List Attempt) (new : LockHolder) → Excludes locks.holders → holder_of locks.holders new.attempt ≡ None → Excludes (taken (after_wounds locks prepared new.attempt new.reads new.writes) new).holders
excludes_locks locks prepared new x n =
    let spared = filter (is_spared prepared new.attempt new.reads new.writes) locks.holders in
    let left : Excludes spared = excludes_kept (is_spared prepared new.attempt new.reads new.writes) locks.holders x in
    let none : holder_of spared new.attempt ≡ None = found_kept held_by (is_spared prepared new.attempt new.reads new.writes) locks.holders new.attempt x.apart ∙ ap (kept (is_spared prepared new.attempt new.reads new.writes)) n in
    cond_both (length (in_way_of (after_wounds locks prepared new.attempt new.reads new.writes) new.attempt new.reads new.writes) == 0)
    (record (after_wounds locks prepared new.attempt new.reads new.writes) { holders = with_holder spared new }) (after_wounds locks prepared new.attempt new.reads new.writes)
    (λ (l : Locks). Excludes l.holders)
    (λ e. excludes_put spared new left none (no_conflict new spared e none)) (λ e. left)
