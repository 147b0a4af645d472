-- The placed calls of a state with their keys: one of each owner that is placed.
use Rattle.std.proofs.Common.{◌≡◌, ℕ, zero, suc, ◌+◌, ◌-◌, ◌<◌, ◌≤◌, ◌⊎◌, inl, inr, Bool, true, false, List, ◌∷◌, length, All, Option, Some, None, refl, sym, ap, ◌∙◌, subst, arith}
use Rattle.std.specs.Prelude.{Contains}
use Rattle.std.proofs.lemmas.List.Elements.{All-nil, All-cons, All-weaker, All-contains}
use Rattle.rss_names.specs.declared.service.Key.{Key}
use Rattle.carstamps.specs.declared.carstamp.Carstamp.{Carstamp}
use Rattle.std.proofs.lemmas.Bool.{cases_eq}
use Rattle.rss_machine.specs.Places.{key_lt, has_ended, register_key_of, txn_key_of, session_key, keyed_at, keyed_call, keyed_before, keyed_from, keyed_calls, time_of, stamp_of, is_read_work, is_absent, commit_of}
use Rattle.rss_machine.specs.Session.{Session}
use Rattle.rss_machine.specs.State.{State, owner_at}
use Rattle.rss_machine.specs.declared.place.KeyedCall.{KeyedCall}
use Rattle.rss_machine.specs.declared.place.PlaceKey.{PlaceKey}
use Rattle.rss_machine.specs.declared.session.Session.TheVariants as session
use Rattle.world_laws.proofs.Looks.{some_is, none_is_not}
use Rattle.place_laws.proofs.KeyOrder.{key_call, key_total}
use Rattle.place_laws.proofs.SortedKeys.{Compare, AllCompare}

-- the key of a call names it
register_names : (s : State) (n : ℕ) (reads : Bool) (stamped : Option (Key × Carstamp)) (k : PlaceKey) → register_key_of s n reads stamped ≡ Some k → key_call k ≡ n
register_names s n reads None k e = absurd (none_is_not k e)
register_names s n reads (Some stamped) k e = sym (ap key_call (some_is _ k e))

txn_names : (s : State) (n : ℕ) (reads : Bool) (time : Option ℕ) (k : PlaceKey) → txn_key_of s n reads time ≡ Some k → key_call k ≡ n
txn_names s n reads None k e = absurd (none_is_not k e)
txn_names s n reads (Some time) k e = sym (ap key_call (some_is _ k e))

session_names : (s : State) (n : ℕ) (x : Session) (k : PlaceKey) → session_key s n x ≡ Some k → key_call k ≡ n
session_names s n (session.Register r) k e = register_names s n (is_read_work r.work) (stamp_of s n) k e
session_names s n (session.Transaction t) k e = txn_names s n (is_absent (commit_of s t)) (time_of s n) k e
session_names s n (session.Snapshot t) k e = txn_names s n true (time_of s n) k e
session_names s n session.Idle k e = absurd (none_is_not k e)
session_names s n (session.Fixing r) k e = absurd (none_is_not k e)
session_names s n (session.Settling attempt shards) k e = absurd (none_is_not k e)

-- what a keyed call is
pub record IsKeyed (s : State) (n : ℕ) (k : KeyedCall) : Type 0 where
  pub is_call : k.call ≡ n
  pub is_key : session_key s n (owner_at s n).session ≡ Some k.key
  pub names : key_call k.key ≡ n

pub keyed_is : (s : State) (n : ℕ) (k : KeyedCall) → keyed_call s n ≡ Some k → IsKeyed s n k
keyed_is s n k e = by_key (session_key s n (owner_at s n).session) refl (has_ended (owner_at s n).fate) e
  where
    by_key : (x : Option PlaceKey) → session_key s n (owner_at s n).session ≡ x → (f : Bool) → keyed_at x n f ≡ Some k → IsKeyed s n k
    by_key None y f g = absurd (none_is_not k g)
    by_key (Some key) y f g =
        let h = some_is _ k g in
        let same : key ≡ k.key = ap (λ (x : KeyedCall). x.key) h in
        record { is_call = sym (ap (λ (x : KeyedCall). x.call) h); is_key = y ∙ ap Some same; names = sym (ap key_call same) ∙ session_names s n (owner_at s n).session key y }

-- the keyed calls from a number on
pub record IsAmong (s : State) (from left : ℕ) (k : KeyedCall) : Type 0 where
  pub first : from ≤ k.call
  pub last : k.call < from + left
  pub keyed : keyed_call s k.call ≡ Some k

among_more : (s : State) (from left : ℕ) (k : KeyedCall) → IsAmong s (from + 1) left k → IsAmong s from (suc left) k
among_more s from left k h = record { first = let a = h.first in omega (arith, a); last = let a = h.last in omega (arith, a); keyed = h.keyed }

among_here : (s : State) (from left : ℕ) (k : KeyedCall) → keyed_call s from ≡ Some k → IsAmong s from (suc left) k
among_here s from left k e =
    let same = (keyed_is s from k e).is_call in
    record { first = omega (arith, same); last = omega (arith, same); keyed = ap (keyed_call s) same ∙ e }

pub all_among : (s : State) (from left : ℕ) → All (IsAmong s from left) (keyed_from s from left)
all_among s from zero = All-nil (IsAmong s from 0)
all_among s from (suc left) = by_key (keyed_call s from) refl (All-weaker (IsAmong s (from + 1) left) (IsAmong s from (suc left)) (among_more s from left) _ (all_among s (from + 1) left))
  where
    by_key : (x : Option KeyedCall) → keyed_call s from ≡ x → All (IsAmong s from (suc left)) (keyed_from s (from + 1) left) → All (IsAmong s from (suc left)) (keyed_before x (keyed_from s (from + 1) left))
    by_key None e h = h
    by_key (Some k) e h = All-cons (IsAmong s from (suc left)) k _ (among_here s from left k e) h

-- two of them compare
names_of : (s : State) (from left : ℕ) (k : KeyedCall) → IsAmong s from left k → key_call k.key ≡ k.call
names_of s from left k h = (keyed_is s k.call k h.keyed).names

compare : (s : State) (from left : ℕ) (k x : KeyedCall) → k.call ≡ from → key_call k.key ≡ from → IsAmong s (from + 1) left x → Compare k x
compare s from left k x e f h = by_test (key_lt k.key x.key) refl
  where
    apart : key_call k.key ≡ key_call x.key → ⊥
    apart g = let a = names_of s (from + 1) left x h in let b = h.first in omega (arith, e, f, g, a, b)

    by_test : (b : Bool) → key_lt k.key x.key ≡ b → Compare k x
    by_test true g = inl g
    by_test false g = inr (key_total k.key x.key apart g)

pub all_compare : (s : State) (from left : ℕ) → AllCompare (keyed_from s from left)
all_compare s from zero = tt
all_compare s from (suc left) = by_key (keyed_call s from) refl (all_compare s (from + 1) left)
  where
    by_key : (x : Option KeyedCall) → keyed_call s from ≡ x → AllCompare (keyed_from s (from + 1) left) → AllCompare (keyed_before x (keyed_from s (from + 1) left))
    by_key None e h = h
    by_key (Some k) e h =
        let d = keyed_is s from k e in
        (All-weaker (IsAmong s (from + 1) left) (Compare k) (λ x a. compare s from left k x d.is_call d.names a) _ (all_among s (from + 1) left), h)

-- each owner that is placed is among them
contains_here : (k : KeyedCall) (ks : List KeyedCall) → Contains (k ∷ ks) k
contains_here k ks = (0, omega arith, refl)

contains_later : (k x : KeyedCall) (ks : List KeyedCall) → Contains ks k → Contains (x ∷ ks) k
contains_later k x ks (i, l, e) = (suc i, omega (arith, l), e)

pub placed_among : (s : State) (n : ℕ) (k : KeyedCall) → keyed_call s n ≡ Some k → (from left : ℕ) → from ≤ n → n < from + left → Contains (keyed_from s from left) k
placed_among s n k e from zero a b = absurd (omega (arith, a, b))
placed_among s n k e from (suc left) a b = by_place (cases_eq from n) (λ l. placed_among s n k e (from + 1) left l (omega (arith, b)))
  where
    here : from ≡ n → (x : Option KeyedCall) → keyed_call s from ≡ x → Contains (keyed_before x (keyed_from s (from + 1) left)) k
    here f None g = absurd (none_is_not k (sym g ∙ (ap (keyed_call s) f ∙ e)))
    here f (Some y) g = subst (λ (z : KeyedCall). Contains (y ∷ keyed_from s (from + 1) left) z) (some_is y k (sym g ∙ (ap (keyed_call s) f ∙ e))) (contains_here y (keyed_from s (from + 1) left))

    later : (x : Option KeyedCall) → Contains (keyed_from s (from + 1) left) k → Contains (keyed_before x (keyed_from s (from + 1) left)) k
    later None h = h
    later (Some y) h = contains_later k y (keyed_from s (from + 1) left) h

    by_place : (from ≡ n) ⊎ (from ≡ n → ⊥) → (from + 1 ≤ n → Contains (keyed_from s (from + 1) left) k) → Contains (keyed_before (keyed_call s from) (keyed_from s (from + 1) left)) k
    by_place (inl f) ih = here f (keyed_call s from) refl
    by_place (inr f) ih = later (keyed_call s from) (ih (grind (arith, a, f)))

-- a keyed call of a state, and its one owner
pub keyed_of : (s : State) (k : KeyedCall) → Contains (keyed_calls s) k → IsAmong s 1 (length s.owners - 1) k
keyed_of s k m = All-contains (IsAmong s 1 (length s.owners - 1)) (keyed_calls s) k (all_among s 1 (length s.owners - 1)) m

pub one_each : (s : State) (x y : KeyedCall) → Contains (keyed_calls s) x → Contains (keyed_calls s) y → x.call ≡ y.call → x ≡ y
one_each s x y m n e = some_is x y (sym (keyed_of s x m).keyed ∙ (ap (keyed_call s) e ∙ (keyed_of s y n).keyed))

pub is_contained : (s : State) (n : ℕ) (k : KeyedCall) → 0 < n → n < length s.owners → keyed_call s n ≡ Some k → Contains (keyed_calls s) k
is_contained s n k a b e = placed_among s n k e 1 (length s.owners - 1) (omega (arith, a)) (omega (arith, a, b))
