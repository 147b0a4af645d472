-- The placed calls in the order of their numbers: one after another, no two share a number, and each key ends with the
-- number of its call.
use Rattle.std.proofs.Common.{◌≡◌, ℕ, zero, suc, ◌+◌, ◌-◌, ◌<◌, ◌≤◌, Bool, false, ◌==◌, List, [], ◌∷◌, ◌++◌, Option, Some, None, refl, ap, ◌∙◌, arith, IfSome}
use Rattle.std.specs.List.{AllByRecursion, IsDistinct}
use Rattle.std.proofs.lemmas.Bool.{ne_eqb}
use Rattle.rss_names.specs.declared.service.Key.{Key}
use Rattle.carstamps.specs.declared.carstamp.Carstamp.{Carstamp}
use Rattle.rss_machine.specs.Session.{Session}
use Rattle.rss_machine.specs.declared.session.Session.TheVariants as session
use Rattle.rss_machine.specs.State.{State, owner_at}
use Rattle.rss_machine.specs.Places.{keyed_from, keyed_before, keyed_call, keyed_at, session_key, register_key_of, txn_key_of, stamp_of, time_of, is_read_work, is_absent, commit_of, has_ended}
use Rattle.rss_machine.specs.declared.place.KeyedCall.{KeyedCall}
use Rattle.rss_machine.specs.declared.place.PlaceKey.{PlaceKey}
use Rattle.rss_witness.proofs.Comparing.{last_of}

before_rest : (keyed : Option KeyedCall) (rest : List KeyedCall) → keyed_before keyed rest ≡ keyed_before keyed [] ++ rest
before_rest None rest = refl
before_rest (Some keyed) rest = refl

-- the calls from a number on are its own, if it is placed, and those from the next number on
pub one_more : (s : State) (before calls : ℕ) → before < calls → keyed_from s (before + 1) (calls - before) ≡ keyed_before (keyed_call s (before + 1)) [] ++ keyed_from s (before + 1 + 1) (calls - (before + 1))
one_more s before calls h =
    let e : calls - before ≡ suc (calls - (before + 1)) = omega arith in
    ap (keyed_from s (before + 1)) e ∙ before_rest (keyed_call s (before + 1)) (keyed_from s (before + 1 + 1) (calls - (before + 1)))

-- whether two calls have the same number
abbrev pub same_call : KeyedCall → KeyedCall → Bool
same_call a b = a.call == b.call

-- a key ends with this number
abbrev EndsIn : ℕ → PlaceKey → Type 0
EndsIn n k = last_of k.part ≡ n

-- a key ends with the number of its call
abbrev pub EndsInCall : KeyedCall → Type 0
EndsInCall c = EndsIn c.call c.key

register_ends : (s : State) (n : ℕ) (reads : Bool) (stamped : Option (Key × Carstamp)) → IfSome (register_key_of s n reads stamped) (EndsIn n)
register_ends s n reads None = tt
register_ends s n reads (Some stamped) = refl

txn_ends : (s : State) (n : ℕ) (reads : Bool) (time : Option ℕ) → IfSome (txn_key_of s n reads time) (EndsIn n)
txn_ends s n reads None = tt
txn_ends s n reads (Some time) = refl

session_ends : (s : State) (n : ℕ) (under : Session) → IfSome (session_key s n under) (EndsIn n)
session_ends s n (session.Register r) = register_ends s n (is_read_work r.work) (stamp_of s n)
session_ends s n (session.Transaction t) = txn_ends s n (is_absent (commit_of s t)) (time_of s n)
session_ends s n (session.Snapshot t) = txn_ends s n _ (time_of s n)
session_ends s n session.Idle = tt
session_ends s n (session.Fixing r) = tt
session_ends s n (session.Settling attempt shards) = tt

ends_before : (key : Option PlaceKey) (n : ℕ) (finished : Bool) (rest : List KeyedCall) → IfSome key (EndsIn n) → AllByRecursion EndsInCall rest → AllByRecursion EndsInCall (keyed_before (keyed_at key n finished) rest)
ends_before None n finished rest e h = h
ends_before (Some key) n finished rest e h = (e, h)

pub keys_end : (s : State) (n left : ℕ) → AllByRecursion EndsInCall (keyed_from s n left)
keys_end s n zero = tt
keys_end s n (suc left) =
    ends_before (session_key s n (owner_at s n).session) n (has_ended (owner_at s n).fate) (keyed_from s (n + 1) left)
    (session_ends s n (owner_at s n).session) (keys_end s (n + 1) left)

-- the numbers of these calls rise, from this one on
RisesFrom : ℕ → List KeyedCall → Type 0
RisesFrom n [] = Unit {0}
RisesFrom n (c ∷ cs) = (n ≤ c.call) × RisesFrom (c.call + 1) cs

rises_sooner : (n : ℕ) (cs : List KeyedCall) → RisesFrom (n + 1) cs → RisesFrom n cs
unfolding RisesFrom
rises_sooner n [] h = tt
rises_sooner n (c ∷ cs) h = (omega (arith, h.0), h.1)

rises_before : (key : Option PlaceKey) (n : ℕ) (finished : Bool) (rest : List KeyedCall) → RisesFrom (n + 1) rest → RisesFrom n (keyed_before (keyed_at key n finished) rest)
unfolding RisesFrom
rises_before None n finished rest h = rises_sooner n rest h
rises_before (Some key) n finished rest h = (omega arith, h)

keyed_rise : (s : State) (n left : ℕ) → RisesFrom n (keyed_from s n left)
unfolding RisesFrom
keyed_rise s n zero = tt
keyed_rise s n (suc left) =
    rises_before (session_key s n (owner_at s n).session) n (has_ended (owner_at s n).fate) (keyed_from s (n + 1) left) (keyed_rise s (n + 1) left)

none_same : (a : KeyedCall) (n : ℕ) (cs : List KeyedCall) → a.call < n → RisesFrom n cs → AllByRecursion (λ c. same_call a c ≡ false) cs
unfolding RisesFrom
none_same a n [] h rise = tt
none_same a n (c ∷ cs) h rise = (ne_eqb a.call c.call (λ e. absurd (omega (arith, h, rise.0, e))), none_same a (c.call + 1) cs (omega (arith, h, rise.0)) rise.1)

rise_apart : (n : ℕ) (cs : List KeyedCall) → RisesFrom n cs → IsDistinct same_call cs
unfolding RisesFrom IsDistinct
rise_apart n [] rise = tt
rise_apart n (c ∷ cs) rise = (none_same c (c.call + 1) cs (omega arith) rise.1, rise_apart (c.call + 1) cs rise.1)

-- no two calls share a number
pub calls_apart : (s : State) (n left : ℕ) → IsDistinct same_call (keyed_from s n left)
calls_apart s n left = rise_apart n (keyed_from s n left) (keyed_rise s n left)
