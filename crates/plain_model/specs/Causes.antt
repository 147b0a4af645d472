-- The pairs of potential causality among the calls that a history names.
use Rattle.std.specs.Prelude.{◌≡◌, ℕ, ◌<◌, ◌||◌, ◌&&◌, nat_le, ◌↔◌, ◌⊎◌, Bool, List, [], ◌∷◌, if◌then◌else◌, AllPairs, Contains}
use Rattle.rss_model.specs.declared.op.Shown.{Shown}
use Rattle.rss_model.specs.declared.history.Entry.{Entry}
use Rattle.rss_model.specs.declared.history.Entry.TheVariants.{Begin, End, Give, Get, Over}
use Rattle.rss_model.specs.Causality.{CausallyBefore}
use Rattle.plain_model.specs.Listed.{with_call, has_pair, picked}
use Rattle.plain_model.specs.Messages.{generates}

-- the calls of a list, and the writers that a reply names; writer 0 is no call
abbrev pub with_writers : List ℕ → List Shown → List ℕ
with_writers calls [] = calls
with_writers calls (shown ∷ reply) =
    with_writers (if nat_le 1 shown.writer then with_call calls shown.writer else calls) reply

-- the calls of a list, and those that an entry names
abbrev pub with_named : List ℕ → Entry → List ℕ
with_named calls (Begin call stage op) = with_call calls call
with_named calls (End call reply) = with_writers (with_call calls call) reply
with_named calls (Give stage token) = calls
with_named calls (Get stage token) = calls
with_named calls (Over stage how) = calls

-- the calls of a list, and those that the entries name
abbrev pub with_all_named : List ℕ → List Entry → List ℕ
with_all_named calls [] = calls
with_all_named calls (e ∷ h) = with_all_named (with_named calls e) h

-- whether a pair is known, or follows from two known ones by way of this call
abbrev pub reaches : List (ℕ × ℕ) → ℕ → ℕ → ℕ → Bool
reaches known way a b = has_pair known a b || (has_pair known a way && has_pair known way b)

-- the known pairs, and those that follow by way of these calls, one after the other
abbrev pub closed_over : List ℕ → List (ℕ × ℕ) → List ℕ → List (ℕ × ℕ)
closed_over calls known [] = known
closed_over calls known (way ∷ ways) =
    closed_over calls (picked (reaches known way) calls calls) ways

-- all pairs of potential causality
abbrev pub causes : List Entry → List ℕ → List (ℕ × ℕ)
causes h calls = closed_over calls (picked (generates h) calls calls) calls

-- one pair stands above another in ascending order
abbrev pub IsBelow : ℕ × ℕ → ℕ × ℕ → Type 0
IsBelow p q = (p.0 < q.0) ⊎ ((p.0 ≡ q.0) × (p.1 < q.1))

-- the pairs of potential causality, each once, ascending
pub record IsCausality (h : List Entry) (pairs : List (ℕ × ℕ)) : Type 0 where
  pub ascending : AllPairs IsBelow pairs
  pub exact : (a b : ℕ) → Contains pairs (a, b) ↔ CausallyBefore h a b
