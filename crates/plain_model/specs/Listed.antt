-- Calls in lists.
use Rattle.std.specs.Prelude.{ℕ, suc, ◌||◌, ◌&&◌, ◌==◌, Bool, true, false, not, List, [], ◌∷◌, ◌++◌, length, get_or, nat_lt, if◌then◌else◌}

-- whether a call is in a list
abbrev pub has_call : List ℕ → ℕ → Bool
has_call [] call = false
has_call (c ∷ calls) call = (c == call) || has_call calls call

-- whether no call stands among those above it, or twice in the list
abbrev pub is_distinct_after : List ℕ → List ℕ → Bool
is_distinct_after above [] = true
is_distinct_after above (c ∷ calls) =
    not (has_call above c) && is_distinct_after (above ++ c ∷ []) calls

-- an ascending list with one more call, unless it has it
abbrev pub with_call : List ℕ → ℕ → List ℕ
with_call [] call = call ∷ []
with_call (c ∷ calls) call =
    if nat_lt call c then call ∷ c ∷ calls
    else if c == call then c ∷ calls
    else c ∷ with_call calls call

-- whether a pair is in a list
abbrev pub has_pair : List (ℕ × ℕ) → ℕ → ℕ → Bool
has_pair [] a b = false
has_pair (p ∷ pairs) a b = ((p.0 == a) && (p.1 == b)) || has_pair pairs a b

-- the pairs of one call with each of these of which a test is true
abbrev pub picked_row : (ℕ → ℕ → Bool) → ℕ → List ℕ → List (ℕ × ℕ)
picked_row test a [] = []
picked_row test a (b ∷ calls) =
    if test a b then (a, b) ∷ picked_row test a calls else picked_row test a calls

-- the pairs of one of these calls and one of those of which a test is true
abbrev pub picked : (ℕ → ℕ → Bool) → List ℕ → List ℕ → List (ℕ × ℕ)
picked test [] calls = []
picked test (a ∷ firsts) calls = picked_row test a calls ++ picked test firsts calls

-- how many calls stand above the first one that is not smaller
abbrev pub calls_below : List ℕ → ℕ → ℕ
calls_below [] call = 0
calls_below (c ∷ calls) call = if nat_lt c call then suc (calls_below calls call) else 0

-- whether a call stands at a place of a list
abbrev pub stands_at : List ℕ → ℕ → ℕ → Bool
stands_at calls place call = nat_lt place (length calls) && (get_or calls place 0 == call)
