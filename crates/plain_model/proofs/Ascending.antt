-- Where a call stands in an ascending list.
use Rattle.std.proofs.Common.{◌≡◌, ℕ, List, [], ◌∷◌, ◌++◌, take, drop, Bool, true, false, refl, arith}
use Rattle.std.specs.Prelude.{nat_lt, if◌then◌else◌}
use Rattle.std.proofs.lemmas.Grind.{common_steps}
use Rattle.std.proofs.lemmas.Bool.Decides.{nat_tests}
use Rattle.plain_model.specs.Listed.{with_call, calls_below, stands_at}

-- a list with a call put at a place
abbrev put : List ℕ → ℕ → ℕ → List ℕ
put calls place call = take place calls ++ call ∷ drop place calls

-- a call is in a list at the place of the first one that is not smaller, or is put there
abbrev Placed : List ℕ → ℕ → Type 0
Placed calls call =
    with_call calls call ≡
    (if stands_at calls (calls_below calls call) call then calls
    else put calls (calls_below calls call) call)

below : (c : ℕ) (calls : List ℕ) (call : ℕ) → nat_lt c call ≡ true → Placed calls call →
    Placed (c ∷ calls) call
below c calls call e h = by_place (stands_at calls (calls_below calls call) call) refl
  where
    by_place : (b : Bool) → stands_at calls (calls_below calls call) call ≡ b → Placed (c ∷ calls) call
    by_place true f = grind (arith, nat_tests, common_steps, e, f, h)
    by_place false f = grind (arith, nat_tests, common_steps, e, f, h)

not_below : (c : ℕ) (calls : List ℕ) (call : ℕ) → nat_lt c call ≡ false → Placed (c ∷ calls) call
not_below c calls call e = grind (arith, nat_tests, common_steps, e)

pub with_call-place : (calls : List ℕ) (call : ℕ) → Placed calls call
with_call-place [] call = refl
with_call-place (c ∷ calls) call = by_order (nat_lt c call) refl (with_call-place calls call)
  where
    by_order : (b : Bool) → nat_lt c call ≡ b → Placed calls call → Placed (c ∷ calls) call
    by_order true e h = below c calls call e h
    by_order false e h = not_below c calls call e

pub ruleset placed = (with_call-place)
