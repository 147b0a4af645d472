-- At most four blocks are open at a place of a script within the limits, and what it repeats it repeats 1 to 1000 times.
use Rattle.std.proofs.Common.{◌≡◌, ℕ, zero, suc, ◌+◌, ◌≤◌, List, [], ◌∷◌, length, get_or, Ok, refl, ap, sym, subst, arith}
use Rattle.pipeline_lang.specs.declared.script.Statement.TheVariants as statement
use Rattle.script_binding.specs.Environment.{Bound, depth_after}
use Rattle.script_binding.specs.Limited.{IsLimited, AreLimited, HasLimits}
use Rattle.world_laws.specs.Depth.{depth_from, depth_at}
use Rattle.sound_laws.proofs.Above.{same_depth}

deeper : (depth : ℕ) (b : Bound) → depth ≤ 4 → IsLimited depth b → depth_after depth b ≤ 4
deeper depth (statement.Let v e) l h = l
deeper depth (statement.Read v r) l h = l
deeper depth (statement.Write r e) l h = l
deeper depth (statement.Snap pairs) l h = l
deeper depth (statement.Txn pairs guard writes) l h = l
deeper depth (statement.Spawn s) l h = l
deeper depth (statement.Wait s) l h = l
deeper depth (statement.Put p e) l h = l
deeper depth (statement.Take v p) l h = l
deeper depth (statement.Close p) l h = l
deeper depth statement.Fence l h = l
deeper depth (statement.Repeat turns) l h = let k = h.0 in omega (arith, k)
deeper depth (statement.When test) l h = let k = h.0 in omega (arith, k)
deeper depth statement.End l h = omega (arith, l)
deeper depth statement.Exit l h = l

depth_few : (depth : ℕ) (script : List Bound) (place : ℕ) → depth ≤ 4 → AreLimited depth script → depth_from depth script place ≤ 4
depth_few depth [] zero l h = l
depth_few depth [] (suc place) l h = l
depth_few depth (b ∷ bs) zero l h = l
depth_few depth (b ∷ bs) (suc place) l h = subst (λ (d : ℕ). depth_from d bs place ≤ 4) (same_depth depth b) (depth_few (depth_after depth b) bs place (deeper depth b l h.0) h.1)

abbrev Turns : Bound → Type 0
Turns b = (times : ℕ) → b ≡ statement.Repeat times → (1 ≤ times) × (times ≤ 1000)

exit_not : (times : ℕ) → ◌≡◌ {A = Bound} statement.Exit (statement.Repeat times) → ⊥
exit_not times e = cc

turns_few : (depth : ℕ) (script : List Bound) (place : ℕ) → AreLimited depth script → Turns (get_or script place statement.Exit)
turns_few depth [] zero h times e = absurd (exit_not times e)
turns_few depth [] (suc place) h times e = absurd (exit_not times e)
turns_few depth (b ∷ bs) zero h times e = let k = subst (IsLimited depth) e h.0 in (k.1, k.2)
turns_few depth (b ∷ bs) (suc place) h times e = turns_few (depth_after depth b) bs place h.1 times e

-- so of a script within the limits
pub record IsSmall (script : List Bound) : Type 0 where
  pub few : length script ≤ 256
  pub nesting : (place : ℕ) → depth_at script place ≤ 4
  pub repeats : (place times : ℕ) → get_or script place statement.Exit ≡ statement.Repeat times → (1 ≤ times) × (times ≤ 1000)

pub is_small : (script : List Bound) → HasLimits script → IsSmall script
is_small script h = record {
  few = h.few;
  nesting = λ place. depth_few 0 script place (omega arith) h.each;
  repeats = λ place times e. turns_few 0 script place h.each times e;
}

pub none_small : IsSmall []
none_small = is_small [] (record { few = omega arith; each = tt })
