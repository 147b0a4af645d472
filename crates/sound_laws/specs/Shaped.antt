-- What the reader has tested of each statement of a script, by what stands above it in the script and in earlier ones.
use Rattle.std.specs.Prelude.{◌≡◌, ℕ, zero, suc, false, List, [], ◌∷◌, ◌++◌}
use Rattle.pipeline_lang.specs.declared.script.Statement.TheVariants.{Spawn, Wait, Put, Take, Close}
use Rattle.script_binding.specs.declared.environment.Environment.{Environment}
use Rattle.script_binding.specs.Environment.{Bound, depth_after, spawns, waits, closes}
use Rattle.script_binding.specs.Naming.{Naming}
use Rattle.script_binding.specs.Shapes.{is_bad_spawn, is_bad_wait, is_bad_give, is_bad_take, is_bad_close}

-- a statement may do what it does with stages and pipes
abbrev pub Shaped : Naming → Environment → Bound → Type 0
Shaped n env (Spawn s) = is_bad_spawn n env s ≡ false
Shaped n env (Wait s) = is_bad_wait n env s ≡ false
Shaped n env (Put p e) = is_bad_give n env p ≡ false
Shaped n env (Take v p) = is_bad_take n p ≡ false
Shaped n env (Close p) = is_bad_close n env p ≡ false
Shaped n env b = Unit {0}

-- what a statement leaves behind of blocks, stages and pipes
abbrev pub under : Environment → Bound → Environment
under env b = record env {
  depth = depth_after env.depth b;
  spawned = env.spawned ++ spawns b;
  waited = env.waited ++ waits b;
  closed = env.closed ++ closes b;
}

-- so may each of these statements, the first of them in this environment
abbrev pub AreShaped : Naming → Environment → List Bound → Type 0
AreShaped n env [] = Unit {0}
AreShaped n env (b ∷ bs) = Shaped n env b × AreShaped n (under env b) bs

-- the environment before a place
abbrev pub before : Environment → List Bound → ℕ → Environment
before env [] place = env
before env (b ∷ bs) zero = env
before env (b ∷ bs) (suc place) = before (under env b) bs place
