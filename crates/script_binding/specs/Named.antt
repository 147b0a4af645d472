-- what a script with numbers names is there
use Rattle.std.specs.Prelude.{◌≡◌, ℕ, ◌≤◌, ◌<◌, List, [], ◌∷◌, length, Ok}
use Rattle.rss_names.specs.declared.service.Key.{Key}
use Rattle.pipeline_lang.specs.declared.script.Expr.{Expr}
use Rattle.pipeline_lang.specs.declared.script.Statement.TheVariants.{Read, Write, Snap, Txn, Spawn, Wait, Put, Take, Close}
use Rattle.script_binding.specs.Environment.{Bound}
use Rattle.pipeline_lang.specs.Statements.{Raw}
use Rattle.script_binding.specs.Naming.{Naming, register_at, key_at}
use Rattle.script_binding.specs.Outcome.{outcome}

-- a register of the file, with its service
pub record IsRegister (n : Naming) (k : Key) : Type 0 where
  pub there : k.index < length n.registers
  pub same : k ≡ register_at n k.index

-- a key of the file, with the service of its shard
pub record IsKey (n : Naming) (k : Key) : Type 0 where
  pub there : k.index < length n.keys
  pub same : k ≡ key_at n k.index

-- the number of a thing in a table, counted from 1
pub record IsNumber (table : List (List ℕ)) (number : ℕ) : Type 0 where
  pub least : 1 ≤ number
  pub most : number ≤ length table

-- the keys of these pairs are there
abbrev pub ArePairs : Naming → List (ℕ × Key) → Type 0
ArePairs n [] = Unit {0}
ArePairs n (p ∷ ps) = IsKey n p.1 × ArePairs n ps

-- the keys of these writes are there
abbrev pub AreWrites : Naming → List (Key × Expr ℕ) → Type 0
AreWrites n [] = Unit {0}
AreWrites n (w ∷ ws) = IsKey n w.0 × AreWrites n ws

-- each register, key, stage and pipe that a statement names is there
abbrev pub IsNamed : Naming → Bound → Type 0
IsNamed n (Read v r) = IsRegister n r
IsNamed n (Write r e) = IsRegister n r
IsNamed n (Snap pairs) = ArePairs n pairs
IsNamed n (Txn pairs guard writes) = ArePairs n pairs × AreWrites n writes
IsNamed n (Spawn s) = IsNumber n.stages s
IsNamed n (Wait s) = IsNumber n.stages s
IsNamed n (Put p e) = IsNumber n.pipes p
IsNamed n (Take v p) = IsNumber n.pipes p
IsNamed n (Close p) = IsNumber n.pipes p
IsNamed n s = Unit {0}

-- the same of each statement
abbrev pub AreNamed : Naming → List Bound → Type 0
AreNamed n [] = Unit {0}
AreNamed n (b ∷ bs) = IsNamed n b × AreNamed n bs

-- what a script without a fault names is there
abbrev pub BoundScriptsAreNamed : Type 0
BoundScriptsAreNamed = (n : Naming) (raw : List Raw) (script : List Bound) → outcome n raw ≡ Ok script → AreNamed n script
