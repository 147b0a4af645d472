-- samples: what comes of small scripts
use Rattle.std.specs.Prelude.{◌≡◌, ℕ, List, [], ◌∷◌, Some, Result, Ok, Err, codes, refl}
use Rattle.rss_names.specs.declared.service.ServiceId.TheVariants as service
use Rattle.rss_names.specs.declared.service.Key.{Key}
use Rattle.pipeline_lang.specs.declared.script.Term.TheVariants.{Number, Variable}
use Rattle.pipeline_lang.specs.declared.script.Expr.{Expr}
use Rattle.pipeline_lang.specs.declared.script.Expr.TheVariants.{One, Plus}
use Rattle.pipeline_lang.specs.declared.script.Compare.TheVariants.{Less}
use Rattle.pipeline_lang.specs.declared.script.Statement.TheVariants.{Let, Read, Write, Snap, Txn, Spawn, Wait, Put, Take, Close, Repeat, End}
use Rattle.script_binding.specs.declared.fault.ScriptFaultKind.{ScriptFaultKind}
use Rattle.script_binding.specs.declared.fault.ScriptFaultKind.TheVariants.{OverLimit, UnknownName, ServiceShape, DoubleName, SpawnShape, PipeShape}
use Rattle.script_binding.specs.declared.fault.ScriptFault.{ScriptFault}
use Rattle.script_binding.specs.declared.mention.Role.TheVariants as role
use Rattle.pipeline_lang.specs.Counts.{executed}
use Rattle.script_binding.specs.Counts.{called}
use Rattle.script_binding.specs.Environment.{Bound}
use Rattle.script_binding.specs.Mentions.{mention, mentions}
use Rattle.script_binding.specs.Naming.{Naming}
use Rattle.script_binding.specs.Numbering.{bound}
use Rattle.script_binding.specs.Outcome.{outcome}

-- names: keys x and z, a register r, variables v and w
abbrev pub x : List ℕ
x = codes "x"

abbrev pub z : List ℕ
z = codes "z"

abbrev pub r : List ℕ
r = codes "r"

abbrev pub v : List ℕ
v = codes "v"

abbrev pub w : List ℕ
w = codes "w"

-- the expression `5`
abbrev pub five : Expr (List ℕ)
five = One (Number 5)

-- stage a of a file with the register r, the keys x and y of one service and z of another, the stages
-- a and b, a pipe p from a to b and a pipe q from b to a
abbrev pub of_a : Naming
of_a = record {
  registers = r ∷ [];
  register_services = service.Reg 1 ∷ [];
  keys = x ∷ codes "y" ∷ z ∷ [];
  homes = 1 ∷ 1 ∷ 2 ∷ [];
  shard_services = service.Txn 1 ∷ service.Txn 2 ∷ [];
  stages = codes "a" ∷ codes "b" ∷ [];
  pipes = codes "p" ∷ codes "q" ∷ [];
  pipe_ends = record { giver = 1; taker = 2; capacity = 1 } ∷ record { giver = 2; taker = 1; capacity = 1 } ∷ [];
  stage = 1;
  spawned = [];
}

-- the register r
abbrev pub register : Key
register = record { service = service.Reg 1; index = 0 }

-- a fault
abbrev pub fault : ScriptFaultKind → ℕ → ℕ → Result (List Bound) ScriptFault
fault kind statement token = Err (record { kind = kind; statement = statement; token = token })

-- `write r 5`, `read v r`
written_and_read : outcome of_a (Write r five ∷ Read v r ∷ []) ≡ Ok (Write register (One (Number 5)) ∷ Read 1 register ∷ [])
unfolding mentions bound
written_and_read = refl

-- `read v q`: no register q
unknown_register : outcome of_a (Read v (codes "q") ∷ []) ≡ fault UnknownName 1 2
unfolding mentions bound
unknown_register = refl

-- five times `repeat 2`
fifth_block : outcome of_a (Repeat 2 ∷ Repeat 2 ∷ Repeat 2 ∷ Repeat 2 ∷ Repeat 2 ∷ []) ≡ fault OverLimit 5 0
unfolding mentions bound
fifth_block = refl

-- `repeat 1001`, `end`
too_many_turns : outcome of_a (Repeat 1001 ∷ End ∷ []) ≡ fault OverLimit 1 1
unfolding mentions bound
too_many_turns = refl

-- `snap v x, w z`
two_services : outcome of_a (Snap ((v, x) ∷ (w, z) ∷ []) ∷ []) ≡ fault ServiceShape 1 5
unfolding mentions bound
two_services = refl

-- `snap v x, w x`
key_twice : outcome of_a (Snap ((v, x) ∷ (w, x) ∷ []) ∷ []) ≡ fault DoubleName 1 5
unfolding mentions bound
key_twice = refl

-- a variable and a key of one name are two
variable_named_as_key : outcome of_a (Snap ((x, x) ∷ []) ∷ []) ≡ Ok (Snap ((1, record { service = service.Txn 1; index = 0 }) ∷ []) ∷ [])
unfolding mentions bound
variable_named_as_key = refl

-- `wait b`
not_spawned : outcome of_a (Wait (codes "b") ∷ []) ≡ fault SpawnShape 1 1
unfolding mentions bound
not_spawned = refl

-- `spawn b`, `spawn b`
spawned_twice : outcome of_a (Spawn (codes "b") ∷ Spawn (codes "b") ∷ []) ≡ fault SpawnShape 2 1
unfolding mentions bound
spawned_twice = refl

-- `take v p`, where b takes from p
not_the_taker : outcome of_a (Take v (codes "p") ∷ []) ≡ fault PipeShape 1 2
unfolding mentions bound
not_the_taker = refl

-- `close p`, `put p 5`
put_behind_close : outcome of_a (Close (codes "p") ∷ Put (codes "p") five ∷ []) ≡ fault PipeShape 2 1
unfolding mentions bound
put_behind_close = refl

-- `txn v x when w < v : z = v + r`
tokens_of_txn :
    mentions (Txn ((v, x) ∷ []) (Some (Less (One (Variable w)) (One (Variable v)))) ((z, Plus (Variable v) (Variable r)) ∷ []))
    ≡ mention role.Variable 1 v ∷ mention role.Key 2 x ∷ mention role.Variable 4 w ∷ mention role.Variable 6 v
    ∷ mention role.Key 8 z ∷ mention role.Variable 10 v ∷ mention role.Variable 12 r ∷ []
unfolding mentions
tokens_of_txn = refl

-- three repeats of 1000 within one another: what stands inside is executed 10^9 times, its `end` too
nested_repeats : executed (Repeat 1000 ∷ Repeat 1000 ∷ Repeat 1000 ∷ Let 1 (One (Number 1)) ∷ End ∷ End ∷ End ∷ []) ≡ 2002002001
nested_repeats = refl

-- a write within a repeat of 3
calls_in_repeat : called (Repeat 3 ∷ Write register (One (Number 5)) ∷ End ∷ Write register (One (Number 5)) ∷ []) ≡ 4
calls_in_repeat = refl
