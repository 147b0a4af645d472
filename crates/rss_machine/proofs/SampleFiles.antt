-- The files that worked runs stand on, and short words for what their scripts hold.
use Rattle.std.specs.Prelude.{ℕ, List, [], ◌∷◌, codes}
use Rattle.rss_names.specs.declared.service.Key.{Key}
use Rattle.rss_names.specs.declared.service.ServiceId.TheVariants.{Txn, Reg}
use Rattle.pipeline_lang.specs.declared.config.Body.{Body}
use Rattle.pipeline_lang.specs.declared.config.Config.{Config}
use Rattle.pipeline_lang.specs.declared.config.ServiceDef.{ServiceDef}
use Rattle.pipeline_lang.specs.declared.script.Expr.{Expr}
use Rattle.pipeline_lang.specs.declared.script.Expr.TheVariants.{One}
use Rattle.pipeline_lang.specs.declared.script.Statement.{Statement}
use Rattle.pipeline_lang.specs.declared.script.Statement.TheVariants as statement
use Rattle.pipeline_lang.specs.declared.script.Term.TheVariants.{Number, Variable}

-- registers and keys by their place in the file
abbrev pub first_register : Key
first_register = record { service = Reg 1; index = 0 }

abbrev pub second_register : Key
second_register = record { service = Reg 1; index = 1 }

abbrev pub first_key : Key
first_key = record { service = Txn 1; index = 0 }

abbrev pub second_key : Key
second_key = record { service = Txn 1; index = 1 }

abbrev pub third_key : Key
third_key = record { service = Txn 1; index = 2 }

-- the value that is a number, or that a variable holds
abbrev pub number : ℕ → Expr ℕ
number n = One (Number n)

abbrev pub variable : ℕ → Expr ℕ
variable n = One (Variable n)

-- a stage of this script, whose transactions take at least so long
abbrev pub body : ℕ → List (Statement ℕ Key ℕ ℕ) → Body
body earliest_end script = record { script = script; earliest_end = earliest_end }

-- a transaction service, and a register service of so many replicas
abbrev pub two_services : ℕ → List ServiceDef
two_services replicas =
    record { name = codes "txn"; id = Txn 1; replicas = 0 } ∷ record { name = codes "reg"; id = Reg 1; replicas = replicas } ∷ []

-- a stage a that does nothing, over a transaction service and a register service of three replicas
abbrev pub bare : Config
bare = record {
  tries = 3;
  max_steps = 100000;
  drivers = 1;
  services = two_services 3;
  registers = [];
  register_services = [];
  shards = [];
  shard_services = [];
  keys = [];
  homes = [];
  pipes = [];
  pipe_ends = [];
  stages = codes "a" ∷ [];
  bodies = [];
  withholds = [];
  kills = [];
}

-- a register r
abbrev pub one_register : Config
one_register = record bare {
  registers = codes "r" ∷ [];
  register_services = Reg 1 ∷ [];
}

-- a key x, at one shard
abbrev pub one_key : Config
one_key = record bare {
  shards = codes "s1" ∷ [];
  shard_services = Txn 1 ∷ [];
  keys = codes "x" ∷ [];
  homes = 1 ∷ [];
}

-- keys x and y at one shard and z at another, and three stages
abbrev pub three_keys : Config
three_keys = record bare {
  shards = codes "s1" ∷ codes "s2" ∷ [];
  shard_services = Txn 1 ∷ Txn 1 ∷ [];
  keys = codes "x" ∷ codes "y" ∷ codes "z" ∷ [];
  homes = 1 ∷ 1 ∷ 2 ∷ [];
  stages = codes "a" ∷ codes "b" ∷ codes "c" ∷ [];
}

-- a writes 5 to r and reads it
abbrev pub write_then_read : Config
write_then_read = record one_register {
  bodies = body 2000 (statement.Write first_register (number 5) ∷ statement.Read 1 first_register ∷ []) ∷ [];
}
