use Rattle.std.specs.Prelude.{ℕ, Bool}
use Rattle.std.specs.Option.{unwrap_or}
use Rattle.std.specs.HashMap.{HashMap, get}
use Rattle.rss_names.specs.declared.service.ServiceId.{ServiceId}
use Rattle.rss_names.specs.declared.service.ServiceId.TheVariants.{Txn, Reg}
use Rattle.rss_names.specs.declared.service.Target.{Target}
use Rattle.rss_names.specs.declared.service.Target.TheVariants.{Shard, Replica}
use Rattle.rss_wire.specs.declared.ordinals.Line.{Line}
use Rattle.rss_wire.specs.contracts.ordinals.LinePartialEq.TheImpl as line_eq

-- a stage and a shard as numbers
abbrev pub shard_line : ℕ → ℕ → Line
shard_line stage n = record { stage = stage; kind = 0; service = 0; number = n }

-- a stage and a replica as numbers
abbrev pub replica_line : ℕ → ℕ → ServiceId → Line
replica_line stage n (Txn s) = record { stage = stage; kind = 1; service = s; number = n }
replica_line stage n (Reg s) = record { stage = stage; kind = 2; service = s; number = n }

-- a stage and a target as numbers
unfoldable pub line_between : ℕ → Target → Line
line_between stage (Shard n) = shard_line stage n
line_between stage (Replica s n) = replica_line stage n s

-- whether two lines are the same
abbrev pub same_line : Line → Line → Bool
same_line = (line_eq.ghosts).eq

-- how many requests a table has counted on a line
abbrev pub counted : {S : Type 0} → HashMap Line ℕ S → Line → ℕ
counted counts line = unwrap_or (get same_line counts line) 0
