-- The target of a withhold: a shard's name, or `replica N`, or `replica N of NAME`, with single spaces and N decimal without leading zeros.
use Rattle.std.specs.Prelude.{ℕ, Bool, ◌-◌, ◌&&◌, ◌==◌, not, nat_le, List, [], ◌∷◌, length, take, drop, codes, Option, Some, None, Result, Ok, Err, cond}
use Rattle.std.specs.List.{position}
use Rattle.std.specs.Option.{unwrap_or}
use Rattle.std.specs.Str.{bytes_eq}
use Rattle.rss_names.specs.Names.{is_name}
use Rattle.pipeline_tables.specs.declared.fault.FaultKind.TheVariants.{OverLimit, WrongKind}
use Rattle.pipeline_tables.specs.declared.fault.Place.{Place}
use Rattle.pipeline_tables.specs.declared.fault.FileFault.{FileFault}
use Rattle.pipeline_tables.specs.declared.tables.TargetName.{TargetName}
use Rattle.pipeline_tables.specs.declared.tables.TargetName.TheVariants.{Shard, Replica}
use Rattle.toml.specs.Data.{Members}
use Rattle.pipeline_tables.specs.Faults.{◌>>=◌, fault}
use Rattle.pipeline_tables.specs.Values.{named, text_at}

-- the text behind a word that it begins with
abbrev pub behind : List ℕ → List ℕ → Option (List ℕ)
behind word text = cond (bytes_eq (take (length word) text) word) (Some (drop (length word) text)) None

-- a byte that is no decimal digit
abbrev pub is_no_digit : ℕ → Bool
is_no_digit b = not (nat_le 48 b && nat_le b 57)

-- how many digits stand at the front of a text
unfoldable pub digits_in : List ℕ → ℕ
digits_in text = unwrap_or (position is_no_digit text) (length text)

-- the number of a replica that digits spell: no leading zero, and from 1 to 7
unfoldable pub replica_number : Place → List ℕ → Result ℕ FileFault
replica_number at [] = Err (fault WrongKind at)
replica_number at (d ∷ []) = cond (nat_le 49 d && nat_le d 55) (Ok (d - 48)) (Err (fault OverLimit at))
replica_number at (d ∷ e ∷ ds) = cond (d == 48) (Err (fault WrongKind at)) (Err (fault OverLimit at))

-- the name of a service behind ` of `
abbrev pub service_behind : Place → Option (List ℕ) → Result (Option (List ℕ)) FileFault
service_behind at (Some text) = named at text >>= λ name. Ok (Some name)
service_behind at None = Err (fault WrongKind at)

-- what stands behind the number of a replica: nothing, or a service
unfoldable pub service_in : Place → List ℕ → Result (Option (List ℕ)) FileFault
service_in at [] = Ok None
service_in at (b ∷ bs) = service_behind at (behind (codes " of ") (b ∷ bs))

-- what stands behind `replica `
unfoldable pub replica_in : Place → List ℕ → Result TargetName FileFault
replica_in at text = do
  service ← service_in at (drop (digits_in text) text)
  number ← replica_number at (take (digits_in text) text)
  Ok (Replica number service)

-- a replica's target
abbrev pub replica_behind : Place → Option (List ℕ) → Result TargetName FileFault
replica_behind at (Some text) = replica_in at text
replica_behind at None = Err (fault WrongKind at)

-- what a target is
unfoldable pub target_of : Place → List ℕ → Result TargetName FileFault
target_of at text = cond (is_name text) (Ok (Shard text)) (replica_behind at (behind (codes "replica ") text))

-- the target at a key that must be there
unfoldable pub target_at : Place → Members → Result TargetName FileFault
target_at at members = text_at at members >>= target_of at
