-- What every file that is read keeps, in one record.
use Rattle.std.specs.Prelude.{◌≡◌, ℕ, ◌<◌, ◌≤◌, ⊤, false, List, ◌++◌, length, map, AllPairs}
use Rattle.std.specs.List.{All}
use Rattle.rss_names.specs.declared.service.Key.{Key}
use Rattle.rss_names.specs.declared.service.ServiceId.{ServiceId}
use Rattle.rss_names.specs.declared.service.ServiceId.TheVariants.{Txn, Reg}
use Rattle.rss_names.specs.Services.{same_key}
use Rattle.pipeline_lang.specs.Config.{body_of, ends_of, replicas_of, script_of, statement_at}
use Rattle.pipeline_lang.specs.declared.config.Config.{Config}
use Rattle.pipeline_lang.specs.declared.script.Expr.{Expr}
use Rattle.pipeline_lang.specs.declared.script.Statement.{Statement}
use Rattle.pipeline_lang.specs.declared.script.Statement.TheVariants as statement
use Rattle.world_laws.specs.Apart.{SpawnsApart, PipesApart}
use Rattle.world_laws.specs.Depth.{depth_at}
use Rattle.world_laws.specs.InOrder.{IsInOrder}
use Rattle.world_laws.specs.NamedKeys.{NamesKeys}
use Rattle.world_laws.specs.Targets.{GivesPlaces}

-- keys that are all of one transaction service, numbered from 1 to 8
pub record AreOfOne (keys : List Key) : Type 0 where
  pub number : ℕ
  pub first : 1 ≤ number
  pub last : number ≤ 8
  pub all : All (λ (key : Key). key.service ≡ Txn number) keys

-- two keys differ
abbrev pub Differ : Key → Key → Type 0
Differ a b = same_key a b ≡ false

-- a snapshot reads eight keys at most, each once
pub record KeepsSnapshot (pairs : List (ℕ × Key)) : Type 0 where
  pub of_one : AreOfOne (map (λ (pair : ℕ × Key). pair.1) pairs)
  pub few : length pairs ≤ 8
  pub once : AllPairs Differ (map (λ (pair : ℕ × Key). pair.1) pairs)

-- a transaction reads eight keys at most, each once, and writes one at least and eight at most, each once
pub record KeepsTransaction (pairs : List (ℕ × Key)) (writes : List (Key × Expr ℕ)) : Type 0 where
  pub of_one : AreOfOne (map (λ (pair : ℕ × Key). pair.1) pairs ++ map (λ (write : Key × Expr ℕ). write.0) writes)
  pub few_read : length pairs ≤ 8
  pub some_written : 1 ≤ length writes
  pub few_written : length writes ≤ 8
  pub read_once : AllPairs Differ (map (λ (pair : ℕ × Key). pair.1) pairs)
  pub written_once : AllPairs Differ (map (λ (write : Key × Expr ℕ). write.0) writes)

-- what a statement keeps that calls a transaction service
abbrev pub KeepsService : Statement ℕ Key ℕ ℕ → Type 0
KeepsService (statement.Snap pairs) = KeepsSnapshot pairs
KeepsService (statement.Txn pairs guard writes) = KeepsTransaction pairs writes
KeepsService (statement.Read variable key) = ⊤
KeepsService (statement.Write key value) = ⊤
KeepsService (statement.Let variable value) = ⊤
KeepsService (statement.Spawn child) = ⊤
KeepsService (statement.Wait child) = ⊤
KeepsService (statement.Put p value) = ⊤
KeepsService (statement.Take variable p) = ⊤
KeepsService (statement.Close p) = ⊤
KeepsService statement.Fence = ⊤
KeepsService (statement.Repeat times) = ⊤
KeepsService (statement.When test) = ⊤
KeepsService statement.End = ⊤
KeepsService statement.Exit = ⊤

-- each snapshot and each transaction of a file is of one transaction service
pub record KeepsServices (c : Config) : Type 0 where
  pub statements : (n place : ℕ) → KeepsService (statement_at c n place)

-- the limits of a file. Stages, shards and pipes are numbered from 1; a chunk has room in each pipe
pub record IsWithin (c : Config) : Type 0 where
  pub places : GivesPlaces c
  pub steps : c.max_steps ≤ 200000
  pub stages : length c.bodies ≤ 16
  pub shards : length c.shard_services ≤ 16
  pub keys : length c.homes ≤ 1024
  pub registers : length c.registers ≤ 64
  pub listed : length c.register_services ≡ length c.registers
  pub pipes : length c.pipe_ends ≤ 16
  pub takers : (p : ℕ) → (ends_of c p).taker ≤ length c.bodies
  pub capacities : (p : ℕ) → (ends_of c p).capacity ≤ 64
  pub scripts : (n : ℕ) → length (script_of c n) ≤ 256
  pub nesting : (n place : ℕ) → depth_at (script_of c n) place ≤ 4
  pub repeats : (n place times : ℕ) → statement_at c n place ≡ statement.Repeat times → (1 ≤ times) × (times ≤ 1000)
  pub margins : (n : ℕ) → (body_of c n).earliest_end ≤ 1000000

-- what every file that is read keeps
pub record IsSoundFile (c : Config) : Type 0 where
  pub in_order : IsInOrder c
  pub keys : NamesKeys c
  pub services : KeepsServices c
  pub spawns : SpawnsApart c
  pub pipes : PipesApart c
  pub within : IsWithin c
