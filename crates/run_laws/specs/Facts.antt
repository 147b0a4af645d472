-- What every run of a sound file keeps, in one record, for the code of its steps.
use Rattle.std.specs.Prelude.{◌≡◌, ℕ, ◌<◌, ◌≤◌, ⊤, Bool, true, false, List, ◌++◌, length, get_or, map, AllPairs, Some}
use Rattle.std.specs.List.{All}
use Rattle.truetime.specs.Reading.{IsReading}
use Rattle.rss_names.specs.declared.attempt.Attempt.{Attempt}
use Rattle.rss_names.specs.declared.service.Key.{Key}
use Rattle.pipeline_lang.specs.Config.{script_of}
use Rattle.pipeline_lang.specs.declared.config.Config.{Config}
use Rattle.pipeline_lang.specs.declared.script.Expr.{Expr}
use Rattle.pipeline_lang.specs.declared.script.Statement.{Statement}
use Rattle.pipeline_lang.specs.declared.script.Statement.TheVariants as statement
use Rattle.rss_model.specs.declared.op.Op.{Op}
use Rattle.rss_model.specs.declared.op.Op.TheVariants as op
use Rattle.rss_wire.specs.declared.messages.Holder.{Holder}
use Rattle.rss_tables.specs.Lines.{Line, no_line, asleep_on}
use Rattle.rss_tables.specs.RegisterSession.{RegSession}
use Rattle.rss_tables.specs.SnapshotSession.{SnapSession}
use Rattle.rss_tables.specs.TransactionSession.{TxnSession}
use Rattle.rss_machine.specs.Enabling.{next_statement}
use Rattle.rss_machine.specs.Run.{run, readings_of}
use Rattle.rss_machine.specs.Standing.{is_live}
use Rattle.rss_machine.specs.State.{State, stage_at, owner_at}
use Rattle.rss_machine.specs.declared.session.OwnerKind.TheVariants as kind
use Rattle.rss_machine.specs.declared.session.Session.TheVariants as session
use Rattle.rss_machine.specs.declared.step.Step.{Step}
use Rattle.seen_laws.specs.Laws.{HasForm, HaveForm}
use Rattle.target_laws.specs.InFile.{TargetsIn}
use Rattle.token_laws.specs.Depth.{CursorFits}
use Rattle.world_laws.specs.Exchanges.{Exchanges}
use Rattle.world_laws.specs.Numbered.{are_numbered}
use Rattle.world_laws.specs.Ready.{IsReady}
use Rattle.world_laws.specs.Shapes.{AreOfOne, Differ, IsSoundFile}
use Rattle.size_laws.specs.Callers.{AllCalls}

-- the cursor of a stage that lives fits the blocks that are open where it stands
abbrev pub CursorsFit : Config → State → Type 0
CursorsFit c s = (n : ℕ) → 0 < n → is_live (stage_at s n).life ≡ true → CursorFits (script_of c n) (stage_at s n).cursor

-- a stage whose fence statement is under way stands at one
abbrev pub FencesStand : Config → State → Type 0
FencesStand c s = (n o : ℕ) → 0 < n → (stage_at s n).owner ≡ Some o → (owner_at s o).kind ≡ kind.Fencing → next_statement c s n ≡ statement.Fence

-- whether a statement opens a block
abbrev pub is_opening : Statement ℕ Key ℕ ℕ → Bool
is_opening (statement.Repeat times) = true
is_opening (statement.When test) = true
is_opening (statement.Let variable value) = false
is_opening (statement.Read variable key) = false
is_opening (statement.Write key value) = false
is_opening (statement.Snap pairs) = false
is_opening (statement.Txn pairs guard writes) = false
is_opening (statement.Spawn child) = false
is_opening (statement.Wait child) = false
is_opening (statement.Put p value) = false
is_opening (statement.Take variable p) = false
is_opening (statement.Close p) = false
is_opening statement.Fence = false
is_opening statement.End = false
is_opening statement.Exit = false

-- a stage that lives can open the block that comes next: four may be open
abbrev pub BlocksFew : Config → State → Type 0
BlocksFew c s = (n : ℕ) → 0 < n → is_live (stage_at s n).life ≡ true → is_opening (next_statement c s n) ≡ true → length (stage_at s n).cursor.blocks < 4

-- whom a line sleeps for: a call, at a shard that is there
pub record IsThere (s : State) (h : Holder) : Type 0 where
  pub first : 1 ≤ h.coordinator
  pub last : h.coordinator ≤ length s.shards
  pub call : 1 ≤ h.attempt.call

abbrev pub SleepFor : State → List Line → Type 0
SleepFor s lines = (place : ℕ) (h : Holder) → asleep_on (get_or lines place no_line).state ≡ Some h → IsThere s h

pub record SleepersThere (s : State) : Type 0 where
  pub txn : (o : ℕ) (t : TxnSession) → (owner_at s o).session ≡ session.Transaction t → SleepFor s t.lines
  pub snap : (o : ℕ) (t : SnapSession) → (owner_at s o).session ≡ session.Snapshot t → SleepFor s t.lines

-- the keys of a snapshot or of a transaction are of one service, and each list names a key once
abbrev pub OfOneService : Op → Type 0
OfOneService (op.Read key) = ⊤
OfOneService (op.Write key value) = ⊤
OfOneService (op.Snap keys) = AreOfOne keys × AllPairs Differ keys
OfOneService (op.Txn reads guard writes) = AreOfOne (reads ++ map (λ (write : Key × Expr ℕ). write.0) writes) × AllPairs Differ reads × AllPairs Differ (map (λ (write : Key × Expr ℕ). write.0) writes)

abbrev pub CallsOfOneService : State → Type 0
CallsOfOneService s = (o : ℕ) (x : Op) → (owner_at s o).kind ≡ kind.Calling x → OfOneService x

-- what owners have under way is with seven replicas, or on sixteen shards at most
pub record SessionsFew (s : State) : Type 0 where
  pub txn : (o : ℕ) (t : TxnSession) → (owner_at s o).session ≡ session.Transaction t → length t.lines ≤ 16
  pub snap : (o : ℕ) (t : SnapSession) → (owner_at s o).session ≡ session.Snapshot t → length t.lines ≤ 16
  pub register : (o : ℕ) (r : RegSession) → (owner_at s o).session ≡ session.Register r → r.round.replicas ≤ 7
  pub fixing : (o : ℕ) (r : RegSession) → (owner_at s o).session ≡ session.Fixing r → r.round.replicas ≤ 7
  pub settling : (o : ℕ) (attempt : Attempt) (shards : List ℕ) → (owner_at s o).session ≡ session.Settling attempt shards → length shards ≤ 16

pub record RunKeeps (c : Config) (s : State) : Type 0 where
  pub ready : IsReady c s
  pub forms : HaveForm c s
  pub copies : (o : ℕ) → HasForm c (owner_at s o).works.copy
  pub targets : TargetsIn c s
  pub exchanges : Exchanges s.net
  pub cursors : CursorsFit c s
  pub fences : FencesStand c s
  pub calls : AllCalls s
  pub few : SessionsFew s
  pub one_service : CallsOfOneService s
  pub blocks : BlocksFew c s
  pub sleepers : SleepersThere s

-- every state of a run keeps it
abbrev pub RunsKeepAll : Type 0
RunsKeepAll =
    (c : Config) (steps : List Step) (s : State) → IsSoundFile c → All IsReading (readings_of steps) → are_numbered steps ≡ true → run c steps ≡ Some s → RunKeeps c s
