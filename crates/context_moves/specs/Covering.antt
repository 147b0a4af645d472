-- Contexts cover what is behind them, wherever they lie.
use Rattle.std.specs.Prelude.{◌≡◌, ℕ, ◌<◌, ◌≤◌, ◌-◌, ◌⊎◌, ⊤, true, false, List, [], length, get_or, Some, All}
use Rattle.pipeline_lang.specs.declared.config.Config.{Config}
use Rattle.rss_model.specs.declared.history.Entry.{Entry}
use Rattle.rss_model.specs.declared.history.Entry.TheVariants.{Give}
use Rattle.rss_model.specs.declared.history.Token.TheVariants as token
use Rattle.rss_model.specs.declared.op.Op.{Op}
use Rattle.rss_model.specs.History.{entry_at}
use Rattle.rss_model.specs.Scripts.{is_spawned}
use Rattle.rss_tables.specs.Pipes.{Pipe, Chunk, EndMark, no_mark, fenced_mark, bare_mark, opening_pipe}
use Rattle.rss_names.specs.declared.service.ServiceId.TheVariants.{Reg}
use Rattle.rss_machine.specs.Session.{service_of}
use Rattle.rss_machine.specs.Standing.{is_running, is_over}
use Rattle.rss_machine.specs.State.{State, Owner, Stage, no_stage, no_owner}
use Rattle.rss_machine.specs.declared.session.OwnerKind.TheVariants as kind
use Rattle.rss_machine.specs.declared.state.Life.TheVariants.{Unborn}
use Rattle.world_laws.specs.Calls.{is_stub}
use Rattle.world_laws.proofs.PlannedOwners.{is_fixing}
use Rattle.order_laws.specs.CallsBehind.{CallsBehind, calls_behind}
use Rattle.coupling_laws.specs.Calls.{View}
use Rattle.coupling_laws.specs.Covers.{Covers, IsAt}
use Rattle.context_moves.specs.Views.{view_of}

-- which calls are behind what in a state
abbrev pub behind : State → CallsBehind
behind s = calls_behind s.history (length s.history)

-- the copy of a call is at its service; and nothing that it depends on is left
pub record IsOwn (w : Owner) (x : Op) : Type 0 where
  pub at : IsAt w.works.copy (service_of x)
  pub none : w.works.copy.deps ≡ []

-- a call of a register service, with its copy at that service
pub record IsCallAt (w : Owner) : Type 0 where
  pub op : Op
  pub number : ℕ
  pub of_kind : w.kind ≡ kind.Calling op
  pub is : service_of op ≡ Reg number
  pub at : IsAt w.works.copy (service_of op)

-- the copy of an owner that runs, or is a stub, covers what is behind its stage; the stage of a stub is over; the copy
-- of a call that has sent its own first round is at its service; and a round of dependencies with no works left is a call's
pub record OwnerCovers (v : View) (b : CallsBehind) (stages : List Stage) (w : Owner) : Type 0 where
  pub copy : (n : ℕ) → (is_running w.fate ≡ true) ⊎ (is_stub w.kind ≡ true) → n - 1 ≡ w.stage - 1 → Covers v (b.stage n) w.works.copy
  pub dead : is_stub w.kind ≡ true → is_over (get_or stages (w.stage - 1) no_stage).life ≡ true
  pub own : (x : Op) → w.kind ≡ kind.Calling x → is_running w.fate ≡ true → 0 < w.dates.launched → IsOwn w x
  pub fixing : is_running w.fate ≡ true → is_fixing w.session ≡ true → w.works.left ≡ [] → IsCallAt w

-- a message was given
pub record IsGiven (h : List Entry) (child : ℕ) : Type 0 where
  pub place : ℕ
  pub giver : ℕ
  pub inside : place < length h
  pub says : entry_at h place ≡ Give giver (token.Spawn child)

-- an owner is the stub of a stage
pub record IsStubOf (owners : List Owner) (n o : ℕ) : Type 0 where
  pub stub : is_stub (get_or owners o no_owner).kind ≡ true
  pub of_stage : (get_or owners o no_owner).stage - 1 ≡ n - 1

-- the context of a stage covers what is behind it; nothing is behind one that is not born, and one that is was spawned,
-- if any script spawns it; what lies with its exit is behind it
pub record StageCovers (c : Config) (v : View) (b : CallsBehind) (h : List Entry) (owners : List Owner) (n : ℕ) (x : Stage) : Type 0 where
  pub context : Covers v (b.stage n) x.context
  pub unborn : x.life ≡ Unborn → ((a : ℕ) → b.stage n a ≡ false) × ((a : ℕ) → b.message (token.Spawn n) a ≡ false)
  pub born : 0 < n → is_spawned c n ≡ true → (x.life ≡ Unborn) ⊎ IsGiven h n
  pub stub_of : (o : ℕ) → x.stub ≡ Some o → IsStubOf owners n o
  pub exit : (a : ℕ) → b.message (token.Exit n) a ≡ true → b.stage n a ≡ true

-- the contexts of a pipe's chunks, and of its end mark, cover what is behind them; they are numbered below the next one
pub record ChunkCovers (v : View) (b : CallsBehind) (p next : ℕ) (x : Chunk) : Type 0 where
  pub early : x.number < next
  pub context : Covers v (b.message (token.Chunk p x.number)) x.context

abbrev pub MarkCovers : View → CallsBehind → ℕ → ℕ → EndMark → Type 0
MarkCovers v b p next no_mark = ⊤
MarkCovers v b p next (fenced_mark number seen) = (number < next) × Covers v (b.message (token.Chunk p number)) seen
MarkCovers v b p next bare_mark = ⊤

pub record PipeCovers (v : View) (b : CallsBehind) (p : ℕ) (x : Pipe) : Type 0 where
  pub chunks : All (ChunkCovers v b p x.next) x.chunks
  pub mark : MarkCovers v b p x.next x.mark

-- contexts of stages, of copies, of chunks and of end marks, over one view and one table of what is behind what; behind
-- a pipe's next chunk nothing is yet
pub record Parts (c : Config) (v : View) (b : CallsBehind) (all : List Owner) (born : List Stage) (lines : List Pipe) (h : List Entry) : Type 0 where
  pub owners : (o : ℕ) → OwnerCovers v b born (get_or all o no_owner)
  pub stages : (n : ℕ) → StageCovers c v b h all n (get_or born (n - 1) no_stage)
  pub pipes : (p : ℕ) → PipeCovers v b p (get_or lines (p - 1) opening_pipe)
  pub unused : (p number a : ℕ) → p - 1 < length lines → (get_or lines (p - 1) opening_pipe).next ≤ number → b.message (token.Chunk p number) a ≡ false
  pub long : length born ≡ length c.bodies

abbrev pub Covering : Config → View → CallsBehind → State → Type 0
Covering c v b s = Parts c v b s.owners s.stages s.pipes s.history

abbrev pub AllCover : Config → State → Type 0
AllCover c s = Covering c (view_of c s) (behind s) s
