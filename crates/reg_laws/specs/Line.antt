-- The line of a register: its placed calls in the order of their keys.
use Rattle.std.specs.Prelude.{◌≡◌, ℕ, ◌<◌, ◌≤◌, ◌⊎◌, Bool, true, false, All, List, length, get_or, Some, None, Option}
use Rattle.rss_names.specs.declared.service.Key.{Key}
use Rattle.carstamps.specs.declared.carstamp.Carstamp.{Carstamp}
use Rattle.carstamps.specs.Stamp.{stamp_le, stamp_lt}
use Rattle.pipeline_lang.specs.declared.config.Config.{Config}
use Rattle.rss_machine.specs.Times.{step_of_stamp, marked_step}
use Rattle.rss_machine.specs.declared.step.Step.{Step}
use Rattle.causal_context.specs.declared.dep.Dep.{Dep}
use Rattle.causal_context.specs.Deps.{deps_of}
use Rattle.rss_wire.specs.declared.messages.RegReply.{RegReply}
use Rattle.rss_tables.specs.RegisterSession.{RegSession}
use Rattle.rss_tables.specs.ReplicaRow.{opening_cell}
use Rattle.rss_tables.specs.declared.register_session.RegEnd.TheVariants as ends
use Rattle.rss_tables.specs.declared.register_session.RegPhase.TheVariants as phase
use Rattle.rss_tables.specs.declared.register_session.RegWork.TheVariants as work
use Rattle.rss_machine.specs.Places.{phase_stamp, register_key, key_lt}
use Rattle.rss_machine.specs.Marks.{is_held}
use Rattle.rss_machine.specs.State.{State, owner_at, replicas_at}
use Rattle.rss_machine.specs.declared.place.PlaceKey.{PlaceKey}
use Rattle.rss_machine.specs.declared.session.Session.TheVariants as session
use Rattle.reg_laws.specs.Rounds.{Writes, Reads}

-- a placed write: a call that has taken this stamp on a register, and whose store some replica has handled
pub record PlacedWrite (s : State) (o : ℕ) (key : Key) (value : ℕ) (stamp : Carstamp) : Type 0 where
  pub round : RegSession
  pub under_way : (owner_at s o).session ≡ session.Register round
  pub of_work : round.work ≡ work.Write key value
  pub with_stamp : phase_stamp round.phase ≡ Some stamp
  pub handled : (owner_at s o).stored ≡ true

-- the keys of a write and of a read on a register
abbrev pub write_key : State → ℕ → Key → Carstamp → PlaceKey
write_key s o key stamp = register_key s o false (key, stamp)

abbrev pub read_key : State → ℕ → Key → Carstamp → PlaceKey
read_key s o key stamp = register_key s o true (key, stamp)

-- the write whose value a read replied stands before it, and no other write of the register between
pub record WriterBefore (s : State) (o : ℕ) (key : Key) (cell : RegReply) : Type 0 where
  pub placed : PlacedWrite s cell.writer key cell.value cell.stamp
  pub before : key_lt (write_key s cell.writer key cell.stamp) (read_key s o key cell.stamp) ≡ true
  pub others : (a value : ℕ) (stamp : Carstamp) → PlacedWrite s a key value stamp → (a ≡ cell.writer → ⊥)
      → (key_lt (write_key s a key stamp) (write_key s cell.writer key cell.stamp) ≡ true) ⊎ (key_lt (read_key s o key cell.stamp) (write_key s a key stamp) ≡ true)

-- a read that replied the opening value stands before each write of the register
pub record BeforeWrites (s : State) (o : ℕ) (key : Key) (cell : RegReply) : Type 0 where
  pub opening : cell ≡ opening_cell
  pub others : (a value : ℕ) (stamp : Carstamp) → PlacedWrite s a key value stamp → key_lt (read_key s o key cell.stamp) (write_key s a key stamp) ≡ true

-- each read that has ended replied what the last write before it wrote
pub record ReadsLegal (s : State) : Type 0 where
  pub read : (o : ℕ) (key : Key) (cell : RegReply) (dep : Option Dep) → Reads s o key (phase.Done (ends.Read cell dep)) → BeforeWrites s o key cell ⊎ WriterBefore s o key cell

-- a write's place is after the step of its own first round, and a read's is not before it; and no call sends
-- its first round before it begins
pub record PlacesInside (s : State) : Type 0 where
  pub write : (o : ℕ) (key : Key) (value : ℕ) (stamp : Carstamp) → PlacedWrite s o key value stamp → (owner_at s o).dates.launched < (write_key s o key stamp).step
  pub read : (o : ℕ) (key : Key) (stamp : Carstamp) → (owner_at s o).dates.launched ≤ (read_key s o key stamp).step
  pub begun : (o : ℕ) → 0 < (owner_at s o).dates.launched → (owner_at s o).dates.begun ≤ (owner_at s o).dates.launched

-- from a state to a later one that these steps lead to: what has ended in the first with a stamp that a majority
-- holds has its step there, and a call that sends its own first round later sees it
pub record SeenFromOne (c : Config) (steps : List Step) (u s : State) (key : Key) (stamp : Carstamp) : Type 0 where
  pub come : step_of_stamp c steps key stamp ≤ u.steps
  pub stored : (o value : ℕ) (other : Carstamp) → u.steps < (owner_at s o).dates.launched → Writes s o key value (phase.Storing other) → stamp_lt stamp other ≡ true
  pub written : (o value : ℕ) (other : Carstamp) → u.steps < (owner_at s o).dates.launched → Writes s o key value (phase.Done (ends.Written other)) → stamp_lt stamp other ≡ true
  pub read : (o : ℕ) (cell : RegReply) (dep : Option Dep) → u.steps < (owner_at s o).dates.launched → Reads s o key (phase.Done (ends.Read cell dep)) → stamp_le stamp cell.stamp ≡ true

pub record SeenFrom (c : Config) (steps : List Step) (u s : State) : Type 0 where
  pub write : (o : ℕ) (key : Key) (value : ℕ) (stamp : Carstamp) → Writes u o key value (phase.Done (ends.Written stamp)) → SeenFromOne c steps u s key stamp
  pub agreed : (o : ℕ) (key : Key) (cell : RegReply) → Reads u o key (phase.Done (ends.Read cell None)) → SeenFromOne c steps u s key cell.stamp

-- from a state to a later one that these steps lead to: where a round of dependencies is done in the first, each
-- dependency of the owner's copy on a register of its service has its step there, and a call that sends its own
-- first round later sees it
pub record FixesSettled (c : Config) (steps : List Step) (u s : State) : Type 0 where
  pub fix : (o : ℕ) (r : RegSession) → (owner_at u o).session ≡ session.Fixing r → r.phase ≡ phase.Done ends.Fixed
      → All (λ (dep : Dep). SeenFromOne c steps u s dep.key dep.stamp) (deps_of r.service (owner_at u o).works.copy.deps)

-- by the dates of one state: a stamp has its step by the end of a step, and a call that sends its own first round
-- in a later one sees it
pub record SeenAfter (c : Config) (steps : List Step) (s : State) (key : Key) (stamp : Carstamp) (date : ℕ) : Type 0 where
  pub come : step_of_stamp c steps key stamp ≤ date
  pub marked : marked_step s key stamp ≤ date
  pub stored : (o value : ℕ) (other : Carstamp) → date < (owner_at s o).dates.launched → Writes s o key value (phase.Storing other) → stamp_lt stamp other ≡ true
  pub written : (o value : ℕ) (other : Carstamp) → date < (owner_at s o).dates.launched → Writes s o key value (phase.Done (ends.Written other)) → stamp_lt stamp other ≡ true
  pub read : (o : ℕ) (cell : RegReply) (dep : Option Dep) → date < (owner_at s o).dates.launched → Reads s o key (phase.Done (ends.Read cell dep)) → stamp_le stamp cell.stamp ≡ true

-- a write that has ended was stored; it has its step by its end, and so has a read on whose stamp all agreed; and
-- calls that send their own first round later see it
pub record EndsInTime (c : Config) (steps : List Step) (s : State) : Type 0 where
  pub stored : (o : ℕ) (key : Key) (value : ℕ) (stamp : Carstamp) → Writes s o key value (phase.Done (ends.Written stamp)) → (owner_at s o).stored ≡ true
  pub write : (o : ℕ) (key : Key) (value : ℕ) (stamp : Carstamp) → Writes s o key value (phase.Done (ends.Written stamp)) → SeenAfter c steps s key stamp (owner_at s o).dates.ended
  pub agreed : (o : ℕ) (key : Key) (cell : RegReply) → Reads s o key (phase.Done (ends.Read cell None)) → SeenAfter c steps s key cell.stamp (owner_at s o).dates.ended

-- from a state to a later one that these steps lead to: where an owner has a round of dependencies under way in the
-- first, and sends its own first round after it, each of them has its step before that round's
pub record FixesFirst (c : Config) (steps : List Step) (u s : State) : Type 0 where
  pub fix : (o : ℕ) (r : RegSession) → (owner_at u o).session ≡ session.Fixing r → u.steps < (owner_at s o).dates.launched
      → All (λ (dep : Dep). step_of_stamp c steps dep.key dep.stamp < (owner_at s o).dates.launched) (deps_of r.service (owner_at u o).works.copy.deps)

-- a call that entered its service takes effect not before the step of its entry, and a write after it
pub record AfterEntry (s : State) : Type 0 where
  pub write : (o : ℕ) (key : Key) (value : ℕ) (stamp : Carstamp) → PlacedWrite s o key value stamp → 0 < (owner_at s o).dates.entered → (owner_at s o).dates.entered < (write_key s o key stamp).step
  pub read : (o : ℕ) (key : Key) (cell : RegReply) (dep : Option Dep) → Reads s o key (phase.Done (ends.Read cell dep)) → 0 < (owner_at s o).dates.entered → (owner_at s o).dates.entered ≤ (read_key s o key cell.stamp).step

-- a register call that is placed, with its stamp, and whether it reads
pub data PlacedCall (s : State) (o : ℕ) (key : Key) : Carstamp → Bool → Type 0 where
  writes : (value : ℕ) (stamp : Carstamp) → PlacedWrite s o key value stamp → PlacedCall s o key stamp false
  reads : (cell : RegReply) (dep : Option Dep) → Reads s o key (phase.Done (ends.Read cell dep)) → PlacedCall s o key cell.stamp true

-- an owner has a round of dependencies under way, and one of them is on a register, with no smaller stamp
pub record FixCovers (u : State) (o : ℕ) (key : Key) (stamp : Carstamp) : Type 0 where
  pub round : RegSession
  pub under_way : (owner_at u o).session ≡ session.Fixing round
  pub place : ℕ
  pub dep : Dep
  pub inside : place < length (deps_of round.service (owner_at u o).works.copy.deps)
  pub at : get_or (deps_of round.service (owner_at u o).works.copy.deps) place dep ≡ dep
  pub on : dep.key ≡ key
  pub above : stamp_le stamp dep.stamp ≡ true

-- from a state to a later one that these steps lead to, over two placed calls: the one that had sent its own first
-- round by the first state stands before the other that has since, where a majority held the stamp of the one there,
-- or a round of dependencies of the other covered it
pub record CoveredBefore (c : Config) (steps : List Step) (u s : State) : Type 0 where
  pub before : (a b : ℕ) (key other : Key) (stamp z : Carstamp) (r q : Bool) → PlacedCall s a key stamp r → PlacedCall s b other z q → (owner_at s a).dates.launched ≤ u.steps → u.steps < (owner_at s b).dates.launched
      → (is_held (replicas_at u key.service) key stamp ≡ true) ⊎ FixCovers u b key stamp → key_lt (register_key s a r (key, stamp)) (register_key s b q (other, z)) ≡ true

-- where an owner has a round of dependencies under way in a state, and none of that service after the next step, each
-- of them has its step before that step, and a call that sends its own first round in it or later sees it
pub record FixesEnd (c : Config) (steps : List Step) (u v s : State) : Type 0 where
  pub fix : (o : ℕ) (r : RegSession) → (owner_at u o).session ≡ session.Fixing r → ((other : RegSession) → (owner_at v o).session ≡ session.Fixing other → other.service ≡ r.service → ⊥)
      → All (λ (dep : Dep). SeenFromOne c steps u s dep.key dep.stamp) (deps_of r.service (owner_at u o).works.copy.deps)
