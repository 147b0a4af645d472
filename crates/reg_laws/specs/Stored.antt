-- What was stored of a register: what a call's store said of it, or its opening value.
use Rattle.std.specs.Prelude.{◌≡◌, ℕ, ◌<◌, ◌⊎◌, true, List, [], length, get_or}
use Rattle.std.specs.List.{All}
use Rattle.rss_names.specs.declared.service.Key.{Key}
use Rattle.rss_names.specs.declared.service.ServiceId.{ServiceId}
use Rattle.rss_names.specs.declared.service.Target.TheVariants.{Replica}
use Rattle.causal_context.specs.declared.dep.Dep.{Dep}
use Rattle.rss_wire.specs.Messages.{message_at}
use Rattle.rss_wire.specs.declared.message.Body.TheVariants as body
use Rattle.rss_wire.specs.declared.message.Message.{Message}
use Rattle.rss_wire.specs.declared.messages.RegReply.{RegReply}
use Rattle.rss_wire.specs.declared.messages.Request.TheVariants as request
use Rattle.rss_tables.specs.ReplicaRow.{opening_cell, held_at, dep_cell}
use Rattle.rss_machine.specs.State.{State, owner_at, replicas_at}
use Rattle.world_laws.specs.Contexts.{AllDeps}
use Rattle.world_laws.specs.Registers.{IsRegister}
use Rattle.pipeline_lang.specs.declared.config.Config.{Config}

-- a replica was sent a store of this value of a register, with its stamp and writer
pub record WasStored (net : List Message) (key : Key) (cell : RegReply) : Type 0 where
  pub number : ℕ
  pub sent : number < length net
  pub service : ServiceId
  pub replica : ℕ
  pub target : (message_at net number).envelope.target ≡ Replica service replica
  pub says : (message_at net number).body ≡ body.Request (request.Store key cell.value cell.stamp cell.writer)

-- and some replica has handled that call's store
pub record WasHandled (s : State) (key : Key) (cell : RegReply) : Type 0 where
  pub stored : WasStored s.net key cell
  pub handled : (owner_at s cell.writer).stored ≡ true

-- a value of a register that was stored, or its opening one
abbrev pub IsValid : State → Key → RegReply → Type 0
IsValid s key cell = (cell ≡ opening_cell) ⊎ WasHandled s key cell

-- a dependency on such a value
abbrev pub DepIsValid : State → Dep → Type 0
DepIsValid s dep = IsValid s dep.key (dep_cell dep)

-- what replicas hold of registers of the file, what contexts depend on, and what rounds of dependencies
-- store, was stored; and values of one register with one stamp are the same
pub record HoldsStored (c : Config) (s : State) : Type 0 where
  pub replicas : (key : Key) (place : ℕ) → IsRegister c key → IsValid s key (held_at (get_or (replicas_at s key.service) place []) key)
  pub dependencies : AllDeps (DepIsValid s) s
  pub fixes : (m replica : ℕ) (service : ServiceId) (deps : List Dep) → (message_at s.net m).envelope.target ≡ Replica service replica → (message_at s.net m).body ≡ body.Request (request.Fix deps) → All (DepIsValid s) deps
  pub agree : (key : Key) (x y : RegReply) → IsValid s key x → IsValid s key y → x.stamp ≡ y.stamp → x ≡ y

-- one stamp is of one register, one value and one writer
pub record StampsName (net : List Message) : Type 0 where
  pub register : (a b : Key) (x y : RegReply) → WasStored net a x → WasStored net b y → x.stamp ≡ y.stamp → a ≡ b
  pub cell : (a b : Key) (x y : RegReply) → WasStored net a x → WasStored net b y → x.stamp ≡ y.stamp → x ≡ y
