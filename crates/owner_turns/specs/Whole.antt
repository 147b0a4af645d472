-- The tables' owner, of the parts that the code keeps of it, and what it keeps of them.
use Rattle.std.specs.Prelude.{◌≡◌, ℕ, ◌<◌, ◌≤◌, ⊤, Bool, false, List, [], length, Option, Some, None}
use Rattle.causal_context.specs.Services.{IsService}
use Rattle.pipeline_lang.specs.Config.{replicas_of}
use Rattle.pipeline_lang.specs.declared.config.Config.{Config}
use Rattle.rss_names.specs.declared.service.ServiceId.{ServiceId}
use Rattle.rss_model.specs.declared.op.Op.{Op}
use Rattle.rss_model.specs.declared.op.Op.TheVariants as op
use Rattle.rss_tables.specs.RegisterSession.{RegSession, goes_on}
use Rattle.rss_tables.specs.Works.{Works}
use Rattle.rss_tables.specs.declared.register_session.RegWork.{RegWork}
use Rattle.rss_tables.specs.declared.register_session.RegWork.TheVariants as work
use Rattle.rss_machine.specs.Session.{Session, service_of}
use Rattle.rss_machine.specs.State.{Owner}
use Rattle.rss_machine.specs.declared.session.OwnerKind.{OwnerKind}
use Rattle.rss_machine.specs.declared.session.OwnerKind.TheVariants as kind
use Rattle.rss_machine.specs.declared.state.Dates.{Dates}
use Rattle.rss_machine.specs.declared.state.OwnerFate.{OwnerFate}
use Rattle.turn_laws.specs.Turns as turn
use Rattle.owner_sessions.specs.declared.doing.Doing.{Doing}
use Rattle.owner_sessions.specs.declared.doing.Doing.TheVariants as doing
use Rattle.owner_turns.specs.declared.ending.TurnEnd.{TurnEnd}
use Rattle.owner_turns.specs.declared.ending.TurnEnd.TheVariants as ends

-- an owner as callers see it: the tables' record, for how many fences of a new plan there is room, and for how many more
-- versions and skipped writers
pub record OwnerView : Type 0 where
  pub row : Owner
  pub fences : ℕ
  pub versions : ℕ
  pub skips : ℕ

abbrev pub owner_of : ℕ → OwnerKind → OwnerFate → Bool → Works → Session → List (Option ℕ) → List ℕ → Dates → Bool → Owner
owner_of stage k fate started works under currents losses dates stored = record {
  stage = stage;
  kind = k;
  fate = fate;
  started = started;
  works = works;
  session = under;
  currents = currents;
  losses = losses;
  dates = dates;
  stored = stored;
}

-- an operation of one service, with eight keys a list at most
abbrev pub HasFewKeys : Op → Type 0
HasFewKeys (op.Read key) = ⊤
HasFewKeys (op.Write key value) = ⊤
HasFewKeys (op.Snap keys) = (1 ≤ length keys) × (length keys ≤ 8)
HasFewKeys (op.Txn reads guard writes) = (length reads ≤ 8) × (1 ≤ length writes) × (length writes ≤ 8)

pub record OpFits (x : Op) : Type 0 where
  pub service : IsService (service_of x)
  pub few : HasFewKeys x

-- what an owner does: an operation that fits; an attempt to settle has one shard at least and sixteen at most
abbrev pub KindFits : OwnerKind → Type 0
KindFits (kind.Calling x) = OpFits x
KindFits kind.Fencing = ⊤
KindFits (kind.Stubbing None) = ⊤
KindFits (kind.Stubbing (Some unsettled)) = (1 ≤ length unsettled.1) × (length unsettled.1 ≤ 16)

-- the register of a work is one of a service
abbrev pub WorkServed : RegWork → Type 0
WorkServed (work.Read key) = IsService key.service
WorkServed (work.Write key value) = IsService key.service
WorkServed (work.Fix deps) = ⊤

-- a stub with an attempt to settle
abbrev pub HasToSettle : OwnerKind → Type 0
HasToSettle (kind.Stubbing (Some unsettled)) = ⊤
HasToSettle (kind.Stubbing None) = ⊥
HasToSettle (kind.Calling x) = ⊥
HasToSettle kind.Fencing = ⊥

-- a round of dependencies is followed by none, the rounds of a call are on a register of a service, and a stub settles what
-- it has to
abbrev pub DoingFits : OwnerKind → Doing → Type 0
DoingFits k (doing.Fixing r) = goes_on r.phase ≡ false
DoingFits k (doing.Register r) = WorkServed r.work
DoingFits k doing.Idle = ⊤
DoingFits k (doing.Transaction c t) = ⊤
DoingFits k (doing.Snapshot c t) = ⊤
DoingFits k doing.Settling = HasToSettle k

-- what an owner keeps
pub record OwnerFits (k : OwnerKind) (d : Doing) : Type 0 where
  pub of_kind : KindFits k
  pub of_doing : DoingFits k d

-- the end of a turn, as the tables have it
abbrev pub ending_of : TurnEnd → turn.TurnEnd
ending_of ends.Goes = turn.goes
ending_of (ends.Replied shown context) = turn.replied shown context.seen
ending_of ends.FenceOver = turn.fence_over
ending_of ends.StubOver = turn.stub_over

-- no service has more than seven replicas
pub record FewReplicas (c : Config) : Type 0 where
  pub few : (id : ServiceId) → replicas_of c id ≤ 7
