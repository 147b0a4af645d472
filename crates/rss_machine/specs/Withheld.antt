-- What the steps withhold from an owner: a target of which it lost so many messages while it ran
-- that it gives the target up, and with it a shard or a quorum. And what a stage is hurt by that is
-- over as unavailable.
use Rattle.std.specs.Prelude.{◌≡◌, ℕ, zero, suc, ◌+◌, ◌-◌, Bool, true, false, ◌&&◌, ◌==◌, List, [], ◌∷◌, nat_le, nat_lt, if◌then◌else◌, IsTrue}
use Rattle.rss_names.specs.declared.service.ServiceId.{ServiceId}
use Rattle.rss_names.specs.declared.service.Target.{Target}
use Rattle.rss_names.specs.declared.service.Target.TheVariants.{Shard, Replica}
use Rattle.pipeline_lang.specs.declared.config.Config.{Config}
use Rattle.pipeline_lang.specs.Config.{replicas_of}
use Rattle.rss_wire.specs.declared.envelope.Envelope.{Envelope}
use Rattle.rss_wire.specs.Messages.{message_at, same_target}
use Rattle.rss_tables.specs.Round.{spare}
use Rattle.rss_machine.specs.Effect.{stepped}
use Rattle.rss_machine.specs.Standing.{is_running}
use Rattle.rss_machine.specs.State.{State, start, owner_at}
use Rattle.rss_machine.specs.declared.session.OwnerKind.{OwnerKind}
use Rattle.rss_machine.specs.declared.session.OwnerKind.TheVariants.{Calling, Fencing, Stubbing}
use Rattle.rss_machine.specs.declared.state.OwnerFate.TheVariants.{CutOff}
use Rattle.rss_machine.specs.declared.step.Step.{Step}
use Rattle.rss_machine.specs.declared.step.StepKind.{StepKind}
use Rattle.rss_machine.specs.declared.step.StepKind.TheVariants.{Lose}

-- whether the message of this outside is between an owner that runs and a target
abbrev pub is_between : State → ℕ → Target → Envelope → Bool
is_between s o target e = e.owner == o && same_target e.target target && is_running (owner_at s o).fate

-- whether a step loses such a message
abbrev pub loses_one : State → ℕ → Target → StepKind → Bool
loses_one s o target (Lose m) = is_between s o target (message_at s.net m).envelope
loses_one s o target _ = false

-- how many of these steps from a state on lose such a message
unfoldable pub lost_from : Config → State → List Step → ℕ → Target → ℕ
lost_from c s [] o target = 0
lost_from c s (step ∷ steps) o target =
    if loses_one s o target step.kind then suc (lost_from c (stepped c s step) steps o target) else lost_from c (stepped c s step) steps o target

-- a target is withheld from an owner where at least `tries` of its messages were lost
abbrev pub is_target_withheld : Config → List Step → ℕ → Target → Bool
is_target_withheld c steps o target = nat_le c.tries (lost_from c (start c) steps o target)

-- how many of these many replicas of a service from a number on are withheld
abbrev pub withheld_from : Config → List Step → ℕ → ServiceId → ℕ → ℕ → ℕ
withheld_from c steps o service replica zero = 0
withheld_from c steps o service replica (suc left) =
    if is_target_withheld c steps o (Replica service replica) then suc (withheld_from c steps o service (replica + 1) left) else withheld_from c steps o service (replica + 1) left

-- a quorum of a service is withheld where more of its replicas are than a majority can spare
abbrev pub is_quorum_withheld : Config → List Step → ℕ → ServiceId → Bool
is_quorum_withheld c steps o service =
    nat_lt (spare (replicas_of c service)) (withheld_from c steps o service 1 (replicas_of c service))

-- what an owner that was cut off from a target has lost: that shard, or a quorum of that replica's service
abbrev pub IsWithheld : Config → List Step → ℕ → Target → Type 0
IsWithheld c steps o (Shard shard) = IsTrue (is_target_withheld c steps o (Shard shard))
IsWithheld c steps o (Replica service replica) = IsTrue (is_quorum_withheld c steps o service)

-- whether an owner is a statement that its stage made, a call or a fence, and not the stub of a stage that died
abbrev pub is_statement : OwnerKind → Bool
is_statement (Calling x) = true
is_statement Fencing = true
is_statement (Stubbing unsettled) = false

-- what hurt a stage: a statement of it was cut off from a target, which the steps withheld from that
-- statement. Stages of numbers 0 and 1 stand in one place
pub record HurtBy (c : Config) (steps : List Step) (s : State) (n : ℕ) : Type 0 where
  pub owner : ℕ
  pub target : Target
  pub of_stage : (owner_at s owner).stage - 1 ≡ n - 1
  pub of_kind : is_statement (owner_at s owner).kind ≡ true
  pub cut : (owner_at s owner).fate ≡ CutOff target
  pub withheld : IsWithheld c steps owner target
