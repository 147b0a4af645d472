-- What reads leave behind, by the dates of calls.
use Rattle.std.specs.Prelude.{◌≡◌, ℕ, ◌<◌, Some}
use Rattle.rss_names.specs.declared.service.Key.{Key}
use Rattle.causal_context.specs.declared.dep.Dep.{Dep}
use Rattle.rss_wire.specs.declared.messages.RegReply.{RegReply}
use Rattle.rss_tables.specs.RegisterSession.{RegSession}
use Rattle.rss_tables.specs.declared.register_session.RegEnd.TheVariants as ends
use Rattle.rss_tables.specs.declared.register_session.RegPhase.TheVariants as phase
use Rattle.rss_machine.specs.State.{State, owner_at}
use Rattle.rss_machine.specs.Times.{marked_step}
use Rattle.rss_machine.specs.declared.session.Session.TheVariants as session
use Rattle.reg_laws.specs.Rounds.{Reads}

-- what a read left as a dependency has its step before each later call of its stage sends its own first round
pub record DependenciesFirst (s : State) : Type 0 where
  pub left : (a b : ℕ) (key : Key) (cell : RegReply) (dep : Dep) (r : RegSession) → Reads s a key (phase.Done (ends.Read cell (Some dep))) → (owner_at s b).session ≡ session.Register r
      → (owner_at s a).stage ≡ (owner_at s b).stage → (owner_at s a).dates.ended < (owner_at s b).dates.begun → marked_step s key cell.stamp < (owner_at s b).dates.launched
