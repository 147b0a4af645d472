-- What is known of the calls behind another one when that sends its own first round.
use Rattle.std.specs.Prelude.{◌≡◌, ℕ, ◌<◌, ◌≤◌, true, false, List}
use Rattle.rss_names.specs.declared.service.ServiceId.TheVariants.{Txn, Reg}
use Rattle.rss_names.specs.Services.{same_service}
use Rattle.causal_context.specs.LeastTimes.{least_of}
use Rattle.pipeline_lang.specs.declared.config.Config.{Config}
use Rattle.rss_model.specs.declared.history.Entry.{Entry}
use Rattle.rss_model.specs.declared.op.Op.{Op}
use Rattle.rss_model.specs.History.{entry_at, begins}
use Rattle.rss_model.specs.Stages.{stage_at}
use Rattle.rss_machine.specs.Session.{service_of}
use Rattle.rss_machine.specs.State.{State, owner_at}
use Rattle.rss_machine.specs.declared.session.OwnerKind.TheVariants as kind
use Rattle.order_laws.specs.CallsBehind.{calls_behind}
use Rattle.context_moves.specs.Views.{view_of, step_of}

-- a call was behind the stage of another just before that began: by `messages_lead_to_what_is_behind` it is before it by messages
pub record BegunBehind (h : List Entry) (b a : ℕ) : Type 0 where
  pub place : ℕ
  pub begun : begins b (entry_at h place) ≡ true
  pub behind : (calls_behind h place).stage (stage_at h place) a ≡ true

-- what a call that has sent its own first round has found of one behind it
pub record Finds (c : Config) (s : State) (b : ℕ) (y : Op) (a : ℕ) : Type 0 where
  pub ended : (view_of c s).ended a ≡ true
  pub same : (m : ℕ) → ((view_of c s).call a).service ≡ Txn m → service_of y ≡ Txn m → ((view_of c s).call a).time ≤ least_of (owner_at s b).works.copy.least (Txn m)
  pub other : (m : ℕ) → same_service ((view_of c s).call a).service (Txn m) ≡ false → service_of y ≡ Txn m → (view_of c s).before a (least_of (owner_at s b).works.copy.least (Txn m)) ≡ true
  pub txn_round : (m n : ℕ) → ((view_of c s).call a).service ≡ Txn n → service_of y ≡ Reg m → step_of s a ≤ (owner_at s b).dates.launched
  pub round : (m n : ℕ) → ((view_of c s).call a).service ≡ Reg n → service_of y ≡ Reg m → step_of s a < (owner_at s b).dates.launched

-- each call finds the calls behind it placed when it sends its own first round
pub record LaunchesBehind (c : Config) (s : State) : Type 0 where
  pub finds : (b a : ℕ) (y : Op) → (owner_at s b).kind ≡ kind.Calling y → 0 < (owner_at s b).dates.launched → BegunBehind s.history b a → Finds c s b y a
