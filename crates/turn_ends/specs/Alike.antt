-- What a loss leaves of owners.
use Rattle.std.specs.Prelude.{◌≡◌, ℕ, List, length, get_or}
use Rattle.pipeline_lang.specs.declared.config.Config.{Config}
use Rattle.rss_wire.specs.declared.envelope.Envelope.{Envelope}
use Rattle.rss_machine.specs.Session.{left_unsettled}
use Rattle.rss_machine.specs.State.{State, Owner, no_owner}
use Rattle.turn_laws.specs.Losses.{counts_lost}

-- as many owners, each of the same stage, of the same kind, who would leave the same unsettled
pub record LikeOwners (old new : List Owner) : Type 0 where
  pub many : length new ≡ length old
  pub stage : (o : ℕ) → (get_or new o no_owner).stage ≡ (get_or old o no_owner).stage
  pub kind : (o : ℕ) → (get_or new o no_owner).kind ≡ (get_or old o no_owner).kind
  pub unsettled : (o : ℕ) → left_unsettled (get_or new o no_owner).session ≡ left_unsettled (get_or old o no_owner).session

-- so a lost message leaves them
abbrev pub LossesLeaveAlike : Type 0
LossesLeaveAlike = (c : Config) (s : State) (e : Envelope) → LikeOwners s.owners (counts_lost c s e).owners
