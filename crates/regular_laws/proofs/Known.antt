-- What is known of a state of a run, on which it stands that its places are regular.
use Rattle.std.proofs.Common.{◌≡◌, ℕ, ◌<◌, ◌≤◌, ◌⊎◌, inl, inr, List, length, arith}
use Rattle.pipeline_lang.specs.declared.config.Config.{Config}
use Rattle.rss_model.specs.Causality.{BeforeByMessages}
use Rattle.rss_model.specs.declared.op.Op.{Op}
use Rattle.rss_machine.specs.State.{State, owner_at}
use Rattle.rss_machine.specs.declared.session.OwnerKind.TheVariants as kind
use Rattle.rss_machine.specs.declared.step.Step.{Step}
use Rattle.world_laws.specs.Calls.{HistoryTells, DatesTell}
use Rattle.world_laws.specs.Served.{CallsServed}
use Rattle.reg_laws.specs.Agree.{AllAgree}
use Rattle.reg_laws.specs.Line.{ReadsLegal, PlacesInside, EndsInTime}
use Rattle.reg_laws.proofs.OwnStamps.{OwnStamps}
use Rattle.fence_laws.specs.Laws.{TimesFit}
use Rattle.txn_line_laws.proofs.Facts.{Facts}
use Rattle.context_moves.specs.Launched.{Finds}
use Rattle.regular_laws.specs.Kept.{CallsKept}

-- one call was over before another began
pub record IsOverBefore (s : State) (a b : ℕ) : Type 0 where
  pub there : a < length s.owners
  pub over : (owner_at s a).dates.begun ≤ (owner_at s a).dates.ended
  pub dated : (owner_at s a).dates.ended < (owner_at s b).dates.begun

-- so it has a smaller number
pub smaller_number : (s : State) → DatesTell s → (a b : ℕ) → IsOverBefore s a b → a < b
smaller_number s d a b h = by_order (in_order a b)
  where
    in_order : (i j : ℕ) → (i < j) ⊎ (j ≤ i)
    in_order i j = grind arith

    by_order : (a < b) ⊎ (b ≤ a) → a < b
    by_order (inl l) = l
    by_order (inr l) = let x = d.rise b a l h.there in let y = h.over in let z = h.dated in absurd (omega (arith, x, y, z))

pub record Known (c : Config) (steps : List Step) (s : State) : Type 0 where
  -- the history, dates, and what owners have under way
  pub told : HistoryTells s
  pub dates : DatesTell s
  pub agree : AllAgree s
  pub stamps : OwnStamps s
  -- which services calls are of
  pub served : CallsServed c s
  pub kept : CallsKept s
  -- the lines of register services and of transaction services
  pub legal : ReadsLegal s
  pub inside : PlacesInside s
  pub ends : EndsInTime c steps s
  pub txns : Facts c s
  pub times : TimesFit s
  -- what calls find of those behind them when they send their own first rounds
  pub finds : (a b : ℕ) (y : Op) → BeforeByMessages s.history a b → (owner_at s b).kind ≡ kind.Calling y → 0 < (owner_at s b).dates.launched → Finds c s b y a
