-- What follows where a step is not refused.
use Rattle.std.proofs.Common.{◌≡◌, ◌<◌, Bool, true, false, ◌∙◌, Some, None, refl, arith, nat_le, if◌then◌else◌}
use Rattle.std.proofs.lemmas.Bool.Decides.{nat_tests}
use Rattle.pipeline_lang.specs.declared.config.Config.{Config}
use Rattle.truetime.specs.Reading.{Reading as At}
use Rattle.truetime.specs.TrueMoment.{admits}
use Rattle.rss_machine.specs.Moves.{ticks}
use Rattle.rss_machine.specs.Refusal.{refusal, kind_refusal}
use Rattle.rss_machine.specs.State.{State}
use Rattle.rss_machine.specs.declared.step.Step.{Step}
use Rattle.rss_machine.specs.declared.step.StepKind.{StepKind}
use Rattle.rss_machine.specs.declared.step.StepKind.TheVariants.{Act, Go, Lose, Again, Kill, Stub}
use Rattle.rss_machine.specs.declared.step.StepRefusal.{StepRefusal}
use Rattle.rss_machine.specs.declared.step.StepRefusal.TheVariants.{LogFull}

-- the parts of a refusal that there is not
pub record IsAllowed (c : Config) (s : State) (step : Step) : Type 0 where
  pub log : s.steps < c.max_steps
  pub reading : admits s.moment step.at ≡ true
  pub kind : kind_refusal c (ticks s step.at) step.at step.kind ≡ None

-- a refusal of a kind does not depend on the clock
kind_ticks : (c : Config) (s : State) (now at : At) (kind : StepKind) → kind_refusal c (ticks s now) at kind ≡ kind_refusal c s at kind
kind_ticks c s now at (Act n) = refl
kind_ticks c s now at (Go m) = refl
kind_ticks c s now at (Lose m) = refl
kind_ticks c s now at (Again m) = refl
kind_ticks c s now at (Kill n) = refl
kind_ticks c s now at (Stub n) = refl

by_parts : (full admitted : Bool) (c : Config) (s : State) (step : Step) → nat_le c.max_steps s.steps ≡ full → admits s.moment step.at ≡ admitted → (cause : StepRefusal) → (if full then Some LogFull else (if admitted then kind_refusal c s step.at step.kind else Some cause)) ≡ None → IsAllowed c s step
by_parts true admitted c s step f a cause h = absurd (cc)
by_parts false true c s step f a cause h =
    record { log = grind (arith, nat_tests, f); reading = a; kind = kind_ticks c s step.at step.at step.kind ∙ h }
by_parts false false c s step f a cause h = absurd (cc)

pub allowed_parts : (c : Config) (s : State) (step : Step) → refusal c s step ≡ None → IsAllowed c s step
unfolding refusal
allowed_parts c s step h = by_parts (nat_le c.max_steps s.steps) (admits s.moment step.at) c s step refl refl _ h
