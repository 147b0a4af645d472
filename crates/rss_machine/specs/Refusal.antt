-- Which steps are refused, and why. The causes are tested in this order.
use Rattle.std.specs.Prelude.{ℕ, Bool, true, false, Option, Some, None, nat_le, if◌then◌else◌}
use Rattle.std.specs.Option.{option_map}
use Rattle.rss_wire.specs.declared.refusal.NetRefusal.{NetRefusal}
use Rattle.rss_wire.specs.Net.{deliver_refusal, lose_refusal, again_refusal}
use Rattle.truetime.specs.Reading.{Reading}
use Rattle.truetime.specs.TrueMoment.{admits}
use Rattle.pipeline_lang.specs.declared.config.Config.{Config}
use Rattle.rss_machine.specs.Enabling.{act_enabling, stub_enabling, is_enabled_at}
use Rattle.rss_machine.specs.Standing.{is_live, is_over}
use Rattle.rss_machine.specs.State.{State, stage_at}
use Rattle.rss_machine.specs.declared.step.Step.{Step}
use Rattle.rss_machine.specs.declared.step.StepKind.{StepKind}
use Rattle.rss_machine.specs.declared.step.StepKind.TheVariants.{Act, Go, Lose, Again, Kill, Stub}
use Rattle.rss_machine.specs.declared.step.StepRefusal.{StepRefusal}
use Rattle.rss_machine.specs.declared.step.StepRefusal.TheVariants.{LogFull, Reading as Untimely, StageOver, Message, NotEnabled}

-- not enabled, or nothing
abbrev pub unless_enabled : Bool → Option StepRefusal
unless_enabled true = None
unless_enabled false = Some NotEnabled

-- why a step of this kind is refused, whatever the true moment
abbrev pub kind_refusal : Config → State → Reading → StepKind → Option StepRefusal
kind_refusal c s at (Act n) =
    if is_over (stage_at s n).life then Some StageOver else unless_enabled (is_enabled_at (act_enabling c s n) at.earliest)
kind_refusal c s at (Kill n) =
    if is_over (stage_at s n).life then Some StageOver else unless_enabled (is_live (stage_at s n).life)
kind_refusal c s at (Go m) = option_map Message (deliver_refusal s.net m)
kind_refusal c s at (Lose m) = option_map Message (lose_refusal s.net m)
kind_refusal c s at (Again m) = option_map Message (again_refusal s.net m)
kind_refusal c s at (Stub n) = unless_enabled (is_enabled_at (stub_enabling s n) at.earliest)

-- why a step is refused, if it is: the log is full, the reading contradicts an earlier one, or by its kind
unfoldable pub refusal : Config → State → Step → Option StepRefusal
refusal c s step =
    if nat_le c.max_steps s.steps then
    Some LogFull
    else
    (if admits s.moment step.at then
    kind_refusal c s step.at step.kind
    else
    Some (Untimely record { greatest_earliest = s.moment; latest = step.at.latest }))
