-- Which requests a target handled in a run, from the steps and all messages that were ever sent.
use Rattle.std.specs.Prelude.{ℕ, List, [], ◌∷◌, ◌++◌, Option, Some, None, if◌then◌else◌}
use Rattle.rss_names.specs.declared.service.Target.{Target}
use Rattle.rss_wire.specs.Messages.{envelope_at, request_at, same_target}
use Rattle.rss_wire.specs.declared.envelope.Envelope.{Envelope}
use Rattle.rss_wire.specs.declared.message.Message.{Message}
use Rattle.rss_wire.specs.declared.messages.Request.{Request}
use Rattle.rss_machine.specs.declared.step.Step.{Step}
use Rattle.rss_machine.specs.declared.step.StepKind.{StepKind}
use Rattle.rss_machine.specs.declared.step.StepKind.TheVariants.{Act, Go, Lose, Again, Kill, Stub}

-- the request with this outside, in a list of its own, where it is one to the target
abbrev pub asked_of : Target → Option Envelope → Option Request → List Request
asked_of target None r = []
asked_of target (Some e) None = []
asked_of target (Some e) (Some r) = if same_target e.target target then r ∷ [] else []

-- what the message of this number brings to the target
abbrev pub brought : List Message → Target → ℕ → List Request
brought net target m = asked_of target (envelope_at net m) (request_at net m)

-- what a step of this kind brings to the target: a delivery the request, and so does a delivery once more
abbrev pub brought_by : List Message → Target → StepKind → List Request
brought_by net target (Go m) = brought net target m
brought_by net target (Again m) = brought net target m
brought_by net target (Act n) = []
brought_by net target (Lose m) = []
brought_by net target (Kill n) = []
brought_by net target (Stub n) = []

-- the requests that the target handled in these steps, in order
abbrev pub handled_by : List Message → Target → List Step → List Request
handled_by net target [] = []
handled_by net target (step ∷ steps) = brought_by net target step.kind ++ handled_by net target steps
