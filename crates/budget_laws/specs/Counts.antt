-- How many steps of each sort a list has, how many requests were sent, and how many messages may still come of them.
use Rattle.std.specs.Prelude.{ℕ, ◌+◌, Bool, true, false, List, [], ◌∷◌, if◌then◌else◌}
use Rattle.rss_wire.specs.Messages.{is_pending}
use Rattle.rss_wire.specs.declared.message.Message.{Message}
use Rattle.rss_machine.specs.declared.step.Step.{Step}
use Rattle.rss_machine.specs.declared.step.StepKind.{StepKind}
use Rattle.rss_machine.specs.declared.step.StepKind.TheVariants.{Act, Go, Lose, Again, Kill, Stub}
use Rattle.world_laws.specs.Exchanges.{is_request}

-- a sum over the elements of a list
abbrev pub sum_of : {X : Type 0} → (X → ℕ) → List X → ℕ
sum_of f [] = 0
sum_of f (x ∷ xs) = f x + sum_of f xs

-- a step that a stage or its stub makes, or by which a stage dies
abbrev pub own_of : StepKind → ℕ
own_of (Act n) = 1
own_of (Stub n) = 1
own_of (Kill n) = 1
own_of (Go m) = 0
own_of (Lose m) = 0
own_of (Again m) = 0

-- a step in which a message comes or is lost
abbrev pub moved_of : StepKind → ℕ
moved_of (Go m) = 1
moved_of (Lose m) = 1
moved_of (Act n) = 0
moved_of (Stub n) = 0
moved_of (Kill n) = 0
moved_of (Again m) = 0

-- a step in which a message is lost
abbrev pub lost_of : StepKind → ℕ
lost_of (Lose m) = 1
lost_of (Go m) = 0
lost_of (Act n) = 0
lost_of (Stub n) = 0
lost_of (Kill n) = 0
lost_of (Again m) = 0

-- a step in which a message comes once more
abbrev pub again_of : StepKind → ℕ
again_of (Again m) = 1
again_of (Go m) = 0
again_of (Lose m) = 0
again_of (Act n) = 0
again_of (Stub n) = 0
again_of (Kill n) = 0

abbrev pub own_steps : List Step → ℕ
own_steps steps = sum_of (λ (step : Step). own_of step.kind) steps

abbrev pub moved_steps : List Step → ℕ
moved_steps steps = sum_of (λ (step : Step). moved_of step.kind) steps

abbrev pub lost_steps : List Step → ℕ
lost_steps steps = sum_of (λ (step : Step). lost_of step.kind) steps

abbrev pub again_steps : List Step → ℕ
again_steps steps = sum_of (λ (step : Step). again_of step.kind) steps

-- a message that is a request
abbrev pub request_of : Message → ℕ
request_of m = if is_request m.body then 1 else 0

-- how many messages may still come of one that was sent: a request that is still to come has a reply behind it
abbrev pub open_of : Message → ℕ
open_of m = if is_pending m.fate then (if is_request m.body then 2 else 1) else 0

abbrev pub requests : List Message → ℕ
requests net = sum_of request_of net

abbrev pub open_count : List Message → ℕ
open_count net = sum_of open_of net
