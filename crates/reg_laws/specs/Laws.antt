-- What holds of rounds and of what replicas keep, in every run.
use Rattle.std.specs.Prelude.{◌≡◌, List, ◌++◌, Some, ◌∷◌}
use Rattle.pipeline_lang.specs.declared.config.Config.{Config}
use Rattle.rss_machine.specs.Effect.{stepped}
use Rattle.rss_machine.specs.Run.{run}
use Rattle.rss_machine.specs.State.{State}
use Rattle.rss_machine.specs.declared.step.Step.{Step}
use Rattle.world_laws.specs.Registers.{NamesRegisters}
use Rattle.reg_laws.specs.Stored.{StampsName, HoldsStored}
use Rattle.reg_laws.specs.Files.{IsInOrder}
use Rattle.reg_laws.specs.Told.{RepliesProve, RepliesTell}
use Rattle.reg_laws.specs.Rounds.{EndsHeld, RoundsSee, SeesSteps}
use Rattle.reg_laws.specs.Line.{ReadsLegal, PlacesInside, SeenFrom, FixesSettled, EndsInTime, FixesFirst, AfterEntry, CoveredBefore, FixesEnd}
use Rattle.reg_laws.specs.Agree.{AllAgree}
use Rattle.reg_laws.specs.Awaited.{CurrentsAwaited, RepliesAreOwn}

-- each current exchange is awaited
abbrev pub CurrentsAreAwaited : Type 0
CurrentsAreAwaited = (c : Config) (steps : List Step) (s : State) → run c steps ≡ Some s → CurrentsAwaited s

-- a reply that is heard in a round answers the round's own request
abbrev pub HeardRepliesAreOwn : Type 0
HeardRepliesAreOwn = (c : Config) (steps : List Step) (s : State) → run c steps ≡ Some s → RepliesAreOwn s

-- one stamp is of one register, one value and one writer
abbrev pub StampsAreUnique : Type 0
StampsAreUnique = (c : Config) (steps : List Step) (s : State) → NamesRegisters c → run c steps ≡ Some s → StampsName s.net

-- what is held, depended on and shown was stored
abbrev pub WhatIsHeldWasStored : Type 0
WhatIsHeldWasStored = (c : Config) (steps : List Step) (s : State) → NamesRegisters c → run c steps ≡ Some s → HoldsStored c s

-- replies prove what replicas hold
abbrev pub RepliesProveHolding : Type 0
RepliesProveHolding = (c : Config) (steps : List Step) (s : State) → IsInOrder c → run c steps ≡ Some s → RepliesProve s

-- replies tell of each moment before their request was sent
abbrev pub RepliesTellOfBefore : Type 0
RepliesTellOfBefore =
    (c : Config) (steps more : List Step) (u s : State) → run c steps ≡ Some u → run c (steps ++ more) ≡ Some s → RepliesTell u s

-- what a call ends with is held
abbrev pub EndsAreHeld : Type 0
EndsAreHeld = (c : Config) (steps : List Step) (s : State) → IsInOrder c → run c steps ≡ Some s → EndsHeld s

-- a call finds what a majority held before its own first round
abbrev pub RoundsSeeWhatWasHeld : Type 0
RoundsSeeWhatWasHeld =
    (c : Config) (steps more : List Step) (u s : State) → IsInOrder c → run c steps ≡ Some u → run c (steps ++ more) ≡ Some s → RoundsSee u s

-- a call sees each stamp whose step is not later than that of its own first round
abbrev pub RoundsSeeSteps : Type 0
RoundsSeeSteps = (c : Config) (steps : List Step) (s : State) → IsInOrder c → run c steps ≡ Some s → SeesSteps c steps s

-- each read that has ended replied what the last write before it wrote
abbrev pub ReadsAreLegal : Type 0
ReadsAreLegal = (c : Config) (steps : List Step) (s : State) → IsInOrder c → run c steps ≡ Some s → ReadsLegal s

-- calls take effect after they begin
abbrev pub PlacesAreInside : Type 0
PlacesAreInside = (c : Config) (steps : List Step) (s : State) → IsInOrder c → run c steps ≡ Some s → PlacesInside s

-- what has ended takes effect by then, and later calls see it
abbrev pub EndsAreSeen : Type 0
EndsAreSeen =
    (c : Config) (steps more : List Step) (u s : State) → IsInOrder c → run c steps ≡ Some u → run c (steps ++ more) ≡ Some s → SeenFrom c (steps ++ more) u s

-- what owners have under way is of what they do
abbrev pub SessionsAgree : Type 0
SessionsAgree = (c : Config) (steps : List Step) (s : State) → run c steps ≡ Some s → AllAgree s

-- a round of dependencies that is done has settled them
abbrev pub FixesSettle : Type 0
FixesSettle =
    (c : Config) (steps more : List Step) (u s : State) → IsInOrder c → run c steps ≡ Some u → run c (steps ++ more) ≡ Some s → FixesSettled c (steps ++ more) u s

-- what has ended has its step by its end, and later calls see it
abbrev pub EndsAreInTime : Type 0
EndsAreInTime = (c : Config) (steps : List Step) (s : State) → IsInOrder c → run c steps ≡ Some s → EndsInTime c steps s

-- a round of dependencies is done before its owner's own first round
abbrev pub FixesComeFirst : Type 0
FixesComeFirst =
    (c : Config) (steps more : List Step) (u s : State) → IsInOrder c → run c steps ≡ Some u → run c (steps ++ more) ≡ Some s → FixesFirst c (steps ++ more) u s

-- calls take effect after they enter their service
abbrev pub EffectsFollowEntry : Type 0
EffectsFollowEntry = (c : Config) (steps : List Step) (s : State) → IsInOrder c → run c steps ≡ Some s → AfterEntry s

-- calls stand after what was covered when they sent their own first round
abbrev pub CoveredStandBefore : Type 0
CoveredStandBefore =
    (c : Config) (steps more : List Step) (u s : State) → IsInOrder c → run c steps ≡ Some u → run c (steps ++ more) ≡ Some s → CoveredBefore c (steps ++ more) u s

-- a round of dependencies that ends has settled them before
abbrev pub FixesEndSettled : Type 0
FixesEndSettled =
    (c : Config) (steps more : List Step) (next : Step) (u s : State) → IsInOrder c → run c steps ≡ Some u → run c (steps ++ next ∷ more) ≡ Some s → FixesEnd c (steps ++ next ∷ more) u (stepped c u next) s
