-- What messages, links, stubs, dependencies and operations are in every run.
use Rattle.std.specs.Prelude.{◌≡◌, ℕ, true, List, Some}
use Rattle.causal_context.specs.declared.dep.Dep.{Dep}
use Rattle.pipeline_lang.specs.declared.config.Config.{Config}
use Rattle.rss_model.specs.declared.op.Op.{Op}
use Rattle.rss_machine.specs.Run.{run}
use Rattle.rss_machine.specs.State.{State, owner_at}
use Rattle.rss_machine.specs.declared.session.OwnerKind.TheVariants as kind
use Rattle.rss_machine.specs.declared.step.Step.{Step}
use Rattle.world_laws.specs.Contexts.{AllDeps}
use Rattle.world_laws.specs.Numbered.{are_numbered}
use Rattle.world_laws.specs.Registers.{IsRegister}
use Rattle.world_laws.specs.Shapes.{IsSoundFile}
use Rattle.world_laws.specs.Traffic.{MessagesFit, LinksFit, StubsFit, OperationFits}

-- messages are of owners that have begun
abbrev pub MessagesAreOwned : Type 0
MessagesAreOwned = (c : Config) (steps : List Step) (s : State) → run c steps ≡ Some s → MessagesFit s

-- stages, owners and their exchanges are linked
abbrev pub LinksAreSound : Type 0
LinksAreSound = (c : Config) (steps : List Step) (s : State) → run c steps ≡ Some s → LinksFit s

-- calls are of the file's services, with few keys of the file
abbrev pub OperationsFitFiles : Type 0
OperationsFitFiles = (c : Config) (steps : List Step) (s : State) → IsSoundFile c → run c steps ≡ Some s → (o : ℕ) (x : Op) → (owner_at s o).kind ≡ kind.Calling x → OperationFits c x

-- stubs are of their stages, which are over, and rounds of dependencies store them
abbrev pub StubsAreOfStages : Type 0
StubsAreOfStages = (c : Config) (steps : List Step) (s : State) → IsSoundFile c → are_numbered steps ≡ true → run c steps ≡ Some s → StubsFit s

-- what is depended on are registers of the file
abbrev pub DependenciesAreOnRegisters : Type 0
DependenciesAreOnRegisters = (c : Config) (steps : List Step) (s : State) → IsSoundFile c → run c steps ≡ Some s → AllDeps (λ (dep : Dep). IsRegister c dep.key) s
