-- Each run of a file that is read keeps what every reported run owes.
use Rattle.std.proofs.Common.{◌≡◌, ℕ, suc, ◌≤◌, true, List, [], ◌∷◌, length, Ok, Some, All, refl, arith}
use Rattle.std.proofs.lemmas.Bool.Decides.{nat_tests}
use Rattle.std.proofs.lemmas.List.Elements.{All-cons, All-nil}
use Rattle.std.specs.Prelude.{nat_lt}
use Rattle.pipeline_lang.specs.declared.config.Config.{Config}
use Rattle.pipeline_file.specs.Document.{config_of}
use Rattle.policy_laws.proofs.Proper.{serial_proper}
use Rattle.promise_laws.proofs.Promised.{promised_run}
use Rattle.rss_machine.specs.Headline.{KeepsPromise}
use Rattle.rss_machine.specs.Run.{run, readings_of}
use Rattle.rss_machine.specs.Serial.{serial}
use Rattle.rss_machine.specs.State.{State}
use Rattle.rss_machine.specs.declared.step.Step.{Step}
use Rattle.rss_machine.specs.declared.step.StepKind.{StepKind}
use Rattle.rss_machine.specs.declared.step.StepKind.TheVariants.{Act, Go, Lose, Again, Kill, Stub}
use Rattle.sound_laws.proofs.Sound.{files_are_sound}
use Rattle.step_text.specs.Spelling.{IsKind, IsStep}
use Rattle.world_laws.specs.Laws.{IsOrdered}
use Rattle.world_laws.specs.Numbered.{is_numbered, are_numbered}
use Rattle.world_laws.specs.Shapes.{IsSoundFile}

-- a file that is read is sound
pub read_sound : (file : List ℕ) (c : Config) → config_of file ≡ Ok c → IsSoundFile c
read_sound file c e = files_are_sound file c e

-- and has few registers
pub few_registers : (c : Config) → IsSoundFile c → length c.register_services ≤ 64
few_registers c f = let l = f.within.registers in let same = f.within.listed in omega (arith, same, l)

-- what holds of each of these steps holds of the first and of those behind it
first_is : (step : Step) (steps : List Step) → All IsStep (step ∷ steps) → IsStep step
first_is step steps g = g 0 step (omega arith)

others_are : (step : Step) (steps : List Step) → All IsStep (step ∷ steps) → All IsStep steps
others_are step steps g = λ k d l. g (suc k) d (omega (arith, l))

-- each step of the grammar begins its reading no later than it ends
ordered : (steps : List Step) → All IsStep steps → All IsOrdered (readings_of steps)
ordered [] g = All-nil IsOrdered
ordered (step ∷ steps) g =
    All-cons IsOrdered step.at (readings_of steps) (first_is step steps g).at.0 (ordered steps (others_are step steps g))

-- and names its stage, if it names one, by its number from 1
from_one : (n : ℕ) → 1 ≤ n → nat_lt 0 n ≡ true
from_one n l = grind (arith, nat_tests, l)

numbered_kind : (kind : StepKind) → IsKind kind → is_numbered kind ≡ true
unfolding IsKind
numbered_kind (Act n) k = from_one n k.0
numbered_kind (Kill n) k = from_one n k.0
numbered_kind (Stub n) k = from_one n k.0
numbered_kind (Go m) k = refl
numbered_kind (Lose m) k = refl
numbered_kind (Again m) k = refl

numbered : (steps : List Step) → All IsStep steps → are_numbered steps ≡ true
numbered [] g = refl
numbered (step ∷ steps) g =
    rw (numbered_kind step.kind (first_is step steps g).kind) (numbered steps (others_are step steps g))

-- what every reported run owes, of steps of the grammar over a file that is read
pub keeps_promise : (c : Config) (steps : List Step) (s : State) → IsSoundFile c → All IsStep steps → run c steps ≡ Some s → KeepsPromise c steps
keeps_promise c steps s f g e = promised_run c steps s f (ordered steps g) (numbered steps g) e

-- and so does that of the serial policy
pub policy_keeps_promise : (c : Config) (s : State) → IsSoundFile c → run c (serial c) ≡ Some s → KeepsPromise c (serial c)
policy_keeps_promise c s f e = let p = serial_proper c in promised_run c (serial c) s f p.ordered p.numbered e
