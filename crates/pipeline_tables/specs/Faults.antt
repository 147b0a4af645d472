-- Faults and their places, and how steps that may fail are joined.
use Rattle.std.specs.Prelude.{◌≡◌, ℕ, Result, Ok, Err}
use Rattle.pipeline_tables.specs.declared.fault.FaultKind.{FaultKind}
use Rattle.pipeline_tables.specs.declared.fault.Table.{Table}
use Rattle.pipeline_tables.specs.declared.fault.FileKey.{FileKey}
use Rattle.pipeline_tables.specs.declared.fault.Place.{Place}
use Rattle.pipeline_tables.specs.declared.fault.FileFault.{FileFault}
use Rattle.pipeline_tables.specs.declared.fault.FileError.{FileError}
use Rattle.pipeline_tables.specs.declared.fault.FileError.TheVariants.{Fault, OutOfMemory}

-- a key of a table
abbrev pub key_place : Table → ℕ → FileKey → Place
key_place table number key = record { table = table; number = number; key = key; statement = 0; column = 0 }

-- a fault of a kind at a place
abbrev pub fault : FaultKind → Place → FileFault
fault kind place = record { kind = kind; place = place }

infixl 10 ◌>>=◌
-- what the file says next, or the first fault
abbrev pub ◌>>=◌ : {A B : Type 0} → Result A FileFault → (A → Result B FileFault) → Result B FileFault
(Ok x) >>= f = f x
(Err first) >>= f = Err first

-- an error tells the first fault; want of memory tells nothing
abbrev pub IsFault : {A : Type 0} → FileError → Result A FileFault → Type 0
IsFault (Fault first) said = said ≡ Err first
IsFault OutOfMemory said = Unit {0}

-- an answer tells what the file says, or its first fault
abbrev pub Tells : {A : Type 0} → Result A FileError → Result A FileFault → Type 0
Tells (Ok x) said = said ≡ Ok x
Tells (Err e) said = IsFault e said

-- the same of an answer that is seen by view
abbrev pub TellsOf : {X Y : Type 0} → (X → Y) → Result X FileError → Result Y FileFault → Type 0
TellsOf view (Ok x) said = said ≡ Ok (view x)
TellsOf view (Err e) said = IsFault e said

-- what a function returned, seen by view, is what the file says
abbrev pub Gives : {X Y : Type 0} → (X → Y) → Result X FileFault → Result Y FileFault → Type 0
Gives view (Ok x) said = said ≡ Ok (view x)
Gives view (Err first) said = said ≡ Err first
