-- The clock of a run, as a part of the machine's state.
use Rattle.std.specs.Prelude.{◌+◌, [], ◌∷◌, ◌++◌}
use Rattle.truetime.specs.Reading.{Reading}
use Rattle.truetime.specs.TrueMoment.{moment_after}
use Rattle.world_parts.specs.Parts.{Clock as Part}
use Rattle.world_machine.specs.declared.clock.Clock.{Clock}

abbrev pub clock_in : Clock → Part
clock_in k = record { steps = k.steps; moment = k.moment; moments = k.moments.items }

-- a step is counted, and its reading taken
abbrev pub ticked : Part → Reading → Part
ticked k at = record {
  steps = k.steps + 1;
  moment = moment_after k.moment at;
  moments = k.moments ++ moment_after k.moment at ∷ [];
}
