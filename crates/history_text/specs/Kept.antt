-- A history while it is read, with its index.
use Rattle.history_index.specs.Kept.{Indexes}
use Rattle.history_text.specs.declared.reading.Reading.TheInside.{Inside}

pub record IsKept (r : Inside) : Type 0 where
  pub indexed : Indexes r.entries.items r.index
