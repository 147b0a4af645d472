-- A context as contracts see it.
use Rattle.std.specs.Prelude.{ℕ, ◌+◌, length}
use Rattle.causal_context.specs.Seen.{Seen, nothing_seen}

-- what a stage has seen, and for how many more dependencies there is room
pub record ContextView : Type 0 where
  pub seen : Seen
  pub spare : ℕ

-- nothing was seen yet, and there is no room
abbrev pub empty_context : ContextView
empty_context = record { seen = nothing_seen; spare = 0 }

-- for how many dependencies there is room in all
abbrev pub room : ContextView → ℕ
room c = length c.seen.deps + c.spare
