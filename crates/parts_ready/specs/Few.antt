-- How few there are of everything.
use Rattle.std.specs.Prelude.{ℕ, ◌≤◌, length, get_or}
use Rattle.world_parts.specs.Parts.{Staging, Traffic, pipe_in}

-- stages, pipes and the numbers that they give; owners, messages, and the fences that were planned
pub record AreFew (g : Staging) (t : Traffic) : Type 0 where
  pub stages : length g.stages ≤ 16
  pub pipes : length g.pipes ≤ 16
  pub next : (p : ℕ) → (pipe_in g p).next ≤ 200001
  pub owners : length t.owners ≤ 200001
  pub messages : length t.net ≤ 6400001
  pub planned : (place : ℕ) → get_or t.planned place 0 ≤ 3200000
