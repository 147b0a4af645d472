-- Copies of one context as contracts see them.
use Rattle.std.specs.Prelude.{◌≡◌, ℕ, ◌<◌, ◌≤◌}
use Rattle.causal_context.specs.Seen.{Seen}

-- what was seen, and how many copies there are of it
pub record CopiesView : Type 0 where
  pub seen : Seen
  pub count : ℕ

-- this many copies at least, of this, if there are to be any
pub record AreCopies (copies : CopiesView) (what : Seen) (many : ℕ) : Type 0 where
  pub seen : 0 < many → copies.seen ≡ what
  pub count : many ≤ copies.count
