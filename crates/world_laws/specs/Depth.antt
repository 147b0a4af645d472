-- How many blocks are open before a place of a script.
use Rattle.std.specs.Prelude.{ℕ, zero, suc, List, [], ◌∷◌}
use Rattle.rss_model.specs.Cursor.{NumberedStatement, depth_after}

-- the blocks that are open before a place, where so many are before the first
abbrev pub depth_from : ℕ → List NumberedStatement → ℕ → ℕ
depth_from depth [] place = depth
depth_from depth (s ∷ script) zero = depth
depth_from depth (s ∷ script) (suc place) = depth_from (depth_after s depth) script place

abbrev pub depth_at : List NumberedStatement → ℕ → ℕ
depth_at script place = depth_from 0 script place
