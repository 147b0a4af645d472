-- The copy that lies ready.
use Rattle.std.proofs.Common.{◌≡◌, ◌<◌, arith}
use Rattle.causal_context.specs.Seen.{Seen}
use Rattle.pipeline_stage.specs.CopiesView.{CopiesView, AreCopies}

pub copy_is : (copies : CopiesView) (what : Seen) → AreCopies copies what 1 → copies.seen ≡ what
copy_is copies what h = h.seen (omega arith)

pub copy_there : (copies : CopiesView) (what : Seen) → AreCopies copies what 1 → 0 < copies.count
copy_there copies what h = let c = h.count in omega (arith, c)
