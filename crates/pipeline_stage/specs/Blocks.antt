-- The open blocks as the tables have them.
use Rattle.std.specs.Prelude.{List, [], ◌∷◌}
use Rattle.rss_model.specs.Cursor.{Block}
use Rattle.pipeline_stage.specs.declared.blocks.Open.{Open}
use Rattle.pipeline_stage.specs.declared.blocks.Blocks.{Blocks}
use Rattle.pipeline_stage.specs.declared.blocks.Blocks.TheVariants as blocks

-- an open block
abbrev pub block_of : Open → Block
block_of open_block = record { first = open_block.first; turns = open_block.turns }

-- the open blocks, from the inside out
abbrev pub blocks_of : Blocks → List Block
blocks_of blocks.None = []
blocks_of (blocks.One a) = block_of a ∷ []
blocks_of (blocks.Two a b) = block_of a ∷ block_of b ∷ []
blocks_of (blocks.Three a b c) = block_of a ∷ block_of b ∷ block_of c ∷ []
blocks_of (blocks.Four a b c d) = block_of a ∷ block_of b ∷ block_of c ∷ block_of d ∷ []
