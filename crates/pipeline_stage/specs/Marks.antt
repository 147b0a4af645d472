-- What lies first in a pipe.
use Rattle.std.specs.Prelude.{List, [], ◌∷◌, Option, Some, None}
use Rattle.causal_context.specs.Seen.{Seen}
use Rattle.rss_tables.specs.Pipes.{Chunk, EndMark, no_mark, fenced_mark, bare_mark}
use Rattle.pipeline_stage.specs.declared.pipe.Mark.{Mark}
use Rattle.pipeline_stage.specs.declared.pipe.Mark.TheVariants as mark
use Rattle.pipeline_stage.specs.declared.pipe.Front.{Front}
use Rattle.pipeline_stage.specs.declared.pipe.Front.TheVariants as front

-- the end mark as the tables have it
abbrev pub mark_of : Mark → EndMark
mark_of mark.Open = no_mark
mark_of (mark.Fenced number context) = fenced_mark number context.seen
mark_of mark.Bare = bare_mark

-- what is told of the end mark
abbrev pub front_mark : EndMark → Front
front_mark no_mark = front.Nothing
front_mark (fenced_mark number seen) = front.Fenced number
front_mark bare_mark = front.Bare

-- what is told of what a take meets: the first chunk, or the end mark
abbrev pub front_of : List Chunk → EndMark → Front
front_of [] m = front_mark m
front_of (chunk ∷ chunks) m = front.Chunk chunk.number chunk.value

-- the context that lies with an end mark
abbrev pub mark_context : EndMark → Option Seen
mark_context no_mark = None
mark_context (fenced_mark number seen) = Some seen
mark_context bare_mark = None

-- the context that lies with what a take meets, if one does
abbrev pub lying : List Chunk → EndMark → Option Seen
lying [] m = mark_context m
lying (chunk ∷ chunks) m = Some chunk.context
