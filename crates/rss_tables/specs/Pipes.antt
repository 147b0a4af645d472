-- A pipe between two stages: its chunks in order, and its end mark.
use Rattle.std.specs.Prelude.{ℕ, ◌+◌, Bool, true, false, List, [], ◌∷◌, ◌++◌, drop, length, nat_lt, Option, Some, None, if◌then◌else◌}
use Rattle.causal_context.specs.Seen.{Seen}

-- a chunk: its number in the pipe from 1, its value, and a copy of its giver's context
pub record Chunk : Type 0 where
  pub number : ℕ
  pub value : ℕ
  pub context : Seen

-- the end mark of a pipe: numbered and with a context where its giver ended fenced, bare where it
-- died unfenced
pub data EndMark : Type 0 where
  no_mark : EndMark
  fenced_mark : ℕ → Seen → EndMark
  bare_mark : EndMark

-- a pipe: its chunks, the number of the next chunk or end mark, and its end mark
pub record Pipe : Type 0 where
  pub chunks : List Chunk
  pub next : ℕ
  pub mark : EndMark

-- a pipe into which nothing was put yet
abbrev pub opening_pipe : Pipe
opening_pipe = record { chunks = []; next = 1; mark = no_mark }

-- whether a pipe has an end mark
abbrev pub is_marked : EndMark → Bool
is_marked no_mark = false
is_marked (fenced_mark number seen) = true
is_marked bare_mark = true

-- whether a pipe has room for a chunk; its end mark does not count
abbrev pub has_room : Pipe → ℕ → Bool
has_room pipe capacity = nat_lt (length pipe.chunks) capacity

-- whether there is something to take: a chunk, or the end mark
abbrev pub can_take : List Chunk → EndMark → Bool
can_take [] mark = is_marked mark
can_take (chunk ∷ chunks) mark = true

-- a chunk is put last; where nobody will take it, it is dropped, and counts all the same
abbrev pub pipe_put : Pipe → ℕ → Seen → Bool → Pipe
pipe_put pipe value seen true = record pipe { next = pipe.next + 1 }
pipe_put pipe value seen false = record pipe {
  chunks = pipe.chunks ++ record { number = pipe.next; value = value; context = seen } ∷ [];
  next = pipe.next + 1;
}

-- the first chunk is taken
abbrev pub pipe_taken : Pipe → Pipe
pipe_taken pipe = record pipe { chunks = drop 1 pipe.chunks }

-- the pipe is closed: its end mark is numbered after the last chunk
abbrev pub pipe_closed : Pipe → Seen → Pipe
pipe_closed pipe seen = record pipe { next = pipe.next + 1; mark = fenced_mark pipe.next seen }

-- the pipe ends unfenced
abbrev pub pipe_cut_off : Pipe → Pipe
pipe_cut_off pipe = record pipe { mark = bare_mark }
