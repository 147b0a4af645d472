-- How the line of an entry is read, behind the entries above it.
use Rattle.std.specs.Prelude.{ℕ, ◌-◌, ◌^◌, cond, List, [], ◌∷◌, Option, Some, None, codes}
use Rattle.rss_names.specs.declared.service.Key.{Key}
use Rattle.pipeline_lang.specs.declared.config.Config.{Config}
use Rattle.pipeline_lang.specs.Config.{key_name}
use Rattle.pipeline_lang.specs.Terms.{number}
use Rattle.rss_model.specs.declared.op.Shown.{Shown}
use Rattle.rss_model.specs.declared.history.Entry.{Entry}
use Rattle.rss_model.specs.declared.history.Entry.TheVariants.{Begin, End, Give, Get, Over}
use Rattle.rss_model.specs.declared.history.Token.{Token}
use Rattle.rss_model.specs.declared.history.Token.TheVariants.{Spawn, Chunk, Exit}
use Rattle.rss_model.specs.declared.history.How.{How}
use Rattle.rss_model.specs.declared.history.How.TheVariants.{Exited, Killed, Unavailable}
use Rattle.rss_model.specs.Operation.{reads_of}
use Rattle.rss_model.specs.History.{op_of}
use Rattle.history_text.specs.Reading.{◌>>=◌, begins, behind, word_at, token_at, ranged, at_end}
use Rattle.history_text.specs.Named.{stage_named, pipe_named}
use Rattle.history_text.specs.Operations.{op_at}
use Rattle.history_index.specs.Following.{is_open, may_follow}

-- the number of a call or a chunk
abbrev pub count_at : List ℕ → Option (ℕ × List ℕ)
count_at bytes = token_at (ranged 1 (2 ^ 32 - 1)) bytes

-- the name of a stage
abbrev pub stage_at : Config → List ℕ → Option (ℕ × List ℕ)
stage_at config bytes = token_at (stage_named config) bytes

-- `N STAGE OP` behind `begin `
unfoldable pub begin_at : Config → List ℕ → Option (Entry × List ℕ)
begin_at config bytes = do
  call ← count_at bytes
  first ← word_at (codes " ") call.1
  stage ← stage_at config first
  second ← word_at (codes " ") stage.1
  op ← op_at config second
  Some (Begin call.0 stage.0 op.0, op.1)

-- `KEY = V by W` of this key
unfoldable pub shown_at : Config → Key → List ℕ → Option (Shown × List ℕ)
shown_at config key bytes = do
  first ← word_at (key_name config key) bytes
  second ← word_at (codes " = ") first
  value ← token_at number second
  third ← word_at (codes " by ") value.1
  writer ← token_at (ranged 0 (2 ^ 32 - 1)) third
  Some (record { key = key; value = value.0; writer = writer.0 }, writer.1)

-- the same behind `, `
unfoldable pub next_shown_at : Config → Key → List ℕ → Option (Shown × List ℕ)
next_shown_at config key bytes = do
  rest ← word_at (codes ", ") bytes
  shown_at config key rest

-- what is shown of these keys, behind that of another
unfoldable pub more_shown_at : Config → List Key → List ℕ → Option (List Shown × List ℕ)
more_shown_at config [] bytes = Some ([], bytes)
more_shown_at config (key ∷ keys) bytes = do
  shown ← next_shown_at config key bytes
  more ← more_shown_at config keys shown.1
  Some (shown.0 ∷ more.0, more.1)

-- what is shown of these keys
unfoldable pub all_shown_at : Config → List Key → List ℕ → Option (List Shown × List ℕ)
all_shown_at config [] bytes = Some ([], bytes)
all_shown_at config (key ∷ keys) bytes = do
  rest ← word_at (codes " ") bytes
  shown ← shown_at config key rest
  more ← more_shown_at config keys shown.1
  Some (shown.0 ∷ more.0, more.1)

-- the reply of a call that is open
unfoldable pub reply_at : Config → List Entry → ℕ → List ℕ → Option (List Shown × List ℕ)
reply_at config above call bytes =
    cond (is_open above call) (all_shown_at config (reads_of (op_of above call)) bytes) None

-- `N` and the reply behind `end `
unfoldable pub end_at : Config → List Entry → List ℕ → Option (Entry × List ℕ)
end_at config above bytes = do
  call ← count_at bytes
  reply ← reply_at config above call.0 call.1
  Some (End call.0 reply.0, reply.1)

-- `STAGE` behind `spawn `
unfoldable pub spawn_at : Config → List ℕ → Option (Token × List ℕ)
spawn_at config bytes = do
  stage ← stage_at config bytes
  Some (Spawn stage.0, stage.1)

-- `PIPE N` behind `chunk `
unfoldable pub chunk_at : Config → List ℕ → Option (Token × List ℕ)
chunk_at config bytes = do
  pipe ← token_at (pipe_named config) bytes
  rest ← word_at (codes " ") pipe.1
  n ← count_at rest
  Some (Chunk pipe.0 n.0, n.1)

-- `STAGE` behind `exit `
unfoldable pub exit_at : Config → List ℕ → Option (Token × List ℕ)
exit_at config bytes = do
  stage ← stage_at config bytes
  Some (Exit stage.0, stage.1)

-- a message
unfoldable pub message_at : Config → List ℕ → Option (Token × List ℕ)
message_at config bytes =
    cond (begins (codes "spawn ") bytes) (spawn_at config (behind (codes "spawn ") bytes))
    (cond (begins (codes "chunk ") bytes) (chunk_at config (behind (codes "chunk ") bytes))
    (cond (begins (codes "exit ") bytes) (exit_at config (behind (codes "exit ") bytes))
    None))

-- `STAGE TOKEN` behind `give `
unfoldable pub give_at : Config → List ℕ → Option (Entry × List ℕ)
give_at config bytes = do
  stage ← stage_at config bytes
  rest ← word_at (codes " ") stage.1
  token ← message_at config rest
  Some (Give stage.0 token.0, token.1)

-- `STAGE TOKEN` behind `get `
unfoldable pub get_at : Config → List ℕ → Option (Entry × List ℕ)
get_at config bytes = do
  stage ← stage_at config bytes
  rest ← word_at (codes " ") stage.1
  token ← message_at config rest
  Some (Get stage.0 token.0, token.1)

-- how a stage is over
unfoldable pub how_at : List ℕ → Option (How × List ℕ)
how_at bytes =
    cond (begins (codes "exited") bytes) (Some (Exited, behind (codes "exited") bytes))
    (cond (begins (codes "killed") bytes) (Some (Killed, behind (codes "killed") bytes))
    (cond (begins (codes "unavailable") bytes) (Some (Unavailable, behind (codes "unavailable") bytes))
    None))

-- `STAGE` and how it is over behind `over `
unfoldable pub over_at : Config → List ℕ → Option (Entry × List ℕ)
over_at config bytes = do
  stage ← stage_at config bytes
  rest ← word_at (codes " ") stage.1
  how ← how_at rest
  Some (Over stage.0 how.0, how.1)

-- an entry, in any of the five forms
unfoldable pub entry_at : Config → List Entry → List ℕ → Option (Entry × List ℕ)
entry_at config above bytes =
    cond (begins (codes "begin ") bytes) (begin_at config (behind (codes "begin ") bytes))
    (cond (begins (codes "end ") bytes) (end_at config above (behind (codes "end ") bytes))
    (cond (begins (codes "give ") bytes) (give_at config (behind (codes "give ") bytes))
    (cond (begins (codes "get ") bytes) (get_at config (behind (codes "get ") bytes))
    (cond (begins (codes "over ") bytes) (over_at config (behind (codes "over ") bytes))
    None))))

-- an entry that may stand behind these
abbrev pub standing : List Entry → Entry → Option Entry
standing above e = cond (may_follow above e) (Some e) None

-- the entry of a whole line that may stand behind these
unfoldable pub line_at : Config → List Entry → List ℕ → Option Entry
line_at config above bytes = do
  entry ← entry_at config above bytes
  whole ← at_end entry
  standing above whole

-- the call of a whole line `place N`
unfoldable pub place_at : List ℕ → Option ℕ
place_at bytes = do
  rest ← word_at (codes "place ") bytes
  call ← count_at rest
  at_end call
