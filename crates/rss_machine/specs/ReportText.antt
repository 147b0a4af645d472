-- The report's text, from the history, the places, the stages and the ending.
use Rattle.std.specs.Prelude.{ℕ, zero, suc, ◌+◌, ◌-◌, Bool, true, false, ◌==◌, not, List, [], ◌∷◌, ◌++◌, length, map, get_or, Option, Some, None, codes, if◌then◌else◌}
use Rattle.std.specs.Fmt.{decimal}
use Rattle.rss_names.specs.declared.service.Key.{Key}
use Rattle.rss_names.specs.declared.service.ServiceId.{ServiceId}
use Rattle.rss_names.specs.declared.service.Target.{Target}
use Rattle.rss_names.specs.declared.service.Target.TheVariants.{Shard, Replica}
use Rattle.causal_context.specs.Services.{place_of}
use Rattle.pipeline_lang.specs.declared.config.Config.{Config}
use Rattle.pipeline_lang.specs.declared.config.ServiceDef.{ServiceDef}
use Rattle.pipeline_lang.specs.Config.{stage_name, shard_name, pipe_name, key_name}
use Rattle.rss_model.specs.declared.op.Op.{Op}
use Rattle.rss_model.specs.declared.op.Op.TheVariants as op
use Rattle.rss_model.specs.declared.op.Shown.{Shown}
use Rattle.rss_model.specs.declared.history.Entry.{Entry}
use Rattle.rss_model.specs.declared.history.Entry.TheVariants.{Begin, End, Give, Get, Over}
use Rattle.rss_model.specs.declared.history.How.{How}
use Rattle.rss_model.specs.declared.history.How.TheVariants.{Exited, Killed, Unavailable}
use Rattle.rss_model.specs.History.{has_ended, reply_of}
use Rattle.rss_model.specs.Legal.{table_at, shown_by}
use Rattle.rss_model.specs.Operation.{written_by, guard_holds, values_of}
use Rattle.rss_tables.specs.declared.endings.Await.{Await}
use Rattle.rss_tables.specs.declared.endings.Await.TheVariants as await
use Rattle.rss_tables.specs.declared.endings.StubEnd.{StubEnd}
use Rattle.rss_tables.specs.declared.endings.StubEnd.TheVariants.{Fenced, Unfenced}
use Rattle.rss_machine.specs.Endings.{ending_of}
use Rattle.rss_machine.specs.Places.{places_of, placed_calls}
use Rattle.rss_machine.specs.Standing.{stage_state}
use Rattle.rss_machine.specs.State.{State, owner_at}
use Rattle.rss_machine.specs.Turns.{next_for}
use Rattle.rss_machine.specs.declared.ending.Ending.{Ending}
use Rattle.rss_machine.specs.declared.ending.Ending.TheVariants as ending
use Rattle.rss_machine.specs.declared.ending.StageState.{StageState}
use Rattle.rss_machine.specs.declared.ending.StageState.TheVariants as standing
use Rattle.rss_machine.specs.declared.place.Placed.{Placed}
use Rattle.rss_machine.specs.declared.state.OwnerFate.{OwnerFate}
use Rattle.rss_machine.specs.declared.state.OwnerFate.TheVariants as fate
use Rattle.rss_machine.specs.declared.turn.Turn.{Turn}
use Rattle.rss_machine.specs.declared.turn.Turn.TheVariants as turn

-- the end of a line
abbrev pub newline : List ℕ
newline = 10 ∷ []

-- texts with `, ` between them
abbrev pub joined : List (List ℕ) → List ℕ
joined [] = []
joined (t ∷ []) = t
joined (t ∷ texts) = t ++ codes ", " ++ joined texts

-- the place of a call, if it is placed
abbrev pub place_in : ℕ → List Placed → Option ℕ
place_in call [] = None
place_in call (placed ∷ places) = if placed.call == call then Some placed.place else place_in call places

-- what a placed call without End would be shown: what the calls before it in the order have written
abbrev pub shown_at_place : List Entry → List ℕ → Op → Option ℕ → Option (List Shown)
shown_at_place h order o None = None
shown_at_place h order o (Some place) = Some (shown_by (table_at h order (place - 1)) o)

-- what is known of a call's reads: its reply, or what it would be shown at its place
abbrev pub known_reply : List Entry → List ℕ → ℕ → Op → Option ℕ → Option (List Shown)
known_reply h order call o place =
    if has_ended h call then Some (reply_of h call) else shown_at_place h order o place

-- `KEY = V by W`
abbrev pub shown_text : Config → Shown → List ℕ
shown_text c shown = key_name c shown.key ++ codes " = " ++ decimal shown.value ++ codes " by " ++ decimal shown.writer

-- `KEY = V`
abbrev pub written_text : Config → Key × ℕ → List ℕ
written_text c write = key_name c write.0 ++ codes " = " ++ decimal write.1

-- what was read, behind the word and a space
abbrev pub reads_text : Config → List Shown → List ℕ
reads_text c [] = []
reads_text c (shown ∷ rest) = codes " " ++ joined (map (shown_text c) (shown ∷ rest))

-- what a transaction wrote over what it read; one whose guard failed wrote nothing
abbrev pub writes_text : Config → Op → List ℕ → List ℕ
writes_text c o values =
    if guard_holds o values then joined (map (written_text c) (written_by o values)) else codes "failed"

-- the operation and what is known of it: the word alone of a call that is neither ended nor placed
abbrev pub body_text : Config → Op → Option (List Shown) → List ℕ
body_text c (op.Read key) (Some reply) = codes "read" ++ reads_text c reply
body_text c (op.Read key) None = codes "read"
body_text c (op.Write key value) (Some reply) = codes "write " ++ key_name c key ++ codes " " ++ decimal value
body_text c (op.Write key value) None = codes "write"
body_text c (op.Snap keys) (Some reply) = codes "snap" ++ reads_text c reply
body_text c (op.Snap keys) None = codes "snap"
body_text c (op.Txn reads guard writes) (Some reply) =
    codes "txn" ++ reads_text c reply ++ codes " : " ++ writes_text c (op.Txn reads guard writes) (values_of reply)
body_text c (op.Txn reads guard writes) None = codes "txn"

-- how a call stands that has not ended well: open, or unavailable by the target that was cut off
abbrev pub call_state_text : Config → OwnerFate → List ℕ
call_state_text c fate.Ended = codes " ok"
call_state_text c fate.Running = codes " open"
call_state_text c fate.Dropped = codes " open"
call_state_text c (fate.CutOff (Shard shard)) = codes " unavailable shard " ++ shard_name c shard
call_state_text c (fate.CutOff (Replica service replica)) = codes " unavailable quorum"

-- the place of a placed call
abbrev pub place_text : Option ℕ → List ℕ
place_text None = []
place_text (Some place) = codes " place " ++ decimal place

-- the line of a call
unfoldable pub call_line : Config → ℕ → ℕ → Op → Option (List Shown) → OwnerFate → Option ℕ → List ℕ
call_line c call n o reply f place =
    codes "call " ++ decimal call ++ codes " " ++ stage_name c n ++ codes " " ++ body_text c o reply ++ call_state_text c f ++ place_text place ++ newline

-- the lines of the calls that these entries begin, by the state and its places
abbrev pub call_lines : Config → State → List Placed → List Entry → List ℕ
call_lines c s places [] = []
call_lines c s places (Begin call n o ∷ entries) =
    call_line c call n o (known_reply s.history (placed_calls places) call o (place_in call places)) (owner_at s call).fate (place_in call places) ++ call_lines c s places entries
call_lines c s places (End call shown ∷ entries) = call_lines c s places entries
call_lines c s places (Give n token ∷ entries) = call_lines c s places entries
call_lines c s places (Get n token ∷ entries) = call_lines c s places entries
call_lines c s places (Over n how ∷ entries) = call_lines c s places entries

-- how a stage died
abbrev pub how_text : How → List ℕ
how_text Exited = codes "exited"
how_text Killed = codes "killed"
how_text Unavailable = codes "unavailable"

-- how its stub has ended
abbrev pub stub_text : Option StubEnd → List ℕ
stub_text None = codes " fencing"
stub_text (Some Fenced) = codes " fenced"
stub_text (Some (Unfenced target)) = codes " unfenced"

-- what a blocked stage waits for
abbrev pub await_text : Config → Await → List ℕ
await_text c (await.Take p) = codes "waits take " ++ pipe_name c p
await_text c (await.Put p) = codes "waits put " ++ pipe_name c p
await_text c (await.Stage n) = codes "waits stage " ++ stage_name c n
await_text c (await.Call call) = codes "waits call " ++ decimal call

-- a live stage by its turn: it runs, or it waits
abbrev pub live_text : Config → Turn → List ℕ
live_text c (turn.Blocked a) = await_text c a
live_text c (turn.Step kind) = codes "running"
live_text c (turn.Past kind time) = codes "running"
live_text c turn.Unborn = codes "running"
live_text c turn.Over = codes "running"

-- how a stage stands
abbrev pub stage_state_text : Config → Turn → StageState → List ℕ
stage_state_text c t standing.Unborn = codes "unborn"
stage_state_text c t standing.Live = live_text c t
stage_state_text c t standing.Exited = codes "exited"
stage_state_text c t (standing.Ended how end) = how_text how ++ stub_text end

-- the line of a stage
unfoldable pub stage_line : Config → ℕ → Turn → StageState → List ℕ
stage_line c n t standing = codes "stage " ++ stage_name c n ++ codes " " ++ stage_state_text c t standing ++ newline

-- the lines of these many stages from a number on
abbrev pub stage_lines : Config → State → ℕ → ℕ → List ℕ
stage_lines c s n zero = []
stage_lines c s n (suc left) =
    stage_line c n (next_for c s n) (stage_state s n) ++ stage_lines c s (n + 1) left

-- the count of a service among counts by its place
abbrev pub count_at : Option ℕ → List ℕ → ℕ
count_at None counts = 0
count_at (Some place) counts = get_or counts place 0

-- the line of a service of which fences were planned
abbrev pub service_line : List ℕ → ℕ → List ℕ
service_line name zero = []
service_line name (suc n) = codes "service " ++ name ++ codes " fences " ++ decimal (suc n) ++ newline

-- the lines of services: what each counted before the run, and the fences planned in it
abbrev pub service_lines : List ServiceDef → List ℕ → List ℕ → List ℕ
service_lines [] firsts planned = []
service_lines (d ∷ services) firsts planned =
    service_line d.name (count_at (place_of d.id) firsts + count_at (place_of d.id) planned) ++ service_lines services firsts planned

-- the word of an ending
abbrev pub ending_word : Ending → List ℕ
ending_word ending.Done = codes "done"
ending_word ending.Hurt = codes "hurt"
ending_word ending.Limit = codes "limit"
ending_word ending.Stuck = codes "stuck"
ending_word ending.Unfinished = codes "unfinished"

-- the line of an ending
abbrev pub ending_line : Ending → List ℕ
ending_line e = codes "ending " ++ ending_word e ++ newline

-- how many calls a history begins of each kind, and how many of them have not ended
pub record Sums : Type 0 where
  pub reads : ℕ
  pub writes : ℕ
  pub snaps : ℕ
  pub txns : ℕ
  pub not_ended : ℕ

abbrev pub no_sums : Sums
no_sums = record { reads = 0; writes = 0; snaps = 0; txns = 0; not_ended = 0 }

-- a call is counted, which has ended or not
abbrev pub counts_begin : Op → Bool → Sums → Sums
counts_begin (op.Read key) ended sums = record sums { reads = sums.reads + 1; not_ended = if ended then sums.not_ended else sums.not_ended + 1 }
counts_begin (op.Write key value) ended sums = record sums { writes = sums.writes + 1; not_ended = if ended then sums.not_ended else sums.not_ended + 1 }
counts_begin (op.Snap keys) ended sums = record sums { snaps = sums.snaps + 1; not_ended = if ended then sums.not_ended else sums.not_ended + 1 }
counts_begin (op.Txn reads guard writes) ended sums = record sums { txns = sums.txns + 1; not_ended = if ended then sums.not_ended else sums.not_ended + 1 }

-- the sums of these entries, by the whole history
abbrev pub sums_of : List Entry → List Entry → Sums
sums_of h [] = no_sums
sums_of h (Begin call n o ∷ entries) = counts_begin o (has_ended h call) (sums_of h entries)
sums_of h (End call shown ∷ entries) = sums_of h entries
sums_of h (Give n token ∷ entries) = sums_of h entries
sums_of h (Get n token ∷ entries) = sums_of h entries
sums_of h (Over n how ∷ entries) = sums_of h entries

-- the line of sums, which stands in the place of the lines of calls where it is asked for
abbrev pub sum_line : Sums → ℕ → List ℕ
sum_line sums steps =
    codes "sum reads " ++ decimal sums.reads ++ codes " writes " ++ decimal sums.writes ++ codes " snaps " ++ decimal sums.snaps ++ codes " txns " ++ decimal sums.txns ++ codes " open " ++ decimal sums.not_ended ++ codes " steps " ++ decimal steps ++ newline

abbrev pub calls_part : Config → State → List Placed → Bool → List ℕ
calls_part c s places false = call_lines c s places s.history
calls_part c s places true = sum_line (sums_of s.history s.history) s.steps

-- the report of a state with these places, where each service had counted so many fences before,
-- with or without a line for each call
unfoldable pub report_text : Config → State → List Placed → List ℕ → Bool → List ℕ
report_text c s places firsts sum =
    calls_part c s places sum ++ stage_lines c s 1 (length s.stages) ++ service_lines c.services firsts s.planned ++ ending_line (ending_of c s)

-- the report of a state with its places, where no service has counted a fence before
abbrev pub report_of : Config → State → List ℕ
report_of c s = report_text c s (places_of s) [] false
