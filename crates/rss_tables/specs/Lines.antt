-- The lines of a transaction or a snapshot, one for each shard of its keys: what a line does when
-- something holds the keys that it asks for.
use Rattle.std.specs.Prelude.{ℕ, zero, suc, ◌+◌, ◌==◌, Bool, true, false, ◌||◌, not, List, [], ◌∷◌, ◌++◌, length, map, Option, Some, None, if◌then◌else◌}
use Rattle.std.specs.List.{list_all, filter}
use Rattle.rss_names.specs.declared.service.Key.{Key}
use Rattle.rss_names.specs.declared.service.Target.TheVariants.{Shard}
use Rattle.rss_names.specs.declared.attempt.Attempt.{Attempt}
use Rattle.rss_wire.specs.declared.messages.Holder.{Holder}
use Rattle.rss_wire.specs.declared.messages.Outcome.{Outcome}
use Rattle.rss_wire.specs.declared.messages.Outcome.TheVariants.{Committed, Aborted}
use Rattle.rss_wire.specs.declared.messages.Skipped.{Skipped}
use Rattle.rss_wire.specs.declared.messages.Version.{Version}
use Rattle.rss_wire.specs.declared.messages.Request.{Request}
use Rattle.rss_wire.specs.declared.messages.Request.TheVariants as request
use Rattle.rss_tables.specs.Outs.{Out, line_slot, line_out, told}
use Rattle.rss_tables.specs.Versions.{opening_version}
use Rattle.rss_names.specs.Services.{same_key}
use Rattle.rss_tables.specs.declared.lines.LineState.{LineState}
use Rattle.rss_tables.specs.declared.lines.LineState.TheVariants.{Awaiting, Answered, Inquiring, Resolving, Asleep, Dropped}

-- a line: its shard, the keys that its call reads and writes there, how far it has come, and what
-- the shard has told: versions, prepared writers that were passed by, the prepare time
pub record Line : Type 0 where
  pub shard : ℕ
  pub reads : List Key
  pub writes : List Key
  pub state : LineState
  pub shown : List (Key × Version)
  pub skipped : List Skipped
  pub prepare_time : ℕ

-- the keys of a list that live on a shard, where these are the homes of keys by their index
abbrev pub keys_on : (ℕ → ℕ) → ℕ → List Key → List Key
keys_on home shard keys = filter (λ (key : Key). home key.index == shard) keys

-- a line that asks a shard
abbrev pub opening_line : ℕ → List Key → List Key → Line
opening_line shard reads writes = record {
  shard = shard;
  reads = reads;
  writes = writes;
  state = Awaiting;
  shown = [];
  skipped = [];
  prepare_time = 0;
}

-- a line before the others, where it has a key
abbrev pub line_before : ℕ → List Key → List Key → List Line → List Line
line_before shard reads writes lines =
    if length reads + length writes == 0 then lines else opening_line shard reads writes ∷ lines

-- a line for each of these many shards from this number on that has a key, by ascending shard
abbrev pub lines_from : (ℕ → ℕ) → List Key → List Key → ℕ → ℕ → List Line
lines_from home reads writes shard zero = []
lines_from home reads writes shard (suc left) =
    line_before shard (keys_on home shard reads) (keys_on home shard writes) (lines_from home reads writes (shard + 1) left)

-- the greatest number of shards
abbrev pub most_shards : ℕ
most_shards = 16

-- the lines of a call that reads and writes these keys
abbrev pub lines_of : (ℕ → ℕ) → List Key → List Key → List Line
lines_of home reads writes = lines_from home reads writes 1 most_shards

-- the shards of lines
abbrev pub shards_of : List Line → List ℕ
shards_of lines = map (λ (l : Line). l.shard) lines

-- the coordinator is the least shard
abbrev pub coordinator_of : List Line → ℕ
coordinator_of [] = 0
coordinator_of (l ∷ lines) = l.shard

-- no line at all
abbrev pub no_line : Line
no_line = opening_line 0 [] []

-- the line of a shard
abbrev pub line_at : List Line → ℕ → Line
line_at [] shard = no_line
line_at (l ∷ lines) shard = if l.shard == shard then l else line_at lines shard

-- a line is replaced by one of the same shard
abbrev pub with_line : List Line → Line → List Line
with_line lines new = map (λ (l : Line). if l.shard == new.shard then new else l) lines

-- whether the phase's request was answered
abbrev pub is_answered : LineState → Bool
is_answered Awaiting = false
is_answered Answered = true
is_answered (Inquiring holder) = false
is_answered (Resolving holder outcome) = false
is_answered (Asleep holder) = false
is_answered Dropped = false

-- whether all lines are answered
abbrev pub all_answered : List Line → Bool
all_answered lines = list_all (λ (l : Line). is_answered l.state) lines

-- all lines await their phase's request again
abbrev pub all_awaiting : List Line → List Line
all_awaiting lines = map (λ (l : Line). record l { state = Awaiting }) lines

-- one line awaits, and the others are dropped
abbrev pub only_awaiting : ℕ → List Line → List Line
only_awaiting shard lines = map (λ (l : Line). record l { state = if l.shard == shard then Awaiting else Dropped }) lines

-- a line in another state
abbrev pub in_state : Line → LineState → Line
in_state l state = record l { state = state }

-- the attempt and coordinator that an asleep line waits for
abbrev pub asleep_on : LineState → Option Holder
asleep_on (Asleep holder) = Some holder
asleep_on Awaiting = None
asleep_on Answered = None
asleep_on (Inquiring holder) = None
asleep_on (Resolving holder outcome) = None
asleep_on Dropped = None

-- the version shown of a key by lines; the opening version where none shows it
abbrev pub version_in : List (Key × Version) → Key → Option Version
version_in [] key = None
version_in (entry ∷ shown) key = if same_key entry.0 key then Some entry.1 else version_in shown key

abbrev pub version_or : Option Version → Version → Version
version_or None other = other
version_or (Some v) other = v

abbrev pub shown_on : List Line → Key → Version
shown_on [] key = opening_version
shown_on (l ∷ lines) key = version_or (version_in l.shown key) (shown_on lines key)

-- the question to a holder's coordinator how it was decided
abbrev pub inquiry : ℕ → Holder → Out
inquiry shard holder = record {
  slot = Some (line_slot shard);
  target = Shard holder.coordinator;
  request = request.Inquire holder.attempt;
}

-- a decision as a request to a shard that holds its attempt
abbrev pub decision_request : Attempt → Outcome → Request
decision_request attempt (Committed time) = request.Commit attempt time
decision_request attempt Aborted = request.Abort attempt

-- a decision is told to shards, and no reply is awaited
abbrev pub tells_decision : Attempt → Outcome → List ℕ → List Out
tells_decision attempt outcome shards = map (λ shard. told shard (decision_request attempt outcome)) shards

-- a line that is in somebody's way asks for the first one's decision
abbrev pub blocked_state : List Holder → LineState
blocked_state [] = Awaiting
blocked_state (holder ∷ holders) = Inquiring holder

abbrev pub blocked_outs : ℕ → List Holder → List Out
blocked_outs shard [] = []
blocked_outs shard (holder ∷ holders) = inquiry shard holder ∷ []

-- a line that was told the decision passes it on to its own shard
abbrev pub resolving_state : LineState → Outcome → LineState
resolving_state (Inquiring holder) outcome = Resolving holder outcome
resolving_state Awaiting outcome = Awaiting
resolving_state Answered outcome = Answered
resolving_state (Resolving holder found) outcome = Resolving holder found
resolving_state (Asleep holder) outcome = Asleep holder
resolving_state Dropped outcome = Dropped

abbrev pub resolving_outs : ℕ → LineState → Outcome → List Out
resolving_outs shard (Inquiring holder) outcome = line_out shard (decision_request holder.attempt outcome) ∷ []
resolving_outs shard Awaiting outcome = []
resolving_outs shard Answered outcome = []
resolving_outs shard (Resolving holder found) outcome = []
resolving_outs shard (Asleep holder) outcome = []
resolving_outs shard Dropped outcome = []

-- a line that was told that nothing is decided yet sleeps
abbrev pub sleeping_state : LineState → LineState
sleeping_state (Inquiring holder) = Asleep holder
sleeping_state Awaiting = Awaiting
sleeping_state Answered = Answered
sleeping_state (Resolving holder outcome) = Resolving holder outcome
sleeping_state (Asleep holder) = Asleep holder
sleeping_state Dropped = Dropped

-- a line wakes and asks again
abbrev pub woken_state : LineState → LineState
woken_state (Asleep holder) = Inquiring holder
woken_state Awaiting = Awaiting
woken_state Answered = Answered
woken_state (Inquiring holder) = Inquiring holder
woken_state (Resolving holder outcome) = Resolving holder outcome
woken_state Dropped = Dropped

abbrev pub woken_outs : ℕ → LineState → List Out
woken_outs shard (Asleep holder) = inquiry shard holder ∷ []
woken_outs shard Awaiting = []
woken_outs shard Answered = []
woken_outs shard (Inquiring holder) = []
woken_outs shard (Resolving holder outcome) = []
woken_outs shard Dropped = []
