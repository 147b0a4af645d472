-- The session of a snapshot: it asks each shard of its keys once at a read time, and a second time
-- at the snapshot time where a writer that was passed by may stand at or below it.
use Rattle.std.specs.Prelude.{ℕ, max, Bool, true, false, List, [], ◌∷◌, ◌++◌, map, Option, Some, None, nat_le, if◌then◌else◌}
use Rattle.std.specs.List.{list_any, filter}
use Rattle.rss_names.specs.declared.service.Key.{Key}
use Rattle.truetime.specs.Reading.{Reading}
use Rattle.rss_wire.specs.declared.messages.Skipped.{Skipped}
use Rattle.rss_wire.specs.declared.messages.Request.{Request}
use Rattle.rss_wire.specs.declared.messages.Request.TheVariants as request
use Rattle.rss_wire.specs.declared.messages.Reply.{Reply}
use Rattle.rss_wire.specs.declared.messages.Reply.TheVariants as reply
use Rattle.rss_tables.specs.Outs.{Out, line_out}
use Rattle.rss_tables.specs.Turns.{Turn, quiet}
use Rattle.rss_tables.specs.Lines.{Line, lines_of, with_line, all_answered, in_state, blocked_state, blocked_outs, resolving_state, resolving_outs, sleeping_state, woken_state, woken_outs}
use Rattle.rss_tables.specs.TransactionSession.{greatest_shown}
use Rattle.rss_tables.specs.declared.lines.LineState.TheVariants.{Awaiting, Answered}
use Rattle.rss_tables.specs.declared.phases.SnapPhase.{SnapPhase}
use Rattle.rss_tables.specs.declared.phases.SnapPhase.TheVariants.{First, Second, Done}

-- a session: its call and keys, the least time of its service in its context, its phase, and its
-- lines by ascending shard
pub record SnapSession : Type 0 where
  pub call : ℕ
  pub keys : List Key
  pub least : ℕ
  pub phase : SnapPhase
  pub lines : List Line

-- a session that begins in a step with this reading
abbrev pub opening_snapshot : (ℕ → ℕ) → ℕ → List Key → ℕ → Reading → SnapSession
opening_snapshot home call keys least at = record {
  call = call;
  keys = keys;
  least = least;
  phase = First (max at.latest least);
  lines = lines_of home keys [];
}

-- the request of a phase to a line: in the second round nothing is skipped
abbrev pub snap_request : SnapSession → SnapPhase → Line → Request
snap_request t (First read_time) l = request.Snapshot read_time t.least l.reads true
snap_request t (Second time) l = request.Snapshot time t.least l.reads false
snap_request t (Done time) l = request.Snapshot time t.least l.reads false

-- the requests of its phase to these lines
abbrev pub snap_asks : SnapSession → List Line → List Out
snap_asks t lines = map (λ (l : Line). line_out l.shard (snap_request t t.phase l)) lines

-- the session begins
abbrev pub snap_starts : SnapSession → Turn SnapSession
snap_starts t = record { after = t; anew = true; outs = snap_asks t t.lines }

-- whether a line passed by a writer that may stand at or below a time
abbrev pub must_ask_again : ℕ → Line → Bool
must_ask_again time l = list_any (λ (s : Skipped). nat_le s.prepare_time time) l.skipped

-- the lines that are asked a second time await again
abbrev pub asked_again : ℕ → List Line → List Line
asked_again time lines = map (λ (l : Line). if must_ask_again time l then in_state l Awaiting else l) lines

-- the snapshot time is known: lines that may have missed a writer are asked again, or it is done
abbrev pub second_round : SnapSession → ℕ → List Line → Turn SnapSession
second_round t time [] = quiet (record t { phase = Done time })
second_round t time (l ∷ again) =
    let u = record t { phase = Second time; lines = asked_again time t.lines } in
    record { after = u; anew = true; outs = snap_asks u (l ∷ again) }

-- the snapshot time: the greatest of the least time and of all versions shown
abbrev pub snapshot_time : SnapSession → ℕ
snapshot_time t = max t.least (greatest_shown t.lines)

-- all lines of a phase are answered
abbrev pub snap_phase_ends : SnapSession → SnapPhase → Turn SnapSession
snap_phase_ends t (First read_time) =
    second_round t (snapshot_time t) (filter (must_ask_again (snapshot_time t)) t.lines)
snap_phase_ends t (Second time) = quiet (record t { phase = Done time })
snap_phase_ends t (Done time) = quiet t

-- a line is answered
abbrev pub snap_told : SnapSession → Line → Turn SnapSession
snap_told t l =
    let u = record t { lines = with_line t.lines (in_state l Answered) } in
    if all_answered u.lines then snap_phase_ends u u.phase else quiet u

-- a line goes on by itself
abbrev pub snap_line_goes : SnapSession → Line → List Out → Turn SnapSession
snap_line_goes t l outs = record { after = record t { lines = with_line t.lines l }; anew = false; outs = outs }

-- a reply to the current exchange of a line
abbrev pub snap_hears : SnapSession → Line → Reply → Turn SnapSession
snap_hears t l (reply.Values versions skipped) = snap_told t (record l { shown = versions; skipped = skipped })
snap_hears t l (reply.Wait holders) = snap_line_goes t (in_state l (blocked_state holders)) (blocked_outs l.shard holders)
snap_hears t l (reply.Blocked holders) = snap_line_goes t (in_state l (blocked_state holders)) (blocked_outs l.shard holders)
snap_hears t l (reply.Outcome outcome) = snap_line_goes t (in_state l (resolving_state l.state outcome)) (resolving_outs l.shard l.state outcome)
snap_hears t l reply.Open = snap_line_goes t (in_state l (sleeping_state l.state)) []
snap_hears t l reply.Done = snap_line_goes t (in_state l Awaiting) (line_out l.shard (snap_request t t.phase l) ∷ [])
snap_hears t l (reply.Granted shown) = quiet t
snap_hears t l (reply.Prepared time) = quiet t
snap_hears t l reply.Released = quiet t
snap_hears t l reply.Wounded = quiet t
snap_hears t l (reply.Decided outcome) = quiet t
snap_hears t l reply.Fixed = quiet t
snap_hears t l (reply.Held value stamp writer) = quiet t
snap_hears t l reply.Stored = quiet t

-- an asleep line asks again
abbrev pub snap_wakes : SnapSession → Line → Turn SnapSession
snap_wakes t l = snap_line_goes t (in_state l (woken_state l.state)) (woken_outs l.shard l.state)

-- the time with which a snapshot has ended
abbrev pub snap_end : SnapPhase → Option ℕ
snap_end (Done time) = Some time
snap_end (First read_time) = None
snap_end (Second time) = None
