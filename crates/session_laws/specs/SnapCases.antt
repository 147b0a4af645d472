-- What a snapshot does with the reply that one of its lines awaits: one case for each thing that can happen.
use Rattle.std.specs.Prelude.{◌≡◌, ℕ, true, false, List, [], ◌∷◌}
use Rattle.std.specs.List.{filter}
use Rattle.rss_names.specs.declared.service.Key.{Key}
use Rattle.rss_wire.specs.declared.messages.Holder.{Holder}
use Rattle.rss_wire.specs.declared.messages.Outcome.{Outcome}
use Rattle.rss_wire.specs.declared.messages.Skipped.{Skipped}
use Rattle.rss_wire.specs.declared.messages.Version.{Version}
use Rattle.rss_wire.specs.declared.messages.Reply.{Reply}
use Rattle.rss_wire.specs.declared.messages.Reply.TheVariants as reply
use Rattle.rss_tables.specs.Lines.{Line, with_line, in_state, all_answered, inquiry, decision_request}
use Rattle.rss_tables.specs.Outs.{line_out}
use Rattle.rss_tables.specs.Turns.{Turn, quiet}
use Rattle.rss_tables.specs.SnapshotSession.{SnapSession, snap_request, snap_line_goes, second_round, snapshot_time, must_ask_again}
use Rattle.rss_tables.specs.declared.lines.LineState.TheVariants.{Awaiting, Answered, Inquiring, Resolving, Asleep}
use Rattle.rss_tables.specs.declared.phases.SnapPhase.TheVariants.{First, Second, Done}

-- a session with a line answered
abbrev pub snap_answered : SnapSession → Line → SnapSession
snap_answered t l = record t { lines = with_line t.lines (in_state l Answered) }

-- a line that is shown versions, and told of writers that were passed by
abbrev pub told_line : Line → List (Key × Version) → List Skipped → Line
told_line l shown skipped = record l { shown = shown; skipped = skipped }

-- line `l` of `t` hears a reply
pub data SnapTurn (t : SnapSession) (l : Line) : Reply → Turn SnapSession → Type 0 where
  -- it is answered: others are still to answer, or the first round is done, or the second one
  shown : (versions : List (Key × Version)) (skipped : List Skipped) → l.state ≡ Awaiting → all_answered (snap_answered t (told_line l versions skipped)).lines ≡ false →
      SnapTurn t l (reply.Values versions skipped) (quiet (snap_answered t (told_line l versions skipped)))
  first_done : (read_time : ℕ) (versions : List (Key × Version)) (skipped : List Skipped) → t.phase ≡ First read_time → l.state ≡ Awaiting → all_answered (snap_answered t (told_line l versions skipped)).lines ≡ true →
      SnapTurn t l (reply.Values versions skipped)
      (second_round (snap_answered t (told_line l versions skipped)) (snapshot_time (snap_answered t (told_line l versions skipped))) (filter (must_ask_again (snapshot_time (snap_answered t (told_line l versions skipped)))) (snap_answered t (told_line l versions skipped)).lines))
  second_done : (time : ℕ) (versions : List (Key × Version)) (skipped : List Skipped) → t.phase ≡ Second time → l.state ≡ Awaiting → all_answered (snap_answered t (told_line l versions skipped)).lines ≡ true →
      SnapTurn t l (reply.Values versions skipped) (quiet (record (snap_answered t (told_line l versions skipped)) { phase = Done time }))
  -- somebody is in its way: it asks for that one's decision, passes it on, or sleeps, and asks again
  blocked : (holder : Holder) (holders : List Holder) → l.state ≡ Awaiting →
      SnapTurn t l (reply.Blocked (holder ∷ holders)) (snap_line_goes t (in_state l (Inquiring holder)) (inquiry l.shard holder ∷ []))
  resolves : (holder : Holder) (outcome : Outcome) → l.state ≡ Inquiring holder →
      SnapTurn t l (reply.Outcome outcome) (snap_line_goes t (in_state l (Resolving holder outcome)) (line_out l.shard (decision_request holder.attempt outcome) ∷ []))
  sleeps : (holder : Holder) → l.state ≡ Inquiring holder → SnapTurn t l reply.Open (snap_line_goes t (in_state l (Asleep holder)) [])
  asks : (holder : Holder) (outcome : Outcome) → l.state ≡ Resolving holder outcome →
      SnapTurn t l reply.Done (snap_line_goes t (in_state l Awaiting) (line_out l.shard (snap_request t t.phase l) ∷ []))
