-- The session as its code keeps it, and as the tables do.
use Rattle.std.specs.Prelude.{ℕ, Bool, true, false, List, [], ◌∷◌, length, if◌then◌else◌}
use Rattle.std.specs.List.{filter}
use Rattle.truetime.specs.Reading.{Reading}
use Rattle.rss_wire.specs.declared.messages.Reply.{Reply}
use Rattle.rss_wire.specs.declared.messages.Reply.TheVariants as reply
use Rattle.rss_tables.specs.Lines.{Line, all_answered}
use Rattle.rss_tables.specs.SnapshotSession.{SnapSession, opening_snapshot, must_ask_again, second_round, snapshot_time, snap_phase_ends}
use Rattle.rss_tables.specs.Turns.{Turn, quiet}
use Rattle.rss_tables.specs.declared.phases.SnapPhase.{SnapPhase}
use Rattle.snapshot_reads.specs.declared.snap.Snap.{Snap}

-- what the session keeps, and for how many more versions and skipped writers it has room
pub record SessionView : Type 0 where
  pub phase : SnapPhase
  pub lines : List Line
  pub room : ℕ
  pub skips : ℕ

-- the tables' session of an operation
abbrev pub snap_of : Snap → SessionView → SnapSession
snap_of op s = record {
  call = op.call;
  keys = op.keys.now;
  least = op.least;
  phase = s.phase;
  lines = s.lines;
}

-- the tables' session of an operation before anything was sent, where these are the homes of keys
abbrev pub opening_of : (ℕ → ℕ) → Snap → Reading → SnapSession
opening_of home op at = opening_snapshot home op.call op.keys.now op.least at

-- the lines that passed by a writer which may stand at or below a time
abbrev pub passed_of : ℕ → List Line → List Line
passed_of time lines = filter (must_ask_again time) lines

-- whether there are lines
abbrev pub has_lines : List Line → Bool
has_lines [] = false
has_lines (l ∷ lines) = true

-- the first round has ended
abbrev pub goes_to_second : SnapSession → Turn SnapSession
goes_to_second t = second_round t (snapshot_time t) (passed_of (snapshot_time t) t.lines)

-- a line was answered: where all are, the round ends
abbrev pub goes_on : SnapSession → Turn SnapSession
goes_on t = if all_answered t.lines then snap_phase_ends t t.phase else quiet t

-- how many versions a reply shows that are kept
abbrev pub versions_shown : Reply → ℕ
versions_shown (reply.Values versions skipped) = length versions
versions_shown (reply.Granted shown) = 0
versions_shown (reply.Prepared time) = 0
versions_shown reply.Released = 0
versions_shown reply.Wounded = 0
versions_shown (reply.Decided outcome) = 0
versions_shown (reply.Wait holders) = 0
versions_shown (reply.Blocked holders) = 0
versions_shown (reply.Outcome outcome) = 0
versions_shown reply.Open = 0
versions_shown reply.Done = 0
versions_shown reply.Fixed = 0
versions_shown (reply.Held value stamp writer) = 0
versions_shown reply.Stored = 0

-- how many skipped writers a reply names that are kept
abbrev pub writers_skipped : Reply → ℕ
writers_skipped (reply.Values versions skipped) = length skipped
writers_skipped (reply.Granted shown) = 0
writers_skipped (reply.Prepared time) = 0
writers_skipped reply.Released = 0
writers_skipped reply.Wounded = 0
writers_skipped (reply.Decided outcome) = 0
writers_skipped (reply.Wait holders) = 0
writers_skipped (reply.Blocked holders) = 0
writers_skipped (reply.Outcome outcome) = 0
writers_skipped reply.Open = 0
writers_skipped reply.Done = 0
writers_skipped reply.Fixed = 0
writers_skipped (reply.Held value stamp writer) = 0
writers_skipped reply.Stored = 0
