-- The session as its code keeps it, and as the tables do.
use Rattle.std.specs.Prelude.{Bool, true, false, not, [], ◌∷◌, ℕ, List, length, map, if◌then◌else◌}
use Rattle.rss_names.specs.declared.service.Key.{Key}
use Rattle.rss_tables.specs.Lines.{Line, coordinator_of, line_at, only_awaiting, shown_on}
use Rattle.rss_tables.specs.TransactionSession.{TxnSession, opening_txn, begins_phase, is_decided, is_phase_done, phase_ends, leads, goes_to_free}
use Rattle.rss_tables.specs.Turns.{Turn, quiet}
use Rattle.rss_wire.specs.declared.messages.Outcome.TheVariants.{Aborted}
use Rattle.truetime.specs.Reading.{Reading}
use Rattle.rss_tables.specs.declared.phases.TxnPhase.{TxnPhase}
use Rattle.rss_tables.specs.declared.phases.TxnPhase.TheVariants as phase
use Rattle.std.specs.List.{filter}
use Rattle.pipeline_lang.specs.declared.script.Expr.{Expr}
use Rattle.rss_model.specs.Formula.{formula_value}
use Rattle.rss_tables.specs.Locks.{has_key}
use Rattle.rss_wire.specs.declared.messages.Reply.{Reply}
use Rattle.rss_wire.specs.declared.messages.Reply.TheVariants as reply
use Rattle.two_phase.specs.declared.txn.Txn.{Txn}

-- what the session keeps, and for how many more versions it has room
pub record SessionView : Type 0 where
  pub k : ℕ
  pub phase : TxnPhase
  pub earliest_end : ℕ
  pub lines : List Line
  pub room : ℕ

-- the tables' session of an operation
abbrev pub txn_of : Txn → SessionView → TxnSession
txn_of op s = record {
  call = op.call;
  reads = op.reads.now;
  guard = op.guard;
  writes = op.writes.now;
  least = op.least;
  margin = op.margin;
  k = s.k;
  phase = s.phase;
  earliest_end = s.earliest_end;
  lines = s.lines;
}

-- the tables' session of an operation before anything was sent, where these are the homes of keys
abbrev pub opening_of : (ℕ → ℕ) → Txn → TxnSession
opening_of home op = opening_txn home op.call op.reads.now op.guard op.writes.now op.least op.margin

-- a phase of which the coordinator alone is asked
abbrev pub to_coordinator : TxnSession → Turn TxnSession
to_coordinator t =
    let u = record t { lines = only_awaiting (coordinator_of t.lines) t.lines } in
    begins_phase u (line_at u.lines (coordinator_of t.lines) ∷ [])

-- the values that lines show of keys
abbrev pub values_on : List Line → List Key → List ℕ
values_on lines keys = map (λ key. (shown_on lines key).value) keys

-- how many spare lists of keys a request of a phase takes
abbrev pub key_lists : TxnPhase → ℕ
key_lists phase.Locking = 2
key_lists phase.Preparing = 0
key_lists (phase.Freeing time) = 0
key_lists (phase.FreeingLast time) = 0
key_lists (phase.Deciding time) = 0
key_lists phase.Undoing = 0
key_lists (phase.Waiting time) = 0
key_lists (phase.Committed time) = 0
key_lists (phase.Failed time) = 0

-- how many spare lists of writes a request of a phase takes
abbrev pub write_lists : TxnPhase → ℕ
write_lists phase.Locking = 0
write_lists phase.Preparing = 1
write_lists (phase.Freeing time) = 0
write_lists (phase.FreeingLast time) = 0
write_lists (phase.Deciding time) = 0
write_lists phase.Undoing = 0
write_lists (phase.Waiting time) = 0
write_lists (phase.Committed time) = 0
write_lists (phase.Failed time) = 0

-- the writes on keys, with their values
abbrev pub written_on : List Key → List Line → List Key → List (Key × Expr ℕ) → List (Key × ℕ)
written_on mine lines reads writes = filter (λ (write : Key × ℕ). has_key mine write.0) (map (λ (write : Key × Expr ℕ). (write.0, formula_value write.1 (values_on lines reads))) writes)

-- the turn of an abort
abbrev pub is_aborted : TxnSession → Turn TxnSession
is_aborted t = is_decided t (record { earliest = 0; latest = 0 }) Aborted

-- a line was answered: where the phase's work is done, the next begins
abbrev pub goes_on : TxnSession → Reading → Turn TxnSession
goes_on t at = if is_phase_done t t.phase then phase_ends t at t.phase else quiet t

-- all lines but the coordinator's
abbrev pub others_of : TxnSession → List Line → List Line
others_of t lines = filter (λ (l : Line). not (leads t l)) lines

-- whether there are lines
abbrev pub has_lines : List Line → Bool
has_lines [] = false
has_lines (l ∷ lines) = true

-- the guard failed
abbrev pub frees : TxnSession → ℕ → Turn TxnSession
frees t time = goes_to_free t time (others_of t t.lines)

-- a reading that nothing depends on
abbrev pub no_reading : Reading
no_reading = record { earliest = 0; latest = 0 }

-- how many versions a reply shows that are kept
abbrev pub versions_shown : Reply → ℕ
versions_shown (reply.Granted shown) = length shown
versions_shown (reply.Prepared time) = 0
versions_shown reply.Released = 0
versions_shown reply.Wounded = 0
versions_shown (reply.Decided outcome) = 0
versions_shown (reply.Wait holders) = 0
versions_shown (reply.Blocked holders) = 0
versions_shown (reply.Outcome outcome) = 0
versions_shown reply.Open = 0
versions_shown reply.Done = 0
versions_shown (reply.Values versions skipped) = 0
versions_shown reply.Fixed = 0
versions_shown (reply.Held value stamp writer) = 0
versions_shown reply.Stored = 0
