-- What transactions and snapshots send goes to shards: a test that each request to a shard passes, all of it passes.
use Rattle.std.proofs.Common.{◌≡◌, ℕ, ◌+◌, Bool, true, List, [], ◌∷◌, ◌++◌, map, refl}
use Rattle.std.specs.Prelude.{◌&&◌, if◌then◌else◌}
use Rattle.std.specs.List.{list_all, filter}
use Rattle.std.proofs.lemmas.Bool.{cond_both}
use Rattle.rss_names.specs.declared.service.Target.{Target}
use Rattle.rss_names.specs.declared.service.Target.TheVariants.{Shard}
use Rattle.rss_wire.specs.declared.messages.Request.{Request}
use Rattle.rss_wire.specs.declared.messages.Reply.{Reply}
use Rattle.rss_tables.specs.Outs.{Out}
use Rattle.std.specs.Prelude.{not, nat_lt}
use Rattle.std.proofs.lemmas.Bool.{and_parts, and_from}
use Rattle.truetime.specs.Reading.{Reading}
use Rattle.rss_names.specs.declared.attempt.Attempt.{Attempt}
use Rattle.rss_wire.specs.declared.messages.Holder.{Holder}
use Rattle.rss_wire.specs.declared.messages.Outcome.{Outcome}
use Rattle.rss_wire.specs.declared.messages.Outcome.TheVariants as outcome
use Rattle.rss_wire.specs.declared.messages.Reply.TheVariants as reply
use Rattle.rss_tables.specs.Lines.{Line, shards_of, with_line, all_answered, all_awaiting, in_state, blocked_outs, resolving_outs, woken_outs, tells_decision}
use Rattle.rss_tables.specs.SnapshotSession.{SnapSession, snap_asks, snap_hears, snap_phase_ends, second_round, asked_again, must_ask_again, snapshot_time}
use Rattle.rss_tables.specs.TransactionSession.{TxnSession, asks_lines, txn_hears, txn_passes, goes_to_free, goes_to_prepare, is_locked, phase_ends, is_told, is_decided, is_committed, wait_of, attempt_of, guard_of, values_shown, leads, failing_time, is_phase_done}
use Rattle.rss_tables.specs.Turns.{Turn, quiet}
use Rattle.rss_tables.specs.declared.lines.LineState.{LineState}
use Rattle.rss_tables.specs.declared.lines.LineState.TheVariants as line
use Rattle.rss_tables.specs.declared.phases.SnapPhase.{SnapPhase}
use Rattle.rss_tables.specs.declared.phases.SnapPhase.TheVariants as snapphase
use Rattle.rss_tables.specs.declared.phases.TxnPhase.{TxnPhase}
use Rattle.rss_tables.specs.declared.phases.TxnPhase.TheVariants as txnphase

-- whether all requests that are sent pass a test
abbrev pub all_outs : (Target → Request → Bool) → List Out → Bool
all_outs test outs = list_all (λ (out : Out). test out.target out.request) outs

module _ (test : Target → Request → Bool) (shards : (n : ℕ) (r : Request) → test (Shard n) r ≡ true) where
  -- one request to a shard before others
  front : (n : ℕ) (r : Request) (outs : List Out) → all_outs test outs ≡ true → (test (Shard n) r && all_outs test outs) ≡ true
  front n r outs e = and_from (test (Shard n) r) (all_outs test outs) (shards n r) e

  pub lines-fine : (t : TxnSession) (lines : List Line) → all_outs test (asks_lines t lines) ≡ true
  lines-fine t [] = refl
  lines-fine t (l ∷ lines) = front _ _ (asks_lines t lines) (lines-fine t lines)

  pub snap-lines-fine : (t : SnapSession) (lines : List Line) → all_outs test (snap_asks t lines) ≡ true
  snap-lines-fine t [] = refl
  snap-lines-fine t (l ∷ lines) = front _ _ (snap_asks t lines) (snap-lines-fine t lines)

  pub decision-fine : (a : Attempt) (o : Outcome) (shards : List ℕ) → all_outs test (tells_decision a o shards) ≡ true
  decision-fine a o [] = refl
  decision-fine a o (shard ∷ shards) = front _ _ (tells_decision a o shards) (decision-fine a o shards)

  behind-fine : (xs ys : List Out) → all_outs test xs ≡ true → all_outs test ys ≡ true → all_outs test (xs ++ ys) ≡ true
  behind-fine [] ys e f = f
  behind-fine (x ∷ xs) ys e f =
      let p = and_parts (test x.target x.request) (all_outs test xs) e in
      and_from (test x.target x.request) (all_outs test (xs ++ ys)) p.0 (behind-fine xs ys p.1 f)

  blocked-fine : (shard : ℕ) (holders : List Holder) → all_outs test (blocked_outs shard holders) ≡ true
  blocked-fine shard [] = refl
  blocked-fine shard (h ∷ holders) = front _ _ [] refl

  resolving-fine : (shard : ℕ) (x : LineState) (o : Outcome) → all_outs test (resolving_outs shard x o) ≡ true
  resolving-fine shard (line.Inquiring h) o = front _ _ [] refl
  resolving-fine shard line.Awaiting o = refl
  resolving-fine shard line.Answered o = refl
  resolving-fine shard (line.Resolving h f) o = refl
  resolving-fine shard (line.Asleep h) o = refl
  resolving-fine shard line.Dropped o = refl

  pub woken-fine : (shard : ℕ) (x : LineState) → all_outs test (woken_outs shard x) ≡ true
  woken-fine shard (line.Asleep h) = front _ _ [] refl
  woken-fine shard line.Awaiting = refl
  woken-fine shard line.Answered = refl
  woken-fine shard (line.Inquiring h) = refl
  woken-fine shard (line.Resolving h f) = refl
  woken-fine shard line.Dropped = refl

  free-fine : (t : TxnSession) (time : ℕ) (others : List Line) → all_outs test (goes_to_free t time others).outs ≡ true
  free-fine t time [] = front _ _ [] refl
  free-fine t time (l ∷ others) = lines-fine (record t { phase = txnphase.Freeing time; lines = map (λ (m : Line). if leads t m then m else in_state m line.Awaiting) t.lines }) (l ∷ others)

  locked-fine : (t : TxnSession) (at : Reading) → all_outs test (is_locked t at).outs ≡ true
  locked-fine t at =
      cond_both (guard_of t.guard (values_shown t)) (goes_to_prepare t at) _ (λ (u : Turn TxnSession). all_outs test u.outs ≡ true)
      (λ e. lines-fine (record t { phase = txnphase.Preparing; earliest_end = at.latest + t.margin; lines = all_awaiting t.lines }) (all_awaiting t.lines))
      (λ e. free-fine t (failing_time t at) (filter (λ (l : Line). not (leads t l)) t.lines))

  ends-fine : (t : TxnSession) (at : Reading) (p : TxnPhase) → all_outs test (phase_ends t at p).outs ≡ true
  ends-fine t at txnphase.Locking = locked-fine t at
  ends-fine t at txnphase.Preparing = front _ _ [] refl
  ends-fine t at (txnphase.Freeing time) = front _ _ [] refl
  ends-fine t at (txnphase.FreeingLast time) = refl
  ends-fine t at (txnphase.Deciding time) = refl
  ends-fine t at (txnphase.Waiting time) = refl
  ends-fine t at txnphase.Undoing = refl
  ends-fine t at (txnphase.Committed time) = refl
  ends-fine t at (txnphase.Failed time) = refl

  told-fine : (t : TxnSession) (at : Reading) (l : Line) → all_outs test (is_told t at l).outs ≡ true
  told-fine t at l =
      let u = record t { lines = with_line t.lines (in_state l line.Answered) } in
      cond_both (is_phase_done u u.phase) (phase_ends u at u.phase) (quiet u) (λ (v : Turn TxnSession). all_outs test v.outs ≡ true) (λ e. ends-fine u at u.phase) (λ e. refl)

  decided-fine : (t : TxnSession) (at : Reading) (o : Outcome) → all_outs test (is_decided t at o).outs ≡ true
  decided-fine t at (outcome.Committed time) =
      cond_both (nat_lt (wait_of t time) at.earliest) (is_committed t time) _ (λ (v : Turn TxnSession). all_outs test v.outs ≡ true)
      (λ e. decision-fine (attempt_of t) (outcome.Committed time) (shards_of t.lines)) (λ e. refl)
  decided-fine t at outcome.Aborted =
      let u = record t { k = t.k + 1; phase = txnphase.Locking; lines = map (λ (l : Line). record l { state = line.Awaiting; shown = []; prepare_time = 0 }) t.lines } in
      behind-fine (tells_decision (attempt_of t) outcome.Aborted (shards_of t.lines)) (asks_lines u u.lines) (decision-fine (attempt_of t) outcome.Aborted (shards_of t.lines)) (lines-fine u u.lines)

  pub txn-fine : (t : TxnSession) (l : Line) (at : Reading) (r : Reply) → all_outs test (txn_hears t l at r).outs ≡ true
  txn-fine t l at (reply.Granted shown) = told-fine t at (record l { shown = shown })
  txn-fine t l at (reply.Prepared time) = told-fine t at (record l { prepare_time = time })
  txn-fine t l at reply.Released = told-fine t at l
  txn-fine t l at reply.Wounded = front _ _ [] refl
  txn-fine t l at (reply.Decided o) = decided-fine t at o
  txn-fine t l at (reply.Wait holders) = blocked-fine l.shard holders
  txn-fine t l at (reply.Blocked holders) = blocked-fine l.shard holders
  txn-fine t l at (reply.Outcome o) = resolving-fine l.shard l.state o
  txn-fine t l at reply.Open = refl
  txn-fine t l at reply.Done = front _ _ [] refl
  txn-fine t l at (reply.Values versions skipped) = refl
  txn-fine t l at reply.Fixed = refl
  txn-fine t l at (reply.Held value stamp writer) = refl
  txn-fine t l at reply.Stored = refl

  pub passed-fine : (t : TxnSession) (p : TxnPhase) → all_outs test (txn_passes t p).outs ≡ true
  passed-fine t (txnphase.Waiting time) = decision-fine (attempt_of t) (outcome.Committed time) (shards_of t.lines)
  passed-fine t txnphase.Locking = refl
  passed-fine t txnphase.Preparing = refl
  passed-fine t (txnphase.Freeing time) = refl
  passed-fine t (txnphase.FreeingLast time) = refl
  passed-fine t (txnphase.Deciding time) = refl
  passed-fine t txnphase.Undoing = refl
  passed-fine t (txnphase.Committed time) = refl
  passed-fine t (txnphase.Failed time) = refl

  second-fine : (t : SnapSession) (time : ℕ) (again : List Line) → all_outs test (second_round t time again).outs ≡ true
  second-fine t time [] = refl
  second-fine t time (l ∷ again) = snap-lines-fine (record t { phase = snapphase.Second time; lines = asked_again time t.lines }) (l ∷ again)

  snap-ends-fine : (t : SnapSession) (p : SnapPhase) → all_outs test (snap_phase_ends t p).outs ≡ true
  snap-ends-fine t (snapphase.First read_time) = second-fine t (snapshot_time t) (filter (must_ask_again (snapshot_time t)) t.lines)
  snap-ends-fine t (snapphase.Second time) = refl
  snap-ends-fine t (snapphase.Done time) = refl

  pub snap-fine : (t : SnapSession) (l : Line) (r : Reply) → all_outs test (snap_hears t l r).outs ≡ true
  snap-fine t l (reply.Values versions skipped) =
      let u = record t { lines = with_line t.lines (in_state (record l { shown = versions; skipped = skipped }) line.Answered) } in
      cond_both (all_answered u.lines) (snap_phase_ends u u.phase) (quiet u) (λ (v : Turn SnapSession). all_outs test v.outs ≡ true) (λ e. snap-ends-fine u u.phase) (λ e. refl)
  snap-fine t l (reply.Wait holders) = blocked-fine l.shard holders
  snap-fine t l (reply.Blocked holders) = blocked-fine l.shard holders
  snap-fine t l (reply.Outcome o) = resolving-fine l.shard l.state o
  snap-fine t l reply.Open = refl
  snap-fine t l reply.Done = front _ _ [] refl
  snap-fine t l (reply.Granted shown) = refl
  snap-fine t l (reply.Prepared time) = refl
  snap-fine t l reply.Released = refl
  snap-fine t l reply.Wounded = refl
  snap-fine t l (reply.Decided o) = refl
  snap-fine t l reply.Fixed = refl
  snap-fine t l (reply.Held value stamp writer) = refl
  snap-fine t l reply.Stored = refl
