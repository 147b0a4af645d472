-- What a step puts into pipes, and how many fences it plans: a put alone makes a pipe longer, and that where there is room;
-- and at most one plan of sixteen fences is made.
use Rattle.std.proofs.Common.{◌≡◌, ◌⊎◌, inl, inr, ℕ, zero, suc, ◌+◌, ◌-◌, ◌<◌, ◌≤◌, Bool, true, false, List, [], ◌∷◌, ◌++◌, length, get_or, Option, Some, None, refl, ap, sym, ◌∙◌, subst, arith}
use Rattle.std.specs.Prelude.{⊤, ◌&&◌, ◌||◌, nat_lt, if◌then◌else◌}
use Rattle.std.proofs.Math.ListN.{set}
use Rattle.std.proofs.lemmas.Bool.{cond_both, ltb-true, true≢false}
use Rattle.std.proofs.lemmas.List.{length-drop}
use Rattle.truetime.specs.Reading.{Reading}
use Rattle.rss_names.specs.declared.attempt.Attempt.{Attempt}
use Rattle.rss_names.specs.declared.service.Key.{Key}
use Rattle.rss_names.specs.declared.service.ServiceId.{ServiceId}
use Rattle.rss_names.specs.declared.service.Target.{Target}
use Rattle.rss_names.specs.declared.service.Target.TheVariants.{Shard, Replica}
use Rattle.causal_context.specs.declared.dep.Dep.{Dep}
use Rattle.causal_context.specs.Deps.{deps_of}
use Rattle.causal_context.specs.Seen.{Seen, after_txn, after_read, after_write, fenced_outside}
use Rattle.causal_context.specs.Services.{place_of}
use Rattle.pipeline_lang.specs.Config.{body_of, home_of, statement_at, ends_of, replicas_of, no_ends}
use Rattle.pipeline_lang.specs.declared.config.Config.{Config}
use Rattle.pipeline_lang.specs.declared.config.PipeEnds.{PipeEnds}
use Rattle.pipeline_lang.specs.declared.script.Statement.{Statement}
use Rattle.pipeline_lang.specs.declared.script.Statement.TheVariants as statement
use Rattle.rss_model.specs.CallStatement.{op_of_statement}
use Rattle.rss_model.specs.Cursor.{Cursor}
use Rattle.rss_model.specs.declared.history.How.{How}
use Rattle.rss_model.specs.declared.history.Entry.TheVariants.{Over}
use Rattle.rss_model.specs.declared.history.How.TheVariants.{Exited, Killed, Unavailable}
use Rattle.rss_model.specs.declared.op.Op.{Op}
use Rattle.rss_model.specs.declared.op.Op.TheVariants as op
use Rattle.rss_wire.specs.declared.envelope.Envelope.{Envelope}
use Rattle.rss_wire.specs.declared.message.Body.{Body as MessageBody}
use Rattle.rss_wire.specs.declared.message.Body.TheVariants as body
use Rattle.rss_wire.specs.declared.message.Fate.{Fate}
use Rattle.rss_wire.specs.declared.message.Fate.TheVariants as fate
use Rattle.rss_wire.specs.declared.messages.Reply.{Reply}
use Rattle.rss_wire.specs.declared.messages.Reply.TheVariants as reply
use Rattle.rss_wire.specs.declared.messages.Request.{Request}
use Rattle.rss_wire.specs.declared.messages.Request.TheVariants as request
use Rattle.rss_wire.specs.Messages.{message_at}
use Rattle.rss_tables.specs.declared.endings.StubEnd.{StubEnd}
use Rattle.rss_tables.specs.declared.endings.StubEnd.TheVariants.{Fenced, Unfenced}
use Rattle.rss_tables.specs.Lines.{Line, line_at, tells_decision}
use Rattle.rss_tables.specs.Losses.{losses_of, reaches_tries, is_quorum_lost}
use Rattle.rss_tables.specs.Outs.{Out, awaited, line_out, slot_replica, slot_shard}
use Rattle.rss_tables.specs.Pipes.{Pipe, Chunk, EndMark, no_mark, fenced_mark, bare_mark, opening_pipe, has_room, pipe_put}
use Rattle.rss_tables.specs.RegisterSession.{RegSession, round_requests, session_after, phase_end}
use Rattle.rss_tables.specs.SnapshotSession.{SnapSession, opening_snapshot, snap_starts, snap_end, snap_hears, snap_wakes}
use Rattle.rss_tables.specs.TransactionSession.{TxnSession, opening_txn, txn_starts, shown_reply, txn_end, txn_hears, txn_wakes, txn_passes, waiting_time}
use Rattle.rss_tables.specs.Turns.{Turn}
use Rattle.rss_tables.specs.Works.{Works, plan_for, plan_all}
use Rattle.rss_tables.specs.declared.fences.FenceWork.{FenceWork}
use Rattle.rss_tables.specs.declared.fences.FenceWork.TheVariants.{Nothing, Past, Fix}
use Rattle.rss_tables.specs.declared.register_session.RegEnd.{RegEnd}
use Rattle.rss_tables.specs.declared.register_session.RegEnd.TheVariants as ends
use Rattle.rss_tables.specs.declared.register_session.RegWork.{RegWork}
use Rattle.rss_tables.specs.declared.register_session.RegWork.TheVariants as work
use Rattle.rss_model.specs.declared.op.Shown.{Shown}
use Rattle.rss_machine.specs.Calls.{session_for, least_for, launches_call, starts_at_register, starts_call, entered_first, works_over, goes_through, ends_work, launches_cleared, fix_ends, replies, register_ends, ends_at, forgets_if, txn_turns, snap_turns, fixes}
use Rattle.rss_machine.specs.Effect.{begins_call, takes_end, takes, waits_over, makes, waking_line, txn_line_wakes, snap_line_wakes, txn_acts, session_acts, owner_acts, acts, request_comes, fix_goes_on, opens_round, register_goes_on, stub_settles, owner_hears, reply_comes, comes, target_lost, is_cut_off, asks_again, replaces, loss_counts, loses, least_shard, settles, stub_starts, stub_acts, stub_of_stage, effect}
use Rattle.rss_machine.specs.Enabling.{next_statement, can_make, whether, is_enabled_at, live_enabling}
use Rattle.rss_machine.specs.Moves.{marks_message, with_owner, sends_one, sends, one_more_at, counts_fences, opens_call, opens_fence, plans_stub, turns_session, goes_on, launches, listens, forgets, counts_loss, cuts_off, closes, cuts_pipe, is_to_end, closes_from, cuts_from, gives_exit, exits, closes_owner, dies, ends_stub, loses_stub, counts_act, puts, starts_stub, enters, fence_ends, waits_for, clears, closed}
use Rattle.rss_machine.specs.Refusal.{kind_refusal, unless_enabled}
use Rattle.rss_machine.specs.Session.{Session, service_of}
use Rattle.rss_machine.specs.Slots.{slot_in}
use Rattle.rss_machine.specs.Standing.{is_live, is_over, is_running, stage_state, is_done, is_unborn, parent_of, is_settled, is_settled_within, stub_end, stub_end_of, life_state}
use Rattle.rss_machine.specs.State.{State, Owner, stage_at, owner_at, pipe_at, no_owner}
use Rattle.rss_machine.specs.declared.ending.StageState.{StageState}
use Rattle.rss_machine.specs.declared.ending.StageState.TheVariants as standing
use Rattle.rss_machine.specs.declared.session.OwnerKind.{OwnerKind}
use Rattle.rss_machine.specs.declared.session.OwnerKind.TheVariants as kind
use Rattle.rss_machine.specs.declared.session.Session.TheVariants as session
use Rattle.rss_machine.specs.declared.state.OwnerFate.{OwnerFate}
use Rattle.rss_machine.specs.declared.state.OwnerFate.TheVariants.{Ended, Dropped, CutOff}
use Rattle.rss_machine.specs.declared.state.Life.{Life}
use Rattle.rss_machine.specs.declared.state.Life.TheVariants as life
use Rattle.rss_machine.specs.declared.step.StepKind.{StepKind}
use Rattle.rss_machine.specs.declared.step.StepKind.TheVariants.{Act, Go, Lose, Again, Kill, Stub}
use Rattle.rss_machine.specs.declared.step.StepRefusal.TheVariants.{StageOver}
use Rattle.rss_machine.specs.declared.turn.Enabling.TheVariants.{Never}
use Rattle.world_laws.proofs.Looks.{looks, some_is_not}
use Rattle.world_laws.proofs.OwnerMoves.{sends_kept}
use Rattle.world_laws.proofs.StageMoves.{counts as an_act}
use Rattle.size_laws.specs.Fine.{Fine, AllFine}
use Rattle.size_laws.proofs.Contexts.{few_fences, few_for}
use Rattle.size_laws.proofs.Moves.{fated, stage_moves}

-- WHAT GROWS

-- no pipe has more chunks, and so many more fences are planned of a service at most
pub record Grows (n : ℕ) (s t : State) : Type 0 where
  pub chunks : (i : ℕ) → length (get_or t.pipes i opening_pipe).chunks ≤ length (get_or s.pipes i opening_pipe).chunks
  pub planned : (place : ℕ) → get_or t.planned place 0 ≤ get_or s.planned place 0 + n

still : (s : State) → Grows 0 s s
still s = record { chunks = λ i. omega arith; planned = λ p. omega arith }

same : (s t : State) → t.pipes ≡ s.pipes → t.planned ≡ s.planned → Grows 0 s t
same s t e f = record {
  chunks = λ i. (let m = ap (λ (xs : List Pipe). length (get_or xs i opening_pipe).chunks) e in omega (arith, m));
  planned = λ p. (let m = ap (λ (xs : List ℕ). get_or xs p 0) f in omega (arith, m));
}

first_then : (n : ℕ) (s t u : State) → Grows n s t → Grows 0 t u → Grows n s u
first_then n s t u g h = record {
  chunks = λ i. (let a = g.chunks i in let b = h.chunks i in omega (arith, a, b));
  planned = λ p. (let a = g.planned p in let b = h.planned p in omega (arith, a, b));
}

behind : (n : ℕ) (s t u : State) → Grows 0 s t → Grows n t u → Grows n s u
behind n s t u g h = record {
  chunks = λ i. (let a = g.chunks i in let b = h.chunks i in omega (arith, a, b));
  planned = λ p. (let a = g.planned p in let b = h.planned p in omega (arith, a, b));
}

more : (n : ℕ) (s t : State) → Grows 0 s t → Grows n s t
more n s t g = record { chunks = g.chunks; planned = λ p. (let a = g.planned p in omega (arith, a)) }

-- MOVES

r_sends : (o : ℕ) (outs : List Out) (s : State) → Grows 0 s (sends s o outs)
r_sends o [] s = still s
r_sends o (out ∷ outs) s = behind 0 s (sends_one s o out) _ (same s (sends_one s o out) refl refl) (r_sends o outs (sends_one s o out))

r_goes_on : (s : State) (o : ℕ) (x : Session) (outs : List Out) → Grows 0 s (goes_on s o x outs)
r_goes_on s o x outs = behind 0 s (turns_session s o x) _ (same s (turns_session s o x) refl refl) (r_sends o outs (turns_session s o x))

r_launches : (s : State) (o : ℕ) (x : Session) (outs : List Out) → Grows 0 s (launches s o x outs)
r_launches s o x outs =
    let t = with_owner s o (record (owner_at s o) { session = x; dates = record (owner_at s o).dates { launched = s.steps } }) in
    behind 0 s t _ (same s t refl refl) (r_sends o outs t)

r_fixes : (c : Config) (s : State) (o : ℕ) (id : ServiceId) → Grows 0 s (fixes c s o id)
r_fixes c s o id =
    let r = session_for c s o (work.Fix (deps_of id (owner_at s o).works.copy.deps)) id in
    r_goes_on s o (session.Fixing r) (awaited (round_requests r))

r_launches_call : (c : Config) (s : State) (o : ℕ) (at : Reading) (x : Op) → Grows 0 s (launches_call c s o at x)
r_launches_call c s o at (op.Read key) =
    let r = session_for c s o (work.Read key) key.service in
    r_launches s o (session.Register r) (awaited (round_requests r))
r_launches_call c s o at (op.Write key value) =
    let r = session_for c s o (work.Write key value) key.service in
    r_launches s o (session.Register r) (awaited (round_requests r))
r_launches_call c s o at (op.Snap keys) =
    let turn = snap_starts (opening_snapshot (home_of c) o keys (least_for s o (service_of (op.Snap keys))) at) in
    r_launches s o (session.Snapshot turn.after) turn.outs
r_launches_call c s o at (op.Txn reads guard writes) =
    let turn = txn_starts (opening_txn (home_of c) o reads guard writes (least_for s o (service_of (op.Txn reads guard writes))) (body_of c (owner_at s o).stage).earliest_end) in
    r_launches s o (session.Transaction turn.after) turn.outs

r_at_register : (c : Config) (s : State) (o : ℕ) (at : Reading) (x : Op) (deps : List Dep) → Grows 0 s (starts_at_register c s o at x deps)
r_at_register c s o at x [] = r_launches_call c s o at x
r_at_register c s o at x (dep ∷ deps) = r_fixes c s o (service_of x)

r_starts_call : (c : Config) (s : State) (o : ℕ) (at : Reading) (x : Op) → Grows 0 s (starts_call c s o at x)
r_starts_call c s o at (op.Read key) = r_at_register c s o at (op.Read key) (owner_at s o).works.copy.deps
r_starts_call c s o at (op.Write key value) = r_at_register c s o at (op.Write key value) (owner_at s o).works.copy.deps
r_starts_call c s o at (op.Snap keys) = r_launches_call c s o at (op.Snap keys)
r_starts_call c s o at (op.Txn reads guard writes) = r_launches_call c s o at (op.Txn reads guard writes)

r_entered : (s : State) (o : ℕ) (x : Op) (at : Reading) → Grows 0 s (entered_first s o x at)
r_entered s o x at = cond_both (owner_at s o).works.enter (enters s o (service_of x) at.latest) s (Grows 0 s) (λ e. same s (enters s o (service_of x) at.latest) refl refl) (λ e. still s)

-- pipes that end
chunks_set : (xs : List Pipe) (k : ℕ) (w : Pipe) (i : ℕ) → length w.chunks ≤ length (get_or xs k opening_pipe).chunks → length (get_or (set xs k w) i opening_pipe).chunks ≤ length (get_or xs i opening_pipe).chunks
chunks_set xs k w i l = grind (arith, looks, l)

r_closes : (s : State) (n : ℕ) (seen : Seen) (p : ℕ) → Grows 0 s (closes s n seen p)
r_closes s n seen p = record { chunks = λ i. chunks_set s.pipes (p - 1) _ i (omega arith); planned = λ q. omega arith }

r_cuts : (s : State) (p : ℕ) → Grows 0 s (cuts_pipe s p)
r_cuts s p = record { chunks = λ i. chunks_set s.pipes (p - 1) _ i (omega arith); planned = λ q. omega arith }

r_closes_from : (c : Config) (n : ℕ) (seen : Seen) (xs : List PipeEnds) (p : ℕ) (s : State) → Grows 0 s (closes_from c s n seen p xs)
r_closes_from c n seen [] p s = still s
r_closes_from c n seen (x ∷ xs) p s =
    let t = if is_to_end c s n p then closes s n seen p else s in
    behind 0 s t (closes_from c t n seen (p + 1) xs) (cond_both (is_to_end c s n p) (closes s n seen p) s (Grows 0 s) (λ e. r_closes s n seen p) (λ e. still s)) (r_closes_from c n seen xs (p + 1) t)

r_cuts_from : (c : Config) (n : ℕ) (xs : List PipeEnds) (p : ℕ) (s : State) → Grows 0 s (cuts_from c s n p xs)
r_cuts_from c n [] p s = still s
r_cuts_from c n (x ∷ xs) p s =
    let t = if is_to_end c s n p then cuts_pipe s p else s in
    behind 0 s t (cuts_from c t n (p + 1) xs) (cond_both (is_to_end c s n p) (cuts_pipe s p) s (Grows 0 s) (λ e. r_cuts s p) (λ e. still s)) (r_cuts_from c n xs (p + 1) t)

r_gives_exit : (c : Config) (s : State) (n : ℕ) (seen : Seen) → Grows 0 s (gives_exit c s n seen)
r_gives_exit c s n seen = let g = r_closes_from c n seen c.pipe_ends 1 s in record { chunks = g.chunks; planned = g.planned }

r_exits : (c : Config) (s : State) (n : ℕ) → Grows 0 s (exits c s n)
r_exits c s n =
    let t = record s { stages = set s.stages (n - 1) (record (stage_at s n) { life = life.Over Exited }); history = s.history ++ Over n Exited ∷ [] } in
    behind 0 s t (exits c s n) (same s t refl refl) (r_gives_exit c t n (stage_at s n).context)

r_ends_stub : (c : Config) (s : State) (o : ℕ) → Grows 0 s (ends_stub c s o)
r_ends_stub c s o =
    let seen = fenced_outside (owner_at s o).works.copy in
    let t = with_owner s o (record (closed s o Ended) { works = record (owner_at s o).works { copy = seen } }) in
    behind 0 s t (ends_stub c s o) (same s t refl refl) (r_gives_exit c t (owner_at s o).stage seen)

r_loses_stub : (c : Config) (s : State) (o : ℕ) (target : Target) → Grows 0 s (loses_stub c s o target)
r_loses_stub c s o target =
    let t = with_owner s o (closed s o (CutOff target)) in
    behind 0 s t (loses_stub c s o target) (same s t refl refl) (r_cuts_from c (owner_at s o).stage c.pipe_ends 1 t)

r_closes_owner : (s : State) (o : Option ℕ) (f : OwnerFate) → Grows 0 s (closes_owner s o f)
r_closes_owner s None f = still s
r_closes_owner s (Some o) f = same s (closes_owner s (Some o) f) refl refl

r_dies : (s : State) (n : ℕ) (how : How) (f : OwnerFate) → Grows 0 s (dies s n how f)
r_dies s n how f = let g = r_closes_owner s (stage_at s n).owner f in record { chunks = g.chunks; planned = g.planned }

-- WORKS

r_works_over : (c : Config) (s : State) (o : ℕ) (at : Reading) (k : OwnerKind) → Grows 0 s (works_over c s o at k)
r_works_over c s o at (kind.Calling x) = behind 0 s (entered_first s o x at) _ (r_entered s o x at) (r_starts_call c (entered_first s o x at) o at x)
r_works_over c s o at kind.Fencing = same s (works_over c s o at kind.Fencing) refl refl
r_works_over c s o at (kind.Stubbing u) = r_ends_stub c s o

r_goes_through : (c : Config) (s : State) (o : ℕ) (at : Reading) (ws : List (ServiceId × FenceWork)) → Grows 0 s (goes_through c s o at ws)
r_goes_through c s o at [] = r_works_over c s o at (owner_at s o).kind
r_goes_through c s o at ((id, Nothing) ∷ ws) = after (r_goes_through c (fence_ends s o id) o at ws)
  where
    after : Grows 0 (fence_ends s o id) (goes_through c (fence_ends s o id) o at ws) → Grows 0 s (goes_through c (fence_ends s o id) o at ws)
    after g = record { chunks = g.chunks; planned = g.planned }
r_goes_through c s o at ((id, Past time) ∷ ws) = by_time (r_goes_through c (fence_ends s o id) o at ws)
  where
    by_time : Grows 0 (fence_ends s o id) (goes_through c (fence_ends s o id) o at ws) → Grows 0 s (goes_through c s o at ((id, Past time) ∷ ws))
    by_time g =
        cond_both (nat_lt time at.earliest) (goes_through c (fence_ends s o id) o at ws) (waits_for s o time) (Grows 0 s)
        (λ e. record { chunks = g.chunks; planned = g.planned }) (λ e. same s (waits_for s o time) refl refl)
r_goes_through c s o at ((id, Fix) ∷ ws) = r_fixes c s o id

r_ends_work : (c : Config) (s : State) (o : ℕ) (at : Reading) (ws : List (ServiceId × FenceWork)) → Grows 0 s (ends_work c s o at ws)
r_ends_work c s o at [] = still s
r_ends_work c s o at (w ∷ ws) = let g = r_goes_through c (fence_ends s o w.0) o at ws in record { chunks = g.chunks; planned = g.planned }

r_cleared : (c : Config) (s : State) (o : ℕ) (at : Reading) (k : OwnerKind) → Grows 0 s (launches_cleared c s o at k)
r_cleared c s o at (kind.Calling x) = r_launches_call c s o at x
r_cleared c s o at kind.Fencing = still s
r_cleared c s o at (kind.Stubbing u) = still s

r_fix_ends : (c : Config) (s : State) (o : ℕ) (at : Reading) (ws : List (ServiceId × FenceWork)) → Grows 0 s (fix_ends c s o at ws)
r_fix_ends c s o at [] = let g = r_cleared c (clears s o) o at (owner_at s o).kind in record { chunks = g.chunks; planned = g.planned }
r_fix_ends c s o at (w ∷ ws) = r_ends_work c s o at (w ∷ ws)

-- CALLS

r_replies : (c : Config) (s : State) (o : ℕ) (shown : List Shown) (seen : Seen) → Grows 0 s (replies c s o shown seen)
r_replies c s o shown seen = same s (replies c s o shown seen) refl refl

r_register_ends : (c : Config) (s : State) (o : ℕ) (w : RegWork) (e : RegEnd) → Grows 0 s (register_ends c s o w e)
r_register_ends c s o (work.Read key) (ends.Read cell dep) = r_replies c s o (record { key = key; value = cell.value; writer = cell.writer } ∷ []) (after_read (owner_at s o).works.copy key.service dep)
r_register_ends c s o (work.Write key value) (ends.Written stamp) = r_replies c s o [] (after_write (owner_at s o).works.copy key.service)
r_register_ends c s o (work.Read key) (ends.Written stamp) = still s
r_register_ends c s o (work.Read key) ends.Fixed = still s
r_register_ends c s o (work.Write key value) (ends.Read cell dep) = still s
r_register_ends c s o (work.Write key value) ends.Fixed = still s
r_register_ends c s o (work.Fix deps) e = still s

r_ends_at : (c : Config) (s : State) (o : ℕ) (k : OwnerKind) (shown : List Shown) (time : Option ℕ) → Grows 0 s (ends_at c s o k shown time)
r_ends_at c s o (kind.Calling x) shown (Some time) = r_replies c s o shown (after_txn (owner_at s o).works.copy (service_of x) time)
r_ends_at c s o (kind.Calling x) shown None = still s
r_ends_at c s o kind.Fencing shown time = still s
r_ends_at c s o (kind.Stubbing u) shown time = still s

r_forgets_if : (b : Bool) (s : State) (o : ℕ) → Grows 0 s (forgets_if b s o)
r_forgets_if true s o = same s (forgets s o) refl refl
r_forgets_if false s o = still s

r_txn_turns : (c : Config) (s : State) (o : ℕ) (t : Turn TxnSession) → Grows 0 s (txn_turns c s o t)
r_txn_turns c s o t =
    let u = forgets_if t.anew s o in
    let v = goes_on u o (session.Transaction t.after) t.outs in
    behind 0 s u _ (r_forgets_if t.anew s o) (behind 0 u v _ (r_goes_on u o (session.Transaction t.after) t.outs) (r_ends_at c v o (owner_at s o).kind (shown_reply t.after.reads t.after.lines) (txn_end t.after.phase)))

r_snap_turns : (c : Config) (s : State) (o : ℕ) (t : Turn SnapSession) → Grows 0 s (snap_turns c s o t)
r_snap_turns c s o t =
    let u = forgets_if t.anew s o in
    let v = goes_on u o (session.Snapshot t.after) t.outs in
    behind 0 s u _ (r_forgets_if t.anew s o) (behind 0 u v _ (r_goes_on u o (session.Snapshot t.after) t.outs) (r_ends_at c v o (owner_at s o).kind (shown_reply t.after.keys t.after.lines) (snap_end t.after.phase)))

-- PLANS

one_planned : (x : Option ℕ) (counts : List ℕ) (place : ℕ) → get_or (one_more_at x counts) place 0 ≤ get_or counts place 0 + 1
one_planned None counts place = omega arith
one_planned (Some k) counts place = at counts k place
  where
    at : (xs : List ℕ) (k p : ℕ) → get_or (set xs k (get_or xs k 0 + 1)) p 0 ≤ get_or xs p 0 + 1
    at xs k p = grind (arith, looks)

fences_counted : (ws : List (ServiceId × FenceWork)) (counts : List ℕ) (place : ℕ) → get_or (counts_fences ws counts) place 0 ≤ get_or counts place 0 + length ws
fences_counted [] counts place = omega arith
fences_counted (w ∷ ws) counts place = let a = fences_counted ws (one_more_at (place_of w.0) counts) place in let b = one_planned (place_of w.0) counts place in omega (arith, a, b)

few_counted : (ws : List (ServiceId × FenceWork)) (counts : List ℕ) (place : ℕ) → length ws ≤ 16 → get_or (counts_fences ws counts) place 0 ≤ get_or counts place 0 + 16
few_counted ws counts place l = let a = fences_counted ws counts place in omega (arith, a, l)

r_opens_call : (b : ℕ) (s : State) (n : ℕ) (x : Op) → AllFine b s → Grows 16 s (opens_call s n x)
r_opens_call b s n x h = record { chunks = λ i. omega arith; planned = λ p. few_counted (plan_for (stage_at s n).context (service_of x)).fences s.planned p (few_for b (stage_at s n).context (service_of x) (h.stages (n - 1))) }

r_opens_fence : (b : ℕ) (s : State) (n : ℕ) → AllFine b s → Grows 16 s (opens_fence s n)
r_opens_fence b s n h = record { chunks = λ i. omega arith; planned = λ p. few_counted (plan_all (stage_at s n).context).fences s.planned p (few_fences b (stage_at s n).context (h.stages (n - 1))) }

r_plans_stub : (b : ℕ) (s : State) (o : ℕ) → Fine b (owner_at s o).works.copy → Grows 16 s (plans_stub s o)
r_plans_stub b s o h = record { chunks = λ i. omega arith; planned = λ p. few_counted (plan_all (owner_at s o).works.copy).fences s.planned p (few_fences b (owner_at s o).works.copy h) }

r_begins_call : (b : ℕ) (c : Config) (s : State) (n : ℕ) (at : Reading) (x : Option Op) → AllFine b s → Grows 16 s (begins_call c s n at x)
r_begins_call b c s n at None h = more 16 s s (still s)
r_begins_call b c s n at (Some x) h = let t = opens_call s n x in first_then 16 s t _ (r_opens_call b s n x h) (r_goes_through c t (length s.owners) at (owner_at t (length s.owners)).works.left)

-- STATEMENTS

r_takes_end : (s : State) (n variable p : ℕ) (x : EndMark) → Grows 0 s (takes_end s n variable p x)
r_takes_end s n variable p no_mark = still s
r_takes_end s n variable p (fenced_mark number seen) = same s (takes_end s n variable p (fenced_mark number seen)) refl refl
r_takes_end s n variable p bare_mark = same s (takes_end s n variable p bare_mark) refl refl

r_takes : (s : State) (n variable p : ℕ) (chunks : List Chunk) → Grows 0 s (takes s n variable p chunks)
r_takes s n variable p [] = r_takes_end s n variable p (pipe_at s p).mark
r_takes s n variable p (chunk ∷ chunks) = record { chunks = λ i. chunks_set s.pipes (p - 1) _ i (let e = length-drop 1 (pipe_at s p).chunks in omega (arith, e)); planned = λ q. omega arith }

r_waits_over : (s : State) (n child : ℕ) (x : StageState) → Grows 0 s (waits_over s n child x)
r_waits_over s n child standing.Exited = same s (waits_over s n child standing.Exited) refl refl
r_waits_over s n child (standing.Ended how (Some Fenced)) = same s (waits_over s n child (standing.Ended how (Some Fenced))) refl refl
r_waits_over s n child (standing.Ended how (Some (Unfenced target))) = same s (waits_over s n child (standing.Ended how (Some (Unfenced target)))) refl refl
r_waits_over s n child (standing.Ended how None) = still s
r_waits_over s n child standing.Unborn = still s
r_waits_over s n child standing.Live = still s

-- each pipe has at most its capacity
abbrev pub Roomy : Config → List Pipe → Type 0
Roomy c pipes = (i : ℕ) → length (get_or pipes i opening_pipe).chunks ≤ (get_or c.pipe_ends i no_ends).capacity

-- a step, or what makes one
pub record Steps (c : Config) (s t : State) : Type 0 where
  pub room : Roomy c s.pipes → Roomy c t.pipes
  pub planned : (place : ℕ) → get_or t.planned place 0 ≤ get_or s.planned place 0 + 16

by_grows : (n : ℕ) (c : Config) (s t : State) → n ≤ 16 → Grows n s t → Steps c s t
by_grows n c s t l g = record {
  room = λ h i. (let a = g.chunks i in let b = h i in omega (arith, a, b));
  planned = λ p. (let a = g.planned p in omega (arith, a, l));
}

none_planned : (c : Config) (s t : State) → Grows 0 s t → Steps c s t
none_planned c s t g = by_grows 0 c s t (omega arith) g

room_set : (c : Config) (xs : List Pipe) (k : ℕ) (w : Pipe) → length w.chunks ≤ (get_or c.pipe_ends k no_ends).capacity → Roomy c xs → Roomy c (set xs k w)
room_set c xs k w l h i = by_place (at xs k w i)
  where
    at : (xs : List Pipe) (k : ℕ) (w : Pipe) (i : ℕ) → ((get_or (set xs k w) i opening_pipe ≡ w) × (i ≡ k)) ⊎ (get_or (set xs k w) i opening_pipe ≡ get_or xs i opening_pipe)
    at xs k w i = grind (arith, looks)

    by_place : ((get_or (set xs k w) i opening_pipe ≡ w) × (i ≡ k)) ⊎ (get_or (set xs k w) i opening_pipe ≡ get_or xs i opening_pipe) → length (get_or (set xs k w) i opening_pipe).chunks ≤ (get_or c.pipe_ends i no_ends).capacity
    by_place (inl e) = subst (λ (x : Pipe). length x.chunks ≤ (get_or c.pipe_ends i no_ends).capacity) (sym e.0) (subst (λ (j : ℕ). length w.chunks ≤ (get_or c.pipe_ends j no_ends).capacity) (sym e.1) l)
    by_place (inr e) = subst (λ (x : Pipe). length x.chunks ≤ (get_or c.pipe_ends i no_ends).capacity) (sym e) (h i)

put_long : (pipe : Pipe) (value capacity : ℕ) (seen : Seen) (dropped : Bool) → (dropped ≡ false → has_room pipe capacity ≡ true) → length pipe.chunks ≤ capacity → length (pipe_put pipe value seen dropped).chunks ≤ capacity
put_long pipe value capacity seen true f l = l
put_long pipe value capacity seen false f l = let a = ltb-true (length pipe.chunks) capacity (f refl) in longer pipe.chunks _ capacity a
  where
    longer : (xs : List Chunk) (x : Chunk) (n : ℕ) → length xs < n → length (xs ++ x ∷ []) ≤ n
    longer xs x n l = grind (arith, looks, l)

s_puts : (c : Config) (s : State) (n p value : ℕ) (dropped : Bool) (cursor : Cursor) → (dropped ≡ false → has_room (pipe_at s p) (ends_of c p).capacity ≡ true) → Steps c s (puts s n p value dropped cursor)
s_puts c s n p value dropped cursor f = record {
  room = λ h. room_set c s.pipes (p - 1) _ (put_long (pipe_at s p) value (ends_of c p).capacity (stage_at s n).context dropped f (h (p - 1))) h;
  planned = λ q. omega arith;
}

-- what is known of a statement that can be made: a put has room, or is dropped
abbrev MayMake : Config → State → Statement ℕ Key ℕ ℕ → Type 0
MayMake c s (statement.Put p value) = is_settled c s (ends_of c p).taker ≡ false → has_room (pipe_at s p) (ends_of c p).capacity ≡ true
MayMake c s (statement.Let variable value) = ⊤
MayMake c s (statement.Repeat times) = ⊤
MayMake c s (statement.When test) = ⊤
MayMake c s statement.End = ⊤
MayMake c s (statement.Read variable key) = ⊤
MayMake c s (statement.Write key value) = ⊤
MayMake c s (statement.Snap pairs) = ⊤
MayMake c s (statement.Txn reads guard writes) = ⊤
MayMake c s statement.Fence = ⊤
MayMake c s (statement.Spawn child) = ⊤
MayMake c s (statement.Wait child) = ⊤
MayMake c s (statement.Take variable p) = ⊤
MayMake c s (statement.Close p) = ⊤
MayMake c s statement.Exit = ⊤

s_makes : (b : ℕ) (c : Config) (s : State) (n : ℕ) (at : Reading) (x : Statement ℕ Key ℕ ℕ) → MayMake c s x → AllFine b s → Steps c s (makes c s n at x)
s_makes b c s n at (statement.Let variable value) f h = none_planned c s _ (same s (makes c s n at (statement.Let variable value)) refl refl)
s_makes b c s n at (statement.Repeat times) f h = none_planned c s _ (same s (makes c s n at (statement.Repeat times)) refl refl)
s_makes b c s n at (statement.When test) f h = none_planned c s _ (same s (makes c s n at (statement.When test)) refl refl)
s_makes b c s n at statement.End f h = none_planned c s _ (same s (makes c s n at statement.End) refl refl)
s_makes b c s n at (statement.Read variable key) f h = by_grows 16 c s _ (omega arith) (r_begins_call b c s n at (op_of_statement (statement.Read variable key) (stage_at s n).cursor.variables) h)
s_makes b c s n at (statement.Write key value) f h = by_grows 16 c s _ (omega arith) (r_begins_call b c s n at (op_of_statement (statement.Write key value) (stage_at s n).cursor.variables) h)
s_makes b c s n at (statement.Snap pairs) f h = by_grows 16 c s _ (omega arith) (r_begins_call b c s n at (op_of_statement (statement.Snap pairs) (stage_at s n).cursor.variables) h)
s_makes b c s n at (statement.Txn reads guard writes) f h = by_grows 16 c s _ (omega arith) (r_begins_call b c s n at (op_of_statement (statement.Txn reads guard writes) (stage_at s n).cursor.variables) h)
s_makes b c s n at statement.Fence f h = let t = opens_fence s n in by_grows 16 c s _ (omega arith) (first_then 16 s t _ (r_opens_fence b s n h) (r_goes_through c t (length s.owners) at (owner_at t (length s.owners)).works.left))
s_makes b c s n at (statement.Spawn child) f h = none_planned c s _ (same s (makes c s n at (statement.Spawn child)) refl refl)
s_makes b c s n at (statement.Wait child) f h = none_planned c s _ (r_waits_over s n child (stage_state s child))
s_makes b c s n at (statement.Put p value) f h = s_puts c s n p _ (is_settled c s (ends_of c p).taker) _ f
s_makes b c s n at (statement.Take variable p) f h = none_planned c s _ (r_takes s n variable p (pipe_at s p).chunks)
s_makes b c s n at (statement.Close p) f h = let g = r_closes s n (stage_at s n).context p in none_planned c s _ (record { chunks = g.chunks; planned = g.planned })
s_makes b c s n at statement.Exit f h = none_planned c s _ (r_exits c s n)

-- ACTS OF OWNERS

r_txn_line : (c : Config) (s : State) (o : ℕ) (t : TxnSession) (l : Option Line) → Grows 0 s (txn_line_wakes c s o t l)
r_txn_line c s o t None = still s
r_txn_line c s o t (Some l) = r_txn_turns c s o (txn_wakes t l)

r_snap_line : (c : Config) (s : State) (o : ℕ) (t : SnapSession) (l : Option Line) → Grows 0 s (snap_line_wakes c s o t l)
r_snap_line c s o t None = still s
r_snap_line c s o t (Some l) = r_snap_turns c s o (snap_wakes t l)

r_txn_acts : (c : Config) (s : State) (o : ℕ) (t : TxnSession) (time : Option ℕ) → Grows 0 s (txn_acts c s o t time)
r_txn_acts c s o t (Some time) = r_txn_turns c s o (txn_passes t t.phase)
r_txn_acts c s o t None = r_txn_line c s o t (waking_line s t.lines)

r_session_acts : (c : Config) (s : State) (o : ℕ) (x : Session) → Grows 0 s (session_acts c s o x)
r_session_acts c s o (session.Transaction t) = r_txn_acts c s o t (waiting_time t t.phase)
r_session_acts c s o (session.Snapshot t) = r_snap_line c s o t (waking_line s t.lines)
r_session_acts c s o session.Idle = still s
r_session_acts c s o (session.Fixing r) = still s
r_session_acts c s o (session.Register r) = still s
r_session_acts c s o (session.Settling attempt shards) = still s

r_owner_acts : (c : Config) (s : State) (o : ℕ) (at : Reading) (wait : Option ℕ) → Grows 0 s (owner_acts c s o at wait)
r_owner_acts c s o at (Some time) = r_ends_work c s o at (owner_at s o).works.left
r_owner_acts c s o at None = r_session_acts c s o (owner_at s o).session

-- MESSAGES

r_request_comes : (s : State) (m o : ℕ) (at : Reading) (target : Target) (r : Request) → Grows 0 s (request_comes s m o at target r)
r_request_comes s m o at (Shard shard) r = same s (request_comes s m o at (Shard shard) r) refl refl
r_request_comes s m o at (Replica id replica) r = same s (request_comes s m o at (Replica id replica) r) refl refl

r_fix_goes_on : (c : Config) (s : State) (o : ℕ) (at : Reading) (r : RegSession) (e : Option RegEnd) → Grows 0 s (fix_goes_on c s o at r e)
r_fix_goes_on c s o at r None = same s (fix_goes_on c s o at r None) refl refl
r_fix_goes_on c s o at r (Some e) = let g = r_fix_ends c (forgets (turns_session s o (session.Fixing r)) o) o at (owner_at s o).works.left in record { chunks = g.chunks; planned = g.planned }

r_register_goes_on : (c : Config) (s : State) (o : ℕ) (r : RegSession) (anew : Bool) (e : Option RegEnd) → Grows 0 s (register_goes_on c s o r anew e)
r_register_goes_on c s o r anew (Some e) = let g = r_register_ends c (forgets (turns_session s o (session.Register r)) o) o r.work e in record { chunks = g.chunks; planned = g.planned }
r_register_goes_on c s o r true None = let g = r_goes_on (forgets s o) o (session.Register r) (awaited (round_requests r)) in record { chunks = g.chunks; planned = g.planned }
r_register_goes_on c s o r false None = same s (register_goes_on c s o r false None) refl refl

sends_works : (s : State) (o : ℕ) (outs : List Out) → (owner_at (sends s o outs) o).works ≡ (owner_at s o).works
sends_works s o outs = ap (λ (w : Owner). w.works) (sends_kept s o outs o)

r_stub_settles : (b : ℕ) (c : Config) (s : State) (o : ℕ) (at : Reading) (attempt : Attempt) (shards : List ℕ) (r : Reply) → Fine b (owner_at s o).works.copy → Grows 16 s (stub_settles c s o at attempt shards r)
r_stub_settles b c s o at attempt shards (reply.Decided outcome) h =
    let outs = tells_decision attempt outcome shards in
    let t = sends s o outs in
    let u = plans_stub t o in
    behind 16 s t _ (r_sends o outs s) (first_then 16 t u _ (r_plans_stub b t o (subst (λ (w : Works). Fine b w.copy) (sym (sends_works s o outs)) h)) (r_goes_through c u o at (owner_at u o).works.left))
r_stub_settles b c s o at attempt shards reply.Wounded h = more 16 s s (still s)
r_stub_settles b c s o at attempt shards (reply.Granted shown) h = more 16 s s (still s)
r_stub_settles b c s o at attempt shards (reply.Wait holders) h = more 16 s s (still s)
r_stub_settles b c s o at attempt shards (reply.Prepared time) h = more 16 s s (still s)
r_stub_settles b c s o at attempt shards reply.Done h = more 16 s s (still s)
r_stub_settles b c s o at attempt shards (reply.Outcome outcome) h = more 16 s s (still s)
r_stub_settles b c s o at attempt shards reply.Open h = more 16 s s (still s)
r_stub_settles b c s o at attempt shards reply.Released h = more 16 s s (still s)
r_stub_settles b c s o at attempt shards (reply.Blocked holders) h = more 16 s s (still s)
r_stub_settles b c s o at attempt shards (reply.Values versions skipped) h = more 16 s s (still s)
r_stub_settles b c s o at attempt shards reply.Fixed h = more 16 s s (still s)
r_stub_settles b c s o at attempt shards (reply.Held value stamp writer) h = more 16 s s (still s)
r_stub_settles b c s o at attempt shards reply.Stored h = more 16 s s (still s)

r_owner_hears : (b : ℕ) (c : Config) (s : State) (o slot : ℕ) (at : Reading) (r : Reply) (x : Session) → Fine b (owner_at s o).works.copy → Grows 16 s (owner_hears c s o slot at r x)
r_owner_hears b c s o slot at r (session.Fixing f) h = more 16 s _ (r_fix_goes_on c s o at (session_after f (slot_replica slot) r) (phase_end (session_after f (slot_replica slot) r).phase))
r_owner_hears b c s o slot at r (session.Register f) h = more 16 s _ (r_register_goes_on c s o (session_after f (slot_replica slot) r) (opens_round f.phase (session_after f (slot_replica slot) r).phase) (phase_end (session_after f (slot_replica slot) r).phase))
r_owner_hears b c s o slot at r (session.Transaction t) h = more 16 s _ (r_txn_turns c s o (txn_hears t (line_at t.lines (slot_shard slot)) at r))
r_owner_hears b c s o slot at r (session.Snapshot t) h = more 16 s _ (r_snap_turns c s o (snap_hears t (line_at t.lines (slot_shard slot)) r))
r_owner_hears b c s o slot at r (session.Settling attempt shards) h = r_stub_settles b c s o at attempt shards r h
r_owner_hears b c s o slot at r session.Idle h = more 16 s s (still s)

listens_works : (s : State) (o slot : ℕ) → (owner_at (listens s o slot) o).works ≡ (owner_at s o).works
listens_works s o slot = grind (arith, looks)

r_reply_comes : (b : ℕ) (c : Config) (s : State) (o : ℕ) (at : Reading) (r : Reply) (slot : Option ℕ) → AllFine b s → Grows 16 s (reply_comes c s o at r slot)
r_reply_comes b c s o at r None h = more 16 s s (still s)
r_reply_comes b c s o at r (Some slot) h =
    let t = listens s o slot in
    behind 16 s t _ (same s t refl refl) (r_owner_hears b c t o slot at r (owner_at s o).session (subst (λ (w : Works). Fine b w.copy) (sym (listens_works s o slot)) (h.owners o).copy))

r_comes : (b : ℕ) (c : Config) (s : State) (m : ℕ) (at : Reading) (e : Envelope) (x : MessageBody) → AllFine b s → Grows 16 s (comes c s m at e x)
r_comes b c s m at e (body.Request r) h = more 16 s _ (r_request_comes s m e.owner at e.target r)
r_comes b c s m at e (body.Reply r) h = r_reply_comes b c s e.owner at r (slot_in (owner_at s e.owner).currents e.exchange) h

-- LOSSES

r_target_lost : (c : Config) (s : State) (o : ℕ) (target : Target) (k : OwnerKind) → Grows 0 s (target_lost c s o target k)
r_target_lost c s o target (kind.Calling x) = r_dies s (owner_at s o).stage Unavailable (CutOff target)
r_target_lost c s o target kind.Fencing = r_dies s (owner_at s o).stage Unavailable (CutOff target)
r_target_lost c s o target (kind.Stubbing u) = r_loses_stub c s o target

r_is_cut_off : (c : Config) (s : State) (o : ℕ) (target : Target) → Grows 0 s (is_cut_off c s o target)
r_is_cut_off c s o (Shard shard) = r_target_lost c s o (Shard shard) (owner_at s o).kind
r_is_cut_off c s o (Replica id replica) =
    let t = cuts_off s o (Replica id replica) in
    let u = target_lost c t o (Replica id replica) (owner_at s o).kind in
    cond_both (is_quorum_lost c.tries (owner_at s o).losses id (replicas_of c id)) u t (Grows 0 s)
    (λ e. behind 0 s t u (same s t refl refl) (r_target_lost c t o (Replica id replica) (owner_at s o).kind)) (λ e. same s t refl refl)

r_asks_again : (s : State) (o slot : ℕ) (target : Target) (x : MessageBody) → Grows 0 s (asks_again s o slot target x)
r_asks_again s o slot target (body.Request r) = same s (asks_again s o slot target (body.Request r)) refl refl
r_asks_again s o slot target (body.Reply r) = still s

r_replaces : (s : State) (o : ℕ) (target : Target) (exchange : ℕ) (slot : Option ℕ) → Grows 0 s (replaces s o target exchange slot)
r_replaces s o target exchange None = still s
r_replaces s o target exchange (Some slot) = r_asks_again s o slot target (message_at s.net exchange).body

r_loss_counts : (c : Config) (s : State) (o : ℕ) (e : Envelope) → Grows 0 s (loss_counts c s o e)
r_loss_counts c s o e =
    let t = counts_loss s o e.target in
    let g = same s t refl refl in
    let cut = is_cut_off c t o e.target in
    let again = replaces t o e.target e.exchange (slot_in (owner_at t o).currents e.exchange) in
    let other = if nat_lt (losses_of (owner_at t o).losses e.target) c.tries then again else t in
    cond_both (reaches_tries c.tries (owner_at s o).losses e.target) cut other (Grows 0 s)
    (λ q. behind 0 s t cut g (r_is_cut_off c t o e.target))
    (λ q. cond_both (nat_lt (losses_of (owner_at t o).losses e.target) c.tries) again t (Grows 0 s) (λ p. behind 0 s t again g (r_replaces t o e.target e.exchange _)) (λ p. g))

r_loses : (c : Config) (s : State) (e : Envelope) → Grows 0 s (loses c s e)
r_loses c s e = cond_both (is_running (owner_at s e.owner).fate) (loss_counts c s e.owner e) s (Grows 0 s) (λ q. r_loss_counts c s e.owner e) (λ q. still s)

-- STUBS

r_stub_starts : (b : ℕ) (c : Config) (s : State) (o : ℕ) (at : Reading) (k : OwnerKind) → AllFine b s → Grows 16 s (stub_starts c s o at k)
r_stub_starts b c s o at (kind.Stubbing (Some u)) h = more 16 s _ (behind 0 s (starts_stub s o) (settles s o u.0 u.1) (same s (starts_stub s o) refl refl) (r_goes_on (starts_stub s o) o (session.Settling u.0 u.1) (line_out (least_shard u.1) (request.Decide u.0 false 0) ∷ [])))
r_stub_starts b c s o at (kind.Stubbing None) h = let t = plans_stub s o in first_then 16 s t _ (r_plans_stub b s o (h.owners o).copy) (r_goes_through c t o at (owner_at t o).works.left)
r_stub_starts b c s o at (kind.Calling x) h = more 16 s s (still s)
r_stub_starts b c s o at kind.Fencing h = more 16 s s (still s)

r_stub_acts : (b : ℕ) (c : Config) (s : State) (o : ℕ) (at : Reading) (started : Bool) → AllFine b s → Grows 16 s (stub_acts c s o at started)
r_stub_acts b c s o at false h = r_stub_starts b c s o at (owner_at s o).kind h
r_stub_acts b c s o at true h = more 16 s _ (r_ends_work c s o at (owner_at s o).works.left)

r_stub_of : (b : ℕ) (c : Config) (s : State) (o : Option ℕ) (at : Reading) → AllFine b s → Grows 16 s (stub_of_stage c s o at)
r_stub_of b c s None at h = more 16 s s (still s)
r_stub_of b c s (Some o) at h = r_stub_acts b c s o at (owner_at s o).started h

-- WHAT LETS A PUT PASS

settled_same : (c : Config) (s t : State) → ((m : ℕ) → stage_state t m ≡ stage_state s m) → (left m : ℕ) → is_settled_within left c t m ≡ is_settled_within left c s m
settled_same c s t e zero m = refl
settled_same c s t e (suc left) m =
    let r = settled_same c s t e left (parent_of c m) in
    subst (λ (x : StageState). (if is_unborn x then nat_lt 0 (parent_of c m) && is_settled_within left c t (parent_of c m) else is_done x) ≡ is_settled_within (suc left) c s m) (sym (e m))
    (ap (λ (b : Bool). if is_unborn (stage_state s m) then nat_lt 0 (parent_of c m) && b else is_done (stage_state s m)) r)

counted_life : (s : State) (n m : ℕ) → (stage_at (counts_act s n) m).life ≡ (stage_at s m).life
counted_life s n m = grind (arith, looks)

counted_stub : (s : State) (n m : ℕ) → (stage_at (counts_act s n) m).stub ≡ (stage_at s m).stub
counted_stub s n m = grind (arith, looks)

counted_cursor : (s : State) (n m : ℕ) → (stage_at (counts_act s n) m).cursor ≡ (stage_at s m).cursor
counted_cursor s n m = grind (arith, looks)

stub_end_same : (s t : State) → t.owners ≡ s.owners → (o : Option ℕ) → stub_end_of t o ≡ stub_end_of s o
stub_end_same s t e None = refl
stub_end_same s t e (Some o) = ap (λ (l : List Owner). stub_end (get_or l o no_owner).fate) e

-- how a stage stands, by its life and its stub's end
state_same : (s t : State) (n m : ℕ) → (stage_at t n).life ≡ (stage_at s m).life → stub_end_of t (stage_at t n).stub ≡ stub_end_of s (stage_at s m).stub → stage_state t n ≡ stage_state s m
state_same s t n m a b = ap (λ (x : Life). life_state x (stub_end_of t (stage_at t n).stub)) a ∙ ap (λ (x : Option StubEnd). life_state (stage_at s m).life x) b

counted_state : (s : State) (n m : ℕ) → stage_state (counts_act s n) m ≡ stage_state s m
counted_state s n m = state_same s (counts_act s n) m m (counted_life s n m) (stub_end_same s (counts_act s n) refl (stage_at (counts_act s n) m).stub ∙ ap (λ (o : Option ℕ). stub_end_of s o) (counted_stub s n m))

room_or : (a b d : Bool) → (a || b) ≡ true → d ≡ b → d ≡ false → a ≡ true
room_or true b d e f g = refl
room_or false b d e f g = absurd (true≢false (sym e ∙ (sym f ∙ g)))

may_make : (c : Config) (s : State) (n : ℕ) (x : Statement ℕ Key ℕ ℕ) → can_make c s x ≡ true → MayMake c (counts_act s n) x
may_make c s n (statement.Put p value) e = λ q. room_or (has_room (pipe_at s p) (ends_of c p).capacity) (is_settled c s (ends_of c p).taker) (is_settled c (counts_act s n) (ends_of c p).taker) e (settled_same c s (counts_act s n) (counted_state s n) 16 (ends_of c p).taker) q
may_make c s n (statement.Let variable value) e = tt
may_make c s n (statement.Repeat times) e = tt
may_make c s n (statement.When test) e = tt
may_make c s n statement.End e = tt
may_make c s n (statement.Read variable key) e = tt
may_make c s n (statement.Write key value) e = tt
may_make c s n (statement.Snap pairs) e = tt
may_make c s n (statement.Txn reads guard writes) e = tt
may_make c s n statement.Fence e = tt
may_make c s n (statement.Spawn child) e = tt
may_make c s n (statement.Wait child) e = tt
may_make c s n (statement.Take variable p) e = tt
may_make c s n (statement.Close p) e = tt
may_make c s n statement.Exit e = tt

can_now : (earliest : ℕ) (over live x : Bool) → (if over then Some StageOver else unless_enabled (is_enabled_at (if live then whether x else Never) earliest)) ≡ None → x ≡ true
can_now earliest true live x e = absurd (some_is_not StageOver e)
can_now earliest false true true e = refl
can_now earliest false true false e = absurd (some_is_not _ e)
can_now earliest false false x e = absurd (some_is_not _ e)

s_act : (b : ℕ) (c : Config) (s : State) (n : ℕ) (at : Reading) → kind_refusal c s at (Act n) ≡ None → AllFine b s → Steps c s (acts c (counts_act s n) n at (stage_at s n).owner)
s_act b c s n at e h = by_owner (stage_at s n).owner e
  where
    u : State
    u = counts_act s n

    k : AllFine b (counts_act s n)
    k = stage_moves b c s (counts_act s n) (an_act n) h

    next_same : next_statement c (counts_act s n) n ≡ next_statement c s n
    next_same = ap (λ (x : Cursor). statement_at c n x.position) (counted_cursor s n n)

    as_steps : (t : State) → Steps c (counts_act s n) t → Steps c s t
    as_steps t g = record { room = g.room; planned = g.planned }

    by_owner : (o : Option ℕ) → (if is_over (stage_at s n).life then Some StageOver else unless_enabled (is_enabled_at (if is_live (stage_at s n).life then live_enabling c s n o else Never) at.earliest)) ≡ None → Steps c s (acts c (counts_act s n) n at o)
    by_owner None q = as_steps _ (s_makes b c u n at (next_statement c u n) (subst (MayMake c (counts_act s n)) (sym next_same) (may_make c s n (next_statement c s n) (can_now at.earliest (is_over (stage_at s n).life) (is_live (stage_at s n).life) (can_make c s (next_statement c s n)) q))) k)
    by_owner (Some o) q = as_steps _ (none_planned c u _ (r_owner_acts c u o at (owner_at u o).works.wait))

-- ANY STEP

marked_fine : (b : ℕ) (s : State) (m : ℕ) (f : Fate) → AllFine b s → AllFine b (marks_message s m f)
marked_fine b s m f h = record { told = fated b s.net m f h.told; owners = h.owners; stages = h.stages; pipes = h.pipes; shards = h.shards }

pub s_effect : (b : ℕ) (c : Config) (s : State) (at : Reading) (x : StepKind) → kind_refusal c s at x ≡ None → AllFine b s → Steps c s (effect c s at x)
unfolding effect
s_effect b c s at (Act n) e h = s_act b c s n at e h
s_effect b c s at (Go m) e h = let g = r_comes b c (marks_message s m fate.Delivered) m at (message_at s.net m).envelope (message_at s.net m).body (marked_fine b s m fate.Delivered h) in by_grows 16 c s _ (omega arith) (record { chunks = g.chunks; planned = g.planned })
s_effect b c s at (Again m) e h = let g = r_comes b c (marks_message s m fate.Repeated) m at (message_at s.net m).envelope (message_at s.net m).body (marked_fine b s m fate.Repeated h) in by_grows 16 c s _ (omega arith) (record { chunks = g.chunks; planned = g.planned })
s_effect b c s at (Lose m) e h = let g = r_loses c (marks_message s m fate.Lost) (message_at s.net m).envelope in none_planned c s _ (record { chunks = g.chunks; planned = g.planned })
s_effect b c s at (Kill n) e h = none_planned c s _ (r_dies s n Killed Dropped)
s_effect b c s at (Stub n) e h = by_grows 16 c s _ (omega arith) (r_stub_of b c s (stage_at s n).stub at h)
