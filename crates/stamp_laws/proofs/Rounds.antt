-- Stamps in requests, rounds and replicas, against two bounds: what is told, heard and held is up to the one, what is stored
-- up to the other.
use Rattle.std.proofs.Common.{◌≡◌, ℕ, suc, ◌-◌, ◌≤◌, ◌⊎◌, inl, inr, Bool, true, false, List, [], ◌∷◌, get_or, Option, Some, None, sym, subst, arith}
use Rattle.std.specs.Prelude.{⊤, replicate, if◌then◌else◌}
use Rattle.std.proofs.Math.ListN.{set}
use Rattle.std.proofs.lemmas.Bool.{cond_both}
use Rattle.std.proofs.lemmas.List.Elements.{All-nil, All-cons, All-head, All-tail}
use Rattle.rss_names.specs.declared.service.Key.{Key}
use Rattle.rss_names.specs.declared.service.Target.{Target}
use Rattle.rss_names.specs.declared.service.Target.TheVariants.{Shard, Replica}
use Rattle.rss_names.specs.Services.{same_service}
use Rattle.carstamps.specs.Stamp.{stamp_lt}
use Rattle.causal_context.specs.declared.dep.Dep.{Dep}
use Rattle.rss_wire.specs.declared.messages.RegReply.{RegReply}
use Rattle.rss_wire.specs.declared.messages.Reply.{Reply}
use Rattle.rss_wire.specs.declared.messages.Reply.TheVariants as reply
use Rattle.rss_wire.specs.declared.messages.Request.{Request}
use Rattle.rss_wire.specs.declared.messages.Request.TheVariants as request
use Rattle.rss_tables.specs.RegisterSession.{RegSession, phase_request, session_after, reached, reply_cell, read_end, read_dep, found_cell}
use Rattle.rss_names.specs.declared.attempt.Attempt.{Attempt}
use Rattle.rss_wire.specs.declared.messages.Outcome.{Outcome}
use Rattle.rss_tables.specs.Attempts.{has_attempt}
use Rattle.rss_tables.specs.Locks.{holds, is_tombstoned, in_way_of, named_holders}
use Rattle.rss_tables.specs.Prepared.{PreparedWriter, prepared_of, blocking, passed_by, named_blocking, named_skipped}
use Rattle.rss_tables.specs.ShardRow.{Shard as ShardState, shard_after, shard_reply, is_clear, lock_reply, prepare_reply, decide_reply, inquire_reply, decision_in}
use Rattle.rss_tables.specs.Versions.{newest_of, versions_at}
use Rattle.rss_tables.specs.ReplicaRow.{opening_cell, held_at, accept, accept_all, dep_cell, replica_after, replica_reply}
use Rattle.rss_tables.specs.Round.{Round, hears, was_heard, is_reached, greater_cell, greatest_after, greatest_heard, is_agreed}
use Rattle.rss_tables.specs.declared.register_session.RegEnd.{RegEnd}
use Rattle.rss_tables.specs.declared.register_session.RegEnd.TheVariants as ends
use Rattle.rss_tables.specs.declared.register_session.RegPhase.{RegPhase}
use Rattle.rss_tables.specs.declared.register_session.RegPhase.TheVariants as phase
use Rattle.rss_tables.specs.declared.register_session.RegWork.{RegWork}
use Rattle.rss_tables.specs.declared.register_session.RegWork.TheVariants as work
use Rattle.rss_machine.specs.Moves.{session_without}
use Rattle.rss_machine.specs.Session.{Session}
use Rattle.rss_machine.specs.declared.session.Session.TheVariants as session
use Rattle.world_laws.specs.Stamps.{DepUpTo, DepsUpTo, RequestStampsUpTo, ReplyStampsUpTo, WorkStampsUpTo, GivenUpTo}
use Rattle.world_laws.proofs.Looks.{looks, get_or_repeat, some_is, none_is_not}

-- WHAT A REPLICA HOLDS

abbrev pub HeldUpTo : ℕ → List RegReply → Type 0
HeldUpTo b cells = (i : ℕ) → (get_or cells i opening_cell).stamp.number ≤ b

accept_held : (b : ℕ) (cells : List RegReply) (key : Key) (cell : RegReply) → HeldUpTo b cells → cell.stamp.number ≤ b → HeldUpTo b (accept cells key cell)
accept_held b cells key cell h l i =
    let a = h i in
    cond_both (stamp_lt (held_at cells key).stamp cell.stamp) (set cells key.index cell) cells (λ (x : List RegReply). (get_or x i opening_cell).stamp.number ≤ b) (λ e. grind (arith, looks, a, l)) (λ e. a)

all_held : (b : ℕ) (cells : List RegReply) (deps : List Dep) → DepsUpTo b deps → HeldUpTo b cells → HeldUpTo b (accept_all cells deps)
all_held b cells [] f h = h
all_held b cells (dep ∷ deps) f h = all_held b (accept cells dep.key (dep_cell dep)) deps (All-tail (DepUpTo b) dep deps f) (accept_held b cells dep.key (dep_cell dep) h (All-head (DepUpTo b) dep deps f))

pub after_held : (b : ℕ) (cells : List RegReply) (r : Request) → RequestStampsUpTo b r → HeldUpTo b cells → HeldUpTo b (replica_after cells r)
unfolding replica_after
after_held b cells (request.Store key value stamp writer) f h = accept_held b cells key (record { value = value; stamp = stamp; writer = writer }) h f
after_held b cells (request.Fix deps) f h = all_held b cells deps f h
after_held b cells (request.Ask key) f h = h
after_held b cells (request.Stamp key) f h = h
after_held b cells (request.Lock attempt coordinator reads writes) f h = h
after_held b cells (request.Prepare attempt least earliest_end writes) f h = h
after_held b cells (request.Decide attempt commit time) f h = h
after_held b cells (request.Commit attempt commit_time) f h = h
after_held b cells (request.Abort attempt) f h = h
after_held b cells (request.Inquire attempt) f h = h
after_held b cells (request.Release attempt time last) f h = h
after_held b cells (request.Snapshot read_time least keys skip) f h = h

pub reply_held : (b : ℕ) (cells : List RegReply) (r : Request) → HeldUpTo b cells → ReplyStampsUpTo b (replica_reply cells r)
unfolding replica_reply
reply_held b cells (request.Store key value stamp writer) h = tt
reply_held b cells (request.Fix deps) h = tt
reply_held b cells (request.Ask key) h = h key.index
reply_held b cells (request.Stamp key) h = h key.index
reply_held b cells (request.Lock attempt coordinator reads writes) h = tt
reply_held b cells (request.Prepare attempt least earliest_end writes) h = tt
reply_held b cells (request.Decide attempt commit time) h = tt
reply_held b cells (request.Commit attempt commit_time) h = tt
reply_held b cells (request.Abort attempt) h = tt
reply_held b cells (request.Inquire attempt) h = tt
reply_held b cells (request.Release attempt time last) h = tt
reply_held b cells (request.Snapshot read_time least keys skip) h = tt

-- a shard tells of no stamp
lock_tells : (b : ℕ) (sh : ShardState) (a : Attempt) (reads writes : List Key) → ReplyStampsUpTo b (lock_reply sh a reads writes)
lock_tells b sh a reads writes =
    let other = if holds sh.locks a then reply.Granted (newest_of sh.store reads) else reply.Wait (named_holders (in_way_of sh.locks a reads writes)) in
    cond_both (is_tombstoned sh.locks a) reply.Wounded other (ReplyStampsUpTo b) (λ e. tt)
    (λ e. cond_both (holds sh.locks a) (reply.Granted (newest_of sh.store reads)) (reply.Wait (named_holders (in_way_of sh.locks a reads writes))) (ReplyStampsUpTo b) (λ f. tt) (λ f. tt))

prepare_tells : (b : ℕ) (p : Option PreparedWriter) → ReplyStampsUpTo b (prepare_reply p)
prepare_tells b None = tt
prepare_tells b (Some p) = tt

decide_tells : (b : ℕ) (x : Option Outcome) → ReplyStampsUpTo b (decide_reply x)
decide_tells b None = tt
decide_tells b (Some x) = tt

inquire_tells : (b : ℕ) (x : Option Outcome) → ReplyStampsUpTo b (inquire_reply x)
inquire_tells b None = tt
inquire_tells b (Some x) = tt

pub shard_tells : (b : ℕ) (sh : ShardState) (latest : ℕ) (r : Request) → ReplyStampsUpTo b (shard_reply sh latest r)
unfolding shard_reply
shard_tells b sh latest (request.Lock a coordinator reads writes) = lock_tells b (shard_after sh latest (request.Lock a coordinator reads writes)) a reads writes
shard_tells b sh latest (request.Prepare a least earliest_end writes) = prepare_tells b (prepared_of (shard_after sh latest (request.Prepare a least earliest_end writes)).prepared a)
shard_tells b sh latest (request.Decide a commit time) = decide_tells b (decision_in (shard_after sh latest (request.Decide a commit time)).decisions a)
shard_tells b sh latest (request.Commit a time) = tt
shard_tells b sh latest (request.Abort a) = tt
shard_tells b sh latest (request.Inquire a) = inquire_tells b (decision_in sh.decisions a)
shard_tells b sh latest (request.Release a time last) = cond_both (has_attempt (shard_after sh latest (request.Release a time last)).released a) reply.Released reply.Wounded (ReplyStampsUpTo b) (λ e. tt) (λ e. tt)
shard_tells b sh latest (request.Snapshot read_time least keys skip) =
    cond_both (is_clear sh keys read_time least skip) (reply.Values (versions_at sh.store keys read_time) (named_skipped (passed_by sh.prepared keys read_time least skip))) (reply.Blocked (named_blocking (blocking sh.prepared keys read_time least skip))) (ReplyStampsUpTo b) (λ e. tt) (λ e. tt)
shard_tells b sh latest (request.Fix deps) = tt
shard_tells b sh latest (request.Ask key) = tt
shard_tells b sh latest (request.Stamp key) = tt
shard_tells b sh latest (request.Store key value stamp writer) = tt

-- ROUNDS

abbrev pub EndUpTo : ℕ → ℕ → RegEnd → Type 0
EndUpTo b d (ends.Read cell dep) = (cell.stamp.number ≤ b) × GivenUpTo b dep
EndUpTo b d (ends.Written stamp) = stamp.number ≤ d
EndUpTo b d ends.Fixed = ⊤

abbrev pub PhaseUpTo : ℕ → ℕ → RegPhase → Type 0
PhaseUpTo b d phase.Fixing = ⊤
PhaseUpTo b d phase.Asking = ⊤
PhaseUpTo b d phase.Stamping = ⊤
PhaseUpTo b d (phase.Storing stamp) = stamp.number ≤ d
PhaseUpTo b d (phase.Done end) = EndUpTo b d end

abbrev pub RoundUpTo : ℕ → Round → Type 0
RoundUpTo b x = (place : ℕ) → (found_cell (get_or x.heard place None)).stamp.number ≤ b

pub record Rounds (b d : ℕ) (r : RegSession) : Type 0 where
  pub of_work : WorkStampsUpTo b r.work
  pub heard : RoundUpTo b r.round
  pub of_phase : PhaseUpTo b d r.phase

abbrev pub SessionUpTo : ℕ → ℕ → Session → Type 0
SessionUpTo b d (session.Register r) = Rounds b d r
SessionUpTo b d (session.Fixing r) = Rounds b d r
SessionUpTo b d session.Idle = ⊤
SessionUpTo b d (session.Transaction t) = ⊤
SessionUpTo b d (session.Snapshot t) = ⊤
SessionUpTo b d (session.Settling attempt shards) = ⊤

-- the greatest cell heard
greater_up : (b : ℕ) (best : Option RegReply) (cell : RegReply) → (found_cell best).stamp.number ≤ b → cell.stamp.number ≤ b → (greater_cell best cell).stamp.number ≤ b
greater_up b None cell h l = l
greater_up b (Some best) cell h l = cond_both (stamp_lt best.stamp cell.stamp) cell best (λ (x : RegReply). x.stamp.number ≤ b) (λ e. l) (λ e. h)

greatest_up : (b : ℕ) (heard : List (Option RegReply)) (best : Option RegReply) → (found_cell best).stamp.number ≤ b → ((i : ℕ) → (found_cell (get_or heard i None)).stamp.number ≤ b) → (found_cell (greatest_after best heard)).stamp.number ≤ b
greatest_up b [] best h g = h
greatest_up b (None ∷ heard) best h g = greatest_up b heard best h (λ i. g (suc i))
greatest_up b (Some cell ∷ heard) best h g = greatest_up b heard (Some (greater_cell best cell)) (greater_up b best cell h (g 0)) (λ i. g (suc i))

found_up : (b : ℕ) (x : Round) → RoundUpTo b x → (found_cell (greatest_heard x)).stamp.number ≤ b
found_up b x h = greatest_up b x.heard None (omega arith) h

-- a reply is heard
cell_up : (b : ℕ) (r : Reply) → ReplyStampsUpTo b r → (reply_cell r).stamp.number ≤ b
cell_up b (reply.Held value stamp writer) h = h
cell_up b reply.Wounded h = omega arith
cell_up b (reply.Granted shown) h = omega arith
cell_up b (reply.Wait holders) h = omega arith
cell_up b (reply.Prepared time) h = omega arith
cell_up b (reply.Decided outcome) h = omega arith
cell_up b reply.Done h = omega arith
cell_up b (reply.Outcome outcome) h = omega arith
cell_up b reply.Open h = omega arith
cell_up b reply.Released h = omega arith
cell_up b (reply.Blocked holders) h = omega arith
cell_up b (reply.Values versions skipped) h = omega arith
cell_up b reply.Fixed h = omega arith
cell_up b reply.Stored h = omega arith

set_heard : (b : ℕ) (heard : List (Option RegReply)) (place : ℕ) (cell : RegReply) → ((i : ℕ) → (found_cell (get_or heard i None)).stamp.number ≤ b) → cell.stamp.number ≤ b → (i : ℕ) → (found_cell (get_or (set heard place (Some cell)) i None)).stamp.number ≤ b
set_heard b heard place cell h l i = by_place (at heard place cell i)
  where
    at : (xs : List (Option RegReply)) (k : ℕ) (x : RegReply) (i : ℕ) → (get_or (set xs k (Some x)) i None ≡ Some x) ⊎ (get_or (set xs k (Some x)) i None ≡ get_or xs i None)
    at xs k x i = grind (arith, looks)

    by_place : (get_or (set heard place (Some cell)) i None ≡ Some cell) ⊎ (get_or (set heard place (Some cell)) i None ≡ get_or heard i None) → (found_cell (get_or (set heard place (Some cell)) i None)).stamp.number ≤ b
    by_place (inl e) = subst (λ (x : Option RegReply). (found_cell x).stamp.number ≤ b) (sym e) l
    by_place (inr e) = subst (λ (x : Option RegReply). (found_cell x).stamp.number ≤ b) (sym e) (h i)

hears_up : (b : ℕ) (x : Round) (from : ℕ) (cell : RegReply) → RoundUpTo b x → cell.stamp.number ≤ b → RoundUpTo b (hears x from cell)
hears_up b x from cell h l = cond_both (was_heard x from) x (record x { heard = set x.heard (from - 1) (Some cell) }) (RoundUpTo b) (λ e. h) (λ e. set_heard b x.heard (from - 1) cell h l)

-- a round that begins
pub none_heard : (b i : ℕ) → (found_cell (get_or (replicate 7 None) i None)).stamp.number ≤ b
none_heard b i = subst (λ (x : Option RegReply). (found_cell x).stamp.number ≤ b) (sym (at i)) (omega arith)
  where
    at : (i : ℕ) → get_or {A = Option RegReply} (replicate 7 None) i None ≡ None
    at i = let q = get_or_repeat {X = Option RegReply} 7 None i None in grind (arith, q)

-- how a read ends
dep_up : (b : ℕ) (key : Key) (cell : RegReply) (agreed : Bool) → cell.stamp.number ≤ b → GivenUpTo b (read_dep key cell agreed)
dep_up b key cell true l = tt
dep_up b key cell false l = l

end_up : (b d : ℕ) (w : RegWork) (cell : RegReply) (agreed : Bool) → cell.stamp.number ≤ b → EndUpTo b d (read_end w cell agreed)
end_up b d (work.Read key) cell agreed l = (l, dep_up b key cell agreed l)
end_up b d (work.Write key value) cell agreed l = (l, tt)
end_up b d (work.Fix deps) cell agreed l = (l, tt)

-- a majority has replied
reached_up : (b : ℕ) (r : RegSession) (p : RegPhase) → PhaseUpTo b (suc b) p → Rounds b (suc b) r → Rounds b (suc b) (reached r p)
reached_up b r phase.Fixing q h = record { of_work = h.of_work; heard = h.heard; of_phase = tt }
reached_up b r phase.Asking q h = record { of_work = h.of_work; heard = h.heard; of_phase = end_up b (suc b) r.work (found_cell (greatest_heard r.round)) (is_agreed r.round) (found_up b r.round h.heard) }
reached_up b r phase.Stamping q h = record { of_work = h.of_work; heard = none_heard b; of_phase = let l = found_up b r.round h.heard in omega (arith, l) }
reached_up b r (phase.Storing stamp) q h = record { of_work = h.of_work; heard = h.heard; of_phase = q }
reached_up b r (phase.Done end) q h = h

pub after_up : (b : ℕ) (r : RegSession) (from : ℕ) (p : Reply) → ReplyStampsUpTo b p → Rounds b (suc b) r → Rounds b (suc b) (session_after r from p)
after_up b r from p l h =
    let g = record r { round = hears r.round from (reply_cell p) } in
    let k : Rounds b (suc b) g = record { of_work = h.of_work; heard = hears_up b r.round from (reply_cell p) h.heard (cell_up b p l); of_phase = h.of_phase } in
    cond_both (is_reached g.round) (reached g r.phase) g (Rounds b (suc b)) (λ e. reached_up b g r.phase h.of_phase k) (λ e. k)

pub without_up : (b d : ℕ) (x : Session) (target : Target) → SessionUpTo b d x → SessionUpTo b d (session_without x target)
without_up b d (session.Fixing r) (Replica id replica) h = cond_both (same_service r.service id) _ r (Rounds b d) (λ t. record { of_work = h.of_work; heard = h.heard; of_phase = h.of_phase }) (λ f. h)
without_up b d (session.Register r) (Replica id replica) h = cond_both (same_service r.service id) _ r (Rounds b d) (λ t. record { of_work = h.of_work; heard = h.heard; of_phase = h.of_phase }) (λ f. h)
without_up b d (session.Fixing r) (Shard shard) h = h
without_up b d (session.Register r) (Shard shard) h = h
without_up b d session.Idle target h = h
without_up b d (session.Transaction t) target h = h
without_up b d (session.Snapshot t) target h = h
without_up b d (session.Settling attempt shards) target h = h

-- what a phase asks
pub phase_asks : (b d call : ℕ) (w : RegWork) (p : RegPhase) (r : Request) → b ≤ d → WorkStampsUpTo b w → PhaseUpTo b d p → phase_request call w p ≡ Some r → RequestStampsUpTo d r
phase_asks b d call (work.Fix deps) phase.Fixing r m k q e = subst (RequestStampsUpTo d) (some_is (request.Fix deps) r e) (deps_more b d deps m k)
  where
    deps_more : (b d : ℕ) (deps : List Dep) → b ≤ d → DepsUpTo b deps → DepsUpTo d deps
    deps_more b d [] m h = All-nil (DepUpTo d)
    deps_more b d (dep ∷ deps) m h = let l = All-head (DepUpTo b) dep deps h in All-cons (DepUpTo d) dep deps (omega (arith, l, m)) (deps_more b d deps m (All-tail (DepUpTo b) dep deps h))
phase_asks b d call (work.Fix deps) phase.Asking r m k q e = absurd (none_is_not r e)
phase_asks b d call (work.Fix deps) phase.Stamping r m k q e = absurd (none_is_not r e)
phase_asks b d call (work.Fix deps) (phase.Storing stamp) r m k q e = absurd (none_is_not r e)
phase_asks b d call (work.Fix deps) (phase.Done end) r m k q e = absurd (none_is_not r e)
phase_asks b d call (work.Read key) phase.Fixing r m k q e = absurd (none_is_not r e)
phase_asks b d call (work.Read key) phase.Asking r m k q e = subst (RequestStampsUpTo d) (some_is (request.Ask key) r e) tt
phase_asks b d call (work.Read key) phase.Stamping r m k q e = absurd (none_is_not r e)
phase_asks b d call (work.Read key) (phase.Storing stamp) r m k q e = absurd (none_is_not r e)
phase_asks b d call (work.Read key) (phase.Done end) r m k q e = absurd (none_is_not r e)
phase_asks b d call (work.Write key value) phase.Fixing r m k q e = absurd (none_is_not r e)
phase_asks b d call (work.Write key value) phase.Asking r m k q e = absurd (none_is_not r e)
phase_asks b d call (work.Write key value) phase.Stamping r m k q e = subst (RequestStampsUpTo d) (some_is (request.Stamp key) r e) tt
phase_asks b d call (work.Write key value) (phase.Storing stamp) r m k q e = subst (RequestStampsUpTo d) (some_is (request.Store key value stamp call) r e) q
phase_asks b d call (work.Write key value) (phase.Done end) r m k q e = absurd (none_is_not r e)
