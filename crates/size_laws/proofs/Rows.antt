-- What a shard does with times: a prepared attempt may get a time one above all that it knew, and no other request makes a
-- new time.
use Rattle.std.proofs.Common.{ℕ, suc, ◌+◌, ◌≤◌, max, Bool, true, false, List, [], ◌∷◌, ◌++◌, Option, Some, None, All, arith}
use Rattle.std.specs.Prelude.{⊤, not, is_some, nat_le, if◌then◌else◌}
use Rattle.std.proofs.lemmas.Bool.{cond_both}
use Rattle.std.proofs.lemmas.List.Elements.{All-cons, All-nil, All-head, All-tail, All-filter, All-map, All-weaker, All-push}
use Rattle.rss_names.specs.declared.attempt.Attempt.{Attempt}
use Rattle.rss_names.specs.declared.service.Key.{Key}
use Rattle.rss_names.specs.Services.{same_key}
use Rattle.rss_wire.specs.declared.messages.Outcome.{Outcome}
use Rattle.rss_wire.specs.declared.messages.Outcome.TheVariants.{Aborted}
use Rattle.rss_wire.specs.declared.messages.Reply.TheVariants as reply
use Rattle.rss_wire.specs.declared.messages.Request.{Request}
use Rattle.rss_wire.specs.declared.messages.Request.TheVariants.{Lock, Prepare, Decide, Commit, Abort, Inquire, Release, Snapshot, Fix, Ask, Stamp, Store}
use Rattle.rss_wire.specs.declared.messages.Skipped.{Skipped}
use Rattle.rss_wire.specs.declared.messages.Version.{Version}
use Rattle.rss_tables.specs.Attempts.{same_attempt, has_attempt, attempt_lt}
use Rattle.rss_tables.specs.Locks.{holds, is_tombstoned, coordinator_in, in_way_of, named_holders}
use Rattle.rss_tables.specs.Prepared.{PreparedWriter, prepared_of, with_prepared, without_prepared, blocking, passed_by, named_blocking, named_skipped}
use Rattle.rss_tables.specs.ReplicaRow.{replica_reply}
use Rattle.rss_tables.specs.ShardRow.{Shard, shard_after, shard_reply, prepares, prepare_time, keeps_decision, asked_outcome, written_since, applied, commits, tombstones, can_release, releases, releases_last, is_clear, lock_reply, prepare_reply, decide_reply, inquire_reply, decision_in}
use Rattle.rss_tables.specs.Versions.{KeyVersions, opening_version, versions_of, last_upto, version_at, last_version, newest_version, with_version, versions_at, newest_of}
use Rattle.rss_wire.specs.declared.messages.RegReply.{RegReply}
use Rattle.world_laws.specs.Times.{most_margin, OutcomeUpTo, ShownUpTo, SkippedUpTo, RequestTimesUpTo, ReplyTimesUpTo, PreparedUpTo, ShardUpTo}
use Rattle.size_laws.proofs.Contexts.{max_up}
use Rattle.size_laws.proofs.Raised.{shard_more}

-- VERSIONS

abbrev pub OneUpTo : ℕ → Version → Type 0
OneUpTo b v = v.time ≤ b

abbrev pub KeyUpTo : ℕ → KeyVersions → Type 0
KeyUpTo b kv = All (OneUpTo b) kv.versions

of_key : (b : ℕ) (store : List KeyVersions) (key : Key) → All (KeyUpTo b) store → All (OneUpTo b) (versions_of store key)
of_key b [] key h = All-nil (OneUpTo b)
of_key b (kv ∷ store) key h = cond_both (same_key kv.key key) kv.versions (versions_of store key) (All (OneUpTo b)) (λ e. All-head (KeyUpTo b) kv store h) (λ e. of_key b store key (All-tail (KeyUpTo b) kv store h))

upto_up : (b time : ℕ) (found : Version) (versions : List Version) → found.time ≤ b → All (OneUpTo b) versions → (last_upto found time versions).time ≤ b
upto_up b time found [] l h = l
upto_up b time found (v ∷ versions) l h = upto_up b time (if nat_le v.time time then v else found) versions (cond_both (nat_le v.time time) v found (OneUpTo b) (λ e. All-head (OneUpTo b) v versions h) (λ e. l)) (All-tail (OneUpTo b) v versions h)

last_up : (b : ℕ) (found : Version) (versions : List Version) → found.time ≤ b → All (OneUpTo b) versions → (last_version found versions).time ≤ b
last_up b found [] l h = l
last_up b found (v ∷ versions) l h = last_up b v versions (All-head (OneUpTo b) v versions h) (All-tail (OneUpTo b) v versions h)

newest_up : (b : ℕ) (store : List KeyVersions) (keys : List Key) → All (KeyUpTo b) store → ShownUpTo b (newest_of store keys)
newest_up b store [] h = All-nil (λ (entry : Key × Version). entry.1.time ≤ b)
newest_up b store (key ∷ keys) h = All-cons (λ (entry : Key × Version). entry.1.time ≤ b) (key, newest_version store key) (newest_of store keys) (last_up b opening_version (versions_of store key) (omega arith) (of_key b store key h)) (newest_up b store keys h)

at_up : (b time : ℕ) (store : List KeyVersions) (keys : List Key) → All (KeyUpTo b) store → ShownUpTo b (versions_at store keys time)
at_up b time store [] h = All-nil (λ (entry : Key × Version). entry.1.time ≤ b)
at_up b time store (key ∷ keys) h = All-cons (λ (entry : Key × Version). entry.1.time ≤ b) (key, version_at store key time) (versions_at store keys time) (upto_up b time opening_version (versions_of store key) (omega arith) (of_key b store key h)) (at_up b time store keys h)

with_up : (b : ℕ) (store : List KeyVersions) (key : Key) (v : Version) → v.time ≤ b → All (KeyUpTo b) store → All (KeyUpTo b) (with_version store key v)
with_up b [] key v l h = h
with_up b (kv ∷ store) key v l h =
    let new = record kv { versions = kv.versions ++ v ∷ [] } in
    cond_both (same_key kv.key key) (new ∷ store) (kv ∷ with_version store key v) (All (KeyUpTo b))
    (λ e. All-cons (KeyUpTo b) new store (All-push (OneUpTo b) kv.versions v (All-head (KeyUpTo b) kv store h) l) (All-tail (KeyUpTo b) kv store h))
    (λ e. All-cons (KeyUpTo b) kv (with_version store key v) (All-head (KeyUpTo b) kv store h) (with_up b store key v l (All-tail (KeyUpTo b) kv store h)))

applied_up : (b call time : ℕ) (store : List KeyVersions) (writes : List (Key × ℕ)) → time ≤ b → All (KeyUpTo b) store → All (KeyUpTo b) (applied store call time writes)
applied_up b call time store [] l h = h
applied_up b call time store (w ∷ writes) l h =
    let v : Version = record { value = w.1; time = time; writer = call } in
    let next = if written_since (versions_of store w.0) time then store else with_version store w.0 v in
    applied_up b call time next writes l (cond_both (written_since (versions_of store w.0) time) store (with_version store w.0 v) (All (KeyUpTo b)) (λ e. h) (λ e. with_up b store w.0 v l h))

-- PREPARED WRITERS AND DECISIONS

insert_up : (b : ℕ) (prepared : List PreparedWriter) (new : PreparedWriter) → PreparedUpTo b new → All (PreparedUpTo b) prepared → All (PreparedUpTo b) (with_prepared prepared new)
insert_up b [] new l h = All-cons (PreparedUpTo b) new [] l h
insert_up b (p ∷ prepared) new l h = cond_both (attempt_lt new.attempt p.attempt) (new ∷ p ∷ prepared) (p ∷ with_prepared prepared new) (All (PreparedUpTo b))
    (λ e. All-cons (PreparedUpTo b) new (p ∷ prepared) l h) (λ e. All-cons (PreparedUpTo b) p (with_prepared prepared new) (All-head (PreparedUpTo b) p prepared h) (insert_up b prepared new l (All-tail (PreparedUpTo b) p prepared h)))

without_up : (b : ℕ) (prepared : List PreparedWriter) (a : Attempt) → All (PreparedUpTo b) prepared → All (PreparedUpTo b) (without_prepared prepared a)
without_up b prepared a h = All-filter (λ (p : PreparedWriter). not (same_attempt a p.attempt)) (PreparedUpTo b) prepared h

abbrev PreparedIs : ℕ → Option PreparedWriter → Type 0
PreparedIs b None = ⊤
PreparedIs b (Some p) = PreparedUpTo b p

entry_up : (b : ℕ) (prepared : List PreparedWriter) (a : Attempt) → All (PreparedUpTo b) prepared → PreparedIs b (prepared_of prepared a)
entry_up b [] a h = tt
entry_up b (p ∷ prepared) a h = cond_both (same_attempt a p.attempt) (Some p) (prepared_of prepared a) (PreparedIs b) (λ e. All-head (PreparedUpTo b) p prepared h) (λ e. entry_up b prepared a (All-tail (PreparedUpTo b) p prepared h))

abbrev DecidedUpTo : ℕ → Attempt × Outcome → Type 0
DecidedUpTo b d = OutcomeUpTo b d.1

abbrev DecisionIs : ℕ → Option Outcome → Type 0
DecisionIs b None = ⊤
DecisionIs b (Some outcome) = OutcomeUpTo b outcome

decision_up : (b : ℕ) (decisions : List (Attempt × Outcome)) (a : Attempt) → All (DecidedUpTo b) decisions → DecisionIs b (decision_in decisions a)
decision_up b [] a h = tt
decision_up b (d ∷ decisions) a h = cond_both (same_attempt a d.0) (Some d.1) (decision_in decisions a) (DecisionIs b) (λ e. All-head (DecidedUpTo b) d decisions h) (λ e. decision_up b decisions a (All-tail (DecidedUpTo b) d decisions h))

-- ROWS

keeps_up : (b : ℕ) (sh : Shard) (a : Attempt) (outcome : Outcome) → OutcomeUpTo b outcome → ShardUpTo b sh → ShardUpTo b (keeps_decision sh a outcome)
keeps_up b sh a outcome l h = cond_both (is_some (decision_in sh.decisions a)) sh (record sh { decisions = sh.decisions ++ (a, outcome) ∷ [] }) (ShardUpTo b) (λ e. h)
    (λ e. record { floor = h.floor; prepared = h.prepared; decisions = All-push (DecidedUpTo b) sh.decisions (a, outcome) h.decisions l; store = h.store })

prepares_up : (b : ℕ) (sh : Shard) (a : Attempt) (time earliest_end : ℕ) (writes : List (Key × ℕ)) (coordinator : Option ℕ) → time ≤ b → earliest_end ≤ b + most_margin → ShardUpTo b sh → ShardUpTo b (prepares sh a time earliest_end writes coordinator)
prepares_up b sh a time earliest_end writes None l m h = h
prepares_up b sh a time earliest_end writes (Some n) l m h = record { floor = h.floor; prepared = insert_up b sh.prepared _ (record { prepare_time = l; earliest_end = m }) h.prepared; decisions = h.decisions; store = h.store }

outcome_up : (b time latest : ℕ) (commit : Bool) → time ≤ b → latest ≤ b → OutcomeUpTo b (asked_outcome commit time latest)
outcome_up b time latest true l m = max_up time latest b l m
outcome_up b time latest false l m = tt

commits_up : (b : ℕ) (sh : Shard) (a : Attempt) (time : ℕ) (p : Option PreparedWriter) → time ≤ b → ShardUpTo b sh → ShardUpTo b (tombstones (commits sh a time p) a)
commits_up b sh a time None l h = record { floor = h.floor; prepared = h.prepared; decisions = h.decisions; store = h.store }
commits_up b sh a time (Some p) l h = record { floor = max_up sh.floor time b h.floor l; prepared = without_up b sh.prepared a h.prepared; decisions = h.decisions; store = applied_up b a.call time sh.store p.writes l h.store }

releases_up : (b : ℕ) (sh : Shard) (a : Attempt) (last : Bool) → ShardUpTo b sh → ShardUpTo b (releases_last sh a last)
releases_up b sh a true h = keeps_up b sh a Aborted tt h
releases_up b sh a false h = h

time_up : (b : ℕ) (sh : Shard) (latest least : ℕ) → latest ≤ b → least ≤ b → sh.floor ≤ b → prepare_time sh latest least ≤ suc b
time_up b sh latest least l m k = max_up latest (max (sh.floor + 1) (least + 1)) (suc b) (omega (arith, l)) (max_up (sh.floor + 1) (least + 1) (suc b) (omega (arith, k)) (omega (arith, m)))

pub after_up : (b : ℕ) (sh : Shard) (latest : ℕ) (r : Request) → latest ≤ b → RequestTimesUpTo b r → ShardUpTo b sh → ShardUpTo (suc b) (shard_after sh latest r)
unfolding shard_after
after_up b sh latest (Lock a coordinator reads writes) l q h = let k = shard_more b (suc b) sh (omega arith) h in record { floor = k.floor; prepared = k.prepared; decisions = k.decisions; store = k.store }
after_up b sh latest (Prepare a least earliest_end writes) l q h =
    let k = shard_more b (suc b) sh (omega arith) h in
    cond_both (is_some (prepared_of sh.prepared a)) sh (prepares sh a (prepare_time sh latest least) earliest_end writes (coordinator_in sh.locks.holders a)) (ShardUpTo (suc b)) (λ e. k)
    (λ e. prepares_up (suc b) sh a (prepare_time sh latest least) earliest_end writes (coordinator_in sh.locks.holders a) (time_up b sh latest least l q.0 h.floor) (let m = q.1 in omega (arith, m)) k)
after_up b sh latest (Decide a commit time) l q h = shard_more b (suc b) _ (omega arith) (keeps_up b sh a (asked_outcome commit time latest) (outcome_up b time latest commit q l) h)
after_up b sh latest (Commit a time) l q h = shard_more b (suc b) _ (omega arith) (commits_up b sh a time (prepared_of sh.prepared a) q h)
after_up b sh latest (Abort a) l q h = let k = shard_more b (suc b) sh (omega arith) h in record { floor = k.floor; prepared = without_up (suc b) sh.prepared a k.prepared; decisions = k.decisions; store = k.store }
after_up b sh latest (Inquire a) l q h = shard_more b (suc b) sh (omega arith) h
after_up b sh latest (Release a time last) l q h =
    let u = releases sh a time in
    let g : ShardUpTo b u = record { floor = max_up sh.floor time b h.floor q; prepared = h.prepared; decisions = h.decisions; store = h.store } in
    cond_both (can_release sh a) (releases_last u a last) sh (ShardUpTo (suc b)) (λ e. shard_more b (suc b) _ (omega arith) (releases_up b u a last g)) (λ e. shard_more b (suc b) sh (omega arith) h)
after_up b sh latest (Snapshot read_time least keys skip) l q h =
    cond_both (is_clear sh keys read_time least skip) (record sh { floor = max sh.floor read_time }) sh (ShardUpTo (suc b))
    (λ e. shard_more b (suc b) _ (omega arith) (record { floor = max_up sh.floor read_time b h.floor q.0; prepared = h.prepared; decisions = h.decisions; store = h.store }))
    (λ e. shard_more b (suc b) sh (omega arith) h)
after_up b sh latest (Fix deps) l q h = shard_more b (suc b) sh (omega arith) h
after_up b sh latest (Ask key) l q h = shard_more b (suc b) sh (omega arith) h
after_up b sh latest (Stamp key) l q h = shard_more b (suc b) sh (omega arith) h
after_up b sh latest (Store key value stamp writer) l q h = shard_more b (suc b) sh (omega arith) h

-- REPLIES

lock_replies : (b : ℕ) (sh : Shard) (a : Attempt) (reads writes : List Key) → ShardUpTo b sh → ReplyTimesUpTo b (lock_reply sh a reads writes)
lock_replies b sh a reads writes h =
    let other = if holds sh.locks a then reply.Granted (newest_of sh.store reads) else reply.Wait (named_holders (in_way_of sh.locks a reads writes)) in
    cond_both (is_tombstoned sh.locks a) reply.Wounded other (ReplyTimesUpTo b) (λ e. tt)
    (λ e. cond_both (holds sh.locks a) (reply.Granted (newest_of sh.store reads)) (reply.Wait (named_holders (in_way_of sh.locks a reads writes))) (ReplyTimesUpTo b) (λ f. newest_up b sh.store reads h.store) (λ f. tt))

prepare_replies : (b : ℕ) (p : Option PreparedWriter) → PreparedIs b p → ReplyTimesUpTo b (prepare_reply p)
prepare_replies b None h = tt
prepare_replies b (Some p) h = h.prepare_time

decide_replies : (b : ℕ) (d : Option Outcome) → DecisionIs b d → ReplyTimesUpTo b (decide_reply d)
decide_replies b None h = tt
decide_replies b (Some d) h = h

inquire_replies : (b : ℕ) (d : Option Outcome) → DecisionIs b d → ReplyTimesUpTo b (inquire_reply d)
inquire_replies b None h = tt
inquire_replies b (Some d) h = h

skipped_up : (b : ℕ) (prepared : List PreparedWriter) → All (PreparedUpTo b) prepared → SkippedUpTo b (named_skipped prepared)
skipped_up b prepared h = All-map (λ (x : Skipped). x.prepare_time ≤ b) (λ (p : PreparedWriter). record { attempt = p.attempt; coordinator = p.coordinator; prepare_time = p.prepare_time }) prepared (All-weaker (PreparedUpTo b) (λ (p : PreparedWriter). p.prepare_time ≤ b) (λ p k. k.prepare_time) prepared h)

passed_up : (b : ℕ) (prepared : List PreparedWriter) (keys : List Key) (read_time least : ℕ) (skip : Bool) → All (PreparedUpTo b) prepared → All (PreparedUpTo b) (passed_by prepared keys read_time least skip)
passed_up b prepared keys read_time least skip h = All-filter _ (PreparedUpTo b) prepared h

pub reply_up : (b : ℕ) (sh : Shard) (latest : ℕ) (r : Request) → latest ≤ b → RequestTimesUpTo b r → ShardUpTo b sh → ReplyTimesUpTo (suc b) (shard_reply sh latest r)
unfolding shard_reply
reply_up b sh latest (Lock a coordinator reads writes) l q h = lock_replies (suc b) (shard_after sh latest (Lock a coordinator reads writes)) a reads writes (after_up b sh latest (Lock a coordinator reads writes) l q h)
reply_up b sh latest (Prepare a least earliest_end writes) l q h = let r = Prepare a least earliest_end writes in prepare_replies (suc b) (prepared_of (shard_after sh latest r).prepared a) (entry_up (suc b) (shard_after sh latest r).prepared a (after_up b sh latest r l q h).prepared)
reply_up b sh latest (Decide a commit time) l q h = let r = Decide a commit time in decide_replies (suc b) (decision_in (shard_after sh latest r).decisions a) (decision_up (suc b) (shard_after sh latest r).decisions a (after_up b sh latest r l q h).decisions)
reply_up b sh latest (Commit a time) l q h = tt
reply_up b sh latest (Abort a) l q h = tt
reply_up b sh latest (Inquire a) l q h = inquire_replies (suc b) (decision_in sh.decisions a) (decision_up (suc b) sh.decisions a (shard_more b (suc b) sh (omega arith) h).decisions)
reply_up b sh latest (Release a time last) l q h = cond_both (has_attempt (shard_after sh latest (Release a time last)).released a) reply.Released reply.Wounded (ReplyTimesUpTo (suc b)) (λ e. tt) (λ e. tt)
reply_up b sh latest (Snapshot read_time least keys skip) l q h =
    let k = shard_more b (suc b) sh (omega arith) h in
    cond_both (is_clear sh keys read_time least skip) (reply.Values (versions_at sh.store keys read_time) (named_skipped (passed_by sh.prepared keys read_time least skip))) (reply.Blocked (named_blocking (blocking sh.prepared keys read_time least skip))) (ReplyTimesUpTo (suc b))
    (λ e. (at_up (suc b) read_time sh.store keys k.store, skipped_up (suc b) (passed_by sh.prepared keys read_time least skip) (passed_up (suc b) sh.prepared keys read_time least skip k.prepared))) (λ e. tt)
reply_up b sh latest (Fix deps) l q h = tt
reply_up b sh latest (Ask key) l q h = tt
reply_up b sh latest (Stamp key) l q h = tt
reply_up b sh latest (Store key value stamp writer) l q h = tt

-- a replica tells no time
pub replica_up : (b : ℕ) (cells : List RegReply) (r : Request) → ReplyTimesUpTo b (replica_reply cells r)
unfolding replica_reply
replica_up b cells (Fix deps) = tt
replica_up b cells (Ask key) = tt
replica_up b cells (Stamp key) = tt
replica_up b cells (Store key value stamp writer) = tt
replica_up b cells (Lock a coordinator reads writes) = tt
replica_up b cells (Prepare a least earliest_end writes) = tt
replica_up b cells (Decide a commit time) = tt
replica_up b cells (Commit a time) = tt
replica_up b cells (Abort a) = tt
replica_up b cells (Inquire a) = tt
replica_up b cells (Release a time last) = tt
replica_up b cells (Snapshot read_time least keys skip) = tt
