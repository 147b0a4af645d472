-- Each request that was sent to a shard keeps it orderly.
use Rattle.std.proofs.Common.{◌≡◌, ℕ, zero, suc, ◌≤◌, true, List, Option, Some, None, refl, sym, ap, ◌∙◌, subst, arith}
use Rattle.rss_names.specs.declared.attempt.Attempt.{Attempt}
use Rattle.rss_names.specs.declared.service.Key.{Key}
use Rattle.pipeline_lang.specs.declared.config.Config.{Config}
use Rattle.rss_wire.specs.Messages.{message_at}
use Rattle.rss_wire.specs.declared.messages.Outcome.TheVariants.{Committed, Aborted}
use Rattle.rss_wire.specs.declared.messages.Request.{Request}
use Rattle.rss_wire.specs.declared.messages.Request.TheVariants.{Lock, Prepare, Decide, Commit, Abort, Inquire, Release, Snapshot, Fix, Ask, Stamp, Store}
use Rattle.rss_tables.specs.Lines.{Line, coordinator_of}
use Rattle.rss_tables.specs.Locks.{has_key}
use Rattle.rss_tables.specs.Prepared.{PreparedWriter, prepared_of}
use Rattle.rss_tables.specs.TransactionSession.{TxnSession, attempt_of, greatest_prepared}
use Rattle.rss_tables.specs.declared.lines.LineState.{LineState}
use Rattle.rss_tables.specs.declared.phases.TxnPhase.{TxnPhase}
use Rattle.rss_tables.specs.declared.phases.TxnPhase.TheVariants as phase
use Rattle.rss_machine.specs.State.{State, shard_at}
use Rattle.shard_laws.specs.Closed.{IsTimely}
use Rattle.shard_laws.specs.Fitting.{IsFitting}
use Rattle.session_laws.specs.Frames.{nth_line}
use Rattle.txn_state_laws.specs.Decided.{AllDecided, CommitsAt, DecidedIs}
use Rattle.txn_state_laws.specs.Framed.{AllFramed, IsLineOf}
use Rattle.txn_state_laws.specs.Justified.{AllJust, IsJust, Kept, PrepareIs}
use Rattle.txn_state_laws.specs.Orderly.{AllOrderly, AllInOrder, HeldIs, PreparedIs}
use Rattle.txn_state_laws.specs.Told.{AllTold, has_voted}
use Rattle.txn_state_laws.specs.Voted.{AllVoted, VoteIs, prepared, aborted, applied}
use Rattle.txn_state_laws.proofs.Grows.{one_txn, one_line, line_first, coordinator_first, kept_one, present_is}
use Rattle.session_laws.proofs.Shown.{greatest_prepared_above}

-- who asks to prepare writes only keys that it locked to write
prepare_fits : (c : Config) (s : State) → AllFramed c s → AllOrderly c s → (shard : ℕ) (a : Attempt) (least earliest_end : ℕ) (writes : List (Key × ℕ)) → PrepareIs s shard a least earliest_end writes → IsFitting (shard_at s shard) (Prepare a least earliest_end writes)
prepare_fits c s f o shard a least earliest_end writes j h e key w =
    let fit = (f.txn a.call j.txn j.of.under_way).lines in
    let d : HeldIs s shard a h = o.held shard a h (line_first c j.txn fit shard j.line j.is_line) e in
    let same : d.line ≡ j.line = one_line c j.txn fit shard d.line j.line (subst (λ (x : TxnSession). IsLineOf x shard d.line) (one_txn s a d.txn j.txn d.of j.of) d.is_line) j.is_line in
    ap (λ (keys : List Key). has_key keys key) (d.writes_are ∙ ap (λ (l : Line). l.writes) same) ∙ j.fits key w

just_fits : (c : Config) (s : State) → AllFramed c s → AllOrderly c s → (owner shard : ℕ) (q : Request) → IsJust s owner shard q → IsFitting (shard_at s shard) q
just_fits c s f o owner shard (Lock a coordinator reads writes) j = tt
just_fits c s f o owner shard (Prepare a least earliest_end writes) j = prepare_fits c s f o shard a least earliest_end writes j
just_fits c s f o owner shard (Decide a commit time) j = tt
just_fits c s f o owner shard (Commit a time) j = tt
just_fits c s f o owner shard (Abort a) j = tt
just_fits c s f o owner shard (Inquire a) j = tt
just_fits c s f o owner shard (Release a time last) j = tt
just_fits c s f o owner shard (Snapshot read_time least keys skip) j = tt
just_fits c s f o owner shard (Fix deps) j = tt
just_fits c s f o owner shard (Ask key) j = tt
just_fits c s f o owner shard (Stamp key) j = tt
just_fits c s f o owner shard (Store key value stamp writer) j = tt

-- an attempt that may be committed was told its prepare times
pub voted_of : (p : TxnPhase) (time : ℕ) (state : LineState) → CommitsAt p time → has_voted p state ≡ true
voted_of phase.Locking time state h = absurd h
voted_of phase.Preparing time state h = absurd h
voted_of (phase.Freeing other) time state h = absurd h
voted_of (phase.FreeingLast other) time state h = absurd h
voted_of (phase.Deciding other) time state h = refl
voted_of phase.Undoing time state h = absurd h
voted_of (phase.Waiting other) time state h = refl
voted_of (phase.Committed other) time state h = refl
voted_of (phase.Failed other) time state h = absurd h

-- two entries of an attempt are one
pub same_entry : (entries : List PreparedWriter) (a : Attempt) (p q : PreparedWriter) → prepared_of entries a ≡ Some p → prepared_of entries a ≡ Some q → p ≡ q
same_entry entries a p q e f = let x : ◌≡◌ {A = Option PreparedWriter} (Some p) (Some q) = sym e ∙ f in cc

pub no_entry : (entries : List PreparedWriter) (a : Attempt) (p : PreparedWriter) → prepared_of entries a ≡ Some p → prepared_of entries a ≡ None → ⊥
no_entry entries a p e f = let x : ◌≡◌ {A = Option PreparedWriter} (Some p) None = sym e ∙ f in cc

not_aborted : (time : ℕ) → Committed time ≡ Aborted → ⊥
not_aborted time e = cc

-- a commit that is kept is at the prepare time of each entry of its attempt, or later
pub commit_timely : (c : Config) (s : State) → AllFramed c s → AllTold s → AllDecided s → AllOrderly c s → AllVoted s → (shard : ℕ) → 1 ≤ shard → (a : Attempt) (time : ℕ) → Kept s a (Committed time) → IsTimely (shard_at s shard) (Commit a time)
commit_timely c s f told decided o voted shard first a time k p e = by_vote vote
  where
    x : TxnSession
    x = k.txn

    d : DecidedIs s (coordinator_of k.txn.lines) a (Committed time)
    d = decided.at (coordinator_of k.txn.lines) a (Committed time) (coordinator_first c k.txn.lines (f.txn a.call k.txn k.of.under_way).lines) k.kept

    same : d.txn ≡ k.txn
    same = one_txn s a d.txn k.txn d.of k.of

    done : (a.k ≡ k.txn.k) × CommitsAt k.txn.phase time × (greatest_prepared k.txn.lines ≤ time)
    done = subst (λ (y : TxnSession). (a.k ≡ y.k) × CommitsAt y.phase time × (greatest_prepared y.lines ≤ time)) same (d.committed time refl)

    i : PreparedIs s shard a p
    i = o.prepared shard a p first e

    here : IsLineOf k.txn shard i.line
    here = subst (λ (y : TxnSession). IsLineOf y shard i.line) (one_txn s a i.txn k.txn i.of k.of) i.is_line

    place : ℕ
    place = here.is.place

    at_shard : (nth_line k.txn.lines here.is.place).shard ≡ shard
    at_shard = ap (λ (l : Line). l.shard) here.is.at ∙ here.on

    vote : VoteIs s shard a (nth_line k.txn.lines here.is.place).prepare_time
    vote =
        let l = nth_line k.txn.lines here.is.place in
        let r = (told.txn a.call here.is.place k.txn k.of.under_way here.is.inside).voted (voted_of k.txn.phase time l.state done.1) in
        subst (λ (b : Attempt). VoteIs s shard b l.prepare_time) (present_is c s f a k.txn k.of done.0)
        (subst (λ (n : ℕ). VoteIs s n (attempt_of k.txn) l.prepare_time) at_shard (voted.each l.shard (attempt_of k.txn) k.txn.least k.txn.earliest_end _ l.prepare_time r))

    by_vote : VoteIs s shard a (nth_line k.txn.lines here.is.place).prepare_time → p.prepare_time ≤ time
    by_vote (prepared v) =
        let n = same_entry (shard_at s shard).prepared a p v.entry e v.there in
        let m = v.at in
        let g = greatest_prepared_above k.txn.lines here.is.place here.is.inside in
        let b = done.2 in
        let w : p.prepare_time ≡ v.entry.prepare_time = ap (λ (q : PreparedWriter). q.prepare_time) n in
        omega (arith, w, m, g, b)
    by_vote (aborted v) = absurd (not_aborted time (kept_one s a (Committed time) Aborted k v))
    by_vote (applied commit_time v m g l) = absurd (no_entry (shard_at s shard).prepared a p e g.unprepared)

-- shard 0 stands at the place of shard 1
commit_anywhere : (c : Config) (s : State) → AllFramed c s → AllTold s → AllDecided s → AllOrderly c s → AllVoted s → (shard : ℕ) (a : Attempt) (time : ℕ) → Kept s a (Committed time) → IsTimely (shard_at s shard) (Commit a time)
commit_anywhere c s f told decided o voted zero a time k = commit_timely c s f told decided o voted 1 (omega arith) a time k
commit_anywhere c s f told decided o voted (suc n) a time k = commit_timely c s f told decided o voted (suc n) (omega arith) a time k

just_timely : (c : Config) (s : State) → AllFramed c s → AllTold s → AllDecided s → AllOrderly c s → AllVoted s → (owner shard : ℕ) (q : Request) → IsJust s owner shard q → IsTimely (shard_at s shard) q
just_timely c s f told decided o voted owner shard (Lock a coordinator reads writes) j = tt
just_timely c s f told decided o voted owner shard (Prepare a least earliest_end writes) j = tt
just_timely c s f told decided o voted owner shard (Decide a commit time) j = tt
just_timely c s f told decided o voted owner shard (Commit a time) j = commit_anywhere c s f told decided o voted shard a time j
just_timely c s f told decided o voted owner shard (Abort a) j = tt
just_timely c s f told decided o voted owner shard (Inquire a) j = tt
just_timely c s f told decided o voted owner shard (Release a time last) j = tt
just_timely c s f told decided o voted owner shard (Snapshot read_time least keys skip) j = tt
just_timely c s f told decided o voted owner shard (Fix deps) j = tt
just_timely c s f told decided o voted owner shard (Ask key) j = tt
just_timely c s f told decided o voted owner shard (Stamp key) j = tt
just_timely c s f told decided o voted owner shard (Store key value stamp writer) j = tt

-- each request that was sent to a shard keeps it orderly
pub in_order : (c : Config) (s : State) → AllFramed c s → AllTold s → AllJust s → AllDecided s → AllOrderly c s → AllVoted s → AllInOrder s
in_order c s f told just decided o voted = record {
  each = λ m shard q w. let j = just.each m shard q w in record {
    fits = just_fits c s f o (message_at s.net m).envelope.owner shard q j;
    timely = just_timely c s f told decided o voted (message_at s.net m).envelope.owner shard q j;
  };
}
