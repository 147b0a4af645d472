-- What becomes of a vote where its shard serves a request.
use Rattle.std.proofs.Common.{◌≡◌, ◌⊎◌, inl, inr, ℕ, ◌≤◌, List, Option, Some, None, sym, ap, ◌∙◌, subst}
use Rattle.truetime.specs.Reading.{Reading}
use Rattle.rss_names.specs.declared.attempt.Attempt.{Attempt}
use Rattle.rss_names.specs.declared.service.Key.{Key}
use Rattle.rss_names.specs.declared.service.Target.TheVariants.{Shard}
use Rattle.pipeline_lang.specs.declared.config.Config.{Config}
use Rattle.rss_wire.specs.declared.messages.Outcome.TheVariants.{Committed, Aborted}
use Rattle.rss_wire.specs.declared.messages.Reply.TheVariants as reply
use Rattle.rss_wire.specs.declared.messages.Request.{Request}
use Rattle.rss_wire.specs.declared.messages.Request.TheVariants.{Lock, Commit, Abort}
use Rattle.rss_tables.specs.Lines.{Line, coordinator_of}
use Rattle.rss_tables.specs.Prepared.{PreparedWriter, prepared_of}
use Rattle.rss_tables.specs.ShardRow.{Shard as ShardState, shard_after}
use Rattle.rss_tables.specs.TransactionSession.{TxnSession, attempt_of, computed, writes_on}
use Rattle.rss_machine.specs.State.{State, shard_at}
use Rattle.shard_laws.specs.Fitting.{IsPreparedAt}
use Rattle.shard_laws.specs.Locked.{IsGone}
use Rattle.shard_laws.specs.Applied.{IsApplied}
use Rattle.shard_laws.specs.Orderly.{IsOrderly, IsInOrder, HoldsShown}
use Rattle.shard_laws.proofs.Applies.{commit_applies, applied_stay}
use Rattle.shard_laws.proofs.Found.{prepared_attempt, prepared_itself}
use Rattle.shard_laws.proofs.Prepares.{entry_stays}
use Rattle.shard_laws.proofs.Stays.{gone_stay}
use Rattle.txn_state_laws.specs.Decided.{AllDecided}
use Rattle.txn_state_laws.specs.Justified.{Kept, IsJust}
use Rattle.txn_state_laws.specs.Onward.{Between}
use Rattle.txn_state_laws.specs.Orderly.{AllOrderly, PreparedIs}
use Rattle.txn_state_laws.specs.Replied.{Replied}
use Rattle.txn_state_laws.specs.Told.{LineTold}
use Rattle.txn_state_laws.specs.Voted.{LineApplied, VoteIs, prepared, aborted, applied}
use Rattle.txn_state_laws.proofs.Commits.{IsCommitted, kept_committed, commits_granted, line_applied}
use Rattle.txn_state_laws.proofs.Grows.{DecisionsStay, attempt_is, kept_grows}
use Rattle.txn_state_laws.proofs.Serves.{ServesAt}

-- a line of the present attempt was told on its shard that it holds its locks
line_granted : (s : State) (n : ℕ) (a : Attempt) (x : TxnSession) (l : Line) → attempt_of x ≡ a → l.shard ≡ n → Replied s (Shard l.shard) (Lock (attempt_of x) (coordinator_of x.lines) l.reads l.writes) (reply.Granted l.shown) → Replied s (Shard n) (Lock a (coordinator_of x.lines) l.reads l.writes) (reply.Granted l.shown)
line_granted s n a x l e f r =
    subst (λ (shard : ℕ). Replied s (Shard shard) (Lock a (coordinator_of x.lines) l.reads l.writes) (reply.Granted l.shown)) f
    (subst (λ (b : Attempt). Replied s (Shard l.shard) (Lock b (coordinator_of x.lines) l.reads l.writes) (reply.Granted l.shown)) e r)

-- who is prepared is not done with
not_gone : (sh : ShardState) (a : Attempt) (p : PreparedWriter) → prepared_of sh.prepared a ≡ Some p → IsGone sh a → ⊥
not_gone sh a p e g = let f : ◌≡◌ {A = Option PreparedWriter} None (Some p) = sym g.unprepared ∙ e in cc

-- the commit of an attempt that is prepared closes what it was shown and what it writes
committed_entry : (sh : ShardState) (latest time : ℕ) (a : Attempt) (p : PreparedWriter) (l : Line) (writes : List (Key × ℕ)) → IsOrderly sh → prepared_of sh.prepared a ≡ Some p → HoldsShown sh a l.reads l.writes l.shown → p.writes ≡ writes → p.prepare_time ≤ time → IsApplied (shard_after sh latest (Commit a time)) a.call time l.reads l.shown writes
committed_entry sh latest time a p l writes o e h w m =
    subst (λ (list : List (Key × ℕ)). IsApplied (shard_after sh latest (Commit a time)) a.call time l.reads l.shown list) w
    (subst (λ (b : Attempt). IsApplied (shard_after sh latest (Commit b time)) b.call time l.reads l.shown p.writes) itself
    (commit_applies sh latest time p l.reads l.writes l.shown o (prepared_itself sh.prepared a p e) (subst (λ (b : Attempt). HoldsShown sh b l.reads l.writes l.shown) (sym itself) h) m))
  where
    itself : p.attempt ≡ a
    itself = prepared_attempt sh.prepared a p e

-- a shard that serves the commit of a prepared attempt has applied its line
commit_applied : (c : Config) (at : Reading) (s t : State) → Between c at s t → AllDecided s → AllDecided t → AllOrderly c s → (n : ℕ) → 1 ≤ n → (a : Attempt) (time : ℕ) → Kept s a (Committed time) → Kept t a (Committed time) → (p : PreparedWriter) → prepared_of (shard_at s n).prepared a ≡ Some p → p.prepare_time ≤ time → shard_at t n ≡ shard_after (shard_at s n) at.latest (Commit a time) → LineApplied t n a time
commit_applied c at s t b decided decided' orderly n numbered a time k k' p e m after =
    line_applied c s t b.framed b.framed_after b.onward decided decided' n a time k k' is.txn is.of is.line is.is_line
    (subst (λ (sh : ShardState). IsApplied sh a.call time is.line.reads is.line.shown (writes_on is.line (computed is.txn))) (sym after)
    (committed_entry (shard_at s n) at.latest time a p is.line (writes_on is.line (computed is.txn)) (orderly.orderly n) e holds (is.now now.present).writes_are m))
  where
    is : PreparedIs s n a p
    is = orderly.prepared n a p numbered e

    now : IsCommitted a is.txn time
    now = kept_committed c s b.framed decided a time k is.txn is.of

    told : LineTold s is.txn is.line
    told = subst (LineTold s is.txn) is.is_line.is.at (b.told.txn a.call is.is_line.is.place is.txn is.of.under_way is.is_line.is.inside)

    granted : Replied s (Shard n) (Lock a (coordinator_of is.txn.lines) is.line.reads is.line.writes) (reply.Granted is.line.shown)
    granted = line_granted s n a is.txn is.line (attempt_is is.txn a (b.framed.txn a.call is.txn is.of.under_way).call now.present) is.is_line.on (told.granted (commits_granted is.txn.phase time is.line.state now.at))

    by_holding : HoldsShown (shard_at s n) a is.line.reads is.line.writes is.line.shown ⊎ IsGone (shard_at s n) a → HoldsShown (shard_at s n) a is.line.reads is.line.writes is.line.shown
    by_holding (inl h) = h
    by_holding (inr g) = absurd (not_gone (shard_at s n) a p e g)

    holds : HoldsShown (shard_at s n) a is.line.reads is.line.writes is.line.shown
    holds = by_holding (orderly.granted n a (coordinator_of is.txn.lines) is.line.reads is.line.writes is.line.shown granted)

-- a prepared attempt stays so, or is aborted, or committed and applied
serve_prepared : (c : Config) (at : Reading) (s t : State) → Between c at s t → DecisionsStay s t → AllDecided s → AllDecided t → AllOrderly c s → (n : ℕ) → 1 ≤ n → (q : Request) → ServesAt at.latest s t n q → (a : Attempt) (time : ℕ) → IsPreparedAt (shard_at s n) a time → VoteIs t n a time
serve_prepared c at s t b stay decided decided' orderly n numbered q x a time v = by_fate (entry_stays (shard_at s n) at.latest q (orderly.orderly n).reached a v.entry v.there)
  where
    is_commit : (commit_time : ℕ) → q ≡ Commit a commit_time → IsGone (shard_after (shard_at s n) at.latest q) a → VoteIs t n a time
    is_commit commit_time e g =
        let k : Kept s a (Committed commit_time) = subst (IsJust s x.owner x.shard) e x.just in
        let k' : Kept t a (Committed commit_time) = kept_grows s t b.onward stay a (Committed commit_time) k in
        let in_order : IsInOrder (shard_at s n) (Commit a commit_time) = subst (IsInOrder (shard_at s n)) e x.in_order in
        let l : v.entry.prepare_time ≤ commit_time = in_order.timely v.entry v.there in
        applied commit_time k' (subst (λ (t : ℕ). t ≤ commit_time) v.at l) (subst (λ (sh : ShardState). IsGone sh a) (sym x.after) g)
        (commit_applied c at s t b decided decided' orderly n numbered a commit_time k k' v.entry v.there l (x.after ∙ ap (shard_after (shard_at s n) at.latest) e))

    by_fate : (prepared_of (shard_after (shard_at s n) at.latest q).prepared a ≡ Some v.entry) ⊎ (IsGone (shard_after (shard_at s n) at.latest q) a × (((commit_time : ℕ) × (q ≡ Commit a commit_time)) ⊎ (q ≡ Abort a))) → VoteIs t n a time
    by_fate (inl e) = prepared record { entry = v.entry; there = ap (λ (sh : ShardState). prepared_of sh.prepared a) x.after ∙ e; at = v.at }
    by_fate (inr (g, inl e)) = is_commit e.0 e.1 g
    by_fate (inr (g, inr e)) = aborted (kept_grows s t b.onward stay a Aborted (subst (IsJust s x.owner x.shard) e x.just))

-- what becomes of a vote where its shard serves a request
pub vote_serves : (c : Config) (at : Reading) (s t : State) → Between c at s t → DecisionsStay s t → AllDecided s → AllDecided t → AllOrderly c s → (n : ℕ) → 1 ≤ n → (q : Request) → ServesAt at.latest s t n q → (a : Attempt) (time : ℕ) → VoteIs s n a time → VoteIs t n a time
vote_serves c at s t b stay decided decided' orderly n numbered q x a time (prepared v) = serve_prepared c at s t b stay decided decided' orderly n numbered q x a time v
vote_serves c at s t b stay decided decided' orderly n numbered q x a time (aborted k) = aborted (kept_grows s t b.onward stay a Aborted k)
vote_serves c at s t b stay decided decided' orderly n numbered q x a time (applied commit_time k l g line) =
    let k' : Kept t a (Committed commit_time) = kept_grows s t b.onward stay a (Committed commit_time) k in
    applied commit_time k' l
    (subst (λ (sh : ShardState). IsGone sh a) (sym x.after) (gone_stay (shard_at s n) at.latest q (orderly.orderly n).reached a g))
    (line_applied c s t b.framed b.framed_after b.onward decided decided' n a commit_time k k' line.txn line.of line.line line.is_line
    (subst (λ (sh : ShardState). IsApplied sh a.call commit_time line.line.reads line.line.shown (writes_on line.line (computed line.txn))) (sym x.after)
    (applied_stay (shard_at s n) at.latest q (orderly.orderly n) x.in_order a.call commit_time line.line.reads line.line.shown (writes_on line.line (computed line.txn)) line.applied)))

-- and where its shard stays
pub vote_stays : (c : Config) (at : Reading) (s t : State) → Between c at s t → DecisionsStay s t → AllDecided s → AllDecided t → (n : ℕ) → shard_at t n ≡ shard_at s n → (a : Attempt) (time : ℕ) → VoteIs s n a time → VoteIs t n a time
vote_stays c at s t b stay decided decided' n same a time (prepared v) = prepared (subst (λ (sh : ShardState). IsPreparedAt sh a time) (sym same) v)
vote_stays c at s t b stay decided decided' n same a time (aborted k) = aborted (kept_grows s t b.onward stay a Aborted k)
vote_stays c at s t b stay decided decided' n same a time (applied commit_time k l g line) =
    let k' : Kept t a (Committed commit_time) = kept_grows s t b.onward stay a (Committed commit_time) k in
    applied commit_time k' l (subst (λ (sh : ShardState). IsGone sh a) (sym same) g)
    (line_applied c s t b.framed b.framed_after b.onward decided decided' n a commit_time k k' line.txn line.of line.line line.is_line
    (subst (λ (sh : ShardState). IsApplied sh a.call commit_time line.line.reads line.line.shown (writes_on line.line (computed line.txn))) (sym same) line.applied))
