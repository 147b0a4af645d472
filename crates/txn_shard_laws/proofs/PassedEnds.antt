-- A commit that is kept is one of the present attempt, whose transaction could not end before a time, and so it stays.
use Rattle.std.proofs.Common.{◌≡◌, ℕ, ◌<◌, Some, refl, sym, ap, ◌∙◌, subst, arith}
use Rattle.rss_names.specs.declared.attempt.Attempt.{Attempt}
use Rattle.pipeline_lang.specs.declared.config.Config.{Config}
use Rattle.rss_wire.specs.declared.messages.Outcome.TheVariants.{Committed}
use Rattle.rss_wire.specs.declared.messages.Version.{Version}
use Rattle.rss_tables.specs.Lines.{coordinator_of}
use Rattle.rss_tables.specs.ShardRow.{decision_in}
use Rattle.rss_tables.specs.TransactionSession.{TxnSession}
use Rattle.rss_machine.specs.State.{State, owner_at, shard_at}
use Rattle.rss_machine.specs.declared.session.Session.TheVariants as session
use Rattle.txn_state_laws.specs.Decided.{AllDecided}
use Rattle.txn_state_laws.specs.Framed.{AllFramed, TxnFramed, OfAttempt}
use Rattle.txn_state_laws.specs.Justified.{Kept}
use Rattle.txn_state_laws.specs.Onward.{AllOnward}
use Rattle.txn_state_laws.specs.Passed.{EndsLater}
use Rattle.txn_state_laws.proofs.Commits.{IsCommitted, kept_committed, commits_prepared}
use Rattle.txn_state_laws.proofs.Grows.{AttemptGrows, DecisionsStay, attempt_grows, attempt_is, kept_grows, one_txn}

-- a commit that is kept, of a transaction that could not end before a read time
kept_ends : (c : Config) (s : State) → AllFramed c s → AllDecided s → (a : Attempt) (time : ℕ) → Kept s a (Committed time) → (x : TxnSession) → OfAttempt s a x → (read_time : ℕ) → read_time < x.earliest_end → (u : Version) → u.writer ≡ a.call → u.time ≡ time → EndsLater s read_time u
kept_ends c s framed decided a time k x of read_time l u w e = record {
  txn = x;
  under_way = subst (λ (o : ℕ). (owner_at s o).session ≡ session.Transaction x) (sym w) of.under_way;
  committed = ap (decision_in (shard_at s (coordinator_of x.lines)).decisions) (attempt_is x a (framed.txn a.call x of.under_way).call (kept_committed c s framed decided a time k x of).present) ∙ kept ∙ ap (λ (n : ℕ). Some (Committed n)) (sym e);
  unended = l;
}
  where
    kept : decision_in (shard_at s (coordinator_of x.lines)).decisions a ≡ Some (Committed time)
    kept = subst (λ (y : TxnSession). decision_in (shard_at s (coordinator_of y.lines)).decisions a ≡ Some (Committed time)) (one_txn s a k.txn x k.of of) k.kept

-- it is so in the next state
pub kept_ends_later : (c : Config) (s t : State) → AllFramed c s → AllFramed c t → AllOnward s t → DecisionsStay s t → AllDecided s → AllDecided t → (a : Attempt) (time : ℕ) → Kept s a (Committed time) → (x : TxnSession) → OfAttempt s a x → (read_time : ℕ) → read_time < x.earliest_end → (u : Version) → u.writer ≡ a.call → u.time ≡ time → EndsLater t read_time u
kept_ends_later c s t framed framed' on stay decided decided' a time k x of read_time l u w e =
    kept_ends c t framed' decided' a time k' g.txn g.of read_time (subst (λ (n : ℕ). read_time < n) (sym ends) l) u w e
  where
    k' : Kept t a (Committed time)
    k' = kept_grows s t on stay a (Committed time) k

    g : AttemptGrows t a x
    g = attempt_grows s t on a x of

    before : IsCommitted a x time
    before = kept_committed c s framed decided a time k x of

    now : IsCommitted a g.txn time
    now = kept_committed c t framed' decided' a time k' g.txn g.of

    ends : g.txn.earliest_end ≡ x.earliest_end
    ends = ((g.onward.attempt (sym now.present ∙ before.present)).prepared (commits_prepared x.phase time before.at)).1

-- who could not end before a read time could not do so afterwards
pub ends_later : (c : Config) (s t : State) → AllFramed c s → AllFramed c t → AllOnward s t → DecisionsStay s t → AllDecided s → AllDecided t → (read_time : ℕ) (u : Version) → EndsLater s read_time u → EndsLater t read_time u
ends_later c s t framed framed' on stay decided decided' read_time u h =
    kept_ends_later c s t framed framed' on stay decided decided' a u.time record { txn = h.txn; of = of; kept = kept } h.txn of read_time h.unended u refl refl
  where
    a : Attempt
    a = record { call = u.writer; k = h.txn.k }

    frame : TxnFramed c s u.writer h.txn
    frame = framed.txn u.writer h.txn h.under_way

    of : OfAttempt s a h.txn
    of = record { under_way = h.under_way; first = frame.attempts; last = omega arith }

    kept : decision_in (shard_at s (coordinator_of h.txn.lines)).decisions a ≡ Some (Committed u.time)
    kept = ap (decision_in (shard_at s (coordinator_of h.txn.lines)).decisions) (sym (attempt_is h.txn a frame.call refl)) ∙ h.committed
