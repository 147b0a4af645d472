-- Where a committed transaction stands on the shard of a key that it writes, and what its shards make of what it was shown.
use Rattle.std.proofs.Common.{◌≡◌, ℕ, ◌<◌, ◌≤◌, List, length, Some, refl, sym, ap, ◌∙◌, subst, arith}
use Rattle.std.specs.Prelude.{IsTrue}
use Rattle.rss_names.specs.declared.attempt.Attempt.{Attempt}
use Rattle.rss_names.specs.declared.service.Key.{Key}
use Rattle.pipeline_lang.specs.Config.{home_of}
use Rattle.pipeline_lang.specs.declared.config.Config.{Config}
use Rattle.rss_wire.specs.declared.messages.Outcome.TheVariants.{Committed, Aborted}
use Rattle.rss_tables.specs.Lines.{Line}
use Rattle.rss_tables.specs.Prepared.{PreparedWriter, prepared_of}
use Rattle.rss_tables.specs.ShardRow.{Shard}
use Rattle.rss_tables.specs.TransactionSession.{TxnSession, attempt_of, computed, writes_on}
use Rattle.rss_machine.specs.State.{State, owner_at, shard_at}
use Rattle.rss_machine.specs.declared.session.Session.TheVariants as session
use Rattle.shard_laws.specs.Closed.{writes_key}
use Rattle.shard_laws.specs.Committed.{written_value, keeps_key}
use Rattle.shard_laws.specs.Snapshots.{ClosesAt}
use Rattle.shard_laws.specs.Applied.{IsApplied}
use Rattle.shard_laws.proofs.Found.{prepared_attempt, prepared_itself}
use Rattle.shard_laws.proofs.Wrote.{some_value}
use Rattle.session_laws.specs.Frames.{nth_line}
use Rattle.session_laws.proofs.Shown.{computed_on, greatest_prepared_above}
use Rattle.txn_state_laws.specs.Framed.{IsLineOf}
use Rattle.txn_state_laws.specs.Justified.{PreparesNow}
use Rattle.txn_state_laws.specs.Voted.{VoteIs, prepared, aborted, applied}
use Rattle.txn_state_laws.proofs.Grows.{one_txn, one_line, kept_one}
use Rattle.txn_shard_laws.proofs.InOrder.{voted_of}
use Rattle.txn_line_laws.specs.Line.{TxnWrites}
use Rattle.txn_line_laws.proofs.Facts.{Facts, HomeLine, CommitKnown, commit_known, present, txn_writes, writes_of}

-- what has become of a line of a committed transaction: it is prepared still with what it asked for, or it is applied
pub data LineStands (sh : Shard) (x : TxnSession) (l : Line) (time : ℕ) : Type 0 where
  is_prepared : (p : PreparedWriter) → prepared_of sh.prepared (attempt_of x) ≡ Some p → p.prepare_time ≤ time → p.writes ≡ writes_on l (computed x) → p.earliest_end ≡ x.earliest_end → LineStands sh x l time
  is_applied : IsApplied sh x.call time l.reads l.shown (writes_on l (computed x)) → LineStands sh x l time

-- where a writer of a key stands on the key's shard
pub data Stands (sh : Shard) (key : Key) (w value time : ℕ) : Type 0 where
  stands_prepared : (p : PreparedWriter) → prepared_of sh.prepared p.attempt ≡ Some p → IsTrue (writes_key p key) → p.prepare_time ≤ time → p.attempt.call ≡ w → Stands sh key w value time
  stands_applied : ClosesAt sh key time record { value = value; time = time; writer = w } → Stands sh key w value time

module _ (c : Config) (s : State) (h : Facts c s) where
  module _ (o time : ℕ) (x : TxnSession) (e : (owner_at s o).session ≡ session.Transaction x) (k : CommitKnown s x time) (place : ℕ) (i : place < length x.lines) where
    by_entry : (q : PreparedWriter) → prepared_of (shard_at s (nth_line x.lines place).shard).prepared (attempt_of x) ≡ Some q → q.prepare_time ≡ (nth_line x.lines place).prepare_time → LineStands (shard_at s (nth_line x.lines place).shard) x (nth_line x.lines place) time
    by_entry q g d =
        let n = h.orderly.prepared (nth_line x.lines place).shard (attempt_of x) q ((h.framed.txn o x e).lines.first place i) g in
        let same : n.txn ≡ x = one_txn s (attempt_of x) n.txn x n.of (present c s h o x e) in
        by_same n.txn same n.line n.is_line n.now
      where
        by_same : (y : TxnSession) → y ≡ x → (m : Line) → IsLineOf y (nth_line x.lines place).shard m → ((attempt_of x).k ≡ y.k → PreparesNow y m q.earliest_end q.writes) → LineStands (shard_at s (nth_line x.lines place).shard) x (nth_line x.lines place) time
        by_same y same m on now =
            let line : m ≡ nth_line x.lines place = one_line c x (h.framed.txn o x e).lines (nth_line x.lines place).shard m (nth_line x.lines place) (subst (λ (z : TxnSession). IsLineOf z (nth_line x.lines place).shard m) same on) (record { is = record { place = place; inside = i; at = refl }; on = refl }) in
            let r : PreparesNow x (nth_line x.lines place) q.earliest_end q.writes = subst (λ (n : Line). PreparesNow x n q.earliest_end q.writes) line (subst (λ (z : TxnSession). (attempt_of x).k ≡ z.k → PreparesNow z m q.earliest_end q.writes) same now refl) in
            let above = greatest_prepared_above x.lines place i in
            let upto = k.upto in
            is_prepared q g (omega (arith, d, above, upto)) r.writes_are r.ends

    by_vote : VoteIs s (nth_line x.lines place).shard (attempt_of x) (nth_line x.lines place).prepare_time → LineStands (shard_at s (nth_line x.lines place).shard) x (nth_line x.lines place) time
    by_vote (prepared v) = by_entry v.entry v.there v.at
    by_vote (aborted v) = absurd (not_aborted (kept_one s (attempt_of x) (Committed time) Aborted (record { txn = x; of = present c s h o x e; kept = k.kept }) v))
      where
        not_aborted : Committed time ≡ Aborted → ⊥
        not_aborted g = cc
    by_vote (applied t v m g d) =
        let at_time : t ≡ time = same_time (kept_one s (attempt_of x) (Committed t) (Committed time) v (record { txn = x; of = present c s h o x e; kept = k.kept })) in
        let same : d.txn ≡ x = one_txn s (attempt_of x) d.txn x d.of (present c s h o x e) in
        let line : d.line ≡ nth_line x.lines place = one_line c x (h.framed.txn o x e).lines (nth_line x.lines place).shard d.line (nth_line x.lines place) (subst (λ (z : TxnSession). IsLineOf z (nth_line x.lines place).shard d.line) same d.is_line) (record { is = record { place = place; inside = i; at = refl }; on = refl }) in
        is_applied (subst (λ (n : Line). IsApplied (shard_at s (nth_line x.lines place).shard) x.call time n.reads n.shown (writes_on n (computed x))) line
        (subst (λ (z : TxnSession). IsApplied (shard_at s (nth_line x.lines place).shard) x.call time d.line.reads d.line.shown (writes_on d.line (computed z))) same
        (subst (λ (n : ℕ). IsApplied (shard_at s (nth_line x.lines place).shard) x.call n d.line.reads d.line.shown (writes_on d.line (computed d.txn))) at_time d.applied)))
      where
        same_time : Committed t ≡ Committed time → t ≡ time
        same_time q = cc

    pub line_stands : LineStands (shard_at s (nth_line x.lines place).shard) x (nth_line x.lines place) time
    line_stands = by_vote (h.voted.each (nth_line x.lines place).shard (attempt_of x) x.least x.earliest_end _ (nth_line x.lines place).prepare_time ((h.told.txn o place x e i).voted (voted_of x.phase time (nth_line x.lines place).state k.at)))

  pub writer_stands : (w value time : ℕ) (key : Key) → TxnWrites s w key value time → Stands (shard_at s (home_of c key.index)) key w value time
  writer_stands w value time key t = subst (λ (n : ℕ). Stands (shard_at s n) key w value time) m.on (by_line (line_stands w time t.txn t.under_way k m.place m.inside))
    where
      k : CommitKnown s t.txn time
      k = commit_known c s h w time t.txn t.under_way t.committed

      m : HomeLine c t.txn.lines key writes_of
      m = txn_writes c s h w t.txn key value t.under_way t.writes

      here : written_value (writes_on (nth_line t.txn.lines m.place) (computed t.txn)) key ≡ Some value
      here = computed_on t.txn m.place key m.inside m.has ∙ t.writes

      by_line : LineStands (shard_at s (nth_line t.txn.lines m.place).shard) t.txn (nth_line t.txn.lines m.place) time → Stands (shard_at s (nth_line t.txn.lines m.place).shard) key w value time
      by_line (is_prepared q g d a b) = stands_prepared q (prepared_itself _ (attempt_of t.txn) q g) (some_value q.writes key value (ap (λ (ws : List (Key × ℕ)). written_value ws key) a ∙ here)) d (ap (λ (z : Attempt). z.call) (prepared_attempt _ (attempt_of t.txn) q g) ∙ (h.framed.txn w t.txn t.under_way).call)
      by_line (is_applied a) =
          subst (λ (n : ℕ). Stands (shard_at s (nth_line t.txn.lines m.place).shard) key n value time) (h.framed.txn w t.txn t.under_way).call
          (stands_applied (a.written key value here (subst (λ (n : ℕ). IsTrue (keeps_key (shard_at s n).store key)) (sym m.on) (h.orderly.keys key m.is_key))))
