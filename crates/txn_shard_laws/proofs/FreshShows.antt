-- What an answered snapshot shows of a key is not before what an ended transaction wrote of it, where both the time of
-- the write and the time before which its call could not end are at most the read time.
use Rattle.std.proofs.Common.{◌≡◌, ◌⊎◌, inl, inr, ℕ, ◌<◌, ◌≤◌, Bool, true, List, map, Option, Some, IsTrue, refl, sym, ap, ◌∙◌, subst, arith}
use Rattle.rss_names.specs.declared.attempt.Attempt.{Attempt}
use Rattle.rss_names.specs.declared.service.Key.{Key}
use Rattle.rss_names.specs.declared.service.Target.TheVariants.{Shard}
use Rattle.pipeline_lang.specs.Config.{home_of}
use Rattle.pipeline_lang.specs.declared.config.Config.{Config}
use Rattle.pipeline_lang.specs.declared.script.Expr.{Expr}
use Rattle.rss_model.specs.Formula.{formula_value}
use Rattle.rss_wire.specs.declared.messages.Outcome.{Outcome}
use Rattle.rss_wire.specs.declared.messages.Outcome.TheVariants.{Committed, Aborted}
use Rattle.rss_wire.specs.declared.messages.Reply.TheVariants as reply
use Rattle.rss_wire.specs.declared.messages.Request.TheVariants as request
use Rattle.rss_wire.specs.declared.messages.Skipped.{Skipped}
use Rattle.rss_wire.specs.declared.messages.Version.{Version}
use Rattle.rss_tables.specs.Lines.{Line, coordinator_of, version_in}
use Rattle.rss_tables.specs.Locks.{has_key}
use Rattle.rss_tables.specs.ShardRow.{decision_in}
use Rattle.rss_tables.specs.Versions.{opening_version}
use Rattle.rss_tables.specs.TransactionSession.{TxnSession, attempt_of, computed, writes_on, greatest_prepared, values_shown}
use Rattle.rss_tables.specs.declared.phases.TxnPhase.{TxnPhase}
use Rattle.rss_machine.specs.State.{State, owner_at, shard_at}
use Rattle.rss_machine.specs.declared.session.Session.TheVariants as session
use Rattle.shard_laws.specs.Closed.{writes_key}
use Rattle.shard_laws.specs.Committed.{written_value, keeps_key}
use Rattle.shard_laws.specs.Fitting.{is_written, IsPreparedAt}
use Rattle.shard_laws.specs.Snapshots.{ClosesAt}
use Rattle.shard_laws.proofs.Found.{prepared_itself}
use Rattle.shard_laws.proofs.Order.{closed_version}
use Rattle.shard_laws.proofs.Wrote.{some_value}
use Rattle.session_laws.specs.Frames.{nth_line}
use Rattle.session_laws.proofs.Shown.{written_on, greatest_prepared_above}
use Rattle.txn_state_laws.specs.Decided.{AllDecided, known_commit}
use Rattle.txn_laws.specs.Files.{NamesKeys, IsKey}
use Rattle.txn_state_laws.specs.Framed.{AllFramed, LinesFit, OfAttempt, IsLineOf}
use Rattle.txn_state_laws.specs.Fresh.{HasWritten}
use Rattle.txn_state_laws.specs.Justified.{Kept, PreparesNow}
use Rattle.txn_state_laws.specs.Orderly.{AllOrderly, PreparedIs}
use Rattle.txn_state_laws.specs.Passed.{AllPassed, KeyPassed, IsPassedRightly, EndsLater}
use Rattle.txn_state_laws.specs.Replied.{Replied}
use Rattle.txn_state_laws.specs.Told.{AllTold, has_voted}
use Rattle.txn_state_laws.specs.Voted.{AllVoted, VoteIs, prepared, aborted, applied}
use Rattle.txn_state_laws.proofs.Grows.{coordinator_first, one_line, one_txn, txn_is}
use Rattle.txn_shard_laws.proofs.FreshWrites.{WritesThere, value_among, written_is_key, written_there}

-- two outcomes that are the same
aborted_not : (time : ℕ) → ◌≡◌ {A = Option Outcome} (Some Aborted) (Some (Committed time)) → ⊥
aborted_not time e = cc

same_time : (a b : ℕ) → ◌≡◌ {A = Option Outcome} (Some (Committed a)) (Some (Committed b)) → a ≡ b
same_time a b e = cc

-- an ended transaction that wrote a key, and the parts of a state that tell of it
module _ (c : Config) (s : State) (framed : AllFramed c s) (told : AllTold s) (decided : AllDecided s) (orderly : AllOrderly c s) (voted : AllVoted s) (passed : AllPassed s) (w written : ℕ) (key : Key) (h : HasWritten s w written key) where
  abbrev x : TxnSession
  x = h.txn

  abbrev a : Attempt
  a = attempt_of x

  call_is : x.call ≡ w
  call_is = (framed.txn w x h.under_way).call

  fit : LinesFit c x.lines
  fit = (framed.txn w x h.under_way).lines

  of_it : OfAttempt s a x
  of_it = record { under_way = subst (λ (o : ℕ). (owner_at s o).session ≡ session.Transaction x) (sym call_is) h.under_way; first = (framed.txn w x h.under_way).attempts; last = omega arith }

  only : (y : TxnSession) → OfAttempt s a y → y ≡ x
  only y p = one_txn s a y x p of_it

  -- its commit is kept
  decision : decision_in (shard_at s (coordinator_of x.lines)).decisions a ≡ Some (Committed written)
  decision = decided.known w written x h.under_way (ap known_commit h.committed)

  decision_of : (outcome : Outcome) → Kept s a outcome → ◌≡◌ {A = Option Outcome} (Some outcome) (Some (Committed written))
  decision_of outcome k = sym k.kept ∙ ap (λ (y : TxnSession). decision_in (shard_at s (coordinator_of y.lines)).decisions a) (only k.txn k.of) ∙ decision

  prepared_before : greatest_prepared x.lines ≤ written
  prepared_before =
      let d = decided.at (coordinator_of x.lines) a (Committed written) (coordinator_first c x.lines fit) decision in
      subst (λ (y : TxnSession). greatest_prepared y.lines ≤ written) (only d.txn d.of) (d.committed written refl).2

  -- the line of the key
  among : has_key (map (λ write. write.0) x.writes) key ≡ true
  among = value_among (λ (write : Key × Expr ℕ). formula_value write.1 (values_shown x)) x.writes key h.value h.writes

  line : WritesThere x.lines (home_of c key.index) key
  line = written_there c s framed w x h.under_way key among

  abbrev l : Line
  l = nth_line x.lines line.place

  is_key : IsKey c key
  is_key = written_is_key c s framed w x h.under_way key among

  of_line : IsLineOf x l.shard l
  of_line = record { is = record { place = line.place; inside = line.inside; at = refl }; on = refl }

  one_line_is : (m : Line) → IsLineOf x l.shard m → m ≡ l
  one_line_is m p = one_line c x fit l.shard m l p of_line

  value_on : written_value (writes_on l (computed x)) key ≡ Some h.value
  value_on = written_on l (computed x) key line.writes ∙ h.writes

  -- the shard of the line has answered a snapshot that reads the key
  module _ (read_time least : ℕ) (keys : List Key) (skip : Bool) (versions : List (Key × Version)) (skipped : List Skipped) (r : Replied s (Shard (home_of c key.index)) (request.Snapshot read_time least keys skip) (reply.Values versions skipped)) (v : Version) (asked : IsTrue (has_key keys key)) (shown : version_in versions key ≡ Some v) (upto : written ≤ read_time) (ends : x.earliest_end ≤ read_time) where
    key_passed : KeyPassed s l.shard read_time key v
    key_passed = subst (λ (n : ℕ). KeyPassed s n read_time key v) (sym line.on) (passed.each (home_of c key.index) read_time least keys skip versions skipped r key v asked shown)

    -- a prepared writer of it would be passed by
    not_prepared : IsPreparedAt (shard_at s l.shard) a l.prepare_time → ⊥
    not_prepared p = by_pass (key_passed.entries p.entry (prepared_itself (shard_at s l.shard).prepared a p.entry p.there) writes)
      where
        is : PreparedIs s l.shard a p.entry
        is = orderly.prepared l.shard a p.entry (fit.first line.place line.inside) p.there

        now : PreparesNow x l p.entry.earliest_end p.entry.writes
        now =
            let same = only is.txn is.of in
            subst (λ (m : Line). PreparesNow x m p.entry.earliest_end p.entry.writes) (one_line_is is.line (subst (λ (y : TxnSession). IsLineOf y l.shard is.line) same is.is_line))
            (subst (λ (y : TxnSession). PreparesNow y is.line p.entry.earliest_end p.entry.writes) same (is.now (ap (λ (y : TxnSession). y.k) (sym same))))

        writes : IsTrue (writes_key p.entry key)
        writes = ap (λ (ws : List (Key × ℕ)). is_written ws key) now.writes_are ∙ some_value (writes_on l (computed x)) key h.value value_on

        by_pass : (read_time < p.entry.prepare_time) ⊎ (read_time < p.entry.earliest_end) → ⊥
        by_pass (inl b) =
            let at = p.at in
            let above = greatest_prepared_above x.lines line.place line.inside in
            absurd (omega (arith, b, at, above, prepared_before, upto))
        by_pass (inr b) =
            let same = now.ends in
            absurd (omega (arith, b, same, ends))

    -- a version that stands is not after what is shown
    stands : ClosesAt (shard_at s l.shard) key written record { value = h.value; time = written; writer = x.call } → written ≤ v.time
    stands closes = by_version (closed_version (shard_at s l.shard) key written u (IsPassedRightly s read_time v) key_passed.versions closes)
      where
        u : Version
        u = record { value = h.value; time = written; writer = x.call }

        by_end : EndsLater s read_time u → ⊥
        by_end later =
            let same = txn_is later.txn x (sym later.under_way ∙ of_it.under_way) in
            let b = later.unended in
            let e : later.txn.earliest_end ≡ x.earliest_end = ap (λ (y : TxnSession). y.earliest_end) same in
            absurd (omega (arith, b, e, ends))

        by_pass : IsPassedRightly s read_time v u → written ≤ v.time
        by_pass (inl b) = b
        by_pass (inr (inl b)) = absurd (omega (arith, b, upto))
        by_pass (inr (inr later)) = absurd (by_end later)

        by_version : (u ≡ opening_version) ⊎ IsPassedRightly s read_time v u → written ≤ v.time
        by_version (inl e) = let z : written ≡ 0 = ap (λ (y : Version). y.time) e in omega (arith, z)
        by_version (inr p) = by_pass p

    by_vote : VoteIs s l.shard a l.prepare_time → written ≤ v.time
    by_vote (prepared p) = absurd (not_prepared p)
    by_vote (aborted k) = absurd (aborted_not written (decision_of Aborted k))
    by_vote (applied time k above gone done) =
        let same = only done.txn done.of in
        let time_is = same_time time written (decision_of (Committed time) k) in
        let line_is = one_line_is done.line (subst (λ (y : TxnSession). IsLineOf y l.shard done.line) same done.is_line) in
        let kept = ap (λ (n : ℕ). keeps_key (shard_at s n).store key) line.on ∙ orderly.keys key is_key in
        let wrote : written_value (writes_on done.line (computed done.txn)) key ≡ Some h.value = ap (λ (m : Line). written_value (writes_on m (computed done.txn)) key) line_is ∙ ap (λ (y : TxnSession). written_value (writes_on l (computed y)) key) same ∙ value_on in
        stands (subst (λ (n : ℕ). ClosesAt (shard_at s l.shard) key n record { value = h.value; time = n; writer = x.call }) time_is (done.applied.written key h.value wrote kept))

    shown_upto : written ≤ v.time
    shown_upto =
        let voted_is = ap (λ (p : TxnPhase). has_voted p l.state) h.committed in
        by_vote (voted.each l.shard a x.least x.earliest_end (writes_on l (computed x)) l.prepare_time ((told.txn w line.place x h.under_way line.inside).voted voted_is))

-- what an answered snapshot shows of a key is not before what an ended transaction wrote of it
pub shows_written : (c : Config) (s : State) → NamesKeys c → AllFramed c s → AllTold s → AllDecided s → AllOrderly c s → AllVoted s → AllPassed s → (w written : ℕ) (key : Key) → (h : HasWritten s w written key)
    → (read_time least : ℕ) (keys : List Key) (skip : Bool) (versions : List (Key × Version)) (skipped : List Skipped)
    → Replied s (Shard (home_of c key.index)) (request.Snapshot read_time least keys skip) (reply.Values versions skipped)
    → (v : Version) → IsTrue (has_key keys key) → version_in versions key ≡ Some v → written ≤ read_time → h.txn.earliest_end ≤ read_time → written ≤ v.time
shows_written c s names framed told decided orderly voted passed w written key h read_time least keys skip versions skipped r v asked shown upto ends =
    shown_upto c s framed told decided orderly voted passed w written key h read_time least keys skip versions skipped r v asked shown upto ends
