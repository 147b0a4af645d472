-- The times of those who are prepared, and of what shards told of it, against the moments in which transactions began.
use Rattle.std.proofs.Common.{◌≡◌, ◌⊎◌, inl, inr, ℕ, ◌<◌, ◌≤◌, List, Some, sym, ap, ◌∙◌, refl, arith}
use Rattle.truetime.specs.Reading.{Reading}
use Rattle.rss_names.specs.declared.attempt.Attempt.{Attempt}
use Rattle.rss_names.specs.declared.service.Key.{Key}
use Rattle.rss_names.specs.declared.service.Target.TheVariants.{Shard}
use Rattle.pipeline_lang.specs.declared.config.Config.{Config}
use Rattle.rss_wire.specs.declared.messages.Reply.TheVariants as reply
use Rattle.rss_wire.specs.declared.messages.Request.{Request}
use Rattle.rss_wire.specs.declared.messages.Request.TheVariants.{Prepare}
use Rattle.rss_tables.specs.Prepared.{PreparedWriter, prepared_of}
use Rattle.rss_tables.specs.ShardRow.{Shard as ShardState, shard_after, shard_reply}
use Rattle.rss_tables.specs.TransactionSession.{TxnSession}
use Rattle.rss_machine.specs.State.{State, owner_at, shard_at}
use Rattle.rss_machine.specs.declared.session.Session.TheVariants as session
use Rattle.world_laws.proofs.OwnerMoves.{busy_there}
use Rattle.shard_laws.specs.Changes.{IsPreparedBy}
use Rattle.shard_laws.specs.Fitting.{IsPreparedAt}
use Rattle.shard_laws.proofs.Found.{prepared_attempt, prepared_itself}
use Rattle.shard_laws.proofs.Prepares.{prepare_from, prepared_told}
use Rattle.shard_event_laws.proofs.Clocks.{SameClock, event_clock}
use Rattle.txn_state_laws.specs.Dated.{AllDated, begun_moment}
use Rattle.txn_state_laws.specs.Justified.{AllJust, PrepareIs}
use Rattle.txn_state_laws.specs.Onward.{AllOnward, Between}
use Rattle.txn_state_laws.specs.Orderly.{AllOrderly}
use Rattle.txn_state_laws.specs.Replied.{Replied}
use Rattle.txn_state_laws.proofs.Grows.{line_first, one_txn}
use Rattle.txn_state_laws.proofs.Replies.{Quiet, Serves, event_does, quiet_reply, served_reply, reply_asked, ReplyComes, was, comes}
use Rattle.txn_state_laws.proofs.Serves.{ShardGoes, stays, serves, goes, asked_prepare}
use Rattle.txn_decision_laws.proofs.DateOwners.{begun_now}

-- an owner with a transaction began in the step in which it did, and the clock stands still
pub begun_same : (s t : State) → SameClock s t → AllOnward s t → (o : ℕ) (x : TxnSession) → (owner_at s o).session ≡ session.Transaction x → begun_moment t o ≡ begun_moment s o
begun_same s t k w o x u = grind (arith, k.moments, (w.owners o (busy_there s o (session.Transaction x) u refl)).1)

module _ (c : Config) (at : Reading) (s t : State) (b : Between c at s t) (j : AllJust s) (o : AllOrderly c s) (h : AllDated s) where
  clock : SameClock s t
  clock = event_clock c at s t b.event

  -- who is prepared behind an event, against the moment before it
  prepared_before : (n : ℕ) (a : Attempt) (p : PreparedWriter) → 1 ≤ n → ShardGoes s t at.latest n → prepared_of (shard_at t n).prepared a ≡ Some p → begun_moment t a.call ≤ p.prepare_time
  prepared_before n a p first (stays e) g =
      let before : prepared_of (shard_at s n).prepared a ≡ Some p = ap (λ (sh : ShardState). prepared_of sh.prepared a) (sym e) ∙ g in
      let d = o.prepared n a p first before in
      let q = h.prepared n a p first before in
      let z = begun_same s t clock b.onward a.call d.txn d.of.under_way in
      omega (arith, q, z)
  prepared_before n a p first (serves v) g = by_case (prepare_from (shard_at s n) at.latest v.request (o.orderly n).reached p (prepared_itself (shard_after (shard_at s n) at.latest v.request).prepared a p there))
    where
      there : prepared_of (shard_after (shard_at s n) at.latest v.request).prepared a ≡ Some p
      there = ap (λ (sh : ShardState). prepared_of sh.prepared a) (sym v.now) ∙ g

      itself : p.attempt ≡ a
      itself = prepared_attempt (shard_after (shard_at s n) at.latest v.request).prepared a p there

      by_case : (prepared_of (shard_at s n).prepared p.attempt ≡ Some p) ⊎ IsPreparedBy (shard_at s n) at.latest v.request p → begun_moment t a.call ≤ p.prepare_time
      by_case (inl e) =
          let before : prepared_of (shard_at s n).prepared a ≡ Some p = ap (prepared_of (shard_at s n).prepared) (sym itself) ∙ e in
          let d = o.prepared n a p first before in
          let q = h.prepared n a p first before in
          let z = begun_same s t clock b.onward a.call d.txn d.of.under_way in
          omega (arith, q, z)
      by_case (inr e) =
          let l = asked_prepare s j v.message v.shard v.request v.asked a e.least p.earliest_end p.writes (e.asks ∙ ap (λ (y : Attempt). Prepare y e.least p.earliest_end p.writes) itself) in
          let q = (begun_now at s b.known a.call).1 in
          let z = begun_same s t clock b.onward a.call l.txn l.of.under_way in
          let f = e.not_before in
          omega (arith, q, z, f)

  pub prepared_dated : (n : ℕ) (a : Attempt) (p : PreparedWriter) → 1 ≤ n → prepared_of (shard_at t n).prepared a ≡ Some p → begun_moment t a.call ≤ p.prepare_time
  prepared_dated n a p first g = prepared_before n a p first (goes s t at.latest (event_does c at s t b.event) n) g

  -- a reply that was sent before
  old_dated : (n : ℕ) (a : Attempt) (least earliest_end : ℕ) (writes : List (Key × ℕ)) (time : ℕ) → Replied s (Shard n) (Prepare a least earliest_end writes) (reply.Prepared time) → (begun_moment t a.call ≤ time) × (least < time)
  old_dated n a least earliest_end writes time x =
      let l : PrepareIs s n a least earliest_end writes = j.each _ n _ (reply_asked s b.known.sound x.message n _ _ x.is) in
      let q = h.voted n a least earliest_end writes time x in
      let z = begun_same s t clock b.onward a.call l.txn l.of.under_way in
      let e = q.0 in
      (omega (arith, e, z), q.1)

  -- a reply of now tells the time of an entry
  told_now : (shard : ℕ) (a : Attempt) (least earliest_end : ℕ) (writes : List (Key × ℕ)) (time : ℕ) → PrepareIs s shard a least earliest_end writes → shard_reply (shard_at s shard) at.latest (Prepare a least earliest_end writes) ≡ reply.Prepared time → (begun_moment s a.call ≤ time) × (least < time)
  told_now shard a least earliest_end writes time l e = by_entry (prepared_told (shard_at s shard) at.latest a least earliest_end writes time e)
    where
      after : ShardState
      after = shard_after (shard_at s shard) at.latest (Prepare a least earliest_end writes)

      least_same : (f : Attempt) (k m : ℕ) (u v : List (Key × ℕ)) (z w : ℕ) → ◌≡◌ {A = Request} (Prepare a k z u) (Prepare f m w v) → k ≡ m
      least_same f k m u v z w i = cc

      by_case : (p : PreparedWriter) → p.prepare_time ≡ time → p.attempt ≡ a → (prepared_of (shard_at s shard).prepared p.attempt ≡ Some p) ⊎ IsPreparedBy (shard_at s shard) at.latest (Prepare a least earliest_end writes) p → (begun_moment s a.call ≤ time) × (least < time)
      by_case p i itself (inl f) =
          let first = line_first c l.txn (b.framed.txn a.call l.txn l.of.under_way).lines shard l.line l.is_line in
          let before : prepared_of (shard_at s shard).prepared a ≡ Some p = ap (prepared_of (shard_at s shard).prepared) (sym itself) ∙ f in
          let d = o.prepared shard a p first before in
          let q = h.prepared shard a p first before in
          let same : d.txn ≡ l.txn = one_txn s a d.txn l.txn d.of l.of in
          let m : least ≡ d.txn.least = l.least_is ∙ ap (λ (x : TxnSession). x.least) (sym same) in
          let u = d.above in
          (omega (arith, q, i), omega (arith, u, m, i))
      by_case p i itself (inr f) =
          let q = (begun_now at s b.known a.call).1 in
          let u = f.not_before in
          let v = f.above_least in
          let m = least_same p.attempt least f.least writes p.writes earliest_end p.earliest_end f.asks in
          (omega (arith, q, u, i), omega (arith, v, m, i))

      by_entry : IsPreparedAt after a time → (begun_moment s a.call ≤ time) × (least < time)
      by_entry x = by_case x.entry x.at (prepared_attempt after.prepared a x.entry x.there) (prepare_from (shard_at s shard) at.latest (Prepare a least earliest_end writes) (o.orderly shard).reached x.entry (prepared_itself after.prepared a x.entry x.there))

  new_dated : (v : Serves s t at.latest) (n : ℕ) (a : Attempt) (least earliest_end : ℕ) (writes : List (Key × ℕ)) (time : ℕ) → ReplyComes s v.shard at.latest v.request n (Prepare a least earliest_end writes) (reply.Prepared time) → (begun_moment t a.call ≤ time) × (least < time)
  new_dated v n a least earliest_end writes time (was x) = old_dated n a least earliest_end writes time x
  new_dated v n a least earliest_end writes time (comes e f g) =
      let l = asked_prepare s j v.message v.shard v.request v.asked a least earliest_end writes (sym f) in
      let q = told_now v.shard a least earliest_end writes time l (ap (shard_reply (shard_at s v.shard) at.latest) f ∙ sym g) in
      let z = begun_same s t clock b.onward a.call l.txn l.of.under_way in
      let i = q.0 in
      (omega (arith, i, z), q.1)

  voted_at : Quiet s t ⊎ Serves s t at.latest → (n : ℕ) (a : Attempt) (least earliest_end : ℕ) (writes : List (Key × ℕ)) (time : ℕ) → Replied t (Shard n) (Prepare a least earliest_end writes) (reply.Prepared time) → (begun_moment t a.call ≤ time) × (least < time)
  voted_at (inl q) n a least earliest_end writes time x = old_dated n a least earliest_end writes time (quiet_reply at s t b.known q n _ _ x)
  voted_at (inr v) n a least earliest_end writes time x = new_dated v n a least earliest_end writes time (served_reply at s t at.latest b.known v n _ _ x)

  pub voted_dated : (n : ℕ) (a : Attempt) (least earliest_end : ℕ) (writes : List (Key × ℕ)) (time : ℕ) → Replied t (Shard n) (Prepare a least earliest_end writes) (reply.Prepared time) → (begun_moment t a.call ≤ time) × (least < time)
  voted_dated n a least earliest_end writes time x = voted_at (event_does c at s t b.event) n a least earliest_end writes time x
