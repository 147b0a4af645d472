-- What an event does with the transaction of an owner.
use Rattle.std.proofs.Common.{◌≡◌, ◌⊎◌, inl, inr, ℕ, ◌<◌, ◌≤◌, Bool, true, false, List, length, get_or, Option, Some, None, refl, sym, ap, ◌∙◌, subst}
use Rattle.std.proofs.Math.ListN.{set}
use Rattle.std.specs.Prelude.{nat_lt}
use Rattle.std.proofs.lemmas.Bool.{true≢false}
use Rattle.truetime.specs.Reading.{Reading}
use Rattle.pipeline_lang.specs.declared.config.Config.{Config}
use Rattle.rss_wire.specs.declared.messages.Reply.{Reply}
use Rattle.rss_tables.specs.Lines.{Line, line_at}
use Rattle.rss_tables.specs.Outs.{Out, slot_shard}
use Rattle.rss_tables.specs.TransactionSession.{TxnSession, txn_hears, txn_wakes, txn_passes, txn_end, waiting_time}
use Rattle.rss_tables.specs.Turns.{Turn}
use Rattle.rss_machine.specs.Effect.{waking_line}
use Rattle.rss_machine.specs.Session.{Session}
use Rattle.rss_machine.specs.State.{State, Owner, owner_at, no_owner}
use Rattle.rss_machine.specs.declared.session.Session.TheVariants as session
use Rattle.world_laws.proofs.Looks.{get_or_set}
use Rattle.world_laws.proofs.OwnerMoves.{busy_there}
use Rattle.shard_event_laws.specs.Events.{Event, Hears, TxnTurns, turned_owner, left_to_await, heard_at, aside, begins_txn, begins_snapshot, txn_hears_one, snap_hears_one, txn_wakes_one, snap_wakes_one, txn_passes_time, sends_again, serves_one, stub_asks, stub_tells}
use Rattle.shard_event_laws.specs.Facts.{OneOwner, is_with_shards}
use Rattle.txn_state_laws.proofs.Grows.{txn_is}

-- an owner is the one that changed, or stays
pub one_owner : (s t : State) (o : ℕ) (w : Owner) → OneOwner s t o w → (i : ℕ) → ((i ≡ o) × (owner_at t i ≡ w)) ⊎ (owner_at t i ≡ owner_at s i)
one_owner s t o w h i = by_place (get_or_set s.owners o w i no_owner)
  where
    there : owner_at t i ≡ get_or (set s.owners o w) i no_owner
    there = ap (λ (l : List Owner). get_or l i no_owner) h.owned

    by_place : ((get_or (set s.owners o w) i no_owner ≡ w) × (i ≡ o) × (o < length s.owners)) ⊎ ((get_or (set s.owners o w) i no_owner ≡ get_or s.owners i no_owner) × ((i ≡ o → ⊥) ⊎ (length s.owners ≤ i)))
        → ((i ≡ o) × (owner_at t i ≡ w)) ⊎ (owner_at t i ≡ owner_at s i)
    by_place (inl p) = inl (p.1, there ∙ p.0)
    by_place (inr p) = inr (there ∙ p.0)

-- the session behind a turn
pub turned_session : (s : State) (o : ℕ) (currents : List (Option ℕ)) (x : Session) (outs : List Out) (end : Option ℕ) → (turned_owner s o currents x outs end).session ≡ x
turned_session s o currents x outs None = refl
turned_session s o currents x outs (Some time) = refl

abbrev pub is_txn : Session → Bool
is_txn (session.Transaction x) = true
is_txn (session.Snapshot x) = false
is_txn (session.Settling a shards) = false
is_txn session.Idle = false
is_txn (session.Fixing r) = false
is_txn (session.Register r) = false

-- what becomes of a transaction within an event
pub data TxnGoes (at : Reading) (s : State) (o : ℕ) (x y : TxnSession) : Type 0 where
  goes_not : y ≡ x → TxnGoes at s o x y
  goes_hearing : (slot : ℕ) (r : Reply) → Hears s o slot r → y ≡ (txn_hears x (line_at x.lines (slot_shard slot)) at r).after → TxnGoes at s o x y
  goes_waking : (l : Line) → waking_line s x.lines ≡ Some l → y ≡ (txn_wakes x l).after → TxnGoes at s o x y
  goes_passing : (time : ℕ) → waiting_time x x.phase ≡ Some time → nat_lt time at.earliest ≡ true → y ≡ (txn_passes x x.phase).after → TxnGoes at s o x y

module _ (c : Config) (at : Reading) (s t : State) (o : ℕ) (x y : TxnSession) (e : (owner_at s o).session ≡ session.Transaction x) (f : (owner_at t o).session ≡ session.Transaction y) where
  by_session : (owner_at t o).session ≡ (owner_at s o).session → TxnGoes at s o x y
  by_session g = goes_not (txn_is y x (sym f ∙ (g ∙ e)))

  stays_owner : owner_at t o ≡ owner_at s o → TxnGoes at s o x y
  stays_owner g = by_session (ap (λ (w : Owner). w.session) g)

  -- the owner that changed had no transaction
  no_other : (i : ℕ) (z : Session) (w : Owner) → (owner_at s i).session ≡ z → is_txn z ≡ false → OneOwner s t i w → TxnGoes at s o x y
  no_other i z w g n h = by_owner (one_owner s t i w h o)
    where
      by_owner : ((o ≡ i) × (owner_at t o ≡ w)) ⊎ (owner_at t o ≡ owner_at s o) → TxnGoes at s o x y
      by_owner (inl p) = absurd (true≢false (ap is_txn (sym e ∙ (ap (λ (j : ℕ). (owner_at s j).session) p.0 ∙ g)) ∙ n))
      by_owner (inr p) = stays_owner p

  -- the owner that changed has a transaction, this one or another
  turned : (i : ℕ) (z : TxnSession) (currents : List (Option ℕ)) (turn : Turn TxnSession) → (owner_at s i).session ≡ session.Transaction z → TxnTurns s t i currents turn
      → (o ≡ i → x ≡ z → y ≡ turn.after → TxnGoes at s o x y) → TxnGoes at s o x y
  turned i z currents turn g u k = by_owner (one_owner s t i _ u.owned o)
    where
      by_owner : ((o ≡ i) × (owner_at t o ≡ turned_owner s i (left_to_await turn.anew currents) (session.Transaction turn.after) turn.outs (txn_end turn.after.phase))) ⊎ (owner_at t o ≡ owner_at s o) → TxnGoes at s o x y
      by_owner (inl p) = k p.0 (txn_is x z (sym e ∙ (ap (λ (j : ℕ). (owner_at s j).session) p.0 ∙ g)))
          (txn_is y turn.after (sym f ∙ (ap (λ (w : Owner). w.session) p.1 ∙ turned_session s i (left_to_await turn.anew currents) (session.Transaction turn.after) turn.outs (txn_end turn.after.phase))))
      by_owner (inr p) = stays_owner p

  pub txn_goes : Event c at s t → TxnGoes at s o x y
  txn_goes (aside a) = by_session (a.with_shards o (busy_there s o (session.Transaction x) e refl) (ap is_with_shards e)).session
  txn_goes (begins_txn i reads guard writes z k g l) = no_other i session.Idle _ l.idle refl l.owned
  txn_goes (begins_snapshot i keys z k g l) = no_other i session.Idle _ l.idle refl l.owned
  txn_goes (txn_hears_one i slot z r g h u) = turned i z (heard_at s i slot) (txn_hears z (line_at z.lines (slot_shard slot)) at r) g u
      (λ j q n. goes_hearing slot r (subst (λ (k : ℕ). Hears s k slot r) (sym j) h) (n ∙ ap (λ (v : TxnSession). (txn_hears v (line_at v.lines (slot_shard slot)) at r).after) (sym q)))
  txn_goes (snap_hears_one i slot z r g h u) = no_other i (session.Snapshot z) _ g refl u.owned
  txn_goes (txn_wakes_one i z l g w u) = turned i z (owner_at s i).currents (txn_wakes z l) g u
      (λ j q n. goes_waking l (ap (λ (v : TxnSession). waking_line s v.lines) q ∙ w) (n ∙ ap (λ (v : TxnSession). (txn_wakes v l).after) (sym q)))
  txn_goes (snap_wakes_one i z l g w u) = no_other i (session.Snapshot z) _ g refl u.owned
  txn_goes (txn_passes_time i time z g w p u) = turned i z (owner_at s i).currents (txn_passes z z.phase) g u
      (λ j q n. goes_passing time (ap (λ (v : TxnSession). waiting_time v v.phase) q ∙ w) p (n ∙ ap (λ (v : TxnSession). (txn_passes v v.phase).after) (sym q)))
  txn_goes (sends_again i slot target r u) = by_owner (one_owner s t i _ u.owned o)
    where
      by_owner : ((o ≡ i) × (owner_at t o ≡ record (owner_at s i) { currents = set (owner_at s i).currents slot (Some (length s.net)) })) ⊎ (owner_at t o ≡ owner_at s o) → TxnGoes at s o x y
      by_owner (inl p) = by_session (ap (λ (w : Owner). w.session) p.1 ∙ ap (λ (j : ℕ). (owner_at s j).session) (sym p.0))
      by_owner (inr p) = stays_owner p
  txn_goes (serves_one m shard q w g) = stays_owner (ap (λ (u : State). owner_at u o) g)
  txn_goes (stub_asks i a shards k w g u) = no_other i session.Idle _ g refl u.owned
  txn_goes (stub_tells i slot a shards outcome g h u) = no_other i (session.Settling a shards) _ g refl u.owned
