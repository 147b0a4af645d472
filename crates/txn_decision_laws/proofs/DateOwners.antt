-- The times of each owner behind an event.
use Rattle.std.proofs.Common.{◌≡◌, ◌⊎◌, inl, inr, ℕ, ◌<◌, ◌≤◌, Bool, true, false, List, length, get_or, Option, Some, None, refl, sym, ap, ◌∙◌, subst, arith}
use Rattle.std.specs.Prelude.{set}
use Rattle.std.proofs.lemmas.Bool.{cases_lt}
use Rattle.truetime.specs.Reading.{Reading}
use Rattle.pipeline_lang.specs.declared.config.Config.{Config}
use Rattle.rss_wire.specs.declared.messages.Reply.{Reply}
use Rattle.rss_tables.specs.Lines.{Line, line_at}
use Rattle.rss_tables.specs.Outs.{Out, slot_shard}
use Rattle.rss_tables.specs.SnapshotSession.{SnapSession, snap_end, snap_hears, snap_wakes}
use Rattle.rss_tables.specs.TransactionSession.{TxnSession, txn_end, txn_hears, txn_passes, txn_wakes}
use Rattle.rss_tables.specs.Turns.{Turn}
use Rattle.rss_tables.specs.declared.phases.SnapPhase.{SnapPhase}
use Rattle.rss_tables.specs.declared.phases.SnapPhase.TheVariants.{First}
use Rattle.rss_tables.specs.declared.phases.TxnPhase.TheVariants as phase
use Rattle.rss_machine.specs.Standing.{is_running}
use Rattle.rss_machine.specs.State.{State, Owner, no_owner, owner_at}
use Rattle.rss_machine.specs.declared.session.Session.TheVariants as session
use Rattle.world_laws.proofs.Looks.{get_or_set, get_or_past}
use Rattle.session_laws.proofs.SnapCases.{snap_case}
use Rattle.session_laws.proofs.TxnCases.{txn_case}
use Rattle.shard_event_laws.specs.Events.{Event, Hears, aside, begins_txn, begins_snapshot, txn_hears_one, snap_hears_one, txn_wakes_one, snap_wakes_one, txn_passes_time, sends_again, serves_one, stub_asks, stub_tells, turned_owner, left_to_await, heard_at, TxnTurns, SnapTurns}
use Rattle.shard_event_laws.specs.Facts.{Aside, OneOwner, is_with_shards}
use Rattle.shard_event_laws.specs.Known.{Known}
use Rattle.txn_state_laws.specs.Awaited.{AnswersHeard}
use Rattle.txn_state_laws.specs.Dated.{AllDated, begun_moment}
use Rattle.txn_state_laws.specs.Told.{freeing_time}
use Rattle.txn_decision_laws.proofs.DateSessions.{IsDated, SessionDated, owner_dated, runs_unended, of_txn, of_snap, of_none, of_stub, txn_runs, snap_runs, stays_dated}
use Rattle.txn_decision_laws.proofs.DateTurns.{TxnTimes, SnapTimes, phase_times, turn_times, pass_times, read_times, snap_turn_times}

-- the moment in which an owner began is no later than the present one, and so not past the end of the reading
pub begun_now : (at : Reading) (s : State) → Known at s → (o : ℕ) → (begun_moment s o ≤ s.moment) × (begun_moment s o ≤ at.latest)
begun_now at s k o =
    let r = k.rise (owner_at s o).dates.begun s.steps (k.begun o) (omega arith) in
    let n = k.now in
    let l = k.latest in
    (omega (arith, r, n), omega (arith, r, n, l))

-- where one owner changes, the others have the times that they had
one_dated : (s t : State) (o : ℕ) (w : Owner) → OneOwner s t o w → AllDated s → IsDated s w → (p : ℕ) → IsDated s (owner_at t p)
one_dated s t o w x h d p = by_place (get_or_set s.owners o w p no_owner)
  where
    is : owner_at t p ≡ get_or (set s.owners o w) p no_owner
    is = ap (λ (l : List Owner). get_or l p no_owner) x.owned

    by_place : ((get_or (set s.owners o w) p no_owner ≡ w) × (p ≡ o) × (o < length s.owners)) ⊎ ((get_or (set s.owners o w) p no_owner ≡ owner_at s p) × ((p ≡ o → ⊥) ⊎ (length s.owners ≤ p))) → IsDated s (owner_at t p)
    by_place (inl e) = subst (IsDated s) (sym (is ∙ e.0)) d
    by_place (inr e) = subst (IsDated s) (sym (is ∙ e.0)) (owner_dated s h p)

-- where nothing happens to transactions and snapshots, but that some are closed
aside_dated : (c : Config) (s t : State) → Aside c s t → AllDated s → (p : ℕ) → IsDated s (owner_at t p)
aside_dated c s t a h p = by_end (get_or_past t.owners p no_owner)
  where
    by_session : (b : Bool) → is_with_shards (owner_at s p).session ≡ b → p < length s.owners → IsDated s (owner_at t p)
    by_session true e l = stays_dated s.steps (owner_at s p) (owner_at t p) (a.with_shards p l e) s.moments s.steps (owner_dated s h p)
    by_session false e l = of_none s.moments s.steps (owner_at t p).dates (owner_at t p).fate (owner_at t p).session (a.without p l e).none

    by_age : p < length t.owners → (p < length s.owners) ⊎ (length s.owners ≤ p) → IsDated s (owner_at t p)
    by_age i (inl l) = by_session (is_with_shards (owner_at s p).session) refl l
    by_age i (inr l) = of_none s.moments s.steps (owner_at t p).dates (owner_at t p).fate (owner_at t p).session (a.anew p l i).none

    by_end : (p < length t.owners) ⊎ (owner_at t p ≡ no_owner) → IsDated s (owner_at t p)
    by_end (inl l) = by_age l (cases_lt p (length s.owners))
    by_end (inr e) = of_none s.moments s.steps (owner_at t p).dates (owner_at t p).fate (owner_at t p).session (ap (λ (w : Owner). is_with_shards w.session) e)

-- an owner behind a turn of a transaction: it goes on, or ends in this step
turned_txn : (at : Reading) (s : State) (o : ℕ) → Known at s → is_running (owner_at s o).fate ≡ true → (currents : List (Option ℕ)) (y : TxnSession) (outs : List Out) → TxnTimes at (begun_moment s o) y → (e : Option ℕ) → txn_end y.phase ≡ e
    → IsDated s (turned_owner s o currents (session.Transaction y) outs e)
turned_txn at s o k r currents y outs x None e = txn_runs s.moments s.steps (owner_at s o).dates (owner_at s o).fate y r e x.freeing
turned_txn at s o k r currents y outs x (Some time) e = of_txn s.moments s.steps _ _ y (record {
  freeing = x.freeing;
  committed = λ other f. let c = x.committed other f in let a = c.0 in let b = c.1 in let n = k.now in let l = k.earliest in (omega (arith, a, n, l), omega (arith, b, n, l), omega arith);
  over = λ other f. refl;
  ended = λ f. (time, e);
})

-- and of a snapshot
turned_snap : (s : State) (o : ℕ) → is_running (owner_at s o).fate ≡ true → (currents : List (Option ℕ)) (y : SnapSession) (outs : List Out) → SnapTimes (begun_moment s o) y → (e : Option ℕ) → snap_end y.phase ≡ e
    → IsDated s (turned_owner s o currents (session.Snapshot y) outs e)
turned_snap s o r currents y outs x None e = snap_runs s.moments s.steps (owner_at s o).dates (owner_at s o).fate y r e x.reading
turned_snap s o r currents y outs x (Some time) e = of_snap s.moments s.steps _ _ y (record { reading = x.reading; over = λ other f. refl; ended = λ f. (time, e) })

-- who runs is not committed
unended : (s : State) → AllDated s → (o : ℕ) (x : TxnSession) → (owner_at s o).session ≡ session.Transaction x → is_running (owner_at s o).fate ≡ true → (time : ℕ) → x.phase ≡ phase.Committed time → ⊥
unended s h o x u r time e = runs_unended (owner_at s o).fate r (h.over o time x u (ap txn_end e))

module _ (c : Config) (at : Reading) (s t : State) (k : Known at s) (heard : AnswersHeard s) (h : AllDated s) where
  -- a transaction hears what it awaits
  txn_heard : (o slot : ℕ) (x : TxnSession) (r : Reply) → (owner_at s o).session ≡ session.Transaction x → is_running (owner_at s o).fate ≡ true → Hears s o slot r → TxnTimes at (begun_moment s o) (txn_hears x (line_at x.lines (slot_shard slot)) at r).after
  txn_heard o slot x r u runs g =
      let l = heard.txn o slot x r u g in
      subst (λ (m : Line). TxnTimes at (begun_moment s o) (txn_hears x m at r).after) (sym l.found)
      (turn_times at (begun_moment s o) x (λ time e. h.freeing o time x u e) (unended s h o x u runs) (begun_now at s k o).1 _ r _ (txn_case x _ at l.target l.asked r l.awaited l.fits))

  snap_heard : (o slot : ℕ) (x : SnapSession) (r : Reply) → (owner_at s o).session ≡ session.Snapshot x → Hears s o slot r → SnapTimes (begun_moment s o) (snap_hears x (line_at x.lines (slot_shard slot)) r).after
  snap_heard o slot x r u g =
      let l = heard.snap o slot x r u g in
      subst (λ (m : Line). SnapTimes (begun_moment s o) (snap_hears x m r).after) (sym l.found)
      (snap_turn_times (begun_moment s o) x (λ time e. h.reading o time x u e) _ r _ (snap_case x _ l.target l.asked r l.awaited l.fits))

  -- each owner behind a turn
  txn_turned : (o : ℕ) (currents : List (Option ℕ)) (turn : Turn TxnSession) → TxnTurns s t o currents turn → TxnTimes at (begun_moment s o) turn.after → (p : ℕ) → IsDated s (owner_at t p)
  txn_turned o currents turn n x p =
      one_dated s t o (turned_owner s o (left_to_await turn.anew currents) (session.Transaction turn.after) turn.outs (txn_end turn.after.phase)) n.owned h
      (turned_txn at s o k n.owned.runs (left_to_await turn.anew currents) turn.after turn.outs x (txn_end turn.after.phase) refl) p

  snap_turned : (o : ℕ) (currents : List (Option ℕ)) (turn : Turn SnapSession) → SnapTurns s t o currents turn → SnapTimes (begun_moment s o) turn.after → (p : ℕ) → IsDated s (owner_at t p)
  snap_turned o currents turn n x p =
      one_dated s t o (turned_owner s o (left_to_await turn.anew currents) (session.Snapshot turn.after) turn.outs (snap_end turn.after.phase)) n.owned h
      (turned_snap s o n.owned.runs (left_to_await turn.anew currents) turn.after turn.outs x (snap_end turn.after.phase) refl) p

  -- each owner behind each event, by the clock before it
  pub event_dated : Event c at s t → (p : ℕ) → IsDated s (owner_at t p)
  event_dated (aside a) p = aside_dated c s t a h p
  event_dated (begins_txn o reads guard writes x kind e l) p =
      one_dated s t o _ l.owned h
      (txn_runs s.moments s.steps _ (owner_at s o).fate x l.owned.runs (ap (λ (y : TxnSession). txn_end y.phase) e) (λ time f. absurd (no_time time (sym (ap (λ (y : TxnSession). freeing_time y.phase) e) ∙ f)))) p
    where
      no_time : (time : ℕ) → ◌≡◌ {A = Option ℕ} None (Some time) → ⊥
      no_time time f = cc
  event_dated (begins_snapshot o keys x kind e l) p =
      one_dated s t o _ l.owned h
      (snap_runs s.moments s.steps _ (owner_at s o).fate x l.owned.runs (ap (λ (y : SnapSession). snap_end y.phase) e) (λ time f. let g = read_is _ time (sym (ap (λ (y : SnapSession). y.phase) e) ∙ f) in let b = (begun_now at s k o).1 in omega (arith, g, b))) p
    where
      read_is : (a b : ℕ) → ◌≡◌ {A = SnapPhase} (First a) (First b) → a ≡ b
      read_is a b f = cc
  event_dated (txn_hears_one o slot x r u g n) p = txn_turned o (heard_at s o slot) (txn_hears x (line_at x.lines (slot_shard slot)) at r) n (txn_heard o slot x r u n.owned.runs g) p
  event_dated (snap_hears_one o slot x r u g n) p = snap_turned o (heard_at s o slot) (snap_hears x (line_at x.lines (slot_shard slot)) r) n (snap_heard o slot x r u g) p
  event_dated (txn_wakes_one o x l u g n) p =
      txn_turned o (owner_at s o).currents (txn_wakes x l) n (phase_times at (begun_moment s o) x (λ time e. h.freeing o time x u e) (unended s h o x u n.owned.runs) (txn_wakes x l).after refl) p
  event_dated (snap_wakes_one o x l u g n) p =
      snap_turned o (owner_at s o).currents (snap_wakes x l) n (read_times (begun_moment s o) x (λ time e. h.reading o time x u e) (snap_wakes x l).after refl) p
  event_dated (txn_passes_time o time x u g l n) p =
      txn_turned o (owner_at s o).currents (txn_passes x x.phase) n (pass_times at (begun_moment s o) x (λ other e. h.freeing o other x u e) (unended s h o x u n.owned.runs) x.phase time g l) p
  event_dated (sends_again o slot target r a) p = one_dated s t o _ a.owned h (owner_dated s h o) p
  event_dated (serves_one m shard q a e) p = subst (IsDated s) (sym (ap (λ (u : State). owner_at u p) e)) (owner_dated s h p)
  event_dated (stub_asks o a shards kind free idle n) p = one_dated s t o n.owner n.owned h (subst (SessionDated s.moments s.steps n.owner.dates n.owner.fate) (sym n.session) (of_stub s.moments s.steps n.owner.dates n.owner.fate a shards)) p
  event_dated (stub_tells o slot a shards outcome u g n) p = one_dated s t o n.owner n.owned h (of_none s.moments s.steps n.owner.dates n.owner.fate n.owner.session (ap is_with_shards n.session)) p
