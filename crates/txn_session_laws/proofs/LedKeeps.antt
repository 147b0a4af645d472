-- Each event keeps it that where the coordinator alone is asked, its line awaits and the others are dropped.
use Rattle.std.proofs.Common.{◌≡◌, ◌⊎◌, inl, inr, ℕ, Bool, List, Option, Some, refl, sym, ap, ◌∙◌, subst}
use Rattle.truetime.specs.Reading.{Reading}
use Rattle.pipeline_lang.specs.declared.config.Config.{Config}
use Rattle.rss_tables.specs.Lines.{Line, line_at}
use Rattle.rss_tables.specs.Outs.{Out, slot_shard}
use Rattle.rss_tables.specs.SnapshotSession.{SnapSession}
use Rattle.rss_tables.specs.TransactionSession.{TxnSession, txn_hears}
use Rattle.rss_tables.specs.declared.phases.TxnPhase.TheVariants as phase
use Rattle.rss_machine.specs.Moves.{ticks}
use Rattle.rss_machine.specs.State.{State, Owner, owner_at, start}
use Rattle.rss_machine.specs.declared.session.Session.TheVariants as session
use Rattle.session_laws.specs.Awaits.{txn_awaits}
use Rattle.session_laws.specs.Cases.{TxnTurn}
use Rattle.session_laws.proofs.TxnCases.{txn_case}
use Rattle.shard_event_laws.specs.Events.{Event, aside, begins_txn, begins_snapshot, txn_hears_one, snap_hears_one, txn_wakes_one, snap_wakes_one, txn_passes_time, sends_again, serves_one, stub_asks, stub_tells, left_to_await, Turns}
use Rattle.shard_event_laws.specs.Facts.{is_with_shards, OneOwner, Aside}
use Rattle.txn_state_laws.specs.Awaited.{AnswersHeard}
use Rattle.txn_state_laws.proofs.Grows.{txn_is}
use Rattle.txn_session_laws.specs.Standing.{TxnLed, AllLed}
use Rattle.txn_session_laws.proofs.FramedOwners.{one_cases, Stands, stays_with, stays_without, is_new, is_none, aside_cases, txn_or_snap, txn_or_settling, idle_or_txn}
use Rattle.txn_session_laws.proofs.Framed.{not_with}
use Rattle.txn_session_laws.proofs.FramedTurns.{waking_is, heard_line, turned_session}
use Rattle.txn_session_laws.proofs.Starts.{none_there}
use Rattle.txn_session_laws.proofs.Led.{not_led, led_turn, led_wake, led_pass}
use Rattle.txn_session_laws.proofs.AwaitedKeeps.{can_wake_sleeps}

-- where one owner changes
led_one : (s t : State) (o : ℕ) (w : Owner) → OneOwner s t o w → ((x : TxnSession) → w.session ≡ session.Transaction x → TxnLed x) → AllLed s → AllLed t
led_one s t o w one own h = record { txn = λ i x. by_cases i x (one_cases s t o w one i) }
  where
    by_cases : (i : ℕ) (x : TxnSession) → ((owner_at t i ≡ w) × (i ≡ o)) ⊎ (owner_at t i ≡ owner_at s i) → (owner_at t i).session ≡ session.Transaction x → TxnLed x
    by_cases i x (inl e) f = own x (ap (λ (v : Owner). v.session) (sym e.0) ∙ f)
    by_cases i x (inr e) f = h.txn i x (ap (λ (v : Owner). v.session) (sym e) ∙ f)

led_turns : (s t : State) (o : ℕ) (anew : Bool) (currents : List (Option ℕ)) (y : TxnSession) (outs : List Out) (end : Option ℕ) → Turns s t o anew currents (session.Transaction y) outs end → TxnLed y → AllLed s → AllLed t
led_turns s t o anew currents y outs end turns led h = led_one s t o _ turns.owned (λ x e. subst TxnLed (txn_is y x (sym (turned_session s o (left_to_await anew currents) (session.Transaction y) outs end) ∙ e)) led) h

led_snap : (s t : State) (o : ℕ) (anew : Bool) (currents : List (Option ℕ)) (y : SnapSession) (outs : List Out) (end : Option ℕ) → Turns s t o anew currents (session.Snapshot y) outs end → AllLed s → AllLed t
led_snap s t o anew currents y outs end turns h = led_one s t o _ turns.owned (λ x e. txn_or_snap _ x y e (turned_session s o (left_to_await anew currents) (session.Snapshot y) outs end)) h

led_aside : (c : Config) (s t : State) → Aside c s t → AllLed s → AllLed t
led_aside c s t a h = record { txn = λ o x. by_cases o x (aside_cases c s t a o) }
  where
    by_cases : (o : ℕ) (x : TxnSession) → Stands c s t o → (owner_at t o).session ≡ session.Transaction x → TxnLed x
    by_cases o x (stays_with b g) e = h.txn o x (sym g.session ∙ e)
    by_cases o x (stays_without b g) e = absurd (not_with (owner_at t o).session (session.Transaction x) g.none refl e)
    by_cases o x (is_new b g) e = absurd (not_with (owner_at t o).session (session.Transaction x) g.none refl e)
    by_cases o x (is_none b g) e = absurd (not_with (owner_at t o).session (session.Transaction x) (ap (λ (w : Owner). is_with_shards w.session) g) refl e)

-- each event
pub led_keeps : (c : Config) (at : Reading) (s t : State) → AnswersHeard s → Event c at s t → AllLed s → AllLed t
led_keeps c at s t heard (aside a) h = led_aside c s t a h
led_keeps c at s t heard (begins_txn o reads guard writes x k d l) h = led_one s t o _ l.owned (λ y e. subst TxnLed (txn_is x y e) (not_led x phase.Locking (ap (λ (z : TxnSession). z.phase) d) refl)) h
led_keeps c at s t heard (begins_snapshot o keys x k d l) h = led_one s t o _ l.owned (λ y e. txn_or_snap _ y x e refl) h
led_keeps c at s t heard (txn_hears_one o slot x r u r' turns) h =
    let l = heard.txn o slot x r u r' in
    let m : Line = line_at x.lines (slot_shard slot) in
    let awaited : txn_awaits x x.phase m ≡ Some (l.target, l.asked) = ap (txn_awaits x x.phase) l.found ∙ l.awaited in
    let turn : TxnTurn x m at r (txn_hears x m at r) = txn_case x m at l.target l.asked r awaited l.fits in
    led_turns s t o _ _ _ _ _ turns (led_turn x m at r (txn_hears x m at r) (h.txn o x u) (heard_line s slot x.lines (txn_awaits x x.phase) r l) turn) h
led_keeps c at s t heard (snap_hears_one o slot x r u r' turns) h = led_snap s t o _ _ _ _ _ turns h
led_keeps c at s t heard (txn_wakes_one o x l u w turns) h =
    let z = waking_is s x.lines l w in
    let sleeps = can_wake_sleeps s l z.1 in
    led_turns s t o _ _ _ _ _ turns (led_wake x l sleeps.holder (h.txn o x u) z.0 sleeps.is) h
led_keeps c at s t heard (snap_wakes_one o x l u w turns) h = led_snap s t o _ _ _ _ _ turns h
led_keeps c at s t heard (txn_passes_time o time x u w p turns) h = led_turns s t o _ _ _ _ _ turns (led_pass x x.phase (h.txn o x u)) h
led_keeps c at s t heard (sends_again o slot target r a) h = led_one s t o _ a.owned (λ y e. h.txn o y e) h
led_keeps c at s t heard (serves_one m shard q w d) h = record { txn = λ o x e. h.txn o x (ap (λ (v : State). (owner_at v o).session) (sym d) ∙ e) }
led_keeps c at s t heard (stub_asks o a shards k f i l) h = led_one s t o l.owner l.owned (λ y e. txn_or_settling l.owner.session y a shards e l.session) h
led_keeps c at s t heard (stub_tells o slot a shards outcome u r l) h = led_one s t o l.owner l.owned (λ y e. idle_or_txn l.owner.session y l.session e) h

-- before the first step, and where a step is counted
pub led_start : (c : Config) → AllLed (start c)
led_start c = record { txn = λ o x e. idle_or_txn (owner_at (start c) o).session x (ap (λ (w : Owner). w.session) (none_there c o)) e }

pub led_ticks : (s : State) (at : Reading) → AllLed s → AllLed (ticks s at)
led_ticks s at h = record { txn = h.txn }
