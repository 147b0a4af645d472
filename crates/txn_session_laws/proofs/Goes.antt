-- Messages, owners, transactions and snapshots go on with every event.
use Rattle.std.proofs.Common.{◌≡◌, ℕ, ◌<◌, ◌≤◌, ◌+◌, Bool, true, false, List, [], ◌∷◌, length, Option, Some, None, refl, sym, ap, ◌∙◌, subst, arith, add-one}
use Rattle.std.specs.Prelude.{if◌then◌else◌}
use Rattle.std.proofs.Math.ListN.{length-set}
use Rattle.truetime.specs.Reading.{Reading}
use Rattle.rss_names.specs.declared.service.Target.{Target}
use Rattle.pipeline_lang.specs.Config.{home_of}
use Rattle.pipeline_lang.specs.declared.config.Config.{Config}
use Rattle.rss_wire.specs.declared.messages.Reply.{Reply}
use Rattle.rss_wire.specs.declared.messages.Request.{Request}
use Rattle.rss_tables.specs.Lines.{Line, line_at}
use Rattle.rss_tables.specs.Outs.{Out, slot_shard}
use Rattle.rss_tables.specs.SnapshotSession.{SnapSession, snap_hears, snap_wakes}
use Rattle.rss_tables.specs.TransactionSession.{TxnSession, txn_hears, txn_wakes, txn_passes}
use Rattle.rss_machine.specs.Effect.{waking_line}
use Rattle.rss_machine.specs.Enabling.{can_wake}
use Rattle.rss_machine.specs.Session.{Session}
use Rattle.rss_machine.specs.State.{State, Owner, owner_at}
use Rattle.rss_machine.specs.declared.session.Session.TheVariants as session
use Rattle.session_laws.specs.Awaits.{txn_awaits, snap_awaits, IsReplyTo}
use Rattle.session_laws.specs.Cases.{TxnTurn}
use Rattle.session_laws.specs.Frames.{IsLine}
use Rattle.session_laws.specs.SnapCases.{SnapTurn}
use Rattle.session_laws.proofs.Keeps.{txn_turn_same, txn_wake_same, txn_pass_same, snap_turn_same, snap_wake_same}
use Rattle.session_laws.proofs.SnapCases.{snap_case}
use Rattle.session_laws.proofs.TxnCases.{txn_case}
use Rattle.shard_event_laws.specs.Events.{Hears, Turns, turned_owner, left_to_await, Event, aside, begins_txn, begins_snapshot, txn_hears_one, snap_hears_one, txn_wakes_one, snap_wakes_one, txn_passes_time, sends_again, serves_one, stub_asks, stub_tells}
use Rattle.shard_event_laws.specs.Facts.{Aside, NetGrows, OneOwner, is_with_shards}
use Rattle.shard_event_laws.specs.Known.{Known}
use Rattle.txn_state_laws.specs.Awaited.{LineHears, AnswersHeard}
use Rattle.txn_state_laws.specs.Framed.{TxnFramed, SnapFramed, AllFramed}
use Rattle.txn_state_laws.specs.Onward.{AllOnward}
use Rattle.txn_state_laws.specs.Replied.{Replied}
use Rattle.txn_session_laws.specs.Undone.{NeverUndone}
use Rattle.txn_session_laws.proofs.Events.{Seen, kept, neither, txn_opens, snap_opens, txn_hears_it, snap_hears_it, txn_wakes_it, snap_wakes_it, passes_it, event_seen}
use Rattle.txn_session_laws.proofs.OnwardOwners.{SessionOnward, kept_session, no_session, txn_session, snap_session, txn_begins, snap_begins, OwnerKept, same_owner, turned_kept, all_onward, own_each, grows_by}
use Rattle.txn_session_laws.proofs.SnapTurns.{snap_turn_onward, snap_wake_onward}
use Rattle.txn_session_laws.proofs.Turns.{turn_onward, wake_onward, pass_onward}

-- the line that can wake is one of the lines
pub waking_is : (s : State) (lines : List Line) (l : Line) → waking_line s lines ≡ Some l → IsLine lines l
waking_is s [] l e = absurd (let x : ◌≡◌ {A = Option Line} None (Some l) = e in cc)
waking_is s (m ∷ lines) l e = by_test (can_wake s m) e (waking_is s lines l)
  where
    by_test : (b : Bool) → (if b then Some m else waking_line s lines) ≡ Some l → (waking_line s lines ≡ Some l → IsLine lines l) → IsLine (m ∷ lines) l
    by_test true f ih = record { place = 0; inside = omega arith; at = (let x : ◌≡◌ {A = Option Line} (Some m) (Some l) = f in cc) }
    by_test false f ih = let i = ih f in record { place = i.place + 1; inside = (let a = i.inside in omega (arith, a)); at = rw add-one i.at }

-- a line of a transaction hears the reply to what it awaits
pub record TxnHeard (s : State) (x : TxnSession) (l : Line) (r : Reply) : Type 0 where
  pub is : IsLine x.lines l
  pub target : Target
  pub asked : Request
  pub awaited : txn_awaits x x.phase l ≡ Some (target, asked)
  pub replied : Replied s target asked r
  pub fits : IsReplyTo asked r

pub record SnapHeard (s : State) (x : SnapSession) (l : Line) (r : Reply) : Type 0 where
  pub is : IsLine x.lines l
  pub target : Target
  pub asked : Request
  pub awaited : snap_awaits x x.phase l ≡ Some (target, asked)
  pub replied : Replied s target asked r
  pub fits : IsReplyTo asked r

pub txn_heard : (s : State) (slot : ℕ) (x : TxnSession) (r : Reply) → LineHears s slot x.lines (txn_awaits x x.phase) r → TxnHeard s x (line_at x.lines (slot_shard slot)) r
txn_heard s slot x r h = record { is = record { place = h.place; inside = h.inside; at = sym h.found }; target = h.target; asked = h.asked; awaited = ap (txn_awaits x x.phase) h.found ∙ h.awaited; replied = h.replied; fits = h.fits }

pub snap_heard : (s : State) (slot : ℕ) (x : SnapSession) (r : Reply) → LineHears s slot x.lines (snap_awaits x x.phase) r → SnapHeard s x (line_at x.lines (slot_shard slot)) r
snap_heard s slot x r h = record { is = record { place = h.place; inside = h.inside; at = sym h.found }; target = h.target; asked = h.asked; awaited = ap (snap_awaits x x.phase) h.found ∙ h.awaited; replied = h.replied; fits = h.fits }

pub heard_turn : (s : State) (x : TxnSession) (l : Line) (at : Reading) (r : Reply) → TxnHeard s x l r → TxnTurn x l at r (txn_hears x l at r)
heard_turn s x l at r h = txn_case x l at h.target h.asked r h.awaited h.fits

pub snap_heard_turn : (s : State) (x : SnapSession) (l : Line) (r : Reply) → SnapHeard s x l r → SnapTurn x l r (snap_hears x l r)
snap_heard_turn s x l r h = snap_case x l h.target h.asked r h.awaited h.fits

-- an owner that takes a turn stays what it is
module _ (c : Config) (at : Reading) (s t : State) where
  one_kept : (o : ℕ) (w : Owner) → OneOwner s t o w → OwnerKept (owner_at s o) w → (i : ℕ) → OwnerKept (owner_at s i) (owner_at t i)
  one_kept o w h k i = own_each OwnerKept s t o w h same_owner k i

  turn_kept : (o : ℕ) (anew : Bool) (currents : List (Option ℕ)) (x : Session) (outs : List Out) (end : Option ℕ) → Turns s t o anew currents x outs end → (i : ℕ) → OwnerKept (owner_at s i) (owner_at t i)
  turn_kept o anew currents x outs end h = one_kept o (turned_owner s o (left_to_await anew currents) x outs end) h.owned (turned_kept s o (left_to_await anew currents) x outs end)

  aside_kept : Aside c s t → (i : ℕ) → i < length s.owners → OwnerKept (owner_at s i) (owner_at t i)
  aside_kept h i a = by_shards (is_with_shards (owner_at s i).session) refl
    where
      by_shards : (b : Bool) → is_with_shards (owner_at s i).session ≡ b → OwnerKept (owner_at s i) (owner_at t i)
      by_shards true e = let k = h.with_shards i a e in record { kind = k.kind; begun = k.begun; stage = k.stage }
      by_shards false e = let k = h.without i a e in record { kind = k.kind; begun = k.begun; stage = k.stage }

  pub event_kept : Event c at s t → (i : ℕ) → i < length s.owners → OwnerKept (owner_at s i) (owner_at t i)
  event_kept (aside h) i a = aside_kept h i a
  event_kept (begins_txn o reads guard writes x k e h) i a = one_kept o _ h.owned record { kind = refl; begun = refl; stage = refl } i
  event_kept (begins_snapshot o keys x k e h) i a = one_kept o _ h.owned record { kind = refl; begun = refl; stage = refl } i
  event_kept (txn_hears_one o slot x r e h turns) i a = turn_kept o _ _ _ _ _ turns i
  event_kept (snap_hears_one o slot x r e h turns) i a = turn_kept o _ _ _ _ _ turns i
  event_kept (txn_wakes_one o x l e w turns) i a = turn_kept o _ _ _ _ _ turns i
  event_kept (snap_wakes_one o x l e w turns) i a = turn_kept o _ _ _ _ _ turns i
  event_kept (txn_passes_time o time x e w p turns) i a = turn_kept o _ _ _ _ _ turns i
  event_kept (sends_again o slot target r h) i a = one_kept o _ h.owned record { kind = refl; begun = refl; stage = refl } i
  event_kept (serves_one m shard q b e) i a = subst (λ (u : State). OwnerKept (owner_at s i) (owner_at u i)) (sym e) (same_owner (owner_at s i))
  event_kept (stub_asks o attempt shards k n e h) i a = one_kept o h.owner h.owned record { kind = h.kind; begun = h.begun; stage = h.stage } i
  event_kept (stub_tells o slot attempt shards outcome e n h) i a = one_kept o h.owner h.owned record { kind = h.kind; begun = h.begun; stage = h.stage } i

  -- messages that were sent stay, and owners are not fewer
  pub event_grows : Event c at s t → NetGrows s t
  event_grows (aside h) = h.net
  event_grows (begins_txn o reads guard writes x k e h) = h.sends.grows
  event_grows (begins_snapshot o keys x k e h) = h.sends.grows
  event_grows (txn_hears_one o slot x r e h turns) = turns.sends.grows
  event_grows (snap_hears_one o slot x r e h turns) = turns.sends.grows
  event_grows (txn_wakes_one o x l e w turns) = turns.sends.grows
  event_grows (snap_wakes_one o x l e w turns) = turns.sends.grows
  event_grows (txn_passes_time o time x e w p turns) = turns.sends.grows
  event_grows (sends_again o slot target r h) = h.sends.grows
  event_grows (serves_one m shard q b e) = grows_by s t _ (ap (λ (u : State). u.net) e)
  event_grows (stub_asks o attempt shards k n e h) = h.sends.grows
  event_grows (stub_tells o slot attempt shards outcome e n h) = h.sends.grows

  long_one : (o : ℕ) (w : Owner) → OneOwner s t o w → length s.owners ≤ length t.owners
  long_one o w h = let e = ap length h.owned ∙ length-set s.owners o w in omega (arith, e)

  event_long : Event c at s t → length s.owners ≤ length t.owners
  event_long (aside h) = h.long
  event_long (begins_txn o reads guard writes x k e h) = long_one o _ h.owned
  event_long (begins_snapshot o keys x k e h) = long_one o _ h.owned
  event_long (txn_hears_one o slot x r e h turns) = long_one o _ turns.owned
  event_long (snap_hears_one o slot x r e h turns) = long_one o _ turns.owned
  event_long (txn_wakes_one o x l e w turns) = long_one o _ turns.owned
  event_long (snap_wakes_one o x l e w turns) = long_one o _ turns.owned
  event_long (txn_passes_time o time x e w p turns) = long_one o _ turns.owned
  event_long (sends_again o slot target r h) = long_one o _ h.owned
  event_long (serves_one m shard q b e) = let f : length t.owners ≡ length s.owners = ap (λ (u : State). length u.owners) e in omega (arith, f)
  event_long (stub_asks o attempt shards k n e h) = long_one o h.owner h.owned
  event_long (stub_tells o slot attempt shards outcome e n h) = long_one o h.owner h.owned

  -- what each owner has under way goes on
  module _ (framed : AllFramed c s) (heard : AnswersHeard s) (never : NeverUndone s) where
    hears_onward : (o slot : ℕ) (x : TxnSession) (r : Reply) (now : Session) → (owner_at s o).session ≡ session.Transaction x → Hears s o slot r → now ≡ session.Transaction (txn_hears x (line_at x.lines (slot_shard slot)) at r).after → SessionOnward (owner_at s o).session now
    hears_onward o slot x r now e h n =
        let f : TxnFramed c s o x = framed.txn o x e in
        let l : Line = line_at x.lines (slot_shard slot) in
        let heard_it : TxnHeard s x l r = txn_heard s slot x r (heard.txn o slot x r e h) in
        let turn : TxnTurn x l at r (txn_hears x l at r) = heard_turn s x l at r heard_it in
        subst (SessionOnward (owner_at s o).session) (sym n) (txn_session (owner_at s o).session x (txn_hears x l at r).after e
        (turn_onward x l heard_it.is f.lines.apart at r (txn_hears x l at r) (λ time p q. never.never o slot x time e p (subst (Hears s o slot) q h)) turn
        (txn_turn_same (home_of c) x l at r (txn_hears x l at r) f.frames heard_it.is turn)))

    snap_hears_onward : (o slot : ℕ) (x : SnapSession) (r : Reply) (now : Session) → (owner_at s o).session ≡ session.Snapshot x → Hears s o slot r → now ≡ session.Snapshot (snap_hears x (line_at x.lines (slot_shard slot)) r).after → SessionOnward (owner_at s o).session now
    snap_hears_onward o slot x r now e h n =
        let f : SnapFramed c s o x = framed.snap o x e in
        let l : Line = line_at x.lines (slot_shard slot) in
        let heard_it : SnapHeard s x l r = snap_heard s slot x r (heard.snap o slot x r e h) in
        let turn : SnapTurn x l r (snap_hears x l r) = snap_heard_turn s x l r heard_it in
        subst (SessionOnward (owner_at s o).session) (sym n) (snap_session (owner_at s o).session x (snap_hears x l r).after e
        (snap_turn_onward x l r (snap_hears x l r) turn (snap_turn_same (home_of c) x l r (snap_hears x l r) f.frames heard_it.is turn)))

    seen_onward : (o : ℕ) (now : Session) → Seen c at s o (owner_at s o).session now → SessionOnward (owner_at s o).session now
    seen_onward o now (kept e) = kept_session (owner_at s o).session now e
    seen_onward o now (neither e f) = no_session (owner_at s o).session now e f
    seen_onward o now (txn_opens reads guard writes margin e n) = subst (SessionOnward (owner_at s o).session) (sym n) (txn_begins (owner_at s o).session _ e refl refl)
    seen_onward o now (snap_opens keys e n) = subst (SessionOnward (owner_at s o).session) (sym n) (snap_begins (owner_at s o).session _ _ e refl)
    seen_onward o now (txn_hears_it slot x r e h n) = hears_onward o slot x r now e h n
    seen_onward o now (snap_hears_it slot x r e h n) = snap_hears_onward o slot x r now e h n
    seen_onward o now (txn_wakes_it x l e w n) =
        let f : TxnFramed c s o x = framed.txn o x e in
        let i : IsLine x.lines l = waking_is s x.lines l w in
        subst (SessionOnward (owner_at s o).session) (sym n) (txn_session (owner_at s o).session x (txn_wakes x l).after e
        (wake_onward x l i f.lines.apart (txn_wake_same (home_of c) x l f.frames i)))
    seen_onward o now (snap_wakes_it x l e w n) =
        let f : SnapFramed c s o x = framed.snap o x e in
        let i : IsLine x.lines l = waking_is s x.lines l w in
        subst (SessionOnward (owner_at s o).session) (sym n) (snap_session (owner_at s o).session x (snap_wakes x l).after e
        (snap_wake_onward x l (snap_wake_same (home_of c) x l f.frames i)))
    seen_onward o now (passes_it x e n) = subst (SessionOnward (owner_at s o).session) (sym n) (txn_session (owner_at s o).session x (txn_passes x x.phase).after e (pass_onward x (txn_pass_same x)))

    pub goes_on : Event c at s t → AllOnward s t
    goes_on h = all_onward s t (event_grows h) (event_long h) (event_kept h) (λ o. seen_onward o (owner_at t o).session (event_seen c at s t h o))

pub onward : (c : Config) (at : Reading) (s t : State) → Known at s → AllFramed c s → AnswersHeard s → NeverUndone s → Event c at s t → AllOnward s t
onward c at s t known framed heard never event = goes_on c at s t framed heard never event
