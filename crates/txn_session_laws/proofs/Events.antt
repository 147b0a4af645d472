-- An event, as each owner sees it.
use Rattle.std.proofs.Common.{◌≡◌, ◌⊎◌, inl, inr, ℕ, ◌<◌, ◌≤◌, Bool, true, false, List, length, Option, Some, refl, sym, ap, subst}
use Rattle.std.proofs.lemmas.Bool.{cases_lt}
use Rattle.std.proofs.lemmas.List.{get_or_past}
use Rattle.truetime.specs.Reading.{Reading}
use Rattle.rss_names.specs.declared.service.Key.{Key}
use Rattle.pipeline_lang.specs.Config.{home_of, body_of}
use Rattle.pipeline_lang.specs.declared.config.Config.{Config}
use Rattle.pipeline_lang.specs.declared.script.Compare.{Compare}
use Rattle.pipeline_lang.specs.declared.script.Expr.{Expr}
use Rattle.rss_model.specs.declared.op.Op.TheVariants as op
use Rattle.rss_wire.specs.declared.messages.Reply.{Reply}
use Rattle.rss_tables.specs.Lines.{Line, line_at}
use Rattle.rss_tables.specs.Outs.{Out, slot_shard}
use Rattle.rss_tables.specs.SnapshotSession.{SnapSession, opening_snapshot, snap_hears, snap_wakes}
use Rattle.rss_tables.specs.TransactionSession.{TxnSession, opening_txn, txn_hears, txn_wakes, txn_passes}
use Rattle.rss_machine.specs.Calls.{least_for}
use Rattle.rss_machine.specs.Effect.{waking_line}
use Rattle.rss_machine.specs.Session.{Session, service_of}
use Rattle.rss_machine.specs.State.{State, Owner, owner_at, no_owner}
use Rattle.rss_machine.specs.declared.session.Session.TheVariants as session
use Rattle.shard_event_laws.specs.Events.{Hears, Turns, turned_owner, left_to_await, Event, aside, begins_txn, begins_snapshot, txn_hears_one, snap_hears_one, txn_wakes_one, snap_wakes_one, txn_passes_time, sends_again, serves_one, stub_asks, stub_tells}
use Rattle.shard_event_laws.specs.Facts.{Aside, OneOwner, is_with_shards}
use Rattle.txn_session_laws.proofs.OnwardOwners.{is_call, without_shards, own_cases, turned_session}

-- what happens to what an owner has under way
pub data Seen (c : Config) (at : Reading) (s : State) (o : ℕ) (before now : Session) : Type 0 where
  -- it stays
  kept : now ≡ before → Seen c at s o before now
  -- there is no transaction or snapshot, and none begins
  neither : is_call before ≡ false → is_call now ≡ false → Seen c at s o before now
  -- one begins
  txn_opens : (reads : List Key) (guard : Option (Compare ℕ)) (writes : List (Key × Expr ℕ)) (margin : ℕ) → before ≡ session.Idle
      → now ≡ session.Transaction (opening_txn (home_of c) o reads guard writes (least_for s o (service_of (op.Txn reads guard writes))) margin) → Seen c at s o before now
  snap_opens : (keys : List Key) → before ≡ session.Idle → now ≡ session.Snapshot (opening_snapshot (home_of c) o keys (least_for s o (service_of (op.Snap keys))) at) → Seen c at s o before now
  -- a line of it hears a reply
  txn_hears_it : (slot : ℕ) (x : TxnSession) (r : Reply) → before ≡ session.Transaction x → Hears s o slot r → now ≡ session.Transaction (txn_hears x (line_at x.lines (slot_shard slot)) at r).after → Seen c at s o before now
  snap_hears_it : (slot : ℕ) (x : SnapSession) (r : Reply) → before ≡ session.Snapshot x → Hears s o slot r → now ≡ session.Snapshot (snap_hears x (line_at x.lines (slot_shard slot)) r).after → Seen c at s o before now
  -- a line of it wakes
  txn_wakes_it : (x : TxnSession) (l : Line) → before ≡ session.Transaction x → waking_line s x.lines ≡ Some l → now ≡ session.Transaction (txn_wakes x l).after → Seen c at s o before now
  snap_wakes_it : (x : SnapSession) (l : Line) → before ≡ session.Snapshot x → waking_line s x.lines ≡ Some l → now ≡ session.Snapshot (snap_wakes x l).after → Seen c at s o before now
  -- the time passes that it waited for
  passes_it : (x : TxnSession) → before ≡ session.Transaction x → now ≡ session.Transaction (txn_passes x x.phase).after → Seen c at s o before now

module _ (c : Config) (at : Reading) (s t : State) where
  -- one owner changes
  one_seen : (o : ℕ) (w : Owner) → OneOwner s t o w → Seen c at s o (owner_at s o).session w.session → (i : ℕ) → Seen c at s i (owner_at s i).session (owner_at t i).session
  one_seen o w h x i = by_cases (own_cases s t o i w h)
    where
      by_cases : ((owner_at t i ≡ w) × (i ≡ o)) ⊎ (owner_at t i ≡ owner_at s i) → Seen c at s i (owner_at s i).session (owner_at t i).session
      by_cases (inl e) = subst (λ (v : Owner). Seen c at s i (owner_at s i).session v.session) (sym e.0) (subst (λ (j : ℕ). Seen c at s j (owner_at s j).session w.session) (sym e.1) x)
      by_cases (inr e) = kept (ap (λ (v : Owner). v.session) e)

  -- an owner takes a turn
  turn_seen : (o : ℕ) (anew : Bool) (currents : List (Option ℕ)) (x : Session) (outs : List Out) (end : Option ℕ) → Turns s t o anew currents x outs end
      → Seen c at s o (owner_at s o).session x → (i : ℕ) → Seen c at s i (owner_at s i).session (owner_at t i).session
  turn_seen o anew currents x outs end h seen = one_seen o (turned_owner s o (left_to_await anew currents) x outs end) h.owned
      (subst (Seen c at s o (owner_at s o).session) (sym (turned_session s o (left_to_await anew currents) x outs end)) seen)

  aside_seen : Aside c s t → (i : ℕ) → Seen c at s i (owner_at s i).session (owner_at t i).session
  aside_seen h i = by_old (cases_lt i (length s.owners))
    where
      by_shards : i < length s.owners → (b : Bool) → is_with_shards (owner_at s i).session ≡ b → Seen c at s i (owner_at s i).session (owner_at t i).session
      by_shards a true e = kept (h.with_shards i a e).session
      by_shards a false e = neither (without_shards (owner_at s i).session e) (without_shards (owner_at t i).session (h.without i a e).none)

      none_before : length s.owners ≤ i → is_call (owner_at s i).session ≡ false
      none_before a = ap (λ (v : Owner). is_call v.session) (get_or_past s.owners i no_owner a)

      by_new : length s.owners ≤ i → (i < length t.owners) ⊎ (length t.owners ≤ i) → Seen c at s i (owner_at s i).session (owner_at t i).session
      by_new a (inl b) = neither (none_before a) (without_shards (owner_at t i).session (h.anew i a b).none)
      by_new a (inr b) = neither (none_before a) (ap (λ (v : Owner). is_call v.session) (get_or_past t.owners i no_owner b))

      by_old : (i < length s.owners) ⊎ (length s.owners ≤ i) → Seen c at s i (owner_at s i).session (owner_at t i).session
      by_old (inl a) = by_shards a (is_with_shards (owner_at s i).session) refl
      by_old (inr a) = by_new a (cases_lt i (length t.owners))

  pub event_seen : Event c at s t → (i : ℕ) → Seen c at s i (owner_at s i).session (owner_at t i).session
  event_seen (aside h) = aside_seen h
  event_seen (begins_txn o reads guard writes x k e h) = one_seen o _ h.owned (txn_opens reads guard writes (body_of c (owner_at s o).stage).earliest_end h.idle (ap (λ (y : TxnSession). session.Transaction y) e))
  event_seen (begins_snapshot o keys x k e h) = one_seen o _ h.owned (snap_opens keys h.idle (ap (λ (y : SnapSession). session.Snapshot y) e))
  event_seen (txn_hears_one o slot x r e h turns) = turn_seen o _ _ _ _ _ turns (txn_hears_it slot x r e h refl)
  event_seen (snap_hears_one o slot x r e h turns) = turn_seen o _ _ _ _ _ turns (snap_hears_it slot x r e h refl)
  event_seen (txn_wakes_one o x l e w turns) = turn_seen o _ _ _ _ _ turns (txn_wakes_it x l e w refl)
  event_seen (snap_wakes_one o x l e w turns) = turn_seen o _ _ _ _ _ turns (snap_wakes_it x l e w refl)
  event_seen (txn_passes_time o time x e w p turns) = turn_seen o _ _ _ _ _ turns (passes_it x e refl)
  event_seen (sends_again o slot target r h) = one_seen o _ h.owned (kept refl)
  event_seen (serves_one m shard q a e) = λ i. kept (ap (λ (u : State). (owner_at u i).session) e)
  event_seen (stub_asks o attempt shards k n e h) = one_seen o h.owner h.owned (neither (ap is_call e) (ap is_call h.session))
  event_seen (stub_tells o slot attempt shards outcome e n h) = one_seen o h.owner h.owned (neither (ap is_call e) (ap is_call h.session))
