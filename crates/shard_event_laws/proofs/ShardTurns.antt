-- Each move of a step as an event, third part: turns of transactions and snapshots, and stubs that settle.
use Rattle.std.proofs.Common.{◌≡◌, ◌⊎◌, inl, inr, ℕ, ◌+◌, ◌<◌, true, List, [], ◌∷◌, length, Option, Some, None, refl, sym, ap, ◌∙◌, subst, arith}
use Rattle.std.proofs.Math.ListN.{set}
use Rattle.std.specs.Prelude.{get_or}
use Rattle.truetime.specs.Reading.{Reading}
use Rattle.rss_names.specs.declared.attempt.Attempt.{Attempt}
use Rattle.pipeline_lang.specs.declared.config.Config.{Config}
use Rattle.rss_wire.specs.declared.messages.Outcome.{Outcome}
use Rattle.rss_wire.specs.declared.messages.Reply.{Reply}
use Rattle.rss_wire.specs.declared.messages.Reply.TheVariants as reply
use Rattle.rss_tables.specs.Lines.{line_at, tells_decision}
use Rattle.rss_tables.specs.Outs.{Out, slot_shard}
use Rattle.rss_tables.specs.SnapshotSession.{SnapSession, snap_hears, snap_wakes, snap_end}
use Rattle.rss_tables.specs.TransactionSession.{TxnSession, txn_hears, txn_wakes, txn_passes, txn_end, shown_reply}
use Rattle.rss_tables.specs.Turns.{Turn}
use Rattle.rss_tables.specs.Works.{planned, plan_all}
use Rattle.rss_machine.specs.Calls.{txn_turns, snap_turns}
use Rattle.rss_machine.specs.Moves.{sends, listens, plans_stub}
use Rattle.rss_machine.specs.Standing.{is_running}
use Rattle.rss_machine.specs.State.{State, Owner, owner_at, no_owner}
use Rattle.rss_machine.specs.declared.session.Session.TheVariants as session
use Rattle.world_laws.specs.Calls.{is_call}
use Rattle.world_laws.proofs.Doings.{Heard}
use Rattle.world_laws.proofs.Looks.{looks}
use Rattle.world_laws.proofs.OwnerFits.{SessionFits}
use Rattle.world_laws.proofs.SessionMoves.{session_at}
use Rattle.world_laws.proofs.StagesOwned.{running_there}
use Rattle.world_laws.proofs.ToldRuns.{Stepping}
use Rattle.world_laws.proofs.TurnMoves.{ShardTurn, txn_answered, snap_answered, txn_wakes_one, snap_wakes_one, txn_passes_time}
use Rattle.shard_event_laws.specs.Events as event
use Rattle.shard_event_laws.specs.Events.{Event, Hears, TxnTurns, SnapTurns, heard_at}
use Rattle.shard_event_laws.specs.Facts.{SameShards, Sends, currents_after}
use Rattle.shard_event_laws.proofs.Sending.{set_itself, sends_clock, sends_net}
use Rattle.shard_event_laws.proofs.TurnEvents.{SameRest, turns_is, changed_again, sends_changed, sends_from, shards_later}

-- what is heard
pub hears : (s : State) (o slot : ℕ) (r : Reply) → Heard s o slot r → Hears s o slot r
hears s o slot r d = record { number = d.number; numbered = d.numbered; sent = d.sent; by = d.by; says = d.says; current = d.current }

module _ (c : Config) (at : Reading) where
  txn_calls : (s : State) (o : ℕ) (x : TxnSession) → Stepping s → session_at s o ≡ session.Transaction x → is_call (owner_at s o).kind ≡ true
  txn_calls s o x h e = subst (SessionFits (owner_at s o).kind) e (h.told.fits o).session

  snap_calls : (s : State) (o : ℕ) (x : SnapSession) → Stepping s → session_at s o ≡ session.Snapshot x → is_call (owner_at s o).kind ≡ true
  snap_calls s o x h e = subst (SessionFits (owner_at s o).kind) e (h.told.fits o).session

  listened_kind : (s : State) (o slot : ℕ) → (owner_at (listens s o slot) o).kind ≡ (owner_at s o).kind
  listened_kind s o slot = grind (arith, looks)

  listened : (s : State) (o slot : ℕ) → SameRest s (listens s o slot)
  listened s o slot = record { same = record { shards = refl; steps = refl; moment = refl; moments = refl }; net = refl }

  nothing : (s : State) → SameRest s s
  nothing s = record { same = record { shards = refl; steps = refl; moment = refl; moments = refl }; net = refl }

  heard_txn : (s : State) (o slot : ℕ) (t : Turn TxnSession) → is_running (owner_at s o).fate ≡ true → is_call (owner_at s o).kind ≡ true → TxnTurns s (txn_turns c (listens s o slot) o t) o (heard_at s o slot) t
  heard_txn s o slot t r e =
      turns_is c s (listens s o slot) o (heard_at s o slot) (running_there s o r) r (listened s o slot) refl t.anew (session.Transaction t.after) t.outs (owner_at (listens s o slot) o).kind (shown_reply t.after.reads t.after.lines) (txn_end t.after.phase) (ap is_call (listened_kind s o slot) ∙ e)

  heard_snap : (s : State) (o slot : ℕ) (t : Turn SnapSession) → is_running (owner_at s o).fate ≡ true → is_call (owner_at s o).kind ≡ true → SnapTurns s (snap_turns c (listens s o slot) o t) o (heard_at s o slot) t
  heard_snap s o slot t r e =
      turns_is c s (listens s o slot) o (heard_at s o slot) (running_there s o r) r (listened s o slot) refl t.anew (session.Snapshot t.after) t.outs (owner_at (listens s o slot) o).kind (shown_reply t.after.keys t.after.lines) (snap_end t.after.phase) (ap is_call (listened_kind s o slot) ∙ e)

  own_txn : (s : State) (o : ℕ) (t : Turn TxnSession) → is_running (owner_at s o).fate ≡ true → is_call (owner_at s o).kind ≡ true → TxnTurns s (txn_turns c s o t) o (owner_at s o).currents t
  own_txn s o t r e =
      turns_is c s s o (owner_at s o).currents (running_there s o r) r (nothing s) (sym (set_itself s.owners o no_owner)) t.anew (session.Transaction t.after) t.outs (owner_at s o).kind (shown_reply t.after.reads t.after.lines) (txn_end t.after.phase) e

  own_snap : (s : State) (o : ℕ) (t : Turn SnapSession) → is_running (owner_at s o).fate ≡ true → is_call (owner_at s o).kind ≡ true → SnapTurns s (snap_turns c s o t) o (owner_at s o).currents t
  own_snap s o t r e =
      turns_is c s s o (owner_at s o).currents (running_there s o r) r (nothing s) (sym (set_itself s.owners o no_owner)) t.anew (session.Snapshot t.after) t.outs (owner_at s o).kind (shown_reply t.after.keys t.after.lines) (snap_end t.after.phase) e

  pub of_turns : (s t : State) (o : ℕ) → is_running (owner_at s o).fate ≡ true → ShardTurn c at s o t → Stepping s → Event c at s t
  of_turns s _ o r (txn_answered x slot a e d) h = event.txn_hears_one o slot x a e (hears s o slot a d) (heard_txn s o slot (txn_hears x (line_at x.lines (slot_shard slot)) at a) r (txn_calls s o x h e))
  of_turns s _ o r (snap_answered x slot a e d) h = event.snap_hears_one o slot x a e (hears s o slot a d) (heard_snap s o slot (snap_hears x (line_at x.lines (slot_shard slot)) a) r (snap_calls s o x h e))
  of_turns s _ o r (txn_wakes_one x l e a b) h = event.txn_wakes_one o x l e b (own_txn s o (txn_wakes x l) r (txn_calls s o x h e))
  of_turns s _ o r (snap_wakes_one x l e b) h = event.snap_wakes_one o x l e b (own_snap s o (snap_wakes x l) r (snap_calls s o x h e))
  of_turns s _ o r (txn_passes_time x time e a b) h = event.txn_passes_time o time x e a b (own_txn s o (txn_passes x x.phase) r (txn_calls s o x h e))

  -- a stub learns of a decision, and tells it
  told_currents : (attempt : Attempt) (outcome : Outcome) (shards : List ℕ) (cs : List (Option ℕ)) (n : ℕ) → currents_after cs (tells_decision attempt outcome shards) n ≡ cs
  told_currents attempt outcome [] cs n = refl
  told_currents attempt outcome (shard ∷ shards) cs n = told_currents attempt outcome shards cs (n + 1)

  stops : (cs : List (Option ℕ)) (slot other m : ℕ) → get_or (set cs slot None) other None ≡ Some m → get_or cs other None ≡ Some m
  stops cs slot other m e = by_place (at_place cs slot other) e
    where
      at_place : (cs : List (Option ℕ)) (slot other : ℕ) → (get_or (set cs slot None) other None ≡ None) ⊎ (get_or (set cs slot None) other None ≡ get_or cs other None)
      at_place cs slot other = grind (arith, looks)

      none_is : None ≡ Some m → ⊥
      none_is f = cc

      by_place : (get_or (set cs slot None) other None ≡ None) ⊎ (get_or (set cs slot None) other None ≡ get_or cs other None) → get_or (set cs slot None) other None ≡ Some m → get_or cs other None ≡ Some m
      by_place (inl f) g = absurd (none_is (sym f ∙ g))
      by_place (inr f) g = sym f ∙ g

  pub of_settles : (s : State) (o slot : ℕ) (attempt : Attempt) (shards : List ℕ) (outcome : Outcome) → is_running (owner_at s o).fate ≡ true → session_at s o ≡ session.Settling attempt shards → Heard s o slot (reply.Decided outcome) →
      Event c at s (plans_stub (sends (listens s o slot) o (tells_decision attempt outcome shards)) o)
  of_settles s o slot attempt shards outcome r e d =
      event.stub_tells o slot attempt shards outcome e (hears s o slot (reply.Decided outcome) d) (record {
        same = record { shards = b.shards; steps = b.steps; moment = b.moment; moments = b.moments };
        owner = f w;
        owned = record { there = i; runs = r; owned = changed_again s m o w f i owned };
        kind = refl;
        stage = refl;
        begun = refl;
        session = refl;
        awaits = λ other n q. inl (stops (owner_at s o).currents slot other n (ap (λ (cs : List (Option ℕ)). get_or cs other None) (sym (told_currents attempt outcome shards (heard_at s o slot) (length s.net))) ∙ q));
        sends = record { grows = record { long = g.grows.long; envelopes = g.grows.envelopes; bodies = g.grows.bodies }; count = g.count; each = g.each };
      })
    where
      outs : List Out
      outs = tells_decision attempt outcome shards

      u : State
      u = listens s o slot

      m : State
      m = sends u o outs

      i : o < length s.owners
      i = running_there s o r

      w : Owner
      w = record (owner_at s o) { currents = currents_after (heard_at s o slot) outs (length s.net) }

      f : Owner → Owner
      f v = record v { started = true; session = session.Idle; works = planned v.works.copy (plan_all v.works.copy) }

      owned : m.owners ≡ set s.owners o w
      owned = sends_changed s u o (record (owner_at s o) { currents = heard_at s o slot }) outs i refl refl

      b : SameShards s m
      b = shards_later s u m (record { shards = refl; steps = refl; moment = refl; moments = refl }) (sends_clock o outs u)

      g : Sends s m o outs
      g = sends_from s u m o outs refl (sends_net o outs u)
