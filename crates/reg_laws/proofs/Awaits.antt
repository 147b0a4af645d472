-- What owners await, in every run: a current exchange of a round is the owner's request of the round's phase, to the
-- replica of the slot. So a reply that is heard answers the round's own request.
use Rattle.std.proofs.Common.{◌≡◌, ℕ, zero, suc, ◌<◌, true, false, List, [], ◌∷◌, ◌++◌, length, get_or, Option, Some, None, refl, ap, sym, ◌∙◌, subst, arith}
use Rattle.std.proofs.Math.ListN.{set}
use Rattle.truetime.specs.Reading.{Reading}
use Rattle.rss_names.specs.declared.attempt.Attempt.{Attempt}
use Rattle.rss_names.specs.declared.service.Target.{Target}
use Rattle.causal_context.specs.declared.dep.Dep.{Dep}
use Rattle.pipeline_lang.specs.declared.config.Config.{Config}
use Rattle.rss_wire.specs.Messages.{message_at}
use Rattle.rss_wire.specs.declared.message.Body.TheVariants as body
use Rattle.rss_wire.specs.declared.message.Message.{Message}
use Rattle.rss_wire.specs.declared.messages.Outcome.{Outcome}
use Rattle.rss_wire.specs.declared.messages.Reply.{Reply}
use Rattle.rss_wire.specs.declared.messages.Reply.TheVariants as reply
use Rattle.rss_wire.specs.declared.messages.Request.{Request}
use Rattle.rss_tables.specs.Lines.{tells_decision}
use Rattle.rss_tables.specs.Outs.{Out}
use Rattle.rss_tables.specs.RegisterSession.{RegSession}
use Rattle.rss_machine.specs.Effect.{stepped}
use Rattle.rss_machine.specs.Moves.{ticks, sends_one, sends, listens, plans_stub}
use Rattle.rss_machine.specs.Refusal.{refusal}
use Rattle.rss_machine.specs.Run.{run}
use Rattle.rss_machine.specs.Session.{Session}
use Rattle.rss_machine.specs.State.{State, Owner, start, owner_at, no_owner, stage_at}
use Rattle.rss_machine.specs.declared.session.OwnerKind.TheVariants as kind
use Rattle.rss_machine.specs.declared.session.Session.TheVariants as session
use Rattle.rss_machine.specs.declared.step.Step.{Step}
use Rattle.world_laws.proofs.Doings.{Changed, Heard, Beginning, calls, fences, Leaving, waits, fixes_work, fixes_own, asks_register, stamps_register, begins_snapshot, begins_txn, fence_done, stub_done, ShardTurning, txn_heard, txn_woken, txn_passed, snap_heard, snap_woken, Doing, listens_one, fix_hears, fix_reached, register_hears, register_stores, register_reached, read_ends, write_ends, txn_ends, snap_ends, counts_one, cuts_one, is_closed, forgets_all, turns, stub_asks}
use Rattle.world_laws.proofs.Looks.{looks, some_is, none_is_not}
use Rattle.world_laws.proofs.OwnerWalk.{owner_walk}
use Rattle.world_laws.proofs.Runs.{passes}
use Rattle.world_laws.proofs.Sent.{IsTold, decision_outs, sends_each}
use Rattle.world_laws.proofs.SessionMoves.{session_at, IsAgain}
use Rattle.world_laws.proofs.Runs.{run_keeps}
use Rattle.world_laws.proofs.Replies.{Sound, sound_keeps, sound_start}
use Rattle.world_laws.proofs.Stacked.{OwnerKeepsUnder, stacked, sent_before}
use Rattle.world_laws.proofs.StoreWalk.{store_owner}
use Rattle.std.proofs.Common.{◌⊎◌, inl, inr}
use Rattle.std.proofs.lemmas.Bool.{true≢false}
use Rattle.std.proofs.lemmas.List.{get_or-set_same}
use Rattle.rss_wire.specs.declared.message.Fate.TheVariants.{Pending}
use Rattle.rss_wire.specs.Messages.{meets, request_envelope}
use Rattle.rss_tables.specs.Outs.{line_slot}
use Rattle.rss_tables.specs.Works.{planned, plan_all, no_works}
use Rattle.rss_machine.specs.Effect.{least_shard}
use Rattle.rss_machine.specs.Slots.{slot_in, with_current}
use Rattle.world_laws.specs.Exchanges.{Fits, Exchanges}
use Rattle.world_laws.proofs.Doings.{listened}
use Rattle.world_laws.proofs.Looks.{get_or_past}
use Rattle.world_laws.proofs.OwnerMoves.{is_busy, busy_there}
use Rattle.world_laws.proofs.RequestsProper.{sends_same}
use Rattle.world_laws.proofs.Stacked.{SentBefore}
use Rattle.reg_laws.specs.Awaited.{IsAsked, IsAwaited, CurrentsAwaited, IsOwnReply, IsRound, RepliesAreOwn}
use Rattle.reg_laws.proofs.Awaiting.{set_each, FixesOnly, OwnAwaited, Awaiting, IsFree, AtRest, own_stays, meets_asked, awaiting_more, none_current, idle_current, OutFits, current_more, current_less, slot_current, awaits_one, awaits_sends, awaiting_set, awaiting_grow, set_there, grown_there}
use Rattle.reg_laws.proofs.AwaitsOf.{opening_awaited, free_awaited, resting_free, resting_none, working_free, working_none, leaving_awaited, leaving_fits, doing_awaited, doing_fits}

-- a stub that hears its decision awaits nothing more, tells it, and plans its works
record Silent (x : Session) (o : ℕ) (s : State) : Type 0 where
  awaiting : Awaiting s
  none : (slot m : ℕ) → get_or (owner_at s o).currents slot None ≡ Some m → ⊥
  under_way : session_at s o ≡ x

told_current : (s : State) (o : ℕ) (out : Out) (slot m : ℕ) → out.slot ≡ None → get_or (owner_at (sends_one s o out) o).currents slot None ≡ Some m → get_or (owner_at s o).currents slot None ≡ Some m
told_current s o out slot m n e = grind (arith, looks, n, e)

silent_one : (attempt : Attempt) (shards : List ℕ) (o : ℕ) (s : State) (out : Out) → IsTold out → Silent (session.Settling attempt shards) o s → Silent (session.Settling attempt shards) o (sends_one s o out)
silent_one attempt shards o s out d h = record {
  awaiting = awaits_one o s out (subst (λ (y : Session). OutFits y out) (sym h.under_way) (λ slot e. absurd (none_is_not slot (sym d.slot ∙ e)))) h.awaiting;
  none = λ slot m e. h.none slot m (told_current s o out slot m d.slot e);
  under_way = sends_same s o out o ∙ h.under_way;
}

settles_rest : (s : State) (o slot : ℕ) (attempt : Attempt) (shards : List ℕ) (outcome : Outcome) → o < length s.owners → session_at s o ≡ session.Settling attempt shards → Heard s o slot (reply.Decided outcome) → Awaiting s → AtRest (plans_stub (sends (listens s o slot) o (tells_decision attempt outcome shards)) o) o
settles_rest s o slot attempt shards outcome i x d h = (awaiting_set t (plans_stub t o) o w refl refl (free_awaited t.net o w told.none free) told.awaiting, subst IsFree (sym at_w) free)
  where
    at_slot : (owner_at (listens s o slot) o) ≡ listened s o slot
    at_slot = get_or-set_same s.owners o (listened s o slot) no_owner i

    line_of : (k m : ℕ) → get_or (owner_at s o).currents k None ≡ Some m → k ≡ line_slot (least_shard shards)
    line_of k m e = subst (λ (y : Session). IsAwaited s.net o y k m) x ((h.each o).awaited k m e)

    heard : Silent (session.Settling attempt shards) o (listens s o slot)
    heard = record {
      awaiting = awaiting_set s (listens s o slot) o (listened s o slot) refl refl (doing_awaited s o _ _ _ (listens_one slot (reply.Decided outcome) d) (h.each o)) h;
      none = λ k m e.
          let less = current_less (owner_at s o).currents slot k m (subst (λ (v : Owner). get_or v.currents k None ≡ Some m) at_slot e) in
          less.1 (line_of k m less.0 ∙ sym (line_of slot _ (slot_current (owner_at s o).currents _ slot d.current)));
      under_way = ap (λ (v : Owner). v.session) at_slot ∙ x;
    }

    t : State
    t = sends (listens s o slot) o (tells_decision attempt outcome shards)

    told : Silent (session.Settling attempt shards) o t
    told = sends_each (Silent (session.Settling attempt shards) o) IsTold o (silent_one attempt shards o) (tells_decision attempt outcome shards) (listens s o slot) (decision_outs attempt outcome shards) heard

    w : Owner
    w = record (owner_at t o) { started = true; session = session.Idle; works = planned (owner_at t o).works.copy (plan_all (owner_at t o).works.copy) }

    free : IsFree w
    free = record { idle = refl; begun = refl; awake = refl }

    there : o < length t.owners
    there = busy_there t o (session.Settling attempt shards) told.under_way refl

    at_w : owner_at (plans_stub t o) o ≡ w
    at_w = get_or-set_same t.owners o w no_owner there

again_awaited : (s : State) (o exchange slot : ℕ) (target : Target) (r : Request) → IsAgain s o exchange slot target r → Sound s → Awaiting s → Awaiting (sends_one s o (record { slot = Some slot; target = target; request = r }))
again_awaited s o exchange slot target r d g h = record { each = set_each (OwnAwaited net) s.owners o w own (awaiting_more s x h) }
  where
    x : Message
    x = record { envelope = request_envelope s.net o (owner_at s o).stage target; body = body.Request r; fate = Pending }

    net : List Message
    net = s.net ++ x ∷ []

    w : Owner
    w = record (owner_at s o) { currents = with_current (owner_at s o).currents (Some slot) (length s.net) }

    before : OwnAwaited net o (owner_at s o)
    before = awaiting_more s x h o

    b : SentBefore s o exchange target r
    b = sent_before s o exchange slot target r g d

    at_new : message_at net (length s.net) ≡ x
    at_new = grind (arith, looks)

    round_again : (f : RegSession) → IsAsked s.net o f slot exchange → IsAsked net o f slot (length s.net)
    round_again f a = record {
      sent = grind (arith, looks);
      owner = ap (λ (y : Message). y.envelope.owner) at_new;
      target = ap (λ (y : Message). y.envelope.target) at_new ∙ (sym b.target_of ∙ a.target);
      request = a.request;
      says = ap (λ (y : Message). y.body) at_new ∙ (sym b.asked ∙ a.says);
      within = a.within;
      of_phase = a.of_phase;
    }

    new_one : (y : Session) → IsAwaited s.net o y slot exchange → IsAwaited net o y slot (length s.net)
    new_one session.Idle a = a
    new_one (session.Fixing f) a = round_again f a
    new_one (session.Register f) a = round_again f a
    new_one (session.Transaction t) a = a
    new_one (session.Snapshot t) a = a
    new_one (session.Settling attempt shards) a = a

    own : OwnAwaited net o w
    own = record {
      awaited = λ k m e. by_current k m (current_more (owner_at s o).currents (Some slot) (length s.net) k m e);
      waiting = before.waiting;
      unstarted = before.unstarted;
      fixes = before.fixes;
    }
      where
        by_current : (k m : ℕ) → ((m ≡ length s.net) × (Some slot ≡ Some k)) ⊎ (get_or (owner_at s o).currents k None ≡ Some m) → IsAwaited net o (session_at s o) k m
        by_current k m (inl e) =
            subst (λ (n : ℕ). IsAwaited net o (session_at s o) k n) (sym e.0)
            (subst (λ (n : ℕ). IsAwaited net o (session_at s o) n (length s.net)) (some_is slot k e.1)
            (new_one (session_at s o) ((h.each o).awaited slot exchange (slot_current (owner_at s o).currents exchange slot d.current))))
        by_current k m (inr e) = before.awaited k m e

-- rounds of dependencies stay such
pub leaving_fixes : (c : Config) (at : Reading) (s : State) (o : ℕ) (w : Owner) (outs : List Out) → Leaving c at s o w outs → FixesOnly (session_at s o) → FixesOnly w.session
leaving_fixes c at s o _ _ (waits id time rest l) h = h
leaving_fixes c at s o _ _ (fixes_work id rest l) h = tt
leaving_fixes c at s o _ _ (fixes_own x dep deps l e d) h = tt
leaving_fixes c at s o _ _ (asks_register key l e d) h = tt
leaving_fixes c at s o _ _ (stamps_register key value l e d) h = tt
leaving_fixes c at s o _ _ (begins_snapshot keys t l e d) h = tt
leaving_fixes c at s o _ _ (begins_txn reads guard writes t l e d) h = tt
leaving_fixes c at s o _ _ (fence_done l e) h = h
leaving_fixes c at s o _ _ (stub_done u l e) h = h

pub doing_fixes : (s : State) (o : ℕ) (w : Owner) (outs : List Out) (new : List Dep) → Doing s o w outs new → OwnAwaited s.net o (owner_at s o) → FixesOnly w.session
doing_fixes s o w outs new b h = (doing_awaited s o w outs new b h).fixes

pub beginning_idle : (c : Config) (s : State) (w : Owner) → Beginning c s w → w.session ≡ session.Idle
beginning_idle c s _ (calls n x e) = refl
beginning_idle c s _ (fences n) = refl

-- an owner that is not there sends nothing
pub nobody_sends : (s : State) (o : ℕ) (w : Owner) (outs : List Out) (new : List Dep) → Doing s o w outs new → owner_at s o ≡ no_owner → outs ≡ []
nobody_sends s o _ _ _ (listens_one slot r d) q = refl
nobody_sends s o _ _ _ (fix_hears f slot r x d e) q = refl
nobody_sends s o _ _ _ (fix_reached f slot r g x d e) q = refl
nobody_sends s o _ _ _ (register_hears f slot r x d a e) q = refl
nobody_sends s o _ _ _ (register_stores f slot r x d a e) q = absurd (true≢false (sym (ap is_busy x) ∙ ap (λ (v : Owner). is_busy v.session) q))
nobody_sends s o _ _ _ (register_reached f slot r g x d e) q = refl
nobody_sends s o _ _ _ (read_ends f key cell dep x a b) q = refl
nobody_sends s o _ _ _ (write_ends f key value e x a b) q = refl
nobody_sends s o _ _ _ (txn_ends y t time a b d) q = refl
nobody_sends s o _ _ _ (snap_ends y t time a b d) q = refl
nobody_sends s o _ _ _ (counts_one target) q = refl
nobody_sends s o _ _ _ (cuts_one service replica) q = refl
nobody_sends s o _ _ _ (is_closed f) q = refl
nobody_sends s o _ _ _ forgets_all q = refl
nobody_sends s o _ _ _ (turns x outs y) q = turning_none x outs y
  where
    turning_none : (x : Session) (outs : List Out) → ShardTurning s o x outs → outs ≡ []
    turning_none _ _ (txn_heard t l at r e) = absurd (true≢false (sym (ap is_busy e) ∙ ap (λ (v : Owner). is_busy v.session) q))
    turning_none _ _ (txn_woken t l e) = absurd (true≢false (sym (ap is_busy e) ∙ ap (λ (v : Owner). is_busy v.session) q))
    turning_none _ _ (txn_passed t e) = absurd (true≢false (sym (ap is_busy e) ∙ ap (λ (v : Owner). is_busy v.session) q))
    turning_none _ _ (snap_heard t l r e) = absurd (true≢false (sym (ap is_busy e) ∙ ap (λ (v : Owner). is_busy v.session) q))
    turning_none _ _ (snap_woken t l e) = absurd (true≢false (sym (ap is_busy e) ∙ ap (λ (v : Owner). is_busy v.session) q))
nobody_sends s o _ _ _ (stub_asks attempt shards e b) q = absurd (true≢false (sym (ap (λ (v : Owner). v.started) q) ∙ b))

pub awaited_under : (c : Config) (at : Reading) → OwnerKeepsUnder c at Sound (λ s o. Sound s) Awaiting AtRest
awaited_under c at = record {
  fates = λ s m f g h. record { each = λ o. own_stays s.net (meets s.net m f) o (owner_at s o) (meets_asked s.net m f o) (h.each o) };
  shards = λ s m shard r d g h. record { each = awaiting_more s _ h };
  replicas = λ s m id replica r d g h.
      let o = (message_at s.net m).envelope.owner in
      let q = awaiting_more s _ h in
      record { each = set_each (OwnAwaited _) s.owners o _ (record { awaited = (q o).awaited; waiting = (q o).waiting; unstarted = (q o).unstarted; fixes = (q o).fixes }) q };
  again = again_awaited;
  stages = λ s t d g h. record { each = subst (λ (net : List Message). (i : ℕ) → OwnAwaited net i (owner_at t i)) (sym d.stores.net) (subst (λ (owners : List Owner). (i : ℕ) → OwnAwaited s.net i (get_or owners i no_owner)) (sym d.owned) h.each) };
  dies = λ s t n u d g h. awaiting_grow s t _ d.stores.net d.owned (opening_awaited s.net (length s.owners) n (kind.Stubbing u) false (no_works (stage_at s n).context) s.steps refl) h;
  begins = λ s t w b d g h. (awaiting_grow s t w d.stores.net d.owned (beginning_awaited c s w b) h, subst IsFree (sym (grown_there s t w d.owned)) (beginning_free c s w b));
  rests = λ s t o w i b d g h.
      let f = resting_free s.net s o w b (h.each o) in
      (awaiting_set s t o w d.stores.net d.owned (free_awaited s.net o w (resting_none s.net s o w b (h.each o)) f) h, subst IsFree (sym (set_there s t o w i d.owned)) f);
  settles = λ s o slot a shards outcome i e d g h. settles_rest s o slot a shards outcome i e d h;
  settled = λ s o g h. h.0;
  works = λ s t o w i b d g h.
      let f = working_free at s o w b h.1 in
      (awaiting_set s t o w d.stores.net d.owned (free_awaited s.net o w (λ slot m e. idle_current s.net o (owner_at s o) slot m (h.0.each o) h.1.idle (subst (λ (cs : List (Option ℕ)). get_or cs slot None ≡ Some m) (working_none at s o w b) e)) f) h.0, subst IsFree (sym (set_there s t o w i d.owned)) f);
  leaves = λ s t o w outs i b d g h.
      awaits_sends o w.session outs t (leaving_fits c at s o w outs b) (ap (λ (v : Owner). v.session) (set_there s t o w i d.owned))
      (awaiting_set s t o w d.stores.net d.owned (leaving_awaited c at s.net s o w outs b (h.0.each o) h.1) h.0);
  does = λ s t o w outs new b d g h. doing_sends s t o w outs new b d (awaiting_set s t o w d.stores.net d.owned (doing_awaited s o w outs new b (h.each o)) h);
}
  where
    beginning_awaited : (c : Config) (s : State) (w : Owner) → Beginning c s w → OwnAwaited s.net (length s.owners) w
    beginning_awaited c s _ (calls n x e) = opening_awaited s.net (length s.owners) n (kind.Calling x) true _ s.steps refl
    beginning_awaited c s _ (fences n) = opening_awaited s.net (length s.owners) n kind.Fencing true _ s.steps refl

    beginning_free : (c : Config) (s : State) (w : Owner) → Beginning c s w → IsFree w
    beginning_free c s _ (calls n x e) = record { idle = refl; begun = refl; awake = refl }
    beginning_free c s _ (fences n) = record { idle = refl; begun = refl; awake = refl }

    doing_sends : (s t : State) (o : ℕ) (w : Owner) (outs : List Out) (new : List Dep) → Doing s o w outs new → Changed new (set s.owners o w) s t → Awaiting t → Awaiting (sends t o outs)
    doing_sends s t o w outs new b d h = by_place (get_or_past s.owners o no_owner)
      where
        by_place : (o < length s.owners) ⊎ (owner_at s o ≡ no_owner) → Awaiting (sends t o outs)
        by_place (inl i) = awaits_sends o w.session outs t (doing_fits s o w outs new b) (ap (λ (v : Owner). v.session) (set_there s t o w i d.owned)) h
        by_place (inr e) = subst (λ (xs : List Out). Awaiting (sends t o xs)) (sym (nobody_sends s o w outs new b e)) h

awaited_step : (c : Config) (s : State) (step : Step) → refusal c s step ≡ None → Sound s × Awaiting s → Sound (stepped c s step) × Awaiting (stepped c s step)
awaited_step c s step r h =
    owner_walk c step.at (λ t. Sound t × Awaiting t) (λ t o. Sound t × AtRest t o) (stacked c step.at Sound (λ t o. Sound t) Awaiting AtRest (store_owner c step.at Sound sound_keeps) (awaited_under c step.at))
    (ticks s step.at) step.kind (passes c s step r).kind (record { first = h.0.first; sound = h.0.sound }, record { each = h.1.each })

pub awaited_start : (c : Config) → Awaiting (start c)
awaited_start c = record { each = each }
  where
    nobody : (net : List Message) (o : ℕ) → OwnAwaited net o no_owner
    nobody net o = record { awaited = λ slot m f. absurd (none_current slot m f); waiting = λ time f. refl; unstarted = λ f. (refl, refl); fixes = tt }

    each : (o : ℕ) → OwnAwaited (start c).net o (owner_at (start c) o)
    each zero = nobody (start c).net zero
    each (suc o) = nobody (start c).net (suc o)

both_run : (c : Config) (steps : List Step) (s : State) → run c steps ≡ Some s → Sound s × Awaiting s
both_run c steps s e = run_keeps c (λ t. Sound t × Awaiting t) (awaited_step c) (sound_start c, awaited_start c) steps s e

pub awaited_run : (c : Config) (steps : List Step) (s : State) → run c steps ≡ Some s → CurrentsAwaited s
awaited_run c steps s e = let h = (both_run c steps s e).1 in record { awaited = λ o slot m f. (h.each o).awaited slot m f }

-- a reply of an exchange that is asked in a round answers the round's own request
own_reply : (net : List Message) (o m slot : ℕ) (r : RegSession) (answer : Reply) → Exchanges net → 0 < m → m < length net → (message_at net m).body ≡ body.Reply answer → IsAsked net o r slot (message_at net m).envelope.exchange → IsOwnReply net o r slot answer
own_reply net o m slot r answer g z l b a =
    let q = g m z l in
    record {
      exchange = (message_at net m).envelope.exchange;
      asked = a;
      fits = subst (λ (t : Target). Fits t a.request answer) (q.target ∙ a.target) (q.fits a.request answer b a.says);
    }

pub own_run : (c : Config) (steps : List Step) (s : State) → run c steps ≡ Some s → RepliesAreOwn s
own_run c steps s e = record { own = own }
  where
    h : Sound s × Awaiting s
    h = both_run c steps s e

    asked : (x : Session) (o slot m : ℕ) (r : RegSession) → IsRound x r → IsAwaited s.net o x slot m → IsAsked s.net o r slot m
    asked x o slot m r (inl f) a = subst (λ (y : Session). IsAwaited s.net o y slot m) f a
    asked x o slot m r (inr f) a = subst (λ (y : Session). IsAwaited s.net o y slot m) f a

    own : (m o slot : ℕ) (r : RegSession) (answer : Reply) → 0 < m → m < length s.net → (message_at s.net m).envelope.owner ≡ o → (message_at s.net m).body ≡ body.Reply answer
        → slot_in (owner_at s o).currents (message_at s.net m).envelope.exchange ≡ Some slot → IsRound (owner_at s o).session r → IsOwnReply s.net o r slot answer
    own m o slot r answer z l y b k x =
        own_reply s.net o m slot r answer h.0.sound z l b
        (asked (session_at s o) o slot (message_at s.net m).envelope.exchange r x ((h.1.each o).awaited slot _ (slot_current (owner_at s o).currents (message_at s.net m).envelope.exchange slot k)))
