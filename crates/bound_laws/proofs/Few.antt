-- All that owners have sent is their due, in every run.
use Rattle.std.proofs.Common.{◌≡◌, ℕ, zero, suc, ◌<◌, ◌⊎◌, inl, inr, List, [], ◌∷◌, ◌++◌, length, get_or, Option, Some, None, refl, ap, sym, ◌∙◌, subst, arith}
use Rattle.std.proofs.Math.ListN.{set}
use Rattle.std.proofs.lemmas.Bool.{cases_eq}
use Rattle.truetime.specs.Reading.{Reading}
use Rattle.rss_names.specs.declared.attempt.Attempt.{Attempt}
use Rattle.rss_names.specs.declared.service.ServiceId.{ServiceId}
use Rattle.rss_names.specs.declared.service.Target.{Target}
use Rattle.rss_names.specs.declared.service.Target.TheVariants.{Replica}
use Rattle.causal_context.specs.declared.dep.Dep.{Dep}
use Rattle.pipeline_lang.specs.declared.config.Config.{Config}
use Rattle.rss_wire.specs.Messages.{message_at}
use Rattle.rss_wire.specs.declared.message.Message.{Message}
use Rattle.rss_wire.specs.declared.messages.Outcome.{Outcome}
use Rattle.rss_wire.specs.declared.messages.Request.{Request}
use Rattle.rss_tables.specs.Lines.{tells_decision}
use Rattle.rss_tables.specs.Losses.{one_more_lost}
use Rattle.rss_tables.specs.Outs.{Out}
use Rattle.rss_machine.specs.Effect.{stepped}
use Rattle.rss_machine.specs.Moves.{ticks, sends_one, sends, listens, plans_stub, counts_loss, serves_replica}
use Rattle.rss_machine.specs.Refusal.{refusal}
use Rattle.rss_machine.specs.Run.{run}
use Rattle.rss_machine.specs.State.{State, Owner, start, owner_at, no_owner}
use Rattle.rss_machine.specs.declared.session.Session.TheVariants as session
use Rattle.rss_machine.specs.declared.step.Step.{Step}
use Rattle.world_laws.proofs.Doings.{Changed, Beginning, calls, fences, Doing, listened}
use Rattle.world_laws.proofs.Looks.{looks, get_or_past}
use Rattle.world_laws.proofs.OwnerMoves.{sends_kept}
use Rattle.world_laws.proofs.Replies.{Sound, sound_keeps, sound_start}
use Rattle.world_laws.proofs.Runs.{passes, run_keeps}
use Rattle.world_laws.proofs.Sent.{decision_outs}
use Rattle.world_laws.proofs.SessionMoves.{session_at, IsAgain}
use Rattle.world_laws.proofs.Stacked.{stacked}
use Rattle.world_laws.proofs.StageMoves.{AnyState}
use Rattle.world_laws.proofs.StoreWalk.{store_owner}
use Rattle.reg_laws.proofs.Awaiting.{Awaiting, AtRest, set_each, grow_each, set_there, slot_current, none_current}
use Rattle.reg_laws.proofs.Awaits.{awaited_under, awaited_start, nobody_sends, beginning_idle}
use Rattle.bound_laws.specs.Counts.{own_requests, rounds_of}
use Rattle.bound_laws.proofs.Counting.{own_meets, own_answers, sends_own, sends_others}
use Rattle.bound_laws.proofs.Due.{Spared, Due, due_same, same_rounds, told_spared, resting_due, working_due, leaving_spared, again_spared, doing_spared}
use Rattle.bound_laws.proofs.Under.{StepKeepsUnder, stacked_steps}
use Rattle.bound_laws.proofs.Walk.{step_walk}

pub record Few (s : State) : Type 0 where
  pub each : (o : ℕ) → Due s.net o (owner_at s o)

-- the same count of requests
due_net : (net net' : List Message) (o : ℕ) (w : Owner) → ((service : ServiceId) (replica : ℕ) → own_requests o (Replica service replica) net' ≡ own_requests o (Replica service replica) net) → Due net o w → Due net' o w
due_net net net' o w f h = record {
  size = h.size;
  due = λ service replica l. let d = h.due service replica l in let e = f service replica in omega (arith, d, e);
}

few_set : (s t : State) (o : ℕ) (w : Owner) → t.net ≡ s.net → t.owners ≡ set s.owners o w → Due s.net o w → Few s → Few t
few_set s t o w e d q h = record { each = subst (λ (net : List Message). (i : ℕ) → Due net i (owner_at t i)) (sym e) (subst (λ (owners : List Owner). (i : ℕ) → Due s.net i (get_or owners i no_owner)) (sym d) (set_each (Due s.net) s.owners o w q h.each)) }

few_grow : (s t : State) (w : Owner) → t.net ≡ s.net → t.owners ≡ s.owners ++ w ∷ [] → w.losses ≡ no_owner.losses → w.session ≡ session.Idle → Few s → Few t
few_grow s t w e d a b h = record { each = subst (λ (net : List Message). (i : ℕ) → Due net i (owner_at t i)) (sym e) (subst (λ (owners : List Owner). (i : ℕ) → Due s.net i (get_or owners i no_owner)) (sym d) (grow_each (Due s.net) s.owners w fresh h.each)) }
  where
    past : (get_or s.owners (length s.owners) no_owner) ≡ no_owner
    past = by_place (get_or_past s.owners (length s.owners) no_owner)
      where
        by_place : (length s.owners < length s.owners) ⊎ (get_or s.owners (length s.owners) no_owner ≡ no_owner) → get_or s.owners (length s.owners) no_owner ≡ no_owner
        by_place (inl l) = absurd (omega (arith, l))
        by_place (inr p) = p

    fresh : Due s.net (length s.owners) w
    fresh = due_same s.net (length s.owners) no_owner w a b (subst (Due s.net (length s.owners)) past (h.each (length s.owners)))

-- requests that an owner can spare are sent
few_sends : (t : State) (o : ℕ) (outs : List Out) → ((i : ℕ) → (i ≡ o → ⊥) → Due t.net i (owner_at t i)) → Spared t.net o (owner_at t o) outs → Few (sends t o outs)
few_sends t o outs h q = record { each = λ i. subst (Due (sends t o outs).net i) (sym (sends_kept t o outs i)) (by_owner i (cases_eq i o)) }
  where
    by_owner : (i : ℕ) → (i ≡ o) ⊎ (i ≡ o → ⊥) → Due (sends t o outs).net i (record (owner_at t i) { currents = (owner_at (sends t o outs) i).currents })
    by_owner i (inl e) = subst (λ (n : ℕ). Due (sends t o outs).net n (record (owner_at t n) { currents = (owner_at (sends t o outs) n).currents })) (sym e) (record {
      size = q.size;
      due = λ service replica l. let d = q.due service replica l in let m = sends_own o (Replica service replica) outs t in omega (arith, d, m);
    })
    by_owner i (inr n) = let d = h i n in due_net t.net (sends t o outs).net i _ (λ service replica. sends_others i o (Replica service replica) outs t (λ e. n (sym e))) (record { size = d.size; due = d.due })

few_changed : (s t : State) (o : ℕ) (w : Owner) (outs : List Out) → o < length s.owners → t.net ≡ s.net → t.owners ≡ set s.owners o w → Spared s.net o w outs → Few s → Few (sends t o outs)
few_changed s t o w outs i e d q h = few_sends t o outs others (subst (λ (net : List Message). Spared net o (owner_at t o) outs) (sym e) (subst (λ (v : Owner). Spared s.net o v outs) (sym (set_there s t o w i d)) q))
  where
    stays : (i : ℕ) → (i ≡ o → ⊥) → get_or (set s.owners o w) i no_owner ≡ get_or s.owners i no_owner
    stays i n = grind (arith, looks, n)

    others : (i : ℕ) → (i ≡ o → ⊥) → Due t.net i (owner_at t i)
    others i n = subst (λ (net : List Message). Due net i (owner_at t i)) (sym e) (subst (λ (owners : List Owner). Due s.net i (get_or owners i no_owner)) (sym d) (subst (Due s.net i) (sym (stays i n)) (h.each i)))

few_does : (s t : State) (o : ℕ) (w : Owner) (outs : List Out) (new : List Dep) → Doing s o w outs new → Changed new (set s.owners o w) s t → Awaiting s → Few s → Few (sends t o outs)
few_does s t o w outs new b d g h = by_place (get_or_past s.owners o no_owner)
  where
    q : Spared s.net o w outs
    q = doing_spared s.net s o w outs new b (g.each o) (h.each o)

    by_place : (o < length s.owners) ⊎ (owner_at s o ≡ no_owner) → Few (sends t o outs)
    by_place (inl i) = few_changed s t o w outs i d.stores.net d.owned q h
    by_place (inr e) =
        let z = nobody_sends s o w outs new b e in
        subst (λ (xs : List Out). Few (sends t o xs)) (sym z) (few_set s t o w d.stores.net d.owned (subst (Spared s.net o w) z q) h)

-- a loss is counted, and its request sent again
few_again : (s : State) (o exchange slot : ℕ) (target : Target) (r : Request) → IsAgain (counts_loss s o target) o exchange slot target r → Few s → Few (sends_one (counts_loss s o target) o (record { slot = Some slot; target = target; request = r }))
few_again s o exchange slot target r d h = by_place (get_or_past s.owners o no_owner)
  where
    t : State
    t = counts_loss s o target

    w : Owner
    w = record (owner_at s o) { losses = one_more_lost (owner_at s o).losses target }

    nobody : owner_at s o ≡ no_owner → (owner_at t o).currents ≡ no_owner.currents
    nobody e = kept ∙ ap (λ (v : Owner). v.currents) e
      where
        kept : (owner_at t o).currents ≡ (owner_at s o).currents
        kept = grind (arith, looks)

    by_place : (o < length s.owners) ⊎ (owner_at s o ≡ no_owner) → Few (sends_one t o (record { slot = Some slot; target = target; request = r }))
    by_place (inl i) = few_changed s t o w (record { slot = Some slot; target = target; request = r } ∷ []) i refl refl (again_spared s.net o (owner_at s o) (Some slot) target r (h.each o)) h
    by_place (inr e) = absurd (none_current slot exchange (subst (λ (cs : List (Option ℕ)). get_or cs slot None ≡ Some exchange) (nobody e) (slot_current (owner_at t o).currents exchange slot d.current)))

-- a stub tells its decision and plans its works
few_settles : (s : State) (o slot : ℕ) (a : Attempt) (shards : List ℕ) (outcome : Outcome) → o < length s.owners → session_at s o ≡ session.Settling a shards → Few s → Few (plans_stub (sends (listens s o slot) o (tells_decision a outcome shards)) o)
few_settles s o slot a shards outcome i x h = few_set v (plans_stub v o) o _ refl refl (same_rounds v.net o (owner_at v o) _ refl (sym (ap rounds_of (told ∙ x))) (few.each o)) few
  where
    u : State
    u = listens s o slot

    v : State
    v = sends u o (tells_decision a outcome shards)

    few : Few v
    few = few_changed s u o (listened s o slot) (tells_decision a outcome shards) i refl refl (told_spared s.net o (owner_at s o) (listened s o slot) (tells_decision a outcome shards) refl refl (decision_outs a outcome shards) (h.each o)) h

    told : session_at v o ≡ session_at s o
    told = ap (λ (w : Owner). w.session) (sends_kept u o (tells_decision a outcome shards) o) ∙ ap (λ (w : Owner). w.session) (set_there s u o (listened s o slot) i refl)

few_net : (s t : State) → t.owners ≡ s.owners → ((o : ℕ) (service : ServiceId) (replica : ℕ) → own_requests o (Replica service replica) t.net ≡ own_requests o (Replica service replica) s.net) → Few s → Few t
few_net s t d f h = record { each = λ o. due_net s.net t.net o (owner_at t o) (f o) (subst (λ (owners : List Owner). Due s.net o (get_or owners o no_owner)) (sym d) (h.each o)) }

pub few_under : (c : Config) (at : Reading) → StepKeepsUnder c at AnyState (λ s. Sound s × Awaiting s) (λ s o. Sound s × AtRest s o) Few (λ s o. Few s)
few_under c at = record {
  counted = λ s n f. tt;
  fates = λ s m f g h. few_net s _ refl (λ o service replica. own_meets o (Replica service replica) s.net m f) h;
  shards = λ s m shard r d g h. few_net s _ refl (λ o service replica. own_answers o (Replica service replica) s.net m _) h;
  replicas = λ s m id replica r d g h.
      let o = (message_at s.net m).envelope.owner in
      let u = serves_replica s m id replica r in
      let k = few_net s u refl (λ i service place. own_answers i (Replica service place) s.net m _) h in
      few_set u _ o _ refl refl (due_same u.net o (owner_at u o) _ refl refl (k.each o)) k;
  again = λ s o exchange slot target r d g h. few_again s o exchange slot target r d h;
  stages = λ s t d g h. few_net s t d.owned (λ o service replica. ap (λ (net : List Message). own_requests o (Replica service replica) net) d.stores.net) h;
  dies = λ s t n u d g h. few_grow s t _ d.stores.net d.owned refl refl h;
  begins = λ s t w b f d g h. few_grow s t w d.stores.net d.owned (beginning_losses s w b) (beginning_idle c s w b) h;
  rests = λ s t o w i b d g h. few_set s t o w d.stores.net d.owned (resting_due s.net s o w b (g.1.each o) (h.each o)) h;
  settles = λ s o slot a shards outcome i e d g h. few_settles s o slot a shards outcome i e h;
  settled = λ s o g h. h;
  works = λ s t o w i b d g h. few_set s t o w d.stores.net d.owned (working_due s.net at s o w b g.1.1 (h.each o)) h;
  leaves = λ s t o w outs i b d g h. few_changed s t o w outs i d.stores.net d.owned (leaving_spared c at s.net s o w outs b g.1.1 (h.each o)) h;
  does = λ s t o w outs new b d g h. few_does s t o w outs new b d g.1 h;
}
  where
    beginning_losses : (s : State) (w : Owner) → Beginning c s w → w.losses ≡ no_owner.losses
    beginning_losses s _ (calls n x e) = refl
    beginning_losses s _ (fences n) = refl

all_step : (c : Config) (s : State) (step : Step) → refusal c s step ≡ None → (Sound s × Awaiting s) × Few s → (Sound (stepped c s step) × Awaiting (stepped c s step)) × Few (stepped c s step)
all_step c s step r h =
    step_walk c step.at AnyState (λ t. (Sound t × Awaiting t) × Few t) (λ t o. (Sound t × AtRest t o) × Few t)
    (stacked_steps c step.at AnyState (λ t. Sound t × Awaiting t) (λ t o. Sound t × AtRest t o) Few (λ t o. Few t) (stacked c step.at Sound (λ t o. Sound t) Awaiting AtRest (store_owner c step.at Sound sound_keeps) (awaited_under c step.at)) (few_under c step.at))
    (ticks s step.at) step.kind (passes c s step r).kind tt ((record { first = h.0.0.first; sound = h.0.0.sound }, record { each = h.0.1.each }), record { each = h.1.each })

few_start : (c : Config) → Few (start c)
few_start c = record { each = each }
  where
    nobody : (o : ℕ) → Due (start c).net o no_owner
    nobody o = record { size = refl; due = λ service replica l. omega arith }

    each : (o : ℕ) → Due (start c).net o (owner_at (start c) o)
    each zero = nobody zero
    each (suc o) = nobody (suc o)

pub few_run : (c : Config) (steps : List Step) (s : State) → run c steps ≡ Some s → Few s
few_run c steps s e = (run_keeps c (λ t. (Sound t × Awaiting t) × Few t) (all_step c) ((sound_start c, awaited_start c), few_start c) steps s e).1
