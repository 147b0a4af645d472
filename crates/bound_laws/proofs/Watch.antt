-- A call that begins where its stage's context has no dependency sends no request that stores one, in every run.
use Rattle.std.proofs.Common.{◌≡◌, ℕ, ◌<◌, ◌≤◌, ◌⊎◌, inl, inr, Bool, true, false, List, [], ◌∷◌, ◌++◌, All, length, get_or, Option, Some, None, refl, ap, sym, ◌∙◌, subst, arith}
use Rattle.std.specs.Prelude.{if◌then◌else◌}
use Rattle.std.proofs.Math.ListN.{set, length-set}
use Rattle.std.proofs.lemmas.Bool.{cases_eq, true≢false}
use Rattle.std.proofs.lemmas.List.Elements.{All-cons, All-nil, All-head, All-tail}
use Rattle.truetime.specs.Reading.{Reading}
use Rattle.rss_names.specs.declared.attempt.Attempt.{Attempt}
use Rattle.rss_names.specs.declared.service.Target.{Target}
use Rattle.causal_context.specs.declared.dep.Dep.{Dep}
use Rattle.causal_context.specs.Seen.{Seen}
use Rattle.pipeline_lang.specs.declared.config.Config.{Config}
use Rattle.rss_wire.specs.Messages.{message_at}
use Rattle.rss_wire.specs.declared.message.Message.{Message}
use Rattle.rss_wire.specs.declared.messages.Outcome.{Outcome}
use Rattle.rss_wire.specs.declared.messages.Request.{Request}
use Rattle.rss_tables.specs.Lines.{tells_decision}
use Rattle.rss_tables.specs.Losses.{one_more_lost}
use Rattle.rss_tables.specs.Outs.{Out}
use Rattle.rss_tables.specs.Works.{planned, plan_all, no_works, others_than}
use Rattle.rss_machine.specs.Session.{service_of}
use Rattle.rss_machine.specs.Effect.{stepped}
use Rattle.rss_machine.specs.Marks.{is_store}
use Rattle.rss_machine.specs.Moves.{ticks, sends_one, sends, listens, plans_stub, counts_loss, counts_act, serves_replica, notes_served}
use Rattle.rss_machine.specs.Refusal.{refusal}
use Rattle.rss_machine.specs.State.{State, Owner, owner_at, no_owner, stage_at, opening_owner}
use Rattle.rss_machine.specs.declared.session.OwnerKind.TheVariants as kind
use Rattle.rss_machine.specs.declared.session.Session.TheVariants as session
use Rattle.rss_machine.specs.declared.step.Step.{Step}
use Rattle.world_laws.proofs.Doings.{Changed, Beginning, calls, fences, Doing, listened}
use Rattle.world_laws.proofs.Looks.{looks, get_or_set, get_or_past}
use Rattle.world_laws.proofs.OwnerMoves.{sends_kept, sends_long}
use Rattle.world_laws.proofs.Replies.{Sound, sound_keeps}
use Rattle.world_laws.proofs.Runs.{passes}
use Rattle.world_laws.proofs.Sent.{to_shard, IsTold, SessionOut, SentAll, sent_meets, sent_asks, sent_answers, decision_outs, leaving_outs, doing_outs}
use Rattle.world_laws.proofs.SessionMoves.{IsAgain}
use Rattle.world_laws.proofs.Stacked.{SentBefore, sent_before}
use Rattle.world_laws.proofs.StoreWalk.{store_owner}
use Rattle.reg_laws.proofs.Awaiting.{slot_current, none_current, set_there, grown_there}
use Rattle.reg_laws.proofs.Awaits.{nobody_sends}
use Rattle.bound_laws.specs.Counts.{stores_dependencies}
use Rattle.bound_laws.proofs.Clean.{Clean, IsOf, OfClean, Fine, plain_fences, resting_clean, working_clean, leaving_clean, doing_clean, resting_of, working_of, leaving_of, doing_of, outs_fine}
use Rattle.bound_laws.proofs.Under.{StepKeepsUnder, stacked_steps}
use Rattle.bound_laws.proofs.Walk.{step_walk}

-- a request of an owner to a replica stores no dependencies
abbrev pub Plain : ℕ → ℕ → Target → Request → Type 0
Plain o p target r = p ≡ o → to_shard target r ≡ false → stores_dependencies r ≡ false

-- an owner of a number, if it is a call or a fence statement of this stage, is clean and has sent none
pub record Ok (n o : ℕ) (net : List Message) (w : Owner) : Type 0 where
  pub clean : Clean w
  pub sent : SentAll (Plain o) net

-- it is still to begin, where `B` holds, or it is there, and is ok where `X` holds
pub data Watch (B X : Type 0) (n o : ℕ) (s : State) : Type 0 where
  before : B → length s.owners ≤ o → SentAll (Plain o) s.net → Watch B X n o s
  after : o < length s.owners → (X → IsOf n (owner_at s o) → Ok n o s.net (owner_at s o)) → Watch B X n o s

module _ (B X : Type 0) (n o : ℕ) where
  -- the net changes as it is said
  watch_net : (s t : State) → t.owners ≡ s.owners → (SentAll (Plain o) s.net → SentAll (Plain o) t.net) → Watch B X n o s → Watch B X n o t
  watch_net s t d f (before b e h) = before b (subst (λ (xs : List Owner). length xs ≤ o) (sym d) e) (f h)
  watch_net s t d f (after l h) = after (subst (λ (xs : List Owner). o < length xs) (sym d) l)
      (λ x. subst (λ (xs : List Owner). IsOf n (get_or xs o no_owner) → Ok n o t.net (get_or xs o no_owner)) (sym d) (λ q. let k = h x q in record { clean = k.clean; sent = f k.sent }))

  -- an owner changes
  watch_set : (s t : State) (p : ℕ) (w : Owner) → t.net ≡ s.net → t.owners ≡ set s.owners p w → (OfClean n (owner_at s p) → OfClean n w) → (IsOf n w → IsOf n (owner_at s p)) → Watch B X n o s → Watch B X n o t
  watch_set s t p w e d f g (before b k h) = before b (subst (λ (xs : List Owner). length xs ≤ o) (sym d) (subst (λ (j : ℕ). j ≤ o) (sym (length-set s.owners p w)) k)) (subst (SentAll (Plain o)) (sym e) h)
  watch_set s t p w e d f g (after l h) = after (subst (λ (xs : List Owner). o < length xs) (sym d) (subst (λ (k : ℕ). o < k) (sym (length-set s.owners p w)) l))
      (λ x. subst (λ (xs : List Owner). IsOf n (get_or xs o no_owner) → Ok n o t.net (get_or xs o no_owner)) (sym d) (subst (λ (net : List Message). IsOf n (get_or (set s.owners p w) o no_owner) → Ok n o net (get_or (set s.owners p w) o no_owner)) (sym e) (by_place x (get_or_set s.owners p w o no_owner))))
    where
      own : X → IsOf n w → o ≡ p → Ok n o s.net w
      own x q i =
          let k = h x (subst (λ (j : ℕ). IsOf n (owner_at s j)) (sym i) (g q)) in
          record { clean = f (λ q'. subst (λ (j : ℕ). Clean (owner_at s j)) i (h x (subst (λ (j : ℕ). IsOf n (owner_at s j)) (sym i) q')).clean) q; sent = k.sent }

      by_place : X → ((get_or (set s.owners p w) o no_owner ≡ w) × (o ≡ p) × (p < length s.owners)) ⊎ ((get_or (set s.owners p w) o no_owner ≡ get_or s.owners o no_owner) × ((o ≡ p → ⊥) ⊎ (length s.owners ≤ o))) → IsOf n (get_or (set s.owners p w) o no_owner) → Ok n o s.net (get_or (set s.owners p w) o no_owner)
      by_place x (inl i) q = subst (Ok n o s.net) (sym i.0) (own x (subst (IsOf n) i.0 q) i.1)
      by_place x (inr i) q = subst (Ok n o s.net) (sym i.0) (h x (subst (IsOf n) i.0 q))

  -- an owner is new
  watch_grow : (s t : State) (w : Owner) → t.net ≡ s.net → t.owners ≡ s.owners ++ w ∷ [] → (B → X → OfClean n w) → Watch B X n o s → Watch B X n o t
  watch_grow s t w e d f (before b k h) = by_number (cases_eq (length s.owners) o)
    where
      sent : SentAll (Plain o) t.net
      sent = subst (SentAll (Plain o)) (sym e) h

      by_number : (length s.owners ≡ o) ⊎ (length s.owners ≡ o → ⊥) → Watch B X n o t
      by_number (inl i) = after (subst (λ (xs : List Owner). o < length xs) (sym d) (grind (arith, looks, i)))
          (λ x q. let y : owner_at t o ≡ w = subst (λ (j : ℕ). owner_at t j ≡ w) i (grown_there s t w d) in
          record { clean = subst Clean (sym y) (f b x (subst (IsOf n) y q)); sent = sent })
      by_number (inr i) = before b (subst (λ (xs : List Owner). length xs ≤ o) (sym d) (grind (arith, looks, i, k))) sent
  watch_grow s t w e d f (after l h) = after (subst (λ (xs : List Owner). o < length xs) (sym d) (grind (arith, looks, l)))
      (λ x q. let k = h x (subst (IsOf n) stays q) in record { clean = subst Clean (sym stays) k.clean; sent = subst (SentAll (Plain o)) (sym e) k.sent })
    where
      kept : get_or (s.owners ++ w ∷ []) o no_owner ≡ get_or s.owners o no_owner
      kept = grind (arith, looks, l)

      stays : owner_at t o ≡ owner_at s o
      stays = ap (λ (xs : List Owner). get_or xs o no_owner) d ∙ kept

  -- requests are sent
  sent_sends : (p : ℕ) (outs : List Out) (t : State) → (p ≡ o → All Fine outs) → SentAll (Plain o) t.net → SentAll (Plain o) (sends t p outs).net
  sent_sends p [] t f h = h
  sent_sends p (out ∷ outs) t f h = sent_sends p outs (sends_one t p out) (λ e. All-tail Fine out outs (f e)) (sent_asks (Plain o) t.net p (owner_at t p).stage out.target out.request (λ e. All-head Fine out outs (f e)) h)

  watch_sends : (t : State) (p : ℕ) (outs : List Out) → p < length t.owners → (p ≡ o → Ok n o t.net (owner_at t p) → All Fine outs) → Watch B X n o t → Watch B X n o (sends t p outs)
  watch_sends t p outs i f (before b e h) = before b (subst (λ (j : ℕ). j ≤ o) (sym (sends_long t p outs)) e) (sent_sends p outs t (λ k. absurd (omega (arith, i, e, k))) h)
  watch_sends t p outs i f (after l h) = after (subst (λ (k : ℕ). o < k) (sym (sends_long t p outs)) l)
      (λ x. subst (λ (w : Owner). IsOf n w → Ok n o (sends t p outs).net w) (sym (sends_kept t p outs o)) (λ q.
      let k = h x (q.0, q.1) in
      record { clean = record { deps = k.clean.deps; works = k.clean.works; under_way = k.clean.under_way }; sent = sent_sends p outs t (λ e. f e (subst (λ (j : ℕ). Ok n o t.net (owner_at t j)) (sym e) k)) k.sent }))

  watch_changed : (s t : State) (p : ℕ) (w : Owner) (outs : List Out) → p < length s.owners → t.net ≡ s.net → t.owners ≡ set s.owners p w → (OfClean n (owner_at s p) → OfClean n w) → (IsOf n w → IsOf n (owner_at s p)) → All (SessionOut w.session) outs → Watch B X n o s → Watch B X n o (sends t p outs)
  watch_changed s t p w outs i e d f g a h =
      watch_sends t p outs (subst (λ (xs : List Owner). p < length xs) (sym d) (subst (λ (j : ℕ). p < j) (sym (length-set s.owners p w)) i))
      (λ y k. let c : Clean w = subst Clean (set_there s t p w i d) k.clean in outs_fine w.session outs c.under_way a) (watch_set s t p w e d f g h)

  watch_does : (s t : State) (p : ℕ) (w : Owner) (outs : List Out) (new : List Dep) → Doing s p w outs new → Changed new (set s.owners p w) s t → Watch B X n o s → Watch B X n o (sends t p outs)
  watch_does s t p w outs new b d h = by_place (get_or_past s.owners p no_owner)
    where
      by_place : (p < length s.owners) ⊎ (owner_at s p ≡ no_owner) → Watch B X n o (sends t p outs)
      by_place (inl i) = watch_changed s t p w outs i d.stores.net d.owned (doing_clean n s p w outs new b) (doing_of n s p w outs new b) (doing_outs s p w outs new b) h
      by_place (inr e) = subst (λ (xs : List Out). Watch B X n o (sends t p xs)) (sym (nobody_sends s p w outs new b e)) (watch_set s t p w d.stores.net d.owned (doing_clean n s p w outs new b) (doing_of n s p w outs new b) h)

  counted_clean : (s : State) (p : ℕ) (target : Target) → OfClean n (owner_at s p) → OfClean n (record (owner_at s p) { losses = one_more_lost (owner_at s p).losses target })
  counted_clean s p target g q = let h = g (q.0, q.1) in record { deps = h.deps; works = h.works; under_way = h.under_way }

  watch_again : (s : State) (p exchange slot : ℕ) (target : Target) (r : Request) → IsAgain (counts_loss s p target) p exchange slot target r → Sound s → Watch B X n o s → Watch B X n o (sends_one (counts_loss s p target) p (record { slot = Some slot; target = target; request = r }))
  watch_again s p exchange slot target r d g h = by_place (get_or_past s.owners p no_owner)
    where
      t : State
      t = counts_loss s p target

      w : Owner
      w = record (owner_at s p) { losses = one_more_lost (owner_at s p).losses target }

      b : SentBefore t p exchange target r
      b = sent_before t p exchange slot target r (record { first = g.first; sound = g.sound }) d

      fine : p ≡ o → Ok n o t.net (owner_at t p) → All Fine (record { slot = Some slot; target = target; request = r } ∷ [])
      fine e k = All-cons Fine _ [] (λ z. k.sent.each exchange r b.asked (b.owner ∙ e) (subst (λ (x : Target). to_shard x r ≡ false) (sym b.target_of) z)) (All-nil Fine)

      there : p < length s.owners → p < length t.owners
      there i = subst (λ (j : ℕ). p < j) (sym (length-set s.owners p w)) i

      nobody : owner_at s p ≡ no_owner → (owner_at t p).currents ≡ no_owner.currents
      nobody e = kept ∙ ap (λ (v : Owner). v.currents) e
        where
          kept : (owner_at t p).currents ≡ (owner_at s p).currents
          kept = grind (arith, looks)

      by_place : (p < length s.owners) ⊎ (owner_at s p ≡ no_owner) → Watch B X n o (sends_one t p (record { slot = Some slot; target = target; request = r }))
      by_place (inl i) = watch_sends t p (record { slot = Some slot; target = target; request = r } ∷ []) (there i) fine (watch_set s t p w refl refl (counted_clean s p target) (λ q. (q.0, q.1)) h)
      by_place (inr e) = absurd (none_current slot exchange (subst (λ (cs : List (Option ℕ)). get_or cs slot None ≡ Some exchange) (nobody e) (slot_current (owner_at t p).currents exchange slot d.current)))

  watch_settles : (s : State) (p slot : ℕ) (a : Attempt) (shards : List ℕ) (outcome : Outcome) → p < length s.owners → Watch B X n o s → Watch B X n o (plans_stub (sends (listens s p slot) p (tells_decision a outcome shards)) p)
  watch_settles s p slot a shards outcome i h = watch_set v (plans_stub v p) p _ refl refl planned_clean (λ q. (q.0, q.1)) told
    where
      u : State
      u = listens s p slot

      v : State
      v = sends u p (tells_decision a outcome shards)

      listened_clean : OfClean n (owner_at s p) → OfClean n (listened s p slot)
      listened_clean g q = let k = g (q.0, q.1) in record { deps = k.deps; works = k.works; under_way = k.under_way }

      told_fine : (outs : List Out) → All IsTold outs → All Fine outs
      told_fine [] y = All-nil Fine
      told_fine (out ∷ outs) y = All-cons Fine out outs (λ z. absurd (true≢false (sym (All-head IsTold out outs y).to ∙ z))) (told_fine outs (All-tail IsTold out outs y))

      told : Watch B X n o v
      told = watch_sends u p (tells_decision a outcome shards) (subst (λ (j : ℕ). p < j) (sym (length-set s.owners p (listened s p slot))) i)
          (λ e k. told_fine (tells_decision a outcome shards) (decision_outs a outcome shards)) (watch_set s u p (listened s p slot) refl refl listened_clean (λ q. (q.0, q.1)) h)

      planned_clean : OfClean n (owner_at v p) → OfClean n (record (owner_at v p) { started = true; session = session.Idle; works = planned (owner_at v p).works.copy (plan_all (owner_at v p).works.copy) })
      planned_clean g q = let k = g (q.0, q.1) in record { deps = k.deps; works = plain_fences (owner_at v p).works.copy (owner_at v p).works.copy.last.services k.deps; under_way = tt }

  served_clean : (s : State) (p : ℕ) (b : Bool) → OfClean n (owner_at s p) → OfClean n (record (owner_at s p) { stored = b })
  served_clean s p b g q = let h = g (q.0, q.1) in record { deps = h.deps; works = h.works; under_way = h.under_way }

  begin_clean : (c : Config) (s : State) (w : Owner) → Beginning c s w → (stage_at s n).context.deps ≡ [] → OfClean n w
  begin_clean c s _ (calls m x y) e q = let z = subst (λ (j : ℕ). (stage_at s j).context.deps ≡ []) (sym q.0) e in record { deps = z; works = plain_fences (stage_at s m).context (others_than (service_of x) (stage_at s m).context.last.services) z; under_way = tt }
  begin_clean c s _ (fences m) e q = let z = subst (λ (j : ℕ). (stage_at s j).context.deps ≡ []) (sym q.0) e in record { deps = z; works = plain_fences (stage_at s m).context (stage_at s m).context.last.services z; under_way = tt }

  stub_not : (m : ℕ) (u : Option (Attempt × List ℕ)) (seen : Seen) (at : ℕ) → OfClean n (opening_owner m (kind.Stubbing u) false (no_works seen) at)
  stub_not m u seen at q = absurd (true≢false q.1)

  pub watch_under : (c : Config) (at : Reading) (F : State → Type 0) → ((s : State) (m : ℕ) → F s → F (counts_act s m)) → (B → X → (s : State) → F s → (stage_at s n).context.deps ≡ []) → StepKeepsUnder c at F Sound (λ s p. Sound s) (Watch B X n o) (λ s p. Watch B X n o s)
  watch_under c at F k f = record {
    counted = k;
    fates = λ s m y g h. watch_net s _ refl (sent_meets (Plain o) s.net m y) h;
    shards = λ s m shard r d g h. watch_net s _ refl (sent_answers (Plain o) s.net m _) h;
    replicas = λ s m id replica r d g h.
        let p = (message_at s.net m).envelope.owner in
        let u = serves_replica s m id replica r in
        watch_set u (notes_served u p id r) p (record (owner_at u p) { stored = if is_store r then true else (owner_at u p).stored }) refl refl (served_clean u p _) (λ q. (q.0, q.1)) (watch_net s u refl (sent_answers (Plain o) s.net m _) h);
    again = λ s p exchange slot target r d g h. watch_again s p exchange slot target r d g h;
    stages = λ s t d g h. watch_net s t d.owned (λ y. subst (SentAll (Plain o)) (sym d.stores.net) y) h;
    dies = λ s t m u d g h. watch_grow s t _ d.stores.net d.owned (λ b x. stub_not m u (stage_at s m).context s.steps) h;
    begins = λ s t w y z d g h. watch_grow s t w d.stores.net d.owned (λ b x. begin_clean c s w y (f b x s z)) h;
    rests = λ s t p w i y d g h. watch_set s t p w d.stores.net d.owned (resting_clean n s p w y) (resting_of n s p w y) h;
    settles = λ s p slot a shards outcome i e d g h. watch_settles s p slot a shards outcome i h;
    settled = λ s p g h. h;
    works = λ s t p w i y d g h. watch_set s t p w d.stores.net d.owned (working_clean n at s p w y) (working_of n at s p w y) h;
    leaves = λ s t p w outs i y d g h. watch_changed s t p w outs i d.stores.net d.owned (leaving_clean n c at s p w outs y) (leaving_of n c at s p w outs y) (leaving_outs c at s p w outs y) h;
    does = λ s t p w outs new y d g h. watch_does s t p w outs new y d h;
  }

-- a step keeps it
pub watch_step : (B X : Type 0) (n o : ℕ) (c : Config) (F : State → Type 0) → ((s : State) (m : ℕ) → F s → F (counts_act s m)) → (B → X → (s : State) → F s → (stage_at s n).context.deps ≡ []) → (s : State) (step : Step) → refusal c s step ≡ None → F (ticks s step.at) → Sound s × Watch B X n o s → Sound (stepped c s step) × Watch B X n o (stepped c s step)
watch_step B X n o c F k f s step r y h =
    step_walk c step.at F (λ t. Sound t × Watch B X n o t) (λ t p. Sound t × Watch B X n o t)
    (stacked_steps c step.at F Sound (λ t p. Sound t) (Watch B X n o) (λ t p. Watch B X n o t) (store_owner c step.at Sound sound_keeps) (watch_under B X n o c step.at F k f))
    (ticks s step.at) step.kind (passes c s step r).kind y (record { first = h.0.first; sound = h.0.sound }, ticked h.1)
  where
    ticked : Watch B X n o s → Watch B X n o (ticks s step.at)
    ticked (before b e z) = before b e z
    ticked (after l z) = after l z
