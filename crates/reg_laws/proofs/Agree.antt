-- What an owner has under way is of what it does, in every run.
use Rattle.std.proofs.Common.{Bool, true, false, if◌then◌else◌, ◌≡◌, ℕ, zero, suc, List, [], ◌∷◌, ◌++◌, get_or, Some, refl, ap, sym, ◌∙◌, subst}
use Rattle.std.proofs.Math.ListN.{set}
use Rattle.std.proofs.lemmas.Bool.{cond_both}
use Rattle.truetime.specs.Reading.{Reading}
use Rattle.rss_names.specs.declared.attempt.Attempt.{Attempt}
use Rattle.rss_names.specs.declared.service.ServiceId.{ServiceId}
use Rattle.rss_names.specs.declared.service.Target.TheVariants.{Replica}
use Rattle.rss_names.specs.Services.{same_service}
use Rattle.causal_context.specs.declared.dep.Dep.{Dep}
use Rattle.causal_context.specs.Deps.{deps_of}
use Rattle.pipeline_lang.specs.declared.config.Config.{Config}
use Rattle.rss_model.specs.declared.op.Op.{Op}
use Rattle.rss_wire.specs.Messages.{message_at}
use Rattle.rss_wire.specs.declared.messages.Outcome.{Outcome}
use Rattle.rss_wire.specs.declared.messages.Reply.{Reply}
use Rattle.rss_tables.specs.Lines.{tells_decision}
use Rattle.rss_tables.specs.Outs.{Out}
use Rattle.rss_tables.specs.RegisterSession.{RegSession, session_after, reached, reply_cell}
use Rattle.rss_tables.specs.Round.{hears, is_reached}
use Rattle.rss_tables.specs.declared.register_session.RegPhase.{RegPhase}
use Rattle.rss_tables.specs.declared.register_session.RegPhase.TheVariants as phase
use Rattle.rss_tables.specs.declared.register_session.RegWork.{RegWork}
use Rattle.rss_tables.specs.declared.register_session.RegWork.TheVariants as work
use Rattle.rss_machine.specs.Moves.{sends_one, sends, session_without, listens, plans_stub}
use Rattle.rss_machine.specs.Run.{run}
use Rattle.rss_machine.specs.Session.{Session}
use Rattle.rss_machine.specs.State.{State, Owner, start, owner_at, no_owner}
use Rattle.rss_machine.specs.declared.session.OwnerKind.TheVariants as kind
use Rattle.rss_machine.specs.declared.session.Session.TheVariants as session
use Rattle.rss_machine.specs.declared.step.Step.{Step}
use Rattle.world_laws.proofs.Doings.{Resting, plans, past, fixed, cleared, Working, owes_nothing, is_past, enters_own, Leaving, waits, fixes_work, fixes_own, asks_register, stamps_register, begins_snapshot, begins_txn, fence_done, stub_done, ShardTurning, txn_heard, txn_woken, txn_passed, snap_heard, snap_woken, Doing, listens_one, fix_hears, fix_reached, register_hears, register_stores, register_reached, read_ends, write_ends, txn_ends, snap_ends, counts_one, cuts_one, is_closed, forgets_all, turns, stub_asks}
use Rattle.world_laws.proofs.SessionMoves.{session_at}
use Rattle.world_laws.proofs.Replies.{Sound, sound_keeps, sound_start}
use Rattle.world_laws.proofs.Stacked.{OwnerKeepsUnder, stacked}
use Rattle.world_laws.proofs.StoreWalk.{store_owner}
use Rattle.rss_tables.specs.Outs.{slot_replica}
use Rattle.world_laws.proofs.Doings.{turned, listened}
use Rattle.world_laws.proofs.Properly.{after-stays}
use Rattle.rss_tables.specs.declared.fences.FenceWork.{FenceWork}
use Rattle.rss_tables.specs.declared.fences.FenceWork.TheVariants.{Fix}
use Rattle.rss_machine.specs.Session.{service_of}
use Rattle.world_laws.proofs.StackRuns.{IsKept, kept_run}
use Rattle.world_laws.proofs.Stacked.{under_more}
use Rattle.reg_laws.specs.Agree.{WorkAgrees, CallAgrees, FixPhase, FixAgrees, Agrees, AllAgree}
use Rattle.reg_laws.proofs.Awaiting.{Awaiting, AtRest, IsFree, set_each, grow_each}
use Rattle.reg_laws.proofs.Awaits.{beginning_idle, awaited_under, awaited_start}

abbrev Agreed : Owner → Type 0
Agreed w = Agrees w w.session

-- an owner with the same kind, works left and dependencies
same_agrees : (v w : Owner) (x : Session) → w.kind ≡ v.kind → w.works.left ≡ v.works.left → w.works.copy.deps ≡ v.works.copy.deps → Agrees v x → Agrees w x
same_agrees v w session.Idle a b d h = tt
same_agrees v w (session.Fixing r) a b d h = record {
  stores = h.stores ∙ ap (λ (deps : List Dep). work.Fix (deps_of r.service deps)) (sym d);
  first = λ id x rest e. h.first id x rest (sym b ∙ e);
  own = λ x e f. h.own x (sym b ∙ e) (sym a ∙ f);
  in_phase = h.in_phase;
}
same_agrees v w (session.Register r) a b d h = record { of_kind = subst (WorkAgrees r.work) (sym a) h.of_kind; done = b ∙ h.done; settled = d ∙ h.settled }
same_agrees v w (session.Transaction t) a b d h = record { reads = h.reads; guard = h.guard; writes = h.writes; of_kind = a ∙ h.of_kind }
same_agrees v w (session.Snapshot t) a b d h = record { keys = h.keys; of_kind = a ∙ h.of_kind }
same_agrees v w (session.Settling attempt shards) a b d h = a ∙ h

-- a register session with the same work
same_call : (v w : Owner) (f g : RegSession) → g.work ≡ f.work → w.kind ≡ v.kind → w.works.left ≡ v.works.left → w.works.copy.deps ≡ v.works.copy.deps → CallAgrees v f → CallAgrees w g
same_call v w f g e a b d h = record { of_kind = subst (λ (x : RegWork). WorkAgrees x w.kind) (sym e) (subst (WorkAgrees f.work) (sym a) h.of_kind); done = b ∙ h.done; settled = d ∙ h.settled }

same_fix : (v w : Owner) (f g : RegSession) → g.work ≡ f.work → g.service ≡ f.service → FixPhase g.phase → w.kind ≡ v.kind → w.works.left ≡ v.works.left → w.works.copy.deps ≡ v.works.copy.deps → FixAgrees v f → FixAgrees w g
same_fix v w f g e i p a b d h = record {
  stores = e ∙ (h.stores ∙ (ap (λ (deps : List Dep). work.Fix (deps_of f.service deps)) (sym d) ∙ ap (λ (id : ServiceId). work.Fix (deps_of id w.works.copy.deps)) (sym i)));
  first = λ id x rest k. i ∙ h.first id x rest (sym b ∙ k);
  own = λ x k l. i ∙ h.own x (sym b ∙ k) (sym a ∙ l);
  in_phase = p;
}

without_agrees : (v w : Owner) (x : Session) (id : ServiceId) (replica : ℕ) → w.kind ≡ v.kind → w.works.left ≡ v.works.left → w.works.copy.deps ≡ v.works.copy.deps → Agrees v x → Agrees w (session_without x (Replica id replica))
without_agrees v w (session.Fixing r) id replica a b d h = cond_both (same_service r.service id) _ r (FixAgrees w) (λ t. same_fix v w r _ refl refl h.in_phase a b d h) (λ t. same_fix v w r r refl refl h.in_phase a b d h)
without_agrees v w (session.Register r) id replica a b d h = cond_both (same_service r.service id) _ r (CallAgrees w) (λ t. same_call v w r _ refl a b d h) (λ t. same_call v w r r refl a b d h)
without_agrees v w session.Idle id replica a b d h = tt
without_agrees v w (session.Transaction t) id replica a b d h = same_agrees v w (session.Transaction t) a b d h
without_agrees v w (session.Snapshot t) id replica a b d h = same_agrees v w (session.Snapshot t) a b d h
without_agrees v w (session.Settling attempt shards) id replica a b d h = same_agrees v w (session.Settling attempt shards) a b d h

resting_agrees : (s : State) (o : ℕ) (w : Owner) → Resting s o w → Agreed w
resting_agrees s o _ (plans e b) = tt
resting_agrees s o _ (past id x rest time l e) = tt
resting_agrees s o _ (fixed id x rest r e l a b d) = tt
resting_agrees s o _ (cleared r e l a b d) = tt

working_agrees : (at : Reading) (s : State) (o : ℕ) (w : Owner) → Working at s o w → Agreed (owner_at s o) → Agreed w
working_agrees at s o _ (owes_nothing id rest l) h = tt
working_agrees at s o _ (is_past id time rest l e) h = tt
working_agrees at s o _ (enters_own x l e f) h = same_agrees (owner_at s o) _ (session_at s o) refl refl refl h

first_same : (id other : ServiceId) (x y : FenceWork) (rest others : List (ServiceId × FenceWork)) → (id, x) ∷ rest ≡ (other, y) ∷ others → id ≡ other
first_same id other x y rest others e = ap (λ (works : List (ServiceId × FenceWork)). (get_or works 0 (id, x)).0) e

nil_not_cons : (id : ServiceId) (x : FenceWork) (rest : List (ServiceId × FenceWork)) → [] ≡ (id, x) ∷ rest → ⊥
nil_not_cons id x rest e = cc

calling_same : (x y : Op) → kind.Calling x ≡ kind.Calling y → x ≡ y
calling_same x y e = cc

leaving_agrees : (c : Config) (at : Reading) (s : State) (o : ℕ) (w : Owner) (outs : List Out) → Leaving c at s o w outs → IsFree (owner_at s o) → Agreed (owner_at s o) → Agreed w
leaving_agrees c at s o _ _ (waits id time rest l) g h = same_agrees (owner_at s o) _ (session_at s o) refl refl refl h
leaving_agrees c at s o _ _ (fixes_work id rest l) g h = record {
  stores = refl;
  first = λ other x others e. first_same id other Fix x rest others (sym l ∙ e);
  own = λ x e f. absurd (nil_not_cons id Fix rest (sym e ∙ l));
  in_phase = tt;
}
leaving_agrees c at s o _ _ (fixes_own x dep deps l e d) g h = record {
  stores = refl;
  first = λ other y others k. absurd (nil_not_cons other y others (sym l ∙ k));
  own = λ y k f. ap service_of (calling_same x y (sym e ∙ f));
  in_phase = tt;
}
leaving_agrees c at s o _ _ (asks_register key l e d) g h = record { of_kind = e; done = l; settled = d }
leaving_agrees c at s o _ _ (stamps_register key value l e d) g h = record { of_kind = e; done = l; settled = d }
leaving_agrees c at s o _ _ (begins_snapshot keys t l e d) g h = record { keys = keys; of_kind = e }
leaving_agrees c at s o _ _ (begins_txn reads guard writes t l e d) g h = record { reads = reads; guard = guard; writes = writes; of_kind = e }
leaving_agrees c at s o _ _ (fence_done l e) g h = same_agrees (owner_at s o) _ (session_at s o) refl refl refl h
leaving_agrees c at s o w _ (stub_done u l e) g h = subst (Agrees w) (sym g.idle) tt

turning_agrees : (s : State) (o : ℕ) (x : Session) (outs : List Out) → ShardTurning s o x outs → Agreed (owner_at s o) → Agrees (turned s o x) x
turning_agrees s o _ _ (txn_heard t l at r e) h = let k = subst (Agrees (owner_at s o)) e h in record { reads = k.reads; guard = k.guard; writes = k.writes; of_kind = k.of_kind }
turning_agrees s o _ _ (txn_woken t l e) h = let k = subst (Agrees (owner_at s o)) e h in record { reads = k.reads; guard = k.guard; writes = k.writes; of_kind = k.of_kind }
turning_agrees s o _ _ (txn_passed t e) h = let k = subst (Agrees (owner_at s o)) e h in record { reads = k.reads; guard = k.guard; writes = k.writes; of_kind = k.of_kind }
turning_agrees s o _ _ (snap_heard t l r e) h = let k = subst (Agrees (owner_at s o)) e h in record { keys = k.keys; of_kind = k.of_kind }
turning_agrees s o _ _ (snap_woken t l e) h = let k = subst (Agrees (owner_at s o)) e h in record { keys = k.keys; of_kind = k.of_kind }

-- a round of dependencies stays in its phase, or is done
after_phase : (f : RegSession) (from : ℕ) (r : Reply) → FixPhase f.phase → FixPhase (session_after f from r).phase
after_phase f from r h = by_reach (is_reached (hears f.round from (reply_cell r))) f.phase refl h
  where
    g : RegSession
    g = record f { round = hears f.round from (reply_cell r) }

    by_reach : (t : Bool) (p : RegPhase) → f.phase ≡ p → FixPhase p → FixPhase (if t then reached g p else g).phase
    by_reach false p e k = h
    by_reach true phase.Fixing e k = tt
    by_reach true (phase.Done end) e k = h
    by_reach true phase.Asking e k = absurd k
    by_reach true phase.Stamping e k = absurd k
    by_reach true (phase.Storing stamp) e k = absurd k

fix_after_agrees : (s : State) (o : ℕ) (f : RegSession) (from : ℕ) (r : Reply) (w : Owner) → session_at s o ≡ session.Fixing f → w.kind ≡ (owner_at s o).kind → w.works.left ≡ (owner_at s o).works.left → w.works.copy.deps ≡ (owner_at s o).works.copy.deps → Agreed (owner_at s o) → FixAgrees w (session_after f from r)
fix_after_agrees s o f from r w x a b d h =
    let k = after-stays f from r in
    let g : FixAgrees (owner_at s o) f = subst (Agrees (owner_at s o)) x h in
    same_fix (owner_at s o) w f (session_after f from r) k.0 k.1 (after_phase f from r g.in_phase) a b d g

call_after_agrees : (s : State) (o : ℕ) (f : RegSession) (from : ℕ) (r : Reply) (w : Owner) → session_at s o ≡ session.Register f → w.kind ≡ (owner_at s o).kind → w.works.left ≡ (owner_at s o).works.left → w.works.copy.deps ≡ (owner_at s o).works.copy.deps → Agreed (owner_at s o) → CallAgrees w (session_after f from r)
call_after_agrees s o f from r w x a b d h = let k = after-stays f from r in same_call (owner_at s o) w f (session_after f from r) k.0 a b d (subst (Agrees (owner_at s o)) x h)

doing_agrees : (s : State) (o : ℕ) (w : Owner) (outs : List Out) (new : List Dep) → Doing s o w outs new → Agreed (owner_at s o) → Agreed w
doing_agrees s o _ _ _ (listens_one slot r d) h = same_agrees (owner_at s o) _ (session_at s o) refl refl refl h
doing_agrees s o _ _ _ (fix_hears f slot r x d e) h = fix_after_agrees s o f (slot_replica slot) r _ x refl refl refl h
doing_agrees s o _ _ _ (fix_reached f slot r y x d e) h = fix_after_agrees s o f (slot_replica slot) r _ x refl refl refl h
doing_agrees s o _ _ _ (register_hears f slot r x d a e) h = call_after_agrees s o f (slot_replica slot) r _ x refl refl refl h
doing_agrees s o _ _ _ (register_stores f slot r x d a e) h = call_after_agrees s o f (slot_replica slot) r _ x refl refl refl h
doing_agrees s o _ _ _ (register_reached f slot r y x d e) h = call_after_agrees s o f (slot_replica slot) r _ x refl refl refl h
doing_agrees s o _ _ _ (read_ends f key cell dep x a b) h = same_agrees (owner_at s o) _ (session_at s o) refl refl refl h
doing_agrees s o _ _ _ (write_ends f key value e x a b) h = same_agrees (owner_at s o) _ (session_at s o) refl refl refl h
doing_agrees s o _ _ _ (txn_ends y t time a b d) h = same_agrees (owner_at s o) _ (session_at s o) refl refl refl h
doing_agrees s o _ _ _ (snap_ends y t time a b d) h = same_agrees (owner_at s o) _ (session_at s o) refl refl refl h
doing_agrees s o _ _ _ (counts_one target) h = same_agrees (owner_at s o) _ (session_at s o) refl refl refl h
doing_agrees s o _ _ _ (cuts_one id replica) h = without_agrees (owner_at s o) _ (session_at s o) id replica refl refl refl h
doing_agrees s o _ _ _ (is_closed f) h = same_agrees (owner_at s o) _ (session_at s o) refl refl refl h
doing_agrees s o _ _ _ forgets_all h = same_agrees (owner_at s o) _ (session_at s o) refl refl refl h
doing_agrees s o _ _ _ (turns x outs y) h = turning_agrees s o x outs y h
doing_agrees s o _ _ _ (stub_asks attempt shards e b) h = e

agree_set : (s t : State) (o : ℕ) (w : Owner) → t.owners ≡ set s.owners o w → Agreed w → AllAgree s → AllAgree t
agree_set s t o w d v h = record { each = subst (λ (owners : List Owner). (i : ℕ) → Agreed (get_or owners i no_owner)) (sym d) (set_each (λ i x. Agreed x) s.owners o w v h.each) }

agree_grow : (s t : State) (w : Owner) → t.owners ≡ s.owners ++ w ∷ [] → w.session ≡ session.Idle → AllAgree s → AllAgree t
agree_grow s t w d e h = record { each = subst (λ (owners : List Owner). (i : ℕ) → Agreed (get_or owners i no_owner)) (sym d) (grow_each (λ i x. Agreed x) s.owners w (subst (Agrees w) (sym e) tt) h.each) }

agree_one : (o : ℕ) (s : State) (out : Out) → AllAgree s → AllAgree (sends_one s o out)
agree_one o s out h = record { each = set_each (λ i x. Agreed x) s.owners o _ (same_agrees (owner_at s o) _ (session_at s o) refl refl refl (h.each o)) h.each }

agree_sends : (o : ℕ) (outs : List Out) (s : State) → AllAgree s → AllAgree (sends s o outs)
agree_sends o [] s h = h
agree_sends o (out ∷ outs) s h = agree_sends o outs (sends_one s o out) (agree_one o s out h)

agree_settles : (s : State) (o slot : ℕ) (a : Attempt) (shards : List ℕ) (outcome : Outcome) → AllAgree s → AllAgree (plans_stub (sends (listens s o slot) o (tells_decision a outcome shards)) o)
agree_settles s o slot a shards outcome h =
    let u = listens s o slot in
    let v = sends u o (tells_decision a outcome shards) in
    let q : AllAgree u = agree_set s u o (listened s o slot) refl (same_agrees (owner_at s o) _ (session_at s o) refl refl refl (h.each o)) h in
    agree_set v (plans_stub v o) o _ refl tt (agree_sends o (tells_decision a outcome shards) u q)

pub agree_under : (c : Config) (at : Reading) → OwnerKeepsUnder c at Awaiting AtRest AllAgree (λ s o. AllAgree s)
agree_under c at = record {
  fates = λ s m f g h. record { each = h.each };
  shards = λ s m shard r d g h. record { each = h.each };
  replicas = λ s m id replica r d g h. record { each = set_each (λ i x. Agreed x) s.owners (message_at s.net m).envelope.owner _ (same_agrees (owner_at s (message_at s.net m).envelope.owner) _ (session_at s (message_at s.net m).envelope.owner) refl refl refl (h.each (message_at s.net m).envelope.owner)) h.each };
  again = λ s o exchange slot target r d g h. agree_one o s (record { slot = Some slot; target = target; request = r }) h;
  stages = λ s t d g h. record { each = subst (λ (owners : List Owner). (i : ℕ) → Agreed (get_or owners i no_owner)) (sym d.owned) h.each };
  dies = λ s t m u d g h. agree_grow s t _ d.owned refl h;
  begins = λ s t w b d g h. agree_grow s t w d.owned (beginning_idle c s w b) h;
  rests = λ s t o w i b d g h. agree_set s t o w d.owned (resting_agrees s o w b) h;
  settles = λ s o slot a shards outcome i e d g h. agree_settles s o slot a shards outcome h;
  settled = λ s o g h. h;
  works = λ s t o w i b d g h. agree_set s t o w d.owned (working_agrees at s o w b (h.each o)) h;
  leaves = λ s t o w outs i b d g h. agree_sends o outs t (agree_set s t o w d.owned (leaving_agrees c at s o w outs b g.1 (h.each o)) h);
  does = λ s t o w outs new b d g h. agree_sends o outs t (agree_set s t o w d.owned (doing_agrees s o w outs new b (h.each o)) h);
}

agree_kept : (c : Config) → IsKept c (λ s. (Sound s × Awaiting s) × AllAgree s) (λ s o. (Sound s × AtRest s o) × AllAgree s)
agree_kept c = record {
  keeps = λ at. stacked c at (λ s. Sound s × Awaiting s) (λ s o. Sound s × AtRest s o) AllAgree (λ s o. AllAgree s)
      (stacked c at Sound (λ s o. Sound s) Awaiting AtRest (store_owner c at Sound sound_keeps) (awaited_under c at))
      (under_more c at Awaiting (λ s. Sound s × Awaiting s) AtRest (λ s o. Sound s × AtRest s o) AllAgree (λ s o. AllAgree s) (λ s h. h.1) (λ s o h. h.1) (agree_under c at));
  ticked = λ s at h. ((record { first = h.0.0.first; sound = h.0.0.sound }, record { each = h.0.1.each }), record { each = h.1.each });
}

-- what owners have under way is of what they do, in every run
pub agree_run : (c : Config) (steps : List Step) (s : State) → run c steps ≡ Some s → AllAgree s
agree_run c steps s e = (kept_run c (λ s. (Sound s × Awaiting s) × AllAgree s) (λ s o. (Sound s × AtRest s o) × AllAgree s) (agree_kept c) ((sound_start c, awaited_start c), record { each = each }) steps s e).1
  where
    each : (o : ℕ) → Agreed (owner_at (start c) o)
    each zero = tt
    each (suc o) = tt
