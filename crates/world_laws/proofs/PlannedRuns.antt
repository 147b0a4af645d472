-- Works are planned, in every run: what an owner has left fits its copy.
use Rattle.std.proofs.Common.{◌≡◌, ℕ, zero, suc, true, false, List, [], ◌∷◌, ◌++◌, length, get_or, Some, None, refl, ap, sym, ◌∙◌, subst}
use Rattle.std.proofs.Math.ListN.{set}
use Rattle.truetime.specs.Reading.{Reading}
use Rattle.rss_names.specs.declared.attempt.Attempt.{Attempt}
use Rattle.rss_names.specs.declared.service.ServiceId.{ServiceId}
use Rattle.pipeline_lang.specs.declared.config.Config.{Config}
use Rattle.rss_model.specs.declared.op.Op.{Op}
use Rattle.rss_wire.specs.Messages.{message_at}
use Rattle.rss_wire.specs.declared.messages.Outcome.{Outcome}
use Rattle.rss_tables.specs.Lines.{tells_decision}
use Rattle.rss_tables.specs.Outs.{Out}
use Rattle.rss_machine.specs.Moves.{sends_one, sends, listens, plans_stub}
use Rattle.rss_machine.specs.Run.{run}
use Rattle.rss_machine.specs.State.{State, Owner, start, no_owner}
use Rattle.rss_machine.specs.declared.session.Session.TheVariants as session
use Rattle.rss_machine.specs.declared.step.Step.{Step}
use Rattle.world_laws.proofs.Doings.{Resting, plans, past, fixed, cleared, Working, owes_nothing, is_past, enters_own}
use Rattle.world_laws.proofs.SessionMoves.{session_at}
use Rattle.world_laws.proofs.Doings.{listened}
use Rattle.std.proofs.Common.{arith}
use Rattle.std.proofs.lemmas.Bool.{true≢false}
use Rattle.rss_tables.specs.Works.{planned, plan_all}
use Rattle.causal_context.specs.Services.{has_service}
use Rattle.rss_machine.specs.Session.{service_of}
use Rattle.rss_machine.specs.State.{owner_at}
use Rattle.rss_machine.specs.declared.session.OwnerKind.{OwnerKind}
use Rattle.rss_machine.specs.declared.session.OwnerKind.TheVariants as kind
use Rattle.world_laws.specs.Calls.{is_stub}
use Rattle.world_laws.specs.Planned.{called_service, is_settling, has_planned, WorksPlanned}
use Rattle.world_laws.proofs.Doings.{Beginning, calls, fences}
use Rattle.world_laws.proofs.OwnerMoves.{OwnerKeeps, sends_kept, sends_long}
use Rattle.rss_machine.specs.Moves.{serves_replica, notes_served}
use Rattle.world_laws.proofs.StackRuns.{IsKept, kept_run}
use Rattle.world_laws.proofs.Told.{each_set, each_grow}
use Rattle.world_laws.proofs.StagesOwned.{grown_new}
use Rattle.rss_names.specs.declared.service.ServiceId.{ServiceId}
use Rattle.world_laws.proofs.Looks.{looks}
use Rattle.std.proofs.lemmas.List.{get_or-set_same}
use Rattle.std.proofs.Common.{◌<◌}
use Rattle.world_laws.proofs.OwnerFits.{is_own}
use Rattle.world_laws.proofs.ToldLaws.{told_run}
use Rattle.world_laws.proofs.PlannedOwners.{OwnerPlanned, AllPlanned, Rested, plan_all_planned, done_planned, none_own, own_last, owner_same, new_planned, stub_none, begins_planned, works_there, resting_planned, working_planned, leaving_planned, doing_planned}

-- owners change
planned_set : (s t : State) (o : ℕ) (w : Owner) → t.owners ≡ set s.owners o w → OwnerPlanned w → AllPlanned s → AllPlanned t
planned_set s t o w e f h = subst (λ (owners : List Owner). (i : ℕ) → OwnerPlanned (get_or owners i no_owner)) (sym e) (each_set (λ i v. OwnerPlanned v) s.owners o w f h)

planned_grow : (s t : State) (w : Owner) → t.owners ≡ s.owners ++ w ∷ [] → OwnerPlanned w → AllPlanned s → AllPlanned t
planned_grow s t w e f h = subst (λ (owners : List Owner). (i : ℕ) → OwnerPlanned (get_or owners i no_owner)) (sym e) (each_grow (λ i v. OwnerPlanned v) s.owners w f h)

planned_one : (o : ℕ) (s : State) (out : Out) → AllPlanned s → AllPlanned (sends_one s o out)
planned_one o s out h = planned_set s (sends_one s o out) o _ refl (owner_same (owner_at s o) _ refl refl refl refl refl refl refl (h o)) h

planned_sends : (o : ℕ) (outs : List Out) (s : State) → AllPlanned s → AllPlanned (sends s o outs)
planned_sends o [] s h = h
planned_sends o (out ∷ outs) s h = planned_sends o outs (sends_one s o out) (planned_one o s out h)

-- with an owner at rest
pub record PlannedAt (s : State) (o : ℕ) : Type 0 where
  pub all : AllPlanned s
  pub flag : has_planned (owner_at s o).kind (owner_at s o).started (session_at s o) ≡ true
  pub settled : is_settling (session_at s o) ≡ false

planned_at : (s t : State) (o : ℕ) (w : Owner) → o < length s.owners → t.owners ≡ set s.owners o w → is_settling w.session ≡ false → Rested w → AllPlanned s → PlannedAt t o
planned_at s t o w i e z f h =
    let own : owner_at t o ≡ w = ap (λ (owners : List Owner). get_or owners o no_owner) e ∙ get_or-set_same s.owners o w no_owner i in
    record { all = planned_set s t o w e f.0 h; flag = ap (λ (v : Owner). has_planned v.kind v.started v.session) own ∙ f.1; settled = ap (λ (v : Owner). is_settling v.session) own ∙ z }

resting_settled : (s : State) (o : ℕ) (w : Owner) → Resting s o w → is_settling w.session ≡ false
resting_settled s o _ (plans e b) = refl
resting_settled s o _ (past id x rest time l e) = refl
resting_settled s o _ (fixed id x rest r e l a b d) = refl
resting_settled s o _ (cleared r e l a b d) = refl

working_settled : (at : Reading) (s : State) (o : ℕ) (w : Owner) → Working at s o w → is_settling (session_at s o) ≡ false → is_settling w.session ≡ false
working_settled at s o _ (owes_nothing id rest l) z = refl
working_settled at s o _ (is_past id time rest l e) z = refl
working_settled at s o _ (enters_own x l e f) z = z

settles_planned : (s : State) (o slot : ℕ) (a : Attempt) (shards : List ℕ) (outcome : Outcome) → o < length s.owners → session_at s o ≡ session.Settling a shards → AllPlanned s → PlannedAt (plans_stub (sends (listens s o slot) o (tells_decision a outcome shards)) o) o
settles_planned s o slot a shards outcome i x h = planned_at v t o w there refl refl (new_planned w refl flag (plan_all_planned (owner_at v o).works.copy (called_service (owner_at v o).kind) (stub_none (owner_at v o).kind stub)), flag) hv
  where
    u : State
    u = listens s o slot

    v : State
    v = sends u o (tells_decision a outcome shards)

    t : State
    t = plans_stub v o

    w : Owner
    w = record (owner_at v o) { started = true; session = session.Idle; works = planned (owner_at v o).works.copy (plan_all (owner_at v o).works.copy) }

    flag : has_planned w.kind w.started w.session ≡ true
    flag = works_there w refl refl

    hu : AllPlanned u
    hu = planned_set s u o (listened s o slot) refl (owner_same (owner_at s o) (listened s o slot) refl refl refl refl refl refl refl (h o)) h

    hv : AllPlanned v
    hv = planned_sends o (tells_decision a outcome shards) u hu

    listened_kind : (owner_at u o).kind ≡ (owner_at s o).kind
    listened_kind = grind (arith, looks)

    stub : is_stub (owner_at v o).kind ≡ true
    stub = ap (λ (y : Owner). is_stub y.kind) (sends_kept u o (tells_decision a outcome shards) o) ∙ (ap is_stub listened_kind ∙ (h o).settling (ap is_settling x))

    listened_long : length u.owners ≡ length s.owners
    listened_long = grind (arith, looks)

    there : o < length v.owners
    there = let k = sends_long u o (tells_decision a outcome shards) in let m = listened_long in omega (arith, i, k, m)

pub planned_keeps : (c : Config) (at : Reading) → OwnerKeeps c at AllPlanned PlannedAt
planned_keeps c at = record {
  shards = λ s m shard r d h. h;
  replicas = λ s m id replica r d h. planned_set s (notes_served (serves_replica s m id replica r) (message_at s.net m).envelope.owner id r) (message_at s.net m).envelope.owner _ refl (owner_same (owner_at s (message_at s.net m).envelope.owner) _ refl refl refl refl refl refl refl (h (message_at s.net m).envelope.owner)) h;
  moves = record {
    fates = λ s m f h. h;
    again = λ s o exchange slot target r d h. planned_one o s (record { slot = Some slot; target = target; request = r }) h;
    stages = λ s t d h. subst (λ (owners : List Owner). (i : ℕ) → OwnerPlanned (get_or owners i no_owner)) (sym d.owned) h;
    dies = λ s t n u d h. planned_grow s t _ d.owned (record { works = λ f. absurd (true≢false (sym f)); settling = λ f. absurd (true≢false (sym f)); unplanned = λ f. (refl, refl) }) h;
    begins = λ s t w b d h.
        let k = begins_planned c s w b in
        let own : owner_at t (length s.owners) ≡ w = grown_new s t w d.owned in
        record { all = planned_grow s t w d.owned k.0 h; flag = ap (λ (v : Owner). has_planned v.kind v.started v.session) own ∙ k.1; settled = ap (λ (v : Owner). is_settling v.session) own ∙ begins_settled c s w b };
    rests = λ s t o w i b d h. planned_at s t o w i d.owned (resting_settled s o w b) (resting_planned s o w b (h o)) h;
    settles = λ s o slot a shards outcome i e d h. settles_planned s o slot a shards outcome i e h;
    settled = λ s o h. h.all;
    works = λ s t o w i b d h. planned_at s t o w i d.owned (working_settled at s o w b h.settled) (working_planned at s o w b (h.all o, h.flag) h.settled) h.all;
    leaves = λ s t o w outs i b d h. planned_sends o outs t (planned_set s t o w d.owned (leaving_planned c at s o w outs b (h.all o, h.flag) h.settled) h.all);
    does = λ s t o w outs new b d h. planned_sends o outs t (planned_set s t o w d.owned (doing_planned s o w outs new b (h o)) h);
  };
}
  where
    begins_settled : (c : Config) (s : State) (w : Owner) → Beginning c s w → is_settling w.session ≡ false
    begins_settled c s _ (calls n x e) = refl
    begins_settled c s _ (fences n) = refl

planned_kept : (c : Config) → IsKept c AllPlanned PlannedAt
planned_kept c = record { keeps = planned_keeps c; ticked = λ s at h. h }

-- works are planned
pub planned_all : (c : Config) (steps : List Step) (s : State) → run c steps ≡ Some s → AllPlanned s
planned_all c steps s e = kept_run c AllPlanned PlannedAt (planned_kept c) each steps s e
  where
    nobody : OwnerPlanned no_owner
    nobody = new_planned no_owner refl refl (done_planned None no_owner.works refl (λ id i. absurd (true≢false (sym i))) (λ id i j. absurd (none_own id i)))

    each : (o : ℕ) → OwnerPlanned (owner_at (start c) o)
    each zero = nobody
    each (suc o) = nobody

pub planned_run : (c : Config) (steps : List Step) (s : State) → run c steps ≡ Some s → WorksPlanned s
planned_run c steps s e = record {
  each = λ o. (all o).works;
  own = λ o x r k y. alone o x k (ap is_own y);
  alone = alone;
}
  where
    same_own : (a b : ServiceId) → Some a ≡ Some b → a ≡ b
    same_own a b e = cc

    nobody : OwnerPlanned no_owner
    nobody = new_planned no_owner refl refl (done_planned None no_owner.works refl (λ id i. absurd (true≢false (sym i))) (λ id i j. absurd (none_own id i)))

    each : (o : ℕ) → OwnerPlanned (owner_at (start c) o)
    each zero = nobody
    each (suc o) = nobody

    all : AllPlanned s
    all = kept_run c AllPlanned PlannedAt (planned_kept c) each steps s e

    alone : (o : ℕ) (x : Op) → (owner_at s o).kind ≡ kind.Calling x → is_own (session_at s o) ≡ true → ((owner_at s o).works.left ≡ []) × ((id : ServiceId) → has_service (owner_at s o).works.copy.last.services id ≡ true → service_of x ≡ id)
    alone o x k y =
        let left : (owner_at s o).works.left ≡ [] = ((told_run c steps s e).told.fits o).done y in
        let p = (all o).works (ap (λ (z : OwnerKind). has_planned z (owner_at s o).started (session_at s o)) k) in
        (left, λ id f. same_own (service_of x) id (ap called_service (sym k) ∙ own_last (called_service (owner_at s o).kind) (owner_at s o).works left p id f))
