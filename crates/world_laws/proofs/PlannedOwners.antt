-- Works are planned, by the reasons of the rows: what an owner has left fits its copy.
use Rattle.std.proofs.Common.{◌≡◌, ℕ, Bool, true, false, List, [], ◌∷◌, length, Option, Some, None, refl, ap, sym, ◌∙◌, subst}
use Rattle.truetime.specs.Reading.{Reading}
use Rattle.rss_names.specs.declared.service.ServiceId.{ServiceId}
use Rattle.rss_names.specs.declared.service.Target.TheVariants.{Replica}
use Rattle.rss_names.specs.Services.{same_service}
use Rattle.causal_context.specs.declared.dep.Dep.{Dep}
use Rattle.pipeline_lang.specs.declared.config.Config.{Config}
use Rattle.rss_tables.specs.Outs.{Out}
use Rattle.rss_machine.specs.Moves.{session_without}
use Rattle.rss_machine.specs.Session.{Session}
use Rattle.rss_machine.specs.State.{State, Owner}
use Rattle.rss_machine.specs.declared.session.Session.TheVariants as session
use Rattle.world_laws.proofs.Doings.{Resting, plans, past, fixed, cleared, Working, owes_nothing, is_past, enters_own, Leaving, waits, fixes_work, fixes_own, asks_register, stamps_register, begins_snapshot, begins_txn, fence_done, stub_done, ShardTurning, txn_heard, txn_woken, txn_passed, snap_heard, snap_woken, Doing, listens_one, fix_hears, fix_reached, register_hears, register_stores, register_reached, read_ends, write_ends, txn_ends, snap_ends, counts_one, cuts_one, is_closed, forgets_all, turns, stub_asks}
use Rattle.world_laws.proofs.SessionMoves.{session_at}
use Rattle.std.specs.Prelude.{◌==◌}
use Rattle.std.proofs.Common.{◌⊎◌, inl, inr, All, drop}
use Rattle.std.proofs.lemmas.Bool.{true≢false}
use Rattle.std.proofs.lemmas.List.Elements.{All-nil}
use Rattle.std.specs.Prelude.{◌||◌, ◌&&◌, not}
use Rattle.causal_context.specs.Seen.{Seen, after_fence}
use Rattle.causal_context.specs.Services.{has_service}
use Rattle.rss_tables.specs.Works.{Works, planned, plan_for, plan_all, others_than, fences_of}
use Rattle.rss_tables.specs.declared.fences.FenceWork.{FenceWork}
use Rattle.rss_machine.specs.Session.{service_of}
use Rattle.rss_machine.specs.State.{owner_at, stage_at}
use Rattle.rss_machine.specs.declared.session.OwnerKind.{OwnerKind}
use Rattle.rss_machine.specs.declared.session.OwnerKind.TheVariants as kind
use Rattle.world_laws.specs.Calls.{is_stub}
use Rattle.world_laws.specs.Planned.{has_work, ArePlanned, called_service, is_settling, has_planned}
use Rattle.world_laws.proofs.Doings.{Beginning, calls, fences}
use Rattle.world_laws.proofs.Marked.{same_service_is}
use Rattle.world_laws.proofs.Doings.{fence_ended}
use Rattle.world_laws.proofs.Plans.{Fitting, fences_have, others_have, others_not_own, without_has, rest_has, rest_has_not, fences_fit, all_fenced, fits_rest, no_others}
use Rattle.rss_names.specs.declared.service.ServiceId.{ServiceId}

-- works with the same copy, works left and entry
planned_same : (own : Option ServiceId) (v w : Works) → w.copy ≡ v.copy → w.left ≡ v.left → w.enter ≡ v.enter → ArePlanned own v → ArePlanned own w
planned_same own v w a b d h = record {
  last = λ id e. by_way id (h.last id (ap (λ (x : Seen). has_service x.last.services id) (sym a) ∙ e));
  fits = subst (All (Fitting w.copy)) (sym b) (subst (λ (x : Seen). All (Fitting x) v.left) (sym a) h.fits);
  apart = λ id e. ap (λ (x : List (ServiceId × FenceWork)). has_work x id) b ∙ h.apart id e;
  inside = λ id e f. let k = h.inside id e (sym d ∙ f) in (b ∙ k.0, ap (λ (x : Seen). x.last.outside) a ∙ k.1);
}
  where
    by_way : (id : ServiceId) → (own ≡ Some id) ⊎ (has_work v.left id ≡ true) → (own ≡ Some id) ⊎ (has_work w.left id ≡ true)
    by_way id (inl k) = inl k
    by_way id (inr k) = inr (ap (λ (x : List (ServiceId × FenceWork)). has_work x id) b ∙ k)

-- a plan for a call, and one for all
both_false : (a b : Bool) → (a || b) ≡ false → (a ≡ false) × (b ≡ false)
both_false true b e = absurd (true≢false e)
both_false false b e = (refl, e)

not_false : (a : Bool) → not a ≡ false → a ≡ true
not_false true e = refl
not_false false e = absurd (true≢false e)

some_own : (a b : ServiceId) → Some a ≡ Some b → a ≡ b
some_own a b e = cc

pub none_own : (b : ServiceId) → None ≡ Some b → ⊥
none_own b e = cc

plan_for_planned : (seen : Seen) (own : ServiceId) → ArePlanned (Some own) (planned seen (plan_for seen own))
plan_for_planned seen own = record {
  last = λ id e. by_way id (others_have own seen.last.services id e);
  fits = fences_fit seen (others_than own seen.last.services);
  apart = λ id e. fences_have seen (others_than own seen.last.services) id ∙ (ap (λ (x : ServiceId). has_service (others_than own seen.last.services) x) (sym (some_own own id e)) ∙ others_not_own own seen.last.services);
  inside = λ id e f. let k = both_false seen.last.outside (not (length (others_than own seen.last.services) == 0)) f in (ap (λ (x : List ServiceId). fences_of seen x) (no_others (others_than own seen.last.services) (not_false (length (others_than own seen.last.services) == 0) k.1)), k.0);
}
  where
    by_way : (id : ServiceId) → (own ≡ id) ⊎ (has_service (others_than own seen.last.services) id ≡ true) → (Some own ≡ Some id) ⊎ (has_work (fences_of seen (others_than own seen.last.services)) id ≡ true)
    by_way id (inl k) = inl (ap (λ (x : ServiceId). Some x) k)
    by_way id (inr k) = inr (fences_have seen (others_than own seen.last.services) id ∙ k)

pub plan_all_planned : (seen : Seen) (own : Option ServiceId) → own ≡ None → ArePlanned own (planned seen (plan_all seen))
plan_all_planned seen own n = record {
  last = λ id e. inr (fences_have seen seen.last.services id ∙ e);
  fits = fences_fit seen seen.last.services;
  apart = λ id e. absurd (none_own id (sym n ∙ e));
  inside = λ id e f. absurd (none_own id (sym n ∙ e));
}

-- behind the fence of the first work
cons_not_nil : (x : ServiceId × FenceWork) (rest : List (ServiceId × FenceWork)) → x ∷ rest ≡ [] → ⊥
cons_not_nil x rest e = cc

fence_planned : (own : Option ServiceId) (w : Works) (id : ServiceId) (x : FenceWork) (rest : List (ServiceId × FenceWork)) → w.left ≡ (id, x) ∷ rest → ArePlanned own w → ArePlanned own (record w { copy = after_fence w.copy id; left = drop 1 w.left; wait = None })
fence_planned own w id x rest l h = record {
  last = λ other e. let k = without_has id w.copy.last.services other e in by_way other k.1 (h.last other k.0);
  fits = subst (All (Fitting (after_fence w.copy id))) (sym left) (all_fenced w.copy id rest (fits_rest w.copy (id, x) rest (subst (All (Fitting w.copy)) l h.fits)));
  apart = λ other e. ap (λ (y : List (ServiceId × FenceWork)). has_work y other) left ∙ rest_has_not id other x rest (ap (λ (y : List (ServiceId × FenceWork)). has_work y other) (sym l) ∙ h.apart other e);
  inside = λ other e f. absurd (cons_not_nil (id, x) rest (sym l ∙ (h.inside other e f).0));
}
  where
    left : drop 1 w.left ≡ rest
    left = ap (λ (y : List (ServiceId × FenceWork)). drop 1 y) l

    by_way : (other : ServiceId) → same_service id other ≡ false → (own ≡ Some other) ⊎ (has_work w.left other ≡ true) → (own ≡ Some other) ⊎ (has_work (drop 1 w.left) other ≡ true)
    by_way other e (inl k) = inl k
    by_way other e (inr k) = inr (ap (λ (y : List (ServiceId × FenceWork)). has_work y other) left ∙ rest_has id other x rest e (ap (λ (y : List (ServiceId × FenceWork)). has_work y other) (sym l) ∙ k))

-- where none are left
pub done_planned : (own : Option ServiceId) (w : Works) → w.left ≡ [] → ((id : ServiceId) → has_service w.copy.last.services id ≡ true → own ≡ Some id) → ((id : ServiceId) → own ≡ Some id → w.enter ≡ false → w.copy.last.outside ≡ false) → ArePlanned own w
done_planned own w l f g = record {
  last = λ id e. inl (f id e);
  fits = subst (All (Fitting w.copy)) (sym l) (All-nil (Fitting w.copy));
  apart = λ id e. ap (λ (y : List (ServiceId × FenceWork)). has_work y id) l;
  inside = λ id e h. (l, g id e h);
}

pub own_last : (own : Option ServiceId) (w : Works) → w.left ≡ [] → ArePlanned own w → (id : ServiceId) → has_service w.copy.last.services id ≡ true → own ≡ Some id
own_last own w l h id e = by_way (h.last id e)
  where
    by_way : (own ≡ Some id) ⊎ (has_work w.left id ≡ true) → own ≡ Some id
    by_way (inl k) = k
    by_way (inr k) = absurd (true≢false (sym k ∙ ap (λ (y : List (ServiceId × FenceWork)). has_work y id) l))

-- whether a round of dependencies is under way
abbrev pub is_fixing : Session → Bool
is_fixing session.Idle = false
is_fixing (session.Fixing r) = true
is_fixing (session.Register r) = false
is_fixing (session.Transaction t) = false
is_fixing (session.Snapshot t) = false
is_fixing (session.Settling attempt shards) = false

-- what is kept of an owner
pub record OwnerPlanned (w : Owner) : Type 0 where
  pub works : has_planned w.kind w.started w.session ≡ true → ArePlanned (called_service w.kind) w.works
  pub settling : is_settling w.session ≡ true → is_stub w.kind ≡ true
  pub unplanned : has_planned w.kind w.started w.session ≡ false → (w.works.left ≡ []) × (is_fixing w.session ≡ false)

abbrev pub AllPlanned : State → Type 0
AllPlanned s = (o : ℕ) → OwnerPlanned (owner_at s o)

-- an owner that keeps its works
pub owner_same : (v w : Owner) → w.kind ≡ v.kind → w.started ≡ v.started → is_settling w.session ≡ is_settling v.session → is_fixing w.session ≡ is_fixing v.session → w.works.copy ≡ v.works.copy → w.works.left ≡ v.works.left → w.works.enter ≡ v.works.enter → OwnerPlanned v → OwnerPlanned w
owner_same v w k st se fi a b d h = record {
  works = λ e. planned_same (called_service w.kind) v.works w.works a b d (subst (λ (x : OwnerKind). ArePlanned (called_service x) v.works) (sym k) (h.works (flags ∙ e)));
  settling = λ e. ap is_stub k ∙ h.settling (sym se ∙ e);
  unplanned = λ e. let u = h.unplanned (flags ∙ e) in (b ∙ u.0, fi ∙ u.1);
}
  where
    by_settling : (x : OwnerKind) (a : Bool) (y z : Session) → is_settling y ≡ is_settling z → has_planned x a y ≡ has_planned x a z
    by_settling (kind.Calling x) a y z e = refl
    by_settling kind.Fencing a y z e = refl
    by_settling (kind.Stubbing u) a y z e = ap (λ (b : Bool). a && not b) e

    flags : has_planned v.kind v.started v.session ≡ has_planned w.kind w.started w.session
    flags = by_settling v.kind v.started v.session w.session (sym se) ∙ (ap (λ (b : Bool). has_planned v.kind b w.session) (sym st) ∙ ap (λ (x : OwnerKind). has_planned x w.started w.session) (sym k))

-- an owner at rest, whose works are planned
pub new_planned : (w : Owner) → is_settling w.session ≡ false → has_planned w.kind w.started w.session ≡ true → ArePlanned (called_service w.kind) w.works → OwnerPlanned w
new_planned w e g h = record { works = λ f. h; settling = λ f. absurd (true≢false (sym f ∙ e)); unplanned = λ f. absurd (true≢false (sym g ∙ f)) }

no_stub_settles : (w : Owner) → is_settling w.session ≡ true → is_stub w.kind ≡ true → has_planned w.kind w.started w.session ≡ true → ⊥
no_stub_settles w e k h = by_kind w.kind k h
  where
    by_kind : (x : OwnerKind) → is_stub x ≡ true → has_planned x w.started w.session ≡ true → ⊥
    by_kind (kind.Calling x) k h = true≢false (sym k)
    by_kind kind.Fencing k h = true≢false (sym k)
    by_kind (kind.Stubbing u) k h = by_started w.started (ap (λ (b : Bool). w.started && not b) (sym e) ∙ h)
      where
        by_started : (a : Bool) → (a && false) ≡ true → ⊥
        by_started true f = true≢false (sym f)
        by_started false f = true≢false (sym f)

pub stub_none : (k : OwnerKind) → is_stub k ≡ true → called_service k ≡ None
stub_none (kind.Calling x) e = absurd (true≢false (sym e))
stub_none kind.Fencing e = refl
stub_none (kind.Stubbing u) e = refl

pub begins_planned : (c : Config) (s : State) (w : Owner) → Beginning c s w → OwnerPlanned w × (has_planned w.kind w.started w.session ≡ true)
begins_planned c s w (calls n x e) = (new_planned w refl refl (plan_for_planned (stage_at s n).context (service_of x)), refl)
begins_planned c s w (fences n) = (new_planned w refl refl (plan_all_planned (stage_at s n).context None refl), refl)

not_settling : (x : Session) (y : Session) → x ≡ y → is_settling y ≡ false → is_settling x ≡ false
not_settling x y e f = ap is_settling e ∙ f

-- whether works were planned where an owner with nothing of its stage left to settle is at work
pub works_there : (v : Owner) → is_settling v.session ≡ false → v.started ≡ true → has_planned v.kind v.started v.session ≡ true
works_there v e f = by_kind v.kind
  where
    by_kind : (x : OwnerKind) → has_planned x v.started v.session ≡ true
    by_kind (kind.Calling x) = refl
    by_kind kind.Fencing = refl
    by_kind (kind.Stubbing u) = ap (λ (b : Bool). b && not (is_settling v.session)) f ∙ ap (λ (b : Bool). not b) e

-- an owner whose works are planned stays so where it has nothing of its stage to settle
still_planned : (v w : Owner) → w.kind ≡ v.kind → w.started ≡ v.started → is_settling w.session ≡ false → has_planned v.kind v.started v.session ≡ true → has_planned w.kind w.started w.session ≡ true
still_planned v w k st e f = ap (λ (x : OwnerKind). has_planned x w.started w.session) k ∙ (ap (λ (b : Bool). has_planned v.kind b w.session) st ∙ by_kind v.kind f)
  where
    both_true : (a b : Bool) → (a && b) ≡ true → a ≡ true
    both_true true b e = refl
    both_true false b e = absurd (true≢false (sym e))

    by_kind : (x : OwnerKind) → has_planned x v.started v.session ≡ true → has_planned x v.started w.session ≡ true
    by_kind (kind.Calling x) f = refl
    by_kind kind.Fencing f = refl
    by_kind (kind.Stubbing u) f = ap (λ (b : Bool). b && not (is_settling w.session)) (both_true v.started (not (is_settling v.session)) f) ∙ ap (λ (b : Bool). not b) e

-- works that are left are planned, and so are those behind which a round of dependencies is under way
pub left_planned : (v : Owner) (x : ServiceId × FenceWork) (rest : List (ServiceId × FenceWork)) → v.works.left ≡ x ∷ rest → OwnerPlanned v → has_planned v.kind v.started v.session ≡ true
left_planned v x rest l h = by_flag (has_planned v.kind v.started v.session) refl
  where
    by_flag : (b : Bool) → has_planned v.kind v.started v.session ≡ b → b ≡ true
    by_flag true e = refl
    by_flag false e = absurd (cons_not_nil x rest (sym l ∙ (h.unplanned e).0))

pub fixing_planned : (v : Owner) → is_fixing v.session ≡ true → OwnerPlanned v → has_planned v.kind v.started v.session ≡ true
fixing_planned v f h = by_flag (has_planned v.kind v.started v.session) refl
  where
    by_flag : (b : Bool) → has_planned v.kind v.started v.session ≡ b → b ≡ true
    by_flag true e = refl
    by_flag false e = absurd (true≢false (sym f ∙ (h.unplanned e).1))

abbrev pub Rested : Owner → Type 0
Rested w = OwnerPlanned w × (has_planned w.kind w.started w.session ≡ true)

fenced : (s : State) (o : ℕ) (id : ServiceId) (x : FenceWork) (rest : List (ServiceId × FenceWork)) → (owner_at s o).works.left ≡ (id, x) ∷ rest → has_planned (owner_at s o).kind (owner_at s o).started (session_at s o) ≡ true → OwnerPlanned (owner_at s o) → Rested (fence_ended s o id)
fenced s o id x rest l f h =
    let g = still_planned (owner_at s o) (fence_ended s o id) refl refl refl f in
    (new_planned (fence_ended s o id) refl g (fence_planned (called_service (owner_at s o).kind) (owner_at s o).works id x rest l (h.works f)), g)

pub resting_planned : (s : State) (o : ℕ) (w : Owner) → Resting s o w → OwnerPlanned (owner_at s o) → Rested w
resting_planned s o w (plans e b) h = let g = works_there w refl refl in (new_planned w refl g (plan_all_planned (owner_at s o).works.copy (called_service (owner_at s o).kind) (ap called_service e)), g)
resting_planned s o w (past id x rest time l e) h = fenced s o id x rest l (left_planned (owner_at s o) (id, x) rest l h) h
resting_planned s o w (fixed id x rest r e l a b d) h = fenced s o id x rest l (left_planned (owner_at s o) (id, x) rest l h) h
resting_planned s o w (cleared r e l a b d) h =
    let f = fixing_planned (owner_at s o) (ap is_fixing a) h in
    let g = still_planned (owner_at s o) w refl refl refl f in
    let p = h.works f in
    (new_planned w refl g (done_planned (called_service (owner_at s o).kind) w.works l (own_last (called_service (owner_at s o).kind) (owner_at s o).works l p) (λ id i j. (p.inside id i j).1)), g)

pub working_planned : (at : Reading) (s : State) (o : ℕ) (w : Owner) → Working at s o w → Rested (owner_at s o) → is_settling (session_at s o) ≡ false → Rested w
working_planned at s o w (owes_nothing id rest l) h z = fenced s o id _ rest l h.1 h.0
working_planned at s o w (is_past id time rest l e) h z = fenced s o id _ rest l h.1 h.0
working_planned at s o w (enters_own x l e f) h z =
    let g = still_planned (owner_at s o) w refl refl z h.1 in
    (new_planned w z g (done_planned (called_service (owner_at s o).kind) w.works l (λ id i. ap called_service e ∙ ap (λ (y : ServiceId). Some y) (sym (one_service id (service_of x) i))) (λ id i j. refl)), g)
  where
    one_service : (a b : ServiceId) → has_service (b ∷ []) a ≡ true → a ≡ b
    one_service a b i = same_service_is a b (or_none (same_service a b) i)
      where
        or_none : (c : Bool) → (c || false) ≡ true → c ≡ true
        or_none true e = refl
        or_none false e = absurd (true≢false (sym e))

pub leaving_planned : (c : Config) (at : Reading) (s : State) (o : ℕ) (w : Owner) (outs : List Out) → Leaving c at s o w outs → Rested (owner_at s o) → is_settling (session_at s o) ≡ false → OwnerPlanned w
leaving_planned c at s o w _ (waits id time rest l) h z = owner_same (owner_at s o) w refl refl refl refl refl refl refl h.0
leaving_planned c at s o w _ (fixes_work id rest l) h z = new_planned w refl (still_planned (owner_at s o) w refl refl refl h.1) (h.0.works h.1)
leaving_planned c at s o w _ (fixes_own x dep deps l e d) h z = new_planned w refl (still_planned (owner_at s o) w refl refl refl h.1) (h.0.works h.1)
leaving_planned c at s o w _ (asks_register key l e d) h z = new_planned w refl (still_planned (owner_at s o) w refl refl refl h.1) (h.0.works h.1)
leaving_planned c at s o w _ (stamps_register key value l e d) h z = new_planned w refl (still_planned (owner_at s o) w refl refl refl h.1) (h.0.works h.1)
leaving_planned c at s o w _ (begins_snapshot keys t l e d) h z = new_planned w refl (still_planned (owner_at s o) w refl refl refl h.1) (h.0.works h.1)
leaving_planned c at s o w _ (begins_txn reads guard writes t l e d) h z = new_planned w refl (still_planned (owner_at s o) w refl refl refl h.1) (h.0.works h.1)
leaving_planned c at s o w _ (fence_done l e) h z = owner_same (owner_at s o) w refl refl refl refl refl refl refl h.0
leaving_planned c at s o w _ (stub_done u l e) h z =
    new_planned w z (still_planned (owner_at s o) w refl refl z h.1)
    (done_planned (called_service (owner_at s o).kind) w.works l (λ id i. absurd (true≢false (sym i))) (λ id i j. absurd (none_own id (sym (ap called_service e) ∙ i))))

without_settling : (x : Session) (id : ServiceId) (replica : ℕ) → (is_settling (session_without x (Replica id replica)) ≡ is_settling x) × (is_fixing (session_without x (Replica id replica)) ≡ is_fixing x)
without_settling (session.Register r) id replica = (refl, refl)
without_settling (session.Fixing r) id replica = (refl, refl)
without_settling session.Idle id replica = (refl, refl)
without_settling (session.Transaction t) id replica = (refl, refl)
without_settling (session.Snapshot t) id replica = (refl, refl)
without_settling (session.Settling attempt shards) id replica = (refl, refl)

turning_settling : (s : State) (o : ℕ) (x : Session) (outs : List Out) → ShardTurning s o x outs → (is_settling x ≡ is_settling (session_at s o)) × (is_fixing x ≡ is_fixing (session_at s o))
turning_settling s o _ _ (txn_heard t l at r e) = (ap is_settling (sym e), ap is_fixing (sym e))
turning_settling s o _ _ (txn_woken t l e) = (ap is_settling (sym e), ap is_fixing (sym e))
turning_settling s o _ _ (txn_passed t e) = (ap is_settling (sym e), ap is_fixing (sym e))
turning_settling s o _ _ (snap_heard t l r e) = (ap is_settling (sym e), ap is_fixing (sym e))
turning_settling s o _ _ (snap_woken t l e) = (ap is_settling (sym e), ap is_fixing (sym e))

pub doing_planned : (s : State) (o : ℕ) (w : Owner) (outs : List Out) (new : List Dep) → Doing s o w outs new → OwnerPlanned (owner_at s o) → OwnerPlanned w
doing_planned s o w _ _ (listens_one slot r d) h = owner_same (owner_at s o) w refl refl refl refl refl refl refl h
doing_planned s o w _ _ (fix_hears f slot r x d e) h = owner_same (owner_at s o) w refl refl (ap is_settling (sym x)) (ap is_fixing (sym x)) refl refl refl h
doing_planned s o w _ _ (fix_reached f slot r y x d e) h = owner_same (owner_at s o) w refl refl (ap is_settling (sym x)) (ap is_fixing (sym x)) refl refl refl h
doing_planned s o w _ _ (register_hears f slot r x d a e) h = owner_same (owner_at s o) w refl refl (ap is_settling (sym x)) (ap is_fixing (sym x)) refl refl refl h
doing_planned s o w _ _ (register_stores f slot r x d a e) h = owner_same (owner_at s o) w refl refl (ap is_settling (sym x)) (ap is_fixing (sym x)) refl refl refl h
doing_planned s o w _ _ (register_reached f slot r y x d e) h = owner_same (owner_at s o) w refl refl (ap is_settling (sym x)) (ap is_fixing (sym x)) refl refl refl h
doing_planned s o w _ _ (read_ends f key cell dep x a b) h = owner_same (owner_at s o) w refl refl refl refl refl refl refl h
doing_planned s o w _ _ (write_ends f key value e x a b) h = owner_same (owner_at s o) w refl refl refl refl refl refl refl h
doing_planned s o w _ _ (txn_ends y t time a b d) h = owner_same (owner_at s o) w refl refl refl refl refl refl refl h
doing_planned s o w _ _ (snap_ends y t time a b d) h = owner_same (owner_at s o) w refl refl refl refl refl refl refl h
doing_planned s o w _ _ (counts_one target) h = owner_same (owner_at s o) w refl refl refl refl refl refl refl h
doing_planned s o w _ _ (cuts_one id replica) h = let k = without_settling (session_at s o) id replica in owner_same (owner_at s o) w refl refl k.0 k.1 refl refl refl h
doing_planned s o w _ _ (is_closed f) h = owner_same (owner_at s o) w refl refl refl refl refl refl refl h
doing_planned s o w _ _ forgets_all h = owner_same (owner_at s o) w refl refl refl refl refl refl refl h
doing_planned s o w _ _ (turns x outs y) h = let k = turning_settling s o x outs y in owner_same (owner_at s o) w refl refl k.0 k.1 refl refl refl h
doing_planned s o w _ _ (stub_asks attempt shards e b) h = record {
  works = λ f. absurd (no_stub_settles w refl (ap is_stub e) f);
  settling = λ f. ap is_stub e;
  unplanned = λ f. ((h.unplanned (ap (λ (x : OwnerKind). has_planned x (owner_at s o).started (session_at s o)) e ∙ ap (λ (a : Bool). a && not (is_settling (session_at s o))) b)).0, refl);
}
