-- What a round of dependencies settles: once it is done, a majority holds each dependency of the owner's copy
-- on the registers of its service, so the step of each has come by then, and later calls see it.
use Rattle.std.proofs.Common.{◌≡◌, ℕ, Bool, true, false, if◌then◌else◌, All, List, [], ◌∷◌, ◌++◌, Some, inl, refl, ap, subst}
use Rattle.std.proofs.lemmas.List.Elements.{All-cons, All-nil, All-head, All-tail}
use Rattle.rss_names.specs.declared.service.ServiceId.{ServiceId}
use Rattle.rss_names.specs.Services.{same_service}
use Rattle.causal_context.specs.declared.dep.Dep.{Dep}
use Rattle.causal_context.specs.Deps.{deps_of}
use Rattle.pipeline_lang.specs.declared.config.Config.{Config}
use Rattle.rss_tables.specs.RegisterSession.{RegSession, phase_end}
use Rattle.rss_tables.specs.declared.register_session.RegEnd.{RegEnd}
use Rattle.rss_tables.specs.declared.register_session.RegEnd.TheVariants as ends
use Rattle.rss_tables.specs.declared.register_session.RegPhase.{RegPhase}
use Rattle.rss_tables.specs.declared.register_session.RegPhase.TheVariants as phase
use Rattle.rss_tables.specs.declared.register_session.RegWork.{RegWork}
use Rattle.rss_machine.specs.Marks.{is_held}
use Rattle.rss_machine.specs.Run.{run}
use Rattle.rss_machine.specs.State.{State, owner_at, replicas_at}
use Rattle.rss_machine.specs.declared.session.Session.TheVariants as session
use Rattle.rss_machine.specs.declared.step.Step.{Step}
use Rattle.world_laws.proofs.Marked.{same_service_is}
use Rattle.world_laws.proofs.Looks.{none_is_not}
use Rattle.world_laws.proofs.SessionMoves.{session_at}
use Rattle.reg_laws.specs.Agree.{FixPhase, FixAgrees, Agrees, AllAgree}
use Rattle.reg_laws.specs.Files.{IsInOrder}
use Rattle.reg_laws.proofs.Rounds.{round_held, Settled, settled_run}
use Rattle.reg_laws.proofs.Seen.{seen_one}
use Rattle.reg_laws.specs.Line.{SeenFromOne, FixesSettled}
use Rattle.reg_laws.proofs.Agree.{agree_run}
use Rattle.reg_laws.proofs.RoundsHeld.{DepHeld, PhaseHeld}
use Rattle.reg_laws.proofs.Valid.{work_deps}

-- a round of dependencies that has ended is done with them all
fixed_phase : (p : RegPhase) (e : RegEnd) → FixPhase p → phase_end p ≡ Some e → p ≡ phase.Done ends.Fixed
fixed_phase phase.Fixing e f h = absurd (none_is_not e h)
fixed_phase (phase.Done ends.Fixed) e f h = refl
fixed_phase (phase.Done (ends.Read cell dep)) e f h = absurd f
fixed_phase (phase.Done (ends.Written stamp)) e f h = absurd f
fixed_phase phase.Asking e f h = absurd f
fixed_phase phase.Stamping e f h = absurd f
fixed_phase (phase.Storing stamp) e f h = absurd f

-- a majority holds each dependency of the copy on the round's service
pub fix_settles : (c : Config) (n : IsInOrder c) (s : State) (o : ℕ) (r : RegSession) (e : RegEnd) → Settled c n s → AllAgree s → session_at s o ≡ session.Fixing r → phase_end r.phase ≡ Some e → All (DepHeld s r.service) (deps_of r.service (owner_at s o).works.copy.deps)
fix_settles c n s o r e h a x f =
    let g : FixAgrees (owner_at s o) r = subst (Agrees (owner_at s o)) x (a.each o) in
    let p : r.phase ≡ phase.Done ends.Fixed = fixed_phase r.phase e g.in_phase f in
    subst (λ (w : RegWork). All (DepHeld s r.service) (work_deps w)) g.stores (subst (PhaseHeld s r.service r.work) p (round_held s o r (inl x) h.1).ended)

-- what a majority holds of the dependencies on a service has its step by then, and later calls see it
pub deps_seen : (c : Config) (steps more : List Step) (u s : State) → IsInOrder c → run c steps ≡ Some u → run c (steps ++ more) ≡ Some s → (id : ServiceId) (deps : List Dep) → All (DepHeld u id) (deps_of id deps) → All (λ (dep : Dep). SeenFromOne c (steps ++ more) u s dep.key dep.stamp) (deps_of id deps)
deps_seen c steps more u s n e f id [] h = All-nil (λ (dep : Dep). SeenFromOne c (steps ++ more) u s dep.key dep.stamp)
deps_seen c steps more u s n e f id (d ∷ deps) h = by_own (same_service id d.key.service) refl (deps_seen c steps more u s n e f id deps) h
  where
    Q : Dep → Type 0
    Q dep = SeenFromOne c (steps ++ more) u s dep.key dep.stamp

    by_own : (t : Bool) → same_service id d.key.service ≡ t → (All (DepHeld u id) (deps_of id deps) → All Q (deps_of id deps)) → All (DepHeld u id) (if t then d ∷ deps_of id deps else deps_of id deps) → All Q (if t then d ∷ deps_of id deps else deps_of id deps)
    by_own true i ih h =
        All-cons Q d (deps_of id deps)
        (seen_one c steps more u s d.key d.stamp n e f (subst (λ (k : ServiceId). is_held (replicas_at u k) d.key d.stamp ≡ true) (same_service_is id d.key.service i) (All-head (DepHeld u id) d (deps_of id deps) h)))
        (ih (All-tail (DepHeld u id) d (deps_of id deps) h))
    by_own false i ih h = ih h

pub settle_run : (c : Config) (steps more : List Step) (u s : State) → IsInOrder c → run c steps ≡ Some u → run c (steps ++ more) ≡ Some s → FixesSettled c (steps ++ more) u s
settle_run c steps more u s n e f = record {
  fix = λ o r x p. deps_seen c steps more u s n e f r.service (owner_at u o).works.copy.deps (fix_settles c n u o r ends.Fixed (settled_run c n steps u e) (agree_run c steps u e) x (ap phase_end p));
}
