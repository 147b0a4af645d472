-- A round of dependencies that ends has settled them: a majority has held each since an earlier step.
use Rattle.std.proofs.Common.{◌≡◌, ℕ, List, [], ◌∷◌, ◌++◌, length, Some, None, refl, ap, sym, ◌∙◌, subst}
use Rattle.causal_context.specs.declared.dep.Dep.{Dep}
use Rattle.pipeline_lang.specs.declared.config.Config.{Config}
use Rattle.rss_tables.specs.RegisterSession.{RegSession}
use Rattle.rss_machine.specs.Run.{run}
use Rattle.rss_machine.specs.State.{State, Owner, no_owner}
use Rattle.rss_machine.specs.declared.session.Session.TheVariants as session
use Rattle.rss_machine.specs.declared.step.Step.{Step}
use Rattle.world_laws.proofs.SessionMoves.{session_at}
use Rattle.std.proofs.Common.{◌<◌, ◌⊎◌, inl, inr, All, arith}
use Rattle.std.proofs.lemmas.Bool.{true≢false}
use Rattle.causal_context.specs.Deps.{deps_of}
use Rattle.rss_machine.specs.Effect.{stepped}
use Rattle.rss_machine.specs.Refusal.{refusal}
use Rattle.rss_machine.specs.Run.{run}
use Rattle.rss_machine.specs.State.{owner_at}
use Rattle.world_laws.proofs.Looks.{get_or_past}
use Rattle.world_laws.proofs.Runs.{run_rest, run_from_more, run_split}
use Rattle.reg_laws.specs.Agree.{FixAgrees, Agrees}
use Rattle.reg_laws.specs.Files.{IsInOrder}
use Rattle.reg_laws.specs.Line.{SeenFromOne}
use Rattle.reg_laws.proofs.Above.{SameKept}
use Rattle.reg_laws.proofs.Agree.{agree_run}
use Rattle.reg_laws.proofs.RoundsHeld.{DepHeld}
use Rattle.reg_laws.proofs.Settles.{deps_seen}
use Rattle.reg_laws.proofs.FixesWalk.{StillFixes, is_fixing, Fixed, held_moved, fixed_from}
use Rattle.truetime.specs.Reading.{Reading}
use Rattle.rss_names.specs.declared.service.Target.{Target}
use Rattle.rss_names.specs.declared.service.Target.TheVariants.{Shard, Replica}
use Rattle.rss_wire.specs.Messages.{message_at}
use Rattle.rss_wire.specs.declared.messages.Request.{Request}
use Rattle.rss_names.specs.declared.service.ServiceId.{ServiceId}
use Rattle.rss_machine.specs.Effect.{request_comes}
use Rattle.rss_machine.specs.Moves.{ticks, marks_message, serves_replica, notes_served}
use Rattle.world_laws.proofs.Looks.{looks}
use Rattle.world_laws.proofs.OwnerWalk.{Served, moves_or_serves}
use Rattle.world_laws.proofs.Runs.{passes, run_ends}
use Rattle.reg_laws.specs.Line.{FixesEnd}
use Rattle.reg_laws.proofs.Above.{quiet_moves}
use Rattle.reg_laws.proofs.FixesFirst.{basis_run}

-- a request that is served changes nothing that owners have under way
served_sessions : (t : State) (m o : ℕ) (at : Reading) (target : Target) (r : Request) (i : ℕ) → session_at (request_comes t m o at target r) i ≡ session_at t i
served_sessions t m o at (Shard n) r i = refl
served_sessions t m o at (Replica id replica) r i = stored_sessions (serves_replica t m id replica r) o id r i
  where
    stored_sessions : (t : State) (o : ℕ) (id : ServiceId) (r : Request) (i : ℕ) → session_at (notes_served t o id r) i ≡ session_at t i
    stored_sessions t o id r i = grind (arith, looks)

-- in a step the stores of registers stay, or all that owners have under way does
step_sessions : (c : Config) (s : State) (step : Step) → refusal c s step ≡ None → SameKept s (stepped c s step) ⊎ ((o : ℕ) → session_at (stepped c s step) o ≡ session_at s o)
step_sessions c s step r = by_served (moves_or_serves c step.at (SameKept (ticks s step.at)) (λ t o. SameKept (ticks s step.at) t) (quiet_moves c step.at (ticks s step.at)) (ticks s step.at) step.kind (passes c s step r).kind (record { replicas = refl; marks = refl }))
  where
    by_served : SameKept (ticks s step.at) (stepped c s step) ⊎ Served c step.at (ticks s step.at) (stepped c s step) → SameKept s (stepped c s step) ⊎ ((o : ℕ) → session_at (stepped c s step) o ≡ session_at s o)
    by_served (inl h) = inl (record { replicas = h.replicas; marks = h.marks })
    by_served (inr d) = inr (λ o. ap (λ (t : State). session_at t o) d.same ∙ served_sessions (marks_message (ticks s step.at) d.number d.fate) d.number (message_at (marks_message (ticks s step.at) d.number d.fate).net d.number).envelope.owner step.at (message_at (marks_message (ticks s step.at) d.number d.fate).net d.number).envelope.target d.request o)

module _ (c : Config) (n : IsInOrder c) (steps more : List Step) (next : Step) (u s : State) (e : run c steps ≡ Some u) (f : run c (steps ++ next ∷ more) ≡ Some s) (q : ℕ) (r : RegSession) (x : session_at u q ≡ session.Fixing r) (over : (other : RegSession) → session_at (stepped c u next) q ≡ session.Fixing other → other.service ≡ r.service → ⊥) where
  abbrev deps : List Dep
  deps = deps_of r.service (owner_at u q).works.copy.deps

  passed : refusal c u next ≡ None
  passed = (run_rest c u next more s (run_split c steps (next ∷ more) u s e f)).0

  agrees : FixAgrees (owner_at u q) r
  agrees = subst (Agrees (owner_at u q)) x ((agree_run c steps u e).each q)

  inside : q < length u.owners
  inside = by_place (get_or_past u.owners q no_owner)
    where
      by_place : (q < length u.owners) ⊎ (owner_at u q ≡ no_owner) → q < length u.owners
      by_place (inl k) = k
      by_place (inr k) = absurd (true≢false (ap is_fixing (sym x) ∙ ap (λ (w : Owner). is_fixing w.session) k))

  fixed_after : Fixed c n q r.service deps (stepped c u next)
  fixed_after =
      fixed_from c n q r.service deps (next ∷ []) u (stepped c u next) (basis_run c n steps u e) (run_from_more c [] u u next (run_ends c u) passed)
      (record { there = inside; state = inl (record { round = r; under_way = x; of_work = agrees.stores; of_service = refl }) })

  held_after : All (DepHeld (stepped c u next) r.service) deps
  held_after = by_state fixed_after.state
    where
      by_state : StillFixes r.service deps (session_at (stepped c u next) q) ⊎ All (DepHeld (stepped c u next) r.service) deps → All (DepHeld (stepped c u next) r.service) deps
      by_state (inr k) = k
      by_state (inl k) = absurd (over k.round k.under_way k.of_service)

  held_first : All (DepHeld u r.service) deps
  held_first = by_alone (step_sessions c u next passed)
    where
      by_alone : SameKept u (stepped c u next) ⊎ ((o : ℕ) → session_at (stepped c u next) o ≡ session_at u o) → All (DepHeld u r.service) deps
      by_alone (inl k) = held_moved c n q r.service deps (stepped c u next) u (sym k.replicas) held_after
      by_alone (inr k) = absurd (over r (k q ∙ x) refl)

  settled_first : All (λ (dep : Dep). SeenFromOne c (steps ++ next ∷ more) u s dep.key dep.stamp) deps
  settled_first = deps_seen c steps (next ∷ more) u s n e f r.service (owner_at u q).works.copy.deps held_first

pub fixes_end_run : (c : Config) (steps more : List Step) (next : Step) (u s : State) → IsInOrder c → run c steps ≡ Some u → run c (steps ++ next ∷ more) ≡ Some s → FixesEnd c (steps ++ next ∷ more) u (stepped c u next) s
fixes_end_run c steps more next u s n e f = record { fix = λ o r x over. settled_first c n steps more next u s e f o r x over }
