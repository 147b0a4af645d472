-- Contexts are in their orders, and depend once at most on each register of the file.
use Rattle.std.proofs.Common.{◌≡◌, ℕ, suc, ◌+◌, ◌<◌, ◌≤◌, true, List, [], ◌∷◌, length, get_or, Some, refl, subst, arith}
use Rattle.std.specs.List.{All}
use Rattle.causal_context.specs.Deps.{AreAscending}
use Rattle.causal_context.specs.Forms.{IsSeen}
use Rattle.causal_context.specs.Seen.{Seen}
use Rattle.causal_context.specs.declared.dep.Dep.{Dep}
use Rattle.pipeline_lang.specs.declared.config.Config.{Config}
use Rattle.rss_tables.specs.Pipes.{EndMark}
use Rattle.rss_machine.specs.Run.{run, readings_of}
use Rattle.rss_machine.specs.State.{State, stage_at, owner_at, pipe_at}
use Rattle.rss_machine.specs.declared.step.Step.{Step}
use Rattle.world_laws.specs.Contexts.{mark_deps, AllDeps}
use Rattle.world_laws.specs.Laws.{IsOrdered}
use Rattle.world_laws.specs.Numbered.{are_numbered}
use Rattle.world_laws.specs.Registers.{IsRegister}
use Rattle.world_laws.specs.Shapes.{IsSoundFile}
use Rattle.world_laws.proofs.Contexts.{stage_holds, copy_holds, pipe_holds}
use Rattle.context_moves.specs.Covering.{MarkCovers, AllCover, behind}
use Rattle.context_moves.specs.Views.{view_of}
use Rattle.covering_laws.proofs.Runs.{covers_run}
use Rattle.covering_laws.proofs.Told.{runs_tell}
use Rattle.ready_laws.proofs.Stubs.{registers_run}
use Rattle.seen_laws.specs.Laws.{HasForm, HaveForm}

-- numbers that ascend, from one on and below another, are no more than lie between
few_left : (n low : ℕ) (deps : List Dep) → AreAscending deps → All (λ (d : Dep). low ≤ d.key.index) deps → All (λ (d : Dep). d.key.index < n) deps → low ≤ n → low + length deps ≤ n
few_left n low [] h a b l = omega (arith, l)
few_left n low (d ∷ deps) h a b l =
    let x : low ≤ d.key.index = a 0 d (omega arith) in
    let y : d.key.index < n = b 0 d (omega arith) in
    let r = few_left n (suc d.key.index) deps (record { in_order = λ i j e p m. h.in_order (suc i) (suc j) e (omega (arith, p)) (omega (arith, m)) })
    (λ k e m. (let q = h.in_order 0 (suc k) e (omega arith) (omega (arith, m)) in omega (arith, q))) (λ k e m. b (suc k) e (omega (arith, m))) (omega (arith, y)) in
    omega (arith, x, r)

few_deps : (n : ℕ) (deps : List Dep) → AreAscending deps → All (λ (d : Dep). d.key.index < n) deps → length deps ≤ n
few_deps n deps h b = let r = few_left n 0 deps h (λ k e m. omega arith) b (omega arith) in omega (arith, r)

-- a dependency is on a register of the file
abbrev OnRegister : Config → Dep → Type 0
OnRegister c dep = IsRegister c dep.key

form : (c : Config) (seen : Seen) → IsSeen seen → All (OnRegister c) seen.deps → HasForm c seen
form c seen h a = record { orders = h; few = few_deps (length c.registers) seen.deps h.deps (λ k e m. (a k e m).there) }

pub have_form : (c : Config) (steps : List Step) (s : State) → IsSoundFile c → All IsOrdered (readings_of steps) → are_numbered steps ≡ true → run c steps ≡ Some s → HaveForm c s
have_form c steps s f a z e = record {
  stages = λ n. form c (stage_at s n).context (v.stages n).context.orders (stage_holds (OnRegister c) s n d);
  copies = λ o r. form c (owner_at s o).works.copy ((v.owners o).copy (owner_at s o).stage r refl).orders (copy_holds (OnRegister c) s o d);
  chunks = λ p k x l. form c (get_or (pipe_at s p).chunks k x).context ((v.pipes p).chunks k x l).context.orders ((pipe_holds (OnRegister c) s p d).chunks k x l);
  marks = λ p number seen g. form c seen (subst (MarkCovers (view_of c s) (behind s) p (pipe_at s p).next) g (v.pipes p).mark).1.orders (subst (λ (m : EndMark). All (OnRegister c) (mark_deps m)) g (pipe_holds (OnRegister c) s p d).mark);
}
  where
    v : AllCover c s
    v = covers_run c (runs_tell c f) steps s a z e

    d : AllDeps (OnRegister c) s
    d = registers_run c steps s f e
