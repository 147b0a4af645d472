-- Calls take effect after they enter, and after what their rounds of dependencies and the replicas covered when they
-- sent their own first round.
use Rattle.std.proofs.Common.{◌≡◌, ℕ, ◌<◌, ◌≤◌, ◌⊎◌, inl, inr, Bool, true, false, List, ◌++◌, get_or, Some, ap, subst, arith}
use Rattle.std.specs.Prelude.{max}
use Rattle.std.proofs.lemmas.List.Elements.{All-get_or}
use Rattle.rss_names.specs.declared.service.Key.{Key}
use Rattle.carstamps.specs.declared.carstamp.Carstamp.{Carstamp}
use Rattle.causal_context.specs.declared.dep.Dep.{Dep}
use Rattle.causal_context.specs.Deps.{deps_of}
use Rattle.pipeline_lang.specs.declared.config.Config.{Config}
use Rattle.rss_machine.specs.Marks.{is_held}
use Rattle.rss_machine.specs.Places.{effect_step, register_key, key_lt}
use Rattle.rss_machine.specs.Run.{run}
use Rattle.rss_machine.specs.State.{State, owner_at, replicas_at}
use Rattle.rss_machine.specs.Times.{step_of_stamp, marked_step}
use Rattle.rss_machine.specs.declared.step.Step.{Step}
use Rattle.world_laws.specs.Calls.{DatesTell}
use Rattle.world_laws.specs.Proper.{work_registers}
use Rattle.world_laws.specs.Registers.{IsRegister}
use Rattle.world_laws.proofs.ToldLaws.{dates_run}
use Rattle.reg_laws.specs.Files.{IsInOrder}
use Rattle.reg_laws.specs.Line.{PlacesInside, AfterEntry, PlacedCall, writes, reads, FixCovers, CoveredBefore}
use Rattle.reg_laws.proofs.FixesFirst.{fixes_first_run}
use Rattle.reg_laws.proofs.Legal.{register_of, tells, inside_run, step_rises, by_step}
use Rattle.reg_laws.proofs.Seen.{seen_one}

-- calls take effect after they enter
pub entry_run : (c : Config) (steps : List Step) (s : State) → IsInOrder c → run c steps ≡ Some s → AfterEntry s
entry_run c steps s n e = record {
  write = λ o key value stamp w l. let a = (dates.each o).before l (dates.launched o w.round w.under_way) in let b = inside.write o key value stamp w in omega (arith, a, b);
  read = λ o key cell dep r l. let a = (dates.each o).before l (dates.launched o r.round r.under_way) in let b = inside.read o key cell.stamp in omega (arith, a, b);
}
  where
    dates : DatesTell s
    dates = dates_run c steps s e

    inside : PlacesInside s
    inside = inside_run c steps s n e

-- the step in which a call takes effect is below one that its stamp's step and its own round are below
effect_below : (r : Bool) (m l k : ℕ) → m < k → l < k → effect_step r m l < k
effect_below true m l k a b = max_below m l k a b
  where
    max_below : (m l k : ℕ) → m < k → l < k → max m l < k
    max_below m l k a b = grind (arith, a, b)
effect_below false m l k a b = a

module _ (c : Config) (n : IsInOrder c) (steps more : List Step) (u s : State) (e : run c steps ≡ Some u) (f : run c (steps ++ more) ≡ Some s) where
  placed_register : (o : ℕ) (key : Key) (stamp : Carstamp) (r : Bool) → PlacedCall s o key stamp r → IsRegister c key
  placed_register o key _ _ (writes value stamp w) = register_of c n (steps ++ more) s f o w.round key w.under_way (ap work_registers w.of_work)
  placed_register o key _ _ (reads cell dep w) = register_of c n (steps ++ more) s f o w.round key w.under_way (ap work_registers w.of_work)

  -- a call takes effect not before its own first round
  effect_late : (o : ℕ) (key : Key) (stamp : Carstamp) (r : Bool) → PlacedCall s o key stamp r → (owner_at s o).dates.launched ≤ (register_key s o r (key, stamp)).step
  effect_late o key _ _ (writes value stamp w) = let a = (inside_run c (steps ++ more) s n f).write o key value stamp w in omega (arith, a)
  effect_late o key _ _ (reads cell dep w) = (inside_run c (steps ++ more) s n f).read o key cell.stamp

  -- what was covered has its step before the round of the other
  covered_step : (b : ℕ) (key : Key) (stamp : Carstamp) → u.steps < (owner_at s b).dates.launched → (is_held (replicas_at u key.service) key stamp ≡ true) ⊎ FixCovers u b key stamp → step_of_stamp c (steps ++ more) key stamp < (owner_at s b).dates.launched
  covered_step b key stamp l (inl h) = let a = (seen_one c steps more u s key stamp n e f h).come in omega (arith, a, l)
  covered_step b key stamp l (inr h) =
      let deps = deps_of h.round.service (owner_at u b).works.copy.deps in
      let a : step_of_stamp c (steps ++ more) (get_or deps h.place h.dep).key (get_or deps h.place h.dep).stamp < (owner_at s b).dates.launched =
      All-get_or (λ (dep : Dep). step_of_stamp c (steps ++ more) dep.key dep.stamp < (owner_at s b).dates.launched) deps h.place h.dep h.inside ((fixes_first_run c steps more u s n e f).fix b h.round h.under_way l) in
      let d : step_of_stamp c (steps ++ more) key h.dep.stamp < (owner_at s b).dates.launched = subst (λ (k : Key). step_of_stamp c (steps ++ more) k h.dep.stamp < (owner_at s b).dates.launched) h.on (subst (λ (x : Dep). step_of_stamp c (steps ++ more) x.key x.stamp < (owner_at s b).dates.launched) h.at a) in
      let z = step_rises c key stamp h.dep.stamp (steps ++ more) h.above in
      omega (arith, d, z)

  covered_before : (a b : ℕ) (key other : Key) (stamp z : Carstamp) (r q : Bool) → PlacedCall s a key stamp r → PlacedCall s b other z q → (owner_at s a).dates.launched ≤ u.steps → u.steps < (owner_at s b).dates.launched
      → (is_held (replicas_at u key.service) key stamp ≡ true) ⊎ FixCovers u b key stamp → key_lt (register_key s a r (key, stamp)) (register_key s b q (other, z)) ≡ true
  covered_before a b key other stamp z r q p k l m h =
      by_step (effect_step r (marked_step s key stamp) (owner_at s a).dates.launched) (effect_step q (marked_step s other z) (owner_at s b).dates.launched) key.index other.index stamp z r q a b
      (let x = effect_below r (marked_step s key stamp) (owner_at s a).dates.launched (owner_at s b).dates.launched (let i = covered_step b key stamp m h in let j = tells c n (steps ++ more) s f key stamp (placed_register a key stamp r p) in omega (arith, i, j)) (omega (arith, l, m)) in let y = effect_late b other z q k in omega (arith, x, y))

pub covered_run : (c : Config) (steps more : List Step) (u s : State) → IsInOrder c → run c steps ≡ Some u → run c (steps ++ more) ≡ Some s → CoveredBefore c (steps ++ more) u s
covered_run c steps more u s n e f = record { before = covered_before c n steps more u s e f }
