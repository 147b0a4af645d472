-- What has ended takes effect by then, and calls that send their own first round later see it.
use Rattle.std.proofs.Common.{◌≡◌, ◌≤◌, Bool, true, false, List, [], ◌∷◌, ◌++◌, length, Some, None, refl, sym, ◌∙◌, subst, arith}
use Rattle.rss_names.specs.declared.service.Key.{Key}
use Rattle.pipeline_lang.specs.declared.config.Config.{Config}
use Rattle.rss_machine.specs.Effect.{stepped}
use Rattle.rss_machine.specs.Refusal.{refusal}
use Rattle.rss_machine.specs.Run.{run, run_from}
use Rattle.rss_machine.specs.State.{State, start}
use Rattle.rss_machine.specs.declared.step.Step.{Step}
use Rattle.world_laws.proofs.Runs.{run_rest, run_none}
use Rattle.std.specs.Prelude.{if◌then◌else◌}
use Rattle.std.proofs.lemmas.Bool.{true≢false}
use Rattle.carstamps.specs.declared.carstamp.Carstamp.{Carstamp}
use Rattle.carstamps.specs.Stamp.{stamp_le, opening_stamp}
use Rattle.rss_machine.specs.Marks.{is_held}
use Rattle.rss_machine.specs.State.{replicas_at}
use Rattle.rss_machine.specs.Times.{first_held}
use Rattle.world_laws.proofs.Clock.{run_counted}
use Rattle.world_laws.proofs.Marked.{first_one, first_more, start_not_held}
use Rattle.world_laws.proofs.Runs.{run_is}
use Rattle.reg_laws.specs.Files.{IsInOrder}
use Rattle.reg_laws.specs.Line.{SeenFromOne, SeenFrom}
use Rattle.reg_laws.specs.Rounds.{RoundsSee}
use Rattle.reg_laws.proofs.Above.{see_run, ends_run}

-- a stamp that a majority holds after some steps has its step by then
come_by : (c : Config) (key : Key) (z : Carstamp) (steps more : List Step) (w u : State) → run_from c w steps ≡ Some u → is_held (replicas_at u key.service) key z ≡ true → is_held (replicas_at w key.service) key z ≡ false → first_held c w (steps ++ more) key z ≤ length steps
come_by c key z [] more w u e h f = absurd (true≢false (sym h ∙ subst (λ (t : State). is_held (replicas_at t key.service) key z ≡ false) (run_none c w u e) f))
come_by c key z (step ∷ steps) more w u e h f = by_held (is_held (replicas_at v key.service) key z) refl (come_by c key z steps more v u t.1 h)
  where
    v : State
    v = stepped c w step

    t : (refusal c w step ≡ None) × (run_from c v steps ≡ Some u)
    t = run_rest c w step steps u e

    by_held : (b : Bool) → is_held (replicas_at v key.service) key z ≡ b → (is_held (replicas_at v key.service) key z ≡ false → first_held c v (steps ++ more) key z ≤ length steps) → first_held c w (step ∷ steps ++ more) key z ≤ length (step ∷ steps)
    by_held true g ih = let n = first_one c w step (steps ++ more) key z g in omega (arith, n)
    by_held false g ih = let n = first_more c w step (steps ++ more) key z g in let k = ih g in omega (arith, n, k)

pub seen_one : (c : Config) (steps more : List Step) (u s : State) (key : Key) (stamp : Carstamp) → IsInOrder c → run c steps ≡ Some u → run c (steps ++ more) ≡ Some s → is_held (replicas_at u key.service) key stamp ≡ true → SeenFromOne c (steps ++ more) u s key stamp
unfolding run
seen_one c steps more u s key stamp n e f h = record {
  come = by_opening (stamp_le stamp opening_stamp) refl;
  stored = λ o value other l w. sees.stored o key value other stamp l w h;
  written = λ o value other l w. sees.written o key value other stamp l w h;
  read = λ o cell dep l r. sees.read o key cell dep stamp l r h;
}
  where
    sees : RoundsSee u s
    sees = see_run c steps more u s n (run_is c steps u e) (run_is c (steps ++ more) s f)

    counted : u.steps ≡ length steps
    counted = (run_counted c steps u (run_is c steps u e)).0

    by_opening : (t : Bool) → stamp_le stamp opening_stamp ≡ t → (if t then 0 else first_held c (start c) (steps ++ more) key stamp) ≤ u.steps
    by_opening true g = omega arith
    by_opening false g = let k = come_by c key stamp steps more (start c) u e h (start_not_held c key stamp g) in omega (arith, k, counted)

pub seen_run : (c : Config) (steps more : List Step) (u s : State) → IsInOrder c → run c steps ≡ Some u → run c (steps ++ more) ≡ Some s → SeenFrom c (steps ++ more) u s
seen_run c steps more u s n e f =
    let h = ends_run c steps u n e in
    record {
      write = λ o key value stamp w. seen_one c steps more u s key stamp n e f (h.written o key value stamp w);
      agreed = λ o key cell r. seen_one c steps more u s key cell.stamp n e f (h.agreed o key cell r);
    }
