-- Nobody is hurt by turns of a file that withholds and kills nothing.
use Rattle.std.proofs.Common.{◌≡◌, ◌⊎◌, inl, inr, ℕ, zero, suc, ◌+◌, ◌-◌, Bool, true, false, List, [], ◌∷◌, length, get_or, Some, None, refl, sym, ap, ◌∙◌, subst}
use Rattle.std.proofs.lemmas.Bool.{true≢false}
use Rattle.std.specs.Prelude.{if◌then◌else◌}
use Rattle.truetime.specs.Reading.{Reading}
use Rattle.rss_names.specs.declared.service.Target.{Target}
use Rattle.pipeline_lang.specs.declared.config.Config.{Config}
use Rattle.rss_model.specs.declared.history.How.TheVariants.{Killed, Unavailable}
use Rattle.rss_wire.specs.declared.message.Fate.TheVariants as fate
use Rattle.rss_wire.specs.Messages.{message_at}
use Rattle.rss_machine.specs.Effect.{effect, stepped}
use Rattle.rss_machine.specs.Moves.{ticks}
use Rattle.rss_machine.specs.Refusal.{refusal}
use Rattle.rss_machine.specs.Run.{run, run_from}
use Rattle.rss_machine.specs.Serial.{strays_from}
use Rattle.rss_machine.specs.State.{State, Owner, start, stage_at, owner_at, stages_from, no_owner, no_stage, opening_stage}
use Rattle.rss_machine.specs.declared.state.Life.{Life}
use Rattle.rss_machine.specs.declared.state.Life.TheVariants.{Unborn, Live, Over}
use Rattle.rss_machine.specs.declared.state.OwnerFate.TheVariants.{Ended, CutOff}
use Rattle.rss_machine.specs.declared.step.Step.{Step}
use Rattle.rss_machine.specs.declared.step.StepKind.{StepKind}
use Rattle.rss_machine.specs.declared.step.StepKind.TheVariants.{Act, Go, Lose, Again, Kill, Stub}
use Rattle.rss_model.specs.Scripts.{is_spawned}
use Rattle.world_laws.proofs.Runs.{run_none, run_rest}
use Rattle.world_laws.proofs.ToldLaws.{told_step, told_start, start_owner}
use Rattle.world_laws.proofs.ToldRuns.{AllTold}
use Rattle.loss_laws.proofs.Acts.{s_act, s_delivers, s_stub}
use Rattle.loss_laws.proofs.Losing.{Nobody, NoStage}
use Rattle.loss_laws.proofs.Steady.{Steady}
use Rattle.ending_laws.specs.Laws.{IsCalm, AreUnhurt}
use Rattle.ending_laws.proofs.Stages.{step_lives}
use Rattle.ending_laws.proofs.Turns.{is_mild, mild, no_strays}

-- a mild step cuts nobody off, and leaves no stage unavailable
mild_steady : (c : Config) (s : State) (at : Reading) (x : StepKind) → is_mild x ≡ true → Steady Nobody NoStage s (effect c s at x)
unfolding effect
mild_steady c s at (Act n) m = s_act Nobody NoStage c s n at (stage_at s n).owner
mild_steady c s at (Go i) m = s_delivers Nobody NoStage c s i fate.Delivered at (message_at s.net i).envelope (message_at s.net i).body
mild_steady c s at (Again i) m = s_delivers Nobody NoStage c s i fate.Repeated at (message_at s.net i).envelope (message_at s.net i).body
mild_steady c s at (Stub n) m = s_stub Nobody NoStage c s (stage_at s n).stub at
mild_steady c s at (Lose i) m = absurd (true≢false (sym m))
mild_steady c s at (Kill n) m = absurd (true≢false (sym m))

-- nobody has been hurt, by the places of owners and of stages
record AreFine (s : State) : Type 0 where
  uncut : (o : ℕ) (target : Target) → (get_or s.owners o no_owner).fate ≡ CutOff target → ⊥
  available : (i : ℕ) → (get_or s.stages i no_stage).life ≡ Over Unavailable → ⊥
  alive : (i : ℕ) → (get_or s.stages i no_stage).life ≡ Over Killed → ⊥

fine_step : (c : Config) (s : State) (step : Step) → refusal c s step ≡ None → is_mild step.kind ≡ true → AllTold s → AreFine s → AreFine (stepped c s step)
fine_step c s step r m h f = record {
  uncut = λ o target q. cut o target (k.owners.cut o target q);
  available = λ i q. over i (k.stages.over i q);
  alive = λ i q. f.alive i ((step_lives c s step r m h).dead i q);
}
  where
    k : Steady Nobody NoStage (ticks s step.at) (stepped c s step)
    k = mild_steady c (ticks s step.at) step.at step.kind m

    cut : (o : ℕ) (target : Target) → ((owner_at s o).fate ≡ CutOff target) ⊎ Nobody o target → ⊥
    cut o target (inl q) = f.uncut o target q
    cut o target (inr x) = x

    over : (i : ℕ) → ((get_or s.stages i no_stage).life ≡ Over Unavailable) ⊎ NoStage i → ⊥
    over i (inl q) = f.available i q
    over i (inr x) = x

fine_from : (c : Config) → IsCalm c → (steps : List Step) (u s : State) → run_from c u steps ≡ Some s → strays_from c u steps ≡ 0 → AllTold u → AreFine u → AreFine s
fine_from c k [] u s e z h f = subst AreFine (run_none c u s e) f
fine_from c k (step ∷ steps) u s e z h f =
    let t = run_rest c u step steps s e in
    let q = no_strays c u step steps z in
    fine_from c k steps (stepped c u step) s t.1 q.1 (told_step c u step t.0 h) (fine_step c u step t.0 (mild c u step.kind k q.0) h f)

-- before the first step
abbrev is_fresh : Life → Bool
is_fresh Unborn = true
is_fresh Live = true
is_fresh (Over how) = false

fresh_from : (c : Config) (n left : ℕ) (i : ℕ) → is_fresh (get_or (stages_from c n left) i no_stage).life ≡ true
fresh_from c n zero zero = refl
fresh_from c n zero (suc i) = refl
fresh_from c n (suc left) zero = by_spawn (is_spawned c n)
  where
    by_spawn : (b : Bool) → is_fresh (opening_stage (if b then Unborn else Live)).life ≡ true
    by_spawn true = refl
    by_spawn false = refl
fresh_from c n (suc left) (suc i) = fresh_from c (n + 1) left i

fine_start : (c : Config) → AreFine (start c)
fine_start c = record {
  uncut = λ o target q. ended target (ap (λ (w : Owner). w.fate) (sym (start_owner c o)) ∙ q);
  available = λ i q. absurd (true≢false (sym (fresh_from c 1 (length c.bodies) i) ∙ ap is_fresh q));
  alive = λ i q. absurd (true≢false (sym (fresh_from c 1 (length c.bodies) i) ∙ ap is_fresh q));
}
  where
    ended : (target : Target) → Ended ≡ CutOff target → ⊥
    ended target e = cc

pub unhurt : (c : Config) → IsCalm c → (steps : List Step) (s : State) → run c steps ≡ Some s → strays_from c (start c) steps ≡ 0 → AreUnhurt s
unfolding run
unhurt c k steps s e z = record {
  stages = λ n. record { alive = f.alive (n - 1); available = f.available (n - 1) };
  owners = f.uncut;
}
  where
    f : AreFine s
    f = fine_from c k steps (start c) s e z (told_start c) (fine_start c)
