-- Losses in every run: they are counted, and what is held of them holds.
use Rattle.std.proofs.Common.{◌≡◌, ℕ, zero, suc, ◌+◌, ◌≤◌, inr, Bool, true, false, List, [], ◌∷◌, length, get_or, Some, None, refl, ap, sym, ◌∙◌, subst, arith}
use Rattle.std.specs.Prelude.{if◌then◌else◌}
use Rattle.std.proofs.lemmas.Bool.{true≢false}
use Rattle.rss_names.specs.declared.service.Target.{Target}
use Rattle.pipeline_lang.specs.declared.config.Config.{Config}
use Rattle.rss_model.specs.Scripts.{is_spawned}
use Rattle.rss_model.specs.declared.history.How.TheVariants.{Unavailable}
use Rattle.rss_wire.specs.declared.envelope.Envelope.{Envelope}
use Rattle.rss_tables.specs.Losses.{target_place, losses_of}
use Rattle.rss_machine.specs.Effect.{stepped}
use Rattle.rss_machine.specs.Moves.{ticks}
use Rattle.rss_machine.specs.Refusal.{refusal}
use Rattle.rss_machine.specs.Run.{run, run_from}
use Rattle.rss_machine.specs.State.{State, Owner, start, stages_from, owner_at, no_stage, opening_stage}
use Rattle.rss_machine.specs.Withheld.{loses_one, lost_from}
use Rattle.rss_machine.specs.declared.state.Life.TheVariants.{Unborn, Live, Over}
use Rattle.rss_machine.specs.declared.state.OwnerFate.TheVariants.{Ended, CutOff}
use Rattle.rss_machine.specs.declared.step.Step.{Step}
use Rattle.world_laws.specs.Calls.{StagesOwn, Onward}
use Rattle.world_laws.proofs.Later.{later_from}
use Rattle.world_laws.proofs.Runs.{run_none, run_rest, run_before, run_ends, passes}
use Rattle.world_laws.proofs.Scripts.{onward_from}
use Rattle.world_laws.proofs.ToldLaws.{told_step, told_start, start_owner}
use Rattle.world_laws.proofs.ToldRuns.{AllTold}
use Rattle.loss_laws.proofs.Places.{IsWithin, IsTarget, AreTargets}
use Rattle.world_laws.specs.Targets.{HasPlace}
use Rattle.loss_laws.proofs.Cut.{NoneCut, none_cut, nothing_lost}
use Rattle.loss_laws.proofs.Held.{Held}
use Rattle.loss_laws.proofs.Steps.{Made, made, held_made, counts, counts_made, never_lost}

-- what is told of losses behind these steps
pub record Counting (c : Config) (u s : State) (steps : List Step) : Type 0 where
  pub held : Held c s.owners s.stages
  pub counted : (o : ℕ) (target : Target) → HasPlace c target → losses_of (owner_at s o).losses target ≡ losses_of (owner_at u o).losses target + lost_from c u steps o target
  pub never : (o : ℕ) (target : Target) → HasPlace c target → (IsWithin c target → ⊥) → lost_from c u steps o target ≡ 0

-- before any step
counting_none : (c : Config) (s : State) → Held c s.owners s.stages → Counting c s s []
unfolding lost_from
counting_none c s h = record { held = h; counted = λ o target p. zero_more (losses_of (owner_at s o).losses target); never = λ o target p d. refl }
  where
    zero_more : (n : ℕ) → n ≡ n + 0
    zero_more n = omega arith

-- and behind one more
counting_more : (c : Config) (u t s : State) (step : Step) (steps : List Step) → t ≡ stepped c u step → ((o : ℕ) (target : Target) → HasPlace c target → losses_of (owner_at t o).losses target ≡ counts (loses_one u o target step.kind) (losses_of (owner_at u o).losses target))
    → ((o : ℕ) (target : Target) → HasPlace c target → (IsWithin c target → ⊥) → loses_one u o target step.kind ≡ false) → Counting c t s steps → Counting c u s (step ∷ steps)
unfolding lost_from
counting_more c u t s step steps e f g h = record {
  held = h.held;
  counted = λ o target p. by_one (loses_one u o target step.kind) _ _ _ _ (f o target p) (h.counted o target p) ∙ ap (λ (v : State). losses_of (owner_at u o).losses target + (if loses_one u o target step.kind then suc (lost_from c v steps o target) else lost_from c v steps o target)) e;
  never = λ o target p d. none (loses_one u o target step.kind) _ (g o target p d) (ap (λ (v : State). lost_from c v steps o target) (sym e) ∙ h.never o target p d);
}
  where
    by_one : (b : Bool) (x y z n : ℕ) → y ≡ counts b x → z ≡ y + n → z ≡ x + (if b then suc n else n)
    by_one true x y z n e f = omega (arith, e, f)
    by_one false x y z n e f = omega (arith, e, f)

    none : (b : Bool) (n : ℕ) → b ≡ false → n ≡ 0 → (if b then suc n else n) ≡ 0
    none true n e f = absurd (true≢false e)
    none false n e f = f

own_ticks : (s : State) (step : Step) → StagesOwn s → StagesOwn (ticks s step.at)
own_ticks s step h = record { owner = λ n o e. let w = h.owner n o e in record { running = w.running; of_kind = w.of_kind; of_stage = w.of_stage; lives = w.lives }; running = h.running }

pub counting : (c : Config) (steps : List Step) (u s : State) → run_from c u steps ≡ Some s → 1 ≤ c.tries → AreTargets c s → AllTold u → Held c u.owners u.stages → Counting c u s steps
counting c [] u s e l p a h = subst (λ (t : State). Counting c u t []) (run_none c u s e) (counting_none c u h)
counting c (step ∷ steps) u s e l p a h =
    counting_more c u t s step steps refl (λ o target q. counts_made c (ticks u step.at) t step.kind o target q h.long m) (λ o target q d. never_lost c (ticks u step.at) t step.kind o target q d m)
    (counting c steps t s r.1 l p (told_step c u step r.0 a) (held_made c (ticks u step.at) t step.kind l (record { long = d.long; each = d.each }) m h))
  where
    t : State
    t = stepped c u step

    r : (refusal c u step ≡ None) × (run_from c (stepped c u step) steps ≡ Some s)
    r = run_rest c u step steps s e

    d : Onward u t
    d = onward_from c (step ∷ []) u t a (run_before c u step [] t r.0 (run_ends c t))

    places : AreTargets c u
    places n z i =
        let f = later_from c (step ∷ steps) u s e in
        let g = f.net in
        subst (λ (x : Envelope). IsTarget c x.target) (f.envelopes n i) (p n z (omega (arith, i, g)))

    m : Made c (ticks u step.at) t step.kind
    m = made c (ticks u step.at) step.at (own_ticks u step a.told.stages) places h.long step.kind (passes c u step r.0).kind

-- before the first step
not_over : (b : Bool) → (opening_stage (if b then Unborn else Live)).life ≡ Over Unavailable → ⊥
not_over true e = unborn e
  where
    unborn : Unborn ≡ Over Unavailable → ⊥
    unborn e = cc
not_over false e = live e
  where
    live : Live ≡ Over Unavailable → ⊥
    live e = cc

none_over : (c : Config) (left n i : ℕ) → (get_or (stages_from c n left) i no_stage).life ≡ Over Unavailable → ⊥
none_over c zero n zero e = not_over true e
none_over c zero n (suc i) e = not_over true e
none_over c (suc left) n zero e = not_over (is_spawned c n) e
none_over c (suc left) n (suc i) e = none_over c left (n + 1) i e

held_start : (c : Config) → 1 ≤ c.tries → Held c (start c).owners (start c).stages
held_start c l = record {
  long = λ o. ap (λ (w : Owner). length w.losses) (start_owner c o);
  cut = λ o target e. absurd (not_cut target (ap (λ (w : Owner). w.fate) (sym (start_owner c o)) ∙ e));
  fine = λ o. inr (subst (λ (w : Owner). NoneCut c w.losses) (sym (start_owner c o)) (none_cut c l));
  hurt = λ i e. absurd (none_over c _ 1 i e);
}
  where
    not_cut : (target : Target) → Ended ≡ CutOff target → ⊥
    not_cut target e = cc

pub counting_run : (c : Config) (steps : List Step) (s : State) → run c steps ≡ Some s → 1 ≤ c.tries → AreTargets c s → Counting c (start c) s steps
unfolding run
counting_run c steps s e l p = counting c steps (start c) s e l p (told_start c) (held_start c l)

-- the count that an owner keeps
pub losses_counted : (c : Config) (steps : List Step) (s : State) (o : ℕ) (target : Target) → run c steps ≡ Some s → 1 ≤ c.tries → AreTargets c s → HasPlace c target → losses_of (owner_at s o).losses target ≡ lost_from c (start c) steps o target
losses_counted c steps s o target e l p q =
    let n : losses_of (owner_at (start c) o).losses target ≡ 0 = ap (λ (w : Owner). losses_of w.losses target) (start_owner c o) ∙ nothing_lost (target_place target) in
    (counting_run c steps s e l p).counted o target q ∙ ap (λ (x : ℕ). x + lost_from c (start c) steps o target) n ∙ none_first (lost_from c (start c) steps o target)
  where
    none_first : (n : ℕ) → 0 + n ≡ n
    none_first n = omega arith
