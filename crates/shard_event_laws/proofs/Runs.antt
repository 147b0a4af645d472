-- The induction over events: what each event keeps, every run keeps.
use Rattle.std.proofs.Common.{◌≡◌, ◌⊎◌, inl, inr, ℕ, ◌+◌, ◌<◌, ◌≤◌, List, [], ◌∷◌, ◌++◌, All, length, Some, None, refl, sym, ap, ◌∙◌, subst, arith}
use Rattle.std.specs.Prelude.{⊤, get_or}
use Rattle.std.proofs.lemmas.Bool.{leb-true, cases_lt}
use Rattle.std.proofs.lemmas.List.Elements.{All-head, All-tail}
use Rattle.truetime.specs.Reading.{Reading}
use Rattle.truetime.specs.TrueMoment.{moment_after}
use Rattle.pipeline_lang.specs.declared.config.Config.{Config}
use Rattle.rss_machine.specs.Effect.{stepped}
use Rattle.rss_machine.specs.Moves.{ticks}
use Rattle.rss_machine.specs.Refusal.{refusal}
use Rattle.rss_machine.specs.Run.{run, run_from, readings_of}
use Rattle.rss_machine.specs.State.{State, start}
use Rattle.rss_machine.specs.declared.step.Step.{Step}
use Rattle.world_laws.specs.Laws.{IsOrdered}
use Rattle.world_laws.proofs.Looks.{looks}
use Rattle.world_laws.proofs.Replies.{Sound, sound_start}
use Rattle.world_laws.proofs.Runs.{passes, run_rest, run_none}
use Rattle.world_laws.proofs.ToldLaws.{told_ticks, told_start}
use Rattle.world_laws.proofs.ToldMoves.{Fresh}
use Rattle.world_laws.proofs.ToldRuns.{AllTold}
use Rattle.reg_laws.proofs.Awaiting.{Awaiting}
use Rattle.reg_laws.proofs.Awaits.{awaited_start}
use Rattle.shard_event_laws.specs.Events.{Event}
use Rattle.shard_event_laws.specs.Known.{Known, moment_at}
use Rattle.shard_event_laws.specs.Steps.{Happens, nothing, then}
use Rattle.shard_event_laws.proofs.Clocks.{Clocked, known_of}
use Rattle.shard_event_laws.proofs.Walk.{Base, path_walk}

-- the true moments between steps
pub record Moments (s : State) : Type 0 where
  pub long : length s.moments ≡ s.steps
  pub now : moment_at s s.steps ≡ s.moment
  pub rise : (i j : ℕ) → i ≤ j → j ≤ s.steps → moment_at s i ≤ moment_at s j

-- what is known between steps
abbrev pub Rested : State → Type 0
Rested s = AllTold s × (Sound s × Awaiting s) × Moments s

pub rested_start : (c : Config) → Rested (start c)
rested_start c = (told_start c, (sound_start c, awaited_start c), record { long = refl; now = refl; rise = λ i j a b. none i j a b })
  where
    none : (i j : ℕ) → i ≤ j → j ≤ 0 → moment_at (start c) i ≤ moment_at (start c) j
    none i j a b = let e : i ≡ 0 = omega (arith, a, b) in let f : j ≡ 0 = omega (arith, b) in subst (λ (n : ℕ). moment_at (start c) n ≤ moment_at (start c) j) (sym e) (subst (λ (n : ℕ). moment_at (start c) 0 ≤ moment_at (start c) n) (sym f) (omega arith))

old_moment : (ms : List ℕ) (x i : ℕ) → i ≤ length ms → get_or (0 ∷ (ms ++ x ∷ [])) i 0 ≡ get_or (0 ∷ ms) i 0
old_moment ms x i l = grind (arith, looks, l)

new_moment : (ms : List ℕ) (x : ℕ) → get_or (0 ∷ (ms ++ x ∷ [])) (length ms + 1) 0 ≡ x
new_moment ms x = grind (arith, looks)

more_moments : (ms : List ℕ) (x : ℕ) → length (ms ++ x ∷ []) ≡ length ms + 1
more_moments ms x = grind (arith, looks)

pub clocked_ticks : (c : Config) (s : State) (step : Step) → refusal c s step ≡ None → IsOrdered step.at → Moments s → Clocked step.at (ticks s step.at)
clocked_ticks c s step e o h = record {
  counted = omega arith;
  earliest = omega arith;
  latest = omega (arith, o, admitted);
  long = (let l = h.long in let m = more_moments s.moments (moment_after s.moment step.at) in omega (arith, l, m));
  now = ap (λ (n : ℕ). moment_at (ticks s step.at) (n + 1)) (sym h.long) ∙ new_moment s.moments (moment_after s.moment step.at);
  rise = rise;
}
  where
    x : ℕ
    x = moment_after s.moment step.at

    admitted : s.moment ≤ step.at.latest
    admitted = leb-true s.moment step.at.latest (passes c s step e).admitted

    old : (i : ℕ) → i ≤ s.steps → moment_at (ticks s step.at) i ≡ moment_at s i
    old i l = old_moment s.moments x i (let n = h.long in omega (arith, l, n))

    last : moment_at (ticks s step.at) (s.steps + 1) ≡ x
    last = ap (λ (n : ℕ). moment_at (ticks s step.at) (n + 1)) (sym h.long) ∙ new_moment s.moments x

    above : s.moment ≤ x
    above = omega arith

    rise : (i j : ℕ) → i ≤ j → j ≤ s.steps + 1 → moment_at (ticks s step.at) i ≤ moment_at (ticks s step.at) j
    rise i j a b = by_last (cases_lt s.steps j)
      where
        by_first : (j ≡ s.steps + 1) → (s.steps < i) ⊎ (i ≤ s.steps) → moment_at (ticks s step.at) i ≤ moment_at (ticks s step.at) j
        by_first f (inl l) = let q : i ≡ j = omega (arith, f, l, a) in let e = ap (λ (n : ℕ). moment_at (ticks s step.at) n) q in omega (arith, e)
        by_first f (inr l) =
            let p = old i l in
            let q = ap (λ (n : ℕ). moment_at (ticks s step.at) n) f ∙ last in
            let r = h.rise i s.steps l (omega arith) in
            let n = h.now in
            omega (arith, p, q, r, n, above)

        by_last : (s.steps < j) ⊎ (j ≤ s.steps) → moment_at (ticks s step.at) i ≤ moment_at (ticks s step.at) j
        by_last (inl l) = by_first (omega (arith, l, b)) (cases_lt s.steps i)
        by_last (inr l) = let p = old i (omega (arith, l, a)) in let q = old j l in let r = h.rise i j a l in omega (arith, p, q, r)

-- a step: events lead to the state after it, which is known
pub record Stepped (c : Config) (at : Reading) (s t : State) : Type 0 where
  pub happens : Happens c at (ticks s at) t
  pub known : Known at t
  pub rested : Rested t

pub events_step : (c : Config) (s : State) (step : Step) → refusal c s step ≡ None → IsOrdered step.at → Rested s → Stepped c step.at s (stepped c s step)
events_step c s step e o h =
    let b : Base (ticks s step.at) = (told_ticks s step.at h.0, (record { first = h.1.0.first; sound = h.1.0.sound }, record { each = h.1.1.each })) in
    let f : Fresh (ticks s step.at) = record { ended = λ i. let d = (h.0.told.fits i).dates.ended in omega (arith, d) } in
    let w = path_walk c step.at (ticks s step.at) (ticks s step.at) step.kind (passes c s step e).kind f (b, (clocked_ticks c s step e o h.2, nothing)) in
    record {
      happens = w.1.1;
      known = known_of step.at (stepped c s step) w.0.0.told w.0.1.0 w.1.0;
      rested = (record { told = w.0.0.told; done = w.0.0.done }, (w.0.1.0, w.0.1.1), record { long = w.1.0.long; now = w.1.0.now; rise = w.1.0.rise });
    }

-- what each event keeps
pub happens_keep : (c : Config) (at : Reading) (P : State → Type 0) → ((s t : State) → Known at s → Known at t → Event c at s t → P s → P t) → (s t : State) → Happens c at s t → Known at t → P s → P t
happens_keep c at P f s _ nothing k h = h
happens_keep c at P f s _ (then u t p g e) k h = f u t g k e (happens_keep c at P f s u p g h)

module _ (c : Config) (P : State → Type 0) (ticked : (s : State) (at : Reading) → P s → P (ticks s at)) (kept : (at : Reading) (s t : State) → Known at s → Known at t → Event c at s t → P s → P t) where
  pub events_one : (s : State) (step : Step) → refusal c s step ≡ None → IsOrdered step.at → Rested s → P s → Rested (stepped c s step) × P (stepped c s step)
  events_one s step e o h p =
      let w = events_step c s step e o h in
      (w.rested, happens_keep c step.at P (kept step.at) (ticks s step.at) (stepped c s step) w.happens w.known (ticked s step.at p))

  pub events_from : (steps : List Step) (u s : State) → All IsOrdered (readings_of steps) → run_from c u steps ≡ Some s → Rested u → P u → Rested s × P s
  events_from [] u s a e h p = subst (λ (t : State). Rested t × P t) (run_none c u s e) (h, p)
  events_from (step ∷ steps) u s a e h p =
      let r = run_rest c u step steps s e in
      let g = events_one u step r.0 (All-head IsOrdered step.at (readings_of steps) a) h p in
      events_from steps (stepped c u step) s (All-tail IsOrdered step.at (readings_of steps) a) r.1 g.0 g.1

  pub events_run : P (start c) → (steps : List Step) (s : State) → All IsOrdered (readings_of steps) → run c steps ≡ Some s → P s
  unfolding run
  events_run p steps s a e = (events_from steps (start c) s a e (rested_start c) p).1

pub rested_run : (c : Config) (steps : List Step) (s : State) → All IsOrdered (readings_of steps) → run c steps ≡ Some s → Rested s
unfolding run
rested_run c steps s a e = (events_from c (λ t. ⊤) (λ t at h. tt) (λ at t u k l x h. tt) steps (start c) s a e (rested_start c) tt).0

pub steps_are_events : (c : Config) (steps : List Step) (s : State) (next : Step) → All IsOrdered (readings_of steps) → IsOrdered next.at → run c steps ≡ Some s → refusal c s next ≡ None → Happens c next.at (ticks s next.at) (stepped c s next) × Known next.at (stepped c s next)
steps_are_events c steps s next a o e r = let w = events_step c s next r o (rested_run c steps s a e) in (w.happens, w.known)
