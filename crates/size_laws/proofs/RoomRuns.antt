-- In every run a pipe has no more chunks than its capacity, and a step plans sixteen fences of a service at most.
use Rattle.std.proofs.Common.{◌≡◌, ℕ, ◌+◌, ◌*◌, ◌-◌, ◌<◌, ◌≤◌, ◌^◌, List, [], ◌∷◌, length, get_or, Some, None, All, subst, arith}
use Rattle.std.specs.Prelude.{replicate}
use Rattle.std.proofs.lemmas.List.Elements.{All-head, All-tail, All-weaker}
use Rattle.truetime.specs.Reading.{Reading, IsReading}
use Rattle.pipeline_lang.specs.declared.config.Config.{Config}
use Rattle.rss_tables.specs.Pipes.{opening_pipe}
use Rattle.rss_machine.specs.Effect.{stepped}
use Rattle.rss_machine.specs.Moves.{ticks}
use Rattle.rss_machine.specs.Refusal.{refusal}
use Rattle.rss_machine.specs.Run.{run, run_from, readings_of}
use Rattle.rss_machine.specs.State.{State, start}
use Rattle.rss_machine.specs.declared.step.Step.{Step}
use Rattle.world_laws.specs.Shapes.{IsSoundFile}
use Rattle.world_laws.specs.Sizes.{HasRoom}
use Rattle.world_laws.proofs.Clock.{clock_step}
use Rattle.world_laws.proofs.Looks.{get_or_repeat}
use Rattle.world_laws.proofs.Runs.{passes, run_rest, run_none}
use Rattle.size_laws.specs.Fine.{AllFine}
use Rattle.size_laws.proofs.Rooms.{Roomy, Steps, s_effect}
use Rattle.size_laws.proofs.Runs.{fine_step, fine_start}

-- what is counted, with what it rests on
pub record Counted (limit : ℕ) (c : Config) (s : State) : Type 0 where
  pub fine : AllFine (limit + s.steps) s
  pub room : Roomy c s.pipes
  pub planned : (place : ℕ) → get_or s.planned place 0 ≤ 16 * s.steps

counted_step : (limit : ℕ) (c : Config) (s : State) (step : Step) → IsSoundFile c → step.at.latest < limit → refusal c s step ≡ None → Counted limit c s → Counted limit c (stepped c s step)
counted_step limit c s step f l r h = record {
  fine = fine_step limit c s step f l r h.fine;
  room = grown.room h.room;
  planned = λ p. (let a = grown.planned p in let b = h.planned p in omega (arith, a, b, counted));
}
  where
    u : State
    u = ticks s step.at

    before : AllFine (limit + s.steps) (ticks s step.at)
    before = record { told = h.fine.told; owners = h.fine.owners; stages = h.fine.stages; pipes = h.fine.pipes; shards = h.fine.shards }

    grown : Steps c (ticks s step.at) (stepped c s step)
    grown = s_effect (limit + s.steps) c (ticks s step.at) step.at step.kind (passes c s step r).kind before

    counted : (stepped c s step).steps ≡ s.steps + 1
    counted = (clock_step c s step r).0

counted_from : (limit : ℕ) (c : Config) (steps : List Step) (u s : State) → IsSoundFile c → All (λ (at : Reading). at.latest < limit) (readings_of steps) → Counted limit c u → run_from c u steps ≡ Some s → Counted limit c s
counted_from limit c [] u s f a h e = subst (Counted limit c) (run_none c u s e) h
counted_from limit c (step ∷ steps) u s f a h e =
    let t = run_rest c u step steps s e in
    let P = λ (at : Reading). at.latest < limit in
    counted_from limit c steps (stepped c u step) s f (All-tail P step.at (readings_of steps) a) (counted_step limit c u step f (All-head P step.at (readings_of steps) a) t.0 h) t.1

counted_start : (limit : ℕ) (c : Config) → Counted limit c (start c)
counted_start limit c = record {
  fine = fine_start (limit + 0) c;
  room = λ i. (let q = empty (length c.pipe_ends) i in omega (arith, q));
  planned = λ p. (let q = zero_at p in omega (arith, q));
}
  where
    empty : (n i : ℕ) → length (get_or (replicate n opening_pipe) i opening_pipe).chunks ≡ 0
    empty n i = let q = get_or_repeat n opening_pipe i opening_pipe in grind (arith, q)

    zero_at : (p : ℕ) → ◌≡◌ {A = ℕ} (get_or (replicate 16 0) p 0) 0
    zero_at p = let q = get_or_repeat {X = ℕ} 16 0 p 0 in grind (arith, q)

pub counted_run : (limit : ℕ) (c : Config) (steps : List Step) (s : State) → IsSoundFile c → All (λ (at : Reading). at.latest < limit) (readings_of steps) → run c steps ≡ Some s → Counted limit c s
unfolding run
counted_run limit c steps s f a e = counted_from limit c steps (start c) s f a (counted_start limit c) e

-- as the laws say it
pub counted_read : (c : Config) (steps : List Step) (s : State) → IsSoundFile c → All IsReading (readings_of steps) → run c steps ≡ Some s → Counted (2 ^ 62) c s
counted_read c steps s f a e = counted_run (2 ^ 62) c steps s f (All-weaker IsReading (λ (at : Reading). at.latest < 2 ^ 62) (λ at k. k.1) (readings_of steps) a) e

pub room_run : (c : Config) (steps : List Step) (s : State) → IsSoundFile c → All IsReading (readings_of steps) → run c steps ≡ Some s → HasRoom c s
room_run c steps s f a e = let h = (counted_read c steps s f a e).room in record { chunks = λ p. h (p - 1) }
