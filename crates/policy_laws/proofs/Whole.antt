-- The serial policy ends where the log is full or no stage has a step: its clock always has a reading above the time that a
-- turn waits for.
use Rattle.std.proofs.Common.{◌≡◌, ◌⊎◌, inl, inr, ℕ, zero, suc, ◌+◌, ◌-◌, ◌*◌, ◌<◌, ◌≤◌, ◌^◌, max, Bool, true, false, List, [], ◌∷◌, ◌++◌, length, Option, Some, None, refl, sym, ap, ◌∙◌, subst, arith}
use Rattle.std.proofs.lemmas.Bool.{true≢false}
use Rattle.std.proofs.lemmas.Bool.Decides.{nat_tests}
use Rattle.std.proofs.lemmas.List.{append_assoc, append-nil}
use Rattle.std.specs.List.{list_any}
use Rattle.std.specs.Option.{option_map}
use Rattle.std.specs.Prelude.{⊤, if◌then◌else◌}
use Rattle.truetime.specs.Reading.{Reading}
use Rattle.pipeline_lang.specs.declared.config.Config.{Config}
use Rattle.rss_wire.specs.declared.envelope.Envelope.{Envelope}
use Rattle.rss_tables.specs.declared.endings.Await.{Await}
use Rattle.rss_tables.specs.Lines.{Line}
use Rattle.rss_tables.specs.TransactionSession.{TxnSession, waiting_time}
use Rattle.rss_tables.specs.declared.phases.TxnPhase.{TxnPhase}
use Rattle.rss_tables.specs.declared.phases.TxnPhase.TheVariants as phase
use Rattle.rss_machine.specs.Effect.{stepped}
use Rattle.rss_machine.specs.Enabling.{next_statement, can_make, whether, can_wake, txn_enabling, session_enabling, owner_enabling, live_enabling, act_enabling, stub_waits, stub_enabling_of, stub_enabling}
use Rattle.rss_machine.specs.Endings.{awaits_of}
use Rattle.rss_machine.specs.Refusal.{refusal}
use Rattle.rss_machine.specs.Run.{run, run_from}
use Rattle.rss_machine.specs.Serial.{Stepping, serial_clock, reading_of, can_read_at, ticked, moved_to, passed, step_with, turn_step, has_step, first_stage, stage_under_way, step_of_stage, followed_by, serial_from, serial}
use Rattle.rss_machine.specs.Session.{Session}
use Rattle.rss_machine.specs.Standing.{is_live, is_running}
use Rattle.rss_machine.specs.State.{State, start, stage_at, owner_at}
use Rattle.rss_machine.specs.Turns.{due_message, is_withheld, message_turn, kills_at, turn_of, blocked_on, live_turn, life_turn, turn_after, next_for}
use Rattle.rss_machine.specs.declared.session.Session.TheVariants as session
use Rattle.rss_machine.specs.declared.state.Life.{Life}
use Rattle.rss_machine.specs.declared.state.Life.TheVariants.{Unborn, Live, Over}
use Rattle.rss_machine.specs.declared.step.Step.{Step}
use Rattle.rss_machine.specs.declared.step.StepKind.{StepKind}
use Rattle.rss_machine.specs.declared.step.StepKind.TheVariants.{Act, Go, Lose, Kill, Stub}
use Rattle.rss_machine.specs.declared.turn.Enabling.{Enabling}
use Rattle.rss_machine.specs.declared.turn.Enabling.TheVariants.{Never, Always, After}
use Rattle.rss_machine.specs.declared.turn.Turn.{Turn}
use Rattle.rss_machine.specs.declared.turn.Turn.TheVariants as turn
use Rattle.world_laws.specs.Shapes.{IsSoundFile}
use Rattle.world_laws.specs.Times.{WaitUpTo, TxnPhaseUpTo, TxnUpTo, most_margin}
use Rattle.world_laws.proofs.Looks.{some_is, none_is_not}
use Rattle.world_laws.proofs.Runs.{run_more}
use Rattle.size_laws.specs.Fine.{SessionFine, AllFine}
use Rattle.size_laws.proofs.Raised.{all_more}
use Rattle.size_laws.proofs.Runs.{fine_step, fine_start}
use Rattle.policy_laws.specs.Laws.{IsAhead, IsTaken, HaveNone, IsWhole}
use Rattle.policy_laws.proofs.Taken.{of_turn, step_taken}

-- TIMES THAT ARE WAITED FOR

abbrev EnabledUpTo : ℕ → Enabling → Type 0
EnabledUpTo b Never = ⊤
EnabledUpTo b Always = ⊤
EnabledUpTo b (After time) = time ≤ b + most_margin

whether_up : (b : ℕ) (t : Bool) → EnabledUpTo b (whether t)
whether_up b true = tt
whether_up b false = tt

txn_up : (b : ℕ) (s : State) (t : TxnSession) (p : TxnPhase) → t.phase ≡ p → TxnUpTo b t → EnabledUpTo b (txn_enabling s (waiting_time t p) t.lines)
txn_up b s t (phase.Waiting time) e h =
    let early = h.earliest_end in
    let of_phase : TxnPhaseUpTo b (phase.Waiting time) = subst (TxnPhaseUpTo b) e h.of_phase in
    omega (arith, early, of_phase)
txn_up b s t phase.Locking e h = whether_up b (list_any (can_wake s) t.lines)
txn_up b s t phase.Preparing e h = whether_up b (list_any (can_wake s) t.lines)
txn_up b s t (phase.Freeing time) e h = whether_up b (list_any (can_wake s) t.lines)
txn_up b s t (phase.FreeingLast time) e h = whether_up b (list_any (can_wake s) t.lines)
txn_up b s t (phase.Deciding time) e h = whether_up b (list_any (can_wake s) t.lines)
txn_up b s t phase.Undoing e h = whether_up b (list_any (can_wake s) t.lines)
txn_up b s t (phase.Committed time) e h = whether_up b (list_any (can_wake s) t.lines)
txn_up b s t (phase.Failed time) e h = whether_up b (list_any (can_wake s) t.lines)

session_up : (b : ℕ) (s : State) (x : Session) → SessionFine b x → EnabledUpTo b (session_enabling s x)
session_up b s (session.Transaction t) h = txn_up b s t t.phase refl h
session_up b s (session.Snapshot t) h = whether_up b (list_any (can_wake s) t.lines)
session_up b s session.Idle h = tt
session_up b s (session.Fixing r) h = tt
session_up b s (session.Register r) h = tt
session_up b s (session.Settling attempt shards) h = tt

owner_up : (b : ℕ) (s : State) (wait : Option ℕ) (x : Session) → WaitUpTo b wait → SessionFine b x → EnabledUpTo b (owner_enabling s wait x)
owner_up b s None x w h = session_up b s x h
owner_up b s (Some time) x w h = omega (arith, w)

live_up : (b : ℕ) (c : Config) (s : State) (n : ℕ) (o : Option ℕ) → AllFine b s → EnabledUpTo b (live_enabling c s n o)
live_up b c s n None h = whether_up b (can_make c s (next_statement c s n))
live_up b c s n (Some o) h = owner_up b s (owner_at s o).works.wait (owner_at s o).session (h.owners o).wait (h.owners o).session

act_up : (b : ℕ) (c : Config) (s : State) (n : ℕ) → AllFine b s → EnabledUpTo b (act_enabling c s n)
act_up b c s n h = by_life (is_live (stage_at s n).life)
  where
    by_life : (t : Bool) → EnabledUpTo b (if t then live_enabling c s n (stage_at s n).owner else Never)
    by_life true = live_up b c s n (stage_at s n).owner h
    by_life false = tt

stub_waits_up : (b : ℕ) (started : Bool) (wait : Option ℕ) → WaitUpTo b wait → EnabledUpTo b (stub_waits started wait)
stub_waits_up b false wait w = tt
stub_waits_up b true None w = tt
stub_waits_up b true (Some time) w = omega (arith, w)

stub_up : (b : ℕ) (s : State) (o : Option ℕ) → AllFine b s → EnabledUpTo b (stub_enabling_of s o)
stub_up b s None h = tt
stub_up b s (Some o) h = by_fate (is_running (owner_at s o).fate)
  where
    by_fate : (t : Bool) → EnabledUpTo b (if t then stub_waits (owner_at s o).started (owner_at s o).works.wait else Never)
    by_fate true = stub_waits_up b (owner_at s o).started (owner_at s o).works.wait (h.owners o).wait
    by_fate false = tt

-- of turns
abbrev TurnUpTo : ℕ → Turn → Type 0
TurnUpTo b (turn.Step kind) = ⊤
TurnUpTo b (turn.Past kind time) = time ≤ b + most_margin
TurnUpTo b (turn.Blocked a) = ⊤
TurnUpTo b turn.Unborn = ⊤
TurnUpTo b turn.Over = ⊤

blocked_up : (b : ℕ) (o : Option Await) → TurnUpTo b (blocked_on o)
blocked_up b None = tt
blocked_up b (Some a) = tt

live_turn_up : (b : ℕ) (c : Config) (s : State) (n : ℕ) (x : Enabling) → EnabledUpTo b x → TurnUpTo b (live_turn c s n x)
live_turn_up b c s n Never h = blocked_up b (awaits_of c s n (stage_at s n).owner)
live_turn_up b c s n Always h = tt
live_turn_up b c s n (After time) h = by_file (kills_at c n ((stage_at s n).acts + 1))
  where
    by_file : (t : Bool) → TurnUpTo b (if t then turn.Step (Kill n) else turn.Past (Act n) time)
    by_file true = tt
    by_file false = h

settle_up : (b n : ℕ) (x : Enabling) → EnabledUpTo b x → TurnUpTo b (turn_of (Stub n) turn.Over x)
settle_up b n Never h = tt
settle_up b n Always h = tt
settle_up b n (After time) h = h

life_up : (b : ℕ) (c : Config) (s : State) (n : ℕ) (l : Life) → AllFine b s → TurnUpTo b (life_turn c s n l)
life_up b c s n Unborn h = tt
life_up b c s n Live h = live_turn_up b c s n (act_enabling c s n) (act_up b c s n h)
life_up b c s n (Over how) h = settle_up b n (stub_enabling s n) (stub_up b s (stage_at s n).stub h)

turn_up : (b : ℕ) (c : Config) (s : State) (n : ℕ) (o : Option Envelope) → AllFine b s → TurnUpTo b (turn_after c s n o)
turn_up b c s n None h = life_up b c s n (stage_at s n).life h
turn_up b c s n (Some e) h = tt

-- THE CLOCK IS EARLY

-- how far the clock goes in a step, and where it stands at most
abbrev stride : ℕ
stride = 1300000

record IsEarly (c : Config) (s : State) (clock : Stepping) : Type 0 where
  tick : clock.tick ≡ 10
  half : clock.half ≡ 5
  early : clock.now ≤ 1000 + s.steps * stride
  fine : AllFine (clock.now + clock.half + 1 + s.steps) s

readable : (clock : Stepping) (time steps : ℕ) → clock.half ≡ 5 → time ≤ 1000 + steps * stride → steps ≤ 200000 → can_read_at clock time ≡ true
readable clock time steps half l k =
    let m : time ≤ 1000 + 200000 * stride = omega (arith, l, k) in
    grind (arith, nat_tests, half, m)

-- a clock behind a step
record GoesOn (s : State) (clock after : Stepping) : Type 0 where
  tick : after.tick ≡ 10
  half : after.half ≡ 5
  later : clock.now ≤ after.now
  near : after.now ≤ 1000 + (s.steps + 1) * stride

ticked_on : (c : Config) (s : State) (clock : Stepping) → IsEarly c s clock → GoesOn s clock (ticked clock)
ticked_on c s clock h = by_limit (can_read_at clock (clock.now + clock.tick))
  where
    early : clock.now ≤ 1000 + s.steps * stride
    early = h.early

    by_limit : (t : Bool) → GoesOn s clock (if t then record clock { now = clock.now + clock.tick } else clock)
    by_limit true = let tick = h.tick in record { tick = h.tick; half = h.half; later = omega arith; near = omega (arith, early, tick) }
    by_limit false = record { tick = h.tick; half = h.half; later = omega arith; near = omega (arith, early) }

-- the clock after a reading above a time that is not far
passed_on : (c : Config) (s : State) (clock : Stepping) (time : ℕ) → IsEarly c s clock → s.steps < 200000 → time ≤ clock.now + clock.half + 1 + s.steps + most_margin → (after : Stepping) × (passed clock time ≡ Some after) × GoesOn s clock after
passed_on c s clock time h k l =
    let m = max (clock.now + clock.tick) (time + 1 + clock.half) in
    let early = h.early in
    let tick = h.tick in
    let half = h.half in
    let near : m ≤ 1000 + (s.steps + 1) * stride = omega (arith, early, tick, half, l, k) in
    let read : can_read_at clock m ≡ true = readable clock m (s.steps + 1) half near (omega (arith, k)) in (
      record clock { now = m },
      ap (λ (t : Bool). if t then Some (record clock { now = m }) else None) read,
      record { tick = h.tick; half = h.half; later = omega arith; near = near },
    )

record IsMade (c : Config) (s : State) (clock : Stepping) (t : Turn) : Type 0 where
  made : Step × Stepping
  is : turn_step clock t ≡ Some made
  reading : made.0.at ≡ reading_of made.1
  on : GoesOn s clock made.1

turn_made : (c : Config) (s : State) (clock : Stepping) (t : Turn) → has_step t ≡ true → IsEarly c s clock → s.steps < 200000 → TurnUpTo (clock.now + clock.half + 1 + s.steps) t → IsMade c s clock t
turn_made c s clock (turn.Step kind) e h k l = record { made = step_with kind (ticked clock); is = refl; reading = refl; on = ticked_on c s clock h }
turn_made c s clock (turn.Past kind time) e h k l =
    let p = passed_on c s clock time h k l in
    record { made = step_with kind p.0; is = ap (option_map (step_with kind)) p.1; reading = refl; on = p.2 }
turn_made c s clock (turn.Blocked a) e h k l = absurd (true≢false (sym e))
turn_made c s clock turn.Unborn e h k l = absurd (true≢false (sym e))
turn_made c s clock turn.Over e h k l = absurd (true≢false (sym e))

-- STAGES

this_or_later : (n k : ℕ) → n ≤ k → (n ≡ k) ⊎ (n + 1 ≤ k)
this_or_later n k a = grind (arith, a)

found : (c : Config) (s : State) (n left : ℕ) → 1 ≤ n → ((first_stage c s n left ≡ 0) × ((k : ℕ) → n ≤ k → k < n + left → has_step (next_for c s k) ≡ false)) ⊎ ((1 ≤ first_stage c s n left) × (has_step (next_for c s (first_stage c s n left)) ≡ true))
found c s n zero z = inl (refl, λ k a b. absurd (omega (arith, a, b)))
found c s n (suc left) z = by_turn (has_step (next_for c s n)) refl (found c s (n + 1) left (omega arith))
  where
    P : ℕ → Type 0
    P m = ((m ≡ 0) × ((k : ℕ) → n ≤ k → k < n + suc left → has_step (next_for c s k) ≡ false)) ⊎ ((1 ≤ m) × (has_step (next_for c s m) ≡ true))

    here_or : has_step (next_for c s n) ≡ false → ((k : ℕ) → n + 1 ≤ k → k < n + 1 + left → has_step (next_for c s k) ≡ false) → (k : ℕ) → n ≤ k → k < n + suc left → has_step (next_for c s k) ≡ false
    here_or e f k a b = by_place (this_or_later n k a)
      where
        by_place : (n ≡ k) ⊎ (n + 1 ≤ k) → has_step (next_for c s k) ≡ false
        by_place (inl q) = subst (λ (m : ℕ). has_step (next_for c s m) ≡ false) q e
        by_place (inr l) = f k l (omega (arith, b))

    by_turn : (t : Bool) → has_step (next_for c s n) ≡ t → ((first_stage c s (n + 1) left ≡ 0) × ((k : ℕ) → n + 1 ≤ k → k < n + 1 + left → has_step (next_for c s k) ≡ false)) ⊎ ((1 ≤ first_stage c s (n + 1) left) × (has_step (next_for c s (first_stage c s (n + 1) left)) ≡ true)) → P (if t then n else first_stage c s (n + 1) left)
    by_turn true e later = inr (z, e)
    by_turn false e (inl p) = inl (p.0, here_or e p.1)
    by_turn false e (inr p) = inr p

under_way : (c : Config) (s : State) (n : ℕ) → 1 ≤ n → ((stage_under_way c s n ≡ 0) × HaveNone c s) ⊎ ((1 ≤ stage_under_way c s n) × (has_step (next_for c s (stage_under_way c s n)) ≡ true))
under_way c s n z = by_turn (has_step (next_for c s n)) refl (found c s 1 (length s.stages) (omega arith))
  where
    by_turn : (t : Bool) → has_step (next_for c s n) ≡ t → ((first_stage c s 1 (length s.stages) ≡ 0) × ((k : ℕ) → 1 ≤ k → k < 1 + length s.stages → has_step (next_for c s k) ≡ false)) ⊎ ((1 ≤ first_stage c s 1 (length s.stages)) × (has_step (next_for c s (first_stage c s 1 (length s.stages))) ≡ true)) → (((if t then n else first_stage c s 1 (length s.stages)) ≡ 0) × HaveNone c s) ⊎ ((1 ≤ (if t then n else first_stage c s 1 (length s.stages))) × (has_step (next_for c s (if t then n else first_stage c s 1 (length s.stages))) ≡ true))
    by_turn true e first = inr (z, e)
    by_turn false e (inl p) = inl (p.0, λ k a b. p.1 k a (omega (arith, b)))
    by_turn false e (inr p) = inr p

-- THE POLICY

step_early : (c : Config) (s : State) (clock : Stepping) (made : Step × Stepping) → IsSoundFile c → IsTaken c s made → made.0.at ≡ reading_of made.1 → GoesOn s clock made.1 → IsEarly c s clock → IsEarly c (stepped c s made.0) made.1
step_early c s clock made f k reading on h =
    let limit : ℕ = made.1.now + made.1.half + 1 in
    let latest : made.0.at.latest ≡ made.1.now + made.1.half = ap (λ (at : Reading). at.latest) reading in
    let counted = k.counted in
    let near = on.near in
    let later = on.later in
    let half = on.half in
    let before = h.half in
    record {
      tick = on.tick;
      half = on.half;
      early = omega (arith, near, counted);
      fine = fine_step limit c s made.0 f (omega (arith, latest)) k.allowed (all_more (clock.now + clock.half + 1 + s.steps) (limit + s.steps) s (omega (arith, later, half, before)) h.fine);
    }

whole_here : (c : Config) (steps : List Step) (s : State) → run c steps ≡ Some s → (s.steps ≡ c.max_steps) ⊎ HaveNone c s → IsWhole c (steps ++ [])
whole_here c steps s e h = record { state = s; runs = ap (run c) (append-nil steps) ∙ e; ends = h }

whole_from : (left : ℕ) (c : Config) (steps : List Step) (s : State) (clock : Stepping) (n : ℕ) → IsSoundFile c → 1 ≤ n → run c steps ≡ Some s → s.steps + left ≡ c.max_steps → IsAhead clock s → IsEarly c s clock → IsWhole c (steps ++ serial_from left c s clock n)
unfolding serial_from
whole_from zero c steps s clock n f z e r a h = whole_here c steps s e (inl (omega (arith, r)))
whole_from (suc left) c steps s clock n f z e r a h =
    let m = stage_under_way c s n in
    by_stage (under_way c s n z)
    (λ made p k g. let q = k.counted in
    whole_from left c (steps ++ made.0 ∷ []) (stepped c s made.0) made.1 m f p (run_more c steps s made.0 e k.allowed) (omega (arith, q, r)) k.ahead g)
  where
    m : ℕ
    m = stage_under_way c s n

    rest : Step × Stepping → List Step
    rest made = serial_from left c (stepped c s made.0) made.1 m

    by_stage : ((m ≡ 0) × HaveNone c s) ⊎ ((1 ≤ m) × (has_step (next_for c s m) ≡ true)) → ((made : Step × Stepping) → 1 ≤ m → IsTaken c s made → IsEarly c (stepped c s made.0) made.1 → IsWhole c ((steps ++ made.0 ∷ []) ++ rest made)) → IsWhole c (steps ++ followed_by (step_of_stage c s clock m) rest)
    by_stage (inl q) later =
        let none : step_of_stage c s clock m ≡ None = ap (step_of_stage c s clock) q.0 in
        subst (λ (o : Option (Step × Stepping)). IsWhole c (steps ++ followed_by o rest)) (sym none) (whole_here c steps s e (inr q.1))
    by_stage (inr p) later =
        let most = f.within.steps in
        let x = turn_made c s clock (next_for c s m) p.1 h (omega (arith, r, most)) (turn_up (clock.now + clock.half + 1 + s.steps) c s m (due_message m s.net) h.fine) in
        let some : step_of_stage c s clock m ≡ Some x.made = of_turn c s clock m p.0 ∙ x.is in
        let k = step_taken c steps s clock m x.made e (omega (arith, r)) a some in
        subst (λ (o : Option (Step × Stepping)). IsWhole c (steps ++ followed_by o rest)) (sym some)
        (subst (IsWhole c) (append_assoc steps (x.made.0 ∷ []) (rest x.made)) (later x.made p.0 k (step_early c s clock x.made f k x.reading x.on h)))

pub serial_whole : (c : Config) → IsSoundFile c → IsWhole c (serial c)
unfolding run run_from
serial_whole c f =
    whole_from c.max_steps c [] (start c) serial_clock 1 f (omega arith) refl (omega arith) (omega arith)
    (record { tick = refl; half = refl; early = omega arith; fine = fine_start (serial_clock.now + serial_clock.half + 1 + 0) c })
