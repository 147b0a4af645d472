-- Every run of a sound file keeps what a step needs besides the turns of owners.
use Rattle.std.proofs.Common.{◌≡◌, ℕ, zero, suc, ◌-◌, ◌≤◌, true, List, [], ◌∷◌, Option, Some, None, All, refl, sym, ◌∙◌, subst, arith}
use Rattle.std.proofs.lemmas.List.{length-map}
use Rattle.std.proofs.lemmas.List.Elements.{All-weaker}
use Rattle.truetime.specs.Reading.{IsReading}
use Rattle.rss_names.specs.declared.attempt.Attempt.{Attempt}
use Rattle.pipeline_lang.specs.declared.config.Config.{Config}
use Rattle.pipeline_lang.specs.declared.script.Statement.TheVariants as statement
use Rattle.rss_model.specs.Cursor.{NumberedStatement}
use Rattle.rss_wire.specs.declared.messages.Holder.{Holder}
use Rattle.rss_tables.specs.Lines.{Line, asleep_on}
use Rattle.rss_machine.specs.Run.{run, readings_of}
use Rattle.rss_machine.specs.Session.{Session, left_unsettled}
use Rattle.rss_machine.specs.State.{State, owner_at, start}
use Rattle.rss_machine.specs.declared.session.OwnerKind.TheVariants as kind
use Rattle.rss_machine.specs.declared.session.Session.TheVariants as session
use Rattle.rss_machine.specs.declared.step.Step.{Step}
use Rattle.pipeline_stage.specs.Statements.{opens_block}
use Rattle.owner_turns.specs.Asked.{awaited_in, awaited_holder}
use Rattle.owner_turns.specs.Whole.{KindFits}
use Rattle.turn_laws.specs.Turns.{lines_in}
use Rattle.world_laws.specs.Laws.{IsOrdered}
use Rattle.world_laws.specs.Numbered.{are_numbered}
use Rattle.world_laws.specs.Shapes.{IsSoundFile}
use Rattle.world_laws.proofs.Looks.{some_is, none_is_not}
use Rattle.world_laws.proofs.Runs.{run_is, run_ends}
use Rattle.world_laws.proofs.Scripts.{go_on_run}
use Rattle.txn_line_laws.proofs.True.{true_run}
use Rattle.txn_session_laws.specs.Standing.{UnderWay}
use Rattle.run_laws.specs.Facts.{is_opening, SleepFor, SleepersThere, RunKeeps}
use Rattle.run_laws.proofs.Facts.{keeps_run}
use Rattle.turn_facts.specs.Steps.{StepFacts}
use Rattle.turn_facts.proofs.Places.{near_run}

-- both tests of opening a block are one
opening_same : (x : NumberedStatement) → opens_block x ≡ is_opening x
opening_same (statement.Repeat turns) = refl
opening_same (statement.When test) = refl
opening_same (statement.Let variable value) = refl
opening_same (statement.Read variable key) = refl
opening_same (statement.Write key value) = refl
opening_same (statement.Snap pairs) = refl
opening_same (statement.Txn pairs guard writes) = refl
opening_same (statement.Spawn stage) = refl
opening_same (statement.Wait stage) = refl
opening_same (statement.Put pipe value) = refl
opening_same (statement.Take variable pipe) = refl
opening_same (statement.Close pipe) = refl
opening_same statement.Fence = refl
opening_same statement.End = refl
opening_same statement.Exit = refl

-- of no lines none sleeps
none_sleeps : (s : State) → SleepFor s []
none_sleeps s zero h q = absurd (none_is_not h q)
none_sleeps s (suc place) h q = absurd (none_is_not h q)

-- lines sleep for what is there, whatever is under way
sleeps : (s : State) (o : ℕ) (x : Session) → (owner_at s o).session ≡ x → SleepersThere s → SleepFor s (lines_in x)
sleeps s o (session.Transaction t) e h = h.txn o t e
sleeps s o (session.Snapshot t) e h = h.snap o t e
sleeps s o session.Idle e h = none_sleeps s
sleeps s o (session.Fixing r) e h = none_sleeps s
sleeps s o (session.Register r) e h = none_sleeps s
sleeps s o (session.Settling attempt shards) e h = none_sleeps s

-- the first attempt that a line sleeps for is of a call
awaited_called : (s : State) (lines : List Line) (a : Attempt) → SleepFor s lines → awaited_in lines ≡ Some a → 1 ≤ a.call
awaited_called s [] a f e = absurd (none_is_not a e)
awaited_called s (l ∷ lines) a f e = by_state (asleep_on l.state) refl e (awaited_called s lines a (λ place h. f (suc place) h))
  where
    by_state : (x : Option Holder) → asleep_on l.state ≡ x → awaited_holder x (awaited_in lines) ≡ Some a → (awaited_in lines ≡ Some a → 1 ≤ a.call) → 1 ≤ a.call
    by_state None q p r = r p
    by_state (Some h) q p r = subst (λ (b : Attempt). 1 ≤ b.call) (some_is h.attempt a p) (f 0 h q).call

-- a transaction under way leaves an attempt with the shards of its lines
left_fits : (c : Config) (s : State) (o : ℕ) (x : Session) → (owner_at s o).session ≡ x → UnderWay c s → RunKeeps c s → KindFits (kind.Stubbing (left_unsettled x))
left_fits c s o (session.Transaction t) e u h =
    let some = (u.framed.txn o t e).lines.some in
    let few = h.few.txn o t e in
    let n = length-map t.lines (λ (l : Line). l.shard) in
    (omega (arith, some, n), omega (arith, few, n))
left_fits c s o session.Idle e u h = tt
left_fits c s o (session.Fixing r) e u h = tt
left_fits c s o (session.Register r) e u h = tt
left_fits c s o (session.Snapshot t) e u h = tt
left_fits c s o (session.Settling attempt shards) e u h = tt

pub step_facts_run : (c : Config) (steps : List Step) (s : State) → IsSoundFile c → All IsReading (readings_of steps) → are_numbered steps ≡ true → run c steps ≡ Some s → StepFacts c s
step_facts_run c steps s f a z e = record {
  shallow = λ n l live opens. h.blocks n (omega (arith, l)) live (sym (opening_same _) ∙ opens);
  holders = λ o place holder q. (sleeps s o (owner_at s o).session refl h.sleepers place holder q).last;
  first = ((go_on_run c [] steps (start c) s (run_is c [] (start c) (run_ends c (start c))) e).each 0 (omega arith)).kind;
  left = λ o. left_fits c s o (owner_at s o).session refl under h;
  positions = λ n. (let p = ((near_run c steps s f.within.scripts e).each (n - 1)).position in omega (arith, p, made, most));
  calls = λ o attempt q. awaited_called s (lines_in (owner_at s o).session) attempt (sleeps s o (owner_at s o).session refl h.sleepers) q;
  stages = (let m = h.ready.sizes.stages in let k = f.within.stages in omega (arith, m, k));
  acts = λ n. (let m = h.ready.sizes.acts n in omega (arith, m, made, most));
}
  where
    h : RunKeeps c s
    h = keeps_run c steps s f a z e

    under : UnderWay c s
    under = (true_run c steps s f.keys (All-weaker IsReading IsOrdered (λ at k. k.0) (readings_of steps) a) e).under

    made : s.steps ≤ c.max_steps
    made = h.ready.sizes.steps

    most : c.max_steps ≤ 200000
    most = f.within.steps
