-- Room for acts and steps, put together.
use Rattle.std.proofs.Common.{◌≡◌, ℕ, ◌+◌, ◌<◌, ◌≤◌, true, List, Option, Some, None, refl, sym, ap, ◌∙◌, subst, arith, vec_len, vec_capacity, length}
use Rattle.std.proofs.lemmas.Bool.Decides.{nat_tests}
use Rattle.std.specs.Option.{option_map}
use Rattle.pipeline_lang.specs.Config.{statement_at}
use Rattle.pipeline_lang.specs.declared.config.Config.{Config}
use Rattle.pipeline_lang.specs.declared.script.Statement.TheVariants as statement
use Rattle.truetime.specs.Reading.{Reading}
use Rattle.rss_model.specs.CallStatement.{op_of_statement}
use Rattle.rss_model.specs.Cursor.{NumberedStatement}
use Rattle.rss_model.specs.declared.op.Op.{Op}
use Rattle.rss_machine.specs.Enabling.{next_statement}
use Rattle.rss_machine.specs.Refusal.{refusal, kind_refusal}
use Rattle.rss_machine.specs.Standing.{is_live, exit_context}
use Rattle.rss_machine.specs.Moves.{ticks}
use Rattle.causal_context.specs.Seen.{nothing_seen}
use Rattle.rss_machine.specs.State.{State, stage_at}
use Rattle.rss_machine.specs.declared.step.Step.{Step}
use Rattle.rss_machine.specs.declared.step.StepKind.{StepKind}
use Rattle.rss_machine.specs.declared.step.StepKind.TheVariants.{Act, Go, Lose, Again, Kill, Stub}
use Rattle.rss_machine.specs.declared.step.StepRefusal.TheVariants.{StageOver, Message as OfMessage}
use Rattle.rss_machine.specs.declared.session.OwnerKind.TheVariants as kind
use Rattle.rss_wire.specs.Messages.{is_sent}
use Rattle.rss_wire.specs.Net.{deliver_refusal, again_refusal, lose_refusal}
use Rattle.owner_turns.specs.Going.{HomesFit}
use Rattle.owner_turns.specs.Whole.{OpFits, FewReplicas}
use Rattle.world_laws.specs.Numbered.{is_numbered}
use Rattle.world_parts.specs.Parts.{Staging, Traffic, stage_in, owner_in}
use Rattle.world_stages.specs.Readies.{IsReady as IsReadyIn, IsReadyFor}
use Rattle.world_stages.specs.View.{StagingView}
use Rattle.world_traffic.specs.View.{TrafficView, HasTurnRoom, IsQuiet}
use Rattle.world_machine.specs.declared.clock.Clock.{Clock}
use Rattle.world_machine.specs.declared.machine.Machine.{Machine}
use Rattle.machine_room.specs.declared.statements.Ahead.TheVariants as next
use Rattle.machine_room.specs.Ahead.{ahead_of, CallIn, AheadIn}
use Rattle.world_machine.specs.Beginning.{CallRoom, FenceStart}
use Rattle.world_machine.specs.Clock.{clock_in}
use Rattle.world_machine.specs.Machine.{state_of, SameButRoom}
use Rattle.machine_room.specs.Prepared.{EndsRoom, TurnIf}
use Rattle.world_machine.specs.Acts.{counted}
use Rattle.world_machine.specs.Rooms.{StatementRoom}
use Rattle.world_machine.specs.Ready.{IsReady, HasFacts}
use Rattle.world_machine.specs.StepRooms.{HasRoom}
use Rattle.machine_room.specs.Steady.{ActIn, KindIn}
use Rattle.world_machine.proofs.Allowed.{allowed_parts}
use Rattle.world_machine.proofs.Counted.{act_live, live_there, next_same}
use Rattle.world_machine.proofs.Sent.{deliver_sent, again_sent, lose_sent}
use Rattle.machine_room.proofs.Stepping.{has_room}
use Rattle.machine_room.proofs.Stating.{statement_made}

-- a call has its operation
call_has : (st : NumberedStatement) (variables : List ℕ) → ahead_of st ≡ next.Call → op_of_statement st variables ≡ None → ⊥
call_has (statement.Read variable key) vs e h = absurd (cc)
call_has (statement.Write key value) vs e h = absurd (cc)
call_has (statement.Snap pairs) vs e h = absurd (cc)
call_has (statement.Txn pairs guard writes) vs e h = absurd (cc)
call_has statement.Fence vs e h = absurd (cc)
call_has (statement.Wait child) vs e h = absurd (cc)
call_has (statement.Let variable value) vs e h = absurd (cc)
call_has (statement.Spawn child) vs e h = absurd (cc)
call_has (statement.Put p value) vs e h = absurd (cc)
call_has (statement.Take variable p) vs e h = absurd (cc)
call_has (statement.Close p) vs e h = absurd (cc)
call_has (statement.Repeat times) vs e h = absurd (cc)
call_has (statement.When test) vs e h = absurd (cc)
call_has statement.End vs e h = absurd (cc)
call_has statement.Exit vs e h = absurd (cc)

pub no_call : (m : Machine) (n : ℕ) (o : Option Op) → ahead_of (statement_at m.config n (stage_in m.staging.staging n).cursor.position) ≡ next.Call
    → o ≡ op_of_statement (statement_at m.config n (stage_in m.staging.staging n).cursor.position) (stage_in m.staging.staging n).cursor.variables → o ≡ None → ⊥
no_call m n o e h q = call_has (statement_at m.config n (stage_in m.staging.staging n).cursor.position) (stage_in m.staging.staging n).cursor.variables e (sym h ∙ q)

pub op_fits : (m : Machine) (n : ℕ) (x : Op) (o : Option Op) → HasFacts m
    → o ≡ op_of_statement (statement_at m.config n (stage_in m.staging.staging n).cursor.position) (stage_in m.staging.staging n).cursor.variables → o ≡ Some x → OpFits x
op_fits m n x o h e q = (h.turn.operations n x (sym e ∙ q)).fits

pub op_homed : (m : Machine) (n : ℕ) (x : Op) (o : Option Op) → HasFacts m
    → o ≡ op_of_statement (statement_at m.config n (stage_in m.staging.staging n).cursor.position) (stage_in m.staging.staging n).cursor.variables → o ≡ Some x → HomesFit m.config (kind.Calling x)
op_homed m n x o h e q = (h.turn.operations n x (sym e ∙ q)).homes

pub replicas_of : (m : Machine) → HasFacts m → FewReplicas m.config
replicas_of m h = h.turn.replicas

pub call_in : (m : Machine) (g : Staging) (at : Reading) (step n : ℕ) (st : NumberedStatement) (x : Op) (o : Option Op) → m.staging.staging ≡ g → m.op ≡ Some x
    → o ≡ op_of_statement st (stage_in g n).cursor.variables → o ≡ Some x → CallRoom m.config at m.staging m.traffic step n x → IsReadyIn m.staging 1 (stage_in g n).context 1 → CallIn m at step n st
call_in m g at step n st x o same made e q room ready = record {
  operation = x;
  made = made;
  same = ap (λ (y : Staging). op_of_statement st (stage_in y n).cursor.variables) same ∙ sym e ∙ q;
  room = room;
  ready = subst (λ (y : Staging). IsReadyIn m.staging 1 (stage_in y n).context 1) (sym same) ready;
}

pub ruleset calling = (no_call, op_fits, op_homed, replicas_of, call_in)

-- a statement
pub ahead_call : (m : Machine) (at : Reading) (step n : ℕ) (st : NumberedStatement) → ahead_of st ≡ next.Call → CallIn m at step n st → AheadIn m at step n st (ahead_of st)
ahead_call m at step n st e h = subst (AheadIn m at step n st) (sym e) h

pub ahead_fence : (m : Machine) (at : Reading) (step n : ℕ) (st : NumberedStatement) (c : Config) → ahead_of st ≡ next.Fence → m.config ≡ c → FenceStart c at m.staging m.traffic step n → AheadIn m at step n st (ahead_of st)
ahead_fence m at step n st c e same h = subst (AheadIn m at step n st) (sym e) (subst (λ (x : Config). FenceStart x at m.staging m.traffic step n) (sym same) h)

pub ahead_wait : (m : Machine) (at : Reading) (step n child : ℕ) (st : NumberedStatement) (c : Config) (s : State) → ahead_of st ≡ next.Wait child → m.config ≡ c → state_of m ≡ s → IsReadyFor c m.staging n (exit_context s child) st → AheadIn m at step n st (ahead_of st)
ahead_wait m at step n child st c s e same state h =
    subst (AheadIn m at step n st) (sym e) (subst (λ (x : Config). IsReadyFor x m.staging n (exit_context (state_of m) child) st) (sym same) (subst (λ (x : State). IsReadyFor c m.staging n (exit_context x child) st) (sym state) h))

pub ahead_other : (m : Machine) (at : Reading) (step n : ℕ) (st : NumberedStatement) (c : Config) → ahead_of st ≡ next.Other → m.config ≡ c → IsReadyFor c m.staging n nothing_seen st → AheadIn m at step n st (ahead_of st)
ahead_other m at step n st c e same h = subst (AheadIn m at step n st) (sym e) (subst (λ (x : Config). IsReadyFor x m.staging n nothing_seen st) (sym same) h)

pub ruleset aheads = (replicas_of, ahead_call, ahead_fence, ahead_wait, ahead_other)

-- a turn, if there is one to take
pub turn_made : (c : Config) (at : Reading) (v : StagingView) (t : TrafficView) (u : Traffic) (o : ℕ) (owner : Option ℕ) → owner ≡ Some o → t.traffic ≡ u → HasTurnRoom c at t o None → EndsRoom c v (owner_in u o) → TurnIf c at v t owner
turn_made c at v t u o owner e same turn ends = subst (TurnIf c at v t) (sym e) (record { turn = turn; ends = subst (λ (x : Traffic). EndsRoom c v (owner_in x o)) (sym same) ends })

pub turn_none : (c : Config) (at : Reading) (v : StagingView) (t : TrafficView) (owner : Option ℕ) → owner ≡ None → TurnIf c at v t owner
turn_none c at v t owner e = subst (TurnIf c at v t) (sym e) tt

pub ruleset turns = (turn_made, turn_none)

-- an act
pub act_owned : (m : Machine) (g : Staging) (u : Traffic) (c : Config) (at : Reading) (n o : ℕ) (owner : Option ℕ) → owner ≡ (stage_in g n).owner → owner ≡ Some o → m.config ≡ c → m.staging.staging ≡ g → m.traffic.traffic ≡ u
    → HasTurnRoom c at m.traffic o None → EndsRoom c m.staging (owner_in u o) → ActIn m n at
act_owned m g u c at n o owner e q config same traffic turn ends =
    let here : (stage_in m.staging.staging n).owner ≡ Some o = ap (λ (x : Staging). (stage_in x n).owner) same ∙ sym e ∙ q in
    record {
      owned = turn_made m.config at m.staging m.traffic u o (stage_in m.staging.staging n).owner here traffic (subst (λ (x : Config). HasTurnRoom x at m.traffic o None) (sym config) turn) (subst (λ (x : Config). EndsRoom x m.staging (owner_in u o)) (sym config) ends);
      idle = λ f. absurd (some_none o (sym here ∙ f));
    }
  where
    some_none : (x : ℕ) → Some x ≡ None → ⊥
    some_none x h = absurd (cc)

pub act_idle : (m old : Machine) (at : Reading) (n : ℕ) (owner : Option ℕ) → owner ≡ (stage_in old.staging.staging n).owner → owner ≡ None → SameButRoom old m → m.clock ≡ old.clock
    → AheadIn m at (old.clock.steps + 1) n (statement_at old.config n (stage_in old.staging.staging n).cursor.position) (ahead_of (statement_at old.config n (stage_in old.staging.staging n).cursor.position)) → ActIn m n at
act_idle m old at n owner e q same clock h =
    let st : NumberedStatement = statement_at old.config n (stage_in old.staging.staging n).cursor.position in
    let here : (stage_at (state_of m) n).owner ≡ None = ap (λ (s : State). (stage_at s n).owner) same.state ∙ sym e ∙ q in
    let is : st ≡ next_statement m.config (state_of m) n = ap (λ (s : State). next_statement old.config s n) (sym same.state) ∙ ap (λ (c : Config). next_statement c (state_of m) n) (sym same.config) in
    let made : AheadIn m at (m.clock.steps + 1) n st (ahead_of st) = subst (λ (k : Clock). AheadIn m at (k.steps + 1) n st (ahead_of st)) (sym clock) h in
    record {
      owned = turn_none m.config at m.staging m.traffic (stage_at (state_of m) n).owner here;
      idle = λ f k p. subst (StatementRoom (counted (record m { clock = k }) n) n at) (is ∙ sym (next_same m.config (state_of (record m { clock = k })) n)) (statement_made m k at n p st is made);
    }

pub ruleset acts = (act_owned, act_idle)

-- a kind that is not refused
not_some : {X Y : Type 0} (f : X → Y) (o : Option X) → option_map f o ≡ None → o ≡ None
not_some f None h = refl
not_some f (Some x) h = absurd (cc)

pub act_lives : (m : Machine) (at : Reading) (n : ℕ) → kind_refusal m.config (state_of m) at (Act n) ≡ None → is_live (stage_in m.staging.staging n).life ≡ true
act_lives m at n h = act_live m.config (state_of m) n at.earliest StageOver h

pub act_there : (m : Machine) (at : Reading) (n : ℕ) → kind_refusal m.config (state_of m) at (Act n) ≡ None → is_numbered (Act n) ≡ true → n ≤ length m.staging.staging.stages
act_there m at n h numbered = live_there (state_of m) n (grind (arith, nat_tests, numbered)) (act_lives m at n h)

pub go_sent : (m : Machine) (at : Reading) (number : ℕ) → kind_refusal m.config (state_of m) at (Go number) ≡ None → is_sent m.traffic.traffic.net number ≡ true
go_sent m at number h = deliver_sent m.traffic.traffic.net number (not_some OfMessage (deliver_refusal m.traffic.traffic.net number) h)

pub repeat_sent : (m : Machine) (at : Reading) (number : ℕ) → kind_refusal m.config (state_of m) at (Again number) ≡ None → is_sent m.traffic.traffic.net number ≡ true
repeat_sent m at number h = again_sent m.traffic.traffic.net number (not_some OfMessage (again_refusal m.traffic.traffic.net number) h)

pub loss_sent : (m : Machine) (at : Reading) (number : ℕ) → kind_refusal m.config (state_of m) at (Lose number) ≡ None → is_sent m.traffic.traffic.net number ≡ true
loss_sent m at number h = lose_sent m.traffic.traffic.net number (not_some OfMessage (lose_refusal m.traffic.traffic.net number) h)

pub ruleset kinds = (act_lives, act_there, go_sent, repeat_sent, loss_sent)

-- the step
pub steps_low : (m : Machine) (step : Step) → IsReady m → refusal m.config (state_of m) step ≡ None → m.clock.steps < 200000
steps_low m step h r = let low = (allowed_parts m.config (state_of m) step r).log in let most = h.facts.file.within.steps in omega (arith, low, most)

kind_ticked : (c : Config) (s : State) (now at : Reading) (k : StepKind) → kind_refusal c (ticks s now) at k ≡ kind_refusal c s at k
kind_ticked c s now at (Act n) = refl
kind_ticked c s now at (Go m) = refl
kind_ticked c s now at (Lose m) = refl
kind_ticked c s now at (Again m) = refl
kind_ticked c s now at (Kill n) = refl
kind_ticked c s now at (Stub n) = refl

pub kind_allowed : (m : Machine) (step : Step) → refusal m.config (state_of m) step ≡ None → kind_refusal m.config (state_of m) step.at step.kind ≡ None
kind_allowed m step r = sym (kind_ticked m.config (state_of m) step.at step.at step.kind) ∙ (allowed_parts m.config (state_of m) step r).kind

pub made : (m n : Machine) (step : Step) → KindIn m step.at step.kind → n ≡ record m { clock = n.clock } → clock_in n.clock ≡ clock_in m.clock → vec_len n.clock.moments + 1 ≤ vec_capacity n.clock.moments → IsQuiet m.traffic → HasRoom n step
made m n step h e same moments quiet = subst (λ (x : Machine). HasRoom x step) (sym e) (has_room m n.clock step h same moments quiet)
