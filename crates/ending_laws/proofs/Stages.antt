-- What a step does to the lives of stages: where it loses no message and kills no stage, none is killed by it; and there are as
-- many stages behind any step as before it.
use Rattle.std.proofs.Common.{◌≡◌, ◌⊎◌, inl, inr, ℕ, ◌+◌, ◌-◌, ◌<◌, ◌≤◌, Bool, true, false, List, [], ◌∷◌, ◌++◌, length, get_or, Option, Some, None, refl, sym, ap, ◌∙◌, subst, arith}
use Rattle.std.proofs.Math.ListN.{set, length-set}
use Rattle.std.proofs.lemmas.Bool.{cond_both, true≢false}
use Rattle.std.specs.Prelude.{nat_lt, if◌then◌else◌}
use Rattle.truetime.specs.Reading.{Reading}
use Rattle.rss_names.specs.declared.service.Key.{Key}
use Rattle.rss_names.specs.declared.service.Target.{Target}
use Rattle.rss_names.specs.declared.service.Target.TheVariants.{Shard, Replica}
use Rattle.causal_context.specs.Seen.{Seen}
use Rattle.pipeline_lang.specs.Config.{replicas_of}
use Rattle.pipeline_lang.specs.declared.config.Config.{Config}
use Rattle.pipeline_lang.specs.declared.config.PipeEnds.{PipeEnds}
use Rattle.pipeline_lang.specs.declared.script.Statement.{Statement}
use Rattle.pipeline_lang.specs.declared.script.Statement.TheVariants as statement
use Rattle.rss_model.specs.CallStatement.{op_of_statement}
use Rattle.rss_model.specs.declared.history.How.{How}
use Rattle.rss_model.specs.declared.history.How.TheVariants.{Exited, Killed, Unavailable}
use Rattle.rss_model.specs.declared.op.Op.{Op}
use Rattle.rss_wire.specs.declared.envelope.Envelope.{Envelope}
use Rattle.rss_wire.specs.declared.message.Body.{Body as MessageBody}
use Rattle.rss_wire.specs.declared.message.Body.TheVariants as body
use Rattle.rss_wire.specs.declared.message.Fate.{Fate}
use Rattle.rss_wire.specs.declared.message.Fate.TheVariants as fate
use Rattle.rss_wire.specs.declared.messages.Reply.{Reply}
use Rattle.rss_wire.specs.declared.messages.Request.{Request}
use Rattle.rss_wire.specs.Messages.{message_at}
use Rattle.rss_tables.specs.declared.endings.StubEnd.TheVariants.{Fenced, Unfenced}
use Rattle.rss_tables.specs.Losses.{losses_of, reaches_tries, is_quorum_lost}
use Rattle.rss_tables.specs.Outs.{Out}
use Rattle.rss_tables.specs.Pipes.{Chunk, EndMark, no_mark, fenced_mark, bare_mark}
use Rattle.rss_machine.specs.Effect.{begins_call, takes_end, takes, waits_over, makes, acts, request_comes, owner_hears, reply_comes, comes, target_lost, is_cut_off, asks_again, replaces, loss_counts, loses, stub_of_stage, effect, stepped, waking_line}
use Rattle.rss_machine.specs.Calls.{goes_on_with_works}
use Rattle.rss_machine.specs.Enabling.{next_statement, stub_waits, stub_enabling_of, is_enabled_at}
use Rattle.rss_machine.specs.Moves.{ticks, marks_message, sends_one, sends, opens_call, opens_fence, listens, closes, cuts_pipe, closes_from, cuts_from, is_to_end, exits, closes_owner, dies, counts_act, counts_loss, cuts_off}
use Rattle.rss_machine.specs.Refusal.{refusal, kind_refusal, unless_enabled}
use Rattle.rss_machine.specs.Slots.{slot_in}
use Rattle.rss_machine.specs.Standing.{is_running, stage_state}
use Rattle.rss_machine.specs.State.{State, Stage, Owner, stage_at, owner_at, pipe_at, no_stage}
use Rattle.rss_machine.specs.declared.ending.StageState.{StageState}
use Rattle.rss_machine.specs.declared.ending.StageState.TheVariants as standing
use Rattle.rss_machine.specs.declared.session.OwnerKind.{OwnerKind}
use Rattle.rss_machine.specs.declared.session.OwnerKind.TheVariants as kind
use Rattle.rss_machine.specs.declared.state.Life.{Life}
use Rattle.rss_machine.specs.declared.state.Life.TheVariants.{Live, Over}
use Rattle.rss_machine.specs.declared.state.OwnerFate.{OwnerFate}
use Rattle.rss_machine.specs.declared.state.OwnerFate.TheVariants.{Dropped}
use Rattle.rss_machine.specs.declared.step.Step.{Step}
use Rattle.rss_machine.specs.declared.step.StepKind.{StepKind}
use Rattle.rss_machine.specs.declared.step.StepKind.TheVariants.{Act, Go, Lose, Again, Kill, Stub}
use Rattle.rss_machine.specs.declared.turn.Enabling.TheVariants.{Never}
use Rattle.world_laws.proofs.Looks.{looks, get_or_set, some_is, none_is_not, some_is_not}
use Rattle.world_laws.proofs.Runs.{passes}
use Rattle.world_laws.proofs.StagesOwned.{running_there}
use Rattle.world_laws.proofs.ToldLaws.{told_ticks}
use Rattle.world_laws.proofs.ToldRuns.{AllTold, Stepping, current_runs, pipes_step}
use Rattle.turn_laws.specs.Turns.{OwnerTurn, TurnEnd, goes, replied, fence_over, stub_over, turns, ends_turn, takes_turn, begin_turn, hear_turn, act_turn, lines_in, stub_turn}
use Rattle.turn_laws.proofs.Acts.{acting_is_a_turn, stubs_take_turns}
use Rattle.turn_laws.proofs.Hears.{hearing_is_a_turn}
use Rattle.turn_laws.proofs.Works.{beginning_is_a_turn}
use Rattle.ending_laws.proofs.Turns.{is_mild}

-- as many stages, none of them killed anew
pub record LivesOn (xs ys : List Stage) : Type 0 where
  pub long : length ys ≡ length xs
  pub dead : (i : ℕ) → (get_or ys i no_stage).life ≡ Over Killed → (get_or xs i no_stage).life ≡ Over Killed

pub alike : (xs ys : List Stage) → ys ≡ xs → LivesOn xs ys
alike xs ys e = record { long = ap (λ (zs : List Stage). length zs) e; dead = λ i k. subst (λ (zs : List Stage). (get_or zs i no_stage).life ≡ Over Killed) e k }

pub lives_then : (xs ys zs : List Stage) → LivesOn xs ys → LivesOn ys zs → LivesOn xs zs
lives_then xs ys zs a b = record { long = b.long ∙ a.long; dead = λ i k. a.dead i (b.dead i k) }

lives_set : (xs : List Stage) (n : ℕ) (x : Stage) → (x.life ≡ Over Killed → (get_or xs n no_stage).life ≡ Over Killed) → LivesOn xs (set xs n x)
lives_set xs n x f = record { long = length-set xs n x; dead = λ i k. dead i k (get_or_set xs n x i no_stage) }
  where
    dead : (i : ℕ) → (get_or (set xs n x) i no_stage).life ≡ Over Killed → ((get_or (set xs n x) i no_stage ≡ x) × (i ≡ n) × (n < length xs)) ⊎ ((get_or (set xs n x) i no_stage ≡ get_or xs i no_stage) × ((i ≡ n → ⊥) ⊎ (length xs ≤ i))) → (get_or xs i no_stage).life ≡ Over Killed
    dead i k (inl e) = subst (λ (j : ℕ). (get_or xs j no_stage).life ≡ Over Killed) (sym e.1) (f (ap (λ (y : Stage). y.life) (sym e.0) ∙ k))
    dead i k (inr e) = ap (λ (y : Stage). y.life) (sym e.0) ∙ k

lives_same : (xs : List Stage) (n : ℕ) (x : Stage) → x.life ≡ (get_or xs n no_stage).life → LivesOn xs (set xs n x)
lives_same xs n x e = lives_set xs n x (λ k. sym e ∙ k)

live_other : (l : Life) → l ≡ Live → l ≡ Over Killed → ⊥
live_other l q e = cc

exited_other : (l : Life) → l ≡ Over Exited → l ≡ Over Killed → ⊥
exited_other l q e = cc

-- PIPES AND REQUESTS

closes_stages : (c : Config) (ends : List PipeEnds) (s : State) (n p : ℕ) (seen : Seen) → (closes_from c s n seen p ends).stages ≡ s.stages
closes_stages c [] s n p seen = refl
closes_stages c (e ∷ ends) s n p seen =
    cond_both (is_to_end c s n p) (closes s n seen p) s (λ (t : State). (closes_from c t n seen (p + 1) ends).stages ≡ s.stages) (λ q. closes_stages c ends (closes s n seen p) n (p + 1) seen) (λ q. closes_stages c ends s n (p + 1) seen)

cuts_stages : (c : Config) (ends : List PipeEnds) (s : State) (n p : ℕ) → (cuts_from c s n p ends).stages ≡ s.stages
cuts_stages c [] s n p = refl
cuts_stages c (e ∷ ends) s n p =
    cond_both (is_to_end c s n p) (cuts_pipe s p) s (λ (t : State). (cuts_from c t n (p + 1) ends).stages ≡ s.stages) (λ q. cuts_stages c ends (cuts_pipe s p) n (p + 1)) (λ q. cuts_stages c ends s n (p + 1))

sends_stages : (s : State) (o : ℕ) (outs : List Out) → (sends s o outs).stages ≡ s.stages
sends_stages s o [] = refl
sends_stages s o (out ∷ outs) = sends_stages (sends_one s o out) o outs

-- TURNS OF OWNERS

abbrev pub Lives : State → State → Type 0
Lives s t = LivesOn s.stages t.stages

by_stages : (s t : State) → t.stages ≡ s.stages → Lives s t
by_stages s t e = alike s.stages t.stages e

ends_lives : (c : Config) (s : State) (o : ℕ) (e : TurnEnd) → Lives s (ends_turn c s o e)
ends_lives c s o goes = by_stages s s refl
ends_lives c s o (replied shown seen) = lives_same s.stages ((owner_at s o).stage - 1) _ refl
ends_lives c s o fence_over = lives_same s.stages ((owner_at s o).stage - 1) _ refl
ends_lives c s o stub_over = alike s.stages _ (closes_stages c c.pipe_ends _ (owner_at s o).stage 1 _)

turn_lives : (c : Config) (s : State) (o : ℕ) (t : OwnerTurn) → Lives s (takes_turn c s o t)
turn_lives c s o t =
    let u = turns s o t in
    lives_then s.stages u.stages _ (by_stages s u (sends_stages _ o t.outs)) (ends_lives c u o t.ending)

-- STATEMENTS AND ACTS

-- stages of the same lives, as many
stage_lives : (s t : State) (n : ℕ) (x : Stage) → t.stages ≡ set s.stages (n - 1) x → x.life ≡ (stage_at s n).life → Lives s t
stage_lives s t n x e l = subst (λ (ys : List Stage). LivesOn s.stages ys) (sym e) (lives_same s.stages (n - 1) x l)

stays : (s : State) → Lives s s
stays s = by_stages s s refl

exits_lives : (c : Config) (s : State) (n : ℕ) → Lives s (exits c s n)
exits_lives c s n =
    lives_then s.stages (set s.stages (n - 1) (record (stage_at s n) { life = Over Exited })) _
    (lives_set s.stages (n - 1) _ (λ k. absurd (exited_other (Over Exited) refl k)))
    (alike _ _ (closes_stages c c.pipe_ends _ n 1 (stage_at s n).context))

takes_end_lives : (s : State) (n variable p : ℕ) (mark : EndMark) → Lives s (takes_end s n variable p mark)
takes_end_lives s n variable p no_mark = stays s
takes_end_lives s n variable p (fenced_mark number seen) = lives_same s.stages (n - 1) _ refl
takes_end_lives s n variable p bare_mark = lives_same s.stages (n - 1) _ refl

takes_lives : (s : State) (n variable p : ℕ) (chunks : List Chunk) → Lives s (takes s n variable p chunks)
takes_lives s n variable p [] = takes_end_lives s n variable p (pipe_at s p).mark
takes_lives s n variable p (chunk ∷ chunks) = lives_same s.stages (n - 1) _ refl

waits_lives : (s : State) (n child : ℕ) (x : StageState) → Lives s (waits_over s n child x)
waits_lives s n child standing.Exited = lives_same s.stages (n - 1) _ refl
waits_lives s n child (standing.Ended how (Some Fenced)) = lives_same s.stages (n - 1) _ refl
waits_lives s n child (standing.Ended how (Some (Unfenced target))) = lives_same s.stages (n - 1) _ refl
waits_lives s n child (standing.Ended how None) = stays s
waits_lives s n child standing.Unborn = stays s
waits_lives s n child standing.Live = stays s

spawns_lives : (xs : List Stage) (i j : ℕ) (x y : Stage) → x.life ≡ (get_or xs i no_stage).life → y.life ≡ Live → LivesOn xs (set (set xs i x) j y)
spawns_lives xs i j x y a b = lives_then xs (set xs i x) _ (lives_same xs i x a) (lives_set (set xs i x) j y (λ k. absurd (live_other y.life b k)))

module _ (c : Config) (at : Reading) where
  -- a new owner goes through its works
  begun_lives : (s t : State) (n : ℕ) (x : Stage) → t.stages ≡ set s.stages (n - 1) x → x.life ≡ (stage_at s n).life → length s.owners < length t.owners → Lives s (goes_on_with_works c t (length s.owners) at)
  begun_lives s t n x e l i =
      let o = length s.owners in
      lives_then s.stages t.stages _ (stage_lives s t n x e l)
      (subst (Lives t) (sym (beginning_is_a_turn c t o at i)) (turn_lives c t o (begin_turn c o t.steps at (owner_at t o))))

  one_more : (s : State) (w : Owner) → length s.owners < length (s.owners ++ w ∷ [])
  one_more s w = grind (arith, looks)

  begins_lives : (s : State) (n : ℕ) (x : Option Op) → Lives s (begins_call c s n at x)
  begins_lives s n None = stays s
  begins_lives s n (Some x) = begun_lives s (opens_call s n x) n _ refl refl (one_more s _)

  makes_lives : (s : State) (n : ℕ) (x : Statement ℕ Key ℕ ℕ) → Lives s (makes c s n at x)
  makes_lives s n (statement.Let variable value) = lives_same s.stages (n - 1) _ refl
  makes_lives s n (statement.Repeat times) = lives_same s.stages (n - 1) _ refl
  makes_lives s n (statement.When test) = lives_same s.stages (n - 1) _ refl
  makes_lives s n statement.End = lives_same s.stages (n - 1) _ refl
  makes_lives s n (statement.Read variable key) = begins_lives s n (op_of_statement (statement.Read variable key) (stage_at s n).cursor.variables)
  makes_lives s n (statement.Write key value) = begins_lives s n (op_of_statement (statement.Write key value) (stage_at s n).cursor.variables)
  makes_lives s n (statement.Snap pairs) = begins_lives s n (op_of_statement (statement.Snap pairs) (stage_at s n).cursor.variables)
  makes_lives s n (statement.Txn reads guard writes) = begins_lives s n (op_of_statement (statement.Txn reads guard writes) (stage_at s n).cursor.variables)
  makes_lives s n statement.Fence = begun_lives s (opens_fence s n) n _ refl refl (one_more s _)
  makes_lives s n (statement.Spawn child) = spawns_lives s.stages (n - 1) (child - 1) _ _ refl refl
  makes_lives s n (statement.Wait child) = waits_lives s n child (stage_state s child)
  makes_lives s n (statement.Put p value) = lives_same s.stages (n - 1) _ refl
  makes_lives s n (statement.Take variable p) = takes_lives s n variable p (pipe_at s p).chunks
  makes_lives s n (statement.Close p) = lives_same s.stages (n - 1) _ refl
  makes_lives s n statement.Exit = exits_lives c s n

  acts_lives : (s : State) (n : ℕ) (o : Option ℕ) → ((i : ℕ) → o ≡ Some i → i < length s.owners) → Lives s (acts c s n at o)
  acts_lives s n None l = makes_lives s n (next_statement c s n)
  acts_lives s n (Some o) l =
      subst (Lives s) (sym (acting_is_a_turn c s o at (l o refl)))
      (turn_lives c s o (act_turn c o s.steps at (waking_line s (lines_in (owner_at s o).session)) (owner_at s o)))

  -- messages
  hears_lives : (s : State) (o slot : ℕ) (r : Reply) → o < length s.owners → Lives s (owner_hears c (listens s o slot) o slot at r (owner_at s o).session)
  hears_lives s o slot r l = subst (Lives s) (sym (hearing_is_a_turn c s o slot at r l)) (turn_lives c s o (hear_turn c o s.steps at slot r (owner_at s o)))

  reply_lives : (s : State) (o exchange : ℕ) (r : Reply) (slot : Option ℕ) → slot_in (owner_at s o).currents exchange ≡ slot → Stepping s → Lives s (reply_comes c s o at r slot)
  reply_lives s o exchange r None e h = stays s
  reply_lives s o exchange r (Some slot) e h = hears_lives s o slot r (running_there s o (current_runs s o slot exchange e h))

  request_lives : (s : State) (m o : ℕ) (target : Target) (r : Request) → Lives s (request_comes s m o at target r)
  request_lives s m o (Shard shard) r = alike s.stages s.stages refl
  request_lives s m o (Replica service replica) r = alike s.stages s.stages refl

  comes_lives : (s : State) (m : ℕ) (e : Envelope) (b : MessageBody) → Stepping s → Lives s (comes c s m at e b)
  comes_lives s m e (body.Request r) h = request_lives s m e.owner e.target r
  comes_lives s m e (body.Reply r) h = reply_lives s e.owner e.exchange r (slot_in (owner_at s e.owner).currents e.exchange) refl h

  delivers_lives : (s : State) (m : ℕ) (f : Fate) (e : Envelope) (b : MessageBody) → Stepping s → Lives s (comes c (marks_message s m f) m at e b)
  delivers_lives s m f e b h = comes_lives (marks_message s m f) m e b (pipes_step s (marks_message s m f) refl refl refl refl h)

  -- stubs
  stub_lives : (s : State) (o : Option ℕ) → ((i : ℕ) → o ≡ Some i → i < length s.owners) → Lives s (stub_of_stage c s o at)
  stub_lives s None l = stays s
  stub_lives s (Some o) l = subst (Lives s) (sym (stubs_take_turns c s o at (l o refl))) (turn_lives c s o (stub_turn c o s.steps at (owner_at s o)))

  stub_there : (s : State) (o : ℕ) → (b : Bool) → is_running (owner_at s o).fate ≡ b → unless_enabled (is_enabled_at (if b then stub_waits (owner_at s o).started (owner_at s o).works.wait else Never) at.earliest) ≡ None → is_running (owner_at s o).fate ≡ true
  stub_there s o true r e = r
  stub_there s o false r e = absurd (some_is_not _ e)

  -- a stub whose step is not refused is there
  pub stub_runs : (s : State) (x : Option ℕ) (o : ℕ) → unless_enabled (is_enabled_at (stub_enabling_of s x) at.earliest) ≡ None → x ≡ Some o → is_running (owner_at s o).fate ≡ true
  stub_runs s None o e q = absurd (none_is_not o q)
  stub_runs s (Some p) o e q = subst (λ (i : ℕ). is_running (owner_at s i).fate ≡ true) (some_is p o q) (stub_there s p (is_running (owner_at s p).fate) refl e)

  counted_lives : (s : State) (n : ℕ) → Lives s (counts_act s n)
  counted_lives s n = lives_same s.stages (n - 1) _ refl

  -- a mild step
  pub mild_lives : (s : State) (x : StepKind) → kind_refusal c s at x ≡ None → is_mild x ≡ true → Stepping s → Lives s (effect c s at x)
  unfolding effect
  mild_lives s (Act n) e m h =
      let u = counts_act s n in
      lives_then s.stages u.stages _ (counted_lives s n) (acts_lives u n (stage_at s n).owner (λ o q. running_there s o (h.told.stages.owner n o q).running))
  mild_lives s (Go m) e q h = delivers_lives s m fate.Delivered (message_at s.net m).envelope (message_at s.net m).body h
  mild_lives s (Again m) e q h = delivers_lives s m fate.Repeated (message_at s.net m).envelope (message_at s.net m).body h
  mild_lives s (Stub n) e q h = stub_lives s (stage_at s n).stub (λ o f. running_there s o (stub_runs s (stage_at s n).stub o e f))
  mild_lives s (Lose m) e q h = absurd (true≢false (sym q))
  mild_lives s (Kill n) e q h = absurd (true≢false (sym q))

-- HOW MANY STAGES

abbrev Long : State → State → Type 0
Long s t = length t.stages ≡ length s.stages

closed_stages : (s : State) (o : Option ℕ) (f : OwnerFate) → (closes_owner s o f).stages ≡ s.stages
closed_stages s None f = refl
closed_stages s (Some o) f = refl

dies_long : (s : State) (n : ℕ) (how : How) (f : OwnerFate) → Long s (dies s n how f)
dies_long s n how f = length-set (closes_owner s (stage_at s n).owner f).stages (n - 1) _ ∙ ap (λ (xs : List Stage). length xs) (closed_stages s (stage_at s n).owner f)

lost_long : (c : Config) (s : State) (o : ℕ) (target : Target) (k : OwnerKind) → Long s (target_lost c s o target k)
lost_long c s o target (kind.Calling x) = dies_long s (owner_at s o).stage Unavailable _
lost_long c s o target kind.Fencing = dies_long s (owner_at s o).stage Unavailable _
lost_long c s o target (kind.Stubbing u) = ap (λ (xs : List Stage). length xs) (cuts_stages c c.pipe_ends _ (owner_at s o).stage 1)

cut_long : (c : Config) (s : State) (o : ℕ) (target : Target) → Long s (is_cut_off c s o target)
cut_long c s o (Shard shard) = lost_long c s o (Shard shard) (owner_at s o).kind
cut_long c s o (Replica service replica) =
    let t = cuts_off s o (Replica service replica) in
    cond_both (is_quorum_lost c.tries (owner_at s o).losses service (replicas_of c service)) _ t (λ (u : State). Long s u) (λ q. lost_long c t o (Replica service replica) (owner_at s o).kind) (λ q. refl)

asks_long : (s : State) (o slot : ℕ) (target : Target) (b : MessageBody) → Long s (asks_again s o slot target b)
asks_long s o slot target (body.Request r) = refl
asks_long s o slot target (body.Reply r) = refl

replaces_long : (s : State) (o : ℕ) (target : Target) (exchange : ℕ) (slot : Option ℕ) → Long s (replaces s o target exchange slot)
replaces_long s o target exchange None = refl
replaces_long s o target exchange (Some slot) = asks_long s o slot target (message_at s.net exchange).body

loses_long : (c : Config) (s : State) (e : Envelope) → Long s (loses c s e)
loses_long c s e =
    let o = e.owner in
    let t = counts_loss s o e.target in
    cond_both (is_running (owner_at s o).fate) (loss_counts c s o e) s (λ (u : State). Long s u)
    (λ r. cond_both (reaches_tries c.tries (owner_at s o).losses e.target) _ _ (λ (u : State). Long s u)
    (λ q. cut_long c t o e.target)
    (λ q. cond_both (nat_lt (losses_of (owner_at t o).losses e.target) c.tries) _ t (λ (u : State). Long s u) (λ l. replaces_long t o e.target e.exchange (slot_in (owner_at t o).currents e.exchange)) (λ l. refl)))
    (λ r. refl)

-- any step
effect_long : (c : Config) (s : State) (at : Reading) (x : StepKind) → kind_refusal c s at x ≡ None → Stepping s → Long s (effect c s at x)
unfolding effect
effect_long c s at (Act n) e h = (mild_lives c at s (Act n) e refl h).long
effect_long c s at (Go m) e h = (mild_lives c at s (Go m) e refl h).long
effect_long c s at (Again m) e h = (mild_lives c at s (Again m) e refl h).long
effect_long c s at (Stub n) e h = (mild_lives c at s (Stub n) e refl h).long
effect_long c s at (Lose m) e h = loses_long c (marks_message s m fate.Lost) (message_at s.net m).envelope
effect_long c s at (Kill n) e h = dies_long s n Killed Dropped

pub step_long : (c : Config) (s : State) (step : Step) → refusal c s step ≡ None → AllTold s → length (stepped c s step).stages ≡ length s.stages
step_long c s step r h = effect_long c (ticks s step.at) step.at step.kind (passes c s step r).kind (told_ticks s step.at h)

pub step_lives : (c : Config) (s : State) (step : Step) → refusal c s step ≡ None → is_mild step.kind ≡ true → AllTold s → LivesOn s.stages (stepped c s step).stages
step_lives c s step r m h = mild_lives c step.at (ticks s step.at) step.kind (passes c s step r).kind m (told_ticks s step.at h)
