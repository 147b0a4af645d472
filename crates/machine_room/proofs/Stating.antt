-- Room that was made for a statement is room for it behind the count of the act.
use Rattle.std.proofs.Common.{◌≡◌, ℕ, ◌+◌, true≢false, Option, Some, None, refl, sym, ap, ◌∙◌, subst}
use Rattle.causal_context.specs.Seen.{Seen, context_joined}
use Rattle.pipeline_lang.specs.declared.script.Statement.TheVariants as statement
use Rattle.pipeline_stage.specs.Marks.{lying}
use Rattle.truetime.specs.Reading.{Reading}
use Rattle.rss_model.specs.CallStatement.{op_of_statement}
use Rattle.rss_model.specs.Cursor.{NumberedStatement}
use Rattle.rss_machine.specs.Enabling.{next_statement}
use Rattle.rss_machine.specs.Standing.{exit_context, exit_context_of}
use Rattle.rss_machine.specs.State.{Stage}
use Rattle.world_parts.specs.Parts.{Clock as Part, stage_in, pipe_in}
use Rattle.world_stages.specs.Readies.{IsReady, joined_if}
use Rattle.world_machine.specs.declared.clock.Clock.{Clock}
use Rattle.world_machine.specs.declared.machine.Machine.{Machine}
use Rattle.world_machine.specs.Acts.{counted}
use Rattle.machine_room.specs.Ahead.{ahead_of, CallIn, AheadIn}
use Rattle.world_machine.specs.Beginning.{NextIs, CanBegin, FenceStart, call_owner, fence_owner}
use Rattle.world_machine.specs.Clock.{clock_in, ticked}
use Rattle.world_machine.specs.Ending.{FenceRoom}
use Rattle.rss_machine.specs.declared.session.OwnerKind.TheVariants as kind
use Rattle.world_machine.specs.Machine.{state_of}
use Rattle.world_machine.specs.Rooms.{StatementRoom}
use Rattle.world_machine.proofs.Counted.{next_same}
use Rattle.machine_room.proofs.Stepping.{stage_same, kind_counted}

module _ (m : Machine) (k : Clock) (at : Reading) (n : ℕ) (q : clock_in k ≡ ticked (clock_in m.clock) at) where
  abbrev pub later : Machine
  later = counted (record m { clock = k }) n

  context_same : (stage_in later.staging.staging n).context ≡ (stage_in m.staging.staging n).context
  context_same = stage_same m n (λ (x : Stage). x.context) refl n

  step_is : m.clock.steps + 1 ≡ k.steps
  step_is = sym (ap (λ (x : Part). x.steps) q)

  lift : {entries many : ℕ} {a b : Seen} → a ≡ b → IsReady m.staging entries a many → IsReady later.staging entries b many
  lift {entries = entries} {many = many} {a = a} {b = b} e h = subst (λ (x : Seen). IsReady later.staging entries x many) e (record { room = h.room; spare = h.spare })

  own : {entries many : ℕ} → IsReady m.staging entries (stage_in m.staging.staging n).context many → IsReady later.staging entries (stage_in later.staging.staging n).context many
  own h = lift (sym context_same) h

  exit_same : (child : ℕ) → exit_context (state_of m) child ≡ exit_context (state_of later) child
  exit_same child = by (stage_in m.staging.staging child).stub (stage_in later.staging.staging child).stub (sym (stage_same m n (λ (x : Stage). x.stub) refl child))
    where
      by : (a b : Option ℕ) → a ≡ b → exit_context_of (state_of m) (stage_in m.staging.staging child) a ≡ exit_context_of (state_of later) (stage_in later.staging.staging child) b
      by a None e = ap (exit_context_of (state_of m) (stage_in m.staging.staging child)) e ∙ sym (stage_same m n (λ (x : Stage). x.context) refl child)
      by a (Some stub) e = ap (exit_context_of (state_of m) (stage_in m.staging.staging child)) e

  call_later : (st : NumberedStatement) → st ≡ next_statement m.config (state_of m) n → CallIn m at (m.clock.steps + 1) n st → CanBegin later n at
  call_later st e h = record {
    operation = h.operation;
    made = h.made;
    room = record {
      entries = h.room.entries;
      owner = subst (λ (step : ℕ). NextIs m.traffic (call_owner step n (stage_in later.staging.staging n).context h.operation)) step_is (subst (λ (x : Seen). NextIs m.traffic (call_owner (m.clock.steps + 1) n x h.operation)) (sym context_same) h.room.owner);
      turn = h.room.turn;
    };
    same = ap (op_of_statement (next_statement m.config (state_of later) n)) (stage_same m n (λ (x : Stage). x.cursor.variables) refl n)
        ∙ ap (λ (x : NumberedStatement). op_of_statement x (stage_in m.staging.staging n).cursor.variables) (next_same m.config (state_of (record m { clock = k })) n ∙ sym e) ∙ h.same;
  }

  fence_later : FenceStart m.config at m.staging m.traffic (m.clock.steps + 1) n → FenceStart m.config at later.staging m.traffic k.steps n
  fence_later h = record {
    owner = subst (λ (step : ℕ). NextIs m.traffic (fence_owner step n (stage_in later.staging.staging n).context)) step_is (subst (λ (x : Seen). NextIs m.traffic (fence_owner (m.clock.steps + 1) n x)) (sym context_same) h.owner);
    turn = h.turn;
    ends = subst (λ (x : Seen). FenceRoom later.staging n x) (sym context_same) (kind_counted m n n (stage_in m.staging.staging n).context kind.Fencing h.ends);
  }

  pub statement_made : (st : NumberedStatement) → st ≡ next_statement m.config (state_of m) n → AheadIn m at (m.clock.steps + 1) n st (ahead_of st) → StatementRoom later n at st
  statement_made (statement.Read variable key) e h = record { ready = λ f. own h.ready; made = call_later (statement.Read variable key) e h }
  statement_made (statement.Write key value) e h = record { ready = λ f. own h.ready; made = call_later (statement.Write key value) e h }
  statement_made (statement.Snap pairs) e h = record { ready = λ f. own h.ready; made = call_later (statement.Snap pairs) e h }
  statement_made (statement.Txn pairs guard writes) e h = record { ready = λ f. own h.ready; made = call_later (statement.Txn pairs guard writes) e h }
  statement_made statement.Fence e h = record { ready = λ f. absurd (true≢false f); made = fence_later h }
  statement_made (statement.Wait child) e h = record { ready = λ f. lift (ap (λ (x : Seen). context_joined x (exit_context (state_of m) child)) (sym context_same) ∙ ap (context_joined (stage_in later.staging.staging n).context) (exit_same child)) h; made = tt }
  statement_made (statement.Take variable p) e h = record { ready = λ f. lift (ap (λ (x : Seen). joined_if x (lying (pipe_in m.staging.staging p).chunks (pipe_in m.staging.staging p).mark)) (sym context_same)) h; made = tt }
  statement_made (statement.Let variable value) e h = record { ready = λ f. own h; made = tt }
  statement_made (statement.Spawn child) e h = record { ready = λ f. own h; made = tt }
  statement_made (statement.Put p value) e h = record { ready = λ f. own h; made = tt }
  statement_made (statement.Close p) e h = record { ready = λ f. own h; made = tt }
  statement_made (statement.Repeat times) e h = record { ready = λ f. own h; made = tt }
  statement_made (statement.When test) e h = record { ready = λ f. own h; made = tt }
  statement_made statement.End e h = record { ready = λ f. own h; made = tt }
  statement_made statement.Exit e h = record { ready = λ f. own h; made = tt }
