-- Room that was made is room for the step.
use Rattle.std.proofs.Common.{◌≡◌, ℕ, ◌+◌, ◌-◌, ◌<◌, ◌≤◌, ◌^◌, Option, Some, refl, sym, ap, ◌∙◌, subst, vec_len, vec_capacity}
use Rattle.std.specs.Prelude.{is_some}
use Rattle.causal_context.specs.Seen.{Seen}
use Rattle.pipeline_lang.specs.declared.config.Config.{Config}
use Rattle.pipeline_stage.specs.CopiesView.{AreCopies}
use Rattle.truetime.specs.Reading.{Reading}
use Rattle.rss_wire.specs.Messages.{message_at}
use Rattle.rss_machine.specs.Calls.{fenced_context}
use Rattle.rss_machine.specs.State.{Stage, Owner, stage_at}
use Rattle.rss_machine.specs.declared.session.OwnerKind.{OwnerKind}
use Rattle.rss_machine.specs.declared.session.OwnerKind.TheVariants as kind
use Rattle.rss_machine.specs.declared.step.Step.{Step}
use Rattle.rss_machine.specs.declared.step.StepKind.{StepKind}
use Rattle.rss_machine.specs.declared.step.StepKind.TheVariants.{Act, Go, Lose, Again, Kill, Stub}
use Rattle.rss_machine.specs.Effect.{waking_line}
use Rattle.turn_laws.specs.Turns.{lines_in}
use Rattle.world_parts.specs.Parts.{Clock as Part, stage_in, owner_in}
use Rattle.world_stages.specs.View.{StagingView}
use Rattle.world_traffic.specs.Turned.{said_in}
use Rattle.world_traffic.specs.View.{TrafficView, IsQuiet}
use Rattle.world_machine.specs.declared.clock.Clock.{Clock}
use Rattle.world_machine.specs.declared.machine.Machine.{Machine}
use Rattle.world_machine.specs.Acts.{counted}
use Rattle.world_machine.specs.Clock.{clock_in, ticked}
use Rattle.world_machine.specs.Hearing.{ComeRoom}
use Rattle.world_machine.specs.Machine.{state_of}
use Rattle.machine_room.specs.Prepared.{KindRoom, EndsRoom, TurnIn, TurnIf, ComeIn, LossIn}
use Rattle.world_machine.specs.Rooms.{DeathIn}
use Rattle.world_machine.specs.StepRooms.{ActRoom, LossRoom, SettleRoom, StepRoom, HasRoom}
use Rattle.machine_room.specs.Steady.{ActIn, KindIn}
use Rattle.machine_room.proofs.Allowing.{hear_room, act_room, stub_room}
use Rattle.world_machine.proofs.Counted.{looks_same}

-- what counting an act leaves
module _ (m : Machine) (n : ℕ) where
  pub stage_same : {Y : Type 0} (view : Stage → Y) → view (record (stage_in m.staging.staging n) { acts = (stage_in m.staging.staging n).acts + 1 }) ≡ view (stage_in m.staging.staging n) → (k : ℕ) → view (stage_in (counted m n).staging.staging k) ≡ view (stage_in m.staging.staging k)
  stage_same view e k = looks_same view m.staging.staging.stages (n - 1) (record (stage_in m.staging.staging n) { acts = (stage_in m.staging.staging n).acts + 1 }) e (k - 1)

  pub kind_counted : (j : ℕ) (copy : Seen) (k : OwnerKind) → KindRoom m.config m.staging j copy k → KindRoom m.config (counted m n).staging j copy k
  kind_counted j copy (kind.Calling x) h = tt
  kind_counted j copy kind.Fencing h = record {
    spare = subst (λ (x : Seen). AreCopies m.staging.spare (fenced_context x copy) 1) (sym (stage_same (λ (x : Stage). x.context) refl j)) h.spare;
    position = subst (λ (p : ℕ). p + 1 < 2 ^ 64) (sym (stage_same (λ (x : Stage). x.cursor.position) refl j)) h.position;
  }
  kind_counted j copy (kind.Stubbing unsettled) h = record {
    ready = record { room = h.ready.room; spare = h.ready.spare };
    pipes = h.pipes;
    numbers = record { next = h.numbers.next };
  }

  ends_counted : (w : Owner) → EndsRoom m.config m.staging w → EndsRoom m.config (counted m n).staging w
  ends_counted w h = record { entry = h.entry; kind = kind_counted w.stage w.works.copy w.kind h.kind }

-- a turn of an owner
turn_of : (c : Config) (at : Reading) (v : StagingView) (t : TrafficView) (owner : Option ℕ) (o : ℕ) → TurnIf c at v t owner → owner ≡ Some o → TurnIn c at v t o
turn_of c at v t owner o h e = subst (TurnIf c at v t) e h

module _ (m : Machine) (k : Clock) (at : Reading) where
  act_made : (n : ℕ) → clock_in k ≡ ticked (clock_in m.clock) at → ActIn m n at → ActRoom (record m { clock = k }) n at
  act_made n q h = record {
    idle = λ e. h.idle e k q;
    turn = λ o e. (turn_of m.config at m.staging m.traffic (stage_at (state_of m) n).owner o h.owned e).turn;
    ends = λ o e. (let r = turn_of m.config at m.staging m.traffic (stage_at (state_of m) n).owner o h.owned e in
        act_room m.config (counted m n).staging o k.steps at (owner_in m.traffic.traffic o) (ends_counted m n (owner_in m.traffic.traffic o) r.ends) (waking_line (state_of (counted (record m { clock = k }) n)) (lines_in (owner_in m.traffic.traffic o).session)));
  }

  settle_made : (n : ℕ) → TurnIf m.config at m.staging m.traffic (stage_at (state_of m) n).stub → SettleRoom (record m { clock = k }) n at
  settle_made n h = record {
    turn = λ o e. (turn_of m.config at m.staging m.traffic (stage_at (state_of m) n).stub o h e).turn;
    ends = λ o e. (let r = turn_of m.config at m.staging m.traffic (stage_at (state_of m) n).stub o h e in
        stub_room m.config m.staging o k.steps at (owner_in m.traffic.traffic o) r.ends);
  }

  come_made : (number : ℕ) → ComeIn m.config at m.staging m.traffic m.stores number (message_at m.traffic.traffic.net number).envelope → ComeRoom (record m { clock = k }) number at
  come_made number h = record {
    served = h.served;
    messages = h.messages;
    heard = λ s slot e. (let r = h.heard s (ap is_some e) in record {
      room = r.room;
      ends = hear_room m.config m.staging (message_at m.traffic.traffic.net number).envelope.owner k.steps at (owner_in m.traffic.traffic (message_at m.traffic.traffic.net number).envelope.owner) r.ends slot (said_in m.traffic.traffic.net number);
    });
  }

  loss_made : (number : ℕ) → k.steps ≡ m.clock.steps + 1 → LossIn m.staging m.traffic (m.clock.steps + 1) (message_at m.traffic.traffic.net number).envelope → LossRoom (record m { clock = k }) number
  loss_made number e h = record {
    messages = h.messages;
    again = h.again;
    death = λ q. subst (λ (step : ℕ). DeathIn m.staging m.traffic step (owner_in m.traffic.traffic (message_at m.traffic.traffic.net number).envelope.owner).stage) (sym e) (h.death q);
  }

  kind_made : (x : StepKind) → clock_in k ≡ ticked (clock_in m.clock) at → KindIn m at x → StepRoom (record m { clock = k }) at x
  kind_made (Act n) q h = act_made n q h
  kind_made (Go number) q h = come_made number h
  kind_made (Again number) q h = come_made number h
  kind_made (Lose number) q h = loss_made number (ap (λ (x : Part). x.steps) q) h
  kind_made (Kill n) q h = subst (λ (step : ℕ). DeathIn m.staging m.traffic step n) (sym (ap (λ (x : Part). x.steps) q)) h
  kind_made (Stub n) q h = settle_made n h

-- with a place for its moment
pub has_room : (m : Machine) (j : Clock) (step : Step) → KindIn m step.at step.kind → clock_in j ≡ clock_in m.clock → vec_len j.moments + 1 ≤ vec_capacity j.moments → IsQuiet m.traffic → HasRoom (record m { clock = j }) step
has_room m j step h same moments quiet = record {
  quiet = quiet;
  moments = moments;
  kind = λ k q. kind_made m k step.at step.kind (q ∙ ap (λ (x : Part). ticked x step.at) same) h;
}
