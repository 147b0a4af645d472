-- An owner of parts that are ready can take a turn, where that is few.
use Rattle.std.proofs.Common.{◌≡◌, ℕ, ◌<◌, ◌≤◌, List, [], ◌∷◌, length, Option, Some, None, refl, arith}
use Rattle.pipeline_lang.specs.declared.config.Config.{Config}
use Rattle.rss_wire.specs.declared.messages.Holder.{Holder}
use Rattle.rss_tables.specs.Lines.{Line, asleep_on}
use Rattle.rss_machine.specs.Effect.{waking_line}
use Rattle.rss_machine.specs.Enabling.{is_decided_at}
use Rattle.turn_laws.specs.Few.{IsFew}
use Rattle.turn_laws.specs.Turns.{OwnerTurn}
use Rattle.owner_turns.specs.Whole.{FewReplicas}
use Rattle.world_parts.specs.Parts.{Clock, Staging, Traffic, Stores, assembled}
use Rattle.world_traffic.specs.Turned.{MayTake}
use Rattle.world_traffic.specs.View.{TrafficView, IsBegun, IsQuiet}
use Rattle.parts_ready.specs.Ready.{AreReady}
use Rattle.parts_ready.proofs.Few.{messages_few, planned_few}

pub may_take : (c : Config) (g : Staging) (v : TrafficView) (d : Stores) (o : ℕ) (t : OwnerTurn) → AreReady c g v.traffic d → FewReplicas c → IsQuiet v → IsBegun v.traffic o → IsFew t → MayTake c v o t
may_take c g v d o t h replicas quiet begun few =
    let messages = messages_few c g v.traffic d h in
    record {
      begun = begun;
      quiet = quiet;
      replicas = replicas;
      messages = omega (arith, messages);
      counts = record { fits = λ place. (let a = planned_few c g v.traffic d h place in omega (arith, a)) };
      few = few;
    }

-- which line can wake does not depend on stages
decided_same : (k : Clock) (g g' : Staging) (t : Traffic) (d : Stores) (h : Option Holder) → is_decided_at (assembled k g t d) h ≡ is_decided_at (assembled k g' t d) h
decided_same k g g' t d None = refl
decided_same k g g' t d (Some h) = refl

pub waking_same : (k : Clock) (g g' : Staging) (t : Traffic) (d : Stores) (lines : List Line) → waking_line (assembled k g t d) lines ≡ waking_line (assembled k g' t d) lines
waking_same k g g' t d [] = refl
waking_same k g g' t d (l ∷ lines) = rw (decided_same k g g' t d (asleep_on l.state), waking_same k g g' t d lines) refl
