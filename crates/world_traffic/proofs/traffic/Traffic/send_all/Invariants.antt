use Rattle.std.proofs.Common.{◌≡◌, ◌<◌, ◌≤◌, ◌+◌, ◌^◌, length}
use Rattle.owner_sessions.specs.Boxed.{outs_of}
use Rattle.rss_machine.specs.Moves.{sends}
use Rattle.rss_machine.specs.State.{State}
use Rattle.world_parts.specs.Parts.{in_traffic, owner_in}
use Rattle.world_traffic.specs.View.{IsBegun}
use Rattle.world_traffic.proofs.traffic.Traffic.send_all.Given as goal

-- what was sent, with what is still to be sent, is the whole
abbrev pub invariant-loop-sending : goal.invariant-loop-sending
invariant-loop-sending l = record {
  whole : in_traffic 0 (λ (s : State). sends s l.number (outs_of l.self.outbox)) l.self.traffic ≡ in_traffic 0 (λ (s : State). sends s l.number (outs_of l.fn.self.outbox)) l.fn.self.traffic;
  begun : IsBegun l.self.traffic l.number;
  stage : (owner_in l.self.traffic l.number).stage ≡ l.stage;
  room : length (outs_of l.self.outbox) ≤ l.self.messages;
  few : length l.self.traffic.net + length (outs_of l.self.outbox) < 2 ^ 32;
  free : l.self.free ≡ l.fn.self.free;
  fences : l.self.outbox.fences ≡ l.fn.self.outbox.fences;
  again : l.self.again ≡ l.fn.self.again;
}

abbrev pub decreases-loop-sending : goal.decreases-loop-sending
decreases-loop-sending l = length (outs_of l.self.outbox)
