-- What a turn of an owner makes of owners and the net.
use Rattle.std.specs.Prelude.{◌≡◌, ℕ, ◌+◌, ◌<◌, ◌^◌, List, length, Option, IsSome}
use Rattle.truetime.specs.Reading.{Reading}
use Rattle.pipeline_lang.specs.declared.config.Config.{Config}
use Rattle.rss_wire.specs.declared.message.Body.{Body}
use Rattle.rss_wire.specs.declared.message.Body.TheVariants as body
use Rattle.rss_wire.specs.declared.message.Message.{Message}
use Rattle.rss_wire.specs.declared.messages.Reply.{Reply}
use Rattle.rss_wire.specs.declared.messages.Reply.TheVariants as reply
use Rattle.rss_wire.specs.Messages.{message_at, reply_at}
use Rattle.rss_tables.specs.Outs.{slot_replica}
use Rattle.rss_machine.specs.State.{State}
use Rattle.owner_sessions.specs.Boxed.{outs_of}
use Rattle.owner_sessions.specs.Rounds.{HearsSmallStamps}
use Rattle.owner_turns.specs.Going.{SlotFits, AttemptsFit, line_of}
use Rattle.owner_turns.specs.Whole.{FewReplicas}
use Rattle.turn_laws.specs.Few.{IsFew}
use Rattle.turn_laws.specs.Turns.{OwnerTurn, turns, begin_turn, hear_turn, act_turn, stub_turn}
use Rattle.world_parts.specs.Halves.{put_owner}
use Rattle.world_parts.specs.Parts.{Traffic, in_traffic, owner_in}
use Rattle.world_traffic.specs.View.{TrafficView, IsBegun, IsQuiet, CountsFit}

-- what a message says as a reply; a request says nothing of one
abbrev pub said_by : Body → Reply
said_by (body.Reply r) = r
said_by (body.Request r) = reply.Done

abbrev pub said_in : List Message → ℕ → Reply
said_in net m = said_by (message_at net m).body

-- the turn by which an owner begins, hears what a message says, goes on by itself, and, where it is a
-- stub, takes its step
abbrev pub beginning : Config → ℕ → ℕ → Reading → Traffic → OwnerTurn
beginning c o step at t = begin_turn c o step at (owner_in t o)

abbrev pub hearing : Config → ℕ → ℕ → Reading → ℕ → ℕ → Traffic → OwnerTurn
hearing c o step at slot m t = hear_turn c o step at slot (said_in t.net m) (owner_in t o)

abbrev pub acting : Config → ℕ → ℕ → Reading → Option ℕ → Traffic → OwnerTurn
acting c o step at line t = act_turn c o step at (line_of (owner_in t o).session line) (owner_in t o)

abbrev pub stubbing : Config → ℕ → ℕ → Reading → Traffic → OwnerTurn
stubbing c o step at t = stub_turn c o step at (owner_in t o)

-- an owner has taken this turn, but for its end
pub record HasTaken (old new : TrafficView) (o : ℕ) (t : OwnerTurn) : Type 0 where
  pub traffic : new.traffic ≡ in_traffic 0 (λ (s : State). turns s o t) old.traffic
  pub quiet : IsQuiet new

-- an owner was put as this turn leaves it, and what it sends and plans lies in the outbox
pub record HasTurned (old new : TrafficView) (o : ℕ) (t : OwnerTurn) : Type 0 where
  pub traffic : new.traffic ≡ put_owner old.traffic o t.after
  pub outs : outs_of new.outbox ≡ t.outs
  pub fences : new.outbox.fences.items ≡ t.fences
  pub messages : new.messages ≡ old.messages

-- an owner can take this turn: it was begun, nothing is being sent, no service has more than seven
-- replicas, and there are not too many messages and planned fences for all that it sends and plans
pub record MayTake (c : Config) (v : TrafficView) (o : ℕ) (t : OwnerTurn) : Type 0 where
  pub begun : IsBegun v.traffic o
  pub quiet : IsQuiet v
  pub replicas : FewReplicas c
  pub messages : length v.traffic.net + 32 < 2 ^ 32
  pub counts : CountsFit 16 v.traffic.planned
  pub few : IsFew t

-- what an owner can hear: a reply in a slot of what it has under way, stamps that are small, and
-- attempts that are few
pub record MayHear (t : Traffic) (o slot m : ℕ) : Type 0 where
  pub reply : IsSome (reply_at t.net m)
  pub inside : slot < 23
  pub slots : SlotFits (owner_in t o).session slot
  pub small : HearsSmallStamps (owner_in t o).session (slot_replica slot) (said_in t.net m)
  pub attempts : AttemptsFit (owner_in t o).session
