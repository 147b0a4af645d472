-- What steps need to know of the parts of the machine's state: it follows from the run that led there.
use Rattle.std.specs.Prelude.{ℕ, ◌≡◌, List, length}
use Rattle.pipeline_lang.specs.declared.config.Config.{Config}
use Rattle.rss_wire.specs.Messages.{message_at}
use Rattle.rss_wire.specs.declared.message.Message.{Message}
use Rattle.rss_machine.specs.State.{State}
use Rattle.world_laws.specs.Exchanges.{Exchanges}
use Rattle.world_laws.specs.Ready.{IsReady as RunIsReady}
use Rattle.world_laws.specs.Shapes.{IsSoundFile}
use Rattle.world_parts.specs.Parts.{Clock, Staging, Traffic, Stores, assembled}

-- what a run of a file that is sound gives: sizes, numbers, times, links and the form of contexts
pub record Facts (c : Config) (s : State) : Type 0 where
  pub file : IsSoundFile c
  pub run : RunIsReady c s
  pub exchanges : Exchanges s.net

-- each message says the same
pub record SaysSame (net more : List Message) : Type 0 where
  pub same_length : length more ≡ length net
  pub envelopes : (i : ℕ) → (message_at more i).envelope ≡ (message_at net i).envelope
  pub bodies : (i : ℕ) → (message_at more i).body ≡ (message_at net i).body

-- what holds between two steps still holds where the clock has gone on and a message has met its fate
pub record AreReady (c : Config) (g : Staging) (t : Traffic) (d : Stores) : Type 0 where
  pub clock : Clock
  pub net : List Message
  pub says : SaysSame net t.net
  pub facts : Facts c (assembled clock g (record t { net = net }) d)
