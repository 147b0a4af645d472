use Rattle.std.specs.Prelude.{◌≡◌, ℕ, suc, ◌<◌, List, Some}
use Rattle.rss_wire.specs.Messages.{no_message}
use Rattle.rss_wire.specs.Net.{NetView}
use Rattle.stage_mail.specs.Due.{due_numbers, message_zero}
use Rattle.stage_mail.specs.Lists.{DueView, list_at, HaveRoom}

-- each stage's list is that of its messages that are still to come, and each has the room that the net promises
pub record IsKept (net : NetView) (due : List DueView) : Type 0 where
  pub begins : message_zero net.messages ≡ Some no_message
  pub listed : (place : ℕ) → place < 16 → (list_at due place).numbers ≡ due_numbers (suc place) net.messages
  pub fits : HaveRoom 16 net.room due
