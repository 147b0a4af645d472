-- Replies that were sent.
use Rattle.std.specs.Prelude.{ℕ}
use Rattle.rss_names.specs.declared.service.Target.{Target}
use Rattle.rss_wire.specs.declared.messages.Reply.{Reply}
use Rattle.rss_wire.specs.declared.messages.Request.{Request}
use Rattle.rss_machine.specs.State.{State}
use Rattle.txn_laws.specs.Given.{IsReplyOf}

-- a target has replied so to a request
pub record Replied (s : State) (target : Target) (q : Request) (r : Reply) : Type 0 where
  pub message : ℕ
  pub is : IsReplyOf s message target q r
