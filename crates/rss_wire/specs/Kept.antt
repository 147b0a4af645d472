use Rattle.std.specs.Prelude.{◌≡◌, ℕ, ◌+◌, ◌≤◌, vec_len, vec_capacity}
use Rattle.std.specs.HashMap.{spare}
use Rattle.rss_names.specs.declared.service.Target.{Target}
use Rattle.rss_wire.specs.Messages.{count_requests, pending_count}
use Rattle.rss_wire.specs.Line.{line_between, counted}
use Rattle.rss_wire.specs.declared.net.Net.TheInside.{Inside}

-- what a net keeps beside its messages is what it would count over them, and the room that it promises is there
pub record IsKept (n : Inside) : Type 0 where
  pub spare_messages : vec_len n.messages + n.room ≤ vec_capacity n.messages
  pub spare_lines : n.room ≤ spare n.lines
  pub ordinals : (stage : ℕ) (target : Target) → counted n.lines (line_between stage target) ≡ count_requests stage target n.messages.items
  pub pending : n.pending ≡ pending_count n.messages.items
