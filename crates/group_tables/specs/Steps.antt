-- The steps of a group, their refusals, and whole runs.
use Rattle.std.specs.Prelude.{ℕ, ◌-◌, ◌&&◌, Bool, true, false, List, [], ◌∷◌, length, set, nat_le, nat_lt, Option, Some, None, if◌then◌else◌}
use Rattle.std.specs.Option.{option_map}
use Rattle.rss_wire.specs.declared.message.Fate.{Fate}
use Rattle.rss_wire.specs.declared.message.Fate.TheVariants.{Delivered, Repeated, Lost}
use Rattle.rss_wire.specs.declared.refusal.NetRefusal.{NetRefusal}
use Rattle.rss_wire.specs.declared.refusal.NetRefusal.TheVariants.{NoSuchMessage}
use Rattle.rss_wire.specs.Net.{fate_refusal, repeat_refusal}
use Rattle.group_tables.specs.declared.steps.GroupStep.{GroupStep}
use Rattle.group_tables.specs.declared.steps.GroupStep.TheVariants.{Lead, Propose, Crash, Go, Lose, Again}
use Rattle.group_tables.specs.declared.steps.GroupRefusal.{GroupRefusal}
use Rattle.group_tables.specs.declared.steps.GroupRefusal.TheVariants.{Message, NotEnabled}
use Rattle.group_tables.specs.Groups.{Group, Member, Sent, Role, follower, candidate, leader, opening_group, member_at, has_member, sent_at}
use Rattle.group_tables.specs.Rows.{leads, proposes, crashes, arrives}

-- a message meets its fate
abbrev pub meets : Group → ℕ → Fate → Group
meets g n fate = record g { sent = set g.sent (n - 1) record (sent_at g n) { fate = fate } }

-- a message arrives, with this fate from then on
abbrev pub delivers : Group → ℕ → Fate → Sent → Group
delivers g n fate s = arrives (meets g n fate) s.receiver (member_at g s.receiver) s.sender s.body

-- a step
abbrev pub happens : Group → GroupStep → Group
happens g (Lead m) = leads g m (member_at g m)
happens g (Propose m i) = proposes g m (member_at g m) i
happens g (Crash m) = crashes g m (member_at g m)
happens g (Go n) = delivers g n Delivered (sent_at g n)
happens g (Again n) = delivers g n Repeated (sent_at g n)
happens g (Lose n) = meets g n Lost

abbrev pub unless : Bool → Option GroupRefusal
unless true = None
unless false = Some NotEnabled

-- whether a message was sent
abbrev pub is_sent : Group → ℕ → Bool
is_sent g n = nat_le 1 n && nat_le n (length g.sent)

abbrev pub message_refusal : Group → ℕ → Option NetRefusal → Option GroupRefusal
message_refusal g n by_fate = if is_sent g n then option_map Message by_fate else Some (Message NoSuchMessage)

abbrev pub is_leader : Role → Bool
is_leader follower = false
is_leader (candidate heard) = false
is_leader (leader notes) = true

-- a member can propose a request: it leads, and has fewer than a hundred slots
abbrev pub can_propose : Group → Member → ℕ → Bool
can_propose g x i = is_leader x.role && (nat_le 1 i && nat_le i g.requests) && nat_lt (length x.slots) 100

-- why a step is refused, if it is
abbrev pub group_refusal : Group → GroupStep → Option GroupRefusal
group_refusal g (Lead m) = unless (has_member g m)
group_refusal g (Propose m i) = unless (has_member g m && can_propose g (member_at g m) i)
group_refusal g (Crash m) = unless (has_member g m)
group_refusal g (Go n) = message_refusal g n (fate_refusal (sent_at g n).fate)
group_refusal g (Lose n) = message_refusal g n (fate_refusal (sent_at g n).fate)
group_refusal g (Again n) = message_refusal g n (repeat_refusal (sent_at g n).fate)

abbrev pub unless_refused : Option GroupRefusal → Option Group → Option Group
unless_refused None after = after
unless_refused (Some cause) after = None

-- the group after these steps; there is none where one of them is refused
unfoldable pub run_from : Group → List GroupStep → Option Group
run_from g [] = Some g
run_from g (step ∷ steps) = unless_refused (group_refusal g step) (run_from (happens g step) steps)

abbrev pub group_run : ℕ → ℕ → List GroupStep → Option Group
group_run members requests steps = run_from (opening_group members requests) steps
