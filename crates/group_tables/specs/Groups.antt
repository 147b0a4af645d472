-- A group: its members, all messages ever sent, and what was applied.
use Rattle.std.specs.Prelude.{ℕ, zero, suc, ◌+◌, ◌-◌, ◌==◌, ◌&&◌, Bool, List, [], ◌∷◌, ◌++◌, length, get_or, set, replicate, nat_le, if◌then◌else◌}
use Rattle.rss_wire.specs.declared.message.Fate.{Fate}
use Rattle.rss_wire.specs.declared.message.Fate.TheVariants.{Pending}
use Rattle.rss_tables.specs.Round.{majority}
use Rattle.group_tables.specs.declared.messages.Ballot.{Ballot}
use Rattle.group_tables.specs.declared.messages.Slot.{Slot}
use Rattle.group_tables.specs.declared.messages.Body.{Body}
use Rattle.group_tables.specs.declared.messages.Body.TheVariants.{Seek}
use Rattle.group_tables.specs.Ballots.{no_ballot}

-- a member whose vow was heard, with its slots
pub record Heard : Type 0 where
  pub member : ℕ
  pub slots : List Slot

-- a member that has told that it keeps a slot
pub record Note : Type 0 where
  pub slot : ℕ
  pub member : ℕ

-- a member follows, or wants to lead by its promise, with the vows heard of others, or leads by it
pub data Role : Type 0 where
  follower : Role
  candidate : List Heard → Role
  leader : List Note → Role

-- the promise and the slots outlive a crash; slot n stands at place n - 1
pub record Member : Type 0 where
  pub promised : Ballot
  pub slots : List Slot
  pub role : Role
  pub applied : ℕ

pub record Sent : Type 0 where
  pub sender : ℕ
  pub receiver : ℕ
  pub body : Body
  pub fate : Fate

-- how many requests there are; the members and the messages by number, from 1; and the request of
-- each slot that some member has ever applied
pub record Group : Type 0 where
  pub requests : ℕ
  pub members : List Member
  pub sent : List Sent
  pub told : List ℕ

abbrev pub new_member : Member
new_member = record { promised = no_ballot; slots = []; role = follower; applied = 0 }

abbrev pub opening_group : ℕ → ℕ → Group
opening_group members requests = record { requests = requests; members = replicate members new_member; sent = []; told = [] }

abbrev pub member_at : Group → ℕ → Member
member_at g m = get_or g.members (m - 1) new_member

abbrev pub with_member : Group → ℕ → Member → Group
with_member g m x = record g { members = set g.members (m - 1) x }

abbrev pub has_member : Group → ℕ → Bool
has_member g m = nat_le 1 m && nat_le m (length g.members)

-- one message more
abbrev pub sends : Group → ℕ → ℕ → Body → Group
sends g sender receiver body = record g {
  sent = g.sent ++ record { sender = sender; receiver = receiver; body = body; fate = Pending } ∷ [];
}

-- to each of these many members from one on, but for the sender
abbrev pub sends_from : Group → ℕ → Body → ℕ → ℕ → Group
sends_from g sender body n zero = g
sends_from g sender body n (suc left) =
    sends_from (if n == sender then g else sends g sender n body) sender body (n + 1) left

-- to each other member, ascending
abbrev pub sends_others : Group → ℕ → Body → Group
sends_others g sender body = sends_from g sender body 1 (length g.members)

-- whether so many members are a majority
abbrev pub is_majority : Group → ℕ → Bool
is_majority g n = nat_le (majority (length g.members)) n

-- no message
abbrev pub no_sent : Sent
no_sent = record { sender = 0; receiver = 0; body = Seek no_ballot; fate = Pending }

abbrev pub sent_at : Group → ℕ → Sent
sent_at g n = get_or g.sent (n - 1) no_sent
