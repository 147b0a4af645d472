-- What was said in a group: its messages, by sender and body, whatever became of them. And who voted.
use Rattle.std.specs.Prelude.{◌≡◌, ℕ, ◌<◌, ◌≤◌, List, length, get_or}
use Rattle.group_tables.specs.declared.messages.Ballot.{Ballot}
use Rattle.group_tables.specs.declared.messages.Body.{Body}
use Rattle.group_tables.specs.declared.messages.Body.TheVariants.{Seek, Vow, Put, Kept, Learn}
use Rattle.group_tables.specs.Groups.{Sent, no_sent}

-- a member sent this
pub record Says (sent : List Sent) (m : ℕ) (body : Body) : Type 0 where
  pub place : ℕ
  pub there : place < length sent
  pub by : (get_or sent place no_sent).sender ≡ m
  pub says : (get_or sent place no_sent).body ≡ body

-- somebody sent this
pub record IsSaid (sent : List Sent) (body : Body) : Type 0 where
  pub by : ℕ
  pub says : Says sent by body

-- a member voted for what was put into a slot under a ballot: it said that it keeps it, or it put it there itself
pub data Voted (sent : List Sent) (m : ℕ) (b : Ballot) (n : ℕ) : Type 0 where
  by_keeping : Says sent m (Kept b n) → Voted sent m b n
  by_leading : (i : ℕ) → m ≡ b.member → IsSaid sent (Put b n i) → Voted sent m b n

-- what a member may say: who leads by a ballot speaks of it for itself, and who vows or keeps answers somebody else
abbrev pub MaySay : ℕ → Body → Type 0
MaySay m (Seek b) = b.member ≡ m
MaySay m (Vow b slots) = m ≡ b.member → ⊥
MaySay m (Put b n i) = (b.member ≡ m) × (1 ≤ n)
MaySay m (Kept b n) = (m ≡ b.member → ⊥) × (1 ≤ n)
MaySay m (Learn b n) = Unit {0}

-- a message between two members of so many
pub record IsRouted (members : ℕ) (s : Sent) : Type 0 where
  pub from_least : 1 ≤ s.sender
  pub from_most : s.sender ≤ members
  pub to_least : 1 ≤ s.receiver
  pub to_most : s.receiver ≤ members
  pub apart : s.receiver ≡ s.sender → ⊥
  pub may_say : MaySay s.sender s.body
