-- What the replies of a round tell of the replicas.
use Rattle.std.specs.Prelude.{◌≡◌, ℕ, ◌<◌, false, List, get_or, Some, None, IsTrue}
use Rattle.rss_names.specs.declared.service.Key.{Key}
use Rattle.carstamps.specs.declared.carstamp.Carstamp.{Carstamp}
use Rattle.carstamps.specs.Stamp.{IsAtMost, stamp_le}
use Rattle.rss_wire.specs.declared.messages.RegReply.{RegReply}
use Rattle.rss_tables.specs.ReplicaRow.{held_at}
use Rattle.rss_tables.specs.Round.{Round, greatest_heard}
use Rattle.quorum_laws.specs.Majority.{majority_passes}

-- a cell was heard of the replica at a place, counted from 0
abbrev pub IsHeardAt : Round → ℕ → RegReply → Type 0
IsHeardAt round at cell = get_or round.heard at None ≡ Some cell

-- nothing was heard but of the replicas of the round
abbrev pub HearsItsReplicas : Round → Type 0
HearsItsReplicas round = (at : ℕ) (cell : RegReply) → IsHeardAt round at cell → at < round.replicas

-- the stamp that a replica with these cells holds of a register
abbrev pub stamp_held : Key → List RegReply → Carstamp
stamp_held key cells = (held_at cells key).stamp

-- the greatest cell heard has this stamp or a greater one
pub record HeardAtLeast (round : Round) (stamp : Carstamp) : Type 0 where
  pub greatest : RegReply
  pub is_greatest : greatest_heard round ≡ Some greatest
  pub at_least : IsAtMost stamp greatest.stamp

-- the greatest cell heard has the stamp that each of a majority of these replicas holds, or a greater one
pub record HeardOfMajority (round : Round) (replicas : List (List RegReply)) (key : Key) : Type 0 where
  pub greatest : RegReply
  pub is_greatest : greatest_heard round ≡ Some greatest
  pub at_least :
      IsTrue (majority_passes (λ cells. stamp_le (stamp_held key cells) greatest.stamp) replicas)

-- a replica of the round that is not cut off and of which nothing was heard yet
pub record HasReplicaLeft (round : Round) : Type 0 where
  pub place : ℕ
  pub inside : place < round.replicas
  pub unheard : get_or round.heard place None ≡ None
  pub uncut : get_or round.cut place false ≡ false
