-- Losses: how many messages between an owner and each target were lost, and which targets are cut
-- off from it for that.
use Rattle.std.specs.Prelude.{ℕ, zero, suc, ◌+◌, ◌-◌, ◌*◌, Bool, true, false, ◌==◌, List, [], ◌∷◌, map, get_or, set, replicate, nat_le, nat_lt, if◌then◌else◌}
use Rattle.rss_names.specs.declared.service.ServiceId.{ServiceId}
use Rattle.rss_names.specs.declared.service.ServiceId.TheVariants.{Txn, Reg}
use Rattle.rss_names.specs.declared.service.Target.{Target}
use Rattle.rss_names.specs.declared.service.Target.TheVariants.{Shard, Replica}
use Rattle.rss_tables.specs.Round.{count_cut, spare}

-- how many targets an owner can have: 16 shards, and 7 replicas of each of 8 register services
abbrev pub target_count : ℕ
target_count = 72

-- the place of a replica of a register service; a transaction service has none
abbrev pub replica_place : ServiceId → ℕ → ℕ
replica_place (Reg number) replica = 16 + 7 * (number - 1) + (replica - 1)
replica_place (Txn number) replica = target_count

-- the place of a target in a list of losses
abbrev pub target_place : Target → ℕ
target_place (Shard shard) = shard - 1
target_place (Replica service replica) = replica_place service replica

-- nothing was lost yet
abbrev pub no_losses : List ℕ
no_losses = replicate target_count 0

-- how many messages of a target were lost
abbrev pub losses_of : List ℕ → Target → ℕ
losses_of losses target = get_or losses (target_place target) 0

-- one more message of a target is lost
abbrev pub one_more_lost : List ℕ → Target → List ℕ
one_more_lost losses target = set losses (target_place target) (losses_of losses target + 1)

-- whether this loss is the one that cuts a target off
abbrev pub reaches_tries : ℕ → List ℕ → Target → Bool
reaches_tries tries losses target = losses_of losses target + 1 == tries

-- whether a target is cut off
abbrev pub is_cut : ℕ → List ℕ → Target → Bool
is_cut tries losses target = nat_le tries (losses_of losses target)

-- which of these many replicas of a service from this number on are cut off
abbrev pub cut_from : ℕ → List ℕ → ServiceId → ℕ → ℕ → List Bool
cut_from tries losses service replica zero = []
cut_from tries losses service replica (suc left) =
    is_cut tries losses (Replica service replica) ∷ cut_from tries losses service (replica + 1) left

-- which replicas of a service are cut off: number r stands at place r - 1
abbrev pub cut_replicas : ℕ → List ℕ → ServiceId → List Bool
cut_replicas tries losses service = cut_from tries losses service 1 7

-- whether more of a service's n replicas are cut off than a majority can spare
abbrev pub is_quorum_lost : ℕ → List ℕ → ServiceId → ℕ → Bool
is_quorum_lost tries losses service n = nat_lt (spare n) (count_cut (cut_replicas tries losses service))
