-- Messages are with shards of the file, in every run.
use Rattle.std.proofs.Common.{◌≡◌, ℕ, zero, suc, ◌+◌, ◌-◌, List, [], ◌∷◌, get_or, Some, ap, arith}
use Rattle.std.specs.List.{All}
use Rattle.truetime.specs.Reading.{Reading}
use Rattle.rss_names.specs.declared.service.ServiceId.{ServiceId}
use Rattle.pipeline_lang.specs.declared.config.Config.{Config}
use Rattle.rss_tables.specs.ShardRow.{opening_shard}
use Rattle.rss_machine.specs.Moves.{ticks}
use Rattle.rss_machine.specs.Run.{run, readings_of}
use Rattle.rss_machine.specs.State.{State, Owner, start, shards_from}
use Rattle.rss_machine.specs.declared.step.Step.{Step}
use Rattle.world_laws.specs.Laws.{IsOrdered}
use Rattle.world_laws.specs.NamedKeys.{NamesKeys}
use Rattle.world_laws.specs.Shapes.{IsSoundFile}
use Rattle.world_laws.specs.Targets.{ShardsHavePlaces}
use Rattle.shard_event_laws.specs.Events.{Event}
use Rattle.shard_event_laws.specs.Known.{Known}
use Rattle.shard_event_laws.proofs.Runs.{events_run}
use Rattle.txn_session_laws.specs.Standing.{UnderWay}
use Rattle.txn_session_laws.proofs.FramedOwners.{idle_or_txn, idle_or_snap}
use Rattle.txn_session_laws.proofs.Starts.{none_there}
use Rattle.txn_session_laws.proofs.UnderWay.{under_way_keeps, under_way_start, under_way_ticks}
use Rattle.target_laws.specs.InFile.{ShardIn, TargetsIn}
use Rattle.target_laws.proofs.Events.{targets_keep}

shards_open : (c : Config) (shard : ℕ) (services : List ServiceId) (place : ℕ) → ShardIn c (get_or (shards_from c shard services) place (opening_shard []))
shards_open c shard [] place = record { locks = tt; prepared = tt }
shards_open c shard (service ∷ services) zero = record { locks = tt; prepared = tt }
shards_open c shard (service ∷ services) (suc place) = shards_open c (shard + 1) services place

targets_start : (c : Config) → TargetsIn c (start c)
targets_start c = record {
  messages = λ m z l. absurd (omega (arith, z, l));
  shards = λ n. shards_open c 1 c.shard_services (n - 1);
  txn = λ o x e. idle_or_txn _ x (ap (λ (w : Owner). w.session) (none_there c o)) e;
  snap = λ o x e. idle_or_snap _ x (ap (λ (w : Owner). w.session) (none_there c o)) e;
}

-- with what is known of what is under way
abbrev Both : Config → State → Type 0
Both c s = UnderWay c s × TargetsIn c s

both_ticks : (c : Config) (s : State) (at : Reading) → Both c s → Both c (ticks s at)
both_ticks c s at h = (under_way_ticks c s at h.0, record { messages = h.1.messages; shards = h.1.shards; txn = h.1.txn; snap = h.1.snap })

both_keep : (c : Config) → NamesKeys c → (at : Reading) (s t : State) → Known at s → Known at t → Event c at s t → Both c s → Both c t
both_keep c names at s t known after event h = (under_way_keeps c at s t names known event h.0, targets_keep c names at s t known event h.0 h.1)

pub targets_in : (c : Config) (steps : List Step) (s : State) → IsSoundFile c → All IsOrdered (readings_of steps) → run c steps ≡ Some s → TargetsIn c s
targets_in c steps s f a e = (events_run c (Both c) (both_ticks c) (both_keep c f.keys) (under_way_start c, targets_start c) steps s a e).1

pub targets_placed : (c : Config) (steps : List Step) (s : State) → IsSoundFile c → All IsOrdered (readings_of steps) → run c steps ≡ Some s → ShardsHavePlaces s
targets_placed c steps s f a e m shard z l g =
    let k = (targets_in c steps s f a e).messages m z l shard g in
    let n = f.within.shards in
    record { from_one = k.0.0; few = (let x = k.0.1 in omega (arith, x, n)) }
