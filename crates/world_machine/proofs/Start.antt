-- The machine before the first step.
use Rattle.std.proofs.Common.{◌≡◌, ℕ, ◌≤◌, ◌<◌, ◌^◌, List, [], ◌∷◌, length, replicate, refl, arith}
use Rattle.pipeline_lang.specs.declared.config.Config.{Config}
use Rattle.rss_machine.specs.State.{start, no_owner}
use Rattle.rss_wire.specs.Messages.{no_messages}
use Rattle.world_laws.specs.Shapes.{IsSoundFile}
use Rattle.world_parts.specs.Parts.{Clock, Staging, Traffic, Stores, assembled, staging_of, stores_of}

pub few_stages : (c : Config) → IsSoundFile c → length c.bodies ≤ 16
few_stages c file = file.within.stages

pub few_shards : (c : Config) → IsSoundFile c → length c.shard_services ≤ 16
few_shards c file = file.within.shards

pub few_keys : (c : Config) → IsSoundFile c → length c.homes < 2 ^ 16
few_keys c file = let most = file.within.keys in omega (arith, most)

-- the parts before the first step make the state before it
pub opened : (c : Config) (k : Clock) (g : Staging) (t : Traffic) (d : Stores) → k ≡ record { steps = 0; moment = 0; moments = [] } → g ≡ staging_of (start c) → t ≡ record { owners = no_owner ∷ []; net = no_messages; planned = replicate 16 0 } → d ≡ stores_of (start c) → assembled k g t d ≡ start c
opened c k g t d clock staging traffic stores = rw (clock, staging, traffic, stores) refl
