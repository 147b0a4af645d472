-- What files say is what the walk stands on, in every run of them.
use Rattle.std.proofs.Common.{◌≡◌, ℕ, zero, suc, ◌<◌, ◌≤◌, length, arith}
use Rattle.pipeline_lang.specs.declared.config.Config.{Config}
use Rattle.pipeline_lang.specs.declared.script.Statement.TheVariants as statement
use Rattle.pipeline_lang.specs.Config.{statement_at}
use Rattle.world_laws.specs.Spawning.{SpawnsInside}
use Rattle.world_laws.specs.Apart.{SpawnsApart}
use Rattle.world_laws.specs.Served.{OpsServed}
use Rattle.world_laws.specs.Shapes.{IsSoundFile}
use Rattle.token_laws.proofs.Once.{spawned_once_in_runs}
use Rattle.covering_laws.proofs.Files.{ops_served}
use Rattle.covering_laws.proofs.Premises.{RunsTell, served_run}
use Rattle.covering_laws.proofs.Times.{times_run}

-- the script of number 0 is that of the first stage, so what is told of numbered stages is told of each
spawns_inside : (c : Config) → SpawnsApart c → SpawnsInside c
spawns_inside c h = record { first = first; last = last }
  where
    first : (n place child : ℕ) → statement_at c n place ≡ statement.Spawn child → 0 < child
    first zero place child e = let l = h.later 1 place child (omega arith) e in omega (arith, l)
    first (suc n) place child e = let l = h.later (suc n) place child (omega arith) e in omega (arith, l)

    last : (n place child : ℕ) → statement_at c n place ≡ statement.Spawn child → child ≤ length c.bodies
    last zero place child e = h.there 1 place child (omega arith) e
    last (suc n) place child e = h.there (suc n) place child (omega arith) e

pub runs_tell : (c : Config) → IsSoundFile c → RunsTell c
runs_tell c h = record {
  in_order = h.in_order;
  inside = spawns_inside c h.spawns;
  served = served;
  once = λ steps s m e. record { once = λ i j k l child z a b. (spawned_once_in_runs c steps s h.spawns h.pipes m e i j k l child z a b).0 };
  times = λ steps s a e. times_run c steps s h.keys (served_run c served steps s e) a e;
}
  where
    served : OpsServed c
    served = ops_served c h.in_order.names h.keys h.services
