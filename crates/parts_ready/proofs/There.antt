-- Owners that run are there.
use Rattle.std.proofs.Common.{◌≡◌, ℕ, zero, suc, ◌<◌, true, List, [], ◌∷◌, length, Some, arith}
use Rattle.std.specs.Prelude.{get_or}
use Rattle.pipeline_lang.specs.declared.config.Config.{Config}
use Rattle.rss_machine.specs.Standing.{is_running}
use Rattle.rss_machine.specs.State.{Owner, no_owner}
use Rattle.world_parts.specs.Parts.{Staging, Traffic, Stores, stage_in}
use Rattle.parts_ready.specs.Ready.{AreReady}

pub running_there : (owners : List Owner) (o : ℕ) → is_running (get_or owners o no_owner).fate ≡ true → o < length owners
running_there [] o h = absurd (cc)
running_there (w ∷ owners) zero h = omega arith
running_there (w ∷ owners) (suc o) h = let r = running_there owners o h in omega (arith, r)

-- what a stage has under way is there
pub under_way : (c : Config) (g : Staging) (t : Traffic) (d : Stores) (n o : ℕ) → AreReady c g t d → (stage_in g n).owner ≡ Some o → o < length t.owners
under_way c g t d n o h e = running_there t.owners o (h.facts.run.links.own.owner n o e).running
