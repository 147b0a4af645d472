-- Of each register, the stamp that is held never falls.
use Rattle.std.proofs.Common.{List, [], ◌∷◌, arith, inr, refl}
use Rattle.std.proofs.lemmas.Grind.{common_steps}
use Rattle.carstamps.specs.Stamp.{IsAtMost}
use Rattle.carstamps.specs.declared.carstamp.Carstamp.{Carstamp}
use Rattle.rss_names.specs.declared.service.Key.{Key}
use Rattle.causal_context.specs.declared.dep.Dep.{Dep}
use Rattle.rss_wire.specs.declared.messages.RegReply.{RegReply}
use Rattle.rss_tables.specs.ReplicaRow.{held_at, accept, accept_all, dep_cell}

at_most_trans : (a b c : Carstamp) → IsAtMost a b → IsAtMost b c → IsAtMost a c
at_most_trans a b c p q = grind (arith, common_steps)

-- one accepted value leaves of each register at least the stamp that was held
pub accept-rises : (cells : List RegReply) (key : Key) (cell : RegReply) (k : Key) → IsAtMost (held_at cells k).stamp (held_at (accept cells key cell) k).stamp
accept-rises cells key cell k = grind (arith, common_steps)

-- and so do several
pub accept_all-rises : (cells : List RegReply) (deps : List Dep) (k : Key) → IsAtMost (held_at cells k).stamp (held_at (accept_all cells deps) k).stamp
accept_all-rises cells [] k = inr (refl, omega arith)
accept_all-rises cells (dep ∷ deps) k =
    at_most_trans _ _ _
    (accept-rises cells dep.key (dep_cell dep) k)
    (accept_all-rises (accept cells dep.key (dep_cell dep)) deps k)

pub ruleset rises = (accept-rises, accept_all-rises)
