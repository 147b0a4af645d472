use Rattle.std.proofs.Common.{ℕ, List, length, Option, sym, subst}
use Rattle.owner_turns.specs.Whole.{OwnerView}
use Rattle.world_traffic.specs.View.{CountsFit, next_of}
use Rattle.world_machine.proofs.machine.Machine.die.Goals as goal

pub open-stub-requires-clause-counts : goal.open-stub-requires-clause-counts
open-stub-requires-clause-counts c =
    subst (λ (counts : List ℕ). CountsFit (length (next_of c.close_owner.new.self.traffic.next).works.left) counts) (sym c.close_owner.ensures.planned)
    (subst (λ (x : Option OwnerView). CountsFit (length (next_of x).works.left) c.args.self.now.traffic.traffic.planned) (sym c.close_owner.ensures.next) c.requires.room.owner.counts)
