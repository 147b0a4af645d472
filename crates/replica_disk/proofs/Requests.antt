-- Requests, by what they have a replica accept.
use Rattle.std.proofs.Common.{◌≡◌, ℕ, ◌+◌, ◌≤◌, List, [], ◌∷◌, length, take, arith, refl, sym, ap, ◌∙◌}
use Rattle.replica_disk.proofs.Fronts.{after_accepts}

pub ruleset requests = (after_accepts)
