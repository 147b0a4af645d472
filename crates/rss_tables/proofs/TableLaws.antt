-- Small laws of losses, versions and replicas.
use Rattle.std.proofs.Common.{◌≡◌, ℕ, ◌<◌, ◌≤◌, ◌+◌, Bool, true, false, List, [], ◌∷◌, refl, arith, length}
use Rattle.std.proofs.lemmas.Grind.{common_steps}
use Rattle.std.proofs.lemmas.Bool.Decides.{nat_tests}
use Rattle.std.proofs.lemmas.List.{get_or-set_same}
use Rattle.rss_names.specs.declared.service.Target.{Target}
use Rattle.rss_wire.specs.declared.messages.Version.{Version}
use Rattle.rss_tables.specs.Losses.{target_place, losses_of, one_more_lost, reaches_tries}
use Rattle.rss_tables.specs.Versions.{last_upto}

-- losses reach `tries` once
pub cut-once : (tries : ℕ) (losses : List ℕ) (target : Target) → target_place target < length losses → reaches_tries tries losses target ≡ true → reaches_tries tries (one_more_lost losses target) target ≡ false
cut-once tries losses target l h = let e = get_or-set_same losses (target_place target) (losses_of losses target + 1) 0 in grind (arith, nat_tests, common_steps, e, h, l)

-- the version at a time is not above it, where the one found before is not
pub upto-time : (versions : List Version) (found : Version) (time : ℕ) → found.time ≤ time → (last_upto found time versions).time ≤ time
upto-time [] found time h = h
upto-time (v ∷ versions) found time h = let a = upto-time versions v time in let b = upto-time versions found time h in grind (arith, nat_tests, common_steps, a, b, h)
