-- How a stage dies and a stub is cut off, put together of the parts.
use Rattle.std.proofs.Common.{◌≡◌, ℕ, zero, suc, length, List, [], ◌∷◌, set, Option, Some, None, refl, sym, ap}
use Rattle.pipeline_lang.specs.declared.config.Config.{Config}
use Rattle.rss_names.specs.declared.service.Target.{Target}
use Rattle.rss_model.specs.declared.history.How.{How}
use Rattle.rss_machine.specs.Moves.{dies, loses_stub, cuts_from}
use Rattle.rss_machine.specs.State.{State, Owner}
use Rattle.rss_machine.specs.declared.state.OwnerFate.{OwnerFate}
use Rattle.rss_machine.specs.declared.state.OwnerFate.TheVariants.{CutOff}
use Rattle.world_parts.specs.Halves.{closes_left, closes_in, adds_owner}
use Rattle.world_parts.specs.Parts.{Clock, Staging, Traffic, Stores, assembled, in_staging, stage_in, owner_in}
use Rattle.world_parts.proofs.Frames.{moves_split}
use Rattle.world_stages.specs.Halves.{died}
use Rattle.world_machine.specs.Rooms.{stub_owner}

pub died_so : (k : Clock) (g g' : Staging) (t u t' : Traffic) (d : Stores) (n stub : ℕ) (how : How) (f : OwnerFate) (w : Owner)
    → u ≡ closes_left k.steps t (stage_in g n).owner f → w ≡ stub_owner t k.steps n (stage_in g n).owner (stage_in g n).context
    → t' ≡ adds_owner u w w.works.left → stub ≡ length u.owners → g' ≡ died g n how stub
    → assembled k g' t' d ≡ dies (assembled k g t d) n how f
died_so k g g' t u t' d n stub how f w e h p q r = rw (r, p, h, q, e) (sym ((moves_split k g t d).dies n how f))

-- what is closed leaves as many owners, and as many fences planned
pub planned_left : (step : ℕ) (t : Traffic) (o : Option ℕ) (f : OwnerFate) → (closes_left step t o f).planned ≡ t.planned
planned_left step t None f = refl
planned_left step t (Some o) f = refl

length_set : {X : Type 0} (xs : List X) (i : ℕ) (x : X) → length (set xs i x) ≡ length xs
length_set [] i x = refl
length_set (a ∷ xs) zero x = refl
length_set (a ∷ xs) (suc i) x = ap suc (length_set xs i x)

pub many_left : (step : ℕ) (t : Traffic) (o : Option ℕ) (f : OwnerFate) → length (closes_left step t o f).owners ≡ length t.owners
many_left step t None f = refl
many_left step t (Some o) f = length_set t.owners o _

pub stub_lost : (c : Config) (k : Clock) (g g' : Staging) (t t' : Traffic) (d : Stores) (o : ℕ) (target : Target)
    → t' ≡ closes_in k.steps t o (CutOff target) → g' ≡ in_staging (λ (s : State). cuts_from c s (owner_in t o).stage 1 c.pipe_ends) g
    → assembled k g' t' d ≡ loses_stub c (assembled k g t d) o target
stub_lost c k g g' t t' d o target p q = rw (p, q) (sym ((moves_split k g t d).loses-stub c o target))
