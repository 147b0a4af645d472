-- Which targets are cut off by a list of losses, before and after one more is lost.
use Rattle.std.proofs.Common.{◌≡◌, ℕ, zero, suc, ◌+◌, ◌-◌, ◌*◌, ◌<◌, ◌≤◌, ◌⊎◌, inl, inr, Bool, true, false, List, ◌∷◌, length, get_or, refl, ap, sym, ◌∙◌, subst, arith}
use Rattle.std.specs.Prelude.{◌==◌, nat_le, nat_lt}
use Rattle.std.proofs.Math.ListN.{set}
use Rattle.std.proofs.lemmas.Bool.{cases_eq}
use Rattle.rss_names.specs.declared.service.ServiceId.{ServiceId}
use Rattle.rss_names.specs.declared.service.ServiceId.TheVariants.{Txn, Reg}
use Rattle.rss_names.specs.declared.service.Target.{Target}
use Rattle.rss_names.specs.declared.service.Target.TheVariants.{Shard, Replica}
use Rattle.pipeline_lang.specs.Config.{replicas_of}
use Rattle.pipeline_lang.specs.declared.config.Config.{Config}
use Rattle.rss_tables.specs.Losses.{target_count, target_place, no_losses, losses_of, one_more_lost, reaches_tries, is_cut, cut_from, is_quorum_lost}
use Rattle.rss_tables.specs.Round.{count_cut, spare}
use Rattle.world_laws.proofs.Looks.{looks, get_or_set, get_or_repeat}
use Rattle.world_laws.specs.Targets.{IsService, IsShard, HasPlace}

-- a target ends its owner by these losses: that shard is cut off, or a quorum of that replica's service is lost
abbrev pub IsCut : Config → List ℕ → Target → Type 0
IsCut c losses (Shard shard) = is_cut c.tries losses (Shard shard) ≡ true
IsCut c losses (Replica service replica) = is_quorum_lost c.tries losses service (replicas_of c service) ≡ true

-- and it has a place
abbrev pub CutBy : Config → List ℕ → Target → Type 0
CutBy c losses target = HasPlace c target × IsCut c losses target

-- no target does
pub record NoneCut (c : Config) (losses : List ℕ) : Type 0 where
  pub shards : (shard : ℕ) → IsShard shard → is_cut c.tries losses (Shard shard) ≡ false
  pub services : (number : ℕ) → IsService c number → is_quorum_lost c.tries losses (Reg number) (replicas_of c (Reg number)) ≡ false

-- why a loss ends no owner: it is not the one that cuts its target off, or a majority can spare that replica
pub data Spared (c : Config) (losses : List ℕ) : Target → Type 0 where
  other_loss : (target : Target) → reaches_tries c.tries losses target ≡ false → Spared c losses target
  spares_one : (service : ServiceId) (replica : ℕ) → is_quorum_lost c.tries (one_more_lost losses (Replica service replica)) service (replicas_of c service) ≡ false → Spared c losses (Replica service replica)

-- lists of losses by which the same is cut off of these many replicas
pub same_from : (tries : ℕ) (xs ys : List ℕ) (service : ServiceId) → (left replica : ℕ) → ((r : ℕ) → replica ≤ r → r < replica + left → is_cut tries ys (Replica service r) ≡ is_cut tries xs (Replica service r)) → cut_from tries ys service replica left ≡ cut_from tries xs service replica left
same_from tries xs ys service zero replica f = refl
same_from tries xs ys service (suc left) replica f =
    ap (λ (b : Bool). b ∷ cut_from tries ys service (replica + 1) left) (f replica (omega arith) (omega arith))
    ∙ ap (λ (bs : List Bool). is_cut tries xs (Replica service replica) ∷ bs) (same_from tries xs ys service left (replica + 1) (λ r a b. f r (omega (arith, a)) (omega (arith, b))))

pub same_quorum : (tries : ℕ) (xs ys : List ℕ) (service : ServiceId) (n : ℕ) → ((r : ℕ) → 1 ≤ r → r < 8 → is_cut tries ys (Replica service r) ≡ is_cut tries xs (Replica service r)) → is_quorum_lost tries ys service n ≡ is_quorum_lost tries xs service n
same_quorum tries xs ys service n f = ap (λ (bs : List Bool). nat_lt (spare n) (count_cut bs)) (same_from tries xs ys service 7 1 f)

-- a loss elsewhere, and one that is not the last of a target's tries
pub elsewhere : (losses : List ℕ) (p q x : ℕ) → (q ≡ p → ⊥) → get_or (set losses p x) q 0 ≡ get_or losses q 0
elsewhere losses p q x d = by_place (get_or_set losses p x q 0)
  where
    by_place : ((get_or (set losses p x) q 0 ≡ x) × (q ≡ p) × (p < length losses)) ⊎ ((get_or (set losses p x) q 0 ≡ get_or losses q 0) × ((q ≡ p → ⊥) ⊎ (length losses ≤ q))) → get_or (set losses p x) q 0 ≡ get_or losses q 0
    by_place (inl e) = absurd (d e.1)
    by_place (inr e) = e.0

le_more : (tries x : ℕ) → (x + 1 == tries) ≡ false → nat_le tries (x + 1) ≡ nat_le tries x
le_more tries x f = grind (arith, f)

not_last : (tries : ℕ) (losses : List ℕ) (p q : ℕ) → (get_or losses p 0 + 1 == tries) ≡ false → nat_le tries (get_or (set losses p (get_or losses p 0 + 1)) q 0) ≡ nat_le tries (get_or losses q 0)
not_last tries losses p q f = by_place (get_or_set losses p (get_or losses p 0 + 1) q 0)
  where
    by_place : ((get_or (set losses p (get_or losses p 0 + 1)) q 0 ≡ get_or losses p 0 + 1) × (q ≡ p) × (p < length losses)) ⊎ ((get_or (set losses p (get_or losses p 0 + 1)) q 0 ≡ get_or losses q 0) × ((q ≡ p → ⊥) ⊎ (length losses ≤ q))) → nat_le tries (get_or (set losses p (get_or losses p 0 + 1)) q 0) ≡ nat_le tries (get_or losses q 0)
    by_place (inl e) = ap (λ (x : ℕ). nat_le tries x) e.0 ∙ (le_more tries (get_or losses p 0) f ∙ ap (λ (n : ℕ). nat_le tries (get_or losses n 0)) (sym e.1))
    by_place (inr e) = ap (λ (x : ℕ). nat_le tries x) e.0

pub same_cut : (tries : ℕ) (losses : List ℕ) (target other : Target) → reaches_tries tries losses target ≡ false → is_cut tries (one_more_lost losses target) other ≡ is_cut tries losses other
same_cut tries losses target other f = not_last tries losses (target_place target) (target_place other) f

other_cut : (tries : ℕ) (losses : List ℕ) (target other : Target) → (target_place other ≡ target_place target → ⊥) → is_cut tries (one_more_lost losses target) other ≡ is_cut tries losses other
other_cut tries losses target other d = ap (λ (x : ℕ). nat_le tries x) (elsewhere losses (target_place target) (target_place other) _ d)

-- what was not cut off stays so where a loss is spared
pub none_more : (c : Config) (losses : List ℕ) (target : Target) → HasPlace c target → Spared c losses target → NoneCut c losses → NoneCut c (one_more_lost losses target)
none_more c losses target p (other_loss _ f) h = record {
  shards = λ shard d. same_cut c.tries losses target (Shard shard) f ∙ h.shards shard d;
  services = λ number d. same_quorum c.tries losses (one_more_lost losses target) (Reg number) (replicas_of c (Reg number)) (λ r a b. same_cut c.tries losses target (Replica (Reg number) r) f) ∙ h.services number d;
}
none_more c losses _ p (spares_one (Txn number) replica q) h = absurd p
none_more c losses _ p (spares_one (Reg number) replica q) h = record {
  shards = λ shard d. other_cut c.tries losses (Replica (Reg number) replica) (Shard shard) (let f = d.few in let g = d.from_one in λ e. omega (arith, e, f, g)) ∙ h.shards shard d;
  services = λ other d. by_number other d (cases_eq other number);
}
  where
    apart : (other r : ℕ) → 1 ≤ other → 1 ≤ number → 1 ≤ replica → replica ≤ 7 → (other ≡ number → ⊥) → 1 ≤ r → r < 8 → 16 + 7 * (other - 1) + (r - 1) ≡ 16 + 7 * (number - 1) + (replica - 1) → ⊥
    apart other r a b d f g i j e = omega (arith, a, b, d, f, g, i, j, e)

    by_number : (other : ℕ) → IsService c other → (other ≡ number) ⊎ (other ≡ number → ⊥) → is_quorum_lost c.tries (one_more_lost losses (Replica (Reg number) replica)) (Reg other) (replicas_of c (Reg other)) ≡ false
    by_number other d (inl e) = subst (λ (n : ℕ). is_quorum_lost c.tries (one_more_lost losses (Replica (Reg number) replica)) (Reg n) (replicas_of c (Reg n)) ≡ false) (sym e) q
    by_number other d (inr e) =
        same_quorum c.tries losses (one_more_lost losses (Replica (Reg number) replica)) (Reg other) (replicas_of c (Reg other))
        (λ r a b. other_cut c.tries losses (Replica (Reg number) replica) (Replica (Reg other) r) (apart other r d.from_one p.service.from_one p.from_one (let f = p.few in let g = p.service.replicas in omega (arith, f, g)) e a b)) ∙ h.services other d

-- nothing is cut off before anything was lost
pub nothing_lost : (place : ℕ) → get_or no_losses place 0 ≡ 0
nothing_lost place = by_place (get_or_repeat target_count 0 place 0)
  where
    by_place : ((get_or no_losses place 0 ≡ 0) × (place < target_count)) ⊎ ((get_or no_losses place 0 ≡ 0) × (target_count ≤ place)) → get_or no_losses place 0 ≡ 0
    by_place (inl e) = e.0
    by_place (inr e) = e.0

pub le_none : (tries : ℕ) → 1 ≤ tries → nat_le tries 0 ≡ false
le_none tries l = grind (arith, l)

uncut : (tries : ℕ) (target : Target) → 1 ≤ tries → is_cut tries no_losses target ≡ false
uncut tries target l = ap (λ (x : ℕ). nat_le tries x) (nothing_lost (target_place target)) ∙ le_none tries l

count_none : (tries : ℕ) (service : ServiceId) → 1 ≤ tries → (left replica : ℕ) → count_cut (cut_from tries no_losses service replica left) ≡ 0
count_none tries service l zero replica = refl
count_none tries service l (suc left) replica = ap (λ (b : Bool). count_cut (b ∷ cut_from tries no_losses service (replica + 1) left)) (uncut tries (Replica service replica) l) ∙ count_none tries service l left (replica + 1)

none_lt : (n : ℕ) → nat_lt n 0 ≡ false
none_lt n = grind (arith)

pub none_cut : (c : Config) → 1 ≤ c.tries → NoneCut c no_losses
none_cut c l = record {
  shards = λ shard d. uncut c.tries (Shard shard) l;
  services = λ number d. ap (λ (x : ℕ). nat_lt (spare (replicas_of c (Reg number))) x) (count_none c.tries (Reg number) l 7 1) ∙ none_lt (spare (replicas_of c (Reg number)));
}

-- the loss that cuts a shard off
last_le : (tries x : ℕ) → (x + 1 == tries) ≡ true → nat_le tries (x + 1) ≡ true
last_le tries x e = grind (arith, e)

pub at_place : (losses : List ℕ) (p x : ℕ) → p < length losses → get_or (set losses p x) p 0 ≡ x
at_place losses p x l = grind (arith, looks, l)

pub shard_cut : (tries : ℕ) (losses : List ℕ) (shard : ℕ) → IsShard shard → length losses ≡ target_count → reaches_tries tries losses (Shard shard) ≡ true → is_cut tries (one_more_lost losses (Shard shard)) (Shard shard) ≡ true
shard_cut tries losses shard d n e =
    ap (λ (x : ℕ). nat_le tries x) (at_place losses (shard - 1) (losses_of losses (Shard shard) + 1) (let f = d.few in omega (arith, f, n))) ∙ last_le tries (losses_of losses (Shard shard)) e
