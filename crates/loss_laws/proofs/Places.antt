-- Targets that have places of their own.
use Rattle.std.proofs.Common.{◌≡◌, ℕ, ◌+◌, ◌-◌, ◌*◌, ◌<◌, ◌≤◌, ◌⊎◌, inl, inr, Bool, true, false, refl, ap, ◌∙◌, arith}
use Rattle.pipeline_lang.specs.Config.{replicas_of}
use Rattle.rss_wire.specs.Messages.{message_at}
use Rattle.rss_machine.specs.State.{State}
use Rattle.std.specs.Prelude.{⊤, length, ◌==◌, ◌&&◌}
use Rattle.std.proofs.lemmas.Bool.{cases_eq}
use Rattle.rss_names.specs.declared.service.ServiceId.TheVariants.{Txn, Reg}
use Rattle.rss_names.specs.declared.service.Target.{Target}
use Rattle.rss_names.specs.declared.service.Target.TheVariants.{Shard, Replica}
use Rattle.pipeline_lang.specs.declared.config.Config.{Config}
use Rattle.rss_wire.specs.Messages.{same_target}
use Rattle.rss_tables.specs.Losses.{target_count, target_place}
use Rattle.world_laws.specs.Targets.{HasPlace}

-- a replica is one of its service's in the file
abbrev pub IsWithin : Config → Target → Type 0
IsWithin c (Shard shard) = ⊤
IsWithin c (Replica service replica) = replica ≤ replicas_of c service

-- a target of the file that has a place of its own
pub record IsTarget (c : Config) (target : Target) : Type 0 where
  pub place : HasPlace c target
  pub within : IsWithin c target

-- every message of a state is with such a target
abbrev pub AreTargets : Config → State → Type 0
AreTargets c s = (m : ℕ) → 0 < m → m < length s.net → IsTarget c (message_at s.net m).envelope.target

pub equal_is : (a b : ℕ) → a ≡ b → (a == b) ≡ true
equal_is a b e = grind (arith, e)

pub other_is : (a b : ℕ) → (a ≡ b → ⊥) → (a == b) ≡ false
other_is a b d = by_case (a == b) refl
  where
    equal : (a b : ℕ) → (a == b) ≡ true → a ≡ b
    equal a b e = grind (arith, e)

    by_case : (t : Bool) → (a == b) ≡ t → t ≡ false
    by_case true e = absurd (d (equal a b e))
    by_case false e = refl

-- two targets are the same, or have different places
abbrev pub Apart : Target → Target → Type 0
Apart a b = ((same_target a b ≡ true) × (a ≡ b)) ⊎ ((same_target a b ≡ false) × (target_place b ≡ target_place a → ⊥))

pub apart : (c : Config) (a b : Target) → HasPlace c a → HasPlace c b → Apart a b
apart c (Shard a) (Shard b) p q = by_number (cases_eq a b)
  where
    by_number : (a ≡ b) ⊎ (a ≡ b → ⊥) → Apart (Shard a) (Shard b)
    by_number (inl e) = inl (equal_is a b e, ap (λ (n : ℕ). Shard n) e)
    by_number (inr d) = inr (other_is a b d, λ e. d (let f = p.from_one in let g = q.from_one in omega (arith, e, f, g)))
apart c (Replica (Reg n) a) (Replica (Reg m) b) p q = by_service (cases_eq n m) (cases_eq a b)
  where
    and_false : (x y : Bool) → x ≡ false → (x && y) ≡ false
    and_false x y e = grind (arith, e)

    and_parts : (x y : Bool) → x ≡ true → (x && y) ≡ y
    and_parts x y e = grind (arith, e)

    same : (n m a b : ℕ) → n ≡ m → a ≡ b → Replica (Reg n) a ≡ Replica (Reg m) b
    same n m a b e f = cc

    places : (n m a b : ℕ) → 1 ≤ n → 1 ≤ m → 1 ≤ a → 1 ≤ b → a ≤ 7 → b ≤ 7 → 16 + 7 * (m - 1) + (b - 1) ≡ 16 + 7 * (n - 1) + (a - 1) → (n ≡ m) × (a ≡ b)
    places n m a b i j k l x y e = (omega (arith, i, j, k, l, x, y, e), omega (arith, i, j, k, l, x, y, e))

    at : target_place (Replica (Reg m) b) ≡ target_place (Replica (Reg n) a) → (n ≡ m) × (a ≡ b)
    at e = places n m a b p.service.from_one q.service.from_one p.from_one q.from_one (let f = p.few in let g = p.service.replicas in omega (arith, f, g)) (let f = q.few in let g = q.service.replicas in omega (arith, f, g)) e

    by_service : (n ≡ m) ⊎ (n ≡ m → ⊥) → (a ≡ b) ⊎ (a ≡ b → ⊥) → Apart (Replica (Reg n) a) (Replica (Reg m) b)
    by_service (inl e) (inl f) = inl (and_parts (n == m) (a == b) (equal_is n m e) ∙ equal_is a b f, same n m a b e f)
    by_service (inl e) (inr f) = inr (and_parts (n == m) (a == b) (equal_is n m e) ∙ other_is a b f, λ g. f (at g).1)
    by_service (inr e) f = inr (and_false (n == m) (a == b) (other_is n m e), λ g. e (at g).0)
apart c (Shard a) (Replica (Reg m) b) p q = inr (refl, λ e. let f = p.few in let g = p.from_one in omega (arith, e, f, g))
apart c (Replica (Reg n) a) (Shard b) p q = inr (refl, λ e. let f = q.few in let g = q.from_one in omega (arith, e, f, g))
apart c (Shard a) (Replica (Txn m) b) p q = absurd q
apart c (Replica (Txn n) a) (Shard b) p q = absurd p
apart c (Replica (Txn n) a) (Replica (Txn m) b) p q = absurd p
apart c (Replica (Txn n) a) (Replica (Reg m) b) p q = absurd p
apart c (Replica (Reg n) a) (Replica (Txn m) b) p q = absurd q

-- a place is one of the list's
pub place_within : (c : Config) (target : Target) → HasPlace c target → target_place target < target_count
place_within c (Shard shard) p = let f = p.few in omega (arith, f)
place_within c (Replica (Reg n) r) p = let f = p.service.few in let g = p.few in let k = p.service.replicas in omega (arith, f, g, k)
place_within c (Replica (Txn n) r) p = absurd p
