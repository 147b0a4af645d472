-- Spawns of a file keep apart: each stage is spawned in one place, outside of blocks, by an earlier stage.
use Rattle.std.proofs.Common.{◌≡◌, ℕ, ◌<◌, ◌≤◌, ◌⊎◌, inl, inr, Bool, true, false, ◌||◌, length, refl, ap, sym, ◌∙◌, subst, arith}
use Rattle.std.specs.Prelude.{not, nat_lt}
use Rattle.std.proofs.lemmas.Bool.{true≢false}
use Rattle.pipeline_lang.specs.Config.{script_of, statement_at}
use Rattle.pipeline_lang.specs.declared.config.Config.{Config}
use Rattle.pipeline_lang.specs.declared.script.Statement.TheVariants as statement
use Rattle.script_binding.specs.declared.environment.Environment.{Environment}
use Rattle.script_binding.specs.Environment.{Bound, start}
use Rattle.script_binding.specs.Naming.{Naming}
use Rattle.script_binding.specs.Shapes.{has_number, is_inside, is_later, is_bad_spawn, is_bad_wait}
use Rattle.world_laws.specs.Apart.{SpawnsApart}
use Rattle.world_laws.specs.Depth.{depth_at}
use Rattle.sound_laws.specs.Shaped.{Shaped, before}
use Rattle.sound_laws.proofs.Above.{shaped_at, depth_before, spawned_above}
use Rattle.sound_laws.proofs.Bodies.{StageShaped}
use Rattle.sound_laws.proofs.Named.{HasNumbers}

-- neither of two tests holds
pub neither : (a b : Bool) → (a || b) ≡ false → (a ≡ false) × (b ≡ false)
neither true b h = absurd (true≢false h)
neither false b h = (refl, h)

pub not_false : (b : Bool) → not b ≡ false → b ≡ true
not_false true h = refl
not_false false h = absurd (true≢false h)

-- no block is open where a statement may not stand in one
pub none_open : (c : Config) (n place : ℕ) → is_inside (before start (script_of c n) place) ≡ false → depth_at (script_of c n) place ≡ 0
none_open c n place h = sym (depth_before start (script_of c n) place) ∙ zero_is (before start (script_of c n) place).depth h
  where
    zero_is : (depth : ℕ) → nat_lt 0 depth ≡ false → depth ≡ 0
    zero_is depth e = grind (arith, e)

-- a spawn that may stand where it does
pub record GoodSpawn (n : Naming) (env : Environment) (s : ℕ) : Type 0 where
  pub outside : is_inside env ≡ false
  pub later : is_later n s ≡ true
  pub earlier : has_number s n.spawned ≡ false
  pub above : has_number s env.spawned ≡ false

good_spawn : (n : Naming) (env : Environment) (s : ℕ) → is_bad_spawn n env s ≡ false → GoodSpawn n env s
good_spawn n env s h =
    let a = neither _ (has_number s env.spawned) h in
    let b = neither _ (has_number s n.spawned) a.0 in
    let d = neither (is_inside env) (not (is_later n s)) b.0 in
    record { outside = d.0; later = not_false (is_later n s) d.1; earlier = b.1; above = a.1 }

wait_later : (n : Naming) (env : Environment) (s : ℕ) → is_bad_wait n env s ≡ false → is_later n s ≡ true
wait_later n env s h =
    let a = neither _ (has_number s env.waited) h in
    let b = neither _ (not (has_number s env.spawned)) a.0 in
    let d = neither (is_inside env) (not (is_later n s)) b.0 in
    not_false (is_later n s) d.1

later_is : (a b : ℕ) → nat_lt a b ≡ true → a < b
later_is a b e = grind (arith, e)

pub in_order : (i j : ℕ) → (i < j) ⊎ ((i ≡ j) ⊎ (j < i))
in_order i j = grind arith

module _ (c : Config) (shaped : (n : ℕ) → 0 < n → StageShaped c n) where
  -- the statement at a place does what it may
  pub statement_shaped : (n place : ℕ) (z : 0 < n) (b : Bound) → statement_at c n place ≡ b → Shaped (shaped n z).naming (before start (script_of c n) place) b
  statement_shaped n place z b e = subst (Shaped (shaped n z).naming (before start (script_of c n) place)) e (shaped_at (shaped n z).naming start (script_of c n) place (shaped n z).shaped)

  spawn : (n place child : ℕ) (z : 0 < n) → statement_at c n place ≡ statement.Spawn child → GoodSpawn (shaped n z).naming (before start (script_of c n) place) child
  spawn n place child z e = good_spawn (shaped n z).naming (before start (script_of c n) place) child (statement_shaped n place z (statement.Spawn child) e)

  spawn_later : (n place child : ℕ) → 0 < n → statement_at c n place ≡ statement.Spawn child → n < child
  spawn_later n place child z e = subst (λ (m : ℕ). m < child) (shaped n z).stage (later_is (shaped n z).naming.stage child (spawn n place child z e).later)

  wait : (n place child : ℕ) → 0 < n → statement_at c n place ≡ statement.Wait child → n < child
  wait n place child z e = subst (λ (m : ℕ). m < child) (shaped n z).stage (later_is (shaped n z).naming.stage child (wait_later (shaped n z).naming (before start (script_of c n) place) child (statement_shaped n place z (statement.Wait child) e)))

  -- two spawns of one stage are the same statement of the same stage
  not_earlier : (n m i j child : ℕ) → 0 < n → 0 < m → statement_at c n i ≡ statement.Spawn child → statement_at c m j ≡ statement.Spawn child → n < m → ⊥
  not_earlier n m i j child z y e f l = true≢false (sym ((shaped m y).before n i child z l e) ∙ (spawn m j child y f).earlier)

  not_above : (n i j child : ℕ) → 0 < n → statement_at c n i ≡ statement.Spawn child → statement_at c n j ≡ statement.Spawn child → i < j → ⊥
  not_above n i j child z e f l = true≢false (sym (spawned_above start (script_of c n) i j child l e) ∙ (spawn n j child z f).above)

  one_place : (n i j child : ℕ) → 0 < n → statement_at c n i ≡ statement.Spawn child → statement_at c n j ≡ statement.Spawn child → i ≡ j
  one_place n i j child z e f = by_order (in_order i j)
    where
      by_order : (i < j) ⊎ ((i ≡ j) ⊎ (j < i)) → i ≡ j
      by_order (inl l) = absurd (not_above n i j child z e f l)
      by_order (inr (inl q)) = q
      by_order (inr (inr l)) = absurd (not_above n j i child z f e l)

  one_stage : (n m i j child : ℕ) → 0 < n → 0 < m → statement_at c n i ≡ statement.Spawn child → statement_at c m j ≡ statement.Spawn child → n ≡ m
  one_stage n m i j child z y e f = by_order (in_order n m)
    where
      by_order : (n < m) ⊎ ((n ≡ m) ⊎ (m < n)) → n ≡ m
      by_order (inl l) = absurd (not_earlier n m i j child z y e f l)
      by_order (inr (inl q)) = q
      by_order (inr (inr l)) = absurd (not_earlier m n j i child y z f e l)

  pub spawns_apart : ((n place : ℕ) → HasNumbers (length c.bodies) (statement_at c n place)) → SpawnsApart c
  spawns_apart numbers = record {
    later = spawn_later;
    there = λ n place child z e. subst (HasNumbers (length c.bodies)) e (numbers n place);
    outside = λ n place child z e. none_open c n place (spawn n place child z e).outside;
    once = λ n m i j child z y e f.
        let q = one_stage n m i j child z y e f in
        (q, one_place n i j child z e (ap (λ (k : ℕ). statement_at c k j) q ∙ f));
    waits = wait;
  }
