-- What stands above a place of a script is in the environment there.
use Rattle.std.proofs.Common.{◌≡◌, ℕ, zero, suc, ◌<◌, Bool, true, false, ◌||◌, List, [], ◌∷◌, ◌++◌, get_or, refl, ap, sym, ◌∙◌, subst, arith}
use Rattle.std.specs.Prelude.{nat_eq}
use Rattle.std.specs.List.{list_any}
use Rattle.std.proofs.lemmas.Bool.{false≢true}
use Rattle.std.proofs.lemmas.List.Folds.{list_any-append}
use Rattle.pipeline_lang.specs.declared.script.Statement.TheVariants as statement
use Rattle.rss_model.specs.Cursor.{NumberedStatement}
use Rattle.rss_model.specs.Cursor as cursor
use Rattle.script_binding.specs.declared.environment.Environment.{Environment}
use Rattle.script_binding.specs.Environment.{Bound, depth_after, spawns, closes, spawned_in}
use Rattle.script_binding.specs.Naming.{Naming}
use Rattle.script_binding.specs.Shapes.{has_number}
use Rattle.world_laws.specs.Depth.{depth_from}
use Rattle.sound_laws.specs.Shaped.{Shaped, under, AreShaped, before}

-- the statement at a place does what it may
pub shaped_at : (n : Naming) (env : Environment) (script : List Bound) (place : ℕ) → AreShaped n env script → Shaped n (before env script place) (get_or script place statement.Exit)
shaped_at n env [] zero h = tt
shaped_at n env [] (suc place) h = tt
shaped_at n env (b ∷ bs) zero h = h.0
shaped_at n env (b ∷ bs) (suc place) h = shaped_at n (under env b) bs place h.1

-- as many blocks are open as the machine counts
pub same_depth : (depth : ℕ) (b : NumberedStatement) → depth_after depth b ≡ cursor.depth_after b depth
same_depth depth (statement.Let v e) = refl
same_depth depth (statement.Read v r) = refl
same_depth depth (statement.Write r e) = refl
same_depth depth (statement.Snap pairs) = refl
same_depth depth (statement.Txn pairs guard writes) = refl
same_depth depth (statement.Spawn s) = refl
same_depth depth (statement.Wait s) = refl
same_depth depth (statement.Put p e) = refl
same_depth depth (statement.Take v p) = refl
same_depth depth (statement.Close p) = refl
same_depth depth statement.Fence = refl
same_depth depth (statement.Repeat turns) = refl
same_depth depth (statement.When test) = refl
same_depth depth statement.End = refl
same_depth depth statement.Exit = refl

pub depth_before : (env : Environment) (script : List Bound) (place : ℕ) → (before env script place).depth ≡ depth_from env.depth script place
depth_before env [] zero = refl
depth_before env [] (suc place) = refl
depth_before env (b ∷ bs) zero = refl
depth_before env (b ∷ bs) (suc place) = depth_before (under env b) bs place ∙ ap (λ (depth : ℕ). depth_from depth bs place) (same_depth env.depth b)

-- numbers among those of two lists
or_left : (a b : Bool) → a ≡ true → (a || b) ≡ true
or_left true b e = refl
or_left false b e = absurd (false≢true e)

or_right : (a b : Bool) → b ≡ true → (a || b) ≡ true
or_right true b e = refl
or_right false b e = e

pub has_left : (x : ℕ) (xs ys : List ℕ) → has_number x xs ≡ true → has_number x (xs ++ ys) ≡ true
has_left x xs ys h = list_any-append (nat_eq x) xs ys ∙ or_left (list_any (nat_eq x) xs) (list_any (nat_eq x) ys) h

pub has_right : (x : ℕ) (xs ys : List ℕ) → has_number x ys ≡ true → has_number x (xs ++ ys) ≡ true
has_right x xs ys h = list_any-append (nat_eq x) xs ys ∙ or_right (list_any (nat_eq x) xs) (list_any (nat_eq x) ys) h

one_has : (x : ℕ) → has_number x (x ∷ []) ≡ true
one_has x = or_left (nat_eq x x) false (same x)
  where
    same : (n : ℕ) → nat_eq n n ≡ true
    same n = grind arith

pub spawn_has : (x : ℕ) (b : Bound) → b ≡ statement.Spawn x → has_number x (spawns b) ≡ true
spawn_has x b e = subst (λ (y : Bound). has_number x (spawns y) ≡ true) (sym e) (one_has x)

pub close_has : (x : ℕ) (b : Bound) → b ≡ statement.Close x → has_number x (closes b) ≡ true
close_has x b e = subst (λ (y : Bound). has_number x (closes y) ≡ true) (sym e) (one_has x)

-- a list of the environment that statements add to has what those above a place added
module _ (list : Environment → List ℕ) (adds : Bound → List ℕ) (grows : (env : Environment) (b : Bound) → list (under env b) ≡ list env ++ adds b) (none : adds statement.Exit ≡ []) where
  nothing_added : (x : ℕ) → has_number x (adds statement.Exit) ≡ true → ⊥
  nothing_added x h = false≢true (sym (ap (has_number x) none) ∙ h)

  has_still : (env : Environment) (b : Bound) (x : ℕ) → has_number x (list env) ≡ true → has_number x (list (under env b)) ≡ true
  has_still env b x h = ap (has_number x) (grows env b) ∙ has_left x (list env) (adds b) h

  has_new : (env : Environment) (b : Bound) (x : ℕ) → has_number x (adds b) ≡ true → has_number x (list (under env b)) ≡ true
  has_new env b x h = ap (has_number x) (grows env b) ∙ has_right x (list env) (adds b) h

  kept : (env : Environment) (script : List Bound) (place x : ℕ) → has_number x (list env) ≡ true → has_number x (list (before env script place)) ≡ true
  kept env [] zero x h = h
  kept env [] (suc place) x h = h
  kept env (b ∷ bs) zero x h = h
  kept env (b ∷ bs) (suc place) x h = kept (under env b) bs place x (has_still env b x h)

  added : (env : Environment) (script : List Bound) (i j x : ℕ) → i < j → has_number x (adds (get_or script i statement.Exit)) ≡ true → has_number x (list (before env script j)) ≡ true
  added env script i zero x l h = absurd (omega (arith, l))
  added env [] zero (suc j) x l h = absurd (nothing_added x h)
  added env [] (suc i) (suc j) x l h = absurd (nothing_added x h)
  added env (b ∷ bs) zero (suc j) x l h = kept (under env b) bs j x (has_new env b x h)
  added env (b ∷ bs) (suc i) (suc j) x l h = added (under env b) bs i j x (omega (arith, l)) h

pub spawned_above : (env : Environment) (script : List Bound) (i j x : ℕ) → i < j → get_or script i statement.Exit ≡ statement.Spawn x → has_number x (before env script j).spawned ≡ true
spawned_above env script i j x l e = added (λ (e : Environment). e.spawned) spawns (λ e b. refl) refl env script i j x l (spawn_has x (get_or script i statement.Exit) e)

pub closed_above : (env : Environment) (script : List Bound) (i j x : ℕ) → i < j → get_or script i statement.Exit ≡ statement.Close x → has_number x (before env script j).closed ≡ true
closed_above env script i j x l e = added (λ (e : Environment). e.closed) closes (λ e b. refl) refl env script i j x l (close_has x (get_or script i statement.Exit) e)

-- what a script spawns is among the stages that it leaves spawned
exit_not_spawn : (x : ℕ) → ◌≡◌ {A = Bound} statement.Exit (statement.Spawn x) → ⊥
exit_not_spawn x e = cc

pub spawned_inside : (script : List Bound) (place x : ℕ) → get_or script place statement.Exit ≡ statement.Spawn x → has_number x (spawned_in script) ≡ true
spawned_inside [] zero x e = absurd (exit_not_spawn x e)
spawned_inside [] (suc place) x e = absurd (exit_not_spawn x e)
spawned_inside (b ∷ bs) zero x e = has_left x (spawns b) (spawned_in bs) (spawn_has x b e)
spawned_inside (b ∷ bs) (suc place) x e = has_right x (spawns b) (spawned_in bs) (spawned_inside bs place x e)
