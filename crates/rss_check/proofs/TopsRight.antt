-- The pass finds the greatest place of what is behind.
use Rattle.std.proofs.Common.{◌≡◌, ℕ, zero, suc, ◌<◌, ◌≤◌, ◌⊎◌, inl, inr, Bool, true, false, List, max, arith, refl, ap}
use Rattle.std.specs.Prelude.{◌||◌, ◌&&◌, ◌==◌, if◌then◌else◌}
use Rattle.std.proofs.lemmas.Grind.{common_steps}
use Rattle.std.proofs.lemmas.Bool.{cases_lt}
use Rattle.rss_model.specs.declared.history.Entry.{Entry}
use Rattle.rss_model.specs.declared.history.Entry.TheVariants.{Begin, End, Give, Get, Over}
use Rattle.rss_model.specs.declared.history.Token.{Token}
use Rattle.rss_model.specs.History.{entry_at}
use Rattle.rss_model.specs.Stages.{stage_of}
use Rattle.rss_model.specs.Tokens.{same_token}
use Rattle.order_laws.specs.CallsBehind.{CallsBehind, calls_behind, behind_after}
use Rattle.rss_check.specs.Tops.{Tops, top_after, tops_at, IsTop}

eq_true : (a b : ℕ) → (a == b) ≡ true → a ≡ b
eq_true a b e = grind (arith, common_steps, e)

or_parts : (a b : Bool) → (a || b) ≡ true → (a ≡ true) ⊎ (b ≡ true)
or_parts true b e = inl refl
or_parts false b e = inr e

or_left : (a b : Bool) → a ≡ true → (a || b) ≡ true
or_left a b e = grind (arith, e)

or_right : (a b : Bool) → b ≡ true → (a || b) ≡ true
or_right true b e = refl
or_right false b e = e

module _ (place : ℕ → ℕ) where
  pub none_top : IsTop place (λ a. false) 0
  none_top = record { bound = λ a e. absurd (grind (arith, e)); reached = inl refl }

  pub one_top : (call : ℕ) → IsTop place (λ other. call == other) (place call)
  one_top call = record {
    bound = λ a e. let same = ap place (eq_true call a e) in omega (arith, same);
    reached = inr (call, grind (arith, common_steps), refl);
  }

  pub if_top : (b : Bool) (calls : ℕ → Bool) (top : ℕ) → IsTop place calls top → IsTop place (λ a. b && calls a) (if b then top else 0)
  if_top true calls top is = is
  if_top false calls top is = none_top

  joined_reach : (p q : ℕ → Bool) (m n : ℕ) → IsTop place p m → IsTop place q n → (m < n) ⊎ (n ≤ m) → (max m n ≡ 0) ⊎ ((a : ℕ) × ((p a || q a) ≡ true) × (place a ≡ max m n))
  joined_reach p q m n P Q (inl le) = up Q.reached
    where
      up : (n ≡ 0) ⊎ ((a : ℕ) × (q a ≡ true) × (place a ≡ n)) → (max m n ≡ 0) ⊎ ((a : ℕ) × ((p a || q a) ≡ true) × (place a ≡ max m n))
      up (inl none) = inl (omega (arith, le, none))
      up (inr some) = inr (some.0, or_right (p some.0) (q some.0) some.1, (let e = some.2 in omega (arith, le, e)))
  joined_reach p q m n P Q (inr le) = up P.reached
    where
      up : (m ≡ 0) ⊎ ((a : ℕ) × (p a ≡ true) × (place a ≡ m)) → (max m n ≡ 0) ⊎ ((a : ℕ) × ((p a || q a) ≡ true) × (place a ≡ max m n))
      up (inl none) = inl (omega (arith, le, none))
      up (inr some) = inr (some.0, or_left (p some.0) (q some.0) some.1, (let e = some.2 in omega (arith, le, e)))

  joined_bound : (p q : ℕ → Bool) (m n a : ℕ) → IsTop place p m → IsTop place q n → (p a ≡ true) ⊎ (q a ≡ true) → place a ≤ max m n
  joined_bound p q m n a P Q (inl e) = let b = P.bound a e in omega (arith, b)
  joined_bound p q m n a P Q (inr e) = let b = Q.bound a e in omega (arith, b)

  pub joined_top : (p q : ℕ → Bool) (m n : ℕ) → IsTop place p m → IsTop place q n → IsTop place (λ a. p a || q a) (max m n)
  joined_top p q m n P Q = record {
    bound = λ a e. joined_bound p q m n a P Q (or_parts (p a) (q a) e);
    reached = joined_reach p q m n P Q (cases_lt m n);
  }

  -- the tops of what is behind all stages and messages
  pub record AreTops (behind : CallsBehind) (tops : Tops) : Type 0 where
    pub stages : (s : ℕ) → IsTop place (behind.stage s) (tops.stage s)
    pub messages : (t : Token) → IsTop place (behind.message t) (tops.message t)

  after_right : (h : List Entry) (behind : CallsBehind) (tops : Tops) (e : Entry) → AreTops behind tops → AreTops (behind_after h behind e) (top_after h place tops e)
  after_right h behind tops (Begin call stage op) are = are
  after_right h behind tops (End call reply) are = record {
    stages = λ s. joined_top _ _ _ _ (are.stages s) (if_top (stage_of h call == s) (λ other. call == other) (place call) (one_top call));
    messages = are.messages;
  }
  after_right h behind tops (Give giver token) are = record {
    stages = are.stages;
    messages = λ t. joined_top _ _ _ _ (are.messages t) (if_top (same_token token t) (behind.stage giver) (tops.stage giver) (are.stages giver));
  }
  after_right h behind tops (Get getter token) are = record {
    stages = λ s. joined_top _ _ _ _ (are.stages s) (if_top (getter == s) (behind.message token) (tops.message token) (are.messages token));
    messages = are.messages;
  }
  after_right h behind tops (Over stage how) are = are

  pub tops_right : (h : List Entry) (i : ℕ) → AreTops (calls_behind h i) (tops_at h place i)
  unfolding calls_behind tops_at
  tops_right h zero = record { stages = λ s. none_top; messages = λ t. none_top }
  tops_right h (suc i) = after_right h (calls_behind h i) (tops_at h place i) (entry_at h i) (tops_right h i)
