-- Readings that did not fail, taken apart.
use Rattle.std.proofs.Common.{◌≡◌, ℕ, Bool, true, false, cond, List, ◌++◌, Result, Ok, Err, refl, ap, ◌∙◌, sym, append_assoc, ◌⊎◌, inl, inr}
use Rattle.step_text.specs.Reading.{◌>>=◌, furthest}

-- both parts of a reading that did not fail
pub bind_ok : {A B : Type 0} (r : Result A ℕ) (f : A → Result B ℕ) (y : B) → (r >>= f) ≡ Ok y → (x : A) × (r ≡ Ok x) × (f x ≡ Ok y)
bind_ok (Ok x) f y e = (x, refl, e)
bind_ok (Err left) f y e = absurd cc

-- a test that did not fail
pub cond_ok : {A : Type 0} (test : Bool) (r : Result A ℕ) (left : ℕ) (y : A) → cond test r (Err left) ≡ Ok y → (test ≡ true) × (r ≡ Ok y)
cond_ok true r left y e = (refl, e)
cond_ok false r left y e = absurd cc

-- the one of two readings that did not fail
pub furthest_ok : {A : Type 0} (a b : Result A ℕ) (y : A) → furthest a b ≡ Ok y → (a ≡ Ok y) ⊎ (b ≡ Ok y)
furthest_ok (Ok x) b y e = inl e
furthest_ok (Err left) (Ok x) y e = inr e
furthest_ok (Err left) (Err other) y e = absurd cc

-- what follows from either of two readings follows from the one that did not fail
pub one_of : {A P : Type 0} (a b : Result A ℕ) (y : A) → (a ≡ Ok y → P) → (b ≡ Ok y → P) → furthest a b ≡ Ok y → P
one_of a b y f g e =
    elim (furthest_ok a b y e) [
      | inl p ↦ f p
      | inr p ↦ g p
    ]

abbrev done : {A : Type 0} → A → Result A ℕ
done x = Ok x

-- what one reading read is one value
pub ok_is : {A : Type 0} (x y : A) → done x ≡ done y → x ≡ y
ok_is x y e = cc

-- the value and the rest apart
pub ok_pair : {A : Type 0} (a c : A) (b d : List ℕ) → done {A = A × List ℕ} (a, b) ≡ done (c, d) → (a ≡ c) × (b ≡ d)
ok_pair {A} a c b d e =
    let p : ◌≡◌ {A = A × List ℕ} (a, b) (c, d) = cc in
    (ap (λ (q : A × List ℕ). q.0) p, ap (λ (q : A × List ℕ). q.1) p)

-- a text that begins with one piece, and goes on with another
pub joined : (t w a d u : List ℕ) → t ≡ w ++ a → a ≡ d ++ u → t ≡ (w ++ d) ++ u
joined t w a d u e f = e ∙ ap (λ (l : List ℕ). w ++ l) f ∙ sym (append_assoc w d u)
