-- Two majorities have a member in common; and a majority of a list of different members.
use Rattle.std.proofs.Common.{◌≡◌, ℕ, zero, suc, ◌+◌, ◌<◌, ◌≤◌, ◌⊎◌, inl, inr, Bool, true, false, List, [], ◌∷◌, length, arith, refl, sym, ap, ◌∙◌, subst}
use Rattle.std.specs.Prelude.{◌||◌, ◌==◌, if◌then◌else◌}
use Rattle.std.proofs.lemmas.Bool.{true≢false, eq-eqb, ne_eqb, or_left, cases_lt}
use Rattle.rss_tables.specs.Round.{majority}
use Rattle.group_laws.specs.Majority.{count_to, MajorityOf}
use Rattle.group_laws.specs.Sound.{IsNoneOf, AreApart}

-- a member of both
pub record Meets (p q : ℕ → Bool) (n : ℕ) : Type 0 where
  pub member : ℕ
  pub least : 1 ≤ member
  pub most : member ≤ n
  pub first : p member ≡ true
  pub second : q member ≡ true

meet_more : (p q : ℕ → Bool) (n : ℕ) → Meets p q n → Meets p q (suc n)
meet_more p q n s = let most = s.most in record { member = s.member; least = s.least; most = omega (arith, most); first = s.first; second = s.second }

meet_one : (p q : ℕ → Bool) (n : ℕ) → (n < count_to p n + count_to q n → Meets p q n) → (a b : Bool) → p (suc n) ≡ a → q (suc n) ≡ b
    → suc n < (if a then suc (count_to p n) else count_to p n) + (if b then suc (count_to q n) else count_to q n) → Meets p q (suc n)
meet_one p q n ih true true e f h = record { member = suc n; least = omega arith; most = omega arith; first = e; second = f }
meet_one p q n ih true false e f h = meet_more p q n (ih (omega (arith, h)))
meet_one p q n ih false true e f h = meet_more p q n (ih (omega (arith, h)))
meet_one p q n ih false false e f h = meet_more p q n (ih (omega (arith, h)))

meet : (p q : ℕ → Bool) (n : ℕ) → n < count_to p n + count_to q n → Meets p q n
meet p q zero h = absurd (omega (arith, h))
meet p q (suc n) h = meet_one p q n (meet p q n) (p (suc n)) (q (suc n)) refl refl h

-- what holds of two majorities holds of one member
pub record Shared (members : ℕ) (P Q : ℕ → Type 0) : Type 0 where
  pub member : ℕ
  pub least : 1 ≤ member
  pub most : member ≤ members
  pub first : P member
  pub second : Q member

pub majorities_share : (members : ℕ) (P Q : ℕ → Type 0) → MajorityOf members P → MajorityOf members Q → Shared members P Q
majorities_share members P Q a b =
    let many = a.many in
    let more = b.many in
    let both = meet a.among b.among members (omega (arith, many, more)) in
    record {
      member = both.member;
      least = both.least;
      most = both.most;
      first = a.each both.member both.least both.most both.first;
      second = b.each both.member both.least both.most both.second;
    }

-- a majority of which less is asked
pub majority_of_more : (members more : ℕ) (P Q : ℕ → Type 0) → more ≡ members → ((m : ℕ) → 1 ≤ m → m ≤ members → P m → Q m) → MajorityOf members P → MajorityOf more Q
majority_of_more members more P Q e f a =
    subst (λ (n : ℕ). MajorityOf n Q) (sym e)
    record { among = a.among; many = a.many; each = λ m least most t. f m least most (a.each m least most t) }

-- whether a number is one of these
abbrev pub is_one_of : List ℕ → ℕ → Bool
is_one_of [] m = false
is_one_of (k ∷ ks) m = (m == k) || is_one_of ks m

none_of : (ks : List ℕ) (m : ℕ) → IsNoneOf m ks → is_one_of ks m ≡ false
none_of [] m h = refl
none_of (k ∷ ks) m h = both (m == k) (is_one_of ks m) (ne_eqb m k h.0) (none_of ks m h.1)
  where
    both : (a b : Bool) → a ≡ false → b ≡ false → (a || b) ≡ false
    both true b e f = absurd (true≢false e)
    both false b e f = f

-- up to below a number nothing changes where it is counted too
count_same : (p q : ℕ → Bool) (n : ℕ) → ((m : ℕ) → m ≤ n → p m ≡ q m) → count_to p n ≡ count_to q n
count_same p q zero h = refl
count_same p q (suc n) h = both (p (suc n)) (q (suc n)) (h (suc n) (omega arith)) (count_same p q n (λ m l. h m (omega (arith, l))))
  where
    both : (a b : Bool) → a ≡ b → count_to p n ≡ count_to q n → (if a then suc (count_to p n) else count_to p n) ≡ (if b then suc (count_to q n) else count_to q n)
    both true true e f = ap suc f
    both true false e f = absurd (true≢false e)
    both false true e f = absurd (true≢false (sym e))
    both false false e f = f

or_other : (a b : Bool) → a ≡ false → (a || b) ≡ b
or_other true b e = absurd (true≢false e)
or_other false b e = refl

-- one more member that is not counted yet
count_more : (p : ℕ → Bool) (k n : ℕ) → 1 ≤ k → k ≤ n → p k ≡ false → count_to (λ m. (m == k) || p m) n ≡ suc (count_to p n)
count_more p k zero least most e = absurd (omega (arith, least, most))
count_more p k (suc n) least most e = by_place (cases_lt k (suc n)) (λ l. count_more p k n least (omega (arith, l)) e)
  where
    here : (a b : Bool) (x y : ℕ) → a ≡ true → b ≡ false → x ≡ y → (if a then suc x else x) ≡ suc (if b then suc y else y)
    here true true x y f g h = absurd (true≢false g)
    here true false x y f g h = ap suc h
    here false b x y f g h = absurd (true≢false (sym f))

    behind : (a b : Bool) (x y : ℕ) → a ≡ b → x ≡ suc y → (if a then suc x else x) ≡ suc (if b then suc y else y)
    behind true true x y f h = ap suc h
    behind true false x y f h = absurd (true≢false f)
    behind false true x y f h = absurd (true≢false (sym f))
    behind false false x y f h = h

    by_place : (k < suc n) ⊎ (suc n ≤ k) → (k < suc n → count_to (λ m. (m == k) || p m) n ≡ suc (count_to p n)) → count_to (λ m. (m == k) || p m) (suc n) ≡ suc (count_to p (suc n))
    by_place (inl l) ih =
        behind ((suc n == k) || p (suc n)) (p (suc n)) (count_to (λ m. (m == k) || p m) n) (count_to p n)
        (or_other (suc n == k) (p (suc n)) (ne_eqb (suc n) k (λ f. absurd (omega (arith, l, f))))) (ih l)
    by_place (inr l) ih =
        let same : suc n ≡ k = omega (arith, l, most) in
        here ((suc n == k) || p (suc n)) (p (suc n)) (count_to (λ m. (m == k) || p m) n) (count_to p n)
        (or_left (suc n == k) (p (suc n)) (eq-eqb (suc n) k same)) (subst (λ (x : ℕ). p x ≡ false) (sym same) e)
        (count_same (λ m. (m == k) || p m) p n (λ m below. or_other (m == k) (p m) (ne_eqb m k (λ f. absurd (omega (arith, below, f, same))))))

-- all of these are members
abbrev pub AreMembers : ℕ → List ℕ → Type 0
AreMembers members [] = Unit
AreMembers members (k ∷ ks) = (1 ≤ k) × (k ≤ members) × AreMembers members ks

count_none : (n : ℕ) → count_to (λ (m : ℕ). false) n ≡ 0
count_none zero = refl
count_none (suc n) = count_none n

-- different members are as many as they are
pub count_list : (members : ℕ) (ks : List ℕ) → AreApart ks → AreMembers members ks → count_to (is_one_of ks) members ≡ length ks
count_list members [] a h = count_none members
count_list members (k ∷ ks) a h =
    count_more (is_one_of ks) k members h.0 h.1 (none_of ks k a.0) ∙ ap suc (count_list members ks a.1 h.2)

-- enough different members are a majority
pub majority_of_list : (members : ℕ) (P : ℕ → Type 0) (ks : List ℕ) → AreApart ks → AreMembers members ks → majority members ≤ length ks
    → ((m : ℕ) → is_one_of ks m ≡ true → P m) → MajorityOf members P
majority_of_list members P ks a h l f =
    let count = count_list members ks a h in
    record { among = is_one_of ks; many = omega (arith, l, count); each = λ m least most t. f m t }
