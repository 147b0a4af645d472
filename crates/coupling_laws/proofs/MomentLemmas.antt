-- Views over readings of the clock.
use Rattle.std.proofs.Common.{◌≡◌, ℕ, zero, suc, ◌≤◌, Bool, true, false, ◌&&◌, nat_le, List, [], ◌∷◌, ◌++◌, length, take, length-append, arith, refl, ap, ◌∙◌, subst}
use Rattle.std.proofs.lemmas.Bool.Decides.{nat_tests}
use Rattle.std.proofs.lemmas.List.{take_all, take-append-le}
use Rattle.rss_names.specs.declared.service.ServiceId.TheVariants.{Reg}
use Rattle.truetime.specs.Reading.{Reading}
use Rattle.truetime.specs.TrueMoment.{true_moment}
use Rattle.coupling_laws.specs.Calls.{IsView, Grows}
use Rattle.coupling_laws.specs.Moments.{Steps, StepsGrow, moment_at, view_after}

-- the true moment rises
moment_rises : (k j : ℕ) (readings : List Reading) → k ≤ j → true_moment (take k readings) ≤ true_moment (take j readings)
moment_rises zero j readings h = omega arith
moment_rises (suc k) zero readings h = absurd (omega (arith, h))
moment_rises (suc k) (suc j) [] h = omega arith
moment_rises (suc k) (suc j) (r ∷ readings) h = let p = moment_rises k j readings (omega (arith, h)) in omega (arith, p)

-- at a step that was made it is at most the one now
moment_now : (k : ℕ) (readings : List Reading) → k ≤ length readings → moment_at readings k ≤ true_moment readings
moment_now k readings h = subst (λ x. true_moment (take k readings) ≤ true_moment x) (take_all (length readings) readings (omega arith)) (moment_rises k (length readings) readings h)

-- later readings leave it
moment_kept : (k : ℕ) (readings more : List Reading) → k ≤ length readings → moment_at (readings ++ more) k ≡ moment_at readings k
moment_kept k readings more h = ap true_moment (take-append-le k readings more h)

both_true : (x y : Bool) → x ≡ true → y ≡ true → (x && y) ≡ true
both_true x y e f = ap (λ b. b && y) e ∙ f

first_true : (x y : Bool) → (x && y) ≡ true → x ≡ true
first_true true y e = refl
first_true false y e = e

second_true : (x y : Bool) → (x && y) ≡ true → y ≡ true
second_true true y e = e
second_true false y e = absurd (grind (arith, e))

from_test : (m n : ℕ) → nat_le m n ≡ true → m ≤ n
from_test m n e = grind (arith, nat_tests, e)

to_test : (m n : ℕ) → m ≤ n → nat_le m n ≡ true
to_test m n l = grind (arith, nat_tests, l)

pub views_are_views : (readings : List Reading) (s : Steps) → ((a n : ℕ) → s.ended a ≡ true → (s.call a).service ≡ Reg n → s.home (s.call a).register ≡ Reg n) → IsView (view_after readings s)
views_are_views readings s h = record {
  rises = λ a t u l b.
      let m = second_true (nat_le (s.step a) (length readings)) (nat_le (moment_at readings (s.step a)) t) b in
      both_true (nat_le (s.step a) (length readings)) (nat_le (moment_at readings (s.step a)) u)
      (first_true (nat_le (s.step a) (length readings)) (nat_le (moment_at readings (s.step a)) t) b)
      (to_test (moment_at readings (s.step a)) u (let p = from_test (moment_at readings (s.step a)) t m in omega (arith, p, l)));
  at_home = h;
}

-- a step that was made is one of those made later
still_made : (readings more : List Reading) (s t : Steps) (a : ℕ) → StepsGrow readings s t → s.ended a ≡ true → nat_le (s.step a) (length readings) ≡ true → nat_le (t.step a) (length (readings ++ more)) ≡ true
still_made readings more s t a g e c =
    let l = from_test (s.step a) (length readings) c in
    let q = g.step a e l in
    let n = length-append readings more in
    to_test (t.step a) (length (readings ++ more)) (omega (arith, l, q, n))

pub views_grow : (readings more : List Reading) (s t : Steps) → StepsGrow readings s t → Grows (view_after readings s) (view_after (readings ++ more) t)
views_grow readings more s t g = record {
  ended = g.ended;
  call = g.call;
  come = λ a e c. still_made readings more s t a g e c;
  before = λ a u e b.
      let c = first_true (nat_le (s.step a) (length readings)) (nat_le (moment_at readings (s.step a)) u) b in
      let m = second_true (nat_le (s.step a) (length readings)) (nat_le (moment_at readings (s.step a)) u) b in
      let l = from_test (s.step a) (length readings) c in
      let q : moment_at (readings ++ more) (t.step a) ≡ moment_at readings (s.step a) = ap (moment_at (readings ++ more)) (g.step a e l) ∙ moment_kept (s.step a) readings more l in
      both_true (nat_le (t.step a) (length (readings ++ more))) (nat_le (moment_at (readings ++ more) (t.step a)) u)
      (still_made readings more s t a g e c)
      (ap (λ x. nat_le x u) q ∙ m);
  home = g.home;
  sound = g.sound;
}

pub come_is_before : (readings : List Reading) (s : Steps) (a latest : ℕ) → true_moment readings ≤ latest → (view_after readings s).come a ≡ true → (view_after readings s).before a latest ≡ true
come_is_before readings s a latest l c =
    let k = from_test (s.step a) (length readings) c in
    let m = moment_now (s.step a) readings k in
    both_true (nat_le (s.step a) (length readings)) (nat_le (moment_at readings (s.step a)) latest) c (to_test (moment_at readings (s.step a)) latest (omega (arith, l, m)))

-- a call comes before a time exactly where its step is no later than some step made whose true moment is at most that time
pub before_from : (readings : List Reading) (s : Steps) (a t k : ℕ) → k ≤ length readings → s.step a ≤ k → moment_at readings k ≤ t → (view_after readings s).before a t ≡ true
before_from readings s a t k l m n =
    let r = moment_rises (s.step a) k readings m in
    both_true (nat_le (s.step a) (length readings)) (nat_le (moment_at readings (s.step a)) t) (to_test (s.step a) (length readings) (omega (arith, l, m))) (to_test (moment_at readings (s.step a)) t (omega (arith, r, n)))

pub before_to : (readings : List Reading) (s : Steps) (a t : ℕ) → (view_after readings s).before a t ≡ true → (k : ℕ) × (k ≤ length readings) × (s.step a ≤ k) × (moment_at readings k ≤ t)
before_to readings s a t b = (
  s.step a,
  from_test (s.step a) (length readings) (first_true (nat_le (s.step a) (length readings)) (nat_le (moment_at readings (s.step a)) t) b),
  omega arith,
  from_test (moment_at readings (s.step a)) t (second_true (nat_le (s.step a) (length readings)) (nat_le (moment_at readings (s.step a)) t) b),
)
