-- The digits of a number are read again as the number.
use Rattle.std.proofs.Common.{◌≡◌, ℕ, zero, suc, ◌+◌, ◌-◌, ◌*◌, ◌/◌, ◌%◌, ◌^◌, ◌≤◌, ◌<◌, true, false, ◌&&◌, nat_le, nat_lt, List, [], ◌∷◌, ◌++◌, Some, refl, ap, append_assoc, ◌∙◌, sym, arith}
use Rattle.std.proofs.lemmas.List.{append-nil}
use Rattle.std.specs.Fmt.{decimal}
use Rattle.std.specs.List.{list_all}
use Rattle.std.proofs.lemmas.Fmt.{decimal_by_steps}
use Rattle.std.proofs.lemmas.List.Folds.{list_all-append}
use Rattle.std.proofs.lemmas.Bool.{le-leb, lt-ltb, and_from, cond-true}
use Rattle.std.proofs.lemmas.Bool.Decides.{nat_tests}
use Rattle.rss_names.specs.Names.{is_name_byte, is_letter}
use Rattle.pipeline_lang.specs.Terms.{is_digit, digits, number, number_from}

-- a digit's byte
pub digit_is : (d : ℕ) → d ≤ 9 → is_digit (48 + d) ≡ true
digit_is d h = and_from (nat_le 48 (48 + d)) (nat_le (48 + d) 57) (le-leb _ _ (omega arith)) (le-leb _ _ (omega arith))

pub digit_byte : (d : ℕ) → d ≤ 9 → is_name_byte (48 + d) ≡ true
digit_byte d h = grind (arith, nat_tests)

pub digit_no_letter : (d : ℕ) → d ≤ 9 → is_letter (48 + d) ≡ false
digit_no_letter d h = grind (arith, nat_tests)

-- the digits of a number: a first digit, and digits that lead from it to the number
pub record Digits (n : ℕ) (text : List ℕ) : Type 0 where
  pub first : ℕ
  pub tail : List ℕ
  pub is : text ≡ (48 + first) ∷ tail
  pub low : 0 < n → 1 ≤ first
  pub high : first ≤ 9
  pub bytes : list_all is_name_byte tail ≡ true
  pub short : n ≤ 9 → (tail ≡ []) × (first ≡ n)
  pub leads : n < 2 ^ 64 → (more : List ℕ) → digits first (tail ++ more) ≡ digits n more

-- one more digit leads on
digit_again : (n : ℕ) (more : List ℕ) → n < 2 ^ 64 → digits (n / 10) ((48 + n % 10) ∷ more) ≡ digits n more
unfolding digits
digit_again n more h =
    let whole : 10 * (n / 10) + (48 + n % 10 - 48) ≡ n = omega arith in
    let small : nat_lt (10 * (n / 10) + (48 + n % 10 - 48)) (2 ^ 64) ≡ true = lt-ltb _ _ (omega (arith, whole)) in
    cond-true (is_digit (48 + n % 10) && nat_lt (10 * (n / 10) + (48 + n % 10 - 48)) (2 ^ 64)) _ _ (and_from _ _ (digit_is (n % 10) (omega arith)) small)
    ∙ ap (λ (m : ℕ). digits m more) whole

digits_more : (n : ℕ) (text : List ℕ) → 10 ≤ n → Digits (n / 10) text → Digits n (text ++ ((48 + n % 10) ∷ []))
digits_more n text long h = record {
  first = h.first;
  tail = h.tail ++ (48 + n % 10) ∷ [];
  is = ap (λ (l : List ℕ). l ++ (48 + n % 10) ∷ []) h.is;
  low = λ p. h.low (omega arith);
  high = h.high;
  bytes = list_all-append is_name_byte h.tail ((48 + n % 10) ∷ []) ∙ and_from _ _ h.bytes (and_from _ _ (digit_byte (n % 10) (omega arith)) refl);
  short = λ p. absurd (omega arith);
  leads = λ p more. ap (λ (l : List ℕ). digits h.first l) (append_assoc h.tail ((48 + n % 10) ∷ []) more) ∙ h.leads (omega arith) ((48 + n % 10) ∷ more) ∙ digit_again n more p;
}

pub decimal_digits : (n : ℕ) → n < 2 ^ 64 → Digits n (decimal n)
decimal_digits n h =
    decimal_by_steps Digits
    (λ m p. record { first = m; tail = []; is = refl; low = λ q. omega arith; high = omega arith; bytes = refl; short = λ q. (refl, refl); leads = λ q more. refl })
    digits_more
    n h

digits_end : (n : ℕ) → digits n [] ≡ Some n
unfolding digits
digits_end n = refl

number_first : (first : ℕ) (tail : List ℕ) → first ≤ 9 → number ((48 + first) ∷ tail) ≡ number_from first tail
unfolding number
number_first first tail h =
    let same : 48 + first - 48 ≡ first = omega arith in
    cond-true (is_digit (48 + first)) _ _ (digit_is first h) ∙ ap (λ (m : ℕ). number_from m tail) same

-- the digits of a number spell it
pub number_again : (n : ℕ) → n < 2 ^ 64 → number (decimal n) ≡ Some n
number_again n h = go n h (decimal_digits n h)
  where
    leading : (n first : ℕ) (tail : List ℕ) → 1 ≤ first → digits first (tail ++ []) ≡ digits n [] → number_from first tail ≡ Some n
    leading n zero tail low e = absurd (omega arith)
    leading n (suc first) tail low e = ap (digits (suc first)) (sym (append-nil tail)) ∙ e ∙ digits_end n

    go : (n : ℕ) → n < 2 ^ 64 → Digits n (decimal n) → number (decimal n) ≡ Some n
    go zero h d = ap number d.is ∙ number_first d.first d.tail d.high ∙ ap (λ (f : ℕ). number_from f d.tail) (d.short (omega arith)).1 ∙ ap (λ (t : List ℕ). number_from 0 t) (d.short (omega arith)).0
    go (suc n) h d = ap number d.is ∙ number_first d.first d.tail d.high ∙ leading (suc n) d.first d.tail (d.low (omega arith)) (d.leads h [])
