-- The spelling of a word or a number is read again, whatever stands behind it that is no digit.
use Rattle.std.proofs.Common.{◌≡◌, ℕ, zero, suc, ◌+◌, ◌-◌, ◌*◌, ◌/◌, ◌%◌, ◌^◌, ◌≤◌, ◌<◌, true, false, ◌&&◌, ◌==◌, nat_le, List, [], ◌∷◌, ◌++◌, Ok, refl, ap, ◌∙◌, append_assoc, arith}
use Rattle.std.specs.Fmt.{decimal}
use Rattle.std.proofs.lemmas.Fmt.{decimal_by_steps, decimal_digit}
use Rattle.std.proofs.lemmas.Bool.{eq-eqb, ne_eqb, le-leb, and_from, cond-true, cond-false}
use Rattle.step_text.specs.Reading.{after_word}
use Rattle.step_text.specs.Numbers.{is_digit, digits_at, number_at}

pub word_again : (word rest : List ℕ) → after_word word (word ++ rest) ≡ Ok rest
unfolding after_word
word_again [] rest = refl
word_again (w ∷ ws) rest = cond-true (w == w) _ _ (eq-eqb w w refl) ∙ word_again ws rest

-- a text that begins with no digit
abbrev pub IsBehind : List ℕ → Type 0
IsBehind [] = Unit {0}
IsBehind (b ∷ bs) = is_digit b ≡ false

-- a digit's byte
pub digit_is : (d : ℕ) → d ≤ 9 → is_digit (48 + d) ≡ true
digit_is d h = and_from (nat_le 48 (48 + d)) (nat_le (48 + d) 57) (le-leb _ _ (omega arith)) (le-leb _ _ (omega arith))

-- the text of a number above 0 is a first digit, and digits that lead from it to the number
pub record Begins (most n : ℕ) (text : List ℕ) : Type 0 where
  pub first : ℕ
  pub tail : List ℕ
  pub is : text ≡ (48 + first) ∷ tail
  pub low : 1 ≤ first
  pub high : first ≤ 9
  pub leads : (more : List ℕ) → digits_at most first (tail ++ more) ≡ digits_at most n more

-- one more digit leads on
digit_again : (most n : ℕ) (more : List ℕ) → n ≤ most → digits_at most (n / 10) ((48 + n % 10) ∷ more) ≡ digits_at most n more
unfolding digits_at
digit_again most n more h =
    let whole : 10 * (n / 10) + (48 + n % 10 - 48) ≡ n = omega arith in
    cond-true (is_digit (48 + n % 10)) _ _ (digit_is (n % 10) (omega arith)) ∙ cond-true (nat_le (10 * (n / 10) + (48 + n % 10 - 48)) most) _ _ (le-leb _ _ (omega (arith, whole))) ∙ ap (λ (m : ℕ). digits_at most m more) whole

-- a number within the range begins so
abbrev MayBegin : ℕ → ℕ → List ℕ → Type 0
MayBegin most n text = 0 < n → n ≤ most → Begins most n text

begins_more : (most n : ℕ) (text : List ℕ) → 10 ≤ n → MayBegin most (n / 10) text → MayBegin most n (text ++ ((48 + n % 10) ∷ []))
begins_more most n text long b positive within =
    let h = b (omega arith) (omega arith) in
    record {
      first = h.first;
      tail = h.tail ++ (48 + n % 10) ∷ [];
      is = ap (λ (l : List ℕ). l ++ (48 + n % 10) ∷ []) h.is;
      low = h.low;
      high = h.high;
      leads = λ more. ap (λ (l : List ℕ). digits_at most h.first l) (append_assoc h.tail ((48 + n % 10) ∷ []) more) ∙ h.leads ((48 + n % 10) ∷ more) ∙ digit_again most n more within;
    }

pub decimal_begins : (most n : ℕ) → 0 < n → n ≤ most → most < 2 ^ 64 → Begins most n (decimal n)
decimal_begins most n positive within fits =
    decimal_by_steps (MayBegin most)
    (λ m h p q. record { first = m; tail = []; is = refl; low = omega arith; high = omega arith; leads = λ more. refl })
    (λ m ds h b. begins_more most m ds h b)
    n (omega arith) positive within

-- digits end where no digit stands
pub digits_end : (most n : ℕ) (rest : List ℕ) → IsBehind rest → digits_at most n rest ≡ Ok (n, rest)
unfolding digits_at
digits_end most n [] h = refl
digits_end most n (b ∷ bs) h = cond-false (is_digit b) _ _ h

-- a number that begins with a digit
begin_again : (least most first : ℕ) (tail : List ℕ) → least ≤ first → first ≤ 9 → 1 ≤ first → number_at least most ((48 + first) ∷ tail) ≡ digits_at most first tail
unfolding number_at
begin_again least most first tail above high low =
    let same : 48 + first - 48 ≡ first = omega arith in
    let tests = and_from (is_digit (48 + first)) (nat_le least (48 + first - 48)) (digit_is first high) (le-leb _ _ (omega (arith, same))) in
    let nonzero : (48 + first - 48 == 0) ≡ false = ne_eqb _ _ (λ e. omega (arith, e)) in
    cond-true (is_digit (48 + first) && nat_le least (48 + first - 48)) _ _ tests ∙ cond-false (48 + first - 48 == 0) _ _ nonzero ∙ ap (λ (m : ℕ). digits_at most m tail) same

zero_again : (least most : ℕ) (rest : List ℕ) → least ≤ 0 → number_at least most (decimal 0 ++ rest) ≡ Ok (0, rest)
unfolding number_at
zero_again least most rest h =
    ap (λ (l : List ℕ). number_at least most (l ++ rest)) (decimal_digit 0 (omega arith)) ∙ cond-true (nat_le least 0) _ _ (le-leb _ _ h)

more_again : (least most n : ℕ) (rest : List ℕ) → least ≤ 1 → 0 < n → n ≤ most → most < 2 ^ 64 → IsBehind rest → number_at least most (decimal n ++ rest) ≡ Ok (n, rest)
more_again least most n rest low positive within fits end =
    let b = decimal_begins most n positive within fits in
    ap (λ (l : List ℕ). number_at least most (l ++ rest)) b.is ∙ begin_again least most b.first (b.tail ++ rest) (omega (arith, b.low)) b.high b.low ∙ b.leads rest ∙ digits_end most n rest end

pub number_again : (least most n : ℕ) (rest : List ℕ) → least ≤ 1 → least ≤ n → n ≤ most → most < 2 ^ 64 → IsBehind rest → number_at least most (decimal n ++ rest) ≡ Ok (n, rest)
number_again least most zero rest low above within fits end = zero_again least most rest above
number_again least most (suc n) rest low above within fits end = more_again least most (suc n) rest low (omega arith) within fits end
