-- What is read as a word or a number is its spelling.
use Rattle.std.proofs.Common.{◌≡◌, ℕ, suc, ◌+◌, ◌-◌, ◌*◌, ◌/◌, ◌%◌, ◌^◌, ◌≤◌, ◌<◌, Bool, true, false, ◌&&◌, ◌==◌, nat_le, cond, List, [], ◌∷◌, ◌++◌, length, Ok, Err, refl, sym, ap, ◌∙◌, append_assoc, arith}
use Rattle.std.specs.Fmt.{decimal}
use Rattle.std.proofs.lemmas.Fmt.{decimal_step, decimal_digit}
use Rattle.std.proofs.lemmas.Bool.{eqb-true, eqb-false, leb-true, and_parts}
use Rattle.step_text.specs.Reading.{after_word}
use Rattle.step_text.specs.Numbers.{is_digit, digits_at, number_from, number_at}
use Rattle.step_text.proofs.Parts.{cond_ok, ok_is, ok_pair}

pub word_spelled : (word bytes rest : List ℕ) → after_word word bytes ≡ Ok rest → bytes ≡ word ++ rest
unfolding after_word
word_spelled [] bytes rest e = ok_is bytes rest e
word_spelled (w ∷ ws) [] rest e = absurd cc
word_spelled (w ∷ ws) (b ∷ bs) rest e =
    let t = cond_ok (b == w) (after_word ws bs) (suc (length bs)) rest e in
    let same : b ≡ w = eqb-true b w t.0 in
    let behind : bs ≡ ws ++ rest = word_spelled ws bs rest t.1 in
    cc

-- one more digit behind a number
pub decimal_more : (n b : ℕ) → 0 < n → 10 * n + (b - 48) < 2 ^ 64 → 48 ≤ b → b ≤ 57 → decimal (10 * n + (b - 48)) ≡ decimal n ++ b ∷ []
decimal_more n b positive small low high =
    let step = decimal_step (10 * n + (b - 48)) (omega arith) small in
    let front : (10 * n + (b - 48)) / 10 ≡ n = omega arith in
    let last : 48 + (10 * n + (b - 48)) % 10 ≡ b = omega arith in
    step ∙ ap (λ (m : ℕ). decimal m ++ (48 + (10 * n + (b - 48)) % 10) ∷ []) front ∙ ap (λ (d : ℕ). decimal n ++ d ∷ []) last

-- what digits spell, behind a number that was read
pub record Longer (most n m : ℕ) (bytes rest : List ℕ) : Type 0 where
  pub text : decimal n ++ bytes ≡ decimal m ++ rest
  pub low : n ≤ m
  pub high : m ≤ most

-- a byte that is a digit
pub digit_ends : (b : ℕ) → is_digit b ≡ true → (48 ≤ b) × (b ≤ 57)
digit_ends b e = let ends = and_parts (nat_le 48 b) (nat_le b 57) e in (leb-true _ _ ends.0, leb-true _ _ ends.1)

digit_spelled : (most n m b : ℕ) (bytes rest : List ℕ) → most < 2 ^ 64 → 0 < n → (48 ≤ b) × (b ≤ 57) → 10 * n + (b - 48) ≤ most → Longer most (10 * n + (b - 48)) m bytes rest → Longer most n m (b ∷ bytes) rest
digit_spelled most n m b bytes rest fits positive ends small more =
    let one = decimal_more n b positive (omega arith) ends.0 ends.1 in
    record {
      text = sym (append_assoc (decimal n) (b ∷ []) bytes) ∙ ap (λ (l : List ℕ). l ++ bytes) (sym one) ∙ more.text;
      low = omega (arith, more.low);
      high = more.high;
    }

pub digits_spelled : (most n m : ℕ) (bytes rest : List ℕ) → most < 2 ^ 64 → 0 < n → n ≤ most → digits_at most n bytes ≡ Ok (m, rest) → Longer most n m bytes rest
unfolding digits_at
digits_spelled most n m [] rest fits positive within e =
    let p = ok_pair n m [] rest e in
    record { text = rw (p.0, p.1) refl; low = omega (arith, p.0); high = omega (arith, p.0) }
digits_spelled most n m (b ∷ bs) rest fits positive within e =
    go (digits_spelled most (10 * n + (b - 48)) m bs rest fits) (is_digit b) refl e
  where
    go : (0 < 10 * n + (b - 48) → 10 * n + (b - 48) ≤ most → digits_at most (10 * n + (b - 48)) bs ≡ Ok (m, rest) → Longer most (10 * n + (b - 48)) m bs rest) → (d : Bool) → is_digit b ≡ d → cond d (cond (nat_le (10 * n + (b - 48)) most) (digits_at most (10 * n + (b - 48)) bs) (Err (suc (length bs)))) (Ok (n, b ∷ bs)) ≡ Ok (m, rest) → Longer most n m (b ∷ bs) rest
    go more true d f =
        let t = cond_ok (nat_le (10 * n + (b - 48)) most) (digits_at most (10 * n + (b - 48)) bs) (suc (length bs)) (m, rest) f in
        let small : 10 * n + (b - 48) ≤ most = leb-true _ _ t.0 in
        digit_spelled most n m b bs rest fits positive (digit_ends b d) small (more (omega arith) small t.1)
    go more false d f =
        let p = ok_pair n m (b ∷ bs) rest f in
        record { text = rw (p.0, p.1) refl; low = omega (arith, p.0); high = omega (arith, p.0) }

-- what a number spells
pub record Spells (least most n : ℕ) (bytes rest : List ℕ) : Type 0 where
  pub text : bytes ≡ decimal n ++ rest
  pub low : least ≤ n
  pub high : n ≤ most

-- a digit as a number
pub digit_text : (b : ℕ) → (48 ≤ b) × (b ≤ 57) → decimal (b - 48) ≡ b ∷ []
digit_text b ends =
    let same : 48 + (b - 48) ≡ b = omega arith in
    decimal_digit (b - 48) (omega arith) ∙ ap (λ (d : ℕ). d ∷ []) same

from_spelled : (least most n b : ℕ) (bs rest : List ℕ) → 9 ≤ most → most < 2 ^ 64 → (48 ≤ b) × (b ≤ 57) → least ≤ b - 48 → (z : Bool) → (b - 48 == 0) ≡ z → cond z (Ok (0, bs)) (digits_at most (b - 48) bs) ≡ Ok (n, rest) → Spells least most n (b ∷ bs) rest
from_spelled least most n b bs rest wide fits ends above true z f =
    let zero_is : b - 48 ≡ 0 = eqb-true _ _ z in
    let p = ok_pair 0 n bs rest f in
    record {
      text = ap (λ (l : List ℕ). l ++ bs) (sym (digit_text b ends)) ∙ ap (λ (m : ℕ). decimal m ++ bs) (zero_is ∙ p.0) ∙ ap (λ (l : List ℕ). decimal n ++ l) p.1;
      low = omega (arith, above, zero_is, p.0);
      high = omega (arith, wide, p.0);
    }
from_spelled least most n b bs rest wide fits ends above false z f =
    let nonzero = eqb-false _ _ z in
    let more = digits_spelled most (b - 48) n bs rest fits (omega (arith, nonzero)) (omega arith) f in
    record {
      text = ap (λ (l : List ℕ). l ++ bs) (sym (digit_text b ends)) ∙ more.text;
      low = omega (arith, above, more.low);
      high = more.high;
    }

pub number_spelled : (least most n : ℕ) (bytes rest : List ℕ) → 9 ≤ most → most < 2 ^ 64 → number_at least most bytes ≡ Ok (n, rest) → Spells least most n bytes rest
unfolding number_at
number_spelled least most n [] rest wide fits e = absurd cc
number_spelled least most n (b ∷ bs) rest wide fits e =
    let t = cond_ok (is_digit b && nat_le least (b - 48)) (number_from most (b - 48) bs) (suc (length bs)) (n, rest) e in
    let tests = and_parts (is_digit b) (nat_le least (b - 48)) t.0 in
    from_spelled least most n b bs rest wide fits (digit_ends b tests.0) (leb-true _ _ tests.1) (b - 48 == 0) refl t.1
