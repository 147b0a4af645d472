-- What spells a number up to a greatest one, and what does not.
use Rattle.std.proofs.Common.{◌≡◌, ℕ, zero, suc, ◌≤◌, ◌<◌, ◌^◌, List, [], ◌∷◌, length, get_or, Result, Ok, Err, ap, sym, ◌∙◌, arith}
use Rattle.std.proofs.lemmas.Fmt.{parse-decimal, decimal-digits_value, first_decimal, decimal_is_IsNumeral, decimal_nonempty, decimal_digit, decimal_injective}
use Rattle.std.proofs.lemmas.Str.Parse.{IsNumeralModel, numerals_by_value, tells_digits, parse_plain, digit_at}
use Rattle.std.specs.Prelude.{codes}
use Rattle.std.specs.Fmt.{decimal}
use Rattle.std.specs.Result.{OkIff}
use Rattle.std.specs.Str.Parse.{AllDigits, digits_value, ParsesUnsigned}
use Rattle.command_words.specs.Numbers.{IsNumber}
use Rattle.command_words.specs.Words.{IsNoDisk}

own : IsNumeralModel (AllDigits 10) (digits_value 10)
own = numerals_by_value (AllDigits 10) tells_digits

-- the word of 0
zero_word : decimal 0 ≡ codes "0"
zero_word = decimal_digit 0 (omega arith)

pub zero_spelled : (most : ℕ) (word : List ℕ) → word ≡ codes "0" → IsNumber most word 0
zero_spelled most word e = record { within = omega arith; spelled = e ∙ sym zero_word }

-- a word that begins with a digit above 0 spells the number that is read from it
pub word_spells : {E : Type 0} (most : ℕ) (word : List ℕ) (r : Result ℕ E) (n : ℕ) → ParsesUnsigned 32 10 word r → r ≡ Ok n → (49 ≤ get_or word 0 0) × (get_or word 0 0 ≤ 57) → n ≤ most → IsNumber most word n
word_spells {E} most word (Ok m) n p e first within =
    let q : OkIff {E = E} (Ok m) (AllDigits 10 word × (0 < length word) × (digits_value 10 word < 2 ^ 32)) (digits_value 10 word) = parse_plain own {E = E} 32 word (Ok m) p (λ plus. omega (arith, first, plus)) in
    let same : m ≡ n = cc in
    let text = decimal-digits_value own word q.0.0 q.0.1 (λ zero. absurd (omega (arith, first, zero))) (omega (arith, q.0.2)) in
    record { within = within; spelled = sym text ∙ ap decimal (sym q.1 ∙ same) }
word_spells {E} most word (Err x) n p e first within = absurd cc

-- the first byte of a number that is not 0 is a digit above 0
pub number_begins : (most : ℕ) (word : List ℕ) (n : ℕ) → most < 2 ^ 32 → (word ≡ codes "0" → ⊥) → IsNumber most word n → (49 ≤ get_or word 0 0) × (get_or word 0 0 ≤ 57)
number_begins most word zero small other s = absurd (other (s.spelled ∙ zero_word))
number_begins most word (suc n) small other s =
    let high = s.within in
    let fits : suc n < 2 ^ 64 = omega (arith, high, small) in
    let low = first_decimal (suc n) (omega arith) fits in
    let range = digit_at (decimal (suc n)) 0 (decimal_is_IsNumeral (suc n) fits).0.1 (decimal_nonempty (suc n) fits) in
    (rw s.spelled (omega (arith, low)), rw s.spelled range.1)

-- and it is the number that is read from the word
pub number_read : {E : Type 0} (most : ℕ) (word : List ℕ) (r : Result ℕ E) (n : ℕ) → most < 2 ^ 32 → ParsesUnsigned 32 10 word r → IsNumber most word n → r ≡ Ok n
number_read most word r n small p s = let high = s.within in parse-decimal 32 n word r (omega (arith, high, small)) (omega (arith, high, small)) s.spelled p

-- the second of some words
abbrev second_of : List (List ℕ) → List ℕ
second_of [] = []
second_of (first ∷ []) = []
second_of (first ∷ word ∷ words) = word

-- where the first number is no replica's, the words are not those of `disk`
pub no_replica : (most : ℕ) (text word replica stop : List ℕ) (r : ℕ) → most ≤ 7 → IsNumber most text r → text ≡ replica → ((1 ≤ r) × (r ≤ 7) → ⊥) → IsNoDisk (word ∷ replica ∷ stop ∷ [])
no_replica most text word replica stop r few spelled same other = λ n k called.
    let range = called.range in
    let low = spelled.within in
    let high = range.1 in
    let one : r ≡ n = decimal_injective r n (omega (arith, low, few)) (omega (arith, high)) (sym spelled.spelled ∙ same ∙ ap second_of called.spelled) in
    other (rw one range.0, omega (arith, low, few))
