-- What spells a number of a generated file, and what does not.
use Rattle.std.proofs.Common.{◌≡◌, ℕ, ◌≤◌, ◌<◌, ◌^◌, List, length, get_or, Result, Ok, Err, ap, sym, ◌∙◌, arith}
use Rattle.std.proofs.lemmas.Fmt.{parse-decimal, decimal-digits_value, first_decimal, decimal_is_IsNumeral, decimal_nonempty}
use Rattle.std.proofs.lemmas.Str.Parse.{IsNumeralModel, numerals_by_value, tells_digits, parse_plain, digit_at}
use Rattle.std.specs.Fmt.{decimal}
use Rattle.std.specs.Result.{OkIff}
use Rattle.std.specs.Str.Parse.{AllDigits, digits_value, ParsesUnsigned}
use Rattle.rss_workload.specs.Spelling.{HasFile, IsSpelling}

own : IsNumeralModel (AllDigits 10) (digits_value 10)
own = numerals_by_value (AllDigits 10) tells_digits

-- a word that begins with a digit above 0 spells the number that is read from it
pub word_spells : {E : Type 0} (word : List ℕ) (r : Result ℕ E) (n : ℕ) → ParsesUnsigned 32 10 word r → r ≡ Ok n → (49 ≤ get_or word 0 0) × (get_or word 0 0 ≤ 57) → HasFile n → IsSpelling word n
word_spells {E} word (Ok m) n p e first file =
    let q : OkIff {E = E} (Ok m) (AllDigits 10 word × (0 < length word) × (digits_value 10 word < 2 ^ 32)) (digits_value 10 word) = parse_plain own {E = E} 32 word (Ok m) p (λ plus. omega (arith, first, plus)) in
    let same : m ≡ n = cc in
    let text = decimal-digits_value own word q.0.0 q.0.1 (λ zero. absurd (omega (arith, first, zero))) (omega (arith, q.0.2)) in
    record { file = file; spelled = sym text ∙ ap decimal (sym q.1 ∙ same) }
word_spells {E} word (Err x) n p e first file = absurd cc

-- the first byte of a number of a file is a digit above 0
pub number_begins : (word : List ℕ) (n : ℕ) → IsSpelling word n → (49 ≤ get_or word 0 0) × (get_or word 0 0 ≤ 57)
number_begins word n s =
    let small : n < 2 ^ 64 = omega (arith, s.file.high) in
    let low = first_decimal n (omega (arith, s.file.low)) small in
    let range = digit_at (decimal n) 0 (decimal_is_IsNumeral n small).0.1 (decimal_nonempty n small) in
    (rw s.spelled (omega (arith, low)), rw s.spelled range.1)

-- and it is the number that is read from the word
pub number_read : {E : Type 0} (word : List ℕ) (r : Result ℕ E) (n : ℕ) → ParsesUnsigned 32 10 word r → IsSpelling word n → r ≡ Ok n
number_read word r n p s = parse-decimal 32 n word r (omega (arith, s.file.high)) (omega (arith, s.file.high)) s.spelled p
