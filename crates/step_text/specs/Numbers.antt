-- Decimal numbers without leading zeros, within a range.
use Rattle.std.specs.Prelude.{ℕ, suc, ◌+◌, ◌-◌, ◌*◌, Bool, ◌&&◌, ◌==◌, nat_le, cond, List, [], ◌∷◌, length, Result, Ok, Err}

-- a decimal digit
abbrev pub is_digit : ℕ → Bool
is_digit b = nat_le 48 b && nat_le b 57

-- further digits behind a number above 0; no digit may carry it above the greatest number
unfoldable pub digits_at : ℕ → ℕ → List ℕ → Result (ℕ × List ℕ) ℕ
digits_at most n [] = Ok (n, [])
digits_at most n (b ∷ bs) = cond (is_digit b) (cond (nat_le (10 * n + (b - 48)) most) (digits_at most (10 * n + (b - 48)) bs) (Err (suc (length bs)))) (Ok (n, b ∷ bs))

-- a number that begins with this digit: behind 0 no digit can stand
abbrev pub number_from : ℕ → ℕ → List ℕ → Result (ℕ × List ℕ) ℕ
number_from most n bytes = cond (n == 0) (Ok (0, bytes)) (digits_at most n bytes)

-- a number from least, which is 0 or 1, to most, which is at least 9
unfoldable pub number_at : ℕ → ℕ → List ℕ → Result (ℕ × List ℕ) ℕ
number_at least most [] = Err 0
number_at least most (b ∷ bs) = cond (is_digit b && nat_le least (b - 48)) (number_from most (b - 48) bs) (Err (suc (length bs)))
