-- How far a word and a number reach.
use Rattle.std.proofs.Common.{◌≡◌, ℕ, suc, ◌+◌, ◌-◌, ◌*◌, ◌^◌, ◌≤◌, ◌<◌, List, [], ◌∷◌, length, drop, Err, refl, inl, inr, arith}
use Rattle.std.proofs.Math.Seq.{drop-cons}
use Rattle.std.proofs.Math.Nat.{pow-le-pow_right, pow-suc}
use Rattle.std.proofs.lemmas.Bool.{cases_lt}
use Rattle.step_text.specs.Reading.{after_word}

-- a word that is not over does not end with the text
pub word_over : (word : List ℕ) (i : ℕ) (rest : List ℕ) → i < length word → length rest ≡ 0 → after_word (drop i word) rest ≡ Err 0
unfolding after_word
word_over word i [] h e = rw (drop-cons word i 0) refl
word_over word i (b ∷ rest) h e = absurd (omega arith)

-- one more digit at least doubles a number
pub grown_more : (len rest behind n longer : ℕ) → rest ≡ behind + 1 → rest ≤ len → 2 ^ (len - rest) ≤ n → 2 * n ≤ longer → 2 ^ (len - behind) ≤ longer
grown_more len rest behind n longer e h g d =
    let p : len - behind ≡ suc (len - rest) = omega arith in
    rw p (omega (arith, pow-suc 2 (len - rest)))

pow_grows : {i j : ℕ} → i ≤ j → 2 ^ i ≤ 2 ^ j
pow_grows {i} {j} h = pow-le-pow_right {n = 2} (omega arith) h

-- so a number below a power of two has few digits
pub grown_short : (len rest n : ℕ) → 2 ^ (len - rest) ≤ n → n < 2 ^ 62 → len ≤ rest + 61
grown_short len rest n g h =
    elim (cases_lt (len - rest) 62) [
      | inl lt ↦ omega arith
      | inr le ↦ absurd (omega (arith, pow_grows {i = 62} {j = len - rest} le))
    ]
