-- The grammar of terms, expressions and comparisons.
use Rattle.std.specs.Prelude.{ℕ, zero, suc, ◌+◌, ◌-◌, ◌*◌, ◌^◌, Bool, ◌&&◌, nat_le, nat_lt, cond, List, [], ◌∷◌, Result, Ok, Option, Some, None, codes, option_map}
use Rattle.std.specs.Str.{bytes_eq}
use Rattle.rss_names.specs.Names.{is_name}
use Rattle.pipeline_lang.specs.declared.script.Term.{Term}
use Rattle.pipeline_lang.specs.declared.script.Term.TheVariants.{Number, Variable}
use Rattle.pipeline_lang.specs.declared.script.Expr.{Expr}
use Rattle.pipeline_lang.specs.declared.script.Expr.TheVariants.{One, Plus, Minus}
use Rattle.pipeline_lang.specs.declared.script.Compare.{Compare}
use Rattle.pipeline_lang.specs.declared.script.Compare.TheVariants.{Equal, Less}
use Rattle.pipeline_lang.specs.Tokens.{Token}
use Rattle.pipeline_lang.specs.Reading.{◌>>=◌, token_at, word_at, begins, behind}

-- a decimal digit
abbrev pub is_digit : ℕ → Bool
is_digit b = nat_le 48 b && nat_le b 57

-- the number below 2^64 that a number goes on to by these digits, and nothing else
unfoldable pub digits : ℕ → List ℕ → Option ℕ
digits n [] = Some n
digits n (b ∷ bs) = cond (is_digit b && nat_lt (10 * n + (b - 48)) (2 ^ 64)) (digits (10 * n + (b - 48)) bs) None

-- the number that begins with this digit: behind 0 no digit can stand
abbrev pub number_from : ℕ → List ℕ → Option ℕ
number_from zero [] = Some 0
number_from zero (b ∷ bs) = None
number_from (suc n) bs = digits (suc n) bs

-- the number that a word is: decimal, below 2^64, without leading zeros
unfoldable pub number : List ℕ → Option ℕ
number [] = None
number (b ∷ bs) = cond (is_digit b) (number_from (b - 48) bs) None

-- the name that a word is
abbrev pub name : List ℕ → Option (List ℕ)
name word = cond (is_name word) (Some word) None

-- the variable that a word is, where the variable is set: only the program sets `status`
abbrev pub own : List ℕ → Option (List ℕ)
own word = cond (bytes_eq word (codes "status")) None (name word)

-- a name
abbrev pub name_at : List Token → Result (List ℕ × List Token) ℕ
name_at ts = token_at name ts

-- a variable that is set
abbrev pub own_at : List Token → Result (List ℕ × List Token) ℕ
own_at ts = token_at own ts

-- a number
abbrev pub number_at : List Token → Result (ℕ × List Token) ℕ
number_at ts = token_at number ts

-- the term that a word is: a variable or a number
abbrev pub term : List ℕ → Option (Term (List ℕ))
term word = cond (is_name word) (Some (Variable word)) (option_map Number (number word))

-- `TERM`
abbrev pub term_at : List Token → Result (Term (List ℕ) × List Token) ℕ
term_at ts = token_at term ts

-- `+ TERM`, `- TERM` or nothing behind a term
unfoldable pub sum_at : Term (List ℕ) → List Token → Result (Expr (List ℕ) × List Token) ℕ
sum_at first ts = cond (begins (codes "+") ts)
    (do
      second ← term_at (behind ts)
      Ok (Plus first second.0, second.1))
    (cond (begins (codes "-") ts)
    (do
      second ← term_at (behind ts)
      Ok (Minus first second.0, second.1))
    (Ok (One first, ts)))

-- `TERM`, `TERM + TERM` or `TERM - TERM`
unfoldable pub expr_at : List Token → Result (Expr (List ℕ) × List Token) ℕ
expr_at ts = do
  first ← term_at ts
  sum_at first.0 first.1

-- `= EXPR` or `< EXPR` behind an expression
unfoldable pub comparison_at : Expr (List ℕ) → List Token → Result (Compare (List ℕ) × List Token) ℕ
comparison_at left ts = cond (begins (codes "=") ts)
    (do
      right ← expr_at (behind ts)
      Ok (Equal left right.0, right.1))
    (do
      rest ← word_at (codes "<") ts
      right ← expr_at rest
      Ok (Less left right.0, right.1))

-- `EXPR = EXPR` or `EXPR < EXPR`
unfoldable pub compare_at : List Token → Result (Compare (List ℕ) × List Token) ℕ
compare_at ts = do
  left ← expr_at ts
  comparison_at left.0 left.1
