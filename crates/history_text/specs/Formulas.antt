-- How formulas and guards are read.
use Rattle.std.specs.Prelude.{ℕ, ◌+◌, ◌-◌, Bool, false, ◌&&◌, ◌||◌, ◌==◌, cond, List, [], ◌∷◌, Option, Some, None, codes}
use Rattle.pipeline_lang.specs.declared.script.Term.{Term}
use Rattle.pipeline_lang.specs.declared.script.Term.TheVariants.{Number, Variable}
use Rattle.pipeline_lang.specs.declared.script.Expr.{Expr}
use Rattle.pipeline_lang.specs.declared.script.Expr.TheVariants.{One, Plus, Minus}
use Rattle.pipeline_lang.specs.declared.script.Compare.{Compare}
use Rattle.pipeline_lang.specs.declared.script.Compare.TheVariants.{Equal, Less}
use Rattle.pipeline_lang.specs.Terms.{is_digit, number}
use Rattle.history_text.specs.Reading.{◌>>=◌, begins, behind, word_at, token_at, ranged}

-- the position of a read, from 1 to 256, behind `#`
unfoldable pub position_at : List ℕ → Option (Term ℕ × List ℕ)
position_at bytes = do
  place ← token_at (ranged 1 256) bytes
  Some (Variable (place.0 - 1), place.1)

-- a number
unfoldable pub constant_at : List ℕ → Option (Term ℕ × List ℕ)
constant_at bytes = do
  n ← token_at number bytes
  Some (Number n.0, n.1)

-- a term
unfoldable pub term_at : List ℕ → Option (Term ℕ × List ℕ)
term_at bytes =
    cond (begins (codes "#") bytes) (position_at (behind (codes "#") bytes)) (constant_at bytes)

-- ` + TERM`, ` - TERM` or nothing behind a term
unfoldable pub sum_at : Term ℕ → List ℕ → Option (Expr ℕ × List ℕ)
sum_at first bytes = cond (begins (codes " + ") bytes)
    (do
      second ← term_at (behind (codes " + ") bytes)
      Some (Plus first second.0, second.1))
    (cond (begins (codes " - ") bytes)
    (do
      second ← term_at (behind (codes " - ") bytes)
      Some (Minus first second.0, second.1))
    (Some (One first, bytes)))

-- a term, or the sum or difference of two
unfoldable pub formula_at : List ℕ → Option (Expr ℕ × List ℕ)
formula_at bytes = do
  first ← term_at bytes
  sum_at first.0 first.1

-- ` = FORMULA` or ` < FORMULA` behind a formula
unfoldable pub comparison_at : Expr ℕ → List ℕ → Option (Compare ℕ × List ℕ)
comparison_at left bytes = cond (begins (codes " = ") bytes)
    (do
      right ← formula_at (behind (codes " = ") bytes)
      Some (Equal left right.0, right.1))
    (do
      rest ← word_at (codes " < ") bytes
      right ← formula_at rest
      Some (Less left right.0, right.1))

-- a guard
unfoldable pub guard_at : List ℕ → Option (Compare ℕ × List ℕ)
guard_at bytes = do
  left ← formula_at bytes
  comparison_at left.0 left.1

-- whether a term comes: no name begins with `#` or a digit
unfoldable pub begins_term : List ℕ → Bool
begins_term [] = false
begins_term (b ∷ bs) = (b == 35) || is_digit b

-- whether a guard comes, and not a key with the name `when`
unfoldable pub begins_guard : List ℕ → Bool
begins_guard bytes = begins (codes " when ") bytes && begins_term (behind (codes " when ") bytes)

-- a guard, if there is one
unfoldable pub when_at : List ℕ → Option (Option (Compare ℕ) × List ℕ)
when_at bytes = cond (begins_guard bytes)
    (do
      guard ← guard_at (behind (codes " when ") bytes)
      Some (Some guard.0, guard.1))
    (Some (None, bytes))
