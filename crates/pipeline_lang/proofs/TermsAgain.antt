-- Printed terms, expressions and comparisons are read again.
use Rattle.std.proofs.Common.{◌≡◌, ℕ, ◌+◌, ◌^◌, ◌≤◌, ◌<◌, false, ◌&&◌, nat_le, List, [], ◌∷◌, ◌++◌, length, Result, Ok, refl, ap, ◌∙◌, sym, append_assoc}
use Rattle.std.specs.Prelude.{codes, option_map}
use Rattle.std.proofs.lemmas.List.{append-nil}
use Rattle.std.specs.Fmt.{decimal}
use Rattle.std.specs.List.{list_all}
use Rattle.std.specs.Str.{bytes_eq}
use Rattle.std.proofs.lemmas.Bool.{cond-true, cond-false}
use Rattle.rss_names.specs.Names.{is_name, is_name_byte, is_letter}
use Rattle.pipeline_lang.specs.Tokens.{Token, tokens, goes_on}
use Rattle.pipeline_lang.specs.Reading.{◌>>=◌, begins}
use Rattle.pipeline_lang.specs.Terms.{name, own, number, term, name_at, own_at, number_at, term_at, sum_at, expr_at, comparison_at, compare_at}
use Rattle.pipeline_lang.specs.declared.script.Term.{Term}
use Rattle.pipeline_lang.specs.declared.script.Term.TheVariants.{Number, Variable}
use Rattle.pipeline_lang.specs.declared.script.Expr.{Expr}
use Rattle.pipeline_lang.specs.declared.script.Expr.TheVariants.{One, Plus, Minus}
use Rattle.pipeline_lang.specs.declared.script.Compare.{Compare}
use Rattle.pipeline_lang.specs.declared.script.Compare.TheVariants.{Equal, Less}
use Rattle.pipeline_lang.specs.Spelled.{IsName, IsOwn, IsTerm, IsExpr, IsCompare}
use Rattle.pipeline_lang.specs.Printing.{term_text, expr_text, compare_text}
use Rattle.pipeline_lang.proofs.NumbersAgain.{decimal_digits, number_again, digit_byte, digit_no_letter}
use Rattle.pipeline_lang.proofs.Words.{no_and}
use Rattle.pipeline_lang.proofs.WordsAgain.{IsWord, meant_again, name_word}

-- a step of a reading that was made
pub bind_to : {A B E : Type 0} (r : Result A E) (f : A → Result B E) (x : A) (z : Result B E) → r ≡ Ok x → f x ≡ z → (r >>= f) ≡ z
bind_to r f x z e g = ap (λ q. q >>= f) e ∙ g

pub name_again : (word rest : List ℕ) → IsName word → goes_on rest ≡ false → name_at (tokens (word ++ rest)) ≡ Ok (word, tokens rest)
name_again word rest h e = meant_again name word rest word (name_word word h) e (cond-true (is_name word) _ _ h)

pub own_again : (word rest : List ℕ) → IsOwn word → goes_on rest ≡ false → own_at (tokens (word ++ rest)) ≡ Ok (word, tokens rest)
own_again word rest h e = meant_again own word rest word (name_word word h.named) e (cond-false (bytes_eq word (codes "status")) _ _ h.other ∙ cond-true (is_name word) _ _ h.named)

-- the digits of a number are a word, and no name
pub number_word : (n : ℕ) → n < 2 ^ 64 → IsWord (decimal n)
number_word n h = let d = decimal_digits n h in record { first = 48 + d.first; more = d.tail; is = d.is; byte = digit_byte d.first d.high; bytes = d.bytes }

no_name : (first : ℕ) (tail : List ℕ) → first ≤ 9 → is_name ((48 + first) ∷ tail) ≡ false
unfolding is_name
no_name first tail h = no_and (is_letter (48 + first) && nat_le (length tail) 15) (list_all is_name_byte tail) (no_and (is_letter (48 + first)) (nat_le (length tail) 15) (digit_no_letter first h))

pub number_no_name : (n : ℕ) → n < 2 ^ 64 → is_name (decimal n) ≡ false
number_no_name n h = let d = decimal_digits n h in ap is_name d.is ∙ no_name d.first d.tail d.high

pub count_again : (n : ℕ) (rest : List ℕ) → n < 2 ^ 64 → goes_on rest ≡ false → number_at (tokens (decimal n ++ rest)) ≡ Ok (n, tokens rest)
count_again n rest h e = meant_again number (decimal n) rest n (number_word n h) e (number_again n h)

pub term_again : (t : Term (List ℕ)) (rest : List ℕ) → IsTerm t → goes_on rest ≡ false → term_at (tokens (term_text t ++ rest)) ≡ Ok (t, tokens rest)
unfolding term_text
term_again (Number n) rest h e = meant_again term (decimal n) rest (Number n) (number_word n h) e (cond-false (is_name (decimal n)) _ _ (number_no_name n h) ∙ ap (option_map Number) (number_again n h))
term_again (Variable v) rest h e = meant_again term v rest (Variable v) (name_word v h) e (cond-true (is_name v) _ _ h)

-- what may stand behind an expression
pub record Ends (rest : List ℕ) : Type 0 where
  pub stop : goes_on rest ≡ false
  pub plus : begins (codes "+") (tokens rest) ≡ false
  pub minus : begins (codes "-") (tokens rest) ≡ false

one_again : (a : Term (List ℕ)) (rest : List ℕ) → Ends rest → sum_at a (tokens rest) ≡ Ok (One a, tokens rest)
unfolding sum_at
one_again a rest h = cond-false (begins (codes "+") (tokens rest)) _ _ h.plus ∙ cond-false (begins (codes "-") (tokens rest)) _ _ h.minus

plus_again : (a b : Term (List ℕ)) (rest : List ℕ) → IsTerm b → Ends rest → sum_at a (tokens (codes " + " ++ (term_text b ++ rest))) ≡ Ok (Plus a b, tokens rest)
unfolding sum_at tokens
plus_again a b rest h e = ap (λ (r : Result (Term (List ℕ) × List Token) ℕ). ◌>>=◌ {B = Expr (List ℕ) × List Token} r (λ second. Ok (Plus a second.0, second.1))) (term_again b rest h e.stop)

minus_again : (a b : Term (List ℕ)) (rest : List ℕ) → IsTerm b → Ends rest → sum_at a (tokens (codes " - " ++ (term_text b ++ rest))) ≡ Ok (Minus a b, tokens rest)
unfolding sum_at tokens
minus_again a b rest h e = ap (λ (r : Result (Term (List ℕ) × List Token) ℕ). ◌>>=◌ {B = Expr (List ℕ) × List Token} r (λ second. Ok (Minus a second.0, second.1))) (term_again b rest h e.stop)

-- a term and what goes on behind it
expr_step : (a : Term (List ℕ)) (text more rest : List ℕ) (x : Expr (List ℕ)) → text ≡ term_text a ++ more → IsTerm a → goes_on (more ++ rest) ≡ false → sum_at a (tokens (more ++ rest)) ≡ Ok (x, tokens rest) → expr_at (tokens (text ++ rest)) ≡ Ok (x, tokens rest)
unfolding expr_at
expr_step a text more rest x t h e s =
    ap (λ (l : List ℕ). term_at (tokens l) >>= λ first. sum_at first.0 first.1) (ap (λ (l : List ℕ). l ++ rest) t ∙ append_assoc (term_text a) more rest)
    ∙ bind_to (term_at (tokens (term_text a ++ (more ++ rest)))) (λ first. sum_at first.0 first.1) (a, tokens (more ++ rest)) (Ok (x, tokens rest)) (term_again a (more ++ rest) h e) s

pub expr_again : (x : Expr (List ℕ)) (rest : List ℕ) → IsExpr x → Ends rest → expr_at (tokens (expr_text x ++ rest)) ≡ Ok (x, tokens rest)
unfolding expr_text
expr_again (One a) rest h e =
    expr_step a (term_text a) [] rest (One a) (sym (append-nil (term_text a))) h e.stop (one_again a rest e)
expr_again (Plus a b) rest h e = expr_step a (term_text a ++ codes " + " ++ term_text b) (codes " + " ++ term_text b) rest (Plus a b) (append_assoc (term_text a) (codes " + ") (term_text b)) h.0 refl (plus_again a b rest h.1 e)
expr_again (Minus a b) rest h e = expr_step a (term_text a ++ codes " - " ++ term_text b) (codes " - " ++ term_text b) rest (Minus a b) (append_assoc (term_text a) (codes " - ") (term_text b)) h.0 refl (minus_again a b rest h.1 e)

-- what stands behind the first expression of a comparison
before_equal : (text : List ℕ) → Ends (codes " = " ++ text)
unfolding tokens
before_equal text = record { stop = refl; plus = refl; minus = refl }

before_less : (text : List ℕ) → Ends (codes " < " ++ text)
unfolding tokens
before_less text = record { stop = refl; plus = refl; minus = refl }

equal_again : (a b : Expr (List ℕ)) (rest : List ℕ) → IsExpr b → Ends rest → comparison_at a (tokens (codes " = " ++ (expr_text b ++ rest))) ≡ Ok (Equal a b, tokens rest)
unfolding comparison_at tokens
equal_again a b rest h e = ap (λ (r : Result (Expr (List ℕ) × List Token) ℕ). ◌>>=◌ {B = Compare (List ℕ) × List Token} r (λ right. Ok (Equal a right.0, right.1))) (expr_again b rest h e)

less_again : (a b : Expr (List ℕ)) (rest : List ℕ) → IsExpr b → Ends rest → comparison_at a (tokens (codes " < " ++ (expr_text b ++ rest))) ≡ Ok (Less a b, tokens rest)
unfolding comparison_at tokens
less_again a b rest h e = ap (λ (r : Result (Expr (List ℕ) × List Token) ℕ). ◌>>=◌ {B = Compare (List ℕ) × List Token} r (λ right. Ok (Less a right.0, right.1))) (expr_again b rest h e)

compare_step : (a : Expr (List ℕ)) (text more rest : List ℕ) (x : Compare (List ℕ)) → text ≡ expr_text a ++ more → IsExpr a → Ends (more ++ rest) → comparison_at a (tokens (more ++ rest)) ≡ Ok (x, tokens rest) → compare_at (tokens (text ++ rest)) ≡ Ok (x, tokens rest)
unfolding compare_at
compare_step a text more rest x t h e s =
    ap (λ (l : List ℕ). expr_at (tokens l) >>= λ left. comparison_at left.0 left.1) (ap (λ (l : List ℕ). l ++ rest) t ∙ append_assoc (expr_text a) more rest)
    ∙ bind_to (expr_at (tokens (expr_text a ++ (more ++ rest)))) (λ left. comparison_at left.0 left.1) (a, tokens (more ++ rest)) (Ok (x, tokens rest)) (expr_again a (more ++ rest) h e) s

pub compare_again : (x : Compare (List ℕ)) (rest : List ℕ) → IsCompare x → Ends rest → compare_at (tokens (compare_text x ++ rest)) ≡ Ok (x, tokens rest)
unfolding compare_text
compare_again (Equal a b) rest h e = compare_step a (expr_text a ++ codes " = " ++ expr_text b) (codes " = " ++ expr_text b) rest (Equal a b) (append_assoc (expr_text a) (codes " = ") (expr_text b)) h.0 (before_equal (expr_text b ++ rest)) (equal_again a b rest h.1 e)
compare_again (Less a b) rest h e = compare_step a (expr_text a ++ codes " < " ++ expr_text b) (codes " < " ++ expr_text b) rest (Less a b) (append_assoc (expr_text a) (codes " < ") (expr_text b)) h.0 (before_less (expr_text b ++ rest)) (less_again a b rest h.1 e)

-- three parts and what stands behind them, one behind another
pub parts : (a b c rest : List ℕ) → ((a ++ b) ++ c) ++ rest ≡ a ++ (b ++ (c ++ rest))
parts a b c rest = append_assoc (a ++ b) c rest ∙ append_assoc a b (c ++ rest)
