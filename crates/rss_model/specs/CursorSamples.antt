-- Samples of scripts that make no call: how their blocks run.
use Rattle.std.specs.Prelude.{◌≡◌, ℕ, zero, suc, List, [], ◌∷◌, get_or, replicate, slice_index, refl}
use Rattle.pipeline_lang.specs.declared.script.Term.TheVariants.{Number, Variable}
use Rattle.pipeline_lang.specs.declared.script.Expr.TheVariants.{One, Plus}
use Rattle.pipeline_lang.specs.declared.script.Compare.TheVariants.{Equal}
use Rattle.pipeline_lang.specs.declared.script.Statement.TheVariants.{Let, Repeat, When, End, Exit}
use Rattle.rss_model.specs.Cursor.{NumberedStatement, Cursor, after_local, statements_to_end}

-- where a script of local statements stands after so many of them
abbrev after_locals : List NumberedStatement → Cursor → ℕ → Cursor
after_locals script at zero = at
after_locals script at (suc n) =
    after_locals script (after_local script at (get_or script at.position Exit)) n

abbrev beginning : Cursor
beginning = record { position = 0; blocks = []; variables = replicate 3 0 }

-- adds 1 to variable 1
abbrev adds_one : NumberedStatement
adds_one = Let 1 (Plus (Variable 1) (Number 1))

-- three times twice
abbrev six_times : List NumberedStatement
six_times = Repeat 3 ∷ Repeat 2 ∷ adds_one ∷ End ∷ End ∷ []

six_times-value : slice_index (after_locals six_times beginning 19).variables 1 ≡ 6
six_times-value = refl

six_times-position : (after_locals six_times beginning 19).position ≡ 5
six_times-position = refl

-- a block that holds another is skipped whole, and then the other one runs once
abbrev one_of_two : List NumberedStatement
one_of_two =
    When (Equal (One (Variable 1)) (One (Number 1))) ∷ Repeat 2 ∷ adds_one ∷ End ∷ End ∷
    When (Equal (One (Variable 1)) (One (Number 0))) ∷ adds_one ∷ End ∷ []

one_of_two-skipped : (after_locals one_of_two beginning 1).position ≡ 5
unfolding statements_to_end
one_of_two-skipped = refl

one_of_two-end : after_locals one_of_two beginning 4 ≡
    record { position = 8; blocks = []; variables = 0 ∷ 1 ∷ 0 ∷ [] }
unfolding statements_to_end
one_of_two-end = refl
