-- How many statements a script executes, as if every `when` held.
use Rattle.std.specs.Prelude.{ℕ, ◌+◌, ◌-◌, ◌*◌, List, [], ◌∷◌, ◌++◌, length, get_or, take}
use Rattle.rss_names.specs.declared.service.Key.{Key}
use Rattle.pipeline_lang.specs.declared.script.Statement.{Statement}
use Rattle.pipeline_lang.specs.declared.script.Statement.TheVariants.{Repeat, When, End}

-- the turns round the statement below: `outer` has the turns round each open block, the innermost last
abbrev pub turns_after : ℕ → List ℕ → Statement ℕ Key ℕ ℕ → ℕ
turns_after turns outer (Repeat n) = turns * n
turns_after turns outer End = get_or outer (length outer - 1) 1
turns_after turns outer s = turns

-- the turns round each block that is open below a statement
abbrev pub outer_after : ℕ → List ℕ → Statement ℕ Key ℕ ℕ → List ℕ
outer_after turns outer (Repeat n) = outer ++ turns ∷ []
outer_after turns outer (When c) = outer ++ turns ∷ []
outer_after turns outer End = take (length outer - 1) outer
outer_after turns outer s = outer

-- how many statements are executed, each as often as the turns round it
abbrev pub executed_from : ℕ → List ℕ → List (Statement ℕ Key ℕ ℕ) → ℕ
executed_from turns outer [] = 0
executed_from turns outer (s ∷ ss) =
    turns + executed_from (turns_after turns outer s) (outer_after turns outer s) ss

-- how many statements a script executes
abbrev pub executed : List (Statement ℕ Key ℕ ℕ) → ℕ
executed script = executed_from 1 [] script
