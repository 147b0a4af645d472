-- The generated file of a number: an adder that writes, counts and puts, and a worker that takes, reads and writes.
use Rattle.std.specs.Prelude.{ℕ, ◌+◌, ◌*◌, ◌%◌, ◌^◌, List, [], ◌∷◌, ◌++◌, codes}
use Rattle.std.specs.Fmt.{decimal}

-- what the adder adds in each turn
abbrev pub generated_addend : ℕ → ℕ
generated_addend n = 1 + ((1103515245 * n + 12345) % 2 ^ 31) % 1000

-- texts as lines
abbrev pub text_lines : List (List ℕ) → List ℕ
text_lines [] = []
text_lines (text ∷ texts) = text ++ 10 ∷ text_lines texts

-- the file of a number from 1 to 1000
abbrev pub generated_file : ℕ → List ℕ
generated_file n = text_lines (
    codes "max_steps = 200000" ∷
    codes "registers = [\"blob\", \"thumb\"]" ∷
    codes "[[shard]]" ∷
    codes "name = \"s1\"" ∷
    codes "keys = [\"count\"]" ∷
    codes "[[shard]]" ∷
    codes "name = \"s2\"" ∷
    codes "keys = [\"last\"]" ∷
    codes "[[pipe]]" ∷
    codes "name = \"todo\"" ∷
    codes "from = \"adder\"" ∷
    codes "to = \"worker\"" ∷
    codes "[[stage]]" ∷
    codes "name = \"adder\"" ∷
    codes "script = '''" ∷
    (codes "repeat " ++ decimal n) ∷
    (codes "  let id = id + " ++ decimal (generated_addend n)) ∷
    codes "  write blob id" ∷
    codes "  txn c count : count = c + 1, last = id" ∷
    codes "  put todo id" ∷
    codes "end" ∷
    codes "'''" ∷
    codes "[[stage]]" ∷
    codes "name = \"worker\"" ∷
    codes "script = '''" ∷
    (codes "repeat " ++ decimal n) ∷
    codes "  take p todo" ∷
    codes "  read b blob" ∷
    codes "  write thumb b + 1" ∷
    codes "  snap c count, l last" ∷
    codes "end" ∷
    codes "'''" ∷
    [])
