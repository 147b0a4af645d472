-- The script that a text spells, or the first place where no script goes on.
use Rattle.std.specs.Prelude.{◌≡◌, ℕ, zero, suc, ◌+◌, ◌==◌, ◌&&◌, Bool, cond, codes, List, [], ◌∷◌, Result, Ok, Err, Option, Some, None}
use Rattle.pipeline_lang.specs.declared.script.Statement.TheVariants as statement
use Rattle.pipeline_lang.specs.declared.error.ParseError.{ParseError}
use Rattle.pipeline_lang.specs.declared.error.ParseError.TheVariants.{Syntax, OutOfMemory}
use Rattle.pipeline_lang.specs.declared.stop.Stop.{Stop}
use Rattle.pipeline_lang.specs.declared.stop.Stop.TheVariants as stop
use Rattle.pipeline_lang.specs.declared.stop.Stop.TheVariants.{Misfit}
use Rattle.pipeline_lang.specs.Tokens.{Token, tokens, place, statement_lines, column}
use Rattle.pipeline_lang.specs.Reading.{◌>>=◌, begins}
use Rattle.pipeline_lang.specs.Statements.{Raw, statement_at}

-- a place in a script: the number of the statement and the column in its line, each counted from 1
pub record Place : Type 0 where
  pub statement : ℕ
  pub column : ℕ

-- how many blocks are open behind a statement, if so many are open before it: `end` needs an open one
abbrev pub open_behind : ℕ → Raw → Option ℕ
open_behind n (statement.Repeat count) = Some (suc n)
open_behind n (statement.When test) = Some (suc n)
open_behind zero statement.End = None
open_behind (suc n) statement.End = Some n
open_behind n other = Some n

-- whether an `end` begins a line that no block is open round
abbrev pub is_end_too_many : ℕ → List Token → Bool
is_end_too_many n ts = n == 0 && begins (codes "end") ts

-- the statement and how many blocks are open behind it
abbrev pub balanced : Raw → ℕ → Option ℕ → Result (Raw × ℕ) ℕ
balanced s first (Some n) = Ok (s, n)
balanced s first None = Err first

-- the statement of these tokens inside n blocks, and how many are open behind it
unfoldable pub inside_at : ℕ → List Token → Result (Raw × ℕ) ℕ
inside_at n ts = do
  s ← statement_at ts
  balanced s (place ts) (open_behind n s)

-- the same, where an `end` too many cannot stand, whatever stands behind it
unfoldable pub nested_at : ℕ → List Token → Result (Raw × ℕ) ℕ
nested_at n ts = cond (is_end_too_many n ts) (Err (place ts)) (inside_at n ts)

-- what is read in the line of a statement, with the place in the script where it cannot be read
abbrev pub in_line : {A : Type 0} → ℕ → List ℕ → Result A ℕ → Result A Place
in_line number line (Ok x) = Ok x
in_line number line (Err left) = Err (record { statement = number; column = column line left })

-- at the end of a script no block may be open: the place is behind the last statement
abbrev pub closed : ℕ → ℕ → ℕ → Result (List Raw) Place
closed made zero end = Ok []
closed made (suc n) end = Err (record { statement = made; column = end })

-- the statements of these lines, behind `made` others, inside n blocks, where the last line ends before column `end`
unfoldable pub statements_of : ℕ → ℕ → ℕ → List (List ℕ) → Result (List Raw) Place
statements_of made n end [] = closed made n end
statements_of made n end (line ∷ lines) = do
  first ← in_line (made + 1) line (nested_at n (tokens line))
  more ← statements_of (made + 1) first.1 (column line 0) lines
  Ok (first.0 ∷ more)

-- the script that a text spells, or the place of the first token that cannot stand
unfoldable pub script_of : List ℕ → Result (List Raw) Place
script_of text = statements_of 0 0 1 (statement_lines text)

-- what parsing answers where the reading of a statement stops
abbrev pub refusal : ℕ → List ℕ → Stop → ParseError
refusal number line (Misfit left) = Syntax number (column line left)
refusal number line stop.OutOfMemory = OutOfMemory

-- what parsing answers for what is read; want of memory says nothing
abbrev pub Parses : Result (List Raw) ParseError → Result (List Raw) Place → Type 0
Parses (Ok script) read = read ≡ Ok script
Parses (Err (Syntax number column)) read = read ≡ Err (record { statement = number; column = column })
Parses (Err OutOfMemory) read = Unit {0}
