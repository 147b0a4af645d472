-- The lines of a script's text, and the tokens of a line.
use Rattle.std.specs.Prelude.{ℕ, zero, suc, Option, Some, None, slice_get, ◌+◌, ◌-◌, Bool, true, false, ◌&&◌, ◌||◌, ◌==◌, cond, if◌then◌else◌, List, [], ◌∷◌, length, codes}
use Rattle.std.specs.Borrow.{Bor}
use Rattle.std.specs.List.{slice_split, filter}
use Rattle.std.specs.Str.{bytes_eq}
use Rattle.rss_names.specs.Names.{is_name_byte}

-- a token: its bytes, and how many bytes of the line stand from its first byte on
pub record Token : Type 0 where
  pub word : List ℕ
  pub left : ℕ

-- the byte that ends a line
abbrev pub is_newline : ℕ → Bool
is_newline b = b == 10

-- a space; a tab and a carriage return count as one
abbrev pub is_space : ℕ → Bool
is_space b = b == 32 || b == 9 || b == 13

-- whether a word goes on here
abbrev pub goes_on : List ℕ → Bool
goes_on [] = false
goes_on (b ∷ bs) = is_name_byte b

-- how many bytes at the front are those of a word
abbrev pub further : List ℕ → ℕ
further [] = 0
further (b ∷ bs) = cond (is_name_byte b) (suc (further bs)) 0

-- a byte that is a token by itself
abbrev pub alone : ℕ → List ℕ → List Token → List Token
alone b bs more = record { word = b ∷ []; left = suc (length bs) } ∷ more

-- a byte in front of the first token, as its first byte
abbrev pub in_front : ℕ → List Token → List Token
in_front b [] = []
in_front b (t ∷ ts) = record { word = b ∷ t.word; left = suc t.left } ∷ ts

-- the tokens of a line: words of lower-case letters, digits and `_`, and each other byte that is no space by itself
unfoldable pub tokens : List ℕ → List Token
tokens [] = []
tokens (b ∷ bs) = cond (is_space b) (tokens bs) (cond (is_name_byte b && goes_on bs) (in_front b (tokens bs)) (alone b bs (tokens bs)))

-- how many bytes of the line are left where the first of these tokens begins; 0 at the line's end
abbrev pub place : List Token → ℕ
place [] = 0
place (t ∷ ts) = t.left

-- how many bytes stand before the first newline
abbrev pub line_size : List ℕ → ℕ
line_size [] = 0
line_size (b ∷ bs) = cond (is_newline b) 0 (suc (line_size bs))

-- the lines of what is left of a text, if there is a line left
abbrev pub lines_left : Option (Bor (List ℕ)) → List (List ℕ)
lines_left None = []
lines_left (Some text) = slice_split is_newline text.now

-- whether the line of these tokens is a statement: it has a token, and the first one is no `#`
abbrev pub is_written : List Token → Bool
is_written [] = false
is_written (t ∷ ts) = if bytes_eq t.word (codes "#") then false else true

-- whether a line is a statement
abbrev pub is_statement : List ℕ → Bool
is_statement line = is_written (tokens line)

-- the lines of a text that are statements
abbrev pub statement_lines : List ℕ → List (List ℕ)
statement_lines text = filter is_statement (slice_split is_newline text)

-- the column, from 1, of the place in a line from which so many bytes are left
abbrev pub column : List ℕ → ℕ → ℕ
column line left = length line + 1 - left

-- the column of a token that a line may have, 0 where it does not
abbrev pub column_of : List ℕ → Option Token → ℕ
column_of line None = 0
column_of line (Some t) = column line t.left

-- the column of a token, by its number from 0, in a line that there may be, 0 where there is none
abbrev pub column_in : Option (List ℕ) → ℕ → ℕ
column_in None token = 0
column_in (Some line) token = column_of line (slice_get (tokens line) token)

-- the column, from 1, of a token of a text, by the number of its statement, from 1, and its own number in there, from 0; 0 where there is none
abbrev pub token_column : List ℕ → ℕ → ℕ → ℕ
token_column text zero token = 0
token_column text (suc before) token = column_in (slice_get (statement_lines text) before) token
