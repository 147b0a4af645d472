-- How a script is read on behind some of its statements.
use Rattle.std.proofs.Common.{◌≡◌, ℕ, zero, suc, ◌+◌, ◌<◌, true, List, [], ◌∷◌, ◌++◌, Result, Ok, Err, Option, Some, refl, ap, ◌∙◌, sym, append_assoc, arith}
use Rattle.std.proofs.lemmas.Bool.{cond-true}
use Rattle.std.proofs.lemmas.List.{append-nil}
use Rattle.pipeline_lang.specs.declared.error.ParseError.{ParseError}
use Rattle.pipeline_lang.specs.declared.stop.Stop.{Stop}
use Rattle.pipeline_lang.specs.declared.stop.Stop.TheVariants.{Misfit, OutOfMemory}
use Rattle.std.specs.Borrow.{Bor}
use Rattle.std.specs.List.{slice_split, filter}
use Rattle.pipeline_lang.specs.Tokens.{tokens, is_statement, is_newline, lines_left, column}
use Rattle.pipeline_lang.specs.Reading.{◌>>=◌, Gives}
use Rattle.pipeline_lang.specs.Statements.{Raw}
use Rattle.pipeline_lang.specs.Scripts.{Place, refusal, Parses, nested_at, in_line, statements_of}

-- the statements that were read, and those behind them
abbrev pub behind : List Raw → Result (List Raw) Place → Result (List Raw) Place
behind made r = r >>= λ more. Ok (made ++ more)

go_behind : (made : List Raw) (s : Raw) (r : Result (List Raw) Place) → behind made (r >>= λ more. Ok (s ∷ more)) ≡ behind (made ++ s ∷ []) r
go_behind made s (Ok more) = ap (λ l. Ok l) (sym (append_assoc made (s ∷ []) more))
go_behind made s (Err l) = refl

pub read_line : (made : List Raw) (n depth end inside : ℕ) (s : Raw) (line : List ℕ) (lines : List (List ℕ)) → nested_at depth (tokens line) ≡ Ok (s, inside) → behind made (statements_of n depth end (line ∷ lines)) ≡ behind (made ++ s ∷ []) (statements_of (n + 1) inside (column line 0) lines)
unfolding statements_of
read_line made n depth end inside s line lines e =
    ap (λ (r : Result (Raw × ℕ) ℕ). behind made (in_line (n + 1) line r >>= λ first. statements_of (n + 1) first.1 (column line 0) lines >>= λ more. Ok (first.0 ∷ more))) e
    ∙ go_behind made s (statements_of (n + 1) inside (column line 0) lines)

pub stop_line : (made : List Raw) (n depth end left : ℕ) (line : List ℕ) (lines : List (List ℕ)) → nested_at depth (tokens line) ≡ Err left → behind made (statements_of n depth end (line ∷ lines)) ≡ Err (record { statement = n + 1; column = column line left })
unfolding statements_of
stop_line made n depth end left line lines e =
    ap (λ (r : Result (Raw × ℕ) ℕ). behind made (in_line (n + 1) line r >>= λ first. statements_of (n + 1) first.1 (column line 0) lines >>= λ more. Ok (first.0 ∷ more))) e

pub end_lines : (made : List Raw) (n depth end : ℕ) → 0 < depth → behind made (statements_of n depth end []) ≡ Err (record { statement = n; column = end })
unfolding statements_of
end_lines made n zero end h = absurd (omega arith)
end_lines made n (suc depth) end h = refl

pub all_lines : (made : List Raw) (n depth end : ℕ) → depth ≡ 0 → behind made (statements_of n depth end []) ≡ Ok made
unfolding statements_of
all_lines made n zero end h = ap (λ l. Ok l) (append-nil made)
all_lines made n (suc depth) end h = absurd (omega arith)

-- where nothing was read yet
pub none_read : (r : Result (List Raw) Place) → r ≡ behind [] r
none_read (Ok s) = refl
none_read (Err e) = refl

-- the lines of what is left, where the first one is a statement
pub next_line : (rest : Option (Bor (List ℕ))) (left : Bor (List ℕ)) (line : List ℕ) (more : List (List ℕ)) → rest ≡ Some left → slice_split is_newline left.now ≡ line ∷ more → is_statement line ≡ true → filter is_statement (lines_left rest) ≡ line ∷ filter is_statement more
next_line rest left line more r s t =
    let e : lines_left rest ≡ line ∷ more = ap lines_left r ∙ s in
    ap (filter is_statement) e ∙ cond-true (is_statement line) _ _ t

-- a statement more was read
pub read_more : (whole : Result (List Raw) Place) (made items : List Raw) (n m depth end inside col : ℕ) (lines more : List (List ℕ)) (line : List ℕ) (s : Raw) → whole ≡ behind made (statements_of n depth end lines) → lines ≡ line ∷ more → nested_at depth (tokens line) ≡ Ok (s, inside) → items ≡ made ++ s ∷ [] → m ≡ n + 1 → col ≡ column line 0 → whole ≡ behind items (statements_of m inside col more)
read_more whole made items n m depth end inside col lines more line s w l e i a b =
    w ∙ ap (λ ls. behind made (statements_of n depth end ls)) l ∙ read_line made n depth end inside s line more e ∙ rw (i, a, b) refl

-- reading stops in a line
pub read_stop : (whole : Result (List Raw) Place) (made : List Raw) (n m depth end : ℕ) (lines more : List (List ℕ)) (line : List ℕ) (stop : Stop) (answer : ParseError) → whole ≡ behind made (statements_of n depth end lines) → lines ≡ line ∷ more → Gives {A = Raw × ℕ} (Err stop) (nested_at depth (tokens line)) → m ≡ n → answer ≡ refusal (m + 1) line stop → Parses (Err answer) whole
read_stop whole made n m depth end lines more line (Misfit left) answer w l e a b =
    rw (b, a) (w ∙ ap (λ ls. behind made (statements_of n depth end ls)) l ∙ stop_line made n depth end left line more e)
read_stop whole made n m depth end lines more line OutOfMemory answer w l e a b = rw b tt

-- no line is left, and a block is open
pub read_open : (whole : Result (List Raw) Place) (made : List Raw) (n m depth end : ℕ) (lines : List (List ℕ)) → whole ≡ behind made (statements_of n depth end lines) → lines ≡ [] → 0 < depth → m ≡ n → whole ≡ Err (record { statement = m; column = end })
read_open whole made n m depth end lines w l h a =
    w ∙ ap (λ ls. behind made (statements_of n depth end ls)) l ∙ end_lines made n depth end h ∙ rw a refl

-- no line is left, and no block is open
pub read_all : (whole : Result (List Raw) Place) (made script : List Raw) (n depth end : ℕ) (lines : List (List ℕ)) → whole ≡ behind made (statements_of n depth end lines) → lines ≡ [] → depth ≡ 0 → script ≡ made → whole ≡ Ok script
read_all whole made script n depth end lines w l h a =
    w ∙ ap (λ ls. behind made (statements_of n depth end ls)) l ∙ all_lines made n depth end h ∙ rw a refl
