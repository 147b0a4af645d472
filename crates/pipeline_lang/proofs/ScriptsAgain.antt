-- A printed script is read again.
use Rattle.std.proofs.Common.{◌≡◌, ℕ, zero, suc, ◌+◌, ◌&&◌, Bool, true, false, List, [], ◌∷◌, ◌++◌, Result, Ok, Err, Option, Some, None, refl, ap, ◌∙◌, sym, subst, arith, append_assoc}
use Rattle.std.specs.Prelude.{codes, not, ◌==◌}
use Rattle.std.specs.Fmt.{decimal}
use Rattle.std.specs.Str.{bytes_eq}
use Rattle.std.specs.List.{list_all, slice_split, filter, onto_first}
use Rattle.std.proofs.lemmas.Bool.{cond-true, cond-false, and_from, and_parts, eqb-true}
use Rattle.std.proofs.lemmas.Bool.Decides.{nat_tests}
use Rattle.std.proofs.lemmas.List.Folds.{list_all-append}
use Rattle.std.proofs.lemmas.Slice.Eq.{bytes_eq-Decides}
use Rattle.rss_names.specs.Names.{is_name_byte}
use Rattle.pipeline_lang.specs.declared.script.Term.{Term}
use Rattle.pipeline_lang.specs.declared.script.Term.TheVariants.{Number, Variable}
use Rattle.pipeline_lang.specs.declared.script.Expr.{Expr}
use Rattle.pipeline_lang.specs.declared.script.Expr.TheVariants.{One, Plus, Minus}
use Rattle.pipeline_lang.specs.declared.script.Compare.{Compare}
use Rattle.pipeline_lang.specs.declared.script.Compare.TheVariants.{Equal, Less}
use Rattle.pipeline_lang.specs.declared.script.Statement.TheVariants as statement
use Rattle.pipeline_lang.specs.Tokens.{Token, tokens, is_newline, is_written, is_statement, column, place}
use Rattle.pipeline_lang.specs.Reading.{◌>>=◌, meant, begins, end_at}
use Rattle.pipeline_lang.specs.Statements.{Raw, Pair, Written, keyword, parts_at, statement_at}
use Rattle.pipeline_lang.specs.Scripts.{Place, open_behind, balanced, is_end_too_many, inside_at, nested_at, in_line, statements_of, script_of}
use Rattle.pipeline_lang.specs.Spelled.{IsName, IsTerm, IsExpr, IsCompare, IsPair, IsWritten, IsGuard, Each, IsStatement, Goes, AreStatements, IsScript}
use Rattle.pipeline_lang.specs.Printing.{term_text, expr_text, compare_text, pair_text, written_text, pairs_text, more_pairs_text, writes_text, more_writes_text, guard_text, statement_text, blocks_round, blocks_behind, indent, lines_text, text_of}
use Rattle.pipeline_lang.proofs.WordsAgain.{IsWord, name_word}
use Rattle.pipeline_lang.proofs.TermsAgain.{number_word}
use Rattle.pipeline_lang.proofs.StatementsAgain.{statement_again}

-- a text without a newline
abbrev unbroken : List ℕ → Bool
unbroken text = list_all (λ b. not (is_newline b)) text

join : (a b : List ℕ) → unbroken a ≡ true → unbroken b ≡ true → unbroken (a ++ b) ≡ true
join a b p q = list_all-append (λ c. not (is_newline c)) a b ∙ and_from _ _ p q

around : (between a b : List ℕ) → unbroken between ≡ true → unbroken a ≡ true → unbroken b ≡ true → unbroken ((a ++ between) ++ b) ≡ true
around between a b m p q = join (a ++ between) b (join a between p m) q

byte_unbroken : (b : ℕ) → is_name_byte b ≡ true → not (is_newline b) ≡ true
byte_unbroken b h = grind (arith, nat_tests)

bytes_unbroken : (word : List ℕ) → list_all is_name_byte word ≡ true → unbroken word ≡ true
bytes_unbroken [] h = refl
bytes_unbroken (b ∷ bs) h =
    let parts = and_parts (is_name_byte b) (list_all is_name_byte bs) h in
    and_from _ _ (byte_unbroken b parts.0) (bytes_unbroken bs parts.1)

word_unbroken : (word : List ℕ) → IsWord word → unbroken word ≡ true
word_unbroken word w = ap unbroken w.is ∙ and_from _ _ (byte_unbroken w.first w.byte) (bytes_unbroken w.more w.bytes)

name_unbroken : (word : List ℕ) → IsName word → unbroken word ≡ true
name_unbroken word h = word_unbroken word (name_word word h)

term_unbroken : (t : Term (List ℕ)) → IsTerm t → unbroken (term_text t) ≡ true
unfolding term_text
term_unbroken (Number n) h = word_unbroken (decimal n) (number_word n h)
term_unbroken (Variable v) h = name_unbroken v h

expr_unbroken : (x : Expr (List ℕ)) → IsExpr x → unbroken (expr_text x) ≡ true
unfolding expr_text
expr_unbroken (One a) h = term_unbroken a h
expr_unbroken (Plus a b) h = around (codes " + ") (term_text a) (term_text b) refl (term_unbroken a h.0) (term_unbroken b h.1)
expr_unbroken (Minus a b) h = around (codes " - ") (term_text a) (term_text b) refl (term_unbroken a h.0) (term_unbroken b h.1)

compare_unbroken : (x : Compare (List ℕ)) → IsCompare x → unbroken (compare_text x) ≡ true
unfolding compare_text
compare_unbroken (Equal a b) h = around (codes " = ") (expr_text a) (expr_text b) refl (expr_unbroken a h.0) (expr_unbroken b h.1)
compare_unbroken (Less a b) h = around (codes " < ") (expr_text a) (expr_text b) refl (expr_unbroken a h.0) (expr_unbroken b h.1)

two_unbroken : (a b : List ℕ) → IsName a → IsName b → unbroken ((a ++ codes " ") ++ b) ≡ true
two_unbroken a b h g = around (codes " ") a b refl (name_unbroken a h) (name_unbroken b g)

assigned_unbroken : (between k : List ℕ) (x : Expr (List ℕ)) → unbroken between ≡ true → IsName k → IsExpr x → unbroken ((k ++ between) ++ expr_text x) ≡ true
assigned_unbroken between k x b h g = around between k (expr_text x) b (name_unbroken k h) (expr_unbroken x g)

pair_unbroken : (p : Pair) → IsPair p → unbroken (pair_text p) ≡ true
unfolding pair_text
pair_unbroken p h = two_unbroken p.0 p.1 h.0.named h.1

written_unbroken : (w : Written) → IsWritten w → unbroken (written_text w) ≡ true
unfolding written_text
written_unbroken w h = assigned_unbroken (codes " = ") w.0 w.1 refl h.0 h.1

more_pairs_unbroken : (ps : List Pair) → Each IsPair ps → unbroken (more_pairs_text ps) ≡ true
unfolding more_pairs_text
more_pairs_unbroken [] h = refl
more_pairs_unbroken (p ∷ ps) h = join (codes ", ") (pair_text p ++ more_pairs_text ps) refl (join (pair_text p) (more_pairs_text ps) (pair_unbroken p h.0) (more_pairs_unbroken ps h.1))

pairs_unbroken : (ps : List Pair) → Each IsPair ps → unbroken (pairs_text ps) ≡ true
unfolding pairs_text
pairs_unbroken [] h = refl
pairs_unbroken (p ∷ ps) h = join (codes " ") (pair_text p ++ more_pairs_text ps) refl (join (pair_text p) (more_pairs_text ps) (pair_unbroken p h.0) (more_pairs_unbroken ps h.1))

more_writes_unbroken : (ws : List Written) → Each IsWritten ws → unbroken (more_writes_text ws) ≡ true
unfolding more_writes_text
more_writes_unbroken [] h = refl
more_writes_unbroken (w ∷ ws) h = join (codes ", ") (written_text w ++ more_writes_text ws) refl (join (written_text w) (more_writes_text ws) (written_unbroken w h.0) (more_writes_unbroken ws h.1))

writes_unbroken : (ws : List Written) → Each IsWritten ws → unbroken (writes_text ws) ≡ true
unfolding writes_text
writes_unbroken [] h = refl
writes_unbroken (w ∷ ws) h = join (codes " ") (written_text w ++ more_writes_text ws) refl (join (written_text w) (more_writes_text ws) (written_unbroken w h.0) (more_writes_unbroken ws h.1))

guard_unbroken : (ps : List Pair) (guard : Option (Compare (List ℕ))) → IsGuard ps guard → unbroken (guard_text guard) ≡ true
unfolding guard_text
guard_unbroken ps None h = refl
guard_unbroken [] (Some c) h = absurd h
guard_unbroken (p ∷ ps) (Some c) h = join (codes " when ") (compare_text c) refl (compare_unbroken c h)

statement_unbroken : (s : Raw) → IsStatement s → unbroken (statement_text s) ≡ true
unfolding statement_text
statement_unbroken (statement.Let v x) h = join (codes "let ") (v ++ codes " = " ++ expr_text x) refl (assigned_unbroken (codes " = ") v x refl h.0.named h.1)
statement_unbroken (statement.Read v k) h = join (codes "read ") (v ++ codes " " ++ k) refl (two_unbroken v k h.0.named h.1)
statement_unbroken (statement.Write k x) h = join (codes "write ") (k ++ codes " " ++ expr_text x) refl (assigned_unbroken (codes " ") k x refl h.0 h.1)
statement_unbroken (statement.Snap ps) h = join (codes "snap") (pairs_text ps) refl (pairs_unbroken ps h.1)
statement_unbroken (statement.Txn ps guard ws) h = join (codes "txn") (pairs_text ps ++ guard_text guard ++ codes " :" ++ writes_text ws) refl (around (codes " :") (pairs_text ps ++ guard_text guard) (writes_text ws) refl (join (pairs_text ps) (guard_text guard) (pairs_unbroken ps h.0) (guard_unbroken ps guard h.1)) (writes_unbroken ws h.3))
statement_unbroken (statement.Spawn k) h = join (codes "spawn ") k refl (name_unbroken k h)
statement_unbroken (statement.Wait k) h = join (codes "wait ") k refl (name_unbroken k h)
statement_unbroken (statement.Put k x) h = join (codes "put ") (k ++ codes " " ++ expr_text x) refl (assigned_unbroken (codes " ") k x refl h.0 h.1)
statement_unbroken (statement.Take v k) h = join (codes "take ") (v ++ codes " " ++ k) refl (two_unbroken v k h.0.named h.1)
statement_unbroken (statement.Close k) h = join (codes "close ") k refl (name_unbroken k h)
statement_unbroken statement.Fence h = refl
statement_unbroken (statement.Repeat n) h = join (codes "repeat ") (decimal n) refl (word_unbroken (decimal n) (number_word n h))
statement_unbroken (statement.When c) h = join (codes "when ") (compare_text c) refl (compare_unbroken c h)
statement_unbroken statement.End h = refl
statement_unbroken statement.Exit h = refl

indent_unbroken : (n : ℕ) → unbroken (indent n) ≡ true
unfolding indent
indent_unbroken zero = refl
indent_unbroken (suc n) = join (codes "  ") (indent n) refl (indent_unbroken n)

indent_tokens : (n : ℕ) (text : List ℕ) → tokens (indent n ++ text) ≡ tokens text
unfolding indent tokens
indent_tokens zero text = refl
indent_tokens (suc n) text = indent_tokens n text

-- a line ends at its newline
not_so : (t : Bool) → not t ≡ true → t ≡ false
not_so true h = absurd cc
not_so false h = refl

split_again : (line rest : List ℕ) → unbroken line ≡ true → slice_split is_newline (line ++ (10 ∷ rest)) ≡ line ∷ slice_split is_newline rest
split_again [] rest h = refl
split_again (b ∷ bs) rest h =
    let parts = and_parts (not (is_newline b)) (unbroken bs) h in
    cond-false (is_newline b) _ _ (not_so (is_newline b) parts.0) ∙ ap (onto_first b) (split_again bs rest parts.1)

-- what is read as a statement is no comment
hash_stops : (t : Token) (ts : List Token) → t.word ≡ codes "#" → statement_at (t ∷ ts) ≡ Err t.left
unfolding statement_at keyword
hash_stops t ts e = ap (λ (w : List ℕ). meant t ts (keyword w) >>= λ first. parts_at first.0 first.1 >>= λ parts. end_at parts.1 >>= λ end. Ok parts.0) e

pub is_read : (ts : List Token) (s : Raw) → statement_at ts ≡ Ok s → is_written ts ≡ true
unfolding statement_at
is_read [] s h = absurd cc
is_read (t ∷ ts) s h = go (bytes_eq t.word (codes "#")) refl
  where
    go : (b : Bool) → bytes_eq t.word (codes "#") ≡ b → is_written (t ∷ ts) ≡ true
    go true e = let stops : statement_at (t ∷ ts) ≡ Err t.left = hash_stops t ts ((bytes_eq-Decides t.word (codes "#")).0 e) in absurd cc
    go false e = cond-false (bytes_eq t.word (codes "#")) _ _ e

-- the blocks behind a statement
same_some : (m n : ℕ) → ◌≡◌ {A = Option ℕ} (Some m) (Some n) → m ≡ n
same_some m n e = cc

blocks_same : (n m : ℕ) (s : Raw) → open_behind n s ≡ Some m → blocks_behind n s ≡ m
blocks_same n m (statement.Let v x) h = same_some n m h
blocks_same n m (statement.Read v k) h = same_some n m h
blocks_same n m (statement.Write k x) h = same_some n m h
blocks_same n m (statement.Snap ps) h = same_some n m h
blocks_same n m (statement.Txn ps guard ws) h = same_some n m h
blocks_same n m (statement.Spawn k) h = same_some n m h
blocks_same n m (statement.Wait k) h = same_some n m h
blocks_same n m (statement.Put k x) h = same_some n m h
blocks_same n m (statement.Take v k) h = same_some n m h
blocks_same n m (statement.Close k) h = same_some n m h
blocks_same n m statement.Fence h = same_some n m h
blocks_same n m (statement.Repeat c) h = let e = same_some (suc n) m h in omega arith
blocks_same n m (statement.When c) h = let e = same_some (suc n) m h in omega arith
blocks_same zero m statement.End h = absurd cc
blocks_same (suc n) m statement.End h = let e = same_some n m h in omega arith
blocks_same n m statement.Exit h = same_some n m h

inside_again : (n m : ℕ) (ts : List Token) (s : Raw) → statement_at ts ≡ Ok s → open_behind n s ≡ Some m → inside_at n ts ≡ Ok (s, m)
unfolding inside_at
inside_again n m ts s h e =
    ap (λ (r : Result Raw ℕ). ◌>>=◌ {B = Raw × ℕ} r (λ q. balanced q (place ts) (open_behind n q))) h ∙ ap (balanced s (place ts)) e

-- a line that `end` begins is read as `end` or not at all
end_alone : (t : Token) (ts : List Token) (s : Raw) → t.word ≡ codes "end" → statement_at (t ∷ ts) ≡ Ok s → statement.End ≡ s
unfolding statement_at keyword parts_at
end_alone t ts s e h =
    alone ts (sym (ap (λ (w : List ℕ). meant t ts (keyword w) >>= λ first. parts_at first.0 first.1 >>= λ parts. end_at parts.1 >>= λ end. Ok parts.0) e) ∙ h)
  where
    alone : (us : List Token) → ◌>>=◌ {B = Raw} (end_at us) (λ end. Ok statement.End) ≡ Ok s → statement.End ≡ s
    alone [] g = cc
    alone (u ∷ us) g = absurd cc

-- what is read inside n blocks begins with no `end` too many
none_too_many : (n m : ℕ) (ts : List Token) (s : Raw) → statement_at ts ≡ Ok s → open_behind n s ≡ Some m → is_end_too_many n ts ≡ false
none_too_many (suc n) m ts s h e = later (suc n == 0) refl
  where
    later : (b : Bool) → (suc n == 0) ≡ b → (b && begins (codes "end") ts) ≡ false
    later true d = let q : suc n ≡ 0 = eqb-true (suc n) 0 d in absurd (omega arith)
    later false d = refl
none_too_many zero m [] s h e = refl
none_too_many zero m (t ∷ ts) s h e = go (bytes_eq t.word (codes "end")) refl
  where
    go : (b : Bool) → bytes_eq t.word (codes "end") ≡ b → is_end_too_many zero (t ∷ ts) ≡ false
    go true d =
        let same : statement.End ≡ s = end_alone t ts s ((bytes_eq-Decides t.word (codes "end")).0 d) h in
        let stops : open_behind zero statement.End ≡ Some m = subst (λ (x : Raw). open_behind zero x ≡ Some m) (sym same) e in
        absurd cc
    go false d = d

pub nested_again : (n m : ℕ) (ts : List Token) (s : Raw) → statement_at ts ≡ Ok s → open_behind n s ≡ Some m → nested_at n ts ≡ Ok (s, m)
unfolding nested_at
nested_again n m ts s h e = cond-false (is_end_too_many n ts) (Err (place ts)) (inside_at n ts) (none_too_many n m ts s h e) ∙ inside_again n m ts s h e

pub statements_more : (made n m end : ℕ) (line : List ℕ) (lines : List (List ℕ)) (s : Raw) (ss : List Raw) → nested_at n (tokens line) ≡ Ok (s, m) → statements_of (made + 1) m (column line 0) lines ≡ Ok ss → statements_of made n end (line ∷ lines) ≡ Ok (s ∷ ss)
unfolding statements_of
statements_more made n m end line lines s ss h e =
    ap (λ (r : Result (Raw × ℕ) ℕ). in_line (made + 1) line r >>= λ first. ◌>>=◌ {B = List Raw} (statements_of (made + 1) first.1 (column line 0) lines) (λ more. Ok (first.0 ∷ more))) h
    ∙ ap (λ (r : Result (List Raw) Place). ◌>>=◌ {B = List Raw} r (λ more. Ok (s ∷ more))) e

-- no line is left
no_lines : (made end : ℕ) → statements_of made 0 end (filter is_statement (slice_split is_newline [])) ≡ Ok []
unfolding statements_of tokens
no_lines made end = refl

-- the lines of these statements inside m blocks are read again, wherever they stand
abbrev Again : List Raw → ℕ → Type 0
Again ss m = (made end : ℕ) → statements_of made m end (filter is_statement (slice_split is_newline (lines_text m ss))) ≡ Ok ss

first_line : (n : ℕ) (s : Raw) (ss : List Raw) → IsStatement s → slice_split is_newline (lines_text n (s ∷ ss)) ≡ (indent (blocks_round n s) ++ statement_text s) ∷ slice_split is_newline (lines_text (blocks_behind n s) ss)
unfolding lines_text
first_line n s ss h =
    ap (slice_split is_newline) (append_assoc (indent (blocks_round n s) ++ statement_text s) (codes "\n") (lines_text (blocks_behind n s) ss))
    ∙ split_again (indent (blocks_round n s) ++ statement_text s) (lines_text (blocks_behind n s) ss) (join (indent (blocks_round n s)) (statement_text s) (indent_unbroken (blocks_round n s)) (statement_unbroken s h))

line_again : (n m : ℕ) (s : Raw) (ss : List Raw) → IsStatement s → open_behind n s ≡ Some m → Again ss m → Again (s ∷ ss) n
line_again n m s ss h e more made end =
    let line = indent (blocks_round n s) ++ statement_text s in
    let read : statement_at (tokens line) ≡ Ok s = ap statement_at (indent_tokens (blocks_round n s) (statement_text s)) ∙ statement_again s h in
    ap (λ ls. statements_of made n end (filter is_statement ls)) (first_line n s ss h)
    ∙ ap (statements_of made n end) (cond-true (is_statement line) (line ∷ filter is_statement (slice_split is_newline (lines_text (blocks_behind n s) ss))) (filter is_statement (slice_split is_newline (lines_text (blocks_behind n s) ss))) (is_read (tokens line) s read))
    ∙ statements_more made n m end line (filter is_statement (slice_split is_newline (lines_text (blocks_behind n s) ss))) s ss (nested_again n m (tokens line) s read e)
    (ap (λ (k : ℕ). statements_of (made + 1) m (column line 0) (filter is_statement (slice_split is_newline (lines_text k ss)))) (blocks_same n m s e) ∙ more (made + 1) (column line 0))

goes_again : (n : ℕ) (s : Raw) (ss : List Raw) (o : Option ℕ) → IsStatement s → open_behind n s ≡ o → Goes (AreStatements ss) o → ((m : ℕ) → AreStatements ss m → Again ss m) → Again (s ∷ ss) n
goes_again n s ss None h e g more = absurd g
goes_again n s ss (Some m) h e g more = line_again n m s ss h e (more m g)

none_again : Again [] 0
unfolding lines_text
none_again made end = no_lines made end

lines_again : (ss : List Raw) (n : ℕ) → AreStatements ss n → Again ss n
unfolding AreStatements
lines_again [] zero h = none_again
lines_again [] (suc n) h = absurd h
lines_again (s ∷ ss) n h = goes_again n s ss (open_behind n s) h.0 refl h.1 (lines_again ss)

pub script_again : (script : List Raw) → IsScript script → script_of (text_of script) ≡ Ok script
unfolding script_of
script_again script h = lines_again script 0 h 0 1

-- the same of a text that is the printed one
pub printed_again : (script : List Raw) (text : List ℕ) → text ≡ text_of script → IsScript script → script_of text ≡ Ok script
printed_again script text e h = ap script_of e ∙ script_again script h
