-- What is read as a statement or a script has the words of the grammar.
use Rattle.std.proofs.Common.{◌≡◌, ℕ, zero, suc, ◌+◌, Bool, true, false, cond, List, [], ◌∷◌, ◌++◌, length, Result, Ok, Option, Some, None, refl, ap, ◌∙◌, sym, subst, append_assoc}
use Rattle.std.specs.Prelude.{codes}
use Rattle.std.specs.Fmt.{decimal}
use Rattle.std.specs.Str.{bytes_eq}
use Rattle.std.proofs.lemmas.List.{append-nil}
use Rattle.std.proofs.lemmas.Slice.Eq.{bytes_eq-Decides}
use Rattle.pipeline_lang.specs.declared.script.Expr.{Expr}
use Rattle.pipeline_lang.specs.declared.script.Compare.{Compare}
use Rattle.pipeline_lang.specs.declared.script.Statement.TheVariants as statement
use Rattle.pipeline_lang.specs.declared.keyword.Keyword.{Keyword}
use Rattle.pipeline_lang.specs.declared.keyword.Keyword.TheVariants as key
use Rattle.pipeline_lang.specs.Tokens.{Token, tokens, place, statement_lines, column}
use Rattle.pipeline_lang.specs.Reading.{◌>>=◌, token_at, word_at, begins, behind, end_at, members_at}
use Rattle.pipeline_lang.specs.Terms.{name_at, own_at, number_at, expr_at, compare_at}
use Rattle.pipeline_lang.specs.Statements.{Raw, Pair, Written, keyword, pair_at, written_at, pairs_at, writes_at, let_at, read_at, write_at, snap_at, guard_at, reads_at, txn_at, named_at, put_at, take_at, repeat_at, when_at, parts_at, statement_at}
use Rattle.pipeline_lang.specs.Scripts.{open_behind, balanced, inside_at, nested_at, in_line, closed, statements_of, script_of}
use Rattle.pipeline_lang.specs.Grammar.{expr_words, compare_words, pair_words, written_words, more_words, list_words, guard_words, statement_words, words, LinesSpell}
use Rattle.pipeline_lang.proofs.Parts.{bind_ok, ok_pair}
use Rattle.pipeline_lang.proofs.Spelled.{some_same, nested_inside, in_line_read, scripts_same}
use Rattle.pipeline_lang.proofs.TermsRead.{made_of, either_of, token_words, name_words, own_words, number_words, word_words, begins_words, read_expr_words, compare_read_words, joined}

-- a variable and a name
two_words : {B : Type 0} (make : List ℕ → List ℕ → B) (spell : B → List (List ℕ)) (head : List (List ℕ)) → ((v k : List ℕ) → spell (make v k) ≡ head ++ (v ∷ k ∷ [])) → (ts : List Token) (y : B) (rest : List Token) → (own_at ts >>= λ variable. ◌>>=◌ {B = B × List Token} (name_at variable.1) (λ named. Ok (make variable.0 named.0, named.1))) ≡ Ok (y, rest) → head ++ words ts ≡ spell y ++ words rest
two_words {B} make spell head f ts y rest e =
    let a = bind_ok (own_at ts) (λ (variable : List ℕ × List Token). ◌>>=◌ {B = B × List Token} (name_at variable.1) (λ named. Ok (make variable.0 named.0, named.1))) (y, rest) e in
    let m = made_of (name_at a.0.1) (make a.0.0) y rest a.2 in
    ap (λ (l : List (List ℕ)). head ++ l) (own_words ts a.0.0 a.0.1 a.1 ∙ ap (λ (l : List (List ℕ)). a.0.0 ∷ l) (name_words a.0.1 m.part rest m.read))
    ∙ sym (append_assoc head (a.0.0 ∷ m.part ∷ []) (words rest))
    ∙ ap (λ (l : List (List ℕ)). l ++ words rest) (sym (f a.0.0 m.part))
    ∙ ap (λ (q : B). spell q ++ words rest) m.is

-- a name and an expression
valued_words : (make : List ℕ → Expr (List ℕ) → Raw) (head : List ℕ) → ((k : List ℕ) (x : Expr (List ℕ)) → statement_words (make k x) ≡ head ∷ k ∷ expr_words x) → (ts : List Token) (y : Raw) (rest : List Token) → (name_at ts >>= λ named. ◌>>=◌ {B = Raw × List Token} (expr_at named.1) (λ value. Ok (make named.0 value.0, value.1))) ≡ Ok (y, rest) → head ∷ words ts ≡ statement_words y ++ words rest
valued_words make head f ts y rest e =
    let a = bind_ok (name_at ts) (λ (named : List ℕ × List Token). ◌>>=◌ {B = Raw × List Token} (expr_at named.1) (λ value. Ok (make named.0 value.0, value.1))) (y, rest) e in
    let m = made_of (expr_at a.0.1) (make a.0.0) y rest a.2 in
    ap (λ (l : List (List ℕ)). head ∷ l) (name_words ts a.0.0 a.0.1 a.1 ∙ ap (λ (l : List (List ℕ)). a.0.0 ∷ l) (read_expr_words a.0.1 m.part rest m.read))
    ∙ ap (λ (l : List (List ℕ)). l ++ words rest) (sym (f a.0.0 m.part))
    ∙ ap (λ (q : Raw). statement_words q ++ words rest) m.is

-- `= EXPR`
assigned_words : {B : Type 0} (make : Expr (List ℕ) → B) (spell : B → List (List ℕ)) (head : List (List ℕ)) → ((x : Expr (List ℕ)) → spell (make x) ≡ head ++ (codes "=" ∷ expr_words x)) → (ts : List Token) (y : B) (rest : List Token) → (word_at (codes "=") ts >>= λ more. ◌>>=◌ {B = B × List Token} (expr_at more) (λ value. Ok (make value.0, value.1))) ≡ Ok (y, rest) → head ++ words ts ≡ spell y ++ words rest
assigned_words {B} make spell head f ts y rest e =
    let a = bind_ok (word_at (codes "=") ts) (λ (more : List Token). ◌>>=◌ {B = B × List Token} (expr_at more) (λ value. Ok (make value.0, value.1))) (y, rest) e in
    let m = made_of (expr_at a.0) make y rest a.2 in
    ap (λ (l : List (List ℕ)). head ++ l) (word_words (codes "=") ts a.0 a.1 ∙ ap (λ (l : List (List ℕ)). codes "=" ∷ l) (read_expr_words a.0 m.part rest m.read))
    ∙ sym (append_assoc head (codes "=" ∷ expr_words m.part) (words rest))
    ∙ ap (λ (l : List (List ℕ)). l ++ words rest) (sym (f m.part))
    ∙ ap (λ (q : B). spell q ++ words rest) m.is

let_words : (ts : List Token) (y : Raw) (rest : List Token) → let_at ts ≡ Ok (y, rest) → codes "let" ∷ words ts ≡ statement_words y ++ words rest
unfolding let_at
let_words ts y rest e =
    let a = bind_ok (own_at ts) _ (y, rest) e in
    ap (λ (l : List (List ℕ)). codes "let" ∷ l) (own_words ts a.0.0 a.0.1 a.1)
    ∙ assigned_words (statement.Let a.0.0) statement_words (codes "let" ∷ a.0.0 ∷ []) (λ x. refl) a.0.1 y rest a.2

pair_read_words : (ts : List Token) (y : Pair) (rest : List Token) → pair_at ts ≡ Ok (y, rest) → words ts ≡ pair_words y ++ words rest
unfolding pair_at
pair_read_words ts y rest e = two_words (λ v k. (v, k)) pair_words [] (λ v k. refl) ts y rest e

written_read_words : (ts : List Token) (y : Written) (rest : List Token) → written_at ts ≡ Ok (y, rest) → words ts ≡ written_words y ++ words rest
unfolding written_at
written_read_words ts y rest e =
    let a = bind_ok (name_at ts) _ (y, rest) e in
    name_words ts a.0.0 a.0.1 a.1
    ∙ assigned_words {B = Written} (λ x. (a.0.0, x)) written_words (a.0.0 ∷ []) (λ x. refl) a.0.1 y rest a.2

-- the words of a list, with `,` before it or not
listed_both : {A : Type 0} (member : List Token → Result (A × List Token) ℕ) (spell : A → List (List ℕ)) (ts : List Token) (y : A) (ys xs : List A) (rest : List Token) → words ts ≡ (spell y ++ more_words spell ys) ++ words rest → y ∷ ys ≡ xs → (words ts ≡ list_words spell xs ++ words rest) × (codes "," ∷ words ts ≡ more_words spell xs ++ words rest)
listed_both {A} member spell ts y ys xs rest h e = subst (λ (l : List A). (words ts ≡ list_words spell l ++ words rest) × (codes "," ∷ words ts ≡ more_words spell l ++ words rest)) e (h, ap (λ (l : List (List ℕ)). codes "," ∷ l) h)

-- members of a list, with `,` between
members_words : {A : Type 0} (member : List Token → Result (A × List Token) ℕ) (spell : A → List (List ℕ)) → ((ts : List Token) (x : A) (rest : List Token) → member ts ≡ Ok (x, rest) → words ts ≡ spell x ++ words rest) → (n : ℕ) (ts : List Token) (xs : List A) (rest : List Token) → members_at member n ts ≡ Ok (xs, rest) → (words ts ≡ list_words spell xs ++ words rest) × (codes "," ∷ words ts ≡ more_words spell xs ++ words rest)
unfolding members_at
members_words member spell f zero ts xs rest e = absurd cc
members_words {A} member spell f (suc n) ts xs rest e =
    let a = bind_ok (member ts) _ (xs, rest) e in
    let first = f ts a.0.0 a.0.1 a.1 in
    either_of (begins (codes ",") a.0.1) _ _ (xs, rest) ((words ts ≡ list_words spell xs ++ words rest) × (codes "," ∷ words ts ≡ more_words spell xs ++ words rest))
    (λ b g.
    let m = made_of (members_at member n (behind a.0.1)) (λ (more : List A). a.0.0 ∷ more) xs rest g in
    let deeper = (members_words member spell f n (behind a.0.1) m.part rest m.read).1 in
    listed_both member spell ts a.0.0 m.part xs rest (joined (spell a.0.0) (words a.0.1) (more_words spell m.part) (words rest) (words ts) first (begins_words (codes ",") a.0.1 b ∙ deeper)) m.is)
    (λ (b : begins (codes ",") a.0.1 ≡ false) (g : ◌≡◌ {A = Result (List A × List Token) ℕ} (Ok (a.0.0 ∷ [], a.0.1)) (Ok (xs, rest))).
    let p = ok_pair (a.0.0 ∷ []) xs a.0.1 rest g in
    listed_both member spell ts a.0.0 [] xs rest (joined (spell a.0.0) (words a.0.1) [] (words rest) (words ts) first (ap words p.1)) p.0)
    a.2

pairs_read_words : (ts : List Token) (xs : List Pair) (rest : List Token) → pairs_at ts ≡ Ok (xs, rest) → words ts ≡ list_words pair_words xs ++ words rest
pairs_read_words ts xs rest e = (members_words pair_at pair_words pair_read_words (suc (length ts)) ts xs rest e).0

writes_read_words : (ts : List Token) (xs : List Written) (rest : List Token) → writes_at ts ≡ Ok (xs, rest) → words ts ≡ list_words written_words xs ++ words rest
writes_read_words ts xs rest e = (members_words written_at written_words written_read_words (suc (length ts)) ts xs rest e).0

guard_read_words : (ts : List Token) (guard : Option (Compare (List ℕ))) (rest : List Token) → guard_at ts ≡ Ok (guard, rest) → words ts ≡ guard_words guard ++ words rest
unfolding guard_at
guard_read_words ts guard rest e =
    either_of (begins (codes "when") ts) _ _ (guard, rest) (words ts ≡ guard_words guard ++ words rest)
    (λ b g. let m = made_of (compare_at (behind ts)) (λ (c : Compare (List ℕ)). Some c) guard rest g in
    begins_words (codes "when") ts b ∙ ap (λ (l : List (List ℕ)). codes "when" ∷ l) (compare_read_words (behind ts) m.part rest m.read) ∙ ap (λ (q : Option (Compare (List ℕ))). guard_words q ++ words rest) m.is)
    (λ (b : begins (codes "when") ts ≡ false) (g : ◌≡◌ {A = Result (Option (Compare (List ℕ)) × List Token) ℕ} (Ok (None, ts)) (Ok (guard, rest))).
    let p = ok_pair None guard ts rest g in
    ap words p.1 ∙ ap (λ (q : Option (Compare (List ℕ))). guard_words q ++ words rest) p.0)
    e

-- the words of the pairs of a `txn` and its guard
abbrev reads_words : List Pair × Option (Compare (List ℕ)) → List (List ℕ)
reads_words reads = list_words pair_words reads.0 ++ guard_words reads.1

pairs_guard_words : (ts : List Token) (reads : List Pair × Option (Compare (List ℕ))) (rest : List Token) → (pairs_at ts >>= λ pairs. ◌>>=◌ {B = (List Pair × Option (Compare (List ℕ))) × List Token} (guard_at pairs.1) (λ guard. Ok ((pairs.0, guard.0), guard.1))) ≡ Ok (reads, rest) → words ts ≡ reads_words reads ++ words rest
pairs_guard_words ts reads rest e =
    let a = bind_ok (pairs_at ts) (λ (pairs : List Pair × List Token). ◌>>=◌ {B = (List Pair × Option (Compare (List ℕ))) × List Token} (guard_at pairs.1) (λ guard. Ok ((pairs.0, guard.0), guard.1))) (reads, rest) e in
    let m = made_of (guard_at a.0.1) (λ (guard : Option (Compare (List ℕ))). (a.0.0, guard)) reads rest a.2 in
    joined (list_words pair_words a.0.0) (words a.0.1) (guard_words m.part) (words rest) (words ts) (pairs_read_words ts a.0.0 a.0.1 a.1) (guard_read_words a.0.1 m.part rest m.read)
    ∙ ap (λ (q : List Pair × Option (Compare (List ℕ))). reads_words q ++ words rest) m.is

reads_read_words : (ts : List Token) (reads : List Pair × Option (Compare (List ℕ))) (rest : List Token) → reads_at ts ≡ Ok (reads, rest) → words ts ≡ reads_words reads ++ words rest
unfolding reads_at
reads_read_words ts reads rest e =
    either_of (begins (codes ":") ts) _ _ (reads, rest) (words ts ≡ reads_words reads ++ words rest)
    (λ (b : begins (codes ":") ts ≡ true) (g : ◌≡◌ {A = Result ((List Pair × Option (Compare (List ℕ))) × List Token) ℕ} (Ok (([], None), ts)) (Ok (reads, rest))).
    let p = ok_pair ([], None) reads ts rest g in
    ap words p.1 ∙ ap (λ (q : List Pair × Option (Compare (List ℕ))). reads_words q ++ words rest) p.0)
    (λ b g. pairs_guard_words ts reads rest g)
    e

txn_words : (ts : List Token) (y : Raw) (rest : List Token) → txn_at ts ≡ Ok (y, rest) → codes "txn" ∷ words ts ≡ statement_words y ++ words rest
unfolding txn_at
txn_words ts y rest e =
    let a = bind_ok (reads_at ts) _ (y, rest) e in
    let b = bind_ok (word_at (codes ":") a.0.1) _ (y, rest) a.2 in
    let m = made_of (writes_at b.0) (statement.Txn a.0.0.0 a.0.0.1) y rest b.2 in
    let behind_reads = word_words (codes ":") a.0.1 b.0 b.1 ∙ ap (λ (l : List (List ℕ)). codes ":" ∷ l) (writes_read_words b.0 m.part rest m.read) in
    let all = joined (reads_words a.0.0) (words a.0.1) (codes ":" ∷ list_words written_words m.part) (words rest) (words ts) (reads_read_words ts a.0.0 a.0.1 a.1) behind_reads in
    ap (λ (l : List (List ℕ)). codes "txn" ∷ l) (all ∙ ap (λ (l : List (List ℕ)). l ++ words rest) (append_assoc (list_words pair_words a.0.0.0) (guard_words a.0.0.1) (codes ":" ∷ list_words written_words m.part)))
    ∙ ap (λ (q : Raw). statement_words q ++ words rest) m.is

-- one part, whose words are these
one_words : {A : Type 0} (r : Result (A × List Token) ℕ) (make : A → Raw) (head : List ℕ) (spell : A → List (List ℕ)) (ts : List Token) → ((x : A) → statement_words (make x) ≡ head ∷ spell x) → ((x : A) (rest : List Token) → r ≡ Ok (x, rest) → words ts ≡ spell x ++ words rest) → (y : Raw) (rest : List Token) → ◌>>=◌ {B = Raw × List Token} r (λ q. Ok (make q.0, q.1)) ≡ Ok (y, rest) → head ∷ words ts ≡ statement_words y ++ words rest
one_words r make head spell ts f g y rest e =
    let m = made_of r make y rest e in
    ap (λ (l : List (List ℕ)). head ∷ l) (g m.part rest m.read) ∙ ap (λ (l : List (List ℕ)). l ++ words rest) (sym (f m.part)) ∙ ap (λ (q : Raw). statement_words q ++ words rest) m.is

named_words : (make : List ℕ → Raw) (head : List ℕ) → ((k : List ℕ) → statement_words (make k) ≡ head ∷ k ∷ []) → (ts : List Token) (y : Raw) (rest : List Token) → named_at make ts ≡ Ok (y, rest) → head ∷ words ts ≡ statement_words y ++ words rest
named_words make head f ts y rest e = one_words (name_at ts) make head (λ k. k ∷ []) ts f (λ k r g. name_words ts k r g) y rest e

alone_words : (head : List ℕ) (s y : Raw) (ts rest : List Token) → statement_words s ≡ head ∷ [] → ◌≡◌ {A = Result (Raw × List Token) ℕ} (Ok (s, ts)) (Ok (y, rest)) → head ∷ words ts ≡ statement_words y ++ words rest
alone_words head s y ts rest f e =
    let p = ok_pair s y ts rest e in
    ap (λ (l : List Token). head ∷ words l) p.1 ∙ ap (λ (l : List (List ℕ)). l ++ words rest) (sym f) ∙ ap (λ (q : Raw). statement_words q ++ words rest) p.0

-- the word of a keyword
key_word : Keyword → List ℕ
key_word key.Let = codes "let"
key_word key.Read = codes "read"
key_word key.Write = codes "write"
key_word key.Snap = codes "snap"
key_word key.Txn = codes "txn"
key_word key.Spawn = codes "spawn"
key_word key.Wait = codes "wait"
key_word key.Put = codes "put"
key_word key.Take = codes "take"
key_word key.Close = codes "close"
key_word key.Fence = codes "fence"
key_word key.Repeat = codes "repeat"
key_word key.When = codes "when"
key_word key.End = codes "end"
key_word key.Exit = codes "exit"

parts_words : (k : Keyword) (ts : List Token) (y : Raw) (rest : List Token) → parts_at k ts ≡ Ok (y, rest) → key_word k ∷ words ts ≡ statement_words y ++ words rest
unfolding parts_at read_at write_at put_at take_at repeat_at when_at snap_at key_word
parts_words key.Let ts y rest e = let_words ts y rest e
parts_words key.Read ts y rest e = two_words statement.Read statement_words (codes "read" ∷ []) (λ v k. refl) ts y rest e
parts_words key.Write ts y rest e = valued_words statement.Write (codes "write") (λ k x. refl) ts y rest e
parts_words key.Snap ts y rest e = one_words (pairs_at ts) statement.Snap (codes "snap") (list_words pair_words) ts (λ ps. refl) (λ ps r g. pairs_read_words ts ps r g) y rest e
parts_words key.Txn ts y rest e = txn_words ts y rest e
parts_words key.Spawn ts y rest e = named_words statement.Spawn (codes "spawn") (λ k. refl) ts y rest e
parts_words key.Wait ts y rest e = named_words statement.Wait (codes "wait") (λ k. refl) ts y rest e
parts_words key.Put ts y rest e = valued_words statement.Put (codes "put") (λ k x. refl) ts y rest e
parts_words key.Take ts y rest e = two_words statement.Take statement_words (codes "take" ∷ []) (λ v k. refl) ts y rest e
parts_words key.Close ts y rest e = named_words statement.Close (codes "close") (λ k. refl) ts y rest e
parts_words key.Fence ts y rest e = alone_words (codes "fence") statement.Fence y ts rest refl e
parts_words key.Repeat ts y rest e = one_words (number_at ts) statement.Repeat (codes "repeat") (λ n. decimal n ∷ []) ts (λ n. refl) (λ n r g. number_words ts n r g) y rest e
parts_words key.When ts y rest e = one_words (compare_at ts) statement.When (codes "when") compare_words ts (λ c. refl) (λ c r g. compare_read_words ts c r g) y rest e
parts_words key.End ts y rest e = alone_words (codes "end") statement.End y ts rest refl e
parts_words key.Exit ts y rest e = alone_words (codes "exit") statement.Exit y ts rest refl e

key_step : (w word : List ℕ) (first k : Keyword) (more : Option Keyword) → key_word first ≡ w → (more ≡ Some k → word ≡ key_word k) → cond (bytes_eq word w) (Some first) more ≡ Some k → word ≡ key_word k
key_step w word first k more h f e = go (bytes_eq word w) refl e
  where
    go : (t : Bool) → bytes_eq word w ≡ t → cond t (Some first) more ≡ Some k → word ≡ key_word k
    go true b e = (bytes_eq-Decides word w).0 b ∙ sym h ∙ ap key_word (some_same first k e)
    go false b e = f e

key_same : (word : List ℕ) (k : Keyword) → keyword word ≡ Some k → word ≡ key_word k
unfolding keyword key_word
key_same word k e =
    key_step (codes "let") word key.Let k _ refl (
    key_step (codes "read") word key.Read k _ refl (
    key_step (codes "write") word key.Write k _ refl (
    key_step (codes "snap") word key.Snap k _ refl (
    key_step (codes "txn") word key.Txn k _ refl (
    key_step (codes "spawn") word key.Spawn k _ refl (
    key_step (codes "wait") word key.Wait k _ refl (
    key_step (codes "put") word key.Put k _ refl (
    key_step (codes "take") word key.Take k _ refl (
    key_step (codes "close") word key.Close k _ refl (
    key_step (codes "fence") word key.Fence k _ refl (
    key_step (codes "repeat") word key.Repeat k _ refl (
    key_step (codes "when") word key.When k _ refl (
    key_step (codes "end") word key.End k _ refl (
    key_step (codes "exit") word key.Exit k None refl (λ (n : ◌≡◌ {A = Option Keyword} None (Some k)). absurd cc))))))))))))))) e

end_words : (ts rest : List Token) → end_at ts ≡ Ok rest → words ts ≡ []
end_words [] rest e = refl
end_words (t ∷ ts) rest e = absurd cc

statement_same : (x s : Raw) → ◌≡◌ {A = Result Raw ℕ} (Ok x) (Ok s) → x ≡ s
statement_same x s e = cc

statement_read_words : (ts : List Token) (s : Raw) → statement_at ts ≡ Ok s → words ts ≡ statement_words s
unfolding statement_at
statement_read_words ts s e =
    let a = bind_ok (token_at keyword ts) _ s e in
    let b = bind_ok (parts_at a.0.0 a.0.1) _ s a.2 in
    let c = bind_ok (end_at b.0.1) (λ (end : List Token). Ok b.0.0) s b.2 in
    let m = token_words keyword ts a.0.0 a.0.1 a.1 in
    m.words_are ∙ ap (λ (w : List ℕ). w ∷ words a.0.1) (key_same m.word a.0.0 m.means)
    ∙ parts_words a.0.0 a.0.1 b.0.0 b.0.1 b.1
    ∙ ap (λ (l : List (List ℕ)). statement_words b.0.0 ++ l) (end_words b.0.1 c.0 c.1)
    ∙ append-nil (statement_words b.0.0)
    ∙ ap statement_words (statement_same b.0.0 s c.2)

balanced_same : (x s : Raw) (first m : ℕ) (o : Option ℕ) → balanced x first o ≡ Ok (s, m) → x ≡ s
balanced_same x s first m (Some k) e = (ok_pair {A = Raw} {B = ℕ} x s k m e).0
balanced_same x s first m None e = absurd cc

nested_read_words : (n m : ℕ) (ts : List Token) (s : Raw) → inside_at n ts ≡ Ok (s, m) → words ts ≡ statement_words s
unfolding inside_at
nested_read_words n m ts s e =
    let a = bind_ok (statement_at ts) (λ (x : Raw). balanced x (place ts) (open_behind n x)) (s, m) e in
    statement_read_words ts a.0 a.1 ∙ ap statement_words (balanced_same a.0 s (place ts) m (open_behind n a.0) a.2)

closed_words : (made n end : ℕ) (ss : List Raw) → closed made n end ≡ Ok ss → LinesSpell [] ss
closed_words made zero end [] e = tt
closed_words made zero end (s ∷ ss) e = absurd cc
closed_words made (suc n) end ss e = absurd cc

statements_read_words : (made n end : ℕ) (lines : List (List ℕ)) (ss : List Raw) → statements_of made n end lines ≡ Ok ss → LinesSpell lines ss
unfolding statements_of
statements_read_words made n end [] ss e = closed_words made n end ss e
statements_read_words made n end (line ∷ lines) ss e =
    let a = bind_ok (in_line (made + 1) line (nested_at n (tokens line))) _ ss e in
    let b = bind_ok (statements_of (made + 1) a.0.1 (column line 0) lines) (λ (more : List Raw). Ok (a.0.0 ∷ more)) ss a.2 in
    let h = nested_read_words n a.0.1 (tokens line) a.0.0 (nested_inside n a.0.1 (tokens line) a.0.0 (in_line_read (made + 1) a.0.1 line a.0.0 (nested_at n (tokens line)) a.1)) in
    let more = statements_read_words (made + 1) a.0.1 (column line 0) lines b.0 b.1 in
    subst (λ (l : List Raw). LinesSpell (line ∷ lines) l) (scripts_same (a.0.0 ∷ b.0) ss b.2) (h, more)

-- what is read has the words of the grammar
pub script_read_words : (text : List ℕ) (script : List Raw) → script_of text ≡ Ok script → LinesSpell (statement_lines text) script
unfolding script_of
script_read_words text script e = statements_read_words 0 0 1 (statement_lines text) script e
