-- Printed statements are read again.
use Rattle.std.proofs.Common.{◌≡◌, ℕ, suc, ◌+◌, ◌<◌, ◌^◌, Bool, true, false, List, [], ◌∷◌, ◌++◌, length, Result, Ok, Option, Some, None, refl, ap, ◌∙◌, sym, arith, append_assoc}
use Rattle.std.specs.Prelude.{codes}
use Rattle.std.specs.Fmt.{decimal}
use Rattle.std.specs.Str.{bytes_eq}
use Rattle.std.proofs.lemmas.Bool.{cond-true, cond-false}
use Rattle.std.proofs.lemmas.Slice.Eq.{bytes_eq-Decides}
use Rattle.std.proofs.lemmas.List.{append-nil}
use Rattle.rss_names.specs.Names.{is_name_byte}
use Rattle.pipeline_lang.specs.Tokens.{Token, tokens, goes_on}
use Rattle.pipeline_lang.specs.Reading.{◌>>=◌, meant, word_at, begins, behind, token_at}
use Rattle.pipeline_lang.specs.Terms.{name_at, own_at, number_at, expr_at, compare_at}
use Rattle.pipeline_lang.specs.declared.script.Expr.{Expr}
use Rattle.pipeline_lang.specs.declared.script.Compare.{Compare}
use Rattle.pipeline_lang.specs.declared.script.Statement.TheVariants as statement
use Rattle.pipeline_lang.specs.declared.keyword.Keyword.{Keyword}
use Rattle.pipeline_lang.specs.declared.keyword.Keyword.TheVariants as key
use Rattle.pipeline_lang.specs.Statements.{Raw, Pair, Written, keyword, let_at, read_at, write_at, pairs_at, writes_at, snap_at, guard_at, reads_at, txn_at, named_at, put_at, take_at, repeat_at, when_at, parts_at, statement_at}
use Rattle.pipeline_lang.specs.Spelled.{IsName, IsOwn, IsExpr, IsCompare, IsPair, IsWritten, Each, IsGuard, IsStatement}
use Rattle.pipeline_lang.specs.Printing.{expr_text, compare_text, pair_text, pairs_text, more_pairs_text, writes_text, guard_text, statement_text}
use Rattle.pipeline_lang.proofs.TermsAgain.{bind_to, name_again, own_again, count_again, parts, Ends, expr_again, compare_again}
use Rattle.pipeline_lang.proofs.WordsAgain.{name_word, token_of}
use Rattle.pipeline_lang.proofs.ListsAgain.{assigned_again, spaced_again, pairs_again, writes_again}

-- nothing stands behind a statement
at_end : Ends []
unfolding tokens
at_end = record { stop = refl; plus = refl; minus = refl }

-- a variable and a name
two_again : (make : List ℕ → List ℕ → Raw) (v k : List ℕ) → IsOwn v → IsName k → (own_at (tokens (((v ++ codes " ") ++ k) ++ [])) >>= λ variable. ◌>>=◌ {B = Raw × List Token} (name_at variable.1) (λ named. Ok (make variable.0 named.0, named.1))) ≡ Ok (make v k, tokens [])
two_again make v k h g =
    ap (λ (l : List ℕ). own_at (tokens l) >>= λ variable. ◌>>=◌ {B = Raw × List Token} (name_at variable.1) (λ named. Ok (make variable.0 named.0, named.1))) (parts v (codes " ") k [])
    ∙ bind_to (own_at (tokens (v ++ (codes " " ++ (k ++ []))))) _ (v, tokens (codes " " ++ (k ++ []))) (Ok (make v k, tokens [])) (own_again v (codes " " ++ (k ++ [])) h refl) (spaced_again (make v) k [] g refl)

-- an expression behind a space
value_again : (make : Expr (List ℕ) → Raw) (x : Expr (List ℕ)) → IsExpr x → ◌>>=◌ {B = Raw × List Token} (expr_at (tokens (codes " " ++ (expr_text x ++ [])))) (λ value. Ok (make value.0, value.1)) ≡ Ok (make x, tokens [])
unfolding tokens
value_again make x g = bind_to (expr_at (tokens (expr_text x ++ []))) (λ value. Ok (make value.0, value.1)) (x, tokens []) (Ok (make x, tokens [])) (expr_again x [] g at_end) refl

-- a name and an expression
valued_again : (make : List ℕ → Expr (List ℕ) → Raw) (k : List ℕ) (x : Expr (List ℕ)) → IsName k → IsExpr x → (name_at (tokens (((k ++ codes " ") ++ expr_text x) ++ [])) >>= λ named. ◌>>=◌ {B = Raw × List Token} (expr_at named.1) (λ value. Ok (make named.0 value.0, value.1))) ≡ Ok (make k x, tokens [])
valued_again make k x h g =
    ap (λ (l : List ℕ). name_at (tokens l) >>= λ named. ◌>>=◌ {B = Raw × List Token} (expr_at named.1) (λ value. Ok (make named.0 value.0, value.1))) (parts k (codes " ") (expr_text x) [])
    ∙ bind_to (name_at (tokens (k ++ (codes " " ++ (expr_text x ++ []))))) _ (k, tokens (codes " " ++ (expr_text x ++ []))) (Ok (make k x, tokens [])) (name_again k (codes " " ++ (expr_text x ++ [])) h refl) (value_again (make k) x g)

let_again : (v : List ℕ) (x : Expr (List ℕ)) → IsOwn v → IsExpr x → let_at (tokens (((v ++ codes " = ") ++ expr_text x) ++ [])) ≡ Ok (statement.Let v x, tokens [])
unfolding let_at
let_again v x h g =
    ap (λ (l : List ℕ). own_at (tokens l) >>= λ variable. word_at (codes "=") variable.1 >>= λ ts. ◌>>=◌ {B = Raw × List Token} (expr_at ts) (λ value. Ok (statement.Let variable.0 value.0, value.1))) (parts v (codes " = ") (expr_text x) [])
    ∙ bind_to (own_at (tokens (v ++ (codes " = " ++ (expr_text x ++ []))))) _ (v, tokens (codes " = " ++ (expr_text x ++ []))) (Ok (statement.Let v x, tokens [])) (own_again v (codes " = " ++ (expr_text x ++ [])) h refl) (assigned_again (statement.Let v) x [] g at_end)

named_again : (make : List ℕ → Raw) (k : List ℕ) → IsName k → named_at make (tokens (k ++ [])) ≡ Ok (make k, tokens [])
named_again make k h = bind_to (name_at (tokens (k ++ []))) (λ named. Ok (make named.0, named.1)) (k, tokens []) (Ok (make k, tokens [])) (name_again k [] h refl) refl

repeat_again : (n : ℕ) → n < 2 ^ 64 → repeat_at (tokens (decimal n ++ [])) ≡ Ok (statement.Repeat n, tokens [])
unfolding repeat_at
repeat_again n h = bind_to (number_at (tokens (decimal n ++ []))) (λ count. Ok (statement.Repeat count.0, count.1)) (n, tokens []) (Ok (statement.Repeat n, tokens [])) (count_again n [] h refl) refl

when_again : (c : Compare (List ℕ)) → IsCompare c → when_at (tokens (compare_text c ++ [])) ≡ Ok (statement.When c, tokens [])
unfolding when_at
when_again c h = bind_to (compare_at (tokens (compare_text c ++ []))) (λ test. Ok (statement.When test.0, test.1)) (c, tokens []) (Ok (statement.When c, tokens [])) (compare_again c [] h at_end) refl

no_comma : begins (codes ",") (tokens []) ≡ false
unfolding tokens
no_comma = refl

snap_again : (ps : List Pair) → 0 < length ps → Each IsPair ps → snap_at (tokens (pairs_text ps ++ [])) ≡ Ok (statement.Snap ps, tokens [])
unfolding snap_at
snap_again [] h g = absurd (omega arith)
snap_again (p ∷ ps) h g = bind_to (pairs_at (tokens (pairs_text (p ∷ ps) ++ []))) (λ pairs. Ok (statement.Snap pairs.0, pairs.1)) (p ∷ ps, tokens []) (Ok (statement.Snap (p ∷ ps), tokens [])) (pairs_again p ps [] g.0 g.1 at_end no_comma) refl

-- what stands behind the pairs of a `txn`, and behind its guard
colon_tokens : (text : List ℕ) → Ends (codes " :" ++ text) × (begins (codes ",") (tokens (codes " :" ++ text)) ≡ false) × (begins (codes "when") (tokens (codes " :" ++ text)) ≡ false) × (begins (codes ":") (tokens (codes " :" ++ text)) ≡ true) × (word_at (codes ":") (tokens (codes " :" ++ text)) ≡ Ok (tokens text))
unfolding tokens
colon_tokens text = (record { stop = refl; plus = refl; minus = refl }, refl, refl, refl, refl)

when_tokens : (text : List ℕ) → Ends (codes " when " ++ text) × (begins (codes ",") (tokens (codes " when " ++ text)) ≡ false) × (begins (codes "when") (tokens (codes " when " ++ text)) ≡ true) × (behind (tokens (codes " when " ++ text)) ≡ tokens text)
unfolding tokens
when_tokens text = (record { stop = refl; plus = refl; minus = refl }, refl, refl, refl)

-- the guard of a `txn`, and what stands behind it
guard_again : (ps : List Pair) (guard : Option (Compare (List ℕ))) (text : List ℕ) → IsGuard ps guard → guard_at (tokens (guard_text guard ++ (codes " :" ++ text))) ≡ Ok (guard, tokens (codes " :" ++ text))
unfolding guard_at guard_text
guard_again ps None text h = cond-false (begins (codes "when") (tokens (codes " :" ++ text))) _ _ (colon_tokens text).2
guard_again [] (Some c) text h = absurd h
guard_again (p ∷ ps) (Some c) text h =
    let w = when_tokens (compare_text c ++ (codes " :" ++ text)) in
    cond-true (begins (codes "when") (tokens (codes " when " ++ (compare_text c ++ (codes " :" ++ text))))) _ _ w.2
    ∙ ap (λ (ts : List Token). ◌>>=◌ {B = Option (Compare (List ℕ)) × List Token} (compare_at ts) (λ guard. Ok (Some guard.0, guard.1))) w.3
    ∙ ap (λ (r : Result (Compare (List ℕ) × List Token) ℕ). ◌>>=◌ {B = Option (Compare (List ℕ)) × List Token} r (λ guard. Ok (Some guard.0, guard.1))) (compare_again c (codes " :" ++ text) h (colon_tokens text).0)

-- what may stand behind the pairs
behind_pairs : (ps : List Pair) (guard : Option (Compare (List ℕ))) (text : List ℕ) → Ends (guard_text guard ++ (codes " :" ++ text)) × (begins (codes ",") (tokens (guard_text guard ++ (codes " :" ++ text))) ≡ false)
unfolding guard_text
behind_pairs ps None text = ((colon_tokens text).0, (colon_tokens text).1)
behind_pairs ps (Some c) text = let w = when_tokens (compare_text c ++ (codes " :" ++ text)) in (w.0, w.1)

-- a word is no `:`
pub word_no_colon : (b left : ℕ) (bs : List ℕ) (ts : List Token) → is_name_byte b ≡ true → begins (codes ":") (record { word = b ∷ bs; left = left } ∷ ts) ≡ false
word_no_colon b left bs ts h = not_true (bytes_eq (b ∷ bs) (codes ":")) (λ e. colon_byte b (ap first_byte ((bytes_eq-Decides (b ∷ bs) (codes ":")).0 e)) h)
  where
    first_byte : List ℕ → ℕ
    first_byte [] = 0
    first_byte (c ∷ cs) = c

    colon_byte : (b : ℕ) → b ≡ 58 → is_name_byte b ≡ true → ⊥
    colon_byte b e h = let f : is_name_byte 58 ≡ true = ap is_name_byte (sym e) ∙ h in absurd cc

    not_true : (t : Bool) → (t ≡ true → ⊥) → t ≡ false
    not_true true h = absurd (h refl)
    not_true false h = refl

-- a variable is no `:`
no_colon : (v text : List ℕ) → IsOwn v → goes_on text ≡ false → begins (codes ":") (tokens (v ++ text)) ≡ false
no_colon v text h e =
    let w = name_word v h.named in
    let t = ap (λ (l : List ℕ). tokens (l ++ text)) w.is ∙ token_of w.first w.more text w.byte w.bytes e in
    ap (begins (codes ":")) t ∙ word_no_colon w.first (suc (length (w.more ++ text))) w.more (tokens text) w.byte

pairs_no_colon : (p : Pair) (ps : List Pair) (rest : List ℕ) → IsPair p → Ends rest → begins (codes ":") (tokens (pairs_text (p ∷ ps) ++ rest)) ≡ false
unfolding pairs_text pair_text tokens
pairs_no_colon p ps rest h e =
    let text = codes " " ++ (p.1 ++ (more_pairs_text ps ++ rest)) in
    ap (λ (l : List ℕ). begins (codes ":") (tokens l)) (append_assoc ((p.0 ++ codes " ") ++ p.1) (more_pairs_text ps) rest ∙ parts p.0 (codes " ") p.1 (more_pairs_text ps ++ rest))
    ∙ no_colon p.0 text h.0 refl

reads_again : (ps : List Pair) (guard : Option (Compare (List ℕ))) (text : List ℕ) → Each IsPair ps → IsGuard ps guard → reads_at (tokens (pairs_text ps ++ (guard_text guard ++ (codes " :" ++ text)))) ≡ Ok ((ps, guard), tokens (codes " :" ++ text))
unfolding reads_at pairs_text guard_text
reads_again [] None text h g = cond-true (begins (codes ":") (tokens (codes " :" ++ text))) _ _ (colon_tokens text).3
reads_again [] (Some c) text h g = absurd g
reads_again (p ∷ ps) guard text h g =
    let rest = guard_text guard ++ (codes " :" ++ text) in
    let b = behind_pairs (p ∷ ps) guard text in
    cond-false (begins (codes ":") (tokens (pairs_text (p ∷ ps) ++ rest))) _ _ (pairs_no_colon p ps rest h.0 b.0)
    ∙ bind_to (pairs_at (tokens (pairs_text (p ∷ ps) ++ rest))) _ (p ∷ ps, tokens rest) (Ok ((p ∷ ps, guard), tokens (codes " :" ++ text))) (pairs_again p ps rest h.0 h.1 b.0 b.1)
    (bind_to (guard_at (tokens rest)) (λ guard. Ok ((p ∷ ps, guard.0), guard.1)) (guard, tokens (codes " :" ++ text)) (Ok ((p ∷ ps, guard), tokens (codes " :" ++ text))) (guard_again (p ∷ ps) guard text g) refl)

txn_again : (ps : List Pair) (guard : Option (Compare (List ℕ))) (ws : List Written) → Each IsPair ps → IsGuard ps guard → 0 < length ws → Each IsWritten ws → txn_at (tokens (pairs_text ps ++ (guard_text guard ++ (codes " :" ++ (writes_text ws ++ []))))) ≡ Ok (statement.Txn ps guard ws, tokens [])
unfolding txn_at
txn_again ps guard [] h g w e = absurd (omega arith)
txn_again ps guard (x ∷ xs) h g w e =
    let text = writes_text (x ∷ xs) ++ [] in
    bind_to (reads_at (tokens (pairs_text ps ++ (guard_text guard ++ (codes " :" ++ text))))) _ ((ps, guard), tokens (codes " :" ++ text)) (Ok (statement.Txn ps guard (x ∷ xs), tokens [])) (reads_again ps guard text h g)
    (bind_to (word_at (codes ":") (tokens (codes " :" ++ text))) _ (tokens text) (Ok (statement.Txn ps guard (x ∷ xs), tokens [])) (colon_tokens text).4
    (bind_to (writes_at (tokens text)) (λ writes. Ok (statement.Txn ps guard writes.0, writes.1)) (x ∷ xs, tokens []) (Ok (statement.Txn ps guard (x ∷ xs), tokens [])) (writes_again x xs [] e.0 e.1 at_end no_comma) refl))

-- the parts of a `txn`, one behind another
txn_parts : (a b c : List ℕ) → (((a ++ b) ++ codes " :") ++ c) ++ [] ≡ a ++ (b ++ (codes " :" ++ (c ++ [])))
txn_parts a b c = parts (a ++ b) (codes " :") c [] ∙ append_assoc a b (codes " :" ++ (c ++ []))

-- the first word of a statement, and its parts
whole : (k : Keyword) (left : ℕ) (word : List ℕ) (ts : List Token) (s : Raw) → keyword word ≡ Some k → parts_at k ts ≡ Ok (s, tokens []) → statement_at (record { word = word; left = left } ∷ ts) ≡ Ok s
unfolding statement_at tokens
whole k left word ts s h e =
    bind_to (token_at keyword (record { word = word; left = left } ∷ ts)) _ (k, ts) (Ok s) (ap (meant (record { word = word; left = left }) ts) h)
    (bind_to (parts_at k ts) _ (s, []) (Ok s) e refl)

snap_line : (ps : List Pair) → 0 < length ps → Each IsPair ps → statement_at (tokens ((codes "snap" ++ pairs_text ps) ++ [])) ≡ Ok (statement.Snap ps)
unfolding tokens keyword parts_at pairs_text
snap_line [] h g = absurd (omega arith)
snap_line (p ∷ ps) h g = whole key.Snap _ (codes "snap") (tokens (pairs_text (p ∷ ps) ++ [])) (statement.Snap (p ∷ ps)) refl (snap_again (p ∷ ps) h g)

-- no word goes on in the parts of a `txn`
parts_stop : (ps : List Pair) (guard : Option (Compare (List ℕ))) (text : List ℕ) → goes_on (pairs_text ps ++ (guard_text guard ++ (codes " :" ++ text))) ≡ false
unfolding pairs_text guard_text
parts_stop [] None text = refl
parts_stop [] (Some c) text = refl
parts_stop (p ∷ ps) guard text = refl

-- `txn` is a word of its own
txn_token : (ps : List Pair) (guard : Option (Compare (List ℕ))) (text : List ℕ) → tokens (codes "txn" ++ (pairs_text ps ++ (guard_text guard ++ (codes " :" ++ text)))) ≡ record { word = codes "txn"; left = 3 + length (pairs_text ps ++ (guard_text guard ++ (codes " :" ++ text))) } ∷ tokens (pairs_text ps ++ (guard_text guard ++ (codes " :" ++ text)))
txn_token ps guard text = token_of 116 (codes "xn") (pairs_text ps ++ (guard_text guard ++ (codes " :" ++ text))) refl refl (parts_stop ps guard text) ∙ ap (λ (n : ℕ). record { word = codes "txn"; left = n } ∷ tokens (pairs_text ps ++ (guard_text guard ++ (codes " :" ++ text)))) (omega arith)

txn_line : (ps : List Pair) (guard : Option (Compare (List ℕ))) (ws : List Written) → Each IsPair ps → IsGuard ps guard → 0 < length ws → Each IsWritten ws → statement_at (tokens ((codes "txn" ++ pairs_text ps ++ guard_text guard ++ codes " :" ++ writes_text ws) ++ [])) ≡ Ok (statement.Txn ps guard ws)
unfolding keyword parts_at
txn_line ps guard ws h g w e =
    ap (λ (l : List ℕ). statement_at (tokens (codes "txn" ++ l))) (txn_parts (pairs_text ps) (guard_text guard) (writes_text ws))
    ∙ ap statement_at (txn_token ps guard (writes_text ws ++ []))
    ∙ whole key.Txn _ (codes "txn") (tokens (pairs_text ps ++ (guard_text guard ++ (codes " :" ++ (writes_text ws ++ []))))) (statement.Txn ps guard ws) refl (txn_again ps guard ws h g w e)

line_again : (s : Raw) → IsStatement s → statement_at (tokens (statement_text s ++ [])) ≡ Ok s
unfolding statement_text tokens keyword parts_at read_at write_at put_at take_at
line_again (statement.Let v x) h = whole key.Let _ (codes "let") (tokens (((v ++ codes " = ") ++ expr_text x) ++ [])) (statement.Let v x) refl (let_again v x h.0 h.1)
line_again (statement.Read v k) h = whole key.Read _ (codes "read") (tokens (((v ++ codes " ") ++ k) ++ [])) (statement.Read v k) refl (two_again statement.Read v k h.0 h.1)
line_again (statement.Write k x) h = whole key.Write _ (codes "write") (tokens (((k ++ codes " ") ++ expr_text x) ++ [])) (statement.Write k x) refl (valued_again statement.Write k x h.0 h.1)
line_again (statement.Snap ps) h = snap_line ps h.0 h.1
line_again (statement.Txn ps guard ws) h = txn_line ps guard ws h.0 h.1 h.2 h.3
line_again (statement.Spawn k) h = whole key.Spawn _ (codes "spawn") (tokens (k ++ [])) (statement.Spawn k) refl (named_again statement.Spawn k h)
line_again (statement.Wait k) h = whole key.Wait _ (codes "wait") (tokens (k ++ [])) (statement.Wait k) refl (named_again statement.Wait k h)
line_again (statement.Put k x) h = whole key.Put _ (codes "put") (tokens (((k ++ codes " ") ++ expr_text x) ++ [])) (statement.Put k x) refl (valued_again statement.Put k x h.0 h.1)
line_again (statement.Take v k) h = whole key.Take _ (codes "take") (tokens (((v ++ codes " ") ++ k) ++ [])) (statement.Take v k) refl (two_again statement.Take v k h.0 h.1)
line_again (statement.Close k) h = whole key.Close _ (codes "close") (tokens (k ++ [])) (statement.Close k) refl (named_again statement.Close k h)
line_again statement.Fence h = whole key.Fence _ (codes "fence") [] statement.Fence refl refl
line_again (statement.Repeat n) h = whole key.Repeat _ (codes "repeat") (tokens (decimal n ++ [])) (statement.Repeat n) refl (repeat_again n h)
line_again (statement.When c) h = whole key.When _ (codes "when") (tokens (compare_text c ++ [])) (statement.When c) refl (when_again c h)
line_again statement.End h = whole key.End _ (codes "end") [] statement.End refl refl
line_again statement.Exit h = whole key.Exit _ (codes "exit") [] statement.Exit refl refl

pub statement_again : (s : Raw) → IsStatement s → statement_at (tokens (statement_text s)) ≡ Ok s
statement_again s h = ap (λ (l : List ℕ). statement_at (tokens l)) (sym (append-nil (statement_text s))) ∙ line_again s h
