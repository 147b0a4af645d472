-- Lines with the words of the grammar are read as the script.
use Rattle.std.proofs.Common.{◌≡◌, ℕ, zero, suc, ◌+◌, ◌^◌, ◌≤◌, ◌<◌, Bool, true, false, cond, List, [], ◌∷◌, ◌++◌, length, length-append, Result, Ok, Option, Some, None, refl, ap, ◌∙◌, sym, arith, append_assoc}
use Rattle.std.specs.Prelude.{codes, option_map}
use Rattle.std.specs.Fmt.{decimal}
use Rattle.std.specs.Str.{bytes_eq}
use Rattle.std.proofs.lemmas.List.{append-nil}
use Rattle.std.proofs.lemmas.Bool.{cond-true, cond-false}
use Rattle.std.proofs.lemmas.Slice.Eq.{bytes_eq-Decides}
use Rattle.rss_names.specs.Names.{is_name}
use Rattle.pipeline_lang.specs.declared.script.Term.{Term}
use Rattle.pipeline_lang.specs.declared.script.Term.TheVariants.{Number, Variable}
use Rattle.pipeline_lang.specs.declared.script.Expr.{Expr}
use Rattle.pipeline_lang.specs.declared.script.Expr.TheVariants.{One, Plus, Minus}
use Rattle.pipeline_lang.specs.declared.script.Compare.{Compare}
use Rattle.pipeline_lang.specs.declared.script.Compare.TheVariants.{Equal, Less}
use Rattle.pipeline_lang.specs.declared.script.Statement.TheVariants as statement
use Rattle.pipeline_lang.specs.declared.keyword.Keyword.{Keyword}
use Rattle.pipeline_lang.specs.declared.keyword.Keyword.TheVariants as key
use Rattle.pipeline_lang.specs.Tokens.{Token, tokens, statement_lines, column}
use Rattle.pipeline_lang.specs.Reading.{◌>>=◌, meant, token_at, word_at, begins, behind, end_at, members_at}
use Rattle.pipeline_lang.specs.Terms.{number, name, own, term, name_at, own_at, number_at, term_at, sum_at, expr_at, comparison_at, compare_at}
use Rattle.pipeline_lang.specs.Statements.{Raw, Pair, Written, keyword, pair_at, written_at, pairs_at, writes_at, let_at, read_at, write_at, snap_at, guard_at, reads_at, txn_at, put_at, take_at, repeat_at, when_at, parts_at, statement_at}
use Rattle.pipeline_lang.specs.Scripts.{open_behind, statements_of, script_of}
use Rattle.pipeline_lang.specs.Spelled.{IsName, IsOwn, IsTerm, IsExpr, IsCompare, IsPair, IsWritten, Each, IsGuard, IsStatement, Goes, AreStatements, IsScript}
use Rattle.pipeline_lang.specs.Grammar.{term_word, expr_words, compare_words, pair_words, written_words, more_words, list_words, guard_words, statement_words, words, LinesSpell}
use Rattle.pipeline_lang.proofs.NumbersAgain.{number_again}
use Rattle.pipeline_lang.proofs.TermsAgain.{number_no_name}
use Rattle.pipeline_lang.proofs.StatementsAgain.{word_no_colon}
use Rattle.pipeline_lang.proofs.WordsAgain.{name_word}
use Rattle.pipeline_lang.proofs.ScriptsAgain.{nested_again, statements_more}

-- what is read, with words left behind it
record After {A : Type 0} (r : Result (A × List Token) ℕ) (x : A) (left : List (List ℕ)) : Type 0 where
  pub rest : List Token
  pub read : r ≡ Ok (x, rest)
  pub words_are : words rest ≡ left

-- the same of a word that was to come
record Behind (r : Result (List Token) ℕ) (left : List (List ℕ)) : Type 0 where
  pub rest : List Token
  pub read : r ≡ Ok rest
  pub words_are : words rest ≡ left

-- one part more
then : {A B : Type 0} (r : Result (A × List Token) ℕ) (f : A × List Token → Result (B × List Token) ℕ) (x : A) (y : B) (left over : List (List ℕ)) → After r x left → ((ts : List Token) → words ts ≡ left → After (f (x, ts)) y over) → After (r >>= f) y over
then r f x y left over a g =
    let b = g a.rest a.words_are in
    record { rest = b.rest; read = ap (λ q. q >>= f) a.read ∙ b.read; words_are = b.words_are }

-- the last part
last : {A B : Type 0} (r : Result (A × List Token) ℕ) (make : A → B) (x : A) (left : List (List ℕ)) → After r x left → After {A = B} (r >>= λ q. Ok (make q.0, q.1)) (make x) left
last {A} {B} r make x left a = record { rest = a.rest; read = ap (λ q. ◌>>=◌ {B = B × List Token} q (λ q. Ok (make q.0, q.1))) a.read; words_are = a.words_are }

-- a word, and one part more
passing : {B : Type 0} (r : Result (List Token) ℕ) (f : List Token → Result (B × List Token) ℕ) (y : B) (left over : List (List ℕ)) → Behind r left → ((ts : List Token) → words ts ≡ left → After (f ts) y over) → After (r >>= f) y over
passing r f y left over a g =
    let b = g a.rest a.words_are in
    record { rest = b.rest; read = ap (λ q. q >>= f) a.read ∙ b.read; words_are = b.words_are }

-- the first of two readings, or the second
taken : {A : Type 0} (b : Bool) (r q : Result (A × List Token) ℕ) (x : A) (left : List (List ℕ)) → b ≡ true → After r x left → After (cond b r q) x left
taken b r q x left h a = record { rest = a.rest; read = cond-true b r q h ∙ a.read; words_are = a.words_are }

passed : {A : Type 0} (b : Bool) (r q : Result (A × List Token) ℕ) (x : A) (left : List (List ℕ)) → b ≡ false → After q x left → After (cond b r q) x left
passed b r q x left h a = record { rest = a.rest; read = cond-false b r q h ∙ a.read; words_are = a.words_are }

head_same : (v w : List ℕ) (vs ws : List (List ℕ)) → ◌≡◌ {A = List (List ℕ)} (v ∷ vs) (w ∷ ws) → (v ≡ w) × (vs ≡ ws)
head_same v w vs ws e = (cc, cc)

token_after : {A : Type 0} (meaning : List ℕ → Option A) (word : List ℕ) (x : A) (ts : List Token) (left : List (List ℕ)) → meaning word ≡ Some x → words ts ≡ word ∷ left → After (token_at meaning ts) x left
token_after meaning word x [] left h e = absurd cc
token_after meaning word x (t ∷ ts) left h e =
    let p = head_same t.word word (words ts) left e in
    record { rest = ts; read = ap (meant t ts) (ap meaning p.0 ∙ h); words_are = p.1 }

word_after : (word : List ℕ) (ts : List Token) (left : List (List ℕ)) → words ts ≡ word ∷ left → Behind (word_at word ts) left
word_after word [] left e = absurd cc
word_after word (t ∷ ts) left e =
    let p = head_same t.word word (words ts) left e in
    record { rest = ts; read = cond-true (bytes_eq t.word word) _ _ ((bytes_eq-Decides t.word word).1 p.0); words_are = p.1 }

-- whether words begin with a word
abbrev starts : List ℕ → List (List ℕ) → Bool
starts word [] = false
starts word (w ∷ ws) = bytes_eq w word

begins_starts : (word : List ℕ) (ts : List Token) → begins word ts ≡ starts word (words ts)
begins_starts word [] = refl
begins_starts word (t ∷ ts) = refl

begins_is : (word : List ℕ) (ts : List Token) (left : List (List ℕ)) (b : Bool) → words ts ≡ left → starts word left ≡ b → begins word ts ≡ b
begins_is word ts left b e h = begins_starts word ts ∙ ap (starts word) e ∙ h

behind_words : (ts : List Token) (word : List ℕ) (left : List (List ℕ)) → words ts ≡ word ∷ left → words (behind ts) ≡ left
behind_words [] word left e = absurd cc
behind_words (t ∷ ts) word left e = (head_same t.word word (words ts) left e).1

name_after : (word : List ℕ) (ts : List Token) (left : List (List ℕ)) → IsName word → words ts ≡ word ∷ left → After (name_at ts) word left
name_after word ts left h e = token_after name word word ts left (cond-true (is_name word) _ _ h) e

own_after : (word : List ℕ) (ts : List Token) (left : List (List ℕ)) → IsOwn word → words ts ≡ word ∷ left → After (own_at ts) word left
own_after word ts left h e = token_after own word word ts left (cond-false (bytes_eq word (codes "status")) _ _ h.other ∙ cond-true (is_name word) _ _ h.named) e

number_after : (n : ℕ) (ts : List Token) (left : List (List ℕ)) → n < 2 ^ 64 → words ts ≡ decimal n ∷ left → After (number_at ts) n left
number_after n ts left h e = token_after number (decimal n) n ts left (number_again n h) e

term_after : (t : Term (List ℕ)) (ts : List Token) (left : List (List ℕ)) → IsTerm t → words ts ≡ term_word t ∷ left → After (term_at ts) t left
term_after (Number n) ts left h e = token_after term (decimal n) (Number n) ts left (cond-false (is_name (decimal n)) _ _ (number_no_name n h) ∙ ap (option_map Number) (number_again n h)) e
term_after (Variable v) ts left h e = token_after term v (Variable v) ts left (cond-true (is_name v) _ _ h) e

-- what may stand behind an expression
pub record NoSign (left : List (List ℕ)) : Type 0 where
  pub plus : starts (codes "+") left ≡ false
  pub minus : starts (codes "-") left ≡ false

-- a sign and a second term
signed_after : (make : Term (List ℕ) → Expr (List ℕ)) (sign : List ℕ) (b : Term (List ℕ)) (ts : List Token) (left : List (List ℕ)) → IsTerm b → words ts ≡ sign ∷ term_word b ∷ left → After {A = Expr (List ℕ)} (term_at (behind ts) >>= λ second. Ok (make second.0, second.1)) (make b) left
signed_after make sign b ts left h e = last (term_at (behind ts)) make b left (term_after b (behind ts) left h (behind_words ts sign (term_word b ∷ left) e))

sum_one : (a : Term (List ℕ)) (ts : List Token) (left : List (List ℕ)) → NoSign left → words ts ≡ left → After (sum_at a ts) (One a) left
unfolding sum_at
sum_one a ts left n e =
    passed (begins (codes "+") ts) _ _ (One a) left (begins_is (codes "+") ts left false e n.plus)
    (passed (begins (codes "-") ts) _ _ (One a) left (begins_is (codes "-") ts left false e n.minus) (record { rest = ts; read = refl; words_are = e }))

sum_plus : (a b : Term (List ℕ)) (ts : List Token) (left : List (List ℕ)) → IsTerm b → words ts ≡ codes "+" ∷ term_word b ∷ left → After (sum_at a ts) (Plus a b) left
unfolding sum_at
sum_plus a b ts left h e =
    taken (begins (codes "+") ts) _ _ (Plus a b) left (begins_is (codes "+") ts (codes "+" ∷ term_word b ∷ left) true e refl) (signed_after (Plus a) (codes "+") b ts left h e)

sum_minus : (a b : Term (List ℕ)) (ts : List Token) (left : List (List ℕ)) → IsTerm b → words ts ≡ codes "-" ∷ term_word b ∷ left → After (sum_at a ts) (Minus a b) left
unfolding sum_at
sum_minus a b ts left h e =
    passed (begins (codes "+") ts) _ _ (Minus a b) left (begins_is (codes "+") ts (codes "-" ∷ term_word b ∷ left) false e refl)
    (taken (begins (codes "-") ts) _ _ (Minus a b) left (begins_is (codes "-") ts (codes "-" ∷ term_word b ∷ left) true e refl) (signed_after (Minus a) (codes "-") b ts left h e))

expr_after : (x : Expr (List ℕ)) (ts : List Token) (left : List (List ℕ)) → IsExpr x → NoSign left → words ts ≡ expr_words x ++ left → After (expr_at ts) x left
unfolding expr_at
expr_after (One a) ts left h n e = then (term_at ts) (λ first. sum_at first.0 first.1) a (One a) left left (term_after a ts left h e) (λ us f. sum_one a us left n f)
expr_after (Plus a b) ts left h n e = then (term_at ts) (λ first. sum_at first.0 first.1) a (Plus a b) (codes "+" ∷ term_word b ∷ left) left (term_after a ts (codes "+" ∷ term_word b ∷ left) h.0 e) (λ us f. sum_plus a b us left h.1 f)
expr_after (Minus a b) ts left h n e = then (term_at ts) (λ first. sum_at first.0 first.1) a (Minus a b) (codes "-" ∷ term_word b ∷ left) left (term_after a ts (codes "-" ∷ term_word b ∷ left) h.0 e) (λ us f. sum_minus a b us left h.1 f)

comparison_equal : (a b : Expr (List ℕ)) (ts : List Token) (left : List (List ℕ)) → IsExpr b → NoSign left → words ts ≡ codes "=" ∷ (expr_words b ++ left) → After (comparison_at a ts) (Equal a b) left
unfolding comparison_at
comparison_equal a b ts left h n e =
    taken (begins (codes "=") ts) _ _ (Equal a b) left (begins_is (codes "=") ts (codes "=" ∷ (expr_words b ++ left)) true e refl)
    (last (expr_at (behind ts)) (Equal a) b left (expr_after b (behind ts) left h n (behind_words ts (codes "=") (expr_words b ++ left) e)))

comparison_less : (a b : Expr (List ℕ)) (ts : List Token) (left : List (List ℕ)) → IsExpr b → NoSign left → words ts ≡ codes "<" ∷ (expr_words b ++ left) → After (comparison_at a ts) (Less a b) left
unfolding comparison_at
comparison_less a b ts left h n e =
    passed (begins (codes "=") ts) _ _ (Less a b) left (begins_is (codes "=") ts (codes "<" ∷ (expr_words b ++ left)) false e refl)
    (passing (word_at (codes "<") ts) (λ rest. expr_at rest >>= λ right. Ok (Less a right.0, right.1)) (Less a b) (expr_words b ++ left) left (word_after (codes "<") ts (expr_words b ++ left) e)
    (λ us f. last (expr_at us) (Less a) b left (expr_after b us left h n f)))

compare_after : (x : Compare (List ℕ)) (ts : List Token) (left : List (List ℕ)) → IsCompare x → NoSign left → words ts ≡ compare_words x ++ left → After (compare_at ts) x left
unfolding compare_at
compare_after (Equal a b) ts left h n e =
    then (expr_at ts) (λ first. comparison_at first.0 first.1) a (Equal a b) (codes "=" ∷ (expr_words b ++ left)) left (expr_after a ts (codes "=" ∷ (expr_words b ++ left)) h.0 (record { plus = refl; minus = refl }) (e ∙ append_assoc (expr_words a) (codes "=" ∷ expr_words b) left)) (λ us f. comparison_equal a b us left h.1 n f)
compare_after (Less a b) ts left h n e =
    then (expr_at ts) (λ first. comparison_at first.0 first.1) a (Less a b) (codes "<" ∷ (expr_words b ++ left)) left (expr_after a ts (codes "<" ∷ (expr_words b ++ left)) h.0 (record { plus = refl; minus = refl }) (e ∙ append_assoc (expr_words a) (codes "<" ∷ expr_words b) left)) (λ us f. comparison_less a b us left h.1 n f)

-- a variable and a name
two_after : {B : Type 0} (make : List ℕ → List ℕ → B) (v k : List ℕ) (ts : List Token) (left : List (List ℕ)) → IsOwn v → IsName k → words ts ≡ v ∷ k ∷ left → After {A = B} (own_at ts >>= λ variable. name_at variable.1 >>= λ named. Ok (make variable.0 named.0, named.1)) (make v k) left
two_after {B} make v k ts left h g e =
    then (own_at ts) (λ variable. ◌>>=◌ {B = B × List Token} (name_at variable.1) (λ named. Ok (make variable.0 named.0, named.1))) v (make v k) (k ∷ left) left (own_after v ts (k ∷ left) h e) (λ us f. last (name_at us) (make v) k left (name_after k us left g f))

-- a name and an expression
valued_after : (make : List ℕ → Expr (List ℕ) → Raw) (k : List ℕ) (x : Expr (List ℕ)) (ts : List Token) (left : List (List ℕ)) → IsName k → IsExpr x → NoSign left → words ts ≡ k ∷ (expr_words x ++ left) → After {A = Raw} (name_at ts >>= λ named. expr_at named.1 >>= λ value. Ok (make named.0 value.0, value.1)) (make k x) left
valued_after make k x ts left h g n e =
    then (name_at ts) (λ named. ◌>>=◌ {B = Raw × List Token} (expr_at named.1) (λ value. Ok (make named.0 value.0, value.1))) k (make k x) (expr_words x ++ left) left (name_after k ts (expr_words x ++ left) h e) (λ us f. last (expr_at us) (make k) x left (expr_after x us left g n f))

-- `= EXPR`
assigned_after : {B : Type 0} (make : Expr (List ℕ) → B) (x : Expr (List ℕ)) (ts : List Token) (left : List (List ℕ)) → IsExpr x → NoSign left → words ts ≡ codes "=" ∷ (expr_words x ++ left) → After {A = B} (word_at (codes "=") ts >>= λ rest. expr_at rest >>= λ value. Ok (make value.0, value.1)) (make x) left
assigned_after {B} make x ts left h n e =
    passing (word_at (codes "=") ts) (λ rest. ◌>>=◌ {B = B × List Token} (expr_at rest) (λ value. Ok (make value.0, value.1))) (make x) (expr_words x ++ left) left (word_after (codes "=") ts (expr_words x ++ left) e) (λ us f. last (expr_at us) make x left (expr_after x us left h n f))

let_after : (v : List ℕ) (x : Expr (List ℕ)) (ts : List Token) (left : List (List ℕ)) → IsOwn v → IsExpr x → NoSign left → words ts ≡ v ∷ codes "=" ∷ (expr_words x ++ left) → After (let_at ts) (statement.Let v x) left
unfolding let_at
let_after v x ts left h g n e = then (own_at ts) _ v (statement.Let v x) (codes "=" ∷ (expr_words x ++ left)) left (own_after v ts (codes "=" ∷ (expr_words x ++ left)) h e) (λ us f. assigned_after (statement.Let v) x us left g n f)

pair_after : (p : Pair) (ts : List Token) (left : List (List ℕ)) → IsPair p → words ts ≡ pair_words p ++ left → After (pair_at ts) p left
unfolding pair_at
pair_after p ts left h e = two_after (λ v k. (v, k)) p.0 p.1 ts left h.0 h.1 e

written_after : (w : Written) (ts : List Token) (left : List (List ℕ)) → IsWritten w → NoSign left → words ts ≡ written_words w ++ left → After (written_at ts) w left
unfolding written_at
written_after w ts left h n e = then (name_at ts) _ w.0 w (codes "=" ∷ (expr_words w.1 ++ left)) left (name_after w.0 ts (codes "=" ∷ (expr_words w.1 ++ left)) h.0 e) (λ us f. assigned_after {B = Written} (λ x. (w.0, x)) w.1 us left h.1 n f)

-- members of a list
members_after : {A : Type 0} (member : List Token → Result (A × List Token) ℕ) (Is : A → Type 0) (spell : A → List (List ℕ)) → ((x : A) (ts : List Token) (left : List (List ℕ)) → Is x → NoSign left → words ts ≡ spell x ++ left → After (member ts) x left) → (n : ℕ) (x : A) (xs : List A) (ts : List Token) (left : List (List ℕ)) → Is x → Each Is xs → NoSign left → starts (codes ",") left ≡ false → length xs < n → words ts ≡ (spell x ++ more_words spell xs) ++ left → After (members_at member n ts) (x ∷ xs) left
unfolding members_at
members_after member Is spell f zero x xs ts left h hs n c s e = absurd (omega arith)
members_after member Is spell f (suc m) x [] ts left h hs n c s e =
    then (member ts) _ x (x ∷ []) left left (f x ts left h n (e ∙ append_assoc (spell x) [] left))
    (λ us g. passed (begins (codes ",") us) _ _ (x ∷ []) left (begins_is (codes ",") us left false g c) (record { rest = us; read = refl; words_are = g }))
members_after {A} member Is spell f (suc m) x (y ∷ ys) ts left h hs n c s e =
    then (member ts) _ x (x ∷ y ∷ ys) (codes "," ∷ ((spell y ++ more_words spell ys) ++ left)) left (f x ts (codes "," ∷ ((spell y ++ more_words spell ys) ++ left)) h (record { plus = refl; minus = refl }) (e ∙ append_assoc (spell x) (codes "," ∷ (spell y ++ more_words spell ys)) left))
    (λ us g. taken (begins (codes ",") us) _ _ (x ∷ y ∷ ys) left (begins_is (codes ",") us (codes "," ∷ ((spell y ++ more_words spell ys) ++ left)) true g refl)
    (last (members_at member m (behind us)) (λ (more : List A). x ∷ more) (y ∷ ys) left (members_after member Is spell f m y ys (behind us) left hs.0 hs.1 n c (omega arith) (behind_words us (codes ",") ((spell y ++ more_words spell ys) ++ left) g))))

words_length : (ts : List Token) → length (words ts) ≡ length ts
words_length [] = refl
words_length (t ∷ ts) = let h = words_length ts in omega arith

-- a list has no more members than tokens
more_length : {A : Type 0} (spell : A → List (List ℕ)) (xs : List A) → length xs ≤ length (more_words spell xs)
more_length spell [] = omega arith
more_length spell (x ∷ xs) = let h = more_length spell xs in omega (arith, length-append (spell x) (more_words spell xs))

members_fit : {A : Type 0} (spell : A → List (List ℕ)) (x : A) (xs : List A) (ts : List Token) (left : List (List ℕ)) → words ts ≡ (spell x ++ more_words spell xs) ++ left → length xs < suc (length ts)
members_fit spell x xs ts left e =
    omega (arith, words_length ts, ap (λ (l : List (List ℕ)). length l) e, length-append (spell x ++ more_words spell xs) left, length-append (spell x) (more_words spell xs), more_length spell xs)

pairs_after : (p : Pair) (ps : List Pair) (ts : List Token) (left : List (List ℕ)) → IsPair p → Each IsPair ps → NoSign left → starts (codes ",") left ≡ false → words ts ≡ list_words pair_words (p ∷ ps) ++ left → After (pairs_at ts) (p ∷ ps) left
pairs_after p ps ts left h hs n c e = members_after pair_at IsPair pair_words (λ x us l i s f. pair_after x us l i f) (suc (length ts)) p ps ts left h hs n c (members_fit pair_words p ps ts left e) e

writes_after : (w : Written) (ws : List Written) (ts : List Token) (left : List (List ℕ)) → IsWritten w → Each IsWritten ws → NoSign left → starts (codes ",") left ≡ false → words ts ≡ list_words written_words (w ∷ ws) ++ left → After (writes_at ts) (w ∷ ws) left
writes_after w ws ts left h hs n c e = members_after written_at IsWritten written_words written_after (suc (length ts)) w ws ts left h hs n c (members_fit written_words w ws ts left e) e

guard_after : (ps : List Pair) (guard : Option (Compare (List ℕ))) (ts : List Token) (left : List (List ℕ)) → IsGuard ps guard → words ts ≡ guard_words guard ++ (codes ":" ∷ left) → After (guard_at ts) guard (codes ":" ∷ left)
unfolding guard_at
guard_after ps None ts left h e = passed (begins (codes "when") ts) _ _ None (codes ":" ∷ left) (begins_is (codes "when") ts (codes ":" ∷ left) false e refl) (record { rest = ts; read = refl; words_are = e })
guard_after [] (Some c) ts left h e = absurd h
guard_after (p ∷ ps) (Some c) ts left h e =
    taken (begins (codes "when") ts) _ _ (Some c) (codes ":" ∷ left) (begins_is (codes "when") ts (codes "when" ∷ (compare_words c ++ (codes ":" ∷ left))) true e refl)
    (last (compare_at (behind ts)) (λ (c : Compare (List ℕ)). Some c) c (codes ":" ∷ left) (compare_after c (behind ts) (codes ":" ∷ left) h (record { plus = refl; minus = refl }) (behind_words ts (codes "when") (compare_words c ++ (codes ":" ∷ left)) e)))

-- what may stand behind the pairs of a `txn`
behind_pairs : (guard : Option (Compare (List ℕ))) (left : List (List ℕ)) → NoSign (guard_words guard ++ (codes ":" ∷ left)) × (starts (codes ",") (guard_words guard ++ (codes ":" ∷ left)) ≡ false)
behind_pairs None left = (record { plus = refl; minus = refl }, refl)
behind_pairs (Some c) left = (record { plus = refl; minus = refl }, refl)

-- a variable is no `:`
own_no_colon : (v : List ℕ) → IsOwn v → bytes_eq v (codes ":") ≡ false
own_no_colon v h =
    let w = name_word v h.named in
    ap (λ (l : List ℕ). bytes_eq l (codes ":")) w.is ∙ word_no_colon w.first 0 w.more [] w.byte

pairs_guard_after : (p : Pair) (ps : List Pair) (guard : Option (Compare (List ℕ))) (ts : List Token) (left : List (List ℕ)) → Each IsPair (p ∷ ps) → IsGuard (p ∷ ps) guard → words ts ≡ list_words pair_words (p ∷ ps) ++ (guard_words guard ++ (codes ":" ∷ left)) → After {A = List Pair × Option (Compare (List ℕ))} (pairs_at ts >>= λ pairs. guard_at pairs.1 >>= λ guard. Ok ((pairs.0, guard.0), guard.1)) (p ∷ ps, guard) (codes ":" ∷ left)
pairs_guard_after p ps guard ts left h g e =
    let b = behind_pairs guard left in
    then (pairs_at ts) (λ pairs. ◌>>=◌ {B = (List Pair × Option (Compare (List ℕ))) × List Token} (guard_at pairs.1) (λ guard. Ok ((pairs.0, guard.0), guard.1))) (p ∷ ps) (p ∷ ps, guard) (guard_words guard ++ (codes ":" ∷ left)) (codes ":" ∷ left)
    (pairs_after p ps ts (guard_words guard ++ (codes ":" ∷ left)) h.0 h.1 b.0 b.1 e)
    (λ us f. last (guard_at us) (λ (guard : Option (Compare (List ℕ))). (p ∷ ps, guard)) guard (codes ":" ∷ left) (guard_after (p ∷ ps) guard us left g f))

reads_after : (ps : List Pair) (guard : Option (Compare (List ℕ))) (ts : List Token) (left : List (List ℕ)) → Each IsPair ps → IsGuard ps guard → words ts ≡ list_words pair_words ps ++ (guard_words guard ++ (codes ":" ∷ left)) → After (reads_at ts) (ps, guard) (codes ":" ∷ left)
unfolding reads_at
reads_after [] None ts left h g e = taken (begins (codes ":") ts) _ _ ([], None) (codes ":" ∷ left) (begins_is (codes ":") ts (codes ":" ∷ left) true e refl) (record { rest = ts; read = refl; words_are = e })
reads_after [] (Some c) ts left h g e = absurd g
reads_after (p ∷ ps) guard ts left h g e =
    passed (begins (codes ":") ts) _ _ (p ∷ ps, guard) (codes ":" ∷ left) (begins_is (codes ":") ts (list_words pair_words (p ∷ ps) ++ (guard_words guard ++ (codes ":" ∷ left))) false e (own_no_colon p.0 h.0.0)) (pairs_guard_after p ps guard ts left h g e)

txn_after : (ps : List Pair) (guard : Option (Compare (List ℕ))) (ws : List Written) (ts : List Token) → Each IsPair ps → IsGuard ps guard → 0 < length ws → Each IsWritten ws → words ts ≡ list_words pair_words ps ++ (guard_words guard ++ (codes ":" ∷ list_words written_words ws)) → After (txn_at ts) (statement.Txn ps guard ws) []
unfolding txn_at
txn_after ps guard [] ts h g w i e = absurd (omega arith)
txn_after ps guard (x ∷ xs) ts h g w i e =
    then (reads_at ts) _ (ps, guard) (statement.Txn ps guard (x ∷ xs)) (codes ":" ∷ list_words written_words (x ∷ xs)) [] (reads_after ps guard ts (list_words written_words (x ∷ xs)) h g e)
    (λ us f. passing (word_at (codes ":") us) (λ rest. ◌>>=◌ {B = Raw × List Token} (writes_at rest) (λ writes. Ok (statement.Txn ps guard writes.0, writes.1))) (statement.Txn ps guard (x ∷ xs)) (list_words written_words (x ∷ xs)) [] (word_after (codes ":") us (list_words written_words (x ∷ xs)) f)
    (λ vs k. last (writes_at vs) (statement.Txn ps guard) (x ∷ xs) [] (writes_after x xs vs [] i.0 i.1 (record { plus = refl; minus = refl }) refl (k ∙ sym (append-nil (list_words written_words (x ∷ xs)))))))

snap_after : (ps : List Pair) (ts : List Token) → 0 < length ps → Each IsPair ps → words ts ≡ list_words pair_words ps → After (snap_at ts) (statement.Snap ps) []
unfolding snap_at
snap_after [] ts h g e = absurd (omega arith)
snap_after (p ∷ ps) ts h g e = last (pairs_at ts) statement.Snap (p ∷ ps) [] (pairs_after p ps ts [] g.0 g.1 (record { plus = refl; minus = refl }) refl (e ∙ sym (append-nil (list_words pair_words (p ∷ ps)))))

-- nothing stands behind a statement
none : NoSign []
none = record { plus = refl; minus = refl }

nothing : (ts : List Token) → words ts ≡ [] → end_at ts ≡ Ok []
nothing [] e = refl
nothing (t ∷ ts) e = absurd cc

-- the first word of a statement, and its parts
spelled : (k : Keyword) (word : List ℕ) (s : Raw) (ts : List Token) (left : List (List ℕ)) → keyword word ≡ Some k → words ts ≡ word ∷ left → ((us : List Token) → words us ≡ left → After (parts_at k us) s []) → statement_at ts ≡ Ok s
unfolding statement_at
spelled k word s ts left h e f =
    let a = token_after keyword word k ts left h e in
    let b = f a.rest a.words_are in
    ap (λ (r : Result (Keyword × List Token) ℕ). r >>= λ first. parts_at first.0 first.1 >>= λ parts. ◌>>=◌ {B = Raw} (end_at parts.1) (λ end. Ok parts.0)) a.read
    ∙ ap (λ (r : Result (Raw × List Token) ℕ). r >>= λ parts. ◌>>=◌ {B = Raw} (end_at parts.1) (λ end. Ok parts.0)) b.read
    ∙ ap (λ (r : Result (List Token) ℕ). ◌>>=◌ {B = Raw} r (λ end. Ok s)) (nothing b.rest b.words_are)

statement_after : (s : Raw) (ts : List Token) → IsStatement s → words ts ≡ statement_words s → statement_at ts ≡ Ok s
unfolding keyword parts_at read_at write_at put_at take_at repeat_at when_at
statement_after (statement.Let v x) ts h e = spelled key.Let (codes "let") (statement.Let v x) ts (v ∷ codes "=" ∷ expr_words x) refl e (λ us f. let_after v x us [] h.0 h.1 none (f ∙ ap (λ (l : List (List ℕ)). v ∷ codes "=" ∷ l) (sym (append-nil (expr_words x)))))
statement_after (statement.Read v k) ts h e = spelled key.Read (codes "read") (statement.Read v k) ts (v ∷ k ∷ []) refl e (λ us f. two_after statement.Read v k us [] h.0 h.1 f)
statement_after (statement.Write k x) ts h e = spelled key.Write (codes "write") (statement.Write k x) ts (k ∷ expr_words x) refl e (λ us f. valued_after statement.Write k x us [] h.0 h.1 none (f ∙ ap (λ (l : List (List ℕ)). k ∷ l) (sym (append-nil (expr_words x)))))
statement_after (statement.Snap ps) ts h e = spelled key.Snap (codes "snap") (statement.Snap ps) ts (list_words pair_words ps) refl e (λ us f. snap_after ps us h.0 h.1 f)
statement_after (statement.Txn ps guard ws) ts h e = spelled key.Txn (codes "txn") (statement.Txn ps guard ws) ts (list_words pair_words ps ++ (guard_words guard ++ (codes ":" ∷ list_words written_words ws))) refl e (λ us f. txn_after ps guard ws us h.0 h.1 h.2 h.3 f)
statement_after (statement.Spawn k) ts h e = spelled key.Spawn (codes "spawn") (statement.Spawn k) ts (k ∷ []) refl e (λ us f. last (name_at us) statement.Spawn k [] (name_after k us [] h f))
statement_after (statement.Wait k) ts h e = spelled key.Wait (codes "wait") (statement.Wait k) ts (k ∷ []) refl e (λ us f. last (name_at us) statement.Wait k [] (name_after k us [] h f))
statement_after (statement.Put k x) ts h e = spelled key.Put (codes "put") (statement.Put k x) ts (k ∷ expr_words x) refl e (λ us f. valued_after statement.Put k x us [] h.0 h.1 none (f ∙ ap (λ (l : List (List ℕ)). k ∷ l) (sym (append-nil (expr_words x)))))
statement_after (statement.Take v k) ts h e = spelled key.Take (codes "take") (statement.Take v k) ts (v ∷ k ∷ []) refl e (λ us f. two_after statement.Take v k us [] h.0 h.1 f)
statement_after (statement.Close k) ts h e = spelled key.Close (codes "close") (statement.Close k) ts (k ∷ []) refl e (λ us f. last (name_at us) statement.Close k [] (name_after k us [] h f))
statement_after statement.Fence ts h e = spelled key.Fence (codes "fence") statement.Fence ts [] refl e (λ us f. record { rest = us; read = refl; words_are = f })
statement_after (statement.Repeat n) ts h e = spelled key.Repeat (codes "repeat") (statement.Repeat n) ts (decimal n ∷ []) refl e (λ us f. last (number_at us) statement.Repeat n [] (number_after n us [] h f))
statement_after (statement.When c) ts h e = spelled key.When (codes "when") (statement.When c) ts (compare_words c) refl e (λ us f. last (compare_at us) statement.When c [] (compare_after c us [] h none (f ∙ sym (append-nil (compare_words c)))))
statement_after statement.End ts h e = spelled key.End (codes "end") statement.End ts [] refl e (λ us f. record { rest = us; read = refl; words_are = f })
statement_after statement.Exit ts h e = spelled key.Exit (codes "exit") statement.Exit ts [] refl e (λ us f. record { rest = us; read = refl; words_are = f })

no_lines : (made end : ℕ) → statements_of made 0 end [] ≡ Ok []
unfolding statements_of
no_lines made end = refl

lines_after : (lines : List (List ℕ)) (ss : List Raw) (made n end : ℕ) → LinesSpell lines ss → AreStatements ss n → statements_of made n end lines ≡ Ok ss
unfolding AreStatements
lines_after [] [] made zero end l h = no_lines made end
lines_after [] [] made (suc n) end l h = absurd h
lines_after [] (s ∷ ss) made n end l h = absurd l
lines_after (line ∷ lines) [] made n end l h = absurd l
lines_after (line ∷ lines) (s ∷ ss) made n end l h = goes (open_behind n s) refl h.1 (λ m. lines_after lines ss (made + 1) m (column line 0) l.1)
  where
    goes : (o : Option ℕ) → open_behind n s ≡ o → Goes (AreStatements ss) o → ((m : ℕ) → AreStatements ss m → statements_of (made + 1) m (column line 0) lines ≡ Ok ss) → statements_of made n end (line ∷ lines) ≡ Ok (s ∷ ss)
    goes None e g more = absurd g
    goes (Some m) e g more = statements_more made n m end line lines s ss (nested_again n m (tokens line) s (statement_after s (tokens line) h.0 l.0) e) (more m g)

-- a text that spells a script is read as the script
pub script_after : (text : List ℕ) (script : List Raw) → LinesSpell (statement_lines text) script → IsScript script → script_of text ≡ Ok script
unfolding script_of
script_after text script l h = lines_after (statement_lines text) script 0 0 1 l h
