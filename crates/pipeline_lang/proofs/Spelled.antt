-- What is read is a script that some text spells.
use Rattle.std.proofs.Common.{◌≡◌, ℕ, zero, suc, ◌+◌, ◌-◌, ◌*◌, ◌^◌, ◌≤◌, ◌<◌, Bool, true, false, ◌&&◌, nat_lt, nat_le, cond, List, [], ◌∷◌, length, Result, Ok, Err, Option, Some, None, refl, ap, ◌∙◌, sym, arith, subst}
use Rattle.std.specs.Prelude.{codes, option_map}
use Rattle.std.specs.Str.{bytes_eq}
use Rattle.std.proofs.lemmas.Bool.{and_parts, ltb-true, leb-true}
use Rattle.rss_names.specs.Names.{is_name}
use Rattle.pipeline_lang.specs.declared.script.Term.{Term}
use Rattle.pipeline_lang.specs.declared.script.Term.TheVariants.{Number, Variable}
use Rattle.pipeline_lang.specs.declared.script.Expr.{Expr}
use Rattle.pipeline_lang.specs.declared.script.Expr.TheVariants.{One, Plus, Minus}
use Rattle.pipeline_lang.specs.declared.script.Compare.{Compare}
use Rattle.pipeline_lang.specs.declared.script.Compare.TheVariants.{Equal, Less}
use Rattle.pipeline_lang.specs.declared.script.Statement.TheVariants as statement
use Rattle.pipeline_lang.specs.declared.keyword.Keyword.{Keyword}
use Rattle.pipeline_lang.specs.declared.keyword.Keyword.TheVariants as key
use Rattle.pipeline_lang.specs.Tokens.{Token, tokens, place, statement_lines, column}
use Rattle.pipeline_lang.specs.Reading.{◌>>=◌, meant, token_at, word_at, begins, behind, end_at, members_at}
use Rattle.pipeline_lang.specs.Terms.{is_digit, digits, number, number_from, name, own, term, name_at, own_at, number_at, term_at, sum_at, expr_at, comparison_at, compare_at}
use Rattle.pipeline_lang.specs.Statements.{Raw, Pair, Written, keyword, pair_at, written_at, pairs_at, writes_at, let_at, read_at, write_at, snap_at, guard_at, reads_at, txn_at, named_at, put_at, take_at, repeat_at, when_at, parts_at, statement_at}
use Rattle.pipeline_lang.specs.Scripts.{Place, open_behind, balanced, is_end_too_many, inside_at, nested_at, in_line, closed, statements_of, script_of}
use Rattle.pipeline_lang.specs.Spelled.{IsName, IsOwn, IsTerm, IsExpr, IsCompare, IsPair, IsWritten, Each, IsGuard, IsStatement, Goes, AreStatements, IsScript}
use Rattle.pipeline_lang.proofs.Parts.{bind_ok, ok_pair, either}

-- what a token means
meant_is : {A : Type 0} (t : Token) (ts rest : List Token) (o : Option A) (x : A) → meant t ts o ≡ Ok (x, rest) → o ≡ Some x
meant_is t ts rest (Some y) x e = ap (λ (z : _). Some z) (ok_pair y x ts rest e).0
meant_is t ts rest None x e = absurd cc

token_is : {A : Type 0} (meaning : List ℕ → Option A) (P : A → Type 0) → ((word : List ℕ) (x : A) → meaning word ≡ Some x → P x) → (ts : List Token) (x : A) (rest : List Token) → token_at meaning ts ≡ Ok (x, rest) → P x
token_is meaning P means [] x rest e = absurd cc
token_is meaning P means (t ∷ ts) x rest e = means t.word x (meant_is t ts rest (meaning t.word) x e)

pub some_same : {A : Type 0} (x y : A) → ◌≡◌ {A = Option A} (Some x) (Some y) → x ≡ y
some_same x y e = cc

name_means : (word x : List ℕ) → name word ≡ Some x → IsName x
name_means word x e = go (is_name word) refl e
  where
    go : (t : Bool) → is_name word ≡ t → cond t (Some word) None ≡ Some x → IsName x
    go true h e = subst (λ (w : List ℕ). IsName w) (some_same word x e) h
    go false h e = absurd cc

pub name_same : (word x : List ℕ) → name word ≡ Some x → word ≡ x
name_same word x e = go (is_name word) refl e
  where
    go : (t : Bool) → is_name word ≡ t → cond t (Some word) None ≡ Some x → word ≡ x
    go true h e = some_same word x e
    go false h e = absurd cc

own_means : (word x : List ℕ) → own word ≡ Some x → IsOwn x
own_means word x e = go (bytes_eq word (codes "status")) refl e
  where
    go : (t : Bool) → bytes_eq word (codes "status") ≡ t → cond t None (name word) ≡ Some x → IsOwn x
    go true h e = absurd cc
    go false h e = record { named = name_means word x e; other = subst (λ (w : List ℕ). bytes_eq w (codes "status") ≡ false) (name_same word x e) h }

-- the digits of a number keep it below 2^64
digits_below : (n m : ℕ) (bs : List ℕ) → n < 2 ^ 64 → digits n bs ≡ Some m → m < 2 ^ 64
unfolding digits
digits_below n m [] h e = let s = some_same n m e in omega arith
digits_below n m (b ∷ bs) h e = go (is_digit b && nat_lt (10 * n + (b - 48)) (2 ^ 64)) refl (digits_below (10 * n + (b - 48)) m bs) e
  where
    go : (t : Bool) → (is_digit b && nat_lt (10 * n + (b - 48)) (2 ^ 64)) ≡ t → (10 * n + (b - 48) < 2 ^ 64 → digits (10 * n + (b - 48)) bs ≡ Some m → m < 2 ^ 64) → cond t (digits (10 * n + (b - 48)) bs) None ≡ Some m → m < 2 ^ 64
    go true h more e = more (ltb-true _ _ (and_parts (is_digit b) (nat_lt (10 * n + (b - 48)) (2 ^ 64)) h).1) e
    go false h more e = absurd cc

number_from_below : (n m : ℕ) (bs : List ℕ) → n ≤ 9 → number_from n bs ≡ Some m → m < 2 ^ 64
number_from_below zero m [] h e = let s = some_same 0 m e in omega arith
number_from_below zero m (b ∷ bs) h e = absurd cc
number_from_below (suc n) m bs h e = digits_below (suc n) m bs (omega arith) e

number_means : (word : List ℕ) (n : ℕ) → number word ≡ Some n → n < 2 ^ 64
unfolding number
number_means [] n e = absurd cc
number_means (b ∷ bs) n e = go (is_digit b) refl e
  where
    go : (t : Bool) → is_digit b ≡ t → cond t (number_from (b - 48) bs) None ≡ Some n → n < 2 ^ 64
    go true h e = number_from_below (b - 48) n bs (omega (arith, leb-true _ _ (and_parts (nat_le 48 b) (nat_le b 57) h).1)) e
    go false h e = absurd cc

number_term : (o : Option ℕ) (t : Term (List ℕ)) → ((n : ℕ) → o ≡ Some n → n < 2 ^ 64) → option_map Number o ≡ Some t → IsTerm t
number_term (Some n) t below e = subst IsTerm (some_same (Number n) t e) (below n refl)
number_term None t below e = absurd cc

term_means : (word : List ℕ) (t : Term (List ℕ)) → term word ≡ Some t → IsTerm t
term_means word t e = go (is_name word) refl e
  where
    go : (b : Bool) → is_name word ≡ b → cond b (Some (Variable word)) (option_map Number (number word)) ≡ Some t → IsTerm t
    go true h e = subst IsTerm (some_same (Variable word) t e) h
    go false h e = number_term (number word) t (number_means word) e

name_read : (ts : List Token) (x : List ℕ) (rest : List Token) → name_at ts ≡ Ok (x, rest) → IsName x
name_read = token_is name IsName name_means

own_read : (ts : List Token) (x : List ℕ) (rest : List Token) → own_at ts ≡ Ok (x, rest) → IsOwn x
own_read = token_is own IsOwn own_means

number_read : (ts : List Token) (n : ℕ) (rest : List Token) → number_at ts ≡ Ok (n, rest) → n < 2 ^ 64
number_read = token_is number (λ (n : ℕ). n < 2 ^ 64) number_means

term_read : (ts : List Token) (t : Term (List ℕ)) (rest : List Token) → term_at ts ≡ Ok (t, rest) → IsTerm t
term_read = token_is term IsTerm term_means

-- the last part of what is made
made : {A B : Type 0} (r : Result (A × List Token) ℕ) (make : A → B) (Q : B → Type 0) → ((x : A) (rest : List Token) → r ≡ Ok (x, rest) → Q (make x)) → (y : B) (rest : List Token) → ◌>>=◌ {B = B × List Token} r (λ q. Ok (make q.0, q.1)) ≡ Ok (y, rest) → Q y
made {A} {B} r make Q f y rest e =
    let b = bind_ok r (λ (q : A × List Token). Ok (make q.0, q.1)) (y, rest) e in
    subst Q (ok_pair (make b.0.0) y b.0.1 rest b.2).0 (f b.0.0 b.0.1 b.1)

one_read : (first : Term (List ℕ)) (ts : List Token) (x : Expr (List ℕ)) (rest : List Token) → IsTerm first → ◌≡◌ {A = Result (Expr (List ℕ) × List Token) ℕ} (Ok (One first, ts)) (Ok (x, rest)) → IsExpr x
one_read first ts x rest h e = subst IsExpr (ok_pair (One first) x ts rest e).0 h

sum_read : (first : Term (List ℕ)) (ts : List Token) (x : Expr (List ℕ)) (rest : List Token) → IsTerm first → sum_at first ts ≡ Ok (x, rest) → IsExpr x
unfolding sum_at
sum_read first ts x rest h e =
    either (begins (codes "+") ts) _ _ (x, rest) (IsExpr x)
    (made (term_at (behind ts)) (Plus first) IsExpr (λ t r g. (h, term_read (behind ts) t r g)) x rest)
    (either (begins (codes "-") ts) _ _ (x, rest) (IsExpr x)
    (made (term_at (behind ts)) (Minus first) IsExpr (λ t r g. (h, term_read (behind ts) t r g)) x rest)
    (one_read first ts x rest h))
    e

expr_read : (ts : List Token) (x : Expr (List ℕ)) (rest : List Token) → expr_at ts ≡ Ok (x, rest) → IsExpr x
unfolding expr_at
expr_read ts x rest e =
    let a = bind_ok (term_at ts) (λ (first : Term (List ℕ) × List Token). sum_at first.0 first.1) (x, rest) e in
    sum_read a.0.0 a.0.1 x rest (term_read ts a.0.0 a.0.1 a.1) a.2

less_read : (left : Expr (List ℕ)) (ts : List Token) (x : Compare (List ℕ)) (rest : List Token) → IsExpr left → (word_at (codes "<") ts >>= λ more. ◌>>=◌ {B = Compare (List ℕ) × List Token} (expr_at more) (λ right. Ok (Less left right.0, right.1))) ≡ Ok (x, rest) → IsCompare x
less_read left ts x rest h e =
    let a = bind_ok (word_at (codes "<") ts) (λ (more : List Token). ◌>>=◌ {B = Compare (List ℕ) × List Token} (expr_at more) (λ right. Ok (Less left right.0, right.1))) (x, rest) e in
    made (expr_at a.0) (Less left) IsCompare (λ t r g. (h, expr_read a.0 t r g)) x rest a.2

comparison_read : (left : Expr (List ℕ)) (ts : List Token) (x : Compare (List ℕ)) (rest : List Token) → IsExpr left → comparison_at left ts ≡ Ok (x, rest) → IsCompare x
unfolding comparison_at
comparison_read left ts x rest h e =
    either (begins (codes "=") ts) _ _ (x, rest) (IsCompare x)
    (made (expr_at (behind ts)) (Equal left) IsCompare (λ t r g. (h, expr_read (behind ts) t r g)) x rest)
    (less_read left ts x rest h)
    e

compare_read : (ts : List Token) (x : Compare (List ℕ)) (rest : List Token) → compare_at ts ≡ Ok (x, rest) → IsCompare x
unfolding compare_at
compare_read ts x rest e =
    let a = bind_ok (expr_at ts) (λ (left : Expr (List ℕ) × List Token). comparison_at left.0 left.1) (x, rest) e in
    comparison_read a.0.0 a.0.1 x rest (expr_read ts a.0.0 a.0.1 a.1) a.2

-- a variable that is set, and a name
two_read : {B : Type 0} (make : List ℕ → List ℕ → B) (Q : B → Type 0) → ((v k : List ℕ) → IsOwn v → IsName k → Q (make v k)) → (ts : List Token) (y : B) (rest : List Token) → (own_at ts >>= λ variable. ◌>>=◌ {B = B × List Token} (name_at variable.1) (λ named. Ok (make variable.0 named.0, named.1))) ≡ Ok (y, rest) → Q y
two_read {B} make Q f ts y rest e =
    let a = bind_ok (own_at ts) (λ (variable : List ℕ × List Token). ◌>>=◌ {B = B × List Token} (name_at variable.1) (λ named. Ok (make variable.0 named.0, named.1))) (y, rest) e in
    made (name_at a.0.1) (make a.0.0) Q (λ k r g. f a.0.0 k (own_read ts a.0.0 a.0.1 a.1) (name_read a.0.1 k r g)) y rest a.2

-- a name and an expression
valued_read : (make : List ℕ → Expr (List ℕ) → Raw) → ((k : List ℕ) (x : Expr (List ℕ)) → IsName k → IsExpr x → IsStatement (make k x)) → (ts : List Token) (y : Raw) (rest : List Token) → (name_at ts >>= λ named. ◌>>=◌ {B = Raw × List Token} (expr_at named.1) (λ value. Ok (make named.0 value.0, value.1))) ≡ Ok (y, rest) → IsStatement y
valued_read make f ts y rest e =
    let a = bind_ok (name_at ts) (λ (named : List ℕ × List Token). ◌>>=◌ {B = Raw × List Token} (expr_at named.1) (λ value. Ok (make named.0 value.0, value.1))) (y, rest) e in
    made (expr_at a.0.1) (make a.0.0) IsStatement (λ x r g. f a.0.0 x (name_read ts a.0.0 a.0.1 a.1) (expr_read a.0.1 x r g)) y rest a.2

-- a value behind `=`
assigned_read : {B : Type 0} (make : Expr (List ℕ) → B) (Q : B → Type 0) → ((x : Expr (List ℕ)) → IsExpr x → Q (make x)) → (ts : List Token) (y : B) (rest : List Token) → (word_at (codes "=") ts >>= λ more. ◌>>=◌ {B = B × List Token} (expr_at more) (λ value. Ok (make value.0, value.1))) ≡ Ok (y, rest) → Q y
assigned_read {B} make Q f ts y rest e =
    let a = bind_ok (word_at (codes "=") ts) (λ (more : List Token). ◌>>=◌ {B = B × List Token} (expr_at more) (λ value. Ok (make value.0, value.1))) (y, rest) e in
    made (expr_at a.0) make Q (λ x r g. f x (expr_read a.0 x r g)) y rest a.2

let_read : (ts : List Token) (y : Raw) (rest : List Token) → let_at ts ≡ Ok (y, rest) → IsStatement y
unfolding let_at
let_read ts y rest e =
    let a = bind_ok (own_at ts) _ (y, rest) e in
    assigned_read (statement.Let a.0.0) IsStatement (λ x h. (own_read ts a.0.0 a.0.1 a.1, h)) a.0.1 y rest a.2

pair_read : (ts : List Token) (y : Pair) (rest : List Token) → pair_at ts ≡ Ok (y, rest) → IsPair y
unfolding pair_at
pair_read = two_read (λ v k. (v, k)) IsPair (λ v k h g. (h, g))

written_read : (ts : List Token) (y : Written) (rest : List Token) → written_at ts ≡ Ok (y, rest) → IsWritten y
unfolding written_at
written_read ts y rest e =
    let a = bind_ok (name_at ts) _ (y, rest) e in
    assigned_read (λ x. (a.0.0, x)) IsWritten (λ x h. (name_read ts a.0.0 a.0.1 a.1, h)) a.0.1 y rest a.2

-- a list is read with a member at least, and each of its members
abbrev Filled : {A : Type 0} → (A → Type 0) → List A → Type 0
Filled Is xs = (0 < length xs) × Each Is xs

members_read : {A : Type 0} (member : List Token → Result (A × List Token) ℕ) (Is : A → Type 0) → ((ts : List Token) (x : A) (rest : List Token) → member ts ≡ Ok (x, rest) → Is x) → (n : ℕ) (ts : List Token) (xs : List A) (rest : List Token) → members_at member n ts ≡ Ok (xs, rest) → Filled Is xs
unfolding members_at
members_read member Is f zero ts xs rest e = absurd cc
members_read {A} member Is f (suc n) ts xs rest e =
    let a = bind_ok (member ts) _ (xs, rest) e in
    let is = f ts a.0.0 a.0.1 a.1 in
    either (begins (codes ",") a.0.1) _ _ (xs, rest) (Filled Is xs)
    (made (members_at member n (behind a.0.1)) (λ (more : List A). a.0.0 ∷ more) (Filled Is) (λ more r g. (omega arith, (is, (members_read member Is f n (behind a.0.1) more r g).1))) xs rest)
    (λ (g : ◌≡◌ {A = Result (List A × List Token) ℕ} (Ok (a.0.0 ∷ [], a.0.1)) (Ok (xs, rest))). subst (Filled Is) (ok_pair (a.0.0 ∷ []) xs a.0.1 rest g).0 (omega arith, (is, tt)))
    a.2

pairs_read : (ts : List Token) (xs : List Pair) (rest : List Token) → pairs_at ts ≡ Ok (xs, rest) → Filled IsPair xs
pairs_read ts xs rest e = members_read pair_at IsPair pair_read (suc (length ts)) ts xs rest e

writes_read : (ts : List Token) (xs : List Written) (rest : List Token) → writes_at ts ≡ Ok (xs, rest) → Filled IsWritten xs
writes_read ts xs rest e = members_read written_at IsWritten written_read (suc (length ts)) ts xs rest e

-- the pairs of a `txn`, and its guard
abbrev AreReads : List Pair × Option (Compare (List ℕ)) → Type 0
AreReads reads = Each IsPair reads.0 × IsGuard reads.0 reads.1

guard_is : (ps : List Pair) (guard : Option (Compare (List ℕ))) → Filled IsPair ps → ((c : Compare (List ℕ)) → guard ≡ Some c → IsCompare c) → IsGuard ps guard
guard_is ps None h f = tt
guard_is [] (Some c) h f = absurd (omega (arith, h.0))
guard_is (p ∷ ps) (Some c) h f = f c refl

-- what a guard compares
abbrev Compares : Option (Compare (List ℕ)) → Type 0
Compares None = Unit {0}
Compares (Some c) = IsCompare c

compares_is : (guard : Option (Compare (List ℕ))) (c : Compare (List ℕ)) → Compares guard → guard ≡ Some c → IsCompare c
compares_is None c h e = absurd cc
compares_is (Some d) c h e = subst IsCompare (some_same d c e) h

guard_read : (ts : List Token) (guard : Option (Compare (List ℕ))) (rest : List Token) → guard_at ts ≡ Ok (guard, rest) → Compares guard
unfolding guard_at
guard_read ts guard rest e =
    either (begins (codes "when") ts) _ _ (guard, rest) (Compares guard)
    (made (compare_at (behind ts)) (λ (c : Compare (List ℕ)). Some c) Compares (λ c r g. compare_read (behind ts) c r g) guard rest)
    (λ (g : ◌≡◌ {A = Result (Option (Compare (List ℕ)) × List Token) ℕ} (Ok (None, ts)) (Ok (guard, rest))). subst Compares (ok_pair None guard ts rest g).0 tt)
    e

pairs_guard_read : (ts : List Token) (reads : List Pair × Option (Compare (List ℕ))) (rest : List Token) → (pairs_at ts >>= λ pairs. ◌>>=◌ {B = (List Pair × Option (Compare (List ℕ))) × List Token} (guard_at pairs.1) (λ guard. Ok ((pairs.0, guard.0), guard.1))) ≡ Ok (reads, rest) → AreReads reads
pairs_guard_read ts reads rest e =
    let a = bind_ok (pairs_at ts) (λ (pairs : List Pair × List Token). ◌>>=◌ {B = (List Pair × Option (Compare (List ℕ))) × List Token} (guard_at pairs.1) (λ guard. Ok ((pairs.0, guard.0), guard.1))) (reads, rest) e in
    let ps = pairs_read ts a.0.0 a.0.1 a.1 in
    made (guard_at a.0.1) (λ (guard : Option (Compare (List ℕ))). (a.0.0, guard)) AreReads (λ guard r g. (ps.1, guard_is a.0.0 guard ps (λ c h. compares_is guard c (guard_read a.0.1 guard r g) h))) reads rest a.2

reads_read : (ts : List Token) (reads : List Pair × Option (Compare (List ℕ))) (rest : List Token) → reads_at ts ≡ Ok (reads, rest) → AreReads reads
unfolding reads_at
reads_read ts reads rest e =
    either (begins (codes ":") ts) _ _ (reads, rest) (AreReads reads)
    (λ (g : ◌≡◌ {A = Result ((List Pair × Option (Compare (List ℕ))) × List Token) ℕ} (Ok (([], None), ts)) (Ok (reads, rest))). subst AreReads (ok_pair ([], None) reads ts rest g).0 (tt, tt))
    (pairs_guard_read ts reads rest)
    e

txn_read : (ts : List Token) (y : Raw) (rest : List Token) → txn_at ts ≡ Ok (y, rest) → IsStatement y
unfolding txn_at
txn_read ts y rest e =
    let a = bind_ok (reads_at ts) _ (y, rest) e in
    let b = bind_ok (word_at (codes ":") a.0.1) _ (y, rest) a.2 in
    let reads = reads_read ts a.0.0 a.0.1 a.1 in
    made (writes_at b.0) (statement.Txn a.0.0.0 a.0.0.1) IsStatement (λ ws r g. let w = writes_read b.0 ws r g in (reads.0, reads.1, w.0, w.1)) y rest b.2

snap_read : (ts : List Token) (y : Raw) (rest : List Token) → snap_at ts ≡ Ok (y, rest) → IsStatement y
unfolding snap_at
snap_read ts y rest e = made (pairs_at ts) statement.Snap IsStatement (λ ps r g. pairs_read ts ps r g) y rest e

named_read : (make : List ℕ → Raw) → ((k : List ℕ) → IsName k → IsStatement (make k)) → (ts : List Token) (y : Raw) (rest : List Token) → named_at make ts ≡ Ok (y, rest) → IsStatement y
named_read make f ts y rest e = made (name_at ts) make IsStatement (λ k r g. f k (name_read ts k r g)) y rest e

word_read : (s y : Raw) (ts rest : List Token) → IsStatement s → ◌≡◌ {A = Result (Raw × List Token) ℕ} (Ok (s, ts)) (Ok (y, rest)) → IsStatement y
word_read s y ts rest h e = subst IsStatement (ok_pair s y ts rest e).0 h

parts_read : (k : Keyword) (ts : List Token) (y : Raw) (rest : List Token) → parts_at k ts ≡ Ok (y, rest) → IsStatement y
unfolding parts_at read_at write_at put_at take_at repeat_at when_at
parts_read key.Let ts y rest e = let_read ts y rest e
parts_read key.Read ts y rest e = two_read statement.Read IsStatement (λ v k h g. (h, g)) ts y rest e
parts_read key.Write ts y rest e = valued_read statement.Write (λ k x h g. (h, g)) ts y rest e
parts_read key.Snap ts y rest e = snap_read ts y rest e
parts_read key.Txn ts y rest e = txn_read ts y rest e
parts_read key.Spawn ts y rest e = named_read statement.Spawn (λ k h. h) ts y rest e
parts_read key.Wait ts y rest e = named_read statement.Wait (λ k h. h) ts y rest e
parts_read key.Put ts y rest e = valued_read statement.Put (λ k x h g. (h, g)) ts y rest e
parts_read key.Take ts y rest e = two_read statement.Take IsStatement (λ v k h g. (h, g)) ts y rest e
parts_read key.Close ts y rest e = named_read statement.Close (λ k h. h) ts y rest e
parts_read key.Fence ts y rest e = word_read statement.Fence y ts rest tt e
parts_read key.Repeat ts y rest e = made (number_at ts) statement.Repeat IsStatement (λ n r g. number_read ts n r g) y rest e
parts_read key.When ts y rest e = made (compare_at ts) statement.When IsStatement (λ c r g. compare_read ts c r g) y rest e
parts_read key.End ts y rest e = word_read statement.End y ts rest tt e
parts_read key.Exit ts y rest e = word_read statement.Exit y ts rest tt e

ok_same : (x y : Raw) → ◌≡◌ {A = Result Raw ℕ} (Ok x) (Ok y) → x ≡ y
ok_same x y e = cc

statement_read : (ts : List Token) (s : Raw) → statement_at ts ≡ Ok s → IsStatement s
unfolding statement_at
statement_read ts s e =
    let a = bind_ok (token_at keyword ts) _ s e in
    let b = bind_ok (parts_at a.0.0 a.0.1) _ s a.2 in
    let c = bind_ok (end_at b.0.1) (λ (end : List Token). Ok b.0.0) s b.2 in
    subst IsStatement (ok_same b.0.0 s c.2) (parts_read a.0.0 a.0.1 b.0.0 b.0.1 b.1)

-- the statement of a line, and the blocks behind it
balanced_read : (n : ℕ) (x s : Raw) (first m : ℕ) (o : Option ℕ) → open_behind n x ≡ o → balanced x first o ≡ Ok (s, m) → (x ≡ s) × (open_behind n x ≡ Some m)
balanced_read n x s first m (Some k) h e = let p = ok_pair {A = Raw} {B = ℕ} x s k m e in (p.0, h ∙ ap (λ (j : ℕ). Some j) p.1)
balanced_read n x s first m None h e = absurd cc

pub record Nested (n m : ℕ) (s : Raw) : Type 0 where
  pub is : IsStatement s
  pub behind : open_behind n s ≡ Some m

-- what is read is no `end` too many
pub nested_inside : (n m : ℕ) (ts : List Token) (s : Raw) → nested_at n ts ≡ Ok (s, m) → inside_at n ts ≡ Ok (s, m)
unfolding nested_at
nested_inside n m ts s e = go (is_end_too_many n ts) e
  where
    go : (b : Bool) → cond b (Err (place ts)) (inside_at n ts) ≡ Ok (s, m) → inside_at n ts ≡ Ok (s, m)
    go true e = absurd cc
    go false e = e

nested_read : (n m : ℕ) (ts : List Token) (s : Raw) → inside_at n ts ≡ Ok (s, m) → Nested n m s
unfolding inside_at
nested_read n m ts s e =
    let a = bind_ok (statement_at ts) (λ (x : Raw). balanced x (place ts) (open_behind n x)) (s, m) e in
    let b = balanced_read n a.0 s (place ts) m (open_behind n a.0) refl a.2 in
    record { is = subst IsStatement b.0 (statement_read ts a.0 a.1); behind = subst (λ (x : Raw). open_behind n x ≡ Some m) b.0 b.1 }

pub in_line_read : (number m : ℕ) (line : List ℕ) (s : Raw) (r : Result (Raw × ℕ) ℕ) → in_line number line r ≡ Ok (s, m) → r ≡ Ok (s, m)
in_line_read number m line s (Ok x) e = cc
in_line_read number m line s (Err left) e = absurd cc

goes_on : (ss : List Raw) (m : ℕ) (o : Option ℕ) → o ≡ Some m → AreStatements ss m → Goes (AreStatements ss) o
goes_on ss m (Some k) e h = let p : k ≡ m = some_same k m e in subst (AreStatements ss) (sym p) h
goes_on ss m None e h = absurd cc

pub scripts_same : (x y : List Raw) → ◌≡◌ {A = Result (List Raw) Place} (Ok x) (Ok y) → x ≡ y
scripts_same x y e = cc

closed_read : (made n end : ℕ) (ss : List Raw) → closed made n end ≡ Ok ss → AreStatements ss n
unfolding AreStatements
closed_read made zero end ss e = go ss (scripts_same [] ss e)
  where
    go : (ss : List Raw) → [] ≡ ss → AreStatements ss zero
    go [] e = tt
    go (s ∷ ss) e = absurd cc
closed_read made (suc n) end ss e = absurd cc

statements_read : (made n end : ℕ) (lines : List (List ℕ)) (ss : List Raw) → statements_of made n end lines ≡ Ok ss → AreStatements ss n
unfolding statements_of AreStatements
statements_read made n end [] ss e = closed_read made n end ss e
statements_read made n end (line ∷ lines) ss e =
    let a = bind_ok (in_line (made + 1) line (nested_at n (tokens line))) _ ss e in
    let b = bind_ok (statements_of (made + 1) a.0.1 (column line 0) lines) (λ (more : List Raw). Ok (a.0.0 ∷ more)) ss a.2 in
    let h = nested_read n a.0.1 (tokens line) a.0.0 (nested_inside n a.0.1 (tokens line) a.0.0 (in_line_read (made + 1) a.0.1 line a.0.0 (nested_at n (tokens line)) a.1)) in
    let more = statements_read (made + 1) a.0.1 (column line 0) lines b.0 b.1 in
    subst (λ (l : List Raw). AreStatements l n) (scripts_same (a.0.0 ∷ b.0) ss b.2) (h.is, goes_on b.0 a.0.1 (open_behind n a.0.0) h.behind more)

-- what is read is a script that some text spells
pub script_read : (text : List ℕ) (script : List Raw) → script_of text ≡ Ok script → IsScript script
unfolding script_of
script_read text script e = statements_read 0 0 1 (statement_lines text) script e
