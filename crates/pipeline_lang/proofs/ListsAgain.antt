-- Printed pairs and writes, and lists of them, are read again.
use Rattle.std.proofs.Common.{◌≡◌, ℕ, zero, suc, ◌<◌, true, false, cond, List, [], ◌∷◌, ◌++◌, length, Result, Ok, refl, ap, ◌∙◌, arith, append_assoc}
use Rattle.std.specs.Prelude.{codes}
use Rattle.std.proofs.lemmas.Bool.{cond-true, cond-false}
use Rattle.pipeline_lang.specs.Tokens.{Token, tokens, goes_on}
use Rattle.pipeline_lang.specs.Reading.{◌>>=◌, word_at, begins, behind, members_at}
use Rattle.pipeline_lang.specs.Terms.{name_at, own_at, expr_at}
use Rattle.pipeline_lang.specs.declared.script.Expr.{Expr}
use Rattle.pipeline_lang.specs.Statements.{Pair, Written, pair_at, written_at, pairs_at, writes_at}
use Rattle.pipeline_lang.specs.Spelled.{IsName, IsExpr, IsPair, IsWritten, Each}
use Rattle.pipeline_lang.specs.Printing.{expr_text, pair_text, written_text, pairs_text, more_pairs_text, writes_text, more_writes_text}
use Rattle.pipeline_lang.proofs.Parts.{pair_short, written_short}
use Rattle.pipeline_lang.proofs.TermsAgain.{bind_to, name_again, own_again, parts, Ends, expr_again}

-- a name behind a space
pub spaced_again : {A : Type 0} (make : List ℕ → A) (k rest : List ℕ) → IsName k → goes_on rest ≡ false → ◌>>=◌ {B = A × List Token} (name_at (tokens (codes " " ++ (k ++ rest)))) (λ named. Ok (make named.0, named.1)) ≡ Ok (make k, tokens rest)
unfolding tokens
spaced_again make k rest h e = bind_to (name_at (tokens (k ++ rest))) (λ named. Ok (make named.0, named.1)) (k, tokens rest) (Ok (make k, tokens rest)) (name_again k rest h e) refl

-- a variable and a name behind it
pub pair_again : (p : Pair) (rest : List ℕ) → IsPair p → goes_on rest ≡ false → pair_at (tokens (pair_text p ++ rest)) ≡ Ok (p, tokens rest)
unfolding pair_at pair_text
pair_again p rest h e =
    ap (λ (l : List ℕ). own_at (tokens l) >>= λ variable. ◌>>=◌ {B = Pair × List Token} (name_at variable.1) (λ read. Ok ((variable.0, read.0), read.1))) (parts p.0 (codes " ") p.1 rest)
    ∙ bind_to (own_at (tokens (p.0 ++ (codes " " ++ (p.1 ++ rest))))) _ (p.0, tokens (codes " " ++ (p.1 ++ rest))) (Ok (p, tokens rest)) (own_again p.0 (codes " " ++ (p.1 ++ rest)) h.0 refl) (spaced_again (λ read. (p.0, read)) p.1 rest h.1 e)

-- `= EXPR` behind a name
pub assigned_again : {A : Type 0} (make : Expr (List ℕ) → A) (x : Expr (List ℕ)) (rest : List ℕ) → IsExpr x → Ends rest → (word_at (codes "=") (tokens (codes " = " ++ (expr_text x ++ rest))) >>= λ ts. ◌>>=◌ {B = A × List Token} (expr_at ts) (λ value. Ok (make value.0, value.1))) ≡ Ok (make x, tokens rest)
unfolding tokens
assigned_again make x rest h e = bind_to (expr_at (tokens (expr_text x ++ rest))) (λ value. Ok (make value.0, value.1)) (x, tokens rest) (Ok (make x, tokens rest)) (expr_again x rest h e) refl

pub written_again : (w : Written) (rest : List ℕ) → IsWritten w → Ends rest → written_at (tokens (written_text w ++ rest)) ≡ Ok (w, tokens rest)
unfolding written_at written_text
written_again w rest h e =
    ap (λ (l : List ℕ). name_at (tokens l) >>= λ written. word_at (codes "=") written.1 >>= λ ts. ◌>>=◌ {B = Written × List Token} (expr_at ts) (λ value. Ok ((written.0, value.0), value.1))) (parts w.0 (codes " = ") (expr_text w.1) rest)
    ∙ bind_to (name_at (tokens (w.0 ++ (codes " = " ++ (expr_text w.1 ++ rest))))) _ (w.0, tokens (codes " = " ++ (expr_text w.1 ++ rest))) (Ok (w, tokens rest)) (name_again w.0 (codes " = " ++ (expr_text w.1 ++ rest)) h.0 refl) (assigned_again (λ value. (w.0, value)) w.1 rest h.1 e)

-- what members of a list are, and how they are printed
pub record Listed {A : Type 0} (member : List Token → Result (A × List Token) ℕ) (Is : A → Type 0) (text : A → List ℕ) (more : List A → List ℕ) : Type 0 where
  pub none : more [] ≡ []
  pub some : (x : A) (xs : List A) → more (x ∷ xs) ≡ codes ", " ++ (text x ++ more xs)
  pub again : (x : A) (rest : List ℕ) → Is x → Ends rest → member (tokens (text x ++ rest)) ≡ Ok (x, tokens rest)
  pub short : (ts : List Token) (x : A) (rest : List Token) → member ts ≡ Ok (x, rest) → length rest < length ts

before_comma : (text : List ℕ) → Ends (codes ", " ++ text)
unfolding tokens
before_comma text = record { stop = refl; plus = refl; minus = refl }

comma_tokens : (text : List ℕ) → (begins (codes ",") (tokens (codes ", " ++ text)) ≡ true) × (behind (tokens (codes ", " ++ text)) ≡ tokens text) × (length (tokens (codes ", " ++ text)) ≡ suc (length (tokens text)))
unfolding tokens
comma_tokens text = (refl, refl, refl)

-- one member and those behind it
member_step : {A : Type 0} (member : List Token → Result (A × List Token) ℕ) (n : ℕ) (ts rest : List Token) (x : A) → member ts ≡ Ok (x, rest) → members_at member (suc n) ts ≡ cond (begins (codes ",") rest) (members_at member n (behind rest) >>= λ more. Ok (x ∷ more.0, more.1)) (Ok (x ∷ [], rest))
unfolding members_at
member_step {A} member n ts rest x e = ap (λ (r : Result (A × List Token) ℕ). ◌>>=◌ {B = List A × List Token} r (λ first. cond (begins (codes ",") first.1) (members_at member n (behind first.1) >>= λ more. Ok (first.0 ∷ more.0, more.1)) (Ok (first.0 ∷ [], first.1)))) e

pub members_again : {A : Type 0} (member : List Token → Result (A × List Token) ℕ) (Is : A → Type 0) (text : A → List ℕ) (more : List A → List ℕ) (n : ℕ) (x : A) (xs : List A) (rest : List ℕ) → Listed member Is text more → Is x → Each Is xs → Ends rest → begins (codes ",") (tokens rest) ≡ false → length xs < n → members_at member n (tokens (text x ++ (more xs ++ rest))) ≡ Ok (x ∷ xs, tokens rest)
members_again member Is text more zero x xs rest l h hs e c s = absurd (omega arith)
members_again member Is text more (suc n) x [] rest l h hs e c s =
    ap (λ (t : List ℕ). members_at member (suc n) (tokens (text x ++ (t ++ rest)))) l.none
    ∙ member_step member n (tokens (text x ++ rest)) (tokens rest) x (l.again x rest h e)
    ∙ cond-false (begins (codes ",") (tokens rest)) _ _ c
members_again {A} member Is text more (suc n) x (y ∷ ys) rest l h hs e c s =
    let tail : more (y ∷ ys) ++ rest ≡ codes ", " ++ (text y ++ (more ys ++ rest)) = ap (λ (t : List ℕ). t ++ rest) (l.some y ys) ∙ ap (λ (t : List ℕ). codes ", " ++ t) (append_assoc (text y) (more ys) rest) in
    let comma = comma_tokens (text y ++ (more ys ++ rest)) in
    let deeper = members_again member Is text more n y ys rest l hs.0 hs.1 e c (omega arith) in
    ap (λ (t : List ℕ). members_at member (suc n) (tokens (text x ++ t))) tail
    ∙ member_step member n (tokens (text x ++ (codes ", " ++ (text y ++ (more ys ++ rest))))) (tokens (codes ", " ++ (text y ++ (more ys ++ rest)))) x (l.again x (codes ", " ++ (text y ++ (more ys ++ rest))) h (before_comma (text y ++ (more ys ++ rest))))
    ∙ cond-true (begins (codes ",") (tokens (codes ", " ++ (text y ++ (more ys ++ rest))))) _ _ comma.0
    ∙ ap (λ (ts : List Token). ◌>>=◌ {B = List A × List Token} (members_at member n ts) (λ (q : List A × List Token). Ok (x ∷ q.0, q.1))) comma.1
    ∙ ap (λ (r : Result (List A × List Token) ℕ). ◌>>=◌ {B = List A × List Token} r (λ (q : List A × List Token). Ok (x ∷ q.0, q.1))) deeper

-- the line has more tokens than the list has members behind the first
pub members_room : {A : Type 0} (member : List Token → Result (A × List Token) ℕ) (Is : A → Type 0) (text : A → List ℕ) (more : List A → List ℕ) (x : A) (xs : List A) (rest : List ℕ) → Listed member Is text more → Is x → Each Is xs → Ends rest → length xs < length (tokens (text x ++ (more xs ++ rest)))
members_room member Is text more x [] rest l h hs e =
    let n = l.short (tokens (text x ++ rest)) x (tokens rest) (l.again x rest h e) in
    let same : tokens (text x ++ (more [] ++ rest)) ≡ tokens (text x ++ rest) = ap (λ (t : List ℕ). tokens (text x ++ (t ++ rest))) l.none in
    omega (arith, ap (λ (t : List Token). length t) same)
members_room member Is text more x (y ∷ ys) rest l h hs e =
    let tail : more (y ∷ ys) ++ rest ≡ codes ", " ++ (text y ++ (more ys ++ rest)) = ap (λ (t : List ℕ). t ++ rest) (l.some y ys) ∙ ap (λ (t : List ℕ). codes ", " ++ t) (append_assoc (text y) (more ys) rest) in
    let same = ap (λ (t : List ℕ). length (tokens (text x ++ t))) tail in
    let first = l.short (tokens (text x ++ (codes ", " ++ (text y ++ (more ys ++ rest))))) x (tokens (codes ", " ++ (text y ++ (more ys ++ rest)))) (l.again x (codes ", " ++ (text y ++ (more ys ++ rest))) h (before_comma (text y ++ (more ys ++ rest)))) in
    let deeper = members_room member Is text more y ys rest l hs.0 hs.1 e in
    let comma = (comma_tokens (text y ++ (more ys ++ rest))).2 in
    omega (arith, same, first, deeper, comma)

pub pairs_listed : Listed pair_at IsPair pair_text more_pairs_text
unfolding more_pairs_text
pairs_listed = record { none = refl; some = λ x xs. refl; again = λ x rest h e. pair_again x rest h e.stop; short = pair_short }

pub writes_listed : Listed written_at IsWritten written_text more_writes_text
unfolding more_writes_text
writes_listed = record { none = refl; some = λ x xs. refl; again = λ x rest h e. written_again x rest h e; short = written_short }

pub pairs_again : (p : Pair) (ps : List Pair) (rest : List ℕ) → IsPair p → Each IsPair ps → Ends rest → begins (codes ",") (tokens rest) ≡ false → pairs_at (tokens (pairs_text (p ∷ ps) ++ rest)) ≡ Ok (p ∷ ps, tokens rest)
unfolding pairs_text tokens
pairs_again p ps rest h hs e c =
    let room = members_room pair_at IsPair pair_text more_pairs_text p ps rest pairs_listed h hs e in
    ap (λ (l : List ℕ). members_at pair_at (suc (length (tokens l))) (tokens l)) (append_assoc (pair_text p) (more_pairs_text ps) rest)
    ∙ members_again pair_at IsPair pair_text more_pairs_text (suc (length (tokens (pair_text p ++ (more_pairs_text ps ++ rest))))) p ps rest pairs_listed h hs e c (omega (arith, room))

pub writes_again : (w : Written) (ws : List Written) (rest : List ℕ) → IsWritten w → Each IsWritten ws → Ends rest → begins (codes ",") (tokens rest) ≡ false → writes_at (tokens (writes_text (w ∷ ws) ++ rest)) ≡ Ok (w ∷ ws, tokens rest)
unfolding writes_text tokens
writes_again w ws rest h hs e c =
    let room = members_room written_at IsWritten written_text more_writes_text w ws rest writes_listed h hs e in
    ap (λ (l : List ℕ). members_at written_at (suc (length (tokens l))) (tokens l)) (append_assoc (written_text w) (more_writes_text ws) rest)
    ∙ members_again written_at IsWritten written_text more_writes_text (suc (length (tokens (written_text w ++ (more_writes_text ws ++ rest))))) w ws rest writes_listed h hs e c (omega (arith, room))
