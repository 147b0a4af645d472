-- Steps of a reading that was made, and how many tokens they leave.
use Rattle.std.proofs.Common.{◌≡◌, ℕ, zero, suc, ◌≤◌, ◌<◌, Bool, true, false, cond, List, [], ◌∷◌, ◌++◌, length, Result, Ok, Err, Option, Some, None, refl, ap, sym, ◌∙◌, append_assoc, arith, codes}
use Rattle.std.proofs.lemmas.Bool.{cond-true, cond-false}
use Rattle.pipeline_lang.specs.Tokens.{Token}
use Rattle.pipeline_lang.specs.Reading.{◌>>=◌, Adds, Reads, meant, token_at, word_at, begins, behind, members_at}
use Rattle.pipeline_lang.specs.declared.stop.Stop.{Stop}
use Rattle.pipeline_lang.specs.declared.stop.Stop.TheVariants.{Misfit, OutOfMemory}
use Rattle.pipeline_lang.specs.declared.script.Term.{Term}
use Rattle.pipeline_lang.specs.declared.script.Expr.{Expr}
use Rattle.pipeline_lang.specs.declared.script.Expr.TheVariants.{One, Plus, Minus}
use Rattle.pipeline_lang.specs.Terms.{name, own, term, name_at, own_at, term_at, sum_at, expr_at}
use Rattle.pipeline_lang.specs.Statements.{Pair, Written, pair_at, written_at}

-- what was read in two steps, by the value between them
pub bind_ok : {A B E : Type 0} (r : Result A E) (f : A → Result B E) (y : B) → (r >>= f) ≡ Ok y → (x : A) × (r ≡ Ok x) × (f x ≡ Ok y)
bind_ok (Ok x) f y e = (x, refl, e)
bind_ok (Err l) f y e = cc

pub ok_pair : {A B : Type 0} (a c : A) (b d : B) → ◌≡◌ {A = Result (A × B) ℕ} (Ok (a, b)) (Ok (c, d)) → (a ≡ c) × (b ≡ d)
ok_pair {A} {B} a c b d e =
    let p : ◌≡◌ {A = A × B} (a, b) (c, d) = cc in
    (ap (λ (q : A × B). q.0) p, ap (λ (q : A × B). q.1) p)

meant_rest : {A : Type 0} (t : Token) (ts : List Token) (o : Option A) (x : A) (rest : List Token) → meant t ts o ≡ Ok (x, rest) → ts ≡ rest
meant_rest t ts (Some y) x rest e = (ok_pair y x ts rest e).1
meant_rest t ts None x rest e = cc

-- a token was there
pub token_short : {A : Type 0} (m : List ℕ → Option A) (ts : List Token) (x : A) (rest : List Token) → token_at m ts ≡ Ok (x, rest) → length rest < length ts
token_short m [] x rest e = cc
token_short m (t ∷ ts) x rest e = omega (arith, ap (λ (l : List Token). length l) (meant_rest t ts (m t.word) x rest e))

word_rest : (b : Bool) (left : ℕ) (ts rest : List Token) → cond {A = Result (List Token) ℕ} b (Ok ts) (Err left) ≡ Ok rest → ts ≡ rest
word_rest true left ts rest e = cc
word_rest false left ts rest e = cc

pub word_short : (w : List ℕ) (ts rest : List Token) → word_at w ts ≡ Ok rest → length rest < length ts
word_short w [] rest e = cc
word_short w (t ∷ ts) rest e = omega (arith, ap (λ (l : List Token). length l) (word_rest _ t.left ts rest e))

pub behind_short : (ts : List Token) → length (behind ts) ≤ length ts
behind_short [] = omega arith
behind_short (t ∷ ts) = omega arith

-- either of two readings
pub either : {A E : Type 0} (b : Bool) (r q : Result A E) (y : A) (P : Type 0) → (r ≡ Ok y → P) → (q ≡ Ok y → P) → cond b r q ≡ Ok y → P
either true r q y P f g e = f e
either false r q y P f g e = g e

-- a second term
second_short : (make : Term (List ℕ) → Expr (List ℕ)) (ts : List Token) (x : Expr (List ℕ)) (rest : List Token) → ◌>>=◌ {B = Expr (List ℕ) × List Token} (term_at (behind ts)) (λ second. Ok (make second.0, second.1)) ≡ Ok (x, rest) → length rest ≤ length ts
second_short make ts x rest e =
    let b = bind_ok (term_at (behind ts)) (λ (second : Term (List ℕ) × List Token). Ok (make second.0, second.1)) (x, rest) e in
    let p = ok_pair (make b.0.0) x b.0.1 rest b.2 in
    let s = token_short term (behind ts) b.0.0 b.0.1 b.1 in
    omega (arith, s, behind_short ts, ap (λ (l : List Token). length l) p.1)

sum_short : (first : Term (List ℕ)) (ts : List Token) (x : Expr (List ℕ)) (rest : List Token) → sum_at first ts ≡ Ok (x, rest) → length rest ≤ length ts
unfolding sum_at
sum_short first ts x rest e =
    either (begins (codes "+") ts) _ _ (x, rest) (length rest ≤ length ts)
    (second_short (Plus first) ts x rest)
    (either (begins (codes "-") ts) _ _ (x, rest) (length rest ≤ length ts)
    (second_short (Minus first) ts x rest)
    (λ (f : ◌≡◌ {A = Result (Expr (List ℕ) × List Token) ℕ} (Ok (One first, ts)) (Ok (x, rest))). omega (arith, ap (λ (l : List Token). length l) (ok_pair (One first) x ts rest f).1)))
    e

pub expr_short : (ts : List Token) (x : Expr (List ℕ)) (rest : List Token) → expr_at ts ≡ Ok (x, rest) → length rest < length ts
unfolding expr_at
expr_short ts x rest e =
    let a = bind_ok (term_at ts) (λ (first : Term (List ℕ) × List Token). sum_at first.0 first.1) (x, rest) e in
    omega (arith, token_short term ts a.0.0 a.0.1 a.1, sum_short a.0.0 a.0.1 x rest a.2)

pub pair_short : (ts : List Token) (x : Pair) (rest : List Token) → pair_at ts ≡ Ok (x, rest) → length rest < length ts
unfolding pair_at
pair_short ts x rest e =
    let a = bind_ok (own_at ts) _ (x, rest) e in
    let b = bind_ok (name_at a.0.1) (λ (read : List ℕ × List Token). Ok ((a.0.0, read.0), read.1)) (x, rest) a.2 in
    let p = ok_pair (a.0.0, b.0.0) x b.0.1 rest b.2 in
    omega (arith, token_short own ts a.0.0 a.0.1 a.1, token_short name a.0.1 b.0.0 b.0.1 b.1, ap (λ (l : List Token). length l) p.1)

pub written_short : (ts : List Token) (x : Written) (rest : List Token) → written_at ts ≡ Ok (x, rest) → length rest < length ts
unfolding written_at
written_short ts x rest e =
    let a = bind_ok (name_at ts) _ (x, rest) e in
    let b = bind_ok (word_at (codes "=") a.0.1) _ (x, rest) a.2 in
    let c = bind_ok (expr_at b.0) (λ (value : Expr (List ℕ) × List Token). Ok ((a.0.0, value.0), value.1)) (x, rest) b.2 in
    let p = ok_pair (a.0.0, c.0.0) x c.0.1 rest c.2 in
    omega (arith, token_short name ts a.0.0 a.0.1 a.1, word_short (codes "=") a.0.1 b.0 b.1, expr_short b.0 c.0.0 c.0.1 c.1, ap (λ (l : List Token). length l) p.1)

-- what was read before, and what is read behind it
abbrev pub after : {A : Type 0} → List A → Result (List A × List Token) ℕ → Result (List A × List Token) ℕ
after made r = r >>= λ more. Ok (made ++ more.0, more.1)

go_after : {A : Type 0} (made : List A) (x : A) (r : Result (List A × List Token) ℕ) → after made (r >>= λ more. Ok (x ∷ more.0, more.1)) ≡ after (made ++ x ∷ []) r
go_after made x (Ok more) = ap (λ l. Ok (l, more.1)) (sym (append_assoc made (x ∷ []) more.0))
go_after made x (Err l) = refl

-- one member, and `,` behind it
pub member_more : {A : Type 0} (member : List Token → Result (A × List Token) ℕ) (n : ℕ) (made : List A) (ts : List Token) (x : A) (rest : List Token) → member ts ≡ Ok (x, rest) → begins (codes ",") rest ≡ true → after made (members_at member (suc n) ts) ≡ after (made ++ x ∷ []) (members_at member n (behind rest))
unfolding members_at
member_more {A} member n made ts x rest e b =
    ap (λ (r : Result (A × List Token) ℕ). after made (r >>= λ first. cond (begins (codes ",") first.1) (members_at member n (behind first.1) >>= λ more. Ok (first.0 ∷ more.0, more.1)) (Ok (first.0 ∷ [], first.1)))) e
    ∙ ap (after made) (cond-true (begins (codes ",") rest) _ _ b)
    ∙ go_after made x (members_at member n (behind rest))

-- one member, and no `,` behind it
pub member_last : {A : Type 0} (member : List Token → Result (A × List Token) ℕ) (n : ℕ) (made : List A) (ts : List Token) (x : A) (rest : List Token) → member ts ≡ Ok (x, rest) → begins (codes ",") rest ≡ false → after made (members_at member (suc n) ts) ≡ Ok (made ++ x ∷ [], rest)
unfolding members_at
member_last {A} member n made ts x rest e b =
    ap (λ (r : Result (A × List Token) ℕ). after made (r >>= λ first. cond (begins (codes ",") first.1) (members_at member n (behind first.1) >>= λ more. Ok (first.0 ∷ more.0, more.1)) (Ok (first.0 ∷ [], first.1)))) e
    ∙ ap (after made) (cond-false (begins (codes ",") rest) _ _ b)

-- no member
pub member_none : {A : Type 0} (member : List Token → Result (A × List Token) ℕ) (n : ℕ) (made : List A) (ts : List Token) (left : ℕ) → member ts ≡ Err left → after made (members_at member (suc n) ts) ≡ Err left
unfolding members_at
member_none {A} member n made ts left e =
    ap (λ (r : Result (A × List Token) ℕ). after made (r >>= λ first. cond (begins (codes ",") first.1) (members_at member n (behind first.1) >>= λ more. Ok (first.0 ∷ more.0, more.1)) (Ok (first.0 ∷ [], first.1)))) e

-- what is read of a list, where some of its members were read
pub record Members {A : Type 0} (member : List Token → Result (A × List Token) ℕ) (whole : List Token) (made : List A) (rest : List Token) : Type 0 where
  -- how many more there may be, at least as many as tokens
  pub more : ℕ
  pub room : length rest ≤ more
  pub same : members_at member (suc (length whole)) whole ≡ after made (members_at member (suc more) rest)

after_none : {A : Type 0} (r : Result (List A × List Token) ℕ) → r ≡ after [] r
after_none (Ok x) = refl
after_none (Err e) = refl

pub members_none : {A : Type 0} (member : List Token → Result (A × List Token) ℕ) (whole : List Token) → Members member whole [] whole
members_none member whole = record { more = length whole; room = omega arith; same = after_none (members_at member (suc (length whole)) whole) }

pub members_more : {A : Type 0} (member : List Token → Result (A × List Token) ℕ) (whole : List Token) (made : List A) (ts : List Token) (x : A) (rest : List Token) → Members member whole made ts → length rest < length ts → member ts ≡ Ok (x, rest) → begins (codes ",") rest ≡ true → Members member whole (made ++ x ∷ []) (behind rest)
members_more member whole made ts x rest h l e b = step h.more h.room h.same
  where
    step : (n : ℕ) → length ts ≤ n → members_at member (suc (length whole)) whole ≡ after made (members_at member (suc n) ts) → Members member whole (made ++ x ∷ []) (behind rest)
    step zero r s = absurd (omega arith)
    step (suc n) r s = record { more = n; room = omega (arith, behind_short rest); same = s ∙ member_more member (suc n) made ts x rest e b }

pub members_last : {A : Type 0} (member : List Token → Result (A × List Token) ℕ) (whole : List Token) (made : List A) (ts : List Token) (x : A) (rest : List Token) → Members member whole made ts → member ts ≡ Ok (x, rest) → begins (codes ",") rest ≡ false → members_at member (suc (length whole)) whole ≡ Ok (made ++ x ∷ [], rest)
members_last member whole made ts x rest h e b = h.same ∙ member_last member h.more made ts x rest e b

pub members_fail : {A : Type 0} (member : List Token → Result (A × List Token) ℕ) (whole : List Token) (made : List A) (ts : List Token) (left : ℕ) → Members member whole made ts → member ts ≡ Err left → members_at member (suc (length whole)) whole ≡ Err left
members_fail member whole made ts left h e = h.same ∙ member_none member h.more made ts left e

-- the reading of one more member stops
pub adds_stop : {A : Type 0} (member : List Token → Result (A × List Token) ℕ) (whole : List Token) (made more : List A) (ts rest : List Token) (stop : Stop) → Members member whole made ts → Adds (Err stop) made more rest (member ts) → Reads {A = List A} (Err stop) rest (members_at member (suc (length whole)) whole)
adds_stop member whole made more ts rest (Misfit left) h a = members_fail member whole made ts left h a
adds_stop member whole made more ts rest OutOfMemory h a = tt

-- the last member
pub adds_last : {A : Type 0} (member : List Token → Result (A × List Token) ℕ) (whole : List Token) (made more : List A) (ts rest next : List Token) (u : Unit) (t : Bool) → Members member whole made ts → Adds (Ok u) made more rest (member ts) → t ≡ begins (codes ",") rest → next ≡ cond t (behind rest) rest → t ≡ false → members_at member (suc (length whole)) whole ≡ Ok (more, next)
adds_last member whole made more ts rest next u t h a f n e =
    let here : next ≡ rest = n ∙ cond-false t _ _ e in
    members_last member whole made ts a.0 rest h a.1 (sym f ∙ e) ∙ cc (a.2, here)

-- one more member, and `,`
pub adds_more : {A : Type 0} (member : List Token → Result (A × List Token) ℕ) (whole : List Token) (made more : List A) (ts rest next : List Token) (u : Unit) (t : Bool) → ((x : A) → member ts ≡ Ok (x, rest) → length rest < length ts) → Members member whole made ts → Adds (Ok u) made more rest (member ts) → t ≡ begins (codes ",") rest → next ≡ cond t (behind rest) rest → t ≡ true → Members member whole more next × (length next < length ts)
adds_more member whole made more ts rest next u t short h a f n e =
    let here : next ≡ behind rest = n ∙ cond-true t _ _ e in
    let m = members_more member whole made ts a.0 rest h (short a.0 a.1) a.1 (sym f ∙ e) in
    let l : length next < length ts = omega (arith, short a.0 a.1, behind_short rest, ap (λ (l : List Token). length l) here) in
    (rw (a.2, here) m, l)
