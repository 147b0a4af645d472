-- Steps of a reading that was made, and how many bytes they leave.
use Rattle.std.proofs.Common.{◌≡◌, ℕ, zero, suc, ◌≤◌, ◌<◌, Bool, true, false, cond, List, [], ◌∷◌, ◌++◌, length, take, drop, Result, Ok, Err, Option, Some, None, refl, ap, sym, ◌∙◌, append_assoc, arith, codes}
use Rattle.std.proofs.lemmas.Bool.{cond-true, cond-false}
use Rattle.std.proofs.lemmas.Grind.{common_steps}
use Rattle.rss_names.specs.declared.service.Key.{Key}
use Rattle.pipeline_lang.specs.declared.config.Config.{Config}
use Rattle.pipeline_lang.specs.declared.script.Term.{Term}
use Rattle.pipeline_lang.specs.declared.script.Expr.{Expr}
use Rattle.pipeline_lang.specs.declared.script.Expr.TheVariants.{One, Plus, Minus}
use Rattle.pipeline_lang.specs.Tokens.{further}
use Rattle.pipeline_lang.specs.Terms.{number}
use Rattle.history_text.specs.Reading.{◌>>=◌, Adds, Reads, begins, behind, word_at, with_rest, token_at, ranged, members_at}
use Rattle.history_text.specs.declared.stop.Stop.{Stop}
use Rattle.history_text.specs.declared.stop.Stop.TheVariants.{Misfit, OutOfMemory}
use Rattle.history_text.specs.Named.{shard_key_named}
use Rattle.history_text.specs.Formulas.{position_at, constant_at, term_at, sum_at, formula_at}
use Rattle.history_text.specs.Operations.{key_at, write_at}

-- what was read in two steps, by the value between them
pub bind_some : {A B : Type 0} (r : Option A) (f : A → Option B) (y : B) → (r >>= f) ≡ Some y → (x : A) × (r ≡ Some x) × (f x ≡ Some y)
bind_some (Some x) f y e = (x, refl, e)
bind_some None f y e = cc

pub some_pair : {A B : Type 0} (a c : A) (b d : B) → ◌≡◌ {A = Option (A × B)} (Some (a, b)) (Some (c, d)) → (a ≡ c) × (b ≡ d)
some_pair {A} {B} a c b d e =
    let p : ◌≡◌ {A = A × B} (a, b) (c, d) = cc in
    (ap (λ (q : A × B). q.0) p, ap (λ (q : A × B). q.1) p)

pub drop_short : (n : ℕ) (bytes : List ℕ) → length (drop n bytes) ≤ length bytes
drop_short zero bytes = omega arith
drop_short (suc n) [] = omega arith
drop_short (suc n) (b ∷ bs) = let h = drop_short n bs in omega (arith, h)

rest_short : {A : Type 0} (o : Option A) (bytes rest : List ℕ) (x : A) (n : ℕ) → with_rest o (drop n bytes) ≡ Some (x, rest) → length rest ≤ length bytes
rest_short (Some y) bytes rest x n e =
    let same = (some_pair y x (drop n bytes) rest e).1 in
    omega (arith, drop_short n bytes, ap (λ (l : List ℕ). length l) same)
rest_short None bytes rest x n e = cc

-- nothing grows
pub token_short : {A : Type 0} (meaning : List ℕ → Option A) (bytes : List ℕ) (x : A) (rest : List ℕ) → token_at meaning bytes ≡ Some (x, rest) → length rest ≤ length bytes
token_short meaning bytes x rest e = rest_short (meaning (take (further bytes) bytes)) bytes rest x (further bytes) e

word_rest : (b : Bool) (bytes rest : List ℕ) (n : ℕ) → cond {A = Option (List ℕ)} b (Some (drop n bytes)) None ≡ Some rest → length rest ≤ length bytes
word_rest true bytes rest n e =
    let same : drop n bytes ≡ rest = cc in
    omega (arith, drop_short n bytes, ap (λ (l : List ℕ). length l) same)
word_rest false bytes rest n e = cc

pub word_short : (word bytes rest : List ℕ) → word_at word bytes ≡ Some rest → length rest ≤ length bytes
word_short word bytes rest e = word_rest (begins word bytes) bytes rest (length word) e

-- either of two readings
pub either : {A : Type 0} (b : Bool) (r q : Option A) (y : A) (P : Type 0) → (r ≡ Some y → P) → (q ≡ Some y → P) → cond b r q ≡ Some y → P
either true r q y P f g e = f e
either false r q y P f g e = g e

-- a value made of one that was read
made_short : {A B : Type 0} (r : Option (A × List ℕ)) (make : A → B) (x : B) (rest : List ℕ) (most : ℕ) → ((y : A) (left : List ℕ) → r ≡ Some (y, left) → length left ≤ most) → ◌>>=◌ {B = B × List ℕ} r (λ y. Some (make y.0, y.1)) ≡ Some (x, rest) → length rest ≤ most
made_short {A} {B} r make x rest most short e =
    let b = bind_some r (λ (y : A × List ℕ). Some (make y.0, y.1)) (x, rest) e in
    let p = some_pair (make b.0.0) x b.0.1 rest b.2 in
    omega (arith, short b.0.0 b.0.1 b.1, ap (λ (l : List ℕ). length l) p.1)

term_short : (bytes : List ℕ) (x : Term ℕ) (rest : List ℕ) → term_at bytes ≡ Some (x, rest) → length rest ≤ length bytes
unfolding term_at position_at constant_at
term_short bytes x rest e =
    either (begins (codes "#") bytes) _ _ (x, rest) (length rest ≤ length bytes)
    (made_short (token_at (ranged 1 256) (behind (codes "#") bytes)) _ x rest (length bytes)
    (λ y left f. omega (arith, token_short (ranged 1 256) (behind (codes "#") bytes) y left f, drop_short 1 bytes)))
    (made_short (token_at number bytes) _ x rest (length bytes) (λ y left f. token_short number bytes y left f))
    e

sum_short : (first : Term ℕ) (bytes : List ℕ) (x : Expr ℕ) (rest : List ℕ) → sum_at first bytes ≡ Some (x, rest) → length rest ≤ length bytes
unfolding sum_at
sum_short first bytes x rest e =
    either (begins (codes " + ") bytes) _ _ (x, rest) (length rest ≤ length bytes)
    (made_short (term_at (behind (codes " + ") bytes)) (Plus first) x rest (length bytes) (λ y left f. omega (arith, term_short (behind (codes " + ") bytes) y left f, drop_short 3 bytes)))
    (either (begins (codes " - ") bytes) _ _ (x, rest) (length rest ≤ length bytes)
    (made_short (term_at (behind (codes " - ") bytes)) (Minus first) x rest (length bytes) (λ y left f. omega (arith, term_short (behind (codes " - ") bytes) y left f, drop_short 3 bytes)))
    (λ (f : ◌≡◌ {A = Option (Expr ℕ × List ℕ)} (Some (One first, bytes)) (Some (x, rest))). omega (arith, ap (λ (l : List ℕ). length l) (some_pair (One first) x bytes rest f).1)))
    e

formula_short : (bytes : List ℕ) (x : Expr ℕ) (rest : List ℕ) → formula_at bytes ≡ Some (x, rest) → length rest ≤ length bytes
unfolding formula_at
formula_short bytes x rest e =
    let a = bind_some (term_at bytes) (λ (first : Term ℕ × List ℕ). sum_at first.0 first.1) (x, rest) e in
    omega (arith, term_short bytes a.0.0 a.0.1 a.1, sum_short a.0.0 a.0.1 x rest a.2)

pub key_short : (config : Config) (bytes : List ℕ) (x : Key) (rest : List ℕ) → key_at config bytes ≡ Some (x, rest) → length rest ≤ length bytes
key_short config bytes x rest e = token_short (shard_key_named config) bytes x rest e

pub write_short : (config : Config) (bytes : List ℕ) (x : Key × Expr ℕ) (rest : List ℕ) → write_at config bytes ≡ Some (x, rest) → length rest ≤ length bytes
unfolding write_at
write_short config bytes x rest e =
    let a = bind_some (key_at config bytes) _ (x, rest) e in
    let b = bind_some (word_at (codes " = ") a.0.1) _ (x, rest) a.2 in
    let c = bind_some (formula_at b.0) (λ (value : Expr ℕ × List ℕ). Some ((a.0.0, value.0), value.1)) (x, rest) b.2 in
    let p = some_pair (a.0.0, c.0.0) x c.0.1 rest c.2 in
    omega (arith, key_short config bytes a.0.0 a.0.1 a.1, word_short (codes " = ") a.0.1 b.0 b.1, formula_short b.0 c.0.0 c.0.1 c.1, ap (λ (l : List ℕ). length l) p.1)

-- `, ` is there
comma_short : (bytes : List ℕ) → begins (codes ", ") bytes ≡ true → length (behind (codes ", ") bytes) < length bytes
comma_short [] e = absurd cc
comma_short (b ∷ bs) e = omega (arith, drop_short 1 bs)

-- what was read before, and what is read behind it
abbrev pub after : {A : Type 0} → List A → Option (List A × List ℕ) → Option (List A × List ℕ)
after made r = r >>= λ more. Some (made ++ more.0, more.1)

go_after : {A : Type 0} (made : List A) (x : A) (r : Option (List A × List ℕ)) → after made (r >>= λ more. Some (x ∷ more.0, more.1)) ≡ after (made ++ x ∷ []) r
go_after made x (Some more) = ap (λ l. Some (l, more.1)) (sym (append_assoc made (x ∷ []) more.0))
go_after made x None = refl

-- one member, and `, ` behind it
member_more : {A : Type 0} (member : List ℕ → Option (A × List ℕ)) (n : ℕ) (made : List A) (bytes : List ℕ) (x : A) (rest : List ℕ) → member bytes ≡ Some (x, rest) → begins (codes ", ") rest ≡ true → after made (members_at member (suc n) bytes) ≡ after (made ++ x ∷ []) (members_at member n (behind (codes ", ") rest))
unfolding members_at
member_more {A} member n made bytes x rest e b =
    ap (λ (r : Option (A × List ℕ)). after made (r >>= λ first. cond (begins (codes ", ") first.1) (members_at member n (behind (codes ", ") first.1) >>= λ more. Some (first.0 ∷ more.0, more.1)) (Some (first.0 ∷ [], first.1)))) e
    ∙ ap (after made) (cond-true (begins (codes ", ") rest) _ _ b)
    ∙ go_after made x (members_at member n (behind (codes ", ") rest))

-- one member, and no `, ` behind it
member_last : {A : Type 0} (member : List ℕ → Option (A × List ℕ)) (n : ℕ) (made : List A) (bytes : List ℕ) (x : A) (rest : List ℕ) → member bytes ≡ Some (x, rest) → begins (codes ", ") rest ≡ false → after made (members_at member (suc n) bytes) ≡ Some (made ++ x ∷ [], rest)
unfolding members_at
member_last {A} member n made bytes x rest e b =
    ap (λ (r : Option (A × List ℕ)). after made (r >>= λ first. cond (begins (codes ", ") first.1) (members_at member n (behind (codes ", ") first.1) >>= λ more. Some (first.0 ∷ more.0, more.1)) (Some (first.0 ∷ [], first.1)))) e
    ∙ ap (after made) (cond-false (begins (codes ", ") rest) _ _ b)

-- no member
member_none : {A : Type 0} (member : List ℕ → Option (A × List ℕ)) (n : ℕ) (made : List A) (bytes : List ℕ) → member bytes ≡ None → after made (members_at member (suc n) bytes) ≡ None
unfolding members_at
member_none {A} member n made bytes e =
    ap (λ (r : Option (A × List ℕ)). after made (r >>= λ first. cond (begins (codes ", ") first.1) (members_at member n (behind (codes ", ") first.1) >>= λ more. Some (first.0 ∷ more.0, more.1)) (Some (first.0 ∷ [], first.1)))) e

-- what is read of a list, where some of its members were read
pub record Members {A : Type 0} (member : List ℕ → Option (A × List ℕ)) (whole : List ℕ) (made : List A) (rest : List ℕ) : Type 0 where
  -- how many more there may be, at least as many as bytes
  pub more : ℕ
  pub room : length rest ≤ more
  pub same : members_at member (suc (length whole)) whole ≡ after made (members_at member (suc more) rest)

after_none : {A : Type 0} (r : Option (List A × List ℕ)) → r ≡ after [] r
after_none (Some x) = refl
after_none None = refl

pub members_none : {A : Type 0} (member : List ℕ → Option (A × List ℕ)) (whole : List ℕ) → Members member whole [] whole
members_none member whole = record { more = length whole; room = omega arith; same = after_none (members_at member (suc (length whole)) whole) }

members_more : {A : Type 0} (member : List ℕ → Option (A × List ℕ)) (whole : List ℕ) (made : List A) (bytes : List ℕ) (x : A) (rest : List ℕ) → Members member whole made bytes → length rest ≤ length bytes → member bytes ≡ Some (x, rest) → begins (codes ", ") rest ≡ true → Members member whole (made ++ x ∷ []) (behind (codes ", ") rest)
members_more member whole made bytes x rest h l e b = step h.more h.room h.same
  where
    step : (n : ℕ) → length bytes ≤ n → members_at member (suc (length whole)) whole ≡ after made (members_at member (suc n) bytes) → Members member whole (made ++ x ∷ []) (behind (codes ", ") rest)
    step zero r s = absurd (omega (arith, comma_short rest b, l, r))
    step (suc n) r s = record { more = n; room = omega (arith, comma_short rest b, l, r); same = s ∙ member_more member (suc n) made bytes x rest e b }

-- the reading of one more member stops
pub adds_stop : {A : Type 0} (member : List ℕ → Option (A × List ℕ)) (whole : List ℕ) (made more : List A) (bytes rest : List ℕ) (stop : Stop) → Members member whole made bytes → Adds (Err stop) made more rest (member bytes) → Reads {A = List A} (Err stop) rest (members_at member (suc (length whole)) whole)
adds_stop member whole made more bytes rest Misfit h a = h.same ∙ member_none member h.more made bytes a
adds_stop member whole made more bytes rest OutOfMemory h a = tt

-- the last member
pub adds_last : {A : Type 0} (member : List ℕ → Option (A × List ℕ)) (whole : List ℕ) (made more : List A) (bytes rest next : List ℕ) (u : Unit) (t : Bool) → Members member whole made bytes → Adds (Ok u) made more rest (member bytes) → t ≡ begins (codes ", ") rest → next ≡ cond t (behind (codes ", ") rest) rest → t ≡ false → members_at member (suc (length whole)) whole ≡ Some (more, next)
adds_last member whole made more bytes rest next u t h a f n e =
    let here : next ≡ rest = n ∙ cond-false t _ _ e in
    h.same ∙ member_last member h.more made bytes a.0 rest a.1 (sym f ∙ e) ∙ cc (a.2, here)

-- one more member, and `, `
pub adds_more : {A : Type 0} (member : List ℕ → Option (A × List ℕ)) (whole : List ℕ) (made more : List A) (bytes rest next : List ℕ) (u : Unit) (t : Bool) → ((x : A) → member bytes ≡ Some (x, rest) → length rest ≤ length bytes) → Members member whole made bytes → Adds (Ok u) made more rest (member bytes) → t ≡ begins (codes ", ") rest → next ≡ cond t (behind (codes ", ") rest) rest → t ≡ true → Members member whole more next × (length next < length bytes)
adds_more member whole made more bytes rest next u t short h a f n e =
    let here : next ≡ behind (codes ", ") rest = n ∙ cond-true t _ _ e in
    let begun : begins (codes ", ") rest ≡ true = sym f ∙ e in
    let m = members_more member whole made bytes a.0 rest h (short a.0 a.1) a.1 begun in
    let l : length next < length bytes = omega (arith, short a.0 a.1, comma_short rest begun, ap (λ (l : List ℕ). length l) here) in
    (rw (a.2, here) m, l)
