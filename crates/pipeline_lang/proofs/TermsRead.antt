-- What is read as a term, an expression or a comparison has the words of the grammar.
use Rattle.std.proofs.Common.{◌≡◌, ℕ, zero, suc, ◌+◌, ◌-◌, ◌*◌, ◌/◌, ◌%◌, ◌^◌, ◌≤◌, ◌<◌, Bool, true, false, ◌&&◌, nat_lt, nat_le, cond, List, [], ◌∷◌, ◌++◌, Result, Ok, Err, Option, Some, None, refl, ap, ◌∙◌, sym, arith, append_assoc}
use Rattle.std.specs.Prelude.{codes, option_map}
use Rattle.std.specs.Fmt.{decimal}
use Rattle.std.specs.Str.{bytes_eq}
use Rattle.std.proofs.lemmas.List.{append-nil}
use Rattle.std.proofs.lemmas.Fmt.{decimal_step, decimal_digit}
use Rattle.std.proofs.lemmas.Bool.{and_parts, ltb-true, leb-true}
use Rattle.std.proofs.lemmas.Slice.Eq.{bytes_eq-Decides}
use Rattle.rss_names.specs.Names.{is_name}
use Rattle.pipeline_lang.specs.declared.script.Term.{Term}
use Rattle.pipeline_lang.specs.declared.script.Term.TheVariants.{Number, Variable}
use Rattle.pipeline_lang.specs.declared.script.Expr.{Expr}
use Rattle.pipeline_lang.specs.declared.script.Expr.TheVariants.{One, Plus, Minus}
use Rattle.pipeline_lang.specs.declared.script.Compare.{Compare}
use Rattle.pipeline_lang.specs.declared.script.Compare.TheVariants.{Equal, Less}
use Rattle.pipeline_lang.specs.Tokens.{Token}
use Rattle.pipeline_lang.specs.Reading.{◌>>=◌, meant, token_at, word_at, begins, behind}
use Rattle.pipeline_lang.specs.Terms.{is_digit, digits, number, number_from, name, own, term, name_at, own_at, number_at, term_at, sum_at, expr_at, comparison_at, compare_at}
use Rattle.pipeline_lang.specs.Grammar.{term_word, expr_words, compare_words, words}
use Rattle.pipeline_lang.proofs.Parts.{bind_ok, ok_pair}
use Rattle.pipeline_lang.proofs.Spelled.{some_same, name_same}

-- the last part of what was made
pub record Made {A B : Type 0} (r : Result (A × List Token) ℕ) (make : A → B) (y : B) (rest : List Token) : Type 0 where
  pub part : A
  pub read : r ≡ Ok (part, rest)
  pub is : make part ≡ y

pub made_of : {A B : Type 0} (r : Result (A × List Token) ℕ) (make : A → B) (y : B) (rest : List Token) → ◌>>=◌ {B = B × List Token} r (λ q. Ok (make q.0, q.1)) ≡ Ok (y, rest) → Made r make y rest
made_of {A} {B} r make y rest e =
    let b = bind_ok r (λ (q : A × List Token). Ok (make q.0, q.1)) (y, rest) e in
    let p = ok_pair (make b.0.0) y b.0.1 rest b.2 in
    record { part = b.0.0; read = b.1 ∙ ap (λ (t : List Token). Ok (b.0.0, t)) p.1; is = p.0 }

pub either_of : {A E : Type 0} (b : Bool) (r q : Result A E) (y : A) (P : Type 0) → (b ≡ true → r ≡ Ok y → P) → (b ≡ false → q ≡ Ok y → P) → cond b r q ≡ Ok y → P
either_of true r q y P f g e = f refl e
either_of false r q y P f g e = g refl e

-- a token that means something
pub record Meant {A : Type 0} (meaning : List ℕ → Option A) (ts : List Token) (x : A) (rest : List Token) : Type 0 where
  pub word : List ℕ
  pub means : meaning word ≡ Some x
  pub words_are : words ts ≡ word ∷ words rest

meant_words : {A : Type 0} (meaning : List ℕ → Option A) (t : Token) (ts : List Token) (o : Option A) (x : A) (rest : List Token) → meaning t.word ≡ o → meant t ts o ≡ Ok (x, rest) → Meant meaning (t ∷ ts) x rest
meant_words meaning t ts (Some y) x rest h e =
    let p = ok_pair y x ts rest e in
    record { word = t.word; means = h ∙ ap (λ (z : _). Some z) p.0; words_are = ap (λ (l : List Token). t.word ∷ words l) p.1 }
meant_words meaning t ts None x rest h e = absurd cc

pub token_words : {A : Type 0} (meaning : List ℕ → Option A) (ts : List Token) (x : A) (rest : List Token) → token_at meaning ts ≡ Ok (x, rest) → Meant meaning ts x rest
token_words meaning [] x rest e = absurd cc
token_words meaning (t ∷ ts) x rest e = meant_words meaning t ts (meaning t.word) x rest refl e

pub name_words : (ts : List Token) (x : List ℕ) (rest : List Token) → name_at ts ≡ Ok (x, rest) → words ts ≡ x ∷ words rest
name_words ts x rest e =
    let m = token_words name ts x rest e in
    m.words_are ∙ ap (λ (w : List ℕ). w ∷ words rest) (name_same m.word x m.means)

own_same : (word x : List ℕ) → own word ≡ Some x → word ≡ x
own_same word x e = go (bytes_eq word (codes "status")) e
  where
    go : (t : Bool) → cond t None (name word) ≡ Some x → word ≡ x
    go true e = absurd cc
    go false e = name_same word x e

pub own_words : (ts : List Token) (x : List ℕ) (rest : List Token) → own_at ts ≡ Ok (x, rest) → words ts ≡ x ∷ words rest
own_words ts x rest e =
    let m = token_words own ts x rest e in
    m.words_are ∙ ap (λ (w : List ℕ). w ∷ words rest) (own_same m.word x m.means)

-- one more digit behind a number
decimal_more : (n b : ℕ) → 0 < n → 10 * n + (b - 48) < 2 ^ 64 → 48 ≤ b → b ≤ 57 → decimal (10 * n + (b - 48)) ≡ decimal n ++ b ∷ []
decimal_more n b positive small low high =
    let step = decimal_step (10 * n + (b - 48)) (omega arith) small in
    let front : (10 * n + (b - 48)) / 10 ≡ n = omega arith in
    let last : 48 + (10 * n + (b - 48)) % 10 ≡ b = omega arith in
    step ∙ ap (λ (m : ℕ). decimal m ++ (48 + (10 * n + (b - 48)) % 10) ∷ []) front ∙ ap (λ (d : ℕ). decimal n ++ d ∷ []) last

digits_spelled : (n m : ℕ) (bs : List ℕ) → 0 < n → digits n bs ≡ Some m → decimal n ++ bs ≡ decimal m
unfolding digits
digits_spelled n m [] p e = append-nil (decimal n) ∙ ap decimal (some_same n m e)
digits_spelled n m (b ∷ bs) p e = go (is_digit b && nat_lt (10 * n + (b - 48)) (2 ^ 64)) refl (digits_spelled (10 * n + (b - 48)) m bs) e
  where
    go : (t : Bool) → (is_digit b && nat_lt (10 * n + (b - 48)) (2 ^ 64)) ≡ t → (0 < 10 * n + (b - 48) → digits (10 * n + (b - 48)) bs ≡ Some m → decimal (10 * n + (b - 48)) ++ bs ≡ decimal m) → cond t (digits (10 * n + (b - 48)) bs) None ≡ Some m → decimal n ++ (b ∷ bs) ≡ decimal m
    go true h more e =
        let tests = and_parts (is_digit b) (nat_lt (10 * n + (b - 48)) (2 ^ 64)) h in
        let ends = and_parts (nat_le 48 b) (nat_le b 57) tests.0 in
        let one = decimal_more n b p (ltb-true _ _ tests.1) (leb-true _ _ ends.0) (leb-true _ _ ends.1) in
        sym (append_assoc (decimal n) (b ∷ []) bs) ∙ ap (λ (l : List ℕ). l ++ bs) (sym one) ∙ more (omega arith) e
    go false h more e = absurd cc

number_from_spelled : (n m : ℕ) (bs : List ℕ) → n ≤ 9 → number_from n bs ≡ Some m → (48 + n) ∷ bs ≡ decimal m
number_from_spelled zero m [] h e = sym (decimal_digit 0 (omega arith)) ∙ ap decimal (some_same 0 m e)
number_from_spelled zero m (b ∷ bs) h e = absurd cc
number_from_spelled (suc n) m bs h e = ap (λ (l : List ℕ). l ++ bs) (sym (decimal_digit (suc n) (omega arith))) ∙ digits_spelled (suc n) m bs (omega arith) e

number_spelled : (word : List ℕ) (n : ℕ) → number word ≡ Some n → word ≡ decimal n
unfolding number
number_spelled [] n e = absurd cc
number_spelled (b ∷ bs) n e = go (is_digit b) refl e
  where
    go : (t : Bool) → is_digit b ≡ t → cond t (number_from (b - 48) bs) None ≡ Some n → b ∷ bs ≡ decimal n
    go true h e =
        let ends = and_parts (nat_le 48 b) (nat_le b 57) h in
        let low : 48 ≤ b = leb-true _ _ ends.0 in
        let high : b ≤ 57 = leb-true _ _ ends.1 in
        let same : b ≡ 48 + (b - 48) = omega arith in
        ap (λ (c : ℕ). c ∷ bs) same ∙ number_from_spelled (b - 48) n bs (omega arith) e
    go false h e = absurd cc

pub number_words : (ts : List Token) (n : ℕ) (rest : List Token) → number_at ts ≡ Ok (n, rest) → words ts ≡ decimal n ∷ words rest
number_words ts n rest e =
    let m = token_words number ts n rest e in
    m.words_are ∙ ap (λ (w : List ℕ). w ∷ words rest) (number_spelled m.word n m.means)

number_term_same : (word : List ℕ) (o : Option ℕ) (t : Term (List ℕ)) → number word ≡ o → option_map Number o ≡ Some t → word ≡ term_word t
number_term_same word (Some n) t h e = number_spelled word n h ∙ ap term_word (some_same (Number n) t e)
number_term_same word None t h e = absurd cc

term_same : (word : List ℕ) (t : Term (List ℕ)) → term word ≡ Some t → word ≡ term_word t
term_same word t e = go (is_name word) e
  where
    go : (b : Bool) → cond b (Some (Variable word)) (option_map Number (number word)) ≡ Some t → word ≡ term_word t
    go true e = ap term_word (some_same (Variable word) t e)
    go false e = number_term_same word (number word) t refl e

term_words : (ts : List Token) (t : Term (List ℕ)) (rest : List Token) → term_at ts ≡ Ok (t, rest) → words ts ≡ term_word t ∷ words rest
term_words ts t rest e =
    let m = token_words term ts t rest e in
    m.words_are ∙ ap (λ (w : List ℕ). w ∷ words rest) (term_same m.word t m.means)

-- a word that was to come
word_same : (w : List ℕ) (t : Token) (ts rest : List Token) (b : Bool) → bytes_eq t.word w ≡ b → cond {A = Result (List Token) ℕ} b (Ok ts) (Err t.left) ≡ Ok rest → t.word ∷ words ts ≡ w ∷ words rest
word_same w t ts rest true h e =
    let same : t.word ≡ w = (bytes_eq-Decides t.word w).0 h in
    let more : ts ≡ rest = cc in
    ap (λ (l : List ℕ). l ∷ words ts) same ∙ ap (λ (l : List Token). w ∷ words l) more
word_same w t ts rest false h e = absurd cc

pub word_words : (w : List ℕ) (ts rest : List Token) → word_at w ts ≡ Ok rest → words ts ≡ w ∷ words rest
word_words w [] rest e = absurd cc
word_words w (t ∷ ts) rest e = word_same w t ts rest (bytes_eq t.word w) refl e

pub begins_words : (w : List ℕ) (ts : List Token) → begins w ts ≡ true → words ts ≡ w ∷ words (behind ts)
begins_words w [] h = absurd cc
begins_words w (t ∷ ts) h = ap (λ (l : List ℕ). l ∷ words ts) ((bytes_eq-Decides t.word w).0 h)

sum_words : (first : Term (List ℕ)) (ts : List Token) (x : Expr (List ℕ)) (rest : List Token) → sum_at first ts ≡ Ok (x, rest) → term_word first ∷ words ts ≡ expr_words x ++ words rest
unfolding sum_at
sum_words first ts x rest e =
    either_of (begins (codes "+") ts) _ _ (x, rest) (term_word first ∷ words ts ≡ expr_words x ++ words rest)
    (λ b g. second Plus (codes "+") (λ t. refl) b g)
    (λ n. either_of (begins (codes "-") ts) _ _ (x, rest) (term_word first ∷ words ts ≡ expr_words x ++ words rest)
    (λ b g. second Minus (codes "-") (λ t. refl) b g)
    (λ (m : begins (codes "-") ts ≡ false) (g : ◌≡◌ {A = Result (Expr (List ℕ) × List Token) ℕ} (Ok (One first, ts)) (Ok (x, rest))).
    let p = ok_pair (One first) x ts rest g in
    ap (λ (l : List Token). term_word first ∷ words l) p.1 ∙ ap (λ (q : Expr (List ℕ)). expr_words q ++ words rest) p.0))
    e
  where
    second : (make : Term (List ℕ) → Term (List ℕ) → Expr (List ℕ)) (sign : List ℕ) → ((t : Term (List ℕ)) → expr_words (make first t) ≡ term_word first ∷ sign ∷ term_word t ∷ []) → begins sign ts ≡ true → ◌>>=◌ {B = Expr (List ℕ) × List Token} (term_at (behind ts)) (λ q. Ok (make first q.0, q.1)) ≡ Ok (x, rest) → term_word first ∷ words ts ≡ expr_words x ++ words rest
    second make sign spell b g =
        let m = made_of (term_at (behind ts)) (make first) x rest g in
        ap (λ (l : List (List ℕ)). term_word first ∷ l) (begins_words sign ts b ∙ ap (λ (l : List (List ℕ)). sign ∷ l) (term_words (behind ts) m.part rest m.read))
        ∙ ap (λ (l : List (List ℕ)). l ++ words rest) (sym (spell m.part))
        ∙ ap (λ (q : Expr (List ℕ)). expr_words q ++ words rest) m.is

pub read_expr_words : (ts : List Token) (x : Expr (List ℕ)) (rest : List Token) → expr_at ts ≡ Ok (x, rest) → words ts ≡ expr_words x ++ words rest
unfolding expr_at
read_expr_words ts x rest e =
    let a = bind_ok (term_at ts) (λ (first : Term (List ℕ) × List Token). sum_at first.0 first.1) (x, rest) e in
    term_words ts a.0.0 a.0.1 a.1 ∙ sum_words a.0.0 a.0.1 x rest a.2

-- two parts, one behind another
pub joined : (a ab b rest : List (List ℕ)) (all : List (List ℕ)) → all ≡ a ++ ab → ab ≡ b ++ rest → all ≡ (a ++ b) ++ rest
joined a ab b rest all e f = e ∙ ap (λ (l : List (List ℕ)). a ++ l) f ∙ sym (append_assoc a b rest)

pub compare_read_words : (ts : List Token) (x : Compare (List ℕ)) (rest : List Token) → compare_at ts ≡ Ok (x, rest) → words ts ≡ compare_words x ++ words rest
unfolding compare_at comparison_at
compare_read_words ts x rest e =
    let a = bind_ok (expr_at ts) (λ (left : Expr (List ℕ) × List Token). comparison_at left.0 left.1) (x, rest) e in
    let left = read_expr_words ts a.0.0 a.0.1 a.1 in
    either_of (begins (codes "=") a.0.1) _ _ (x, rest) (words ts ≡ compare_words x ++ words rest)
    (λ b g. let m = made_of (expr_at (behind a.0.1)) (Equal a.0.0) x rest g in
    joined (expr_words a.0.0) (words a.0.1) (codes "=" ∷ expr_words m.part) (words rest) (words ts) left (begins_words (codes "=") a.0.1 b ∙ ap (λ (l : List (List ℕ)). codes "=" ∷ l) (read_expr_words (behind a.0.1) m.part rest m.read))
    ∙ ap (λ (q : Compare (List ℕ)). compare_words q ++ words rest) m.is)
    (λ n g. less a.0.0 a.0.1 left g)
    a.2
  where
    less : (l : Expr (List ℕ)) (us : List Token) → words ts ≡ expr_words l ++ words us → (word_at (codes "<") us >>= λ more. ◌>>=◌ {B = Compare (List ℕ) × List Token} (expr_at more) (λ right. Ok (Less l right.0, right.1))) ≡ Ok (x, rest) → words ts ≡ compare_words x ++ words rest
    less l us left g =
        let b = bind_ok (word_at (codes "<") us) (λ (more : List Token). ◌>>=◌ {B = Compare (List ℕ) × List Token} (expr_at more) (λ right. Ok (Less l right.0, right.1))) (x, rest) g in
        let m = made_of (expr_at b.0) (Less l) x rest b.2 in
        joined (expr_words l) (words us) (codes "<" ∷ expr_words m.part) (words rest) (words ts) left (word_words (codes "<") us b.0 b.1 ∙ ap (λ (q : List (List ℕ)). codes "<" ∷ q) (read_expr_words b.0 m.part rest m.read))
        ∙ ap (λ (q : Compare (List ℕ)). compare_words q ++ words rest) m.is
