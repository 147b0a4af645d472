-- The first token of a line that begins with no space.
use Rattle.std.proofs.Common.{◌≡◌, ℕ, suc, Bool, true, false, ◌&&◌, List, [], ◌∷◌, length, take, drop, refl, ap, ◌∙◌, sym, arith, max, subst}
use Rattle.std.proofs.lemmas.Bool.{cond-true, cond-false, and_from}
use Rattle.std.proofs.lemmas.Bool.Decides.{nat_tests}
use Rattle.rss_names.specs.Names.{is_name_byte}
use Rattle.pipeline_lang.specs.Tokens.{tokens, is_space, goes_on, in_front, further}

-- a byte of a word is no space
pub word_byte : (b : ℕ) → is_name_byte b ≡ true → is_space b ≡ false
word_byte b h = grind (arith, nat_tests)

pub and_no : (a b : Bool) → b ≡ false → (a && b) ≡ false
and_no a b h = grind arith

pub no_and : (a b : Bool) → a ≡ false → (a && b) ≡ false
no_and a b h = grind arith

-- the token of the first byte, and of n more
abbrev pub First : ℕ → List ℕ → ℕ → Type 0
First b bs n = tokens (b ∷ bs) ≡ record { word = b ∷ take n bs; left = suc (length bs) } ∷ tokens (drop n bs)

-- a word goes on
longer : (b c : ℕ) (bs : List ℕ) (n : ℕ) → is_name_byte b ≡ true → is_name_byte c ≡ true → First c bs n → First b (c ∷ bs) (suc n)
unfolding tokens
longer b c bs n p q e = cond-false (is_space b) _ _ (word_byte b p) ∙ cond-true (is_name_byte b && is_name_byte c) _ _ (and_from _ _ p q) ∙ ap (in_front b) e

-- a token of one byte
pub single : (b : ℕ) (bs : List ℕ) → is_space b ≡ false → (is_name_byte b && goes_on bs) ≡ false → First b bs 0
unfolding tokens
single b bs s e = cond-false (is_space b) _ _ s ∙ cond-false (is_name_byte b && goes_on bs) _ _ e

pub word_first : (b : ℕ) (bs : List ℕ) → is_name_byte b ≡ true → First b bs (further bs)
word_first b [] w = single b [] (word_byte b w) (and_no (is_name_byte b) false refl)
word_first b (c ∷ bs) w = go (is_name_byte c) refl (word_first c bs)
  where
    go : (t : Bool) → is_name_byte c ≡ t → (is_name_byte c ≡ true → First c bs (further bs)) → First b (c ∷ bs) (further (c ∷ bs))
    go true e h = subst (λ (n : ℕ). First b (c ∷ bs) n) (sym (cond-true (is_name_byte c) _ _ e)) (longer b c bs (further bs) w e (h e))
    go false e h = subst (λ (n : ℕ). First b (c ∷ bs) n) (sym (cond-false (is_name_byte c) _ _ e)) (single b (c ∷ bs) (word_byte b w) (and_no (is_name_byte b) (is_name_byte c) e))

-- the size of the first token: that of a word, else 1
pub first_word : (b : ℕ) (bs : List ℕ) (n : ℕ) → is_space b ≡ false → n ≡ max (further (b ∷ bs)) 1 → tokens (b ∷ bs) ≡ record { word = take n (b ∷ bs); left = suc (length bs) } ∷ tokens (drop n (b ∷ bs))
first_word b bs n s e = go (is_name_byte b) refl
  where
    Sized : ℕ → Type 0
    Sized m = tokens (b ∷ bs) ≡ record { word = take m (b ∷ bs); left = suc (length bs) } ∷ tokens (drop m (b ∷ bs))

    go : (t : Bool) → is_name_byte b ≡ t → Sized n
    go true w =
        let f : further (b ∷ bs) ≡ suc (further bs) = cond-true (is_name_byte b) _ _ w in
        let m : n ≡ suc (further bs) = omega (arith, f, e) in
        subst Sized (sym m) (word_first b bs w)
    go false w =
        let f : further (b ∷ bs) ≡ 0 = cond-false (is_name_byte b) _ _ w in
        let m : n ≡ suc 0 = omega (arith, f, e) in
        subst Sized (sym m) (single b bs s (no_and (is_name_byte b) (goes_on bs) w))
