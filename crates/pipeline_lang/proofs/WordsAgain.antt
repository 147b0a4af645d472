-- Words of a printed text are its tokens.
use Rattle.std.proofs.Common.{◌≡◌, ℕ, suc, true, false, ◌&&◌, nat_le, List, [], ◌∷◌, ◌++◌, length, Ok, Option, Some, refl, ap, ◌∙◌, sym, arith}
use Rattle.std.specs.List.{list_all}
use Rattle.std.proofs.lemmas.Bool.{cond-true, cond-false, and_from, and_parts}
use Rattle.rss_names.specs.Names.{is_name, is_name_byte, is_letter}
use Rattle.pipeline_lang.specs.Tokens.{tokens, is_space, goes_on, in_front}
use Rattle.pipeline_lang.specs.Reading.{meant, token_at}
use Rattle.pipeline_lang.proofs.Words.{word_byte, single, and_no}

-- a word: a first byte and more of its bytes
pub record IsWord (word : List ℕ) : Type 0 where
  pub first : ℕ
  pub more : List ℕ
  pub is : word ≡ first ∷ more
  pub byte : is_name_byte first ≡ true
  pub bytes : list_all is_name_byte more ≡ true

-- a word goes on
front : (b : ℕ) (text : List ℕ) → is_name_byte b ≡ true → goes_on text ≡ true → tokens (b ∷ text) ≡ in_front b (tokens text)
unfolding tokens
front b text p q = cond-false (is_space b) _ _ (word_byte b p) ∙ cond-true (is_name_byte b && goes_on text) _ _ (and_from _ _ p q)

pub token_of : (b : ℕ) (more rest : List ℕ) → is_name_byte b ≡ true → list_all is_name_byte more ≡ true → goes_on rest ≡ false → tokens (b ∷ (more ++ rest)) ≡ record { word = b ∷ more; left = suc (length (more ++ rest)) } ∷ tokens rest
token_of b [] rest p q e = single b rest (word_byte b p) (and_no (is_name_byte b) (goes_on rest) e)
token_of b (c ∷ more) rest p q e =
    let parts = and_parts (is_name_byte c) (list_all is_name_byte more) q in
    front b (c ∷ (more ++ rest)) p parts.0 ∙ ap (in_front b) (token_of c more rest parts.0 parts.1 e)

-- what a word that stands in front means
pub meant_again : {A : Type 0} (meaning : List ℕ → Option A) (word rest : List ℕ) (x : A) → IsWord word → goes_on rest ≡ false → meaning word ≡ Some x → token_at meaning (tokens (word ++ rest)) ≡ Ok (x, tokens rest)
meant_again meaning word rest x w e m =
    let t = ap (λ (l : List ℕ). tokens (l ++ rest)) w.is ∙ token_of w.first w.more rest w.byte w.bytes e in
    ap (token_at meaning) t ∙ ap (λ o. meant (record { word = w.first ∷ w.more; left = suc (length (w.more ++ rest)) }) (tokens rest) o) (ap meaning (sym w.is) ∙ m)

letter_byte : (b : ℕ) → is_letter b ≡ true → is_name_byte b ≡ true
letter_byte b h = grind arith

-- a name is a word
pub name_word : (word : List ℕ) → is_name word ≡ true → IsWord word
unfolding is_name
name_word [] h = absurd cc
name_word (b ∷ bs) h =
    let a = and_parts (is_letter b && nat_le (length bs) 15) (list_all is_name_byte bs) h in
    let c = and_parts (is_letter b) (nat_le (length bs) 15) a.0 in
    record { first = b; more = bs; is = refl; byte = letter_byte b c.0; bytes = a.1 }
