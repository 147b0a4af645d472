-- Reading from the front of a line's tokens: Ok with what is read and the tokens behind it, or Err with the place of the first token that cannot stand.
-- A place is the number of bytes from there to the end of the line: 0 is the line's end.
use Rattle.std.specs.Prelude.{◌≡◌, ℕ, suc, zero, List, [], ◌∷◌, ◌++◌, Result, Ok, Err, Option, Some, None, Bool, false, cond, codes}
use Rattle.std.specs.Str.{bytes_eq}
use Rattle.pipeline_lang.specs.Tokens.{Token}
use Rattle.pipeline_lang.specs.declared.stop.Stop.{Stop}
use Rattle.pipeline_lang.specs.declared.stop.Stop.TheVariants.{Misfit, OutOfMemory}

infixl 10 ◌>>=◌
-- what is read behind what was read
abbrev pub ◌>>=◌ : {A B E : Type 0} → Result A E → (A → Result B E) → Result B E
(Ok x) >>= f = f x
(Err e) >>= f = Err e

-- what a function returned, with the tokens that it left, is what is read; want of memory says nothing
abbrev pub Reads : {A : Type 0} → Result A Stop → List Token → Result (A × List Token) ℕ → Type 0
Reads (Ok x) rest read = read ≡ Ok (x, rest)
Reads (Err (Misfit left)) rest read = read ≡ Err left
Reads (Err OutOfMemory) rest read = Unit {0}

-- the same of what is read without a value
abbrev pub Steps : Result Unit Stop → List Token → Result (List Token) ℕ → Type 0
Steps (Ok u) rest read = read ≡ Ok rest
Steps (Err (Misfit left)) rest read = read ≡ Err left
Steps (Err OutOfMemory) rest read = Unit {0}

-- the same of what is read up to the end of the line
abbrev pub Gives : {A : Type 0} → Result A Stop → Result A ℕ → Type 0
Gives (Ok x) read = read ≡ Ok x
Gives (Err (Misfit left)) read = read ≡ Err left
Gives (Err OutOfMemory) read = Unit {0}

-- the same of what is added to a list
abbrev pub Adds : {A : Type 0} → Result Unit Stop → List A → List A → List Token → Result (A × List Token) ℕ → Type 0
Adds {A} (Ok u) made more rest read = (x : A) × (read ≡ Ok (x, rest)) × (more ≡ made ++ x ∷ [])
Adds (Err (Misfit left)) made more rest read = read ≡ Err left
Adds (Err OutOfMemory) made more rest read = Unit {0}

-- what a word means, if it means anything
abbrev pub meant : {A : Type 0} → Token → List Token → Option A → Result (A × List Token) ℕ
meant t ts (Some x) = Ok (x, ts)
meant t ts None = Err t.left

-- one token, by what its word means
abbrev pub token_at : {A : Type 0} → (List ℕ → Option A) → List Token → Result (A × List Token) ℕ
token_at meaning [] = Err 0
token_at meaning (t ∷ ts) = meant t ts (meaning t.word)

-- this word alone
abbrev pub word_at : List ℕ → List Token → Result (List Token) ℕ
word_at word [] = Err 0
word_at word (t ∷ ts) = cond (bytes_eq t.word word) (Ok ts) (Err t.left)

-- whether the first token is this word
abbrev pub begins : List ℕ → List Token → Bool
begins word [] = false
begins word (t ∷ ts) = bytes_eq t.word word

-- the tokens behind the first one
abbrev pub behind : List Token → List Token
behind [] = []
behind (t ∷ ts) = ts

-- no token at all: the line ends here
abbrev pub end_at : List Token → Result (List Token) ℕ
end_at [] = Ok []
end_at (t ∷ ts) = Err t.left

-- at most n members, with `,` between; no list has more members than the line has tokens
unfoldable pub members_at : {A : Type 0} → (List Token → Result (A × List Token) ℕ) → ℕ → List Token → Result (List A × List Token) ℕ
members_at member zero ts = Err 0
members_at member (suc n) ts = do
  first ← member ts
  cond (begins (codes ",") first.1)
      (do
        more ← members_at member n (behind first.1)
        Ok (first.0 ∷ more.0, more.1))
      (Ok (first.0 ∷ [], first.1))
