-- Reading from the front of a line: what is read and the bytes behind it, or nothing.
use Rattle.std.specs.Prelude.{◌≡◌, ℕ, zero, suc, ◌&&◌, Bool, nat_eq, nat_le, cond, List, [], ◌∷◌, ◌++◌, length, take, drop, Result, Ok, Err, Option, Some, None, codes}
use Rattle.std.specs.List.{starts_with}
use Rattle.pipeline_lang.specs.Tokens.{further}
use Rattle.pipeline_lang.specs.Terms.{number}
use Rattle.history_text.specs.declared.stop.Stop.{Stop}
use Rattle.history_text.specs.declared.stop.Stop.TheVariants.{Misfit, OutOfMemory}

infixl 10 ◌>>=◌
-- what is read behind what was read
abbrev pub ◌>>=◌ : {A B : Type 0} → Option A → (A → Option B) → Option B
(Some x) >>= f = f x
None >>= f = None

-- what a function returned, with the bytes that it left, is what is read; want of memory says nothing
abbrev pub Reads : {A : Type 0} → Result A Stop → List ℕ → Option (A × List ℕ) → Type 0
Reads (Ok x) rest read = read ≡ Some (x, rest)
Reads (Err Misfit) rest read = read ≡ None
Reads (Err OutOfMemory) rest read = Unit {0}

-- the same of what is read without a value
abbrev pub Steps : Result Unit Stop → List ℕ → Option (List ℕ) → Type 0
Steps (Ok u) rest read = read ≡ Some rest
Steps (Err Misfit) rest read = read ≡ None
Steps (Err OutOfMemory) rest read = Unit {0}

-- the same of what is read up to the end of the line
abbrev pub Gives : {A : Type 0} → Result A Stop → Option A → Type 0
Gives (Ok x) read = read ≡ Some x
Gives (Err Misfit) read = read ≡ None
Gives (Err OutOfMemory) read = Unit {0}

-- the same of what is added to a list
abbrev pub Adds : {A : Type 0} → Result Unit Stop → List A → List A → List ℕ → Option (A × List ℕ) → Type 0
Adds {A} (Ok u) made more rest read = (x : A) × (read ≡ Some (x, rest)) × (more ≡ made ++ x ∷ [])
Adds (Err Misfit) made more rest read = read ≡ None
Adds (Err OutOfMemory) made more rest read = Unit {0}

-- the same of several things that are added
abbrev pub AddsAll : {A : Type 0} → Result Unit Stop → List A → List A → List ℕ → Option (List A × List ℕ) → Type 0
AddsAll {A} (Ok u) made more rest read = (xs : List A) × (read ≡ Some (xs, rest)) × (more ≡ made ++ xs)
AddsAll (Err Misfit) made more rest read = read ≡ None
AddsAll (Err OutOfMemory) made more rest read = Unit {0}

-- whether these bytes come first
abbrev pub begins : List ℕ → List ℕ → Bool
begins word bytes = starts_with nat_eq bytes word

-- the bytes behind so many
abbrev pub behind : List ℕ → List ℕ → List ℕ
behind word bytes = drop (length word) bytes

-- these bytes alone
abbrev pub word_at : List ℕ → List ℕ → Option (List ℕ)
word_at word bytes = cond (begins word bytes) (Some (behind word bytes)) None

-- a value, and the bytes behind it
abbrev pub with_rest : {A : Type 0} → Option A → List ℕ → Option (A × List ℕ)
with_rest (Some x) rest = Some (x, rest)
with_rest None rest = None

-- the lower-case letters, digits and `_` at the front, by what they mean together
abbrev pub token_at : {A : Type 0} → (List ℕ → Option A) → List ℕ → Option (A × List ℕ)
token_at meaning bytes = with_rest (meaning (take (further bytes) bytes)) (drop (further bytes) bytes)

-- a number in a range
abbrev pub in_range : ℕ → ℕ → ℕ → Option ℕ
in_range least most n = cond (nat_le least n && nat_le n most) (Some n) None

-- the number in a range that a word is
abbrev pub ranged : ℕ → ℕ → List ℕ → Option ℕ
ranged least most word = number word >>= in_range least most

-- at most n members, with `, ` between; no list has more members than the line has bytes
unfoldable pub members_at : {A : Type 0} → (List ℕ → Option (A × List ℕ)) → ℕ → List ℕ → Option (List A × List ℕ)
members_at member zero bytes = None
members_at member (suc n) bytes = do
  first ← member bytes
  cond (begins (codes ", ") first.1)
      (do
        more ← members_at member n (behind (codes ", ") first.1)
        Some (first.0 ∷ more.0, more.1))
      (Some (first.0 ∷ [], first.1))

-- all of a line
abbrev pub at_end : {A : Type 0} → A × List ℕ → Option A
at_end (x, []) = Some x
at_end (x, b ∷ bs) = None
