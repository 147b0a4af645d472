-- Reading from the front of a text: Ok with what is read and the text behind it, or Err with the place of the first byte that cannot stand.
-- A place is the number of bytes from there to the end of the text: 0 is the end itself.
use Rattle.std.specs.Prelude.{◌≡◌, ℕ, suc, ◌+◌, ◌≤◌, List, [], ◌∷◌, length, Result, Ok, Err, ◌==◌, cond, nat_le}

infixl 10 ◌>>=◌
-- what is read behind what was read
abbrev pub ◌>>=◌ : {A B : Type 0} → Result A ℕ → (A → Result B ℕ) → Result B ℕ
(Ok x) >>= f = f x
(Err left) >>= f = Err left

-- what a function returned, seen by view, is what is read
abbrev pub Gives : {X Y : Type 0} → (X → Y) → Result X ℕ → Result Y ℕ → Type 0
Gives view (Ok x) read = read ≡ Ok (view x)
Gives view (Err left) read = read ≡ Err left

-- in a text of this length, from least to most bytes were read, or at most so many stand before the place
abbrev pub Near : {X : Type 0} → (X → ℕ) → ℕ → ℕ → ℕ → Result X ℕ → Type 0
Near rest least most len (Ok x) = (rest x + least ≤ len) × (len ≤ rest x + most)
Near rest least most len (Err left) = (left ≤ len) × (len ≤ left + most)

-- this word and nothing else
unfoldable pub after_word : List ℕ → List ℕ → Result (List ℕ) ℕ
after_word [] bytes = Ok bytes
after_word (w ∷ ws) [] = Err 0
after_word (w ∷ ws) (b ∷ bs) = cond (b == w) (after_word ws bs) (Err (suc (length bs)))

-- the lesser of two places, where one of two readings may stand: the place behind which neither can
abbrev pub furthest_of : {A : Type 0} → ℕ → Result A ℕ → Result A ℕ
furthest_of left (Ok x) = Ok x
furthest_of left (Err other) = Err (cond (nat_le left other) left other)

-- either of two readings; where neither stands, the place that lies further behind
abbrev pub furthest : {A : Type 0} → Result A ℕ → Result A ℕ → Result A ℕ
furthest (Ok x) other = Ok x
furthest (Err left) other = furthest_of left other
