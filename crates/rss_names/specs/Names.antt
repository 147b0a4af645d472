-- what a name is: a lower-case letter, and then at most 15 lower-case letters, digits or `_`
use Rattle.std.specs.Prelude.{ℕ, ◌-◌, ◌≡◌, Bool, true, false, ◌&&◌, ◌||◌, ◌==◌, nat_le, List, [], ◌∷◌, ◌++◌, length, take, replicate}
use Rattle.std.specs.List.{list_all}

-- a lower-case letter
abbrev pub is_letter : ℕ → Bool
is_letter b = nat_le 97 b && nat_le b 122

-- a byte that may stand behind the first one of a name
abbrev pub is_name_byte : ℕ → Bool
is_name_byte b = is_letter b || (nat_le 48 b && nat_le b 57) || b == 95

-- a name
unfoldable pub is_name : List ℕ → Bool
is_name [] = false
is_name (b ∷ bs) = is_letter b && nat_le (length bs) 15 && list_all is_name_byte bs

-- the text with zeros behind it, 16 bytes in all
abbrev pub padded : List ℕ → List ℕ
padded text = text ++ replicate (16 - length text) 0

-- the bytes hold a name of this length, and zeros behind it
pub record HoldsName (bytes : List ℕ) (len : ℕ) : Type 0 where
  pub named : is_name (take len bytes) ≡ true
  pub sized : length (take len bytes) ≡ len
  pub zeros : padded (take len bytes) ≡ bytes
