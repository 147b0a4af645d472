-- Where the line `%steps` stands in a whole file with a tail: behind the file, and nowhere before.
use Rattle.std.proofs.Common.{◌≡◌, ◌⊎◌, inl, inr, ℕ, zero, suc, ◌+◌, ◌-◌, ◌<◌, ◌≤◌, Bool, true, false, List, [], ◌∷◌, ◌++◌, length, take, drop, get_or, refl, sym, ap, ◌∙◌, subst, arith, length-append}
use Rattle.std.proofs.Math.Seq.{drop-append_seam}
use Rattle.std.proofs.lemmas.Bool.{true≢false, cases_order}
use Rattle.std.proofs.lemmas.Bool.Decides.{Decides-eqb, nat_tests}
use Rattle.std.proofs.lemmas.List.{get_or-drop, get_or_append_left, get_or-append-add, drop-append-le, length-drop, take-append-le, take-append-drop}
use Rattle.std.proofs.lemmas.Slice.Eq.{starts_is}
use Rattle.std.specs.List.{starts_with}
use Rattle.std.specs.Prelude.{◌&&◌, ◌||◌, ◌==◌, nat_eq, slice_index, codes}
use Rattle.input_parts.specs.Split.{line_begins, line_ends, is_mark}
use Rattle.log_laws.specs.Laws.{IsWholeFile}

-- the word of the line
abbrev pub word : List ℕ
word = codes "%steps"

-- what a mark is
pub record Mark (input : List ℕ) (k : ℕ) : Type 0 where
  pub starts : starts_with nat_eq (drop k input) word ≡ true
  pub begins : line_begins input k ≡ true
  pub ends : line_ends input (k + 6) ≡ true

all_three : (a b c : Bool) → (a && b && c) ≡ true → (a ≡ true) × (b ≡ true) × (c ≡ true)
all_three true true true e = (refl, refl, refl)
all_three true true false e = absurd (true≢false (sym e))
all_three true false c e = absurd (true≢false (sym e))
all_three false b c e = absurd (true≢false (sym e))

three : (a b c : Bool) → a ≡ true → b ≡ true → c ≡ true → (a && b && c) ≡ true
three a b c e f g = rw (e, f, g) refl

pub mark_is : (input : List ℕ) (k : ℕ) → is_mark input k ≡ true → Mark input k
unfolding is_mark
mark_is input k e =
    let all = all_three (starts_with nat_eq (drop k input) word) (line_begins input k) (line_ends input (k + 6)) e in
    record { starts = all.0; begins = all.1; ends = all.2 }

pub is_the_mark : (input : List ℕ) (k : ℕ) → Mark input k → is_mark input k ≡ true
unfolding is_mark
is_the_mark input k m =
    three (starts_with nat_eq (drop k input) word) (line_begins input k) (line_ends input (k + 6)) m.starts m.begins m.ends

-- the bytes of the word stand where it starts
bytes_at : (input : List ℕ) (k j : ℕ) → starts_with nat_eq (drop k input) word ≡ true → j < 6 → get_or input (k + j) 0 ≡ get_or word j 0
bytes_at input k j e l =
    let whole = (starts_is Decides-eqb (drop k input) word (starts_with nat_eq (drop k input) word) refl).0 e in
    sym (get_or-drop k input j 0) ∙ ap (λ (xs : List ℕ). get_or xs j 0) whole ∙ get_or_append_left word (drop 6 (drop k input)) 0 j l

-- of the word only the first byte is the first byte
first_alone : (j : ℕ) → 1 ≤ j → j < 6 → get_or word j 0 ≡ 37 → ⊥
first_alone zero some few e = absurd (omega (arith, some))
first_alone (suc zero) some few e = absurd (omega (arith, e))
first_alone (suc (suc zero)) some few e = absurd (omega (arith, e))
first_alone (suc (suc (suc zero))) some few e = absurd (omega (arith, e))
first_alone (suc (suc (suc (suc zero)))) some few e = absurd (omega (arith, e))
first_alone (suc (suc (suc (suc (suc zero))))) some few e = absurd (omega (arith, e))
first_alone (suc (suc (suc (suc (suc (suc j)))))) some few e = absurd (omega (arith, few))

module _ (file behind : List ℕ) where
  abbrev tail : List ℕ
  tail = codes "%steps\n" ++ behind

  abbrev input : List ℕ
  input = file ++ tail

  -- the byte behind the file
  seam : get_or input (length file) 0 ≡ 37
  seam = let e : length file ≡ length file + 0 = omega arith in ap (λ (n : ℕ). get_or input n 0) e ∙ get_or-append-add file tail 0 0

  in_file : (i : ℕ) → i < length file → get_or input i 0 ≡ get_or file i 0
  in_file i l = get_or_append_left file tail 0 i l

  longer : length file + 7 ≤ length input
  longer = let e = length-append file tail in let f = length-append (codes "%steps\n") behind in omega (arith, e, f)

  -- no mark stands within the file
  none_over : (k : ℕ) → k < length file → length file < k + 6 → is_mark input k ≡ true → ⊥
  none_over k inside over e =
      let m = mark_is input k e in
      let at : k + (length file - k) ≡ length file = omega (arith, inside) in
      let byte = bytes_at input k (length file - k) m.starts (omega (arith, over, inside)) in
      let seen : get_or input (k + (length file - k)) 0 ≡ 37 = ap (λ (n : ℕ). get_or input n 0) at ∙ seam in
      first_alone (length file - k) (omega (arith, inside)) (omega (arith, over, inside)) (sym byte ∙ seen)

  not_end : (i : ℕ) → i ≤ length file → line_ends input i ≡ true → get_or input i 0 ≡ 10
  not_end i l e = by_end (i == length input) (slice_index input i == 10) refl refl e
    where
      by_end : (a b : Bool) → (i == length input) ≡ a → (slice_index input i == 10) ≡ b → (i == length input || slice_index input i == 10) ≡ true → get_or input i 0 ≡ 10
      by_end true b t u h = let far = longer in absurd (grind (arith, nat_tests, t, l, far))
      by_end false true t u h = grind (arith, nat_tests, u)
      by_end false false t u h = absurd (grind (arith, t, u, h))

  none_against : (k : ℕ) → k + 6 ≡ length file → is_mark input k ≡ true → ⊥
  none_against k against e =
      let m = mark_is input k e in
      let ten = not_end (k + 6) (omega (arith, against)) m.ends in
      let here : get_or input (k + 6) 0 ≡ 37 = ap (λ (n : ℕ). get_or input n 0) against ∙ seam in
      absurd (omega (arith, sym ten ∙ here))

  -- a mark before the end of the file is a mark of the file
  begins_so : (k : ℕ) → k < length file → line_begins input k ≡ line_begins file k
  begins_so zero l = refl
  begins_so (suc before) l = ap (λ (b : ℕ). b == 10) (in_file before (omega (arith, l)))

  starts_so : (k : ℕ) → k + 6 < length file → starts_with nat_eq (drop k input) word ≡ true → starts_with nat_eq (drop k file) word ≡ true
  starts_so k l e =
      let whole = (starts_is Decides-eqb (drop k input) word (starts_with nat_eq (drop k input) word) refl).0 e in
      let apart : drop k input ≡ drop k file ++ tail = drop-append-le k file tail (omega (arith, l)) in
      let size : 6 ≤ length (drop k file) = let n = length-drop k file in omega (arith, n, l) in
      let front : take 6 (drop k file) ≡ word = sym (take-append-le 6 (drop k file) tail size) ∙ ap (take 6) (sym apart ∙ whole) ∙ take-append-le 6 word (drop 6 (drop k input)) (omega arith) in
      (starts_is Decides-eqb (drop k file) word (starts_with nat_eq (drop k file) word) refl).1 (drop 6 (drop k file)) (sym (take-append-drop 6 (drop k file)) ∙ ap (λ (xs : List ℕ). xs ++ drop 6 (drop k file)) front)

  ten_ends : (xs : List ℕ) (i : ℕ) → get_or xs i 0 ≡ 10 → line_ends xs i ≡ true
  ten_ends xs i e = by_end (i == length xs) (slice_index xs i == 10) (grind (arith, nat_tests, e))
    where
      by_end : (a b : Bool) → b ≡ true → (a || b) ≡ true
      by_end true b t = refl
      by_end false true t = refl
      by_end false false t = absurd (true≢false (sym t))

  within_file : (k : ℕ) → k + 6 < length file → is_mark input k ≡ true → is_mark file k ≡ true
  within_file k l e =
      let m = mark_is input k e in
      let ten = not_end (k + 6) (omega (arith, l)) m.ends in
      is_the_mark file k (record {
        starts = starts_so k l m.starts;
        begins = sym (begins_so k (omega (arith, l))) ∙ m.begins;
        ends = ten_ends file (k + 6) (sym (in_file (k + 6) l) ∙ ten);
      })

  -- so none stands in a file that has none
  pub none_before : IsWholeFile file → (k : ℕ) → k < length file → is_mark input k ≡ true → ⊥
  none_before w k inside e = by_place (cases_order (k + 6) (length file))
    where
      by_place : (k + 6 ≡ length file) ⊎ ((k + 6 < length file) ⊎ (length file < k + 6)) → ⊥
      by_place (inl a) = none_against k a e
      by_place (inr (inl l)) = true≢false (sym (within_file k l e) ∙ w.unmarked k inside)
      by_place (inr (inr o)) = none_over k inside o e

  -- and one stands behind it
  begins_behind : (n : ℕ) → n ≤ length file → line_begins file n ≡ true → line_begins input n ≡ true
  begins_behind zero l e = refl
  begins_behind (suc before) l e = ap (λ (b : ℕ). b == 10) (in_file before (omega (arith, l))) ∙ e

  pub one_behind : IsWholeFile file → is_mark input (length file) ≡ true
  one_behind w = is_the_mark input (length file) (record {
    starts = (starts_is Decides-eqb (drop (length file) input) word (starts_with nat_eq (drop (length file) input) word) refl).1 (10 ∷ behind) (drop-append_seam file tail);
    begins = begins_behind (length file) (omega arith) w.ended;
    ends = ten_ends input (length file + 6) (get_or-append-add file tail 6 0);
  })

  pub within_input : length file < length input
  within_input = let l = longer in omega (arith, l)
