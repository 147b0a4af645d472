-- a table gives each of its names one position, and the name back at it
use Rattle.std.proofs.Common.{ℕ, ◌<◌, ◌≡◌, false, List, length, get_or, slice_get, Some, None, Option, Bor, sym, ap, ◌∙◌, refl, arith}
use Rattle.std.proofs.lemmas.Bool.Decides.{nat_tests}
use borrow.Author.Tests.{ltb-true}
use Rattle.std.proofs.lemmas.List.Quantifiers.{position-Some}
use Rattle.std.proofs.lemmas.List.Sums.{position_or_len_is}
use Rattle.std.proofs.lemmas.Map.Keys.{apart_from_distinct}
use Rattle.std.proofs.lemmas.Option.{slice_get-get_or, slice_get_read, slice_get_within, get_or_from_slice_get}
use Rattle.std.proofs.lemmas.Slice.Eq.{bytes_eq-Decides}
use Rattle.std.specs.Cmp.Lexicographic.{nat_list_eq_equiv}
use Rattle.std.specs.List.{IsDistinct, position_or_len}
use Rattle.std.specs.Option.{IfSome}
use Rattle.std.specs.Slice.{IsGetResult}
use Rattle.std.specs.Str.{bytes_eq}
use Rattle.pipeline_lang.specs.Positions.{position_of}

-- the name at the position that a table gives a name
pub slice_get-position_of : (name : List ℕ) (table : List (List ℕ)) (at : ℕ) → position_of name table ≡ Some at → slice_get table at ≡ Some name
slice_get-position_of name table at h =
    let s = position-Some (bytes_eq name) table at name h in
    slice_get-get_or table at name s.0 ∙ ap Some (sym ((bytes_eq-Decides name (get_or table at name)).0 s.1))

-- the position of the name at a place of a table without repeats
pub position_of-slice_get : (name : List ℕ) (table : List (List ℕ)) (at : ℕ) → IsDistinct bytes_eq table → slice_get table at ≡ Some name → position_of name table ≡ Some at
position_of-slice_get name table at d h =
    let inside : at < length table = slice_get_within table at name h in
    let here : get_or table at name ≡ name = get_or_from_slice_get table at name name h in
    let before : (k : ℕ) → k < at → bytes_eq name (get_or table k name) ≡ false =
    λ k l. nat_list_eq_equiv.symm name (get_or table k name) ∙ (rw here at (apart_from_distinct bytes_eq table k at name d l inside)) in
    let first : position_or_len (bytes_eq name) table ≡ at =
    position_or_len_is (bytes_eq name) table at name (omega arith) before (λ l. (bytes_eq-Decides name (get_or table at name)).1 (sym here)) in
    rw first (grind (arith, nat_tests))

-- what `get` shows of a table without repeats has the position that was asked for
pub only_position : (r : Option (Bor (List ℕ))) (table : List (List ℕ)) (at : ℕ) → IsDistinct bytes_eq table → IsGetResult table at at r → IfSome r (λ name. position_of name.now table ≡ Some at)
only_position None table at d h = tt
only_position (Some name) table at d h =
    position_of-slice_get name.now table at d (slice_get_read table (length table) at name.now refl (ltb-true at (length table) (sym h.0)) h.1)
