-- The order of stamps, by its tests.
use Rattle.std.proofs.Common.{◌≡◌, true, false, arith}
use Rattle.std.proofs.lemmas.Bool.{cond_both}
use Rattle.std.proofs.lemmas.Bool.Decides.{nat_tests}
use Rattle.carstamps.specs.declared.carstamp.Carstamp.{Carstamp}
use Rattle.carstamps.specs.Stamp.{IsAtMost, stamp_lt, stamp_le, opening_stamp, greater_stamp}

pub le_itself : (a : Carstamp) → stamp_le a a ≡ true
le_itself a = grind (arith, nat_tests)

pub le_chain : (a b c : Carstamp) → stamp_le a b ≡ true → stamp_le b c ≡ true → stamp_le a c ≡ true
le_chain a b c e f = grind (arith, nat_tests)

pub le_or_above : (a b : Carstamp) → stamp_le a b ≡ false → stamp_le b a ≡ true
le_or_above a b e = grind (arith, nat_tests)

pub lt_or_below : (a b : Carstamp) → stamp_lt a b ≡ false → stamp_le b a ≡ true
lt_or_below a b e = grind (arith, nat_tests)

pub lt_is_le : (a b : Carstamp) → stamp_lt a b ≡ true → stamp_le a b ≡ true
lt_is_le a b e = grind (arith, nat_tests)

pub opening_le : (a : Carstamp) → stamp_le opening_stamp a ≡ true
opening_le a = grind (arith, nat_tests)

-- the tests and the relation
pub le_at_most : (a b : Carstamp) → stamp_le a b ≡ true → IsAtMost a b
le_at_most a b e = grind (arith, nat_tests)

pub at_most_le : (a b : Carstamp) → IsAtMost a b → stamp_le a b ≡ true
at_most_le a b h = grind (arith, nat_tests)

-- the greater of two stamps is at least each
pub greater_first : (a b : Carstamp) → stamp_le a (greater_stamp a b) ≡ true
greater_first a b = cond_both (stamp_lt a b) b a (λ (x : Carstamp). stamp_le a x ≡ true) (λ e. lt_is_le a b e) (λ e. le_itself a)

pub greater_second : (a b : Carstamp) → stamp_le b (greater_stamp a b) ≡ true
greater_second a b = cond_both (stamp_lt a b) b a (λ (x : Carstamp). stamp_le b x ≡ true) (λ e. le_itself b) (λ e. lt_or_below a b e)
