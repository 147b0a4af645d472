-- The comparison of two keys answers as the test of which one is below does.
use Rattle.std.proofs.Common.{◌≡◌, ℕ, Bool, true, false, ◌==◌, ◌&&◌, ◌||◌, refl, arith, nat_lt}
use Rattle.std.specs.declared.cmp.Ordering.{Ordering}
use Rattle.std.specs.declared.cmp.Ordering.TheVariants.{Less, Equal, Greater}
use Rattle.std.specs.Ordering.{nat_cmp, bool_cmp, ordering_then, is_lt, is_eq}
use Rattle.std.proofs.lemmas.Bool.Decides.{nat_tests}
use Rattle.carstamps.specs.Stamp.{stamp_lt}
use Rattle.carstamps.specs.declared.carstamp.Carstamp.{Carstamp}
use Rattle.carstamps.specs.contracts.carstamp.CarstampOrd.TheImpl as stamps
use Rattle.rss_machine.specs.Places.{key_lt, part_lt, reads_lt, same_stamp}
use Rattle.rss_machine.specs.declared.place.PlaceKey.{PlaceKey}
use Rattle.rss_machine.specs.declared.place.PlacePart.{PlacePart}
use Rattle.rss_machine.specs.declared.place.PlacePart.TheVariants.{Txn, Register}
use Rattle.rss_machine.specs.contracts.place.PlacePartOrd.TheImpl as parts
use Rattle.rss_witness.specs.Order.{key_order}

-- what an answer of a comparison says by these tests
record Tells (answer : Ordering) (below same : Bool) : Type 0 where
  less : is_lt answer ≡ below
  equal : is_eq answer ≡ same

-- two comparisons, of which the second counts where the first finds no difference
then_tells : {r s : Ordering} {p q p' q' : Bool} → Tells r p q → Tells s p' q' → Tells (ordering_then r s) (p || (q && p')) (q && q')
then_tells {r} {s} h k = rw (← h.less, ← h.equal, ← k.less, ← k.equal) (by r s)
  where
    by : (r s : Ordering) → Tells (ordering_then r s) (is_lt r || (is_eq r && is_lt s)) (is_eq r && is_eq s)
    by Less s = record { less = refl; equal = refl }
    by Equal s = record { less = refl; equal = refl }
    by Greater s = record { less = refl; equal = refl }

number_tells : (a b : ℕ) → Tells (nat_cmp a b) (nat_lt a b) (a == b)
number_tells a b = record { less = grind (arith, nat_tests); equal = grind (arith, nat_tests) }

-- whether two calls agree in whether they read
abbrev same_reads : Bool → Bool → Bool
same_reads false false = true
same_reads false true = false
same_reads true false = false
same_reads true true = true

-- those that write come before those that read, and else the earlier call first
reads_tells : (reads reads' : Bool) (call call' : ℕ) → Tells (ordering_then (bool_cmp reads reads') (nat_cmp call call')) (reads_lt reads call reads' call') (same_reads reads reads' && call == call')
reads_tells false false call call' = number_tells call call'
reads_tells false true call call' = record { less = refl; equal = refl }
reads_tells true false call call' = record { less = refl; equal = refl }
reads_tells true true call call' = number_tells call call'

-- two stamps of which neither is above the other are the same in both parts
same_parts : (a b : Carstamp) → (a.number == b.number) && (a.call == b.call) ≡ same_stamp a b
same_parts a b = grind (arith, nat_tests)

stamp_tells : (a b : Carstamp) → Tells ((stamps.ghosts).cmp a b) (stamp_lt a b) (same_stamp a b)
stamp_tells a b = rw (← same_parts a b) (then_tells (number_tells a.number b.number) (number_tells a.call b.call))

-- whether two parts are the same, as far as the comparison tells
abbrev same_part : PlacePart → PlacePart → Bool
same_part (Txn t reads call) (Txn t' reads' call') = (t == t') && (same_reads reads reads' && call == call')
same_part (Txn t reads call) (Register register stamp reads' call') = false
same_part (Register register stamp reads call) (Txn t reads' call') = false
same_part (Register register stamp reads call) (Register register' stamp' reads' call') =
    (register == register') && (same_stamp stamp stamp' && (same_reads reads reads' && call == call'))

part_tells : (a b : PlacePart) → Tells ((parts.ghosts).cmp a b) (part_lt a b) (same_part a b)
part_tells (Txn t reads call) (Txn t' reads' call') = then_tells (number_tells t t') (reads_tells reads reads' call call')
part_tells (Txn t reads call) (Register register stamp reads' call') = record { less = refl; equal = refl }
part_tells (Register register stamp reads call) (Txn t reads' call') = record { less = refl; equal = refl }
part_tells (Register register stamp reads call) (Register register' stamp' reads' call') =
    then_tells (number_tells register register') (then_tells (stamp_tells stamp stamp') (reads_tells reads reads' call call'))

key_tells : (a b : PlaceKey) → Tells (key_order a b) (key_lt a b) ((a.step == b.step) && same_part a.part b.part)
unfolding key_order
key_tells a b = then_tells (number_tells a.step b.step) (part_tells a.part b.part)

-- a key is below another exactly where the comparison says so
pub less_is_below : (a b : PlaceKey) → is_lt (key_order a b) ≡ key_lt a b
less_is_below a b = (key_tells a b).less

-- the number at the end of a key
abbrev pub last_of : PlacePart → ℕ
last_of (Txn time reads call) = call
last_of (Register register stamp reads call) = call

same_last : (a b : PlacePart) → same_part a b ≡ true → last_of a ≡ last_of b
same_last (Txn t reads call) (Txn t' reads' call') h = grind (arith, nat_tests, h)
same_last (Txn t reads call) (Register register stamp reads' call') h = absurd (cc)
same_last (Register register stamp reads call) (Txn t reads' call') h = absurd (cc)
same_last (Register register stamp reads call) (Register register' stamp' reads' call') h = grind (arith, nat_tests, h)

-- keys that the comparison does not tell apart end with the same number
pub equal_ends : (a b : PlaceKey) → is_eq (key_order a b) ≡ true → last_of a.part ≡ last_of b.part
equal_ends a b e = same_last a.part b.part (grind (arith, nat_tests, (key_tells a b).equal, e))
