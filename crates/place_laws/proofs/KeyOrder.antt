-- Keys are compared by a strict order, which is total on keys of different calls.
use Rattle.std.proofs.Common.{◌≡◌, ℕ, ◌⊎◌, inl, inr, Bool, true, false, refl, arith}
use Rattle.std.proofs.lemmas.Bool.Decides.{nat_tests}
use Rattle.std.specs.Prelude.{◌&&◌, ◌||◌, ◌==◌, nat_lt}
use Rattle.carstamps.specs.declared.carstamp.Carstamp.{Carstamp}
use Rattle.carstamps.specs.Stamp.{stamp_lt}
use Rattle.rss_machine.specs.Places.{reads_lt, same_stamp, part_lt, key_lt}
use Rattle.rss_machine.specs.declared.place.PlaceKey.{PlaceKey}
use Rattle.rss_machine.specs.declared.place.PlacePart.{PlacePart}
use Rattle.rss_machine.specs.declared.place.PlacePart.TheVariants.{Txn, Register}

-- the call of a key
abbrev pub part_call : PlacePart → ℕ
part_call (Txn time reads call) = call
part_call (Register register stamp reads call) = call

abbrev pub key_call : PlaceKey → ℕ
key_call k = part_call k.part

-- those that write, and those that read
reads_trans : (a b c : Bool) (m n k : ℕ) → reads_lt a m b n ≡ true → reads_lt b n c k ≡ true → reads_lt a m c k ≡ true
reads_trans false false false m n k e f = grind (arith, nat_tests, e, f)
reads_trans false false true m n k e f = grind (arith, nat_tests, e, f)
reads_trans false true false m n k e f = grind (arith, nat_tests, e, f)
reads_trans false true true m n k e f = grind (arith, nat_tests, e, f)
reads_trans true false false m n k e f = grind (arith, nat_tests, e, f)
reads_trans true false true m n k e f = grind (arith, nat_tests, e, f)
reads_trans true true false m n k e f = grind (arith, nat_tests, e, f)
reads_trans true true true m n k e f = grind (arith, nat_tests, e, f)

reads_one_way : (a b : Bool) (m n : ℕ) → reads_lt a m b n ≡ true → reads_lt b n a m ≡ true → ⊥
reads_one_way false false m n e f = grind (arith, nat_tests, e, f)
reads_one_way false true m n e f = grind (arith, nat_tests, e, f)
reads_one_way true false m n e f = grind (arith, nat_tests, e, f)
reads_one_way true true m n e f = grind (arith, nat_tests, e, f)

reads_total : (a b : Bool) (m n : ℕ) → (m ≡ n → ⊥) → reads_lt a m b n ≡ false → reads_lt b n a m ≡ true
reads_total false false m n d e = grind (arith, nat_tests, e, d)
reads_total false true m n d e = grind (arith, nat_tests, e)
reads_total true false m n d e = grind (arith, nat_tests, e)
reads_total true true m n d e = grind (arith, nat_tests, e, d)

-- numbers, and stamps, before what decides where they are the same
by_number_first : (r q p : ℕ) (a b c : Bool) → (nat_lt r q || (r == q && a)) ≡ true → (nat_lt q p || (q == p && b)) ≡ true → (a ≡ true → b ≡ true → c ≡ true) → (nat_lt r p || (r == p && c)) ≡ true
by_number_first r q p a b c e f g = grind (arith, nat_tests, e, f, g)

-- a stamp is below another, or it is the same and the rest decides
record SameStamp (z y : Carstamp) (a : Bool) : Type 0 where
  number : z.number ≡ y.number
  call : z.call ≡ y.call
  rest : a ≡ true

stamp_ways : (z y : Carstamp) (a : Bool) → (stamp_lt z y || (same_stamp z y && a)) ≡ true → (stamp_lt z y ≡ true) ⊎ SameStamp z y a
stamp_ways z y a e = by_test (stamp_lt z y) refl
  where
    by_test : (b : Bool) → stamp_lt z y ≡ b → (stamp_lt z y ≡ true) ⊎ SameStamp z y a
    by_test true f = inl f
    by_test false f = inr (record { number = grind (arith, nat_tests, e, f); call = grind (arith, nat_tests, e, f); rest = grind (arith, nat_tests, e, f) })

below : (z y : Carstamp) (a : Bool) → stamp_lt z y ≡ true → (stamp_lt z y || (same_stamp z y && a)) ≡ true
below z y a e = grind (arith, e)

same : (z y : Carstamp) (a : Bool) → SameStamp z y a → (stamp_lt z y || (same_stamp z y && a)) ≡ true
same z y a h = grind (arith, nat_tests, h.number, h.call, h.rest)

below_trans : (z y x : Carstamp) → stamp_lt z y ≡ true → stamp_lt y x ≡ true → stamp_lt z x ≡ true
below_trans z y x e f = grind (arith, nat_tests, e, f)

by_stamp_first : (z y x : Carstamp) (a b c : Bool) → (stamp_lt z y || (same_stamp z y && a)) ≡ true → (stamp_lt y x || (same_stamp y x && b)) ≡ true → (a ≡ true → b ≡ true → c ≡ true) → (stamp_lt z x || (same_stamp z x && c)) ≡ true
by_stamp_first z y x a b c e f g = by_ways (stamp_ways z y a e) (stamp_ways y x b f)
  where
    by_ways : (stamp_lt z y ≡ true) ⊎ SameStamp z y a → (stamp_lt y x ≡ true) ⊎ SameStamp y x b → (stamp_lt z x || (same_stamp z x && c)) ≡ true
    by_ways (inl l) (inl m) = below z x c (below_trans z y x l m)
    by_ways (inl l) (inr m) = below z x c (grind (arith, nat_tests, l, m.number, m.call))
    by_ways (inr l) (inl m) = below z x c (grind (arith, nat_tests, m, l.number, l.call))
    by_ways (inr l) (inr m) = same z x c (record { number = grind (arith, l.number, m.number); call = grind (arith, l.call, m.call); rest = g l.rest m.rest })

-- parts
pub part_trans : (a b c : PlacePart) → part_lt a b ≡ true → part_lt b c ≡ true → part_lt a c ≡ true
part_trans (Txn t a m) (Txn u b n) (Txn v c k) e f = let g = reads_trans a b c m n k in grind (arith, nat_tests, e, f, g)
part_trans (Txn t a m) (Txn u b n) (Register r z c k) e f = refl
part_trans (Txn t a m) (Register r z b n) (Txn v c k) e f = grind (arith, f)
part_trans (Txn t a m) (Register r z b n) (Register q y c k) e f = refl
part_trans (Register r z a m) (Txn u b n) (Txn v c k) e f = grind (arith, e)
part_trans (Register r z a m) (Txn u b n) (Register q y c k) e f = grind (arith, e)
part_trans (Register r z a m) (Register q y b n) (Txn v c k) e f = grind (arith, f)
part_trans (Register r z a m) (Register q y b n) (Register p x c k) e f = by_number_first r q p _ _ _ e f (λ g h. by_stamp_first z y x _ _ _ g h (reads_trans a b c m n k))

pub part_one_way : (a b : PlacePart) → part_lt a b ≡ true → part_lt b a ≡ true → ⊥
part_one_way (Txn t a m) (Txn u b n) e f = let g = reads_one_way a b m n in grind (arith, nat_tests, e, f, g)
part_one_way (Txn t a m) (Register r z b n) e f = grind (arith, f)
part_one_way (Register r z a m) (Txn u b n) e f = grind (arith, e)
part_one_way (Register r z a m) (Register q y b n) e f = let g = reads_one_way a b m n in grind (arith, nat_tests, e, f, g)

pub part_total : (a b : PlacePart) → (part_call a ≡ part_call b → ⊥) → part_lt a b ≡ false → part_lt b a ≡ true
part_total (Txn t a m) (Txn u b n) d e = let g = reads_total a b m n d in grind (arith, nat_tests, e, g)
part_total (Txn t a m) (Register r z b n) d e = grind (arith, e)
part_total (Register r z a m) (Txn u b n) d e = refl
part_total (Register r z a m) (Register q y b n) d e = let g = reads_total a b m n d in grind (arith, nat_tests, e, g)

-- keys
pub key_trans : (a b c : PlaceKey) → key_lt a b ≡ true → key_lt b c ≡ true → key_lt a c ≡ true
key_trans a b c e f = let g = part_trans a.part b.part c.part in grind (arith, nat_tests, e, f, g)

pub key_one_way : (a b : PlaceKey) → key_lt a b ≡ true → key_lt b a ≡ true → ⊥
key_one_way a b e f = let g = part_one_way a.part b.part in grind (arith, nat_tests, e, f, g)

pub key_total : (a b : PlaceKey) → (key_call a ≡ key_call b → ⊥) → key_lt a b ≡ false → key_lt b a ≡ true
key_total a b d e = let g = part_total a.part b.part d in grind (arith, nat_tests, e, g)
