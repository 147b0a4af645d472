-- Which stamps a majority of replicas holds: exactly those up to the greatest one.
use Rattle.std.proofs.Common.{◌≡◌, ℕ, zero, suc, ◌<◌, ◌≤◌, ◌⊎◌, inl, inr, Bool, true, false, List, [], ◌∷◌, length, get_or, refl, ap, ◌∙◌, sym, subst, arith}
use Rattle.std.specs.Prelude.{if◌then◌else◌}
use Rattle.std.proofs.Math.ListN.{set, length-set}
use Rattle.std.proofs.lemmas.Bool.{cond_both, leb-true, le-leb, true≢false, cases_lt}
use Rattle.std.proofs.lemmas.Bool.Decides.{nat_tests}
use Rattle.rss_names.specs.declared.service.Key.{Key}
use Rattle.carstamps.specs.declared.carstamp.Carstamp.{Carstamp}
use Rattle.carstamps.specs.Stamp.{stamp_lt, stamp_le, opening_stamp, greater_stamp}
use Rattle.rss_wire.specs.declared.messages.RegReply.{RegReply}
use Rattle.rss_tables.specs.ReplicaRow.{held_at, accept}
use Rattle.rss_tables.specs.Round.{majority}
use Rattle.rss_machine.specs.Marks.{count_holders, is_held, greatest_held, majority_stamp}
use Rattle.world_laws.proofs.Looks.{looks}
use Rattle.world_laws.proofs.Later.{le_same, le_trans, lt_le}

-- the stamp that the replica at a place, counted from 0, holds of a register
abbrev pub stamp_at : List (List RegReply) → Key → ℕ → Carstamp
stamp_at replicas key place = (held_at (get_or replicas place []) key).stamp

-- the order of stamps, by its tests
pub le_other : (a b : Carstamp) → stamp_le a b ≡ false → stamp_le b a ≡ true
le_other a b e = grind (arith, nat_tests)

pub not_lt_le : (a b : Carstamp) → stamp_lt a b ≡ false → stamp_le b a ≡ true
not_lt_le a b e = grind (arith, nat_tests)

-- where each holder of one stamp holds another one among other replicas, no fewer hold that one
pub count_more : (key : Key) (z y : Carstamp) (rs ts : List (List RegReply)) → length rs ≡ length ts → ((i : ℕ) → i < length rs → stamp_le z (stamp_at rs key i) ≡ true → stamp_le y (stamp_at ts key i) ≡ true) → count_holders key z rs ≤ count_holders key y ts
count_more key z y [] ts l h = omega arith
count_more key z y (r ∷ rs) [] l h = absurd (omega (arith, l))
count_more key z y (r ∷ rs) (t ∷ ts) l h =
    let more = count_more key z y rs ts (omega (arith, l)) (λ i j. h (suc i) (omega (arith, j))) in
    by_tests (stamp_le z (held_at r key).stamp) (stamp_le y (held_at t key).stamp) refl refl more
  where
    by_tests : (a b : Bool) → stamp_le z (held_at r key).stamp ≡ a → stamp_le y (held_at t key).stamp ≡ b → count_holders key z rs ≤ count_holders key y ts → (if a then suc (count_holders key z rs) else count_holders key z rs) ≤ (if b then suc (count_holders key y ts) else count_holders key y ts)
    by_tests true true e f m = omega (arith, m)
    by_tests true false e f m = absurd (true≢false (sym (h 0 (omega arith) e) ∙ f))
    by_tests false true e f m = omega (arith, m)
    by_tests false false e f m = m

-- and a majority holds it
pub held_more : (key : Key) (z y : Carstamp) (rs ts : List (List RegReply)) → length rs ≡ length ts → ((i : ℕ) → i < length rs → stamp_le z (stamp_at rs key i) ≡ true → stamp_le y (stamp_at ts key i) ≡ true) → is_held rs key z ≡ true → is_held ts key y ≡ true
held_more key z y rs ts l h e =
    let a = leb-true (majority (length rs)) (count_holders key z rs) e in
    let b = count_more key z y rs ts l h in
    le-leb (majority (length ts)) (count_holders key y ts) (omega (arith, a, b, ap majority l))

-- a smaller stamp is held too
pub held_less : (key : Key) (y z : Carstamp) (rs : List (List RegReply)) → stamp_le y z ≡ true → is_held rs key z ≡ true → is_held rs key y ≡ true
held_less key y z rs l e = held_more key z y rs rs refl (λ i j h. le_trans y z (stamp_at rs key i) l h) e

-- who holds it is counted
count_some : (key : Key) (z : Carstamp) (rs : List (List RegReply)) (i : ℕ) → i < length rs → stamp_le z (stamp_at rs key i) ≡ true → 0 < count_holders key z rs
count_some key z [] i l e = absurd (omega (arith, l))
count_some key z (r ∷ rs) zero l e = subst (λ (t : Bool). 0 < (if t then suc (count_holders key z rs) else count_holders key z rs)) (sym e) (omega arith)
count_some key z (r ∷ rs) (suc i) l e =
    let m = count_some key z rs i (omega (arith, l)) e in
    cond_both (stamp_le z (held_at r key).stamp) (suc (count_holders key z rs)) (count_holders key z rs) (λ (n : ℕ). 0 < n) (λ f. omega arith) (λ f. m)

-- some replica holds the least stamp of those that are at least this one
record Least (key : Key) (z : Carstamp) (rs : List (List RegReply)) : Type 0 where
  place : ℕ
  there : place < length rs
  above : stamp_le z (stamp_at rs key place) ≡ true
  least : (i : ℕ) → i < length rs → stamp_le z (stamp_at rs key i) ≡ true → stamp_le (stamp_at rs key place) (stamp_at rs key i) ≡ true

-- the first replica before others
least_later : (key : Key) (z : Carstamp) (r : List RegReply) (rs : List (List RegReply)) (p : Least key z rs) → (stamp_le z (held_at r key).stamp ≡ true → stamp_le (stamp_at rs key p.place) (held_at r key).stamp ≡ true) → Least key z (r ∷ rs)
least_later key z r rs p f = record { place = suc p.place; there = omega (arith, p.there); above = p.above; least = all }
  where
    all : (i : ℕ) → i < length (r ∷ rs) → stamp_le z (stamp_at (r ∷ rs) key i) ≡ true → stamp_le (stamp_at rs key p.place) (stamp_at (r ∷ rs) key i) ≡ true
    all zero l e = f e
    all (suc i) l e = p.least i (omega (arith, l)) e

least_first : (key : Key) (z : Carstamp) (r : List RegReply) (rs : List (List RegReply)) → stamp_le z (held_at r key).stamp ≡ true → ((i : ℕ) → i < length rs → stamp_le z (stamp_at rs key i) ≡ true → stamp_le (held_at r key).stamp (stamp_at rs key i) ≡ true) → Least key z (r ∷ rs)
least_first key z r rs e f = record { place = 0; there = omega arith; above = e; least = all }
  where
    all : (i : ℕ) → i < length (r ∷ rs) → stamp_le z (stamp_at (r ∷ rs) key i) ≡ true → stamp_le (held_at r key).stamp (stamp_at (r ∷ rs) key i) ≡ true
    all zero l g = le_same (held_at r key).stamp
    all (suc i) l g = f i (omega (arith, l)) g

least_of_two : (key : Key) (z : Carstamp) (r : List RegReply) (rs : List (List RegReply)) → stamp_le z (held_at r key).stamp ≡ true → Least key z rs → Least key z (r ∷ rs)
least_of_two key z r rs e p = by_test (stamp_le (held_at r key).stamp (stamp_at rs key p.place)) refl
  where
    by_test : (t : Bool) → stamp_le (held_at r key).stamp (stamp_at rs key p.place) ≡ t → Least key z (r ∷ rs)
    by_test true f = least_first key z r rs e (λ i l g. le_trans (held_at r key).stamp (stamp_at rs key p.place) (stamp_at rs key i) f (p.least i l g))
    by_test false f = least_later key z r rs p (λ g. le_other (held_at r key).stamp (stamp_at rs key p.place) f)

least_above : (key : Key) (z : Carstamp) (rs : List (List RegReply)) → 0 < count_holders key z rs → Least key z rs
least_above key z [] c = absurd (omega (arith, c))
least_above key z (r ∷ rs) c = by_test (stamp_le z (held_at r key).stamp) refl (cases_lt 0 (count_holders key z rs)) (least_above key z rs)
  where
    by_test : (t : Bool) → stamp_le z (held_at r key).stamp ≡ t → (0 < count_holders key z rs) ⊎ (count_holders key z rs ≤ 0) → (0 < count_holders key z rs → Least key z rs) → Least key z (r ∷ rs)
    by_test true e (inl l) ih = least_of_two key z r rs e (ih l)
    by_test true e (inr l) ih = least_first key z r rs e (λ i j g. absurd (omega (arith, l, count_some key z rs i j g)))
    by_test false e (inl l) ih = least_later key z r rs (ih l) (λ g. absurd (true≢false (sym g ∙ e)))
    by_test false e (inr l) ih = absurd (omega (arith, l, subst (λ (t : Bool). 0 < (if t then suc (count_holders key z rs) else count_holders key z rs)) e c))

-- a stamp that a majority holds is at most what some replica holds
pub held_some : (key : Key) (z : Carstamp) (rs : List (List RegReply)) → is_held rs key z ≡ true → (i : ℕ) × (stamp_le z (stamp_at rs key i) ≡ true)
held_some key z rs e =
    let p = least_above key z rs (omega (arith, leb-true (majority (length rs)) (count_holders key z rs) e)) in
    (p.place, p.above)

-- the greater of two stamps is at least each
greater_left : (a b : Carstamp) → stamp_le a (greater_stamp a b) ≡ true
greater_left a b = cond_both (stamp_lt a b) b a (λ (x : Carstamp). stamp_le a x ≡ true) (λ e. lt_le a b e) (λ e. le_same a)

greater_right : (a b : Carstamp) → stamp_le b (greater_stamp a b) ≡ true
greater_right a b = cond_both (stamp_lt a b) b a (λ (x : Carstamp). stamp_le b x ≡ true) (λ e. le_same b) (λ e. not_lt_le a b e)

-- what a majority holds of some replicas is at most the greatest
greatest_above : (all : List (List RegReply)) (key : Key) (rs : List (List RegReply)) (i : ℕ) → i < length rs → is_held all key (stamp_at rs key i) ≡ true → stamp_le (stamp_at rs key i) (greatest_held all key rs) ≡ true
greatest_above all key [] i l e = absurd (omega (arith, l))
greatest_above all key (r ∷ rs) zero l e = subst (λ (t : Bool). stamp_le (held_at r key).stamp (if t then greater_stamp (held_at r key).stamp (greatest_held all key rs) else greatest_held all key rs) ≡ true) (sym e) (greater_left (held_at r key).stamp (greatest_held all key rs))
greatest_above all key (r ∷ rs) (suc i) l e =
    let h = greatest_above all key rs i (omega (arith, l)) e in
    cond_both (is_held all key (held_at r key).stamp) (greater_stamp (held_at r key).stamp (greatest_held all key rs)) (greatest_held all key rs) (λ (x : Carstamp). stamp_le (stamp_at rs key i) x ≡ true) (λ f. le_trans (stamp_at rs key i) (greatest_held all key rs) (greater_stamp (held_at r key).stamp (greatest_held all key rs)) h (greater_right (held_at r key).stamp (greatest_held all key rs))) (λ f. h)

-- the greatest is held, or the opening one
greatest_is : (all : List (List RegReply)) (key : Key) (rs : List (List RegReply)) → (is_held all key (greatest_held all key rs) ≡ true) ⊎ (greatest_held all key rs ≡ opening_stamp)
greatest_is all key [] = inr refl
greatest_is all key (r ∷ rs) = by_tests (is_held all key (held_at r key).stamp) (stamp_lt (held_at r key).stamp (greatest_held all key rs)) refl refl (greatest_is all key rs)
  where
    by_tests : (a b : Bool) → is_held all key (held_at r key).stamp ≡ a → stamp_lt (held_at r key).stamp (greatest_held all key rs) ≡ b → (is_held all key (greatest_held all key rs) ≡ true) ⊎ (greatest_held all key rs ≡ opening_stamp) → (is_held all key (if a then (if b then greatest_held all key rs else (held_at r key).stamp) else greatest_held all key rs) ≡ true) ⊎ ((if a then (if b then greatest_held all key rs else (held_at r key).stamp) else greatest_held all key rs) ≡ opening_stamp)
    by_tests true true e f h = h
    by_tests true false e f h = inl e
    by_tests false b e f h = h

-- a majority holds a stamp that some replica holds at most where it is at most the greatest
pub held_greatest : (rs : List (List RegReply)) (key : Key) (z : Carstamp) → is_held rs key z ≡ true → stamp_le z (majority_stamp rs key) ≡ true
held_greatest rs key z e =
    let c : 0 < count_holders key z rs = omega (arith, leb-true (majority (length rs)) (count_holders key z rs) e) in
    let p = least_above key z rs c in
    let y = stamp_at rs key p.place in
    let h = held_more key z y rs rs refl p.least e in
    le_trans z y (majority_stamp rs key) p.above (greatest_above rs key rs p.place p.there h)

-- and each stamp up to the greatest one that is above the opening one
pub greatest_held_too : (rs : List (List RegReply)) (key : Key) (z : Carstamp) → stamp_le z opening_stamp ≡ false → stamp_le z (majority_stamp rs key) ≡ true → is_held rs key z ≡ true
greatest_held_too rs key z f e = by_greatest (greatest_is rs key rs)
  where
    by_greatest : (is_held rs key (majority_stamp rs key) ≡ true) ⊎ (majority_stamp rs key ≡ opening_stamp) → is_held rs key z ≡ true
    by_greatest (inl h) = held_less key z (majority_stamp rs key) rs e h
    by_greatest (inr h) = absurd (true≢false (sym (subst (λ (x : Carstamp). stamp_le z x ≡ true) h e) ∙ f))

pub both_ways : (a b : Bool) → (a ≡ true → b ≡ true) → (b ≡ true → a ≡ true) → a ≡ b
both_ways true true f g = refl
both_ways true false f g = sym (f refl)
both_ways false true f g = g refl
both_ways false false f g = refl

-- of stamps above the opening one, a majority holds exactly those up to the greatest
pub held_is : (rs : List (List RegReply)) (key : Key) (z : Carstamp) → stamp_le z opening_stamp ≡ false → is_held rs key z ≡ stamp_le z (majority_stamp rs key)
held_is rs key z f = both_ways (is_held rs key z) (stamp_le z (majority_stamp rs key)) (held_greatest rs key z) (greatest_held_too rs key z f)

-- the stamps of a replica that accepts a value never fall
pub accept_rises : (cells : List RegReply) (key other : Key) (cell : RegReply) → stamp_le (held_at cells other).stamp (held_at (accept cells key cell) other).stamp ≡ true
accept_rises cells key other cell =
    cond_both (stamp_lt (held_at cells key).stamp cell.stamp) (set cells key.index cell) cells (λ (x : List RegReply). stamp_le (held_at cells other).stamp (held_at x other).stamp ≡ true)
    (λ e. (let a = le_same (held_at cells other).stamp in let b = lt_le (held_at cells key).stamp cell.stamp e in grind (arith, looks, a, b)))
    (λ e. le_same (held_at cells other).stamp)

-- another register is not touched
pub accept_other : (cells : List RegReply) (key other : Key) (cell : RegReply) → (key.index ≡ other.index → ⊥) → held_at (accept cells key cell) other ≡ held_at cells other
accept_other cells key other cell n =
    cond_both (stamp_lt (held_at cells key).stamp cell.stamp) (set cells key.index cell) cells (λ (x : List RegReply). held_at x other ≡ held_at cells other) (λ e. grind (arith, looks, n)) (λ e. refl)

-- where one replica changes, what the others hold stays
pub set_rises : (rs : List (List RegReply)) (i : ℕ) (cells : List RegReply) (key : Key) (z : Carstamp) → stamp_le (stamp_at rs key i) (held_at cells key).stamp ≡ true → is_held rs key z ≡ true → is_held (set rs i cells) key z ≡ true
set_rises rs i cells key z up e = held_more key z z rs (set rs i cells) (sym (length-set rs i cells)) one e
  where
    one : (j : ℕ) → j < length rs → stamp_le z (stamp_at rs key j) ≡ true → stamp_le z (stamp_at (set rs i cells) key j) ≡ true
    one j l h = let a = le_trans z (stamp_at rs key i) (held_at cells key).stamp in grind (arith, looks, a, h, up)

pub set_same : (rs : List (List RegReply)) (i : ℕ) (cells : List RegReply) (key : Key) (z : Carstamp) → held_at cells key ≡ held_at (get_or rs i []) key → is_held (set rs i cells) key z ≡ is_held rs key z
set_same rs i cells key z e =
    both_ways (is_held (set rs i cells) key z) (is_held rs key z)
    (λ h. held_more key z z (set rs i cells) rs (length-set rs i cells) (λ j l g. grind (arith, looks, g, e)) h)
    (λ h. held_more key z z rs (set rs i cells) (sym (length-set rs i cells)) (λ j l g. grind (arith, looks, g, e)) h)
