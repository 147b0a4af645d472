-- The newest version not above a time stands at the last place of the times at most it.
use Rattle.std.proofs.Common.{◌≡◌, ◌⊎◌, inl, inr, ℕ, suc, zero, ◌-◌, ◌<◌, ◌≤◌, Bool, true, false, ◌||◌, List, [], ◌∷◌, ◌++◌, length, get_or, Some, None, arith, refl, sym, ◌∙◌, nat_le, length-append, slice_get}
use Rattle.std.proofs.lemmas.Grind.{common_steps}
use Rattle.std.proofs.lemmas.Bool.{cases_lt}
use Rattle.std.proofs.lemmas.List.{get_or_append_left, get_or_default, map-append}
use Rattle.std.proofs.lemmas.Option.{get_or_from_slice_get, slice_get-get_or}
use Rattle.std.proofs.Math.Seq.{get_or-append_seam}
use Rattle.rss_names.specs.Ascending.{pair_le, pair_at, Ascend, IsLastAtMost, AreAbove}
use Rattle.rss_wire.specs.declared.messages.Version.{Version}
use Rattle.rss_tables.specs.Versions.{opening_version, last_upto, last_version}
use Rattle.rss_tables.specs.ShardRow.{written_since}
use Rattle.shard_versions.specs.Rows.{times_of}

or-false : (a b : Bool) → (a || b) ≡ false → (a ≡ false) × (b ≡ false)
or-false true b e = cc
or-false false b e = (refl, e)

or-right : (a b : Bool) → b ≡ true → (a || b) ≡ true
or-right true b e = refl
or-right false b e = e

-- a pair without a call is at most another where its time is
pair-time : (s t : ℕ) → pair_le (s, 0) (t, 0) ≡ nat_le s t
pair-time s t = grind (arith, common_steps)

-- where each version is above the time, what was found before stays
none-upto : (versions : List Version) (found : Version) (time : ℕ) → ((j : ℕ) → j < length (times_of versions) → pair_le (pair_at (times_of versions) j) (time, 0) ≡ false) → last_upto found time versions ≡ found
none-upto [] found time h = refl
none-upto (v ∷ versions) found time h =
    let e : nat_le v.time time ≡ false = sym (pair-time v.time time) ∙ h 0 (grind arith) in
    rw e (none-upto versions found time (λ j k. h (suc j) (grind (arith, k))))

-- the last place at most the time has the version
at-last : (versions : List Version) (found : Version) (time at : ℕ) → at < length (times_of versions) → pair_le (pair_at (times_of versions) at) (time, 0) ≡ true
    → ((j : ℕ) → at < j → j < length (times_of versions) → pair_le (pair_at (times_of versions) j) (time, 0) ≡ false) → last_upto found time versions ≡ get_or versions at opening_version
at-last [] found time at w m l = absurd (omega (arith, w))
at-last (v ∷ versions) found time zero w m l =
    let e : nat_le v.time time ≡ true = sym (pair-time v.time time) ∙ m in
    rw e (none-upto versions v time (λ j k. l (suc j) (omega arith) (grind (arith, k))))
at-last (v ∷ versions) found time (suc at) w m l =
    at-last versions _ time at (grind (arith, w)) m (λ j k n. l (suc j) (omega (arith, k)) (grind (arith, n)))

-- what the search by halves finds is the newest version not above the time
pub found-upto : (versions : List Version) (time at : ℕ) → IsLastAtMost (times_of versions) (time, 0) at → last_upto opening_version time versions ≡ get_or versions at opening_version
found-upto versions time at h = at-last versions opening_version time at h.within h.at_most h.last

pub none-found : (versions : List Version) (time : ℕ) → AreAbove (times_of versions) (time, 0) → last_upto opening_version time versions ≡ opening_version
none-found versions time h = none-upto versions opening_version time h.above

-- the last version
pub last-is : (versions : List Version) (found : Version) → 0 < length versions → last_version found versions ≡ get_or versions (length versions - 1) opening_version
last-is [] found h = absurd (omega arith)
last-is (v ∷ []) found h = refl
last-is (v ∷ (w ∷ versions)) found h = last-is (w ∷ versions) v (grind arith) ∙ grind arith

-- so the last pair has the time of the newest version
last-pair : (versions : List Version) (found : Version) → 0 < length versions → pair_at (times_of versions) (length (times_of versions) - 1) ≡ ((last_version found versions).time, 0)
last-pair [] found h = absurd (omega arith)
last-pair (v ∷ []) found h = refl
last-pair (v ∷ (w ∷ versions)) found h = grind arith ∙ last-pair (w ∷ versions) v (grind arith)

le-itself : (a : ℕ × ℕ) → pair_le a a ≡ true
le-itself a = grind (arith, common_steps)

-- no pair is above the last one
upto-last : (pairs : List (ℕ × ℕ)) (i : ℕ) → Ascend pairs → i < length pairs → pair_le (pair_at pairs i) (pair_at pairs (length pairs - 1)) ≡ true
upto-last pairs i h k = go (cases_lt i (length pairs - 1))
  where
    go : ((i < length pairs - 1) ⊎ (length pairs - 1 ≤ i)) → pair_le (pair_at pairs i) (pair_at pairs (length pairs - 1)) ≡ true
    go (inl l) = h.in_order i (length pairs - 1) l (omega arith)
    go (inr l) = let e : i ≡ length pairs - 1 = omega arith in rw e (le-itself (pair_at pairs (length pairs - 1)))

-- where no version is at a time or later, each is below it
below-all : (versions : List Version) (time i : ℕ) → written_since versions time ≡ false → i < length (times_of versions) → pair_le (pair_at (times_of versions) i) (time, 0) ≡ true
below-all [] time i h l = absurd (omega (arith, l))
below-all (v ∷ versions) time zero h l =
    let p = or-false (nat_le time v.time) (written_since versions time) h in
    let q = p.0 in
    grind (arith, common_steps, q)
below-all (v ∷ versions) time (suc i) h l = below-all versions time i (or-false (nat_le time v.time) (written_since versions time) h).1 (grind (arith, l))

-- one more pair that is not below the others keeps the order
Ascend-more : (pairs : List (ℕ × ℕ)) (p : ℕ × ℕ) → Ascend pairs → ((i : ℕ) → i < length pairs → pair_le (pair_at pairs i) p ≡ true) → Ascend (pairs ++ p ∷ [])
Ascend-more pairs p h k = record {
  in_order = λ i j l m. go i j l m (cases_lt j (length pairs));
}
  where
    go : (i j : ℕ) → i < j → j < length (pairs ++ p ∷ []) → ((j < length pairs) ⊎ (length pairs ≤ j)) → pair_le (pair_at (pairs ++ p ∷ []) i) (pair_at (pairs ++ p ∷ []) j) ≡ true
    go i j l m (inl n) = let i' : i < length pairs = omega arith in rw (get_or_append_left pairs (p ∷ []) (0, 0) i i', get_or_append_left pairs (p ∷ []) (0, 0) j n) (h.in_order i j l n)
    go i j l m (inr n) =
        let e : j ≡ length pairs = omega (arith, length-append pairs (p ∷ []), m) in
        let i' : i < length pairs = omega arith in
        rw (e, get_or_append_left pairs (p ∷ []) (0, 0) i i', get_or-append_seam pairs p [] (0, 0)) (k i i')

some-version : (versions : List Version) (i : ℕ) → i < length (times_of versions) → 0 < length versions
some-version [] i h = absurd (omega (arith, h))
some-version (v ∷ versions) i h = grind arith

-- a version above all others keeps the order
pub Ascend-push : (versions : List Version) (v : Version) → Ascend (times_of versions) → written_since versions v.time ≡ false → Ascend (times_of (versions ++ v ∷ []))
Ascend-push versions v h k =
    rw (map-append {B = ℕ × ℕ} (λ (w : Version). (w.time, 0)) versions (v ∷ []))
    (Ascend-more (times_of versions) (v.time, 0) h (λ i l. below-all versions v.time i k l))

-- where the newest version is at a time or later, some version is
some-since : (versions : List Version) (found : Version) (time : ℕ) → 0 < length versions → nat_le time (last_version found versions).time ≡ true → written_since versions time ≡ true
some-since [] found time l h = absurd (omega arith)
some-since (v ∷ []) found time l h = rw h refl
some-since (v ∷ (w ∷ versions)) found time l h =
    let r = some-since (w ∷ versions) v time (grind arith) h in
    or-right (nat_le time v.time) (written_since (w ∷ versions) time) r

-- where each version is below a time, none is at it or later
none-since : (versions : List Version) (s time : ℕ) → ((i : ℕ) → i < length (times_of versions) → pair_le (pair_at (times_of versions) i) (s, 0) ≡ true) → s < time → written_since versions time ≡ false
none-since [] s time h k = refl
none-since (v ∷ versions) s time h k =
    let p = h 0 (grind arith) in
    let q : nat_le time v.time ≡ false = grind (arith, common_steps, p) in
    rw q (none-since versions s time (λ i l. h (suc i) (grind (arith, l))) k)

-- whether some version is at a time or later shows at the newest
pub since-newest : (versions : List Version) (time : ℕ) → Ascend (times_of versions) → 0 < length versions → nat_le time (last_version opening_version versions).time ≡ written_since versions time
since-newest versions time h l = go (nat_le time (last_version opening_version versions).time) refl
  where
    go : (b : Bool) → nat_le time (last_version opening_version versions).time ≡ b → nat_le time (last_version opening_version versions).time ≡ written_since versions time
    go true e = e ∙ sym (some-since versions opening_version time l e)
    go false e =
        e
        ∙ sym (none-since versions (last_version opening_version versions).time time
        (λ i k. rw (last-pair versions opening_version l) at (upto-last (times_of versions) i h k))
        (grind (arith, common_steps, e)))

times-length : (versions : List Version) → length (times_of versions) ≡ length versions
times-length [] = refl
times-length (v ∷ versions) = let e = times-length versions in grind (arith, e)

-- the version at the place that was found is the newest not above the time
pub upto-found : (versions : List Version) (time at : ℕ) (x : Version) → IsLastAtMost (times_of versions) (time, 0) at → x ≡ get_or versions at x → x ≡ last_upto opening_version time versions
upto-found versions time at x h g =
    let l : at < length versions = omega (arith, h.within, times-length versions) in
    g ∙ get_or_default versions at x opening_version l ∙ sym (found-upto versions time at h)

-- the last version, where there is one
pub newest-is : (versions : List Version) (x : Version) → Some x ≡ slice_get versions (length versions - 1) → x ≡ last_version opening_version versions
newest-is [] x h = absurd (let e : Some x ≡ None = h in cc)
newest-is (v ∷ versions) x h =
    let l : length (v ∷ versions) - 1 < length (v ∷ versions) = grind arith in
    let p : 0 < length (v ∷ versions) = grind arith in
    sym (last-is (v ∷ versions) opening_version p ∙ get_or_from_slice_get (v ∷ versions) (length (v ∷ versions) - 1) x opening_version (sym h))

pub since-last : (versions : List Version) (time : ℕ) (x : Version) → Ascend (times_of versions) → Some x ≡ slice_get versions (length versions - 1) → nat_le time x.time ≡ written_since versions time
since-last [] time x h e = absurd (let y : Some x ≡ None = e in cc)
since-last (v ∷ versions) time x h e = rw (newest-is (v ∷ versions) x e) (since-newest (v ∷ versions) time h (grind arith))

-- nothing was written where there is no version
pub none-last : (versions : List Version) (time : ℕ) → None ≡ slice_get versions (length versions - 1) → false ≡ written_since versions time
none-last [] time e = refl
none-last (v ∷ versions) time e =
    let l : length (v ∷ versions) - 1 < length (v ∷ versions) = grind arith in
    absurd (let y = e ∙ slice_get-get_or (v ∷ versions) (length (v ∷ versions) - 1) v l in cc)
