-- Marks that rise: what the search by halves finds among them, and what may stand behind them.
use Rattle.std.proofs.Common.{◌≡◌, ℕ, suc, zero, ◌+◌, ◌<◌, ◌≤◌, Bool, true, false, ◌&&◌, List, [], ◌∷◌, ◌++◌, length, get_or, Some, None, arith, refl, sym, ap, ◌∙◌, if◌then◌else◌}
use Rattle.std.specs.Prelude.{is_some}
use Rattle.std.proofs.lemmas.Grind.{common_steps}
use Rattle.rss_names.specs.Ascending.{pair_le, pair_at, Ascend, IsLastAtMost, AreAbove}
use Rattle.carstamps.specs.Stamp.{stamp_lt, stamp_le, opening_stamp}
use Rattle.carstamps.specs.declared.carstamp.Carstamp.{Carstamp}
use Rattle.rss_machine.specs.Marks.{first_mark, is_noted}
use Rattle.rss_machine.specs.declared.state.Mark.{Mark}
use Rattle.reg_world.specs.Rows.{rise_from, pairs_of, count_below}

both-true : (a b : Bool) → (a && b) ≡ true → (a ≡ true) × (b ≡ true)
both-true true b e = (refl, e)
both-true false b e = absurd (let x : false ≡ true = e in cc)

both : (a b : Bool) → a ≡ true → b ≡ true → (a && b) ≡ true
both a b p q = rw (p, q) refl

-- a stamp as a pair
abbrev pair : Carstamp → ℕ × ℕ
pair stamp = (stamp.number, stamp.call)

head-above : (a b : Carstamp) → stamp_lt a b ≡ true → pair_le (pair b) (pair a) ≡ false
head-above a b p = grind (arith, common_steps, p)

above-trans : (a b : Carstamp) (c : ℕ × ℕ) → stamp_lt a b ≡ true → pair_le c (pair b) ≡ false → pair_le c (pair a) ≡ false
above-trans a b c p q = grind (arith, common_steps, p, q)

turned : (a b : ℕ × ℕ) → pair_le b a ≡ false → pair_le a b ≡ true
turned a b p = grind (arith, common_steps, p)

-- each mark is above the stamp that they rise from
above : (start : Carstamp) (marks : List Mark) (i : ℕ) → rise_from start marks ≡ true → i < length (pairs_of marks) → pair_le (pair_at (pairs_of marks) i) (pair start) ≡ false
above start [] i h l = absurd (omega (arith, l))
above start (m ∷ marks) zero h l = head-above start m.stamp (both-true (stamp_lt start m.stamp) (rise_from m.stamp marks) h).0
above start (m ∷ marks) (suc i) h l =
    let p = both-true (stamp_lt start m.stamp) (rise_from m.stamp marks) h in
    above-trans start m.stamp (pair_at (pairs_of marks) i) p.0 (above m.stamp marks i p.1 (grind (arith, l)))

in-order : (start : Carstamp) (marks : List Mark) (i j : ℕ) → rise_from start marks ≡ true → i < j → j < length (pairs_of marks) → pair_le (pair_at (pairs_of marks) i) (pair_at (pairs_of marks) j) ≡ true
in-order start [] i j h k l = absurd (omega (arith, l))
in-order start (m ∷ marks) i zero h k l = absurd (omega (arith, k))
in-order start (m ∷ marks) zero (suc j) h k l =
    turned (pair m.stamp) (pair_at (pairs_of marks) j) (above m.stamp marks j (both-true (stamp_lt start m.stamp) (rise_from m.stamp marks) h).1 (grind (arith, l)))
in-order start (m ∷ marks) (suc i) (suc j) h k l =
    in-order m.stamp marks i j (both-true (stamp_lt start m.stamp) (rise_from m.stamp marks) h).1 (omega (arith, k)) (grind (arith, l))

-- so their stamps ascend
pub rising-ascend : (start : Carstamp) (marks : List Mark) → rise_from start marks ≡ true → Ascend (pairs_of marks)
rising-ascend start marks h = record { in_order = λ i j k l. in-order start marks i j h k l }

le-above : (a b : Carstamp) → pair_le (pair b) (pair a) ≡ false → stamp_le a b ≡ true
le-above a b p = grind (arith, common_steps, p)

lt-not-le : (a b : Carstamp) → stamp_lt b a ≡ true → stamp_le a b ≡ false
lt-not-le a b p = grind (arith, common_steps, p)

same-le : (a b : Carstamp) → stamp_lt b a ≡ false → stamp_le a b ≡ true
same-le a b p = grind (arith, common_steps, p)

between : (a b : Carstamp) (c : ℕ × ℕ) → pair_le c (pair b) ≡ false → pair_le c (pair a) ≡ true → stamp_le a b ≡ false
between a b c p q = grind (arith, common_steps, p, q)

-- where all marks are above a stamp, none stands before them
count-none : (marks : List Mark) (stamp : Carstamp) → ((j : ℕ) → j < length (pairs_of marks) → pair_le (pair_at (pairs_of marks) j) (pair stamp) ≡ false) → count_below stamp marks ≡ 0
count-none [] stamp h = refl
count-none (m ∷ marks) stamp h = rw (le-above stamp m.stamp (h 0 (grind arith))) refl

pub none-below : (marks : List Mark) (stamp : Carstamp) → AreAbove (pairs_of marks) (stamp.number, stamp.call) → count_below stamp marks ≡ 0
none-below marks stamp h = count-none marks stamp h.above

if-suc : (b : Bool) (n : ℕ) → suc (if b then n + 1 else n) ≡ (if b then suc n + 1 else suc n)
if-suc true n = omega arith
if-suc false n = refl

count-last : (start : Carstamp) (marks : List Mark) (stamp : Carstamp) (at : ℕ) (d : Mark) → rise_from start marks ≡ true → at < length (pairs_of marks) → pair_le (pair_at (pairs_of marks) at) (pair stamp) ≡ true
    → ((j : ℕ) → at < j → j < length (pairs_of marks) → pair_le (pair_at (pairs_of marks) j) (pair stamp) ≡ false)
    → count_below stamp marks ≡ (if stamp_lt (get_or marks at d).stamp stamp then at + 1 else at)
count-last start [] stamp at d h w m l = absurd (omega (arith, w))
count-last start (k ∷ marks) stamp zero d h w m l = go (stamp_lt k.stamp stamp) refl
  where
    go : (b : Bool) → stamp_lt k.stamp stamp ≡ b → count_below stamp (k ∷ marks) ≡ (if stamp_lt k.stamp stamp then 0 + 1 else 0)
    go true e = rw (e, lt-not-le stamp k.stamp e, count-none marks stamp (λ j n. l (suc j) (omega arith) (grind (arith, n)))) refl
    go false e = rw (e, same-le stamp k.stamp e) refl
count-last start (k ∷ marks) stamp (suc at) d h w m l =
    let p = both-true (stamp_lt start k.stamp) (rise_from k.stamp marks) h in
    let w' : at < length (pairs_of marks) = grind (arith, w) in
    let e : stamp_le stamp k.stamp ≡ false = between stamp k.stamp (pair_at (pairs_of marks) at) (above k.stamp marks at p.1 w') m in
    rw e (ap suc (count-last k.stamp marks stamp at d p.1 w' m (λ j n q. l (suc j) (omega (arith, n)) (grind (arith, q)))) ∙ if-suc (stamp_lt (get_or marks at d).stamp stamp) at)

-- up to the last mark that is not above a stamp, all are below it, but for that one where it is the same
pub last-below : (start : Carstamp) (marks : List Mark) (stamp : Carstamp) (at : ℕ) (x : Mark) → rise_from start marks ≡ true → IsLastAtMost (pairs_of marks) (stamp.number, stamp.call) at
    → x ≡ get_or marks at x → count_below stamp marks ≡ (if stamp_lt x.stamp stamp then at + 1 else at)
last-below start marks stamp at x h f g =
    count-last start marks stamp at x h f.within f.at_most f.last ∙ ap (λ (m : Mark). if stamp_lt m.stamp stamp then at + 1 else at) (sym g)

-- the first mark that covers a stamp stands behind those below it
first-there : (marks : List Mark) (stamp : Carstamp) (x : Mark) → count_below stamp marks < length marks → x ≡ get_or marks (count_below stamp marks) x → Some x.step ≡ first_mark marks stamp
first-there [] stamp x l e = absurd (omega (arith, l))
first-there (m ∷ marks) stamp x l e = go (stamp_le stamp m.stamp) refl (first-there marks stamp x)
  where
    go : (b : Bool) → stamp_le stamp m.stamp ≡ b → (count_below stamp marks < length marks → x ≡ get_or marks (count_below stamp marks) x → Some x.step ≡ first_mark marks stamp) → Some x.step ≡ first_mark (m ∷ marks) stamp
    go true p ih = rw p (let f : x ≡ m = rw p at e in ap (λ (n : Mark). Some n.step) f)
    go false p ih = rw p (ih (let n = rw p at l in grind (arith, n)) (rw p at e))

first-nowhere : (marks : List Mark) (stamp : Carstamp) → length marks ≤ count_below stamp marks → None ≡ first_mark marks stamp
first-nowhere [] stamp l = refl
first-nowhere (m ∷ marks) stamp l = go (stamp_le stamp m.stamp) refl (first-nowhere marks stamp)
  where
    go : (b : Bool) → stamp_le stamp m.stamp ≡ b → (length marks ≤ count_below stamp marks → None ≡ first_mark marks stamp) → None ≡ first_mark (m ∷ marks) stamp
    go true p ih = absurd (let n = rw p at l in omega (arith, n))
    go false p ih = rw p (ih (let n = rw p at l in grind (arith, n)))

pub first-at : (marks list : List Mark) (stamp : Carstamp) (n : ℕ) (x : Mark) → list ≡ marks → n ≡ count_below stamp marks → n < length list → x ≡ get_or list n x → Some x.step ≡ first_mark marks stamp
first-at marks list stamp n x e f l g = first-there marks stamp x (rw (e, f) at l) (rw (e, f) at g)

pub first-past : (marks list : List Mark) (stamp : Carstamp) (n : ℕ) → list ≡ marks → n ≡ count_below stamp marks → length list ≤ n → None ≡ first_mark marks stamp
first-past marks list stamp n e f l = first-nowhere marks stamp (rw (e, f) at l)

not-le : (a b : Carstamp) → stamp_le a b ≡ false → stamp_lt b a ≡ true
not-le a b p = grind (arith, common_steps, p)

-- a stamp above all marks may stand behind them
rises-more : (start : Carstamp) (marks : List Mark) (mark : Mark) → rise_from start marks ≡ true → stamp_lt start mark.stamp ≡ true → is_some (first_mark marks mark.stamp) ≡ false → rise_from start (marks ++ mark ∷ []) ≡ true
rises-more start [] mark h l n = both (stamp_lt start mark.stamp) true l refl
rises-more start (m ∷ marks) mark h l n = go (stamp_le mark.stamp m.stamp) refl (rises-more m.stamp marks mark)
  where
    go : (b : Bool) → stamp_le mark.stamp m.stamp ≡ b → (rise_from m.stamp marks ≡ true → stamp_lt m.stamp mark.stamp ≡ true → is_some (first_mark marks mark.stamp) ≡ false → rise_from m.stamp (marks ++ mark ∷ []) ≡ true) → rise_from start (m ∷ (marks ++ mark ∷ [])) ≡ true
    go true p ih = absurd (let f : true ≡ false = rw p at n in cc)
    go false p ih =
        let q = both-true (stamp_lt start m.stamp) (rise_from m.stamp marks) h in
        both (stamp_lt start m.stamp) (rise_from m.stamp (marks ++ mark ∷ [])) q.0 (ih q.1 (not-le mark.stamp m.stamp p) (rw p at n))

pub rising-push : (marks more : List Mark) (stamp : Carstamp) (step : ℕ) → rise_from opening_stamp marks ≡ true → is_noted marks stamp ≡ false → more ≡ marks ++ record { stamp = stamp; step = step } ∷ [] → rise_from opening_stamp more ≡ true
rising-push marks more stamp step h n e = rw e (go (stamp_le stamp opening_stamp) refl)
  where
    go : (b : Bool) → stamp_le stamp opening_stamp ≡ b → rise_from opening_stamp (marks ++ record { stamp = stamp; step = step } ∷ []) ≡ true
    go true p = absurd (let f : true ≡ false = rw p at n in cc)
    go false p = rises-more opening_stamp marks record { stamp = stamp; step = step } h (not-le stamp opening_stamp p) (rw p at n)
