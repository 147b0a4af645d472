-- Readings that are admitted one after another, and consistent readings.
use Rattle.std.proofs.Common.{◌≡◌, ℕ, zero, suc, ◌<◌, ◌≤◌, ◌↔◌, max, List, [], ◌∷◌, ◌++◌, length, arith, All, IsTrue}
use Rattle.std.proofs.lemmas.Grind.{common_steps}
use Rattle.truetime.specs.Reading.{Reading, IsReading, reading_at, AreConsistent}
use Rattle.truetime.specs.TrueMoment.{true_moment, admits, moment_after, AreAdmitted}

-- admitted readings end no earlier than the moment that they are admitted from
pub admitted_reach : (m : ℕ) (rs : List Reading) → AreAdmitted m rs → (j : ℕ) → j < length rs → m ≤ (reading_at rs j).latest
admitted_reach m [] a j l = grind (arith, common_steps)
admitted_reach m (r ∷ rs) a zero l = grind (arith, common_steps, a)
admitted_reach m (r ∷ rs) a (suc j) l = let h = admitted_reach (moment_after m r) rs a.2 j in grind (arith, common_steps, h)

-- admitted readings meet, whatever moment they are admitted from
pub admitted_pairs : (m : ℕ) (rs : List Reading) → AreAdmitted m rs → (i j : ℕ) → i ≤ j → j < length rs → (reading_at rs i).earliest ≤ (reading_at rs j).latest
admitted_pairs m [] a i j o l = grind (arith, common_steps)
admitted_pairs m (r ∷ rs) a zero zero o l = grind (arith, common_steps, a)
admitted_pairs m (r ∷ rs) a zero (suc j) o l = let h = admitted_reach (moment_after m r) rs a.2 j in grind (arith, common_steps, h)
admitted_pairs m (r ∷ rs) a (suc i) zero o l = grind (arith, common_steps)
admitted_pairs m (r ∷ rs) a (suc i) (suc j) o l = let h = admitted_pairs (moment_after m r) rs a.2 i j in grind (arith, common_steps, h)

-- admitted readings are consistent
pub admitted_meet : (rs : List Reading) → AreAdmitted 0 rs → AreConsistent rs
admitted_meet rs a = record { meet = admitted_pairs 0 rs a }

-- consistent readings that reach a moment are admitted from it
pub meeting_from : (m : ℕ) (rs : List Reading) → All IsReading rs → ((j : ℕ) → j < length rs → m ≤ (reading_at rs j).latest) → ((i j : ℕ) → i ≤ j → j < length rs → (reading_at rs i).earliest ≤ (reading_at rs j).latest) → AreAdmitted m rs
meeting_from m [] s h p = tt
meeting_from m (r ∷ rs) s h p = (s 0 r (grind (arith, common_steps)), (let l = h 0 (grind (arith, common_steps)) in grind (arith, common_steps, l)), meeting_from (moment_after m r) rs (λ k d l. s (suc k) d (grind (arith, common_steps, l))) (λ j l. (let a = h (suc j) (grind (arith, common_steps, l)) in let b = p 0 (suc j) (omega arith) (grind (arith, common_steps, l)) in grind (arith, common_steps, a, b))) (λ i j o l. p (suc i) (suc j) (omega arith) (grind (arith, common_steps, l))))

-- consistent readings are admitted
pub meeting_admitted : (rs : List Reading) → All IsReading rs → AreConsistent rs → AreAdmitted 0 rs
meeting_admitted rs s c = meeting_from 0 rs s (λ j l. omega arith) c.meet

-- one more reading raises the moment
pub moment_grows : (rs : List Reading) (r : Reading) → true_moment (rs ++ r ∷ []) ≡ moment_after (true_moment rs) r
moment_grows [] r = grind (arith, common_steps)
moment_grows (s ∷ rs) r = let h = moment_grows rs r in grind (arith, common_steps, h)

-- readings admitted from a moment with one more behind them
pub admitted_front : (m : ℕ) (rs : List Reading) (r : Reading) → AreAdmitted m (rs ++ r ∷ []) → AreAdmitted m rs × IsReading r × IsTrue (admits (max m (true_moment rs)) r)
admitted_front m [] r a = (tt, a.0, grind (arith, common_steps, a))
admitted_front m (s ∷ rs) r a = let h = admitted_front (moment_after m s) rs r a.2 in ((a.0, a.1, h.0), h.1, grind (arith, common_steps, h))

-- one more reading behind readings that are admitted from a moment
pub admitted_behind : (m : ℕ) (rs : List Reading) (r : Reading) → AreAdmitted m rs → IsReading r → IsTrue (admits (max m (true_moment rs)) r) → AreAdmitted m (rs ++ r ∷ [])
admitted_behind m [] r a s t = (s, grind (arith, common_steps, t), tt)
admitted_behind m (q ∷ rs) r a s t = (a.0, a.1, admitted_behind (moment_after m q) rs r a.2 s (grind (arith, common_steps, t)))

-- one more reading is admitted where the moment allows it
pub admitted_grows : (rs : List Reading) (r : Reading) → AreAdmitted 0 (rs ++ r ∷ []) ↔ (AreAdmitted 0 rs × IsReading r × IsTrue (admits (true_moment rs) r))
admitted_grows rs r = (λ a. (let h = admitted_front 0 rs r a in (h.0, h.1, grind (arith, common_steps, h))), λ a. admitted_behind 0 rs r a.0 a.1 (grind (arith, common_steps, a)))
