-- Least times at the numbers of transaction services.
use Rattle.std.proofs.Common.{◌≡◌, ℕ, zero, suc, ◌+◌, ◌<◌, ◌≤◌, Option, Some, None, List, [], ◌∷◌, length, get_or, set, drop, drop-cons, unwrap_or, arith, refl, All, AllPairs}
use Rattle.std.proofs.lemmas.Grind.{common_steps}
use Rattle.std.proofs.lemmas.Bool.Decides.{nat_tests}
use Rattle.std.proofs.lemmas.List.{drop_all}
use Rattle.std.proofs.lemmas.List.Elements.{All-cons, All-nil}
use Rattle.std.proofs.lemmas.List.Kept.{AllPairs-cons}
use Rattle.rss_names.specs.declared.service.ServiceId.{ServiceId}
use Rattle.rss_names.specs.declared.service.ServiceId.TheVariants.{Txn, Reg}
use Rattle.causal_context.specs.Services.{IsService, IsTransaction, StandsBefore}
use Rattle.causal_context.specs.LeastTimes.{least_of, put_least, least_raised, least_joined, least_from, services_of, AreLeastTimes}

-- a register service has no least time
pub least_of_register : (times : List (Option ℕ)) (i n : ℕ) → least_of (least_from i times) (Reg n) ≡ 0
unfolding least_from
least_of_register [] i n = refl
least_of_register (None ∷ times) i n = least_of_register times (suc i) n
least_of_register (Some t ∷ times) i n = let r = least_of_register times (suc i) n in grind (arith, common_steps, r)

-- a transaction service of an earlier number has no least time here
pub least_before : (times : List (Option ℕ)) (i n : ℕ) → n < i → least_of (least_from i times) (Txn n) ≡ 0
unfolding least_from
least_before [] i n h = refl
least_before (None ∷ times) i n h = least_before times (suc i) n (omega arith)
least_before (Some t ∷ times) i n h = let r = least_before times (suc i) n (omega arith) in grind (arith, common_steps, nat_tests, r)

-- the least time of the service whose time stands at a place
pub least_there : (times : List (Option ℕ)) (i k n : ℕ) (time : Option ℕ) → n ≡ i + k → k < length times → get_or times k time ≡ time → least_of (least_from i times) (Txn n) ≡ unwrap_or time 0
unfolding least_from
least_there [] i k n time e l g = absurd (omega arith)
least_there (None ∷ times) i zero n time e l g = let r = least_before times (suc i) n (omega arith) in grind (arith, common_steps, r, g)
least_there (None ∷ times) i (suc k) n time e l g = least_there times (suc i) k n time (omega arith) (omega arith) g
least_there (Some s ∷ times) i zero n time e l g = let q : n ≡ i = omega arith in grind (arith, common_steps, nat_tests, q, g)
least_there (Some s ∷ times) i (suc k) n time e l g = let r = least_there times (suc i) k n time (omega arith) (omega arith) g in grind (arith, common_steps, nat_tests, r)

-- a transaction service of a number past the end has no least time
pub least_past : (times : List (Option ℕ)) (i n : ℕ) → i + length times ≤ n → least_of (least_from i times) (Txn n) ≡ 0
unfolding least_from
least_past [] i n l = refl
least_past (None ∷ times) i n l = least_past times (suc i) n (omega arith)
least_past (Some s ∷ times) i n l = let r = least_past times (suc i) n (omega arith) in grind (arith, common_steps, nat_tests, r)

-- what holds of the transaction services of these numbers holds of those with a least time
pub all_timed : (P : ServiceId → Type 0) (times : List (Option ℕ)) (i : ℕ) → ((n : ℕ) → i ≤ n → n < i + length times → P (Txn n)) → All P (services_of (least_from i times))
unfolding least_from
all_timed P [] i h = All-nil P
all_timed P (None ∷ times) i h = all_timed P times (suc i) (λ n a b. h n (omega arith) (omega arith))
all_timed P (Some t ∷ times) i h = All-cons P (Txn i) (services_of (least_from (suc i) times)) (h i (omega arith) (omega arith)) (all_timed P times (suc i) (λ n a b. h n (omega arith) (omega arith)))

-- the services with a least time stand in their order
pub ordered_timed : (times : List (Option ℕ)) (i : ℕ) → AllPairs StandsBefore (services_of (least_from i times))
unfolding least_from
ordered_timed [] i = λ a b d l m. absurd (omega arith)
ordered_timed (None ∷ times) i = ordered_timed times (suc i)
ordered_timed (Some t ∷ times) i = AllPairs-cons StandsBefore (Txn i) (services_of (least_from (suc i) times)) (all_timed (StandsBefore (Txn i)) times (suc i) (λ n a b. (omega arith))) (ordered_timed times (suc i))

-- eight least times stand at transaction services, in their order
pub timed_services : (times : List (Option ℕ)) → length times ≡ 8 → AreLeastTimes (least_from 1 times)
timed_services times h = record {
  services = record { in_range = all_timed IsService times 1 (λ n a b. (omega arith, omega arith)); in_order = ordered_timed times 1 };
  transactions = all_timed IsTransaction times 1 (λ n a b. tt);
}

-- what the least times of a context tell of one service
pub ruleset least_times = (least_there, least_before, least_past, least_of_register, timed_services)

-- a least time of an earlier number is put first
pub put_least_first : (times : List (Option ℕ)) (i n time : ℕ) → n < i → put_least (Txn n) time (least_from i times) ≡ (Txn n, time) ∷ least_from i times
unfolding least_from
put_least_first [] i n time h = refl
put_least_first (None ∷ times) i n time h = put_least_first times (suc i) n time (omega arith)
put_least_first (Some t ∷ times) i n time h = grind (arith, common_steps, nat_tests)

-- to write a time puts it
pub put_least_at : (times : List (Option ℕ)) (i k n time : ℕ) → n ≡ i + k → k < length times → least_from i (set times k (Some time)) ≡ put_least (Txn n) time (least_from i times)
unfolding least_from
put_least_at [] i k n time e h = absurd (omega arith)
put_least_at (None ∷ times) i zero n time e h = let q : n ≡ i = omega arith in let p = put_least_first times (suc i) n time (omega arith) in grind (arith, common_steps, p, q)
put_least_at (Some t ∷ times) i zero n time e h = let q : n ≡ i = omega arith in grind (arith, common_steps, nat_tests, q)
put_least_at (None ∷ times) i (suc k) n time e h = let r = put_least_at times (suc i) k n time (omega arith) (omega arith) in grind (arith, common_steps, r)
put_least_at (Some t ∷ times) i (suc k) n time e h = let r = put_least_at times (suc i) k n time (omega arith) (omega arith) in grind (arith, common_steps, nat_tests, r)

-- what the least times become when one is put
pub ruleset least_puts = (put_least_at)

-- one least time is raised to that which stands at its place, and the whole stays
pub raise_step : (times new others : List (Option ℕ)) (i time : ℕ) (whole : List (ServiceId × ℕ)) → i < length others → get_or others i None ≡ Some time
    → least_from 1 new ≡ least_raised (Txn (i + 1)) time (least_from 1 times)
    → least_joined (least_from 1 times) (least_from (1 + i) (drop i others)) ≡ whole
    → least_joined (least_from 1 new) (least_from (1 + (i + 1)) (drop (i + 1) others)) ≡ whole
unfolding least_from
raise_step times new others i time whole l g n w =
    let c = drop-cons others i None l in
    let e : least_from (1 + i) (drop i others) ≡ (Txn (1 + i), time) ∷ least_from (suc (1 + i)) (drop (suc i) others) = grind (arith, common_steps, c, g) in
    grind (arith, common_steps, e, n, w)

-- where no least time stands nothing is raised
pub skip_step : (times others : List (Option ℕ)) (i : ℕ) (whole : List (ServiceId × ℕ)) → i < length others → get_or others i None ≡ None
    → least_joined (least_from 1 times) (least_from (1 + i) (drop i others)) ≡ whole
    → least_joined (least_from 1 times) (least_from (1 + (i + 1)) (drop (i + 1) others)) ≡ whole
unfolding least_from
skip_step times others i whole l g w =
    let c = drop-cons others i None l in
    let e : least_from (1 + i) (drop i others) ≡ least_from (suc (1 + i)) (drop (suc i) others) = grind (arith, common_steps, c, g) in
    grind (arith, common_steps, e, w)

-- past the last place nothing is left to raise
pub raise_ends : (times others : List (Option ℕ)) (i : ℕ) (whole : List (ServiceId × ℕ)) → length others ≤ i
    → least_joined (least_from 1 times) (least_from (1 + i) (drop i others)) ≡ whole → least_from 1 times ≡ whole
unfolding least_from
raise_ends times others i whole h w = let d = drop_all i others h in grind (arith, common_steps, d, w)
