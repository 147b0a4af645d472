-- Contexts stay in their orders, with least times under a bound; and what fences they owe.
use Rattle.std.proofs.Common.{ℕ, suc, ◌+◌, ◌<◌, ◌≤◌, max, Bool, true, false, List, [], ◌∷◌, length, get_or, Option, All, AllPairs, arith}
use Rattle.std.specs.Prelude.{not, if◌then◌else◌}
use Rattle.std.proofs.lemmas.Bool.{cond_both}
use Rattle.std.proofs.lemmas.List.{length-map}
use Rattle.std.proofs.lemmas.List.Elements.{All-cons, All-nil, All-head, All-tail, All-filter, All-map, All-weaker}
use Rattle.rss_names.specs.declared.service.ServiceId.{ServiceId}
use Rattle.rss_names.specs.declared.service.ServiceId.TheVariants.{Txn, Reg}
use Rattle.rss_names.specs.Services.{same_service}
use Rattle.causal_context.specs.declared.dep.Dep.{Dep}
use Rattle.causal_context.specs.Deps.{deps_of}
use Rattle.causal_context.specs.LeastTimes.{least_of, put_least, least_set, least_raised, least_joined}
use Rattle.causal_context.specs.Seen.{Seen, nothing_seen, context_joined, after_txn, after_read, after_write, after_fence, fenced_outside, entered, deps_cleared}
use Rattle.causal_context.specs.Services.{IsService, StandsBefore, AreServices, stands_before}
use Rattle.causal_context.proofs.SeenJoins.{joined_is_seen, nothing_is_seen}
use Rattle.causal_context.proofs.SeenKept.{txn_seen, read_seen, write_seen, fence_seen, outside_seen, entered_seen, cleared_seen}
use Rattle.rss_tables.specs.Works.{fence_of, fences_of, fix_unless_none, others_than, plan_for, plan_all}
use Rattle.rss_tables.specs.declared.fences.FenceWork.{FenceWork}
use Rattle.world_laws.specs.Times.{SeenUpTo, FenceUpTo}
use Rattle.size_laws.specs.Fine.{Fine, WorkFine}

-- NUMBERS

pub max_up : (a b c : ℕ) → a ≤ c → b ≤ c → max a b ≤ c
max_up a b c h k = grind (arith, h, k)

-- LEAST TIMES

abbrev pub Low : ℕ → ServiceId × ℕ → Type 0
Low b entry = entry.1 ≤ b

put_up : (b : ℕ) (id : ServiceId) (time : ℕ) (entries : List (ServiceId × ℕ)) → time ≤ b → All (Low b) entries → All (Low b) (put_least id time entries)
put_up b id time [] l h = All-cons (Low b) (id, time) [] l (All-nil (Low b))
put_up b id time (e ∷ entries) l h = by_place (put_up b id time entries l (All-tail (Low b) e entries h)) (stands_before id e.0) (same_service id e.0)
  where
    by_place : All (Low b) (put_least id time entries) → (x y : Bool) → All (Low b) (if x then (id, time) ∷ e ∷ entries else if y then (id, time) ∷ entries else e ∷ put_least id time entries)
    by_place r true y = All-cons (Low b) (id, time) (e ∷ entries) l h
    by_place r false true = All-cons (Low b) (id, time) entries l (All-tail (Low b) e entries h)
    by_place r false false = All-cons (Low b) e (put_least id time entries) (All-head (Low b) e entries h) r

set_up : (b : ℕ) (id : ServiceId) (time : ℕ) (entries : List (ServiceId × ℕ)) → time ≤ b → All (Low b) entries → All (Low b) (least_set id time entries)
set_up b (Txn n) time entries l h = put_up b (Txn n) time entries l h
set_up b (Reg n) time entries l h = h

pub least_up : (b : ℕ) (entries : List (ServiceId × ℕ)) (id : ServiceId) → All (Low b) entries → least_of entries id ≤ b
least_up b [] id h = omega arith
least_up b (e ∷ entries) id h = cond_both (same_service id e.0) e.1 (least_of entries id) (λ (n : ℕ). n ≤ b) (λ q. All-head (Low b) e entries h) (λ q. least_up b entries id (All-tail (Low b) e entries h))

raised_up : (b : ℕ) (id : ServiceId) (time : ℕ) (entries : List (ServiceId × ℕ)) → time ≤ b → All (Low b) entries → All (Low b) (least_raised id time entries)
raised_up b id time entries l h = set_up b id (max (least_of entries id) time) entries (max_up (least_of entries id) time b (least_up b entries id h) l) h

joined_up : (b : ℕ) (entries others : List (ServiceId × ℕ)) → All (Low b) entries → All (Low b) others → All (Low b) (least_joined entries others)
joined_up b entries [] h k = h
joined_up b entries (e ∷ others) h k = joined_up b (least_raised e.0 e.1 entries) others (raised_up b e.0 e.1 entries (All-head (Low b) e others k) h) (All-tail (Low b) e others k)

-- CONTEXTS

pub nothing_fine : (b : ℕ) → Fine b nothing_seen
nothing_fine b = record { times = All-nil (Low b); orders = nothing_is_seen }

pub joined_fine : (b : ℕ) (x y : Seen) → Fine b x → Fine b y → Fine b (context_joined x y)
joined_fine b x y h k = record { times = joined_up b x.least y.least h.times k.times; orders = joined_is_seen x y h.orders k.orders }

pub txn_fine : (b : ℕ) (x : Seen) (id : ServiceId) (time : ℕ) → IsService id → time ≤ b → Fine b x → Fine b (after_txn x id time)
txn_fine b x id time i l h = record { times = set_up b id time x.least l h.times; orders = txn_seen x id time h.orders i }

pub read_fine : (b : ℕ) (x : Seen) (id : ServiceId) (dep : Option Dep) → IsService id → Fine b x → Fine b (after_read x id dep)
read_fine b x id dep i h = record { times = h.times; orders = read_seen x id dep h.orders i }

pub write_fine : (b : ℕ) (x : Seen) (id : ServiceId) → IsService id → Fine b x → Fine b (after_write x id)
write_fine b x id i h = record { times = h.times; orders = write_seen x id h.orders i }

pub fence_fine : (b : ℕ) (x : Seen) (id : ServiceId) → Fine b x → Fine b (after_fence x id)
fence_fine b x id h = record { times = h.times; orders = fence_seen x id h.orders }

pub outside_fine : (b : ℕ) (x : Seen) → Fine b x → Fine b (fenced_outside x)
outside_fine b x h = record { times = h.times; orders = outside_seen x h.orders }

pub entered_fine : (b : ℕ) (x : Seen) (id : ServiceId) (latest : ℕ) → IsService id → latest ≤ b → Fine b x → Fine b (entered x id latest)
entered_fine b x id latest i l h = record { times = raised_up b id latest x.least l h.times; orders = entered_seen x id latest h.orders i }

pub cleared_fine : (b : ℕ) (x : Seen) → Fine b x → Fine b (deps_cleared x)
cleared_fine b x h = record { times = h.times; orders = cleared_seen x h.orders }

-- FENCES

unless_up : (b : ℕ) (deps : List Dep) → FenceUpTo b (fix_unless_none deps)
unless_up b [] = tt
unless_up b (dep ∷ deps) = tt

fence_up : (b : ℕ) (x : Seen) (id : ServiceId) → SeenUpTo b x → FenceUpTo b (fence_of x id)
fence_up b x (Txn n) h = least_up b x.least (Txn n) h
fence_up b x (Reg n) h = unless_up b (deps_of (Reg n) x.deps)

pub fences_fine : (b : ℕ) (x : Seen) (services : List ServiceId) → SeenUpTo b x → All IsService services → All (WorkFine b) (fences_of x services)
fences_fine b x services h a = All-map (WorkFine b) (λ (id : ServiceId). (id, fence_of x id)) services (All-weaker IsService (λ (id : ServiceId). WorkFine b (id, fence_of x id)) (λ id i. (fence_up b x id h, i)) services a)

-- services in their order are sixteen at most
abbrev rank : ServiceId → ℕ
rank (Txn n) = n
rank (Reg n) = 8 + n

rank_rises : (a b : ServiceId) → IsService a → IsService b → StandsBefore a b → rank a < rank b
rank_rises (Txn m) (Txn n) i j l = l
rank_rises (Txn m) (Reg n) i j l = let p = i.1 in let q = j.0 in omega (arith, p, q)
rank_rises (Reg m) (Txn n) i j l = absurd l
rank_rises (Reg m) (Reg n) i j l = omega (arith, l)

rank_least : (a : ServiceId) → IsService a → (1 ≤ rank a) × (rank a ≤ 16)
rank_least (Txn n) i = (i.0, let q = i.1 in omega (arith, q))
rank_least (Reg n) i = (omega arith, let q = i.1 in omega (arith, q))

left_few : (low : ℕ) (ids : List ServiceId) → AllPairs StandsBefore ids → All IsService ids → All (λ (id : ServiceId). low ≤ rank id) ids → low ≤ 17 → low + length ids ≤ 17
left_few low [] p i a l = omega (arith, l)
left_few low (id ∷ ids) p i a l =
    let x : low ≤ rank id = a 0 id (omega arith) in
    let y = (rank_least id (i 0 id (omega arith))).1 in
    let r = left_few (suc (rank id)) ids (λ j k d m n. p (suc j) (suc k) d (omega (arith, m)) (omega (arith, n))) (λ k d m. i (suc k) d (omega (arith, m)))
    (λ k d m. (let q = rank_rises id (get_or ids k d) (i 0 id (omega arith)) (i (suc k) d (omega (arith, m))) (p 0 (suc k) d (omega arith) (omega (arith, m))) in omega (arith, q))) (omega (arith, y)) in
    omega (arith, x, r)

pub few_services : (ids : List ServiceId) → AreServices ids → length ids ≤ 16
few_services ids h = let r = left_few 1 ids h.in_order h.in_range (λ k d m. (rank_least (get_or ids k d) (h.in_range k d m)).0) (omega arith) in omega (arith, r)

fewer : (id : ServiceId) (ids : List ServiceId) → length (others_than id ids) ≤ length ids
fewer id [] = omega arith
fewer id (x ∷ ids) = let r = fewer id ids in cond_both (not (same_service id x)) (x ∷ others_than id ids) (others_than id ids) (λ (ys : List ServiceId). length ys ≤ suc (length ids)) (λ e. omega (arith, r)) (λ e. omega (arith, r))

-- a plan
pub all_fences : (b : ℕ) (x : Seen) → Fine b x → All (WorkFine b) (plan_all x).fences
all_fences b x h = fences_fine b x x.last.services h.times h.orders.last.in_range

pub few_fences : (b : ℕ) (x : Seen) → Fine b x → length (plan_all x).fences ≤ 16
few_fences b x h = let e = length-map {B = ServiceId × FenceWork} x.last.services (λ (id : ServiceId). (id, fence_of x id)) in let l = few_services x.last.services h.orders.last in omega (arith, e, l)

pub for_fences : (b : ℕ) (x : Seen) (id : ServiceId) → Fine b x → All (WorkFine b) (plan_for x id).fences
for_fences b x id h = fences_fine b x (others_than id x.last.services) h.times (All-filter (λ (other : ServiceId). not (same_service id other)) IsService x.last.services h.orders.last.in_range)

pub few_for : (b : ℕ) (x : Seen) (id : ServiceId) → Fine b x → length (plan_for x id).fences ≤ 16
few_for b x id h =
    let e = length-map {B = ServiceId × FenceWork} (others_than id x.last.services) (λ (other : ServiceId). (other, fence_of x other)) in
    let l = few_services x.last.services h.orders.last in
    let m = fewer id x.last.services in
    omega (arith, e, l, m)
