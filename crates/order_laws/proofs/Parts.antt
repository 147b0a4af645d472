-- A regular order from its parts.
use Rattle.std.proofs.Common.{ℕ, ◌<◌, inl, inr, List, arith}
use Rattle.std.specs.Prelude.{◌≢◌, AllPairs, IsTrue}
use Rattle.rss_model.specs.declared.history.Entry.{Entry}
use Rattle.rss_model.specs.Mutation.{is_mutation, Conflicts}
use Rattle.rss_model.specs.RealTime.{BeforeInRealTime}
use Rattle.rss_model.specs.Causality.{BeforeByMessages, ReadsFrom, Generates, CausallyBefore}
use Rattle.rss_model.specs.Candidate.{StandsAt, IsCandidate, InOrder}
use Rattle.rss_model.specs.Legal.{Legal}
use Rattle.rss_model.specs.Regular.{Regular}
use Rattle.rss_model.proofs.OrderLemmas.{StandsAbove, stands_once, closure_above, causal_in_order}
use Rattle.order_laws.specs.Standing.{Stands, StandsBefore}
use Rattle.order_laws.proofs.Readers.{writer_above}

-- a call that stands before another stands above it wherever that one stands
pub stands_above : (c : List ℕ) (a b j : ℕ) → AllPairs (λ a b. a ≢ b) c → StandsBefore c a b →
    StandsAt c b j → StandsAbove c a j
stands_above c a b j d s t =
    let same = stands_once c b s.second j d s.second_stands t in
    let above : s.first < j = omega (arith, same, s.before) in
    record { place = s.first; stands = s.first_stands; above = above }

pub stands_before : (c : List ℕ) (a b j : ℕ) → StandsAt c b j → StandsAbove c a j →
    StandsBefore c a b
stands_before c a b j t s = record { first = s.place; second = j; first_stands = s.stands; second_stands = t; before = s.above }

-- then wherever both stand they are in order
pub stands_in_order :
    (c : List ℕ) (a b : ℕ) → AllPairs (λ a b. a ≢ b) c → StandsBefore c a b → InOrder c a b
stands_in_order c a b d s i j t u =
    let first = stands_once c a s.first i d s.first_stands t in
    let second = stands_once c b s.second j d s.second_stands u in
    omega (arith, first, second, s.before)

-- the closure of the generating pairs
pub closure_before : (h : List Entry) (c : List ℕ) → AllPairs (λ a b. a ≢ b) c →
    ((a b : ℕ) → Generates h a b → Stands c b → StandsBefore c a b) → (a b : ℕ) →
    CausallyBefore h a b → Stands c b → StandsBefore c a b
closure_before h c d pairs a b p (j, t) =
    stands_before c a b j t (closure_above h c (λ x y k g s. stands_above c x y k d (pairs x y g (k, s)) s) a b j p t)

pub writer_before : (h : List Entry) (c : List ℕ) (a b : ℕ) → Legal h c → ReadsFrom h b a →
    Stands c b → StandsBefore c a b
writer_before h c a b legal r (j, t) = stands_before c a b j t (writer_above h c a b j legal r t)

pub regular_of : (h : List Entry) (c : List ℕ) → IsCandidate h c → Legal h c →
    ((a b : ℕ) → BeforeByMessages h a b → Stands c b → StandsBefore c a b) →
    ((a b : ℕ) → BeforeInRealTime h a b → IsTrue (is_mutation h a) → IsTrue (is_mutation h b) → InOrder c a b) →
    ((a b : ℕ) → BeforeInRealTime h a b → Conflicts h b a → InOrder c a b) → Regular h c
regular_of h c candidate legal messages mutations reads =
    record {
      candidate = candidate;
      legal = legal;
      causal = causal_in_order h c candidate.distinct pairs;
      mutations = mutations;
      reads = reads;
    }
  where
    pairs : (a b j : ℕ) → Generates h a b → StandsAt c b j → StandsAbove c a j
    pairs a b j (inl m) t = stands_above c a b j candidate.distinct (messages a b m (j, t)) t
    pairs a b j (inr r) t = writer_above h c a b j legal r t
