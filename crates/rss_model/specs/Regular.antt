-- Regular sequential serializability of transactions and regular sequential consistency of
-- registers, as one condition on one order of the calls of all services.
use Rattle.std.specs.Prelude.{ℕ, List, IsTrue}
use Rattle.rss_model.specs.declared.history.Entry.{Entry}
use Rattle.rss_model.specs.Mutation.{is_mutation, Conflicts}
use Rattle.rss_model.specs.RealTime.{BeforeInRealTime}
use Rattle.rss_model.specs.Causality.{CausallyBefore}
use Rattle.rss_model.specs.Candidate.{IsCandidate, InOrder}
use Rattle.rss_model.specs.Legal.{Legal}

-- a legal order of the ended calls, and of some mutations without End, that keeps potential
-- causality and puts each ended mutation before every mutation and conflicting read begun later
pub record Regular (h : List Entry) (c : List ℕ) : Type 0 where
  pub candidate : IsCandidate h c
  pub legal : Legal h c
  pub causal : (a b : ℕ) → CausallyBefore h a b → InOrder c a b
  pub mutations : (a b : ℕ) → BeforeInRealTime h a b → IsTrue (is_mutation h a) →
      IsTrue (is_mutation h b) → InOrder c a b
  pub reads : (a b : ℕ) → BeforeInRealTime h a b → Conflicts h b a → InOrder c a b
