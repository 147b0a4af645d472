use Rattle.std.proofs.Common.{[], arith}
use Rattle.rss_model.specs.History.{has_ended}
use Rattle.rss_model.specs.Candidate.{IsCandidate}
use Rattle.rss_model.specs.Legal.{Legal}
use Rattle.rss_model.proofs.laws.nothing_is_regular.Goals as goal

candidate : IsCandidate [] []
unfolding has_ended
candidate =
    record {
      distinct = λ i j d l m. grind (arith, m);
      ended = λ call e. grind (arith, e);
      besides = λ call i s. grind (arith, s);
    }

legal : Legal [] []
legal = λ call i s. absurd (grind (arith, s))

-- src/laws.rt:11:1
pub returns : goal.returns
returns c = record {
  candidate = candidate;
  legal = legal;
  causal = λ a b g i j s t. grind (arith, s);
  mutations = λ a b g m n i j s t. grind (arith, s);
  reads = λ a b g m i j s t. grind (arith, s);
}
