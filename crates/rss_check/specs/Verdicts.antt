-- Verdicts on an order of the calls of a history.
use Rattle.std.specs.Prelude.{ℕ, ◌<◌, ◌≤◌, ◌⊎◌, List, length, IsTrue}
use Rattle.pipeline_lang.specs.declared.config.Config.{Config}
use Rattle.rss_model.specs.declared.history.Entry.{Entry}
use Rattle.rss_model.specs.Candidate.{StandsAt, IsCandidate}
use Rattle.rss_model.specs.Causality.{Generates}
use Rattle.rss_model.specs.Legal.{Legal, MeetsTable, table_at}
use Rattle.rss_model.specs.Mutation.{is_mutation, Conflicts}
use Rattle.rss_model.specs.RealTime.{BeforeInRealTime}
use Rattle.rss_model.specs.Regular.{Regular}
use Rattle.rss_model.specs.ScriptRun.{ScriptRun}
use Rattle.order_laws.specs.Standing.{Stands, StandsBefore}
use Rattle.rss_check.specs.declared.verdict.Verdict.{Verdict}
use Rattle.rss_check.specs.declared.verdict.Verdict.TheVariants.{Yes, NotCandidate, NotLegal, NotCausal, NotTimely, NotScript}

-- the least number of which this holds
abbrev pub IsLeast : (ℕ → Type 0) → ℕ → Type 0
IsLeast P n = P n × ((m : ℕ) → m < n → P m → ⊥)

-- the call at the least place that does not meet the table at its turn
pub record IsFirstUnmet (h : List Entry) (c : List ℕ) (call : ℕ) : Type 0 where
  pub place : ℕ
  pub stands : StandsAt c call place
  pub unmet : MeetsTable h (table_at h c place) call → ⊥
  pub before : (j other : ℕ) → j < place → StandsAt c other j → MeetsTable h (table_at h c j) other

-- both calls stand in the order, and the first does not stand before the second
pub record Misplaced (c : List ℕ) (a b : ℕ) : Type 0 where
  pub first : Stands c a
  pub second : Stands c b
  pub not_before : StandsBefore c a b → ⊥

-- a cause of b is misplaced: it makes a generating pair of causality with b
abbrev pub LacksCause : List Entry → List ℕ → ℕ → Type 0
LacksCause h c b = (a : ℕ) × Generates h a b × Misplaced c a b

-- real time puts a call before b: it is an ended mutation, and b another one or a read that conflicts with it
pub record MustFollow (h : List Entry) (a b : ℕ) : Type 0 where
  pub time : BeforeInRealTime h a b
  pub mutates : IsTrue (is_mutation h a)
  pub meets : IsTrue (is_mutation h b) ⊎ Conflicts h b a

-- such a call is misplaced
abbrev pub LacksTime : List Entry → List ℕ → ℕ → Type 0
LacksTime h c b = (a : ℕ) × MustFollow h a b × Misplaced c a b

-- a stage of the file does not run its script
pub record StraysFromScript (config : Config) (h : List Entry) (stage : ℕ) : Type 0 where
  pub first : 1 ≤ stage
  pub last : stage ≤ 16
  pub there : stage ≤ length config.bodies
  pub strays : ScriptRun config h stage → ⊥

-- a verdict is right: the first of them that applies
abbrev pub IsVerdict : Config → List Entry → List ℕ → Verdict → Type 0
IsVerdict config h c Yes = Regular h c × ((s : ℕ) → StraysFromScript config h s → ⊥)
IsVerdict config h c NotCandidate = IsCandidate h c → ⊥
IsVerdict config h c (NotLegal n) = IsCandidate h c × IsFirstUnmet h c n
IsVerdict config h c (NotCausal n) = IsCandidate h c × Legal h c × IsLeast (LacksCause h c) n
IsVerdict config h c (NotTimely n) =
    IsCandidate h c × Legal h c × ((b : ℕ) → LacksCause h c b → ⊥) × IsLeast (LacksTime h c) n
IsVerdict config h c (NotScript s) = Regular h c × IsLeast (StraysFromScript config h) s
