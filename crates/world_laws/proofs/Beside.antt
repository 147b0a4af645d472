-- Two predicates that a step keeps, of which the second looks at what owners have alone.
use Rattle.std.proofs.Common.{ℕ}
use Rattle.truetime.specs.Reading.{Reading}
use Rattle.pipeline_lang.specs.declared.config.Config.{Config}
use Rattle.rss_model.specs.declared.history.How.{How}
use Rattle.rss_machine.specs.State.{State}
use Rattle.rss_machine.specs.declared.state.OwnerFate.{OwnerFate}
use Rattle.world_laws.proofs.OwnerMoves.{OwnerMoves}
use Rattle.world_laws.proofs.StageMoves.{AllMoves, AnyFate, AnyState, Dying, killed, lost, owner_all}

any_dying : (A : OwnerFate → Type 0) (s : State) (n : ℕ) (how : How) (f : OwnerFate) → Dying A s n how f → Dying AnyFate s n how f
any_dying A s n _ _ (killed e) = killed e
any_dying A s n _ _ (lost o target e a g) = lost o target e a tt

pub beside : (c : Config) (at : Reading) (A : OwnerFate → Type 0) (F P : State → Type 0) (R D : State → ℕ → Type 0) (S : State → Type 0) (T : State → ℕ → Type 0) → AllMoves c at A F P R D → OwnerMoves c at S T → AllMoves c at A F (λ s. P s × S s) (λ s o. R s o × T s o) (λ s o. D s o × S s)
beside c at A F P R D S T a m = record {
  acting = λ s n o e h. a.acting s n o e h.0;
  heard = λ s o slot exchange e h. a.heard s o slot exchange e h.0;
  runs = a.runs;
  counted = a.counted;
  fates = λ s k f h. (a.fates s k f h.0, b.fates s k f h.1);
  again = λ s o exchange slot target r d h. (a.again s o exchange slot target r d h.0, b.again s o exchange slot target r d h.1);
  stages = λ s t y d h. (a.stages s t y d h.0, b.stages s t y d h.1);
  dies = λ s n how f y h. (a.dies s n how f y h.0, b.dies s n how f (any_dying A s n how f y) h.1);
  begins = λ s t w x y f d h. (a.begins s t w x y f d h.0, b.begins s t w x y tt d h.1);
  rests = λ s t o w i x y q d h. (a.rests s t o w i x y q d h.0, b.rests s t o w i tt y q d h.1);
  settles = λ s o slot attempt shards outcome i x e d h. (a.settles s o slot attempt shards outcome i x e d h.0, b.settles s o slot attempt shards outcome i tt e d h.1);
  settled = λ s o h. (a.settled s o h.0, b.settled s o h.1);
  works = λ s t o w i y q d h. (a.works s t o w i y q d h.0, b.works s t o w i y q d h.1);
  leaves = λ s t o w outs i y q d h. (a.leaves s t o w outs i y q d h.0, b.leaves s t o w outs i y q d h.1);
  does = λ s t o w outs new x y q d h. (a.does s t o w outs new x y q d h.0, b.does s t o w outs new tt y q d h.1);
  reaches = λ s t o f slot r e i x y z v q d h. (a.reaches s t o f slot r e i x y z v q d h.0, b.reaches s t o f slot r e i tt y z v q d h.1);
  reads = λ s t o f key cell dep x y z v q d h. (a.reads s t o f key cell dep x y z v q d h.0, b.reads s t o f key cell dep tt y z v q d h.1);
  writes = λ s t o f key value stamp x y z v q d h. (a.writes s t o f key value stamp x y z v q d h.0, b.writes s t o f key value stamp tt y z v q d h.1);
  unfit = λ s o f e x y z h. (a.unfit s o f e x y z h.0, b.unfit s o f e x y z h.1);
}
  where
    b : AllMoves c at AnyFate AnyState S T (λ s o. S s)
    b = owner_all c at S T m
