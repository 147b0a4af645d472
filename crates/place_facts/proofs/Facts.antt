-- The facts of places, from the transaction line.
use Rattle.std.proofs.Common.{◌≡◌, ℕ, suc, ◌≤◌, List, [], ◌∷◌, length, Option, Some, None, refl, sym, ap, ◌∙◌, arith}
use Rattle.std.specs.List.{All}
use Rattle.std.specs.List.Sorted.{IsNonDecreasing}
use Rattle.std.proofs.lemmas.List.Sorted.{IsNonDecreasingBy-from_default}
use Rattle.pipeline_lang.specs.declared.config.Config.{Config}
use Rattle.rss_wire.specs.declared.messages.Outcome.{Outcome}
use Rattle.rss_wire.specs.declared.messages.Outcome.TheVariants.{Committed, Aborted}
use Rattle.rss_tables.specs.Lines.{Line, coordinator_of}
use Rattle.rss_tables.specs.ShardRow.{decision_in}
use Rattle.rss_tables.specs.TransactionSession.{TxnSession, attempt_of}
use Rattle.rss_machine.specs.Places.{commit_of}
use Rattle.rss_machine.specs.Run.{run, readings_of}
use Rattle.rss_machine.specs.State.{State, owner_at, shard_at}
use Rattle.rss_machine.specs.declared.session.Session.TheVariants as session
use Rattle.rss_machine.specs.declared.step.Step.{Step}
use Rattle.world_laws.specs.Laws.{IsOrdered}
use Rattle.txn_laws.specs.Files.{NamesKeys}
use Rattle.fence_laws.specs.Laws.{MomentsRise}
use Rattle.fence_laws.proofs.StepsOf.{moments_run}
use Rattle.txn_state_laws.specs.Framed.{LinesFit}
use Rattle.txn_line_laws.proofs.Facts.{Facts, commit_known, commit_is}
use Rattle.txn_line_laws.proofs.True.{facts_run as line_facts}
use Rattle.txn_world.specs.Shards.{time_kept}
use Rattle.place_facts.specs.Facts.{PlaceFacts}

never_fall : (s : State) → MomentsRise s → IsNonDecreasing s.moments
never_fall s h = IsNonDecreasingBy-from_default (λ x. x) s.moments 0 (λ i j l m. (let long = h.long in h.rise (suc i) (suc j) (omega (arith, l)) (omega (arith, m, long))))

commit_kept : (c : Config) (s : State) (h : Facts c s) (o : ℕ) (x : TxnSession) → (owner_at s o).session ≡ session.Transaction x → commit_of s x ≡ time_kept (decision_in (shard_at s (coordinator_of x.lines)).decisions (attempt_of x))
commit_kept c s h o x e = by_commit (commit_of s x) refl (decision_in (shard_at s (coordinator_of x.lines)).decisions (attempt_of x)) refl
  where
    none_is : {time : ℕ} → None ≡ Some time → ⊥
    none_is f = cc

    by_commit : (m : Option ℕ) → commit_of s x ≡ m → (d : Option Outcome) → decision_in (shard_at s (coordinator_of x.lines)).decisions (attempt_of x) ≡ d → m ≡ time_kept d
    by_commit (Some time) f d g = ap time_kept (sym (commit_known c s h o time x e f).kept ∙ g)
    by_commit None f None g = refl
    by_commit None f (Some Aborted) g = refl
    by_commit None f (Some (Committed time)) g = absurd (none_is (sym f ∙ commit_is c s h o time x e g))

coordinator_there : (c : Config) (lines : List Line) → LinesFit c lines → coordinator_of lines ≤ length c.shard_services
coordinator_there c [] h = absurd (let none = h.some in omega (arith, none))
coordinator_there c (l ∷ lines) h = h.last 0 (omega arith)

pub facts_run : (c : Config) (steps : List Step) (s : State) → NamesKeys c → All IsOrdered (readings_of steps) → run c steps ≡ Some s → PlaceFacts s
facts_run c steps s n o e = record {
  moments = never_fall s (moments_run c steps s e);
  commits = commit_kept c s (line_facts c steps s n o e);
  lines = λ i x f. ((line_facts c steps s n o e).framed.txn i x f).lines.some;
  coordinators = λ i x f. (let h = line_facts c steps s n o e in let there = coordinator_there c x.lines (h.framed.txn i x f).lines in let shards = h.framed.shards in omega (arith, there, shards));
}
