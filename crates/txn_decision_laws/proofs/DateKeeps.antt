-- Times fit true moments through each event.
use Rattle.std.proofs.Common.{ℕ, List, sym, subst}
use Rattle.truetime.specs.Reading.{Reading}
use Rattle.pipeline_lang.specs.declared.config.Config.{Config}
use Rattle.rss_machine.specs.State.{State, owner_at}
use Rattle.shard_event_laws.proofs.Clocks.{SameClock, event_clock}
use Rattle.txn_state_laws.specs.Dated.{AllDated}
use Rattle.txn_state_laws.specs.Justified.{AllJust}
use Rattle.txn_state_laws.specs.Onward.{Between}
use Rattle.txn_state_laws.specs.Orderly.{AllOrderly}
use Rattle.txn_decision_laws.proofs.DateOwners.{event_dated}
use Rattle.txn_decision_laws.proofs.DateSessions.{IsDated, SessionDated}
use Rattle.txn_decision_laws.proofs.DateVotes.{prepared_dated, voted_dated}

module _ (c : Config) (at : Reading) (s t : State) (b : Between c at s t) (j : AllJust s) (r : AllOrderly c s) (h : AllDated s) where
  -- each owner, by the clock after the event
  each_dated : (o : ℕ) → IsDated t (owner_at t o)
  each_dated o =
      let k : SameClock s t = event_clock c at s t b.event in
      subst (λ (ms : List ℕ). SessionDated ms t.steps (owner_at t o).dates (owner_at t o).fate (owner_at t o).session) (sym k.moments)
      (subst (λ (n : ℕ). SessionDated s.moments n (owner_at t o).dates (owner_at t o).fate (owner_at t o).session) (sym k.steps)
      (event_dated c at s t b.known b.heard h b.event o))

-- times fit true moments through each event
pub dated_keeps : (c : Config) (at : Reading) (s t : State) → Between c at s t → AllJust s → AllOrderly c s → AllDated s → AllDated t
dated_keeps c at s t b j r h = record {
  begun = b.known_after.begun;
  prepared = λ n a p first e. prepared_dated c at s t b j r h n a p first e;
  voted = λ n a least earliest_end writes time x. voted_dated c at s t b j r h n a least earliest_end writes time x;
  freeing = λ o time x e f. ((each_dated c at s t b j r h o).txn x e).freeing time f;
  reading = λ o time x e f. ((each_dated c at s t b j r h o).snap x e).reading time f;
  committed = λ o time x e f. ((each_dated c at s t b j r h o).txn x e).committed time f;
  over = λ o time x e f. ((each_dated c at s t b j r h o).txn x e).over time f;
  snap_over = λ o time x e f. ((each_dated c at s t b j r h o).snap x e).over time f;
  ended = λ o x e f. ((each_dated c at s t b j r h o).txn x e).ended f;
  snap_ended = λ o x e f. ((each_dated c at s t b j r h o).snap x e).ended f;
}
