-- Whom a line sleeps for is a call, at a shard that is there.
use Rattle.std.proofs.Common.{◌≡◌, ℕ, zero, suc, ◌<◌, ◌⊎◌, inl, inr, List, [], ◌∷◌, length, get_or, Some, All, sym, subst, arith}
use Rattle.std.proofs.lemmas.List.Elements.{All-get_or}
use Rattle.pipeline_lang.specs.declared.config.Config.{Config}
use Rattle.rss_wire.specs.declared.messages.Holder.{Holder}
use Rattle.rss_tables.specs.Lines.{Line, no_line, asleep_on}
use Rattle.rss_tables.specs.declared.lines.LineState.{LineState}
use Rattle.rss_tables.specs.declared.lines.LineState.TheVariants.{Awaiting, Answered, Inquiring, Resolving, Asleep, Dropped}
use Rattle.rss_machine.specs.Session.{Session}
use Rattle.rss_machine.specs.State.{State, owner_at}
use Rattle.rss_machine.specs.declared.session.Session.TheVariants as session
use Rattle.target_laws.specs.InFile.{StateIn, LinesIn, TargetsIn}
use Rattle.world_laws.proofs.Looks.{get_or_past, some_is, none_is_not}
use Rattle.size_laws.specs.Callers.{StateCalls, LineCalls, SessionCalls, AllCalls}
use Rattle.run_laws.specs.Facts.{IsThere, SleepFor, SleepersThere}

state_at : (c : Config) (lines : List Line) (place : ℕ) → LinesIn c lines → StateIn c (get_or lines place no_line).state
state_at c [] place h = tt
state_at c (l ∷ lines) zero h = h.0.waits
state_at c (l ∷ lines) (suc place) h = state_at c lines place h.1

calls_at : (lines : List Line) (place : ℕ) → All LineCalls lines → StateCalls (get_or lines place no_line).state
calls_at lines place h = by_place (get_or_past lines place no_line)
  where
    by_place : (place < length lines) ⊎ (get_or lines place no_line ≡ no_line) → StateCalls (get_or lines place no_line).state
    by_place (inl l) = All-get_or LineCalls lines place no_line l h
    by_place (inr e) = subst (λ (l : Line). StateCalls l.state) (sym e) tt

there : (c : Config) (s : State) (x : LineState) (h : Holder) → length s.shards ≡ length c.shard_services → StateIn c x → StateCalls x → asleep_on x ≡ Some h → IsThere s h
there c s (Asleep holder) h n i k e = subst (IsThere s) (some_is holder h e) (record { first = i.0; last = let l = i.1 in omega (arith, l, n); call = k })
there c s Awaiting h n i k e = absurd (none_is_not h e)
there c s Answered h n i k e = absurd (none_is_not h e)
there c s (Inquiring holder) h n i k e = absurd (none_is_not h e)
there c s (Resolving holder outcome) h n i k e = absurd (none_is_not h e)
there c s Dropped h n i k e = absurd (none_is_not h e)

sleep_for : (c : Config) (s : State) (lines : List Line) → length s.shards ≡ length c.shard_services → LinesIn c lines → All LineCalls lines → SleepFor s lines
sleep_for c s lines n i k place h e = there c s (get_or lines place no_line).state h n (state_at c lines place i) (calls_at lines place k) e

pub sleepers_there : (c : Config) (s : State) → length s.shards ≡ length c.shard_services → TargetsIn c s → AllCalls s → SleepersThere s
sleepers_there c s n i k = record {
  txn = λ o t e. sleep_for c s t.lines n (i.txn o t e) (under (session.Transaction t) o e).lines;
  snap = λ o t e. sleep_for c s t.lines n (i.snap o t e) (under (session.Snapshot t) o e);
}
  where
    under : (x : Session) (o : ℕ) → (owner_at s o).session ≡ x → SessionCalls x
    under x o e = subst SessionCalls e (k.owners.each o)
