-- What is closed is kept by every event.
use Rattle.std.proofs.Common.{◌⊎◌, inl, inr, sym, subst}
use Rattle.truetime.specs.Reading.{Reading}
use Rattle.pipeline_lang.specs.declared.config.Config.{Config}
use Rattle.rss_machine.specs.Moves.{serves_shard}
use Rattle.rss_machine.specs.State.{State}
use Rattle.txn_state_laws.specs.Closed.{AllClosed}
use Rattle.txn_state_laws.specs.Decided.{AllDecided}
use Rattle.txn_state_laws.specs.Justified.{AllJust}
use Rattle.txn_state_laws.specs.Onward.{Between}
use Rattle.txn_state_laws.specs.Orderly.{AllOrderly, AllInOrder}
use Rattle.txn_state_laws.proofs.Replies.{Quiet, Serves, event_does}
use Rattle.txn_shard_laws.specs.Unreleased.{AllUnreleased, AllClosing}
use Rattle.txn_shard_laws.proofs.Answered.{answered_stays, released_stays, answered_served, released_served}
use Rattle.txn_shard_laws.proofs.Freed.{freed_grows, freed_serves}
use Rattle.txn_shard_laws.proofs.Unreleased.{unreleased_grows, unreleased_serves}
use Rattle.txn_shard_laws.proofs.Written.{written_grows, written_serves}

-- who has given locks back
pub unreleased_keeps : (c : Config) (at : Reading) (s t : State) → Between c at s t → AllJust s → AllUnreleased s → AllUnreleased t
unreleased_keeps c at s t between just unreleased = by_shards (event_does c at s t between.event)
  where
    by_shards : Quiet s t ⊎ Serves s t at.latest → AllUnreleased t
    by_shards (inl x) = unreleased_grows s t x between.onward unreleased
    by_shards (inr x) = subst AllUnreleased (sym x.is) (unreleased_serves at s x.message x.shard x.request just x.asked unreleased)

-- what shards have closed
pub closed_keeps : (c : Config) (at : Reading) (s t : State) → Between c at s t → AllJust s → AllDecided s → AllDecided t → AllOrderly c s → AllInOrder s → AllUnreleased s → AllClosed s → AllClosed t
closed_keeps c at s t between just decided decided_after orderly ordered unreleased closed = by_shards (event_does c at s t between.event)
  where
    served : (x : Serves s t at.latest) → AllClosed (serves_shard s x.message x.shard at.latest x.request)
    served x = record {
      freed = freed_serves c at s x.message x.shard x.request between.framed between.told just orderly ordered x.asked closed.freed;
      released = released_served c at s x.message x.shard x.request between.known between.framed just orderly ordered x.asked closed.released;
      written = written_serves c at s x.message x.shard x.request between.framed just decided orderly x.asked closed.written;
      answered = answered_served c at s x.message x.shard x.request between.known between.framed just orderly ordered x.asked closed.answered;
    }

    by_shards : Quiet s t ⊎ Serves s t at.latest → AllClosed t
    by_shards (inl x) = record {
      freed = freed_grows s t x between.onward unreleased closed.freed;
      released = released_stays at s t between.known x closed.released;
      written = written_grows c s t x between.onward between.framed decided decided_after closed.written;
      answered = answered_stays at s t between.known x closed.answered;
    }
    by_shards (inr x) = subst AllClosed (sym x.is) (served x)

-- both together
pub closing_keeps : (c : Config) (at : Reading) (s t : State) → Between c at s t → AllJust s → AllDecided s → AllDecided t → AllOrderly c s → AllInOrder s → AllClosing s → AllClosing t
closing_keeps c at s t between just decided decided_after orderly ordered closing = record {
  closed = closed_keeps c at s t between just decided decided_after orderly ordered closing.unreleased closing.closed;
  unreleased = unreleased_keeps c at s t between just closing.unreleased;
}
