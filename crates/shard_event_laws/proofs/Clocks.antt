-- The clock within a step.
use Rattle.std.proofs.Common.{◌≡◌, ℕ, ◌<◌, ◌≤◌, List, length, refl, sym, subst}
use Rattle.truetime.specs.Reading.{Reading}
use Rattle.pipeline_lang.specs.declared.config.Config.{Config}
use Rattle.rss_machine.specs.State.{State}
use Rattle.world_laws.proofs.Replies.{Sound}
use Rattle.world_laws.proofs.Told.{Told}
use Rattle.shard_event_laws.specs.Events.{Event, aside, begins_txn, begins_snapshot, txn_hears_one, snap_hears_one, txn_wakes_one, snap_wakes_one, txn_passes_time, sends_again, serves_one, stub_asks, stub_tells}
use Rattle.shard_event_laws.specs.Facts.{SameShards}
use Rattle.shard_event_laws.specs.Known.{Known, moment_at}

-- the clock of a step that is counted
pub record Clocked (at : Reading) (s : State) : Type 0 where
  pub counted : 0 < s.steps
  pub earliest : at.earliest ≤ s.moment
  pub latest : s.moment ≤ at.latest
  pub long : length s.moments ≡ s.steps
  pub now : moment_at s s.steps ≡ s.moment
  pub rise : (i j : ℕ) → i ≤ j → j ≤ s.steps → moment_at s i ≤ moment_at s j

-- the clock stands still
pub record SameClock (s t : State) : Type 0 where
  pub steps : t.steps ≡ s.steps
  pub moment : t.moment ≡ s.moment
  pub moments : t.moments ≡ s.moments

pub clocked_same : (at : Reading) (s t : State) → SameClock s t → Clocked at s → Clocked at t
clocked_same at s t e h =
    subst (λ (n : ℕ). Clocked at (record t { steps = n })) (sym e.steps)
    (subst (λ (n : ℕ). Clocked at (record t { steps = s.steps; moment = n })) (sym e.moment)
    (subst (λ (l : List ℕ). Clocked at (record t { steps = s.steps; moment = s.moment; moments = l })) (sym e.moments)
    (record { counted = h.counted; earliest = h.earliest; latest = h.latest; long = h.long; now = h.now; rise = h.rise })))

of_shards : (s t : State) → SameShards s t → SameClock s t
of_shards s t e = record { steps = e.steps; moment = e.moment; moments = e.moments }

pub event_clock : (c : Config) (at : Reading) (s t : State) → Event c at s t → SameClock s t
event_clock c at s t (aside h) = of_shards s t h.same
event_clock c at s t (begins_txn o reads guard writes x k e h) = of_shards s t h.same
event_clock c at s t (begins_snapshot o keys x k e h) = of_shards s t h.same
event_clock c at s t (txn_hears_one o slot x r e d h) = of_shards s t h.same
event_clock c at s t (snap_hears_one o slot x r e d h) = of_shards s t h.same
event_clock c at s t (txn_wakes_one o x l e d h) = of_shards s t h.same
event_clock c at s t (snap_wakes_one o x l e d h) = of_shards s t h.same
event_clock c at s t (txn_passes_time o time x e d f h) = of_shards s t h.same
event_clock c at s t (sends_again o slot target r h) = of_shards s t h.same
event_clock c at s t (serves_one m shard q d e) = subst (SameClock s) (sym e) (record { steps = refl; moment = refl; moments = refl })
event_clock c at s t (stub_asks o attempt shards k f e h) = of_shards s t h.same
event_clock c at s t (stub_tells o slot attempt shards outcome e d h) = of_shards s t h.same

pub known_of : (at : Reading) (s : State) → Told s → Sound s → Clocked at s → Known at s
known_of at s h g k = record {
  first = g.first;
  sound = g.sound;
  counted = k.counted;
  earliest = k.earliest;
  latest = k.latest;
  long = k.long;
  now = k.now;
  rise = k.rise;
  begun = λ o. (h.fits o).dates.begun;
}
