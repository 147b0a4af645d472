-- All that is known of what is under way with shards, together.
use Rattle.truetime.specs.Reading.{Reading}
use Rattle.pipeline_lang.specs.declared.config.Config.{Config}
use Rattle.rss_machine.specs.Moves.{ticks}
use Rattle.rss_machine.specs.State.{State, start}
use Rattle.shard_event_laws.specs.Events.{Event}
use Rattle.shard_event_laws.specs.Known.{Known}
use Rattle.txn_state_laws.specs.Awaited.{AnswersHeard}
use Rattle.txn_laws.specs.Files.{NamesKeys}
use Rattle.txn_session_laws.specs.Standing.{UnderWay}
use Rattle.txn_session_laws.proofs.Awaited.{awaited_start, awaited_ticks}
use Rattle.txn_session_laws.proofs.AwaitedKeeps.{awaited_keeps}
use Rattle.txn_session_laws.proofs.FramedTurns.{framed_keeps}
use Rattle.txn_session_laws.proofs.Heard.{answers_hold}
use Rattle.txn_session_laws.proofs.LedKeeps.{led_keeps, led_start, led_ticks}
use Rattle.txn_session_laws.proofs.Starts.{framed_start, framed_ticks, none_start, none_ticks, none_keeps}

-- what is heard then
pub under_way_hears : (c : Config) (at : Reading) (s : State) → Known at s → UnderWay c s → AnswersHeard s
under_way_hears c at s known h = answers_hold c at s known h.framed h.awaited

pub under_way_keeps : (c : Config) (at : Reading) (s t : State) → NamesKeys c → Known at s → Event c at s t → UnderWay c s → UnderWay c t
under_way_keeps c at s t names known event h = record {
  first = none_keeps c at s t event h.first;
  framed = framed_keeps c at s t names known h.first (under_way_hears c at s known h) event h.framed;
  led = led_keeps c at s t (under_way_hears c at s known h) event h.led;
  awaited = awaited_keeps c at s t known h.framed h.led (under_way_hears c at s known h) event h.awaited;
}

pub under_way_start : (c : Config) → UnderWay c (start c)
under_way_start c = record { first = none_start c; framed = framed_start c; led = led_start c; awaited = awaited_start c }

pub under_way_ticks : (c : Config) (s : State) (at : Reading) → UnderWay c s → UnderWay c (ticks s at)
under_way_ticks c s at h = record { first = none_ticks s at h.first; framed = framed_ticks c s at h.framed; led = led_ticks s at h.led; awaited = awaited_ticks s at h.awaited }
