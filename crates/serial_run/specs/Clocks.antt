-- Which clocks there are.
use Rattle.std.specs.Prelude.{◌+◌, ◌<◌, ◌≤◌, ◌^◌}
use Rattle.rss_machine.specs.Serial.{Stepping}

-- a clock's reading begins at 0 or later and ends below the limit of time
pub record IsClock (clock : Stepping) : Type 0 where
  pub begins : clock.half ≤ clock.now
  pub ends : clock.now + clock.half < 2 ^ 62
  pub rises : 0 < clock.tick
  pub tick : clock.tick < 2 ^ 60
