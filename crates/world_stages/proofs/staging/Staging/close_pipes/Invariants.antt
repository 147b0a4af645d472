use Rattle.std.proofs.Common.{◌≡◌, ◌+◌, ◌≤◌, ◌<◌, length, drop}
use Rattle.rss_machine.specs.Moves.{closes_from}
use Rattle.rss_machine.specs.State.{State}
use Rattle.world_parts.specs.Parts.{in_staging}
use Rattle.world_stages.specs.Readies.{HasNumbers}
use Rattle.world_stages.proofs.staging.Staging.close_pipes.Given as goal

-- the pipes that were passed and those that are left are all
abbrev pub invariant-loop-place : goal.invariant-loop-place
invariant-loop-place l = record {
  closes : in_staging (λ (s : State). closes_from l.config s l.stage l.fn.self.spare.seen (l.place + 1) (drop l.place l.config.pipe_ends)) l.self.staging ≡ in_staging (λ (s : State). closes_from l.config s l.stage l.fn.self.spare.seen 1 l.config.pipe_ends) l.fn.self.staging;
  numbers : HasNumbers l.self.staging l.place;
  room : length l.config.pipe_ends + 1 ≤ l.self.room + l.place;
  many : length l.config.pipe_ends ≤ l.self.spare.count + l.place;
  seen : 0 < l.self.spare.count → l.self.spare.seen ≡ l.fn.self.spare.seen;
}
