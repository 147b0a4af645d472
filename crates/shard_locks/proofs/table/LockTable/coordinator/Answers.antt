use Rattle.std.proofs.Common.{ℕ, ap, ◌∙◌, Option, Some}
use Rattle.std.specs.Option.{option_map}
use Rattle.rss_tables.specs.Locks.{LockHolder}
use Rattle.shard_locks.specs.LockView.{LockView}
use Rattle.shard_locks.proofs.Alike.{coordinator-is}
use Rattle.shard_locks.proofs.table.LockTable.coordinator.Goals as goal

pub returns-in-Some : goal.returns-in-Some
returns-in-Some c =
    let held = ap (λ (v : LockView). v.locks.holders) c.self.view_is in
    rw held at (ap (λ (n : ℕ). Some n) c.coordinator.ensures ∙ ap (λ (o : Option LockHolder). option_map (λ (h : LockHolder). h.coordinator) o) c.in-Some.ensures ∙ coordinator-is c.self.inside.holders.holders c.args.attempt)

pub returns-in-None : goal.returns-in-None
returns-in-None c =
    let held = ap (λ (v : LockView). v.locks.holders) c.self.view_is in
    rw held at (ap (λ (o : Option LockHolder). option_map (λ (h : LockHolder). h.coordinator) o) c.in-None.ensures ∙ coordinator-is c.self.inside.holders.holders c.args.attempt)
