use Rattle.std.proofs.Common.{◌≡◌, ap, sym, ◌∙◌, None, Some, refl}
use Rattle.rss_names.specs.declared.attempt.Attempt.{Attempt}
use Rattle.rss_tables.specs.Prepared.{PreparedWriter, prepared_of, with_prepared}
use Rattle.txn_shard.proofs.Answered.{prepared-now}
use Rattle.txn_shard.proofs.shard.Shard.prepare.Goals as goal

pub returns-in-Some-coordinator-clause-replies : goal.returns-in-Some-coordinator-clause-replies
returns-in-Some-coordinator-clause-replies c =
    let attempt = ap (λ (p : PreparedWriter). p.attempt) c.new-entry.ensures in
    let time = ap (λ (p : PreparedWriter). p.prepare_time) c.new-entry.ensures in
    let none : prepared_of c.self.inside.prepared.prepared c.new-entry.result.attempt ≡ None = rw attempt (sym c.in_default.ensures) in
    let now : prepared_of (with_prepared c.self.inside.prepared.prepared c.new-entry.result) c.args.attempt ≡ Some c.new-entry.result = ap (λ (a : Attempt). prepared_of (with_prepared c.self.inside.prepared.prepared c.new-entry.result) a) (sym attempt) ∙ prepared-now c.self.inside.prepared.prepared c.new-entry.result none in
    rw (c.add.ensures.added, now, time) refl
