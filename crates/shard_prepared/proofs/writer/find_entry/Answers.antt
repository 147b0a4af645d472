use Rattle.std.proofs.Common.{sym}
use Rattle.attempt_index.proofs.Entries.{entry-found, entry-missing}
use Rattle.shard_prepared.specs.Written.{attempt_of}
use Rattle.shard_prepared.proofs.writer.find_entry.Goals as goal

pub returns-in-Ok : goal.returns-in-Ok
returns-in-Ok c = sym (entry-found attempt_of c.args.entries.now c.args.attempts.now c.args.attempt c.in-Ok.place c.index-entries-place.result c.requires.attempts c.requires.ascending c.in-Ok.ensures.found c.in-Ok.ensures.stands c.index-entries-place.is).1

pub returns-in-Err : goal.returns-in-Err
returns-in-Err c = sym (entry-missing attempt_of c.args.entries.now c.args.attempts.now c.args.attempt c.in-Err.field-0 c.requires.attempts c.requires.ascending c.in-Err.ensures.found).0
