-- The number that is read is no replica's.
use Rattle.std.proofs.Common.{rules}
use Rattle.std.specs.String.{string_bytes}
use Rattle.command_words.proofs.Spelled.{no_replica}
use Rattle.command_words.proofs.command.disk_named.Goals as goal

pub returns-in_err-replica-2 : goal.returns-in_err-replica-2
returns-in_err-replica-2 c =
    let none = no_replica c.from.result c.as_str-2.result.now (string_bytes c.args.word.now) (string_bytes c.args.replica.now) (string_bytes c.args.stop.now) c.in_ok-replica.replica (search rules) (search rules) (search rules) (search rules) in
    search rules
