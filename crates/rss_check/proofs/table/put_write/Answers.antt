use Rattle.indexmap.specs.IndexMap.{get}
use Rattle.rss_check.specs.Table.{number_of_key, same_number}
use Rattle.rss_check.proofs.Tables.{put_one}
use Rattle.rss_check.proofs.table.put_write.Goals as goal

pub returns-in-Ok : goal.returns-in-Ok
returns-in-Ok c =
    λ other.
    put_one c.args.key other c.key_number.result c.args.value c.number.result c.args.call
    (get same_number c.args.table.now (number_of_key other)) (get same_number c.insert.new.self (number_of_key other))
    c.key_number.ensures c.number.ensures.same (c.in-Ok.ensures.updates.0 (number_of_key other))
