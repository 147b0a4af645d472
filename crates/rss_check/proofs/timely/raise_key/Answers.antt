use Rattle.std.proofs.Common.{◌≡◌, max, arith}
use Rattle.indexmap.specs.IndexMap.{get}
use Rattle.rss_check.specs.Table.{number_of_key, same_number}
use Rattle.rss_check.specs.Passes.{kept_of_key}
use Rattle.rss_check.proofs.Raised.{raised_key}
use Rattle.rss_check.proofs.timely.raise_key.Goals as goal

pub returns-in-Ok : goal.returns-in-Ok
returns-in-Ok c =
    let top : c.max-top.result ≡ max (kept_of_key c.args.keys.now c.key_number.result) c.args.place =
    grind (arith, c.max-top.ensures, c.key_top.ensures, c.key_number.ensures) in
    λ other.
    raised_key c.args.key other c.key_number.result c.args.place c.max-top.result
    (get same_number c.args.keys.now) (get same_number c.insert.new.self (number_of_key other))
    c.key_number.ensures top (c.in-Ok.ensures.updates.0 (number_of_key other))
