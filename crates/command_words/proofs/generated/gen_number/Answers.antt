-- The words are `gen` and a number's where the second spells one.
use Rattle.std.proofs.Common.{rules}
use Rattle.std.specs.String.{string_bytes}
use Rattle.command_words.proofs.Gens.{gen_by}
use Rattle.command_words.proofs.Lists.{two_items}
use Rattle.command_words.proofs.generated.gen_number.Goals as goal

pub returns-then-eq : goal.returns-then-eq
returns-then-eq c =
    let e = two_items c.args.words.now c.name-item.result c.number-item.result c.in-len2.len_at_least c.in-len2.len_below c.name-item.is c.number-item.is in
    rw e (gen_by c.number_of.result (string_bytes c.name-item.result) (string_bytes c.number-item.result) c.as_str-then-eq.result.now (search rules) (search rules) c.number_of.ensures)
