-- The number is 0, or is read behind a digit above 0, and what is read is told where it is not too great.
use Rattle.std.proofs.Common.{rules}
use Rattle.command_words.proofs.Spelled.{word_spells, zero_spelled, number_begins, number_read}
use Rattle.command_words.proofs.numbers.number_upto.Goals as goal

pub returns-then-eq : goal.returns-then-eq
returns-then-eq c = zero_spelled _ _ (search rules)

pub returns-then-not-begins_above_zero : goal.returns-then-not-begins_above_zero
returns-then-not-begins_above_zero c = λ n s. let first = number_begins _ _ n (search rules) (search rules) s in search rules

pub returns-then-n-most : goal.returns-then-n-most
returns-then-n-most c = word_spells _ _ c.parse.result c.in-Ok.n c.parse.ensures.value.0 (search rules) (search rules) (search rules)

pub returns-else-n-most : goal.returns-else-n-most
returns-else-n-most c = λ n s. let within = s.within in let read = number_read _ _ c.parse.result n (search rules) c.parse.ensures.value.0 s in search rules

pub returns-in-Err : goal.returns-in-Err
returns-in-Err c = λ n s. let read = number_read _ _ c.parse.result n (search rules) c.parse.ensures.value.0 s in search rules
