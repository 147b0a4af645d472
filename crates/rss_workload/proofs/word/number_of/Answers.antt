-- The number is read behind a digit above 0, and what is read is told where there is a file of it.
use Rattle.std.proofs.Common.{rules}
use Rattle.rss_workload.proofs.Words.{word_spells, number_begins, number_read}
use Rattle.rss_workload.proofs.word.number_of.Goals as goal

pub returns-then-not-begins_above_zero : goal.returns-then-not-begins_above_zero
returns-then-not-begins_above_zero c = λ n s. let first = number_begins _ n s in search rules

pub returns-then-has_file : goal.returns-then-has_file
returns-then-has_file c = word_spells _ c.parse.result c.in-Ok.n c.parse.ensures.value.0 (search rules) (search rules) (search rules)

pub returns-else-has_file : goal.returns-else-has_file
returns-else-has_file c = λ n s. let file = s.file in let read = number_read _ c.parse.result n c.parse.ensures.value.0 s in search rules

pub returns-in-Err : goal.returns-in-Err
returns-in-Err c = λ n s. let read = number_read _ c.parse.result n c.parse.ensures.value.0 s in search rules
