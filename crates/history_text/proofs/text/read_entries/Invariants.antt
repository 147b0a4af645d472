use Rattle.std.proofs.Common.{◌≡◌, ◌+◌, ◌<◌, ◌^◌, [], length}
use Rattle.std.specs.List.{slice_split}
use Rattle.pipeline_lang.specs.Tokens.{is_newline}
use Rattle.history_text.specs.Texts.{entries_from, history_of_text}
use Rattle.history_text.proofs.text.read_entries.Given as goal

abbrev pub invariant-loop-more : goal.invariant-loop-more
invariant-loop-more l = record {
  read : history_of_text l.config l.text ≡ entries_from l.config l.number l.reading (slice_split is_newline l.rest);
  short : l.number + length l.rest < 2 ^ 32;
}

abbrev pub decreases-loop-more : goal.decreases-loop-more
decreases-loop-more l = length l.rest
