use Rattle.std.proofs.Common.{◌≡◌, ◌+◌, ◌<◌, ◌^◌, [], length}
use Rattle.std.specs.List.{slice_split}
use Rattle.pipeline_lang.specs.Tokens.{is_newline}
use Rattle.history_text.specs.Texts.{places_from}
use Rattle.history_text.proofs.text.read_places.Given as goal

abbrev pub invariant-loop-more : goal.invariant-loop-more
invariant-loop-more l = record {
  read : places_from l.first [] (slice_split is_newline l.text) ≡ places_from l.number l.calls.items (slice_split is_newline l.rest);
  short : l.number + length l.rest < 2 ^ 32;
}

abbrev pub decreases-loop-more : goal.decreases-loop-more
decreases-loop-more l = length l.rest
