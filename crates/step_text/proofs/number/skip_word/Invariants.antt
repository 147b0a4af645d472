use Rattle.std.proofs.Common.{◌≡◌, ◌+◌, drop, length}
use Rattle.step_text.specs.Reading.{after_word}
use Rattle.step_text.proofs.number.skip_word.Given as goal

abbrev pub invariant-loop-letter : goal.invariant-loop-letter
invariant-loop-letter l = record {
  read : after_word l.fn.word l.fn.bytes ≡ after_word (drop l.letter-index l.word) l.rest;
  taken : length l.rest + l.letter-index ≡ length l.fn.bytes;
}
