use Rattle.std.proofs.Common.{◌≡◌, ◌+◌, drop}
use Rattle.pipeline_lang.specs.Tokens.{line_size}
use Rattle.history_text.proofs.text.line_size.Given as goal

abbrev pub invariant-loop-byte : goal.invariant-loop-byte
invariant-loop-byte l = record {
  counted : l.size ≡ l.byte-index;
  more : line_size l.text ≡ l.size + line_size (drop l.byte-index l.text);
}
