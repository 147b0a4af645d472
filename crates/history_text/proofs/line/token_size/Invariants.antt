use Rattle.std.proofs.Common.{◌≡◌, ◌+◌, drop}
use Rattle.pipeline_lang.specs.Tokens.{further}
use Rattle.history_text.proofs.line.token_size.Given as goal

abbrev pub invariant-loop-byte : goal.invariant-loop-byte
invariant-loop-byte l = record {
  counted : l.size ≡ l.byte-index;
  more : further l.bytes ≡ l.size + further (drop l.byte-index l.bytes);
}
