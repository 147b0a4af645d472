use Rattle.std.proofs.Common.{◌≡◌, drop}
use Rattle.pipeline_lang.specs.Terms.{digits}
use Rattle.history_text.proofs.line.digits_of.Given as goal

abbrev pub invariant-loop-byte : goal.invariant-loop-byte
invariant-loop-byte l = digits l.first l.bytes ≡ digits l.number (drop l.byte-index l.bytes)
