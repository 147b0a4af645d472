use Rattle.std.proofs.Common.{◌≡◌, ◌≤◌, ◌-◌, ◌^◌, length}
use Rattle.step_text.specs.Numbers.{digits_at}
use Rattle.step_text.proofs.number.digits_of.Given as goal

abbrev pub invariant-loop-byte : goal.invariant-loop-byte
invariant-loop-byte l = record {
  read : digits_at l.most l.fn.first l.fn.bytes ≡ digits_at l.most l.number l.rest;
  low : l.fn.first ≤ l.number;
  high : l.number ≤ l.most;
  inside : length l.rest ≤ length l.fn.bytes;
  grown : 2 ^ (length l.fn.bytes - length l.rest) ≤ l.number;
}

abbrev pub decreases-loop-byte : goal.decreases-loop-byte
decreases-loop-byte l = length l.rest
