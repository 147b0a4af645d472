use Rattle.std.proofs.Common.{◌≡◌, ◌≤◌, ◌+◌, ◌++◌, drop, length, vec_capacity, vec_len}
use Rattle.rss_tables.specs.TransactionSession.{shown_reply}
use Rattle.two_phase.proofs.session.Session.reply.Given as goal

abbrev pub invariant-loop-key : goal.invariant-loop-key
invariant-loop-key l = record {
  shown : l.list.items ++ shown_reply (drop l.key-index l.op.reads.now) l.self.lines ≡ shown_reply l.op.reads.now l.self.lines;
  room : length l.op.reads.now ≤ vec_capacity l.list;
  few : vec_len l.list ≤ l.key-index;
}
