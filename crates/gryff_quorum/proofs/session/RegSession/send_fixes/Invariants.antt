use Rattle.std.proofs.Common.{◌≡◌, ◌+◌, ◌-◌, ◌≤◌, ◌++◌, length, Some}
use Rattle.rss_wire.specs.declared.messages.Request.TheVariants.{Fix}
use Rattle.rss_tables.specs.RegisterSession.{requests_from}
use Rattle.gryff_quorum.proofs.session.RegSession.send_fixes.Given as goal

-- what was sent, with what is still to be sent, is the whole round
abbrev pub invariant-loop-at : goal.invariant-loop-at
invariant-loop-at l = record {
  sent : l.out.requests ++ requests_from l.self.service (Some (Fix l.deps)) (l.at + 1) l.self.round.cut (l.self.round.replicas - l.at) ≡ l.fn.out.requests ++ requests_from l.self.service (Some (Fix l.deps)) 1 l.self.round.cut l.self.round.replicas;
  room : l.out.room + length l.out.requests ≡ l.fn.out.room + length l.fn.out.requests;
  left : 7 ≤ l.out.room + l.at;
  lists : l.spare.count + length l.out.requests ≡ l.fn.spare.count + length l.fn.out.requests;
  lists_left : 7 ≤ l.spare.count + l.at;
  width : l.spare.width ≡ l.fn.spare.width;
}
