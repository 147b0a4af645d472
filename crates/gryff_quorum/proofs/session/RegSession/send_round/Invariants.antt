use Rattle.std.proofs.Common.{◌≡◌, ◌+◌, ◌-◌, ◌≤◌, ◌++◌, length}
use Rattle.rss_tables.specs.RegisterSession.{phase_request, requests_from, round_requests}
use Rattle.gryff_quorum.proofs.session.RegSession.send_round.Given as goal

-- what was sent, with what is still to be sent, is the whole round
abbrev pub invariant-loop-at : goal.invariant-loop-at
invariant-loop-at l = record {
  sent : l.out.requests ++ requests_from l.self.service (phase_request l.self.call l.self.work l.self.phase) (l.at + 1) l.self.round.cut (l.self.round.replicas - l.at) ≡ l.fn.out.requests ++ round_requests l.self;
  room : l.out.room + length l.out.requests ≡ l.fn.out.room + length l.fn.out.requests;
  left : 7 ≤ l.out.room + l.at;
}
