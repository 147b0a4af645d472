-- What rounds over replicas make of a reply.
use Rattle.std.specs.Prelude.{ℕ, Bool, true, false, List, [], if◌then◌else◌}
use Rattle.rss_names.specs.declared.service.Target.{Target}
use Rattle.rss_wire.specs.declared.messages.Reply.{Reply}
use Rattle.rss_wire.specs.declared.messages.Request.{Request}
use Rattle.rss_tables.specs.RegisterSession.{RegSession, reply_cell, session_after, round_requests}
use Rattle.rss_tables.specs.Round.{hears}
use Rattle.gryff_quorum.specs.Heard.{HasSmallStamps}
use Rattle.rss_machine.specs.Effect.{opens_round}
use Rattle.rss_machine.specs.Session.{Session}
use Rattle.rss_machine.specs.declared.session.Session.TheVariants.{Idle, Fixing, Register, Transaction, Snapshot, Settling}

-- the next round, where one begins
abbrev pub next_round : Bool → RegSession → List (Target × Request)
next_round true s = round_requests s
next_round false s = []

-- whether a reply begins the next round
abbrev pub goes_to_next : RegSession → ℕ → Reply → Bool
goes_to_next s from r = opens_round s.phase (session_after s from r).phase

-- the stamps that rounds under way have heard then are small
abbrev pub HearsSmallStamps : Session → ℕ → Reply → Type 0
HearsSmallStamps (Fixing r) from reply = HasSmallStamps (hears r.round from (reply_cell reply))
HearsSmallStamps (Register r) from reply = HasSmallStamps (hears r.round from (reply_cell reply))
HearsSmallStamps Idle from reply = Unit {0}
HearsSmallStamps (Transaction t) from reply = Unit {0}
HearsSmallStamps (Snapshot t) from reply = Unit {0}
HearsSmallStamps (Settling attempt shards) from reply = Unit {0}
