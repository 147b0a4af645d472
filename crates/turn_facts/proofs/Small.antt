-- What rounds hear has small stamps, where stamps are bounded.
use Rattle.std.proofs.Common.{ℕ, ◌<◌, ◌≤◌, ◌^◌, Option, subst, arith}
use Rattle.rss_names.specs.declared.service.Target.{Target}
use Rattle.rss_wire.specs.declared.message.Body.{Body}
use Rattle.rss_wire.specs.declared.message.Body.TheVariants as body
use Rattle.rss_wire.specs.declared.messages.RegReply.{RegReply}
use Rattle.rss_wire.specs.declared.messages.Reply.{Reply}
use Rattle.rss_wire.specs.declared.messages.Reply.TheVariants as reply
use Rattle.rss_tables.specs.RegisterSession.{RegSession, reply_cell, found_cell}
use Rattle.rss_tables.specs.Round.{hears}
use Rattle.rss_machine.specs.Session.{Session}
use Rattle.rss_machine.specs.declared.session.Session.TheVariants as session
use Rattle.gryff_quorum.specs.Heard.{IsSmall, HearsSmall, HasSmallStamps}
use Rattle.gryff_quorum.proofs.SmallStamps.{greatest_heard_is_small, hearing_keeps_small}
use Rattle.owner_sessions.specs.Rounds.{HearsSmallStamps}
use Rattle.world_laws.specs.Stamps.{BodyStampsUpTo, ReplyStampsUpTo, RoundsUpTo, SessionStampsUpTo}
use Rattle.world_traffic.specs.Turned.{said_by}

-- the cell of a reply
cell_small : (b : ℕ) (r : Reply) → b < 2 ^ 63 → ReplyStampsUpTo b r → IsSmall (reply_cell r)
cell_small b (reply.Held value stamp writer) l h = omega (arith, l, h)
cell_small b reply.Wounded l h = omega arith
cell_small b (reply.Granted shown) l h = omega arith
cell_small b (reply.Wait holders) l h = omega arith
cell_small b (reply.Prepared time) l h = omega arith
cell_small b (reply.Decided outcome) l h = omega arith
cell_small b reply.Done l h = omega arith
cell_small b (reply.Outcome outcome) l h = omega arith
cell_small b reply.Open l h = omega arith
cell_small b reply.Released l h = omega arith
cell_small b (reply.Blocked holders) l h = omega arith
cell_small b (reply.Values versions skipped) l h = omega arith
cell_small b reply.Fixed l h = omega arith
cell_small b reply.Stored l h = omega arith

round_small : (b : ℕ) (f : RegSession) (replica : ℕ) (r : Reply) → b < 2 ^ 63 → RoundsUpTo b f → ReplyStampsUpTo b r → HasSmallStamps (hears f.round replica (reply_cell r))
round_small b f replica r l h k = greatest_heard_is_small (hears f.round replica (reply_cell r)) (hearing_keeps_small f.round replica (reply_cell r) heard (cell_small b r l k))
  where
    heard : HearsSmall f.round
    heard at cell e =
        let n : cell.stamp.number ≤ b = subst (λ (x : Option RegReply). (found_cell x).stamp.number ≤ b) e (h.heard at) in
        omega (arith, l, n)

pub session_small : (b : ℕ) (x : Session) (replica : ℕ) (r : Reply) → b < 2 ^ 63 → SessionStampsUpTo b x → ReplyStampsUpTo b r → HearsSmallStamps x replica r
session_small b (session.Fixing f) replica r l h k = round_small b f replica r l h k
session_small b (session.Register f) replica r l h k = round_small b f replica r l h k
session_small b session.Idle replica r l h k = tt
session_small b (session.Transaction t) replica r l h k = tt
session_small b (session.Snapshot t) replica r l h k = tt
session_small b (session.Settling attempt shards) replica r l h k = tt

-- what a message says as a reply
pub said_small : (b : ℕ) (target : Target) (x : Body) → BodyStampsUpTo b target x → ReplyStampsUpTo b (said_by x)
said_small b target (body.Reply r) h = h
said_small b target (body.Request r) h = tt
