-- The requests of a round, one replica after another.
use Rattle.std.proofs.Common.{◌≡◌, ℕ, ◌+◌, ◌-◌, ◌<◌, ◌≤◌, suc, zero, Bool, true, false, List, [], ◌++◌, length, Option, Some, None, get_or, refl, arith, append_assoc, if◌then◌else◌}
use Rattle.std.proofs.lemmas.Grind.{common_steps}
use Rattle.rss_names.specs.declared.service.ServiceId.{ServiceId}
use Rattle.rss_wire.specs.declared.messages.Request.{Request}
use Rattle.rss_wire.specs.declared.messages.Reply.{Reply}
use Rattle.rss_tables.specs.RegisterSession.{RegSession, requests_from, round_requests, phase_request, session_sends, session_after, reached, reply_cell, goes_on}
use Rattle.rss_tables.specs.Round.{Round, hears, is_reached}
use Rattle.rss_tables.specs.declared.register_session.RegPhase.{RegPhase}
use Rattle.rss_tables.specs.declared.register_session.RegPhase.TheVariants.{Fixing, Asking, Stamping, Storing, Done}

requests_from-suc : (service : ServiceId) (r : Option Request) (from : ℕ) (cut : List Bool) (left : ℕ) → requests_from service r from cut (suc left) ≡ requests_from service r from cut 1 ++ requests_from service r (from + 1) cut left
requests_from-suc service None from cut left = refl
requests_from-suc service (Some r) from cut left = go (get_or cut (from - 1) false) refl
  where
    go : (b : Bool) → get_or cut (from - 1) false ≡ b → requests_from service (Some r) from cut (suc left) ≡ requests_from service (Some r) from cut 1 ++ requests_from service (Some r) (from + 1) cut left
    go true e = grind (arith, e)
    go false e = grind (arith, e)

-- first the request to one replica, then those to the others
pub requests_from-more : (service : ServiceId) (r : Option Request) (from at : ℕ) (cut : List Bool) (replicas : ℕ) → at < replicas → requests_from service r from cut (replicas - at) ≡ requests_from service r from cut 1 ++ requests_from service r (from + 1) cut (replicas - (at + 1))
requests_from-more service r from at cut replicas h =
    let e : replicas - at ≡ suc (replicas - (at + 1)) = omega arith in
    rw e (requests_from-suc service r from cut (replicas - (at + 1)))

-- there are no more than replicas
length-requests_from : (service : ServiceId) (r : Option Request) (from : ℕ) (cut : List Bool) (left : ℕ) → length (requests_from service r from cut left) ≤ left
length-requests_from service None from cut left = grind arith
length-requests_from service (Some r) from cut zero = grind arith
length-requests_from service (Some r) from cut (suc left) =
    let ih = length-requests_from service (Some r) (from + 1) cut left in grind (arith, common_steps, ih)

pub few_in_round : (s : RegSession) → s.round.replicas ≤ 7 → length (round_requests s) ≤ 7
few_in_round s few = let h = length-requests_from s.service (phase_request s.call s.work s.phase) 1 s.round.cut s.round.replicas in grind (arith, h, few)

-- a reply leaves the number of replicas
reached-replicas : (s : RegSession) (phase : RegPhase) → (reached s phase).round.replicas ≡ s.round.replicas
reached-replicas s Fixing = refl
reached-replicas s Asking = refl
reached-replicas s Stamping = refl
reached-replicas s (Storing stamp) = refl
reached-replicas s (Done end) = refl

by_reached : (s now : RegSession) (b : Bool) → now.round.replicas ≡ s.round.replicas → (if b then reached now s.phase else now).round.replicas ≡ s.round.replicas
by_reached s now true e = rw (reached-replicas now s.phase) e
by_reached s now false e = e

hears-replicas : (round : Round) (from : ℕ) (r : Reply) → (hears round from (reply_cell r)).replicas ≡ round.replicas
hears-replicas round from r = grind arith

after-replicas : (s : RegSession) (from : ℕ) (r : Reply) → (session_after s from r).round.replicas ≡ s.round.replicas
after-replicas s from r = by_reached s (record s { round = hears s.round from (reply_cell r) }) (is_reached (hears s.round from (reply_cell r))) (hears-replicas s.round from r)

few_by : (s after : RegSession) (b : Bool) (phase : RegPhase) → after.round.replicas ≤ 7 → length (if b then (if goes_on phase then round_requests after else []) else []) ≤ 7
few_by s after true phase few = by_phase (goes_on phase)
  where
    by_phase : (b : Bool) → length (if b then round_requests after else []) ≤ 7
    by_phase true = few_in_round after few
    by_phase false = grind arith
few_by s after false phase few = grind arith

pub few_sent : (s : RegSession) (from : ℕ) (r : Reply) → s.round.replicas ≤ 7 → length (session_sends s from r) ≤ 7
few_sent s from r few =
    let e = after-replicas s from r in
    few_by s (session_after s from r) (is_reached (hears s.round from (reply_cell r))) s.phase (omega (arith, e, few))

pub ruleset round_steps = (requests_from-more, append_assoc)
