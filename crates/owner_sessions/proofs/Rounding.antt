-- What rounds send with a reply is the next round, where one begins.
use Rattle.std.proofs.Common.{◌≡◌, ℕ, Bool, true, false, List, [], ◌∷◌, ◌++◌, Some, refl, sym, ap, ◌∙◌}
use Rattle.std.specs.Prelude.{if◌then◌else◌}
use Rattle.rss_names.specs.declared.service.Target.{Target}
use Rattle.rss_wire.specs.declared.messages.Reply.{Reply}
use Rattle.rss_wire.specs.declared.messages.Request.{Request}
use Rattle.rss_tables.specs.Outs.{Out, awaited, target_slot}
use Rattle.rss_tables.specs.RegisterSession.{RegSession, reply_cell, session_after, session_sends, round_requests, reached, goes_on}
use Rattle.rss_tables.specs.Round.{hears, is_reached}
use Rattle.rss_tables.specs.declared.register_session.RegPhase.{RegPhase}
use Rattle.rss_tables.specs.declared.register_session.RegPhase.TheVariants.{Fixing, Asking, Stamping, Storing, Done}
use Rattle.rss_machine.specs.Effect.{opens_round}
use Rattle.owner_sessions.specs.Rounds.{next_round, goes_to_next}

-- a round that is reached sends the next one exactly where one begins
at_phase : (s : RegSession) (before : RegPhase) (now : RegSession) → now.phase ≡ before → (if goes_on before then round_requests (reached now before) else []) ≡ next_round (opens_round before (reached now before).phase) (reached now before)
at_phase s Fixing now e = refl
at_phase s Asking now e = refl
at_phase s Stamping now e = refl
at_phase s (Storing stamp) now e = refl
at_phase s (Done end) now e = refl

stays : (before : RegPhase) → opens_round before before ≡ false
stays Fixing = refl
stays Asking = refl
stays Stamping = refl
stays (Storing stamp) = refl
stays (Done end) = refl

by_reached : (s now : RegSession) (b : Bool) → now.phase ≡ s.phase → (if b then (if goes_on s.phase then round_requests (if b then reached now s.phase else now) else []) else []) ≡ next_round (opens_round s.phase (if b then reached now s.phase else now).phase) (if b then reached now s.phase else now)
by_reached s now true e = at_phase s s.phase now e
by_reached s now false e = sym (ap (λ (p : RegPhase). next_round (opens_round s.phase p) now) e ∙ ap (λ (b : Bool). next_round b now) (stays s.phase))

pub sends_next : (s : RegSession) (from : ℕ) (r : Reply) → session_sends s from r ≡ next_round (goes_to_next s from r) (session_after s from r)
sends_next s from r = by_reached s (record s { round = hears s.round from (reply_cell r) }) (is_reached (hears s.round from (reply_cell r))) refl

-- the first request of rounds
pub pop_some : (old new : List (Target × Request)) (target : Target) (request : Request) (lines : List Out) → lines ≡ [] → old ≡ (target, request) ∷ [] ++ new → lines ++ awaited old ≡ (record { slot = Some (target_slot target); target = target; request = request }) ∷ [] ++ lines ++ awaited new
pop_some old new target request lines l e = cc

pub ruleset pops = (pop_some)
