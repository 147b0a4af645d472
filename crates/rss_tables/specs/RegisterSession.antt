-- The session of a register call, or of a round of dependencies: what it sends, and what it does with a reply.
use Rattle.std.specs.Prelude.{ℕ, ◌+◌, ◌-◌, suc, zero, Bool, true, false, List, [], ◌∷◌, get_or, Option, Some, None, if◌then◌else◌}
use Rattle.rss_names.specs.declared.service.Key.{Key}
use Rattle.rss_names.specs.declared.service.ServiceId.{ServiceId}
use Rattle.rss_names.specs.declared.service.Target.{Target}
use Rattle.rss_names.specs.declared.service.Target.TheVariants.{Replica}
use Rattle.carstamps.specs.declared.carstamp.Carstamp.{Carstamp}
use Rattle.carstamps.specs.Stamp.{next_stamp}
use Rattle.causal_context.specs.declared.dep.Dep.{Dep}
use Rattle.rss_wire.specs.declared.messages.RegReply.{RegReply}
use Rattle.rss_wire.specs.declared.messages.Request.{Request}
use Rattle.rss_wire.specs.declared.messages.Request.TheVariants as request
use Rattle.rss_wire.specs.declared.messages.Reply.{Reply}
use Rattle.rss_wire.specs.declared.messages.Reply.TheVariants as reply
use Rattle.rss_wire.specs.declared.messages.Progress.{Progress}
use Rattle.rss_wire.specs.declared.messages.Progress.TheVariants as progress
use Rattle.rss_tables.specs.ReplicaRow.{opening_cell}
use Rattle.rss_tables.specs.Round.{Round, opening_round, hears, is_reached, greatest_heard, is_agreed}
use Rattle.rss_tables.specs.declared.register_session.RegWork.{RegWork}
use Rattle.rss_tables.specs.declared.register_session.RegWork.TheVariants as work
use Rattle.rss_tables.specs.declared.register_session.RegEnd.{RegEnd}
use Rattle.rss_tables.specs.declared.register_session.RegEnd.TheVariants as ends
use Rattle.rss_tables.specs.declared.register_session.RegPhase.{RegPhase}
use Rattle.rss_tables.specs.declared.register_session.RegPhase.TheVariants.{Fixing, Asking, Stamping, Storing, Done}

-- a session: the call that it serves, its work, the service whose replicas it asks, and its round
pub record RegSession : Type 0 where
  pub call : ℕ
  pub work : RegWork
  pub service : ServiceId
  pub round : Round
  pub phase : RegPhase

-- the first round of a work
abbrev pub first_phase : RegWork → RegPhase
first_phase (work.Fix deps) = Fixing
first_phase (work.Read key) = Asking
first_phase (work.Write key value) = Stamping

-- a session that has sent nothing yet
abbrev pub opening_session : ℕ → RegWork → ServiceId → ℕ → List Bool → RegSession
opening_session call w service replicas cut = record {
  call = call;
  work = w;
  service = service;
  round = opening_round replicas cut;
  phase = first_phase w;
}

-- a reply as a cell; a reply that shows nothing counts as the opening one
abbrev pub reply_cell : Reply → RegReply
reply_cell (reply.Held value stamp writer) = record { value = value; stamp = stamp; writer = writer }
reply_cell reply.Fixed = opening_cell
reply_cell reply.Stored = opening_cell
reply_cell reply.Wounded = opening_cell
reply_cell (reply.Granted shown) = opening_cell
reply_cell (reply.Wait holders) = opening_cell
reply_cell (reply.Prepared prepare_time) = opening_cell
reply_cell (reply.Decided outcome) = opening_cell
reply_cell reply.Done = opening_cell
reply_cell (reply.Outcome outcome) = opening_cell
reply_cell reply.Open = opening_cell
reply_cell reply.Released = opening_cell
reply_cell (reply.Blocked holders) = opening_cell
reply_cell (reply.Values versions skipped) = opening_cell

-- the request that a phase of a work sends to each replica
abbrev pub phase_request : ℕ → RegWork → RegPhase → Option Request
phase_request call (work.Fix deps) Fixing = Some (request.Fix deps)
phase_request call (work.Fix deps) Asking = None
phase_request call (work.Fix deps) Stamping = None
phase_request call (work.Fix deps) (Storing stamp) = None
phase_request call (work.Fix deps) (Done end) = None
phase_request call (work.Read key) Fixing = None
phase_request call (work.Read key) Asking = Some (request.Ask key)
phase_request call (work.Read key) Stamping = None
phase_request call (work.Read key) (Storing stamp) = None
phase_request call (work.Read key) (Done end) = None
phase_request call (work.Write key value) Fixing = None
phase_request call (work.Write key value) Asking = None
phase_request call (work.Write key value) Stamping = Some (request.Stamp key)
phase_request call (work.Write key value) (Storing stamp) = Some (request.Store key value stamp call)
phase_request call (work.Write key value) (Done end) = None

-- a request for each replica from this number on that is not cut off, by ascending number
abbrev pub requests_from : ServiceId → Option Request → ℕ → List Bool → ℕ → List (Target × Request)
requests_from service None from cut left = []
requests_from service (Some r) from cut zero = []
requests_from service (Some r) from cut (suc left) =
    if get_or cut (from - 1) false then
    requests_from service (Some r) (from + 1) cut left
    else
    (Replica service from, r) ∷ requests_from service (Some r) (from + 1) cut left

-- the requests of the round under way
abbrev pub round_requests : RegSession → List (Target × Request)
round_requests s =
    requests_from s.service (phase_request s.call s.work s.phase) 1 s.round.cut s.round.replicas

-- the greatest cell heard in the round under way
abbrev pub found_cell : Option RegReply → RegReply
found_cell None = opening_cell
found_cell (Some cell) = cell

-- a read keeps what it read as a dependency where the replicas did not agree
abbrev pub read_dep : Key → RegReply → Bool → Option Dep
read_dep key cell true = None
read_dep key cell false =
    Some record { key = key; value = cell.value; stamp = cell.stamp; writer = cell.writer }

-- the register of a work; of a round of dependencies there is none
abbrev pub work_key : RegWork → Option Key
work_key (work.Fix deps) = None
work_key (work.Read key) = Some key
work_key (work.Write key value) = Some key

-- how a read ends
abbrev pub read_end : RegWork → RegReply → Bool → RegEnd
read_end (work.Read key) cell agreed = ends.Read cell (read_dep key cell agreed)
read_end (work.Write key value) cell agreed = ends.Read cell None
read_end (work.Fix deps) cell agreed = ends.Read cell None

-- a majority has replied: the next round begins, or the session is done
abbrev pub reached : RegSession → RegPhase → RegSession
reached s Fixing = record s { phase = Done ends.Fixed }
reached s Asking =
    record s { phase = Done (read_end s.work (found_cell (greatest_heard s.round)) (is_agreed s.round)) }
reached s Stamping = record s {
  phase = Storing (next_stamp (found_cell (greatest_heard s.round)).stamp s.call);
  round = opening_round s.round.replicas s.round.cut;
}
reached s (Storing stamp) = record s { phase = Done (ends.Written stamp) }
reached s (Done end) = s

-- a reply of a replica is heard
abbrev pub session_after : RegSession → ℕ → Reply → RegSession
session_after s from r =
    if is_reached (hears s.round from (reply_cell r)) then
    reached (record s { round = hears s.round from (reply_cell r) }) s.phase
    else
    record s { round = hears s.round from (reply_cell r) }

-- whether a new round begins when a majority has replied in this phase
abbrev pub goes_on : RegPhase → Bool
goes_on Fixing = false
goes_on Asking = false
goes_on Stamping = true
goes_on (Storing stamp) = false
goes_on (Done end) = false

-- what is sent when a reply of a replica is heard
abbrev pub session_sends : RegSession → ℕ → Reply → List (Target × Request)
session_sends s from r =
    if is_reached (hears s.round from (reply_cell r)) then
    (if goes_on s.phase then round_requests (session_after s from r) else [])
    else
    []

-- how far a session in this phase has come
abbrev pub phase_progress : RegPhase → Progress
phase_progress Fixing = progress.Going
phase_progress Asking = progress.Going
phase_progress Stamping = progress.Going
phase_progress (Storing stamp) = progress.Going
phase_progress (Done end) = progress.Done

-- how a session in this phase ended, if so
abbrev pub phase_end : RegPhase → Option RegEnd
phase_end Fixing = None
phase_end Asking = None
phase_end Stamping = None
phase_end (Storing stamp) = None
phase_end (Done end) = Some end
