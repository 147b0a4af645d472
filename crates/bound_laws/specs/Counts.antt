-- How many requests of its own rounds an owner has sent to a target, and how many are its due.
use Rattle.std.specs.Prelude.{ℕ, zero, suc, ◌+◌, Bool, true, false, ◌&&◌, ◌==◌, List, [], ◌∷◌, if◌then◌else◌}
use Rattle.rss_names.specs.declared.service.ServiceId.{ServiceId}
use Rattle.rss_names.specs.declared.service.Target.{Target}
use Rattle.rss_names.specs.declared.service.Target.TheVariants.{Replica}
use Rattle.rss_wire.specs.declared.message.Body.{Body}
use Rattle.rss_wire.specs.declared.message.Body.TheVariants as body
use Rattle.rss_wire.specs.declared.message.Message.{Message}
use Rattle.rss_wire.specs.declared.messages.Request.{Request}
use Rattle.rss_wire.specs.declared.messages.Request.TheVariants as request
use Rattle.rss_wire.specs.Messages.{same_target}
use Rattle.rss_tables.specs.Losses.{losses_of}
use Rattle.rss_tables.specs.declared.register_session.RegPhase.{RegPhase}
use Rattle.rss_tables.specs.declared.register_session.RegPhase.TheVariants.{Fixing, Asking, Stamping, Storing, Done}
use Rattle.rss_tables.specs.declared.register_session.RegWork.{RegWork}
use Rattle.rss_tables.specs.declared.register_session.RegWork.TheVariants as work
use Rattle.rss_machine.specs.Session.{Session}
use Rattle.rss_machine.specs.declared.session.Session.TheVariants as session
use Rattle.world_laws.specs.Exchanges.{is_request}

-- whether a request stores dependencies, and is none of a call's own rounds
abbrev pub stores_dependencies : Request → Bool
stores_dependencies (request.Fix deps) = true
stores_dependencies _ = false

-- whether a message is a request of a call's own rounds
abbrev pub is_own : Body → Bool
is_own (body.Request r) = if stores_dependencies r then false else true
is_own (body.Reply r) = false

-- whether a message is such a request of an owner to a target
abbrev pub is_own_to : ℕ → Target → Message → Bool
is_own_to o target m = is_own m.body && (m.envelope.owner == o && same_target m.envelope.target target)

-- how many such requests there are
abbrev pub own_requests : ℕ → Target → List Message → ℕ
own_requests o target [] = 0
own_requests o target (m ∷ net) = if is_own_to o target m then suc (own_requests o target net) else own_requests o target net

-- whether a message is a request of an owner to a target, and how many there are
abbrev pub is_request_to : ℕ → Target → Message → Bool
is_request_to o target m = is_request m.body && (m.envelope.owner == o && same_target m.envelope.target target)

abbrev pub requests_to : ℕ → Target → List Message → ℕ
requests_to o target [] = 0
requests_to o target (m ∷ net) = if is_request_to o target m then suc (requests_to o target net) else requests_to o target net

-- how many there are to this many replicas of a service, and how many losses with them
abbrev pub requests_to_all : ℕ → ServiceId → ℕ → List Message → ℕ
requests_to_all o service zero net = 0
requests_to_all o service (suc n) net = requests_to_all o service n net + requests_to o (Replica service (suc n)) net

abbrev pub losses_with_all : List ℕ → ServiceId → ℕ → ℕ
losses_with_all losses service zero = 0
losses_with_all losses service (suc n) = losses_with_all losses service n + losses_of losses (Replica service (suc n))

-- how many rounds of its own a register call with this work has begun by this phase
abbrev pub rounds_by : RegWork → RegPhase → ℕ
rounds_by (work.Read key) p = 1
rounds_by (work.Fix deps) p = 1
rounds_by (work.Write key value) Fixing = 1
rounds_by (work.Write key value) Asking = 1
rounds_by (work.Write key value) Stamping = 1
rounds_by (work.Write key value) (Storing stamp) = 2
rounds_by (work.Write key value) (Done end) = 2

-- how many rounds of its own an owner with this under way has begun at replicas
abbrev pub rounds_of : Session → ℕ
rounds_of session.Idle = 0
rounds_of (session.Fixing r) = 0
rounds_of (session.Register r) = rounds_by r.work r.phase
rounds_of (session.Transaction t) = 0
rounds_of (session.Snapshot t) = 0
rounds_of (session.Settling attempt shards) = 0
