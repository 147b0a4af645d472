-- Which replicas are asked about which registers: those of the register's own service.
use Rattle.std.specs.Prelude.{◌≡◌, ℕ, Bool, true, List, [], ◌∷◌, map}
use Rattle.std.specs.List.{list_all}
use Rattle.rss_names.specs.declared.service.Key.{Key}
use Rattle.rss_names.specs.declared.service.ServiceId.{ServiceId}
use Rattle.rss_names.specs.declared.service.Target.{Target}
use Rattle.rss_names.specs.declared.service.Target.TheVariants.{Shard, Replica}
use Rattle.rss_names.specs.Services.{same_service}
use Rattle.causal_context.specs.declared.dep.Dep.{Dep}
use Rattle.rss_wire.specs.declared.message.Body.{Body}
use Rattle.rss_wire.specs.declared.message.Body.TheVariants as body
use Rattle.rss_wire.specs.declared.messages.Request.{Request}
use Rattle.rss_wire.specs.declared.messages.Request.TheVariants.{Lock, Prepare, Decide, Commit, Abort, Inquire, Release, Snapshot, Fix, Ask, Stamp, Store}
use Rattle.rss_wire.specs.Messages.{message_at}
use Rattle.rss_tables.specs.declared.register_session.RegWork.{RegWork}
use Rattle.rss_tables.specs.declared.register_session.RegWork.TheVariants as work
use Rattle.rss_machine.specs.State.{State}

-- the registers that a request names
abbrev pub registers_of : Request → List Key
registers_of (Fix deps) = map (λ (dep : Dep). dep.key) deps
registers_of (Ask key) = key ∷ []
registers_of (Stamp key) = key ∷ []
registers_of (Store key value stamp writer) = key ∷ []
registers_of (Lock attempt coordinator reads writes) = []
registers_of (Prepare attempt least earliest_end writes) = []
registers_of (Decide attempt commit time) = []
registers_of (Commit attempt commit_time) = []
registers_of (Abort attempt) = []
registers_of (Inquire attempt) = []
registers_of (Release attempt time last) = []
registers_of (Snapshot read_time least keys skip) = []

-- whether all these registers are kept by a service
unfoldable pub are_kept_by : ServiceId → List Key → Bool
are_kept_by service keys = list_all (λ (key : Key). same_service service key.service) keys

-- whether a request to a target names registers of the target's service alone
abbrev pub is_proper : Target → Request → Bool
is_proper (Shard shard) r = true
is_proper (Replica service replica) r = are_kept_by service (registers_of r)

-- whether a body, sent to a target, is proper; a reply is
abbrev pub is_proper_body : Target → Body → Bool
is_proper_body target (body.Request r) = is_proper target r
is_proper_body target (body.Reply r) = true

-- the registers of a work
abbrev pub work_registers : RegWork → List Key
work_registers (work.Fix deps) = map (λ (dep : Dep). dep.key) deps
work_registers (work.Read key) = key ∷ []
work_registers (work.Write key value) = key ∷ []

-- every message of a state is proper
abbrev pub AreProper : State → Type 0
AreProper s = (m : ℕ) → is_proper_body (message_at s.net m).envelope.target (message_at s.net m).body ≡ true
