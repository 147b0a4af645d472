-- What a request makes of the register services: the machine's words, over the replicas and the marks
-- alone.
use Rattle.std.specs.Prelude.{ℕ, ◌-◌, List, [], get_or, set}
use Rattle.rss_names.specs.declared.service.Key.{Key}
use Rattle.rss_names.specs.declared.service.ServiceId.{ServiceId}
use Rattle.rss_wire.specs.declared.messages.RegReply.{RegReply}
use Rattle.rss_wire.specs.declared.messages.Request.{Request}
use Rattle.rss_tables.specs.ReplicaRow.{replica_after}
use Rattle.rss_machine.specs.Marks.{raised_by, notes_keys}
use Rattle.rss_machine.specs.State.{service_index}
use Rattle.rss_machine.specs.declared.state.Mark.{Mark}

-- the replicas of a service
abbrev pub replicas_in : List (List (List RegReply)) → ServiceId → List (List RegReply)
replicas_in replicas service = get_or replicas (service_index service) []

-- what one of them holds
abbrev pub cells_in : List (List (List RegReply)) → ServiceId → ℕ → List RegReply
cells_in replicas service replica = get_or (replicas_in replicas service) (replica - 1) []

-- the marks of a register
abbrev pub marks_in : List (List Mark) → Key → List Mark
marks_in marks key = get_or marks key.index []

-- all replicas after one of them has served a request
abbrev pub served_by : List (List (List RegReply)) → ServiceId → ℕ → Request → List (List (List RegReply))
served_by replicas service replica r =
    set replicas (service_index service)
    (set (replicas_in replicas service) (replica - 1) (replica_after (cells_in replicas service replica) r))

-- all marks after it is noted what a majority of a service's replicas then holds of the registers on
-- which the request may have raised a stamp
abbrev pub noted_after : List (List (List RegReply)) → ServiceId → ℕ → Request → List (List Mark) → List (List Mark)
noted_after replicas service step r marks =
    notes_keys (replicas_in replicas service) step (raised_by r) marks
