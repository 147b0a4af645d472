-- Which stamps a majority of a service's replicas holds of a register, and the notes of when it first did.
use Rattle.std.specs.Prelude.{ℕ, suc, ◌+◌, Bool, true, false, List, [], ◌∷◌, ◌++◌, length, get_or, set, map, Option, Some, None, nat_le, is_some, if◌then◌else◌}
use Rattle.rss_names.specs.declared.service.Key.{Key}
use Rattle.carstamps.specs.declared.carstamp.Carstamp.{Carstamp}
use Rattle.carstamps.specs.Stamp.{stamp_le, greater_stamp, opening_stamp}
use Rattle.causal_context.specs.declared.dep.Dep.{Dep}
use Rattle.rss_wire.specs.declared.messages.RegReply.{RegReply}
use Rattle.rss_wire.specs.declared.messages.Request.{Request}
use Rattle.rss_wire.specs.declared.messages.Request.TheVariants.{Lock, Prepare, Decide, Commit, Abort, Inquire, Release, Snapshot, Fix, Ask, Stamp, Store}
use Rattle.rss_tables.specs.ReplicaRow.{held_at}
use Rattle.rss_tables.specs.Round.{majority}
use Rattle.rss_machine.specs.declared.state.Mark.{Mark}

-- how many of these replicas hold this stamp or a greater one
abbrev pub count_holders : Key → Carstamp → List (List RegReply) → ℕ
count_holders key stamp [] = 0
count_holders key stamp (cells ∷ replicas) =
    if stamp_le stamp (held_at cells key).stamp then
    suc (count_holders key stamp replicas)
    else
    count_holders key stamp replicas

-- a majority of the replicas holds this stamp or a greater one
abbrev pub is_held : List (List RegReply) → Key → Carstamp → Bool
is_held replicas key stamp = nat_le (majority (length replicas)) (count_holders key stamp replicas)

-- the greatest stamp of some of the replicas that a majority of all holds
abbrev pub greatest_held : List (List RegReply) → Key → List (List RegReply) → Carstamp
greatest_held replicas key [] = opening_stamp
greatest_held replicas key (cells ∷ rest) =
    if is_held replicas key (held_at cells key).stamp then
    greater_stamp (held_at cells key).stamp (greatest_held replicas key rest)
    else
    greatest_held replicas key rest

-- the greatest stamp that a majority holds
abbrev pub majority_stamp : List (List RegReply) → Key → Carstamp
majority_stamp replicas key = greatest_held replicas key replicas

-- the step of the first of a register's marks that says this of a stamp
abbrev pub first_mark : List Mark → Carstamp → Option ℕ
first_mark [] stamp = None
first_mark (mark ∷ marks) stamp = if stamp_le stamp mark.stamp then Some mark.step else first_mark marks stamp

-- whether a stamp needs no note: the opening stamp, or one that a mark covers
abbrev pub is_noted : List Mark → Carstamp → Bool
is_noted marks stamp = if stamp_le stamp opening_stamp then true else is_some (first_mark marks stamp)

-- a majority that holds a greater stamp of this register than any mark says is noted in this step
abbrev pub noted : List (List RegReply) → Key → ℕ → List Mark → List Mark
noted replicas key step marks =
    if is_noted marks (majority_stamp replicas key) then
    marks
    else
    marks ++ record { stamp = majority_stamp replicas key; step = step } ∷ []

-- the registers on which a request may raise a stamp
abbrev pub raised_by : Request → List Key
raised_by (Fix deps) = map (λ (dep : Dep). dep.key) deps
raised_by (Store key value stamp writer) = key ∷ []
raised_by (Ask key) = []
raised_by (Stamp key) = []
raised_by (Lock attempt coordinator reads writes) = []
raised_by (Prepare attempt least earliest_end writes) = []
raised_by (Decide attempt commit time) = []
raised_by (Commit attempt commit_time) = []
raised_by (Abort attempt) = []
raised_by (Inquire attempt) = []
raised_by (Release attempt time last) = []
raised_by (Snapshot read_time least keys skip) = []

-- whether a request stores what its own call writes
abbrev pub is_store : Request → Bool
is_store (Store key value stamp writer) = true
is_store (Fix deps) = false
is_store (Ask key) = false
is_store (Stamp key) = false
is_store (Lock attempt coordinator reads writes) = false
is_store (Prepare attempt least earliest_end writes) = false
is_store (Decide attempt commit time) = false
is_store (Commit attempt commit_time) = false
is_store (Abort attempt) = false
is_store (Inquire attempt) = false
is_store (Release attempt time last) = false
is_store (Snapshot read_time least keys skip) = false

-- what is noted of these registers in a step, where the service's replicas hold this
abbrev pub notes_keys : List (List RegReply) → ℕ → List Key → List (List Mark) → List (List Mark)
notes_keys replicas step [] marks = marks
notes_keys replicas step (key ∷ keys) marks =
    notes_keys replicas step keys (set marks key.index (noted replicas key step (get_or marks key.index [])))
