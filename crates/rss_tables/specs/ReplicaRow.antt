-- A replica of a register service: what it holds of each register, and what it does with a request.
use Rattle.std.specs.Prelude.{ℕ, Bool, true, false, List, [], ◌∷◌, get_or, set, if◌then◌else◌}
use Rattle.rss_names.specs.declared.service.Key.{Key}
use Rattle.carstamps.specs.Stamp.{stamp_lt, opening_stamp}
use Rattle.causal_context.specs.declared.dep.Dep.{Dep}
use Rattle.rss_wire.specs.declared.messages.RegReply.{RegReply}
use Rattle.rss_wire.specs.declared.messages.Request.{Request}
use Rattle.rss_wire.specs.declared.messages.Request.TheVariants.{Lock, Prepare, Decide, Commit, Abort, Inquire, Release, Snapshot, Fix, Ask, Stamp, Store}
use Rattle.rss_wire.specs.declared.messages.Reply.{Reply}
use Rattle.rss_wire.specs.declared.messages.Reply.TheVariants.{Done, Fixed, Held, Stored}

-- what a replica holds of a register that was never written
abbrev pub opening_cell : RegReply
opening_cell = record { value = 0; stamp = opening_stamp; writer = 0 }

-- what a replica holds of a register
abbrev pub held_at : List RegReply → Key → RegReply
held_at cells key = get_or cells key.index opening_cell

-- a value with a greater stamp replaces what is held, any other changes nothing
abbrev pub accept : List RegReply → Key → RegReply → List RegReply
accept cells key cell =
    if stamp_lt (held_at cells key).stamp cell.stamp then set cells key.index cell else cells

-- the value that a dependency names
abbrev pub dep_cell : Dep → RegReply
dep_cell dep = record { value = dep.value; stamp = dep.stamp; writer = dep.writer }

-- each dependency is accepted in turn
abbrev pub accept_all : List RegReply → List Dep → List RegReply
accept_all cells [] = cells
accept_all cells (dep ∷ deps) = accept_all (accept cells dep.key (dep_cell dep)) deps

-- what a replica holds after a request; it serves no request of a shard
unfoldable pub replica_after : List RegReply → Request → List RegReply
replica_after cells (Fix deps) = accept_all cells deps
replica_after cells (Ask key) = cells
replica_after cells (Stamp key) = cells
replica_after cells (Store key value stamp writer) =
    accept cells key record { value = value; stamp = stamp; writer = writer }
replica_after cells (Lock attempt coordinator reads writes) = cells
replica_after cells (Prepare attempt least earliest_end writes) = cells
replica_after cells (Decide attempt commit time) = cells
replica_after cells (Commit attempt commit_time) = cells
replica_after cells (Abort attempt) = cells
replica_after cells (Inquire attempt) = cells
replica_after cells (Release attempt time last) = cells
replica_after cells (Snapshot read_time least keys skip) = cells

-- what is held, as a reply
abbrev pub held_reply : RegReply → Reply
held_reply cell = Held cell.value cell.stamp cell.writer

-- what a replica replies to a request
unfoldable pub replica_reply : List RegReply → Request → Reply
replica_reply cells (Fix deps) = Fixed
replica_reply cells (Ask key) = held_reply (held_at cells key)
replica_reply cells (Stamp key) = held_reply (held_at cells key)
replica_reply cells (Store key value stamp writer) = Stored
replica_reply cells (Lock attempt coordinator reads writes) = Done
replica_reply cells (Prepare attempt least earliest_end writes) = Done
replica_reply cells (Decide attempt commit time) = Done
replica_reply cells (Commit attempt commit_time) = Done
replica_reply cells (Abort attempt) = Done
replica_reply cells (Inquire attempt) = Done
replica_reply cells (Release attempt time last) = Done
replica_reply cells (Snapshot read_time least keys skip) = Done
