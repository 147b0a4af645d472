-- What a request has a replica accept, what a stop leaves of it, and how many writes and syncs it takes.
use Rattle.std.specs.Prelude.{ℕ, ◌≡◌, ◌+◌, ◌≤◌, ◌&&◌, Bool, nat_lt, List, [], ◌∷◌, length, take, min, get_or, set, replicate, if◌then◌else◌}
use Rattle.carstamps.specs.Stamp.{stamp_lt}
use Rattle.causal_context.specs.declared.dep.Dep.{Dep}
use Rattle.rss_wire.specs.declared.messages.RegReply.{RegReply}
use Rattle.rss_wire.specs.declared.messages.Request.{Request}
use Rattle.rss_wire.specs.declared.messages.Request.TheVariants.{Lock, Prepare, Decide, Commit, Abort, Inquire, Release, Snapshot, Fix, Ask, Stamp, Store}
use Rattle.rss_tables.specs.ReplicaRow.{opening_cell, held_at, dep_cell, accept, accept_all, replica_after}
use Rattle.replica_disk.specs.Disks.{Loose, IsImage}
use Rattle.replica_disk.specs.Registers.{registers_of, replace_cost}

-- what a request has a replica accept, in order
unfoldable pub accepts_of : Request → List Dep
accepts_of (Fix deps) = deps
accepts_of (Store key value stamp writer) = record { key = key; value = value; stamp = stamp; writer = writer } ∷ []
accepts_of (Ask key) = []
accepts_of (Stamp key) = []
accepts_of (Lock attempt coordinator reads writes) = []
accepts_of (Prepare attempt least earliest_end writes) = []
accepts_of (Decide attempt commit time) = []
accepts_of (Commit attempt commit_time) = []
accepts_of (Abort attempt) = []
accepts_of (Inquire attempt) = []
accepts_of (Release attempt time last) = []
accepts_of (Snapshot read_time least keys skip) = []

-- these bytes open to the registers with some front of these accepts made
pub record OpensTo (image : List ℕ) (held : List RegReply) (deps : List Dep) : Type 0 where
  pub front : ℕ
  pub some : front ≤ length deps
  pub registers : registers_of image (length held) ≡ accept_all held (take front deps)

-- whatever a stop leaves of these bytes opens so
pub record OpensInPart (bytes : List ℕ) (loose : Loose) (held : List RegReply) (deps : List Dep) : Type 0 where
  pub each : (image : List ℕ) → IsImage bytes loose image → OpensTo image held deps

-- whether an accept replaces what a register holds: there is such a register, and the stamp is greater
abbrev pub replaces : List RegReply → Dep → Bool
replaces cells d = nat_lt d.key.index (length cells) && stamp_lt (held_at cells d.key).stamp d.stamp

-- how often each register was replaced, counted to two, after one more accept, and after several
unfoldable pub times_accepted : List RegReply → List ℕ → Dep → List ℕ
times_accepted cells times d =
    if replaces cells d then set times d.key.index (min 2 (get_or times d.key.index 0 + 1)) else times

abbrev pub times_all : List RegReply → List ℕ → List Dep → List ℕ
times_all cells times [] = times
times_all cells times (d ∷ ds) = times_all (accept cells d.key (dep_cell d)) (times_accepted cells times d) ds

-- how many writes and syncs one accept takes: none where it replaces nothing; else 4 for each of the first two of a
-- register, and 6 for each later one
unfoldable pub accept_cost : List RegReply → List ℕ → Dep → ℕ
accept_cost cells times d = if replaces cells d then replace_cost (get_or times d.key.index 0) else 0

abbrev pub cost_all : List RegReply → List ℕ → List Dep → ℕ
cost_all cells times [] = 0
cost_all cells times (d ∷ ds) = accept_cost cells times d + cost_all (accept cells d.key (dep_cell d)) (times_accepted cells times d) ds

-- what a replica holds after these requests
abbrev pub after_all : List RegReply → List Request → List RegReply
after_all cells [] = cells
after_all cells (r ∷ rs) = after_all (replica_after cells r) rs

-- how often each register was replaced by them, counted to two
abbrev pub times_after_all : List RegReply → List ℕ → List Request → List ℕ
times_after_all cells times [] = times
times_after_all cells times (r ∷ rs) = times_after_all (replica_after cells r) (times_all cells times (accepts_of r)) rs

-- how many writes and syncs they take
abbrev pub requests_cost : List RegReply → List ℕ → List Request → ℕ
requests_cost cells times [] = 0
requests_cost cells times (r ∷ rs) =
    cost_all cells times (accepts_of r) + requests_cost (replica_after cells r) (times_all cells times (accepts_of r)) rs

-- how many writes and syncs so many new registers and these requests take, the sync of the opening among them
abbrev pub calls_needed : ℕ → List Request → ℕ
calls_needed registers requests = 1 + requests_cost (replicate registers opening_cell) (replicate registers 0) requests
