-- Spare lists of dependencies, and what copies of requests take of them.
use Rattle.std.specs.Prelude.{ℕ, ◌<◌, ◌≤◌, ◌&&◌, Bool, true, false, length}
use Rattle.rss_wire.specs.declared.messages.Request.{Request}
use Rattle.rss_wire.specs.declared.messages.Request.TheVariants as request
use Rattle.rss_tables.specs.declared.register_session.RegWork.{RegWork}
use Rattle.rss_tables.specs.declared.register_session.RegWork.TheVariants as work
use Rattle.rss_tables.specs.declared.register_session.RegPhase.{RegPhase}
use Rattle.rss_tables.specs.declared.register_session.RegPhase.TheVariants.{Fixing, Asking, Stamping, Storing, Done}

-- spare lists as callers see them: so many, each with room for this many dependencies
pub record DepListsView : Type 0 where
  pub count : ℕ
  pub width : ℕ

-- a request is one of the four of a replica, and there is a list for its dependencies
abbrev pub IsCopyable : DepListsView → Request → Type 0
IsCopyable lists (request.Fix deps) = (0 < lists.count) × (length deps ≤ lists.width)
IsCopyable lists (request.Ask key) = Unit
IsCopyable lists (request.Stamp key) = Unit
IsCopyable lists (request.Store key value stamp writer) = Unit
IsCopyable lists (request.Lock attempt coordinator reads writes) = ⊥
IsCopyable lists (request.Prepare attempt least earliest_end writes) = ⊥
IsCopyable lists (request.Decide attempt commit time) = ⊥
IsCopyable lists (request.Commit attempt commit_time) = ⊥
IsCopyable lists (request.Abort attempt) = ⊥
IsCopyable lists (request.Inquire attempt) = ⊥
IsCopyable lists (request.Release attempt time last) = ⊥
IsCopyable lists (request.Snapshot read_time least keys skip) = ⊥

-- how many lists a copy of a request takes
abbrev pub lists_of : Request → ℕ
lists_of (request.Fix deps) = 1
lists_of (request.Ask key) = 0
lists_of (request.Stamp key) = 0
lists_of (request.Store key value stamp writer) = 0
lists_of (request.Lock attempt coordinator reads writes) = 0
lists_of (request.Prepare attempt least earliest_end writes) = 0
lists_of (request.Decide attempt commit time) = 0
lists_of (request.Commit attempt commit_time) = 0
lists_of (request.Abort attempt) = 0
lists_of (request.Inquire attempt) = 0
lists_of (request.Release attempt time last) = 0
lists_of (request.Snapshot read_time least keys skip) = 0

-- there are lists for one round of a work: a round of dependencies sends one list to each replica
abbrev pub HasLists : DepListsView → RegWork → Type 0
HasLists lists (work.Fix deps) = (7 ≤ lists.count) × (length deps ≤ lists.width)
HasLists lists (work.Read key) = Unit
HasLists lists (work.Write key value) = Unit

-- how many lists are in so many requests of a work
abbrev pub lists_sent : RegWork → ℕ → ℕ
lists_sent (work.Fix deps) requests = requests
lists_sent (work.Read key) requests = 0
lists_sent (work.Write key value) requests = 0

-- whether a work sends lists
abbrev pub is_fix : RegWork → Bool
is_fix (work.Fix deps) = true
is_fix (work.Read key) = false
is_fix (work.Write key value) = false

-- whether a phase is a round of dependencies
abbrev pub is_fixing : RegPhase → Bool
is_fixing Fixing = true
is_fixing Asking = false
is_fixing Stamping = false
is_fixing (Storing stamp) = false
is_fixing (Done end) = false

-- whether the requests of a phase of a work hold lists
abbrev pub sends_lists : RegWork → RegPhase → Bool
sends_lists w phase = is_fix w && is_fixing phase
