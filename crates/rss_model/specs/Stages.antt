-- Which entries are a stage's own, and how a stage is over.
use Rattle.std.specs.Prelude.{ℕ, ◌==◌, Bool, true, false, if◌then◌else◌, List, [], ◌∷◌, Option, Some, None}
use Rattle.rss_model.specs.declared.history.Entry.{Entry}
use Rattle.rss_model.specs.declared.history.Entry.TheVariants.{Begin, End, Give, Get, Over}
use Rattle.rss_model.specs.declared.history.How.{How}
use Rattle.rss_model.specs.declared.history.How.TheVariants.{Exited, Killed, Unavailable}
use Rattle.rss_model.specs.History.{begins, entry_at}

-- the stage that an entry names; an End names none, which is 0
abbrev pub stage_in : Entry → ℕ
stage_in (Begin c stage op) = stage
stage_in (End c reply) = 0
stage_in (Give stage token) = stage
stage_in (Get stage token) = stage
stage_in (Over stage how) = stage

-- the stage that began a call, and 0 where none did
unfoldable pub stage_of : List Entry → ℕ → ℕ
stage_of [] call = 0
stage_of (e ∷ h) call = if begins call e then stage_in e else stage_of h call

-- the stage of an entry; an End is of the stage that began its call
abbrev pub entry_stage : List Entry → Entry → ℕ
entry_stage h (Begin call stage op) = stage
entry_stage h (End call reply) = stage_of h call
entry_stage h (Give stage token) = stage
entry_stage h (Get stage token) = stage
entry_stage h (Over stage how) = stage

-- the stage of the entry at a place
abbrev pub stage_at : List Entry → ℕ → ℕ
stage_at h i = entry_stage h (entry_at h i)

-- whether an entry says that this stage is over
abbrev pub overs : ℕ → Entry → Bool
overs stage (Begin c s op) = false
overs stage (End c reply) = false
overs stage (Give s token) = false
overs stage (Get s token) = false
overs stage (Over s how) = s == stage

-- how an entry says that a stage is over
abbrev pub how_in : Entry → How
how_in (Begin c stage op) = Exited
how_in (End c reply) = Exited
how_in (Give stage token) = Exited
how_in (Get stage token) = Exited
how_in (Over stage how) = how

-- how a stage is over, if it is
unfoldable pub ending_of : List Entry → ℕ → Option How
ending_of [] stage = None
ending_of (e ∷ h) stage = if overs stage e then Some (how_in e) else ending_of h stage

-- whether a stage is over by its own exit
abbrev pub is_exit : Option How → Bool
is_exit None = false
is_exit (Some Exited) = true
is_exit (Some Killed) = false
is_exit (Some Unavailable) = false

-- whether a stage is over by death: killed, or a shard or a quorum was unavailable to it
abbrev pub is_death : Option How → Bool
is_death None = false
is_death (Some Exited) = false
is_death (Some Killed) = true
is_death (Some Unavailable) = true

-- the status that a `wait` for a stage sets: 0 where it exited, and else 1
abbrev pub wait_status : List Entry → ℕ → ℕ
wait_status h stage = if is_exit (ending_of h stage) then 0 else 1
