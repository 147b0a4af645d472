-- What stages, owners, their dates and the history tell of calls.
use Rattle.std.specs.Prelude.{◌≡◌, ℕ, ◌-◌, ◌<◌, ◌≤◌, Bool, true, false, List, [], ◌∷◌, length, Some}
use Rattle.rss_model.specs.declared.history.Entry.TheVariants.{Begin, End}
use Rattle.rss_model.specs.declared.op.Op.{Op}
use Rattle.rss_model.specs.declared.op.Shown.{Shown}
use Rattle.rss_model.specs.History.{entry_at, has_begun, op_of, reply_of, has_ended as has_ended_in}
use Rattle.rss_model.specs.Stages.{stage_of}
use Rattle.rss_tables.specs.RegisterSession.{RegSession, phase_end}
use Rattle.rss_tables.specs.TransactionSession.{shown_reply}
use Rattle.rss_tables.specs.declared.register_session.RegEnd.{RegEnd}
use Rattle.rss_tables.specs.declared.register_session.RegEnd.TheVariants as ends
use Rattle.rss_tables.specs.declared.register_session.RegWork.{RegWork}
use Rattle.rss_tables.specs.declared.register_session.RegWork.TheVariants as work
use Rattle.rss_machine.specs.Session.{Session}
use Rattle.rss_machine.specs.Standing.{is_live, is_running}
use Rattle.rss_machine.specs.State.{State, Owner, stage_at, owner_at}
use Rattle.rss_machine.specs.declared.session.OwnerKind.{OwnerKind}
use Rattle.rss_machine.specs.declared.session.OwnerKind.TheVariants as kind
use Rattle.rss_machine.specs.declared.session.Session.TheVariants as session
use Rattle.rss_machine.specs.declared.state.Dates.{Dates}
use Rattle.rss_machine.specs.declared.state.OwnerFate.TheVariants.{Ended}

-- whether an owner is a call, and whether it is the stub of a stage
abbrev pub is_call : OwnerKind → Bool
is_call (kind.Calling x) = true
is_call kind.Fencing = false
is_call (kind.Stubbing u) = false

abbrev pub is_stub : OwnerKind → Bool
is_stub (kind.Calling x) = false
is_stub kind.Fencing = false
is_stub (kind.Stubbing u) = true

-- what a stage has under way: a call or a fence statement of that stage, which runs, and the stage lives. The
-- stages of numbers 0 and 1 stand in one place
pub record Owns (s : State) (n o : ℕ) : Type 0 where
  pub running : is_running (owner_at s o).fate ≡ true
  pub of_kind : is_stub (owner_at s o).kind ≡ false
  pub of_stage : (owner_at s o).stage - 1 ≡ n - 1
  pub lives : is_live (stage_at s n).life ≡ true

-- what a stage has under way runs, and each call and fence statement that runs is what its stage has under way
pub record StagesOwn (s : State) : Type 0 where
  pub owner : (n o : ℕ) → (stage_at s n).owner ≡ Some o → Owns s n o
  pub running : (o : ℕ) → is_running (owner_at s o).fate ≡ true → is_stub (owner_at s o).kind ≡ false → (stage_at s (owner_at s o).stage).owner ≡ Some o

-- what a register call replies where its rounds end so
abbrev pub end_reply : RegWork → RegEnd → List Shown
end_reply (work.Read key) (ends.Read cell dep) = record { key = key; value = cell.value; writer = cell.writer } ∷ []
end_reply (work.Read key) (ends.Written stamp) = []
end_reply (work.Read key) ends.Fixed = []
end_reply (work.Write key value) end = []
end_reply (work.Fix deps) end = []

-- the rounds of a register call are done, and gave this reply
pub record RoundsGave (r : RegSession) (reply : List Shown) : Type 0 where
  pub end : RegEnd
  pub done : phase_end r.phase ≡ Some end
  pub gives : reply ≡ end_reply r.work end

-- what a call has under way when it has ended with a reply
abbrev pub Gave : Session → List Shown → Type 0
Gave (session.Register r) reply = RoundsGave r reply
Gave (session.Transaction t) reply = reply ≡ shown_reply t.reads t.lines
Gave (session.Snapshot t) reply = reply ≡ shown_reply t.keys t.lines
Gave session.Idle reply = ⊥
Gave (session.Fixing r) reply = ⊥
Gave (session.Settling attempt shards) reply = ⊥

-- a call is an owner's: of its stage, with its operation
pub record IsCallOf (s : State) (o stage : ℕ) (x : Op) : Type 0 where
  pub numbered : 0 < o
  pub of_kind : (owner_at s o).kind ≡ kind.Calling x
  pub of_stage : (owner_at s o).stage ≡ stage

-- a call has ended with a reply
pub record HasReplied (s : State) (o : ℕ) (reply : List Shown) : Type 0 where
  pub op : Op
  pub of_kind : (owner_at s o).kind ≡ kind.Calling op
  pub ended : (owner_at s o).fate ≡ Ended
  pub gave : Gave (owner_at s o).session reply

-- what the entries of a history say of calls: each begins and ends once at most, and ends after it began; and a
-- call ended in an earlier step than one began that begins later
pub record EntriesTell (s : State) : Type 0 where
  pub begins : (i o stage : ℕ) (x : Op) → entry_at s.history i ≡ Begin o stage x → IsCallOf s o stage x
  pub ends : (i o : ℕ) (reply : List Shown) → entry_at s.history i ≡ End o reply → HasReplied s o reply
  pub begins_once : (i j o m n : ℕ) (x y : Op) → entry_at s.history i ≡ Begin o m x → entry_at s.history j ≡ Begin o n y → i ≡ j
  pub ends_once : (i j o : ℕ) (x y : List Shown) → entry_at s.history i ≡ End o x → entry_at s.history j ≡ End o y → i ≡ j
  pub in_turn : (i j o stage : ℕ) (x : Op) (reply : List Shown) → entry_at s.history i ≡ Begin o stage x → entry_at s.history j ≡ End o reply → i < j
  pub order : (i j a b stage : ℕ) (reply : List Shown) (x : Op) → i < j → entry_at s.history i ≡ End a reply → entry_at s.history j ≡ Begin b stage x → (owner_at s a).dates.ended < (owner_at s b).dates.begun

-- the history tells of each call that it has begun, and where it has ended so, with its operation, stage and reply
pub record HistoryTells (s : State) : Type 0 where
  pub entries : EntriesTell s
  pub begun : (o : ℕ) → has_begun s.history o ≡ is_call (owner_at s o).kind
  pub op : (o : ℕ) (x : Op) → (owner_at s o).kind ≡ kind.Calling x → op_of s.history o ≡ x
  pub stage : (o : ℕ) (x : Op) → (owner_at s o).kind ≡ kind.Calling x → stage_of s.history o ≡ (owner_at s o).stage
  pub ended : (o : ℕ) (x : Op) → (owner_at s o).kind ≡ kind.Calling x → (owner_at s o).fate ≡ Ended → has_ended_in s.history o ≡ true
  pub replied : (o : ℕ) → has_ended_in s.history o ≡ true → HasReplied s o (reply_of s.history o)
  pub done : (o : ℕ) (r : RegSession) (e : RegEnd) → (owner_at s o).session ≡ session.Register r → phase_end r.phase ≡ Some e → has_ended_in s.history o ≡ true

-- the dates of an owner, in a state of so many steps: it begins, enters its service, sends its own first round
-- and ends in this order, and none of this later than now
pub record DatesInTurn (steps : ℕ) (running : Bool) (d : Dates) : Type 0 where
  pub begun : d.begun ≤ steps
  pub entered : d.entered ≤ steps
  pub launched : d.launched ≤ steps
  pub ended : d.ended ≤ steps
  pub enters : 0 < d.entered → d.begun ≤ d.entered
  pub launches : 0 < d.launched → d.begun ≤ d.launched
  pub before : 0 < d.entered → 0 < d.launched → d.entered ≤ d.launched
  pub runs : running ≡ true → d.ended ≡ 0
  pub is_over : running ≡ false → (d.begun ≤ d.ended) × (d.entered ≤ d.ended) × (d.launched ≤ d.ended)

-- whether what an owner has under way is a call's own
abbrev pub is_own : Session → Bool
is_own session.Idle = false
is_own (session.Fixing r) = false
is_own (session.Register r) = true
is_own (session.Transaction t) = true
is_own (session.Snapshot t) = true
is_own (session.Settling attempt shards) = false

-- the dates of all owners; what a call has under way of its own, it has sent; of two calls or fence statements of one
-- stage the earlier was over in an earlier step than the later began; and owners are numbered in the order in which they
-- begin
pub record DatesTell (s : State) : Type 0 where
  pub each : (o : ℕ) → DatesInTurn s.steps (is_running (owner_at s o).fate) (owner_at s o).dates
  pub launched : (o : ℕ) (r : RegSession) → (owner_at s o).session ≡ session.Register r → 0 < (owner_at s o).dates.launched
  pub sent : (o : ℕ) → is_own (owner_at s o).session ≡ true → 0 < (owner_at s o).dates.launched
  pub one_at_a_time : (a b : ℕ) → 0 < a → a < b → is_stub (owner_at s a).kind ≡ false → is_stub (owner_at s b).kind ≡ false → b < length s.owners → (owner_at s a).stage - 1 ≡ (owner_at s b).stage - 1
      → (is_running (owner_at s a).fate ≡ false) × ((owner_at s a).dates.ended < (owner_at s b).dates.begun)
  pub rise : (a b : ℕ) → a ≤ b → b < length s.owners → (owner_at s a).dates.begun ≤ (owner_at s b).dates.begun

-- what an owner keeps once it has begun, and once it is over
pub record Kept (v w : Owner) : Type 0 where
  pub stage : w.stage ≡ v.stage
  pub kind : w.kind ≡ v.kind
  pub begun : w.dates.begun ≡ v.dates.begun
  pub fate : is_running v.fate ≡ false → w.fate ≡ v.fate
  pub session : is_running v.fate ≡ false → w.session ≡ v.session
  pub ended : is_running v.fate ≡ false → w.dates.ended ≡ v.dates.ended

-- owners go on from a state to a later one
pub record Onward (s t : State) : Type 0 where
  pub long : length s.owners ≤ length t.owners
  pub each : (o : ℕ) → o < length s.owners → Kept (owner_at s o) (owner_at t o)
