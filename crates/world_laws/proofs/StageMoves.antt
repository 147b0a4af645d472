-- What has to be shown of a predicate on all that a step does, with stages, pipes and the history: each move
-- comes with the state that it makes, and with why it is made. A predicate on what owners have needs less.
use Rattle.std.proofs.Common.{◌≡◌, ℕ, ◌<◌, Bool, true, false, List, [], ◌∷◌, ◌++◌, ◌-◌, length, Option, Some, None, refl}
use Rattle.std.specs.Prelude.{⊤}
use Rattle.std.proofs.Math.ListN.{set}
use Rattle.truetime.specs.Reading.{Reading}
use Rattle.rss_names.specs.declared.attempt.Attempt.{Attempt}
use Rattle.rss_names.specs.declared.service.Key.{Key}
use Rattle.rss_names.specs.declared.service.Target.{Target}
use Rattle.causal_context.specs.declared.dep.Dep.{Dep}
use Rattle.causal_context.specs.Seen.{Seen, after_txn, after_read, after_write}
use Rattle.pipeline_lang.specs.declared.config.Config.{Config}
use Rattle.pipeline_lang.specs.declared.script.Statement.TheVariants as statement
use Rattle.rss_model.specs.Cursor.{Cursor, next_cursor}
use Rattle.rss_model.specs.declared.history.Entry.TheVariants.{Give, Over}
use Rattle.rss_model.specs.declared.history.How.{How}
use Rattle.rss_model.specs.declared.history.How.TheVariants.{Exited, Killed, Unavailable}
use Rattle.rss_model.specs.declared.history.Token.{Token}
use Rattle.rss_model.specs.declared.history.Token.TheVariants as token
use Rattle.rss_wire.specs.declared.message.Fate.{Fate}
use Rattle.rss_wire.specs.declared.messages.Outcome.{Outcome}
use Rattle.rss_wire.specs.declared.messages.Request.{Request}
use Rattle.rss_wire.specs.declared.messages.Reply.{Reply}
use Rattle.rss_wire.specs.declared.messages.Reply.TheVariants as reply
use Rattle.rss_wire.specs.declared.messages.RegReply.{RegReply}
use Rattle.carstamps.specs.declared.carstamp.Carstamp.{Carstamp}
use Rattle.causal_context.specs.Deps.{given_dep}
use Rattle.rss_tables.specs.Outs.{slot_replica}
use Rattle.rss_tables.specs.RegisterSession.{RegSession, session_after, phase_end}
use Rattle.rss_tables.specs.declared.register_session.RegEnd.{RegEnd}
use Rattle.rss_tables.specs.declared.register_session.RegEnd.TheVariants as ends
use Rattle.rss_tables.specs.declared.register_session.RegPhase.TheVariants as phase
use Rattle.rss_tables.specs.declared.register_session.RegWork.{RegWork}
use Rattle.rss_tables.specs.declared.register_session.RegWork.TheVariants as work
use Rattle.world_laws.proofs.Doings.{reached_to}
use Rattle.rss_tables.specs.declared.endings.StubEnd.TheVariants.{Fenced}
use Rattle.rss_tables.specs.Lines.{tells_decision}
use Rattle.rss_tables.specs.Outs.{Out}
use Rattle.rss_tables.specs.Pipes.{Chunk, fenced_mark}
use Rattle.rss_tables.specs.TransactionSession.{shown_reply}
use Rattle.rss_tables.specs.Works.{no_works}
use Rattle.rss_machine.specs.Calls.{replies, fenced_context}
use Rattle.rss_machine.specs.Enabling.{next_statement}
use Rattle.rss_machine.specs.Moves.{marks_message, sends_one, sends, plans_stub, listens, counts_act, moves_on, spawns, receives, takes_chunk, puts, closes, cuts_pipe, dies, opens_call, opens_fence, ends_fence, closed, closes_owner, unsettled_by, with_owner}
use Rattle.rss_machine.specs.Session.{service_of}
use Rattle.rss_machine.specs.Slots.{slot_in}
use Rattle.rss_machine.specs.Standing.{is_live, is_running, stage_state, exit_context}
use Rattle.rss_machine.specs.State.{State, Owner, stage_at, owner_at, pipe_at, opening_owner}
use Rattle.rss_machine.specs.declared.ending.StageState.TheVariants as standing
use Rattle.rss_machine.specs.declared.session.OwnerKind.TheVariants as kind
use Rattle.rss_machine.specs.declared.session.Session.TheVariants as session
use Rattle.rss_machine.specs.declared.state.Life.TheVariants as life
use Rattle.rss_machine.specs.declared.state.OwnerFate.{OwnerFate}
use Rattle.rss_machine.specs.declared.state.OwnerFate.TheVariants.{Ended, Dropped, CutOff}
use Rattle.world_laws.proofs.Doings.{Changed, Heard, Beginning, calls, fences, Resting, Working, Leaving, waits, fixes_work, fixes_own, asks_register, stamps_register, begins_snapshot, begins_txn, fence_done, stub_done, Doing, listens_one, fix_hears, fix_reached, register_hears, register_stores, register_reached, read_ends, write_ends, txn_ends, snap_ends, counts_one, cuts_one, is_closed, forgets_all, turns, stub_asks}
use Rattle.world_laws.specs.Calls.{is_stub}
use Rattle.world_laws.proofs.OwnerMoves.{OwnerMoves, kept_changed, begins_changed}
use Rattle.world_laws.proofs.SessionMoves.{session_at, IsAgain}

-- stages, pipes and the history stay
pub record Quiet (s t : State) : Type 0 where
  pub stages : t.stages ≡ s.stages
  pub pipes : t.pipes ≡ s.pipes
  pub history : t.history ≡ s.history

abbrev pub quiet : {s t : State} → t.stages ≡ s.stages → t.pipes ≡ s.pipes → t.history ≡ s.history → Quiet s t
quiet a b d = record { stages = a; pipes = b; history = d }

-- a live stage, with no call or fence statement under way, makes its next statement
pub record Making (s : State) (n : ℕ) : Type 0 where
  pub nobody : (stage_at s n).owner ≡ None
  pub live : is_live (stage_at s n).life ≡ true

-- the context that lies with the ends of a stage's pipes, and with its exit: its own, or that of its stub
pub data Giving (s : State) (n : ℕ) (seen : Seen) : Type 0 where
  own : seen ≡ (stage_at s n).context → Giving s n seen
  by_stub : (o : ℕ) → is_stub (owner_at s o).kind ≡ true → (owner_at s o).stage ≡ n → seen ≡ (owner_at s o).works.copy → Giving s n seen

-- the context that lies with a token that a stage gets by its next statement, and that stays: a child has exited,
-- or its stub is done, or a pipe has its end mark
pub data Lying (c : Config) (s : State) (n : ℕ) : Token → Seen → Type 0 where
  exited : (child : ℕ) → next_statement c s n ≡ statement.Wait child → stage_state s child ≡ standing.Exited → Lying c s n (token.Exit child) (exit_context s child)
  stubbed : (child : ℕ) (how : How) → next_statement c s n ≡ statement.Wait child → stage_state s child ≡ standing.Ended how (Some Fenced) → Lying c s n (token.Exit child) (exit_context s child)
  marked : (variable p number : ℕ) (seen : Seen) → next_statement c s n ≡ statement.Take variable p → (pipe_at s p).mark ≡ fenced_mark number seen → Lying c s n (token.Chunk p number) seen

-- what stages and pipes do, where owners stay as they are
pub data StageMove (c : Config) (s : State) : State → Type 0 where
  counts : (n : ℕ) → StageMove c s (counts_act s n)
  goes_to : (n : ℕ) (cursor : Cursor) → StageMove c s (moves_on s n cursor)
  spawns_one : (n child : ℕ) (cursor : Cursor) → Making s n → next_statement c s n ≡ statement.Spawn child → StageMove c s (spawns s n child cursor)
  gets : (n : ℕ) (t : Token) (seen : Seen) (cursor : Cursor) → Making s n → Lying c s n t seen → StageMove c s (receives s n t seen cursor)
  takes_one : (n variable p : ℕ) (chunk : Chunk) (chunks : List Chunk) (cursor : Cursor) → Making s n → next_statement c s n ≡ statement.Take variable p → (pipe_at s p).chunks ≡ chunk ∷ chunks →
      StageMove c s (receives (takes_chunk s p) n (token.Chunk p chunk.number) chunk.context cursor)
  puts_one : (n p value : ℕ) (dropped : Bool) (cursor : Cursor) → Making s n → StageMove c s (puts s n p value dropped cursor)
  closes_one : (n p : ℕ) (seen : Seen) → Giving s n seen → StageMove c s (closes s n seen p)
  cuts_off_one : (p : ℕ) → StageMove c s (cuts_pipe s p)
  is_over : (n : ℕ) → Making s n → StageMove c s (record s { stages = set s.stages (n - 1) (record (stage_at s n) { life = life.Over Exited }); history = s.history ++ Over n Exited ∷ [] })
  exit_given : (n : ℕ) (seen : Seen) → Giving s n seen → StageMove c s (record s { history = s.history ++ Give n (token.Exit n) ∷ [] })

-- why a stage dies: it is killed while it lives, or a target is lost to its call or fence statement
pub data Dying (A : OwnerFate → Type 0) (s : State) (n : ℕ) : How → OwnerFate → Type 0 where
  killed : is_live (stage_at s n).life ≡ true → Dying A s n Killed Dropped
  lost : (o : ℕ) (target : Target) → n ≡ (owner_at s o).stage → is_stub (owner_at s o).kind ≡ false → A (owner_at s o).fate → Dying A s n Unavailable (CutOff target)

-- what a beginning, a leaving and a doing make of the state
abbrev pub BeginNotes : (c : Config) (s : State) (w : Owner) → Beginning c s w → State → Type 0
BeginNotes c s _ (calls n x e) t = Making s n × (t ≡ opens_call s n x)
BeginNotes c s _ (fences n) t = (Making s n × (next_statement c s n ≡ statement.Fence)) × (t ≡ opens_fence s n)

abbrev pub LeavingNotes : (c : Config) (at : Reading) (s : State) (o : ℕ) (w : Owner) (outs : List Out) → Leaving c at s o w outs → State → Type 0
LeavingNotes c at s o _ _ (waits id time rest l) t = Quiet s t
LeavingNotes c at s o _ _ (fixes_work id rest l) t = Quiet s t
LeavingNotes c at s o _ _ (fixes_own x dep deps l e d) t = Quiet s t
LeavingNotes c at s o _ _ (asks_register key l e d) t = Quiet s t
LeavingNotes c at s o _ _ (stamps_register key value l e d) t = Quiet s t
LeavingNotes c at s o _ _ (begins_snapshot keys x l e d) t = Quiet s t
LeavingNotes c at s o _ _ (begins_txn reads guard writes x l e d) t = Quiet s t
LeavingNotes c at s o _ _ (fence_done l e) t = t ≡ ends_fence s o (next_cursor (stage_at s (owner_at s o).stage).cursor) (fenced_context (stage_at s (owner_at s o).stage).context (owner_at s o).works.copy)
LeavingNotes c at s o _ _ (stub_done u l e) t = Quiet s t

-- a stub is cut off
pub record CutsStub (s : State) (o : ℕ) (f : OwnerFate) : Type 0 where
  pub target : Target
  pub stub : is_stub (owner_at s o).kind ≡ true
  pub cut : f ≡ CutOff target

-- where the rounds of a call are done, and where it ends, it does so in two moves that belong together
abbrev pub DoingNotes : (c : Config) (s : State) (o : ℕ) (w : Owner) (outs : List Out) (new : List Dep) → Doing s o w outs new → State → Type 0
DoingNotes c s o _ _ _ (listens_one slot r d) t = Quiet s t
DoingNotes c s o _ _ _ (fix_hears f slot r x d e) t = Quiet s t
DoingNotes c s o _ _ _ (fix_reached f slot r y x d e) t = Quiet s t
DoingNotes c s o _ _ _ (register_hears f slot r x d a e) t = Quiet s t
DoingNotes c s o _ _ _ (register_stores f slot r x d a e) t = Quiet s t
DoingNotes c s o _ _ _ (register_reached f slot r y x d e) t = ⊥
DoingNotes c s o _ _ _ (read_ends f key cell dep x a b) t = ⊥
DoingNotes c s o _ _ _ (write_ends f key value e x a b) t = ⊥
DoingNotes c s o _ _ _ (txn_ends x y time a b d) t = t ≡ replies c s o (shown_reply y.reads y.lines) (after_txn (owner_at s o).works.copy (service_of x) time)
DoingNotes c s o _ _ _ (snap_ends x y time a b d) t = t ≡ replies c s o (shown_reply y.keys y.lines) (after_txn (owner_at s o).works.copy (service_of x) time)
DoingNotes c s o _ _ _ (counts_one target) t = Quiet s t
DoingNotes c s o _ _ _ (cuts_one service replica) t = Quiet s t
DoingNotes c s o _ _ _ (is_closed f) t = CutsStub s o f × Quiet s t
DoingNotes c s o _ _ _ forgets_all t = Quiet s t
DoingNotes c s o _ _ _ (turns x outs y) t = Quiet s t
DoingNotes c s o _ _ _ (stub_asks attempt shards e b) t = Quiet s t

-- whether a call's rounds can end so
abbrev pub can_end : RegWork → RegEnd → Bool
can_end (work.Read key) (ends.Read cell dep) = true
can_end (work.Read key) (ends.Written stamp) = false
can_end (work.Read key) ends.Fixed = false
can_end (work.Write key value) (ends.Written stamp) = true
can_end (work.Write key value) (ends.Read cell dep) = false
can_end (work.Write key value) ends.Fixed = false
can_end (work.Fix deps) end = false

-- an owner's call whose rounds have ended
abbrev pub ended_to : State → ℕ → RegSession → ℕ → Reply → Owner
ended_to s o f slot r = reached_to s o (session.Register (session_after f (slot_replica slot) r))

-- what has to be shown. `A` is what is known of the fate of an owner that goes on, `F` what is known of a state
-- in which nothing has happened in this step yet, and `D` one that an owner's call has done its rounds in
pub record AllMoves (c : Config) (at : Reading) (A : OwnerFate → Type 0) (F P : State → Type 0) (R D : State → ℕ → Type 0) : Type 1 where
  pub acting : (s : State) (n o : ℕ) → (stage_at s n).owner ≡ Some o → P s → A (owner_at s o).fate
  pub heard : (s : State) (o slot exchange : ℕ) → slot_in (owner_at s o).currents exchange ≡ Some slot → P s → A (owner_at s o).fate
  pub runs : (f : OwnerFate) → is_running f ≡ true → A f
  pub counted : (s : State) (n : ℕ) → F s → F (counts_act s n)
  pub fates : (s : State) (m : ℕ) (f : Fate) → P s → P (marks_message s m f)
  pub again : (s : State) (o exchange slot : ℕ) (target : Target) (r : Request) → IsAgain s o exchange slot target r → P s → P (sends_one s o (record { slot = Some slot; target = target; request = r }))
  pub stages : (s t : State) → StageMove c s t → Changed [] s.owners s t → P s → P t
  pub dies : (s : State) (n : ℕ) (how : How) (f : OwnerFate) → Dying A s n how f → P s → P (dies s n how f)
  pub begins : (s t : State) (w : Owner) (b : Beginning c s w) → BeginNotes c s w b t → F s → Changed [] (s.owners ++ w ∷ []) s t → P s → R t (length s.owners)
  pub rests : (s t : State) (o : ℕ) (w : Owner) → o < length s.owners → A (owner_at s o).fate → Resting s o w → Quiet s t → Changed [] (set s.owners o w) s t → P s → R t o
  pub settles : (s : State) (o slot : ℕ) (attempt : Attempt) (shards : List ℕ) (outcome : Outcome) → o < length s.owners → A (owner_at s o).fate → session_at s o ≡ session.Settling attempt shards → Heard s o slot (reply.Decided outcome) → P s →
      R (plans_stub (sends (listens s o slot) o (tells_decision attempt outcome shards)) o) o
  pub settled : (s : State) (o : ℕ) → R s o → P s
  pub works : (s t : State) (o : ℕ) (w : Owner) → o < length s.owners → Working at s o w → Quiet s t → Changed [] (set s.owners o w) s t → R s o → R t o
  pub leaves : (s t : State) (o : ℕ) (w : Owner) (outs : List Out) → o < length s.owners → (b : Leaving c at s o w outs) → LeavingNotes c at s o w outs b t → Changed [] (set s.owners o w) s t → R s o → P (sends t o outs)
  pub does : (s t : State) (o : ℕ) (w : Owner) (outs : List Out) (new : List Dep) → A (owner_at s o).fate → (b : Doing s o w outs new) → DoingNotes c s o w outs new b t → Changed new (set s.owners o w) s t → P s → P (sends t o outs)
  pub reaches : (s t : State) (o : ℕ) (f : RegSession) (slot : ℕ) (r : Reply) (e : RegEnd) → o < length s.owners → A (owner_at s o).fate → session_at s o ≡ session.Register f → Heard s o slot r → phase_end (session_after f (slot_replica slot) r).phase ≡ Some e
      → Quiet s t → Changed [] (set s.owners o (ended_to s o f slot r)) s t → P s → D t o
  pub reads : (s t : State) (o : ℕ) (f : RegSession) (key : Key) (cell : RegReply) (dep : Option Dep) → A (owner_at s o).fate → session_at s o ≡ session.Register f → f.work ≡ work.Read key → f.phase ≡ phase.Done (ends.Read cell dep)
      → t ≡ replies c s o (record { key = key; value = cell.value; writer = cell.writer } ∷ []) (after_read (owner_at s o).works.copy key.service dep) → Changed (given_dep dep) (set s.owners o (closed s o Ended)) s t → D s o → P t
  pub writes : (s t : State) (o : ℕ) (f : RegSession) (key : Key) (value : ℕ) (stamp : Carstamp) → A (owner_at s o).fate → session_at s o ≡ session.Register f → f.work ≡ work.Write key value → f.phase ≡ phase.Done (ends.Written stamp)
      → t ≡ replies c s o [] (after_write (owner_at s o).works.copy key.service) → Changed [] (set s.owners o (closed s o Ended)) s t → D s o → P t
  pub unfit : (s : State) (o : ℕ) (f : RegSession) (e : RegEnd) → session_at s o ≡ session.Register f → f.phase ≡ phase.Done e → can_end f.work e ≡ false → D s o → P s

-- what is known of any owner that goes on, and of any state
abbrev pub AnyFate : OwnerFate → Type 0
AnyFate f = ⊤

abbrev pub AnyState : State → Type 0
AnyState s = ⊤

-- a predicate on what owners have, where a stage dies
module _ (P : State → Type 0) (stub_begins : (s t : State) (n : ℕ) (u : Option (Attempt × List ℕ)) → Changed [] (s.owners ++ opening_owner n (kind.Stubbing u) false (no_works (stage_at s n).context) s.steps ∷ []) s t → P s → P t) (does : (s t : State) (o : ℕ) (w : Owner) (outs : List Out) (new : List Dep) → Doing s o w outs new → Changed new (set s.owners o w) s t → P s → P (sends t o outs)) where
  owner_closed : (s : State) (o : Option ℕ) (f : OwnerFate) → P s → P (closes_owner s o f)
  owner_closed s None f h = h
  owner_closed s (Some o) f h = does s (with_owner s o (closed s o f)) o (closed s o f) [] [] (is_closed f) (kept_changed s o (closed s o f) refl) h

  pub owner_dies : (s : State) (n : ℕ) (how : How) (f : OwnerFate) → P s → P (dies s n how f)
  owner_dies s n how f h = by_owner (stage_at s n).owner (owner_closed s (stage_at s n).owner f h)
    where
      by_owner : (o : Option ℕ) → P (closes_owner s o f) → P (let t = closes_owner s o f in record t {
        owners = t.owners ++ opening_owner n (kind.Stubbing (unsettled_by s o)) false (no_works (stage_at s n).context) s.steps ∷ [];
        stages = set t.stages (n - 1) (record (stage_at t n) { life = life.Over how; owner = None; stub = Some (length t.owners) });
        history = t.history ++ Over n how ∷ [];
      })
      by_owner None p = stub_begins s _ n (unsettled_by s None) (begins_changed s (n - 1) n (opening_owner n (kind.Stubbing (unsettled_by s None)) false (no_works (stage_at s n).context) s.steps) _ s.planned _ refl refl) p
      by_owner (Some o) p = let t = with_owner s o (closed s o f) in
          stub_begins t _ n (unsettled_by s (Some o)) (begins_changed t (n - 1) n (opening_owner n (kind.Stubbing (unsettled_by s (Some o))) false (no_works (stage_at s n).context) s.steps) _ t.planned _ refl refl) p

-- and all that a step does
module _ (c : Config) (at : Reading) (P : State → Type 0) (R : State → ℕ → Type 0) (k : OwnerMoves c at P R) where
  pub owner_all : AllMoves c at AnyFate AnyState P R (λ s o. P s)
  owner_all = record {
    acting = λ s n o e h. tt;
    heard = λ s o slot exchange e h. tt;
    runs = λ f e. tt;
    counted = λ s n h. tt;
    fates = k.fates;
    again = k.again;
    stages = λ s t y d h. k.stages s t d h;
    dies = λ s n how f y h. owner_dies P k.dies k.does s n how f h;
    begins = λ s t w b y a d h. k.begins s t w b d h;
    rests = λ s t o w i a b q d h. k.rests s t o w i b d h;
    settles = λ s o slot attempt shards outcome i a e d h. k.settles s o slot attempt shards outcome i e d h;
    settled = k.settled;
    works = λ s t o w i b q d h. k.works s t o w i b d h;
    leaves = λ s t o w outs i b q d h. k.leaves s t o w outs i b d h;
    does = λ s t o w outs new a b q d h. k.does s t o w outs new b d h;
    reaches = λ s t o f slot r e i a x y z q d h. k.does s t o (ended_to s o f slot r) [] [] (register_reached f slot r e x y z) d h;
    reads = λ s t o f key cell dep a x y z q d h. k.does s t o (closed s o Ended) [] (given_dep dep) (read_ends f key cell dep x y z) d h;
    writes = λ s t o f key value stamp a x y z q d h. k.does s t o (closed s o Ended) [] [] (write_ends f key value (ends.Written stamp) x y z) d h;
    unfit = λ s o f e x y z h. h;
  }
