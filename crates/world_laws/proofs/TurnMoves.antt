-- The walk with the turns of transactions and snapshots whole: what one of them does when it hears a reply, wakes
-- or has waited long enough is one move, from before the reply is heard to the end of its call, if it ends.
use Rattle.std.proofs.Common.{◌≡◌, ℕ, ◌<◌, Bool, true, false, List, [], ◌∷◌, ◌++◌, length, Option, Some, None, refl, ap, ◌∙◌, subst, arith, sym}
use Rattle.std.specs.Prelude.{⊤}
use Rattle.std.proofs.Math.ListN.{set}
use Rattle.truetime.specs.Reading.{Reading}
use Rattle.rss_names.specs.declared.attempt.Attempt.{Attempt}
use Rattle.rss_names.specs.declared.service.Key.{Key}
use Rattle.rss_names.specs.declared.service.Target.{Target}
use Rattle.causal_context.specs.declared.dep.Dep.{Dep}
use Rattle.causal_context.specs.Seen.{after_read, after_write, deps_cleared}
use Rattle.pipeline_lang.specs.declared.config.Config.{Config}
use Rattle.rss_model.specs.declared.history.How.{How}
use Rattle.rss_model.specs.declared.op.Op.{Op}
use Rattle.rss_wire.specs.declared.message.Fate.{Fate}
use Rattle.rss_wire.specs.declared.messages.Outcome.{Outcome}
use Rattle.rss_wire.specs.declared.messages.Request.{Request}
use Rattle.rss_wire.specs.declared.messages.Reply.{Reply}
use Rattle.rss_wire.specs.declared.messages.Reply.TheVariants as reply
use Rattle.rss_wire.specs.declared.messages.RegReply.{RegReply}
use Rattle.carstamps.specs.declared.carstamp.Carstamp.{Carstamp}
use Rattle.causal_context.specs.Deps.{given_dep}
use Rattle.rss_tables.specs.Outs.{slot_replica, Out}
use Rattle.rss_tables.specs.RegisterSession.{RegSession, session_after, phase_end}
use Rattle.rss_tables.specs.declared.register_session.RegEnd.{RegEnd}
use Rattle.rss_tables.specs.declared.register_session.RegEnd.TheVariants as ends
use Rattle.rss_tables.specs.declared.register_session.RegPhase.TheVariants as phase
use Rattle.rss_tables.specs.declared.register_session.RegWork.TheVariants as work
use Rattle.world_laws.proofs.Doings.{Changed, Heard, Beginning, Resting, Working, Leaving, Doing, listens_one, fix_hears, fix_reached, register_hears, register_stores, register_reached, read_ends, write_ends, txn_ends, snap_ends, counts_one, cuts_one, is_closed, forgets_all, turns, stub_asks, turned, ShardTurning, txn_woken, txn_passed, snap_woken}
use Rattle.rss_tables.specs.Lines.{tells_decision, Line}
use Rattle.rss_tables.specs.TransactionSession.{shown_reply, TxnSession, txn_end, txn_wakes, txn_passes, waiting_time}
use Rattle.rss_machine.specs.Calls.{replies, ends_at, forgets_if, txn_turns, snap_turns}
use Rattle.rss_machine.specs.Moves.{marks_message, sends_one, sends, plans_stub, listens, counts_act, counts_loss, dies, closed, forgets, turns_session, goes_on}
use Rattle.rss_machine.specs.Session.{Session}
use Rattle.rss_machine.specs.Slots.{slot_in}
use Rattle.rss_machine.specs.Standing.{is_running}
use Rattle.rss_machine.specs.State.{State, Owner, stage_at, owner_at, no_currents}
use Rattle.rss_machine.specs.declared.session.OwnerKind.TheVariants as kind
use Rattle.rss_machine.specs.declared.session.Session.TheVariants as session
use Rattle.rss_machine.specs.declared.state.OwnerFate.{OwnerFate}
use Rattle.rss_machine.specs.declared.state.OwnerFate.TheVariants.{Ended}
use Rattle.world_laws.proofs.OwnerMoves.{kept_changed, ends_changed, at_own, busy_there, there_own, sends_kept}
use Rattle.world_laws.proofs.SessionMoves.{session_at, IsAgain}
use Rattle.world_laws.proofs.Looks.{looks}
use Rattle.rss_tables.specs.SnapshotSession.{SnapSession, snap_end, snap_wakes}
use Rattle.rss_tables.specs.Turns.{Turn}
use Rattle.rss_machine.specs.Effect.{waking_line}
use Rattle.rss_machine.specs.declared.session.OwnerKind.{OwnerKind}
use Rattle.world_laws.proofs.Contexts.{copy_holds}
use Rattle.std.specs.Prelude.{nat_lt}
use Rattle.rss_tables.specs.Lines.{line_at}
use Rattle.rss_tables.specs.Outs.{slot_shard}
use Rattle.rss_tables.specs.TransactionSession.{txn_hears}
use Rattle.rss_tables.specs.SnapshotSession.{snap_hears}
use Rattle.world_laws.proofs.Doings.{plans, past, fixed, cleared, txn_heard, snap_heard, listened, waits, fixes_work, fixes_own, asks_register, stamps_register, begins_snapshot, begins_txn, fence_done, stub_done}
use Rattle.world_laws.proofs.StageMoves.{AllMoves, Quiet, quiet, StageMove, Dying, BeginNotes, LeavingNotes, DoingNotes, can_end, ended_to}

-- whether what an owner does is no part of a turn of a transaction or a snapshot
abbrev pub IsNoTurn : (s : State) (o : ℕ) (w : Owner) (outs : List Out) (new : List Dep) → Doing s o w outs new → Type 0
IsNoTurn s o _ _ _ (listens_one slot r d) = ⊤
IsNoTurn s o _ _ _ (fix_hears f slot r x d e) = ⊤
IsNoTurn s o _ _ _ (fix_reached f slot r y x d e) = ⊤
IsNoTurn s o _ _ _ (register_hears f slot r x d a e) = ⊤
IsNoTurn s o _ _ _ (register_stores f slot r x d a e) = ⊤
IsNoTurn s o _ _ _ (register_reached f slot r y x d e) = ⊤
IsNoTurn s o _ _ _ (read_ends f key cell dep x a b) = ⊤
IsNoTurn s o _ _ _ (write_ends f key value e x a b) = ⊤
IsNoTurn s o _ _ _ (txn_ends x y time a b d) = ⊥
IsNoTurn s o _ _ _ (snap_ends x y time a b d) = ⊥
IsNoTurn s o _ _ _ (counts_one target) = ⊤
IsNoTurn s o _ _ _ (cuts_one service replica) = ⊤
IsNoTurn s o _ _ _ (is_closed f) = ⊤
IsNoTurn s o _ _ _ forgets_all = ⊥
IsNoTurn s o _ _ _ (turns x outs y) = ⊥
IsNoTurn s o _ _ _ (stub_asks attempt shards e b) = ⊤

-- where the time that works wait for has passed, it has in this step
abbrev pub RestingNotes : (at : Reading) (s : State) (o : ℕ) (w : Owner) → Resting s o w → Type 0
RestingNotes at s o _ (plans e b) = ⊤
RestingNotes at s o _ (past id x rest time l e) = nat_lt time at.earliest ≡ true
RestingNotes at s o _ (fixed id x rest r y l e a d) = ⊤
RestingNotes at s o _ (cleared r y l e a d) = ⊤

-- where a call leaves its works for a round, its own or that of its dependencies, what is known of one that enters its
-- service no more
abbrev pub LaunchNotes : (E : State → ℕ → Type 0) (c : Config) (at : Reading) (s : State) (o : ℕ) (w : Owner) (outs : List Out) → Leaving c at s o w outs → Type 0
LaunchNotes E c at s o _ _ (waits id time rest l) = ⊤
LaunchNotes E c at s o _ _ (fixes_work id rest l) = ⊤
LaunchNotes E c at s o _ _ (fixes_own x dep deps l e d) = E s o
LaunchNotes E c at s o _ _ (asks_register key l e d) = E s o
LaunchNotes E c at s o _ _ (stamps_register key value l e d) = E s o
LaunchNotes E c at s o _ _ (begins_snapshot keys x l e d) = E s o
LaunchNotes E c at s o _ _ (begins_txn reads guard writes x l e d) = E s o
LaunchNotes E c at s o _ _ (fence_done l e) = ⊤
LaunchNotes E c at s o _ _ (stub_done u l e) = ⊤

-- a turn: a line hears its reply, or wakes, or the time that a committed transaction waits for has passed
pub data ShardTurn (c : Config) (at : Reading) (s : State) (o : ℕ) : State → Type 0 where
  txn_answered : (t : TxnSession) (slot : ℕ) (r : Reply) → session_at s o ≡ session.Transaction t → Heard s o slot r →
      ShardTurn c at s o (txn_turns c (listens s o slot) o (txn_hears t (line_at t.lines (slot_shard slot)) at r))
  snap_answered : (t : SnapSession) (slot : ℕ) (r : Reply) → session_at s o ≡ session.Snapshot t → Heard s o slot r →
      ShardTurn c at s o (snap_turns c (listens s o slot) o (snap_hears t (line_at t.lines (slot_shard slot)) r))
  txn_wakes_one : (t : TxnSession) (l : Line) → session_at s o ≡ session.Transaction t → waiting_time t t.phase ≡ None → waking_line s t.lines ≡ Some l →
      ShardTurn c at s o (txn_turns c s o (txn_wakes t l))
  snap_wakes_one : (t : SnapSession) (l : Line) → session_at s o ≡ session.Snapshot t → waking_line s t.lines ≡ Some l →
      ShardTurn c at s o (snap_turns c s o (snap_wakes t l))
  txn_passes_time : (t : TxnSession) (time : ℕ) → session_at s o ≡ session.Transaction t → waiting_time t t.phase ≡ Some time → nat_lt time at.earliest ≡ true →
      ShardTurn c at s o (txn_turns c s o (txn_passes t t.phase))

-- an owner whose copy's dependencies are stored
abbrev pub cleared_owner : State → ℕ → Owner
cleared_owner s o = record (owner_at s o) { works = record (owner_at s o).works { copy = deps_cleared (owner_at s o).works.copy }; session = session.Idle }

-- what has to be shown: as with all moves, but for turns, which are one move each
pub record StepMoves (c : Config) (at : Reading) (A : OwnerFate → Type 0) (F P : State → Type 0) (R D : State → ℕ → Type 0) : Type 1 where
  -- what is known of a call at rest that enters its service no more: it has entered, or its dependencies are stored
  pub E : State → ℕ → Type 0
  pub ready : (s : State) (o : ℕ) (x : Op) → (owner_at s o).works.left ≡ [] → (owner_at s o).kind ≡ kind.Calling x → (owner_at s o).works.enter ≡ false → R s o → E s o
  pub clears : (s t : State) (o : ℕ) (x : Op) (r : RegSession) (e : RegEnd) → o < length s.owners → A (owner_at s o).fate → (owner_at s o).kind ≡ kind.Calling x → (owner_at s o).works.left ≡ [] → session_at s o ≡ session.Fixing r → phase_end r.phase ≡ Some e → (owner_at s o).currents ≡ no_currents
      → Quiet s t → t.owners ≡ set s.owners o (cleared_owner s o) → P s → R t o → E t o
  pub acting : (s : State) (n o : ℕ) → (stage_at s n).owner ≡ Some o → P s → A (owner_at s o).fate
  pub heard : (s : State) (o slot exchange : ℕ) → slot_in (owner_at s o).currents exchange ≡ Some slot → P s → A (owner_at s o).fate
  pub runs : (f : OwnerFate) → is_running f ≡ true → A f
  pub counted : (s : State) (n : ℕ) → F s → F (counts_act s n)
  pub fates : (s : State) (m : ℕ) (f : Fate) → P s → P (marks_message s m f)
  pub again : (s : State) (o exchange slot : ℕ) (target : Target) (r : Request) → IsAgain s o exchange slot target r → P s → P (sends_one s o (record { slot = Some slot; target = target; request = r }))
  pub stages : (s t : State) → StageMove c s t → Changed [] s.owners s t → P s → P t
  pub dies : (s : State) (n : ℕ) (how : How) (f : OwnerFate) → Dying A s n how f → P s → P (dies s n how f)
  pub begins : (s t : State) (w : Owner) (b : Beginning c s w) → BeginNotes c s w b t → F s → Changed [] (s.owners ++ w ∷ []) s t → P s → R t (length s.owners)
  pub rests : (s t : State) (o : ℕ) (w : Owner) → o < length s.owners → A (owner_at s o).fate → (b : Resting s o w) → RestingNotes at s o w b → Quiet s t → Changed [] (set s.owners o w) s t → P s → R t o
  pub settles : (s : State) (o slot : ℕ) (attempt : Attempt) (shards : List ℕ) (outcome : Outcome) → o < length s.owners → A (owner_at s o).fate → session_at s o ≡ session.Settling attempt shards → Heard s o slot (reply.Decided outcome) → P s →
      R (plans_stub (sends (listens s o slot) o (tells_decision attempt outcome shards)) o) o
  pub settled : (s : State) (o : ℕ) → R s o → P s
  pub works : (s t : State) (o : ℕ) (w : Owner) → o < length s.owners → Working at s o w → Quiet s t → Changed [] (set s.owners o w) s t → R s o → R t o
  pub leaves : (s t : State) (o : ℕ) (w : Owner) (outs : List Out) → o < length s.owners → (b : Leaving c at s o w outs) → LeavingNotes c at s o w outs b t → LaunchNotes E c at s o w outs b → Changed [] (set s.owners o w) s t → R s o → P (sends t o outs)
  pub does : (s t : State) (o : ℕ) (w : Owner) (outs : List Out) (new : List Dep) → A (owner_at s o).fate → (b : Doing s o w outs new) → IsNoTurn s o w outs new b → DoingNotes c s o w outs new b t → Changed new (set s.owners o w) s t → P s → P (sends t o outs)
  pub reaches : (s t : State) (o : ℕ) (f : RegSession) (slot : ℕ) (r : Reply) (e : RegEnd) → o < length s.owners → A (owner_at s o).fate → session_at s o ≡ session.Register f → Heard s o slot r → phase_end (session_after f (slot_replica slot) r).phase ≡ Some e
      → Quiet s t → Changed [] (set s.owners o (ended_to s o f slot r)) s t → P s → D t o
  pub reads : (s t : State) (o : ℕ) (f : RegSession) (key : Key) (cell : RegReply) (dep : Option Dep) → A (owner_at s o).fate → session_at s o ≡ session.Register f → f.work ≡ work.Read key → f.phase ≡ phase.Done (ends.Read cell dep)
      → t ≡ replies c s o (record { key = key; value = cell.value; writer = cell.writer } ∷ []) (after_read (owner_at s o).works.copy key.service dep) → Changed (given_dep dep) (set s.owners o (closed s o Ended)) s t → D s o → P t
  pub writes : (s t : State) (o : ℕ) (f : RegSession) (key : Key) (value : ℕ) (stamp : Carstamp) → A (owner_at s o).fate → session_at s o ≡ session.Register f → f.work ≡ work.Write key value → f.phase ≡ phase.Done (ends.Written stamp)
      → t ≡ replies c s o [] (after_write (owner_at s o).works.copy key.service) → Changed [] (set s.owners o (closed s o Ended)) s t → D s o → P t
  pub unfit : (s : State) (o : ℕ) (f : RegSession) (e : RegEnd) → session_at s o ≡ session.Register f → f.phase ≡ phase.Done e → can_end f.work e ≡ false → D s o → P s
  pub turns : (s t : State) (o : ℕ) → A (owner_at s o).fate → ShardTurn c at s o t → P s → P t

-- what the walk asks for: the same, but that a loss is counted and that the request is sent again for it are one
-- move, so that what a request costs can be weighed against the loss
pub record WalkMoves (c : Config) (at : Reading) (A : OwnerFate → Type 0) (F P : State → Type 0) (R D : State → ℕ → Type 0) : Type 1 where
  pub E : State → ℕ → Type 0
  pub ready : (s : State) (o : ℕ) (x : Op) → (owner_at s o).works.left ≡ [] → (owner_at s o).kind ≡ kind.Calling x → (owner_at s o).works.enter ≡ false → R s o → E s o
  pub clears : (s t : State) (o : ℕ) (x : Op) (r : RegSession) (e : RegEnd) → o < length s.owners → A (owner_at s o).fate → (owner_at s o).kind ≡ kind.Calling x → (owner_at s o).works.left ≡ [] → session_at s o ≡ session.Fixing r → phase_end r.phase ≡ Some e → (owner_at s o).currents ≡ no_currents
      → Quiet s t → t.owners ≡ set s.owners o (cleared_owner s o) → P s → R t o → E t o
  pub acting : (s : State) (n o : ℕ) → (stage_at s n).owner ≡ Some o → P s → A (owner_at s o).fate
  pub heard : (s : State) (o slot exchange : ℕ) → slot_in (owner_at s o).currents exchange ≡ Some slot → P s → A (owner_at s o).fate
  pub runs : (f : OwnerFate) → is_running f ≡ true → A f
  pub counted : (s : State) (n : ℕ) → F s → F (counts_act s n)
  pub fates : (s : State) (m : ℕ) (f : Fate) → P s → P (marks_message s m f)
  pub again : (s : State) (o exchange slot : ℕ) (target : Target) (r : Request) → A (owner_at s o).fate → IsAgain (counts_loss s o target) o exchange slot target r → P s → P (sends_one (counts_loss s o target) o (record { slot = Some slot; target = target; request = r }))
  pub stages : (s t : State) → StageMove c s t → Changed [] s.owners s t → P s → P t
  pub dies : (s : State) (n : ℕ) (how : How) (f : OwnerFate) → Dying A s n how f → P s → P (dies s n how f)
  pub begins : (s t : State) (w : Owner) (b : Beginning c s w) → BeginNotes c s w b t → F s → Changed [] (s.owners ++ w ∷ []) s t → P s → R t (length s.owners)
  pub rests : (s t : State) (o : ℕ) (w : Owner) → o < length s.owners → A (owner_at s o).fate → (b : Resting s o w) → RestingNotes at s o w b → Quiet s t → Changed [] (set s.owners o w) s t → P s → R t o
  pub settles : (s : State) (o slot : ℕ) (attempt : Attempt) (shards : List ℕ) (outcome : Outcome) → o < length s.owners → A (owner_at s o).fate → session_at s o ≡ session.Settling attempt shards → Heard s o slot (reply.Decided outcome) → P s →
      R (plans_stub (sends (listens s o slot) o (tells_decision attempt outcome shards)) o) o
  pub settled : (s : State) (o : ℕ) → R s o → P s
  pub works : (s t : State) (o : ℕ) (w : Owner) → o < length s.owners → Working at s o w → Quiet s t → Changed [] (set s.owners o w) s t → R s o → R t o
  pub leaves : (s t : State) (o : ℕ) (w : Owner) (outs : List Out) → o < length s.owners → (b : Leaving c at s o w outs) → LeavingNotes c at s o w outs b t → LaunchNotes E c at s o w outs b → Changed [] (set s.owners o w) s t → R s o → P (sends t o outs)
  pub does : (s t : State) (o : ℕ) (w : Owner) (outs : List Out) (new : List Dep) → A (owner_at s o).fate → (b : Doing s o w outs new) → IsNoTurn s o w outs new b → DoingNotes c s o w outs new b t → Changed new (set s.owners o w) s t → P s → P (sends t o outs)
  pub reaches : (s t : State) (o : ℕ) (f : RegSession) (slot : ℕ) (r : Reply) (e : RegEnd) → o < length s.owners → A (owner_at s o).fate → session_at s o ≡ session.Register f → Heard s o slot r → phase_end (session_after f (slot_replica slot) r).phase ≡ Some e
      → Quiet s t → Changed [] (set s.owners o (ended_to s o f slot r)) s t → P s → D t o
  pub reads : (s t : State) (o : ℕ) (f : RegSession) (key : Key) (cell : RegReply) (dep : Option Dep) → A (owner_at s o).fate → session_at s o ≡ session.Register f → f.work ≡ work.Read key → f.phase ≡ phase.Done (ends.Read cell dep)
      → t ≡ replies c s o (record { key = key; value = cell.value; writer = cell.writer } ∷ []) (after_read (owner_at s o).works.copy key.service dep) → Changed (given_dep dep) (set s.owners o (closed s o Ended)) s t → D s o → P t
  pub writes : (s t : State) (o : ℕ) (f : RegSession) (key : Key) (value : ℕ) (stamp : Carstamp) → A (owner_at s o).fate → session_at s o ≡ session.Register f → f.work ≡ work.Write key value → f.phase ≡ phase.Done (ends.Written stamp)
      → t ≡ replies c s o [] (after_write (owner_at s o).works.copy key.service) → Changed [] (set s.owners o (closed s o Ended)) s t → D s o → P t
  pub unfit : (s : State) (o : ℕ) (f : RegSession) (e : RegEnd) → session_at s o ≡ session.Register f → f.phase ≡ phase.Done e → can_end f.work e ≡ false → D s o → P s
  pub turns : (s t : State) (o : ℕ) → A (owner_at s o).fate → ShardTurn c at s o t → P s → P t

-- a loss that is counted, and then the request that is sent again
module _ (c : Config) (at : Reading) (A : OwnerFate → Type 0) (F P : State → Type 0) (R D : State → ℕ → Type 0) (k : StepMoves c at A F P R D) where
  again_counted : (s : State) (o exchange slot : ℕ) (target : Target) (r : Request) → A (owner_at s o).fate → IsAgain (counts_loss s o target) o exchange slot target r → P s → P (sends_one (counts_loss s o target) o (record { slot = Some slot; target = target; request = r }))
  again_counted s o exchange slot target r g d h =
      k.again (counts_loss s o target) o exchange slot target r d (k.does s (counts_loss s o target) o _ [] [] g (counts_one target) tt (quiet refl refl refl) (kept_changed s o _ refl) h)

  pub walk_moves : WalkMoves c at A F P R D
  walk_moves = record {
    E = k.E;
    ready = k.ready;
    clears = k.clears;
    acting = k.acting;
    heard = k.heard;
    runs = k.runs;
    counted = k.counted;
    fates = k.fates;
    again = again_counted;
    stages = k.stages;
    dies = k.dies;
    begins = k.begins;
    rests = k.rests;
    settles = k.settles;
    settled = k.settled;
    works = k.works;
    leaves = k.leaves;
    does = k.does;
    reaches = k.reaches;
    reads = k.reads;
    writes = k.writes;
    unfit = k.unfit;
    turns = k.turns;
  }

-- what owners keep by all that they do, turns keep
module _ (c : Config) (at : Reading) (A : OwnerFate → Type 0) (P : State → Type 0) (does : (s t : State) (o : ℕ) (w : Owner) (outs : List Out) (new : List Dep) → A (owner_at s o).fate → (b : Doing s o w outs new) → DoingNotes c s o w outs new b t → Changed new (set s.owners o w) s t → P s → P (sends t o outs)) where
  w_txn_ends : (s : State) (o : ℕ) (t : TxnSession) → A (owner_at s o).fate → session_at s o ≡ session.Transaction t → (x : OwnerKind) → (owner_at s o).kind ≡ x → (time : Option ℕ) → txn_end t.phase ≡ time → P s → P (ends_at c s o x (shown_reply t.reads t.lines) time)
  w_txn_ends s o t g a (kind.Calling x) b (Some time) d h =
      does s _ o (closed s o Ended) [] [] g (txn_ends x t time b a d) refl (ends_changed [] s o _ (closed s o Ended) _ _ refl (λ G n y. copy_holds G s o y)) h
  w_txn_ends s o t g a (kind.Calling x) b None d h = h
  w_txn_ends s o t g a kind.Fencing b time d h = h
  w_txn_ends s o t g a (kind.Stubbing u) b time d h = h

  w_snap_ends : (s : State) (o : ℕ) (t : SnapSession) → A (owner_at s o).fate → session_at s o ≡ session.Snapshot t → (x : OwnerKind) → (owner_at s o).kind ≡ x → (time : Option ℕ) → snap_end t.phase ≡ time → P s → P (ends_at c s o x (shown_reply t.keys t.lines) time)
  w_snap_ends s o t g a (kind.Calling x) b (Some time) d h =
      does s _ o (closed s o Ended) [] [] g (snap_ends x t time b a d) refl (ends_changed [] s o _ (closed s o Ended) _ _ refl (λ G n y. copy_holds G s o y)) h
  w_snap_ends s o t g a (kind.Calling x) b None d h = h
  w_snap_ends s o t g a kind.Fencing b time d h = h
  w_snap_ends s o t g a (kind.Stubbing u) b time d h = h

  w_forgets_if : (b : Bool) (s : State) (o : ℕ) → A (owner_at s o).fate → P s → P (forgets_if b s o)
  w_forgets_if true s o g h = does s (forgets s o) o (record (owner_at s o) { currents = no_currents }) [] [] g forgets_all (quiet refl refl refl) (kept_changed s o _ refl) h
  w_forgets_if false s o g h = h

  forgets_session : (b : Bool) (s : State) (o : ℕ) → session_at (forgets_if b s o) o ≡ session_at s o
  forgets_session true s o = grind (arith, looks)
  forgets_session false s o = refl

  forgets_kind : (b : Bool) (s : State) (o : ℕ) → (owner_at (forgets_if b s o) o).kind ≡ (owner_at s o).kind
  forgets_kind true s o = grind (arith, looks)
  forgets_kind false s o = refl

  forgets_fate : (b : Bool) (s : State) (o : ℕ) → (owner_at (forgets_if b s o) o).fate ≡ (owner_at s o).fate
  forgets_fate true s o = grind (arith, looks)
  forgets_fate false s o = refl

  -- what an owner has under way with shards takes a turn
  goes_session : (s : State) (o : ℕ) (x : Session) (outs : List Out) → o < length s.owners → session_at (goes_on s o x outs) o ≡ x
  goes_session s o x outs i = ap (λ (w : Owner). w.session) (sends_kept (turns_session s o x) o outs o) ∙ ap (λ (w : Owner). w.session) (at_own s o (turned s o x) i)

  goes_kind : (s : State) (o : ℕ) (x : Session) (outs : List Out) → (owner_at (goes_on s o x outs) o).kind ≡ (owner_at s o).kind
  goes_kind s o x outs = ap (λ (w : Owner). w.kind) (sends_kept (turns_session s o x) o outs o) ∙ turned_kind s o x
    where
      turned_kind : (s : State) (o : ℕ) (x : Session) → (owner_at (turns_session s o x) o).kind ≡ (owner_at s o).kind
      turned_kind s o x = grind (arith, looks)

  goes_fate : (s : State) (o : ℕ) (x : Session) (outs : List Out) → (owner_at (goes_on s o x outs) o).fate ≡ (owner_at s o).fate
  goes_fate s o x outs = ap (λ (w : Owner). w.fate) (sends_kept (turns_session s o x) o outs o) ∙ turned_fate s o x
    where
      turned_fate : (s : State) (o : ℕ) (x : Session) → (owner_at (turns_session s o x) o).fate ≡ (owner_at s o).fate
      turned_fate s o x = grind (arith, looks)

  w_goes_on : (s : State) (o : ℕ) (x : Session) (outs : List Out) → A (owner_at s o).fate → ShardTurning s o x outs → P s → P (goes_on s o x outs)
  w_goes_on s o x outs g y h = does s (turns_session s o x) o (turned s o x) outs [] g (turns x outs y) (quiet refl refl refl) (kept_changed s o (turned s o x) refl) h

  forgets_there : (b : Bool) (s : State) (o : ℕ) → o < length s.owners → o < length (forgets_if b s o).owners
  forgets_there true s o i = there_own s o _ i
  forgets_there false s o i = i

  w_txn_turns : (s : State) (o : ℕ) (t : Turn TxnSession) → o < length s.owners → A (owner_at s o).fate → ((u : State) → session_at u o ≡ session_at s o → ShardTurning u o (session.Transaction t.after) t.outs) → P s → P (txn_turns c s o t)
  w_txn_turns s o t i g y h =
      let u = forgets_if t.anew s o in
      let v = goes_on u o (session.Transaction t.after) t.outs in
      let a : A (owner_at u o).fate = subst A (sym (forgets_fate t.anew s o)) g in
      w_txn_ends v o t.after (subst A (sym (goes_fate u o (session.Transaction t.after) t.outs)) a) (goes_session u o (session.Transaction t.after) t.outs (forgets_there t.anew s o i)) (owner_at s o).kind
      (goes_kind u o (session.Transaction t.after) t.outs ∙ forgets_kind t.anew s o) (txn_end t.after.phase) refl
      (w_goes_on u o (session.Transaction t.after) t.outs a (y u (forgets_session t.anew s o)) (w_forgets_if t.anew s o g h))

  w_snap_turns : (s : State) (o : ℕ) (t : Turn SnapSession) → o < length s.owners → A (owner_at s o).fate → ((u : State) → session_at u o ≡ session_at s o → ShardTurning u o (session.Snapshot t.after) t.outs) → P s → P (snap_turns c s o t)
  w_snap_turns s o t i g y h =
      let u = forgets_if t.anew s o in
      let v = goes_on u o (session.Snapshot t.after) t.outs in
      let a : A (owner_at u o).fate = subst A (sym (forgets_fate t.anew s o)) g in
      w_snap_ends v o t.after (subst A (sym (goes_fate u o (session.Snapshot t.after) t.outs)) a) (goes_session u o (session.Snapshot t.after) t.outs (forgets_there t.anew s o i)) (owner_at s o).kind
      (goes_kind u o (session.Snapshot t.after) t.outs ∙ forgets_kind t.anew s o) (snap_end t.after.phase) refl
      (w_goes_on u o (session.Snapshot t.after) t.outs a (y u (forgets_session t.anew s o)) (w_forgets_if t.anew s o g h))

  txn_there : (s : State) (o : ℕ) (t : TxnSession) → session_at s o ≡ session.Transaction t → o < length s.owners
  txn_there s o t e = busy_there s o (session.Transaction t) e refl

  snap_there : (s : State) (o : ℕ) (t : SnapSession) → session_at s o ≡ session.Snapshot t → o < length s.owners
  snap_there s o t e = busy_there s o (session.Snapshot t) e refl

  listens_fate : (s : State) (o slot : ℕ) → (owner_at (listens s o slot) o).fate ≡ (owner_at s o).fate
  listens_fate s o slot = grind (arith, looks)

  listens_session : (s : State) (o slot : ℕ) → session_at (listens s o slot) o ≡ session_at s o
  listens_session s o slot = grind (arith, looks)

  w_listens : (s : State) (o slot : ℕ) (r : Reply) → A (owner_at s o).fate → Heard s o slot r → P s → P (listens s o slot)
  w_listens s o slot r g d h = does s (listens s o slot) o (listened s o slot) [] [] g (listens_one slot r d) (quiet refl refl refl) (kept_changed s o (listened s o slot) refl) h

  pub w_turns : (s t : State) (o : ℕ) → A (owner_at s o).fate → ShardTurn c at s o t → P s → P t
  w_turns s _ o g (txn_answered t slot r e d) h =
      w_txn_turns (listens s o slot) o (txn_hears t (line_at t.lines (slot_shard slot)) at r) (there_own s o (listened s o slot) (txn_there s o t e)) (subst A (sym (listens_fate s o slot)) g)
      (λ u i. txn_heard t (line_at t.lines (slot_shard slot)) at r (i ∙ (listens_session s o slot ∙ e))) (w_listens s o slot r g d h)
  w_turns s _ o g (snap_answered t slot r e d) h =
      w_snap_turns (listens s o slot) o (snap_hears t (line_at t.lines (slot_shard slot)) r) (there_own s o (listened s o slot) (snap_there s o t e)) (subst A (sym (listens_fate s o slot)) g)
      (λ u i. snap_heard t (line_at t.lines (slot_shard slot)) r (i ∙ (listens_session s o slot ∙ e))) (w_listens s o slot r g d h)
  w_turns s _ o g (txn_wakes_one t l e a b) h = w_txn_turns s o (txn_wakes t l) (txn_there s o t e) g (λ u i. txn_woken t l (i ∙ e)) h
  w_turns s _ o g (snap_wakes_one t l e b) h = w_snap_turns s o (snap_wakes t l) (snap_there s o t e) g (λ u i. snap_woken t l (i ∙ e)) h
  w_turns s _ o g (txn_passes_time t time e a b) h = w_txn_turns s o (txn_passes t t.phase) (txn_there s o t e) g (λ u i. txn_passed t (i ∙ e)) h

-- and all moves
module _ (c : Config) (at : Reading) (A : OwnerFate → Type 0) (F P : State → Type 0) (R D : State → ℕ → Type 0) (k : AllMoves c at A F P R D) where
  pub step_moves : StepMoves c at A F P R D
  step_moves = record {
    E = λ s o. ⊤;
    ready = λ s o x l e f h. tt;
    clears = λ s t o x r e i a b l d y z q n h m. tt;
    acting = k.acting;
    heard = k.heard;
    runs = k.runs;
    counted = k.counted;
    fates = k.fates;
    again = k.again;
    stages = k.stages;
    dies = k.dies;
    begins = k.begins;
    rests = λ s t o w i a b x q d h. k.rests s t o w i a b q d h;
    settles = k.settles;
    settled = k.settled;
    works = k.works;
    leaves = λ s t o w outs i b q y d h. k.leaves s t o w outs i b q d h;
    does = λ s t o w outs new a b x y d h. k.does s t o w outs new a b y d h;
    reaches = k.reaches;
    reads = k.reads;
    writes = k.writes;
    unfit = k.unfit;
    turns = w_turns c at A P k.does;
  }
