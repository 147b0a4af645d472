-- Calls that have ended are placed: what each was, its service, and the step of its place.
use Rattle.std.proofs.Common.{◌≡◌, ℕ, ◌<◌, ◌⊎◌, inl, inr, Bool, true, false, List, length, Option, Some, refl, sym, ap, ◌∙◌, subst}
use Rattle.std.specs.Prelude.{IsTrue}
use Rattle.std.specs.Option.{unwrap_or}
use Rattle.rss_names.specs.declared.service.Key.{Key}
use Rattle.carstamps.specs.declared.carstamp.Carstamp.{Carstamp}
use Rattle.pipeline_lang.specs.declared.config.Config.{Config}
use Rattle.rss_model.specs.History.{has_ended, reply_of}
use Rattle.rss_model.specs.declared.history.Entry.{Entry}
use Rattle.rss_model.specs.declared.op.Op.{Op}
use Rattle.rss_model.specs.declared.op.Op.TheVariants as op
use Rattle.rss_tables.specs.Lines.{Line}
use Rattle.rss_tables.specs.RegisterSession.{RegSession, phase_end}
use Rattle.rss_tables.specs.SnapshotSession.{SnapSession}
use Rattle.rss_tables.specs.TransactionSession.{TxnSession, txn_end}
use Rattle.rss_tables.specs.declared.phases.TxnPhase.TheVariants as txn_phase
use Rattle.rss_tables.specs.declared.register_session.RegEnd.{RegEnd}
use Rattle.rss_tables.specs.declared.register_session.RegEnd.TheVariants as ends
use Rattle.rss_tables.specs.declared.register_session.RegPhase.{RegPhase}
use Rattle.rss_tables.specs.declared.register_session.RegPhase.TheVariants as phase
use Rattle.rss_tables.specs.declared.register_session.RegWork.{RegWork}
use Rattle.rss_tables.specs.declared.register_session.RegWork.TheVariants as work
use Rattle.rss_machine.specs.Places.{work_stamp, phase_stamp, keyed_stamp, session_stamp, is_read_work, register_key_of, session_key, txn_key}
use Rattle.rss_machine.specs.Session.{Session}
use Rattle.rss_machine.specs.State.{State, owner_at}
use Rattle.rss_machine.specs.Times.{step_of_time}
use Rattle.rss_machine.specs.declared.session.OwnerKind.TheVariants as kind
use Rattle.rss_machine.specs.declared.session.Session.TheVariants as session
use Rattle.rss_machine.specs.declared.state.OwnerFate.TheVariants.{Ended}
use Rattle.rss_machine.specs.declared.step.Step.{Step}
use Rattle.world_laws.specs.Calls.{Gave}
use Rattle.world_laws.proofs.OwnerMoves.{busy_there, done_phase}
use Rattle.reg_laws.specs.Agree.{WorkAgrees}
use Rattle.reg_laws.specs.Line.{PlacedWrite, write_key, read_key}
use Rattle.reg_laws.proofs.OwnStamps.{PhaseFits}
use Rattle.txn_state_laws.specs.Decided.{known_commit}
use Rattle.txn_line_laws.specs.Line.{PlacedTxn, commits, fails, reads}
use Rattle.txn_line_laws.proofs.Facts.{commit_is}
use Rattle.txn_line_laws.proofs.Placed.{txn_done, snap_done, txns_placed}
use Rattle.context_moves.specs.Views.{told_time, told_step, step_of}
use Rattle.place_laws.proofs.Ended.{HasWritten, HasRead, IsThere}
use Rattle.place_laws.proofs.Placed.{HasRounds, rounds_of}
use Rattle.place_laws.proofs.Told.{says}
use Rattle.regular_laws.specs.Kept.{IsOfService}
use Rattle.regular_laws.proofs.Known.{Known}
use Rattle.regular_laws.proofs.Calls.{is_there}
use Rattle.regular_laws.proofs.Txns.{txn_op, snap_op}

-- what a call of a transaction service that has ended was: placed by the time of its phase
pub record HasTimed (s : State) (o : ℕ) : Type 0 where
  pub time : ℕ
  pub only_reads : Bool
  pub keys : List Key
  pub lines : List Line
  pub placed : PlacedTxn s o time only_reads keys lines
  pub told : told_time (owner_at s o).session ≡ time

-- a call that has ended: a write, a read, or a call of a transaction service
abbrev pub HasDone : State → ℕ → Type 0
HasDone s o = HasWritten s o ⊎ (HasRead s o ⊎ HasTimed s o)

-- the service of a placed call of a transaction service, whose keys are of that service
pub record IsOfTxn (s : State) (o : ℕ) : Type 0 where
  pub op : Op
  pub of_kind : (owner_at s o).kind ≡ kind.Calling op
  pub keeps : IsOfService op

module _ (c : Config) (steps : List Step) (s : State) (known : Known c steps s) where
  abbrev h : List Entry
  h = s.history

  abbrev pub rounds : (o : ℕ) (r : RegSession) → (owner_at s o).session ≡ session.Register r → HasRounds s o
  rounds o r e = rounds_of s known.agree known.stamps o r e

  -- what has ended
  ended_rounds : (o : ℕ) (x : HasRounds s o) (y : RegEnd) → phase_end x.round.phase ≡ Some y → HasDone s o
  ended_rounds o x y d = by_work x.round.work refl y (done_phase x.round.phase y d)
    where
      by_work : (w : RegWork) → x.round.work ≡ w → (z : RegEnd) → x.round.phase ≡ phase.Done z → HasDone s o
      by_work (work.Write key value) w (ends.Written stamp) p = inl (record { key = key; value = value; stamp = stamp; writes = record { round = x.round; under_way = x.under_way; of_work = w; in_phase = p } })
      by_work (work.Read key) w (ends.Read cell dep) p = inr (inl (record { key = key; cell = cell; dep = dep; reads = record { round = x.round; under_way = x.under_way; of_work = w; in_phase = p } }))
      by_work (work.Write key value) w (ends.Read cell dep) p = absurd (subst (PhaseFits (work.Write key value)) p (subst (λ (z : RegWork). PhaseFits z x.round.phase) w x.fits))
      by_work (work.Write key value) w ends.Fixed p = absurd (subst (PhaseFits (work.Write key value)) p (subst (λ (z : RegWork). PhaseFits z x.round.phase) w x.fits))
      by_work (work.Read key) w (ends.Written stamp) p = absurd (subst (PhaseFits (work.Read key)) p (subst (λ (z : RegWork). PhaseFits z x.round.phase) w x.fits))
      by_work (work.Read key) w ends.Fixed p = absurd (subst (PhaseFits (work.Read key)) p (subst (λ (z : RegWork). PhaseFits z x.round.phase) w x.fits))
      by_work (work.Fix deps) w z p = absurd (subst (λ (z : RegWork). PhaseFits z x.round.phase) w x.fits)

  pub txn_timed : (o : ℕ) (x : TxnSession) → (owner_at s o).session ≡ session.Transaction x → (owner_at s o).fate ≡ Ended → HasTimed s o
  txn_timed o x e f = by_phase (txn_done x.phase z.0 z.1)
    where
      z : (time : ℕ) × (txn_end x.phase ≡ Some time)
      z = known.txns.dated.ended o x e f

      told : told_time (owner_at s o).session ≡ z.0
      told = ap told_time e ∙ ap (λ (m : Option ℕ). unwrap_or m 0) z.1

      by_phase : (x.phase ≡ txn_phase.Committed z.0) ⊎ (x.phase ≡ txn_phase.Failed z.0) → HasTimed s o
      by_phase (inl p) = record { time = z.0; only_reads = false; keys = x.reads; lines = x.lines; placed = commits x z.0 e (commit_is c s known.txns o z.0 x e (known.txns.decided.known o z.0 x e (ap known_commit p))); told = told }
      by_phase (inr p) = record { time = z.0; only_reads = true; keys = x.reads; lines = x.lines; placed = fails x z.0 e p; told = told }

  pub snap_timed : (o : ℕ) (x : SnapSession) → (owner_at s o).session ≡ session.Snapshot x → (owner_at s o).fate ≡ Ended → HasTimed s o
  snap_timed o x e f =
      let z = known.txns.dated.snap_ended o x e f in
      record { time = z.0; only_reads = true; keys = x.keys; lines = x.lines; placed = reads x z.0 e (snap_done x.phase z.0 z.1); told = ap told_time e ∙ ap (λ (m : Option ℕ). unwrap_or m 0) z.1 }

  pub has_done : (o : ℕ) → IsTrue (has_ended h o) → HasDone s o
  has_done o d = let r = known.told.replied o d in by_session (owner_at s o).session refl r.ended r.gave
    where
      by_session : (y : Session) → (owner_at s o).session ≡ y → (owner_at s o).fate ≡ Ended → Gave y (reply_of h o) → HasDone s o
      by_session (session.Register r) e f g = ended_rounds o (rounds o r e) g.end g.done
      by_session (session.Transaction t) e f g = inr (inr (txn_timed o t e f))
      by_session (session.Snapshot t) e f g = inr (inr (snap_timed o t e f))
      by_session session.Idle e f g = absurd g
      by_session (session.Fixing r) e f g = absurd g
      by_session (session.Settling attempt shards) e f g = absurd g

  -- operations, and services
  write_kind : (o : ℕ) (key : Key) (value : ℕ) (r : RegSession) → (owner_at s o).session ≡ session.Register r → r.work ≡ work.Write key value → (owner_at s o).kind ≡ kind.Calling (op.Write key value)
  write_kind o key value r x w = subst (λ (y : RegWork). WorkAgrees y (owner_at s o).kind) w (rounds o r x).agrees.of_kind

  read_kind : (o : ℕ) (key : Key) (r : RegSession) → (owner_at s o).session ≡ session.Register r → r.work ≡ work.Read key → (owner_at s o).kind ≡ kind.Calling (op.Read key)
  read_kind o key r x w = subst (λ (y : RegWork). WorkAgrees y (owner_at s o).kind) w (rounds o r x).agrees.of_kind

  pub written_kind : (o : ℕ) (w : HasWritten s o) → (owner_at s o).kind ≡ kind.Calling (op.Write w.key w.value)
  written_kind o w = write_kind o w.key w.value w.writes.round w.writes.under_way w.writes.of_work

  pub has_read_kind : (o : ℕ) (r : HasRead s o) → (owner_at s o).kind ≡ kind.Calling (op.Read r.key)
  has_read_kind o r = read_kind o r.key r.reads.round r.reads.under_way r.reads.of_work

  pub placed_kind : (o : ℕ) (key : Key) (value : ℕ) (stamp : Carstamp) → PlacedWrite s o key value stamp → (owner_at s o).kind ≡ kind.Calling (op.Write key value)
  placed_kind o key value stamp w = write_kind o key value w.round w.under_way w.of_work

  pub of_txn : (o time : ℕ) (only_reads : Bool) (keys : List Key) (lines : List Line) → PlacedTxn s o time only_reads keys lines → IsOfTxn s o
  of_txn o _ _ _ _ (commits x time e f) = let k = known.txns.framed.txn o x e in record { op = txn_op x; of_kind = k.of_kind; keeps = known.kept.each o (txn_op x) k.of_kind }
  of_txn o _ _ _ _ (fails x time e p) = let k = known.txns.framed.txn o x e in record { op = txn_op x; of_kind = k.of_kind; keeps = known.kept.each o (txn_op x) k.of_kind }
  of_txn o _ _ _ _ (reads x time e p) = let k = known.txns.framed.snap o x e in record { op = snap_op x; of_kind = k.of_kind; keeps = known.kept.each o (snap_op x) k.of_kind }

  -- their places
  write_there : (o : ℕ) (key : Key) (value : ℕ) (stamp : Carstamp) (r : RegSession) → (owner_at s o).session ≡ session.Register r → r.work ≡ work.Write key value → phase_stamp r.phase ≡ Some stamp → (owner_at s o).stored ≡ true → IsThere s o (write_key s o key stamp)
  write_there o key value stamp r a w p d = is_there c steps s known o (write_key s o key stamp) (says s known.told o (op.Write key value) (write_kind o key value r a w)).numbered (busy_there s o (session.Register r) a refl) keyed
    where
      of_work : work_stamp r.work r.phase (owner_at s o).stored ≡ Some (key, stamp)
      of_work = ap (λ (x : RegWork). work_stamp x r.phase (owner_at s o).stored) w ∙ (ap (work_stamp (work.Write key value) r.phase) d ∙ ap (keyed_stamp key) p)

      of_session : session_stamp (owner_at s o).session (owner_at s o).stored ≡ Some (key, stamp)
      of_session = ap (λ (x : Session). session_stamp x (owner_at s o).stored) a ∙ of_work

      keyed : session_key s o (owner_at s o).session ≡ Some (write_key s o key stamp)
      keyed = ap (session_key s o) a ∙ (ap (register_key_of s o (is_read_work r.work)) of_session ∙ ap (λ (x : RegWork). register_key_of s o (is_read_work x) (Some (key, stamp))) w)

  pub placed_there : (o : ℕ) (key : Key) (value : ℕ) (stamp : Carstamp) → PlacedWrite s o key value stamp → IsThere s o (write_key s o key stamp)
  placed_there o key value stamp w = write_there o key value stamp w.round w.under_way w.of_work w.with_stamp w.handled

  pub written_there : (o : ℕ) (w : HasWritten s o) → IsThere s o (write_key s o w.key w.stamp)
  written_there o w = write_there o w.key w.value w.stamp w.writes.round w.writes.under_way w.writes.of_work (ap phase_stamp w.writes.in_phase) (known.ends.stored o w.key w.value w.stamp w.writes)

  pub read_there : (o : ℕ) (r : HasRead s o) → IsThere s o (read_key s o r.key r.cell.stamp)
  read_there o r = is_there c steps s known o (read_key s o r.key r.cell.stamp) (says s known.told o (op.Read r.key) (has_read_kind o r)).numbered (busy_there s o (session.Register r.reads.round) r.reads.under_way refl) keyed
    where
      of_session : session_stamp (owner_at s o).session (owner_at s o).stored ≡ Some (r.key, r.cell.stamp)
      of_session =
          ap (λ (x : Session). session_stamp x (owner_at s o).stored) r.reads.under_way
          ∙ (ap (λ (x : RegWork). work_stamp x r.reads.round.phase (owner_at s o).stored) r.reads.of_work ∙ ap (λ (p : RegPhase). work_stamp (work.Read r.key) p (owner_at s o).stored) r.reads.in_phase)

      keyed : session_key s o (owner_at s o).session ≡ Some (read_key s o r.key r.cell.stamp)
      keyed =
          ap (session_key s o) r.reads.under_way
          ∙ (ap (register_key_of s o (is_read_work r.reads.round.work)) of_session ∙ ap (λ (x : RegWork). register_key_of s o (is_read_work x) (Some (r.key, r.cell.stamp))) r.reads.of_work)

  numbered_there : (o time : ℕ) (only_reads : Bool) (keys : List Key) (lines : List Line) → PlacedTxn s o time only_reads keys lines → (0 < o) × (o < length s.owners)
  numbered_there o _ _ _ _ (commits x time e f) = ((known.txns.framed.txn o x e).numbered, busy_there s o (session.Transaction x) e refl)
  numbered_there o _ _ _ _ (fails x time e p) = ((known.txns.framed.txn o x e).numbered, busy_there s o (session.Transaction x) e refl)
  numbered_there o _ _ _ _ (reads x time e p) = ((known.txns.framed.snap o x e).numbered, busy_there s o (session.Snapshot x) e refl)

  pub txn_there : (o time : ℕ) (only_reads : Bool) (keys : List Key) (lines : List Line) → PlacedTxn s o time only_reads keys lines → IsThere s o (txn_key s o only_reads time)
  txn_there o time only_reads keys lines p = let n = numbered_there o time only_reads keys lines p in is_there c steps s known o (txn_key s o only_reads time) n.0 n.1 ((txns_placed c s known.txns).keyed o time only_reads keys lines p)

  -- the steps of places are those by which contexts see calls
  pub written_step : (o : ℕ) (w : HasWritten s o) → step_of s o ≡ (write_key s o w.key w.stamp).step
  written_step o w =
      ap (λ (y : Session). told_step s (owner_at s o) y) w.writes.under_way
      ∙ (ap (λ (y : RegWork). told_step s (owner_at s o) (session.Register (record w.writes.round { work = y }))) w.writes.of_work
      ∙ ap (λ (p : RegPhase). told_step s (owner_at s o) (session.Register (record w.writes.round { work = work.Write w.key w.value; phase = p }))) w.writes.in_phase)

  pub read_step : (o : ℕ) (r : HasRead s o) → step_of s o ≡ (read_key s o r.key r.cell.stamp).step
  read_step o r =
      ap (λ (y : Session). told_step s (owner_at s o) y) r.reads.under_way
      ∙ (ap (λ (y : RegWork). told_step s (owner_at s o) (session.Register (record r.reads.round { work = y }))) r.reads.of_work
      ∙ ap (λ (p : RegPhase). told_step s (owner_at s o) (session.Register (record r.reads.round { work = work.Read r.key; phase = p }))) r.reads.in_phase)

  timed_by : (o time : ℕ) (only_reads : Bool) (keys : List Key) (lines : List Line) → PlacedTxn s o time only_reads keys lines → step_of s o ≡ step_of_time s (told_time (owner_at s o).session)
  timed_by o _ _ _ _ (commits x time e f) = ap (λ (y : Session). told_step s (owner_at s o) y) e ∙ sym (ap (λ (y : Session). step_of_time s (told_time y)) e)
  timed_by o _ _ _ _ (fails x time e p) = ap (λ (y : Session). told_step s (owner_at s o) y) e ∙ sym (ap (λ (y : Session). step_of_time s (told_time y)) e)
  timed_by o _ _ _ _ (reads x time e p) = ap (λ (y : Session). told_step s (owner_at s o) y) e ∙ sym (ap (λ (y : Session). step_of_time s (told_time y)) e)

  pub timed_step : (o : ℕ) (t : HasTimed s o) → step_of s o ≡ (txn_key s o t.only_reads t.time).step
  timed_step o t = timed_by o t.time t.only_reads t.keys t.lines t.placed ∙ ap (step_of_time s) t.told
