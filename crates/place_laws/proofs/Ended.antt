-- The calls that have ended are placed, and take effect by the step in which they end; and placed calls take effect
-- after they begin.
use Rattle.std.proofs.Common.{◌≡◌, ℕ, ◌<◌, ◌≤◌, ◌⊎◌, inl, inr, true, List, Option, Some, None, refl, sym, ap, ◌∙◌, subst, arith}
use Rattle.std.specs.Prelude.{IsTrue, Contains, max}
use Rattle.std.proofs.lemmas.Bool.Decides.{nat_tests}
use Rattle.rss_names.specs.declared.service.Key.{Key}
use Rattle.carstamps.specs.declared.carstamp.Carstamp.{Carstamp}
use Rattle.causal_context.specs.declared.dep.Dep.{Dep}
use Rattle.pipeline_lang.specs.declared.config.Config.{Config}
use Rattle.rss_model.specs.declared.op.Op.{Op}
use Rattle.rss_model.specs.declared.op.Op.TheVariants as op
use Rattle.rss_model.specs.declared.op.Shown.{Shown}
use Rattle.rss_model.specs.History.{has_ended}
use Rattle.rss_wire.specs.declared.messages.RegReply.{RegReply}
use Rattle.rss_tables.specs.RegisterSession.{RegSession, phase_end}
use Rattle.rss_tables.specs.declared.register_session.RegEnd.{RegEnd}
use Rattle.rss_tables.specs.declared.register_session.RegEnd.TheVariants as ends
use Rattle.rss_tables.specs.declared.register_session.RegPhase.{RegPhase}
use Rattle.rss_tables.specs.declared.register_session.RegPhase.TheVariants as phase
use Rattle.rss_tables.specs.declared.register_session.RegWork.{RegWork}
use Rattle.rss_tables.specs.declared.register_session.RegWork.TheVariants as work
use Rattle.rss_machine.specs.Places.{work_stamp, phase_stamp, keyed_stamp, session_stamp, is_read_work, register_key_of, session_key, keyed_at, keyed_calls, key_lt, has_ended as is_over}
use Rattle.rss_machine.specs.Run.{run}
use Rattle.rss_machine.specs.Session.{Session}
use Rattle.rss_machine.specs.State.{State, owner_at}
use Rattle.rss_machine.specs.Times.{marked_step}
use Rattle.rss_machine.specs.declared.place.KeyedCall.{KeyedCall}
use Rattle.rss_machine.specs.declared.place.PlaceKey.{PlaceKey}
use Rattle.rss_machine.specs.declared.session.OwnerKind.TheVariants as kind
use Rattle.rss_machine.specs.declared.session.Session.TheVariants as session
use Rattle.rss_machine.specs.declared.step.Step.{Step}
use Rattle.world_laws.proofs.OwnerMoves.{busy_there, done_phase}
use Rattle.reg_laws.specs.Agree.{WorkAgrees, Agrees, AllAgree}
use Rattle.reg_laws.specs.Files.{IsInOrder}
use Rattle.reg_laws.proofs.AtDates.{ends_in_time_run}
use Rattle.reg_laws.specs.Line.{EndsInTime, PlacedWrite, write_key, read_key, PlacesInside}
use Rattle.reg_laws.specs.Rounds.{Writes, Reads}
use Rattle.reg_laws.proofs.Agree.{agree_run}
use Rattle.reg_laws.proofs.Legal.{inside_run}
use Rattle.reg_laws.proofs.OwnStamps.{PhaseFits, OwnStamps, own_stamps_run}
use Rattle.place_laws.specs.Alone.{KeepsToServices}
use Rattle.world_laws.specs.Calls.{HistoryTells, DatesTell, Gave, RoundsGave, HasReplied}
use Rattle.world_laws.specs.Scripted.{AreScripted}
use Rattle.world_laws.proofs.ToldLaws.{history_run, dates_run}
use Rattle.world_laws.proofs.Scripts.{scripted_run}
use Rattle.rss_machine.specs.Standing.{is_running}
use Rattle.place_laws.specs.Dependencies.{DependenciesFirst}
use Rattle.place_laws.proofs.Dependencies.{dependencies_run}
use Rattle.place_laws.proofs.KeyedCalls.{keyed_of, keyed_is, is_contained}
use Rattle.place_laws.proofs.Placed.{IsRegisterOp, register_op, ToShards, not_to_shards, IsPlaced, HasRounds, rounds_of, placed_is}
use Rattle.place_laws.proofs.Told.{says}

-- a call that has ended, by what it did
pub record HasWritten (s : State) (o : ℕ) : Type 0 where
  pub key : Key
  pub value : ℕ
  pub stamp : Carstamp
  pub writes : Writes s o key value (phase.Done (ends.Written stamp))

pub record HasRead (s : State) (o : ℕ) : Type 0 where
  pub key : Key
  pub cell : RegReply
  pub dep : Option Dep
  pub reads : Reads s o key (phase.Done (ends.Read cell dep))

-- a call of a register with its key, among the placed ones
pub record IsThere (s : State) (o : ℕ) (k : PlaceKey) : Type 0 where
  pub call : KeyedCall
  pub there : Contains (keyed_calls s) call
  pub is_call : call.call ≡ o
  pub is_key : call.key ≡ k

pub step_below : (x y : PlaceKey) → x.step < y.step → key_lt x y ≡ true
step_below x y l = grind (arith, nat_tests, l)

module _ (c : Config) (n : IsInOrder c) (q : KeepsToServices c) (steps : List Step) (s : State) (e : run c steps ≡ Some s) where
  pub agree : AllAgree s
  agree = agree_run c steps s e

  pub stamps : OwnStamps s
  stamps = own_stamps_run c steps s n.names e

  pub history : HistoryTells s
  history = history_run c steps s e

  dates : DatesTell s
  dates = dates_run c steps s e

  pub scripts : AreScripted c s
  scripts = scripted_run c steps s e

  times : EndsInTime c steps s
  times = ends_in_time_run c steps s n e

  dependencies : DependenciesFirst s
  dependencies = dependencies_run c n q steps s e

  inside : PlacesInside s
  inside = inside_run c steps s n e

  pub ops : (o : ℕ) (x : Op) → (owner_at s o).kind ≡ kind.Calling x → IsRegisterOp (q.service (owner_at s o).stage) x
  ops o x d = register_op c q s scripts o x d

  -- a placed call is a write or a read
  pub is_placed : (k : KeyedCall) → Contains (keyed_calls s) k → IsPlaced s k.call k.key
  is_placed k m = placed_is s agree stamps (λ o. q.service (owner_at s o).stage) ops k.call k.key (owner_at s k.call).session refl (keyed_is s k.call k (keyed_of s k m).keyed).is_key

  -- a call of a register that has a key is there
  there_with : (o : ℕ) (x : Op) (r : RegSession) (k : PlaceKey) → (owner_at s o).kind ≡ kind.Calling x → (owner_at s o).session ≡ session.Register r → session_key s o (owner_at s o).session ≡ Some k → IsThere s o k
  there_with o x r k a b d =
      let w : KeyedCall = record { key = k; call = o; finished = is_over (owner_at s o).fate } in
      record {
        call = w;
        there = is_contained s o w (says s history o x a).numbered (busy_there s o (session.Register r) b refl) (ap (λ (y : Option PlaceKey). keyed_at y o (is_over (owner_at s o).fate)) d);
        is_call = refl;
        is_key = refl;
      }

  write_there : (o : ℕ) (key : Key) (value : ℕ) (stamp : Carstamp) (r : RegSession) → (owner_at s o).session ≡ session.Register r → r.work ≡ work.Write key value → phase_stamp r.phase ≡ Some stamp → (owner_at s o).stored ≡ true → IsThere s o (write_key s o key stamp)
  write_there o key value stamp r a w p d =
      there_with o (op.Write key value) r (write_key s o key stamp) (subst (λ (x : RegWork). WorkAgrees x (owner_at s o).kind) w (rounds_of s agree stamps o r a).agrees.of_kind) a keyed
    where
      of_work : work_stamp r.work r.phase (owner_at s o).stored ≡ Some (key, stamp)
      of_work =
          ap (λ (x : RegWork). work_stamp x r.phase (owner_at s o).stored) w ∙ (ap (work_stamp (work.Write key value) r.phase) d ∙ ap (keyed_stamp key) p)

      of_session : session_stamp (owner_at s o).session (owner_at s o).stored ≡ Some (key, stamp)
      of_session = ap (λ (x : Session). session_stamp x (owner_at s o).stored) a ∙ of_work

      keyed : session_key s o (owner_at s o).session ≡ Some (write_key s o key stamp)
      keyed = ap (session_key s o) a ∙ (ap (register_key_of s o (is_read_work r.work)) of_session ∙ ap (λ (x : RegWork). register_key_of s o (is_read_work x) (Some (key, stamp))) w)

  pub placed_there : (o : ℕ) (key : Key) (value : ℕ) (stamp : Carstamp) → PlacedWrite s o key value stamp → IsThere s o (write_key s o key stamp)
  placed_there o key value stamp w = write_there o key value stamp w.round w.under_way w.of_work w.with_stamp w.handled

  written_there : (o : ℕ) (key : Key) (value : ℕ) (stamp : Carstamp) → Writes s o key value (phase.Done (ends.Written stamp)) → IsThere s o (write_key s o key stamp)
  written_there o key value stamp w = write_there o key value stamp w.round w.under_way w.of_work (ap phase_stamp w.in_phase) (times.stored o key value stamp w)

  read_there : (o : ℕ) (key : Key) (cell : RegReply) (dep : Option Dep) → Reads s o key (phase.Done (ends.Read cell dep)) → IsThere s o (read_key s o key cell.stamp)
  read_there o key cell dep r =
      there_with o (op.Read key) r.round (read_key s o key cell.stamp) (subst (λ (x : RegWork). WorkAgrees x (owner_at s o).kind) r.of_work (rounds_of s agree stamps o r.round r.under_way).agrees.of_kind) r.under_way keyed
    where
      of_session : session_stamp (owner_at s o).session (owner_at s o).stored ≡ Some (key, cell.stamp)
      of_session =
          ap (λ (x : Session). session_stamp x (owner_at s o).stored) r.under_way ∙ (ap (λ (x : RegWork). work_stamp x r.round.phase (owner_at s o).stored) r.of_work ∙ ap (λ (p : RegPhase). work_stamp (work.Read key) p (owner_at s o).stored) r.in_phase)

      keyed : session_key s o (owner_at s o).session ≡ Some (read_key s o key cell.stamp)
      keyed = ap (session_key s o) r.under_way ∙ (ap (register_key_of s o (is_read_work r.round.work)) of_session ∙ ap (λ (x : RegWork). register_key_of s o (is_read_work x) (Some (key, cell.stamp))) r.of_work)

  -- what has ended
  ended_rounds : (o : ℕ) (h : HasRounds s o) (x : RegEnd) → phase_end h.round.phase ≡ Some x → HasWritten s o ⊎ HasRead s o
  ended_rounds o h x d = by_work h.round.work refl x (done_phase h.round.phase x d)
    where
      by_work : (w : RegWork) → h.round.work ≡ w → (y : RegEnd) → h.round.phase ≡ phase.Done y → HasWritten s o ⊎ HasRead s o
      by_work (work.Write key value) w (ends.Written stamp) p = inl (record { key = key; value = value; stamp = stamp; writes = record { round = h.round; under_way = h.under_way; of_work = w; in_phase = p } })
      by_work (work.Read key) w (ends.Read cell dep) p = inr (record { key = key; cell = cell; dep = dep; reads = record { round = h.round; under_way = h.under_way; of_work = w; in_phase = p } })
      by_work (work.Write key value) w (ends.Read cell dep) p = absurd (subst (PhaseFits (work.Write key value)) p (subst (λ (y : RegWork). PhaseFits y h.round.phase) w h.fits))
      by_work (work.Write key value) w ends.Fixed p = absurd (subst (PhaseFits (work.Write key value)) p (subst (λ (y : RegWork). PhaseFits y h.round.phase) w h.fits))
      by_work (work.Read key) w (ends.Written stamp) p = absurd (subst (PhaseFits (work.Read key)) p (subst (λ (y : RegWork). PhaseFits y h.round.phase) w h.fits))
      by_work (work.Read key) w ends.Fixed p = absurd (subst (PhaseFits (work.Read key)) p (subst (λ (y : RegWork). PhaseFits y h.round.phase) w h.fits))
      by_work (work.Fix deps) w y p = absurd (subst (λ (y : RegWork). PhaseFits y h.round.phase) w h.fits)

  -- an ended call's rounds, with its reply
  pub record GaveReply (o : ℕ) (reply : List Shown) : Type 0 where
    pub round : RegSession
    pub under_way : (owner_at s o).session ≡ session.Register round
    pub gave : RoundsGave round reply

  pub gave_reply : (o : ℕ) (reply : List Shown) → HasReplied s o reply → GaveReply o reply
  gave_reply o reply h = by_session (owner_at s o).session refl h.gave
    where
      to_shards : (x : Op) → (owner_at s o).kind ≡ kind.Calling x → ToShards x → ⊥
      to_shards x d m = not_to_shards (q.service (owner_at s o).stage) x (ops o x d) m

      by_session : (x : Session) → (owner_at s o).session ≡ x → Gave x reply → GaveReply o reply
      by_session (session.Register r) x g = record { round = r; under_way = x; gave = g }
      by_session (session.Transaction t) x g = let a = subst (Agrees (owner_at s o)) x (agree.each o) in absurd (to_shards _ a.of_kind tt)
      by_session (session.Snapshot t) x g = let a = subst (Agrees (owner_at s o)) x (agree.each o) in absurd (to_shards _ a.of_kind tt)
      by_session session.Idle x g = absurd g
      by_session (session.Fixing r) x g = absurd g
      by_session (session.Settling attempt shards) x g = absurd g

  pub has_done : (o : ℕ) → IsTrue (has_ended s.history o) → HasWritten s o ⊎ HasRead s o
  has_done o h = let g = gave_reply o _ (history.replied o h) in ended_rounds o (rounds_of s agree stamps o g.round g.under_way) g.gave.end g.gave.done

  -- dates
  launched_before_end : (o : ℕ) → IsTrue (has_ended s.history o) → (owner_at s o).dates.launched ≤ (owner_at s o).dates.ended
  launched_before_end o h = ((dates.each o).is_over (ap is_running (history.replied o h).ended)).2

  rounds_placed : (o : ℕ) (k : PlaceKey) → IsPlaced s o k → HasRounds s o
  rounds_placed o k (inl w) = rounds_of s agree stamps o w.placed.round w.placed.under_way
  rounds_placed o k (inr r) = rounds_of s agree stamps o r.read.round r.read.under_way

  -- a placed call takes effect no earlier than it sends its own first round, and that no earlier than it begins
  launched_by : (o : ℕ) (k : PlaceKey) → IsPlaced s o k → (owner_at s o).dates.launched ≤ k.step
  launched_by o k (inl w) = let l = inside.write o w.key w.value w.stamp w.placed in subst (λ (x : PlaceKey). (owner_at s o).dates.launched ≤ x.step) (sym w.is_key) (omega (arith, l))
  launched_by o k (inr r) = subst (λ (x : PlaceKey). (owner_at s o).dates.launched ≤ x.step) (sym r.is_key) (inside.read o r.key r.cell.stamp)

  begun_by : (o : ℕ) (k : PlaceKey) → IsPlaced s o k → (owner_at s o).dates.begun ≤ (owner_at s o).dates.launched
  begun_by o k p = let h = rounds_placed o k p in inside.begun o (dates.launched o h.round h.under_way)

  -- an ended call takes effect before a placed one that begins later: where it is a write, or of the same stage
  pub record EndsBefore (a b : ℕ) : Type 0 where
    pub has_ended : IsTrue (has_ended s.history a)
    pub dated : (owner_at s a).dates.ended < (owner_at s b).dates.begun

  pub written_before : (a b : ℕ) (k : PlaceKey) (w : HasWritten s a) → EndsBefore a b → IsPlaced s b k → (write_key s a w.key w.stamp).step < k.step
  written_before a b k w h p =
      let l = (times.write a w.key w.value w.stamp w.writes).marked in
      let d = h.dated in let x = begun_by b k p in let y = launched_by b k p in
      omega (arith, l, d, x, y)

  read_stamp : (a b : ℕ) (k : PlaceKey) (r : HasRead s a) → EndsBefore a b → (owner_at s a).stage ≡ (owner_at s b).stage → IsPlaced s b k → marked_step s r.key r.cell.stamp < (owner_at s b).dates.launched
  read_stamp a b k r h g p = by_dep r.dep r.reads
    where
      by_dep : (dep : Option Dep) → Reads s a r.key (phase.Done (ends.Read r.cell dep)) → marked_step s r.key r.cell.stamp < (owner_at s b).dates.launched
      by_dep None d = let l = (times.agreed a r.key r.cell d).marked in let x = h.dated in let y = begun_by b k p in omega (arith, l, x, y)
      by_dep (Some dep) d = let y = rounds_placed b k p in dependencies.left a b r.key r.cell dep y.round d y.under_way g h.dated

  max_below : (m k l : ℕ) → m < l → k < l → max m k < l
  max_below m k l a b = grind (arith, a, b)

  pub read_before : (a b : ℕ) (k : PlaceKey) (r : HasRead s a) → EndsBefore a b → (owner_at s a).stage ≡ (owner_at s b).stage → IsPlaced s b k → (read_key s a r.key r.cell.stamp).step < k.step
  read_before a b k r h g p =
      let l = read_stamp a b k r h g p in
      let d = launched_before_end a h.has_ended in
      let x = h.dated in let y = begun_by b k p in let z = launched_by b k p in
      max_below (marked_step s r.key r.cell.stamp) (owner_at s a).dates.launched k.step (omega (arith, l, z)) (omega (arith, d, x, y, z))

  -- each ended call is there
  pub written_is_there : (o : ℕ) (w : HasWritten s o) → IsThere s o (write_key s o w.key w.stamp)
  written_is_there o w = written_there o w.key w.value w.stamp w.writes

  pub read_is_there : (o : ℕ) (r : HasRead s o) → IsThere s o (read_key s o r.key r.cell.stamp)
  read_is_there o r = read_there o r.key r.cell r.dep r.reads
