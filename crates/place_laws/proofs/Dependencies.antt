-- What a read left as a dependency has its step before each later call of its stage sends its own first round.
use Rattle.std.proofs.Common.{◌≡◌, ℕ, ◌-◌, ◌<◌, ◌≤◌, ◌⊎◌, inl, inr, false, List, [], ◌++◌, length, All, Some, refl, sym, ap, ◌∙◌, subst, arith}
use Rattle.std.proofs.lemmas.Bool.{cases_order}
use Rattle.std.proofs.lemmas.List.Elements.{All-head}
use Rattle.rss_names.specs.declared.service.Key.{Key}
use Rattle.rss_names.specs.declared.service.ServiceId.{ServiceId}
use Rattle.causal_context.specs.declared.dep.Dep.{Dep}
use Rattle.pipeline_lang.specs.declared.config.Config.{Config}
use Rattle.rss_model.specs.declared.op.Op.{Op}
use Rattle.rss_model.specs.declared.op.Op.TheVariants as op
use Rattle.rss_wire.specs.declared.messages.RegReply.{RegReply}
use Rattle.rss_tables.specs.RegisterSession.{RegSession, phase_end}
use Rattle.rss_tables.specs.declared.register_session.RegEnd.TheVariants as ends
use Rattle.rss_tables.specs.declared.register_session.RegPhase.TheVariants as phase
use Rattle.rss_tables.specs.declared.register_session.RegWork.{RegWork}
use Rattle.rss_tables.specs.declared.register_session.RegWork.TheVariants as work
use Rattle.rss_machine.specs.Run.{run}
use Rattle.rss_machine.specs.Standing.{is_running}
use Rattle.rss_machine.specs.State.{State, owner_at}
use Rattle.rss_machine.specs.Times.{step_of_stamp, marked_step}
use Rattle.rss_machine.specs.declared.session.OwnerKind.TheVariants as kind
use Rattle.rss_machine.specs.declared.session.Session.TheVariants as session
use Rattle.rss_machine.specs.declared.state.OwnerFate.TheVariants.{Ended}
use Rattle.rss_machine.specs.declared.step.Step.{Step}
use Rattle.world_laws.specs.Calls.{is_stub, is_call, HistoryTells, DatesTell}
use Rattle.world_laws.specs.Proper.{work_registers}
use Rattle.world_laws.specs.Registers.{IsRegister}
use Rattle.world_laws.proofs.FileRegisters.{marks_tell_all}
use Rattle.world_laws.proofs.Histories.{begin_in}
use Rattle.world_laws.proofs.Named.{SessionOn, owner_on}
use Rattle.world_laws.proofs.OwnerMoves.{busy_there}
use Rattle.world_laws.proofs.ToldLaws.{history_run, dates_run}
use Rattle.reg_laws.specs.Agree.{WorkAgrees, Agrees, AllAgree}
use Rattle.reg_laws.specs.Files.{IsInOrder}
use Rattle.reg_laws.specs.Line.{SeenFromOne}
use Rattle.reg_laws.specs.Rounds.{Reads}
use Rattle.reg_laws.proofs.Agree.{agree_run}
use Rattle.reg_laws.proofs.Base.{named_of}
use Rattle.reg_laws.proofs.Rounds.{settled_run}
use Rattle.reg_laws.proofs.Seen.{seen_one}
use Rattle.place_laws.specs.Alone.{KeepsToServices}
use Rattle.place_laws.specs.Dependencies.{DependenciesFirst}
use Rattle.place_laws.proofs.Coupling.{IsLeft}
use Rattle.place_laws.proofs.CoupledMoves.{Tells, service_at}
use Rattle.place_laws.proofs.CoupledRuns.{WasHeld, tells_run}
use Rattle.place_laws.proofs.Placed.{IsRegisterOp, reads_one}

-- a call with rounds of its own
record CallOf (s : State) (o : ℕ) : Type 0 where
  op : Op
  of_kind : (owner_at s o).kind ≡ kind.Calling op

read_home : (id : ServiceId) (key : Key) → IsRegisterOp id (op.Read key) → key.service ≡ id
read_home id key (reads_one k e) = e

module _ (c : Config) (n : IsInOrder c) (q : KeepsToServices c) (steps : List Step) (s : State) (e : run c steps ≡ Some s) where
  agree : AllAgree s
  agree = agree_run c steps s e

  tells : Tells c n q (WasHeld c steps) s
  tells = tells_run c n q steps s e

  history : HistoryTells s
  history = history_run c steps s e

  dates : DatesTell s
  dates = dates_run c steps s e

  call_of : (o : ℕ) (r : RegSession) → (owner_at s o).session ≡ session.Register r → CallOf s o
  call_of o r x = by_work r.work refl (subst (Agrees (owner_at s o)) x (agree.each o)).of_kind
    where
      by_work : (w : RegWork) → r.work ≡ w → WorkAgrees r.work (owner_at s o).kind → CallOf s o
      by_work (work.Read key) a k = record { op = op.Read key; of_kind = subst (λ (w : RegWork). WorkAgrees w (owner_at s o).kind) a k }
      by_work (work.Write key value) a k = record { op = op.Write key value; of_kind = subst (λ (w : RegWork). WorkAgrees w (owner_at s o).kind) a k }
      by_work (work.Fix deps) a k = absurd (subst (λ (w : RegWork). WorkAgrees w (owner_at s o).kind) a k)

  numbered : (o : ℕ) → CallOf s o → 0 < o
  numbered o k = let b = begin_in s.history o (history.begun o ∙ ap is_call k.of_kind) in (history.entries.begins b.at o _ _ b.says).numbered

  there : (o : ℕ) (r : RegSession) → (owner_at s o).session ≡ session.Register r → o < length s.owners
  there o r x = busy_there s o (session.Register r) x refl

  module _ (a : ℕ) (key : Key) (cell : RegReply) (dep : Dep) (r : Reads s a key (phase.Done (ends.Read cell (Some dep)))) where
    reader : (owner_at s a).kind ≡ kind.Calling (op.Read key)
    reader = subst (λ (w : RegWork). WorkAgrees w (owner_at s a).kind) r.of_work (subst (Agrees (owner_at s a)) r.under_way (agree.each a)).of_kind

    ended : (owner_at s a).fate ≡ Ended
    ended = (history.replied a (history.done a r.round (ends.Read cell (Some dep)) r.under_way (ap phase_end r.in_phase))).ended

    left : IsLeft (service_at c q) (owner_at s a) key cell.stamp
    left = record {
      of_kind = reader;
      ended = ended;
      at_home = read_home _ key (tells.ops a (op.Read key) reader);
      round = r.round;
      under_way = r.under_way;
      of_work = r.of_work;
      cell = cell;
      dep = dep;
      in_phase = r.in_phase;
      stamp = refl;
    }

    register : IsRegister c key
    register =
        All-head (IsRegister c) key []
        (subst (All (IsRegister c)) (ap work_registers r.of_work) (subst (SessionOn (IsRegister c)) r.under_way (owner_on (IsRegister c) s a (named_of c s (settled_run c n steps s e).0.0.0.0).owners).under_way).work)

    module _ (b : ℕ) (g : RegSession) (x : (owner_at s b).session ≡ session.Register g) (p : (owner_at s a).stage ≡ (owner_at s b).stage) (l : (owner_at s a).dates.ended < (owner_at s b).dates.begun) where
      -- the earlier of two calls of a stage has the smaller number
      before : a < b
      before = by_order (cases_order a b)
        where
          over : is_running (owner_at s a).fate ≡ false
          over = ap is_running ended

          by_order : (a ≡ b) ⊎ ((a < b) ⊎ (b < a)) → a < b
          by_order (inr (inl m)) = m
          by_order (inl m) =
              let d = ((dates.each a).is_over over).0 in
              absurd (let k = subst (λ (i : ℕ). (owner_at s a).dates.ended < (owner_at s i).dates.begun) (sym m) l in omega (arith, d, k))
          by_order (inr (inr m)) =
              let k = call_of b g x in
              let f = dates.one_at_a_time b a (numbered b k) m (ap is_stub k.of_kind) (ap is_stub reader) (there a r.round r.under_way) (ap (λ (i : ℕ). i - 1) (sym p)) in
              let d = ((dates.each a).is_over over).0 in
              let y = ((dates.each b).is_over f.0).0 in
              let z = f.1 in
              absurd (omega (arith, l, d, y, z))

      was_held : WasHeld c steps key cell.stamp (owner_at s b).dates.launched
      was_held = tells.launched a b key cell.stamp (call_of b g x).op left (ap (λ (i : ℕ). i - 1) p) (call_of b g x).of_kind before (dates.launched b g x)

      first : marked_step s key cell.stamp < (owner_at s b).dates.launched
      first = by_held was_held
        where
          by_held : WasHeld c steps key cell.stamp (owner_at s b).dates.launched → marked_step s key cell.stamp < (owner_at s b).dates.launched
          by_held w =
              let f : SeenFromOne c (w.before ++ w.after) w.state s key cell.stamp = seen_one c w.before w.after w.state s key cell.stamp n w.leads (subst (λ (xs : List Step). run c xs ≡ Some s) w.split e) w.held in
              let h : step_of_stamp c steps key cell.stamp ≤ w.state.steps = subst (λ (xs : List Step). step_of_stamp c xs key cell.stamp ≤ w.state.steps) (sym w.split) f.come in
              let m = marks_tell_all c key cell.stamp steps s n.names register e in
              let y = w.early in
              omega (arith, h, m, y)

  pub dependencies_run : DependenciesFirst s
  dependencies_run = record { left = λ a b key cell dep r d x p l. first a key cell dep d b r x p l }
