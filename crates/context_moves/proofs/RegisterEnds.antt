-- A register call ends: a majority holds its stamp, or the dependency that it leaves holds it.
use Rattle.std.proofs.Common.{◌≡◌, ℕ, ◌≤◌, ◌⊎◌, inl, inr, Bool, true, false, List, [], ◌∷◌, Option, Some, None, All, refl, sym, ap, ◌∙◌, subst, arith}
use Rattle.std.specs.Prelude.{◌&&◌, ◌||◌, ◌==◌, nat_le}
use Rattle.std.proofs.lemmas.Bool.Decides.{nat_tests}
use Rattle.std.proofs.lemmas.List.Elements.{All-nil, All-cons}
use Rattle.truetime.specs.Reading.{Reading}
use Rattle.rss_names.specs.declared.service.Key.{Key}
use Rattle.rss_names.specs.declared.service.ServiceId.{ServiceId}
use Rattle.rss_names.specs.declared.service.ServiceId.TheVariants.{Reg}
use Rattle.carstamps.specs.declared.carstamp.Carstamp.{Carstamp}
use Rattle.carstamps.specs.Stamp.{stamp_le, opening_stamp}
use Rattle.std.specs.Option.{unwrap_or}
use Rattle.causal_context.specs.declared.dep.Dep.{Dep}
use Rattle.causal_context.specs.Deps.{given_dep}
use Rattle.causal_context.specs.Services.{IsService}
use Rattle.causal_context.specs.Seen.{Seen, after_read, after_write}
use Rattle.pipeline_lang.specs.declared.config.Config.{Config}
use Rattle.rss_model.specs.declared.op.Op.{Op}
use Rattle.rss_model.specs.declared.op.Op.TheVariants as op
use Rattle.rss_model.specs.declared.op.Shown.{Shown}
use Rattle.rss_model.specs.Cursor.{Cursor}
use Rattle.rss_wire.specs.declared.messages.RegReply.{RegReply}
use Rattle.rss_tables.specs.RegisterSession.{RegSession}
use Rattle.rss_tables.specs.declared.register_session.RegEnd.TheVariants as ends
use Rattle.rss_tables.specs.declared.register_session.RegPhase.{RegPhase}
use Rattle.rss_tables.specs.declared.register_session.RegPhase.TheVariants as phase
use Rattle.rss_tables.specs.declared.register_session.RegWork.{RegWork}
use Rattle.rss_tables.specs.declared.register_session.RegWork.TheVariants as work
use Rattle.rss_machine.specs.Marks.{is_held}
use Rattle.rss_machine.specs.Moves.{ends_call, closed}
use Rattle.rss_machine.specs.Places.{effect_step, is_read_work, phase_stamp}
use Rattle.rss_machine.specs.Session.{Session, service_of}
use Rattle.rss_machine.specs.Standing.{is_running}
use Rattle.rss_machine.specs.State.{State, Owner, owner_at, replicas_at}
use Rattle.rss_machine.specs.Times.{marked_step}
use Rattle.rss_machine.specs.declared.session.OwnerKind.TheVariants as kind
use Rattle.rss_machine.specs.declared.session.Session.TheVariants as session
use Rattle.rss_machine.specs.declared.state.OwnerFate.TheVariants.{Ended}
use Rattle.world_laws.specs.Proper.{work_registers}
use Rattle.world_laws.specs.Registers.{IsRegister}
use Rattle.world_laws.proofs.Later.{le_same}
use Rattle.world_laws.proofs.OwnerFits.{is_own}
use Rattle.world_laws.proofs.SessionMoves.{session_at}
use Rattle.reg_laws.specs.Agree.{Agrees, CallAgrees, WorkAgrees}
use Rattle.world_laws.specs.InOrder.{IsInOrder}
use Rattle.reg_laws.proofs.Above.{proper_service}
use Rattle.reg_laws.proofs.Base.{fine_of}
use Rattle.reg_laws.proofs.Rounds.{round_held}
use Rattle.reg_laws.proofs.RoundsHeld.{PhaseHeld, ReadHeld}
use Rattle.order_laws.specs.CallsBehind.{CallsBehind}
use Rattle.coupling_laws.specs.Calls.{View, EndedCall, and_one}
use Rattle.coupling_laws.specs.Covers.{Covers, IsAt, IsValid, holds}
use Rattle.coupling_laws.proofs.Ends.{read_ends, write_ends}
use Rattle.context_moves.specs.Views.{view_of, told_key, told_stamp, work_key, call_of, step_of, told_step, kind_service}
use Rattle.context_moves.specs.Covering.{Covering, IsOwn}
use Rattle.context_moves.proofs.CallEnds.{call_ends, end_clock, owner_ended, now_ended, of_call}
use Rattle.context_moves.proofs.Facts.{Facts}
use Rattle.context_moves.proofs.Later.{told_same}
use Rattle.context_moves.proofs.Tables.{ended_table}

module _ (c : Config) (n : IsInOrder c) (at : Reading) (b : CallsBehind) (s : State) (h : Facts c n at s) (k : Covering c (view_of c s) b s) (o : ℕ) (g : RegSession) (key : Key) (x : Op) (r : is_running (owner_at s o).fate ≡ true)
    (e : session_at s o ≡ session.Register g) (q : (owner_at s o).kind ≡ kind.Calling x) (w : work_registers g.work ≡ key ∷ []) (wk : work_key g.work ≡ key) (i : IsRegister c key) (j : service_of x ≡ key.service) where
  abbrev own_copy : Seen
  own_copy = (owner_at s o).works.copy

  own : IsOwn (owner_at s o) x
  own = (k.owners o).own x q r ((h.told.fits o).launched (ap is_own e))

  at_own : IsAt own_copy (Reg i.number)
  at_own = subst (IsAt own_copy) (j ∙ i.is) own.at

  service_ok : IsService (Reg i.number)
  service_ok = (i.first, i.last)

  same_service_of : g.service ≡ key.service
  same_service_of = proper_service c s o g key (fine_of c s h.settled.0.0.0.0) e w

  both_below : (b : Bool) (m l k : ℕ) → m ≤ k → l ≤ k → effect_step b m l ≤ k
  both_below true m l k x y = grind (arith, x, y)
  both_below false m l k x y = x

  -- where a majority holds its stamp, its step has come
  module _ (shown : List Shown) (cursor : Cursor) (seen : Seen) where
    abbrev t : State
    t = ends_call s o shown cursor seen

    abbrev v' : View
    v' = view_of c t

    own_ended : owner_at t o ≡ closed s o Ended
    own_ended = owner_ended c b s o x shown cursor seen r q h.told.stages k

    call_is : v'.call o ≡ call_of (owner_at s o)
    call_is = of_call c b s o x shown cursor seen r q h.told.stages k

    made : (m : ℕ) → m ≤ s.steps → nat_le m s.steps ≡ true
    made m l = grind (arith, nat_tests, l)

    come_where_held : (z : Carstamp) → told_stamp (session.Register g) ≡ z → is_held (replicas_at s key.service) key z ≡ true → v'.come o ≡ true
    come_where_held z f y = made (step_of t o) (subst (λ (m : ℕ). m ≤ s.steps) (sym step_is) below)
      where
        step_is : step_of t o ≡ told_step s (closed s o Ended) (session.Register g)
        step_is = ap (λ (m : Owner). told_step t m m.session) own_ended ∙ (told_same s t (end_clock c b s o x shown cursor seen r q h.told.stages k) (closed s o Ended) (owner_at s o).session ∙ ap (λ (m : Session). told_step s (closed s o Ended) m) e)

        mark : marked_step s (work_key g.work) (told_stamp (session.Register g)) ≤ s.steps
        mark = subst (λ (m : Key). marked_step s m (told_stamp (session.Register g)) ≤ s.steps) (sym wk) (subst (λ (m : Carstamp). marked_step s key m ≤ s.steps) (sym f) (let l = h.early key z i y in omega (arith, l)))

        below : told_step s (closed s o Ended) (session.Register g) ≤ s.steps
        below = both_below (is_read_work g.work) _ (owner_at s o).dates.launched s.steps mark (h.told.fits o).dates.launched

    service_now : (v'.call o).service ≡ Reg i.number
    service_now = ap (λ (y : EndedCall). y.service) call_is ∙ (ap kind_service q ∙ (j ∙ i.is))

    ended_now : v'.ended o ≡ true
    ended_now = now_ended c b s o x shown cursor seen r q h.told.stages k

    pub write_covers : (z : Carstamp) → told_stamp (session.Register g) ≡ z → is_held (replicas_at s key.service) key z ≡ true → seen ≡ after_write own_copy key.service → Covering c v' (ended_table b (owner_at s o).stage o) t
    write_covers z f y p =
        call_ends c b s o x shown cursor seen r q h.told.stages k (λ calls m. subst (Covers v' (and_one o calls)) (sym (p ∙ ap (after_write own_copy) i.is))
        (write_ends v' calls own_copy o i.number m service_ok ended_now service_now at_own own.none (come_where_held z f y)))

    -- a read leaves what it read as a dependency, or a majority holds it
    pub read_covers : (cell : RegReply) (dep : Option Dep) → told_stamp (session.Register g) ≡ cell.stamp → ReadHeld s key.service key cell dep → seen ≡ after_read own_copy key.service dep → Covering c v' (ended_table b (owner_at s o).stage o) t
    read_covers cell dep f y p =
        call_ends c b s o x shown cursor seen r q h.told.stages k (λ calls m. subst (Covers v' (and_one o calls)) (sym (p ∙ ap (λ (z : ServiceId). after_read own_copy z dep) i.is))
        (read_ends v' calls own_copy o i.number dep m service_ok ended_now service_now at_own own.none (valid dep y) (kept dep y) (covered dep y)))
      where
        valid : (dep : Option Dep) → ReadHeld s key.service key cell dep → All (IsValid v') (given_dep dep)
        valid None y = All-nil (IsValid v')
        valid (Some d) y = All-cons (IsValid v') d [] (refl, ap (λ (m : Dep). m.key.service) y ∙ (sym i.kept_by ∙ ap (λ (m : Dep). v'.home m.key.index) (sym y))) (All-nil (IsValid v'))

        kept : (dep : Option Dep) → ReadHeld s key.service key cell dep → All (λ (d : Dep). d.key.service ≡ Reg i.number) (given_dep dep)
        kept None y = All-nil (λ (d : Dep). d.key.service ≡ Reg i.number)
        kept (Some d) y = All-cons (λ (d : Dep). d.key.service ≡ Reg i.number) d [] (ap (λ (m : Dep). m.key.service) y ∙ i.is) (All-nil (λ (d : Dep). d.key.service ≡ Reg i.number))

        stamp_is : (v'.call o).stamp ≡ cell.stamp
        stamp_is = ap (λ (m : EndedCall). m.stamp) call_is ∙ (ap (λ (m : Session). told_stamp m) e ∙ f)

        register_is : (v'.call o).register ≡ key.index
        register_is = ap (λ (m : EndedCall). m.register) call_is ∙ (ap (λ (m : Session). (told_key m).index) e ∙ ap (λ (m : Key). m.index) wk)

        holds_it : (d : Dep) (call : EndedCall) → d ≡ record { key = key; value = cell.value; stamp = cell.stamp; writer = cell.writer } → call.stamp ≡ cell.stamp → call.register ≡ key.index → holds (d ∷ []) call ≡ true
        holds_it d call a f g =
            let l : stamp_le call.stamp d.stamp ≡ true = subst (λ (m : Carstamp). stamp_le call.stamp m ≡ true) (f ∙ ap (λ (m : Dep). m.stamp) (sym a)) (le_same call.stamp) in
            let m : d.key.index ≡ call.register = ap (λ (m : Dep). m.key.index) a ∙ sym g in
            let u : (d.key.index == call.register) ≡ true = grind (arith, nat_tests, m) in
            ap (λ (z : Bool). (z && stamp_le call.stamp d.stamp) || false) u ∙ ap (λ (z : Bool). z || false) l

        covered : (dep : Option Dep) → ReadHeld s key.service key cell dep → (v'.come o ≡ true) ⊎ (holds (given_dep dep) (v'.call o) ≡ true)
        covered None y = inl (come_where_held cell.stamp f y)
        covered (Some d) y = inr (holds_it d (v'.call o) y stamp_is register_is)

-- the rounds of a register call are done
module _ (c : Config) (n : IsInOrder c) (at : Reading) (b : CallsBehind) (s : State) (h : Facts c n at s) (k : Covering c (view_of c s) b s) (o : ℕ) (g : RegSession) (r : is_running (owner_at s o).fate ≡ true) (e : session_at s o ≡ session.Register g) (shown : List Shown) (cursor : Cursor) where
  agrees : CallAgrees (owner_at s o) g
  agrees = subst (Agrees (owner_at s o)) e (h.agree.each o)

  stamp_of : (p : RegPhase) (z : Carstamp) → g.phase ≡ p → phase_stamp p ≡ Some z → told_stamp (session.Register g) ≡ z
  stamp_of p z a f = some_or (phase_stamp g.phase) (ap phase_stamp a ∙ f)
    where
      some_or : (m : Option Carstamp) → m ≡ Some z → unwrap_or m opening_stamp ≡ z
      some_or m e = ap (λ (y : Option Carstamp). unwrap_or y opening_stamp) e

  held : (p : RegPhase) → g.phase ≡ p → PhaseHeld s g.service g.work p
  held p a = subst (PhaseHeld s g.service g.work) a (round_held s o g (inr e) h.settled.1).ended

  pub read_done : (key : Key) (cell : RegReply) (dep : Option Dep) → g.work ≡ work.Read key → g.phase ≡ phase.Done (ends.Read cell dep) → Covering c (view_of c (ends_call s o shown cursor (after_read (owner_at s o).works.copy key.service dep))) (ended_table b (owner_at s o).stage o) (ends_call s o shown cursor (after_read (owner_at s o).works.copy key.service dep))
  read_done key cell dep a f =
      let q = subst (λ (m : RegWork). WorkAgrees m (owner_at s o).kind) a agrees.of_kind in
      let i = h.served.each o (op.Read key) q in
      let w = ap work_registers a in
      let p = proper_service c s o g key (fine_of c s h.settled.0.0.0.0) e w in
      read_covers c n at b s h k o g key (op.Read key) r e q w (ap work_key a) i refl shown cursor _ cell dep (stamp_of (phase.Done (ends.Read cell dep)) cell.stamp f refl) (subst (λ (m : ServiceId). ReadHeld s m key cell dep) p (held _ f key a)) refl

  pub write_done : (key : Key) (value : ℕ) (stamp : Carstamp) → g.work ≡ work.Write key value → g.phase ≡ phase.Done (ends.Written stamp) → Covering c (view_of c (ends_call s o shown cursor (after_write (owner_at s o).works.copy key.service))) (ended_table b (owner_at s o).stage o) (ends_call s o shown cursor (after_write (owner_at s o).works.copy key.service))
  write_done key value stamp a f =
      let q = subst (λ (m : RegWork). WorkAgrees m (owner_at s o).kind) a agrees.of_kind in
      let i = h.served.each o (op.Write key value) q in
      let w = ap work_registers a in
      let p = proper_service c s o g key (fine_of c s h.settled.0.0.0.0) e w in
      write_covers c n at b s h k o g key (op.Write key value) r e q w (ap work_key a) i refl shown cursor _ stamp (stamp_of (phase.Done (ends.Written stamp)) stamp f refl) (subst (λ (m : ServiceId). is_held (replicas_at s m) key stamp ≡ true) p (held _ f key value a)) refl
