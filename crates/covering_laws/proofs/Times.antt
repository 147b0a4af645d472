-- The time of a call of a transaction service that has ended is not below its copy's least time: it is placed by that time,
-- and by the line of its service each placed call is not below its least time.
use Rattle.std.proofs.Common.{◌≡◌, ℕ, ◌≤◌, ◌⊎◌, inl, inr, List, Option, Some, All, refl, sym, ap, ◌∙◌, subst}
use Rattle.std.specs.Option.{unwrap_or}
use Rattle.rss_names.specs.declared.service.Key.{Key}
use Rattle.rss_names.specs.declared.service.ServiceId.{ServiceId}
use Rattle.rss_names.specs.declared.service.ServiceId.TheVariants.{Txn, Reg}
use Rattle.causal_context.specs.LeastTimes.{least_of}
use Rattle.pipeline_lang.specs.declared.config.Config.{Config}
use Rattle.rss_model.specs.declared.op.Op.{Op}
use Rattle.rss_model.specs.declared.op.Shown.{Shown}
use Rattle.rss_model.specs.declared.op.Op.TheVariants as op
use Rattle.rss_tables.specs.Lines.{Line}
use Rattle.rss_tables.specs.RegisterSession.{RegSession}
use Rattle.rss_tables.specs.SnapshotSession.{SnapSession, snap_end}
use Rattle.rss_tables.specs.TransactionSession.{TxnSession, txn_end}
use Rattle.rss_tables.specs.declared.phases.TxnPhase.TheVariants as phase
use Rattle.rss_tables.specs.declared.register_session.RegWork.{RegWork}
use Rattle.rss_tables.specs.declared.register_session.RegWork.TheVariants as work
use Rattle.rss_machine.specs.Run.{run, readings_of}
use Rattle.rss_machine.specs.Session.{Session, service_of}
use Rattle.rss_machine.specs.State.{State, owner_at}
use Rattle.rss_machine.specs.declared.session.OwnerKind.TheVariants as kind
use Rattle.rss_machine.specs.declared.session.Session.TheVariants as session
use Rattle.rss_machine.specs.declared.state.OwnerFate.TheVariants.{Ended}
use Rattle.rss_machine.specs.declared.step.Step.{Step}
use Rattle.world_laws.specs.Calls.{Gave}
use Rattle.world_laws.specs.Laws.{IsOrdered}
use Rattle.world_laws.specs.Registers.{IsRegister}
use Rattle.world_laws.specs.Served.{IsServed, CallsServed}
use Rattle.world_laws.proofs.Histories.{end_in}
use Rattle.world_laws.proofs.Told.{Told}
use Rattle.world_laws.proofs.ToldLaws.{told_run}
use Rattle.world_laws.specs.NamedKeys.{NamesKeys}
use Rattle.reg_laws.specs.Agree.{AllAgree, Agrees, WorkAgrees}
use Rattle.reg_laws.proofs.Agree.{agree_run}
use Rattle.txn_state_laws.specs.Decided.{known_commit}
use Rattle.txn_line_laws.specs.Line.{PlacedTxn, commits, fails, reads, TxnsCovered}
use Rattle.txn_line_laws.proofs.Dates.{txns_covered}
use Rattle.txn_line_laws.proofs.Facts.{Facts, commit_is}
use Rattle.txn_line_laws.proofs.Placed.{txn_done, snap_done}
use Rattle.txn_line_laws.proofs.True.{facts_run}
use Rattle.context_moves.specs.Timed.{TimesCover}
use Rattle.context_moves.specs.Views.{told_time}

txn_not_reg : (m n : ℕ) (id : ServiceId) → id ≡ Txn m → id ≡ Reg n → ⊥
txn_not_reg m n id e f = cc

same_op : (x y : Op) → kind.Calling x ≡ kind.Calling y → y ≡ x
same_op x y e = cc

module _ (c : Config) (s : State) (h : Facts c s) (told : Told s) (agree : AllAgree s) (served : CallsServed c s) where
  covered : TxnsCovered s
  covered = txns_covered c s h

  -- a transaction that has ended is placed by the time of its phase
  txn_placed : (o time : ℕ) (x : Op) (t : TxnSession) → (owner_at s o).kind ≡ kind.Calling x → (owner_at s o).session ≡ session.Transaction t → txn_end t.phase ≡ Some time → least_of (owner_at s o).works.copy.least (service_of x) ≤ time
  txn_placed o time x t k e f = by_phase (txn_done t.phase time f)
    where
      by_phase : (t.phase ≡ phase.Committed time) ⊎ (t.phase ≡ phase.Failed time) → least_of (owner_at s o).works.copy.least (service_of x) ≤ time
      by_phase (inl p) = covered.least o time _ t.reads t.lines x (commits t time e (commit_is c s h o time t e (h.decided.known o time t e (ap known_commit p)))) k
      by_phase (inr p) = covered.least o time _ t.reads t.lines x (fails t time e p) k

  -- a register call is of no transaction service
  not_register : (x : Op) (m : ℕ) (w : RegWork) (o : ℕ) → (owner_at s o).kind ≡ kind.Calling x → service_of x ≡ Txn m → WorkAgrees w (owner_at s o).kind → ⊥
  not_register x m (work.Read key) o k e g = let i = served.each o (op.Read key) g in txn_not_reg m i.number key.service (ap service_of (same_op x (op.Read key) (sym k ∙ g)) ∙ e) i.is
  not_register x m (work.Write key value) o k e g = let i = served.each o (op.Write key value) g in txn_not_reg m i.number key.service (ap service_of (same_op x (op.Write key value) (sym k ∙ g)) ∙ e) i.is
  not_register x m (work.Fix deps) o k e g = g

  pub times_cover : TimesCover s
  times_cover = record { least = λ o m x k d e. by_session o m x k d e (owner_at s o).session refl (gave o x k d) }
    where
      gave : (o : ℕ) (x : Op) → (owner_at s o).kind ≡ kind.Calling x → (owner_at s o).fate ≡ Ended → (reply : List Shown) × Gave (owner_at s o).session reply
      gave o x k d = let i = end_in s.history o (told.ended o x k d) in (_, (told.entries.ends i.at o _ i.says).gave)

      under : (o : ℕ) (y : Session) → (owner_at s o).session ≡ y → Agrees (owner_at s o) y
      under o y e = subst (Agrees (owner_at s o)) e (agree.each o)

      covers : (o m time : ℕ) (x : Op) (y : Session) → (owner_at s o).session ≡ y → service_of x ≡ Txn m → least_of (owner_at s o).works.copy.least (service_of x) ≤ time → told_time y ≡ time → least_of (owner_at s o).works.copy.least (Txn m) ≤ told_time (owner_at s o).session
      covers o m time x y e f l t = subst (λ (n : ℕ). least_of (owner_at s o).works.copy.least (Txn m) ≤ n) (sym (ap told_time e ∙ t)) (subst (λ (id : ServiceId). least_of (owner_at s o).works.copy.least id ≤ time) f l)

      by_session : (o m : ℕ) (x : Op) → (owner_at s o).kind ≡ kind.Calling x → (owner_at s o).fate ≡ Ended → service_of x ≡ Txn m → (y : Session) → (owner_at s o).session ≡ y → (reply : List Shown) × Gave (owner_at s o).session reply → least_of (owner_at s o).works.copy.least (Txn m) ≤ told_time (owner_at s o).session
      by_session o m x k d e session.Idle i g = absurd (subst (λ (z : Session). Gave z g.0) i g.1)
      by_session o m x k d e (session.Fixing r) i g = absurd (subst (λ (z : Session). Gave z g.0) i g.1)
      by_session o m x k d e (session.Settling attempt shards) i g = absurd (subst (λ (z : Session). Gave z g.0) i g.1)
      by_session o m x k d e (session.Register r) i g = absurd (not_register x m r.work o k e (under o (session.Register r) i).of_kind)
      by_session o m x k d e (session.Transaction t) i g =
          let z = h.dated.ended o t i d in
          covers o m z.0 x (session.Transaction t) i e (txn_placed o z.0 x t k i z.1) (ap (λ (n : Option ℕ). unwrap_or n 0) z.1)
      by_session o m x k d e (session.Snapshot t) i g =
          let z = h.dated.snap_ended o t i d in
          covers o m z.0 x (session.Snapshot t) i e (covered.least o z.0 _ t.keys t.lines x (reads t z.0 i (snap_done t.phase z.0 z.1)) k) (ap (λ (n : Option ℕ). unwrap_or n 0) z.1)

pub times_run : (c : Config) (steps : List Step) (s : State) → NamesKeys c → CallsServed c s → All IsOrdered (readings_of steps) → run c steps ≡ Some s → TimesCover s
times_run c steps s n served a e = times_cover c s (facts_run c steps s n a e) (told_run c steps s e).told (record { each = (agree_run c steps s e).each }) served
