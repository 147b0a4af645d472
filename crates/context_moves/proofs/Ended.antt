-- What a call that has ended was, and when it takes effect: at the step of its time, or at that of its stamp. So the view
-- of a state is one.
use Rattle.std.proofs.Common.{◌≡◌, ℕ, ◌≤◌, true, refl, sym, ap, ◌∙◌, subst, arith}
use Rattle.std.specs.Prelude.{◌&&◌, nat_le}
use Rattle.std.proofs.lemmas.Bool.{false≢true}
use Rattle.std.proofs.lemmas.Bool.Decides.{nat_tests}
use Rattle.rss_names.specs.declared.service.Key.{Key}
use Rattle.rss_names.specs.declared.service.ServiceId.TheVariants.{Txn, Reg}
use Rattle.pipeline_lang.specs.declared.config.Config.{Config}
use Rattle.rss_model.specs.declared.op.Op.{Op}
use Rattle.rss_model.specs.declared.op.Op.TheVariants as op
use Rattle.rss_tables.specs.RegisterSession.{RegSession}
use Rattle.rss_tables.specs.declared.register_session.RegWork.{RegWork}
use Rattle.rss_tables.specs.declared.register_session.RegWork.TheVariants as work
use Rattle.rss_machine.specs.Places.{has_ended}
use Rattle.rss_machine.specs.Session.{Session, service_of}
use Rattle.rss_machine.specs.declared.session.Session.TheVariants as session
use Rattle.rss_machine.specs.declared.session.OwnerKind.{OwnerKind}
use Rattle.rss_machine.specs.declared.session.OwnerKind.TheVariants as kind
use Rattle.rss_machine.specs.State.{State, owner_at}
use Rattle.rss_machine.specs.Times.{step_of_time}
use Rattle.rss_machine.specs.declared.state.OwnerFate.{OwnerFate}
use Rattle.rss_machine.specs.declared.state.OwnerFate.TheVariants.{Running, Ended, Dropped, CutOff}
use Rattle.shard_event_laws.specs.Known.{moment_at}
use Rattle.world_laws.specs.Calls.{is_call, Gave}
use Rattle.world_laws.specs.Registers.{IsRegister}
use Rattle.world_laws.proofs.Histories.{end_in}
use Rattle.world_laws.proofs.Told.{Told}
use Rattle.reg_laws.specs.Agree.{AllAgree, Agrees, WorkAgrees}
use Rattle.coupling_laws.specs.Calls.{IsView}
use Rattle.context_moves.specs.Views.{view_of, told_time, told_key, told_step, work_key, step_of, kind_service}
use Rattle.world_laws.specs.Served.{IsTxn, CallsServed}
use Rattle.context_moves.proofs.Later.{is_ended}
use Rattle.context_moves.proofs.Tables.{both_of}

-- what a call that has ended was
pub data Was (c : Config) (s : State) (a : ℕ) : Type 0 where
  timed : (m : ℕ) → kind_service (owner_at s a).kind ≡ Txn m → step_of s a ≡ step_of_time s (told_time (owner_at s a).session) → Was c s a
  stamped : (r : RegSession) (key : Key) → (owner_at s a).session ≡ session.Register r → work_key r.work ≡ key → kind_service (owner_at s a).kind ≡ key.service → IsRegister c key → Was c s a

is_calling : (k : OwnerKind) → is_call k ≡ true → (x : Op) × (k ≡ kind.Calling x)
is_calling (kind.Calling x) e = (x, refl)
is_calling kind.Fencing e = absurd (false≢true e)
is_calling (kind.Stubbing u) e = absurd (false≢true e)

ended_is : (f : OwnerFate) → has_ended f ≡ true → f ≡ Ended
ended_is Running e = absurd (false≢true e)
ended_is Ended e = refl
ended_is Dropped e = absurd (false≢true e)
ended_is (CutOff target) e = absurd (false≢true e)

pub was_ended : (c : Config) (s : State) (a : ℕ) → Told s → AllAgree s → CallsServed c s → is_ended (owner_at s a) ≡ true → Was c s a
was_ended c s a h g q e = by_session (owner_at s a).session refl gave
  where
    both : (is_call (owner_at s a).kind ≡ true) × (has_ended (owner_at s a).fate ≡ true)
    both = both_of (is_call (owner_at s a).kind) _ e

    calls : (x : Op) × ((owner_at s a).kind ≡ kind.Calling x)
    calls = is_calling (owner_at s a).kind both.0

    told : (reply : _) × Gave (owner_at s a).session reply
    told = let i = end_in s.history a (h.ended a calls.0 calls.1 (ended_is (owner_at s a).fate both.1)) in (_, (h.entries.ends i.at a _ i.says).gave)

    gave : Gave (owner_at s a).session told.0
    gave = told.1

    agrees : Agrees (owner_at s a) (owner_at s a).session
    agrees = g.each a

    txn_kind : (x : Op) → (owner_at s a).kind ≡ kind.Calling x → IsTxn (service_of x) → (y : Session) → (owner_at s a).session ≡ y → step_of s a ≡ step_of_time s (told_time y) → Was c s a
    txn_kind x k t y i j = timed t.number (ap kind_service k ∙ t.is) (j ∙ ap (λ (z : Session). step_of_time s (told_time z)) (sym i))

    reg_kind : (r : RegSession) → (owner_at s a).session ≡ session.Register r → (w : RegWork) → r.work ≡ w → WorkAgrees w (owner_at s a).kind → Was c s a
    reg_kind r i (work.Read key) j k = stamped r key i (ap work_key j) (ap kind_service k) (q.each a (op.Read key) k)
    reg_kind r i (work.Write key value) j k = stamped r key i (ap work_key j) (ap kind_service k) (q.each a (op.Write key value) k)
    reg_kind r i (work.Fix deps) j k = absurd k

    by_session : (y : Session) → (owner_at s a).session ≡ y → Gave (owner_at s a).session told.0 → Was c s a
    by_session session.Idle i j = absurd (subst (λ (z : Session). Gave z told.0) i j)
    by_session (session.Fixing r) i j = absurd (subst (λ (z : Session). Gave z told.0) i j)
    by_session (session.Settling attempt shards) i j = absurd (subst (λ (z : Session). Gave z told.0) i j)
    by_session (session.Register r) i j = let k = subst (Agrees (owner_at s a)) i agrees in reg_kind r i r.work refl k.of_kind
    by_session (session.Transaction t) i j =
        let k = subst (Agrees (owner_at s a)) i agrees in
        txn_kind (op.Txn k.reads k.guard k.writes) k.of_kind (q.each a (op.Txn k.reads k.guard k.writes) k.of_kind) (session.Transaction t) i (ap (λ (z : Session). told_step s (owner_at s a) z) i)
    by_session (session.Snapshot t) i j =
        let k = subst (Agrees (owner_at s a)) i agrees in
        txn_kind (op.Snap k.keys) k.of_kind (q.each a (op.Snap k.keys) k.of_kind) (session.Snapshot t) i (ap (λ (z : Session). told_step s (owner_at s a) z) i)

-- the view of a state is one
txn_reg : (m n : ℕ) → Txn m ≡ Reg n → ⊥
txn_reg m n e = cc

pub is_view : (c : Config) (s : State) → ((i j : ℕ) → i ≤ j → j ≤ s.steps → moment_at s i ≤ moment_at s j) → Told s → AllAgree s → CallsServed c s → IsView (view_of c s)
is_view c s rise h g q = record {
  rises = λ a y u l e. rises_in (step_of s a) y u l e;
  at_home = λ a n e i. by_was a n i (was_ended c s a h g q e);
}
  where
    rises_in : (i y u : ℕ) → y ≤ u → (nat_le i s.steps && nat_le (moment_at s i) y) ≡ true → (nat_le i s.steps && nat_le (moment_at s i) u) ≡ true
    rises_in i y u g h = grind (arith, nat_tests, g, h)

    by_was : (a n : ℕ) → kind_service (owner_at s a).kind ≡ Reg n → Was c s a → (view_of c s).home (told_key (owner_at s a).session).index ≡ Reg n
    by_was a n i (timed m k j) = absurd (txn_reg m n (sym k ∙ i))
    by_was a n i (stamped r key x y k j) = ap (λ (z : Session). (view_of c s).home (told_key z).index) x ∙ (ap (λ (z : Key). (view_of c s).home z.index) y ∙ (j.kept_by ∙ (sym k ∙ i)))
