-- What placed calls are, where all calls are of register services: writes that some replica was sent, and reads
-- that have ended.
use Rattle.std.proofs.Common.{◌≡◌, ℕ, ◌⊎◌, inl, inr, Bool, true, false, List, Option, Some, None, refl, sym, ap, ◌∙◌, subst, arith}
use Rattle.std.specs.Prelude.{⊤}
use Rattle.rss_names.specs.declared.service.Key.{Key}
use Rattle.rss_names.specs.declared.service.ServiceId.{ServiceId}
use Rattle.carstamps.specs.declared.carstamp.Carstamp.{Carstamp}
use Rattle.causal_context.specs.declared.dep.Dep.{Dep}
use Rattle.pipeline_lang.specs.declared.config.Config.{Config}
use Rattle.pipeline_lang.specs.declared.script.Statement.{Statement}
use Rattle.pipeline_lang.specs.declared.script.Statement.TheVariants as statement
use Rattle.rss_model.specs.CallStatement.{op_of_statement}
use Rattle.rss_model.specs.declared.op.Op.{Op}
use Rattle.rss_model.specs.declared.op.Op.TheVariants as op
use Rattle.rss_wire.specs.declared.messages.RegReply.{RegReply}
use Rattle.rss_tables.specs.RegisterSession.{RegSession}
use Rattle.rss_tables.specs.declared.register_session.RegEnd.TheVariants as ends
use Rattle.rss_tables.specs.declared.register_session.RegPhase.{RegPhase}
use Rattle.rss_tables.specs.declared.register_session.RegPhase.TheVariants as phase
use Rattle.rss_tables.specs.declared.register_session.RegWork.{RegWork}
use Rattle.rss_tables.specs.declared.register_session.RegWork.TheVariants as work
use Rattle.rss_machine.specs.Places.{phase_stamp, work_stamp, keyed_stamp, session_stamp, is_read_work, register_key_of, session_key}
use Rattle.rss_machine.specs.Session.{Session}
use Rattle.rss_machine.specs.State.{State, owner_at}
use Rattle.rss_machine.specs.declared.place.PlaceKey.{PlaceKey}
use Rattle.rss_machine.specs.declared.session.OwnerKind.TheVariants as kind
use Rattle.rss_machine.specs.declared.session.Session.TheVariants as session
use Rattle.world_laws.proofs.Looks.{some_is, none_is_not}
use Rattle.reg_laws.specs.Agree.{WorkAgrees, CallAgrees, Agrees, AllAgree}
use Rattle.reg_laws.specs.Line.{PlacedWrite, write_key, read_key}
use Rattle.reg_laws.specs.Rounds.{Reads}
use Rattle.reg_laws.proofs.OwnStamps.{PhaseFits, StampOwn, OwnStamps}
use Rattle.place_laws.specs.Alone.{KeepsTo, KeepsToServices}
use Rattle.world_laws.specs.Scripted.{hands_over, AreScripted}

-- an operation on a register of a service
pub data IsRegisterOp (id : ServiceId) : Op → Type 0 where
  reads_one : (key : Key) → key.service ≡ id → IsRegisterOp id (op.Read key)
  writes_one : (key : Key) (value : ℕ) → key.service ≡ id → IsRegisterOp id (op.Write key value)

-- an operation at shards
abbrev pub ToShards : Op → Type 0
ToShards (op.Read key) = ⊥
ToShards (op.Write key value) = ⊥
ToShards (op.Snap keys) = ⊤
ToShards (op.Txn reads guard writes) = ⊤

pub not_to_shards : (id : ServiceId) (x : Op) → IsRegisterOp id x → ToShards x → ⊥
not_to_shards id _ (reads_one key e) m = m
not_to_shards id _ (writes_one key value e) m = m

-- each operation of a stage that keeps to a service is one on its registers
pub kept_op : (id : ServiceId) (x : Statement ℕ Key ℕ ℕ) (variables : List ℕ) (y : Op) → KeepsTo id x → op_of_statement x variables ≡ Some y → IsRegisterOp id y
kept_op id (statement.Read variable key) variables y k e = subst (IsRegisterOp id) (some_is _ y e) (reads_one key k)
kept_op id (statement.Write key value) variables y k e = subst (IsRegisterOp id) (some_is _ y e) (writes_one key _ k)
kept_op id (statement.Let variable value) variables y k e = absurd (none_is_not y e)
kept_op id (statement.Repeat times) variables y k e = absurd (none_is_not y e)
kept_op id (statement.When test) variables y k e = absurd (none_is_not y e)
kept_op id statement.End variables y k e = absurd (none_is_not y e)
kept_op id statement.Exit variables y k e = absurd (none_is_not y e)
kept_op id (statement.Snap pairs) variables y k e = absurd k
kept_op id (statement.Txn reads guard writes) variables y k e = absurd k
kept_op id (statement.Spawn child) variables y k e = absurd k
kept_op id (statement.Wait child) variables y k e = absurd k
kept_op id (statement.Put p value) variables y k e = absurd k
kept_op id (statement.Take variable p) variables y k e = absurd k
kept_op id (statement.Close p) variables y k e = absurd k
kept_op id statement.Fence variables y k e = absurd k

-- and none of them hands a message over
pub hands_nothing : (id : ServiceId) (x : Statement ℕ Key ℕ ℕ) → KeepsTo id x → hands_over x ≡ true → ⊥
hands_nothing id (statement.Read variable key) k e = grind (arith, e)
hands_nothing id (statement.Write key value) k e = grind (arith, e)
hands_nothing id (statement.Let variable value) k e = grind (arith, e)
hands_nothing id (statement.Repeat times) k e = grind (arith, e)
hands_nothing id (statement.When test) k e = grind (arith, e)
hands_nothing id statement.End k e = grind (arith, e)
hands_nothing id statement.Exit k e = grind (arith, e)
hands_nothing id (statement.Snap pairs) k e = absurd k
hands_nothing id (statement.Txn reads guard writes) k e = absurd k
hands_nothing id (statement.Spawn child) k e = absurd k
hands_nothing id (statement.Wait child) k e = absurd k
hands_nothing id (statement.Put p value) k e = absurd k
hands_nothing id (statement.Take variable p) k e = absurd k
hands_nothing id (statement.Close p) k e = absurd k
hands_nothing id statement.Fence k e = absurd k

pub register_op : (c : Config) (q : KeepsToServices c) (s : State) → AreScripted c s → (o : ℕ) (x : Op) → (owner_at s o).kind ≡ kind.Calling x → IsRegisterOp (q.service (owner_at s o).stage) x
register_op c q s f o x e = let m = f.calls o x e in kept_op _ _ m.variables x (q.statements (owner_at s o).stage m.place) m.makes

-- a placed write
pub record IsWriter (s : State) (o : ℕ) (k : PlaceKey) : Type 0 where
  pub key : Key
  pub value : ℕ
  pub stamp : Carstamp
  pub placed : PlacedWrite s o key value stamp
  pub of_kind : (owner_at s o).kind ≡ kind.Calling (op.Write key value)
  pub is_key : k ≡ write_key s o key stamp

-- a placed read
pub record IsReader (s : State) (o : ℕ) (k : PlaceKey) : Type 0 where
  pub key : Key
  pub cell : RegReply
  pub dep : Option Dep
  pub read : Reads s o key (phase.Done (ends.Read cell dep))
  pub of_kind : (owner_at s o).kind ≡ kind.Calling (op.Read key)
  pub is_key : k ≡ read_key s o key cell.stamp

abbrev pub IsPlaced : State → ℕ → PlaceKey → Type 0
IsPlaced s o k = IsWriter s o k ⊎ IsReader s o k

-- what a call of a register service has under way
pub record HasRounds (s : State) (o : ℕ) : Type 0 where
  pub round : RegSession
  pub under_way : (owner_at s o).session ≡ session.Register round
  pub agrees : CallAgrees (owner_at s o) round
  pub fits : PhaseFits round.work round.phase

module _ (s : State) (agree : AllAgree s) (stamps : OwnStamps s) where
  abbrev pub rounds_of : (o : ℕ) (r : RegSession) → (owner_at s o).session ≡ session.Register r → HasRounds s o
  rounds_of o r x = record { round = r; under_way = x; agrees = subst (Agrees (owner_at s o)) x (agree.each o); fits = (subst (StampOwn o) x (stamps.each o)).fits }

  module _ (o : ℕ) (k : PlaceKey) (h : HasRounds s o) where
    stamp_is : session_stamp (owner_at s o).session (owner_at s o).stored ≡ work_stamp h.round.work h.round.phase (owner_at s o).stored
    stamp_is = ap (λ (x : Session). session_stamp x (owner_at s o).stored) h.under_way

    write_is : (key : Key) (value : ℕ) → h.round.work ≡ work.Write key value → (stored : Bool) → (owner_at s o).stored ≡ stored → (z : Option Carstamp) → phase_stamp h.round.phase ≡ z → register_key_of s o false (work_stamp (work.Write key value) h.round.phase stored) ≡ Some k → IsWriter s o k
    write_is key value w false d z p e = absurd (none_is_not k e)
    write_is key value w true d None p e = absurd (none_is_not k (sym (ap (λ (x : Option Carstamp). register_key_of s o false (keyed_stamp key x)) p) ∙ e))
    write_is key value w true d (Some stamp) p e = record {
      key = key;
      value = value;
      stamp = stamp;
      placed = record { round = h.round; under_way = h.under_way; of_work = w; with_stamp = p; handled = d };
      of_kind = subst (λ (x : RegWork). WorkAgrees x (owner_at s o).kind) w h.agrees.of_kind;
      is_key = sym (some_is _ k (sym (ap (λ (x : Option Carstamp). register_key_of s o false (keyed_stamp key x)) p) ∙ e));
    }

    read_is : (key : Key) → h.round.work ≡ work.Read key → (p : RegPhase) → h.round.phase ≡ p → PhaseFits (work.Read key) p → register_key_of s o true (keyed_stamp key (phase_stamp p)) ≡ Some k → IsReader s o k
    read_is key w (phase.Done (ends.Read cell dep)) p f e = record {
      key = key;
      cell = cell;
      dep = dep;
      read = record { round = h.round; under_way = h.under_way; of_work = w; in_phase = p };
      of_kind = subst (λ (x : RegWork). WorkAgrees x (owner_at s o).kind) w h.agrees.of_kind;
      is_key = sym (some_is _ k e);
    }
    read_is key w phase.Asking p f e = absurd (none_is_not k e)
    read_is key w phase.Fixing p f e = absurd f
    read_is key w phase.Stamping p f e = absurd f
    read_is key w (phase.Storing stamp) p f e = absurd f
    read_is key w (phase.Done (ends.Written stamp)) p f e = absurd f
    read_is key w (phase.Done ends.Fixed) p f e = absurd f

    by_work : (w : RegWork) → h.round.work ≡ w → register_key_of s o (is_read_work w) (work_stamp w h.round.phase (owner_at s o).stored) ≡ Some k → IsPlaced s o k
    by_work (work.Write key value) w e = inl (write_is key value w (owner_at s o).stored refl (phase_stamp h.round.phase) refl e)
    by_work (work.Read key) w e = inr (read_is key w h.round.phase refl (subst (λ (x : RegWork). PhaseFits x h.round.phase) w h.fits) e)
    by_work (work.Fix deps) w e = absurd (none_is_not k e)

    pub placed_with : register_key_of s o (is_read_work h.round.work) (session_stamp (owner_at s o).session (owner_at s o).stored) ≡ Some k → IsPlaced s o k
    placed_with e = by_work h.round.work refl (sym (ap (register_key_of s o (is_read_work h.round.work)) stamp_is) ∙ e)

  -- a placed call is a write or a read, where its operation is on a register
  module _ (id : ℕ → ServiceId) (ops : (o : ℕ) (x : Op) → (owner_at s o).kind ≡ kind.Calling x → IsRegisterOp (id o) x) where
    pub placed_is : (o : ℕ) (k : PlaceKey) (x : Session) → (owner_at s o).session ≡ x → session_key s o x ≡ Some k → IsPlaced s o k
    placed_is o k (session.Register r) x e = placed_with o k (rounds_of o r x) e
    placed_is o k session.Idle x e = absurd (none_is_not k e)
    placed_is o k (session.Fixing r) x e = absurd (none_is_not k e)
    placed_is o k (session.Settling attempt shards) x e = absurd (none_is_not k e)
    placed_is o k (session.Transaction t) x e = let a = subst (Agrees (owner_at s o)) x (agree.each o) in absurd (not_to_shards (id o) _ (ops o _ a.of_kind) tt)
    placed_is o k (session.Snapshot t) x e = let a = subst (Agrees (owner_at s o)) x (agree.each o) in absurd (not_to_shards (id o) _ (ops o _ a.of_kind) tt)
