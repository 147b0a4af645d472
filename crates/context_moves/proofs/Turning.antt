-- A transaction or a snapshot takes a turn, and ends if it can: then its time is not below its copy's least.
use Rattle.std.proofs.Common.{◌≡◌, ℕ, ◌<◌, ◌≤◌, ◌⊎◌, inl, inr, Bool, true, false, List, [], ◌∷◌, ◌++◌, length, get_or, Option, Some, None, refl, sym, ap, ◌∙◌, subst, arith}
use Rattle.std.specs.Prelude.{◌&&◌, nat_le}
use Rattle.std.proofs.Math.ListN.{set}
use Rattle.std.proofs.lemmas.Bool.{false≢true}
use Rattle.std.proofs.lemmas.Bool.Decides.{nat_tests}
use Rattle.truetime.specs.Reading.{Reading}
use Rattle.rss_names.specs.declared.service.ServiceId.{ServiceId}
use Rattle.rss_names.specs.declared.service.ServiceId.TheVariants.{Txn, Reg}
use Rattle.causal_context.specs.Services.{IsService}
use Rattle.pipeline_lang.specs.Config.{service_of_register}
use Rattle.rss_tables.specs.Works.{Works}
use Rattle.rss_machine.specs.Places.{has_ended}
use Rattle.rss_machine.specs.declared.state.Dates.{Dates}
use Rattle.causal_context.specs.LeastTimes.{least_of}
use Rattle.causal_context.specs.Seen.{Seen, after_txn}
use Rattle.pipeline_lang.specs.declared.config.Config.{Config}
use Rattle.rss_model.specs.declared.history.Entry.{Entry}
use Rattle.rss_model.specs.declared.history.Entry.TheVariants.{End}
use Rattle.std.specs.Option.{unwrap_or}
use Rattle.rss_model.specs.declared.op.Op.{Op}
use Rattle.rss_model.specs.declared.op.Op.TheVariants as op
use Rattle.rss_model.specs.declared.op.Shown.{Shown}
use Rattle.rss_model.specs.Cursor.{Cursor}
use Rattle.rss_tables.specs.Outs.{Out, slot_shard}
use Rattle.rss_tables.specs.Lines.{line_at}
use Rattle.rss_tables.specs.TransactionSession.{TxnSession, txn_hears, txn_wakes, txn_passes, txn_end, shown_reply}
use Rattle.rss_tables.specs.SnapshotSession.{SnapSession, snap_hears, snap_wakes, snap_end}
use Rattle.rss_tables.specs.Turns.{Turn}
use Rattle.rss_machine.specs.Calls.{replies, ends_at, forgets_if, txn_turns, snap_turns}
use Rattle.rss_machine.specs.Moves.{sends, sends_one, listens, turns_session, goes_on, closed}
use Rattle.rss_machine.specs.Session.{Session, service_of}
use Rattle.rss_machine.specs.Standing.{is_running}
use Rattle.rss_machine.specs.State.{State, Owner, no_owner, owner_at, stage_at, no_currents}
use Rattle.rss_machine.specs.Enabling.{next_statement}
use Rattle.rss_model.specs.Operation.{values_of}
use Rattle.rss_model.specs.CallStatement.{after_call}
use Rattle.rss_machine.specs.declared.session.OwnerKind.{OwnerKind}
use Rattle.rss_machine.specs.declared.session.OwnerKind.TheVariants as kind
use Rattle.rss_machine.specs.declared.session.Session.TheVariants as session
use Rattle.rss_machine.specs.declared.state.OwnerFate.{OwnerFate}
use Rattle.rss_machine.specs.declared.state.OwnerFate.TheVariants.{Ended}
use Rattle.world_laws.specs.Calls.{is_call, StagesOwn, Kept}
use Rattle.world_laws.proofs.Doings.{turned, listened}
use Rattle.world_laws.proofs.Looks.{looks}
use Rattle.world_laws.proofs.OwnerFits.{is_own}
use Rattle.world_laws.proofs.OwnerMoves.{at_own as own_after, sends_kept}
use Rattle.world_laws.proofs.PlannedOwners.{is_fixing}
use Rattle.world_laws.proofs.SessionMoves.{session_at}
use Rattle.world_laws.proofs.StageMoves.{Quiet}
use Rattle.world_laws.proofs.StagesOwned.{Same, stages_alike, running_there}
use Rattle.world_laws.proofs.Told.{each_set}
use Rattle.world_laws.proofs.TurnMoves.{ShardTurn, txn_answered, snap_answered, txn_wakes_one, snap_wakes_one, txn_passes_time}
use Rattle.order_laws.specs.CallsBehind.{CallsBehind}
use Rattle.reg_laws.specs.Agree.{Agrees}
use Rattle.world_laws.specs.InOrder.{IsInOrder}
use Rattle.coupling_laws.specs.Calls.{IsView}
use Rattle.coupling_laws.specs.Covers.{IsAt}
use Rattle.context_moves.specs.Views.{view_of, told_time, call_of, kind_service}
use Rattle.context_moves.specs.Covering.{Covering, behind}
use Rattle.world_laws.specs.Served.{IsTxn}
use Rattle.context_moves.specs.Timed.{TimesCover}
use Rattle.context_moves.proofs.CallEnds.{txn_call_ends, owner_ended}
use Rattle.context_moves.proofs.Facts.{Facts, view_is}
use Rattle.context_moves.proofs.Later.{SameClock, is_ended, running_not_ended}
use Rattle.context_moves.proofs.Own.{changed, own_later, same_owner}
use Rattle.context_moves.proofs.Tables.{table, ended_table, end_table, told_begun, told_stage, both_of}
use Rattle.world_laws.proofs.Towards.{Toward}

-- a call that goes through a turn: what is known of it, and of the state
pub record Going (c : Config) (b : CallsBehind) (h : List Entry) (o n : ℕ) (x : Op) (s : State) : Type 0 where
  pub covering : Covering c (view_of c s) b s
  pub owns : StagesOwn s
  pub view : IsView (view_of c s)
  pub runs : is_running (owner_at s o).fate ≡ true
  pub of_kind : (owner_at s o).kind ≡ kind.Calling x
  pub of_stage : (owner_at s o).stage ≡ n
  pub history : s.history ≡ h
  pub launched : 0 < (owner_at s o).dates.launched

calling_one : (x y : Op) → kind.Calling x ≡ kind.Calling y → x ≡ y
calling_one x y e = cc

rises_in : (i m y u : ℕ) (ms : List ℕ) → y ≤ u → (nat_le i m && nat_le (get_or (0 ∷ ms) i 0) y) ≡ true → (nat_le i m && nat_le (get_or (0 ∷ ms) i 0) u) ≡ true
rises_in i m y u ms g h = grind (arith, nat_tests, g, h)

pub record Turned (v w : Owner) : Type 0 where
  pub stage : w.stage ≡ v.stage
  pub kind : w.kind ≡ v.kind
  pub fate : w.fate ≡ v.fate
  pub works : w.works ≡ v.works
  pub dates : w.dates ≡ v.dates
  pub calm : is_fixing w.session ≡ true → is_fixing v.session ≡ true

pub going_on : (c : Config) (b : CallsBehind) (h : List Entry) (o n : ℕ) (x : Op) (s t : State) (w : Owner) → o < length s.owners → SameClock s t → Quiet s t → t.owners ≡ set s.owners o w → Turned (owner_at s o) w → Going c b h o n x s → Going c b h o n x t
going_on c b h o n x s t w i e q d y g = record {
  covering = changed c b s t o w e d g.runs q y.stage y.kind (same_owner (view_of c s) (view_of c t) b s.stages (owner_at s o) w (own_later c b s t o w e d g.runs) y.stage y.kind g.runs (ap (λ (z : Works). z.copy) y.works) (ap (λ (z : Works). z.left) y.works) (ap (λ (z : Dates). z.launched) y.dates) y.calm (g.covering.owners o)) g.covering;
  owns = stages_alike s t q.stages (λ j. inl (each j)) g.owns;
  view = record { rises = λ a m u l z. rises_in _ t.steps m u t.moments l z; at_home = λ a. homes a };
  runs = ap (λ (z : Owner). is_running z.fate) at_o ∙ (ap is_running y.fate ∙ g.runs);
  of_kind = ap (λ (z : Owner). z.kind) at_o ∙ (y.kind ∙ g.of_kind);
  of_stage = ap (λ (z : Owner). z.stage) at_o ∙ (y.stage ∙ g.of_stage);
  history = q.history ∙ g.history;
  launched = subst (λ (z : Owner). 0 < z.dates.launched) (sym at_o) (subst (λ (z : Dates). 0 < z.launched) (sym y.dates) g.launched);
}
  where
    at_o : owner_at t o ≡ w
    at_o = ap (λ (owners : List Owner). get_or owners o no_owner) d ∙ own_after s o w i

    all : (Q : ℕ → Owner → Type 0) → Q o w → ((j : ℕ) → Q j (owner_at s j)) → (j : ℕ) → Q j (owner_at t j)
    all Q f z = subst (λ (owners : List Owner). (j : ℕ) → Q j (get_or owners j no_owner)) (sym d) (each_set Q s.owners o w f z)

    each : (j : ℕ) → Same (owner_at s j) (owner_at t j)
    each = all (λ j v. Same (owner_at s j) v) (record { fate = y.fate; kind = y.kind; stage = y.stage }) (λ j. record { fate = refl; kind = refl; stage = refl })

    not_ended : (f : OwnerFate) → is_running f ≡ true → has_ended f ≡ true → ⊥
    not_ended f r z = running_not_ended f r z

    homes : (a j : ℕ) → is_ended (owner_at t a) ≡ true → kind_service (owner_at t a).kind ≡ Reg j → service_of_register c (call_of (owner_at t a)).register ≡ Reg j
    homes = all (λ a v. (j : ℕ) → is_ended v ≡ true → kind_service v.kind ≡ Reg j → service_of_register c (call_of v).register ≡ Reg j) (λ j f z. absurd (not_ended w.fate (ap is_running y.fate ∙ g.runs) (both_of (is_call w.kind) _ f).1)) (λ a. g.view.at_home a)

module _ (c : Config) (b : CallsBehind) (h : List Entry) (o n : ℕ) (x : Op) where
  pub going_sends : (outs : List Out) (s : State) → o < length s.owners → Going c b h o n x s → Going c b h o n x (sends s o outs)
  going_sends [] s i g = g
  going_sends (out ∷ outs) s i g = going_sends outs (sends_one s o out) (long s out i) (going_on c b h o n x s (sends_one s o out) _ i (record { steps = refl; moments = refl; marks = refl }) (record { stages = refl; pipes = refl; history = refl }) refl (record { stage = refl; kind = refl; fate = refl; works = refl; dates = refl; calm = λ z. z }) g)
    where
      long : (s : State) (out : Out) → o < length s.owners → o < length (sends_one s o out).owners
      long s out i = grind (arith, looks, i)

  quiet_on : (s : State) (w : Owner) → o < length s.owners → Turned (owner_at s o) w → Going c b h o n x s → Going c b h o n x (record s { owners = set s.owners o w })
  quiet_on s w i y g = going_on c b h o n x s (record s { owners = set s.owners o w }) w i (record { steps = refl; moments = refl; marks = refl }) (record { stages = refl; pipes = refl; history = refl }) refl y g

  still : (s : State) (w : Owner) → o < length s.owners → o < length (set s.owners o w)
  still s w i = grind (arith, looks, i)

  pub going_listens : (s : State) (slot : ℕ) → o < length s.owners → Going c b h o n x s → Going c b h o n x (listens s o slot)
  going_listens s slot i g = quiet_on s (listened s o slot) i (record { stage = refl; kind = refl; fate = refl; works = refl; dates = refl; calm = λ z. z }) g

  going_forgets : (t : Bool) (s : State) → o < length s.owners → Going c b h o n x s → Going c b h o n x (forgets_if t s o)
  going_forgets true s i g = quiet_on s (record (owner_at s o) { currents = no_currents }) i (record { stage = refl; kind = refl; fate = refl; works = refl; dates = refl; calm = λ z. z }) g
  going_forgets false s i g = g

  forgets_there : (t : Bool) (s : State) → o < length s.owners → o < length (forgets_if t s o).owners
  forgets_there true s i = still s _ i
  forgets_there false s i = i

  going_goes : (s : State) (y : Session) (outs : List Out) → is_fixing y ≡ false → o < length s.owners → Going c b h o n x s → Going c b h o n x (goes_on s o y outs)
  going_goes s y outs f i g = going_sends outs (turns_session s o y) (still s (turned s o y) i) (quiet_on s (turned s o y) i (record { stage = refl; kind = refl; fate = refl; works = refl; dates = refl; calm = λ z. absurd (false≢true (sym f ∙ z)) }) g)

  -- it ends, if it can
  module _ (f : State) (m : ℕ) (txn : service_of x ≡ Txn m) (service : IsService (Txn m)) (cover : TimesCover f) where
    pub going_ends : (s : State) (k : OwnerKind) (shown : List Shown) (time : Option ℕ) → (owner_at s o).kind ≡ k → ((y : ℕ) → time ≡ Some y → y ≡ told_time (owner_at s o).session) → Going c b h o n x s → Toward (ends_at c s o k shown time) f
        → (Covering c (view_of c (ends_at c s o k shown time)) b (ends_at c s o k shown time) × ((ends_at c s o k shown time).history ≡ h)) ⊎ (Covering c (view_of c (ends_at c s o k shown time)) (ended_table b n o) (ends_at c s o k shown time) × ((ends_at c s o k shown time).history ≡ h ++ End o shown ∷ []))
    going_ends s (kind.Calling y) shown (Some time) e i g t =
        inr (
          subst (λ (j : ℕ). Covering c (view_of c after) (ended_table b j o) after) g.of_stage
              (txn_call_ends c b s o x shown _ seen g.runs g.of_kind g.owns g.covering m time (ap (λ (z : ServiceId). after_txn (owner_at s o).works.copy z time) (ap service_of (sym same) ∙ txn)) (i time refl) txn service least at ((g.covering.owners o).own x g.of_kind g.runs g.launched).none g.view),
          ap (λ (l : List Entry). l ++ End o shown ∷ []) g.history,
        )
      where
        same : x ≡ y
        same = calling_one x y (sym g.of_kind ∙ e)

        seen : Seen
        seen = after_txn (owner_at s o).works.copy (service_of y) time

        after : State
        after = replies c s o shown seen

        at : IsAt (owner_at s o).works.copy (Txn m)
        at = subst (IsAt (owner_at s o).works.copy) txn ((g.covering.owners o).own x g.of_kind g.runs g.launched).at

        cursor : Cursor
        cursor = after_call (stage_at s (owner_at s o).stage).cursor (next_statement c s (owner_at s o).stage) (values_of shown)

        ended : owner_at after o ≡ closed s o Ended
        ended = owner_ended c b s o x shown cursor seen g.runs g.of_kind g.owns g.covering

        there : o < length after.owners
        there = still s (closed s o Ended) (running_there s o g.runs)

        kept_f : Kept (owner_at after o) (owner_at f o)
        kept_f = t.onward.each o there

        over : is_running (owner_at after o).fate ≡ false
        over = ap (λ (z : Owner). is_running z.fate) ended

        least : least_of (owner_at s o).works.copy.least (Txn m) ≤ time
        least =
            let works = t.works o there over ∙ ap (λ (z : Owner). z.works) ended in
            let session = kept_f.session over ∙ ap (λ (z : Owner). z.session) ended in
            let kind = kept_f.kind ∙ (ap (λ (z : Owner). z.kind) ended ∙ g.of_kind) in
            let fate = kept_f.fate over ∙ ap (λ (z : Owner). z.fate) ended in
            subst (λ (z : ℕ). least_of (owner_at s o).works.copy.least (Txn m) ≤ z) (ap told_time session ∙ sym (i time refl))
            (subst (λ (z : Works). least_of z.copy.least (Txn m) ≤ told_time (owner_at f o).session) works (cover.least o m x kind fate txn))
    going_ends s (kind.Calling y) shown None e i g t = inl (g.covering, g.history)
    going_ends s kind.Fencing shown time e i g t = inl (g.covering, g.history)
    going_ends s (kind.Stubbing u) shown time e i g t = inl (g.covering, g.history)

goes_session : (s : State) (o : ℕ) (x : Session) (outs : List Out) → o < length s.owners → session_at (goes_on s o x outs) o ≡ x
goes_session s o x outs i = ap (λ (w : Owner). w.session) (sends_kept (turns_session s o x) o outs o) ∙ ap (λ (w : Owner). w.session) (own_after s o (turned s o x) i)

-- a turn of a transaction or a snapshot of this state, to the state t
module _ (c : Config) (n : IsInOrder c) (at : Reading) (s : State) (h : Facts c n at s) (k : Covering c (view_of c s) (behind s) s) (o : ℕ) (r : is_running (owner_at s o).fate ≡ true) (f : State) (cover : TimesCover f) where
  starts : (x : Op) → (owner_at s o).kind ≡ kind.Calling x → is_own (session_at s o) ≡ true → Going c (behind s) s.history o (owner_at s o).stage x s
  starts x e own = record { covering = k; owns = h.told.stages; view = view_is c n at s h; runs = r; of_kind = e; of_stage = refl; history = refl; launched = (h.told.fits o).launched own }

  there : o < length s.owners
  there = running_there s o r

  -- what it comes to
  closes_up : (x : Op) (shown : List Shown) (t : State) → (owner_at s o).kind ≡ kind.Calling x
      → (Covering c (view_of c t) (behind s) t × (t.history ≡ s.history)) ⊎ (Covering c (view_of c t) (ended_table (behind s) (owner_at s o).stage o) t × (t.history ≡ s.history ++ End o shown ∷ [])) → Covering c (view_of c t) (behind t) t
  closes_up x shown t e (inl g) = subst (λ (b : CallsBehind). Covering c (view_of c t) b t) (sym (ap table g.1)) g.0
  closes_up x shown t e (inr g) =
      let q = told_stage s o h.told (ap is_call e) in
      subst (λ (b : CallsBehind). Covering c (view_of c t) b t) (sym (ap table g.1 ∙ end_table s.history o (owner_at s o).stage shown (told_begun s h.told) q.0 q.1)) g.0

  txn_turn : (x : Op) (i : IsTxn (service_of x)) (u : State) (turn : Turn TxnSession) → o < length u.owners → (owner_at s o).kind ≡ kind.Calling x → Going c (behind s) s.history o (owner_at s o).stage x u → Toward (txn_turns c u o turn) f → Covering c (view_of c (txn_turns c u o turn)) (behind (txn_turns c u o turn)) (txn_turns c u o turn)
  txn_turn x i u turn l e g t =
      let w = forgets_if turn.anew u o in
      let lw = forgets_there c (behind s) s.history o (owner_at s o).stage x turn.anew u l in
      let gw = going_forgets c (behind s) s.history o (owner_at s o).stage x turn.anew u l g in
      let y = goes_on w o (session.Transaction turn.after) turn.outs in
      let gy = going_goes c (behind s) s.history o (owner_at s o).stage x w (session.Transaction turn.after) turn.outs refl lw gw in
      closes_up x (shown_reply turn.after.reads turn.after.lines) (txn_turns c u o turn) e
      (going_ends c (behind s) s.history o (owner_at s o).stage x f i.number i.is i.service cover y (owner_at u o).kind (shown_reply turn.after.reads turn.after.lines) (txn_end turn.after.phase) (gy.of_kind ∙ sym g.of_kind)
      (λ z q. ap (λ (m : Option ℕ). unwrap_or m 0) (sym q) ∙ ap told_time (sym (goes_session w o (session.Transaction turn.after) turn.outs lw))) gy t)

  snap_turn : (x : Op) (i : IsTxn (service_of x)) (u : State) (turn : Turn SnapSession) → o < length u.owners → (owner_at s o).kind ≡ kind.Calling x → Going c (behind s) s.history o (owner_at s o).stage x u → Toward (snap_turns c u o turn) f → Covering c (view_of c (snap_turns c u o turn)) (behind (snap_turns c u o turn)) (snap_turns c u o turn)
  snap_turn x i u turn l e g t =
      let w = forgets_if turn.anew u o in
      let lw = forgets_there c (behind s) s.history o (owner_at s o).stage x turn.anew u l in
      let gw = going_forgets c (behind s) s.history o (owner_at s o).stage x turn.anew u l g in
      let y = goes_on w o (session.Snapshot turn.after) turn.outs in
      let gy = going_goes c (behind s) s.history o (owner_at s o).stage x w (session.Snapshot turn.after) turn.outs refl lw gw in
      closes_up x (shown_reply turn.after.keys turn.after.lines) (snap_turns c u o turn) e
      (going_ends c (behind s) s.history o (owner_at s o).stage x f i.number i.is i.service cover y (owner_at u o).kind (shown_reply turn.after.keys turn.after.lines) (snap_end turn.after.phase) (gy.of_kind ∙ sym g.of_kind)
      (λ z q. ap (λ (m : Option ℕ). unwrap_or m 0) (sym q) ∙ ap told_time (sym (goes_session w o (session.Snapshot turn.after) turn.outs lw))) gy t)

  txn_call : (t : TxnSession) → session_at s o ≡ session.Transaction t → (x : Op) × ((owner_at s o).kind ≡ kind.Calling x) × IsTxn (service_of x)
  txn_call t e = let g = subst (Agrees (owner_at s o)) e (h.agree.each o) in (op.Txn g.reads g.guard g.writes, g.of_kind, h.served.each o (op.Txn g.reads g.guard g.writes) g.of_kind)

  snap_call : (t : SnapSession) → session_at s o ≡ session.Snapshot t → (x : Op) × ((owner_at s o).kind ≡ kind.Calling x) × IsTxn (service_of x)
  snap_call t e = let g = subst (Agrees (owner_at s o)) e (h.agree.each o) in (op.Snap g.keys, g.of_kind, h.served.each o (op.Snap g.keys) g.of_kind)

  listens_there : (slot : ℕ) → o < length (listens s o slot).owners
  listens_there slot = let l = there in grind (arith, looks, l)

  pub turns_cover : (t : State) → ShardTurn c at s o t → Toward t f → Covering c (view_of c t) (behind t) t
  turns_cover _ (txn_answered y slot z e d) t =
      let q = txn_call y e in
      txn_turn q.0 q.2 (listens s o slot) (txn_hears y (line_at y.lines (slot_shard slot)) at z) (listens_there slot) q.1 (going_listens c (behind s) s.history o (owner_at s o).stage q.0 s slot there (starts q.0 q.1 (ap is_own e))) t
  turns_cover _ (snap_answered y slot z e d) t =
      let q = snap_call y e in
      snap_turn q.0 q.2 (listens s o slot) (snap_hears y (line_at y.lines (slot_shard slot)) z) (listens_there slot) q.1 (going_listens c (behind s) s.history o (owner_at s o).stage q.0 s slot there (starts q.0 q.1 (ap is_own e))) t
  turns_cover _ (txn_wakes_one y l e a b) t = let q = txn_call y e in txn_turn q.0 q.2 s (txn_wakes y l) there q.1 (starts q.0 q.1 (ap is_own e)) t
  turns_cover _ (snap_wakes_one y l e b) t = let q = snap_call y e in snap_turn q.0 q.2 s (snap_wakes y l) there q.1 (starts q.0 q.1 (ap is_own e)) t
  turns_cover _ (txn_passes_time y time e a b) t = let q = txn_call y e in txn_turn q.0 q.2 s (txn_passes y y.phase) there q.1 (starts q.0 q.1 (ap is_own e)) t
