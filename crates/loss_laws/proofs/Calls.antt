-- No move of an owner or a stage in a step loses anything: the walk over works, calls and statements.
use Rattle.std.proofs.Common.{◌≡◌, ℕ, ◌-◌, Bool, true, false, List, [], ◌∷◌, ◌++◌, Option, Some, None, refl, sym, subst}
use Rattle.std.specs.Prelude.{nat_lt, ◌+◌}
use Rattle.std.proofs.Math.ListN.{set}
use Rattle.std.proofs.lemmas.Bool.{cond_both}
use Rattle.truetime.specs.Reading.{Reading}
use Rattle.rss_names.specs.declared.service.ServiceId.{ServiceId}
use Rattle.rss_names.specs.declared.service.Target.{Target}
use Rattle.causal_context.specs.declared.dep.Dep.{Dep}
use Rattle.causal_context.specs.Deps.{deps_of}
use Rattle.causal_context.specs.Seen.{Seen}
use Rattle.pipeline_lang.specs.Config.{home_of, body_of}
use Rattle.pipeline_lang.specs.declared.config.Config.{Config}
use Rattle.pipeline_lang.specs.declared.config.PipeEnds.{PipeEnds}
use Rattle.rss_model.specs.declared.op.Op.{Op}
use Rattle.rss_model.specs.declared.op.Op.TheVariants as op
use Rattle.rss_model.specs.declared.op.Shown.{Shown}
use Rattle.rss_model.specs.declared.history.Entry.TheVariants as entry
use Rattle.rss_model.specs.declared.history.How.TheVariants.{Exited}
use Rattle.rss_tables.specs.Outs.{Out, awaited}
use Rattle.rss_tables.specs.SnapshotSession.{SnapSession}
use Rattle.rss_tables.specs.TransactionSession.{TxnSession, txn_end}
use Rattle.rss_tables.specs.SnapshotSession.{opening_snapshot, snap_starts, snap_end}
use Rattle.rss_tables.specs.TransactionSession.{opening_txn, txn_starts, shown_reply}
use Rattle.rss_tables.specs.RegisterSession.{round_requests}
use Rattle.rss_tables.specs.Turns.{Turn}
use Rattle.rss_tables.specs.declared.fences.FenceWork.{FenceWork}
use Rattle.rss_tables.specs.declared.fences.FenceWork.TheVariants.{Nothing, Past, Fix}
use Rattle.rss_tables.specs.declared.register_session.RegEnd.{RegEnd}
use Rattle.rss_tables.specs.declared.register_session.RegEnd.TheVariants as ends
use Rattle.rss_tables.specs.declared.register_session.RegWork.{RegWork}
use Rattle.rss_tables.specs.declared.register_session.RegWork.TheVariants as work
use Rattle.rss_machine.specs.Calls.{session_for, least_for, fixes, launches_call, starts_at_register, starts_call, entered_first, works_over, goes_through, ends_work, launches_cleared, fix_ends, replies, register_ends, ends_at, forgets_if, txn_turns, snap_turns}
use Rattle.rss_machine.specs.Moves.{sends_one, sends, goes_on, turns_session, launches, with_owner, fence_ends, clears, closes, is_to_end, cuts_pipe, closes_from, cuts_from, gives_exit, exits, ends_stub}
use Rattle.rss_machine.specs.Session.{Session, service_of}
use Rattle.rss_machine.specs.State.{State, Stage, Owner, stage_at, owner_at}
use Rattle.rss_machine.specs.declared.session.OwnerKind.{OwnerKind}
use Rattle.rss_machine.specs.declared.session.OwnerKind.TheVariants as kind
use Rattle.rss_machine.specs.declared.session.Session.TheVariants as session
use Rattle.rss_machine.specs.declared.state.Life.TheVariants.{Over}
use Rattle.rss_machine.specs.declared.state.OwnerFate.TheVariants.{Ended}
use Rattle.loss_laws.proofs.Steady.{Steady, SteadyOwners, SteadyStages, owners_goes, owners_ends, stages_goes, stages_exits, same, after, by_owners, by_stages}

module _ (X : ℕ → Target → Type 0) (Y : ℕ → Type 0) where
  -- requests
  pub s_sends_one : (s : State) (o : ℕ) (out : Out) → Steady X Y s (sends_one s o out)
  s_sends_one s o out = by_owners X Y s (sends_one s o out) refl (owners_goes X s.owners o _ refl refl)

  pub s_sends : (s : State) (o : ℕ) (outs : List Out) → Steady X Y s (sends s o outs)
  s_sends s o [] = same X Y s s refl refl
  s_sends s o (out ∷ outs) = after X Y s (sends_one s o out) (sends (sends_one s o out) o outs) (s_sends_one s o out) (s_sends (sends_one s o out) o outs)

  -- an owner changes, with its losses and its fate
  pub s_own : (s : State) (o : ℕ) (w : Owner) → w.losses ≡ (owner_at s o).losses → w.fate ≡ (owner_at s o).fate → Steady X Y s (with_owner s o w)
  s_own s o w l f = by_owners X Y s (with_owner s o w) refl (owners_goes X s.owners o w l f)

  pub s_goes_on : (s : State) (o : ℕ) (x : Session) (outs : List Out) → Steady X Y s (goes_on s o x outs)
  s_goes_on s o x outs = after X Y s (turns_session s o x) _ (s_own s o _ refl refl) (s_sends (turns_session s o x) o outs)

  s_launches : (s : State) (o : ℕ) (x : Session) (outs : List Out) → Steady X Y s (launches s o x outs)
  s_launches s o x outs =
      let t = with_owner s o (record (owner_at s o) { session = x; dates = record (owner_at s o).dates { launched = s.steps } }) in
      after X Y s t _ (s_own s o _ refl refl) (s_sends t o outs)

  -- pipes end
  closes_owners : (c : Config) (ends : List PipeEnds) (s : State) (n p : ℕ) (seen : Seen) → (closes_from c s n seen p ends).owners ≡ s.owners
  closes_owners c [] s n p seen = refl
  closes_owners c (e ∷ ends) s n p seen =
      cond_both (is_to_end c s n p) (closes s n seen p) s (λ (t : State). (closes_from c t n seen (p + 1) ends).owners ≡ s.owners) (λ q. closes_owners c ends (closes s n seen p) n (p + 1) seen) (λ q. closes_owners c ends s n (p + 1) seen)

  closes_stages : (c : Config) (ends : List PipeEnds) (s : State) (n p : ℕ) (seen : Seen) → (closes_from c s n seen p ends).stages ≡ s.stages
  closes_stages c [] s n p seen = refl
  closes_stages c (e ∷ ends) s n p seen =
      cond_both (is_to_end c s n p) (closes s n seen p) s (λ (t : State). (closes_from c t n seen (p + 1) ends).stages ≡ s.stages) (λ q. closes_stages c ends (closes s n seen p) n (p + 1) seen) (λ q. closes_stages c ends s n (p + 1) seen)

  pub cuts_owners : (c : Config) (ends : List PipeEnds) (s : State) (n p : ℕ) → (cuts_from c s n p ends).owners ≡ s.owners
  cuts_owners c [] s n p = refl
  cuts_owners c (e ∷ ends) s n p =
      cond_both (is_to_end c s n p) (cuts_pipe s p) s (λ (t : State). (cuts_from c t n (p + 1) ends).owners ≡ s.owners) (λ q. cuts_owners c ends (cuts_pipe s p) n (p + 1)) (λ q. cuts_owners c ends s n (p + 1))

  pub cuts_stages : (c : Config) (ends : List PipeEnds) (s : State) (n p : ℕ) → (cuts_from c s n p ends).stages ≡ s.stages
  cuts_stages c [] s n p = refl
  cuts_stages c (e ∷ ends) s n p =
      cond_both (is_to_end c s n p) (cuts_pipe s p) s (λ (t : State). (cuts_from c t n (p + 1) ends).stages ≡ s.stages) (λ q. cuts_stages c ends (cuts_pipe s p) n (p + 1)) (λ q. cuts_stages c ends s n (p + 1))

  s_gives_exit : (c : Config) (s : State) (n : ℕ) (seen : Seen) → Steady X Y s (gives_exit c s n seen)
  s_gives_exit c s n seen = same X Y s (gives_exit c s n seen) (closes_owners c c.pipe_ends s n 1 seen) (closes_stages c c.pipe_ends s n 1 seen)

  pub s_exits : (c : Config) (s : State) (n : ℕ) → Steady X Y s (exits c s n)
  s_exits c s n = after X Y s _ (exits c s n) (by_stages X Y s (over s n) refl (stages_exits Y s.stages (n - 1) _ refl)) (s_gives_exit c (over s n) n (stage_at s n).context)
    where
      over : State → ℕ → State
      over s n = record s { stages = set s.stages (n - 1) (record (stage_at s n) { life = Over Exited }); history = s.history ++ entry.Over n Exited ∷ [] }

  pub s_ends_stub : (c : Config) (s : State) (o : ℕ) → Steady X Y s (ends_stub c s o)
  s_ends_stub c s o = after X Y s _ (ends_stub c s o) (by_owners X Y s _ refl (owners_ends X s.owners o _ refl refl)) (s_gives_exit c _ (owner_at s o).stage _)

  s_fixes : (c : Config) (s : State) (o : ℕ) (id : ServiceId) → Steady X Y s (fixes c s o id)
  s_fixes c s o id =
      let r = session_for c s o (work.Fix (deps_of id (owner_at s o).works.copy.deps)) id in
      s_goes_on s o (session.Fixing r) (awaited (round_requests r))

  -- what a call sends first
  s_launches_call : (c : Config) (s : State) (o : ℕ) (at : Reading) (x : Op) → Steady X Y s (launches_call c s o at x)
  s_launches_call c s o at (op.Read key) = let r = session_for c s o (work.Read key) key.service in s_launches s o (session.Register r) (awaited (round_requests r))
  s_launches_call c s o at (op.Write key value) = let r = session_for c s o (work.Write key value) key.service in s_launches s o (session.Register r) (awaited (round_requests r))
  s_launches_call c s o at (op.Snap keys) =
      let turn = snap_starts (opening_snapshot (home_of c) o keys (least_for s o (service_of (op.Snap keys))) at) in
      s_launches s o (session.Snapshot turn.after) turn.outs
  s_launches_call c s o at (op.Txn reads guard writes) =
      let turn = txn_starts (opening_txn (home_of c) o reads guard writes (least_for s o (service_of (op.Txn reads guard writes))) (body_of c (owner_at s o).stage).earliest_end) in
      s_launches s o (session.Transaction turn.after) turn.outs

  s_starts_at_register : (c : Config) (s : State) (o : ℕ) (at : Reading) (x : Op) (deps : List Dep) → Steady X Y s (starts_at_register c s o at x deps)
  s_starts_at_register c s o at x [] = s_launches_call c s o at x
  s_starts_at_register c s o at x (dep ∷ deps) = s_fixes c s o (service_of x)

  s_starts_call : (c : Config) (s : State) (o : ℕ) (at : Reading) (x : Op) → Steady X Y s (starts_call c s o at x)
  s_starts_call c s o at (op.Read key) = s_starts_at_register c s o at (op.Read key) (owner_at s o).works.copy.deps
  s_starts_call c s o at (op.Write key value) = s_starts_at_register c s o at (op.Write key value) (owner_at s o).works.copy.deps
  s_starts_call c s o at (op.Snap keys) = s_launches_call c s o at (op.Snap keys)
  s_starts_call c s o at (op.Txn reads guard writes) = s_launches_call c s o at (op.Txn reads guard writes)

  s_entered_first : (s : State) (o : ℕ) (x : Op) (at : Reading) → Steady X Y s (entered_first s o x at)
  s_entered_first s o x at = cond_both (owner_at s o).works.enter _ s (λ (t : State). Steady X Y s t) (λ e. s_own s o _ refl refl) (λ e. same X Y s s refl refl)

  -- a call or a fence statement ends, and its stage goes on
  s_ends : (s t : State) (o n : ℕ) (w : Owner) (x : Stage) → t.owners ≡ set s.owners o w → t.stages ≡ set s.stages (n - 1) x → w.losses ≡ (owner_at s o).losses → w.fate ≡ Ended → x.life ≡ (stage_at s n).life → Steady X Y s t
  s_ends s t o n w x a b l f q = record {
    owners = subst (SteadyOwners X s.owners) (sym a) (owners_ends X s.owners o w l f);
    stages = subst (SteadyStages Y s.stages) (sym b) (stages_goes Y s.stages (n - 1) x q);
  }

  s_works_over : (c : Config) (s : State) (o : ℕ) (at : Reading) (k : OwnerKind) → Steady X Y s (works_over c s o at k)
  s_works_over c s o at (kind.Calling x) = after X Y s (entered_first s o x at) _ (s_entered_first s o x at) (s_starts_call c (entered_first s o x at) o at x)
  s_works_over c s o at kind.Fencing = s_ends s _ o (owner_at s o).stage _ _ refl refl refl refl refl
  s_works_over c s o at (kind.Stubbing u) = s_ends_stub c s o

  pub s_goes_through : (c : Config) (s : State) (o : ℕ) (at : Reading) (works : List (ServiceId × FenceWork)) → Steady X Y s (goes_through c s o at works)
  s_goes_through c s o at [] = s_works_over c s o at (owner_at s o).kind
  s_goes_through c s o at ((id, Nothing) ∷ works) = after X Y s (fence_ends s o id) _ (s_own s o _ refl refl) (s_goes_through c (fence_ends s o id) o at works)
  s_goes_through c s o at ((id, Past time) ∷ works) =
      cond_both (nat_lt time at.earliest) _ _ (λ (t : State). Steady X Y s t) (λ e. after X Y s (fence_ends s o id) _ (s_own s o _ refl refl) (s_goes_through c (fence_ends s o id) o at works)) (λ e. s_own s o _ refl refl)
  s_goes_through c s o at ((id, Fix) ∷ works) = s_fixes c s o id

  pub s_ends_work : (c : Config) (s : State) (o : ℕ) (at : Reading) (works : List (ServiceId × FenceWork)) → Steady X Y s (ends_work c s o at works)
  s_ends_work c s o at [] = same X Y s s refl refl
  s_ends_work c s o at (w ∷ works) = after X Y s (fence_ends s o w.0) _ (s_own s o _ refl refl) (s_goes_through c (fence_ends s o w.0) o at works)

  s_launches_cleared : (c : Config) (s : State) (o : ℕ) (at : Reading) (k : OwnerKind) → Steady X Y s (launches_cleared c s o at k)
  s_launches_cleared c s o at (kind.Calling x) = s_launches_call c s o at x
  s_launches_cleared c s o at kind.Fencing = same X Y s s refl refl
  s_launches_cleared c s o at (kind.Stubbing u) = same X Y s s refl refl

  pub s_fix_ends : (c : Config) (s : State) (o : ℕ) (at : Reading) (works : List (ServiceId × FenceWork)) → Steady X Y s (fix_ends c s o at works)
  s_fix_ends c s o at [] = after X Y s (clears s o) _ (s_own s o _ refl refl) (s_launches_cleared c (clears s o) o at (owner_at s o).kind)
  s_fix_ends c s o at (w ∷ works) = s_ends_work c s o at (w ∷ works)

  -- replies
  s_replies : (c : Config) (s : State) (o : ℕ) (shown : List Shown) (seen : Seen) → Steady X Y s (replies c s o shown seen)
  s_replies c s o shown seen = s_ends s _ o (owner_at s o).stage _ _ refl refl refl refl refl

  pub s_register_ends : (c : Config) (s : State) (o : ℕ) (w : RegWork) (e : RegEnd) → Steady X Y s (register_ends c s o w e)
  s_register_ends c s o (work.Read key) (ends.Read cell dep) = s_replies c s o _ _
  s_register_ends c s o (work.Write key value) (ends.Written stamp) = s_replies c s o _ _
  s_register_ends c s o (work.Read key) (ends.Written stamp) = same X Y s s refl refl
  s_register_ends c s o (work.Read key) ends.Fixed = same X Y s s refl refl
  s_register_ends c s o (work.Write key value) (ends.Read cell dep) = same X Y s s refl refl
  s_register_ends c s o (work.Write key value) ends.Fixed = same X Y s s refl refl
  s_register_ends c s o (work.Fix deps) e = same X Y s s refl refl

  s_ends_at : (c : Config) (s : State) (o : ℕ) (k : OwnerKind) (shown : List Shown) (time : Option ℕ) → Steady X Y s (ends_at c s o k shown time)
  s_ends_at c s o (kind.Calling x) shown (Some time) = s_replies c s o _ _
  s_ends_at c s o (kind.Calling x) shown None = same X Y s s refl refl
  s_ends_at c s o kind.Fencing shown time = same X Y s s refl refl
  s_ends_at c s o (kind.Stubbing u) shown time = same X Y s s refl refl

  s_forgets_if : (b : Bool) (s : State) (o : ℕ) → Steady X Y s (forgets_if b s o)
  s_forgets_if true s o = s_own s o _ refl refl
  s_forgets_if false s o = same X Y s s refl refl

  s_turns : (anew : Bool) (s : State) (o : ℕ) (x : Session) (outs : List Out) → Steady X Y s (goes_on (forgets_if anew s o) o x outs)
  s_turns anew s o x outs = after X Y s (forgets_if anew s o) _ (s_forgets_if anew s o) (s_goes_on (forgets_if anew s o) o x outs)

  pub s_txn_turns : (c : Config) (s : State) (o : ℕ) (turn : Turn TxnSession) → Steady X Y s (txn_turns c s o turn)
  s_txn_turns c s o turn =
      let t = goes_on (forgets_if turn.anew s o) o (session.Transaction turn.after) turn.outs in
      after X Y s t _ (s_turns turn.anew s o (session.Transaction turn.after) turn.outs) (s_ends_at c t o (owner_at s o).kind (shown_reply turn.after.reads turn.after.lines) (txn_end turn.after.phase))

  pub s_snap_turns : (c : Config) (s : State) (o : ℕ) (turn : Turn SnapSession) → Steady X Y s (snap_turns c s o turn)
  s_snap_turns c s o turn =
      let t = goes_on (forgets_if turn.anew s o) o (session.Snapshot turn.after) turn.outs in
      after X Y s t _ (s_turns turn.anew s o (session.Snapshot turn.after) turn.outs) (s_ends_at c t o (owner_at s o).kind (shown_reply turn.after.keys turn.after.lines) (snap_end turn.after.phase))
