-- The walk over what owners do, its first part: stages and pipes end, stages die, and owners go through
-- their works.
use Rattle.std.proofs.Common.{◌≡◌, ℕ, ◌<◌, Bool, true, false, List, [], ◌∷◌, ◌++◌, length, Option, Some, refl, ap, ◌∙◌, subst, arith}
use Rattle.std.proofs.Math.ListN.{set}
use Rattle.std.specs.Prelude.{◌+◌, nat_lt, ◌==◌, if◌then◌else◌}
use Rattle.std.proofs.lemmas.Bool.{cond_both}
use Rattle.truetime.specs.Reading.{Reading}
use Rattle.rss_names.specs.declared.attempt.Attempt.{Attempt}
use Rattle.rss_names.specs.declared.service.ServiceId.{ServiceId}
use Rattle.rss_names.specs.declared.service.Target.{Target}
use Rattle.causal_context.specs.declared.dep.Dep.{Dep}
use Rattle.causal_context.specs.Seen.{Seen}
use Rattle.pipeline_lang.specs.declared.config.Config.{Config}
use Rattle.pipeline_lang.specs.declared.config.PipeEnds.{PipeEnds}
use Rattle.pipeline_lang.specs.Config.{home_of, body_of}
use Rattle.rss_model.specs.declared.history.Entry.{Entry}
use Rattle.rss_model.specs.declared.history.How.{How}
use Rattle.rss_model.specs.declared.op.Op.{Op}
use Rattle.rss_model.specs.declared.op.Op.TheVariants as op
use Rattle.world_laws.proofs.Looks.{looks}
use Rattle.rss_tables.specs.declared.fences.FenceWork.{FenceWork}
use Rattle.rss_tables.specs.declared.fences.FenceWork.TheVariants.{Nothing, Past, Fix}
use Rattle.rss_tables.specs.declared.register_session.RegEnd.{RegEnd}
use Rattle.rss_tables.specs.declared.register_session.RegWork.TheVariants as work
use Rattle.rss_tables.specs.Outs.{awaited}
use Rattle.rss_tables.specs.Pipes.{Pipe}
use Rattle.rss_tables.specs.RegisterSession.{RegSession, round_requests, phase_end}
use Rattle.rss_tables.specs.SnapshotSession.{opening_snapshot, snap_starts}
use Rattle.rss_tables.specs.TransactionSession.{opening_txn, txn_starts}
use Rattle.rss_machine.specs.Calls.{session_for, least_for, fixes, launches_call, starts_at_register, starts_call, entered_first, works_over, goes_through, ends_work, launches_cleared, fix_ends}
use Rattle.rss_machine.specs.Moves.{gives_exit, exits, dies, ends_stub, loses_stub, is_to_end, closes, closes_from, cuts_pipe, cuts_from, fence_ends, clears, turns_session}
use Rattle.rss_machine.specs.State.{State, Stage, Owner, stage_at, owner_at}
use Rattle.rss_machine.specs.declared.session.OwnerKind.{OwnerKind}
use Rattle.rss_machine.specs.declared.session.OwnerKind.TheVariants as kind
use Rattle.rss_machine.specs.declared.session.Session.TheVariants as session
use Rattle.rss_machine.specs.declared.state.OwnerFate.{OwnerFate}
use Rattle.rss_machine.specs.Session.{service_of}
use Rattle.std.proofs.Common.{◌-◌, sym, All, drop}
use Rattle.std.proofs.lemmas.List.Elements.{All-nil, All-set}
use Rattle.causal_context.specs.Seen.{fenced_outside, entered, deps_cleared}
use Rattle.rss_model.specs.declared.history.Entry.TheVariants.{Over}
use Rattle.rss_model.specs.declared.history.How.TheVariants.{Exited}
use Rattle.rss_machine.specs.Calls.{fenced_context}
use Rattle.rss_machine.specs.Moves.{with_owner, closed, enters, waits_for}
use Rattle.rss_machine.specs.State.{no_currents}
use Rattle.rss_machine.specs.declared.state.Life.TheVariants as life
use Rattle.rss_machine.specs.declared.state.OwnerFate.TheVariants.{Ended, CutOff}
use Rattle.world_laws.specs.Contexts.{AllDeps, StageHolds, PipeHolds}
use Rattle.world_laws.proofs.Contexts.{fenced_hold, stage_holds, stages_hold, copy_holds, pipe_holds}
use Rattle.world_laws.proofs.Doings.{Changed, fence_ended, turned, launched, fix_session, past, fixed, cleared, owes_nothing, is_past, enters_own, waits, fixes_work, fixes_own, asks_register, stamps_register, begins_snapshot, begins_txn, fence_done, stub_done, is_closed}
use Rattle.world_laws.proofs.SessionMoves.{session_at}
use Rattle.world_laws.proofs.TurnMoves.{WalkMoves}
use Rattle.world_laws.proofs.StageMoves.{StageMove, closes_one, cuts_off_one, is_over, exit_given, Giving, own, by_stub, Making, Dying, quiet}
use Rattle.world_laws.specs.Calls.{is_stub}
use Rattle.world_laws.proofs.OwnerMoves.{stage_changed, pipe_changed, stage_kept, own_changed, kept_changed, ends_changed, at_own, waiting_there, fixing_there, there_own, IsReady, ready, Lies}

module _ (c : Config) (at : Reading) (A : OwnerFate → Type 0) (F P : State → Type 0) (R D : State → ℕ → Type 0) (k : WalkMoves c at A F P R D) where
  -- stages, and pipes
  pub stage : (s : State) (stages : List Stage) (history : List Entry) → StageMove c s (record s { stages = stages; history = history }) → ((G : Dep → Type 0) → AllDeps G s → All (StageHolds G) stages) → P s → P (record s { stages = stages; history = history })
  stage s stages history y f p = k.stages s (record s { stages = stages; history = history }) y (stage_changed s stages history f) p

  pipe : (s : State) (pipes : List Pipe) (history : List Entry) → StageMove c s (record s { pipes = pipes; history = history }) → ((G : Dep → Type 0) → AllDeps G s → All (PipeHolds G) pipes) → P s → P (record s { pipes = pipes; history = history })
  pipe s pipes history y f p = k.stages s (record s { pipes = pipes; history = history }) y (pipe_changed s pipes history f) p

  -- only the acts and the place of a stage change
  pub moves : (s : State) (n : ℕ) (w : Stage) (history : List Entry) → StageMove c s (record s { stages = set s.stages (n - 1) w; history = history }) → w.context ≡ (stage_at s n).context → P s → P (record s { stages = set s.stages (n - 1) w; history = history })
  moves s n w history y e p = stage s _ history y (λ G h. stage_kept G s (n - 1) n w e h) p

  pub w_closes : (s : State) (n : ℕ) (seen : Seen) (p : ℕ) → Giving s n seen → Lies s.stages seen → P s → P (closes s n seen p)
  w_closes s n seen p g f h = pipe s _ _ (closes_one n p seen g) (λ G a. All-set (PipeHolds G) s.pipes (p - 1) _ (record { chunks = (pipe_holds G s p a).chunks; mark = f G a.stages }) a.pipes) h

  -- the ends of pipes change nothing that a stage gives its exit with
  still_gives : (s : State) (n p : ℕ) (seen other : Seen) → Giving s n seen → Giving (closes s n other p) n seen
  still_gives s n p seen other (own e) = own e
  still_gives s n p seen other (by_stub o a b e) = by_stub o a b e

  w_closes_from : (s : State) (n : ℕ) (seen : Seen) (p : ℕ) (pipes : List PipeEnds) → Giving s n seen → Lies s.stages seen → P s → Giving (closes_from c s n seen p pipes) n seen × P (closes_from c s n seen p pipes)
  w_closes_from s n seen p [] g f h = (g, h)
  w_closes_from s n seen p (e ∷ pipes) g f h =
      cond_both (is_to_end c s n p) (closes s n seen p) s (λ (t : State). Giving (closes_from c t n seen (p + 1) pipes) n seen × P (closes_from c t n seen (p + 1) pipes))
      (λ b. w_closes_from (closes s n seen p) n seen (p + 1) pipes (still_gives s n p seen seen g) f (w_closes s n seen p g f h)) (λ b. w_closes_from s n seen (p + 1) pipes g f h)

  w_cuts_from : (s : State) (n p : ℕ) (pipes : List PipeEnds) → P s → P (cuts_from c s n p pipes)
  w_cuts_from s n p [] h = h
  w_cuts_from s n p (e ∷ pipes) h =
      w_cuts_from (if is_to_end c s n p then cuts_pipe s p else s) n (p + 1) pipes
      (cond_both (is_to_end c s n p) (cuts_pipe s p) s P (λ t. pipe s _ _ (cuts_off_one p) (λ G a. All-set (PipeHolds G) s.pipes (p - 1) _ (record { chunks = (pipe_holds G s p a).chunks; mark = All-nil G }) a.pipes) h) (λ f. h))

  w_gives_exit : (s : State) (n : ℕ) (seen : Seen) → Giving s n seen → Lies s.stages seen → P s → P (gives_exit c s n seen)
  w_gives_exit s n seen g f h =
      let t = closes_from c s n seen 1 c.pipe_ends in
      let q = w_closes_from s n seen 1 c.pipe_ends g f h in
      stage t t.stages _ (exit_given n seen q.0) (λ G a. a.stages) q.1

  pub w_exits : (s : State) (n : ℕ) → Making s n → P s → P (exits c s n)
  w_exits s n m h = w_gives_exit t n (stage_at s n).context (own (sym same)) lies (moves s n _ _ (is_over n m) refl h)
    where
      t : State
      t = record s { stages = set s.stages (n - 1) (record (stage_at s n) { life = life.Over Exited }); history = s.history ++ Over n Exited ∷ [] }

      same : (stage_at t n).context ≡ (stage_at s n).context
      same = grind (arith, looks)

      lies : Lies t.stages (stage_at s n).context
      lies G a = subst (λ (x : Seen). All G x.deps) same (stages_hold G t n a)

  pub w_dies : (s : State) (n : ℕ) (how : How) (f : OwnerFate) → Dying A s n how f → P s → P (dies s n how f)
  w_dies s n how f y h = k.dies s n how f y h

  pub w_loses_stub : (s : State) (o : ℕ) (target : Target) → A (owner_at s o).fate → is_stub (owner_at s o).kind ≡ true → P s → P (loses_stub c s o target)
  w_loses_stub s o target a e h =
      w_cuts_from _ _ _ c.pipe_ends
      (k.does s (with_owner s o (closed s o (CutOff target))) o (closed s o (CutOff target)) [] [] a (is_closed (CutOff target)) tt (record { target = target; stub = e; cut = refl }, quiet refl refl refl) (kept_changed s o (closed s o (CutOff target)) refl) h)

  -- works
  w_ends_stub : (s : State) (o : ℕ) (u : Option (Attempt × List ℕ)) → o < length s.owners → (owner_at s o).works.left ≡ [] → (owner_at s o).kind ≡ kind.Stubbing u → R s o → P (ends_stub c s o)
  w_ends_stub s o u i l e h =
      let seen = fenced_outside (owner_at s o).works.copy in
      let w = record (closed s o Ended) { works = record (owner_at s o).works { copy = seen } } in
      w_gives_exit (with_owner s o w) (owner_at s o).stage seen
      (by_stub o (ap (λ (v : Owner). is_stub v.kind) (at_own s o w i) ∙ ap is_stub e) (ap (λ (v : Owner). v.stage) (at_own s o w i)) (sym (ap (λ (v : Owner). v.works.copy) (at_own s o w i))))
      (λ G a. All-nil G) (k.leaves s (with_owner s o w) o w [] i (stub_done u l e) (quiet refl refl refl) tt (own_changed s o w s.planned (λ G a. All-nil G)) h)

  w_fixes_work : (s : State) (o : ℕ) (id : ServiceId) (rest : List (ServiceId × FenceWork)) → o < length s.owners → (owner_at s o).works.left ≡ (id, Fix) ∷ rest → R s o → P (fixes c s o id)
  w_fixes_work s o id rest i l h =
      let r = fix_session c s o id in
      k.leaves s (turns_session s o (session.Fixing r)) o (turned s o (session.Fixing r)) (awaited (round_requests r)) i (fixes_work id rest l) (quiet refl refl refl) tt (kept_changed s o (turned s o (session.Fixing r)) refl) h

  w_launches_call : (s : State) (o : ℕ) (x : Op) → o < length s.owners → (owner_at s o).works.left ≡ [] → (owner_at s o).kind ≡ kind.Calling x → IsReady s o x → k.E s o → R s o → P (launches_call c s o at x)
  w_launches_call s o (op.Read key) i l e d y h =
      let x = session.Register (session_for c s o (work.Read key) key.service) in
      k.leaves s (with_owner s o (launched s o x)) o (launched s o x) _ i (asks_register key l e d) (quiet refl refl refl) y (kept_changed s o (launched s o x) refl) h
  w_launches_call s o (op.Write key value) i l e d y h =
      let x = session.Register (session_for c s o (work.Write key value) key.service) in
      k.leaves s (with_owner s o (launched s o x)) o (launched s o x) _ i (stamps_register key value l e d) (quiet refl refl refl) y (kept_changed s o (launched s o x) refl) h
  w_launches_call s o (op.Snap keys) i l e d y h =
      let t = opening_snapshot (home_of c) o keys (least_for s o (service_of (op.Snap keys))) at in
      let x = session.Snapshot (snap_starts t).after in
      k.leaves s (with_owner s o (launched s o x)) o (launched s o x) (snap_starts t).outs i (begins_snapshot keys t l e refl) (quiet refl refl refl) y (kept_changed s o (launched s o x) refl) h
  w_launches_call s o (op.Txn reads guard writes) i l e d y h =
      let t = opening_txn (home_of c) o reads guard writes (least_for s o (service_of (op.Txn reads guard writes))) (body_of c (owner_at s o).stage).earliest_end in
      let x = session.Transaction (txn_starts t).after in
      k.leaves s (with_owner s o (launched s o x)) o (launched s o x) (txn_starts t).outs i (begins_txn reads guard writes t l e refl) (quiet refl refl refl) y (kept_changed s o (launched s o x) refl) h

  w_fixes_own : (s : State) (o : ℕ) (x : Op) (dep : Dep) (deps : List Dep) → o < length s.owners → (owner_at s o).works.left ≡ [] → (owner_at s o).kind ≡ kind.Calling x → (owner_at s o).works.copy.deps ≡ dep ∷ deps → k.E s o → R s o → P (fixes c s o (service_of x))
  w_fixes_own s o x dep deps i l e d y h =
      let r = fix_session c s o (service_of x) in
      k.leaves s (turns_session s o (session.Fixing r)) o (turned s o (session.Fixing r)) (awaited (round_requests r)) i (fixes_own x dep deps l e d) (quiet refl refl refl) y (kept_changed s o (turned s o (session.Fixing r)) refl) h

  w_starts_call : (s : State) (o : ℕ) (x : Op) → o < length s.owners → (owner_at s o).works.left ≡ [] → (owner_at s o).kind ≡ kind.Calling x → k.E s o → R s o → P (starts_call c s o at x)
  w_starts_call s o (op.Snap keys) i l e y h = w_launches_call s o (op.Snap keys) i l e tt y h
  w_starts_call s o (op.Txn reads guard writes) i l e y h = w_launches_call s o (op.Txn reads guard writes) i l e tt y h
  w_starts_call s o (op.Read key) i l e y h = by_deps (owner_at s o).works.copy.deps refl
    where
      by_deps : (deps : List Dep) → (owner_at s o).works.copy.deps ≡ deps → P (starts_at_register c s o at (op.Read key) deps)
      by_deps [] d = w_launches_call s o (op.Read key) i l e d y h
      by_deps (dep ∷ deps) d = w_fixes_own s o (op.Read key) dep deps i l e d y h
  w_starts_call s o (op.Write key value) i l e y h = by_deps (owner_at s o).works.copy.deps refl
    where
      by_deps : (deps : List Dep) → (owner_at s o).works.copy.deps ≡ deps → P (starts_at_register c s o at (op.Write key value) deps)
      by_deps [] d = w_launches_call s o (op.Write key value) i l e d y h
      by_deps (dep ∷ deps) d = w_fixes_own s o (op.Write key value) dep deps i l e d y h

  w_calls : (s : State) (o : ℕ) (x : Op) → o < length s.owners → (owner_at s o).works.left ≡ [] → (owner_at s o).kind ≡ kind.Calling x → R s o → P (starts_call c (entered_first s o x at) o at x)
  w_calls s o x i l e h = by_enter (owner_at s o).works.enter refl
    where
      w : Owner
      w = record (owner_at s o) {
        works = record (owner_at s o).works { copy = entered (owner_at s o).works.copy (service_of x) at.latest; enter = false };
        dates = record (owner_at s o).dates { entered = s.steps };
      }

      by_enter : (b : Bool) → (owner_at s o).works.enter ≡ b → P (starts_call c (if b then enters s o (service_of x) at.latest else s) o at x)
      by_enter true f =
          let t = with_owner s o w in
          let left = ap (λ (v : Owner). v.works.left) (at_own s o w i) ∙ l in
          let calls = ap (λ (v : Owner). v.kind) (at_own s o w i) ∙ e in
          let h' = k.works s t o w i (enters_own x l e f) (quiet refl refl refl) (own_changed s o w s.planned (λ G a. copy_holds G s o a)) h in
          w_starts_call t o x (there_own s o w i) left calls (k.ready t o x left calls (ap (λ (v : Owner). v.works.enter) (at_own s o w i)) h') h'
      by_enter false f = w_starts_call s o x i l e (k.ready s o x l e f h) h

  w_works_over : (s : State) (o : ℕ) (x : OwnerKind) → o < length s.owners → (owner_at s o).works.left ≡ [] → (owner_at s o).kind ≡ x → R s o → P (works_over c s o at x)
  w_works_over s o (kind.Calling x) i l e h = w_calls s o x i l e h
  w_works_over s o kind.Fencing i l e h = k.leaves s _ o (closed s o Ended) [] i (fence_done l e) refl tt (ends_changed [] s o _ (closed s o Ended) _ s.history refl (λ G n a. fenced_stage G a)) h
    where
      stage : ℕ
      stage = (owner_at s o).stage

      fenced_stage : (G : Dep → Type 0) → AllDeps G s → All G (fenced_context (stage_at s stage).context (owner_at s o).works.copy).deps
      fenced_stage G a = by_last (length (stage_at s stage).context.last.services == 0) (stage_at s stage).context.last.outside
        where
          by_last : (b d : Bool) → All G (if b then (if d then fenced_outside (owner_at s o).works.copy else (stage_at s stage).context) else fenced_outside (owner_at s o).works.copy).deps
          by_last true true = All-nil G
          by_last true false = stage_holds G s stage a
          by_last false d = All-nil G
  w_works_over s o (kind.Stubbing u) i l e h = w_ends_stub s o u i l e h

  -- behind a fence, the others of the works are left
  left_rest : (s : State) (o : ℕ) (id : ServiceId) (x : FenceWork) (rest : List (ServiceId × FenceWork)) → o < length s.owners → (owner_at s o).works.left ≡ (id, x) ∷ rest → (owner_at (fence_ends s o id) o).works.left ≡ rest
  left_rest s o id x rest i l = ap (λ (v : Owner). v.works.left) (at_own s o (fence_ended s o id) i) ∙ ap (λ (works : List (ServiceId × FenceWork)). drop 1 works) l

  fence_changed : (s : State) (o : ℕ) (id : ServiceId) → Changed [] (set s.owners o (fence_ended s o id)) s (fence_ends s o id)
  fence_changed s o id = own_changed s o (fence_ended s o id) s.planned (λ G a. fenced_hold G id (owner_at s o).works.copy.deps (copy_holds G s o a))

  pub w_goes_through : (s : State) (o : ℕ) (works : List (ServiceId × FenceWork)) → o < length s.owners → (owner_at s o).works.left ≡ works → R s o → P (goes_through c s o at works)
  w_goes_through s o [] i l h = w_works_over s o (owner_at s o).kind i l refl h
  w_goes_through s o ((id, Nothing) ∷ works) i l h =
      w_goes_through (fence_ends s o id) o works (there_own s o (fence_ended s o id) i) (left_rest s o id Nothing works i l)
      (k.works s (fence_ends s o id) o (fence_ended s o id) i (owes_nothing id works l) (quiet refl refl refl) (fence_changed s o id) h)
  w_goes_through s o ((id, Past time) ∷ works) i l h =
      cond_both (nat_lt time at.earliest) _ _ P
      (λ t. w_goes_through (fence_ends s o id) o works (there_own s o (fence_ended s o id) i) (left_rest s o id (Past time) works i l)
      (k.works s (fence_ends s o id) o (fence_ended s o id) i (is_past id time works l t) (quiet refl refl refl) (fence_changed s o id) h))
      (λ f. k.leaves s (waits_for s o time) o (record (owner_at s o) { works = record (owner_at s o).works { wait = Some time } }) [] i (waits id time works l) (quiet refl refl refl) tt (kept_changed s o _ refl) h)
  w_goes_through s o ((id, Fix) ∷ works) i l h = w_fixes_work s o id works i l h

  -- the time that an owner waits for has passed
  pub w_waited : (s : State) (o time : ℕ) (works : List (ServiceId × FenceWork)) → A (owner_at s o).fate → (owner_at s o).works.wait ≡ Some time → nat_lt time at.earliest ≡ true → (owner_at s o).works.left ≡ works → P s → P (ends_work c s o at works)
  w_waited s o time [] a e b l h = h
  w_waited s o time ((id, x) ∷ works) a e b l h =
      let i = waiting_there s o time e in
      w_goes_through (fence_ends s o id) o works (there_own s o (fence_ended s o id) i) (left_rest s o id x works i l)
      (k.rests s (fence_ends s o id) o (fence_ended s o id) i a (past id x works time l e) b (quiet refl refl refl) (fence_changed s o id) h)

  w_cleared : (s : State) (o : ℕ) (r : RegSession) (e : RegEnd) → A (owner_at s o).fate → session_at s o ≡ session.Fixing r → phase_end r.phase ≡ Some e → (owner_at s o).currents ≡ no_currents → (owner_at s o).works.left ≡ [] → (x : OwnerKind) → (owner_at s o).kind ≡ x → P s → P (launches_cleared c (clears s o) o at x)
  w_cleared s o r e g a b d l x f h = by_kind x f
    where
      i : o < length s.owners
      i = fixing_there s o r a

      w : Owner
      w = record (owner_at s o) { works = record (owner_at s o).works { copy = deps_cleared (owner_at s o).works.copy }; session = session.Idle }

      rested : R (with_owner s o w) o
      rested = k.rests s (with_owner s o w) o w i g (cleared r e l a b d) tt (quiet refl refl refl) (own_changed s o w s.planned (λ G n. All-nil G)) h

      by_kind : (x : OwnerKind) → (owner_at s o).kind ≡ x → P (launches_cleared c (clears s o) o at x)
      by_kind (kind.Calling y) f =
          w_launches_call (with_owner s o w) o y (there_own s o w i)
          (ap (λ (v : Owner). v.works.left) (at_own s o w i) ∙ l)
          (ap (λ (v : Owner). v.kind) (at_own s o w i) ∙ f)
          (ready (with_owner s o w) o y (ap (λ (v : Owner). v.works.copy.deps) (at_own s o w i)))
          (k.clears s (with_owner s o w) o y r e i g f l a b d (quiet refl refl refl) refl h rested)
          rested
      by_kind kind.Fencing f = k.settled (with_owner s o w) o rested
      by_kind (kind.Stubbing u) f = k.settled (with_owner s o w) o rested

  pub w_fix_ends : (s : State) (o : ℕ) (r : RegSession) (e : RegEnd) → A (owner_at s o).fate → session_at s o ≡ session.Fixing r → phase_end r.phase ≡ Some e → (owner_at s o).currents ≡ no_currents → (works : List (ServiceId × FenceWork)) → (owner_at s o).works.left ≡ works → P s → P (fix_ends c s o at works)
  w_fix_ends s o r e g a b d [] l h = w_cleared s o r e g a b d l (owner_at s o).kind refl h
  w_fix_ends s o r e g a b d ((id, x) ∷ works) l h =
      let i = fixing_there s o r a in
      w_goes_through (fence_ends s o id) o works (there_own s o (fence_ended s o id) i) (left_rest s o id x works i l)
      (k.rests s (fence_ends s o id) o (fence_ended s o id) i g (fixed id x works r e l a b d) tt (quiet refl refl refl) (fence_changed s o id) h)
