-- The walk over what owners do, its second part: calls end, and stages make statements.
use Rattle.std.proofs.Common.{◌≡◌, ℕ, ◌<◌, Bool, true, List, [], ◌∷◌, ◌++◌, length, Option, Some, None, refl, ap, subst, arith}
use Rattle.std.proofs.Math.ListN.{set}
use Rattle.truetime.specs.Reading.{Reading}
use Rattle.rss_names.specs.declared.service.Key.{Key}
use Rattle.pipeline_lang.specs.declared.config.Config.{Config}
use Rattle.pipeline_lang.specs.declared.script.Statement.{Statement}
use Rattle.pipeline_lang.specs.declared.script.Statement.TheVariants as statement
use Rattle.rss_model.specs.CallStatement.{op_of_statement}
use Rattle.rss_model.specs.declared.op.Op.{Op}
use Rattle.world_laws.proofs.Looks.{looks}
use Rattle.rss_tables.specs.declared.endings.StubEnd.TheVariants.{Fenced, Unfenced}
use Rattle.rss_tables.specs.declared.register_session.RegEnd.{RegEnd}
use Rattle.rss_tables.specs.declared.register_session.RegEnd.TheVariants as ends
use Rattle.rss_tables.specs.declared.register_session.RegWork.{RegWork}
use Rattle.rss_tables.specs.declared.register_session.RegWork.TheVariants as work
use Rattle.rss_tables.specs.Lines.{Line}
use Rattle.rss_tables.specs.Pipes.{Chunk, EndMark, no_mark, fenced_mark, bare_mark}
use Rattle.rss_tables.specs.RegisterSession.{RegSession}
use Rattle.rss_tables.specs.SnapshotSession.{SnapSession}
use Rattle.rss_tables.specs.TransactionSession.{TxnSession, waiting_time}
use Rattle.rss_machine.specs.Calls.{register_ends}
use Rattle.rss_machine.specs.Effect.{begins_call, takes_end, takes, waits_over, makes, txn_line_wakes, snap_line_wakes, txn_acts, session_acts, owner_acts, acts, waking_line}
use Rattle.std.specs.Prelude.{⊤}
use Rattle.rss_machine.specs.Enabling.{next_statement, is_enabled_at, txn_enabling, session_enabling, owner_enabling}
use Rattle.world_laws.proofs.TurnMoves.{WalkMoves, txn_wakes_one, snap_wakes_one, txn_passes_time}
use Rattle.rss_machine.specs.Moves.{opens_call, opens_fence, closes}
use Rattle.rss_machine.specs.Standing.{is_live, stage_state}
use Rattle.rss_machine.specs.State.{State, Owner, stage_at, owner_at, pipe_at}
use Rattle.rss_machine.specs.declared.ending.StageState.{StageState}
use Rattle.rss_machine.specs.declared.ending.StageState.TheVariants as standing
use Rattle.rss_machine.specs.declared.session.OwnerKind.TheVariants as kind
use Rattle.rss_machine.specs.declared.session.Session.TheVariants as session
use Rattle.rss_machine.specs.Session.{Session, service_of}
use Rattle.std.proofs.Common.{◌-◌, All}
use Rattle.rss_machine.specs.declared.state.OwnerFate.{OwnerFate}
use Rattle.rss_machine.specs.Standing.{exit_context}
use Rattle.std.proofs.lemmas.List.Elements.{All-nil, All-set, All-head}
use Rattle.causal_context.specs.Deps.{given_dep}
use Rattle.rss_model.specs.Cursor.{Cursor}
use Rattle.rss_model.specs.declared.history.Token.TheVariants as token
use Rattle.rss_tables.specs.Works.{planned, plan_for, plan_all}
use Rattle.rss_tables.specs.declared.register_session.RegPhase.TheVariants as phase
use Rattle.rss_machine.specs.Calls.{goes_on_with_works}
use Rattle.rss_machine.specs.Moves.{closed, spawns, receives, puts}
use Rattle.rss_machine.specs.State.{opening_owner}
use Rattle.rss_machine.specs.declared.state.OwnerFate.TheVariants.{Ended}
use Rattle.world_laws.specs.Contexts.{StageHolds, ChunkHolds, PipeHolds, mark_deps}
use Rattle.world_laws.proofs.Contexts.{joined_hold, stage_holds, stages_hold, pipe_holds, exit_holds, put_pipe, taken_pipe}
use Rattle.world_laws.proofs.Doings.{calls, fences}
use Rattle.world_laws.proofs.SessionMoves.{session_at}
use Rattle.world_laws.proofs.StageMoves.{goes_to, gets, spawns_one, takes_one, puts_one, Lying, exited, stubbed, marked, own, Making, can_end}
use Rattle.world_laws.proofs.OwnerMoves.{same_stores, stage_kept, ends_changed, begins_changed}
use Rattle.world_laws.proofs.OwnerWorks.{stage, moves, w_closes, w_exits, w_goes_through, w_waited}

-- what a stage has under way can go on in a step with this reading
abbrev pub IsActive : Reading → State → Option ℕ → Type 0
IsActive at s None = ⊤
IsActive at s (Some o) = is_enabled_at (owner_enabling s (owner_at s o).works.wait (owner_at s o).session) at.earliest ≡ true

module _ (c : Config) (at : Reading) (A : OwnerFate → Type 0) (F P : State → Type 0) (R D : State → ℕ → Type 0) (k : WalkMoves c at A F P R D) where
  -- calls end
  pub w_register_ends : (s : State) (o : ℕ) (f : RegSession) (e : RegEnd) → A (owner_at s o).fate → session_at s o ≡ session.Register f → (w : RegWork) → f.work ≡ w → f.phase ≡ phase.Done e → D s o → P (register_ends c s o w e)
  w_register_ends s o f (ends.Read cell dep) g x (work.Read key) a b h = k.reads s _ o f key cell dep g x a b refl (ends_changed (given_dep dep) s o _ (closed s o Ended) _ _ refl (λ G n d. n)) h
  w_register_ends s o f (ends.Written stamp) g x (work.Write key value) a b h = k.writes s _ o f key value stamp g x a b refl (ends_changed [] s o _ (closed s o Ended) _ _ refl (λ G n d. All-nil G)) h
  w_register_ends s o f (ends.Written stamp) g x (work.Read key) a b h = k.unfit s o f (ends.Written stamp) x b (ap (λ (w : RegWork). can_end w (ends.Written stamp)) a) h
  w_register_ends s o f ends.Fixed g x (work.Read key) a b h = k.unfit s o f ends.Fixed x b (ap (λ (w : RegWork). can_end w ends.Fixed) a) h
  w_register_ends s o f (ends.Read cell dep) g x (work.Write key value) a b h = k.unfit s o f (ends.Read cell dep) x b (ap (λ (w : RegWork). can_end w (ends.Read cell dep)) a) h
  w_register_ends s o f ends.Fixed g x (work.Write key value) a b h = k.unfit s o f ends.Fixed x b (ap (λ (w : RegWork). can_end w ends.Fixed) a) h
  w_register_ends s o f (ends.Read cell dep) g x (work.Fix deps) a b h = k.unfit s o f (ends.Read cell dep) x b (ap (λ (w : RegWork). can_end w (ends.Read cell dep)) a) h
  w_register_ends s o f (ends.Written stamp) g x (work.Fix deps) a b h = k.unfit s o f (ends.Written stamp) x b (ap (λ (w : RegWork). can_end w (ends.Written stamp)) a) h
  w_register_ends s o f ends.Fixed g x (work.Fix deps) a b h = k.unfit s o f ends.Fixed x b (ap (λ (w : RegWork). can_end w ends.Fixed) a) h

  -- statements
  grown_there : (s : State) (w : Owner) → length s.owners < length (s.owners ++ w ∷ [])
  grown_there s w = grind (arith, looks)

  w_begins_call : (s : State) (n : ℕ) (x : Option Op) → Making s n → F s → op_of_statement (next_statement c s n) (stage_at s n).cursor.variables ≡ x → P s → P (begins_call c s n at x)
  w_begins_call s n None m f e h = h
  w_begins_call s n (Some x) m f e h =
      let t = opens_call s n x in
      let w = opening_owner n (kind.Calling x) true (planned (stage_at s n).context (plan_for (stage_at s n).context (service_of x))) s.steps in
      w_goes_through c at A F P R D k t (length s.owners) (owner_at t (length s.owners)).works.left (grown_there s w) refl
      (k.begins s t w (calls n x e) (m, refl) f (begins_changed s (n - 1) n w _ _ _ refl refl) h)

  w_takes_end : (s : State) (n v p : ℕ) (mark : EndMark) → Making s n → next_statement c s n ≡ statement.Take v p → (pipe_at s p).mark ≡ mark → P s → P (takes_end s n v p mark)
  w_takes_end s n v p no_mark m x e h = h
  w_takes_end s n v p (fenced_mark number seen) m x e h =
      stage c at A F P R D k s _ _ (gets n _ seen _ m (marked v p number seen x e)) (λ G a. All-set (StageHolds G) s.stages (n - 1) _ (joined_hold G (stage_at s n).context.deps seen.deps (stage_holds G s n a) (subst (λ (m : EndMark). All G (mark_deps m)) e (pipe_holds G s p a).mark)) a.stages) h
  w_takes_end s n v p bare_mark m x e h = moves c at A F P R D k s n _ s.history (goes_to n _) refl h

  w_takes : (s : State) (n v p : ℕ) (chunks : List Chunk) → Making s n → next_statement c s n ≡ statement.Take v p → (pipe_at s p).chunks ≡ chunks → P s → P (takes s n v p chunks)
  w_takes s n v p [] m x e h = w_takes_end s n v p (pipe_at s p).mark m x refl h
  w_takes s n v p (chunk ∷ chunks) m x e h =
      k.stages s _ (takes_one n v p chunk chunks _ m x e) (record {
        stores = same_stores;
        owned = refl;
        deps = λ G b a. record {
          stages = All-set (StageHolds G) s.stages (n - 1) _ (joined_hold G (stage_at s n).context.deps chunk.context.deps (stage_holds G s n a) (All-head (ChunkHolds G) chunk chunks (subst (All (ChunkHolds G)) e (pipe_holds G s p a).chunks))) a.stages;
          pipes = All-set (PipeHolds G) s.pipes (p - 1) _ (taken_pipe G (pipe_at s p) (pipe_holds G s p a)) a.pipes;
          copies = a.copies;
        };
      }) h

  w_exit_comes : (s : State) (n child : ℕ) (cursor : Cursor) → Making s n → Lying c s n (token.Exit child) (exit_context s child) → P s → P (receives s n (token.Exit child) (exit_context s child) cursor)
  w_exit_comes s n child cursor m l h =
      stage c at A F P R D k s _ _ (gets n (token.Exit child) (exit_context s child) cursor m l) (λ G a. All-set (StageHolds G) s.stages (n - 1) _ (joined_hold G (stage_at s n).context.deps (exit_context s child).deps (stage_holds G s n a) (exit_holds G s child a)) a.stages) h

  w_waits_over : (s : State) (n child : ℕ) (x : StageState) → Making s n → next_statement c s n ≡ statement.Wait child → stage_state s child ≡ x → P s → P (waits_over s n child x)
  w_waits_over s n child standing.Exited m x e h = w_exit_comes s n child _ m (exited child x e) h
  w_waits_over s n child (standing.Ended how (Some Fenced)) m x e h = w_exit_comes s n child _ m (stubbed child how x e) h
  w_waits_over s n child (standing.Ended how (Some (Unfenced target))) m x e h = moves c at A F P R D k s n _ s.history (goes_to n _) refl h
  w_waits_over s n child (standing.Ended how None) m x e h = h
  w_waits_over s n child standing.Unborn m x e h = h
  w_waits_over s n child standing.Live m x e h = h

  w_spawns : (s : State) (n child : ℕ) (cursor : Cursor) → Making s n → next_statement c s n ≡ statement.Spawn child → P s → P (spawns s n child cursor)
  w_spawns s n child cursor m e h =
      stage c at A F P R D k s _ _ (spawns_one n child cursor m e) (λ G a. All-set (StageHolds G) (set s.stages (n - 1) (record (stage_at s n) { cursor = cursor })) (child - 1) _ (stage_holds G s n a) (stage_kept G s (n - 1) n (record (stage_at s n) { cursor = cursor }) refl a)) h

  w_puts : (s : State) (n p value : ℕ) (dropped : Bool) (cursor : Cursor) → Making s n → P s → P (puts s n p value dropped cursor)
  w_puts s n p value dropped cursor m h =
      k.stages s _ (puts_one n p value dropped cursor m) (record {
        stores = same_stores;
        owned = refl;
        deps = λ G b a. record {
          stages = stage_kept G s (n - 1) n (record (stage_at s n) { cursor = cursor }) refl a;
          pipes = All-set (PipeHolds G) s.pipes (p - 1) _ (put_pipe G (pipe_at s p) value (stage_at s n).context dropped (stage_holds G s n a) (pipe_holds G s p a)) a.pipes;
          copies = a.copies;
        };
      }) h

  w_opens_fence : (s : State) (n : ℕ) → Making s n → next_statement c s n ≡ statement.Fence → F s → P s → P (goes_on_with_works c (opens_fence s n) (length s.owners) at)
  w_opens_fence s n m e f h =
      let t = opens_fence s n in
      let w = opening_owner n kind.Fencing true (planned (stage_at s n).context (plan_all (stage_at s n).context)) s.steps in
      w_goes_through c at A F P R D k t (length s.owners) (owner_at t (length s.owners)).works.left (grown_there s w) refl
      (k.begins s t w (fences n) ((m, e), refl) f (begins_changed s (n - 1) n w _ _ s.history refl refl) h)

  w_makes : (s : State) (n : ℕ) (x : Statement ℕ Key ℕ ℕ) → Making s n → F s → next_statement c s n ≡ x → P s → P (makes c s n at x)
  w_makes s n (statement.Let variable value) m f e h = moves c at A F P R D k s n _ s.history (goes_to n _) refl h
  w_makes s n (statement.Repeat times) m f e h = moves c at A F P R D k s n _ s.history (goes_to n _) refl h
  w_makes s n (statement.When test) m f e h = moves c at A F P R D k s n _ s.history (goes_to n _) refl h
  w_makes s n statement.End m f e h = moves c at A F P R D k s n _ s.history (goes_to n _) refl h
  w_makes s n (statement.Read variable key) m f e h = w_begins_call s n (op_of_statement (statement.Read variable key) (stage_at s n).cursor.variables) m f (ap (λ (y : Statement ℕ Key ℕ ℕ). op_of_statement y (stage_at s n).cursor.variables) e) h
  w_makes s n (statement.Write key value) m f e h = w_begins_call s n (op_of_statement (statement.Write key value) (stage_at s n).cursor.variables) m f (ap (λ (y : Statement ℕ Key ℕ ℕ). op_of_statement y (stage_at s n).cursor.variables) e) h
  w_makes s n (statement.Snap pairs) m f e h = w_begins_call s n (op_of_statement (statement.Snap pairs) (stage_at s n).cursor.variables) m f (ap (λ (y : Statement ℕ Key ℕ ℕ). op_of_statement y (stage_at s n).cursor.variables) e) h
  w_makes s n (statement.Txn reads guard writes) m f e h = w_begins_call s n (op_of_statement (statement.Txn reads guard writes) (stage_at s n).cursor.variables) m f (ap (λ (y : Statement ℕ Key ℕ ℕ). op_of_statement y (stage_at s n).cursor.variables) e) h
  w_makes s n statement.Fence m f e h = w_opens_fence s n m e f h
  w_makes s n (statement.Spawn child) m f e h = w_spawns s n child _ m e h
  w_makes s n (statement.Wait child) m f e h = w_waits_over s n child (stage_state s child) m e refl h
  w_makes s n (statement.Put p value) m f e h = w_puts s n p _ _ _ m h
  w_makes s n (statement.Take variable p) m f e h = w_takes s n variable p (pipe_at s p).chunks m e refl h
  w_makes s n (statement.Close p) m f e h = moves c at A F P R D k (closes s n (stage_at s n).context p) n _ _ (goes_to n _) refl (w_closes c at A F P R D k s n (stage_at s n).context p (own refl) (λ G a. stages_hold G s n a) h)
  w_makes s n statement.Exit m f e h = w_exits c at A F P R D k s n m h

  -- acts of owners
  w_txn_line_wakes : (s : State) (o : ℕ) (t : TxnSession) (l : Option Line) → A (owner_at s o).fate → session_at s o ≡ session.Transaction t → waiting_time t t.phase ≡ None → waking_line s t.lines ≡ l → P s → P (txn_line_wakes c s o t l)
  w_txn_line_wakes s o t None g x a b h = h
  w_txn_line_wakes s o t (Some l) g x a b h = k.turns s _ o g (txn_wakes_one t l x a b) h

  w_snap_line_wakes : (s : State) (o : ℕ) (t : SnapSession) (l : Option Line) → A (owner_at s o).fate → session_at s o ≡ session.Snapshot t → waking_line s t.lines ≡ l → P s → P (snap_line_wakes c s o t l)
  w_snap_line_wakes s o t None g x b h = h
  w_snap_line_wakes s o t (Some l) g x b h = k.turns s _ o g (snap_wakes_one t l x b) h

  w_txn_acts : (s : State) (o : ℕ) (t : TxnSession) (time : Option ℕ) → A (owner_at s o).fate → session_at s o ≡ session.Transaction t → waiting_time t t.phase ≡ time → is_enabled_at (txn_enabling s time t.lines) at.earliest ≡ true → P s → P (txn_acts c s o t time)
  w_txn_acts s o t (Some time) g x a b h = k.turns s _ o g (txn_passes_time t time x a b) h
  w_txn_acts s o t None g x a b h = w_txn_line_wakes s o t (waking_line s t.lines) g x a refl h

  w_session_acts : (s : State) (o : ℕ) (x : Session) → A (owner_at s o).fate → session_at s o ≡ x → is_enabled_at (session_enabling s x) at.earliest ≡ true → P s → P (session_acts c s o x)
  w_session_acts s o (session.Transaction t) g e b h = w_txn_acts s o t (waiting_time t t.phase) g e refl b h
  w_session_acts s o (session.Snapshot t) g e b h = w_snap_line_wakes s o t (waking_line s t.lines) g e refl h
  w_session_acts s o session.Idle g e b h = h
  w_session_acts s o (session.Fixing r) g e b h = h
  w_session_acts s o (session.Register r) g e b h = h
  w_session_acts s o (session.Settling attempt shards) g e b h = h

  w_owner_acts : (s : State) (o : ℕ) (wait : Option ℕ) → A (owner_at s o).fate → (owner_at s o).works.wait ≡ wait → is_enabled_at (owner_enabling s wait (owner_at s o).session) at.earliest ≡ true → P s → P (owner_acts c s o at wait)
  w_owner_acts s o (Some time) g e b h = w_waited c at A F P R D k s o time (owner_at s o).works.left g e b refl h
  w_owner_acts s o None g e b h = w_session_acts s o (owner_at s o).session g refl b h

  pub w_acts : (s : State) (n : ℕ) (o : Option ℕ) → (stage_at s n).owner ≡ o → is_live (stage_at s n).life ≡ true → IsActive at s o → F s → P s → P (acts c s n at o)
  w_acts s n None e l b f h = w_makes s n (next_statement c s n) (record { nobody = e; live = l }) f refl h
  w_acts s n (Some o) e l b f h = w_owner_acts s o (owner_at s o).works.wait (k.acting s n o e h) refl b h
