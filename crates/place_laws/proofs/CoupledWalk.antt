-- The walk keeps what contexts tell, on top of what is known of calls and of rounds.
use Rattle.std.proofs.Common.{◌≡◌, ℕ, ◌-◌, ◌<◌, inl, inr, Bool, true, List, [], ◌∷◌, ◌++◌, length, get_or, Option, Some, None, refl, sym, ap, ◌∙◌, subst, arith}
use Rattle.std.specs.Prelude.{not, if◌then◌else◌}
use Rattle.std.proofs.Math.ListN.{set}
use Rattle.truetime.specs.Reading.{Reading}
use Rattle.rss_names.specs.declared.attempt.Attempt.{Attempt}
use Rattle.rss_names.specs.declared.service.Key.{Key}
use Rattle.rss_names.specs.declared.service.ServiceId.{ServiceId}
use Rattle.rss_names.specs.declared.service.Target.TheVariants.{Replica}
use Rattle.carstamps.specs.declared.carstamp.Carstamp.{Carstamp}
use Rattle.carstamps.specs.Stamp.{stamp_le}
use Rattle.causal_context.specs.declared.dep.Dep.{Dep}
use Rattle.causal_context.specs.Deps.{given_dep}
use Rattle.causal_context.specs.Seen.{after_read, after_write}
use Rattle.pipeline_lang.specs.declared.config.Config.{Config}
use Rattle.rss_model.specs.declared.op.Op.{Op}
use Rattle.rss_model.specs.declared.op.Op.TheVariants as op
use Rattle.rss_wire.specs.declared.message.Fate.{Fate}
use Rattle.rss_wire.specs.declared.messages.Outcome.{Outcome}
use Rattle.rss_wire.specs.declared.messages.RegReply.{RegReply}
use Rattle.rss_wire.specs.declared.messages.Reply.{Reply}
use Rattle.rss_wire.specs.declared.messages.Request.{Request}
use Rattle.rss_wire.specs.Messages.{message_at}
use Rattle.rss_tables.specs.Lines.{tells_decision}
use Rattle.rss_tables.specs.Outs.{Out}
use Rattle.rss_tables.specs.RegisterSession.{RegSession}
use Rattle.rss_tables.specs.ReplicaRow.{replica_after}
use Rattle.rss_tables.specs.Works.{others_than}
use Rattle.rss_tables.specs.declared.register_session.RegEnd.TheVariants as ends
use Rattle.rss_tables.specs.declared.register_session.RegPhase.TheVariants as phase
use Rattle.rss_tables.specs.declared.register_session.RegWork.{RegWork}
use Rattle.rss_tables.specs.declared.register_session.RegWork.TheVariants as work
use Rattle.rss_machine.specs.Calls.{replies}
use Rattle.rss_machine.specs.Moves.{ticks, marks_message, sends, serves_shard, serves_replica, notes_served, plans_stub, listens, closed}
use Rattle.rss_machine.specs.Session.{Session, service_of}
use Rattle.rss_machine.specs.Standing.{is_running}
use Rattle.rss_machine.specs.State.{State, Owner, Stage, no_stage, no_owner, owner_at, cells_at, service_index}
use Rattle.rss_machine.specs.declared.session.OwnerKind.TheVariants as kind
use Rattle.rss_machine.specs.declared.session.Session.TheVariants as session
use Rattle.rss_machine.specs.declared.state.OwnerFate.{OwnerFate}
use Rattle.rss_machine.specs.declared.state.OwnerFate.TheVariants.{Ended}
use Rattle.world_laws.proofs.Doings.{Changed, Beginning, calls, fences, Resting, plans, past, fixed, cleared, Working, owes_nothing, is_past, enters_own, Leaving, waits, fixes_work, fixes_own, asks_register, stamps_register, begins_snapshot, begins_txn, fence_done, stub_done, Doing, listens_one, fix_hears, fix_reached, register_hears, register_stores, register_reached, read_ends, write_ends, txn_ends, snap_ends, counts_one, cuts_one, is_closed, forgets_all, turns, stub_asks, listened}
use Rattle.world_laws.proofs.Looks.{looks, none_is_not}
use Rattle.world_laws.proofs.Later.{later_keeps, later_same, le_same}
use Rattle.world_laws.proofs.OwnerMoves.{at_own, sends_kept}
use Rattle.world_laws.proofs.SessionMoves.{session_at}
use Rattle.world_laws.proofs.StageMoves.{AllMoves, Quiet, BeginNotes, LeavingNotes, DoingNotes, ended_to}
use Rattle.world_laws.proofs.StoreMoves.{Serves}
use Rattle.reg_laws.specs.Agree.{WorkAgrees, CallAgrees, Agrees}
use Rattle.reg_laws.specs.Files.{IsInOrder}
use Rattle.reg_laws.proofs.Awaiting.{set_each}
use Rattle.reg_laws.proofs.Rounds.{round_held}
use Rattle.reg_laws.proofs.RoundsHeld.{Upward, held_up, PhaseHeld}
use Rattle.reg_laws.proofs.Shapes.{row_long}
use Rattle.place_laws.specs.Alone.{KeepsToServices}
use Rattle.place_laws.proofs.Coupling.{place_of, HasDep, IsLeft, OwnerStep, changes, no_call, each_coupled, same_change, turn_change, itself}
use Rattle.place_laws.proofs.CoupledMoves.{Tells, service_at, stages_coupled, dies_coupled, begins_coupled, ends_coupled}
use Rattle.place_laws.proofs.CoupledOwners.{Knows, quiet_coupled, set_coupled, sends_coupled, same_step, calling_not_stub, fencing_not_stub, resting_step, working_step, leaving_step, doing_step}
use Rattle.place_laws.proofs.Placed.{IsRegisterOp, reads_one, writes_one, ToShards, not_to_shards}

-- what is one where sessions, works and phases are
abbrev register_of : RegSession → Session
register_of g = session.Register g

register_is : (g e : RegSession) → register_of g ≡ register_of e → g ≡ e
register_is g e y = grind (arith, y)

read_is : (g e : Key) → work.Read g ≡ work.Read e → g ≡ e
read_is g e y = grind (arith, y)

read_not_write : (g e : Key) (value : ℕ) → work.Read g ≡ work.Write e value → ⊥
read_not_write g e value y = cc

record SameEnd (x y : RegReply) (d e : Option Dep) : Type 0 where
  cells : x ≡ y
  deps : d ≡ e

end_is : (x y : RegReply) (d e : Option Dep) → phase.Done (ends.Read x d) ≡ phase.Done (ends.Read y e) → SameEnd x y d e
end_is x y d e f = record { cells = grind (arith, f); deps = grind (arith, f) }

service_is : (x : ServiceId) (y : Op) → IsRegisterOp x y → service_of y ≡ x
service_is x _ (reads_one key e) = e
service_is x _ (writes_one key value e) = e

alone_last : (x y : ServiceId) → y ≡ x → others_than x (y ∷ []) ≡ []
alone_last x y e = subst (λ (z : ServiceId). others_than x (z ∷ []) ≡ []) (sym e) (ap (λ (b : Bool). if not b then x ∷ [] else []) (itself x))

module _ (c : Config) (n : IsInOrder c) (q : KeepsToServices c) (Was : Key → Carstamp → ℕ → Type 0) where
  -- an owner that runs, in a state in which contexts tell this
  pub record Running (s : State) (o : ℕ) : Type 0 where
    pub tells : Tells c n q Was s
    pub runs : is_running (owner_at s o).fate ≡ true

  there : (s t : State) (o : ℕ) (w : Owner) → o < length s.owners → t.owners ≡ set s.owners o w → owner_at t o ≡ w
  there s t o w i e = ap (λ (owners : List Owner). get_or owners o no_owner) e ∙ at_own s o w i

  -- messages
  pub fates_tell : (s : State) (m : ℕ) (f : Fate) → Tells c n q Was s → Tells c n q Was (marks_message s m f)
  fates_tell s m f h = quiet_coupled c n (service_at c q) Was s _ refl refl (λ place. refl) h

  pub ticks_tell : (s : State) (at : Reading) → Tells c n q Was s → Tells c n q Was (ticks s at)
  ticks_tell s at h = quiet_coupled c n (service_at c q) Was s _ refl refl (λ place. refl) h

  pub shards_tell : (s : State) (m shard latest : ℕ) (r : Request) → Tells c n q Was s → Tells c n q Was (serves_shard s m shard latest r)
  shards_tell s m shard latest r h = quiet_coupled c n (service_at c q) Was s _ refl refl (λ place. refl) h

  pub replicas_tell : (s : State) (m : ℕ) (service : ServiceId) (replica : ℕ) (r : Request) → Serves s m r (Replica service replica) → Tells c n q Was s → Tells c n q Was (notes_served (serves_replica s m service replica r) (message_at s.net m).envelope.owner service r)
  replicas_tell s m service replica r d h =
      each_coupled (service_at c q) Was s t (λ key z e. held_up s t key.service key z up e) (λ place. refl)
      (set_each (λ i x. OwnerStep (service_at c q) Was s (owner_at s i) x) s.owners o _ (changes (same_change (service_at c q) Was s (owner_at s o) _ refl refl refl refl refl refl refl)) (λ i. same_step c n (service_at c q) Was s (owner_at s i) (owner_at s i) refl)) h
    where
      o : ℕ
      o = (message_at s.net m).envelope.owner

      t : State
      t = notes_served (serves_replica s m service replica r) (message_at s.net m).envelope.owner service r

      up : Upward s t
      up = record { rises = ((later_keeps s).replicas s m service replica r d (later_same s)).stamps; rows = λ i. row_long s.replicas (service_index service) (replica - 1) (replica_after (cells_at s service replica) r) (service_index i) }

  -- owners that change
  sent_runs : (s t : State) (o : ℕ) (w : Owner) (outs : List Out) → Tells c n q Was t → Tells c n q Was (sends t o outs)
  sent_runs s t o w outs h = sends_coupled c n (service_at c q) Was o outs t h

  settles_tell : (s : State) (o slot : ℕ) (attempt : Attempt) (shards : List ℕ) (outcome : Outcome) → o < length s.owners → session_at s o ≡ session.Settling attempt shards → Knows c n Was s → Running s o → Running (plans_stub (sends (listens s o slot) o (tells_decision attempt outcome shards)) o) o
  settles_tell s o slot attempt shards outcome i e k h = record { tells = planned_tells; runs = planned_runs }
    where
      u : State
      u = listens s o slot

      v : State
      v = sends u o (tells_decision attempt outcome shards)

      at_u : Tells c n q Was u
      at_u = set_coupled c n (service_at c q) Was s u o (listened s o slot) refl refl (λ place. refl) (changes (same_change (service_at c q) Was s (owner_at s o) _ refl refl refl refl refl refl refl)) h.tells

      at_v : Tells c n q Was v
      at_v = sends_coupled c n (service_at c q) Was o (tells_decision attempt outcome shards) u at_u

      runs_u : is_running (owner_at u o).fate ≡ true
      runs_u = ap (λ (w : Owner). is_running w.fate) (there s u o (listened s o slot) i refl) ∙ h.runs

      runs_v : is_running (owner_at v o).fate ≡ true
      runs_v = ap (λ (w : Owner). is_running w.fate) (sends_kept u o (tells_decision attempt outcome shards) o) ∙ runs_u

      kind_v : (owner_at v o).kind ≡ kind.Stubbing (Some (attempt, shards))
      kind_v =
          ap (λ (w : Owner). w.kind) (sends_kept u o (tells_decision attempt outcome shards) o)
          ∙ (ap (λ (w : Owner). w.kind) (there s u o (listened s o slot) i refl) ∙ subst (Agrees (owner_at s o)) e (k.agree.each o))

      at_t : is_running (owner_at (plans_stub v o) o).fate ≡ is_running (owner_at v o).fate
      at_t = grind (arith, looks)

      planned_runs : is_running (owner_at (plans_stub v o) o).fate ≡ true
      planned_runs = at_t ∙ runs_v

      planned_tells : Tells c n q Was (plans_stub v o)
      planned_tells = set_coupled c n (service_at c q) Was v (plans_stub v o) o _ refl refl (λ place. refl) (no_call (λ x f. calling_not_stub c n (service_at c q) Was x (Some (attempt, shards)) (owner_at v o).kind f kind_v) (λ f r. fencing_not_stub c n (service_at c q) Was (Some (attempt, shards)) (owner_at v o).kind f kind_v)) at_v

  -- a call ends
  read_new : (s : State) (o : ℕ) (f : RegSession) (key : Key) (cell : RegReply) (dep : Option Dep) → session_at s o ≡ session.Register f → f.work ≡ work.Read key → f.phase ≡ phase.Done (ends.Read cell dep) → Knows c n Was s → (other : Key) (z : Carstamp) → IsLeft (service_at c q) (closed s o Ended) other z → HasDep other z (given_dep dep)
  read_new s o f key cell dep x a b k other z l = by_dep dep b
    where
      same_round : l.round ≡ f
      same_round = register_is l.round f (sym l.under_way ∙ x)

      same_key : other ≡ key
      same_key = read_is other key (sym l.of_work ∙ (ap (λ (r : RegSession). r.work) same_round ∙ a))

      same_end : (d : Option Dep) → f.phase ≡ phase.Done (ends.Read cell d) → SameEnd l.cell cell (Some l.dep) d
      same_end d e = end_is l.cell cell (Some l.dep) d (sym l.in_phase ∙ (ap (λ (r : RegSession). r.phase) same_round ∙ e))

      left_is : (d : Dep) → f.phase ≡ phase.Done (ends.Read cell (Some d)) → d ≡ record { key = key; value = cell.value; stamp = cell.stamp; writer = cell.writer }
      left_is d e = subst (PhaseHeld s f.service f.work) e (round_held s o f (inr x) k.settled.1).ended key a

      by_dep : (d : Option Dep) → f.phase ≡ phase.Done (ends.Read cell d) → HasDep other z (given_dep d)
      by_dep None e = absurd (none_is_not l.dep (sym (same_end None e).deps))
      by_dep (Some d) e =
          let g = left_is d e in
          let y : cell.stamp ≡ z = ap (λ (r : RegReply). r.stamp) (sym (same_end (Some d) e).cells) ∙ l.stamp in
          inl (record { on = ap (λ (r : Dep). r.key) g ∙ sym same_key; above = subst (λ (w : Carstamp). stamp_le z w ≡ true) (sym (ap (λ (r : Dep). r.stamp) g ∙ y)) (le_same z) })

  write_new : (s : State) (o : ℕ) (f : RegSession) (key : Key) (value : ℕ) → session_at s o ≡ session.Register f → f.work ≡ work.Write key value → (other : Key) (z : Carstamp) → IsLeft (service_at c q) (closed s o Ended) other z → HasDep other z []
  write_new s o f key value x a other z l = read_not_write other key value (sym l.of_work ∙ (ap (λ (r : RegSession). r.work) (register_is l.round f (sym l.under_way ∙ x)) ∙ a))

  own_last : (s : State) (o : ℕ) (key : Key) (x : Op) → IsRegisterOp (service_at c q (place_of (owner_at s o))) x → key.service ≡ service_of x → others_than (service_at c q (place_of (owner_at s o))) (key.service ∷ []) ≡ []
  own_last s o key x r e = alone_last (service_at c q (place_of (owner_at s o))) key.service (e ∙ service_is (service_at c q (place_of (owner_at s o))) x r)

  reads_tell : (s t : State) (o : ℕ) (f : RegSession) (key : Key) (cell : RegReply) (dep : Option Dep) → session_at s o ≡ session.Register f → f.work ≡ work.Read key → f.phase ≡ phase.Done (ends.Read cell dep)
      → t ≡ replies c s o (record { key = key; value = cell.value; writer = cell.writer } ∷ []) (after_read (owner_at s o).works.copy key.service dep) → Knows c n Was s → Running s o → Tells c n q Was t
  reads_tell s t o f key cell dep x a b e k h =
      subst (Tells c n q Was) (sym e)
      (ends_coupled c n q Was s o (op.Read key) k h.tells of_kind h.runs agrees.settled _ _ (after_read (owner_at s o).works.copy key.service dep) (own_last s o key (op.Read key) (h.tells.ops o (op.Read key) of_kind) refl) (read_new s o f key cell dep x a b k))
    where
      agrees : CallAgrees (owner_at s o) f
      agrees = subst (Agrees (owner_at s o)) x (k.agree.each o)

      of_kind : (owner_at s o).kind ≡ kind.Calling (op.Read key)
      of_kind = subst (λ (w : RegWork). WorkAgrees w (owner_at s o).kind) a agrees.of_kind

  writes_tell : (s t : State) (o : ℕ) (f : RegSession) (key : Key) (value : ℕ) → session_at s o ≡ session.Register f → f.work ≡ work.Write key value
      → t ≡ replies c s o [] (after_write (owner_at s o).works.copy key.service) → Knows c n Was s → Running s o → Tells c n q Was t
  writes_tell s t o f key value x a e k h =
      subst (Tells c n q Was) (sym e)
      (ends_coupled c n q Was s o (op.Write key value) k h.tells of_kind h.runs agrees.settled _ _ (after_write (owner_at s o).works.copy key.service) (own_last s o key (op.Write key value) (h.tells.ops o (op.Write key value) of_kind) refl) (write_new s o f key value x a))
    where
      agrees : CallAgrees (owner_at s o) f
      agrees = subst (Agrees (owner_at s o)) x (k.agree.each o)

      of_kind : (owner_at s o).kind ≡ kind.Calling (op.Write key value)
      of_kind = subst (λ (w : RegWork). WorkAgrees w (owner_at s o).kind) a agrees.of_kind

  -- on top of what is known
  module _ (at : Reading) (A : OwnerFate → Type 0) (F K : State → Type 0) (KR KD : State → ℕ → Type 0) (k : AllMoves c at A F K KR KD) (runs : (f : OwnerFate) → A f → is_running f ≡ true)
      (knows : (s : State) → K s → Knows c n Was s) (knows_rest : (s : State) (o : ℕ) → KR s o → Knows c n Was s) (knows_done : (s : State) (o : ℕ) → KD s o → Knows c n Was s) where
    set_runs : (s t : State) (o : ℕ) (w : Owner) → o < length s.owners → t.owners ≡ set s.owners o w → is_running w.fate ≡ true → is_running (owner_at t o).fate ≡ true
    set_runs s t o w i e r = ap (λ (v : Owner). is_running v.fate) (there s t o w i e) ∙ r

    set_tells : (new : List Dep) (s t : State) (o : ℕ) (w : Owner) → Quiet s t → Changed new (set s.owners o w) s t → OwnerStep (service_at c q) Was s (owner_at s o) w → Tells c n q Was s → Tells c n q Was t
    set_tells new s t o w g d y h = set_coupled c n (service_at c q) Was s t o w d.stores.replicas d.owned (λ place. ap (λ (stages : List Stage). (get_or stages place no_stage).context) g.stages) y h

    leaves_tell : (s t : State) (o : ℕ) (w : Owner) (outs : List Out) → (b : Leaving c at s o w outs) → LeavingNotes c at s o w outs b t → Changed [] (set s.owners o w) s t → Knows c n Was s → Running s o → Tells c n q Was (sends t o outs)
    leaves_tell s t o w outs b g d l h = sends_coupled c n (service_at c q) Was o outs t (set_tells [] s t o w (leaving_quiet s t o w outs b g l h) d (leaving_step c n (service_at c q) Was s o h.tells at w outs b h.runs l) h.tells)
      where
        leaving_quiet : (s t : State) (o : ℕ) (w : Owner) (outs : List Out) → (b : Leaving c at s o w outs) → LeavingNotes c at s o w outs b t → Knows c n Was s → Running s o → Quiet s t
        leaving_quiet s t o _ _ (waits id time rest l) g m h = g
        leaving_quiet s t o _ _ (fixes_work id rest l) g m h = g
        leaving_quiet s t o _ _ (fixes_own x dep deps l e d) g m h = g
        leaving_quiet s t o _ _ (asks_register key l e d) g m h = g
        leaving_quiet s t o _ _ (stamps_register key value l e d) g m h = g
        leaving_quiet s t o _ _ (begins_snapshot keys x l e d) g m h = g
        leaving_quiet s t o _ _ (begins_txn reads guard writes x l e d) g m h = g
        leaving_quiet s t o _ _ (fence_done l e) g m h = absurd (h.tells.fences o e h.runs)
        leaving_quiet s t o _ _ (stub_done u l e) g m h = g

    does_tell : (s t : State) (o : ℕ) (w : Owner) (outs : List Out) (new : List Dep) → is_running (owner_at s o).fate ≡ true → (b : Doing s o w outs new) → DoingNotes c s o w outs new b t → Changed new (set s.owners o w) s t → Knows c n Was s → Tells c n q Was s → Tells c n q Was (sends t o outs)
    does_tell s t o w outs new r b g d l h = sends_coupled c n (service_at c q) Was o outs t (set_tells new s t o w (doing_quiet s t o w outs new b g l h) d (doing_step c n (service_at c q) Was s o h w outs new t b g r l) h)
      where
        to_shards : (s : State) (o : ℕ) (x : Op) → (owner_at s o).kind ≡ kind.Calling x → Tells c n q Was s → ToShards x → ⊥
        to_shards s o x e h m = not_to_shards (service_at c q (place_of (owner_at s o))) x (h.ops o x e) m

        doing_quiet : (s t : State) (o : ℕ) (w : Owner) (outs : List Out) (new : List Dep) → (b : Doing s o w outs new) → DoingNotes c s o w outs new b t → Knows c n Was s → Tells c n q Was s → Quiet s t
        doing_quiet s t o _ _ _ (listens_one slot r d) g l h = g
        doing_quiet s t o _ _ _ (fix_hears f slot r x d e) g l h = g
        doing_quiet s t o _ _ _ (fix_reached f slot r y x d e) g l h = g
        doing_quiet s t o _ _ _ (register_hears f slot r x d a e) g l h = g
        doing_quiet s t o _ _ _ (register_stores f slot r x d a e) g l h = g
        doing_quiet s t o _ _ _ (register_reached f slot r y x d e) g l h = absurd g
        doing_quiet s t o _ _ _ (read_ends f key cell dep x a b) g l h = absurd g
        doing_quiet s t o _ _ _ (write_ends f key value e x a b) g l h = absurd g
        doing_quiet s t o _ _ _ (txn_ends x y time a b d) g l h = let m = subst (Agrees (owner_at s o)) b (l.agree.each o) in absurd (to_shards s o _ m.of_kind h tt)
        doing_quiet s t o _ _ _ (snap_ends x y time a b d) g l h = let m = subst (Agrees (owner_at s o)) b (l.agree.each o) in absurd (to_shards s o _ m.of_kind h tt)
        doing_quiet s t o _ _ _ (counts_one target) g l h = g
        doing_quiet s t o _ _ _ (cuts_one service replica) g l h = g
        doing_quiet s t o _ _ _ (is_closed f) g l h = g.1
        doing_quiet s t o _ _ _ forgets_all g l h = g
        doing_quiet s t o _ _ _ (turns x outs y) g l h = g
        doing_quiet s t o _ _ _ (stub_asks attempt shards e b) g l h = g

    rests_tell : (s t : State) (o : ℕ) (w : Owner) → o < length s.owners → is_running (owner_at s o).fate ≡ true → Resting s o w → Quiet s t → Changed [] (set s.owners o w) s t → Knows c n Was s → Tells c n q Was s → Running t o
    rests_tell s t o w i r b g d l h = record { tells = set_tells [] s t o w g d (resting_step c n (service_at c q) Was s o h w b r l) h; runs = set_runs s t o w i d.owned (resting_runs s o w b r) }
      where
        resting_runs : (s : State) (o : ℕ) (w : Owner) → Resting s o w → is_running (owner_at s o).fate ≡ true → is_running w.fate ≡ true
        resting_runs s o _ (plans e b) r = r
        resting_runs s o _ (past id x rest time l e) r = r
        resting_runs s o _ (fixed id x rest f e l a b d) r = r
        resting_runs s o _ (cleared f e l a b d) r = r

    works_tell : (s t : State) (o : ℕ) (w : Owner) → o < length s.owners → Working at s o w → Quiet s t → Changed [] (set s.owners o w) s t → Running s o → Running t o
    works_tell s t o w i b g d h = record { tells = set_tells [] s t o w g d (working_step c n (service_at c q) Was s o h.tells at w b h.runs) h.tells; runs = set_runs s t o w i d.owned (working_runs s o w b h.runs) }
      where
        working_runs : (s : State) (o : ℕ) (w : Owner) → Working at s o w → is_running (owner_at s o).fate ≡ true → is_running w.fate ≡ true
        working_runs s o _ (owes_nothing id rest l) r = r
        working_runs s o _ (is_past id time rest l e) r = r
        working_runs s o _ (enters_own x l e f) r = r

    begins_tell : (s t : State) (w : Owner) (b : Beginning c s w) → BeginNotes c s w b t → Changed [] (s.owners ++ w ∷ []) s t → Tells c n q Was s → Running t (length s.owners)
    begins_tell s t w b g d h = record {
      tells = begins_coupled c n q Was s t w b g h;
      runs = ap (λ (v : Owner). is_running v.fate) (ap (λ (owners : List Owner). get_or owners (length s.owners) no_owner) d.owned ∙ at_end s.owners w) ∙ beginning_runs s w b;
    }
      where
        at_end : (xs : List Owner) (w : Owner) → get_or (xs ++ w ∷ []) (length xs) no_owner ≡ w
        at_end xs w = grind (arith, looks)

        beginning_runs : (s : State) (w : Owner) → Beginning c s w → is_running w.fate ≡ true
        beginning_runs s _ (calls m x e) = refl
        beginning_runs s _ (fences m) = refl

    reaches_tell : (s t : State) (o : ℕ) (f : RegSession) (slot : ℕ) (r : Reply) → o < length s.owners → is_running (owner_at s o).fate ≡ true → Quiet s t → Changed [] (set s.owners o (ended_to s o f slot r)) s t → Tells c n q Was s → Running t o
    reaches_tell s t o f slot r i u g d h = record {
      tells = set_tells [] s t o (ended_to s o f slot r) g d (changes (turn_change (service_at c q) Was s (owner_at s o) _ u refl refl refl refl refl refl)) h;
      runs = set_runs s t o (ended_to s o f slot r) i d.owned u;
    }

    pub tells_moves : AllMoves c at A F (λ s. K s × Tells c n q Was s) (λ s o. KR s o × Running s o) (λ s o. KD s o × Running s o)
    tells_moves = record {
      acting = λ s m o e h. k.acting s m o e h.0;
      heard = λ s o slot exchange e h. k.heard s o slot exchange e h.0;
      runs = k.runs;
      counted = k.counted;
      fates = λ s m f h. (k.fates s m f h.0, fates_tell s m f h.1);
      again = λ s o exchange slot target r d h. (k.again s o exchange slot target r d h.0, sends_coupled c n (service_at c q) Was o (record { slot = Some slot; target = target; request = r } ∷ []) s h.1);
      stages = λ s t y d h. (k.stages s t y d h.0, stages_coupled c n q Was s t y h.1);
      dies = λ s m how f y h. (k.dies s m how f y h.0, dies_coupled c n q Was A s m how f y h.1);
      begins = λ s t w b y f d h. (k.begins s t w b y f d h.0, begins_tell s t w b y d h.1);
      rests = λ s t o w i a b g d h. (k.rests s t o w i a b g d h.0, rests_tell s t o w i (runs (owner_at s o).fate a) b g d (knows s h.0) h.1);
      settles = λ s o slot attempt shards outcome i a e d h. (k.settles s o slot attempt shards outcome i a e d h.0, settles_tell s o slot attempt shards outcome i e (knows s h.0) (record { tells = h.1; runs = runs (owner_at s o).fate a }));
      settled = λ s o h. (k.settled s o h.0, h.1.tells);
      works = λ s t o w i b g d h. (k.works s t o w i b g d h.0, works_tell s t o w i b g d h.1);
      leaves = λ s t o w outs i b g d h. (k.leaves s t o w outs i b g d h.0, leaves_tell s t o w outs b g d (knows_rest s o h.0) h.1);
      does = λ s t o w outs new a b g d h. (k.does s t o w outs new a b g d h.0, does_tell s t o w outs new (runs (owner_at s o).fate a) b g d (knows s h.0) h.1);
      reaches = λ s t o f slot r e i a x y z g d h. (k.reaches s t o f slot r e i a x y z g d h.0, reaches_tell s t o f slot r i (runs (owner_at s o).fate a) g d h.1);
      reads = λ s t o f key cell dep a x y z g d h. (k.reads s t o f key cell dep a x y z g d h.0, reads_tell s t o f key cell dep x y z g (knows_done s o h.0) h.1);
      writes = λ s t o f key value stamp a x y z g d h. (k.writes s t o f key value stamp a x y z g d h.0, writes_tell s t o f key value x y g (knows_done s o h.0) h.1);
      unfit = λ s o f e x y z h. (k.unfit s o f e x y z h.0, h.1.tells);
    }
