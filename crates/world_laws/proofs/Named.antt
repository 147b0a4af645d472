-- The registers that are named in a run: those that the scripts name, and no others. They are what
-- operations call, what rounds work on, what dependencies stand for and what replicas are asked about.
use Rattle.std.proofs.Common.{◌≡◌, ℕ, Bool, true, false, List, [], ◌∷◌, All, Some, refl, sym, subst}
use Rattle.std.specs.Prelude.{⊤}
use Rattle.std.proofs.lemmas.Bool.{cond_both}
use Rattle.std.proofs.lemmas.List.Elements.{All-cons, All-nil, All-head, All-map}
use Rattle.truetime.specs.Reading.{Reading}
use Rattle.rss_names.specs.declared.service.Key.{Key}
use Rattle.rss_names.specs.declared.service.ServiceId.{ServiceId}
use Rattle.rss_names.specs.declared.service.Target.{Target}
use Rattle.rss_names.specs.declared.service.Target.TheVariants.{Shard, Replica}
use Rattle.rss_names.specs.Services.{same_service}
use Rattle.causal_context.specs.declared.dep.Dep.{Dep}
use Rattle.causal_context.specs.Deps.{deps_of, given_dep}
use Rattle.pipeline_lang.specs.declared.config.Config.{Config}
use Rattle.rss_model.specs.declared.op.Op.{Op}
use Rattle.rss_model.specs.declared.op.Op.TheVariants as op
use Rattle.rss_wire.specs.declared.messages.RegReply.{RegReply}
use Rattle.rss_wire.specs.declared.messages.Reply.{Reply}
use Rattle.rss_wire.specs.declared.messages.Request.{Request}
use Rattle.rss_wire.specs.declared.messages.Request.TheVariants as request
use Rattle.rss_tables.specs.Outs.{Out}
use Rattle.rss_tables.specs.RegisterSession.{RegSession, phase_request, session_after, reached, reply_cell, read_end, read_dep, found_cell}
use Rattle.rss_tables.specs.Round.{hears, is_reached, greatest_heard, is_agreed}
use Rattle.rss_tables.specs.declared.register_session.RegEnd.{RegEnd}
use Rattle.rss_tables.specs.declared.register_session.RegEnd.TheVariants as ends
use Rattle.rss_tables.specs.declared.register_session.RegPhase.{RegPhase}
use Rattle.rss_tables.specs.declared.register_session.RegPhase.TheVariants as phase
use Rattle.rss_tables.specs.declared.register_session.RegWork.{RegWork}
use Rattle.rss_tables.specs.declared.register_session.RegWork.TheVariants as work
use Rattle.rss_machine.specs.Calls.{session_for}
use Rattle.rss_machine.specs.Moves.{session_without}
use Rattle.rss_machine.specs.Session.{Session}
use Rattle.rss_machine.specs.State.{State, Owner, owner_at, no_owner}
use Rattle.rss_machine.specs.declared.session.OwnerKind.{OwnerKind}
use Rattle.rss_machine.specs.declared.session.OwnerKind.TheVariants as kind
use Rattle.rss_machine.specs.declared.session.Session.TheVariants as session
use Rattle.world_laws.specs.Proper.{registers_of, work_registers}
use Rattle.world_laws.specs.Contexts.{AllDeps}
use Rattle.world_laws.proofs.Contexts.{at_place, of_hold, copy_holds}
use Rattle.world_laws.proofs.Doings.{Resting, plans, past, fixed, cleared, Working, owes_nothing, is_past, enters_own, Leaving, waits, fixes_work, fixes_own, asks_register, stamps_register, begins_snapshot, begins_txn, fence_done, stub_done, ShardTurning, txn_heard, txn_woken, txn_passed, snap_heard, snap_woken, Doing, listens_one, fix_hears, fix_reached, register_hears, register_stores, register_reached, read_ends, write_ends, txn_ends, snap_ends, counts_one, cuts_one, is_closed, forgets_all, turns, stub_asks}
use Rattle.std.proofs.lemmas.Bool.{false≢true}
use Rattle.world_laws.proofs.Looks.{some_is, none_is_not}
use Rattle.world_laws.proofs.Sent.{SessionOut, RoundOut, to_shard, SentAll}
use Rattle.world_laws.proofs.SessionMoves.{session_at}

-- the registers of an operation, of what an owner does, and of what it has under way
abbrev pub op_registers : Op → List Key
op_registers (op.Read key) = key ∷ []
op_registers (op.Write key value) = key ∷ []
op_registers (op.Snap keys) = []
op_registers (op.Txn reads guard writes) = []

abbrev pub kind_registers : OwnerKind → List Key
kind_registers (kind.Calling x) = op_registers x
kind_registers kind.Fencing = []
kind_registers (kind.Stubbing u) = []

abbrev pub end_deps : RegEnd → List Dep
end_deps ends.Fixed = []
end_deps (ends.Read cell dep) = given_dep dep
end_deps (ends.Written stamp) = []

abbrev pub phase_deps : RegPhase → List Dep
phase_deps phase.Fixing = []
phase_deps phase.Asking = []
phase_deps phase.Stamping = []
phase_deps (phase.Storing stamp) = []
phase_deps (phase.Done end) = end_deps end

module _ (K : Key → Type 0) where
  abbrev pub Kept : Dep → Type 0
  Kept dep = K dep.key

  -- a round works on such registers, and leaves dependencies on such
  pub record WorksOn (r : RegSession) : Type 0 where
    pub work : All K (work_registers r.work)
    pub left : All Kept (phase_deps r.phase)

  abbrev pub SessionOn : Session → Type 0
  SessionOn (session.Fixing r) = WorksOn r
  SessionOn (session.Register r) = WorksOn r
  SessionOn session.Idle = ⊤
  SessionOn (session.Transaction t) = ⊤
  SessionOn (session.Snapshot t) = ⊤
  SessionOn (session.Settling attempt shards) = ⊤

  pub record OwnerOn (w : Owner) : Type 0 where
    pub does : All K (kind_registers w.kind)
    pub under_way : SessionOn w.session

  -- a request to a replica is about such registers
  abbrev pub RequestOn : ℕ → Target → Request → Type 0
  RequestOn o (Shard n) r = ⊤
  RequestOn o (Replica service replica) r = All K (registers_of r)

  -- in a state all registers that are named are such
  pub record Named (s : State) : Type 0 where
    pub owners : All OwnerOn s.owners
    pub deps : AllDeps Kept s
    pub messages : SentAll RequestOn s.net

  pub owner_on : (s : State) (o : ℕ) → All OwnerOn s.owners → OwnerOn (owner_at s o)
  owner_on s o h = at_place OwnerOn s.owners o no_owner (record { does = All-nil K; under_way = tt }) h

  -- a phase asks about the registers of its work
  phase_on : (call : ℕ) (w : RegWork) (p : RegPhase) (r : Request) → All K (work_registers w) → phase_request call w p ≡ Some r → All K (registers_of r)
  phase_on call (work.Fix deps) phase.Fixing r k e = subst (λ (q : Request). All K (registers_of q)) (some_is (request.Fix deps) r e) k
  phase_on call (work.Fix deps) phase.Asking r k e = absurd (none_is_not r e)
  phase_on call (work.Fix deps) phase.Stamping r k e = absurd (none_is_not r e)
  phase_on call (work.Fix deps) (phase.Storing stamp) r k e = absurd (none_is_not r e)
  phase_on call (work.Fix deps) (phase.Done end) r k e = absurd (none_is_not r e)
  phase_on call (work.Read key) phase.Fixing r k e = absurd (none_is_not r e)
  phase_on call (work.Read key) phase.Asking r k e = subst (λ (q : Request). All K (registers_of q)) (some_is (request.Ask key) r e) k
  phase_on call (work.Read key) phase.Stamping r k e = absurd (none_is_not r e)
  phase_on call (work.Read key) (phase.Storing stamp) r k e = absurd (none_is_not r e)
  phase_on call (work.Read key) (phase.Done end) r k e = absurd (none_is_not r e)
  phase_on call (work.Write key value) phase.Fixing r k e = absurd (none_is_not r e)
  phase_on call (work.Write key value) phase.Asking r k e = absurd (none_is_not r e)
  phase_on call (work.Write key value) phase.Stamping r k e = subst (λ (q : Request). All K (registers_of q)) (some_is (request.Stamp key) r e) k
  phase_on call (work.Write key value) (phase.Storing stamp) r k e = subst (λ (q : Request). All K (registers_of q)) (some_is (request.Store key value stamp call) r e) k
  phase_on call (work.Write key value) (phase.Done end) r k e = absurd (none_is_not r e)

  round_on : (o : ℕ) (r : RegSession) (out : Out) → WorksOn r → RoundOut r out → RequestOn o out.target out.request
  round_on o r out h d = subst (λ (t : Target). RequestOn o t out.request) (sym d.target) (phase_on r.call r.work r.phase out.request h.work d.asked)

  pub shard_on : (o : ℕ) (target : Target) (r : Request) → to_shard target r ≡ true → RequestOn o target r
  shard_on o (Shard n) r e = tt
  shard_on o (Replica service replica) r e = absurd (false≢true e)

  pub out_on : (o : ℕ) (x : Session) (out : Out) → SessionOn x → SessionOut x out → RequestOn o out.target out.request
  out_on o (session.Fixing r) out h d = round_on o r out h d
  out_on o (session.Register r) out h d = round_on o r out h d
  out_on o session.Idle out h d = shard_on o out.target out.request d
  out_on o (session.Transaction t) out h d = shard_on o out.target out.request d
  out_on o (session.Snapshot t) out h d = shard_on o out.target out.request d
  out_on o (session.Settling attempt shards) out h d = shard_on o out.target out.request d

  -- rounds go on with what they work on
  read_on : (key : Key) (cell : RegReply) (agreed : Bool) → K key → All Kept (given_dep (read_dep key cell agreed))
  read_on key cell true k = All-nil Kept
  read_on key cell false k = All-cons Kept _ [] k (All-nil Kept)

  end_on : (w : RegWork) (cell : RegReply) (agreed : Bool) → All K (work_registers w) → All Kept (end_deps (read_end w cell agreed))
  end_on (work.Read key) cell agreed k = read_on key cell agreed (All-head K key [] k)
  end_on (work.Write key value) cell agreed k = All-nil Kept
  end_on (work.Fix deps) cell agreed k = All-nil Kept

  reached_on : (r : RegSession) (p : RegPhase) → p ≡ r.phase → WorksOn r → WorksOn (reached r p)
  reached_on r phase.Fixing e h = record { work = h.work; left = All-nil Kept }
  reached_on r phase.Asking e h = record { work = h.work; left = end_on r.work (found_cell (greatest_heard r.round)) (is_agreed r.round) h.work }
  reached_on r phase.Stamping e h = record { work = h.work; left = All-nil Kept }
  reached_on r (phase.Storing stamp) e h = record { work = h.work; left = All-nil Kept }
  reached_on r (phase.Done end) e h = h

  pub after_on : (r : RegSession) (from : ℕ) (p : Reply) → WorksOn r → WorksOn (session_after r from p)
  after_on r from p h =
      let g = record r { round = hears r.round from (reply_cell p) } in
      cond_both (is_reached g.round) (reached g r.phase) g WorksOn (λ t. reached_on g r.phase refl (record { work = h.work; left = h.left })) (λ f. record { work = h.work; left = h.left })

  without_on : (x : Session) (target : Target) → SessionOn x → SessionOn (session_without x target)
  without_on (session.Fixing r) (Replica id replica) h = cond_both (same_service r.service id) _ r WorksOn (λ t. record { work = h.work; left = h.left }) (λ f. h)
  without_on (session.Register r) (Replica id replica) h = cond_both (same_service r.service id) _ r WorksOn (λ t. record { work = h.work; left = h.left }) (λ f. h)
  without_on (session.Fixing r) (Shard shard) h = h
  without_on (session.Register r) (Shard shard) h = h
  without_on session.Idle target h = h
  without_on (session.Transaction t) target h = h
  without_on (session.Snapshot t) target h = h
  without_on (session.Settling attempt shards) target h = h

  opening_on : (c : Config) (s : State) (o : ℕ) (w : RegWork) (id : ServiceId) → All K (work_registers w) → WorksOn (session_for c s o w id)
  opening_on c s o (work.Fix deps) id k = record { work = k; left = All-nil Kept }
  opening_on c s o (work.Read key) id k = record { work = k; left = All-nil Kept }
  opening_on c s o (work.Write key value) id k = record { work = k; left = All-nil Kept }

  fixed_on : (s : State) (o : ℕ) (id : ServiceId) → AllDeps Kept s → All K (work_registers (work.Fix (deps_of id (owner_at s o).works.copy.deps)))
  fixed_on s o id h = All-map K (λ (dep : Dep). dep.key) (deps_of id (owner_at s o).works.copy.deps) (of_hold Kept id (owner_at s o).works.copy.deps (copy_holds Kept s o h))

  -- owners go on with what they do
  pub resting_on : (s : State) (o : ℕ) (w : Owner) → Resting s o w → OwnerOn (owner_at s o) → OwnerOn w
  resting_on s o _ (plans e b) h = record { does = h.does; under_way = tt }
  resting_on s o _ (past id x rest time l e) h = record { does = h.does; under_way = tt }
  resting_on s o _ (fixed id x rest r e l a b d) h = record { does = h.does; under_way = tt }
  resting_on s o _ (cleared r e l a b d) h = record { does = h.does; under_way = tt }

  pub working_on : (at : Reading) (s : State) (o : ℕ) (w : Owner) → Working at s o w → OwnerOn (owner_at s o) → OwnerOn w
  working_on at s o _ (owes_nothing id rest l) h = record { does = h.does; under_way = tt }
  working_on at s o _ (is_past id time rest l e) h = record { does = h.does; under_way = tt }
  working_on at s o _ (enters_own x l e f) h = record { does = h.does; under_way = h.under_way }

  pub leaving_on : (c : Config) (at : Reading) (s : State) (o : ℕ) (w : Owner) (outs : List Out) → Leaving c at s o w outs → AllDeps Kept s → OwnerOn (owner_at s o) → OwnerOn w
  leaving_on c at s o _ _ (waits id time rest l) d h = record { does = h.does; under_way = h.under_way }
  leaving_on c at s o _ _ (fixes_work id rest l) d h = record { does = h.does; under_way = opening_on c s o _ id (fixed_on s o id d) }
  leaving_on c at s o _ _ (fixes_own x dep deps l e f) d h = record { does = h.does; under_way = opening_on c s o _ _ (fixed_on s o _ d) }
  leaving_on c at s o _ _ (asks_register key l e f) d h = record { does = h.does; under_way = opening_on c s o (work.Read key) key.service (subst (λ (x : OwnerKind). All K (kind_registers x)) e h.does) }
  leaving_on c at s o _ _ (stamps_register key value l e f) d h = record { does = h.does; under_way = opening_on c s o (work.Write key value) key.service (subst (λ (x : OwnerKind). All K (kind_registers x)) e h.does) }
  leaving_on c at s o _ _ (begins_snapshot keys t l e f) d h = record { does = h.does; under_way = tt }
  leaving_on c at s o _ _ (begins_txn reads guard writes t l e f) d h = record { does = h.does; under_way = tt }
  leaving_on c at s o _ _ (fence_done l e) d h = record { does = h.does; under_way = h.under_way }
  leaving_on c at s o _ _ (stub_done u l e) d h = record { does = h.does; under_way = h.under_way }

  turning_on : (s : State) (o : ℕ) (x : Session) (outs : List Out) → ShardTurning s o x outs → SessionOn x
  turning_on s o _ _ (txn_heard t l at r e) = tt
  turning_on s o _ _ (txn_woken t l e) = tt
  turning_on s o _ _ (txn_passed t e) = tt
  turning_on s o _ _ (snap_heard t l r e) = tt
  turning_on s o _ _ (snap_woken t l e) = tt

  under_on : (s : State) (o : ℕ) (x : Session) → session_at s o ≡ x → OwnerOn (owner_at s o) → SessionOn x
  under_on s o x e h = subst SessionOn e h.under_way

  pub doing_on : (s : State) (o : ℕ) (w : Owner) (outs : List Out) (new : List Dep) → Doing s o w outs new → OwnerOn (owner_at s o) → OwnerOn w
  doing_on s o _ _ _ (listens_one slot r d) h = record { does = h.does; under_way = h.under_way }
  doing_on s o _ _ _ (fix_hears f slot r x d e) h = record { does = h.does; under_way = after_on f _ r (under_on s o (session.Fixing f) x h) }
  doing_on s o _ _ _ (fix_reached f slot r g x d e) h = record { does = h.does; under_way = after_on f _ r (under_on s o (session.Fixing f) x h) }
  doing_on s o _ _ _ (register_hears f slot r x d a e) h = record { does = h.does; under_way = after_on f _ r (under_on s o (session.Register f) x h) }
  doing_on s o _ _ _ (register_stores f slot r x d a e) h = record { does = h.does; under_way = after_on f _ r (under_on s o (session.Register f) x h) }
  doing_on s o _ _ _ (register_reached f slot r g x d e) h = record { does = h.does; under_way = after_on f _ r (under_on s o (session.Register f) x h) }
  doing_on s o _ _ _ (read_ends f key cell dep x a b) h = record { does = h.does; under_way = h.under_way }
  doing_on s o _ _ _ (write_ends f key value e x a b) h = record { does = h.does; under_way = h.under_way }
  doing_on s o _ _ _ (txn_ends y t time a b d) h = record { does = h.does; under_way = h.under_way }
  doing_on s o _ _ _ (snap_ends y t time a b d) h = record { does = h.does; under_way = h.under_way }
  doing_on s o _ _ _ (counts_one target) h = record { does = h.does; under_way = h.under_way }
  doing_on s o _ _ _ (cuts_one service replica) h = record { does = h.does; under_way = without_on (session_at s o) (Replica service replica) h.under_way }
  doing_on s o _ _ _ (is_closed f) h = record { does = h.does; under_way = h.under_way }
  doing_on s o _ _ _ forgets_all h = record { does = h.does; under_way = h.under_way }
  doing_on s o _ _ _ (turns x outs y) h = record { does = h.does; under_way = turning_on s o x outs y }
  doing_on s o _ _ _ (stub_asks attempt shards e b) h = record { does = h.does; under_way = tt }

  -- the dependencies that are new
  pub new_on : (s : State) (o : ℕ) (w : Owner) (outs : List Out) (new : List Dep) → Doing s o w outs new → OwnerOn (owner_at s o) → All Kept new
  new_on s o _ _ _ (listens_one slot r d) h = All-nil Kept
  new_on s o _ _ _ (fix_hears f slot r x d e) h = All-nil Kept
  new_on s o _ _ _ (fix_reached f slot r g x d e) h = All-nil Kept
  new_on s o _ _ _ (register_hears f slot r x d a e) h = All-nil Kept
  new_on s o _ _ _ (register_stores f slot r x d a e) h = All-nil Kept
  new_on s o _ _ _ (register_reached f slot r g x d e) h = All-nil Kept
  new_on s o _ _ _ (read_ends f key cell dep x a b) h = subst (λ (p : RegPhase). All Kept (phase_deps p)) b (under_on s o (session.Register f) x h).left
  new_on s o _ _ _ (write_ends f key value e x a b) h = All-nil Kept
  new_on s o _ _ _ (txn_ends y t time a b d) h = All-nil Kept
  new_on s o _ _ _ (snap_ends y t time a b d) h = All-nil Kept
  new_on s o _ _ _ (counts_one target) h = All-nil Kept
  new_on s o _ _ _ (cuts_one service replica) h = All-nil Kept
  new_on s o _ _ _ (is_closed f) h = All-nil Kept
  new_on s o _ _ _ forgets_all h = All-nil Kept
  new_on s o _ _ _ (turns x outs y) h = All-nil Kept
  new_on s o _ _ _ (stub_asks attempt shards e b) h = All-nil Kept
