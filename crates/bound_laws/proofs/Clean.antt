-- A call that begins where its stage's context has no dependency stores none, in every run.
use Rattle.std.proofs.Common.{◌≡◌, ℕ, false, List, [], ◌∷◌, All, drop, Some, refl, ap, sym, ◌∙◌, subst}
use Rattle.std.specs.Prelude.{⊤}
use Rattle.std.proofs.lemmas.Bool.{cond_both, true≢false}
use Rattle.std.proofs.lemmas.List.Elements.{All-cons, All-nil, All-head, All-tail}
use Rattle.truetime.specs.Reading.{Reading}
use Rattle.rss_names.specs.declared.service.ServiceId.{ServiceId}
use Rattle.rss_names.specs.declared.service.ServiceId.TheVariants.{Txn, Reg}
use Rattle.rss_names.specs.declared.service.Target.TheVariants.{Replica}
use Rattle.rss_names.specs.Services.{same_service}
use Rattle.causal_context.specs.declared.dep.Dep.{Dep}
use Rattle.causal_context.specs.Deps.{deps_of, deps_fenced}
use Rattle.causal_context.specs.Seen.{Seen}
use Rattle.pipeline_lang.specs.declared.config.Config.{Config}
use Rattle.rss_wire.specs.declared.messages.Reply.{Reply}
use Rattle.rss_wire.specs.declared.messages.Request.{Request}
use Rattle.rss_wire.specs.declared.messages.Request.TheVariants as request
use Rattle.rss_tables.specs.Outs.{Out, slot_replica}
use Rattle.rss_tables.specs.RegisterSession.{RegSession, session_after, phase_request}
use Rattle.rss_tables.specs.Works.{fix_unless_none, fences_of}
use Rattle.rss_tables.specs.declared.fences.FenceWork.{FenceWork}
use Rattle.rss_tables.specs.declared.fences.FenceWork.TheVariants.{Nothing, Past, Fix}
use Rattle.rss_tables.specs.declared.register_session.RegPhase.{RegPhase}
use Rattle.rss_tables.specs.declared.register_session.RegPhase.TheVariants as phase
use Rattle.rss_tables.specs.declared.register_session.RegWork.{RegWork}
use Rattle.rss_tables.specs.declared.register_session.RegWork.TheVariants as work
use Rattle.rss_machine.specs.Moves.{session_without}
use Rattle.rss_machine.specs.Session.{Session}
use Rattle.rss_machine.specs.State.{State, Owner, owner_at}
use Rattle.rss_machine.specs.declared.session.Session.TheVariants as session
use Rattle.world_laws.specs.Calls.{is_stub}
use Rattle.world_laws.proofs.Doings.{fence_ended, Resting, plans, past, fixed, cleared, Working, owes_nothing, is_past, enters_own, Leaving, waits, fixes_work, fixes_own, asks_register, stamps_register, begins_snapshot, begins_txn, fence_done, stub_done, ShardTurning, txn_heard, txn_woken, txn_passed, snap_heard, snap_woken, Doing, listens_one, fix_hears, fix_reached, register_hears, register_stores, register_reached, read_ends, write_ends, txn_ends, snap_ends, counts_one, cuts_one, is_closed, forgets_all, turns, stub_asks}
use Rattle.world_laws.proofs.Looks.{some_is, none_is_not}
use Rattle.world_laws.proofs.Properly.{after-stays}
use Rattle.world_laws.proofs.Sent.{to_shard, SessionOut}
use Rattle.world_laws.proofs.SessionMoves.{session_at}
use Rattle.bound_laws.specs.Counts.{stores_dependencies}

-- no round of dependencies is planned
abbrev pub NoFixes : List (ServiceId × FenceWork) → Type 0
NoFixes [] = ⊤
NoFixes ((id, Nothing) ∷ works) = NoFixes works
NoFixes ((id, Past time) ∷ works) = NoFixes works
NoFixes ((id, Fix) ∷ works) = ⊥

-- a work that stores no dependencies
abbrev pub IsPlain : RegWork → Type 0
IsPlain (work.Fix deps) = ⊥
IsPlain (work.Read key) = ⊤
IsPlain (work.Write key value) = ⊤

abbrev pub PlainSession : Session → Type 0
PlainSession (session.Fixing r) = ⊥
PlainSession (session.Register r) = IsPlain r.work
PlainSession session.Idle = ⊤
PlainSession (session.Transaction t) = ⊤
PlainSession (session.Snapshot t) = ⊤
PlainSession (session.Settling attempt shards) = ⊤

-- an owner that has no dependencies, and stores none
pub record Clean (w : Owner) : Type 0 where
  pub deps : w.works.copy.deps ≡ []
  pub works : NoFixes w.works.left
  pub under_way : PlainSession w.session

-- without dependencies no round of them is planned
pub plain_fences : (seen : Seen) (ids : List ServiceId) → seen.deps ≡ [] → NoFixes (fences_of seen ids)
plain_fences seen [] e = tt
plain_fences seen (Txn n ∷ ids) e = plain_fences seen ids e
plain_fences seen (Reg n ∷ ids) e = one (deps_of (Reg n) seen.deps) (ap (λ (deps : List Dep). deps_of (Reg n) deps) e) (plain_fences seen ids e)
  where
    one : (deps : List Dep) → deps ≡ [] → NoFixes (fences_of seen ids) → NoFixes ((Reg n, fix_unless_none deps) ∷ fences_of seen ids)
    one [] q h = h
    one (dep ∷ deps) q h = absurd (cons_not_nil dep deps q)
      where
        cons_not_nil : (dep : Dep) (deps : List Dep) → dep ∷ deps ≡ [] → ⊥
        cons_not_nil dep deps q = cc

fewer_fixes : (works : List (ServiceId × FenceWork)) → NoFixes works → NoFixes (drop 1 works)
fewer_fixes [] h = tt
fewer_fixes ((id, Nothing) ∷ works) h = h
fewer_fixes ((id, Past time) ∷ works) h = h
fewer_fixes ((id, Fix) ∷ works) h = absurd h

fenced_none : (id : ServiceId) (deps : List Dep) → deps ≡ [] → deps_fenced id deps ≡ []
fenced_none (Txn n) deps e = e
fenced_none (Reg n) deps e = ap (λ (ds : List Dep). deps_fenced (Reg n) ds) e

-- what is known of an owner of a stage, unless it is a stub
abbrev pub IsOf : ℕ → Owner → Type 0
IsOf n w = (w.stage ≡ n) × (is_stub w.kind ≡ false)

abbrev pub OfClean : ℕ → Owner → Type 0
OfClean n w = IsOf n w → Clean w

works_clean : (v w : Owner) → w.works.copy.deps ≡ v.works.copy.deps → w.works.left ≡ v.works.left → PlainSession w.session → Clean v → Clean w
works_clean v w a b p h = record { deps = a ∙ h.deps; works = subst NoFixes (sym b) h.works; under_way = p }

fence_clean : (n : ℕ) (s : State) (o : ℕ) (id : ServiceId) → OfClean n (owner_at s o) → OfClean n (fence_ended s o id)
fence_clean n s o id g q = let h = g (q.0, q.1) in record { deps = fenced_none id (owner_at s o).works.copy.deps h.deps; works = fewer_fixes (owner_at s o).works.left h.works; under_way = tt }

pub resting_clean : (n : ℕ) (s : State) (o : ℕ) (w : Owner) → Resting s o w → OfClean n (owner_at s o) → OfClean n w
resting_clean n s o _ (plans e b) g q = let h = g (q.0, q.1) in record { deps = h.deps; works = plain_fences (owner_at s o).works.copy (owner_at s o).works.copy.last.services h.deps; under_way = tt }
resting_clean n s o _ (past id x rest time l e) g q = fence_clean n s o id g q
resting_clean n s o _ (fixed id x rest r e l a b d) g q = fence_clean n s o id g q
resting_clean n s o _ (cleared r e l a b d) g q = record { deps = refl; works = (g (q.0, q.1)).works; under_way = tt }

pub working_clean : (n : ℕ) (at : Reading) (s : State) (o : ℕ) (w : Owner) → Working at s o w → OfClean n (owner_at s o) → OfClean n w
working_clean n at s o _ (owes_nothing id rest l) g q = fence_clean n s o id g q
working_clean n at s o _ (is_past id time rest l e) g q = fence_clean n s o id g q
working_clean n at s o _ (enters_own x l e f) g q = let h = g (q.0, q.1) in works_clean (owner_at s o) _ refl refl h.under_way h

nil_not_dep : (dep : Dep) (deps : List Dep) → [] ≡ dep ∷ deps → ⊥
nil_not_dep dep deps e = cc

pub leaving_clean : (n : ℕ) (c : Config) (at : Reading) (s : State) (o : ℕ) (w : Owner) (outs : List Out) → Leaving c at s o w outs → OfClean n (owner_at s o) → OfClean n w
leaving_clean n c at s o _ _ (waits id time rest l) g q = let h = g (q.0, q.1) in works_clean (owner_at s o) _ refl refl h.under_way h
leaving_clean n c at s o _ _ (fixes_work id rest l) g q = absurd (subst NoFixes l (g (q.0, q.1)).works)
leaving_clean n c at s o _ _ (fixes_own x dep deps l e d) g q = absurd (nil_not_dep dep deps (sym (g (q.0, q.1)).deps ∙ d))
leaving_clean n c at s o _ _ (asks_register key l e d) g q = works_clean (owner_at s o) _ refl refl tt (g (q.0, q.1))
leaving_clean n c at s o _ _ (stamps_register key value l e d) g q = works_clean (owner_at s o) _ refl refl tt (g (q.0, q.1))
leaving_clean n c at s o _ _ (begins_snapshot keys t l e d) g q = works_clean (owner_at s o) _ refl refl tt (g (q.0, q.1))
leaving_clean n c at s o _ _ (begins_txn reads guard writes t l e d) g q = works_clean (owner_at s o) _ refl refl tt (g (q.0, q.1))
leaving_clean n c at s o _ _ (fence_done l e) g q = let h = g (q.0, q.1) in works_clean (owner_at s o) _ refl refl h.under_way h
leaving_clean n c at s o _ _ (stub_done u l e) g q = let h = g (q.0, q.1) in record { deps = refl; works = h.works; under_way = h.under_way }

without_plain : (x : Session) (id : ServiceId) (replica : ℕ) → PlainSession x → PlainSession (session_without x (Replica id replica))
without_plain session.Idle id replica h = tt
without_plain (session.Fixing r) id replica h = absurd h
without_plain (session.Register r) id replica h = cond_both (same_service r.service id) _ r (λ (g : RegSession). IsPlain g.work) (λ t. h) (λ t. h)
without_plain (session.Transaction t) id replica h = tt
without_plain (session.Snapshot t) id replica h = tt
without_plain (session.Settling attempt shards) id replica h = tt

after_plain : (x : Session) (f : RegSession) (from : ℕ) (r : Reply) → x ≡ session.Register f → PlainSession x → IsPlain (session_after f from r).work
after_plain x f from r e h = subst IsPlain (sym (after-stays f from r).0) (subst PlainSession e h)

pub doing_clean : (n : ℕ) (s : State) (o : ℕ) (w : Owner) (outs : List Out) (new : List Dep) → Doing s o w outs new → OfClean n (owner_at s o) → OfClean n w
doing_clean n s o _ _ _ (listens_one slot r d) g q = let h = g (q.0, q.1) in works_clean (owner_at s o) _ refl refl h.under_way h
doing_clean n s o _ _ _ (fix_hears f slot r x d e) g q = absurd (subst PlainSession x (g (q.0, q.1)).under_way)
doing_clean n s o _ _ _ (fix_reached f slot r y x d e) g q = absurd (subst PlainSession x (g (q.0, q.1)).under_way)
doing_clean n s o _ _ _ (register_hears f slot r x d a e) g q = let h = g (q.0, q.1) in works_clean (owner_at s o) _ refl refl (after_plain (session_at s o) f (slot_replica slot) r x h.under_way) h
doing_clean n s o _ _ _ (register_stores f slot r x d a e) g q = let h = g (q.0, q.1) in works_clean (owner_at s o) _ refl refl (after_plain (session_at s o) f (slot_replica slot) r x h.under_way) h
doing_clean n s o _ _ _ (register_reached f slot r y x d e) g q = let h = g (q.0, q.1) in works_clean (owner_at s o) _ refl refl (after_plain (session_at s o) f (slot_replica slot) r x h.under_way) h
doing_clean n s o _ _ _ (read_ends f key cell dep x a b) g q = let h = g (q.0, q.1) in works_clean (owner_at s o) _ refl refl h.under_way h
doing_clean n s o _ _ _ (write_ends f key value e x a b) g q = let h = g (q.0, q.1) in works_clean (owner_at s o) _ refl refl h.under_way h
doing_clean n s o _ _ _ (txn_ends y t time a b d) g q = let h = g (q.0, q.1) in works_clean (owner_at s o) _ refl refl h.under_way h
doing_clean n s o _ _ _ (snap_ends y t time a b d) g q = let h = g (q.0, q.1) in works_clean (owner_at s o) _ refl refl h.under_way h
doing_clean n s o _ _ _ (counts_one target) g q = let h = g (q.0, q.1) in works_clean (owner_at s o) _ refl refl h.under_way h
doing_clean n s o _ _ _ (cuts_one id replica) g q = let h = g (q.0, q.1) in works_clean (owner_at s o) _ refl refl (without_plain (session_at s o) id replica h.under_way) h
doing_clean n s o _ _ _ (is_closed f) g q = let h = g (q.0, q.1) in works_clean (owner_at s o) _ refl refl h.under_way h
doing_clean n s o _ _ _ forgets_all g q = let h = g (q.0, q.1) in works_clean (owner_at s o) _ refl refl h.under_way h
doing_clean n s o _ _ _ (turns x outs y) g q = works_clean (owner_at s o) _ refl refl (turning_plain s o x outs y) (g (q.0, q.1))
  where
    turning_plain : (s : State) (o : ℕ) (x : Session) (outs : List Out) → ShardTurning s o x outs → PlainSession x
    turning_plain s o _ _ (txn_heard t l at r e) = tt
    turning_plain s o _ _ (txn_woken t l e) = tt
    turning_plain s o _ _ (txn_passed t e) = tt
    turning_plain s o _ _ (snap_heard t l r e) = tt
    turning_plain s o _ _ (snap_woken t l e) = tt
doing_clean n s o _ _ _ (stub_asks attempt shards e b) g q = works_clean (owner_at s o) _ refl refl tt (g (q.0, q.1))

-- what a clean owner sends stores no dependencies
abbrev pub Fine : Out → Type 0
Fine out = to_shard out.target out.request ≡ false → stores_dependencies out.request ≡ false

phase_fine : (call : ℕ) (w : RegWork) (p : RegPhase) (r : Request) → IsPlain w → phase_request call w p ≡ Some r → stores_dependencies r ≡ false
phase_fine call (work.Fix deps) p r h e = absurd h
phase_fine call (work.Read key) phase.Fixing r h e = absurd (none_is_not r e)
phase_fine call (work.Read key) phase.Asking r h e = ap stores_dependencies (sym (some_is (request.Ask key) r e))
phase_fine call (work.Read key) phase.Stamping r h e = absurd (none_is_not r e)
phase_fine call (work.Read key) (phase.Storing stamp) r h e = absurd (none_is_not r e)
phase_fine call (work.Read key) (phase.Done end) r h e = absurd (none_is_not r e)
phase_fine call (work.Write key value) phase.Fixing r h e = absurd (none_is_not r e)
phase_fine call (work.Write key value) phase.Asking r h e = absurd (none_is_not r e)
phase_fine call (work.Write key value) phase.Stamping r h e = ap stores_dependencies (sym (some_is (request.Stamp key) r e))
phase_fine call (work.Write key value) (phase.Storing stamp) r h e = ap stores_dependencies (sym (some_is (request.Store key value stamp call) r e))
phase_fine call (work.Write key value) (phase.Done end) r h e = absurd (none_is_not r e)

out_fine : (x : Session) (out : Out) → PlainSession x → SessionOut x out → Fine out
out_fine session.Idle out h a e = absurd (true≢false (sym a ∙ e))
out_fine (session.Fixing r) out h a e = absurd h
out_fine (session.Register r) out h a e = phase_fine r.call r.work r.phase out.request h a.asked
out_fine (session.Transaction t) out h a e = absurd (true≢false (sym a ∙ e))
out_fine (session.Snapshot t) out h a e = absurd (true≢false (sym a ∙ e))
out_fine (session.Settling attempt shards) out h a e = absurd (true≢false (sym a ∙ e))

pub outs_fine : (x : Session) (outs : List Out) → PlainSession x → All (SessionOut x) outs → All Fine outs
outs_fine x [] h a = All-nil Fine
outs_fine x (out ∷ outs) h a = All-cons Fine out outs (out_fine x out h (All-head (SessionOut x) out outs a)) (outs_fine x outs h (All-tail (SessionOut x) out outs a))

-- an owner stays of its stage and kind
pub resting_of : (n : ℕ) (s : State) (o : ℕ) (w : Owner) → Resting s o w → IsOf n w → IsOf n (owner_at s o)
resting_of n s o _ (plans e b) q = (q.0, q.1)
resting_of n s o _ (past id x rest time l e) q = (q.0, q.1)
resting_of n s o _ (fixed id x rest r e l a b d) q = (q.0, q.1)
resting_of n s o _ (cleared r e l a b d) q = (q.0, q.1)

pub working_of : (n : ℕ) (at : Reading) (s : State) (o : ℕ) (w : Owner) → Working at s o w → IsOf n w → IsOf n (owner_at s o)
working_of n at s o _ (owes_nothing id rest l) q = (q.0, q.1)
working_of n at s o _ (is_past id time rest l e) q = (q.0, q.1)
working_of n at s o _ (enters_own x l e f) q = (q.0, q.1)

pub leaving_of : (n : ℕ) (c : Config) (at : Reading) (s : State) (o : ℕ) (w : Owner) (outs : List Out) → Leaving c at s o w outs → IsOf n w → IsOf n (owner_at s o)
leaving_of n c at s o _ _ (waits id time rest l) q = (q.0, q.1)
leaving_of n c at s o _ _ (fixes_work id rest l) q = (q.0, q.1)
leaving_of n c at s o _ _ (fixes_own x dep deps l e d) q = (q.0, q.1)
leaving_of n c at s o _ _ (asks_register key l e d) q = (q.0, q.1)
leaving_of n c at s o _ _ (stamps_register key value l e d) q = (q.0, q.1)
leaving_of n c at s o _ _ (begins_snapshot keys t l e d) q = (q.0, q.1)
leaving_of n c at s o _ _ (begins_txn reads guard writes t l e d) q = (q.0, q.1)
leaving_of n c at s o _ _ (fence_done l e) q = (q.0, q.1)
leaving_of n c at s o _ _ (stub_done u l e) q = (q.0, q.1)

pub doing_of : (n : ℕ) (s : State) (o : ℕ) (w : Owner) (outs : List Out) (new : List Dep) → Doing s o w outs new → IsOf n w → IsOf n (owner_at s o)
doing_of n s o _ _ _ (listens_one slot r d) q = (q.0, q.1)
doing_of n s o _ _ _ (fix_hears f slot r x d e) q = (q.0, q.1)
doing_of n s o _ _ _ (fix_reached f slot r y x d e) q = (q.0, q.1)
doing_of n s o _ _ _ (register_hears f slot r x d a e) q = (q.0, q.1)
doing_of n s o _ _ _ (register_stores f slot r x d a e) q = (q.0, q.1)
doing_of n s o _ _ _ (register_reached f slot r y x d e) q = (q.0, q.1)
doing_of n s o _ _ _ (read_ends f key cell dep x a b) q = (q.0, q.1)
doing_of n s o _ _ _ (write_ends f key value e x a b) q = (q.0, q.1)
doing_of n s o _ _ _ (txn_ends y t time a b d) q = (q.0, q.1)
doing_of n s o _ _ _ (snap_ends y t time a b d) q = (q.0, q.1)
doing_of n s o _ _ _ (counts_one target) q = (q.0, q.1)
doing_of n s o _ _ _ (cuts_one id replica) q = (q.0, q.1)
doing_of n s o _ _ _ (is_closed f) q = (q.0, q.1)
doing_of n s o _ _ _ forgets_all q = (q.0, q.1)
doing_of n s o _ _ _ (turns x outs y) q = (q.0, q.1)
doing_of n s o _ _ _ (stub_asks attempt shards e b) q = (q.0, q.1)
