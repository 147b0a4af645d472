-- Every message is proper, in every run: a replica is asked about registers of its own service alone.
use Rattle.std.proofs.Common.{◌≡◌, ℕ, zero, suc, ◌+◌, ◌-◌, Bool, true, false, List, [], ◌∷◌, map, get_or, Option, Some, None, refl, subst, arith}
use Rattle.std.proofs.lemmas.Bool.{cond_both}
use Rattle.std.proofs.lemmas.Bool.Decides.{nat_tests}
use Rattle.std.proofs.lemmas.Grind.{common_steps}
use Rattle.rss_names.specs.declared.service.Key.{Key}
use Rattle.rss_names.specs.declared.service.ServiceId.{ServiceId}
use Rattle.rss_names.specs.declared.service.ServiceId.TheVariants as service
use Rattle.rss_names.specs.declared.service.Target.{Target}
use Rattle.rss_names.specs.declared.service.Target.TheVariants.{Shard, Replica}
use Rattle.rss_names.specs.Services.{same_service}
use Rattle.causal_context.specs.declared.dep.Dep.{Dep}
use Rattle.causal_context.specs.Deps.{deps_of}
use Rattle.pipeline_lang.specs.declared.config.Config.{Config}
use Rattle.rss_wire.specs.declared.messages.Request.{Request}
use Rattle.rss_wire.specs.declared.messages.Reply.{Reply}
use Rattle.rss_tables.specs.Outs.{Out, awaited}
use Rattle.rss_tables.specs.RegisterSession.{RegSession, phase_request, requests_from, round_requests, session_after}
use Rattle.rss_tables.specs.declared.register_session.RegPhase.{RegPhase}
use Rattle.rss_tables.specs.declared.register_session.RegPhase.TheVariants as phase
use Rattle.rss_tables.specs.declared.register_session.RegWork.{RegWork}
use Rattle.rss_tables.specs.declared.register_session.RegWork.TheVariants as work
use Rattle.world_laws.proofs.ShardRequests.{all_outs, lines-fine, snap-lines-fine, decision-fine, txn-fine, passed-fine, snap-fine, woken-fine}
use Rattle.world_laws.specs.Proper.{are_kept_by, is_proper, work_registers}
use Rattle.pipeline_lang.specs.Config.{home_of}
use Rattle.rss_tables.specs.Round.{hears, is_reached}
use Rattle.rss_tables.specs.RegisterSession.{reached, reply_cell}
use Rattle.rss_tables.specs.SnapshotSession.{opening_snapshot}
use Rattle.rss_tables.specs.TransactionSession.{opening_txn}
use Rattle.rss_machine.specs.Calls.{session_for}
use Rattle.rss_machine.specs.Moves.{session_without}
use Rattle.rss_machine.specs.Session.{Session}
use Rattle.rss_machine.specs.State.{State}
use Rattle.rss_machine.specs.declared.session.Session.TheVariants as session
use Rattle.world_laws.proofs.SessionMoves.{session_at, Turning, idles, loses_one, fixes_first, asks_register, stamps_register, fix_hears, register_hears, register_stores, snapshot_begins, txn_begins, txn_heard, txn_woken, txn_passed, snap_heard, snap_woken, stub_asks, stub_tells}

-- a service is itself
same-self : (id : ServiceId) → same_service id id ≡ true
same-self (service.Txn n) = grind (arith, nat_tests)
same-self (service.Reg n) = grind (arith, nat_tests)

-- what a service keeps of dependencies is kept by it
deps-kept : (id : ServiceId) (deps : List Dep) → are_kept_by id (map (λ (dep : Dep). dep.key) (deps_of id deps)) ≡ true
unfolding are_kept_by
deps-kept id [] = refl
deps-kept id (dep ∷ deps) =
    let r = deps-kept id deps in
    cond_both (same_service id dep.key.service) _ _ (λ (ds : List Dep). are_kept_by id (map (λ (d : Dep). d.key) ds) ≡ true)
    (λ t. grind (arith, common_steps, t, r)) (λ f. r)

one-kept : (id : ServiceId) (key : Key) → same_service id key.service ≡ true → are_kept_by id (key ∷ []) ≡ true
unfolding are_kept_by
one-kept id key e = grind (arith, common_steps, e)

-- a phase asks about the registers of its work alone
phase-proper : (id : ServiceId) (replica call : ℕ) (w : RegWork) (p : RegPhase) (r : Request) → are_kept_by id (work_registers w) ≡ true → phase_request call w p ≡ Some r → is_proper (Replica id replica) r ≡ true
phase-proper id replica call (work.Fix deps) phase.Fixing r k e = grind (arith, k, e)
phase-proper id replica call (work.Fix deps) phase.Asking r k e = grind (arith, e)
phase-proper id replica call (work.Fix deps) phase.Stamping r k e = grind (arith, e)
phase-proper id replica call (work.Fix deps) (phase.Storing stamp) r k e = grind (arith, e)
phase-proper id replica call (work.Fix deps) (phase.Done end) r k e = grind (arith, e)
phase-proper id replica call (work.Read key) phase.Fixing r k e = grind (arith, e)
phase-proper id replica call (work.Read key) phase.Asking r k e = grind (arith, k, e)
phase-proper id replica call (work.Read key) phase.Stamping r k e = grind (arith, e)
phase-proper id replica call (work.Read key) (phase.Storing stamp) r k e = grind (arith, e)
phase-proper id replica call (work.Read key) (phase.Done end) r k e = grind (arith, e)
phase-proper id replica call (work.Write key value) phase.Fixing r k e = grind (arith, e)
phase-proper id replica call (work.Write key value) phase.Asking r k e = grind (arith, e)
phase-proper id replica call (work.Write key value) phase.Stamping r k e = grind (arith, k, e)
phase-proper id replica call (work.Write key value) (phase.Storing stamp) r k e = grind (arith, k, e)
phase-proper id replica call (work.Write key value) (phase.Done end) r k e = grind (arith, e)

-- whether all requests that are sent are proper
abbrev pub outs_proper : List Out → Bool
outs_proper outs = all_outs is_proper outs

requests-proper : (id : ServiceId) (q : Option Request) (cut : List Bool) (left from : ℕ) → ((replica : ℕ) (r : Request) → q ≡ Some r → is_proper (Replica id replica) r ≡ true) → outs_proper (awaited (requests_from id q from cut left)) ≡ true
requests-proper id None cut left from h = refl
requests-proper id (Some r) cut zero from h = refl
requests-proper id (Some r) cut (suc left) from h =
    let a = requests-proper id (Some r) cut left (from + 1) h in
    let b = h from r refl in
    cond_both (get_or cut (from - 1) false) _ _ (λ (rs : List (Target × Request)). outs_proper (awaited rs) ≡ true) (λ t. a) (λ f. grind (arith, common_steps, a, b))

-- a round of a session asks about registers of its service alone, where its work does
pub round-proper : (r : RegSession) → are_kept_by r.service (work_registers r.work) ≡ true → outs_proper (awaited (round_requests r)) ≡ true
round-proper r k = requests-proper r.service (phase_request r.call r.work r.phase) r.round.cut r.round.replicas 1 (λ replica q e. phase-proper r.service replica r.call r.work r.phase q k e)

-- what an owner has under way asks about registers of its service alone
abbrev pub session_proper : Session → Bool
session_proper (session.Fixing r) = are_kept_by r.service (work_registers r.work)
session_proper (session.Register r) = are_kept_by r.service (work_registers r.work)
session_proper session.Idle = true
session_proper (session.Transaction t) = true
session_proper (session.Snapshot t) = true
session_proper (session.Settling attempt shards) = true

-- a session keeps its work and its service
reached-stays : (r : RegSession) (p : RegPhase) → ((reached r p).work ≡ r.work) × ((reached r p).service ≡ r.service)
reached-stays r phase.Fixing = (refl, refl)
reached-stays r phase.Asking = (refl, refl)
reached-stays r phase.Stamping = (refl, refl)
reached-stays r (phase.Storing stamp) = (refl, refl)
reached-stays r (phase.Done end) = (refl, refl)

pub after-stays : (r : RegSession) (from : ℕ) (p : Reply) → ((session_after r from p).work ≡ r.work) × ((session_after r from p).service ≡ r.service)
after-stays r from p =
    let h = record r { round = hears r.round from (reply_cell p) } in
    cond_both (is_reached h.round) (reached h r.phase) h (λ (s : RegSession). (s.work ≡ r.work) × (s.service ≡ r.service)) (λ t. reached-stays h r.phase) (λ f. (refl, refl))

after-kept : (r : RegSession) (from : ℕ) (p : Reply) → are_kept_by r.service (work_registers r.work) ≡ true → are_kept_by (session_after r from p).service (work_registers (session_after r from p).work) ≡ true
after-kept r from p k = let e = after-stays r from p in rw (e.0, e.1) k

without-proper : (x : Session) (target : Target) → session_proper x ≡ true → session_proper (session_without x target) ≡ true
without-proper (session.Fixing r) (Replica id replica) k = cond_both (same_service r.service id) _ r (λ (s : RegSession). are_kept_by s.service (work_registers s.work) ≡ true) (λ t. k) (λ f. k)
without-proper (session.Register r) (Replica id replica) k = cond_both (same_service r.service id) _ r (λ (s : RegSession). are_kept_by s.service (work_registers s.work) ≡ true) (λ t. k) (λ f. k)
without-proper (session.Fixing r) (Shard shard) k = k
without-proper (session.Register r) (Shard shard) k = k
without-proper session.Idle target k = k
without-proper (session.Transaction t) target k = k
without-proper (session.Snapshot t) target k = k
without-proper (session.Settling attempt shards) target k = k

-- requests to shards are proper
shard-proper : (n : ℕ) (r : Request) → is_proper (Shard n) r ≡ true
shard-proper n r = refl

-- an owner turns to what is proper, and sends what is proper
pub turning-proper : (c : Config) (s : State) (o : ℕ) (x : Session) (outs : List Out) → session_proper (session_at s o) ≡ true → Turning c s o x outs → (session_proper x ≡ true) × (outs_proper outs ≡ true)
turning-proper c s o _ _ p idles = (refl, refl)
turning-proper c s o _ _ p (loses_one target) = (without-proper (session_at s o) target p, refl)
turning-proper c s o _ _ p (fixes_first id deps w) = let k = deps-kept id deps in (k, round-proper (session_for c w o (work.Fix (deps_of id deps)) id) k)
turning-proper c s o _ _ p (asks_register w key) = let k = one-kept key.service key (same-self key.service) in (k, round-proper (session_for c w o (work.Read key) key.service) k)
turning-proper c s o _ _ p (stamps_register w key value) = let k = one-kept key.service key (same-self key.service) in (k, round-proper (session_for c w o (work.Write key value) key.service) k)
turning-proper c s o _ _ p (fix_hears f from r e) = (after-kept f from r (subst (λ (x : Session). session_proper x ≡ true) e p), refl)
turning-proper c s o _ _ p (register_hears f from r e) = (after-kept f from r (subst (λ (x : Session). session_proper x ≡ true) e p), refl)
turning-proper c s o _ _ p (register_stores f from r e a) = let k = after-kept f from r (subst (λ (x : Session). session_proper x ≡ true) e p) in (k, round-proper (session_after f from r) k)
turning-proper c s o _ _ p (snapshot_begins keys least at) = (refl, snap-lines-fine is_proper shard-proper (opening_snapshot (home_of c) o keys least at) (opening_snapshot (home_of c) o keys least at).lines)
turning-proper c s o _ _ p (txn_begins reads guard writes least margin) = let t = opening_txn (home_of c) o reads guard writes least margin in (refl, lines-fine is_proper shard-proper t t.lines)
turning-proper c s o _ _ p (txn_heard t l at r e) = (refl, txn-fine is_proper shard-proper t l at r)
turning-proper c s o _ _ p (txn_woken t l e) = (refl, woken-fine is_proper shard-proper l.shard l.state)
turning-proper c s o _ _ p (txn_passed t e) = (refl, passed-fine is_proper shard-proper t t.phase)
turning-proper c s o _ _ p (snap_heard t l r e) = (refl, snap-fine is_proper shard-proper t l r)
turning-proper c s o _ _ p (snap_woken t l e) = (refl, woken-fine is_proper shard-proper l.shard l.state)
turning-proper c s o _ _ p (stub_asks attempt shards) = (refl, refl)
turning-proper c s o _ _ p (stub_tells attempt shards o' e) = (refl, decision-fine is_proper shard-proper attempt o' shards)
