-- What works, sessions and turns add.
use Rattle.std.proofs.Common.{◌≡◌, ℕ, zero, suc, ◌+◌, ◌-◌, ◌≤◌, Bool, true, false, List, [], ◌∷◌, length, Option, Some, None, refl, ap, subst, arith}
use Rattle.std.specs.Prelude.{get_or, nat_lt}
use Rattle.std.proofs.lemmas.Bool.{cond_both}
use Rattle.std.proofs.lemmas.List.{length-map}
use Rattle.truetime.specs.Reading.{Reading}
use Rattle.rss_names.specs.declared.service.ServiceId.{ServiceId}
use Rattle.rss_names.specs.declared.service.Target.{Target}
use Rattle.causal_context.specs.declared.dep.Dep.{Dep}
use Rattle.causal_context.specs.Deps.{deps_of}
use Rattle.causal_context.specs.Seen.{Seen}
use Rattle.pipeline_lang.specs.Config.{body_of, home_of, replicas_of}
use Rattle.pipeline_lang.specs.declared.config.Config.{Config}
use Rattle.rss_model.specs.declared.op.Op.{Op}
use Rattle.rss_model.specs.declared.op.Op.TheVariants as op
use Rattle.rss_model.specs.declared.op.Shown.{Shown}
use Rattle.rss_wire.specs.declared.messages.Request.{Request}
use Rattle.rss_tables.specs.Outs.{awaited, target_slot, line_out}
use Rattle.rss_tables.specs.RegisterSession.{RegSession, round_requests, requests_from, phase_request}
use Rattle.rss_tables.specs.SnapshotSession.{SnapSession, snap_end, snap_asks, snap_request, opening_snapshot}
use Rattle.rss_tables.specs.TransactionSession.{TxnSession, txn_end, asks_lines, txn_request, opening_txn, shown_reply, written_keys}
use Rattle.rss_tables.specs.Lines.{Line}
use Rattle.rss_tables.specs.Turns.{Turn}
use Rattle.rss_tables.specs.declared.fences.FenceWork.{FenceWork}
use Rattle.rss_tables.specs.declared.fences.FenceWork.TheVariants.{Nothing, Past, Fix}
use Rattle.rss_tables.specs.declared.register_session.RegEnd.{RegEnd}
use Rattle.rss_tables.specs.declared.register_session.RegEnd.TheVariants as ends
use Rattle.rss_tables.specs.declared.register_session.RegWork.{RegWork}
use Rattle.rss_tables.specs.declared.register_session.RegWork.TheVariants as work
use Rattle.rss_machine.specs.Calls.{session_for, fixes, least_for, launches_register, launches_call, starts_at_register, starts_call, entered_first, works_over, goes_through, ends_work, launches_cleared, fix_ends, replies, register_ends, ends_at, forgets_if, txn_turns, snap_turns}
use Rattle.rss_machine.specs.Moves.{enters, fence_ends, waits_for, clears, goes_on}
use Rattle.rss_machine.specs.Session.{service_of}
use Rattle.rss_machine.specs.State.{State, owner_at}
use Rattle.rss_machine.specs.declared.session.OwnerKind.{OwnerKind}
use Rattle.rss_machine.specs.declared.session.OwnerKind.TheVariants as kind
use Rattle.rss_machine.specs.declared.session.Session.TheVariants as session
use Rattle.world_laws.proofs.Looks.{looks}
use Rattle.count_laws.proofs.Budget.{attempt_number, FewIn, Budget, none, plus, within, Grew, grew_more, chain, still}
use Rattle.count_laws.proofs.FewLines.{FewTurn, FewSnap, opening_few}
use Rattle.count_laws.proofs.Moves.{going, entered, exit_given, g_goes_on, g_launches, g_enters, g_fence_ends, g_waits_for, g_clears, g_forgets, g_ends_call, g_ends_fence, g_ends_stub}

-- what is used of a file: few replicas of each service, and few pipes
pub record FewOf (c : Config) : Type 0 where
  pub replicas : (id : ServiceId) → replicas_of c id ≤ 7
  pub pipes : length c.pipe_ends ≤ 16

requests_few : (service : ServiceId) (r : Option Request) (from : ℕ) (cut : List Bool) (left : ℕ) → length (requests_from service r from cut left) ≤ left
requests_few service None from cut left = omega arith
requests_few service (Some r) from cut zero = omega arith
requests_few service (Some r) from cut (suc left) =
    let rest = requests_from service (Some r) (from + 1) cut left in
    let l = requests_few service (Some r) (from + 1) cut left in
    cond_both (get_or cut (from - 1) false) rest _ (λ (xs : List (Target × Request)). length xs ≤ suc left) (λ e. omega (arith, l)) (λ e. omega (arith, l))

awaited_few : (xs : List (Target × Request)) → length (awaited xs) ≡ length xs
awaited_few xs = length-map xs (λ (r : Target × Request). record { slot = Some (target_slot r.0); target = r.0; request = r.1 })

-- a round sends seven requests at most
pub round_few : (r : RegSession) (n : ℕ) → r.round.replicas ≤ 7 → 7 ≤ n → length (awaited (round_requests r)) ≤ n
round_few r n l m =
    let a = awaited_few (round_requests r) in
    let b = requests_few r.service (phase_request r.call r.work r.phase) 1 r.round.cut r.round.replicas in
    omega (arith, a, b, l, m)

-- what an owner's works add at most
abbrev pub worked : Budget
worked = record { net = 16; owners = 0; entries = 17; acts = 0; next = 1; losses = 0; attempts = 1 }

pub g_fixes : (c : Config) (s : State) (o : ℕ) (service : ServiceId) → FewOf c → Grew (going 7 0) s (fixes c s o service)
g_fixes c s o service f =
    let r = session_for c s o (work.Fix (deps_of service (owner_at s o).works.copy.deps)) service in
    g_goes_on 7 0 s o (session.Fixing r) (awaited (round_requests r)) (omega arith) (f.replicas service) (round_few r 7 (f.replicas service) (omega arith))

g_launches_register : (c : Config) (s : State) (o : ℕ) (w : RegWork) (service : ServiceId) → FewOf c → Grew (going 16 1) s (launches_register c s o w service)
g_launches_register c s o w service f =
    let r = session_for c s o w service in
    g_launches 16 1 s o (session.Register r) (awaited (round_requests r)) (omega arith) (f.replicas service) (round_few r 16 (f.replicas service) (omega arith))

g_launches_call : (c : Config) (s : State) (o : ℕ) (at : Reading) (x : Op) → FewOf c → Grew (going 16 1) s (launches_call c s o at x)
g_launches_call c s o at (op.Read key) f = g_launches_register c s o (work.Read key) key.service f
g_launches_call c s o at (op.Write key value) f = g_launches_register c s o (work.Write key value) key.service f
g_launches_call c s o at (op.Snap keys) f =
    let t = opening_snapshot (home_of c) o keys (least_for s o (service_of (op.Snap keys))) at in
    let l = opening_few (home_of c) keys [] in
    let m = length-map t.lines (λ (x : Line). line_out x.shard (snap_request t t.phase x)) in
    g_launches 16 1 s o (session.Snapshot t) (snap_asks t t.lines) (omega arith) l (omega (arith, l, m))
g_launches_call c s o at (op.Txn reads guard writes) f =
    let t = opening_txn (home_of c) o reads guard writes (least_for s o (service_of (op.Txn reads guard writes))) (body_of c (owner_at s o).stage).earliest_end in
    let l = opening_few (home_of c) reads (written_keys writes) in
    let m = length-map t.lines (λ (x : Line). line_out x.shard (txn_request t t.phase x)) in
    g_launches 16 1 s o (session.Transaction t) (asks_lines t t.lines) (omega arith) l (omega (arith, l, m))

g_starts_at_register : (c : Config) (s : State) (o : ℕ) (at : Reading) (x : Op) (deps : List Dep) → FewOf c → Grew (going 16 1) s (starts_at_register c s o at x deps)
g_starts_at_register c s o at x [] f = g_launches_call c s o at x f
g_starts_at_register c s o at x (dep ∷ deps) f = grew_more (going 7 0) (going 16 1) s (fixes c s o (service_of x)) (within (going 7 0) (going 16 1) refl) (g_fixes c s o (service_of x) f)

g_starts_call : (c : Config) (s : State) (o : ℕ) (at : Reading) (x : Op) → FewOf c → Grew (going 16 1) s (starts_call c s o at x)
g_starts_call c s o at (op.Read key) f = g_starts_at_register c s o at (op.Read key) (owner_at s o).works.copy.deps f
g_starts_call c s o at (op.Write key value) f = g_starts_at_register c s o at (op.Write key value) (owner_at s o).works.copy.deps f
g_starts_call c s o at (op.Snap keys) f = g_launches_call c s o at (op.Snap keys) f
g_starts_call c s o at (op.Txn reads guard writes) f = g_launches_call c s o at (op.Txn reads guard writes) f

g_entered_first : (s : State) (o : ℕ) (x : Op) (at : Reading) → Grew none s (entered_first s o x at)
g_entered_first s o x at = cond_both (owner_at s o).works.enter (enters s o (service_of x) at.latest) s (Grew none s) (λ e. g_enters s o (service_of x) at.latest) (λ e. still s)

g_works_over : (c : Config) (s : State) (o : ℕ) (at : Reading) (k : OwnerKind) → FewOf c → Grew worked s (works_over c s o at k)
g_works_over c s o at (kind.Calling x) f =
    let t = entered_first s o x at in
    chain none (going 16 1) worked s t (starts_call c t o at x) (within (plus none (going 16 1)) worked refl) (g_entered_first s o x at) (g_starts_call c t o at x f)
g_works_over c s o at kind.Fencing f = grew_more none worked s _ (within none worked refl) (g_ends_fence s o _ _)
g_works_over c s o at (kind.Stubbing u) f = grew_more exit_given worked s _ (within exit_given worked refl) (g_ends_stub c s o f.pipes)

pub g_goes_through : (c : Config) (s : State) (o : ℕ) (at : Reading) (works : List (ServiceId × FenceWork)) → FewOf c → Grew worked s (goes_through c s o at works)
g_goes_through c s o at [] f = g_works_over c s o at (owner_at s o).kind f
g_goes_through c s o at ((id, Nothing) ∷ works) f =
    chain none worked worked s (fence_ends s o id) (goes_through c (fence_ends s o id) o at works) (within (plus none worked) worked refl) (g_fence_ends s o id) (g_goes_through c (fence_ends s o id) o at works f)
g_goes_through c s o at ((id, Past time) ∷ works) f =
    cond_both (nat_lt time at.earliest) (goes_through c (fence_ends s o id) o at works) (waits_for s o time) (Grew worked s)
    (λ e. chain none worked worked s (fence_ends s o id) (goes_through c (fence_ends s o id) o at works) (within (plus none worked) worked refl) (g_fence_ends s o id) (g_goes_through c (fence_ends s o id) o at works f))
    (λ e. grew_more none worked s (waits_for s o time) (within none worked refl) (g_waits_for s o time))
g_goes_through c s o at ((id, Fix) ∷ works) f = grew_more (going 7 0) worked s (fixes c s o id) (within (going 7 0) worked refl) (g_fixes c s o id f)

pub g_ends_work : (c : Config) (s : State) (o : ℕ) (at : Reading) (works : List (ServiceId × FenceWork)) → FewOf c → Grew worked s (ends_work c s o at works)
g_ends_work c s o at [] f = grew_more none worked s s (within none worked refl) (still s)
g_ends_work c s o at (w ∷ works) f =
    chain none worked worked s (fence_ends s o w.0) (goes_through c (fence_ends s o w.0) o at works) (within (plus none worked) worked refl) (g_fence_ends s o w.0) (g_goes_through c (fence_ends s o w.0) o at works f)

g_launches_cleared : (c : Config) (s : State) (o : ℕ) (at : Reading) (k : OwnerKind) → FewOf c → Grew worked s (launches_cleared c s o at k)
g_launches_cleared c s o at (kind.Calling x) f = grew_more (going 16 1) worked s (launches_call c s o at x) (within (going 16 1) worked refl) (g_launches_call c s o at x f)
g_launches_cleared c s o at kind.Fencing f = grew_more none worked s s (within none worked refl) (still s)
g_launches_cleared c s o at (kind.Stubbing u) f = grew_more none worked s s (within none worked refl) (still s)

pub g_fix_ends : (c : Config) (s : State) (o : ℕ) (at : Reading) (works : List (ServiceId × FenceWork)) → FewOf c → Grew worked s (fix_ends c s o at works)
g_fix_ends c s o at [] f =
    let t = clears s o in
    chain none worked worked s t (launches_cleared c t o at (owner_at s o).kind) (within (plus none worked) worked refl) (g_clears s o) (g_launches_cleared c t o at (owner_at s o).kind f)
g_fix_ends c s o at (w ∷ works) f = g_ends_work c s o at (w ∷ works) f

-- REPLIES AND TURNS

pub g_replies : (c : Config) (s : State) (o : ℕ) (shown : List Shown) (seen : Seen) → Grew (entered 1) s (replies c s o shown seen)
g_replies c s o shown seen = g_ends_call s o shown _ seen

nothing_entered : (s : State) → Grew (entered 1) s s
nothing_entered s = grew_more none (entered 1) s s (within none (entered 1) refl) (still s)

pub g_register_ends : (c : Config) (s : State) (o : ℕ) (w : RegWork) (e : RegEnd) → Grew (entered 1) s (register_ends c s o w e)
g_register_ends c s o (work.Read key) (ends.Read cell dep) = g_replies c s o _ _
g_register_ends c s o (work.Write key value) (ends.Written stamp) = g_replies c s o _ _
g_register_ends c s o (work.Read key) (ends.Written stamp) = nothing_entered s
g_register_ends c s o (work.Read key) ends.Fixed = nothing_entered s
g_register_ends c s o (work.Write key value) (ends.Read cell dep) = nothing_entered s
g_register_ends c s o (work.Write key value) ends.Fixed = nothing_entered s
g_register_ends c s o (work.Fix deps) e = nothing_entered s

g_ends_at : (c : Config) (s : State) (o : ℕ) (k : OwnerKind) (shown : List Shown) (time : Option ℕ) → Grew (entered 1) s (ends_at c s o k shown time)
g_ends_at c s o (kind.Calling x) shown (Some time) = g_replies c s o shown _
g_ends_at c s o (kind.Calling x) shown None = nothing_entered s
g_ends_at c s o kind.Fencing shown time = nothing_entered s
g_ends_at c s o (kind.Stubbing u) shown time = nothing_entered s

g_forgets_if : (b : Bool) (s : State) (o : ℕ) → Grew none s (forgets_if b s o)
g_forgets_if true s o = g_forgets s o
g_forgets_if false s o = still s

forgets_session : (b : Bool) (s : State) (o : ℕ) → attempt_number (owner_at s o).session ≤ attempt_number (owner_at (forgets_if b s o) o).session
forgets_session true s o = grind (arith, looks)
forgets_session false s o = omega arith

-- what a turn adds
abbrev pub turned : Budget
turned = record { net = 32; owners = 0; entries = 1; acts = 0; next = 0; losses = 0; attempts = 1 }

pub g_txn_turns : (c : Config) (s : State) (o : ℕ) (t : TxnSession) (turn : Turn TxnSession) → (owner_at s o).session ≡ session.Transaction t → FewIn (owner_at s o).session → FewTurn (length t.lines) t.k turn → Grew turned s (txn_turns c s o turn)
g_txn_turns c s o t turn e h f =
    let u = forgets_if turn.anew s o in
    let v = goes_on u o (session.Transaction turn.after) turn.outs in
    let a = forgets_session turn.anew s o in
    let b = ap attempt_number e in
    let k = f.attempt in
    let l : length t.lines ≤ 16 = subst FewIn e h in
    let n = f.lines in
    chain (going 32 1) (entered 1) turned s v (txn_turns c s o turn) (within (plus (going 32 1) (entered 1)) turned refl)
    (chain none (going 32 1) (going 32 1) s u v (within (plus none (going 32 1)) (going 32 1) refl) (g_forgets_if turn.anew s o)
    (g_goes_on 32 1 u o (session.Transaction turn.after) turn.outs (omega (arith, a, b, k)) (omega (arith, l, n)) f.outs))
    (g_ends_at c v o (owner_at s o).kind (shown_reply turn.after.reads turn.after.lines) (txn_end turn.after.phase))

pub g_snap_turns : (c : Config) (s : State) (o : ℕ) (t : SnapSession) (turn : Turn SnapSession) → (owner_at s o).session ≡ session.Snapshot t → FewIn (owner_at s o).session → FewSnap (length t.lines) turn → Grew turned s (snap_turns c s o turn)
g_snap_turns c s o t turn e h f =
    let u = forgets_if turn.anew s o in
    let v = goes_on u o (session.Snapshot turn.after) turn.outs in
    let l : length t.lines ≤ 16 = subst FewIn e h in
    let n = f.lines in
    chain (going 32 1) (entered 1) turned s v (snap_turns c s o turn) (within (plus (going 32 1) (entered 1)) turned refl)
    (chain none (going 32 1) (going 32 1) s u v (within (plus none (going 32 1)) (going 32 1) refl) (g_forgets_if turn.anew s o)
    (g_goes_on 32 1 u o (session.Snapshot turn.after) turn.outs (omega arith) (omega (arith, l, n)) f.outs))
    (g_ends_at c v o (owner_at s o).kind (shown_reply turn.after.keys turn.after.lines) (snap_end turn.after.phase))
