-- How the count of an owner's requests changes where messages are sent, meet a fate, or are answered.
use Rattle.std.proofs.Common.{◌≡◌, ℕ, zero, suc, ◌+◌, ◌-◌, ◌<◌, ◌≤◌, Bool, true, false, List, [], ◌∷◌, ◌++◌, All, get_or, Option, Some, None, refl, ap, sym, ◌∙◌, subst, arith}
use Rattle.std.specs.Prelude.{◌&&◌, ◌==◌, if◌then◌else◌}
use Rattle.std.proofs.Math.ListN.{set}
use Rattle.std.proofs.lemmas.Bool.{cond_both, true≢false}
use Rattle.std.proofs.lemmas.Bool.Decides.{nat_tests}
use Rattle.std.proofs.lemmas.List.Elements.{All-head, All-tail}
use Rattle.rss_names.specs.declared.service.ServiceId.{ServiceId}
use Rattle.rss_names.specs.declared.service.Target.{Target}
use Rattle.rss_names.specs.declared.service.Target.TheVariants.{Shard, Replica}
use Rattle.causal_context.specs.declared.dep.Dep.{Dep}
use Rattle.rss_wire.specs.Messages.{message_at, asks, answers, meets, same_target, request_envelope, reply_envelope}
use Rattle.rss_wire.specs.declared.message.Body.TheVariants as body
use Rattle.rss_wire.specs.declared.message.Fate.{Fate}
use Rattle.rss_wire.specs.declared.message.Fate.TheVariants.{Pending}
use Rattle.rss_wire.specs.declared.message.Message.{Message}
use Rattle.rss_wire.specs.declared.messages.Reply.{Reply}
use Rattle.rss_wire.specs.declared.messages.Request.{Request}
use Rattle.rss_wire.specs.declared.messages.Request.TheVariants as request
use Rattle.rss_tables.specs.Outs.{Out, awaited}
use Rattle.rss_tables.specs.RegisterSession.{RegSession, phase_request, requests_from, round_requests}
use Rattle.rss_tables.specs.declared.register_session.RegPhase.{RegPhase}
use Rattle.rss_tables.specs.declared.register_session.RegPhase.TheVariants.{Fixing}
use Rattle.rss_tables.specs.declared.register_session.RegWork.{RegWork}
use Rattle.rss_tables.specs.declared.register_session.RegWork.TheVariants as work
use Rattle.rss_machine.specs.Moves.{sends_one, sends}
use Rattle.rss_machine.specs.State.{State, owner_at}
use Rattle.rss_names.specs.Services.{same_service}
use Rattle.world_laws.proofs.Sent.{to_shard, ToShard}
use Rattle.bound_laws.specs.Counts.{stores_dependencies, is_own_to, own_requests}

zero_plus : (n : ℕ) → n ≡ 0 + n
zero_plus n = omega arith

-- one more message
pub own_more : (o : ℕ) (t : Target) (net : List Message) (x : Message) → own_requests o t (net ++ x ∷ []) ≡ own_requests o t net + own_requests o t (x ∷ [])
own_more o t [] x = zero_plus (own_requests o t (x ∷ []))
own_more o t (m ∷ net) x = one (is_own_to o t m) (own_more o t net x)
  where
    one : (b : Bool) → own_requests o t (net ++ x ∷ []) ≡ own_requests o t net + own_requests o t (x ∷ []) → (if b then suc (own_requests o t (net ++ x ∷ [])) else own_requests o t (net ++ x ∷ [])) ≡ (if b then suc (own_requests o t net) else own_requests o t net) + own_requests o t (x ∷ [])
    one true e = omega (arith, e)
    one false e = e

-- a message in the place of one that counts as it does
own_set : (o : ℕ) (t : Target) (net : List Message) (m : ℕ) (x : Message) → is_own_to o t x ≡ is_own_to o t (message_at net m) → own_requests o t (set net m x) ≡ own_requests o t net
own_set o t [] m x e = refl
own_set o t (y ∷ net) zero x e = ap (λ (b : Bool). if b then suc (own_requests o t net) else own_requests o t net) e
own_set o t (y ∷ net) (suc m) x e = ap (λ (n : ℕ). if is_own_to o t y then suc n else n) (own_set o t net m x e)

pub own_meets : (o : ℕ) (t : Target) (net : List Message) (m : ℕ) (f : Fate) → own_requests o t (meets net m f) ≡ own_requests o t net
own_meets o t net m f = own_set o t net m (record (message_at net m) { fate = f }) refl

pub own_answers : (o : ℕ) (t : Target) (net : List Message) (m : ℕ) (r : Reply) → own_requests o t (answers net m r) ≡ own_requests o t net
own_answers o t net m r = let e = own_more o t net (record { envelope = reply_envelope net m; body = body.Reply r; fate = Pending }) in omega (arith, e)

-- whether a request that is sent counts, and how many of those do
abbrev pub counts : Target → Target → Request → Bool
counts t target r = (if stores_dependencies r then false else true) && same_target target t

abbrev pub outs_to : Target → List Out → ℕ
outs_to t [] = 0
outs_to t (out ∷ outs) = if counts t out.target out.request then suc (outs_to t outs) else outs_to t outs

-- a request that is sent by an owner, and by another
one_due : (o : ℕ) (t target : Target) (r : Request) (n : ℕ) (b c d : Bool) → (if (b && (c && d)) then suc n else n) ≤ (if (b && d) then suc n else n)
one_due o t target r n false c d = omega arith
one_due o t target r n true false false = omega arith
one_due o t target r n true false true = omega arith
one_due o t target r n true true false = omega arith
one_due o t target r n true true true = omega arith

pub own_asks : (o p n : ℕ) (t target : Target) (r : Request) (net : List Message) → own_requests o t (asks net p n target r) ≤ own_requests o t net + (if counts t target r then 1 else 0)
own_asks o p n t target r net =
    let e = own_more o t net (record { envelope = request_envelope net p n target; body = body.Request r; fate = Pending }) in
    let l = one_due o t target r 0 (if stores_dependencies r then false else true) (p == o) (same_target target t) in
    omega (arith, e, l)

apart : (a b : ℕ) → (a ≡ b → ⊥) → (a == b) ≡ false
apart a b n = grind (arith, nat_tests, n)

pub own_asks_other : (o p n : ℕ) (t target : Target) (r : Request) (net : List Message) → (p ≡ o → ⊥) → own_requests o t (asks net p n target r) ≡ own_requests o t net
own_asks_other o p n t target r net d =
    let e = own_more o t net (record { envelope = request_envelope net p n target; body = body.Request r; fate = Pending }) in
    let z = none (if stores_dependencies r then false else true) (p == o) (apart p o d) in
    omega (arith, e, z)
  where
    none : (a b : Bool) → b ≡ false → (if (a && (b && same_target target t)) then suc zero else zero) ≡ zero
    none false b e = refl
    none true false e = refl
    none true true e = absurd (true≢false e)

-- several requests
pub sends_own : (o : ℕ) (t : Target) (outs : List Out) (s : State) → own_requests o t (sends s o outs).net ≤ own_requests o t s.net + outs_to t outs
sends_own o t [] s = omega arith
sends_own o t (out ∷ outs) s =
    let h = sends_own o t outs (sends_one s o out) in
    let l = own_asks o o (owner_at s o).stage t out.target out.request s.net in
    one (counts t out.target out.request) h l
  where
    one : (b : Bool) → own_requests o t (sends s o (out ∷ outs)).net ≤ own_requests o t (sends_one s o out).net + outs_to t outs → own_requests o t (sends_one s o out).net ≤ own_requests o t s.net + (if b then 1 else 0) → own_requests o t (sends s o (out ∷ outs)).net ≤ own_requests o t s.net + (if b then suc (outs_to t outs) else outs_to t outs)
    one true h l = omega (arith, h, l)
    one false h l = omega (arith, h, l)

pub sends_others : (o p : ℕ) (t : Target) (outs : List Out) (s : State) → (p ≡ o → ⊥) → own_requests o t (sends s p outs).net ≡ own_requests o t s.net
sends_others o p t [] s d = refl
sends_others o p t (out ∷ outs) s d = sends_others o p t outs (sends_one s p out) d ∙ own_asks_other o p (owner_at s p).stage t out.target out.request s.net d

-- requests to shards do not count at replicas
pub shards_none : (service : ServiceId) (replica : ℕ) (outs : List Out) → All ToShard outs → outs_to (Replica service replica) outs ≡ 0
shards_none service replica [] a = refl
shards_none service replica (out ∷ outs) a = one out.target (All-head ToShard out outs a) (shards_none service replica outs (All-tail ToShard out outs a))
  where
    drops : (b : Bool) → outs_to (Replica service replica) outs ≡ 0 → (if (b && false) then suc (outs_to (Replica service replica) outs) else outs_to (Replica service replica) outs) ≡ 0
    drops true h = h
    drops false h = h

    one : (target : Target) → to_shard target out.request ≡ true → outs_to (Replica service replica) outs ≡ 0 → (if counts (Replica service replica) target out.request then suc (outs_to (Replica service replica) outs) else outs_to (Replica service replica) outs) ≡ 0
    one (Shard shard) e h = drops (if stores_dependencies out.request then false else true) h
    one (Replica id k) e h = absurd (true≢false (sym e))

-- a round sends one request to each replica at most
abbrev round_outs : ServiceId → Option Request → ℕ → List Bool → ℕ → List Out
round_outs service q place cut left = awaited (requests_from service q place cut left)

below_none : (service id : ServiceId) (k : ℕ) (q : Request) (cut : List Bool) (left place : ℕ) → k < place → outs_to (Replica id k) (round_outs service (Some q) place cut left) ≡ 0
below_none service id k q cut zero place l = refl
below_none service id k q cut (suc left) place l =
    let rest = below_none service id k q cut left (place + 1) (omega (arith, l)) in
    cond_both (get_or cut (place - 1) false) _ _ (λ (rs : List (Target × Request)). outs_to (Replica id k) (awaited rs) ≡ 0) (λ t. rest)
    (λ f. skips (if stores_dependencies q then false else true) (same_service service id) (place == k) (apart place k (λ e. omega (arith, e, l))) rest)
  where
    n : ℕ
    n = outs_to (Replica id k) (round_outs service (Some q) (place + 1) cut left)

    skips : (a b d : Bool) → d ≡ false → n ≡ 0 → (if (a && (b && d)) then suc n else n) ≡ 0
    skips false b d e h = h
    skips true false d e h = h
    skips true true false e h = h
    skips true true true e h = absurd (true≢false e)

one_each : (service id : ServiceId) (k : ℕ) (q : Request) (cut : List Bool) (left place : ℕ) → outs_to (Replica id k) (round_outs service (Some q) place cut left) ≤ 1
one_each service id k q cut zero place = omega arith
one_each service id k q cut (suc left) place =
    let rest = one_each service id k q cut left (place + 1) in
    cond_both (get_or cut (place - 1) false) _ _ (λ (rs : List (Target × Request)). outs_to (Replica id k) (awaited rs) ≤ 1) (λ t. rest)
    (λ f. by_place rest (place == k) refl (if stores_dependencies q then false else true) (same_service service id))
  where
    n : ℕ
    n = outs_to (Replica id k) (round_outs service (Some q) (place + 1) cut left)

    is_place : (place == k) ≡ true → place ≡ k
    is_place e = grind (arith, nat_tests, e)

    by_place : n ≤ 1 → (d : Bool) → (place == k) ≡ d → (a b : Bool) → (if (a && (b && d)) then suc n else n) ≤ 1
    by_place h d e false b = h
    by_place h d e true false = h
    by_place h false e true true = h
    by_place h true e true true = let p = is_place e in let z = below_none service id k q cut left (place + 1) (omega (arith, p)) in omega (arith, z)

pub round_few : (id : ServiceId) (k : ℕ) (r : RegSession) → outs_to (Replica id k) (awaited (round_requests r)) ≤ 1
round_few id k r = by_request (phase_request r.call r.work r.phase)
  where
    by_request : (q : Option Request) → outs_to (Replica id k) (round_outs r.service q 1 r.round.cut r.round.replicas) ≤ 1
    by_request None = omega arith
    by_request (Some q) = one_each r.service id k q r.round.cut r.round.replicas 1

-- a phase that asks for nothing sends nothing
pub asks_none : (id : ServiceId) (k : ℕ) (r : RegSession) → phase_request r.call r.work r.phase ≡ None → outs_to (Replica id k) (awaited (round_requests r)) ≡ 0
asks_none id k r e = ap (λ (q : Option Request). outs_to (Replica id k) (round_outs r.service q 1 r.round.cut r.round.replicas)) e

-- a round of dependencies sends none that counts
fix_each : (service id : ServiceId) (k : ℕ) (deps : List Dep) (cut : List Bool) (left place : ℕ) → outs_to (Replica id k) (round_outs service (Some (request.Fix deps)) place cut left) ≡ 0
fix_each service id k deps cut zero place = refl
fix_each service id k deps cut (suc left) place =
    let rest = fix_each service id k deps cut left (place + 1) in
    cond_both (get_or cut (place - 1) false) _ _ (λ (rs : List (Target × Request)). outs_to (Replica id k) (awaited rs) ≡ 0) (λ t. rest) (λ f. rest)

pub fix_none : (id : ServiceId) (k : ℕ) (r : RegSession) (deps : List Dep) → r.work ≡ work.Fix deps → r.phase ≡ Fixing → outs_to (Replica id k) (awaited (round_requests r)) ≡ 0
fix_none id k r deps e f =
    subst (λ (q : Option Request). outs_to (Replica id k) (round_outs r.service q 1 r.round.cut r.round.replicas) ≡ 0) (sym (ap (λ (w : RegWork). phase_request r.call w r.phase) e ∙ ap (λ (p : RegPhase). phase_request r.call (work.Fix deps) p) f))
    (fix_each r.service id k deps r.round.cut r.round.replicas 1)
