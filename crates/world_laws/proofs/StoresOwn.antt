-- Every store of a run is of its own call: the call is the writer, and the stamp is its own.
use Rattle.std.proofs.Common.{◌≡◌, ℕ, zero, suc, ◌+◌, ◌-◌, ◌⊎◌, inl, inr, Bool, true, false, ◌&&◌, List, [], ◌∷◌, ◌++◌, get_or, Option, Some, None, refl, sym, ◌∙◌, subst, arith}
use Rattle.std.specs.Prelude.{◌==◌}
use Rattle.std.proofs.lemmas.Bool.{cond_both, and_parts, and_from, eq-eqb}
use Rattle.std.proofs.lemmas.Grind.{common_steps}
use Rattle.rss_names.specs.declared.service.ServiceId.{ServiceId}
use Rattle.rss_names.specs.declared.service.Target.{Target}
use Rattle.rss_names.specs.declared.service.Target.TheVariants.{Shard, Replica}
use Rattle.rss_names.specs.Services.{same_service}
use Rattle.causal_context.specs.Deps.{deps_of}
use Rattle.pipeline_lang.specs.Config.{home_of}
use Rattle.pipeline_lang.specs.declared.config.Config.{Config}
use Rattle.rss_wire.specs.declared.message.Body.{Body}
use Rattle.rss_wire.specs.declared.message.Fate.{Fate}
use Rattle.rss_wire.specs.declared.message.Message.{Message}
use Rattle.rss_wire.specs.declared.messages.Reply.{Reply}
use Rattle.rss_wire.specs.declared.messages.Request.{Request}
use Rattle.rss_wire.specs.Messages.{message_at, meets}
use Rattle.rss_tables.specs.Outs.{Out, awaited}
use Rattle.rss_tables.specs.RegisterSession.{RegSession, phase_request, requests_from, round_requests, session_after, reached, reply_cell}
use Rattle.rss_tables.specs.Round.{hears, is_reached}
use Rattle.rss_tables.specs.declared.register_session.RegPhase.{RegPhase}
use Rattle.rss_tables.specs.declared.register_session.RegPhase.TheVariants as phase
use Rattle.rss_tables.specs.declared.register_session.RegWork.{RegWork}
use Rattle.rss_tables.specs.declared.register_session.RegWork.TheVariants as work
use Rattle.rss_tables.specs.SnapshotSession.{opening_snapshot}
use Rattle.rss_tables.specs.TransactionSession.{opening_txn}
use Rattle.rss_machine.specs.Calls.{session_for}
use Rattle.rss_machine.specs.Effect.{stepped}
use Rattle.rss_machine.specs.Moves.{ticks, sends_one, sends, session_without, serves_replica}
use Rattle.rss_machine.specs.Refusal.{refusal}
use Rattle.rss_machine.specs.Run.{run, run_from}
use Rattle.rss_machine.specs.Session.{Session}
use Rattle.rss_machine.specs.State.{State, start}
use Rattle.rss_machine.specs.declared.session.Session.TheVariants as session
use Rattle.rss_machine.specs.declared.step.Step.{Step}
use Rattle.world_laws.specs.Own.{is_own, is_own_body, AreOwn}
use Rattle.world_laws.proofs.Runs.{passes, run_rest, run_none}
use Rattle.world_laws.proofs.Replies.{Sound, sound_keeps, sound_start, meets_envelope, meets_body}
use Rattle.world_laws.proofs.RequestsProper.{either, sends_same, served_same}
use Rattle.world_laws.proofs.SessionMoves.{SessionKeeps, TurnsTo, Turning, IsAgain, session_at, idles, loses_one, fixes_first, asks_register, stamps_register, fix_hears, register_hears, register_stores, snapshot_begins, txn_begins, txn_heard, txn_woken, txn_passed, snap_heard, snap_woken, stub_asks, stub_tells}
use Rattle.world_laws.proofs.SessionWalk.{session_walk}
use Rattle.world_laws.proofs.ShardRequests.{all_outs, lines-fine, snap-lines-fine, decision-fine, txn-fine, passed-fine, snap-fine, woken-fine}

-- a session is its owner's, and the stamp that it stores is
abbrev pub phase_own : ℕ → RegPhase → Bool
phase_own o (phase.Storing stamp) = stamp.call == o
phase_own o phase.Fixing = true
phase_own o phase.Asking = true
phase_own o phase.Stamping = true
phase_own o (phase.Done end) = true

abbrev pub round_own : ℕ → RegSession → Bool
round_own o r = (r.call == o) && phase_own o r.phase

abbrev pub session_own : ℕ → Session → Bool
session_own o (session.Register r) = round_own o r
session_own o (session.Fixing r) = round_own o r
session_own o session.Idle = true
session_own o (session.Transaction t) = true
session_own o (session.Snapshot t) = true
session_own o (session.Settling attempt shards) = true

-- what a round asks is its owner's
phase-own : (o : ℕ) (service : ServiceId) (replica call : ℕ) (w : RegWork) (p : RegPhase) (r : Request) → (call == o) ≡ true → phase_own o p ≡ true → phase_request call w p ≡ Some r → is_own o (Replica service replica) r ≡ true
phase-own o service replica call (work.Fix deps) phase.Fixing r a b e = grind (arith, e)
phase-own o service replica call (work.Fix deps) phase.Asking r a b e = grind (arith, e)
phase-own o service replica call (work.Fix deps) phase.Stamping r a b e = grind (arith, e)
phase-own o service replica call (work.Fix deps) (phase.Storing stamp) r a b e = grind (arith, e)
phase-own o service replica call (work.Fix deps) (phase.Done end) r a b e = grind (arith, e)
phase-own o service replica call (work.Read key) phase.Fixing r a b e = grind (arith, e)
phase-own o service replica call (work.Read key) phase.Asking r a b e = grind (arith, e)
phase-own o service replica call (work.Read key) phase.Stamping r a b e = grind (arith, e)
phase-own o service replica call (work.Read key) (phase.Storing stamp) r a b e = grind (arith, e)
phase-own o service replica call (work.Read key) (phase.Done end) r a b e = grind (arith, e)
phase-own o service replica call (work.Write key value) phase.Fixing r a b e = grind (arith, e)
phase-own o service replica call (work.Write key value) phase.Asking r a b e = grind (arith, e)
phase-own o service replica call (work.Write key value) phase.Stamping r a b e = grind (arith, e)
phase-own o service replica call (work.Write key value) (phase.Storing stamp) r a b e = let f = and_from (call == o) (stamp.call == o) a b in grind (arith, f, e)
phase-own o service replica call (work.Write key value) (phase.Done end) r a b e = grind (arith, e)

requests-own : (o : ℕ) (id : ServiceId) (q : Option Request) (cut : List Bool) (left from : ℕ) → ((replica : ℕ) (r : Request) → q ≡ Some r → is_own o (Replica id replica) r ≡ true) → all_outs (is_own o) (awaited (requests_from id q from cut left)) ≡ true
requests-own o id None cut left from h = refl
requests-own o id (Some r) cut zero from h = refl
requests-own o id (Some r) cut (suc left) from h =
    let a = requests-own o id (Some r) cut left (from + 1) h in
    let b = h from r refl in
    cond_both (get_or cut (from - 1) false) _ _ (λ (rs : List (Target × Request)). all_outs (is_own o) (awaited rs) ≡ true) (λ t. a) (λ f. and_from (is_own o (Replica id from) r) (all_outs (is_own o) (awaited (requests_from id (Some r) (from + 1) cut left))) b a)

round-own : (o : ℕ) (r : RegSession) → round_own o r ≡ true → all_outs (is_own o) (awaited (round_requests r)) ≡ true
round-own o r k =
    let p = and_parts (r.call == o) (phase_own o r.phase) k in
    requests-own o r.service (phase_request r.call r.work r.phase) r.round.cut r.round.replicas 1 (λ replica q e. phase-own o r.service replica r.call r.work r.phase q p.0 p.1 e)

reached-own : (o : ℕ) (r : RegSession) (p : RegPhase) → (r.call == o) ≡ true → phase_own o p ≡ true → r.phase ≡ p → round_own o (reached r p) ≡ true
reached-own o r phase.Fixing a b e = and_from (r.call == o) true a refl
reached-own o r phase.Asking a b e = and_from (r.call == o) true a refl
reached-own o r phase.Stamping a b e = and_from (r.call == o) (r.call == o) a a
reached-own o r (phase.Storing stamp) a b e = and_from (r.call == o) true a refl
reached-own o r (phase.Done end) a b e = and_from (r.call == o) (phase_own o r.phase) a (subst (λ (p : RegPhase). phase_own o p ≡ true) (sym e) refl)

after-own : (o : ℕ) (r : RegSession) (from : ℕ) (p : Reply) → round_own o r ≡ true → round_own o (session_after r from p) ≡ true
after-own o r from p k =
    let h = record r { round = hears r.round from (reply_cell p) } in
    let q = and_parts (r.call == o) (phase_own o r.phase) k in
    cond_both (is_reached h.round) (reached h r.phase) h (λ (s : RegSession). round_own o s ≡ true) (λ t. reached-own o h r.phase q.0 q.1 refl) (λ f. k)

without-own : (o : ℕ) (x : Session) (target : Target) → session_own o x ≡ true → session_own o (session_without x target) ≡ true
without-own o (session.Fixing r) (Replica id replica) k = cond_both (same_service r.service id) _ r (λ (s : RegSession). round_own o s ≡ true) (λ t. k) (λ f. k)
without-own o (session.Register r) (Replica id replica) k = cond_both (same_service r.service id) _ r (λ (s : RegSession). round_own o s ≡ true) (λ t. k) (λ f. k)
without-own o (session.Fixing r) (Shard shard) k = k
without-own o (session.Register r) (Shard shard) k = k
without-own o session.Idle target k = k
without-own o (session.Transaction t) target k = k
without-own o (session.Snapshot t) target k = k
without-own o (session.Settling attempt shards) target k = k

shard-own : (o n : ℕ) (r : Request) → is_own o (Shard n) r ≡ true
shard-own o n r = refl

opens-own : (o : ℕ) → ((o == o) && true) ≡ true
opens-own o = and_from (o == o) true (eq-eqb o o refl) refl

-- an owner turns to what is its own, and sends what is its own
turning-own : (c : Config) (s : State) (o : ℕ) (x : Session) (outs : List Out) → session_own o (session_at s o) ≡ true → Turning c s o x outs → (session_own o x ≡ true) × (all_outs (is_own o) outs ≡ true)
turning-own c s o _ _ p idles = (refl, refl)
turning-own c s o _ _ p (loses_one target) = (without-own o (session_at s o) target p, refl)
turning-own c s o _ _ p (fixes_first id deps w) = (opens-own o, round-own o (session_for c w o (work.Fix (deps_of id deps)) id) (opens-own o))
turning-own c s o _ _ p (asks_register w key) = (opens-own o, round-own o (session_for c w o (work.Read key) key.service) (opens-own o))
turning-own c s o _ _ p (stamps_register w key value) = (opens-own o, round-own o (session_for c w o (work.Write key value) key.service) (opens-own o))
turning-own c s o _ _ p (fix_hears f from r e) = (after-own o f from r (subst (λ (x : Session). session_own o x ≡ true) e p), refl)
turning-own c s o _ _ p (register_hears f from r e) = (after-own o f from r (subst (λ (x : Session). session_own o x ≡ true) e p), refl)
turning-own c s o _ _ p (register_stores f from r e a) = let k = after-own o f from r (subst (λ (x : Session). session_own o x ≡ true) e p) in (k, round-own o (session_after f from r) k)
turning-own c s o _ _ p (snapshot_begins keys least at) = (refl, snap-lines-fine (is_own o) (shard-own o) (opening_snapshot (home_of c) o keys least at) (opening_snapshot (home_of c) o keys least at).lines)
turning-own c s o _ _ p (txn_begins reads guard writes least margin) = let t = opening_txn (home_of c) o reads guard writes least margin in (refl, lines-fine (is_own o) (shard-own o) t t.lines)
turning-own c s o _ _ p (txn_heard t l at r e) = (refl, txn-fine (is_own o) (shard-own o) t l at r)
turning-own c s o _ _ p (txn_woken t l e) = (refl, woken-fine (is_own o) (shard-own o) l.shard l.state)
turning-own c s o _ _ p (txn_passed t e) = (refl, passed-fine (is_own o) (shard-own o) t t.phase)
turning-own c s o _ _ p (snap_heard t l r e) = (refl, snap-fine (is_own o) (shard-own o) t l r)
turning-own c s o _ _ p (snap_woken t l e) = (refl, woken-fine (is_own o) (shard-own o) l.shard l.state)
turning-own c s o _ _ p (stub_asks attempt shards) = (refl, refl)
turning-own c s o _ _ p (stub_tells attempt shards o' e) = (refl, decision-fine (is_own o) (shard-own o) attempt o' shards)

-- a message is its owner's
abbrev is_owned : Message → Type 0
is_owned x = is_own_body x.envelope.owner x.envelope.target x.body ≡ true

owned_more : (net : List Message) (x : Message) → is_owned x → ((k : ℕ) → is_owned (message_at net k)) → (k : ℕ) → is_owned (message_at (net ++ x ∷ []) k)
owned_more net x f h k = by_place (either net x k)
  where
    by_place : (message_at (net ++ x ∷ []) k ≡ message_at net k) ⊎ (message_at (net ++ x ∷ []) k ≡ x) → is_owned (message_at (net ++ x ∷ []) k)
    by_place (inl e) = subst is_owned (sym e) (h k)
    by_place (inr e) = subst is_owned (sym e) f

owned_meets : (net : List Message) (m : ℕ) (f : Fate) → ((k : ℕ) → is_owned (message_at net k)) → (k : ℕ) → is_owned (message_at (meets net m f) k)
owned_meets net m f h k = let a = meets_envelope net m f k in let b = meets_body net m f k in rw (a, b) (h k)

-- in a state the net is sound, and all is its owner's
pub record Owned (s : State) : Type 0 where
  pub sound : Sound s
  pub sessions : (o : ℕ) → session_own o (session_at s o) ≡ true
  pub messages : AreOwn s

owned_sends_one : (s : State) (o : ℕ) (out : Out) → is_own o out.target out.request ≡ true → Owned s → Owned (sends_one s o out)
owned_sends_one s o out e h = record {
  sound = sound_keeps.sends s o out h.sound;
  sessions = λ i. subst (λ (x : Session). session_own i x ≡ true) (sym (sends_same s o out i)) (h.sessions i);
  messages = owned_more s.net _ e h.messages;
}

owned_sends : (s : State) (o : ℕ) (outs : List Out) → all_outs (is_own o) outs ≡ true → Owned s → Owned (sends s o outs)
owned_sends s o [] e h = h
owned_sends s o (out ∷ outs) e h =
    let p = and_parts (is_own o out.target out.request) (all_outs (is_own o) outs) e in
    owned_sends (sends_one s o out) o outs p.1 (owned_sends_one s o out p.0 h)

turned_owned : (s t : State) (o : ℕ) (x : Session) → TurnsTo s t o x → session_own o x ≡ true → ((i : ℕ) → session_own i (session_at s i) ≡ true) → (i : ℕ) → session_own i (session_at t i) ≡ true
turned_owned s t o x d e h i = by_owner (nat_same i o)
  where
    nat_same : (i o : ℕ) → (i ≡ o) ⊎ (i ≡ o → ⊥)
    nat_same i o = grind (arith, common_steps)

    by_turn : (session_at t o ≡ x) ⊎ (session_at t o ≡ session_at s o) → session_own o (session_at t o) ≡ true
    by_turn (inl q) = subst (λ (y : Session). session_own o y ≡ true) (sym q) e
    by_turn (inr q) = subst (λ (y : Session). session_own o y ≡ true) (sym q) (h o)

    by_owner : (i ≡ o) ⊎ (i ≡ o → ⊥) → session_own i (session_at t i) ≡ true
    by_owner (inl q) = subst (λ (j : ℕ). session_own j (session_at t j) ≡ true) (sym q) (by_turn d.turned)
    by_owner (inr n) = subst (λ (y : Session). session_own i y ≡ true) (sym (d.others i n)) (h i)

-- a request that is sent again is its owner's, and goes where it went before
again_owned : (s : State) (o exchange slot : ℕ) (target : Target) (r : Request) → IsAgain s o exchange slot target r → Owned s → is_own o target r ≡ true
again_owned s o exchange slot target r d h =
    let l = d.lost in
    let x = message_at s.net l.number in
    let q = h.sound.sound l.number l.numbered l.sent in
    let e : (message_at s.net x.envelope.exchange).envelope.target ≡ target = sym q.target ∙ l.to in
    let f : (message_at s.net exchange).envelope.target ≡ target = subst (λ (n : ℕ). (message_at s.net n).envelope.target ≡ target) l.of e in
    let a : (message_at s.net x.envelope.exchange).envelope.owner ≡ o = sym q.owner ∙ l.by in
    let b : (message_at s.net exchange).envelope.owner ≡ o = subst (λ (n : ℕ). (message_at s.net n).envelope.owner ≡ o) l.of a in
    let p : is_own_body (message_at s.net exchange).envelope.owner (message_at s.net exchange).envelope.target (message_at s.net exchange).body ≡ true = h.messages exchange in
    subst (λ (y : Body). is_own_body o target y ≡ true) d.asked
    (subst (λ (g : Target). is_own_body o g (message_at s.net exchange).body ≡ true) f
    (subst (λ (j : ℕ). is_own_body j (message_at s.net exchange).envelope.target (message_at s.net exchange).body ≡ true) b p))

pub owned_keeps : (c : Config) → SessionKeeps c Owned
owned_keeps c = record {
  fates = λ s m f h. record { sound = sound_keeps.fates s m f h.sound; sessions = h.sessions; messages = owned_meets s.net m f h.messages };
  shards = λ s m shard latest r d h. record { sound = sound_keeps.shards s m shard latest r d h.sound; sessions = h.sessions; messages = owned_more s.net _ refl h.messages };
  replicas = λ s m service replica r d h. record { sound = sound_keeps.replicas s m service replica r d h.sound; sessions = λ i. subst (λ (x : Session). session_own i x ≡ true) (sym (served_same (serves_replica s m service replica r) (message_at s.net m).envelope.owner service r i)) (h.sessions i); messages = owned_more s.net _ refl h.messages };
  others = λ s t e y h. record {
    sound = sound_keeps.others s t e h.sound;
    sessions = λ i. subst (λ (x : Session). session_own i x ≡ true) (sym (y.same i)) (h.sessions i);
    messages = λ m. subst (λ (net : List Message). is_owned (message_at net m)) (sym e.net) (h.messages m);
  };
  turns = λ s t o x outs e d y h.
      let p = turning-own c s o x outs (h.sessions o) y in
      owned_sends t o outs p.1 (record {
        sound = sound_keeps.others s t e h.sound;
        sessions = turned_owned s t o x d p.0 h.sessions;
        messages = λ m. subst (λ (net : List Message). is_owned (message_at net m)) (sym e.net) (h.messages m);
      });
  again = λ s o exchange slot target r d h. owned_sends_one s o (record { slot = Some slot; target = target; request = r }) (again_owned s o exchange slot target r d h) h;
}

owned_step : (c : Config) (s : State) (step : Step) → refusal c s step ≡ None → Owned s → Owned (stepped c s step)
owned_step c s step r h = session_walk c Owned (owned_keeps c) (ticks s step.at) step.at step.kind (passes c s step r).kind (record { sound = record { first = h.sound.first; sound = h.sound.sound }; sessions = h.sessions; messages = h.messages })

owned_from : (c : Config) (steps : List Step) (u s : State) → run_from c u steps ≡ Some s → Owned u → Owned s
owned_from c [] u s e h = subst Owned (run_none c u s e) h
owned_from c (step ∷ steps) u s e h = let t = run_rest c u step steps s e in owned_from c steps (stepped c u step) s t.1 (owned_step c u step t.0 h)

pub owned_start : (c : Config) → Owned (start c)
owned_start c = record { sound = sound_start c; sessions = start_idle; messages = start_owned }
  where
    start_idle : (o : ℕ) → session_own o (session_at (start c) o) ≡ true
    start_idle zero = refl
    start_idle (suc o) = refl

    start_owned : (m : ℕ) → is_owned (message_at (start c).net m)
    start_owned zero = refl
    start_owned (suc m) = refl

-- every store of a run is of its own call
pub own_run : (c : Config) (steps : List Step) (s : State) → run c steps ≡ Some s → AreOwn s
unfolding run
own_run c steps s e = (owned_from c steps (start c) s e (owned_start c)).messages
