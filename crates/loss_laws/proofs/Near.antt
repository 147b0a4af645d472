-- Every message to a replica goes to one of its service's in the file: a round asks the replicas from number 1
-- to that of the service's.
use Rattle.std.proofs.Common.{◌≡◌, ℕ, zero, suc, ◌+◌, ◌-◌, ◌≤◌, ◌⊎◌, inl, inr, Bool, true, false, List, [], ◌∷◌, ◌++◌, get_or, Option, Some, None, refl, sym, subst, arith}
use Rattle.std.specs.Prelude.{◌&&◌, nat_le, ⊤}
use Rattle.std.proofs.lemmas.Bool.{cond_both, and_parts, and_from}
use Rattle.std.proofs.lemmas.Grind.{common_steps}
use Rattle.rss_names.specs.Services.{same_service}
use Rattle.rss_names.specs.declared.service.ServiceId.{ServiceId}
use Rattle.rss_names.specs.declared.service.Target.{Target}
use Rattle.rss_names.specs.declared.service.Target.TheVariants.{Shard, Replica}
use Rattle.causal_context.specs.Deps.{deps_of}
use Rattle.pipeline_lang.specs.Config.{home_of, replicas_of}
use Rattle.pipeline_lang.specs.declared.config.Config.{Config}
use Rattle.rss_wire.specs.declared.envelope.Envelope.{Envelope}
use Rattle.rss_wire.specs.declared.message.Fate.{Fate}
use Rattle.rss_wire.specs.declared.message.Message.{Message}
use Rattle.rss_wire.specs.declared.messages.Reply.{Reply}
use Rattle.rss_wire.specs.declared.messages.Request.{Request}
use Rattle.rss_wire.specs.Messages.{message_at, meets}
use Rattle.rss_tables.specs.Outs.{Out, awaited}
use Rattle.rss_tables.specs.RegisterSession.{RegSession, phase_request, requests_from, round_requests, session_after, reached, reply_cell}
use Rattle.rss_tables.specs.Round.{hears, is_reached, was_heard, Round}
use Rattle.rss_tables.specs.SnapshotSession.{opening_snapshot}
use Rattle.rss_tables.specs.TransactionSession.{opening_txn}
use Rattle.rss_tables.specs.declared.register_session.RegPhase.{RegPhase}
use Rattle.rss_tables.specs.declared.register_session.RegPhase.TheVariants as phase
use Rattle.rss_tables.specs.declared.register_session.RegWork.TheVariants as work
use Rattle.rss_machine.specs.Calls.{session_for}
use Rattle.rss_machine.specs.Effect.{stepped}
use Rattle.rss_machine.specs.Moves.{session_without, ticks, sends_one, sends, serves_replica}
use Rattle.rss_machine.specs.Refusal.{refusal}
use Rattle.rss_machine.specs.Run.{run}
use Rattle.rss_machine.specs.Session.{Session}
use Rattle.rss_machine.specs.State.{State, start}
use Rattle.rss_machine.specs.declared.session.Session.TheVariants as session
use Rattle.rss_machine.specs.declared.step.Step.{Step}
use Rattle.world_laws.proofs.Replies.{Sound, sound_keeps, sound_start, meets_envelope}
use Rattle.world_laws.proofs.RequestsProper.{either, sends_same, served_same}
use Rattle.world_laws.proofs.Runs.{passes, run_keeps}
use Rattle.world_laws.proofs.SessionMoves.{SessionKeeps, TurnsTo, IsAgain, session_at, Turning, idles, loses_one, fixes_first, asks_register, stamps_register, fix_hears, register_hears, register_stores, snapshot_begins, txn_begins, txn_heard, txn_woken, txn_passed, snap_heard, snap_woken, stub_asks, stub_tells}
use Rattle.world_laws.proofs.SessionWalk.{session_walk}
use Rattle.world_laws.proofs.ShardRequests.{all_outs, lines-fine, snap-lines-fine, decision-fine, txn-fine, passed-fine, snap-fine, woken-fine}

-- a target is near: a shard, or a replica of its service's in the file
abbrev pub is_near : Config → Target → Bool
is_near c (Shard shard) = true
is_near c (Replica service replica) = nat_le 1 replica && nat_le replica (replicas_of c service)

abbrev pub goes_near : Config → Target → Request → Bool
goes_near c target r = is_near c target

-- a round goes over the replicas of its service
abbrev pub IsWide : Config → RegSession → Type 0
IsWide c r = r.round.replicas ≡ replicas_of c r.service

abbrev pub SessionWide : Config → Session → Type 0
SessionWide c (session.Fixing r) = IsWide c r
SessionWide c (session.Register r) = IsWide c r
SessionWide c session.Idle = ⊤
SessionWide c (session.Transaction t) = ⊤
SessionWide c (session.Snapshot t) = ⊤
SessionWide c (session.Settling attempt shards) = ⊤

-- a message is with such a target
abbrev pub IsNear : Config → Message → Type 0
IsNear c x = is_near c x.envelope.target ≡ true

le_true : (a b : ℕ) → a ≤ b → nat_le a b ≡ true
le_true a b l = grind (arith, l)

true_le : (a b : ℕ) → nat_le a b ≡ true → a ≤ b
true_le a b e = grind (arith, e)

module _ (c : Config) where
  shard_near : (n : ℕ) (r : Request) → goes_near c (Shard n) r ≡ true
  shard_near n r = refl

  -- a round of a session
  requests_near : (id : ServiceId) (q : Option Request) (cut : List Bool) (left from : ℕ) → 1 ≤ from → from + left ≤ 1 + replicas_of c id → all_outs (goes_near c) (awaited (requests_from id q from cut left)) ≡ true
  requests_near id None cut left from l m = refl
  requests_near id (Some r) cut zero from l m = refl
  requests_near id (Some r) cut (suc left) from l m =
      let a = requests_near id (Some r) cut left (from + 1) (omega (arith, l)) (omega (arith, m)) in
      let b = and_from (nat_le 1 from) (nat_le from (replicas_of c id)) (le_true 1 from l) (le_true from (replicas_of c id) (omega (arith, m))) in
      cond_both (get_or cut (from - 1) false) _ _ (λ (rs : List (Target × Request)). all_outs (goes_near c) (awaited rs) ≡ true) (λ t. a) (λ f. and_from (is_near c (Replica id from)) _ b a)

  round_near : (r : RegSession) → IsWide c r → all_outs (goes_near c) (awaited (round_requests r)) ≡ true
  round_near r e = requests_near r.service (phase_request r.call r.work r.phase) r.round.cut r.round.replicas 1 (omega arith) (omega (arith, e))

  reached_wide : (r : RegSession) (p : RegPhase) → IsWide c r → IsWide c (reached r p)
  reached_wide r phase.Fixing h = h
  reached_wide r phase.Asking h = h
  reached_wide r phase.Stamping h = h
  reached_wide r (phase.Storing stamp) h = h
  reached_wide r (phase.Done end) h = h

  after_wide : (r : RegSession) (from : ℕ) (p : Reply) → IsWide c r → IsWide c (session_after r from p)
  after_wide r from p h =
      let g = record r { round = hears r.round from (reply_cell p) } in
      let w : IsWide c g = cond_both (was_heard r.round from) r.round _ (λ (x : Round). x.replicas ≡ replicas_of c r.service) (λ t. h) (λ f. h) in
      cond_both (is_reached g.round) (reached g r.phase) g (IsWide c) (λ t. reached_wide g r.phase w) (λ f. w)

  without_wide : (x : Session) (target : Target) → SessionWide c x → SessionWide c (session_without x target)
  without_wide (session.Fixing r) (Replica id replica) k = cond_both (same_service r.service id) _ r (IsWide c) (λ t. k) (λ f. k)
  without_wide (session.Register r) (Replica id replica) k = cond_both (same_service r.service id) _ r (IsWide c) (λ t. k) (λ f. k)
  without_wide (session.Fixing r) (Shard shard) k = k
  without_wide (session.Register r) (Shard shard) k = k
  without_wide session.Idle target k = k
  without_wide (session.Transaction t) target k = k
  without_wide (session.Snapshot t) target k = k
  without_wide (session.Settling attempt shards) target k = k

  turning_near : (s : State) (o : ℕ) (x : Session) (outs : List Out) → SessionWide c (session_at s o) → Turning c s o x outs → SessionWide c x × (all_outs (goes_near c) outs ≡ true)
  turning_near s o _ _ p idles = (tt, refl)
  turning_near s o _ _ p (loses_one target) = (without_wide (session_at s o) target p, refl)
  turning_near s o _ _ p (fixes_first id deps w) = (refl, round_near (session_for c w o (work.Fix (deps_of id deps)) id) refl)
  turning_near s o _ _ p (asks_register w key) = (refl, round_near (session_for c w o (work.Read key) key.service) refl)
  turning_near s o _ _ p (stamps_register w key value) = (refl, round_near (session_for c w o (work.Write key value) key.service) refl)
  turning_near s o _ _ p (fix_hears f from r e) = (after_wide f from r (subst (SessionWide c) e p), refl)
  turning_near s o _ _ p (register_hears f from r e) = (after_wide f from r (subst (SessionWide c) e p), refl)
  turning_near s o _ _ p (register_stores f from r e a) = let k = after_wide f from r (subst (SessionWide c) e p) in (k, round_near (session_after f from r) k)
  turning_near s o _ _ p (snapshot_begins keys least at) = (tt, snap-lines-fine (goes_near c) shard_near (opening_snapshot (home_of c) o keys least at) (opening_snapshot (home_of c) o keys least at).lines)
  turning_near s o _ _ p (txn_begins reads guard writes least margin) = let t = opening_txn (home_of c) o reads guard writes least margin in (tt, lines-fine (goes_near c) shard_near t t.lines)
  turning_near s o _ _ p (txn_heard t l at r e) = (tt, txn-fine (goes_near c) shard_near t l at r)
  turning_near s o _ _ p (txn_woken t l e) = (tt, woken-fine (goes_near c) shard_near l.shard l.state)
  turning_near s o _ _ p (txn_passed t e) = (tt, passed-fine (goes_near c) shard_near t t.phase)
  turning_near s o _ _ p (snap_heard t l r e) = (tt, snap-fine (goes_near c) shard_near t l r)
  turning_near s o _ _ p (snap_woken t l e) = (tt, woken-fine (goes_near c) shard_near l.shard l.state)
  turning_near s o _ _ p (stub_asks attempt shards) = (tt, refl)
  turning_near s o _ _ p (stub_tells attempt shards o' e) = (tt, decision-fine (goes_near c) shard_near attempt o' shards)

  -- messages
  near_more : (net : List Message) (x : Message) → IsNear c x → ((k : ℕ) → IsNear c (message_at net k)) → (k : ℕ) → IsNear c (message_at (net ++ x ∷ []) k)
  near_more net x f h k = by_place (either net x k)
    where
      by_place : (message_at (net ++ x ∷ []) k ≡ message_at net k) ⊎ (message_at (net ++ x ∷ []) k ≡ x) → IsNear c (message_at (net ++ x ∷ []) k)
      by_place (inl e) = subst (IsNear c) (sym e) (h k)
      by_place (inr e) = subst (IsNear c) (sym e) f

  near_meets : (net : List Message) (m : ℕ) (f : Fate) → ((k : ℕ) → IsNear c (message_at net k)) → (k : ℕ) → IsNear c (message_at (meets net m f) k)
  near_meets net m f h k = subst (λ (v : Envelope). is_near c v.target ≡ true) (sym (meets_envelope net m f k)) (h k)

-- rounds are wide, and messages near
pub record Near (c : Config) (s : State) : Type 0 where
  pub sound : Sound s
  pub sessions : (o : ℕ) → SessionWide c (session_at s o)
  pub messages : (m : ℕ) → IsNear c (message_at s.net m)

module _ (c : Config) where
  near_one : (s : State) (o : ℕ) (out : Out) → is_near c out.target ≡ true → Near c s → Near c (sends_one s o out)
  near_one s o out e h = record {
    sound = sound_keeps.sends s o out h.sound;
    sessions = λ i. subst (SessionWide c) (sym (sends_same s o out i)) (h.sessions i);
    messages = near_more c s.net _ e h.messages;
  }

  near_sends : (s : State) (o : ℕ) (outs : List Out) → all_outs (goes_near c) outs ≡ true → Near c s → Near c (sends s o outs)
  near_sends s o [] e h = h
  near_sends s o (out ∷ outs) e h =
      let p = and_parts (goes_near c out.target out.request) (all_outs (goes_near c) outs) e in
      near_sends (sends_one s o out) o outs p.1 (near_one s o out p.0 h)

  turned_wide : (s t : State) (o : ℕ) (x : Session) → TurnsTo s t o x → SessionWide c x → ((i : ℕ) → SessionWide c (session_at s i)) → (i : ℕ) → SessionWide c (session_at t i)
  turned_wide s t o x d e h i = by_owner (nat_same i o)
    where
      nat_same : (i o : ℕ) → (i ≡ o) ⊎ (i ≡ o → ⊥)
      nat_same i o = grind (arith, common_steps)

      by_turn : (session_at t o ≡ x) ⊎ (session_at t o ≡ session_at s o) → SessionWide c (session_at t o)
      by_turn (inl q) = subst (SessionWide c) (sym q) e
      by_turn (inr q) = subst (SessionWide c) (sym q) (h o)

      by_owner : (i ≡ o) ⊎ (i ≡ o → ⊥) → SessionWide c (session_at t i)
      by_owner (inl q) = subst (λ (j : ℕ). SessionWide c (session_at t j)) (sym q) (by_turn d.turned)
      by_owner (inr n) = subst (SessionWide c) (sym (d.others i n)) (h i)

  again_near : (s : State) (o exchange slot : ℕ) (target : Target) (r : Request) → IsAgain s o exchange slot target r → Near c s → is_near c target ≡ true
  again_near s o exchange slot target r d h = let l = d.lost in subst (λ (g : Target). is_near c g ≡ true) l.to (h.messages l.number)

  near_keeps : SessionKeeps c (Near c)
  near_keeps = record {
    fates = λ s m f h. record { sound = sound_keeps.fates s m f h.sound; sessions = h.sessions; messages = near_meets c s.net m f h.messages };
    shards = λ s m shard latest r d h. record { sound = sound_keeps.shards s m shard latest r d h.sound; sessions = h.sessions; messages = near_more c s.net _ (h.messages m) h.messages };
    replicas = λ s m service replica r d h. record { sound = sound_keeps.replicas s m service replica r d h.sound; sessions = λ i. subst (SessionWide c) (sym (served_same (serves_replica s m service replica r) (message_at s.net m).envelope.owner service r i)) (h.sessions i); messages = near_more c s.net _ (h.messages m) h.messages };
    others = λ s t e y h. record {
      sound = sound_keeps.others s t e h.sound;
      sessions = λ i. subst (SessionWide c) (sym (y.same i)) (h.sessions i);
      messages = λ m. subst (λ (net : List Message). IsNear c (message_at net m)) (sym e.net) (h.messages m);
    };
    turns = λ s t o x outs e d y h.
        let p = turning_near c s o x outs (h.sessions o) y in
        near_sends t o outs p.1 (record {
          sound = sound_keeps.others s t e h.sound;
          sessions = turned_wide s t o x d p.0 h.sessions;
          messages = λ m. subst (λ (net : List Message). IsNear c (message_at net m)) (sym e.net) (h.messages m);
        });
    again = λ s o exchange slot target r d h. near_one s o (record { slot = Some slot; target = target; request = r }) (again_near s o exchange slot target r d h) h;
  }

  near_step : (s : State) (step : Step) → refusal c s step ≡ None → Near c s → Near c (stepped c s step)
  near_step s step r h = session_walk c (Near c) near_keeps (ticks s step.at) step.at step.kind (passes c s step r).kind (record { sound = record { first = h.sound.first; sound = h.sound.sound }; sessions = h.sessions; messages = h.messages })

  near_start : Near c (start c)
  near_start = record { sound = sound_start c; sessions = idle; messages = none }
    where
      idle : (o : ℕ) → SessionWide c (session_at (start c) o)
      idle zero = tt
      idle (suc o) = tt

      none : (m : ℕ) → IsNear c (message_at (start c).net m)
      none zero = refl
      none (suc m) = refl

  near_run : (steps : List Step) (s : State) → run c steps ≡ Some s → Near c s
  near_run steps s e = run_keeps c (Near c) near_step near_start steps s e

  -- every message to a replica goes to one from number 1 to that of its service's
  pub replicas_within : (steps : List Step) (s : State) → run c steps ≡ Some s → (m : ℕ) (service : ServiceId) (replica : ℕ) → (message_at s.net m).envelope.target ≡ Replica service replica → (1 ≤ replica) × (replica ≤ replicas_of c service)
  replicas_within steps s e m service replica f =
      let p = and_parts (nat_le 1 replica) (nat_le replica (replicas_of c service)) (subst (λ (t : Target). is_near c t ≡ true) f ((near_run steps s e).messages m)) in
      (true_le 1 replica p.0, true_le replica (replicas_of c service) p.1)
