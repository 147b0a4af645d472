-- Every message of a run is proper: a replica is asked about registers of its own service alone.
use Rattle.std.proofs.Common.{◌≡◌, ℕ, zero, suc, ◌-◌, ◌<◌, ◌≤◌, ◌⊎◌, inl, inr, true, List, [], ◌∷◌, ◌++◌, length, get_or, Some, None, refl, sym, ◌∙◌, subst, arith}
use Rattle.std.proofs.lemmas.Bool.{and_parts}
use Rattle.std.proofs.lemmas.Grind.{common_steps}
use Rattle.rss_names.specs.declared.service.ServiceId.{ServiceId}
use Rattle.rss_names.specs.declared.service.Target.{Target}
use Rattle.pipeline_lang.specs.declared.config.Config.{Config}
use Rattle.rss_wire.specs.declared.message.Body.{Body}
use Rattle.rss_wire.specs.declared.message.Fate.{Fate}
use Rattle.rss_wire.specs.declared.message.Message.{Message}
use Rattle.rss_wire.specs.declared.messages.Request.{Request}
use Rattle.rss_wire.specs.Messages.{message_at, no_message, meets}
use Rattle.rss_tables.specs.Outs.{Out}
use Rattle.rss_machine.specs.Effect.{stepped}
use Rattle.rss_machine.specs.Moves.{ticks, sends_one, sends, serves_replica, notes_served}
use Rattle.rss_machine.specs.Refusal.{refusal}
use Rattle.rss_machine.specs.Run.{run, run_from}
use Rattle.rss_machine.specs.Session.{Session}
use Rattle.rss_machine.specs.State.{State, start}
use Rattle.rss_machine.specs.declared.step.Step.{Step}
use Rattle.world_laws.specs.Proper.{is_proper, is_proper_body, AreProper}
use Rattle.world_laws.proofs.Looks.{looks, get_or_append, get_or_one, get_or_past}
use Rattle.world_laws.proofs.Runs.{passes, run_rest, run_none}
use Rattle.world_laws.proofs.Replies.{Sound, sound_keeps, sound_start, meets_envelope, meets_body}
use Rattle.world_laws.proofs.Properly.{outs_proper, session_proper, turning-proper}
use Rattle.world_laws.proofs.SessionMoves.{SessionKeeps, TurnsTo, IsAgain, session_at}
use Rattle.world_laws.proofs.SessionWalk.{session_walk}

-- a message is proper
abbrev is_fine : Message → Type 0
is_fine x = is_proper_body x.envelope.target x.body ≡ true

-- a message of a longer net is one of the shorter, or the new one
pub either : (net : List Message) (x : Message) (k : ℕ) → (message_at (net ++ x ∷ []) k ≡ message_at net k) ⊎ (message_at (net ++ x ∷ []) k ≡ x)
either net x k = by_place (get_or_append net (x ∷ []) k no_message) (get_or_one x (k - length net) no_message) (get_or_past net k no_message)
  where
    by_place : ((get_or (net ++ x ∷ []) k no_message ≡ get_or net k no_message) × (k < length net)) ⊎ ((get_or (net ++ x ∷ []) k no_message ≡ get_or (x ∷ []) (k - length net) no_message) × (length net ≤ k)) → ((get_or (x ∷ []) (k - length net) no_message ≡ x) × (k - length net ≡ 0)) ⊎ ((get_or (x ∷ []) (k - length net) no_message ≡ no_message) × (0 < k - length net)) → (k < length net) ⊎ (get_or net k no_message ≡ no_message) → (message_at (net ++ x ∷ []) k ≡ message_at net k) ⊎ (message_at (net ++ x ∷ []) k ≡ x)
    by_place (inl a) b d = inl a.0
    by_place (inr a) (inl b) d = inr (a.0 ∙ b.0)
    by_place (inr a) (inr b) (inl l) = absurd (let z = a.1 in omega (arith, z, l))
    by_place (inr a) (inr b) (inr p) = inl (a.0 ∙ (b.0 ∙ sym p))

fine_more : (net : List Message) (x : Message) → is_fine x → ((k : ℕ) → is_fine (message_at net k)) → (k : ℕ) → is_fine (message_at (net ++ x ∷ []) k)
fine_more net x f h k = by_place (either net x k)
  where
    by_place : (message_at (net ++ x ∷ []) k ≡ message_at net k) ⊎ (message_at (net ++ x ∷ []) k ≡ x) → is_fine (message_at (net ++ x ∷ []) k)
    by_place (inl e) = subst is_fine (sym e) (h k)
    by_place (inr e) = subst is_fine (sym e) f

fine_meets : (net : List Message) (m : ℕ) (f : Fate) → ((k : ℕ) → is_fine (message_at net k)) → (k : ℕ) → is_fine (message_at (meets net m f) k)
fine_meets net m f h k = let a = meets_envelope net m f k in let b = meets_body net m f k in rw (a, b) (h k)

-- in a state the net is sound, what owners have under way is proper, and each message is
pub record Fine (s : State) : Type 0 where
  pub sound : Sound s
  pub sessions : (o : ℕ) → session_proper (session_at s o) ≡ true
  pub messages : AreProper s

pub sends_same : (s : State) (o : ℕ) (out : Out) (i : ℕ) → session_at (sends_one s o out) i ≡ session_at s i
sends_same s o out i = grind (arith, looks)

pub served_same : (s : State) (o : ℕ) (service : ServiceId) (r : Request) (i : ℕ) → session_at (notes_served s o service r) i ≡ session_at s i
served_same s o service r i = grind (arith, looks)

fine_sends_one : (s : State) (o : ℕ) (out : Out) → is_proper out.target out.request ≡ true → Fine s → Fine (sends_one s o out)
fine_sends_one s o out e h = record {
  sound = sound_keeps.sends s o out h.sound;
  sessions = λ i. subst (λ (x : Session). session_proper x ≡ true) (sym (sends_same s o out i)) (h.sessions i);
  messages = fine_more s.net _ e h.messages;
}

fine_sends : (s : State) (o : ℕ) (outs : List Out) → outs_proper outs ≡ true → Fine s → Fine (sends s o outs)
fine_sends s o [] e h = h
fine_sends s o (out ∷ outs) e h =
    let p = and_parts (is_proper out.target out.request) (outs_proper outs) e in
    fine_sends (sends_one s o out) o outs p.1 (fine_sends_one s o out p.0 h)

-- the sessions after one has turned
turned_fine : (s t : State) (o : ℕ) (x : Session) → TurnsTo s t o x → session_proper x ≡ true → ((i : ℕ) → session_proper (session_at s i) ≡ true) → (i : ℕ) → session_proper (session_at t i) ≡ true
turned_fine s t o x d e h i = by_owner (nat_same i o)
  where
    nat_same : (i o : ℕ) → (i ≡ o) ⊎ (i ≡ o → ⊥)
    nat_same i o = grind (arith, common_steps)

    by_turn : (session_at t o ≡ x) ⊎ (session_at t o ≡ session_at s o) → session_proper (session_at t o) ≡ true
    by_turn (inl q) = subst (λ (y : Session). session_proper y ≡ true) (sym q) e
    by_turn (inr q) = subst (λ (y : Session). session_proper y ≡ true) (sym q) (h o)

    by_owner : (i ≡ o) ⊎ (i ≡ o → ⊥) → session_proper (session_at t i) ≡ true
    by_owner (inl q) = subst (λ (j : ℕ). session_proper (session_at t j) ≡ true) (sym q) (by_turn d.turned)
    by_owner (inr n) = subst (λ (y : Session). session_proper y ≡ true) (sym (d.others i n)) (h i)

-- a request that is sent again goes where it went before
again_fine : (s : State) (o exchange slot : ℕ) (target : Target) (r : Request) → IsAgain s o exchange slot target r → Fine s → is_proper target r ≡ true
again_fine s o exchange slot target r d h =
    let l = d.lost in
    let x = message_at s.net l.number in
    let q = h.sound.sound l.number l.numbered l.sent in
    let e : (message_at s.net x.envelope.exchange).envelope.target ≡ target = sym q.target ∙ l.to in
    let f : (message_at s.net exchange).envelope.target ≡ target = subst (λ (n : ℕ). (message_at s.net n).envelope.target ≡ target) l.of e in
    let p : is_proper_body (message_at s.net exchange).envelope.target (message_at s.net exchange).body ≡ true = h.messages exchange in
    subst (λ (b : Body). is_proper_body target b ≡ true) d.asked (subst (λ (g : Target). is_proper_body g (message_at s.net exchange).body ≡ true) f p)

pub fine_keeps : (c : Config) → SessionKeeps c Fine
fine_keeps c = record {
  fates = λ s m f h. record { sound = sound_keeps.fates s m f h.sound; sessions = h.sessions; messages = fine_meets s.net m f h.messages };
  shards = λ s m shard latest r d h. record { sound = sound_keeps.shards s m shard latest r d h.sound; sessions = h.sessions; messages = fine_more s.net _ refl h.messages };
  replicas = λ s m service replica r d h. record { sound = sound_keeps.replicas s m service replica r d h.sound; sessions = λ i. subst (λ (x : Session). session_proper x ≡ true) (sym (served_same (serves_replica s m service replica r) (message_at s.net m).envelope.owner service r i)) (h.sessions i); messages = fine_more s.net _ refl h.messages };
  others = λ s t e y h. record {
    sound = sound_keeps.others s t e h.sound;
    sessions = λ i. subst (λ (x : Session). session_proper x ≡ true) (sym (y.same i)) (h.sessions i);
    messages = λ m. subst (λ (net : List Message). is_fine (message_at net m)) (sym e.net) (h.messages m);
  };
  turns = λ s t o x outs e d y h.
      let p = turning-proper c s o x outs (h.sessions o) y in
      fine_sends t o outs p.1 (record {
        sound = sound_keeps.others s t e h.sound;
        sessions = turned_fine s t o x d p.0 h.sessions;
        messages = λ m. subst (λ (net : List Message). is_fine (message_at net m)) (sym e.net) (h.messages m);
      });
  again = λ s o exchange slot target r d h. fine_sends_one s o (record { slot = Some slot; target = target; request = r }) (again_fine s o exchange slot target r d h) h;
}

fine_step : (c : Config) (s : State) (step : Step) → refusal c s step ≡ None → Fine s → Fine (stepped c s step)
fine_step c s step r h = session_walk c Fine (fine_keeps c) (ticks s step.at) step.at step.kind (passes c s step r).kind (record { sound = record { first = h.sound.first; sound = h.sound.sound }; sessions = h.sessions; messages = h.messages })

fine_from : (c : Config) (steps : List Step) (u s : State) → run_from c u steps ≡ Some s → Fine u → Fine s
fine_from c [] u s e h = subst Fine (run_none c u s e) h
fine_from c (step ∷ steps) u s e h = let t = run_rest c u step steps s e in fine_from c steps (stepped c u step) s t.1 (fine_step c u step t.0 h)

pub fine_start : (c : Config) → Fine (start c)
fine_start c = record { sound = sound_start c; sessions = start_idle; messages = start_fine }
  where
    start_idle : (o : ℕ) → session_proper (session_at (start c) o) ≡ true
    start_idle zero = refl
    start_idle (suc o) = refl

    start_fine : (m : ℕ) → is_fine (message_at (start c).net m)
    start_fine zero = refl
    start_fine (suc m) = refl

-- every message of a run is proper
pub proper_run : (c : Config) (steps : List Step) (s : State) → run c steps ≡ Some s → AreProper s
unfolding run
proper_run c steps s e = (fine_from c steps (start c) s e (fine_start c)).messages
