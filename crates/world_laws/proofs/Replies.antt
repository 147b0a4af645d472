-- Every message is sound, in every run: replies fit their requests.
use Rattle.std.proofs.Common.{◌≡◌, ℕ, ◌<◌, ◌≤◌, ◌⊎◌, inl, inr, Bool, true, false, List, [], ◌∷◌, ◌++◌, length, Some, None, refl, ap, sym, ◌∙◌, subst, arith}
use Rattle.std.proofs.lemmas.Bool.{true≢false}
use Rattle.rss_names.specs.declared.service.Target.{Target}
use Rattle.pipeline_lang.specs.declared.config.Config.{Config}
use Rattle.rss_wire.specs.declared.envelope.Envelope.{Envelope}
use Rattle.rss_wire.specs.declared.message.Body.TheVariants as body
use Rattle.rss_wire.specs.declared.message.Message.{Message}
use Rattle.rss_wire.specs.declared.message.Fate.{Fate}
use Rattle.rss_wire.specs.declared.message.Fate.TheVariants.{Pending}
use Rattle.rss_wire.specs.declared.messages.Request.{Request}
use Rattle.rss_wire.specs.declared.messages.Reply.{Reply}
use Rattle.rss_wire.specs.Messages.{message_at, asks, answers, meets, request_envelope, reply_envelope}
use Rattle.rss_tables.specs.ReplicaRow.{replica_reply}
use Rattle.rss_tables.specs.ShardRow.{shard_reply}
use Rattle.rss_machine.specs.State.{State, start, shard_at, cells_at, owner_at}
use Rattle.rss_machine.specs.Moves.{ticks}
use Rattle.rss_machine.specs.Effect.{stepped}
use Rattle.rss_machine.specs.Refusal.{refusal}
use Rattle.rss_machine.specs.Run.{run, run_from}
use Rattle.rss_machine.specs.declared.step.Step.{Step}
use Rattle.world_laws.specs.Exchanges.{is_request, Fits, IsSound, Exchanges}
use Rattle.world_laws.proofs.Looks.{looks}
use Rattle.world_laws.proofs.Runs.{passes, run_rest, run_none}
use Rattle.world_laws.proofs.StoreMoves.{StoreKeeps}
use Rattle.world_laws.proofs.StoreWalk.{store_walk}

-- bodies that are the same say the same
request_same : (q p : Request) → body.Request q ≡ body.Request p → q ≡ p
request_same q p e = cc

reply_same : (r a : Reply) → body.Reply r ≡ body.Reply a → r ≡ a
reply_same r a e = cc

-- soundness looks at what messages say, not at their fate
sound_same : (m : ℕ) (x z y w : Message) → y.envelope ≡ x.envelope → y.body ≡ x.body → w.envelope ≡ z.envelope → w.body ≡ z.body → IsSound m x z → IsSound m y w
sound_same m x z y w a b e d h = record {
  number = grind (arith, a, h.number);
  flag = grind (arith, a, b, h.flag);
  itself = λ i. let q = h.itself (grind (arith, b, i)) in grind (arith, a, q);
  earlier = λ i. let q = h.earlier (grind (arith, b, i)) in grind (arith, a, q);
  some = grind (arith, a, h.some);
  request = grind (arith, d, h.request);
  owner = grind (arith, a, e, h.owner);
  stage = grind (arith, a, e, h.stage);
  target = grind (arith, a, e, h.target);
  ordinal = grind (arith, a, e, h.ordinal);
  fits = λ q r i j. subst (λ (v : Envelope). Fits v.target q r) (sym a) (h.fits q r (sym b ∙ i) (sym d ∙ j));
}

pub meets_envelope : (net : List Message) (m : ℕ) (f : Fate) (k : ℕ) → (message_at (meets net m f) k).envelope ≡ (message_at net k).envelope
meets_envelope net m f k = grind (arith, looks)

pub meets_body : (net : List Message) (m : ℕ) (f : Fate) (k : ℕ) → (message_at (meets net m f) k).body ≡ (message_at net k).body
meets_body net m f k = grind (arith, looks)

-- a message meets a fate
sound_meets : (net : List Message) (m : ℕ) (f : Fate) → Exchanges net → Exchanges (meets net m f)
sound_meets net m f h k z l =
    let e = meets_envelope net m f k in
    let j = ap (λ (v : Envelope). v.exchange) e in
    let old = (message_at net k).envelope.exchange in
    subst (λ (n : ℕ). IsSound k (message_at (meets net m f) k) (message_at (meets net m f) n)) (sym j)
    (sound_same k (message_at net k) (message_at net old) (message_at (meets net m f) k) (message_at (meets net m f) old) e (meets_body net m f k) (meets_envelope net m f old) (meets_body net m f old) (h k z (grind (arith, looks, l))))

pub old_message : (net : List Message) (x : Message) (k : ℕ) → k < length net → message_at (net ++ x ∷ []) k ≡ message_at net k
old_message net x k l = grind (arith, looks, l)

pub new_message : (net : List Message) (x : Message) → message_at (net ++ x ∷ []) (length net) ≡ x
new_message net x = grind (arith, looks)

pub place : (net : List Message) (x : Message) (k : ℕ) → k < length (net ++ x ∷ []) → (k < length net) ⊎ (k ≡ length net)
place net x k l = grind (arith, looks, l)

-- an exchange is no later than its message
pub exchange_there : (net : List Message) → Exchanges net → (k : ℕ) → 0 < k → k < length net → (message_at net k).envelope.exchange ≤ k
exchange_there net h k z l = by_body (is_request (message_at net k).body) refl
  where
    by_body : (b : Bool) → is_request (message_at net k).body ≡ b → (message_at net k).envelope.exchange ≤ k
    by_body true e = let q = (h k z l).itself e in omega (arith, q)
    by_body false e = let q = (h k z l).earlier e in omega (arith, q)

-- one more message, which is sound with the message of its exchange
sound_more : (net : List Message) (x : Message) → Exchanges net → IsSound (length net) x (message_at (net ++ x ∷ []) x.envelope.exchange) → Exchanges (net ++ x ∷ [])
sound_more net x h n k z l = by_place (place net x k l)
  where
    by_place : (k < length net) ⊎ (k ≡ length net) → IsSound k (message_at (net ++ x ∷ []) k) (message_at (net ++ x ∷ []) (message_at (net ++ x ∷ []) k).envelope.exchange)
    by_place (inl f) =
        let g = exchange_there net h k z f in
        let o = old_message net x k f in
        let i = old_message net x (message_at net k).envelope.exchange (omega (arith, g, f)) in
        subst (λ (y : Message). IsSound k y (message_at (net ++ x ∷ []) y.envelope.exchange)) (sym o)
        (subst (λ (y : Message). IsSound k (message_at net k) y) (sym i) (h k z f))
    by_place (inr e) =
        subst (λ (j : ℕ). IsSound j (message_at (net ++ x ∷ []) j) (message_at (net ++ x ∷ []) (message_at (net ++ x ∷ []) j).envelope.exchange)) (sym e)
        (subst (λ (y : Message). IsSound (length net) y (message_at (net ++ x ∷ []) y.envelope.exchange)) (sym (new_message net x)) n)

-- a request is sent
abbrev asked_message : List Message → ℕ → ℕ → Target → Request → Message
asked_message net o n t r = record { envelope = request_envelope net o n t; body = body.Request r; fate = Pending }

sound_asks : (net : List Message) (o n : ℕ) (t : Target) (r : Request) → 0 < length net → Exchanges net → Exchanges (asks net o n t r)
sound_asks net o n t r s h =
    let x = asked_message net o n t r in
    sound_more net x h
    (subst (λ (y : Message). IsSound (length net) x y) (sym (new_message net x))
    (record { number = refl; flag = refl; itself = λ i. refl; earlier = λ i. absurd (true≢false i); some = s; request = refl; owner = refl; stage = refl; target = refl; ordinal = refl; fits = λ q a i j. absurd (cc) }))

-- a request that was sent is answered by its target's row
abbrev answered_message : List Message → ℕ → Reply → Message
answered_message net m r = record { envelope = reply_envelope net m; body = body.Reply r; fate = Pending }

sound_answers : (net : List Message) (m : ℕ) (q : Request) (r : Reply) → 0 < m → m < length net → (message_at net m).body ≡ body.Request q → Fits (message_at net m).envelope.target q r → Exchanges net → Exchanges (answers net m r)
sound_answers net m q r z l b f h =
    let x = answered_message net m r in
    sound_more net x h
    (subst (λ (y : Message). IsSound (length net) x y) (sym (old_message net x m l))
    (record { number = refl; flag = refl; itself = λ i. absurd (true≢false (sym i)); earlier = λ i. l; some = z; request = ap is_request b; owner = refl; stage = refl; target = refl; ordinal = refl; fits = λ p a i j. same_fits p a i j }))
  where
    same_fits : (p : Request) (a : Reply) → body.Reply r ≡ body.Reply a → (message_at net m).body ≡ body.Request p → Fits (message_at net m).envelope.target p a
    same_fits p a i j =
        let e : q ≡ p = request_same q p (sym b ∙ j) in
        let d : r ≡ a = reply_same r a i in
        subst (λ (v : Reply). Fits (message_at net m).envelope.target p v) d (subst (λ (v : Request). Fits (message_at net m).envelope.target v r) e f)

-- the net is sound, and its place 0 is taken
pub record Sound (s : State) : Type 0 where
  pub first : 0 < length s.net
  pub sound : Exchanges s.net

pub sound_keeps : StoreKeeps Sound
sound_keeps = record {
  fates = λ s m f h. record { first = grind (arith, looks, h.first); sound = sound_meets s.net m f h.sound };
  sends = λ s o out h. record { first = grind (arith, looks, h.first); sound = sound_asks s.net o (owner_at s o).stage out.target out.request h.first h.sound };
  shards = λ s m shard latest r d h. record {
    first = grind (arith, looks, h.first);
    sound = sound_answers s.net m r (shard_reply (shard_at s shard) latest r) d.numbered d.sent d.asks
        (subst (λ (t : Target). Fits t r (shard_reply (shard_at s shard) latest r)) (sym d.to) (record { shard = shard_at s shard; latest = latest; reply = refl })) h.sound;
  };
  replicas = λ s m service replica r d h. record {
    first = grind (arith, looks, h.first);
    sound = sound_answers s.net m r (replica_reply (cells_at s service replica) r) d.numbered d.sent d.asks
        (subst (λ (t : Target). Fits t r (replica_reply (cells_at s service replica) r)) (sym d.to) (record { cells = cells_at s service replica; reply = refl })) h.sound;
  };
  others = λ s t e h. record { first = subst (λ (n : List Message). 0 < length n) (sym e.net) h.first; sound = subst Exchanges (sym e.net) h.sound };
}

sound_step : (c : Config) (s : State) (step : Step) → refusal c s step ≡ None → Sound s → Sound (stepped c s step)
sound_step c s step r h = store_walk c Sound sound_keeps (ticks s step.at) step.at step.kind (passes c s step r).kind (record { first = h.first; sound = h.sound })

sound_from : (c : Config) (steps : List Step) (u s : State) → run_from c u steps ≡ Some s → Sound u → Sound s
sound_from c [] u s e h = subst Sound (run_none c u s e) h
sound_from c (step ∷ steps) u s e h = let t = run_rest c u step steps s e in sound_from c steps (stepped c u step) s t.1 (sound_step c u step t.0 h)

pub sound_start : (c : Config) → Sound (start c)
sound_start c = record { first = omega arith; sound = λ m z l. absurd (omega (arith, z, l)) }

-- every message of a run is sound
pub exchanges_run : (c : Config) (steps : List Step) (s : State) → run c steps ≡ Some s → Exchanges s.net
unfolding run
exchanges_run c steps s e = (sound_from c steps (start c) s e (sound_start c)).sound
