-- A reply to a request that was sent after a state tells at least what the replica held in that state.
use Rattle.std.proofs.Common.{◌≡◌, ℕ, ◌<◌, ◌≤◌, true, List, [], ◌∷◌, ◌++◌, All, length, Some, None, ap, sym, ◌∙◌, subst, arith}
use Rattle.std.proofs.lemmas.List.Elements.{All-cons, All-nil, All-weaker}
use Rattle.rss_names.specs.declared.service.Key.{Key}
use Rattle.rss_names.specs.declared.service.ServiceId.{ServiceId}
use Rattle.rss_names.specs.declared.service.Target.{Target}
use Rattle.rss_names.specs.declared.service.Target.TheVariants.{Shard, Replica}
use Rattle.pipeline_lang.specs.declared.config.Config.{Config}
use Rattle.rss_wire.specs.Messages.{message_at}
use Rattle.rss_wire.specs.declared.message.Body.TheVariants as body
use Rattle.rss_wire.specs.declared.message.Message.{Message}
use Rattle.rss_wire.specs.declared.messages.RegReply.{RegReply}
use Rattle.rss_wire.specs.declared.messages.Reply.{Reply}
use Rattle.rss_wire.specs.declared.messages.Request.{Request}
use Rattle.rss_wire.specs.declared.messages.Request.TheVariants as request
use Rattle.rss_machine.specs.Effect.{stepped}
use Rattle.rss_machine.specs.Moves.{ticks}
use Rattle.rss_machine.specs.Refusal.{refusal}
use Rattle.rss_machine.specs.Run.{run}
use Rattle.rss_machine.specs.State.{State, owner_at}
use Rattle.rss_machine.specs.declared.step.Step.{Step}
use Rattle.world_laws.proofs.Looks.{looks, some_is}
use Rattle.world_laws.proofs.Runs.{passes}
use Rattle.world_laws.proofs.Runs.{run_keeps}
use Rattle.world_laws.proofs.Replies.{Sound, sound_keeps, sound_start}
use Rattle.std.proofs.Common.{◌-◌, ◌⊎◌, inl, inr}
use Rattle.rss_wire.specs.declared.envelope.Envelope.{Envelope}
use Rattle.rss_wire.specs.declared.message.Fate.{Fate}
use Rattle.rss_wire.specs.declared.message.Fate.TheVariants.{Pending}
use Rattle.rss_wire.specs.Messages.{meets, asks, request_envelope}
use Rattle.world_laws.specs.Exchanges.{Exchanges}
use Rattle.world_laws.proofs.Replies.{meets_envelope, meets_body}
use Rattle.carstamps.specs.declared.carstamp.Carstamp.{Carstamp}
use Rattle.carstamps.specs.Stamp.{stamp_le}
use Rattle.rss_wire.specs.Messages.{answers, reply_envelope}
use Rattle.rss_tables.specs.ReplicaRow.{held_at, replica_reply}
use Rattle.rss_tables.specs.ShardRow.{shard_reply}
use Rattle.rss_machine.specs.State.{cells_at, shard_at}
use Rattle.world_laws.specs.Later.{stamp_in, Later}
use Rattle.world_laws.proofs.Later.{later_keeps, later_same}
use Rattle.world_laws.proofs.Replies.{place, old_message, new_message, exchange_there}
use Rattle.world_laws.proofs.Runs.{steps_keep, run_split}
use Rattle.world_laws.proofs.StoreMoves.{StoreKeeps, Serves}
use Rattle.world_laws.proofs.StoreWalk.{store_walk}
use Rattle.reg_laws.specs.Told.{asked_of, shown_stamp, Tells, RepliesTell}

-- what is true of each reply of a replica, by the number of its exchange
pub record RepliesHold (F : ℕ → ServiceId → ℕ → Request → Reply → Type 0) (net : List Message) : Type 0 where
  pub each : (m replica : ℕ) (service : ServiceId) (q : Request) (answer : Reply) → 0 < m → m < length net → (message_at net m).envelope.target ≡ Replica service replica → (message_at net m).body ≡ body.Reply answer → (message_at net (message_at net m).envelope.exchange).body ≡ body.Request q
      → F (message_at net m).envelope.exchange service replica q answer

pub hold_weaker : (F G : ℕ → ServiceId → ℕ → Request → Reply → Type 0) → ((e : ℕ) (id : ServiceId) (replica : ℕ) (q : Request) (answer : Reply) → F e id replica q answer → G e id replica q answer) → (net : List Message) → RepliesHold F net → RepliesHold G net
hold_weaker F G f net h = record { each = λ m replica id q answer z l t b a. f _ id replica q answer (h.each m replica id q answer z l t b a) }

-- one message more
pub hold_more : (F : ℕ → ServiceId → ℕ → Request → Reply → Type 0) (sent : List Message) (x : Message) → Exchanges sent → RepliesHold F sent →
    ((replica : ℕ) (service : ServiceId) (q : Request) (answer : Reply) → x.envelope.target ≡ Replica service replica → x.body ≡ body.Reply answer → (message_at (sent ++ x ∷ []) x.envelope.exchange).body ≡ body.Request q → F x.envelope.exchange service replica q answer) →
    RepliesHold F (sent ++ x ∷ [])
hold_more F sent x g h f = record { each = each }
  where
    each : (m replica : ℕ) (service : ServiceId) (q : Request) (answer : Reply) → 0 < m → m < length (sent ++ x ∷ []) → (message_at (sent ++ x ∷ []) m).envelope.target ≡ Replica service replica → (message_at (sent ++ x ∷ []) m).body ≡ body.Reply answer
        → (message_at (sent ++ x ∷ []) (message_at (sent ++ x ∷ []) m).envelope.exchange).body ≡ body.Request q → F (message_at (sent ++ x ∷ []) m).envelope.exchange service replica q answer
    each m replica service q answer z l t b a = by_place (place sent x m l)
      where
        by_place : (m < length sent) ⊎ (m ≡ length sent) → F (message_at (sent ++ x ∷ []) m).envelope.exchange service replica q answer
        by_place (inl i) =
            let y : message_at (sent ++ x ∷ []) m ≡ message_at sent m = old_message sent x m i in
            let j : (message_at sent m).envelope.exchange < length sent = let k = exchange_there sent g m z i in omega (arith, k, i) in
            let n : message_at (sent ++ x ∷ []) (message_at sent m).envelope.exchange ≡ message_at sent (message_at sent m).envelope.exchange = old_message sent x _ j in
            subst (λ (v : Message). F v.envelope.exchange service replica q answer) (sym y)
            (h.each m replica service q answer z i
            (sym (ap (λ (v : Message). v.envelope.target) y) ∙ t) (sym (ap (λ (v : Message). v.body) y) ∙ b)
            (sym (ap (λ (v : Message). v.body) n) ∙ (sym (ap (λ (v : Message). (message_at (sent ++ x ∷ []) v.envelope.exchange).body) y) ∙ a)))
        by_place (inr i) =
            let y : message_at (sent ++ x ∷ []) m ≡ x = ap (λ (n : ℕ). message_at (sent ++ x ∷ []) n) i ∙ new_message sent x in
            subst (λ (v : Message). F v.envelope.exchange service replica q answer) (sym y)
            (f replica service q answer
            (sym (ap (λ (v : Message). v.envelope.target) y) ∙ t) (sym (ap (λ (v : Message). v.body) y) ∙ b)
            (sym (ap (λ (v : Message). (message_at (sent ++ x ∷ []) v.envelope.exchange).body) y) ∙ a))

pub hold_meets : (F : ℕ → ServiceId → ℕ → Request → Reply → Type 0) (sent : List Message) (n : ℕ) (f : Fate) → RepliesHold F sent → RepliesHold F (meets sent n f)
hold_meets F sent n f h = record {
  each = λ m replica service q answer z l t b a.
      subst (λ (v : Envelope). F v.exchange service replica q answer) (sym (meets_envelope sent n f m))
      (h.each m replica service q answer z (grind (arith, looks, l)) (sym (ap (λ (v : Envelope). v.target) (meets_envelope sent n f m)) ∙ t) (sym (meets_body sent n f m) ∙ b)
      (sym (meets_body sent n f _) ∙ (sym (ap (λ (v : Envelope). (message_at (meets sent n f) v.exchange).body) (meets_envelope sent n f m)) ∙ a)));
}

pub request_not_reply : (q : Request) (r : Reply) → body.Request q ≡ body.Reply r → ⊥
request_not_reply q r e = cc

pub reply_same : (a b : Reply) → body.Reply a ≡ body.Reply b → a ≡ b
reply_same a b e = cc

pub request_same : (a b : Request) → body.Request a ≡ body.Request b → a ≡ b
request_same a b e = cc

pub shard_not_replica : (n : ℕ) (service : ServiceId) (replica : ℕ) → Shard n ≡ Replica service replica → ⊥
shard_not_replica n service replica e = cc

-- where a request is sent, where a shard replies, and where a replica does
pub hold_asks : (F : ℕ → ServiceId → ℕ → Request → Reply → Type 0) (net : List Message) (o n : ℕ) (t : Target) (r : Request) → Exchanges net → RepliesHold F net → RepliesHold F (asks net o n t r)
hold_asks F net o n t r g h = hold_more F net (record { envelope = request_envelope net o n t; body = body.Request r; fate = Pending }) g h (λ replica service q answer d b a. absurd (request_not_reply r answer b))

pub hold_shard : (F : ℕ → ServiceId → ℕ → Request → Reply → Type 0) (s : State) (m shard : ℕ) (r : Request) (p : Reply) → Serves s m r (Shard shard) → Exchanges s.net → RepliesHold F s.net → RepliesHold F (answers s.net m p)
hold_shard F s m shard r p d g h = hold_more F s.net (record { envelope = reply_envelope s.net m; body = body.Reply p; fate = Pending }) g h (λ replica service q answer t b a. absurd (shard_not_replica shard service replica (sym d.to ∙ t)))

pub hold_replica : (F : ℕ → ServiceId → ℕ → Request → Reply → Type 0) (s : State) (m replica : ℕ) (id : ServiceId) (r : Request) (p : Reply) → Serves s m r (Replica id replica) → Exchanges s.net → F m id replica r p → RepliesHold F s.net → RepliesHold F (answers s.net m p)
hold_replica F s m replica id r p d g f h = hold_more F s.net x g h new
  where
    x : Message
    x = record { envelope = reply_envelope s.net m; body = body.Reply p; fate = Pending }

    replica_is : (a b : ServiceId) (i j : ℕ) → Replica a i ≡ Replica b j → (a ≡ b) × (i ≡ j)
    replica_is a b i j e = (cc, cc)

    new : (place : ℕ) (service : ServiceId) (q : Request) (answer : Reply) → x.envelope.target ≡ Replica service place → x.body ≡ body.Reply answer → (message_at (s.net ++ x ∷ []) x.envelope.exchange).body ≡ body.Request q → F x.envelope.exchange service place q answer
    new place service q answer t b a =
        let same : r ≡ q = request_same r q (sym d.asks ∙ (sym (ap (λ (v : Message). v.body) (old_message s.net x m d.sent)) ∙ a)) in
        let to = replica_is id service replica place (sym d.to ∙ t) in
        subst (λ (v : Reply). F m service place q v) (reply_same p answer b) (subst (λ (v : Request). F m service place v p) same (subst (λ (j : ℕ). F m service j r p) to.1 (subst (λ (v : ServiceId). F m v replica r p) to.0 f)))

-- what a replica shows of a register asked about
pub shows : (cells : List RegReply) (q : Request) → All (λ (key : Key). (stamp : Carstamp) → shown_stamp (replica_reply cells q) ≡ Some stamp → (held_at cells key).stamp ≡ stamp) (asked_of q)
unfolding replica_reply
shows cells (request.Ask key) = All-cons (λ (k : Key). (stamp : Carstamp) → Some (held_at cells key).stamp ≡ Some stamp → (held_at cells k).stamp ≡ stamp) key [] (λ stamp e. some_is (held_at cells key).stamp stamp e) (All-nil (λ (k : Key). (stamp : Carstamp) → Some (held_at cells key).stamp ≡ Some stamp → (held_at cells k).stamp ≡ stamp))
shows cells (request.Stamp key) = All-cons (λ (k : Key). (stamp : Carstamp) → Some (held_at cells key).stamp ≡ Some stamp → (held_at cells k).stamp ≡ stamp) key [] (λ stamp e. some_is (held_at cells key).stamp stamp e) (All-nil (λ (k : Key). (stamp : Carstamp) → Some (held_at cells key).stamp ≡ Some stamp → (held_at cells k).stamp ≡ stamp))
shows cells (request.Store key value stamp writer) = All-nil _
shows cells (request.Fix deps) = All-nil _
shows cells (request.Lock attempt coordinator reads writes) = All-nil _
shows cells (request.Prepare attempt least earliest_end writes) = All-nil _
shows cells (request.Decide attempt commit time) = All-nil _
shows cells (request.Commit attempt commit_time) = All-nil _
shows cells (request.Abort attempt) = All-nil _
shows cells (request.Inquire attempt) = All-nil _
shows cells (request.Release attempt time last) = All-nil _
shows cells (request.Snapshot read_time least keys skip) = All-nil _

-- what a reply tells of an earlier state, by the number of its exchange
abbrev pub TellsOf : State → ℕ → ServiceId → ℕ → Request → Reply → Type 0
TellsOf u e service replica q answer = length u.net ≤ e → Tells u service replica q answer

pub record Telling (u s : State) : Type 0 where
  pub sound : Sound s
  pub later : Later u s
  pub tell : RepliesHold (TellsOf u) s.net

tells_now : (u s : State) (m replica : ℕ) (id : ServiceId) (r : Request) → Later u s → TellsOf u m id replica r (replica_reply (cells_at s id replica) r)
tells_now u s m replica id r h l = record {
  told = All-weaker (λ (key : Key). (stamp : Carstamp) → shown_stamp (replica_reply (cells_at s id replica) r) ≡ Some stamp → (held_at (cells_at s id replica) key).stamp ≡ stamp)
      (λ (key : Key). (stamp : Carstamp) → shown_stamp (replica_reply (cells_at s id replica) r) ≡ Some stamp → stamp_le (stamp_in u id (replica - 1) key) stamp ≡ true)
      (λ key f stamp e. subst (λ (z : Carstamp). stamp_le (stamp_in u id (replica - 1) key) z ≡ true) (f stamp e) (h.stamps id (replica - 1) key))
      (asked_of r) (shows (cells_at s id replica) r);
}

pub telling_keeps : (u : State) → StoreKeeps (Telling u)
telling_keeps u = record {
  fates = λ s m f h. record { sound = sound_keeps.fates s m f h.sound; later = (later_keeps u).fates s m f h.later; tell = hold_meets (TellsOf u) s.net m f h.tell };
  sends = λ s o out h. record { sound = sound_keeps.sends s o out h.sound; later = (later_keeps u).sends s o out h.later; tell = hold_asks (TellsOf u) s.net o (owner_at s o).stage out.target out.request h.sound.sound h.tell };
  shards = λ s m shard latest r d h. record { sound = sound_keeps.shards s m shard latest r d h.sound; later = (later_keeps u).shards s m shard latest r d h.later; tell = hold_shard (TellsOf u) s m shard r (shard_reply (shard_at s shard) latest r) d h.sound.sound h.tell };
  replicas = λ s m id replica r d h. record {
    sound = sound_keeps.replicas s m id replica r d h.sound;
    later = (later_keeps u).replicas s m id replica r d h.later;
    tell = hold_replica (TellsOf u) s m replica id r (replica_reply (cells_at s id replica) r) d h.sound.sound (tells_now u s m replica id r h.later) h.tell;
  };
  others = λ s t e h. record { sound = sound_keeps.others s t e h.sound; later = (later_keeps u).others s t e h.later; tell = subst (RepliesHold (TellsOf u)) (sym e.net) h.tell };
}

-- in the state itself no reply is to a later request
pub telling_same : (u : State) → Sound u → Telling u u
telling_same u g = record { sound = g; later = later_same u; tell = record { each = λ m replica id q answer z l t b a k. absurd (let j = exchange_there u.net g.sound m z l in omega (arith, j, k, l)) } }

pub telling_step : (c : Config) (u s : State) (step : Step) → refusal c s step ≡ None → Telling u s → Telling u (stepped c s step)
telling_step c u s step r h =
    store_walk c (Telling u) (telling_keeps u) (ticks s step.at) step.at step.kind (passes c s step r).kind
    (record { sound = record { first = h.sound.first; sound = h.sound.sound }; later = record { decisions = h.later.decisions; floors = h.later.floors; net = h.later.net; envelopes = h.later.envelopes; bodies = h.later.bodies; stamps = h.later.stamps }; tell = h.tell })

pub tell_run : (c : Config) (steps more : List Step) (u s : State) → run c steps ≡ Some u → run c (steps ++ more) ≡ Some s → RepliesTell u s
tell_run c steps more u s e f =
    let g = (run_keeps c Sound (λ t step r h. store_walk c Sound sound_keeps (ticks t step.at) step.at step.kind (passes c t step r).kind (record { first = h.first; sound = h.sound })) (sound_start c) steps u e) in
    let h = steps_keep c (Telling u) (telling_step c u) more u s (run_split c steps more u s e f) (telling_same u g) in
    record {
      each = λ m exchange replica id q answer d l.
          h.tell.each m replica id q answer d.numbered d.sent d.target d.says (ap (λ (n : ℕ). (message_at s.net n).body) d.of ∙ d.asked) (subst (λ (n : ℕ). length u.net ≤ n) (sym d.of) l);
    }
