-- Each reply of a shard was given in a state from which the shard's present one comes.
use Rattle.std.proofs.Common.{◌≡◌, ℕ, ◌-◌, ◌<◌, ◌≤◌, ◌⊎◌, inl, inr, List, [], ◌∷◌, ◌++◌, length, get_or, Some, None, refl, sym, ap, ◌∙◌, subst, arith}
use Rattle.std.proofs.Math.ListN.{length-set}
use Rattle.std.proofs.lemmas.Bool.{leb-true}
use Rattle.truetime.specs.Reading.{Reading}
use Rattle.rss_names.specs.declared.service.ServiceId.{ServiceId}
use Rattle.rss_names.specs.declared.service.Target.{Target}
use Rattle.rss_names.specs.declared.service.Target.TheVariants.{Shard, Replica}
use Rattle.pipeline_lang.specs.declared.config.Config.{Config}
use Rattle.rss_wire.specs.declared.envelope.Envelope.{Envelope}
use Rattle.rss_wire.specs.declared.message.Body.TheVariants as body
use Rattle.rss_wire.specs.declared.message.Message.{Message}
use Rattle.rss_wire.specs.declared.messages.Request.{Request}
use Rattle.rss_wire.specs.declared.messages.Reply.{Reply}
use Rattle.rss_wire.specs.Messages.{message_at, request_envelope, reply_envelope}
use Rattle.rss_wire.specs.declared.message.Fate.TheVariants.{Pending}
use Rattle.rss_tables.specs.ShardRow.{Shard as ShardState, opening_shard, shard_after, shard_reply}
use Rattle.rss_tables.specs.Outs.{Out}
use Rattle.rss_machine.specs.Effect.{stepped}
use Rattle.rss_machine.specs.Moves.{ticks, marks_message, sends_one, serves_shard, serves_replica, notes_served}
use Rattle.rss_machine.specs.Refusal.{refusal}
use Rattle.rss_machine.specs.Run.{run, run_from}
use Rattle.rss_machine.specs.State.{State, start, shard_at, owner_at, cells_at}
use Rattle.rss_tables.specs.ReplicaRow.{replica_reply}
use Rattle.rss_machine.specs.declared.step.Step.{Step}
use Rattle.world_laws.specs.Later.{Later}
use Rattle.world_laws.proofs.Later.{later_same, later_keeps}
use Rattle.world_laws.proofs.Looks.{looks, get_or_set}
use Rattle.world_laws.proofs.Replies.{Sound, sound_keeps, sound_start, exchange_there, new_message, place}
use Rattle.world_laws.proofs.Runs.{passes, run_split, steps_keep}
use Rattle.world_laws.proofs.StoreMoves.{Serves}
use Rattle.shard_laws.specs.Served.{IsReached}
use Rattle.shard_laws.proofs.Fits.{served_more, reached_after}
use Rattle.shard_laws.proofs.Rising.{each_more, each_append}
use Rattle.txn_laws.specs.Serving.{WasSentTo}
use Rattle.txn_laws.specs.Given.{IsReplyOf, IsShardReply, WasGiven, RepliesGiven}
use Rattle.txn_laws.proofs.ShardWalk.{ShardKeeps, shard_walk}
use Rattle.txn_laws.proofs.Serves.{sent_later, starts_reached}

-- the message of a request, and of a reply
abbrev asked_message : List Message → ℕ → ℕ → Target → Request → Message
asked_message net o n t r = record { envelope = request_envelope net o n t; body = body.Request r; fate = Pending }

abbrev answered_message : List Message → ℕ → Reply → Message
answered_message net m r = record { envelope = reply_envelope net m; body = body.Reply r; fate = Pending }

-- with what has to be known beside it
record Gives (u s : State) : Type 0 where
  sound : Sound s
  moment : u.moment ≤ s.moment
  reached : (n : ℕ) → IsReached (shard_at s n)
  given : RepliesGiven u s

-- a reply that was there before
was_reply : (s t : State) → Sound s → Later s t → (m n : ℕ) (q : Request) (r : Reply) → length t.shards ≡ length s.shards → m < length s.net → IsShardReply t m n q r → IsShardReply s m n q r
was_reply s t g l m n q r k i x =
    let e : (message_at t.net m).envelope ≡ (message_at s.net m).envelope = l.envelopes m i in
    let back = exchange_there s.net g.sound m x.is.numbered i in
    record {
      is = record {
        numbered = x.is.numbered;
        sent = i;
        says = sym (l.bodies m i) ∙ x.is.says;
        asked = sym (l.bodies (message_at s.net m).envelope.exchange (omega (arith, back, i))) ∙ ap (λ (v : Envelope). (message_at t.net v.exchange).body) (sym e) ∙ x.is.asked;
        from = ap (λ (v : Envelope). v.target) (sym e) ∙ x.is.from;
      };
      inside = (let a = x.inside in omega (arith, a, k));
    }

-- where the shard did not change, or served one more request
given_same : (u s t : State) (n exchange : ℕ) (q : Request) (r : Reply) → Later s t → shard_at t n ≡ shard_at s n → WasGiven u s n exchange q r → WasGiven u t n exchange q r
given_same u s t n exchange q r l e x = record {
  before = x.before;
  reached = x.reached;
  latest = x.latest;
  reply = x.reply;
  requests = x.requests;
  by = x.by ∙ sym e;
  each = each_more (WasSentTo s n 0) (WasSentTo t n 0) (sent_later s t n 0 l) x.requests x.each;
  not_before = x.not_before;
}

given_more : (u s t : State) (n exchange latest : ℕ) (q p : Request) (r : Reply) → Later s t → shard_at t n ≡ shard_after (shard_at s n) latest p → WasSentTo s n 0 (latest, p) → WasGiven u s n exchange q r → WasGiven u t n exchange q r
given_more u s t n exchange latest q p r l e w x = record {
  before = x.before;
  reached = x.reached;
  latest = x.latest;
  reply = x.reply;
  requests = x.requests ++ (latest, p) ∷ [];
  by = served_more (shard_after x.before x.latest q) x.requests ((latest, p) ∷ []) ∙ ap (λ (v : ShardState). shard_after v latest p) x.by ∙ sym e;
  each = each_append (WasSentTo t n 0) x.requests ((latest, p) ∷ []) (each_more (WasSentTo s n 0) (WasSentTo t n 0) (sent_later s t n 0 l) x.requests x.each) (sent_later s t n 0 l (latest, p) w, tt);
  not_before = x.not_before;
}

-- an exchange of an old message in the later state
with_exchange : (u s t : State) (m n : ℕ) (q : Request) (r : Reply) → Later s t → m < length s.net → WasGiven u t n (message_at s.net m).envelope.exchange q r → WasGiven u t n (message_at t.net m).envelope.exchange q r
with_exchange u s t m n q r l i x = subst (λ (v : Envelope). WasGiven u t n v.exchange q r) (sym (l.envelopes m i)) x

-- old replies where no shard changes
old_reply : (u s t : State) → Gives u s → Later s t → t.shards ≡ s.shards → (m n : ℕ) (q : Request) (r : Reply) → m < length s.net → IsShardReply t m n q r → WasGiven u t n (message_at t.net m).envelope.exchange q r
old_reply u s t g l e m n q r i x =
    let y = was_reply s t g.sound l m n q r (ap (λ (v : List ShardState). length v) e) i x in
    with_exchange u s t m n q r l i (given_same u s t n (message_at s.net m).envelope.exchange q r l (ap (λ (v : List ShardState). get_or v (n - 1) (opening_shard [])) e) (g.given.each m n q r y))

gives_same : (u s t : State) → Gives u s → Sound t → Later s t → t.moment ≡ s.moment → t.shards ≡ s.shards → ((m n : ℕ) (q : Request) (r : Reply) → IsShardReply t m n q r → m < length s.net) → Gives u t
gives_same u s t g d l k e f = record {
  sound = d;
  moment = (let a = g.moment in omega (arith, a, k));
  reached = λ n. subst (λ (v : List ShardState). IsReached (get_or v (n - 1) (opening_shard []))) (sym e) (g.reached n);
  given = record { each = λ m n q r x. old_reply u s t g l e m n q r (f m n q r x) x };
}

request_no_reply : (q : Request) (r : Reply) → body.Request q ≡ body.Reply r → ⊥
request_no_reply q r e = cc

same_reply : (r a : Reply) → body.Reply r ≡ body.Reply a → r ≡ a
same_reply r a e = cc

same_request : (q p : Request) → body.Request q ≡ body.Request p → q ≡ p
same_request q p e = cc

replica_no_shard : (service : ServiceId) (replica n : ℕ) → Replica service replica ≡ Shard n → ⊥
replica_no_shard service replica n e = cc

same_shard : (a b : ℕ) → Shard a ≡ Shard b → a ≡ b
same_shard a b e = cc

-- a request that is sent is no reply
sent_old : (u s : State) (o : ℕ) (out : Out) (m n : ℕ) (q : Request) (r : Reply) → IsShardReply (sends_one s o out) m n q r → m < length s.net
sent_old u s o out m n q r x = by_place (place s.net new m x.is.sent)
  where
    new : Message
    new = asked_message s.net o (owner_at s o).stage out.target out.request

    by_place : (m < length s.net) ⊎ (m ≡ length s.net) → m < length s.net
    by_place (inl i) = i
    by_place (inr e) = absurd (request_no_reply out.request r (ap (λ (v : Message). v.body) (sym (new_message s.net new)) ∙ ap (λ (k : ℕ). (message_at (s.net ++ new ∷ []) k).body) (sym e) ∙ x.is.says))

-- a reply of a replica is none of a shard
replica_old : (s : State) (k : ℕ) (service : ServiceId) (replica : ℕ) (p : Request) → Serves s k p (Replica service replica) → (m n : ℕ) (q : Request) (r : Reply) → IsShardReply (notes_served (serves_replica s k service replica p) (message_at s.net k).envelope.owner service p) m n q r → m < length s.net
replica_old s k service replica p d m n q r x = by_place (place s.net new m x.is.sent)
  where
    new : Message
    new = answered_message s.net k (replica_reply (cells_at s service replica) p)

    by_place : (m < length s.net) ⊎ (m ≡ length s.net) → m < length s.net
    by_place (inl i) = i
    by_place (inr e) = absurd (replica_no_shard service replica n (sym d.to ∙ ap (λ (v : Message). v.envelope.target) (sym (new_message s.net new)) ∙ ap (λ (j : ℕ). (message_at (s.net ++ new ∷ []) j).envelope.target) (sym e) ∙ x.is.from))

-- a shard serves a request
module _ (u s : State) (k shard latest : ℕ) (p : Request) (i : u.moment ≤ latest) (d : Serves s k p (Shard shard)) (g : Gives u s) where
  abbrev t : State
  t = serves_shard s k shard latest p

  l : Later s t
  l = (later_keeps s).shards s k shard latest p d (later_same s)

  abbrev new : Message
  new = answered_message s.net k (shard_reply (shard_at s shard) latest p)

  changed : (n : ℕ) → ((shard_at t n ≡ shard_after (shard_at s shard) latest p) × (n - 1 ≡ shard - 1) × (shard - 1 < length s.shards)) ⊎ ((shard_at t n ≡ shard_at s n) × ((n - 1 ≡ shard - 1 → ⊥) ⊎ (length s.shards ≤ n - 1)))
  changed n = get_or_set s.shards (shard - 1) (shard_after (shard_at s shard) latest p) (n - 1) (opening_shard [])

  same_place : (n : ℕ) → n - 1 ≡ shard - 1 → shard_at s n ≡ shard_at s shard
  same_place n e = ap (λ (j : ℕ). get_or s.shards j (opening_shard [])) e

  old_given : (n exchange : ℕ) (q : Request) (r : Reply) → WasGiven u s n exchange q r → WasGiven u t n exchange q r
  old_given n exchange q r x = by_place (changed n)
    where
      by_place : ((shard_at t n ≡ shard_after (shard_at s shard) latest p) × (n - 1 ≡ shard - 1) × (shard - 1 < length s.shards)) ⊎ ((shard_at t n ≡ shard_at s n) × ((n - 1 ≡ shard - 1 → ⊥) ⊎ (length s.shards ≤ n - 1))) → WasGiven u t n exchange q r
      by_place (inl e) = given_more u s t n exchange latest q p r l (e.0 ∙ ap (λ (v : ShardState). shard_after v latest p) (sym (same_place n e.1))) (record { message = k; numbered = d.numbered; sent = d.sent; asks = d.asks; number = shard; target = d.to; place = sym e.1; not_before = omega arith }) x
      by_place (inr e) = given_same u s t n exchange q r l e.0 x

  new_given : (n : ℕ) (q : Request) (r : Reply) → shard ≡ n → p ≡ q → shard_reply (shard_at s shard) latest p ≡ r → n - 1 < length s.shards → WasGiven u t n k q r
  new_given n q r e f h inside = by_place (changed n)
    where
      by_place : ((shard_at t n ≡ shard_after (shard_at s shard) latest p) × (n - 1 ≡ shard - 1) × (shard - 1 < length s.shards)) ⊎ ((shard_at t n ≡ shard_at s n) × ((n - 1 ≡ shard - 1 → ⊥) ⊎ (length s.shards ≤ n - 1))) → WasGiven u t n k q r
      by_place (inl a) = record {
        before = shard_at s shard;
        reached = g.reached shard;
        latest = latest;
        reply = sym h ∙ ap (λ (v : Request). shard_reply (shard_at s shard) latest v) f;
        requests = [];
        by = ap (λ (v : Request). shard_after (shard_at s shard) latest v) (sym f) ∙ sym a.0;
        each = tt;
        not_before = λ b. i;
      }
      by_place (inr a) = by_why a.1
        where
          by_why : (n - 1 ≡ shard - 1 → ⊥) ⊎ (length s.shards ≤ n - 1) → WasGiven u t n k q r
          by_why (inl b) = absurd (b (ap (λ (v : ℕ). v - 1) (sym e)))
          by_why (inr b) = absurd (omega (arith, b, inside))

  reached_now : (n : ℕ) → IsReached (shard_at t n)
  reached_now n = by_place (changed n)
    where
      by_place : ((shard_at t n ≡ shard_after (shard_at s shard) latest p) × (n - 1 ≡ shard - 1) × (shard - 1 < length s.shards)) ⊎ ((shard_at t n ≡ shard_at s n) × ((n - 1 ≡ shard - 1 → ⊥) ⊎ (length s.shards ≤ n - 1))) → IsReached (shard_at t n)
      by_place (inl a) = subst IsReached (sym a.0) (reached_after (shard_at s shard) (g.reached shard) latest p)
      by_place (inr a) = subst IsReached (sym a.0) (g.reached n)

  sized : length t.shards ≡ length s.shards
  sized = length-set s.shards (shard - 1) (shard_after (shard_at s shard) latest p)

  each_given : (m n : ℕ) (q : Request) (r : Reply) → IsShardReply t m n q r → WasGiven u t n (message_at t.net m).envelope.exchange q r
  each_given m n q r x = by_place (place s.net new m x.is.sent)
    where
      newest : m ≡ length s.net → message_at t.net m ≡ new
      newest e = ap (λ (j : ℕ). message_at (s.net ++ new ∷ []) j) e ∙ new_message s.net new

      by_place : (m < length s.net) ⊎ (m ≡ length s.net) → WasGiven u t n (message_at t.net m).envelope.exchange q r
      by_place (inl e) = with_exchange u s t m n q r l e (old_given n (message_at s.net m).envelope.exchange q r (g.given.each m n q r (was_reply s t g.sound l m n q r sized e x)))
      by_place (inr e) =
          let there : (message_at t.net m).envelope.exchange ≡ k = ap (λ (v : Message). v.envelope.exchange) (newest e) in
          let asked : (message_at t.net k).body ≡ body.Request q = ap (λ (j : ℕ). (message_at t.net j).body) (sym there) ∙ x.is.asked in
          let f : p ≡ q = same_request p q (sym (l.bodies k d.sent ∙ d.asks) ∙ asked) in
          let to : shard ≡ n = same_shard shard n (sym d.to ∙ ap (λ (v : Message). v.envelope.target) (sym (newest e)) ∙ x.is.from) in
          let h : shard_reply (shard_at s shard) latest p ≡ r = same_reply (shard_reply (shard_at s shard) latest p) r (ap (λ (v : Message). v.body) (sym (newest e)) ∙ x.is.says) in
          subst (λ (j : ℕ). WasGiven u t n j q r) (sym there) (new_given n q r to f h (let b = x.inside in omega (arith, b, sized)))

  gives_served : Gives u (serves_shard s k shard latest p)
  gives_served = record {
    sound = sound_keeps.shards s k shard latest p d g.sound;
    moment = g.moment;
    reached = reached_now;
    given = record { each = each_given };
  }

gives_keeps : (u : State) (at : Reading) → u.moment ≤ at.latest → ShardKeeps at (Gives u)
gives_keeps u at i = record {
  fates = λ s m f g. gives_same u s (marks_message s m f) g (sound_keeps.fates s m f g.sound) ((later_keeps s).fates s m f (later_same s)) refl refl (λ k n q r x. (let a = x.is.sent in grind (arith, looks, a)));
  sends = λ s o out g. gives_same u s (sends_one s o out) g (sound_keeps.sends s o out g.sound) ((later_keeps s).sends s o out (later_same s)) refl refl (sent_old u s o out);
  shards = λ s m shard r d g. gives_served u s m shard at.latest r i d g;
  replicas = λ s m service replica r d g. gives_same u s (notes_served (serves_replica s m service replica r) (message_at s.net m).envelope.owner service r) g (sound_keeps.replicas s m service replica r d g.sound) ((later_keeps s).replicas s m service replica r d (later_same s)) refl refl (replica_old s m service replica r d);
  others = λ s t e g. gives_same u s t g (sound_keeps.others s t e g.sound) ((later_keeps s).others s t e (later_same s)) e.moment e.shards (λ k n q r x. (let a = x.is.sent in let b = e.net in grind (arith, a, b)));
}

-- the clock goes on
gives_ticked : (u s : State) (at : Reading) → Gives u s → Gives u (ticks s at)
gives_ticked u s at g = record {
  sound = record { first = g.sound.first; sound = g.sound.sound };
  moment = (let a = g.moment in omega (arith, a));
  reached = g.reached;
  given = record { each = λ m n q r x. ticked m n q r (g.given.each m n q r (record { is = record { numbered = x.is.numbered; sent = x.is.sent; says = x.is.says; asked = x.is.asked; from = x.is.from }; inside = x.inside })) };
}
  where
    ticked : (m n : ℕ) (q : Request) (r : Reply) → WasGiven u s n (message_at s.net m).envelope.exchange q r → WasGiven u (ticks s at) n (message_at s.net m).envelope.exchange q r
    ticked m n q r x = record {
      before = x.before;
      reached = x.reached;
      latest = x.latest;
      reply = x.reply;
      requests = x.requests;
      by = x.by;
      each = each_more (WasSentTo s n 0) (WasSentTo (ticks s at) n 0) (λ z y. record { message = y.message; numbered = y.numbered; sent = y.sent; asks = y.asks; number = y.number; target = y.target; place = y.place; not_before = y.not_before }) x.requests x.each;
      not_before = x.not_before;
    }

gives_step : (c : Config) (u s : State) (step : Step) → refusal c s step ≡ None → Gives u s → Gives u (stepped c s step)
gives_step c u s step e g =
    let p = passes c s step e in
    let a = leb-true s.moment step.at.latest p.admitted in
    let b = g.moment in
    shard_walk c (Gives u) (ticks s step.at) step.at step.kind (gives_keeps u step.at (omega (arith, a, b))) p.kind (gives_ticked u s step.at g)

gives_start : (c : Config) → Gives (start c) (start c)
gives_start c = record {
  sound = sound_start c;
  moment = omega arith;
  reached = λ n. starts_reached c 1 c.shard_services (n - 1);
  given = record { each = λ m n q r x. absurd (let a = x.is.numbered in let b : m < 1 = x.is.sent in omega (arith, a, b)) };
}

-- from a state on, of which the replies that are there are known
gives_again : (c : Config) (u : State) → Gives (start c) u → Gives u u
gives_again c u g = record { sound = g.sound; moment = omega arith; reached = g.reached; given = record { each = λ m n q r x. again m n q r x (g.given.each m n q r x) } }
  where
    again : (m n : ℕ) (q : Request) (r : Reply) → IsShardReply u m n q r → WasGiven (start c) u n (message_at u.net m).envelope.exchange q r → WasGiven u u n (message_at u.net m).envelope.exchange q r
    again m n q r x y = record {
      before = y.before;
      reached = y.reached;
      latest = y.latest;
      reply = y.reply;
      requests = y.requests;
      by = y.by;
      each = y.each;
      not_before = λ b. absurd (let e = exchange_there u.net g.sound.sound m x.is.numbered x.is.sent in let a = x.is.sent in omega (arith, a, b, e));
    }

gives_from : (c : Config) (steps : List Step) (u v s : State) → run_from c v steps ≡ Some s → Gives u v → Gives u s
gives_from c steps u v s e g = steps_keep c (Gives u) (gives_step c u) steps v s e g

pub replies_given : (c : Config) (steps more : List Step) (u s : State) → run c steps ≡ Some u → run c (steps ++ more) ≡ Some s → RepliesGiven u s
unfolding run
replies_given c steps more u s e f =
    let g = gives_again c u (gives_from c steps (start c) (start c) u e (gives_start c)) in
    (gives_from c more u u s (run_split c steps more u s e f) g).given
