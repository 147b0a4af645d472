-- What is known of messages that were sent, in parts that are ready.
use Rattle.std.proofs.Common.{◌≡◌, ℕ, ◌+◌, ◌<◌, ◌≤◌, ◌^◌, Bool, true, false, List, length, Option, Some, None, refl, sym, ap, ◌∙◌, subst, arith, if◌then◌else◌}
use Rattle.std.proofs.lemmas.Bool.{and_parts}
use Rattle.std.proofs.lemmas.Bool.Decides.{nat_tests}
use Rattle.std.specs.Prelude.{nat_lt}
use Rattle.pipeline_lang.specs.declared.config.Config.{Config}
use Rattle.rss_names.specs.declared.service.ServiceId.TheVariants.{Txn, Reg}
use Rattle.rss_names.specs.declared.service.Target.{Target}
use Rattle.rss_names.specs.declared.service.Target.TheVariants.{Shard, Replica}
use Rattle.rss_wire.specs.declared.envelope.Envelope.{Envelope}
use Rattle.rss_wire.specs.declared.message.Body.{Body}
use Rattle.rss_wire.specs.declared.message.Body.TheVariants as body
use Rattle.rss_wire.specs.declared.message.Message.{Message}
use Rattle.rss_wire.specs.declared.messages.Request.{Request}
use Rattle.rss_wire.specs.declared.messages.Request.TheVariants.{Lock, Prepare, Decide, Commit, Abort, Inquire, Release, Snapshot, Fix, Ask, Stamp, Store}
use Rattle.rss_wire.specs.Messages.{message_at, is_sent, is_asked, request_at, body_request}
use Rattle.rss_wire.specs.Net.{deliver_refusal, again_refusal, lose_refusal}
use Rattle.txn_shard.specs.ShardView.{has_small_times}
use Rattle.world_laws.specs.Exchanges.{IsSound, is_request}
use Rattle.world_laws.specs.Times.{RequestTimesUpTo, BodyTimesUpTo}
use Rattle.world_laws.specs.Traffic.{IsTargetOf}
use Rattle.world_parts.specs.Parts.{Staging, Traffic, Stores}
use Rattle.world_stores.specs.StoresView.{IsThere, is_timely}
use Rattle.parts_ready.specs.Ready.{AreReady}
use Rattle.parts_ready.proofs.Readying.{sent_same, request_same}

-- a message that is not refused was sent
unrefused : {X : Type 0} (sent : Bool) (a b : Option X) → (if sent then a else b) ≡ None → (b ≡ None → ⊥) → sent ≡ true
unrefused true a b e h = refl
unrefused false a b e h = absurd (h e)

pub deliver_sent : (net : List Message) (m : ℕ) → deliver_refusal net m ≡ None → is_sent net m ≡ true
deliver_sent net m e = unrefused (is_sent net m) _ _ e (λ q. cc)

pub again_sent : (net : List Message) (m : ℕ) → again_refusal net m ≡ None → is_sent net m ≡ true
again_sent net m e = unrefused (is_sent net m) _ _ e (λ q. cc)

pub lose_sent : (net : List Message) (m : ℕ) → lose_refusal net m ≡ None → is_sent net m ≡ true
lose_sent net m e = unrefused (is_sent net m) _ _ e (λ q. cc)

sent_parts : (net : List Message) (m : ℕ) → is_sent net m ≡ true → (0 < m) × (m < length net)
sent_parts net m e =
    let p = and_parts (nat_lt 0 m) (nat_lt m (length net)) e in
    let a = p.0 in
    let b = p.1 in
    (grind (arith, nat_tests, a), grind (arith, nat_tests, b))

-- a request was sent, and is one
some_request : (b : Body) (sent : Bool) (r : Request) → (if sent then body_request b else None) ≡ Some r → (sent ≡ true) × (b ≡ body.Request r)
some_request (body.Request q) true r e = (refl, cc)
some_request (body.Reply x) true r e = absurd (cc)
some_request b false r e = absurd (cc)

pub asked_so : (c : Config) (g : Staging) (t : Traffic) (d : Stores) (m : ℕ) (r : Request) → AreReady c g t d → request_at t.net m ≡ Some r → is_asked t.net m ≡ true
asked_so c g t d m r h e =
    let q : request_at h.net m ≡ Some r = sym (request_same h.net t.net m h.says) ∙ e in
    let p = some_request (message_at h.net m).body (is_sent h.net m) r q in
    let s = sent_parts h.net m p.0 in
    let k : IsSound m (message_at h.net m) (message_at h.net (message_at h.net m).envelope.exchange) = h.facts.exchanges m s.0 s.1 in
    ap (λ (x : Envelope). x.request) (h.says.envelopes m) ∙ k.flag ∙ ap is_request p.1

-- its times are small
small_times : (b : ℕ) (r : Request) → b < 2 ^ 63 → RequestTimesUpTo b r → has_small_times r ≡ true
unfolding has_small_times
small_times b (Lock attempt coordinator reads writes) l h = refl
small_times b (Prepare attempt least earliest_end writes) l h = let k : least ≤ b = h.0 in grind (arith, nat_tests, k, l)
small_times b (Decide attempt commit time) l h = grind (arith, nat_tests, h, l)
small_times b (Commit attempt commit_time) l h = grind (arith, nat_tests, h, l)
small_times b (Abort attempt) l h = refl
small_times b (Inquire attempt) l h = refl
small_times b (Release attempt time last) l h = grind (arith, nat_tests, h, l)
small_times b (Snapshot read_time least keys skip) l h = let k : read_time ≤ b = h.0 in grind (arith, nat_tests, k, l)
small_times b (Fix deps) l h = refl
small_times b (Ask key) l h = refl
small_times b (Stamp key) l h = refl
small_times b (Store key value stamp writer) l h = refl

timely_by : (target : Target) (r : Request) → has_small_times r ≡ true → is_timely target r ≡ true
timely_by (Shard shard) r h = h
timely_by (Replica service replica) r h = refl

pub timely_so : (c : Config) (g : Staging) (t : Traffic) (d : Stores) (m : ℕ) (target : Target) (r : Request) → AreReady c g t d → request_at t.net m ≡ Some r → is_timely target r ≡ true
timely_so c g t d m target r h e =
    let q : request_at h.net m ≡ Some r = sym (request_same h.net t.net m h.says) ∙ e in
    let p = some_request (message_at h.net m).body (is_sent h.net m) r q in
    let times : BodyTimesUpTo (2 ^ 62 + h.clock.steps) (message_at h.net m).body = h.facts.run.times.told m in
    let few : h.clock.steps ≤ c.max_steps = h.facts.run.sizes.steps in
    let most : c.max_steps ≤ 200000 = h.facts.file.within.steps in
    let low : 2 ^ 62 + h.clock.steps < 2 ^ 63 = omega (arith, few, most) in
    timely_by target r (small_times (2 ^ 62 + h.clock.steps) r low (subst (BodyTimesUpTo (2 ^ 62 + h.clock.steps)) p.1 times))

-- its target is there
there_by : (c : Config) (d : Stores) (target : Target) → length d.shards ≡ length c.shard_services → IsTargetOf c target → IsThere d.shards target
there_by c d (Shard shard) e h = let k = h.1 in omega (arith, e, k)
there_by c d (Replica (Reg number) replica) e h = tt
there_by c d (Replica (Txn number) replica) e h = tt

pub there_so : (c : Config) (g : Staging) (t : Traffic) (d : Stores) (m : ℕ) → AreReady c g t d → is_sent t.net m ≡ true → IsThere d.shards (message_at t.net m).envelope.target
there_so c g t d m h e =
    let many : length d.shards ≡ length c.shard_services = h.facts.run.sizes.shards in
    let fits : IsTargetOf c (message_at h.net m).envelope.target = h.facts.run.targets.targets m (sym (sent_same h.net t.net m h.says) ∙ e) in
    there_by c d (message_at t.net m).envelope.target many (subst (λ (x : Envelope). IsTargetOf c x.target) (sym (h.says.envelopes m)) fits)
