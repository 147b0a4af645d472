-- Parts that are ready stay so where a message meets a fate; and what their facts say.
use Rattle.std.proofs.Common.{◌≡◌, ℕ, zero, suc, List, [], ◌∷◌, length, set, refl, ap, ◌∙◌}
use Rattle.pipeline_lang.specs.declared.config.Config.{Config}
use Rattle.rss_wire.specs.declared.message.Fate.{Fate}
use Rattle.rss_wire.specs.declared.message.Message.{Message}
use Rattle.rss_wire.specs.Messages.{message_at, is_sent, meets, request_at, reply_at}
use Rattle.world_parts.specs.Parts.{Staging, Traffic, Stores}
use Rattle.parts_ready.specs.Ready.{SaysSame, AreReady}

set_length : {X : Type 0} (xs : List X) (i : ℕ) (x : X) → length (set xs i x) ≡ length xs
set_length [] i x = refl
set_length (a ∷ xs) zero x = refl
set_length (a ∷ xs) (suc i) x = ap suc (set_length xs i x)

-- what is set in the place of an item that looks the same looks the same
looks_same : {Y : Type 0} (view : Message → Y) (net : List Message) (m : ℕ) (x : Message) → view x ≡ view (message_at net m) → (i : ℕ) → view (message_at (set net m x) i) ≡ view (message_at net i)
looks_same view [] m x e i = refl
looks_same view (a ∷ net) zero x e zero = e
looks_same view (a ∷ net) zero x e (suc i) = refl
looks_same view (a ∷ net) (suc m) x e zero = refl
looks_same view (a ∷ net) (suc m) x e (suc i) = looks_same view net m x e i

pub fate_same : (net : List Message) (m : ℕ) (f : Fate) → SaysSame net (meets net m f)
fate_same net m f = record {
  same_length = set_length net m _;
  envelopes = looks_same (λ (x : Message). x.envelope) net m _ refl;
  bodies = looks_same (λ (x : Message). x.body) net m _ refl;
}

same_twice : (a b c : List Message) → SaysSame a b → SaysSame b c → SaysSame a c
same_twice a b c p q = record {
  same_length = q.same_length ∙ p.same_length;
  envelopes = λ i. q.envelopes i ∙ p.envelopes i;
  bodies = λ i. q.bodies i ∙ p.bodies i;
}

pub sent_same : (net more : List Message) (i : ℕ) → SaysSame net more → is_sent more i ≡ is_sent net i
sent_same net more i h = rw h.same_length refl

pub request_same : (net more : List Message) (i : ℕ) → SaysSame net more → request_at more i ≡ request_at net i
request_same net more i h = rw (sent_same net more i h, h.bodies i) refl

pub reply_same : (net more : List Message) (i : ℕ) → SaysSame net more → reply_at more i ≡ reply_at net i
reply_same net more i h = rw (sent_same net more i h, h.bodies i) refl

-- parts that are ready, behind a message that meets a fate
pub ready_fate : (c : Config) (g : Staging) (t : Traffic) (d : Stores) (m : ℕ) (f : Fate) → AreReady c g t d → AreReady c g (record t { net = meets t.net m f }) d
ready_fate c g t d m f h = record {
  clock = h.clock;
  net = h.net;
  says = same_twice h.net t.net (meets t.net m f) h.says (fate_same t.net m f);
  facts = h.facts;
}
