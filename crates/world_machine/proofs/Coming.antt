-- A message that has met its fate can come.
use Rattle.std.proofs.Common.{◌≡◌, ℕ, ◌<◌, ◌≤◌, Bool, true, false, List, length, Option, Some, None, refl, sym, ap, ◌∙◌, subst, arith, if◌then◌else◌}
use Rattle.std.specs.Prelude.{IfSome, IsSome, is_some}
use Rattle.pipeline_lang.specs.declared.config.Config.{Config}
use Rattle.truetime.specs.Reading.{Reading}
use Rattle.rss_wire.specs.declared.envelope.Envelope.{Envelope}
use Rattle.rss_wire.specs.declared.message.Body.{Body}
use Rattle.rss_wire.specs.declared.message.Fate.{Fate}
use Rattle.rss_wire.specs.declared.message.Message.{Message}
use Rattle.rss_wire.specs.declared.messages.Request.{Request}
use Rattle.rss_wire.specs.declared.messages.Reply.{Reply}
use Rattle.rss_wire.specs.Messages.{message_at, is_sent, meets, envelope_at, request_at, reply_at}
use Rattle.rss_tables.specs.Outs.{slot_replica}
use Rattle.rss_machine.specs.Effect.{comes}
use Rattle.rss_machine.specs.Moves.{marks_message}
use Rattle.rss_machine.specs.Slots.{slot_in}
use Rattle.rss_machine.specs.State.{State, Owner}
use Rattle.turn_laws.specs.Turns.{hear_turn}
use Rattle.turn_facts.specs.Facts.{TurnFacts}
use Rattle.owner_sessions.specs.Rounds.{HearsSmallStamps}
use Rattle.world_parts.specs.Parts.{Clock, Staging, Traffic, Stores, assembled, owner_in}
use Rattle.world_stores.specs.StoresView.{IsThere, is_ready_for, is_timely}
use Rattle.world_traffic.specs.Turned.{said_in, said_by}
use Rattle.world_traffic.specs.View.{TrafficView, IsBegun, IsQuiet, HasRoomFor, view_in}
use Rattle.parts_ready.specs.Ready.{SaysSame}
use Rattle.parts_ready.proofs.Few.{owner_from, owner_there, messages_few}
use Rattle.parts_ready.proofs.Readying.{fate_same, sent_same, request_same, reply_same, ready_fate}
use Rattle.world_machine.specs.declared.machine.Machine.{Machine}
use Rattle.world_machine.specs.Ending.{CanEnd}
use Rattle.world_machine.specs.Hearing.{ListenRoom, HearRoom, ComeRoom, CanCome}
use Rattle.world_machine.specs.Machine.{state_of}
use Rattle.world_machine.specs.Ready.{IsReady}
use Rattle.world_machine.specs.Turning.{CanListen}
use Rattle.world_machine.proofs.Sent.{asked_so, timely_so, there_so}
use Rattle.world_machine.proofs.Taking.{may_take}

-- the envelope of a message that was sent
pub sent_envelope : (net : List Message) (m : ℕ) (e : Envelope) → is_sent net m ≡ true → envelope_at net m ≡ Some e → (message_at net m).envelope ≡ e
sent_envelope net m e s h = by_sent (is_sent net m) s h
  where
    by_sent : (b : Bool) → b ≡ true → (if b then Some (message_at net m).envelope else None) ≡ Some e → (message_at net m).envelope ≡ e
    by_sent true q k = cc
    by_sent false q k = absurd (cc)

envelope_same : (net more : List Message) (i : ℕ) → SaysSame net more → envelope_at more i ≡ envelope_at net i
envelope_same net more i h = rw (sent_same net more i h, h.envelopes i) refl

if_some : {X : Type 0} (o : Option X) (P : X → Type 0) → ((x : X) → o ≡ Some x → P x) → IfSome o P
if_some None P h = tt
if_some (Some x) P h = h x refl

-- what there is, there is
some_value : {X : Type 0} (o : Option X) → is_some o ≡ true → (x : X) × (o ≡ Some x)
some_value (Some x) h = (x, refl)
some_value None h = absurd (cc)

-- the messages of a part where one has met this fate
abbrev met : TrafficView → ℕ → Fate → TrafficView
met v number f = record v { traffic = record v.traffic { net = meets v.traffic.net number f } }

-- its reply can be heard in its slot
can_listen : (m : Machine) (number : ℕ) (f : Fate) (o slot exchange : ℕ) (at : Reading) → IsReady m → TurnFacts m.config (state_of m) → IsQuiet m.traffic → IsBegun m.traffic.traffic o → IsSome (reply_at (meets m.traffic.traffic.net number f) number)
    → slot_in (owner_in m.traffic.traffic o).currents exchange ≡ Some slot → ListenRoom m o slot number at → CanListen (record m { traffic = met m.traffic number f }) o slot number at
can_listen m number f o slot exchange at h facts quiet begun some q room =
    let c : Config = m.config in
    let g : Staging = m.staging.staging in
    let t : Traffic = m.traffic.traffic in
    let d : Stores = m.stores.stores in
    let w : Owner = owner_in t o in
    let more : List Message = meets t.net number f in
    let says_so : said_in more number ≡ said_in t.net number = ap said_by ((fate_same t.net number f).bodies number) in
    let slots = facts.slots o slot exchange q in
    record {
      may = may_take c g (met m.traffic number f) d o (hear_turn c o m.clock.steps at slot (said_in more number) w) (ready_fate c g t d number f h) facts.replicas quiet begun ((facts.turns o m.clock.steps at).hears slot (said_in more number));
      hears = record {
        reply = some;
        inside = slots.0;
        slots = slots.1;
        small = subst (HearsSmallStamps w.session (slot_replica slot)) (sym says_so) (facts.small o (slot_replica slot) number);
        attempts = facts.attempts o;
      };
      room = record {
        messages = room.room.messages;
        made = subst (λ (r : Reply). HasRoomFor c at (Some r) (view_in m.traffic o) m.traffic.spare m.traffic.outbox) (sym says_so) room.room.made;
      };
      ends = subst (λ (r : Reply). CanEnd m o (hear_turn c o m.clock.steps at slot r w).ending) (sym says_so) room.ends;
    }

can_come : (m : Machine) (number : ℕ) (f : Fate) (e : Envelope) (at : Reading) → IsReady m → TurnFacts m.config (state_of m) → IsQuiet m.traffic → is_sent m.traffic.traffic.net number ≡ true
    → envelope_at m.traffic.traffic.net number ≡ Some e → ComeRoom m number at → CanCome (record m { traffic = met m.traffic number f }) number e at
can_come m number f e at h facts quiet sent given room =
    let c : Config = m.config in
    let g : Staging = m.staging.staging in
    let t : Traffic = m.traffic.traffic in
    let d : Stores = m.stores.stores in
    let more : List Message = meets t.net number f in
    let says : SaysSame t.net more = fate_same t.net number f in
    let env : (message_at t.net number).envelope ≡ e = sent_envelope t.net number e sent given in
    let asks : (r : Request) → request_at more number ≡ Some r → request_at t.net number ≡ Some r = λ r q. sym (request_same t.net more number says) ∙ q in
    let few : length t.net ≤ 6400001 = messages_few c g t d h in
    let long : length more ≡ length t.net = says.same_length in
    let begun : IsBegun t e.owner = (subst (λ (x : Envelope). 1 ≤ x.owner) env (owner_from c g t d h number sent), subst (λ (x : Envelope). x.owner < length t.owners) env (owner_there c g t d h number sent)) in
    record {
      sent = envelope_same t.net more number says ∙ given;
      begun = begun;
      servable = λ some. (let q = some_value (request_at more number) some in record {
        here = subst (λ (x : Envelope). IsThere d.shards x.target) env (there_so c g t d number h sent);
        room = if_some (request_at more number) (λ (r : Request). is_ready_for m.stores e.target r ≡ true) (λ r k. subst (λ (x : Envelope). is_ready_for m.stores x.target r ≡ true) env (room.served r (asks r k)));
        timely = if_some (request_at more number) (λ (r : Request). is_timely e.target r ≡ true) (λ r k. timely_so c g t d number e.target r h (asks r k));
        asked = ap (λ (x : Envelope). x.request) (says.envelopes number) ∙ asked_so c g t d number q.0 h (asks q.0 q.1);
        messages = room.messages;
        few = omega (arith, few, long);
      });
      heard = λ some slot q. can_listen m number f e.owner slot e.exchange at h facts quiet begun some q (subst (λ (x : Envelope). HearRoom m number x at) env (room.heard (sym (ap is_some (reply_same t.net more number says)) ∙ some)) slot q);
    }

pub come_ready : (m : Machine) (u : TrafficView) (number : ℕ) (f : Fate) (e : Envelope) (at : Reading) → IsReady m → TurnFacts m.config (state_of m) → IsQuiet m.traffic → is_sent m.traffic.traffic.net number ≡ true
    → u ≡ met m.traffic number f → envelope_at m.traffic.traffic.net number ≡ Some e → ComeRoom m number at → CanCome (record m { traffic = u }) number e at
come_ready m u number f e at h facts quiet sent same given room = subst (λ (v : TrafficView). CanCome (record m { traffic = v }) number e at) (sym same) (can_come m number f e at h facts quiet sent given room)

-- what its coming is, of the message as it was sent
pub came : (c : Config) (s z : State) (m : ℕ) (f : Fate) (e : Envelope) (at : Reading) → is_sent s.net m ≡ true → envelope_at s.net m ≡ Some e
    → z ≡ comes c (marks_message s m f) m at e (message_at (meets s.net m f) m).body
    → z ≡ comes c (marks_message s m f) m at (message_at s.net m).envelope (message_at s.net m).body
came c s z m f e at sent given h =
    h ∙ ap (λ (x : Envelope). comes c (marks_message s m f) m at x (message_at (meets s.net m f) m).body) (sym (sent_envelope s.net m e sent given)) ∙ ap (λ (x : Body). comes c (marks_message s m f) m at (message_at s.net m).envelope x) ((fate_same s.net m f).bodies m)

-- the same of the parts, where the code has them
pub came_so : (c : Config) (k : Clock) (g : Staging) (v u : TrafficView) (d : Stores) (z : State) (m : ℕ) (f : Fate) (e : Envelope) (at : Reading) → is_sent v.traffic.net m ≡ true → envelope_at v.traffic.net m ≡ Some e → u ≡ met v m f
    → z ≡ comes c (assembled k g u.traffic d) m at e (message_at u.traffic.net m).body
    → z ≡ comes c (marks_message (assembled k g v.traffic d) m f) m at (message_at v.traffic.net m).envelope (message_at v.traffic.net m).body
came_so c k g v u d z m f e at sent given same h =
    came c (assembled k g v.traffic d) z m f e at sent given (h ∙ ap (λ (x : TrafficView). comes c (assembled k g x.traffic d) m at e (message_at x.traffic.net m).body) same)

-- a message that was sent has an envelope
by_none : (b : Bool) (x : Envelope) → (if b then Some x else None) ≡ None → b ≡ true → ⊥
by_none true x e h = absurd (cc)
by_none false x e h = absurd (cc)

pub none_unsent : (net : List Message) (m : ℕ) → envelope_at net m ≡ None → is_sent net m ≡ true → ⊥
none_unsent net m e h = by_none (is_sent net m) (message_at net m).envelope e h
