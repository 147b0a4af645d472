-- What is made ready before a step, put together.
use Rattle.std.proofs.Common.{◌≡◌, ℕ, ◌+◌, ◌<◌, ◌≤◌, ◌^◌, Bool, true, false, List, [], length, get_or, Option, Some, None, refl, sym, ap, ◌∙◌, subst, arith, true≢false, if◌then◌else◌}
use Rattle.std.proofs.lemmas.List.{length-map}
use Rattle.std.specs.Prelude.{◌==◌, ◌&&◌, ◌||◌, not, is_some, IsSome, IfSome}
use Rattle.causal_context.specs.Seen.{Seen, fenced_outside}
use Rattle.pipeline_lang.specs.declared.config.Config.{Config}
use Rattle.pipeline_stage.specs.CopiesView.{AreCopies}
use Rattle.rss_names.specs.declared.attempt.Attempt.{Attempt}
use Rattle.rss_names.specs.declared.service.ServiceId.{ServiceId}
use Rattle.truetime.specs.Reading.{Reading}
use Rattle.rss_wire.specs.declared.envelope.Envelope.{Envelope}
use Rattle.rss_wire.specs.Messages.{request_at, reply_at}
use Rattle.rss_wire.specs.declared.messages.Request.{Request}
use Rattle.rss_machine.specs.Slots.{slot_in}
use Rattle.world_stores.specs.StoresView.{StoresView, is_ready_for}
use Rattle.causal_context.specs.Services.{AreServices}
use Rattle.session_stub.specs.Picked.{fences_from}
use Rattle.session_stub.proofs.Picks.{plan_all_is, plan_for_is}
use Rattle.owner_turns.proofs.Stubbed.{few_fences}
use Rattle.rss_model.specs.declared.op.Op.{Op}
use Rattle.rss_machine.specs.Session.{service_of}
use Rattle.rss_tables.specs.declared.fences.FenceWork.{FenceWork}
use Rattle.rss_tables.specs.Works.{Plan, no_works, planned, plan_all, plan_for, fence_of}
use Rattle.rss_machine.specs.Calls.{fenced_context}
use Rattle.rss_machine.specs.State.{Owner, opening_owner, no_owner}
use Rattle.rss_machine.specs.declared.session.OwnerKind.{OwnerKind}
use Rattle.rss_machine.specs.declared.session.OwnerKind.TheVariants as kind
use Rattle.owner_turns.specs.Whole.{KindFits, FewReplicas}
use Rattle.parts_ready.specs.Few.{AreFew}
use Rattle.world_laws.specs.Calls.{is_call, is_stub}
use Rattle.world_parts.specs.Halves.{unsettled_in}
use Rattle.world_parts.specs.Parts.{Staging, Traffic, stage_in, owner_in}
use Rattle.world_stages.specs.Readies.{IsReady, HasNumbers}
use Rattle.world_stages.specs.View.{StagingView}
use Rattle.world_traffic.specs.Turned.{said_in}
use Rattle.world_traffic.specs.View.{TrafficView, next_of, made_of, CountsFit, HasRoomFor, HasTurnRoom, IsQuiet}
use Rattle.world_machine.specs.Beginning.{NextIs, NextTurn, CallRoom, FenceStart, call_owner, fence_owner}
use Rattle.world_machine.specs.Ending.{FenceRoom, StubRoom}
use Rattle.machine_room.specs.Prepared.{KindRoom, EndsRoom, LossIn, HearIn, ComeIn, LeavesFit}
use Rattle.world_machine.specs.Rooms.{DeathIn, stub_owner}

-- what a fence statement leaves of a context
pub planned_all : (seen : Seen) → length (plan_all seen).fences ≡ length seen.last.services
planned_all seen = length-map seen.last.services (λ (x : ServiceId). (x, fence_of seen x))

pub fenced_is : (before copy : Seen) (nothing : Bool) → nothing ≡ ((length before.last.services == 0) && not before.last.outside) → fenced_context before copy ≡ (if nothing then before else fenced_outside copy)
fenced_is before copy nothing e = by (length before.last.services == 0) before.last.outside ∙ ap (λ (b : Bool). if b then before else fenced_outside copy) (sym e)
  where
    by : (a b : Bool) → (if a then (if b then fenced_outside copy else before) else fenced_outside copy) ≡ (if a && not b then before else fenced_outside copy)
    by true true = refl
    by true false = refl
    by false true = refl
    by false false = refl

-- the death of a stage
pub left_fits : (t : Traffic) (o : Option ℕ) (left : Option (Attempt × List ℕ)) → LeavesFit t → left ≡ unsettled_in t o → KindFits (kind.Stubbing left)
left_fits t None left h e = subst (λ (x : Option (Attempt × List ℕ)). KindFits (kind.Stubbing x)) (sym e) tt
left_fits t (Some o) left h e = subst (λ (x : Option (Attempt × List ℕ)). KindFits (kind.Stubbing x)) (sym e) (h.fits o)

nothing_counts : (g : Staging) (t : Traffic) (w : Owner) → AreFew g t → w.works.left ≡ [] → CountsFit (length w.works.left) t.planned
nothing_counts g t w few e = record { fits = λ place. (let p = few.planned place in let l : length w.works.left ≡ 0 = ap (λ (x : List (ServiceId × _)). length x) e in omega (arith, p, l)) }

pub death_made : (v : StagingView) (t : TrafficView) (g : Staging) (u : Traffic) (step n : ℕ) (left : Option (Attempt × List ℕ)) (seen : Seen)
    → AreFew g u → v.staging ≡ g → t.traffic ≡ u → 1 ≤ v.room → left ≡ unsettled_in u (stage_in g n).owner → seen ≡ (stage_in g n).context
    → next_of t.next ≡ opening_owner n (kind.Stubbing left) false (no_works seen) step → IsSome t.next → 0 < t.free → DeathIn v t step n
death_made v t g u step n left seen few same_staging same_traffic entries of_left of_seen next there free =
    let owner : next_of t.next ≡ stub_owner t.traffic step n (stage_in v.staging n).owner (stage_in v.staging n).context = rw (next, of_left, of_seen, same_staging, same_traffic) refl in
    record {
      entries = entries;
      owner = record {
        next = owner;
        there = there;
        free = free;
        counts = subst (λ (x : Traffic). CountsFit (length (next_of t.next).works.left) x.planned) (sym same_traffic) (nothing_counts g u (next_of t.next) few (ap (λ (w : Owner). w.works.left) next));
      };
    }

-- a loss
pub loss_made : (v : StagingView) (t : TrafficView) (step : ℕ) (e : Envelope) → 0 < t.messages → t.again ≡ request_at t.traffic.net e.exchange → (is_stub (owner_in t.traffic e.owner).kind ≡ false → DeathIn v t step (owner_in t.traffic e.owner).stage) → LossIn v t step e
loss_made v t step e messages again death = record { messages = messages; again = again; death = death }

-- the ends of a turn
call_room : (c : Config) (v : StagingView) (n : ℕ) (copy : Seen) (k : OwnerKind) → is_call k ≡ true → KindRoom c v n copy k
call_room c v n copy (kind.Calling x) e = tt
call_room c v n copy kind.Fencing e = absurd (cc)
call_room c v n copy (kind.Stubbing unsettled) e = absurd (cc)

fence_room : (c : Config) (v : StagingView) (n : ℕ) (copy : Seen) (k : OwnerKind) → is_call k ≡ false → is_stub k ≡ false → FenceRoom v n copy → KindRoom c v n copy k
fence_room c v n copy (kind.Calling x) e f room = absurd (cc)
fence_room c v n copy kind.Fencing e f room = room
fence_room c v n copy (kind.Stubbing unsettled) e f room = absurd (cc)

stub_room : (c : Config) (v : StagingView) (n : ℕ) (copy : Seen) (k : OwnerKind) → is_stub k ≡ true → StubRoom c v copy → KindRoom c v n copy k
stub_room c v n copy (kind.Calling x) e room = absurd (cc)
stub_room c v n copy kind.Fencing e room = absurd (cc)
stub_room c v n copy (kind.Stubbing unsettled) e room = room

pub call_ends : (c : Config) (v : StagingView) (w : Owner) → is_call w.kind ≡ true → 1 ≤ v.room → EndsRoom c v w
call_ends c v w e entry = record { entry = entry; kind = call_room c v w.stage w.works.copy w.kind e }

pub fence_ends : (c : Config) (v : StagingView) (g : Staging) (w : Owner) (seen : Seen) → is_call w.kind ≡ false → is_stub w.kind ≡ false → v.staging ≡ g → IsReady v 1 seen 1 → seen ≡ fenced_context (stage_in g w.stage).context w.works.copy → (stage_in g w.stage).cursor.position + 1 < 2 ^ 64 → EndsRoom c v w
fence_ends c v g w seen e f same ready of_seen position =
    let what : seen ≡ fenced_context (stage_in v.staging w.stage).context w.works.copy = of_seen ∙ ap (λ (x : Staging). fenced_context (stage_in x w.stage).context w.works.copy) (sym same) in
    let room : FenceRoom v w.stage w.works.copy = record {
      spare = subst (λ (x : Seen). AreCopies v.spare x 1) what ready.spare;
      position = subst (λ (x : Staging). (stage_in x w.stage).cursor.position + 1 < 2 ^ 64) (sym same) position;
    } in
    record { entry = ready.room; kind = fence_room c v w.stage w.works.copy w.kind e f room }

pub stub_ends : (c : Config) (v : StagingView) (g : Staging) (t : Traffic) (w : Owner) (seen : Seen) → is_stub w.kind ≡ true → v.staging ≡ g → AreFew g t → length c.pipe_ends ≤ 16 → seen ≡ w.works.copy → IsReady v (length c.pipe_ends + 1) (fenced_outside seen) (length c.pipe_ends + 1) → EndsRoom c v w
stub_ends c v g t w seen e same few pipes of_seen ready =
    let room : StubRoom c v w.works.copy = record {
      ready = subst (λ (x : Seen). IsReady v (length c.pipe_ends + 1) (fenced_outside x) (length c.pipe_ends + 1)) of_seen ready;
      pipes = pipes;
      numbers = subst (λ (x : Staging). HasNumbers x 0) (sym same) (record { next = λ p q. (let n = few.next p in omega (arith, n)) });
    } in
    let many = ready.room in
    record { entry = omega (arith, many); kind = stub_room c v w.stage w.works.copy w.kind e room }

pub hear_made : (c : Config) (at : Reading) (v : StagingView) (t : TrafficView) (u : Traffic) (o message : ℕ) → t.traffic ≡ u → HasTurnRoom c at t o (Some (said_in u.net message)) → EndsRoom c v (owner_in u o) → HearIn c at v t o message
hear_made c at v t u o message e room ends = record {
  room = subst (λ (x : Traffic). HasTurnRoom c at t o (Some (said_in x.net message))) (sym e) room;
  ends = subst (λ (x : Traffic). EndsRoom c v (owner_in x o)) (sym e) ends;
}

-- what comes
pub awaited_there : (w : Owner) (exchange : ℕ) (awaited : Bool) → awaited ≡ is_some (slot_in w.currents exchange) → awaited ≡ true → w ≡ no_owner → ⊥
awaited_there w exchange awaited e h q = true≢false (sym h ∙ e ∙ ap (λ (x : Owner). is_some (slot_in x.currents exchange)) q)

pub heard_messages : (c : Config) (at : Reading) (v : StagingView) (t : TrafficView) (o message : ℕ) → HearIn c at v t o message → 0 < t.messages
heard_messages c at v t o message h = let m = h.room.messages in omega (arith, m)

pub is_there : {X : Type 0} (o : Option X) (b : Bool) → b ≡ is_some o → b ≡ true → IsSome o
is_there o b e h = sym e ∙ h

pub come_made : (c : Config) (at : Reading) (v : StagingView) (t : TrafficView) (d : StoresView) (u : Traffic) (number : ℕ) (e : Envelope) → t.traffic ≡ u
    → IfSome (request_at u.net number) (λ r. is_ready_for d e.target r ≡ true) → 0 < t.messages
    → (IsSome (reply_at u.net number) → is_some (slot_in (owner_in u e.owner).currents e.exchange) ≡ true → HearIn c at v t e.owner number) → ComeIn c at v t d number e
come_made c at v t d u number e same served messages heard = record {
  served = λ r q. by_request (request_at u.net number) r served (ap (λ (x : Traffic). request_at x.net number) (sym same) ∙ q);
  messages = messages;
  heard = λ s q. heard (subst (λ (x : Traffic). IsSome (reply_at x.net number)) same s) (subst (λ (x : Traffic). is_some (slot_in (owner_in x e.owner).currents e.exchange) ≡ true) same q);
}
  where
    some_is : (x r : Request) → Some x ≡ Some r → x ≡ r
    some_is x r q = cc

    by_request : (o : Option Request) (r : Request) → IfSome o (λ r. is_ready_for d e.target r ≡ true) → o ≡ Some r → is_ready_for d e.target r ≡ true
    by_request None r h q = absurd (cc)
    by_request (Some x) r h q = subst (λ (y : Request). is_ready_for d e.target y ≡ true) (some_is x r q) h

-- what begins: its plan has sixteen fences at most
pub few_all : (seen : Seen) (plan : Plan) → AreServices seen.last.services → plan ≡ plan_all seen → length plan.fences ≤ 16
few_all seen plan h e = subst (λ (l : List (ServiceId × FenceWork)). length l ≤ 16) (ap (λ (p : Plan). p.fences) (plan_all_is seen (fences_from seen None 0 16) h refl ∙ sym e)) (few_fences seen None 0 16)

pub few_for : (seen : Seen) (id : ServiceId) (plan : Plan) → AreServices seen.last.services → plan ≡ plan_for seen id → length plan.fences ≤ 16
few_for seen id plan h e = subst (λ (l : List (ServiceId × FenceWork)). length l ≤ 16) (ap (λ (p : Plan). p.fences) (plan_for_is seen id (fences_from seen (Some id) 0 16) (seen.last.outside || not (length (fences_from seen (Some id) 0 16) == 0)) h refl refl ∙ sym e)) (few_fences seen (Some id) 0 16)

-- its owner, and its turn
next_is : (t : TrafficView) (g : Staging) (u : Traffic) (w : Owner) → AreFew g u → t.traffic ≡ u → next_of t.next ≡ w → IsSome t.next → 0 < t.free → length w.works.left ≤ 16 → NextIs t w
next_is t g u w few same next there free short = record {
  next = next;
  there = there;
  free = free;
  counts = record { fits = λ place. (let p = few.planned place in let q = ap (λ (x : Traffic). get_or x.planned place 0) same in let l = ap (λ (x : Owner). length x.works.left) next in omega (arith, p, q, l, short)) };
}

next_turn : (c : Config) (at : Reading) (t : TrafficView) (g : Staging) (u : Traffic) → AreFew g u → FewReplicas c → t.traffic ≡ u → 32 ≤ t.messages → HasRoomFor c at None (made_of t.next) t.spare t.outbox → IsQuiet t → NextTurn c at t
next_turn c at t g u few replicas same messages made quiet = record {
  messages = messages;
  made = made;
  quiet = quiet;
  replicas = replicas;
  few = (let n = few.messages in let q = ap (λ (x : Traffic). length x.net) same in omega (arith, n, q));
  counts = record { fits = λ place. (let p = few.planned place in let q = ap (λ (x : Traffic). get_or x.planned place 0) same in omega (arith, p, q)) };
}

pub fence_made : (c : Config) (at : Reading) (v : StagingView) (t : TrafficView) (g : Staging) (u : Traffic) (step n : ℕ) (seen what : Seen) (plan : Plan)
    → AreFew g u → FewReplicas c → v.staging ≡ g → t.traffic ≡ u → seen ≡ (stage_in g n).context → plan ≡ plan_all seen → length plan.fences ≤ 16
    → next_of t.next ≡ opening_owner n kind.Fencing true (planned seen plan) step → IsSome t.next → 0 < t.free → 32 ≤ t.messages → HasRoomFor c at None (made_of t.next) t.spare t.outbox → IsQuiet t
    → IsReady v 0 what 1 → what ≡ fenced_context seen seen → (stage_in g n).cursor.position + 1 < 2 ^ 64 → FenceStart c at v t step n
fence_made c at v t g u step n seen what plan few replicas same_staging same_traffic of_seen of_plan short next there free messages made quiet ready of_what position =
    let here : seen ≡ (stage_in v.staging n).context = of_seen ∙ ap (λ (x : Staging). (stage_in x n).context) (sym same_staging) in
    let owner : next_of t.next ≡ fence_owner step n (stage_in v.staging n).context = next ∙ ap (λ (p : Plan). opening_owner n kind.Fencing true (planned seen p) step) of_plan ∙ ap (fence_owner step n) here in
    let left : length (fence_owner step n (stage_in v.staging n).context).works.left ≤ 16 = subst (λ (x : Seen). length (plan_all x).fences ≤ 16) here (subst (λ (p : Plan). length p.fences ≤ 16) of_plan short) in
    let spare : what ≡ fenced_context (stage_in v.staging n).context (stage_in v.staging n).context = of_what ∙ ap (λ (x : Seen). fenced_context x x) here in
    record {
      owner = next_is t g u (fence_owner step n (stage_in v.staging n).context) few same_traffic owner there free left;
      turn = next_turn c at t g u few replicas same_traffic messages made quiet;
      ends = record { spare = subst (λ (x : Seen). AreCopies v.spare x 1) spare ready.spare; position = subst (λ (x : Staging). (stage_in x n).cursor.position + 1 < 2 ^ 64) (sym same_staging) position };
    }

pub call_made : (c : Config) (at : Reading) (v : StagingView) (t : TrafficView) (g : Staging) (u : Traffic) (step n : ℕ) (seen : Seen) (plan : Plan) (x : Op)
    → AreFew g u → FewReplicas c → v.staging ≡ g → t.traffic ≡ u → seen ≡ (stage_in g n).context → plan ≡ plan_for seen (service_of x) → length plan.fences ≤ 16
    → next_of t.next ≡ opening_owner n (kind.Calling x) true (planned seen plan) step → IsSome t.next → 0 < t.free → 32 ≤ t.messages → HasRoomFor c at None (made_of t.next) t.spare t.outbox → IsQuiet t
    → IsReady v 1 (stage_in g n).context 1 → CallRoom c at v t step n x
call_made c at v t g u step n seen plan x few replicas same_staging same_traffic of_seen of_plan short next there free messages made quiet ready =
    let here : seen ≡ (stage_in v.staging n).context = of_seen ∙ ap (λ (y : Staging). (stage_in y n).context) (sym same_staging) in
    let owner : next_of t.next ≡ call_owner step n (stage_in v.staging n).context x = next ∙ ap (λ (p : Plan). opening_owner n (kind.Calling x) true (planned seen p) step) of_plan ∙ ap (λ (y : Seen). call_owner step n y x) here in
    let left : length (call_owner step n (stage_in v.staging n).context x).works.left ≤ 16 = subst (λ (y : Seen). length (plan_for y (service_of x)).fences ≤ 16) here (subst (λ (p : Plan). length p.fences ≤ 16) of_plan short) in
    record {
      entries = ready.room;
      owner = next_is t g u (call_owner step n (stage_in v.staging n).context x) few same_traffic owner there free left;
      turn = next_turn c at t g u few replicas same_traffic messages made quiet;
    }
