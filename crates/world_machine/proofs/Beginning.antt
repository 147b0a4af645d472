-- What calls and fence statements need that end in the turn in which they begin: no call does.
use Rattle.std.proofs.Common.{◌≡◌, ℕ, ◌+◌, ◌-◌, ◌<◌, ◌≤◌, ◌^◌, Bool, List, [], ◌∷◌, ◌++◌, length, get_or, Option, Some, None, refl, sym, ap, ◌∙◌, subst, arith, length-append}
use Rattle.std.specs.List.{filter}
use Rattle.std.specs.Prelude.{⊤, not, nat_lt}
use Rattle.std.proofs.lemmas.Bool.{cond_both}
use Rattle.std.proofs.lemmas.List.{length-map}
use Rattle.std.proofs.lemmas.List.Elements.{All-nil}
use Rattle.causal_context.specs.Seen.{Seen}
use Rattle.causal_context.specs.Services.{IsService, AreServices, place_of}
use Rattle.causal_context.specs.declared.dep.Dep.{Dep}
use Rattle.pipeline_lang.specs.declared.config.Config.{Config}
use Rattle.truetime.specs.Reading.{Reading}
use Rattle.rss_names.specs.Services.{same_service}
use Rattle.rss_names.specs.declared.service.ServiceId.{ServiceId}
use Rattle.rss_model.specs.declared.op.Op.{Op}
use Rattle.rss_model.specs.declared.op.Op.TheVariants as op
use Rattle.rss_tables.specs.declared.fences.FenceWork.{FenceWork}
use Rattle.rss_tables.specs.declared.fences.FenceWork.TheVariants.{Nothing, Past, Fix}
use Rattle.rss_wire.specs.declared.message.Message.{Message}
use Rattle.owner_sessions.specs.Boxed.{IsEmptyBox}
use Rattle.owner_sessions.specs.declared.outbox.Outbox.{Outbox}
use Rattle.owner_turns.specs.Going.{SpareView}
use Rattle.owner_turns.specs.Whole.{OwnerView}
use Rattle.rss_tables.specs.Works.{plan_for, fences_of, plan_all, fence_of, others_than}
use Rattle.rss_machine.specs.Moves.{opens_call, opens_fence, counts_fences}
use Rattle.pipeline_stage.specs.CopiesView.{AreCopies}
use Rattle.rss_machine.specs.Calls.{fenced_context, goes_on_with_works}
use Rattle.rss_machine.specs.Effect.{begins_call}
use Rattle.rss_machine.specs.State.{State, Stage, Owner, no_owner, no_stage}
use Rattle.rss_machine.specs.declared.session.OwnerKind.{OwnerKind}
use Rattle.rss_machine.specs.declared.session.OwnerKind.TheVariants as kind
use Rattle.turn_laws.specs.Few.{IsFew}
use Rattle.turn_sizes.proofs.Served.{services_few}
use Rattle.turn_laws.specs.Turns.{goes, Through, over, waits, stores, through, through_turn, works_over_turn, start_turn, register_start, launch_turn, entered_before, begin_turn, fenced, waiting}
use Rattle.world_parts.specs.Halves.{adds_owner}
use Rattle.world_parts.specs.Parts.{Clock, Staging, Traffic, Stores, assembled, stage_in, owner_in}
use Rattle.world_stages.specs.Halves.{begun, fence_begun}
use Rattle.world_stages.specs.View.{StagingView}
use Rattle.world_traffic.specs.Turned.{MayTake, beginning}
use Rattle.world_traffic.specs.View.{TrafficView, IsBegun, IsQuiet, CountsFit, HasTurnRoom, HasRoomFor, made_of, next_of, view_in}
use Rattle.world_traffic.proofs.Counts.{one_more_fits, fewer_fit}
use Rattle.world_machine.specs.Beginning.{NextTurn, call_owner, fence_owner}
use Rattle.world_machine.proofs.Counted.{looks_same}
use Rattle.world_machine.specs.Ending.{EndRoom, FenceRoom}
use Rattle.world_machine.proofs.Lists.{get_end}

-- the owner that was added
pub added : (t u : Traffic) (w : Owner) (o : ℕ) → u ≡ adds_owner t w w.works.left → o ≡ length t.owners → owner_in u o ≡ w
added t u w o e q = ap (λ (y : Traffic). owner_in y o) e ∙ ap (λ (j : ℕ). get_or (t.owners ++ w ∷ []) j no_owner) q ∙ get_end t.owners w no_owner

-- going through works does not change what an owner is
abbrev ThroughKind : OwnerKind → Through → Type 0
ThroughKind k (over v) = v.kind ≡ k
ThroughKind k (waits v) = ⊤
ThroughKind k (stores v id) = ⊤

through_kind : (at : Reading) (w : Owner) (works : List (ServiceId × FenceWork)) → ThroughKind w.kind (through at w works)
through_kind at w [] = refl
through_kind at w ((id, Nothing) ∷ works) = through_kind at (fenced w id) works
through_kind at w ((id, Past time) ∷ works) =
    cond_both (nat_lt time at.earliest) (through at (fenced w id) works) (waits (waiting w time)) (ThroughKind w.kind) (λ e. through_kind at (fenced w id) works) (λ e. tt)
through_kind at w ((id, Fix) ∷ works) = tt

-- a call goes on
launch_ending : (c : Config) (o step : ℕ) (at : Reading) (x : Op) (w : Owner) → (launch_turn c o step at x w).ending ≡ goes
launch_ending c o step at (op.Read key) w = refl
launch_ending c o step at (op.Write key value) w = refl
launch_ending c o step at (op.Snap keys) w = refl
launch_ending c o step at (op.Txn reads guard writes) w = refl

register_ending : (c : Config) (o step : ℕ) (at : Reading) (x : Op) (deps : List Dep) (w : Owner) → (register_start c o step at x deps w).ending ≡ goes
register_ending c o step at x [] w = launch_ending c o step at x w
register_ending c o step at x (dep ∷ deps) w = refl

start_ending : (c : Config) (o step : ℕ) (at : Reading) (x : Op) (w : Owner) → (start_turn c o step at x w).ending ≡ goes
start_ending c o step at (op.Read key) w = register_ending c o step at (op.Read key) w.works.copy.deps w
start_ending c o step at (op.Write key value) w = register_ending c o step at (op.Write key value) w.works.copy.deps w
start_ending c o step at (op.Snap keys) w = launch_ending c o step at (op.Snap keys) w
start_ending c o step at (op.Txn reads guard writes) w = launch_ending c o step at (op.Txn reads guard writes) w

call_ending : (c : Config) (o step : ℕ) (at : Reading) (x : Op) (y : Through) → ThroughKind (kind.Calling x) y → (through_turn c o step at y).ending ≡ goes
call_ending c o step at x (over v) h = ap (λ (k : OwnerKind). (works_over_turn c o step at v k).ending) h ∙ start_ending c o step at x (entered_before step at x v)
call_ending c o step at x (waits v) h = refl
call_ending c o step at x (stores v id) h = refl

call_goes : (c : Config) (o step : ℕ) (at : Reading) (x : Op) (w : Owner) → w.kind ≡ kind.Calling x → (begin_turn c o step at w).ending ≡ goes
call_goes c o step at x w e = call_ending c o step at x (through at w w.works.left) (subst (λ (k : OwnerKind). ThroughKind k (through at w w.works.left)) e (through_kind at w w.works.left))

pub call_can_end : (c : Config) (v : StagingView) (t u : Traffic) (w : Owner) (step n o now : ℕ) (x : Op) (seen : Seen) (at : Reading)
    → u ≡ adds_owner t w w.works.left → w ≡ call_owner step n seen x → o ≡ length t.owners
    → EndRoom c v (owner_in u o).stage (owner_in u o).works.copy (begin_turn c o now at (owner_in u o)).ending
call_can_end c v t u w step n o now x seen at e h q =
    let kind_is : (owner_in u o).kind ≡ kind.Calling x = ap (λ (y : Owner). y.kind) (added t u w o e q ∙ h) in
    subst (EndRoom c v (owner_in u o).stage (owner_in u o).works.copy) (sym (call_goes c o now at x (owner_in u o) kind_is)) tt

-- a call is opened
pub call_opens : (k : Clock) (g g' : Staging) (t u : Traffic) (d : Stores) (n o : ℕ) (x : Op) (w : Owner)
    → w ≡ call_owner k.steps n (stage_in g n).context x → u ≡ adds_owner t w w.works.left → o ≡ length t.owners → g' ≡ begun g n o x
    → assembled k g' u d ≡ opens_call (assembled k g t d) n x
call_opens k g g' t u d n o x w h e q r = rw (r, e, h, q) refl

pub call_begins : (c : Config) (s u : State) (n : ℕ) (at : Reading) (x : Op) (o : Option Op) → o ≡ Some x → u ≡ goes_on_with_works c (opens_call s n x) (length s.owners) at → u ≡ begins_call c s n at o
call_begins c s u n at x o e h = h ∙ ap (begins_call c s n at) (sym e)

-- a fence statement goes on or is done
fence_ending : (c : Config) (v : StagingView) (n o step : ℕ) (copy : Seen) (at : Reading) (y : Through) → ThroughKind kind.Fencing y → FenceRoom v n copy → EndRoom c v n copy (through_turn c o step at y).ending
fence_ending c v n o step copy at (over w) h room = subst (λ (k : OwnerKind). EndRoom c v n copy (works_over_turn c o step at w k).ending) (sym h) room
fence_ending c v n o step copy at (waits w) h room = tt
fence_ending c v n o step copy at (stores w id) h room = tt

pub fence_can_end : (c : Config) (v : StagingView) (n o step : ℕ) (w : Owner) (at : Reading) → w.kind ≡ kind.Fencing → FenceRoom v n w.works.copy → EndRoom c v n w.works.copy (begin_turn c o step at w).ending
fence_can_end c v n o step w at e room = fence_ending c v n o step w.works.copy at (through at w w.works.left) (subst (λ (k : OwnerKind). ThroughKind k (through at w w.works.left)) e (through_kind at w w.works.left)) room

-- a fence statement is opened
pub fence_opens : (k : Clock) (g g' : Staging) (t u : Traffic) (d : Stores) (n o : ℕ) (w : Owner)
    → w ≡ fence_owner k.steps n (stage_in g n).context → u ≡ adds_owner t w w.works.left → o ≡ length t.owners → g' ≡ fence_begun g n o
    → assembled k g' u d ≡ opens_fence (assembled k g t d) n
fence_opens k g g' t u d n o w h e q r = rw (r, e, h, q) refl

-- it can end at once
room_same : (v : StagingView) (n o : ℕ) (seen : Seen) → FenceRoom v n seen → FenceRoom (record v { staging = fence_begun v.staging n o }) n seen
room_same v n o seen h =
    let context : (stage_in (fence_begun v.staging n o) n).context ≡ (stage_in v.staging n).context = looks_same (λ (x : Stage). x.context) v.staging.stages (n - 1) (record (stage_in v.staging n) { owner = Some o }) refl (n - 1) in
    let position : (stage_in (fence_begun v.staging n o) n).cursor.position ≡ (stage_in v.staging n).cursor.position = looks_same (λ (x : Stage). x.cursor.position) v.staging.stages (n - 1) (record (stage_in v.staging n) { owner = Some o }) refl (n - 1) in
    record {
      spare = subst (λ (x : Seen). AreCopies v.spare (fenced_context x seen) 1) (sym context) h.spare;
      position = subst (λ (k : ℕ). k + 1 < 2 ^ 64) (sym position) h.position;
    }

pub fence_opened : (c : Config) (v v' : StagingView) (t u : Traffic) (w : Owner) (step n o now : ℕ) (at : Reading)
    → u ≡ adds_owner t w w.works.left → w ≡ fence_owner step n (stage_in v.staging n).context → o ≡ length t.owners
    → v' ≡ record v { staging = fence_begun v.staging n o } → FenceRoom v n (stage_in v.staging n).context
    → EndRoom c v' (owner_in u o).stage (owner_in u o).works.copy (begin_turn c o now at (owner_in u o)).ending
fence_opened c v v' t u w step n o now at e h q r room =
    let seen : Seen = (stage_in v.staging n).context in
    let here : owner_in u o ≡ fence_owner step n seen = added t u w o e q ∙ h in
    let room' : FenceRoom v' n seen = subst (λ (x : StagingView). FenceRoom x n seen) (sym r) (room_same v n o seen room) in
    subst (λ (x : Owner). EndRoom c v' x.stage x.works.copy (begin_turn c o now at x).ending) (sym here) (fence_can_end c v' n o now (fence_owner step n seen) at refl room')

-- a stage that is not there has used no service
pub no_services : (x : Stage) → x ≡ no_stage → AreServices x.context.last.services
no_services x e = subst (λ (y : Stage). AreServices y.context.last.services) (sym e) (record { in_range = All-nil IsService; in_order = λ i j d a b. absurd (omega (arith, b)) })

-- sixteen fences at most are planned
filter_short : {X : Type 0} (test : X → Bool) (xs : List X) → length (filter test xs) ≤ length xs
filter_short test [] = omega arith
filter_short {X = X} test (x ∷ xs) =
    let h = filter_short test xs in
    cond_both (test x) (x ∷ filter test xs) (filter test xs) (λ (l : List X). length l ≤ length (x ∷ xs)) (λ e. omega (arith, h)) (λ e. omega (arith, h))

fences_many : (seen : Seen) (services : List ServiceId) → length services ≤ 16 → length (fences_of seen services) ≤ 16
fences_many seen services h = let a = length-map {B = ServiceId × FenceWork} services (λ (id : ServiceId). (id, fence_of seen id)) in omega (arith, a, h)

pub few_for : (seen : Seen) (id : ServiceId) → AreServices seen.last.services → length (plan_for seen id).fences ≤ 16
few_for seen id h =
    let a : length (others_than id seen.last.services) ≤ length seen.last.services = filter_short (λ (other : ServiceId). not (same_service id other)) seen.last.services in
    let b = services_few seen.last.services h in
    fences_many seen (others_than id seen.last.services) (omega (arith, a, b))

pub few_all : (seen : Seen) → AreServices seen.last.services → length (plan_all seen).fences ≤ 16
few_all seen h = fences_many seen seen.last.services (services_few seen.last.services h)

-- fences that are counted leave room for the others
counts_left : (fences : List (ServiceId × FenceWork)) (n m : ℕ) (counts : List ℕ) → CountsFit m counts → n + length fences ≤ m → CountsFit n (counts_fences fences counts)
counts_left [] n m counts h e = fewer_fit n m counts h (omega (arith, e))
counts_left (f ∷ fences) n m counts h e = counts_left fences n (n + length fences) _ (one_more_fits m (n + length fences) (place_of f.0) counts h (omega (arith, e))) (omega arith)

-- an owner that was opened can go through its works
pub record Opened (v u : TrafficView) (o : ℕ) : Type 0 where
  pub first : 1 ≤ length v.traffic.owners
  pub opens : u.traffic ≡ adds_owner v.traffic (next_of v.next) (next_of v.next).works.left
  pub number : o ≡ length v.traffic.owners
  pub made : view_in u o ≡ made_of v.next
  pub others : u ≡ record v { traffic = u.traffic; each = u.each; free = u.free; next = None }
  pub left : length (next_of v.next).works.left ≤ 16

pub opened_begun : (v u : TrafficView) (o : ℕ) → Opened v u o → IsBegun u.traffic o
opened_begun v u o h =
    let many : length u.traffic.owners ≡ length v.traffic.owners + 1 = ap (λ (t : Traffic). length t.owners) h.opens ∙ length-append v.traffic.owners (next_of v.next ∷ []) in
    let first = h.first in
    let number = h.number in
    (omega (arith, first, number), omega (arith, many, number))

pub opened_may : (c : Config) (v u : TrafficView) (o step : ℕ) (at : Reading) → Opened v u o → NextTurn c at v → IsFew (begin_turn c o step at (owner_in u.traffic o)) → MayTake c u o (beginning c o step at u.traffic)
opened_may c v u o step at h room few =
    let net : u.traffic.net ≡ v.traffic.net = ap (λ (t : Traffic). t.net) h.opens in
    let planned : u.traffic.planned ≡ counts_fences (next_of v.next).works.left v.traffic.planned = ap (λ (t : Traffic). t.planned) h.opens in
    let left = h.left in
    record {
      begun = opened_begun v u o h;
      quiet = subst IsEmptyBox (sym (ap (λ (x : TrafficView). x.outbox) h.others)) room.quiet;
      replicas = room.replicas;
      messages = subst (λ (l : List Message). length l + 32 < 2 ^ 32) (sym net) room.few;
      counts = subst (CountsFit 16) (sym planned) (counts_left (next_of v.next).works.left 16 32 v.traffic.planned room.counts (omega (arith, left)));
      few = few;
    }

pub opened_room : (c : Config) (v u : TrafficView) (o : ℕ) (at : Reading) → Opened v u o → NextTurn c at v → HasTurnRoom c at u o None
opened_room c v u o at h room = record {
  messages = subst (λ (k : ℕ). 32 ≤ k) (sym (ap (λ (x : TrafficView). x.messages) h.others)) room.messages;
  made =
      subst (λ (w : OwnerView). HasRoomFor c at None w u.spare u.outbox) (sym h.made)
      (subst (λ (x : SpareView). HasRoomFor c at None (made_of v.next) x u.outbox) (sym (ap (λ (x : TrafficView). x.spare) h.others))
      (subst (λ (x : Outbox). HasRoomFor c at None (made_of v.next) v.spare x) (sym (ap (λ (x : TrafficView). x.outbox) h.others)) room.made));
}
