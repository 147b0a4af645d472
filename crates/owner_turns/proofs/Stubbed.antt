-- What a stub does.
use Rattle.std.proofs.Common.{◌≡◌, ℕ, zero, suc, ◌+◌, ◌-◌, ◌<◌, ◌≤◌, ◌==◌, ◌&&◌, Bool, true, false, List, [], ◌∷◌, ◌++◌, length, map, get_or, drop, Option, Some, None, refl, sym, ap, subst, ◌∙◌, arith, append_assoc}
use Rattle.std.specs.Prelude.{if◌then◌else◌, Result, Ok, Err, OnOk, OnErr}
use Rattle.truetime.specs.Reading.{Reading}
use Rattle.causal_context.specs.Seen.{Seen}
use Rattle.pipeline_lang.specs.declared.config.Config.{Config}
use Rattle.rss_names.specs.declared.attempt.Attempt.{Attempt}
use Rattle.rss_names.specs.declared.service.Key.{Key}
use Rattle.rss_names.specs.declared.service.ServiceId.{ServiceId}
use Rattle.rss_names.specs.declared.service.Target.{Target}
use Rattle.rss_model.specs.declared.op.Op.{Op}
use Rattle.rss_model.specs.declared.op.Op.TheVariants as op
use Rattle.rss_wire.specs.declared.messages.Reply.{Reply}
use Rattle.rss_wire.specs.declared.messages.Request.{Request}
use Rattle.rss_tables.specs.Outs.{Out, awaited, slot_shard, told}
use Rattle.rss_tables.specs.Lines.{Line, no_line, line_at}
use Rattle.rss_tables.specs.Turns.{Turn, quiet}
use Rattle.rss_machine.specs.Session.{Session, service_of}
use Rattle.rss_machine.specs.State.{State, Owner}
use Rattle.rss_machine.specs.declared.session.OwnerKind.{OwnerKind}
use Rattle.rss_machine.specs.declared.session.OwnerKind.TheVariants as kind
use Rattle.rss_machine.specs.declared.session.Session.TheVariants as session
use Rattle.turn_laws.specs.Turns as turn
use Rattle.turn_laws.specs.Turns.{OwnerTurn, goes_with, lines_in, txn_turn, snap_turn}
use Rattle.owner_sessions.specs.Boxed.{HasBoxRoom, HasStubRoom}
use Rattle.owner_sessions.specs.Parts.{session_of, settling_in, txn_in, snap_in, reads_in, writes_in, keys_in, TellsTxn, TellsSnap}
use Rattle.owner_sessions.specs.declared.called.Called.{Called}
use Rattle.owner_sessions.specs.declared.doing.Doing.{Doing}
use Rattle.owner_sessions.specs.declared.doing.Doing.TheVariants as doing
use Rattle.owner_sessions.specs.declared.outbox.Outbox.{Outbox}
use Rattle.owner_turns.specs.Whole.{OwnerView, OwnerFits, KindFits, HasToSettle}
use Rattle.owner_turns.specs.declared.aim.Aim.{Aim}
use Rattle.owner_turns.specs.declared.aim.Aim.TheVariants as aim
use Rattle.owner_turns.specs.declared.way.Way.{Way}
use Rattle.owner_turns.specs.declared.way.Way.TheVariants as way
use Rattle.causal_context.specs.Services.{AreServices, has_service, service_at}
use Rattle.rss_wire.specs.declared.messages.Outcome.{Outcome}
use Rattle.rss_wire.specs.declared.messages.Reply.TheVariants as reply
use Rattle.rss_tables.specs.Lines.{tells_decision, decision_request}
use Rattle.rss_tables.specs.Works.{Works, Plan, planned, plan_all, fence_of}
use Rattle.rss_tables.specs.declared.fences.FenceWork.{FenceWork}
use Rattle.rss_machine.specs.Effect.{least_shard}
use Rattle.std.proofs.lemmas.List.{append-nil, drop_more, length-map}
use Rattle.std.specs.List.{filter}
use Rattle.turn_laws.specs.Turns.{stub_turn, started_turn, stub_start_turn, plan_turn, settle_turn, session_turn, planning, begin_turn, work_turn, behind}
use Rattle.session_stub.specs.Picked.{fences_from, is_other}
use Rattle.session_stub.proofs.Picks.{picks_all, plan_all_is}
use Rattle.owner_turns.specs.Going.{SpareView, HasStart, FencesFit, way_of, settles_in, told_in, is_decision, OpensKind}
use Rattle.owner_turns.proofs.Through.{begin_plans, opens_kept}
use Rattle.owner_turns.proofs.Acted.{work_plans}
use Rattle.owner_turns.proofs.Heard.{sent_after, lines_sent, settling_way}

-- A STUB'S STEP

pub has_started : (c : Config) (o step : ℕ) (at : Reading) (b : Bool) (w : Owner) → b ≡ true → started_turn c o step at b w ≡ work_turn c o step at w w.works.left
has_started c o step at b w e = ap (λ (x : Bool). started_turn c o step at x w) e

pub has_not : (c : Config) (o step : ℕ) (at : Reading) (b : Bool) (w : Owner) → b ≡ false → started_turn c o step at b w ≡ stub_start_turn c o step at w.kind w
has_not c o step at b w e = ap (λ (x : Bool). started_turn c o step at x w) e

pub starts_settling : (c : Config) (o step : ℕ) (at : Reading) (k : OwnerKind) (u : Attempt × List ℕ) (w : Owner) → k ≡ kind.Stubbing (Some u) → stub_start_turn c o step at k w ≡ settles_in k w
starts_settling c o step at k u w e = ap (λ (x : OwnerKind). stub_start_turn c o step at x w) e ∙ sym (ap (λ (x : OwnerKind). settles_in x w) e)

pub starts_planning : (c : Config) (o step : ℕ) (at : Reading) (k : OwnerKind) (w : Owner) → k ≡ kind.Stubbing None → stub_start_turn c o step at k w ≡ plan_turn c o step at w
starts_planning c o step at k w e = ap (λ (x : OwnerKind). stub_start_turn c o step at x w) e

pub settles_calm : (k : OwnerKind) (w : Owner) → ((settles_in k w).fences ≡ []) × ((settles_in k w).ending ≡ turn.goes)
settles_calm (kind.Stubbing (Some u)) w = (refl, refl)
settles_calm (kind.Stubbing None) w = (refl, refl)
settles_calm (kind.Calling x) w = (refl, refl)
settles_calm kind.Fencing w = (refl, refl)

pub stub_settles : (k : OwnerKind) (u : Attempt × List ℕ) → k ≡ kind.Stubbing (Some u) → HasToSettle k
stub_settles k u e = subst HasToSettle (sym e) tt

pub stub_fences : (k : OwnerKind) (u : Option (Attempt × List ℕ)) (n : ℕ) → k ≡ kind.Stubbing u → FencesFit k n → 16 ≤ n
stub_fences k u n e h = subst (λ (x : OwnerKind). FencesFit x n) e h

pub starts_calling : (c : Config) (o step : ℕ) (at : Reading) (k : OwnerKind) (x : Op) (w : Owner) → k ≡ kind.Calling x → stub_start_turn c o step at k w ≡ goes_with w []
starts_calling c o step at k x w e = ap (λ (y : OwnerKind). stub_start_turn c o step at y w) e

pub starts_fencing : (c : Config) (o step : ℕ) (at : Reading) (k : OwnerKind) (w : Owner) → k ≡ kind.Fencing → stub_start_turn c o step at k w ≡ goes_with w []
starts_fencing c o step at k w e = ap (λ (y : OwnerKind). stub_start_turn c o step at y w) e

pub ruleset stubs = (starts_calling, starts_fencing, has_started, has_not, starts_settling, starts_planning, settles_calm, stub_settles, stub_fences, work_plans, sent_after, lines_sent)

-- THE COORDINATOR IS ASKED

pub first_shard : (shards : List ℕ) (d : ℕ) → 0 < length shards → get_or shards 0 d ≡ least_shard shards
first_shard [] d h = absurd (omega (arith, h))
first_shard (s ∷ shards) d h = refl

pub some_shards : (k : OwnerKind) (d : Doing) (u : Attempt × List ℕ) → OwnerFits k d → k ≡ kind.Stubbing (Some u) → 1 ≤ length u.1
some_shards k d u h e = (subst KindFits e h.of_kind).0

pub few_shards : (k : OwnerKind) (d : Doing) (u : Attempt × List ℕ) → OwnerFits k d → k ≡ kind.Stubbing (Some u) → length u.1 ≤ 16
few_shards k d u h e = (subst KindFits e h.of_kind).1

pub ruleset settling = (first_shard, some_shards)

-- FENCES ARE PLANNED

pub plans_first : (c : Config) (o step : ℕ) (at : Reading) (w : Owner) → (plan_turn c o step at w).fences ≡ (plan_all w.works.copy).fences
plans_first c o step at w = ap (λ (l : List (ServiceId × FenceWork)). (plan_all w.works.copy).fences ++ l) (begin_plans c o step at (planning w)) ∙ append-nil (plan_all w.works.copy).fences

pub box_fences : (o p : Outbox) (n : ℕ) → HasBoxRoom o n → p ≡ record o { fences = p.fences } → HasBoxRoom p n
box_fences o p n h e = subst (λ (x : Outbox). HasBoxRoom x n) (sym e) (record { lines = h.lines; keys = h.keys; writes = h.writes; rounds = h.rounds; lists = h.lists; width = h.width })

pub ruleset plans = (plans_first, box_fences)

pub all_planned : (seen : Seen) (now old : List (ServiceId × FenceWork)) → AreServices seen.last.services → old ≡ [] → now ≡ old ++ fences_from seen None 0 16 → now ≡ (plan_all seen).fences
all_planned seen now old h e n = ap (λ (p : Plan). p.fences) (plan_all_is seen now h (n ∙ ap (λ (l : List (ServiceId × FenceWork)). l ++ fences_from seen None 0 16) e))

pub few_fences : (seen : Seen) (except : Option ServiceId) (place left : ℕ) → length (fences_from seen except place left) ≤ left
few_fences seen except place zero = omega arith
few_fences seen except place (suc left) = by (has_service seen.last.services (service_at place) && is_other except (service_at place)) (few_fences seen except (suc place) left)
  where
    by : (b : Bool) → length (fences_from seen except (suc place) left) ≤ left → length (if b then (service_at place, fence_of seen (service_at place)) ∷ fences_from seen except (suc place) left else fences_from seen except (suc place) left) ≤ suc left
    by true h = omega (arith, h)
    by false h = omega (arith, h)

pub few_planned : (seen : Seen) (now old : List (ServiceId × FenceWork)) → old ≡ [] → now ≡ old ++ fences_from seen None 0 16 → length now ≤ 16
few_planned seen now old e n = subst (λ (l : List (ServiceId × FenceWork)). length l ≤ 16) (sym (n ∙ ap (λ (l : List (ServiceId × FenceWork)). l ++ fences_from seen None 0 16) e)) (few_fences seen None 0 16)

pub planning_is : (copy : Seen) (fences : List (ServiceId × FenceWork)) → fences ≡ (plan_all copy).fences → planned copy (record { fences = fences; enter = false }) ≡ planned copy (plan_all copy)
planning_is copy fences e = ap (λ (l : List (ServiceId × FenceWork)). planned copy (record { fences = l; enter = false })) e

pub ruleset planned_all = (planning_is, all_planned, few_planned)

-- AN ATTEMPT IS SETTLED

pub settled_so : (c : Config) (o step : ℕ) (at : Reading) (slot : ℕ) (outcome : Outcome) (x : Session) (w : Owner) → way_of x ≡ way.Settling → session_turn c o step at slot (reply.Decided outcome) x w ≡ behind (told_in x outcome) [] (plan_turn c o step at w)
settled_so c o step at slot outcome (session.Settling a b) w q = refl
settled_so c o step at slot outcome session.Idle w q = cc
settled_so c o step at slot outcome (session.Fixing f) w q = cc
settled_so c o step at slot outcome (session.Register f) w q = cc
settled_so c o step at slot outcome (session.Transaction t) w q = cc
settled_so c o step at slot outcome (session.Snapshot t) w q = cc

settle_by : (c : Config) (o step : ℕ) (at : Reading) (slot : ℕ) (r : Reply) (a : Attempt) (b : List ℕ) (w : Owner) → is_decision r ≡ false → session_turn c o step at slot r (session.Settling a b) w ≡ goes_with w []
settle_by c o step at slot (reply.Decided outcome) a b w e = cc
settle_by c o step at slot reply.Wounded a b w e = refl
settle_by c o step at slot (reply.Granted shown) a b w e = refl
settle_by c o step at slot (reply.Wait holders) a b w e = refl
settle_by c o step at slot (reply.Prepared time) a b w e = refl
settle_by c o step at slot reply.Done a b w e = refl
settle_by c o step at slot (reply.Outcome outcome) a b w e = refl
settle_by c o step at slot reply.Open a b w e = refl
settle_by c o step at slot reply.Released a b w e = refl
settle_by c o step at slot (reply.Blocked holders) a b w e = refl
settle_by c o step at slot (reply.Values versions skipped) a b w e = refl
settle_by c o step at slot reply.Fixed a b w e = refl
settle_by c o step at slot (reply.Held value stamp writer) a b w e = refl
settle_by c o step at slot reply.Stored a b w e = refl

pub settle_quiet : (c : Config) (o step : ℕ) (at : Reading) (slot : ℕ) (r : Reply) (x : Session) (w : Owner) → is_decision r ≡ false → way_of x ≡ way.Settling → session_turn c o step at slot r x w ≡ goes_with w []
settle_quiet c o step at slot r (session.Settling a b) w e q = settle_by c o step at slot r a b w e
settle_quiet c o step at slot r session.Idle w e q = cc
settle_quiet c o step at slot r (session.Fixing f) w e q = cc
settle_quiet c o step at slot r (session.Register f) w e q = cc
settle_quiet c o step at slot r (session.Transaction t) w e q = cc
settle_quiet c o step at slot r (session.Snapshot t) w e q = cc

pub box_lines : (o p : Outbox) (n : ℕ) → HasBoxRoom o n → p ≡ record o { lines = p.lines } → 32 ≤ p.lines.room → p.lines.keys ≡ o.lines.keys → p.lines.writes ≡ o.lines.writes → HasBoxRoom p n
box_lines o p n h e l k w = subst (λ (x : Outbox). HasBoxRoom x n) (sym e) (record { lines = l; keys = omega (arith, k, h.keys); writes = omega (arith, w, h.writes); rounds = h.rounds; lists = h.lists; width = h.width })

pub ruleset settled = (settled_so, settle_quiet, box_lines, sent_after, lines_sent)

pub told_nothing : (k : OwnerKind) (u : Attempt × List ℕ) (outcome : Outcome) → k ≡ kind.Stubbing (Some u) → told_in (settling_in k) outcome ≡ tells_decision u.0 outcome u.1
told_nothing k u outcome e = ap (λ (x : OwnerKind). told_in (settling_in x) outcome) e

pub settling_fences : (k : OwnerKind) (d : Doing) (n : ℕ) → way_of (session_of k d) ≡ way.Settling → FencesFit k n → 16 ≤ n
settling_fences (kind.Stubbing u) d n q h = h
settling_fences (kind.Calling x) doing.Settling n q h = cc
settling_fences (kind.Calling x) doing.Idle n q h = cc
settling_fences (kind.Calling x) (doing.Fixing r) n q h = cc
settling_fences (kind.Calling x) (doing.Register r) n q h = cc
settling_fences (kind.Calling x) (doing.Transaction c t) n q h = cc
settling_fences (kind.Calling x) (doing.Snapshot c t) n q h = cc
settling_fences kind.Fencing doing.Settling n q h = cc
settling_fences kind.Fencing doing.Idle n q h = cc
settling_fences kind.Fencing (doing.Fixing r) n q h = cc
settling_fences kind.Fencing (doing.Register r) n q h = cc
settling_fences kind.Fencing (doing.Transaction c t) n q h = cc
settling_fences kind.Fencing (doing.Snapshot c t) n q h = cc

pub ruleset telling = (few_shards, told_nothing)

pub tells_more : (attempt : Attempt) (outcome : Outcome) (outs now : List Out) (shards : List ℕ) (at shard : ℕ) (whole : List Out) → at < length shards → shard ≡ get_or shards at shard → now ≡ outs ++ told shard (decision_request attempt outcome) ∷ [] → outs ++ tells_decision attempt outcome (drop at shards) ≡ whole → now ++ tells_decision attempt outcome (drop (at + 1) shards) ≡ whole
tells_more attempt outcome outs now shards at shard whole h g e w =
    ap (λ (l : List Out). l ++ tells_decision attempt outcome (drop (at + 1) shards)) e
    ∙ append_assoc outs (told shard (decision_request attempt outcome) ∷ []) (tells_decision attempt outcome (drop (at + 1) shards))
    ∙ ap (λ (s : ℕ). outs ++ told s (decision_request attempt outcome) ∷ tells_decision attempt outcome (drop (at + 1) shards)) g
    ∙ ap (λ (l : List ℕ). outs ++ tells_decision attempt outcome l) (sym (drop_more shards at shard h))
    ∙ w

pub ruleset tells = (tells_more, append-nil)

-- what holds where there was memory, and there was
pub on_ok : {T E : Type 0} (r : Result T E) (P Q : Type 0) → OnOk r P → OnErr r Q → (Q → ⊥) → P
on_ok (Ok x) P Q p q n = p
on_ok (Err e) P Q p q n = absurd (n q)
