-- Every step is paid by what a stage, a stub or a kill does, or by a message that comes, is lost or comes once more.
use Rattle.std.proofs.Common.{◌≡◌, ℕ, ◌+◌, ◌*◌, ◌<◌, ◌≤◌, Bool, true, false, List, [], ◌∷◌, length, Option, Some, None, refl, ap, sym, ◌∙◌, subst, arith}
use Rattle.std.specs.Option.{option_map}
use Rattle.std.specs.Prelude.{if◌then◌else◌}
use Rattle.std.proofs.lemmas.Bool.{ltb-true, and_parts}
use Rattle.truetime.specs.Reading.{Reading}
use Rattle.pipeline_lang.specs.declared.config.Config.{Config}
use Rattle.rss_model.specs.declared.history.How.TheVariants.{Killed}
use Rattle.rss_wire.specs.Messages.{message_at, is_pending, is_sent}
use Rattle.rss_wire.specs.Net.{fate_refusal, repeat_refusal}
use Rattle.rss_wire.specs.declared.message.Body.{Body as MessageBody}
use Rattle.rss_wire.specs.declared.message.Body.TheVariants as body
use Rattle.rss_wire.specs.declared.message.Fate.{Fate}
use Rattle.rss_wire.specs.declared.message.Fate.TheVariants as fate
use Rattle.rss_wire.specs.declared.message.Message.{Message}
use Rattle.rss_wire.specs.declared.refusal.NetRefusal.{NetRefusal}
use Rattle.rss_wire.specs.declared.refusal.NetRefusal.TheVariants as refused
use Rattle.rss_machine.specs.Effect.{effect, comes, stepped}
use Rattle.rss_machine.specs.Moves.{marks_message, counts_act, ticks}
use Rattle.rss_machine.specs.Refusal.{kind_refusal, refusal}
use Rattle.rss_machine.specs.Run.{run, run_from}
use Rattle.rss_machine.specs.Slots.{slot_in}
use Rattle.rss_machine.specs.State.{State, start, stage_at, owner_at}
use Rattle.rss_machine.specs.declared.state.OwnerFate.TheVariants.{Dropped}
use Rattle.rss_machine.specs.declared.step.Step.{Step}
use Rattle.rss_machine.specs.declared.step.StepKind.{StepKind}
use Rattle.rss_machine.specs.declared.step.StepKind.TheVariants.{Act, Go, Lose, Again, Kill, Stub}
use Rattle.rss_machine.specs.declared.step.StepRefusal.TheVariants as cause
use Rattle.world_laws.proofs.Looks.{some_is_not}
use Rattle.world_laws.proofs.Runs.{passes, run_rest, run_none}
use Rattle.budget_laws.specs.Counts.{own_of, moved_of, again_of, own_steps, moved_steps, again_steps, open_of, open_count, requests}
use Rattle.budget_laws.proofs.Sums.{Paid, asked, answered, open_settled, open_request, open_reply, marked, fewer, more_again}
use Rattle.budget_laws.proofs.Nets.{acted, replied_to, stubbed, lost, served, dies_net}

-- WHICH MESSAGES CAN COME, BE LOST OR COME ONCE MORE

-- a message that was sent, and whether it is still to come
pub record IsThere (net : List Message) (m : ℕ) (pending : Bool) : Type 0 where
  pub there : m < length net
  pub fate : is_pending (message_at net m).fate ≡ pending

unmapped : (x : Option NetRefusal) → option_map cause.Message x ≡ None → x ≡ None
unmapped None e = refl
unmapped (Some x) e = absurd (some_is_not _ e)

still_to_come : (f : Fate) → fate_refusal f ≡ None → is_pending f ≡ true
still_to_come fate.Pending e = refl
still_to_come fate.Delivered e = absurd (some_is_not _ e)
still_to_come fate.Repeated e = absurd (some_is_not _ e)
still_to_come fate.Lost e = absurd (some_is_not _ e)

has_come : (f : Fate) → repeat_refusal f ≡ None → is_pending f ≡ false
has_come fate.Pending e = absurd (some_is_not _ e)
has_come fate.Delivered e = refl
has_come fate.Repeated e = absurd (some_is_not _ e)
has_come fate.Lost e = absurd (some_is_not _ e)

pub is_to_come : (net : List Message) (m : ℕ) (t : Bool) → is_sent net m ≡ t → option_map cause.Message (if t then fate_refusal (message_at net m).fate else Some refused.NoSuchMessage) ≡ None → IsThere net m true
is_to_come net m true e h = record { there = ltb-true m (length net) (and_parts _ _ e).1; fate = still_to_come (message_at net m).fate (unmapped (fate_refusal (message_at net m).fate) h) }
is_to_come net m false e h = absurd (some_is_not _ h)

is_repeated : (net : List Message) (m : ℕ) (t : Bool) → is_sent net m ≡ t → option_map cause.Message (if t then repeat_refusal (message_at net m).fate else Some refused.NoSuchMessage) ≡ None → IsThere net m false
is_repeated net m true e h = record { there = ltb-true m (length net) (and_parts _ _ e).1; fate = has_come (message_at net m).fate (unmapped (repeat_refusal (message_at net m).fate) h) }
is_repeated net m false e h = absurd (some_is_not _ h)

-- EACH KIND OF STEP

plus_two : (k j : ℕ) (net : List Message) → Paid (k + 2) j net → Paid (k + 1 + 1) j net
plus_two k j net h = omega (arith, h)

plus_none : (k j : ℕ) (net : List Message) → Paid (k + 0) j net → Paid k j net
plus_none k j net h = omega (arith, h)

one_again : (k j : ℕ) (net : List Message) → Paid k j net → Paid (k + 1) (j + 1) net
one_again k j net h = omega (arith, h)

delivered : (k j : ℕ) (c : Config) (s : State) (m : ℕ) (at : Reading) (x : MessageBody) → (message_at s.net m).body ≡ x → IsThere s.net m true → Paid k j s.net → Paid (k + 1) j (comes c (marks_message s m fate.Delivered) m at (message_at s.net m).envelope x).net
delivered k j c s m at (body.Request r) b p h =
    let e = (message_at s.net m).envelope in
    let t = marks_message s m fate.Delivered in
    served (Paid (k + 1) j) t m e.owner at e.target r (λ x. answered (k + 1) j t.net m x (plus_two k j t.net (marked k j 2 s.net m fate.Delivered refl p.there (open_request (message_at s.net m) r p.fate b) h)))
delivered k j c s m at (body.Reply r) b p h =
    let e = (message_at s.net m).envelope in
    let t = marks_message s m fate.Delivered in
    replied_to (Paid (k + 1) j) (asked (k + 1) j) c t e.owner at r (slot_in (owner_at t e.owner).currents e.exchange) (marked k j 1 s.net m fate.Delivered refl p.there (open_reply (message_at s.net m) r p.fate b) h)

repeated : (k j : ℕ) (c : Config) (s : State) (m : ℕ) (at : Reading) (x : MessageBody) → IsThere s.net m false → Paid k j s.net → Paid k (j + 1) (comes c (marks_message s m fate.Repeated) m at (message_at s.net m).envelope x).net
repeated k j c s m at (body.Request r) p h =
    let e = (message_at s.net m).envelope in
    let t = marks_message s m fate.Repeated in
    served (Paid k (j + 1)) t m e.owner at e.target r (λ x. answered k (j + 1) t.net m x (one_again k j t.net (plus_none k j t.net (marked k j 0 s.net m fate.Repeated refl p.there (open_settled (message_at s.net m) p.fate) h))))
repeated k j c s m at (body.Reply r) p h =
    let e = (message_at s.net m).envelope in
    let t = marks_message s m fate.Repeated in
    replied_to (Paid k (j + 1)) (asked k (j + 1)) c t e.owner at r (slot_in (owner_at t e.owner).currents e.exchange) (more_again k j t.net (plus_none k j t.net (marked k j 0 s.net m fate.Repeated refl p.there (open_settled (message_at s.net m) p.fate) h)))

-- what is lost was still to come
was_lost : (k j : ℕ) (s : State) (m : ℕ) (x : MessageBody) → (message_at s.net m).body ≡ x → IsThere s.net m true → Paid k j s.net → Paid (k + 1) j (marks_message s m fate.Lost).net
was_lost k j s m (body.Request r) b p h =
    let t = marks_message s m fate.Lost in
    fewer (k + 1) j t.net (plus_two k j t.net (marked k j 2 s.net m fate.Lost refl p.there (open_request (message_at s.net m) r p.fate b) h))
was_lost k j s m (body.Reply r) b p h = marked k j 1 s.net m fate.Lost refl p.there (open_reply (message_at s.net m) r p.fate b) h

nothing : (k j : ℕ) (net : List Message) → Paid k j net → Paid (k + 0) (j + 0) net
nothing k j net h = omega (arith, h)

no_again : (k j : ℕ) (net : List Message) → Paid k j net → Paid k (j + 0) net
no_again k j net h = omega (arith, h)

no_move : (k j : ℕ) (net : List Message) → Paid k j net → Paid (k + 0) j net
no_move k j net h = omega (arith, h)

effect_paid : (k j : ℕ) (c : Config) (s : State) (at : Reading) (x : StepKind) → kind_refusal c s at x ≡ None → Paid k j s.net → Paid (k + moved_of x) (j + again_of x) (effect c s at x).net
unfolding effect
effect_paid k j c s at (Act n) e h = nothing k j _ (acted (Paid k j) (asked k j) c (counts_act s n) n at (stage_at s n).owner h)
effect_paid k j c s at (Go m) e h = no_again (k + 1) j _ (delivered k j c s m at (message_at s.net m).body refl (is_to_come s.net m (is_sent s.net m) refl e) h)
effect_paid k j c s at (Again m) e h = no_move k (j + 1) _ (repeated k j c s m at (message_at s.net m).body (is_repeated s.net m (is_sent s.net m) refl e) h)
effect_paid k j c s at (Lose m) e h =
    let t = marks_message s m fate.Lost in
    no_again (k + 1) j _ (lost (Paid (k + 1) j) (asked (k + 1) j) c t (message_at s.net m).envelope (was_lost k j s m (message_at s.net m).body refl (is_to_come s.net m (is_sent s.net m) refl e) h))
effect_paid k j c s at (Kill n) e h = nothing k j _ (subst (Paid k j) (sym (dies_net s n Killed Dropped)) h)
effect_paid k j c s at (Stub n) e h = nothing k j _ (stubbed (Paid k j) (asked k j) c s (stage_at s n).stub at h)

-- RUNS

step_paid : (k j : ℕ) (c : Config) (s : State) (step : Step) → refusal c s step ≡ None → Paid k j s.net → Paid (k + moved_of step.kind) (j + again_of step.kind) (stepped c s step).net
step_paid k j c s step r h = effect_paid k j c (ticks s step.at) step.at step.kind (ticked (passes c s step r).kind) h
  where
    ticked : kind_refusal c s step.at step.kind ≡ None → kind_refusal c (ticks s step.at) step.at step.kind ≡ None
    ticked e = e

run_paid : (c : Config) (steps : List Step) (u s : State) (k j : ℕ) → run_from c u steps ≡ Some s → Paid k j u.net → Paid (k + moved_steps steps) (j + again_steps steps) s.net
run_paid c [] u s k j e h = let q : Paid k j s.net = subst (λ (t : State). Paid k j t.net) (run_none c u s e) h in omega (arith, q)
run_paid c (step ∷ steps) u s k j e h =
    let t = run_rest c u step steps s e in
    let q = run_paid c steps (stepped c u step) s (k + moved_of step.kind) (j + again_of step.kind) t.1 (step_paid k j c u step t.0 h) in
    omega (arith, q)

one_kind : (x : StepKind) → own_of x + moved_of x + again_of x ≡ 1
one_kind (Act n) = refl
one_kind (Go m) = refl
one_kind (Lose m) = refl
one_kind (Again m) = refl
one_kind (Kill n) = refl
one_kind (Stub n) = refl

all_kinds : (steps : List Step) → own_steps steps + moved_steps steps + again_steps steps ≡ length steps
all_kinds [] = refl
all_kinds (step ∷ steps) = let a = one_kind step.kind in let h = all_kinds steps in omega (arith, a, h)

pub steps_paid : (c : Config) (steps : List Step) (s : State) → run c steps ≡ Some s → length steps + open_count s.net ≤ own_steps steps + 2 * requests s.net + 2 * again_steps steps
unfolding run
steps_paid c steps s e =
    let q = run_paid c steps (start c) s 0 0 e (omega arith) in
    let a = all_kinds steps in
    omega (arith, q, a)
