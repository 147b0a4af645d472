-- In a run of turns no more messages are lost than the file withholds, and none comes once more.
use Rattle.std.proofs.Common.{◌≡◌, ◌⊎◌, inl, inr, ℕ, zero, suc, ◌+◌, ◌*◌, ◌<◌, ◌≤◌, Bool, true, false, List, [], ◌∷◌, ◌++◌, length, Option, Some, None, refl, ap, sym, ◌∙◌, subst, arith}
use Rattle.std.specs.List.{list_any}
use Rattle.std.specs.Prelude.{◌&&◌, get_or, if◌then◌else◌}
use Rattle.std.proofs.Math.ListN.{set, length-set}
use Rattle.std.proofs.lemmas.Bool.{true≢false}
use Rattle.truetime.specs.Reading.{Reading}
use Rattle.rss_names.specs.declared.service.Target.{Target}
use Rattle.pipeline_lang.specs.declared.config.Config.{Config}
use Rattle.pipeline_lang.specs.declared.config.Withhold.{Withhold}
use Rattle.rss_model.specs.declared.history.How.TheVariants.{Killed}
use Rattle.rss_wire.specs.Messages.{message_at, no_message, is_pending, is_sent, request_envelope, reply_envelope, asks, answers, meets}
use Rattle.rss_wire.specs.declared.message.Body.{Body as MessageBody}
use Rattle.rss_wire.specs.declared.message.Body.TheVariants as body
use Rattle.rss_wire.specs.declared.message.Fate.{Fate}
use Rattle.rss_wire.specs.declared.message.Fate.TheVariants as fate
use Rattle.rss_wire.specs.declared.message.Message.{Message}
use Rattle.rss_wire.specs.declared.messages.Request.{Request}
use Rattle.rss_wire.specs.declared.messages.Reply.{Reply}
use Rattle.rss_machine.specs.Budget.{all_withheld}
use Rattle.rss_machine.specs.Effect.{effect, comes, stepped}
use Rattle.rss_machine.specs.Moves.{marks_message, counts_act, ticks}
use Rattle.rss_machine.specs.Refusal.{kind_refusal, refusal}
use Rattle.rss_machine.specs.Run.{run, run_from}
use Rattle.rss_machine.specs.Serial.{strays, strays_from}
use Rattle.rss_machine.specs.Slots.{slot_in}
use Rattle.rss_machine.specs.State.{State, start, stage_at, owner_at}
use Rattle.rss_machine.specs.Turns.{covers, is_withheld, is_astray}
use Rattle.rss_machine.specs.declared.state.OwnerFate.TheVariants.{Dropped}
use Rattle.rss_machine.specs.declared.step.Step.{Step}
use Rattle.rss_machine.specs.declared.step.StepKind.{StepKind}
use Rattle.rss_machine.specs.declared.step.StepKind.TheVariants.{Act, Go, Lose, Again, Kill, Stub}
use Rattle.world_laws.proofs.Looks.{looks}
use Rattle.world_laws.proofs.Runs.{passes, run_rest, run_none}
use Rattle.budget_laws.specs.Counts.{sum_of, lost_of, again_of, own_steps, lost_steps, again_steps, open_count, requests}
use Rattle.budget_laws.proofs.Sums.{sum_more, sum_set}
use Rattle.budget_laws.proofs.Nets.{acted, replied_to, stubbed, lost, served, dies_net}
use Rattle.budget_laws.proofs.Paid.{IsThere, is_to_come, steps_paid}
use Rattle.budget_laws.proofs.Covered.{Fits, asked_fits, answered_fits, fated_fits, all_hits, all_fit, was_lost, lost_one, lost_hits}
use Rattle.budget_laws.proofs.Turns.{Numbers, lost_withheld, none_again, no_strays}

-- NUMBERS

place_more : (net : List Message) (x : Message) (i : ℕ) → i < length (net ++ x ∷ []) → ((message_at (net ++ x ∷ []) i ≡ message_at net i) × (i < length net)) ⊎ ((message_at (net ++ x ∷ []) i ≡ x) × (i ≡ length net))
place_more net x i l = grind (arith, looks, l)

numbers_more : (net : List Message) (x : Message) → x.envelope.number ≡ length net → Numbers net → Numbers (net ++ x ∷ [])
numbers_more net x e h i l = by_place (place_more net x i l)
  where
    by_place : ((message_at (net ++ x ∷ []) i ≡ message_at net i) × (i < length net)) ⊎ ((message_at (net ++ x ∷ []) i ≡ x) × (i ≡ length net)) → (message_at (net ++ x ∷ []) i).envelope.number ≡ i
    by_place (inl q) = ap (λ (y : Message). y.envelope.number) q.0 ∙ h i q.1
    by_place (inr q) = ap (λ (y : Message). y.envelope.number) q.0 ∙ (e ∙ sym q.1)

place_set : (net : List Message) (m i : ℕ) (x : Message) → ((message_at (set net m x) i ≡ x) × (i ≡ m)) ⊎ (message_at (set net m x) i ≡ message_at net i)
place_set net m i x = grind (arith, looks)

numbers_fated : (net : List Message) (m : ℕ) (f : Fate) → Numbers net → Numbers (meets net m f)
numbers_fated net m f h i l = by_place (place_set net m i (record (message_at net m) { fate = f }))
  where
    there : i < length net
    there = subst (λ (n : ℕ). i < n) (length-set net m (record (message_at net m) { fate = f })) l

    by_place : ((message_at (meets net m f) i ≡ record (message_at net m) { fate = f }) × (i ≡ m)) ⊎ (message_at (meets net m f) i ≡ message_at net i) → (message_at (meets net m f) i).envelope.number ≡ i
    by_place (inl q) = ap (λ (y : Message). y.envelope.number) q.0 ∙ (ap (λ (k : ℕ). (message_at net k).envelope.number) (sym q.1) ∙ h i there)
    by_place (inr q) = ap (λ (y : Message). y.envelope.number) q ∙ h i there

-- WHAT IS KEPT OF THE NET

-- so many messages were lost, each of which the file withholds; and how messages are numbered
pub record Held (ws : List Withhold) (k : ℕ) (net : List Message) : Type 0 where
  pub lost : k ≤ sum_of (lost_one ws) net
  pub fits : (w : Withhold) → Fits w net
  pub numbers : Numbers net

held_asked : (ws : List Withhold) (k : ℕ) (net : List Message) (owner stage : ℕ) (target : Target) (r : Request) → Held ws k net → Held ws k (asks net owner stage target r)
held_asked ws k net owner stage target r h =
    let x : Message = record { envelope = request_envelope net owner stage target; body = body.Request r; fate = fate.Pending } in
    let e : sum_of (lost_one ws) (asks net owner stage target r) ≡ sum_of (lost_one ws) net + 0 = sum_more (lost_one ws) net x in
    let a = h.lost in
    record { lost = omega (arith, a, e); fits = λ w. asked_fits w net owner stage target r (h.fits w); numbers = numbers_more net x refl h.numbers }

held_answered : (ws : List Withhold) (k : ℕ) (net : List Message) (m : ℕ) (r : Reply) → Held ws k net → Held ws k (answers net m r)
held_answered ws k net m r h =
    let x : Message = record { envelope = reply_envelope net m; body = body.Reply r; fate = fate.Pending } in
    let e : sum_of (lost_one ws) (answers net m r) ≡ sum_of (lost_one ws) net + 0 = sum_more (lost_one ws) net x in
    let a = h.lost in
    record { lost = omega (arith, a, e); fits = λ w. answered_fits w net m r (h.fits w); numbers = numbers_more net x refl h.numbers }

not_lost : (f : Fate) → is_pending f ≡ true → was_lost f ≡ false
not_lost fate.Pending p = refl
not_lost fate.Delivered p = absurd (true≢false (sym p))
not_lost fate.Repeated p = absurd (true≢false (sym p))
not_lost fate.Lost p = absurd (true≢false (sym p))

-- nothing was lost of a message that is still to come
before_lost : (ws : List Withhold) (x : Message) → is_pending x.fate ≡ true → lost_one ws x ≡ 0
before_lost ws x p = ap (λ (b : Bool). if b then (if x.envelope.request && list_any (covers x.envelope) ws then 1 else 0) else 0) (not_lost x.fate p)

one_set : (ws : List Withhold) (net : List Message) (m : ℕ) (x : Message) → IsThere net m true → sum_of (lost_one ws) (set net m x) ≡ sum_of (lost_one ws) net + lost_one ws x
one_set ws net m x p =
    let q : sum_of (lost_one ws) (set net m x) + lost_one ws (message_at net m) ≡ sum_of (lost_one ws) net + lost_one ws x = sum_set (lost_one ws) net m x no_message p.there in
    let z : lost_one ws (message_at net m) ≡ 0 = before_lost ws (message_at net m) p.fate in
    omega (arith, q, z)

held_delivered : (ws : List Withhold) (k : ℕ) (net : List Message) (m : ℕ) → IsThere net m true → Held ws k net → Held ws k (meets net m fate.Delivered)
held_delivered ws k net m p h =
    let x : Message = record (message_at net m) { fate = fate.Delivered } in
    let e : sum_of (lost_one ws) (meets net m fate.Delivered) ≡ sum_of (lost_one ws) net + 0 = one_set ws net m x p in
    let a = h.lost in
    record { lost = omega (arith, a, e); fits = λ w. fated_fits w net m fate.Delivered p.there (h.fits w); numbers = numbers_fated net m fate.Delivered h.numbers }

held_lost : (c : Config) (k : ℕ) (net : List Message) (m : ℕ) → IsThere net m true → is_withheld c (message_at net m).envelope ≡ true → Held c.withholds k net → Held c.withholds (k + 1) (meets net m fate.Lost)
held_lost c k net m p d h =
    let x : Message = record (message_at net m) { fate = fate.Lost } in
    let one : lost_one c.withholds x ≡ 1 = ap (λ (b : Bool). if b then 1 else 0) d in
    let e : sum_of (lost_one c.withholds) (meets net m fate.Lost) ≡ sum_of (lost_one c.withholds) net + 1 = one_set c.withholds net m x p ∙ ap (λ (n : ℕ). sum_of (lost_one c.withholds) net + n) one in
    let a = h.lost in
    record { lost = omega (arith, a, e); fits = λ w. fated_fits w net m fate.Lost p.there (h.fits w); numbers = numbers_fated net m fate.Lost h.numbers }

-- EACH TURN

came : (ws : List Withhold) (k : ℕ) (c : Config) (s : State) (m : ℕ) (at : Reading) (x : MessageBody) → IsThere s.net m true → Held ws k s.net → Held ws k (comes c (marks_message s m fate.Delivered) m at (message_at s.net m).envelope x).net
came ws k c s m at (body.Request r) p h =
    let e = (message_at s.net m).envelope in
    let t = marks_message s m fate.Delivered in
    served (Held ws k) t m e.owner at e.target r (λ y. held_answered ws k t.net m y (held_delivered ws k s.net m p h))
came ws k c s m at (body.Reply r) p h =
    let e = (message_at s.net m).envelope in
    let t = marks_message s m fate.Delivered in
    replied_to (Held ws k) (held_asked ws k) c t e.owner at r (slot_in (owner_at t e.owner).currents e.exchange) (held_delivered ws k s.net m p h)

nothing_lost : (ws : List Withhold) (k : ℕ) (net : List Message) → Held ws k net → Held ws (k + 0) net
nothing_lost ws k net h = let a = h.lost in record { lost = omega (arith, a); fits = h.fits; numbers = h.numbers }

effect_held : (k : ℕ) (c : Config) (s : State) (at : Reading) (x : StepKind) → kind_refusal c s at x ≡ None → ((m : ℕ) → x ≡ Lose m → is_withheld c (message_at s.net m).envelope ≡ true) → ((m : ℕ) → x ≡ Again m → ⊥) → Held c.withholds k s.net → Held c.withholds (k + lost_of x) (effect c s at x).net
unfolding effect
effect_held k c s at (Act n) e f g h = nothing_lost c.withholds k _ (acted (Held c.withholds k) (held_asked c.withholds k) c (counts_act s n) n at (stage_at s n).owner h)
effect_held k c s at (Go m) e f g h = nothing_lost c.withholds k _ (came c.withholds k c s m at (message_at s.net m).body (is_to_come s.net m (is_sent s.net m) refl e) h)
effect_held k c s at (Again m) e f g h = absurd (g m refl)
effect_held k c s at (Lose m) e f g h =
    let t = marks_message s m fate.Lost in
    lost (Held c.withholds (k + 1)) (held_asked c.withholds (k + 1)) c t (message_at s.net m).envelope (held_lost c k s.net m (is_to_come s.net m (is_sent s.net m) refl e) (f m refl) h)
effect_held k c s at (Kill n) e f g h = nothing_lost c.withholds k _ (subst (Held c.withholds k) (sym (dies_net s n Killed Dropped)) h)
effect_held k c s at (Stub n) e f g h = nothing_lost c.withholds k _ (stubbed (Held c.withholds k) (held_asked c.withholds k) c s (stage_at s n).stub at h)

-- RUNS

turn_held : (k : ℕ) (c : Config) (s : State) (step : Step) → refusal c s step ≡ None → is_astray c s step.kind ≡ false → Held c.withholds k s.net → Held c.withholds (k + lost_of step.kind) (stepped c s step).net
turn_held k c s step r a h =
    effect_held k c (ticks s step.at) step.at step.kind (ticked (passes c s step r).kind)
    (λ m e. lost_withheld c s m h.numbers (subst (λ (x : StepKind). is_astray c s x ≡ false) e a))
    (λ m e. none_again c s m (subst (λ (x : StepKind). is_astray c s x ≡ false) e a))
    h
  where
    ticked : kind_refusal c s step.at step.kind ≡ None → kind_refusal c (ticks s step.at) step.at step.kind ≡ None
    ticked e = e

carried : (ws : List Withhold) (a b d : ℕ) (net : List Message) → Held ws (a + b + d) net → Held ws (a + (b + d)) net
carried ws a b d net h = let q = h.lost in record { lost = omega (arith, q); fits = h.fits; numbers = h.numbers }

run_held : (c : Config) (steps : List Step) (u s : State) (k : ℕ) → run_from c u steps ≡ Some s → strays_from c u steps ≡ 0 → Held c.withholds k u.net → Held c.withholds (k + lost_steps steps) s.net
run_held c [] u s k e z h = nothing_lost c.withholds k s.net (subst (λ (t : State). Held c.withholds k t.net) (run_none c u s e) h)
run_held c (step ∷ steps) u s k e z h =
    let t = run_rest c u step steps s e in
    let n = no_strays c u step steps z in
    carried c.withholds k (lost_of step.kind) (lost_steps steps) s.net (run_held c steps (stepped c u step) s (k + lost_of step.kind) t.1 n.1 (turn_held k c u step t.0 n.0 h))

first_place : (i : ℕ) → i < 1 → 0 ≡ i
first_place i l = omega (arith, l)

held_start : (c : Config) → Held c.withholds 0 (start c).net
held_start c = record {
  lost = omega arith;
  fits = λ w. record { few = omega arith; below = λ z. omega (arith, z) };
  numbers = λ i l. (let e : 0 ≡ i = first_place i l in subst (λ (n : ℕ). (message_at (no_message ∷ []) n).envelope.number ≡ n) e refl);
}

pub losses_withheld : (c : Config) (steps : List Step) (s : State) → run c steps ≡ Some s → strays c steps ≡ 0 → lost_steps steps ≤ all_withheld c.withholds
unfolding run
losses_withheld c steps s e z =
    let h = run_held c steps (start c) s 0 e z (held_start c) in
    let a = h.lost in
    let b = lost_hits c.withholds s.net in
    let d = all_fit c.withholds s.net h.fits in
    omega (arith, a, b, d)

-- NO REPEATS

not_again : (c : Config) (s : State) (x : StepKind) → is_astray c s x ≡ false → again_of x ≡ 0
not_again c s (Again m) a = absurd (none_again c s m a)
not_again c s (Act n) a = refl
not_again c s (Go m) a = refl
not_again c s (Lose m) a = refl
not_again c s (Kill n) a = refl
not_again c s (Stub n) a = refl

no_repeats : (c : Config) (steps : List Step) (s : State) → strays_from c s steps ≡ 0 → again_steps steps ≡ 0
no_repeats c [] s z = refl
no_repeats c (step ∷ steps) s z =
    let n = no_strays c s step steps z in
    let a = not_again c s step.kind n.0 in
    let b = no_repeats c steps (stepped c s step) n.1 in
    omega (arith, a, b)

-- the steps of a run of turns
pub turns_paid : (c : Config) (steps : List Step) (s : State) → run c steps ≡ Some s → strays c steps ≡ 0 → length steps + open_count s.net ≤ own_steps steps + 2 * requests s.net
turns_paid c steps s e z =
    let a = steps_paid c steps s e in
    let b = no_repeats c steps (start c) z in
    omega (arith, a, b)
