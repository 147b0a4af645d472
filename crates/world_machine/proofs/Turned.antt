-- Turns of owners in the whole machine: with their ends they are the machine's rows.
use Rattle.std.proofs.Common.{◌≡◌, ℕ, zero, suc, ◌<◌, List, [], ◌∷◌, length, set, Option, refl, sym, ap, ◌∙◌, subst}
use Rattle.pipeline_lang.specs.declared.config.Config.{Config}
use Rattle.truetime.specs.Reading.{Reading}
use Rattle.rss_wire.specs.declared.messages.Reply.{Reply}
use Rattle.rss_tables.specs.Lines.{Line}
use Rattle.rss_tables.specs.Outs.{Out}
use Rattle.rss_machine.specs.Calls.{goes_on_with_works}
use Rattle.rss_machine.specs.Effect.{owner_hears, owner_acts, stub_acts, waking_line}
use Rattle.rss_machine.specs.Moves.{sends, sends_one, with_owner, counts_fences, listens}
use Rattle.rss_machine.specs.State.{State, owner_at}
use Rattle.turn_laws.specs.Turns.{OwnerTurn, TurnEnd, turns, ends_turn, begin_turn, hear_turn, act_turn, stub_turn, lines_in}
use Rattle.turn_laws.proofs.Acts.{acting_is_a_turn, stubs_take_turns}
use Rattle.turn_laws.proofs.Hears.{hearing_is_a_turn}
use Rattle.turn_laws.proofs.Works.{beginning_is_a_turn}
use Rattle.world_traffic.specs.Turned.{HasTaken}
use Rattle.world_traffic.specs.View.{TrafficView, IsBegun}
use Rattle.world_parts.specs.Parts.{Clock, Staging, Traffic, Stores, assembled, at_step, no_staging, no_stores, in_traffic}

-- sending leaves the other parts alone, whatever the number of the step
sends_at : (step o : ℕ) (outs : List Out) (k : Clock) (g : Staging) (t : Traffic) (d : Stores) → sends (assembled k g t d) o outs ≡ assembled k g (in_traffic step (λ (s : State). sends s o outs) t) d
sends_at step o [] k g t d = refl
sends_at step o (out ∷ outs) k g t d = sends_at step o outs k g (in_traffic step (λ (s : State). sends_one s o out) t) d

turns_at : (step o : ℕ) (x : OwnerTurn) (k : Clock) (g : Staging) (t : Traffic) (d : Stores) → turns (assembled k g t d) o x ≡ assembled k g (in_traffic step (λ (s : State). turns s o x) t) d
turns_at step o x k g t d = sends_at step o x.outs k g (in_traffic step (λ (s : State). record (with_owner s o x.after) { planned = counts_fences x.fences s.planned }) t) d

-- owners and the net have taken a turn
pub turned : (k : Clock) (g : Staging) (d : Stores) (old new : TrafficView) (o : ℕ) (x : OwnerTurn) → HasTaken old new o x → assembled k g new.traffic d ≡ turns (assembled k g old.traffic d) o x
turned k g d old new o x h = ap (λ (u : Traffic). assembled k g u d) h.traffic ∙ sym (turns_at 0 o x k g old.traffic d)

-- its owner is still one that was begun
length_set : {X : Type 0} (xs : List X) (i : ℕ) (x : X) → length (set xs i x) ≡ length xs
length_set [] i x = refl
length_set (a ∷ xs) zero x = refl
length_set (a ∷ xs) (suc i) x = ap suc (length_set xs i x)

sends_many : (outs : List Out) (s : State) (o : ℕ) → length (sends s o outs).owners ≡ length s.owners
sends_many [] s o = refl
sends_many (out ∷ outs) s o = sends_many outs (sends_one s o out) o ∙ length_set s.owners o _

pub turned_begun : (old new : TrafficView) (o : ℕ) (x : OwnerTurn) → HasTaken old new o x → IsBegun old.traffic o → IsBegun new.traffic o
turned_begun old new o x h b =
    let t : Traffic = old.traffic in
    let many : length new.traffic.owners ≡ length t.owners =
    ap (λ (u : Traffic). length u.owners) h.traffic
    ∙ sends_many x.outs (record (with_owner (assembled (at_step 0) no_staging t no_stores) o x.after) { planned = counts_fences x.fences t.planned }) o
    ∙ length_set t.owners o x.after in
    (b.0, subst (λ (k : ℕ). o < k) (sym many) b.1)

-- a call or a fence statement begins
pub begun : (c b : Config) (s t u : State) (o : ℕ) (at : Reading) (end : TurnEnd) → b ≡ c → o < length s.owners → t ≡ turns s o (begin_turn c o s.steps at (owner_at s o)) → end ≡ (begin_turn c o s.steps at (owner_at s o)).ending → u ≡ ends_turn b t o end → u ≡ goes_on_with_works c s o at
begun c b s t u o at end k there e q f =
    let x : OwnerTurn = begin_turn c o s.steps at (owner_at s o) in
    f ∙ ap (λ (c : Config). ends_turn c t o end) k ∙ ap (ends_turn c t o) q ∙ ap (λ (v : State). ends_turn c v o x.ending) e ∙ sym (beginning_is_a_turn c s o at there)

-- a reply is heard
pub heard : (c b : Config) (s t u : State) (o slot : ℕ) (at : Reading) (r : Reply) (end : TurnEnd) → b ≡ c → o < length s.owners → t ≡ turns s o (hear_turn c o s.steps at slot r (owner_at s o)) → end ≡ (hear_turn c o s.steps at slot r (owner_at s o)).ending → u ≡ ends_turn b t o end → u ≡ owner_hears c (listens s o slot) o slot at r (owner_at s o).session
heard c b s t u o slot at r end k there e q f =
    let x : OwnerTurn = hear_turn c o s.steps at slot r (owner_at s o) in
    f ∙ ap (λ (c : Config). ends_turn c t o end) k ∙ ap (ends_turn c t o) q ∙ ap (λ (v : State). ends_turn c v o x.ending) e ∙ sym (hearing_is_a_turn c s o slot at r there)

-- an owner goes on by itself
pub acted : (c b : Config) (s t u : State) (o : ℕ) (at : Reading) (line : Option Line) (end : TurnEnd) → b ≡ c → o < length s.owners → line ≡ waking_line s (lines_in (owner_at s o).session) → t ≡ turns s o (act_turn c o s.steps at line (owner_at s o)) → end ≡ (act_turn c o s.steps at line (owner_at s o)).ending → u ≡ ends_turn b t o end → u ≡ owner_acts c s o at (owner_at s o).works.wait
acted c b s t u o at line end k there w e q f =
    f ∙ ap (λ (c : Config). ends_turn c t o end) k ∙ ap (ends_turn c t o) q ∙ ap (λ (v : State). ends_turn c v o (act_turn c o s.steps at line (owner_at s o)).ending) e
    ∙ ap (λ (l : Option Line). ends_turn c (turns s o (act_turn c o s.steps at l (owner_at s o))) o (act_turn c o s.steps at l (owner_at s o)).ending) w
    ∙ sym (acting_is_a_turn c s o at there)

-- a stub goes on
pub settled : (c b : Config) (s t u : State) (o : ℕ) (at : Reading) (end : TurnEnd) → b ≡ c → o < length s.owners → t ≡ turns s o (stub_turn c o s.steps at (owner_at s o)) → end ≡ (stub_turn c o s.steps at (owner_at s o)).ending → u ≡ ends_turn b t o end → u ≡ stub_acts c s o at (owner_at s o).started
settled c b s t u o at end k there e q f =
    let x : OwnerTurn = stub_turn c o s.steps at (owner_at s o) in
    f ∙ ap (λ (c : Config). ends_turn c t o end) k ∙ ap (ends_turn c t o) q ∙ ap (λ (v : State). ends_turn c v o x.ending) e ∙ sym (stubs_take_turns c s o at there)
