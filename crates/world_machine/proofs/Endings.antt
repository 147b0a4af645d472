-- What the end of a turn needs is there after the turn, and how a stub ends.
use Rattle.std.proofs.Common.{◌≡◌, ℕ, ◌+◌, ◌<◌, List, [], ◌∷◌, length, Option, refl, sym, ap, ◌∙◌, subst, arith, if◌then◌else◌}
use Rattle.std.specs.Prelude.{◌==◌}
use Rattle.std.proofs.lemmas.List.{get_or-set_same, length-set}
use Rattle.causal_context.specs.Seen.{Seen, fenced_outside}
use Rattle.pipeline_lang.specs.declared.config.Config.{Config}
use Rattle.truetime.specs.Reading.{Reading}
use Rattle.rss_names.specs.declared.service.ServiceId.{ServiceId}
use Rattle.rss_wire.specs.declared.messages.Reply.{Reply}
use Rattle.rss_tables.specs.Lines.{Line}
use Rattle.rss_tables.specs.Outs.{Out}
use Rattle.rss_machine.specs.Calls.{fenced_context}
use Rattle.rss_machine.specs.Moves.{sends, sends_one, with_owner, counts_fences, ends_stub, gives_exit}
use Rattle.rss_machine.specs.Slots.{with_current}
use Rattle.rss_machine.specs.State.{State, Owner, owner_at, no_owner}
use Rattle.pipeline_stage.specs.CopiesView.{AreCopies}
use Rattle.turn_laws.specs.Turns.{OwnerTurn, TurnEnd, goes, replied, fence_over, stub_over, turns, begin_turn, hear_turn, act_turn, stub_turn}
use Rattle.turn_ends.specs.Ends.{IsOver, EndsAsBefore}
use Rattle.turn_ends.proofs.Least.{begin_same, hear_same, act_same, stub_same}
use Rattle.world_parts.specs.Halves.{closes_stub_in}
use Rattle.world_parts.specs.Parts.{Clock, Staging, Traffic, Stores, assembled, in_staging, in_traffic, owner_in, stage_in, at_step, no_staging, no_stores}
use Rattle.world_parts.proofs.Frames.{exit_moves}
use Rattle.world_stages.specs.Readies.{IsReady}
use Rattle.world_stages.specs.View.{StagingView}
use Rattle.world_machine.specs.Ending.{EndRoom, FenceRoom, StubRoom}

-- sending changes nothing of an owner but its exchanges
sends_keep : {Y : Type 0} (f : Owner → Y) → ((w : Owner) (l : List (Option ℕ)) → f (record w { currents = l }) ≡ f w) → (s : State) (o : ℕ) (outs : List Out) → o < length s.owners → f (owner_at (sends s o outs) o) ≡ f (owner_at s o)
sends_keep f h s o [] l = refl
sends_keep {Y = Y} f h s o (out ∷ outs) l =
    let w : Owner = record (owner_at s o) { currents = with_current (owner_at s o).currents out.slot (length s.net) } in
    let there : o < length (sends_one s o out).owners = omega (arith, l, length-set s.owners o w) in
    sends_keep f h (sends_one s o out) o outs there ∙ ap f (get_or-set_same s.owners o w no_owner l) ∙ h (owner_at s o) _

-- what an owner is after a turn
after_turn : {Y : Type 0} (f : Owner → Y) → ((w : Owner) (l : List (Option ℕ)) → f (record w { currents = l }) ≡ f w) → (t new : Traffic) (o : ℕ) (x : OwnerTurn) → o < length t.owners → new ≡ in_traffic 0 (λ (s : State). turns s o x) t → f (owner_in new o) ≡ f x.after
after_turn {Y = Y} f h t new o x l e =
    let s : State = record (with_owner (assembled (at_step 0) no_staging t no_stores) o x.after) { planned = counts_fences x.fences t.planned } in
    let there : o < length s.owners = omega (arith, l, length-set t.owners o x.after) in
    ap (λ (u : Traffic). f (owner_in u o)) e ∙ sends_keep f h s o x.outs there ∙ ap f (get_or-set_same t.owners o x.after no_owner l)

-- what was fenced has the least times that it had
fenced_same : (a b : Seen) → a.least ≡ b.least → fenced_outside a ≡ fenced_outside b
fenced_same a b e = ap (λ (l : List (ServiceId × ℕ)). fenced_outside (record b { least = l })) e

context_same : (before a b : Seen) → a.least ≡ b.least → fenced_context before a ≡ fenced_context before b
context_same before a b e = ap (λ (x : Seen). if (length before.last.services == 0) then (if before.last.outside then x else before) else x) (fenced_same a b e)

room_same : (c : Config) (v : StagingView) (n m : ℕ) (a b : Seen) (end : TurnEnd) → n ≡ m → (IsOver end → a.least ≡ b.least) → EndRoom c v m b end → EndRoom c v n a end
room_same c v n m a b goes e f h = tt
room_same c v n m a b (replied shown seen) e f h = h
room_same c v n m a b fence_over e f h =
    subst (λ (i : ℕ). FenceRoom v i a) (sym e) (record {
      spare = subst (λ (x : Seen). AreCopies v.spare x 1) (sym (context_same (stage_in v.staging m).context a b (f tt))) h.spare;
      position = h.position;
    })
room_same c v n m a b stub_over e f h = record {
  ready = subst (λ (x : Seen). IsReady v (length c.pipe_ends + 1) x (length c.pipe_ends + 1)) (sym (fenced_same a b (f tt))) h.ready;
  pipes = h.pipes;
  numbers = h.numbers;
}

-- what the end of a turn needs is there after it
pub ends_after : (c : Config) (v : StagingView) (t new : Traffic) (o : ℕ) (x : OwnerTurn) (end : TurnEnd) → o < length t.owners → new ≡ in_traffic 0 (λ (s : State). turns s o x) t → end ≡ x.ending → EndsAsBefore (owner_in t o) x → EndRoom c v (owner_in t o).stage (owner_in t o).works.copy x.ending → EndRoom c v (owner_in new o).stage (owner_in new o).works.copy end
ends_after c v t new o x end l e q same h =
    let stage : (owner_in new o).stage ≡ (owner_in t o).stage = after_turn (λ (w : Owner). w.stage) (λ w k. refl) t new o x l e ∙ same.0 in
    let copy : (owner_in new o).works.copy ≡ x.after.works.copy = after_turn (λ (w : Owner). w.works.copy) (λ w k. refl) t new o x l e in
    let least : IsOver x.ending → (owner_in new o).works.copy.least ≡ (owner_in t o).works.copy.least = λ over. ap (λ (seen : Seen). seen.least) copy ∙ same.1 over in
    subst (λ (y : TurnEnd). EndRoom c v (owner_in new o).stage (owner_in new o).works.copy y) (sym q) (room_same c v (owner_in new o).stage (owner_in t o).stage (owner_in new o).works.copy (owner_in t o).works.copy x.ending stage least h)

pub begin_ends : (c : Config) (v : StagingView) (t new : Traffic) (o step : ℕ) (at : Reading) (end : TurnEnd) → o < length t.owners → new ≡ in_traffic 0 (λ (s : State). turns s o (begin_turn c o step at (owner_in t o))) t → end ≡ (begin_turn c o step at (owner_in t o)).ending → EndRoom c v (owner_in t o).stage (owner_in t o).works.copy (begin_turn c o step at (owner_in t o)).ending → EndRoom c v (owner_in new o).stage (owner_in new o).works.copy end
begin_ends c v t new o step at end l e q h = ends_after c v t new o (begin_turn c o step at (owner_in t o)) end l e q (begin_same c o step at (owner_in t o)) h

pub hear_ends : (c : Config) (v : StagingView) (t new : Traffic) (o step slot : ℕ) (at : Reading) (r : Reply) (end : TurnEnd) → o < length t.owners → new ≡ in_traffic 0 (λ (s : State). turns s o (hear_turn c o step at slot r (owner_in t o))) t → end ≡ (hear_turn c o step at slot r (owner_in t o)).ending → EndRoom c v (owner_in t o).stage (owner_in t o).works.copy (hear_turn c o step at slot r (owner_in t o)).ending → EndRoom c v (owner_in new o).stage (owner_in new o).works.copy end
hear_ends c v t new o step slot at r end l e q h = ends_after c v t new o (hear_turn c o step at slot r (owner_in t o)) end l e q (hear_same c o step at slot r (owner_in t o)) h

pub act_ends : (c : Config) (v : StagingView) (t new : Traffic) (o step : ℕ) (at : Reading) (line : Option Line) (end : TurnEnd) → o < length t.owners → new ≡ in_traffic 0 (λ (s : State). turns s o (act_turn c o step at line (owner_in t o))) t → end ≡ (act_turn c o step at line (owner_in t o)).ending → EndRoom c v (owner_in t o).stage (owner_in t o).works.copy (act_turn c o step at line (owner_in t o)).ending → EndRoom c v (owner_in new o).stage (owner_in new o).works.copy end
act_ends c v t new o step at line end l e q h = ends_after c v t new o (act_turn c o step at line (owner_in t o)) end l e q (act_same c o step at line (owner_in t o)) h

pub stub_ends : (c : Config) (v : StagingView) (t new : Traffic) (o step : ℕ) (at : Reading) (end : TurnEnd) → o < length t.owners → new ≡ in_traffic 0 (λ (s : State). turns s o (stub_turn c o step at (owner_in t o))) t → end ≡ (stub_turn c o step at (owner_in t o)).ending → EndRoom c v (owner_in t o).stage (owner_in t o).works.copy (stub_turn c o step at (owner_in t o)).ending → EndRoom c v (owner_in new o).stage (owner_in new o).works.copy end
stub_ends c v t new o step at end l e q h = ends_after c v t new o (stub_turn c o step at (owner_in t o)) end l e q (stub_same c o step at (owner_in t o)) h

-- a stub that is done closes the pipes of its stage with what it has seen then
pub stub_ended : (c : Config) (k : Clock) (v : StagingView) (g : Staging) (t u : Traffic) (d : Stores) (o : ℕ) → StubRoom c v (owner_in t o).works.copy
    → u ≡ closes_stub_in k.steps t o → g ≡ in_staging (λ (s : State). gives_exit c s (owner_in t o).stage v.spare.seen) v.staging
    → assembled k g u d ≡ ends_stub c (assembled k v.staging t d) o
stub_ended c k v g t u d o h p q =
    let seen : v.spare.seen ≡ fenced_outside (owner_in t o).works.copy = h.ready.spare.seen (omega arith) in
    ap (λ (x : Staging). assembled k x u d) q ∙ ap (λ (x : Traffic). assembled k (in_staging (λ (s : State). gives_exit c s (owner_in t o).stage v.spare.seen) v.staging) x d) p
    ∙ ap (λ (x : Seen). assembled k (in_staging (λ (s : State). gives_exit c s (owner_in t o).stage x) v.staging) (closes_stub_in k.steps t o) d) seen
    ∙ sym (exit_moves c (owner_in t o).stage (fenced_outside (owner_in t o).works.copy) k v.staging (closes_stub_in k.steps t o) d)
