-- A step that is not refused can be made where there is room for it.
use Rattle.std.proofs.Common.{◌≡◌, ℕ, zero, suc, ◌-◌, ◌<◌, ◌≤◌, true, false, List, [], ◌∷◌, length, get_or, set, Option, Some, None, refl, sym, ap, ◌∙◌, subst, arith}
use Rattle.std.proofs.lemmas.Bool.Decides.{nat_tests}
use Rattle.std.specs.Option.{option_map}
use Rattle.std.specs.Prelude.{nat_lt, is_some}
use Rattle.pipeline_lang.specs.declared.config.Config.{Config}
use Rattle.pipeline_stage.specs.Statements.{opens_block}
use Rattle.rss_wire.specs.Messages.{message_at, request_at, is_sent}
use Rattle.rss_wire.specs.Net.{deliver_refusal, again_refusal, lose_refusal}
use Rattle.rss_wire.specs.declared.envelope.Envelope.{Envelope}
use Rattle.truetime.specs.Reading.{Reading}
use Rattle.rss_tables.specs.Lines.{Line}
use Rattle.rss_machine.specs.Effect.{waking_line}
use Rattle.rss_machine.specs.Moves.{counts_act, ticks}
use Rattle.rss_machine.specs.Refusal.{refusal, kind_refusal}
use Rattle.rss_machine.specs.Standing.{is_live}
use Rattle.rss_machine.specs.State.{State, Stage, Owner, stage_at, no_owner}
use Rattle.rss_machine.specs.declared.session.OwnerKind.TheVariants as kind
use Rattle.rss_machine.specs.declared.step.Step.{Step}
use Rattle.rss_machine.specs.declared.step.StepKind.{StepKind}
use Rattle.rss_machine.specs.declared.step.StepKind.TheVariants.{Act, Go, Lose, Again, Kill, Stub}
use Rattle.rss_machine.specs.declared.step.StepRefusal.TheVariants.{StageOver, Message as OfMessage}
use Rattle.turn_laws.specs.Turns.{act_turn, stub_turn, lines_in}
use Rattle.owner_turns.specs.Going.{line_of, PlaceFits}
use Rattle.world_laws.specs.Calls.{is_stub}
use Rattle.world_laws.specs.Numbered.{is_numbered}
use Rattle.world_parts.specs.Parts.{Staging, Traffic, Stores, stage_in, owner_in}
use Rattle.world_traffic.specs.View.{IsBegun, IsQuiet, MayLose}
use Rattle.parts_ready.specs.Few.{AreFew}
use Rattle.parts_ready.proofs.Few.{owners_few, messages_few, acts_few, losses_few, owner_from, owner_there, called, are_few}
use Rattle.parts_ready.proofs.Readying.{sent_same, request_same}
use Rattle.parts_ready.proofs.There.{under_way}
use Rattle.world_machine.specs.declared.clock.Clock.{Clock}
use Rattle.world_machine.specs.declared.machine.Machine.{Machine}
use Rattle.world_machine.specs.Acts.{counted, CanMake, CanAct}
use Rattle.world_machine.specs.Clock.{clock_in}
use Rattle.world_machine.specs.Dying.{OwnersFit}
use Rattle.world_machine.specs.Ending.{CanEnd}
use Rattle.world_machine.specs.Losing.{CanBear}
use Rattle.world_machine.specs.Machine.{state_of}
use Rattle.world_machine.specs.Ready.{IsReady, HasFacts}
use Rattle.world_machine.specs.StepRooms.{ActRoom, LossRoom, SettleRoom, StepRoom, HasRoom}
use Rattle.world_machine.specs.Steps.{CanSettle, CanDo, CanTake}
use Rattle.world_machine.specs.Turning.{CanProceed}
use Rattle.world_machine.proofs.Allowed.{IsAllowed, allowed_parts}
use Rattle.world_machine.proofs.Counted.{looks, next_same, can_make_same, act_live, act_makes, live_there}
use Rattle.world_machine.proofs.Sent.{lose_sent}
use Rattle.world_machine.proofs.Taking.{may_take, waking_same}

length_set : {X : Type 0} (xs : List X) (i : ℕ) (x : X) → length (set xs i x) ≡ length xs
length_set [] i x = refl
length_set (a ∷ xs) zero x = refl
length_set (a ∷ xs) (suc i) x = ap suc (length_set xs i x)

not_some : {X Y : Type 0} (f : X → Y) (o : Option X) → option_map f o ≡ None → o ≡ None
not_some f None h = refl
not_some f (Some x) h = absurd (cc)

-- a stub that there is is not the owner that stands for none
stub_first : (t : Traffic) (o : ℕ) → (owner_in t 0).kind ≡ kind.Fencing → is_stub (owner_in t o).kind ≡ true → 1 ≤ o
stub_first t zero first h = absurd (let k : is_stub (owner_in t zero).kind ≡ false = ap is_stub first in cc)
stub_first t (suc o) first h = omega arith

stub_there : (owners : List Owner) (o : ℕ) → is_stub (get_or owners o no_owner).kind ≡ true → o < length owners
stub_there [] o h = absurd (cc)
stub_there (w ∷ owners) zero h = omega arith
stub_there (w ∷ owners) (suc o) h = let r = stub_there owners o h in omega (arith, r)

module _ (m : Machine) (h : IsReady m) where
  begun_of : (n o : ℕ) → (stage_in m.staging.staging n).owner ≡ Some o → IsBegun m.traffic.traffic o
  begun_of n o q = (called m.config m.staging.staging m.traffic.traffic m.stores.stores h n o q, under_way m.config m.staging.staging m.traffic.traffic m.stores.stores n o h q)

  owners_fit : (n : ℕ) → OwnersFit m n
  owners_fit n = let few = owners_few m.config m.staging.staging m.traffic.traffic m.stores.stores h in record { begun = begun_of n; few = omega (arith, few) }

  few_counted : (n : ℕ) → AreFew (counted m n).staging.staging m.traffic.traffic
  few_counted n =
      let few : AreFew m.staging.staging m.traffic.traffic = are_few m.config m.staging.staging m.traffic.traffic m.stores.stores h in
      let long : length (counted m n).staging.staging.stages ≡ length m.staging.staging.stages = length_set m.staging.staging.stages (n - 1) _ in
      record { stages = subst (λ (k : ℕ). k ≤ 16) (sym long) few.stages; pipes = few.pipes; next = few.next; owners = few.owners; messages = few.messages; planned = few.planned }

  module _ (facts : HasFacts m) where
    can_make_next : (n : ℕ) (at : Reading) → 1 ≤ n → kind_refusal m.config (state_of m) at (Act n) ≡ None → ActRoom m n at → (stage_at (state_of m) n).owner ≡ None → CanMake (counted m n) n at
    can_make_next n at first r room idle =
        let s : State = state_of m in
        let live : is_live (stage_at s n).life ≡ true = act_live m.config s n at.earliest StageOver r in
        let there : n ≤ length s.stages = live_there s n first live in
        let long : length (counted m n).staging.staging.stages ≡ length s.stages = length_set s.stages (n - 1) _ in
        let same : length (stage_at (counts_act s n) n).cursor.blocks ≡ length (stage_at s n).cursor.blocks = looks m.config s n (λ (x : Stage). length x.cursor.blocks) refl n in
        record {
          acting = record {
            first = first;
            there = subst (λ (k : ℕ). n ≤ k) (sym long) there;
            idle = looks m.config s n (λ (x : Stage). x.owner) refl n ∙ idle;
            shallow = λ q. subst (λ (k : ℕ). k < 4) (sym same) (facts.shallow n first live (sym (ap opens_block (next_same m.config s n)) ∙ q));
            file = h.facts.file;
            few = few_counted n;
            begins = facts.turn.beginnings;
          };
          allowed = can_make_same m.config s n ∙ act_makes m.config s n at.earliest StageOver r idle;
          room = room.idle idle;
        }

    -- what a stage has under way can go on by itself
    can_proceed : (n o : ℕ) (at : Reading) (line : Option ℕ) → IsQuiet m.traffic → (stage_at (state_of m) n).owner ≡ Some o → ActRoom m n at → PlaceFits (owner_in m.traffic.traffic o).session line
        → line_of (owner_in m.traffic.traffic o).session line ≡ waking_line (state_of (counted m n)) (lines_in (owner_in m.traffic.traffic o).session) → CanProceed (counted m n) o line at
    can_proceed n o at line quiet q room place e =
        let c : Config = m.config in
        let t : Traffic = m.traffic.traffic in
        let w : Owner = owner_in t o in
        let same : waking_line (state_of m) (lines_in w.session) ≡ line_of w.session line = waking_same (clock_in m.clock) m.staging.staging (counted m n).staging.staging t m.stores.stores (lines_in w.session) ∙ sym e in
        record {
          may = may_take c m.staging.staging m.traffic m.stores.stores o (act_turn c o m.clock.steps at (line_of w.session line) w) h facts.turn.replicas quiet (begun_of n o q) ((facts.turn.turns o m.clock.steps at).acts (line_of w.session line));
          place = place;
          room = room.turn o q;
          ends = subst (λ (l : Option Line). CanEnd (counted m n) o (act_turn c o m.clock.steps at l w).ending) same (room.ends o q);
        }

    can_act : (n : ℕ) (at : Reading) → IsQuiet m.traffic → 1 ≤ n → kind_refusal m.config (state_of m) at (Act n) ≡ None → ActRoom m n at → CanAct m n at
    can_act n at quiet first r room = let acts = acts_few m.config m.staging.staging m.traffic.traffic m.stores.stores h n in record {
      few = omega (arith, acts);
      idle = can_make_next n at first r room;
      owned = λ o q. record { holders = facts.holders o; proceeds = λ line place e. can_proceed n o at line quiet q room place e };
    }

    can_settle : (n : ℕ) (at : Reading) → IsQuiet m.traffic → kind_refusal m.config (state_of m) at (Stub n) ≡ None → SettleRoom m n at → CanSettle m n at
    can_settle n at quiet r room = record {
      takes = λ o q. (
          let c : Config = m.config in
          let w : Owner = owner_in m.traffic.traffic o in
          let k : is_stub w.kind ≡ true = h.facts.run.stubs.stubs n o q in
          record {
            may = may_take c m.staging.staging m.traffic m.stores.stores o (stub_turn c o m.clock.steps at w) h facts.turn.replicas quiet (stub_first m.traffic.traffic o facts.first k, stub_there m.traffic.traffic.owners o k) ((facts.turn.turns o m.clock.steps at).stubs);
            starts = facts.turn.stubs n o at r q;
            room = room.turn o q;
            ends = room.ends o q;
          });
    }

  may_lose : (number : ℕ) → is_sent m.traffic.traffic.net number ≡ true → MayLose m.traffic.traffic (message_at m.traffic.traffic.net number).envelope
  may_lose number sent =
      let c : Config = m.config in
      let g : Staging = m.staging.staging in
      let t : Traffic = m.traffic.traffic in
      let d : Stores = m.stores.stores in
      let e : Envelope = (message_at t.net number).envelope in
      let before : is_sent h.net number ≡ true = sym (sent_same h.net t.net number h.says) ∙ sent in
      let asked : is_some (request_at h.net e.exchange) ≡ true = subst (λ (x : Envelope). is_some (request_at h.net x.exchange) ≡ true) (sym (h.says.envelopes number)) (h.facts.run.messages.exchanges number before) in
      let messages = messages_few c g t d h in
      let losses = losses_few c g t d h e.owner e.target in
      record {
        numbered = h.says.envelopes 0 ∙ h.facts.run.messages.first;
        request = ap is_some (request_same h.net t.net e.exchange h.says) ∙ asked;
        messages = omega (arith, messages);
        losses = omega (arith, losses);
      }

  can_bear : (number : ℕ) → lose_refusal m.traffic.traffic.net number ≡ None → LossRoom m number → CanBear m number
  can_bear number r room =
      let c : Config = m.config in
      let g : Staging = m.staging.staging in
      let t : Traffic = m.traffic.traffic in
      let d : Stores = m.stores.stores in
      let e : Envelope = (message_at t.net number).envelope in
      let sent = lose_sent t.net number r in
      record {
        pending = r;
        may = may_lose number sent;
        messages = room.messages;
        again = room.again;
        begun = (owner_from c g t d h number sent, owner_there c g t d h number sent);
        lost = record { pipes = h.facts.file.within.pipes; owners = λ q. owners_fit (owner_in t e.owner).stage; room = room.death };
      }

numbered_from : (n : ℕ) → nat_lt 0 n ≡ true → 1 ≤ n
numbered_from n h = grind (arith, nat_tests, h)

pub can_do : (m : Machine) (at : Reading) (k : StepKind) → IsReady m → HasFacts m → IsQuiet m.traffic → is_numbered k ≡ true → kind_refusal m.config (state_of m) at k ≡ None → StepRoom m at k → CanDo m at k
can_do m at (Act n) h facts quiet numbered r room = can_act m h facts n at quiet (numbered_from n numbered) r room
can_do m at (Go number) h facts quiet numbered r room = record { ready = h; facts = facts.turn; quiet = quiet; pending = not_some OfMessage (deliver_refusal m.traffic.traffic.net number) r; room = room }
can_do m at (Again number) h facts quiet numbered r room = record { ready = h; facts = facts.turn; quiet = quiet; delivered = not_some OfMessage (again_refusal m.traffic.traffic.net number) r; room = room }
can_do m at (Lose number) h facts quiet numbered r room = can_bear m h number (not_some OfMessage (lose_refusal m.traffic.traffic.net number) r) room
can_do m at (Kill n) h facts quiet numbered r room = record { owners = owners_fit m h n; room = room }
can_do m at (Stub n) h facts quiet numbered r room = can_settle m h facts n at quiet r room

-- what turns need does not depend on the clock
facts_clock : (m : Machine) (k : Clock) → HasFacts m → HasFacts (record m { clock = k })
facts_clock m k facts = record {
  shallow = facts.shallow;
  holders = facts.holders;
  first = facts.first;
  left = facts.left;
  positions = facts.positions;
  turn = record {
    turns = facts.turn.turns;
    beginnings = facts.turn.beginnings;
    replicas = facts.turn.replicas;
    kinds = facts.turn.kinds;
    homes = facts.turn.homes;
    operations = facts.turn.operations;
    slots = facts.turn.slots;
    small = facts.turn.small;
    attempts = facts.turn.attempts;
    stubs = facts.turn.stubs;
  };
}

-- no refusal of a kind depends on the clock
kind_clock : (m : Machine) (k : Clock) (at : Reading) (x : StepKind) → kind_refusal m.config (ticks (state_of m) at) at x ≡ None → kind_refusal m.config (state_of (record m { clock = k })) at x ≡ None
kind_clock m k at (Act n) h = h
kind_clock m k at (Go number) h = h
kind_clock m k at (Again number) h = h
kind_clock m k at (Lose number) h = h
kind_clock m k at (Kill n) h = h
kind_clock m k at (Stub n) h = h

-- so it can be taken
pub can_take : (m : Machine) (step : Step) → IsReady m → HasFacts m → is_numbered step.kind ≡ true → refusal m.config (state_of m) step ≡ None → HasRoom m step → CanTake m step
can_take m step h facts numbered r room =
    let parts : IsAllowed m.config (state_of m) step = allowed_parts m.config (state_of m) step r in
    let low : m.clock.steps < m.config.max_steps = parts.log in
    let most : m.config.max_steps ≤ 200000 = h.facts.file.within.steps in
    record {
      steps = omega (arith, low, most);
      admitted = parts.reading;
      room = room.moments;
      kind = λ k q. can_do (record m { clock = k }) step.at step.kind h (facts_clock m k facts) room.quiet numbered (kind_clock m k step.at step.kind parts.kind) (room.kind k q);
    }
