-- A loss, put together of what it makes of owners and the net and of how it ends.
use Rattle.std.proofs.Common.{◌≡◌, ℕ, ◌<◌, ◌^◌, true, false, List, length, Option, Some, None, refl, sym, ap, ◌∙◌, subst, if◌then◌else◌}
use Rattle.std.proofs.lemmas.Bool.{cond_both}
use Rattle.std.specs.Prelude.{nat_lt, is_some}
use Rattle.pipeline_lang.specs.declared.config.Config.{Config}
use Rattle.rss_names.specs.declared.attempt.Attempt.{Attempt}
use Rattle.rss_names.specs.declared.service.Target.{Target}
use Rattle.rss_names.specs.declared.service.Target.TheVariants.{Shard, Replica}
use Rattle.rss_wire.specs.declared.envelope.Envelope.{Envelope}
use Rattle.rss_wire.specs.declared.message.Body.{Body}
use Rattle.rss_wire.specs.declared.message.Body.TheVariants as body
use Rattle.rss_wire.specs.declared.message.Fate.TheVariants.{Lost}
use Rattle.rss_wire.specs.Messages.{message_at, is_sent, envelope_at, meets}
use Rattle.rss_tables.specs.Losses.{losses_of, reaches_tries}
use Rattle.rss_tables.specs.Works.{no_works}
use Rattle.rss_machine.specs.Effect.{loses, replaces, asks_again}
use Rattle.rss_machine.specs.Moves.{marks_message, counts_loss}
use Rattle.rss_machine.specs.Slots.{slot_in}
use Rattle.rss_machine.specs.Standing.{is_running}
use Rattle.rss_machine.specs.State.{State, owner_at, opening_owner}
use Rattle.rss_machine.specs.declared.session.OwnerKind.TheVariants as kind
use Rattle.turn_ends.specs.Alike.{LikeOwners}
use Rattle.turn_ends.proofs.Likes.{lost_like}
use Rattle.owner_turns.specs.Whole.{OwnerView}
use Rattle.turn_laws.specs.Losses.{cut_at, counts_one, counts_lost, target_of_loss, ends_loss}
use Rattle.turn_laws.proofs.Losses.{losing_is_a_move, losses_move}
use Rattle.world_laws.specs.Calls.{is_stub}
use Rattle.world_parts.specs.Halves.{unsettled_in}
use Rattle.world_parts.specs.Parts.{Clock, Staging, Traffic, Stores, assembled, in_traffic, stage_in, owner_in}
use Rattle.world_traffic.specs.View.{TrafficView, IsBegun, CountsFit, next_of, with_traffic}
use Rattle.world_machine.specs.declared.machine.Machine.{Machine}
use Rattle.world_machine.specs.Dying.{OwnersFit, CanLose}
use Rattle.world_machine.specs.Losing.{CanBear}
use Rattle.world_machine.specs.Rooms.{DeathRoom}
use Rattle.world_machine.proofs.Coming.{sent_envelope}
use Rattle.world_machine.proofs.Sent.{lose_sent}

-- what a loss makes of owners and the net
abbrev lost_in : Config → Traffic → ℕ → Traffic
lost_in c t number = in_traffic 0 (λ (s : State). counts_lost c (marks_message s number Lost) (message_at s.net number).envelope) t

-- it is what it makes of the whole state
pub lost_part : (c : Config) (k : Clock) (g : Staging) (t u : Traffic) (d : Stores) (number : ℕ) → u ≡ lost_in c t number
    → assembled k g u d ≡ counts_lost c (marks_message (assembled k g t d) number Lost) (message_at t.net number).envelope
lost_part c k g t u d number e =
    ap (λ (v : Traffic). assembled k g v d) e ∙ sym (losses_move c (message_at t.net number).envelope 0 k g (record t { net = meets t.net number Lost }) d)

-- with its end it is the row of the machine
pub lost_whole : (c : Config) (s mid z : State) (number : ℕ) (e : Envelope) (target : Option Target) → is_sent s.net number ≡ true → envelope_at s.net number ≡ Some e
    → mid ≡ counts_lost c (marks_message s number Lost) (message_at s.net number).envelope
    → target ≡ target_of_loss c (marks_message s number Lost) (message_at s.net number).envelope
    → z ≡ ends_loss c mid e.owner target → z ≡ loses c (marks_message s number Lost) (message_at s.net number).envelope
lost_whole c s mid z number e target sent given p q h =
    h ∙ ap (λ (v : State). ends_loss c v e.owner target) p
    ∙ ap (λ (x : Option Target). ends_loss c (counts_lost c (marks_message s number Lost) (message_at s.net number).envelope) e.owner x) q
    ∙ ap (λ (x : Envelope). ends_loss c (counts_lost c (marks_message s number Lost) (message_at s.net number).envelope) x.owner (target_of_loss c (marks_message s number Lost) (message_at s.net number).envelope)) (sym (sent_envelope s.net number e sent given))
    ∙ sym (losing_is_a_move c (marks_message s number Lost) (message_at s.net number).envelope)

-- it plans no fence
cut_planned : (s : State) (o : ℕ) (target : Target) → (cut_at s o target).planned ≡ s.planned
cut_planned s o (Shard shard) = refl
cut_planned s o (Replica service replica) = refl

again_planned : (s : State) (o slot : ℕ) (target : Target) (b : Body) → (asks_again s o slot target b).planned ≡ s.planned
again_planned s o slot target (body.Request r) = refl
again_planned s o slot target (body.Reply r) = refl

replaces_planned : (s : State) (o : ℕ) (target : Target) (exchange : ℕ) (slot : Option ℕ) → (replaces s o target exchange slot).planned ≡ s.planned
replaces_planned s o target exchange None = refl
replaces_planned s o target exchange (Some slot) = again_planned s o slot target (message_at s.net exchange).body

one_planned : (c : Config) (s : State) (o : ℕ) (e : Envelope) → (counts_one c s o e).planned ≡ s.planned
one_planned c s o e =
    let t : State = counts_loss s o e.target in
    let again : State = replaces t o e.target e.exchange (slot_in (owner_at t o).currents e.exchange) in
    cond_both (reaches_tries c.tries (owner_at s o).losses e.target) (cut_at t o e.target) (if nat_lt (losses_of (owner_at t o).losses e.target) c.tries then again else t) (λ (u : State). u.planned ≡ s.planned)
    (λ q. cut_planned t o e.target)
    (λ q. cond_both (nat_lt (losses_of (owner_at t o).losses e.target) c.tries) again t (λ (u : State). u.planned ≡ s.planned)
    (λ k. replaces_planned t o e.target e.exchange (slot_in (owner_at t o).currents e.exchange))
    (λ k. refl))

lost_planned : (c : Config) (s : State) (e : Envelope) → (counts_lost c s e).planned ≡ s.planned
lost_planned c s e = cond_both (is_running (owner_at s e.owner).fate) (counts_one c s e.owner e) s (λ (u : State). u.planned ≡ s.planned) (λ q. one_planned c s e.owner e) (λ q. refl)

-- the end of a loss can be made behind it as before it
module _ (m : Machine) (u : TrafficView) (like : LikeOwners m.traffic.traffic.owners u.traffic.owners) (free : u.free ≡ m.traffic.free) (next : u.next ≡ m.traffic.next) (planned : u.traffic.planned ≡ m.traffic.traffic.planned) where
  begun_like : (o : ℕ) → IsBegun m.traffic.traffic o → IsBegun u.traffic o
  begun_like o h = (h.0, subst (λ (k : ℕ). o < k) (sym like.many) h.1)

  fit_like : (n : ℕ) → OwnersFit m n → OwnersFit (record m { traffic = u }) n
  fit_like n h = record { begun = λ o q. begun_like o (h.begun o q); few = subst (λ (k : ℕ). k < 2 ^ 32) (sym like.many) h.few }

  left_like : (o : Option ℕ) → unsettled_in u.traffic o ≡ unsettled_in m.traffic.traffic o
  left_like None = refl
  left_like (Some o) = like.unsettled o

  death_like : (n : ℕ) → DeathRoom m n → DeathRoom (record m { traffic = u }) n
  death_like n h =
      let g : Staging = m.staging.staging in
      record {
        entries = h.entries;
        owner = record {
          next = ap next_of next ∙ h.owner.next ∙ ap (λ (left : Option (Attempt × List ℕ)). opening_owner n (kind.Stubbing left) false (no_works (stage_in g n).context) m.clock.steps) (sym (left_like (stage_in g n).owner));
          there = ap is_some next ∙ h.owner.there;
          free = subst (λ (k : ℕ). 0 < k) (sym free) h.owner.free;
          counts = subst (λ (counts : List ℕ). CountsFit (length (next_of u.next).works.left) counts) (sym planned) (subst (λ (x : Option OwnerView). CountsFit (length (next_of x).works.left) m.traffic.traffic.planned) (sym next) h.owner.counts);
        };
      }

  lose_like : (o : ℕ) → CanLose m o → CanLose (record m { traffic = u }) o
  lose_like o h = record {
    pipes = h.pipes;
    owners = λ q. subst (λ (n : ℕ). OwnersFit (record m { traffic = u }) n) (sym (like.stage o)) (fit_like (owner_in m.traffic.traffic o).stage (h.owners (sym (ap is_stub (like.kind o)) ∙ q)));
    room = λ q. subst (λ (n : ℕ). DeathRoom (record m { traffic = u }) n) (sym (like.stage o)) (death_like (owner_in m.traffic.traffic o).stage (h.room (sym (ap is_stub (like.kind o)) ∙ q)));
  }

-- what the loss of a message leaves of who bears it
pub record Borne (m : Machine) (u : TrafficView) (o : ℕ) : Type 0 where
  pub begun : IsBegun u.traffic o
  pub lost : CanLose (record m { traffic = u }) o

pub borne : (m : Machine) (u : TrafficView) (number : ℕ) (e : Envelope) → CanBear m number → envelope_at m.traffic.traffic.net number ≡ Some e
    → u.traffic ≡ lost_in m.config m.traffic.traffic number → u.free ≡ m.traffic.free → u.next ≡ m.traffic.next → Borne m u e.owner
borne m u number e h given same free next =
    let t : Traffic = m.traffic.traffic in
    let env : (message_at t.net number).envelope ≡ e = sent_envelope t.net number e (lose_sent t.net number h.pending) given in
    let first : LikeOwners t.owners (lost_in m.config t number).owners = lost_like m.config (with_traffic (record t { net = meets t.net number Lost })) (message_at t.net number).envelope in
    let like : LikeOwners t.owners u.traffic.owners = subst (λ (v : Traffic). LikeOwners t.owners v.owners) (sym same) first in
    let planned : u.traffic.planned ≡ t.planned = ap (λ (v : Traffic). v.planned) same ∙ lost_planned m.config (with_traffic (record t { net = meets t.net number Lost })) (message_at t.net number).envelope in
    record {
      begun = begun_like m u like free next planned e.owner (subst (λ (x : Envelope). IsBegun t x.owner) env h.begun);
      lost = lose_like m u like free next planned e.owner (subst (λ (x : Envelope). CanLose m x.owner) env h.lost);
    }
