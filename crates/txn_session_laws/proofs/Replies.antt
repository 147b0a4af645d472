-- Replies that were sent: they stay, each is one that a shard gives, and what a line hears is such a one.
use Rattle.std.proofs.Common.{◌≡◌, ℕ, ◌<◌, length, Option, Some, None, sym, ap, ◌∙◌, subst, arith}
use Rattle.truetime.specs.Reading.{Reading}
use Rattle.rss_names.specs.declared.service.Target.{Target}
use Rattle.rss_names.specs.declared.service.Target.TheVariants.{Shard}
use Rattle.rss_wire.specs.Messages.{message_at}
use Rattle.rss_wire.specs.declared.envelope.Envelope.{Envelope}
use Rattle.rss_wire.specs.declared.messages.Reply.{Reply}
use Rattle.rss_wire.specs.declared.messages.Request.{Request}
use Rattle.rss_tables.specs.Lines.{Line}
use Rattle.rss_tables.specs.SnapshotSession.{SnapSession, snap_request}
use Rattle.rss_tables.specs.TransactionSession.{TxnSession, txn_request}
use Rattle.rss_tables.specs.declared.lines.LineState.{LineState}
use Rattle.rss_tables.specs.declared.lines.LineState.TheVariants.{Awaiting}
use Rattle.rss_tables.specs.declared.phases.SnapPhase.{SnapPhase}
use Rattle.rss_tables.specs.declared.phases.SnapPhase.TheVariants.{First, Second, Done}
use Rattle.rss_tables.specs.declared.phases.TxnPhase.{TxnPhase}
use Rattle.rss_tables.specs.declared.phases.TxnPhase.TheVariants as phase
use Rattle.rss_machine.specs.Moves.{ticks}
use Rattle.rss_machine.specs.State.{State}
use Rattle.world_laws.proofs.Looks.{some_is}
use Rattle.world_laws.specs.Exchanges.{is_request, IsSound, Fits}
use Rattle.session_laws.specs.Awaits.{awaited_by, txn_awaits, snap_awaits, IsReplyTo}
use Rattle.shard_event_laws.specs.Facts.{NetGrows}
use Rattle.shard_event_laws.specs.Known.{Known}
use Rattle.txn_laws.specs.Given.{IsReplyOf}
use Rattle.txn_state_laws.specs.Replied.{Replied}
use Rattle.txn_session_laws.proofs.Goes.{TxnHeard, SnapHeard}

-- a reply that was sent stays
pub reply_grows : (at : Reading) (s t : State) (m : ℕ) (target : Target) (q : Request) (r : Reply) → Known at s → NetGrows s t → IsReplyOf s m target q r → IsReplyOf t m target q r
reply_grows at s t m target q r known grows h = record {
  numbered = h.numbered;
  sent = (let a = h.sent in let b = grows.long in omega (arith, a, b));
  says = grows.bodies m h.sent ∙ h.says;
  asked = ap (λ (e : ℕ). (message_at t.net e).body) (ap (λ (x : Envelope). x.exchange) (grows.envelopes m h.sent)) ∙ grows.bodies (message_at s.net m).envelope.exchange earlier ∙ h.asked;
  from = ap (λ (x : Envelope). x.target) (grows.envelopes m h.sent) ∙ h.from;
}
  where
    sound : IsSound m (message_at s.net m) (message_at s.net (message_at s.net m).envelope.exchange)
    sound = known.sound m h.numbered h.sent

    earlier : (message_at s.net m).envelope.exchange < length s.net
    earlier = let a = sound.earlier (ap is_request h.says) in let b = h.sent in omega (arith, a, b)

pub replied_grows : (at : Reading) (s t : State) (target : Target) (q : Request) (r : Reply) → Known at s → NetGrows s t → Replied s target q r → Replied t target q r
replied_grows at s t target q r known grows h = record { message = h.message; is = reply_grows at s t h.message target q r known grows h.is }

-- it is one that a shard gives
pub replied_fits : (at : Reading) (s : State) (shard : ℕ) (q : Request) (r : Reply) → Known at s → Replied s (Shard shard) q r → IsReplyTo q r
replied_fits at s shard q r known h = record { shard = fit.shard; latest = fit.latest; gives = fit.reply }
  where
    sound : IsSound h.message (message_at s.net h.message) (message_at s.net (message_at s.net h.message).envelope.exchange)
    sound = known.sound h.message h.is.numbered h.is.sent

    fit : Fits (Shard shard) q r
    fit = subst (λ (target : Target). Fits target q r) h.is.from (sound.fits q r h.is.says h.is.asked)

-- what a line that awaits its phase's request has heard is the reply to it
module _ (s : State) (shard : ℕ) (target : Target) (asked own : Request) (r : Reply) where
  awaited_own : (state : LineState) → state ≡ Awaiting → awaited_by state shard own ≡ Some (target, asked) → Replied s target asked r → Replied s (Shard shard) own r
  awaited_own state e a h =
      let b : ◌≡◌ {A = Option (Target × Request)} (Some (Shard shard, own)) (Some (target, asked)) = ap (λ (x : LineState). awaited_by x shard own) (sym e) ∙ a in
      let p : ◌≡◌ {A = Target × Request} (Shard shard, own) (target, asked) = some_is (Shard shard, own) (target, asked) b in
      let c : target ≡ Shard shard = ap (λ (x : Target × Request). x.0) (sym p) in
      let d : asked ≡ own = ap (λ (x : Target × Request). x.1) (sym p) in
      subst (λ (x : Target). Replied s x own r) c (subst (λ (x : Request). Replied s target x r) d h)

nothing : {A : Type 0} (x : Target × Request) → ◌≡◌ {A = Option (Target × Request)} None (Some x) → A
nothing x e = absurd cc

pub own_replied : (s : State) (x : TxnSession) (l : Line) (r : Reply) (p : TxnPhase) → x.phase ≡ p → l.state ≡ Awaiting → TxnHeard s x l r → Replied s (Shard l.shard) (txn_request x p l) r
own_replied s x l r p e w h = by_phase p (ap (λ (q : TxnPhase). txn_awaits x q l) (sym e) ∙ h.awaited)
  where
    own : (q : Request) → awaited_by l.state l.shard q ≡ Some (h.target, h.asked) → Replied s (Shard l.shard) q r
    own q a = awaited_own s l.shard h.target h.asked q r l.state w a h.replied

    by_phase : (q : TxnPhase) → txn_awaits x q l ≡ Some (h.target, h.asked) → Replied s (Shard l.shard) (txn_request x q l) r
    by_phase phase.Locking a = own _ a
    by_phase phase.Preparing a = own _ a
    by_phase (phase.Freeing time) a = own _ a
    by_phase (phase.FreeingLast time) a = own _ a
    by_phase (phase.Deciding time) a = own _ a
    by_phase phase.Undoing a = own _ a
    by_phase (phase.Waiting time) a = nothing _ a
    by_phase (phase.Committed time) a = nothing _ a
    by_phase (phase.Failed time) a = nothing _ a

pub snap_replied : (s : State) (x : SnapSession) (l : Line) (r : Reply) (p : SnapPhase) → x.phase ≡ p → l.state ≡ Awaiting → SnapHeard s x l r → Replied s (Shard l.shard) (snap_request x p l) r
snap_replied s x l r p e w h = by_phase p (ap (λ (q : SnapPhase). snap_awaits x q l) (sym e) ∙ h.awaited)
  where
    own : (q : Request) → awaited_by l.state l.shard q ≡ Some (h.target, h.asked) → Replied s (Shard l.shard) q r
    own q a = awaited_own s l.shard h.target h.asked q r l.state w a h.replied

    by_phase : (q : SnapPhase) → snap_awaits x q l ≡ Some (h.target, h.asked) → Replied s (Shard l.shard) (snap_request x q l) r
    by_phase (First time) a = own _ a
    by_phase (Second time) a = own _ a
    by_phase (Done time) a = nothing _ a

-- the clock changes no reply
pub replied_ticks : (s : State) (at : Reading) (target : Target) (q : Request) (r : Reply) → Replied s target q r → Replied (ticks s at) target q r
replied_ticks s at target q r h = record { message = h.message; is = record { numbered = h.is.numbered; sent = h.is.sent; says = h.is.says; asked = h.is.asked; from = h.is.from } }
