-- What is heard is the reply to what is awaited.
use Rattle.std.proofs.Common.{◌≡◌, ℕ, false, Option, Some, None, List, sym, ap, ◌∙◌, subst, arith}
use Rattle.truetime.specs.Reading.{Reading}
use Rattle.rss_names.specs.declared.service.Target.{Target}
use Rattle.rss_names.specs.declared.service.Target.TheVariants.{Shard}
use Rattle.pipeline_lang.specs.declared.config.Config.{Config}
use Rattle.rss_wire.specs.Messages.{message_at}
use Rattle.rss_wire.specs.declared.messages.Reply.{Reply}
use Rattle.rss_wire.specs.declared.messages.Request.{Request}
use Rattle.rss_wire.specs.declared.messages.Request.TheVariants as request
use Rattle.rss_tables.specs.Lines.{Line, line_at}
use Rattle.rss_tables.specs.Outs.{slot_shard}
use Rattle.rss_tables.specs.SnapshotSession.{SnapSession}
use Rattle.rss_tables.specs.TransactionSession.{TxnSession}
use Rattle.rss_tables.specs.declared.lines.LineState.{LineState}
use Rattle.rss_tables.specs.declared.lines.LineState.TheVariants.{Awaiting, Answered, Inquiring, Resolving, Asleep, Dropped}
use Rattle.rss_tables.specs.declared.phases.SnapPhase.{SnapPhase}
use Rattle.rss_tables.specs.declared.phases.SnapPhase.TheVariants.{First, Second, Done}
use Rattle.rss_tables.specs.declared.phases.TxnPhase.{TxnPhase}
use Rattle.rss_tables.specs.declared.phases.TxnPhase.TheVariants as phase
use Rattle.rss_machine.specs.Effect.{least_shard}
use Rattle.rss_machine.specs.State.{State, owner_at}
use Rattle.world_laws.specs.Exchanges.{Fits}
use Rattle.reg_laws.proofs.Awaiting.{slot_current}
use Rattle.session_laws.specs.Awaits.{awaited_by, txn_awaits, snap_awaits, IsReplyTo}
use Rattle.session_laws.specs.Frames.{nth_line, AreApartShards}
use Rattle.session_laws.proofs.Frames.{line_at_nth}
use Rattle.session_laws.proofs.TxnCases.{none_awaited}
use Rattle.shard_event_laws.specs.Events.{Hears}
use Rattle.shard_event_laws.specs.Facts.{current_at}
use Rattle.shard_event_laws.specs.Known.{Known}
use Rattle.txn_state_laws.specs.Awaited.{IsExchange, LineAwaits, AllAwaited, LineHears, AnswersHeard}
use Rattle.txn_state_laws.specs.Framed.{AllFramed}
use Rattle.txn_state_laws.specs.Replied.{Replied}

-- a target is a shard
pub record IsShard (target : Target) : Type 0 where
  pub number : ℕ
  pub is : target ≡ Shard number

-- the target of what is awaited
abbrev target_in : Target → Option (Target × Request) → Target
target_in other None = other
target_in other (Some x) = x.0

pub target_of : (x y : Target) (q r : Request) → ◌≡◌ {A = Option (Target × Request)} (Some (x, q)) (Some (y, r)) → x ≡ y
target_of x y q r e = ap (target_in x) e

-- what a line awaits is of a shard
awaited_shard : (st : LineState) (shard : ℕ) (q : Request) (target : Target) (asked : Request) → awaited_by st shard q ≡ Some (target, asked) → IsShard target
awaited_shard Awaiting shard q target asked e = record { number = shard; is = sym (target_of (Shard shard) target q asked e) }
awaited_shard Answered shard q target asked e = none_awaited (target, asked) e
awaited_shard (Inquiring holder) shard q target asked e = record { number = holder.coordinator; is = sym (target_of (Shard holder.coordinator) target (request.Inquire holder.attempt) asked e) }
awaited_shard (Resolving holder outcome) shard q target asked e = record { number = shard; is = sym (target_of (Shard shard) target _ asked e) }
awaited_shard (Asleep holder) shard q target asked e = none_awaited (target, asked) e
awaited_shard Dropped shard q target asked e = none_awaited (target, asked) e

txn_shard : (x : TxnSession) (p : TxnPhase) (l : Line) (target : Target) (asked : Request) → txn_awaits x p l ≡ Some (target, asked) → IsShard target
txn_shard x phase.Locking l target asked e = awaited_shard l.state l.shard _ target asked e
txn_shard x phase.Preparing l target asked e = awaited_shard l.state l.shard _ target asked e
txn_shard x (phase.Freeing time) l target asked e = awaited_shard l.state l.shard _ target asked e
txn_shard x (phase.FreeingLast time) l target asked e = awaited_shard l.state l.shard _ target asked e
txn_shard x (phase.Deciding time) l target asked e = awaited_shard l.state l.shard _ target asked e
txn_shard x phase.Undoing l target asked e = awaited_shard l.state l.shard _ target asked e
txn_shard x (phase.Waiting time) l target asked e = none_awaited (target, asked) e
txn_shard x (phase.Committed time) l target asked e = none_awaited (target, asked) e
txn_shard x (phase.Failed time) l target asked e = none_awaited (target, asked) e

snap_shard : (x : SnapSession) (p : SnapPhase) (l : Line) (target : Target) (asked : Request) → snap_awaits x p l ≡ Some (target, asked) → IsShard target
snap_shard x (First time) l target asked e = awaited_shard l.state l.shard _ target asked e
snap_shard x (Second time) l target asked e = awaited_shard l.state l.shard _ target asked e
snap_shard x (Done time) l target asked e = none_awaited (target, asked) e

-- a reply that fits a shard's target is one of a shard
reply_of : (target : Target) (q : Request) (r : Reply) → IsShard target → Fits target q r → IsReplyTo q r
reply_of target q r a f = by_shard (subst (λ (x : Target). Fits x q r) a.is f)
  where
    by_shard : Fits (Shard a.number) q r → IsReplyTo q r
    by_shard g = record { shard = g.shard; latest = g.latest; gives = g.reply }

-- a reply that is heard, whose exchange is this one
module _ (at : Reading) (s : State) (known : Known at s) (o slot : ℕ) (r : Reply) (h : Hears s o slot r) where
  abbrev exchange : ℕ
  exchange = (message_at s.net h.number).envelope.exchange

  current : current_at (owner_at s o) slot ≡ Some exchange
  current = slot_current (owner_at s o).currents exchange slot h.current

  replied : (target : Target) (asked : Request) → IsExchange s.net exchange o target asked → Replied s target asked r
  replied target asked e = record {
    message = h.number;
    is = record {
      numbered = h.numbered;
      sent = h.sent;
      says = h.says;
      asked = e.asks;
      from = (known.sound h.number h.numbered h.sent).target ∙ e.to;
    };
  }

  fits : (target : Target) (asked : Request) → IsShard target → IsExchange s.net exchange o target asked → IsReplyTo asked r
  fits target asked a e =
      let f : Fits (message_at s.net h.number).envelope.target asked r = (known.sound h.number h.numbered h.sent).fits asked r h.says e.asks in
      reply_of target asked r a (subst (λ (x : Target). Fits x asked r) ((known.sound h.number h.numbered h.sent).target ∙ e.to) f)

  line_hears : (lines : List Line) (awaits : Line → Option (Target × Request)) → AreApartShards lines
      → ((l : Line) (target : Target) (asked : Request) → awaits l ≡ Some (target, asked) → IsShard target)
      → LineAwaits s.net o slot exchange lines awaits → LineHears s slot lines awaits r
  line_hears lines awaits apart of_shard a = record {
    place = a.place;
    inside = a.inside;
    of_line = a.of_line;
    found =
        let e : slot_shard slot ≡ (nth_line lines a.place).shard = (let f = a.of_line in omega (arith, f)) in
        ap (line_at lines) e ∙ line_at_nth lines apart a.place a.inside;
    target = a.target;
    asked = a.asked;
    awaited = a.awaited;
    replied = replied a.target a.asked a.exchange;
    fits = fits a.target a.asked (of_shard (nth_line lines a.place) a.target a.asked a.awaited) a.exchange;
  }

pub answers_hold : (c : Config) (at : Reading) (s : State) → Known at s → AllFramed c s → AllAwaited s → AnswersHeard s
answers_hold c at s known framed awaited = record {
  txn = λ o slot x r e h. line_hears at s known o slot r h x.lines (txn_awaits x x.phase) (framed.txn o x e).lines.apart (txn_shard x x.phase)
      (awaited.txn o slot (exchange at s known o slot r h) x e (current at s known o slot r h));
  snap = λ o slot x r e h. line_hears at s known o slot r h x.lines (snap_awaits x x.phase) (framed.snap o x e).lines.apart (snap_shard x x.phase)
      (awaited.snap o slot (exchange at s known o slot r h) x e (current at s known o slot r h));
  stub = λ o slot a shards r e h. replied at s known o slot r h (Shard (least_shard shards)) (request.Decide a false 0)
      (awaited.stub o slot (exchange at s known o slot r h) a shards e (current at s known o slot r h));
}
