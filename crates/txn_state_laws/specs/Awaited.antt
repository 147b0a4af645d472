-- What the current exchanges of owners that have something under way with shards are.
use Rattle.std.specs.Prelude.{◌≡◌, ℕ, ◌<◌, false, List, length, Option, Some}
use Rattle.rss_names.specs.declared.attempt.Attempt.{Attempt}
use Rattle.rss_names.specs.declared.service.Target.{Target}
use Rattle.rss_names.specs.declared.service.Target.TheVariants.{Shard}
use Rattle.rss_wire.specs.Messages.{message_at}
use Rattle.rss_wire.specs.declared.message.Body.TheVariants as body
use Rattle.rss_wire.specs.declared.message.Message.{Message}
use Rattle.rss_wire.specs.declared.messages.Reply.{Reply}
use Rattle.rss_wire.specs.declared.messages.Request.{Request}
use Rattle.rss_wire.specs.declared.messages.Request.TheVariants as request
use Rattle.rss_tables.specs.Lines.{Line, line_at}
use Rattle.rss_tables.specs.Outs.{line_slot, slot_shard}
use Rattle.rss_tables.specs.SnapshotSession.{SnapSession}
use Rattle.rss_tables.specs.TransactionSession.{TxnSession}
use Rattle.rss_machine.specs.Effect.{least_shard}
use Rattle.rss_machine.specs.State.{State, owner_at}
use Rattle.rss_machine.specs.declared.session.Session.TheVariants as session
use Rattle.session_laws.specs.Awaits.{txn_awaits, snap_awaits, IsReplyTo}
use Rattle.session_laws.specs.Frames.{IsLine, nth_line}
use Rattle.shard_event_laws.specs.Facts.{current_at}
use Rattle.shard_event_laws.specs.Events.{Hears}
use Rattle.txn_state_laws.specs.Replied.{Replied}

-- an exchange is an owner's, with a target, about a request
pub record IsExchange (net : List Message) (m o : ℕ) (target : Target) (q : Request) : Type 0 where
  pub numbered : 0 < m
  pub sent : m < length net
  pub owner : (message_at net m).envelope.owner ≡ o
  pub to : (message_at net m).envelope.target ≡ target
  pub asks : (message_at net m).body ≡ body.Request q

-- the exchange of a slot is the one that the line of the slot awaits
pub record LineAwaits (net : List Message) (o slot m : ℕ) (lines : List Line) (awaits : Line → Option (Target × Request)) : Type 0 where
  pub place : ℕ
  pub inside : place < length lines
  pub of_line : slot ≡ line_slot (nth_line lines place).shard
  pub target : Target
  pub asked : Request
  pub awaited : awaits (nth_line lines place) ≡ Some (target, asked)
  pub exchange : IsExchange net m o target asked

pub record AllAwaited (s : State) : Type 0 where
  pub txn : (o slot m : ℕ) (x : TxnSession) → (owner_at s o).session ≡ session.Transaction x → current_at (owner_at s o) slot ≡ Some m → LineAwaits s.net o slot m x.lines (txn_awaits x x.phase)
  pub snap : (o slot m : ℕ) (x : SnapSession) → (owner_at s o).session ≡ session.Snapshot x → current_at (owner_at s o) slot ≡ Some m → LineAwaits s.net o slot m x.lines (snap_awaits x x.phase)
  pub stub : (o slot m : ℕ) (a : Attempt) (shards : List ℕ) → (owner_at s o).session ≡ session.Settling a shards → current_at (owner_at s o) slot ≡ Some m → IsExchange s.net m o (Shard (least_shard shards)) (request.Decide a false 0)

-- what a line hears is the reply to what it awaits
pub record LineHears (s : State) (slot : ℕ) (lines : List Line) (awaits : Line → Option (Target × Request)) (r : Reply) : Type 0 where
  pub place : ℕ
  pub inside : place < length lines
  pub of_line : slot ≡ line_slot (nth_line lines place).shard
  pub found : line_at lines (slot_shard slot) ≡ nth_line lines place
  pub target : Target
  pub asked : Request
  pub awaited : awaits (nth_line lines place) ≡ Some (target, asked)
  pub replied : Replied s target asked r
  pub fits : IsReplyTo asked r

pub record AnswersHeard (s : State) : Type 0 where
  pub txn : (o slot : ℕ) (x : TxnSession) (r : Reply) → (owner_at s o).session ≡ session.Transaction x → Hears s o slot r → LineHears s slot x.lines (txn_awaits x x.phase) r
  pub snap : (o slot : ℕ) (x : SnapSession) (r : Reply) → (owner_at s o).session ≡ session.Snapshot x → Hears s o slot r → LineHears s slot x.lines (snap_awaits x x.phase) r
  pub stub : (o slot : ℕ) (a : Attempt) (shards : List ℕ) (r : Reply) → (owner_at s o).session ≡ session.Settling a shards → Hears s o slot r → Replied s (Shard (least_shard shards)) (request.Decide a false 0) r
