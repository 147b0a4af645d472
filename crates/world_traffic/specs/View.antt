-- Owners and the net as their callers see them: the tables' part, and what there is room for.
use Rattle.std.specs.Prelude.{◌≡◌, ℕ, ◌+◌, ◌-◌, ◌<◌, ◌≤◌, ◌^◌, List, ◌∷◌, length, get_or, map, Option, Some, None, IsSome, IfSome}
use Rattle.truetime.specs.Reading.{Reading}
use Rattle.pipeline_lang.specs.declared.config.Config.{Config}
use Rattle.owner_sessions.specs.Boxed.{HasBoxRoom, HasStubRoom, IsEmptyBox}
use Rattle.owner_sessions.specs.declared.outbox.Outbox.{Outbox}
use Rattle.owner_turns.specs.Going.{SpareView, HasEnd, IfStarts, FencesFit, ShownFits, may_start}
use Rattle.owner_turns.specs.Whole.{OwnerView}
use Rattle.rss_wire.specs.Messages.{no_message, message_at, request_at}
use Rattle.rss_wire.specs.declared.envelope.Envelope.{Envelope}
use Rattle.rss_wire.specs.declared.messages.Reply.{Reply}
use Rattle.rss_wire.specs.declared.messages.Request.{Request}
use Rattle.rss_names.specs.declared.service.ServiceId.{ServiceId}
use Rattle.rss_names.specs.declared.service.ServiceId.TheVariants.{Txn}
use Rattle.rss_tables.specs.Losses.{losses_of}
use Rattle.rss_tables.specs.declared.fences.FenceWork.{FenceWork}
use Rattle.rss_tables.specs.declared.fences.FenceWork.TheVariants.{Nothing}
use Rattle.rss_machine.specs.State.{State, Owner, no_owner}
use Rattle.world_parts.specs.Parts.{Traffic, assembled, at_step, no_staging, no_stores, owner_in}

-- the part; each owner with what it has room for, number n at place n - 1; for how many more messages
-- and owners there is room; the owner that begins next; what is being sent; what is made ready for a
-- turn; and the copy of a request that may be sent again
pub record TrafficView : Type 0 where
  pub traffic : Traffic
  pub each : List OwnerView
  pub messages : ℕ
  pub free : ℕ
  pub next : Option OwnerView
  pub outbox : Outbox
  pub spare : SpareView
  pub again : Option Request

-- the tables' owner of a view
abbrev pub row_of : OwnerView → Owner
row_of w = w.row

-- the owners of these views, behind the one that is not there
abbrev pub rows_of : List OwnerView → List Owner
rows_of each = no_owner ∷ map row_of each

-- an owner that is not there
abbrev pub no_view : OwnerView
no_view = record { row = no_owner; fences = 0; versions = 0; skips = 0 }

-- the owner of a number, and the one that begins next
abbrev pub view_in : TrafficView → ℕ → OwnerView
view_in v o = get_or v.each (o - 1) no_view

abbrev pub made_of : Option OwnerView → OwnerView
made_of None = no_view
made_of (Some w) = w

abbrev pub next_of : Option OwnerView → Owner
next_of next = (made_of next).row

-- nothing is being sent, as between all calls
abbrev pub IsQuiet : TrafficView → Type 0
IsQuiet v = IsEmptyBox v.outbox

-- room for a turn of an owner in a step with this reading, in which it may hear this reply
pub record HasRoomFor (c : Config) (at : Reading) (r : Option Reply) (v : OwnerView) (s : SpareView) (o : Outbox) : Type 0 where
  pub start : IfStarts (may_start v.row.works.wait v.row.session) c at v.row.works.copy v.row.kind s
  pub end : HasEnd v.row.works.copy s
  pub box : HasBoxRoom o (length v.row.works.copy.deps)
  pub stub : HasStubRoom o
  pub plans : FencesFit v.row.kind v.fences
  pub shown : IfSome r (λ x. ShownFits x v.versions v.skips v.row.session)

pub record HasTurnRoom (c : Config) (at : Reading) (v : TrafficView) (o : ℕ) (r : Option Reply) : Type 0 where
  pub messages : 32 ≤ v.messages
  pub made : HasRoomFor c at r (view_in v o) v.spare v.outbox

-- an owner of this number was begun
abbrev pub IsBegun : Traffic → ℕ → Type 0
IsBegun t o = (1 ≤ o) × (o < length t.owners)

-- so many more fences of a service can be counted
pub record CountsFit (n : ℕ) (counts : List ℕ) : Type 0 where
  pub fits : (place : ℕ) → get_or counts place 0 + n < 2 ^ 32

-- a state of which only this part is there
abbrev pub with_traffic : Traffic → State
with_traffic t = assembled (at_step 0) no_staging t no_stores

-- what the loss of a message with this outside needs: place 0 holds no message, its exchange is a
-- request, there are not too many messages, and its owner has not lost too many
pub record MayLose (t : Traffic) (e : Envelope) : Type 0 where
  pub numbered : (message_at t.net 0).envelope ≡ no_message.envelope
  pub request : IsSome (request_at t.net e.exchange)
  pub messages : length t.net < 2 ^ 32
  pub losses : losses_of (owner_in t e.owner).losses e.target + 1 < 2 ^ 32

-- a fence that is not there
abbrev pub no_fence : ServiceId × FenceWork
no_fence = (Txn 0, Nothing)
