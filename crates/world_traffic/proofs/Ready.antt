-- Room that was made for an owner is what its turn needs.
use Rattle.std.proofs.Common.{◌≡◌, ℕ, true, Option, Some, None, refl, subst}
use Rattle.truetime.specs.Reading.{Reading}
use Rattle.pipeline_lang.specs.declared.config.Config.{Config}
use Rattle.rss_wire.specs.declared.messages.Reply.{Reply}
use Rattle.rss_machine.specs.Session.{Session}
use Rattle.causal_context.specs.Seen.{Seen}
use Rattle.rss_machine.specs.declared.session.OwnerKind.{OwnerKind}
use Rattle.rss_machine.specs.declared.session.Session.TheVariants as session
use Rattle.owner_sessions.specs.Boxed.{HasStubRoom}
use Rattle.owner_sessions.specs.declared.outbox.Outbox.{Outbox}
use Rattle.owner_turns.specs.Going.{SpareView, HasStart, HasEnd, IfStarts, FencesFit, ShownFits, ReadyToHear, ReadyToAct, may_start}
use Rattle.owner_turns.specs.Whole.{OwnerView}
use Rattle.world_traffic.specs.View.{HasRoomFor}

-- what may start has all for it
pub starts_so : (c : Config) (at : Reading) (r : Option Reply) (v : OwnerView) (s : SpareView) (o : Outbox) → HasRoomFor c at r v s o → may_start v.row.works.wait v.row.session ≡ true → HasStart c at v.row.works.copy v.row.kind s
starts_so c at r v s o h e = subst (λ b. IfStarts b c at v.row.works.copy v.row.kind s) e h.start

idle_starts : (time : Option ℕ) (x : Session) → x ≡ session.Idle → may_start time x ≡ true
idle_starts (Some time) x e = refl
idle_starts None x e = rw e refl

pub begins_so : (c : Config) (at : Reading) (r : Option Reply) (v : OwnerView) (s : SpareView) (o : Outbox) → HasRoomFor c at r v s o → v.row.session ≡ session.Idle → HasStart c at v.row.works.copy v.row.kind s
begins_so c at r v s o h e = starts_so c at r v s o h (idle_starts v.row.works.wait v.row.session e)

by_session : (c : Config) (at : Reading) (r : Reply) (v : OwnerView) (s : SpareView) (o : Outbox) (time : Option ℕ) (x : Session) → IfStarts (may_start time x) c at v.row.works.copy v.row.kind s → HasEnd v.row.works.copy s → FencesFit v.row.kind v.fences → HasStubRoom o → ShownFits r v.versions v.skips x → ReadyToHear c at r v s o x
by_session c at r v s o (Some time) (session.Fixing g) a b d e f = a
by_session c at r v s o None (session.Fixing g) a b d e f = a
by_session c at r v s o time (session.Register g) a b d e f = b
by_session c at r v s o time (session.Transaction t) a b d e f = (b, f)
by_session c at r v s o time (session.Snapshot t) a b d e f = (b, f.0, f.1)
by_session c at r v s o (Some time) (session.Settling attempt shards) a b d e f = (a, d, e)
by_session c at r v s o None (session.Settling attempt shards) a b d e f = (a, d, e)
by_session c at r v s o time session.Idle a b d e f = tt

pub hears_so : (c : Config) (at : Reading) (r : Reply) (v : OwnerView) (s : SpareView) (o : Outbox) → HasRoomFor c at (Some r) v s o → ReadyToHear c at r v s o v.row.session
hears_so c at r v s o h = by_session c at r v s o v.row.works.wait v.row.session h.start h.end h.plans h.stub h.shown

by_wait : (c : Config) (at : Reading) (copy : Seen) (k : OwnerKind) (s : SpareView) (time : Option ℕ) (x : Session) → IfStarts (may_start time x) c at copy k s → HasEnd copy s → ReadyToAct c at copy k s time x
by_wait c at copy k s (Some time) x a b = a
by_wait c at copy k s None (session.Transaction t) a b = b
by_wait c at copy k s None (session.Snapshot t) a b = b
by_wait c at copy k s None (session.Fixing g) a b = tt
by_wait c at copy k s None (session.Register g) a b = tt
by_wait c at copy k s None session.Idle a b = tt
by_wait c at copy k s None (session.Settling attempt shards) a b = tt

pub acts_so : (c : Config) (at : Reading) (r : Option Reply) (v : OwnerView) (s : SpareView) (o : Outbox) → HasRoomFor c at r v s o → ReadyToAct c at v.row.works.copy v.row.kind s v.row.works.wait v.row.session
acts_so c at r v s o h = by_wait c at v.row.works.copy v.row.kind s v.row.works.wait v.row.session h.start h.end

pub ruleset begins = (begins_so)

pub ruleset hears = (hears_so)

pub ruleset acts = (acts_so)

pub ruleset starts = (starts_so)
