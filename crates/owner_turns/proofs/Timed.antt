-- What an owner's transaction or snapshot does.
use Rattle.std.proofs.Common.{◌≡◌, ℕ, ◌+◌, ◌-◌, ◌<◌, ◌≤◌, ◌==◌, ◌^◌, Bool, true, false, List, [], ◌∷◌, ◌++◌, ◌⊎◌, inl, inr, length, map, get_or, drop, Option, Some, None, refl, sym, ap, subst, ◌∙◌, arith, append_assoc}
use Rattle.std.specs.Prelude.{if◌then◌else◌, max}
use Rattle.truetime.specs.Reading.{Reading}
use Rattle.causal_context.specs.ContextView.{ContextView}
use Rattle.causal_context.specs.Seen.{Seen, after_txn}
use Rattle.rss_model.specs.declared.op.Shown.{Shown}
use Rattle.pipeline_lang.specs.declared.config.Config.{Config}
use Rattle.rss_names.specs.declared.attempt.Attempt.{Attempt}
use Rattle.rss_names.specs.declared.service.Key.{Key}
use Rattle.rss_names.specs.declared.service.ServiceId.{ServiceId}
use Rattle.rss_names.specs.declared.service.Target.{Target}
use Rattle.rss_model.specs.declared.op.Op.{Op}
use Rattle.rss_model.specs.declared.op.Op.TheVariants as op
use Rattle.rss_wire.specs.declared.messages.Reply.{Reply}
use Rattle.rss_wire.specs.declared.messages.Request.{Request}
use Rattle.rss_tables.specs.Outs.{Out, awaited, slot_shard, told}
use Rattle.rss_tables.specs.Lines.{Line, no_line, line_at}
use Rattle.rss_tables.specs.TransactionSession.{shown_reply}
use Rattle.pipeline_lang.specs.declared.script.Expr.{Expr}
use Rattle.rss_tables.specs.Turns.{Turn, quiet}
use Rattle.rss_machine.specs.Session.{Session, service_of}
use Rattle.rss_machine.specs.State.{State, Owner}
use Rattle.rss_machine.specs.declared.session.OwnerKind.{OwnerKind}
use Rattle.rss_machine.specs.declared.session.OwnerKind.TheVariants as kind
use Rattle.rss_machine.specs.declared.session.Session.TheVariants as session
use Rattle.turn_laws.specs.Turns as turn
use Rattle.turn_laws.specs.Turns.{OwnerTurn, goes_with, lines_in, txn_turn, snap_turn}
use Rattle.owner_sessions.specs.Boxed.{HasBoxRoom, HasStubRoom}
use Rattle.owner_sessions.specs.Parts.{settling_in, txn_in, snap_in, reads_in, writes_in, keys_in, TellsTxn, TellsSnap}
use Rattle.owner_sessions.specs.declared.called.Called.{Called}
use Rattle.owner_sessions.specs.declared.doing.Doing.{Doing}
use Rattle.owner_sessions.specs.declared.outbox.Outbox.{Outbox}
use Rattle.owner_turns.specs.Whole.{OwnerView, OwnerFits, KindFits, HasToSettle}
use Rattle.owner_turns.specs.declared.aim.Aim.{Aim}
use Rattle.owner_turns.specs.declared.aim.Aim.TheVariants as aim
use Rattle.owner_turns.specs.declared.way.Way.{Way}
use Rattle.owner_turns.specs.declared.way.Way.TheVariants as way
use Rattle.two_phase.specs.Session.{SessionView as TxnView, txn_of}
use Rattle.two_phase.specs.declared.txn.Txn.{Txn}
use Rattle.snapshot_reads.specs.Session.{SessionView as SnapView, snap_of}
use Rattle.snapshot_reads.specs.declared.snap.Snap.{Snap}
use Rattle.shard_lines.specs.Flat.{IsPlace, has_line}
use Rattle.owner_sessions.proofs.Told.{told_txn, told_snap}
use Rattle.owner_turns.specs.Going.{IsTimed, SlotFits, ShownFits, timed_hears, timed_wakes, timed_passes, seen_of, HasContext, timed_answer, shown_in, time_in, service_in, aim_of, AimServed, waits_in}

by_kind : (P : Session → Type 0) → P session.Idle → ((attempt : Attempt) (shards : List ℕ) → P (session.Settling attempt shards)) → (k : OwnerKind) → P (settling_in k)
by_kind P i s (kind.Stubbing (Some unsettled)) = s unsettled.0 unsettled.1
by_kind P i s (kind.Stubbing None) = i
by_kind P i s (kind.Calling x) = i
by_kind P i s kind.Fencing = i

pub not_timed : (k : OwnerKind) → IsTimed (settling_in k) → ⊥
not_timed k = by_kind (λ x. IsTimed x → ⊥) (λ h. h) (λ a b h. h) k

pub no_time : (k : OwnerKind) → time_in (settling_in k) ≡ None
no_time k = by_kind (λ x. time_in x ≡ None) refl (λ a b. refl) k

pub nothing_shown : (k : OwnerKind) → shown_in (settling_in k) ≡ []
nothing_shown k = by_kind (λ x. shown_in x ≡ []) refl (λ a b. refl) k

pub nothing_passes : (k : OwnerKind) → timed_passes (settling_in k) ≡ quiet (settling_in k)
nothing_passes k = by_kind (λ x. timed_passes x ≡ quiet x) refl (λ a b. refl) k

-- a line that is there has a place
pub placed : (lines : List Line) (shard : ℕ) → has_line lines shard ≡ true → has_line lines shard ≡ false → ⊥
placed lines shard h k = cc

pub few_writes : (k : OwnerKind) (d : Doing) → OwnerFits k d → length (writes_in k) ≤ 8
few_writes k d h = by k h.of_kind
  where
    by : (j : OwnerKind) → KindFits j → length (writes_in j) ≤ 8
    by (kind.Calling (op.Txn reads guard writes)) f = f.few.2
    by (kind.Calling (op.Read key)) f = omega arith
    by (kind.Calling (op.Write key value)) f = omega arith
    by (kind.Calling (op.Snap keys)) f = omega arith
    by kind.Fencing f = omega arith
    by (kind.Stubbing unsettled) f = omega arith

pub few_reads : (k : OwnerKind) (d : Doing) → OwnerFits k d → length (reads_in k) ≤ 8
few_reads k d h = by k h.of_kind
  where
    by : (j : OwnerKind) → KindFits j → length (reads_in j) ≤ 8
    by (kind.Calling (op.Txn reads guard writes)) f = f.few.0
    by (kind.Calling (op.Read key)) f = omega arith
    by (kind.Calling (op.Write key value)) f = omega arith
    by (kind.Calling (op.Snap keys)) f = omega arith
    by kind.Fencing f = omega arith
    by (kind.Stubbing unsettled) f = omega arith

pub few_keys : (k : OwnerKind) (d : Doing) → OwnerFits k d → length (keys_in k) ≤ 8
few_keys k d h = by k h.of_kind
  where
    by : (j : OwnerKind) → KindFits j → length (keys_in j) ≤ 8
    by (kind.Calling (op.Snap keys)) f = f.few.1
    by (kind.Calling (op.Read key)) f = omega arith
    by (kind.Calling (op.Write key value)) f = omega arith
    by (kind.Calling (op.Txn reads guard writes)) f = omega arith
    by kind.Fencing f = omega arith
    by (kind.Stubbing unsettled) f = omega arith

-- what a session is told has few keys
pub few_told : (x : Txn) (k : OwnerKind) (c : Called) (d : Doing) → TellsTxn x k c → OwnerFits k d → length x.writes.now ≤ 8
few_told x k c d h f = subst (λ (l : List (Key × Expr ℕ)). length l ≤ 8) (sym h.writes) (few_writes k d f)

pub few_told_reads : (x : Txn) (k : OwnerKind) (c : Called) (d : Doing) → TellsTxn x k c → OwnerFits k d → length x.reads.now ≤ 8
few_told_reads x k c d h f = subst (λ (l : List Key). length l ≤ 8) (sym h.reads) (few_reads k d f)

pub few_told_keys : (x : Snap) (k : OwnerKind) (c : Called) (d : Doing) → TellsSnap x k c → OwnerFits k d → length x.keys.now ≤ 8
few_told_keys x k c d h f = subst (λ (l : List Key). length l ≤ 8) (sym h.keys) (few_keys k d f)

pub small_told : (x : Txn) (k : OwnerKind) (c : Called) → TellsTxn x k c → x.margin < 2 ^ 62
small_told x k c h = h.small

pub reply_told : (x : Txn) (k : OwnerKind) (c : Called) (lines : List Line) → TellsTxn x k c → shown_reply x.reads.now lines ≡ shown_reply (reads_in k) lines
reply_told x k c lines h = ap (λ (l : List Key). shown_reply l lines) h.reads

pub reply_told_snap : (x : Snap) (k : OwnerKind) (c : Called) (lines : List Line) → TellsSnap x k c → shown_reply x.keys.now lines ≡ shown_reply (keys_in k) lines
reply_told_snap x k c lines h = ap (λ (l : List Key). shown_reply l lines) h.keys

pub timed_slot : (x : Session) (slot : ℕ) → IsTimed x → SlotFits x slot → 7 ≤ slot
timed_slot (session.Transaction t) slot i h = h.0
timed_slot (session.Snapshot t) slot i h = h.0
timed_slot session.Idle slot i h = absurd i
timed_slot (session.Fixing f) slot i h = absurd i
timed_slot (session.Register f) slot i h = absurd i
timed_slot (session.Settling a b) slot i h = absurd i

pub ruleset told_few = (few_told, told_txn, told_snap)

pub ruleset lines_hear = (not_timed, placed, few_told, small_told, timed_slot, told_txn, told_snap)

pub ruleset lines_wake = (not_timed, nothing_passes, told_txn, told_snap)

pub ruleset no_times = (no_time)

abbrev pub service_of_it : Aim → Option ServiceId
service_of_it (aim.Read key) = Some key.service
service_of_it (aim.Write key value) = Some key.service
service_of_it (aim.Snap id) = Some id
service_of_it (aim.Txn id) = Some id
service_of_it aim.Fence = None
service_of_it aim.Stub = None

pub service_of_aim : (k : OwnerKind) (a : Aim) → aim_of k ≡ a → service_in k ≡ service_of_it a
service_of_aim (kind.Calling (op.Read key)) a e = ap service_of_it e
service_of_aim (kind.Calling (op.Write key value)) a e = ap service_of_it e
service_of_aim (kind.Calling (op.Snap keys)) a e = ap service_of_it e
service_of_aim (kind.Calling (op.Txn reads guard writes)) a e = ap service_of_it e
service_of_aim kind.Fencing a e = ap service_of_it e
service_of_aim (kind.Stubbing unsettled) a e = ap service_of_it e

pub ruleset services = (service_of_aim)

pub ruleset few_shown = (few_told_reads, few_told_keys, reply_told, reply_told_snap, nothing_shown)

-- how it ends
pub no_reply : (seen : Seen) (k : OwnerKind) (shown : List Shown) (time : Option ℕ) → (time ≡ None) ⊎ (service_in k ≡ None) → timed_answer seen k shown time ≡ turn.goes
no_reply seen (kind.Calling x) shown None e = refl
no_reply seen (kind.Calling x) shown (Some time) (inl e) = cc
no_reply seen (kind.Calling x) shown (Some time) (inr e) = cc
no_reply seen kind.Fencing shown time e = refl
no_reply seen (kind.Stubbing unsettled) shown time e = refl

pub no_time_replied : (seen : Seen) (k : OwnerKind) (shown : List Shown) (time : Option ℕ) → time ≡ None → timed_answer seen k shown time ≡ turn.goes
no_time_replied seen k shown time e = no_reply seen k shown time (inl e)

pub no_call_replied : (seen : Seen) (k : OwnerKind) (shown : List Shown) (time : Option ℕ) → service_in k ≡ None → timed_answer seen k shown time ≡ turn.goes
no_call_replied seen k shown time e = no_reply seen k shown time (inr e)

pub call_replied : (seen : Seen) (k : OwnerKind) (shown : List Shown) (time : Option ℕ) (t : ℕ) (id : ServiceId) → time ≡ Some t → service_in k ≡ Some id → timed_answer seen k shown time ≡ turn.replied shown (after_txn seen id t)
call_replied seen (kind.Calling x) shown time t id e s = ap (timed_answer seen (kind.Calling x) shown) e ∙ ap (λ (i : Option ServiceId). replied_by seen shown t i) s
  where
    replied_by : Seen → List Shown → ℕ → Option ServiceId → turn.TurnEnd
    replied_by seen shown t None = turn.goes
    replied_by seen shown t (Some i) = turn.replied shown (after_txn seen i t)
call_replied seen kind.Fencing shown time t id e s = cc
call_replied seen (kind.Stubbing unsettled) shown time t id e s = cc

pub no_context : (seen : Seen) → HasContext seen None → ⊥
no_context seen h = h

pub context_seen : (seen : Seen) (x : Option ContextView) (y : ContextView) → HasContext seen x → x ≡ Some y → y.seen ≡ seen
context_seen seen None y h e = absurd h
context_seen seen (Some x) y h e = ap (λ (o : Option ContextView). seen_of o) (sym e) ∙ h.0

pub context_is : (seen : Seen) (x : Option ContextView) → HasContext seen x → x ≡ None → ⊥
context_is seen None h e = h
context_is seen (Some x) h e = cc

pub context_room : (seen : Seen) (x : Option ContextView) (y : ContextView) → HasContext seen x → x ≡ Some y → 1 ≤ y.spare
context_room seen None y h e = absurd h
context_room seen (Some x) y h e = let q : x ≡ y = cc in subst (λ (z : ContextView). 1 ≤ z.spare) q h.1

pub ruleset answering = (context_seen, context_is, context_room)

pub ruleset replies = (no_time_replied, no_call_replied, call_replied, context_seen, context_is)
