-- What is made before a turn.
use Rattle.std.proofs.Common.{◌≡◌, ℕ, ◌+◌, ◌-◌, ◌<◌, ◌≤◌, ◌==◌, Bool, true, false, List, [], ◌∷◌, ◌++◌, length, map, get_or, drop, Option, Some, None, refl, sym, ap, subst, ◌∙◌, arith, append_assoc}
use Rattle.std.specs.Prelude.{⊤, if◌then◌else◌, max, Result, Ok, Err, OnOk}
use Rattle.truetime.specs.Reading.{Reading}
use Rattle.causal_context.specs.Seen.{Seen}
use Rattle.pipeline_lang.specs.declared.config.Config.{Config}
use Rattle.rss_names.specs.declared.attempt.Attempt.{Attempt}
use Rattle.rss_names.specs.declared.service.Key.{Key}
use Rattle.rss_names.specs.declared.service.ServiceId.{ServiceId}
use Rattle.rss_names.specs.declared.service.Target.{Target}
use Rattle.rss_model.specs.declared.op.Op.{Op}
use Rattle.rss_model.specs.declared.op.Op.TheVariants as op
use Rattle.rss_wire.specs.declared.messages.Reply.{Reply}
use Rattle.rss_wire.specs.declared.messages.Request.{Request}
use Rattle.rss_tables.specs.Outs.{Out, awaited, slot_shard, told}
use Rattle.rss_tables.specs.Lines.{Line, no_line, line_at}
use Rattle.rss_tables.specs.Turns.{Turn, quiet}
use Rattle.rss_machine.specs.Session.{Session, service_of}
use Rattle.rss_machine.specs.State.{State, Owner}
use Rattle.rss_machine.specs.declared.session.OwnerKind.{OwnerKind}
use Rattle.rss_machine.specs.declared.session.OwnerKind.TheVariants as kind
use Rattle.rss_machine.specs.declared.session.Session.TheVariants as session
use Rattle.turn_laws.specs.Turns as turn
use Rattle.turn_laws.specs.Turns.{OwnerTurn, goes_with, lines_in, txn_turn, snap_turn}
use Rattle.owner_sessions.specs.Boxed.{HasBoxRoom, HasStubRoom}
use Rattle.owner_sessions.specs.Parts.{settling_in, txn_in, snap_in, reads_in, writes_in, keys_in, TellsTxn, TellsSnap}
use Rattle.owner_sessions.specs.declared.called.Called.{Called}
use Rattle.owner_sessions.specs.declared.doing.Doing.{Doing}
use Rattle.owner_sessions.specs.declared.outbox.Outbox.{Outbox}
use Rattle.owner_turns.specs.Whole.{OwnerView, OwnerFits, KindFits, HasToSettle}
use Rattle.owner_turns.specs.declared.aim.Aim.{Aim}
use Rattle.owner_turns.specs.declared.aim.Aim.TheVariants as aim
use Rattle.owner_turns.specs.declared.way.Way.{Way}
use Rattle.owner_turns.specs.declared.way.Way.TheVariants as way
use Rattle.causal_context.specs.ContextView.{ContextView}
use Rattle.causal_context.specs.LeastTimes.{least_of}
use Rattle.pipeline_lang.specs.Config.{home_of}
use Rattle.pipeline_lang.specs.declared.script.Expr.{Expr}
use Rattle.rss_tables.specs.Lines.{lines_of}
use Rattle.rss_tables.specs.TransactionSession.{TxnSession, written_keys, opening_txn}
use Rattle.rss_tables.specs.SnapshotSession.{SnapSession, opening_snapshot}
use Rattle.shard_lines.specs.Flat.{AreHomed, home_in}
use Rattle.two_phase.specs.Session.{SessionView as TxnView, txn_of, opening_of as txn_opening}
use Rattle.two_phase.specs.declared.txn.Txn.{Txn}
use Rattle.snapshot_reads.specs.Session.{SessionView as SnapView, snap_of, opening_of as snap_opening}
use Rattle.snapshot_reads.specs.declared.snap.Snap.{Snap}
use Rattle.owner_turns.specs.Going.{SpareView, HasStart, HasContext, OpensTxn, OpensSnap, OpensKind, IfStarts, HomesFit, ShownFits, aim_of, way_of, may_start}

by_kind : (P : Session → Type 0) → P session.Idle → ((attempt : Attempt) (shards : List ℕ) → P (session.Settling attempt shards)) → (k : OwnerKind) → P (settling_in k)
by_kind P i s (kind.Stubbing (Some unsettled)) = s unsettled.0 unsettled.1
by_kind P i s (kind.Stubbing None) = i
by_kind P i s (kind.Calling x) = i
by_kind P i s kind.Fencing = i

pub nothing_shown : (r : Reply) (versions skips : ℕ) (k : OwnerKind) → ShownFits r versions skips (settling_in k)
nothing_shown r versions skips k = by_kind (λ x. ShownFits r versions skips x) tt (λ a b. tt) k

pub txn_same : (k : OwnerKind) (c : Called) (a b : TxnView) → record a { room = b.room } ≡ b → txn_in k c a ≡ txn_in k c b
txn_same k c a b e = ap (txn_in k c) e

pub snap_same : (k : OwnerKind) (c : Called) (a b : SnapView) → record a { room = b.room; skips = b.skips } ≡ b → snap_in k c a ≡ snap_in k c b
snap_same k c a b e = ap (snap_in k c) e

pub ruleset lines_made = (nothing_shown, txn_same, snap_same)

pub context_made : (seen : Seen) (x : ContextView) → x.seen ≡ seen → 1 ≤ x.spare → HasContext seen (Some x)
context_made seen x e h = (e, h)

pub ruleset contexts = (context_made)

pub txn_made : (home : ℕ → ℕ) (x : Txn) (s : TxnView) → txn_of x s ≡ txn_opening home x → OpensTxn (lines_of home x.reads.now (written_keys x.writes.now)) (Some s)
txn_made home x s e = (ap (λ (t : TxnSession). t.k) e, ap (λ (t : TxnSession). t.phase) e, ap (λ (t : TxnSession). t.earliest_end) e, ap (λ (t : TxnSession). t.lines) e)

pub ruleset txns = (txn_made)

pub snap_made : (home : ℕ → ℕ) (x : Snap) (at : Reading) (s : SnapView) → snap_of x s ≡ snap_opening home x at → OpensSnap (lines_of home x.keys.now []) (max at.latest x.least) (Some s)
snap_made home x at s e = (ap (λ (t : SnapSession). t.phase) e, ap (λ (t : SnapSession). t.lines) e)

pub ruleset snaps = (snap_made)

pub starts_where : (b : Bool) (c : Config) (at : Reading) (copy : Seen) (k : OwnerKind) (s : SpareView) → b ≡ true → HasStart c at copy k s → IfStarts b c at copy k s
starts_where b c at copy k s e h = subst (λ (x : Bool). IfStarts x c at copy k s) (sym e) h

pub starts_not : (b : Bool) (c : Config) (at : Reading) (copy : Seen) (k : OwnerKind) (s : SpareView) → b ≡ false → IfStarts b c at copy k s
starts_not b c at copy k s e = subst (λ (x : Bool). IfStarts x c at copy k s) (sym e) tt

pub ruleset starts = (starts_where, starts_not)

pub may_wait : (wait : Option ℕ) (t : ℕ) (x : Session) → wait ≡ Some t → may_start wait x ≡ true
may_wait wait t x e = ap (λ (y : Option ℕ). may_start y x) e

abbrev pub may_so : Way → Bool
may_so way.Idle = true
may_so way.Fixing = true
may_so way.Settling = true
may_so way.Register = false
may_so way.Transaction = false
may_so way.Snapshot = false

pub may_go : (wait : Option ℕ) (x : Session) (y : Way) → wait ≡ None → way_of x ≡ y → may_start wait x ≡ may_so y
may_go wait session.Idle y e q = ap (λ (z : Option ℕ). may_start z session.Idle) e ∙ ap may_so q
may_go wait (session.Fixing f) y e q = ap (λ (z : Option ℕ). may_start z (session.Fixing f)) e ∙ ap may_so q
may_go wait (session.Register f) y e q = ap (λ (z : Option ℕ). may_start z (session.Register f)) e ∙ ap may_so q
may_go wait (session.Transaction t) y e q = ap (λ (z : Option ℕ). may_start z (session.Transaction t)) e ∙ ap may_so q
may_go wait (session.Snapshot t) y e q = ap (λ (z : Option ℕ). may_start z (session.Snapshot t)) e ∙ ap may_so q
may_go wait (session.Settling a b) y e q = ap (λ (z : Option ℕ). may_start z (session.Settling a b)) e ∙ ap may_so q

pub ruleset mays = (may_wait, may_go)

-- the session of a call
pub opens_txn : (c : Config) (at : Reading) (seen : Seen) (k : OwnerKind) (id : ServiceId) (s : SpareView) (x : Txn) (y : Called) (homes : List ℕ) → aim_of k ≡ aim.Txn id → TellsTxn x k y → homes ≡ c.homes → OpensTxn (lines_of (home_in homes) x.reads.now (written_keys x.writes.now)) s.txn → OpensKind c at seen s k
opens_txn c at seen (kind.Calling (op.Txn reads guard writes)) id s x y homes e h m o = subst (λ (l : List Line). OpensTxn l s.txn) (ap (λ (hs : List ℕ). lines_of (home_in hs) x.reads.now (written_keys x.writes.now)) m ∙ ap (λ (r : List Key). lines_of (home_in c.homes) r (written_keys x.writes.now)) h.reads ∙ ap (λ (l : List (Key × Expr ℕ)). lines_of (home_in c.homes) reads (written_keys l)) h.writes) o
opens_txn c at seen (kind.Calling (op.Read key)) id s x y homes e h m o = tt
opens_txn c at seen (kind.Calling (op.Write key value)) id s x y homes e h m o = tt
opens_txn c at seen (kind.Calling (op.Snap keys)) id s x y homes e h m o = cc
opens_txn c at seen kind.Fencing id s x y homes e h m o = tt
opens_txn c at seen (kind.Stubbing unsettled) id s x y homes e h m o = tt

pub opens_snap : (c : Config) (at : Reading) (seen : Seen) (k : OwnerKind) (id : ServiceId) (s : SpareView) (x : Snap) (y : Called) (homes : List ℕ) → aim_of k ≡ aim.Snap id → TellsSnap x k y → y.least ≡ least_of seen.least id → homes ≡ c.homes → OpensSnap (lines_of (home_in homes) x.keys.now []) (max at.latest x.least) s.snap → OpensKind c at seen s k
opens_snap c at seen (kind.Calling (op.Snap keys)) id s x y homes e h l m o =
    let same : id ≡ service_of (op.Snap keys) = sym (snaps e) in
    subst (λ (ls : List Line). OpensSnap ls (max at.latest (least_of seen.least (service_of (op.Snap keys)))) s.snap) (ap (λ (r : List Key). lines_of (home_in c.homes) r []) h.keys)
    (subst (λ (hs : List ℕ). OpensSnap (lines_of (home_in hs) x.keys.now []) (max at.latest (least_of seen.least (service_of (op.Snap keys)))) s.snap) m
    (subst (λ (t : ℕ). OpensSnap (lines_of (home_in homes) x.keys.now []) (max at.latest t) s.snap) (h.least ∙ l ∙ ap (least_of seen.least) same) o))
  where
    snaps : {a b : ServiceId} → aim.Snap a ≡ aim.Snap b → a ≡ b
    snaps p = cc
opens_snap c at seen (kind.Calling (op.Read key)) id s x y homes e h l m o = tt
opens_snap c at seen (kind.Calling (op.Write key value)) id s x y homes e h l m o = tt
opens_snap c at seen (kind.Calling (op.Txn reads guard writes)) id s x y homes e h l m o = cc
opens_snap c at seen kind.Fencing id s x y homes e h l m o = tt
opens_snap c at seen (kind.Stubbing unsettled) id s x y homes e h l m o = tt

abbrev pub NeedsNone : Aim → Type 0
NeedsNone (aim.Read key) = ⊤
NeedsNone (aim.Write key value) = ⊤
NeedsNone aim.Fence = ⊤
NeedsNone aim.Stub = ⊤
NeedsNone (aim.Snap id) = ⊥
NeedsNone (aim.Txn id) = ⊥

pub opens_none : (c : Config) (at : Reading) (seen : Seen) (k : OwnerKind) (s : SpareView) (a : Aim) → aim_of k ≡ a → NeedsNone a → OpensKind c at seen s k
opens_none c at seen (kind.Calling (op.Read key)) s a e h = tt
opens_none c at seen (kind.Calling (op.Write key value)) s a e h = tt
opens_none c at seen (kind.Calling (op.Snap keys)) s a e h = absurd (subst NeedsNone (sym e) h)
opens_none c at seen (kind.Calling (op.Txn reads guard writes)) s a e h = absurd (subst NeedsNone (sym e) h)
opens_none c at seen kind.Fencing s a e h = tt
opens_none c at seen (kind.Stubbing unsettled) s a e h = tt

txn_some : (k : OwnerKind) (d : Doing) (id : ServiceId) → OwnerFits k d → aim_of k ≡ aim.Txn id → (0 < length (writes_in k)) × (length (reads_in k) ≤ 8) × (length (writes_in k) ≤ 8)
txn_some k d id h e = by k h.of_kind e
  where
    by : (j : OwnerKind) → KindFits j → aim_of j ≡ aim.Txn id → (0 < length (writes_in j)) × (length (reads_in j) ≤ 8) × (length (writes_in j) ≤ 8)
    by (kind.Calling (op.Txn reads guard writes)) f q = (omega (arith, f.few.1), f.few.0, f.few.2)
    by (kind.Calling (op.Read key)) f q = absurd (no q)
      where
        no : aim.Read key ≡ aim.Txn id → ⊥
        no p = cc
    by (kind.Calling (op.Write key value)) f q = absurd (no q)
      where
        no : aim.Write key value ≡ aim.Txn id → ⊥
        no p = cc
    by (kind.Calling (op.Snap keys)) f q = absurd (no q)
      where
        no : aim.Snap (service_of (op.Snap keys)) ≡ aim.Txn id → ⊥
        no p = cc
    by kind.Fencing f q = absurd (no q)
      where
        no : aim.Fence ≡ aim.Txn id → ⊥
        no p = cc
    by (kind.Stubbing unsettled) f q = absurd (no q)
      where
        no : aim.Stub ≡ aim.Txn id → ⊥
        no p = cc

pub txn_writes : (k : OwnerKind) (d : Doing) (id : ServiceId) → OwnerFits k d → aim_of k ≡ aim.Txn id → 0 < length (writes_in k)
txn_writes k d id h e = (txn_some k d id h e).0

pub txn_few_reads : (k : OwnerKind) (d : Doing) (id : ServiceId) → OwnerFits k d → aim_of k ≡ aim.Txn id → length (reads_in k) ≤ 8
txn_few_reads k d id h e = (txn_some k d id h e).1

pub txn_few_writes : (k : OwnerKind) (d : Doing) (id : ServiceId) → OwnerFits k d → aim_of k ≡ aim.Txn id → length (writes_in k) ≤ 8
txn_few_writes k d id h e = (txn_some k d id h e).2

snap_some : (k : OwnerKind) (d : Doing) (id : ServiceId) → OwnerFits k d → aim_of k ≡ aim.Snap id → (0 < length (keys_in k)) × (length (keys_in k) ≤ 8)
snap_some k d id h e = by k h.of_kind e
  where
    by : (j : OwnerKind) → KindFits j → aim_of j ≡ aim.Snap id → (0 < length (keys_in j)) × (length (keys_in j) ≤ 8)
    by (kind.Calling (op.Snap keys)) f q = (omega (arith, f.few.0), f.few.1)
    by (kind.Calling (op.Read key)) f q = absurd (no q)
      where
        no : aim.Read key ≡ aim.Snap id → ⊥
        no p = cc
    by (kind.Calling (op.Write key value)) f q = absurd (no q)
      where
        no : aim.Write key value ≡ aim.Snap id → ⊥
        no p = cc
    by (kind.Calling (op.Txn reads guard writes)) f q = absurd (no q)
      where
        no : aim.Txn (service_of (op.Txn reads guard writes)) ≡ aim.Snap id → ⊥
        no p = cc
    by kind.Fencing f q = absurd (no q)
      where
        no : aim.Fence ≡ aim.Snap id → ⊥
        no p = cc
    by (kind.Stubbing unsettled) f q = absurd (no q)
      where
        no : aim.Stub ≡ aim.Snap id → ⊥
        no p = cc

pub snap_keys : (k : OwnerKind) (d : Doing) (id : ServiceId) → OwnerFits k d → aim_of k ≡ aim.Snap id → 0 < length (keys_in k)
snap_keys k d id h e = (snap_some k d id h e).0

pub snap_few : (k : OwnerKind) (d : Doing) (id : ServiceId) → OwnerFits k d → aim_of k ≡ aim.Snap id → length (keys_in k) ≤ 8
snap_few k d id h e = (snap_some k d id h e).1

pub ruleset sessions = (opens_txn, opens_snap, opens_none, txn_writes, txn_few_reads, txn_few_writes, snap_keys, snap_few)

-- what holds where there was memory
pub map_ok : {T E : Type 0} (r : Result T E) (P Q : Type 0) → (P → Q) → OnOk r P → OnOk r Q
map_ok (Ok x) P Q f p = f p
map_ok (Err e) P Q f p = tt
