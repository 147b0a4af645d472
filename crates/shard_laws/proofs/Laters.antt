-- What holds from a state of a shard to every later one.
use Rattle.std.proofs.Common.{◌≡◌, ◌⊎◌, inl, inr, ℕ, ◌<◌, ◌≤◌, max, Bool, true, false, List, Option, Some, None, refl, sym, ◌∙◌, arith}
use Rattle.std.specs.Prelude.{IsFalse, if◌then◌else◌}
use Rattle.rss_names.specs.declared.attempt.Attempt.{Attempt}
use Rattle.rss_names.specs.declared.service.Key.{Key}
use Rattle.rss_wire.specs.declared.messages.Outcome.{Outcome}
use Rattle.rss_wire.specs.declared.messages.Request.{Request}
use Rattle.rss_wire.specs.declared.messages.Request.TheVariants.{Snapshot}
use Rattle.rss_wire.specs.declared.messages.Reply.{Reply}
use Rattle.rss_wire.specs.declared.messages.Reply.TheVariants as reply
use Rattle.rss_wire.specs.declared.messages.Skipped.{Skipped}
use Rattle.rss_wire.specs.declared.messages.Version.{Version}
use Rattle.rss_tables.specs.Attempts.{same_attempt}
use Rattle.rss_tables.specs.Locks.{LockHolder, is_tombstoned}
use Rattle.rss_tables.specs.Prepared.{PreparedWriter, prepared_of, blocking, named_blocking}
use Rattle.rss_tables.specs.ShardRow.{Shard, decision_in, is_clear, shard_after, shard_reply}
use Rattle.rss_tables.proofs.ShardLaws.{floor-rises, first-decision}
use Rattle.shard_laws.specs.Served.{served, IsReached}
use Rattle.shard_laws.specs.Entries.{entry_of, AreApart, held_by, prepared_by, holder_of}
use Rattle.shard_laws.specs.Locked.{AreExcluded, HoldsFor, IsGone}
use Rattle.shard_laws.specs.Changes.{KeepsOrLoses, IsGranted, IsSettled, IsPreparedBy}
use Rattle.shard_laws.specs.Later.{HoldsOrIsGone, IsPreparedOrGone, WasThereOrIsAbove}
use Rattle.shard_laws.proofs.Lists.{prepared_is}
use Rattle.shard_laws.proofs.Served.{served_keeps, reached_keeps}
use Rattle.shard_laws.proofs.Holding.{Holding, holding_opening, holding_after, coordinator_some}
use Rattle.shard_laws.proofs.Gone.{tombstoned_after, gone_after}
use Rattle.shard_laws.proofs.Fates.{holder_fate, held_from, prepared_fate, prepared_from}

pub holding : (sh : Shard) → IsReached sh → Holding sh
holding sh x = reached_keeps Holding holding_opening holding_after sh x

-- the floor
pub floor_later : (sh : Shard) (requests : List (ℕ × Request)) → sh.floor ≤ (served sh requests).floor
floor_later sh requests = served_keeps (λ (w : Shard). sh.floor ≤ w.floor) (λ w latest r h. let f = floor-rises w latest r in omega (arith, h, f)) sh requests (omega arith)

-- decisions
pub decision_later : (sh : Shard) (requests : List (ℕ × Request)) (a : Attempt) (o : Outcome) → decision_in sh.decisions a ≡ Some o → decision_in (served sh requests).decisions a ≡ Some o
decision_later sh requests a o h = served_keeps (λ (w : Shard). decision_in w.decisions a ≡ Some o) (λ w latest r e. first-decision w latest r a o e) sh requests h

-- tombstones
pub tombstoned_later : (sh : Shard) (requests : List (ℕ × Request)) (a : Attempt) → is_tombstoned sh.locks a ≡ true → is_tombstoned (served sh requests).locks a ≡ true
tombstoned_later sh requests a h = served_keeps (λ (w : Shard). is_tombstoned w.locks a ≡ true) (λ w latest r e. tombstoned_after w latest r a e) sh requests h

pub gone_later : (sh : Shard) (requests : List (ℕ × Request)) (a : Attempt) → IsGone sh a → IsGone (served sh requests) a
gone_later sh requests a h = served_keeps (λ (w : Shard). IsGone w a) (λ w latest r e. gone_after w latest r a e) sh requests h

-- who holds nothing is not prepared
unprepared_by : (sh : Shard) (a : Attempt) → Holding sh → holder_of sh.locks.holders a ≡ None → (o : Option PreparedWriter) → entry_of prepared_by sh.prepared a ≡ o → o ≡ None
unprepared_by sh a k n None e = refl
unprepared_by sh a k n (Some p) e =
    let q = coordinator_some (holder_of sh.locks.holders a) p.coordinator (k.prepared.hold a p e) in
    absurd (let x : ◌≡◌ {A = Option LockHolder} None (Some q.0) = sym n ∙ q.1 in cc)

pub tombstoned_gone : (sh : Shard) → IsReached sh → (a : Attempt) → is_tombstoned sh.locks a ≡ true → holder_of sh.locks.holders a ≡ None → IsGone sh a
tombstoned_gone sh x a t n = record {
  tombstoned = t;
  free = n;
  unprepared = prepared_is sh.prepared a ∙ unprepared_by sh a (holding sh x) n (entry_of prepared_by sh.prepared a) refl;
}

-- holders, with what holds of the state
record Held (h : LockHolder) (w : Shard) : Type 0 where
  pub state : Holding w
  fate : HoldsOrIsGone w h

held_after : (h : LockHolder) (w : Shard) (latest : ℕ) (r : Request) → Held h w → Held h (shard_after w latest r)
held_after h w latest r k = record { state = holding_after w latest r k.state; fate = by_fate k.fate }
  where
    by_step : KeepsOrLoses w (shard_after w latest r) r h → HoldsOrIsGone (shard_after w latest r) h
    by_step (inl e) = inl e
    by_step (inr l) = inr l.gone

    by_fate : HoldsOrIsGone w h → HoldsOrIsGone (shard_after w latest r) h
    by_fate (inl e) = by_step (holder_fate w latest r k.state h e)
    by_fate (inr g) = inr (gone_after w latest r h.attempt g)

pub held_later : (sh : Shard) → IsReached sh → (requests : List (ℕ × Request)) (h : LockHolder) → holder_of sh.locks.holders h.attempt ≡ Some h → HoldsOrIsGone (served sh requests) h
held_later sh x requests h e = (served_keeps (Held h) (held_after h) sh requests record { state = holding sh x; fate = inl e }).fate

-- prepared attempts
record Stays (p : PreparedWriter) (w : Shard) : Type 0 where
  pub state : Holding w
  fate : (entry_of prepared_by w.prepared p.attempt ≡ Some p) ⊎ IsGone w p.attempt

stays_after : (p : PreparedWriter) (w : Shard) (latest : ℕ) (r : Request) → Stays p w → Stays p (shard_after w latest r)
stays_after p w latest r k = record { state = holding_after w latest r k.state; fate = by_fate k.fate }
  where
    by_step : (entry_of prepared_by (shard_after w latest r).prepared p.attempt ≡ Some p) ⊎ IsSettled (shard_after w latest r) r p.attempt → (entry_of prepared_by (shard_after w latest r).prepared p.attempt ≡ Some p) ⊎ IsGone (shard_after w latest r) p.attempt
    by_step (inl e) = inl e
    by_step (inr l) = inr l.gone

    by_fate : (entry_of prepared_by w.prepared p.attempt ≡ Some p) ⊎ IsGone w p.attempt → (entry_of prepared_by (shard_after w latest r).prepared p.attempt ≡ Some p) ⊎ IsGone (shard_after w latest r) p.attempt
    by_fate (inl e) = by_step (prepared_fate w latest r k.state p e)
    by_fate (inr g) = inr (gone_after w latest r p.attempt g)

by_tables : (w : Shard) (p : PreparedWriter) → (entry_of prepared_by w.prepared p.attempt ≡ Some p) ⊎ IsGone w p.attempt → IsPreparedOrGone w p
by_tables w p (inl e) = inl (prepared_is w.prepared p.attempt ∙ e)
by_tables w p (inr g) = inr g

pub prepared_later : (sh : Shard) → IsReached sh → (requests : List (ℕ × Request)) (p : PreparedWriter) → prepared_of sh.prepared p.attempt ≡ Some p → IsPreparedOrGone (served sh requests) p
prepared_later sh x requests p e = by_tables (served sh requests) p (served_keeps (Stays p) (stays_after p) sh requests record { state = holding sh x; fate = inl (sym (prepared_is sh.prepared p.attempt) ∙ e) }).fate

-- entries of later states
pub record Since (sh w : Shard) : Type 0 where
  pub state : Holding w
  pub floor : sh.floor ≤ w.floor
  pub each : (p : PreparedWriter) → entry_of prepared_by w.prepared p.attempt ≡ Some p → (entry_of prepared_by sh.prepared p.attempt ≡ Some p) ⊎ (sh.floor < p.prepare_time)

pub since_after : (sh w : Shard) (latest : ℕ) (r : Request) → Since sh w → Since sh (shard_after w latest r)
since_after sh w latest r k = record {
  state = holding_after w latest r k.state;
  floor = (let f = floor-rises w latest r in omega (arith, k.floor, f));
  each = λ p e. by_step p (prepared_from w latest r k.state p e);
}
  where
    by_step : (p : PreparedWriter) → (entry_of prepared_by w.prepared p.attempt ≡ Some p) ⊎ IsPreparedBy w latest r p → (entry_of prepared_by sh.prepared p.attempt ≡ Some p) ⊎ (sh.floor < p.prepare_time)
    by_step p (inl e) = k.each p e
    by_step p (inr n) = inr (let a = n.above_floor in omega (arith, k.floor, a))

above_tables : (sh : Shard) (p : PreparedWriter) → (entry_of prepared_by sh.prepared p.attempt ≡ Some p) ⊎ (sh.floor < p.prepare_time) → WasThereOrIsAbove sh p
above_tables sh p (inl e) = inl (prepared_is sh.prepared p.attempt ∙ e)
above_tables sh p (inr l) = inr l

pub since_served : (sh : Shard) → IsReached sh → (requests : List (ℕ × Request)) (p : PreparedWriter) → prepared_of (served sh requests).prepared p.attempt ≡ Some p → WasThereOrIsAbove sh p
since_served sh x requests p e =
    let s = served_keeps (Since sh) (since_after sh) sh requests record { state = holding sh x; floor = omega arith; each = λ q f. inl f } in
    above_tables sh p (s.each p (sym (prepared_is (served sh requests).prepared p.attempt) ∙ e))

-- the laws of single requests, in the tables' words
pub prepared_hold_for : (sh : Shard) → IsReached sh → (p : PreparedWriter) → prepared_of sh.prepared p.attempt ≡ Some p → HoldsFor sh p.attempt p.coordinator
prepared_hold_for sh x p e =
    let q = coordinator_some (holder_of sh.locks.holders p.attempt) p.coordinator ((holding sh x).prepared.hold p.attempt p (sym (prepared_is sh.prepared p.attempt) ∙ e)) in
    record { holder = q.0; holds = q.1; same = q.2 }

pub exclude : (sh : Shard) → IsReached sh → (h g : LockHolder) → holder_of sh.locks.holders h.attempt ≡ Some h → holder_of sh.locks.holders g.attempt ≡ Some g → IsFalse (same_attempt h.attempt g.attempt) → AreExcluded h g
exclude sh x h g e f n = (holding sh x).locks.excluded h.attempt g.attempt h g e f n

by_request : (sh : Shard) (latest : ℕ) (r : Request) (p : PreparedWriter) → (entry_of prepared_by sh.prepared p.attempt ≡ Some p) ⊎ IsPreparedBy sh latest r p → (prepared_of sh.prepared p.attempt ≡ Some p) ⊎ IsPreparedBy sh latest r p
by_request sh latest r p (inl e) = inl (prepared_is sh.prepared p.attempt ∙ e)
by_request sh latest r p (inr i) = inr i

pub prepared_by_request : (sh : Shard) → IsReached sh → (latest : ℕ) (r : Request) (p : PreparedWriter) → prepared_of (shard_after sh latest r).prepared p.attempt ≡ Some p → (prepared_of sh.prepared p.attempt ≡ Some p) ⊎ IsPreparedBy sh latest r p
prepared_by_request sh x latest r p e = by_request sh latest r p (prepared_from sh latest r (holding sh x) p (sym (prepared_is (shard_after sh latest r).prepared p.attempt) ∙ e))

settled_tables : (w : Shard) (r : Request) (p : PreparedWriter) → (entry_of prepared_by w.prepared p.attempt ≡ Some p) ⊎ IsSettled w r p.attempt → (prepared_of w.prepared p.attempt ≡ Some p) ⊎ IsSettled w r p.attempt
settled_tables w r p (inl e) = inl (prepared_is w.prepared p.attempt ∙ e)
settled_tables w r p (inr i) = inr i

pub prepared_till_settled : (sh : Shard) → IsReached sh → (latest : ℕ) (r : Request) (p : PreparedWriter) → prepared_of sh.prepared p.attempt ≡ Some p → (prepared_of (shard_after sh latest r).prepared p.attempt ≡ Some p) ⊎ IsSettled (shard_after sh latest r) r p.attempt
prepared_till_settled sh x latest r p e = settled_tables (shard_after sh latest r) r p (prepared_fate sh latest r (holding sh x) p (sym (prepared_is sh.prepared p.attempt) ∙ e))

-- an answered snapshot raises the floor
pub answered_floor : (sh : Shard) (latest read_time least : ℕ) (keys : List Key) (skip : Bool) (versions : List (Key × Version)) (skipped : List Skipped) → shard_reply sh latest (Snapshot read_time least keys skip) ≡ reply.Values versions skipped → read_time ≤ (shard_after sh latest (Snapshot read_time least keys skip)).floor
unfolding shard_reply shard_after
answered_floor sh latest read_time least keys skip versions skipped e = by_test (is_clear sh keys read_time least skip) refl
  where
    by_test : (b : Bool) → is_clear sh keys read_time least skip ≡ b → read_time ≤ (if is_clear sh keys read_time least skip then record sh { floor = max sh.floor read_time } else sh).floor
    by_test true f = rw f (omega arith)
    by_test false f = absurd (let x : ◌≡◌ {A = Reply} (reply.Blocked (named_blocking (blocking sh.prepared keys read_time least skip))) (reply.Values versions skipped) = rw f at e in cc)

pub held_once : (sh : Shard) → IsReached sh → AreApart held_by sh.locks.holders
held_once sh x = (holding sh x).locks.apart

pub prepared_once : (sh : Shard) → IsReached sh → AreApart prepared_by sh.prepared
prepared_once sh x = (holding sh x).prepared.apart

pub granted_by_request : (sh : Shard) → IsReached sh → (latest : ℕ) (r : Request) (h : LockHolder) → holder_of (shard_after sh latest r).locks.holders h.attempt ≡ Some h → (holder_of sh.locks.holders h.attempt ≡ Some h) ⊎ IsGranted sh r h
granted_by_request sh x latest r h e = held_from sh latest r (holding sh x) h e

pub kept_or_lost : (sh : Shard) → IsReached sh → (latest : ℕ) (r : Request) (h : LockHolder) → holder_of sh.locks.holders h.attempt ≡ Some h → KeepsOrLoses sh (shard_after sh latest r) r h
kept_or_lost sh x latest r h e = holder_fate sh latest r (holding sh x) h e
