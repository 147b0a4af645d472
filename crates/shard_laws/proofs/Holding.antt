-- What holds of the locks and the prepared writers of every state of a shard.
use Rattle.std.proofs.Common.{◌≡◌, ℕ, Bool, true, false, not, ◌&&◌, List, [], ◌∷◌, ◌++◌, length, Option, Some, None, is_some, refl, sym, ap, ◌∙◌, subst}
use Rattle.std.specs.Prelude.{◌==◌, if◌then◌else◌}
use Rattle.std.specs.List.{filter}
use Rattle.std.proofs.lemmas.Bool.{cond_both, and_parts, and_right, false_from_ne_true, not_from_true, not_from_false, not-true}
use Rattle.rss_names.specs.declared.attempt.Attempt.{Attempt}
use Rattle.rss_names.specs.declared.service.Key.{Key}
use Rattle.rss_wire.specs.declared.messages.Request.{Request}
use Rattle.rss_wire.specs.declared.messages.Outcome.{Outcome}
use Rattle.rss_tables.specs.Attempts.{same_attempt, has_attempt, is_younger}
use Rattle.rss_tables.specs.Locks.{LockHolder, Locks, holds, conflicts, is_wounded_by, in_way_of, with_holder, after_wounds, taken}
use Rattle.rss_tables.specs.Prepared.{PreparedWriter, prepared_of, prepared_attempts, with_prepared}
use Rattle.rss_tables.specs.ShardRow.{Shard, opening_shard, decision_in, keeps_decision, can_release, releases, releases_last, shard_after}
use Rattle.shard_laws.specs.Entries.{entry_of, AreApart, held_by, prepared_by, holder_of}
use Rattle.shard_laws.proofs.Cases.{cases, entry_now}
use Rattle.shard_laws.proofs.Entries.{kept, found_at, found_kept, apart_kept, found_put, apart_put, kept_some, named_is, same_is}
use Rattle.shard_laws.proofs.Lists.{prepared_is, with_prepared_is, holds_is, coordinator_of, coordinator_is, not_some}
use Rattle.shard_laws.proofs.Excludes.{Excludes, excludes_none, excludes_kept, excludes_locks, holder_put, is_spared}

-- prepared writers have one entry each, and hold
pub record PreparedHold (hs : List LockHolder) (ps : List PreparedWriter) : Type 0 where
  pub apart : AreApart prepared_by ps
  pub hold : (a : Attempt) (p : PreparedWriter) → entry_of prepared_by ps a ≡ Some p → coordinator_of (holder_of hs a) ≡ Some p.coordinator

pub record Holding (sh : Shard) : Type 0 where
  pub locks : Excludes sh.locks.holders
  pub prepared : PreparedHold sh.locks.holders sh.prepared

pub coordinator_some : (o : Option LockHolder) (c : ℕ) → coordinator_of o ≡ Some c → (h : LockHolder) × (o ≡ Some h) × (h.coordinator ≡ c)
coordinator_some None c e = absurd (let x : ◌≡◌ {A = Option ℕ} None (Some c) = e in cc)
coordinator_some (Some h) c e = (h, refl, let x : ◌≡◌ {A = Option ℕ} (Some h.coordinator) (Some c) = e in cc)

-- a prepared attempt is spared
pub spared : (hs : List LockHolder) (ps : List PreparedWriter) (attempt : Attempt) (reads writes : List Key) (a : Attempt) (p : PreparedWriter) (h : LockHolder) → entry_of prepared_by ps a ≡ Some p → holder_of hs a ≡ Some h → is_spared (prepared_attempts ps) attempt reads writes h ≡ true
spared hs ps attempt reads writes a p h e f =
    let i : has_attempt (prepared_attempts ps) h.attempt ≡ true = ap (has_attempt (prepared_attempts ps)) (found_at held_by hs a h f) ∙ named_is prepared_by ps a ∙ ap is_some e in
    not_from_false (is_wounded_by (prepared_attempts ps) attempt reads writes h)
    (and_right (conflicts attempt reads writes h && is_younger h.attempt attempt) (not (has_attempt (prepared_attempts ps) h.attempt)) (not_from_true (has_attempt (prepared_attempts ps) h.attempt) i))

-- those that are held of holders that a test keeps
pub hold_kept : (test : LockHolder → Bool) (hs : List LockHolder) → AreApart held_by hs → (a : Attempt) (h : LockHolder) → holder_of hs a ≡ Some h → test h ≡ true → holder_of (filter test hs) a ≡ Some h
hold_kept test hs x a h e t = found_kept held_by test hs a x ∙ ap (kept test) e ∙ ap (λ (b : Bool). if b then Some h else None) t

pub prepared_locks : (locks : Locks) (ps : List PreparedWriter) (new : LockHolder) → Excludes locks.holders → PreparedHold locks.holders ps → holder_of locks.holders new.attempt ≡ None → PreparedHold (taken (after_wounds locks (prepared_attempts ps) new.attempt new.reads new.writes) new).holders ps
prepared_locks locks ps new x y n = record { apart = y.apart; hold = λ a p e. one a p e (coordinator_some (holder_of locks.holders a) p.coordinator (y.hold a p e)) }
  where
    test : LockHolder → Bool
    test = is_spared (prepared_attempts ps) new.attempt new.reads new.writes

    none : holder_of (filter test locks.holders) new.attempt ≡ None
    none = found_kept held_by test locks.holders new.attempt x.apart ∙ ap (kept test) n

    one : (a : Attempt) (p : PreparedWriter) → entry_of prepared_by ps a ≡ Some p → (h : LockHolder) × (holder_of locks.holders a ≡ Some h) × (h.coordinator ≡ p.coordinator) → coordinator_of (holder_of (taken (after_wounds locks (prepared_attempts ps) new.attempt new.reads new.writes) new).holders a) ≡ Some p.coordinator
    one a p e q =
        let stays : holder_of (filter test locks.holders) a ≡ Some q.0 = hold_kept test locks.holders x.apart a q.0 q.1 (spared locks.holders ps new.attempt new.reads new.writes a p q.0 e q.1) in
        let other : same_attempt a new.attempt ≡ false = false_from_ne_true (same_attempt a new.attempt)
        (λ i. let z : ◌≡◌ {A = Option LockHolder} None (Some q.0) = sym n ∙ ap (holder_of locks.holders) (sym (same_is a new.attempt i)) ∙ q.1 in absurd cc) in
        let put : holder_of (with_holder (filter test locks.holders) new) a ≡ Some q.0 = holder_put (filter test locks.holders) new a none ∙ ap (λ (b : Bool). if b then Some new else holder_of (filter test locks.holders) a) other ∙ stays in
        cond_both (length (in_way_of (after_wounds locks (prepared_attempts ps) new.attempt new.reads new.writes) new.attempt new.reads new.writes) == 0)
        (record (after_wounds locks (prepared_attempts ps) new.attempt new.reads new.writes) { holders = with_holder (filter test locks.holders) new }) (after_wounds locks (prepared_attempts ps) new.attempt new.reads new.writes)
        (λ (l : Locks). coordinator_of (holder_of l.holders a) ≡ Some p.coordinator)
        (λ f. ap coordinator_of put ∙ ap Some q.2) (λ f. ap coordinator_of stays ∙ ap Some q.2)

pub entry_put : (ps : List PreparedWriter) (new : PreparedWriter) (a : Attempt) → entry_of prepared_by ps new.attempt ≡ None → entry_of prepared_by (with_prepared ps new) a ≡ (if same_attempt a new.attempt then Some new else entry_of prepared_by ps a)
entry_put ps new a n = ap (λ (l : List PreparedWriter). entry_of prepared_by l a) (with_prepared_is ps new) ∙ found_put prepared_by ps new a n

pub prepared_more : (hs : List LockHolder) (ps : List PreparedWriter) (new : PreparedWriter) → PreparedHold hs ps → entry_of prepared_by ps new.attempt ≡ None → coordinator_of (holder_of hs new.attempt) ≡ Some new.coordinator → PreparedHold hs (with_prepared ps new)
prepared_more hs ps new y n c = record {
  apart = subst (AreApart prepared_by) (sym (with_prepared_is ps new)) (apart_put prepared_by ps new y.apart n);
  hold = λ a p e. one a p (same_attempt a new.attempt) refl (sym (entry_put ps new a n) ∙ e);
}
  where
    one : (a : Attempt) (p : PreparedWriter) (b : Bool) → same_attempt a new.attempt ≡ b → (if b then Some new else entry_of prepared_by ps a) ≡ Some p → coordinator_of (holder_of hs a) ≡ Some p.coordinator
    one a p true i e =
        let x : ◌≡◌ {A = Option PreparedWriter} (Some new) (Some p) = e in
        let z : new ≡ p = cc in
        ap (λ (t : Attempt). coordinator_of (holder_of hs t)) (same_is a new.attempt i) ∙ c ∙ ap (λ (t : PreparedWriter). Some t.coordinator) z
    one a p false i e = y.hold a p e

-- one leaves that is not prepared, or is prepared no more
abbrev pub is_other_holder : Attempt → LockHolder → Bool
is_other_holder attempt h = not (same_attempt attempt h.attempt)

abbrev pub is_other_writer : Attempt → PreparedWriter → Bool
is_other_writer attempt p = not (same_attempt attempt p.attempt)

-- others hold on where one leaves
pub others_hold : (hs : List LockHolder) (attempt a : Attempt) (c : ℕ) → AreApart held_by hs → same_attempt attempt a ≡ false → coordinator_of (holder_of hs a) ≡ Some c → coordinator_of (holder_of (filter (is_other_holder attempt) hs) a) ≡ Some c
others_hold hs attempt a c x o e =
    let q = coordinator_some (holder_of hs a) c e in
    let t : is_other_holder attempt q.0 ≡ true = ap (λ (z : Attempt). not (same_attempt attempt z)) (found_at held_by hs a q.0 q.1) ∙ ap not o in
    ap coordinator_of (hold_kept (is_other_holder attempt) hs x a q.0 q.1 t) ∙ ap Some q.2

pub prepared_fewer : (hs : List LockHolder) (ps : List PreparedWriter) (attempt : Attempt) → Excludes hs → PreparedHold hs ps → PreparedHold (filter (is_other_holder attempt) hs) (filter (is_other_writer attempt) ps)
prepared_fewer hs ps attempt x y = record { apart = apart_kept prepared_by (is_other_writer attempt) ps y.apart; hold = one }
  where
    one : (a : Attempt) (p : PreparedWriter) → entry_of prepared_by (filter (is_other_writer attempt) ps) a ≡ Some p → coordinator_of (holder_of (filter (is_other_holder attempt) hs) a) ≡ Some p.coordinator
    one a p e =
        let q = kept_some prepared_by (is_other_writer attempt) (entry_of prepared_by ps a) p (sym (found_kept prepared_by (is_other_writer attempt) ps a y.apart) ∙ e) in
        let o : same_attempt attempt a ≡ false = ap (same_attempt attempt) (sym (found_at prepared_by ps a p q.0)) ∙ not-true (same_attempt attempt p.attempt) q.1 in
        others_hold hs attempt a p.coordinator x.apart o (y.hold a p q.0)

pub prepared_left : (hs : List LockHolder) (ps : List PreparedWriter) (attempt : Attempt) → Excludes hs → PreparedHold hs ps → entry_of prepared_by ps attempt ≡ None → PreparedHold (filter (is_other_holder attempt) hs) ps
prepared_left hs ps attempt x y n = record { apart = y.apart; hold = one }
  where
    one : (a : Attempt) (p : PreparedWriter) → entry_of prepared_by ps a ≡ Some p → coordinator_of (holder_of (filter (is_other_holder attempt) hs) a) ≡ Some p.coordinator
    one a p e =
        let o : same_attempt attempt a ≡ false = false_from_ne_true (same_attempt attempt a)
        (λ i. let z : ◌≡◌ {A = Option PreparedWriter} None (Some p) = sym n ∙ ap (entry_of prepared_by ps) (same_is attempt a i) ∙ e in absurd cc) in
        others_hold hs attempt a p.coordinator x.apart o (y.hold a p e)

-- decisions change nothing else
pub only_decides : (P : Locks → List PreparedWriter → Type 0) (sh : Shard) (attempt : Attempt) (outcome : Outcome) → P sh.locks sh.prepared → P (keeps_decision sh attempt outcome).locks (keeps_decision sh attempt outcome).prepared
only_decides P sh attempt outcome h = cond_both (is_some (decision_in sh.decisions attempt)) sh (record sh { decisions = sh.decisions ++ (attempt, outcome) ∷ [] }) (λ (s : Shard). P s.locks s.prepared) (λ e. h) (λ e. h)

-- what can be released holds and is not prepared
pub released_is : (sh : Shard) (attempt : Attempt) → can_release sh attempt ≡ true → (holds sh.locks attempt ≡ true) × (entry_of prepared_by sh.prepared attempt ≡ None)
released_is sh attempt e =
    let p = and_parts (not (has_attempt sh.released attempt) && holds sh.locks attempt) (not (is_some (prepared_of sh.prepared attempt))) e in
    let q = and_parts (not (has_attempt sh.released attempt)) (holds sh.locks attempt) p.0 in
    (q.1, sym (prepared_is sh.prepared attempt) ∙ not_some (prepared_of sh.prepared attempt) (not-true (is_some (prepared_of sh.prepared attempt)) p.1))

pub not_holding : (sh : Shard) (attempt : Attempt) → holds sh.locks attempt ≡ false → holder_of sh.locks.holders attempt ≡ None
not_holding sh attempt e = not_some (holder_of sh.locks.holders attempt) (sym (holds_is sh.locks.holders attempt) ∙ e)

pub holding_after : (sh : Shard) (latest : ℕ) (r : Request) → Holding sh → Holding (shard_after sh latest r)
holding_after sh latest r k = cases sh latest r Holding record {
  rest = k;
  locks = λ new i t n. let none = not_holding sh new.attempt n in record { locks = excludes_locks sh.locks (prepared_attempts sh.prepared) new k.locks none; prepared = prepared_locks sh.locks sh.prepared new k.locks k.prepared none };
  prepares = λ a l e w c i n g. record {
    locks = k.locks;
    prepared = prepared_more sh.locks.holders sh.prepared (entry_now sh latest a l e w c) k.prepared (sym (prepared_is sh.prepared a) ∙ not_some (prepared_of sh.prepared a) n) (sym (coordinator_is sh.locks.holders a) ∙ g);
  };
  decides = λ a b t i. both (only_decides (λ (l : Locks) (ps : List PreparedWriter). Excludes l.holders × PreparedHold l.holders ps) sh a _ (k.locks, k.prepared));
  commits = λ a t p i f. record { locks = excludes_kept (is_other_holder a) sh.locks.holders k.locks; prepared = prepared_fewer sh.locks.holders sh.prepared a k.locks k.prepared };
  buries = λ a t i f. record { locks = k.locks; prepared = k.prepared };
  aborts = λ a i. record { locks = excludes_kept (is_other_holder a) sh.locks.holders k.locks; prepared = prepared_fewer sh.locks.holders sh.prepared a k.locks k.prepared };
  releases = λ a t last i e. released a t last (released_is sh a e).1;
  reads = λ t l ks s i e. record { locks = k.locks; prepared = k.prepared };
}
  where
    both : {w : Shard} → Excludes w.locks.holders × PreparedHold w.locks.holders w.prepared → Holding w
    both p = record { locks = p.0; prepared = p.1 }

    released : (a : Attempt) (t : ℕ) (last : Bool) → entry_of prepared_by sh.prepared a ≡ None → Holding (releases_last (releases sh a t) a last)
    released a t true n = both (only_decides (λ (l : Locks) (ps : List PreparedWriter). Excludes l.holders × PreparedHold l.holders ps) (releases sh a t) a _ (excludes_kept (is_other_holder a) sh.locks.holders k.locks, prepared_left sh.locks.holders sh.prepared a k.locks k.prepared n))
    released a t false n = record { locks = excludes_kept (is_other_holder a) sh.locks.holders k.locks; prepared = prepared_left sh.locks.holders sh.prepared a k.locks k.prepared n }

pub holding_opening : (keys : List Key) → Holding (opening_shard keys)
holding_opening keys = record {
  locks = excludes_none;
  prepared = record { apart = tt; hold = λ a p e. absurd (let x : ◌≡◌ {A = Option PreparedWriter} None (Some p) = e in cc) };
}
