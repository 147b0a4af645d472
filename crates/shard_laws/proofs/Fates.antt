-- What becomes of who holds locks and of who is prepared, request by request.
use Rattle.std.proofs.Common.{◌≡◌, ◌⊎◌, inl, inr, ℕ, ◌<◌, ◌≤◌, Bool, true, false, not, ◌&&◌, List, length, Option, Some, None, is_some, refl, sym, ap, ◌∙◌, subst, arith}
use Rattle.std.specs.Prelude.{◌==◌, if◌then◌else◌}
use Rattle.std.specs.List.{filter}
use Rattle.std.proofs.lemmas.Bool.{cond_both, false_from_ne_true, and_parts, not-true, cases_Bool}
use Rattle.rss_names.specs.declared.attempt.Attempt.{Attempt}
use Rattle.rss_names.specs.declared.service.Key.{Key}
use Rattle.rss_wire.specs.declared.messages.Request.{Request}
use Rattle.rss_wire.specs.declared.messages.Outcome.TheVariants.{Aborted}
use Rattle.rss_wire.specs.declared.messages.Request.TheVariants.{Lock, Prepare}
use Rattle.rss_tables.specs.Attempts.{same_attempt, has_attempt, is_younger, with_attempt}
use Rattle.rss_tables.specs.Locks.{LockHolder, Locks, holds, is_tombstoned, conflicts, in_the_way, in_way_of, is_wounded_by, with_holder, after_wounds, attempts_of, wounded_by, taken}
use Rattle.rss_tables.specs.Prepared.{PreparedWriter, prepared_of, prepared_attempts}
use Rattle.rss_tables.specs.ShardRow.{Shard, prepare_time, keeps_decision, commits, tombstones, aborts, releases, releases_last, shard_after}
use Rattle.shard_laws.specs.Entries.{entry_of, AreApart, held_by, prepared_by, holder_of}
use Rattle.shard_laws.specs.Changes.{settles, frees, KeepsOrLoses, IsGranted, IsSettled, IsPreparedBy}
use Rattle.shard_laws.proofs.Cases.{cases, entry_now}
use Rattle.shard_laws.proofs.Entries.{kept, found_at, found_kept, kept_some, named_is, same_is}
use Rattle.shard_laws.proofs.Lists.{prepared_is, not_some, joined, buried}
use Rattle.shard_laws.proofs.Excludes.{Excludes, holder_kept, holder_put, holder_put_cases, is_spared}
use Rattle.shard_laws.proofs.Holding.{Holding, entry_put, only_decides, is_other_holder, is_other_writer, not_holding, hold_kept, released_is}
use Rattle.shard_laws.proofs.Gone.{Done, done_gone, none_kept, tombs_after}

-- which holders there are after a request for locks
pub record AskedFor (locks : Locks) (prepared : List Attempt) (new h : LockHolder) : Type 0 where
  pub there : holder_of locks.holders h.attempt ≡ Some h
  pub unwounded : is_wounded_by prepared new.attempt new.reads new.writes h ≡ false

pub asked_for : (locks : Locks) (prepared : List Attempt) (new : LockHolder) → Excludes locks.holders → holder_of locks.holders new.attempt ≡ None → (a : Attempt) (h : LockHolder) → holder_of (taken (after_wounds locks prepared new.attempt new.reads new.writes) new).holders a ≡ Some h → (h ≡ new) ⊎ AskedFor locks prepared new h
asked_for locks prepared new x n a h =
    cond_both (length (in_way_of (after_wounds locks prepared new.attempt new.reads new.writes) new.attempt new.reads new.writes) == 0)
    (record (after_wounds locks prepared new.attempt new.reads new.writes) { holders = with_holder (after_wounds locks prepared new.attempt new.reads new.writes).holders new }) (after_wounds locks prepared new.attempt new.reads new.writes)
    (λ (l : Locks). holder_of l.holders a ≡ Some h → (h ≡ new) ⊎ AskedFor locks prepared new h)
    (λ e f. by_cases (holder_put_cases (filter (is_spared prepared new.attempt new.reads new.writes) locks.holders) new a h (none_kept held_by (is_spared prepared new.attempt new.reads new.writes) locks.holders new.attempt n) f))
    (λ e f. inr (old f))
  where
    old : holder_of (filter (is_spared prepared new.attempt new.reads new.writes) locks.holders) a ≡ Some h → AskedFor locks prepared new h
    old f =
        let q = holder_kept (is_spared prepared new.attempt new.reads new.writes) locks.holders x.apart a h f in
        record { there = ap (holder_of locks.holders) (found_at held_by locks.holders a h q.0) ∙ q.0; unwounded = not-true (is_wounded_by prepared new.attempt new.reads new.writes h) q.1 }

    by_cases : ((a ≡ new.attempt) × (h ≡ new)) ⊎ (holder_of (filter (is_spared prepared new.attempt new.reads new.writes) locks.holders) a ≡ Some h) → (h ≡ new) ⊎ AskedFor locks prepared new h
    by_cases (inl p) = inl p.1
    by_cases (inr f) = inr (old f)

-- who has locks was granted them by the request, or had them
pub held_from : (sh : Shard) (latest : ℕ) (r : Request) → Holding sh → (h : LockHolder) → holder_of (shard_after sh latest r).locks.holders h.attempt ≡ Some h → (holder_of sh.locks.holders h.attempt ≡ Some h) ⊎ IsGranted sh r h
held_from sh latest r k h = cases sh latest r (λ (w : Shard). holder_of w.locks.holders h.attempt ≡ Some h → (holder_of sh.locks.holders h.attempt ≡ Some h) ⊎ IsGranted sh r h) record {
  rest = λ e. inl e;
  locks = λ new i t n e. asked new i t n (asked_for sh.locks (prepared_attempts sh.prepared) new k.locks (not_holding sh new.attempt n) h.attempt h e);
  prepares = λ b l e w c i n g f. inl f;
  decides = λ b c t i. only_decides (λ (l : Locks) (ps : List PreparedWriter). holder_of l.holders h.attempt ≡ Some h → (holder_of sh.locks.holders h.attempt ≡ Some h) ⊎ IsGranted sh r h) sh b _ (λ e. inl e);
  commits = λ b t p i f e. inl (holder_kept (is_other_holder b) sh.locks.holders k.locks.apart h.attempt h e).0;
  buries = λ b t i f e. inl e;
  aborts = λ b i e. inl (holder_kept (is_other_holder b) sh.locks.holders k.locks.apart h.attempt h e).0;
  releases = λ b t last i e. released b t last;
  reads = λ t l ks s i e f. inl f;
}
  where
    asked : (new : LockHolder) → r ≡ Lock new.attempt new.coordinator new.reads new.writes → is_tombstoned sh.locks new.attempt ≡ false → holds sh.locks new.attempt ≡ false → (h ≡ new) ⊎ AskedFor sh.locks (prepared_attempts sh.prepared) new h → (holder_of sh.locks.holders h.attempt ≡ Some h) ⊎ IsGranted sh r h
    asked new i t n (inl e) = inr (subst (IsGranted sh r) (sym e) record { asks = i; untombstoned = t; free = not_holding sh new.attempt n })
    asked new i t n (inr e) = inl e.there

    released : (b : Attempt) (t : ℕ) (last : Bool) → holder_of (releases_last (releases sh b t) b last).locks.holders h.attempt ≡ Some h → (holder_of sh.locks.holders h.attempt ≡ Some h) ⊎ IsGranted sh r h
    released b t true = only_decides (λ (l : Locks) (ps : List PreparedWriter). holder_of l.holders h.attempt ≡ Some h → (holder_of sh.locks.holders h.attempt ≡ Some h) ⊎ IsGranted sh r h) (releases sh b t) b _ (λ e. inl (holder_kept (is_other_holder b) sh.locks.holders k.locks.apart h.attempt h e).0)
    released b t false = λ e. inl (holder_kept (is_other_holder b) sh.locks.holders k.locks.apart h.attempt h e).0

-- an attempt that leaves is done with
pub left_done : (hs : List LockHolder) (ts : List Attempt) (ps : List PreparedWriter) (a b : Attempt) → AreApart held_by hs → same_attempt b a ≡ true → entry_of prepared_by ps a ≡ None → Done a record { holders = filter (is_other_holder b) hs; tombs = with_attempt ts b } ps
left_done hs ts ps a b x e n = record { tombstoned = there; free = free; unprepared = n }
  where
    there : has_attempt (with_attempt ts b) a ≡ true
    there = ap (has_attempt (with_attempt ts b)) (sym (same_is b a e)) ∙ joined ts b

    by_holder : (o : Option LockHolder) → holder_of hs a ≡ o → kept (is_other_holder b) o ≡ None
    by_holder None f = refl
    by_holder (Some h) f = ap (λ (t : Bool). if not t then Some h else None) (ap (same_attempt b) (found_at held_by hs a h f) ∙ e)

    free : holder_of (filter (is_other_holder b) hs) a ≡ None
    free = found_kept held_by (is_other_holder b) hs a x ∙ by_holder (holder_of hs a) refl

-- and so are those whose entry leaves too
left_writer : (ps : List PreparedWriter) (a b : Attempt) → AreApart prepared_by ps → same_attempt b a ≡ true → entry_of prepared_by (filter (is_other_writer b) ps) a ≡ None
left_writer ps a b x e = found_kept prepared_by (is_other_writer b) ps a x ∙ by_entry (entry_of prepared_by ps a) refl
  where
    by_entry : (o : Option PreparedWriter) → entry_of prepared_by ps a ≡ o → kept (is_other_writer b) o ≡ None
    by_entry None f = refl
    by_entry (Some p) f = ap (λ (t : Bool). if not t then Some p else None) (ap (same_attempt b) (found_at prepared_by ps a p f) ∙ e)

-- a holder stays, or is wounded, tombstoned and done with, where another attempt asks for locks
pub record Wounds (locks : Locks) (ps : List PreparedWriter) (after : Locks) (new h : LockHolder) : Type 0 where
  pub done : Done h.attempt after ps
  pub older : is_younger h.attempt new.attempt ≡ true
  pub in_its_way : in_the_way new.reads new.writes h.reads h.writes ≡ true

pub wounds : (locks : Locks) (ps : List PreparedWriter) (new : LockHolder) → Excludes locks.holders → holder_of locks.holders new.attempt ≡ None → (h : LockHolder) → holder_of locks.holders h.attempt ≡ Some h → (holder_of (taken (after_wounds locks (prepared_attempts ps) new.attempt new.reads new.writes) new).holders h.attempt ≡ Some h) ⊎ Wounds locks ps (taken (after_wounds locks (prepared_attempts ps) new.attempt new.reads new.writes) new) new h
wounds locks ps new x n h e = by_test (cases_Bool (wounded h))
  where
    wounded : LockHolder → Bool
    wounded = is_wounded_by (prepared_attempts ps) new.attempt new.reads new.writes

    spares : LockHolder → Bool
    spares = is_spared (prepared_attempts ps) new.attempt new.reads new.writes

    other : same_attempt h.attempt new.attempt ≡ false
    other = false_from_ne_true (same_attempt h.attempt new.attempt)
        (λ i. let z : ◌≡◌ {A = Option LockHolder} None (Some h) = sym n ∙ ap (holder_of locks.holders) (sym (same_is h.attempt new.attempt i)) ∙ e in absurd cc)

    none : holder_of (filter spares locks.holders) new.attempt ≡ None
    none = none_kept held_by spares locks.holders new.attempt n

    put : (o : Option LockHolder) → holder_of (filter spares locks.holders) h.attempt ≡ o → holder_of (taken (after_wounds locks (prepared_attempts ps) new.attempt new.reads new.writes) new).holders h.attempt ≡ o
    put o f = cond_both (length (in_way_of (after_wounds locks (prepared_attempts ps) new.attempt new.reads new.writes) new.attempt new.reads new.writes) == 0)
        (record (after_wounds locks (prepared_attempts ps) new.attempt new.reads new.writes) { holders = with_holder (filter spares locks.holders) new }) (after_wounds locks (prepared_attempts ps) new.attempt new.reads new.writes)
        (λ (l : Locks). holder_of l.holders h.attempt ≡ o)
        (λ g. holder_put (filter spares locks.holders) new h.attempt none ∙ ap (λ (b : Bool). if b then Some new else holder_of (filter spares locks.holders) h.attempt) other ∙ f) (λ g. f)

    lost : wounded h ≡ true → holder_of (filter spares locks.holders) h.attempt ≡ None
    lost t = found_kept held_by spares locks.holders h.attempt x.apart ∙ ap (kept spares) e ∙ ap (λ (b : Bool). if not b then Some h else None) t

    named : wounded h ≡ true → has_attempt (attempts_of (wounded_by locks (prepared_attempts ps) new.attempt new.reads new.writes)) h.attempt ≡ true
    named t = named_is held_by (filter wounded locks.holders) h.attempt ∙ ap is_some (hold_kept wounded locks.holders x.apart h.attempt h e t)

    unprepared : wounded h ≡ true → entry_of prepared_by ps h.attempt ≡ None
    unprepared t =
        let p = and_parts (conflicts new.attempt new.reads new.writes h && is_younger h.attempt new.attempt) (not (has_attempt (prepared_attempts ps) h.attempt)) t in
        not_some (entry_of prepared_by ps h.attempt) (sym (named_is prepared_by ps h.attempt) ∙ not-true (has_attempt (prepared_attempts ps) h.attempt) p.1)

    by_test : (wounded h ≡ true) ⊎ (wounded h ≡ false) → (holder_of (taken (after_wounds locks (prepared_attempts ps) new.attempt new.reads new.writes) new).holders h.attempt ≡ Some h) ⊎ Wounds locks ps (taken (after_wounds locks (prepared_attempts ps) new.attempt new.reads new.writes) new) new h
    by_test (inl t) =
        let p = and_parts (conflicts new.attempt new.reads new.writes h && is_younger h.attempt new.attempt) (not (has_attempt (prepared_attempts ps) h.attempt)) t in
        let q = and_parts (conflicts new.attempt new.reads new.writes h) (is_younger h.attempt new.attempt) p.0 in
        inr record {
          done = record {
            tombstoned = ap (λ (ts : List Attempt). has_attempt ts h.attempt) (tombs_after locks (prepared_attempts ps) new) ∙ buried locks.tombs (attempts_of (wounded_by locks (prepared_attempts ps) new.attempt new.reads new.writes)) h.attempt (named t);
            free = put None (lost t);
            unprepared = unprepared t;
          };
          older = q.1;
          in_its_way = (and_parts (not (same_attempt new.attempt h.attempt)) (in_the_way new.reads new.writes h.reads h.writes) q.0).1;
        }
    by_test (inr t) = inl (put (Some h) (hold_kept spares locks.holders x.apart h.attempt h e (ap not t)))

-- who has locks keeps them or loses them
pub holder_fate : (sh : Shard) (latest : ℕ) (r : Request) → Holding sh → (h : LockHolder) → holder_of sh.locks.holders h.attempt ≡ Some h → KeepsOrLoses sh (shard_after sh latest r) r h
holder_fate sh latest r k h e = cases sh latest r (λ (w : Shard). KeepsOrLoses sh w r h) record {
  rest = inl e;
  locks = λ new i t n. asked new i (wounds sh.locks sh.prepared new k.locks (not_holding sh new.attempt n) h e);
  prepares = λ b l w ws c i n g. inl e;
  decides = λ b c t i. inl (only_decides (λ (l : Locks) (ps : List PreparedWriter). holder_of l.holders h.attempt ≡ Some h) sh b _ e);
  commits = λ b t p i f. by_test b (tombstones (commits sh b t (Some p)) b) (ap (λ (q : Request). frees q h.attempt) i) (cases_Bool (same_attempt b h.attempt)) refl refl;
  buries = λ b t i f. inl e;
  aborts = λ b i. by_test b (aborts sh b) (ap (λ (q : Request). frees q h.attempt) i) (cases_Bool (same_attempt b h.attempt)) refl refl;
  releases = λ b t last i f. released b t last (ap (λ (q : Request). frees q h.attempt) i) (released_is sh b f).1 (cases_Bool (same_attempt b h.attempt));
  reads = λ t l ks s i f. inl e;
}
  where
    asked : (new : LockHolder) → r ≡ Lock new.attempt new.coordinator new.reads new.writes → (holder_of (taken (after_wounds sh.locks (prepared_attempts sh.prepared) new.attempt new.reads new.writes) new).holders h.attempt ≡ Some h) ⊎ Wounds sh.locks sh.prepared (taken (after_wounds sh.locks (prepared_attempts sh.prepared) new.attempt new.reads new.writes) new) new h → KeepsOrLoses sh (record sh { locks = taken (after_wounds sh.locks (prepared_attempts sh.prepared) new.attempt new.reads new.writes) new }) r h
    asked new i (inl f) = inl f
    asked new i (inr w) = inr record {
      gone = done_gone (record sh { locks = taken (after_wounds sh.locks (prepared_attempts sh.prepared) new.attempt new.reads new.writes) new }) h.attempt w.done;
      reason = inl record { by = new; asks = i; older = w.older; in_its_way = w.in_its_way; unprepared = prepared_is sh.prepared h.attempt ∙ w.done.unprepared };
    }

    stays : (b : Attempt) → same_attempt b h.attempt ≡ false → holder_of (filter (is_other_holder b) sh.locks.holders) h.attempt ≡ Some h
    stays b t = hold_kept (is_other_holder b) sh.locks.holders k.locks.apart h.attempt h e (ap not t)

    by_test : (b : Attempt) (w : Shard) → frees r h.attempt ≡ same_attempt b h.attempt → (same_attempt b h.attempt ≡ true) ⊎ (same_attempt b h.attempt ≡ false) → w.locks ≡ record { holders = filter (is_other_holder b) sh.locks.holders; tombs = with_attempt sh.locks.tombs b } → w.prepared ≡ filter (is_other_writer b) sh.prepared → KeepsOrLoses sh w r h
    by_test b w i (inl t) l p = inr record {
      gone = done_gone w h.attempt (subst (λ (x : Locks). Done h.attempt x w.prepared) (sym l) (subst (Done h.attempt record { holders = filter (is_other_holder b) sh.locks.holders; tombs = with_attempt sh.locks.tombs b }) (sym p) (left_done sh.locks.holders sh.locks.tombs (filter (is_other_writer b) sh.prepared) h.attempt b k.locks.apart t (left_writer sh.prepared h.attempt b k.prepared.apart t))));
      reason = inr (i ∙ t);
    }
    by_test b w i (inr t) l p = inl (ap (λ (x : Locks). holder_of x.holders h.attempt) l ∙ stays b t)

    freed : (b : Attempt) (w : Shard) → frees r h.attempt ≡ same_attempt b h.attempt → entry_of prepared_by sh.prepared b ≡ None → (same_attempt b h.attempt ≡ true) ⊎ (same_attempt b h.attempt ≡ false) → w.locks ≡ record { holders = filter (is_other_holder b) sh.locks.holders; tombs = with_attempt sh.locks.tombs b } → w.prepared ≡ sh.prepared → KeepsOrLoses sh w r h
    freed b w i n (inl t) l p = inr record {
      gone = done_gone w h.attempt (subst (λ (x : Locks). Done h.attempt x w.prepared) (sym l) (subst (Done h.attempt record { holders = filter (is_other_holder b) sh.locks.holders; tombs = with_attempt sh.locks.tombs b }) (sym p) (left_done sh.locks.holders sh.locks.tombs sh.prepared h.attempt b k.locks.apart t (ap (entry_of prepared_by sh.prepared) (sym (same_is b h.attempt t)) ∙ n))));
      reason = inr (i ∙ t);
    }
    freed b w i n (inr t) l p = inl (ap (λ (x : Locks). holder_of x.holders h.attempt) l ∙ stays b t)

    released : (b : Attempt) (t : ℕ) (last : Bool) → frees r h.attempt ≡ same_attempt b h.attempt → entry_of prepared_by sh.prepared b ≡ None → (same_attempt b h.attempt ≡ true) ⊎ (same_attempt b h.attempt ≡ false) → KeepsOrLoses sh (releases_last (releases sh b t) b last) r h
    released b t true i n c =
        let same = only_decides (λ (l : Locks) (ps : List PreparedWriter). (l ≡ (releases sh b t).locks) × (ps ≡ sh.prepared)) (releases sh b t) b Aborted (refl, refl) in
        freed b (keeps_decision (releases sh b t) b Aborted) i n c same.0 same.1
    released b t false i n c = freed b (releases sh b t) i n c refl refl

-- the time of an entry that is prepared now
pub time_now : (sh : Shard) (latest least : ℕ) → (sh.floor < prepare_time sh latest least) × (least < prepare_time sh latest least) × (latest ≤ prepare_time sh latest least)
time_now sh latest least = (omega arith, omega arith, omega arith)

-- who is prepared was prepared by the request, or was before
pub prepared_from : (sh : Shard) (latest : ℕ) (r : Request) → Holding sh → (p : PreparedWriter) → entry_of prepared_by (shard_after sh latest r).prepared p.attempt ≡ Some p → (entry_of prepared_by sh.prepared p.attempt ≡ Some p) ⊎ IsPreparedBy sh latest r p
prepared_from sh latest r k p = cases sh latest r (λ (w : Shard). entry_of prepared_by w.prepared p.attempt ≡ Some p → (entry_of prepared_by sh.prepared p.attempt ≡ Some p) ⊎ IsPreparedBy sh latest r p) record {
  rest = λ e. inl e;
  locks = λ new i t n e. inl e;
  prepares = λ b l w ws c i n g e. by_test b l w ws c i n (same_attempt p.attempt b) refl (sym (entry_put sh.prepared (entry_now sh latest b l w ws c) p.attempt (sym (prepared_is sh.prepared b) ∙ not_some (prepared_of sh.prepared b) n)) ∙ e);
  decides = λ b c t i. only_decides (λ (l : Locks) (ps : List PreparedWriter). entry_of prepared_by ps p.attempt ≡ Some p → (entry_of prepared_by sh.prepared p.attempt ≡ Some p) ⊎ IsPreparedBy sh latest r p) sh b _ (λ e. inl e);
  commits = λ b t q i f e. fewer b e;
  buries = λ b t i f e. inl e;
  aborts = λ b i e. fewer b e;
  releases = λ b t last i f. released b t last;
  reads = λ t l ks s i f e. inl e;
}
  where
    fewer : (b : Attempt) → entry_of prepared_by (filter (is_other_writer b) sh.prepared) p.attempt ≡ Some p → (entry_of prepared_by sh.prepared p.attempt ≡ Some p) ⊎ IsPreparedBy sh latest r p
    fewer b e = inl (kept_some prepared_by (is_other_writer b) (entry_of prepared_by sh.prepared p.attempt) p (sym (found_kept prepared_by (is_other_writer b) sh.prepared p.attempt k.prepared.apart) ∙ e)).0

    by_test : (b : Attempt) (least earliest_end : ℕ) (ws : List (Key × ℕ)) (c : ℕ) → r ≡ Prepare b least earliest_end ws → is_some (prepared_of sh.prepared b) ≡ false → (t : Bool) → same_attempt p.attempt b ≡ t → (if t then Some (entry_now sh latest b least earliest_end ws c) else entry_of prepared_by sh.prepared p.attempt) ≡ Some p → (entry_of prepared_by sh.prepared p.attempt ≡ Some p) ⊎ IsPreparedBy sh latest r p
    by_test b l w ws c i n true t e =
        let x : ◌≡◌ {A = Option PreparedWriter} (Some (entry_now sh latest b l w ws c)) (Some p) = e in
        let z : entry_now sh latest b l w ws c ≡ p = cc in
        let q = time_now sh latest l in
        inr (subst (IsPreparedBy sh latest r) z record { least = l; asks = i; new = not_some (prepared_of sh.prepared b) n; above_floor = q.0; above_least = q.1; not_before = q.2 })
    by_test b l w ws c i n false t e = inl e

    released : (b : Attempt) (t : ℕ) (last : Bool) → entry_of prepared_by (releases_last (releases sh b t) b last).prepared p.attempt ≡ Some p → (entry_of prepared_by sh.prepared p.attempt ≡ Some p) ⊎ IsPreparedBy sh latest r p
    released b t true = only_decides (λ (l : Locks) (ps : List PreparedWriter). entry_of prepared_by ps p.attempt ≡ Some p → (entry_of prepared_by sh.prepared p.attempt ≡ Some p) ⊎ IsPreparedBy sh latest r p) (releases sh b t) b _ (λ e. inl e)
    released b t false = λ e. inl e

-- who is prepared stays so, or is settled and done with
pub prepared_fate : (sh : Shard) (latest : ℕ) (r : Request) → Holding sh → (p : PreparedWriter) → entry_of prepared_by sh.prepared p.attempt ≡ Some p → (entry_of prepared_by (shard_after sh latest r).prepared p.attempt ≡ Some p) ⊎ IsSettled (shard_after sh latest r) r p.attempt
prepared_fate sh latest r k p e = cases sh latest r (λ (w : Shard). (entry_of prepared_by w.prepared p.attempt ≡ Some p) ⊎ IsSettled w r p.attempt) record {
  rest = inl e;
  locks = λ new i t n. inl e;
  prepares = λ b l w ws c i n g. inl (entry_put sh.prepared (entry_now sh latest b l w ws c) p.attempt (none b n) ∙ ap (λ (t : Bool). if t then Some (entry_now sh latest b l w ws c) else entry_of prepared_by sh.prepared p.attempt) (other b n) ∙ e);
  decides = λ b c t i. inl (only_decides (λ (l : Locks) (ps : List PreparedWriter). entry_of prepared_by ps p.attempt ≡ Some p) sh b _ e);
  commits = λ b t q i f. by_test b (tombstones (commits sh b t (Some q)) b) (ap (λ (z : Request). settles z p.attempt) i) (cases_Bool (same_attempt b p.attempt)) refl refl;
  buries = λ b t i f. inl e;
  aborts = λ b i. by_test b (aborts sh b) (ap (λ (z : Request). settles z p.attempt) i) (cases_Bool (same_attempt b p.attempt)) refl refl;
  releases = λ b t last i f. inl (released b t last);
  reads = λ t l ks s i f. inl e;
}
  where
    none : (b : Attempt) → is_some (prepared_of sh.prepared b) ≡ false → entry_of prepared_by sh.prepared b ≡ None
    none b n = sym (prepared_is sh.prepared b) ∙ not_some (prepared_of sh.prepared b) n

    other : (b : Attempt) → is_some (prepared_of sh.prepared b) ≡ false → same_attempt p.attempt b ≡ false
    other b n = false_from_ne_true (same_attempt p.attempt b)
        (λ i. let z : ◌≡◌ {A = Option PreparedWriter} None (Some p) = sym (none b n) ∙ ap (entry_of prepared_by sh.prepared) (sym (same_is p.attempt b i)) ∙ e in absurd cc)

    by_test : (b : Attempt) (w : Shard) → settles r p.attempt ≡ same_attempt b p.attempt → (same_attempt b p.attempt ≡ true) ⊎ (same_attempt b p.attempt ≡ false) → w.locks ≡ record { holders = filter (is_other_holder b) sh.locks.holders; tombs = with_attempt sh.locks.tombs b } → w.prepared ≡ filter (is_other_writer b) sh.prepared → (entry_of prepared_by w.prepared p.attempt ≡ Some p) ⊎ IsSettled w r p.attempt
    by_test b w i (inl t) l q = inr record {
      gone = done_gone w p.attempt (subst (λ (x : Locks). Done p.attempt x w.prepared) (sym l) (subst (Done p.attempt record { holders = filter (is_other_holder b) sh.locks.holders; tombs = with_attempt sh.locks.tombs b }) (sym q) (left_done sh.locks.holders sh.locks.tombs (filter (is_other_writer b) sh.prepared) p.attempt b k.locks.apart t (left_writer sh.prepared p.attempt b k.prepared.apart t))));
      reason = i ∙ t;
    }
    by_test b w i (inr t) l q = inl (ap (λ (x : List PreparedWriter). entry_of prepared_by x p.attempt) q ∙ found_kept prepared_by (is_other_writer b) sh.prepared p.attempt k.prepared.apart ∙ ap (kept (is_other_writer b)) e ∙ ap (λ (z : Bool). if not z then Some p else None) t)

    released : (b : Attempt) (t : ℕ) (last : Bool) → entry_of prepared_by (releases_last (releases sh b t) b last).prepared p.attempt ≡ Some p
    released b t true = only_decides (λ (l : Locks) (ps : List PreparedWriter). entry_of prepared_by ps p.attempt ≡ Some p) (releases sh b t) b _ e
    released b t false = e
