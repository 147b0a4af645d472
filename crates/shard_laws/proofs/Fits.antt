-- Where prepared attempts write only what they locked: this stays so, and what is locked is not written by others.
use Rattle.std.proofs.Common.{◌≡◌, ◌⊎◌, inl, inr, ℕ, Bool, true, false, List, [], ◌∷◌, ◌++◌, Option, Some, None, refl, sym, ap, ◌∙◌, subst}
use Rattle.std.proofs.lemmas.Bool.{true≢false, or_left, or_cases, cases_Bool, false_from_ne_true}
use Rattle.rss_names.specs.declared.attempt.Attempt.{Attempt}
use Rattle.rss_names.specs.declared.service.Key.{Key}
use Rattle.rss_names.specs.Services.{same_key}
use Rattle.rss_names.proofs.Services.{same_key-Decides}
use Rattle.rss_wire.specs.declared.messages.Outcome.{Outcome}
use Rattle.rss_wire.specs.declared.messages.Outcome.TheVariants.{Aborted}
use Rattle.rss_wire.specs.declared.messages.Request.{Request}
use Rattle.rss_wire.specs.declared.messages.Request.TheVariants.{Lock, Prepare, Decide, Inquire}
use Rattle.rss_wire.specs.declared.messages.Reply.{Reply}
use Rattle.rss_wire.specs.declared.messages.Reply.TheVariants as reply
use Rattle.rss_tables.specs.Attempts.{same_attempt}
use Rattle.rss_tables.specs.Locks.{LockHolder, has_key}
use Rattle.rss_tables.specs.Prepared.{PreparedWriter, prepared_of}
use Rattle.rss_tables.specs.Versions.{KeyVersions, versions_of, with_version}
use Rattle.rss_tables.specs.ShardRow.{Shard, decision_in, prepare_reply, decide_reply, inquire_reply, commits, tombstones, releases, releases_last, written_since, applied, shard_after, shard_reply}
use Rattle.shard_laws.specs.Served.{served, IsReached}
use Rattle.shard_laws.specs.Entries.{held_by, prepared_by, holder_of}
use Rattle.shard_laws.specs.Changes.{KeepsOrLoses, IsGranted, IsPreparedBy}
use Rattle.shard_laws.specs.Closed.{writes_key}
use Rattle.shard_laws.specs.Fitting.{locks_key, WritesAreLocked, IsFitting, AreFitting, IsPreparedAt}
use Rattle.shard_laws.proofs.Cases.{cases}
use Rattle.shard_laws.proofs.Entries.{found_at}
use Rattle.shard_laws.proofs.Lists.{prepared_is}
use Rattle.shard_laws.proofs.Holding.{Holding, coordinator_some}
use Rattle.shard_laws.proofs.Fates.{held_from, holder_fate, left_done}
use Rattle.shard_laws.proofs.Rising.{version_put, applied_keeps, each_among}
use Rattle.shard_laws.proofs.Closes.{decides_beside}
use Rattle.shard_laws.proofs.Laters.{holding, gone_later, prepared_by_request}

prepare_not_lock : (a : Attempt) (l e : ℕ) (ws : List (Key × ℕ)) (b : Attempt) (c : ℕ) (rs xs : List Key) → Prepare a l e ws ≡ Lock b c rs xs → ⊥
prepare_not_lock a l e ws b c rs xs i = cc

-- who is prepared holds
holds_still : (sh : Shard) → Holding sh → (p : PreparedWriter) → prepared_of sh.prepared p.attempt ≡ Some p → holder_of sh.locks.holders p.attempt ≡ None → ⊥
holds_still sh k p e n =
    let q = coordinator_some (holder_of sh.locks.holders p.attempt) p.coordinator (k.prepared.hold p.attempt p (sym (prepared_is sh.prepared p.attempt) ∙ e)) in
    let x : ◌≡◌ {A = Option LockHolder} None (Some q.0) = sym n ∙ q.1 in cc

fitting_entry : (sh : Shard) (r : Request) (p : PreparedWriter) (least : ℕ) → IsFitting sh r → r ≡ Prepare p.attempt least p.earliest_end p.writes → (h : LockHolder) → holder_of sh.locks.holders p.attempt ≡ Some h → (key : Key) → writes_key p key ≡ true → has_key h.writes key ≡ true
fitting_entry sh r p least f i = subst (IsFitting sh) i f

pub locked_after : (sh : Shard) → IsReached sh → (latest : ℕ) (r : Request) → WritesAreLocked sh → IsFitting sh r → WritesAreLocked (shard_after sh latest r)
locked_after sh x latest r w f = record {
  each = λ p h e g key i. by_cases p h key i (prepared_by_request sh x latest r p e) (held_from sh latest r (holding sh x) h (ap (holder_of (shard_after sh latest r).locks.holders) (found_at held_by (shard_after sh latest r).locks.holders p.attempt h g) ∙ g)) (found_at held_by (shard_after sh latest r).locks.holders p.attempt h g);
}
  where
    by_cases : (p : PreparedWriter) (h : LockHolder) (key : Key) → writes_key p key ≡ true → (prepared_of sh.prepared p.attempt ≡ Some p) ⊎ IsPreparedBy sh latest r p → (holder_of sh.locks.holders h.attempt ≡ Some h) ⊎ IsGranted sh r h → h.attempt ≡ p.attempt → has_key h.writes key ≡ true
    by_cases p h key i (inl e) (inl g) s = w.each p h e (ap (holder_of sh.locks.holders) (sym s) ∙ g) key i
    by_cases p h key i (inl e) (inr g) s = absurd (holds_still sh (holding sh x) p e (ap (holder_of sh.locks.holders) (sym s) ∙ g.free))
    by_cases p h key i (inr e) (inl g) s = fitting_entry sh r p e.least f e.asks h (ap (holder_of sh.locks.holders) (sym s) ∙ g) key i
    by_cases p h key i (inr e) (inr g) s = absurd (prepare_not_lock p.attempt e.least p.earliest_end p.writes h.attempt h.coordinator h.reads h.writes (sym e.asks ∙ g.asks))

-- no other prepared attempt writes a key that a holder locked
pub unwritten_by_others : (sh : Shard) → Holding sh → WritesAreLocked sh → (h : LockHolder) → holder_of sh.locks.holders h.attempt ≡ Some h → (key : Key) → locks_key h key ≡ true → (p : PreparedWriter) → prepared_of sh.prepared p.attempt ≡ Some p → same_attempt p.attempt h.attempt ≡ false → writes_key p key ≡ false
unwritten_by_others sh k w h e key l p f n = false_from_ne_true (writes_key p key) contra
  where
    contra : writes_key p key ≡ true → ⊥
    contra i =
        let q = coordinator_some (holder_of sh.locks.holders p.attempt) p.coordinator (k.prepared.hold p.attempt p (sym (prepared_is sh.prepared p.attempt) ∙ f)) in
        let locked : has_key q.0.writes key ≡ true = w.each p q.0 f q.1 key i in
        let x = k.locks.excluded p.attempt h.attempt q.0 h q.1 e n in
        let free = x.first key locked in
        by_lock free.0 free.1 (or_cases (has_key h.reads key) (has_key h.writes key) l)
      where
        by_lock : has_key h.writes key ≡ false → has_key h.reads key ≡ false → (has_key h.reads key ≡ true) ⊎ (has_key h.writes key ≡ true) → ⊥
        by_lock a b (inl c) = true≢false (sym c ∙ b)
        by_lock a b (inr c) = true≢false (sym c ∙ a)

-- a key that a prepared attempt does not write keeps its versions through its commit
pub unwritten_stays : (store : List KeyVersions) (call time : ℕ) (p : PreparedWriter) (key : Key) → writes_key p key ≡ false → versions_of (applied store call time p.writes) key ≡ versions_of store key
unwritten_stays store call time p key n =
    applied_keeps (λ (s : List KeyVersions). versions_of s key ≡ versions_of store key) call time (λ (w : Key × ℕ). has_key (key ∷ []) w.0 ≡ true → writes_key p key ≡ true) step p.writes (each_among (λ (w : Key × ℕ). has_key (key ∷ []) w.0) (writes_key p key) p.writes (λ e. e)) store refl
  where
    step : (s : List KeyVersions) (w : Key × ℕ) → (has_key (key ∷ []) w.0 ≡ true → writes_key p key ≡ true) → written_since (versions_of s w.0) time ≡ false → versions_of s key ≡ versions_of store key → versions_of (with_version s w.0 record { value = w.1; time = time; writer = call }) key ≡ versions_of store key
    step s w q o e = by_key (version_put s w.0 record { value = w.1; time = time; writer = call } key)
      where
        by_key : ((versions_of (with_version s w.0 record { value = w.1; time = time; writer = call }) key ≡ versions_of s key ++ record { value = w.1; time = time; writer = call } ∷ []) × (w.0 ≡ key)) ⊎ (versions_of (with_version s w.0 record { value = w.1; time = time; writer = call }) key ≡ versions_of s key) → versions_of (with_version s w.0 record { value = w.1; time = time; writer = call }) key ≡ versions_of store key
        by_key (inl i) = absurd (true≢false (sym (q (or_left (same_key w.0 key) false ((same_key-Decides w.0 key).1 i.1))) ∙ n))
        by_key (inr i) = i ∙ e

-- what a holder locked stays while it holds
pub locked_stays : (sh : Shard) → Holding sh → WritesAreLocked sh → (h : LockHolder) → holder_of sh.locks.holders h.attempt ≡ Some h → (key : Key) → locks_key h key ≡ true → (latest : ℕ) (r : Request) → holder_of (shard_after sh latest r).locks.holders h.attempt ≡ Some h → versions_of (shard_after sh latest r).store key ≡ versions_of sh.store key
locked_stays sh k w h e key l latest r = cases sh latest r (λ (v : Shard). holder_of v.locks.holders h.attempt ≡ Some h → versions_of v.store key ≡ versions_of sh.store key) record {
  rest = λ f. refl;
  locks = λ new i t n f. refl;
  prepares = λ b c d ws o i n g f. refl;
  decides = λ b c t i f. decides_beside (λ (s : List KeyVersions) (n : ℕ). versions_of s key ≡ versions_of sh.store key) sh b _ refl;
  commits = λ b t p i f g. committed b t p f g (cases_Bool (same_attempt b h.attempt));
  buries = λ b t i f g. refl;
  aborts = λ b i f. refl;
  releases = λ b t last i f g. released b t last;
  reads = λ t m ks s i f g. refl;
}
  where
    committed : (b : Attempt) (t : ℕ) (p : PreparedWriter) → prepared_of sh.prepared b ≡ Some p → holder_of (tombstones (commits sh b t (Some p)) b).locks.holders h.attempt ≡ Some h → (same_attempt b h.attempt ≡ true) ⊎ (same_attempt b h.attempt ≡ false) → versions_of (applied sh.store b.call t p.writes) key ≡ versions_of sh.store key
    committed b t p f g (inl s) =
        let d = left_done sh.locks.holders sh.locks.tombs [] h.attempt b k.locks.apart s refl in
        absurd (let y : ◌≡◌ {A = Option LockHolder} None (Some h) = sym d.free ∙ g in cc)
    committed b t p f g (inr s) =
        let same : p.attempt ≡ b = found_at prepared_by sh.prepared b p (sym (prepared_is sh.prepared b) ∙ f) in
        unwritten_stays sh.store b.call t p key (unwritten_by_others sh k w h e key l p (ap (prepared_of sh.prepared) same ∙ f) (ap (λ (z : Attempt). same_attempt z h.attempt) same ∙ s))

    released : (b : Attempt) (t : ℕ) (last : Bool) → versions_of (releases_last (releases sh b t) b last).store key ≡ versions_of sh.store key
    released b t true = decides_beside (λ (s : List KeyVersions) (n : ℕ). versions_of s key ≡ versions_of sh.store key) (releases sh b t) b Aborted refl
    released b t false = refl

-- a state that is reached goes on to one that is reached
pub served_more : (sh : Shard) (before after : List (ℕ × Request)) → served sh (before ++ after) ≡ served (served sh before) after
served_more sh [] after = refl
served_more sh (r ∷ before) after = served_more (shard_after sh r.0 r.1) before after

pub reached_after : (sh : Shard) → IsReached sh → (latest : ℕ) (r : Request) → IsReached (shard_after sh latest r)
reached_after sh x latest r = record {
  keys = x.keys;
  requests = x.requests ++ (latest, r) ∷ [];
  by = served_more _ x.requests ((latest, r) ∷ []) ∙ ap (λ (w : Shard). shard_after w latest r) x.by;
}

pub locked_later : (sh : Shard) → IsReached sh → WritesAreLocked sh → (requests : List (ℕ × Request)) → AreFitting sh requests → (h : LockHolder) → holder_of sh.locks.holders h.attempt ≡ Some h → holder_of (served sh requests).locks.holders h.attempt ≡ Some h → (key : Key) → locks_key h key ≡ true → versions_of (served sh requests).store key ≡ versions_of sh.store key
locked_later sh x w [] f h e g key l = refl
locked_later sh x w (r ∷ requests) f h e g key l =
    by_fate (holder_fate sh r.0 r.1 (holding sh x) h e) (λ i. locked_later (shard_after sh r.0 r.1) (reached_after sh x r.0 r.1) (locked_after sh x r.0 r.1 w f.0) requests f.1 h i g key l)
  where
    by_fate : KeepsOrLoses sh (shard_after sh r.0 r.1) r.1 h → (holder_of (shard_after sh r.0 r.1).locks.holders h.attempt ≡ Some h → versions_of (served (shard_after sh r.0 r.1) requests).store key ≡ versions_of (shard_after sh r.0 r.1).store key) → versions_of (served (shard_after sh r.0 r.1) requests).store key ≡ versions_of sh.store key
    by_fate (inl i) ih = ih i ∙ locked_stays sh (holding sh x) w h e key l r.0 r.1 i
    by_fate (inr b) ih =
        let gone = gone_later (shard_after sh r.0 r.1) requests h.attempt b.gone in
        absurd (let y : ◌≡◌ {A = Option LockHolder} None (Some h) = sym gone.free ∙ g in cc)

-- replies
entry_told : (o : Option PreparedWriter) (time : ℕ) → prepare_reply o ≡ reply.Prepared time → (p : PreparedWriter) × (o ≡ Some p) × (p.prepare_time ≡ time)
entry_told None time e = absurd (let x : ◌≡◌ {A = Reply} reply.Wounded (reply.Prepared time) = e in cc)
entry_told (Some p) time e = (p, refl, let x : ◌≡◌ {A = Reply} (reply.Prepared p.prepare_time) (reply.Prepared time) = e in cc)

pub prepared_told : (sh : Shard) (latest : ℕ) (attempt : Attempt) (least earliest_end : ℕ) (writes : List (Key × ℕ)) (time : ℕ) → shard_reply sh latest (Prepare attempt least earliest_end writes) ≡ reply.Prepared time → IsPreparedAt (shard_after sh latest (Prepare attempt least earliest_end writes)) attempt time
unfolding shard_reply
prepared_told sh latest attempt least earliest_end writes time e =
    let q = entry_told (prepared_of (shard_after sh latest (Prepare attempt least earliest_end writes)).prepared attempt) time e in
    record { entry = q.0; there = q.1; at = q.2 }

decision_told : (o : Option Outcome) (outcome : Outcome) → decide_reply o ≡ reply.Decided outcome → o ≡ Some outcome
decision_told None outcome e = absurd (let x : ◌≡◌ {A = Reply} reply.Open (reply.Decided outcome) = e in cc)
decision_told (Some o) outcome e = ap Some (let x : ◌≡◌ {A = Reply} (reply.Decided o) (reply.Decided outcome) = e in cc)

pub decided_told : (sh : Shard) (latest : ℕ) (attempt : Attempt) (commit : Bool) (time : ℕ) (outcome : Outcome) → shard_reply sh latest (Decide attempt commit time) ≡ reply.Decided outcome → decision_in (shard_after sh latest (Decide attempt commit time)).decisions attempt ≡ Some outcome
unfolding shard_reply
decided_told sh latest attempt commit time outcome e = decision_told (decision_in (shard_after sh latest (Decide attempt commit time)).decisions attempt) outcome e

outcome_told : (o : Option Outcome) (outcome : Outcome) → inquire_reply o ≡ reply.Outcome outcome → o ≡ Some outcome
outcome_told None outcome e = absurd (let x : ◌≡◌ {A = Reply} reply.Open (reply.Outcome outcome) = e in cc)
outcome_told (Some o) outcome e = ap Some (let x : ◌≡◌ {A = Reply} (reply.Outcome o) (reply.Outcome outcome) = e in cc)

pub inquired_told : (sh : Shard) (latest : ℕ) (attempt : Attempt) (outcome : Outcome) → shard_reply sh latest (Inquire attempt) ≡ reply.Outcome outcome → decision_in sh.decisions attempt ≡ Some outcome
unfolding shard_reply
inquired_told sh latest attempt outcome e = outcome_told (decision_in sh.decisions attempt) outcome e

-- what comes of a state that is reached is reached
pub reached_later : (sh : Shard) → IsReached sh → (requests : List (ℕ × Request)) → IsReached (served sh requests)
reached_later sh x requests = record {
  keys = x.keys;
  requests = x.requests ++ requests;
  by = served_more _ x.requests requests ∙ ap (λ (w : Shard). served w requests) x.by;
}
