-- In a legal order each call was shown what the last writers before it wrote.
use Rattle.std.proofs.Common.{◌≡◌, ℕ, zero, suc, ◌<◌, ◌≤◌, ◌⊎◌, inl, inr, Bool, true, false, List, [], ◌∷◌, length, get_or, Some, arith, refl, sym, ap, ◌∙◌, subst}
use Rattle.std.specs.Prelude.{◌≢◌, ◌==◌, AllPairs, Contains, map, if◌then◌else◌, slice_get}
use Rattle.std.proofs.lemmas.Bool.{true≢false, eqb-true, eqb-false, cases_lt}
use Rattle.std.proofs.lemmas.Option.{slice_get_within, slice_get-get_or, same_Some, none-some}
use Rattle.rss_names.specs.declared.service.Key.{Key}
use Rattle.rss_names.specs.Services.{same_key}
use Rattle.rss_model.specs.declared.op.Shown.{Shown}
use Rattle.rss_model.specs.declared.history.Entry.{Entry}
use Rattle.rss_model.specs.Operation.{reads_of, written_by, guard_holds, values_of}
use Rattle.rss_model.specs.History.{op_of}
use Rattle.rss_model.specs.Candidate.{StandsAt}
use Rattle.rss_model.specs.Legal.{Table, Legal, opening_table, shown_by, shown_after, table_at}
use Rattle.rss_model.proofs.OrderLemmas.{stands_once}
use Rattle.order_laws.specs.Standing.{Stands, StandsBefore}
use Rattle.order_laws.specs.LastWriter.{Readings, AreReadings, Writes, IsLastWriter, shown_by_writer, IsShownRightly, written, opening}
use Rattle.order_laws.proofs.Keys.{same_key-itself}
use Rattle.order_laws.proofs.AfterWrites.{keys_of, keys-written, contains-cases}
use Rattle.order_laws.proofs.FromLastWriters.{Shows, by_writer, by_opening, shows_start, shows_more}
use Rattle.order_laws.proofs.Readers.{made_of, writer_after}
use Rattle.order_laws.proofs.SetBySet.{table_key}

-- the writer of a key that a call writes is the call
wrote : (call : ℕ) (writes : List (Key × ℕ)) (shown : Shown) → Contains (keys_of writes) shown.key →
    (shown_after shown call writes).writer ≡ call
wrote call [] shown (i, l, e) = absurd (omega (arith, l))
wrote call (write ∷ writes) shown m = by_test (same_key shown.key write.0) refl (contains-cases write.0 shown.key (keys_of writes) m) (wrote call writes shown)
  where
    either : (s : Shown) → s.writer ≡ call →
        ((shown_after s call writes).writer ≡ s.writer) ⊎ ((shown_after s call writes).writer ≡ call) →
        (shown_after s call writes).writer ≡ call
    either s e (inl f) = f ∙ e
    either s e (inr f) = f

    by_test : (t : Bool) → same_key shown.key write.0 ≡ t →
        (write.0 ≡ shown.key) ⊎ Contains (keys_of writes) shown.key →
        (Contains (keys_of writes) shown.key → (shown_after shown call writes).writer ≡ call) →
        (shown_after (if t then record shown { value = write.1; writer = call } else shown) call writes).writer ≡ call
    by_test true e c r = either (record shown { value = write.1; writer = call }) refl (writer_after call writes (record shown { value = write.1; writer = call }))
    by_test false e (inl k) r = absurd (true≢false (sym (same_key-itself shown.key) ∙ ap (same_key shown.key) (sym k) ∙ e))
    by_test false e (inr n) r = r n

-- the first place of a call
abbrev pub place_of : List ℕ → ℕ → ℕ
place_of [] a = 0
place_of (x ∷ xs) a = if x == a then 0 else suc (place_of xs a)

place_stands : (c : List ℕ) (a i : ℕ) → StandsAt c a i → StandsAt c a (place_of c a)
place_stands [] a i s = absurd (none-some a s)
place_stands (x ∷ xs) a i s = by_test (x == a) refl i s (place_stands xs a)
  where
    by_test : (t : Bool) → (x == a) ≡ t → (i : ℕ) → slice_get (x ∷ xs) i ≡ Some a →
        ((i : ℕ) → slice_get xs i ≡ Some a → slice_get xs (place_of xs a) ≡ Some a) →
        slice_get (x ∷ xs) (if t then 0 else suc (place_of xs a)) ≡ Some a
    by_test true e i s r = ap Some (eqb-true x a e)
    by_test false e zero s r = absurd (eqb-false x a e (same_Some x a s))
    by_test false e (suc i) s r = r i s

-- a table that keeps the names of keys lists them
keys_listed : (table : Table) → ((key : Key) → (table key).key ≡ key) → (keys : List Key) →
    map (λ (s : Shown). s.key) (map table keys) ≡ keys
keys_listed table k [] = refl
keys_listed table k (key ∷ keys) =
    let first = k key in
    let rest = keys_listed table k keys in
    cc

module _ (h : List Entry) (c : List ℕ) (distinct : AllPairs (λ a b. a ≢ b) c) (legal : Legal h c) where
  -- what the tables showed
  abbrev pub readings : Readings
  readings call = shown_by (table_at h c (place_of c call)) (op_of h call)

  at_place : (call i : ℕ) → StandsAt c call i →
      readings call ≡ shown_by (table_at h c i) (op_of h call)
  at_place call i s =
      ap (λ (n : ℕ). shown_by (table_at h c n) (op_of h call)) (stands_once c call (place_of c call) i distinct (place_stands c call i s) s)

  pub are_readings : AreReadings h c readings
  are_readings = record {
    begun = λ call (i, s). (legal call i s).begun;
    keys = λ call (i, s). ap (λ (x : List Shown). map (λ (y : Shown). y.key) x) (at_place call i s) ∙ keys_listed (table_at h c i) (table_key h c i) (reads_of (op_of h call));
    replies = λ call (i, s) e. at_place call i s ∙ sym ((legal call i s).reply e);
    guards = λ call (i, s) e. subst (λ (x : List Shown). guard_holds (op_of h call) (values_of x) ≡ true) (sym (at_place call i s)) ((legal call i s).guard e);
  }

  shows : (i : ℕ) → i ≤ length c → (key : Key) → Shows h c readings i key (table_at h c i key)
  unfolding table_at
  shows zero l key = shows_start h c readings key
  shows (suc i) l key =
      let stands : StandsAt c (get_or c i 0) i = slice_get-get_or c i 0 (omega (arith, l)) in
      shows_more h c readings distinct i (get_or c i 0) stands key (table_at h c i) (sym (at_place (get_or c i 0) i stands)) (shows i (omega (arith, l)) key)

  rightly : (call i : ℕ) → StandsAt c call i → (key : Key) (shown : Shown) → shown.key ≡ key →
      Shows h c readings i key shown → IsShownRightly h c readings call shown
  rightly call i s key shown k (by_writer {writer = w} {place = p} x t l last e) =
      let writes : List (Key × ℕ) = written_by (op_of h w) (values_of (readings w)) in
      let there : Contains (keys_of writes) key = subst (λ (ks : List Key). Contains ks key) (sym (keys-written (op_of h w) (values_of (readings w)))) x.written in
      let q : shown.writer ≡ w = ap (λ (y : Shown). y.writer) e ∙ wrote w writes (opening_table key) there in
      written
      (subst (λ (n : ℕ). IsLastWriter h c n call shown.key) (sym q) (subst (λ (y : Key). IsLastWriter h c w call y) (sym k) last_writer))
      (e ∙ ap (λ (n : ℕ). shown_by_writer h readings n key) (sym q) ∙ ap (λ (y : Key). shown_by_writer h readings shown.writer y) (sym k))
    where
      others : (other : ℕ) → Writes h other key → StandsBefore c other call →
          (other ≡ w) ⊎ StandsBefore c other w
      others other z b =
          let above : b.first < i = omega (arith, b.before, stands_once c call b.second i distinct b.second_stands s) in
          by_place (last other b.first z b.first_stands above) (cases_lt b.first p)
        where
          by_place : b.first ≤ p → (b.first < p) ⊎ (p ≤ b.first) →
              (other ≡ w) ⊎ StandsBefore c other w
          by_place m (inl n) = inr (record { first = b.first; second = p; first_stands = b.first_stands; second_stands = t; before = n })
          by_place m (inr n) =
              let same : b.first ≡ p = omega (arith, m, n) in
              inl (same_Some other w (sym b.first_stands ∙ ap (slice_get c) same ∙ t))

      last_writer : IsLastWriter h c w call key
      last_writer = record {
        writes = x;
        before = record { first = p; second = i; first_stands = t; second_stands = s; before = l };
        last = others;
      }
  rightly call i s key shown k (by_opening none e) =
      opening
      (λ other z b. none other b.first (subst (λ (y : Key). Writes h other y) k z) b.first_stands (omega (arith, b.before, stands_once c call b.second i distinct b.second_stands s)))
      (e ∙ ap opening_table (sym k))

  pub shown_rightly : (call : ℕ) (shown : Shown) → Stands c call → Contains (readings call) shown →
      IsShownRightly h c readings call shown
  shown_rightly call shown (i, s) (k, l, e) =
      let r = at_place call i s in
      let m = made_of (table_at h c i) (reads_of (op_of h call)) k shown (subst (λ (x : List Shown). k < length x) r l) (subst (λ (x : List Shown). get_or x k shown ≡ shown) r e) in
      let is_key : shown.key ≡ m.0 = ap (λ (x : Shown). x.key) m.1 ∙ table_key h c i m.0 in
      rightly call i s m.0 shown is_key (subst (λ (x : Shown). Shows h c readings i m.0 x) (sym m.1) (shows i (omega (arith, slice_get_within c i call s)) m.0))
