-- An order is legal where each call was shown what the last writers before it wrote.
use Rattle.std.proofs.Common.{◌≡◌, ℕ, zero, suc, ◌<◌, ◌≤◌, ◌⊎◌, inl, inr, Bool, true, false, List, [], ◌∷◌, length, get_or, arith, refl, sym, ap, ◌∙◌, subst}
use Rattle.std.specs.Prelude.{◌≢◌, AllPairs, Contains, IsTrue, map, if◌then◌else◌, slice_get}
use Rattle.std.proofs.lemmas.Bool.{true≢false}
use Rattle.std.proofs.lemmas.Option.{slice_get_within, slice_get-get_or, same_Some}
use Rattle.rss_names.specs.declared.service.Key.{Key}
use Rattle.rss_model.specs.declared.op.Shown.{Shown}
use Rattle.rss_model.specs.declared.history.Entry.{Entry}
use Rattle.rss_model.specs.Operation.{writes_of, written_by, guard_holds, values_of}
use Rattle.rss_model.specs.History.{op_of}
use Rattle.rss_model.specs.Mutation.{is_mutation}
use Rattle.rss_model.specs.Candidate.{StandsAt}
use Rattle.rss_model.specs.Legal.{Table, Legal, MeetsTable, opening_table, shown_by, shown_after, table_after, table_at}
use Rattle.rss_model.proofs.OrderLemmas.{stands_once}
use Rattle.order_laws.specs.Standing.{Stands, StandsBefore}
use Rattle.order_laws.specs.LastWriter.{Readings, AreReadings, Writes, IsLastWriter, HasNoWriter, shown_by_writer, IsShownRightly, written, opening, IsLegalFor}
use Rattle.order_laws.proofs.AfterWrites.{After, untouched, rewritten, after, keys_of, keys-written, key_stays}

-- a table that shows what is listed of each key that is listed
pub shown_as_listed : (table : Table) (shown : List Shown) →
    ((s : Shown) → Contains shown s → s ≡ table s.key) →
    map table (map (λ (s : Shown). s.key) shown) ≡ shown
shown_as_listed table [] r = refl
shown_as_listed table (s ∷ shown) r =
    let first = r s (0, omega arith, refl) in
    let rest = shown_as_listed table shown (λ t m. r t (suc m.0, omega (arith, m.1), m.2)) in
    cc

module _ (h : List Entry) (c : List ℕ) (readings : Readings) where
  -- what a table shows of a key at a place: what the last writer above wrote, or the opening value
  pub data Shows (i : ℕ) (key : Key) (shown : Shown) : Type 0 where
    by_writer :
        {writer place : ℕ} → Writes h writer key → StandsAt c writer place → place < i →
        ((other k : ℕ) → Writes h other key → StandsAt c other k → k < i → k ≤ place) →
        shown ≡ shown_by_writer h readings writer key → Shows i key shown
    by_opening :
        ((other k : ℕ) → Writes h other key → StandsAt c other k → k < i → ⊥) →
        shown ≡ opening_table key → Shows i key shown

  pub shows_start : (key : Key) → Shows 0 key (opening_table key)
  shows_start key = by_opening (λ other k w s l. absurd (omega (arith, l))) refl

  module _ (distinct : AllPairs (λ a b. a ≢ b) c) (i call : ℕ) (stands : StandsAt c call i) where
    module _ (key : Key) where
      above : (other k : ℕ) → (Writes h call key → ⊥) → Writes h other key → StandsAt c other k →
          k < suc i → k < i
      above other k n w s l = by_place (cases l)
        where
          cases : k < suc i → (k < i) ⊎ (k ≡ i)
          cases l = grind (arith, l)

          by_place : (k < i) ⊎ (k ≡ i) → k < i
          by_place (inl m) = m
          by_place (inr m) =
              let same : other ≡ call = same_Some other call (sym s ∙ ap (slice_get c) m ∙ stands) in
              absurd (n (subst (λ (x : ℕ). Writes h x key) same w))

      -- a call that does not write the key leaves what is shown of it
      shows_kept : (shown : Shown) → (Writes h call key → ⊥) → Shows i key shown →
          Shows (suc i) key shown
      shows_kept shown n (by_writer {writer = writer} {place = place} w s l last e) =
          by_writer w s (omega (arith, l)) (λ other k x t m. last other k x t (above other k n x t m)) e
      shows_kept shown n (by_opening none e) = by_opening (λ other k x t m. none other k x t (above other k n x t m)) e

      -- a call that writes it is the last writer
      shows_written : (shown : Shown) → Writes h call key →
          shown ≡ shown_by_writer h readings call key → Shows (suc i) key shown
      shows_written shown w e = by_writer w stands (omega arith) (λ other k x s l. omega (arith, l)) e

      shows_key : (shown : Shown) → Shows i key shown → shown.key ≡ key
      shows_key shown (by_writer {writer = writer} w s l last e) =
          ap (λ (x : Shown). x.key) e ∙ key_stays writer (written_by (op_of h writer) (values_of (readings writer))) (opening_table key)
      shows_key shown (by_opening none e) = ap (λ (x : Shown). x.key) e

      -- what a mutation makes of a key
      shows_mutated : (shown : Shown) (writes : List (Key × ℕ)) → is_mutation h call ≡ true →
          writes ≡ written_by (op_of h call) (values_of (readings call)) → Shows i key shown →
          Shows (suc i) key (shown_after shown call writes)
      shows_mutated shown writes m q sh = by_writes (after call writes shown)
        where
          keys : keys_of writes ≡ writes_of (op_of h call)
          keys = ap keys_of q ∙ keys-written (op_of h call) (values_of (readings call))

          by_writes : After call writes shown → Shows (suc i) key (shown_after shown call writes)
          by_writes (untouched n e) =
              let none : Writes h call key → ⊥ = λ w.
              n (subst (λ (k : Key). Contains (keys_of writes) k) (sym (shows_key shown sh)) (subst (λ (ks : List Key). Contains ks key) (sym keys) w.written)) in
              subst (Shows (suc i) key) (sym e) (shows_kept shown none sh)
          by_writes (rewritten x e) =
              let all : Contains (writes_of (op_of h call)) key =
              subst (λ (ks : List Key). Contains ks key) keys (subst (λ (k : Key). Contains (keys_of writes) k) (shows_key shown sh) x) in
              shows_written (shown_after shown call writes) (record { mutates = m; written = all })
              (e (opening_table key) (sym (shows_key shown sh)) ∙ ap (λ (ws : List (Key × ℕ)). shown_after (opening_table key) call ws) q)

      -- the table after the call's turn
      pub shows_more : (table : Table) → shown_by table (op_of h call) ≡ readings call →
          Shows i key (table key) → Shows (suc i) key (table_after h table call key)
      shows_more table p sh = by_mutation (is_mutation h call) refl
        where
          by_mutation : (t : Bool) → is_mutation h call ≡ t →
              Shows (suc i) key (if t then shown_after (table key) call (written_by (op_of h call) (values_of (shown_by table (op_of h call)))) else table key)
          by_mutation true m = shows_mutated (table key) _ m (ap (λ (r : List Shown). written_by (op_of h call) (values_of r)) p) sh
          by_mutation false m = shows_kept (table key) (λ w. true≢false (sym w.mutates ∙ m)) sh

    module _ (table : Table) (shows : (key : Key) → Shows i key (table key)) where
      agrees_written : (s : Shown) → IsLastWriter h c s.writer call s.key →
          s ≡ shown_by_writer h readings s.writer s.key → Shows i s.key (table s.key) →
          s ≡ table s.key
      agrees_written s z e (by_writer {writer = writer} {place = place} w t l last f) =
          by_last (z.last writer w (record { first = place; second = i; first_stands = t; second_stands = stands; before = l }))
        where
          below : z.before.first < i
          below =
              let same = stands_once c call z.before.second i distinct z.before.second_stands stands in
              omega (arith, same, z.before.before)

          by_last : (writer ≡ s.writer) ⊎ StandsBefore c writer s.writer → s ≡ table s.key
          by_last (inl same) = e ∙ ap (λ (x : ℕ). shown_by_writer h readings x s.key) (sym same) ∙ sym f
          by_last (inr b) =
              let p = stands_once c writer b.first place distinct b.first_stands t in
              let q = stands_once c s.writer b.second z.before.first distinct b.second_stands z.before.first_stands in
              let m = last s.writer z.before.first z.writes z.before.first_stands below in
              absurd (omega (arith, p, q, m, b.before))
      agrees_written s z e (by_opening none f) =
          let same = stands_once c call z.before.second i distinct z.before.second_stands stands in
          absurd (none s.writer z.before.first z.writes z.before.first_stands (omega (arith, same, z.before.before)))

      agrees_opening : (s : Shown) → HasNoWriter h c call s.key → s ≡ opening_table s.key →
          Shows i s.key (table s.key) → s ≡ table s.key
      agrees_opening s n e (by_writer {writer = writer} {place = place} w t l last f) =
          absurd (n writer w (record { first = place; second = i; first_stands = t; second_stands = stands; before = l }))
      agrees_opening s n e (by_opening none f) = e ∙ sym f

      -- what was shown rightly is what the table shows
      agrees : (s : Shown) → IsShownRightly h c readings call s → s ≡ table s.key
      agrees s (written z e) = agrees_written s z e (shows s.key)
      agrees s (opening n e) = agrees_opening s n e (shows s.key)

      pub shown_by_table : AreReadings h c readings →
          ((s : Shown) → Contains (readings call) s → IsShownRightly h c readings call s) →
          shown_by table (op_of h call) ≡ readings call
      shown_by_table a r =
          ap (λ (ks : List Key). map table ks) (sym (a.keys call (i, stands))) ∙ shown_as_listed table (readings call) (λ s m. agrees s (r s m))

  module _ (distinct : AllPairs (λ a b. a ≢ b) c) (a : AreReadings h c readings)
      (r : (call : ℕ) (shown : Shown) → Stands c call → Contains (readings call) shown → IsShownRightly h c readings call shown) where
    -- at each place the table shows what the last writers above wrote
    shows : (i : ℕ) → i ≤ length c → (key : Key) → Shows i key (table_at h c i key)
    unfolding table_at
    shows zero l key = shows_start key
    shows (suc i) l key =
        let stands : StandsAt c (get_or c i 0) i = slice_get-get_or c i 0 (omega (arith, l)) in
        let above : (k : Key) → Shows i k (table_at h c i k) = λ k. shows i (omega (arith, l)) k in
        shows_more distinct i (get_or c i 0) stands key (table_at h c i)
        (shown_by_table distinct i (get_or c i 0) stands (table_at h c i) above a (λ s m. r (get_or c i 0) s (i, stands) m))
        (above key)

    pub meets : (call i : ℕ) → StandsAt c call i → MeetsTable h (table_at h c i) call
    meets call i stands =
        let above : (k : Key) → Shows i k (table_at h c i k) = λ k. shows i (omega (arith, slice_get_within c i call stands)) k in
        let p : shown_by (table_at h c i) (op_of h call) ≡ readings call =
        shown_by_table distinct i call stands (table_at h c i) above a (λ s m. r call s (i, stands) m) in
        record {
          begun = a.begun call (i, stands);
          reply = λ e. sym (a.replies call (i, stands) e) ∙ sym p;
          guard = λ e. subst (λ (x : List Shown). guard_holds (op_of h call) (values_of x) ≡ true) (sym p) (a.guards call (i, stands) e);
        }

pub legal_from_last_writers : (h : List Entry) (c : List ℕ) (readings : Readings) →
    AllPairs (λ a b. a ≢ b) c → AreReadings h c readings →
    ((call : ℕ) (shown : Shown) → Stands c call → Contains (readings call) shown → IsShownRightly h c readings call shown) →
    Legal h c
legal_from_last_writers h c readings d a r = meets h c readings d a r

pub legal_from_sets : (h : List Entry) (c : List ℕ) (readings : Readings) (sets : ℕ → Key → Bool) →
    AllPairs (λ a b. a ≢ b) c → AreReadings h c readings →
    ((key : Key) → (n : ℕ) × IsTrue (sets n key)) → ((n : ℕ) → IsLegalFor h c readings (sets n)) →
    Legal h c
legal_from_sets h c readings sets d a cover r =
    legal_from_last_writers h c readings d a (λ call shown s m. r (cover shown.key).0 call shown s m (cover shown.key).1)
