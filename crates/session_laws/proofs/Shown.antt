-- What lines show and write.
use Rattle.std.proofs.Common.{◌≡◌, ◌⊎◌, inl, inr, ℕ, zero, suc, ◌<◌, ◌≤◌, max, Bool, true, false, List, [], ◌∷◌, length, map, Option, Some, None, IsTrue, refl, sym, ap, ◌∙◌, arith}
use Rattle.std.specs.Prelude.{if◌then◌else◌}
use Rattle.std.proofs.lemmas.Bool.{true≢false, or_cases}
use Rattle.rss_names.specs.declared.service.Key.{Key}
use Rattle.rss_names.specs.Services.{same_key}
use Rattle.rss_names.proofs.Services.{same_key-Decides}
use Rattle.rss_wire.specs.declared.messages.Version.{Version}
use Rattle.rss_tables.specs.Lines.{Line, version_in, shown_on}
use Rattle.rss_tables.specs.Locks.{has_key}
use Rattle.rss_tables.specs.Versions.{KeyVersions, opening_version, newest_version, newest_of, version_at, versions_at}
use Rattle.rss_tables.specs.TransactionSession.{TxnSession, computed, writes_on, greatest_prepared, greatest_time, greatest_shown}
use Rattle.shard_laws.specs.Committed.{written_value}
use Rattle.shard_laws.specs.Fitting.{is_written}
use Rattle.session_laws.specs.Frames.{nth_line}

-- a key is the same as itself, and the test is as good turned around
pub key_itself : (key : Key) → same_key key key ≡ true
key_itself key = (same_key-Decides key key).1 refl

pub key_turned : (a b : Key) → same_key a b ≡ true → same_key b a ≡ true
key_turned a b e = (same_key-Decides b a).1 (sym ((same_key-Decides a b).0 e))

pub key_turned_not : (a b : Key) → same_key a b ≡ false → same_key b a ≡ false
key_turned_not a b e = by_test (same_key b a) refl
  where
    by_test : (x : Bool) → same_key b a ≡ x → same_key b a ≡ false
    by_test true f = absurd (true≢false (sym (key_turned b a f) ∙ e))
    by_test false f = f

-- where no line shows a key, the opening version is shown of it
pub shown_on_none : (lines : List Line) (key : Key) → ((j : ℕ) → j < length lines → version_in (nth_line lines j).shown key ≡ None) → shown_on lines key ≡ opening_version
shown_on_none [] key n = refl
shown_on_none (l ∷ lines) key n = rw (n 0 (omega arith)) (shown_on_none lines key (λ j h. n (suc j) (omega (arith, h))))

-- where one line alone shows a key, it is that line's version that is shown of it
pub shown_on_line : (lines : List Line) (i : ℕ) (key : Key) (v : Version) → i < length lines → ((j : ℕ) → j < length lines → (j ≡ i → ⊥) → version_in (nth_line lines j).shown key ≡ None) → version_in (nth_line lines i).shown key ≡ Some v → shown_on lines key ≡ v
shown_on_line [] i key v h n e = absurd (omega (arith, h))
shown_on_line (l ∷ lines) zero key v h n e = let f : version_in l.shown key ≡ Some v = e in rw f refl
shown_on_line (l ∷ lines) (suc i) key v h n e = rw (n 0 (omega arith) (λ f. omega (arith, f)))
    (shown_on_line lines i key v (omega (arith, h)) (λ j k f. n (suc j) (omega (arith, k)) (λ g. f (omega (arith, g)))) e)

-- keys with what is told of each
told_of : (f : Key → Version) (keys : List Key) (key : Key) → version_in (map (λ (k : Key). (k, f k)) keys) key ≡ (if has_key keys key then Some (f key) else None)
told_of f [] key = refl
told_of f (k ∷ keys) key = by_test (same_key k key) refl (told_of f keys key)
  where
    by_test : (b : Bool) → same_key k key ≡ b → version_in (map (λ (j : Key). (j, f j)) keys) key ≡ (if has_key keys key then Some (f key) else None) → version_in (map (λ (j : Key). (j, f j)) (k ∷ keys)) key ≡ (if has_key (k ∷ keys) key then Some (f key) else None)
    by_test true e ih = rw (e, key_turned k key e) (ap (λ (j : Key). Some (f j)) ((same_key-Decides k key).0 e))
    by_test false e ih = rw (e, key_turned_not k key e) ih

pub newest_in : (store : List KeyVersions) (keys : List Key) (key : Key) → version_in (newest_of store keys) key ≡ (if has_key keys key then Some (newest_version store key) else None)
newest_in store keys key = told_of (newest_version store) keys key

pub newest_in_there : (store : List KeyVersions) (keys : List Key) (key : Key) → has_key keys key ≡ true → version_in (newest_of store keys) key ≡ Some (newest_version store key)
newest_in_there store keys key h = newest_in store keys key ∙ ap (λ (b : Bool). if b then Some (newest_version store key) else None) h

pub newest_in_not : (store : List KeyVersions) (keys : List Key) (key : Key) → has_key keys key ≡ false → version_in (newest_of store keys) key ≡ None
newest_in_not store keys key h = newest_in store keys key ∙ ap (λ (b : Bool). if b then Some (newest_version store key) else None) h

pub versions_in : (store : List KeyVersions) (keys : List Key) (time : ℕ) (key : Key) → version_in (versions_at store keys time) key ≡ (if has_key keys key then Some (version_at store key time) else None)
versions_in store keys time key = told_of (λ (k : Key). version_at store k time) keys key

pub versions_in_there : (store : List KeyVersions) (keys : List Key) (time : ℕ) (key : Key) → has_key keys key ≡ true → version_in (versions_at store keys time) key ≡ Some (version_at store key time)
versions_in_there store keys time key h = versions_in store keys time key ∙ ap (λ (b : Bool). if b then Some (version_at store key time) else None) h

pub versions_in_not : (store : List KeyVersions) (keys : List Key) (time : ℕ) (key : Key) → has_key keys key ≡ false → version_in (versions_at store keys time) key ≡ None
versions_in_not store keys time key h = versions_in store keys time key ∙ ap (λ (b : Bool). if b then Some (version_at store key time) else None) h

-- the greatest time of versions is not below that of any
pub greatest_time_above : (shown : List (Key × Version)) (key : Key) (v : Version) → version_in shown key ≡ Some v → v.time ≤ greatest_time shown
greatest_time_above [] key v e = absurd (let x : ◌≡◌ {A = Option Version} None (Some v) = e in cc)
greatest_time_above (entry ∷ shown) key v e = by_test (same_key entry.0 key) refl (greatest_time_above shown key v)
  where
    by_test : (b : Bool) → same_key entry.0 key ≡ b → (version_in shown key ≡ Some v → v.time ≤ greatest_time shown) → v.time ≤ max entry.1.time (greatest_time shown)
    by_test true f ih =
        let x : ◌≡◌ {A = Option Version} (Some entry.1) (Some v) = rw f at e in
        let y : entry.1 ≡ v = cc in
        let z : entry.1.time ≡ v.time = ap (λ (u : Version). u.time) y in
        omega (arith, z)
    by_test false f ih = let z = ih (rw f at e) in omega (arith, z)

-- the greatest time shown is not below any that a line shows
pub greatest_shown_above : (lines : List Line) (i : ℕ) (key : Key) (v : Version) → i < length lines → version_in (nth_line lines i).shown key ≡ Some v → v.time ≤ greatest_shown lines
greatest_shown_above [] i key v h e = absurd (omega (arith, h))
greatest_shown_above (l ∷ lines) zero key v h e = let z = greatest_time_above l.shown key v e in omega (arith, z)
greatest_shown_above (l ∷ lines) (suc i) key v h e = let z = greatest_shown_above lines i key v (omega (arith, h)) e in omega (arith, z)

pub greatest_prepared_above : (lines : List Line) (i : ℕ) → i < length lines → (nth_line lines i).prepare_time ≤ greatest_prepared lines
greatest_prepared_above [] i h = absurd (omega (arith, h))
greatest_prepared_above (l ∷ lines) zero h = omega arith
greatest_prepared_above (l ∷ lines) (suc i) h = let z = greatest_prepared_above lines i (omega (arith, h)) in omega (arith, z)

-- the writes on a line have the values of all writes
pub written_on : (l : Line) (writes : List (Key × ℕ)) (key : Key) → has_key l.writes key ≡ true → written_value (writes_on l writes) key ≡ written_value writes key
written_on l [] key h = refl
written_on l (w ∷ writes) key h = by_tests (same_key w.0 key) refl (has_key l.writes w.0) refl (written_on l writes key h)
  where
    by_tests : (b : Bool) → same_key w.0 key ≡ b → (c : Bool) → has_key l.writes w.0 ≡ c → written_value (writes_on l writes) key ≡ written_value writes key → written_value (writes_on l (w ∷ writes)) key ≡ written_value (w ∷ writes) key
    by_tests true e true f ih = rw f (rw e refl)
    by_tests true e false f ih = absurd (true≢false (sym h ∙ ap (has_key l.writes) (sym ((same_key-Decides w.0 key).0 e)) ∙ f))
    by_tests false e true f ih = rw f (rw e ih)
    by_tests false e false f ih = rw f (rw e ih)

pub computed_on : (t : TxnSession) (i : ℕ) (key : Key) → i < length t.lines → has_key (nth_line t.lines i).writes key ≡ true → written_value (writes_on (nth_line t.lines i) (computed t)) key ≡ written_value (computed t) key
computed_on t i key h e = written_on (nth_line t.lines i) (computed t) key e

-- the writes on a line are of keys that it writes
pub computed_fits : (l : Line) (writes : List (Key × ℕ)) (key : Key) → IsTrue (is_written (writes_on l writes) key) → IsTrue (has_key l.writes key)
computed_fits l [] key h = absurd (true≢false (sym h))
computed_fits l (w ∷ writes) key h = by_test (has_key l.writes w.0) refl (computed_fits l writes key)
  where
    by_key : has_key l.writes w.0 ≡ true → (same_key w.0 key ≡ true) ⊎ (false ≡ true) → has_key l.writes key ≡ true
    by_key f (inl e) = ap (has_key l.writes) (sym ((same_key-Decides w.0 key).0 e)) ∙ f
    by_key f (inr e) = absurd (true≢false (sym e))

    by_first : has_key l.writes w.0 ≡ true → (is_written (writes_on l writes) key ≡ true → has_key l.writes key ≡ true) → (has_key (key ∷ []) w.0 ≡ true) ⊎ (is_written (writes_on l writes) key ≡ true) → has_key l.writes key ≡ true
    by_first f ih (inl e) = by_key f (or_cases (same_key w.0 key) false e)
    by_first f ih (inr e) = ih e

    by_test : (b : Bool) → has_key l.writes w.0 ≡ b → (is_written (writes_on l writes) key ≡ true → has_key l.writes key ≡ true) → has_key l.writes key ≡ true
    by_test true f ih = by_first f ih (or_cases (has_key (key ∷ []) w.0) (is_written (writes_on l writes) key) (rw f at h))
    by_test false f ih = ih (rw f at h)
