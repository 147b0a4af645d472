-- The newest of versions that rise, and what lists of keys with their versions show.
use Rattle.std.proofs.Common.{◌≡◌, ◌⊎◌, inl, inr, ℕ, ◌<◌, ◌≤◌, Bool, true, false, List, [], ◌∷◌, ◌++◌, map, Option, Some, None, refl, sym, ap, ◌∙◌, subst, arith}
use Rattle.std.specs.Prelude.{nat_le, if◌then◌else◌}
use Rattle.std.proofs.lemmas.Bool.{or_left, or_right, le-leb, leb-true, leb-false}
use Rattle.rss_names.specs.declared.service.Key.{Key}
use Rattle.rss_names.specs.Services.{same_key}
use Rattle.rss_names.proofs.Services.{same_key-Decides}
use Rattle.rss_wire.specs.declared.messages.Version.{Version}
use Rattle.rss_tables.specs.Lines.{version_in}
use Rattle.rss_tables.specs.Locks.{has_key}
use Rattle.rss_tables.specs.Versions.{KeyVersions, versions_of, last_upto, last_version, newest_version, newest_of, opening_version}
use Rattle.shard_laws.specs.Closed.{EachOf, IsAtMost, IsAbove, AreRising}
use Rattle.shard_laws.proofs.Answered.{last_not_older}

-- the newest of versions that are at most a time is at most it
pub newest_upto : (time : ℕ) (vs : List Version) (found : Version) → EachOf (IsAtMost time) vs → found.time ≤ time → (last_version found vs).time ≤ time
newest_upto time [] found h l = l
newest_upto time (v ∷ vs) found h l = newest_upto time vs v h.1 h.0

-- the newest of versions above a time is not before it
pub newest_from : (time : ℕ) (vs : List Version) (found : Version) → EachOf (IsAbove time) vs → time ≤ found.time → time ≤ (last_version found vs).time
newest_from time [] found h l = l
newest_from time (v ∷ vs) found h l =
    let a : time < v.time = h.0 in
    newest_from time vs v h.1 (omega (arith, a))

-- versions that rise are at most the newest
pub upto_newest : (vs : List Version) (found : Version) → AreRising vs → EachOf (IsAtMost (last_version found vs).time) vs
upto_newest [] found r = tt
upto_newest (v ∷ vs) found r = (newest_from v.time vs v r.0 (omega arith), upto_newest vs v r.1)

-- the newest shows at each time that is not before it
pub newest_shows : (time : ℕ) (vs : List Version) (found : Version) → AreRising vs → (last_version found vs).time ≤ time → last_upto found time vs ≡ last_version found vs
newest_shows time [] found r l = refl
newest_shows time (v ∷ vs) found r l =
    let b = newest_from v.time vs v r.0 (omega arith) in
    let t : nat_le v.time time ≡ true = le-leb v.time time (omega (arith, b, l)) in
    rw t (newest_shows time vs v r.1 l)

-- one more version shows at its time
pub last_shows : (time : ℕ) (v : Version) → v.time ≤ time → (vs : List Version) (found : Version) → last_upto found time (vs ++ v ∷ []) ≡ v
last_shows time v l [] found = rw (le-leb v.time time l) refl
last_shows time v l (u ∷ vs) found = last_shows time v l vs (if nat_le u.time time then u else found)

-- what shows at a time is above an earlier time, or shows there already
pub shows_earlier : (t time : ℕ) → t ≤ time → (vs : List Version) (found : Version) → AreRising vs → (t < (last_upto found time vs).time) ⊎ (last_upto found t vs ≡ last_upto found time vs)
shows_earlier t time l [] found r = inr refl
shows_earlier t time l (v ∷ vs) found r = by_tests (nat_le v.time t) refl (nat_le v.time time) refl (shows_earlier t time l vs v r.1) (shows_earlier t time l vs found r.1)
  where
    by_tests : (b : Bool) → nat_le v.time t ≡ b → (c : Bool) → nat_le v.time time ≡ c → (t < (last_upto v time vs).time) ⊎ (last_upto v t vs ≡ last_upto v time vs) → (t < (last_upto found time vs).time) ⊎ (last_upto found t vs ≡ last_upto found time vs) → (t < (last_upto (if c then v else found) time vs).time) ⊎ (last_upto (if b then v else found) t vs ≡ last_upto (if c then v else found) time vs)
    by_tests true e true f ih jh = ih
    by_tests true e false f ih jh = absurd (let a = leb-true v.time t e in let b = leb-false v.time time f in omega (arith, a, b, l))
    by_tests false e true f ih jh =
        let a = leb-false v.time t e in
        let c = last_not_older v.time time vs v r.0 (omega arith) in
        inl (omega (arith, a, c))
    by_tests false e false f ih jh = jh

-- what shows is what was found, or one of the versions
pub shows_one : (P : Version → Type 0) (time : ℕ) (vs : List Version) (found : Version) → EachOf P vs → (last_upto found time vs ≡ found) ⊎ P (last_upto found time vs)
shows_one P time [] found h = inl refl
shows_one P time (v ∷ vs) found h = by_test (nat_le v.time time) refl (shows_one P time vs v h.1) (shows_one P time vs found h.1)
  where
    by_first : (last_upto v time vs ≡ v) ⊎ P (last_upto v time vs) → P (last_upto v time vs)
    by_first (inl e) = subst P (sym e) h.0
    by_first (inr p) = p

    by_test : (b : Bool) → nat_le v.time time ≡ b → (last_upto v time vs ≡ v) ⊎ P (last_upto v time vs) → (last_upto found time vs ≡ found) ⊎ P (last_upto found time vs) → (last_upto (if b then v else found) time vs ≡ found) ⊎ P (last_upto (if b then v else found) time vs)
    by_test true e ih jh = inr (by_first ih)
    by_test false e ih jh = jh

-- what a list of keys, each with its version, has for a key
pub shown_is : (f : Key → Version) (keys : List Key) (key : Key) (v : Version) → version_in (map (λ (k : Key). (k, f k)) keys) key ≡ Some v → v ≡ f key
shown_is f [] key v e = absurd (let x : ◌≡◌ {A = Option Version} None (Some v) = e in cc)
shown_is f (k ∷ keys) key v e = by_test (same_key k key) refl e (shown_is f keys key v)
  where
    by_test : (b : Bool) → same_key k key ≡ b → (if b then Some (f k) else version_in (map (λ (j : Key). (j, f j)) keys) key) ≡ Some v → (version_in (map (λ (j : Key). (j, f j)) keys) key ≡ Some v → v ≡ f key) → v ≡ f key
    by_test true s g ih =
        let x : ◌≡◌ {A = Option Version} (Some (f k)) (Some v) = g in
        let y : f k ≡ v = cc in
        sym y ∙ ap f ((same_key-Decides k key).0 s)
    by_test false s g ih = ih g

-- keys that have the same versions show the same newest ones
pub newest_same : (store after : List KeyVersions) (keys : List Key) → ((key : Key) → has_key keys key ≡ true → versions_of after key ≡ versions_of store key) → newest_of after keys ≡ newest_of store keys
newest_same store after [] h = refl
newest_same store after (k ∷ keys) h =
    let first : newest_version after k ≡ newest_version store k = ap (last_version opening_version) (h k (or_left (same_key k k) (has_key keys k) ((same_key-Decides k k).1 refl))) in
    let rest = newest_same store after keys (λ key e. h key (or_right (same_key key k) (has_key keys key) e)) in
    ap (λ (v : Version). (k, v) ∷ newest_of after keys) first ∙ ap (λ (l : List (Key × Version)). (k, newest_version store k) ∷ l) rest
