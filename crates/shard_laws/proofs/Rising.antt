-- The versions of keys: what one more, and a whole commit, makes of them.
use Rattle.std.proofs.Common.{◌≡◌, ◌⊎◌, inl, inr, ℕ, ◌<◌, Bool, true, false, List, [], ◌∷◌, ◌++◌, refl, sym, ◌∙◌, arith}
use Rattle.std.specs.Prelude.{if◌then◌else◌, nat_le, ⊤}
use Rattle.std.specs.List.{list_any}
use Rattle.std.proofs.lemmas.Bool.{cond_both, or_left, or_right, or_parts, leb-false, leb-true}
use Rattle.rss_names.specs.declared.service.Key.{Key}
use Rattle.rss_names.specs.Services.{same_key}
use Rattle.rss_names.proofs.Services.{same_key-Decides}
use Rattle.rss_wire.specs.declared.messages.Version.{Version}
use Rattle.rss_tables.specs.Versions.{KeyVersions, unwritten, versions_of, last_upto, with_version}
use Rattle.rss_tables.specs.ShardRow.{written_since, applied}
use Rattle.shard_laws.specs.Closed.{EachOf, IsAbove, AreRising}

pub each_more : {X : Type 0} (P Q : X → Type 0) → ((x : X) → P x → Q x) → (xs : List X) → EachOf P xs → EachOf Q xs
each_more P Q f [] h = tt
each_more P Q f (x ∷ xs) h = (f x h.0, each_more P Q f xs h.1)

pub each_append : {X : Type 0} (P : X → Type 0) (xs ys : List X) → EachOf P xs → EachOf P ys → EachOf P (xs ++ ys)
each_append P [] ys h g = g
each_append P (x ∷ xs) ys h g = (h.0, each_append P xs ys h.1 g)

-- one more version rises where it is above all
pub rising_more : (vs : List Version) (v : Version) → AreRising vs → EachOf (λ (u : Version). u.time < v.time) vs → AreRising (vs ++ v ∷ [])
rising_more [] v h g = (tt, tt)
rising_more (u ∷ vs) v h g = (each_append (IsAbove u.time) vs (v ∷ []) h.0 (g.0, tt), rising_more vs v h.1 g.1)

-- where none is at a time or later, all are below it
pub all_before : (vs : List Version) (time : ℕ) → written_since vs time ≡ false → EachOf (λ (u : Version). u.time < time) vs
all_before [] time e = tt
all_before (v ∷ vs) time e =
    let p = or_parts (nat_le time v.time) (written_since vs time) e in
    (leb-false time v.time p.0, all_before vs time p.1)

-- the versions of a key after one of some key is put in
pub version_put : (store : List KeyVersions) (key : Key) (v : Version) (k : Key) → ((versions_of (with_version store key v) k ≡ versions_of store k ++ v ∷ []) × (key ≡ k)) ⊎ (versions_of (with_version store key v) k ≡ versions_of store k)
version_put [] key v k = inr refl
version_put (kv ∷ store) key v k = go (same_key kv.key key) refl (same_key kv.key k) refl (version_put store key v k)
  where
    go : (b : Bool) → same_key kv.key key ≡ b → (c : Bool) → same_key kv.key k ≡ c → ((versions_of (with_version store key v) k ≡ versions_of store k ++ v ∷ []) × (key ≡ k)) ⊎ (versions_of (with_version store key v) k ≡ versions_of store k) → ((versions_of (with_version (kv ∷ store) key v) k ≡ versions_of (kv ∷ store) k ++ v ∷ []) × (key ≡ k)) ⊎ (versions_of (with_version (kv ∷ store) key v) k ≡ versions_of (kv ∷ store) k)
    go true e true f ih = inl (rw (e, f) refl, sym ((same_key-Decides kv.key key).0 e) ∙ (same_key-Decides kv.key k).0 f)
    go true e false f ih = inr (rw (e, f) refl)
    go false e true f ih = inr (rw (e, f) refl)
    go false e false f ih = rw (e, f) ih

-- what each write that becomes a version keeps, a commit keeps
pub applied_keeps : (P : List KeyVersions → Type 0) (call time : ℕ) (Q : Key × ℕ → Type 0) → ((store : List KeyVersions) (w : Key × ℕ) → Q w → written_since (versions_of store w.0) time ≡ false → P store → P (with_version store w.0 record { value = w.1; time = time; writer = call })) → (writes : List (Key × ℕ)) → EachOf Q writes → (store : List KeyVersions) → P store → P (applied store call time writes)
applied_keeps P call time Q step [] q store p = p
applied_keeps P call time Q step (w ∷ writes) q store p =
    cond_both (written_since (versions_of store w.0) time) store (with_version store w.0 record { value = w.1; time = time; writer = call })
    (λ (s : List KeyVersions). P (applied s call time writes))
    (λ e. applied_keeps P call time Q step writes q.1 store p)
    (λ e. applied_keeps P call time Q step writes q.1 (with_version store w.0 record { value = w.1; time = time; writer = call }) (step store w q.0 e p))

-- each of some writes that passes a test passes it among them
pub each_among : {X : Type 0} (f : X → Bool) (found : Bool) (xs : List X) → (list_any f xs ≡ true → found ≡ true) → EachOf (λ (x : X). f x ≡ true → found ≡ true) xs
each_among f found [] h = tt
each_among f found (x ∷ xs) h = (λ e. h (or_left (f x) (list_any f xs) e), each_among f found xs (λ e. h (or_right (f x) (list_any f xs) e)))

pub each_any : {X : Type 0} (xs : List X) → EachOf (λ (x : X). ⊤) xs
each_any [] = tt
each_any (x ∷ xs) = (tt, each_any xs)

-- versions above a time do not show at it
pub last_same : (found : Version) (time : ℕ) (vs more : List Version) → EachOf (IsAbove time) more → last_upto found time (vs ++ more) ≡ last_upto found time vs
last_same found time [] [] h = refl
last_same found time [] (v ∷ more) h = by_test (nat_le v.time time) refl (last_same found time [] more h.1)
  where
    by_test : (b : Bool) → nat_le v.time time ≡ b → last_upto found time more ≡ found → last_upto (if nat_le v.time time then v else found) time more ≡ found
    by_test true e r = absurd (let l = leb-true v.time time e in let a : time < v.time = h.0 in omega (arith, l, a))
    by_test false e r = rw e r
last_same found time (v ∷ vs) more h = last_same (if nat_le v.time time then v else found) time vs more h

-- keys that were never written have no versions
pub unwritten_none : (keys : List Key) (k : Key) → versions_of (unwritten keys) k ≡ []
unwritten_none [] k = refl
unwritten_none (key ∷ keys) k = cond_both (same_key key k) [] (versions_of (unwritten keys) k) (λ (vs : List Version). vs ≡ []) (λ e. refl) (λ e. unwritten_none keys k)
