-- Who stands beside a key after attempts were put there and taken away.
use Rattle.std.proofs.Common.{◌≡◌, ℕ, Bool, true, false, ◌&&◌, ◌||◌, not, List, [], ◌∷◌, nat_lt, ◌==◌, arith, refl, sym, ap, ◌∙◌}
use Rattle.std.specs.List.{list_all}
use Rattle.std.specs.Bool.{Decides}
use Rattle.std.proofs.lemmas.Grind.{common_steps}
use Rattle.std.proofs.lemmas.Bool.{false≢true}
use Rattle.std.proofs.lemmas.Bool.Decides.{Decides-eqb, Decides-and, Decides-like}
use Rattle.rss_names.specs.declared.attempt.Attempt.{Attempt}
use Rattle.rss_names.specs.declared.service.Key.{Key}
use Rattle.rss_names.specs.declared.service.ServiceId.{ServiceId}
use Rattle.rss_names.specs.declared.service.ServiceId.TheVariants.{Txn, Reg}
use Rattle.rss_names.specs.Services.{same_service, same_key}
use Rattle.rss_names.proofs.Services.{same_service-Decides, same_key-Decides}
use Rattle.rss_tables.specs.Attempts.{same_attempt, attempt_lt}
use Rattle.rss_tables.specs.Locks.{has_key}
use Rattle.attempt_index.specs.declared.index.KeyAttempt.{KeyAttempt}
use Rattle.attempt_index.specs.Ascending.{ascends, put_in, without_in}
use Rattle.attempt_index.specs.KeyIndex.{service_lt, key_lt, key_attempt_lt, is_beside, with_keys, without_keys}
use Rattle.attempt_index.specs.Orders.{key_attempts-transitive}
use Rattle.attempt_index.proofs.Searching.{both, all-behind, ascends-left}

pub or-false : (a b : Bool) → (a || b) ≡ false → (a ≡ false) × (b ≡ false)
or-false true b e = absurd (false≢true (sym e))
or-false false b e = (refl, e)

-- whether a pair is that of a key and an attempt
abbrev matches : Key → Attempt → KeyAttempt → Bool
matches key attempt w = same_key key w.key && same_attempt attempt w.attempt

-- `same_attempt` is true exactly where two attempts are equal
pub same_attempt-Decides : (a b : Attempt) → Decides (same_attempt a b) (a ≡ b)
same_attempt-Decides a b =
    Decides-like _ (λ p i. record { call = p.0 i; k = p.1 i }) (λ e. (ap (λ (x : Attempt). x.call) e, ap (λ (x : Attempt). x.k) e))
    (Decides-and _ _ (Decides-eqb a.call b.call) (Decides-eqb a.k b.k))

-- of two services that are not the same one stands before the other
services-apart : (a b : ServiceId) → service_lt a b ≡ true → same_service a b ≡ false
services-apart (Txn m) (Txn n) e = grind (arith, common_steps, e)
services-apart (Txn m) (Reg n) e = refl
services-apart (Reg m) (Txn n) e = refl
services-apart (Reg m) (Reg n) e = grind (arith, common_steps, e)

services-same : (a b : ServiceId) → service_lt a b ≡ false → service_lt b a ≡ false → same_service a b ≡ true
services-same (Txn m) (Txn n) e f = grind (arith, common_steps, e, f)
services-same (Txn m) (Reg n) e f = absurd (false≢true (sym e))
services-same (Reg m) (Txn n) e f = absurd (false≢true (sym f))
services-same (Reg m) (Reg n) e f = grind (arith, common_steps, e, f)

pub attempts-apart : (a b : Attempt) → attempt_lt a b ≡ true → same_attempt a b ≡ false
attempts-apart a b e = grind (arith, common_steps, e)

pub attempts-same : (a b : Attempt) → attempt_lt a b ≡ false → attempt_lt b a ≡ false → same_attempt a b ≡ true
attempts-same a b e f = grind (arith, common_steps, e, f)

pub attempts-turned : (a b : Attempt) → same_attempt a b ≡ false → same_attempt b a ≡ false
attempts-turned a b e = grind (arith, common_steps, e)

numbers-apart : (m n : ℕ) → nat_lt m n ≡ true → (m == n) ≡ false
numbers-apart m n e = grind (arith, common_steps, e)

numbers-same : (m n : ℕ) → nat_lt m n ≡ false → nat_lt n m ≡ false → (m == n) ≡ true
numbers-same m n e f = grind (arith, common_steps, e, f)

-- the same of an order by a first part and then by a second one
apart-in-turn : {K N : Type 0} (lt same : K → K → Bool) (low equal : N → N → Bool) → ((a b : K) → lt a b ≡ true → same a b ≡ false) → ((x y : N) → low x y ≡ true → equal x y ≡ false) → (a b : K) (x y : N) → (lt a b || (same a b && low x y)) ≡ true → (same a b && equal x y) ≡ false
apart-in-turn {K} {N} lt same low equal s t a b x y h = go (lt a b) refl (same a b) refl
  where
    go : (l : Bool) → lt a b ≡ l → (m : Bool) → same a b ≡ m → (same a b && equal x y) ≡ false
    go true e m f = rw (s a b e) refl
    go false e false f = rw f refl
    go false e true f = let low-so : low x y ≡ true = rw (e, f) at h in rw f (t x y low-so)

same-in-turn : {K N : Type 0} (lt same : K → K → Bool) (low equal : N → N → Bool) → ((a b : K) → lt a b ≡ false → lt b a ≡ false → same a b ≡ true) → ((a b : K) → Decides (same a b) (a ≡ b)) → ((x y : N) → low x y ≡ false → low y x ≡ false → equal x y ≡ true) → (a b : K) (x y : N) → (lt a b || (same a b && low x y)) ≡ false → (lt b a || (same b a && low y x)) ≡ false → (same a b && equal x y) ≡ true
same-in-turn {K} {N} lt same low equal s d t a b x y h k =
    let p = or-false (lt a b) (same a b && low x y) h in
    let q = or-false (lt b a) (same b a && low y x) k in
    let here : same a b ≡ true = s a b p.0 q.0 in
    let there : same b a ≡ true = (d b a).1 (sym ((d a b).0 here)) in
    let low-so : low x y ≡ false = rw here at p.1 in
    let high-so : low y x ≡ false = rw there at q.1 in
    let alike : equal x y ≡ true = t x y low-so high-so in
    rw (here, alike) refl

pub keys-apart : (a b : Key) → key_lt a b ≡ true → same_key a b ≡ false
keys-apart a b e = apart-in-turn service_lt same_service nat_lt (λ (m n : ℕ). m == n) services-apart numbers-apart a.service b.service a.index b.index e

pub keys-same : (a b : Key) → key_lt a b ≡ false → key_lt b a ≡ false → same_key a b ≡ true
keys-same a b e f = same-in-turn service_lt same_service nat_lt (λ (m n : ℕ). m == n) services-same same_service-Decides numbers-same a.service b.service a.index b.index e f

-- a pair that stands before another is none of its kind
pairs-apart : (a b : KeyAttempt) → key_attempt_lt a b ≡ true → matches a.key a.attempt b ≡ false
pairs-apart a b e = apart-in-turn key_lt same_key attempt_lt same_attempt keys-apart attempts-apart a.key b.key a.attempt b.attempt e

pairs-same : (a b : KeyAttempt) → key_attempt_lt a b ≡ false → key_attempt_lt b a ≡ false → matches a.key a.attempt b ≡ true
pairs-same a b e f = same-in-turn key_lt same_key attempt_lt same_attempt keys-same same_key-Decides attempts-same a.key b.key a.attempt b.attempt e f

matched : (key : Key) (attempt : Attempt) (w : KeyAttempt) → matches key attempt w ≡ true → (key ≡ w.key) × (attempt ≡ w.attempt)
matched key attempt w h = let p = both (same_key key w.key) (same_attempt attempt w.attempt) h in ((same_key-Decides key w.key).0 p.0, (same_attempt-Decides attempt w.attempt).0 p.1)

matches-later : (key : Key) (attempt : Attempt) (a b : KeyAttempt) → key_attempt_lt a b ≡ true → matches key attempt a ≡ true → matches key attempt b ≡ false
matches-later key attempt a b e h =
    let p = matched key attempt a h in
    rw (p.0, p.1) (pairs-apart a b e)

matches-alike : (key : Key) (attempt : Attempt) (a b : KeyAttempt) → key_attempt_lt a b ≡ false → key_attempt_lt b a ≡ false → matches key attempt b ≡ matches key attempt a
matches-alike key attempt a b e f =
    let p = matched a.key a.attempt b (pairs-same a b e f) in
    rw (p.0, p.1) refl

-- what stands behind a pair has none of its kind
none-behind : (key : Key) (attempt : Attempt) (x : KeyAttempt) (ys : List KeyAttempt) → list_all (key_attempt_lt x) ys ≡ true → matches key attempt x ≡ true → is_beside ys key attempt ≡ false
none-behind key attempt x [] h m = refl
none-behind key attempt x (y ∷ ys) h m =
    let p = both (key_attempt_lt x y) (list_all (key_attempt_lt x) ys) h in
    rw (matches-later key attempt x y p.0 m) (none-behind key attempt x ys p.1 m)

or-swap : (a b c : Bool) → (a || (b || c)) ≡ (b || (a || c))
or-swap true true c = refl
or-swap true false c = refl
or-swap false b c = refl

or-twice : (a b : Bool) → (a || b) ≡ (a || (a || b))
or-twice true b = refl
or-twice false b = refl

pub and-false : (a : Bool) → (a && false) ≡ false
and-false true = refl
and-false false = refl

pub and-true : (a : Bool) → a ≡ (a && true)
and-true true = refl
and-true false = refl

-- the pairs with one more
has-put : (index : List KeyAttempt) (x : KeyAttempt) (key : Key) (attempt : Attempt) → is_beside (put_in key_attempt_lt index x) key attempt ≡ (matches key attempt x || is_beside index key attempt)
has-put [] x key attempt = refl
has-put (y ∷ ys) x key attempt = go (key_attempt_lt y x) refl (key_attempt_lt x y) refl (has-put ys x key attempt)
  where
    go : (b : Bool) → key_attempt_lt y x ≡ b → (c : Bool) → key_attempt_lt x y ≡ c → is_beside (put_in key_attempt_lt ys x) key attempt ≡ (matches key attempt x || is_beside ys key attempt) → is_beside (put_in key_attempt_lt (y ∷ ys) x) key attempt ≡ (matches key attempt x || is_beside (y ∷ ys) key attempt)
    go true e c f ih = rw (e, ih) (or-swap (matches key attempt y) (matches key attempt x) (is_beside ys key attempt))
    go false e true f ih = rw (e, f) refl
    go false e false f ih = rw (e, f, matches-alike key attempt y x e f) (or-twice (matches key attempt y) (is_beside ys key attempt))

-- the pairs with one less
has-left : (index : List KeyAttempt) (x : KeyAttempt) (key : Key) (attempt : Attempt) → ascends key_attempt_lt index ≡ true → is_beside (without_in key_attempt_lt index x) key attempt ≡ (is_beside index key attempt && not (matches key attempt x))
has-left [] x key attempt h = refl
has-left (y ∷ ys) x key attempt h =
    let p = both (list_all (key_attempt_lt y) ys) (ascends key_attempt_lt ys) h in
    go (key_attempt_lt y x) refl (key_attempt_lt x y) refl (matches key attempt x) refl (matches key attempt y) refl p.0 (has-left ys x key attempt p.1)
  where
    go : (b : Bool) → key_attempt_lt y x ≡ b → (c : Bool) → key_attempt_lt x y ≡ c → (m : Bool) → matches key attempt x ≡ m → (n : Bool) → matches key attempt y ≡ n → list_all (key_attempt_lt y) ys ≡ true → is_beside (without_in key_attempt_lt ys x) key attempt ≡ (is_beside ys key attempt && not (matches key attempt x)) → is_beside (without_in key_attempt_lt (y ∷ ys) x) key attempt ≡ (is_beside (y ∷ ys) key attempt && not (matches key attempt x))
    go true e c f true m true n q ih = absurd (false≢true (sym (matches-later key attempt y x e n) ∙ m))
    go true e c f true m false n q ih = rw (e, n, ih, m) refl
    go true e c f false m true n q ih = rw (e, n, m) refl
    go true e c f false m false n q ih = rw (e, n, ih, m) refl
    go false e true f true m n k q ih =
        let none : is_beside (y ∷ ys) key attempt ≡ false = none-behind key attempt x (y ∷ ys) (rw f (all-behind key_attempt_lt key_attempts-transitive x y ys f q)) m in
        rw (e, f) (none ∙ ap (λ (b : Bool). b && not (matches key attempt x)) (sym none))
    go false e true f false m n k q ih =
        rw (e, f) (and-true (is_beside (y ∷ ys) key attempt) ∙ ap (λ (b : Bool). is_beside (y ∷ ys) key attempt && not b) (sym m))
    go false e false f true m n k q ih =
        let none : is_beside ys key attempt ≡ false = none-behind key attempt y ys q (sym (matches-alike key attempt y x e f) ∙ m) in
        rw (e, f) (none ∙ sym (and-false (is_beside (y ∷ ys) key attempt)) ∙ ap (λ (b : Bool). is_beside (y ∷ ys) key attempt && not b) (sym m))
    go false e false f false m n k q ih =
        let other : matches key attempt y ≡ false = sym (matches-alike key attempt y x e f) ∙ m in
        rw (e, f) (and-true (is_beside ys key attempt) ∙ ap (λ (b : Bool). (b || is_beside ys key attempt) && true) (sym other) ∙ ap (λ (b : Bool). is_beside (y ∷ ys) key attempt && not b) (sym m))

join-one : (h s c r : Bool) → (((c && s) || h) || (s && r)) ≡ (h || (s && (c || r)))
join-one true true true r = refl
join-one true true false r = refl
join-one true false true r = refl
join-one true false false r = refl
join-one false true true r = refl
join-one false true false r = refl
join-one false false true r = refl
join-one false false false r = refl

join-none : (h s : Bool) → h ≡ (h || (s && false))
join-none true s = refl
join-none false true = refl
join-none false false = refl

-- an attempt was put beside keys
pub has-joined : (index : List KeyAttempt) (a : Attempt) (keys : List Key) (key : Key) (attempt : Attempt) → is_beside (with_keys index a keys) key attempt ≡ (is_beside index key attempt || (same_attempt attempt a && has_key keys key))
has-joined index a [] key attempt = join-none (is_beside index key attempt) (same_attempt attempt a)
has-joined index a (k ∷ keys) key attempt =
    let new : KeyAttempt = record { key = k; attempt = a } in
    has-joined (put_in key_attempt_lt index new) a keys key attempt
    ∙ ap (λ (b : Bool). b || (same_attempt attempt a && has_key keys key)) (has-put index new key attempt)
    ∙ join-one (is_beside index key attempt) (same_attempt attempt a) (same_key key k) (has_key keys key)

leave-one : (h s c r : Bool) → ((h && not (c && s)) && not (s && r)) ≡ (h && not (s && (c || r)))
leave-one false s c r = refl
leave-one true true true r = refl
leave-one true true false r = refl
leave-one true false true r = refl
leave-one true false false r = refl

leave-none : (h s : Bool) → h ≡ (h && not (s && false))
leave-none false s = refl
leave-none true true = refl
leave-none true false = refl

-- it was taken away from keys
pub has-gone : (index : List KeyAttempt) (a : Attempt) (keys : List Key) (key : Key) (attempt : Attempt) → ascends key_attempt_lt index ≡ true → is_beside (without_keys index a keys) key attempt ≡ (is_beside index key attempt && not (same_attempt attempt a && has_key keys key))
has-gone index a [] key attempt h = leave-none (is_beside index key attempt) (same_attempt attempt a)
has-gone index a (k ∷ keys) key attempt h =
    let old : KeyAttempt = record { key = k; attempt = a } in
    has-gone (without_in key_attempt_lt index old) a keys key attempt (ascends-left key_attempt_lt index old h)
    ∙ ap (λ (b : Bool). b && not (same_attempt attempt a && has_key keys key)) (has-left index old key attempt h)
    ∙ leave-one (is_beside index key attempt) (same_attempt attempt a) (same_key key k) (has_key keys key)
