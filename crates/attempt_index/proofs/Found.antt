-- The pairs between two places are those of a key.
use Rattle.std.proofs.Common.{◌≡◌, ◌⊎◌, inl, inr, ℕ, suc, ◌-◌, ◌≤◌, Bool, true, false, not, List, [], ◌∷◌, take, drop, arith, refl, sym, ap, ◌∙◌}
use Rattle.std.specs.List.{list_all, slice_range}
use Rattle.std.proofs.lemmas.Bool.{false≢true}
use Rattle.rss_names.specs.declared.service.Key.{Key}
use Rattle.rss_names.specs.Services.{same_key}
use Rattle.rss_names.proofs.Services.{same_key-Decides}
use Rattle.rss_tables.specs.Attempts.{attempt_lt}
use Rattle.attempt_index.specs.declared.index.KeyAttempt.{KeyAttempt}
use Rattle.attempt_index.specs.Ascending.{ascends, front}
use Rattle.attempt_index.specs.KeyIndex.{key_lt, key_attempt_lt, pairs_of}
use Rattle.attempt_index.specs.Orders.{keys-transitive}
use Rattle.attempt_index.proofs.Searching.{both}
use Rattle.attempt_index.proofs.Indexed.{keys-apart, keys-same}

-- the keys of two pairs in order
keys-so : (a b : KeyAttempt) → key_attempt_lt a b ≡ true → (key_lt a.key b.key ≡ true) ⊎ (a.key ≡ b.key)
keys-so a b h = go (key_lt a.key b.key) refl
  where
    go : (c : Bool) → key_lt a.key b.key ≡ c → (key_lt a.key b.key ≡ true) ⊎ (a.key ≡ b.key)
    go true e = inl e
    go false e = inr ((same_key-Decides a.key b.key).0 (both (same_key a.key b.key) (attempt_lt a.attempt b.attempt) (rw e at h)).0)

keys-unlike : (a b : Key) → key_lt a b ≡ true → key_lt b a ≡ false
keys-unlike a b h = go (key_lt b a) refl
  where
    go : (c : Bool) → key_lt b a ≡ c → key_lt b a ≡ false
    go false e = e
    go true e =
        let itself : same_key a a ≡ false = keys-apart a a (keys-transitive a b a h e) in
        absurd (false≢true (sym itself ∙ (same_key-Decides a a).1 refl))

keys-unsame : (a b : Key) → key_lt a b ≡ true → same_key b a ≡ false
keys-unsame a b h = go (same_key b a) refl
  where
    go : (c : Bool) → same_key b a ≡ c → same_key b a ≡ false
    go false e = e
    go true e = absurd (false≢true (sym (keys-apart a b h) ∙ (same_key-Decides a b).1 (sym ((same_key-Decides b a).0 e))))

pub before-key : (key : Key) (a b : KeyAttempt) → key_attempt_lt a b ≡ true → key_lt b.key key ≡ true → key_lt a.key key ≡ true
before-key key a b h e = go (keys-so a b h)
  where
    go : (key_lt a.key b.key ≡ true) ⊎ (a.key ≡ b.key) → key_lt a.key key ≡ true
    go (inl f) = keys-transitive a.key b.key key f e
    go (inr f) = ap (λ (k : Key). key_lt k key) f ∙ e

behind-key : (key : Key) (a b : KeyAttempt) → key_attempt_lt a b ≡ true → key_lt key a.key ≡ true → key_lt key b.key ≡ true
behind-key key a b h e = go (keys-so a b h)
  where
    go : (key_lt a.key b.key ≡ true) ⊎ (a.key ≡ b.key) → key_lt key b.key ≡ true
    go (inl f) = keys-transitive key a.key b.key e f
    go (inr f) = ap (λ (k : Key). key_lt key k) (sym f) ∙ e

pub upto-key : (key : Key) (a b : KeyAttempt) → key_attempt_lt a b ≡ true → not (key_lt key b.key) ≡ true → not (key_lt key a.key) ≡ true
upto-key key a b h e = go (key_lt key a.key) refl
  where
    go : (c : Bool) → key_lt key a.key ≡ c → not (key_lt key a.key) ≡ true
    go false f = rw f refl
    go true f = absurd (false≢true (ap not (sym (behind-key key a b h f)) ∙ e))

-- no pair behind one of a later key is of this key
none-of : (key : Key) (w : KeyAttempt) (ws : List KeyAttempt) → list_all (key_attempt_lt w) ws ≡ true → key_lt key w.key ≡ true → pairs_of ws key ≡ []
none-of key w [] h e = refl
none-of key w (z ∷ zs) h e =
    let p = both (key_attempt_lt w z) (list_all (key_attempt_lt w) zs) h in
    rw (keys-apart key z.key (behind-key key w z p.0 e)) (none-of key w zs p.1 e)

-- no pair behind one of this key is of an earlier one
none-before : (key : Key) (w : KeyAttempt) (ws : List KeyAttempt) → list_all (key_attempt_lt w) ws ≡ true → w.key ≡ key → front (λ (z : KeyAttempt). key_lt z.key key) ws ≡ 0
none-before key w [] h e = refl
none-before key w (z ∷ zs) h e =
    let p = both (key_attempt_lt w z) (list_all (key_attempt_lt w) zs) h in
    rw (go (keys-so w z p.0)) refl
  where
    go : (key_lt w.key z.key ≡ true) ⊎ (w.key ≡ z.key) → key_lt z.key key ≡ false
    go (inl f) = keys-unlike key z.key (ap (λ (k : Key). key_lt k z.key) (sym e) ∙ f)
    go (inr f) =
        let is : key ≡ z.key = sym e ∙ f in
        go2 (key_lt z.key key) refl is
      where
        go2 : (c : Bool) → key_lt z.key key ≡ c → key ≡ z.key → key_lt z.key key ≡ false
        go2 false g is = g
        go2 true g is = absurd (false≢true (sym (keys-apart z.key key g) ∙ (same_key-Decides z.key key).1 (sym is)))

-- the pairs from the first of a key to the first behind it are those of the key
pub range-of : (key : Key) (ws : List KeyAttempt) → ascends key_attempt_lt ws ≡ true → slice_range ws (front (λ (w : KeyAttempt). key_lt w.key key) ws) (front (λ (w : KeyAttempt). not (key_lt key w.key)) ws) ≡ pairs_of ws key
range-of key [] h = refl
range-of key (w ∷ ws) h =
    let p = both (list_all (key_attempt_lt w) ws) (ascends key_attempt_lt ws) h in
    go (key_lt w.key key) refl (key_lt key w.key) refl p.0 (range-of key ws p.1)
  where
    first : ℕ
    first = front (λ (z : KeyAttempt). key_lt z.key key) ws

    behind : ℕ
    behind = front (λ (z : KeyAttempt). not (key_lt key z.key)) ws

    go : (b : Bool) → key_lt w.key key ≡ b → (c : Bool) → key_lt key w.key ≡ c → list_all (key_attempt_lt w) ws ≡ true → slice_range ws first behind ≡ pairs_of ws key → slice_range (w ∷ ws) (front (λ (z : KeyAttempt). key_lt z.key key) (w ∷ ws)) (front (λ (z : KeyAttempt). not (key_lt key z.key)) (w ∷ ws)) ≡ pairs_of (w ∷ ws) key
    go true e true f q ih = absurd (false≢true (sym (keys-unlike w.key key e) ∙ f))
    go true e false f q ih =
        let apart : same_key key w.key ≡ false = keys-unsame w.key key e in
        let step : suc behind - suc first ≡ behind - first = omega arith in
        rw (e, f, apart) (ap (λ (n : ℕ). take n (drop first ws)) step ∙ ih)
    go false e true f q ih = rw (e, f, keys-apart key w.key f) (sym (none-of key w ws q f))
    go false e false f q ih =
        let same : same_key key w.key ≡ true = keys-same key w.key f e in
        let zero-first : first ≡ 0 = none-before key w ws q (sym ((same_key-Decides key w.key).0 same)) in
        let rest : slice_range ws 0 behind ≡ pairs_of ws key = rw zero-first at ih in
        let all : suc behind - 0 ≡ suc behind = omega arith in
        let others : behind - 0 ≡ behind = omega arith in
        rw (e, f, same) (ap (λ (n : ℕ). take n (w ∷ ws)) all ∙ ap (λ (n : ℕ). w ∷ take n ws) (sym others) ∙ ap (λ (l : List KeyAttempt). w ∷ l) rest)

pub front-upto : {X : Type 0} (p q : X → Bool) → ((x : X) → p x ≡ true → q x ≡ true) → (xs : List X) → front p xs ≤ front q xs
front-upto p q h [] = omega arith
front-upto {X} p q h (x ∷ xs) = go (p x) refl (front-upto p q h xs)
  where
    go : (b : Bool) → p x ≡ b → front p xs ≤ front q xs → front p (x ∷ xs) ≤ front q (x ∷ xs)
    go true e ih = rw (e, h x e) (omega (arith, ih))
    go false e ih = rw e (omega arith)

-- what two searches find
pub found-range : (ws : List KeyAttempt) (key : Key) (first behind : ℕ) → ascends key_attempt_lt ws ≡ true → front (λ (w : KeyAttempt). key_lt w.key key) ws ≡ first → front (λ (w : KeyAttempt). not (key_lt key w.key)) ws ≡ behind → (first ≤ behind) × (slice_range ws first behind ≡ pairs_of ws key)
found-range ws key first behind h e f =
    let upto : front (λ (w : KeyAttempt). key_lt w.key key) ws ≤ front (λ (w : KeyAttempt). not (key_lt key w.key)) ws = front-upto (λ (w : KeyAttempt). key_lt w.key key) (λ (w : KeyAttempt). not (key_lt key w.key)) (λ w g. rw (keys-unlike w.key key g) refl) ws in
    (omega (arith, upto, e, f), rw (sym e, sym f) (range-of key ws h))
