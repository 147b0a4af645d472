-- Those listed key by key are those that a filter of all the entries leaves.
use Rattle.std.proofs.Common.{◌≡◌, ℕ, suc, zero, ◌<◌, ◌≤◌, Bool, true, false, ◌&&◌, ◌||◌, List, [], ◌∷◌, length, map, filter, get_or, Option, Some, None, is_some, arith, refl, sym, ap, ◌∙◌}
use Rattle.std.specs.List.{list_all, list_any}
use Rattle.std.proofs.lemmas.Bool.{false≢true}
use Rattle.std.proofs.lemmas.Grind.{common_steps}
use Rattle.std.proofs.lemmas.List.Folds.{list_any_at}
use Rattle.rss_names.specs.declared.attempt.Attempt.{Attempt}
use Rattle.rss_names.specs.declared.service.Key.{Key}
use Rattle.rss_names.specs.Services.{same_key}
use Rattle.rss_names.proofs.Services.{same_key-Decides}
use Rattle.rss_tables.specs.Attempts.{same_attempt, attempt_lt}
use Rattle.rss_tables.specs.Locks.{has_key}
use Rattle.attempt_index.specs.declared.index.KeyAttempt.{KeyAttempt}
use Rattle.attempt_index.specs.Ascending.{ascends, put_in}
use Rattle.attempt_index.specs.Entries.{entry_of, entry_has, IsIndexOf}
use Rattle.attempt_index.specs.KeyIndex.{is_beside, pairs_of}
use Rattle.attempt_index.specs.Listing.{listed_one, listed_pairs, listed_keys, with_attempts, with_beside}
use Rattle.attempt_index.proofs.Searching.{both}
use Rattle.attempt_index.proofs.Indexed.{attempts-apart, same_attempt-Decides}
use Rattle.attempt_index.proofs.Entries.{own-entry, later-there, entry-itself}

-- filters by tests that agree on each item leave the same
pub filters-agree : {E : Type 0} (t u : E → Bool) (ps : List E) → ((i : ℕ) (d : E) → i < length ps → t (get_or ps i d) ≡ u (get_or ps i d)) → filter t ps ≡ filter u ps
filters-agree t u [] h = refl
filters-agree {E} t u (p ∷ ps) h = go (u p) refl (h zero p (omega arith)) (filters-agree t u ps (λ i d l. h (suc i) d (omega (arith, l))))
  where
    go : (b : Bool) → u p ≡ b → t p ≡ u p → filter t ps ≡ filter u ps → filter t (p ∷ ps) ≡ filter u (p ∷ ps)
    go true e f ih = rw (f ∙ e, e) (ap (λ (l : List E). p ∷ l) ih)
    go false e f ih = rw (f ∙ e, e) ih

pub none-left : {E : Type 0} (test : E → Bool) (ps : List E) → filter (λ (p : E). false && test p) ps ≡ []
none-left test [] = refl
none-left test (p ∷ ps) = none-left test ps

module _ {E : Type 0} (at : E → Attempt) where
  -- no entry behind one is of its attempt
  none-behind-same : (a : Attempt) (ps : List E) (f test : E → Bool) → list_all (attempt_lt a) (map at ps) ≡ true → filter (λ (p : E). (f p || same_attempt a (at p)) && test p) ps ≡ filter (λ (p : E). f p && test p) ps
  none-behind-same a [] f test h = refl
  none-behind-same a (p ∷ ps) f test h =
      let r = both (attempt_lt a (at p)) (list_all (attempt_lt a) (map at ps)) h in
      let apart : same_attempt a (at p) ≡ false = attempts-apart a (at p) r.0 in
      go (f p) refl (test p) refl apart (none-behind-same a ps f test r.1)
    where
      go : (b : Bool) → f p ≡ b → (c : Bool) → test p ≡ c → same_attempt a (at p) ≡ false → filter (λ (p : E). (f p || same_attempt a (at p)) && test p) ps ≡ filter (λ (p : E). f p && test p) ps → filter (λ (p : E). (f p || same_attempt a (at p)) && test p) (p ∷ ps) ≡ filter (λ (p : E). f p && test p) (p ∷ ps)
      go true e true g s ih = rw (e, g) (ap (λ (l : List E). p ∷ l) ih)
      go true e false g s ih = rw (e, g) ih
      go false e c g s ih = rw (e, s) ih

  not-before-itself : (a : Attempt) → attempt_lt a a ≡ false
  not-before-itself a = grind (arith, common_steps)

  not-after : (a b : Attempt) → attempt_lt a b ≡ true → attempt_lt b a ≡ false
  not-after a b e = grind (arith, common_steps, e)

  -- one that stands before all is put in front
  put-front : {X : Type 0} (before : X → X → Bool) (name : E → X) (agrees : (p q : E) → before (name p) (name q) ≡ attempt_lt (at p) (at q)) (test : E → Bool) (p : E) (ps : List E) → list_all (attempt_lt (at p)) (map at ps) ≡ true → put_in before (map name (filter test ps)) (name p) ≡ name p ∷ map name (filter test ps)
  put-front before name agrees test p [] h = refl
  put-front before name agrees test p (q ∷ qs) h =
      let r = both (attempt_lt (at p) (at q)) (list_all (attempt_lt (at p)) (map at qs)) h in
      go (test q) refl (agrees q p ∙ not-after (at p) (at q) r.0) (agrees p q ∙ r.0) (put-front before name agrees test p qs r.1)
    where
      go : (b : Bool) → test q ≡ b → before (name q) (name p) ≡ false → before (name p) (name q) ≡ true → put_in before (map name (filter test qs)) (name p) ≡ name p ∷ map name (filter test qs) → put_in before (map name (filter test (q ∷ qs))) (name p) ≡ name p ∷ map name (filter test (q ∷ qs))
      go true e f g ih = rw (e, f, g) refl
      go false e f g ih = rw e ih

  -- one of a later attempt joins behind the first
  joins-behind : {X : Type 0} (before : X → X → Bool) (name : E → X) (agrees : (p q : E) → before (name p) (name q) ≡ attempt_lt (at p) (at q)) (test : E → Bool) (p : E) (o : Option E) (xs : List X) → ((q : E) → o ≡ Some q → attempt_lt (at p) (at q) ≡ true) → listed_one before name test o (name p ∷ xs) ≡ name p ∷ listed_one before name test o xs
  joins-behind before name agrees test p None xs h = refl
  joins-behind before name agrees test p (Some q) xs h = go (test q) refl (agrees p q ∙ h q refl)
    where
      go : (b : Bool) → test q ≡ b → before (name p) (name q) ≡ true → listed_one before name test (Some q) (name p ∷ xs) ≡ name p ∷ listed_one before name test (Some q) xs
      go true e f = rw (e, f) refl
      go false e f = rw e refl

  -- when the entry of an attempt joins, those listed are those of the attempts so far and of this one
  pub one-more : {X : Type 0} (before : X → X → Bool) (name : E → X) (agrees : (p q : E) → before (name p) (name q) ≡ attempt_lt (at p) (at q)) (test f : E → Bool) (a : Attempt) (ps : List E) → ascends attempt_lt (map at ps) ≡ true → listed_one before name test (entry_of at ps a) (map name (filter (λ (p : E). f p && test p) ps)) ≡ map name (filter (λ (p : E). (f p || same_attempt a (at p)) && test p) ps)
  one-more before name agrees test f a [] up = refl
  one-more {X} before name agrees test f a (p ∷ ps) up =
      let r = both (list_all (attempt_lt (at p)) (map at ps)) (ascends attempt_lt (map at ps)) up in
      go (same_attempt a (at p)) refl (test p) refl (f p) refl r.0 (agrees p p ∙ not-before-itself (at p)) (one-more before name agrees test f a ps r.1)
    where
      listed : List E
      listed = filter (λ (p : E). f p && test p) ps

      more : List E
      more = filter (λ (p : E). (f p || same_attempt a (at p)) && test p) ps

      same-more : list_all (attempt_lt (at p)) (map at ps) ≡ true → same_attempt a (at p) ≡ true → listed ≡ more
      same-more q s = let is : a ≡ (at p) = (same_attempt-Decides a (at p)).0 s in sym (none-behind-same a ps f test (ap (λ (x : Attempt). list_all (attempt_lt x) (map at ps)) is ∙ q))

      go : (s : Bool) → same_attempt a (at p) ≡ s → (t : Bool) → test p ≡ t → (b : Bool) → f p ≡ b → list_all (attempt_lt (at p)) (map at ps) ≡ true → before (name p) (name p) ≡ false → listed_one before name test (entry_of at ps a) (map name listed) ≡ map name more → listed_one before name test (entry_of at (p ∷ ps) a) (map name (filter (λ (p : E). f p && test p) (p ∷ ps))) ≡ map name (filter (λ (p : E). (f p || same_attempt a (at p)) && test p) (p ∷ ps))
      go true s true t true e q i ih = rw (s, t, e, i) (ap (λ (l : List E). name p ∷ map name l) (same-more q s))
      go true s true t false e q i ih = rw (s, t, e) (put-front before name agrees (λ (p : E). f p && test p) p ps q ∙ ap (λ (l : List E). name p ∷ map name l) (same-more q s))
      go true s false t true e q i ih = rw (s, t, e) (ap (λ (l : List E). map name l) (same-more q s))
      go true s false t false e q i ih = rw (s, t, e) (ap (λ (l : List E). map name l) (same-more q s))
      go false s true t true e q i ih = rw (s, t, e) (joins-behind before name agrees test p (entry_of at ps a) (map name listed) (λ w h. later-there at (at p) ps a w q h) ∙ ap (λ (l : List X). name p ∷ l) ih)
      go false s true t false e q i ih = rw (s, t, e) ih
      go false s false t true e q i ih = rw (s, t, e) ih
      go false s false t false e q i ih = rw (s, t, e) ih

  -- whether an attempt is that of one of these pairs
  abbrev is_of : List KeyAttempt → E → Bool
  is_of ws p = list_any (λ (w : KeyAttempt). same_attempt w.attempt (at p)) ws

  or-turned : (a b c : Bool) → ((a || b) || c) ≡ (a || (b || c))
  or-turned true b c = refl
  or-turned false b c = refl

  or-none : (b : Bool) → (b || false) ≡ b
  or-none true = refl
  or-none false = refl

  some-more : {X : Type 0} (before : X → X → Bool) (name : E → X) (agrees : (p q : E) → before (name p) (name q) ≡ attempt_lt (at p) (at q)) (test f : E → Bool) (ws : List KeyAttempt) (ps : List E) → ascends attempt_lt (map at ps) ≡ true → listed_pairs at before name test ps ws (map name (filter (λ (p : E). f p && test p) ps)) ≡ map name (filter (λ (p : E). (f p || is_of ws p) && test p) ps)
  some-more before name agrees test f [] ps up = ap (λ (l : List E). map name l) (filters-agree (λ (p : E). f p && test p) (λ (p : E). (f p || false) && test p) ps (λ i d l. ap (λ (b : Bool). b && test (get_or ps i d)) (sym (or-none (f (get_or ps i d))))))
  some-more before name agrees test f (w ∷ ws) ps up =
      ap (listed_pairs at before name test ps ws) (one-more before name agrees test f w.attempt ps up)
      ∙ some-more before name agrees test (λ (p : E). f p || same_attempt w.attempt (at p)) ws ps up
      ∙ ap (λ (l : List E). map name l) (filters-agree (λ (p : E). ((f p || same_attempt w.attempt (at p)) || is_of ws p) && test p) (λ (p : E). (f p || is_of (w ∷ ws) p) && test p) ps (λ i d l. ap (λ (b : Bool). b && test (get_or ps i d)) (or-turned (f (get_or ps i d)) (same_attempt w.attempt (at (get_or ps i d))) (is_of ws (get_or ps i d)))))

  -- whether an attempt is beside one of these keys
  abbrev beside_any : List KeyAttempt → List Key → E → Bool
  beside_any index ks p = list_any (λ (k : Key). is_of (pairs_of index k) p) ks

  all-more : {X : Type 0} (before : X → X → Bool) (name : E → X) (agrees : (p q : E) → before (name p) (name q) ≡ attempt_lt (at p) (at q)) (test f : E → Bool) (index : List KeyAttempt) (ks : List Key) (ps : List E) → ascends attempt_lt (map at ps) ≡ true → listed_keys at before name test ps index ks (map name (filter (λ (p : E). f p && test p) ps)) ≡ map name (filter (λ (p : E). (f p || beside_any index ks p) && test p) ps)
  all-more before name agrees test f index [] ps up = ap (λ (l : List E). map name l) (filters-agree (λ (p : E). f p && test p) (λ (p : E). (f p || false) && test p) ps (λ i d l. ap (λ (b : Bool). b && test (get_or ps i d)) (sym (or-none (f (get_or ps i d))))))
  all-more before name agrees test f index (k ∷ ks) ps up =
      ap (listed_keys at before name test ps index ks) (some-more before name agrees test f (pairs_of index k) ps up)
      ∙ all-more before name agrees test (λ (p : E). f p || is_of (pairs_of index k) p) index ks ps up
      ∙ ap (λ (l : List E). map name l) (filters-agree (λ (p : E). ((f p || is_of (pairs_of index k) p) || beside_any index ks p) && test p) (λ (p : E). (f p || beside_any index (k ∷ ks) p) && test p) ps (λ i d l. ap (λ (b : Bool). b && test (get_or ps i d)) (or-turned (f (get_or ps i d)) (is_of (pairs_of index k) (get_or ps i d)) (beside_any index ks (get_or ps i d)))))

  -- the pairs of a key are those of the attempts beside it
  beside-key : (index : List KeyAttempt) (k : Key) (p : E) → is_of (pairs_of index k) p ≡ is_beside index k (at p)
  beside-key [] k p = refl
  beside-key (w ∷ ws) k p = go (same_key k w.key) refl (beside-key ws k p)
    where
      turned : same_attempt w.attempt (at p) ≡ same_attempt (at p) w.attempt
      turned = grind (arith, common_steps)

      go : (b : Bool) → same_key k w.key ≡ b → is_of (pairs_of ws k) p ≡ is_beside ws k (at p) → is_of (pairs_of (w ∷ ws) k) p ≡ is_beside (w ∷ ws) k (at p)
      go true e ih = rw (e, turned, ih) refl
      go false e ih = rw e ih

  anys-agree : (t u : Key → Bool) (ks : List Key) → ((k : Key) → t k ≡ u k) → list_any t ks ≡ list_any u ks
  anys-agree t u [] h = refl
  anys-agree t u (k ∷ ks) h = rw (h k, anys-agree t u ks h) refl

  -- an entry is beside one of the keys exactly where it has one
  beside-some : (keys : E → List Key) (index : List KeyAttempt) (ks : List Key) (ps : List E) (p : E) → IsIndexOf at keys index ps → entry_of at ps (at p) ≡ Some p → beside_any index ks p ≡ list_any (λ (k : Key). has_key (keys p) k) ks
  beside-some keys index ks ps p h e =
      anys-agree (λ (k : Key). is_of (pairs_of index k) p) (λ (k : Key). has_key (keys p) k) ks (λ k. beside-key index k p ∙ h.pairs k (at p) ∙ ap (λ (o : Option E). entry_has keys o k) e)

  -- those listed key by key besides those that pass a test are those that pass it or have one of the keys
  pub sieved : {X : Type 0} (before : X → X → Bool) (name : E → X) (agrees : (p q : E) → before (name p) (name q) ≡ attempt_lt (at p) (at q)) (test f : E → Bool) (keys : E → List Key) (index : List KeyAttempt) (ks : List Key) (ps : List E) → ascends attempt_lt (map at ps) ≡ true → IsIndexOf at keys index ps
      → listed_keys at before name test ps index ks (map name (filter (λ (p : E). f p && test p) ps)) ≡ map name (filter (λ (p : E). (f p || list_any (λ (k : Key). has_key (keys p) k) ks) && test p) ps)
  sieved before name agrees test f keys index ks ps up h =
      all-more before name agrees test f index ks ps up
      ∙ ap (λ (l : List E). map name l) (filters-agree (λ (p : E). (f p || beside_any index ks p) && test p) (λ (p : E). (f p || list_any (λ (k : Key). has_key (keys p) k) ks) && test p) ps (λ i d l. ap (λ (b : Bool). (f (get_or ps i d) || b) && test (get_or ps i d)) (beside-some keys index ks ps (get_or ps i d) h (entry-itself at ps i d up l))))

  -- no more are listed than there are entries
  pub length-sieved : {X : Type 0} (name : E → X) (test : E → Bool) (ps : List E) → length (map name (filter test ps)) ≤ length ps
  length-sieved name test [] = omega arith
  length-sieved name test (p ∷ ps) = go (test p) refl (length-sieved name test ps)
    where
      go : (b : Bool) → test p ≡ b → length (map name (filter test ps)) ≤ length ps → length (map name (filter test (p ∷ ps))) ≤ length (p ∷ ps)
      go true e ih = rw e (omega (arith, ih))
      go false e ih = rw e (omega (arith, ih))

  -- whether each pair is that of an entry
  abbrev all_there : List E → List KeyAttempt → Bool
  all_there es ps = list_all (λ (p : KeyAttempt). is_some (entry_of at es p.attempt)) ps

  -- the attempts of pairs join as the entries of the pairs do
  joins-alike : (es : List E) (ps : List KeyAttempt) (xs : List Attempt) → all_there es ps ≡ true → with_attempts xs ps ≡ listed_pairs at attempt_lt at (λ (e : E). true) es ps xs
  joins-alike es [] xs h = refl
  joins-alike es (p ∷ ps) xs h =
      let q = both (is_some (entry_of at es p.attempt)) (all_there es ps) h in
      go (entry_of at es p.attempt) refl q.0 ∙ joins-alike es ps (listed_one attempt_lt at (λ (e : E). true) (entry_of at es p.attempt) xs) q.1
    where
      go : (o : Option E) → entry_of at es p.attempt ≡ o → is_some (entry_of at es p.attempt) ≡ true → with_attempts (put_in attempt_lt xs p.attempt) ps ≡ with_attempts (listed_one attempt_lt at (λ (e : E). true) (entry_of at es p.attempt) xs) ps
      go None e s = absurd (false≢true (rw e at s))
      go (Some x) e s = rw e (ap (λ (a : Attempt). with_attempts (put_in attempt_lt xs a) ps) (own-entry at es p.attempt x e))

  kept-there : (es : List E) (test : KeyAttempt → Bool) (ps : List KeyAttempt) → all_there es ps ≡ true → all_there es (filter test ps) ≡ true
  kept-there es test [] h = refl
  kept-there es test (p ∷ ps) h =
      let q = both (is_some (entry_of at es p.attempt)) (all_there es ps) h in
      go (test p) refl q.0 (kept-there es test ps q.1)
    where
      go : (b : Bool) → test p ≡ b → is_some (entry_of at es p.attempt) ≡ true → all_there es (filter test ps) ≡ true → all_there es (filter test (p ∷ ps)) ≡ true
      go true e s ih = rw (e, s) ih
      go false e s ih = rw e ih

  each-there : (es : List E) (ps : List KeyAttempt) → ((i : ℕ) (d : KeyAttempt) → i < length ps → is_some (entry_of at es (get_or ps i d).attempt) ≡ true) → all_there es ps ≡ true
  each-there es [] h = refl
  each-there es (p ∷ ps) h = rw (h zero p (omega arith)) (each-there es ps (λ i d l. h (suc i) d (omega (arith, l))))

  some-has : (keys : E → List Key) (o : Option E) (k : Key) → entry_has keys o k ≡ true → is_some o ≡ true
  some-has keys None k h = absurd (false≢true h)
  some-has keys (Some e) k h = refl

  -- each pair of an index is that of an entry
  index-there : (keys : E → List Key) (index : List KeyAttempt) (es : List E) → IsIndexOf at keys index es → all_there es index ≡ true
  index-there keys index es h = each-there es index (λ i d l. go (get_or index i d) (list_any_at (λ (w : KeyAttempt). same_key (get_or index i d).key w.key && same_attempt (get_or index i d).attempt w.attempt) index i d l (itself (get_or index i d))))
    where
      itself : (w : KeyAttempt) → (same_key w.key w.key && same_attempt w.attempt w.attempt) ≡ true
      itself w =
          let k : same_key w.key w.key ≡ true = (same_key-Decides w.key w.key).1 refl in
          let a : same_attempt w.attempt w.attempt ≡ true = (same_attempt-Decides w.attempt w.attempt).1 refl in
          rw (k, a) refl

      go : (w : KeyAttempt) → is_beside index w.key w.attempt ≡ true → is_some (entry_of at es w.attempt) ≡ true
      go w e = some-has keys (entry_of at es w.attempt) w.key (sym (h.pairs w.key w.attempt) ∙ e)

  joins-keys-alike : (es : List E) (index : List KeyAttempt) (ks : List Key) (xs : List Attempt) → all_there es index ≡ true → with_beside index ks xs ≡ listed_keys at attempt_lt at (λ (e : E). true) es index ks xs
  joins-keys-alike es index [] xs h = refl
  joins-keys-alike es index (k ∷ ks) xs h =
      ap (with_beside index ks) (joins-alike es (pairs_of index k) xs (kept-there es (λ (w : KeyAttempt). same_key k w.key) index h))
      ∙ joins-keys-alike es index ks (listed_pairs at attempt_lt at (λ (e : E). true) es (pairs_of index k) xs) h

  and-true : (b : Bool) → (b && true) ≡ b
  and-true true = refl
  and-true false = refl

  -- when the attempts beside keys join those of the entries that pass a test, the list is that of the entries that pass it or have one of the keys
  pub beside-keys : (f : E → Bool) (keys : E → List Key) (index : List KeyAttempt) (ks : List Key) (es : List E) → ascends attempt_lt (map at es) ≡ true → IsIndexOf at keys index es
      → with_beside index ks (map at (filter f es)) ≡ map at (filter (λ (e : E). f e || list_any (λ (k : Key). has_key (keys e) k) ks) es)
  beside-keys f keys index ks es up h =
      ap (λ (l : List E). with_beside index ks (map at l)) (filters-agree f (λ (e : E). f e && true) es (λ i d l. sym (and-true (f (get_or es i d)))))
      ∙ joins-keys-alike es index ks (map at (filter (λ (e : E). f e && true) es)) (index-there keys index es h)
      ∙ sieved attempt_lt at (λ p q. refl) (λ (e : E). true) f keys index ks es up h
      ∙ ap (λ (l : List E). map at l) (filters-agree (λ (e : E). (f e || list_any (λ (k : Key). has_key (keys e) k) ks) && true) (λ (e : E). f e || list_any (λ (k : Key). has_key (keys e) k) ks) es (λ i d l. and-true (f (get_or es i d) || list_any (λ (k : Key). has_key (keys (get_or es i d)) k) ks)))
