-- Calls that are put one by one among those above whose keys theirs is not: the same calls, and their keys ascend.
use Rattle.std.proofs.Common.{◌≡◌, ℕ, suc, ◌<◌, ◌⊎◌, inl, inr, Bool, true, false, if◌then◌else◌, List, [], ◌∷◌, length, get_or, refl, sym, ap, ◌∙◌, subst, arith}
use Rattle.std.specs.List.{AllByRecursion}
use Rattle.std.proofs.lemmas.List.Elements.{recursion_from_All}
use Rattle.rss_machine.specs.Places.{key_lt, put_keyed, sorted}
use Rattle.rss_machine.specs.declared.place.KeyedCall.{KeyedCall}

-- the key of a call is below that of another
abbrev pub Below : KeyedCall → KeyedCall → Type 0
Below a b = key_lt a.key b.key ≡ true

-- where the key of a call is not below another's, the other's is below its own
abbrev pub Compared : KeyedCall → KeyedCall → Type 0
Compared a b = key_lt a.key b.key ≡ false → Below b a

-- each key is below all after it
unfoldable pub Ascends : List KeyedCall → Type 0
Ascends [] = Unit {0}
Ascends (c ∷ cs) = AllByRecursion (Below c) cs × Ascends cs

-- each call is compared with all after it
unfoldable pub AreCompared : List KeyedCall → Type 0
AreCompared [] = Unit {0}
AreCompared (c ∷ cs) = AllByRecursion (Compared c) cs × AreCompared cs

-- a call is in a list
unfoldable pub Has : List KeyedCall → KeyedCall → Type 0
Has [] c = ⊥
Has (d ∷ cs) c = (c ≡ d) ⊎ Has cs c

pub weaker : (P Q : KeyedCall → Type 0) (cs : List KeyedCall) → ((c : KeyedCall) → P c → Q c) → AllByRecursion P cs → AllByRecursion Q cs
weaker P Q [] f h = tt
weaker P Q (c ∷ cs) f h = (f c h.0, weaker P Q cs f h.1)

pub at_one : (P : KeyedCall → Type 0) (cs : List KeyedCall) (c : KeyedCall) → Has cs c → AllByRecursion P cs → P c
unfolding Has
at_one P [] c h all = absurd h
at_one P (d ∷ cs) c (inl e) all = subst P (sym e) all.0
at_one P (d ∷ cs) c (inr h) all = at_one P cs c h all.1

pub each_has : (cs : List KeyedCall) → AllByRecursion (Has cs) cs
unfolding Has
each_has [] = tt
each_has (c ∷ cs) = (inl refl, weaker (Has cs) (Has (c ∷ cs)) cs (λ d h. inr h) (each_has cs))

-- ascending by places
pub ascends_from : (cs : List KeyedCall) → ((i j : ℕ) (d : KeyedCall) → i < j → j < length cs → Below (get_or cs i d) (get_or cs j d)) → Ascends cs
unfolding Ascends
ascends_from [] h = tt
ascends_from (c ∷ cs) h = (
  recursion_from_All (Below c) cs (λ k d l. h 0 (suc k) d (omega arith) (omega (arith, l))),
  ascends_from cs (λ i j d l m. h (suc i) (suc j) d (omega (arith, l)) (omega (arith, m))),
)

-- what holds of a call and of those that it is put among, holds of all
put_all : (P : KeyedCall → Type 0) (new : KeyedCall) (cs : List KeyedCall) → P new → AllByRecursion P cs → AllByRecursion P (put_keyed new cs)
put_all P new [] p h = (p, tt)
put_all P new (c ∷ cs) p h = by (key_lt new.key c.key) (put_all P new cs p h.1)
  where
    by : (t : Bool) → AllByRecursion P (put_keyed new cs) → AllByRecursion P (if t then new ∷ c ∷ cs else c ∷ put_keyed new cs)
    by true rest = (p, h)
    by false rest = (h.0, rest)

pub sorted_all : (P : KeyedCall → Type 0) (cs : List KeyedCall) → AllByRecursion P cs → AllByRecursion P (sorted cs)
sorted_all P [] h = tt
sorted_all P (c ∷ cs) h = put_all P c (sorted cs) h.0 (sorted_all P cs h.1)

put_has : (new : KeyedCall) (cs : List KeyedCall) → Has (put_keyed new cs) new
unfolding Has
put_has new [] = inl refl
put_has new (c ∷ cs) = by (key_lt new.key c.key) (put_has new cs)
  where
    by : (t : Bool) → Has (put_keyed new cs) new → Has (if t then new ∷ c ∷ cs else c ∷ put_keyed new cs) new
    by true rest = inl refl
    by false rest = inr rest

put_keeps : (new : KeyedCall) (cs : List KeyedCall) (a : KeyedCall) → Has cs a → Has (put_keyed new cs) a
unfolding Has
put_keeps new [] a h = absurd h
put_keeps new (c ∷ cs) a h = by (key_lt new.key c.key) (put_keeps new cs a) h
  where
    by : (t : Bool) → (Has cs a → Has (put_keyed new cs) a) → (a ≡ c) ⊎ Has cs a → Has (if t then new ∷ c ∷ cs else c ∷ put_keyed new cs) a
    by true rest k = inr k
    by false rest (inl e) = inl e
    by false rest (inr k) = inr (rest k)

pub sorted_has : (cs : List KeyedCall) (a : KeyedCall) → Has cs a → Has (sorted cs) a
unfolding Has
sorted_has [] a h = absurd h
sorted_has (c ∷ cs) a (inl e) = subst (Has (put_keyed c (sorted cs))) (sym e) (put_has c (sorted cs))
sorted_has (c ∷ cs) a (inr h) = put_keeps c (sorted cs) a (sorted_has cs a h)

module _ (chain : (a b c : KeyedCall) → Below a b → Below b c → Below a c) where
  put_ascends : (new : KeyedCall) (cs : List KeyedCall) → AllByRecursion (Compared new) cs → Ascends cs → Ascends (put_keyed new cs)
  unfolding Ascends
  put_ascends new [] all up = (tt, tt)
  put_ascends new (c ∷ cs) all up = by (key_lt new.key c.key) refl (put_ascends new cs all.1 up.1)
    where
      by : (t : Bool) → key_lt new.key c.key ≡ t → Ascends (put_keyed new cs) → Ascends (if t then new ∷ c ∷ cs else c ∷ put_keyed new cs)
      by true e rest = ((e, weaker (Below c) (Below new) cs (λ d. chain new c d e) up.0), up)
      by false e rest = (put_all (Below c) new cs (all.0 e) up.0, rest)

  pub sorted_ascends : (cs : List KeyedCall) → AreCompared cs → Ascends (sorted cs)
  unfolding Ascends AreCompared
  sorted_ascends [] h = tt
  sorted_ascends (c ∷ cs) h = put_ascends c (sorted cs) (sorted_all (Compared c) cs h.0) (sorted_ascends cs h.1)

  module _ (other : (a : KeyedCall) → Below a a → ⊥) where
    -- two ascending lists of the same calls begin with the same
    same_first : (a b : KeyedCall) (cs ds : List KeyedCall) → AllByRecursion (Below a) cs → AllByRecursion (Below b) ds → (a ≡ b) ⊎ Has ds a → (b ≡ a) ⊎ Has cs b → a ≡ b
    same_first a b cs ds up up' (inl e) k = e
    same_first a b cs ds up up' (inr h) (inl e) = sym e
    same_first a b cs ds up up' (inr h) (inr k) =
        absurd (other a (chain a b a (at_one (Below a) cs b k up) (at_one (Below b) ds a h up')))

    -- what is above the first of a list is not the first
    behind_first : (a b : KeyedCall) (cs ds : List KeyedCall) → a ≡ b → AllByRecursion (Below a) cs → AllByRecursion (Has (b ∷ ds)) cs → AllByRecursion (Has ds) cs
    unfolding Has
    behind_first a b [] ds e up h = tt
    behind_first a b (c ∷ cs) ds e up h = (by h.0, behind_first a b cs ds e up.1 h.1)
      where
        by : (c ≡ b) ⊎ Has ds c → Has ds c
        by (inl q) = absurd (other a (subst (Below a) (q ∙ sym e) up.0))
        by (inr k) = k

    -- two ascending lists of the same calls are the same
    pub same_list : (cs ds : List KeyedCall) → Ascends cs → Ascends ds → AllByRecursion (Has ds) cs → AllByRecursion (Has cs) ds → cs ≡ ds
    unfolding Ascends Has
    same_list [] [] up up' h k = refl
    same_list [] (d ∷ ds) up up' h k = absurd k.0
    same_list (c ∷ cs) [] up up' h k = absurd h.0
    same_list (c ∷ cs) (d ∷ ds) up up' h k =
        let e : c ≡ d = same_first c d cs ds up.0 up'.0 h.0 k.0 in
        let rest : cs ≡ ds =
        same_list cs ds up.1 up'.1 (behind_first c d cs ds e up.0 h.1) (behind_first d c ds cs (sym e) up'.0 k.1) in
        ap (λ (x : KeyedCall). x ∷ cs) e ∙ ap (λ (xs : List KeyedCall). d ∷ xs) rest
