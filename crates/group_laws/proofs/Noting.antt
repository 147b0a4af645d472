-- Who was heard and who is noted, once each.
use Rattle.std.proofs.Common.{◌≡◌, ℕ, zero, suc, ◌⊎◌, inl, inr, Bool, true, false, List, [], ◌∷◌, ◌++◌, length, Some, refl, sym, ap, subst}
use Rattle.std.specs.Prelude.{slice_get, ◌==◌, ◌&&◌, if◌then◌else◌}
use Rattle.std.specs.List.{list_any}
use Rattle.std.proofs.lemmas.Bool.{or_parts, eqb-true, eqb-false}
use Rattle.group_tables.specs.declared.messages.Ballot.{Ballot}
use Rattle.group_tables.specs.declared.messages.Slot.{Slot}
use Rattle.group_tables.specs.declared.messages.Body.TheVariants.{Vow, Kept}
use Rattle.group_tables.specs.Groups.{Heard, Note, Sent}
use Rattle.group_tables.specs.Rows.{with_heard, with_note, is_noted, noted}
use Rattle.group_laws.specs.Said.{Says}
use Rattle.group_laws.specs.Sound.{IsNoneOf, AreApart, members_of, noted_for, IsCandidate, IsLeader}
use Rattle.group_laws.proofs.Lists.{got_appended, some_is, none_is_not}

none_of_more : (ks : List ℕ) (k m : ℕ) → IsNoneOf m ks → (m ≡ k → ⊥) → IsNoneOf m (ks ++ k ∷ [])
none_of_more [] k m a f = (f, tt)
none_of_more (j ∷ ks) k m a f = (a.0, none_of_more ks k m a.1 f)

-- one more that is none of them
apart_more : (ks : List ℕ) (k : ℕ) → AreApart ks → IsNoneOf k ks → AreApart (ks ++ k ∷ [])
apart_more [] k a f = (tt, tt)
apart_more (j ∷ ks) k a f = (none_of_more ks k j a.0 (λ e. f.0 (sym e)), apart_more ks k a.1 f.1)

members_more : (heard : List Heard) (q : ℕ) (slots : List Slot) → members_of (heard ++ record { member = q; slots = slots } ∷ []) ≡ members_of heard ++ q ∷ []
members_more [] q slots = refl
members_more (v ∷ heard) q slots = ap (λ (ks : List ℕ). v.member ∷ ks) (members_more heard q slots)

not_heard : (heard : List Heard) (q : ℕ) → list_any (λ (v : Heard). v.member == q) heard ≡ false → IsNoneOf q (members_of heard)
not_heard [] q e = tt
not_heard (v ∷ heard) q e =
    let parts = or_parts (v.member == q) (list_any (λ (u : Heard). u.member == q) heard) e in
    (λ f. eqb-false v.member q parts.0 (sym f), not_heard heard q parts.1)

-- a candidate that hears a vow
pub hears_vow : (sent : List Sent) (m : ℕ) (promised : Ballot) (slots : List Slot) (heard : List Heard) (q : ℕ) (told : List Slot)
    → IsCandidate sent m promised slots heard → Says sent q (Vow promised told) → (q ≡ m → ⊥) → IsCandidate sent m promised slots (with_heard heard q told)
hears_vow sent m promised slots heard q told c said other = by_test (list_any (λ (v : Heard). v.member == q) heard) refl
  where
    heard_now : (k : ℕ) (h : Heard) → (slice_get heard k ≡ Some h) ⊎ ((k ≡ length heard) × (h ≡ record { member = q; slots = told })) → Says sent h.member (Vow promised h.slots)
    heard_now k h (inl e) = c.vowed k h e
    heard_now k h (inr e) = subst (λ (v : Heard). Says sent v.member (Vow promised v.slots)) (sym e.1) said

    by_test : (b : Bool) → list_any (λ (v : Heard). v.member == q) heard ≡ b
        → IsCandidate sent m promised slots (if b then heard else heard ++ record { member = q; slots = told } ∷ [])
    by_test true e = c
    by_test false e =
        record {
          own = c.own;
          below = c.below;
          nothing = c.nothing;
          vowed = λ k h f. heard_now k h (got_appended heard record { member = q; slots = told } k h f);
          apart = subst (λ (ks : List ℕ). AreApart (m ∷ ks)) (sym (members_more heard q told))
              (none_of_more (members_of heard) q m c.apart.0 (λ f. other (sym f)), apart_more (members_of heard) q c.apart.1 (not_heard heard q e));
        }

-- as many as the list has for the slot
pub noted_length : (n : ℕ) (notes : List Note) → noted notes n ≡ length (noted_for n notes)
noted_length n [] = refl
noted_length n (k ∷ notes) = by_test (k.slot == n) (noted_length n notes)
  where
    by_test : (b : Bool) → noted notes n ≡ length (noted_for n notes) → (if b then suc (noted notes n) else noted notes n) ≡ length (if b then k.member ∷ noted_for n notes else noted_for n notes)
    by_test true e = ap suc e
    by_test false e = e

noted_more : (n s q : ℕ) (notes : List Note) → noted_for n (notes ++ record { slot = s; member = q } ∷ []) ≡ (if s == n then noted_for n notes ++ q ∷ [] else noted_for n notes)
noted_more n s q [] = by_test (s == n)
  where
    by_test : (b : Bool) → (if b then q ∷ [] else []) ≡ (if b then [] ++ q ∷ [] else [])
    by_test true = refl
    by_test false = refl
noted_more n s q (k ∷ notes) = by_test (k.slot == n) (s == n) (noted_more n s q notes)
  where
    by_test : (a b : Bool) → noted_for n (notes ++ record { slot = s; member = q } ∷ []) ≡ (if b then noted_for n notes ++ q ∷ [] else noted_for n notes)
        → (if a then k.member ∷ noted_for n (notes ++ record { slot = s; member = q } ∷ []) else noted_for n (notes ++ record { slot = s; member = q } ∷ []))
        ≡ (if b then (if a then k.member ∷ noted_for n notes else noted_for n notes) ++ q ∷ [] else (if a then k.member ∷ noted_for n notes else noted_for n notes))
    by_test true true e = ap (λ (ks : List ℕ). k.member ∷ ks) e
    by_test true false e = ap (λ (ks : List ℕ). k.member ∷ ks) e
    by_test false true e = e
    by_test false false e = e

not_noted : (notes : List Note) (n q : ℕ) → is_noted notes n q ≡ false → IsNoneOf q (noted_for n notes)
not_noted [] n q e = tt
not_noted (k ∷ notes) n q e =
    let parts = or_parts (k.slot == n && k.member == q) (is_noted notes n q) e in
    by_test (k.slot == n) parts.0 (not_noted notes n q parts.1)
  where
    by_test : (b : Bool) → (b && k.member == q) ≡ false → IsNoneOf q (noted_for n notes) → IsNoneOf q (if b then k.member ∷ noted_for n notes else noted_for n notes)
    by_test true f rest = (λ g. eqb-false k.member q f (sym g), rest)
    by_test false f rest = rest

-- a leader that notes who keeps a slot
pub notes_keeper : (sent : List Sent) (m : ℕ) (promised : Ballot) (slots : List Slot) (notes : List Note) (n q : ℕ)
    → IsLeader sent m promised slots notes → Says sent q (Kept promised n) → (q ≡ m → ⊥) → IsLeader sent m promised slots (with_note notes n q)
notes_keeper sent m promised slots notes n q c said other = by_test (is_noted notes n q) refl
  where
    noted_now : (k : ℕ) (x : Note) → (slice_get notes k ≡ Some x) ⊎ ((k ≡ length notes) × (x ≡ record { slot = n; member = q })) → Says sent x.member (Kept promised x.slot)
    noted_now k x (inl e) = c.noted k x e
    noted_now k x (inr e) = subst (λ (v : Note). Says sent v.member (Kept promised v.slot)) (sym e.1) said

    apart_now : (j : ℕ) (b : Bool) → (n == j) ≡ b → is_noted notes n q ≡ false → AreApart (m ∷ (if b then noted_for j notes ++ q ∷ [] else noted_for j notes))
    apart_now j false f e = c.apart j
    apart_now j true f e =
        let at : n ≡ j = eqb-true n j f in
        let none : IsNoneOf q (noted_for j notes) = subst (λ (i : ℕ). IsNoneOf q (noted_for i notes)) at (not_noted notes n q e) in
        (none_of_more (noted_for j notes) q m (c.apart j).0 (λ g. other (sym g)), apart_more (noted_for j notes) q (c.apart j).1 none)

    by_test : (b : Bool) → is_noted notes n q ≡ b → IsLeader sent m promised slots (if b then notes else notes ++ record { slot = n; member = q } ∷ [])
    by_test true e = c
    by_test false e =
        record {
          own = c.own;
          under = c.under;
          all = c.all;
          noted = λ k x f. noted_now k x (got_appended notes record { slot = n; member = q } k x f);
          apart = λ j. subst (λ (ks : List ℕ). AreApart (m ∷ ks)) (sym (noted_more j n q notes)) (apart_now j (n == j) refl e);
        }

-- who is noted for a slot said so
pub noted_says : (sent : List Sent) (promised : Ballot) (n : ℕ) (notes : List Note) → ((k : ℕ) (x : Note) → slice_get notes k ≡ Some x → Says sent x.member (Kept promised x.slot))
    → (j q : ℕ) → slice_get (noted_for n notes) j ≡ Some q → Says sent q (Kept promised n)
noted_says sent promised n [] f j q e = absurd (none_is_not e)
noted_says sent promised n (k ∷ notes) f j q e = by_test (k.slot == n) refl j e (noted_says sent promised n notes (λ i x g. f (suc i) x g))
  where
    by_test : (b : Bool) → (k.slot == n) ≡ b → (j : ℕ) → slice_get (if b then k.member ∷ noted_for n notes else noted_for n notes) j ≡ Some q
        → ((i p : ℕ) → slice_get (noted_for n notes) i ≡ Some p → Says sent p (Kept promised n)) → Says sent q (Kept promised n)
    by_test true g zero e ih =
        let same : k.member ≡ q = some_is e in
        subst (λ (p : ℕ). Says sent p (Kept promised n)) same (subst (λ (s : ℕ). Says sent k.member (Kept promised s)) (eqb-true k.slot n g) (f 0 k refl))
    by_test true g (suc i) e ih = ih i q e
    by_test false g i e ih = ih i q e
