-- A member applies the next slot.
use Rattle.std.proofs.Common.{◌≡◌, ℕ, zero, suc, ◌+◌, ◌-◌, ◌<◌, ◌≤◌, ◌⊎◌, inl, inr, Bool, true, false, List, [], ◌∷◌, ◌++◌, length, Some, arith, refl, sym, ap, ◌∙◌, subst}
use Rattle.std.specs.Prelude.{slice_get, ◌==◌, if◌then◌else◌}
use Rattle.std.proofs.lemmas.Bool.{cases_lt, eqb-true, eqb-false}
use Rattle.group_tables.specs.declared.messages.Ballot.{Ballot}
use Rattle.group_tables.specs.declared.messages.Body.{Body}
use Rattle.group_tables.specs.declared.messages.Body.TheVariants.{Put}
use Rattle.group_tables.specs.Groups.{Group, Member, member_at}
use Rattle.group_tables.specs.Rows.{with_told}
use Rattle.group_laws.specs.Said.{IsSaid, Voted}
use Rattle.group_laws.specs.Sound.{IsBlocked, IsVoted, IsStuck, IsPicked, HasApplied, IsSound}
use Rattle.group_laws.proofs.Ballots.{Compared, is_below, is_same, is_above, compare, up_to_itself}
use Rattle.group_laws.proofs.Lists.{got_appended, get_appended, get_last_at, get_inside, get_there}
use Rattle.group_laws.proofs.Majorities.{majorities_share}
use Rattle.group_laws.proofs.Moves.{Move, Rises, said_keeps}
use Rattle.group_laws.proofs.Moves as moves
use Rattle.group_laws.proofs.After.{applied_on}

-- two requests that majorities voted for at one slot are one
module _ (g : Group) (sound : IsSound g) where
  pub not_stuck : (b : Ballot) (n : ℕ) → IsVoted g b n → IsStuck g b n → ⊥
  not_stuck b n v k =
      let both = majorities_share (length g.members) (λ (q : ℕ). Voted g.sent q b n) (λ (q : ℕ). IsBlocked g.sent g.members b n q) v k in
      both.second.never both.first

  pub one_is_picked : (b c : Ballot) (n i j : ℕ) → IsSaid g.sent (Put b n i) → IsVoted g b n → IsSaid g.sent (Put c n j) → IsVoted g c n → i ≡ j
  one_is_picked b c n i j p v q w = by_order (compare b c)
    where
      lower : (i ≡ j) ⊎ IsStuck g b n → i ≡ j
      lower (inl e) = e
      lower (inr k) = absurd (not_stuck b n v k)

      higher : (j ≡ i) ⊎ IsStuck g c n → i ≡ j
      higher (inl e) = sym e
      higher (inr k) = absurd (not_stuck c n w k)

      by_order : Compared b c → i ≡ j
      by_order (is_below l) = lower (sound.safe c b n j i q p l)
      by_order (is_same e) = sound.net.one c n i j (subst (λ (d : Ballot). IsSaid g.sent (Put d n i)) e p) q
      by_order (is_above l) = higher (sound.safe b c n i j p q l)

  -- who has applied so much, that much is told
  pub applied_told : (m : ℕ) → 1 ≤ m → m ≤ length g.members → (member_at g m).applied ≤ length g.told
  applied_told m a b = by_count (member_at g m).applied refl
    where
      by_count : (n : ℕ) → (member_at g m).applied ≡ n → (member_at g m).applied ≤ length g.told
      by_count zero e = omega (arith, e)
      by_count (suc k) e =
          let h = sound.applied m k a b (omega (arith, e)) in
          let l = get_inside g.told k h.request h.told in
          omega (arith, e, l)

-- a slot that a majority voted for, where the member holds it
pub record IsNext (g : Group) (m : ℕ) (i : ℕ) : Type 0 where
  pub ballot : Ballot
  pub put : IsSaid g.sent (Put ballot ((member_at g m).applied + 1) i)
  pub voted : IsVoted g ballot ((member_at g m).applied + 1)
  pub there : slice_get (member_at g m).slots (member_at g m).applied ≡ Some record { ballot = ballot; request = i }

module _ (g : Group) (m i : ℕ) (least : 1 ≤ m) (most : m ≤ length g.members) (sound : IsSound g) (next : IsNext g m i) where
  pub told_keeps : (k j : ℕ) → slice_get g.told k ≡ Some j → slice_get (with_told g.told (member_at g m).applied i) k ≡ Some j
  told_keeps k j e = by_test ((member_at g m).applied == length g.told)
    where
      by_test : (b : Bool) → slice_get (if b then g.told ++ i ∷ [] else g.told) k ≡ Some j
      by_test true = get_appended g.told i k j e
      by_test false = e

  pub told_new : (k j : ℕ) → slice_get (with_told g.told (member_at g m).applied i) k ≡ Some j → (slice_get g.told k ≡ Some j) ⊎ IsPicked g (k + 1) j
  told_new k j = by_test ((member_at g m).applied == length g.told) refl
    where
      named : (member_at g m).applied ≡ length g.told → (slice_get g.told k ≡ Some j) ⊎ ((k ≡ length g.told) × (j ≡ i)) → (slice_get g.told k ≡ Some j) ⊎ IsPicked g (k + 1) j
      named f (inl e) = inl e
      named f (inr e) =
          inr (subst (λ (r : ℕ). IsPicked g (k + 1) r) (sym e.1)
          (subst (λ (n : ℕ). IsPicked g (n + 1) i) (f ∙ sym e.0) record { ballot = next.ballot; put = next.put; voted = next.voted }))

      by_test : (b : Bool) → ((member_at g m).applied == length g.told) ≡ b → slice_get (if b then g.told ++ i ∷ [] else g.told) k ≡ Some j → (slice_get g.told k ≡ Some j) ⊎ IsPicked g (k + 1) j
      by_test true f e = named (eqb-true (member_at g m).applied (length g.told) f) (got_appended g.told i k j e)
      by_test false f e = inl e

  -- what is told at the place behind the applied ones
  told_there : slice_get (with_told g.told (member_at g m).applied i) (member_at g m).applied ≡ Some i
  told_there = by_test ((member_at g m).applied == length g.told) refl
    where
      inside : ((member_at g m).applied ≡ length g.told → ⊥) → (member_at g m).applied < length g.told
      inside f = let l = applied_told g sound m least most in omega (arith, l, f)

      found : (j : ℕ) × (slice_get g.told (member_at g m).applied ≡ Some j) → slice_get g.told (member_at g m).applied ≡ Some i
      found t =
          let p = sound.told (member_at g m).applied t.0 t.1 in
          let same = one_is_picked g sound p.ballot next.ballot ((member_at g m).applied + 1) t.0 i p.put p.voted next.put next.voted in
          t.1 ∙ ap (λ (r : ℕ). Some r) same

      by_test : (b : Bool) → ((member_at g m).applied == length g.told) ≡ b → slice_get (if b then g.told ++ i ∷ [] else g.told) (member_at g m).applied ≡ Some i
      by_test true f = get_last_at g.told i (member_at g m).applied (eqb-true (member_at g m).applied (length g.told) f)
      by_test false f = found (get_there g.told (member_at g m).applied (inside (eqb-false (member_at g m).applied (length g.told) f)))

  -- one more is applied
  pub applies_more : (h : Group) (x : Member) (New : Body → Type 0) → Move g h m x New → Rises g m x New → h.told ≡ with_told g.told (member_at g m).applied i
      → (k : ℕ) → k < (member_at g m).applied + 1 → HasApplied h (member_at g m).slots k
  applies_more h x New move rises e k l = by_place (cases_lt k (member_at g m).applied)
    where
      keeps_told : (n j : ℕ) → slice_get g.told n ≡ Some j → slice_get h.told n ≡ Some j
      keeps_told n j f = subst (λ (told : List ℕ). slice_get told n ≡ Some j) (sym e) (told_keeps n j f)

      here : HasApplied h (member_at g m).slots (member_at g m).applied
      here =
          let back : ((member_at g m).applied + 1) - 1 ≡ (member_at g m).applied = omega arith in
          record {
            request = i;
            told = subst (λ (told : List ℕ). slice_get told (member_at g m).applied ≡ Some i) (sym e) told_there;
            picked = record {
              ballot = next.ballot;
              put = said_keeps move.grows.keeps _ next.put;
              voted = moves.voted g h m x New move rises next.ballot ((member_at g m).applied + 1) next.voted;
            };
            held = record {
              slot = record { ballot = next.ballot; request = i };
              there = subst (λ (n : ℕ). slice_get (member_at g m).slots n ≡ Some record { ballot = next.ballot; request = i }) (sym back) next.there;
              least = up_to_itself next.ballot;
            };
          }

      by_place : (k < (member_at g m).applied) ⊎ ((member_at g m).applied ≤ k) → HasApplied h (member_at g m).slots k
      by_place (inl a) = applied_on g h m x New move rises keeps_told (member_at g m).slots k (sound.applied m k least most a)
      by_place (inr a) = let at : (member_at g m).applied ≡ k = omega (arith, l, a) in subst (λ (n : ℕ). HasApplied h (member_at g m).slots n) at here
