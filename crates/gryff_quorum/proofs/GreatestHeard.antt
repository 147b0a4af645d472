-- The greatest cell heard is one of those heard, and none is above it.
use Rattle.std.proofs.Common.{◌≡◌, ℕ, suc, zero, Bool, true, false, List, [], ◌∷◌, ◌⊎◌, inl, inr, Option, Some, None, refl, arith, sym, ◌∙◌}
use Rattle.std.proofs.lemmas.Grind.{common_steps}
use Rattle.carstamps.specs.Stamp.{IsAtMost, stamp_lt}
use Rattle.carstamps.specs.declared.carstamp.Carstamp.{Carstamp}
use Rattle.rss_wire.specs.declared.messages.RegReply.{RegReply}
use Rattle.rss_tables.specs.Round.{Round, greater_cell, greatest_after, greatest_heard}
use Rattle.gryff_quorum.specs.Heard.{heard_at, IsCellAtMost, IsGreatest}

-- the order of cells is a preorder
at_most-refl : (a : Option RegReply) → IsCellAtMost a a
at_most-refl None = tt
at_most-refl (Some a) = inr (refl, omega arith)

stamps_at_most-trans : (a b c : Carstamp) → IsAtMost a b → IsAtMost b c → IsAtMost a c
stamps_at_most-trans a b c p q = grind (arith, common_steps)

at_most-trans : (a b c : Option RegReply) → IsCellAtMost a b → IsCellAtMost b c → IsCellAtMost a c
at_most-trans None b c p q = tt
at_most-trans (Some a) None c p q = absurd p
at_most-trans (Some a) (Some b) None p q = absurd q
at_most-trans (Some a) (Some b) (Some c) p q = stamps_at_most-trans a.stamp b.stamp c.stamp p q

-- the greater of two cells is at least each
greater-above_best : (best : Option RegReply) (cell : RegReply) → IsCellAtMost best (Some (greater_cell best cell))
greater-above_best None cell = tt
greater-above_best (Some best) cell = go (stamp_lt best.stamp cell.stamp) refl
  where
    go : (b : Bool) → stamp_lt best.stamp cell.stamp ≡ b → IsAtMost best.stamp (greater_cell (Some best) cell).stamp
    go true e = grind (arith, common_steps, e)
    go false e = grind (arith, common_steps, e)

greater-above_cell : (best : Option RegReply) (cell : RegReply) → IsCellAtMost (Some cell) (Some (greater_cell best cell))
greater-above_cell None cell = inr (refl, omega arith)
greater-above_cell (Some best) cell = go (stamp_lt best.stamp cell.stamp) refl
  where
    go : (b : Bool) → stamp_lt best.stamp cell.stamp ≡ b → IsAtMost cell.stamp (greater_cell (Some best) cell).stamp
    go true e = grind (arith, common_steps, e)
    go false e = grind (arith, common_steps, e)

-- the best so far only grows
greatest-above_best : (best : Option RegReply) (heard : List (Option RegReply)) → IsCellAtMost best (greatest_after best heard)
greatest-above_best best [] = at_most-refl best
greatest-above_best best (None ∷ heard) = greatest-above_best best heard
greatest-above_best best (Some cell ∷ heard) =
    at_most-trans best (Some (greater_cell best cell)) _
    (greater-above_best best cell)
    (greatest-above_best (Some (greater_cell best cell)) heard)

-- and in the end it is at least each cell heard
greatest-above_heard : (best : Option RegReply) (heard : List (Option RegReply)) (at : ℕ) → IsCellAtMost (heard_at heard at) (greatest_after best heard)
greatest-above_heard best [] at = tt
greatest-above_heard best (None ∷ heard) zero = tt
greatest-above_heard best (None ∷ heard) (suc at) = greatest-above_heard best heard at
greatest-above_heard best (Some cell ∷ heard) zero =
    at_most-trans (Some cell) (Some (greater_cell best cell)) _
    (greater-above_cell best cell)
    (greatest-above_best (Some (greater_cell best cell)) heard)
greatest-above_heard best (Some cell ∷ heard) (suc at) = greatest-above_heard (Some (greater_cell best cell)) heard at

-- a cell is the best one so far, or it was heard
greater-one : (best : Option RegReply) (cell : RegReply) → (Some (greater_cell best cell) ≡ best) ⊎ (greater_cell best cell ≡ cell)
greater-one None cell = inr refl
greater-one (Some best) cell = go (stamp_lt best.stamp cell.stamp) refl
  where
    go : (b : Bool) → stamp_lt best.stamp cell.stamp ≡ b → (Some (greater_cell (Some best) cell) ≡ Some best) ⊎ (greater_cell (Some best) cell ≡ cell)
    go true e = inr (grind (arith, common_steps, e))
    go false e = inl (grind (arith, common_steps, e))

-- the greatest cell is the best one before, or it was heard
greatest-one : (best : Option RegReply) (heard : List (Option RegReply)) (cell : RegReply) → greatest_after best heard ≡ Some cell → (best ≡ Some cell) ⊎ ((at : ℕ) × (heard_at heard at ≡ Some cell))
greatest-one best [] cell e = inl e
greatest-one best (None ∷ heard) cell e = elim (greatest-one best heard cell e) [ inl p ↦ inl p | inr p ↦ inr (suc p.0, p.1) ]
greatest-one best (Some other ∷ heard) cell e = go (greatest-one (Some (greater_cell best other)) heard cell e) (greater-one best other)
  where
    go : ((Some (greater_cell best other) ≡ Some cell) ⊎ ((at : ℕ) × (heard_at heard at ≡ Some cell))) → ((Some (greater_cell best other) ≡ best) ⊎ (greater_cell best other ≡ other)) → (best ≡ Some cell) ⊎ ((at : ℕ) × (heard_at (Some other ∷ heard) at ≡ Some cell))
    go (inl p) (inl q) = inl (sym q ∙ p)
    go (inl p) (inr q) = inr (0, cc)
    go (inr p) q = inr (suc p.0, p.1)

pub greatest_is_greatest : (round : Round) → IsGreatest round.heard (greatest_heard round)
greatest_is_greatest round = record {
  none_above = λ at. greatest-above_heard None round.heard at;
  was_heard = λ cell e. elim (greatest-one None round.heard cell e) [ inl p ↦ cc | inr p ↦ p ];
}
