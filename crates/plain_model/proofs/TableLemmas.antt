-- The table that logged writes make.
use Rattle.std.proofs.Common.{◌≡◌, ℕ, List, [], ◌∷◌, ◌++◌, refl}
use Rattle.rss_names.specs.declared.service.Key.{Key}
use Rattle.rss_model.specs.declared.op.Shown.{Shown}
use Rattle.rss_model.specs.Legal.{shown_after}
use Rattle.plain_model.specs.Written.{one_over, shown_over, logged}

-- more writes are made over those so far
pub shown_over-append : (shown : Shown) (xs : List Shown) (ys : List Shown) →
    shown_over shown (xs ++ ys) ≡ shown_over (shown_over shown xs) ys
shown_over-append shown [] ys = refl
shown_over-append shown (x ∷ xs) ys = shown_over-append (one_over shown x) xs ys

-- the logged writes of a call make what the model says
pub shown_over-logged : (shown : Shown) (call : ℕ) (writes : List (Key × ℕ)) →
    shown_over shown (logged call writes) ≡ shown_after shown call writes
shown_over-logged shown call [] = refl
shown_over-logged shown call (write ∷ writes) =
    shown_over-logged (one_over shown (record { key = write.0; value = write.1; writer = call })) call writes

pub ruleset writes_made = (shown_over-append, shown_over-logged)
