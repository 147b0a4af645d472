-- What tables by number hold when one more value is noted.
use Rattle.std.proofs.Common.{◌≡◌, ℕ, List, ap, ◌∙◌}
use Rattle.std.specs.Prelude.{Option}
use Rattle.rss_model.specs.declared.history.Entry.{Entry}
use Rattle.rss_model.specs.History.{begins, ends}
use Rattle.call_tables.specs.Tables.{held, first_of, found_from}

-- what is noted over a table that was made longer
pub after : (x y : Option ℕ) (z w : Option ℕ) → y ≡ x → w ≡ first_of y z → w ≡ first_of x z
after x y z w e f = f ∙ ap (λ (t : Option ℕ). first_of t z) e

pub ruleset noted = (after)

-- what is noted of the entries so far and what is left are the whole
pub record AreNoted (h : List Entry) (at : ℕ) (rest : List Entry) (begun ended : List (Option ℕ)) : Type 0 where
  pub beginning : (call : ℕ) → first_of (held begun call) (found_from begins at rest call) ≡ found_from begins 0 h call
  pub ending : (call : ℕ) → first_of (held ended call) (found_from ends at rest call) ≡ found_from ends 0 h call
