-- Values shown, pair by pair.
use Rattle.std.proofs.Common.{◌≡◌, ◌≤◌, ap, ℕ, List, [], ◌∷◌, length, drop, refl}
use Rattle.std.proofs.Math.ListN.{drop_of_length-le}
use Rattle.rss_names.specs.declared.service.Key.{Key}
use Rattle.rss_model.specs.declared.op.Shown.{Shown}
use Rattle.rss_model.specs.Operation.{values_of}
use Rattle.rss_model.specs.Cursor.{Cursor}
use Rattle.rss_model.specs.CallStatement.{with_pairs}

-- where nothing more was shown nothing is set
pub nothing_shown : (at : Cursor) (pairs : List (ℕ × Key)) (shown : List Shown) (i : ℕ) →
    length shown ≤ i → with_pairs at pairs (values_of (drop i shown)) ≡ at
nothing_shown at [] shown i l = refl
nothing_shown at (p ∷ ps) shown i l =
    ap (λ left. with_pairs at (p ∷ ps) (values_of left)) (drop_of_length-le shown l)
