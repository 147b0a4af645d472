-- The tables' owners, of the views that the code keeps.
use Rattle.std.proofs.Common.{◌≡◌, ℕ, ◌<◌, ◌≤◌, ◌-◌, ◌+◌, ◌++◌, List, [], ◌∷◌, zero, suc, length, get_or, set, map, refl, sym, ap, ◌∙◌, arith}
use Rattle.std.proofs.lemmas.List.{get_or_at, get_or_default, map-append, map-set, get_or-set_same, length-map}
use Rattle.rss_machine.specs.State.{Owner, no_owner}
use Rattle.owner_turns.specs.Whole.{OwnerView}
use Rattle.world_traffic.specs.View.{row_of, rows_of, no_view}

-- an owner that is put
pub put_row : (each : List OwnerView) (number : ℕ) (w : OwnerView) → 1 ≤ number → rows_of (set each (number - 1) w) ≡ set (rows_of each) number w.row
put_row each zero w h = absurd (omega (arith, h))
put_row each (suc n) w h =
    let place : suc n - 1 ≡ n = omega arith in
    ap (λ (i : ℕ). rows_of (set each i w)) place ∙ ap (λ (l : List Owner). no_owner ∷ l) (map-set row_of each n w)

-- an owner that stands there
pub got_row : (each : List OwnerView) (number : ℕ) (w : OwnerView) → 1 ≤ number → number < length (rows_of each) → w ≡ get_or each (number - 1) w → get_or (rows_of each) number no_owner ≡ w.row
got_row each zero w f h e = absurd (omega (arith, f))
got_row each (suc n) w f h e =
    let place : suc n - 1 ≡ n = omega arith in
    found each n (omega (arith, h)) ∙ ap (λ (i : ℕ). row_of (get_or each i w)) (sym place) ∙ ap row_of (sym e)
  where
    found : (xs : List OwnerView) (i : ℕ) → i < length (map row_of xs) → get_or (map row_of xs) i no_owner ≡ row_of (get_or xs i w)
    found [] i g = absurd (omega (arith, g))
    found (x ∷ xs) zero g = refl
    found (x ∷ xs) (suc i) g = found xs i (omega (arith, g))

-- no owner stands behind the last one
pub no_row : (each : List OwnerView) (number : ℕ) → 1 ≤ number → length each ≤ number - 1 → get_or (rows_of each) number no_owner ≡ no_owner
no_row each zero h l = absurd (omega (arith, h))
no_row each (suc n) h l = beyond each n (omega (arith, l))
  where
    beyond : (xs : List OwnerView) (i : ℕ) → length xs ≤ i → get_or (map row_of xs) i no_owner ≡ no_owner
    beyond [] i m = refl
    beyond (x ∷ xs) zero m = absurd (omega (arith, m))
    beyond (x ∷ xs) (suc i) m = beyond xs i (omega (arith, m))

-- one more owner
pub more_row : (each : List OwnerView) (w : OwnerView) → rows_of (each ++ w ∷ []) ≡ rows_of each ++ w.row ∷ []
more_row each w = ap (λ (l : List Owner). no_owner ∷ l) (map-append row_of each (w ∷ []))

pub many_rows : (each : List OwnerView) → length (rows_of each) ≡ length each + 1
many_rows each = ap (λ (n : ℕ). suc n) (length-map each row_of) ∙ omega arith

-- the view of the last one
pub last_view : (each : List OwnerView) (w : OwnerView) (number : ℕ) → number ≡ length each + 1 → get_or (each ++ w ∷ []) (number - 1) no_view ≡ w
last_view each w number e =
    let place : length each ≡ number - 1 = omega (arith, e) in
    get_or_at each w [] no_view (number - 1) place

pub ruleset more_rows = (more_row, many_rows, last_view)

-- the view of an owner that stands there
pub got_view : (each : List OwnerView) (number : ℕ) (w : OwnerView) → number - 1 < length each → w ≡ get_or each (number - 1) w → get_or each (number - 1) no_view ≡ w
got_view each number w h e = get_or_default each (number - 1) no_view w h ∙ sym e

-- an owner whose room alone has changed
pub same_row : (each : List OwnerView) (number : ℕ) (w v : OwnerView) → 1 ≤ number → number < length (rows_of each) → w ≡ get_or each (number - 1) w → v.row ≡ w.row → rows_of (set each (number - 1) v) ≡ rows_of each
same_row each zero w v f h e g = absurd (omega (arith, f))
same_row each (suc n) w v f h e g =
    let place : suc n - 1 ≡ n = omega arith in
    ap (λ (i : ℕ). rows_of (set each i v)) place ∙ ap (λ (l : List Owner). no_owner ∷ l) (kept each n (omega (arith, h)) (e ∙ ap (λ (i : ℕ). get_or each i w) place))
  where
    kept : (xs : List OwnerView) (i : ℕ) → i < length (map row_of xs) → w ≡ get_or xs i w → map row_of (set xs i v) ≡ map row_of xs
    kept [] i l q = absurd (omega (arith, l))
    kept (x ∷ xs) zero l q = ap (λ (y : Owner). y ∷ map row_of xs) (g ∙ ap row_of q)
    kept (x ∷ xs) (suc i) l q = ap (λ (ys : List Owner). row_of x ∷ ys) (kept xs i (omega (arith, l)) q)

pub ruleset same_rows = (same_row)

-- the view of an owner that was put
pub put_view : (each : List OwnerView) (number : ℕ) (w : OwnerView) → number - 1 < length each → get_or (set each (number - 1) w) (number - 1) no_view ≡ w
put_view each number w h = get_or-set_same each (number - 1) w no_view h

pub ruleset rows = (put_row, got_row, got_view, put_view)

pub ruleset founds = (got_row, no_row, many_rows)
