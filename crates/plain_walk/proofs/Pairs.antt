-- Two lists, pair by pair.
use Rattle.std.proofs.Common.{◌≡◌, ◌≢◌, ◌≤◌, ◌∙◌, ap, ℕ, suc, ◌<◌, ◌+◌, Bool, false, List, [], ◌∷◌, length, get_or, drop, refl, arith, add-one, drop-cons}
use Rattle.std.proofs.Math.ListN.{drop_of_length-le}
use Rattle.std.specs.Prelude.{◌&&◌}
use Rattle.rss_names.specs.declared.service.Key.{Key}
use Rattle.rss_names.specs.Services.{same_key}
use Rattle.pipeline_lang.specs.declared.script.Expr.{Expr}
use Rattle.rss_model.specs.declared.op.Shown.{Shown}
use Rattle.rss_model.specs.Operation.{values_of}
use Rattle.rss_model.specs.Cursor.{Cursor}
use Rattle.rss_model.specs.CallStatement.{bound_formula, with_pairs}
use Rattle.script_laws.specs.SameOps.{same_keys, same_expr, same_writes}
use Rattle.plain_walk.specs.Operations.{keys_of, bound_writes}

and_false : (b : Bool) → (b && false) ≡ false
and_false b = grind arith

pub keys_differ : (pairs : List (ℕ × Key)) (keys : List Key) → length pairs ≢ length keys →
    same_keys (keys_of pairs) keys ≡ false
keys_differ [] [] n = absurd (n refl)
keys_differ [] (k ∷ ks) n = refl
keys_differ (p ∷ ps) [] n = refl
keys_differ (p ∷ ps) (k ∷ ks) n =
    ap (λ b. same_key p.1 k && b) (keys_differ ps ks (λ e. n (ap suc e))) ∙ and_false (same_key p.1 k)

pub keys_at : (pairs : List (ℕ × Key)) (keys : List Key) (i : ℕ) (pair : ℕ × Key) (key : Key) →
    i < length pairs → i < length keys →
    same_keys (keys_of (drop i pairs)) (drop i keys) ≡
    (same_key (get_or pairs i pair).1 (get_or keys i key) && same_keys (keys_of (drop (i + 1) pairs)) (drop (i + 1) keys))
keys_at pairs keys i pair key l m =
    rw (add-one, drop-cons pairs i pair, drop-cons keys i key) refl

pub writes_differ : (pairs : List (ℕ × Key)) (variables : List ℕ) (writes others : List (Key × Expr ℕ)) →
    length writes ≢ length others → same_writes (bound_writes pairs variables writes) others ≡ false
writes_differ pairs variables [] [] n = absurd (n refl)
writes_differ pairs variables [] (k ∷ ks) n = refl
writes_differ pairs variables (p ∷ ps) [] n = refl
writes_differ pairs variables (p ∷ ps) (k ∷ ks) n =
    let is : Bool = same_key p.0 k.0 && same_expr (bound_formula pairs variables p.1) k.1 in
    ap (λ b. is && b) (writes_differ pairs variables ps ks (λ e. n (ap suc e))) ∙ and_false is

pub writes_at : (pairs : List (ℕ × Key)) (variables : List ℕ) (writes others : List (Key × Expr ℕ)) (i : ℕ) (write other : Key × Expr ℕ) →
    i < length writes → i < length others →
    same_writes (bound_writes pairs variables (drop i writes)) (drop i others) ≡
    ((same_key (get_or writes i write).0 (get_or others i other).0
    && same_expr (bound_formula pairs variables (get_or writes i write).1) (get_or others i other).1)
    && same_writes (bound_writes pairs variables (drop (i + 1) writes)) (drop (i + 1) others))
writes_at pairs variables writes others i write other l m =
    rw (add-one, drop-cons writes i write, drop-cons others i other) refl

-- where nothing more was shown nothing is set
pub nothing_shown : (at : Cursor) (pairs : List (ℕ × Key)) (shown : List Shown) (i : ℕ) →
    length shown ≤ i → with_pairs at pairs (values_of (drop i shown)) ≡ at
nothing_shown at [] shown i l = refl
nothing_shown at (p ∷ ps) shown i l =
    ap (λ left. with_pairs at (p ∷ ps) (values_of left)) (drop_of_length-le shown l)
