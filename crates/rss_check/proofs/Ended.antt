-- Ended mutations, by what is found of a call, and entries by their places.
use Rattle.std.proofs.Common.{◌≡◌, ◌∙◌, sym, ap, refl, subst, ℕ, ◌<◌, Bool, true, false, List, length, get_or, Some, None}
use Rattle.std.specs.Prelude.{if◌then◌else◌}
use Rattle.std.proofs.lemmas.Option.{get_or_from_slice_get, slice_get-get_or}
use Rattle.rss_names.specs.declared.service.Key.{Key}
use Rattle.rss_model.specs.declared.op.Op.{Op}
use Rattle.rss_model.specs.declared.history.Entry.{Entry}
use Rattle.rss_model.specs.declared.history.Entry.TheVariants.{Over}
use Rattle.rss_model.specs.declared.history.How.TheVariants.{Exited}
use Rattle.rss_model.specs.Operation.{reads_of}
use Rattle.rss_model.specs.History.{entry_at, op_of}
use Rattle.rss_model.specs.Mutation.{is_mutation}
use Rattle.plain_model.specs.Found.{found_op}
use Rattle.plain_model.proofs.FoundLemmas.{HasBegun, found_op-is}
use Rattle.rss_check.specs.Tops.{Tops, no_tops, tops_at}
use Rattle.rss_check.specs.Bad.{Latest, no_latest, latest_at, with_ended, ended_latest, greatest_of, time_bound}
use Rattle.rss_check.proofs.Steps.{same_tops, same_latest}

then_is : {A : Type 0} (b : Bool) (x y : A) → b ≡ true → x ≡ (if b then x else y)
then_is true x y e = refl
then_is false x y e = absurd cc

else_is : {A : Type 0} (b : Bool) (x y : A) → b ≡ false → y ≡ (if b then x else y)
else_is true x y e = absurd cc
else_is false x y e = refl

op_is : (h : List Entry) (call : ℕ) (op : Op) → Some op ≡ found_op h call → op ≡ op_of h call
op_is h call op e = let begun : HasBegun h call (Some op) = subst (HasBegun h call) (sym e) (found_op-is h call) in sym begun.1

pub bound_by : (h : List Entry) (latest : Latest) (call : ℕ) (op : Op) → is_mutation h call ≡ false → Some op ≡ found_op h call → greatest_of latest.written (reads_of op) ≡ time_bound h latest call
bound_by h latest call op m e =
    ap (λ (o : Op). greatest_of latest.written (reads_of o)) (op_is h call op e) ∙
    else_is (is_mutation h call) latest.any (greatest_of latest.written (reads_of (op_of h call))) m

pub bound_none : (h : List Entry) (latest : Latest) (call : ℕ) → is_mutation h call ≡ false → None ≡ found_op h call → 0 ≡ time_bound h latest call
bound_none h latest call m e =
    let begun : HasBegun h call None = subst (HasBegun h call) (sym e) (found_op-is h call) in
    ap (λ (o : Op). greatest_of latest.written (reads_of o)) (sym begun.1) ∙
    else_is (is_mutation h call) latest.any (greatest_of latest.written (reads_of (op_of h call))) m

pub ended_mutation : (h : List Entry) (place : ℕ → ℕ) (latest : Latest) (call : ℕ) (op : Op) (n : ℕ) → is_mutation h call ≡ true → Some op ≡ found_op h call → n ≡ place call → with_ended latest op n ≡ ended_latest h place latest call
ended_mutation h place latest call op n m e p =
    ap (λ (x : ℕ). with_ended latest op x) p ∙
    ap (λ (o : Op). with_ended latest o (place call)) (op_is h call op e) ∙
    then_is (is_mutation h call) (with_ended latest (op_of h call) (place call)) latest m

pub ended_other : (h : List Entry) (place : ℕ → ℕ) (latest : Latest) (call : ℕ) → is_mutation h call ≡ false → latest ≡ ended_latest h place latest call
ended_other h place latest call m = else_is (is_mutation h call) (with_ended latest (op_of h call) (place call)) latest m

-- the entry that a loop comes to
pub entry_is : (h : List Entry) (i : ℕ) (e : Entry) → i < length h → e ≡ get_or h i e → entry_at h i ≡ e
entry_is h i e l x = get_or_from_slice_get h i e (Over 0 Exited) (slice_get-get_or h i e l ∙ ap Some (sym x))

module _ (h : List Entry) (place : ℕ → ℕ) where
  -- at first nothing is behind, and no mutation has ended
  pub tops_first : (new : Tops) → ((s : ℕ) → new.stage s ≡ 0) → ((t : _) → new.message t ≡ 0) → new ≡ tops_at h place 0
  unfolding tops_at
  tops_first new s m = same_tops new no_tops s m

  pub latest_first : (new : Latest) → new.any ≡ 0 → ((key : Key) → new.written key ≡ 0) → new ≡ latest_at h place 0
  unfolding latest_at
  latest_first new a w = same_latest new no_latest a w
