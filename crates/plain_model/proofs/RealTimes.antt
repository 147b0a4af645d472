-- What the tests of real time decide.
use Rattle.std.proofs.Common.{◌≡◌, sym, ℕ, zero, suc, List, [], ◌∷◌, map, Bool, true, false, refl, arith, subst, Some, None, ◌⊎◌, inl, inr}
use Rattle.std.specs.Prelude.{◌||◌, Option, Contains, IsTrue}
use Rattle.std.specs.Bool.{Decides}
use Rattle.std.proofs.lemmas.Bool.{false≢true}
use Rattle.std.proofs.lemmas.Bool.Decides.{Decides-and, Decides-or, Decides-like}
use Rattle.rss_names.specs.declared.service.Key.{Key}
use Rattle.rss_names.proofs.Services.{same_key-Decides}
use Rattle.pipeline_lang.specs.declared.script.Expr.{Expr}
use Rattle.rss_model.specs.declared.op.Op.{Op}
use Rattle.rss_model.specs.declared.op.Op.TheVariants.{Read, Write, Snap, Txn}
use Rattle.rss_model.specs.declared.history.Entry.{Entry}
use Rattle.rss_model.specs.Operation.{reads_of, writes_of}
use Rattle.rss_model.specs.History.{begins, ends, op_of, BeginsAt}
use Rattle.rss_model.specs.Mutation.{is_mutation}
use Rattle.rss_model.specs.RealTime.{BeforeInRealTime}
use Rattle.plain_model.specs.Found.{found_op}
use Rattle.plain_model.specs.Orders.{begins_after, has_key, reads_key, reads_one_of, reads_written, meets_writes, follows}
use Rattle.plain_model.proofs.FoundLemmas.{HasBegun, found_op-is}
use Rattle.plain_model.proofs.Lists.{in_head_or_tail, head_or_tail_of}

itself : (b : Bool) → Decides b (b ≡ true)
itself b = (λ t. t, λ t. t)

module _ (a b : ℕ) where
  -- b begins where a has ended before, or behind the End of a
  abbrev AfterEnd : Bool → List Entry → Type 0
  AfterEnd ended h =
      ((ended ≡ true) × ((j : ℕ) × BeginsAt h b j)) ⊎ BeforeInRealTime h a b

  abbrev First : Bool → Entry → List Entry → Type 0
  First ended e h =
      ((ended ≡ true) × (begins b e ≡ true)) ⊎ AfterEnd (ended || ends a e) h

  after_cons : (ended : Bool) (e : Entry) (h : List Entry) → First ended e h → AfterEnd ended (e ∷ h)
  after_cons ended e h (inl (x, y)) = inl (x, (0, y))
  after_cons ended e h (inr (inl (x, (j, y)))) =
      by_part ((Decides-or ended (ends a e) (itself _) (itself _)).0 x)
    where
      by_part : (ended ≡ true) ⊎ (ends a e ≡ true) → AfterEnd ended (e ∷ h)
      by_part (inl m) = inl (m, (suc j, y))
      by_part (inr m) = inr (0, suc j, m, y, omega arith)
  after_cons ended e h (inr (inr (i, j, x, y, l))) = inr (suc i, suc j, x, y, omega (arith, l))

  after_uncons : (ended : Bool) (e : Entry) (h : List Entry) → AfterEnd ended (e ∷ h) → First ended e h
  after_uncons ended e h (inl (x, (zero, y))) = inl (x, y)
  after_uncons ended e h (inl (x, (suc j, y))) =
      inr (inl ((Decides-or ended (ends a e) (itself _) (itself _)).1 (inl x), (j, y)))
  after_uncons ended e h (inr (zero, zero, x, y, l)) = absurd (omega (arith, l))
  after_uncons ended e h (inr (zero, suc j, x, y, l)) =
      inr (inl ((Decides-or ended (ends a e) (itself _) (itself _)).1 (inr x), (j, y)))
  after_uncons ended e h (inr (suc i, zero, x, y, l)) = absurd (omega (arith, l))
  after_uncons ended e h (inr (suc i, suc j, x, y, l)) = inr (inr (i, j, x, y, omega (arith, l)))

  begins_after-Decides : (ended : Bool) (h : List Entry) →
      Decides (begins_after a b ended h) (AfterEnd ended h)
  begins_after-Decides ended [] = (λ t. absurd (false≢true t), λ x. absurd (nowhere x))
    where
      nowhere : AfterEnd ended [] → ⊥
      nowhere (inl (x, (j, y))) = false≢true y
      nowhere (inr (i, j, x, y, l)) = false≢true y
  begins_after-Decides ended (e ∷ h) =
      Decides-like _ (after_cons ended e h) (after_uncons ended e h)
      (Decides-or _ _ (Decides-and _ _ (itself ended) (itself (begins b e)))
      (begins_after-Decides (ended || ends a e) h))

  not_ended : (h : List Entry) → AfterEnd false h → BeforeInRealTime h a b
  not_ended h (inl (x, y)) = absurd (false≢true x)
  not_ended h (inr t) = t

  pub real_time-Decides : (h : List Entry) → Decides (begins_after a b false h) (BeforeInRealTime h a b)
  real_time-Decides h = Decides-like _ (not_ended h) (λ t. inr t) (begins_after-Decides false h)

has_key-Decides : (keys : List Key) (key : Key) → Decides (has_key keys key) (Contains keys key)
has_key-Decides [] key = (λ t. absurd (false≢true t), λ w. absurd (omega (arith, w.1)))
has_key-Decides (k ∷ keys) key =
    Decides-like _ (in_head_or_tail k keys key) (head_or_tail_of k keys key)
    (Decides-or _ _ (same_key-Decides k key) (has_key-Decides keys key))

none : {X : Type 0} (x : X) → ¬ Contains [] x
none x w = omega (arith, w.1)

alone : (k key : Key) → Contains (k ∷ []) key → k ≡ key
alone k key w = by_part (head_or_tail_of k [] key w)
  where
    by_part : (k ≡ key) ⊎ Contains [] key → k ≡ key
    by_part (inl e) = e
    by_part (inr w) = absurd (none key w)

reads_key-Decides : (op : Op) (key : Key) → Decides (reads_key op key) (Contains (reads_of op) key)
reads_key-Decides (Read k) key =
    Decides-like _ (λ e. in_head_or_tail k [] key (inl e)) (alone k key) (same_key-Decides k key)
reads_key-Decides (Write k value) key = (λ t. absurd (false≢true t), λ w. absurd (none key w))
reads_key-Decides (Snap keys) key = has_key-Decides keys key
reads_key-Decides (Txn keys guard writes) key = has_key-Decides keys key

-- an operation reads a key that is among these
abbrev Shares : Op → List Key → Type 0
Shares op keys = (key : Key) × Contains (reads_of op) key × Contains keys key

shares_cons : (op : Op) (k : Key) (keys : List Key) → Contains (reads_of op) k ⊎ Shares op keys →
    Shares op (k ∷ keys)
shares_cons op k keys (inl r) = (k, r, in_head_or_tail k keys k (inl refl))
shares_cons op k keys (inr (key, r, w)) = (key, r, in_head_or_tail k keys key (inr w))

shares_uncons : (op : Op) (k : Key) (keys : List Key) → Shares op (k ∷ keys) →
    Contains (reads_of op) k ⊎ Shares op keys
shares_uncons op k keys (key, r, w) = by_part (head_or_tail_of k keys key w)
  where
    by_part : (k ≡ key) ⊎ Contains keys key → Contains (reads_of op) k ⊎ Shares op keys
    by_part (inl e) = inl (subst (Contains (reads_of op)) (sym e) r)
    by_part (inr x) = inr (key, r, x)

reads_one_of-Decides : (op : Op) (writes : List (Key × Expr ℕ)) →
    Decides (reads_one_of op writes) (Shares op (map (λ write. write.0) writes))
reads_one_of-Decides op [] =
    (λ t. absurd (false≢true t), λ s. absurd (none s.0 s.2))
reads_one_of-Decides op (write ∷ writes) =
    Decides-like _ (shares_cons op write.0 (map (λ write. write.0) writes))
    (shares_uncons op write.0 (map (λ write. write.0) writes))
    (Decides-or _ _ (reads_key-Decides op write.0) (reads_one_of-Decides op writes))

reads_written-Decides : (op mutation : Op) →
    Decides (reads_written op mutation) (Shares op (writes_of mutation))
reads_written-Decides op (Read key) = (λ t. absurd (false≢true t), λ s. absurd (none s.0 s.2))
reads_written-Decides op (Write key value) =
    Decides-like _ (λ r. shares_cons op key [] (inl r)) (λ s. by_part (shares_uncons op key [] s))
    (reads_key-Decides op key)
  where
    by_part : Contains (reads_of op) key ⊎ Shares op [] → Contains (reads_of op) key
    by_part (inl r) = r
    by_part (inr s) = absurd (none s.0 s.2)
reads_written-Decides op (Snap keys) = (λ t. absurd (false≢true t), λ s. absurd (none s.0 s.2))
reads_written-Decides op (Txn keys guard writes) = reads_one_of-Decides op writes

-- a call reads a key that another one writes
abbrev pub ReadsWritten : List Entry → ℕ → ℕ → Type 0
ReadsWritten h read mutation = Shares (op_of h read) (writes_of (op_of h mutation))

meets_writes-Decides : (h : List Entry) (read mutation : ℕ) →
    Decides (meets_writes (found_op h read) (found_op h mutation)) (ReadsWritten h read mutation)
meets_writes-Decides h read mutation =
    by_found (found_op h read) (found_op h mutation) (found_op-is h read) (found_op-is h mutation)
  where
    by_found : (o p : Option Op) → HasBegun h read o → HasBegun h mutation p →
        Decides (meets_writes o p) (ReadsWritten h read mutation)
    by_found None p f g = (
      λ t. absurd (false≢true t),
      λ s. absurd (none s.0 (subst (λ (o : Op). Contains (reads_of o) s.0) f.1 s.1)),
    )
    by_found (Some op) None f g = (
      λ t. absurd (false≢true t),
      λ s. absurd (none s.0 (subst (λ (o : Op). Contains (writes_of o) s.0) g.1 s.2)),
    )
    by_found (Some op) (Some other) f g =
        subst (λ (o : Op). Decides (reads_written op other) (Shares o (writes_of (op_of h mutation)))) (sym f.1)
        (subst (λ (o : Op). Decides (reads_written op other) (Shares op (writes_of o))) (sym g.1)
        (reads_written-Decides op other))

-- a is an ended mutation, and b began later and is a mutation or a read of what a writes
abbrev pub MustFollow : List Entry → ℕ → ℕ → Type 0
MustFollow h a b =
    BeforeInRealTime h a b ×
    (IsTrue (is_mutation h a) × (IsTrue (is_mutation h b) ⊎ ReadsWritten h b a))

pub follows-Decides : (h : List Entry) (a b : ℕ) → Decides (follows h a b) (MustFollow h a b)
follows-Decides h a b =
    Decides-and _ _ (real_time-Decides a b h)
    (Decides-and _ _ (itself (is_mutation h a))
    (Decides-or _ _ (itself (is_mutation h b)) (meets_writes-Decides h b a)))
