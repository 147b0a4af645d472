-- In a legal order the writers that are read from stand before their readers.
use Rattle.std.proofs.Common.{◌≡◌, ℕ, zero, suc, ◌<◌, ◌≤◌, ◌⊎◌, inl, inr, Bool, true, false, List, [], ◌∷◌, length, get_or, arith, refl, sym, ap, ◌∙◌, subst}
use Rattle.std.specs.Prelude.{map, Some}
use Rattle.std.proofs.lemmas.Bool.{cond_both}
use Rattle.std.proofs.lemmas.Option.{slice_get_within, slice_get-get_or}
use Rattle.rss_names.specs.declared.service.Key.{Key}
use Rattle.rss_model.specs.declared.op.Shown.{Shown}
use Rattle.rss_model.specs.declared.history.Entry.{Entry}
use Rattle.rss_names.specs.Services.{same_key}
use Rattle.rss_model.specs.Operation.{reads_of, written_by, values_of}
use Rattle.rss_model.specs.History.{has_ended, op_of, reply_of}
use Rattle.rss_model.specs.Mutation.{is_mutation}
use Rattle.rss_model.specs.Causality.{ReadsFrom}
use Rattle.rss_model.specs.Candidate.{StandsAt}
use Rattle.rss_model.specs.Legal.{Table, Legal, shown_by, shown_after, table_after, table_at}
use Rattle.rss_model.proofs.OrderLemmas.{StandsAbove}

-- a call without End has no reply
reply_of-none : (h : List Entry) (call : ℕ) → has_ended h call ≡ false → reply_of h call ≡ []
unfolding has_ended reply_of
reply_of-none [] call e = refl
reply_of-none (x ∷ h) call e = grind (arith, e, reply_of-none h call)

-- the writer of a key after a call's writes is the call, or the one before
pub writer_after : (call : ℕ) (writes : List (Key × ℕ)) (shown : Shown) →
    ((shown_after shown call writes).writer ≡ shown.writer) ⊎ ((shown_after shown call writes).writer ≡ call)
writer_after call [] shown = inl refl
writer_after call (write ∷ writes) shown =
    cond_both (same_key shown.key write.0) (record shown { value = write.1; writer = call }) shown
    (λ (s : Shown). ((shown_after s call writes).writer ≡ shown.writer) ⊎ ((shown_after s call writes).writer ≡ call))
    (λ e. by_rest (writer_after call writes (record shown { value = write.1; writer = call })))
    (λ e. writer_after call writes shown)
  where
    by_rest : {x : ℕ} → (x ≡ call) ⊎ (x ≡ call) → (x ≡ shown.writer) ⊎ (x ≡ call)
    by_rest (inl e) = inr e
    by_rest (inr e) = inr e

table_after_writer : (h : List Entry) (table : Table) (call : ℕ) (key : Key) →
    ((table_after h table call key).writer ≡ (table key).writer) ⊎ ((table_after h table call key).writer ≡ call)
table_after_writer h table call key =
    let writes : List (Key × ℕ) = written_by (op_of h call) (values_of (shown_by table (op_of h call))) in
    cond_both (is_mutation h call) (shown_after (table key) call writes) (table key)
    (λ (s : Shown). (s.writer ≡ (table key).writer) ⊎ (s.writer ≡ call))
    (λ e. writer_after call writes (table key)) (λ e. inl refl)

-- what a table shows was written by a call above, or is the opening value
table_writer : (h : List Entry) (c : List ℕ) (i : ℕ) (key : Key) → i ≤ length c →
    0 < (table_at h c i key).writer → StandsAbove c (table_at h c i key).writer i
unfolding table_at
table_writer h c zero key l w = absurd (omega (arith, w))
table_writer h c (suc i) key l w =
    by_writer (table_after_writer h (table_at h c i) (get_or c i 0) key) (λ p. table_writer h c i key (omega (arith, l)) p)
  where
    now : ℕ
    now = (table_after h (table_at h c i) (get_or c i 0) key).writer

    by_writer : (now ≡ (table_at h c i key).writer) ⊎ (now ≡ get_or c i 0) →
        (0 < (table_at h c i key).writer → StandsAbove c (table_at h c i key).writer i) →
        StandsAbove c now (suc i)
    by_writer (inl e) rest =
        let s = rest (subst (λ (x : ℕ). 0 < x) e w) in
        let above : s.place < suc i = omega (arith, s.above) in
        record { place = s.place; stands = s.stands ∙ ap Some (sym e); above = above }
    by_writer (inr e) rest =
        let above : i < suc i = omega arith in
        record { place = i; stands = slice_get-get_or c i 0 (omega (arith, l)) ∙ ap Some (sym e); above = above }

-- an element of a mapped list is made of one
pub made_of : (table : Table) (keys : List Key) (k : ℕ) (x : Shown) → k < length (map table keys) →
    get_or (map table keys) k x ≡ x → (key : Key) × (x ≡ table key)
made_of table [] k x l e = absurd (omega (arith, l))
made_of table (key ∷ keys) zero x l e = (key, sym e)
made_of table (key ∷ keys) (suc k) x l e = made_of table keys k x (omega (arith, l)) e

pub writer_above : (h : List Entry) (c : List ℕ) (a b j : ℕ) → Legal h c → ReadsFrom h b a →
    StandsAt c b j → StandsAbove c a j
writer_above h c a b j legal (positive, (k, x, l, e, w)) s = by_end (has_ended h b) refl
  where
    by_end : (t : Bool) → has_ended h b ≡ t → StandsAbove c a j
    by_end false f = absurd (omega (arith, l, ap (λ (xs : List Shown). length xs) (reply_of-none h b f)))
    by_end true f =
        let r : reply_of h b ≡ map (table_at h c j) (reads_of (op_of h b)) = (legal b j s).reply f in
        let m = made_of (table_at h c j) (reads_of (op_of h b)) k x
        (subst (λ (xs : List Shown). k < length xs) r l) (subst (λ (xs : List Shown). get_or xs k x ≡ x) r e) in
        let same : (table_at h c j m.0).writer ≡ a = sym (ap (λ (y : Shown). y.writer) m.1) ∙ w in
        subst (λ (y : ℕ). StandsAbove c y j) same
        (table_writer h c j m.0 (omega (arith, slice_get_within c j b s)) (subst (λ (y : ℕ). 0 < y) (sym same) positive))
