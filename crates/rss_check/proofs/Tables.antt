-- Keys and their numbers, and the calls of an order one after the other.
use Rattle.std.proofs.Common.{◌≡◌, ◌∙◌, sym, ap, ℕ, suc, ◌<◌, ◌≤◌, ◌+◌, Bool, true, false, cond, List, [], ◌∷◌, length, get_or, drop, drop-cons, Option, Some, None, arith, subst, add-one, refl}
use Rattle.std.specs.Prelude.{◌==◌, ◌&&◌, if◌then◌else◌}
use Rattle.std.proofs.lemmas.Grind.{get_or_default_zero, common_steps}
use Rattle.std.proofs.lemmas.Option.{slice_get_within}
use Rattle.rss_names.specs.declared.service.Key.{Key}
use Rattle.rss_names.specs.declared.service.ServiceId.{ServiceId}
use Rattle.rss_names.specs.declared.service.ServiceId.TheVariants.{Txn, Reg}
use Rattle.rss_names.specs.Services.{same_key, same_service}
use Rattle.pipeline_lang.specs.declared.script.Expr.{Expr}
use Rattle.rss_model.specs.declared.op.Op.{Op}
use Rattle.rss_model.specs.declared.op.Shown.{Shown}
use Rattle.rss_model.specs.declared.history.Entry.{Entry}
use Rattle.rss_model.specs.Formula.{formula_value}
use Rattle.rss_model.specs.Operation.{written_by, values_of}
use Rattle.rss_model.specs.Mutation.{is_mutation}
use Rattle.rss_model.specs.Legal.{Table, Legal, MeetsTable, table_at, table_after, shown_by, shown_after, opening_table}
use Rattle.plain_model.specs.Found.{found_op}
use Rattle.plain_model.specs.Written.{values_written}
use Rattle.plain_model.proofs.FoundLemmas.{HasBegun, found_op-is}
use Rattle.plain_model.proofs.LegalTurns.{stands_at, MetAbove, met_more}
use Rattle.indexmap.specs.IndexMap.{IndexMap}
use Rattle.rss_check.specs.declared.table.KeyNumber.{KeyNumber}
use Rattle.rss_check.specs.declared.table.Written.{Written}
use Rattle.rss_check.specs.Table.{number_within, number_of_key, same_number, shown_or_opening, table_in}
use Rattle.rss_check.specs.Verdicts.{IsFirstUnmet}

same_within : (s t : ServiceId) (i j : ℕ) → same_number (number_within s i) (number_within t j) ≡ (same_service t s && j == i)
same_within (Txn m) (Txn n) i j = grind (arith, common_steps)
same_within (Txn m) (Reg n) i j = refl
same_within (Reg m) (Txn n) i j = refl
same_within (Reg m) (Reg n) i j = grind (arith, common_steps)

-- two keys have one number exactly where they are the same
pub numbers_same : (a b : Key) → same_number (number_of_key a) (number_of_key b) ≡ same_key b a
numbers_same a b = same_within a.service b.service a.index b.index

-- what is shown of a key is shown of that key
pub key_shown : (key : Key) (written : Option Written) → (shown_or_opening key written).key ≡ key
key_shown key None = refl
key_shown key (Some written) = refl

-- an empty map shows each key at its opening value
pub empty_shows : {S : Type 0} (map : IndexMap KeyNumber Written S) → map.entries ≡ [] → (key : Key) → table_in map key ≡ opening_table key
empty_shows map e key = rw e refl

-- a write to a key, as it is kept
pub put_one : (key other : Key) (number : KeyNumber) (value writer call : ℕ) (old new : Option Written) → number ≡ number_of_key key → writer ≡ call → new ≡ cond (same_number number (number_of_key other)) (Some (record { value = value; writer = writer })) old → shown_or_opening other new ≡ cond (same_key other key) (record { key = other; value = value; writer = call }) (shown_or_opening other old)
put_one key other number value writer call old new n w e =
    ap (shown_or_opening other)
    (e ∙ ap (λ (k : KeyNumber). cond (same_number k (number_of_key other)) (Some (record { value = value; writer = writer })) old) n ∙
    ap (λ (x : ℕ). cond (same_number (number_of_key key) (number_of_key other)) (Some (record { value = value; writer = x })) old) w ∙
    ap (λ (b : Bool). cond b (Some (record { value = value; writer = call })) old) (numbers_same key other)) ∙
    by_test (same_key other key)
  where
    by_test : (b : Bool) → shown_or_opening other (cond b (Some (record { value = value; writer = call })) old) ≡ cond b (record { key = other; value = value; writer = call }) (shown_or_opening other old)
    by_test true = refl
    by_test false = refl

module _ (h : List Entry) (c : List ℕ) where
  -- this is the table at a place
  abbrev pub IsTableAt : ℕ → Table → Type 0
  IsTableAt n table = (key : Key) → table key ≡ table_at h c n key

  same_table : (n : ℕ) (table : Table) → IsTableAt n table → table ≡ table_at h c n
  same_table n table made = λ i key. made key i

  pub met_in : (n call : ℕ) (table : Table) → IsTableAt n table → MeetsTable h table call → MeetsTable h (table_at h c n) call
  met_in n call table made m = subst (λ (t : Table). MeetsTable h t call) (same_table n table made) m

  pub met_of : (n call : ℕ) (table : Table) → IsTableAt n table → MeetsTable h (table_at h c n) call → MeetsTable h table call
  met_of n call table made m = subst (λ (t : Table). MeetsTable h t call) (sym (same_table n table made)) m

  table_next : (n call : ℕ) (before after : Table) → n < length c → call ≡ get_or c n call → IsTableAt n before → ((key : Key) → after key ≡ table_after h before call key) → IsTableAt (suc n) after
  unfolding table_at
  table_next n call before after l e made a key =
      a key ∙ ap (λ (t : Table). table_after h t call key) (same_table n before made) ∙ ap (λ x. table_after h (table_at h c n) x key) (e ∙ get_or_default_zero c n call l)

  pub table_more : (n call : ℕ) (before after : Table) → n < length c → call ≡ get_or c n call → IsTableAt n before → ((key : Key) → after key ≡ table_after h before call key) → IsTableAt (n + 1) after
  table_more n call before after l e made a = subst (λ m. IsTableAt m after) (sym (add-one n)) (table_next n call before after l e made a)

  -- a call that does not meet its table, where all before it meet theirs
  pub first_unmet : (n call : ℕ) (table : Table) → n < length c → call ≡ get_or c n call → MetAbove h c n → IsTableAt n table → (MeetsTable h table call → ⊥) → IsFirstUnmet h c call
  first_unmet n call table l e met made un = record {
    place = n;
    stands = stands_at c n call l e;
    unmet = λ m. un (met_of n call table made m);
    before = λ j other m s. met other j m s;
  }

  pub all_met : (n : ℕ) → length c ≤ n → MetAbove h c n → Legal h c
  all_met n l met call i s = met call i (omega (arith, l, slice_get_within c i call s)) s

  pub met_one_more : (n call : ℕ) (table : Table) → call ≡ get_or c n call → MetAbove h c n → IsTableAt n table → MeetsTable h table call → MetAbove h c (n + 1)
  met_one_more n call table e met made m = met_more h c n call e met (met_in n call table made m)

-- what a mutation makes of the table
pub made_by_mutation : (h : List Entry) (call : ℕ) (op : Op) (before after : Table) (shown : List Shown) → is_mutation h call ≡ true → found_op h call ≡ Some op → shown ≡ shown_by before op → ((key : Key) → after key ≡ shown_after (before key) call (written_by op (values_of shown))) → (key : Key) → after key ≡ table_after h before call key
made_by_mutation h call op before after shown m e s a key =
    let begun : HasBegun h call (Some op) = subst (HasBegun h call) e (found_op-is h call) in
    a key ∙ ap (λ (x : List Shown). shown_after (before key) call (written_by op (values_of x))) s ∙ sym (rw (m, begun.1) refl)

-- what another call leaves of it
pub left_by_read : (h : List Entry) (call : ℕ) (before : Table) → is_mutation h call ≡ false → (key : Key) → before key ≡ table_after h before call key
left_by_read h call before m key = sym (rw m refl)

-- a write of a transaction, as it is kept and as it is shown
written_one : (b : Bool) (key : Key) (old : Shown) (value call : ℕ) → old.key ≡ key → cond b (record { key = key; value = value; writer = call }) old ≡ (if b then record old { value = value; writer = call } else old)
written_one true key old value call e = λ i. record { key = sym e i; value = value; writer = call }
written_one false key old value call e = refl

-- one more of them is made
pub formula_more : (writes : List (Key × Expr ℕ)) (values : List ℕ) (n call value : ℕ) (none : Key × Expr ℕ) (before after : Table) → n < length writes → value ≡ formula_value (get_or writes n none).1 values → ((key : Key) → (before key).key ≡ key) → ((key : Key) → after key ≡ cond (same_key key (get_or writes n none).0) (record { key = key; value = value; writer = call }) (before key)) → (key : Key) → shown_after (after key) call (values_written (drop (n + 1) writes) values) ≡ shown_after (before key) call (values_written (drop n writes) values)
formula_more writes values n call value none before after l v k a key =
    ap (λ (s : Shown). shown_after s call (values_written (drop (n + 1) writes) values)) one ∙
    sym (ap (λ (rest : List (Key × Expr ℕ)). shown_after (before key) call (values_written rest values)) left)
  where
    left : drop n writes ≡ get_or writes n none ∷ drop (n + 1) writes
    left = drop-cons writes n none l ∙ ap (λ (m : ℕ). get_or writes n none ∷ drop m writes) (sym (add-one n))

    one : after key ≡ (if same_key (before key).key (get_or writes n none).0 then record (before key) { value = formula_value (get_or writes n none).1 values; writer = call } else before key)
    one =
        a key ∙ written_one (same_key key (get_or writes n none).0) key (before key) value call (k key) ∙
        ap (λ (x : Key). if same_key x (get_or writes n none).0 then record (before key) { value = value; writer = call } else before key) (sym (k key)) ∙
        ap (λ (x : ℕ). if same_key (before key).key (get_or writes n none).0 then record (before key) { value = x; writer = call } else before key) v
