-- The calls of an order, one after the other.
use Rattle.std.proofs.Common.{◌≡◌, ◌∙◌, sym, ap, ℕ, suc, ◌<◌, ◌≤◌, ◌+◌, ◌⊎◌, inl, inr, List, length, get_or, Some, arith, subst, add-one}
use Rattle.std.proofs.lemmas.Bool.{cases_lt}
use Rattle.std.proofs.lemmas.Grind.{get_or_default_zero}
use Rattle.std.proofs.lemmas.Option.{get_or_from_slice_get, slice_get-get_or}
use Rattle.rss_names.specs.declared.service.Key.{Key}
use Rattle.rss_model.specs.declared.op.Shown.{Shown}
use Rattle.rss_model.specs.declared.history.Entry.{Entry}
use Rattle.rss_model.specs.Candidate.{StandsAt}
use Rattle.rss_model.specs.Legal.{Table, MeetsTable, table_at, table_after}
use Rattle.plain_model.specs.Written.{table_of}

-- the call that a loop comes to stands at its place
pub stands_at : (c : List ℕ) (n call : ℕ) → n < length c → call ≡ get_or c n call → StandsAt c call n
stands_at c n call l e = slice_get-get_or c n call l ∙ ap (λ x. Some x) (sym e)

module _ (h : List Entry) (c : List ℕ) where
  -- the calls above a place meet the table
  abbrev pub MetAbove : ℕ → Type 0
  MetAbove n = (call i : ℕ) → i < n → StandsAt c call i → MeetsTable h (table_at h c i) call

  -- these writes make the table at a place
  abbrev pub MadeAt : ℕ → List Shown → Type 0
  MadeAt n written = (key : Key) → table_of written key ≡ table_at h c n key

  same_table : (n : ℕ) (written : List Shown) → MadeAt n written → table_of written ≡ table_at h c n
  same_table n written made = λ i key. made key i

  pub met_here : (n call : ℕ) (written : List Shown) → MadeAt n written →
      MeetsTable h (table_of written) call → MeetsTable h (table_at h c n) call
  met_here n call written made m =
      subst (λ (t : Table). MeetsTable h t call) (same_table n written made) m

  pub met_there : (n call : ℕ) (written : List Shown) → MadeAt n written →
      MeetsTable h (table_at h c n) call → MeetsTable h (table_of written) call
  met_there n call written made m =
      subst (λ (t : Table). MeetsTable h t call) (sym (same_table n written made)) m

  pub met_more : (n call : ℕ) → call ≡ get_or c n call → MetAbove n →
      MeetsTable h (table_at h c n) call → MetAbove (n + 1)
  met_more n call e met m other i l s = by_place (cases_lt i n)
    where
      by_place : (i < n) ⊎ (n ≤ i) → MeetsTable h (table_at h c i) other
      by_place (inl k) = met other i k s
      by_place (inr k) =
          let here : n ≡ i = omega (arith, l, k) in
          let same : call ≡ other =
          e ∙ ap (λ j. get_or c j call) here ∙ get_or_from_slice_get c i other call s in
          subst (λ j. MeetsTable h (table_at h c j) other) here
          (subst (λ x. MeetsTable h (table_at h c n) x) same m)

  made_next : (n call : ℕ) (before after : List Shown) → n < length c → call ≡ get_or c n call →
      MadeAt n before →
      ((key : Key) → table_of after key ≡ table_after h (table_of before) call key) →
      MadeAt (suc n) after
  unfolding table_at
  made_next n call before after l e made a key =
      a key ∙
      ap (λ (t : Table). table_after h t call key) (same_table n before made) ∙
      ap (λ x. table_after h (table_at h c n) x key) (e ∙ get_or_default_zero c n call l)

  pub made_more : (n call : ℕ) (before after : List Shown) → n < length c →
      call ≡ get_or c n call → MadeAt n before →
      ((key : Key) → table_of after key ≡ table_after h (table_of before) call key) →
      MadeAt (n + 1) after
  made_more n call before after l e made a =
      subst (λ m. MadeAt m after) (sym (add-one n)) (made_next n call before after l e made a)
