-- A legal order is legal for the calls of each set of keys, and the other way round.
use Rattle.std.proofs.Common.{◌≡◌, ℕ, zero, suc, ◌≤◌, ◌↔◌, Bool, true, false, List, [], ◌∷◌, length, get_or, arith, refl, sym, ap, ◌∙◌, subst}
use Rattle.std.specs.Prelude.{Contains, map, if◌then◌else◌, ◌==◌}
use Rattle.std.proofs.lemmas.Bool.{cond_both, eqb-true, eqb-false, eq-eqb}
use Rattle.std.proofs.lemmas.Option.{slice_get_within, slice_get-get_or, get_or_from_slice_get}
use Rattle.rss_names.specs.declared.service.Key.{Key}
use Rattle.rss_model.specs.declared.op.Shown.{Shown}
use Rattle.rss_model.specs.declared.history.Entry.{Entry}
use Rattle.rss_model.specs.Operation.{reads_of, writes_of, written_by, guard_holds, values_of}
use Rattle.rss_model.specs.History.{op_of}
use Rattle.rss_model.specs.Mutation.{is_mutation}
use Rattle.rss_model.specs.Candidate.{StandsAt}
use Rattle.rss_model.specs.Legal.{Table, Legal, MeetsTable, shown_by, shown_after, table_after, table_at}
use Rattle.order_laws.specs.KeySets.{KeepToSets, calls_of_set}
use Rattle.order_laws.proofs.AfterWrites.{After, untouched, rewritten, after, keys_of, keys-written, key_stays}
use Rattle.order_laws.proofs.Filtered.{rank, passing_stands, rank_passing, rank_failing, stood}

-- a table shows each key under its own name
pub table_key : (h : List Entry) (c : List ℕ) (i : ℕ) (key : Key) → (table_at h c i key).key ≡ key
unfolding table_at
table_key h c zero key = refl
table_key h c (suc i) key =
    let call = get_or c i 0 in
    let table = table_at h c i in
    let writes : List (Key × ℕ) = written_by (op_of h call) (values_of (shown_by table (op_of h call))) in
    cond_both (is_mutation h call) (shown_after (table key) call writes) (table key) (λ (s : Shown). s.key ≡ key)
    (λ e. key_stays call writes (table key) ∙ table_key h c i key) (λ e. table_key h c i key)

-- two tables that show the same of what a call reads, and of a key, do so of the key after its turn
after_agree : (h : List Entry) (s t : Table) (call : ℕ) (key : Key) →
    shown_by s (op_of h call) ≡ shown_by t (op_of h call) → s key ≡ t key →
    table_after h s call key ≡ table_after h t call key
after_agree h s t call key r k = cc

-- what tables show of keys of which they show the same
shown_agree : (s t : Table) (keys : List Key) → ((key : Key) → Contains keys key → s key ≡ t key) →
    map s keys ≡ map t keys
shown_agree s t [] f = refl
shown_agree s t (key ∷ keys) f =
    let first = f key (0, omega arith, refl) in
    let rest = shown_agree s t keys (λ k m. f k (suc m.0, omega (arith, m.1), m.2)) in
    cc

-- a call meets one of them where it meets the other
meets_agree : (h : List Entry) (s t : Table) (call : ℕ) →
    shown_by s (op_of h call) ≡ shown_by t (op_of h call) → MeetsTable h s call →
    MeetsTable h t call
meets_agree h s t call r m =
    record {
      begun = m.begun;
      reply = λ e. m.reply e ∙ r;
      guard = λ e. subst (λ (x : List Shown). guard_holds (op_of h call) (values_of x) ≡ true) r (m.guard e);
    }

-- a call that does not write a key leaves it
after_other : (h : List Entry) (table : Table) (call : ℕ) (key : Key) → (table key).key ≡ key →
    (Contains (writes_of (op_of h call)) key → ⊥) → table_after h table call key ≡ table key
after_other h table call key k n = by_mutation (is_mutation h call) refl
  where
    writes : List (Key × ℕ)
    writes = written_by (op_of h call) (values_of (shown_by table (op_of h call)))

    by_writes : After call writes (table key) → shown_after (table key) call writes ≡ table key
    by_writes (untouched m e) = e
    by_writes (rewritten m e) =
        absurd (n (subst (λ (ks : List Key). Contains ks key) (keys-written (op_of h call) (values_of (shown_by table (op_of h call)))) (subst (λ (x : Key). Contains (keys_of writes) x) k m)))

    by_mutation : (t : Bool) → is_mutation h call ≡ t →
        (if t then shown_after (table key) call writes else table key) ≡ table key
    by_mutation true e = by_writes (after call writes (table key))
    by_mutation false e = refl

module _ (h : List Entry) (c : List ℕ) (set_of_call : ℕ → ℕ) (set_of_key : Key → ℕ) (keep : KeepToSets h c set_of_call set_of_key) (set : ℕ) where
  abbrev pub is_of_set : ℕ → Bool
  is_of_set call = set_of_call call == set

  abbrev pub calls : List ℕ
  calls = calls_of_set set_of_call set c

  -- the tables of the whole and of the set's calls alone show the same of the set's keys
  abbrev pub AgreeAt : ℕ → Type 0
  AgreeAt i = (key : Key) → set_of_key key ≡ set → table_at h c i key ≡ table_at h calls (rank is_of_set c i) key

  reads_agree : (i call : ℕ) → StandsAt c call i → set_of_call call ≡ set → AgreeAt i →
      shown_by (table_at h c i) (op_of h call) ≡ shown_by (table_at h calls (rank is_of_set c i)) (op_of h call)
  reads_agree i call s o a =
      shown_agree (table_at h c i) (table_at h calls (rank is_of_set c i)) (reads_of (op_of h call))
      (λ key m. a key (keep.reads call key (i, s) m ∙ o))

  -- a call of the set
  agree_after_own : (i call : ℕ) → StandsAt c call i → is_of_set call ≡ true → AgreeAt i →
      (key : Key) → set_of_key key ≡ set →
      table_after h (table_at h c i) call key ≡ table_at h calls (rank is_of_set c (suc i)) key
  unfolding table_at
  agree_after_own i call s e a key k =
      let r = rank is_of_set c i in
      let there = get_or_from_slice_get calls r call 0 (passing_stands is_of_set c i call s e) in
      after_agree h (table_at h c i) (table_at h calls r) call key (reads_agree i call s (eqb-true (set_of_call call) set e) a) (a key k)
      ∙ ap (λ (x : ℕ). table_after h (table_at h calls r) x key) (sym there)
      ∙ ap (λ (n : ℕ). table_at h calls n key) (sym (rank_passing is_of_set c i call s e))

  -- a call of another set
  agree_after_other : (i call : ℕ) → StandsAt c call i → is_of_set call ≡ false → AgreeAt i →
      (key : Key) → set_of_key key ≡ set →
      table_after h (table_at h c i) call key ≡ table_at h calls (rank is_of_set c (suc i)) key
  agree_after_other i call s e a key k =
      let other : Contains (writes_of (op_of h call)) key → ⊥ =
      λ m. eqb-false (set_of_call call) set e (sym (keep.writes call key (i, s) m) ∙ k) in
      after_other h (table_at h c i) call key (table_key h c i key) other
      ∙ a key k
      ∙ ap (λ (n : ℕ). table_at h calls n key) (sym (rank_failing is_of_set c i call s e))

  pub agree : (i : ℕ) → i ≤ length c → AgreeAt i
  unfolding table_at
  agree zero l key k = refl
  agree (suc i) l key k = by_set (is_of_set (get_or c i 0)) refl (agree i (omega (arith, l)))
    where
      stands : StandsAt c (get_or c i 0) i
      stands = slice_get-get_or c i 0 (omega (arith, l))

      by_set : (t : Bool) → is_of_set (get_or c i 0) ≡ t → AgreeAt i →
          table_after h (table_at h c i) (get_or c i 0) key ≡ table_at h calls (rank is_of_set c (suc i)) key
      by_set true e a = agree_after_own i (get_or c i 0) stands e a key k
      by_set false e a = agree_after_other i (get_or c i 0) stands e a key k

  both_show : (call i : ℕ) → StandsAt c call i → set_of_call call ≡ set →
      shown_by (table_at h c i) (op_of h call) ≡ shown_by (table_at h calls (rank is_of_set c i)) (op_of h call)
  both_show call i s o = reads_agree i call s o (agree i (omega (arith, slice_get_within c i call s)))

  pub part_legal : Legal h c → Legal h calls
  part_legal legal call k s =
      let o = stood is_of_set c k call s in
      let shown = both_show call o.place o.stands (eqb-true (set_of_call call) set o.passes) in
      let meets = meets_agree h (table_at h c o.place) (table_at h calls (rank is_of_set c o.place)) call shown (legal call o.place o.stands) in
      subst (λ (n : ℕ). MeetsTable h (table_at h calls n) call) o.ranked meets

  pub whole_meets : Legal h calls → (call i : ℕ) → StandsAt c call i → set_of_call call ≡ set →
      MeetsTable h (table_at h c i) call
  whole_meets legal call i s o =
      meets_agree h (table_at h calls (rank is_of_set c i)) (table_at h c i) call (sym (both_show call i s o))
      (legal call (rank is_of_set c i) (passing_stands is_of_set c i call s (eq-eqb (set_of_call call) set o)))

pub legal_by_each_set : (h : List Entry) (c : List ℕ) (set_of_call : ℕ → ℕ) (set_of_key : Key → ℕ) →
    KeepToSets h c set_of_call set_of_key →
    Legal h c ↔ ((set : ℕ) → Legal h (calls_of_set set_of_call set c))
legal_by_each_set h c set_of_call set_of_key keep = (
  λ legal set. part_legal h c set_of_call set_of_key keep set legal,
  λ legal call i s. whole_meets h c set_of_call set_of_key keep (set_of_call call) (legal (set_of_call call)) call i s refl,
)
