-- What a call's turn makes of the table, and when two replies are the same.
use Rattle.std.proofs.Common.{◌≡◌, ◌∙◌, sym, ap, ℕ, List, ◌++◌, Some, None, true, false, refl, arith, subst}
use Rattle.std.specs.Prelude.{◌==◌, ◌&&◌}
use Rattle.std.specs.Bool.{Decides}
use Rattle.std.proofs.lemmas.Bool.Decides.{Decides-eqb, Decides-and, Decides-like, nat_tests}
use Rattle.rss_names.specs.declared.service.Key.{Key}
use Rattle.rss_names.specs.declared.service.ServiceId.{ServiceId}
use Rattle.rss_names.specs.declared.service.ServiceId.TheVariants.{Txn, Reg}
use Rattle.rss_names.specs.Services.{same_key}
use Rattle.rss_names.proofs.Services.{same_key-Decides}
use Rattle.rss_model.specs.declared.op.Op.{Op}
use Rattle.rss_model.specs.declared.op.Shown.{Shown}
use Rattle.rss_model.specs.contracts.op.ShownPartialEq.TheImpl as shown_eq
use Rattle.rss_model.specs.declared.history.Entry.{Entry}
use Rattle.rss_model.specs.Operation.{written_by, values_of}
use Rattle.rss_model.specs.Mutation.{is_mutation}
use Rattle.rss_model.specs.Legal.{opening_table, shown_by, table_after}
use Rattle.plain_model.specs.Found.{found_op, found_reply, mutates_by}
use Rattle.plain_model.specs.Written.{shown_over, table_of, logged}
use Rattle.plain_model.proofs.FoundLemmas.{HasBegun, found_op-is, is_mutation-is}
use Rattle.plain_model.proofs.TableLemmas.{shown_over-append, shown_over-logged}

-- the writes of a mutation make the table after it
pub made_by_mutation :
    (h : List Entry) (call : ℕ) (op : Op) (before after shown : List Shown) →
    is_mutation h call ≡ true → found_op h call ≡ Some op →
    shown ≡ shown_by (table_of before) op →
    after ≡ before ++ logged call (written_by op (values_of shown)) →
    (key : Key) → table_of after key ≡ table_after h (table_of before) call key
made_by_mutation h call op before after shown m e s a key =
    let begun : HasBegun h call (Some op) = subst (HasBegun h call) e (found_op-is h call) in
    let writes : List (Key × ℕ) = written_by op (values_of (shown_by (table_of before) op)) in
    let logged_so : after ≡ before ++ logged call writes =
    subst (λ (x : List Shown). after ≡ before ++ logged call (written_by op (values_of x))) s a in
    ap (λ (x : List Shown). shown_over (opening_table key) x) logged_so ∙
    shown_over-append (opening_table key) before (logged call writes) ∙
    shown_over-logged (table_of before key) call writes ∙
    sym (rw (m, begun.1) refl)

-- a call that is no mutation, or that has not begun, leaves the table
pub left_by_read : (h : List Entry) (call : ℕ) (written : List Shown) →
    is_mutation h call ≡ false → (key : Key) →
    table_of written key ≡ table_after h (table_of written) call key
left_by_read h call written m key = sym (rw m refl)

pub not_begun : (h : List Entry) (call : ℕ) → found_op h call ≡ None → is_mutation h call ≡ false
not_begun h call e =
    is_mutation-is h call ∙ ap (λ o. mutates_by o (found_reply h call)) e

-- two values shown are the same where key, value and writer are
shown_parts :
    (s t : ServiceId) (i j v w m n : ℕ) →
    Decides ((shown_eq.ghosts).eq
    (record { key = record { service = s; index = i }; value = v; writer = m })
    (record { key = record { service = t; index = j }; value = w; writer = n }))
    (same_key (record { service = s; index = i }) (record { service = t; index = j }) &&
    (v == w && m == n) ≡ true)
shown_parts (Txn k) (Txn l) i j v w m n = grind (arith, nat_tests)
shown_parts (Reg k) (Reg l) i j v w m n = grind (arith, nat_tests)
shown_parts (Txn k) (Reg l) i j v w m n = grind (arith, nat_tests)
shown_parts (Reg k) (Txn l) i j v w m n = grind (arith, nat_tests)

pub shown-Decides : (a b : Shown) → Decides ((shown_eq.ghosts).eq a b) (a ≡ b)
shown-Decides a b =
    let parts =
    shown_parts a.key.service b.key.service a.key.index b.key.index a.value b.value
    a.writer b.writer in
    let whole =
    Decides-and _ _ (same_key-Decides a.key b.key)
    (Decides-and _ _ (Decides-eqb a.value b.value) (Decides-eqb a.writer b.writer)) in
    Decides-like _
    (λ p i.
    let q = whole.0 p in
    record { key = q.0 i; value = q.1.0 i; writer = q.1.1 i })
    (λ e.
    whole.1
    (ap (λ (s : Shown). s.key) e, (ap (λ (s : Shown). s.value) e, ap (λ (s : Shown). s.writer) e)))
    parts
