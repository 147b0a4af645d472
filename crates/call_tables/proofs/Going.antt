-- The table along an order of calls.
use Rattle.std.proofs.Common.{◌≡◌, ℕ, suc, ◌+◌, ◌<◌, ◌≤◌, ◌&&◌, Bool, true, false, List, [], length, get_or, Option, Some, None, refl, sym, ap, ◌∙◌, subst, arith, add-one}
use Rattle.std.specs.Prelude.{not}
use Rattle.std.proofs.lemmas.Grind.{get_or_default_zero}
use Rattle.rss_names.specs.declared.service.Key.{Key}
use Rattle.rss_model.specs.declared.op.Op.{Op}
use Rattle.rss_model.specs.declared.op.Shown.{Shown}
use Rattle.rss_model.specs.declared.history.Entry.{Entry}
use Rattle.rss_model.specs.Operation.{may_write, written_by, values_of}
use Rattle.rss_model.specs.Mutation.{is_mutation}
use Rattle.rss_model.specs.Legal.{Table, shown_by, table_after, table_at}
use Rattle.plain_model.specs.Found.{found_op, found_reply, failed_by, mutates_by}
use Rattle.plain_model.specs.Written.{shown_over, logged}
use Rattle.plain_model.proofs.FoundLemmas.{HasBegun, found_op-is, is_mutation-is}
use Rattle.plain_model.proofs.TableLemmas.{shown_over-logged}
use Rattle.call_tables.specs.declared.cells.Cell.{Cell}
use Rattle.call_tables.specs.declared.walk.Walk.{Walk}
use Rattle.call_tables.specs.Cells.{table_in}
use Rattle.call_tables.specs.Along.{HoldsTable, IsWalk}

-- whether a call is a mutation, by its operation
by_op : (h : List Entry) (call : ℕ) (op : Op) → found_op h call ≡ Some op → is_mutation h call ≡ (may_write op && not (failed_by op (found_reply h call)))
by_op h call op e = is_mutation-is h call ∙ ap (λ (o : Option Op). mutates_by o (found_reply h call)) e

-- the writes of a mutation make the table after it
pub made : (h : List Entry) (call : ℕ) (op : Op) (reply : Option (List Shown)) (b : Bool) (old new : List (List Cell)) → ((key : Key) → table_in new key ≡ shown_over (table_in old key) (logged call (written_by op (values_of (shown_by (table_in old) op)))))
    → Some op ≡ found_op h call → reply ≡ found_reply h call → b ≡ (may_write op && not (failed_by op reply)) → b ≡ true
    → (key : Key) → table_in new key ≡ table_after h (table_in old) call key
made h call op reply b old new a e f m t key =
    let begun : HasBegun h call (Some op) = subst (HasBegun h call) (sym e) (found_op-is h call) in
    let mutates : is_mutation h call ≡ true = by_op h call op (sym e) ∙ ap (λ (r : Option (List Shown)). may_write op && not (failed_by op r)) (sym f) ∙ sym m ∙ t in
    a key ∙ shown_over-logged (table_in old key) call (written_by op (values_of (shown_by (table_in old) op))) ∙ sym (rw (mutates, begun.1) refl)

-- a call that is no mutation leaves the table
pub left : (h : List Entry) (call : ℕ) (op : Op) (reply : Option (List Shown)) (b : Bool) (old : List (List Cell)) → Some op ≡ found_op h call → reply ≡ found_reply h call
    → b ≡ (may_write op && not (failed_by op reply)) → b ≡ false
    → (key : Key) → table_in old key ≡ table_after h (table_in old) call key
left h call op reply b old e f m t key =
    let mutates : is_mutation h call ≡ false = by_op h call op (sym e) ∙ ap (λ (r : Option (List Shown)). may_write op && not (failed_by op r)) (sym f) ∙ sym m ∙ t in
    sym (rw mutates refl)

-- so does one that has not begun
pub unbegun : (h : List Entry) (call : ℕ) (old : List (List Cell)) → None ≡ found_op h call → (key : Key) → table_in old key ≡ table_after h (table_in old) call key
unbegun h call old e key =
    let reads : is_mutation h call ≡ false = is_mutation-is h call ∙ ap (λ (o : Option Op). mutates_by o (found_reply h call)) (sym e) in
    sym (rw reads refl)

-- rows without cells hold the table at the beginning
pub at_first : (h : List Entry) (order : List ℕ) → HoldsTable h order 0 []
unfolding table_at
at_first h order key = refl

pub begins_anew : (h : List Entry) (order : List ℕ) (place : ℕ) (rows : List (List Cell)) → place ≡ 0 → rows ≡ [] → HoldsTable h order place rows
begins_anew h order place rows e f = rw (e, f) (at_first h order)

-- one call further
pub further : (h : List Entry) (order : List ℕ) (at call : ℕ) (old new : List (List Cell)) → at < length order → call ≡ get_or order at call → HoldsTable h order at old
    → ((key : Key) → table_in new key ≡ table_after h (table_in old) call key) → HoldsTable h order (at + 1) new
unfolding table_at
further h order at call old new l e holds a = subst (λ (n : ℕ). HoldsTable h order n new) (sym (add-one at)) next
  where
    whole : table_in old ≡ table_at h order at
    whole = λ i key. holds key i

    next : HoldsTable h order (suc at) new
    next key =
        a key ∙ ap (λ (t : Table). table_after h t call key) whole
        ∙ ap (λ (x : ℕ). table_after h (table_at h order at) x key) (e ∙ get_or_default_zero order at call l)

pub at_same : (h : List Entry) (order : List ℕ) (at to : ℕ) (rows : List (List Cell)) → HoldsTable h order at rows → at ≡ to → HoldsTable h order to rows
at_same h order at to rows holds e = subst (λ (n : ℕ). HoldsTable h order n rows) e holds

-- what is shown by the rows of a walk
pub shown_there : (h : List Entry) (order : List ℕ) (walk : Walk) (place : ℕ) (op : Op) → IsWalk h order walk → walk.place ≡ place → shown_by (table_in walk.rows.items) op ≡ shown_by (table_at h order place) op
shown_there h order walk place op w e = ap (λ (t : Table). shown_by t op) (whole ∙ ap (table_at h order) e)
  where
    whole : table_in walk.rows.items ≡ table_at h order walk.place
    whole = λ i key. w.table key i

pub ruleset applying = (made, left, unbegun)

pub ruleset going = (at_same)

pub stands : (h : List Entry) (order : List ℕ) (walk : Walk) (place : ℕ) (rows : List (List Cell)) → HoldsTable h order place rows → walk.place ≡ place → walk.rows.items ≡ rows → IsWalk h order walk
stands h order walk place rows holds e f = record { table = rw (e, f) holds }

pub held_by : (h : List Entry) (order : List ℕ) (walk : Walk) → IsWalk h order walk → HoldsTable h order walk.place walk.rows.items
held_by h order walk w = w.table

pub first_walk : (h : List Entry) (order : List ℕ) (walk : Walk) → walk.place ≡ 0 → walk.rows.items ≡ [] → IsWalk h order walk
first_walk h order walk e f = record { table = begins_anew h order walk.place walk.rows.items e f }

pub ruleset going_to = (stands, held_by, first_walk)

pub shows : (h : List Entry) (order : List ℕ) (walk : Walk) (place : ℕ) (op : Op) (shown : List Shown) (rows : List (List Cell)) → shown ≡ shown_by (table_in rows) op → rows ≡ walk.rows.items → IsWalk h order walk → walk.place ≡ place → shown ≡ shown_by (table_at h order place) op
shows h order walk place op shown rows f g w e = f ∙ ap (λ (r : List (List Cell)). shown_by (table_in r) op) g ∙ shown_there h order walk place op w e

pub ruleset showing = (shows)

-- what is written is made of what was shown
pub made_of : (old new rows : List (List Cell)) (call : ℕ) (op : Op) (s t : List Shown) → ((key : Key) → table_in new key ≡ shown_over (table_in old key) (logged call (written_by op (values_of s)))) → s ≡ t → t ≡ shown_by (table_in rows) op → rows ≡ old
    → (key : Key) → table_in new key ≡ shown_over (table_in old key) (logged call (written_by op (values_of (shown_by (table_in old) op))))
made_of old new rows call op s t a e f g key =
    a key ∙ ap (λ (x : List Shown). shown_over (table_in old key) (logged call (written_by op (values_of x)))) (e ∙ f ∙ ap (λ (r : List (List Cell)). shown_by (table_in r) op) g)

pub ruleset making = (made_of)
