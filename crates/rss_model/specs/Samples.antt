-- Samples of calls: call 1 writes 5 to the register r, and then call 2 reads it, both of stage 1.
use Rattle.std.specs.Prelude.{◌≡◌, ℕ, zero, suc, true, false, List, [], ◌∷◌, refl, Some, slice_index}
use Rattle.std.proofs.Common.{subst, ap, arith}
use Rattle.rss_names.specs.declared.service.Key.{Key}
use Rattle.rss_names.specs.declared.service.ServiceId.TheVariants as service
use Rattle.pipeline_lang.specs.declared.script.Term.TheVariants.{Number, Variable}
use Rattle.pipeline_lang.specs.declared.script.Expr.TheVariants.{One, Plus, Minus}
use Rattle.pipeline_lang.specs.declared.script.Compare.TheVariants.{Less}
use Rattle.rss_model.specs.declared.op.Op.{Op}
use Rattle.rss_model.specs.declared.op.Op.TheVariants.{Read, Write, Txn}
use Rattle.rss_model.specs.declared.op.Shown.{Shown}
use Rattle.rss_model.specs.declared.history.Entry.{Entry}
use Rattle.rss_model.specs.declared.history.Entry.TheVariants.{Begin, End}
use Rattle.rss_model.specs.Formula.{formula_value}
use Rattle.rss_model.specs.Operation.{values_of}
use Rattle.rss_model.specs.History.{has_begun, has_ended, op_of, reply_of}
use Rattle.rss_model.specs.Mutation.{has_failed, is_mutation}
use Rattle.rss_model.specs.Candidate.{StandsAt}
use Rattle.rss_model.specs.Legal.{Legal, MeetsTable, table_at, opening_table}

abbrev pub r : Key
r = record { service = service.Reg 1; index = 0 }

abbrev pub five : Shown
five = record { key = r; value = 5; writer = 1 }

abbrev pub written_then_read : List Entry
written_then_read =
    Begin 1 1 (Write r 5) ∷ End 1 [] ∷
    Begin 2 1 (Read r) ∷ End 2 (five ∷ []) ∷ []

-- what holds of one call at place 0 and of another at place 1 holds wherever one of them stands
pub each_of_two : (P : ℕ → ℕ → Type 0) (a b : ℕ) → P a 0 → P b 1 →
    (call i : ℕ) → StandsAt (a ∷ b ∷ []) call i → P call i
each_of_two P a b p q call zero s = subst (λ n. P n 0) (cc) p
each_of_two P a b p q call (suc zero) s = subst (λ n. P n 1) (cc) q
each_of_two P a b p q call (suc (suc i)) s = absurd (cc)

-- the table before and after the write
table-opening : table_at written_then_read (1 ∷ 2 ∷ []) 0 r ≡ opening_table r
unfolding table_at
table-opening = refl

table-written : table_at written_then_read (1 ∷ 2 ∷ []) 1 r ≡ five
unfolding has_ended op_of reply_of table_at
table-written = refl

-- the write before the read is legal
pub legal : Legal written_then_read (1 ∷ 2 ∷ [])
unfolding has_begun has_ended op_of reply_of table_at
legal =
    let P : ℕ → ℕ → Type 0 = λ call i.
    MeetsTable written_then_read (table_at written_then_read (1 ∷ 2 ∷ []) i) call in
    each_of_two P 1 2
    (record { begun = refl; reply = λ e. refl; guard = λ e. refl })
    (record { begun = refl; reply = λ e. refl; guard = λ e. refl })

-- the read before the write is not
pub exchanged : ¬ Legal written_then_read (2 ∷ 1 ∷ [])
unfolding has_begun has_ended op_of reply_of table_at
exchanged l =
    let shown : five ∷ [] ≡ opening_table r ∷ [] = (l 2 0 refl).reply refl in
    let values : 5 ≡ 0 = ap (λ (xs : List Shown). slice_index (values_of xs) 0) shown in
    omega (arith, values)

-- the write is a mutation, and the read is none
write-mutates : is_mutation written_then_read 1 ≡ true
unfolding has_ended op_of reply_of
write-mutates = refl

read-mutates : is_mutation written_then_read 2 ≡ false
unfolding has_ended op_of reply_of
read-mutates = refl

abbrev x : Key
x = record { service = service.Txn 1; index = 0 }

-- adds 1 to the key x where it is below 1
abbrev adds_once : Op
adds_once = Txn
    (x ∷ [])
    (Some (Less (One (Variable 0)) (One (Number 1))))
    ((x, Plus (Variable 0) (Number 1)) ∷ [])

-- call 1 adds, and call 2 is shown what it wrote and fails
abbrev added_once : List Entry
added_once =
    Begin 1 1 adds_once ∷ End 1 (record { key = x; value = 0; writer = 0 } ∷ []) ∷
    Begin 2 1 adds_once ∷ End 2 (record { key = x; value = 1; writer = 1 } ∷ []) ∷ []

first-failed : has_failed added_once 1 ≡ false
unfolding has_ended op_of reply_of
first-failed = refl

second-failed : has_failed added_once 2 ≡ true
unfolding has_ended op_of reply_of
second-failed = refl

-- a failed call writes nothing
table-failed : (table_at added_once (1 ∷ 2 ∷ []) 2 x).writer ≡ 1
unfolding has_ended op_of reply_of table_at
table-failed = refl

-- sums and differences go round at 2^64
sum-round : formula_value (Plus (Number 18446744073709551615) (Variable 0)) (2 ∷ []) ≡ 1
sum-round = refl

difference-round : formula_value (Minus (Number 0) (Variable 0)) (1 ∷ []) ≡ 18446744073709551615
difference-round = refl
