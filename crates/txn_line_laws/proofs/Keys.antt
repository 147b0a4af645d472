-- The order of the keys of calls of a transaction service: by time, those that write first, and then by the number of the call.
use Rattle.std.proofs.Common.{◌≡◌, ℕ, ◌<◌, ◌≤◌, Bool, true, false, refl, arith}
use Rattle.std.specs.Prelude.{nat_lt, ◌==◌, ◌||◌, ◌&&◌}
use Rattle.rss_machine.specs.Places.{txn_key, key_lt, part_lt}
use Rattle.rss_machine.specs.State.{State}
use Rattle.rss_machine.specs.Times.{step_of_time}
use Rattle.rss_machine.specs.declared.place.PlacePart.TheVariants.{Txn}

by_step : (m n : ℕ) (p : Bool) → m ≤ n → (m ≡ n → p ≡ true) → (nat_lt m n || (m == n && p)) ≡ true
by_step m n p l f = by_less (nat_lt m n) refl
  where
    by_less : (b : Bool) → nat_lt m n ≡ b → (b || (m == n && p)) ≡ true
    by_less true e = refl
    by_less false e = grind (arith, l, f, e)

pub earlier_key : (s : State) (a b t u : ℕ) (r q : Bool) → step_of_time s t ≤ step_of_time s u → t < u → key_lt (txn_key s a r t) (txn_key s b q u) ≡ true
earlier_key s a b t u r q d l = by_step (step_of_time s t) (step_of_time s u) (part_lt (Txn t r a) (Txn u q b)) d (λ e. grind (arith, l))

pub writer_first : (s : State) (a b t : ℕ) → key_lt (txn_key s a false t) (txn_key s b true t) ≡ true
writer_first s a b t = by_step (step_of_time s t) (step_of_time s t) (part_lt (Txn t false a) (Txn t true b)) (omega arith) (λ e. grind arith)

pub reader_first : (s : State) (a b t : ℕ) → a < b → key_lt (txn_key s a true t) (txn_key s b true t) ≡ true
reader_first s a b t l = by_step (step_of_time s t) (step_of_time s t) (part_lt (Txn t true a) (Txn t true b)) (omega arith) (λ e. grind (arith, l))
