-- Messages lead upwards in the order of places, and so does real time, from mutations that have ended to later mutations and
-- conflicting reads.
use Rattle.std.proofs.Common.{◌≡◌, ℕ, ◌<◌, ◌≤◌, ◌⊎◌, inl, inr, Bool, true, false, List, length, refl, sym, ap, ◌∙◌, subst, arith}
use Rattle.std.specs.Prelude.{◌&&◌, ◌||◌, ◌==◌, nat_le, nat_lt, IsTrue, Contains}
use Rattle.std.proofs.lemmas.Bool.{true≢false, cases_eq}
use Rattle.std.proofs.lemmas.Bool.Decides.{nat_tests}
use Rattle.rss_names.specs.declared.service.Key.{Key}
use Rattle.rss_names.specs.declared.service.ServiceId.{ServiceId}
use Rattle.rss_names.specs.declared.service.ServiceId.TheVariants.{Txn, Reg}
use Rattle.rss_names.specs.Services.{same_service}
use Rattle.carstamps.specs.declared.carstamp.Carstamp.{Carstamp}
use Rattle.causal_context.specs.LeastTimes.{least_of}
use Rattle.pipeline_lang.specs.declared.config.Config.{Config}
use Rattle.rss_model.specs.Causality.{BeforeByMessages, Path, here, along, carried}
use Rattle.rss_model.specs.History.{has_ended, EndsAt, BeginsAt, entry_at}
use Rattle.rss_model.specs.Mutation.{is_mutation, Conflicts}
use Rattle.rss_model.specs.Operation.{reads_of}
use Rattle.rss_model.specs.RealTime.{BeforeInRealTime}
use Rattle.rss_model.specs.declared.history.Entry.{Entry}
use Rattle.rss_model.specs.declared.op.Op.{Op}
use Rattle.rss_model.specs.declared.op.Op.TheVariants as op
use Rattle.rss_model.proofs.HistoryLemmas.{ends_at-has_ended}
use Rattle.rss_tables.specs.Lines.{Line}
use Rattle.rss_machine.specs.Calls.{least_for}
use Rattle.rss_machine.specs.Places.{key_lt, txn_key, register_key, keyed_calls}
use Rattle.rss_machine.specs.Session.{service_of}
use Rattle.rss_machine.specs.Standing.{is_running}
use Rattle.rss_machine.specs.State.{State, Owner, no_owner, owner_at}
use Rattle.rss_machine.specs.Times.{step_of_time}
use Rattle.rss_machine.specs.declared.place.KeyedCall.{KeyedCall}
use Rattle.rss_machine.specs.declared.place.PlaceKey.{PlaceKey}
use Rattle.rss_machine.specs.declared.session.OwnerKind.TheVariants as kind
use Rattle.rss_machine.specs.declared.state.OwnerFate.TheVariants.{Ended}
use Rattle.rss_machine.specs.declared.step.Step.{Step}
use Rattle.shard_event_laws.specs.Known.{moment_at}
use Rattle.order_laws.specs.ByKeys.{HasBelow}
use Rattle.world_laws.proofs.Looks.{get_or_past}
use Rattle.world_laws.specs.Calls.{is_own}
use Rattle.reg_laws.specs.Line.{write_key, read_key}
use Rattle.txn_line_laws.specs.Line.{PlacedTxn, commits, fails, reads, TxnsCovered, TxnsInside}
use Rattle.txn_line_laws.proofs.Dates.{txns_covered, txns_inside, txns_fresh}
use Rattle.context_moves.specs.Launched.{Finds}
use Rattle.context_moves.specs.Views.{view_of, kind_service, step_of}
use Rattle.place_laws.proofs.Ended.{HasWritten, HasRead, IsThere, step_below}
use Rattle.place_laws.proofs.KeyedCalls.{one_each}
use Rattle.place_laws.proofs.Placed.{IsWriter, IsReader}
use Rattle.place_laws.proofs.SortedKeys.{Below}
use Rattle.place_laws.proofs.Told.{dated, ends_or_begins, reads_not}
use Rattle.regular_laws.proofs.Calls.{IsPlaced, placed, says_of}
use Rattle.regular_laws.proofs.Done.{HasTimed, HasDone, IsOfTxn, has_done, written_kind, has_read_kind, of_txn, written_there, read_there, txn_there, written_step, read_step, timed_step}
use Rattle.regular_laws.proofs.Known.{Known, IsOverBefore, smaller_number}
use Rattle.regular_laws.proofs.Shown.{call_of, keys_of_txn, wrote_key}
use Rattle.regular_laws.proofs.Txns.{IsTxn, op_is, commit_mutates, reads_mutate_not}
use Rattle.regular_laws.proofs.Writes.{contains_has}

-- a path leads forward
path_forward : (h : List Entry) (i j : ℕ) → Path h i j → i ≤ j
path_forward h i j here = omega arith
path_forward h i j (along {k = k} p l e) = let a = path_forward h i k p in omega (arith, a, l)
path_forward h i j (carried {k = k} p l x y) = let a = path_forward h i k p in omega (arith, a, l)

-- a transaction stands before a register call at the same step
at_most_first : (x y : ℕ) → x ≤ y → (nat_lt x y || (x == y && true)) ≡ true
at_most_first x y l = grind (arith, nat_tests, l)

txn_first : (s : State) (a b time : ℕ) (r q : Bool) (stamped : Key × Carstamp) → step_of_time s time ≤ (register_key s b q stamped).step → key_lt (txn_key s a r time) (register_key s b q stamped) ≡ true
txn_first s a b time r q stamped l = at_most_first (step_of_time s time) (register_key s b q stamped).step l

same_is : (a : ServiceId) (m : ℕ) → same_service a (Txn m) ≡ true → a ≡ Txn m
same_is (Txn n) m e = ap (λ (k : ℕ). Txn k) (grind (arith, nat_tests, e))
same_is (Reg n) m e = absurd (true≢false (sym e))

-- a placed register call, with its service, and its own first round no later than its place
record IsRegister (s : State) (o : ℕ) (k : PlaceKey) : Type 0 where
  op : Op
  number : ℕ
  of_kind : (owner_at s o).kind ≡ kind.Calling op
  service : service_of op ≡ Reg number
  own : is_own (owner_at s o).session ≡ true
  only_reads : Bool
  stamped : Key × Carstamp
  is_key : k ≡ register_key s o only_reads stamped
  first : (owner_at s o).dates.launched ≤ (register_key s o only_reads stamped).step

-- one call had ended before another began
record Follows (s : State) (x y : KeyedCall) : Type 0 where
  ended : IsTrue (has_ended s.history x.call)
  dated : (owner_at s x.call).dates.ended < (owner_at s y.call).dates.begun

module _ (c : Config) (steps : List Step) (s : State) (known : Known c steps s) where
  abbrev h : List Entry
  h = s.history

  abbrev things : List KeyedCall
  things = keyed_calls s

  covered : TxnsCovered s
  covered = txns_covered c s known.txns

  in_time : TxnsInside s
  in_time = txns_inside c s known.txns

  -- the service of a call, as contexts see it
  abbrev service_at : ℕ → ServiceId
  service_at o = kind_service (owner_at s o).kind

  written_service : (o : ℕ) (w : HasWritten s o) → (n : ℕ) × (service_at o ≡ Reg n)
  written_service o w = let k = written_kind c steps s known o w in let r = known.served.each o (op.Write w.key w.value) k in (r.number, ap kind_service k ∙ r.is)

  read_service : (o : ℕ) (r : HasRead s o) → (n : ℕ) × (service_at o ≡ Reg n)
  read_service o r = let k = has_read_kind c steps s known o r in let x = known.served.each o (op.Read r.key) k in (x.number, ap kind_service k ∙ x.is)

  writer_is : (o : ℕ) (k : PlaceKey) → IsWriter s o k → IsRegister s o k
  writer_is o k w = let r = known.served.each o (op.Write w.key w.value) w.of_kind in record {
    op = op.Write w.key w.value;
    number = r.number;
    of_kind = w.of_kind;
    service = r.is;
    own = ap is_own w.placed.under_way;
    only_reads = false;
    stamped = (w.key, w.stamp);
    is_key = w.is_key;
    first = let l = known.inside.write o w.key w.value w.stamp w.placed in omega (arith, l);
  }

  reader_is : (o : ℕ) (k : PlaceKey) → IsReader s o k → IsRegister s o k
  reader_is o k r = let x = known.served.each o (op.Read r.key) r.of_kind in record {
    op = op.Read r.key;
    number = x.number;
    of_kind = r.of_kind;
    service = x.is;
    own = ap is_own r.read.under_way;
    only_reads = true;
    stamped = (r.key, r.cell.stamp);
    is_key = r.is_key;
    first = known.inside.read o r.key r.cell.stamp;
  }

  own_txn : (o time : ℕ) (only_reads : Bool) (keys : List Key) (lines : List Line) → PlacedTxn s o time only_reads keys lines → is_own (owner_at s o).session ≡ true
  own_txn o _ _ _ _ (commits x time e f) = ap is_own e
  own_txn o _ _ _ _ (fails x time e p) = ap is_own e
  own_txn o _ _ _ _ (reads x time e p) = ap is_own e

  -- a call that had ended before another began
  apart : (a b i j : ℕ) → EndsAt h a i → BeginsAt h b j → i ≤ j → i < j
  apart a b i j x y l = by_place (cases_eq i j)
    where
      by_place : (i ≡ j) ⊎ (i ≡ j → ⊥) → i < j
      by_place (inl g) = absurd (ends_or_begins (entry_at h j) a b (subst (EndsAt h a) g x) y)
      by_place (inr g) = grind (arith, l, g)

  over_before : (a b i j : ℕ) → EndsAt h a i → BeginsAt h b j → i < j → IsOverBefore s a b
  over_before a b i j x y l =
      let r = known.told.replied a (ends_at-has_ended h a i x) in
      record { there = called a r.op r.of_kind; over = ((known.dates.each a).is_over (ap is_running r.ended)).0; dated = dated s known.told a b i j x y l }
    where
      fence_not : (z : Op) → kind.Fencing ≡ kind.Calling z → ⊥
      fence_not z e = cc

      called : (o : ℕ) (z : Op) → (owner_at s o).kind ≡ kind.Calling z → o < length s.owners
      called o z e = by_place (get_or_past s.owners o no_owner)
        where
          by_place : (o < length s.owners) ⊎ (owner_at s o ≡ no_owner) → o < length s.owners
          by_place (inl m) = m
          by_place (inr m) = absurd (fence_not z (sym (ap (λ (w : Owner). w.kind) m) ∙ e))

  -- MESSAGES
  has_below : (a : ℕ) (y : KeyedCall) (k : PlaceKey) → IsThere s a k → key_lt k y.key ≡ true → HasBelow call_of Below things a y
  has_below a y k t l = record { thing = t.call; there = t.there; of_call = t.is_call; below = subst (λ (x : PlaceKey). key_lt x y.key ≡ true) (sym t.is_key) l }

  -- to a register call
  to_register : (a : ℕ) (y : KeyedCall) (r : IsRegister s y.call y.key) → Finds c s y.call r.op a → HasDone s a → HasBelow call_of Below things a y
  to_register a y r f (inl w) =
      let q = written_service a w in
      has_below a y _ (written_there c steps s known a w) (step_below (write_key s a w.key w.stamp) y.key (below_step _ (f.round r.number q.0 q.1 r.service) (written_step c steps s known a w)))
    where
      below_step : (m : ℕ) → step_of s a < (owner_at s y.call).dates.launched → step_of s a ≡ m → m < y.key.step
      below_step m l e = subst (λ (x : PlaceKey). m < x.step) (sym r.is_key) (let z = r.first in omega (arith, l, e, z))
  to_register a y r f (inr (inl x)) =
      let q = read_service a x in
      has_below a y _ (read_there c steps s known a x) (step_below (read_key s a x.key x.cell.stamp) y.key (below_step _ (f.round r.number q.0 q.1 r.service) (read_step c steps s known a x)))
    where
      below_step : (m : ℕ) → step_of s a < (owner_at s y.call).dates.launched → step_of s a ≡ m → m < y.key.step
      below_step m l e = subst (λ (x : PlaceKey). m < x.step) (sym r.is_key) (let z = r.first in omega (arith, l, e, z))
  to_register a y r f (inr (inr t)) =
      let q = of_txn c steps s known a t.time t.only_reads t.keys t.lines t.placed in
      let l = f.txn_round r.number q.keeps.number (ap kind_service q.of_kind ∙ q.keeps.service) r.service in
      let e = timed_step c steps s known a t in
      let z = r.first in
      has_below a y _ (txn_there c steps s known a t.time t.only_reads t.keys t.lines t.placed)
      (subst (λ (k : PlaceKey). key_lt (txn_key s a t.only_reads t.time) k ≡ true) (sym r.is_key) (txn_first s a y.call t.time t.only_reads r.only_reads r.stamped (omega (arith, l, e, z))))

  -- to a call of a transaction service
  module _ (a : ℕ) (y : KeyedCall) (t : IsTxn s y.call y.key) (q : IsOfTxn s y.call) (before : IsOverBefore s a y.call) (f : Finds c s y.call q.op a) where
    abbrev least : ℕ
    least = least_of (owner_at s y.call).works.copy.least (Txn q.keeps.number)

    least_is : least_for s y.call (service_of q.op) ≡ least
    least_is = ap (λ (id : ServiceId). least_of (owner_at s y.call).works.copy.least id) q.keeps.service

    not_below_least : least ≤ t.time
    not_below_least = let l = covered.least y.call t.time t.only_reads t.keys t.lines q.op t.placed q.of_kind in let e = least_is in omega (arith, l, e)

    -- what comes before the least time
    other_before : (view_of c s).before a least ≡ true → step_of s a < y.key.step
    other_before b = subst (λ (k : PlaceKey). step_of s a < k.step) (sym t.is_key) (known.times.after t.time (step_of s a) made (let l = by_least in let m = not_below_least in omega (arith, l, m)))
      where
        made : step_of s a ≤ s.steps
        made = first_of (step_of s a) s.steps _ b
          where
            first_of : (i n : ℕ) (z : Bool) → (nat_le i n && z) ≡ true → i ≤ n
            first_of i n z g = grind (arith, nat_tests, g)

        by_least : moment_at s (step_of s a) ≤ least
        by_least = second_of (nat_le (step_of s a) s.steps) (moment_at s (step_of s a)) least b
          where
            second_of : (z : Bool) (i n : ℕ) → (z && nat_le i n) ≡ true → i ≤ n
            second_of z i n g = grind (arith, nat_tests, g)

    from_other : (k : PlaceKey) → IsThere s a k → step_of s a ≡ k.step → same_service (service_at a) (Txn q.keeps.number) ≡ false → HasBelow call_of Below things a y
    from_other k there e d = let l = other_before (f.other q.keeps.number d q.keeps.service) in has_below a y k there (step_below k y.key (subst (λ (n : ℕ). n < y.key.step) e l))

    from_register : (k : PlaceKey) → IsThere s a k → step_of s a ≡ k.step → (n : ℕ) → service_at a ≡ Reg n → HasBelow call_of Below things a y
    from_register k there e n d = from_other k there e (ap (λ (id : ServiceId). same_service id (Txn q.keeps.number)) d)

    from_txn : HasTimed s a → HasBelow call_of Below things a y
    from_txn x = by_service (same_service (service_at a) (Txn q.keeps.number)) refl
      where
        there : IsThere s a (txn_key s a x.only_reads x.time)
        there = txn_there c steps s known a x.time x.only_reads x.keys x.lines x.placed

        by_service : (b : Bool) → same_service (service_at a) (Txn q.keeps.number) ≡ b → HasBelow call_of Below things a y
        by_service false d = from_other _ there (timed_step c steps s known a x) d
        by_service true d =
            let l = f.same q.keeps.number (same_is (service_at a) q.keeps.number d) q.keeps.service in
            let e = x.told in
            let m = least_is in
            has_below a y _ there
            (subst (λ (k : PlaceKey). key_lt (txn_key s a x.only_reads x.time) k ≡ true) (sym t.is_key)
            (covered.before a y.call x.time t.time x.only_reads t.only_reads x.keys t.keys x.lines t.lines q.op x.placed t.placed q.of_kind (smaller_number s known.dates a y.call before) (omega (arith, l, e, m))))

    to_txn : HasDone s a → HasBelow call_of Below things a y
    to_txn (inl w) = let n = written_service a w in from_register _ (written_there c steps s known a w) (written_step c steps s known a w) n.0 n.1
    to_txn (inr (inl r)) = let n = read_service a r in from_register _ (read_there c steps s known a r) (read_step c steps s known a r) n.0 n.1
    to_txn (inr (inr x)) = from_txn x

  pub messages : (a : ℕ) (y : KeyedCall) → Contains things y → BeforeByMessages h a y.call → HasBelow call_of Below things a y
  messages a y m (i, j, x, b, p) = by_place (placed c steps s known y m)
    where
      done : HasDone s a
      done = has_done c steps s known a (ends_at-has_ended h a i x)

      register : IsRegister s y.call y.key → HasBelow call_of Below things a y
      register r = to_register a y r (known.finds a y.call r.op (i, j, x, b, p) r.of_kind (known.dates.sent y.call r.own)) done

      by_place : IsPlaced s y.call y.key → HasBelow call_of Below things a y
      by_place (inl w) = register (writer_is y.call y.key w)
      by_place (inr (inl r)) = register (reader_is y.call y.key r)
      by_place (inr (inr t)) =
          let q = of_txn c steps s known y.call t.time t.only_reads t.keys t.lines t.placed in
          to_txn a y t q (over_before a y.call i j x b (apart a y.call i j x b (path_forward h i j p)))
          (known.finds a y.call q.op (i, j, x, b, p) q.of_kind (known.dates.sent y.call (own_txn y.call t.time t.only_reads t.keys t.lines t.placed))) done

  -- REAL TIME
  -- a mutation that has ended has its step by its end
  by_end : (x : KeyedCall) → Contains things x → IsTrue (has_ended h x.call) → IsTrue (is_mutation h x.call) → x.key.step ≤ (owner_at s x.call).dates.ended
  by_end x m d w = by_done (has_done c steps s known x.call d)
    where
      at_key : (k : PlaceKey) → IsThere s x.call k → k.step ≤ (owner_at s x.call).dates.ended → x.key.step ≤ (owner_at s x.call).dates.ended
      at_key k t l = subst (λ (z : KeyedCall). z.key.step ≤ (owner_at s x.call).dates.ended) (one_each s t.call x t.there m t.is_call) (subst (λ (z : PlaceKey). z.step ≤ (owner_at s x.call).dates.ended) (sym t.is_key) l)

      fate : (owner_at s x.call).fate ≡ Ended
      fate = (known.told.replied x.call d).ended

      by_txn : (time : ℕ) (only_reads : Bool) (keys : List Key) (lines : List Line) → PlacedTxn s x.call time only_reads keys lines → x.key.step ≤ (owner_at s x.call).dates.ended
      by_txn _ _ _ _ (commits y time e f) = at_key _ (txn_there c steps s known x.call time false y.reads y.lines (commits y time e f)) (in_time.by_end x.call time y e f fate)
      by_txn _ _ _ _ (fails y time e p) = absurd (true≢false (sym w ∙ reads_mutate_not c s known.txns known.told x.call time y.reads y.lines (fails y time e p)))
      by_txn _ _ _ _ (reads y time e p) = absurd (true≢false (sym w ∙ reads_mutate_not c s known.txns known.told x.call time y.keys y.lines (reads y time e p)))

      by_done : HasDone s x.call → x.key.step ≤ (owner_at s x.call).dates.ended
      by_done (inl y) = at_key _ (written_there c steps s known x.call y) (known.ends.write x.call y.key y.value y.stamp y.writes).marked
      by_done (inr (inl y)) = absurd (true≢false (sym w ∙ reads_not h x.call y.key (says_of c steps s known x.call _ (has_read_kind c steps s known x.call y)).op))
      by_done (inr (inr t)) = by_txn t.time t.only_reads t.keys t.lines t.placed

  -- a register call, and a committed transaction, takes effect no earlier than it begins
  register_after : (o : ℕ) (k : PlaceKey) → IsRegister s o k → (owner_at s o).dates.begun ≤ k.step
  register_after o k r = subst (λ (x : PlaceKey). (owner_at s o).dates.begun ≤ x.step) (sym r.is_key) (let l = r.first in let b = known.inside.begun o (known.dates.sent o r.own) in omega (arith, l, b))

  follows : (x y : KeyedCall) → BeforeInRealTime h x.call y.call → Follows s x y
  follows x y (i, j, a, b, l) = record { ended = ends_at-has_ended h x.call i a; dated = dated s known.told x.call y.call i j a b l }

  by_steps : (x y : KeyedCall) → Contains things x → Follows s x y → IsTrue (is_mutation h x.call) → (owner_at s y.call).dates.begun ≤ y.key.step → Below x y
  by_steps x y m f w l = let a = by_end x m f.ended w in let d = f.dated in step_below x.key y.key (omega (arith, a, d, l))

  pub mutations : (x y : KeyedCall) → Contains things x → Contains things y → BeforeInRealTime h x.call y.call → IsTrue (is_mutation h x.call) → IsTrue (is_mutation h y.call) → Below x y
  mutations x y m n t v w = by_place (placed c steps s known y n)
    where
      f : Follows s x y
      f = follows x y t

      by_txn : (time : ℕ) (only_reads : Bool) (keys : List Key) (lines : List Line) → PlacedTxn s y.call time only_reads keys lines → y.key ≡ txn_key s y.call only_reads time → Below x y
      by_txn _ _ _ _ (commits z time e g) k = by_steps x y m f v (subst (λ (p : PlaceKey). (owner_at s y.call).dates.begun ≤ p.step) (sym k) (let l = in_time.after y.call time z e g in omega (arith, l)))
      by_txn _ _ _ _ (fails z time e p) k = absurd (true≢false (sym w ∙ reads_mutate_not c s known.txns known.told y.call time z.reads z.lines (fails z time e p)))
      by_txn _ _ _ _ (reads z time e p) k = absurd (true≢false (sym w ∙ reads_mutate_not c s known.txns known.told y.call time z.keys z.lines (reads z time e p)))

      by_place : IsPlaced s y.call y.key → Below x y
      by_place (inl z) = by_steps x y m f v (register_after y.call y.key (writer_is y.call y.key z))
      by_place (inr (inl z)) = by_steps x y m f v (register_after y.call y.key (reader_is y.call y.key z))
      by_place (inr (inr z)) = by_txn z.time z.only_reads z.keys z.lines z.placed z.is_key

  -- a conflicting read of a transaction service shares a key with a committed transaction
  pub conflicts : (x y : KeyedCall) → Contains things x → Contains things y → BeforeInRealTime h x.call y.call → Conflicts h y.call x.call → Below x y
  conflicts x y m n t d = by_place (placed c steps s known y n)
    where
      f : Follows s x y
      f = follows x y t

      fresh : (time : ℕ) (keys : List Key) (lines : List Line) → PlacedTxn s y.call time true keys lines → y.key ≡ txn_key s y.call true time → Below x y
      fresh time keys lines p k =
          let o = op_is c s known.txns known.told y.call time true keys lines p in
          let among : Contains keys d.key = subst (λ (ks : List Key). Contains ks d.key) o.of_keys (subst (λ (z : Op). Contains (reads_of z) d.key) (says_of c steps s known y.call o.op o.of_kind).op d.is_read) in
          let g = keys_of_txn c steps s known y.call time true keys lines p in
          let w = wrote_key c steps s known x.call x.key d.key g.0 (placed c steps s known x m) (g.1 d.key among) (record { mutates = d.mutates; written = d.is_written }) in
          subst (λ (z : PlaceKey). key_lt z y.key ≡ true) (sym w.is_key)
          (subst (λ (z : PlaceKey). key_lt (txn_key s x.call false w.time) z ≡ true) (sym k)
          ((txns_fresh c s known.txns).after y.call time x.call w.value w.time keys lines d.key p (contains_has keys d.key among) w.writes (known.told.replied x.call f.ended).ended f.dated))

      by_txn : (time : ℕ) (only_reads : Bool) (keys : List Key) (lines : List Line) → PlacedTxn s y.call time only_reads keys lines → y.key ≡ txn_key s y.call only_reads time → Below x y
      by_txn _ _ _ _ (commits z time e g) k = absurd (true≢false (sym (commit_mutates c s known.txns known.told y.call time z e g) ∙ d.reads))
      by_txn _ _ _ _ (fails z time e p) k = fresh time z.reads z.lines (fails z time e p) k
      by_txn _ _ _ _ (reads z time e p) k = fresh time z.keys z.lines (reads z time e p) k

      by_place : IsPlaced s y.call y.key → Below x y
      by_place (inl z) = by_steps x y m f d.mutates (register_after y.call y.key (writer_is y.call y.key z))
      by_place (inr (inl z)) = by_steps x y m f d.mutates (register_after y.call y.key (reader_is y.call y.key z))
      by_place (inr (inr z)) = by_txn z.time z.only_reads z.keys z.lines z.placed z.is_key
