-- Least times of owners against the true moment in which they entered their service, through all that owners do in a step.
use Rattle.std.proofs.Common.{◌≡◌, ℕ, ◌<◌, ◌≤◌, true, List, [], ◌∷◌, ◌++◌, get_or, Some, refl, sym, ap, ◌∙◌, subst, arith}
use Rattle.std.specs.Prelude.{set}
use Rattle.std.proofs.lemmas.Bool.{true≢false}
use Rattle.truetime.specs.Reading.{Reading}
use Rattle.rss_names.specs.declared.attempt.Attempt.{Attempt}
use Rattle.rss_names.specs.declared.service.ServiceId.{ServiceId}
use Rattle.rss_names.specs.declared.service.ServiceId.TheVariants.{Txn, Reg}
use Rattle.causal_context.specs.LeastTimes.{least_of, least_raised}
use Rattle.causal_context.specs.declared.dep.Dep.{Dep}
use Rattle.causal_context.proofs.Looked.{least_raised_reaches}
use Rattle.pipeline_lang.specs.declared.config.Config.{Config}
use Rattle.rss_model.specs.declared.op.Op.{Op}
use Rattle.rss_wire.specs.Messages.{message_at}
use Rattle.rss_wire.specs.declared.messages.Outcome.{Outcome}
use Rattle.rss_tables.specs.Lines.{tells_decision}
use Rattle.rss_tables.specs.Outs.{Out}
use Rattle.rss_machine.specs.Moves.{sends_one, sends, listens, plans_stub}
use Rattle.rss_machine.specs.Session.{service_of}
use Rattle.rss_machine.specs.State.{State, Owner, owner_at, no_owner}
use Rattle.rss_machine.specs.declared.session.OwnerKind.{OwnerKind}
use Rattle.rss_machine.specs.declared.session.OwnerKind.TheVariants as kind
use Rattle.world_laws.proofs.Doings.{Beginning, calls, fences, Resting, plans, past, fixed, cleared, Working, owes_nothing, is_past, enters_own, Leaving, waits, fixes_work, fixes_own, asks_register, stamps_register, begins_snapshot, begins_txn, fence_done, stub_done, Doing, listens_one, fix_hears, fix_reached, register_hears, register_stores, register_reached, read_ends, write_ends, txn_ends, snap_ends, counts_one, cuts_one, is_closed, forgets_all, turns, stub_asks, listened}
use Rattle.world_laws.proofs.OwnerMoves.{OwnerKeeps, OwnerMoves}
use Rattle.reg_laws.proofs.Awaiting.{set_each, grow_each}
use Rattle.txn_decision_laws.specs.Entered.{is_txn_service}
use Rattle.txn_decision_laws.proofs.DateSessions.{moment_in}

-- an owner of a kind that entered its service in a step, with these least times
pub record OwnerEntered (ms : List ℕ) (n : ℕ) (k : OwnerKind) (entered : ℕ) (least : List (ServiceId × ℕ)) : Type 0 where
  pub up_to : entered ≤ n
  pub raised : (x : Op) → k ≡ kind.Calling x → is_txn_service (service_of x) ≡ true → 0 < entered → moment_in ms entered ≤ least_of least (service_of x)

abbrev pub HasEntered : List ℕ → ℕ → Owner → Type 0
HasEntered ms n w = OwnerEntered ms n w.kind w.dates.entered w.works.copy.least

-- an owner that has not entered
pub not_entered : (ms : List ℕ) (n : ℕ) (k : OwnerKind) (least : List (ServiceId × ℕ)) → OwnerEntered ms n k 0 least
not_entered ms n k least = record { up_to = omega arith; raised = λ x e f l. absurd (omega (arith, l)) }

-- operations of calls that are the same
same_op : (x y : Op) → kind.Calling x ≡ kind.Calling y → x ≡ y
same_op x y e = cc

-- an owner enters its service in a step whose moment is not past the reading's end
raised_to : (id : ServiceId) (time : ℕ) (least : List (ServiceId × ℕ)) → is_txn_service id ≡ true → time ≤ least_of (least_raised id time least) id
raised_to (Txn number) time least e = least_raised_reaches number time least
raised_to (Reg number) time least e = absurd (true≢false (sym e))

pub enters_now : (ms : List ℕ) (n latest : ℕ) → moment_in ms n ≤ latest → (k : OwnerKind) (x : Op) (least : List (ServiceId × ℕ)) → k ≡ kind.Calling x → OwnerEntered ms n k n (least_raised (service_of x) latest least)
enters_now ms n latest now k x least e = record {
  up_to = omega arith;
  raised = λ y f g l. subst (λ (z : Op). moment_in ms n ≤ least_of (least_raised (service_of x) latest least) (service_of z)) (same_op x y (sym e ∙ f)) (reached y f g);
}
  where
    reached : (y : Op) → k ≡ kind.Calling y → is_txn_service (service_of y) ≡ true → moment_in ms n ≤ least_of (least_raised (service_of x) latest least) (service_of x)
    reached y f g = let r = raised_to (service_of x) latest least (ap (λ (z : Op). is_txn_service (service_of z)) (same_op x y (sym e ∙ f)) ∙ g) in omega (arith, r, now)

module _ (ms : List ℕ) (n : ℕ) where
  -- what owners do leaves kind, entry and least times
  leaving_stays : (c : Config) (at : Reading) (s : State) (o : ℕ) (w : Owner) (outs : List Out) → Leaving c at s o w outs → HasEntered ms n (owner_at s o) → HasEntered ms n w
  leaving_stays c at s o _ _ (waits id time rest l) h = h
  leaving_stays c at s o _ _ (fixes_work id rest l) h = h
  leaving_stays c at s o _ _ (fixes_own x dep deps l e d) h = h
  leaving_stays c at s o _ _ (asks_register key l e d) h = h
  leaving_stays c at s o _ _ (stamps_register key value l e d) h = h
  leaving_stays c at s o _ _ (begins_snapshot keys t l e d) h = h
  leaving_stays c at s o _ _ (begins_txn reads guard writes t l e d) h = h
  leaving_stays c at s o _ _ (fence_done l e) h = h
  leaving_stays c at s o _ _ (stub_done u l e) h = h

  resting_stays : (s : State) (o : ℕ) (w : Owner) → Resting s o w → HasEntered ms n (owner_at s o) → HasEntered ms n w
  resting_stays s o _ (plans e b) h = h
  resting_stays s o _ (past id x rest time l e) h = h
  resting_stays s o _ (fixed id x rest r e l a b d) h = h
  resting_stays s o _ (cleared r e l a b d) h = h

  doing_stays : (s : State) (o : ℕ) (w : Owner) (outs : List Out) (new : List Dep) → Doing s o w outs new → HasEntered ms n (owner_at s o) → HasEntered ms n w
  doing_stays s o _ _ _ (listens_one slot r d) h = h
  doing_stays s o _ _ _ (fix_hears f slot r x d e) h = h
  doing_stays s o _ _ _ (fix_reached f slot r y x d e) h = h
  doing_stays s o _ _ _ (register_hears f slot r x d a e) h = h
  doing_stays s o _ _ _ (register_stores f slot r x d a e) h = h
  doing_stays s o _ _ _ (register_reached f slot r y x d e) h = h
  doing_stays s o _ _ _ (read_ends f key cell dep x a b) h = h
  doing_stays s o _ _ _ (write_ends f key value e x a b) h = h
  doing_stays s o _ _ _ (txn_ends y t time a b d) h = h
  doing_stays s o _ _ _ (snap_ends y t time a b d) h = h
  doing_stays s o _ _ _ (counts_one target) h = h
  doing_stays s o _ _ _ (cuts_one id replica) h = h
  doing_stays s o _ _ _ (is_closed f) h = h
  doing_stays s o _ _ _ forgets_all h = h
  doing_stays s o _ _ _ (turns x outs y) h = h
  doing_stays s o _ _ _ (stub_asks attempt shards e b) h = h

  -- an owner that begins has not entered
  beginning_fresh : (c : Config) (s : State) (w : Owner) → Beginning c s w → HasEntered ms n w
  beginning_fresh c s w (calls m x e) = not_entered ms n w.kind w.works.copy.least
  beginning_fresh c s w (fences m) = not_entered ms n w.kind w.works.copy.least

  -- within a step of this number each owner is so
  pub record Entering (s : State) : Type 0 where
    pub steps : s.steps ≡ n
    pub each : (o : ℕ) → HasEntered ms n (owner_at s o)

  entering_set : (s t : State) (o : ℕ) (w : Owner) → t.steps ≡ s.steps → t.owners ≡ set s.owners o w → HasEntered ms n w → Entering s → Entering t
  entering_set s t o w e d q h = record {
    steps = e ∙ h.steps;
    each = subst (λ (owners : List Owner). (i : ℕ) → HasEntered ms n (get_or owners i no_owner)) (sym d) (set_each (λ i v. HasEntered ms n v) s.owners o w q h.each);
  }

  entering_grow : (s t : State) (w : Owner) → t.steps ≡ s.steps → t.owners ≡ s.owners ++ w ∷ [] → HasEntered ms n w → Entering s → Entering t
  entering_grow s t w e d q h = record {
    steps = e ∙ h.steps;
    each = subst (λ (owners : List Owner). (i : ℕ) → HasEntered ms n (get_or owners i no_owner)) (sym d) (grow_each (λ i v. HasEntered ms n v) s.owners w q h.each);
  }

  entering_one : (o : ℕ) (s : State) (out : Out) → Entering s → Entering (sends_one s o out)
  entering_one o s out h = record { steps = h.steps; each = set_each (λ i v. HasEntered ms n v) s.owners o _ (h.each o) h.each }

  entering_sends : (o : ℕ) (outs : List Out) (s : State) → Entering s → Entering (sends s o outs)
  entering_sends o [] s h = h
  entering_sends o (out ∷ outs) s h = entering_sends o outs (sends_one s o out) (entering_one o s out h)

  entering_settles : (s : State) (o slot : ℕ) (a : Attempt) (shards : List ℕ) (outcome : Outcome) → Entering s → Entering (plans_stub (sends (listens s o slot) o (tells_decision a outcome shards)) o)
  entering_settles s o slot a shards outcome h =
      let u = listens s o slot in
      let v = sends u o (tells_decision a outcome shards) in
      let q : Entering v = entering_sends o (tells_decision a outcome shards) u (entering_set s u o (listened s o slot) refl refl (h.each o) h) in
      entering_set v (plans_stub v o) o _ refl refl (q.each o) q

  module _ (c : Config) (at : Reading) (now : moment_in ms n ≤ at.latest) where
    working_stays : (s : State) (o : ℕ) (w : Owner) → Working at s o w → Entering s → HasEntered ms n w
    working_stays s o _ (owes_nothing id rest l) h = h.each o
    working_stays s o _ (is_past id time rest l g) h = h.each o
    working_stays s o _ (enters_own x l e f) h =
        subst (λ (m : ℕ). OwnerEntered ms n (owner_at s o).kind m (least_raised (service_of x) at.latest (owner_at s o).works.copy.least)) (sym h.steps)
        (enters_now ms n at.latest now (owner_at s o).kind x (owner_at s o).works.copy.least e)

    entering_moves : OwnerMoves c at Entering (λ s o. Entering s)
    entering_moves = record {
      fates = λ s m f h. record { steps = h.steps; each = h.each };
      again = λ s o exchange slot target r d h. entering_one o s (record { slot = Some slot; target = target; request = r }) h;
      stages = λ s t d h. record { steps = d.stores.steps ∙ h.steps; each = subst (λ (owners : List Owner). (i : ℕ) → HasEntered ms n (get_or owners i no_owner)) (sym d.owned) h.each };
      dies = λ s t m u d h. entering_grow s t _ d.stores.steps d.owned (not_entered ms n _ _) h;
      begins = λ s t w b d h. entering_grow s t w d.stores.steps d.owned (beginning_fresh c s w b) h;
      rests = λ s t o w i b d h. entering_set s t o w d.stores.steps d.owned (resting_stays s o w b (h.each o)) h;
      settles = λ s o slot a shards outcome i e d h. entering_settles s o slot a shards outcome h;
      settled = λ s o h. h;
      works = λ s t o w i b d h. entering_set s t o w d.stores.steps d.owned (working_stays s o w b h) h;
      leaves = λ s t o w outs i b d h. entering_sends o outs t (entering_set s t o w d.stores.steps d.owned (leaving_stays c at s o w outs b (h.each o)) h);
      does = λ s t o w outs new b d h. entering_sends o outs t (entering_set s t o w d.stores.steps d.owned (doing_stays s o w outs new b (h.each o)) h);
    }

    pub entering_keeps : OwnerKeeps c at Entering (λ s o. Entering s)
    entering_keeps = record {
      moves = entering_moves;
      shards = λ s m shard r d h. record { steps = h.steps; each = h.each };
      replicas = λ s m id replica r d h. record { steps = h.steps; each = set_each (λ i v. HasEntered ms n v) s.owners (message_at s.net m).envelope.owner _ (h.each (message_at s.net m).envelope.owner) h.each };
    }
