-- The dates of owners: none is later than the steps made, and from one state to a later one each stays or is
-- later than the steps of the first.
use Rattle.std.proofs.Common.{◌≡◌, ℕ, zero, suc, ◌<◌, ◌≤◌, List, [], ◌∷◌, ◌++◌, length, get_or, Some, None, refl, sym, ◌∙◌, subst, arith}
use Rattle.std.proofs.Math.ListN.{set}
use Rattle.truetime.specs.Reading.{Reading}
use Rattle.rss_names.specs.declared.attempt.Attempt.{Attempt}
use Rattle.causal_context.specs.declared.dep.Dep.{Dep}
use Rattle.pipeline_lang.specs.declared.config.Config.{Config}
use Rattle.rss_wire.specs.Messages.{message_at}
use Rattle.rss_wire.specs.declared.messages.Outcome.{Outcome}
use Rattle.rss_tables.specs.Lines.{tells_decision}
use Rattle.rss_tables.specs.Outs.{Out}
use Rattle.rss_machine.specs.Effect.{stepped}
use Rattle.rss_machine.specs.Moves.{ticks, sends_one, sends, listens, plans_stub}
use Rattle.rss_machine.specs.Refusal.{refusal}
use Rattle.rss_machine.specs.Run.{run, run_from}
use Rattle.rss_machine.specs.State.{State, Owner, start, owner_at, no_owner}
use Rattle.rss_machine.specs.declared.step.Step.{Step}
use Rattle.world_laws.proofs.Doings.{Beginning, calls, fences, Resting, plans, past, fixed, cleared, Working, owes_nothing, is_past, enters_own, Leaving, waits, fixes_work, fixes_own, asks_register, stamps_register, begins_snapshot, begins_txn, fence_done, stub_done, Doing, listens_one, fix_hears, fix_reached, register_hears, register_stores, register_reached, read_ends, write_ends, txn_ends, snap_ends, counts_one, cuts_one, is_closed, forgets_all, turns, stub_asks}
use Rattle.world_laws.proofs.OwnerMoves.{OwnerKeeps}
use Rattle.world_laws.proofs.OwnerWalk.{owner_walk}
use Rattle.world_laws.proofs.Runs.{passes}
use Rattle.world_laws.proofs.Runs.{run_keeps}
use Rattle.std.proofs.Common.{◌⊎◌, inl, inr}
use Rattle.world_laws.proofs.Doings.{listened}
use Rattle.world_laws.proofs.Looks.{get_or_past}
use Rattle.std.specs.Prelude.{◌+◌}
use Rattle.rss_machine.specs.Run.{run, run_from}
use Rattle.rss_machine.specs.State.{dated}
use Rattle.rss_machine.specs.declared.state.Dates.{Dates}
use Rattle.world_laws.proofs.Clock.{clock_step}
use Rattle.world_laws.proofs.OwnerMoves.{OwnerMoves}
use Rattle.world_laws.proofs.Runs.{run_keeps, steps_keep}
use Rattle.reg_laws.proofs.Awaiting.{set_each, grow_each}

-- how the dates of an owner change in a step of this number
pub data DateChange (n : ℕ) (d : Dates) : Dates → Type 0 where
  stays : DateChange n d d
  is_launched : DateChange n d (record d { launched = n })
  is_ended : DateChange n d (record d { ended = n })
  is_entered : DateChange n d (record d { entered = n })

leaving_change : (c : Config) (at : Reading) (s : State) (o : ℕ) (w : Owner) (outs : List Out) → Leaving c at s o w outs → DateChange s.steps (owner_at s o).dates w.dates
leaving_change c at s o _ _ (waits id time rest l) = stays
leaving_change c at s o _ _ (fixes_work id rest l) = stays
leaving_change c at s o _ _ (fixes_own x dep deps l e d) = stays
leaving_change c at s o _ _ (asks_register key l e d) = is_launched
leaving_change c at s o _ _ (stamps_register key value l e d) = is_launched
leaving_change c at s o _ _ (begins_snapshot keys t l e d) = is_launched
leaving_change c at s o _ _ (begins_txn reads guard writes t l e d) = is_launched
leaving_change c at s o _ _ (fence_done l e) = is_ended
leaving_change c at s o _ _ (stub_done u l e) = is_ended

working_change : (at : Reading) (s : State) (o : ℕ) (w : Owner) → Working at s o w → DateChange s.steps (owner_at s o).dates w.dates
working_change at s o _ (owes_nothing id rest l) = stays
working_change at s o _ (is_past id time rest l e) = stays
working_change at s o _ (enters_own x l e f) = is_entered

resting_change : (s : State) (o : ℕ) (w : Owner) → Resting s o w → DateChange s.steps (owner_at s o).dates w.dates
resting_change s o _ (plans e b) = stays
resting_change s o _ (past id x rest time l e) = stays
resting_change s o _ (fixed id x rest r e l a b d) = stays
resting_change s o _ (cleared r e l a b d) = stays

doing_change : (s : State) (o : ℕ) (w : Owner) (outs : List Out) (new : List Dep) → Doing s o w outs new → DateChange s.steps (owner_at s o).dates w.dates
doing_change s o _ _ _ (listens_one slot r d) = stays
doing_change s o _ _ _ (fix_hears f slot r x d e) = stays
doing_change s o _ _ _ (fix_reached f slot r y x d e) = stays
doing_change s o _ _ _ (register_hears f slot r x d a e) = stays
doing_change s o _ _ _ (register_stores f slot r x d a e) = stays
doing_change s o _ _ _ (register_reached f slot r y x d e) = stays
doing_change s o _ _ _ (read_ends f key cell dep x a b) = is_ended
doing_change s o _ _ _ (write_ends f key value e x a b) = is_ended
doing_change s o _ _ _ (txn_ends y t time a b d) = is_ended
doing_change s o _ _ _ (snap_ends y t time a b d) = is_ended
doing_change s o _ _ _ (counts_one target) = stays
doing_change s o _ _ _ (cuts_one id replica) = stays
doing_change s o _ _ _ (is_closed f) = is_ended
doing_change s o _ _ _ forgets_all = stays
doing_change s o _ _ _ (turns x outs y) = stays
doing_change s o _ _ _ (stub_asks attempt shards e b) = stays

beginning_dates : (c : Config) (s : State) (w : Owner) → Beginning c s w → w.dates ≡ dated s.steps
beginning_dates c s _ (calls n x e) = refl
beginning_dates c s _ (fences n) = refl

-- what is true of the dates of each owner, in a step of a number that changes them
module _ (Q : ℕ → ℕ → Dates → Type 0) where
  -- at a number of steps, of each owner
  pub record Dating (s : State) : Type 0 where
    pub each : (o : ℕ) → Q s.steps o (owner_at s o).dates

  -- what has to be shown
  pub record DatesKept (n : ℕ) : Type 0 where
    pub change : (o : ℕ) (d e : Dates) → DateChange n d e → Q n o d → Q n o e
    pub fresh : (o : ℕ) → Q n o no_owner.dates → Q n o (dated n)

  dating_set : (s t : State) (o : ℕ) (w : Owner) → DatesKept s.steps → t.steps ≡ s.steps → t.owners ≡ set s.owners o w → DateChange s.steps (owner_at s o).dates w.dates → Dating s → Dating t
  dating_set s t o w k e d y h = record {
    each = subst (λ (n : ℕ). (i : ℕ) → Q n i (owner_at t i).dates) (sym e)
        (subst (λ (owners : List Owner). (i : ℕ) → Q s.steps i (get_or owners i no_owner).dates) (sym d) (set_each (λ i v. Q s.steps i v.dates) s.owners o w (k.change o (owner_at s o).dates w.dates y (h.each o)) h.each));
  }

  dating_grow : (s t : State) (w : Owner) → DatesKept s.steps → t.steps ≡ s.steps → t.owners ≡ s.owners ++ w ∷ [] → w.dates ≡ dated s.steps → Dating s → Dating t
  dating_grow s t w k e d y h = record {
    each = subst (λ (n : ℕ). (i : ℕ) → Q n i (owner_at t i).dates) (sym e)
        (subst (λ (owners : List Owner). (i : ℕ) → Q s.steps i (get_or owners i no_owner).dates) (sym d)
        (grow_each (λ i v. Q s.steps i v.dates) s.owners w (subst (Q s.steps (length s.owners)) (sym y) (k.fresh (length s.owners) (past_end s h))) h.each));
  }
    where
      past_end : (s : State) → Dating s → Q s.steps (length s.owners) no_owner.dates
      past_end s h = subst (λ (v : Owner). Q s.steps (length s.owners) v.dates) (at_end s.owners) (h.each (length s.owners))
        where
          at_end : (xs : List Owner) → get_or xs (length xs) no_owner ≡ no_owner
          at_end xs = by_place (get_or_past xs (length xs) no_owner)
            where
              by_place : (length xs < length xs) ⊎ (get_or xs (length xs) no_owner ≡ no_owner) → get_or xs (length xs) no_owner ≡ no_owner
              by_place (inl l) = absurd (omega (arith, l))
              by_place (inr e) = e

  dating_one : (o : ℕ) (s : State) (out : Out) → Dating s → Dating (sends_one s o out)
  dating_one o s out h = record { each = set_each (λ i v. Q s.steps i v.dates) s.owners o _ (h.each o) h.each }

  dating_sends : (o : ℕ) (outs : List Out) (s : State) → Dating s → Dating (sends s o outs)
  dating_sends o [] s h = h
  dating_sends o (out ∷ outs) s h = dating_sends o outs (sends_one s o out) (dating_one o s out h)

  steps_sends : (o : ℕ) (outs : List Out) (s : State) → (sends s o outs).steps ≡ s.steps
  steps_sends o [] s = refl
  steps_sends o (out ∷ outs) s = steps_sends o outs (sends_one s o out)

  -- at a fixed number of steps, while a step is made
  module _ (n : ℕ) (k : DatesKept n) where
    abbrev pub DatingAt : State → Type 0
    DatingAt s = (s.steps ≡ n) × Dating s

    kept_at : (s : State) → s.steps ≡ n → DatesKept s.steps
    kept_at s e = subst DatesKept (sym e) k

    dating_settles : (s : State) (o slot : ℕ) (a : Attempt) (shards : List ℕ) (outcome : Outcome) → DatingAt s → DatingAt (plans_stub (sends (listens s o slot) o (tells_decision a outcome shards)) o)
    dating_settles s o slot a shards outcome h =
        let u = listens s o slot in
        let v = sends u o (tells_decision a outcome shards) in
        let q : Dating u = dating_set s u o (listened s o slot) (kept_at s h.0) refl refl stays h.1 in
        let p : Dating v = dating_sends o (tells_decision a outcome shards) u q in
        let e : v.steps ≡ n = steps_sends o (tells_decision a outcome shards) u ∙ h.0 in
        (e, dating_set v (plans_stub v o) o _ (kept_at v e) refl refl stays p)

    pub dating_moves : (c : Config) (at : Reading) → OwnerMoves c at DatingAt (λ s o. DatingAt s)
    dating_moves c at = record {
      fates = λ s m f h. (h.0, record { each = h.1.each });
      again = λ s o exchange slot target r d h. (h.0, dating_one o s (record { slot = Some slot; target = target; request = r }) h.1);
      stages = λ s t d h. (d.stores.steps ∙ h.0, record { each = subst (λ (m : ℕ). (i : ℕ) → Q m i (owner_at t i).dates) (sym d.stores.steps) (subst (λ (owners : List Owner). (i : ℕ) → Q s.steps i (get_or owners i no_owner).dates) (sym d.owned) h.1.each) });
      dies = λ s t m u d h. (d.stores.steps ∙ h.0, dating_grow s t _ (kept_at s h.0) d.stores.steps d.owned refl h.1);
      begins = λ s t w b d h. (d.stores.steps ∙ h.0, dating_grow s t w (kept_at s h.0) d.stores.steps d.owned (beginning_dates c s w b) h.1);
      rests = λ s t o w i b d h. (d.stores.steps ∙ h.0, dating_set s t o w (kept_at s h.0) d.stores.steps d.owned (resting_change s o w b) h.1);
      settles = λ s o slot a shards outcome i e d h. dating_settles s o slot a shards outcome h;
      settled = λ s o h. h;
      works = λ s t o w i b d h. (d.stores.steps ∙ h.0, dating_set s t o w (kept_at s h.0) d.stores.steps d.owned (working_change at s o w b) h.1);
      leaves = λ s t o w outs i b d h. (steps_sends o outs t ∙ (d.stores.steps ∙ h.0), dating_sends o outs t (dating_set s t o w (kept_at s h.0) d.stores.steps d.owned (leaving_change c at s o w outs b) h.1));
      does = λ s t o w outs new b d h. (steps_sends o outs t ∙ (d.stores.steps ∙ h.0), dating_sends o outs t (dating_set s t o w (kept_at s h.0) d.stores.steps d.owned (doing_change s o w outs new b) h.1));
    }

    pub dating_keeps : (c : Config) (at : Reading) → OwnerKeeps c at DatingAt (λ s o. DatingAt s)
    dating_keeps c at = record {
      moves = dating_moves c at;
      shards = λ s m shard r d h. (h.0, record { each = h.1.each });
      replicas = λ s m id replica r d h. (h.0, record { each = set_each (λ i v. Q s.steps i v.dates) s.owners (message_at s.net m).envelope.owner _ (h.1.each (message_at s.net m).envelope.owner) h.1.each });
    }

  -- a step that is not refused
  pub dating_step : (c : Config) (s : State) (step : Step) → refusal c s step ≡ None → DatesKept (s.steps + 1) → ((o : ℕ) (d : Dates) → Q s.steps o d → Q (s.steps + 1) o d) → Dating s → Dating (stepped c s step)
  dating_step c s step r k f h =
      (owner_walk c step.at (DatingAt (s.steps + 1) k) (λ t o. DatingAt (s.steps + 1) k t) (dating_keeps (s.steps + 1) k c step.at) (ticks s step.at) step.kind (passes c s step r).kind (refl, record { each = λ o. f o (owner_at s o).dates (h.each o) })).1

-- no date is later than the steps made
pub record UpTo (n : ℕ) (d : Dates) : Type 0 where
  pub begun : d.begun ≤ n
  pub launched : d.launched ≤ n
  pub ended : d.ended ≤ n

abbrev pub DatesUpTo : State → Type 0
DatesUpTo s = Dating (λ n o d. UpTo n d) s

up_to_kept : (n : ℕ) → DatesKept (λ m o d. UpTo m d) n
up_to_kept n = record {
  change = λ o d e y h. by_change d e y h;
  fresh = λ o h. record { begun = omega arith; launched = omega arith; ended = omega arith };
}
  where
    by_change : (d e : Dates) → DateChange n d e → UpTo n d → UpTo n e
    by_change d _ stays h = h
    by_change d _ is_launched h = record { begun = h.begun; launched = omega arith; ended = h.ended }
    by_change d _ is_ended h = record { begun = h.begun; launched = h.launched; ended = omega arith }
    by_change d _ is_entered h = record { begun = h.begun; launched = h.launched; ended = h.ended }

pub up_to_step : (c : Config) (s : State) (step : Step) → refusal c s step ≡ None → DatesUpTo s → DatesUpTo (stepped c s step)
up_to_step c s step r h = dating_step (λ n o d. UpTo n d) c s step r (up_to_kept (s.steps + 1)) (λ o d k. record { begun = let a = k.begun in omega (arith, a); launched = let a = k.launched in omega (arith, a); ended = let a = k.ended in omega (arith, a) }) h

pub up_to_run : (c : Config) (steps : List Step) (s : State) → run c steps ≡ Some s → DatesUpTo s
up_to_run c steps s e = run_keeps c DatesUpTo (up_to_step c) (record { each = each }) steps s e
  where
    each : (o : ℕ) → UpTo 0 (owner_at (start c) o).dates
    each zero = record { begun = omega arith; launched = omega arith; ended = omega arith }
    each (suc o) = record { begun = omega arith; launched = omega arith; ended = omega arith }

-- from one state to a later one each date stays, or is later than the steps of the first
pub record DatesSince (u : State) (d e : Dates) : Type 0 where
  pub begun : (e.begun ≡ d.begun) ⊎ (u.steps < e.begun)
  pub launched : (e.launched ≡ d.launched) ⊎ (u.steps < e.launched)
  pub ended : (e.ended ≡ d.ended) ⊎ (u.steps < e.ended)

-- and the steps are no fewer
pub record LaterDates (u : State) (n o : ℕ) (d : Dates) : Type 0 where
  pub more : u.steps ≤ n
  pub since : DatesSince u (owner_at u o).dates d

later_dates_kept : (u : State) (n : ℕ) → u.steps < n → DatesKept (LaterDates u) n
later_dates_kept u n l = record {
  change = λ o d e y h. record { more = h.more; since = by_change (owner_at u o).dates d e y h.since };
  fresh = λ o h. record { more = h.more; since = record { begun = inr l; launched = h.since.launched; ended = h.since.ended } };
}
  where
    by_change : (b d e : Dates) → DateChange n d e → DatesSince u b d → DatesSince u b e
    by_change b d _ stays h = h
    by_change b d _ is_launched h = record { begun = h.begun; launched = inr l; ended = h.ended }
    by_change b d _ is_ended h = record { begun = h.begun; launched = h.launched; ended = inr l }
    by_change b d _ is_entered h = record { begun = h.begun; launched = h.launched; ended = h.ended }

abbrev pub DatedSince : State → State → Type 0
DatedSince u s = (u.steps ≤ s.steps) × Dating (LaterDates u) s

pub dated_since_step : (c : Config) (u s : State) (step : Step) → refusal c s step ≡ None → DatedSince u s → DatedSince u (stepped c s step)
dated_since_step c u s step r h =
    let a = h.0 in
    let n : (stepped c s step).steps ≡ s.steps + 1 = (clock_step c s step r).0 in
    (omega (arith, a, n), dating_step (LaterDates u) c s step r (later_dates_kept u (s.steps + 1) (omega (arith, a))) (λ o d k. record { more = omega (arith, a); since = k.since }) h.1)

pub dated_since_from : (c : Config) (steps : List Step) (u s : State) → run_from c u steps ≡ Some s → DatedSince u s
dated_since_from c steps u s e = steps_keep c (DatedSince u) (dated_since_step c u) steps u s e (omega arith, record { each = λ o. record { more = omega arith; since = record { begun = inl refl; launched = inl refl; ended = inl refl } } })

-- a call begins no later than it sends its own first round
pub record InTurn (n : ℕ) (d : Dates) : Type 0 where
  pub up_to : UpTo n d
  pub begun : 0 < d.launched → d.begun ≤ d.launched

in_turn_kept : (n : ℕ) → DatesKept (λ m o d. InTurn m d) n
in_turn_kept n = record {
  change = λ o d e y h. by_change d e y h;
  fresh = λ o h. record { up_to = record { begun = omega arith; launched = omega arith; ended = omega arith }; begun = λ l. absurd (omega (arith, l)) };
}
  where
    by_change : (d e : Dates) → DateChange n d e → InTurn n d → InTurn n e
    by_change d _ stays h = h
    by_change d _ is_launched h = record { up_to = record { begun = h.up_to.begun; launched = omega arith; ended = h.up_to.ended }; begun = λ l. h.up_to.begun }
    by_change d _ is_ended h = record { up_to = record { begun = h.up_to.begun; launched = h.up_to.launched; ended = omega arith }; begun = h.begun }
    by_change d _ is_entered h = record { up_to = record { begun = h.up_to.begun; launched = h.up_to.launched; ended = h.up_to.ended }; begun = h.begun }

in_turn_step : (c : Config) (s : State) (step : Step) → refusal c s step ≡ None → Dating (λ n o d. InTurn n d) s → Dating (λ n o d. InTurn n d) (stepped c s step)
in_turn_step c s step r h =
    dating_step (λ n o d. InTurn n d) c s step r (in_turn_kept (s.steps + 1)) (λ o d k. record { up_to = record { begun = let a = k.up_to.begun in omega (arith, a); launched = let a = k.up_to.launched in omega (arith, a); ended = let a = k.up_to.ended in omega (arith, a) }; begun = k.begun }) h

pub begun_first : (c : Config) (steps : List Step) (s : State) → run c steps ≡ Some s → (o : ℕ) → 0 < (owner_at s o).dates.launched → (owner_at s o).dates.begun ≤ (owner_at s o).dates.launched
begun_first c steps s e o = ((run_keeps c (Dating (λ n o d. InTurn n d)) (in_turn_step c) (record { each = each }) steps s e).each o).begun
  where
    each : (o : ℕ) → InTurn 0 (owner_at (start c) o).dates
    each zero = record { up_to = record { begun = omega arith; launched = omega arith; ended = omega arith }; begun = λ l. absurd (omega (arith, l)) }
    each (suc o) = record { up_to = record { begun = omega arith; launched = omega arith; ended = omega arith }; begun = λ l. absurd (omega (arith, l)) }
