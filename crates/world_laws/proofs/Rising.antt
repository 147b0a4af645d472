-- Owners are numbered in the order in which they begin.
use Rattle.std.proofs.Common.{◌≡◌, ℕ, ◌+◌, ◌<◌, ◌≤◌, ◌⊎◌, inl, inr, List, [], ◌∷◌, ◌++◌, length, get_or, Option, Some, refl, ap, sym, ◌∙◌, subst, arith}
use Rattle.std.proofs.Math.ListN.{set}
use Rattle.truetime.specs.Reading.{Reading}
use Rattle.rss_names.specs.declared.attempt.Attempt.{Attempt}
use Rattle.causal_context.specs.declared.dep.Dep.{Dep}
use Rattle.pipeline_lang.specs.declared.config.Config.{Config}
use Rattle.rss_wire.specs.Messages.{message_at}
use Rattle.rss_wire.specs.declared.messages.Outcome.{Outcome}
use Rattle.rss_tables.specs.Lines.{tells_decision}
use Rattle.rss_tables.specs.Outs.{Out}
use Rattle.rss_machine.specs.Moves.{ticks, sends_one, sends, plans_stub, listens, serves_replica, notes_served}
use Rattle.rss_machine.specs.Run.{run}
use Rattle.rss_machine.specs.State.{State, Owner, start, no_owner, owner_at}
use Rattle.rss_machine.specs.declared.step.Step.{Step}
use Rattle.world_laws.proofs.Doings.{Changed, Beginning, calls, fences, Resting, plans, past, fixed, cleared, Working, owes_nothing, is_past, enters_own, Leaving, waits, fixes_work, fixes_own, asks_register, stamps_register, begins_snapshot, begins_txn, fence_done, stub_done, Doing, listens_one, fix_hears, fix_reached, register_hears, register_stores, register_reached, read_ends, write_ends, txn_ends, snap_ends, counts_one, cuts_one, is_closed, forgets_all, turns, stub_asks, listened}
use Rattle.world_laws.proofs.Looks.{looks}
use Rattle.world_laws.proofs.OwnerMoves.{OwnerKeeps}
use Rattle.world_laws.proofs.StackRuns.{IsKept, kept_run}
use Rattle.world_laws.proofs.Told.{each_set, each_grow}

-- none has begun later than now, and none later than one behind it
pub record Rising (s : State) : Type 0 where
  pub late : (o : ℕ) → (owner_at s o).dates.begun ≤ s.steps
  pub rise : (a b : ℕ) → a ≤ b → b < length s.owners → (owner_at s a).dates.begun ≤ (owner_at s b).dates.begun

-- owners that begin when they did
rising_alike : (s t : State) → t.steps ≡ s.steps → length t.owners ≡ length s.owners → ((o : ℕ) → (owner_at t o).dates.begun ≡ (owner_at s o).dates.begun) → Rising s → Rising t
rising_alike s t a l e h = record {
  late = λ o. (let x = e o in let y = h.late o in omega (arith, a, x, y));
  rise = λ m n i j. (let x = e m in let y = e n in let z = h.rise m n i (omega (arith, j, l)) in omega (arith, x, y, z));
}

rising_set : (s t : State) (o : ℕ) (w : Owner) → t.steps ≡ s.steps → t.owners ≡ set s.owners o w → w.dates.begun ≡ (owner_at s o).dates.begun → Rising s → Rising t
rising_set s t o w a e b h = rising_alike s t a (ap (λ (xs : List Owner). length xs) e ∙ long s.owners o w)
    (subst (λ (xs : List Owner). (i : ℕ) → (get_or xs i no_owner).dates.begun ≡ (owner_at s i).dates.begun) (sym e) (each_set (λ i v. v.dates.begun ≡ (owner_at s i).dates.begun) s.owners o w b (λ i. refl))) h
  where
    long : (xs : List Owner) (o : ℕ) (w : Owner) → length (set xs o w) ≡ length xs
    long xs o w = grind (arith, looks)

-- one begins now
rising_grow : (s t : State) (w : Owner) → t.steps ≡ s.steps → t.owners ≡ s.owners ++ w ∷ [] → w.dates.begun ≡ s.steps → Rising s → Rising t
rising_grow s t w a e b h = record { late = late; rise = rise }
  where
    at : (xs : List Owner) (w : Owner) (i : ℕ) → ((get_or (xs ++ w ∷ []) i no_owner ≡ get_or xs i no_owner) × (i < length xs)) ⊎ ((get_or (xs ++ w ∷ []) i no_owner ≡ w) × (i ≡ length xs)) ⊎ ((get_or (xs ++ w ∷ []) i no_owner ≡ no_owner) × (length xs < i))
    at xs w i = grind (arith, looks)

    long : (xs : List Owner) (w : Owner) → length (xs ++ w ∷ []) ≡ length xs + 1
    long xs w = grind (arith, looks)

    begun : ℕ → ℕ
    begun i = (get_or (s.owners ++ w ∷ []) i no_owner).dates.begun

    same : (i : ℕ) → (owner_at t i).dates.begun ≡ begun i
    same i = ap (λ (xs : List Owner). (get_or xs i no_owner).dates.begun) e

    late : (o : ℕ) → (owner_at t o).dates.begun ≤ t.steps
    late o = subst (λ (n : ℕ). (owner_at t o).dates.begun ≤ n) (sym a)
        (subst (λ (xs : List Owner). (get_or xs o no_owner).dates.begun ≤ s.steps) (sym e) (each_grow (λ i v. v.dates.begun ≤ s.steps) s.owners w (omega (arith, b)) h.late o))

    rise : (m n : ℕ) → m ≤ n → n < length t.owners → (owner_at t m).dates.begun ≤ (owner_at t n).dates.begun
    rise m n i j = by_place (at s.owners w n) (at s.owners w m)
      where
        by_place : ((get_or (s.owners ++ w ∷ []) n no_owner ≡ get_or s.owners n no_owner) × (n < length s.owners)) ⊎ ((get_or (s.owners ++ w ∷ []) n no_owner ≡ w) × (n ≡ length s.owners)) ⊎ ((get_or (s.owners ++ w ∷ []) n no_owner ≡ no_owner) × (length s.owners < n))
            → ((get_or (s.owners ++ w ∷ []) m no_owner ≡ get_or s.owners m no_owner) × (m < length s.owners)) ⊎ ((get_or (s.owners ++ w ∷ []) m no_owner ≡ w) × (m ≡ length s.owners)) ⊎ ((get_or (s.owners ++ w ∷ []) m no_owner ≡ no_owner) × (length s.owners < m))
            → (owner_at t m).dates.begun ≤ (owner_at t n).dates.begun
        by_place (inl x) (inl y) =
            let u = same m in
            let v = same n in
            let p = ap (λ (z : Owner). z.dates.begun) x.0 in
            let q = ap (λ (z : Owner). z.dates.begun) y.0 in
            let r = h.rise m n i x.1 in
            omega (arith, u, v, p, q, r)
        by_place (inl x) (inr (inl y)) = absurd (let k = x.1 in let l = y.1 in omega (arith, i, k, l))
        by_place (inl x) (inr (inr y)) = absurd (let k = x.1 in let l = y.1 in omega (arith, i, k, l))
        by_place (inr (inl x)) y =
            let u = late m in
            let v = same n in
            let p = ap (λ (z : Owner). z.dates.begun) x.0 in
            omega (arith, u, v, p, a, b)
        by_place (inr (inr x)) y = absurd (let k = x.1 in let l = ap (λ (xs : List Owner). length xs) e in let g = long s.owners w in omega (arith, j, k, l, g))

rising_one : (o : ℕ) (s : State) (out : Out) → Rising s → Rising (sends_one s o out)
rising_one o s out h = rising_set s (sends_one s o out) o _ refl refl refl h

rising_sends : (o : ℕ) (outs : List Out) (s : State) → Rising s → Rising (sends s o outs)
rising_sends o [] s h = h
rising_sends o (out ∷ outs) s h = rising_sends o outs (sends_one s o out) (rising_one o s out h)

-- no move changes when an owner has begun
beginning_now : (c : Config) (s : State) (w : Owner) → Beginning c s w → w.dates.begun ≡ s.steps
beginning_now c s _ (calls n x e) = refl
beginning_now c s _ (fences n) = refl

resting_begun : (s : State) (o : ℕ) (w : Owner) → Resting s o w → w.dates.begun ≡ (owner_at s o).dates.begun
resting_begun s o _ (plans e b) = refl
resting_begun s o _ (past id x rest time l e) = refl
resting_begun s o _ (fixed id x rest r e l a b d) = refl
resting_begun s o _ (cleared r e l a b d) = refl

working_begun : (at : Reading) (s : State) (o : ℕ) (w : Owner) → Working at s o w → w.dates.begun ≡ (owner_at s o).dates.begun
working_begun at s o _ (owes_nothing id rest l) = refl
working_begun at s o _ (is_past id time rest l e) = refl
working_begun at s o _ (enters_own x l e f) = refl

leaving_begun : (c : Config) (at : Reading) (s : State) (o : ℕ) (w : Owner) (outs : List Out) → Leaving c at s o w outs → w.dates.begun ≡ (owner_at s o).dates.begun
leaving_begun c at s o _ _ (waits id time rest l) = refl
leaving_begun c at s o _ _ (fixes_work id rest l) = refl
leaving_begun c at s o _ _ (fixes_own x dep deps l e f) = refl
leaving_begun c at s o _ _ (asks_register key l e f) = refl
leaving_begun c at s o _ _ (stamps_register key value l e f) = refl
leaving_begun c at s o _ _ (begins_snapshot keys x l e f) = refl
leaving_begun c at s o _ _ (begins_txn reads guard writes x l e f) = refl
leaving_begun c at s o _ _ (fence_done l e) = refl
leaving_begun c at s o _ _ (stub_done u l e) = refl

doing_begun : (s : State) (o : ℕ) (w : Owner) (outs : List Out) (new : List Dep) → Doing s o w outs new → w.dates.begun ≡ (owner_at s o).dates.begun
doing_begun s o _ _ _ (listens_one slot r d) = refl
doing_begun s o _ _ _ (fix_hears f slot r x d e) = refl
doing_begun s o _ _ _ (fix_reached f slot r y x d e) = refl
doing_begun s o _ _ _ (register_hears f slot r x d a e) = refl
doing_begun s o _ _ _ (register_stores f slot r x d a e) = refl
doing_begun s o _ _ _ (register_reached f slot r y x d e) = refl
doing_begun s o _ _ _ (read_ends f key cell dep x a b) = refl
doing_begun s o _ _ _ (write_ends f key value e x a b) = refl
doing_begun s o _ _ _ (txn_ends x y time a b d) = refl
doing_begun s o _ _ _ (snap_ends x y time a b d) = refl
doing_begun s o _ _ _ (counts_one target) = refl
doing_begun s o _ _ _ (cuts_one service replica) = refl
doing_begun s o _ _ _ (is_closed f) = refl
doing_begun s o _ _ _ forgets_all = refl
doing_begun s o _ _ _ (turns x outs y) = refl
doing_begun s o _ _ _ (stub_asks attempt shards e b) = refl

rising_keeps : (c : Config) (at : Reading) → OwnerKeeps c at Rising (λ s o. Rising s)
rising_keeps c at = record {
  shards = λ s m shard r d h. record { late = h.late; rise = h.rise };
  replicas = λ s m id replica r d h. rising_set s (notes_served (serves_replica s m id replica r) (message_at s.net m).envelope.owner id r) (message_at s.net m).envelope.owner _ refl refl refl h;
  moves = record {
    fates = λ s m f h. record { late = h.late; rise = h.rise };
    again = λ s o exchange slot target r d h. rising_one o s (record { slot = Some slot; target = target; request = r }) h;
    stages = λ s t d h. rising_alike s t d.stores.steps (ap (λ (xs : List Owner). length xs) d.owned) (λ o. ap (λ (xs : List Owner). (get_or xs o no_owner).dates.begun) d.owned) h;
    dies = λ s t n u d h. rising_grow s t _ d.stores.steps d.owned refl h;
    begins = λ s t w b d h. rising_grow s t w d.stores.steps d.owned (beginning_now c s w b) h;
    rests = λ s t o w i b d h. rising_set s t o w d.stores.steps d.owned (resting_begun s o w b) h;
    settles = λ s o slot a shards outcome i e d h.
        let u = sends (listens s o slot) o (tells_decision a outcome shards) in
        rising_set u (plans_stub u o) o _ refl refl refl (rising_sends o (tells_decision a outcome shards) (listens s o slot) (rising_set s (listens s o slot) o (listened s o slot) refl refl refl h));
    settled = λ s o h. h;
    works = λ s t o w i b d h. rising_set s t o w d.stores.steps d.owned (working_begun at s o w b) h;
    leaves = λ s t o w outs i b d h. rising_sends o outs t (rising_set s t o w d.stores.steps d.owned (leaving_begun c at s o w outs b) h);
    does = λ s t o w outs new b d h. rising_sends o outs t (rising_set s t o w d.stores.steps d.owned (doing_begun s o w outs new b) h);
  };
}

pub rising_run : (c : Config) (steps : List Step) (s : State) → run c steps ≡ Some s → Rising s
rising_run c steps s e = kept_run c Rising (λ t o. Rising t) (record { keeps = rising_keeps c; ticked = λ t at h. record { late = λ o. (let l = h.late o in omega (arith, l)); rise = h.rise } }) starts steps s e
  where
    alone : (o : ℕ) → get_or (no_owner ∷ []) o no_owner ≡ no_owner
    alone o = grind (arith, looks)

    nobody : (o : ℕ) → (owner_at (start c) o).dates.begun ≡ 0
    nobody o = ap (λ (w : Owner). w.dates.begun) (alone o)

    starts : Rising (start c)
    starts = record { late = λ o. (let z = nobody o in omega (arith, z)); rise = λ a b l m. (let z = nobody a in omega (arith, z)) }
