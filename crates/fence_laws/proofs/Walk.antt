-- The walk: in each state of a step, each owner has its works unplanned, or goes through those with which it went into
-- the step.
use Rattle.std.proofs.Common.{◌≡◌, ℕ, ◌+◌, ◌-◌, ◌<◌, ◌≤◌, ◌⊎◌, inl, inr, Bool, true, false, List, [], ◌∷◌, ◌++◌, length, get_or, Option, Some, None, refl, ap, sym, ◌∙◌, subst, arith}
use Rattle.std.specs.Prelude.{⊤}
use Rattle.std.proofs.Math.ListN.{set, length-set}
use Rattle.std.proofs.lemmas.Bool.{true≢false}
use Rattle.std.proofs.lemmas.List.{get_or-set_same}
use Rattle.truetime.specs.Reading.{Reading}
use Rattle.rss_names.specs.declared.attempt.Attempt.{Attempt}
use Rattle.causal_context.specs.Deps.{given_dep}
use Rattle.pipeline_lang.specs.declared.config.Config.{Config}
use Rattle.rss_model.specs.declared.history.How.{How}
use Rattle.rss_model.specs.declared.op.Shown.{Shown}
use Rattle.rss_wire.specs.Messages.{message_at}
use Rattle.rss_wire.specs.declared.messages.Outcome.{Outcome}
use Rattle.rss_tables.specs.Lines.{tells_decision, line_at}
use Rattle.rss_tables.specs.Outs.{Out, slot_shard}
use Rattle.rss_tables.specs.SnapshotSession.{SnapSession, snap_hears, snap_wakes}
use Rattle.rss_tables.specs.TransactionSession.{TxnSession, txn_hears, txn_wakes, txn_passes}
use Rattle.rss_tables.specs.Turns.{Turn}
use Rattle.rss_tables.specs.Works.{no_works}
use Rattle.rss_tables.specs.declared.register_session.RegEnd.TheVariants as ends
use Rattle.rss_machine.specs.Calls.{ends_at, forgets_if, txn_turns, snap_turns}
use Rattle.rss_machine.specs.Effect.{effect}
use Rattle.rss_machine.specs.Moves.{sends_one, sends, listens, plans_stub, turns_session, goes_on, counts_act, dies, closed, closes_owner, unsettled_by, serves_replica, notes_served}
use Rattle.rss_machine.specs.Refusal.{kind_refusal}
use Rattle.rss_machine.specs.Session.{Session}
use Rattle.rss_machine.specs.State.{State, Owner, owner_at, stage_at, no_owner, opening_owner}
use Rattle.rss_machine.specs.declared.session.OwnerKind.{OwnerKind}
use Rattle.rss_machine.specs.declared.session.OwnerKind.TheVariants as kind
use Rattle.rss_machine.specs.declared.session.Session.TheVariants as session
use Rattle.rss_machine.specs.declared.state.OwnerFate.{OwnerFate}
use Rattle.rss_machine.specs.declared.state.OwnerFate.TheVariants.{Ended}
use Rattle.rss_machine.specs.declared.step.StepKind.{StepKind}
use Rattle.world_laws.specs.Planned.{is_settling}
use Rattle.world_laws.proofs.Doings.{Beginning, read_ends, write_ends, register_reached, listened}
use Rattle.world_laws.proofs.Looks.{looks, get_or_append}
use Rattle.world_laws.proofs.OwnerMoves.{sends_kept, sends_long}
use Rattle.world_laws.proofs.OwnerWalk.{StepKeeps, step_walk}
use Rattle.world_laws.proofs.PlannedOwners.{is_fixing}
use Rattle.world_laws.proofs.SessionMoves.{session_at}
use Rattle.world_laws.proofs.StageMoves.{AnyFate, AnyState, ended_to, owner_all}
use Rattle.world_laws.proofs.StagesOwned.{grown_new}
use Rattle.world_laws.proofs.Told.{each_set}
use Rattle.world_laws.proofs.TurnMoves.{StepMoves, step_moves, ShardTurn, txn_answered, snap_answered, txn_wakes_one, snap_wakes_one, txn_passes_time}
use Rattle.world_laws.proofs.Waits.{AllWait, waits_keep}
use Rattle.fence_laws.proofs.Going.{Unplanned, Going, Owned, Alike, alike_same, owned_alike, planned_all, plans_going, resting_going, working_going, leaving_going, Untouched, begins_going, doing_alike}

module _ (u : State) (at : Reading) where
  -- all owners of a list that has grown from those of a state
  pub record Each (owners : List Owner) : Type 0 where
    pub grown : length u.owners ≤ length owners
    pub each : (o : ℕ) → o < length owners → Owned u at o (get_or owners o no_owner)

  -- an owner changes, or a new one begins
  pub each_put : (owners : List Owner) (o : ℕ) (w : Owner) → (o < length owners → Owned u at o w) → Each owners → Each (set owners o w)
  each_put owners o w f h = record {
    grown = let n = length-set owners o w in let g = h.grown in omega (arith, n, g);
    each = λ i l. each_set (λ j v. j < length owners → Owned u at j v) owners o w f h.each i (let n = length-set owners o w in omega (arith, n, l));
  }

  pub each_more : (owners : List Owner) (w : Owner) → Owned u at (length owners) w → Each owners → Each (owners ++ w ∷ [])
  each_more owners w f h = record {
    grown = let n = more owners w in let g = h.grown in omega (arith, n, g);
    each = λ i l. by_place i l (get_or_append owners (w ∷ []) i no_owner);
  }
    where
      more : (xs : List Owner) (w : Owner) → length (xs ++ w ∷ []) ≡ length xs + 1
      more xs w = grind (arith, looks)

      by_place : (i : ℕ) → i < length (owners ++ w ∷ []) → ((get_or (owners ++ w ∷ []) i no_owner ≡ get_or owners i no_owner) × (i < length owners)) ⊎ ((get_or (owners ++ w ∷ []) i no_owner ≡ get_or (w ∷ []) (i - length owners) no_owner) × (length owners ≤ i)) → Owned u at i (get_or (owners ++ w ∷ []) i no_owner)
      by_place i l (inl e) = subst (Owned u at i) (sym e.0) (h.each i e.1)
      by_place i l (inr e) = subst (λ (j : ℕ). Owned u at j (get_or (owners ++ w ∷ []) i no_owner)) same (subst (Owned u at (length owners)) (sym new) f)
        where
          same : length owners ≡ i
          same = let n = more owners w in let k = e.1 in omega (arith, n, k, l)

          first : (n : ℕ) → n ≡ 0 → get_or (w ∷ []) n no_owner ≡ w
          first n q = ap (λ (k : ℕ). get_or (w ∷ []) k no_owner) q

          new : get_or (owners ++ w ∷ []) i no_owner ≡ w
          new = e.0 ∙ first (i - length owners) (omega (arith, same))

  abbrev pub EachIn : State → Type 0
  EachIn s = Each s.owners

  each_to : (s t : State) (o : ℕ) (w : Owner) → t.owners ≡ set s.owners o w → (o < length s.owners → Owned u at o w) → EachIn s → EachIn t
  each_to s t o w e f h = subst Each (sym e) (each_put s.owners o w f h)

  each_alike : (s t : State) (o : ℕ) (w : Owner) → t.owners ≡ set s.owners o w → Alike (owner_at s o) w → EachIn s → EachIn t
  each_alike s t o w e a h = each_to s t o w e (λ i. owned_alike u at o (owner_at s o) w a (h.each o i)) h

  each_one : (s : State) (o : ℕ) (out : Out) → EachIn s → EachIn (sends_one s o out)
  each_one s o out h = each_alike s (sends_one s o out) o _ refl (alike_same (owner_at s o) _ refl refl refl refl refl refl) h

  each_sends : (o : ℕ) (outs : List Out) (s : State) → EachIn s → EachIn (sends s o outs)
  each_sends o [] s h = h
  each_sends o (out ∷ outs) s h = each_sends o outs (sends_one s o out) (each_one s o out h)

  -- turns of transactions and snapshots
  each_listens : (s : State) (o slot : ℕ) → EachIn s → EachIn (listens s o slot)
  each_listens s o slot h = each_alike s (listens s o slot) o _ refl (alike_same (owner_at s o) _ refl refl refl refl refl refl) h

  each_forgets : (b : Bool) (s : State) (o : ℕ) → EachIn s → EachIn (forgets_if b s o)
  each_forgets true s o h = each_alike s (forgets_if true s o) o _ refl (alike_same (owner_at s o) _ refl refl refl refl refl refl) h
  each_forgets false s o h = h

  forgets_session : (b : Bool) (s : State) (o : ℕ) → session_at (forgets_if b s o) o ≡ session_at s o
  forgets_session true s o = grind (arith, looks)
  forgets_session false s o = refl

  listens_session : (s : State) (o slot : ℕ) → session_at (listens s o slot) o ≡ session_at s o
  listens_session s o slot = grind (arith, looks)

  each_goes : (s : State) (o : ℕ) (x : Session) (outs : List Out) → is_settling x ≡ is_settling (session_at s o) → is_fixing x ≡ is_fixing (session_at s o) → EachIn s → EachIn (goes_on s o x outs)
  each_goes s o x outs a b h = each_sends o outs (turns_session s o x) (each_alike s (turns_session s o x) o _ refl (alike_same (owner_at s o) _ refl refl refl refl a b) h)

  each_ends : (c : Config) (s : State) (o : ℕ) (k : OwnerKind) (shown : List Shown) (time : Option ℕ) → EachIn s → EachIn (ends_at c s o k shown time)
  each_ends c s o (kind.Calling x) shown (Some time) h = each_put s.owners o (closed s o Ended) (λ i. owned_alike u at o (owner_at s o) (closed s o Ended) (alike_same (owner_at s o) (closed s o Ended) refl refl refl refl refl refl) (h.each o i)) h
  each_ends c s o (kind.Calling x) shown None h = h
  each_ends c s o kind.Fencing shown time h = h
  each_ends c s o (kind.Stubbing a) shown time h = h

  each_txn : (c : Config) (s : State) (o : ℕ) (t : TxnSession) (turn : Turn TxnSession) → session_at s o ≡ session.Transaction t → EachIn s → EachIn (txn_turns c s o turn)
  each_txn c s o t turn e h =
      let q = forgets_session turn.anew s o ∙ e in
      each_ends c _ o _ _ _ (each_goes (forgets_if turn.anew s o) o (session.Transaction turn.after) turn.outs (ap is_settling (sym q)) (ap is_fixing (sym q)) (each_forgets turn.anew s o h))

  each_snap : (c : Config) (s : State) (o : ℕ) (t : SnapSession) (turn : Turn SnapSession) → session_at s o ≡ session.Snapshot t → EachIn s → EachIn (snap_turns c s o turn)
  each_snap c s o t turn e h =
      let q = forgets_session turn.anew s o ∙ e in
      each_ends c _ o _ _ _ (each_goes (forgets_if turn.anew s o) o (session.Snapshot turn.after) turn.outs (ap is_settling (sym q)) (ap is_fixing (sym q)) (each_forgets turn.anew s o h))

  each_turns : (c : Config) (s t : State) (o : ℕ) → ShardTurn c at s o t → EachIn s → EachIn t
  each_turns c s _ o (txn_answered t slot r e d) h = each_txn c (listens s o slot) o t (txn_hears t (line_at t.lines (slot_shard slot)) at r) (listens_session s o slot ∙ e) (each_listens s o slot h)
  each_turns c s _ o (snap_answered t slot r e d) h = each_snap c (listens s o slot) o t (snap_hears t (line_at t.lines (slot_shard slot)) r) (listens_session s o slot ∙ e) (each_listens s o slot h)
  each_turns c s _ o (txn_wakes_one t l e a b) h = each_txn c s o t (txn_wakes t l) e h
  each_turns c s _ o (snap_wakes_one t l e b) h = each_snap c s o t (snap_wakes t l) e h
  each_turns c s _ o (txn_passes_time t time e a b) h = each_txn c s o t (txn_passes t t.phase) e h

  -- a stage dies: its owner is closed, and its stub begins
  each_dies : (s : State) (n : ℕ) (how : How) (f : OwnerFate) → EachIn s → EachIn (dies s n how f)
  each_dies s n how f h = by_owner (stage_at s n).owner
    where
      new : (xs : List Owner) (a : Option (Attempt × List ℕ)) → length u.owners ≤ length xs → Owned u at (length xs) (opening_owner n (kind.Stubbing a) false (no_works (stage_at s n).context) s.steps)
      new xs a l = inl (record { flag = refl; left = refl; calm = refl; old = λ i. absurd (omega (arith, i, l)) })

      by_owner : (o : Option ℕ) → Each ((closes_owner s o f).owners ++ opening_owner n (kind.Stubbing (unsettled_by s o)) false (no_works (stage_at s n).context) s.steps ∷ [])
      by_owner None = each_more s.owners _ (new s.owners (unsettled_by s None) h.grown) h
      by_owner (Some o) =
          let k = each_put s.owners o (closed s o f) (λ i. owned_alike u at o (owner_at s o) (closed s o f) (alike_same (owner_at s o) (closed s o f) refl refl refl refl refl refl) (h.each o i)) h in
          each_more (set s.owners o (closed s o f)) _ (new (set s.owners o (closed s o f)) (unsettled_by s (Some o)) k.grown) k

  -- with an owner that goes through its works
  pub record EachAt (s : State) (o : ℕ) : Type 0 where
    pub all : EachIn s
    pub going : Going u at o (owner_at s o)

  own_at : (s t : State) (o : ℕ) (w : Owner) → o < length s.owners → t.owners ≡ set s.owners o w → owner_at t o ≡ w
  own_at s t o w i e = ap (λ (owners : List Owner). get_or owners o no_owner) e ∙ get_or-set_same s.owners o w no_owner i

  at_going : (s t : State) (o : ℕ) (w : Owner) → o < length s.owners → t.owners ≡ set s.owners o w → Going u at o w → EachIn s → EachAt t o
  at_going s t o w i e g h = record { all = each_to s t o w e (λ l. inr g) h; going = subst (Going u at o) (sym (own_at s t o w i e)) g }

  at_begins : (c : Config) (s t : State) (w : Owner) → Beginning c s w → Untouched u s → t.owners ≡ s.owners ++ w ∷ [] → EachIn s → EachAt t (length s.owners)
  at_begins c s t w b f e h =
      let g : Going u at (length s.owners) w = begins_going c u at s (length s.owners) w (let n = ap (λ (owners : List Owner). length owners) f.owners in omega (arith, n)) b f in
      record { all = subst Each (sym e) (each_more s.owners w (inr g) h); going = subst (Going u at (length s.owners)) (sym (grown_new s t w e)) g }

  -- a stub has settled what its stage left, and plans
  at_settles : (s : State) (o slot : ℕ) (a : Attempt) (shards : List ℕ) (outcome : Outcome) → o < length s.owners → session_at s o ≡ session.Settling a shards → EachIn s → EachAt (plans_stub (sends (listens s o slot) o (tells_decision a outcome shards)) o) o
  at_settles s o slot a shards outcome i e h = at_going y t o (planned_all (owner_at y o)) there refl (plans_going u at o (owner_at y o) (by_owned (hy.each o there))) hy
    where
      x : State
      x = listens s o slot

      y : State
      y = sends x o (tells_decision a outcome shards)

      t : State
      t = plans_stub y o

      hy : EachIn y
      hy = each_sends o (tells_decision a outcome shards) x (each_listens s o slot h)

      there : o < length y.owners
      there = let k = sends_long x o (tells_decision a outcome shards) in let n = length-set s.owners o (listened s o slot) in omega (arith, i, k, n)

      settling : is_settling (session_at y o) ≡ true
      settling = ap (λ (w : Owner). is_settling w.session) (sends_kept x o (tells_decision a outcome shards) o) ∙ (ap is_settling (listens_session s o slot) ∙ ap is_settling e)

      by_owned : Owned u at o (owner_at y o) → Unplanned u o (owner_at y o)
      by_owned (inl p) = p
      by_owned (inr g) = absurd (true≢false (sym settling ∙ g.calm))

  counts_untouched : (s : State) (n : ℕ) → Untouched u s → Untouched u (counts_act s n)
  counts_untouched s n f = record { owners = f.owners; contexts = λ m. same s n m ∙ f.contexts m }
    where
      same : (s : State) (n m : ℕ) → (stage_at (counts_act s n) m).context ≡ (stage_at s m).context
      same s n m = grind (arith, looks)

  -- what all owners wait for, and that they go through their works
  abbrev pub Through : State → Type 0
  Through s = AllWait s × EachIn s

  abbrev pub ThroughAt : State → ℕ → Type 0
  ThroughAt s o = AllWait s × EachAt s o

  waiting : (c : Config) → StepMoves c at AnyFate AnyState AllWait (λ s o. AllWait s) (λ s o. AllWait s)
  waiting c = step_moves c at AnyFate AnyState AllWait (λ s o. AllWait s) (λ s o. AllWait s) (owner_all c at AllWait (λ s o. AllWait s) (waits_keep c at).moves)

  pub through_moves : (c : Config) → StepMoves c at AnyFate (Untouched u) Through ThroughAt (λ s o. Through s)
  through_moves c = record {
    E = λ s o. ⊤;
    ready = λ s o x l e f h. tt;
    clears = λ s t o x r e i a b l d y z q n h m. tt;
    acting = λ s n o e h. tt;
    heard = λ s o slot exchange e h. tt;
    runs = λ f e. tt;
    counted = counts_untouched;
    fates = λ s m f h. (k.fates s m f h.0, h.1);
    again = λ s o exchange slot target r d h. (k.again s o exchange slot target r d h.0, each_one s o (record { slot = Some slot; target = target; request = r }) h.1);
    stages = λ s t y d h. (k.stages s t y d h.0, subst Each (sym d.owned) h.1);
    dies = λ s n how f y h. (k.dies s n how f y h.0, each_dies s n how f h.1);
    begins = λ s t w b q f d h. (k.begins s t w b q tt d h.0, at_begins c s t w b f d.owned h.1);
    rests = λ s t o w i a b x q d h. (k.rests s t o w i a b x q d h.0, at_going s t o w i d.owned (resting_going u at s o w b x (h.0 o) (h.1.each o i)) h.1);
    settles = λ s o slot attempt shards outcome i a e d h. (k.settles s o slot attempt shards outcome i a e d h.0, at_settles s o slot attempt shards outcome i e h.1);
    settled = λ s o h. (h.0, h.1.all);
    works = λ s t o w i b q d h. (k.works s t o w i b q d h.0, at_going s t o w i d.owned (working_going u at s o w b h.1.going) h.1.all);
    leaves = λ s t o w outs i b q y d h. ((owner_all c at AllWait (λ s o. AllWait s) (waits_keep c at).moves).leaves s t o w outs i b q d h.0, each_sends o outs t (each_to s t o w d.owned (λ l. inr (leaving_going c u at s o w outs b h.1.going)) h.1.all));
    does = λ s t o w outs new a b n q d h. (k.does s t o w outs new a b n q d h.0, each_sends o outs t (each_alike s t o w d.owned (doing_alike s o w outs new b) h.1));
    turns = λ s t o a y h. (k.turns s t o a y h.0, each_turns c s t o y h.1);
    reaches = λ s t o f slot r e i a x y z q d h. (k.reaches s t o f slot r e i a x y z q d h.0, each_alike s t o (ended_to s o f slot r) d.owned (doing_alike s o (ended_to s o f slot r) [] [] (register_reached f slot r e x y z)) h.1);
    reads = λ s t o f key cell dep a x y z q d h. (k.reads s t o f key cell dep a x y z q d h.0, each_alike s t o (closed s o Ended) d.owned (doing_alike s o (closed s o Ended) [] (given_dep dep) (read_ends f key cell dep x y z)) h.1);
    writes = λ s t o f key value stamp a x y z q d h. (k.writes s t o f key value stamp a x y z q d h.0, each_alike s t o (closed s o Ended) d.owned (doing_alike s o (closed s o Ended) [] [] (write_ends f key value (ends.Written stamp) x y z)) h.1);
    unfit = λ s o f e x y z h. h;
  }
    where
      k : StepMoves c at AnyFate AnyState AllWait (λ s o. AllWait s) (λ s o. AllWait s)
      k = waiting c

  pub through_keeps : (c : Config) → StepKeeps c at AnyFate (Untouched u) Through ThroughAt (λ s o. Through s)
  through_keeps c = record {
    moves = through_moves c;
    shards = λ s m shard r d h. ((waits_keep c at).shards s m shard r d h.0, h.1);
    replicas = λ s m id replica r d h. ((waits_keep c at).replicas s m id replica r d h.0, each_alike s (notes_served (serves_replica s m id replica r) (message_at s.net m).envelope.owner id r) (message_at s.net m).envelope.owner _ refl (alike_same (owner_at s (message_at s.net m).envelope.owner) _ refl refl refl refl refl refl) h.1);
  }

  pub through_walk : (c : Config) (s : State) (x : StepKind) → kind_refusal c s at x ≡ None → Untouched u s → Through s → Through (effect c s at x)
  through_walk c s x e f h = step_walk c at AnyFate (Untouched u) Through ThroughAt (λ t o. Through t) (through_keeps c) s x e f h
