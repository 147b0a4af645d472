-- Stubs are of their stages, which are over; a round of dependencies stores them; and what is depended on are registers of
-- the file.
use Rattle.std.proofs.Common.{◌≡◌, ℕ, zero, suc, ◌-◌, true, false, List, [], ◌∷◌, ◌++◌, get_or, Some, refl, ap, sym, ◌∙◌, subst, arith}
use Rattle.std.specs.Prelude.{⊤}
use Rattle.std.proofs.Math.ListN.{set}
use Rattle.std.proofs.lemmas.Bool.{true≢false, cond_both}
use Rattle.truetime.specs.Reading.{Reading}
use Rattle.rss_names.specs.Services.{same_service}
use Rattle.rss_names.specs.declared.attempt.Attempt.{Attempt}
use Rattle.rss_names.specs.declared.service.ServiceId.{ServiceId}
use Rattle.rss_names.specs.declared.service.Target.TheVariants.{Replica}
use Rattle.causal_context.specs.declared.dep.Dep.{Dep}
use Rattle.pipeline_lang.specs.declared.config.Config.{Config}
use Rattle.rss_model.specs.Stages.{is_death}
use Rattle.rss_wire.specs.Messages.{message_at}
use Rattle.rss_wire.specs.declared.messages.Outcome.{Outcome}
use Rattle.rss_wire.specs.declared.messages.Reply.{Reply}
use Rattle.rss_tables.specs.Lines.{tells_decision}
use Rattle.rss_tables.specs.Outs.{Out, slot_replica}
use Rattle.rss_tables.specs.Round.{cuts, hears, is_reached}
use Rattle.rss_tables.specs.RegisterSession.{RegSession, reached, reply_cell, session_after}
use Rattle.rss_tables.specs.declared.register_session.RegPhase.{RegPhase}
use Rattle.rss_tables.specs.declared.register_session.RegPhase.TheVariants as phase
use Rattle.rss_machine.specs.Moves.{session_without, sends_one, sends, plans_stub, listens, serves_replica, notes_served}
use Rattle.rss_machine.specs.Run.{run}
use Rattle.rss_machine.specs.Session.{Session}
use Rattle.rss_machine.specs.Standing.{is_over}
use Rattle.rss_machine.specs.State.{State, Owner, start, no_owner, no_stage, owner_at, stage_at}
use Rattle.rss_machine.specs.declared.session.Session.TheVariants as session
use Rattle.rss_machine.specs.declared.state.Life.{Life}
use Rattle.rss_machine.specs.declared.state.Life.TheVariants as life
use Rattle.rss_machine.specs.declared.step.Step.{Step}
use Rattle.world_laws.specs.Contexts.{AllDeps}
use Rattle.world_laws.specs.Numbered.{are_numbered}
use Rattle.world_laws.specs.Registers.{IsRegister}
use Rattle.world_laws.specs.Shapes.{IsSoundFile}
use Rattle.world_laws.specs.Traffic.{StubsFit, stores_deps}
use Rattle.world_laws.proofs.Doings.{Beginning, calls, fences, Resting, plans, past, fixed, cleared, Working, owes_nothing, is_past, enters_own, Leaving, waits, fixes_work, fixes_own, asks_register, stamps_register, begins_snapshot, begins_txn, fence_done, stub_done, Doing, listens_one, fix_hears, fix_reached, register_hears, register_stores, register_reached, read_ends, write_ends, txn_ends, snap_ends, counts_one, cuts_one, is_closed, forgets_all, turns, stub_asks, listened, ShardTurning, txn_heard, txn_woken, txn_passed, snap_heard, snap_woken}
use Rattle.world_laws.proofs.NamedRuns.{named_run}
use Rattle.world_laws.proofs.OwnerMoves.{OwnerKeeps}
use Rattle.world_laws.proofs.StackRuns.{kept_run}
use Rattle.world_laws.proofs.Told.{each_set, each_grow}
use Rattle.token_laws.specs.Tied.{Stubs, life_end}
use Rattle.token_laws.proofs.ScriptRuns.{tied_run}

-- A ROUND OF DEPENDENCIES STORES THEM

abbrev Stores : RegSession → Type 0
Stores r = stores_deps r.work ≡ true

abbrev Storing : Session → Type 0
Storing (session.Fixing r) = Stores r
Storing session.Idle = ⊤
Storing (session.Register r) = ⊤
Storing (session.Transaction t) = ⊤
Storing (session.Snapshot t) = ⊤
Storing (session.Settling attempt shards) = ⊤

abbrev AllStore : State → Type 0
AllStore s = (o : ℕ) → Storing (owner_at s o).session

reached_stores : (r : RegSession) (p : RegPhase) → Stores r → Stores (reached r p)
reached_stores r phase.Fixing h = h
reached_stores r phase.Asking h = h
reached_stores r phase.Stamping h = h
reached_stores r (phase.Storing stamp) h = h
reached_stores r (phase.Done end) h = h

after_stores : (r : RegSession) (from : ℕ) (p : Reply) → Stores r → Stores (session_after r from p)
after_stores r from p h =
    let g = record r { round = hears r.round from (reply_cell p) } in
    cond_both (is_reached g.round) (reached g r.phase) g Stores (λ e. reached_stores g r.phase h) (λ e. h)

without_stores : (x : Session) (id : ServiceId) (replica : ℕ) → Storing x → Storing (session_without x (Replica id replica))
without_stores (session.Fixing r) id replica h = cond_both (same_service r.service id) (record r { round = cuts r.round replica }) r Stores (λ t. h) (λ f. h)
without_stores (session.Register r) id replica h = tt
without_stores session.Idle id replica h = tt
without_stores (session.Transaction t) id replica h = tt
without_stores (session.Snapshot t) id replica h = tt
without_stores (session.Settling attempt shards) id replica h = tt

stores_set : (s t : State) (o : ℕ) (w : Owner) → t.owners ≡ set s.owners o w → Storing w.session → AllStore s → AllStore t
stores_set s t o w e f h = subst (λ (owners : List Owner). (i : ℕ) → Storing (get_or owners i no_owner).session) (sym e) (each_set (λ i v. Storing v.session) s.owners o w f h)

stores_grow : (s t : State) (w : Owner) → t.owners ≡ s.owners ++ w ∷ [] → Storing w.session → AllStore s → AllStore t
stores_grow s t w e f h = subst (λ (owners : List Owner). (i : ℕ) → Storing (get_or owners i no_owner).session) (sym e) (each_grow (λ i v. Storing v.session) s.owners w f h)

stores_one : (o : ℕ) (s : State) (out : Out) → AllStore s → AllStore (sends_one s o out)
stores_one o s out h = stores_set s (sends_one s o out) o _ refl (h o) h

stores_sends : (o : ℕ) (outs : List Out) (s : State) → AllStore s → AllStore (sends s o outs)
stores_sends o [] s h = h
stores_sends o (out ∷ outs) s h = stores_sends o outs (sends_one s o out) (stores_one o s out h)

begins_storing : (c : Config) (s : State) (w : Owner) → Beginning c s w → Storing w.session
begins_storing c s _ (calls n x e) = tt
begins_storing c s _ (fences n) = tt

rests_storing : (s : State) (o : ℕ) (w : Owner) → Resting s o w → Storing w.session
rests_storing s o _ (plans e k) = tt
rests_storing s o _ (past id x rest time l e) = tt
rests_storing s o _ (fixed id x rest r e l a k f) = tt
rests_storing s o _ (cleared r e l a k f) = tt

works_storing : (at : Reading) (s : State) (o : ℕ) (w : Owner) → Working at s o w → Storing (owner_at s o).session → Storing w.session
works_storing at s o _ (owes_nothing id rest l) h = tt
works_storing at s o _ (is_past id time rest l e) h = tt
works_storing at s o _ (enters_own x l e f) h = h

leaves_storing : (c : Config) (at : Reading) (s : State) (o : ℕ) (w : Owner) (outs : List Out) → Leaving c at s o w outs → Storing (owner_at s o).session → Storing w.session
leaves_storing c at s o _ _ (waits id time rest l) h = h
leaves_storing c at s o _ _ (fixes_work id rest l) h = refl
leaves_storing c at s o _ _ (fixes_own x dep deps l e f) h = refl
leaves_storing c at s o _ _ (asks_register key l e f) h = tt
leaves_storing c at s o _ _ (stamps_register key value l e f) h = tt
leaves_storing c at s o _ _ (begins_snapshot keys t l e f) h = tt
leaves_storing c at s o _ _ (begins_txn reads guard writes t l e f) h = tt
leaves_storing c at s o _ _ (fence_done l e) h = h
leaves_storing c at s o _ _ (stub_done u l e) h = h

turns_storing : (s : State) (o : ℕ) (x : Session) (outs : List Out) → ShardTurning s o x outs → Storing x
turns_storing s o _ _ (txn_heard t l at r e) = tt
turns_storing s o _ _ (txn_woken t l e) = tt
turns_storing s o _ _ (txn_passed t e) = tt
turns_storing s o _ _ (snap_heard t l r e) = tt
turns_storing s o _ _ (snap_woken t l e) = tt

does_storing : (s : State) (o : ℕ) (w : Owner) (outs : List Out) (new : List Dep) → Doing s o w outs new → Storing (owner_at s o).session → Storing w.session
does_storing s o _ _ _ (listens_one slot r k) h = h
does_storing s o _ _ _ (fix_hears f slot r x k e) h = after_stores f (slot_replica slot) r (subst Storing x h)
does_storing s o _ _ _ (fix_reached f slot r y x k e) h = after_stores f (slot_replica slot) r (subst Storing x h)
does_storing s o _ _ _ (register_hears f slot r x k a e) h = tt
does_storing s o _ _ _ (register_stores f slot r x k a e) h = tt
does_storing s o _ _ _ (register_reached f slot r y x k e) h = tt
does_storing s o _ _ _ (read_ends f key cell dep x a e) h = h
does_storing s o _ _ _ (write_ends f key value e x a k) h = h
does_storing s o _ _ _ (txn_ends x y time a e k) h = h
does_storing s o _ _ _ (snap_ends x y time a e k) h = h
does_storing s o _ _ _ (counts_one target) h = h
does_storing s o _ _ _ (cuts_one id replica) h = without_stores (owner_at s o).session id replica h
does_storing s o _ _ _ (is_closed f) h = h
does_storing s o _ _ _ forgets_all h = h
does_storing s o _ _ _ (turns x outs y) h = turns_storing s o x outs y
does_storing s o _ _ _ (stub_asks attempt shards e k) h = tt

stores_keeps : (c : Config) (at : Reading) → OwnerKeeps c at AllStore (λ s o. AllStore s)
stores_keeps c at = record {
  shards = λ s m shard r d h. h;
  replicas = λ s m id replica r d h. stores_set s (notes_served (serves_replica s m id replica r) (message_at s.net m).envelope.owner id r) (message_at s.net m).envelope.owner _ refl (h (message_at s.net m).envelope.owner) h;
  moves = record {
    fates = λ s m f h. h;
    again = λ s o exchange slot target r d h. stores_one o s (record { slot = Some slot; target = target; request = r }) h;
    stages = λ s t d h. subst (λ (owners : List Owner). (i : ℕ) → Storing (get_or owners i no_owner).session) (sym d.owned) h;
    dies = λ s t n u d h. stores_grow s t _ d.owned tt h;
    begins = λ s t w b d h. stores_grow s t w d.owned (begins_storing c s w b) h;
    rests = λ s t o w i b d h. stores_set s t o w d.owned (rests_storing s o w b) h;
    settles = λ s o slot a shards outcome i e d h. settled s o slot a shards outcome h;
    settled = λ s o h. h;
    works = λ s t o w i b d h. stores_set s t o w d.owned (works_storing at s o w b (h o)) h;
    leaves = λ s t o w outs i b d h. stores_sends o outs t (stores_set s t o w d.owned (leaves_storing c at s o w outs b (h o)) h);
    does = λ s t o w outs new b d h. stores_sends o outs t (stores_set s t o w d.owned (does_storing s o w outs new b (h o)) h);
  };
}
  where
    settled : (s : State) (o slot : ℕ) (a : Attempt) (shards : List ℕ) (outcome : Outcome) → AllStore s → AllStore (plans_stub (sends (listens s o slot) o (tells_decision a outcome shards)) o)
    settled s o slot a shards outcome h =
        let v = sends (listens s o slot) o (tells_decision a outcome shards) in
        stores_set v (plans_stub v o) o _ refl tt (stores_sends o (tells_decision a outcome shards) (listens s o slot) (stores_set s (listens s o slot) o (listened s o slot) refl (h o) h))

stores_run : (c : Config) (steps : List Step) (s : State) → run c steps ≡ Some s → AllStore s
stores_run c steps s e = kept_run c AllStore (λ t o. AllStore t) (record { keeps = stores_keeps c; ticked = λ t at h. h }) starts steps s e
  where
    starts : (o : ℕ) → Storing (owner_at (start c) o).session
    starts zero = tt
    starts (suc o) = tt

-- STUBS AND DEPENDENCIES

ends_over : (x : Life) → is_death (life_end x) ≡ true → is_over x ≡ true
ends_over life.Unborn e = absurd (true≢false (sym e))
ends_over life.Live e = absurd (true≢false (sym e))
ends_over (life.Over how) e = refl

pub stubs_run : (c : Config) (steps : List Step) (s : State) → IsSoundFile c → are_numbered steps ≡ true → run c steps ≡ Some s → StubsFit s
stubs_run c steps s f z e = record {
  stubs = λ n o g. (h.of_stage (suc (n - 1)) o (omega arith) (above n o g)).kind;
  stub_stages = λ n o g. (let k = (h.of_stage (suc (n - 1)) o (omega arith) (above n o g)).stage in omega (arith, k));
  dead = λ n o g. ends_over (stage_at s n).life (h.dies n o g);
  fixing = λ o r k. subst Storing k (stores_run c steps s e o);
}
  where
    h : Stubs s
    h = (tied_run c f.spawns f.pipes steps s z e).stubs

    same : (n : ℕ) → suc (n - 1) - 1 ≡ n - 1
    same n = omega arith

    above : (n o : ℕ) → (stage_at s n).stub ≡ Some o → (stage_at s (suc (n - 1))).stub ≡ Some o
    above n o g = ap (λ (i : ℕ). (get_or s.stages i no_stage).stub) (same n) ∙ g

pub registers_run : (c : Config) (steps : List Step) (s : State) → IsSoundFile c → run c steps ≡ Some s → AllDeps (λ (dep : Dep). IsRegister c dep.key) s
registers_run c steps s f e = (named_run c (IsRegister c) f.in_order.names.statements steps s e).deps
