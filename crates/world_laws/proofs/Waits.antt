-- What owners wait for: the time that an owner's works wait for is that of the first work left, and while a round of
-- dependencies is under way the first work left is such a round, or none is left. A step keeps it in each of its states.
use Rattle.std.proofs.Common.{◌≡◌, ℕ, zero, suc, Bool, true, false, List, [], ◌∷◌, ◌++◌, get_or, Some, None, refl, ap, sym, ◌∙◌, subst}
use Rattle.std.proofs.Math.ListN.{set}
use Rattle.std.proofs.lemmas.Bool.{true≢false}
use Rattle.truetime.specs.Reading.{Reading}
use Rattle.rss_names.specs.declared.attempt.Attempt.{Attempt}
use Rattle.rss_names.specs.declared.service.ServiceId.{ServiceId}
use Rattle.rss_names.specs.declared.service.Target.TheVariants.{Replica}
use Rattle.causal_context.specs.declared.dep.Dep.{Dep}
use Rattle.pipeline_lang.specs.declared.config.Config.{Config}
use Rattle.rss_wire.specs.Messages.{message_at}
use Rattle.rss_wire.specs.declared.messages.Outcome.{Outcome}
use Rattle.rss_tables.specs.Lines.{tells_decision}
use Rattle.rss_tables.specs.Outs.{Out}
use Rattle.rss_tables.specs.declared.fences.FenceWork.{FenceWork}
use Rattle.rss_tables.specs.declared.fences.FenceWork.TheVariants.{Nothing, Past, Fix}
use Rattle.rss_machine.specs.Moves.{sends_one, sends, listens, plans_stub, session_without, serves_replica, notes_served}
use Rattle.rss_machine.specs.Run.{run}
use Rattle.rss_machine.specs.Session.{Session}
use Rattle.rss_machine.specs.State.{State, Owner, owner_at, start, no_owner}
use Rattle.rss_machine.specs.declared.session.Session.TheVariants as session
use Rattle.rss_machine.specs.declared.step.Step.{Step}
use Rattle.world_laws.proofs.Doings.{Beginning, calls, fences, Resting, plans, past, fixed, cleared, Working, owes_nothing, is_past, enters_own, Leaving, waits, fixes_work, fixes_own, asks_register, stamps_register, begins_snapshot, begins_txn, fence_done, stub_done, Doing, listens_one, fix_hears, fix_reached, register_hears, register_stores, register_reached, read_ends, write_ends, txn_ends, snap_ends, counts_one, cuts_one, is_closed, forgets_all, turns, stub_asks, listened, ShardTurning, txn_heard, txn_woken, txn_passed, snap_heard, snap_woken}
use Rattle.world_laws.proofs.OwnerMoves.{OwnerKeeps}
use Rattle.world_laws.proofs.PlannedOwners.{is_fixing}
use Rattle.world_laws.proofs.SessionMoves.{session_at}
use Rattle.world_laws.proofs.StackRuns.{kept_run}
use Rattle.world_laws.proofs.Told.{each_set, each_grow}

-- the first of these works, and whether it is a round of dependencies, or there is none
abbrev pub first_work : List (ServiceId × FenceWork) → FenceWork
first_work [] = Nothing
first_work (work ∷ works) = work.1

abbrev pub is_fix : FenceWork → Bool
is_fix Nothing = false
is_fix (Past time) = false
is_fix Fix = true

abbrev pub may_fix : List (ServiceId × FenceWork) → Bool
may_fix [] = true
may_fix (work ∷ works) = is_fix work.1

-- what an owner waits for is its first work
pub record OwnWaits (w : Owner) : Type 0 where
  pub waits : (time : ℕ) → w.works.wait ≡ Some time → first_work w.works.left ≡ Past time
  pub fixes : is_fixing w.session ≡ true → may_fix w.works.left ≡ true

abbrev pub AllWait : State → Type 0
AllWait s = (o : ℕ) → OwnWaits (owner_at s o)

-- where an owner has waited for a time, and where a round of dependencies has reached a majority, the work that ends
-- is that one
pub past_work : (w : Owner) (id : ServiceId) (x : FenceWork) (rest : List (ServiceId × FenceWork)) (time : ℕ) → OwnWaits w → w.works.left ≡ (id, x) ∷ rest → w.works.wait ≡ Some time → x ≡ Past time
past_work w id x rest time h l e = ap first_work (sym l) ∙ h.waits time e

only_fix : (x : FenceWork) → is_fix x ≡ true → x ≡ Fix
only_fix Nothing e = absurd (true≢false (sym e))
only_fix (Past time) e = absurd (true≢false (sym e))
only_fix Fix e = refl

pub fixed_work : (w : Owner) (id : ServiceId) (x : FenceWork) (rest : List (ServiceId × FenceWork)) → OwnWaits w → w.works.left ≡ (id, x) ∷ rest → is_fixing w.session ≡ true → x ≡ Fix
fixed_work w id x rest h l e = only_fix x (ap may_fix (sym l) ∙ h.fixes e)

-- an owner that keeps its works, and begins no round of dependencies; and one that waits for nothing
waits_same : (v w : Owner) → w.works.wait ≡ v.works.wait → w.works.left ≡ v.works.left → (is_fixing w.session ≡ true → is_fixing v.session ≡ true) → OwnWaits v → OwnWaits w
waits_same v w a b f h = record { waits = λ time e. ap first_work b ∙ h.waits time (sym a ∙ e); fixes = λ e. ap may_fix b ∙ h.fixes (f e) }

none_some : (time : ℕ) → None ≡ Some time → ⊥
none_some time e = cc

waits_none : (w : Owner) → w.works.wait ≡ None → is_fixing w.session ≡ false → OwnWaits w
waits_none w a f = record { waits = λ time e. absurd (none_some time (sym a ∙ e)); fixes = λ e. absurd (true≢false (sym e ∙ f)) }

not_fixing : (x : Session) → is_fixing x ≡ false → (y : Session) → is_fixing x ≡ true → is_fixing y ≡ true
not_fixing x f y e = absurd (true≢false (sym e ∙ f))

-- by the reasons of the rows
begins_waits : (c : Config) (s : State) (w : Owner) → Beginning c s w → OwnWaits w
begins_waits c s w (calls n x e) = waits_none w refl refl
begins_waits c s w (fences n) = waits_none w refl refl

resting_waits : (s : State) (o : ℕ) (w : Owner) → Resting s o w → OwnWaits (owner_at s o) → OwnWaits w
resting_waits s o w (plans e b) h = waits_none w refl refl
resting_waits s o w (past id x rest time l e) h = waits_none w refl refl
resting_waits s o w (fixed id x rest r e l a b d) h = waits_none w refl refl
resting_waits s o w (cleared r e l a b d) h = waits_same (owner_at s o) w refl refl (λ f. absurd (true≢false (sym f))) h

working_waits : (at : Reading) (s : State) (o : ℕ) (w : Owner) → Working at s o w → OwnWaits (owner_at s o) → OwnWaits w
working_waits at s o w (owes_nothing id rest l) h = waits_none w refl refl
working_waits at s o w (is_past id time rest l e) h = waits_none w refl refl
working_waits at s o w (enters_own x l e f) h = waits_same (owner_at s o) w refl refl (λ g. g) h

leaving_waits : (c : Config) (at : Reading) (s : State) (o : ℕ) (w : Owner) (outs : List Out) → Leaving c at s o w outs → OwnWaits (owner_at s o) → OwnWaits w
leaving_waits c at s o w _ (waits id time rest l) h = record { waits = λ t e. ap first_work l ∙ same_time time t e; fixes = h.fixes }
  where
    same_time : (a b : ℕ) → Some a ≡ Some b → Past a ≡ Past b
    same_time a b e = cc
leaving_waits c at s o w _ (fixes_work id rest l) h = record { waits = h.waits; fixes = λ e. ap may_fix l }
leaving_waits c at s o w _ (fixes_own x dep deps l e d) h = record { waits = h.waits; fixes = λ f. ap may_fix l }
leaving_waits c at s o w _ (asks_register key l e d) h = waits_same (owner_at s o) w refl refl (not_fixing w.session refl (session_at s o)) h
leaving_waits c at s o w _ (stamps_register key value l e d) h = waits_same (owner_at s o) w refl refl (not_fixing w.session refl (session_at s o)) h
leaving_waits c at s o w _ (begins_snapshot keys t l e d) h = waits_same (owner_at s o) w refl refl (not_fixing w.session refl (session_at s o)) h
leaving_waits c at s o w _ (begins_txn reads guard writes t l e d) h = waits_same (owner_at s o) w refl refl (not_fixing w.session refl (session_at s o)) h
leaving_waits c at s o w _ (fence_done l e) h = waits_same (owner_at s o) w refl refl (λ g. g) h
leaving_waits c at s o w _ (stub_done u l e) h = waits_same (owner_at s o) w refl refl (λ g. g) h

without_fixing : (x : Session) (id : ServiceId) (replica : ℕ) → is_fixing (session_without x (Replica id replica)) ≡ is_fixing x
without_fixing (session.Register r) id replica = refl
without_fixing (session.Fixing r) id replica = refl
without_fixing session.Idle id replica = refl
without_fixing (session.Transaction t) id replica = refl
without_fixing (session.Snapshot t) id replica = refl
without_fixing (session.Settling attempt shards) id replica = refl

turning_fixing : (s : State) (o : ℕ) (x : Session) (outs : List Out) → ShardTurning s o x outs → is_fixing x ≡ false
turning_fixing s o _ _ (txn_heard t l at r e) = refl
turning_fixing s o _ _ (txn_woken t l e) = refl
turning_fixing s o _ _ (txn_passed t e) = refl
turning_fixing s o _ _ (snap_heard t l r e) = refl
turning_fixing s o _ _ (snap_woken t l e) = refl

doing_waits : (s : State) (o : ℕ) (w : Owner) (outs : List Out) (new : List Dep) → Doing s o w outs new → OwnWaits (owner_at s o) → OwnWaits w
doing_waits s o w _ _ (listens_one slot r d) h = waits_same (owner_at s o) w refl refl (λ g. g) h
doing_waits s o w _ _ (fix_hears f slot r x d e) h = waits_same (owner_at s o) w refl refl (λ g. ap is_fixing x) h
doing_waits s o w _ _ (fix_reached f slot r y x d e) h = waits_same (owner_at s o) w refl refl (λ g. ap is_fixing x) h
doing_waits s o w _ _ (register_hears f slot r x d a e) h = waits_same (owner_at s o) w refl refl (not_fixing w.session refl (session_at s o)) h
doing_waits s o w _ _ (register_stores f slot r x d a e) h = waits_same (owner_at s o) w refl refl (not_fixing w.session refl (session_at s o)) h
doing_waits s o w _ _ (register_reached f slot r y x d e) h = waits_same (owner_at s o) w refl refl (not_fixing w.session refl (session_at s o)) h
doing_waits s o w _ _ (read_ends f key cell dep x a b) h = waits_same (owner_at s o) w refl refl (λ g. g) h
doing_waits s o w _ _ (write_ends f key value e x a b) h = waits_same (owner_at s o) w refl refl (λ g. g) h
doing_waits s o w _ _ (txn_ends y t time a b d) h = waits_same (owner_at s o) w refl refl (λ g. g) h
doing_waits s o w _ _ (snap_ends y t time a b d) h = waits_same (owner_at s o) w refl refl (λ g. g) h
doing_waits s o w _ _ (counts_one target) h = waits_same (owner_at s o) w refl refl (λ g. g) h
doing_waits s o w _ _ (cuts_one id replica) h = waits_same (owner_at s o) w refl refl (λ g. sym (without_fixing (session_at s o) id replica) ∙ g) h
doing_waits s o w _ _ (is_closed f) h = waits_same (owner_at s o) w refl refl (λ g. g) h
doing_waits s o w _ _ forgets_all h = waits_same (owner_at s o) w refl refl (λ g. g) h
doing_waits s o w _ _ (turns x outs y) h = waits_same (owner_at s o) w refl refl (not_fixing x (turning_fixing s o x outs y) (session_at s o)) h
doing_waits s o w _ _ (stub_asks attempt shards e b) h = waits_same (owner_at s o) w refl refl (not_fixing w.session refl (session_at s o)) h

-- owners change
wait_set : (s t : State) (o : ℕ) (w : Owner) → t.owners ≡ set s.owners o w → OwnWaits w → AllWait s → AllWait t
wait_set s t o w e f h = subst (λ (owners : List Owner). (i : ℕ) → OwnWaits (get_or owners i no_owner)) (sym e) (each_set (λ i v. OwnWaits v) s.owners o w f h)

wait_grow : (s t : State) (w : Owner) → t.owners ≡ s.owners ++ w ∷ [] → OwnWaits w → AllWait s → AllWait t
wait_grow s t w e f h = subst (λ (owners : List Owner). (i : ℕ) → OwnWaits (get_or owners i no_owner)) (sym e) (each_grow (λ i v. OwnWaits v) s.owners w f h)

wait_one : (o : ℕ) (s : State) (out : Out) → AllWait s → AllWait (sends_one s o out)
wait_one o s out h = wait_set s (sends_one s o out) o _ refl (waits_same (owner_at s o) _ refl refl (λ g. g) (h o)) h

wait_sends : (o : ℕ) (outs : List Out) (s : State) → AllWait s → AllWait (sends s o outs)
wait_sends o [] s h = h
wait_sends o (out ∷ outs) s h = wait_sends o outs (sends_one s o out) (wait_one o s out h)

wait_settles : (s : State) (o slot : ℕ) (a : Attempt) (shards : List ℕ) (outcome : Outcome) → AllWait s → AllWait (plans_stub (sends (listens s o slot) o (tells_decision a outcome shards)) o)
wait_settles s o slot a shards outcome h = wait_set v (plans_stub v o) o _ refl (waits_none _ refl refl) (wait_sends o (tells_decision a outcome shards) u (wait_set s u o (listened s o slot) refl (waits_same (owner_at s o) (listened s o slot) refl refl (λ g. g) (h o)) h))
  where
    u : State
    u = listens s o slot

    v : State
    v = sends u o (tells_decision a outcome shards)

-- all that owners do keeps it
pub waits_keep : (c : Config) (at : Reading) → OwnerKeeps c at AllWait (λ s o. AllWait s)
waits_keep c at = record {
  shards = λ s m shard r d h. h;
  replicas = λ s m id replica r d h. wait_set s (notes_served (serves_replica s m id replica r) (message_at s.net m).envelope.owner id r) (message_at s.net m).envelope.owner _ refl (waits_same (owner_at s (message_at s.net m).envelope.owner) _ refl refl (λ g. g) (h (message_at s.net m).envelope.owner)) h;
  moves = record {
    fates = λ s m f h. h;
    again = λ s o exchange slot target r d h. wait_one o s (record { slot = Some slot; target = target; request = r }) h;
    stages = λ s t d h. subst (λ (owners : List Owner). (i : ℕ) → OwnWaits (get_or owners i no_owner)) (sym d.owned) h;
    dies = λ s t n u d h. wait_grow s t _ d.owned (waits_none _ refl refl) h;
    begins = λ s t w b d h. wait_grow s t w d.owned (begins_waits c s w b) h;
    rests = λ s t o w i b d h. wait_set s t o w d.owned (resting_waits s o w b (h o)) h;
    settles = λ s o slot a shards outcome i e d h. wait_settles s o slot a shards outcome h;
    settled = λ s o h. h;
    works = λ s t o w i b d h. wait_set s t o w d.owned (working_waits at s o w b (h o)) h;
    leaves = λ s t o w outs i b d h. wait_sends o outs t (wait_set s t o w d.owned (leaving_waits c at s o w outs b (h o)) h);
    does = λ s t o w outs new b d h. wait_sends o outs t (wait_set s t o w d.owned (doing_waits s o w outs new b (h o)) h);
  };
}

-- before the first step, and in every run
pub waits_start : (c : Config) → AllWait (start c)
waits_start c zero = waits_none no_owner refl refl
waits_start c (suc o) = waits_none no_owner refl refl

pub waits_run : (c : Config) (steps : List Step) (s : State) → run c steps ≡ Some s → AllWait s
waits_run c steps s e = kept_run c AllWait (λ t o. AllWait t) (record { keeps = waits_keep c; ticked = λ t at h. h }) (waits_start c) steps s e
