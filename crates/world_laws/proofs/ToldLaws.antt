-- What stages, owners and the history tell of calls: each step keeps it, and so it holds in every run.
use Rattle.std.proofs.Common.{◌≡◌, ℕ, zero, suc, ◌<◌, inl, ◌-◌, true, false, List, [], ◌∷◌, ◌++◌, length, get_or, Some, None, refl, ap, sym, ◌∙◌, subst, arith}
use Rattle.std.specs.Prelude.{◌+◌}
use Rattle.std.proofs.Math.ListN.{set}
use Rattle.std.proofs.lemmas.Bool.{true≢false}
use Rattle.truetime.specs.Reading.{Reading}
use Rattle.rss_names.specs.declared.attempt.Attempt.{Attempt}
use Rattle.pipeline_lang.specs.declared.config.Config.{Config}
use Rattle.rss_model.specs.declared.history.Entry.TheVariants.{Begin, End, Over}
use Rattle.rss_model.specs.declared.history.How.TheVariants.{Exited}
use Rattle.rss_model.specs.declared.op.Op.{Op}
use Rattle.rss_model.specs.declared.op.Shown.{Shown}
use Rattle.rss_wire.specs.Messages.{message_at}
use Rattle.rss_wire.specs.declared.messages.Outcome.{Outcome}
use Rattle.rss_tables.specs.Lines.{tells_decision}
use Rattle.rss_tables.specs.Outs.{Out}
use Rattle.rss_machine.specs.Effect.{stepped}
use Rattle.rss_machine.specs.Moves.{ticks, marks_message, sends_one, sends, plans_stub, listens}
use Rattle.rss_machine.specs.Refusal.{refusal}
use Rattle.rss_machine.specs.Run.{run}
use Rattle.rss_machine.specs.Standing.{is_running}
use Rattle.rss_machine.specs.State.{State, Owner, start, stages_from, owner_at, no_owner, no_stage}
use Rattle.rss_machine.specs.declared.session.OwnerKind.{OwnerKind}
use Rattle.rss_machine.specs.declared.session.OwnerKind.TheVariants as kind
use Rattle.rss_machine.specs.declared.session.Session.TheVariants as session
use Rattle.rss_machine.specs.declared.step.Step.{Step}
use Rattle.world_laws.specs.Calls.{is_call, StagesOwn}
use Rattle.world_laws.proofs.Doings.{Changed, Beginning, Resting, Working, listened}
use Rattle.world_laws.proofs.Goes.{Finished, stays, no_rounds, finished_same, goes_same, goes_idle, resting_goes, working_goes}
use Rattle.world_laws.proofs.Looks.{looks, none_is_not}
use Rattle.world_laws.proofs.OwnerFits.{Fits, is_own, nobody_fits, fits_later}
use Rattle.world_laws.proofs.OwnerMoves.{sends_kept}
use Rattle.world_laws.proofs.OwnerWalk.{AllKeeps, all_walk}
use Rattle.world_laws.proofs.Runs.{passes, run_keeps}
use Rattle.world_laws.proofs.SessionMoves.{session_at}
use Rattle.world_laws.proofs.StageMoves.{BeginNotes, Quiet}
use Rattle.world_laws.proofs.StagesOwned.{same_as, stages_alike}
use Rattle.world_laws.proofs.Told.{told_noted}
use Rattle.world_laws.proofs.ToldMoves.{Fresh}
use Rattle.world_laws.proofs.ToldRuns.{Running, AllTold, Stepping, AtRest, Reached, set_done, goes_step, sends_step, own_at, current_runs, stage_step, begins_step, pipes_step}
use Rattle.rss_model.specs.History.{entry_at, has_begun, op_of, reply_of}
use Rattle.rss_model.specs.Stages.{stage_of}
use Rattle.rss_machine.specs.Moves.{serves_shard, serves_replica, notes_served}
use Rattle.world_laws.specs.Calls.{HistoryTells, DatesTell}
use Rattle.world_laws.proofs.Rising.{rising_run}
use Rattle.world_laws.proofs.Entries.{entries_same, onward_same}
use Rattle.world_laws.proofs.Histories.{begin_in, end_in}
use Rattle.world_laws.proofs.OwnerFits.{own_is_call}
use Rattle.world_laws.proofs.ToldSteps.{reaches_step, reads_step, writes_step, unfit_step, leaves_step, does_step, dies_step}

settles_step : (s : State) (o slot : ℕ) (attempt : Attempt) (shards : List ℕ) (outcome : Outcome) → is_running (owner_at s o).fate ≡ true → session_at s o ≡ session.Settling attempt shards → Stepping s → AtRest (plans_stub (sends (listens s o slot) o (tells_decision attempt outcome shards)) o) o
settles_step s o slot attempt shards outcome r e h = record {
  all = goes_step v t o _ refl refl refl refl rv (goes_idle v.steps (owner_at v o) _ rv (stays refl refl refl refl) refl (ap is_own ev) refl tt refl (hv.told.fits o)) hv;
  runs = ap (λ (w : Owner). is_running w.fate) (own_at v t o _ rv refl) ∙ rv;
  idle = ap (λ (w : Owner). w.session) (own_at v t o _ rv refl);
}
  where
    u : State
    u = listens s o slot

    v : State
    v = sends u o (tells_decision attempt outcome shards)

    t : State
    t = plans_stub v o

    listened_fate : (owner_at u o).fate ≡ (owner_at s o).fate
    listened_fate = grind (arith, looks)

    listened_session : session_at u o ≡ session_at s o
    listened_session = grind (arith, looks)

    ru : is_running (owner_at u o).fate ≡ true
    ru = ap is_running listened_fate ∙ r

    hu : Stepping u
    hu = goes_step s u o (listened s o slot) refl refl refl refl r (goes_same s.steps (owner_at s o) (listened s o slot) r (stays refl refl refl refl) refl refl refl (h.told.fits o) (h.done o)) h

    hv : Stepping v
    hv = sends_step o (tells_decision attempt outcome shards) u ru hu

    rv : is_running (owner_at v o).fate ≡ true
    rv = ap (λ (w : Owner). is_running w.fate) (sends_kept u o (tells_decision attempt outcome shards) o) ∙ ru

    ev : session_at v o ≡ session.Settling attempt shards
    ev = ap (λ (w : Owner). w.session) (sends_kept u o (tells_decision attempt outcome shards) o) ∙ (listened_session ∙ e)

rests_step : (s t : State) (o : ℕ) (w : Owner) → is_running (owner_at s o).fate ≡ true → Resting s o w → Quiet s t → Changed [] (set s.owners o w) s t → Stepping s → AtRest t o
rests_step s t o w r b q d h =
    let g = resting_goes s o r (h.told.fits o) w b in
    record {
      all = goes_step s t o w d.stores.steps q.stages q.history d.owned r g.0 h;
      runs = ap (λ (v : Owner). is_running v.fate) (own_at s t o w r d.owned) ∙ (ap is_running g.0.stays.fate ∙ r);
      idle = ap (λ (v : Owner). v.session) (own_at s t o w r d.owned) ∙ g.1;
    }

works_step : (at : Reading) (s t : State) (o : ℕ) (w : Owner) → Working at s o w → Quiet s t → Changed [] (set s.owners o w) s t → AtRest s o → AtRest t o
works_step at s t o w b q d h =
    let g = working_goes s o h.runs (h.all.told.fits o) at w h.idle b in
    record {
      all = goes_step s t o w d.stores.steps q.stages q.history d.owned h.runs g.0 h.all;
      runs = ap (λ (v : Owner). is_running v.fate) (own_at s t o w h.runs d.owned) ∙ (ap is_running g.0.stays.fate ∙ h.runs);
      idle = ap (λ (v : Owner). v.session) (own_at s t o w h.runs d.owned) ∙ g.1;
    }

again_step : (s : State) (o : ℕ) (out : Out) → is_running (owner_at s o).fate ≡ true → Stepping s → Stepping (sends_one s o out)
again_step s o out r h = sends_step o (out ∷ []) s r h

noted_step : (s t : State) (o : ℕ) (w : Owner) → t.steps ≡ s.steps → t.stages ≡ s.stages → t.history ≡ s.history → t.owners ≡ set s.owners o w → w ≡ record (owner_at s o) { stored = w.stored } → Stepping s → Stepping t
noted_step s t o w a b d e y h = record {
  counted = subst (λ (n : ℕ). 0 < n) (sym a) h.counted;
  told = told_noted s t o w a b d e y h.told;
  done = set_done s t o w e (finished_same (owner_at s o) w (ap (λ (x : Owner). x.session) y) (ap (λ (x : Owner). x.fate) y) (h.done o)) h.done;
}

-- all that a step does keeps what is told of calls
pub told_keeps : (c : Config) (at : Reading) → AllKeeps c at Running Fresh Stepping AtRest Reached
told_keeps c at = record {
  shards = λ s m shard r d h. pipes_step s (serves_shard s m shard at.latest r) refl refl refl refl h;
  replicas = λ s m id replica r d h. noted_step s (notes_served (serves_replica s m id replica r) (message_at s.net m).envelope.owner id r) (message_at s.net m).envelope.owner _ refl refl refl refl refl h;
  moves = record {
    acting = λ s n o e h. (h.told.stages.owner n o e).running;
    heard = current_runs;
    runs = λ f e. e;
    counted = λ s n h. record { ended = h.ended };
    fates = λ s m f h. pipes_step s (marks_message s m f) refl refl refl refl h;
    again = λ s o exchange slot target r d h. again_step s o (record { slot = Some slot; target = target; request = r }) (current_runs s o slot exchange d.current h) h;
    stages = λ s t y d h. stage_step c s t y h;
    dies = dies_step;
    begins = begins_step_of;
    rests = λ s t o w i r b q d h. rests_step s t o w r b q d h;
    settles = λ s o slot attempt shards outcome i r e d h. settles_step s o slot attempt shards outcome r e h;
    settled = λ s o h. h.all;
    works = λ s t o w i b q d h. works_step at s t o w b q d h;
    leaves = λ s t o w outs i b q d h. leaves_step c at s t o w outs b q d h;
    does = λ s t o w outs new r b q d h. does_step c s t o w outs new r b q d h;
    reaches = λ s t o f slot reply e i r x y z q d h. reaches_step s t o f slot reply d.stores.steps r x q d.owned h;
    reads = λ s t o f key cell dep r x a b q d h. reads_step c s t o f key cell dep r x a b q h;
    writes = λ s t o f key value stamp r x a b q d h. writes_step c s t o f key value stamp r x a b q h;
    unfit = λ s o f e x a b h. unfit_step s o f e x a b h;
  };
}
  where
    begins_step_of : (s t : State) (w : Owner) (b : Beginning c s w) → BeginNotes c s w b t → Fresh s → Changed [] (s.owners ++ w ∷ []) s t → Stepping s → AtRest t (length s.owners)
    begins_step_of s t w b q f d h = begins_step c s t w b q f h

-- a step that is not refused
pub told_ticks : (s : State) (at : Reading) → AllTold s → Stepping (ticks s at)
told_ticks s at h = record {
  counted = omega arith;
  told = record {
    some = h.told.some;
    fits = λ o. fits_later s.steps (s.steps + 1) (owner_at s o) (omega arith) (h.told.fits o);
    stages = stages_alike s (ticks s at) refl (λ o. inl (same_as (owner_at s o) (owner_at s o) refl)) h.told.stages;
    entries = entries_same s (ticks s at) refl (onward_same s (ticks s at) refl) h.told.entries;
    begun = h.told.begun;
    ended = h.told.ended;
    turns = h.told.turns;
  };
  done = h.done;
}

pub told_step : (c : Config) (s : State) (step : Step) → refusal c s step ≡ None → AllTold s → AllTold (stepped c s step)
told_step c s step r h =
    let g = all_walk c step.at Running Fresh Stepping AtRest Reached (told_keeps c step.at) (ticks s step.at) step.kind (passes c s step r).kind (record { ended = λ o. let e = (h.told.fits o).dates.ended in omega (arith, e) }) (told_ticks s step.at h) in
    record { told = g.told; done = g.done }

-- before the first step no stage has anything under way
idle_from : (c : Config) (n left : ℕ) (i : ℕ) → (get_or (stages_from c n left) i no_stage).owner ≡ None
idle_from c n zero zero = refl
idle_from c n zero (suc i) = refl
idle_from c n (suc left) zero = refl
idle_from c n (suc left) (suc i) = idle_from c (n + 1) left i

pub start_owner : (c : Config) (o : ℕ) → owner_at (start c) o ≡ no_owner
start_owner c zero = refl
start_owner c (suc o) = refl

nothing_begun : (o : ℕ) → has_begun [] o ≡ false
unfolding has_begun
nothing_begun o = refl

pub told_start : (c : Config) → AllTold (start c)
told_start c = record {
  told = record {
    some = omega arith;
    fits = λ o. subst (Fits 0) (sym (start_owner c o)) (nobody_fits 0);
    stages = record { owner = λ n o e. absurd (none_is_not o (sym (idle_from c 1 _ (n - 1)) ∙ e)); running = λ o r k. absurd (true≢false (sym r ∙ ap (λ (w : Owner). is_running w.fate) (start_owner c o))) };
    entries = record {
      begins = λ i o stage x e. absurd (no_begin o stage x (sym (no_entry i) ∙ e));
      ends = λ i o reply e. absurd (no_end o reply (sym (no_entry i) ∙ e));
      begins_once = λ i j o m n x y e f. absurd (no_begin o m x (sym (no_entry i) ∙ e));
      ends_once = λ i j o x y e f. absurd (no_end o x (sym (no_entry i) ∙ e));
      in_turn = λ i j o stage x reply e f. absurd (no_begin o stage x (sym (no_entry i) ∙ e));
      order = λ i j a b stage reply x l e f. absurd (no_end a reply (sym (no_entry i) ∙ e));
    };
    begun = λ o. begun o;
    ended = λ o x e f. absurd (not_fencing x (ap (λ (w : Owner). w.kind) (sym (start_owner c o)) ∙ e));
    turns = λ a b z l p q i e. absurd (omega (arith, z, l, i));
  };
  done = λ o. subst Finished (sym (start_owner c o)) (no_rounds no_owner refl);
}
  where
    no_entry : (i : ℕ) → entry_at [] i ≡ Over 0 Exited
    no_entry zero = refl
    no_entry (suc i) = refl

    no_begin : (o stage : ℕ) (x : Op) → Over 0 Exited ≡ Begin o stage x → ⊥
    no_begin o stage x e = cc

    no_end : (o : ℕ) (reply : List Shown) → Over 0 Exited ≡ End o reply → ⊥
    no_end o reply e = cc

    not_fencing : (x : Op) → kind.Fencing ≡ kind.Calling x → ⊥
    not_fencing x e = cc

    begun : (o : ℕ) → has_begun [] o ≡ is_call (owner_at (start c) o).kind
    begun o = nothing_begun o ∙ sym (ap (λ (w : Owner). is_call w.kind) (start_owner c o))

pub told_run : (c : Config) (steps : List Step) (s : State) → run c steps ≡ Some s → AllTold s
told_run c steps s e = run_keeps c AllTold (told_step c) (told_start c) steps s e

-- what stages have under way
pub stages_own_run : (c : Config) (steps : List Step) (s : State) → run c steps ≡ Some s → StagesOwn s
stages_own_run c steps s e = (told_run c steps s e).told.stages

-- what the history says of calls
calling_same : (k : OwnerKind) (x y : Op) → k ≡ kind.Calling x → k ≡ kind.Calling y → x ≡ y
calling_same k x y a b = cc

of_call : (k : OwnerKind) → is_call k ≡ true → (x : Op) × (k ≡ kind.Calling x)
of_call (kind.Calling x) e = (x, refl)
of_call kind.Fencing e = absurd (true≢false (sym e))
of_call (kind.Stubbing u) e = absurd (true≢false (sym e))

pub history_run : (c : Config) (steps : List Step) (s : State) → run c steps ≡ Some s → HistoryTells s
history_run c steps s e = record {
  entries = h.told.entries;
  begun = h.told.begun;
  op = λ o x k. let b = begin_in s.history o (h.told.begun o ∙ ap is_call k) in calling_same (owner_at s o).kind (op_of s.history o) x (h.told.entries.begins b.at o (stage_of s.history o) (op_of s.history o) b.says).of_kind k;
  stage = λ o x k. let b = begin_in s.history o (h.told.begun o ∙ ap is_call k) in sym (h.told.entries.begins b.at o (stage_of s.history o) (op_of s.history o) b.says).of_stage;
  ended = h.told.ended;
  replied = λ o f. let b = end_in s.history o f in h.told.entries.ends b.at o (reply_of s.history o) b.says;
  done = λ o r x a b. let k = of_call (owner_at s o).kind (own_is_call (owner_at s o).kind (session_at s o) (h.told.fits o).session (ap is_own a)) in h.told.ended o k.0 k.1 ((h.done o).ended r x a b);
}
  where
    h : AllTold s
    h = told_run c steps s e

-- the dates of owners
pub dates_run : (c : Config) (steps : List Step) (s : State) → run c steps ≡ Some s → DatesTell s
dates_run c steps s e = record {
  each = λ o. (h.told.fits o).dates;
  launched = λ o r a. (h.told.fits o).launched (ap is_own a);
  sent = λ o. (h.told.fits o).launched;
  one_at_a_time = h.told.turns;
  rise = (rising_run c steps s e).rise;
}
  where
    h : AllTold s
    h = told_run c steps s e
