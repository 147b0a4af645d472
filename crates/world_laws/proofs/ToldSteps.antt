use Rattle.std.proofs.Common.{◌≡◌, ℕ, ◌<◌, ◌⊎◌, inl, inr, ◌-◌, true, false, List, [], ◌∷◌, ◌++◌, length, Option, Some, None, refl, ap, sym, ◌∙◌, subst}
use Rattle.std.proofs.Math.ListN.{set}
use Rattle.std.proofs.lemmas.Bool.{true≢false, cases_eq}
use Rattle.truetime.specs.Reading.{Reading}
use Rattle.rss_names.specs.declared.service.Target.{Target}
use Rattle.causal_context.specs.declared.dep.Dep.{Dep}
use Rattle.causal_context.specs.Seen.{Seen, after_read, after_write}
use Rattle.pipeline_lang.specs.declared.config.Config.{Config}
use Rattle.rss_model.specs.Cursor.{Cursor}
use Rattle.rss_model.specs.declared.history.Entry.TheVariants.{Over}
use Rattle.rss_model.specs.declared.history.How.{How}
use Rattle.rss_model.specs.declared.op.Op.{Op}
use Rattle.rss_model.specs.declared.op.Op.TheVariants as op
use Rattle.rss_model.specs.declared.op.Shown.{Shown}
use Rattle.rss_wire.specs.declared.messages.RegReply.{RegReply}
use Rattle.rss_wire.specs.declared.messages.Reply.{Reply}
use Rattle.carstamps.specs.declared.carstamp.Carstamp.{Carstamp}
use Rattle.rss_tables.specs.Outs.{Out, slot_replica}
use Rattle.rss_tables.specs.RegisterSession.{RegSession, phase_end}
use Rattle.rss_tables.specs.Works.{no_works}
use Rattle.rss_tables.specs.declared.register_session.RegEnd.{RegEnd}
use Rattle.rss_tables.specs.declared.register_session.RegEnd.TheVariants as ends
use Rattle.rss_tables.specs.declared.register_session.RegPhase.TheVariants as phase
use Rattle.rss_tables.specs.declared.register_session.RegWork.{RegWork}
use Rattle.rss_tables.specs.declared.register_session.RegWork.TheVariants as work
use Rattle.rss_machine.specs.Calls.{replies}
use Rattle.rss_machine.specs.Moves.{sends, dies, ends_call, ends_fence, closed, closes_owner, with_owner, unsettled_by}
use Rattle.rss_machine.specs.Session.{Session}
use Rattle.rss_machine.specs.Standing.{is_running}
use Rattle.rss_machine.specs.State.{State, Owner, owner_at, stage_at, opening_owner}
use Rattle.rss_machine.specs.declared.session.OwnerKind.{OwnerKind}
use Rattle.rss_machine.specs.declared.session.OwnerKind.TheVariants as kind
use Rattle.rss_machine.specs.declared.session.Session.TheVariants as session
use Rattle.rss_machine.specs.declared.state.Life.TheVariants as life
use Rattle.rss_machine.specs.declared.state.OwnerFate.{OwnerFate}
use Rattle.rss_machine.specs.declared.state.OwnerFate.TheVariants.{Ended, Dropped, CutOff}
use Rattle.world_laws.specs.Calls.{is_call, is_stub, HasReplied, Gave}
use Rattle.world_laws.proofs.Doings.{Changed, Leaving, waits, fixes_work, fixes_own, asks_register, stamps_register, begins_snapshot, begins_txn, fence_done, stub_done, Doing, listens_one, fix_hears, fix_reached, register_hears, register_stores, register_reached, read_ends, write_ends, txn_ends, snap_ends, counts_one, cuts_one, is_closed, forgets_all, turns, stub_asks}
use Rattle.world_laws.proofs.Entries.{kept_running}
use Rattle.world_laws.proofs.Goes.{Finished, stays, is_register, no_rounds, finished_same, goes_round, without_done, goes_same, goes_idle, turning_goes, round_goes, fix_goes}
use Rattle.world_laws.proofs.Looks.{none_is_not, some_is}
use Rattle.world_laws.proofs.OwnerFits.{Fits, is_own, SessionFits, WorkFits, PhaseFits, CallFits, fits_launch, fits_close, fits_open, stub_not_own, without_fits, without_own}
use Rattle.world_laws.proofs.SessionMoves.{session_at}
use Rattle.world_laws.proofs.StageMoves.{Dying, killed, lost, LeavingNotes, CutsStub, DoingNotes, Quiet, can_end, ended_to}
use Rattle.world_laws.proofs.StagesOwned.{running_there}
use Rattle.world_laws.proofs.Told.{Told, told_goes}
use Rattle.world_laws.proofs.ToldDies.{told_dead}
use Rattle.world_laws.proofs.ToldMoves.{told_ends_call, told_ends_fence, told_stub}
use Rattle.rss_names.specs.declared.service.Key.{Key}
use Rattle.rss_tables.specs.TransactionSession.{shown_reply}
use Rattle.world_laws.specs.Calls.{end_reply, Owns}
use Rattle.world_laws.proofs.OwnerFits.{fits_goes}
use Rattle.world_laws.proofs.ToldMoves.{set_other, set_there, set_long}
use Rattle.world_laws.proofs.ToldRuns.{Running, Stepping, AtRest, Reached, set_done, grow_done, own_at, goes_out, silent_step}

-- an owner's call or fence statement ends
end_done : (s t : State) (o : ℕ) (w : Owner) → is_running (owner_at s o).fate ≡ true → t.owners ≡ set s.owners o w → w.fate ≡ Ended → ((i : ℕ) → (i ≡ o → ⊥) → Finished (owner_at s i)) → (i : ℕ) → Finished (owner_at t i)
end_done s t o w r e f h i = by_own (cases_eq i o)
  where
    by_own : (i ≡ o) ⊎ (i ≡ o → ⊥) → Finished (owner_at t i)
    by_own (inl q) = record { ended = λ g x a b. ap (λ (j : ℕ). (owner_at t j).fate) q ∙ (ap (λ (v : Owner). v.fate) (own_at s t o w r e) ∙ f) }
    by_own (inr n) = finished_same (owner_at s i) (owner_at t i) (ap (λ (v : Owner). v.session) (set_other s t o w e i n)) (ap (λ (v : Owner). v.fate) (set_other s t o w e i n)) (h i n)

close_fits : (s : State) (o : ℕ) → Told s → Fits s.steps (closed s o Ended)
close_fits s o h = fits_close s.steps (owner_at s o) (closed s o Ended) refl refl refl refl refl refl (h.fits o)

call_no_stub : (k : OwnerKind) (x : Op) → k ≡ kind.Calling x → is_stub k ≡ false
call_no_stub k x e = ap is_stub e

ends_told : (s : State) (o : ℕ) (x : Op) (reply : List Shown) (cursor : Cursor) (seen : Seen) → 0 < s.steps → Told s → ((i : ℕ) → (i ≡ o → ⊥) → Finished (owner_at s i)) → is_running (owner_at s o).fate ≡ true → (owner_at s o).kind ≡ kind.Calling x → Gave (session_at s o) reply → Stepping (ends_call s o reply cursor seen)
ends_told s o x reply cursor seen z h d r k g = record {
  counted = z;
  told = told_ends_call s t o w _ x reply (record { running = r; of_kind = ap is_stub k; owners = refl; over = refl; kept = kept_running (owner_at s o) w r refl refl refl; nobody = refl; stages = refl }) replied k refl refl (close_fits s o h) h;
  done = end_done s t o w r refl refl d;
}
  where
    t : State
    t = ends_call s o reply cursor seen

    w : Owner
    w = closed s o Ended

    own : owner_at t o ≡ w
    own = own_at s t o w r refl

    replied : HasReplied t o reply
    replied = record { op = x; of_kind = ap (λ (v : Owner). v.kind) own ∙ k; ended = ap (λ (v : Owner). v.fate) own; gave = subst (λ (y : Session). Gave y reply) (sym (ap (λ (v : Owner). v.session) own)) g }

-- the rounds of a call are done, and it ends
work_fits : (s : State) (o : ℕ) (f : RegSession) → Told s → session_at s o ≡ session.Register f → CallFits (owner_at s o).kind f
work_fits s o f h x = subst (SessionFits (owner_at s o).kind) x (h.fits o).session

pub reaches_step : (s t : State) (o : ℕ) (f : RegSession) (slot : ℕ) (reply : Reply) → t.steps ≡ s.steps → is_running (owner_at s o).fate ≡ true → session_at s o ≡ session.Register f → Quiet s t → t.owners ≡ set s.owners o (ended_to s o f slot reply) → Stepping s → Reached t o
reaches_step s t o f slot reply a r x q e h =
    let w = ended_to s o f slot reply in
    let g = round_goes s o r (h.told.fits o) w f (slot_replica slot) reply (stays refl refl refl refl) refl refl refl x in
    record {
      counted = subst (λ (n : ℕ). 0 < n) (sym a) h.counted;
      told = told_goes s t o w a q.stages q.history e r g.0 g.1 h.told;
      done = λ i n. finished_same (owner_at s i) (owner_at t i) (ap (λ (v : Owner). v.session) (set_other s t o w e i n)) (ap (λ (v : Owner). v.fate) (set_other s t o w e i n)) (h.done i);
    }

pub reads_step : (c : Config) (s t : State) (o : ℕ) (f : RegSession) (key : Key) (cell : RegReply) (dep : Option Dep) → is_running (owner_at s o).fate ≡ true → session_at s o ≡ session.Register f → f.work ≡ work.Read key → f.phase ≡ phase.Done (ends.Read cell dep)
    → t ≡ replies c s o (record { key = key; value = cell.value; writer = cell.writer } ∷ []) (after_read (owner_at s o).works.copy key.service dep) → Reached s o → Stepping t
reads_step c s t o f key cell dep r x a b q h =
    subst Stepping (sym q)
    (ends_told s o (op.Read key) _ _ _ h.counted h.told h.done r (subst (λ (w : RegWork). WorkFits w (owner_at s o).kind) a (work_fits s o f h.told x).of_kind)
    (subst (λ (y : Session). Gave y (record { key = key; value = cell.value; writer = cell.writer } ∷ [])) (sym x) (record { end = ends.Read cell dep; done = ap phase_end b; gives = ap (λ (w : RegWork). end_reply w (ends.Read cell dep)) (sym a) })))

pub writes_step : (c : Config) (s t : State) (o : ℕ) (f : RegSession) (key : Key) (value : ℕ) (stamp : Carstamp) → is_running (owner_at s o).fate ≡ true → session_at s o ≡ session.Register f → f.work ≡ work.Write key value → f.phase ≡ phase.Done (ends.Written stamp)
    → t ≡ replies c s o [] (after_write (owner_at s o).works.copy key.service) → Reached s o → Stepping t
writes_step c s t o f key value stamp r x a b q h =
    subst Stepping (sym q)
    (ends_told s o (op.Write key value) _ _ _ h.counted h.told h.done r (subst (λ (w : RegWork). WorkFits w (owner_at s o).kind) a (work_fits s o f h.told x).of_kind)
    (subst (λ (y : Session). Gave y []) (sym x) (record { end = ends.Written stamp; done = ap phase_end b; gives = ap (λ (w : RegWork). end_reply w (ends.Written stamp)) (sym a) })))

end_fits : (w : RegWork) (e : RegEnd) → PhaseFits w (phase.Done e) → can_end w e ≡ true
end_fits (work.Read key) e h = h
end_fits (work.Write key value) e h = h
end_fits (work.Fix deps) e h = absurd h

pub unfit_step : (s : State) (o : ℕ) (f : RegSession) (e : RegEnd) → session_at s o ≡ session.Register f → f.phase ≡ phase.Done e → can_end f.work e ≡ false → Reached s o → Stepping s
unfit_step s o f e x a b h = absurd (true≢false (sym (end_fits f.work e (subst (PhaseFits f.work) a (work_fits s o f h.told x).in_phase)) ∙ b))

-- a fence statement ends
fence_step : (s : State) (o : ℕ) (cursor : Cursor) (seen : Seen) → is_running (owner_at s o).fate ≡ true → (owner_at s o).kind ≡ kind.Fencing → Stepping s → Stepping (ends_fence s o cursor seen)
fence_step s o cursor seen r e h = record {
  counted = h.counted;
  told = told_ends_fence s (ends_fence s o cursor seen) o w _ (record { running = r; of_kind = ap is_stub e; owners = refl; over = refl; kept = kept_running (owner_at s o) w r refl refl refl; nobody = refl; stages = refl }) (ap is_call e) refl refl (close_fits s o h.told) h.told;
  done = end_done s (ends_fence s o cursor seen) o w r refl refl (λ i n. h.done i);
}
  where
    w : Owner
    w = closed s o Ended

-- an owner leaves its works
pub leaves_step : (c : Config) (at : Reading) (s t : State) (o : ℕ) (w : Owner) (outs : List Out) (b : Leaving c at s o w outs) → LeavingNotes c at s o w outs b t → Changed [] (set s.owners o w) s t → AtRest s o → Stepping (sends t o outs)
leaves_step c at s t o w _ (waits id time rest l) q d h = goes_out s t o w [] d.stores.steps q d.owned h.runs (goes_same s.steps (owner_at s o) w h.runs (stays refl refl refl refl) refl refl refl (h.all.told.fits o) (h.all.done o)) h.all
leaves_step c at s t o w outs (fixes_work id rest l) q d h = goes_out s t o w outs d.stores.steps q d.owned h.runs (goes_idle s.steps (owner_at s o) w h.runs (stays refl refl refl refl) refl (ap is_own h.idle) refl tt refl (h.all.told.fits o)) h.all
leaves_step c at s t o w outs (fixes_own x dep deps l e f) q d h = goes_out s t o w outs d.stores.steps q d.owned h.runs (goes_idle s.steps (owner_at s o) w h.runs (stays refl refl refl refl) refl (ap is_own h.idle) refl tt refl (h.all.told.fits o)) h.all
leaves_step c at s t o w outs (asks_register key l e f) q d h =
    goes_out s t o w outs d.stores.steps q d.owned h.runs
    (record { stays = stays refl refl refl refl; fits = fits_launch s.steps (owner_at s o) w h.all.counted h.runs refl refl refl l (record { of_kind = e; in_phase = tt }) (h.all.told.fits o); done = goes_round w _ refl refl }) h.all
leaves_step c at s t o w outs (stamps_register key value l e f) q d h =
    goes_out s t o w outs d.stores.steps q d.owned h.runs
    (record { stays = stays refl refl refl refl; fits = fits_launch s.steps (owner_at s o) w h.all.counted h.runs refl refl refl l (record { of_kind = e; in_phase = tt }) (h.all.told.fits o); done = goes_round w _ refl refl }) h.all
leaves_step c at s t o w outs (begins_snapshot keys x l e f) q d h =
    goes_out s t o w outs d.stores.steps q d.owned h.runs
    (record { stays = stays refl refl refl refl; fits = fits_launch s.steps (owner_at s o) w h.all.counted h.runs refl refl refl l (ap is_call e) (h.all.told.fits o); done = no_rounds w refl }) h.all
leaves_step c at s t o w outs (begins_txn reads guard writes x l e f) q d h =
    goes_out s t o w outs d.stores.steps q d.owned h.runs
    (record { stays = stays refl refl refl refl; fits = fits_launch s.steps (owner_at s o) w h.all.counted h.runs refl refl refl l (ap is_call e) (h.all.told.fits o); done = no_rounds w refl }) h.all
leaves_step c at s t o w _ (fence_done l e) q d h =
    subst Stepping (sym q) (fence_step s o _ _ h.runs e h.all)
leaves_step c at s t o w _ (stub_done u l e) q d h = record {
  counted = subst (λ (n : ℕ). 0 < n) (sym d.stores.steps) h.all.counted;
  told = told_stub s t o w (ap is_stub e) h.runs refl refl refl d.stores.steps q.stages q.history d.owned (fits_close s.steps (owner_at s o) w refl refl refl refl refl refl (h.all.told.fits o)) h.all.told;
  done = end_done s t o w h.runs d.owned refl (λ i n. h.all.done i);
}

-- a stub is cut off
not_register : (x : Session) → is_own x ≡ false → is_register x ≡ false
not_register session.Idle e = refl
not_register (session.Fixing r) e = refl
not_register (session.Register r) e = absurd (true≢false e)
not_register (session.Transaction t) e = refl
not_register (session.Snapshot t) e = refl
not_register (session.Settling attempt shards) e = refl

cut_step : (s t : State) (o : ℕ) (f : OwnerFate) → is_running (owner_at s o).fate ≡ true → CutsStub s o f → Quiet s t → t.steps ≡ s.steps → t.owners ≡ set s.owners o (closed s o f) → Stepping s → Stepping t
cut_step s t o f r y q a e h = record {
  counted = subst (λ (n : ℕ). 0 < n) (sym a) h.counted;
  told = told_stub s t o (closed s o f) y.stub r refl refl refl a q.stages q.history e (fits_close s.steps (owner_at s o) (closed s o f) (ap is_running y.cut) refl refl refl refl refl (h.told.fits o)) h.told;
  done = set_done s t o (closed s o f) e (no_rounds (closed s o f) (not_register (session_at s o) (stub_not_own s.steps (owner_at s o) y.stub (h.told.fits o)))) h.done;
}

-- and whatever else it does
pub does_step : (c : Config) (s t : State) (o : ℕ) (w : Owner) (outs : List Out) (new : List Dep) → is_running (owner_at s o).fate ≡ true → (b : Doing s o w outs new) → DoingNotes c s o w outs new b t → Changed new (set s.owners o w) s t → Stepping s → Stepping (sends t o outs)
does_step c s t o w _ _ r (listens_one slot y x) q d h = goes_out s t o w [] d.stores.steps q d.owned r (goes_same s.steps (owner_at s o) w r (stays refl refl refl refl) refl refl refl (h.told.fits o) (h.done o)) h
does_step c s t o w _ _ r (fix_hears f slot y x e a) q d h = goes_out s t o w [] d.stores.steps q d.owned r (fix_goes s o r (h.told.fits o) w f _ (stays refl refl refl refl) refl refl refl x) h
does_step c s t o w _ _ r (fix_reached f slot y g x e a) q d h = goes_out s t o w [] d.stores.steps q d.owned r (fix_goes s o r (h.told.fits o) w f _ (stays refl refl refl refl) refl refl refl x) h
does_step c s t o w _ _ r (register_hears f slot y x e a b) q d h =
    let g = round_goes s o r (h.told.fits o) w f (slot_replica slot) y (stays refl refl refl refl) refl refl refl x in
    goes_out s t o w [] d.stores.steps q d.owned r (record { stays = g.0; fits = g.1; done = goes_round w _ refl b }) h
does_step c s t o w outs _ r (register_stores f slot y x e a b) q d h =
    let g = round_goes s o r (h.told.fits o) w f (slot_replica slot) y (stays refl refl refl refl) refl refl refl x in
    goes_out s t o w outs d.stores.steps q d.owned r (record { stays = g.0; fits = g.1; done = goes_round w _ refl b }) h
does_step c s t o w _ _ r (register_reached f slot y g x e a) q d h = absurd q
does_step c s t o w _ _ r (read_ends f key cell dep x a b) q d h = absurd q
does_step c s t o w _ _ r (write_ends f key value e x a b) q d h = absurd q
does_step c s t o w _ _ r (txn_ends y x time a b e) q d h =
    subst Stepping (sym q) (ends_told s o y (shown_reply x.reads x.lines) _ _ h.counted h.told (λ i n. h.done i) r a (subst (λ (z : Session). Gave z (shown_reply x.reads x.lines)) (sym b) refl))
does_step c s t o w _ _ r (snap_ends y x time a b e) q d h =
    subst Stepping (sym q) (ends_told s o y (shown_reply x.keys x.lines) _ _ h.counted h.told (λ i n. h.done i) r a (subst (λ (z : Session). Gave z (shown_reply x.keys x.lines)) (sym b) refl))
does_step c s t o w _ _ r (counts_one target) q d h = goes_out s t o w [] d.stores.steps q d.owned r (goes_same s.steps (owner_at s o) w r (stays refl refl refl refl) refl refl refl (h.told.fits o) (h.done o)) h
does_step c s t o w _ _ r (cuts_one id replica) q d h =
    goes_out s t o w [] d.stores.steps q d.owned r (record {
      stays = stays refl refl refl refl;
      fits = fits_goes s.steps (owner_at s o) w r refl refl (without_own (session_at s o) id replica) (λ e. refl) (without_fits (owner_at s o).kind (session_at s o) id replica (h.told.fits o).session) (h.told.fits o);
      done = without_done (owner_at s o) w (session_at s o) id replica r refl refl (h.done o);
    }) h
does_step c s t o w _ _ r (is_closed f) q d h = cut_step s t o f r q.0 q.1 d.stores.steps d.owned h
does_step c s t o w _ _ r forgets_all q d h = goes_out s t o w [] d.stores.steps q d.owned r (goes_same s.steps (owner_at s o) w r (stays refl refl refl refl) refl refl refl (h.told.fits o) (h.done o)) h
does_step c s t o w outs _ r (turns x _ y) q d h = goes_out s t o w outs d.stores.steps q d.owned r (turning_goes s o r (h.told.fits o) w x outs (stays refl refl refl refl) refl refl refl y) h
does_step c s t o w outs _ r (stub_asks attempt shards e b) q d h =
    goes_out s t o w outs d.stores.steps q d.owned r (goes_idle s.steps (owner_at s o) w r (stays refl refl refl refl) refl (stub_not_own s.steps (owner_at s o) (ap is_stub e) (h.told.fits o)) refl tt refl (h.told.fits o)) h

-- a stage dies
dying_over : (s : State) (n : ℕ) (how : How) (f : OwnerFate) → Dying Running s n how f → (is_running f ≡ false) × (f ≡ Ended → ⊥)
dying_over s n _ _ (killed l) = (refl, not_dropped)
  where
    not_dropped : Dropped ≡ Ended → ⊥
    not_dropped e = cc
dying_over s n _ _ (lost o target a b d) = (refl, not_cut target)
  where
    not_cut : (target : Target) → CutOff target ≡ Ended → ⊥
    not_cut target e = cc

pub dies_step : (s : State) (n : ℕ) (how : How) (f : OwnerFate) → Dying Running s n how f → Stepping s → Stepping (dies s n how f)
dies_step s n how f y h = by_owner (stage_at s n).owner refl
  where
    over : (is_running f ≡ false) × (f ≡ Ended → ⊥)
    over = dying_over s n how f y

    after : Option ℕ → State
    after o =
        let stub = opening_owner n (kind.Stubbing (unsettled_by s o)) false (no_works (stage_at s n).context) s.steps in
        let t = closes_owner s o f in
        record t {
          owners = t.owners ++ stub ∷ [];
          stages = set t.stages (n - 1) (record (stage_at t n) { life = life.Over how; owner = None; stub = Some (length t.owners) });
          history = t.history ++ Over n how ∷ [];
        }

    stub_done : (o : Option ℕ) → Finished (opening_owner n (kind.Stubbing (unsettled_by s o)) false (no_works (stage_at s n).context) s.steps)
    stub_done o = no_rounds (opening_owner n (kind.Stubbing (unsettled_by s o)) false (no_works (stage_at s n).context) s.steps) refl

    by_owner : (o : Option ℕ) → (stage_at s n).owner ≡ o → Stepping (after o)
    by_owner None e = silent_step (record (after None) { history = s.history }) (Over n how) refl record {
      counted = h.counted;
      told = told_dead s (record (after None) { history = s.history }) n f s.owners _ _ (record {
        owners = refl;
        long = refl;
        same = λ i g. refl;
        gone = λ i g. absurd (none_is_not i (sym e ∙ g));
        over = over.0;
        not_ended = over.1;
        of_kind = refl;
        nobody = refl;
        stages = refl;
      }) h.told refl refl (fits_open s.steps _ refl refl refl);
      done = grow_done s (record (after None) { history = s.history }) _ refl (stub_done None) h.done;
    }
    by_owner (Some o) e = silent_step (record (after (Some o)) { history = s.history }) (Over n how) refl record {
      counted = h.counted;
      told = told_dead s (record (after (Some o)) { history = s.history }) n f (set s.owners o (closed s o f)) _ _ (record {
        owners = refl;
        long = set_long s (with_owner s o (closed s o f)) o (closed s o f) refl;
        same = λ i g. set_other s (with_owner s o (closed s o f)) o (closed s o f) refl i (λ q. g (e ∙ ap (λ (j : ℕ). Some j) (sym q)));
        gone = λ i g. let q : o ≡ i = some_is o i (sym e ∙ g) in subst (λ (j : ℕ). owner_at (with_owner s o (closed s o f)) j ≡ closed s j f) q (set_there s (with_owner s o (closed s o f)) o (closed s o f) refl (running_there s o own.running));
        over = over.0;
        not_ended = over.1;
        of_kind = refl;
        nobody = refl;
        stages = refl;
      }) h.told refl refl (fits_open s.steps _ refl refl refl);
      done = grow_done (with_owner s o (closed s o f)) (record (after (Some o)) { history = s.history }) _ refl (stub_done (Some o)) (set_done s (with_owner s o (closed s o f)) o (closed s o f) refl closed_done h.done);
    }
      where
        own : Owns s n o
        own = h.told.stages.owner n o e

        -- a call that runs has not done its rounds
        closed_done : Finished (closed s o f)
        closed_done = record { ended = λ g x a b. absurd (true≢false (sym own.running ∙ ap is_running ((h.done o).ended g x a b))) }
