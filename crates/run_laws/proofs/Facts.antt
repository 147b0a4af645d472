-- All that every run of a sound file keeps for the code, from the laws of each.
use Rattle.std.proofs.Common.{◌≡◌, ℕ, suc, ◌+◌, ◌-◌, ◌<◌, ◌≤◌, ◌^◌, true, List, [], ◌∷◌, length, Some, All, ap, sym, ◌∙◌, subst, arith}
use Rattle.std.proofs.lemmas.Bool.{true≢false}
use Rattle.std.proofs.lemmas.List.Elements.{All-weaker}
use Rattle.truetime.specs.Reading.{IsReading}
use Rattle.rss_names.specs.declared.service.ServiceId.{ServiceId}
use Rattle.rss_names.specs.declared.service.ServiceId.TheVariants as service
use Rattle.causal_context.specs.Deps.{AreAscending}
use Rattle.causal_context.specs.Forms.{IsSeen}
use Rattle.causal_context.specs.Seen.{Seen}
use Rattle.causal_context.specs.Services.{IsService}
use Rattle.causal_context.specs.declared.dep.Dep.{Dep}
use Rattle.pipeline_lang.specs.Config.{replicas_of, script_of, statement_at}
use Rattle.pipeline_lang.specs.declared.config.Config.{Config}
use Rattle.pipeline_lang.specs.declared.script.Statement.TheVariants as statement
use Rattle.rss_model.specs.Cursor.{Cursor}
use Rattle.rss_model.specs.Walk.{Walk}
use Rattle.rss_tables.specs.declared.fences.FenceWork.{FenceWork}
use Rattle.rss_machine.specs.Enabling.{next_statement}
use Rattle.rss_machine.specs.Run.{run, readings_of}
use Rattle.rss_machine.specs.Standing.{is_live}
use Rattle.rss_machine.specs.State.{State, stage_at, owner_at}
use Rattle.rss_machine.specs.declared.session.OwnerKind.TheVariants as kind
use Rattle.rss_machine.specs.declared.step.Step.{Step}
use Rattle.world_laws.specs.Calls.{StagesOwn, is_call}
use Rattle.world_laws.specs.Contexts.{AllDeps}
use Rattle.world_laws.specs.Exchanges.{Exchanges}
use Rattle.world_laws.specs.Laws.{IsOrdered}
use Rattle.world_laws.specs.Numbered.{are_numbered}
use Rattle.world_laws.specs.Ready.{IsReady}
use Rattle.world_laws.specs.Registers.{IsRegister}
use Rattle.world_laws.specs.Shapes.{IsSoundFile}
use Rattle.world_laws.specs.Traffic.{WorksFit}
use Rattle.world_laws.proofs.Contexts.{stage_holds, copy_holds}
use Rattle.world_laws.proofs.Looks.{some_is, none_is_not}
use Rattle.world_laws.proofs.Replies.{exchanges_run}
use Rattle.count_laws.proofs.Budget.{FewIn, AllFew}
use Rattle.count_laws.proofs.Runs.{sized_run, sizes_run}
use Rattle.stamp_laws.proofs.Stamped.{stamps_run}
use Rattle.ready_laws.proofs.Links.{links_run, messages_run, operations_run}
use Rattle.ready_laws.proofs.Stubs.{registers_run, stubs_run}
use Rattle.asked_laws.proofs.Asked.{targets_fit}
use Rattle.target_laws.proofs.Runs.{targets_in}
use Rattle.seen_laws.specs.Laws.{HasForm}
use Rattle.seen_laws.proofs.Forms.{have_form}
use Rattle.token_laws.specs.Depth.{CursorFits}
use Rattle.token_laws.specs.Tied.{Tied, Stands, waits, idles, calls, fences, left, died}
use Rattle.token_laws.proofs.Between.{walked_now}
use Rattle.token_laws.proofs.Kept.{kept}
use Rattle.token_laws.proofs.ScriptRuns.{tied_run}
use Rattle.run_laws.proofs.Blocks.{blocks_few}
use Rattle.run_laws.proofs.Operations.{calls_of_one}
use Rattle.run_laws.proofs.Sleepers.{sleepers_there}
use Rattle.target_laws.specs.InFile.{TargetsIn}
use Rattle.run_laws.specs.Facts.{CursorsFit, SessionsFew, RunKeeps}
use Rattle.size_laws.specs.Fine.{WorkFine}
use Rattle.size_laws.proofs.Callers.{calls_run}
use Rattle.size_laws.proofs.RoomRuns.{Counted, counted_read, room_run}
use Rattle.size_laws.proofs.Runs.{read_run, times_run}

-- CONTEXTS

-- numbers that ascend, from one on and below another, are no more than lie between
few_left : (n low : ℕ) (deps : List Dep) → AreAscending deps → All (λ (d : Dep). low ≤ d.key.index) deps → All (λ (d : Dep). d.key.index < n) deps → low ≤ n → low + length deps ≤ n
few_left n low [] h a b l = omega (arith, l)
few_left n low (d ∷ deps) h a b l =
    let x : low ≤ d.key.index = a 0 d (omega arith) in
    let y : d.key.index < n = b 0 d (omega arith) in
    let r = few_left n (suc d.key.index) deps (record { in_order = λ i j e p m. h.in_order (suc i) (suc j) e (omega (arith, p)) (omega (arith, m)) })
    (λ k e m. (let q = h.in_order 0 (suc k) e (omega arith) (omega (arith, m)) in omega (arith, q))) (λ k e m. b (suc k) e (omega (arith, m))) (omega (arith, y)) in
    omega (arith, x, r)

few_deps : (n : ℕ) (deps : List Dep) → AreAscending deps → All (λ (d : Dep). d.key.index < n) deps → length deps ≤ n
few_deps n deps h b = let r = few_left n 0 deps h (λ k e m. omega arith) b (omega arith) in omega (arith, r)

abbrev OnRegister : Config → Dep → Type 0
OnRegister c dep = IsRegister c dep.key

few_of : (c : Config) (seen : Seen) → IsSeen seen → All (OnRegister c) seen.deps → length seen.deps ≤ length c.registers
few_of c seen h a = few_deps (length c.registers) seen.deps h.deps (λ k e m. (a k e m).there)

-- WORKS

pub works_fit : (c : Config) (steps : List Step) (s : State) → IsSoundFile c → All IsReading (readings_of steps) → run c steps ≡ Some s → WorksFit c s
works_fit c steps s f a e = record {
  few = λ o. (h.fine.owners o).few;
  services = λ o. All-weaker (WorkFine (2 ^ 62 + s.steps)) (λ (x : ServiceId × FenceWork). IsService x.0) (λ x k. k.1) (owner_at s o).works.left (h.fine.owners o).left;
  planned = h.planned;
  registers = d;
  copies = λ o. few_of c (owner_at s o).works.copy (h.fine.owners o).copy.orders (copy_holds (OnRegister c) s o d);
  stages = λ n. few_of c (stage_at s n).context (h.fine.stages (n - 1)).orders (stage_holds (OnRegister c) s n d);
}
  where
    h : Counted (2 ^ 62) c s
    h = counted_read c steps s f a e

    d : AllDeps (OnRegister c) s
    d = registers_run c steps s f e

copies_have : (c : Config) (steps : List Step) (s : State) → IsSoundFile c → All IsReading (readings_of steps) → run c steps ≡ Some s → (o : ℕ) → HasForm c (owner_at s o).works.copy
copies_have c steps s f a e o =
    let h = ((read_run c steps s f a e).owners o).copy.orders in
    record { orders = h; few = few_of c (owner_at s o).works.copy h (copy_holds (OnRegister c) s o (registers_run c steps s f e)) }

ordered : (steps : List Step) → All IsReading (readings_of steps) → All IsOrdered (readings_of steps)
ordered steps a = All-weaker IsReading IsOrdered (λ at k. k.0) (readings_of steps) a

pub ready_run : (c : Config) (steps : List Step) (s : State) → IsSoundFile c → All IsReading (readings_of steps) → are_numbered steps ≡ true → run c steps ≡ Some s → IsReady c s
ready_run c steps s f a z e = record {
  sizes = sizes_run c steps s f e;
  room = room_run c steps s f a e;
  stamps = stamps_run c steps s e;
  times = times_run c steps s f a e;
  messages = messages_run c steps s e;
  targets = targets_fit c steps s f (ordered steps a) e;
  links = links_run c steps s e;
  stubs = stubs_run c steps s f z e;
  operations = operations_run c steps s f e;
  works = works_fit c steps s f a e;
}

-- CURSORS

stands_there : (c : Config) (s : State) (n : ℕ) (w : Walk) → is_live (stage_at s n).life ≡ true → Stands c s n w → w.cursor ≡ (stage_at s n).cursor
stands_there c s n w l (waits e d q u) = u
stands_there c s n w l (idles e d m u) = u
stands_there c s n w l (calls o e d i k m u) = u
stands_there c s n w l (fences o e d i k m u f) = u
stands_there c s n w l (left owed e m) = absurd (true≢false (sym l ∙ ap is_live e))
stands_there c s n w l (died how o owed e d b i m q r) = absurd (true≢false (sym l ∙ ap is_live e))

cursors_fit : (c : Config) (s : State) → IsSoundFile c → Tied c s → CursorsFit c s
cursors_fit c s f h n z l = subst (CursorFits (script_of c n)) (stands_there c s n (h.walk n) l (h.stands n z)) (kept c s.history n f.spawns f.pipes z (length s.history) (h.walk n) (walked_now c s n (h.walk n) (h.walking n))).cursor

fence_at : (c : Config) (s : State) (n o : ℕ) (w : Walk) → StagesOwn s → (stage_at s n).owner ≡ Some o → (owner_at s o).kind ≡ kind.Fencing → Stands c s n w → next_statement c s n ≡ statement.Fence
fence_at c s n o w g x y (waits e d q u) = absurd (none_is_not o (sym d ∙ x))
fence_at c s n o w g x y (idles e d m u) = absurd (none_is_not o (sym d ∙ x))
fence_at c s n o w g x y (calls p e d i k m u) = absurd (true≢false (sym k ∙ (ap (λ (a : ℕ). is_call (owner_at s a).kind) (some_is p o (sym d ∙ x)) ∙ ap is_call y)))
fence_at c s n o w g x y (fences p e d i k m u f) = ap (λ (a : Cursor). statement_at c n a.position) (sym u) ∙ f
fence_at c s n o w g x y (left owed e m) = absurd (true≢false (sym (g.owner n o x).lives ∙ ap is_live e))
fence_at c s n o w g x y (died how p owed e d b i m q r) = absurd (true≢false (sym (g.owner n o x).lives ∙ ap is_live e))

-- SESSIONS

all_few : (c : Config) (steps : List Step) (s : State) → IsSoundFile c → run c steps ≡ Some s → AllFew s
all_few c steps s f e = (sized_run c (record { replicas = by_kind; pipes = f.within.pipes }) steps s e).few
  where
    by_kind : (x : ServiceId) → replicas_of c x ≤ 7
    by_kind (service.Reg number) = f.within.places.replicas number
    by_kind (service.Txn number) = let q = f.within.places.others number in omega (arith, q)

sessions_few : (s : State) → AllFew s → SessionsFew s
sessions_few s h = record {
  txn = λ o t e. subst FewIn e (h o).session;
  snap = λ o t e. subst FewIn e (h o).session;
  register = λ o r e. subst FewIn e (h o).session;
  fixing = λ o r e. subst FewIn e (h o).session;
  settling = λ o attempt shards e. subst FewIn e (h o).session;
}

pub keeps_run : (c : Config) (steps : List Step) (s : State) → IsSoundFile c → All IsReading (readings_of steps) → are_numbered steps ≡ true → run c steps ≡ Some s → RunKeeps c s
keeps_run c steps s f a z e = record {
  ready = ready_run c steps s f a z e;
  forms = have_form c steps s f (ordered steps a) z e;
  copies = copies_have c steps s f a e;
  targets = targets;
  exchanges = exchanges;
  cursors = cursors;
  fences = λ n o y x k. fence_at c s n o (h.walk n) (links_run c steps s e).own x k (h.stands n y);
  calls = calls_run c steps s e;
  few = sessions_few s (all_few c steps s f e);
  one_service = calls_of_one c steps s f e;
  blocks = blocks_few c s f cursors;
  sleepers = sleepers_there c s (sizes_run c steps s f e).shards targets (calls_run c steps s e);
}
  where
    h : Tied c s
    h = tied_run c f.spawns f.pipes steps s z e

    exchanges : Exchanges s.net
    exchanges = exchanges_run c steps s e

    targets : TargetsIn c s
    targets = targets_in c steps s f (ordered steps a) e

    cursors : CursorsFit c s
    cursors = cursors_fit c s f h
