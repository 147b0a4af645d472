-- In every run contexts tell of reads that left a dependency: each later call of the stage sends its own first round
-- after a majority has held what was read.
use Rattle.std.proofs.Common.{◌≡◌, ℕ, zero, suc, ◌+◌, ◌<◌, ◌⊎◌, inl, inr, true, false, List, [], ◌∷◌, ◌++◌, length, get_or, Some, None, refl, sym, ap, ◌∙◌, subst, arith}
use Rattle.std.proofs.lemmas.Bool.{true≢false}
use Rattle.std.proofs.lemmas.List.{append_assoc, append-nil}
use Rattle.truetime.specs.Reading.{Reading}
use Rattle.rss_names.specs.declared.service.Key.{Key}
use Rattle.rss_names.specs.declared.service.ServiceId.{ServiceId}
use Rattle.rss_names.specs.declared.service.Target.{Target}
use Rattle.rss_names.specs.declared.service.Target.TheVariants.{Shard, Replica}
use Rattle.carstamps.specs.declared.carstamp.Carstamp.{Carstamp}
use Rattle.causal_context.specs.Seen.{nothing_seen}
use Rattle.pipeline_lang.specs.declared.config.Config.{Config}
use Rattle.rss_model.specs.declared.op.Op.{Op}
use Rattle.rss_wire.specs.declared.messages.RegReply.{RegReply}
use Rattle.rss_wire.specs.Messages.{message_at}
use Rattle.rss_tables.specs.Lines.{tells_decision}
use Rattle.rss_tables.specs.Outs.{Out}
use Rattle.rss_machine.specs.Effect.{request_comes, stepped}
use Rattle.rss_machine.specs.Moves.{ticks, marks_message, sends_one, sends, listens}
use Rattle.rss_machine.specs.Marks.{is_held}
use Rattle.rss_machine.specs.Refusal.{refusal}
use Rattle.rss_machine.specs.Run.{run, run_from}
use Rattle.rss_machine.specs.Standing.{is_running}
use Rattle.rss_machine.specs.State.{State, Owner, Stage, start, stages_from, no_stage, no_owner, owner_at, service_index}
use Rattle.rss_machine.specs.declared.session.OwnerKind.{OwnerKind}
use Rattle.rss_machine.specs.declared.session.OwnerKind.TheVariants as kind
use Rattle.rss_machine.specs.declared.step.Step.{Step}
use Rattle.world_laws.specs.Calls.{is_call, is_stub}
use Rattle.world_laws.proofs.Histories.{begin_in}
use Rattle.world_laws.proofs.Looks.{get_or_past, none_is_not}
use Rattle.world_laws.proofs.OwnerMoves.{OwnerMoves}
use Rattle.world_laws.proofs.OwnerWalk.{Served, all_or_serves}
use Rattle.world_laws.proofs.Runs.{passes, run_rest, run_none, run_more, run_is, run_ends}
use Rattle.world_laws.proofs.StageMoves.{AllMoves}
use Rattle.world_laws.proofs.Stacked.{stacked, under_more}
use Rattle.world_laws.proofs.Told.{Told}
use Rattle.world_laws.proofs.ToldLaws.{told_keeps, told_ticks, told_run}
use Rattle.world_laws.proofs.ToldMoves.{Fresh}
use Rattle.world_laws.proofs.ToldRuns.{Running as IsRunning, AllTold, Stepping, AtRest, Reached}
use Rattle.reg_laws.specs.Agree.{AllAgree}
use Rattle.reg_laws.specs.Files.{IsInOrder}
use Rattle.reg_laws.proofs.Agree.{agree_under, agree_run}
use Rattle.reg_laws.proofs.Awaiting.{Awaiting, AtRest as AwaitsAtRest}
use Rattle.reg_laws.proofs.Rounds.{Settled, SettledAt, settled_kept, settled_run}
use Rattle.place_laws.specs.Alone.{KeepsToServices}
use Rattle.world_laws.proofs.Beside.{beside}
use Rattle.place_laws.proofs.Coupling.{place_of, IsHeld, OnlyLast, Coupled}
use Rattle.place_laws.proofs.CoupledMoves.{Tells, service_at}
use Rattle.place_laws.proofs.CoupledOwners.{Knows}
use Rattle.place_laws.proofs.CoupledWalk.{Running, ticks_tell, fates_tell, shards_tell, replicas_tell, tells_moves}

-- a majority held a stamp before a step, in a run by these steps
pub record WasHeld (c : Config) (steps : List Step) (key : Key) (z : Carstamp) (step : ℕ) : Type 0 where
  pub before : List Step
  pub after : List Step
  pub split : steps ≡ before ++ after
  pub state : State
  pub leads : run c before ≡ Some state
  pub early : state.steps < step
  pub held : IsHeld state key z

was_more : (c : Config) (steps : List Step) (next : Step) (key : Key) (z : Carstamp) (k : ℕ) → WasHeld c steps key z k → WasHeld c (steps ++ next ∷ []) key z k
was_more c steps next key z k h = record {
  before = h.before;
  after = h.after ++ next ∷ [];
  split = ap (λ (xs : List Step). xs ++ next ∷ []) h.split ∙ append_assoc h.before h.after (next ∷ []);
  state = h.state;
  leads = h.leads;
  early = h.early;
  held = h.held;
}

-- what is known once stays known
coupled_was : (id : ℕ → ServiceId) (Was Were : Key → Carstamp → ℕ → Type 0) (s : State) → ((key : Key) (z : Carstamp) (k : ℕ) → Was key z k → Were key z k) → Coupled id Was s → Coupled id Were s
coupled_was id Was Were s f h = record {
  ops = h.ops;
  fences = h.fences;
  contexts = h.contexts;
  works = h.works;
  stage = h.stage;
  copy = h.copy;
  launched = λ a b key z x l e d m p. f key z (owner_at s b).dates.launched (h.launched a b key z x l e d m p);
}

-- within a step that no replica takes part in, replicas stay
pub record SameAs (u t : State) : Type 0 where
  pub replicas : t.replicas ≡ u.replicas
  pub steps : t.steps ≡ u.steps + 1

same_again : (u s t : State) → t.replicas ≡ s.replicas → t.steps ≡ s.steps → SameAs u s → SameAs u t
same_again u s t e f h = record { replicas = e ∙ h.replicas; steps = f ∙ h.steps }

same_sends : (u : State) (o : ℕ) (outs : List Out) (t : State) → SameAs u t → SameAs u (sends t o outs)
same_sends u o [] t h = h
same_sends u o (out ∷ outs) t h = same_sends u o outs (sends_one t o out) (record { replicas = h.replicas; steps = h.steps })

same_moves : (c : Config) (at : Reading) (u : State) → OwnerMoves c at (SameAs u) (λ t o. SameAs u t)
same_moves c at u = record {
  fates = λ t m f h. record { replicas = h.replicas; steps = h.steps };
  again = λ t o exchange slot target r d h. record { replicas = h.replicas; steps = h.steps };
  stages = λ t v d h. same_again u t v d.stores.replicas d.stores.steps h;
  dies = λ t v n x d h. same_again u t v d.stores.replicas d.stores.steps h;
  begins = λ t v w b d h. same_again u t v d.stores.replicas d.stores.steps h;
  rests = λ t v o w i b d h. same_again u t v d.stores.replicas d.stores.steps h;
  settles = λ t o slot a shards outcome i e d h. let v = same_sends u o (tells_decision a outcome shards) (listens t o slot) (record { replicas = h.replicas; steps = h.steps }) in record { replicas = v.replicas; steps = v.steps };
  settled = λ t o h. h;
  works = λ t v o w i b d h. same_again u t v d.stores.replicas d.stores.steps h;
  leaves = λ t v o w outs i b d h. same_sends u o outs v (same_again u t v d.stores.replicas d.stores.steps h);
  does = λ t v o w outs new b d h. same_sends u o outs v (same_again u t v d.stores.replicas d.stores.steps h);
}

-- what is told of calls keeps a stage to one call at a time
call_no_stub : (k : OwnerKind) (x : Op) → k ≡ kind.Calling x → is_stub k ≡ false
call_no_stub k x e = ap is_stub e

call_there : (s : State) (o : ℕ) (x : Op) → (owner_at s o).kind ≡ kind.Calling x → o < length s.owners
call_there s o x e = by_place (get_or_past s.owners o no_owner)
  where
    fence_no_call : kind.Fencing ≡ kind.Calling x → ⊥
    fence_no_call f = cc

    by_place : (o < length s.owners) ⊎ (owner_at s o ≡ no_owner) → o < length s.owners
    by_place (inl l) = l
    by_place (inr f) = absurd (fence_no_call (sym (ap (λ (w : Owner). w.kind) f) ∙ e))

call_numbered : (s : State) (o : ℕ) (x : Op) → Told s → (owner_at s o).kind ≡ kind.Calling x → 0 < o
call_numbered s o x h e = let b = begin_in s.history o (h.begun o ∙ ap is_call e) in (h.entries.begins b.at o _ _ b.says).numbered

told_alone : (s : State) → Told s → (a b : ℕ) (x y : Op) → a < b → place_of (owner_at s a) ≡ place_of (owner_at s b) → (owner_at s a).kind ≡ kind.Calling x → (owner_at s b).kind ≡ kind.Calling y → is_running (owner_at s a).fate ≡ true → ⊥
told_alone s h a b x y l p e f r = true≢false (sym r ∙ (h.turns a b (call_numbered s a x h e) l (call_no_stub (owner_at s a).kind x e) (call_no_stub (owner_at s b).kind y f) (call_there s b y f) p).0)

told_staged : (s : State) → Told s → (o : ℕ) (x : Op) → (owner_at s o).kind ≡ kind.Calling x → is_running (owner_at s o).fate ≡ true → place_of (owner_at s o) < length s.stages
told_staged s h o x e r = by_place (get_or_past s.stages (place_of (owner_at s o)) no_stage)
  where
    by_place : (place_of (owner_at s o) < length s.stages) ⊎ (get_or s.stages (place_of (owner_at s o)) no_stage ≡ no_stage) → place_of (owner_at s o) < length s.stages
    by_place (inl l) = l
    by_place (inr f) = absurd (none_is_not o (sym (ap (λ (w : Stage). w.owner) f) ∙ h.stages.running o r (call_no_stub (owner_at s o).kind x e)))

module _ (c : Config) (n : IsInOrder c) (q : KeepsToServices c) where
  -- before the first step
  fresh_context : (m left i : ℕ) → (get_or (stages_from c m left) i no_stage).context ≡ nothing_seen
  fresh_context m zero zero = refl
  fresh_context m zero (suc i) = refl
  fresh_context m (suc left) zero = refl
  fresh_context m (suc left) (suc i) = fresh_context (m + 1) left i

  start_owner : (o : ℕ) → owner_at (start c) o ≡ no_owner
  start_owner zero = refl
  start_owner (suc o) = refl

  no_call_there : (o : ℕ) (x : Op) → (owner_at (start c) o).kind ≡ kind.Calling x → ⊥
  no_call_there o x e = fence_no_call (ap (λ (w : Owner). w.kind) (sym (start_owner o)) ∙ e)
    where
      fence_no_call : kind.Fencing ≡ kind.Calling x → ⊥
      fence_no_call f = cc

  start_tells : Tells c n q (WasHeld c []) (start c)
  start_tells = record {
    ops = λ o x e. absurd (no_call_there o x e);
    fences = λ o e r. true≢false (sym r ∙ ap (λ (w : Owner). is_running w.fate) (start_owner o));
    contexts = λ place. subst (OnlyLast (service_at c q place)) (sym (fresh_context 1 _ place)) refl;
    works = λ o x e. absurd (no_call_there o x e);
    stage = λ a key z l. absurd (no_call_there a _ l.of_kind);
    copy = λ a b key z x l e d r. absurd (no_call_there b x d);
    launched = λ a b key z x l e d m p. absurd (no_call_there b x d);
  }

  -- a step
  module _ (done : List Step) (u : State) (leads : run c done ≡ Some u) (next : Step) (passed : refusal c u next ≡ None) where
    abbrev Was : Key → Carstamp → ℕ → Type 0
    Was = WasHeld c (done ++ next ∷ [])

    abbrev Agreed : State → Type 0
    Agreed s = Settled c n s × AllAgree s

    abbrev AgreedAt : State → ℕ → Type 0
    AgreedAt s o = SettledAt c n s o × AllAgree s

    now : (s : State) → SameAs u s → (key : Key) (z : Carstamp) → IsHeld s key z → Was key z s.steps
    now s h key z g = record {
      before = done;
      after = next ∷ [];
      split = refl;
      state = u;
      leads = leads;
      early = let e = h.steps in omega (arith, e);
      held = subst (λ (all : List (List (List RegReply))). is_held (get_or all (service_index key.service) []) key z ≡ true) h.replicas g;
    }

    knows_of : (s : State) → Told s → Agreed s → SameAs u s → Knows c n Was s
    knows_of s h a b = record { alone = told_alone s h; staged = told_staged s h; agree = a.1; settled = a.0; now = now s b }

    agreed_moves : OwnerMoves c next.at Agreed AgreedAt
    agreed_moves =
        (stacked c next.at (Settled c n) (SettledAt c n) AllAgree (λ s o. AllAgree s) ((settled_kept c n).keeps next.at)
        (under_more c next.at Awaiting (Settled c n) AwaitsAtRest (SettledAt c n) AllAgree (λ s o. AllAgree s) (λ s h. h.0.0.0.0.1) (λ s o h. h.0.0.0.0.1) (agree_under c next.at))).moves

    abbrev Known : State → Type 0
    Known s = (Stepping s × Agreed s) × SameAs u s

    abbrev KnownAt : State → ℕ → Type 0
    KnownAt s o = (AtRest s o × AgreedAt s o) × SameAs u s

    abbrev KnownDone : State → ℕ → Type 0
    KnownDone s o = (Reached s o × Agreed s) × SameAs u s

    known_moves : AllMoves c next.at IsRunning Fresh Known KnownAt KnownDone
    known_moves =
        beside c next.at IsRunning Fresh (λ s. Stepping s × Agreed s) (λ s o. AtRest s o × AgreedAt s o) (λ s o. Reached s o × Agreed s) (SameAs u) (λ s o. SameAs u s)
        (beside c next.at IsRunning Fresh Stepping AtRest Reached Agreed AgreedAt (told_keeps c next.at).moves agreed_moves) (same_moves c next.at u)

    rest_agreed : (s : State) (o : ℕ) → AgreedAt s o → Agreed s
    rest_agreed s o h = (agreed_moves.settled s o h)

    moves : AllMoves c next.at IsRunning Fresh (λ s. Known s × Tells c n q Was s) (λ s o. KnownAt s o × Running c n q Was s o) (λ s o. KnownDone s o × Running c n q Was s o)
    moves =
        tells_moves c n q Was next.at IsRunning Fresh Known KnownAt KnownDone known_moves (λ f e. e)
        (λ s h. knows_of s h.0.0.told h.0.1 h.1) (λ s o h. knows_of s h.0.0.all.told (rest_agreed s o h.0.1) h.1) (λ s o h. knows_of s h.0.0.told h.0.1 h.1)

    abbrev ticked : State
    ticked = ticks u next.at

    serves_tell : Tells c n q Was ticked → Served c next.at ticked (stepped c u next) → Tells c n q Was (stepped c u next)
    serves_tell h d = subst (Tells c n q Was) (sym d.same) (by_target (message_at t.net d.number).envelope.target refl)
      where
        t : State
        t = marks_message ticked d.number d.fate

        at_t : Tells c n q Was t
        at_t = fates_tell c n q Was ticked d.number d.fate h

        by_target : (target : Target) → (message_at (marks_message ticked d.number d.fate).net d.number).envelope.target ≡ target → Tells c n q Was (request_comes (marks_message ticked d.number d.fate) d.number (message_at (marks_message ticked d.number d.fate).net d.number).envelope.owner next.at target d.request)
        by_target (Shard shard) e = shards_tell c n q Was (marks_message ticked d.number d.fate) d.number shard next.at.latest d.request at_t
        by_target (Replica service replica) e = replicas_tell c n q Was (marks_message ticked d.number d.fate) d.number service replica d.request (record { numbered = d.sent.numbered; sent = d.sent.sent; asks = d.asks; to = e }) at_t

    step_tells : Tells c n q (WasHeld c done) u → Tells c n q Was (stepped c u next)
    step_tells h = by_served (all_or_serves c next.at IsRunning Fresh (λ s. Known s × Tells c n q Was s) (λ s o. KnownAt s o × Running c n q Was s o) (λ s o. KnownDone s o × Running c n q Was s o) moves ticked next.kind (passes c u next passed).kind fresh (known, tells))
      where
        told : AllTold u
        told = told_run c done u leads

        tells : Tells c n q Was ticked
        tells = ticks_tell c n q Was u next.at (coupled_was (service_at c q) (WasHeld c done) Was u (was_more c done next) h)

        fresh : Fresh ticked
        fresh = record { ended = λ o. let e = (told.told.fits o).dates.ended in omega (arith, e) }

        known : Known ticked
        known = ((told_ticks u next.at told, ((settled_kept c n).ticked u next.at (settled_run c n done u leads), record { each = (agree_run c done u leads).each })), record { replicas = refl; steps = refl })

        by_served : (Known (stepped c u next) × Tells c n q Was (stepped c u next)) ⊎ Served c next.at ticked (stepped c u next) → Tells c n q Was (stepped c u next)
        by_served (inl g) = g.1
        by_served (inr d) = serves_tell tells d

  -- a run that goes on
  tells_from : (rest done : List Step) (u s : State) → run c done ≡ Some u → run_from c u rest ≡ Some s → Tells c n q (WasHeld c done) u → Tells c n q (WasHeld c (done ++ rest)) s
  tells_from [] done u s e f h = subst (λ (steps : List Step). Tells c n q (WasHeld c steps) s) (sym (append-nil done)) (subst (Tells c n q (WasHeld c done)) (run_none c u s f) h)
  tells_from (next ∷ rest) done u s e f h =
      let r = run_rest c u next rest s f in
      subst (λ (steps : List Step). Tells c n q (WasHeld c steps) s) (append_assoc done (next ∷ []) rest)
      (tells_from rest (done ++ next ∷ []) (stepped c u next) s (run_more c done u next e r.0) r.1 (step_tells done u e next r.0 h))

  pub tells_run : (steps : List Step) (s : State) → run c steps ≡ Some s → Tells c n q (WasHeld c steps) s
  unfolding run
  tells_run steps s e = tells_from steps [] (start c) s (run_is c [] (start c) (run_ends c (start c))) e start_tells
