-- What stages, owners and the history tell of calls, in every run.
use Rattle.std.proofs.Common.{◌≡◌, ℕ, ◌<◌, ◌⊎◌, inl, inr, ◌-◌, Bool, true, false, List, [], ◌∷◌, ◌++◌, length, get_or, Option, Some, None, refl, ap, sym, ◌∙◌, subst, arith}
use Rattle.std.proofs.Math.ListN.{set}
use Rattle.std.proofs.lemmas.List.{get_or-set_same}
use Rattle.pipeline_lang.specs.declared.config.Config.{Config}
use Rattle.rss_model.specs.declared.history.Entry.{Entry}
use Rattle.rss_model.specs.declared.history.Entry.TheVariants.{Give, Get, Over}
use Rattle.rss_model.specs.declared.history.How.TheVariants.{Exited}
use Rattle.rss_model.specs.declared.history.Token.TheVariants as token
use Rattle.rss_tables.specs.Outs.{Out}
use Rattle.rss_machine.specs.Moves.{sends_one, sends, opens_call, opens_fence}
use Rattle.rss_machine.specs.Slots.{slot_in}
use Rattle.rss_machine.specs.Standing.{is_live, is_running}
use Rattle.rss_machine.specs.State.{State, Stage, Owner, owner_at, stage_at, pipe_at, no_owner, no_stage, no_currents}
use Rattle.rss_machine.specs.declared.session.Session.TheVariants as session
use Rattle.rss_machine.specs.declared.state.OwnerFate.{OwnerFate}
use Rattle.world_laws.specs.Calls.{StagesOwn}
use Rattle.world_laws.proofs.Doings.{Beginning, calls, fences}
use Rattle.world_laws.proofs.Goes.{Finished, Goes, no_rounds, finished_same}
use Rattle.world_laws.proofs.Looks.{looks, none_is_not}
use Rattle.world_laws.proofs.OwnerFits.{fits_open}
use Rattle.world_laws.proofs.SessionMoves.{session_at}
use Rattle.world_laws.proofs.StageMoves.{StageMove, counts, goes_to, spawns_one, gets, takes_one, puts_one, closes_one, cuts_off_one, is_over, exit_given, BeginNotes, Quiet}
use Rattle.world_laws.proofs.StagesOwned.{same_as, stages_alike, stages_moved, running_there}
use Rattle.world_laws.proofs.Told.{Told, says_nothing, each_set, each_grow, told_goes, told_stages, told_silent, told_one}
use Rattle.world_laws.proofs.ToldMoves.{Fresh, told_opens_call, told_opens_fence}

abbrev pub Running : OwnerFate → Type 0
Running f = is_running f ≡ true

-- what is told of calls, with all rounds that are done
pub record AllTold (s : State) : Type 0 where
  pub told : Told s
  pub done : (o : ℕ) → Finished (owner_at s o)

-- while a step is made
pub record Stepping (s : State) : Type 0 where
  pub counted : 0 < s.steps
  pub told : Told s
  pub done : (o : ℕ) → Finished (owner_at s o)

-- with an owner at rest
pub record AtRest (s : State) (o : ℕ) : Type 0 where
  pub all : Stepping s
  pub runs : is_running (owner_at s o).fate ≡ true
  pub idle : session_at s o ≡ session.Idle

-- with an owner whose call's rounds are done
pub record Reached (s : State) (o : ℕ) : Type 0 where
  pub counted : 0 < s.steps
  pub told : Told s
  pub done : (i : ℕ) → (i ≡ o → ⊥) → Finished (owner_at s i)

pub set_done : (s t : State) (o : ℕ) (w : Owner) → t.owners ≡ set s.owners o w → Finished w → ((i : ℕ) → Finished (owner_at s i)) → (i : ℕ) → Finished (owner_at t i)
set_done s t o w e f h = subst (λ (owners : List Owner). (i : ℕ) → Finished (get_or owners i no_owner)) (sym e) (each_set (λ i v. Finished v) s.owners o w f h)

pub grow_done : (s t : State) (w : Owner) → t.owners ≡ s.owners ++ w ∷ [] → Finished w → ((i : ℕ) → Finished (owner_at s i)) → (i : ℕ) → Finished (owner_at t i)
grow_done s t w e f h = subst (λ (owners : List Owner). (i : ℕ) → Finished (get_or owners i no_owner)) (sym e) (each_grow (λ i v. Finished v) s.owners w f h)

pub same_done : (s t : State) → t.owners ≡ s.owners → ((i : ℕ) → Finished (owner_at s i)) → (i : ℕ) → Finished (owner_at t i)
same_done s t e h = subst (λ (owners : List Owner). (i : ℕ) → Finished (get_or owners i no_owner)) (sym e) h

-- an owner that runs goes on
pub goes_step : (s t : State) (o : ℕ) (w : Owner) → t.steps ≡ s.steps → t.stages ≡ s.stages → t.history ≡ s.history → t.owners ≡ set s.owners o w → is_running (owner_at s o).fate ≡ true → Goes s.steps (owner_at s o) w → Stepping s → Stepping t
goes_step s t o w a b d e r g h = record { counted = subst (λ (n : ℕ). 0 < n) (sym a) h.counted; told = told_goes s t o w a b d e r g.stays g.fits h.told; done = set_done s t o w e g.done h.done }

pub sends_step : (o : ℕ) (outs : List Out) (s : State) → is_running (owner_at s o).fate ≡ true → Stepping s → Stepping (sends s o outs)
sends_step o [] s r h = h
sends_step o (out ∷ outs) s r h = sends_step o outs (sends_one s o out) (fate_one s o out ∙ r) (record { counted = h.counted; told = told_one o s out r h.told; done = set_done s (sends_one s o out) o _ refl (finished_same (owner_at s o) _ refl refl (h.done o)) h.done })
  where
    fate_one : (s : State) (o : ℕ) (out : Out) → is_running (owner_at (sends_one s o out) o).fate ≡ is_running (owner_at s o).fate
    fate_one s o out = grind (arith, looks)

pub own_at : (s t : State) (o : ℕ) (w : Owner) → is_running (owner_at s o).fate ≡ true → t.owners ≡ set s.owners o w → owner_at t o ≡ w
own_at s t o w r e = ap (λ (owners : List Owner). get_or owners o no_owner) e ∙ get_or-set_same s.owners o w no_owner (running_there s o r)

-- and sends requests
pub goes_out : (s t : State) (o : ℕ) (w : Owner) (outs : List Out) → t.steps ≡ s.steps → Quiet s t → t.owners ≡ set s.owners o w → is_running (owner_at s o).fate ≡ true → Goes s.steps (owner_at s o) w → Stepping s → Stepping (sends t o outs)
goes_out s t o w outs a q e r g h =
    sends_step o outs t (ap (λ (v : Owner). is_running v.fate) (own_at s t o w r e) ∙ (ap is_running g.stays.fate ∙ r)) (goes_step s t o w a q.stages q.history e r g h)

-- owners stay
pub stays_step : (s t : State) → t.steps ≡ s.steps → t.history ≡ s.history → t.owners ≡ s.owners → StagesOwn t → Stepping s → Stepping t
stays_step s t a b e g h = record { counted = subst (λ (n : ℕ). 0 < n) (sym a) h.counted; told = told_stages s t a b e g h.told; done = same_done s t e h.done }

-- an owner that does not run awaits nothing
pub current_runs : (s : State) (o slot exchange : ℕ) → slot_in (owner_at s o).currents exchange ≡ Some slot → Stepping s → is_running (owner_at s o).fate ≡ true
current_runs s o slot exchange e h = by_running (is_running (owner_at s o).fate) refl
  where
    none_in : (exchange : ℕ) → slot_in no_currents exchange ≡ None
    none_in exchange = refl

    by_running : (b : Bool) → is_running (owner_at s o).fate ≡ b → b ≡ true
    by_running true r = refl
    by_running false r = absurd (none_is_not slot (sym (none_in exchange) ∙ (ap (λ (x : List (Option ℕ)). slot_in x exchange) (sym ((h.told.fits o).currents r)) ∙ e)))

-- stages and pipes
moved_one : (s t : State) (n : ℕ) (x : Stage) → t.owners ≡ s.owners → t.stages ≡ set s.stages (n - 1) x → x.owner ≡ (stage_at s n).owner → ((o : ℕ) → (stage_at s n).owner ≡ Some o → is_live (stage_at s n).life ≡ true → is_live x.life ≡ true) → StagesOwn s → StagesOwn t
moved_one s t n x e d a l h = stages_moved s t e (λ m. ap (λ (stages : List Stage). (get_or stages (m - 1) no_stage).owner) d ∙ owner s n x a m) (λ m o p q. ap (λ (stages : List Stage). is_live (get_or stages (m - 1) no_stage).life) d ∙ life s n x l m o p q) h
  where
    owner : (s : State) (n : ℕ) (x : Stage) → x.owner ≡ (stage_at s n).owner → (m : ℕ) → (get_or (set s.stages (n - 1) x) (m - 1) no_stage).owner ≡ (stage_at s m).owner
    owner s n x a m = by_place (at s.stages (n - 1) x (m - 1))
      where
        at : (xs : List Stage) (i : ℕ) (x : Stage) (j : ℕ) → ((get_or (set xs i x) j no_stage ≡ x) × (j ≡ i)) ⊎ (get_or (set xs i x) j no_stage ≡ get_or xs j no_stage)
        at xs i x j = grind (arith, looks)

        by_place : ((get_or (set s.stages (n - 1) x) (m - 1) no_stage ≡ x) × (m - 1 ≡ n - 1)) ⊎ (get_or (set s.stages (n - 1) x) (m - 1) no_stage ≡ get_or s.stages (m - 1) no_stage) → (get_or (set s.stages (n - 1) x) (m - 1) no_stage).owner ≡ (stage_at s m).owner
        by_place (inl e) = ap (λ (y : Stage). y.owner) e.0 ∙ (a ∙ ap (λ (i : ℕ). (get_or s.stages i no_stage).owner) (sym e.1))
        by_place (inr e) = ap (λ (y : Stage). y.owner) e

    life : (s : State) (n : ℕ) (x : Stage) → ((o : ℕ) → (stage_at s n).owner ≡ Some o → is_live (stage_at s n).life ≡ true → is_live x.life ≡ true) → (m o : ℕ) → (stage_at s m).owner ≡ Some o → is_live (stage_at s m).life ≡ true → is_live (get_or (set s.stages (n - 1) x) (m - 1) no_stage).life ≡ true
    life s n x l m o p q = by_place (at s.stages (n - 1) x (m - 1))
      where
        at : (xs : List Stage) (i : ℕ) (x : Stage) (j : ℕ) → ((get_or (set xs i x) j no_stage ≡ x) × (j ≡ i)) ⊎ (get_or (set xs i x) j no_stage ≡ get_or xs j no_stage)
        at xs i x j = grind (arith, looks)

        by_place : ((get_or (set s.stages (n - 1) x) (m - 1) no_stage ≡ x) × (m - 1 ≡ n - 1)) ⊎ (get_or (set s.stages (n - 1) x) (m - 1) no_stage ≡ get_or s.stages (m - 1) no_stage) → is_live (get_or (set s.stages (n - 1) x) (m - 1) no_stage).life ≡ true
        by_place (inl e) = ap (λ (y : Stage). is_live y.life) e.0 ∙ l o (ap (λ (i : ℕ). (get_or s.stages i no_stage).owner) (sym e.1) ∙ p) (ap (λ (i : ℕ). is_live (get_or s.stages i no_stage).life) (sym e.1) ∙ q)
        by_place (inr e) = ap (λ (y : Stage). is_live y.life) e ∙ q

pub silent_step : (s : State) (e : Entry) → says_nothing e ≡ true → Stepping s → Stepping (record s { history = s.history ++ e ∷ [] })
silent_step s e n h = record { counted = h.counted; told = told_silent s (record s { history = s.history ++ e ∷ [] }) e n refl refl refl refl h.told; done = h.done }

-- a stage changes, and has the same under way
moved_step : (s t : State) (n : ℕ) (x : Stage) → t.steps ≡ s.steps → t.history ≡ s.history → t.owners ≡ s.owners → t.stages ≡ set s.stages (n - 1) x → x.owner ≡ (stage_at s n).owner → ((o : ℕ) → (stage_at s n).owner ≡ Some o → is_live (stage_at s n).life ≡ true → is_live x.life ≡ true) → Stepping s → Stepping t
moved_step s t n x a b e d k l h = stays_step s t a b e (moved_one s t n x e d k l h.told.stages) h

pub pipes_step : (s t : State) → t.steps ≡ s.steps → t.history ≡ s.history → t.owners ≡ s.owners → t.stages ≡ s.stages → Stepping s → Stepping t
pipes_step s t a b e d h = stays_step s t a b e (stages_alike s t d (λ o. inl (same_as (owner_at s o) (owner_at t o) (ap (λ (owners : List Owner). get_or owners o no_owner) e))) h.told.stages) h

pub two_more : (h : List Entry) (a b : Entry) → (h ++ a ∷ []) ++ b ∷ [] ≡ h ++ a ∷ b ∷ []
two_more [] a b = refl
two_more (e ∷ h) a b = ap (λ (l : List Entry). e ∷ l) (two_more h a b)

pub stage_step : (c : Config) (s t : State) → StageMove c s t → Stepping s → Stepping t
stage_step c s _ (counts n) h = moved_step s _ n _ refl refl refl refl refl (λ o p q. q) h
stage_step c s _ (goes_to n cursor) h = moved_step s _ n _ refl refl refl refl refl (λ o p q. q) h
stage_step c s _ (spawns_one n child cursor m e) h = moved_step w _ child _ refl refl refl refl (same child) (λ o p q. refl) (moved_step u w n (record (stage_at s n) { cursor = cursor }) refl refl refl refl refl (λ o p q. q) two)
  where
    u : State
    u = record s { history = s.history ++ Give n (token.Spawn child) ∷ Get child (token.Spawn child) ∷ [] }

    w : State
    w = record u { stages = set s.stages (n - 1) (record (stage_at s n) { cursor = cursor }) }

    two : Stepping u
    two = subst (λ (l : List Entry). Stepping (record s { history = l })) (two_more s.history (Give n (token.Spawn child)) (Get child (token.Spawn child))) (silent_step (record s { history = s.history ++ Give n (token.Spawn child) ∷ [] }) (Get child (token.Spawn child)) refl (silent_step s (Give n (token.Spawn child)) refl h))

    same : (m : ℕ) → (stage_at s m).owner ≡ (stage_at w m).owner
    same m = grind (arith, looks)
stage_step c s _ (gets n t seen cursor m l) h = moved_step (record s { history = s.history ++ Get n t ∷ [] }) _ n _ refl refl refl refl refl (λ o p q. q) (silent_step s (Get n t) refl h)
stage_step c s _ (takes_one n v p chunk chunks cursor m e d) h = moved_step (record s { history = s.history ++ Get n (token.Chunk p chunk.number) ∷ [] }) _ n _ refl refl refl refl refl (λ o p q. q) (silent_step s (Get n (token.Chunk p chunk.number)) refl h)
stage_step c s _ (puts_one n p value dropped cursor m) h = moved_step (record s { history = s.history ++ Give n (token.Chunk p (pipe_at s p).next) ∷ [] }) _ n _ refl refl refl refl refl (λ o p q. q) (silent_step s (Give n (token.Chunk p (pipe_at s p).next)) refl h)
stage_step c s _ (closes_one n p seen g) h = pipes_step (record s { history = s.history ++ Give n (token.Chunk p (pipe_at s p).next) ∷ [] }) _ refl refl refl refl (silent_step s (Give n (token.Chunk p (pipe_at s p).next)) refl h)
stage_step c s _ (cuts_off_one p) h = pipes_step s _ refl refl refl refl h
stage_step c s _ (is_over n m) h = moved_step (record s { history = s.history ++ Over n Exited ∷ [] }) _ n _ refl refl refl refl refl (λ o p q. absurd (none_is_not o (sym m.nobody ∙ p))) (silent_step s (Over n Exited) refl h)
stage_step c s _ (exit_given n seen g) h = silent_step s (Give n (token.Exit n)) refl h

-- calls and fence statements begin
pub begins_step : (c : Config) (s t : State) (w : Owner) (b : Beginning c s w) → BeginNotes c s w b t → Fresh s → Stepping s → AtRest t (length s.owners)
begins_step c s t w (calls n x e) q f h = subst (λ (u : State). AtRest u (length s.owners)) (sym q.1) record {
  all = record {
    counted = h.counted;
    told = told_opens_call s (opens_call s n x) n w _ x (record { making = q.0; owner = refl; life = refl; stages = refl; owners = refl; of_stage = refl; running = refl; of_kind = refl }) f refl refl refl refl (fits_open s.steps w refl refl refl) h.told;
    done = grow_done s (opens_call s n x) w refl (no_rounds w refl) h.done;
  };
  runs = ap (λ (v : Owner). is_running v.fate) (new s w);
  idle = ap (λ (v : Owner). v.session) (new s w);
}
  where
    new : (s : State) (w : Owner) → get_or (s.owners ++ w ∷ []) (length s.owners) no_owner ≡ w
    new s w = grind (arith, looks)
begins_step c s t w (fences n) q f h = subst (λ (u : State). AtRest u (length s.owners)) (sym q.1) record {
  all = record {
    counted = h.counted;
    told = told_opens_fence s (opens_fence s n) n w _ (record { making = q.0.0; owner = refl; life = refl; stages = refl; owners = refl; of_stage = refl; running = refl; of_kind = refl }) f refl refl refl refl (fits_open s.steps w refl refl refl) h.told;
    done = grow_done s (opens_fence s n) w refl (no_rounds w refl) h.done;
  };
  runs = ap (λ (v : Owner). is_running v.fate) (new s w);
  idle = ap (λ (v : Owner). v.session) (new s w);
}
  where
    new : (s : State) (w : Owner) → get_or (s.owners ++ w ∷ []) (length s.owners) no_owner ≡ w
    new s w = grind (arith, looks)
