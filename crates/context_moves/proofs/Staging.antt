-- Stages and pipes change, and owners stay.
use Rattle.std.proofs.Common.{◌≡◌, ℕ, ◌-◌, ◌<◌, ◌≤◌, ◌⊎◌, inl, inr, Bool, true, false, List, length, get_or, refl, sym, ap, ◌∙◌, subst, arith}
use Rattle.std.proofs.Math.ListN.{set, length-set}
use Rattle.std.proofs.lemmas.Bool.{true≢false, cases_eq}
use Rattle.pipeline_lang.specs.declared.config.Config.{Config}
use Rattle.rss_model.specs.declared.history.Entry.{Entry}
use Rattle.rss_model.specs.declared.history.Token.TheVariants as token
use Rattle.rss_model.specs.Scripts.{is_spawned}
use Rattle.rss_tables.specs.Pipes.{Pipe, opening_pipe}
use Rattle.rss_machine.specs.Standing.{is_running, is_over}
use Rattle.rss_machine.specs.State.{State, Stage, no_stage, stage_at, owner_at}
use Rattle.rss_machine.specs.declared.state.Life.TheVariants.{Unborn}
use Rattle.world_laws.specs.Calls.{is_stub, StagesOwn}
use Rattle.world_laws.proofs.Looks.{looks, some_is_not}
use Rattle.world_laws.proofs.StageMoves.{Making}
use Rattle.order_laws.specs.CallsBehind.{CallsBehind}
use Rattle.coupling_laws.specs.Calls.{View}
use Rattle.coupling_laws.specs.Covers.{Covers}
use Rattle.coupling_laws.proofs.Places.{fewer}
use Rattle.context_moves.specs.Covering.{OwnerCovers, StageCovers, PipeCovers, IsGiven, Parts, Covering}
use Rattle.context_moves.proofs.Later.{view_same, owner_later, over_not_live, not_more}

-- stages that have the same context, life and stub
pub record AlikeStages (xs ys : List Stage) : Type 0 where
  pub context : (i : ℕ) → (get_or ys i no_stage).context ≡ (get_or xs i no_stage).context
  pub life : (i : ℕ) → (get_or ys i no_stage).life ≡ (get_or xs i no_stage).life
  pub stub : (i : ℕ) → (get_or ys i no_stage).stub ≡ (get_or xs i no_stage).stub
  pub long : length ys ≡ length xs

pub alike_set : (xs : List Stage) (i : ℕ) (x : Stage) → x.context ≡ (get_or xs i no_stage).context → x.life ≡ (get_or xs i no_stage).life → x.stub ≡ (get_or xs i no_stage).stub → AlikeStages xs (set xs i x)
alike_set xs i x a b d = record { context = λ j. at_context j; life = λ j. at_life j; stub = λ j. at_stub j; long = length-set xs i x }
  where
    at_context : (j : ℕ) → (get_or (set xs i x) j no_stage).context ≡ (get_or xs j no_stage).context
    at_context j = grind (arith, looks, a)

    at_life : (j : ℕ) → (get_or (set xs i x) j no_stage).life ≡ (get_or xs j no_stage).life
    at_life j = grind (arith, looks, b)

    at_stub : (j : ℕ) → (get_or (set xs i x) j no_stage).stub ≡ (get_or xs j no_stage).stub
    at_stub j = grind (arith, looks, d)

-- tables of which the one has no more behind stages, nor behind messages that are no chunks
pub record Fewer (b b' : CallsBehind) : Type 0 where
  pub stage : (j a : ℕ) → b'.stage j a ≡ b.stage j a
  pub spawn : (j a : ℕ) → b'.message (token.Spawn j) a ≡ b.message (token.Spawn j) a
  pub exit : (j a : ℕ) → b'.message (token.Exit j) a ≡ true → b.stage j a ≡ true

pub same_fewer : (c : Config) (v : View) (b : CallsBehind) (s : State) → Covering c v b s → Fewer b b
same_fewer c v b s k = record { stage = λ j a. refl; spawn = λ j a. refl; exit = λ j a. (k.stages j).exit a }

pub alike_parts : (c : Config) (v : View) (b b' : CallsBehind) (s : State) (stages' : List Stage) (pipes' : List Pipe) (h' : List Entry) → AlikeStages s.stages stages' → Fewer b b' → ((j : ℕ) → IsGiven s.history j → IsGiven h' j)
    → ((p : ℕ) → PipeCovers v b' p (get_or pipes' (p - 1) opening_pipe)) → ((p number a : ℕ) → p - 1 < length pipes' → (get_or pipes' (p - 1) opening_pipe).next ≤ number → b'.message (token.Chunk p number) a ≡ false)
    → Covering c v b s → Parts c v b' s.owners stages' pipes' h'
alike_parts c v b b' s stages' pipes' h' e f g pipes unused k = record {
  owners = λ i. owner_later v v b b' s.stages stages' (owner_at s i) (view_same v) (λ j a m l z. sym (f.stage j a) ∙ z) (λ m. ap is_over (e.life ((owner_at s i).stage - 1)) ∙ m) (k.owners i);
  stages = λ j.
      let old = k.stages j in
      record {
        context = subst (Covers v (b'.stage j)) (sym (e.context (j - 1))) (fewer v (b.stage j) (b'.stage j) (stage_at s j).context (λ a z. sym (f.stage j a) ∙ z) old.context);
        unborn = λ m. let q = old.unborn (sym (e.life (j - 1)) ∙ m) in (λ a. f.stage j a ∙ q.0 a, λ a. f.spawn j a ∙ q.1 a);
        born = λ l i. born j (old.born l i);
        stub_of = λ o m. old.stub_of o (sym (e.stub (j - 1)) ∙ m);
        exit = λ a m. f.stage j a ∙ f.exit j a m;
      };
  pipes = pipes;
  unused = unused;
  long = e.long ∙ k.long;
}
  where
    born : (j : ℕ) → ((stage_at s j).life ≡ Unborn) ⊎ IsGiven s.history j → ((get_or stages' (j - 1) no_stage).life ≡ Unborn) ⊎ IsGiven h' j
    born j (inl m) = inl (e.life (j - 1) ∙ m)
    born j (inr m) = inr (g j m)

-- a stage changes that is there
module _ (c : Config) (v : View) (b b' : CallsBehind) (s : State) (n : ℕ) (x : Stage) (pipes' : List Pipe) (h' : List Entry) (there : n - 1 < length s.stages)
    (life : is_over (stage_at s n).life ≡ true → is_over x.life ≡ true) (unborn : x.life ≡ Unborn → ⊥) (stub : x.stub ≡ (stage_at s n).stub)
    (others : (j a : ℕ) → (j - 1 ≡ n - 1 → ⊥) → b'.stage j a ≡ true → b.stage j a ≡ true) (own : (j : ℕ) → j - 1 ≡ n - 1 → Covers v (b'.stage j) x.context)
    (free : (i : ℕ) → (is_running (owner_at s i).fate ≡ true) ⊎ (is_stub (owner_at s i).kind ≡ true) → (owner_at s i).stage - 1 ≡ n - 1 → (j a : ℕ) → j - 1 ≡ n - 1 → b'.stage j a ≡ true → b.stage j a ≡ true)
    (exit : (j a : ℕ) → b'.message (token.Exit j) a ≡ true → b'.stage j a ≡ true) (spawned : (j a : ℕ) → (j - 1 ≡ n - 1 → ⊥) → b'.message (token.Spawn j) a ≡ true → b.message (token.Spawn j) a ≡ true)
    (born : (j : ℕ) → j - 1 ≡ n - 1 → 0 < j → is_spawned c j ≡ true → IsGiven h' j) (given : (j : ℕ) → IsGiven s.history j → IsGiven h' j)
    (pipes : (p : ℕ) → PipeCovers v b' p (get_or pipes' (p - 1) opening_pipe)) (unused : (p number a : ℕ) → p - 1 < length pipes' → (get_or pipes' (p - 1) opening_pipe).next ≤ number → b'.message (token.Chunk p number) a ≡ false) (k : Covering c v b s) where
  abbrev stages' : List Stage
  stages' = set s.stages (n - 1) x

  at_own : (j : ℕ) → j - 1 ≡ n - 1 → get_or stages' (j - 1) no_stage ≡ x
  at_own j e = grind (arith, looks, there, e)

  elsewhere : (j : ℕ) → (j - 1 ≡ n - 1 → ⊥) → get_or stages' (j - 1) no_stage ≡ stage_at s j
  elsewhere j e = grind (arith, looks, e)

  over_stays : (j : ℕ) → is_over (stage_at s j).life ≡ true → is_over (get_or stages' (j - 1) no_stage).life ≡ true
  over_stays j m = by_place (cases_eq (j - 1) (n - 1))
    where
      by_place : (j - 1 ≡ n - 1) ⊎ (j - 1 ≡ n - 1 → ⊥) → is_over (get_or stages' (j - 1) no_stage).life ≡ true
      by_place (inl e) = ap (λ (y : Stage). is_over y.life) (at_own j e) ∙ life (ap (λ (i : ℕ). is_over (get_or s.stages i no_stage).life) (sym e) ∙ m)
      by_place (inr e) = ap (λ (y : Stage). is_over y.life) (elsewhere j e) ∙ m

  all_owners : (i : ℕ) → OwnerCovers v b' stages' (owner_at s i)
  all_owners i = owner_later v v b b' s.stages stages' (owner_at s i) (view_same v) (λ j a m e z. by_place j a m e z (cases_eq (j - 1) (n - 1))) (over_stays (owner_at s i).stage) (k.owners i)
    where
      by_place : (j a : ℕ) → (is_running (owner_at s i).fate ≡ true) ⊎ (is_stub (owner_at s i).kind ≡ true) → j - 1 ≡ (owner_at s i).stage - 1 → b'.stage j a ≡ true → (j - 1 ≡ n - 1) ⊎ (j - 1 ≡ n - 1 → ⊥) → b.stage j a ≡ true
      by_place j a m e z (inl f) = free i m (sym e ∙ f) j a f z
      by_place j a m e z (inr f) = others j a f z

  all_stages : (j : ℕ) → StageCovers c v b' h' s.owners j (get_or stages' (j - 1) no_stage)
  all_stages j = by_place (cases_eq (j - 1) (n - 1))
    where
      old : StageCovers c v b s.history s.owners j (stage_at s j)
      old = k.stages j

      by_place : (j - 1 ≡ n - 1) ⊎ (j - 1 ≡ n - 1 → ⊥) → StageCovers c v b' h' s.owners j (get_or stages' (j - 1) no_stage)
      by_place (inl e) = subst (StageCovers c v b' h' s.owners j) (sym (at_own j e)) record {
        context = own j e;
        unborn = λ m. absurd (unborn m);
        born = λ l i. inr (born j e l i);
        stub_of = λ o m. old.stub_of o (ap (λ (i : ℕ). (get_or s.stages i no_stage).stub) e ∙ (sym stub ∙ m));
        exit = exit j;
      }
      by_place (inr e) = subst (StageCovers c v b' h' s.owners j) (sym (elsewhere j e)) record {
        context = fewer v (b.stage j) (b'.stage j) (stage_at s j).context (λ a. others j a e) old.context;
        unborn = λ m. let q = old.unborn m in (λ a. not_more (b'.stage j a) (b.stage j a) (others j a e) (q.0 a), λ a. not_more (b'.message (token.Spawn j) a) (b.message (token.Spawn j) a) (spawned j a e) (q.1 a));
        born = λ l i. old_born (old.born l i);
        stub_of = old.stub_of;
        exit = exit j;
      }
        where
          old_born : ((stage_at s j).life ≡ Unborn) ⊎ IsGiven s.history j → ((stage_at s j).life ≡ Unborn) ⊎ IsGiven h' j
          old_born (inl m) = inl m
          old_born (inr m) = inr (given j m)

  pub stage_changes : Parts c v b' s.owners stages' pipes' h'
  stage_changes = record { owners = all_owners; stages = all_stages; pipes = pipes; unused = unused; long = length-set s.stages (n - 1) x ∙ k.long }

-- with no call or fence statement under way, no owner of a stage that lives runs, nor is its stub
pub nobody_there : (c : Config) (v : View) (b : CallsBehind) (s : State) (n : ℕ) → Making s n → StagesOwn s → Covering c v b s → (i : ℕ) → (is_running (owner_at s i).fate ≡ true) ⊎ (is_stub (owner_at s i).kind ≡ true) → (owner_at s i).stage - 1 ≡ n - 1 → ⊥
nobody_there c v b s n m owns k i y p = by_kind (is_stub (owner_at s i).kind) refl y
  where
    place : stage_at s (owner_at s i).stage ≡ stage_at s n
    place = ap (λ (z : ℕ). get_or s.stages z no_stage) p

    by_kind : (z : Bool) → is_stub (owner_at s i).kind ≡ z → (is_running (owner_at s i).fate ≡ true) ⊎ (is_stub (owner_at s i).kind ≡ true) → ⊥
    by_kind true e y = over_not_live (stage_at s n).life (ap (λ (z : Stage). is_over z.life) (sym place) ∙ (k.owners i).dead e) m.live
    by_kind false e (inl y) = some_is_not i (sym (owns.running i y e) ∙ (ap (λ (z : Stage). z.owner) place ∙ m.nobody))
    by_kind false e (inr y) = true≢false (sym y ∙ e)
