-- A call or a fence statement ends, and its stage goes on with another context.
use Rattle.std.proofs.Common.{◌≡◌, ℕ, ◌-◌, ◌<◌, ◌⊎◌, inl, inr, Bool, true, false, List, length, get_or, None, refl, sym, ap, ◌∙◌, subst, arith}
use Rattle.std.proofs.Math.ListN.{set, length-set}
use Rattle.std.proofs.lemmas.Bool.{true≢false, false≢true, cases_eq}
use Rattle.causal_context.specs.Seen.{Seen}
use Rattle.pipeline_lang.specs.declared.config.Config.{Config}
use Rattle.rss_model.specs.declared.history.Entry.{Entry}
use Rattle.rss_model.specs.declared.history.Token.{Token}
use Rattle.rss_model.specs.declared.history.Token.TheVariants as token
use Rattle.rss_model.specs.Cursor.{Cursor}
use Rattle.rss_machine.specs.Moves.{closed}
use Rattle.rss_machine.specs.Standing.{is_running, is_live, is_over}
use Rattle.rss_machine.specs.State.{State, Stage, Owner, no_stage, no_owner, stage_at, owner_at}
use Rattle.rss_machine.specs.declared.state.Life.{Life}
use Rattle.rss_machine.specs.declared.state.Life.TheVariants.{Unborn}
use Rattle.rss_machine.specs.declared.state.OwnerFate.TheVariants.{Ended}
use Rattle.world_laws.specs.Calls.{is_stub, StagesOwn}
use Rattle.world_laws.proofs.Looks.{looks, get_or_past, some_is}
use Rattle.world_laws.proofs.Told.{each_set}
use Rattle.order_laws.specs.CallsBehind.{CallsBehind}
use Rattle.coupling_laws.specs.Calls.{View, Grows}
use Rattle.coupling_laws.specs.Covers.{Covers}
use Rattle.context_moves.specs.Covering.{OwnerCovers, StageCovers, IsStubOf, IsGiven, Parts, Covering}
use Rattle.context_moves.proofs.Later.{owner_later, pipe_later, covers_later, over_not_live, live_not_unborn}

-- the stage of a call or fence statement that runs lives, and no other owner of it runs or is its stub
module _ (c : Config) (v : View) (b : CallsBehind) (s : State) (o : ℕ) (r : is_running (owner_at s o).fate ≡ true) (f : is_stub (owner_at s o).kind ≡ false) (owns : StagesOwn s) (k : Covering c v b s) where
  abbrev own_stage : ℕ
  own_stage = (owner_at s o).stage

  pub own_lives : is_live (stage_at s own_stage).life ≡ true
  own_lives = (owns.owner own_stage o (owns.running o r f)).lives

  pub own_there : own_stage - 1 < length s.stages
  own_there = by_place (get_or_past s.stages (own_stage - 1) no_stage)
    where
      by_place : (own_stage - 1 < length s.stages) ⊎ (get_or s.stages (own_stage - 1) no_stage ≡ no_stage) → own_stage - 1 < length s.stages
      by_place (inl g) = g
      by_place (inr g) = absurd (false≢true (ap (λ (y : Stage). is_live y.life) (sym g) ∙ own_lives))

  pub own_alone : (i : ℕ) → (i ≡ o → ⊥) → (is_running (owner_at s i).fate ≡ true) ⊎ (is_stub (owner_at s i).kind ≡ true) → (owner_at s i).stage - 1 ≡ own_stage - 1 → ⊥
  own_alone i g y p = by_kind (is_stub (owner_at s i).kind) refl y
    where
      place : stage_at s (owner_at s i).stage ≡ stage_at s own_stage
      place = ap (λ (z : ℕ). get_or s.stages z no_stage) p

      by_kind : (z : Bool) → is_stub (owner_at s i).kind ≡ z → (is_running (owner_at s i).fate ≡ true) ⊎ (is_stub (owner_at s i).kind ≡ true) → ⊥
      by_kind true e y = over_not_live (stage_at s own_stage).life (ap (λ (z : Stage). is_over z.life) (sym place) ∙ (k.owners i).dead e) own_lives
      by_kind false e (inl y) = g (some_is i o (sym (owns.running i y e) ∙ (ap (λ (z : Stage). z.owner) place ∙ owns.running o r f)))
      by_kind false e (inr y) = true≢false (sym y ∙ e)

  -- it ends, with another table
  module _ (v' : View) (b' : CallsBehind) (h' : List Entry) (cursor : Cursor) (seen : Seen) (g : Grows v v')
      (others : (j a : ℕ) → (j - 1 ≡ own_stage - 1 → ⊥) → b'.stage j a ≡ true → b.stage j a ≡ true) (more : (j a : ℕ) → b.stage j a ≡ true → b'.stage j a ≡ true)
      (same : (x : Token) (a : ℕ) → b'.message x a ≡ b.message x a) (given : (j : ℕ) → IsGiven s.history j → IsGiven h' j) (own : (j : ℕ) → j - 1 ≡ own_stage - 1 → Covers v' (b'.stage j) seen) where
    abbrev after : Stage
    after = record (stage_at s own_stage) { cursor = cursor; context = seen; owner = None }

    abbrev stages' : List Stage
    stages' = set s.stages (own_stage - 1) after

    abbrev owners' : List Owner
    owners' = set s.owners o (closed s o Ended)

    at_own : (j : ℕ) → j - 1 ≡ own_stage - 1 → get_or stages' (j - 1) no_stage ≡ after
    at_own j e = let l = own_there in grind (arith, looks, l, e)

    elsewhere : (j : ℕ) → (j - 1 ≡ own_stage - 1 → ⊥) → get_or stages' (j - 1) no_stage ≡ stage_at s j
    elsewhere j e = grind (arith, looks, e)

    life_same : (j : ℕ) → (get_or stages' (j - 1) no_stage).life ≡ (stage_at s j).life
    life_same j = by_place (cases_eq (j - 1) (own_stage - 1))
      where
        by_place : (j - 1 ≡ own_stage - 1) ⊎ (j - 1 ≡ own_stage - 1 → ⊥) → (get_or stages' (j - 1) no_stage).life ≡ (stage_at s j).life
        by_place (inl e) = ap (λ (y : Stage). y.life) (at_own j e) ∙ ap (λ (z : ℕ). (get_or s.stages z no_stage).life) (sym e)
        by_place (inr e) = ap (λ (y : Stage). y.life) (elsewhere j e)

    stubs_same : (j i : ℕ) → IsStubOf s.owners j i → IsStubOf owners' j i
    stubs_same j i z = record { stub = ap is_stub (alike i).0 ∙ z.stub; of_stage = ap (λ (z : ℕ). z - 1) (alike i).1 ∙ z.of_stage }
      where
        alike : (i : ℕ) → ((get_or owners' i no_owner).kind ≡ (owner_at s i).kind) × ((get_or owners' i no_owner).stage ≡ (owner_at s i).stage)
        alike = each_set (λ j v. (v.kind ≡ (owner_at s j).kind) × (v.stage ≡ (owner_at s j).stage)) s.owners o (closed s o Ended) (refl, refl) (λ j. (refl, refl))

    -- each owner
    new_own : OwnerCovers v' b' stages' (closed s o Ended)
    new_own = record {
      copy = λ j e m. absurd (gone e);
      dead = λ e. absurd (true≢false (sym e ∙ f));
      own = λ x e m. absurd (false≢true m);
      fixing = λ m. absurd (false≢true m);
    }
      where
        gone : (false ≡ true) ⊎ (is_stub (owner_at s o).kind ≡ true) → ⊥
        gone (inl e) = false≢true e
        gone (inr e) = true≢false (sym e ∙ f)

    old_own : (i : ℕ) → (i ≡ o → ⊥) → OwnerCovers v' b' stages' (owner_at s i)
    old_own i e =
        owner_later v v' b b' s.stages stages' (owner_at s i) g
        (λ j a m p z. others j a (λ l. own_alone i e m (sym p ∙ l)) z)
        (λ m. ap is_over (life_same (owner_at s i).stage) ∙ m) (k.owners i)

    all_own : (i : ℕ) → OwnerCovers v' b' stages' (get_or owners' i no_owner)
    all_own i = by_place (cases_eq i o)
      where
        there : o < length s.owners
        there = by_there (get_or_past s.owners o no_owner)
          where
            by_there : (o < length s.owners) ⊎ (get_or s.owners o no_owner ≡ no_owner) → o < length s.owners
            by_there (inl g) = g
            by_there (inr g) = absurd (false≢true (ap (λ (y : Owner). is_running y.fate) (sym g) ∙ r))

        by_place : (i ≡ o) ⊎ (i ≡ o → ⊥) → OwnerCovers v' b' stages' (get_or owners' i no_owner)
        by_place (inl e) = subst (OwnerCovers v' b' stages') (let l = there in grind (arith, looks, l, e)) new_own
        by_place (inr e) = subst (OwnerCovers v' b' stages') (grind (arith, looks, e)) (old_own i e)

    -- each stage
    fewer_false : (x y : Bool) → (x ≡ true → y ≡ true) → y ≡ false → x ≡ false
    fewer_false true y f e = absurd (true≢false (sym (f refl) ∙ e))
    fewer_false false y f e = refl

    all_stages : (j : ℕ) → StageCovers c v' b' h' owners' j (get_or stages' (j - 1) no_stage)
    all_stages j = by_place (cases_eq (j - 1) (own_stage - 1))
      where
        old : StageCovers c v b s.history s.owners j (stage_at s j)
        old = k.stages j

        exit_same : (a : ℕ) → b'.message (token.Exit j) a ≡ true → b'.stage j a ≡ true
        exit_same a e = more j a (old.exit a (sym (same (token.Exit j) a) ∙ e))

        born_same : (x : Life) → (x ≡ Unborn) ⊎ IsGiven s.history j → (x ≡ Unborn) ⊎ IsGiven h' j
        born_same x (inl e) = inl e
        born_same x (inr e) = inr (given j e)

        by_place : (j - 1 ≡ own_stage - 1) ⊎ (j - 1 ≡ own_stage - 1 → ⊥) → StageCovers c v' b' h' owners' j (get_or stages' (j - 1) no_stage)
        by_place (inl e) = subst (StageCovers c v' b' h' owners' j) (sym (at_own j e)) record {
          context = own j e;
          unborn = λ i. absurd (live_not_unborn (stage_at s own_stage).life own_lives i);
          born = λ l i. born_same _ (subst (λ (z : ℕ). ((get_or s.stages z no_stage).life ≡ Unborn) ⊎ IsGiven s.history j) e (old.born l i));
          stub_of = λ i m. stubs_same j i (old.stub_of i (ap (λ (z : ℕ). (get_or s.stages z no_stage).stub) e ∙ m));
          exit = exit_same;
        }
        by_place (inr e) = subst (StageCovers c v' b' h' owners' j) (sym (elsewhere j e)) record {
          context = covers_later v v' (b.stage j) (b'.stage j) (stage_at s j).context g (λ a. others j a e) old.context;
          unborn = λ i. let q = old.unborn i in (λ a. fewer_false (b'.stage j a) (b.stage j a) (others j a e) (q.0 a), λ a. same (token.Spawn j) a ∙ q.1 a);
          born = λ l i. born_same _ (old.born l i);
          stub_of = λ i m. stubs_same j i (old.stub_of i m);
          exit = exit_same;
        }

    pub it_ends : Parts c v' b' owners' stages' s.pipes h'
    it_ends = record {
      owners = all_own;
      stages = all_stages;
      pipes = λ p. pipe_later v v' b b' p _ g (λ number a e. sym (same (token.Chunk p number) a) ∙ e) (k.pipes p);
      unused = λ p number a i l. same (token.Chunk p number) a ∙ k.unused p number a i l;
      long = length-set s.stages (own_stage - 1) after ∙ k.long;
    }
