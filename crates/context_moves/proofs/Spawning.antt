-- A stage is spawned.
use Rattle.std.proofs.Common.{◌≡◌, ℕ, ◌-◌, ◌<◌, ◌⊎◌, inl, inr, Bool, true, false, List, [], ◌∷◌, ◌++◌, length, get_or, refl, sym, ap, ◌∙◌, subst, arith}
use Rattle.std.specs.Prelude.{◌&&◌, ◌||◌, ◌==◌}
use Rattle.std.proofs.Math.ListN.{set}
use Rattle.std.proofs.lemmas.Bool.{true≢false}
use Rattle.std.proofs.lemmas.Bool.Decides.{nat_tests}
use Rattle.pipeline_lang.specs.declared.config.Config.{Config}
use Rattle.rss_model.specs.declared.history.Entry.{Entry}
use Rattle.rss_model.specs.declared.history.Entry.TheVariants.{Give, Get}
use Rattle.rss_model.specs.declared.history.Token.TheVariants as token
use Rattle.rss_model.specs.Cursor.{Cursor}
use Rattle.rss_model.proofs.HistoryLemmas.{entry_at-append}
use Rattle.rss_machine.specs.Moves.{spawns}
use Rattle.rss_machine.specs.Standing.{is_running, is_over}
use Rattle.rss_machine.specs.State.{State, Stage, no_stage, stage_at, owner_at}
use Rattle.rss_machine.specs.declared.state.Life.{Life}
use Rattle.rss_machine.specs.declared.state.Life.TheVariants as life
use Rattle.world_laws.specs.Calls.{is_stub, StagesOwn}
use Rattle.world_laws.proofs.Looks.{looks}
use Rattle.order_laws.specs.CallsBehind.{CallsBehind}
use Rattle.coupling_laws.specs.Calls.{View}
use Rattle.coupling_laws.proofs.Places.{fewer}
use Rattle.context_moves.specs.Covering.{IsGiven, Covering}
use Rattle.context_moves.proofs.Later.{view_same, live_not_unborn, over_not_unborn, given_more, pipe_later}
use Rattle.context_moves.proofs.Moves.{placed}
use Rattle.context_moves.proofs.Staging.{stage_changes}
use Rattle.context_moves.proofs.Tables.{given_table, got_table, or_case, both_of, or_first}

module _ (c : Config) (v : View) (b : CallsBehind) (s : State) (n child : ℕ) (cursor : Cursor) (there : child - 1 < length s.stages) (unborn : (stage_at s child).life ≡ life.Unborn) (first : 0 < child) (owns : StagesOwn s) (k : Covering c v b s) where
  -- the spawning stage goes on
  abbrev u : State
  u = record s { stages = set s.stages (n - 1) (record (stage_at s n) { cursor = cursor }) }

  at_u : Covering c v b u
  at_u = placed c v b s k n (record (stage_at s n) { cursor = cursor }) refl refl refl

  context_u : (i : ℕ) → (get_or u.stages i no_stage).context ≡ (get_or s.stages i no_stage).context
  context_u i = grind (arith, looks)

  life_u : (i : ℕ) → (get_or u.stages i no_stage).life ≡ (get_or s.stages i no_stage).life
  life_u i = grind (arith, looks)

  stub_u : (i : ℕ) → (get_or u.stages i no_stage).stub ≡ (get_or s.stages i no_stage).stub
  stub_u i = grind (arith, looks)

  there_u : child - 1 < length u.stages
  there_u = grind (arith, looks, there)

  owner_u : (i : ℕ) → (get_or u.stages i no_stage).owner ≡ (get_or s.stages i no_stage).owner
  owner_u i = grind (arith, looks)

  abbrev b' : CallsBehind
  b' = got_table (given_table b n (token.Spawn child)) child (token.Spawn child)

  abbrev x : Stage
  x = record (stage_at s child) { life = life.Live; context = (stage_at s n).context }

  abbrev h' : List Entry
  h' = s.history ++ Give n (token.Spawn child) ∷ Get child (token.Spawn child) ∷ []

  same_life : (y z : Life) → y ≡ z → is_over y ≡ is_over z
  same_life y z e = ap is_over e

  -- what is behind
  others : (j a : ℕ) → (j - 1 ≡ child - 1 → ⊥) → b'.stage j a ≡ true → b.stage j a ≡ true
  others j a f e = by_case (or_case (b.stage j a) _ e)
    where
      by_case : (b.stage j a ≡ true) ⊎ (((child == j) && (given_table b n (token.Spawn child)).message (token.Spawn child) a) ≡ true) → b.stage j a ≡ true
      by_case (inl g) = g
      by_case (inr g) = let z = (both_of (child == j) _ g).0 in absurd (f (grind (arith, nat_tests, z)))

  life_at : (j : ℕ) → j - 1 ≡ child - 1 → (stage_at s j).life ≡ life.Unborn
  life_at j e = ap (λ (i : ℕ). (get_or s.stages i no_stage).life) e ∙ unborn

  own_calls : (j a : ℕ) → j - 1 ≡ child - 1 → b'.stage j a ≡ true → b.stage n a ≡ true
  own_calls j a e f = by_case (or_case (b.stage j a) _ f)
    where
      by_message : (b.message (token.Spawn child) a ≡ true) ⊎ (((child == child) && b.stage n a) ≡ true) → b.stage n a ≡ true
      by_message (inl g) = absurd (true≢false (sym g ∙ ((k.stages child).unborn unborn).1 a))
      by_message (inr g) = (both_of (child == child) (b.stage n a) g).1

      by_case : (b.stage j a ≡ true) ⊎ (((child == j) && (given_table b n (token.Spawn child)).message (token.Spawn child) a) ≡ true) → b.stage n a ≡ true
      by_case (inl g) = absurd (true≢false (sym g ∙ ((k.stages j).unborn (life_at j e)).0 a))
      by_case (inr g) = by_message (or_case (b.message (token.Spawn child) a) _ (both_of (child == j) _ g).1)

  -- no owner is there
  nobody : (i : ℕ) → (is_running (owner_at s i).fate ≡ true) ⊎ (is_stub (owner_at s i).kind ≡ true) → (owner_at s i).stage - 1 ≡ child - 1 → ⊥
  nobody i y e = by_kind (is_stub (owner_at s i).kind) refl y
    where
      is_unborn : (stage_at s (owner_at s i).stage).life ≡ life.Unborn
      is_unborn = life_at (owner_at s i).stage e

      by_kind : (z : Bool) → is_stub (owner_at s i).kind ≡ z → (is_running (owner_at s i).fate ≡ true) ⊎ (is_stub (owner_at s i).kind ≡ true) → ⊥
      by_kind true f y = over_not_unborn (stage_at s (owner_at s i).stage).life ((k.owners i).dead f) is_unborn
      by_kind false f (inl y) = live_not_unborn (stage_at s (owner_at s i).stage).life (owns.owner (owner_at s i).stage i (owns.running i y f)).lives is_unborn
      by_kind false f (inr y) = true≢false (sym y ∙ f)

  or_false : (x : Bool) → (x || false) ≡ x
  or_false true = refl
  or_false false = refl

  spawned_same : (j a : ℕ) → (j - 1 ≡ child - 1 → ⊥) → b'.message (token.Spawn j) a ≡ true → b.message (token.Spawn j) a ≡ true
  spawned_same j a f e = by_case (or_case (b.message (token.Spawn j) a) _ e)
    where
      by_case : (b.message (token.Spawn j) a ≡ true) ⊎ (((child == j) && b.stage n a) ≡ true) → b.message (token.Spawn j) a ≡ true
      by_case (inl g) = g
      by_case (inr g) = let z = (both_of (child == j) _ g).0 in absurd (f (grind (arith, nat_tests, z)))

  given : (j : ℕ) → j - 1 ≡ child - 1 → 0 < j → IsGiven h' j
  given j e l = let same : child ≡ j = omega (arith, e, l, first) in subst (IsGiven h') same record { place = length s.history; giver = n; inside = grind (arith, looks); says = grind (arith, entry_at-append s.history (Give n (token.Spawn child) ∷ Get child (token.Spawn child) ∷ []) (length s.history)) }

  over_x : is_over (stage_at u child).life ≡ true → is_over life.Live ≡ true
  over_x m = absurd (over_not_unborn (stage_at s child).life (sym (same_life _ _ (life_u (child - 1))) ∙ m) unborn)

  pub spawned : Covering c v b' (spawns s n child cursor)
  spawned =
      stage_changes c v b b' u child x s.pipes h' there_u over_x (λ m. live_not_unborn life.Live refl m) (sym (stub_u (child - 1))) others
      (λ j e. fewer v (b.stage n) (b'.stage j) (stage_at s n).context (λ a. own_calls j a e) (k.stages n).context)
      (λ i y e. absurd (nobody i y e)) (λ j a e. or_first (b.stage j a) _ ((k.stages j).exit a (sym (or_false (b.message (token.Exit j) a)) ∙ e))) spawned_same (λ j e l m. given j e l) (λ j. given_more s.history _ j)
      (λ p. pipe_later v v b b' p _ (view_same v) (λ number a e. sym (or_false (b.message (token.Chunk p number) a)) ∙ e) (k.pipes p)) (λ p number a i l. or_false (b.message (token.Chunk p number) a) ∙ k.unused p number a i l) at_u
