-- Stages stand as the machine says.
use Rattle.std.proofs.Common.{◌≡◌, ℕ, zero, suc, ◌+◌, ◌-◌, ◌<◌, ◌≤◌, Bool, true, false, ◌&&◌, ◌||◌, List, [], ◌∷◌, length, get_or, Option, Some, None, refl, ap, sym, ◌∙◌, arith, if◌then◌else◌}
use Rattle.std.specs.Prelude.{nat_lt}
use Rattle.std.specs.List.{list_any}
use Rattle.rss_names.specs.declared.service.Key.{Key}
use Rattle.causal_context.specs.Seen.{Seen, context_joined}
use Rattle.pipeline_lang.specs.Config.{ends_of}
use Rattle.pipeline_lang.specs.declared.config.Body.{Body}
use Rattle.pipeline_lang.specs.declared.config.Config.{Config}
use Rattle.pipeline_lang.specs.declared.script.Statement.{Statement}
use Rattle.pipeline_lang.specs.declared.script.Statement.TheVariants as statement
use Rattle.rss_model.specs.Scripts.{spawns}
use Rattle.rss_tables.specs.Pipes.{has_room}
use Rattle.rss_tables.specs.declared.endings.StubEnd.{StubEnd}
use Rattle.rss_tables.specs.declared.endings.StubEnd.TheVariants.{Fenced, Unfenced}
use Rattle.rss_machine.specs.Effect.{waits_over}
use Rattle.rss_machine.specs.Enabling.{can_make}
use Rattle.rss_machine.specs.Endings.{all_settled}
use Rattle.rss_machine.specs.Standing.{life_state, is_unborn, is_done, is_settled, is_settled_within, parent_of, parent_from, stage_state, stub_end_of, exit_context}
use Rattle.rss_machine.specs.State.{State, stage_at, pipe_at}
use Rattle.rss_machine.specs.declared.ending.StageState.{StageState}
use Rattle.rss_machine.specs.declared.ending.StageState.TheVariants as standing
use Rattle.world_parts.specs.Parts.{Clock, Staging, Traffic, Stores, assembled, staging_of}
use Rattle.world_stages.specs.Halves.{waited_with}
use Rattle.world_stages.specs.Laws.{WaitsAsTheMachine, AllStandAsTheMachine, StandsAsTheMachine}
use Rattle.world_stages.specs.Settled.{AreEnds, parents_from, parents_of, standing_in, settled_in, all_settled_in, can_make_in}

-- by how the child stands
pub waits_over_parts : WaitsAsTheMachine
waits_over_parts k g t d n child standing.Exited = refl
waits_over_parts k g t d n child (standing.Ended how (Some Fenced)) = refl
waits_over_parts k g t d n child (standing.Ended how (Some (Unfenced target))) = refl
waits_over_parts k g t d n child (standing.Ended how None) = refl
waits_over_parts k g t d n child standing.Unborn = refl
waits_over_parts k g t d n child standing.Live = refl

-- the parent of a stage is one of the file's
parent_low : (n child : ℕ) (bodies : List Body) → 0 < n → parent_from n child bodies ≤ (n - 1) + length bodies
parent_low n child [] l = omega arith
parent_low n child (body ∷ bodies) l = by (list_any (spawns child) body.script) (parent_low (n + 1) child bodies (omega arith))
  where
    by : (b : Bool) → parent_from (n + 1) child bodies ≤ (n + 1 - 1) + length bodies → (if b then n else parent_from (n + 1) child bodies) ≤ (n - 1) + suc (length bodies)
    by true h = omega (arith, l)
    by false h = omega (arith, h, l)

parent_within : (c : Config) (child : ℕ) → parent_of c child ≤ length c.bodies
parent_within c child = let h = parent_low 1 child c.bodies (omega arith) in omega (arith, h)

-- the parents stand at their numbers
parents_at : (c : Config) (n left i : ℕ) → i < left → get_or (parents_from c n left) i 0 ≡ parent_of c (n + i)
parents_at c n zero i l = absurd (omega (arith, l))
parents_at c n (suc left) zero l = let e : n ≡ n + 0 = omega arith in ap (parent_of c) e
parents_at c n (suc left) (suc i) l = let e : n + 1 + i ≡ n + suc i = omega arith in parents_at c (n + 1) left i (omega (arith, l)) ∙ ap (parent_of c) e

parents_are : (c : Config) (n : ℕ) → n ≤ length c.bodies → get_or (parents_of c) n 0 ≡ parent_of c n
parents_are c n l = let e : 0 + n ≡ n = omega arith in parents_at c 0 (length c.bodies + 1) n (omega (arith, l)) ∙ ap (parent_of c) e

module _ (c : Config) (s : State) (ends : List (Option StubEnd)) (are : AreEnds s ends) where
  stands : (n : ℕ) → standing_in s.stages ends n ≡ stage_state s n
  stands n = ap (λ (end : Option StubEnd). life_state (stage_at s n).life end) (are.told n)

  settles : (left n : ℕ) → n ≤ length c.bodies → settled_in (parents_of c) ends s.stages left n ≡ is_settled_within left c s n
  settles zero n l = refl
  settles (suc left) n l =
      ap (λ (m : ℕ). if is_unborn (standing_in s.stages ends n) then (nat_lt 0 m && settled_in (parents_of c) ends s.stages left m) else is_done (standing_in s.stages ends n)) (parents_are c n l)
      ∙ ap (λ (b : Bool). if is_unborn (standing_in s.stages ends n) then (nat_lt 0 (parent_of c n) && b) else is_done (standing_in s.stages ends n)) (settles left (parent_of c n) (parent_within c n))
      ∙ ap (λ (x : StageState). if is_unborn x then (nat_lt 0 (parent_of c n) && is_settled_within left c s (parent_of c n)) else is_done x) (stands n)

  settles_all : (n left : ℕ) → n + left ≤ length c.bodies + 1 → all_settled_in (parents_of c) ends s.stages n left ≡ all_settled c s n left
  settles_all n zero l = refl
  settles_all n (suc left) l =
      ap (λ (b : Bool). b && all_settled_in (parents_of c) ends s.stages (n + 1) left) (settles 16 n (omega (arith, l)))
      ∙ ap (λ (b : Bool). is_settled c s n && b) (settles_all (n + 1) left (omega (arith, l)))

  makes : (st : Statement ℕ Key ℕ ℕ) → ((p : ℕ) → (ends_of c p).taker ≤ length c.bodies) → can_make_in c (parents_of c) ends (staging_of s) st ≡ can_make c s st
  makes (statement.Wait child) l = ap is_done (stands child)
  makes (statement.Put pipe value) l = ap (λ (b : Bool). has_room (pipe_at s pipe) (ends_of c pipe).capacity || b) (settles 16 (ends_of c pipe).taker (l pipe))
  makes (statement.Take variable pipe) l = refl
  makes (statement.Let variable value) l = refl
  makes (statement.Read variable key) l = refl
  makes (statement.Write key value) l = refl
  makes (statement.Snap pairs) l = refl
  makes (statement.Txn reads guard writes) l = refl
  makes (statement.Spawn child) l = refl
  makes (statement.Close pipe) l = refl
  makes statement.Fence l = refl
  makes (statement.Repeat times) l = refl
  makes (statement.When test) l = refl
  makes statement.End l = refl
  makes statement.Exit l = refl

pub all_stand : AllStandAsTheMachine
all_stand c s ends are = record {
  standing = stands c s ends are;
  settled = settles c s ends are 16;
  all = settles_all c s ends are;
  makes = makes c s ends are;
}
