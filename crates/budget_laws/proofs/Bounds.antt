-- What a file may cost is less than its budget: so a run of turns that costs no more ends before its log is full.
use Rattle.std.proofs.Common.{◌≡◌, ℕ, zero, suc, ◌+◌, ◌*◌, ◌<◌, ◌≤◌, Bool, true, false, List, [], ◌∷◌, length, Some, refl, ap, sym, ◌∙◌, subst, arith}
use Rattle.std.specs.List.{list_any}
use Rattle.std.specs.Prelude.{nat_le, if◌then◌else◌}
use Rattle.std.proofs.Math.Nat.{mul-le-mul_left}
use Rattle.std.proofs.lemmas.Bool.Decides.{nat_tests}
use Rattle.pipeline_lang.specs.Counts.{executed}
use Rattle.pipeline_lang.specs.declared.config.Body.{Body}
use Rattle.pipeline_lang.specs.declared.config.Config.{Config}
use Rattle.rss_machine.specs.Budget.{executed_by, all_replicas, all_withheld, budget}
use Rattle.rss_machine.specs.Endings.{all_settled, is_stuck, ending_of}
use Rattle.rss_machine.specs.Run.{run}
use Rattle.rss_machine.specs.Serial.{strays}
use Rattle.rss_machine.specs.Standing.{is_hurt, state_of_stage}
use Rattle.rss_machine.specs.State.{State, Stage}
use Rattle.rss_machine.specs.declared.ending.Ending.TheVariants as ending
use Rattle.rss_machine.specs.declared.step.Step.{Step}
use Rattle.world_laws.proofs.Clock.{run_counted}
use Rattle.budget_laws.specs.Bounds.{statement_cost, end_cost, cost_of}
use Rattle.budget_laws.specs.Counts.{own_steps, lost_steps, requests}
use Rattle.budget_laws.proofs.Lost.{turns_paid, losses_withheld}

-- one stage more
one_body : (x rest a b d e cost left : ℕ) → a ≤ b → d + 1 ≤ b + e → cost + left ≤ rest * b + left * e → x * a + d + cost + suc left ≤ (x + 1 + rest) * b + suc left * e
one_body x rest a b d e cost left h g i = let q = mul-le-mul_left x h in omega (arith, q, g, i)

abbrev statement_budget : Config → ℕ
statement_budget c = 8 * all_replicas c.services + 8 * length c.shards + 32

abbrev stage_budget : Config → ℕ
stage_budget c = 4 * all_replicas c.services + 16 * length c.shards + 32

bodies_fit : (c : Config) (bodies : List Body) → cost_of c bodies + length bodies ≤ executed_by bodies * statement_budget c + length bodies * stage_budget c
bodies_fit c [] = omega arith
bodies_fit c (body ∷ bodies) =
    one_body (executed body.script) (executed_by bodies) (statement_cost c) (statement_budget c) (end_cost c) (stage_budget c) (cost_of c bodies) (length bodies) (omega arith) (omega arith) (bodies_fit c bodies)

-- a run of turns that costs no more than its stages, with eight for each message that is lost, is shorter than the budget
pub enough_steps : (c : Config) (steps : List Step) (s : State) → run c steps ≡ Some s → strays c steps ≡ 0 → 1 ≤ length c.bodies → own_steps steps + 2 * requests s.net ≤ cost_of c c.bodies + 8 * lost_steps steps → length steps < budget c
enough_steps c steps s e z b h =
    let p = turns_paid c steps s e z in
    let l = losses_withheld c steps s e z in
    let f = bodies_fit c c.bodies in
    omega (arith, p, l, f, b, h)

-- a log that is not full is no ending
not_limit : (settled hurt full stuck : Bool) → full ≡ false → (if settled then (if hurt then ending.Hurt else ending.Done) else (if full then ending.Limit else (if stuck then ending.Stuck else ending.Unfinished))) ≡ ending.Limit → ⊥
not_limit true true full stuck f e = hurt_not e
  where
    hurt_not : ending.Hurt ≡ ending.Limit → ⊥
    hurt_not e = cc
not_limit true false full stuck f e = done_not e
  where
    done_not : ending.Done ≡ ending.Limit → ⊥
    done_not e = cc
not_limit false hurt true stuck f e = true_not_false f
  where
    true_not_false : true ≡ false → ⊥
    true_not_false f = cc
not_limit false hurt false true f e = stuck_not e
  where
    stuck_not : ending.Stuck ≡ ending.Limit → ⊥
    stuck_not e = cc
not_limit false hurt false false f e = unfinished_not e
  where
    unfinished_not : ending.Unfinished ≡ ending.Limit → ⊥
    unfinished_not e = cc

pub no_limit : (c : Config) (s : State) → s.steps < c.max_steps → ending_of c s ≡ ending.Limit → ⊥
unfolding ending_of
no_limit c s l e =
    let f : nat_le c.max_steps s.steps ≡ false = grind (arith, nat_tests, l) in
    not_limit (all_settled c s 1 (length s.stages)) (list_any (λ (stage : Stage). is_hurt (state_of_stage s stage)) s.stages) (nat_le c.max_steps s.steps) (is_stuck c s) f e

pub enough_log : (c : Config) (steps : List Step) (s : State) → run c steps ≡ Some s → strays c steps ≡ 0 → 1 ≤ length c.bodies → budget c ≤ c.max_steps → own_steps steps + 2 * requests s.net ≤ cost_of c c.bodies + 8 * lost_steps steps → ending_of c s ≡ ending.Limit → ⊥
enough_log c steps s e z b m h =
    let l = enough_steps c steps s e z b h in
    let n = (run_counted c steps s e).0 in
    no_limit c s (omega (arith, l, n, m))
