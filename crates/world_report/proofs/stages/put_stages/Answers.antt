use Rattle.std.proofs.Common.{◌≡◌, ℕ, List, ◌+◌, ◌-◌, ◌<◌, ◌++◌, length, sym, ap, ◌∙◌, arith}
use Rattle.std.proofs.lemmas.Grind.{common_steps}
use Rattle.std.proofs.lemmas.List.{append_assoc}
use Rattle.rss_machine.specs.ReportText.{stage_line, stage_lines}
use Rattle.rss_machine.specs.Standing.{stage_state}
use Rattle.rss_machine.specs.Turns.{next_for}
use Rattle.world_report.proofs.Onward.{one_more}
use Rattle.world_report.proofs.stages.put_stages.Goals as goal

pub loop-before-preserved : goal.loop-before-preserved
loop-before-preserved c =
    let config = c.args.w.now.config in
    let s = c.args.w.now.state in
    let before = c.loop-before.before in
    let out = c.loop-before.out.items in
    let stages = length s.stages in
    let line : ℕ → List ℕ = λ (n : ℕ). stage_line config n (next_for config s n) (stage_state s n) in
    let rest = stage_lines config s (before + 1 + 1) (stages - (before + 1)) in
    let inside : before < stages = grind (arith, c.loop-before-test.true, c.stages-before-end.ensures.same) in
    let stage_is : c.unwrap-stage.result ≡ before + 1 = grind (arith, common_steps, c.new.ensures, c.unwrap-stage.ensures) in
    c.loop-before.invariant
    ∙ ap (λ (text : List ℕ). out ++ text) (one_more config s before stages inside)
    ∙ sym (append_assoc out (line (before + 1)) rest)
    ∙ ap (λ (text : List ℕ). text ++ rest) (sym (c.in_ok-put_stage_line.ensures ∙ ap (λ (n : ℕ). out ++ line n) stage_is))
