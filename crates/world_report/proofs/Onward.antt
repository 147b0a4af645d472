-- The lines of stages from a number on.
use Rattle.std.proofs.Common.{◌≡◌, ℕ, suc, ◌+◌, ◌-◌, ◌<◌, ◌++◌, ap, arith}
use Rattle.pipeline_lang.specs.declared.config.Config.{Config}
use Rattle.rss_machine.specs.ReportText.{stage_line, stage_lines}
use Rattle.rss_machine.specs.Standing.{stage_state}
use Rattle.rss_machine.specs.State.{State}
use Rattle.rss_machine.specs.Turns.{next_for}

-- the line of a stage, and those of the stages after it
pub one_more : (c : Config) (s : State) (before stages : ℕ) → before < stages → stage_lines c s (before + 1) (stages - before) ≡ stage_line c (before + 1) (next_for c s (before + 1)) (stage_state s (before + 1)) ++ stage_lines c s (before + 1 + 1) (stages - (before + 1))
one_more c s before stages h =
    let e : stages - before ≡ suc (stages - (before + 1)) = omega arith in
    ap (stage_lines c s (before + 1)) e
