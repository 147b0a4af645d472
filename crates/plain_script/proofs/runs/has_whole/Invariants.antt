use Rattle.std.proofs.Common.{ℕ, ◌<◌, get_or}
use Rattle.rss_model.specs.Walk.{Walk, last_gives}
use Rattle.rss_model.specs.ScriptRun.{IsWhole}
use Rattle.plain_script.proofs.runs.has_whole.Given as goal

-- none so far may end
abbrev pub invariant-loop-walk : goal.invariant-loop-walk
invariant-loop-walk l = (k : ℕ) (d : Walk) → k < l.walk-index → IsWhole (last_gives l.config l.stage (get_or l.walks k d)) (get_or l.walks k d).mode → ⊥
