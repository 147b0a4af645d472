use Rattle.std.proofs.Common.{◌≡◌, ◌++◌, drop}
use Rattle.rss_machine.specs.Run.{steps_of}
use Rattle.step_text.specs.Spelling.{text_of}
use Rattle.step_text.proofs.print.print_steps.Given as goal

abbrev pub invariant-loop-logged : goal.invariant-loop-logged
invariant-loop-logged l = l.text.items ++ text_of (steps_of (drop l.logged-index l.log)) ≡ text_of (steps_of l.log)
