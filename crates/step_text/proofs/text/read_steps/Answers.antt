use Rattle.std.proofs.Common.{◌≡◌, [], ◌∷◌, ◌++◌, arith, rules}
use Rattle.std.proofs.lemmas.Grind.{common_steps}
use Rattle.step_text.proofs.TextLaws.{reads_more, reads_all, reads_steps, reads_readings}
use Rattle.step_text.proofs.TextsAgain.{spelled_alone, spelled_whole}
use Rattle.step_text.proofs.text.read_steps.Goals as goal

pub loop-rest-preserved : goal.loop-rest-preserved
loop-rest-preserved c =
    let pushed : c.push.new.self.items ≡ c.loop-rest.steps.items ++ c.in-Ok.step ∷ [] = rw c.in-Ok-push.is at c.push.ensures.items in
    record {
      read = rw pushed (reads_more c.args.bytes.now c.loop-rest.steps.items c.loop-rest.rest.now c.in-Ok.step c.in-Ok.behind.now c.loop-rest.invariant.read c.in-Ok.ensures.gives);
      lines = omega (arith, c.in-Ok-push.ensures.len, c.in-Ok.ensures.near);
    }

pub returns-clause-spelled : goal.returns-clause-spelled
returns-clause-spelled c = reads_all c.args.bytes.now c.loop-rest.steps.items c.loop-rest.rest.now (search rules) c.loop-rest.invariant.read

pub returns-clause-steps : goal.returns-clause-steps
returns-clause-steps c = reads_steps c.args.bytes.now c.loop-rest.steps.items c.loop-rest.rest.now c.loop-rest.invariant.read

pub returns-clause-readings : goal.returns-clause-readings
returns-clause-readings c = reads_readings c.args.bytes.now c.loop-rest.steps.items c.loop-rest.rest.now c.loop-rest.invariant.read

pub returns-clause-only : goal.returns-clause-only
returns-clause-only c = spelled_alone c.args.bytes.now c.loop-rest.steps.items c.loop-rest.rest.now (search rules) c.loop-rest.invariant.read

pub returns-in-Err-clause-only : goal.returns-in-Err-clause-only
returns-in-Err-clause-only c = λ steps h e. absurd (spelled_whole c.args.bytes.now c.loop-rest.steps.items c.loop-rest.rest.now c.in-Err.left c.loop-rest.invariant.read (grind (arith, common_steps)) c.in-Err.ensures.gives steps h e)
