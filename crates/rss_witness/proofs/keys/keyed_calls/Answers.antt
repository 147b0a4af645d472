use Rattle.std.proofs.Common.{arith, ◌-◌, ◌<◌, length}
use Rattle.std.proofs.lemmas.Grind.{common_steps}
use Rattle.rss_witness.proofs.Distinct.{one_more}
use Rattle.rss_witness.proofs.keys.keyed_calls.Goals as goal
use Rattle.rss_witness.proofs.keys.keyed_calls.Goals.{in-Some+in_ok-push, in_default}

pub loop-before-preserved : goal.loop-before-preserved
loop-before-preserved c =
    let inside : c.loop-before.before < length c.args.w.now.state.owners - 1 = omega arith in
    let more = one_more c.args.w.now.state c.loop-before.before (length c.args.w.now.state.owners - 1) inside in
    elim c.match-keyed_call.branch [ in-Some+in_ok-push w ↦ grind (arith, common_steps, more) | in_default w ↦ grind (arith, common_steps, more) ]
