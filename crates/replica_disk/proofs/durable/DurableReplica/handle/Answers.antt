use Rattle.std.proofs.Common.{arith}
use Rattle.std.proofs.lemmas.Grind.{common_steps}
use Rattle.replica_disk.proofs.Fronts.{after_accepts, reply_after}
use Rattle.replica_disk.proofs.durable.DurableReplica.handle.Goals as goal

pub returns-in-Ok-clause-reply : goal.returns-in-Ok-clause-reply
returns-in-Ok-clause-reply g c = grind (arith, common_steps, reply_after c.args.self.held.items c.args.r.now)

pub returns-in-Ok-clause-all_made : goal.returns-in-Ok-clause-all_made
returns-in-Ok-clause-all_made g c = grind (arith, common_steps, after_accepts c.args.self.held.items c.args.r.now)
