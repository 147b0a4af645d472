use Rattle.std.proofs.Common.{◌∙◌}
use Rattle.shard_lines.specs.Flat.{home_in}
use Rattle.two_phase.proofs.Opens.{opens}
use Rattle.two_phase.proofs.session.Session.new.Goals as goal

pub returns : goal.returns
returns c = opens (home_in c.args.homes.now) c.args.op.now c.in_ok-lines.lines.lines _ c.in_ok-lines.lines.room c.in_ok-lines.ensures (c.as_slice.ensures.value ∙ c.in_ok-written.ensures.keys)
