use Rattle.std.proofs.Common.{◌≡◌, ◌≤◌, ◌<◌, ◌^◌, [], ◌∷◌, ◌++◌, ◌∙◌, sym}
use Rattle.event_world.proofs.Keeping.{kept_more}
use Rattle.event_world.proofs.world.World.step.Goals as goal

pub invariant_of-self : goal.invariant_of-self
invariant_of-self c =
    let pushed : c.push.new.self.items ≡ c.self.inside.log.items ++ record { step = c.args.s.now; driver = c.args.driver } ∷ [] = rw c.unwrap.ensures at c.push.ensures.items in
    let low : c.args.s.now.at.earliest ≤ c.args.s.now.at.latest = rw c.latest-latest.ensures.same at c.latest-latest.ensures.order in
    let high : c.args.s.now.at.latest < 2 ^ 62 = rw c.latest-latest.ensures.same at c.latest-latest.ensures.bound in
    record {
      kept = kept_more c.self.inside.machine c.take.new.self c.self.inside.log.items c.push.new.self.items (record { step = c.args.s.now; driver = c.args.driver }) c.self.invariant.kept (sym c.refusal.ensures ∙ c.in_default.is) c.take.ensures.state c.take.ensures.config (low, high) c.see_numbers.ensures pushed c.take.ensures.quiet;
      room = tt;
    }
