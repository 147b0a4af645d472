use Rattle.std.proofs.Common.{ℕ, ◌≤◌, length, sym, ap, subst, ◌∙◌, arith}
use Rattle.rss_machine.specs.State.{Owner}
use Rattle.world_parts.specs.Parts.{Staging, stage_in, owner_in}
use Rattle.world_traffic.specs.View.{next_of}
use Rattle.world_machine.proofs.Beginning.{Opened, opened_may, opened_room, few_all, added, fence_opened}
use Rattle.world_machine.proofs.machine.Machine.open_fence.Goals as goal

pub returns-clause-goes : goal.returns-clause-goes
returns-clause-goes c = λ at room. (
    let m = c.args.self.now in
    let o : ℕ = c.open-number.result in
    let w : Owner = next_of m.traffic.next in
    let seen = (stage_in m.staging.staging c.args.stage).context in
    let opened : Opened m.traffic c.open-number.new.self o = record {
      first = omega (arith, c.begun-begun.ensures);
      opens = c.open-number.ensures.opens;
      number = c.open-number.ensures.number;
      made = c.open-number.ensures.made;
      others = c.open-number.ensures.others;
      left = subst (λ (x : Owner). length x.works.left ≤ 16) (sym c.requires.owner.next) (few_all seen c.has_used_first-in_order.ensures.services);
    } in
    record {
      may = opened_may m.config m.traffic c.open-number.new.self o m.clock.steps at opened room (c.requires.acting.begins o m.clock.steps at (owner_in c.open-number.new.self.traffic o));
      idle = ap (λ (x : Owner). x.session) (added m.traffic.traffic c.open-number.new.self.traffic w o c.open-number.ensures.opens c.open-number.ensures.number ∙ c.requires.owner.next);
      room = opened_room m.config m.traffic c.open-number.new.self o at opened room;
      ends =
          fence_opened m.config m.staging c.begin_fence.new.self m.traffic.traffic c.open-number.new.self.traffic w m.clock.steps c.args.stage o m.clock.steps at
          c.open-number.ensures.opens c.requires.owner.next c.open-number.ensures.number
          (c.begin_fence.ensures.others ∙ ap (λ (g : Staging). record m.staging { staging = g }) c.begin_fence.ensures.begins) c.requires.ends;
    })
