use Rattle.std.proofs.Common.{◌∙◌, ◌<◌, length, arith, subst, below_more}
use Rattle.rss_model.specs.History.{entry_at}
use Rattle.plain_script.specs.Standing.{standing, GivesWithin}
use Rattle.plain_script.proofs.StandingLemmas.{next_stands, more_told, entry_is}
use Rattle.plain_script.proofs.table.final_table.Goals as goal

pub loop-place-init : goal.loop-place-init
unfolding standing
loop-place-init c = record {
  table = c.in_ok-table.ensures.table;
  told = c.new-told.ensures.items;
  stages = c.in_ok-table.ensures.stages;
  within = λ i l. absurd (omega (arith, l));
}

pub loop-place-preserved : goal.loop-place-preserved
loop-place-preserved c =
    let n = c.loop-place.place in
    let inside : n < length c.args.h.now = c.loop-place-test.true in
    record {
      table =
          next_stands c.args.config.now c.args.h.now n c.deref-in-loop-place.result.now
          c.in_ok-next.next.items c.deref.result.now
          (c.deref-in-loop-place.ensures.value ∙ c.loop-place.invariant.table)
          (c.deref.ensures.value ∙ c.loop-place.invariant.told)
          c.in_ok-next.ensures.table;
      told =
          more_told c.args.config.now c.args.h.now n c.deref-in-loop-place-2.result.now c.loop-place.told.items
          c.add_told.new.told.items c.index-h-place.result inside c.index-h-place.is
          (c.deref-in-loop-place-2.ensures.value ∙ c.loop-place.invariant.table)
          c.loop-place.invariant.told c.in_ok-add_told.ensures.told;
      stages = c.in_ok-next.ensures.stages;
      within =
          below_more (λ i. GivesWithin (entry_at c.args.h.now i)) n c.loop-place.invariant.within
          (subst GivesWithin (entry_is c.args.h.now n c.index-h-place.result inside c.index-h-place.is)
          c.add_told.ensures.within);
    }
