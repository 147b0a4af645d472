use Rattle.std.proofs.Common.{ℕ, ◌+◌, ◌∙◌, sym, ap, subst, Option}
use Rattle.rss_check.specs.Places.{kept}
use Rattle.rss_check.specs.Bad.{IsLeastBad, IsUncaused, least_with}
use Rattle.rss_check.specs.Passes.{tops_of}
use Rattle.rss_check.proofs.Bad.{none_bad}
use Rattle.rss_check.proofs.Steps.{tops_step, uncaused_step}
use Rattle.rss_check.specs.Tops.{Tops}
use Rattle.rss_check.proofs.Ended.{entry_is, tops_first}
use Rattle.rss_check.proofs.causal.least_uncaused.Goals as goal

pub loop-entry-init : goal.loop-entry-init
loop-entry-init c = record {
  tops = tops_first c.args.h.now (kept c.args.places.now) (tops_of c.new-tops.result) c.new-tops.ensures.stages c.new-tops.ensures.messages;
  least = none_bad (IsUncaused c.args.h.now (kept c.args.places.now));
}

pub loop-entry-preserved : goal.loop-entry-preserved
loop-entry-preserved c =
    let h = c.args.h.now in
    let place = kept c.args.places.now in
    let i = c.loop-entry.entry-index in
    let e = c.entry-item.result in
    let is = entry_is h i e c.loop-entry-test.true c.entry-item.is in
    record {
      tops =
          tops_step h place i (tops_of c.loop-entry.tops) (tops_of c.note.new.self) e is c.loop-entry.invariant.tops
          c.in_ok-note.ensures.stages c.in_ok-note.ensures.messages;
      least =
          subst (λ (o : Option ℕ). IsLeastBad (IsUncaused h place) (i + 1) o)
          (sym (c.with_begun-least.ensures ∙ ap (λ (t : Tops). least_with c.loop-entry.least t.stage place e) c.loop-entry.invariant.tops))
          (uncaused_step h place i c.loop-entry.least e is c.loop-entry.invariant.least);
    }
