use Rattle.std.proofs.Common.{ℕ, ◌+◌, ◌∙◌, sym, ap, subst, Option}
use Rattle.rss_check.specs.Places.{kept}
use Rattle.rss_check.specs.Bad.{IsLeastBad, IsUntimely, least_late, Latest}
use Rattle.rss_check.specs.Passes.{latest_of}
use Rattle.rss_check.proofs.Bad.{none_bad}
use Rattle.rss_check.proofs.Steps.{latest_step, untimely_step}
use Rattle.rss_check.proofs.Ended.{entry_is, latest_first}
use Rattle.rss_check.proofs.timely.least_untimely.Goals as goal

pub loop-entry-init : goal.loop-entry-init
loop-entry-init c = record {
  latest = latest_first c.args.h.now (kept c.args.places.now) (latest_of c.new-tops.result) c.new-tops.ensures.any c.new-tops.ensures.keys;
  least = none_bad (IsUntimely c.args.h.now (kept c.args.places.now));
}

pub loop-entry-preserved : goal.loop-entry-preserved
loop-entry-preserved c =
    let h = c.args.h.now in
    let place = kept c.args.places.now in
    let i = c.loop-entry.entry-index in
    let e = c.entry-item.result in
    let is = entry_is h i e c.loop-entry-test.true c.entry-item.is in
    record {
      latest =
          latest_step h place i (latest_of c.loop-entry.tops) (latest_of c.note.new.self) e is c.loop-entry.invariant.latest
          c.in_ok-note.ensures.any c.in_ok-note.ensures.keys;
      least =
          subst (λ (o : Option ℕ). IsLeastBad (IsUntimely h place) (i + 1) o)
          (sym (c.with_late-least.ensures ∙ ap (λ (t : Latest). least_late c.loop-entry.least h t place e) c.loop-entry.invariant.latest))
          (untimely_step h place i c.loop-entry.least e is c.loop-entry.invariant.least);
    }
