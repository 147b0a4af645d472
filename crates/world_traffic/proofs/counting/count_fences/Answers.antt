use Rattle.std.proofs.Common.{◌≡◌, ℕ, ◌<◌, ◌+◌, List, drop, get_or, length, ap, sym, ◌∙◌, subst, arith}
use Rattle.causal_context.specs.Services.{place_of}
use Rattle.rss_machine.specs.Moves.{counts_fences, one_more_at}
use Rattle.world_traffic.specs.View.{CountsFit, no_fence}
use Rattle.world_traffic.proofs.Counts.{counted_on, fits_on}
use Rattle.world_traffic.proofs.counting.count_fences.Goals as goal

pub loop-at-preserved : goal.loop-at-preserved
loop-at-preserved c =
    let inside : c.loop-at.at < length c.args.fences.now = omega (arith, c.loop-at-test.true, c.loop-at.auto.at-end) in
    let e : c.count_at.new.planned ≡ one_more_at (place_of (get_or c.args.fences.now c.loop-at.at no_fence).0) c.loop-at.planned = c.count_at.ensures in
    record {
      whole =
          ap (λ (counts : List ℕ). counts_fences (drop (c.loop-at.at + 1) c.args.fences.now) counts) e
          ∙ counted_on c.args.fences.now c.loop-at.at no_fence c.loop-at.planned inside
          ∙ c.loop-at.invariant.whole;
      fits =
          subst (λ (counts : List ℕ). CountsFit (length (drop (c.loop-at.at + 1) c.args.fences.now)) counts) (sym e)
          (fits_on c.args.fences.now c.loop-at.at (place_of (get_or c.args.fences.now c.loop-at.at no_fence).0) c.loop-at.planned inside c.loop-at.invariant.fits);
    }
