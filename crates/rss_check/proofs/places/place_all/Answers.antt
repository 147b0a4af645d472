use Rattle.std.proofs.Common.{◌≡◌, ℕ, length, arith, subst}
use Rattle.plain_model.proofs.LegalTurns.{stands_at}
use Rattle.rss_check.specs.Places.{kept, ArePlacesBelow}
use Rattle.rss_check.proofs.Placed.{place_more, all_placed}
use Rattle.rss_check.proofs.places.place_all.Goals as goal

pub loop-index-preserved : goal.loop-index-preserved
loop-index-preserved c =
    let call = c.index-c-index.result in
    let none : kept c.loop-index.places call ≡ 0 = omega (arith, c.place_of.ensures, c.if-place_of-gt0.false) in
    place_more c.args.c.now c.loop-index.index call (kept c.loop-index.places) (kept c.put_place.new.places)
    (stands_at c.args.c.now c.loop-index.index call c.loop-index-test.true c.index-c-index.is)
    none c.loop-index.invariant c.in_ok-put_place.ensures

pub returns-clause-placed : goal.returns-clause-placed
returns-clause-placed c =
    let whole : c.loop-index.index ≡ length c.args.c.now = omega (arith, c.loop-index-test.false, c.loop-index.auto.index-end) in
    all_placed c.args.c.now (kept c.loop-index.places)
    (subst (λ (n : ℕ). ArePlacesBelow c.args.c.now n (kept c.loop-index.places)) whole c.loop-index.invariant)
