use Rattle.std.proofs.Common.{ap, sym, subst, length, arith}
use Rattle.shard_lines.specs.declared.flat.FlatLine.{FlatLine}
use Rattle.shard_lines.specs.Flat.{awaiting_passed, IsInside}
use Rattle.shard_lines.proofs.Eaches.{mapped_more, skips_at, skips_set}
use Rattle.shard_lines.proofs.each.await_passed.Goals as goal

pub await_if_passed-requires : goal.await_if_passed-requires
await_if_passed-requires c = record { inside = skips_at _ c.loop-line.line-items c.loop-line.line-index c.line-item.result c.loop-line.invariant.inside (omega (arith, c.loop-line-test.true, c.loop-line.auto.line-items)) }

pub loop-line-preserved : goal.loop-line-preserved
loop-line-preserved c =
    let inside = skips_at _ c.loop-line.line-items c.loop-line.line-index c.line-item.result c.loop-line.invariant.inside (omega (arith, c.loop-line-test.true, c.loop-line.auto.line-items)) in
    record {
      items = mapped_more (awaiting_passed c.args.skipped.now c.args.time) _ _ _ c.line-item.result _ c.loop-line.invariant.items (omega (arith, c.loop-line-test.true, ap length c.deref_mut-line-items.ensures.value)) c.line-item.is c.await_if_passed.ensures;
      inside = skips_set _ _ _ _ c.loop-line.invariant.inside (subst (λ (l : FlatLine). IsInside (length c.args.skipped.now) l.skipped) (sym c.await_if_passed.ensures) inside);
    }
