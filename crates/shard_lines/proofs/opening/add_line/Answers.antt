use Rattle.std.proofs.Common.{◌≡◌, ℕ, ◌<◌, length, ap, sym, ◌∙◌, arith, refl, subst}
use Rattle.std.specs.Prelude.{vec_len}
use Rattle.shard_lines.specs.Flat.{AreLines, AreBelow}
use Rattle.shard_lines.proofs.Openings.{Adds, adds_line, below_next}
use Rattle.shard_lines.proofs.opening.add_line.Goals as goal

pub returns-else-end-from-clause-below : goal.returns-else-end-from-clause-below
returns-else-end-from-clause-below c = below_next _ _ c.requires.below

pub returns-in_ok-push-clause-below : goal.returns-in_ok-push-clause-below
returns-in_ok-push-clause-below c =
    (adds_line c.args.keys.now.items c.push_on.new.keys.items c.push_on-2.new.keys.items _ _ c.len-from.result c.len-middle.result c.len-end.result c.args.lines.now.items c.push.new.self.items c.args.shard _ c.in_ok-push_on.ensures.keys c.in_ok-push_on-2.ensures.keys (omega (arith, c.len-from.ensures)) (omega (arith, c.len-middle.ensures)) (omega (arith, c.len-end.ensures)) (subst (λ n. AreLines n 0 0 c.args.lines.now.items) (sym c.len-from.ensures) c.requires.lines) c.requires.below c.if-end-from.true (omega (arith, c.len-from.ensures, c.len-middle.ensures, c.in_ok-push_on.ensures.few, c.requires.few_reads)) (omega (arith, c.len-middle.ensures, c.len-end.ensures, c.in_ok-push_on-2.ensures.few, c.requires.few_writes)) refl c.in_ok-push.ensures.items).below

pub returns-in_ok-push-clause-added : goal.returns-in_ok-push-clause-added
returns-in_ok-push-clause-added c =
    (adds_line c.args.keys.now.items c.push_on.new.keys.items c.push_on-2.new.keys.items _ _ c.len-from.result c.len-middle.result c.len-end.result c.args.lines.now.items c.push.new.self.items c.args.shard _ c.in_ok-push_on.ensures.keys c.in_ok-push_on-2.ensures.keys (omega (arith, c.len-from.ensures)) (omega (arith, c.len-middle.ensures)) (omega (arith, c.len-end.ensures)) (subst (λ n. AreLines n 0 0 c.args.lines.now.items) (sym c.len-from.ensures) c.requires.lines) c.requires.below c.if-end-from.true (omega (arith, c.len-from.ensures, c.len-middle.ensures, c.in_ok-push_on.ensures.few, c.requires.few_reads)) (omega (arith, c.len-middle.ensures, c.len-end.ensures, c.in_ok-push_on-2.ensures.few, c.requires.few_writes)) refl c.in_ok-push.ensures.items).added

pub returns-in_ok-push-clause-lines : goal.returns-in_ok-push-clause-lines
returns-in_ok-push-clause-lines c =
    subst (λ n. AreLines n 0 0 c.push.new.self.items) c.len-end.ensures
    (adds_line c.args.keys.now.items c.push_on.new.keys.items c.push_on-2.new.keys.items _ _ c.len-from.result c.len-middle.result c.len-end.result c.args.lines.now.items c.push.new.self.items c.args.shard _ c.in_ok-push_on.ensures.keys c.in_ok-push_on-2.ensures.keys (omega (arith, c.len-from.ensures)) (omega (arith, c.len-middle.ensures)) (omega (arith, c.len-end.ensures)) (subst (λ n. AreLines n 0 0 c.args.lines.now.items) (sym c.len-from.ensures) c.requires.lines) c.requires.below c.if-end-from.true (omega (arith, c.len-from.ensures, c.len-middle.ensures, c.in_ok-push_on.ensures.few, c.requires.few_reads)) (omega (arith, c.len-middle.ensures, c.len-end.ensures, c.in_ok-push_on-2.ensures.few, c.requires.few_writes)) refl c.in_ok-push.ensures.items).lines
