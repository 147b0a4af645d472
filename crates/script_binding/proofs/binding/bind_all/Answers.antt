use Rattle.std.proofs.Common.{◌+◌, ◌<◌, ◌≡◌, ◌≤◌, length, get_or, List, Ok, ap, subst, arith}
use Rattle.script_binding.specs.declared.environment.Environment.{Environment}
use Rattle.pipeline_lang.specs.Statements.{Raw}
use Rattle.script_binding.specs.Naming.{naming}
use Rattle.script_binding.specs.Outcome.{Advances}
use Rattle.script_binding.proofs.Passing.{goes_on}
use Rattle.script_binding.proofs.binding.bind_all.Goals as goal

pub loop-statement-preserved : goal.loop-statement-preserved
loop-statement-preserved c =
    let items = c.as_slice-statement-items.ensures in
    let i = c.loop-statement.statement-index in
    let n = naming c.args.names.now in
    let env = c.loop-statement.environment in
    let later = c.advance.new.environment in
    let s = c.statement-item.result in
    let test : i < length c.args.raw.now = subst (λ (l : List Raw). i < length l) items c.loop-statement-test.true in
    let here : s ≡ get_or c.args.raw.now i s = subst (λ (l : List Raw). s ≡ get_or l i s) items c.statement-item.is in
    let made : Advances n env later s (Ok c.in-Ok-Ok.made) = rw c.in-Ok-Ok.field-0-is at c.in-Ok-Ok.ensures.advances in
    let room : env.statements < 256 = rw c.in-Ok-Ok.field-0-is at c.in-Ok-Ok.ensures.room in
    let nested : later.depth ≤ later.statements = rw c.in-Ok-Ok.field-0-is at c.in-Ok-Ok.ensures.nested in
    let counted : later.statements ≡ env.statements + 1 = ap (λ (x : Environment). x.statements) made.2 in (
      goes_on n _ c.loop-statement.script c.push_statement.new.script env later c.args.raw.now i s c.in-Ok-Ok.made test here made c.in-Ok.ensures c.loop-statement.invariant.0,
      nested,
      omega (arith, room, counted),
    )
