use Rattle.std.proofs.Common.{◌≡◌, drop}
use Rattle.causal_context.specs.Deps.{deps_of}
use Rattle.rss_tables.specs.Works.{fix_unless_none}
use Rattle.session_stub.proofs.plan.fix_of.Given as goal

abbrev pub invariant-loop-dep : goal.invariant-loop-dep
invariant-loop-dep l = fix_unless_none (deps_of l.id l.deps) ≡ fix_unless_none (deps_of l.id (drop l.dep-index l.deps))
