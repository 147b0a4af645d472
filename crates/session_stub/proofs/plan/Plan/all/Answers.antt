use Rattle.std.proofs.Common.{ap, ◌∙◌, ◌++◌, List}
use Rattle.rss_names.specs.declared.service.ServiceId.{ServiceId}
use Rattle.rss_tables.specs.declared.fences.FenceWork.{FenceWork}
use Rattle.std.specs.Prelude.{None}
use Rattle.session_stub.specs.Picked.{fences_from}
use Rattle.session_stub.proofs.Picks.{plan_all_is}
use Rattle.session_stub.proofs.plan.Plan.all.Goals as goal

pub returns : goal.returns
returns c = plan_all_is c.args.context.now.seen c.add_fences.new.fences.items c.in_ok-add_fences.ensures.services (c.in_ok-add_fences.ensures.added ∙ ap (λ (l : List (ServiceId × FenceWork)). l ++ fences_from c.args.context.now.seen None 0 16) c.new-fences.ensures.items)
