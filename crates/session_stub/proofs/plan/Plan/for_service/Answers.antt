use Rattle.std.proofs.Common.{ap, ◌∙◌, ◌++◌, ◌||◌, ◌==◌, not, length, List, ℕ}
use Rattle.rss_names.specs.declared.service.ServiceId.{ServiceId}
use Rattle.rss_tables.specs.declared.fences.FenceWork.{FenceWork}
use Rattle.std.specs.Prelude.{Some}
use Rattle.session_stub.specs.Picked.{fences_from}
use Rattle.session_stub.proofs.Picks.{plan_for_is}
use Rattle.session_stub.proofs.plan.Plan.for_service.Goals as goal

pub returns : goal.returns
returns c = plan_for_is c.args.context.now.seen c.args.id c.add_fences.new.fences.items _ c.in_ok-add_fences.ensures.services (c.in_ok-add_fences.ensures.added ∙ ap (λ (l : List (ServiceId × FenceWork)). l ++ fences_from c.args.context.now.seen (Some c.args.id) 0 16) c.new-fences.ensures.items) (c.enters-enter.ensures ∙ ap (λ (l : List (ServiceId × FenceWork)). c.args.context.now.seen.last.outside || not (length l == 0)) c.as_slice.ensures.value)
