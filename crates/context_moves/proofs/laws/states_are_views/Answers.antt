use Rattle.fence_laws.proofs.StepsOf.{times_run}
use Rattle.reg_laws.proofs.Agree.{agree_run}
use Rattle.world_laws.proofs.ToldLaws.{told_run}
use Rattle.context_moves.proofs.Ended.{is_view}
use Rattle.context_moves.proofs.laws.states_are_views.Goals as goal

pub returns : goal.returns
returns g c steps s h e = is_view c s (times_run c steps s e).moments.rise (told_run c steps s e).told (record { each = (agree_run c steps s e).each }) h
