use Rattle.fence_laws.proofs.StepsOf as steps_of
use Rattle.fence_laws.proofs.laws.steps_of_times_fit_moments.Goals as goal

pub returns : goal.returns
returns c = steps_of.times_run
