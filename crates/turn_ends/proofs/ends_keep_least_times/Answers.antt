use Rattle.turn_ends.proofs.Least.{begin_same, hear_same, act_same, stub_same}
use Rattle.turn_ends.proofs.ends_keep_least_times.Goals as goal

pub returns : goal.returns
returns c = record { begins = begin_same; hears = hear_same; acts = act_same; settles = stub_same }
