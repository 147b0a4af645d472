use Rattle.shard_laws.proofs.ReleasesClose.{release_closes, released_from, released_stay, released_told}
use Rattle.shard_laws.proofs.applying.releases_close_what_was_shown.Goals as goal

pub returns-clause-closes : goal.returns-clause-closes
returns-clause-closes c = release_closes

pub returns-clause-asked : goal.returns-clause-asked
returns-clause-asked c = released_from

pub returns-clause-stays : goal.returns-clause-stays
returns-clause-stays c = released_stay

pub returns-clause-told : goal.returns-clause-told
returns-clause-told c = released_told
