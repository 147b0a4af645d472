use Rattle.rss_model.specs.Samples.{exchanged}
use Rattle.rss_model.proofs.RegularSample.{regular}
use Rattle.rss_model.proofs.laws.read_follows_its_write.Goals as goal

-- src/laws.rt:16:1
pub returns-clause-follows : goal.returns-clause-follows
returns-clause-follows c = regular

-- src/laws.rt:16:1
pub returns-clause-leads_not : goal.returns-clause-leads_not
returns-clause-leads_not c = exchanged
