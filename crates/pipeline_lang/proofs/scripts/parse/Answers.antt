use Rattle.pipeline_lang.proofs.Grammatical.{parse_spelled, parse_only}
use Rattle.pipeline_lang.proofs.scripts.parse.Goals as goal

pub returns-clause-spelled : goal.returns-clause-spelled
returns-clause-spelled c = parse_spelled _ _ c.read_script.ensures.read

pub returns-clause-only : goal.returns-clause-only
returns-clause-only c = parse_only _ _ c.read_script.ensures.read
