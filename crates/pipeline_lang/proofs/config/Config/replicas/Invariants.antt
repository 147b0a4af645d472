use Rattle.std.proofs.Common.{◌≡◌, drop}
use Rattle.pipeline_lang.specs.Config.{replicas_among}
use Rattle.pipeline_lang.proofs.config.Config.replicas.Given as goal

abbrev pub invariant-loop-def : goal.invariant-loop-def
invariant-loop-def l =
    replicas_among l.service l.self.services ≡ replicas_among l.service (drop l.def-index l.self.services)
