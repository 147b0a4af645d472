-- How a stage stands, by its turn and by what it waits for.
use Rattle.std.proofs.Common.{◌≡◌, refl}
use Rattle.pipeline_lang.specs.declared.config.Config.{Config}
use Rattle.rss_machine.specs.ReportText.{stage_state_text, live_text}
use Rattle.rss_machine.specs.declared.ending.StageState.{StageState}
use Rattle.rss_machine.specs.declared.ending.StageState.TheVariants as standing
use Rattle.rss_machine.specs.declared.turn.Turn.{Turn}
use Rattle.rss_machine.specs.declared.turn.Turn.TheVariants as turn
use Rattle.world_turns.specs.Asked.{blocked_by}
use Rattle.report_lines.specs.Pieces.{waits_text, standing_text}

waits_is : (c : Config) (t : Turn) → waits_text c (blocked_by t) ≡ live_text c t
waits_is c (turn.Blocked a) = refl
waits_is c (turn.Step kind) = refl
waits_is c (turn.Past kind time) = refl
waits_is c turn.Unborn = refl
waits_is c turn.Over = refl

pub standing_is : (c : Config) (t : Turn) (s : StageState) → standing_text c (blocked_by t) s ≡ stage_state_text c t s
standing_is c t standing.Unborn = refl
standing_is c t standing.Live = waits_is c t
standing_is c t standing.Exited = refl
standing_is c t (standing.Ended how end) = refl
