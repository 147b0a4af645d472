-- What stands in memory of a walk, as the walk that it means.
use Rattle.std.specs.Prelude.{map}
use Rattle.rss_model.specs.declared.history.Token.{Token}
use Rattle.rss_model.specs.declared.history.Token.TheVariants as token
use Rattle.rss_model.specs.Walk as walk
use Rattle.plain_walk.specs.declared.walk.Owed.{Owed}
use Rattle.plain_walk.specs.declared.walk.Owed.TheVariants.{EndMark, Exit}
use Rattle.plain_walk.specs.declared.walk.Mode.{Mode}
use Rattle.plain_walk.specs.declared.walk.Mode.TheVariants.{Unborn, Ready, InCall, Over}
use Rattle.plain_walk.specs.declared.walk.StageWalk.TheInside.{Inside}

-- what is still to be given, as a token
abbrev pub token_of : Owed → Token
token_of (EndMark pipe number) = token.Chunk pipe number
token_of (Exit stage) = token.Exit stage

-- the mode of a walk
abbrev pub mode_of : Mode → walk.Mode
mode_of Unborn = walk.unborn
mode_of Ready = walk.ready
mode_of (InCall call) = walk.in_call call
mode_of (Over how owed) = walk.over how (map token_of owed.items)

-- where a walk stands
abbrev pub walk_of : Inside → walk.Walk
walk_of s = record {
  cursor = record { position = s.position; blocks = s.blocks.items; variables = s.variables.items };
  given = s.given.items;
  taken = s.taken.items;
  closed = s.closed.items;
  mode = mode_of s.mode;
}
