-- Statuses: the number of each, and that of each ending.
use Rattle.std.specs.Prelude.{ℕ}
use Rattle.rss_machine.specs.declared.ending.Ending.{Ending}
use Rattle.rss_machine.specs.declared.ending.Ending.TheVariants as ending
use Rattle.rss_cli.specs.declared.status.Status.{Status}
use Rattle.rss_cli.specs.declared.status.Status.TheVariants.{Done, Unfinished, Limit, Stuck, Hurt, Usage, File, BadStep, ReadFault, WriteFault, OutOfMemory}

-- the number with which the program exits
abbrev pub status_code : Status → ℕ
status_code Done = 0
status_code Unfinished = 1
status_code Usage = 2
status_code File = 2
status_code BadStep = 2
status_code Limit = 3
status_code Stuck = 4
status_code Hurt = 5
status_code ReadFault = 6
status_code WriteFault = 7
status_code OutOfMemory = 10

-- the status of a run that was reported
abbrev pub status_of : Ending → Status
status_of ending.Done = Done
status_of ending.Unfinished = Unfinished
status_of ending.Limit = Limit
status_of ending.Stuck = Stuck
status_of ending.Hurt = Hurt
