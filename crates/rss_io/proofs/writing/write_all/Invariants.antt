use Rattle.std.proofs.Common.{◌≤◌, ◌-◌, take, length}
use Rattle.std.specs.Io.KnownBytes.{Appends}
use Rattle.rss_io.proofs.writing.write_all.Given as goal

abbrev pub invariant-loop-count : goal.invariant-loop-count
invariant-loop-count g l =
    Appends (g.K.Sink.written l.fn.sink) (g.K.Sink.written l.sink) (take l.count l.bytes)
    × (l.count ≤ length l.bytes)
    × (g.K.Sink.sink_faults l.fn.sink ≤ g.K.Sink.sink_faults l.sink)

abbrev pub decreases-loop-count : goal.decreases-loop-count
decreases-loop-count g l = length l.bytes - l.count
