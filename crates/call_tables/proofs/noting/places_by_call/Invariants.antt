use Rattle.std.proofs.Common.{◌≡◌, ℕ, drop}
use Rattle.rss_machine.specs.ReportText.{place_in}
use Rattle.call_tables.specs.Tables.{held, first_of}
use Rattle.call_tables.proofs.noting.places_by_call.Given as goal

-- what was noted of a call, or else what is left to note, is its place
abbrev pub invariant-loop-placed : goal.invariant-loop-placed
invariant-loop-placed l =
    (call : ℕ) → first_of (held l.table.items call) (place_in call (drop l.placed-index l.places)) ≡ place_in call l.places
