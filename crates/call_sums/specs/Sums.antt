-- Sums of calls as the report's definitions see them.
use Rattle.std.specs.Prelude.{ℕ, ◌+◌, ◌<◌, Bool, true, false, List}
use Rattle.rss_model.specs.declared.history.Entry.{Entry}
use Rattle.rss_model.specs.declared.history.Entry.TheVariants.{Begin, End, Give, Get, Over}
use Rattle.rss_model.specs.History.{has_ended}
use Rattle.rss_machine.specs.ReportText.{Sums, counts_begin}
use Rattle.call_sums.specs.declared.counting.Sums.{Sums as Counted}

-- the sums of the report that these are
abbrev pub told : Counted → Sums
told sums = record { reads = sums.reads; writes = sums.writes; snaps = sums.snaps; txns = sums.txns; not_ended = sums.not_ended }

-- a call is counted among those that have not ended, unless it has
abbrev pub counts_open : Bool → Sums → Sums
counts_open true sums = sums
counts_open false sums = record sums { not_ended = sums.not_ended + 1 }

-- sums after an entry of a history
abbrev pub after_entry : List Entry → Entry → Sums → Sums
after_entry h (Begin call n o) sums = counts_open (has_ended h call) (counts_begin o true sums)
after_entry h (End call shown) sums = sums
after_entry h (Give n token) sums = sums
after_entry h (Get n token) sums = sums
after_entry h (Over n how) sums = sums

-- each of these sums is below a bound
pub record AreBelow (sums : Counted) (bound : ℕ) : Type 0 where
  pub reads : sums.reads < bound
  pub writes : sums.writes < bound
  pub snaps : sums.snaps < bound
  pub txns : sums.txns < bound
  pub not_ended : sums.not_ended < bound
