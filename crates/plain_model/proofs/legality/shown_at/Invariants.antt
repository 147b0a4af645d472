use Rattle.std.proofs.Common.{◌≡◌}
use Rattle.rss_names.specs.declared.service.Key.{Key}
use Rattle.rss_model.specs.Legal.{table_at}
use Rattle.plain_model.specs.Written.{table_of}
use Rattle.plain_model.proofs.legality.shown_at.Given as goal

-- the writes of the calls so far made the table
abbrev pub invariant-loop-before : goal.invariant-loop-before
invariant-loop-before l =
    (key : Key) → table_of l.written.items key ≡ table_at l.h l.order l.before key
