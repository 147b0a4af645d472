use Rattle.std.proofs.Common.{◌≡◌, ℕ, ◌<◌}
use Rattle.rss_names.specs.declared.service.Key.{Key}
use Rattle.rss_model.specs.Candidate.{StandsAt}
use Rattle.rss_model.specs.Legal.{MeetsTable, table_at}
use Rattle.plain_model.specs.Written.{table_of}
use Rattle.plain_model.proofs.legality.is_legal.Given as goal

-- the calls so far meet the table, and their writes made it
abbrev pub invariant-loop-call : goal.invariant-loop-call
invariant-loop-call l = record {
  met : (call i : ℕ) → i < l.call-index → StandsAt l.c call i →
      MeetsTable l.h (table_at l.h l.c i) call;
  made : (key : Key) → table_of l.written.items key ≡ table_at l.h l.c l.call-index key;
}
