use Rattle.plain_model.proofs.LegalTurns.{MetAbove}
use Rattle.rss_check.specs.Table.{table_in}
use Rattle.rss_check.proofs.Tables.{IsTableAt}
use Rattle.rss_check.proofs.legal.first_unmet.Given as goal

-- the calls so far meet the table, and their writes made it
abbrev pub invariant-loop-call : goal.invariant-loop-call
invariant-loop-call l = record {
  met : MetAbove l.h l.c l.call-index;
  made : IsTableAt l.h l.c l.call-index (table_in l.table);
}
