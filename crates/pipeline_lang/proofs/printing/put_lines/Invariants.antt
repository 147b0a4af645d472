use Rattle.std.proofs.Common.{◌≡◌, ◌≤◌, ◌++◌, drop}
use Rattle.pipeline_lang.specs.Printing.{lines_text, text_of}
use Rattle.pipeline_lang.proofs.printing.put_lines.Given as goal

abbrev pub invariant-loop-statement : goal.invariant-loop-statement
invariant-loop-statement l = record {
  printed : l.text.items ++ lines_text l.blocks (drop l.statement-index l.script) ≡ l.fn.text.items ++ text_of l.script;
  inside : l.blocks ≤ l.statement-index;
}
