use Rattle.std.proofs.Common.{◌≡◌, ◌≤◌, length, vec_len}
use Rattle.std.specs.List.{filter}
use Rattle.pipeline_lang.specs.Tokens.{is_statement, lines_left}
use Rattle.pipeline_lang.specs.Scripts.{script_of, statements_of}
use Rattle.pipeline_lang.proofs.ScriptLaws.{behind}
use Rattle.pipeline_lang.proofs.scripts.read_script.Given as goal

abbrev pub invariant-loop-rest : goal.invariant-loop-rest
invariant-loop-rest l = record {
  read : script_of l.text ≡ behind l.script.items (statements_of (vec_len l.script) l.depth l.end (filter is_statement (lines_left l.rest)));
  inside : l.depth ≤ vec_len l.script;
}

abbrev pub decreases-loop-rest : goal.decreases-loop-rest
decreases-loop-rest l = length (lines_left l.rest)
