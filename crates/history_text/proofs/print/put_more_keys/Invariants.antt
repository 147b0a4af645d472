use Rattle.std.proofs.Common.{◌≡◌, ◌++◌, drop}
use Rattle.history_text.specs.Spelling.{more_text}
use Rattle.pipeline_lang.specs.Config.{key_name}
use Rattle.history_text.proofs.print.put_more_keys.Given as goal

abbrev pub invariant-loop-key : goal.invariant-loop-key
invariant-loop-key l = l.text.items ++ more_text (key_name l.config) (drop l.key-index l.keys) ≡ l.fn.text.items ++ more_text (key_name l.config) l.fn.keys
