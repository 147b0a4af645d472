-- Parsing answers a script exactly where the text spells it.
use Rattle.std.proofs.Common.{◌≡◌, ℕ, List, Result, Ok, Err, sym, ◌∙◌, refl}
use Rattle.std.specs.Prelude.{IfOk, MatchResult}
use Rattle.pipeline_lang.specs.declared.error.ParseError.{ParseError}
use Rattle.pipeline_lang.specs.declared.error.ParseError.TheVariants.{Syntax, OutOfMemory}
use Rattle.pipeline_lang.specs.Statements.{Raw}
use Rattle.pipeline_lang.specs.Scripts.{Place, Parses, script_of}
use Rattle.pipeline_lang.specs.Grammar.{Spells}
use Rattle.pipeline_lang.specs.Printing.{text_of}
use Rattle.pipeline_lang.specs.Spelled.{IsScript}
use Rattle.pipeline_lang.proofs.ScriptsAgain.{printed_again}
use Rattle.pipeline_lang.proofs.Spelled.{script_read, scripts_same}
use Rattle.pipeline_lang.proofs.StatementsRead.{script_read_words}
use Rattle.pipeline_lang.proofs.Reread.{script_after}

pub script_spelled : (text : List ℕ) (script : List Raw) → script_of text ≡ Ok script → Spells text script
script_spelled text script e = record { lines = script_read_words text script e; written = script_read text script e }

pub parse_spelled : (text : List ℕ) (r : Result (List Raw) ParseError) → Parses r (script_of text) → IfOk r (λ script. Spells text script)
parse_spelled text (Ok script) h = script_spelled text script h
parse_spelled text (Err e) h = tt

not_both : (r : Result (List Raw) Place) (p : Place) (script : List Raw) → r ≡ Err p → r ≡ Ok script → ⊥
not_both r p script e f = cc

pub parse_only : (text : List ℕ) (r : Result (List Raw) ParseError) → Parses r (script_of text) → (script : List Raw) → Spells text script → MatchResult r (λ read. read ≡ script) (λ e. e ≡ OutOfMemory)
parse_only text (Ok read) h script s = scripts_same read script (sym h ∙ script_after text script s.lines s.written)
parse_only text (Err (Syntax number column)) h script s = absurd (not_both (script_of text) (record { statement = number; column = column }) script h (script_after text script s.lines s.written))
parse_only text (Err OutOfMemory) h script s = refl

-- a printed text spells the script
pub printed_spelled : (script : List Raw) (text : List ℕ) → text ≡ text_of script → IsScript script → Spells text script
printed_spelled script text e h = script_spelled text script (printed_again script text e h)

pub ruleset printed = (printed_again, printed_spelled)
