-- The text of steps of the grammar is theirs alone.
use Rattle.std.proofs.Common.{◌≡◌, ℕ, List, [], ◌∷◌, All, refl, sym, subst}
use Rattle.rss_machine.specs.declared.step.Step.{Step}
use Rattle.step_text.specs.Spelling.{IsStep, text_of}
use Rattle.step_text.specs.Texts.{IsBadStep, Reads}
use Rattle.step_text.proofs.TextsAgain.{text_again, reads_once, spelled_whole}
use Rattle.log_laws.specs.Laws.{IsReadAlone}

pub read_alone : (steps : List Step) → All IsStep steps → IsReadAlone steps
read_alone steps g = record {
  alone = λ others h e. reads_once (text_of steps) steps others (text_again steps g) (subst (λ (text : List ℕ). Reads text others []) (sym e) (text_again others h));
  no_bad = λ number column b. spelled_whole (text_of steps) b.front b.line b.left b.before b.more b.place steps g refl;
}
