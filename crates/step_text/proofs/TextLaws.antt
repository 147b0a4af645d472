-- What is read as a text of steps is its spelling.
use Rattle.std.proofs.Common.{◌≡◌, ℕ, List, ◌∷◌, [], ◌++◌, Ok, refl, sym, ap, ◌∙◌, append_assoc, All, length, arith}
use Rattle.std.proofs.lemmas.List.{append-nil}
use Rattle.std.proofs.lemmas.List.Elements.{All-nil, All-cons}
use Rattle.truetime.specs.Reading.{IsReading}
use Rattle.rss_machine.specs.declared.step.Step.{Step}
use Rattle.step_text.specs.Lines.{step_at}
use Rattle.step_text.specs.Spelling.{line_of, text_of, IsStep}
use Rattle.step_text.specs.Texts.{Reads}
use Rattle.step_text.proofs.LineLaws.{step_spelled}

-- one more line is read
pub reads_more : (bytes : List ℕ) (steps : List Step) (line : List ℕ) (step : Step) (rest : List ℕ) → Reads bytes steps line → step_at line ≡ Ok (step, rest) → Reads bytes (steps ++ step ∷ []) rest
reads_more bytes [] line step rest r e = (rest, ap step_at r ∙ e, refl)
reads_more bytes (s ∷ steps) line step rest r e = (r.0, r.1, reads_more r.0 steps line step rest r.2 e)

pub reads_spelled : (bytes : List ℕ) (steps : List Step) (rest : List ℕ) → Reads bytes steps rest → bytes ≡ text_of steps ++ rest
reads_spelled bytes [] rest r = r
reads_spelled bytes (s ∷ steps) rest r =
    let one = step_spelled s bytes r.0 r.1 in
    one.text ∙ ap (λ (l : List ℕ). line_of s ++ l) (reads_spelled r.0 steps rest r.2) ∙ sym (append_assoc (line_of s) (text_of steps) rest)

-- where nothing is left
pub reads_all : (bytes : List ℕ) (steps : List Step) (rest : List ℕ) → length rest ≡ 0 → Reads bytes steps rest → bytes ≡ text_of steps
reads_all bytes steps [] h r = reads_spelled bytes steps [] r ∙ append-nil (text_of steps)
reads_all bytes steps (b ∷ rest) h r = absurd (omega arith)

pub reads_steps : (bytes : List ℕ) (steps : List Step) (rest : List ℕ) → Reads bytes steps rest → All IsStep steps
reads_steps bytes [] rest r = All-nil IsStep
reads_steps bytes (s ∷ steps) rest r = All-cons IsStep s steps (step_spelled s bytes r.0 r.1).range (reads_steps r.0 steps rest r.2)

pub reads_readings : (bytes : List ℕ) (steps : List Step) (rest : List ℕ) → Reads bytes steps rest → All (λ step. IsReading step.at) steps
reads_readings bytes [] rest r = All-nil (λ (step : Step). IsReading step.at)
reads_readings bytes (s ∷ steps) rest r = All-cons (λ (step : Step). IsReading step.at) s steps (step_spelled s bytes r.0 r.1).range.at (reads_readings r.0 steps rest r.2)
