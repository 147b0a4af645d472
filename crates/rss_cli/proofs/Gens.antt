-- The words `gen N` name one number.
use Rattle.std.proofs.Common.{◌≡◌, ℕ, ◌<◌, ◌^◌, List, [], ◌∷◌, Ok, Err, IfOk, refl, ap, sym, ◌∙◌, subst, arith}
use Rattle.std.proofs.lemmas.Fmt.{decimal_injective}
use Rattle.std.specs.Fmt.{decimal}
use Rattle.std.specs.Prelude.{Result, MatchResult, codes}
use Rattle.command_words.specs.Generated.{IsGen}
use Rattle.rss_machine.specs.Generated.{generated_file}
use Rattle.rss_cli.specs.declared.answer.Answer.{Answer}
use Rattle.rss_cli.specs.declared.commands.Halt.{Halt}
use Rattle.rss_cli.specs.declared.commands.Halt.TheVariants as halt
use Rattle.rss_cli.specs.declared.status.Status.TheVariants.{Done}

-- the second of some words
abbrev second_of : List (List ℕ) → List ℕ
second_of [] = []
second_of (first ∷ []) = []
second_of (first ∷ word ∷ words) = word

-- two numbers of the same words are one
one_number : (words : List (List ℕ)) (n k : ℕ) → IsGen words n → IsGen words k → n ≡ k
one_number words n k g h =
    let low = g.file.high in
    let high = h.file.high in
    decimal_injective n k (omega (arith, low)) (omega (arith, high)) (ap second_of (sym g.called ∙ h.called))

-- what was generated is the file of each number that the words name
pub told : {E : Type 0} (words : List (List ℕ)) (n : ℕ) (r : Result Answer E) (s : Result Answer Halt) (k : ℕ) → IsGen words n → IfOk r (λ a. a.text.items ≡ generated_file n) → IfOk r (λ a. a.status ≡ Done) → IfOk s (λ a. r ≡ Ok a) → (s ≡ Err halt.ReadFault → ⊥) → IsGen words k → MatchResult s (λ a. (a.text.items ≡ generated_file k) × (a.status ≡ Done)) (λ e. e ≡ halt.OutOfMemory)
told {E} words n r (Ok a) k g text status same cause h =
    let one : n ≡ k = one_number words n k g h in (
      subst (λ (m : ℕ). a.text.items ≡ generated_file m) one (subst (λ (o : Result Answer E). IfOk o (λ b. b.text.items ≡ generated_file n)) same text),
      subst (λ (o : Result Answer E). IfOk o (λ b. b.status ≡ Done)) same status,
    )
told words n r (Err halt.OutOfMemory) k g text status same cause h = refl
told words n r (Err halt.ReadFault) k g text status same cause h = absurd (cause refl)
