-- An input that was read is served by the command that the words are.
use Rattle.std.proofs.Common.{◌≡◌, ℕ, List, inl, inr, Ok, Err, Some, None, IfOk, IfSome, sym, subst}
use Rattle.std.specs.Prelude.{Result, Option}
use Rattle.command_words.specs.Words.{IsCalled}
use Rattle.command_words.specs.declared.command.Command.{Command}
use Rattle.rss_cli.specs.Answer.{IsAnswer, IsReadBy}
use Rattle.rss_cli.specs.declared.answer.Answer.{Answer}
use Rattle.rss_cli.specs.declared.commands.Halt.{Halt}

-- the answer of the command to what was left to read
answered : (words : List (List ℕ)) (command : Command) (left : Option (List ℕ)) (input text : List ℕ) (a : Answer) → IsCalled command words → IfSome left (λ whole. input ≡ whole) → IsReadBy command input a.text.items a.status → IfSome left (λ whole. IsAnswer words whole a.text.items a.status)
answered words command (Some whole) input text a called same answer =
    inr (inl (record {
      command = command;
      called = called;
      answer = inl (subst (λ (bytes : List ℕ). IsReadBy command bytes a.text.items a.status) same answer);
    }))
answered words command None input text a called same answer = same

-- and so of what is made of it, where the command was given a view of what was read
pub served : {E : Type 0} (words : List (List ℕ)) (command : Command) (left : Option (List ℕ)) (read input : List ℕ) (r : Result Answer E) (s : Result Answer Halt) → IsCalled command words → input ≡ read → IfSome left (λ whole. read ≡ whole) → IfOk r (λ a. IsReadBy command input a.text.items a.status) → IfOk s (λ a. r ≡ Ok a) → IfOk s (λ a. IfSome left (λ whole. IsAnswer words whole a.text.items a.status))
served {E} words command left read input r (Ok a) called view same answer made =
    let told = subst (λ (o : Result Answer E). IfOk o (λ b. IsReadBy command input b.text.items b.status)) made answer in
    answered words command left read a.text.items a called same (subst (λ (bytes : List ℕ). IsReadBy command bytes a.text.items a.status) view told)
served words command left read input r (Err e) called view same answer made = made
