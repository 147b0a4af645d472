-- Which messages of a stage are still to come.
use Rattle.std.specs.Prelude.{ℕ, suc, List, [], ◌∷◌, Option, Some, None, if◌then◌else◌}
use Rattle.rss_wire.specs.declared.message.Message.{Message}
use Rattle.rss_machine.specs.Turns.{is_due}

-- the numbers of the messages of a stage that are still to come, ascending, where the first message of the list has the number `at`
abbrev pub due_from : ℕ → ℕ → List Message → List ℕ
due_from n at [] = []
due_from n at (m ∷ net) = if is_due n m then at ∷ due_from n (suc at) net else due_from n (suc at) net

-- the numbers of all messages of a stage that are still to come, ascending
abbrev pub due_numbers : ℕ → List Message → List ℕ
due_numbers n net = due_from n 0 net

-- the message at place 0, if there is one
abbrev pub message_zero : List Message → Option Message
message_zero [] = None
message_zero (m ∷ net) = Some m
