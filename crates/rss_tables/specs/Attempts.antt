-- Attempts of transactions: which is which, and which is older.
use Rattle.std.specs.Prelude.{ℕ, Bool, true, false, ◌&&◌, ◌||◌, ◌==◌, List, [], ◌∷◌, ◌++◌, nat_lt, if◌then◌else◌}
use Rattle.std.specs.List.{list_any}
use Rattle.rss_names.specs.declared.attempt.Attempt.{Attempt}

-- whether two attempts are the same
abbrev pub same_attempt : Attempt → Attempt → Bool
same_attempt a b = a.call == b.call && a.k == b.k

-- whether an attempt is in a list
abbrev pub has_attempt : List Attempt → Attempt → Bool
has_attempt attempts a = list_any (same_attempt a) attempts

-- attempts are ordered by call and then by their number within the call
abbrev pub attempt_lt : Attempt → Attempt → Bool
attempt_lt a b = nat_lt a.call b.call || (a.call == b.call && nat_lt a.k b.k)

-- whether an attempt is younger than another: of a later call, or an earlier attempt of the same call
abbrev pub is_younger : Attempt → Attempt → Bool
is_younger a b = nat_lt b.call a.call || (a.call == b.call && nat_lt a.k b.k)

-- an attempt joins a list, once
abbrev pub with_attempt : List Attempt → Attempt → List Attempt
with_attempt attempts a = if has_attempt attempts a then attempts else attempts ++ a ∷ []
