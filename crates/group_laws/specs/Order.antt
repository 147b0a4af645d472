-- The order of ballots, as facts.
use Rattle.std.specs.Prelude.{◌≡◌, true}
use Rattle.group_tables.specs.declared.messages.Ballot.{Ballot}
use Rattle.group_tables.specs.Ballots.{ballot_lt, ballot_le}

pub record IsBelow (a b : Ballot) : Type 0 where
  pub is : ballot_lt a b ≡ true

pub record IsUpTo (a b : Ballot) : Type 0 where
  pub is : ballot_le a b ≡ true
