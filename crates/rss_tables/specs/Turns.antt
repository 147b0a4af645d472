-- What one event does to a session: how it stands then, whether a new phase begins, so that no
-- older exchange is current any more, and what it sends.
use Rattle.std.specs.Prelude.{Bool, false, List, []}
use Rattle.rss_tables.specs.Outs.{Out}

pub record Turn (S : Type 0) : Type 0 where
  pub after : S
  pub anew : Bool
  pub outs : List Out

-- nothing is sent
abbrev pub quiet : {S : Type 0} → S → Turn S
quiet s = record { after = s; anew = false; outs = [] }
