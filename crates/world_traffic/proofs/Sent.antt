-- An outbox of which all was sent is empty.
use Rattle.std.proofs.Common.{◌≡◌, List, [], ◌∷◌, ◌++◌}
use Rattle.rss_names.specs.declared.service.Target.{Target}
use Rattle.rss_wire.specs.declared.messages.Request.{Request}
use Rattle.rss_tables.specs.Outs.{Out, awaited}
use Rattle.owner_sessions.specs.Boxed.{outs_of, IsEmptyBox}
use Rattle.owner_sessions.specs.declared.outbox.Outbox.{Outbox}

none_first : (xs ys : List Out) → xs ++ ys ≡ [] → xs ≡ []
none_first [] ys e = cc
none_first (x ∷ xs) ys e = absurd (cc)

none_second : (xs ys : List Out) → xs ++ ys ≡ [] → ys ≡ []
none_second [] ys e = e
none_second (x ∷ xs) ys e = absurd (cc)

none_awaited : (rs : List (Target × Request)) → awaited rs ≡ [] → rs ≡ []
none_awaited [] e = cc
none_awaited (r ∷ rs) e = absurd (cc)

pub all_sent_so : (o : Outbox) → outs_of o ≡ [] → o.fences.items ≡ [] → IsEmptyBox o
all_sent_so o e f = record {
  lines = none_first o.lines.outs (awaited o.rounds.requests) e;
  rounds = none_awaited o.rounds.requests (none_second o.lines.outs (awaited o.rounds.requests) e);
  fences = f;
}

pub ruleset all_sent = (all_sent_so)
