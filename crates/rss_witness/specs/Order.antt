-- The order by which placed calls are sorted.
use Rattle.std.specs.declared.cmp.Ordering.{Ordering}
use Rattle.rss_machine.specs.contracts.place.PlaceKeyOrd.TheImpl as o
use Rattle.rss_machine.specs.declared.place.PlaceKey.{PlaceKey}
use Rattle.rss_machine.specs.declared.place.KeyedCall.{KeyedCall}

-- the key of a call
abbrev pub key_of : KeyedCall → PlaceKey
key_of c = c.key

-- how keys compare: part by part
unfoldable pub key_order : PlaceKey → PlaceKey → Ordering
key_order = (o.ghosts).cmp
