-- Operations fit: of a service, few keys, each with a home.
use Rattle.std.proofs.Common.{ℕ, List, [], ◌∷◌, ◌++◌, sym, subst}
use Rattle.std.specs.List.{All}
use Rattle.std.proofs.lemmas.List.Elements.{All-head, All-tail}
use Rattle.rss_names.specs.declared.service.Key.{Key}
use Rattle.causal_context.specs.Services.{IsService}
use Rattle.pipeline_lang.specs.declared.config.Config.{Config}
use Rattle.rss_model.specs.declared.op.Op.{Op}
use Rattle.rss_model.specs.declared.op.Op.TheVariants as op
use Rattle.rss_tables.specs.TransactionSession.{written_keys}
use Rattle.rss_machine.specs.declared.session.OwnerKind.TheVariants as kind
use Rattle.world_laws.specs.NamedKeys.{IsKey, op_keys}
use Rattle.world_laws.specs.Traffic.{OperationFits}
use Rattle.shard_lines.specs.Flat.{AreHomed}
use Rattle.owner_turns.specs.Going.{HomesFit}
use Rattle.owner_turns.specs.Whole.{OpFits}
use Rattle.turn_facts.specs.Facts.{CanBegin}

-- keys of the file have homes
homed : (c : Config) (keys : List Key) → All (IsKey c) keys → AreHomed c.homes keys
homed c [] h = tt
homed c (key ∷ keys) h = let k = All-head (IsKey c) key keys h in ((k.first, k.most), homed c keys (All-tail (IsKey c) key keys h))

homed_parts : (homes : List ℕ) (xs ys : List Key) → AreHomed homes (xs ++ ys) → AreHomed homes xs × AreHomed homes ys
homed_parts homes [] ys h = (tt, h)
homed_parts homes (x ∷ xs) ys h = let r = homed_parts homes xs ys h.1 in ((h.0, r.0), r.1)

pub op_homes : (c : Config) (x : Op) → All (IsKey c) (op_keys x) → HomesFit c (kind.Calling x)
op_homes c (op.Read key) h = (tt, tt, tt)
op_homes c (op.Write key value) h = (tt, tt, tt)
op_homes c (op.Snap keys) h = (tt, tt, homed c keys h)
op_homes c (op.Txn reads guard writes) h = let r = homed_parts c.homes reads (written_keys writes) (homed c (reads ++ written_keys writes) h) in (r.0, r.1, tt)

pub op_fits : (c : Config) (x : Op) → OperationFits c x → OpFits x
op_fits c (op.Read key) h = record { service = subst IsService (sym h.served.is) (h.served.first, h.served.last); few = tt }
op_fits c (op.Write key value) h = record { service = subst IsService (sym h.served.is) (h.served.first, h.served.last); few = tt }
op_fits c (op.Snap keys) h = record { service = subst IsService (sym h.served.is) h.served.service; few = h.few }
op_fits c (op.Txn reads guard writes) h = record { service = subst IsService (sym h.served.is) h.served.service; few = h.few }

pub can_begin : (c : Config) (x : Op) → OperationFits c x → CanBegin c x
can_begin c x h = record { fits = op_fits c x h; homes = op_homes c x h.keys }
