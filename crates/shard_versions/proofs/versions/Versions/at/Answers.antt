use Rattle.std.proofs.Common.{List, ◌<◌, ◌≤◌, length, ap, sym, ◌∙◌, arith}
use Rattle.rss_wire.specs.declared.messages.Version.{Version}
use Rattle.rss_tables.specs.Versions.{opening_version, last_upto}
use Rattle.shard_versions.specs.StoreView.{StoreView}
use Rattle.shard_versions.proofs.Placed as placed
use Rattle.shard_versions.proofs.versions.Versions.at.Goals as goal

pub returns-then-place-len : goal.returns-then-place-len
returns-then-place-len c =
    let store = ap (λ (s : StoreView). s.store) c.self.view_is in
    let place = rw c.as_slice.ensures.value at c.place_of-place.ensures in
    let within : c.place_of-place.result < length c.self.inside.rows.items = omega (arith, ap length c.as_slice.ensures.value) in
    c.at.ensures ∙ ap (λ (vs : List Version). last_upto opening_version c.args.time vs) (sym (placed.versions-found c.self.inside.rows.items c.args.self.now c.args.key c.place_of-place.result store place c.index.result.now within c.index.ensures))

pub returns : goal.returns
returns c =
    let store = ap (λ (s : StoreView). s.store) c.self.view_is in
    let place = rw c.as_slice.ensures.value at c.place_of-place.ensures in
    let behind : length c.self.inside.rows.items ≤ c.place_of-place.result = omega (arith, ap length c.as_slice.ensures.value) in
    ap (λ (vs : List Version). last_upto opening_version c.args.time vs) (sym (placed.none-there c.self.inside.rows.items c.args.self.now c.args.key c.place_of-place.result store place behind))
