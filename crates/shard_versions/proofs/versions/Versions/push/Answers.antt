use Rattle.std.proofs.Common.{◌<◌, ◌≤◌, length, ap, sym, ◌∙◌, arith}
use Rattle.shard_versions.specs.StoreView.{StoreView}
use Rattle.shard_versions.proofs.Placed as placed
use Rattle.shard_versions.proofs.versions.Versions.push.Goals as goal

pub push-requires-clause-room : goal.push-requires-clause-room
push-requires-clause-room c =
    let store = ap (λ (s : StoreView). s.store) c.self.view_is in
    let rooms = ap (λ (s : StoreView). s.rooms) c.self.view_is in
    let place = rw c.as_slice.ensures.value at c.place_of-place.ensures in
    let within : c.place_of-place.result < length c.self.inside.rows.items = omega (arith, ap length c.as_slice.ensures.value) in
    sym (placed.room-found c.self.inside.rows.items c.args.self.now c.args.key c.place_of-place.result store place c.index_mut.result.now rooms within c.index_mut.ensures.value) ∙ c.requires.room

pub push-requires-clause-above : goal.push-requires-clause-above
push-requires-clause-above c =
    let store = ap (λ (s : StoreView). s.store) c.self.view_is in
    let place = rw c.as_slice.ensures.value at c.place_of-place.ensures in
    let within : c.place_of-place.result < length c.self.inside.rows.items = omega (arith, ap length c.as_slice.ensures.value) in
    let e = placed.versions-found c.self.inside.rows.items c.args.self.now c.args.key c.place_of-place.result store place c.index_mut.result.now within c.index_mut.ensures.value in
    rw e at c.requires.above

pub returns-then-place-len-clause-pushed : goal.returns-then-place-len-clause-pushed
returns-then-place-len-clause-pushed c =
    let store = ap (λ (s : StoreView). s.store) c.self.view_is in
    let place = rw c.as_slice.ensures.value at c.place_of-place.ensures in
    let within : c.place_of-place.result < length c.self.inside.rows.items = omega (arith, ap length c.as_slice.ensures.value) in
    placed.version-pushed c.self.inside.rows.items c.args.self.now c.args.key c.place_of-place.result store place c.index_mut.result.now c.push.new.self c.args.version within c.index_mut.ensures.value c.push.ensures

pub returns-then-place-len-clause-others : goal.returns-then-place-len-clause-others
returns-then-place-len-clause-others c = λ k o m.
    let store = ap (λ (s : StoreView). s.store) c.self.view_is in
    let rooms = ap (λ (s : StoreView). s.rooms) c.self.view_is in
    let place = rw c.as_slice.ensures.value at c.place_of-place.ensures in
    let within : c.place_of-place.result < length c.self.inside.rows.items = omega (arith, ap length c.as_slice.ensures.value) in
    placed.others-stay c.self.inside.rows.items c.args.self.now c.args.key c.place_of-place.result store place c.index_mut.result.now c.push.new.self k _ rooms within c.index_mut.ensures.value c.push.ensures o m

pub returns-else-place-len-clause-pushed : goal.returns-else-place-len-clause-pushed
returns-else-place-len-clause-pushed c =
    let store = ap (λ (s : StoreView). s.store) c.self.view_is in
    let place = rw c.as_slice.ensures.value at c.place_of-place.ensures in
    let behind : length c.self.inside.rows.items ≤ c.place_of-place.result = omega (arith, ap length c.as_slice.ensures.value) in
    placed.version-unneeded c.self.inside.rows.items c.args.self.now c.args.key c.place_of-place.result store place c.args.version behind
