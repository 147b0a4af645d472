use Rattle.std.proofs.Common.{◌<◌, ◌≤◌, length, ap, arith}
use Rattle.shard_versions.specs.StoreView.{StoreView}
use Rattle.shard_versions.proofs.Placed as placed
use Rattle.shard_versions.proofs.versions.Versions.make_room.Goals as goal

pub returns-then-place-len-clause-room : goal.returns-then-place-len-clause-room
returns-then-place-len-clause-room c =
    let store = ap (λ (s : StoreView). s.store) c.self.view_is in
    let rooms = ap (λ (s : StoreView). s.rooms) c.self.view_is in
    let place = rw c.as_slice.ensures.value at c.place_of-place.ensures in
    let behind : length c.self.inside.rows.items ≤ c.place_of-place.result = omega (arith, ap length c.as_slice.ensures.value) in
    placed.room-unneeded c.self.inside.rows.items c.args.self.now c.args.key c.place_of-place.result store place rooms behind

pub returns-in_err-make_room-clause-same : goal.returns-in_err-make_room-clause-same
returns-in_err-make_room-clause-same c =
    let store = ap (λ (s : StoreView). s.store) c.self.view_is in
    let rooms = ap (λ (s : StoreView). s.rooms) c.self.view_is in
    let place = rw c.as_slice.ensures.value at c.place_of-place.ensures in
    let within : c.place_of-place.result < length c.self.inside.rows.items = omega (arith, ap length c.as_slice.ensures.value) in
    placed.store-same c.self.inside.rows.items c.args.self.now c.args.key c.place_of-place.result store place c.index_mut.result.now c.make_room.new.self within c.index_mut.ensures.value c.in_err-make_room.ensures.same

pub returns-in_err-make_room-clause-kept : goal.returns-in_err-make_room-clause-kept
returns-in_err-make_room-clause-kept c = λ k m.
    let store = ap (λ (s : StoreView). s.store) c.self.view_is in
    let rooms = ap (λ (s : StoreView). s.rooms) c.self.view_is in
    let place = rw c.as_slice.ensures.value at c.place_of-place.ensures in
    let within : c.place_of-place.result < length c.self.inside.rows.items = omega (arith, ap length c.as_slice.ensures.value) in
    rw (placed.store-same c.self.inside.rows.items c.args.self.now c.args.key c.place_of-place.result store place c.index_mut.result.now c.make_room.new.self within c.index_mut.ensures.value c.in_err-make_room.ensures.same, placed.rooms-same c.self.inside.rows.items c.args.self.now c.args.key c.place_of-place.result store place c.index_mut.result.now c.make_room.new.self rooms within c.index_mut.ensures.value c.in_err-make_room.ensures.unchanged) m

pub returns-clause-same : goal.returns-clause-same
returns-clause-same c =
    let store = ap (λ (s : StoreView). s.store) c.self.view_is in
    let rooms = ap (λ (s : StoreView). s.rooms) c.self.view_is in
    let place = rw c.as_slice.ensures.value at c.place_of-place.ensures in
    let within : c.place_of-place.result < length c.self.inside.rows.items = omega (arith, ap length c.as_slice.ensures.value) in
    placed.store-same c.self.inside.rows.items c.args.self.now c.args.key c.place_of-place.result store place c.index_mut.result.now c.make_room.new.self within c.index_mut.ensures.value c.in_ok-make_room.ensures.same

pub returns-clause-room : goal.returns-clause-room
returns-clause-room c =
    let store = ap (λ (s : StoreView). s.store) c.self.view_is in
    let rooms = ap (λ (s : StoreView). s.rooms) c.self.view_is in
    let place = rw c.as_slice.ensures.value at c.place_of-place.ensures in
    let within : c.place_of-place.result < length c.self.inside.rows.items = omega (arith, ap length c.as_slice.ensures.value) in
    placed.room-made c.self.inside.rows.items c.args.self.now c.args.key c.place_of-place.result store place c.index_mut.result.now c.make_room.new.self within c.index_mut.ensures.value c.in_ok-make_room.ensures.same c.in_ok-make_room.ensures.room

pub returns-clause-kept : goal.returns-clause-kept
returns-clause-kept c = λ k m.
    let store = ap (λ (s : StoreView). s.store) c.self.view_is in
    let rooms = ap (λ (s : StoreView). s.rooms) c.self.view_is in
    let place = rw c.as_slice.ensures.value at c.place_of-place.ensures in
    let within : c.place_of-place.result < length c.self.inside.rows.items = omega (arith, ap length c.as_slice.ensures.value) in
    placed.rooms-stay c.self.inside.rows.items c.args.self.now c.args.key c.place_of-place.result store place c.index_mut.result.now c.make_room.new.self k rooms within c.index_mut.ensures.value c.in_ok-make_room.ensures.same c.in_ok-make_room.ensures.room m
