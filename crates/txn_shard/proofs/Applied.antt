-- A write that became a version leaves the room of the other writes, and needs none itself any more.
use Rattle.std.proofs.Common.{◌≡◌, ℕ, ◌≤◌, Bool, true, false, ◌||◌, ◌&&◌, List, [], ◌∷◌, ◌++◌, refl, sym, ap, ◌∙◌, arith, nat_le, nat_eq, ◌<◌, suc, zero, length, take, get_or}
use Rattle.std.specs.List.{list_any, list_all}
use Rattle.std.proofs.lemmas.Grind.{common_steps}
use Rattle.std.proofs.lemmas.List.Folds.{list_any-append}
use Rattle.rss_names.specs.declared.service.Key.{Key}
use Rattle.rss_names.specs.declared.service.ServiceId.{ServiceId}
use Rattle.rss_names.specs.declared.service.ServiceId.TheVariants.{Txn, Reg}
use Rattle.rss_names.specs.Services.{same_key, same_service}
use Rattle.rss_wire.specs.declared.messages.Version.{Version}
use Rattle.rss_tables.specs.Versions.{KeyVersions, versions_of, with_version}
use Rattle.rss_tables.specs.ShardRow.{written_since}
use Rattle.shard_versions.specs.StoreView.{StoreView, has_room, has_room_in}
use Rattle.txn_shard.specs.Applying.{can_apply_one, can_apply, have_room}

same-services : (a b c : ServiceId) → same_service b c ≡ true → same_service a b ≡ same_service a c
same-services (Txn a) (Txn b) (Txn c) h = grind (arith, common_steps, h)
same-services (Txn a) (Txn b) (Reg c) h = absurd (let x : false ≡ true = h in cc)
same-services (Txn a) (Reg b) (Txn c) h = absurd (let x : false ≡ true = h in cc)
same-services (Txn a) (Reg b) (Reg c) h = refl
same-services (Reg a) (Txn b) (Txn c) h = refl
same-services (Reg a) (Txn b) (Reg c) h = absurd (let x : false ≡ true = h in cc)
same-services (Reg a) (Reg b) (Txn c) h = absurd (let x : false ≡ true = h in cc)
same-services (Reg a) (Reg b) (Reg c) h = grind (arith, common_steps, h)

both : (a b : Bool) → (a && b) ≡ true → (a ≡ true) × (b ≡ true)
both true b e = (refl, e)
both false b e = absurd (let x : false ≡ true = e in cc)

same-indices : (a b c : ℕ) → nat_eq b c ≡ true → nat_eq a b ≡ nat_eq a c
same-indices a b c h = grind (arith, common_steps, h)

-- two keys that are the same are the same as the same keys
same-keys : (a b c : Key) → same_key b c ≡ true → same_key a b ≡ same_key a c
same-keys a b c h =
    let p = both (same_service b.service c.service) (nat_eq b.index c.index) h in
    ap (λ (t : Bool). t && nat_eq a.index b.index) (same-services a.service b.service c.service p.0)
    ∙ ap (λ (t : Bool). same_service a.service c.service && t) (same-indices a.index b.index c.index p.1)

turned-indices : (a b : ℕ) → nat_eq a b ≡ nat_eq b a
turned-indices a b = grind (arith, common_steps)

turned-services : (a b : ServiceId) → same_service a b ≡ same_service b a
turned-services (Txn a) (Txn b) = turned-indices a b
turned-services (Txn a) (Reg b) = refl
turned-services (Reg a) (Txn b) = refl
turned-services (Reg a) (Reg b) = turned-indices a b

same-turned : (a b : Key) → same_key a b ≡ same_key b a
same-turned a b =
    ap (λ (t : Bool). t && nat_eq a.index b.index) (turned-services a.service b.service)
    ∙ ap (λ (t : Bool). same_service b.service a.service && t) (turned-indices a.index b.index)

or-right : (a b : Bool) → b ≡ true → (a || b) ≡ true
or-right true b e = refl
or-right false b e = e

written-now : (versions : List Version) (v : Version) (time : ℕ) → v.time ≡ time → written_since (versions ++ v ∷ []) time ≡ true
written-now versions v time e =
    let q : nat_le time v.time ≡ true = grind (arith, common_steps, e) in
    list_any-append (λ (w : Version). nat_le time w.time) versions (v ∷ []) ∙ or-right (written_since versions time) (nat_le time v.time || false) (rw q refl)

-- the key that was written needs no room any more
put-same : (store : List KeyVersions) (rooms : List Bool) (key k : Key) (v : Version) (time : ℕ) → same_key key k ≡ true → v.time ≡ time → (has_room_in (with_version store key v) rooms k || written_since (versions_of (with_version store key v) k) time) ≡ true
put-same [] rooms key k v time s e = refl
put-same (kv ∷ store) rooms key k v time s e = go (same_key kv.key key) refl rooms (λ rs. put-same store rs key k v time s e)
  where
    go : (b : Bool) → same_key kv.key key ≡ b → (rs : List Bool) → ((rs : List Bool) → (has_room_in (with_version store key v) rs k || written_since (versions_of (with_version store key v) k) time) ≡ true) → (has_room_in (with_version (kv ∷ store) key v) rs k || written_since (versions_of (with_version (kv ∷ store) key v) k) time) ≡ true
    go true q rs ih = rw (q, sym (same-keys kv.key key k s) ∙ q) (or-right _ (written_since (kv.versions ++ v ∷ []) time) (written-now kv.versions v time e))
    go false q [] ih = rw q refl
    go false q (r ∷ rs) ih = rw (q, sym (same-keys kv.key key k s) ∙ q) (ih rs)

-- the versions of other keys stay
put-other : (store : List KeyVersions) (key k : Key) (v : Version) → same_key key k ≡ false → versions_of (with_version store key v) k ≡ versions_of store k
put-other [] key k v s = refl
put-other (kv ∷ store) key k v s = go (same_key kv.key key) refl (same_key kv.key k) refl (put-other store key k v s)
  where
    go : (b : Bool) → same_key kv.key key ≡ b → (t : Bool) → same_key kv.key k ≡ t → versions_of (with_version store key v) k ≡ versions_of store k → versions_of (with_version (kv ∷ store) key v) k ≡ versions_of (kv ∷ store) k
    go true q true r ih =
        let e = same-keys key kv.key k r in
        let f : same_key key kv.key ≡ true = same-turned key kv.key ∙ q in
        absurd (let x : true ≡ false = sym f ∙ e ∙ s in cc)
    go true q false r ih = rw (q, r) refl
    go false q true r ih = rw (q, r) refl
    go false q false r ih = rw (q, r) ih

-- one write that became a version leaves what another write needs
pub stays-one : (old new : StoreView) (key k : Key) (v : Version) (time : ℕ) → v.time ≡ time → new.store ≡ with_version old.store key v → ((k : Key) → same_key key k ≡ false → has_room old k ≡ true → has_room new k ≡ true) → can_apply_one old time k ≡ true → can_apply_one new time k ≡ true
stays-one old new key k v time e p others h = go (same_key key k) refl
  where
    go : (b : Bool) → same_key key k ≡ b → can_apply_one new time k ≡ true
    go true s = rw p (put-same old.store new.rooms key k v time s e)
    go false s = by_room (has_room old k) refl
      where
        by_room : (b : Bool) → has_room old k ≡ b → can_apply_one new time k ≡ true
        by_room true r = rw (others k s r) refl
        by_room false r =
            let w : written_since (versions_of old.store k) time ≡ true = rw r at h in
            or-right (has_room new k) (written_since (versions_of new.store k) time) (rw (p, put-other old.store key k v s) w)

pub stays-all : (old new : StoreView) (key : Key) (v : Version) (time : ℕ) → v.time ≡ time → new.store ≡ with_version old.store key v → ((k : Key) → same_key key k ≡ false → has_room old k ≡ true → has_room new k ≡ true) → (writes : List (Key × ℕ)) → can_apply old time writes ≡ true → can_apply new time writes ≡ true
stays-all old new key v time e p others [] h = refl
stays-all old new key v time e p others (w ∷ writes) h =
    let q = both (can_apply_one old time w.0) (can_apply old time writes) h in
    rw (stays-one old new key w.0 v time e p others q.0) (stays-all old new key v time e p others writes q.1)

-- where each key has room, all can be applied
pub can-apply : (view : StoreView) (time : ℕ) (writes : List (Key × ℕ)) → list_all (λ (write : Key × ℕ). has_room_in view.store view.rooms write.0) writes ≡ true → can_apply view time writes ≡ true
can-apply view time [] h = refl
can-apply view time (w ∷ writes) h =
    let q = both (has_room_in view.store view.rooms w.0) (list_all (λ (write : Key × ℕ). has_room_in view.store view.rooms write.0) writes) h in
    rw q.0 (can-apply view time writes q.1)

-- where there was room for the first writes, and now for one more
pub have-more : (old new : StoreView) (writes : List (Key × ℕ)) (i : ℕ) (d : Key × ℕ) → have_room old (take i writes) ≡ true → i < length writes → ((k : Key) → has_room old k ≡ true → has_room new k ≡ true) → has_room new (get_or writes i d).0 ≡ true → have_room new (take (suc i) writes) ≡ true
have-more old new [] i d h l f r = absurd (omega arith)
have-more old new (w ∷ writes) zero d h l f r = rw r refl
have-more old new (w ∷ writes) (suc i) d h l f r =
    let q = both (has_room old w.0) (have_room old (take i writes)) h in
    rw (f w.0 q.0) (have-more old new writes i d q.1 (grind (arith, l)) f r)

pub ruleset staying = (stays-all)
