-- What stands at the place of a key is what the tables find for it.
use Rattle.std.proofs.Common.{◌≡◌, ℕ, suc, zero, ◌<◌, ◌≤◌, Bool, true, false, List, [], ◌∷◌, ◌++◌, length, get_or, set, arith, refl, sym, ap, ◌∙◌}
use Rattle.std.proofs.lemmas.Grind.{common_steps}
use Rattle.rss_names.specs.declared.service.Key.{Key}
use Rattle.rss_names.specs.declared.service.ServiceId.{ServiceId}
use Rattle.rss_names.specs.declared.service.ServiceId.TheVariants.{Txn, Reg}
use Rattle.rss_names.specs.Services.{same_key, same_service}
use Rattle.rss_wire.specs.declared.messages.Version.{Version}
use Rattle.rss_tables.specs.Versions.{KeyVersions, versions_of, with_version}
use Rattle.shard_versions.specs.Rows.{RowView, store_of, rooms_of, place_in}
use Rattle.shard_versions.specs.StoreView.{StoreView, has_room_in}

-- the versions of a key stand at its place
pub versions-there : (rows : List RowView) (key : Key) (d : RowView) → place_in rows key < length rows → versions_of (store_of rows) key ≡ (get_or rows (place_in rows key) d).kept.versions
versions-there [] key d h = absurd (omega arith)
versions-there (r ∷ rows) key d h = go (same_key r.kept.key key) refl (versions-there rows key d)
  where
    go : (b : Bool) → same_key r.kept.key key ≡ b → (place_in rows key < length rows → versions_of (store_of rows) key ≡ (get_or rows (place_in rows key) d).kept.versions) → versions_of (store_of (r ∷ rows)) key ≡ (get_or (r ∷ rows) (place_in (r ∷ rows) key) d).kept.versions
    go true e ih = rw e refl
    go false e ih = rw e (ih (let k : place_in (r ∷ rows) key < length (r ∷ rows) = h in let n = rw e at k in grind (arith, n)))

-- a key without a place has none
pub versions-nowhere : (rows : List RowView) (key : Key) → length rows ≤ place_in rows key → versions_of (store_of rows) key ≡ []
versions-nowhere [] key h = refl
versions-nowhere (r ∷ rows) key h = go (same_key r.kept.key key) refl (versions-nowhere rows key)
  where
    go : (b : Bool) → same_key r.kept.key key ≡ b → (length rows ≤ place_in rows key → versions_of (store_of rows) key ≡ []) → versions_of (store_of (r ∷ rows)) key ≡ []
    go true e ih = absurd (let n = rw e at h in omega (arith, n))
    go false e ih = rw e (ih (let n = rw e at h in grind (arith, n)))

-- whether there is room for one more stands at its place
pub room-there : (rows : List RowView) (key : Key) (d : RowView) → place_in rows key < length rows → has_room_in (store_of rows) (rooms_of rows) key ≡ (get_or rows (place_in rows key) d).room
room-there [] key d h = absurd (omega arith)
room-there (r ∷ rows) key d h = go (same_key r.kept.key key) refl (room-there rows key d)
  where
    go : (b : Bool) → same_key r.kept.key key ≡ b → (place_in rows key < length rows → has_room_in (store_of rows) (rooms_of rows) key ≡ (get_or rows (place_in rows key) d).room) → has_room_in (store_of (r ∷ rows)) (rooms_of (r ∷ rows)) key ≡ (get_or (r ∷ rows) (place_in (r ∷ rows) key) d).room
    go true e ih = rw e refl
    go false e ih = rw e (ih (let n = rw e at h in grind (arith, n)))

pub room-nowhere : (rows : List RowView) (key : Key) → length rows ≤ place_in rows key → has_room_in (store_of rows) (rooms_of rows) key ≡ true
room-nowhere [] key h = refl
room-nowhere (r ∷ rows) key h = go (same_key r.kept.key key) refl (room-nowhere rows key)
  where
    go : (b : Bool) → same_key r.kept.key key ≡ b → (length rows ≤ place_in rows key → has_room_in (store_of rows) (rooms_of rows) key ≡ true) → has_room_in (store_of (r ∷ rows)) (rooms_of (r ∷ rows)) key ≡ true
    go true e ih = absurd (let n = rw e at h in omega (arith, n))
    go false e ih = rw e (ih (let n = rw e at h in grind (arith, n)))

-- one more version at the place of a key is one more version of it
pub version-put : (rows : List RowView) (key : Key) (v : Version) (new d : RowView) → place_in rows key < length rows
    → new.kept ≡ record { key = (get_or rows (place_in rows key) d).kept.key; versions = (get_or rows (place_in rows key) d).kept.versions ++ v ∷ [] }
    → store_of (set rows (place_in rows key) new) ≡ with_version (store_of rows) key v
version-put [] key v new d h p = absurd (omega arith)
version-put (r ∷ rows) key v new d h p = go (same_key r.kept.key key) refl (version-put rows key v new d)
  where
    go : (b : Bool) → same_key r.kept.key key ≡ b → (place_in rows key < length rows → new.kept ≡ record { key = (get_or rows (place_in rows key) d).kept.key; versions = (get_or rows (place_in rows key) d).kept.versions ++ v ∷ [] } → store_of (set rows (place_in rows key) new) ≡ with_version (store_of rows) key v) → store_of (set (r ∷ rows) (place_in (r ∷ rows) key) new) ≡ with_version (store_of (r ∷ rows)) key v
    go true e ih = rw e (ap (λ (kv : KeyVersions). kv ∷ store_of rows) (rw e at p))
    go false e ih = rw e (ap (λ (kvs : List KeyVersions). r.kept ∷ kvs) (ih (let n = rw e at h in grind (arith, n)) (rw e at p)))

-- a key without a place gets none
pub version-nowhere : (rows : List RowView) (key : Key) (v : Version) → length rows ≤ place_in rows key → with_version (store_of rows) key v ≡ store_of rows
version-nowhere [] key v h = refl
version-nowhere (r ∷ rows) key v h = go (same_key r.kept.key key) refl (version-nowhere rows key v)
  where
    go : (b : Bool) → same_key r.kept.key key ≡ b → (length rows ≤ place_in rows key → with_version (store_of rows) key v ≡ store_of rows) → with_version (store_of (r ∷ rows)) key v ≡ store_of (r ∷ rows)
    go true e ih = absurd (let n = rw e at h in omega (arith, n))
    go false e ih = rw e (ap (λ (kvs : List KeyVersions). r.kept ∷ kvs) (ih (let n = rw e at h in grind (arith, n))))

-- a row that keeps its key and versions changes none
pub store-kept : (rows : List RowView) (i : ℕ) (new d : RowView) → i < length rows → new.kept ≡ (get_or rows i d).kept → store_of (set rows i new) ≡ store_of rows
store-kept [] i new d h e = refl
store-kept (r ∷ rows) zero new d h e = ap (λ (kv : KeyVersions). kv ∷ store_of rows) e
store-kept (r ∷ rows) (suc i) new d h e = ap (λ (kvs : List KeyVersions). r.kept ∷ kvs) (store-kept rows i new d (grind (arith, h)) e)

-- more room in one row leaves the room of all
pub rooms-more : (rows : List RowView) (i : ℕ) (new d : RowView) (k : Key) → i < length rows → new.kept.key ≡ (get_or rows i d).kept.key → new.room ≡ true → has_room_in (store_of rows) (rooms_of rows) k ≡ true → has_room_in (store_of (set rows i new)) (rooms_of (set rows i new)) k ≡ true
rooms-more [] i new d k h e t m = refl
rooms-more (r ∷ rows) zero new d k h e t m = go (same_key new.kept.key k) refl
  where
    go : (b : Bool) → same_key new.kept.key k ≡ b → has_room_in (store_of (new ∷ rows)) (rooms_of (new ∷ rows)) k ≡ true
    go true p = rw p t
    go false p = rw p (let q : same_key r.kept.key k ≡ false = ap (λ (key : Key). same_key key k) (sym e) ∙ p in rw q at m)
rooms-more (r ∷ rows) (suc i) new d k h e t m = go (same_key r.kept.key k) refl (rooms-more rows i new d k)
  where
    go : (b : Bool) → same_key r.kept.key k ≡ b → (i < length rows → new.kept.key ≡ (get_or rows i d).kept.key → new.room ≡ true → has_room_in (store_of rows) (rooms_of rows) k ≡ true → has_room_in (store_of (set rows i new)) (rooms_of (set rows i new)) k ≡ true) → has_room_in (store_of (r ∷ set rows i new)) (rooms_of (r ∷ set rows i new)) k ≡ true
    go true p ih = rw p (rw p at m)
    go false p ih = rw p (ih (grind (arith, h)) e t (rw p at m))

same-services : (a b c : ServiceId) → same_service a b ≡ true → same_service b c ≡ same_service a c
same-services (Txn a) (Txn b) (Txn c) h = grind (arith, common_steps, h)
same-services (Txn a) (Txn b) (Reg c) h = refl
same-services (Txn a) (Reg b) c h = absurd (let x : false ≡ true = h in cc)
same-services (Reg a) (Reg b) (Txn c) h = refl
same-services (Reg a) (Reg b) (Reg c) h = grind (arith, common_steps, h)
same-services (Reg a) (Txn b) c h = absurd (let x : false ≡ true = h in cc)

-- the same key is no other key
same-keys : (a b c : Key) → same_key a b ≡ true → same_key b c ≡ false → same_key a c ≡ false
same-keys a b c h k = let e = same-services a.service b.service c.service in grind (arith, common_steps, h, k, e)

-- what is taken of the room of a key leaves that of others
pub rooms-others : (rows : List RowView) (key k : Key) (new d : RowView) → place_in rows key < length rows → new.kept.key ≡ (get_or rows (place_in rows key) d).kept.key → same_key key k ≡ false → has_room_in (store_of rows) (rooms_of rows) k ≡ true
    → has_room_in (store_of (set rows (place_in rows key) new)) (rooms_of (set rows (place_in rows key) new)) k ≡ true
rooms-others [] key k new d h e o m = refl
rooms-others (r ∷ rows) key k new d h e o m = go (same_key r.kept.key key) refl (same_key r.kept.key k) refl (rooms-others rows key k new d)
  where
    go : (b : Bool) → same_key r.kept.key key ≡ b → (s : Bool) → same_key r.kept.key k ≡ s → (place_in rows key < length rows → new.kept.key ≡ (get_or rows (place_in rows key) d).kept.key → same_key key k ≡ false → has_room_in (store_of rows) (rooms_of rows) k ≡ true → has_room_in (store_of (set rows (place_in rows key) new)) (rooms_of (set rows (place_in rows key) new)) k ≡ true) → has_room_in (store_of (set (r ∷ rows) (place_in (r ∷ rows) key) new)) (rooms_of (set (r ∷ rows) (place_in (r ∷ rows) key) new)) k ≡ true
    go true p true q ih = absurd (let x = same-keys r.kept.key key k p o in let y : true ≡ false = sym q ∙ x in cc)
    go true p false q ih = let x : same_key new.kept.key k ≡ false = ap (λ (a : Key). same_key a k) (rw p at e) ∙ q in rw (p, x) (rw q at m)
    go false p true q ih = rw (p, q) (rw q at m)
    go false p false q ih = rw (p, q) (ih (let n = rw p at h in grind (arith, n)) (rw p at e) o (rw q at m))

-- a key whose row has room has room
pub room-put : (rows : List RowView) (key : Key) (new d : RowView) → place_in rows key < length rows → new.kept.key ≡ (get_or rows (place_in rows key) d).kept.key → new.room ≡ true → has_room_in (store_of (set rows (place_in rows key) new)) (rooms_of (set rows (place_in rows key) new)) key ≡ true
room-put [] key new d h e t = absurd (omega arith)
room-put (r ∷ rows) key new d h e t = go (same_key r.kept.key key) refl (room-put rows key new d)
  where
    go : (b : Bool) → same_key r.kept.key key ≡ b → (place_in rows key < length rows → new.kept.key ≡ (get_or rows (place_in rows key) d).kept.key → new.room ≡ true → has_room_in (store_of (set rows (place_in rows key) new)) (rooms_of (set rows (place_in rows key) new)) key ≡ true) → has_room_in (store_of (set (r ∷ rows) (place_in (r ∷ rows) key) new)) (rooms_of (set (r ∷ rows) (place_in (r ∷ rows) key) new)) key ≡ true
    go true p ih = let x : same_key new.kept.key key ≡ true = ap (λ (a : Key). same_key a key) (rw p at e) ∙ p in rw (p, x) t
    go false p ih = rw (p, p) (ih (let n = rw p at h in grind (arith, n)) (rw p at e) t)

-- a row that keeps its room changes none
pub rooms-kept : (rows : List RowView) (i : ℕ) (new d : RowView) → i < length rows → new.room ≡ (get_or rows i d).room → rooms_of (set rows i new) ≡ rooms_of rows
rooms-kept [] i new d h e = refl
rooms-kept (r ∷ rows) zero new d h e = ap (λ (b : Bool). b ∷ rooms_of rows) e
rooms-kept (r ∷ rows) (suc i) new d h e = ap (λ (bs : List Bool). r.room ∷ bs) (rooms-kept rows i new d (grind (arith, h)) e)

module _ (rows : List RowView) (view : StoreView) (key : Key) (p : ℕ) (store : store_of rows ≡ view.store) (place : p ≡ place_in rows key) where
  -- what the row at the place of a key says
  pub versions-found : (x : RowView) → p < length rows → x ≡ get_or rows p x → versions_of view.store key ≡ x.kept.versions
  versions-found x l g = rw (← store) (versions-there rows key x (rw place at l) ∙ ap (λ (r : RowView). r.kept.versions) (sym (rw place at g)))

  pub none-there : length rows ≤ p → versions_of view.store key ≡ []
  none-there l = rw (← store) (versions-nowhere rows key (rw place at l))

  pub room-found : (x : RowView) → rooms_of rows ≡ view.rooms → p < length rows → x ≡ get_or rows p x → has_room_in view.store view.rooms key ≡ x.room
  room-found x rooms l g = rw (← store, ← rooms) (room-there rows key x (rw place at l) ∙ ap (λ (r : RowView). r.room) (sym (rw place at g)))

  pub room-unneeded : rooms_of rows ≡ view.rooms → length rows ≤ p → has_room_in view.store view.rooms key ≡ true
  room-unneeded rooms l = rw (← store, ← rooms) (room-nowhere rows key (rw place at l))

  pub version-pushed : (x new : RowView) (v : Version) → p < length rows → x ≡ get_or rows p x → new.kept ≡ record { key = x.kept.key; versions = x.kept.versions ++ v ∷ [] } → store_of (set rows p new) ≡ with_version view.store key v
  version-pushed x new v l g e =
      let g' = rw place at g in
      let more : RowView → KeyVersions = λ (r : RowView). record { key = r.kept.key; versions = r.kept.versions ++ v ∷ [] } in
      rw (place, ← store) (version-put rows key v new x (rw place at l) (e ∙ ap more g'))

  pub version-unneeded : (v : Version) → length rows ≤ p → view.store ≡ with_version view.store key v
  version-unneeded v l = rw (← store) (sym (version-nowhere rows key v (rw place at l)))

  pub store-same : (x new : RowView) → p < length rows → x ≡ get_or rows p x → new.kept ≡ x.kept → store_of (set rows p new) ≡ view.store
  store-same x new l g e = store-kept rows p new x l (e ∙ ap (λ (r : RowView). r.kept) g) ∙ store

  pub rooms-same : (x new : RowView) → rooms_of rows ≡ view.rooms → p < length rows → x ≡ get_or rows p x → new.room ≡ x.room → rooms_of (set rows p new) ≡ view.rooms
  rooms-same x new rooms l g e = rooms-kept rows p new x l (e ∙ ap (λ (r : RowView). r.room) g) ∙ rooms

  pub room-made : (x new : RowView) → p < length rows → x ≡ get_or rows p x → new.kept ≡ x.kept → new.room ≡ true → has_room_in (store_of (set rows p new)) (rooms_of (set rows p new)) key ≡ true
  room-made x new l g e t = rw place (room-put rows key new x (rw place at l) (ap (λ (kv : KeyVersions). kv.key) e ∙ ap (λ (r : RowView). r.kept.key) (rw place at g)) t)

  pub rooms-stay : (x new : RowView) (k : Key) → rooms_of rows ≡ view.rooms → p < length rows → x ≡ get_or rows p x → new.kept ≡ x.kept → new.room ≡ true → has_room_in view.store view.rooms k ≡ true → has_room_in (store_of (set rows p new)) (rooms_of (set rows p new)) k ≡ true
  rooms-stay x new k rooms l g e t m = rooms-more rows p new x k l (ap (λ (kv : KeyVersions). kv.key) e ∙ ap (λ (r : RowView). r.kept.key) g) t (rw (← store, ← rooms) at m)

  pub others-stay : (x new : RowView) (k : Key) (versions : List Version) → rooms_of rows ≡ view.rooms → p < length rows → x ≡ get_or rows p x → new.kept ≡ record { key = x.kept.key; versions = versions } → same_key key k ≡ false → has_room_in view.store view.rooms k ≡ true → has_room_in (store_of (set rows p new)) (rooms_of (set rows p new)) k ≡ true
  others-stay x new k versions rooms l g e o m = rw place (rooms-others rows key k new x (rw place at l) (ap (λ (kv : KeyVersions). kv.key) e ∙ ap (λ (r : RowView). r.kept.key) (rw place at g)) o (rw (← store, ← rooms) at m))
