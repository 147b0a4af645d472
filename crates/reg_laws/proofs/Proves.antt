-- A reply of a replica proves that it holds what it was asked to hold, and what it showed.
use Rattle.std.proofs.Common.{◌≡◌, ℕ, ◌<◌, ◌≤◌, Bool, true, false, List, [], ◌∷◌, All, map, length, get_or, Some, refl, ap, sym, ◌∙◌, subst, arith}
use Rattle.std.proofs.Math.ListN.{set}
use Rattle.std.proofs.lemmas.List.Elements.{All-cons, All-nil, All-head, All-weaker}
use Rattle.truetime.specs.Reading.{Reading}
use Rattle.rss_names.specs.declared.service.Key.{Key}
use Rattle.rss_names.specs.declared.service.ServiceId.{ServiceId}
use Rattle.rss_names.specs.declared.service.Target.{Target}
use Rattle.rss_names.specs.declared.service.Target.TheVariants.{Replica}
use Rattle.causal_context.specs.declared.dep.Dep.{Dep}
use Rattle.pipeline_lang.specs.declared.config.Config.{Config}
use Rattle.rss_wire.specs.Messages.{message_at}
use Rattle.rss_wire.specs.declared.message.Message.{Message}
use Rattle.rss_wire.specs.declared.messages.RegReply.{RegReply}
use Rattle.rss_wire.specs.declared.messages.Reply.{Reply}
use Rattle.rss_wire.specs.declared.messages.Request.{Request}
use Rattle.rss_wire.specs.declared.messages.Request.TheVariants as request
use Rattle.rss_tables.specs.Lines.{tells_decision}
use Rattle.rss_tables.specs.Outs.{Out}
use Rattle.rss_machine.specs.Moves.{ticks, sends_one, sends, serves_replica, notes_served, listens, plans_stub}
use Rattle.rss_machine.specs.Run.{run}
use Rattle.rss_machine.specs.State.{State, start, owner_at}
use Rattle.rss_machine.specs.declared.step.Step.{Step}
use Rattle.world_laws.proofs.Holders.{not_lt_le}
use Rattle.world_laws.proofs.OwnerMoves.{OwnerKeeps}
use Rattle.world_laws.proofs.Replies.{Sound, sound_keeps}
use Rattle.world_laws.proofs.Stacked.{OwnerKeepsUnder, stacked}
use Rattle.std.proofs.Common.{◌-◌, ◌⊎◌, inl, inr}
use Rattle.std.specs.Prelude.{if◌then◌else◌}
use Rattle.std.proofs.lemmas.List.{get_or-set_same}
use Rattle.rss_wire.specs.Messages.{meets, asks}
use Rattle.world_laws.proofs.Looks.{get_or_past}
use Rattle.std.proofs.lemmas.List.Elements.{All-tail}
use Rattle.carstamps.specs.declared.carstamp.Carstamp.{Carstamp}
use Rattle.carstamps.specs.Stamp.{stamp_le, stamp_lt}
use Rattle.pipeline_lang.specs.Config.{replicas_of}
use Rattle.rss_wire.specs.Messages.{answers}
use Rattle.rss_tables.specs.ReplicaRow.{held_at, dep_cell, opening_cell, accept, accept_all, replica_after, replica_reply}
use Rattle.rss_machine.specs.Moves.{marks_message, serves_shard}
use Rattle.rss_tables.specs.ShardRow.{shard_reply}
use Rattle.rss_machine.specs.State.{service_index, cells_at, replicas_at, shard_at}
use Rattle.world_laws.specs.Later.{stamp_in}
use Rattle.world_laws.specs.Proper.{registers_of}
use Rattle.world_laws.specs.Registers.{IsRegister}
use Rattle.world_laws.proofs.Later.{later_keeps, later_same, le_same, le_trans, accept-all-rises}
use Rattle.world_laws.proofs.StackRuns.{IsKept, kept_run}
use Rattle.world_laws.proofs.Stacked.{under_more}
use Rattle.world_laws.proofs.StoreMoves.{Serves}
use Rattle.reg_laws.specs.Files.{IsInOrder}
use Rattle.reg_laws.specs.Told.{Stamped, asked_to_hold, asked_of, shown_stamp, HoldsAtLeast, Proves, RepliesProve}
use Rattle.reg_laws.proofs.Base.{Known, KnownAt, sound_of, at_rest, known_keeps, known_ticks, known_start}
use Rattle.reg_laws.proofs.Shapes.{Shapes, Within, accept_long, shape_rows, shape_cells, shapes_under, shapes_ticks, shapes_start}
use Rattle.reg_laws.proofs.Tells.{RepliesHold, hold_weaker, hold_meets, hold_asks, hold_shard, hold_replica, shows}
use Rattle.reg_laws.proofs.Valid.{Valid}
use Rattle.reg_laws.proofs.ValidServes.{ServedWell, served_well}
use Rattle.reg_laws.proofs.ValidRuns.{valid_under, valid_ticks, valid_start}

-- a replica that keeps a register holds at least what it has accepted
accept_gets : (cells : List RegReply) (key : Key) (cell : RegReply) → key.index < length cells → stamp_le cell.stamp (held_at (accept cells key cell) key).stamp ≡ true
accept_gets cells key cell l = by_test (stamp_lt (held_at cells key).stamp cell.stamp) refl
  where
    by_test : (t : Bool) → stamp_lt (held_at cells key).stamp cell.stamp ≡ t → stamp_le cell.stamp (held_at (if t then set cells key.index cell else cells) key).stamp ≡ true
    by_test true e = subst (λ (x : RegReply). stamp_le cell.stamp x.stamp ≡ true) (sym (get_or-set_same cells key.index cell opening_cell l)) (le_same cell.stamp)
    by_test false e = not_lt_le (held_at cells key).stamp cell.stamp e

-- a register with a stamp, of these cells
abbrev GetsAt : List RegReply → Stamped → Type 0
GetsAt cells x = stamp_le x.stamp (held_at cells x.key).stamp ≡ true

accept_all_gets : (deps : List Dep) (cells : List RegReply) (n : ℕ) → length cells ≡ n → All (λ (dep : Dep). dep.key.index < n) deps → All (GetsAt (accept_all cells deps)) (map (λ (dep : Dep). record { key = dep.key; stamp = dep.stamp }) deps)
accept_all_gets [] cells n l a = All-nil (GetsAt cells)
accept_all_gets (dep ∷ deps) cells n l a =
    let more = accept cells dep.key (dep_cell dep) in
    let first : stamp_le dep.stamp (held_at more dep.key).stamp ≡ true = accept_gets cells dep.key (dep_cell dep) (subst (λ (k : ℕ). dep.key.index < k) (sym l) (All-head (λ (d : Dep). d.key.index < n) dep deps a)) in
    All-cons (GetsAt (accept_all more deps)) _ (map (λ (d : Dep). record { key = d.key; stamp = d.stamp }) deps)
    (le_trans dep.stamp (held_at more dep.key).stamp (held_at (accept_all more deps) dep.key).stamp first (accept-all-rises deps more dep.key))
    (accept_all_gets deps more n (accept_long cells dep.key (dep_cell dep) ∙ l) (All-tail (λ (d : Dep). d.key.index < n) dep deps a))

dep_numbers : (n : ℕ) (deps : List Dep) → All (λ (key : Key). key.index < n) (map (λ (dep : Dep). dep.key) deps) → All (λ (dep : Dep). dep.key.index < n) deps
dep_numbers n [] a = All-nil (λ (d : Dep). d.key.index < n)
dep_numbers n (dep ∷ deps) a = All-cons (λ (d : Dep). d.key.index < n) dep deps (All-head (λ (key : Key). key.index < n) dep.key (map (λ (d : Dep). d.key) deps) a) (dep_numbers n deps (All-tail (λ (key : Key). key.index < n) dep.key (map (λ (d : Dep). d.key) deps) a))

after_gets : (cells : List RegReply) (r : Request) (n : ℕ) → length cells ≡ n → All (λ (key : Key). key.index < n) (registers_of r) → All (GetsAt (replica_after cells r)) (asked_to_hold r)
unfolding replica_after
after_gets cells (request.Store key value stamp writer) n l a =
    All-cons (GetsAt (accept cells key (record { value = value; stamp = stamp; writer = writer }))) _ [] (accept_gets cells key (record { value = value; stamp = stamp; writer = writer }) (subst (λ (k : ℕ). key.index < k) (sym l) (All-head (λ (k : Key). k.index < n) key [] a))) (All-nil (GetsAt (accept cells key (record { value = value; stamp = stamp; writer = writer }))))
after_gets cells (request.Fix deps) n l a = accept_all_gets deps cells n l (dep_numbers n deps a)
after_gets cells (request.Ask key) n l a = All-nil (GetsAt cells)
after_gets cells (request.Stamp key) n l a = All-nil (GetsAt cells)
after_gets cells (request.Lock attempt coordinator reads writes) n l a = All-nil (GetsAt cells)
after_gets cells (request.Prepare attempt least earliest_end writes) n l a = All-nil (GetsAt cells)
after_gets cells (request.Decide attempt commit time) n l a = All-nil (GetsAt cells)
after_gets cells (request.Commit attempt commit_time) n l a = All-nil (GetsAt cells)
after_gets cells (request.Abort attempt) n l a = All-nil (GetsAt cells)
after_gets cells (request.Inquire attempt) n l a = All-nil (GetsAt cells)
after_gets cells (request.Release attempt time last) n l a = All-nil (GetsAt cells)
after_gets cells (request.Snapshot read_time least keys skip) n l a = All-nil (GetsAt cells)

-- what is asked to be held is of registers that the request names
first_named : (Q : Key → Type 0) (X : Type 0) (r : Request) → All Q (registers_of r) → ((key : Key) → Q key → X) → ((asked_to_hold r ≡ []) → X) → X
first_named Q X (request.Store key value stamp writer) a f n = f key (All-head Q key [] a)
first_named Q X (request.Fix []) a f n = n refl
first_named Q X (request.Fix (dep ∷ deps)) a f n = f dep.key (All-head Q dep.key (map (λ (d : Dep). d.key) deps) a)
first_named Q X (request.Ask key) a f n = n refl
first_named Q X (request.Stamp key) a f n = n refl
first_named Q X (request.Lock attempt coordinator reads writes) a f n = n refl
first_named Q X (request.Prepare attempt least earliest_end writes) a f n = n refl
first_named Q X (request.Decide attempt commit time) a f n = n refl
first_named Q X (request.Commit attempt commit_time) a f n = n refl
first_named Q X (request.Abort attempt) a f n = n refl
first_named Q X (request.Inquire attempt) a f n = n refl
first_named Q X (request.Release attempt time last) a f n = n refl
first_named Q X (request.Snapshot read_time least keys skip) a f n = n refl

-- stamps of one state are at least those of another
abbrev Rises : State → State → Type 0
Rises s t = (service : ServiceId) (place : ℕ) (key : Key) → stamp_le (stamp_in s service place key) (stamp_in t service place key) ≡ true

proves_rise : (s t : State) (service : ServiceId) (replica : ℕ) (q : Request) (answer : Reply) → Rises s t → Proves s service replica q answer → Proves t service replica q answer
proves_rise s t service replica q answer f h = record {
  holds = All-weaker (HoldsAtLeast s service (replica - 1)) (HoldsAtLeast t service (replica - 1)) (λ x e. le_trans x.stamp (stamp_in s service (replica - 1) x.key) (stamp_in t service (replica - 1) x.key) e (f service (replica - 1) x.key)) (asked_to_hold q) h.holds;
  shown = All-weaker (λ (key : Key). (stamp : Carstamp) → shown_stamp answer ≡ Some stamp → stamp_le stamp (stamp_in s service (replica - 1) key) ≡ true) (λ (key : Key). (stamp : Carstamp) → shown_stamp answer ≡ Some stamp → stamp_le stamp (stamp_in t service (replica - 1) key) ≡ true)
      (λ key g stamp e. le_trans stamp (stamp_in s service (replica - 1) key) (stamp_in t service (replica - 1) key) (g stamp e) (f service (replica - 1) key)) (asked_of q) h.shown;
}

-- a replica that serves a request holds then what it was asked to hold
served_there : (all : List (List (List RegReply))) (x i : ℕ) (cells : List RegReply) → i < length (get_or all x []) → get_or (get_or (set all x (set (get_or all x []) i cells)) x []) i [] ≡ cells
served_there all x i cells l = ap (λ (rows : List (List RegReply)). get_or rows i []) (get_or-set_same all x (set (get_or all x []) i cells) [] (there (get_or_past all x []))) ∙ get_or-set_same (get_or all x []) i cells [] l
  where
    there : (x < length all) ⊎ (get_or all x [] ≡ []) → x < length all
    there (inl m) = m
    there (inr e) = absurd (let n : length (get_or all x []) ≡ 0 = ap (λ (rows : List (List RegReply)). length rows) e in omega (arith, n, l))

record Serving (c : Config) (s : State) (id : ServiceId) (replica : ℕ) (r : Request) : Type 0 where
  holds : All (HoldsAtLeast s id (replica - 1)) (asked_to_hold r)

serving : (c : Config) (s : State) (m replica : ℕ) (id : ServiceId) (r : Request) → IsInOrder c → Serves s m r (Replica id replica) → ServedWell c s (message_at s.net m).envelope.owner id r → Shapes c s → Serving c (serves_replica s m id replica r) id replica r
serving c s m replica id r n d w h = record { holds = first_named (λ (key : Key). IsRegister c key × (id ≡ key.service)) (All (HoldsAtLeast t id (replica - 1)) (asked_to_hold r)) r named by_key by_none }
  where
    t : State
    t = serves_replica s m id replica r

    cells : List RegReply
    cells = cells_at s id replica

    named : All (λ (key : Key). IsRegister c key × (id ≡ key.service)) (registers_of r)
    named k x l = (w.registers k x l, w.kept k x l)

    within : (1 ≤ replica) × (replica ≤ replicas_of c id)
    within = subst (λ (v : Target). Within c (message_at s.net m).envelope.owner v r) d.to (h.messages.each m r d.asks)

    by_key : (key : Key) → IsRegister c key × (id ≡ key.service) → All (HoldsAtLeast t id (replica - 1)) (asked_to_hold r)
    by_key key g =
        let rows : length (replicas_at s id) ≡ replicas_of c id = subst (λ (v : ServiceId). length (replicas_at s v) ≡ replicas_of c v) (sym g.1) (shape_rows c s key n g.0 h) in
        let one = within.0 in
        let most = within.1 in
        let small : replica - 1 < replicas_of c id = omega (arith, one, most) in
        let long : length cells ≡ length c.registers = subst (λ (v : ServiceId). length (cells_at s v replica) ≡ length c.registers) (sym g.1) (shape_cells c s key (replica - 1) n g.0 (subst (λ (v : ServiceId). replica - 1 < replicas_of c v) g.1 small) h) in
        let there : get_or (replicas_at t id) (replica - 1) [] ≡ replica_after cells r = served_there s.replicas (service_index id) (replica - 1) (replica_after cells r) (subst (λ (k : ℕ). replica - 1 < k) (sym rows) small) in
        let numbers : All (λ (k : Key). k.index < length c.registers) (registers_of r) = All-weaker (IsRegister c) (λ (k : Key). k.index < length c.registers) (λ k i. i.there) (registers_of r) w.registers in
        subst (λ (xs : List RegReply). All (λ (x : Stamped). stamp_le x.stamp (held_at xs x.key).stamp ≡ true) (asked_to_hold r)) (sym there) (after_gets cells r (length c.registers) long numbers)

    by_none : asked_to_hold r ≡ [] → All (HoldsAtLeast t id (replica - 1)) (asked_to_hold r)
    by_none e = subst (λ (xs : List Stamped). All (HoldsAtLeast t id (replica - 1)) xs) (sym e) (All-nil (HoldsAtLeast t id (replica - 1)))

-- what every reply proves
abbrev pub ProvesOf : State → ℕ → ServiceId → ℕ → Request → Reply → Type 0
ProvesOf s e service replica q answer = Proves s service replica q answer

pub record Proving (s : State) : Type 0 where
  pub prove : RepliesHold (ProvesOf s) s.net

prove_moved : (s t : State) (net : List Message) → t.replicas ≡ s.replicas → RepliesHold (ProvesOf s) net → RepliesHold (ProvesOf t) net
prove_moved s t net f h =
    hold_weaker (ProvesOf s) (ProvesOf t) (λ e service replica q answer p. proves_rise s t service replica q answer (λ id place key. subst (λ (all : List (List (List RegReply))). stamp_le (stamp_in s id place key) (held_at (get_or (get_or all (service_index id) []) place []) key).stamp ≡ true) (sym f) (le_same (stamp_in s id place key))) p) net h

proving_same : (s t : State) → t.net ≡ s.net → t.replicas ≡ s.replicas → Proving s → Proving t
proving_same s t e f h = record { prove = subst (RepliesHold (ProvesOf t)) (sym e) (prove_moved s t s.net f h.prove) }

proving_sends : (o : ℕ) (outs : List Out) (s : State) → Sound s → Proving s → Proving (sends s o outs)
proving_sends o [] s g h = h
proving_sends o (out ∷ outs) s g h = proving_sends o outs (sends_one s o out) (sound_keeps.sends s o out g) (record { prove = prove_moved s (sends_one s o out) (asks s.net o (owner_at s o).stage out.target out.request) refl (hold_asks (ProvesOf s) s.net o (owner_at s o).stage out.target out.request g.sound h.prove) })

proving_serves : (c : Config) (s : State) (m replica : ℕ) (id : ServiceId) (r : Request) → IsInOrder c → Serves s m r (Replica id replica) → Known c s → Valid c s → Shapes c s → Proving s → Proving (notes_served (serves_replica s m id replica r) (message_at s.net m).envelope.owner id r)
proving_serves c s m replica id r n d g v z h = record {
  prove = hold_replica (ProvesOf t) s m replica id r (replica_reply (cells_at s id replica) r) d (sound_of c s g).sound (record { holds = (serving c s m replica id r n d (served_well c s m replica id r d g v) z).holds; shown = shown })
      (hold_weaker (ProvesOf s) (ProvesOf t) (λ e service place q answer p. proves_rise s t service place q answer rises p) s.net h.prove);
}
  where
    t : State
    t = notes_served (serves_replica s m id replica r) (message_at s.net m).envelope.owner id r

    rises : Rises s t
    rises = ((later_keeps s).replicas s m id replica r d (later_same s)).stamps

    shown : All (λ (key : Key). (stamp : Carstamp) → shown_stamp (replica_reply (cells_at s id replica) r) ≡ Some stamp → stamp_le stamp (stamp_in t id (replica - 1) key) ≡ true) (asked_of r)
    shown = All-weaker (λ (key : Key). (stamp : Carstamp) → shown_stamp (replica_reply (cells_at s id replica) r) ≡ Some stamp → (held_at (cells_at s id replica) key).stamp ≡ stamp)
        (λ (key : Key). (stamp : Carstamp) → shown_stamp (replica_reply (cells_at s id replica) r) ≡ Some stamp → stamp_le stamp (stamp_in t id (replica - 1) key) ≡ true)
        (λ key f stamp e. subst (λ (x : Carstamp). stamp_le x (stamp_in t id (replica - 1) key) ≡ true) (f stamp e) (rises id (replica - 1) key))
        (asked_of r) (shows (cells_at s id replica) r)

-- the known of which this stands on
abbrev pub Held : Config → State → Type 0
Held c s = (Known c s × Valid c s) × Shapes c s

abbrev pub HeldAt : Config → State → ℕ → Type 0
HeldAt c s o = (KnownAt c s o × Valid c s) × Shapes c s

pub held_keeps : (c : Config) → IsInOrder c → (at : Reading) → OwnerKeeps c at (Held c) (HeldAt c)
held_keeps c n at =
    stacked c at (λ s. Known c s × Valid c s) (λ s o. KnownAt c s o × Valid c s) (Shapes c) (λ s o. Shapes c s)
    (stacked c at (Known c) (KnownAt c) (Valid c) (λ s o. Valid c s) (known_keeps c n.names at) (valid_under c at))
    (under_more c at (Known c) (λ s. Known c s × Valid c s) (KnownAt c) (λ s o. KnownAt c s o × Valid c s) (Shapes c) (λ s o. Shapes c s) (λ s h. h.0) (λ s o h. h.0) (shapes_under c at))

pub held_ticks : (c : Config) → IsInOrder c → (s : State) (at : Reading) → Held c s → Held c (ticks s at)
held_ticks c n s at h = ((known_ticks c n.names s at h.0.0, valid_ticks c s at h.0.1), shapes_ticks c s at h.1)

pub held_start : (c : Config) → IsInOrder c → Held c (start c)
held_start c n = ((known_start c n.names, valid_start c), shapes_start c)

pub held_rest : (c : Config) (s : State) (o : ℕ) → HeldAt c s o → Held c s
held_rest c s o h = ((at_rest c s o h.0.0, h.0.1), h.1)

proving_under : (c : Config) → IsInOrder c → (at : Reading) → OwnerKeepsUnder c at (Held c) (HeldAt c) Proving (λ s o. Proving s)
proving_under c n at = record {
  fates = λ s m f g h. record { prove = prove_moved s (marks_message s m f) (meets s.net m f) refl (hold_meets (ProvesOf s) s.net m f h.prove) };
  shards = λ s m shard r d g h. record { prove = prove_moved s (serves_shard s m shard at.latest r) (answers s.net m (shard_reply (shard_at s shard) at.latest r)) refl (hold_shard (ProvesOf s) s m shard r (shard_reply (shard_at s shard) at.latest r) d (sound_of c s g.0.0).sound h.prove) };
  replicas = λ s m id replica r d g h. proving_serves c s m replica id r n d g.0.0 g.0.1 g.1 h;
  again = λ s o exchange slot target r d g h. record { prove = prove_moved s (sends_one s o (record { slot = Some slot; target = target; request = r })) (asks s.net o (owner_at s o).stage target r) refl (hold_asks (ProvesOf s) s.net o (owner_at s o).stage target r (sound_of c s g.0.0).sound h.prove) };
  stages = λ s t d g h. proving_same s t d.stores.net d.stores.replicas h;
  dies = λ s t m u d g h. proving_same s t d.stores.net d.stores.replicas h;
  begins = λ s t w b d g h. proving_same s t d.stores.net d.stores.replicas h;
  rests = λ s t o w i b d g h. proving_same s t d.stores.net d.stores.replicas h;
  settles = λ s o slot a shards outcome i e d g h.
      let g0 = sound_of c s g.0.0 in
      let u = sends (listens s o slot) o (tells_decision a outcome shards) in
      proving_same u (plans_stub u o) refl refl (proving_sends o (tells_decision a outcome shards) (listens s o slot) (record { first = g0.first; sound = g0.sound }) (record { prove = prove_moved s (listens s o slot) s.net refl h.prove }));
  settled = λ s o g h. h;
  works = λ s t o w i b d g h. proving_same s t d.stores.net d.stores.replicas h;
  leaves = λ s t o w outs i b d g h. proving_sends o outs t (sound_keeps.others s t d.stores (sound_of c s (held_rest c s o g).0.0)) (proving_same s t d.stores.net d.stores.replicas h);
  does = λ s t o w outs new b d g h. proving_sends o outs t (sound_keeps.others s t d.stores (sound_of c s g.0.0)) (proving_same s t d.stores.net d.stores.replicas h);
}

-- what all this is kept under
abbrev pub Proven : Config → State → Type 0
Proven c s = Held c s × Proving s

abbrev pub ProvenAt : Config → State → ℕ → Type 0
ProvenAt c s o = HeldAt c s o × Proving s

pub proven_kept : (c : Config) → IsInOrder c → IsKept c (Proven c) (ProvenAt c)
proven_kept c n = record {
  keeps = λ at. stacked c at (Held c) (HeldAt c) Proving (λ s o. Proving s) (held_keeps c n at) (proving_under c n at);
  ticked = λ s at h. (held_ticks c n s at h.0, record { prove = prove_moved s (ticks s at) s.net refl h.1.prove });
}

pub proven_start : (c : Config) → IsInOrder c → Proven c (start c)
proven_start c n = (held_start c n, record { prove = record { each = λ m replica id q answer z l t b a. absurd (omega (arith, z, l)) } })

pub prove_run : (c : Config) (steps : List Step) (s : State) → IsInOrder c → run c steps ≡ Some s → RepliesProve s
prove_run c steps s n e =
    let h = (kept_run c (Proven c) (ProvenAt c) (proven_kept c n) (proven_start c n) steps s e).1 in
    record { each = λ m exchange replica id q answer d. h.prove.each m replica id q answer d.numbered d.sent d.target d.says (ap (λ (n : ℕ). (message_at s.net n).body) d.of ∙ d.asked) }
