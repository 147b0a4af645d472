-- A settled disk, before and after accepts.
use Rattle.std.proofs.Common.{◌≡◌, ℕ, zero, suc, ◌+◌, ◌-◌, ◌*◌, ◌^◌, ◌<◌, ◌≤◌, ◌⊎◌, true, false, min, List, [], ◌∷◌, length, get_or, set, take, slice_index, if◌then◌else◌, arith, refl, sym, ap, ◌∙◌, inl, inr, subst}
use Rattle.std.proofs.lemmas.Grind.{common_steps}
use Rattle.std.proofs.lemmas.List.{length-set, set-get_or, set_past}
use Rattle.carstamps.specs.Stamp.{stamp_lt}
use Rattle.causal_context.specs.declared.dep.Dep.{Dep}
use Rattle.rss_wire.specs.declared.messages.RegReply.{RegReply}
use Rattle.rss_tables.specs.ReplicaRow.{opening_cell, held_at, dep_cell, accept, accept_all}
use Rattle.replica_disk.specs.Disks.{Loose, IsDurable, IsImage, MadeCalls}
use Rattle.replica_disk.specs.Cells.{register_at, gates_at}
use Rattle.replica_disk.specs.Registers.{registers_of, gates_of, Holds, LeavesEither, IsSettled, replace_cost}
use Rattle.replica_disk.specs.Accepts.{replaces, OpensTo, OpensInPart, accept_cost, times_accepted, times_all, cost_all}
use Rattle.replica_disk.proofs.Lists.{each_at, each_length, registers_hold, gates_hold, registers_same}
use Rattle.replica_disk.proofs.Fronts.{accept_more, cost_more, times_more, cost_front}

-- what is held of a register is what the disk holds
pub held_there : (bytes : List ℕ) (loose : Loose) (held : List RegReply) (i : ℕ) (d : RegReply) → IsSettled bytes loose held → i < length held → register_at bytes i ≡ get_or held i d
held_there bytes loose held i d s lt =
    let e : i ≡ 0 + i = omega arith in
    ap (register_at bytes) e ∙ sym (each_at (register_at bytes) 0 (length held) i d lt) ∙ ap (λ (xs : List RegReply). get_or xs i d) s.registers

pub gates_there : (bytes : List ℕ) (n i : ℕ) → i < n → gates_at bytes i ≡ get_or (gates_of bytes n) i 0
gates_there bytes n i lt =
    let e : i ≡ 0 + i = omega arith in
    ap (gates_at bytes) e ∙ sym (each_at (gates_at bytes) 0 n i 0 lt)

-- the room of a register
pub room_there : (bytes : List ℕ) (loose : Loose) (held : List RegReply) (i : ℕ) → IsSettled bytes loose held → i < length held → 64 * i + 64 ≤ length bytes
room_there bytes loose held i s lt = let r = s.room in omega arith

-- whatever a stop leaves of what is settled opens to the registers
pub settled_opens : (bytes : List ℕ) (loose : Loose) (held : List RegReply) (image : List ℕ) → IsSettled bytes loose held → IsImage bytes loose image → registers_of image (length held) ≡ held
settled_opens bytes loose held image s is =
    registers_same bytes image (length held) (λ p. is.same p (s.durable p)) ∙ s.registers

-- a settled disk of which one register was replaced
pub settled_after : (before after : List ℕ) (was loose : Loose) (held : List RegReply) (i : ℕ) (new : RegReply) → IsSettled before was held → i < length held
    → Holds before after i new → IsDurable loose → IsSettled after loose (set held i new)
settled_after before after was loose held i new s lt h durable =
    let len : length (set held i new) ≡ length held = length-set held i new in
    let size : length after ≡ length before = h.outside.size in
    let room = s.room in
    record {
      room = omega (arith, len, size, room);
      durable = durable;
      registers = ap (registers_of after) len ∙ registers_hold before after (length held) i new lt h ∙ ap (λ (xs : List RegReply). set xs i new) s.registers;
    }

-- an accept that replaces, and one that does not
pub accept_replaces : (held : List RegReply) (d : Dep) → replaces held d ≡ true → set held d.key.index (dep_cell d) ≡ accept held d.key (dep_cell d)
accept_replaces held d e = grind (arith, common_steps)

pub accept_leaves : (held : List RegReply) (d : Dep) → replaces held d ≡ false → held ≡ accept held d.key (dep_cell d)
accept_leaves held d e = grind (arith, common_steps, set_past)

pub replaces_there : (held : List RegReply) (d : Dep) → replaces held d ≡ true → d.key.index < length held
replaces_there held d e = grind (arith, common_steps)

pub replaces_above : (held : List RegReply) (d : Dep) → replaces held d ≡ true → stamp_lt (held_at held d.key).stamp d.stamp ≡ true
replaces_above held d e = grind (arith, common_steps)

-- what is put where it is held already changes nothing
kept : (before : List ℕ) (loose : Loose) (held : List RegReply) (i : ℕ) → IsSettled before loose held → i < length held
    → set (registers_of before (length held)) i (register_at before i) ≡ held
kept before loose held i s lt =
    ap (λ (xs : List RegReply). set xs i (register_at before i)) s.registers
    ∙ ap (λ (x : RegReply). set held i x) (held_there before loose held i opening_cell s lt) ∙ set-get_or held i opening_cell

-- what a stop leaves of one accept
opens_one : (before image : List ℕ) (loose : Loose) (held : List RegReply) (d : Dep) → IsSettled before loose held → d.key.index < length held
    → replaces held d ≡ true
    → Holds before image d.key.index (register_at before d.key.index) ⊎ Holds before image d.key.index (dep_cell d) → OpensTo image held (d ∷ [])
opens_one before image loose held d s lt above (inl h) = record {
  front = 0;
  some = omega arith;
  registers = registers_hold before image (length held) d.key.index _ lt h ∙ kept before loose held d.key.index s lt;
}
opens_one before image loose held d s lt above (inr h) = record {
  front = 1;
  some = omega arith;
  registers = registers_hold before image (length held) d.key.index _ lt h ∙ ap (λ (xs : List RegReply). set xs d.key.index (dep_cell d)) s.registers
      ∙ accept_replaces held d above;
}

pub opens_accept : (before bytes : List ℕ) (was loose : Loose) (held : List RegReply) (d : Dep) → IsSettled before was held → replaces held d ≡ true
    → LeavesEither before bytes loose d.key.index (dep_cell d) → OpensInPart bytes loose held (d ∷ [])
opens_accept before bytes was loose held d s new leaves = record {
  each = λ image is. opens_one before image was held d s (replaces_there held d new) new (leaves.each image is);
}

-- the size stays, whatever stops
pub size_either : (before bytes : List ℕ) (loose : Loose) (i : ℕ) (new : RegReply) → LeavesEither before bytes loose i new → length bytes ≡ length before
size_either before bytes loose i new leaves = size_of before bytes i new (leaves.each bytes (record { size = refl; same = λ p _. refl }))
  where
    size_of : (before bytes : List ℕ) (i : ℕ) (new : RegReply) → Holds before bytes i (register_at before i) ⊎ Holds before bytes i new → length bytes ≡ length before
    size_of before bytes i new (inl h) = h.outside.size
    size_of before bytes i new (inr h) = h.outside.size

-- the gates after it
pub times_replaces : (before after : List ℕ) (held : List RegReply) (d : Dep) → replaces held d ≡ true
    → Holds before after d.key.index (dep_cell d) → gates_at after d.key.index ≡ min 2 (gates_at before d.key.index + 1)
    → gates_of after (length held) ≡ times_accepted held (gates_of before (length held)) d
unfolding times_accepted
times_replaces before after held d new h more =
    let i : ℕ = d.key.index in
    let lt : i < length held = replaces_there held d new in
    let times : List ℕ = gates_of before (length held) in
    gates_hold before after (length held) i (dep_cell d) lt h
    ∙ ap (λ n. set times i n) (more ∙ ap (λ n. min 2 (n + 1)) (gates_there before (length held) i lt))
    ∙ ap (λ b. if b then set times i (min 2 (get_or times i 0 + 1)) else times) (sym new)

pub times_leaves : (bytes : List ℕ) (held : List RegReply) (d : Dep) → replaces held d ≡ false
    → gates_of bytes (length held) ≡ times_accepted held (gates_of bytes (length held)) d
unfolding times_accepted
times_leaves bytes held d old =
    let i : ℕ = d.key.index in
    let times : List ℕ = gates_of bytes (length held) in
    ap (λ b. if b then set times i (min 2 (get_or times i 0 + 1)) else times) (sym old)

-- what it costs
pub cost_replaces : (before : List ℕ) (held : List RegReply) (d : Dep) → replaces held d ≡ true
    → replace_cost (gates_at before d.key.index) ≡ accept_cost held (gates_of before (length held)) d
unfolding accept_cost
cost_replaces before held d new =
    ap replace_cost (gates_there before (length held) d.key.index (replaces_there held d new))
    ∙ ap (λ b. if b then replace_cost (get_or (gates_of before (length held)) d.key.index 0) else 0) (sym new)

pub cost_leaves : (bytes : List ℕ) (held : List RegReply) (d : Dep) → replaces held d ≡ false
    → 0 ≡ accept_cost held (gates_of bytes (length held)) d
unfolding accept_cost
cost_leaves bytes held d old =
    ap (λ b. if b then replace_cost (get_or (gates_of bytes (length held)) d.key.index 0) else 0) (sym old)

-- the register's stamp on the disk is below the new one
pub above_there : (bytes : List ℕ) (loose : Loose) (held : List RegReply) (d : Dep) → IsSettled bytes loose held → replaces held d ≡ true
    → stamp_lt (register_at bytes d.key.index).stamp d.stamp ≡ true
above_there bytes loose held d s new =
    ap (λ (x : RegReply). stamp_lt x.stamp d.stamp) (held_there bytes loose held d.key.index opening_cell s (replaces_there held d new)) ∙ replaces_above held d new

pub ruleset accepts = (room_there, replaces_there, above_there, settled_after, opens_accept, size_either, accept_replaces, times_replaces, cost_replaces)

pub ruleset leaves = (accept_leaves, times_leaves, cost_leaves)

-- one accept more of a list
pub next_accepted : (held cells : List RegReply) (ds : List Dep) (k : ℕ) (d : Dep) → cells ≡ accept_all held (take k ds) → k < length ds → d ≡ get_or ds k d
    → accept cells d.key (dep_cell d) ≡ accept_all held (take (k + 1) ds)
next_accepted held cells ds k d e lt is =
    ap (λ (c : List RegReply). accept c d.key (dep_cell d)) e
    ∙ ap (λ (x : Dep). accept (accept_all held (take k ds)) x.key (dep_cell x)) is ∙ sym (accept_more held ds k d lt)

pub next_times : (held cells : List RegReply) (start times : List ℕ) (ds : List Dep) (k : ℕ) (d : Dep) → cells ≡ accept_all held (take k ds) → times ≡ times_all held start (take k ds)
    → k < length ds → d ≡ get_or ds k d → times_accepted cells times d ≡ times_all held start (take (k + 1) ds)
next_times held cells start times ds k d e f lt is =
    ap (λ (c : List RegReply). times_accepted c times d) e ∙ ap (λ (t : List ℕ). times_accepted (accept_all held (take k ds)) t d) f
    ∙ ap (λ (x : Dep). times_accepted (accept_all held (take k ds)) (times_all held start (take k ds)) x) is ∙ sym (times_more held start ds k d lt)

pub next_cost : (held cells : List RegReply) (start times : List ℕ) (ds : List Dep) (k : ℕ) (d : Dep) → cells ≡ accept_all held (take k ds) → times ≡ times_all held start (take k ds)
    → k < length ds → d ≡ get_or ds k d → cost_all held start (take k ds) + accept_cost cells times d ≡ cost_all held start (take (k + 1) ds)
next_cost held cells start times ds k d e f lt is =
    ap (λ n. cost_all held start (take k ds) + n)
    (ap (λ (c : List RegReply). accept_cost c times d) e ∙ ap (λ (t : List ℕ). accept_cost (accept_all held (take k ds)) t d) f
    ∙ ap (λ (x : Dep). accept_cost (accept_all held (take k ds)) (times_all held start (take k ds)) x) is)
    ∙ sym (cost_more held start ds k d lt)

-- one accept of a list, behind the front of it
opens_behind : (image : List ℕ) (held cells : List RegReply) (ds : List Dep) (k : ℕ) (d : Dep) (f : ℕ) → cells ≡ accept_all held (take k ds) → length cells ≡ length held
    → k < length ds → d ≡ get_or ds k d → f ≤ 1 → registers_of image (length cells) ≡ accept_all cells (take f (d ∷ [])) → OpensTo image held ds
opens_behind image held cells ds k d zero e len lt is le h = record {
  front = k;
  some = omega arith;
  registers = ap (registers_of image) (sym len) ∙ h ∙ e;
}
opens_behind image held cells ds k d (suc zero) e len lt is le h = record {
  front = k + 1;
  some = omega arith;
  registers = ap (registers_of image) (sym len) ∙ h ∙ next_accepted held cells ds k d e lt is;
}
opens_behind image held cells ds k d (suc (suc n)) e len lt is le h = absurd (omega (arith, le))

pub opens_more : (bytes : List ℕ) (loose : Loose) (held cells : List RegReply) (ds : List Dep) (k : ℕ) (d : Dep) → cells ≡ accept_all held (take k ds) → length cells ≡ length held
    → k < length ds → d ≡ get_or ds k d → OpensInPart bytes loose cells (d ∷ []) → OpensInPart bytes loose held ds
opens_more bytes loose held cells ds k d e len lt is opens = record {
  each = λ image im. let o = opens.each image im in opens_behind image held cells ds k d o.front e len lt is o.some o.registers;
}

-- the cost so far and of one accept more is within the whole
pub next_within : (held cells : List RegReply) (start times : List ℕ) (ds : List Dep) (k : ℕ) (d : Dep) → cells ≡ accept_all held (take k ds) → times ≡ times_all held start (take k ds)
    → k < length ds → d ≡ get_or ds k d → cost_all held start (take k ds) + accept_cost cells times d ≤ cost_all held start ds
next_within held cells start times ds k d e f lt is =
    let next = next_cost held cells start times ds k d e f lt is in
    let whole = cost_front held start ds (k + 1) in
    omega (arith, next, whole)

-- a turn of the loop
pub turn : (held cells after : List RegReply) (start times now : List ℕ) (ds : List Dep) (k : ℕ) (d : Dep) (a b c : ℕ) → now ≡ times_accepted cells times d
    → after ≡ accept cells d.key (dep_cell d) → MadeCalls b c (accept_cost cells times d) → cells ≡ accept_all held (take k ds)
    → times ≡ times_all held start (take k ds) → MadeCalls a b (cost_all held start (take k ds)) → k < length ds → d ≡ get_or ds k d
    → (after ≡ accept_all held (take (k + 1) ds)) × (now ≡ times_all held start (take (k + 1) ds)) × MadeCalls a c (cost_all held start (take (k + 1) ds))
turn held cells after start times now ds k d a b c n f more e g made lt is =
    let next = next_cost held cells start times ds k d e g lt is in
    let l1 = made.least in
    let m1 = made.most in
    let l2 = more.least in
    let m2 = more.most in (
      f ∙ next_accepted held cells ds k d e lt is,
      n ∙ next_times held cells start times ds k d e g lt is,
      record { least = omega (arith, next, l1, m1, l2, m2); most = omega (arith, next, l1, m1, l2, m2) },
    )

pub turn_within : (held cells : List RegReply) (start times : List ℕ) (ds : List Dep) (k : ℕ) (d : Dep) (a b c : ℕ) → c ≤ b + accept_cost cells times d
    → cells ≡ accept_all held (take k ds) → times ≡ times_all held start (take k ds) → MadeCalls a b (cost_all held start (take k ds)) → k < length ds → d ≡ get_or ds k d
    → c ≤ a + cost_all held start ds
turn_within held cells start times ds k d a b c more e g made lt is =
    let within = next_within held cells start times ds k d e g lt is in
    let m1 = made.most in
    omega (arith, within, m1, more)

pub ruleset goes_on = (next_accepted, next_times, next_cost, next_within, opens_more)
