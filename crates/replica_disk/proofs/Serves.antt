-- A list of requests over a disk that stops once.
use Rattle.std.proofs.Common.{◌≡◌, ℕ, zero, suc, ◌+◌, ◌-◌, ◌*◌, ◌^◌, ◌<◌, ◌≤◌, ◌&&◌, ◌==◌, ◌⊎◌, Bool, true, false, min, nat_le, List, [], ◌∷◌, ◌++◌, length, get_or, take, replicate, slice_index, if◌then◌else◌, arith, refl, sym, ap, subst, ◌∙◌, inl, inr}
use Rattle.std.proofs.lemmas.Grind.{common_steps}
use Rattle.std.proofs.lemmas.List.{take_more, take_all}
use Rattle.std.proofs.lemmas.Bool.{cases_lt}
use Rattle.rss_wire.specs.declared.messages.RegReply.{RegReply}
use Rattle.rss_wire.specs.declared.messages.Request.{Request}
use Rattle.rss_tables.specs.ReplicaRow.{opening_cell, accept_all, replica_after}
use Rattle.replica_disk.specs.declared.layout.RegisterCell.{RegisterCell}
use Rattle.replica_disk.specs.Disks.{Loose, IsDurable, NothingLoose, IsImage, LeavesAtMost, MadeCalls}
use Rattle.replica_disk.specs.Memory.{Memory, is_loose, stops_met, fresh_memory}
use Rattle.replica_disk.specs.Cells.{cell_at, content_at, register_at, gates_at}
use Rattle.replica_disk.specs.Registers.{each_from, registers_of, gates_of}
use Rattle.replica_disk.specs.Accepts.{OpensTo, OpensInPart, accepts_of, after_all, times_all, cost_all, calls_needed, requests_cost, times_after_all}
use Rattle.replica_disk.specs.Serving.{GoesOn}
use Rattle.replica_disk.proofs.Windows.{cell_of}
use Rattle.replica_disk.proofs.Blocks.{register_is, gates_is}
use Rattle.replica_disk.proofs.Lists.{registers_same}
use Rattle.replica_disk.proofs.Fronts.{registers_again}

-- of a new disk nothing is loose
none_loose : (n p : ℕ) → ◌≡◌ {A = Bool} (get_or (replicate n false) p false) false
none_loose zero p = refl
none_loose (suc n) zero = refl
none_loose (suc n) (suc p) = none_loose n p

pub fresh_durable : (d : Memory) (size stop : ℕ) → d ≡ fresh_memory size stop → NothingLoose (is_loose d.loose)
fresh_durable d size stop e = record { none = λ p. ap (λ (m : Memory). is_loose m.loose p) e ∙ none_loose size p }

-- zero bytes hold nothing
zeros : (n p : ℕ) → ◌≡◌ {A = ℕ} (get_or (replicate n 0) p 0) 0
zeros zero p = refl
zeros (suc n) zero = refl
zeros (suc n) (suc p) = zeros n p

closed : (m at : ℕ) → cell_at (replicate m 0) at ≡ cell_of false (content_at (replicate m 0) at)
closed m at = ap (λ (b : ℕ). cell_of (b == 1) (content_at (replicate m 0) at)) (zeros m at)

each_constant : {X : Type 0} (f : ℕ → X) (x : X) (i n : ℕ) → ((k : ℕ) → f k ≡ x) → each_from f i n ≡ replicate n x
unfolding each_from
each_constant f x i zero h = refl
each_constant f x i (suc n) h = ap (λ y. y ∷ each_from f (i + 1) n) (h i) ∙ ap (λ ys. x ∷ ys) (each_constant f x (i + 1) n h)

pub fresh_registers : (m n : ℕ) → registers_of (replicate m 0) n ≡ replicate n opening_cell
fresh_registers m n = each_constant (register_at (replicate m 0)) opening_cell 0 n (λ k. register_is (replicate m 0) k _ _ (closed m (64 * k)) (closed m (64 * k + 32)))

pub fresh_gates : (m n : ℕ) → gates_of (replicate m 0) n ≡ replicate n 0
fresh_gates m n = each_constant (gates_at (replicate m 0)) 0 0 n (λ k. gates_is (replicate m 0) k _ _ (closed m (64 * k)) (closed m (64 * k + 32)))

-- lists of requests
pub after_all-append : (cells : List RegReply) (xs ys : List Request) → after_all cells (xs ++ ys) ≡ after_all (after_all cells xs) ys
after_all-append cells [] ys = refl
after_all-append cells (x ∷ xs) ys = after_all-append (replica_after cells x) xs ys

times_after_all-append : (cells : List RegReply) (times : List ℕ) (xs ys : List Request) → times_after_all cells times (xs ++ ys) ≡ times_after_all (after_all cells xs) (times_after_all cells times xs) ys
times_after_all-append cells times [] ys = refl
times_after_all-append cells times (x ∷ xs) ys = times_after_all-append (replica_after cells x) (times_all cells times (accepts_of x)) xs ys

plus_zero : (n : ℕ) → n ≡ 0 + n
plus_zero n = omega arith

plus_assoc : (a b c d : ℕ) → b ≡ c + d → a + b ≡ a + c + d
plus_assoc a b c d e = omega arith

plus_nothing : (a b c : ℕ) → a ≡ b + (c + 0) → a ≡ b + c
plus_nothing a b c e = omega arith

requests_cost-append : (cells : List RegReply) (times : List ℕ) (xs ys : List Request)
    → requests_cost cells times (xs ++ ys) ≡ requests_cost cells times xs + requests_cost (after_all cells xs) (times_after_all cells times xs) ys
requests_cost-append cells times [] ys = plus_zero (requests_cost cells times ys)
requests_cost-append cells times (x ∷ xs) ys =
    plus_assoc (cost_all cells times (accepts_of x)) _ _ _ (requests_cost-append (replica_after cells x) (times_all cells times (accepts_of x)) xs ys)

-- one request more
pub next_held : (start cells : List RegReply) (rs : List Request) (k : ℕ) (r : Request) → cells ≡ after_all start (take k rs) → k < length rs → r ≡ get_or rs k r
    → replica_after cells r ≡ after_all start (take (k + 1) rs)
next_held start cells rs k r e lt is =
    ap (λ (c : List RegReply). replica_after c r) e ∙ ap (λ (x : Request). replica_after (after_all start (take k rs)) x) is
    ∙ sym (ap (after_all start) (take_more rs k r lt) ∙ after_all-append start (take k rs) (get_or rs k r ∷ []))

pub next_gates : (start cells : List RegReply) (first times : List ℕ) (rs : List Request) (k : ℕ) (r : Request) → cells ≡ after_all start (take k rs)
    → times ≡ times_after_all start first (take k rs) → k < length rs → r ≡ get_or rs k r
    → times_all cells times (accepts_of r) ≡ times_after_all start first (take (k + 1) rs)
next_gates start cells first times rs k r e f lt is =
    ap (λ (c : List RegReply). times_all c times (accepts_of r)) e ∙ ap (λ (t : List ℕ). times_all (after_all start (take k rs)) t (accepts_of r)) f
    ∙ ap (λ (x : Request). times_all (after_all start (take k rs)) (times_after_all start first (take k rs)) (accepts_of x)) is
    ∙ sym (ap (times_after_all start first) (take_more rs k r lt) ∙ times_after_all-append start first (take k rs) (get_or rs k r ∷ []))

pub next_spent : (start cells : List RegReply) (first times : List ℕ) (rs : List Request) (k : ℕ) (r : Request) → cells ≡ after_all start (take k rs)
    → times ≡ times_after_all start first (take k rs) → k < length rs → r ≡ get_or rs k r
    → requests_cost start first (take k rs) + cost_all cells times (accepts_of r) ≡ requests_cost start first (take (k + 1) rs)
next_spent start cells first times rs k r e f lt is =
    ap (λ n. requests_cost start first (take k rs) + n)
    (ap (λ (c : List RegReply). cost_all c times (accepts_of r)) e ∙ ap (λ (t : List ℕ). cost_all (after_all start (take k rs)) t (accepts_of r)) f
    ∙ ap (λ (x : Request). cost_all (after_all start (take k rs)) (times_after_all start first (take k rs)) (accepts_of x)) is)
    ∙ sym (plus_nothing _ _ _ (ap (requests_cost start first) (take_more rs k r lt) ∙ requests_cost-append start first (take k rs) (get_or rs k r ∷ [])))

at_most_sum : (a b c : ℕ) → c ≡ a + b → a ≤ c
at_most_sum a b c e = omega arith

pub next_at_least : (start : List RegReply) (first : List ℕ) (rs : List Request) (k : ℕ) (r : Request) → k < length rs → requests_cost start first (take k rs) ≤ requests_cost start first (take (k + 1) rs)
next_at_least start first rs k r lt =
    at_most_sum _ _ _ (ap (requests_cost start first) (take_more rs k r lt) ∙ requests_cost-append start first (take k rs) (get_or rs k r ∷ []))

-- a disk and the calls on it
at_most_one : (d : Memory) → stops_met d ≤ 1
at_most_one d = grind (arith, common_steps)

stop_positive : (d : Memory) → stops_met d ≡ 1 → (1 ≤ d.stop) × (d.stop ≤ d.calls)
stop_positive d e = grind (arith, common_steps)

pub goes_nowhere : (a : Memory) → GoesOn a a 0
goes_nowhere a = record {
  same = refl;
  quiet = λ h. (h, record { least = omega arith; most = omega arith });
  stopped = λ h e. absurd (omega (arith, h, e));
}

stopped_by : (a b c : Memory) (m more total : ℕ) → GoesOn a b m → GoesOn b c more → (stops_met b ≡ 0 → m + more ≡ total) → m ≤ total → stops_met a ≡ 0 → stops_met c ≡ 1
    → (stops_met b < 1) ⊎ (1 ≤ stops_met b) → a.stop ≤ a.calls + total
stopped_by a b c m more total f g same le h e (inl lt) =
    let none : stops_met b ≡ 0 = omega (arith, lt) in
    let q : MadeCalls a.calls b.calls m = (f.quiet none).1 in
    let most = q.most in
    let met = g.stopped none e in
    let whole = same none in
    let stop_is : b.stop ≡ a.stop = f.same in
    omega (arith, most, met, whole, stop_is)
stopped_by a b c m more total f g same le h e (inr some) =
    let one : stops_met b ≡ 1 = omega (arith, some, at_most_one b) in
    let met = f.stopped h one in
    omega (arith, met, le)

pub goes_more : (a b c : Memory) (m more total : ℕ) → GoesOn a b m → GoesOn b c more → (stops_met b ≡ 0 → m + more ≡ total) → m ≤ total → GoesOn a c total
goes_more a b c m more total f g same le = record {
  same = g.same ∙ f.same;
  quiet = λ h.
      let q : (stops_met b ≡ 0) × MadeCalls b.calls c.calls more = g.quiet h in
      let p : (stops_met a ≡ 0) × MadeCalls a.calls b.calls m = f.quiet q.0 in
      let whole = same q.0 in
      let l1 = p.1.least in
      let m1 = p.1.most in
      let l2 = q.1.least in
      let m2 = q.1.most in
      (p.0, record { least = omega (arith, whole, l1, m1, l2, m2); most = omega (arith, whole, l1, m1, l2, m2) });
  stopped = λ h e. stopped_by a b c m more total f g same le h e (cases_lt (stops_met b) 1);
}

-- a handled request that met no stop
pub goes_quietly : (a b : Memory) (n : ℕ) → b.stop ≡ a.stop → stops_met b ≡ stops_met a → MadeCalls a.calls b.calls n → GoesOn a b n
goes_quietly a b n same faults made = record {
  same = same;
  quiet = λ h. (sym faults ∙ h, made);
  stopped = λ h e. absurd (omega (arith, h, e, faults));
}

-- one that met the stop
pub goes_stopped : (a b c : Memory) (n : ℕ) → b.stop ≡ a.stop → c.stop ≡ b.stop → stops_met b ≡ 1 → stops_met c ≡ 1 → b.calls ≤ a.calls + n → GoesOn a c n
goes_stopped a b c n same still met then_met most = record {
  same = still ∙ same;
  quiet = λ h. absurd (omega (arith, h, then_met));
  stopped = λ h e.
      let p = stop_positive b met in
      let at_most = p.1 in
      omega (arith, at_most, same, most);
}

abbrev stop_count : ℕ → ℕ → ℕ
stop_count stop calls = if nat_le 1 stop && nat_le stop calls then 1 else 0

-- how often it stopped in the end
quiet_count : (stop needed calls : ℕ) → stop < 2 ^ 32 → min needed (2 ^ 64 - 1) ≤ calls → stop_count stop calls ≡ 0 → stop_count stop needed ≡ 0
quiet_count stop needed calls small least e = grind (arith, common_steps)

stopped_count : (stop needed calls : ℕ) → stop ≤ needed → stop_count stop calls ≡ 1 → stop_count stop needed ≡ 1
stopped_count stop needed calls le e = grind (arith, common_steps)

pub fresh_stops : (size stop : ℕ) → stops_met (fresh_memory size stop) ≡ 0
fresh_stops size stop = grind (arith, common_steps)

count_by : (first last : Memory) (needed : ℕ) → first.calls ≡ 0 → first.stop < 2 ^ 32 → GoesOn first last needed → (stops_met last < 1) ⊎ (1 ≤ stops_met last)
    → stops_met first ≡ 0 → stops_met last ≡ stop_count first.stop needed
count_by first last needed zero_calls small g (inl lt) none =
    let quiet : stops_met last ≡ 0 = omega (arith, lt) in
    let made : MadeCalls first.calls last.calls needed = (g.quiet quiet).1 in
    let least = made.least in
    let same : last.stop ≡ first.stop = g.same in
    quiet ∙ sym (quiet_count first.stop needed last.calls small (omega (arith, least, zero_calls)) (ap (λ n. stop_count n last.calls) (sym same) ∙ quiet))
count_by first last needed zero_calls small g (inr le) none =
    let one : stops_met last ≡ 1 = omega (arith, le, at_most_one last) in
    let met = g.stopped none one in
    let same : last.stop ≡ first.stop = g.same in
    one ∙ sym (stopped_count first.stop needed last.calls (omega (arith, met, zero_calls)) (ap (λ n. stop_count n last.calls) (sym same) ∙ one))

pub count_is : (size stop : ℕ) (last : Memory) (needed : ℕ) → stop < 2 ^ 32 → GoesOn (fresh_memory size stop) last needed
    → stops_met last ≡ stop_count stop needed
count_is size stop last needed small g = count_by (fresh_memory size stop) last needed refl small g (cases_lt (stops_met last) 1) (fresh_stops size stop)

-- what is held in the end, from a new disk on
pub serve_registers : (d : Memory) (size stop n : ℕ) (opened last : List RegReply) (rs : List Request) → d ≡ fresh_memory size stop
    → opened ≡ registers_of d.bytes n → last ≡ after_all opened rs → last ≡ after_all (replicate n opening_cell) rs
serve_registers d size stop n opened last rs e f g =
    g ∙ ap (λ (c : List RegReply). after_all c rs) (f ∙ ap (λ (m : Memory). registers_of m.bytes n) e ∙ fresh_registers size n)

-- and how often it stopped
pub serve_stops : (d opened last : Memory) (size stop n : ℕ) (held : List RegReply) (rs : List Request) → stop < 2 ^ 32 → d ≡ fresh_memory size stop
    → held ≡ registers_of d.bytes n → (stops_met opened ≡ 0 → opened.bytes ≡ d.bytes) → GoesOn d opened 1
    → GoesOn opened last (requests_cost held (gates_of opened.bytes n) rs) → stops_met last ≡ stop_count stop (calls_needed n rs)
serve_stops d opened last size stop n held rs small e f bytes g h =
    let is_held : held ≡ replicate n opening_cell = f ∙ ap (λ (m : Memory). registers_of m.bytes n) e ∙ fresh_registers size n in
    let gates : stops_met opened ≡ 0 → gates_of opened.bytes n ≡ replicate n 0 = λ z.
    ap (λ (xs : List ℕ). gates_of xs n) (bytes z) ∙ ap (λ (m : Memory). gates_of m.bytes n) e ∙ fresh_gates size n in
    let cost : stops_met opened ≡ 0 → 1 + requests_cost held (gates_of opened.bytes n) rs ≡ calls_needed n rs = λ z.
    ap (λ (x : ℕ). 1 + x)
    (ap (λ (c : List RegReply). requests_cost c (gates_of opened.bytes n) rs) is_held
    ∙ ap (λ (t : List ℕ). requests_cost (replicate n opening_cell) t rs) (gates z)) in
    count_is size stop last (calls_needed n rs) small
    (subst (λ (m : Memory). GoesOn m last (calls_needed n rs)) e
    (goes_more d opened last 1 (requests_cost held (gates_of opened.bytes n) rs) (calls_needed n rs) g h cost (omega arith)))

-- what a stop leaves of the disk, as it is read again
pub opened_front : (bytes : List ℕ) (loose : Loose) (held : List RegReply) (r : Request) (n : ℕ) → length held ≡ n → OpensInPart bytes loose held (accepts_of r)
    → replica_after (registers_of bytes n) r ≡ replica_after held r
opened_front bytes loose held r n len opens =
    let o : OpensTo bytes held (accepts_of r) = opens.each bytes (record { size = refl; same = λ p _. refl }) in
    ap (λ (k : ℕ). replica_after (registers_of bytes k) r) (sym len) ∙ ap (λ (c : List RegReply). replica_after c r) o.registers ∙ registers_again held r o.front

pub opened_same : (bytes : List ℕ) (loose : Loose) (before : List ℕ) (was : Loose) (n : ℕ) → IsDurable was → LeavesAtMost bytes loose before was → registers_of bytes n ≡ registers_of before n
opened_same bytes loose before was n durable leaves =
    let is : IsImage before was bytes = leaves.each bytes (record { size = refl; same = λ p _. refl }) in
    registers_same before bytes n (λ p. is.same p (durable p))

pub ruleset serves = (goes_nowhere)

pub ruleset handles = (goes_quietly, goes_stopped, opened_front, opened_same)
