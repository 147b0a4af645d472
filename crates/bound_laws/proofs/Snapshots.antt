-- A session of a snapshot that nobody is in the way of, and that passed by nobody at or below its time, sends one
-- round of requests.
use Rattle.std.proofs.Common.{◌≡◌, ℕ, zero, suc, ◌+◌, ◌<◌, ◌≤◌, Bool, true, false, List, [], ◌∷◌, ◌++◌, length, Option, Some, None, refl, ap, sym, ◌∙◌, subst, arith}
use Rattle.std.specs.Prelude.{⊤, ◌==◌, nat_le, if◌then◌else◌}
use Rattle.std.specs.List.{list_any, filter}
use Rattle.std.proofs.lemmas.Bool.{cond_both, true≢false}
use Rattle.std.proofs.lemmas.Bool.Decides.{nat_tests}
use Rattle.truetime.specs.Reading.{Reading}
use Rattle.rss_names.specs.declared.service.Key.{Key}
use Rattle.rss_wire.specs.declared.messages.Holder.{Holder}
use Rattle.rss_wire.specs.declared.messages.Reply.{Reply}
use Rattle.rss_wire.specs.declared.messages.Reply.TheVariants as reply
use Rattle.rss_wire.specs.declared.messages.Request.TheVariants as request
use Rattle.rss_wire.specs.declared.messages.Skipped.{Skipped}
use Rattle.rss_wire.specs.declared.messages.Version.{Version}
use Rattle.rss_tables.specs.Lines.{Line, keys_on, opening_line, lines_from, lines_of, line_at, with_line, in_state, all_answered}
use Rattle.rss_tables.specs.Outs.{Out}
use Rattle.rss_tables.specs.ShardRow.{Shard as ShardState, shard_reply, is_clear}
use Rattle.rss_tables.specs.SnapshotSession.{SnapSession, opening_snapshot, snap_request, snap_asks, snap_starts, must_ask_again, second_round, snapshot_time, snap_phase_ends, snap_told, snap_hears}
use Rattle.rss_tables.specs.Turns.{Turn, quiet}
use Rattle.rss_tables.specs.declared.lines.LineState.TheVariants.{Answered}
use Rattle.rss_tables.specs.declared.phases.SnapPhase.{SnapPhase}
use Rattle.rss_tables.specs.declared.phases.SnapPhase.TheVariants.{First, Second, Done}
use Rattle.bound_laws.specs.Snapshots.{Told, told_turn, told_after, told_sends, known_time, is_blocked, passes_by, HearsUnblocked, AreUnblocked, PassNobody, outs_to_shard, AsksOnce}

-- a shard answers a snapshot's request with values, or says who is in the way
data Answer : Reply → Type 0 where
  values : (versions : List (Key × Version)) (skipped : List Skipped) → Answer (reply.Values versions skipped)
  in_way : (holders : List Holder) → Answer (reply.Blocked holders)

snapshot_answer : (sh : ShardState) (latest read_time least : ℕ) (keys : List Key) (skip : Bool) → Answer (shard_reply sh latest (request.Snapshot read_time least keys skip))
unfolding shard_reply
snapshot_answer sh latest read_time least keys skip = cond_both (is_clear sh keys read_time least skip) _ _ Answer (λ e. values _ _) (λ e. in_way _)

answer_of : (t : SnapSession) (p : SnapPhase) (l : Line) (sh : ShardState) (latest : ℕ) → Answer (shard_reply sh latest (snap_request t p l))
answer_of t (First time) l sh latest = snapshot_answer sh latest time t.least l.reads true
answer_of t (Second time) l sh latest = snapshot_answer sh latest time t.least l.reads false
answer_of t (Done time) l sh latest = snapshot_answer sh latest time t.least l.reads false

record IsValues (r : Reply) : Type 0 where
  versions : List (Key × Version)
  skipped : List Skipped
  is : r ≡ reply.Values versions skipped

values_of : (t : SnapSession) (x : Told) → HearsUnblocked t x → IsValues x.reply
values_of t x h = by_answer (shard_reply h.shard h.latest (snap_request t t.phase (line_at t.lines x.shard))) h.gives (answer_of t t.phase (line_at t.lines x.shard) h.shard h.latest)
  where
    by_answer : (r : Reply) → x.reply ≡ r → Answer r → IsValues x.reply
    by_answer _ e (values versions skipped) = record { versions = versions; skipped = skipped; is = e }
    by_answer _ e (in_way holders) = absurd (true≢false (sym (ap is_blocked e) ∙ h.unblocked))

-- a time that is known stays
none_some : (n : ℕ) → None ≡ Some n → ⊥
none_some n e = cc

told_stays : (t : SnapSession) (l : Line) (time : ℕ) → known_time t.phase ≡ Some time → known_time (snap_told t l).after.phase ≡ Some time
told_stays t l time e = cond_both (all_answered u.lines) (snap_phase_ends u u.phase) (quiet u) (λ (x : Turn SnapSession). known_time x.after.phase ≡ Some time) (λ a. ends t.phase e) (λ a. e)
  where
    u : SnapSession
    u = record t { lines = with_line t.lines (in_state l Answered) }

    ends : (p : SnapPhase) → known_time p ≡ Some time → known_time (snap_phase_ends u p).after.phase ≡ Some time
    ends (First read_time) q = absurd (none_some time q)
    ends (Second known) q = q
    ends (Done known) q = e

abbrev shown_line : Line → List (Key × Version) → List Skipped → Line
shown_line l versions skipped = record l { shown = versions; skipped = skipped }

turn_stays : (t : SnapSession) (x : Told) (time : ℕ) → HearsUnblocked t x → known_time t.phase ≡ Some time → known_time (told_turn t x).after.phase ≡ Some time
turn_stays t x time h e =
    let v = values_of t x h in
    subst (λ (r : Reply). known_time (snap_hears t (line_at t.lines x.shard) r).after.phase ≡ Some time) (sym v.is) (told_stays t (shown_line (line_at t.lines x.shard) v.versions v.skipped) time e)

time_stays : (told : List Told) (t : SnapSession) (time : ℕ) → AreUnblocked t told → known_time t.phase ≡ Some time → known_time (told_after t told).phase ≡ Some time
time_stays [] t time h e = e
time_stays (x ∷ told) t time h e = time_stays told (told_turn t x).after time h.1 (turn_stays t x time h.0 e)

-- none of the lines passed by a writer at or below a time
abbrev LinesAbove : ℕ → List Line → Type 0
LinesAbove time [] = ⊤
LinesAbove time (l ∷ lines) = (must_ask_again time l ≡ false) × LinesAbove time lines

above_with : (time : ℕ) (lines : List Line) (new : Line) → must_ask_again time new ≡ false → LinesAbove time lines → LinesAbove time (with_line lines new)
above_with time [] new e h = tt
above_with time (l ∷ lines) new e h = (cond_both (l.shard == new.shard) new l (λ (x : Line). must_ask_again time x ≡ false) (λ a. e) (λ a. h.0), above_with time lines new e h.1)

none_again : (time : ℕ) (lines : List Line) → LinesAbove time lines → filter (must_ask_again time) lines ≡ []
none_again time [] h = refl
none_again time (l ∷ lines) h = cond_both (must_ask_again time l) (l ∷ filter (must_ask_again time) lines) (filter (must_ask_again time) lines) (λ (xs : List Line). xs ≡ []) (λ e. absurd (true≢false (sym e ∙ h.0))) (λ e. none_again time lines h.1)

opening_above : (time : ℕ) (home : ℕ → ℕ) (keys : List Key) (left shard : ℕ) → LinesAbove time (lines_from home keys [] shard left)
opening_above time home keys zero shard = tt
opening_above time home keys (suc left) shard =
    let rest = opening_above time home keys left (shard + 1) in
    cond_both (length (keys_on home shard keys) + length (keys_on home shard []) == 0) (lines_from home keys [] (shard + 1) left) (opening_line shard (keys_on home shard keys) (keys_on home shard []) ∷ lines_from home keys [] (shard + 1) left) (LinesAbove time)
    (λ e. rest) (λ e. (refl, rest))

-- a turn that sends nothing and begins no second round, where the time that is known at the end is this
abbrev is_second : SnapPhase → Bool
is_second (First read_time) = false
is_second (Second time) = true
is_second (Done time) = false

record Calm (end : Option ℕ) (x : Turn SnapSession) : Type 0 where
  quietly : x.outs ≡ []
  first : is_second x.after.phase ≡ false
  above : (time : ℕ) → end ≡ Some time → LinesAbove time x.after.lines

abbrev Kept : Option ℕ → Turn SnapSession → Type 0
Kept end x = (time : ℕ) → known_time x.after.phase ≡ Some time → end ≡ Some time

record Above (end : Option ℕ) (t : SnapSession) (l : Line) : Type 0 where
  lines : (time : ℕ) → end ≡ Some time → LinesAbove time t.lines
  line : (time : ℕ) → end ≡ Some time → must_ask_again time l ≡ false

cons_not_nil : (l : Line) (lines : List Line) → l ∷ lines ≡ [] → ⊥
cons_not_nil l lines e = cc

told_calm : (end : Option ℕ) (t : SnapSession) (l : Line) → is_second t.phase ≡ false → Above end t l → Kept end (snap_told t l) → Calm end (snap_told t l)
told_calm end t l c a =
    cond_both (all_answered u.lines) (snap_phase_ends u u.phase) (quiet u) (λ (x : Turn SnapSession). Kept end x → Calm end x) (λ e. ends t.phase c) (λ e y. record { quietly = refl; first = c; above = above })
  where
    u : SnapSession
    u = record t { lines = with_line t.lines (in_state l Answered) }

    above : (time : ℕ) → end ≡ Some time → LinesAbove time u.lines
    above time e = above_with time t.lines (in_state l Answered) (a.line time e) (a.lines time e)

    rounds : (again : List Line) → filter (must_ask_again (snapshot_time u)) u.lines ≡ again → Kept end (second_round u (snapshot_time u) again) → Calm end (second_round u (snapshot_time u) again)
    rounds [] e y = record { quietly = refl; first = refl; above = above }
    rounds (m ∷ again) e y = absurd (cons_not_nil m again (sym e ∙ none_again (snapshot_time u) u.lines (above (snapshot_time u) (y (snapshot_time u) refl))))

    ends : (p : SnapPhase) → is_second p ≡ false → Kept end (snap_phase_ends u p) → Calm end (snap_phase_ends u p)
    ends (First read_time) q y = rounds (filter (must_ask_again (snapshot_time u)) u.lines) refl y
    ends (Second time) q y = absurd (true≢false q)
    ends (Done time) q y = record { quietly = refl; first = c; above = above }

record Passing (time : ℕ) (told : List Told) (lines : List Line) : Type 0 where
  still : PassNobody time told
  before : LinesAbove time lines

-- so nothing is sent on hearing replies
sends_none : (told : List Told) (t : SnapSession) → AreUnblocked t told → is_second t.phase ≡ false → ((time : ℕ) → known_time (told_after t told).phase ≡ Some time → Passing time told t.lines) → told_sends t told ≡ []
sends_none [] t h c f = refl
sends_none (x ∷ told) t h c f = ap (λ (outs : List Out). outs ++ told_sends next.after told) calm.quietly ∙ sends_none told next.after h.1 calm.first (λ time e. record { still = (f time e).still.1; before = calm.above time e })
  where
    next : Turn SnapSession
    next = told_turn t x

    end : Option ℕ
    end = known_time (told_after t (x ∷ told)).phase

    v : IsValues x.reply
    v = values_of t x h.0

    l : Line
    l = shown_line (line_at t.lines x.shard) v.versions v.skipped

    passed : (time : ℕ) → end ≡ Some time → must_ask_again time l ≡ false
    passed time e = subst (λ (r : Reply). passes_by time r ≡ false) v.is (f time e).still.0

    kept : Kept end next
    kept time e = time_stays told next.after time h.1 e

    turns : Kept end (snap_hears t (line_at t.lines x.shard) x.reply) → Calm end (snap_hears t (line_at t.lines x.shard) x.reply)
    turns = subst (λ (r : Reply). Kept end (snap_hears t (line_at t.lines x.shard) r) → Calm end (snap_hears t (line_at t.lines x.shard) r)) (sym v.is) (told_calm end t l c (record { lines = λ time e. (f time e).before; line = passed }))

    calm : Calm end next
    calm = turns kept

-- the first round asks each line once, and there is one line for each shard
apart : (a b : ℕ) → (a ≡ b → ⊥) → (a == b) ≡ false
apart a b n = grind (arith, nat_tests, n)

same : (a b : ℕ) → (a == b) ≡ true → a ≡ b
same a b e = grind (arith, nat_tests, e)

nothing : (n : ℕ) → n ≡ 0 → (n + 0 == 0) ≡ true
nothing n e = grind (arith, nat_tests, e)

module _ (t : SnapSession) (home : ℕ → ℕ) (keys : List Key) (j : ℕ) where
  abbrev from : ℕ → ℕ → List Line
  from shard left = lines_from home keys [] shard left

  abbrev asked : ℕ → ℕ → ℕ
  asked shard left = outs_to_shard j (snap_asks t (from shard left))

  skips : (n : ℕ) (b : Bool) → b ≡ false → n ≡ 0 → (if b then suc n else n) ≡ 0
  skips n false e h = h
  skips n true e h = absurd (true≢false e)

  below_none : (left shard : ℕ) → j < shard → asked shard left ≡ 0
  below_none zero shard l = refl
  below_none (suc left) shard l =
      let rest = below_none left (shard + 1) (omega (arith, l)) in
      cond_both (length (keys_on home shard keys) + length (keys_on home shard []) == 0) (from (shard + 1) left) (opening_line shard (keys_on home shard keys) (keys_on home shard []) ∷ from (shard + 1) left) (λ (lines : List Line). outs_to_shard j (snap_asks t lines) ≡ 0)
      (λ e. rest) (λ e. skips (asked (shard + 1) left) (shard == j) (apart shard j (λ q. omega (arith, q, l))) rest)

  once : (shard left : ℕ) → asked (shard + 1) left ≤ 1 → (b : Bool) → (shard == j) ≡ b → (if b then suc (asked (shard + 1) left) else asked (shard + 1) left) ≤ 1
  once shard left h false e = h
  once shard left h true e = let q = same shard j e in let z = below_none left (shard + 1) (omega (arith, q)) in omega (arith, z)

  each_once : (left shard : ℕ) → asked shard left ≤ 1
  each_once zero shard = omega arith
  each_once (suc left) shard =
      let rest = each_once left (shard + 1) in
      cond_both (length (keys_on home shard keys) + length (keys_on home shard []) == 0) (from (shard + 1) left) (opening_line shard (keys_on home shard keys) (keys_on home shard []) ∷ from (shard + 1) left) (λ (lines : List Line). outs_to_shard j (snap_asks t lines) ≤ 1)
      (λ e. rest) (λ e. once shard left rest (shard == j) refl)

  other : length (keys_on home j keys) ≡ 0 → (shard : ℕ) → (length (keys_on home shard keys) + 0 == 0) ≡ false → (b : Bool) → (shard == j) ≡ b → b ≡ false
  other z shard e false q = refl
  other z shard e true q = absurd (true≢false (sym (nothing (length (keys_on home shard keys)) (subst (λ (n : ℕ). length (keys_on home n keys) ≡ 0) (sym (same shard j q)) z)) ∙ e))

  unread_none : length (keys_on home j keys) ≡ 0 → (left shard : ℕ) → asked shard left ≡ 0
  unread_none z zero shard = refl
  unread_none z (suc left) shard =
      let rest = unread_none z left (shard + 1) in
      cond_both (length (keys_on home shard keys) + length (keys_on home shard []) == 0) (from (shard + 1) left) (opening_line shard (keys_on home shard keys) (keys_on home shard []) ∷ from (shard + 1) left) (λ (lines : List Line). outs_to_shard j (snap_asks t lines) ≡ 0)
      (λ e. rest) (λ e. skips (asked (shard + 1) left) (shard == j) (other z shard e (shard == j) refl) rest)

pub snapshots_once : (home : ℕ → ℕ) (call : ℕ) (keys : List Key) (least : ℕ) (at : Reading) (told : List Told) → AreUnblocked (opening_snapshot home call keys least at) told
    → ((time : ℕ) → known_time (told_after (opening_snapshot home call keys least at) told).phase ≡ Some time → PassNobody time told)
    → AsksOnce home keys (opening_snapshot home call keys least at) told
snapshots_once home call keys least at told h f = record {
  each = λ shard. let a = each_once t home keys shard 16 1 in let z = silent shard in omega (arith, a, z);
  reads = λ shard n. let a = unread_none t home keys shard n 16 1 in let z = silent shard in omega (arith, a, z);
}
  where
    t : SnapSession
    t = opening_snapshot home call keys least at

    silent : (shard : ℕ) → outs_to_shard shard (told_sends t told) ≡ 0
    silent shard = ap (outs_to_shard shard) (sends_none told t h refl (λ time e. record { still = f time e; before = opening_above time home keys 16 1 }))
