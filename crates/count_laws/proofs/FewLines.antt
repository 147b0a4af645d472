-- A transaction and a snapshot keep as many lines as they began with, sixteen at most; a turn sends thirty-two requests at
-- most, and begins one attempt at most.
use Rattle.std.proofs.Common.{◌≡◌, ℕ, zero, suc, ◌+◌, ◌==◌, ◌≤◌, Bool, not, List, [], ◌∷◌, ◌++◌, length, map, ◌∙◌, arith, length-append}
use Rattle.std.specs.List.{filter}
use Rattle.std.proofs.lemmas.Bool.{cond_both}
use Rattle.std.proofs.lemmas.List.{length-map}
use Rattle.truetime.specs.Reading.{Reading}
use Rattle.rss_names.specs.declared.service.Key.{Key}
use Rattle.rss_names.specs.declared.attempt.Attempt.{Attempt}
use Rattle.rss_wire.specs.declared.messages.Holder.{Holder}
use Rattle.rss_wire.specs.declared.messages.Outcome.{Outcome}
use Rattle.rss_wire.specs.declared.messages.Outcome.TheVariants.{Committed, Aborted}
use Rattle.rss_wire.specs.declared.messages.Reply.{Reply}
use Rattle.rss_wire.specs.declared.messages.Reply.TheVariants as reply
use Rattle.rss_tables.specs.Lines.{Line, lines_of, lines_from, keys_on, line_at, with_line, all_awaiting, only_awaiting, in_state, coordinator_of, shards_of, tells_decision, decision_request, blocked_outs, resolving_outs, woken_outs, all_answered, opening_line}
use Rattle.rss_tables.specs.Outs.{Out, line_out, told}
use Rattle.rss_tables.specs.SnapshotSession.{SnapSession, snap_request, snap_asks, snap_phase_ends, second_round, snapshot_time, must_ask_again, asked_again, snap_told, snap_line_goes, snap_hears, snap_wakes}
use Rattle.rss_tables.specs.Turns.{Turn, quiet}
use Rattle.rss_tables.specs.TransactionSession.{TxnSession, attempt_of, txn_request, asks_lines, begins_phase, goes_to_prepare, goes_to_free_last, goes_to_free, failing_time, is_locked, phase_ends, is_phase_done, is_told, line_goes, is_committed, is_decided, txn_hears, txn_wakes, txn_passes, guard_of, values_shown, leads, wait_of}
use Rattle.rss_tables.specs.declared.lines.LineState.{LineState}
use Rattle.rss_tables.specs.declared.lines.LineState.TheVariants.{Awaiting, Answered, Inquiring, Resolving, Asleep, Dropped}
use Rattle.rss_tables.specs.declared.phases.SnapPhase.{SnapPhase}
use Rattle.rss_tables.specs.declared.phases.SnapPhase.TheVariants as snap
use Rattle.rss_tables.specs.declared.phases.TxnPhase.{TxnPhase}
use Rattle.rss_tables.specs.declared.phases.TxnPhase.TheVariants as phase
use Rattle.std.specs.Prelude.{nat_lt, if◌then◌else◌}

-- a turn of a transaction with so many lines and this attempt
pub record FewTurn (n k : ℕ) (turn : Turn TxnSession) : Type 0 where
  pub lines : length turn.after.lines ≡ n
  pub attempt : turn.after.k ≤ suc k
  pub outs : length turn.outs ≤ 32

pub record FewSnap (n : ℕ) (turn : Turn SnapSession) : Type 0 where
  pub lines : length turn.after.lines ≡ n
  pub outs : length turn.outs ≤ 32

-- LISTS

filter_few : {A : Type 0} (p : A → Bool) (xs : List A) → length (filter p xs) ≤ length xs
filter_few {A = A} p [] = omega arith
filter_few {A = A} p (x ∷ xs) = let l = filter_few p xs in cond_both (p x) (x ∷ filter p xs) (filter p xs) (λ (ys : List A). length ys ≤ length (x ∷ xs)) (λ e. omega (arith, l)) (λ e. omega (arith, l))

lines_few : (home : ℕ → ℕ) (reads writes : List Key) (shard left : ℕ) → length (lines_from home reads writes shard left) ≤ left
lines_few home reads writes shard zero = omega arith
lines_few home reads writes shard (suc left) =
    let rest = lines_from home reads writes (shard + 1) left in
    let r = keys_on home shard reads in
    let w = keys_on home shard writes in
    let l = lines_few home reads writes (shard + 1) left in
    cond_both (length r + length w == 0) rest (opening_line shard r w ∷ rest) (λ (xs : List Line). length xs ≤ suc left) (λ e. omega (arith, l)) (λ e. omega (arith, l))

pub opening_few : (home : ℕ → ℕ) (reads writes : List Key) → length (lines_of home reads writes) ≤ 16
opening_few home reads writes = lines_few home reads writes 1 16

-- TRANSACTIONS

few_quiet : (n k : ℕ) (t : TxnSession) → length t.lines ≡ n → t.k ≡ k → FewTurn n k (quiet t)
few_quiet n k t e f = record { lines = e; attempt = omega (arith, f); outs = omega arith }

few_begins : (n k : ℕ) (t : TxnSession) (asked : List Line) → length t.lines ≡ n → t.k ≡ k → length asked ≤ 32 → FewTurn n k (begins_phase t asked)
few_begins n k t asked e f l = record {
  lines = e;
  attempt = omega (arith, f);
  outs = let m = length-map asked (λ (x : Line). line_out x.shard (txn_request t t.phase x)) in omega (arith, m, l);
}

few_prepare : (n k : ℕ) (t : TxnSession) (at : Reading) → n ≤ 16 → length t.lines ≡ n → t.k ≡ k → FewTurn n k (goes_to_prepare t at)
few_prepare n k t at m e f =
    let q = length-map t.lines (λ (l : Line). record l { state = Awaiting }) in
    few_begins n k _ (all_awaiting t.lines) (q ∙ e) f (omega (arith, q, e, m))

few_last : (n k : ℕ) (t : TxnSession) (time : ℕ) → length t.lines ≡ n → t.k ≡ k → FewTurn n k (goes_to_free_last t time)
few_last n k t time e f = few_begins n k (record t { phase = phase.FreeingLast time; lines = only_awaiting (coordinator_of t.lines) t.lines }) (line_at (only_awaiting (coordinator_of t.lines) t.lines) (coordinator_of t.lines) ∷ []) (length-map t.lines (λ (l : Line). record l { state = if l.shard == coordinator_of t.lines then Awaiting else Dropped }) ∙ e) f (omega arith)

few_free : (n k : ℕ) (t : TxnSession) (time : ℕ) (others : List Line) → length others ≤ 32 → length t.lines ≡ n → t.k ≡ k → FewTurn n k (goes_to_free t time others)
few_free n k t time [] l e f = few_last n k t time e f
few_free n k t time (x ∷ others) l e f = few_begins n k _ (x ∷ others) (length-map t.lines (λ (m : Line). if leads t m then m else in_state m Awaiting) ∙ e) f l

few_locked : (n k : ℕ) (t : TxnSession) (at : Reading) → n ≤ 16 → length t.lines ≡ n → t.k ≡ k → FewTurn n k (is_locked t at)
few_locked n k t at m e f =
    let others = filter (λ (l : Line). not (leads t l)) t.lines in
    let q = filter_few (λ (l : Line). not (leads t l)) t.lines in
    cond_both (guard_of t.guard (values_shown t)) (goes_to_prepare t at) (goes_to_free t (failing_time t at) others) (FewTurn n k)
    (λ g. few_prepare n k t at m e f) (λ g. few_free n k t (failing_time t at) others (omega (arith, q, e, m)) e f)

few_asked : (n k : ℕ) (t : TxnSession) (x : TxnPhase) → length t.lines ≡ n → t.k ≡ k → FewTurn n k (let u = record t { phase = x; lines = only_awaiting (coordinator_of t.lines) t.lines } in begins_phase u (line_at u.lines (coordinator_of t.lines) ∷ []))
few_asked n k t x e f = few_begins n k (record t { phase = x; lines = only_awaiting (coordinator_of t.lines) t.lines }) (line_at (only_awaiting (coordinator_of t.lines) t.lines) (coordinator_of t.lines) ∷ []) (length-map t.lines (λ (l : Line). record l { state = if l.shard == coordinator_of t.lines then Awaiting else Dropped }) ∙ e) f (omega arith)

few_ends : (n k : ℕ) (t : TxnSession) (at : Reading) (x : TxnPhase) → n ≤ 16 → length t.lines ≡ n → t.k ≡ k → FewTurn n k (phase_ends t at x)
few_ends n k t at phase.Locking m e f = few_locked n k t at m e f
few_ends n k t at phase.Preparing m e f = few_asked n k t _ e f
few_ends n k t at (phase.Freeing time) m e f = few_last n k t time e f
few_ends n k t at (phase.FreeingLast time) m e f = few_quiet n k _ e f
few_ends n k t at (phase.Deciding time) m e f = few_quiet n k t e f
few_ends n k t at (phase.Waiting time) m e f = few_quiet n k t e f
few_ends n k t at phase.Undoing m e f = few_quiet n k t e f
few_ends n k t at (phase.Committed time) m e f = few_quiet n k t e f
few_ends n k t at (phase.Failed time) m e f = few_quiet n k t e f

with_few : (lines : List Line) (new : Line) → length (with_line lines new) ≡ length lines
with_few lines new = length-map lines (λ (l : Line). if l.shard == new.shard then new else l)

few_told : (n k : ℕ) (t : TxnSession) (at : Reading) (l : Line) → n ≤ 16 → length t.lines ≡ n → t.k ≡ k → FewTurn n k (is_told t at l)
few_told n k t at l m e f =
    let u = record t { lines = with_line t.lines (in_state l Answered) } in
    let d : length u.lines ≡ n = with_few t.lines (in_state l Answered) ∙ e in
    cond_both (is_phase_done u u.phase) (phase_ends u at u.phase) (quiet u) (FewTurn n k) (λ g. few_ends n k u at u.phase m d f) (λ g. few_quiet n k u d f)

few_goes : (n k : ℕ) (t : TxnSession) (l : Line) (outs : List Out) → length outs ≤ 32 → length t.lines ≡ n → t.k ≡ k → FewTurn n k (line_goes t l outs)
few_goes n k t l outs m e f = record { lines = with_few t.lines l ∙ e; attempt = omega (arith, f); outs = m }

pub told_few : (a : Attempt) (outcome : Outcome) (shards : List ℕ) → length (tells_decision a outcome shards) ≡ length shards
told_few a outcome shards = length-map shards (λ (shard : ℕ). told shard (decision_request a outcome))

shards_few : (lines : List Line) → length (shards_of lines) ≡ length lines
shards_few lines = length-map lines (λ (l : Line). l.shard)

pub shards_few_of : (lines : List Line) → length lines ≤ 16 → length (shards_of lines) ≤ 16
shards_few_of lines l = let e = shards_few lines in omega (arith, e, l)

few_committed : (n k : ℕ) (t : TxnSession) (time : ℕ) → n ≤ 16 → length t.lines ≡ n → t.k ≡ k → FewTurn n k (is_committed t time)
few_committed n k t time m e f = record { lines = e; attempt = omega (arith, f); outs = let a = told_few (attempt_of t) (Committed time) (shards_of t.lines) in let b = shards_few t.lines in omega (arith, a, b, e, m) }

few_decided : (n k : ℕ) (t : TxnSession) (at : Reading) (outcome : Outcome) → n ≤ 16 → length t.lines ≡ n → t.k ≡ k → FewTurn n k (is_decided t at outcome)
few_decided n k t at (Committed time) m e f = cond_both (nat_lt (wait_of t time) at.earliest) (is_committed t time) (quiet (record t { phase = phase.Waiting time })) (FewTurn n k) (λ g. few_committed n k t time m e f) (λ g. few_quiet n k _ e f)
few_decided n k t at Aborted m e f =
    let again = map (λ (l : Line). record l { state = Awaiting; shown = []; prepare_time = 0 }) t.lines in
    let u = record t { k = t.k + 1; phase = phase.Locking; lines = again } in
    let q : length again ≡ length t.lines = length-map t.lines (λ (l : Line). record l { state = Awaiting; shown = []; prepare_time = 0 }) in
    let a = told_few (attempt_of t) Aborted (shards_of t.lines) in
    let b = shards_few t.lines in
    let d : length (asks_lines u again) ≡ length again = length-map again (λ (l : Line). line_out l.shard (txn_request u u.phase l)) in
    let h : length (tells_decision (attempt_of t) Aborted (shards_of t.lines) ++ asks_lines u again) ≡ length (tells_decision (attempt_of t) Aborted (shards_of t.lines)) + length (asks_lines u again) = length-append (tells_decision (attempt_of t) Aborted (shards_of t.lines)) (asks_lines u again) in
    record { lines = q ∙ e; attempt = omega (arith, f); outs = omega (arith, h, a, b, d, q, e, m) }

blocked_few : (shard : ℕ) (holders : List Holder) → length (blocked_outs shard holders) ≤ 32
blocked_few shard [] = omega arith
blocked_few shard (holder ∷ holders) = omega arith

resolving_few : (shard : ℕ) (x : LineState) (outcome : Outcome) → length (resolving_outs shard x outcome) ≤ 32
resolving_few shard (Inquiring holder) outcome = omega arith
resolving_few shard Awaiting outcome = omega arith
resolving_few shard Answered outcome = omega arith
resolving_few shard (Resolving holder found) outcome = omega arith
resolving_few shard (Asleep holder) outcome = omega arith
resolving_few shard Dropped outcome = omega arith

woken_few : (shard : ℕ) (x : LineState) → length (woken_outs shard x) ≤ 32
woken_few shard (Asleep holder) = omega arith
woken_few shard Awaiting = omega arith
woken_few shard Answered = omega arith
woken_few shard (Inquiring holder) = omega arith
woken_few shard (Resolving holder outcome) = omega arith
woken_few shard Dropped = omega arith

pub few_hears : (n k : ℕ) (t : TxnSession) (l : Line) (at : Reading) (r : Reply) → n ≤ 16 → length t.lines ≡ n → t.k ≡ k → FewTurn n k (txn_hears t l at r)
few_hears n k t l at (reply.Granted shown) m e f = few_told n k t at (record l { shown = shown }) m e f
few_hears n k t l at (reply.Prepared time) m e f = few_told n k t at (record l { prepare_time = time }) m e f
few_hears n k t l at reply.Released m e f = few_told n k t at l m e f
few_hears n k t l at reply.Wounded m e f = few_asked n k t phase.Undoing e f
few_hears n k t l at (reply.Decided outcome) m e f = few_decided n k t at outcome m e f
few_hears n k t l at (reply.Wait holders) m e f = few_goes n k t _ _ (blocked_few l.shard holders) e f
few_hears n k t l at (reply.Blocked holders) m e f = few_goes n k t _ _ (blocked_few l.shard holders) e f
few_hears n k t l at (reply.Outcome outcome) m e f = few_goes n k t _ _ (resolving_few l.shard l.state outcome) e f
few_hears n k t l at reply.Open m e f = few_goes n k t _ [] (omega arith) e f
few_hears n k t l at reply.Done m e f = few_goes n k t _ _ (omega arith) e f
few_hears n k t l at (reply.Values versions skipped) m e f = few_quiet n k t e f
few_hears n k t l at reply.Fixed m e f = few_quiet n k t e f
few_hears n k t l at (reply.Held value stamp writer) m e f = few_quiet n k t e f
few_hears n k t l at reply.Stored m e f = few_quiet n k t e f

pub few_wakes : (n k : ℕ) (t : TxnSession) (l : Line) → length t.lines ≡ n → t.k ≡ k → FewTurn n k (txn_wakes t l)
few_wakes n k t l e f = few_goes n k t _ _ (woken_few l.shard l.state) e f

pub few_passes : (n k : ℕ) (t : TxnSession) (x : TxnPhase) → n ≤ 16 → length t.lines ≡ n → t.k ≡ k → FewTurn n k (txn_passes t x)
few_passes n k t (phase.Waiting time) m e f = few_committed n k t time m e f
few_passes n k t phase.Locking m e f = few_quiet n k t e f
few_passes n k t phase.Preparing m e f = few_quiet n k t e f
few_passes n k t (phase.Freeing time) m e f = few_quiet n k t e f
few_passes n k t (phase.FreeingLast time) m e f = few_quiet n k t e f
few_passes n k t (phase.Deciding time) m e f = few_quiet n k t e f
few_passes n k t phase.Undoing m e f = few_quiet n k t e f
few_passes n k t (phase.Committed time) m e f = few_quiet n k t e f
few_passes n k t (phase.Failed time) m e f = few_quiet n k t e f

-- SNAPSHOTS

snap_quiet : (n : ℕ) (t : SnapSession) → length t.lines ≡ n → FewSnap n (quiet t)
snap_quiet n t e = record { lines = e; outs = omega arith }

snap_second : (n : ℕ) (t : SnapSession) (time : ℕ) (again : List Line) → length again ≤ 32 → length t.lines ≡ n → FewSnap n (second_round t time again)
snap_second n t time [] l e = snap_quiet n _ e
snap_second n t time (x ∷ again) l e = record {
  lines = length-map t.lines (λ (y : Line). if must_ask_again time y then in_state y Awaiting else y) ∙ e;
  outs = let u = record t { phase = snap.Second time; lines = asked_again time t.lines } in let q : length (snap_asks u (x ∷ again)) ≡ length (x ∷ again) = length-map (x ∷ again) (λ (l : Line). line_out l.shard (snap_request u u.phase l)) in omega (arith, q, l);
}

snap_ends : (n : ℕ) (t : SnapSession) (x : SnapPhase) → n ≤ 16 → length t.lines ≡ n → FewSnap n (snap_phase_ends t x)
snap_ends n t (snap.First time) m e = let q = filter_few (must_ask_again (snapshot_time t)) t.lines in snap_second n t (snapshot_time t) _ (omega (arith, q, e, m)) e
snap_ends n t (snap.Second time) m e = snap_quiet n _ e
snap_ends n t (snap.Done time) m e = snap_quiet n t e

snap_few_told : (n : ℕ) (t : SnapSession) (l : Line) → n ≤ 16 → length t.lines ≡ n → FewSnap n (snap_told t l)
snap_few_told n t l m e =
    let u = record t { lines = with_line t.lines (in_state l Answered) } in
    let d : length u.lines ≡ n = with_few t.lines (in_state l Answered) ∙ e in
    cond_both (all_answered u.lines) (snap_phase_ends u u.phase) (quiet u) (FewSnap n) (λ g. snap_ends n u u.phase m d) (λ g. snap_quiet n u d)

snap_goes : (n : ℕ) (t : SnapSession) (l : Line) (outs : List Out) → length outs ≤ 32 → length t.lines ≡ n → FewSnap n (snap_line_goes t l outs)
snap_goes n t l outs m e = record { lines = with_few t.lines l ∙ e; outs = m }

pub snap_few_hears : (n : ℕ) (t : SnapSession) (l : Line) (r : Reply) → n ≤ 16 → length t.lines ≡ n → FewSnap n (snap_hears t l r)
snap_few_hears n t l (reply.Values versions skipped) m e = snap_few_told n t (record l { shown = versions; skipped = skipped }) m e
snap_few_hears n t l (reply.Wait holders) m e = snap_goes n t _ _ (blocked_few l.shard holders) e
snap_few_hears n t l (reply.Blocked holders) m e = snap_goes n t _ _ (blocked_few l.shard holders) e
snap_few_hears n t l (reply.Outcome outcome) m e = snap_goes n t _ _ (resolving_few l.shard l.state outcome) e
snap_few_hears n t l reply.Open m e = snap_goes n t _ [] (omega arith) e
snap_few_hears n t l reply.Done m e = snap_goes n t _ _ (omega arith) e
snap_few_hears n t l (reply.Granted shown) m e = snap_quiet n t e
snap_few_hears n t l (reply.Prepared time) m e = snap_quiet n t e
snap_few_hears n t l reply.Released m e = snap_quiet n t e
snap_few_hears n t l reply.Wounded m e = snap_quiet n t e
snap_few_hears n t l (reply.Decided outcome) m e = snap_quiet n t e
snap_few_hears n t l reply.Fixed m e = snap_quiet n t e
snap_few_hears n t l (reply.Held value stamp writer) m e = snap_quiet n t e
snap_few_hears n t l reply.Stored m e = snap_quiet n t e

pub snap_few_wakes : (n : ℕ) (t : SnapSession) (l : Line) → length t.lines ≡ n → FewSnap n (snap_wakes t l)
snap_few_wakes n t l e = snap_goes n t _ _ (woken_few l.shard l.state) e
