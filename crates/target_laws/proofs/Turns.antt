-- A turn of a transaction or a snapshot whose lines wait for coordinators of the file asks such alone.
use Rattle.std.proofs.Common.{◌≡◌, ℕ, zero, suc, ◌+◌, ◌==◌, ◌<◌, Bool, true, false, not, List, [], ◌∷◌, ◌++◌, length, map, filter, refl, sym, subst, arith}
use Rattle.std.specs.Prelude.{⊤, nat_lt, if◌then◌else◌}
use Rattle.std.proofs.lemmas.Bool.{cond_both}
use Rattle.std.proofs.lemmas.List.{length-map}
use Rattle.truetime.specs.Reading.{Reading}
use Rattle.rss_names.specs.declared.attempt.Attempt.{Attempt}
use Rattle.rss_names.specs.declared.service.Key.{Key}
use Rattle.pipeline_lang.specs.declared.config.Config.{Config}
use Rattle.rss_wire.specs.declared.messages.Holder.{Holder}
use Rattle.rss_wire.specs.declared.messages.Outcome.{Outcome}
use Rattle.rss_wire.specs.declared.messages.Outcome.TheVariants.{Committed, Aborted}
use Rattle.rss_wire.specs.declared.messages.Reply.{Reply}
use Rattle.rss_wire.specs.declared.messages.Reply.TheVariants as reply
use Rattle.rss_tables.specs.Lines.{Line, line_at, with_line, all_awaiting, only_awaiting, in_state, coordinator_of, shards_of, tells_decision, decision_request, blocked_state, blocked_outs, resolving_state, resolving_outs, sleeping_state, woken_state, woken_outs, all_answered, keys_on, lines_from, lines_of, opening_line}
use Rattle.rss_tables.specs.Outs.{Out, told}
use Rattle.rss_tables.specs.SnapshotSession.{SnapSession, snap_request, snap_asks, snap_phase_ends, second_round, snapshot_time, must_ask_again, asked_again, snap_told, snap_line_goes, snap_hears, snap_wakes}
use Rattle.rss_tables.specs.Turns.{Turn, quiet}
use Rattle.rss_tables.specs.TransactionSession.{TxnSession, attempt_of, txn_request, asks_lines, begins_phase, goes_to_prepare, goes_to_free, failing_time, is_locked, phase_ends, is_phase_done, is_told, line_goes, is_committed, is_decided, txn_hears, txn_wakes, txn_passes, guard_of, values_shown, leads, wait_of}
use Rattle.rss_tables.specs.declared.lines.LineState.{LineState}
use Rattle.rss_tables.specs.declared.lines.LineState.TheVariants.{Awaiting, Answered, Inquiring, Resolving, Asleep, Dropped}
use Rattle.rss_tables.specs.declared.phases.SnapPhase.{SnapPhase}
use Rattle.rss_tables.specs.declared.phases.SnapPhase.TheVariants as snap
use Rattle.rss_tables.specs.declared.phases.TxnPhase.{TxnPhase}
use Rattle.rss_tables.specs.declared.phases.TxnPhase.TheVariants as phase
use Rattle.target_laws.specs.InFile.{InFile, HoldersIn, RequestIn, ReplyIn, OutsIn, StateIn, LineIn, LinesIn}

-- LINES

-- lines that change, each on its shard
pub lines_map : (c : Config) (f : Line → Line) → ((l : Line) → LineIn c l → LineIn c (f l)) → (lines : List Line) → LinesIn c lines → LinesIn c (map f lines)
lines_map c f k [] h = tt
lines_map c f k (l ∷ lines) h = (k l h.0, lines_map c f k lines h.1)

lines_filter : (c : Config) (p : Line → Bool) (lines : List Line) → LinesIn c lines → LinesIn c (filter p lines)
lines_filter c p [] h = tt
lines_filter c p (l ∷ lines) h = let r = lines_filter c p lines h.1 in cond_both (p l) (l ∷ filter p lines) (filter p lines) (LinesIn c) (λ e. (h.0, r)) (λ e. r)

all_in : (c : Config) (lines : List Line) → LinesIn c lines → LinesIn c (all_awaiting lines)
all_in c lines h = lines_map c (λ (l : Line). record l { state = Awaiting }) (λ l g. record { shard = g.shard; waits = tt }) lines h

one_state : (c : Config) (b : Bool) → StateIn c (if b then Awaiting else Dropped)
one_state c true = tt
one_state c false = tt

only_in : (c : Config) (n : ℕ) (lines : List Line) → LinesIn c lines → LinesIn c (only_awaiting n lines)
only_in c n lines h = lines_map c (λ (l : Line). record l { state = if l.shard == n then Awaiting else Dropped }) (λ l g. record { shard = g.shard; waits = one_state c (l.shard == n) }) lines h

with_in : (c : Config) (lines : List Line) (new : Line) → LineIn c new → LinesIn c lines → LinesIn c (with_line lines new)
with_in c lines new i h = lines_map c (λ (l : Line). if l.shard == new.shard then new else l) (λ l g. cond_both (l.shard == new.shard) new l (LineIn c) (λ e. i) (λ e. g)) lines h

-- the coordinator is a shard of the file
pub coordinator_is : (c : Config) (lines : List Line) → 0 < length lines → LinesIn c lines → InFile c (coordinator_of lines)
coordinator_is c [] s h = absurd (omega (arith, s))
coordinator_is c (l ∷ lines) s h = h.0.shard

-- and it has a line behind each change of lines on their shards
asked_line : (c : Config) (f : Line → Line) → ((l : Line) → LineIn c l → LineIn c (f l)) → ((l : Line) → (f l).shard ≡ l.shard) → (lines : List Line) → 0 < length lines → LinesIn c lines → LineIn c (line_at (map f lines) (coordinator_of lines))
asked_line c f k e [] s h = absurd (omega (arith, s))
asked_line c f k e (l ∷ lines) s h = cond_both ((f l).shard == l.shard) (f l) (line_at (map f lines) l.shard) (LineIn c) (λ t. k l h.0) (λ t. absurd (differ (f l).shard l.shard (e l) t))
  where
    differ : (a b : ℕ) → a ≡ b → (a == b) ≡ false → ⊥
    differ a b p q = grind (arith, p, q)

-- REQUESTS

txn_request_in : (c : Config) (t : TxnSession) (p : TxnPhase) (l : Line) → InFile c (coordinator_of t.lines) → RequestIn c (txn_request t p l)
txn_request_in c t phase.Locking l h = h
txn_request_in c t phase.Preparing l h = tt
txn_request_in c t (phase.Freeing time) l h = tt
txn_request_in c t (phase.FreeingLast time) l h = tt
txn_request_in c t (phase.Deciding time) l h = tt
txn_request_in c t phase.Undoing l h = tt
txn_request_in c t (phase.Waiting time) l h = tt
txn_request_in c t (phase.Committed time) l h = tt
txn_request_in c t (phase.Failed time) l h = tt

pub asks_in : (c : Config) (t : TxnSession) (asked : List Line) → InFile c (coordinator_of t.lines) → LinesIn c asked → OutsIn c (asks_lines t asked)
asks_in c t [] i h = tt
asks_in c t (l ∷ asked) i h = (record { target = h.0.shard; request = txn_request_in c t t.phase l i }, asks_in c t asked i h.1)

snap_request_in : (c : Config) (t : SnapSession) (p : SnapPhase) (l : Line) → RequestIn c (snap_request t p l)
snap_request_in c t (snap.First time) l = tt
snap_request_in c t (snap.Second time) l = tt
snap_request_in c t (snap.Done time) l = tt

pub snap_asks_in : (c : Config) (t : SnapSession) (asked : List Line) → LinesIn c asked → OutsIn c (snap_asks t asked)
snap_asks_in c t [] h = tt
snap_asks_in c t (l ∷ asked) h = (record { target = h.0.shard; request = snap_request_in c t t.phase l }, snap_asks_in c t asked h.1)

decision_in_file : (c : Config) (a : Attempt) (outcome : Outcome) → RequestIn c (decision_request a outcome)
decision_in_file c a (Committed time) = tt
decision_in_file c a Aborted = tt

-- shards of lines, and a decision that is told to them
abbrev pub ShardsIn : Config → List ℕ → Type 0
ShardsIn c [] = ⊤
ShardsIn c (shard ∷ shards) = InFile c shard × ShardsIn c shards

pub shards_in : (c : Config) (lines : List Line) → LinesIn c lines → ShardsIn c (shards_of lines)
shards_in c [] h = tt
shards_in c (l ∷ lines) h = (h.0.shard, shards_in c lines h.1)

pub tells_in : (c : Config) (a : Attempt) (outcome : Outcome) (shards : List ℕ) → ShardsIn c shards → OutsIn c (tells_decision a outcome shards)
tells_in c a outcome [] h = tt
tells_in c a outcome (shard ∷ shards) h = (record { target = h.0; request = decision_in_file c a outcome }, tells_in c a outcome shards h.1)

outs_both : (c : Config) (a b : List Out) → OutsIn c a → OutsIn c b → OutsIn c (a ++ b)
outs_both c [] b h k = k
outs_both c (out ∷ a) b h k = (h.0, outs_both c a b h.1 k)

-- TRANSACTIONS

pub record FineTxn (c : Config) (t : TxnSession) : Type 0 where
  pub some : 0 < length t.lines
  pub lines : LinesIn c t.lines

pub record FineTurn (c : Config) (turn : Turn TxnSession) : Type 0 where
  pub lines : LinesIn c turn.after.lines
  pub outs : OutsIn c turn.outs

fine_quiet : (c : Config) (t : TxnSession) → LinesIn c t.lines → FineTurn c (quiet t)
fine_quiet c t h = record { lines = h; outs = tt }

-- the lines changed, each on its shard, and these are asked
fine_begins : (c : Config) (t : TxnSession) (asked : List Line) → 0 < length t.lines → LinesIn c t.lines → LinesIn c asked → FineTurn c (begins_phase t asked)
fine_begins c t asked s h a = record { lines = h; outs = asks_in c t asked (coordinator_is c t.lines s h) a }

mapped_some : (f : Line → Line) (lines : List Line) → 0 < length lines → 0 < length (map f lines)
mapped_some f lines s = let e = length-map lines f in omega (arith, s, e)

fine_prepare : (c : Config) (t : TxnSession) (at : Reading) → FineTxn c t → FineTurn c (goes_to_prepare t at)
fine_prepare c t at h = let k = all_in c t.lines h.lines in fine_begins c _ (all_awaiting t.lines) (mapped_some (λ (l : Line). record l { state = Awaiting }) t.lines h.some) k k

-- the coordinator alone is asked
fine_alone : (c : Config) (t : TxnSession) (x : TxnPhase) → FineTxn c t → FineTurn c (let u = record t { phase = x; lines = only_awaiting (coordinator_of t.lines) t.lines } in begins_phase u (line_at u.lines (coordinator_of t.lines) ∷ []))
fine_alone c t x h =
    let f = λ (l : Line). record l { state = if l.shard == coordinator_of t.lines then Awaiting else Dropped } in
    let u = record t { phase = x; lines = only_awaiting (coordinator_of t.lines) t.lines } in
    fine_begins c u (line_at u.lines (coordinator_of t.lines) ∷ []) (mapped_some f t.lines h.some) (only_in c (coordinator_of t.lines) t.lines h.lines)
    (asked_line c f (λ l g. record { shard = g.shard; waits = one_state c (l.shard == coordinator_of t.lines) }) (λ l. refl) t.lines h.some h.lines, tt)

fine_free : (c : Config) (t : TxnSession) (time : ℕ) (others : List Line) → LinesIn c others → FineTxn c t → FineTurn c (goes_to_free t time others)
fine_free c t time [] o h = fine_alone c t (phase.FreeingLast time) h
fine_free c t time (x ∷ others) o h =
    let f = λ (m : Line). if leads t m then m else in_state m Awaiting in
    fine_begins c _ (x ∷ others) (mapped_some f t.lines h.some) (lines_map c f (λ m g. cond_both (leads t m) m (in_state m Awaiting) (LineIn c) (λ e. g) (λ e. record { shard = g.shard; waits = tt })) t.lines h.lines) o

fine_locked : (c : Config) (t : TxnSession) (at : Reading) → FineTxn c t → FineTurn c (is_locked t at)
fine_locked c t at h =
    let p = λ (l : Line). not (leads t l) in
    cond_both (guard_of t.guard (values_shown t)) (goes_to_prepare t at) (goes_to_free t (failing_time t at) (filter p t.lines)) (FineTurn c) (λ e. fine_prepare c t at h) (λ e. fine_free c t (failing_time t at) (filter p t.lines) (lines_filter c p t.lines h.lines) h)

fine_ends : (c : Config) (t : TxnSession) (at : Reading) (x : TxnPhase) → FineTxn c t → FineTurn c (phase_ends t at x)
fine_ends c t at phase.Locking h = fine_locked c t at h
fine_ends c t at phase.Preparing h = fine_alone c t _ h
fine_ends c t at (phase.Freeing time) h = fine_alone c t (phase.FreeingLast time) h
fine_ends c t at (phase.FreeingLast time) h = fine_quiet c _ h.lines
fine_ends c t at (phase.Deciding time) h = fine_quiet c t h.lines
fine_ends c t at (phase.Waiting time) h = fine_quiet c t h.lines
fine_ends c t at phase.Undoing h = fine_quiet c t h.lines
fine_ends c t at (phase.Committed time) h = fine_quiet c t h.lines
fine_ends c t at (phase.Failed time) h = fine_quiet c t h.lines

fine_told : (c : Config) (t : TxnSession) (at : Reading) (l : Line) → InFile c l.shard → FineTxn c t → FineTurn c (is_told t at l)
fine_told c t at l i h =
    let new = in_state l Answered in
    let u = record t { lines = with_line t.lines new } in
    let k : FineTxn c u = record { some = mapped_some (λ (m : Line). if m.shard == new.shard then new else m) t.lines h.some; lines = with_in c t.lines new (record { shard = i; waits = tt }) h.lines } in
    cond_both (is_phase_done u u.phase) (phase_ends u at u.phase) (quiet u) (FineTurn c) (λ e. fine_ends c u at u.phase k) (λ e. fine_quiet c u k.lines)

fine_goes : (c : Config) (t : TxnSession) (l : Line) (outs : List Out) → LineIn c l → OutsIn c outs → FineTxn c t → FineTurn c (line_goes t l outs)
fine_goes c t l outs i o h = record { lines = with_in c t.lines l i h.lines; outs = o }

fine_committed : (c : Config) (t : TxnSession) (time : ℕ) → FineTxn c t → FineTurn c (is_committed t time)
fine_committed c t time h = record { lines = h.lines; outs = tells_in c (attempt_of t) (Committed time) (shards_of t.lines) (shards_in c t.lines h.lines) }

fine_decided : (c : Config) (t : TxnSession) (at : Reading) (outcome : Outcome) → FineTxn c t → FineTurn c (is_decided t at outcome)
fine_decided c t at (Committed time) h = cond_both (nat_lt (wait_of t time) at.earliest) (is_committed t time) (quiet (record t { phase = phase.Waiting time })) (FineTurn c) (λ e. fine_committed c t time h) (λ e. fine_quiet c _ h.lines)
fine_decided c t at Aborted h =
    let f = λ (l : Line). record l { state = Awaiting; shown = []; prepare_time = 0 } in
    let again = map f t.lines in
    let u = record t { k = t.k + 1; phase = phase.Locking; lines = again } in
    let k : LinesIn c again = lines_map c f (λ l g. record { shard = g.shard; waits = tt }) t.lines h.lines in
    record { lines = k; outs = outs_both c (tells_decision (attempt_of t) Aborted (shards_of t.lines)) (asks_lines u again) (tells_in c (attempt_of t) Aborted (shards_of t.lines) (shards_in c t.lines h.lines)) (asks_in c u again (coordinator_is c again (mapped_some f t.lines h.some) k) k) }

-- lines that go on by themselves
blocked_line : (c : Config) (l : Line) (holders : List Holder) → InFile c l.shard → HoldersIn c holders → LineIn c (in_state l (blocked_state holders))
blocked_line c l [] i h = record { shard = i; waits = tt }
blocked_line c l (x ∷ holders) i h = record { shard = i; waits = h.0 }

blocked_asks : (c : Config) (shard : ℕ) (holders : List Holder) → HoldersIn c holders → OutsIn c (blocked_outs shard holders)
blocked_asks c shard [] h = tt
blocked_asks c shard (x ∷ holders) h = (record { target = h.0; request = tt }, tt)

resolving_line : (c : Config) (x : LineState) (outcome : Outcome) → StateIn c x → StateIn c (resolving_state x outcome)
resolving_line c (Inquiring holder) outcome h = h
resolving_line c Awaiting outcome h = h
resolving_line c Answered outcome h = h
resolving_line c (Resolving holder found) outcome h = h
resolving_line c (Asleep holder) outcome h = h
resolving_line c Dropped outcome h = h

resolving_asks : (c : Config) (shard : ℕ) (x : LineState) (outcome : Outcome) → InFile c shard → OutsIn c (resolving_outs shard x outcome)
resolving_asks c shard (Inquiring holder) outcome i = (record { target = i; request = decision_in_file c holder.attempt outcome }, tt)
resolving_asks c shard Awaiting outcome i = tt
resolving_asks c shard Answered outcome i = tt
resolving_asks c shard (Resolving holder found) outcome i = tt
resolving_asks c shard (Asleep holder) outcome i = tt
resolving_asks c shard Dropped outcome i = tt

sleeping_line : (c : Config) (x : LineState) → StateIn c x → StateIn c (sleeping_state x)
sleeping_line c (Inquiring holder) h = h
sleeping_line c Awaiting h = h
sleeping_line c Answered h = h
sleeping_line c (Resolving holder outcome) h = h
sleeping_line c (Asleep holder) h = h
sleeping_line c Dropped h = h

woken_line : (c : Config) (x : LineState) → StateIn c x → StateIn c (woken_state x)
woken_line c (Asleep holder) h = h
woken_line c Awaiting h = h
woken_line c Answered h = h
woken_line c (Inquiring holder) h = h
woken_line c (Resolving holder outcome) h = h
woken_line c Dropped h = h

woken_asks : (c : Config) (shard : ℕ) (x : LineState) → StateIn c x → OutsIn c (woken_outs shard x)
woken_asks c shard (Asleep holder) h = (record { target = h; request = tt }, tt)
woken_asks c shard Awaiting h = tt
woken_asks c shard Answered h = tt
woken_asks c shard (Inquiring holder) h = tt
woken_asks c shard (Resolving holder outcome) h = tt
woken_asks c shard Dropped h = tt

pub fine_hears : (c : Config) (t : TxnSession) (l : Line) (at : Reading) (r : Reply) → LineIn c l → ReplyIn c r → FineTxn c t → FineTurn c (txn_hears t l at r)
fine_hears c t l at (reply.Granted shown) i q h = fine_told c t at (record l { shown = shown }) i.shard h
fine_hears c t l at (reply.Prepared time) i q h = fine_told c t at (record l { prepare_time = time }) i.shard h
fine_hears c t l at reply.Released i q h = fine_told c t at l i.shard h
fine_hears c t l at reply.Wounded i q h = fine_alone c t phase.Undoing h
fine_hears c t l at (reply.Decided outcome) i q h = fine_decided c t at outcome h
fine_hears c t l at (reply.Wait holders) i q h = fine_goes c t _ _ (blocked_line c l holders i.shard q) (blocked_asks c l.shard holders q) h
fine_hears c t l at (reply.Blocked holders) i q h = fine_goes c t _ _ (blocked_line c l holders i.shard q) (blocked_asks c l.shard holders q) h
fine_hears c t l at (reply.Outcome outcome) i q h = fine_goes c t _ _ (record { shard = i.shard; waits = resolving_line c l.state outcome i.waits }) (resolving_asks c l.shard l.state outcome i.shard) h
fine_hears c t l at reply.Open i q h = fine_goes c t _ [] (record { shard = i.shard; waits = sleeping_line c l.state i.waits }) tt h
fine_hears c t l at reply.Done i q h = fine_goes c t _ _ (record { shard = i.shard; waits = tt }) (record { target = i.shard; request = txn_request_in c t t.phase l (coordinator_is c t.lines h.some h.lines) }, tt) h
fine_hears c t l at (reply.Values versions skipped) i q h = fine_quiet c t h.lines
fine_hears c t l at reply.Fixed i q h = fine_quiet c t h.lines
fine_hears c t l at (reply.Held value stamp writer) i q h = fine_quiet c t h.lines
fine_hears c t l at reply.Stored i q h = fine_quiet c t h.lines

pub fine_wakes : (c : Config) (t : TxnSession) (l : Line) → LineIn c l → FineTxn c t → FineTurn c (txn_wakes t l)
fine_wakes c t l i h = fine_goes c t _ _ (record { shard = i.shard; waits = woken_line c l.state i.waits }) (woken_asks c l.shard l.state i.waits) h

pub fine_passes : (c : Config) (t : TxnSession) (x : TxnPhase) → FineTxn c t → FineTurn c (txn_passes t x)
fine_passes c t (phase.Waiting time) h = fine_committed c t time h
fine_passes c t phase.Locking h = fine_quiet c t h.lines
fine_passes c t phase.Preparing h = fine_quiet c t h.lines
fine_passes c t (phase.Freeing time) h = fine_quiet c t h.lines
fine_passes c t (phase.FreeingLast time) h = fine_quiet c t h.lines
fine_passes c t (phase.Deciding time) h = fine_quiet c t h.lines
fine_passes c t phase.Undoing h = fine_quiet c t h.lines
fine_passes c t (phase.Committed time) h = fine_quiet c t h.lines
fine_passes c t (phase.Failed time) h = fine_quiet c t h.lines

-- SNAPSHOTS

pub record FineSnap (c : Config) (turn : Turn SnapSession) : Type 0 where
  pub lines : LinesIn c turn.after.lines
  pub outs : OutsIn c turn.outs

snap_quiet : (c : Config) (t : SnapSession) → LinesIn c t.lines → FineSnap c (quiet t)
snap_quiet c t h = record { lines = h; outs = tt }

snap_second : (c : Config) (t : SnapSession) (time : ℕ) (again : List Line) → LinesIn c again → LinesIn c t.lines → FineSnap c (second_round t time again)
snap_second c t time [] a h = snap_quiet c _ h
snap_second c t time (x ∷ again) a h = record {
  lines = lines_map c (λ (l : Line). if must_ask_again time l then in_state l Awaiting else l) (λ l g. cond_both (must_ask_again time l) (in_state l Awaiting) l (LineIn c) (λ e. record { shard = g.shard; waits = tt }) (λ e. g)) t.lines h;
  outs = snap_asks_in c (record t { phase = snap.Second time; lines = asked_again time t.lines }) (x ∷ again) a;
}

snap_ends_fine : (c : Config) (t : SnapSession) (x : SnapPhase) → LinesIn c t.lines → FineSnap c (snap_phase_ends t x)
snap_ends_fine c t (snap.First time) h = snap_second c t (snapshot_time t) _ (lines_filter c (must_ask_again (snapshot_time t)) t.lines h) h
snap_ends_fine c t (snap.Second time) h = snap_quiet c _ h
snap_ends_fine c t (snap.Done time) h = snap_quiet c t h

snap_told_fine : (c : Config) (t : SnapSession) (l : Line) → InFile c l.shard → LinesIn c t.lines → FineSnap c (snap_told t l)
snap_told_fine c t l i h =
    let new = in_state l Answered in
    let u = record t { lines = with_line t.lines new } in
    let k : LinesIn c u.lines = with_in c t.lines new (record { shard = i; waits = tt }) h in
    cond_both (all_answered u.lines) (snap_phase_ends u u.phase) (quiet u) (FineSnap c) (λ e. snap_ends_fine c u u.phase k) (λ e. snap_quiet c u k)

snap_goes : (c : Config) (t : SnapSession) (l : Line) (outs : List Out) → LineIn c l → OutsIn c outs → LinesIn c t.lines → FineSnap c (snap_line_goes t l outs)
snap_goes c t l outs i o h = record { lines = with_in c t.lines l i h; outs = o }

pub snap_hears_fine : (c : Config) (t : SnapSession) (l : Line) (r : Reply) → LineIn c l → ReplyIn c r → LinesIn c t.lines → FineSnap c (snap_hears t l r)
snap_hears_fine c t l (reply.Values versions skipped) i q h = snap_told_fine c t (record l { shown = versions; skipped = skipped }) i.shard h
snap_hears_fine c t l (reply.Wait holders) i q h = snap_goes c t _ _ (blocked_line c l holders i.shard q) (blocked_asks c l.shard holders q) h
snap_hears_fine c t l (reply.Blocked holders) i q h = snap_goes c t _ _ (blocked_line c l holders i.shard q) (blocked_asks c l.shard holders q) h
snap_hears_fine c t l (reply.Outcome outcome) i q h = snap_goes c t _ _ (record { shard = i.shard; waits = resolving_line c l.state outcome i.waits }) (resolving_asks c l.shard l.state outcome i.shard) h
snap_hears_fine c t l reply.Open i q h = snap_goes c t _ [] (record { shard = i.shard; waits = sleeping_line c l.state i.waits }) tt h
snap_hears_fine c t l reply.Done i q h = snap_goes c t _ _ (record { shard = i.shard; waits = tt }) (record { target = i.shard; request = snap_request_in c t t.phase l }, tt) h
snap_hears_fine c t l (reply.Granted shown) i q h = snap_quiet c t h
snap_hears_fine c t l (reply.Prepared time) i q h = snap_quiet c t h
snap_hears_fine c t l reply.Released i q h = snap_quiet c t h
snap_hears_fine c t l reply.Wounded i q h = snap_quiet c t h
snap_hears_fine c t l (reply.Decided outcome) i q h = snap_quiet c t h
snap_hears_fine c t l reply.Fixed i q h = snap_quiet c t h
snap_hears_fine c t l (reply.Held value stamp writer) i q h = snap_quiet c t h
snap_hears_fine c t l reply.Stored i q h = snap_quiet c t h

pub snap_wakes_fine : (c : Config) (t : SnapSession) (l : Line) → LineIn c l → LinesIn c t.lines → FineSnap c (snap_wakes t l)
snap_wakes_fine c t l i h = snap_goes c t _ _ (record { shard = i.shard; waits = woken_line c l.state i.waits }) (woken_asks c l.shard l.state i.waits) h

-- THE LINES THAT A CALL BEGINS WITH

-- all of them await
abbrev AllAwait : List Line → Type 0
AllAwait [] = ⊤
AllAwait (l ∷ lines) = (l.state ≡ Awaiting) × AllAwait lines

begun_await : (home : ℕ → ℕ) (reads writes : List Key) (shard left : ℕ) → AllAwait (lines_from home reads writes shard left)
begun_await home reads writes shard zero = tt
begun_await home reads writes shard (suc left) =
    let rest = lines_from home reads writes (shard + 1) left in
    let r = keys_on home shard reads in
    let w = keys_on home shard writes in
    let k = begun_await home reads writes (shard + 1) left in
    cond_both (length r + length w == 0) rest (opening_line shard r w ∷ rest) AllAwait (λ e. k) (λ e. (refl, k))

-- so where they are on shards of the file, they are lines of it
abbrev pub OnShards : Config → List Line → Type 0
OnShards c [] = ⊤
OnShards c (l ∷ lines) = InFile c l.shard × OnShards c lines

awaiting_in : (c : Config) (lines : List Line) → AllAwait lines → OnShards c lines → LinesIn c lines
awaiting_in c [] a h = tt
awaiting_in c (l ∷ lines) a h = (record { shard = h.0; waits = subst (StateIn c) (sym a.0) tt }, awaiting_in c lines a.1 h.1)

pub lines_begin : (c : Config) (home : ℕ → ℕ) (reads writes : List Key) → OnShards c (lines_of home reads writes) → LinesIn c (lines_of home reads writes)
lines_begin c home reads writes h = awaiting_in c (lines_of home reads writes) (begun_await home reads writes 1 16) h
