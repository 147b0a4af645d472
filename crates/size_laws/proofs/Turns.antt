-- A turn of a transaction or of a snapshot makes no time above those that it knew and the end of the reading.
use Rattle.std.proofs.Common.{ℕ, zero, suc, ◌+◌, ◌≤◌, ◌==◌, max, Bool, true, false, not, List, [], ◌∷◌, length, get_or, map, filter, Option, All, arith}
use Rattle.std.specs.Prelude.{nat_lt, if◌then◌else◌}
use Rattle.std.proofs.lemmas.Bool.{cond_both}
use Rattle.std.proofs.lemmas.List.Elements.{All-cons, All-nil, All-head, All-tail, All-map, All-weaker, All-append}
use Rattle.truetime.specs.Reading.{Reading}
use Rattle.rss_names.specs.declared.attempt.Attempt.{Attempt}
use Rattle.rss_names.specs.declared.service.Key.{Key}
use Rattle.pipeline_lang.specs.declared.script.Compare.{Compare}
use Rattle.pipeline_lang.specs.declared.script.Expr.{Expr}
use Rattle.rss_wire.specs.declared.messages.Holder.{Holder}
use Rattle.rss_wire.specs.declared.messages.Outcome.{Outcome}
use Rattle.rss_wire.specs.declared.messages.Outcome.TheVariants.{Committed, Aborted}
use Rattle.rss_wire.specs.declared.messages.Reply.{Reply}
use Rattle.rss_wire.specs.declared.messages.Reply.TheVariants as reply
use Rattle.rss_wire.specs.declared.messages.Skipped.{Skipped}
use Rattle.rss_wire.specs.declared.messages.Version.{Version}
use Rattle.rss_tables.specs.Lines.{Line, line_at, with_line, all_awaiting, only_awaiting, in_state, coordinator_of, shards_of, tells_decision, decision_request, blocked_state, blocked_outs, resolving_state, resolving_outs, sleeping_state, woken_state, woken_outs, all_answered, keys_on, lines_from, lines_of, opening_line, inquiry}
use Rattle.rss_tables.specs.Outs.{Out, told, line_out}
use Rattle.rss_tables.specs.SnapshotSession.{SnapSession, opening_snapshot, snap_starts, snap_request, snap_asks, snap_phase_ends, second_round, snapshot_time, must_ask_again, asked_again, snap_told, snap_line_goes, snap_hears, snap_wakes}
use Rattle.rss_tables.specs.Turns.{Turn, quiet}
use Rattle.rss_tables.specs.TransactionSession.{TxnSession, opening_txn, txn_starts, attempt_of, txn_request, asks_lines, begins_phase, goes_to_prepare, goes_to_free, failing_time, greatest_prepared, greatest_time, greatest_shown, is_locked, phase_ends, is_phase_done, is_told, line_goes, is_committed, is_decided, txn_hears, txn_wakes, txn_passes, guard_of, values_shown, leads, wait_of, written_keys}
use Rattle.rss_tables.specs.declared.lines.LineState.{LineState}
use Rattle.rss_tables.specs.declared.lines.LineState.TheVariants.{Awaiting, Answered, Inquiring, Resolving, Asleep, Dropped}
use Rattle.rss_tables.specs.declared.phases.SnapPhase.{SnapPhase}
use Rattle.rss_tables.specs.declared.phases.SnapPhase.TheVariants as snap
use Rattle.rss_tables.specs.declared.phases.TxnPhase.{TxnPhase}
use Rattle.rss_tables.specs.declared.phases.TxnPhase.TheVariants as phase
use Rattle.world_laws.specs.Times.{most_margin, OutcomeUpTo, ShownUpTo, RequestTimesUpTo, ReplyTimesUpTo, StateUpTo, LineUpTo, TxnPhaseUpTo, TxnUpTo, SnapPhaseUpTo, SnapUpTo}
use Rattle.size_laws.proofs.Contexts.{max_up}

-- a request that is to be sent
abbrev pub OutUpTo : ℕ → Out → Type 0
OutUpTo b out = RequestTimesUpTo b out.request

-- LINES

abbrev pub LinesUpTo : ℕ → List Line → Type 0
LinesUpTo b lines = All (LineUpTo b) lines

lines_map : (b : ℕ) (f : Line → Line) → ((l : Line) → LineUpTo b l → LineUpTo b (f l)) → (lines : List Line) → LinesUpTo b lines → LinesUpTo b (map f lines)
lines_map b f k lines h = All-map (LineUpTo b) f lines (All-weaker (LineUpTo b) (λ (l : Line). LineUpTo b (f l)) k lines h)

state_line : (b : ℕ) (l : Line) (x : LineState) → StateUpTo b x → LineUpTo b l → LineUpTo b (in_state l x)
state_line b l x s h = record { of_state = s; shown = h.shown; skipped = h.skipped; prepared = h.prepared }

all_up : (b : ℕ) (lines : List Line) → LinesUpTo b lines → LinesUpTo b (all_awaiting lines)
all_up b lines h = lines_map b (λ (l : Line). record l { state = Awaiting }) (λ l g. state_line b l Awaiting tt g) lines h

one_state : (b : ℕ) (x : Bool) → StateUpTo b (if x then Awaiting else Dropped)
one_state b true = tt
one_state b false = tt

only_up : (b n : ℕ) (lines : List Line) → LinesUpTo b lines → LinesUpTo b (only_awaiting n lines)
only_up b n lines h = lines_map b (λ (l : Line). record l { state = if l.shard == n then Awaiting else Dropped }) (λ l g. state_line b l (if l.shard == n then Awaiting else Dropped) (one_state b (l.shard == n)) g) lines h

with_up : (b : ℕ) (lines : List Line) (new : Line) → LineUpTo b new → LinesUpTo b lines → LinesUpTo b (with_line lines new)
with_up b lines new i h = lines_map b (λ (l : Line). if l.shard == new.shard then new else l) (λ l g. cond_both (l.shard == new.shard) new l (LineUpTo b) (λ e. i) (λ e. g)) lines h

opening_up : (b shard : ℕ) (reads writes : List Key) → LineUpTo b (opening_line shard reads writes)
opening_up b shard reads writes = record { of_state = tt; shown = All-nil (λ (entry : Key × Version). entry.1.time ≤ b); skipped = All-nil (λ (x : Skipped). x.prepare_time ≤ b); prepared = omega arith }

begun_from : (b : ℕ) (home : ℕ → ℕ) (reads writes : List Key) (shard left : ℕ) → LinesUpTo b (lines_from home reads writes shard left)
begun_from b home reads writes shard zero = All-nil (LineUpTo b)
begun_from b home reads writes shard (suc left) =
    let rest = lines_from home reads writes (shard + 1) left in
    let r = keys_on home shard reads in
    let w = keys_on home shard writes in
    let k = begun_from b home reads writes (shard + 1) left in
    cond_both (length r + length w == 0) rest (opening_line shard r w ∷ rest) (LinesUpTo b) (λ e. k) (λ e. All-cons (LineUpTo b) (opening_line shard r w) rest (opening_up b shard r w) k)

pub begun_up : (b : ℕ) (home : ℕ → ℕ) (reads writes : List Key) → LinesUpTo b (lines_of home reads writes)
begun_up b home reads writes = begun_from b home reads writes 1 16

pub line_up : (b : ℕ) (lines : List Line) (shard : ℕ) → LinesUpTo b lines → LineUpTo b (line_at lines shard)
line_up b [] shard h = opening_up b 0 [] []
line_up b (l ∷ lines) shard h = cond_both (l.shard == shard) l (line_at lines shard) (LineUpTo b) (λ e. All-head (LineUpTo b) l lines h) (λ e. line_up b lines shard (All-tail (LineUpTo b) l lines h))

-- WHAT LINES TELL

prepared_least : (b : ℕ) (lines : List Line) → LinesUpTo b lines → greatest_prepared lines ≤ b
prepared_least b [] h = omega arith
prepared_least b (l ∷ lines) h = max_up l.prepare_time (greatest_prepared lines) b (All-head (LineUpTo b) l lines h).prepared (prepared_least b lines (All-tail (LineUpTo b) l lines h))

time_least : (b : ℕ) (shown : List (Key × Version)) → ShownUpTo b shown → greatest_time shown ≤ b
time_least b [] h = omega arith
time_least b (x ∷ shown) h =
    let P = λ (entry : Key × Version). entry.1.time ≤ b in
    max_up x.1.time (greatest_time shown) b (All-head P x shown h) (time_least b shown (All-tail P x shown h))

shown_least : (b : ℕ) (lines : List Line) → LinesUpTo b lines → greatest_shown lines ≤ b
shown_least b [] h = omega arith
shown_least b (l ∷ lines) h = max_up (greatest_time l.shown) (greatest_shown lines) b (time_least b l.shown (All-head (LineUpTo b) l lines h).shown) (shown_least b lines (All-tail (LineUpTo b) l lines h))

-- REQUESTS

request_up : (b : ℕ) (t : TxnSession) (x : TxnPhase) (l : Line) → TxnUpTo b t → TxnPhaseUpTo b x → RequestTimesUpTo b (txn_request t x l)
request_up b t phase.Locking l h k = tt
request_up b t phase.Preparing l h k = (h.least, h.earliest_end)
request_up b t (phase.Freeing time) l h k = k
request_up b t (phase.FreeingLast time) l h k = k
request_up b t (phase.Deciding time) l h k = k
request_up b t phase.Undoing l h k = omega arith
request_up b t (phase.Waiting time) l h k = tt
request_up b t (phase.Committed time) l h k = tt
request_up b t (phase.Failed time) l h k = tt

asks_up : (b : ℕ) (t : TxnSession) (asked : List Line) → TxnUpTo b t → All (OutUpTo b) (asks_lines t asked)
asks_up b t asked h = All-map (OutUpTo b) (λ (l : Line). line_out l.shard (txn_request t t.phase l)) asked (λ k d lt. request_up b t t.phase (get_or asked k d) h h.of_phase)

decision_up : (b : ℕ) (a : Attempt) (outcome : Outcome) → OutcomeUpTo b outcome → RequestTimesUpTo b (decision_request a outcome)
decision_up b a (Committed time) l = l
decision_up b a Aborted l = tt

pub tells_up : (b : ℕ) (a : Attempt) (outcome : Outcome) (shards : List ℕ) → OutcomeUpTo b outcome → All (OutUpTo b) (tells_decision a outcome shards)
tells_up b a outcome shards l = All-map (OutUpTo b) (λ (shard : ℕ). told shard (decision_request a outcome)) shards (λ k d lt. decision_up b a outcome l)

-- TRANSACTIONS

pub record TxnTurn (b : ℕ) (turn : Turn TxnSession) : Type 0 where
  pub after : TxnUpTo b turn.after
  pub outs : All (OutUpTo b) turn.outs

txn_quiet : (b : ℕ) (t : TxnSession) → TxnUpTo b t → TxnTurn b (quiet t)
txn_quiet b t h = record { after = h; outs = All-nil (OutUpTo b) }

txn_begins : (b : ℕ) (t : TxnSession) (asked : List Line) → TxnUpTo b t → TxnTurn b (begins_phase t asked)
txn_begins b t asked h = record { after = h; outs = asks_up b t asked h }

-- in another phase, with other lines
other_phase : (b : ℕ) (t : TxnSession) (x : TxnPhase) (lines : List Line) → TxnPhaseUpTo b x → LinesUpTo b lines → TxnUpTo b t → TxnUpTo b (record t { phase = x; lines = lines })
other_phase b t x lines p l h = record { least = h.least; of_phase = p; margin = h.margin; earliest_end = h.earliest_end; lines = l }

txn_prepare : (b : ℕ) (t : TxnSession) (at : Reading) → at.latest ≤ b → TxnUpTo b t → TxnTurn b (goes_to_prepare t at)
txn_prepare b t at l h = txn_begins b (record t { phase = phase.Preparing; earliest_end = at.latest + t.margin; lines = all_awaiting t.lines }) (all_awaiting t.lines) (record { least = h.least; of_phase = tt; margin = h.margin; earliest_end = let m = h.margin in omega (arith, l, m); lines = all_up b t.lines h.lines })

txn_alone : (b : ℕ) (t : TxnSession) (x : TxnPhase) → TxnPhaseUpTo b x → TxnUpTo b t → TxnTurn b (let u = record t { phase = x; lines = only_awaiting (coordinator_of t.lines) t.lines } in begins_phase u (line_at u.lines (coordinator_of t.lines) ∷ []))
txn_alone b t x p h =
    let u = record t { phase = x; lines = only_awaiting (coordinator_of t.lines) t.lines } in
    txn_begins b u (line_at u.lines (coordinator_of t.lines) ∷ []) (other_phase b t x (only_awaiting (coordinator_of t.lines) t.lines) p (only_up b (coordinator_of t.lines) t.lines h.lines) h)

txn_free : (b : ℕ) (t : TxnSession) (time : ℕ) (others : List Line) → time ≤ b → TxnUpTo b t → TxnTurn b (goes_to_free t time others)
txn_free b t time [] l h = txn_alone b t (phase.FreeingLast time) l h
txn_free b t time (x ∷ others) l h =
    let f = λ (m : Line). if leads t m then m else in_state m Awaiting in
    txn_begins b (record t { phase = phase.Freeing time; lines = map f t.lines }) (x ∷ others) (other_phase b t (phase.Freeing time) (map f t.lines) l (lines_map b f (λ m g. cond_both (leads t m) m (in_state m Awaiting) (LineUpTo b) (λ e. g) (λ e. state_line b m Awaiting tt g)) t.lines h.lines) h)

failing_up : (b : ℕ) (t : TxnSession) (at : Reading) → at.latest ≤ b → TxnUpTo b t → failing_time t at ≤ b
failing_up b t at l h = max_up at.latest (max t.least (greatest_shown t.lines)) b l (max_up t.least (greatest_shown t.lines) b h.least (shown_least b t.lines h.lines))

txn_locked : (b : ℕ) (t : TxnSession) (at : Reading) → at.latest ≤ b → TxnUpTo b t → TxnTurn b (is_locked t at)
txn_locked b t at l h =
    let others = filter (λ (m : Line). not (leads t m)) t.lines in
    cond_both (guard_of t.guard (values_shown t)) (goes_to_prepare t at) (goes_to_free t (failing_time t at) others) (TxnTurn b) (λ e. txn_prepare b t at l h) (λ e. txn_free b t (failing_time t at) others (failing_up b t at l h) h)

txn_phase_ends : (b : ℕ) (t : TxnSession) (at : Reading) (x : TxnPhase) → at.latest ≤ b → TxnPhaseUpTo b x → TxnUpTo b t → TxnTurn b (phase_ends t at x)
txn_phase_ends b t at phase.Locking l p h = txn_locked b t at l h
txn_phase_ends b t at phase.Preparing l p h = txn_alone b t (phase.Deciding (greatest_prepared t.lines)) (prepared_least b t.lines h.lines) h
txn_phase_ends b t at (phase.Freeing time) l p h = txn_alone b t (phase.FreeingLast time) p h
txn_phase_ends b t at (phase.FreeingLast time) l p h = txn_quiet b _ (other_phase b t (phase.Failed time) t.lines p h.lines h)
txn_phase_ends b t at (phase.Deciding time) l p h = txn_quiet b t h
txn_phase_ends b t at (phase.Waiting time) l p h = txn_quiet b t h
txn_phase_ends b t at phase.Undoing l p h = txn_quiet b t h
txn_phase_ends b t at (phase.Committed time) l p h = txn_quiet b t h
txn_phase_ends b t at (phase.Failed time) l p h = txn_quiet b t h

txn_told : (b : ℕ) (t : TxnSession) (at : Reading) (m : Line) → at.latest ≤ b → LineUpTo b m → TxnUpTo b t → TxnTurn b (is_told t at m)
txn_told b t at m l i h =
    let u = record t { lines = with_line t.lines (in_state m Answered) } in
    let k : TxnUpTo b u = other_phase b t t.phase (with_line t.lines (in_state m Answered)) h.of_phase (with_up b t.lines (in_state m Answered) (state_line b m Answered tt i) h.lines) h in
    cond_both (is_phase_done u u.phase) (phase_ends u at u.phase) (quiet u) (TxnTurn b) (λ e. txn_phase_ends b u at u.phase l k.of_phase k) (λ e. txn_quiet b u k)

txn_goes : (b : ℕ) (t : TxnSession) (m : Line) (outs : List Out) → LineUpTo b m → All (OutUpTo b) outs → TxnUpTo b t → TxnTurn b (line_goes t m outs)
txn_goes b t m outs i o h = record { after = other_phase b t t.phase (with_line t.lines m) h.of_phase (with_up b t.lines m i h.lines) h; outs = o }

txn_committed : (b : ℕ) (t : TxnSession) (time : ℕ) → time ≤ b → TxnUpTo b t → TxnTurn b (is_committed t time)
txn_committed b t time l h = record { after = other_phase b t (phase.Committed time) t.lines l h.lines h; outs = tells_up b (attempt_of t) (Committed time) (shards_of t.lines) l }

txn_decided : (b : ℕ) (t : TxnSession) (at : Reading) (outcome : Outcome) → OutcomeUpTo b outcome → TxnUpTo b t → TxnTurn b (is_decided t at outcome)
txn_decided b t at (Committed time) o h = cond_both (nat_lt (wait_of t time) at.earliest) (is_committed t time) (quiet (record t { phase = phase.Waiting time })) (TxnTurn b) (λ e. txn_committed b t time o h) (λ e. txn_quiet b _ (other_phase b t (phase.Waiting time) t.lines o h.lines h))
txn_decided b t at Aborted o h =
    let f = λ (l : Line). record l { state = Awaiting; shown = []; prepare_time = 0 } in
    let again = map f t.lines in
    let u = record t { k = t.k + 1; phase = phase.Locking; lines = again } in
    let k : LinesUpTo b again = lines_map b f (λ l g. record { of_state = tt; shown = All-nil (λ (entry : Key × Version). entry.1.time ≤ b); skipped = g.skipped; prepared = omega arith }) t.lines h.lines in
    let a : TxnUpTo b u = record { least = h.least; of_phase = tt; margin = h.margin; earliest_end = h.earliest_end; lines = k } in
    record { after = a; outs = All-append (OutUpTo b) (tells_decision (attempt_of t) Aborted (shards_of t.lines)) (asks_lines u again) (tells_up b (attempt_of t) Aborted (shards_of t.lines) tt) (asks_up b u again a) }

-- lines that go on by themselves
blocked_up : (b : ℕ) (holders : List Holder) → StateUpTo b (blocked_state holders)
blocked_up b [] = tt
blocked_up b (x ∷ holders) = tt

blocked_asks : (b shard : ℕ) (holders : List Holder) → All (OutUpTo b) (blocked_outs shard holders)
blocked_asks b shard [] = All-nil (OutUpTo b)
blocked_asks b shard (x ∷ holders) = All-cons (OutUpTo b) (inquiry shard x) [] tt (All-nil (OutUpTo b))

resolving_up : (b : ℕ) (x : LineState) (outcome : Outcome) → OutcomeUpTo b outcome → StateUpTo b x → StateUpTo b (resolving_state x outcome)
resolving_up b (Inquiring holder) outcome o h = o
resolving_up b Awaiting outcome o h = tt
resolving_up b Answered outcome o h = tt
resolving_up b (Resolving holder found) outcome o h = h
resolving_up b (Asleep holder) outcome o h = tt
resolving_up b Dropped outcome o h = tt

resolving_asks : (b shard : ℕ) (x : LineState) (outcome : Outcome) → OutcomeUpTo b outcome → All (OutUpTo b) (resolving_outs shard x outcome)
resolving_asks b shard (Inquiring holder) outcome o = All-cons (OutUpTo b) (line_out shard (decision_request holder.attempt outcome)) [] (decision_up b holder.attempt outcome o) (All-nil (OutUpTo b))
resolving_asks b shard Awaiting outcome o = All-nil (OutUpTo b)
resolving_asks b shard Answered outcome o = All-nil (OutUpTo b)
resolving_asks b shard (Resolving holder found) outcome o = All-nil (OutUpTo b)
resolving_asks b shard (Asleep holder) outcome o = All-nil (OutUpTo b)
resolving_asks b shard Dropped outcome o = All-nil (OutUpTo b)

sleeping_up : (b : ℕ) (x : LineState) → StateUpTo b x → StateUpTo b (sleeping_state x)
sleeping_up b (Inquiring holder) h = tt
sleeping_up b Awaiting h = tt
sleeping_up b Answered h = tt
sleeping_up b (Resolving holder outcome) h = h
sleeping_up b (Asleep holder) h = tt
sleeping_up b Dropped h = tt

woken_up : (b : ℕ) (x : LineState) → StateUpTo b x → StateUpTo b (woken_state x)
woken_up b (Asleep holder) h = tt
woken_up b Awaiting h = tt
woken_up b Answered h = tt
woken_up b (Inquiring holder) h = tt
woken_up b (Resolving holder outcome) h = h
woken_up b Dropped h = tt

woken_asks : (b shard : ℕ) (x : LineState) → All (OutUpTo b) (woken_outs shard x)
woken_asks b shard (Asleep holder) = All-cons (OutUpTo b) (inquiry shard holder) [] tt (All-nil (OutUpTo b))
woken_asks b shard Awaiting = All-nil (OutUpTo b)
woken_asks b shard Answered = All-nil (OutUpTo b)
woken_asks b shard (Inquiring holder) = All-nil (OutUpTo b)
woken_asks b shard (Resolving holder outcome) = All-nil (OutUpTo b)
woken_asks b shard Dropped = All-nil (OutUpTo b)

pub txn_hears_up : (b : ℕ) (t : TxnSession) (m : Line) (at : Reading) (r : Reply) → at.latest ≤ b → LineUpTo b m → ReplyTimesUpTo b r → TxnUpTo b t → TxnTurn b (txn_hears t m at r)
txn_hears_up b t m at (reply.Granted shown) l i q h = txn_told b t at (record m { shown = shown }) l (record { of_state = i.of_state; shown = q; skipped = i.skipped; prepared = i.prepared }) h
txn_hears_up b t m at (reply.Prepared time) l i q h = txn_told b t at (record m { prepare_time = time }) l (record { of_state = i.of_state; shown = i.shown; skipped = i.skipped; prepared = q }) h
txn_hears_up b t m at reply.Released l i q h = txn_told b t at m l i h
txn_hears_up b t m at reply.Wounded l i q h = txn_alone b t phase.Undoing tt h
txn_hears_up b t m at (reply.Decided outcome) l i q h = txn_decided b t at outcome q h
txn_hears_up b t m at (reply.Wait holders) l i q h = txn_goes b t (in_state m (blocked_state holders)) (blocked_outs m.shard holders) (state_line b m (blocked_state holders) (blocked_up b holders) i) (blocked_asks b m.shard holders) h
txn_hears_up b t m at (reply.Blocked holders) l i q h = txn_goes b t (in_state m (blocked_state holders)) (blocked_outs m.shard holders) (state_line b m (blocked_state holders) (blocked_up b holders) i) (blocked_asks b m.shard holders) h
txn_hears_up b t m at (reply.Outcome outcome) l i q h = txn_goes b t (in_state m (resolving_state m.state outcome)) (resolving_outs m.shard m.state outcome) (state_line b m (resolving_state m.state outcome) (resolving_up b m.state outcome q i.of_state) i) (resolving_asks b m.shard m.state outcome q) h
txn_hears_up b t m at reply.Open l i q h = txn_goes b t (in_state m (sleeping_state m.state)) [] (state_line b m (sleeping_state m.state) (sleeping_up b m.state i.of_state) i) (All-nil (OutUpTo b)) h
txn_hears_up b t m at reply.Done l i q h = txn_goes b t (in_state m Awaiting) (line_out m.shard (txn_request t t.phase m) ∷ []) (state_line b m Awaiting tt i) (All-cons (OutUpTo b) (line_out m.shard (txn_request t t.phase m)) [] (request_up b t t.phase m h h.of_phase) (All-nil (OutUpTo b))) h
txn_hears_up b t m at (reply.Values versions skipped) l i q h = txn_quiet b t h
txn_hears_up b t m at reply.Fixed l i q h = txn_quiet b t h
txn_hears_up b t m at (reply.Held value stamp writer) l i q h = txn_quiet b t h
txn_hears_up b t m at reply.Stored l i q h = txn_quiet b t h

pub txn_wakes_up : (b : ℕ) (t : TxnSession) (m : Line) → LineUpTo b m → TxnUpTo b t → TxnTurn b (txn_wakes t m)
txn_wakes_up b t m i h = txn_goes b t (in_state m (woken_state m.state)) (woken_outs m.shard m.state) (state_line b m (woken_state m.state) (woken_up b m.state i.of_state) i) (woken_asks b m.shard m.state) h

txn_passes_at : (b : ℕ) (t : TxnSession) (x : TxnPhase) → TxnPhaseUpTo b x → TxnUpTo b t → TxnTurn b (txn_passes t x)
txn_passes_at b t (phase.Waiting time) p h = txn_committed b t time p h
txn_passes_at b t phase.Locking p h = txn_quiet b t h
txn_passes_at b t phase.Preparing p h = txn_quiet b t h
txn_passes_at b t (phase.Freeing time) p h = txn_quiet b t h
txn_passes_at b t (phase.FreeingLast time) p h = txn_quiet b t h
txn_passes_at b t (phase.Deciding time) p h = txn_quiet b t h
txn_passes_at b t phase.Undoing p h = txn_quiet b t h
txn_passes_at b t (phase.Committed time) p h = txn_quiet b t h
txn_passes_at b t (phase.Failed time) p h = txn_quiet b t h

pub txn_passes_up : (b : ℕ) (t : TxnSession) → TxnUpTo b t → TxnTurn b (txn_passes t t.phase)
txn_passes_up b t h = txn_passes_at b t t.phase h.of_phase h

pub txn_starts_up : (b : ℕ) (home : ℕ → ℕ) (call : ℕ) (reads : List Key) (guard : Option (Compare ℕ)) (writes : List (Key × Expr ℕ)) (least margin : ℕ) → least ≤ b → margin ≤ most_margin → TxnTurn b (txn_starts (opening_txn home call reads guard writes least margin))
txn_starts_up b home call reads guard writes least margin l m =
    txn_begins b (opening_txn home call reads guard writes least margin) (lines_of home reads (written_keys writes)) (record { least = l; of_phase = tt; margin = m; earliest_end = omega arith; lines = begun_up b home reads (written_keys writes) })

-- SNAPSHOTS

pub record SnapTurn (b : ℕ) (turn : Turn SnapSession) : Type 0 where
  pub after : SnapUpTo b turn.after
  pub outs : All (OutUpTo b) turn.outs

snap_quiet : (b : ℕ) (t : SnapSession) → SnapUpTo b t → SnapTurn b (quiet t)
snap_quiet b t h = record { after = h; outs = All-nil (OutUpTo b) }

snap_request_up : (b : ℕ) (t : SnapSession) (x : SnapPhase) (l : Line) → SnapUpTo b t → SnapPhaseUpTo b x → RequestTimesUpTo b (snap_request t x l)
snap_request_up b t (snap.First time) l h p = (p, h.least)
snap_request_up b t (snap.Second time) l h p = (p, h.least)
snap_request_up b t (snap.Done time) l h p = (p, h.least)

snap_asks_up : (b : ℕ) (t : SnapSession) (asked : List Line) → SnapUpTo b t → All (OutUpTo b) (snap_asks t asked)
snap_asks_up b t asked h = All-map (OutUpTo b) (λ (l : Line). line_out l.shard (snap_request t t.phase l)) asked (λ k d lt. snap_request_up b t t.phase (get_or asked k d) h h.of_phase)

other_snap : (b : ℕ) (t : SnapSession) (x : SnapPhase) (lines : List Line) → SnapPhaseUpTo b x → LinesUpTo b lines → SnapUpTo b t → SnapUpTo b (record t { phase = x; lines = lines })
other_snap b t x lines p l h = record { least = h.least; of_phase = p; lines = l }

snap_second : (b : ℕ) (t : SnapSession) (time : ℕ) (again : List Line) → time ≤ b → SnapUpTo b t → SnapTurn b (second_round t time again)
snap_second b t time [] l h = snap_quiet b _ (other_snap b t (snap.Done time) t.lines l h.lines h)
snap_second b t time (x ∷ again) l h =
    let f = λ (m : Line). if must_ask_again time m then in_state m Awaiting else m in
    let u = record t { phase = snap.Second time; lines = asked_again time t.lines } in
    let k : SnapUpTo b u = other_snap b t (snap.Second time) (asked_again time t.lines) l (lines_map b f (λ m g. cond_both (must_ask_again time m) (in_state m Awaiting) m (LineUpTo b) (λ e. state_line b m Awaiting tt g) (λ e. g)) t.lines h.lines) h in
    record { after = k; outs = snap_asks_up b u (x ∷ again) k }

snap_phase_up : (b : ℕ) (t : SnapSession) (x : SnapPhase) → SnapPhaseUpTo b x → SnapUpTo b t → SnapTurn b (snap_phase_ends t x)
snap_phase_up b t (snap.First time) p h = snap_second b t (snapshot_time t) _ (max_up t.least (greatest_shown t.lines) b h.least (shown_least b t.lines h.lines)) h
snap_phase_up b t (snap.Second time) p h = snap_quiet b _ (other_snap b t (snap.Done time) t.lines p h.lines h)
snap_phase_up b t (snap.Done time) p h = snap_quiet b t h

snap_told_up : (b : ℕ) (t : SnapSession) (m : Line) → LineUpTo b m → SnapUpTo b t → SnapTurn b (snap_told t m)
snap_told_up b t m i h =
    let u = record t { lines = with_line t.lines (in_state m Answered) } in
    let k : SnapUpTo b u = other_snap b t t.phase (with_line t.lines (in_state m Answered)) h.of_phase (with_up b t.lines (in_state m Answered) (state_line b m Answered tt i) h.lines) h in
    cond_both (all_answered u.lines) (snap_phase_ends u u.phase) (quiet u) (SnapTurn b) (λ e. snap_phase_up b u u.phase k.of_phase k) (λ e. snap_quiet b u k)

snap_goes : (b : ℕ) (t : SnapSession) (m : Line) (outs : List Out) → LineUpTo b m → All (OutUpTo b) outs → SnapUpTo b t → SnapTurn b (snap_line_goes t m outs)
snap_goes b t m outs i o h = record { after = other_snap b t t.phase (with_line t.lines m) h.of_phase (with_up b t.lines m i h.lines) h; outs = o }

pub snap_hears_up : (b : ℕ) (t : SnapSession) (m : Line) (r : Reply) → LineUpTo b m → ReplyTimesUpTo b r → SnapUpTo b t → SnapTurn b (snap_hears t m r)
snap_hears_up b t m (reply.Values versions skipped) i q h = snap_told_up b t (record m { shown = versions; skipped = skipped }) (record { of_state = i.of_state; shown = q.0; skipped = q.1; prepared = i.prepared }) h
snap_hears_up b t m (reply.Wait holders) i q h = snap_goes b t (in_state m (blocked_state holders)) (blocked_outs m.shard holders) (state_line b m (blocked_state holders) (blocked_up b holders) i) (blocked_asks b m.shard holders) h
snap_hears_up b t m (reply.Blocked holders) i q h = snap_goes b t (in_state m (blocked_state holders)) (blocked_outs m.shard holders) (state_line b m (blocked_state holders) (blocked_up b holders) i) (blocked_asks b m.shard holders) h
snap_hears_up b t m (reply.Outcome outcome) i q h = snap_goes b t (in_state m (resolving_state m.state outcome)) (resolving_outs m.shard m.state outcome) (state_line b m (resolving_state m.state outcome) (resolving_up b m.state outcome q i.of_state) i) (resolving_asks b m.shard m.state outcome q) h
snap_hears_up b t m reply.Open i q h = snap_goes b t (in_state m (sleeping_state m.state)) [] (state_line b m (sleeping_state m.state) (sleeping_up b m.state i.of_state) i) (All-nil (OutUpTo b)) h
snap_hears_up b t m reply.Done i q h = snap_goes b t (in_state m Awaiting) (line_out m.shard (snap_request t t.phase m) ∷ []) (state_line b m Awaiting tt i) (All-cons (OutUpTo b) (line_out m.shard (snap_request t t.phase m)) [] (snap_request_up b t t.phase m h h.of_phase) (All-nil (OutUpTo b))) h
snap_hears_up b t m (reply.Granted shown) i q h = snap_quiet b t h
snap_hears_up b t m (reply.Prepared time) i q h = snap_quiet b t h
snap_hears_up b t m reply.Released i q h = snap_quiet b t h
snap_hears_up b t m reply.Wounded i q h = snap_quiet b t h
snap_hears_up b t m (reply.Decided outcome) i q h = snap_quiet b t h
snap_hears_up b t m reply.Fixed i q h = snap_quiet b t h
snap_hears_up b t m (reply.Held value stamp writer) i q h = snap_quiet b t h
snap_hears_up b t m reply.Stored i q h = snap_quiet b t h

pub snap_wakes_up : (b : ℕ) (t : SnapSession) (m : Line) → LineUpTo b m → SnapUpTo b t → SnapTurn b (snap_wakes t m)
snap_wakes_up b t m i h = snap_goes b t (in_state m (woken_state m.state)) (woken_outs m.shard m.state) (state_line b m (woken_state m.state) (woken_up b m.state i.of_state) i) (woken_asks b m.shard m.state) h

pub snap_starts_up : (b : ℕ) (home : ℕ → ℕ) (call : ℕ) (keys : List Key) (least : ℕ) (at : Reading) → least ≤ b → at.latest ≤ b → SnapTurn b (snap_starts (opening_snapshot home call keys least at))
snap_starts_up b home call keys least at l m =
    let u = opening_snapshot home call keys least at in
    let k : SnapUpTo b u = record { least = l; of_phase = max_up at.latest least b m l; lines = begun_up b home keys [] } in
    record { after = k; outs = snap_asks_up b u u.lines k }
