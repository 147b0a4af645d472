-- What a session keeps, whatever it does.
use Rattle.std.proofs.Common.{◌≡◌, ℕ, List, [], ◌∷◌, map, refl, sym, ap, ◌∙◌}
use Rattle.std.specs.Prelude.{◌==◌, nat_lt, if◌then◌else◌}
use Rattle.std.proofs.lemmas.Bool.{cond_both}
use Rattle.truetime.specs.Reading.{Reading}
use Rattle.rss_names.specs.declared.service.Key.{Key}
use Rattle.rss_wire.specs.declared.messages.Outcome.{Outcome}
use Rattle.rss_wire.specs.declared.messages.Outcome.TheVariants as outcomes
use Rattle.rss_wire.specs.declared.messages.Reply.{Reply}
use Rattle.rss_tables.specs.Lines.{Line, lines_of, with_line, in_state, all_awaiting, only_awaiting, coordinator_of}
use Rattle.rss_tables.specs.Turns.{Turn, quiet}
use Rattle.rss_tables.specs.SnapshotSession.{SnapSession, snap_starts, snap_wakes, second_round, asked_again, must_ask_again}
use Rattle.rss_tables.specs.TransactionSession.{TxnSession, written_keys, leads, goes_to_prepare, goes_to_free, goes_to_free_last, is_prepared, is_wounded, wait_of, is_committed, is_decided, txn_starts, txn_wakes, txn_passes}
use Rattle.rss_tables.specs.declared.lines.LineState.TheVariants.{Awaiting, Dropped}
use Rattle.rss_tables.specs.declared.phases.SnapPhase.TheVariants as snap_phase
use Rattle.rss_tables.specs.declared.phases.TxnPhase.{TxnPhase}
use Rattle.rss_tables.specs.declared.phases.TxnPhase.TheVariants as phase
use Rattle.session_laws.specs.Frames.{frame_of, frames_of, IsLine, AreApartShards, HasTxnFrames, HasSnapFrames, SameTxn, SameSnap}
use Rattle.session_laws.specs.Cases.{answered, shown_line, timed_line, TxnTurn, granted, prepares, frees, prepared, decides, released, frees_last, fails, wounded, commits, waits, aborts, undone, blocked, resolves, sleeps, asks}
use Rattle.session_laws.specs.SnapCases.{snap_answered, told_line, SnapTurn}
use Rattle.session_laws.specs.SnapCases as snap
use Rattle.session_laws.proofs.Frames.{map_frames, with_line_frames, frames_apart, lines_of_apart}

-- the lines of a session of its frames are of shards that are apart
pub txn_apart : (home : ℕ → ℕ) (t : TxnSession) → HasTxnFrames home t → AreApartShards t.lines
txn_apart home t h = frames_apart t.lines (lines_of home t.reads (written_keys t.writes)) h.frames (lines_of_apart home t.reads (written_keys t.writes))

pub snap_apart : (home : ℕ → ℕ) (t : SnapSession) → HasSnapFrames home t → AreApartShards t.lines
snap_apart home t h = frames_apart t.lines (lines_of home t.keys []) h.frames (lines_of_apart home t.keys [])

-- frames are kept where the lines are kept the same in all that they are made of
pub txn_frames_stay : (home : ℕ → ℕ) (t u : TxnSession) → SameTxn t u → HasTxnFrames home t → HasTxnFrames home u
txn_frames_stay home t u s h = record { frames = s.frames ∙ h.frames ∙ ap (λ (reads : List Key). frames_of (lines_of home reads (written_keys t.writes))) (sym s.reads) ∙ ap (λ writes. frames_of (lines_of home u.reads (written_keys writes))) (sym s.writes) }

pub snap_frames_stay : (home : ℕ → ℕ) (t u : SnapSession) → SameSnap t u → HasSnapFrames home t → HasSnapFrames home u
snap_frames_stay home t u s h = record { frames = s.frames ∙ h.frames ∙ ap (λ (keys : List Key). frames_of (lines_of home keys [])) (sym s.keys) }

pub same_txn : (t : TxnSession) → SameTxn t t
same_txn t = record { call = refl; reads = refl; guard = refl; writes = refl; least = refl; margin = refl; frames = refl }

pub same_txn_later : (t u v : TxnSession) → SameTxn t u → SameTxn u v → SameTxn t v
same_txn_later t u v a b = record { call = b.call ∙ a.call; reads = b.reads ∙ a.reads; guard = b.guard ∙ a.guard; writes = b.writes ∙ a.writes; least = b.least ∙ a.least; margin = b.margin ∙ a.margin; frames = b.frames ∙ a.frames }

pub same_snap : (t : SnapSession) → SameSnap t t
same_snap t = record { call = refl; keys = refl; least = refl; frames = refl }

pub same_snap_later : (t u v : SnapSession) → SameSnap t u → SameSnap u v → SameSnap t v
same_snap_later t u v a b = record { call = b.call ∙ a.call; keys = b.keys ∙ a.keys; least = b.least ∙ a.least; frames = b.frames ∙ a.frames }

-- how lines change all at once
only_frames : (shard : ℕ) (lines : List Line) → frames_of (only_awaiting shard lines) ≡ frames_of lines
only_frames shard lines = map_frames (λ (l : Line). record l { state = if l.shard == shard then Awaiting else Dropped }) (λ l. refl) lines

all_frames : (lines : List Line) → frames_of (all_awaiting lines) ≡ frames_of lines
all_frames lines = map_frames (λ (l : Line). record l { state = Awaiting }) (λ l. refl) lines

again_frames : (time : ℕ) (lines : List Line) → frames_of (asked_again time lines) ≡ frames_of lines
again_frames time lines = map_frames (λ (l : Line). if must_ask_again time l then in_state l Awaiting else l)
    (λ l. cond_both (must_ask_again time l) (in_state l Awaiting) l (λ (m : Line). frame_of m ≡ frame_of l) (λ e. refl) (λ e. refl)) lines

fresh_frames : (lines : List Line) → frames_of (map (λ (l : Line). record l { state = Awaiting; shown = []; prepare_time = 0 }) lines) ≡ frames_of lines
fresh_frames lines = map_frames (λ (l : Line). record l { state = Awaiting; shown = []; prepare_time = 0 }) (λ l. refl) lines

others_frames : (t : TxnSession) (lines : List Line) → frames_of (map (λ (m : Line). if leads t m then m else in_state m Awaiting) lines) ≡ frames_of lines
others_frames t lines = map_frames (λ (m : Line). if leads t m then m else in_state m Awaiting)
    (λ l. cond_both (leads t l) l (in_state l Awaiting) (λ (m : Line). frame_of m ≡ frame_of l) (λ e. refl) (λ e. refl)) lines

-- the rows of a transaction
prepare_same : (t : TxnSession) (at : Reading) → SameTxn t (goes_to_prepare t at).after
prepare_same t at = record { call = refl; reads = refl; guard = refl; writes = refl; least = refl; margin = refl; frames = all_frames t.lines }

free_last_same : (t : TxnSession) (time : ℕ) → SameTxn t (goes_to_free_last t time).after
free_last_same t time = record { call = refl; reads = refl; guard = refl; writes = refl; least = refl; margin = refl; frames = only_frames (coordinator_of t.lines) t.lines }

free_same : (t : TxnSession) (time : ℕ) (others : List Line) → SameTxn t (goes_to_free t time others).after
free_same t time [] = free_last_same t time
free_same t time (l ∷ others) = record { call = refl; reads = refl; guard = refl; writes = refl; least = refl; margin = refl; frames = others_frames t t.lines }

prepared_same : (t : TxnSession) → SameTxn t (is_prepared t).after
prepared_same t = record { call = refl; reads = refl; guard = refl; writes = refl; least = refl; margin = refl; frames = only_frames (coordinator_of t.lines) t.lines }

wounded_same : (t : TxnSession) → SameTxn t (is_wounded t).after
wounded_same t = record { call = refl; reads = refl; guard = refl; writes = refl; least = refl; margin = refl; frames = only_frames (coordinator_of t.lines) t.lines }

phase_same : (t : TxnSession) (p : TxnPhase) → SameTxn t (record t { phase = p })
phase_same t p = record { call = refl; reads = refl; guard = refl; writes = refl; least = refl; margin = refl; frames = refl }

decided_same : (t : TxnSession) (at : Reading) (outcome : Outcome) → SameTxn t (is_decided t at outcome).after
decided_same t at (outcomes.Committed time) =
    cond_both (nat_lt (wait_of t time) at.earliest) (is_committed t time) (quiet (record t { phase = phase.Waiting time })) (λ (x : Turn TxnSession). SameTxn t x.after)
    (λ e. phase_same t (phase.Committed time)) (λ e. phase_same t (phase.Waiting time))
decided_same t at outcomes.Aborted = record { call = refl; reads = refl; guard = refl; writes = refl; least = refl; margin = refl; frames = fresh_frames t.lines }

line_same : (home : ℕ → ℕ) (t : TxnSession) (l new : Line) → HasTxnFrames home t → IsLine t.lines l → frame_of new ≡ frame_of l → SameTxn t (record t { lines = with_line t.lines new })
line_same home t l new h i e = record { call = refl; reads = refl; guard = refl; writes = refl; least = refl; margin = refl; frames = with_line_frames t.lines l new i (txn_apart home t h) e }

-- whatever a line hears
pub txn_turn_same : (home : ℕ → ℕ) (t : TxnSession) (l : Line) (at : Reading) (r : Reply) (turn : Turn TxnSession) → HasTxnFrames home t → IsLine t.lines l → TxnTurn t l at r turn → SameTxn t turn.after
txn_turn_same home t l at _ _ h i (granted shown p s e) = line_same home t l _ h i refl
txn_turn_same home t l at _ _ h i (prepares shown p s e g) = same_txn_later t (answered t (shown_line l shown)) _ (line_same home t l _ h i refl) (prepare_same (answered t (shown_line l shown)) at)
txn_turn_same home t l at _ _ h i (frees shown p s e g) = same_txn_later t (answered t (shown_line l shown)) _ (line_same home t l _ h i refl) (free_same (answered t (shown_line l shown)) _ _)
txn_turn_same home t l at _ _ h i (prepared time p s e) = line_same home t l _ h i refl
txn_turn_same home t l at _ _ h i (decides time p s e) = same_txn_later t (answered t (timed_line l time)) _ (line_same home t l _ h i refl) (prepared_same (answered t (timed_line l time)))
txn_turn_same home t l at _ _ h i (released time p s e) = line_same home t l _ h i refl
txn_turn_same home t l at _ _ h i (frees_last time p s e) = same_txn_later t (answered t l) _ (line_same home t l _ h i refl) (free_last_same (answered t l) time)
txn_turn_same home t l at _ _ h i (fails time p s) = same_txn_later t (answered t l) _ (line_same home t l _ h i refl) (phase_same (answered t l) (phase.Failed time))
txn_turn_same home t l at _ _ h i (wounded p s) = wounded_same t
txn_turn_same home t l at _ _ h i (commits d time p s e) = phase_same t (phase.Committed time)
txn_turn_same home t l at _ _ h i (waits d time p s e) = phase_same t (phase.Waiting time)
txn_turn_same home t l at _ _ h i (aborts p s) = decided_same t at outcomes.Aborted
txn_turn_same home t l at _ _ h i (undone time p s) = decided_same t at (outcomes.Committed time)
txn_turn_same home t l at _ _ h i (blocked holder holders p s) = line_same home t l _ h i refl
txn_turn_same home t l at _ _ h i (resolves holder outcome s) = line_same home t l _ h i refl
txn_turn_same home t l at _ _ h i (sleeps holder s) = line_same home t l _ h i refl
txn_turn_same home t l at _ _ h i (asks holder outcome s) = line_same home t l _ h i refl

pub txn_wake_same : (home : ℕ → ℕ) (t : TxnSession) (l : Line) → HasTxnFrames home t → IsLine t.lines l → SameTxn t (txn_wakes t l).after
txn_wake_same home t l h i = line_same home t l _ h i refl

pub txn_pass_same : (t : TxnSession) → SameTxn t (txn_passes t t.phase).after
txn_pass_same t = by_phase t.phase
  where
    by_phase : (p : TxnPhase) → SameTxn t (txn_passes t p).after
    by_phase (phase.Waiting time) = phase_same t (phase.Committed time)
    by_phase phase.Locking = same_txn t
    by_phase phase.Preparing = same_txn t
    by_phase (phase.Freeing time) = same_txn t
    by_phase (phase.FreeingLast time) = same_txn t
    by_phase (phase.Deciding time) = same_txn t
    by_phase phase.Undoing = same_txn t
    by_phase (phase.Committed time) = same_txn t
    by_phase (phase.Failed time) = same_txn t

pub txn_start_same : (t : TxnSession) → SameTxn t (txn_starts t).after
txn_start_same t = same_txn t

-- the rows of a snapshot
second_same : (t : SnapSession) (time : ℕ) (again : List Line) → SameSnap t (second_round t time again).after
second_same t time [] = record { call = refl; keys = refl; least = refl; frames = refl }
second_same t time (l ∷ again) = record { call = refl; keys = refl; least = refl; frames = again_frames time t.lines }

done_same : (t : SnapSession) (time : ℕ) → SameSnap t (record t { phase = snap_phase.Done time })
done_same t time = record { call = refl; keys = refl; least = refl; frames = refl }

snap_line_same : (home : ℕ → ℕ) (t : SnapSession) (l new : Line) → HasSnapFrames home t → IsLine t.lines l → frame_of new ≡ frame_of l → SameSnap t (record t { lines = with_line t.lines new })
snap_line_same home t l new h i e = record { call = refl; keys = refl; least = refl; frames = with_line_frames t.lines l new i (snap_apart home t h) e }

pub snap_turn_same : (home : ℕ → ℕ) (t : SnapSession) (l : Line) (r : Reply) (turn : Turn SnapSession) → HasSnapFrames home t → IsLine t.lines l → SnapTurn t l r turn → SameSnap t turn.after
snap_turn_same home t l _ _ h i (snap.shown versions skipped s e) = snap_line_same home t l _ h i refl
snap_turn_same home t l _ _ h i (snap.first_done time versions skipped p s e) = same_snap_later t (snap_answered t (told_line l versions skipped)) _ (snap_line_same home t l _ h i refl) (second_same (snap_answered t (told_line l versions skipped)) _ _)
snap_turn_same home t l _ _ h i (snap.second_done time versions skipped p s e) = same_snap_later t (snap_answered t (told_line l versions skipped)) _ (snap_line_same home t l _ h i refl) (done_same (snap_answered t (told_line l versions skipped)) time)
snap_turn_same home t l _ _ h i (snap.blocked holder holders s) = snap_line_same home t l _ h i refl
snap_turn_same home t l _ _ h i (snap.resolves holder outcome s) = snap_line_same home t l _ h i refl
snap_turn_same home t l _ _ h i (snap.sleeps holder s) = snap_line_same home t l _ h i refl
snap_turn_same home t l _ _ h i (snap.asks holder outcome s) = snap_line_same home t l _ h i refl

pub snap_wake_same : (home : ℕ → ℕ) (t : SnapSession) (l : Line) → HasSnapFrames home t → IsLine t.lines l → SameSnap t (snap_wakes t l).after
snap_wake_same home t l h i = snap_line_same home t l _ h i refl

pub snap_start_same : (t : SnapSession) → SameSnap t (snap_starts t).after
snap_start_same t = same_snap t
