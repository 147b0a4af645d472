-- Requests are to targets of the file, and a shard is asked about its own keys.
use Rattle.std.proofs.Common.{◌≡◌, ℕ, ◌<◌, ◌≤◌, Bool, true, false, ◌||◌, ◌==◌, List, [], ◌∷◌, ◌++◌, length, map, Some, None, refl, ap, sym, subst, arith}
use Rattle.std.specs.List.{All}
use Rattle.std.specs.Prelude.{nat_lt, if◌then◌else◌}
use Rattle.std.proofs.lemmas.Bool.{true≢false, cond_both, eqb-true, ltb-true, and_parts}
use Rattle.std.proofs.lemmas.List.Elements.{All-nil, All-cons, All-head, All-tail}
use Rattle.rss_names.specs.Services.{same_key}
use Rattle.rss_names.specs.declared.service.Key.{Key}
use Rattle.rss_names.specs.declared.service.ServiceId.{ServiceId}
use Rattle.rss_names.specs.declared.service.ServiceId.TheVariants.{Txn, Reg}
use Rattle.rss_names.specs.declared.service.Target.{Target}
use Rattle.rss_names.specs.declared.service.Target.TheVariants.{Shard, Replica}
use Rattle.pipeline_lang.specs.Config.{home_of, replicas_of}
use Rattle.pipeline_lang.specs.declared.config.Config.{Config}
use Rattle.rss_model.specs.declared.op.Op.TheVariants as op
use Rattle.rss_wire.specs.Messages.{message_at, body_request, is_sent}
use Rattle.rss_wire.specs.declared.message.Body.{Body}
use Rattle.rss_wire.specs.declared.message.Body.TheVariants as body
use Rattle.rss_wire.specs.declared.messages.Request.{Request}
use Rattle.rss_wire.specs.declared.messages.Request.TheVariants.{Lock, Prepare, Decide, Commit, Abort, Inquire, Release, Snapshot, Fix, Ask, Stamp, Store}
use Rattle.rss_tables.specs.Lines.{Line, keys_on, lines_of, opening_line}
use Rattle.rss_tables.specs.Locks.{has_key}
use Rattle.rss_tables.specs.SnapshotSession.{SnapSession}
use Rattle.rss_tables.specs.TransactionSession.{TxnSession, written_keys}
use Rattle.rss_machine.specs.Run.{run, readings_of}
use Rattle.rss_machine.specs.State.{State, owner_at}
use Rattle.rss_machine.specs.declared.session.Session.TheVariants as session
use Rattle.rss_machine.specs.declared.step.Step.{Step}
use Rattle.order_laws.proofs.Keys.{same_key-true, same_key-itself}
use Rattle.shard_laws.specs.Fitting.{is_written}
use Rattle.session_laws.specs.Frames.{Frame, frame_of, frames_of, nth_line, IsLine}
use Rattle.session_laws.proofs.Frames.{frames_length, frames_nth, IsOpened, lines_of_opened}
use Rattle.world_laws.specs.Laws.{IsOrdered}
use Rattle.world_laws.specs.NamedKeys.{IsKey}
use Rattle.world_laws.specs.Shapes.{IsSoundFile}
use Rattle.world_laws.specs.Traffic.{IsTargetOf, AsksOwn, LivesOn, TargetsFit, request_keys}
use Rattle.world_laws.proofs.Looks.{none_is_not, some_is}
use Rattle.loss_laws.proofs.Files.{within}
use Rattle.txn_state_laws.specs.Framed.{AllFramed}
use Rattle.txn_state_laws.specs.Justified.{IsJust}
use Rattle.txn_line_laws.proofs.True.{AllTrue, true_run}
use Rattle.target_laws.proofs.Runs.{targets_in}

-- LISTS

all_before : {A : Type 0} (P : A → Type 0) (xs ys : List A) → All P (xs ++ ys) → All P xs
all_before P [] ys h = All-nil P
all_before P (x ∷ xs) ys h = All-cons P x xs (All-head P x (xs ++ ys) h) (all_before P xs ys (All-tail P x (xs ++ ys) h))

all_behind : {A : Type 0} (P : A → Type 0) (xs ys : List A) → All P (xs ++ ys) → All P ys
all_behind P [] ys h = h
all_behind P (x ∷ xs) ys h = all_behind P xs ys (All-tail P x (xs ++ ys) h)

all_both : {A : Type 0} (P : A → Type 0) (xs ys : List A) → All P xs → All P ys → All P (xs ++ ys)
all_both P [] ys h k = k
all_both P (x ∷ xs) ys h k = All-cons P x (xs ++ ys) (All-head P x xs h) (all_both P xs ys (All-tail P x xs h) k)

-- a key that a list has is one of it
has_all : (P : Key → Type 0) (keys : List Key) (key : Key) → All P keys → has_key keys key ≡ true → P key
has_all P [] key h e = absurd (true≢false (sym e))
has_all P (k ∷ keys) key h e = by_test (same_key key k) refl (has_all P keys key (All-tail P k keys h)) e
  where
    by_test : (b : Bool) → same_key key k ≡ b → (has_key keys key ≡ true → P key) → (b || has_key keys key) ≡ true → P key
    by_test true t ih g = subst P (sym (same_key-true key k t)) (All-head P k keys h)
    by_test false t ih g = ih g

-- each key of writes is written
or_right : (a b : Bool) → b ≡ true → (a || b) ≡ true
or_right true b e = refl
or_right false b e = e

all_written : (P : Key → Type 0) (writes : List (Key × ℕ)) → ((key : Key) → is_written writes key ≡ true → P key) → All P (map (λ (write : Key × ℕ). write.0) writes)
all_written P [] f = All-nil P
all_written P (w ∷ writes) f =
    All-cons P w.0 (map (λ (write : Key × ℕ). write.0) writes) (f w.0 (ap (λ (b : Bool). (b || false) || is_written writes w.0) (same_key-itself w.0)))
    (all_written P writes (λ key e. f key (or_right (has_key (key ∷ []) w.0) (is_written writes key) e)))

-- LINES

kept_keys : (c : Config) (shard : ℕ) (keys : List Key) → All (IsKey c) keys → All (LivesOn c shard) (keys_on (home_of c) shard keys)
kept_keys c shard [] h = All-nil (LivesOn c shard)
kept_keys c shard (key ∷ keys) h =
    let rest = kept_keys c shard keys (All-tail (IsKey c) key keys h) in
    cond_both (home_of c key.index == shard) (key ∷ keys_on (home_of c) shard keys) (keys_on (home_of c) shard keys) (All (LivesOn c shard))
    (λ e. All-cons (LivesOn c shard) key (keys_on (home_of c) shard keys) (record { is_key = All-head (IsKey c) key keys h; home = eqb-true (home_of c key.index) shard e }) rest) (λ e. rest)

-- the keys of a line live on its shard
abbrev FrameLives : Config → Frame → Type 0
FrameLives c f = All (LivesOn c f.shard) f.reads × All (LivesOn c f.shard) f.writes

line_lives : (c : Config) (lines : List Line) (reads writes : List Key) (l : Line) → frames_of lines ≡ frames_of (lines_of (home_of c) reads writes) → IsLine lines l → All (IsKey c) reads → All (IsKey c) writes → FrameLives c (frame_of l)
line_lives c lines reads writes l e d h k = subst (FrameLives c) (ap frame_of d.at) (subst (FrameLives c) (sym (frames_nth lines all e d.place)) (subst (FrameLives c) (ap frame_of (sym o.opened)) p))
  where
    all : List Line
    all = lines_of (home_of c) reads writes

    y : Line
    y = nth_line all d.place

    o : IsOpened (home_of c) reads writes 1 17 y
    o = lines_of_opened (home_of c) reads writes d.place (subst (λ (n : ℕ). d.place < n) (frames_length lines all e) d.inside)

    p : FrameLives c (frame_of (opening_line y.shard (keys_on (home_of c) y.shard reads) (keys_on (home_of c) y.shard writes)))
    p = (kept_keys c y.shard reads h, kept_keys c y.shard writes k)

txn_lives : (c : Config) (s : State) (o : ℕ) (x : TxnSession) (l : Line) → AllFramed c s → (owner_at s o).session ≡ session.Transaction x → IsLine x.lines l → FrameLives c (frame_of l)
txn_lives c s o x l f e d =
    let t = f.txn o x e in
    let k = (f.ops o (op.Txn x.reads x.guard x.writes) t.of_kind).keys in
    line_lives c x.lines x.reads (written_keys x.writes) l t.frames.frames d (all_before (IsKey c) x.reads (written_keys x.writes) k) (all_behind (IsKey c) x.reads (written_keys x.writes) k)

snap_lives : (c : Config) (s : State) (o : ℕ) (x : SnapSession) (l : Line) → AllFramed c s → (owner_at s o).session ≡ session.Snapshot x → IsLine x.lines l → FrameLives c (frame_of l)
snap_lives c s o x l f e d =
    let t = f.snap o x e in
    line_lives c x.lines x.keys [] l t.frames.frames d (f.ops o (op.Snap x.keys) t.of_kind).keys (All-nil (IsKey c))

-- REQUESTS

moved : (c : Config) (a b : ℕ) (xs ys : List Key) → a ≡ b → ys ≡ xs → All (LivesOn c a) xs → All (LivesOn c b) ys
moved c a b xs ys e f h = subst (λ (n : ℕ). All (LivesOn c n) ys) e (subst (All (LivesOn c a)) (sym f) h)

just_asks : (c : Config) (s : State) (o shard : ℕ) (r : Request) → AllFramed c s → IsJust s o shard r → All (LivesOn c shard) (request_keys r)
just_asks c s o shard (Lock a coordinator reads writes) f d =
    let k = txn_lives c s a.call d.txn d.line f d.of.under_way d.is_line.is in
    all_both (LivesOn c shard) reads writes (moved c d.line.shard shard d.line.reads reads d.is_line.on d.reads_are k.0) (moved c d.line.shard shard d.line.writes writes d.is_line.on d.writes_are k.1)
just_asks c s o shard (Prepare a least earliest_end writes) f d =
    let k = txn_lives c s a.call d.txn d.line f d.of.under_way d.is_line.is in
    all_written (LivesOn c shard) writes (λ key e. has_all (LivesOn c shard) d.line.writes key (moved c d.line.shard shard d.line.writes d.line.writes d.is_line.on refl k.1) (d.fits key e))
just_asks c s o shard (Snapshot read_time least keys skip) f d = moved c d.line.shard shard d.line.reads keys d.on d.keys_are (snap_lives c s o d.snap d.line f d.under_way d.is_line).0
just_asks c s o shard (Decide a commit time) f d = All-nil (LivesOn c shard)
just_asks c s o shard (Commit a time) f d = All-nil (LivesOn c shard)
just_asks c s o shard (Abort a) f d = All-nil (LivesOn c shard)
just_asks c s o shard (Inquire a) f d = All-nil (LivesOn c shard)
just_asks c s o shard (Release a time last) f d = All-nil (LivesOn c shard)
just_asks c s o shard (Fix deps) f d = All-nil (LivesOn c shard)
just_asks c s o shard (Ask key) f d = All-nil (LivesOn c shard)
just_asks c s o shard (Stamp key) f d = All-nil (LivesOn c shard)
just_asks c s o shard (Store key value stamp writer) f d = All-nil (LivesOn c shard)

asked : (b : Bool) (x : Body) (r : Request) → (if b then body_request x else None) ≡ Some r → (b ≡ true) × (x ≡ body.Request r)
asked true (body.Request q) r e = (refl, ap body.Request (some_is q r e))
asked true (body.Reply q) r e = absurd (none_is_not r e)
asked false x r e = absurd (none_is_not r e)

pub targets_fit : (c : Config) (steps : List Step) (s : State) → IsSoundFile c → All IsOrdered (readings_of steps) → run c steps ≡ Some s → TargetsFit c s
targets_fit c steps s f a e = record {
  targets = λ m g. of_target m (message_at s.net m).envelope.target refl (above m g) (inside m g);
  keys = λ m r g. own m r (message_at s.net m).envelope.target refl (asked (is_sent s.net m) (message_at s.net m).body r g);
}
  where
    h : AllTrue c s
    h = true_run c steps s f.keys a e

    above : (m : ℕ) → is_sent s.net m ≡ true → 0 < m
    above m g = ltb-true 0 m (and_parts (nat_lt 0 m) (nat_lt m (length s.net)) g).0

    inside : (m : ℕ) → is_sent s.net m ≡ true → m < length s.net
    inside m g = ltb-true m (length s.net) (and_parts (nat_lt 0 m) (nat_lt m (length s.net)) g).1

    of_replica : (id : ServiceId) (replica : ℕ) → (1 ≤ replica) × (replica ≤ replicas_of c id) → IsTargetOf c (Replica id replica)
    of_replica (Reg number) replica g =
        let i = g.0 in
        let j = g.1 in
        let n = f.within.places.numbers number (omega (arith, i, j)) in
        (n.0, n.1, g.0, g.1)
    of_replica (Txn number) replica g = absurd (let i = g.0 in let j = g.1 in let k = f.within.places.others number in omega (arith, i, j, k))

    of_target : (m : ℕ) (x : Target) → (message_at s.net m).envelope.target ≡ x → 0 < m → m < length s.net → IsTargetOf c x
    of_target m (Shard shard) t z l = ((targets_in c steps s f a e).messages m z l shard t).0
    of_target m (Replica id replica) t z l = of_replica id replica (within c steps s e m id replica t)

    own : (m : ℕ) (r : Request) (x : Target) → (message_at s.net m).envelope.target ≡ x → (is_sent s.net m ≡ true) × ((message_at s.net m).body ≡ body.Request r) → AsksOwn c x r
    own m r (Replica id replica) t g = tt
    own m r (Shard shard) t g = just_asks c s (message_at s.net m).envelope.owner shard r h.under.framed (h.just.each m shard r (record { numbered = above m g.0; sent = inside m g.0; asks = g.1; to = t }))
