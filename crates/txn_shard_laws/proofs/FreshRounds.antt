-- The time of a snapshot, once its first round is done, is not before what had ended when it began.
use Rattle.std.proofs.Common.{◌≡◌, ◌⊎◌, inl, inr, ℕ, ◌<◌, ◌≤◌, Bool, true, false, List, [], ◌∷◌, length, Option, Some, None, refl, sym, ap, ◌∙◌, subst, arith}
use Rattle.std.specs.List.{filter}
use Rattle.truetime.specs.Reading.{Reading}
use Rattle.rss_names.specs.declared.service.Key.{Key}
use Rattle.rss_names.specs.declared.service.Target.{Target}
use Rattle.rss_names.specs.declared.service.Target.TheVariants.{Shard}
use Rattle.pipeline_lang.specs.Config.{home_of}
use Rattle.pipeline_lang.specs.declared.config.Config.{Config}
use Rattle.rss_wire.specs.Messages.{message_at}
use Rattle.rss_wire.specs.declared.messages.Reply.{Reply}
use Rattle.rss_wire.specs.declared.messages.Reply.TheVariants as reply
use Rattle.rss_wire.specs.declared.messages.Request.{Request}
use Rattle.rss_wire.specs.declared.messages.Request.TheVariants as request
use Rattle.rss_wire.specs.declared.messages.Skipped.{Skipped}
use Rattle.rss_wire.specs.declared.messages.Version.{Version}
use Rattle.rss_tables.specs.Lines.{Line, line_at, version_in, is_answered, all_answered, in_state}
use Rattle.rss_tables.specs.Locks.{has_key}
use Rattle.rss_tables.specs.Outs.{slot_shard}
use Rattle.rss_tables.specs.Prepared.{blocking, passed_by, named_blocking, named_skipped}
use Rattle.rss_tables.specs.ShardRow.{Shard as ShardState, shard_reply, is_clear}
use Rattle.rss_tables.specs.SnapshotSession.{SnapSession, snap_request, snap_hears, second_round, snapshot_time, must_ask_again}
use Rattle.rss_tables.specs.Turns.{Turn}
use Rattle.rss_tables.specs.Versions.{version_at, versions_at}
use Rattle.rss_tables.specs.declared.lines.LineState.{LineState}
use Rattle.rss_tables.specs.declared.lines.LineState.TheVariants.{Awaiting, Answered}
use Rattle.rss_tables.specs.declared.phases.SnapPhase.{SnapPhase}
use Rattle.rss_tables.specs.declared.phases.SnapPhase.TheVariants.{First, Second}
use Rattle.rss_machine.specs.State.{State, owner_at}
use Rattle.rss_machine.specs.declared.session.Session.TheVariants as session
use Rattle.world_laws.specs.Exchanges.{Exchanges, IsSound, Fits, ShardReplies}
use Rattle.session_laws.specs.Awaits.{awaited_by, snap_awaits}
use Rattle.session_laws.specs.Frames.{nth_line}
use Rattle.session_laws.specs.SnapCases.{SnapTurn, snap_answered, told_line, shown, first_done, second_done, blocked, resolves, sleeps, asks}
use Rattle.session_laws.proofs.LineLaws.{length_with_line, nth_with_line_cases, answered_nth}
use Rattle.session_laws.proofs.Shown.{versions_in_there, greatest_shown_above}
use Rattle.session_laws.proofs.SnapCases.{snap_case}
use Rattle.txn_state_laws.specs.Awaited.{LineHears}
use Rattle.txn_state_laws.specs.Dated.{AllDated}
use Rattle.txn_state_laws.specs.Decided.{AllDecided}
use Rattle.txn_state_laws.specs.Fresh.{HasWritten}
use Rattle.txn_state_laws.specs.Onward.{Between}
use Rattle.txn_state_laws.specs.Orderly.{AllOrderly}
use Rattle.txn_state_laws.specs.Passed.{AllPassed}
use Rattle.txn_state_laws.specs.Replied.{Replied}
use Rattle.txn_state_laws.specs.Told.{snap_time}
use Rattle.txn_state_laws.specs.Voted.{AllVoted}
use Rattle.txn_shard_laws.proofs.FreshOwners.{SnapHeard}
use Rattle.txn_shard_laws.proofs.FreshShows.{shows_written}
use Rattle.txn_shard_laws.proofs.FreshWrites.{ReadsThere, read_there}

-- what a shard answers to a snapshot is what its keys show at the read time
answer_is : (sh : ShardState) (latest read_time least : ℕ) (keys : List Key) (skip : Bool) (versions : List (Key × Version)) (skipped : List Skipped) → reply.Values versions skipped ≡ shard_reply sh latest (request.Snapshot read_time least keys skip) → versions ≡ versions_at sh.store keys read_time
unfolding shard_reply
answer_is sh latest read_time least keys skip versions skipped e = by_test (is_clear sh keys read_time least skip) refl
  where
    by_test : (b : Bool) → is_clear sh keys read_time least skip ≡ b → versions ≡ versions_at sh.store keys read_time
    by_test true f = let x : ◌≡◌ {A = Reply} (reply.Values versions skipped) (reply.Values (versions_at sh.store keys read_time) (named_skipped (passed_by sh.prepared keys read_time least skip))) = rw f at e in cc
    by_test false f = absurd (let x : ◌≡◌ {A = Reply} (reply.Values versions skipped) (reply.Blocked (named_blocking (blocking sh.prepared keys read_time least skip))) = rw f at e in cc)

-- a version is shown of a key
pub record IsShown (versions : List (Key × Version)) (key : Key) : Type 0 where
  pub version : Version
  pub is : version_in versions key ≡ Some version

-- an answered snapshot shows each of its keys
answer_shows : (s : State) → Exchanges s.net → (n read_time least : ℕ) (keys : List Key) (skip : Bool) (versions : List (Key × Version)) (skipped : List Skipped) → Replied s (Shard n) (request.Snapshot read_time least keys skip) (reply.Values versions skipped) → (key : Key) → has_key keys key ≡ true → IsShown versions key
answer_shows s sound n read_time least keys skip versions skipped r key h = record {
  version = version_at fits.shard.store key read_time;
  is =
      ap (λ (shown : List (Key × Version)). version_in shown key) (answer_is fits.shard fits.latest read_time least keys skip versions skipped fits.reply)
      ∙ versions_in_there fits.shard.store keys read_time key h;
}
  where
    fits : ShardReplies (request.Snapshot read_time least keys skip) (reply.Values versions skipped)
    fits =
        let x : IsSound r.message (message_at s.net r.message) (message_at s.net (message_at s.net r.message).envelope.exchange) = sound r.message r.is.numbered r.is.sent in
        subst (λ (target : Target). Fits target (request.Snapshot read_time least keys skip) (reply.Values versions skipped)) r.is.from
        (x.fits (request.Snapshot read_time least keys skip) (reply.Values versions skipped) r.is.says r.is.asked)

-- what a line awaits in the first round
awaits_first : (x : SnapSession) (l : Line) (read_time : ℕ) → x.phase ≡ First read_time → l.state ≡ Awaiting → snap_awaits x x.phase l ≡ Some (Shard l.shard, request.Snapshot read_time x.least l.reads true)
awaits_first x l read_time e f = ap (λ (p : SnapPhase). snap_awaits x p l) e ∙ ap (λ (state : LineState). awaited_by state l.shard (snap_request x (First read_time) l)) f

same_target : (a b : Target) (p q : Request) → ◌≡◌ {A = Option (Target × Request)} (Some (a, p)) (Some (b, q)) → a ≡ b
same_target a b p q e = let x : ◌≡◌ {A = Target × Request} (a, p) (b, q) = cc in ap (λ (z : Target × Request). z.0) x

same_request : (a b : Target) (p q : Request) → ◌≡◌ {A = Option (Target × Request)} (Some (a, p)) (Some (b, q)) → p ≡ q
same_request a b p q e = let x : ◌≡◌ {A = Target × Request} (a, p) (b, q) = cc in ap (λ (z : Target × Request). z.1) x

-- phases and times
pub no_time : (read_time time : ℕ) (p : SnapPhase) → p ≡ First read_time → snap_time p ≡ Some time → ⊥
no_time read_time time p e f = let x : ◌≡◌ {A = Option ℕ} None (Some time) = ap snap_time (sym e) ∙ f in cc

not_second : (a b : ℕ) → ◌≡◌ {A = SnapPhase} (First a) (Second b) → ⊥
not_second a b e = cc

same_first : (a b : ℕ) → ◌≡◌ {A = SnapPhase} (First a) (First b) → a ≡ b
same_first a b e = cc

pub same_time : (a b : ℕ) → ◌≡◌ {A = Option ℕ} (Some a) (Some b) → a ≡ b
same_time a b e = cc

-- the time of a second round is known
second_time : (x : SnapSession) (time : ℕ) (again : List Line) → snap_time (second_round x time again).after.phase ≡ Some time
second_time x time [] = refl
second_time x time (l ∷ again) = refl

-- a snapshot in its first round reads a key, of which a transaction that had ended before wrote
module _ (c : Config) (at : Reading) (s t : State) (b : Between c at s t) (decided : AllDecided s) (orderly : AllOrderly c s) (voted : AllVoted s) (passed : AllPassed s) (dated : AllDated s) (o w written read_time : ℕ) (x : SnapSession) (key : Key) (under : (owner_at s o).session ≡ session.Snapshot x) (first : x.phase ≡ First read_time) (h : HasWritten s w written key) (late : (owner_at s w).dates.ended < (owner_at s o).dates.begun) (asked : has_key x.keys key ≡ true) where
  -- it reads at a later time
  reads_later : (written ≤ read_time) × (h.txn.earliest_end ≤ read_time)
  reads_later =
      let done = dated.committed w written h.txn h.under_way h.committed in
      let first_above = done.0 in
      let second_above = done.1 in
      let rise = b.known.rise (owner_at s w).dates.ended (owner_at s o).dates.begun (omega (arith, late)) (dated.begun o) in
      let reading = dated.reading o read_time x under first in
      (omega (arith, first_above, rise, reading), omega (arith, second_above, rise, reading))

  -- the line of the key
  line : ReadsThere x.lines (home_of c key.index) key
  line = read_there c s b.framed o x under key asked

  abbrev m : Line
  m = nth_line x.lines line.place

  -- what its shard answers shows something of the key that is not before what was written
  record ShowsLate (versions : List (Key × Version)) : Type 0 where
    version : Version
    is : version_in versions key ≡ Some version
    above : written ≤ version.time

  answer_late : (versions : List (Key × Version)) (skipped : List Skipped) → Replied s (Shard m.shard) (request.Snapshot read_time x.least m.reads true) (reply.Values versions skipped) → ShowsLate versions
  answer_late versions skipped r =
      let home = subst (λ (n : ℕ). Replied s (Shard n) (request.Snapshot read_time x.least m.reads true) (reply.Values versions skipped)) line.on r in
      let is = answer_shows s b.known.sound m.shard read_time x.least m.reads true versions skipped r key line.reads in
      record {
        version = is.version;
        is = is.is;
        above = shows_written c s b.names b.framed b.told decided orderly voted passed w written key h read_time x.least m.reads true versions skipped home is.version line.reads is.is reads_later.0 reads_later.1;
      }

  -- one of its lines has heard the last answer of the round
  module _ (place : ℕ) (inside : place < length x.lines) (l : Line) (l_is : l ≡ nth_line x.lines place) (state : l.state ≡ Awaiting) (versions : List (Key × Version)) (skipped : List Skipped) (all : all_answered (snap_answered x (told_line l versions skipped)).lines ≡ true) (replied : Replied s (Shard l.shard) (request.Snapshot read_time x.least l.reads true) (reply.Values versions skipped)) where
    abbrev u : SnapSession
    u = snap_answered x (told_line l versions skipped)

    abbrev new : Line
    new = in_state (told_line l versions skipped) Answered

    inside_u : line.place < length u.lines
    inside_u = subst (λ (n : ℕ). line.place < n) (sym (length_with_line x.lines new)) line.inside

    -- the line of the key shows such a version
    line_late : ShowsLate (nth_line u.lines line.place).shown
    line_late = by_place (nth_with_line_cases x.lines new line.place)
      where
        by_place : ((nth_line u.lines line.place ≡ new) × (m.shard ≡ l.shard) × (line.place < length x.lines)) ⊎ ((nth_line u.lines line.place ≡ m) × ((m.shard ≡ l.shard → ⊥) ⊎ (length x.lines ≤ line.place))) → ShowsLate (nth_line u.lines line.place).shown
        by_place (inl e) =
            let same = (b.framed.snap o x under).lines.apart line.place place line.inside inside (e.1 ∙ ap (λ (n : Line). n.shard) l_is) in
            let is : l ≡ m = l_is ∙ ap (nth_line x.lines) (sym same) in
            subst (λ (n : Line). ShowsLate n.shown) (sym e.0)
            (answer_late versions skipped (subst (λ (n : Line). Replied s (Shard n.shard) (request.Snapshot read_time x.least n.reads true) (reply.Values versions skipped)) is replied))
        by_place (inr e) =
            let answered = ap (λ (n : Line). is_answered n.state) (sym e.0) ∙ answered_nth u.lines all line.place inside_u in
            subst (λ (n : Line). ShowsLate n.shown) (sym e.0)
            (answer_late m.shown m.skipped ((b.told.snap o line.place x under line.inside).first read_time first answered))

    round_late : written ≤ snapshot_time u
    round_late =
        let most = greatest_shown_above u.lines line.place key line_late.version inside_u line_late.is in
        let above = line_late.above in
        omega (arith, most, above)

  -- whatever a line hears, a time that is known then is such
  module _ (place : ℕ) (inside : place < length x.lines) (l : Line) (l_is : l ≡ nth_line x.lines place) (target : Target) (q : Request) (awaited : snap_awaits x x.phase l ≡ Some (target, q)) (time : ℕ) where
    turn_late : (r : Reply) (turn : Turn SnapSession) → SnapTurn x l r turn → Replied s target q r → snap_time turn.after.phase ≡ Some time → written ≤ time
    turn_late _ _ (shown versions skipped state more) replied known = absurd (no_time read_time time x.phase first known)
    turn_late _ _ (first_done read_time' versions skipped phase state all) replied known =
        let awaits : ◌≡◌ {A = Option (Target × Request)} (Some (target, q)) (Some (Shard l.shard, request.Snapshot read_time x.least l.reads true)) = sym awaited ∙ awaits_first x l read_time first state in
        let told = subst (λ (p : Request). Replied s (Shard l.shard) p (reply.Values versions skipped)) (same_request target (Shard l.shard) q (request.Snapshot read_time x.least l.reads true) awaits)
        (subst (λ (n : Target). Replied s n q (reply.Values versions skipped)) (same_target target (Shard l.shard) q (request.Snapshot read_time x.least l.reads true) awaits) replied) in
        let after = snap_answered x (told_line l versions skipped) in
        let is = same_time (snapshot_time after) time (sym (second_time after (snapshot_time after) (filter (must_ask_again (snapshot_time after)) after.lines)) ∙ known) in
        subst (λ (n : ℕ). written ≤ n) is (round_late place inside l l_is state versions skipped all told)
    turn_late _ _ (second_done time' versions skipped phase state all) replied known = absurd (not_second read_time time' (sym first ∙ phase))
    turn_late _ _ (blocked holder holders state) replied known = absurd (no_time read_time time x.phase first known)
    turn_late _ _ (resolves holder outcome state) replied known = absurd (no_time read_time time x.phase first known)
    turn_late _ _ (sleeps holder state) replied known = absurd (no_time read_time time x.phase first known)
    turn_late _ _ (asks holder outcome state) replied known = absurd (no_time read_time time x.phase first known)

  -- so it is for the snapshot that hears
  module _ (y : SnapSession) (time : ℕ) (d : SnapHeard s o x y) where
    abbrev hearing : Line
    hearing = line_at x.lines (slot_shard d.slot)

    hears : LineHears s d.slot x.lines (snap_awaits x x.phase) d.reply
    hears = b.heard.snap o d.slot x d.reply under d.hears

    awaited : snap_awaits x x.phase hearing ≡ Some (hears.target, hears.asked)
    awaited = ap (snap_awaits x x.phase) hears.found ∙ hears.awaited

    pub heard_late : snap_time y.phase ≡ Some time → written ≤ time
    heard_late known =
        turn_late hears.place hears.inside hearing hears.found hears.target hears.asked awaited time d.reply (snap_hears x hearing d.reply)
        (snap_case x hearing hears.target hears.asked d.reply awaited hears.fits) hears.replied
        (ap (λ (z : SnapSession). snap_time z.phase) (sym d.after) ∙ known)
