-- Each event keeps it that messages with shards are with those of the file, and name such alone.
use Rattle.std.proofs.Common.{◌≡◌, ◌⊎◌, inl, inr, ℕ, zero, suc, ◌+◌, ◌-◌, ◌<◌, Bool, true, false, List, [], ◌∷◌, ◌++◌, length, get_or, Option, Some, None, refl, ap, sym, ◌∙◌, subst, arith}
use Rattle.std.proofs.lemmas.Bool.{true≢false}
use Rattle.truetime.specs.Reading.{Reading}
use Rattle.rss_names.specs.declared.attempt.Attempt.{Attempt}
use Rattle.rss_names.specs.declared.service.Target.{Target}
use Rattle.rss_names.specs.declared.service.Target.TheVariants.{Shard, Replica}
use Rattle.pipeline_lang.specs.Config.{home_of}
use Rattle.pipeline_lang.specs.declared.config.Config.{Config}
use Rattle.rss_wire.specs.Messages.{message_at}
use Rattle.rss_wire.specs.declared.envelope.Envelope.{Envelope}
use Rattle.rss_wire.specs.declared.message.Body.TheVariants as body
use Rattle.rss_wire.specs.declared.message.Message.{Message}
use Rattle.rss_wire.specs.declared.messages.Reply.{Reply}
use Rattle.rss_wire.specs.declared.messages.Request.{Request}
use Rattle.rss_wire.specs.declared.messages.Request.TheVariants as request
use Rattle.rss_tables.specs.Lines.{Line, decision_request, line_at, lines_of, shards_of, tells_decision}
use Rattle.rss_tables.specs.Outs.{Out, line_out, slot_shard}
use Rattle.rss_tables.specs.ShardRow.{Shard as ShardState, opening_shard}
use Rattle.rss_tables.specs.SnapshotSession.{SnapSession, snap_request, snap_starts}
use Rattle.rss_tables.specs.TransactionSession.{TxnSession, txn_request, txn_starts, written_keys}
use Rattle.rss_tables.specs.declared.lines.LineState.{LineState}
use Rattle.rss_tables.specs.declared.lines.LineState.TheVariants.{Awaiting, Answered, Inquiring, Resolving, Asleep, Dropped}
use Rattle.rss_tables.specs.declared.phases.SnapPhase.{SnapPhase}
use Rattle.rss_tables.specs.declared.phases.SnapPhase.TheVariants as snap
use Rattle.rss_tables.specs.declared.phases.TxnPhase.{TxnPhase}
use Rattle.rss_tables.specs.declared.phases.TxnPhase.TheVariants as phase
use Rattle.rss_machine.specs.Effect.{least_shard}
use Rattle.rss_machine.specs.Moves.{serves_shard}
use Rattle.rss_machine.specs.State.{State, Owner, owner_at, shard_at}
use Rattle.rss_machine.specs.declared.session.Session.TheVariants as session
use Rattle.world_laws.specs.NamedKeys.{NamesKeys}
use Rattle.world_laws.proofs.Looks.{looks}
use Rattle.session_laws.specs.Awaits.{awaited_by, txn_awaits, snap_awaits}
use Rattle.session_laws.specs.Frames.{IsLine, nth_line}
use Rattle.shard_event_laws.specs.Events.{Event, aside, begins_txn, begins_snapshot, txn_hears_one, snap_hears_one, txn_wakes_one, snap_wakes_one, txn_passes_time, sends_again, serves_one, stub_asks, stub_tells, left_to_await, Turns, SendsAgain, WasAsked}
use Rattle.world_laws.specs.Exchanges.{is_replica}
use Rattle.shard_event_laws.specs.Facts.{is_with_shards, Sends, SameShards, OneOwner, Aside, no_out}
use Rattle.shard_event_laws.specs.Known.{Known}
use Rattle.txn_state_laws.specs.Awaited.{LineHears, AnswersHeard}
use Rattle.txn_state_laws.specs.Framed.{LinesFit, AllFramed, StubFramed}
use Rattle.txn_state_laws.proofs.Grows.{txn_is, snap_is}
use Rattle.txn_state_laws.proofs.Replies.{event_does}
use Rattle.txn_state_laws.proofs.Serves.{goes, stays, serves, ShardGoes}
use Rattle.txn_session_laws.specs.Standing.{UnderWay}
use Rattle.txn_session_laws.proofs.FramedOwners.{one_cases, one_there, Stands, stays_with, stays_without, is_new, is_none, aside_cases, txn_or_snap, txn_or_settling, snap_or_settling, idle_or_txn, idle_or_snap}
use Rattle.txn_session_laws.proofs.Framed.{not_with}
use Rattle.txn_session_laws.proofs.FramedTurns.{waking_is, turned_session}
use Rattle.txn_session_laws.proofs.UnderWay.{under_way_hears, under_way_keeps}
use Rattle.target_laws.specs.InFile.{InFile, RequestIn, ReplyIn, BodyIn, MessageIn, TargetIn, OutIn, OutsIn, LineIn, LinesIn, ShardIn, TargetsIn}
use Rattle.target_laws.proofs.Rows.{after_in, reply_in}
use Rattle.target_laws.proofs.Turns.{OnShards, ShardsIn, FineTxn, coordinator_is, asks_in, snap_asks_in, tells_in, fine_hears, fine_wakes, fine_passes, snap_hears_fine, snap_wakes_fine, lines_begin}

-- LINES BY THEIR PLACES

pub place_in : (c : Config) (lines : List Line) (place : ℕ) → place < length lines → LinesIn c lines → LineIn c (nth_line lines place)
place_in c [] place l h = absurd (omega (arith, l))
place_in c (x ∷ lines) zero l h = h.0
place_in c (x ∷ lines) (suc place) l h = place_in c lines place (omega (arith, l)) h.1

line_in : (c : Config) (lines : List Line) (l : Line) → IsLine lines l → LinesIn c lines → LineIn c l
line_in c lines l is h = subst (LineIn c) is.at (place_in c lines is.place is.inside h)

on_shards : (c : Config) (lines : List Line) → ((place : ℕ) → place < length lines → InFile c (nth_line lines place).shard) → OnShards c lines
on_shards c [] h = tt
on_shards c (l ∷ lines) h = (h 0 (omega arith), on_shards c lines (λ place i. h (suc place) (omega (arith, i))))

shards_on : (c : Config) (lines : List Line) → ((place : ℕ) → place < length lines → InFile c (nth_line lines place).shard) → ShardsIn c (shards_of lines)
shards_on c [] h = tt
shards_on c (l ∷ lines) h = (h 0 (omega arith), shards_on c lines (λ place i. h (suc place) (omega (arith, i))))

fit_on : (c : Config) (lines : List Line) → LinesFit c lines → (place : ℕ) → place < length lines → InFile c (nth_line lines place).shard
fit_on c lines h place i = (h.first place i, h.last place i)

-- MESSAGES

-- what is sent is as it was to be sent
out_at : (c : Config) (outs : List Out) (i : ℕ) → i < length outs → OutsIn c outs → OutIn c (get_or outs i no_out)
out_at c [] i l h = absurd (omega (arith, l))
out_at c (out ∷ outs) zero l h = h.0
out_at c (out ∷ outs) (suc i) l h = out_at c outs i (omega (arith, l)) h.1

out_message : (c : Config) (x : Message) (out : Out) → x.envelope.target ≡ out.target → x.body ≡ body.Request out.request → OutIn c out → MessageIn c x
out_message c x out e f h shard g = (subst (TargetIn c) (sym e ∙ g) h.target, subst (BodyIn c) (sym f) h.request)

same_message : (c : Config) (x y : Message) → y.envelope ≡ x.envelope → y.body ≡ x.body → MessageIn c x → MessageIn c y
same_message c x y e f h shard g = let k = h shard (ap (λ (v : Envelope). v.target) (sym e) ∙ g) in (k.0, subst (BodyIn c) (sym f) k.1)

old_or_new : (m n k : ℕ) → m < n + k → (m < n) ⊎ ((m - n < k) × (n + (m - n) ≡ m))
old_or_new m n k l = grind (arith, l)

-- each request that is to be sent makes such a message
abbrev Sendable : Config → List Out → Type 0
Sendable c outs = (i : ℕ) → i < length outs → (x : Message) → x.envelope.target ≡ (get_or outs i no_out).target → x.body ≡ body.Request (get_or outs i no_out).request → MessageIn c x

sendable : (c : Config) (outs : List Out) → OutsIn c outs → Sendable c outs
sendable c outs k i l x e f = out_message c x (get_or outs i no_out) e f (out_at c outs i l k)

sent_messages : (c : Config) (s t : State) (o : ℕ) (outs : List Out) → Sends s t o outs → Sendable c outs → ((m : ℕ) → 0 < m → m < length s.net → MessageIn c (message_at s.net m)) → (m : ℕ) → 0 < m → m < length t.net → MessageIn c (message_at t.net m)
sent_messages c s t o outs d k h m z l = by_place (old_or_new m (length s.net) (length outs) (let e = d.count in omega (arith, l, e)))
  where
    by_place : (m < length s.net) ⊎ ((m - length s.net < length outs) × (length s.net + (m - length s.net) ≡ m)) → MessageIn c (message_at t.net m)
    by_place (inl i) = same_message c (message_at s.net m) (message_at t.net m) (d.grows.envelopes m i) (d.grows.bodies m i) (h m z i)
    by_place (inr i) =
        let a = d.each (m - length s.net) i.0 in
        subst (λ (n : ℕ). MessageIn c (message_at t.net n)) i.1 (k (m - length s.net) i.0 (message_at t.net (length s.net + (m - length s.net))) a.target a.says)

-- a message with a replica is none with a shard
replica_message : (c : Config) (x : Message) → is_replica x.envelope.target ≡ true → MessageIn c x
replica_message c x e shard g = absurd (true≢false (sym e ∙ ap is_replica g))

-- SESSIONS

-- one owner becomes one with such lines, and the others stay
sessions_one : (c : Config) (s t : State) (o : ℕ) (w : Owner) → OneOwner s t o w → ((x : TxnSession) → w.session ≡ session.Transaction x → LinesIn c x.lines) → (h : TargetsIn c s) → (i : ℕ) (x : TxnSession) → (owner_at t i).session ≡ session.Transaction x → LinesIn c x.lines
sessions_one c s t o w one own h i x = by_cases (one_cases s t o w one i)
  where
    by_cases : ((owner_at t i ≡ w) × (i ≡ o)) ⊎ (owner_at t i ≡ owner_at s i) → (owner_at t i).session ≡ session.Transaction x → LinesIn c x.lines
    by_cases (inl e) f = own x (ap (λ (v : Owner). v.session) (sym e.0) ∙ f)
    by_cases (inr e) f = h.txn i x (ap (λ (v : Owner). v.session) (sym e) ∙ f)

snapshots_one : (c : Config) (s t : State) (o : ℕ) (w : Owner) → OneOwner s t o w → ((x : SnapSession) → w.session ≡ session.Snapshot x → LinesIn c x.lines) → (h : TargetsIn c s) → (i : ℕ) (x : SnapSession) → (owner_at t i).session ≡ session.Snapshot x → LinesIn c x.lines
snapshots_one c s t o w one own h i x = by_cases (one_cases s t o w one i)
  where
    by_cases : ((owner_at t i ≡ w) × (i ≡ o)) ⊎ (owner_at t i ≡ owner_at s i) → (owner_at t i).session ≡ session.Snapshot x → LinesIn c x.lines
    by_cases (inl e) f = own x (ap (λ (v : Owner). v.session) (sym e.0) ∙ f)
    by_cases (inr e) f = h.snap i x (ap (λ (v : Owner). v.session) (sym e) ∙ f)

-- shards stay, one owner changes and sends requests
goes_on : (c : Config) (s t : State) (o : ℕ) (w : Owner) (outs : List Out) → SameShards s t → OneOwner s t o w → Sends s t o outs → Sendable c outs → ((x : TxnSession) → w.session ≡ session.Transaction x → LinesIn c x.lines) → ((x : SnapSession) → w.session ≡ session.Snapshot x → LinesIn c x.lines) → TargetsIn c s → TargetsIn c t
goes_on c s t o w outs same one d k a b h = record {
  messages = sent_messages c s t o outs d k h.messages;
  shards = λ n. subst (λ (xs : List ShardState). ShardIn c (get_or xs (n - 1) (opening_shard []))) (sym same.shards) (h.shards n);
  txn = sessions_one c s t o w one a h;
  snap = snapshots_one c s t o w one b h;
}

txn_turns_on : (c : Config) (s t : State) (o : ℕ) (anew : Bool) (currents : List (Option ℕ)) (y : TxnSession) (outs : List Out) (end : Option ℕ) → Turns s t o anew currents (session.Transaction y) outs end → LinesIn c y.lines → OutsIn c outs → TargetsIn c s → TargetsIn c t
txn_turns_on c s t o anew currents y outs end turns lines k h =
    let e = turned_session s o (left_to_await anew currents) (session.Transaction y) outs end in
    goes_on c s t o _ outs turns.same turns.owned turns.sends (sendable c outs k) (λ x f. subst (λ (z : TxnSession). LinesIn c z.lines) (txn_is y x (sym e ∙ f)) lines) (λ x f. txn_or_snap _ y x e f) h

snap_turns_on : (c : Config) (s t : State) (o : ℕ) (anew : Bool) (currents : List (Option ℕ)) (y : SnapSession) (outs : List Out) (end : Option ℕ) → Turns s t o anew currents (session.Snapshot y) outs end → LinesIn c y.lines → OutsIn c outs → TargetsIn c s → TargetsIn c t
snap_turns_on c s t o anew currents y outs end turns lines k h =
    let e = turned_session s o (left_to_await anew currents) (session.Snapshot y) outs end in
    goes_on c s t o _ outs turns.same turns.owned turns.sends (sendable c outs k) (λ x f. txn_or_snap _ x y f e) (λ x f. subst (λ (z : SnapSession). LinesIn c z.lines) (snap_is y x (sym e ∙ f)) lines) h

-- WHAT IS HEARD

-- a line awaits a shard
abbrev NoReplica : Target → Type 0
NoReplica target = is_replica target ≡ false

none_some : {A : Type 0} {B : Type 0} (a : A) → None ≡ Some a → B
none_some a e = absurd cc

abbrev target_of : Option (Target × Request) → Target
target_of None = Shard 0
target_of (Some x) = x.0

target_is : (a b : Target) (q r : Request) → ◌≡◌ {A = Option (Target × Request)} (Some (a, q)) (Some (b, r)) → a ≡ b
target_is a b q r e = ap target_of e

awaits_shard : (st : LineState) (shard : ℕ) (q : Request) (target : Target) (asked : Request) → awaited_by st shard q ≡ Some (target, asked) → NoReplica target
awaits_shard Awaiting shard q target asked e = subst NoReplica (target_is (Shard shard) target q asked e) refl
awaits_shard Answered shard q target asked e = none_some (target, asked) e
awaits_shard (Inquiring holder) shard q target asked e = subst NoReplica (target_is (Shard holder.coordinator) target (request.Inquire holder.attempt) asked e) refl
awaits_shard (Resolving holder outcome) shard q target asked e = subst NoReplica (target_is (Shard shard) target (decision_request holder.attempt outcome) asked e) refl
awaits_shard (Asleep holder) shard q target asked e = none_some (target, asked) e
awaits_shard Dropped shard q target asked e = none_some (target, asked) e

txn_awaits_shard : (x : TxnSession) (p : TxnPhase) (l : Line) (target : Target) (asked : Request) → txn_awaits x p l ≡ Some (target, asked) → NoReplica target
txn_awaits_shard x phase.Locking l target asked e = awaits_shard l.state l.shard (txn_request x phase.Locking l) target asked e
txn_awaits_shard x phase.Preparing l target asked e = awaits_shard l.state l.shard (txn_request x phase.Preparing l) target asked e
txn_awaits_shard x (phase.Freeing time) l target asked e = awaits_shard l.state l.shard (txn_request x (phase.Freeing time) l) target asked e
txn_awaits_shard x (phase.FreeingLast time) l target asked e = awaits_shard l.state l.shard (txn_request x (phase.FreeingLast time) l) target asked e
txn_awaits_shard x (phase.Deciding time) l target asked e = awaits_shard l.state l.shard (txn_request x (phase.Deciding time) l) target asked e
txn_awaits_shard x phase.Undoing l target asked e = awaits_shard l.state l.shard (txn_request x phase.Undoing l) target asked e
txn_awaits_shard x (phase.Waiting time) l target asked e = none_some (target, asked) e
txn_awaits_shard x (phase.Committed time) l target asked e = none_some (target, asked) e
txn_awaits_shard x (phase.Failed time) l target asked e = none_some (target, asked) e

snap_awaits_shard : (x : SnapSession) (p : SnapPhase) (l : Line) (target : Target) (asked : Request) → snap_awaits x p l ≡ Some (target, asked) → NoReplica target
snap_awaits_shard x (snap.First time) l target asked e = awaits_shard l.state l.shard (snap_request x (snap.First time) l) target asked e
snap_awaits_shard x (snap.Second time) l target asked e = awaits_shard l.state l.shard (snap_request x (snap.Second time) l) target asked e
snap_awaits_shard x (snap.Done time) l target asked e = none_some (target, asked) e

-- so the reply that it hears names coordinators of the file
heard_in : (c : Config) (s : State) (slot : ℕ) (lines : List Line) (awaits : Line → Option (Target × Request)) (r : Reply) → ((l : Line) (target : Target) (asked : Request) → awaits l ≡ Some (target, asked) → NoReplica target) → LineHears s slot lines awaits r → TargetsIn c s → ReplyIn c r
heard_in c s slot lines awaits r shard l h = by_target l.target refl (shard (nth_line lines l.place) l.target l.asked l.awaited)
  where
    by_target : (target : Target) → l.target ≡ target → NoReplica l.target → ReplyIn c r
    by_target (Replica service replica) e n = absurd (true≢false (sym (ap is_replica e) ∙ n))
    by_target (Shard number) e n =
        let is = l.replied.is in
        subst (BodyIn c) is.says (h.messages l.replied.message is.numbered is.sent number (is.from ∙ e)).1

line_heard : (c : Config) (s : State) (slot : ℕ) (lines : List Line) (awaits : Line → Option (Target × Request)) (r : Reply) → LineHears s slot lines awaits r → LinesIn c lines → LineIn c (line_at lines (slot_shard slot))
line_heard c s slot lines awaits r l h = subst (LineIn c) (sym l.found) (place_in c lines l.place l.inside h)

-- ASIDE

aside_in : (c : Config) (s t : State) → Aside c s t → TargetsIn c s → TargetsIn c t
aside_in c s t a h = record {
  messages = messages;
  shards = λ n. subst (λ (xs : List ShardState). ShardIn c (get_or xs (n - 1) (opening_shard []))) (sym a.same.shards) (h.shards n);
  txn = λ o x. txn_case o x (aside_cases c s t a o);
  snap = λ o x. snap_case o x (aside_cases c s t a o);
}
  where
    messages : (m : ℕ) → 0 < m → m < length t.net → MessageIn c (message_at t.net m)
    messages m z l = by_place (old_or_new m (length s.net) (length t.net) (omega (arith, l)))
      where
        by_place : (m < length s.net) ⊎ ((m - length s.net < length t.net) × (length s.net + (m - length s.net) ≡ m)) → MessageIn c (message_at t.net m)
        by_place (inl i) = same_message c (message_at s.net m) (message_at t.net m) (a.net.envelopes m i) (a.net.bodies m i) (h.messages m z i)
        by_place (inr i) = replica_message c (message_at t.net m) (a.sent m (let e = i.1 in omega (arith, e)) l)

    txn_case : (o : ℕ) (x : TxnSession) → Stands c s t o → (owner_at t o).session ≡ session.Transaction x → LinesIn c x.lines
    txn_case o x (stays_with b g) e = h.txn o x (sym g.session ∙ e)
    txn_case o x (stays_without b g) e = absurd (not_with (owner_at t o).session (session.Transaction x) g.none refl e)
    txn_case o x (is_new b g) e = absurd (not_with (owner_at t o).session (session.Transaction x) g.none refl e)
    txn_case o x (is_none b g) e = absurd (not_with (owner_at t o).session (session.Transaction x) (ap (λ (w : Owner). is_with_shards w.session) g) refl e)

    snap_case : (o : ℕ) (x : SnapSession) → Stands c s t o → (owner_at t o).session ≡ session.Snapshot x → LinesIn c x.lines
    snap_case o x (stays_with b g) e = h.snap o x (sym g.session ∙ e)
    snap_case o x (stays_without b g) e = absurd (not_with (owner_at t o).session (session.Snapshot x) g.none refl e)
    snap_case o x (is_new b g) e = absurd (not_with (owner_at t o).session (session.Snapshot x) g.none refl e)
    snap_case o x (is_none b g) e = absurd (not_with (owner_at t o).session (session.Snapshot x) (ap (λ (w : Owner). is_with_shards w.session) g) refl e)

-- A SHARD SERVES

serves_in : (c : Config) (at : Reading) (s t : State) (m shard : ℕ) (q : Request) → Event c at s t → WasAsked s m shard q → t ≡ serves_shard s m shard at.latest q → TargetsIn c s → TargetsIn c t
serves_in c at s t m shard q event w d h = record {
  messages = subst (λ (u : State). (i : ℕ) → 0 < i → i < length u.net → MessageIn c (message_at u.net i)) (sym d) messages;
  shards = λ n. by_shard n (goes s t at.latest (event_does c at s t event) n);
  txn = λ o x e. h.txn o x (ap (λ (v : State). (owner_at v o).session) (sym d) ∙ e);
  snap = λ o x e. h.snap o x (ap (λ (v : State). (owner_at v o).session) (sym d) ∙ e);
}
  where
    here : InFile c shard × BodyIn c (message_at s.net m).body
    here = h.messages m w.numbered w.sent shard w.to

    asked : RequestIn c q
    asked = subst (BodyIn c) w.asks here.1

    messages : (i : ℕ) → 0 < i → i < length (serves_shard s m shard at.latest q).net → MessageIn c (message_at (serves_shard s m shard at.latest q).net i)
    messages i z l = more c s.net _ i (λ j y k. h.messages j y k) (λ number g. (subst (TargetIn c) (sym w.to ∙ g) here.0, reply_in c (shard_at s shard) at.latest q asked (h.shards shard))) z l
      where
        more : (c : Config) (net : List Message) (x : Message) (i : ℕ) → ((j : ℕ) → 0 < j → j < length net → MessageIn c (message_at net j)) → MessageIn c x → 0 < i → i < length (net ++ x ∷ []) → MessageIn c (message_at (net ++ x ∷ []) i)
        more c net x i old k z l = by_place (place net x i l)
          where
            place : (net : List Message) (x : Message) (i : ℕ) → i < length (net ++ x ∷ []) → ((message_at (net ++ x ∷ []) i ≡ message_at net i) × (i < length net)) ⊎ (message_at (net ++ x ∷ []) i ≡ x)
            place net x i l = grind (arith, looks, l)

            by_place : ((message_at (net ++ x ∷ []) i ≡ message_at net i) × (i < length net)) ⊎ (message_at (net ++ x ∷ []) i ≡ x) → MessageIn c (message_at (net ++ x ∷ []) i)
            by_place (inl e) = subst (MessageIn c) (sym e.0) (old i z e.1)
            by_place (inr e) = subst (MessageIn c) (sym e) k

    by_shard : (n : ℕ) → ShardGoes s t at.latest n → ShardIn c (shard_at t n)
    by_shard n (stays e) = subst (ShardIn c) (sym e) (h.shards n)
    by_shard n (serves v) =
        let a = v.asked in
        let k = h.messages v.message a.numbered a.sent v.shard a.to in
        subst (ShardIn c) (sym v.now) (after_in c (shard_at s n) at.latest v.request (subst (BodyIn c) a.asks k.1) (h.shards n))

-- EACH EVENT

-- the shards that a stub settles at
stub_shards : (c : Config) (s : State) (a : Attempt) (shards : List ℕ) → AllFramed c s → StubFramed s a shards → ShardsIn c shards × InFile c (least_shard shards)
stub_shards c s a shards f stub =
    let lines = stub.txn.lines in
    let fit = (f.txn a.call stub.txn stub.of.under_way).lines in
    let e = stub.shards_are in
    (subst (ShardsIn c) (sym e) (shards_on c lines (fit_on c lines fit)), subst (λ (xs : List ℕ). InFile c (least_shard xs)) (sym e) (first_shard lines fit.some (fit_on c lines fit)))
  where
    first_shard : (lines : List Line) → 0 < length lines → ((place : ℕ) → place < length lines → InFile c (nth_line lines place).shard) → InFile c (least_shard (shards_of lines))
    first_shard [] z h = absurd (omega (arith, z))
    first_shard (l ∷ lines) z h = h 0 (omega arith)

pub targets_keep : (c : Config) (names : NamesKeys c) (at : Reading) (s t : State) → Known at s → Event c at s t → UnderWay c s → TargetsIn c s → TargetsIn c t
targets_keep c names at s t known event u h = by_event event
  where
    heard : AnswersHeard s
    heard = under_way_hears c at s known u

    after : UnderWay c t
    after = under_way_keeps c at s t names known event u

    fine : (o : ℕ) (x : TxnSession) → (owner_at s o).session ≡ session.Transaction x → FineTxn c x
    fine o x e = record { some = (u.framed.txn o x e).lines.some; lines = h.txn o x e }

    -- a request that is sent again was sent before
    again : (o slot : ℕ) (target : Target) (r : Request) (a : SendsAgain s t o slot target r) → Sendable c (record { slot = Some slot; target = target; request = r } ∷ [])
    again o slot target r a zero l x e f shard g = let k = h.messages a.exchange a.numbered a.sent shard (a.to ∙ (sym e ∙ g)) in (k.0, subst (BodyIn c) (sym f) (subst (BodyIn c) a.asked k.1))
    again o slot target r a (suc i) l x e f shard g = absurd (omega (arith, l))

    by_event : Event c at s t → TargetsIn c t
    by_event (aside a) = aside_in c s t a h
    by_event (begins_txn o reads guard writes x k d l) =
        let e : x.lines ≡ lines_of (home_of c) reads (written_keys writes) = ap (λ (z : TxnSession). z.lines) d in
        let fit = (after.framed.txn o x (ap (λ (v : Owner). v.session) (one_there s t o _ l.owned))).lines in
        let lines : LinesIn c x.lines = subst (LinesIn c) (sym e) (lines_begin c (home_of c) reads (written_keys writes) (subst (OnShards c) e (on_shards c x.lines (fit_on c x.lines fit)))) in
        goes_on c s t o _ _ l.same l.owned l.sends (sendable c (txn_starts x).outs (asks_in c x x.lines (coordinator_is c x.lines fit.some lines) lines)) (λ y f. subst (λ (z : TxnSession). LinesIn c z.lines) (txn_is x y f) lines) (λ y f. txn_or_snap (session.Transaction x) x y refl f) h
    by_event (begins_snapshot o keys x k d l) =
        let e : x.lines ≡ lines_of (home_of c) keys [] = ap (λ (z : SnapSession). z.lines) d in
        let fit = (after.framed.snap o x (ap (λ (v : Owner). v.session) (one_there s t o _ l.owned))).lines in
        let lines : LinesIn c x.lines = subst (LinesIn c) (sym e) (lines_begin c (home_of c) keys [] (subst (OnShards c) e (on_shards c x.lines (fit_on c x.lines fit)))) in
        goes_on c s t o _ _ l.same l.owned l.sends (sendable c (snap_starts x).outs (snap_asks_in c x x.lines lines)) (λ y f. txn_or_snap (session.Snapshot x) y x f refl) (λ y f. subst (λ (z : SnapSession). LinesIn c z.lines) (snap_is x y f) lines) h
    by_event (txn_hears_one o slot x r e g turns) =
        let l = heard.txn o slot x r e g in
        let f = fine_hears c x (line_at x.lines (slot_shard slot)) at r (line_heard c s slot x.lines (txn_awaits x x.phase) r l (h.txn o x e)) (heard_in c s slot x.lines (txn_awaits x x.phase) r (txn_awaits_shard x x.phase) l h) (fine o x e) in
        txn_turns_on c s t o _ _ _ _ _ turns f.lines f.outs h
    by_event (snap_hears_one o slot x r e g turns) =
        let l = heard.snap o slot x r e g in
        let f = snap_hears_fine c x (line_at x.lines (slot_shard slot)) r (line_heard c s slot x.lines (snap_awaits x x.phase) r l (h.snap o x e)) (heard_in c s slot x.lines (snap_awaits x x.phase) r (snap_awaits_shard x x.phase) l h) (h.snap o x e) in
        snap_turns_on c s t o _ _ _ _ _ turns f.lines f.outs h
    by_event (txn_wakes_one o x l e w turns) =
        let f = fine_wakes c x l (line_in c x.lines l (waking_is s x.lines l w).0 (h.txn o x e)) (fine o x e) in
        txn_turns_on c s t o _ _ _ _ _ turns f.lines f.outs h
    by_event (snap_wakes_one o x l e w turns) =
        let f = snap_wakes_fine c x l (line_in c x.lines l (waking_is s x.lines l w).0 (h.snap o x e)) (h.snap o x e) in
        snap_turns_on c s t o _ _ _ _ _ turns f.lines f.outs h
    by_event (txn_passes_time o time x e w p turns) =
        let f = fine_passes c x x.phase (fine o x e) in
        txn_turns_on c s t o _ _ _ _ _ turns f.lines f.outs h
    by_event (sends_again o slot target r a) = goes_on c s t o _ _ a.same a.owned a.sends (again o slot target r a) (λ y e. h.txn o y e) (λ y e. h.snap o y e) h
    by_event (serves_one m shard q w d) = serves_in c at s t m shard q event w d h
    by_event (stub_asks o a shards k n e l) =
        let b = stub_shards c s a shards u.framed (u.framed.stub o a shards k) in
        goes_on c s t o l.owner _ l.same l.owned l.sends (sendable c (line_out (least_shard shards) (request.Decide a false 0) ∷ []) (record { target = b.1; request = tt }, tt)) (λ y f. txn_or_settling l.owner.session y a shards f l.session) (λ y f. snap_or_settling l.owner.session y a shards f l.session) h
    by_event (stub_tells o slot a shards outcome e g l) =
        let b = stub_shards c s a shards u.framed (u.framed.stub o a shards (u.framed.settles o a shards e)) in
        goes_on c s t o l.owner _ l.same l.owned l.sends (sendable c (tells_decision a outcome shards) (tells_in c a outcome shards b.0)) (λ y f. idle_or_txn l.owner.session y l.session f) (λ y f. idle_or_snap l.owner.session y l.session f) h
