-- What is awaited is kept by each event, and so is how lines stand where the coordinator alone is asked.
use Rattle.std.proofs.Common.{◌≡◌, ℕ, ◌<◌, true, List, [], length, get_or, Option, Some, None, refl, sym, ap, ◌∙◌, subst, arith}
use Rattle.std.proofs.lemmas.Bool.{true≢false}
use Rattle.truetime.specs.Reading.{Reading}
use Rattle.rss_names.specs.declared.service.Key.{Key}
use Rattle.rss_names.specs.declared.service.Target.{Target}
use Rattle.pipeline_lang.specs.Config.{home_of}
use Rattle.pipeline_lang.specs.declared.config.Config.{Config}
use Rattle.pipeline_lang.specs.declared.script.Compare.{Compare}
use Rattle.pipeline_lang.specs.declared.script.Expr.{Expr}
use Rattle.rss_wire.specs.declared.messages.Holder.{Holder}
use Rattle.rss_wire.specs.declared.messages.Request.{Request}
use Rattle.rss_tables.specs.Lines.{Line, no_line, line_at, lines_of, asleep_on, woken_state, woken_outs, in_state}
use Rattle.rss_tables.specs.Outs.{line_slot, slot_shard}
use Rattle.rss_tables.specs.ShardRow.{shard_reply}
use Rattle.rss_tables.specs.SnapshotSession.{SnapSession, opening_snapshot, snap_starts, snap_request, snap_hears, snap_wakes, snap_line_goes, snap_end}
use Rattle.rss_tables.specs.TransactionSession.{TxnSession, opening_txn, written_keys, txn_starts, txn_hears, txn_wakes, txn_passes, waiting_time, line_goes, txn_request, txn_end}
use Rattle.rss_tables.specs.declared.lines.LineState.{LineState}
use Rattle.rss_tables.specs.declared.lines.LineState.TheVariants.{Awaiting, Answered, Inquiring, Resolving, Asleep, Dropped}
use Rattle.rss_tables.specs.declared.phases.SnapPhase.{SnapPhase}
use Rattle.rss_tables.specs.declared.phases.SnapPhase.TheVariants.{First, Second, Done}
use Rattle.rss_tables.specs.declared.phases.TxnPhase.{TxnPhase}
use Rattle.rss_tables.specs.declared.phases.TxnPhase.TheVariants as phase
use Rattle.rss_machine.specs.Enabling.{can_wake, is_decided_at}
use Rattle.rss_machine.specs.State.{State, owner_at, shard_at}
use Rattle.rss_wire.specs.Messages.{reply_envelope}
use Rattle.rss_wire.specs.declared.message.Body.TheVariants as body
use Rattle.rss_wire.specs.declared.message.Message.{Message}
use Rattle.rss_wire.specs.declared.message.Fate.TheVariants.{Pending}
use Rattle.world_laws.proofs.Looks.{none_is_not, some_is_not}
use Rattle.reg_laws.proofs.Awaiting.{current_less}
use Rattle.session_laws.specs.Awaits.{awaited_by, txn_awaits, snap_awaits}
use Rattle.session_laws.specs.Cases.{TxnTurn}
use Rattle.session_laws.specs.Frames.{nth_line, IsLine, AreApartShards}
use Rattle.session_laws.specs.SnapCases.{SnapTurn}
use Rattle.session_laws.proofs.Frames.{lines_of_opened}
use Rattle.session_laws.proofs.SnapCases.{snap_case}
use Rattle.session_laws.proofs.TxnCases.{txn_case, none_awaited}
use Rattle.shard_event_laws.specs.Events.{Event, aside, begins_txn, begins_snapshot, txn_hears_one, snap_hears_one, txn_wakes_one, snap_wakes_one, txn_passes_time, sends_again, serves_one, stub_asks, stub_tells}
use Rattle.shard_event_laws.specs.Facts.{no_out}
use Rattle.shard_event_laws.specs.Known.{Known}
use Rattle.txn_state_laws.specs.Awaited.{LineAwaits, AllAwaited, AnswersHeard}
use Rattle.txn_state_laws.specs.Framed.{LinesFit, AllFramed}
use Rattle.txn_session_laws.specs.Standing.{is_led, TxnLed, AllLed}
use Rattle.txn_session_laws.proofs.FramedTurns.{waking_is, heard_line}
use Rattle.txn_session_laws.proofs.Currents.{SlotAwaits, ends_turn}
use Rattle.txn_session_laws.proofs.Requests.{is_asking, asking_awaits, awaiting_asks, asked_await}
use Rattle.txn_session_laws.proofs.Led.{led_sleeps}
use Rattle.txn_session_laws.proofs.TxnAwaits.{TxnTurnAwaits, inquires_line, turn_awaits}
use Rattle.txn_session_laws.proofs.SnapAwaits.{SnapTurnAwaits, snap_inquires, snap_turn_awaits}
use Rattle.txn_session_laws.proofs.SnapAwaits as snap
use Rattle.txn_session_laws.proofs.Awaited.{awaited_stays, awaited_aside, answered_grows, awaited_txn, awaited_snap, awaited_begins, awaited_begins_snap, awaited_again, awaited_asks, awaited_tells}

-- a line that can wake sleeps
pub record Sleeps (l : Line) : Type 0 where
  pub holder : Holder
  pub is : l.state ≡ Asleep holder

pub can_wake_sleeps : (s : State) (l : Line) → can_wake s l ≡ true → Sleeps l
can_wake_sleeps s l e = by_state l.state refl e
  where
    by_state : (st : LineState) → l.state ≡ st → is_decided_at s (asleep_on st) ≡ true → Sleeps l
    by_state (Asleep holder) f g = record { holder = holder; is = f }
    by_state Awaiting f g = absurd (true≢false (sym g))
    by_state Answered f g = absurd (true≢false (sym g))
    by_state (Inquiring holder) f g = absurd (true≢false (sym g))
    by_state (Resolving holder outcome) f g = absurd (true≢false (sym g))
    by_state Dropped f g = absurd (true≢false (sym g))

-- what a line has heard is not current any more, and the other lines keep theirs
slots_apart : (lines : List Line) (slot i place : ℕ) (l : Line) → slot ≡ line_slot (nth_line lines place).shard → nth_line lines place ≡ l → (i ≡ slot → ⊥) → i ≡ line_slot l.shard → ⊥
slots_apart lines slot i place l e f n g = n (g ∙ ap (λ (m : Line). line_slot m.shard) (sym f) ∙ sym e)

-- a line that sleeps awaits nothing
sleeping_slot : (net : List Message) (o slot m : ℕ) (lines : List Line) (awaits : Line → Option (Target × Request)) (l : Line) → IsLine lines l → AreApartShards lines → ((target : Target) (q : Request) → awaits l ≡ Some (target, q) → ⊥) → LineAwaits net o slot m lines awaits → slot ≡ line_slot l.shard → ⊥
sleeping_slot net o slot m lines awaits l is apart none a e =
    let f : (nth_line lines a.place).shard ≡ (nth_line lines is.place).shard = (let g = a.of_line in let d : l.shard ≡ (nth_line lines is.place).shard = ap (λ (k : Line). k.shard) (sym is.at) in omega (arith, e, g, d)) in
    let p : a.place ≡ is.place = apart a.place is.place a.inside is.inside f in
    none a.target a.asked (ap awaits (sym is.at) ∙ ap (λ (i : ℕ). awaits (nth_line lines i)) (sym p) ∙ a.awaited)

txn_sleeps_none : (x : TxnSession) (l : Line) (holder : Holder) → l.state ≡ Asleep holder → (target : Target) (q : Request) → txn_awaits x x.phase l ≡ Some (target, q) → ⊥
txn_sleeps_none x l holder s target q e = none_awaited (target, q)
    (sym (ap (λ (st : LineState). awaited_by st l.shard (txn_request x x.phase l)) s) ∙ sym (asking_awaits x x.phase l (awaiting_asks x x.phase l target q e)) ∙ e)

snap_sleeps_none : (x : SnapSession) (l : Line) (holder : Holder) → l.state ≡ Asleep holder → (target : Target) (q : Request) → snap_awaits x x.phase l ≡ Some (target, q) → ⊥
snap_sleeps_none x l holder s target q e = by_phase x.phase e
  where
    by_phase : (p : SnapPhase) → snap_awaits x p l ≡ Some (target, q) → ⊥
    by_phase (First time) f = none_awaited (target, q) (sym (ap (λ (st : LineState). awaited_by st l.shard (snap_request x (First time) l)) s) ∙ f)
    by_phase (Second time) f = none_awaited (target, q) (sym (ap (λ (st : LineState). awaited_by st l.shard (snap_request x (Second time) l)) s) ∙ f)
    by_phase (Done time) f = none_awaited (target, q) f

-- a transaction of which a line sleeps is asking, or has ended
wakes_asking : (x : TxnSession) (l : Line) (holder : Holder) → TxnLed x → IsLine x.lines l → l.state ≡ Asleep holder → txn_end x.phase ≡ None → is_asking x.phase ≡ true
wakes_asking x l holder led is s e = by_phase x.phase refl e
  where
    by_phase : (p : TxnPhase) → x.phase ≡ p → txn_end p ≡ None → is_asking p ≡ true
    by_phase phase.Locking q f = refl
    by_phase phase.Preparing q f = refl
    by_phase (phase.Freeing time) q f = refl
    by_phase (phase.FreeingLast time) q f = refl
    by_phase (phase.Deciding time) q f = refl
    by_phase phase.Undoing q f = refl
    by_phase (phase.Waiting time) q f = led_sleeps x l holder led is (ap is_led q) s
    by_phase (phase.Committed time) q f = absurd (some_is_not time f)
    by_phase (phase.Failed time) q f = absurd (some_is_not time f)

txn_wake_awaits : (x : TxnSession) (l : Line) (holder : Holder) → TxnLed x → IsLine x.lines l → AreApartShards x.lines → l.state ≡ Asleep holder → TxnTurnAwaits x.lines (txn_awaits x x.phase) l (txn_wakes x l)
txn_wake_awaits x l holder led is apart s =
    subst (λ (st : LineState). TxnTurnAwaits x.lines (txn_awaits x x.phase) l (line_goes x (in_state l (woken_state st)) (woken_outs l.shard st))) (sym s) (inquires_line x l holder is apart (wakes_asking x l holder led is s))

snap_wake_awaits : (x : SnapSession) (l : Line) (holder : Holder) → IsLine x.lines l → l.state ≡ Asleep holder → SnapTurnAwaits x.lines (snap_awaits x x.phase) l (snap_wakes x l)
snap_wake_awaits x l holder is s =
    subst (λ (st : LineState). SnapTurnAwaits x.lines (snap_awaits x x.phase) l (snap_line_goes x (in_state l (woken_state st)) (woken_outs l.shard st))) (sym s) (snap_inquires x l holder is)

-- with the time that it waits for a call ends
pass_awaits : (x : TxnSession) (time : ℕ) (p : TxnPhase) → waiting_time x p ≡ Some time → TxnTurnAwaits x.lines (txn_awaits x x.phase) no_line (txn_passes x p)
pass_awaits x time (phase.Waiting until) e = ends_turn _ _ no_line _ _ _ _ until
pass_awaits x time phase.Locking e = absurd (none_is_not time e)
pass_awaits x time phase.Preparing e = absurd (none_is_not time e)
pass_awaits x time (phase.Freeing until) e = absurd (none_is_not time e)
pass_awaits x time (phase.FreeingLast until) e = absurd (none_is_not time e)
pass_awaits x time (phase.Deciding until) e = absurd (none_is_not time e)
pass_awaits x time phase.Undoing e = absurd (none_is_not time e)
pass_awaits x time (phase.Committed until) e = absurd (none_is_not time e)
pass_awaits x time (phase.Failed until) e = absurd (none_is_not time e)

none_of_line : (c : Config) (net : List Message) (o slot m : ℕ) (lines : List Line) (awaits : Line → Option (Target × Request)) → LinesFit c lines → LineAwaits net o slot m lines awaits → slot ≡ line_slot no_line.shard → ⊥
none_of_line c net o slot m lines awaits fit a e = (let g = a.of_line in let f = fit.first a.place a.inside in omega (arith, e, g, f))

-- what begins asks all its lines
opened_await : (home : ℕ → ℕ) (reads writes : List Key) (i : ℕ) → i < length (lines_of home reads writes) → (nth_line (lines_of home reads writes) i).state ≡ Awaiting
opened_await home reads writes i h = ap (λ (l : Line). l.state) (lines_of_opened home reads writes i h).opened

begins_await : (home : ℕ → ℕ) (o : ℕ) (reads : List Key) (guard : Option (Compare ℕ)) (writes : List (Key × Expr ℕ)) (least margin : ℕ) (x : TxnSession) → x ≡ opening_txn home o reads guard writes least margin
    → (i : ℕ) → i < length (txn_starts x).outs → (slot : ℕ) → (get_or (txn_starts x).outs i no_out).slot ≡ Some slot → SlotAwaits x.lines (txn_awaits x x.phase) slot (get_or (txn_starts x).outs i no_out).target (get_or (txn_starts x).outs i no_out).request
begins_await home o reads guard writes least margin x e = asked_await x x.lines (ap (λ (y : TxnSession). is_asking y.phase) e)
    (λ i h. record { place = i; inside = h; shard = refl; state = subst (λ (y : TxnSession). i < length y.lines → (nth_line y.lines i).state ≡ Awaiting) (sym e) (opened_await home reads (written_keys writes) i) h; request = refl })

begins_snap_await : (home : ℕ → ℕ) (o : ℕ) (keys : List Key) (least : ℕ) (at : Reading) (x : SnapSession) → x ≡ opening_snapshot home o keys least at
    → (i : ℕ) → i < length (snap_starts x).outs → (slot : ℕ) → (get_or (snap_starts x).outs i no_out).slot ≡ Some slot → SlotAwaits x.lines (snap_awaits x x.phase) slot (get_or (snap_starts x).outs i no_out).target (get_or (snap_starts x).outs i no_out).request
begins_snap_await home o keys least at x e = snap.asked_await x x.lines (ap (λ (y : SnapSession). snap_end y.phase) e)
    (λ i h. record { place = i; inside = h; shard = refl; state = subst (λ (y : SnapSession). i < length y.lines → (nth_line y.lines i).state ≡ Awaiting) (sym e) (opened_await home keys [] i) h; reads = refl })

-- each event
pub awaited_keeps : (c : Config) (at : Reading) (s t : State) → Known at s → AllFramed c s → AllLed s → AnswersHeard s → Event c at s t → AllAwaited s → AllAwaited t
awaited_keeps c at s t known framed led heard (aside a) h = awaited_aside c s t a h
awaited_keeps c at s t known framed led heard (begins_txn o reads guard writes x k d l) h = awaited_begins s t o (txn_starts x).outs x known.first l (begins_await (home_of c) o reads guard writes _ _ x d) h
awaited_keeps c at s t known framed led heard (begins_snapshot o keys x k d l) h = awaited_begins_snap s t o (snap_starts x).outs x known.first l (begins_snap_await (home_of c) o keys _ at x d) h
awaited_keeps c at s t known framed led heard (txn_hears_one o slot x r u r' turns) h =
    let l = heard.txn o slot x r u r' in
    let m : Line = line_at x.lines (slot_shard slot) in
    let awaited : txn_awaits x x.phase m ≡ Some (l.target, l.asked) = ap (txn_awaits x x.phase) l.found ∙ l.awaited in
    let turn : TxnTurn x m at r (txn_hears x m at r) = txn_case x m at l.target l.asked r awaited l.fits in
    awaited_txn s t o _ _ _ _ x _ m known.first turns
    (turn_awaits x m at r (txn_hears x m at r) (heard_line s slot x.lines (txn_awaits x x.phase) r l) (framed.txn o x u).lines.apart (framed.txn o x u).lines.some (led.txn o x u) (awaiting_asks x x.phase m l.target l.asked awaited) turn)
    (λ i j e. let less = current_less (owner_at s o).currents slot i j e in (h.txn o i j x u less.0, slots_apart x.lines slot i l.place m l.of_line (sym l.found) less.1)) h
awaited_keeps c at s t known framed led heard (snap_hears_one o slot x r u r' turns) h =
    let l = heard.snap o slot x r u r' in
    let m : Line = line_at x.lines (slot_shard slot) in
    let awaited : snap_awaits x x.phase m ≡ Some (l.target, l.asked) = ap (snap_awaits x x.phase) l.found ∙ l.awaited in
    let turn : SnapTurn x m r (snap_hears x m r) = snap_case x m l.target l.asked r awaited l.fits in
    awaited_snap s t o _ _ _ _ x _ m known.first turns
    (snap_turn_awaits x m r (snap_hears x m r) (heard_line s slot x.lines (snap_awaits x x.phase) r l) turn)
    (λ i j e. let less = current_less (owner_at s o).currents slot i j e in (h.snap o i j x u less.0, slots_apart x.lines slot i l.place m l.of_line (sym l.found) less.1)) h
awaited_keeps c at s t known framed led heard (txn_wakes_one o x l u w turns) h =
    let z = waking_is s x.lines l w in
    let sleeps = can_wake_sleeps s l z.1 in
    let apart = (framed.txn o x u).lines.apart in
    awaited_txn s t o _ _ _ _ x _ l known.first turns (txn_wake_awaits x l sleeps.holder (led.txn o x u) z.0 apart sleeps.is)
    (λ i j e. let a = h.txn o i j x u e in (a, sleeping_slot s.net o i j x.lines (txn_awaits x x.phase) l z.0 apart (txn_sleeps_none x l sleeps.holder sleeps.is) a)) h
awaited_keeps c at s t known framed led heard (snap_wakes_one o x l u w turns) h =
    let z = waking_is s x.lines l w in
    let sleeps = can_wake_sleeps s l z.1 in
    let apart = (framed.snap o x u).lines.apart in
    awaited_snap s t o _ _ _ _ x _ l known.first turns (snap_wake_awaits x l sleeps.holder z.0 sleeps.is)
    (λ i j e. let a = h.snap o i j x u e in (a, sleeping_slot s.net o i j x.lines (snap_awaits x x.phase) l z.0 apart (snap_sleeps_none x l sleeps.holder sleeps.is) a)) h
awaited_keeps c at s t known framed led heard (txn_passes_time o time x u w p turns) h =
    awaited_txn s t o _ _ _ _ x _ no_line known.first turns (pass_awaits x time x.phase w)
    (λ i j e. let a = h.txn o i j x u e in (a, none_of_line c s.net o i j x.lines (txn_awaits x x.phase) (framed.txn o x u).lines a)) h
awaited_keeps c at s t known framed led heard (sends_again o slot target r a) h = awaited_again s t o slot target r known.first a h
awaited_keeps c at s t known framed led heard (serves_one m shard q w d) h =
    awaited_stays s t (answered_grows s t (record { envelope = reply_envelope s.net m; body = body.Reply (shard_reply (shard_at s shard) at.latest q); fate = Pending }) (ap (λ (v : State). v.net) d)) (ap (λ (v : State). v.owners) d) h
awaited_keeps c at s t known framed led heard (stub_asks o a shards k f i l) h = awaited_asks s t o a shards known.first f l h
awaited_keeps c at s t known framed led heard (stub_tells o slot a shards outcome u r l) h = awaited_tells s t o _ l h
