-- Each request that was sent to a shard is just in every state: what an event does to that.
use Rattle.std.proofs.Common.{◌≡◌, ◌⊎◌, inl, inr, ℕ, ◌+◌, ◌-◌, ◌<◌, ◌≤◌, true, false, List, [], ◌∷◌, All, length, get_or, Option, Some, refl, sym, ap, ◌∙◌, subst, arith}
use Rattle.std.proofs.lemmas.Bool.{true≢false, cases_lt}
use Rattle.std.proofs.lemmas.List.{get_or-set_same}
use Rattle.std.proofs.lemmas.List.Elements.{All-cons, All-nil}
use Rattle.truetime.specs.Reading.{Reading}
use Rattle.rss_names.specs.declared.attempt.Attempt.{Attempt}
use Rattle.rss_names.specs.declared.service.Target.{Target}
use Rattle.pipeline_lang.specs.declared.config.Config.{Config}
use Rattle.rss_wire.specs.Messages.{message_at}
use Rattle.rss_wire.specs.declared.envelope.Envelope.{Envelope}
use Rattle.rss_wire.specs.declared.message.Message.{Message}
use Rattle.rss_wire.specs.declared.messages.Outcome.TheVariants.{Committed}
use Rattle.rss_wire.specs.declared.messages.Reply.{Reply}
use Rattle.rss_wire.specs.declared.messages.Request.{Request}
use Rattle.rss_wire.specs.declared.messages.Request.TheVariants as request
use Rattle.rss_tables.specs.Lines.{Line, line_at, coordinator_of, shards_of}
use Rattle.rss_tables.specs.Outs.{Out, line_out, slot_shard}
use Rattle.rss_tables.specs.SnapshotSession.{SnapSession, snap_end, snap_request, snap_hears}
use Rattle.rss_tables.specs.TransactionSession.{TxnSession, attempt_of, txn_end, txn_request, txn_hears}
use Rattle.rss_tables.specs.Turns.{Turn}
use Rattle.rss_tables.specs.declared.lines.LineState.{LineState}
use Rattle.rss_tables.specs.declared.lines.LineState.TheVariants.{Resolving}
use Rattle.rss_tables.specs.declared.phases.TxnPhase.{TxnPhase}
use Rattle.rss_tables.specs.declared.phases.TxnPhase.TheVariants as phase
use Rattle.rss_machine.specs.Effect.{least_shard}
use Rattle.rss_machine.specs.State.{State, Owner, owner_at, no_owner}
use Rattle.rss_machine.specs.declared.session.OwnerKind.TheVariants as kind
use Rattle.rss_machine.specs.declared.session.Session.TheVariants as session
use Rattle.world_laws.specs.Exchanges.{is_replica}
use Rattle.session_laws.specs.Awaits.{txn_awaits, snap_awaits}
use Rattle.session_laws.specs.Frames.{nth_line}
use Rattle.session_laws.specs.SnapCases.{SnapTurn}
use Rattle.session_laws.proofs.SnapCases.{snap_case}
use Rattle.shard_event_laws.specs.Events.{Event, Hears, WasAsked, TxnTurns, SnapTurns, SendsAgain, left_to_await, heard_at, aside, begins_txn, begins_snapshot, txn_hears_one, snap_hears_one, txn_wakes_one, snap_wakes_one, txn_passes_time, sends_again, serves_one, stub_asks, stub_tells}
use Rattle.shard_event_laws.specs.Facts.{IsAsking, OneOwner, Sends, no_out}
use Rattle.txn_state_laws.specs.Awaited.{LineHears}
use Rattle.txn_state_laws.specs.Decided.{AllDecided, known_commit}
use Rattle.txn_state_laws.specs.Framed.{StubFramed}
use Rattle.txn_state_laws.specs.Justified.{AllJust, IsJust, DecideIs}
use Rattle.txn_state_laws.specs.Onward.{Between}
use Rattle.txn_decision_laws.specs.Calm.{AllCalm, is_calm, is_locking}
use Rattle.txn_decision_laws.proofs.Asked.{OutJust, asks_leader, request_just, snap_request_just, decisions_just}
use Rattle.txn_state_laws.proofs.Grows.{coordinator_is}
use Rattle.txn_decision_laws.proofs.Grows.{grows, kept_grows}
use Rattle.txn_decision_laws.proofs.Heard.{decision_heard, outcome_heard, snap_outcome_heard, stub_heard}
use Rattle.txn_decision_laws.proofs.JustStays.{just_stays}
use Rattle.txn_decision_laws.proofs.Learnt.{heard_turn, is_known}
use Rattle.txn_decision_laws.proofs.Replies.{request_same, not_both, served_last, served_length}
use Rattle.txn_decision_laws.proofs.Turned.{turned_session}
use Rattle.txn_decision_laws.proofs.TurnsJust.{Reasons, SnapReasons, one_just, all_just, turn_just, pass_just, wake_just, snap_all_just, snap_turn_just}

-- the owner that changed
owner_now : (s t : State) (o : ℕ) (w : Owner) → OneOwner s t o w → owner_at t o ≡ w
owner_now s t o w h = ap (λ (l : List Owner). get_or l o no_owner) h.owned ∙ get_or-set_same s.owners o w no_owner h.there

-- requests that are just where they are sent
sent_just : (s t : State) (o : ℕ) (outs : List Out) → Sends s t o outs → All (OutJust t o) outs → (m : ℕ) → length s.net ≤ m → m < length t.net → (shard : ℕ) (q : Request) → WasAsked t m shard q
    → IsJust t (message_at t.net m).envelope.owner shard q
sent_just s t o outs h a m l k shard q w =
    let n = h.count in
    let e : length s.net + (m - length s.net) ≡ m = omega (arith, l) in
    let i : m - length s.net < length outs = omega (arith, l, k, n) in
    let out : Out = get_or outs (m - length s.net) no_out in
    let x : IsAsking (message_at t.net m) m o out = subst (λ (j : ℕ). IsAsking (message_at t.net j) j o (get_or outs (m - length s.net) no_out)) e (h.each (m - length s.net) i) in
    let just : IsJust t o shard out.request = a (m - length s.net) no_out i shard (sym x.target ∙ w.to) in
    subst (λ (j : ℕ). IsJust t j shard q) (sym x.owner) (subst (IsJust t o shard) (request_same out.request q (sym x.says ∙ w.asks)) just)

-- the least shard of a transaction is its coordinator
least_is : (lines : List Line) → least_shard (shards_of lines) ≡ coordinator_of lines
least_is [] = refl
least_is (l ∷ lines) = refl

module _ (c : Config) (at : Reading) (s t : State) (b : Between c at s t) (h : AllCalm s) (j : AllJust s) (d : AllDecided s) where
  -- where a line of a transaction asks again, since nobody is in its way any more
  line_resolves : (o slot : ℕ) (x : TxnSession) (r : Reply) (state : LineState) → (owner_at s o).session ≡ session.Transaction x → (w : LineHears s slot x.lines (txn_awaits x x.phase) r)
      → (nth_line x.lines w.place).state ≡ state → is_calm state ≡ false → IsJust t o (nth_line x.lines w.place).shard (txn_request x x.phase (nth_line x.lines w.place))
  line_resolves o slot x r state e w i n =
      just_stays s t (grows c at s t b) o (nth_line x.lines w.place).shard (txn_request x x.phase (nth_line x.lines w.place))
      (request_just c s o x (b.framed.txn o x e) e (b.told.knows o x e) x.phase refl (nth_line x.lines w.place) record { line = nth_line x.lines w.place; is = record { place = w.place; inside = w.inside; at = refl }; frame = refl }
      (λ z. absurd (true≢false (sym (h.each o x e (locks x.phase z) w.place w.inside) ∙ (ap is_calm i ∙ n)))))
    where
      locks : (p : TxnPhase) → asks_leader p ≡ true → is_locking p ≡ false
      locks (phase.FreeingLast time) z = refl
      locks (phase.Deciding time) z = refl
      locks phase.Undoing z = refl
      locks phase.Locking z = absurd (true≢false (sym z))
      locks phase.Preparing z = refl
      locks (phase.Freeing time) z = refl
      locks (phase.Waiting time) z = refl
      locks (phase.Committed time) z = refl
      locks (phase.Failed time) z = refl

  -- where one hears a reply
  reasons : (o slot : ℕ) (x : TxnSession) (r : Reply) → (owner_at s o).session ≡ session.Transaction x → Hears s o slot r → (w : LineHears s slot x.lines (txn_awaits x x.phase) r) → Reasons t o x (nth_line x.lines w.place) r
  reasons o slot x r e k w = record {
    decided = λ outcome q. kept_grows c at s t b (attempt_of x) outcome (decision_heard c at s b.framed b.heard d o slot x outcome e (subst (Hears s o slot) q k));
    told = λ holder outcome q i. kept_grows c at s t b holder.attempt outcome (outcome_heard s d slot x outcome holder r q w i);
    again = λ holder outcome i. line_resolves o slot x r (Resolving holder outcome) e w i refl;
  }

  -- and where one of a snapshot does
  snap_reasons : (o slot : ℕ) (x : SnapSession) (r : Reply) → (owner_at s o).session ≡ session.Snapshot x → Hears s o slot r → (w : LineHears s slot x.lines (snap_awaits x x.phase) r) → SnapReasons t o x (nth_line x.lines w.place) r
  snap_reasons o slot x r e k w = record {
    told = λ holder outcome q i. kept_grows c at s t b holder.attempt outcome (snap_outcome_heard s d slot x outcome holder r q w i);
    again = λ holder outcome i. just_stays s t (grows c at s t b) o (nth_line x.lines w.place).shard (snap_request x x.phase (nth_line x.lines w.place))
        (snap_request_just s o x e x.phase refl (nth_line x.lines w.place) record { line = nth_line x.lines w.place; is = record { place = w.place; inside = w.inside; at = refl }; frame = refl });
  }

  txn_now : (o : ℕ) (currents : List (Option ℕ)) (turn : Turn TxnSession) → TxnTurns s t o currents turn → (owner_at t o).session ≡ session.Transaction turn.after
  txn_now o currents turn u = ap (λ (w : Owner). w.session) (owner_now s t o _ u.owned)
      ∙ turned_session s o (left_to_await turn.anew currents) (session.Transaction turn.after) turn.outs (txn_end turn.after.phase)

  snap_now : (o : ℕ) (currents : List (Option ℕ)) (turn : Turn SnapSession) → SnapTurns s t o currents turn → (owner_at t o).session ≡ session.Snapshot turn.after
  snap_now o currents turn u = ap (λ (w : Owner). w.session) (owner_now s t o _ u.owned)
      ∙ turned_session s o (left_to_await turn.anew currents) (session.Snapshot turn.after) turn.outs (snap_end turn.after.phase)

  heard_just : (o slot : ℕ) (x : TxnSession) (r : Reply) → (owner_at s o).session ≡ session.Transaction x → Hears s o slot r
      → TxnTurns s t o (heard_at s o slot) (txn_hears x (line_at x.lines (slot_shard slot)) at r) → All (OutJust t o) (txn_hears x (line_at x.lines (slot_shard slot)) at r).outs
  heard_just o slot x r e k u =
      let w = b.heard.txn o slot x r e k in
      let turn : Turn TxnSession = txn_hears x (line_at x.lines (slot_shard slot)) at r in
      turn_just c t b.framed_after b.told_after o x (nth_line x.lines w.place) at r turn (reasons o slot x r e k w) (txn_now o (heard_at s o slot) turn u) (heard_turn at s b.heard o slot x r e k w)

  snap_heard_just : (o slot : ℕ) (x : SnapSession) (r : Reply) → (owner_at s o).session ≡ session.Snapshot x → Hears s o slot r
      → SnapTurns s t o (heard_at s o slot) (snap_hears x (line_at x.lines (slot_shard slot)) r) → All (OutJust t o) (snap_hears x (line_at x.lines (slot_shard slot)) r).outs
  snap_heard_just o slot x r e k u =
      let w = b.heard.snap o slot x r e k in
      let l : Line = nth_line x.lines w.place in
      let turn : Turn SnapSession = snap_hears x (line_at x.lines (slot_shard slot)) r in
      let v : SnapTurn x l r turn = subst (λ (z : Line). SnapTurn x l r (snap_hears x z r)) (sym w.found) (snap_case x l w.target w.asked r w.awaited w.fits) in
      snap_turn_just t o x l r turn (snap_reasons o slot x r e k w) (snap_now o (heard_at s o slot) turn u) v

  -- a stub asks for the decision of what it settles
  stub_just : (o : ℕ) (a : Attempt) (shards : List ℕ) → (owner_at s o).kind ≡ kind.Stubbing (Some (a, shards)) → All (OutJust t o) (line_out (least_shard shards) (request.Decide a false 0) ∷ [])
  stub_just o a shards e = one_just t o (least_shard shards) (request.Decide a false 0) (just_stays s t (grows c at s t b) o (least_shard shards) (request.Decide a false 0) before)
    where
      f : StubFramed s a shards
      f = b.framed.stub o a shards e

      place : least_shard shards ≡ coordinator_of f.txn.lines
      place = ap least_shard f.shards_are ∙ least_is f.txn.lines

      before : DecideIs s (least_shard shards) a false 0
      before = record {
        txn = f.txn;
        of = f.of;
        at = place;
        line = nth_line f.txn.lines 0;
        is_line = record { is = record { place = 0; inside = (b.framed.txn a.call f.txn f.of.under_way).lines.some; at = refl }; on = sym (place ∙ coordinator_is f.txn.lines) };
        now = λ z n. absurd (true≢false (sym z));
      }

  -- what is sent again was sent before
  again_just : (o slot : ℕ) (target : Target) (r : Request) → SendsAgain s t o slot target r → All (OutJust t o) (record { slot = Some slot; target = target; request = r } ∷ [])
  again_just o slot target r u = All-cons (OutJust t o) _ []
      (λ shard e. just_stays s t (grows c at s t b) o shard r
      (subst (λ (i : ℕ). IsJust s i shard r) u.by (j.each u.exchange shard r record { numbered = u.numbered; sent = u.sent; asks = u.asked; to = u.to ∙ e })))
      (All-nil (OutJust t o))

  -- a request that an event sends
  new_just : Event c at s t → (m : ℕ) → length s.net ≤ m → m < length t.net → (shard : ℕ) (q : Request) → WasAsked t m shard q → IsJust t (message_at t.net m).envelope.owner shard q
  new_just (aside a) m l k shard q w = absurd (true≢false (sym (a.sent m l k) ∙ ap is_replica w.to))
  new_just (begins_txn o reads guard writes x f e u) m l k shard q w = sent_just s t o _ u.sends
      (all_just c t b.framed_after b.told_after o x (ap (λ (v : Owner). v.session) (owner_now s t o _ u.owned)) (ap (λ (y : TxnSession). asks_leader y.phase) e)) m l k shard q w
  new_just (begins_snapshot o keys x f e u) m l k shard q w = sent_just s t o _ u.sends (snap_all_just t o x (ap (λ (v : Owner). v.session) (owner_now s t o _ u.owned))) m l k shard q w
  new_just (txn_hears_one o slot x r e p u) m l k shard q w = sent_just s t o _ u.sends (heard_just o slot x r e p u) m l k shard q w
  new_just (snap_hears_one o slot x r e p u) m l k shard q w = sent_just s t o _ u.sends (snap_heard_just o slot x r e p u) m l k shard q w
  new_just (txn_wakes_one o x line e p u) m l k shard q w = sent_just s t o _ u.sends (wake_just t o line.shard line.state) m l k shard q w
  new_just (snap_wakes_one o x line e p u) m l k shard q w = sent_just s t o _ u.sends (wake_just t o line.shard line.state) m l k shard q w
  new_just (txn_passes_time o time x e p n u) m l k shard q w = sent_just s t o _ u.sends
      (pass_just c t b.framed_after b.told_after o x x.phase (λ other i. kept_grows c at s t b (attempt_of x) (Committed other) (is_known c s b.framed d o x e other (ap known_commit i)))) m l k shard q w
  new_just (sends_again o slot target r u) m l k shard q w = sent_just s t o _ u.sends (again_just o slot target r u) m l k shard q w
  new_just (serves_one i n p v e) m l k shard q w = absurd (not_both q _ (sym w.asks ∙ ap (λ (x : Message). x.body) (ap (message_at t.net) last ∙ served_last s t i n at.latest p e)))
    where
      last : m ≡ length s.net
      last = let n = served_length s t i n at.latest p e in omega (arith, l, k, n)
  new_just (stub_asks o a shards f p e u) m l k shard q w = sent_just s t o _ u.sends (stub_just o a shards f) m l k shard q w
  new_just (stub_tells o slot a shards outcome e p u) m l k shard q w = sent_just s t o _ u.sends
      (decisions_just t o a outcome shards (kept_grows c at s t b a outcome (stub_heard s b.heard d o slot a shards outcome e p))) m l k shard q w

  each_just : (m shard : ℕ) (q : Request) → WasAsked t m shard q → IsJust t (message_at t.net m).envelope.owner shard q
  each_just m shard q w = by_place (cases_lt m (length s.net))
    where
      by_place : (m < length s.net) ⊎ (length s.net ≤ m) → IsJust t (message_at t.net m).envelope.owner shard q
      by_place (inl l) =
          let n = b.onward.net in
          let before : WasAsked s m shard q = record { numbered = w.numbered; sent = l; asks = sym (n.bodies m l) ∙ w.asks; to = ap (λ (v : Envelope). v.target) (sym (n.envelopes m l)) ∙ w.to } in
          subst (λ (o : ℕ). IsJust t o shard q) (ap (λ (v : Envelope). v.owner) (sym (n.envelopes m l))) (just_stays s t (grows c at s t b) (message_at s.net m).envelope.owner shard q (j.each m shard q before))
      by_place (inr l) = new_just b.event m l w.sent shard q w

-- requests are just through every event, where behind the phase of locks no line has anybody in its way
pub just_keeps : (c : Config) (at : Reading) (s t : State) → Between c at s t → AllCalm s → AllJust s → AllDecided s → AllJust t
just_keeps c at s t b h j d = record { each = each_just c at s t b h j d }
