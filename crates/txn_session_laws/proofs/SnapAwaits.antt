-- What the lines of a snapshot await behind each turn.
use Rattle.std.proofs.Common.{◌≡◌, ℕ, ◌<◌, Bool, true, false, List, [], ◌∷◌, length, filter, get_or, Option, Some, None, refl, sym, ap, ◌∙◌, subst}
use Rattle.std.specs.Prelude.{if◌then◌else◌}
use Rattle.std.proofs.lemmas.List.{length-map}
use Rattle.std.proofs.lemmas.List as lists
use Rattle.rss_names.specs.declared.service.Target.{Target}
use Rattle.rss_names.specs.declared.service.Target.TheVariants.{Shard}
use Rattle.rss_wire.specs.declared.messages.Holder.{Holder}
use Rattle.rss_wire.specs.declared.messages.Outcome.{Outcome}
use Rattle.rss_wire.specs.declared.messages.Reply.{Reply}
use Rattle.rss_wire.specs.declared.messages.Request.{Request}
use Rattle.rss_wire.specs.declared.messages.Request.TheVariants as request
use Rattle.rss_tables.specs.Lines.{Line, no_line, with_line, in_state, inquiry, decision_request}
use Rattle.rss_tables.specs.Outs.{Out, line_out, line_slot}
use Rattle.rss_tables.specs.SnapshotSession.{SnapSession, snap_request, snap_asks, snap_line_goes, second_round, asked_again, must_ask_again, snap_end}
use Rattle.rss_tables.specs.Turns.{Turn}
use Rattle.rss_tables.specs.declared.lines.LineState.{LineState}
use Rattle.rss_tables.specs.declared.lines.LineState.TheVariants.{Awaiting, Answered, Inquiring, Resolving, Asleep}
use Rattle.rss_tables.specs.declared.phases.SnapPhase.{SnapPhase}
use Rattle.rss_tables.specs.declared.phases.SnapPhase.TheVariants.{First, Second, Done}
use Rattle.world_laws.proofs.Looks.{some_is, some_is_not}
use Rattle.session_laws.specs.Awaits.{awaited_by, snap_awaits}
use Rattle.session_laws.specs.Frames.{nth_line, IsLine}
use Rattle.session_laws.specs.SnapCases.{snap_answered, told_line, SnapTurn, shown, first_done, second_done, blocked, resolves, sleeps, asks}
use Rattle.session_laws.proofs.LineLaws.{length_mapped, nth_map}
use Rattle.shard_event_laws.specs.Facts.{no_out}
use Rattle.txn_session_laws.proofs.Currents.{SlotAwaits, TurnAwaits, ends_turn, asks_turn, AsksLine, goes_turn, asks_none, asks_one}
use Rattle.txn_session_laws.proofs.TxnAwaits.{IsAmong, other_at}

-- what the lines of a snapshot await behind a turn
abbrev pub SnapTurnAwaits : List Line → (Line → Option (Target × Request)) → Line → Turn SnapSession → Type 0
SnapTurnAwaits lines awaits l turn = TurnAwaits lines awaits l turn.anew turn.after.lines (snap_awaits turn.after turn.after.phase) turn.outs (snap_end turn.after.phase)

-- what is asked does not depend on the lines
abbrev with_new : SnapSession → Line → SnapSession
with_new x new = record x { lines = with_line x.lines new }

snap_awaits_same : (x : SnapSession) (lines : List Line) (p : SnapPhase) (m : Line) → snap_awaits (record x { lines = lines }) p m ≡ snap_awaits x p m
snap_awaits_same x lines (First time) m = refl
snap_awaits_same x lines (Second time) m = refl
snap_awaits_same x lines (Done time) m = refl

snap_request_same : (x : SnapSession) (lines : List Line) (p : SnapPhase) (m n : Line) → m.reads ≡ n.reads → snap_request (record x { lines = lines }) p m ≡ snap_request x p n
snap_request_same x lines (First time) m n e = ap (λ keys. request.Snapshot time x.least keys true) e
snap_request_same x lines (Second time) m n e = ap (λ keys. request.Snapshot time x.least keys false) e
snap_request_same x lines (Done time) m n e = ap (λ keys. request.Snapshot time x.least keys false) e

-- while it goes on, its lines await what they are asked
snap_asking : (x : SnapSession) (p : SnapPhase) (m : Line) → snap_end p ≡ None → snap_awaits x p m ≡ awaited_by m.state m.shard (snap_request x p m)
snap_asking x (First time) m e = refl
snap_asking x (Second time) m e = refl
snap_asking x (Done time) m e = absurd (some_is_not time e)

-- a line goes on by itself
goes_line : (x : SnapSession) (l new : Line) (outs : List Out) → IsLine x.lines l → new.shard ≡ l.shard → (snap_end x.phase ≡ None → (i : ℕ) → i < length outs → AsksLine l new (snap_awaits (with_new x new) x.phase) (get_or outs i no_out))
    → SnapTurnAwaits x.lines (snap_awaits x x.phase) l (snap_line_goes x new outs)
goes_line x l new outs is e a = goes_turn x.lines l new (snap_awaits x x.phase) (snap_awaits (with_new x new) x.phase) outs (snap_end x.phase) is e (λ g m. snap_awaits_same x (with_line x.lines new) x.phase m) a

pub snap_inquires : (x : SnapSession) (l : Line) (holder : Holder) → IsLine x.lines l → SnapTurnAwaits x.lines (snap_awaits x x.phase) l (snap_line_goes x (in_state l (Inquiring holder)) (inquiry l.shard holder ∷ []))
snap_inquires x l holder is = goes_line x l (in_state l (Inquiring holder)) (inquiry l.shard holder ∷ []) is refl
    (λ g. asks_one l (in_state l (Inquiring holder)) _ (inquiry l.shard holder) (record { slot = refl; awaited = snap_asking (with_new x (in_state l (Inquiring holder))) x.phase (in_state l (Inquiring holder)) g }))

resolves_line : (x : SnapSession) (l : Line) (holder : Holder) (outcome : Outcome) → IsLine x.lines l → SnapTurnAwaits x.lines (snap_awaits x x.phase) l (snap_line_goes x (in_state l (Resolving holder outcome)) (line_out l.shard (decision_request holder.attempt outcome) ∷ []))
resolves_line x l holder outcome is = goes_line x l (in_state l (Resolving holder outcome)) (line_out l.shard (decision_request holder.attempt outcome) ∷ []) is refl
    (λ g. asks_one l (in_state l (Resolving holder outcome)) _ (line_out l.shard (decision_request holder.attempt outcome)) (record { slot = refl; awaited = snap_asking (with_new x (in_state l (Resolving holder outcome))) x.phase (in_state l (Resolving holder outcome)) g }))

asks_line : (x : SnapSession) (l : Line) → IsLine x.lines l → SnapTurnAwaits x.lines (snap_awaits x x.phase) l (snap_line_goes x (in_state l Awaiting) (line_out l.shard (snap_request x x.phase l) ∷ []))
asks_line x l is = goes_line x l (in_state l Awaiting) (line_out l.shard (snap_request x x.phase l) ∷ []) is refl
    (λ g. asks_one l (in_state l Awaiting) _ (line_out l.shard (snap_request x x.phase l)) (record {
      slot = refl;
      awaited = snap_asking (with_new x (in_state l Awaiting)) x.phase (in_state l Awaiting) g
          ∙ ap (awaited_by Awaiting l.shard) (snap_request_same x (with_line x.lines (in_state l Awaiting)) x.phase (in_state l Awaiting) l refl);
    }))

-- a line awaits what another line is asked, on the same shard
pub record IsAskedAs (x : SnapSession) (m : Line) : Type 0 where
  pub place : ℕ
  pub inside : place < length x.lines
  pub shard : (nth_line x.lines place).shard ≡ m.shard
  pub state : (nth_line x.lines place).state ≡ Awaiting
  pub reads : (nth_line x.lines place).reads ≡ m.reads

-- lines that are asked await it
pub asked_await : (x : SnapSession) (asked : List Line) → snap_end x.phase ≡ None → ((i : ℕ) → i < length asked → IsAskedAs x (nth_line asked i)) → (i : ℕ) → i < length (snap_asks x asked) → (slot : ℕ) → (get_or (snap_asks x asked) i no_out).slot ≡ Some slot
    → SlotAwaits x.lines (snap_awaits x x.phase) slot (get_or (snap_asks x asked) i no_out).target (get_or (snap_asks x asked) i no_out).request
asked_await x asked p each i h slot e = subst (λ (out : Out). out.slot ≡ Some slot → SlotAwaits x.lines (snap_awaits x x.phase) slot out.target out.request) (sym at) of_line e
  where
    inside : i < length asked
    inside = subst (λ (n : ℕ). i < n) (length-map asked (λ (l : Line). line_out l.shard (snap_request x x.phase l))) h

    at : get_or (snap_asks x asked) i no_out ≡ line_out (nth_line asked i).shard (snap_request x x.phase (nth_line asked i))
    at = lists.get_or-map (λ (l : Line). line_out l.shard (snap_request x x.phase l)) asked i no_line no_out inside

    awaiting_both : (a b : ℕ) (q r : Request) → a ≡ b → q ≡ r → awaited_by Awaiting a q ≡ awaited_by Awaiting b r
    awaiting_both a b q r d e = ap (λ (n : ℕ). awaited_by Awaiting n q) d ∙ ap (λ (y : Request). awaited_by Awaiting b y) e

    of_line : Some (line_slot (nth_line asked i).shard) ≡ Some slot → SlotAwaits x.lines (snap_awaits x x.phase) slot (Shard (nth_line asked i).shard) (snap_request x x.phase (nth_line asked i))
    of_line f = record {
      place = (each i inside).place;
      inside = (each i inside).inside;
      of_line = sym (some_is (line_slot (nth_line asked i).shard) slot f) ∙ ap line_slot (sym (each i inside).shard);
      awaited = snap_asking x x.phase (nth_line x.lines (each i inside).place) p
          ∙ ap (λ (st : LineState). awaited_by st (nth_line x.lines (each i inside).place).shard (snap_request x x.phase (nth_line x.lines (each i inside).place))) (each i inside).state
          ∙ awaiting_both _ _ _ _ (each i inside).shard (snap_request_same x x.lines x.phase (nth_line x.lines (each i inside).place) (nth_line asked i) (each i inside).reads);
    }

-- the second round asks those lines that may have missed a writer
abbrev asked_second : SnapSession → ℕ → SnapSession
asked_second x time = record x { phase = Second time; lines = asked_again time x.lines }

second_await : (lines : List Line) (awaits : Line → Option (Target × Request)) (l : Line) (x : SnapSession) (time : ℕ) (again : List Line) → again ≡ filter (must_ask_again time) x.lines → SnapTurnAwaits lines awaits l (second_round x time again)
second_await lines awaits l x time [] e = ends_turn lines awaits l _ _ _ _ time
second_await lines awaits l x time (m ∷ again) e = asks_turn lines awaits l (asked_second x time).lines (snap_awaits (asked_second x time) (Second time)) (snap_asks (asked_second x time) (m ∷ again)) None
    (asked_await (asked_second x time) (m ∷ again) refl (λ i h. asked i (other_at (must_ask_again time) x.lines i (subst (λ (ms : List Line). i < length ms) e h))))
  where
    asked : (i : ℕ) → IsAmong (must_ask_again time) x.lines i → IsAskedAs (asked_second x time) (nth_line (m ∷ again) i)
    asked i o = record {
      place = o.place;
      inside = subst (λ (k : ℕ). o.place < k) (sym (length_mapped (λ (k : Line). if must_ask_again time k then in_state k Awaiting else k) x.lines)) o.inside;
      shard = ap (λ (k : Line). k.shard) at ∙ ap (λ (k : Line). k.shard) o.at ∙ ap (λ (ms : List Line). (nth_line ms i).shard) (sym e);
      state = ap (λ (k : Line). k.state) at;
      reads = ap (λ (k : Line). k.reads) at ∙ ap (λ (k : Line). k.reads) o.at ∙ ap (λ (ms : List Line). (nth_line ms i).reads) (sym e);
    }
      where
        at : nth_line (asked_second x time).lines o.place ≡ in_state (nth_line x.lines o.place) Awaiting
        at = nth_map (λ (k : Line). if must_ask_again time k then in_state k Awaiting else k) x.lines o.place o.inside ∙ ap (λ (b : Bool). if b then in_state (nth_line x.lines o.place) Awaiting else nth_line x.lines o.place) o.passes

pub snap_turn_awaits : (x : SnapSession) (l : Line) (r : Reply) (turn : Turn SnapSession) → IsLine x.lines l → SnapTurn x l r turn → SnapTurnAwaits x.lines (snap_awaits x x.phase) l turn
snap_turn_awaits x l _ _ is (shown versions skipped s e) = goes_line x l (in_state (told_line l versions skipped) Answered) [] is refl (λ g. asks_none l (in_state (told_line l versions skipped) Answered) _)
snap_turn_awaits x l _ _ is (first_done time versions skipped p s e) = second_await x.lines (snap_awaits x x.phase) l (snap_answered x (told_line l versions skipped)) _ _ refl
snap_turn_awaits x l _ _ is (second_done time versions skipped p s e) = ends_turn _ _ l _ _ _ _ time
snap_turn_awaits x l _ _ is (blocked holder holders s) = snap_inquires x l holder is
snap_turn_awaits x l _ _ is (resolves holder outcome s) = resolves_line x l holder outcome is
snap_turn_awaits x l _ _ is (sleeps holder s) = goes_line x l (in_state l (Asleep holder)) [] is refl (λ g. asks_none l (in_state l (Asleep holder)) _)
snap_turn_awaits x l _ _ is (asks holder outcome s) = asks_line x l is
