-- The places of calls are regular for the history, by what is told of calls.
use Rattle.std.proofs.Common.{◌≡◌, ℕ, zero, suc, ◌<◌, ◌≤◌, ◌⊎◌, inl, inr, Bool, true, false, List, [], ◌∷◌, length, Option, Some, None, refl, sym, ap, ◌∙◌, subst, arith}
use Rattle.std.specs.Prelude.{IsTrue, Contains, map, get_or, slice_get, option_map, if◌then◌else◌}
use Rattle.std.proofs.lemmas.Option.{slice_get_within, slice_get-get_or, slice_get-map}
use Rattle.std.proofs.lemmas.List.{length-map, get_or-map}
use Rattle.std.proofs.lemmas.List.Elements.{Contains-get_or}
use Rattle.std.proofs.lemmas.Bool.{true≢false, cases_eq}
use Rattle.rss_names.specs.declared.service.Key.{Key}
use Rattle.carstamps.specs.declared.carstamp.Carstamp.{Carstamp}
use Rattle.pipeline_lang.specs.declared.config.Config.{Config}
use Rattle.rss_model.specs.declared.op.Op.{Op}
use Rattle.rss_model.specs.declared.op.Op.TheVariants as op
use Rattle.rss_model.specs.declared.op.Shown.{Shown}
use Rattle.rss_model.specs.declared.history.Token.{Token}
use Rattle.rss_model.specs.declared.history.Entry.{Entry}
use Rattle.rss_model.specs.declared.history.Entry.TheVariants.{Get}
use Rattle.rss_model.specs.Causality.{BeforeByMessages}
use Rattle.rss_model.specs.History.{entry_at, has_begun, has_ended, op_of, reply_of, EndsAt}
use Rattle.rss_model.specs.Legal.{opening_table, shown_after}
use Rattle.rss_model.specs.Mutation.{is_mutation}
use Rattle.rss_model.specs.Operation.{reads_of, writes_of, written_by, guard_holds, values_of}
use Rattle.rss_model.specs.RealTime.{BeforeInRealTime}
use Rattle.rss_model.specs.Regular.{Regular}
use Rattle.rss_model.specs.Stages.{stage_of}
use Rattle.rss_model.proofs.HistoryLemmas.{ends_at-has_ended}
use Rattle.rss_wire.specs.declared.messages.RegReply.{RegReply}
use Rattle.rss_tables.specs.RegisterSession.{RegSession, phase_end}
use Rattle.rss_tables.specs.declared.register_session.RegEnd.{RegEnd}
use Rattle.rss_tables.specs.declared.register_session.RegEnd.TheVariants as ends
use Rattle.rss_tables.specs.declared.register_session.RegPhase.{RegPhase}
use Rattle.rss_tables.specs.declared.register_session.RegWork.{RegWork}
use Rattle.rss_tables.specs.declared.register_session.RegWork.TheVariants as work
use Rattle.rss_machine.specs.Places.{keyed_calls, sorted, places_of, placed_calls, order_in, order_of, key_lt}
use Rattle.rss_machine.specs.Run.{run, history_in, history_of}
use Rattle.rss_machine.specs.Session.{Session}
use Rattle.rss_machine.specs.State.{State, start, owner_at}
use Rattle.rss_machine.specs.declared.place.KeyedCall.{KeyedCall}
use Rattle.rss_machine.specs.declared.place.PlaceKey.{PlaceKey}
use Rattle.rss_machine.specs.declared.session.OwnerKind.TheVariants as kind
use Rattle.rss_machine.specs.declared.session.Session.TheVariants as session
use Rattle.rss_machine.specs.declared.step.Step.{Step}
use Rattle.order_laws.specs.ByKeys.{HasBelow, IsShownByKeys, written, opening, AreRegularByKeys}
use Rattle.order_laws.specs.LastWriter.{Readings, AreReadings, Writes, shown_by_writer}
use Rattle.order_laws.specs.Sorted.{AreSorted, IsAsymmetric}
use Rattle.order_laws.specs.Standing.{Stands}
use Rattle.order_laws.proofs.Keys.{same_key-itself}
use Rattle.order_laws.proofs.RegularByKeys.{regular}
use Rattle.order_laws.proofs.SortedCalls.{some_of}
use Rattle.world_laws.proofs.Looks.{some_is}
use Rattle.reg_laws.specs.Agree.{WorkAgrees}
use Rattle.reg_laws.specs.Files.{IsInOrder}
use Rattle.reg_laws.specs.Line.{PlacedWrite, write_key, read_key, WriterBefore, BeforeWrites, ReadsLegal}
use Rattle.reg_laws.proofs.Legal.{legal_run}
use Rattle.place_laws.specs.Alone.{KeepsToServices}
use Rattle.world_laws.specs.Calls.{end_reply, HistoryTells}
use Rattle.world_laws.proofs.Runs.{run_is, run_ends}
use Rattle.world_laws.proofs.ToldLaws.{history_run}
use Rattle.place_laws.proofs.Ended.{HasWritten, HasRead, IsThere, step_below, is_placed, placed_there, has_done, gave_reply, EndsBefore, written_before, read_before, written_is_there, read_is_there, agree, stamps, scripts}
use Rattle.place_laws.proofs.KeyOrder.{key_one_way}
use Rattle.place_laws.proofs.KeyedCalls.{all_compare, one_each}
use Rattle.place_laws.proofs.Placed.{IsWriter, IsReader, IsPlaced, hands_nothing, rounds_of}
use Rattle.place_laws.proofs.SortedKeys.{Below, sorted_pairs, sorted_same, placed_are}
use Rattle.place_laws.proofs.Told.{says, dated, begins_there, end_stage, path_along, ends_or_begins, writes_mutate, reads_not}

abbrev call_of : KeyedCall → ℕ
call_of k = k.call

-- the keyed calls of a state, sorted
asymmetric : IsAsymmetric Below
asymmetric x y a b = key_one_way x.key y.key a b

are_sorted : (s : State) → AreSorted call_of Below (keyed_calls s) (sorted (keyed_calls s))
are_sorted s = record {
  all = sorted_same (keyed_calls s);
  ascending = sorted_pairs (keyed_calls s) (all_compare s 1 _);
  one_each = λ x y m n e. one_each s x y m n e;
}

-- what a call was shown
abbrev given_by : RegWork → Option RegEnd → List Shown
given_by w None = []
given_by w (Some end) = end_reply w end

abbrev given : Session → List Shown
given (session.Register r) = given_by r.work (phase_end r.phase)
given session.Idle = []
given (session.Fixing r) = []
given (session.Transaction t) = []
given (session.Snapshot t) = []
given (session.Settling attempt shards) = []

abbrev shown_to : State → Readings
shown_to s o = given (owner_at s o).session

-- what a read was shown
abbrev shown_of : Key → RegReply → Shown
shown_of key cell = record { key = key; value = cell.value; writer = cell.writer }

only_one : {X : Type 0} (x y : X) → Contains (x ∷ []) y → x ≡ y
only_one x y (zero, l, e) = e
only_one x y (suc i, l, e) = absurd (omega (arith, l))

contains_one : {X : Type 0} (x y : X) → x ≡ y → Contains (x ∷ []) y
contains_one x y e = (0, omega arith, e)

not_in_none : {X : Type 0} (y : X) → Contains [] y → ⊥
not_in_none y (i, l, e) = omega (arith, l)

-- what stands among the calls of things is the call of one
record ThingOf (ks : List KeyedCall) (o : ℕ) : Type 0 where
  thing : KeyedCall
  there : Contains ks thing
  of_call : thing.call ≡ o

thing_of : (ks : List KeyedCall) (o : ℕ) → Stands (map call_of ks) o → ThingOf ks o
thing_of ks o (i, s) =
    let l : i < length ks = subst (λ (n : ℕ). i < n) (length-map ks call_of) (slice_get_within (map call_of ks) i o s) in
    let x = some_of ks i l in
    let e : slice_get (map call_of ks) i ≡ Some (call_of (get_or ks i x)) = slice_get-map call_of ks i ∙ ap (option_map call_of) (slice_get-get_or ks i x l) in
    record { thing = get_or ks i x; there = Contains-get_or ks i x l; of_call = some_is _ _ (sym e ∙ s) }

calls_contain : (ks : List KeyedCall) (k : KeyedCall) → Contains ks k → Contains (map call_of ks) k.call
calls_contain ks k (i, l, e) = (i, subst (λ (n : ℕ). i < n) (sym (length-map ks call_of)) l, get_or-map call_of ks i k k.call l ∙ ap call_of e)

module _ (c : Config) (n : IsInOrder c) (q : KeepsToServices c) (steps : List Step) (s : State) (e : run c steps ≡ Some s) where
  abbrev h : List Entry
  h = s.history

  abbrev things : List KeyedCall
  things = keyed_calls s

  told : HistoryTells s
  told = history_run c steps s e

  legal : ReadsLegal s
  legal = legal_run c steps s n e

  placed : (k : KeyedCall) → Contains things k → IsPlaced s k.call k.key
  placed k m = is_placed c n q steps s e k m

  -- writes
  write_kind : (o : ℕ) (key : Key) (value : ℕ) (r : RegSession) → (owner_at s o).session ≡ session.Register r → r.work ≡ work.Write key value → (owner_at s o).kind ≡ kind.Calling (op.Write key value)
  write_kind o key value r x w = subst (λ (y : RegWork). WorkAgrees y (owner_at s o).kind) w (rounds_of s (agree c n q steps s e) (stamps c n q steps s e) o r x).agrees.of_kind

  read_kind : (o : ℕ) (key : Key) (r : RegSession) → (owner_at s o).session ≡ session.Register r → r.work ≡ work.Read key → (owner_at s o).kind ≡ kind.Calling (op.Read key)
  read_kind o key r x w = subst (λ (y : RegWork). WorkAgrees y (owner_at s o).kind) w (rounds_of s (agree c n q steps s e) (stamps c n q steps s e) o r x).agrees.of_kind

  write_mutates : (o : ℕ) (key : Key) (value : ℕ) → (owner_at s o).kind ≡ kind.Calling (op.Write key value) → is_mutation h o ≡ true
  write_mutates o key value d = writes_mutate h o key value (says s told o (op.Write key value) d).op

  read_mutates_not : (o : ℕ) (key : Key) → (owner_at s o).kind ≡ kind.Calling (op.Read key) → is_mutation h o ≡ false
  read_mutates_not o key d = reads_not h o key (says s told o (op.Read key) d).op

  -- a placed call that writes a register
  record WroteKey (o : ℕ) (k : PlaceKey) (key : Key) : Type 0 where
    value : ℕ
    stamp : Carstamp
    write : PlacedWrite s o key value stamp
    is_key : k ≡ write_key s o key stamp

  wrote_key : (o : ℕ) (k : PlaceKey) (key : Key) → IsPlaced s o k → Writes h o key → WroteKey o k key
  wrote_key o k key (inr r) w = absurd (true≢false (sym w.mutates ∙ read_mutates_not o r.key r.of_kind))
  wrote_key o k key (inl x) w =
      let same : x.key ≡ key = only_one x.key key (subst (λ (y : Op). Contains (writes_of y) key) (says s told o (op.Write x.key x.value) x.of_kind).op w.written) in
      record { value = x.value; stamp = x.stamp; write = subst (λ (y : Key). PlacedWrite s o y x.value x.stamp) same x.placed; is_key = subst (λ (y : Key). k ≡ write_key s o y x.stamp) same x.is_key }

  -- READINGS
  write_gives : (key : Key) (value : ℕ) (x : Option RegEnd) → given_by (work.Write key value) x ≡ []
  write_gives key value None = refl
  write_gives key value (Some end) = refl

  writer_given : (o : ℕ) (k : PlaceKey) → IsWriter s o k → shown_to s o ≡ []
  writer_given o k w = ap given w.placed.under_way ∙ (ap (λ (x : RegWork). given_by x (phase_end w.placed.round.phase)) w.placed.of_work ∙ write_gives w.key w.value (phase_end w.placed.round.phase))

  reader_given : (o : ℕ) (k : PlaceKey) (r : IsReader s o k) → shown_to s o ≡ shown_of r.key r.cell ∷ []
  reader_given o k r = ap given r.read.under_way ∙ (ap (λ (x : RegWork). given_by x (phase_end r.read.round.phase)) r.read.of_work ∙ ap (λ (p : RegPhase). given_by (work.Read r.key) (phase_end p)) r.read.in_phase)

  begun_of : (o : ℕ) (k : PlaceKey) → IsPlaced s o k → IsTrue (has_begun h o)
  begun_of o k (inl w) = (says s told o _ w.of_kind).begun
  begun_of o k (inr r) = (says s told o _ r.of_kind).begun

  keys_of : (o : ℕ) (k : PlaceKey) → IsPlaced s o k → map (λ (x : Shown). x.key) (shown_to s o) ≡ reads_of (op_of h o)
  keys_of o k (inl w) = ap (map (λ (x : Shown). x.key)) (writer_given o k w) ∙ sym (ap reads_of (says s told o _ w.of_kind).op)
  keys_of o k (inr r) = ap (map (λ (x : Shown). x.key)) (reader_given o k r) ∙ sym (ap reads_of (says s told o _ r.of_kind).op)

  guards_of : (o : ℕ) (k : PlaceKey) → IsPlaced s o k → IsTrue (guard_holds (op_of h o) (values_of (shown_to s o)))
  guards_of o k (inl w) = ap (λ (x : Op). guard_holds x (values_of (shown_to s o))) (says s told o _ w.of_kind).op
  guards_of o k (inr r) = ap (λ (x : Op). guard_holds x (values_of (shown_to s o))) (says s told o _ r.of_kind).op

  reply_is : (o : ℕ) → IsTrue (has_ended h o) → shown_to s o ≡ reply_of h o
  reply_is o d =
      let g = gave_reply c n q steps s e o (reply_of h o) (told.replied o d) in
      ap given g.under_way ∙ (ap (given_by g.round.work) g.gave.done ∙ sym g.gave.gives)

  along_thing : (P : ℕ → Type 0) (o : ℕ) → ((k : KeyedCall) → IsPlaced s k.call k.key → P k.call) → Stands (map call_of things) o → P o
  along_thing P o g t = let k = thing_of things o t in subst P k.of_call (g k.thing (placed k.thing k.there))

  are_readings : AreReadings h (map call_of things) (shown_to s)
  are_readings = record {
    begun = λ o t. along_thing (λ (i : ℕ). IsTrue (has_begun h i)) o (λ k p. begun_of k.call k.key p) t;
    keys = λ o t. along_thing (λ (i : ℕ). map (λ (x : Shown). x.key) (shown_to s i) ≡ reads_of (op_of h i)) o (λ k p. keys_of k.call k.key p) t;
    replies = λ o t d. reply_is o d;
    guards = λ o t d. along_thing (λ (i : ℕ). IsTrue (guard_holds (op_of h i) (values_of (shown_to s i)))) o (λ k p. guards_of k.call k.key p) t;
  }

  -- LEGAL
  module _ (y : KeyedCall) (r : IsReader s y.call y.key) where
    shown : Shown
    shown = shown_of r.key r.cell

    -- a write above the read is not below it
    not_below : (o : KeyedCall) (w : WroteKey o.call o.key r.key) → key_lt (read_key s y.call r.key r.cell.stamp) (write_key s o.call r.key w.stamp) ≡ true → Below o y → ⊥
    not_below o w l b = key_one_way o.key y.key b (subst (λ (x : PlaceKey). key_lt y.key x ≡ true) (sym w.is_key) (subst (λ (x : PlaceKey). key_lt x (write_key s o.call r.key w.stamp) ≡ true) (sym r.is_key) l))

    by_opening : BeforeWrites s y.call r.key r.cell → IsShownByKeys call_of Below h (shown_to s) things y (shown_of r.key r.cell)
    by_opening b = opening none (ap (shown_of r.key) b.opening)
      where
        none : (o : KeyedCall) → Contains things o → Writes h o.call r.key → Below o y → ⊥
        none o m w l = let x = wrote_key o.call o.key r.key (placed o m) w in not_below o x (b.others o.call x.value x.stamp x.write) l

    by_writer : WriterBefore s y.call r.key r.cell → IsShownByKeys call_of Below h (shown_to s) things y (shown_of r.key r.cell)
    by_writer b = written {writer = w.call} w.there w.is_call below (record { mutates = write_mutates r.cell.writer r.key r.cell.value of_kind; written = names }) last same
      where
        w : IsThere s r.cell.writer (write_key s r.cell.writer r.key r.cell.stamp)
        w = placed_there c n q steps s e r.cell.writer r.key r.cell.value r.cell.stamp b.placed

        of_kind : (owner_at s r.cell.writer).kind ≡ kind.Calling (op.Write r.key r.cell.value)
        of_kind = write_kind r.cell.writer r.key r.cell.value b.placed.round b.placed.under_way b.placed.of_work

        below : Below w.call y
        below = subst (λ (x : PlaceKey). key_lt x y.key ≡ true) (sym w.is_key) (subst (λ (x : PlaceKey). key_lt (write_key s r.cell.writer r.key r.cell.stamp) x ≡ true) (sym r.is_key) b.before)

        names : Contains (writes_of (op_of h r.cell.writer)) r.key
        names = subst (λ (x : Op). Contains (writes_of x) r.key) (sym (says s told r.cell.writer _ of_kind).op) (contains_one r.key r.key refl)

        by_others : (o : KeyedCall) (x : WroteKey o.call o.key r.key) → Below o y → (key_lt (write_key s o.call r.key x.stamp) (write_key s r.cell.writer r.key r.cell.stamp) ≡ true) ⊎ (key_lt (read_key s y.call r.key r.cell.stamp) (write_key s o.call r.key x.stamp) ≡ true) → Below o w.call
        by_others o x l (inl a) = subst (λ (k : PlaceKey). key_lt o.key k ≡ true) (sym w.is_key) (subst (λ (k : PlaceKey). key_lt k (write_key s r.cell.writer r.key r.cell.stamp) ≡ true) (sym x.is_key) a)
        by_others o x l (inr a) = absurd (not_below o x a l)

        last : (o : KeyedCall) → Contains things o → Writes h o.call r.key → Below o y → (o.call ≡ r.cell.writer) ⊎ Below o w.call
        last o m d l = by_call (cases_eq o.call r.cell.writer)
          where
            by_call : (o.call ≡ r.cell.writer) ⊎ (o.call ≡ r.cell.writer → ⊥) → (o.call ≡ r.cell.writer) ⊎ Below o w.call
            by_call (inl a) = inl a
            by_call (inr a) = let x = wrote_key o.call o.key r.key (placed o m) d in inr (by_others o x l (b.others o.call x.value x.stamp x.write a))

        same : shown_of r.key r.cell ≡ shown_by_writer h (shown_to s) r.cell.writer r.key
        same =
            ap (λ (t : Bool). if t then shown_of r.key r.cell else opening_table r.key) (sym (same_key-itself r.key))
            ∙ ap (λ (x : Op). shown_after (opening_table r.key) r.cell.writer (written_by x (values_of (shown_to s r.cell.writer)))) (sym (says s told r.cell.writer _ of_kind).op)

    shown_rightly : BeforeWrites s y.call r.key r.cell ⊎ WriterBefore s y.call r.key r.cell → IsShownByKeys call_of Below h (shown_to s) things y (shown_of r.key r.cell)
    shown_rightly (inl b) = by_opening b
    shown_rightly (inr b) = by_writer b

  shown_by : (y : KeyedCall) (x : Shown) → IsPlaced s y.call y.key → Contains (shown_to s y.call) x → IsShownByKeys call_of Below h (shown_to s) things y x
  shown_by y x (inl w) m = absurd (not_in_none x (subst (λ (xs : List Shown). Contains xs x) (writer_given y.call y.key w) m))
  shown_by y x (inr r) m =
      subst (IsShownByKeys call_of Below h (shown_to s) things y) (only_one (shown_of r.key r.cell) x (subst (λ (xs : List Shown). Contains xs x) (reader_given y.call y.key r) m))
      (shown_rightly y r (legal.read y.call r.key r.cell r.dep r.read))

  -- ORDER
  is_ended : (o i : ℕ) → EndsAt h o i → IsTrue (has_ended h o)
  is_ended o i b = ends_at-has_ended h o i b

  no_gets : (i m : ℕ) (token : Token) → entry_at h i ≡ Get m token → ⊥
  no_gets i m token g = let w = (scripts c n q steps s e).gets i m token g in hands_nothing (q.service w.stage) _ (q.statements w.stage w.place) w.hands

  record FollowsInStage (a b : ℕ) : Type 0 where
    before : EndsBefore c n q steps s e a b
    stage : (owner_at s a).stage ≡ (owner_at s b).stage

  follows : (a b : ℕ) → BeforeByMessages h a b → FollowsInStage a b
  follows a b (i, j, x, y, p) =
      let l = path_along h no_gets i j p in
      let d = is_ended a i x in
      record {
        before = record { has_ended = d; dated = dated s told a b i j x y (apart l.forward) };
        stage = sym (end_says d) ∙ (sym (end_stage s told i a x) ∙ (l.stage ∙ sym (begins_there s told j b y).of_stage));
      }
    where
      apart : i ≤ j → i < j
      apart l = by_place (cases_eq i j)
        where
          by_place : (i ≡ j) ⊎ (i ≡ j → ⊥) → i < j
          by_place (inl g) = absurd (ends_or_begins (entry_at h j) a b (subst (EndsAt h a) g x) y)
          by_place (inr g) = grind (arith, l, g)

      end_says : IsTrue (has_ended h a) → stage_of h a ≡ (owner_at s a).stage
      end_says d = let g = (told.replied a d) in (says s told a g.op g.of_kind).stage

  messages : (a : ℕ) (y : KeyedCall) → Contains things y → BeforeByMessages h a y.call → HasBelow call_of Below things a y
  messages a y m p = by_done (follows a y.call p)
    where
      by_done : FollowsInStage a y.call → HasBelow call_of Below things a y
      by_done g = by_end (has_done c n q steps s e a g.before.has_ended)
        where
          with_key : (k : PlaceKey) → IsThere s a k → k.step < y.key.step → HasBelow call_of Below things a y
          with_key k t l = record { thing = t.call; there = t.there; of_call = t.is_call; below = subst (λ (x : PlaceKey). key_lt x y.key ≡ true) (sym t.is_key) (step_below k y.key l) }

          by_end : HasWritten s a ⊎ HasRead s a → HasBelow call_of Below things a y
          by_end (inl w) = with_key _ (written_is_there c n q steps s e a w) (written_before c n q steps s e a y.call y.key w g.before (placed y m))
          by_end (inr r) = with_key _ (read_is_there c n q steps s e a r) (read_before c n q steps s e a y.call y.key r g.before g.stage (placed y m))

  -- an ended write before a call in real time
  in_real_time : (x y : KeyedCall) → Contains things x → Contains things y → BeforeInRealTime h x.call y.call → IsTrue (is_mutation h x.call) → Below x y
  in_real_time x y m k (i, j, a, b, l) w = by_end (has_done c n q steps s e x.call d)
    where
      d : IsTrue (has_ended h x.call)
      d = is_ended x.call i a

      by_end : HasWritten s x.call ⊎ HasRead s x.call → Below x y
      by_end (inr r) = absurd (true≢false (sym w ∙ read_mutates_not x.call r.key (read_kind x.call r.key r.reads.round r.reads.under_way r.reads.of_work)))
      by_end (inl v) =
          let t = written_is_there c n q steps s e x.call v in
          let g : t.call ≡ x = one_each s t.call x t.there m t.is_call in
          subst (λ (z : KeyedCall). Below z y) g
          (subst (λ (z : PlaceKey). key_lt z y.key ≡ true) (sym t.is_key)
          (step_below (write_key s x.call v.key v.stamp) y.key
          (written_before c n q steps s e x.call y.call y.key v (record { has_ended = d; dated = dated s told x.call y.call i j a b l }) (placed y k))))

  ended_there : (o : ℕ) → IsTrue (has_ended h o) → Contains (map call_of things) o
  ended_there o d = by_end (has_done c n q steps s e o d)
    where
      with_key : (k : PlaceKey) → IsThere s o k → Contains (map call_of things) o
      with_key k t = subst (Contains (map call_of things)) t.is_call (calls_contain things t.call t.there)

      by_end : HasWritten s o ⊎ HasRead s o → Contains (map call_of things) o
      by_end (inl w) = with_key _ (written_is_there c n q steps s e o w)
      by_end (inr r) = with_key _ (read_is_there c n q steps s e o r)

  ended_or_mutates : (o : ℕ) (k : PlaceKey) → IsPlaced s o k → IsTrue (has_ended h o) ⊎ IsTrue (is_mutation h o)
  ended_or_mutates o k (inl w) = inr (write_mutates o w.key w.value w.of_kind)
  ended_or_mutates o k (inr r) = inl (told.done o r.read.round (ends.Read r.cell r.dep) r.read.under_way (ap phase_end r.read.in_phase))

  by_keys : AreRegularByKeys call_of Below h (shown_to s) things
  by_keys = record {
    ended = ended_there;
    besides = λ x m. ended_or_mutates x.call x.key (placed x m);
    are_readings = are_readings;
    shown = λ y x m k. shown_by y x (placed y m) k;
    messages = messages;
    mutations = λ x y m k t a b. in_real_time x y m k t a;
    reads = λ x y m k t d. in_real_time x y m k t d.mutates;
  }

  pub regular_places : Regular s.history (placed_calls (places_of s))
  regular_places = subst (Regular s.history) (sym (placed_are (sorted things) 1)) (regular call_of Below things (sorted things) (are_sorted s) asymmetric s.history (shown_to s) by_keys)

-- over every list of steps
pub regular_orders : (c : Config) (n : IsInOrder c) (q : KeepsToServices c) (steps : List Step) → Regular (history_of c steps) (order_of c steps)
regular_orders c n q steps = by_run (run c steps) refl
  where
    begins : run c [] ≡ Some (start c)
    begins = run_is c [] (start c) (run_ends c (start c))

    by_run : (x : Option State) → run c steps ≡ x → Regular (history_in x) (order_in x)
    by_run None e = regular_places c n q [] (start c) begins
    by_run (Some s) e = regular_places c n q steps s e
