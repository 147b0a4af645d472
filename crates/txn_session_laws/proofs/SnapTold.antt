-- What lines were told, whatever a snapshot does.
use Rattle.std.proofs.Common.{◌≡◌, ◌⊎◌, inl, inr, ℕ, ◌<◌, ◌≤◌, Bool, true, false, List, [], ◌∷◌, length, Some, refl, sym, ap, ◌∙◌, subst, filter, arith}
use Rattle.std.specs.Prelude.{if◌then◌else◌}
use Rattle.world_laws.proofs.Looks.{some_is}
use Rattle.truetime.specs.Reading.{Reading}
use Rattle.rss_names.specs.declared.service.Key.{Key}
use Rattle.rss_names.specs.declared.service.Target.TheVariants.{Shard}
use Rattle.rss_wire.specs.declared.messages.Reply.TheVariants as reply
use Rattle.rss_wire.specs.declared.messages.Request.TheVariants as request
use Rattle.rss_wire.specs.declared.messages.Skipped.{Skipped}
use Rattle.rss_wire.specs.declared.messages.Version.{Version}
use Rattle.rss_tables.specs.Lines.{Line, with_line, in_state, is_answered, all_answered}
use Rattle.rss_tables.specs.SnapshotSession.{SnapSession, snap_request, second_round, snapshot_time, must_ask_again, asked_again}
use Rattle.rss_tables.specs.declared.lines.LineState.{LineState}
use Rattle.rss_tables.specs.declared.lines.LineState.TheVariants.{Awaiting, Answered}
use Rattle.rss_tables.specs.declared.phases.SnapPhase.{SnapPhase}
use Rattle.rss_tables.specs.declared.phases.SnapPhase.TheVariants.{First, Second, Done}
use Rattle.rss_machine.specs.State.{State}
use Rattle.shard_laws.specs.Closed.{EachOf}
use Rattle.shard_laws.specs.Snapshots.{IsBefore}
use Rattle.shard_event_laws.specs.Known.{Known}
use Rattle.session_laws.specs.Frames.{nth_line, IsLine, AreApartShards, frame_of}
use Rattle.session_laws.specs.SnapCases.{snap_answered, told_line}
use Rattle.session_laws.proofs.LineLaws.{answered_nth, length_with_line, length_mapped, nth_map}
use Rattle.session_laws.proofs.Shown.{greatest_time_above, greatest_shown_above}
use Rattle.txn_state_laws.specs.Replied.{Replied}
use Rattle.txn_state_laws.specs.Told.{snap_time, IsFinal, SnapLineTold, SnapKnows}
use Rattle.txn_session_laws.proofs.Alike.{with_line_nth}
use Rattle.txn_session_laws.proofs.Replies.{replied_fits}
use Rattle.txn_session_laws.proofs.ToldPhases.{none_left}
use Rattle.txn_session_laws.proofs.SnapReplies.{IsAnswer, answer_is, all_after, shown_upto}
use Rattle.txn_session_laws.proofs.Never.{no, none}

-- what all lines of a snapshot were told, and what it knows
pub record SnapTold (s : State) (x : SnapSession) : Type 0 where
  pub lines : (place : ℕ) → place < length x.lines → SnapLineTold s x (nth_line x.lines place)
  pub knows : SnapKnows x

-- a line that stays, in another phase or beside other lines
final_again : (s : State) (x : SnapSession) (l : Line) (p : SnapPhase) (lines : List Line) (state : LineState) (time : ℕ) → IsFinal s x l time → IsFinal s (record x { phase = p; lines = lines }) (in_state l state) time
final_again s x l p lines state time h = record { read_time = h.read_time; skip = h.skip; replied = h.replied; upto = h.upto; passed = h.passed; below = h.below }

line_again : (s : State) (x : SnapSession) (l : Line) (lines : List Line) (state : LineState) → (is_answered state ≡ true → is_answered l.state ≡ true) → (is_answered l.state ≡ true → is_answered state ≡ true) → SnapLineTold s x l → SnapLineTold s (record x { lines = lines }) (in_state l state)
line_again s x l lines state more back h = record {
  first = λ read_time e a. h.first read_time e (more a);
  final = λ time e a. final_again s x l x.phase lines state time (h.final time e (more a));
  done = λ time e. back (h.done time e);
}

knows_again : (x : SnapSession) (lines : List Line) → SnapKnows x → SnapKnows (record x { lines = lines })
knows_again x lines h = record { first = h.first; later = h.later }

-- the request of a later phase
later_request : (x : SnapSession) (l : Line) (p : SnapPhase) (time : ℕ) → snap_time p ≡ Some time → snap_request x p l ≡ request.Snapshot time x.least l.reads false
later_request x l (First read_time) time e = none time e
later_request x l (Second other) time e = ap (λ (t : ℕ). request.Snapshot t x.least l.reads false) (some_is other time e)
later_request x l (Done other) time e = ap (λ (t : ℕ). request.Snapshot t x.least l.reads false) (some_is other time e)

-- a line that was asked at the time itself, and nobody was passed by
pub final_asked : (at : Reading) (s : State) (x : SnapSession) (l : Line) (time : ℕ) → Known at s → Replied s (Shard l.shard) (request.Snapshot time x.least l.reads false) (reply.Values l.shown l.skipped) → IsFinal s x l time
final_asked at s x l time known r = record {
  read_time = time;
  skip = false;
  replied = r;
  upto = omega arith;
  passed = subst (EachOf (IsBefore time)) (sym (answer.passed refl)) tt;
  below = λ key v e. let a = greatest_time_above l.shown key v e in let b = answer.upto in omega (arith, a, b);
}
  where
    answer : IsAnswer time false l.shown l.skipped
    answer = answer_is time x.least l.reads false l.shown l.skipped (replied_fits at s l.shard _ _ known r)

module _ (at : Reading) (s : State) (known : Known at s) (x : SnapSession) where
  -- one line changes
  module _ (l : Line) (i : IsLine x.lines l) (apart : AreApartShards x.lines) (told : SnapTold s x) where
    l_told : SnapLineTold s x l
    l_told = subst (SnapLineTold s x) i.at (told.lines i.place i.inside)

    one_told : (new : Line) → frame_of new ≡ frame_of l → SnapLineTold s (record x { lines = with_line x.lines new }) new → SnapTold s (record x { lines = with_line x.lines new })
    one_told new f h = record { lines = at_place; knows = knows_again x (with_line x.lines new) told.knows }
      where
        y : SnapSession
        y = record x { lines = with_line x.lines new }

        at_place : (place : ℕ) → place < length (with_line x.lines new) → SnapLineTold s y (nth_line (with_line x.lines new) place)
        at_place place a = by_place (with_line_nth x.lines l new i apart (ap (λ g. g.shard) f) place inside)
          where
            inside : place < length x.lines
            inside = subst (λ (n : ℕ). place < n) (length_with_line x.lines new) a

            by_place : ((nth_line (with_line x.lines new) place ≡ new) × (nth_line x.lines place ≡ l)) ⊎ ((nth_line (with_line x.lines new) place ≡ nth_line x.lines place) × ((nth_line x.lines place).shard ≡ l.shard → ⊥)) → SnapLineTold s y (nth_line (with_line x.lines new) place)
            by_place (inl g) = subst (SnapLineTold s y) (sym g.0) h
            by_place (inr g) = subst (SnapLineTold s y) (sym g.0) (line_again s x (nth_line x.lines place) (with_line x.lines new) (nth_line x.lines place).state (λ e. e) (λ e. e) (told.lines place inside))

    -- its state alone
    pub stated_told : (state : LineState) → (is_answered state ≡ true → is_answered l.state ≡ true) → (is_answered l.state ≡ true → is_answered state ≡ true) → SnapTold s (record x { lines = with_line x.lines (in_state l state) })
    stated_told state more back = one_told (in_state l state) refl (line_again s x l (with_line x.lines (in_state l state)) state more back l_told)

    -- it is shown what its keys have
    pub shown_told : (versions : List (Key × Version)) (skipped : List Skipped) → ((p : SnapPhase) → x.phase ≡ p → Replied s (Shard l.shard) (snap_request x p l) (reply.Values versions skipped)) → SnapTold s (snap_answered x (told_line l versions skipped))
    shown_told versions skipped own = one_told (in_state (told_line l versions skipped) Answered) refl record {
      first = λ read_time e a. own (First read_time) e;
      final = λ time e a. final_again s x (told_line l versions skipped) x.phase (with_line x.lines (in_state (told_line l versions skipped) Answered)) Answered time
          (final_asked at s x (told_line l versions skipped) time known (subst (λ q. Replied s (Shard l.shard) q (reply.Values versions skipped)) (later_request x l x.phase time e) (own x.phase refl)));
      done = λ time e. refl;
    }

  -- all lines of the first round are answered
  module _ (told : SnapTold s x) (read_time : ℕ) (p : x.phase ≡ First read_time) (all : all_answered x.lines ≡ true) where
    first_reply : (place : ℕ) → place < length x.lines → Replied s (Shard (nth_line x.lines place).shard) (request.Snapshot read_time x.least (nth_line x.lines place).reads true) (reply.Values (nth_line x.lines place).shown (nth_line x.lines place).skipped)
    first_reply place h = (told.lines place h).first read_time p (answered_nth x.lines all place h)

    time_upto : snapshot_time x ≤ read_time
    time_upto =
        let a = told.knows.first read_time p in
        let b = shown_upto x.lines read_time (λ place h. (answer_is read_time x.least (nth_line x.lines place).reads true (nth_line x.lines place).shown (nth_line x.lines place).skipped (replied_fits at s (nth_line x.lines place).shard _ _ known (first_reply place h))).upto) in
        omega (arith, a, b)

    first_final : (place : ℕ) → place < length x.lines → must_ask_again (snapshot_time x) (nth_line x.lines place) ≡ false → IsFinal s x (nth_line x.lines place) (snapshot_time x)
    first_final place h e = record {
      read_time = read_time;
      skip = true;
      replied = first_reply place h;
      upto = time_upto;
      passed = all_after (snapshot_time x) (nth_line x.lines place).skipped e;
      below = λ key v f. let a = greatest_shown_above x.lines place key v h f in omega (arith, a);
    }

    -- nobody is asked again
    done_told : ((place : ℕ) → place < length x.lines → must_ask_again (snapshot_time x) (nth_line x.lines place) ≡ false) → SnapTold s (record x { phase = Done (snapshot_time x) })
    done_told n = record {
      lines = λ place h. record {
        first = λ t e a. absurd (let f : ◌≡◌ {A = SnapPhase} (Done (snapshot_time x)) (First t) = e in cc);
        final = λ t e a. subst (λ (time : ℕ). IsFinal s (record x { phase = Done (snapshot_time x) }) (nth_line x.lines place) time) (some_is (snapshot_time x) t e)
            (final_again s x (nth_line x.lines place) (Done (snapshot_time x)) x.lines (nth_line x.lines place).state (snapshot_time x) (first_final place h (n place h)));
        done = λ t e. answered_nth x.lines all place h;
      };
      knows = record {
        first = λ t e. absurd (let f : ◌≡◌ {A = SnapPhase} (Done (snapshot_time x)) (First t) = e in cc);
        later = λ t e. let f = some_is (snapshot_time x) t e in omega (arith, f);
      };
    }

    -- some are asked again
    second_line : (place : ℕ) → place < length x.lines → (b : Bool) → must_ask_again (snapshot_time x) (nth_line x.lines place) ≡ b → SnapLineTold s (record x { phase = Second (snapshot_time x); lines = asked_again (snapshot_time x) x.lines }) (if b then in_state (nth_line x.lines place) Awaiting else nth_line x.lines place)
    second_line place h true e = record {
      first = λ t f a. no a;
      final = λ t f a. no a;
      done = λ t f. absurd (let g : ◌≡◌ {A = SnapPhase} (Second (snapshot_time x)) (Done t) = f in cc);
    }
    second_line place h false e = record {
      first = λ t f a. absurd (let g : ◌≡◌ {A = SnapPhase} (Second (snapshot_time x)) (First t) = f in cc);
      final = λ t f a. subst (λ (time : ℕ). IsFinal s (record x { phase = Second (snapshot_time x); lines = asked_again (snapshot_time x) x.lines }) (nth_line x.lines place) time) (some_is (snapshot_time x) t f)
          (final_again s x (nth_line x.lines place) (Second (snapshot_time x)) (asked_again (snapshot_time x) x.lines) (nth_line x.lines place).state (snapshot_time x) (first_final place h e));
      done = λ t f. absurd (let g : ◌≡◌ {A = SnapPhase} (Second (snapshot_time x)) (Done t) = f in cc);
    }

    second_told : SnapTold s (record x { phase = Second (snapshot_time x); lines = asked_again (snapshot_time x) x.lines })
    second_told = record {
      lines = λ place h. let inside : place < length x.lines = subst (λ (n : ℕ). place < n) (length_mapped _ x.lines) h in
          subst (SnapLineTold s (record x { phase = Second (snapshot_time x); lines = asked_again (snapshot_time x) x.lines })) (sym (nth_map _ x.lines place inside)) (second_line place inside (must_ask_again (snapshot_time x) (nth_line x.lines place)) refl);
      knows = record {
        first = λ t e. absurd (let f : ◌≡◌ {A = SnapPhase} (Second (snapshot_time x)) (First t) = e in cc);
        later = λ t e. let f = some_is (snapshot_time x) t e in omega (arith, f);
      };
    }

    nobody_again : (lines : List Line) → filter (must_ask_again (snapshot_time x)) lines ≡ [] → (place : ℕ) → place < length lines → must_ask_again (snapshot_time x) (nth_line lines place) ≡ false
    nobody_again lines e place h = by_test (must_ask_again (snapshot_time x) (nth_line lines place)) refl
      where
        by_test : (b : Bool) → must_ask_again (snapshot_time x) (nth_line lines place) ≡ b → must_ask_again (snapshot_time x) (nth_line lines place) ≡ false
        by_test true f = absurd (none_left (must_ask_again (snapshot_time x)) lines e place h f)
        by_test false f = f

    pub round_told : SnapTold s (second_round x (snapshot_time x) (filter (must_ask_again (snapshot_time x)) x.lines)).after
    round_told = by_again (filter (must_ask_again (snapshot_time x)) x.lines) refl
      where
        by_again : (again : List Line) → filter (must_ask_again (snapshot_time x)) x.lines ≡ again → SnapTold s (second_round x (snapshot_time x) again).after
        by_again [] e = done_told (nobody_again x.lines e)
        by_again (l ∷ again) e = second_told

  -- all lines of the second round are answered
  pub end_told : SnapTold s x → (time : ℕ) → x.phase ≡ Second time → all_answered x.lines ≡ true → SnapTold s (record x { phase = Done time })
  end_told told time p all = record {
    lines = λ place h. record {
      first = λ t e a. absurd (let f : ◌≡◌ {A = SnapPhase} (Done time) (First t) = e in cc);
      final = λ t e a. final_again s x (nth_line x.lines place) (Done time) x.lines (nth_line x.lines place).state t ((told.lines place h).final t (ap snap_time p ∙ e) a);
      done = λ t e. answered_nth x.lines all place h;
    };
    knows = record {
      first = λ t e. absurd (let f : ◌≡◌ {A = SnapPhase} (Done time) (First t) = e in cc);
      later = λ t e. told.knows.later t (ap snap_time p ∙ e);
    };
  }
