-- What lines were told, where a phase is done and the next one begins.
use Rattle.std.proofs.Common.{◌≡◌, ℕ, zero, suc, ◌<◌, ◌≤◌, Bool, true, false, not, List, [], ◌∷◌, length, map, Some, None, refl, sym, ap, ◌∙◌, subst, filter, arith}
use Rattle.std.specs.Prelude.{◌==◌, if◌then◌else◌}
use Rattle.std.proofs.lemmas.Bool.{true≢false}
use Rattle.world_laws.proofs.Looks.{some_is}
use Rattle.truetime.specs.Reading.{Reading}
use Rattle.rss_wire.specs.declared.messages.Outcome.TheVariants as outcomes
use Rattle.rss_tables.specs.Lines.{Line, in_state, coordinator_of, all_answered}
use Rattle.rss_tables.specs.TransactionSession.{TxnSession, leads, guard_of, values_shown, greatest_shown, greatest_prepared, goes_to_prepare, goes_to_free, goes_to_free_last, failing_time, is_prepared, is_wounded, is_decided}
use Rattle.rss_tables.specs.declared.lines.LineState.{LineState}
use Rattle.rss_tables.specs.declared.lines.LineState.TheVariants.{Awaiting, Dropped}
use Rattle.rss_tables.specs.declared.phases.TxnPhase.{TxnPhase}
use Rattle.rss_tables.specs.declared.phases.TxnPhase.TheVariants as phase
use Rattle.rss_machine.specs.State.{State}
use Rattle.session_laws.specs.Cases.{other_lines}
use Rattle.session_laws.specs.Frames.{nth_line, SameTxn}
use Rattle.session_laws.proofs.LineLaws.{answered_nth, length_mapped, nth_map}
use Rattle.txn_state_laws.specs.Told.{has_granted, has_voted, freeing_time, has_released, is_past_guard, LineTold, TxnKnows}
use Rattle.txn_session_laws.proofs.Alike.{ShowAlike, computed_alike, greatest_alike, prepared_alike, show_itself, values_alike}
use Rattle.txn_session_laws.proofs.ToldLines.{told_same}
use Rattle.txn_session_laws.proofs.ToldParts.{Told, nothing_told, knows_same, nothing_known}
use Rattle.txn_session_laws.proofs.Turns.{show_only, times_only, show_all, show_others}
use Rattle.txn_session_laws.proofs.Never.{no, none}

-- of no line a test holds that finds none
pub none_left : (test : Line → Bool) (lines : List Line) → filter test lines ≡ [] → (i : ℕ) → i < length lines → test (nth_line lines i) ≡ true → ⊥
none_left test [] e i h t = omega (arith, h)
none_left test (l ∷ lines) e zero h t = absurd (let a : ◌≡◌ {A = List Line} (l ∷ filter test lines) [] = rw t at e in cc)
none_left test (l ∷ lines) e (suc i) h t = none_left test lines (rest (test l) refl) i (omega (arith, h)) t
  where
    rest : (b : Bool) → test l ≡ b → filter test lines ≡ []
    rest true f = absurd (let a : ◌≡◌ {A = List Line} (l ∷ filter test lines) [] = rw f at e in cc)
    rest false f = rw f at e

-- where each line is changed by itself, each is told by itself
pub mapped_told : (s : State) (y : TxnSession) (g : Line → Line) (lines : List Line) → y.lines ≡ map g lines → ((place : ℕ) → place < length lines → LineTold s y (g (nth_line lines place))) → (place : ℕ) → place < length y.lines → LineTold s y (nth_line y.lines place)
mapped_told s y g lines e told place h = subst (LineTold s y) (sym (ap (λ (xs : List Line). nth_line xs place) e ∙ nth_map g lines place inside)) (told place inside)
  where
    inside : place < length lines
    inside = subst (λ (n : ℕ). place < n) (ap length e ∙ length_mapped g lines) h

module _ (s : State) (u : TxnSession) (told : Told s u) where
  -- where all were answered, all were granted
  all_granted : u.phase ≡ phase.Locking → all_answered u.lines ≡ true → (place : ℕ) → place < length u.lines → has_granted u.phase (nth_line u.lines place).state ≡ true
  all_granted p a place h = ap (λ (q : TxnPhase). has_granted q (nth_line u.lines place).state) p ∙ answered_nth u.lines a place h

  -- all are asked to prepare
  pub prepares_told : (at : Reading) → u.phase ≡ phase.Locking → all_answered u.lines ≡ true → guard_of u.guard (values_shown u) ≡ true → SameTxn u (goes_to_prepare u at).after → Told s (goes_to_prepare u at).after
  prepares_told at p a g same = record {
    lines = mapped_told s y (λ (l : Line). record l { state = Awaiting }) u.lines refl
        (λ place h. told_same s u y (nth_line u.lines place) (record (nth_line u.lines place) { state = Awaiting }) same refl refl (λ e. (all_granted p a place h, refl)) (λ e. no e) (λ time e b. none time e) (told.lines place h));
    knows = record {
      held = λ e. ap (λ (values : List ℕ). guard_of u.guard values) (values_alike u y same (show_all u.lines)) ∙ g;
      failed = λ time e. none time e;
      deciding = λ time e. absurd cc;
    };
  }
    where
      y : TxnSession
      y = (goes_to_prepare u at).after

  -- the guard failed
  failing : (y : TxnSession) (at : Reading) → SameTxn u y → ShowAlike y.lines u.lines → is_past_guard y.phase ≡ false → freeing_time y.phase ≡ Some (failing_time u at) → guard_of u.guard (values_shown u) ≡ false → TxnKnows y
  failing y at same shows past f g = record {
    held = λ e. no (sym past ∙ e);
    failed = λ time e. let b = some_is (failing_time u at) time (sym f ∙ e) in (
      ap (λ (values : List ℕ). guard_of y.guard values) (values_alike u y same shows) ∙ ap (λ guard. guard_of guard (values_shown u)) same.guard ∙ g,
      subst (λ (n : ℕ). n ≤ time) (sym same.least) (subst (λ (n : ℕ). u.least ≤ n) b (omega arith)),
      subst (λ (n : ℕ). n ≤ time) (sym (greatest_alike y.lines u.lines shows)) (subst (λ (n : ℕ). greatest_shown u.lines ≤ n) b (omega arith)),
    );
    deciding = λ time e. no (sym past ∙ ap is_past_guard e);
  }

  -- there is no line but the coordinator's
  frees_only : (at : Reading) → u.phase ≡ phase.Locking → all_answered u.lines ≡ true → guard_of u.guard (values_shown u) ≡ false → other_lines u ≡ [] → SameTxn u (goes_to_free_last u (failing_time u at)).after → Told s (goes_to_free_last u (failing_time u at)).after
  frees_only at p a g others same = record {
    lines = mapped_told s y (λ (l : Line). record l { state = if l.shard == coordinator_of u.lines then Awaiting else Dropped }) u.lines refl
        (λ place h. told_same s u y (nth_line u.lines place) (record (nth_line u.lines place) { state = if (nth_line u.lines place).shard == coordinator_of u.lines then Awaiting else Dropped }) same refl refl
        (λ e. (all_granted p a place h, refl)) (λ e. no e) (λ time e b. absurd (nobody place h _ b)) (told.lines place h));
    knows = failing y at same (show_only (coordinator_of u.lines) u.lines) refl refl g;
  }
    where
      y : TxnSession
      y = (goes_to_free_last u (failing_time u at)).after

      by_lead : (place : ℕ) → place < length u.lines → (state : LineState) (b : Bool) → leads u (nth_line u.lines place) ≡ b → has_released (phase.FreeingLast (failing_time u at)) b state ≡ true → ⊥
      by_lead place h state true e r = true≢false (sym r)
      by_lead place h state false e r = none_left (λ (l : Line). not (leads u l)) u.lines others place h (ap not e)

      nobody : (place : ℕ) → place < length u.lines → (state : LineState) → has_released (phase.FreeingLast (failing_time u at)) (leads u (nth_line u.lines place)) state ≡ true → ⊥
      nobody place h state r = by_lead place h state (leads u (nth_line u.lines place)) refl r

  -- the others are asked to give their locks back
  frees_others : (at : Reading) (l : Line) (more : List Line) → u.phase ≡ phase.Locking → all_answered u.lines ≡ true → guard_of u.guard (values_shown u) ≡ false → SameTxn u (goes_to_free u (failing_time u at) (l ∷ more)).after → Told s (goes_to_free u (failing_time u at) (l ∷ more)).after
  frees_others at l more p a g same = record {
    lines = mapped_told s y (λ (m : Line). if leads u m then m else in_state m Awaiting) u.lines refl (λ place h. by_lead place h (leads u (nth_line u.lines place)) refl);
    knows = failing y at same (show_others u u.lines) refl refl g;
  }
    where
      y : TxnSession
      y = (goes_to_free u (failing_time u at) (l ∷ more)).after

      nobody : (b : Bool) (m : Line) → has_released (phase.Freeing (failing_time u at)) b (if b then m else in_state m Awaiting).state ≡ true → ⊥
      nobody true m r = true≢false (sym r)
      nobody false m r = true≢false (sym r)

      by_lead : (place : ℕ) → place < length u.lines → (b : Bool) → leads u (nth_line u.lines place) ≡ b → LineTold s y (if b then nth_line u.lines place else in_state (nth_line u.lines place) Awaiting)
      by_lead place h true e = told_same s u y (nth_line u.lines place) (nth_line u.lines place) same refl refl (λ f. (all_granted p a place h, refl)) (λ f. no f)
          (λ time f r. absurd (nobody true (nth_line u.lines place) (subst (λ (b : Bool). has_released (phase.Freeing (failing_time u at)) b (nth_line u.lines place).state ≡ true) e r))) (told.lines place h)
      by_lead place h false e = told_same s u y (nth_line u.lines place) (in_state (nth_line u.lines place) Awaiting) same refl refl (λ f. (all_granted p a place h, refl)) (λ f. no f)
          (λ time f r. absurd (nobody false (nth_line u.lines place) (subst (λ (b : Bool). has_released (phase.Freeing (failing_time u at)) b Awaiting ≡ true) e r))) (told.lines place h)

  pub frees_told : (at : Reading) → u.phase ≡ phase.Locking → all_answered u.lines ≡ true → guard_of u.guard (values_shown u) ≡ false → SameTxn u (goes_to_free u (failing_time u at) (other_lines u)).after → Told s (goes_to_free u (failing_time u at) (other_lines u)).after
  frees_told at p a g = by_others (other_lines u) refl
    where
      by_others : (others : List Line) → other_lines u ≡ others → SameTxn u (goes_to_free u (failing_time u at) others).after → Told s (goes_to_free u (failing_time u at) others).after
      by_others [] e same = frees_only at p a g e same
      by_others (l ∷ more) e same = frees_others at l more p a g same

  -- the coordinator is asked to commit
  pub decides_told : u.phase ≡ phase.Preparing → all_answered u.lines ≡ true → SameTxn u (is_prepared u).after → Told s (is_prepared u).after
  decides_told p a same = record {
    lines = mapped_told s y (λ (l : Line). record l { state = if l.shard == coordinator_of u.lines then Awaiting else Dropped }) u.lines refl
        (λ place h. told_same s u y (nth_line u.lines place) (record (nth_line u.lines place) { state = if (nth_line u.lines place).shard == coordinator_of u.lines then Awaiting else Dropped }) same refl refl
        (λ e. (ap (λ (q : TxnPhase). has_granted q (nth_line u.lines place).state) p, refl))
        (λ e. (ap (λ (q : TxnPhase). has_voted q (nth_line u.lines place).state) p ∙ answered_nth u.lines a place h, refl, refl, computed_alike u y same shows))
        (λ time e b. none time e) (told.lines place h));
    knows = knows_same u y same shows (λ e. ap is_past_guard p) (λ time e. none time e) at_greatest told.knows;
  }
    where
      y : TxnSession
      y = (is_prepared u).after

      shows : ShowAlike y.lines u.lines
      shows = show_only (coordinator_of u.lines) u.lines

      at_greatest : (time : ℕ) → y.phase ≡ phase.Deciding time → time ≡ greatest_prepared y.lines
      at_greatest time e =
          let f : ◌≡◌ {A = TxnPhase} (phase.Deciding (greatest_prepared u.lines)) (phase.Deciding time) = e in
          let g : greatest_prepared u.lines ≡ time = cc in
          sym g ∙ sym (prepared_alike y.lines u.lines (times_only (coordinator_of u.lines) u.lines))

  -- the coordinator gives its locks back last
  pub frees_last_told : (time : ℕ) → u.phase ≡ phase.Freeing time → all_answered u.lines ≡ true → SameTxn u (goes_to_free_last u time).after → Told s (goes_to_free_last u time).after
  frees_last_told time p a same = record {
    lines = mapped_told s y (λ (l : Line). record l { state = if l.shard == coordinator_of u.lines then Awaiting else Dropped }) u.lines refl
        (λ place h. told_same s u y (nth_line u.lines place) (record (nth_line u.lines place) { state = if (nth_line u.lines place).shard == coordinator_of u.lines then Awaiting else Dropped }) same refl refl
        (λ e. (ap (λ (q : TxnPhase). has_granted q (nth_line u.lines place).state) p, refl)) (λ e. no e)
        (λ t e b. (ap freeing_time p ∙ e, ap (λ (q : TxnPhase). has_released q (leads u (nth_line u.lines place)) (nth_line u.lines place).state) p ∙ by_lead place h _ (leads u (nth_line u.lines place)) b)) (told.lines place h));
    knows = knows_same u y same (show_only (coordinator_of u.lines) u.lines) (λ e. no e) (λ t e. ap freeing_time p ∙ e) (λ t e. absurd cc) told.knows;
  }
    where
      y : TxnSession
      y = (goes_to_free_last u time).after

      by_lead : (place : ℕ) → place < length u.lines → (state : LineState) (b : Bool) → has_released (phase.FreeingLast time) b state ≡ true → has_released (phase.Freeing time) b (nth_line u.lines place).state ≡ true
      by_lead place h state true r = r
      by_lead place h state false r = answered_nth u.lines a place h

  -- the attempt was wounded
  pub wounded_told : Told s (is_wounded u).after
  wounded_told = record {
    lines = λ place h. nothing_told s (is_wounded u).after (nth_line (is_wounded u).after.lines place) refl refl refl;
    knows = nothing_known (is_wounded u).after refl refl;
  }

  -- the next attempt begins
  pub aborts_told : (at : Reading) → Told s (is_decided u at outcomes.Aborted).after
  aborts_told at = record {
    lines = mapped_told s (is_decided u at outcomes.Aborted).after (λ (l : Line). record l { state = Awaiting; shown = []; prepare_time = 0 }) u.lines refl
        (λ place h. nothing_told s (is_decided u at outcomes.Aborted).after (record (nth_line u.lines place) { state = Awaiting; shown = []; prepare_time = 0 }) refl refl refl);
    knows = nothing_known (is_decided u at outcomes.Aborted).after refl refl;
  }

  -- the commit is known: it is waited for, or has passed
  pub known_told : (q : TxnPhase) → ((state : LineState) → has_granted u.phase state ≡ true) → ((state : LineState) → has_voted u.phase state ≡ true) → is_past_guard u.phase ≡ true → freeing_time q ≡ None → ((time : ℕ) → q ≡ phase.Deciding time → ⊥) → Told s (record u { phase = q })
  known_told q granted voted past f n = record {
    lines = λ place h. told_same s u (record u { phase = q }) (nth_line u.lines place) (nth_line u.lines place) same refl refl (λ e. (granted (nth_line u.lines place).state, refl)) (λ e. (voted (nth_line u.lines place).state, refl, refl, refl))
        (λ time e a. none time (sym f ∙ e)) (told.lines place h);
    knows = knows_same u (record u { phase = q }) same (show_itself u.lines) (λ e. past) (λ time e. none time (sym f ∙ e)) (λ time e. absurd (n time e)) told.knows;
  }
    where
      same : SameTxn u (record u { phase = q })
      same = record { call = refl; reads = refl; guard = refl; writes = refl; least = refl; margin = refl; frames = refl }
