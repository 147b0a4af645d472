-- What lines were told, where one of them hears a reply and the phase stays.
use Rattle.std.proofs.Common.{◌≡◌, ℕ, Bool, true, false, List, refl, sym, ap, ◌∙◌, subst}
use Rattle.world_laws.proofs.Looks.{some_is}
use Rattle.rss_names.specs.declared.service.Key.{Key}
use Rattle.rss_names.specs.declared.service.Target.TheVariants.{Shard}
use Rattle.rss_wire.specs.declared.messages.Version.{Version}
use Rattle.rss_wire.specs.declared.messages.Reply.TheVariants as reply
use Rattle.rss_wire.specs.declared.messages.Request.TheVariants as request
use Rattle.rss_tables.specs.Lines.{Line, with_line, in_state, is_answered}
use Rattle.rss_tables.specs.TransactionSession.{TxnSession, attempt_of, computed, leads, txn_request}
use Rattle.rss_tables.specs.declared.lines.LineState.{LineState}
use Rattle.rss_tables.specs.declared.lines.LineState.TheVariants.{Awaiting, Answered, Dropped}
use Rattle.rss_tables.specs.declared.phases.TxnPhase.{TxnPhase}
use Rattle.rss_tables.specs.declared.phases.TxnPhase.TheVariants as phase
use Rattle.rss_machine.specs.State.{State}
use Rattle.session_laws.specs.Cases.{answered, shown_line, timed_line}
use Rattle.session_laws.specs.Frames.{nth_line, IsLine, AreApartShards, SameTxn}
use Rattle.txn_state_laws.specs.Replied.{Replied}
use Rattle.txn_state_laws.specs.Told.{has_granted, has_voted, freeing_time, has_released, is_past_guard, LineTold}
use Rattle.txn_session_laws.specs.Alone.{is_alone, IsAlone}
use Rattle.txn_session_laws.proofs.Alike.{ShowAlike, show_with_line, times_with_line, computed_alike, prepared_alike}
use Rattle.txn_session_laws.proofs.ToldLines.{Released, leads_same, granted_same, voted_same, released_same, told_same, granted_more, voted_more, released_more}
use Rattle.txn_session_laws.proofs.ToldParts.{Told, same_line, line_told, others_told, lead_one, knows_same, nothing_known}
use Rattle.txn_session_laws.proofs.Never.{no, none}

module _ (s : State) (x : TxnSession) (l : Line) (i : IsLine x.lines l) (apart : AreApartShards x.lines) (told : Told s x) where
  -- what the line that hears was told before
  pub l_told : LineTold s x l
  l_told = subst (LineTold s x) i.at (told.lines i.place i.inside)

  -- a line is granted its locks
  module _ (shown : List (Key × Version)) (p : x.phase ≡ phase.Locking) (r : Replied s (Shard l.shard) (txn_request x phase.Locking l) (reply.Granted shown)) where
    pub same_granted : SameTxn x (answered x (shown_line l shown))
    same_granted = same_line x l (in_state (shown_line l shown) Answered) i apart refl

    granted_line : LineTold s (answered x (shown_line l shown)) (in_state (shown_line l shown) Answered)
    granted_line = record {
      granted = λ e. granted_same s x (answered x (shown_line l shown)) (shown_line l shown) (in_state (shown_line l shown) Answered) same_granted refl refl refl r;
      voted = λ e. no (sym (ap (λ (q : TxnPhase). has_voted q Answered) p) ∙ e);
      released = λ time e a. none time (sym (ap freeing_time p) ∙ e);
    }

    pub granted_told : Told s (answered x (shown_line l shown))
    granted_told = record {
      lines = line_told s x (answered x (shown_line l shown)) l (in_state (shown_line l shown) Answered) i apart refl refl granted_line
          (λ place h n. others_told s x (answered x (shown_line l shown)) (nth_line x.lines place) same_granted refl refl refl (λ e. no (sym (ap (λ (q : TxnPhase). has_voted q (nth_line x.lines place).state) p) ∙ e)) (told.lines place h));
      knows = nothing_known (answered x (shown_line l shown)) (ap is_past_guard p) (ap freeing_time p);
    }

  -- a line is told its prepare time
  module _ (time : ℕ) (p : x.phase ≡ phase.Preparing) (r : Replied s (Shard l.shard) (txn_request x phase.Preparing l) (reply.Prepared time)) where
    pub same_prepared : SameTxn x (answered x (timed_line l time))
    same_prepared = same_line x l (in_state (timed_line l time) Answered) i apart refl

    show_prepared : ShowAlike (answered x (timed_line l time)).lines x.lines
    show_prepared = show_with_line x.lines l (in_state (timed_line l time) Answered) i apart refl refl

    computed_prepared : computed (answered x (timed_line l time)) ≡ computed x
    computed_prepared = computed_alike x (answered x (timed_line l time)) same_prepared show_prepared

    prepared_line : LineTold s (answered x (timed_line l time)) (in_state (timed_line l time) Answered)
    prepared_line = record {
      granted = λ e. granted_same s x (answered x (timed_line l time)) l (in_state (timed_line l time) Answered) same_prepared refl refl refl (l_told.granted (ap (λ (q : TxnPhase). has_granted q l.state) p));
      voted = λ e. voted_same s x (answered x (timed_line l time)) (timed_line l time) (in_state (timed_line l time) Answered) same_prepared refl refl refl refl computed_prepared r;
      released = λ t e a. none t (sym (ap freeing_time p) ∙ e);
    }

    pub prepared_told : Told s (answered x (timed_line l time))
    prepared_told = record {
      lines = line_told s x (answered x (timed_line l time)) l (in_state (timed_line l time) Answered) i apart refl refl prepared_line
          (λ place h n. others_told s x (answered x (timed_line l time)) (nth_line x.lines place) same_prepared refl refl refl (λ e. computed_prepared) (told.lines place h));
      knows = knows_same x (answered x (timed_line l time)) same_prepared show_prepared (λ e. e) (λ t e. e) (λ t e. absurd (let a = sym p ∙ e in cc)) told.knows;
    }

  -- only the state of a line changes, and it is not answered where it was not before
  module _ (state : LineState) (more : is_answered state ≡ true → is_answered l.state ≡ true) where
    same_stated : SameTxn x (record x { lines = with_line x.lines (in_state l state) })
    same_stated = same_line x l (in_state l state) i apart refl

    show_stated : ShowAlike (with_line x.lines (in_state l state)) x.lines
    show_stated = show_with_line x.lines l (in_state l state) i apart refl refl

    computed_stated : computed (record x { lines = with_line x.lines (in_state l state) }) ≡ computed x
    computed_stated = computed_alike x (record x { lines = with_line x.lines (in_state l state) }) same_stated show_stated

    stated_line : LineTold s (record x { lines = with_line x.lines (in_state l state) }) (in_state l state)
    stated_line = told_same s x (record x { lines = with_line x.lines (in_state l state) }) l (in_state l state) same_stated refl refl
        (λ e. (granted_more x.phase state l.state more e, refl)) (λ e. (voted_more x.phase state l.state more e, refl, refl, computed_stated)) (λ time e a. (e, released_more x.phase (leads x l) state l.state more a)) l_told

    pub stated_told : Told s (record x { lines = with_line x.lines (in_state l state) })
    stated_told = record {
      lines = line_told s x (record x { lines = with_line x.lines (in_state l state) }) l (in_state l state) i apart refl refl stated_line
          (λ place h n. others_told s x (record x { lines = with_line x.lines (in_state l state) }) (nth_line x.lines place) same_stated refl refl refl (λ e. computed_stated) (told.lines place h));
      knows = knows_same x (record x { lines = with_line x.lines (in_state l state) }) same_stated show_stated (λ e. e) (λ t e. e)
          (λ t e. told.knows.deciding t e ∙ sym (prepared_alike (with_line x.lines (in_state l state)) x.lines (times_with_line x.lines l (in_state l state) i apart refl refl))) told.knows;
    }

  pub same_answered : SameTxn x (answered x l)
  same_answered = same_line x l (in_state l Answered) i apart refl

  show_answered : ShowAlike (answered x l).lines x.lines
  show_answered = show_with_line x.lines l (in_state l Answered) i apart refl refl

  -- a line that is not the coordinator's has given its locks back
  module _ (time : ℕ) (p : x.phase ≡ phase.Freeing time) (r : Replied s (Shard l.shard) (txn_request x (phase.Freeing time) l) reply.Released) where
    own_release : (t : ℕ) → time ≡ t → (b : Bool) → leads x l ≡ b → has_released (phase.Freeing time) b Answered ≡ true → Released s x l t
    own_release t e true f a = no a
    own_release t e false f a = subst (λ (n : ℕ). Released s x l n) e (subst (λ (leading : Bool). Replied s (Shard l.shard) (request.Release (attempt_of x) time leading) reply.Released) (sym f) r)

    released_line : LineTold s (answered x l) (in_state l Answered)
    released_line = record {
      granted = λ e. granted_same s x (answered x l) l (in_state l Answered) same_answered refl refl refl (l_told.granted (ap (λ (q : TxnPhase). has_granted q l.state) p));
      voted = λ e. no (sym (ap (λ (q : TxnPhase). has_voted q Answered) p) ∙ e);
      released = λ t e a. released_same s x (answered x l) l (in_state l Answered) same_answered refl refl t
          (own_release t (some_is time t (sym (ap freeing_time p) ∙ e)) (leads x l) refl
          (subst (λ (q : TxnPhase). has_released q (leads x l) Answered ≡ true) p (subst (λ (leading : Bool). has_released x.phase leading Answered ≡ true) (leads_same x (answered x l) l (in_state l Answered) same_answered refl) a)));
    }

    pub released_told : Told s (answered x l)
    released_told = record {
      lines = line_told s x (answered x l) l (in_state l Answered) i apart refl refl released_line
          (λ place h n. others_told s x (answered x l) (nth_line x.lines place) same_answered refl refl refl (λ e. no (sym (ap (λ (q : TxnPhase). has_voted q (nth_line x.lines place).state) p) ∙ e)) (told.lines place h));
      knows = knows_same x (answered x l) same_answered show_answered (λ e. e) (λ t e. e) (λ t e. absurd (let a = sym p ∙ e in cc)) told.knows;
    }

  -- the coordinator's line has given its locks back, last of all
  module _ (time : ℕ) (p : x.phase ≡ phase.FreeingLast time) (w : l.state ≡ Awaiting) (alone : IsAlone x) (r : Replied s (Shard l.shard) (txn_request x (phase.FreeingLast time) l) reply.Released) where
    same_failed : SameTxn x (record (answered x l) { phase = phase.Failed time })
    same_failed = record { call = refl; reads = refl; guard = refl; writes = refl; least = refl; margin = refl; frames = same_answered.frames }

    l_leads : leads x l ≡ true
    l_leads = by_lead (leads x l) refl
      where
        dropped : leads x l ≡ false → l.state ≡ Dropped
        dropped e = ap (λ (m : Line). m.state) (sym i.at) ∙ alone.others (ap is_alone p) i.place i.inside (ap (leads x) i.at ∙ e)

        by_lead : (b : Bool) → leads x l ≡ b → leads x l ≡ true
        by_lead true e = e
        by_lead false e = absurd (let a = sym w ∙ dropped e in cc)

    last_release : (t : ℕ) → time ≡ t → Released s x l t
    last_release t e = subst (λ (n : ℕ). Released s x l n) e (subst (λ (leading : Bool). Replied s (Shard l.shard) (request.Release (attempt_of x) time leading) reply.Released) (sym l_leads) r)

    failed_line : LineTold s (record (answered x l) { phase = phase.Failed time }) (in_state l Answered)
    failed_line = record {
      granted = λ e. granted_same s x (record (answered x l) { phase = phase.Failed time }) l (in_state l Answered) same_failed refl refl refl (l_told.granted (ap (λ (q : TxnPhase). has_granted q l.state) p));
      voted = λ e. no e;
      released = λ t e a. released_same s x (record (answered x l) { phase = phase.Failed time }) l (in_state l Answered) same_failed refl refl t (last_release t (some_is time t e));
    }

    -- the others had given them back before
    freed_before : (m : Line) → (m.shard ≡ l.shard → ⊥) → has_released x.phase (leads x m) m.state ≡ true
    freed_before m n = by_lead (leads x m) refl
      where
        by_lead : (b : Bool) → leads x m ≡ b → has_released x.phase (leads x m) m.state ≡ true
        by_lead true e = absurd (n (lead_one x l m l_leads e))
        by_lead false e = ap (λ (q : TxnPhase). has_released q (leads x m) m.state) p ∙ ap (λ (leading : Bool). has_released (phase.FreeingLast time) leading m.state) e

    failed_other : (m : Line) → (m.shard ≡ l.shard → ⊥) → LineTold s x m → LineTold s (record (answered x l) { phase = phase.Failed time }) m
    failed_other m n h = told_same s x (record (answered x l) { phase = phase.Failed time }) m m same_failed refl refl
        (λ e. (ap (λ (q : TxnPhase). has_granted q m.state) p, refl)) (λ e. no e) (λ t e a. (ap freeing_time p ∙ e, freed_before m n)) h

    pub failed_told : Told s (record (answered x l) { phase = phase.Failed time })
    failed_told = record {
      lines = line_told s x (record (answered x l) { phase = phase.Failed time }) l (in_state l Answered) i apart refl refl failed_line (λ place h n. failed_other (nth_line x.lines place) n (told.lines place h));
      knows = knows_same x (record (answered x l) { phase = phase.Failed time }) same_failed show_answered (λ e. no e) (λ t e. ap freeing_time p ∙ e) (λ t e. absurd cc) told.knows;
    }
