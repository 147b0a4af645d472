-- What an attempt that has given its locks back was shown is closed, after every event.
use Rattle.std.proofs.Common.{◌≡◌, ◌⊎◌, inl, inr, ℕ, ◌-◌, ◌<◌, ◌≤◌, Bool, true, List, length, Option, Some, None, is_some, IsTrue, refl, sym, ap, ◌∙◌, subst, arith}
use Rattle.std.proofs.lemmas.Bool.{true≢false}
use Rattle.truetime.specs.Reading.{Reading}
use Rattle.rss_names.specs.declared.attempt.Attempt.{Attempt}
use Rattle.rss_names.specs.declared.service.Key.{Key}
use Rattle.pipeline_lang.specs.declared.config.Config.{Config}
use Rattle.rss_wire.specs.declared.messages.Request.{Request}
use Rattle.rss_wire.specs.declared.messages.Request.TheVariants.{Release}
use Rattle.rss_wire.specs.declared.messages.Version.{Version}
use Rattle.rss_tables.specs.Attempts.{has_attempt}
use Rattle.rss_tables.specs.Lines.{Line, version_in, coordinator_of}
use Rattle.rss_tables.specs.Locks.{LockHolder, has_key}
use Rattle.rss_tables.specs.ShardRow.{Shard as ShardState, can_release, shard_after}
use Rattle.rss_tables.specs.TransactionSession.{TxnSession, attempt_of}
use Rattle.rss_tables.specs.declared.phases.TxnPhase.TheVariants as phase
use Rattle.rss_machine.specs.Moves.{serves_shard}
use Rattle.rss_machine.specs.State.{State, shard_at}
use Rattle.world_laws.proofs.Looks.{some_is}
use Rattle.shard_laws.specs.Entries.{holder_of}
use Rattle.shard_laws.specs.Locked.{IsGone}
use Rattle.shard_laws.specs.Snapshots.{ClosesAt}
use Rattle.shard_laws.proofs.Holding.{released_is}
use Rattle.shard_laws.proofs.Lists.{holds_is}
use Rattle.shard_laws.specs.Orderly.{HoldsShown}
use Rattle.shard_laws.proofs.ReleasesClose.{released_from, release_closes}
use Rattle.shard_laws.proofs.Stays.{closes_stay}
use Rattle.session_laws.specs.Frames.{nth_line}
use Rattle.session_laws.proofs.Frames.{frames_length, frames_shard, frames_reads}
use Rattle.session_laws.proofs.Shown.{greatest_shown_above}
use Rattle.shard_event_laws.specs.Events.{WasAsked}
use Rattle.txn_state_laws.specs.Closed.{LineFreed}
use Rattle.txn_state_laws.specs.Framed.{AllFramed, OfAttempt, IsLineOf}
use Rattle.txn_state_laws.specs.Justified.{AllJust, ReleaseIs}
use Rattle.txn_state_laws.specs.Onward.{AllOnward}
use Rattle.txn_state_laws.specs.Orderly.{AllOrderly, AllInOrder}
use Rattle.txn_state_laws.specs.Told.{AllTold, LineTold, freeing_time}
use Rattle.txn_shard_laws.specs.Unreleased.{MayHaveReleased, AllUnreleased}
use Rattle.txn_state_laws.proofs.Grows.{one_txn, attempt_is, line_first}
use Rattle.txn_state_laws.proofs.Replies.{Quiet}
use Rattle.txn_state_laws.proofs.Serves.{quiet_shard, served_at, same_place}
use Rattle.txn_shard_laws.proofs.ClosedGrows.{CameOf, came_of, not_undone, freeing_granted}
use Rattle.txn_shard_laws.proofs.Unreleased.{had_released, release_is, attempt_then}

-- what was shown to lines of attempts that have given their locks back is closed
abbrev pub FreedAt : State → Type 0
FreedAt s = (shard : ℕ) (a : Attempt) (x : TxnSession) (l : Line) (time : ℕ) → 1 ≤ shard → has_attempt (shard_at s shard).released a ≡ true
    → OfAttempt s a x → a.k ≡ x.k → IsLineOf x shard l → freeing_time x.phase ≡ Some time → LineFreed (shard_at s shard) l time

-- WHERE SHARDS STAY

module _ (s t : State) (stay : Quiet s t) (onward : AllOnward s t) (unreleased : AllUnreleased s) (freed_before : FreedAt s) where
  -- an attempt that gives its locks back on some shard did so at the same time before, where it was in that list
  pub freed_grows : FreedAt t
  freed_grows n a y l time i e f p m g = subst (λ (sh : ShardState). LineFreed sh l time) (sym (quiet_shard s t stay n)) freed
    where
      there : has_attempt (shard_at s n).released a ≡ true
      there = had_released s t stay n a e

      came : CameOf s a y
      came = came_of s t a y onward (unreleased.known n a there) f p

      -- it was giving its locks back at the same time
      by_time : (other : ℕ) → freeing_time came.txn.phase ≡ Some other → (freeing_time y.phase ≡ Some other) ⊎ (y.phase ≡ phase.Undoing) → freeing_time came.txn.phase ≡ Some time
      by_time other d (inl h) = d ∙ sym h ∙ g
      by_time other d (inr h) = absurd (not_undone y.phase time g h)

      by_phase : MayHaveReleased came.txn.phase → freeing_time came.txn.phase ≡ Some time
      by_phase (inl h) = by_time h.0 h.1 (came.onward.freeing h.0 h.1)
      by_phase (inr h) = absurd (not_undone y.phase time g (came.onward.undoing h))

      freeing : freeing_time came.txn.phase ≡ Some time
      freeing = by_phase (unreleased.phases n a came.txn there came.of came.present)

      -- the line was the same
      place : ℕ
      place = m.is.place

      inside : place < length came.txn.lines
      inside = let k = frames_length y.lines came.txn.lines came.same.frames in let j = m.is.inside in omega (arith, k, j)

      line : Line
      line = nth_line came.txn.lines place

      was_line : IsLineOf came.txn n line
      was_line = record {
        is = record { place = place; inside = inside; at = refl };
        on = sym (frames_shard y.lines came.txn.lines came.same.frames place) ∙ ap (λ (x : Line). x.shard) m.is.at ∙ m.on;
      }

      by_shown : (y.phase ≡ phase.Undoing) ⊎ ((nth_line y.lines place).shown ≡ line.shown) → l.shown ≡ line.shown
      by_shown (inl h) = absurd (not_undone y.phase time g h)
      by_shown (inr h) = ap (λ (x : Line). x.shown) (sym m.is.at) ∙ h

      shown : l.shown ≡ line.shown
      shown = by_shown (came.onward.shown place inside (freeing_granted came.txn.phase line.state time freeing))

      reads : l.reads ≡ line.reads
      reads = ap (λ (x : Line). x.reads) (sym m.is.at) ∙ frames_reads y.lines came.txn.lines came.same.frames place

      freed : LineFreed (shard_at s n) l time
      freed key v k h = freed_before n a came.txn line time i there came.of came.present was_line freeing key v
          (ap (λ (keys : List Key). has_key keys key) (sym reads) ∙ k) (ap (λ (versions : List (Key × Version)). version_in versions key) (sym shown) ∙ h)

-- WHERE A SHARD SERVES

-- who can release is not done with
can_not : (sh : ShardState) (a : Attempt) → can_release sh a ≡ true → IsGone sh a → ⊥
can_not sh a e g = none_held (holder_of sh.locks.holders a) g.free (sym (holds_is sh.locks.holders a) ∙ (released_is sh a e).0)
  where
    none_held : (o : Option LockHolder) → o ≡ None → is_some o ≡ true → ⊥
    none_held o f h = true≢false (sym h ∙ ap is_some f)

module _ (c : Config) (at : Reading) (s : State) (m shard : ℕ) (q : Request) (framed : AllFramed c s) (told : AllTold s) (just : AllJust s) (orderly : AllOrderly c s) (ordered : AllInOrder s) (asked : WasAsked s m shard q) (freed_before : FreedAt s) where
  -- a release closes what the line was shown
  released_now : (a : Attempt) (x : TxnSession) (l : Line) (time asked_time : ℕ) (last : Bool) → q ≡ Release a asked_time last → IsTrue (can_release (shard_at s shard) a) → OfAttempt s a x → a.k ≡ x.k → IsLineOf x shard l → freeing_time x.phase ≡ Some time → LineFreed (shard_after (shard_at s shard) at.latest q) l time
  released_now a x l time asked_time last e can f p line g key v k h =
      subst (λ (r : Request). ClosesAt (shard_after (shard_at s shard) at.latest r) key time v) (sym asks)
      (release_closes (shard_at s shard) at.latest time last a l.reads l.writes l.shown (orderly.orderly shard) held can key v k h upto)
    where
      reason : ReleaseIs s shard a asked_time last
      reason = release_is s m shard a asked_time last just (subst (WasAsked s m shard) e asked)

      by_now : (freeing_time x.phase ≡ Some asked_time) ⊎ (x.phase ≡ phase.Undoing) → asked_time ≡ time
      by_now (inl d) = some_is asked_time time (sym d ∙ g)
      by_now (inr d) = absurd (not_undone x.phase time g d)

      same_time : asked_time ≡ time
      same_time = by_now (subst (λ (z : TxnSession). a.k ≡ z.k → (freeing_time z.phase ≡ Some asked_time) ⊎ (z.phase ≡ phase.Undoing)) (one_txn s a reason.txn x reason.of f) reason.now p)

      asks : q ≡ Release a time last
      asks = e ∙ ap (λ (i : ℕ). Release a i last) same_time

      -- the line was granted its locks, and holds them still
      was_told : LineTold s x l
      was_told = subst (LineTold s x) line.is.at (told.txn a.call line.is.place x f.under_way line.is.inside)

      same_attempt : attempt_of x ≡ a
      same_attempt = attempt_is x a (framed.txn a.call x f.under_way).call p

      by_held : HoldsShown (shard_at s shard) a l.reads l.writes l.shown ⊎ IsGone (shard_at s shard) a → HoldsShown (shard_at s shard) a l.reads l.writes l.shown
      by_held (inl d) = d
      by_held (inr d) = absurd (can_not (shard_at s shard) a can d)

      held : HoldsShown (shard_at s shard) a l.reads l.writes l.shown
      held =
          let there = orderly.granted l.shard (attempt_of x) (coordinator_of x.lines) l.reads l.writes l.shown (was_told.granted (freeing_granted x.phase l.state time g)) in
          let here = subst (λ (n : ℕ). HoldsShown (shard_at s n) (attempt_of x) l.reads l.writes l.shown ⊎ IsGone (shard_at s n) (attempt_of x)) line.on there in
          by_held (subst (λ (b : Attempt). HoldsShown (shard_at s shard) b l.reads l.writes l.shown ⊎ IsGone (shard_at s shard) b) same_attempt here)

      upto : v.time ≤ time
      upto =
          let above = greatest_shown_above x.lines line.is.place key v line.is.inside (ap (λ (m : Line). version_in m.shown key) line.is.at ∙ h) in
          let most = ((told.knows a.call x f.under_way).failed time g).2 in
          omega (arith, above, most)

  -- what was closed stays closed, and a release closes what it has to
  pub freed_serves : FreedAt (serves_shard s m shard at.latest q)
  freed_serves n a x l time i e f p line g = by_place (served_at s m shard at.latest q n)
    where
      of : OfAttempt s a x
      of = attempt_then at s m shard q a x f

      -- it had released before, or releases now
      by_case : n - 1 ≡ shard - 1 → (has_attempt (shard_at s shard).released a ≡ true) ⊎ ((time : ℕ) × (last : Bool) × (q ≡ Release a time last) × IsTrue (can_release (shard_at s shard) a)) → LineFreed (shard_after (shard_at s shard) at.latest q) l time
      by_case d (inl h) =
          let before = freed_before n a x l time i (ap (λ (sh : ShardState). has_attempt sh.released a) (same_place s n shard d) ∙ h) of p line g in
          λ key v k u. closes_stay (shard_at s shard) at.latest q (orderly.orderly shard) (ordered.each m shard q asked) key time v (subst (λ (sh : ShardState). ClosesAt sh key time v) (same_place s n shard d) (before key v k u))
      by_case d (inr h) =
          let r = release_is s m shard a h.0 h.1 just (subst (WasAsked s m shard) h.2 asked) in
          let low = line_first c r.txn (framed.txn a.call r.txn r.of.under_way).lines shard r.line r.is_line in
          let here : n ≡ shard = omega (arith, i, d, low) in
          released_now a x l time h.0 h.1 h.2 h.3 of p (subst (λ (j : ℕ). IsLineOf x j l) here line) g

      by_place : ((shard_at (serves_shard s m shard at.latest q) n ≡ shard_after (shard_at s shard) at.latest q) × (n - 1 ≡ shard - 1) × (shard - 1 < length s.shards)) ⊎ (shard_at (serves_shard s m shard at.latest q) n ≡ shard_at s n) → LineFreed (shard_at (serves_shard s m shard at.latest q) n) l time
      by_place (inl h) = subst (λ (sh : ShardState). LineFreed sh l time) (sym h.0) (by_case h.1 (released_from (shard_at s shard) at.latest q a (ap (λ (sh : ShardState). has_attempt sh.released a) (sym h.0) ∙ e)))
      by_place (inr h) = subst (λ (sh : ShardState). LineFreed sh l time) (sym h) (freed_before n a x l time i (ap (λ (sh : ShardState). has_attempt sh.released a) (sym h) ∙ e) of p line g)
