-- What an event does to the owner of an ended transaction, and to that of a snapshot.
use Rattle.std.proofs.Common.{◌≡◌, ◌⊎◌, inl, inr, ℕ, ◌<◌, ◌≤◌, Bool, true, false, List, length, get_or, set, Option, Some, None, refl, sym, ap, ◌∙◌, subst}
use Rattle.std.proofs.lemmas.Bool.{true≢false, cases_lt}
use Rattle.std.proofs.lemmas.List.{get_or_past}
use Rattle.truetime.specs.Reading.{Reading}
use Rattle.pipeline_lang.specs.declared.config.Config.{Config}
use Rattle.rss_wire.specs.declared.messages.Reply.{Reply}
use Rattle.rss_tables.specs.Lines.{line_at}
use Rattle.rss_tables.specs.Outs.{Out, slot_shard}
use Rattle.rss_tables.specs.SnapshotSession.{SnapSession, snap_hears, snap_wakes, snap_end}
use Rattle.rss_tables.specs.TransactionSession.{TxnSession, txn_hears, txn_wakes, txn_passes, txn_end}
use Rattle.rss_tables.specs.Turns.{Turn}
use Rattle.rss_machine.specs.Session.{Session}
use Rattle.rss_machine.specs.Standing.{is_running}
use Rattle.rss_machine.specs.State.{State, Owner, owner_at, no_owner}
use Rattle.rss_machine.specs.declared.session.Session.TheVariants as session
use Rattle.world_laws.proofs.Looks.{get_or_set}
use Rattle.shard_event_laws.specs.Events.{Event, Hears, TxnTurns, SnapTurns, turned_owner, left_to_await, heard_at, aside, begins_txn, begins_snapshot, txn_hears_one, snap_hears_one, txn_wakes_one, snap_wakes_one, txn_passes_time, sends_again, serves_one, stub_asks, stub_tells}
use Rattle.shard_event_laws.specs.Facts.{Aside, StaysWith, is_with_shards}
use Rattle.txn_state_laws.proofs.Grows.{txn_is, snap_is}

-- an owner that has something under way with shards is there
pub is_there : (s : State) (o : ℕ) → is_with_shards (owner_at s o).session ≡ true → o < length s.owners
is_there s o e = by_place (cases_lt o (length s.owners))
  where
    by_place : (o < length s.owners) ⊎ (length s.owners ≤ o) → o < length s.owners
    by_place (inl i) = i
    by_place (inr l) = absurd (true≢false (sym e ∙ ap (λ (v : Owner). is_with_shards v.session) (get_or_past s.owners o no_owner l)))

-- it stays with it where nothing happens to shards
aside_stays : (c : Config) (s t : State) → Aside c s t → (o : ℕ) → is_with_shards (owner_at t o).session ≡ true → StaysWith s.steps (owner_at s o) (owner_at t o)
aside_stays c s t h o e = by_place (cases_lt o (length s.owners))
  where
    by_test : o < length s.owners → (b : Bool) → is_with_shards (owner_at s o).session ≡ b → StaysWith s.steps (owner_at s o) (owner_at t o)
    by_test i true f = h.with_shards o i f
    by_test i false f = absurd (true≢false (sym e ∙ (h.without o i f).none))

    by_place : (o < length s.owners) ⊎ (length s.owners ≤ o) → StaysWith s.steps (owner_at s o) (owner_at t o)
    by_place (inl i) = by_test i (is_with_shards (owner_at s o).session) refl
    by_place (inr l) = absurd (true≢false (sym e ∙ (h.anew o l (is_there t o e)).none))

-- one owner has changed: an owner is the one, or is what it was
own_cases : (s t : State) (o : ℕ) (v : Owner) → t.owners ≡ set s.owners o v → (i : ℕ) → ((i ≡ o) × (owner_at t i ≡ v)) ⊎ (owner_at t i ≡ owner_at s i)
own_cases s t o v e i = by_place (get_or_set s.owners o v i no_owner)
  where
    moved : owner_at t i ≡ get_or (set s.owners o v) i no_owner
    moved = ap (λ (owners : List Owner). get_or owners i no_owner) e

    by_place : ((get_or (set s.owners o v) i no_owner ≡ v) × (i ≡ o) × (o < length s.owners)) ⊎ ((get_or (set s.owners o v) i no_owner ≡ get_or s.owners i no_owner) × ((i ≡ o → ⊥) ⊎ (length s.owners ≤ i))) → ((i ≡ o) × (owner_at t i ≡ v)) ⊎ (owner_at t i ≡ owner_at s i)
    by_place (inl h) = inl (h.1, moved ∙ h.0)
    by_place (inr h) = inr (moved ∙ h.0)

-- what an owner has under way behind a turn
turned_session : (s : State) (o : ℕ) (currents : List (Option ℕ)) (x : Session) (outs : List Out) (end : Option ℕ) → (turned_owner s o currents x outs end).session ≡ x
turned_session s o currents x outs None = refl
turned_session s o currents x outs (Some time) = refl

-- who has not ended has no end, and two ends are the same
no_end : (time : ℕ) → ◌≡◌ {A = Option ℕ} None (Some time) → ⊥
no_end time e = cc

abbrev is_txn : Session → Bool
is_txn (session.Transaction t) = true
is_txn (session.Snapshot t) = false
is_txn (session.Settling attempt shards) = false
is_txn session.Idle = false
is_txn (session.Fixing r) = false
is_txn (session.Register r) = false

abbrev is_snap : Session → Bool
is_snap (session.Transaction t) = false
is_snap (session.Snapshot t) = true
is_snap (session.Settling attempt shards) = false
is_snap session.Idle = false
is_snap (session.Fixing r) = false
is_snap (session.Register r) = false

not_txn : (x : Session) (y : TxnSession) → is_txn x ≡ false → x ≡ session.Transaction y → ⊥
not_txn x y f e = true≢false (sym (ap is_txn e) ∙ f)

not_snap : (x : Session) (y : SnapSession) → is_snap x ≡ false → x ≡ session.Snapshot y → ⊥
not_snap x y f e = true≢false (sym (ap is_snap e) ∙ f)

-- an ended transaction had ended before, or ends in this step
abbrev pub EndedBefore : State → ℕ → TxnSession → ℕ → Type 0
EndedBefore s w y ended = (((owner_at s w).session ≡ session.Transaction y) × (ended ≡ (owner_at s w).dates.ended)) ⊎ (ended ≡ s.steps)

module _ (s t : State) (w : ℕ) (y : TxnSession) (time : ℕ) (e : (owner_at t w).session ≡ session.Transaction y) (p : txn_end y.phase ≡ Some time) where
  ended_same : owner_at t w ≡ owner_at s w → EndedBefore s w y (owner_at t w).dates.ended
  ended_same f = inl (ap (λ (v : Owner). v.session) (sym f) ∙ e, ap (λ (v : Owner). v.dates.ended) f)

  -- one owner has changed
  ended_one : (o : ℕ) (v : Owner) → t.owners ≡ set s.owners o v → (v.session ≡ session.Transaction y → w ≡ o → EndedBefore s w y v.dates.ended) → EndedBefore s w y (owner_at t w).dates.ended
  ended_one o v owned own = by_place (own_cases s t o v owned w)
    where
      by_place : ((w ≡ o) × (owner_at t w ≡ v)) ⊎ (owner_at t w ≡ owner_at s w) → EndedBefore s w y (owner_at t w).dates.ended
      by_place (inl h) = subst (λ (u : Owner). EndedBefore s w y u.dates.ended) (sym h.1) (own (ap (λ (u : Owner). u.session) (sym h.1) ∙ e) h.0)
      by_place (inr f) = ended_same f

  -- one that takes a turn ends in it, if it is ended then
  ended_turn : (o : ℕ) (currents : List (Option ℕ)) (x : TxnSession) (outs : List Out) (end : Option ℕ) → txn_end x.phase ≡ end → (turned_owner s o currents (session.Transaction x) outs end).session ≡ session.Transaction y → EndedBefore s w y (turned_owner s o currents (session.Transaction x) outs end).dates.ended
  ended_turn o currents x outs None f g = absurd (no_end time (sym f ∙ ap (λ (z : TxnSession). txn_end z.phase) (txn_is x y g) ∙ p))
  ended_turn o currents x outs (Some ended) f g = inr refl

  ended_turns : (o : ℕ) (currents : List (Option ℕ)) (turn : Turn TxnSession) → TxnTurns s t o currents turn → EndedBefore s w y (owner_at t w).dates.ended
  ended_turns o currents turn h =
      ended_one o (turned_owner s o (left_to_await turn.anew currents) (session.Transaction turn.after) turn.outs (txn_end turn.after.phase)) h.owned.owned
      (λ f i. ended_turn o (left_to_await turn.anew currents) turn.after turn.outs (txn_end turn.after.phase) refl f)

  ended_besides : (o : ℕ) (currents : List (Option ℕ)) (turn : Turn SnapSession) → SnapTurns s t o currents turn → EndedBefore s w y (owner_at t w).dates.ended
  ended_besides o currents turn h =
      ended_one o (turned_owner s o (left_to_await turn.anew currents) (session.Snapshot turn.after) turn.outs (snap_end turn.after.phase)) h.owned.owned
      (λ f i. absurd (not_txn (session.Snapshot turn.after) y refl (sym (turned_session s o (left_to_await turn.anew currents) (session.Snapshot turn.after) turn.outs (snap_end turn.after.phase)) ∙ f)))

  ended_aside : StaysWith s.steps (owner_at s w) (owner_at t w) → EndedBefore s w y (owner_at t w).dates.ended
  ended_aside h = by_fate h.fate
    where
      by_fate : (((owner_at t w).fate ≡ (owner_at s w).fate) × ((owner_at t w).dates.ended ≡ (owner_at s w).dates.ended)) ⊎ ((is_running (owner_at s w).fate ≡ true) × (is_running (owner_at t w).fate ≡ false) × ((owner_at t w).dates.ended ≡ s.steps)) → EndedBefore s w y (owner_at t w).dates.ended
      by_fate (inl f) = inl (sym h.session ∙ e, f.1)
      by_fate (inr f) = inr f.2

  pub ended_before : (c : Config) (at : Reading) → Event c at s t → EndedBefore s w y (owner_at t w).dates.ended
  ended_before c at (aside h) = ended_aside (aside_stays c s t h w (ap is_with_shards e))
  ended_before c at (begins_txn o reads guard writes x k is h) = ended_one o _ h.owned.owned (λ f i. absurd (no_end time (ap (λ (z : TxnSession). txn_end z.phase) (sym is ∙ txn_is x y f) ∙ p)))
  ended_before c at (begins_snapshot o keys x k is h) = ended_one o _ h.owned.owned (λ f i. absurd (not_txn (session.Snapshot x) y refl f))
  ended_before c at (txn_hears_one o slot x r under hears h) = ended_turns o (heard_at s o slot) (txn_hears x (line_at x.lines (slot_shard slot)) at r) h
  ended_before c at (snap_hears_one o slot x r under hears h) = ended_besides o (heard_at s o slot) (snap_hears x (line_at x.lines (slot_shard slot)) r) h
  ended_before c at (txn_wakes_one o x l under wakes h) = ended_turns o (owner_at s o).currents (txn_wakes x l) h
  ended_before c at (snap_wakes_one o x l under wakes h) = ended_besides o (owner_at s o).currents (snap_wakes x l) h
  ended_before c at (txn_passes_time o passed x under waits past h) = ended_turns o (owner_at s o).currents (txn_passes x x.phase) h
  ended_before c at (sends_again o slot target r h) = ended_one o _ h.owned.owned (λ f i. inl (ap (λ (n : ℕ). (owner_at s n).session) i ∙ f, ap (λ (n : ℕ). (owner_at s n).dates.ended) (sym i)))
  ended_before c at (serves_one m shard q asked is) = ended_same (ap (λ (u : State). owner_at u w) is)
  ended_before c at (stub_asks o attempt shards kind free idle h) = ended_one o _ h.owned.owned (λ f i. absurd (not_txn (session.Settling attempt shards) y refl (sym h.session ∙ f)))
  ended_before c at (stub_tells o slot attempt shards outcome under hears h) = ended_one o _ h.owned.owned (λ f i. absurd (not_txn session.Idle y refl (sym h.session ∙ f)))

-- a snapshot hears a reply
pub record SnapHeard (s : State) (o : ℕ) (x y : SnapSession) : Type 0 where
  pub slot : ℕ
  pub reply : Reply
  pub hears : Hears s o slot reply
  pub after : y ≡ (snap_hears x (line_at x.lines (slot_shard slot)) reply).after

-- a snapshot stays in its phase, or hears a reply
abbrev pub SnapMoves : State → ℕ → SnapSession → SnapSession → Type 0
SnapMoves s o x y = (y.phase ≡ x.phase) ⊎ SnapHeard s o x y

module _ (s t : State) (o : ℕ) (x y : SnapSession) (d : (owner_at s o).session ≡ session.Snapshot x) (e : (owner_at t o).session ≡ session.Snapshot y) where
  snap_same : (owner_at t o).session ≡ (owner_at s o).session → SnapMoves s o x y
  snap_same f = inl (ap (λ (z : SnapSession). z.phase) (snap_is y x (sym e ∙ f ∙ d)))

  -- one owner has changed
  snap_one : (i : ℕ) (v : Owner) → t.owners ≡ set s.owners i v → (v.session ≡ session.Snapshot y → o ≡ i → SnapMoves s o x y) → SnapMoves s o x y
  snap_one i v owned own = by_place (own_cases s t i v owned o)
    where
      by_place : ((o ≡ i) × (owner_at t o ≡ v)) ⊎ (owner_at t o ≡ owner_at s o) → SnapMoves s o x y
      by_place (inl h) = own (ap (λ (u : Owner). u.session) (sym h.1) ∙ e) h.0
      by_place (inr f) = snap_same (ap (λ (u : Owner). u.session) f)

  -- what it was before is one snapshot
  snap_was : (i : ℕ) (z : SnapSession) → o ≡ i → (owner_at s i).session ≡ session.Snapshot z → z ≡ x
  snap_was i z f g = snap_is z x (sym g ∙ ap (λ (n : ℕ). (owner_at s n).session) (sym f) ∙ d)

  snap_hears_it : (i slot : ℕ) (z : SnapSession) (r : Reply) → o ≡ i → z ≡ x → Hears s i slot r → y ≡ (snap_hears z (line_at z.lines (slot_shard slot)) r).after → SnapHeard s o x y
  snap_hears_it i slot z r f g h a = record {
    slot = slot;
    reply = r;
    hears = subst (λ (n : ℕ). Hears s n slot r) (sym f) h;
    after = a ∙ ap (λ (u : SnapSession). (snap_hears u (line_at u.lines (slot_shard slot)) r).after) g;
  }

  snap_turns : (i : ℕ) (currents : List (Option ℕ)) (turn : Turn SnapSession) → SnapTurns s t i currents turn → (y ≡ turn.after → o ≡ i → SnapMoves s o x y) → SnapMoves s o x y
  snap_turns i currents turn h own =
      snap_one i (turned_owner s i (left_to_await turn.anew currents) (session.Snapshot turn.after) turn.outs (snap_end turn.after.phase)) h.owned.owned
      (λ f j. own (sym (snap_is turn.after y (sym (turned_session s i (left_to_await turn.anew currents) (session.Snapshot turn.after) turn.outs (snap_end turn.after.phase)) ∙ f))) j)

  snap_besides : (i : ℕ) (currents : List (Option ℕ)) (turn : Turn TxnSession) → TxnTurns s t i currents turn → SnapMoves s o x y
  snap_besides i currents turn h =
      snap_one i (turned_owner s i (left_to_await turn.anew currents) (session.Transaction turn.after) turn.outs (txn_end turn.after.phase)) h.owned.owned
      (λ f j. absurd (not_snap (session.Transaction turn.after) y refl (sym (turned_session s i (left_to_await turn.anew currents) (session.Transaction turn.after) turn.outs (txn_end turn.after.phase)) ∙ f)))

  pub snap_moves : (c : Config) (at : Reading) → Event c at s t → SnapMoves s o x y
  snap_moves c at (aside h) = snap_same (aside_stays c s t h o (ap is_with_shards e)).session
  snap_moves c at (begins_txn i reads guard writes z k is h) = snap_one i _ h.owned.owned (λ f j. absurd (not_snap (session.Transaction z) y refl f))
  snap_moves c at (begins_snapshot i keys z k is h) = snap_one i _ h.owned.owned (λ f j. absurd (not_snap session.Idle x refl (sym h.idle ∙ ap (λ (n : ℕ). (owner_at s n).session) (sym j) ∙ d)))
  snap_moves c at (txn_hears_one i slot z r under hears h) = snap_besides i (heard_at s i slot) (txn_hears z (line_at z.lines (slot_shard slot)) at r) h
  snap_moves c at (snap_hears_one i slot z r under hears h) = snap_turns i (heard_at s i slot) (snap_hears z (line_at z.lines (slot_shard slot)) r) h (λ f j. inr (snap_hears_it i slot z r j (snap_was i z j under) hears f))
  snap_moves c at (txn_wakes_one i z l under wakes h) = snap_besides i (owner_at s i).currents (txn_wakes z l) h
  snap_moves c at (snap_wakes_one i z l under wakes h) = snap_turns i (owner_at s i).currents (snap_wakes z l) h (λ f j. inl (ap (λ (u : SnapSession). u.phase) f ∙ ap (λ (u : SnapSession). u.phase) (snap_was i z j under)))
  snap_moves c at (txn_passes_time i passed z under waits past h) = snap_besides i (owner_at s i).currents (txn_passes z z.phase) h
  snap_moves c at (sends_again i slot target r h) = snap_one i _ h.owned.owned (λ f j. snap_same (e ∙ sym f ∙ ap (λ (n : ℕ). (owner_at s n).session) (sym j)))
  snap_moves c at (serves_one m shard q asked is) = snap_same (ap (λ (u : State). (owner_at u o).session) is)
  snap_moves c at (stub_asks i attempt shards kind free idle h) = snap_one i _ h.owned.owned (λ f j. absurd (not_snap (session.Settling attempt shards) y refl (sym h.session ∙ f)))
  snap_moves c at (stub_tells i slot attempt shards outcome under hears h) = snap_one i _ h.owned.owned (λ f j. absurd (not_snap session.Idle y refl (sym h.session ∙ f)))
