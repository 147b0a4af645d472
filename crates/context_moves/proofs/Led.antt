-- What calls have found stays so through each move of a step.
use Rattle.std.proofs.Common.{◌≡◌, ℕ, ◌-◌, ◌<◌, ◌≤◌, Bool, true, false, List, [], ◌∷◌, ◌++◌, length, get_or, Option, Some, None, refl, sym, ap, ◌∙◌, subst, arith}
use Rattle.std.specs.Prelude.{◌==◌}
use Rattle.std.proofs.Math.ListN.{set}
use Rattle.std.proofs.lemmas.Bool.{false≢true}
use Rattle.std.proofs.lemmas.Bool.Decides.{nat_tests}
use Rattle.truetime.specs.Reading.{Reading}
use Rattle.pipeline_lang.specs.declared.config.Config.{Config}
use Rattle.rss_model.specs.declared.history.Entry.{Entry}
use Rattle.rss_model.specs.declared.history.Entry.TheVariants.{Begin, End, Give, Get, Over}
use Rattle.rss_model.specs.declared.history.How.{How}
use Rattle.rss_model.specs.declared.history.Token.TheVariants as token
use Rattle.rss_model.specs.declared.op.Shown.{Shown}
use Rattle.rss_tables.specs.Outs.{Out, slot_shard}
use Rattle.rss_tables.specs.Lines.{line_at}
use Rattle.rss_tables.specs.TransactionSession.{TxnSession, txn_hears, txn_wakes, txn_passes, txn_end, shown_reply}
use Rattle.rss_tables.specs.SnapshotSession.{SnapSession, snap_hears, snap_wakes, snap_end}
use Rattle.rss_tables.specs.Turns.{Turn}
use Rattle.rss_tables.specs.Works.{no_works}
use Rattle.rss_machine.specs.Calls.{ends_at, forgets_if, txn_turns, snap_turns}
use Rattle.rss_machine.specs.Moves.{opens_call, opens_fence, sends, sends_one, listens, turns_session, goes_on, dies, closed, closes_owner, unsettled_by, with_owner}
use Rattle.rss_machine.specs.Session.{Session}
use Rattle.rss_machine.specs.Standing.{is_running}
use Rattle.rss_machine.specs.State.{State, Owner, no_owner, opening_owner, owner_at, stage_at, no_currents}
use Rattle.rss_machine.specs.declared.session.OwnerKind.{OwnerKind}
use Rattle.rss_machine.specs.declared.session.OwnerKind.TheVariants as kind
use Rattle.rss_machine.specs.declared.session.Session.TheVariants as session
use Rattle.rss_machine.specs.declared.state.Life.TheVariants as life
use Rattle.rss_machine.specs.declared.state.OwnerFate.{OwnerFate}
use Rattle.rss_machine.specs.declared.state.OwnerFate.TheVariants.{Ended}
use Rattle.world_laws.specs.Calls.{is_call, StagesOwn}
use Rattle.world_laws.proofs.Doings.{Beginning, calls, fences, turned, listened}
use Rattle.world_laws.proofs.Looks.{looks, get_or_past}
use Rattle.world_laws.proofs.OwnerMoves.{at_own}
use Rattle.world_laws.proofs.StageMoves.{StageMove, counts, goes_to, spawns_one, gets, takes_one, puts_one, closes_one, cuts_off_one, is_over, exit_given, BeginNotes}
use Rattle.world_laws.proofs.StagesOwned.{running_there}
use Rattle.world_laws.proofs.Told.{each_set, each_grow}
use Rattle.world_laws.proofs.TurnMoves.{ShardTurn, txn_answered, snap_answered, txn_wakes_one, snap_wakes_one, txn_passes_time}
use Rattle.order_laws.specs.CallsBehind.{CallsBehind}
use Rattle.context_moves.specs.Views.{view_of, step_of, told_step}
use Rattle.context_moves.specs.Launched.{BegunBehind, LaunchesBehind}
use Rattle.context_moves.proofs.Growing.{grow_later, old_same}
use Rattle.context_moves.proofs.Later.{SameClock, view_same, is_ended, told_same}
use Rattle.context_moves.proofs.Launch.{SameLaunch, launches_later, own_launches, sends_launches, before_same, before_one, begun_before}
use Rattle.context_moves.proofs.Tables.{Begun, begun_give}

abbrev pub Made : State → Type 0
Made s = (i : ℕ) → (owner_at s i).dates.launched ≤ s.steps

-- owners stay
module _ (c : Config) (s : State) (made : Made s) (f : Begun s.history) (k : LaunchesBehind c s) where
  pub stages_led : (t : State) → StageMove c s t → LaunchesBehind c t
  stages_led _ (counts m) = launches_later c s _ (view_same (view_of c s)) (λ a g l. refl) (λ b l. record { kind = refl; launched = refl; least = refl }) (λ b a q z. z) made k
  stages_led _ (goes_to m cursor) = launches_later c s _ (view_same (view_of c s)) (λ a g l. refl) (λ b l. record { kind = refl; launched = refl; least = refl }) (λ b a q z. z) made k
  stages_led t (spawns_one m child cursor y e) = launches_later c s t (view_same (view_of c s)) (λ a g l. refl) (λ b l. record { kind = refl; launched = refl; least = refl })
      (λ b a q z. begun_before s.history (Give m (token.Spawn child)) b a f refl (begun_before (s.history ++ Give m (token.Spawn child) ∷ []) (Get child (token.Spawn child)) b a (begun_give s.history m (token.Spawn child) f) refl
      (subst (λ (h : List Entry). BegunBehind h b a) (two_more s.history (Give m (token.Spawn child)) (Get child (token.Spawn child))) z))) made k
    where
      two_more : (h : List Entry) (d e : Entry) → h ++ d ∷ e ∷ [] ≡ (h ++ d ∷ []) ++ e ∷ []
      two_more [] d e = refl
      two_more (x ∷ h) d e = ap (λ (l : List Entry). x ∷ l) (two_more h d e)
  stages_led t (gets m x seen cursor y l) = launches_later c s t (view_same (view_of c s)) (λ a g l. refl) (λ b l. record { kind = refl; launched = refl; least = refl }) (before_one s t (Get m x) f refl (λ i q. refl)) made k
  stages_led t (takes_one m variable p chunk chunks cursor y e l) = launches_later c s t (view_same (view_of c s)) (λ a g l. refl) (λ b l. record { kind = refl; launched = refl; least = refl }) (before_one s t _ f refl (λ i q. refl)) made k
  stages_led t (puts_one m p value dropped cursor y) = launches_later c s t (view_same (view_of c s)) (λ a g l. refl) (λ b l. record { kind = refl; launched = refl; least = refl }) (before_one s t _ f refl (λ i q. refl)) made k
  stages_led t (closes_one m p seen y) = launches_later c s t (view_same (view_of c s)) (λ a g l. refl) (λ b l. record { kind = refl; launched = refl; least = refl }) (before_one s t _ f refl (λ i q. refl)) made k
  stages_led _ (cuts_off_one p) = launches_later c s _ (view_same (view_of c s)) (λ a g l. refl) (λ b l. record { kind = refl; launched = refl; least = refl }) (λ b a q z. z) made k
  stages_led t (is_over m y) = launches_later c s t (view_same (view_of c s)) (λ a g l. refl) (λ b l. record { kind = refl; launched = refl; least = refl }) (before_one s t _ f refl (λ i q. refl)) made k
  stages_led t (exit_given m seen y) = launches_later c s t (view_same (view_of c s)) (λ a g l. refl) (λ b l. record { kind = refl; launched = refl; least = refl }) (before_one s t _ f refl (λ i q. refl)) made k

-- an owner begins
module _ (c : Config) (b : CallsBehind) (s t : State) (w : Owner) (e : SameClock s t) (d : t.owners ≡ s.owners ++ w ∷ []) (new : w.dates.launched ≡ 0) (made : Made s) where
  pub grow_led : ((i a : ℕ) → is_call (owner_at s i).kind ≡ true → BegunBehind t.history i a → BegunBehind s.history i a) → LaunchesBehind c s → LaunchesBehind c t
  grow_led before k =
      launches_later c s t (grow_later c b s t w e d) step
      (subst (λ (owners : List Owner). (i : ℕ) → 0 < (get_or owners i no_owner).dates.launched → SameLaunch (owner_at s i) (get_or owners i no_owner)) (sym d) (each_grow (λ i v. 0 < v.dates.launched → SameLaunch (owner_at s i) v) s.owners w (λ l. absurd (omega (arith, l, new))) (λ i l. record { kind = refl; launched = refl; least = refl })))
      before made k
    where
      step : (a : ℕ) → (view_of c s).ended a ≡ true → step_of s a ≤ s.steps → step_of t a ≡ step_of s a
      step a g l = let q = old_same c b s t w e d is_ended refl a g in ap (λ (v : Owner). told_step t v v.session) q ∙ told_same s t e (owner_at s a) (owner_at s a).session

pub begins_led : (c : Config) (b : CallsBehind) (s : State) → Made s → Begun s.history → LaunchesBehind c s → (t : State) (w : Owner) (y : Beginning c s w) → BeginNotes c s w y t → LaunchesBehind c t
begins_led c b s made f k t w (calls m x e) y = subst (LaunchesBehind c) (sym y.1) (grow_led c b s (opens_call s m x) w (record { steps = refl; moments = refl; marks = refl }) refl refl made (before_one s (opens_call s m x) (Begin (length s.owners) m x) f refl (λ i q. other i q)) k)
  where
    past : owner_at s (length s.owners) ≡ no_owner
    past = grind (arith, looks, get_or_past)

    other : (i : ℕ) → is_call (owner_at s i).kind ≡ true → (length s.owners == i) ≡ false
    other i q = by_test (length s.owners == i) refl
      where
        by_test : (z : Bool) → (length s.owners == i) ≡ z → z ≡ false
        by_test true g = let same : length s.owners ≡ i = grind (arith, nat_tests, g) in absurd (false≢true (ap (λ (v : Owner). is_call v.kind) (sym past) ∙ (ap (λ (j : ℕ). is_call (owner_at s j).kind) same ∙ q)))
        by_test false g = refl
begins_led c b s made f k t w (fences m) y = subst (LaunchesBehind c) (sym y.1) (grow_led c b s (opens_fence s m) w (record { steps = refl; moments = refl; marks = refl }) refl refl made (before_same s (opens_fence s m) refl) k)

pub dies_led : (c : Config) (b : CallsBehind) (s : State) → Made s → Begun s.history → StagesOwn s → LaunchesBehind c s → (n : ℕ) (how : How) (x : OwnerFate) → LaunchesBehind c (dies s n how x)
dies_led c b s made f owns k n how x = by_owner (stage_at s n).owner refl
  where
    after : Option ℕ → State
    after o = let t = closes_owner s o x in record t {
      owners = t.owners ++ opening_owner n (kind.Stubbing (unsettled_by s o)) false (no_works (stage_at s n).context) s.steps ∷ [];
      stages = set t.stages (n - 1) (record (stage_at t n) { life = life.Over how; owner = None; stub = Some (length t.owners) });
      history = t.history ++ Over n how ∷ [];
    }

    by_owner : (o : Option ℕ) → (stage_at s n).owner ≡ o → LaunchesBehind c (after o)
    by_owner None e = grow_led c b s (after None) _ (record { steps = refl; moments = refl; marks = refl }) refl refl made (before_one s (after None) (Over n how) f refl (λ i q. refl)) k
    by_owner (Some o) e =
        let u = with_owner s o (closed s o x) in
        grow_led c b u (after (Some o)) _ (record { steps = refl; moments = refl; marks = refl }) refl refl (each_set (λ i v. v.dates.launched ≤ s.steps) s.owners o (closed s o x) (made o) made) (before_one u (after (Some o)) (Over n how) f refl (λ i q. refl))
        (own_launches c b s u o (closed s o x) (record { steps = refl; moments = refl; marks = refl }) refl (owns.owner n o e).running (before_same s u refl) made (λ l. record { kind = refl; launched = refl; least = refl }) k)

-- a call goes through a turn
pub record Leading (c : Config) (h : List Entry) (o : ℕ) (s : State) : Type 0 where
  pub launches : LaunchesBehind c s
  pub runs : is_running (owner_at s o).fate ≡ true
  pub made : Made s
  pub history : s.history ≡ h

module _ (c : Config) (b : CallsBehind) (h : List Entry) (begun : Begun h) (o : ℕ) where
  on_quiet : (s : State) (w : Owner) → o < length s.owners → w.kind ≡ (owner_at s o).kind → w.fate ≡ (owner_at s o).fate → w.dates.launched ≡ (owner_at s o).dates.launched → w.works.copy.least ≡ (owner_at s o).works.copy.least → Leading c h o s → Leading c h o (record s { owners = set s.owners o w })
  on_quiet s w i e f l m k = record {
    launches = own_launches c b s (record s { owners = set s.owners o w }) o w (record { steps = refl; moments = refl; marks = refl }) refl k.runs (before_same s (record s { owners = set s.owners o w }) refl) k.made (λ z. record { kind = e; launched = l; least = m }) k.launches;
    runs = ap (λ (z : Owner). is_running z.fate) (at_own s o w i) ∙ (ap is_running f ∙ k.runs);
    made = each_set (λ j v. v.dates.launched ≤ s.steps) s.owners o w (subst (λ (z : ℕ). z ≤ s.steps) (sym l) (k.made o)) k.made;
    history = k.history;
  }

  on_sends : (outs : List Out) (s : State) → o < length s.owners → Leading c h o s → Leading c h o (sends s o outs)
  on_sends [] s i k = k
  on_sends (out ∷ outs) s i k = on_sends outs (sends_one s o out) (long s out i) (let q = on_quiet s _ i refl refl refl refl k in record { launches = sends_launches c b o (out ∷ []) s k.runs k.made k.launches; runs = q.runs; made = q.made; history = q.history })
    where
      long : (s : State) (out : Out) → o < length s.owners → o < length (sends_one s o out).owners
      long s out i = grind (arith, looks, i)

  still : (s : State) (w : Owner) → o < length s.owners → o < length (set s.owners o w)
  still s w i = grind (arith, looks, i)

  on_forgets : (t : Bool) (s : State) → o < length s.owners → Leading c h o s → Leading c h o (forgets_if t s o)
  on_forgets true s i k = on_quiet s (record (owner_at s o) { currents = no_currents }) i refl refl refl refl k
  on_forgets false s i k = k

  on_there : (t : Bool) (s : State) → o < length s.owners → o < length (forgets_if t s o).owners
  on_there true s i = still s _ i
  on_there false s i = i

  on_goes : (s : State) (y : Session) (outs : List Out) → o < length s.owners → Leading c h o s → Leading c h o (goes_on s o y outs)
  on_goes s y outs i k = on_sends outs (turns_session s o y) (still s (turned s o y) i) (on_quiet s (turned s o y) i refl refl refl refl k)

  on_ends : (s : State) (k : OwnerKind) (shown : List Shown) (time : Option ℕ) → Leading c h o s → LaunchesBehind c (ends_at c s o k shown time)
  on_ends s (kind.Calling y) shown (Some time) k =
      own_launches c b s _ o (closed s o Ended) (record { steps = refl; moments = refl; marks = refl }) refl k.runs (before_one s (ends_at c s o (kind.Calling y) shown (Some time)) (End o shown) (subst Begun (sym k.history) begun) refl (λ i q. refl)) k.made (λ z. record { kind = refl; launched = refl; least = refl }) k.launches
  on_ends s (kind.Calling y) shown None k = k.launches
  on_ends s kind.Fencing shown time k = k.launches
  on_ends s (kind.Stubbing u) shown time k = k.launches

  on_txn : (s : State) (turn : Turn TxnSession) → o < length s.owners → Leading c h o s → LaunchesBehind c (txn_turns c s o turn)
  on_txn s turn i k = on_ends _ (owner_at s o).kind (shown_reply turn.after.reads turn.after.lines) (txn_end turn.after.phase) (on_goes (forgets_if turn.anew s o) (session.Transaction turn.after) turn.outs (on_there turn.anew s i) (on_forgets turn.anew s i k))

  on_snap : (s : State) (turn : Turn SnapSession) → o < length s.owners → Leading c h o s → LaunchesBehind c (snap_turns c s o turn)
  on_snap s turn i k = on_ends _ (owner_at s o).kind (shown_reply turn.after.keys turn.after.lines) (snap_end turn.after.phase) (on_goes (forgets_if turn.anew s o) (session.Snapshot turn.after) turn.outs (on_there turn.anew s i) (on_forgets turn.anew s i k))

  pub turns_led : (at : Reading) (s t : State) → ShardTurn c at s o t → Leading c h o s → LaunchesBehind c t
  turns_led at s _ (txn_answered y slot z e d) k = let i = running_there s o k.runs in on_txn (listens s o slot) (txn_hears y (line_at y.lines (slot_shard slot)) at z) (still s _ i) (on_quiet s (listened s o slot) i refl refl refl refl k)
  turns_led at s _ (snap_answered y slot z e d) k = let i = running_there s o k.runs in on_snap (listens s o slot) (snap_hears y (line_at y.lines (slot_shard slot)) z) (still s _ i) (on_quiet s (listened s o slot) i refl refl refl refl k)
  turns_led at s _ (txn_wakes_one y l e a d) k = on_txn s (txn_wakes y l) (running_there s o k.runs) k
  turns_led at s _ (snap_wakes_one y l e d) k = on_snap s (snap_wakes y l) (running_there s o k.runs) k
  turns_led at s _ (txn_passes_time y time e a d) k = on_txn s (txn_passes y y.phase) (running_there s o k.runs) k
