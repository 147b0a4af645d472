-- A predicate that is kept by all that a step does, where others are known and where the state behind the step is.
use Rattle.std.proofs.Common.{◌≡◌, ℕ, ◌<◌, true, false, List, [], ◌∷◌, ◌++◌, ◌-◌, length, Option, Some, None, refl, sym, ap, ◌∙◌, subst, arith}
use Rattle.std.proofs.Math.ListN.{set}
use Rattle.std.proofs.lemmas.List.{append-nil}
use Rattle.truetime.specs.Reading.{Reading}
use Rattle.rss_names.specs.declared.attempt.Attempt.{Attempt}
use Rattle.rss_names.specs.declared.service.Key.{Key}
use Rattle.rss_names.specs.declared.service.Target.{Target}
use Rattle.carstamps.specs.declared.carstamp.Carstamp.{Carstamp}
use Rattle.causal_context.specs.declared.dep.Dep.{Dep}
use Rattle.causal_context.specs.Deps.{given_dep}
use Rattle.causal_context.specs.Seen.{after_read, after_write}
use Rattle.pipeline_lang.specs.declared.config.Config.{Config}
use Rattle.rss_model.specs.declared.history.How.{How}
use Rattle.rss_model.specs.declared.op.Op.{Op}
use Rattle.rss_model.specs.declared.history.Entry.{Entry}
use Rattle.rss_model.specs.declared.history.Entry.TheVariants.{Over}
use Rattle.rss_wire.specs.declared.message.Fate.{Fate}
use Rattle.rss_wire.specs.declared.messages.Outcome.{Outcome}
use Rattle.rss_wire.specs.declared.messages.Request.{Request}
use Rattle.rss_wire.specs.declared.messages.Reply.{Reply}
use Rattle.rss_wire.specs.declared.messages.Reply.TheVariants as reply
use Rattle.rss_wire.specs.declared.messages.RegReply.{RegReply}
use Rattle.rss_tables.specs.Outs.{slot_replica, Out}
use Rattle.rss_tables.specs.Lines.{tells_decision}
use Rattle.rss_tables.specs.Works.{no_works}
use Rattle.rss_tables.specs.RegisterSession.{RegSession, session_after, phase_end}
use Rattle.rss_tables.specs.declared.register_session.RegEnd.{RegEnd}
use Rattle.rss_tables.specs.declared.register_session.RegEnd.TheVariants as ends
use Rattle.rss_tables.specs.declared.register_session.RegPhase.TheVariants as phase
use Rattle.rss_tables.specs.declared.register_session.RegWork.TheVariants as work
use Rattle.rss_machine.specs.Calls.{replies}
use Rattle.rss_machine.specs.Moves.{marks_message, sends_one, sends, plans_stub, listens, dies, closed, closes_owner, unsettled_by, with_owner}
use Rattle.rss_machine.specs.Standing.{is_running}
use Rattle.rss_machine.specs.State.{State, Owner, stage_at, owner_at, opening_owner}
use Rattle.rss_machine.specs.declared.session.OwnerKind.TheVariants as kind
use Rattle.rss_machine.specs.declared.session.Session.TheVariants as session
use Rattle.rss_machine.specs.declared.state.Life.TheVariants as life
use Rattle.rss_machine.specs.declared.state.OwnerFate.{OwnerFate}
use Rattle.rss_machine.specs.declared.state.OwnerFate.TheVariants.{Ended}
use Rattle.world_laws.specs.Calls.{StagesOwn}
use Rattle.world_laws.proofs.Looks.{looks}
use Rattle.world_laws.proofs.OwnerMoves.{sends_kept}
use Rattle.world_laws.proofs.SessionMoves.{session_at, IsAgain}
use Rattle.world_laws.proofs.Doings.{Changed, Heard, Beginning, calls, fences, Resting, plans, past, fixed, cleared, Working, owes_nothing, is_past, enters_own, Leaving, waits, fixes_work, fixes_own, asks_register, stamps_register, begins_snapshot, begins_txn, fence_done, stub_done, Doing, listens_one, fix_hears, fix_reached, register_hears, register_stores, register_reached, read_ends, write_ends, txn_ends, snap_ends, counts_one, cuts_one, is_closed, forgets_all, turns, stub_asks}
use Rattle.world_laws.proofs.StageMoves.{AllMoves, Quiet, StageMove, Dying, BeginNotes, LeavingNotes, DoingNotes, can_end, ended_to}
use Rattle.world_laws.proofs.TurnMoves.{StepMoves, ShardTurn, IsNoTurn, RestingNotes, LaunchNotes, cleared_owner, step_moves}
use Rattle.world_laws.proofs.Towards.{Toward, toward_trans, toward_same, toward_own, toward_grow, toward_sends, toward_stage, toward_turn}

pub record UnderMoves (c : Config) (at : Reading) (A : OwnerFate → Type 0) (F K : State → Type 0) (KR KD : State → ℕ → Type 0) (f : State) (Q : State → Type 0) (QR QE QD : State → ℕ → Type 0) : Type 1 where
  pub fates : (s : State) (m : ℕ) (x : Fate) → K s → Toward s f → Q s → Q (marks_message s m x)
  pub again : (s : State) (o exchange slot : ℕ) (target : Target) (r : Request) → IsAgain s o exchange slot target r → K s → Toward s f → Q s → Q (sends_one s o (record { slot = Some slot; target = target; request = r }))
  pub stages : (s t : State) → StageMove c s t → Changed [] s.owners s t → K s → Toward s f → Toward t f → Q s → Q t
  pub dies : (s : State) (n : ℕ) (how : How) (x : OwnerFate) → Dying A s n how x → K s → Toward s f → Q s → Q (dies s n how x)
  pub begins : (s t : State) (w : Owner) (b : Beginning c s w) → BeginNotes c s w b t → F s → Changed [] (s.owners ++ w ∷ []) s t → K s → Toward s f → Q s → QR t (length s.owners)
  pub rests : (s t : State) (o : ℕ) (w : Owner) → o < length s.owners → A (owner_at s o).fate → (b : Resting s o w) → RestingNotes at s o w b → Quiet s t → Changed [] (set s.owners o w) s t → K s → Toward s f → Q s → QR t o
  pub settles : (s : State) (o slot : ℕ) (attempt : Attempt) (shards : List ℕ) (outcome : Outcome) → o < length s.owners → A (owner_at s o).fate → session_at s o ≡ session.Settling attempt shards → Heard s o slot (reply.Decided outcome) → K s → Toward s f → Q s →
      QR (plans_stub (sends (listens s o slot) o (tells_decision attempt outcome shards)) o) o
  pub settled : (s : State) (o : ℕ) → KR s o → Toward s f → QR s o → Q s
  pub works : (s t : State) (o : ℕ) (w : Owner) → o < length s.owners → Working at s o w → Quiet s t → Changed [] (set s.owners o w) s t → KR s o → Toward s f → QR s o → QR t o
  pub ready : (s : State) (o : ℕ) (x : Op) → (owner_at s o).works.left ≡ [] → (owner_at s o).kind ≡ kind.Calling x → (owner_at s o).works.enter ≡ false → KR s o → Toward s f → QR s o → QE s o
  pub clears : (s t : State) (o : ℕ) (x : Op) (r : RegSession) (e : RegEnd) → o < length s.owners → A (owner_at s o).fate → (owner_at s o).kind ≡ kind.Calling x → (owner_at s o).works.left ≡ [] → session_at s o ≡ session.Fixing r → phase_end r.phase ≡ Some e
      → t.owners ≡ set s.owners o (cleared_owner s o) → K s → Toward s f → Q s → QR t o → QE t o
  pub leaves : (s t : State) (o : ℕ) (w : Owner) (outs : List Out) → o < length s.owners → (b : Leaving c at s o w outs) → LeavingNotes c at s o w outs b t → LaunchNotes QE c at s o w outs b → Changed [] (set s.owners o w) s t → KR s o → Toward s f → QR s o → Q (sends t o outs)
  pub does : (s t : State) (o : ℕ) (w : Owner) (outs : List Out) (new : List Dep) → A (owner_at s o).fate → (b : Doing s o w outs new) → IsNoTurn s o w outs new b → DoingNotes c s o w outs new b t → Changed new (set s.owners o w) s t → K s → Toward s f → Q s → Q (sends t o outs)
  pub reaches : (s t : State) (o : ℕ) (g : RegSession) (slot : ℕ) (r : Reply) (e : RegEnd) → o < length s.owners → A (owner_at s o).fate → session_at s o ≡ session.Register g → Heard s o slot r → phase_end (session_after g (slot_replica slot) r).phase ≡ Some e
      → Quiet s t → Changed [] (set s.owners o (ended_to s o g slot r)) s t → K s → Toward s f → Q s → QD t o
  pub reads : (s t : State) (o : ℕ) (g : RegSession) (key : Key) (cell : RegReply) (dep : Option Dep) → A (owner_at s o).fate → session_at s o ≡ session.Register g → g.work ≡ work.Read key → g.phase ≡ phase.Done (ends.Read cell dep)
      → t ≡ replies c s o (record { key = key; value = cell.value; writer = cell.writer } ∷ []) (after_read (owner_at s o).works.copy key.service dep) → Changed (given_dep dep) (set s.owners o (closed s o Ended)) s t → KD s o → Toward s f → QD s o → Q t
  pub writes : (s t : State) (o : ℕ) (g : RegSession) (key : Key) (value : ℕ) (stamp : Carstamp) → A (owner_at s o).fate → session_at s o ≡ session.Register g → g.work ≡ work.Write key value → g.phase ≡ phase.Done (ends.Written stamp)
      → t ≡ replies c s o [] (after_write (owner_at s o).works.copy key.service) → Changed [] (set s.owners o (closed s o Ended)) s t → KD s o → Toward s f → QD s o → Q t
  pub unfit : (s : State) (o : ℕ) (g : RegSession) (e : RegEnd) → session_at s o ≡ session.Register g → g.phase ≡ phase.Done e → can_end g.work e ≡ false → KD s o → Toward s f → QD s o → Q s
  pub turns : (s t : State) (o : ℕ) → A (owner_at s o).fate → ShardTurn c at s o t → K s → Toward s f → Toward t f → Q s → Q t

module _ (c : Config) (at : Reading) (A : OwnerFate → Type 0) (F K : State → Type 0) (KR KD : State → ℕ → Type 0) (f : State) (Q : State → Type 0) (QR QE QD : State → ℕ → Type 0) (k : AllMoves c at A F K KR KD)
    (runs : (x : OwnerFate) → A x → is_running x ≡ true) (resting : (s : State) (o : ℕ) → KR s o → is_running (owner_at s o).fate ≡ true) (owned : (s : State) → K s → StagesOwn s) (q : UnderMoves c at A F K KR KD f Q QR QE QD) where
  known : StepMoves c at A F K KR KD
  known = step_moves c at A F K KR KD k

  no_more : (h : List Entry) → h ≡ h ++ []
  no_more h = sym (append-nil h)

  -- how moves of owners lead on
  quiet_own : (s t : State) (o : ℕ) (w : Owner) → Quiet s t → t.owners ≡ set s.owners o w → is_running (owner_at s o).fate ≡ true → w.stage ≡ (owner_at s o).stage → w.kind ≡ (owner_at s o).kind → w.dates.begun ≡ (owner_at s o).dates.begun → Toward s t
  quiet_own s t o w g e r a b d = toward_own s t o w [] (g.history ∙ no_more s.history) e r a b d

  on_rests : (s t : State) (o : ℕ) (w : Owner) → Resting s o w → Quiet s t → t.owners ≡ set s.owners o w → is_running (owner_at s o).fate ≡ true → Toward s t
  on_rests s t o w (plans e b) g d r = quiet_own s t o w g d r refl refl refl
  on_rests s t o w (past id x rest time l e) g d r = quiet_own s t o w g d r refl refl refl
  on_rests s t o w (fixed id x rest y e l a b h) g d r = quiet_own s t o w g d r refl refl refl
  on_rests s t o w (cleared y e l a b h) g d r = quiet_own s t o w g d r refl refl refl

  on_works : (s t : State) (o : ℕ) (w : Owner) → Working at s o w → Quiet s t → t.owners ≡ set s.owners o w → is_running (owner_at s o).fate ≡ true → Toward s t
  on_works s t o w (owes_nothing id rest l) g d r = quiet_own s t o w g d r refl refl refl
  on_works s t o w (is_past id time rest l e) g d r = quiet_own s t o w g d r refl refl refl
  on_works s t o w (enters_own x l e y) g d r = quiet_own s t o w g d r refl refl refl

  then_sends : (s t : State) (o : ℕ) (outs : List Out) → Toward s t → Toward s (sends t o outs)
  then_sends s t o outs a = toward_trans s t (sends t o outs) a (toward_sends t o outs)

  on_dies : (s : State) (n : ℕ) (how : How) (x : OwnerFate) → StagesOwn s → Toward s (dies s n how x)
  on_dies s n how x h = by_owner (stage_at s n).owner refl
    where
      after : Option ℕ → State
      after o = let t = closes_owner s o x in record t {
        owners = t.owners ++ opening_owner n (kind.Stubbing (unsettled_by s o)) false (no_works (stage_at s n).context) s.steps ∷ [];
        stages = set t.stages (n - 1) (record (stage_at t n) { life = life.Over how; owner = None; stub = Some (length t.owners) });
        history = t.history ++ Over n how ∷ [];
      }

      by_owner : (o : Option ℕ) → (stage_at s n).owner ≡ o → Toward s (after o)
      by_owner None e = toward_grow s (after None) _ _ refl refl
      by_owner (Some o) e =
          let u = with_owner s o (closed s o x) in
          toward_trans s u (after (Some o)) (toward_own s u o (closed s o x) [] (no_more s.history) refl (h.owner n o e).running refl refl refl) (toward_grow u (after (Some o)) _ _ refl refl)

  abbrev P : State → Type 0
  P s = K s × (Toward s f → Q s)

  abbrev R : State → ℕ → Type 0
  R s o = KR s o × (Toward s f → QR s o)

  abbrev D : State → ℕ → Type 0
  D s o = KD s o × (Toward s f → QD s o)

  via : (s t : State) → Toward s t → Toward t f → Toward s f
  via s t a b = toward_trans s t f a b

  pub under : StepMoves c at A F P R D
  under = record {
    acting = λ s n o e h. known.acting s n o e h.0;
    heard = λ s o slot exchange e h. known.heard s o slot exchange e h.0;
    runs = known.runs;
    counted = known.counted;
    fates = λ s m x h. (known.fates s m x h.0, λ g. q.fates s m x h.0 (via s _ (toward_same s (marks_message s m x) [] (no_more s.history) refl) g) (h.1 (via s _ (toward_same s (marks_message s m x) [] (no_more s.history) refl) g)));
    again = λ s o exchange slot target r d h. (known.again s o exchange slot target r d h.0, λ g. q.again s o exchange slot target r d h.0 (via s _ (toward_sends s o (record { slot = Some slot; target = target; request = r } ∷ [])) g) (h.1 (via s _ (toward_sends s o (record { slot = Some slot; target = target; request = r } ∷ [])) g)));
    stages = λ s t y d h. (known.stages s t y d h.0, λ g. q.stages s t y d h.0 (via s t (toward_stage c s t y) g) g (h.1 (via s t (toward_stage c s t y) g)));
    dies = λ s n how x y h. (known.dies s n how x y h.0, λ g. q.dies s n how x y h.0 (via s _ (on_dies s n how x (owned s h.0)) g) (h.1 (via s _ (on_dies s n how x (owned s h.0)) g)));
    begins = λ s t w b y z d h. (known.begins s t w b y z d h.0, λ g. q.begins s t w b y z d h.0 (via s t (on_begins s t w b y) g) (h.1 (via s t (on_begins s t w b y) g)));
    rests = λ s t o w i a b x y d h. (known.rests s t o w i a b x y d h.0, λ g. q.rests s t o w i a b x y d h.0 (via s t (on_rests s t o w b y d.owned (runs (owner_at s o).fate a)) g) (h.1 (via s t (on_rests s t o w b y d.owned (runs (owner_at s o).fate a)) g)));
    settles = λ s o slot attempt shards outcome i a e d h. (known.settles s o slot attempt shards outcome i a e d h.0, λ g. q.settles s o slot attempt shards outcome i a e d h.0 (via s _ (on_settles s o slot attempt shards outcome (runs (owner_at s o).fate a)) g) (h.1 (via s _ (on_settles s o slot attempt shards outcome (runs (owner_at s o).fate a)) g)));
    settled = λ s o h. (known.settled s o h.0, λ g. q.settled s o h.0 g (h.1 g));
    works = λ s t o w i b y d h. (known.works s t o w i b y d h.0, λ g. q.works s t o w i b y d h.0 (via s t (on_works s t o w b y d.owned (resting s o h.0)) g) (h.1 (via s t (on_works s t o w b y d.owned (resting s o h.0)) g)));
    E = λ s o. Toward s f → QE s o;
    ready = λ s o x l e y h g. q.ready s o x l e y h.0 g (h.1 g);
    clears = λ s t o x r e i a b l d y z v n h m g. q.clears s t o x r e i a b l d y n h.0 (via s t (quiet_own s t o (cleared_owner s o) v n (runs (owner_at s o).fate a) refl refl refl) g) (h.1 (via s t (quiet_own s t o (cleared_owner s o) v n (runs (owner_at s o).fate a) refl refl refl) g)) (m.1 g);
    leaves = λ s t o w outs i b y z d h. (
      k.leaves s t o w outs i b y d h.0,
      λ g.
          let a = via s (sends t o outs) (on_leaves s t o w outs b y d.owned (resting s o h.0)) g in
          q.leaves s t o w outs i b y (notes_lead (λ s o. Toward s f → QE s o) QE s o w outs b (λ e. e a) z) d h.0 a (h.1 a),
    );
    does = λ s t o w outs new a b n y d h. (known.does s t o w outs new a b n y d h.0, λ g. q.does s t o w outs new a b n y d h.0 (via s _ (on_does s t o w outs new b n y d.owned (runs (owner_at s o).fate a)) g) (h.1 (via s _ (on_does s t o w outs new b n y d.owned (runs (owner_at s o).fate a)) g)));
    reaches = λ s t o x slot r e i a b y z v d h. (known.reaches s t o x slot r e i a b y z v d h.0, λ g. q.reaches s t o x slot r e i a b y z v d h.0 (via s t (quiet_own s t o _ v d.owned (runs (owner_at s o).fate a) refl refl refl) g) (h.1 (via s t (quiet_own s t o _ v d.owned (runs (owner_at s o).fate a) refl refl refl) g)));
    reads = λ s t o x key cell dep a b y z v d h. (known.reads s t o x key cell dep a b y z v d h.0, λ g. q.reads s t o x key cell dep a b y z v d h.0 (via s t (subst (Toward s) (sym v) (toward_own s _ o (closed s o Ended) _ refl refl (runs (owner_at s o).fate a) refl refl refl)) g) (h.1 (via s t (subst (Toward s) (sym v) (toward_own s _ o (closed s o Ended) _ refl refl (runs (owner_at s o).fate a) refl refl refl)) g)));
    writes = λ s t o x key value stamp a b y z v d h. (known.writes s t o x key value stamp a b y z v d h.0, λ g. q.writes s t o x key value stamp a b y z v d h.0 (via s t (subst (Toward s) (sym v) (toward_own s _ o (closed s o Ended) _ refl refl (runs (owner_at s o).fate a) refl refl refl)) g) (h.1 (via s t (subst (Toward s) (sym v) (toward_own s _ o (closed s o Ended) _ refl refl (runs (owner_at s o).fate a) refl refl refl)) g)));
    unfit = λ s o x e a b y h. (known.unfit s o x e a b y h.0, λ g. q.unfit s o x e a b y h.0 g (h.1 g));
    turns = λ s t o a y h. (known.turns s t o a y h.0, λ g. q.turns s t o a y h.0 (via s t (toward_turn c at s t o (runs (owner_at s o).fate a) y) g) g (h.1 (via s t (toward_turn c at s t o (runs (owner_at s o).fate a) y) g)));
  }
    where
      notes_lead : (E E' : State → ℕ → Type 0) (s : State) (o : ℕ) (w : Owner) (outs : List Out) (b : Leaving c at s o w outs) → (E s o → E' s o) → LaunchNotes E c at s o w outs b → LaunchNotes E' c at s o w outs b
      notes_lead E E' s o w _ (waits id time rest l) g h = tt
      notes_lead E E' s o w _ (fixes_work id rest l) g h = tt
      notes_lead E E' s o w _ (fixes_own x dep deps l e z) g h = g h
      notes_lead E E' s o w _ (asks_register key l e z) g h = g h
      notes_lead E E' s o w _ (stamps_register key value l e z) g h = g h
      notes_lead E E' s o w _ (begins_snapshot keys x l e z) g h = g h
      notes_lead E E' s o w _ (begins_txn reads guard writes x l e z) g h = g h
      notes_lead E E' s o w _ (fence_done l e) g h = tt
      notes_lead E E' s o w _ (stub_done u l e) g h = tt

      on_begins : (s t : State) (w : Owner) (b : Beginning c s w) → BeginNotes c s w b t → Toward s t
      on_begins s t _ (calls n x e) y = subst (Toward s) (sym y.1) (toward_grow s _ _ _ refl refl)
      on_begins s t _ (fences n) y = subst (Toward s) (sym y.1) (toward_grow s _ _ [] (no_more s.history) refl)

      on_settles : (s : State) (o slot : ℕ) (attempt : Attempt) (shards : List ℕ) (outcome : Outcome) → is_running (owner_at s o).fate ≡ true → Toward s (plans_stub (sends (listens s o slot) o (tells_decision attempt outcome shards)) o)
      on_settles s o slot attempt shards outcome r =
          toward_trans s u _ (toward_own s u o _ [] (no_more s.history) refl r refl refl refl)
          (toward_trans u v _ (toward_sends u o (tells_decision attempt outcome shards)) (toward_own v (plans_stub v o) o _ [] (no_more v.history) refl rv refl refl refl))
        where
          u : State
          u = listens s o slot

          v : State
          v = sends u o (tells_decision attempt outcome shards)

          fate_u : (owner_at u o).fate ≡ (owner_at s o).fate
          fate_u = grind (arith, looks)

          rv : is_running (owner_at v o).fate ≡ true
          rv = ap (λ (w : Owner). is_running w.fate) (sends_kept u o (tells_decision attempt outcome shards) o) ∙ (ap is_running fate_u ∙ r)

      on_leaves : (s t : State) (o : ℕ) (w : Owner) (outs : List Out) (b : Leaving c at s o w outs) → LeavingNotes c at s o w outs b t → t.owners ≡ set s.owners o w → is_running (owner_at s o).fate ≡ true → Toward s (sends t o outs)
      on_leaves s t o w outs (waits id time rest l) y d r = then_sends s t o outs (quiet_own s t o w y d r refl refl refl)
      on_leaves s t o w outs (fixes_work id rest l) y d r = then_sends s t o outs (quiet_own s t o w y d r refl refl refl)
      on_leaves s t o w outs (fixes_own x dep deps l e z) y d r = then_sends s t o outs (quiet_own s t o w y d r refl refl refl)
      on_leaves s t o w outs (asks_register key l e z) y d r = then_sends s t o outs (quiet_own s t o w y d r refl refl refl)
      on_leaves s t o w outs (stamps_register key value l e z) y d r = then_sends s t o outs (quiet_own s t o w y d r refl refl refl)
      on_leaves s t o w outs (begins_snapshot keys x l e z) y d r = then_sends s t o outs (quiet_own s t o w y d r refl refl refl)
      on_leaves s t o w outs (begins_txn reads guard writes x l e z) y d r = then_sends s t o outs (quiet_own s t o w y d r refl refl refl)
      on_leaves s t o w outs (fence_done l e) y d r = then_sends s t o outs (toward_own s t o w [] (ap (λ (x : State). x.history) y ∙ no_more s.history) d r refl refl refl)
      on_leaves s t o w outs (stub_done u l e) y d r = then_sends s t o outs (quiet_own s t o w y d r refl refl refl)

      on_does : (s t : State) (o : ℕ) (w : Owner) (outs : List Out) (new : List Dep) (b : Doing s o w outs new) → IsNoTurn s o w outs new b → DoingNotes c s o w outs new b t → t.owners ≡ set s.owners o w → is_running (owner_at s o).fate ≡ true → Toward s (sends t o outs)
      on_does s t o w outs new (listens_one slot y x) n g d r = then_sends s t o outs (quiet_own s t o w g d r refl refl refl)
      on_does s t o w outs new (fix_hears z slot y x e a) n g d r = then_sends s t o outs (quiet_own s t o w g d r refl refl refl)
      on_does s t o w outs new (fix_reached z slot y v x e a) n g d r = then_sends s t o outs (quiet_own s t o w g d r refl refl refl)
      on_does s t o w outs new (register_hears z slot y x e a b) n g d r = then_sends s t o outs (quiet_own s t o w g d r refl refl refl)
      on_does s t o w outs new (register_stores z slot y x e a b) n g d r = then_sends s t o outs (quiet_own s t o w g d r refl refl refl)
      on_does s t o w outs new (register_reached z slot y v x e a) n g d r = absurd g
      on_does s t o w outs new (read_ends z key cell dep x a b) n g d r = absurd g
      on_does s t o w outs new (write_ends z key value e x a b) n g d r = absurd g
      on_does s t o w outs new (txn_ends y x time a b e) n g d r = absurd n
      on_does s t o w outs new (snap_ends y x time a b e) n g d r = absurd n
      on_does s t o w outs new (counts_one target) n g d r = then_sends s t o outs (quiet_own s t o w g d r refl refl refl)
      on_does s t o w outs new (cuts_one id replica) n g d r = then_sends s t o outs (quiet_own s t o w g d r refl refl refl)
      on_does s t o w outs new (is_closed x) n g d r = then_sends s t o outs (quiet_own s t o w g.1 d r refl refl refl)
      on_does s t o w outs new forgets_all n g d r = absurd n
      on_does s t o w outs new (turns x y z) n g d r = absurd n
      on_does s t o w outs new (stub_asks attempt shards e b) n g d r = then_sends s t o outs (quiet_own s t o w g d r refl refl refl)
