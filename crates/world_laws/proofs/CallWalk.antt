-- The walk over what calls are and the history tells, on what is told of calls: the induction principle for what
-- scripts make and for what later states keep of earlier ones.
use Rattle.std.proofs.Common.{◌≡◌, ℕ, ◌-◌, true, false, List, [], ◌∷◌, ◌++◌, length, Option, Some, None, refl, ap, sym, ◌∙◌, subst, arith}
use Rattle.std.specs.Prelude.{◌+◌}
use Rattle.std.proofs.Math.ListN.{set}
use Rattle.truetime.specs.Reading.{Reading}
use Rattle.rss_names.specs.declared.attempt.Attempt.{Attempt}
use Rattle.rss_names.specs.declared.service.ServiceId.{ServiceId}
use Rattle.causal_context.specs.declared.dep.Dep.{Dep}
use Rattle.causal_context.specs.Seen.{Seen}
use Rattle.pipeline_lang.specs.declared.config.Config.{Config}
use Rattle.rss_model.specs.Cursor.{Cursor}
use Rattle.rss_model.specs.declared.history.Entry.TheVariants.{End, Over}
use Rattle.rss_model.specs.declared.history.How.{How}
use Rattle.rss_model.specs.declared.op.Shown.{Shown}
use Rattle.rss_wire.specs.Messages.{message_at}
use Rattle.rss_wire.specs.declared.messages.Outcome.{Outcome}
use Rattle.rss_wire.specs.declared.messages.Request.{Request}
use Rattle.rss_tables.specs.Lines.{tells_decision}
use Rattle.rss_tables.specs.Outs.{Out}
use Rattle.rss_tables.specs.Works.{no_works}
use Rattle.rss_machine.specs.Effect.{stepped}
use Rattle.rss_machine.specs.Moves.{ticks, marks_message, sends_one, sends, plans_stub, listens, dies, ends_call, closed, closes_owner, with_owner, unsettled_by}
use Rattle.rss_machine.specs.Refusal.{refusal}
use Rattle.rss_machine.specs.Standing.{is_running}
use Rattle.rss_machine.specs.State.{State, Owner, owner_at, stage_at, opening_owner}
use Rattle.rss_machine.specs.declared.session.OwnerKind.TheVariants as kind
use Rattle.rss_machine.specs.declared.state.Life.TheVariants as life
use Rattle.rss_machine.specs.declared.state.OwnerFate.{OwnerFate}
use Rattle.rss_machine.specs.declared.state.OwnerFate.TheVariants.{Ended}
use Rattle.rss_machine.specs.declared.step.Step.{Step}
use Rattle.world_laws.specs.Calls.{is_stub}
use Rattle.world_laws.proofs.Doings.{Changed, Beginning, Resting, Working, Leaving, waits, fixes_work, fixes_own, asks_register, stamps_register, begins_snapshot, begins_txn, fence_done, stub_done, Doing, listens_one, fix_hears, fix_reached, register_hears, register_stores, register_reached, read_ends, write_ends, txn_ends, snap_ends, counts_one, cuts_one, is_closed, forgets_all, turns, stub_asks, listened}
use Rattle.world_laws.proofs.Entries.{kept_running}
use Rattle.world_laws.proofs.Looks.{looks}
use Rattle.world_laws.proofs.OwnerMoves.{sends_kept}
use Rattle.world_laws.proofs.OwnerWalk.{AllKeeps, all_walk}
use Rattle.world_laws.proofs.Runs.{passes}
use Rattle.world_laws.proofs.StageMoves.{StageMove, BeginNotes, LeavingNotes, DoingNotes, Quiet, ended_to}
use Rattle.world_laws.proofs.ToldMoves.{Fresh}
use Rattle.rss_tables.specs.TransactionSession.{shown_reply}
use Rattle.world_laws.proofs.ToldMoves.{set_long}
use Rattle.world_laws.proofs.ToldRuns.{Running, AllTold, Stepping, AtRest, Reached}
use Rattle.rss_machine.specs.Moves.{serves_shard, serves_replica, notes_served}
use Rattle.world_laws.proofs.Entries.{onward_same}
use Rattle.world_laws.proofs.Entries.{onward_set, onward_grow, onward_sends}
use Rattle.world_laws.specs.Calls.{Kept, Onward}
use Rattle.world_laws.proofs.OwnerMoves.{sends_long}
use Rattle.world_laws.proofs.StageMoves.{quiet}
use Rattle.world_laws.proofs.Doings.{plans, past, fixed, cleared, owes_nothing, is_past, enters_own}
use Rattle.world_laws.proofs.StagesOwned.{grown_new}
use Rattle.world_laws.proofs.ToldMoves.{grown_long}
use Rattle.world_laws.proofs.ToldLaws.{told_keeps, told_ticks}

-- what an owner is stays
pub record Names (v w : Owner) : Type 0 where
  pub stage : w.stage ≡ v.stage
  pub kind : w.kind ≡ v.kind
  pub begun : w.dates.begun ≡ v.dates.begun

abbrev names : {v w : Owner} → w.stage ≡ v.stage → w.kind ≡ v.kind → w.dates.begun ≡ v.dates.begun → Names v w
names a b d = record { stage = a; kind = b; begun = d }

pub resting_names : (s : State) (o : ℕ) (w : Owner) → Resting s o w → Names (owner_at s o) w
resting_names s o _ (plans e b) = names refl refl refl
resting_names s o _ (past id x rest time l e) = names refl refl refl
resting_names s o _ (fixed id x rest r e l a b d) = names refl refl refl
resting_names s o _ (cleared r e l a b d) = names refl refl refl

pub working_names : (at : Reading) (s : State) (o : ℕ) (w : Owner) → Working at s o w → Names (owner_at s o) w
working_names at s o _ (owes_nothing id rest l) = names refl refl refl
working_names at s o _ (is_past id time rest l e) = names refl refl refl
working_names at s o _ (enters_own x l e f) = names refl refl refl

pub leaving_names : (c : Config) (at : Reading) (s : State) (o : ℕ) (w : Owner) (outs : List Out) → Leaving c at s o w outs → Names (owner_at s o) w
leaving_names c at s o _ _ (waits id time rest l) = names refl refl refl
leaving_names c at s o _ _ (fixes_work id rest l) = names refl refl refl
leaving_names c at s o _ _ (fixes_own x dep deps l e d) = names refl refl refl
leaving_names c at s o _ _ (asks_register key l e d) = names refl refl refl
leaving_names c at s o _ _ (stamps_register key value l e d) = names refl refl refl
leaving_names c at s o _ _ (begins_snapshot keys x l e d) = names refl refl refl
leaving_names c at s o _ _ (begins_txn reads guard writes x l e d) = names refl refl refl
leaving_names c at s o _ _ (fence_done l e) = names refl refl refl
leaving_names c at s o _ _ (stub_done u l e) = names refl refl refl

pub doing_names : (s : State) (o : ℕ) (w : Owner) (outs : List Out) (new : List Dep) → Doing s o w outs new → Names (owner_at s o) w
doing_names s o _ _ _ (listens_one slot r d) = names refl refl refl
doing_names s o _ _ _ (fix_hears f slot r x d e) = names refl refl refl
doing_names s o _ _ _ (fix_reached f slot r y x d e) = names refl refl refl
doing_names s o _ _ _ (register_hears f slot r x d a e) = names refl refl refl
doing_names s o _ _ _ (register_stores f slot r x d a e) = names refl refl refl
doing_names s o _ _ _ (register_reached f slot r y x d e) = names refl refl refl
doing_names s o _ _ _ (read_ends f key cell dep x a b) = names refl refl refl
doing_names s o _ _ _ (write_ends f key value e x a b) = names refl refl refl
doing_names s o _ _ _ (txn_ends x y time a b d) = names refl refl refl
doing_names s o _ _ _ (snap_ends x y time a b d) = names refl refl refl
doing_names s o _ _ _ (counts_one target) = names refl refl refl
doing_names s o _ _ _ (cuts_one service replica) = names refl refl refl
doing_names s o _ _ _ (is_closed f) = names refl refl refl
doing_names s o _ _ _ forgets_all = names refl refl refl
doing_names s o _ _ _ (turns x outs y) = names refl refl refl
doing_names s o _ _ _ (stub_asks attempt shards e b) = names refl refl refl

pub onward_trans : (s t u : State) → Onward s t → Onward t u → Onward s u
onward_trans s t u a b = record { long = let m = a.long in let n = b.long in omega (arith, m, n); each = λ o l. both o (a.each o l) (b.each o (let m = a.long in omega (arith, m, l))) }
  where
    both : (o : ℕ) → Kept (owner_at s o) (owner_at t o) → Kept (owner_at t o) (owner_at u o) → Kept (owner_at s o) (owner_at u o)
    both o x y = record {
      stage = y.stage ∙ x.stage;
      kind = y.kind ∙ x.kind;
      begun = y.begun ∙ x.begun;
      fate = λ f. y.fate (ap is_running (x.fate f) ∙ f) ∙ x.fate f;
      session = λ f. y.session (ap is_running (x.fate f) ∙ f) ∙ x.session f;
      ended = λ f. y.ended (ap is_running (x.fate f) ∙ f) ∙ x.ended f;
    }

-- an owner that runs changes, and sends requests
pub onward_own : (s t : State) (o : ℕ) (w : Owner) → t.owners ≡ set s.owners o w → is_running (owner_at s o).fate ≡ true → Names (owner_at s o) w → Onward s t
onward_own s t o w e r n = onward_set s t o w e (kept_running (owner_at s o) w r n.stage n.kind n.begun)

pub onward_out : (s t : State) (o : ℕ) (w : Owner) (outs : List Out) → t.owners ≡ set s.owners o w → is_running (owner_at s o).fate ≡ true → Names (owner_at s o) w → Onward s (sends t o outs)
onward_out s t o w outs e r n = onward_trans s t (sends t o outs) (onward_own s t o w e r n) (onward_sends t o outs)

-- as many owners
abbrev pub SameLong : State → State → Type 0
SameLong s t = length t.owners ≡ length s.owners

long_out : (s t : State) (o : ℕ) (w : Owner) (outs : List Out) → t.owners ≡ set s.owners o w → SameLong s (sends t o outs)
long_out s t o w outs e = sends_long t o outs ∙ set_long s t o w e

history_out : (o : ℕ) (outs : List Out) (s : State) → (sends s o outs).history ≡ s.history
history_out o [] s = refl
history_out o (out ∷ outs) s = history_out o outs (sends_one s o out)

-- what has to be shown of a predicate on what calls are and the history tells: that it is kept where owners go
-- on, where stages move, where calls and fence statements begin, where a call ends, and where a stage dies
pub record CallKeeps (c : Config) (Q : State → Type 0) : Type 1 where
  pub goes : (s t : State) → t.history ≡ s.history → Onward s t → SameLong s t → Q s → Q t
  pub stages : (s t : State) → StageMove c s t → t.owners ≡ s.owners → Q s → Q t
  pub begins : (s t : State) (w : Owner) (b : Beginning c s w) → BeginNotes c s w b t → Onward s t → Q s → Q t
  pub ends : (s t : State) (o : ℕ) (reply : List Shown) → t.history ≡ s.history ++ End o reply ∷ [] → Onward s t → SameLong s t → Q s → Q t
  pub dies : (s t : State) (n : ℕ) (how : How) (stub : Owner) → is_stub stub.kind ≡ true → t.history ≡ s.history ++ Over n how ∷ [] → Onward s t → length t.owners ≡ length s.owners + 1 → owner_at t (length s.owners) ≡ stub → Q s → Q t

module _ (c : Config) (at : Reading) (Q : State → Type 0) (k : CallKeeps c Q) where
  abbrev With : State → Type 0
  With s = Stepping s × Q s

  abbrev WithRest : State → ℕ → Type 0
  WithRest s o = AtRest s o × Q s

  abbrev WithReached : State → ℕ → Type 0
  WithReached s o = Reached s o × Q s

  told : AllKeeps c at Running Fresh Stepping AtRest Reached
  told = told_keeps c at

  -- owners that go on
  own_kept : (s t : State) (o : ℕ) (w : Owner) → Quiet s t → t.owners ≡ set s.owners o w → is_running (owner_at s o).fate ≡ true → Names (owner_at s o) w → Q s → Q t
  own_kept s t o w q e r n h = k.goes s t q.history (onward_own s t o w e r n) (set_long s t o w e) h

  out_kept : (s t : State) (o : ℕ) (w : Owner) (outs : List Out) → Quiet s t → t.owners ≡ set s.owners o w → is_running (owner_at s o).fate ≡ true → Names (owner_at s o) w → Q s → Q (sends t o outs)
  out_kept s t o w outs q e r n h = k.goes s (sends t o outs) (history_out o outs t ∙ q.history) (onward_out s t o w outs e r n) (long_out s t o w outs e) h

  end_kept : (s : State) (o : ℕ) (reply : List Shown) (cursor : Cursor) (seen : Seen) → is_running (owner_at s o).fate ≡ true → Q s → Q (ends_call s o reply cursor seen)
  end_kept s o reply cursor seen r h = k.ends s (ends_call s o reply cursor seen) o reply refl (onward_own s (ends_call s o reply cursor seen) o (closed s o Ended) refl r (names refl refl refl)) (set_long s (ends_call s o reply cursor seen) o (closed s o Ended) refl) h

  leaves_kept : (s t : State) (o : ℕ) (w : Owner) (outs : List Out) (b : Leaving c at s o w outs) → LeavingNotes c at s o w outs b t → Changed [] (set s.owners o w) s t → is_running (owner_at s o).fate ≡ true → Q s → Q (sends t o outs)
  leaves_kept s t o w _ (waits id time rest l) q d r h = out_kept s t o w [] q d.owned r (names refl refl refl) h
  leaves_kept s t o w outs (fixes_work id rest l) q d r h = out_kept s t o w outs q d.owned r (names refl refl refl) h
  leaves_kept s t o w outs (fixes_own x dep deps l e f) q d r h = out_kept s t o w outs q d.owned r (names refl refl refl) h
  leaves_kept s t o w outs (asks_register key l e f) q d r h = out_kept s t o w outs q d.owned r (names refl refl refl) h
  leaves_kept s t o w outs (stamps_register key value l e f) q d r h = out_kept s t o w outs q d.owned r (names refl refl refl) h
  leaves_kept s t o w outs (begins_snapshot keys x l e f) q d r h = out_kept s t o w outs q d.owned r (names refl refl refl) h
  leaves_kept s t o w outs (begins_txn reads guard writes x l e f) q d r h = out_kept s t o w outs q d.owned r (names refl refl refl) h
  leaves_kept s t o w _ (fence_done l e) q d r h = k.goes s t (ap (λ (u : State). u.history) q) (onward_own s t o w d.owned r (names refl refl refl)) (set_long s t o w d.owned) h
  leaves_kept s t o w _ (stub_done u l e) q d r h = out_kept s t o w [] q d.owned r (names refl refl refl) h

  does_kept : (s t : State) (o : ℕ) (w : Owner) (outs : List Out) (new : List Dep) → is_running (owner_at s o).fate ≡ true → (b : Doing s o w outs new) → DoingNotes c s o w outs new b t → Changed new (set s.owners o w) s t → Q s → Q (sends t o outs)
  does_kept s t o w _ _ r (listens_one slot y x) q d h = out_kept s t o w [] q d.owned r (names refl refl refl) h
  does_kept s t o w _ _ r (fix_hears f slot y x e a) q d h = out_kept s t o w [] q d.owned r (names refl refl refl) h
  does_kept s t o w _ _ r (fix_reached f slot y g x e a) q d h = out_kept s t o w [] q d.owned r (names refl refl refl) h
  does_kept s t o w _ _ r (register_hears f slot y x e a b) q d h = out_kept s t o w [] q d.owned r (names refl refl refl) h
  does_kept s t o w outs _ r (register_stores f slot y x e a b) q d h = out_kept s t o w outs q d.owned r (names refl refl refl) h
  does_kept s t o w _ _ r (register_reached f slot y g x e a) q d h = absurd q
  does_kept s t o w _ _ r (read_ends f key cell dep x a b) q d h = absurd q
  does_kept s t o w _ _ r (write_ends f key value e x a b) q d h = absurd q
  does_kept s t o w _ _ r (txn_ends y x time a b e) q d h = subst Q (sym q) (end_kept s o (shown_reply x.reads x.lines) _ _ r h)
  does_kept s t o w _ _ r (snap_ends y x time a b e) q d h = subst Q (sym q) (end_kept s o (shown_reply x.keys x.lines) _ _ r h)
  does_kept s t o w _ _ r (counts_one target) q d h = out_kept s t o w [] q d.owned r (names refl refl refl) h
  does_kept s t o w _ _ r (cuts_one id replica) q d h = out_kept s t o w [] q d.owned r (names refl refl refl) h
  does_kept s t o w _ _ r (is_closed f) q d h = out_kept s t o w [] q.1 d.owned r (names refl refl refl) h
  does_kept s t o w _ _ r forgets_all q d h = out_kept s t o w [] q d.owned r (names refl refl refl) h
  does_kept s t o w outs _ r (turns x _ y) q d h = out_kept s t o w outs q d.owned r (names refl refl refl) h
  does_kept s t o w outs _ r (stub_asks attempt shards e b) q d h = out_kept s t o w outs q d.owned r (names refl refl refl) h

  settles_kept : (s : State) (o slot : ℕ) (attempt : Attempt) (shards : List ℕ) (outcome : Outcome) → is_running (owner_at s o).fate ≡ true → Q s → Q (plans_stub (sends (listens s o slot) o (tells_decision attempt outcome shards)) o)
  settles_kept s o slot attempt shards outcome r h = own_kept v t o _ (quiet refl refl refl) refl rv (names refl refl refl) (out_kept s u o (listened s o slot) (tells_decision attempt outcome shards) (quiet refl refl refl) refl r (names refl refl refl) h)
    where
      u : State
      u = listens s o slot

      v : State
      v = sends u o (tells_decision attempt outcome shards)

      t : State
      t = plans_stub v o

      listened_fate : (owner_at u o).fate ≡ (owner_at s o).fate
      listened_fate = grind (arith, looks)

      rv : is_running (owner_at v o).fate ≡ true
      rv = ap (λ (w : Owner). is_running w.fate) (sends_kept u o (tells_decision attempt outcome shards) o) ∙ (ap is_running listened_fate ∙ r)

  dies_kept : (s : State) (n : ℕ) (how : How) (f : OwnerFate) → Stepping s → Q s → Q (dies s n how f)
  dies_kept s n how f g h = by_owner (stage_at s n).owner refl
    where
      stub : Option ℕ → Owner
      stub o = opening_owner n (kind.Stubbing (unsettled_by s o)) false (no_works (stage_at s n).context) s.steps

      after : Option ℕ → State
      after o = let t = closes_owner s o f in record t {
        owners = t.owners ++ opening_owner n (kind.Stubbing (unsettled_by s o)) false (no_works (stage_at s n).context) s.steps ∷ [];
        stages = set t.stages (n - 1) (record (stage_at t n) { life = life.Over how; owner = None; stub = Some (length t.owners) });
        history = t.history ++ Over n how ∷ [];
      }

      by_owner : (o : Option ℕ) → (stage_at s n).owner ≡ o → Q (after o)
      by_owner None e = k.dies s (after None) n how (stub None) refl refl (onward_grow s (after None) (stub None) refl) (grown_long s (after None) (stub None) refl) (grown_new s (after None) (stub None) refl) h
      by_owner (Some o) e =
          let u = with_owner s o (closed s o f) in
          k.dies s (after (Some o)) n how (stub (Some o)) refl refl (onward_trans s u (after (Some o)) (onward_own s u o (closed s o f) refl (g.told.stages.owner n o e).running (names refl refl refl)) (onward_grow u (after (Some o)) (stub (Some o)) refl))
          (grown_long u (after (Some o)) (stub (Some o)) refl ∙ ap (λ (m : ℕ). m + 1) (set_long s u o (closed s o f) refl))
          (ap (λ (m : ℕ). owner_at (after (Some o)) m) (sym (set_long s u o (closed s o f) refl)) ∙ grown_new u (after (Some o)) (stub (Some o)) refl) h

  begins_kept : (s t : State) (w : Owner) (b : Beginning c s w) → BeginNotes c s w b t → Changed [] (s.owners ++ w ∷ []) s t → Q s → Q t
  begins_kept s t w b q d h = k.begins s t w b q (onward_grow s t w d.owned) h

  same_kept : (s t : State) → t.history ≡ s.history → t.owners ≡ s.owners → Q s → Q t
  same_kept s t a e h = k.goes s t a (onward_same s t e) (ap (λ (owners : List Owner). length owners) e) h

  pub with_keeps : AllKeeps c at Running Fresh With WithRest WithReached
  with_keeps = record {
    shards = λ s m shard r d h. (told.shards s m shard r d h.0, same_kept s (serves_shard s m shard at.latest r) refl refl h.1);
    replicas = λ s m id replica r d h. (told.replicas s m id replica r d h.0, noted s m id replica r h.1);
    moves = record {
      acting = λ s n o e h. told.moves.acting s n o e h.0;
      heard = λ s o slot exchange e h. told.moves.heard s o slot exchange e h.0;
      runs = told.moves.runs;
      counted = told.moves.counted;
      fates = λ s m f h. (told.moves.fates s m f h.0, same_kept s (marks_message s m f) refl refl h.1);
      again = λ s o exchange slot target r d h. (told.moves.again s o exchange slot target r d h.0, again_kept s o (record { slot = Some slot; target = target; request = r }) (told.moves.heard s o slot exchange d.current h.0) h.1);
      stages = λ s t y d h. (told.moves.stages s t y d h.0, k.stages s t y d.owned h.1);
      dies = λ s n how f y h. (told.moves.dies s n how f y h.0, dies_kept s n how f h.0 h.1);
      begins = λ s t w b q f d h. (told.moves.begins s t w b q f d h.0, begins_kept s t w b q d h.1);
      rests = λ s t o w i r b q d h. (told.moves.rests s t o w i r b q d h.0, own_kept s t o w q d.owned r (resting_names s o w b) h.1);
      settles = λ s o slot attempt shards outcome i r e d h. (told.moves.settles s o slot attempt shards outcome i r e d h.0, settles_kept s o slot attempt shards outcome r h.1);
      settled = λ s o h. (told.moves.settled s o h.0, h.1);
      works = λ s t o w i b q d h. (told.moves.works s t o w i b q d h.0, own_kept s t o w q d.owned h.0.runs (working_names at s o w b) h.1);
      leaves = λ s t o w outs i b q d h. (told.moves.leaves s t o w outs i b q d h.0, leaves_kept s t o w outs b q d h.0.runs h.1);
      does = λ s t o w outs new r b q d h. (told.moves.does s t o w outs new r b q d h.0, does_kept s t o w outs new r b q d h.1);
      reaches = λ s t o f slot reply e i r x y z q d h. (told.moves.reaches s t o f slot reply e i r x y z q d h.0, own_kept s t o (ended_to s o f slot reply) q d.owned r (names refl refl refl) h.1);
      reads = λ s t o f key cell dep r x a b q d h. (told.moves.reads s t o f key cell dep r x a b q d h.0, subst Q (sym q) (end_kept s o (record { key = key; value = cell.value; writer = cell.writer } ∷ []) _ _ r h.1));
      writes = λ s t o f key value stamp r x a b q d h. (told.moves.writes s t o f key value stamp r x a b q d h.0, subst Q (sym q) (end_kept s o [] _ _ r h.1));
      unfit = λ s o f e x a b h. (told.moves.unfit s o f e x a b h.0, h.1);
    };
  }
    where
      again_kept : (s : State) (o : ℕ) (out : Out) → is_running (owner_at s o).fate ≡ true → Q s → Q (sends_one s o out)
      again_kept s o out r h = own_kept s (sends_one s o out) o _ (quiet refl refl refl) refl r (names refl refl refl) h

      noted : (s : State) (m : ℕ) (id : ServiceId) (replica : ℕ) (r : Request) → Q s → Q (notes_served (serves_replica s m id replica r) (message_at s.net m).envelope.owner id r)
      noted s m id replica r h =
          let t = notes_served (serves_replica s m id replica r) (message_at s.net m).envelope.owner id r in
          let o = (message_at s.net m).envelope.owner in
          k.goes s t refl (onward_set s t o _ refl (record { stage = refl; kind = refl; begun = refl; fate = λ e. refl; session = λ e. refl; ended = λ e. refl })) (set_long s t o _ refl) h

-- a step that is not refused
pub calls_step : (c : Config) (Q : State → Type 0) → CallKeeps c Q → ((s : State) (at : Reading) → Q s → Q (ticks s at)) → (s : State) (step : Step) → refusal c s step ≡ None → AllTold s × Q s → AllTold (stepped c s step) × Q (stepped c s step)
calls_step c Q k ticked s step r h =
    let g =
    all_walk c step.at Running Fresh (λ t. Stepping t × Q t) (λ t o. AtRest t o × Q t) (λ t o. Reached t o × Q t) (with_keeps c step.at Q k)
    (ticks s step.at) step.kind (passes c s step r).kind (record { ended = λ o. let e = (h.0.told.fits o).dates.ended in omega (arith, e) }) (told_ticks s step.at h.0, ticked s step.at h.1) in
    (record { told = g.0.told; done = g.0.done }, g.1)
