-- Calls, fence statements and messages are of the scripts, in every run; and owners go on from each state of a run
-- to every later one.
use Rattle.std.proofs.Common.{◌≡◌, ℕ, zero, suc, ◌<◌, ◌≤◌, ◌⊎◌, inl, inr, Bool, true, false, List, [], ◌∷◌, ◌++◌, length, Some, None, refl, ap, sym, ◌∙◌, subst, arith}
use Rattle.std.specs.Prelude.{◌+◌}
use Rattle.std.proofs.lemmas.Bool.{true≢false, cases_lt}
use Rattle.rss_names.specs.declared.service.Key.{Key}
use Rattle.pipeline_lang.specs.declared.config.Config.{Config}
use Rattle.pipeline_lang.specs.declared.script.Statement.{Statement}
use Rattle.pipeline_lang.specs.declared.script.Statement.TheVariants as statement
use Rattle.rss_model.specs.History.{entry_at}
use Rattle.rss_model.specs.declared.history.Entry.{Entry}
use Rattle.rss_model.specs.declared.history.Entry.TheVariants.{Begin, End, Give, Get, Over}
use Rattle.rss_model.specs.declared.history.How.TheVariants.{Exited}
use Rattle.rss_model.specs.declared.history.Token.{Token}
use Rattle.rss_model.specs.declared.history.Token.TheVariants as token
use Rattle.rss_model.specs.declared.op.Op.{Op}
use Rattle.causal_context.specs.Seen.{Seen}
use Rattle.rss_machine.specs.Effect.{stepped}
use Rattle.rss_machine.specs.Enabling.{next_statement}
use Rattle.rss_machine.specs.Moves.{ticks, opens_call, opens_fence}
use Rattle.rss_machine.specs.Refusal.{refusal}
use Rattle.rss_machine.specs.Run.{run, run_from}
use Rattle.rss_machine.specs.State.{State, Owner, start, owner_at, stage_at, pipe_at, no_owner}
use Rattle.rss_machine.specs.declared.session.OwnerKind.TheVariants as kind
use Rattle.rss_machine.specs.declared.step.Step.{Step}
use Rattle.world_laws.specs.Calls.{is_stub}
use Rattle.world_laws.specs.Scripted.{IsScripted, hands_over, HandsOver, HasFence, AreScripted}
use Rattle.world_laws.proofs.CallWalk.{CallKeeps, calls_step, onward_trans}
use Rattle.world_laws.proofs.Doings.{Beginning, calls, fences}
use Rattle.world_laws.proofs.Entries.{onward_same, call_there}
use Rattle.world_laws.specs.Calls.{Onward}
use Rattle.world_laws.proofs.Histories.{entry_more}
use Rattle.world_laws.proofs.Looks.{looks}
use Rattle.world_laws.proofs.Runs.{run_keeps, steps_keep, run_split}
use Rattle.world_laws.proofs.StageMoves.{StageMove, counts, goes_to, spawns_one, gets, takes_one, puts_one, closes_one, cuts_off_one, is_over, exit_given, Lying, exited, stubbed, marked, BeginNotes}
use Rattle.world_laws.proofs.StagesOwned.{grown_new, grown_past}
use Rattle.world_laws.proofs.ToldLaws.{told_start, told_run}
use Rattle.world_laws.proofs.ToldRuns.{AllTold, two_more}

-- from one state to a later one owners go on
pub onward_keeps : (c : Config) (u : State) → CallKeeps c (Onward u)
onward_keeps c u = record {
  goes = λ s t e d l h. onward_trans u s t h d;
  stages = λ s t y e h. onward_trans u s t h (onward_same s t e);
  begins = λ s t w b q d h. onward_trans u s t h d;
  ends = λ s t o reply e d l h. onward_trans u s t h d;
  dies = λ s t n how stub k e d l f h. onward_trans u s t h d;
}

onward_step : (c : Config) (u s : State) (step : Step) → refusal c s step ≡ None → AllTold s × Onward u s → AllTold (stepped c s step) × Onward u (stepped c s step)
onward_step c u s step r h = calls_step c (Onward u) (onward_keeps c u) (λ t at g. onward_trans u t (ticks t at) g (onward_same t (ticks t at) refl)) s step r h

pub onward_from : (c : Config) (more : List Step) (u s : State) → AllTold u → run_from c u more ≡ Some s → Onward u s
onward_from c more u s h e = (steps_keep c (λ t. AllTold t × Onward u t) (onward_step c u) more u s e (h, onward_same u u refl)).1

-- calls, fence statements and messages are of the scripts
module _ (c : Config) where
  call_of : (s t : State) (o : ℕ) (x : Op) → Onward s t → o < length s.owners → AreScripted c s → (owner_at t o).kind ≡ kind.Calling x → IsScripted c (owner_at t o).stage x
  call_of s t o x d l h e = let k = d.each o l in subst (λ (n : ℕ). IsScripted c n x) (sym k.stage) (h.calls o x (sym k.kind ∙ e))

  fence_of : (s t : State) (o : ℕ) → Onward s t → 0 < o → o < length s.owners → AreScripted c s → (owner_at t o).kind ≡ kind.Fencing → HasFence c (owner_at t o).stage
  fence_of s t o d z l h e = let k = d.each o l in subst (HasFence c) (sym k.stage) (h.fences o z l (sym k.kind ∙ e))

  -- as many owners, or a stub more
  old_owners : (s t : State) → Onward s t → ((o : ℕ) → length s.owners ≤ o → o < length t.owners → is_stub (owner_at t o).kind ≡ true) → ((i n : ℕ) (x : Token) → entry_at t.history i ≡ Get n x → HandsOver c) → AreScripted c s → AreScripted c t
  old_owners s t d f g h = record {
    calls = λ o x e. by_call o x e (cases_lt o (length s.owners));
    fences = λ o z l e. by_fence o z l e (cases_lt o (length s.owners));
    gets = g;
  }
    where
      by_call : (o : ℕ) (x : Op) → (owner_at t o).kind ≡ kind.Calling x → (o < length s.owners) ⊎ (length s.owners ≤ o) → IsScripted c (owner_at t o).stage x
      by_call o x e (inl l) = call_of s t o x d l h e
      by_call o x e (inr l) = absurd (true≢false (sym (f o l (call_there t o x e)) ∙ ap is_stub e))

      by_fence : (o : ℕ) → 0 < o → o < length t.owners → (owner_at t o).kind ≡ kind.Fencing → (o < length s.owners) ⊎ (length s.owners ≤ o) → HasFence c (owner_at t o).stage
      by_fence o z k e (inl l) = fence_of s t o d z l h e
      by_fence o z k e (inr l) = absurd (true≢false (sym (f o l k) ∙ ap is_stub e))

  same_gets : (s t : State) → t.history ≡ s.history → AreScripted c s → (i n : ℕ) (x : Token) → entry_at t.history i ≡ Get n x → HandsOver c
  same_gets s t e h i n x q = h.gets i n x (ap (λ (l : List Entry). entry_at l i) (sym e) ∙ q)

  -- one entry more
  more_gets : (h : List Entry) (e : Entry) → ((n : ℕ) (x : Token) → e ≡ Get n x → HandsOver c) → ((i n : ℕ) (x : Token) → entry_at h i ≡ Get n x → HandsOver c) → (i n : ℕ) (x : Token) → entry_at (h ++ e ∷ []) i ≡ Get n x → HandsOver c
  more_gets h e f g i n x q = by_place (entry_more h e i)
    where
      over_not_get : (n : ℕ) (x : Token) → Over 0 Exited ≡ Get n x → ⊥
      over_not_get n x e = cc

      by_place : ((entry_at (h ++ e ∷ []) i ≡ entry_at h i) × (i < length h)) ⊎ ((entry_at (h ++ e ∷ []) i ≡ e) × (i ≡ length h)) ⊎ ((entry_at (h ++ e ∷ []) i ≡ Over 0 Exited) × (length h < i)) → HandsOver c
      by_place (inl y) = g i n x (sym y.0 ∙ q)
      by_place (inr (inl y)) = f n x (sym y.0 ∙ q)
      by_place (inr (inr y)) = absurd (over_not_get n x (sym y.0 ∙ q))

  -- an entry that gets nothing
  abbrev gets_one : Entry → Bool
  gets_one (Begin o stage x) = false
  gets_one (End o reply) = false
  gets_one (Give stage token) = false
  gets_one (Get stage token) = true
  gets_one (Over stage how) = false

  no_get : (e : Entry) → gets_one e ≡ false → (n : ℕ) (x : Token) → e ≡ Get n x → HandsOver c
  no_get e k n x q = absurd (true≢false (sym (ap gets_one q) ∙ k))

  handing : (s : State) (n : ℕ) (x : Statement ℕ Key ℕ ℕ) → next_statement c s n ≡ x → hands_over x ≡ true → HandsOver c
  handing s n x e h = record { stage = n; place = (stage_at s n).cursor.position; hands = ap hands_over e ∙ h }

  lying_hands : (s : State) (n : ℕ) (t : Token) (seen : Seen) → Lying c s n t seen → HandsOver c
  lying_hands s n _ _ (exited child e f) = handing s n (statement.Wait child) e refl
  lying_hands s n _ _ (stubbed child how e f) = handing s n (statement.Wait child) e refl
  lying_hands s n _ _ (marked variable p number seen e f) = handing s n (statement.Take variable p) e refl

  stage_gets : (s t : State) → StageMove c s t → AreScripted c s → (i n : ℕ) (x : Token) → entry_at t.history i ≡ Get n x → HandsOver c
  stage_gets s _ (counts n) h = h.gets
  stage_gets s _ (goes_to n cursor) h = h.gets
  stage_gets s _ (spawns_one n child cursor m e) h =
      subst (λ (l : List Entry). (i k : ℕ) (x : Token) → entry_at l i ≡ Get k x → HandsOver c) (two_more s.history (Give n (token.Spawn child)) (Get child (token.Spawn child)))
      (more_gets (s.history ++ Give n (token.Spawn child) ∷ []) (Get child (token.Spawn child)) (λ k x q. handing s n (statement.Spawn child) e refl) (more_gets s.history (Give n (token.Spawn child)) (no_get (Give n (token.Spawn child)) refl) h.gets))
  stage_gets s _ (gets n t seen cursor m l) h = more_gets s.history (Get n t) (λ k x q. lying_hands s n t seen l) h.gets
  stage_gets s _ (takes_one n v p chunk chunks cursor m e d) h = more_gets s.history (Get n (token.Chunk p chunk.number)) (λ k x q. handing s n (statement.Take v p) e refl) h.gets
  stage_gets s _ (puts_one n p value dropped cursor m) h = more_gets s.history (Give n (token.Chunk p (pipe_at s p).next)) (no_get (Give n (token.Chunk p (pipe_at s p).next)) refl) h.gets
  stage_gets s _ (closes_one n p seen g) h = more_gets s.history (Give n (token.Chunk p (pipe_at s p).next)) (no_get (Give n (token.Chunk p (pipe_at s p).next)) refl) h.gets
  stage_gets s _ (cuts_off_one p) h = h.gets
  stage_gets s _ (is_over n m) h = more_gets s.history (Over n Exited) (no_get (Over n Exited) refl) h.gets
  stage_gets s _ (exit_given n seen g) h = more_gets s.history (Give n (token.Exit n)) (no_get (Give n (token.Exit n)) refl) h.gets

  begin_scripted : (s t : State) (w : Owner) (b : Beginning c s w) → BeginNotes c s w b t → Onward s t → AreScripted c s → AreScripted c t
  begin_scripted s t w (calls n x e) q d h = subst (AreScripted c) (sym q.1) record {
    calls = λ o y k. by_call o y k (cases_lt o (length s.owners));
    fences = λ o z l k. by_fence o z l k (cases_lt o (length s.owners));
    gets = more_gets s.history (Begin (length s.owners) n x) (no_get (Begin (length s.owners) n x) refl) h.gets;
  }
    where
      u : State
      u = opens_call s n x

      up : Onward s u
      up = subst (Onward s) q.1 d

      same_op : (y : Op) → kind.Calling x ≡ kind.Calling y → x ≡ y
      same_op y e = cc

      not_fencing : (y : Op) → kind.Fencing ≡ kind.Calling y → ⊥
      not_fencing y e = cc

      call_not_fence : (y : Op) → kind.Calling y ≡ kind.Fencing → ⊥
      call_not_fence y e = cc

      by_call : (o : ℕ) (y : Op) → (owner_at u o).kind ≡ kind.Calling y → (o < length s.owners) ⊎ (length s.owners ≤ o) → IsScripted c (owner_at u o).stage y
      by_call o y k (inl l) = call_of s u o y up l h k
      by_call o y k (inr l) = by_new (grown_past s u w refl o l)
        where
          by_new : (o ≡ length s.owners) ⊎ (owner_at u o ≡ no_owner) → IsScripted c (owner_at u o).stage y
          by_new (inr f) = absurd (not_fencing y (ap (λ (v : Owner). v.kind) (sym f) ∙ k))
          by_new (inl f) =
              let new : owner_at u o ≡ w = ap (λ (j : ℕ). owner_at u j) f ∙ grown_new s u w refl in
              subst (λ (v : Owner). IsScripted c v.stage y) (sym new) record { place = (stage_at s n).cursor.position; variables = (stage_at s n).cursor.variables; makes = e ∙ ap (λ (z : Op). Some z) (same_op y (ap (λ (v : Owner). v.kind) (sym new) ∙ k)) }

      by_fence : (o : ℕ) → 0 < o → o < length u.owners → (owner_at u o).kind ≡ kind.Fencing → (o < length s.owners) ⊎ (length s.owners ≤ o) → HasFence c (owner_at u o).stage
      by_fence o z m k (inl l) = fence_of s u o up z l h k
      by_fence o z m k (inr l) = by_new (grown_past s u w refl o l)
        where
          by_new : (o ≡ length s.owners) ⊎ (owner_at u o ≡ no_owner) → HasFence c (owner_at u o).stage
          by_new (inl f) = absurd (call_not_fence x (ap (λ (v : Owner). v.kind) (sym (ap (λ (j : ℕ). owner_at u j) f ∙ grown_new s u w refl)) ∙ k))
          by_new (inr f) = absurd (let a = long in omega (arith, a, l, m, past f))
            where
              long : length u.owners ≡ length s.owners + 1
              long = at s.owners w
                where
                  at : (xs : List Owner) (w : Owner) → length (xs ++ w ∷ []) ≡ length xs + 1
                  at xs w = grind (arith, looks)

              past : owner_at u o ≡ no_owner → length s.owners < o
              past f = by_same (cases_lt (length s.owners) o)
                where
                  by_same : (length s.owners < o) ⊎ (o ≤ length s.owners) → length s.owners < o
                  by_same (inl j) = j
                  by_same (inr j) = absurd (call_not_fence x (ap (λ (v : Owner). v.kind) (sym (ap (λ (i : ℕ). owner_at u i) (same o (length s.owners) l j) ∙ grown_new s u w refl)) ∙ k))
                    where
                      same : (a b : ℕ) → b ≤ a → a ≤ b → a ≡ b
                      same a b l m = omega (arith, l, m)
  begin_scripted s t w (fences n) q d h = subst (AreScripted c) (sym q.1) record {
    calls = λ o y k. by_call o y k (cases_lt o (length s.owners));
    fences = λ o z l k. by_fence o z l k (cases_lt o (length s.owners));
    gets = h.gets;
  }
    where
      u : State
      u = opens_fence s n

      up : Onward s u
      up = subst (Onward s) q.1 d

      not_fencing : (y : Op) → kind.Fencing ≡ kind.Calling y → ⊥
      not_fencing y e = cc

      by_call : (o : ℕ) (y : Op) → (owner_at u o).kind ≡ kind.Calling y → (o < length s.owners) ⊎ (length s.owners ≤ o) → IsScripted c (owner_at u o).stage y
      by_call o y k (inl l) = call_of s u o y up l h k
      by_call o y k (inr l) = by_new (grown_past s u w refl o l)
        where
          by_new : (o ≡ length s.owners) ⊎ (owner_at u o ≡ no_owner) → IsScripted c (owner_at u o).stage y
          by_new (inr f) = absurd (not_fencing y (ap (λ (v : Owner). v.kind) (sym f) ∙ k))
          by_new (inl f) = absurd (not_fencing y (ap (λ (v : Owner). v.kind) (sym (ap (λ (j : ℕ). owner_at u j) f ∙ grown_new s u w refl)) ∙ k))

      by_fence : (o : ℕ) → 0 < o → o < length u.owners → (owner_at u o).kind ≡ kind.Fencing → (o < length s.owners) ⊎ (length s.owners ≤ o) → HasFence c (owner_at u o).stage
      by_fence o z m k (inl l) = fence_of s u o up z l h k
      by_fence o z m k (inr l) = subst (λ (v : Owner). HasFence c v.stage) (sym new) record { place = (stage_at s n).cursor.position; is_fence = q.0.1 }
        where
          long : length u.owners ≡ length s.owners + 1
          long = at s.owners w
            where
              at : (xs : List Owner) (w : Owner) → length (xs ++ w ∷ []) ≡ length xs + 1
              at xs w = grind (arith, looks)

          here : o ≡ length s.owners
          here = omega (arith, long, l, m)

          new : owner_at u o ≡ w
          new = ap (λ (j : ℕ). owner_at u j) here ∙ grown_new s u w refl

  scripted_keeps : CallKeeps c (AreScripted c)
  scripted_keeps = record {
    goes = λ s t e d l h. old_owners s t d (λ o m n. absurd (omega (arith, l, m, n))) (same_gets s t e h) h;
    stages = λ s t y e h. old_owners s t (onward_same s t e) (λ o m n. absurd (let l = ap (λ (owners : List Owner). length owners) e in omega (arith, l, m, n))) (stage_gets s t y h) h;
    begins = begin_scripted;
    ends = λ s t o reply e d l h. old_owners s t d (λ i m n. absurd (omega (arith, l, m, n))) (subst (λ (x : List Entry). (i n : ℕ) (y : Token) → entry_at x i ≡ Get n y → HandsOver c) (sym e) (more_gets s.history (End o reply) (no_get (End o reply) refl) h.gets)) h;
    dies = λ s t n how stub k e d l f h. old_owners s t d (λ i m j. ap (λ (v : ℕ). is_stub (owner_at t v).kind) (same i (length s.owners) (length t.owners) m j l) ∙ (ap (λ (v : Owner). is_stub v.kind) f ∙ k)) (subst (λ (x : List Entry). (i z : ℕ) (y : Token) → entry_at x i ≡ Get z y → HandsOver c) (sym e) (more_gets s.history (Over n how) (no_get (Over n how) refl) h.gets)) h;
  }
    where
      same : (i m k : ℕ) → m ≤ i → i < k → k ≡ m + 1 → i ≡ m
      same i m k a b e = omega (arith, a, b, e)

  scripted_start : AreScripted c (start c)
  scripted_start = record {
    calls = λ o x e. absurd (not_fencing x (ap (λ (w : Owner). w.kind) (sym (nobody o)) ∙ e));
    fences = λ o z l e. absurd (omega (arith, z, l));
    gets = λ i n x e. absurd (no_one n x (sym (no_entry i) ∙ e));
  }
    where
      nobody : (o : ℕ) → owner_at (start c) o ≡ no_owner
      nobody zero = refl
      nobody (suc o) = refl

      not_fencing : (x : Op) → kind.Fencing ≡ kind.Calling x → ⊥
      not_fencing x e = cc

      no_entry : (i : ℕ) → entry_at [] i ≡ Over 0 Exited
      no_entry zero = refl
      no_entry (suc i) = refl

      no_one : (n : ℕ) (x : Token) → Over 0 Exited ≡ Get n x → ⊥
      no_one n x e = cc

  pub scripted_run : (steps : List Step) (s : State) → run c steps ≡ Some s → AreScripted c s
  scripted_run steps s e =
      (run_keeps c (λ t. AllTold t × AreScripted c t) (calls_step c (AreScripted c) scripted_keeps (λ t at h. record { calls = h.calls; fences = h.fences; gets = h.gets })) (told_start c, scripted_start) steps s e).1

pub go_on_run : (c : Config) (steps more : List Step) (u s : State) → run c steps ≡ Some u → run c (steps ++ more) ≡ Some s → Onward u s
go_on_run c steps more u s e f = onward_from c more u s (told_run c steps u e) (run_split c steps more u s e f)
