-- What stages, owners and the history tell of calls, where calls and fence statements begin and end, and
-- stubs end.
use Rattle.std.proofs.Common.{◌≡◌, ℕ, ◌<◌, ◌≤◌, ◌⊎◌, inl, inr, ◌-◌, Bool, true, false, List, [], ◌∷◌, ◌++◌, length, get_or, Some, None, refl, ap, sym, ◌∙◌, subst, arith}
use Rattle.std.specs.Prelude.{◌||◌, ◌==◌, ◌+◌}
use Rattle.std.proofs.Math.ListN.{set}
use Rattle.std.proofs.lemmas.Bool.{true≢false, cases_lt, cases_eq}
use Rattle.std.proofs.lemmas.List.{get_or-set_same}
use Rattle.rss_model.specs.declared.history.Entry.{Entry}
use Rattle.rss_model.specs.declared.history.Entry.TheVariants.{Begin, End}
use Rattle.rss_model.specs.declared.op.Op.{Op}
use Rattle.rss_model.specs.declared.op.Shown.{Shown}
use Rattle.rss_model.specs.History.{has_begun, has_ended}
use Rattle.rss_machine.specs.Standing.{is_running}
use Rattle.rss_machine.specs.State.{State, Stage, Owner, owner_at, stage_at, no_owner}
use Rattle.rss_machine.specs.declared.session.OwnerKind.{OwnerKind}
use Rattle.rss_machine.specs.declared.session.OwnerKind.TheVariants as kind
use Rattle.rss_machine.specs.declared.state.OwnerFate.TheVariants.{Ended}
use Rattle.world_laws.specs.Calls.{is_call, is_stub, StagesOwn, IsCallOf, HasReplied}
use Rattle.world_laws.proofs.Histories.{has_begun_more, has_ended_more}
use Rattle.world_laws.proofs.Entries.{kept_running, onward_set, onward_grow, Adding, entries_same, entries_more}
use Rattle.world_laws.specs.Calls.{Kept, Onward}
use Rattle.world_laws.proofs.OwnerFits.{Fits}
use Rattle.world_laws.proofs.StagesOwned.{Alike, same_as, stages_alike, stages_clear, Opened, stages_open, grown_old, grown_new, grown_past, running_there}
use Rattle.world_laws.proofs.Told.{Told, OneAtATime, each_set, each_grow, turns_onward, told_calm}
use Rattle.world_laws.proofs.Looks.{looks, get_or_past, some_is, none_is_not}

-- nothing has happened in this step yet: no date is as late
pub record Fresh (s : State) : Type 0 where
  pub ended : (o : ℕ) → (owner_at s o).dates.ended < s.steps

grow_fits : (s t : State) (w : Owner) → t.steps ≡ s.steps → t.owners ≡ s.owners ++ w ∷ [] → Fits s.steps w → Told s → (i : ℕ) → Fits t.steps (owner_at t i)
grow_fits s t w a e f h = subst (λ (n : ℕ). (i : ℕ) → Fits n (owner_at t i)) (sym a) (subst (λ (owners : List Owner). (i : ℕ) → Fits s.steps (get_or owners i no_owner)) (sym e) (each_grow (λ i v. Fits s.steps v) s.owners w f h.fits))

pub grown_long : (s t : State) (w : Owner) → t.owners ≡ s.owners ++ w ∷ [] → length t.owners ≡ length s.owners + 1
grown_long s t w e = ap (λ (owners : List Owner). length owners) e ∙ at s.owners w
  where
    at : (xs : List Owner) (w : Owner) → length (xs ++ w ∷ []) ≡ length xs + 1
    at xs w = grind (arith, looks)

-- a stage begins a call or a fence statement
opened_turns : (s t : State) (n : ℕ) (w : Owner) (x : Stage) → Opened s t n w x → Fresh s → w.dates.begun ≡ s.steps → Told s → OneAtATime t
opened_turns s t n w x d f g h a b z l p q i e = by_there (cases_lt b (length s.owners))
  where
    up : Onward s t
    up = onward_grow s t w d.owners

    m : a < length s.owners
    m = let k = grown_long s t w d.owners in omega (arith, k, l, i)

    u : owner_at t a ≡ owner_at s a
    u = grown_old s t w d.owners a m

    by_there : (b < length s.owners) ⊎ (length s.owners ≤ b) → (is_running (owner_at t a).fate ≡ false) × ((owner_at t a).dates.ended < (owner_at t b).dates.begun)
    by_there (inl k) =
        let v = grown_old s t w d.owners b k in
        let y = h.turns a b z l (ap (λ (r : Owner). is_stub r.kind) (sym u) ∙ p) (ap (λ (r : Owner). is_stub r.kind) (sym v) ∙ q) k (ap (λ (r : Owner). r.stage - 1) (sym u) ∙ (e ∙ ap (λ (r : Owner). r.stage - 1) v)) in
        (ap (λ (r : Owner). is_running r.fate) u ∙ y.0, let c = ap (λ (r : Owner). r.dates.ended) u in let j = ap (λ (r : Owner). r.dates.begun) v in let o = y.1 in omega (arith, c, j, o))
    by_there (inr k) = (ap (λ (r : Owner). is_running r.fate) u ∙ by_running (is_running (owner_at s a).fate) refl, let c = ap (λ (r : Owner). r.dates.ended) u in let o = f.ended a in let j = ap (λ (r : Owner). r.dates.begun) new in omega (arith, c, o, j, g))
      where
        same : b ≡ length s.owners
        same = let y = grown_long s t w d.owners in omega (arith, y, k, i)

        new : owner_at t b ≡ w
        new = ap (λ (j : ℕ). owner_at t j) same ∙ grown_new s t w d.owners

        place : (owner_at s a).stage - 1 ≡ n - 1
        place = ap (λ (r : Owner). r.stage - 1) (sym u) ∙ (e ∙ (ap (λ (r : Owner). r.stage - 1) new ∙ ap (λ (j : ℕ). j - 1) d.of_stage))

        by_running : (r : Bool) → is_running (owner_at s a).fate ≡ r → r ≡ false
        by_running false r = refl
        by_running true r =
            let own = h.stages.running a r (ap (λ (v : Owner). is_stub v.kind) (sym u) ∙ p) in
            absurd (none_is_not a (sym d.making.nobody ∙ (one_stage s (owner_at s a).stage n place ∙ own)))
          where
            one_stage : (s : State) (k n : ℕ) → k - 1 ≡ n - 1 → (stage_at s n).owner ≡ (stage_at s k).owner
            one_stage s k n e = grind (arith, e)

opened_ended : (s t : State) (w : Owner) → t.owners ≡ s.owners ++ w ∷ [] → is_running w.fate ≡ true → (o : ℕ) (x : Op) → (owner_at t o).kind ≡ kind.Calling x → (owner_at t o).fate ≡ Ended → ((owner_at s o).kind ≡ kind.Calling x) × ((owner_at s o).fate ≡ Ended)
opened_ended s t w e r o x a b = by_there (cases_lt o (length s.owners))
  where
    by_there : (o < length s.owners) ⊎ (length s.owners ≤ o) → ((owner_at s o).kind ≡ kind.Calling x) × ((owner_at s o).fate ≡ Ended)
    by_there (inl l) = let u = grown_old s t w e o l in (ap (λ (v : Owner). v.kind) (sym u) ∙ a, ap (λ (v : Owner). v.fate) (sym u) ∙ b)
    by_there (inr l) = by_new (grown_past s t w e o l)
      where
        not_fencing : (x : Op) → kind.Fencing ≡ kind.Calling x → ⊥
        not_fencing x e = cc

        by_new : (o ≡ length s.owners) ⊎ (owner_at t o ≡ no_owner) → ((owner_at s o).kind ≡ kind.Calling x) × ((owner_at s o).fate ≡ Ended)
        by_new (inl q) = absurd (true≢false (sym r ∙ (ap (λ (v : Owner). is_running v.fate) (sym (grown_new s t w e)) ∙ (ap (λ (i : ℕ). is_running (owner_at t i).fate) (sym q) ∙ ap is_running b))))
        by_new (inr q) = absurd (not_fencing x (ap (λ (v : Owner). v.kind) (sym q) ∙ a))

-- a fence statement
pub told_opens_fence : (s t : State) (n : ℕ) (w : Owner) (x : Stage) → Opened s t n w x → Fresh s → w.kind ≡ kind.Fencing → w.dates.begun ≡ s.steps → t.steps ≡ s.steps → t.history ≡ s.history → Fits s.steps w → Told s → Told t
told_opens_fence s t n w x d f k g a e y h = record {
  some = let z = h.some in let l = grown_long s t w d.owners in omega (arith, z, l);
  fits = grow_fits s t w a d.owners y h;
  stages = stages_open s t n w x d h.stages;
  entries = entries_same s t e (onward_grow s t w d.owners) h.entries;
  begun = λ o. ap (λ (l : List Entry). has_begun l o) e ∙ (h.begun o ∙ sym (calls o));
  ended = λ o z p q. let u = opened_ended s t w d.owners d.running o z p q in ap (λ (l : List Entry). has_ended l o) e ∙ h.ended o z u.0 u.1;
  turns = opened_turns s t n w x d f g h;
}
  where
    calls : (o : ℕ) → is_call (owner_at t o).kind ≡ is_call (owner_at s o).kind
    calls o = subst (λ (owners : List Owner). is_call (get_or owners o no_owner).kind ≡ is_call (owner_at s o).kind) (sym d.owners) (each_grow (λ i v. is_call v.kind ≡ is_call (owner_at s i).kind) s.owners w (ap is_call k ∙ past s) (λ i. refl) o)
      where
        past : (s : State) → false ≡ is_call (owner_at s (length s.owners)).kind
        past s = by_place (get_or_past s.owners (length s.owners) no_owner)
          where
            by_place : (length s.owners < length s.owners) ⊎ (owner_at s (length s.owners) ≡ no_owner) → false ≡ is_call (owner_at s (length s.owners)).kind
            by_place (inl l) = absurd (omega (arith, l))
            by_place (inr e) = ap (λ (v : Owner). is_call v.kind) (sym e)

-- a call
pub told_opens_call : (s t : State) (n : ℕ) (w : Owner) (x : Stage) (op : Op) → Opened s t n w x → Fresh s → w.kind ≡ kind.Calling op → w.dates.begun ≡ s.steps → t.steps ≡ s.steps → t.history ≡ s.history ++ Begin (length s.owners) n op ∷ [] → Fits s.steps w → Told s → Told t
told_opens_call s t n w x op d f k g a e y h = record {
  some = let z = h.some in let l = grown_long s t w d.owners in omega (arith, z, l);
  fits = grow_fits s t w a d.owners y h;
  stages = stages_open s t n w x d h.stages;
  entries = entries_more s t (Begin (length s.owners) n op) e (onward_grow s t w d.owners) adding h.entries;
  begun = λ o. ap (λ (l : List Entry). has_begun l o) e ∙ (has_begun_more s.history (Begin (length s.owners) n op) o ∙ by_own o (length s.owners == o) refl);
  ended = λ o z p q. let u = opened_ended s t w d.owners d.running o z p q in ap (λ (l : List Entry). has_ended l o) e ∙ (has_ended_more s.history (Begin (length s.owners) n op) o ∙ or_true (has_ended s.history o) (h.ended o z u.0 u.1));
  turns = opened_turns s t n w x d f g h;
}
  where
    new : owner_at t (length s.owners) ≡ w
    new = grown_new s t w d.owners

    or_true : (b : Bool) → b ≡ true → (b || false) ≡ true
    or_true true q = refl
    or_true false q = absurd (true≢false (sym q))

    begin_same : (o p m q : ℕ) (y z : Op) → Begin o m y ≡ Begin p q z → (o ≡ p) × (m ≡ q) × (y ≡ z)
    begin_same o p m q y z e = (cc, cc, cc)

    begin_not_end : (o p m : ℕ) (y : Op) (reply : List Shown) → Begin o m y ≡ End p reply → ⊥
    begin_not_end o p m y reply e = cc

    adding : Adding s t (Begin (length s.owners) n op)
    adding = record {
      begins = λ o stage z q.
          let u = begin_same (length s.owners) o n stage op z q in
          subst (λ (i : ℕ). IsCallOf t i stage z) u.0 record { numbered = h.some; of_kind = ap (λ (v : Owner). v.kind) new ∙ (k ∙ ap kind.Calling u.2); of_stage = ap (λ (v : Owner). v.stage) new ∙ (d.of_stage ∙ u.1) };
      anew = λ o stage z q. let u = (begin_same (length s.owners) o n stage op z q).0 in omega (arith, u);
      ends = λ o reply q. absurd (begin_not_end (length s.owners) o n op reply q);
      ran = λ o reply q. absurd (begin_not_end (length s.owners) o n op reply q);
      order = λ i b stage z q. let u = (begin_same (length s.owners) b n stage op z q).0 in let v = f.ended i in let j = ap (λ (r : Owner). r.dates.begun) new in let m = ap (λ (r : ℕ). (owner_at t r).dates.begun) u in omega (arith, v, j, m, g);
    }

    by_own : (o : ℕ) (b : Bool) → (length s.owners == o) ≡ b → (has_begun s.history o || b) ≡ is_call (owner_at t o).kind
    by_own o true q =
        let i : length s.owners ≡ o = grind (arith, q) in
        or_right (has_begun s.history o) ∙ sym (ap (λ (j : ℕ). is_call (owner_at t j).kind) (sym i) ∙ (ap (λ (v : Owner). is_call v.kind) new ∙ ap is_call k))
      where
        or_right : (b : Bool) → (b || true) ≡ true
        or_right true = refl
        or_right false = refl
    by_own o false q = or_none (has_begun s.history o) ∙ (h.begun o ∙ sym (by_there (cases_lt o (length s.owners))))
      where
        or_none : (b : Bool) → (b || false) ≡ b
        or_none true = refl
        or_none false = refl

        by_there : (o < length s.owners) ⊎ (length s.owners ≤ o) → is_call (owner_at t o).kind ≡ is_call (owner_at s o).kind
        by_there (inl l) = ap (λ (v : Owner). is_call v.kind) (grown_old s t w d.owners o l)
        by_there (inr l) = by_new (grown_past s t w d.owners o l)
          where
            by_new : (o ≡ length s.owners) ⊎ (owner_at t o ≡ no_owner) → is_call (owner_at t o).kind ≡ is_call (owner_at s o).kind
            by_new (inl i) = absurd (not_same (length s.owners) o q (sym i))
              where
                not_same : (m o : ℕ) → (m == o) ≡ false → m ≡ o → ⊥
                not_same m o q i = grind (arith, q, i)
            by_new (inr i) = ap (λ (v : Owner). is_call v.kind) i ∙ sym (past s o l)
              where
                past : (s : State) (o : ℕ) → length s.owners ≤ o → is_call (owner_at s o).kind ≡ false
                past s o l = by_place (get_or_past s.owners o no_owner)
                  where
                    by_place : (o < length s.owners) ⊎ (owner_at s o ≡ no_owner) → is_call (owner_at s o).kind ≡ false
                    by_place (inl j) = absurd (omega (arith, j, l))
                    by_place (inr e) = ap (λ (v : Owner). is_call v.kind) e

-- a call or a fence statement ends
pub record Ending (s t : State) (o : ℕ) (w : Owner) (x : Stage) : Type 0 where
  pub running : is_running (owner_at s o).fate ≡ true
  pub of_kind : is_stub (owner_at s o).kind ≡ false
  pub owners : t.owners ≡ set s.owners o w
  pub over : is_running w.fate ≡ false
  pub kept : Kept (owner_at s o) w
  pub nobody : x.owner ≡ None
  pub stages : t.stages ≡ set s.stages ((owner_at s o).stage - 1) x

pub set_there : (s t : State) (o : ℕ) (w : Owner) → t.owners ≡ set s.owners o w → o < length s.owners → owner_at t o ≡ w
set_there s t o w e l = ap (λ (owners : List Owner). get_or owners o no_owner) e ∙ get_or-set_same s.owners o w no_owner l

pub set_other : (s t : State) (o : ℕ) (w : Owner) → t.owners ≡ set s.owners o w → (i : ℕ) → (i ≡ o → ⊥) → owner_at t i ≡ owner_at s i
set_other s t o w e i n = ap (λ (owners : List Owner). get_or owners i no_owner) e ∙ at s.owners o w i n
  where
    at : (xs : List Owner) (o : ℕ) (w : Owner) (i : ℕ) → (i ≡ o → ⊥) → get_or (set xs o w) i no_owner ≡ get_or xs i no_owner
    at xs o w i n = grind (arith, looks, n)

pub set_long : (s t : State) (o : ℕ) (w : Owner) → t.owners ≡ set s.owners o w → length t.owners ≡ length s.owners
set_long s t o w e = ap (λ (owners : List Owner). length owners) e ∙ at s.owners o w
  where
    at : (xs : List Owner) (o : ℕ) (w : Owner) → length (set xs o w) ≡ length xs
    at xs o w = grind (arith, looks)

ending_stages : (s t : State) (o : ℕ) (w : Owner) (x : Stage) → Ending s t o w x → StagesOwn s → StagesOwn t
ending_stages s t o w x d h =
    stages_clear s t (owner_at s o).stage x (record {
      nobody = d.nobody;
      stages = d.stages;
      same = λ i l f. set_other s t o w d.owners i (λ e. f (own ∙ ap (λ (j : ℕ). Some j) (sym e)));
      gone = λ i e. let j : o ≡ i = some_is o i (sym own ∙ e) in subst (λ (k : ℕ). is_running (owner_at t k).fate ≡ false) j (ap (λ (v : Owner). is_running v.fate) (set_there s t o w d.owners there) ∙ d.over);
      anew = λ i l. inl (by_place i l (get_or_past t.owners i no_owner));
    }) h
  where
    there : o < length s.owners
    there = running_there s o d.running

    own : (stage_at s (owner_at s o).stage).owner ≡ Some o
    own = h.running o d.running d.of_kind

    by_place : (i : ℕ) → length s.owners ≤ i → (i < length t.owners) ⊎ (owner_at t i ≡ no_owner) → is_running (owner_at t i).fate ≡ false
    by_place i l (inl k) = absurd (let n = set_long s t o w d.owners in omega (arith, l, k, n))
    by_place i l (inr e) = ap (λ (v : Owner). is_running v.fate) e

set_fits : (s t : State) (o : ℕ) (w : Owner) → t.steps ≡ s.steps → t.owners ≡ set s.owners o w → Fits s.steps w → ((i : ℕ) → Fits s.steps (owner_at s i)) → (i : ℕ) → Fits t.steps (owner_at t i)
set_fits s t o w a e f h = subst (λ (n : ℕ). (i : ℕ) → Fits n (owner_at t i)) (sym a) (subst (λ (owners : List Owner). (i : ℕ) → Fits s.steps (get_or owners i no_owner)) (sym e) (each_set (λ i v. Fits s.steps v) s.owners o w f h))

set_calls : (s t : State) (o : ℕ) (w : Owner) → t.owners ≡ set s.owners o w → w.kind ≡ (owner_at s o).kind → (i : ℕ) → is_call (owner_at t i).kind ≡ is_call (owner_at s i).kind
set_calls s t o w e k i = subst (λ (owners : List Owner). is_call (get_or owners i no_owner).kind ≡ is_call (owner_at s i).kind) (sym e) (each_set (λ j v. is_call v.kind ≡ is_call (owner_at s j).kind) s.owners o w (ap is_call k) (λ j. refl) i)

-- a fence statement
pub told_ends_fence : (s t : State) (o : ℕ) (w : Owner) (x : Stage) → Ending s t o w x → is_call (owner_at s o).kind ≡ false → t.steps ≡ s.steps → t.history ≡ s.history → Fits s.steps w → Told s → Told t
told_ends_fence s t o w x d k a e f h =
    told_calm s t e
    (record { onward = onward_set s t o w d.owners d.kept; calls = set_calls s t o w d.owners d.kept.kind; ends = λ i y p q. by_own i y p q (cases_eq i o); anew = λ i l m. absurd (let n = set_long s t o w d.owners in omega (arith, l, m, n)) })
    (set_fits s t o w a d.owners f h.fits) (ending_stages s t o w x d h.stages) h
  where
    by_own : (i : ℕ) (y : Op) → (owner_at t i).kind ≡ kind.Calling y → (owner_at t i).fate ≡ Ended → (i ≡ o) ⊎ (i ≡ o → ⊥) → ((owner_at s i).kind ≡ kind.Calling y) × ((owner_at s i).fate ≡ Ended)
    by_own i y p q (inl e) = absurd (true≢false (ap is_call (sym p) ∙ (set_calls s t o w d.owners d.kept.kind i ∙ (ap (λ (j : ℕ). is_call (owner_at s j).kind) e ∙ k))))
    by_own i y p q (inr n) = let u = set_other s t o w d.owners i n in (ap (λ (v : Owner). v.kind) (sym u) ∙ p, ap (λ (v : Owner). v.fate) (sym u) ∙ q)

is_same : (o i : ℕ) → i ≡ o → (o == i) ≡ true
is_same o i g = grind (arith, g)

-- a call
pub told_ends_call : (s t : State) (o : ℕ) (w : Owner) (x : Stage) (op : Op) (reply : List Shown) → Ending s t o w x → HasReplied t o reply → (owner_at s o).kind ≡ kind.Calling op → t.steps ≡ s.steps → t.history ≡ s.history ++ End o reply ∷ [] → Fits s.steps w → Told s → Told t
told_ends_call s t o w x op reply d r k a e f h = record {
  some = let z = h.some in let l = set_long s t o w d.owners in omega (arith, z, l);
  fits = set_fits s t o w a d.owners f h.fits;
  stages = ending_stages s t o w x d h.stages;
  entries = entries_more s t (End o reply) e up adding h.entries;
  begun = λ i. ap (λ (l : List Entry). has_begun l i) e ∙ (has_begun_more s.history (End o reply) i ∙ (or_none (has_begun s.history i) ∙ (h.begun i ∙ sym (set_calls s t o w d.owners d.kept.kind i))));
  ended = λ i y p q. ap (λ (l : List Entry). has_ended l i) e ∙ (has_ended_more s.history (End o reply) i ∙ by_own i y p q (cases_eq i o));
  turns = turns_onward s t up (λ i l m. absurd (let n = set_long s t o w d.owners in omega (arith, l, m, n))) h.turns;
}
  where
    up : Onward s t
    up = onward_set s t o w d.owners d.kept

    or_none : (b : Bool) → (b || false) ≡ b
    or_none true = refl
    or_none false = refl

    or_right : (b c : Bool) → c ≡ true → (b || c) ≡ true
    or_right true c e = refl
    or_right false c e = e

    or_left : (b c : Bool) → b ≡ true → (b || c) ≡ true
    or_left true c e = refl
    or_left false c e = absurd (true≢false (sym e))

    end_not_begin : (i p m : ℕ) (y : Op) (reply : List Shown) → End p reply ≡ Begin i m y → ⊥
    end_not_begin i p m y reply e = cc

    end_same : (i j : ℕ) (y z : List Shown) → End i y ≡ End j z → (i ≡ j) × (y ≡ z)
    end_same i j y z e = (cc, cc)

    adding : Adding s t (End o reply)
    adding = record {
      begins = λ i m y q. absurd (end_not_begin i o m y reply q);
      anew = λ i m y q. absurd (end_not_begin i o m y reply q);
      ends = λ i z q. let u = end_same o i reply z q in subst (λ (j : ℕ). HasReplied t j z) u.0 (subst (HasReplied t o) u.1 r);
      ran = λ i z q g. true≢false (sym d.running ∙ (ap (λ (j : ℕ). is_running (owner_at s j).fate) (end_same o i reply z q).0 ∙ ap is_running g));
      order = λ i b m y q. absurd (end_not_begin b o m y reply q);
    }

    by_own : (i : ℕ) (y : Op) → (owner_at t i).kind ≡ kind.Calling y → (owner_at t i).fate ≡ Ended → (i ≡ o) ⊎ (i ≡ o → ⊥) → (has_ended s.history i || (o == i)) ≡ true
    by_own i y p q (inl g) = or_right (has_ended s.history i) (o == i) (is_same o i g)
    by_own i y p q (inr n) = let u = set_other s t o w d.owners i n in or_left (has_ended s.history i) (o == i) (h.ended i y (ap (λ (v : Owner). v.kind) (sym u) ∙ p) (ap (λ (v : Owner). v.fate) (sym u) ∙ q))

-- a stub is over
pub told_stub : (s t : State) (o : ℕ) (w : Owner) → is_stub (owner_at s o).kind ≡ true → is_running (owner_at s o).fate ≡ true → w.kind ≡ (owner_at s o).kind → w.stage ≡ (owner_at s o).stage → w.dates.begun ≡ (owner_at s o).dates.begun → t.steps ≡ s.steps → t.stages ≡ s.stages → t.history ≡ s.history → t.owners ≡ set s.owners o w → Fits s.steps w → Told s → Told t
told_stub s t o w k r a b g st sg hi e f h =
    told_calm s t hi
    (record { onward = onward_set s t o w e (kept_running (owner_at s o) w r b a g); calls = set_calls s t o w e a; ends = λ i y p q. by_own i y p q (cases_eq i o); anew = λ i l m. absurd (let n = set_long s t o w e in omega (arith, l, m, n)) })
    (set_fits s t o w st e f h.fits) (stages_alike s t sg each h.stages) h
  where
    stub_no_call : (x : OwnerKind) (y : Op) → is_stub x ≡ true → x ≡ kind.Calling y → ⊥
    stub_no_call x y p q = true≢false (sym p ∙ ap is_stub q)

    each : (i : ℕ) → Alike (owner_at s i) (owner_at t i)
    each i = subst (λ (owners : List Owner). Alike (owner_at s i) (get_or owners i no_owner)) (sym e) (each_set (λ j v. Alike (owner_at s j) v) s.owners o w (inr (k, ap is_stub a ∙ k)) (λ j. inl (same_as (owner_at s j) (owner_at s j) refl)) i)

    there : o < length s.owners
    there = running_there s o r

    by_own : (i : ℕ) (y : Op) → (owner_at t i).kind ≡ kind.Calling y → (owner_at t i).fate ≡ Ended → (i ≡ o) ⊎ (i ≡ o → ⊥) → ((owner_at s i).kind ≡ kind.Calling y) × ((owner_at s i).fate ≡ Ended)
    by_own i y p q (inl g) = absurd (stub_no_call (owner_at s o).kind y k (sym a ∙ (sym (ap (λ (v : Owner). v.kind) (set_there s t o w e there)) ∙ (ap (λ (j : ℕ). (owner_at t j).kind) (sym g) ∙ p))))
    by_own i y p q (inr n) = let u = set_other s t o w e i n in (ap (λ (v : Owner). v.kind) (sym u) ∙ p, ap (λ (v : Owner). v.fate) (sym u) ∙ q)
