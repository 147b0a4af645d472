-- What stages, owners and the history tell of calls, through each move of a step.
use Rattle.std.proofs.Common.{◌≡◌, ℕ, ◌<◌, ◌≤◌, ◌⊎◌, inl, inr, ◌-◌, Bool, true, false, List, [], ◌∷◌, ◌++◌, length, get_or, refl, ap, sym, ◌∙◌, subst, arith}
use Rattle.std.specs.Prelude.{◌||◌}
use Rattle.std.proofs.Math.ListN.{set}
use Rattle.std.proofs.lemmas.Bool.{true≢false, cases_lt}
use Rattle.rss_model.specs.declared.history.Entry.{Entry}
use Rattle.rss_model.specs.declared.history.Entry.TheVariants.{Begin, End, Give, Get, Over}
use Rattle.rss_model.specs.declared.op.Op.{Op}
use Rattle.rss_model.specs.History.{begins, ends, has_begun, has_ended}
use Rattle.rss_tables.specs.Outs.{Out}
use Rattle.rss_machine.specs.Moves.{sends_one, sends}
use Rattle.rss_machine.specs.Standing.{is_running}
use Rattle.rss_machine.specs.State.{State, Owner, owner_at, no_owner}
use Rattle.rss_machine.specs.declared.session.OwnerKind.TheVariants as kind
use Rattle.rss_machine.specs.declared.state.OwnerFate.TheVariants.{Ended}
use Rattle.world_laws.specs.Calls.{is_call, is_stub, StagesOwn, EntriesTell}
use Rattle.world_laws.proofs.Histories.{has_begun_more, has_ended_more}
use Rattle.world_laws.proofs.Entries.{kept_running, onward_set, onward_same, silent, entries_same, entries_more}
use Rattle.world_laws.specs.Calls.{Kept, Onward}
use Rattle.world_laws.proofs.OwnerFits.{Fits, fits_same}
use Rattle.world_laws.proofs.StagesOwned.{Alike, same_as, stages_alike}
use Rattle.world_laws.proofs.Looks.{looks, get_or_past}

-- of two calls or fence statements of a stage the earlier was over before the later began
abbrev pub OneAtATime : State → Type 0
OneAtATime s =
    (a b : ℕ) → 0 < a → a < b → is_stub (owner_at s a).kind ≡ false → is_stub (owner_at s b).kind ≡ false → b < length s.owners → (owner_at s a).stage - 1 ≡ (owner_at s b).stage - 1
    → (is_running (owner_at s a).fate ≡ false) × ((owner_at s a).dates.ended < (owner_at s b).dates.begun)

-- what is told of calls, but for what rounds under way have come to
pub record Told (s : State) : Type 0 where
  pub some : 0 < length s.owners
  pub fits : (o : ℕ) → Fits s.steps (owner_at s o)
  pub stages : StagesOwn s
  pub entries : EntriesTell s
  pub begun : (o : ℕ) → has_begun s.history o ≡ is_call (owner_at s o).kind
  pub ended : (o : ℕ) (x : Op) → (owner_at s o).kind ≡ kind.Calling x → (owner_at s o).fate ≡ Ended → has_ended s.history o ≡ true
  pub turns : OneAtATime s

-- what is true of each owner by its number stays true of each where one changes
pub each_set : (Q : ℕ → Owner → Type 0) (xs : List Owner) (o : ℕ) (w : Owner) → Q o w → ((i : ℕ) → Q i (get_or xs i no_owner)) → (i : ℕ) → Q i (get_or (set xs o w) i no_owner)
each_set Q xs o w q h i = by_place (at xs o w i)
  where
    at : (xs : List Owner) (o : ℕ) (w : Owner) (i : ℕ) → ((get_or (set xs o w) i no_owner ≡ w) × (i ≡ o)) ⊎ (get_or (set xs o w) i no_owner ≡ get_or xs i no_owner)
    at xs o w i = grind (arith, looks)

    by_place : ((get_or (set xs o w) i no_owner ≡ w) × (i ≡ o)) ⊎ (get_or (set xs o w) i no_owner ≡ get_or xs i no_owner) → Q i (get_or (set xs o w) i no_owner)
    by_place (inl e) = subst (λ (j : ℕ). Q j (get_or (set xs o w) i no_owner)) (sym e.1) (subst (Q o) (sym e.0) q)
    by_place (inr e) = subst (Q i) (sym e) (h i)

pub each_grow : (Q : ℕ → Owner → Type 0) (xs : List Owner) (w : Owner) → Q (length xs) w → ((i : ℕ) → Q i (get_or xs i no_owner)) → (i : ℕ) → Q i (get_or (xs ++ w ∷ []) i no_owner)
each_grow Q xs w q h i = by_place (at xs w i)
  where
    at : (xs : List Owner) (w : Owner) (i : ℕ) → ((get_or (xs ++ w ∷ []) i no_owner ≡ w) × (i ≡ length xs)) ⊎ (get_or (xs ++ w ∷ []) i no_owner ≡ get_or xs i no_owner)
    at xs w i = let p = get_or_past xs i no_owner in grind (arith, looks, p)

    by_place : ((get_or (xs ++ w ∷ []) i no_owner ≡ w) × (i ≡ length xs)) ⊎ (get_or (xs ++ w ∷ []) i no_owner ≡ get_or xs i no_owner) → Q i (get_or (xs ++ w ∷ []) i no_owner)
    by_place (inl e) = subst (λ (j : ℕ). Q j (get_or (xs ++ w ∷ []) i no_owner)) (sym e.1) (subst (Q (length xs)) (sym e.0) q)
    by_place (inr e) = subst (Q i) (sym e) (h i)

-- nobody ends as a call, and no call begins
pub record Calm (s t : State) : Type 0 where
  pub onward : Onward s t
  pub calls : (o : ℕ) → is_call (owner_at t o).kind ≡ is_call (owner_at s o).kind
  pub ends : (o : ℕ) (x : Op) → (owner_at t o).kind ≡ kind.Calling x → (owner_at t o).fate ≡ Ended → ((owner_at s o).kind ≡ kind.Calling x) × ((owner_at s o).fate ≡ Ended)
  pub anew : (o : ℕ) → length s.owners ≤ o → o < length t.owners → is_stub (owner_at t o).kind ≡ true

pub turns_onward : (s t : State) → Onward s t → ((o : ℕ) → length s.owners ≤ o → o < length t.owners → is_stub (owner_at t o).kind ≡ true) → OneAtATime s → OneAtATime t
turns_onward s t d f h a b z l p q i e = by_there (cases_lt b (length s.owners))
  where
    by_there : (b < length s.owners) ⊎ (length s.owners ≤ b) → (is_running (owner_at t a).fate ≡ false) × ((owner_at t a).dates.ended < (owner_at t b).dates.begun)
    by_there (inr k) = absurd (true≢false (sym (f b k i) ∙ q))
    by_there (inl k) =
        let m : a < length s.owners = omega (arith, l, k) in
        let u = d.each a m in
        let v = d.each b k in
        let x = h a b z l (ap is_stub (sym u.kind) ∙ p) (ap is_stub (sym v.kind) ∙ q) k (ap (λ (n : ℕ). n - 1) (sym u.stage) ∙ (e ∙ ap (λ (n : ℕ). n - 1) v.stage)) in
        let y = u.ended x.0 in
        let w = v.begun in
        let g = x.1 in
        (ap is_running (u.fate x.0) ∙ x.0, omega (arith, y, w, g))

pub told_calm : (s t : State) → t.history ≡ s.history → Calm s t → ((o : ℕ) → Fits t.steps (owner_at t o)) → StagesOwn t → Told s → Told t
told_calm s t e d f g h = record {
  some = let a = h.some in let b = d.onward.long in omega (arith, a, b);
  fits = f;
  stages = g;
  entries = entries_same s t e d.onward h.entries;
  begun = λ o. ap (λ (l : List Entry). has_begun l o) e ∙ (h.begun o ∙ sym (d.calls o));
  ended = λ o x a b. let y = d.ends o x a b in ap (λ (l : List Entry). has_ended l o) e ∙ h.ended o x y.0 y.1;
  turns = turns_onward s t d.onward d.anew h.turns;
}

-- an owner changes that stays what it is
pub record Stays (v w : Owner) : Type 0 where
  pub fate : w.fate ≡ v.fate
  pub kind : w.kind ≡ v.kind
  pub stage : w.stage ≡ v.stage
  pub begun : w.dates.begun ≡ v.dates.begun

calm_each : (s t : State) (o : ℕ) (w : Owner) → t.owners ≡ set s.owners o w → Kept (owner_at s o) w → Stays (owner_at s o) w → Calm s t
calm_each s t o w e k y = record {
  onward = onward_set s t o w e k;
  calls = λ i. ap is_call (each i).kind;
  ends = λ i x a b. (sym (each i).kind ∙ a, sym (each i).fate ∙ b);
  anew = λ i l m. absurd (let n = long in omega (arith, l, m, n));
}
  where
    long : length t.owners ≡ length s.owners
    long = ap (λ (owners : List Owner). length owners) e ∙ at s.owners
      where
        at : (xs : List Owner) → length (set xs o w) ≡ length xs
        at xs = grind (arith, looks)

    each : (i : ℕ) → Stays (owner_at s i) (owner_at t i)
    each i = subst (λ (owners : List Owner). Stays (owner_at s i) (get_or owners i no_owner)) (sym e) (each_set (λ j v. Stays (owner_at s j) v) s.owners o w y (λ j. record { fate = refl; kind = refl; stage = refl; begun = refl }) i)

-- an owner that runs goes on
pub told_goes : (s t : State) (o : ℕ) (w : Owner) → t.steps ≡ s.steps → t.stages ≡ s.stages → t.history ≡ s.history → t.owners ≡ set s.owners o w → is_running (owner_at s o).fate ≡ true → Stays (owner_at s o) w → Fits s.steps w → Told s → Told t
told_goes s t o w a b d e r y f h =
    told_calm s t d (calm_each s t o w e (kept_running (owner_at s o) w r y.stage y.kind y.begun) y)
    (subst (λ (n : ℕ). (i : ℕ) → Fits n (owner_at t i)) (sym a) (subst (λ (owners : List Owner). (i : ℕ) → Fits s.steps (get_or owners i no_owner)) (sym e) (each_set (λ i v. Fits s.steps v) s.owners o w f h.fits)))
    (stages_alike s t b each h.stages) h
  where
    each : (i : ℕ) → Alike (owner_at s i) (owner_at t i)
    each i = subst (λ (owners : List Owner). Alike (owner_at s i) (get_or owners i no_owner)) (sym e) (each_set (λ j v. Alike (owner_at s j) v) s.owners o w (inl (record { fate = y.fate; kind = y.kind; stage = y.stage })) (λ j. inl (same_as (owner_at s j) (owner_at s j) refl)) i)

-- an owner is noted to have had its store handled, or nothing that is looked at changes
pub told_noted : (s t : State) (o : ℕ) (w : Owner) → t.steps ≡ s.steps → t.stages ≡ s.stages → t.history ≡ s.history → t.owners ≡ set s.owners o w → w ≡ record (owner_at s o) { stored = w.stored } → Told s → Told t
told_noted s t o w a b d e y h =
    told_calm s t d
    (calm_each s t o w e
    (record { stage = ap (λ (x : Owner). x.stage) y; kind = ap (λ (x : Owner). x.kind) y; begun = ap (λ (x : Owner). x.dates.begun) y; fate = λ f. ap (λ (x : Owner). x.fate) y; session = λ f. ap (λ (x : Owner). x.session) y; ended = λ f. ap (λ (x : Owner). x.dates.ended) y })
    (record { fate = ap (λ (x : Owner). x.fate) y; kind = ap (λ (x : Owner). x.kind) y; stage = ap (λ (x : Owner). x.stage) y; begun = ap (λ (x : Owner). x.dates.begun) y }))
    (subst (λ (n : ℕ). (i : ℕ) → Fits n (owner_at t i)) (sym a) (subst (λ (owners : List Owner). (i : ℕ) → Fits s.steps (get_or owners i no_owner)) (sym e) (each_set (λ i v. Fits s.steps v) s.owners o w fits h.fits)))
    (stages_alike s t b each h.stages) h
  where
    fits : Fits s.steps w
    fits =
        fits_same s.steps (owner_at s o) w (ap (λ (x : Owner). x.kind) y) (ap (λ (x : Owner). x.fate) y) (ap (λ (x : Owner). x.dates) y) (ap (λ (x : Owner). x.session) y) (ap (λ (x : Owner). x.works.left) y) (λ f. ap (λ (x : Owner). x.currents) y) (h.fits o)

    each : (i : ℕ) → Alike (owner_at s i) (owner_at t i)
    each i =
        subst (λ (owners : List Owner). Alike (owner_at s i) (get_or owners i no_owner)) (sym e)
        (each_set (λ j v. Alike (owner_at s j) v) s.owners o w (inl (record { fate = ap (λ (x : Owner). x.fate) y; kind = ap (λ (x : Owner). x.kind) y; stage = ap (λ (x : Owner). x.stage) y })) (λ j. inl (same_as (owner_at s j) (owner_at s j) refl)) i)

-- owners stay
pub told_stages : (s t : State) → t.steps ≡ s.steps → t.history ≡ s.history → t.owners ≡ s.owners → StagesOwn t → Told s → Told t
told_stages s t a d e g h =
    told_calm s t d (record { onward = onward_same s t e; calls = λ o. ap (λ (w : Owner). is_call w.kind) (own o); ends = λ o x p q. (ap (λ (w : Owner). w.kind) (sym (own o)) ∙ p, ap (λ (w : Owner). w.fate) (sym (own o)) ∙ q); anew = λ o l m. absurd (let n = ap (λ (owners : List Owner). length owners) e in omega (arith, l, m, n)) })
    (λ o. subst (λ (n : ℕ). Fits n (owner_at t o)) (sym a) (subst (Fits s.steps) (sym (own o)) (h.fits o))) g h
  where
    own : (o : ℕ) → owner_at t o ≡ owner_at s o
    own o = ap (λ (owners : List Owner). get_or owners o no_owner) e

-- an entry is added that says nothing of calls
abbrev pub says_nothing : Entry → Bool
says_nothing (Begin o stage x) = false
says_nothing (End o reply) = false
says_nothing (Give stage token) = true
says_nothing (Get stage token) = true
says_nothing (Over stage how) = true

pub told_silent : (s t : State) (e : Entry) → says_nothing e ≡ true → t.steps ≡ s.steps → t.stages ≡ s.stages → t.owners ≡ s.owners → t.history ≡ s.history ++ e ∷ [] → Told s → Told t
told_silent s t e n a b d f h = record {
  some = subst (λ (owners : List Owner). 0 < length owners) (sym d) h.some;
  fits = λ o. subst (λ (n : ℕ). Fits n (owner_at t o)) (sym a) (subst (Fits s.steps) (sym (own o)) (h.fits o));
  stages = stages_alike s t b (λ o. inl (same_as (owner_at s o) (owner_at t o) (own o))) h.stages;
  entries = entries_more s t e f (onward_same s t d) (silent s t e (λ o stage x q. true≢false (sym n ∙ ap says_nothing q)) (λ o reply q. true≢false (sym n ∙ ap says_nothing q))) h.entries;
  begun = λ o. ap (λ (l : List Entry). has_begun l o) f ∙ (has_begun_more s.history e o ∙ (or_false (has_begun s.history o) (begins o e) (no_begin e o n) ∙ (h.begun o ∙ ap (λ (w : Owner). is_call w.kind) (sym (own o)))));
  ended = λ o x p q. ap (λ (l : List Entry). has_ended l o) f ∙ (has_ended_more s.history e o ∙ (or_false (has_ended s.history o) (ends o e) (no_end e o n) ∙ h.ended o x (ap (λ (w : Owner). w.kind) (sym (own o)) ∙ p) (ap (λ (w : Owner). w.fate) (sym (own o)) ∙ q)));
  turns = turns_onward s t (onward_same s t d) (λ o l m. absurd (let k = ap (λ (owners : List Owner). length owners) d in omega (arith, l, m, k))) h.turns;
}
  where
    own : (o : ℕ) → owner_at t o ≡ owner_at s o
    own o = ap (λ (owners : List Owner). get_or owners o no_owner) d

    or_false : (x y : Bool) → y ≡ false → (x || y) ≡ x
    or_false true y q = refl
    or_false false y q = q

    no_begin : (e : Entry) (o : ℕ) → says_nothing e ≡ true → begins o e ≡ false
    no_begin (Begin c stage x) o q = absurd (true≢false (sym q))
    no_begin (End c reply) o q = refl
    no_begin (Give stage token) o q = refl
    no_begin (Get stage token) o q = refl
    no_begin (Over stage how) o q = refl

    no_end : (e : Entry) (o : ℕ) → says_nothing e ≡ true → ends o e ≡ false
    no_end (Begin c stage x) o q = refl
    no_end (End c reply) o q = absurd (true≢false (sym q))
    no_end (Give stage token) o q = refl
    no_end (Get stage token) o q = refl
    no_end (Over stage how) o q = refl

-- requests that an owner that runs sends
pub told_one : (o : ℕ) (s : State) (out : Out) → is_running (owner_at s o).fate ≡ true → Told s → Told (sends_one s o out)
told_one o s out r h =
    told_goes s (sends_one s o out) o _ refl refl refl refl r (record { fate = refl; kind = refl; stage = refl; begun = refl })
    (fits_same s.steps (owner_at s o) _ refl refl refl refl refl (λ f. absurd (true≢false (sym r ∙ f))) (h.fits o)) h

pub told_sends : (o : ℕ) (outs : List Out) (s : State) → is_running (owner_at s o).fate ≡ true → Told s → Told (sends s o outs)
told_sends o [] s r h = h
told_sends o (out ∷ outs) s r h = told_sends o outs (sends_one s o out) (fate_one s o out ∙ r) (told_one o s out r h)
  where
    fate_one : (s : State) (o : ℕ) (out : Out) → is_running (owner_at (sends_one s o out) o).fate ≡ is_running (owner_at s o).fate
    fate_one s o out = grind (arith, looks)
