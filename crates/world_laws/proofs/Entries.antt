-- The entries of a history tell of the calls of a state, as owners go on and entries are added.
use Rattle.std.proofs.Common.{◌≡◌, ℕ, ◌<◌, ◌≤◌, ◌⊎◌, inl, inr, true, false, List, [], ◌∷◌, ◌++◌, length, get_or, ap, sym, ◌∙◌, subst, arith}
use Rattle.std.proofs.Math.ListN.{set}
use Rattle.std.proofs.lemmas.Bool.{true≢false}
use Rattle.rss_model.specs.declared.history.Entry.{Entry}
use Rattle.rss_model.specs.declared.history.Entry.TheVariants.{Begin, End, Over}
use Rattle.rss_model.specs.declared.history.How.TheVariants.{Exited}
use Rattle.rss_model.specs.declared.op.Op.{Op}
use Rattle.rss_model.specs.declared.op.Shown.{Shown}
use Rattle.rss_model.specs.History.{entry_at}
use Rattle.rss_tables.specs.Outs.{Out}
use Rattle.rss_machine.specs.Moves.{sends}
use Rattle.rss_machine.specs.Session.{Session}
use Rattle.rss_machine.specs.Standing.{is_running}
use Rattle.rss_machine.specs.State.{State, Owner, owner_at, no_owner}
use Rattle.rss_machine.specs.declared.session.OwnerKind.TheVariants as kind
use Rattle.rss_machine.specs.declared.state.OwnerFate.{OwnerFate}
use Rattle.rss_machine.specs.declared.state.OwnerFate.TheVariants.{Ended}
use Rattle.world_laws.specs.Calls.{Kept, Onward, Gave, IsCallOf, HasReplied, EntriesTell}
use Rattle.world_laws.proofs.Histories.{entry_more}
use Rattle.world_laws.proofs.Looks.{looks, get_or_past}
use Rattle.world_laws.proofs.OwnerMoves.{sends_kept, sends_long}

pub kept_same : (v w : Owner) → w ≡ v → Kept v w
kept_same v w e = record { stage = ap (λ (x : Owner). x.stage) e; kind = ap (λ (x : Owner). x.kind) e; begun = ap (λ (x : Owner). x.dates.begun) e; fate = λ f. ap (λ (x : Owner). x.fate) e; session = λ f. ap (λ (x : Owner). x.session) e; ended = λ f. ap (λ (x : Owner). x.dates.ended) e }

runs_not_over : (v : OwnerFate) → is_running v ≡ true → is_running v ≡ false → ⊥
runs_not_over v r e = true≢false (sym r ∙ e)

-- a fate of an owner that has ended
pub ended_over : (v : OwnerFate) → v ≡ Ended → is_running v ≡ false
ended_over v e = ap is_running e

-- an owner that runs
pub kept_running : (v w : Owner) → is_running v.fate ≡ true → w.stage ≡ v.stage → w.kind ≡ v.kind → w.dates.begun ≡ v.dates.begun → Kept v w
kept_running v w r a b d = record { stage = a; kind = b; begun = d; fate = λ f. absurd (runs_not_over v.fate r f); session = λ f. absurd (runs_not_over v.fate r f); ended = λ f. absurd (runs_not_over v.fate r f) }

pub onward_set : (s t : State) (o : ℕ) (w : Owner) → t.owners ≡ set s.owners o w → Kept (owner_at s o) w → Onward s t
onward_set s t o w e k = record {
  long = subst (λ (owners : List Owner). length s.owners ≤ length owners) (sym e) long;
  each = λ i l. subst (λ (owners : List Owner). Kept (owner_at s i) (get_or owners i no_owner)) (sym e) (at i);
}
  where
    long : length s.owners ≤ length (set s.owners o w)
    long = grind (arith, looks)

    at : (i : ℕ) → Kept (owner_at s i) (get_or (set s.owners o w) i no_owner)
    at i = by_place (get_or_set_place s.owners o w i)
      where
        get_or_set_place : (xs : List Owner) (o : ℕ) (w : Owner) (i : ℕ) → ((get_or (set xs o w) i no_owner ≡ w) × (i ≡ o)) ⊎ (get_or (set xs o w) i no_owner ≡ get_or xs i no_owner)
        get_or_set_place xs o w i = grind (arith, looks)

        by_place : ((get_or (set s.owners o w) i no_owner ≡ w) × (i ≡ o)) ⊎ (get_or (set s.owners o w) i no_owner ≡ get_or s.owners i no_owner) → Kept (owner_at s i) (get_or (set s.owners o w) i no_owner)
        by_place (inl f) = subst (λ (v : Owner). Kept (owner_at s i) v) (sym f.0) (subst (λ (n : ℕ). Kept (owner_at s n) w) (sym f.1) k)
        by_place (inr f) = kept_same (owner_at s i) (get_or (set s.owners o w) i no_owner) f

pub onward_grow : (s t : State) (w : Owner) → t.owners ≡ s.owners ++ w ∷ [] → Onward s t
onward_grow s t w e = record {
  long = subst (λ (owners : List Owner). length s.owners ≤ length owners) (sym e) long;
  each = λ i l. kept_same (owner_at s i) (owner_at t i) (ap (λ (owners : List Owner). get_or owners i no_owner) e ∙ at i l);
}
  where
    long : length s.owners ≤ length (s.owners ++ w ∷ [])
    long = grind (arith, looks)

    at : (i : ℕ) → i < length s.owners → get_or (s.owners ++ w ∷ []) i no_owner ≡ get_or s.owners i no_owner
    at i l = grind (arith, looks, l)

pub onward_same : (s t : State) → t.owners ≡ s.owners → Onward s t
onward_same s t e = record {
  long = subst (λ (owners : List Owner). length s.owners ≤ length owners) (sym e) (omega arith);
  each = λ i l. kept_same (owner_at s i) (owner_at t i) (ap (λ (owners : List Owner). get_or owners i no_owner) e);
}

pub onward_sends : (s : State) (o : ℕ) (outs : List Out) → Onward s (sends s o outs)
onward_sends s o outs = record {
  long = let e = sends_long s o outs in omega (arith, e);
  each = λ i l. let e = sends_kept s o outs i in record { stage = ap (λ (x : Owner). x.stage) e; kind = ap (λ (x : Owner). x.kind) e; begun = ap (λ (x : Owner). x.dates.begun) e; fate = λ f. ap (λ (x : Owner). x.fate) e; session = λ f. ap (λ (x : Owner). x.session) e; ended = λ f. ap (λ (x : Owner). x.dates.ended) e };
}

-- a call is there
pub call_there : (s : State) (o : ℕ) (x : Op) → (owner_at s o).kind ≡ kind.Calling x → o < length s.owners
call_there s o x e = by_place (get_or_past s.owners o no_owner)
  where
    not_fencing : (x : Op) → kind.Fencing ≡ kind.Calling x → ⊥
    not_fencing x e = cc

    by_place : (o < length s.owners) ⊎ (owner_at s o ≡ no_owner) → o < length s.owners
    by_place (inl l) = l
    by_place (inr f) = absurd (not_fencing x (sym (ap (λ (w : Owner). w.kind) f) ∙ e))

pub call_onward : (s t : State) (o stage : ℕ) (x : Op) → Onward s t → IsCallOf s o stage x → IsCallOf t o stage x
call_onward s t o stage x d h = let k = d.each o (call_there s o x h.of_kind) in record { numbered = h.numbered; of_kind = k.kind ∙ h.of_kind; of_stage = k.stage ∙ h.of_stage }

pub replied_onward : (s t : State) (o : ℕ) (reply : List Shown) → Onward s t → HasReplied s o reply → HasReplied t o reply
replied_onward s t o reply d h =
    let k = d.each o (call_there s o h.op h.of_kind) in
    record { op = h.op; of_kind = k.kind ∙ h.of_kind; ended = k.fate (ended_over (owner_at s o).fate h.ended) ∙ h.ended; gave = subst (λ (x : Session). Gave x reply) (sym (k.session (ended_over (owner_at s o).fate h.ended))) h.gave }

-- what an entry that is added says of calls
pub record Adding (s t : State) (e : Entry) : Type 0 where
  pub begins : (o stage : ℕ) (x : Op) → e ≡ Begin o stage x → IsCallOf t o stage x
  pub anew : (o stage : ℕ) (x : Op) → e ≡ Begin o stage x → length s.owners ≤ o
  pub ends : (o : ℕ) (reply : List Shown) → e ≡ End o reply → HasReplied t o reply
  pub ran : (o : ℕ) (reply : List Shown) → e ≡ End o reply → (owner_at s o).fate ≡ Ended → ⊥
  pub order : (a b stage : ℕ) (x : Op) → e ≡ Begin b stage x → (owner_at s a).dates.ended < (owner_at t b).dates.begun

-- an entry that says nothing of calls
pub silent : (s t : State) (e : Entry) → ((o stage : ℕ) (x : Op) → e ≡ Begin o stage x → ⊥) → ((o : ℕ) (reply : List Shown) → e ≡ End o reply → ⊥) → Adding s t e
silent s t e f g = record {
  begins = λ o stage x q. absurd (f o stage x q);
  anew = λ o stage x q. absurd (f o stage x q);
  ends = λ o reply q. absurd (g o reply q);
  ran = λ o reply q r. g o reply q;
  order = λ a b stage x q. absurd (f b stage x q);
}

-- owners go on and no entry is added
pub entries_same : (s t : State) → t.history ≡ s.history → Onward s t → EntriesTell s → EntriesTell t
entries_same s t e d h = record {
  begins = λ i o stage x q. call_onward s t o stage x d (h.begins i o stage x (old i (Begin o stage x) q));
  ends = λ i o reply q. replied_onward s t o reply d (h.ends i o reply (old i (End o reply) q));
  begins_once = λ i j o m n x y p q. h.begins_once i j o m n x y (old i (Begin o m x) p) (old j (Begin o n y) q);
  ends_once = λ i j o x y p q. h.ends_once i j o x y (old i (End o x) p) (old j (End o y) q);
  in_turn = λ i j o stage x reply p q. h.in_turn i j o stage x reply (old i (Begin o stage x) p) (old j (End o reply) q);
  order = λ i j a b stage reply x l p q. dated i j a b stage reply x l (old i (End a reply) p) (old j (Begin b stage x) q);
}
  where
    old : (i : ℕ) (y : Entry) → entry_at t.history i ≡ y → entry_at s.history i ≡ y
    old i y q = ap (λ (l : List Entry). entry_at l i) (sym e) ∙ q

    dated : (i j a b stage : ℕ) (reply : List Shown) (x : Op) → i < j → entry_at s.history i ≡ End a reply → entry_at s.history j ≡ Begin b stage x → (owner_at t a).dates.ended < (owner_at t b).dates.begun
    dated i j a b stage reply x l p q =
        let u = h.ends i a reply p in
        let v = h.begins j b stage x q in
        let m = (d.each a (call_there s a u.op u.of_kind)).ended (ended_over (owner_at s a).fate u.ended) in
        let n = (d.each b (call_there s b x v.of_kind)).begun in
        let k = h.order i j a b stage reply x l p q in
        omega (arith, m, n, k)

-- owners go on and an entry is added
pub entries_more : (s t : State) (e : Entry) → t.history ≡ s.history ++ e ∷ [] → Onward s t → Adding s t e → EntriesTell s → EntriesTell t
entries_more s t e f d g h = record {
  begins = λ i o stage x q. by_begin i o stage x (begin_at i o stage x q);
  ends = λ i o reply q. by_end i o reply (end_at i o reply q);
  begins_once = λ i j o m n x y p q. once i j o m n x y (begin_at i o m x p) (begin_at j o n y q);
  ends_once = λ i j o x y p q. once_ended i j o x y (end_at i o x p) (end_at j o y q);
  in_turn = λ i j o stage x reply p q. turn i j o stage x reply (begin_at i o stage x p) (end_at j o reply q);
  order = λ i j a b stage reply x l p q. dated i j a b stage reply x l (end_at i a reply p) (begin_at j b stage x q);
}
  where
    at : (i : ℕ) → entry_at t.history i ≡ entry_at (s.history ++ e ∷ []) i
    at i = ap (λ (l : List Entry). entry_at l i) f

    over_not_begin : (o stage : ℕ) (x : Op) → Over 0 Exited ≡ Begin o stage x → ⊥
    over_not_begin o stage x e = cc

    over_not_end : (o : ℕ) (reply : List Shown) → Over 0 Exited ≡ End o reply → ⊥
    over_not_end o reply e = cc

    begin_at : (i o stage : ℕ) (x : Op) → entry_at t.history i ≡ Begin o stage x → ((entry_at s.history i ≡ Begin o stage x) × (i < length s.history)) ⊎ ((e ≡ Begin o stage x) × (i ≡ length s.history))
    begin_at i o stage x q = by_place (entry_more s.history e i)
      where
        by_place : ((entry_at (s.history ++ e ∷ []) i ≡ entry_at s.history i) × (i < length s.history)) ⊎ ((entry_at (s.history ++ e ∷ []) i ≡ e) × (i ≡ length s.history)) ⊎ ((entry_at (s.history ++ e ∷ []) i ≡ Over 0 Exited) × (length s.history < i)) → ((entry_at s.history i ≡ Begin o stage x) × (i < length s.history)) ⊎ ((e ≡ Begin o stage x) × (i ≡ length s.history))
        by_place (inl y) = inl (sym y.0 ∙ (sym (at i) ∙ q), y.1)
        by_place (inr (inl y)) = inr (sym y.0 ∙ (sym (at i) ∙ q), y.1)
        by_place (inr (inr y)) = absurd (over_not_begin o stage x (sym y.0 ∙ (sym (at i) ∙ q)))

    end_at : (i o : ℕ) (reply : List Shown) → entry_at t.history i ≡ End o reply → ((entry_at s.history i ≡ End o reply) × (i < length s.history)) ⊎ ((e ≡ End o reply) × (i ≡ length s.history))
    end_at i o reply q = by_place (entry_more s.history e i)
      where
        by_place : ((entry_at (s.history ++ e ∷ []) i ≡ entry_at s.history i) × (i < length s.history)) ⊎ ((entry_at (s.history ++ e ∷ []) i ≡ e) × (i ≡ length s.history)) ⊎ ((entry_at (s.history ++ e ∷ []) i ≡ Over 0 Exited) × (length s.history < i)) → ((entry_at s.history i ≡ End o reply) × (i < length s.history)) ⊎ ((e ≡ End o reply) × (i ≡ length s.history))
        by_place (inl y) = inl (sym y.0 ∙ (sym (at i) ∙ q), y.1)
        by_place (inr (inl y)) = inr (sym y.0 ∙ (sym (at i) ∙ q), y.1)
        by_place (inr (inr y)) = absurd (over_not_end o reply (sym y.0 ∙ (sym (at i) ∙ q)))

    by_begin : (i o stage : ℕ) (x : Op) → ((entry_at s.history i ≡ Begin o stage x) × (i < length s.history)) ⊎ ((e ≡ Begin o stage x) × (i ≡ length s.history)) → IsCallOf t o stage x
    by_begin i o stage x (inl q) = call_onward s t o stage x d (h.begins i o stage x q.0)
    by_begin i o stage x (inr q) = g.begins o stage x q.0

    by_end : (i o : ℕ) (reply : List Shown) → ((entry_at s.history i ≡ End o reply) × (i < length s.history)) ⊎ ((e ≡ End o reply) × (i ≡ length s.history)) → HasReplied t o reply
    by_end i o reply (inl q) = replied_onward s t o reply d (h.ends i o reply q.0)
    by_end i o reply (inr q) = g.ends o reply q.0

    not_anew : (i o m n : ℕ) (x y : Op) → entry_at s.history i ≡ Begin o m x → e ≡ Begin o n y → ⊥
    not_anew i o m n x y p q = let l = call_there s o x (h.begins i o m x p).of_kind in let k = g.anew o n y q in omega (arith, l, k)

    not_ran : (i o : ℕ) (x y : List Shown) → entry_at s.history i ≡ End o x → e ≡ End o y → ⊥
    not_ran i o x y p q = g.ran o y q (h.ends i o x p).ended

    once : (i j o m n : ℕ) (x y : Op) → ((entry_at s.history i ≡ Begin o m x) × (i < length s.history)) ⊎ ((e ≡ Begin o m x) × (i ≡ length s.history)) → ((entry_at s.history j ≡ Begin o n y) × (j < length s.history)) ⊎ ((e ≡ Begin o n y) × (j ≡ length s.history)) → i ≡ j
    once i j o m n x y (inl p) (inl q) = h.begins_once i j o m n x y p.0 q.0
    once i j o m n x y (inl p) (inr q) = absurd (not_anew i o m n x y p.0 q.0)
    once i j o m n x y (inr p) (inl q) = absurd (not_anew j o n m y x q.0 p.0)
    once i j o m n x y (inr p) (inr q) = p.1 ∙ sym q.1

    once_ended : (i j o : ℕ) (x y : List Shown) → ((entry_at s.history i ≡ End o x) × (i < length s.history)) ⊎ ((e ≡ End o x) × (i ≡ length s.history)) → ((entry_at s.history j ≡ End o y) × (j < length s.history)) ⊎ ((e ≡ End o y) × (j ≡ length s.history)) → i ≡ j
    once_ended i j o x y (inl p) (inl q) = h.ends_once i j o x y p.0 q.0
    once_ended i j o x y (inl p) (inr q) = absurd (not_ran i o x y p.0 q.0)
    once_ended i j o x y (inr p) (inl q) = absurd (not_ran j o y x q.0 p.0)
    once_ended i j o x y (inr p) (inr q) = p.1 ∙ sym q.1

    ended_anew : (j o stage : ℕ) (x : Op) (reply : List Shown) → e ≡ Begin o stage x → entry_at s.history j ≡ End o reply → ⊥
    ended_anew j o stage x reply p q = let u = h.ends j o reply q in let l = call_there s o u.op u.of_kind in let k = g.anew o stage x p in omega (arith, l, k)

    begin_not_end : (o p stage : ℕ) (x : Op) (reply : List Shown) → e ≡ Begin o stage x → e ≡ End p reply → ⊥
    begin_not_end o p stage x reply a b = cc

    turn : (i j o stage : ℕ) (x : Op) (reply : List Shown) → ((entry_at s.history i ≡ Begin o stage x) × (i < length s.history)) ⊎ ((e ≡ Begin o stage x) × (i ≡ length s.history)) → ((entry_at s.history j ≡ End o reply) × (j < length s.history)) ⊎ ((e ≡ End o reply) × (j ≡ length s.history)) → i < j
    turn i j o stage x reply (inl p) (inl q) = h.in_turn i j o stage x reply p.0 q.0
    turn i j o stage x reply (inl p) (inr q) = let a = p.1 in let b = q.1 in omega (arith, a, b)
    turn i j o stage x reply (inr p) (inl q) = absurd (ended_anew j o stage x reply p.0 q.0)
    turn i j o stage x reply (inr p) (inr q) = absurd (begin_not_end o o stage x reply p.0 q.0)

    dated : (i j a b stage : ℕ) (reply : List Shown) (x : Op) → i < j → ((entry_at s.history i ≡ End a reply) × (i < length s.history)) ⊎ ((e ≡ End a reply) × (i ≡ length s.history)) → ((entry_at s.history j ≡ Begin b stage x) × (j < length s.history)) ⊎ ((e ≡ Begin b stage x) × (j ≡ length s.history)) → (owner_at t a).dates.ended < (owner_at t b).dates.begun
    dated i j a b stage reply x l (inl p) (inl q) =
        let u = h.ends i a reply p.0 in
        let v = h.begins j b stage x q.0 in
        let m = (d.each a (call_there s a u.op u.of_kind)).ended (ended_over (owner_at s a).fate u.ended) in
        let n = (d.each b (call_there s b x v.of_kind)).begun in
        let k = h.order i j a b stage reply x l p.0 q.0 in
        omega (arith, m, n, k)
    dated i j a b stage reply x l (inl p) (inr q) =
        let u = h.ends i a reply p.0 in
        let m = (d.each a (call_there s a u.op u.of_kind)).ended (ended_over (owner_at s a).fate u.ended) in
        let k = g.order a b stage x q.0 in
        omega (arith, m, k)
    dated i j a b stage reply x l (inr p) (inl q) = absurd (let m = p.1 in let n = q.1 in omega (arith, m, n, l))
    dated i j a b stage reply x l (inr p) (inr q) = absurd (begin_not_end b a stage x reply q.0 p.0)
