-- What the pass over ended mutations finds is a call that real time puts behind one that is misplaced.
use Rattle.std.proofs.Common.{◌≡◌, ℕ, zero, suc, ◌<◌, ◌≤◌, ◌⊎◌, inl, inr, Bool, true, false, List, [], ◌∷◌, length, max, Some, None, refl, sym, ap, ◌∙◌, arith, subst}
use Rattle.std.specs.Prelude.{IsTrue, Contains, ◌||◌, ◌&&◌, ◌==◌, if◌then◌else◌}
use Rattle.std.specs.Bool.{Decides}
use Rattle.std.specs.List.{list_any}
use Rattle.std.proofs.lemmas.Bool.{cases_lt, eqb-true}
use Rattle.std.proofs.lemmas.Bool.Decides.{Decides-or, Decides-like}
use Rattle.std.proofs.lemmas.Grind.{common_steps}
use Rattle.rss_names.specs.declared.service.Key.{Key}
use Rattle.rss_names.specs.Services.{same_key}
use Rattle.rss_names.proofs.Services.{same_key-Decides}
use Rattle.rss_model.specs.declared.history.Entry.{Entry}
use Rattle.rss_model.specs.declared.history.Entry.TheVariants.{Begin, End, Give, Get, Over}
use Rattle.rss_model.specs.Operation.{reads_of, writes_of}
use Rattle.rss_model.specs.History.{entry_at, ends, op_of, EndsAt, BeginsAt}
use Rattle.rss_model.specs.Mutation.{is_mutation, Conflicts}
use Rattle.rss_model.specs.RealTime.{BeforeInRealTime}
use Rattle.rss_model.specs.Candidate.{IsCandidate, InOrder}
use Rattle.rss_model.proofs.HistoryLemmas.{begins_at_inside}
use Rattle.order_laws.specs.Standing.{StandsBefore}
use Rattle.order_laws.proofs.Parts.{stands_in_order}
use Rattle.plain_model.proofs.Lists.{in_head_or_tail, head_or_tail_of}
use Rattle.rss_check.specs.Verdicts.{IsLeast, MustFollow, LacksTime}
use Rattle.rss_check.specs.Places.{ArePlaces}
use Rattle.rss_check.specs.Tops.{IsTop}
use Rattle.rss_check.specs.Bad.{IsLeastBad, IsUntimely, writes_key, ended_by, Latest, latest_after, latest_at, greatest_of, time_bound}
use Rattle.rss_check.proofs.Placed.{before_or_not, place_by}
use Rattle.rss_check.proofs.Caused.{misplaced_by, placed_by}
use Rattle.rss_check.proofs.TopsRight.{none_top, one_top, if_top, joined_top}

-- calls that end at one of the first places
ended_by_to : (h : List Entry) (n a : ℕ) → ended_by h n a ≡ true → (i : ℕ) × (i < n) × EndsAt h a i
unfolding ended_by
ended_by_to h zero a e = absurd cc
ended_by_to h (suc n) a e = by_part (ended_by h n a) refl (ends a (entry_at h n)) refl (ended_by_to h n a)
  where
    by_part : (s : Bool) → ended_by h n a ≡ s → (t : Bool) → ends a (entry_at h n) ≡ t → (ended_by h n a ≡ true → (i : ℕ) × (i < n) × EndsAt h a i) → (i : ℕ) × (i < suc n) × EndsAt h a i
    by_part true s t f rest = let k = rest s in (k.0, omega (arith, k.1), k.2)
    by_part false s true f rest = (n, omega arith, f)
    by_part false s false f rest = absurd (let x : true ≡ false = sym e ∙ rw (s, f) refl in cc)

ended_by_from : (h : List Entry) (n a i : ℕ) → i < n → EndsAt h a i → ended_by h n a ≡ true
unfolding ended_by
ended_by_from h zero a i l e = absurd (omega (arith, l))
ended_by_from h (suc n) a i l e = by_place (cases_lt i n) (λ m. ended_by_from h n a i m e)
  where
    by_place : (i < n) ⊎ (n ≤ i) → (i < n → ended_by h n a ≡ true) → ended_by h (suc n) a ≡ true
    by_place (inl m) rest = let k = rest m in grind (arith, common_steps, k)
    by_place (inr m) rest =
        let here : i ≡ n = omega (arith, l, m) in
        let f : ends a (entry_at h n) ≡ true = subst (λ (j : ℕ). EndsAt h a j) here e in
        grind (arith, common_steps, f)

-- whether an operation writes a key
any_key : (keys : List Key) (key : Key) → Decides (list_any (same_key key) keys) (Contains keys key)
any_key [] key = (λ t. absurd cc, λ w. absurd (omega (arith, w.1)))
any_key (k ∷ keys) key = Decides-like _ (λ s. in_head_or_tail k keys key (turned s)) (λ w. turned_back (head_or_tail_of k keys key w)) (Decides-or _ _ (same_key-Decides key k) (any_key keys key))
  where
    turned : (key ≡ k) ⊎ Contains keys key → (k ≡ key) ⊎ Contains keys key
    turned (inl e) = inl (sym e)
    turned (inr w) = inr w

    turned_back : (k ≡ key) ⊎ Contains keys key → (key ≡ k) ⊎ Contains keys key
    turned_back (inl e) = inl (sym e)
    turned_back (inr w) = inr w

-- the same calls have the same top
same_top : (place : ℕ → ℕ) (p q : ℕ → Bool) (top : ℕ) → ((a : ℕ) → p a ≡ q a) → IsTop place p top → IsTop place q top
same_top place p q top s t = record {
  bound = λ a e. t.bound a (s a ∙ e);
  reached = by_reached t.reached;
}
  where
    by_reached : (top ≡ 0) ⊎ ((a : ℕ) × (p a ≡ true) × (place a ≡ top)) → (top ≡ 0) ⊎ ((a : ℕ) × (q a ≡ true) × (place a ≡ top))
    by_reached (inl z) = inl z
    by_reached (inr t) = inr (t.0, sym (s t.0) ∙ t.1, t.2)

not_joined : (p m w v : Bool) → (((p && m) && w) || (v && false)) ≡ (((p || false) && m) && w)
not_joined true true true true = refl
not_joined true true true false = refl
not_joined true true false true = refl
not_joined true true false false = refl
not_joined true false true true = refl
not_joined true false true false = refl
not_joined true false false true = refl
not_joined true false false false = refl
not_joined false true true true = refl
not_joined false true true false = refl
not_joined false true false true = refl
not_joined false true false false = refl
not_joined false false true true = refl
not_joined false false true false = refl
not_joined false false false true = refl
not_joined false false false false = refl

written_joined : (p w : Bool) → (((p && true) && w) || (w && true)) ≡ (((p || true) && true) && w)
written_joined true true = refl
written_joined true false = refl
written_joined false true = refl
written_joined false false = refl

module _ (h : List Entry) (place : ℕ → ℕ) where
  -- an ended mutation, and one that writes a key
  abbrev Ended : ℕ → ℕ → Bool
  Ended i a = ended_by h i a && is_mutation h a

  abbrev Written : ℕ → Key → ℕ → Bool
  Written i key a = Ended i a && writes_key (op_of h a) key

  pub record AreLatest (i : ℕ) (latest : Latest) : Type 0 where
    pub any : IsTop place (Ended i) latest.any
    pub written : (key : Key) → IsTop place (Written i key) (latest.written key)

  -- an entry that ends no call
  latest_other : (i : ℕ) (latest : Latest) → ((a : ℕ) → ends a (entry_at h i) ≡ false) → AreLatest i latest → AreLatest (suc i) latest
  unfolding ended_by
  latest_other i latest n k = record {
    any = same_top place (Ended i) (Ended (suc i)) latest.any (λ a. grind (arith, common_steps, n a)) k.any;
    written = λ key. same_top place (Written i key) (Written (suc i) key) (latest.written key) (λ a. grind (arith, common_steps, n a)) (k.written key);
  }

  -- a call that ends
  latest_end : (i call : ℕ) (latest : Latest) → ((a : ℕ) → ends a (entry_at h i) ≡ (call == a)) → (m : Bool) → is_mutation h call ≡ m → AreLatest i latest → AreLatest (suc i) (if m then record { any = max latest.any (place call); written = λ key. max (latest.written key) (if writes_key (op_of h call) key then place call else 0) } else latest)
  unfolding ended_by
  latest_end i call latest n true m k = record {
    any = same_top place (λ a. Ended i a || (call == a)) (Ended (suc i)) (max latest.any (place call)) (λ a. same_any a (call == a) refl) (joined_top place _ _ _ _ k.any (one_top place call));
    written = λ key. same_top place (λ a. Written i key a || (writes_key (op_of h call) key && (call == a))) (Written (suc i) key) (max (latest.written key) (if writes_key (op_of h call) key then place call else 0)) (λ a. same_written key a (call == a) refl) (joined_top place _ _ _ _ (k.written key) (if_top place (writes_key (op_of h call) key) (λ other. call == other) (place call) (one_top place call)));
  }
    where
      same_any : (a : ℕ) (t : Bool) → (call == a) ≡ t → (Ended i a || (call == a)) ≡ Ended (suc i) a
      same_any a true t = let e = eqb-true call a t in let f : is_mutation h a ≡ true = subst (λ (x : ℕ). is_mutation h x ≡ true) e m in grind (arith, common_steps, n a, t, f)
      same_any a false t = grind (arith, common_steps, n a, t)

      same_written : (key : Key) (a : ℕ) (t : Bool) → (call == a) ≡ t → (Written i key a || (writes_key (op_of h call) key && (call == a))) ≡ Written (suc i) key a
      same_written key a true t =
          let e = eqb-true call a t in
          let f : is_mutation h a ≡ true = subst (λ (x : ℕ). is_mutation h x ≡ true) e m in
          let g : writes_key (op_of h call) key ≡ writes_key (op_of h a) key = ap (λ (x : ℕ). writes_key (op_of h x) key) e in
          by_write (writes_key (op_of h a) key) refl f g
        where
          by_write : (w : Bool) → writes_key (op_of h a) key ≡ w → is_mutation h a ≡ true → writes_key (op_of h call) key ≡ writes_key (op_of h a) key → (Written i key a || (writes_key (op_of h call) key && (call == a))) ≡ Written (suc i) key a
          by_write w x f g = let ends_here : ends a (entry_at h i) ≡ true = n a ∙ t in rw (t, ends_here, f, g, x) (written_joined (ended_by h i a) w)
      same_written key a false t =
          let goes_on : ends a (entry_at h i) ≡ false = n a ∙ t in
          rw (t, goes_on) (not_joined (ended_by h i a) (is_mutation h a) (writes_key (op_of h a) key) (writes_key (op_of h call) key))
  latest_end i call latest n false m k = record {
    any = same_top place (Ended i) (Ended (suc i)) latest.any (λ a. same_any a (call == a) refl) k.any;
    written = λ key. same_top place (Written i key) (Written (suc i) key) (latest.written key) (λ a. same_written key a (call == a) refl) (k.written key);
  }
    where
      same_any : (a : ℕ) (t : Bool) → (call == a) ≡ t → Ended i a ≡ Ended (suc i) a
      same_any a true t = let e = eqb-true call a t in let f : is_mutation h a ≡ false = subst (λ (x : ℕ). is_mutation h x ≡ false) e m in grind (arith, common_steps, n a, t, f)
      same_any a false t = grind (arith, common_steps, n a, t)

      same_written : (key : Key) (a : ℕ) (t : Bool) → (call == a) ≡ t → Written i key a ≡ Written (suc i) key a
      same_written key a t e = ap (λ (b : Bool). b && writes_key (op_of h a) key) (same_any a t e)

  latest_step : (i : ℕ) (e : Entry) (latest : Latest) → entry_at h i ≡ e → AreLatest i latest → AreLatest (suc i) (latest_after h place latest e)
  latest_step i (Begin call stage op) latest e k = latest_other i latest (λ a. ap (ends a) e) k
  latest_step i (End call reply) latest e k = latest_end i call latest (λ a. ap (ends a) e) (is_mutation h call) refl k
  latest_step i (Give stage token) latest e k = latest_other i latest (λ a. ap (ends a) e) k
  latest_step i (Get stage token) latest e k = latest_other i latest (λ a. ap (ends a) e) k
  latest_step i (Over stage how) latest e k = latest_other i latest (λ a. ap (ends a) e) k

  latest_right : (i : ℕ) → AreLatest i (latest_at h place i)
  unfolding latest_at ended_by
  latest_right zero = record { any = none_top place; written = λ key. none_top place }
  latest_right (suc i) = latest_step i (entry_at h i) (latest_at h place i) refl (latest_right i)

-- a key with the greatest number
greatest_there : (f : Key → ℕ) (keys : List Key) (n : ℕ) → 1 ≤ n → n ≤ greatest_of f keys → (key : Key) × Contains keys key × (n ≤ f key)
greatest_there f [] n l m = absurd (omega (arith, l, m))
greatest_there f (k ∷ keys) n l m = by_first (cases_lt (f k) n) (greatest_there f keys n l)
  where
    by_first : (f k < n) ⊎ (n ≤ f k) → (n ≤ greatest_of f keys → (key : Key) × Contains keys key × (n ≤ f key)) → (key : Key) × Contains (k ∷ keys) key × (n ≤ f key)
    by_first (inl s) rest = let r = rest (omega (arith, s, m)) in (r.0, in_head_or_tail k keys r.0 (inr r.1), r.2)
    by_first (inr s) rest = (k, in_head_or_tail k keys k (inl refl), s)

greatest_above : (f : Key → ℕ) (keys : List Key) (key : Key) → Contains keys key → f key ≤ greatest_of f keys
greatest_above f [] key w = absurd (omega (arith, w.1))
greatest_above f (k ∷ keys) key w = by_part (head_or_tail_of k keys key w) (greatest_above f keys key)
  where
    by_part : (k ≡ key) ⊎ Contains keys key → (Contains keys key → f key ≤ greatest_of f keys) → f key ≤ greatest_of f (k ∷ keys)
    by_part (inl e) rest = omega (arith, ap f e)
    by_part (inr t) rest = let m : f key ≤ greatest_of f keys = rest t in omega (arith, m)

and_left : (a b : Bool) → (a && b) ≡ true → a ≡ true
and_left true b e = refl
and_left false b e = absurd cc

and_right : (a b : Bool) → (a && b) ≡ true → b ≡ true
and_right true b e = e
and_right false b e = absurd cc

and_both : (a b : Bool) → a ≡ true → b ≡ true → (a && b) ≡ true
and_both true b d e = e
and_both false b d e = absurd cc

module _ (h : List Entry) (c : List ℕ) (place : ℕ → ℕ) (p : ArePlaces c place) where
  lacks : (i a b : ℕ) → BeginsAt h b i → 1 ≤ place b → (ended_by h i a ≡ true) → is_mutation h a ≡ true → place b ≤ place a → IsTrue (is_mutation h b) ⊎ Conflicts h b a → LacksTime h c b
  lacks i a b begins l ended mutates m meets =
      let e = ended_by_to h i a ended in
      (a, record { time = (e.0, i, e.2, begins, e.1); mutates = mutates; meets = meets }, misplaced_by c place a b p l m)

  untimely_to : (i b : ℕ) → IsUntimely h place i b → LacksTime h c b
  untimely_to i b u = by_kind (is_mutation h b) refl
    where
      latest : Latest
      latest = latest_at h place i

      by_any : 1 ≤ place b → place b ≤ latest.any → IsTrue (is_mutation h b) → (latest.any ≡ 0) ⊎ ((a : ℕ) × ((ended_by h i a && is_mutation h a) ≡ true) × (place a ≡ latest.any)) → LacksTime h c b
      by_any l m t (inl z) = absurd (omega (arith, z, l, m))
      by_any l m t (inr s) = lacks i s.0 b u.begins l (and_left _ _ s.1) (and_right _ _ s.1) (omega (arith, s.2, m)) (inl t)

      by_key : (key : Key) → Contains (reads_of (op_of h b)) key → 1 ≤ place b → place b ≤ latest.written key → is_mutation h b ≡ false → (latest.written key ≡ 0) ⊎ ((a : ℕ) × (((ended_by h i a && is_mutation h a) && writes_key (op_of h a) key) ≡ true) × (place a ≡ latest.written key)) → LacksTime h c b
      by_key key w l m t (inl z) = absurd (omega (arith, z, l, m))
      by_key key w l m t (inr s) =
          let both = and_left _ _ s.1 in
          let written : Contains (writes_of (op_of h s.0)) key = (any_key (writes_of (op_of h s.0)) key).0 (and_right _ _ s.1) in
          lacks i s.0 b u.begins l (and_left _ _ both) (and_right _ _ both) (omega (arith, s.2, m)) (inr (record { reads = t; mutates = and_right _ _ both; key = key; is_read = w; is_written = written }))

      by_kind : (t : Bool) → is_mutation h b ≡ t → LacksTime h c b
      by_kind true t =
          let m : place b ≤ latest.any = rw t at u.at_most in
          by_any u.placed m t (latest_right h place i).any.reached
      by_kind false t =
          let m : place b ≤ greatest_of latest.written (reads_of (op_of h b)) = rw t at u.at_most in
          let k = greatest_there latest.written (reads_of (op_of h b)) (place b) u.placed m in
          by_key k.0 k.1 u.placed k.2 t ((latest_right h place i).written k.0).reached

  untimely_from : (b : ℕ) → LacksTime h c b → (i : ℕ) × IsUntimely h place i b
  untimely_from b (a, must, mis) = (j, record { begins = begins; placed = l.0; at_most = by_meets must.meets })
    where
      j : ℕ
      j = must.time.1

      begins : BeginsAt h b j
      begins = must.time.3

      latest : Latest
      latest = latest_at h place j

      l : (1 ≤ place b) × (place b ≤ place a)
      l = placed_by c place a b p mis

      ended : (ended_by h j a && is_mutation h a) ≡ true
      ended = and_both _ _ (ended_by_from h j a must.time.0 must.time.4 must.time.2) must.mutates

      at_any : place b ≤ latest.any
      at_any = omega (arith, l.1, (latest_right h place j).any.bound a ended)

      by_meets : IsTrue (is_mutation h b) ⊎ Conflicts h b a → place b ≤ time_bound h latest b
      by_meets (inl t) = rw t at_any
      by_meets (inr k) =
          let written = and_both _ _ ended ((any_key (writes_of (op_of h a)) k.key).1 k.is_written) in
          let top = ((latest_right h place j).written k.key).bound a written in
          let above = greatest_above latest.written (reads_of (op_of h b)) k.key k.is_read in
          rw k.reads (omega (arith, l.1, top, above))

  pub least_untimely : (n : ℕ) → IsLeastBad (IsUntimely h place) (length h) (Some n) → IsLeast (LacksTime h c) n
  least_untimely n k =
      let f = k.found n refl in
      (untimely_to f.0 n f.2, λ m l b. below m l (untimely_from m b))
    where
      below : (m : ℕ) → m < n → (i : ℕ) × IsUntimely h place i m → ⊥
      below m l u = omega (arith, l, k.least_is n u.0 m refl (begins_at_inside h m u.0 u.1.begins) u.1)

  pub none_untimely : IsLeastBad (IsUntimely h place) (length h) None → (b : ℕ) → LacksTime h c b → ⊥
  none_untimely k b x = let u = untimely_from b x in k.none u.0 b refl (begins_at_inside h b u.0 u.1.begins) u.1

  -- then real time leads from calls to later ones
  in_time : IsCandidate h c → ((b : ℕ) → LacksTime h c b → ⊥) → (a b : ℕ) → MustFollow h a b → InOrder c a b
  in_time k none a b must i j s t = by_order (before_or_not c place a b p (i, s) (j, t))
    where
      by_order : StandsBefore c a b ⊎ (place b ≤ place a) → i < j
      by_order (inl x) = stands_in_order c a b k.distinct x i j s t
      by_order (inr l) = absurd (none b (a, must, misplaced_by c place a b p (place_by c place b p (j, t)) l))

  pub mutations_in_time : IsCandidate h c → ((b : ℕ) → LacksTime h c b → ⊥) → (a b : ℕ) → BeforeInRealTime h a b → IsTrue (is_mutation h a) → IsTrue (is_mutation h b) → InOrder c a b
  mutations_in_time k none a b t m n = in_time k none a b (record { time = t; mutates = m; meets = inl n })

  pub reads_in_time : IsCandidate h c → ((b : ℕ) → LacksTime h c b → ⊥) → (a b : ℕ) → BeforeInRealTime h a b → Conflicts h b a → InOrder c a b
  reads_in_time k none a b t x = in_time k none a b (record { time = t; mutates = x.mutates; meets = inr x })
