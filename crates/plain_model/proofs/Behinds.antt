-- What the marks on the places of a history decide.
use Rattle.std.proofs.Common.{◌≡◌, ◌∙◌, sym, ap, ℕ, zero, suc, ◌<◌, ◌≤◌, ◌+◌, List, [], ◌∷◌, ◌++◌, length, get_or, drop, drop-cons, Bool, true, false, refl, arith, subst, ◌⊎◌, inl, inr}
use Rattle.std.specs.Prelude.{◌||◌}
use Rattle.std.specs.Bool.{Decides}
use Rattle.std.proofs.lemmas.Bool.{false≢true, cases_lt}
use Rattle.std.proofs.lemmas.Bool.Decides.{Decides-eqb, Decides-and, Decides-or, Decides-like}
use Rattle.std.proofs.lemmas.Grind.{common_steps}
use Rattle.rss_model.specs.Tokens.{same_token}
use Rattle.rss_model.specs.declared.history.Entry.{Entry}
use Rattle.rss_model.specs.declared.history.Entry.TheVariants.{Begin, End, Give, Get, Over}
use Rattle.rss_model.specs.declared.history.Token.{Token}
use Rattle.rss_model.specs.declared.history.Token.TheVariants.{Spawn, Chunk, Exit}
use Rattle.rss_model.specs.declared.history.How.TheVariants.{Exited}
use Rattle.rss_model.specs.History.{entry_at, ends, EndsAt}
use Rattle.rss_model.specs.Stages.{entry_stage}
use Rattle.rss_model.specs.Causality.{here, along, carried}
use Rattle.rss_model.specs.Behind.{BehindPlace}
use Rattle.plain_model.specs.Messages.{gets, carries, leads, leads_from, behind_from, behind}

itself : (b : Bool) → Decides b (b ≡ true)
itself b = (λ t. t, λ t. t)

same_token-Decides : (a b : Token) → Decides (same_token a b) (a ≡ b)
same_token-Decides (Spawn s) (Spawn t) =
    Decides-like _ (λ e. ap Spawn e) (λ e. cc) (Decides-eqb s t)
same_token-Decides (Spawn s) (Chunk q n) = (λ t. absurd (false≢true t), λ e. cc)
same_token-Decides (Spawn s) (Exit t) = (λ t. absurd (false≢true t), λ e. cc)
same_token-Decides (Chunk p m) (Spawn t) = (λ t. absurd (false≢true t), λ e. cc)
same_token-Decides (Chunk p m) (Chunk q n) =
    Decides-like _ (λ e i. Chunk (e.0 i) (e.1 i)) (λ e. (cc, cc))
    (Decides-and _ _ (Decides-eqb p q) (Decides-eqb m n))
same_token-Decides (Chunk p m) (Exit t) = (λ t. absurd (false≢true t), λ e. cc)
same_token-Decides (Exit s) (Spawn t) = (λ t. absurd (false≢true t), λ e. cc)
same_token-Decides (Exit s) (Chunk q n) = (λ t. absurd (false≢true t), λ e. cc)
same_token-Decides (Exit s) (Exit t) =
    Decides-like _ (λ e. ap Exit e) (λ e. cc) (Decides-eqb s t)

-- an entry gives the token that another one gets
pub record Carried (k e : Entry) : Type 0 where
  pub giver : ℕ
  pub getter : ℕ
  pub token : Token
  pub gives : k ≡ Give giver token
  pub gets : e ≡ Get getter token

carries-to : (k e : Entry) → carries k e ≡ true → Carried k e
carries-to (Begin c s op) e t = absurd (false≢true t)
carries-to (End c reply) e t = absurd (false≢true t)
carries-to (Give s token) (Begin c r op) t = absurd (false≢true t)
carries-to (Give s token) (End c reply) t = absurd (false≢true t)
carries-to (Give s token) (Give r other) t = absurd (false≢true t)
carries-to (Give s token) (Get r other) t =
    record {
      giver = s;
      getter = r;
      token = token;
      gives = refl;
      gets = ap (Get r) (sym ((same_token-Decides token other).0 t));
    }
carries-to (Give s token) (Over r how) t = absurd (false≢true t)
carries-to (Get s token) e t = absurd (false≢true t)
carries-to (Over s how) e t = absurd (false≢true t)

carries-from : (k e : Entry) → Carried k e → carries k e ≡ true
carries-from k e c =
    ap (λ (x : Entry). carries x e) c.gives ∙ ap (λ (x : Entry). gets c.token x) c.gets ∙
    (same_token-Decides c.token c.token).1 refl

carries-Decides : (k e : Entry) → Decides (carries k e) (Carried k e)
carries-Decides k e = (carries-to k e, carries-from k e)

-- one entry leads to another
abbrev Leads : List Entry → Entry → Entry → Type 0
Leads h k e = (entry_stage h k ≡ entry_stage h e) ⊎ Carried k e

leads-Decides : (h : List Entry) (k e : Entry) → Decides (leads h k e) (Leads h k e)
leads-Decides h k e =
    Decides-or _ _ (Decides-eqb (entry_stage h k) (entry_stage h e)) (carries-Decides k e)

-- a marked place above leads to the entry
abbrev MarkedLeads : List Entry → List Bool → List Entry → Entry → Type 0
MarkedLeads h marks above e =
    (k : ℕ) × (k < length marks) × (k < length above) × (get_or marks k false ≡ true) ×
    (leads h (entry_at above k) e ≡ true)

leads_cons : (h : List Entry) (mark : Bool) (marks : List Bool) (k : Entry) (above : List Entry) (e : Entry) →
    ((mark ≡ true) × (leads h k e ≡ true)) ⊎ MarkedLeads h marks above e →
    MarkedLeads h (mark ∷ marks) (k ∷ above) e
leads_cons h mark marks k above e (inl (x, y)) = (0, omega arith, omega arith, x, y)
leads_cons h mark marks k above e (inr (n, l, m, x, y)) =
    (suc n, omega (arith, l), omega (arith, m), x, y)

leads_uncons : (h : List Entry) (mark : Bool) (marks : List Bool) (k : Entry) (above : List Entry) (e : Entry) →
    MarkedLeads h (mark ∷ marks) (k ∷ above) e →
    ((mark ≡ true) × (leads h k e ≡ true)) ⊎ MarkedLeads h marks above e
leads_uncons h mark marks k above e (zero, l, m, x, y) = inl (x, y)
leads_uncons h mark marks k above e (suc n, l, m, x, y) =
    inr (n, omega (arith, l), omega (arith, m), x, y)

leads_from-Decides : (h : List Entry) (marks : List Bool) (above : List Entry) (e : Entry) →
    Decides (leads_from h marks above e) (MarkedLeads h marks above e)
leads_from-Decides h [] above e = (λ t. absurd (false≢true t), λ w. absurd (omega (arith, w.1)))
leads_from-Decides h (mark ∷ marks) [] e =
    (λ t. absurd (false≢true t), λ w. absurd (omega (arith, w.2)))
leads_from-Decides h (mark ∷ marks) (k ∷ above) e =
    Decides-like _ (leads_cons h mark marks k above e) (leads_uncons h mark marks k above e)
    (Decides-or _ _ (Decides-and _ _ (itself mark) (itself (leads h k e)))
    (leads_from-Decides h marks above e))

-- the entries that are left begin with the one at their place
left_of : (h : List Entry) (n : ℕ) (e : Entry) (rest : List Entry) → e ∷ rest ≡ drop n h →
    (n < length h) × (entry_at h n ≡ e) × (rest ≡ drop (suc n) h)
left_of h n e rest d = by_place (cases_lt n (length h))
  where
    by_place : (n < length h) ⊎ (length h ≤ n) →
        (n < length h) × (entry_at h n ≡ e) × (rest ≡ drop (suc n) h)
    by_place (inl l) =
        let next : drop n h ≡ entry_at h n ∷ drop (suc n) h = drop-cons h n (Over 0 Exited) l in
        (l, cc (d, next), cc (d, next))
    by_place (inr l) =
        let past : drop n h ≡ [] = grind (arith, common_steps, l) in
        absurd (cc (d, past))

module _ (h : List Entry) (call : ℕ) where
  -- how a path comes to a place: it begins there, or comes from one above
  abbrev Comes : ℕ → Type 0
  Comes j =
      EndsAt h call j ⊎
      ((k : ℕ) × (k < j) × BehindPlace h call k × Leads h (entry_at h k) (entry_at h j))

  comes_to : (j : ℕ) → BehindPlace h call j → Comes j
  comes_to j (i, x, here) = inl x
  comes_to j (i, x, along {k = k} p l s) = inr (k, l, (i, x, p), inl s)
  comes_to j (i, x, carried {k = k} {giver = giver} {getter = getter} {token = token} p l s t) =
      inr (
        k,
        l,
        (i, x, p),
        inr (record { giver = giver; getter = getter; token = token; gives = s; gets = t }),
      )

  comes_from : (j : ℕ) → Comes j → BehindPlace h call j
  comes_from j (inl x) = (j, x, here)
  comes_from j (inr (k, l, (i, x, p), inl s)) = (i, x, along p l s)
  comes_from j (inr (k, l, (i, x, p), inr c)) = (i, x, carried p l c.gives c.gets)

  -- marks on the first n places say whether the call is behind each
  pub record AreBehind (marks : List Bool) (n : ℕ) : Type 0 where
    pub sized : length marks ≡ n
    pub exact : (j : ℕ) → j < n → Decides (get_or marks j false) (BehindPlace h call j)

  from_marks : (marks : List Bool) (n : ℕ) → n < length h → AreBehind marks n →
      (EndsAt h call n) ⊎ MarkedLeads h marks h (entry_at h n) → BehindPlace h call n
  from_marks marks n l a (inl x) = comes_from n (inl x)
  from_marks marks n l a (inr (k, m, o, x, y)) =
      let inside : k < n = omega (arith, m, a.sized) in
      comes_from n (inr (
        k,
        inside,
        (a.exact k inside).0 x,
        (leads-Decides h (entry_at h k) (entry_at h n)).0 y,
      ))

  to_marks : (marks : List Bool) (n : ℕ) → n < length h → AreBehind marks n →
      BehindPlace h call n → (EndsAt h call n) ⊎ MarkedLeads h marks h (entry_at h n)
  to_marks marks n l a b = by_way (comes_to n b)
    where
      by_way : Comes n → (EndsAt h call n) ⊎ MarkedLeads h marks h (entry_at h n)
      by_way (inl x) = inl x
      by_way (inr (k, m, p, s)) =
          inr (
            k,
            omega (arith, m, a.sized),
            omega (arith, m, l),
            (a.exact k m).1 p,
            (leads-Decides h (entry_at h k) (entry_at h n)).1 s,
          )

  mark-Decides : (marks : List Bool) (n : ℕ) → n < length h → AreBehind marks n →
      Decides (ends call (entry_at h n) || leads_from h marks h (entry_at h n)) (BehindPlace h call n)
  mark-Decides marks n l a =
      Decides-like _ (from_marks marks n l a) (to_marks marks n l a)
      (Decides-or _ _ (itself (ends call (entry_at h n)))
      (leads_from-Decides h marks h (entry_at h n)))

  marked_more : (marks : List Bool) (mark : Bool) (n : ℕ) → AreBehind marks n →
      Decides mark (BehindPlace h call n) → AreBehind (marks ++ mark ∷ []) (suc n)
  marked_more marks mark n a d =
      record { sized = grind (arith, common_steps, a.sized); exact = by_place }
    where
      at_old : (j : ℕ) → j < n → get_or (marks ++ mark ∷ []) j false ≡ get_or marks j false
      at_old j l = grind (arith, common_steps, a.sized, l)

      at_new : (j : ℕ) → j ≡ n → get_or (marks ++ mark ∷ []) j false ≡ mark
      at_new j e = grind (arith, common_steps, a.sized, e)

      by_cases : (j : ℕ) → (j < n) ⊎ (n ≤ j) → j < suc n →
          Decides (get_or (marks ++ mark ∷ []) j false) (BehindPlace h call j)
      by_cases j (inl m) l =
          subst (λ b. Decides b (BehindPlace h call j)) (sym (at_old j m)) (a.exact j m)
      by_cases j (inr m) l =
          let same : j ≡ n = omega (arith, l, m) in
          subst (λ b. Decides b (BehindPlace h call j)) (sym (at_new j same))
          (subst (λ i. Decides mark (BehindPlace h call i)) (sym same) d)

      by_place : (j : ℕ) → j < suc n →
          Decides (get_or (marks ++ mark ∷ []) j false) (BehindPlace h call j)
      by_place j l = by_cases j (cases_lt j n) l

  behind_from-all : (rest : List Entry) (marks : List Bool) (n : ℕ) → rest ≡ drop n h →
      AreBehind marks n → AreBehind (behind_from h call marks rest) (n + length rest)
  behind_from-all [] marks n d a = subst (AreBehind marks) (omega arith) a
  behind_from-all (e ∷ rest) marks n d a =
      let at = left_of h n e rest d in
      let mark : Bool = ends call e || leads_from h marks h e in
      let decided : Decides mark (BehindPlace h call n) =
      subst (λ (x : Entry). Decides (ends call x || leads_from h marks h x) (BehindPlace h call n))
      at.1 (mark-Decides marks n at.0 a) in
      subst (AreBehind (behind_from h call (marks ++ mark ∷ []) rest)) (omega arith)
      (behind_from-all rest (marks ++ mark ∷ []) (suc n) at.2 (marked_more marks mark n a decided))

  pub behind-all : AreBehind (behind h call) (length h)
  behind-all =
      subst (AreBehind (behind h call)) (omega arith)
      (behind_from-all h [] 0 refl
      (record { sized = refl; exact = λ j l. absurd (omega (arith, l)) }))
