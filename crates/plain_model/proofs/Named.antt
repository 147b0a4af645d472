-- The calls that a history names, in ascending order, each once.
use Rattle.std.proofs.Common.{◌≡◌, ◌∙◌, sym, ap, ℕ, zero, suc, ◌<◌, List, [], ◌∷◌, Bool, true, false, refl, arith, subst, ◌⊎◌, inl, inr}
use Rattle.std.specs.Prelude.{◌||◌, ◌==◌, nat_lt, nat_le, Contains, if◌then◌else◌}
use Rattle.std.proofs.lemmas.Bool.{false≢true}
use Rattle.std.proofs.lemmas.Bool.Decides.{Decides-eqb, Decides-ltb, Decides-and, Decides-or, nat_tests}
use Rattle.rss_model.specs.declared.op.Shown.{Shown}
use Rattle.rss_model.specs.declared.history.Entry.{Entry}
use Rattle.rss_model.specs.declared.history.Entry.TheVariants.{Begin, End, Give, Get, Over}
use Rattle.rss_model.specs.History.{entry_at, begins, ends, reply_in}
use Rattle.plain_model.specs.Listed.{has_call, with_call}
use Rattle.plain_model.specs.Messages.{is_writer, names_writer}
use Rattle.plain_model.specs.Causes.{with_writers, with_named, with_all_named}
use Rattle.plain_model.proofs.Lists.{head_or_tail_of, has_call-Decides}
use Rattle.plain_model.proofs.Pairs.{Above, Ascends, all_pairs_cons, all_pairs_head, all_pairs_tail}

-- one more call is added, and no other
with_call-is : (calls : List ℕ) (call x : ℕ) →
    has_call (with_call calls call) x ≡ ((call == x) || has_call calls x)
with_call-is [] call x = refl
with_call-is (c ∷ calls) call x =
    by_order (nat_lt call c) (c == call) refl refl (with_call-is calls call x)
  where
    by_order : (b e : Bool) → nat_lt call c ≡ b → (c == call) ≡ e →
        has_call (with_call calls call) x ≡ ((call == x) || has_call calls x) →
        has_call (with_call (c ∷ calls) call) x ≡ ((call == x) || has_call (c ∷ calls) x)
    by_order true e p q h = grind (arith, p)
    by_order false true p q h =
        let same : c ≡ call = (Decides-eqb c call).0 q in
        let alike : (c == x) ≡ (call == x) = ap (λ y. y == x) same in
        grind (arith, p, q, alike)
    by_order false false p q h = grind (arith, p, q, h)

pub kept : (calls : List ℕ) (call x : ℕ) → has_call calls x ≡ true →
    has_call (with_call calls call) x ≡ true
kept calls call x t = grind (arith, with_call-is calls call x, t)

added : (calls : List ℕ) (call : ℕ) → has_call (with_call calls call) call ≡ true
added calls call =
    let itself : (call == call) ≡ true = (Decides-eqb call call).1 refl in
    grind (arith, with_call-is calls call call, itself)

added_or_old : (calls : List ℕ) (call x : ℕ) → Contains (with_call calls call) x →
    (call ≡ x) ⊎ Contains calls x
added_or_old calls call x w =
    by_test (call == x) (has_call calls x) refl refl
    (sym (with_call-is calls call x) ∙ (has_call-Decides (with_call calls call) x).1 w)
  where
    by_test : (e h : Bool) → (call == x) ≡ e → has_call calls x ≡ h →
        ((call == x) || has_call calls x) ≡ true → (call ≡ x) ⊎ Contains calls x
    by_test true h p q t = inl ((Decides-eqb call x).0 p)
    by_test false true p q t = inr ((has_call-Decides calls x).0 q)
    by_test false false p q t = absurd (grind (arith, p, q, t))

-- an ascending list stays so
pub with_call-ascends : (calls : List ℕ) (call : ℕ) → Ascends calls → Ascends (with_call calls call)
with_call-ascends [] call up =
    all_pairs_cons (λ a b. a < b) call [] (λ y w. absurd (omega (arith, w.1)))
    (λ i j d l m. absurd (omega (arith, m)))
with_call-ascends (c ∷ calls) call up =
    by_order (nat_lt call c) (c == call) refl refl
    (with_call-ascends calls call (all_pairs_tail (λ a b. a < b) c calls up))
  where
    head : Above (λ a b. a < b) c calls
    head = all_pairs_head (λ a b. a < b) c calls up

    below_all : call < c → Above (λ a b. a < b) call (c ∷ calls)
    below_all l y w = by_part (head_or_tail_of c calls y w)
      where
        by_part : (c ≡ y) ⊎ Contains calls y → call < y
        by_part (inl e) = omega (arith, l, e)
        by_part (inr v) = omega (arith, l, head y v)

    above_head : c < call → Above (λ a b. a < b) c (with_call calls call)
    above_head l y w = by_part (added_or_old calls call y w)
      where
        by_part : (call ≡ y) ⊎ Contains calls y → c < y
        by_part (inl e) = omega (arith, l, e)
        by_part (inr v) = head y v

    by_order : (b e : Bool) → nat_lt call c ≡ b → (c == call) ≡ e → Ascends (with_call calls call) →
        Ascends (with_call (c ∷ calls) call)
    by_order true e p q rest =
        let l : call < c = (Decides-ltb call c).0 p in
        rw p (all_pairs_cons (λ a b. a < b) call (c ∷ calls) (below_all l) up)
    by_order false true p q rest = rw (p, q) up
    by_order false false p q rest =
        let l : c < call = grind (arith, nat_tests, p, q) in
        rw (p, q)
        (all_pairs_cons (λ a b. a < b) c (with_call calls call) (above_head l) rest)

-- the calls with a writer added, unless it is 0
abbrev with_writer : List ℕ → ℕ → List ℕ
with_writer calls writer = if nat_le 1 writer then with_call calls writer else calls

either : (b : Bool) (P : List ℕ → Type 0) (xs ys : List ℕ) → P xs → P ys → P (if b then xs else ys)
either true P xs ys p q = p
either false P xs ys p q = q

with_writers-ascends : (reply : List Shown) (calls : List ℕ) → Ascends calls →
    Ascends (with_writers calls reply)
with_writers-ascends [] calls up = up
with_writers-ascends (shown ∷ reply) calls up =
    with_writers-ascends reply (with_writer calls shown.writer)
    (either (nat_le 1 shown.writer) Ascends (with_call calls shown.writer) calls
    (with_call-ascends calls shown.writer up) up)

with_named-ascends : (e : Entry) (calls : List ℕ) → Ascends calls → Ascends (with_named calls e)
with_named-ascends (Begin call stage op) calls up = with_call-ascends calls call up
with_named-ascends (End call reply) calls up =
    with_writers-ascends reply (with_call calls call) (with_call-ascends calls call up)
with_named-ascends (Give stage token) calls up = up
with_named-ascends (Get stage token) calls up = up
with_named-ascends (Over stage how) calls up = up

pub named-ascends : (h : List Entry) (calls : List ℕ) → Ascends calls → Ascends (with_all_named calls h)
named-ascends [] calls up = up
named-ascends (e ∷ h) calls up = named-ascends h (with_named calls e) (with_named-ascends e calls up)

writers-kept : (reply : List Shown) (calls : List ℕ) (x : ℕ) → has_call calls x ≡ true →
    has_call (with_writers calls reply) x ≡ true
writers-kept [] calls x t = t
writers-kept (shown ∷ reply) calls x t =
    writers-kept reply (with_writer calls shown.writer) x
    (either (nat_le 1 shown.writer) (λ cs. has_call cs x ≡ true) (with_call calls shown.writer) calls
    (kept calls shown.writer x t) t)

named-kept : (e : Entry) (calls : List ℕ) (x : ℕ) → has_call calls x ≡ true →
    has_call (with_named calls e) x ≡ true
named-kept (Begin call stage op) calls x t = kept calls call x t
named-kept (End call reply) calls x t = writers-kept reply (with_call calls call) x (kept calls call x t)
named-kept (Give stage token) calls x t = t
named-kept (Get stage token) calls x t = t
named-kept (Over stage how) calls x t = t

all-kept : (h : List Entry) (calls : List ℕ) (x : ℕ) → has_call calls x ≡ true →
    has_call (with_all_named calls h) x ≡ true
all-kept [] calls x t = t
all-kept (e ∷ h) calls x t = all-kept h (with_named calls e) x (named-kept e calls x t)

writer-added : (calls : List ℕ) (writer x : ℕ) → is_writer writer x ≡ true →
    has_call (with_writer calls writer) x ≡ true
writer-added calls writer x t =
    let parts =
    (Decides-and (nat_le 1 writer) (writer == x) (λ t. t, λ t. t) (Decides-eqb writer x)).0 t in
    subst (λ y. has_call (with_writer calls writer) y ≡ true) parts.1
    (rw parts.0 (added calls writer))

writers-added : (reply : List Shown) (calls : List ℕ) (x : ℕ) → names_writer reply x ≡ true →
    has_call (with_writers calls reply) x ≡ true
writers-added [] calls x t = absurd (false≢true t)
writers-added (shown ∷ reply) calls x t =
    by_part ((Decides-or (is_writer shown.writer x) (names_writer reply x) (λ t. t, λ t. t) (λ t. t, λ t. t)).0 t)
    (writers-added reply (with_writer calls shown.writer) x)
  where
    by_part : (is_writer shown.writer x ≡ true) ⊎ (names_writer reply x ≡ true) →
        (names_writer reply x ≡ true → has_call (with_writers (with_writer calls shown.writer) reply) x ≡ true) →
        has_call (with_writers calls (shown ∷ reply)) x ≡ true
    by_part (inl m) rest =
        writers-kept reply (with_writer calls shown.writer) x (writer-added calls shown.writer x m)
    by_part (inr m) rest = rest m

-- an entry names a call: it begins or ends it, or its reply names it as a writer
abbrev pub Named : Entry → ℕ → Type 0
Named e x = (begins x e ≡ true) ⊎ ((ends x e ≡ true) ⊎ (names_writer (reply_in e) x ≡ true))

entry-added : (e : Entry) (calls : List ℕ) (x : ℕ) → Named e x →
    has_call (with_named calls e) x ≡ true
entry-added (Begin call stage op) calls x (inl t) =
    subst (λ y. has_call (with_call calls call) y ≡ true) ((Decides-eqb call x).0 t) (added calls call)
entry-added (Begin call stage op) calls x (inr (inl t)) = absurd (false≢true t)
entry-added (Begin call stage op) calls x (inr (inr t)) = absurd (false≢true t)
entry-added (End call reply) calls x (inl t) = absurd (false≢true t)
entry-added (End call reply) calls x (inr (inl t)) =
    writers-kept reply (with_call calls call) x
    (subst (λ y. has_call (with_call calls call) y ≡ true) ((Decides-eqb call x).0 t) (added calls call))
entry-added (End call reply) calls x (inr (inr t)) = writers-added reply (with_call calls call) x t
entry-added (Give stage token) calls x (inl t) = absurd (false≢true t)
entry-added (Give stage token) calls x (inr (inl t)) = absurd (false≢true t)
entry-added (Give stage token) calls x (inr (inr t)) = absurd (false≢true t)
entry-added (Get stage token) calls x (inl t) = absurd (false≢true t)
entry-added (Get stage token) calls x (inr (inl t)) = absurd (false≢true t)
entry-added (Get stage token) calls x (inr (inr t)) = absurd (false≢true t)
entry-added (Over stage how) calls x (inl t) = absurd (false≢true t)
entry-added (Over stage how) calls x (inr (inl t)) = absurd (false≢true t)
entry-added (Over stage how) calls x (inr (inr t)) = absurd (false≢true t)

nowhere : (x : ℕ) → ¬ Named (entry_at [] 0) x
nowhere x (inl t) = false≢true t
nowhere x (inr (inl t)) = false≢true t
nowhere x (inr (inr t)) = false≢true t

-- what some entry names is among the calls named
pub place-added : (h : List Entry) (calls : List ℕ) (x i : ℕ) → Named (entry_at h i) x →
    has_call (with_all_named calls h) x ≡ true
place-added [] calls x i n = absurd (nowhere x n)
place-added (e ∷ h) calls x zero n = all-kept h (with_named calls e) x (entry-added e calls x n)
place-added (e ∷ h) calls x (suc i) n = place-added h (with_named calls e) x i n
