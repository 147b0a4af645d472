-- What the test of a generating pair decides.
use Rattle.std.proofs.Common.{◌≡◌, ◌∙◌, sym, ap, ℕ, zero, suc, ◌<◌, List, [], ◌∷◌, length, get_or, Bool, true, false, refl, arith, subst, Some, None, ◌⊎◌, inl, inr}
use Rattle.std.specs.Prelude.{Option, Any}
use Rattle.std.specs.Bool.{Decides}
use Rattle.std.proofs.lemmas.Bool.{false≢true}
use Rattle.std.proofs.lemmas.Bool.Decides.{Decides-and, Decides-or, Decides-like, nat_tests}
use Rattle.rss_model.specs.declared.op.Shown.{Shown}
use Rattle.rss_model.specs.declared.history.Entry.{Entry}
use Rattle.rss_model.specs.History.{begins, BeginsAt}
use Rattle.rss_model.specs.Causality.{BeforeByMessages, ReadsFrom, Generates}
use Rattle.rss_model.specs.Behind.{BehindPlace}
use Rattle.rss_model.proofs.HistoryLemmas.{begins_at_inside}
use Rattle.plain_model.specs.Found.{found_reply}
use Rattle.plain_model.specs.Messages.{behind, begins_marked, is_writer, names_writer, names_in, generates}
use Rattle.plain_model.proofs.FoundLemmas.{HasEnded, found_reply-is}
use Rattle.plain_model.proofs.Behinds.{behind-all}

itself : (b : Bool) → Decides b (b ≡ true)
itself b = (λ t. t, λ t. t)

-- a call begins at a marked place
abbrev BeginsMarked : List Bool → List Entry → ℕ → Type 0
BeginsMarked marks h call =
    (j : ℕ) × (j < length marks) × (j < length h) × (get_or marks j false ≡ true) × BeginsAt h call j

begins_cons : (mark : Bool) (marks : List Bool) (e : Entry) (h : List Entry) (call : ℕ) →
    ((mark ≡ true) × (begins call e ≡ true)) ⊎ BeginsMarked marks h call →
    BeginsMarked (mark ∷ marks) (e ∷ h) call
begins_cons mark marks e h call (inl (x, y)) = (0, omega arith, omega arith, x, y)
begins_cons mark marks e h call (inr (n, l, m, x, y)) =
    (suc n, omega (arith, l), omega (arith, m), x, y)

begins_uncons : (mark : Bool) (marks : List Bool) (e : Entry) (h : List Entry) (call : ℕ) →
    BeginsMarked (mark ∷ marks) (e ∷ h) call →
    ((mark ≡ true) × (begins call e ≡ true)) ⊎ BeginsMarked marks h call
begins_uncons mark marks e h call (zero, l, m, x, y) = inl (x, y)
begins_uncons mark marks e h call (suc n, l, m, x, y) =
    inr (n, omega (arith, l), omega (arith, m), x, y)

begins_marked-Decides : (marks : List Bool) (h : List Entry) (call : ℕ) →
    Decides (begins_marked marks h call) (BeginsMarked marks h call)
begins_marked-Decides [] h call = (λ t. absurd (false≢true t), λ w. absurd (omega (arith, w.1)))
begins_marked-Decides (mark ∷ marks) [] call =
    (λ t. absurd (false≢true t), λ w. absurd (omega (arith, w.2)))
begins_marked-Decides (mark ∷ marks) (e ∷ h) call =
    Decides-like _ (begins_cons mark marks e h call) (begins_uncons mark marks e h call)
    (Decides-or _ _ (Decides-and _ _ (itself mark) (itself (begins call e)))
    (begins_marked-Decides marks h call))

messages_to : (h : List Entry) (a b : ℕ) → BeginsMarked (behind h a) h b → BeforeByMessages h a b
messages_to h a b (j, l, m, x, y) =
    let end : BehindPlace h a j = ((behind-all h a).exact j m).0 x in
    (end.0, j, end.1, y, end.2)

messages_from : (h : List Entry) (a b : ℕ) → BeforeByMessages h a b → BeginsMarked (behind h a) h b
messages_from h a b (i, j, x, y, p) =
    let inside : j < length h = begins_at_inside h b j y in (
      j,
      omega (arith, inside, (behind-all h a).sized),
      inside,
      ((behind-all h a).exact j inside).1 (i, x, p),
      y,
    )

-- a reply names a call, which is one, as a writer
abbrev pub Names : List Shown → ℕ → Type 0
Names reply a = (0 < a) × Any (λ (shown : Shown). shown.writer ≡ a) reply

is_writer-Decides : (writer a : ℕ) → Decides (is_writer writer a) ((0 < a) × (writer ≡ a))
is_writer-Decides writer a = (λ t. grind (arith, nat_tests, t), λ p. grind (arith, nat_tests, p))

names_cons : (shown : Shown) (reply : List Shown) (a : ℕ) →
    ((0 < a) × (shown.writer ≡ a)) ⊎ Names reply a → Names (shown ∷ reply) a
names_cons shown reply a (inl (x, y)) = (x, (0, shown, omega arith, refl, y))
names_cons shown reply a (inr (x, (k, s, l, e, w))) = (x, (suc k, s, omega (arith, l), e, w))

names_uncons : (shown : Shown) (reply : List Shown) (a : ℕ) →
    Names (shown ∷ reply) a → ((0 < a) × (shown.writer ≡ a)) ⊎ Names reply a
names_uncons shown reply a (x, (zero, s, l, e, w)) =
    inl (x, ap (λ (t : Shown). t.writer) e ∙ w)
names_uncons shown reply a (x, (suc k, s, l, e, w)) = inr (x, (k, s, omega (arith, l), e, w))

pub names_writer-Decides : (reply : List Shown) (a : ℕ) → Decides (names_writer reply a) (Names reply a)
names_writer-Decides [] a =
    (λ t. absurd (false≢true t), λ w. absurd (none w.1))
  where
    none : Any (λ (shown : Shown). shown.writer ≡ a) [] → ⊥
    none (k, s, l, e, w) = omega (arith, l)
names_writer-Decides (shown ∷ reply) a =
    Decides-like _ (names_cons shown reply a) (names_uncons shown reply a)
    (Decides-or _ _ (is_writer-Decides shown.writer a) (names_writer-Decides reply a))

reads_from-Decides : (h : List Entry) (a b : ℕ) →
    Decides (names_in (found_reply h b) a) (ReadsFrom h b a)
reads_from-Decides h a b = by_found (found_reply h b) (found_reply-is h b)
  where
    by_found : (r : Option (List Shown)) → HasEnded h b r → Decides (names_in r a) (ReadsFrom h b a)
    by_found None g =
        subst (λ (reply : List Shown). Decides false (Names reply a)) (sym g.1)
        (names_writer-Decides [] a)
    by_found (Some reply) g =
        subst (λ (x : List Shown). Decides (names_writer reply a) (Names x a)) (sym g.1)
        (names_writer-Decides reply a)

pub generates-Decides : (h : List Entry) (a b : ℕ) → Decides (generates h a b) (Generates h a b)
generates-Decides h a b =
    Decides-or _ _
    (Decides-like _ (messages_to h a b) (messages_from h a b)
    (begins_marked-Decides (behind h a) h b))
    (reads_from-Decides h a b)
