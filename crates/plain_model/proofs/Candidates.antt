-- What the test of a candidate decides.
use Rattle.std.proofs.Common.{◌≡◌, ℕ, zero, suc, List, [], ◌∷◌, Bool, true, refl, arith, subst, ◌⊎◌, inl, inr}
use Rattle.std.specs.Prelude.{Contains, IsTrue}
use Rattle.std.specs.Bool.{Decides}
use Rattle.std.proofs.lemmas.Bool.{false≢true}
use Rattle.std.proofs.lemmas.Bool.Decides.{Decides-eqb, Decides-and, Decides-or, Decides-like}
use Rattle.rss_model.specs.declared.history.Entry.{Entry}
use Rattle.rss_model.specs.declared.history.Entry.TheVariants.{Begin, End, Give, Get, Over}
use Rattle.rss_model.specs.History.{ends, has_ended}
use Rattle.rss_model.specs.Mutation.{is_mutation}
use Rattle.rss_model.specs.Candidate.{StandsAt, IsCandidate}
use Rattle.plain_model.specs.Orders.{end_within, ended_within, placeable, is_candidate}
use Rattle.plain_model.proofs.Lists.{has_call-Decides, distinct_to, distinct_from}

-- an entry's End is among the calls
abbrev EndIn : List ℕ → Entry → Type 0
EndIn c e = (call : ℕ) → ends call e ≡ true → Contains c call

end_within-Decides : (c : List ℕ) (e : Entry) → Decides (end_within c e) (EndIn c e)
end_within-Decides c (Begin call stage op) = (λ t x m. absurd (false≢true m), λ f. refl)
end_within-Decides c (End call reply) =
    let within = has_call-Decides c call in
    let same = λ (x : ℕ). Decides-eqb call x in (
      λ t x m. subst (Contains c) ((same x).0 m) (within.0 t),
      λ f. within.1 (f call ((same call).1 refl)),
    )
end_within-Decides c (Give stage token) = (λ t x m. absurd (false≢true m), λ f. refl)
end_within-Decides c (Get stage token) = (λ t x m. absurd (false≢true m), λ f. refl)
end_within-Decides c (Over stage how) = (λ t x m. absurd (false≢true m), λ f. refl)

-- all ended calls are among the calls
abbrev EndedIn : List ℕ → List Entry → Type 0
EndedIn c h = (call : ℕ) → IsTrue (has_ended h call) → Contains c call

itself : (b : Bool) → Decides b (b ≡ true)
itself b = (λ t. t, λ t. t)

ended_cons : (c : List ℕ) (e : Entry) (h : List Entry) → EndIn c e × EndedIn c h → EndedIn c (e ∷ h)
unfolding has_ended
ended_cons c e h p call t =
    by_part ((Decides-or (ends call e) (has_ended h call) (itself _) (itself _)).0 t)
  where
    by_part : (ends call e ≡ true) ⊎ (has_ended h call ≡ true) → Contains c call
    by_part (inl m) = p.0 call m
    by_part (inr m) = p.1 call m

ended_uncons : (c : List ℕ) (e : Entry) (h : List Entry) → EndedIn c (e ∷ h) → EndIn c e × EndedIn c h
unfolding has_ended
ended_uncons c e h f = (
  λ call m. f call ((Decides-or (ends call e) (has_ended h call) (itself _) (itself _)).1 (inl m)),
  λ call m. f call ((Decides-or (ends call e) (has_ended h call) (itself _) (itself _)).1 (inr m)),
)

pub ended_within-Decides : (c : List ℕ) (h : List Entry) → Decides (ended_within c h) (EndedIn c h)
unfolding has_ended
ended_within-Decides c [] = (λ t call m. absurd (false≢true m), λ f. refl)
ended_within-Decides c (e ∷ h) =
    Decides-like _ (ended_cons c e h) (ended_uncons c e h)
    (Decides-and _ _ (end_within-Decides c e) (ended_within-Decides c h))

-- a call has ended or is a mutation
abbrev MayStand : List Entry → ℕ → Type 0
MayStand h call = IsTrue (has_ended h call) ⊎ IsTrue (is_mutation h call)

abbrev AllMayStand : List Entry → List ℕ → Type 0
AllMayStand h c = (call i : ℕ) → StandsAt c call i → MayStand h call

stand_cons : (h : List Entry) (x : ℕ) (c : List ℕ) → MayStand h x × AllMayStand h c →
    AllMayStand h (x ∷ c)
stand_cons h x c p call zero s = subst (MayStand h) (cc) p.0
stand_cons h x c p call (suc i) s = p.1 call i s

stand_uncons : (h : List Entry) (x : ℕ) (c : List ℕ) → AllMayStand h (x ∷ c) →
    MayStand h x × AllMayStand h c
stand_uncons h x c f = (f x 0 refl, λ call i s. f call (suc i) s)

pub placeable-Decides : (h : List Entry) (c : List ℕ) → Decides (placeable h c) (AllMayStand h c)
placeable-Decides h [] = (λ t call i s. absurd (cc), λ f. refl)
placeable-Decides h (x ∷ c) =
    Decides-like _ (stand_cons h x c) (stand_uncons h x c)
    (Decides-and _ _ (Decides-or _ _ (itself (has_ended h x)) (itself (is_mutation h x)))
    (placeable-Decides h c))

pub candidate-Decides : (h : List Entry) (c : List ℕ) →
    Decides (is_candidate h c) (IsCandidate h c)
candidate-Decides h c =
    Decides-like _
    (λ p. record {
      distinct = distinct_to [] c (λ i j d l m. absurd (omega (arith, m))) p.0.0;
      ended = p.0.1;
      besides = p.1;
    })
    (λ k. ((distinct_from [] c k.distinct, k.ended), k.besides))
    (Decides-and _ _ (Decides-and _ _ (itself _) (ended_within-Decides c h)) (placeable-Decides h c))
