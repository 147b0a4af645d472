-- The pairs that follow by way of all calls are those of potential causality.
use Rattle.std.proofs.Common.{◌≡◌, ◌∙◌, sym, ap, ℕ, List, [], ◌∷◌, Bool, true, arith, subst, Some, None, Ok, Err, ◌⊎◌, inl, inr}
use Rattle.std.specs.Prelude.{◌&&◌, Option, Result, IfOk, Contains, AllPairs}
use Rattle.std.specs.Bool.{Decides}
use Rattle.std.proofs.lemmas.Bool.{false≢true}
use Rattle.std.proofs.lemmas.Bool.Decides.{Decides-and, Decides-or}
use Rattle.rss_model.specs.declared.op.Shown.{Shown}
use Rattle.rss_model.specs.declared.history.Entry.{Entry}
use Rattle.rss_model.specs.History.{has_ended, reply_of, EndsAt}
use Rattle.rss_model.specs.Causality.{ReadsFrom, Generates, CausallyBefore, at_once, further}
use Rattle.rss_model.proofs.HistoryLemmas.{end_of}
use Rattle.rss_model.proofs.PathLemmas.{closure_within}
use Rattle.plain_model.specs.Found.{found_reply}
use Rattle.plain_model.specs.Listed.{has_call, has_pair, picked}
use Rattle.plain_model.specs.Messages.{generates, names_writer}
use Rattle.plain_model.specs.Causes.{with_all_named, reaches, closed_over, causes, IsBelow, IsCausality}
use Rattle.plain_model.proofs.FoundLemmas.{HasEnded, found_reply-is}
use Rattle.plain_model.proofs.Lists.{head_or_tail_of, has_call-Decides}
use Rattle.plain_model.proofs.Pairs.{Ascends, has_pair-Decides, picked_is, picked_ascends}
use Rattle.plain_model.proofs.Generated.{Names, names_writer-Decides, generates-Decides}
use Rattle.plain_model.proofs.Named.{named-ascends, place-added}

itself : (b : Bool) → Decides b (b ≡ true)
itself b = (λ t. t, λ t. t)

-- causal pairs that meet are one
causal_joined : (h : List Entry) (a m b : ℕ) → CausallyBefore h a m → CausallyBefore h m b →
    CausallyBefore h a b
causal_joined h a m b p (at_once g) = further p g
causal_joined h a m b p (further {b = k} q g) = further (causal_joined h a m k p q) g

module _ (h : List Entry) (calls : List ℕ) where
  abbrev Pairs : Type 0
  Pairs = List (ℕ × ℕ)

  abbrev Has : Pairs → ℕ → ℕ → Type 0
  Has known a b = has_pair known a b ≡ true

  -- all pairs are of these calls, and are causal
  pub record AreSound (known : Pairs) : Type 0 where
    pub first : (a b : ℕ) → Has known a b → has_call calls a ≡ true
    pub second : (a b : ℕ) → Has known a b → has_call calls b ≡ true
    pub causal : (a b : ℕ) → Has known a b → CausallyBefore h a b

  -- what follows by way of this call is known
  abbrev ClosedBy : Pairs → ℕ → Type 0
  ClosedBy known m = (a b : ℕ) → Has known a m → Has known m b → Has known a b

  -- one turn of the closure: what is known, or follows by way of this call
  turn-to : (known : Pairs) (way a b : ℕ) → Has (picked (reaches known way) calls calls) a b →
      (has_call calls a ≡ true) × ((has_call calls b ≡ true) × (reaches known way a b ≡ true))
  turn-to known way a b t =
      (Decides-and (has_call calls a) (has_call calls b && reaches known way a b) (itself _)
      (Decides-and (has_call calls b) (reaches known way a b) (itself _) (itself _))).0
      (sym (picked_is (reaches known way) calls calls a b) ∙ t)

  turn-from : (known : Pairs) (way a b : ℕ) → has_call calls a ≡ true → has_call calls b ≡ true →
      reaches known way a b ≡ true → Has (picked (reaches known way) calls calls) a b
  turn-from known way a b x y t =
      picked_is (reaches known way) calls calls a b ∙
      (Decides-and (has_call calls a) (has_call calls b && reaches known way a b) (itself _)
      (Decides-and (has_call calls b) (reaches known way a b) (itself _) (itself _))).1 (x, (y, t))

  abbrev Reaches : Pairs → ℕ → ℕ → ℕ → Type 0
  Reaches known way a b = Has known a b ⊎ (Has known a way × Has known way b)

  reaches-Decides : (known : Pairs) (way a b : ℕ) →
      Decides (reaches known way a b) (Reaches known way a b)
  reaches-Decides known way a b =
      Decides-or (has_pair known a b) (has_pair known a way && has_pair known way b) (itself _)
      (Decides-and (has_pair known a way) (has_pair known way b) (itself _) (itself _))

  turn-is : (known : Pairs) (way a b : ℕ) → AreSound known →
      Decides (has_pair (picked (reaches known way) calls calls) a b) (Reaches known way a b)
  turn-is known way a b s =
      (λ t. (reaches-Decides known way a b).0 ((turn-to known way a b t).1.1), λ r. from r)
    where
      from : Reaches known way a b → Has (picked (reaches known way) calls calls) a b
      from (inl p) =
          turn-from known way a b (s.first a b p) (s.second a b p)
          ((reaches-Decides known way a b).1 (inl p))
      from (inr (p, q)) =
          turn-from known way a b (s.first a way p) (s.second way b q)
          ((reaches-Decides known way a b).1 (inr (p, q)))

  turn-sound : (known : Pairs) (way : ℕ) → AreSound known →
      AreSound (picked (reaches known way) calls calls)
  turn-sound known way s =
      record {
        first = λ a b t. (turn-to known way a b t).0;
        second = λ a b t. (turn-to known way a b t).1.0;
        causal = λ a b t. by_way a b ((turn-is known way a b s).0 t);
      }
    where
      by_way : (a b : ℕ) → Reaches known way a b → CausallyBefore h a b
      by_way a b (inl p) = s.causal a b p
      by_way a b (inr (p, q)) =
          causal_joined h a way b (s.causal a way p) (s.causal way b q)

  -- it is closed by way of the call now, and stays closed by those before
  turn-closed : (known : Pairs) (way m : ℕ) → AreSound known →
      (way ≡ m) ⊎ ClosedBy known m → ClosedBy (picked (reaches known way) calls calls) m
  turn-closed known way m s (inl e) a b p q =
      (turn-is known way a b s).1
      (subst (λ w. Has known a w × Has known w b → Reaches known way a b) e (λ x. inr x) (
        to (subst (λ w. Reaches known w a m) e ((turn-is known way a m s).0 p)),
        fro (subst (λ w. Reaches known w m b) e ((turn-is known way m b s).0 q)),
      ))
    where
      to : Reaches known m a m → Has known a m
      to (inl x) = x
      to (inr (x, y)) = x

      fro : Reaches known m m b → Has known m b
      fro (inl x) = x
      fro (inr (x, y)) = y
  turn-closed known way m s (inr c) a b p q =
      (turn-is known way a b s).1
      (joined ((turn-is known way a m s).0 p) ((turn-is known way m b s).0 q))
    where
      joined : Reaches known way a m → Reaches known way m b → Reaches known way a b
      joined (inl x) (inl y) = inl (c a b x y)
      joined (inl x) (inr (y, z)) = inr (c a way x y, z)
      joined (inr (x, y)) (inl z) = inr (x, c way b y z)
      joined (inr (x, y)) (inr (z, w)) = inr (x, w)

  -- after all turns: what was known still is, all is sound, and closed by way of each call
  pub record AreClosed (old new : Pairs) (ways : ℕ → Type 0) : Type 0 where
    pub kept : (a b : ℕ) → Has old a b → Has new a b
    pub sound : AreSound new
    pub closed : (m : ℕ) → ways m → ClosedBy new m

  closed-all : (ways : List ℕ) (known : Pairs) (done : ℕ → Type 0) → AreSound known →
      ((m : ℕ) → done m → ClosedBy known m) →
      AreClosed known (closed_over calls known ways) (λ m. Contains ways m ⊎ done m)
  closed-all [] known done s c =
      record { kept = λ a b t. t; sound = s; closed = λ m w. by_part m w }
    where
      by_part : (m : ℕ) → Contains [] m ⊎ done m → ClosedBy known m
      by_part m (inl w) = absurd (omega (arith, w.1))
      by_part m (inr d) = c m d
  closed-all (way ∷ ways) known done s c =
      rest_closed
      (closed-all ways (picked (reaches known way) calls calls) (λ m. (way ≡ m) ⊎ done m)
      (turn-sound known way s) (λ m d. turn-closed known way m s (by_done m d)))
    where
      by_done : (m : ℕ) → (way ≡ m) ⊎ done m → (way ≡ m) ⊎ ClosedBy known m
      by_done m (inl e) = inl e
      by_done m (inr d) = inr (c m d)

      by_part : (m : ℕ) → Contains (way ∷ ways) m ⊎ done m → Contains ways m ⊎ ((way ≡ m) ⊎ done m)
      by_part m (inr d) = inr (inr d)
      by_part m (inl w) = by_head (head_or_tail_of way ways m w)
        where
          by_head : (way ≡ m) ⊎ Contains ways m → Contains ways m ⊎ ((way ≡ m) ⊎ done m)
          by_head (inl e) = inr (inl e)
          by_head (inr v) = inl v

      rest_closed :
          AreClosed (picked (reaches known way) calls calls)
          (closed_over calls (picked (reaches known way) calls calls) ways)
          (λ m. Contains ways m ⊎ ((way ≡ m) ⊎ done m)) →
          AreClosed known (closed_over calls known (way ∷ ways)) (λ m. Contains (way ∷ ways) m ⊎ done m)
      rest_closed r =
          record {
            kept = λ a b t. r.kept a b ((turn-is known way a b s).1 (inl t));
            sound = r.sound;
            closed = λ m w. r.closed m (by_part m w);
          }

-- the calls that a history names
abbrev pub named : List Entry → List ℕ
named h = with_all_named [] h

ends_named : (h : List Entry) (a i : ℕ) → EndsAt h a i → has_call (named h) a ≡ true
ends_named h a i t = place-added h [] a i (inr (inl t))

reader_ended : (h : List Entry) (a b : ℕ) → ReadsFrom h b a → has_ended h b ≡ true
reader_ended h a b r = by_found (found_reply h b) (found_reply-is h b)
  where
    by_found : (o : Option (List Shown)) → HasEnded h b o → has_ended h b ≡ true
    by_found None g =
        absurd (false≢true ((names_writer-Decides [] a).1 (subst (λ (x : List Shown). Names x a) g.1 r)))
    by_found (Some reply) g = g.0

-- both calls of a generating pair are named
generated_first : (h : List Entry) (a b : ℕ) → Generates h a b → has_call (named h) a ≡ true
generated_first h a b (inl (i, j, x, y, p)) = ends_named h a i x
generated_first h a b (inr r) =
    let end = end_of h b (reader_ended h a b r) in
    place-added h [] a end.place
    (inr (inr (subst (λ (x : List Shown). names_writer x a ≡ true) end.reply
    ((names_writer-Decides (reply_of h b) a).1 r))))

generated_second : (h : List Entry) (a b : ℕ) → Generates h a b → has_call (named h) b ≡ true
generated_second h a b (inl (i, j, x, y, p)) = place-added h [] b j (inl y)
generated_second h a b (inr r) =
    let end = end_of h b (reader_ended h a b r) in
    ends_named h b end.place end.ends

-- the generating pairs of the named calls
abbrev generated : List Entry → List (ℕ × ℕ)
generated h = picked (generates h) (named h) (named h)

generated-Decides : (h : List Entry) (a b : ℕ) →
    Decides (has_call (named h) a && (has_call (named h) b && generates h a b))
    ((has_call (named h) a ≡ true) × ((has_call (named h) b ≡ true) × Generates h a b))
generated-Decides h a b =
    Decides-and (has_call (named h) a) (has_call (named h) b && generates h a b) (itself _)
    (Decides-and (has_call (named h) b) (generates h a b) (itself _) (generates-Decides h a b))

generated-sound : (h : List Entry) → AreSound h (named h) (generated h)
generated-sound h =
    record {
      first = λ a b t. (at a b t).0;
      second = λ a b t. (at a b t).1.0;
      causal = λ a b t. at_once ((at a b t).1.1);
    }
  where
    at : (a b : ℕ) → has_pair (generated h) a b ≡ true →
        (has_call (named h) a ≡ true) × ((has_call (named h) b ≡ true) × Generates h a b)
    at a b t =
        (generated-Decides h a b).0 (sym (picked_is (generates h) (named h) (named h) a b) ∙ t)

all_closed : (h : List Entry) →
    AreClosed h (named h) (generated h) (causes h (named h)) (λ m. Contains (named h) m ⊎ ⊥)
all_closed h =
    closed-all h (named h) (named h) (generated h) (λ m. ⊥) (generated-sound h) (λ m d. absurd d)

generated-known : (h : List Entry) (a b : ℕ) → Generates h a b →
    has_pair (causes h (named h)) a b ≡ true
generated-known h a b g =
    (all_closed h).kept a b
    (picked_is (generates h) (named h) (named h) a b ∙
    (generated-Decides h a b).1 (generated_first h a b g, (generated_second h a b g, g)))

causal-known : (h : List Entry) (a b : ℕ) → CausallyBefore h a b →
    has_pair (causes h (named h)) a b ≡ true
causal-known h a b =
    closure_within h (λ x y. has_pair (causes h (named h)) x y ≡ true) (generated-known h)
    (λ x m y p g.
    (all_closed h).closed m (inl ((has_call-Decides (named h) m).0 (generated_first h m y g))) x y p
    (generated-known h m y g)) a b

closed-ascends : (calls ways : List ℕ) (known : List (ℕ × ℕ)) → Ascends calls →
    AllPairs IsBelow known → AllPairs IsBelow (closed_over calls known ways)
closed-ascends calls [] known up on = on
closed-ascends calls (way ∷ ways) known up on =
    closed-ascends calls ways (picked (reaches known way) calls calls) up
    (picked_ascends (reaches known way) calls calls up up)

-- what the closure gives are the pairs of potential causality, each once, ascending
pub causality : (h : List Entry) → IsCausality h (causes h (named h))
causality h =
    let up : Ascends (named h) = named-ascends h [] (λ i j d l m. absurd (omega (arith, m))) in
    record {
      ascending =
          closed-ascends (named h) (named h) (generated h) up
          (picked_ascends (generates h) (named h) (named h) up up);
      exact = λ a b. (
        λ w. (all_closed h).sound.causal a b ((has_pair-Decides (causes h (named h)) a b).1 w),
        λ c. (has_pair-Decides (causes h (named h)) a b).0 (causal-known h a b c),
      );
    }

-- where all pairs are given, they are the pairs of potential causality
pub given_all : {V E : Type 0} (items : V → List (ℕ × ℕ)) (h k : List Entry) (result : Result V E) →
    k ≡ h → IfOk result (λ v. items v ≡ causes k (named k)) →
    IfOk result (λ v. IsCausality h (items v))
given_all items h k (Ok v) e p =
    subst (IsCausality h) (sym (p ∙ ap (λ x. causes x (named x)) e)) (causality h)
given_all items h k (Err x) e p = tt
