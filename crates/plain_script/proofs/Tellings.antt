-- What was told is told by some walk of the giver, and all of that was told.
use Rattle.std.proofs.Common.{◌≡◌, ◌∙◌, sym, ap, ℕ, List, [], ◌∷◌, ◌++◌, Bool, true, false, refl, subst, Some, None, ◌⊎◌, inl, inr}
use Rattle.std.specs.Prelude.{Option, Contains, ◌==◌, ◌&&◌, if◌then◌else◌}
use Rattle.std.specs.Bool.{Decides}
use Rattle.std.proofs.lemmas.Bool.{false≢true}
use Rattle.std.proofs.lemmas.Bool.Decides.{Decides-eqb, Decides-and, Decides-or}
use Rattle.std.proofs.lemmas.List.Elements.{Contains-append_left, Contains-push, Contains-push_cases}
use Rattle.pipeline_lang.specs.declared.config.Config.{Config}
use Rattle.rss_model.specs.Walk.{Walk}
use Rattle.script_laws.specs.Paths.{tells}
use Rattle.plain_script.specs.declared.told.Told.{Told}
use Rattle.plain_script.specs.Standing.{same_value, same_told, is_listed, with_one, with_telling, with_tellings}
use Rattle.plain_script.proofs.Members.{at_head, in_tail, cons_cases, nil_none}

same_value-to : (a b : Option ℕ) → same_value a b ≡ true → a ≡ b
same_value-to None None t = refl
same_value-to None (Some b) t = absurd (false≢true t)
same_value-to (Some a) None t = absurd (false≢true t)
same_value-to (Some a) (Some b) t = ap (λ x. Some x) ((Decides-eqb a b).0 t)

itself : (b : Bool) → Decides b (b ≡ true)
itself b = (λ t. t, λ t. t)

same_told-to : (a b : Told) → same_told a b ≡ true → a ≡ b
same_told-to a b t =
    let parts =
    (Decides-and (a.pipe == b.pipe && a.number == b.number) (same_value a.value b.value)
    (Decides-and (a.pipe == b.pipe) (a.number == b.number) (Decides-eqb a.pipe b.pipe) (Decides-eqb a.number b.number))
    (itself (same_value a.value b.value))).0 t in
    let pipe : a.pipe ≡ b.pipe = parts.0.0 in
    let number : a.number ≡ b.number = parts.0.1 in
    let value : a.value ≡ b.value = same_value-to a.value b.value parts.1 in
    λ i. record { pipe = pipe i; number = number i; value = value i }

listed-to : (told : List Told) (t : Told) → is_listed told t ≡ true → Contains told t
listed-to [] t b = absurd (false≢true b)
listed-to (one ∷ told) t b =
    by_part ((Decides-or (same_told one t) (is_listed told t) (itself (same_told one t)) (itself (is_listed told t))).0 b)
    (listed-to told t)
  where
    by_part : (same_told one t ≡ true) ⊎ (is_listed told t ≡ true) →
        (is_listed told t ≡ true → Contains told t) → Contains (one ∷ told) t
    by_part (inl e) rest =
        subst (λ x. Contains (one ∷ told) x) (same_told-to one t e) (at_head one told)
    by_part (inr e) rest = in_tail one t told (rest e)

-- one more was told
pub one_to : (told : List Told) (t u : Told) → Contains (with_one told t) u → Contains told u ⊎ (t ≡ u)
unfolding with_one
one_to told t u c = by_test (is_listed told t) c
  where
    by_test : (b : Bool) → Contains (if b then told else told ++ t ∷ []) u → Contains told u ⊎ (t ≡ u)
    by_test true d = inl d
    by_test false d = Contains-push_cases told t u d

pub one_more : (told : List Told) (t u : Told) → Contains told u → Contains (with_one told t) u
unfolding with_one
one_more told t u c = by_test (is_listed told t)
  where
    by_test : (b : Bool) → Contains (if b then told else told ++ t ∷ []) u
    by_test true = c
    by_test false = Contains-append_left told (t ∷ []) u c

pub one_there : (told : List Told) (t : Told) → Contains (with_one told t) t
unfolding with_one
one_there told t = by_test (is_listed told t) refl
  where
    by_test : (b : Bool) → is_listed told t ≡ b → Contains (if b then told else told ++ t ∷ []) t
    by_test true e = listed-to told t e
    by_test false e = Contains-push told t

telling_more : (told : List Told) (pipe number : ℕ) (o : Option (Option ℕ)) (u : Told) → Contains told u →
    Contains (with_telling told pipe number o) u
telling_more told pipe number None u c = c
telling_more told pipe number (Some value) u c =
    one_more told (record { pipe = pipe; number = number; value = value }) u c

module _ (config : Config) (giver pipe number : ℕ) where
  -- one of these walks tells this
  abbrev pub IsTelling : List Walk → Told → Type 0
  IsTelling ws t =
      (w : Walk) × Contains ws w × (t.pipe ≡ pipe) × (t.number ≡ number) ×
      (tells config giver w pipe number ≡ Some t.value)

  telling_to : (told : List Told) (w : Walk) (u : Told) (o : Option (Option ℕ)) →
      tells config giver w pipe number ≡ o → Contains (with_telling told pipe number o) u →
      Contains told u ⊎ ((u.pipe ≡ pipe) × (u.number ≡ number) × (tells config giver w pipe number ≡ Some u.value))
  telling_to told w u None e c = inl c
  telling_to told w u (Some value) e c =
      by_part (one_to told (record { pipe = pipe; number = number; value = value }) u c)
    where
      by_part : Contains told u ⊎ (record { pipe = pipe; number = number; value = value } ≡ u) →
          Contains told u ⊎ ((u.pipe ≡ pipe) × (u.number ≡ number) × (tells config giver w pipe number ≡ Some u.value))
      by_part (inl d) = inl d
      by_part (inr f) =
          inr (
            ap (λ (x : Told). x.pipe) (sym f),
            ap (λ (x : Told). x.number) (sym f),
            e ∙ ap (λ (x : Told). Some x.value) f,
          )

  pub tellings_more : (told : List Told) (ws : List Walk) (u : Told) → Contains told u →
      Contains (with_tellings config giver pipe number told ws) u
  unfolding with_tellings
  tellings_more told [] u c = c
  tellings_more told (w ∷ ws) u c =
      tellings_more (with_telling told pipe number (tells config giver w pipe number)) ws u
      (telling_more told pipe number (tells config giver w pipe number) u c)

  pub tellings_to : (told : List Told) (ws : List Walk) (u : Told) →
      Contains (with_tellings config giver pipe number told ws) u → Contains told u ⊎ IsTelling ws u
  unfolding with_tellings
  tellings_to told [] u c = inl c
  tellings_to told (w ∷ ws) u c =
      by_rest (tellings_to (with_telling told pipe number (tells config giver w pipe number)) ws u c)
    where
      here : Contains told u ⊎ ((u.pipe ≡ pipe) × (u.number ≡ number) × (tells config giver w pipe number ≡ Some u.value)) →
          Contains told u ⊎ IsTelling (w ∷ ws) u
      here (inl d) = inl d
      here (inr p) = inr (w, at_head w ws, p.0, p.1, p.2)

      by_rest : Contains (with_telling told pipe number (tells config giver w pipe number)) u ⊎ IsTelling ws u →
          Contains told u ⊎ IsTelling (w ∷ ws) u
      by_rest (inl d) = here (telling_to told w u (tells config giver w pipe number) refl d)
      by_rest (inr t) = inr (t.0, in_tail w t.0 ws t.1, t.2, t.3, t.4)

  pub tellings_from : (told : List Told) (ws : List Walk) (w : Walk) (value : Option ℕ) → Contains ws w →
      tells config giver w pipe number ≡ Some value →
      Contains (with_tellings config giver pipe number told ws)
      (record { pipe = pipe; number = number; value = value })
  unfolding with_tellings
  tellings_from told [] w value c e = absurd (nil_none w c)
  tellings_from told (v ∷ ws) w value c e =
      by_part (cons_cases v w ws c)
      (λ d. tellings_from (with_telling told pipe number (tells config giver v pipe number)) ws w value d e)
    where
      by_part : (v ≡ w) ⊎ Contains ws w →
          (Contains ws w → Contains (with_tellings config giver pipe number (with_telling told pipe number (tells config giver v pipe number)) ws) (record { pipe = pipe; number = number; value = value })) →
          Contains (with_tellings config giver pipe number (with_telling told pipe number (tells config giver v pipe number)) ws) (record { pipe = pipe; number = number; value = value })
      by_part (inr d) rest = rest d
      by_part (inl f) rest =
          tellings_more (with_telling told pipe number (tells config giver v pipe number)) ws
          (record { pipe = pipe; number = number; value = value })
          (subst (λ o. Contains (with_telling told pipe number o) (record { pipe = pipe; number = number; value = value }))
          (sym (ap (λ x. tells config giver x pipe number) f ∙ e))
          (one_there told (record { pipe = pipe; number = number; value = value })))
