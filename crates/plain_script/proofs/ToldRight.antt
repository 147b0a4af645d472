-- What was told above a place, from one place to the next.
use Rattle.std.proofs.Common.{◌≡◌, ◌∙◌, sym, ap, ℕ, suc, ◌<◌, List, [], get_or, Bool, true, false, refl, arith, subst, ◌≤◌, Some, ◌⊎◌, inl, inr}
use Rattle.std.specs.Prelude.{Option, Contains, ◌==◌, if◌then◌else◌}
use Rattle.std.specs.List.{flat_map}
use Rattle.std.proofs.lemmas.Bool.{cases_lt}
use Rattle.std.proofs.lemmas.Bool.Decides.{Decides-eqb}
use Rattle.pipeline_lang.specs.declared.config.Config.{Config}
use Rattle.rss_model.specs.declared.history.Entry.{Entry}
use Rattle.rss_model.specs.declared.history.Entry.TheVariants.{Begin, End, Give, Get, Over}
use Rattle.rss_model.specs.declared.history.Token.{Token}
use Rattle.rss_model.specs.declared.history.Token.TheVariants as token
use Rattle.rss_model.specs.History.{entry_at}
use Rattle.rss_model.specs.Scripts.{giver_of}
use Rattle.rss_model.specs.Walk.{Walk}
use Rattle.rss_model.specs.Walked.{Walked}
use Rattle.script_laws.specs.Paths.{tells}
use Rattle.script_laws.specs.States.{IsTold, AreAll}
use Rattle.script_laws.proofs.AllStates.{path_walked}
use Rattle.plain_script.specs.declared.told.Told.{Told}
use Rattle.plain_script.specs.Standing.{way, with_tellings, told_at, told_by, GivesWithin}
use Rattle.plain_script.proofs.Members.{flat_to, flat_from}
use Rattle.plain_script.proofs.WayReaches.{way_reaches, way_has}
use Rattle.plain_script.proofs.Tellings.{IsTelling, tellings_to, tellings_from, tellings_more}
use Rattle.plain_script.proofs.LeadsRight.{IsExact}

module _ (config : Config) (h : List Entry) where
  -- all walks of all stages stand in the table
  abbrev pub StandIn : ℕ → List (List Walk) → Type 0
  StandIn n table = (stage : ℕ) → stage < 17 → AreAll config h stage n (get_or table stage [])

  later : (n : ℕ) (t : Told) → IsTold config h n t.pipe t.number t.value →
      IsTold config h (suc n) t.pipe t.number t.value
  later n t told = record {
    place = told.place;
    above = omega (arith, told.above);
    gives = told.gives;
    giving = told.giving;
    walked = told.walked;
    told = told.told;
  }

  -- where a stage gives a number of its own pipe, that is told which its walks tell
  chunk_to : (n : ℕ) (table : List (List Walk)) (giver pipe number : ℕ) (told : List Told) (u : Told) →
      StandIn n table → IsExact config h n told → giver < 17 →
      entry_at h n ≡ Give giver (token.Chunk pipe number) → giver ≡ giver_of config pipe →
      Contains told u ⊎ IsTelling config giver pipe number (flat_map (way config h giver) (get_or table giver [])) u →
      IsTold config h (suc n) u.pipe u.number u.value
  chunk_to n table giver pipe number told u stand x l e g (inl c) = later n u (x.sound u c)
  chunk_to n table giver pipe number told u stand x l e g (inr t) =
      let from = flat_to (way config h giver) (get_or table giver []) t.0 t.1 in
      let walked : Walked config h giver n t.0 =
      path_walked config h giver n t.0 from.0 (way_reaches config h giver from.0 t.0 from.2)
      ((stand giver l).sound from.0 from.1) in
      let own : giver ≡ giver_of config u.pipe = g ∙ ap (giver_of config) (sym t.2) in
      record {
        place = n;
        above = omega arith;
        gives = e ∙ (λ i. Give (own i) (token.Chunk (sym t.2 i) (sym t.3 i)));
        giving = t.0;
        walked = subst (λ s. Walked config h s n t.0) own walked;
        told = subst (λ s. tells config s t.0 u.pipe u.number ≡ Some u.value) own
            (ap (λ p. tells config giver t.0 p u.number) t.2 ∙ ap (tells config giver t.0 pipe) t.3 ∙ t.4);
      }

  at_to : (n : ℕ) (table : List (List Walk)) (giver : ℕ) (told : List Told) (given : Token) (u : Told) →
      StandIn n table → IsExact config h n told → giver < 17 → entry_at h n ≡ Give giver given →
      Contains (told_at config h table giver told given) u → IsTold config h (suc n) u.pipe u.number u.value
  at_to n table giver told (token.Spawn s) u stand x l e c = later n u (x.sound u c)
  at_to n table giver told (token.Exit s) u stand x l e c = later n u (x.sound u c)
  at_to n table giver told (token.Chunk pipe number) u stand x l e c =
      by_test (giver == giver_of config pipe) refl c
    where
      by_test : (b : Bool) → (giver == giver_of config pipe) ≡ b →
          Contains (if b then with_tellings config giver pipe number told (flat_map (way config h giver) (get_or table giver [])) else told) u →
          IsTold config h (suc n) u.pipe u.number u.value
      by_test true f d =
          chunk_to n table giver pipe number told u stand x l e ((Decides-eqb giver (giver_of config pipe)).0 f)
          (tellings_to config giver pipe number told (flat_map (way config h giver) (get_or table giver [])) u d)
      by_test false f d = later n u (x.sound u d)

  by_to : (n : ℕ) (table : List (List Walk)) (told : List Told) (e : Entry) (u : Told) →
      StandIn n table → IsExact config h n told → GivesWithin e → entry_at h n ≡ e →
      Contains (told_by config h table told e) u → IsTold config h (suc n) u.pipe u.number u.value
  by_to n table told (Begin call s op) u stand x l e c = later n u (x.sound u c)
  by_to n table told (End call reply) u stand x l e c = later n u (x.sound u c)
  by_to n table told (Give s given) u stand x l e c = at_to n table s told given u stand x l e c
  by_to n table told (Get s got) u stand x l e c = later n u (x.sound u c)
  by_to n table told (Over s how) u stand x l e c = later n u (x.sound u c)

  at_more : (table : List (List Walk)) (giver : ℕ) (told : List Told) (given : Token) (u : Told) →
      Contains told u → Contains (told_at config h table giver told given) u
  at_more table giver told (token.Spawn s) u c = c
  at_more table giver told (token.Exit s) u c = c
  at_more table giver told (token.Chunk pipe number) u c = by_test (giver == giver_of config pipe)
    where
      by_test : (b : Bool) →
          Contains (if b then with_tellings config giver pipe number told (flat_map (way config h giver) (get_or table giver [])) else told) u
      by_test true =
          tellings_more config giver pipe number told (flat_map (way config h giver) (get_or table giver [])) u c
      by_test false = c

  by_more : (table : List (List Walk)) (told : List Told) (e : Entry) (u : Told) → Contains told u →
      Contains (told_by config h table told e) u
  by_more table told (Begin call s op) u c = c
  by_more table told (End call reply) u c = c
  by_more table told (Give s given) u c = at_more table s told given u c
  by_more table told (Get s got) u c = c
  by_more table told (Over s how) u c = c

  chunk_from : (n : ℕ) (table : List (List Walk)) (told : List Told) (giving : Walk) (pipe number : ℕ) (value : Option ℕ) →
      StandIn n table → giver_of config pipe < 17 → Walked config h (giver_of config pipe) n giving →
      tells config (giver_of config pipe) giving pipe number ≡ Some value →
      Contains (told_at config h table (giver_of config pipe) told (token.Chunk pipe number))
      (record { pipe = pipe; number = number; value = value })
  chunk_from n table told giving pipe number value stand l w t =
      let giver : ℕ = giver_of config pipe in
      let from = (stand giver l).all giving w in
      let ws : List Walk = flat_map (way config h giver) (get_or table giver []) in
      let there : Contains ws giving =
      flat_from (way config h giver) (get_or table giver []) from.0 giving from.1
      (way_has config h giver giving from.0 from.2) in
      subst
      (λ (b : Bool). Contains (if b then with_tellings config giver pipe number told ws else told) (record { pipe = pipe; number = number; value = value }))
      (sym ((Decides-eqb giver giver).1 refl))
      (tellings_from config giver pipe number told ws giving value there t)

  told_from : (n : ℕ) (table : List (List Walk)) (told : List Told) (u : Told) → StandIn n table →
      IsExact config h n told → GivesWithin (entry_at h n) → IsTold config h (suc n) u.pipe u.number u.value →
      Contains (told_by config h table told (entry_at h n)) u
  told_from n table told u stand x l t = by_place (cases_lt t.place n)
    where
      -- it was told at this very place
      here : t.place ≡ n → Contains (told_by config h table told (entry_at h n)) u
      here same =
          let gives : entry_at h n ≡ Give (giver_of config u.pipe) (token.Chunk u.pipe u.number) =
          ap (entry_at h) (sym same) ∙ t.gives in
          let within : giver_of config u.pipe < 17 = subst GivesWithin gives l in
          subst (λ (e : Entry). Contains (told_by config h table told e) u) (sym gives)
          (chunk_from n table told t.giving u.pipe u.number u.value stand within
          (subst (λ i. Walked config h (giver_of config u.pipe) i t.giving) same t.walked) t.told)

      by_place : (t.place < n) ⊎ (n ≤ t.place) → Contains (told_by config h table told (entry_at h n)) u
      by_place (inl m) =
          by_more table told (entry_at h n) u
          (x.all u (record {
            place = t.place;
            above = m;
            gives = t.gives;
            giving = t.giving;
            walked = t.walked;
            told = t.told;
          }))
      by_place (inr m) = let a = t.above in here (omega (arith, m, a))

  -- with what is told at the next entry the list has what was told above the next place
  pub told_exact : (n : ℕ) (table : List (List Walk)) (told : List Told) → StandIn n table →
      IsExact config h n told → GivesWithin (entry_at h n) →
      IsExact config h (suc n) (told_by config h table told (entry_at h n))
  told_exact n table told stand x l = record {
    sound = λ u c. by_to n table told (entry_at h n) u stand x l refl c;
    all = λ u t. told_from n table told u stand x l t;
  }
