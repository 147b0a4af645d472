-- At each place of a history all walks of all stages stand in the table, and what was told is listed.
use Rattle.std.proofs.Common.{◌≡◌, ◌∙◌, sym, ap, ℕ, zero, suc, ◌+◌, ◌<◌, List, [], ◌∷◌, length, get_or, refl, arith, subst, Some, Ok, Err}
use Rattle.std.specs.Prelude.{Bool, Result, IsTrue, IfOk, Contains, ◌↔◌}
use Rattle.std.proofs.lemmas.List.{get_or_default}
use Rattle.std.proofs.lemmas.List.FromFn.{get_or-map-range_with_len, length-map-range_with_len}
use Rattle.pipeline_lang.specs.declared.config.Config.{Config}
use Rattle.rss_model.specs.declared.history.Entry.{Entry}
use Rattle.rss_model.specs.History.{entry_at}
use Rattle.rss_model.specs.Walk.{Walk, Mode, unborn, ready, in_call, over, last_gives}
use Rattle.rss_model.specs.ScriptRun.{IsWhole, ScriptRun}
use Rattle.script_laws.specs.Steps.{silent_in}
use Rattle.script_laws.specs.Paths.{Path, stays, goes}
use Rattle.script_laws.specs.States.{AreAll}
use Rattle.script_laws.proofs.AllStates.{all_first, all_behind}
use Rattle.plain_script.specs.declared.told.Told.{Told}
use Rattle.plain_script.specs.Standing.{next_states, next_table, first_states, first_table, Standing, standing, GivesWithin}
use Rattle.plain_script.proofs.Members.{nil_none}
use Rattle.plain_script.proofs.LeadsRight.{IsExact, behind_to, behind_from}
use Rattle.plain_script.proofs.ToldRight.{StandIn, told_exact}

module _ (config : Config) (h : List Entry) where
  length-next_table : (n : ℕ) (told : List Told) (from : ℕ) (table : List (List Walk)) →
      length (next_table config h n told from table) ≡ length table
  unfolding next_table
  length-next_table n told from [] = refl
  length-next_table n told from (bases ∷ rest) = ap suc (length-next_table n told (suc from) rest)

  next_at : (n : ℕ) (told : List Told) (from : ℕ) (table : List (List Walk)) (i : ℕ) → i < length table →
      get_or (next_table config h n told from table) i [] ≡
      next_states config h (from + i) n told (get_or table i [])
  unfolding next_table
  next_at n told from [] i l = absurd (omega (arith, l))
  next_at n told from (bases ∷ rest) zero l =
      let same : from ≡ from + 0 = omega arith in
      ap (λ s. next_states config h s n told bases) same
  next_at n told from (bases ∷ rest) (suc i) l =
      let same : suc from + i ≡ from + suc i = omega arith in
      next_at n told (suc from) rest i (omega (arith, l)) ∙
      ap (λ s. next_states config h s n told (get_or rest i [])) same

  pub record IsRight (n : ℕ) (s : Standing) : Type 0 where
    pub stages : length s.table ≡ 17
    pub stand : StandIn config h n s.table
    pub exact : IsExact config h n s.told

  first_right : IsRight 0 (standing config h 0)
  unfolding standing first_table
  first_right = record {
    stages = length-map-range_with_len (first_states config) 0 17;
    stand = λ stage l. subst (AreAll config h stage 0)
        (sym (get_or-map-range_with_len (first_states config) 0 17 stage stage [] l (omega arith)))
        (all_first config h stage);
    exact = record {
      sound = λ t c. absurd (nil_none t c);
      all = λ t told. absurd (let a = told.above in omega (arith, a));
    };
  }

  right_more : (n : ℕ) → GivesWithin (entry_at h n) → IsRight n (standing config h n) →
      IsRight (suc n) (standing config h (suc n))
  unfolding standing
  right_more n l r =
      let s : Standing = standing config h n in
      record {
        stages = length-next_table n s.told 0 s.table ∙ r.stages;
        stand = λ stage m.
            let bases : List Walk = get_or s.table stage [] in
            let inside : stage < length s.table = let a = r.stages in omega (arith, m, a) in
            let same : 0 + stage ≡ stage = omega arith in
            subst (AreAll config h stage (suc n))
            (sym (next_at n s.told 0 s.table stage inside ∙ ap (λ k. next_states config h k n s.told bases) same))
            (all_behind config h stage n bases (next_states config h stage n s.told bases) (r.stand stage m)
            (λ v c. behind_to config h stage n s.told bases v r.exact c)
            (λ v b. behind_from config h stage n s.told bases v r.exact b));
        exact = told_exact config h n s.table s.told r.stand r.exact l;
      }

  pub standing_right : (n : ℕ) → ((i : ℕ) → i < n → GivesWithin (entry_at h i)) →
      IsRight n (standing config h n)
  standing_right zero w = first_right
  standing_right (suc n) w =
      right_more n (w n (omega arith)) (standing_right n (λ i l. w i (omega (arith, l))))

  -- what goes on without an entry may end where it stands
  whole_before : (stage : ℕ) (v w : Walk) → Path config h stage v w →
      IsWhole (last_gives config stage v) v.mode → IsWhole (last_gives config stage w) w.mode
  whole_before stage v w stays i = i
  whole_before stage v w (goes {m = m} e p) i = by_mode w.mode e
    where
      by_mode : (o : Mode) → silent_in config h stage w o ≡ Some m → IsWhole (last_gives config stage w) o
      by_mode unborn f = tt
      by_mode ready f = tt
      by_mode (in_call call) f = tt
      by_mode (over how owed) f = absurd (cc (f))

  pub run_decided : (stage : ℕ) → stage < 17 → ((i : ℕ) → i < length h → GivesWithin (entry_at h i)) →
      ((walk : Walk) × Contains (get_or (standing config h (length h)).table stage []) walk ×
      IsWhole (last_gives config stage walk) walk.mode) ↔ ScriptRun config h stage
  run_decided stage l w = (
    λ (v, c, i). record { walk = v; walked = (right.stand stage l).sound v c; whole = i },
    λ run.
        let from = (right.stand stage l).all run.walk run.walked in
        (from.0, from.1, whole_before stage run.walk from.0 from.2 run.whole),
  )
    where
      right : IsRight (length h) (standing config h (length h))
      right = standing_right (length h) w

-- one of these walks may end where it stands
abbrev pub HasWhole : Config → List Walk → ℕ → Type 0
HasWhole config walks stage =
    (walk : Walk) × Contains walks walk × IsWhole (last_gives config stage walk) walk.mode

-- what the code found of the walks behind a history decides
pub run_answer : {E : Type 0} (r : Result Bool E) (config : Config) (h given : List Entry) (stage number place : ℕ) (table : List (List Walk)) (walks found : List Walk) →
    given ≡ h → table ≡ (standing config given (length given)).table → length table ≡ 17 →
    ((i : ℕ) → i < length given → GivesWithin (entry_at given i)) → stage < 17 →
    number ≡ stage → place ≡ stage → walks ≡ found → found ≡ get_or table place found →
    IfOk r (λ some. IsTrue some ↔ ((walk : Walk) × Contains walks walk × IsWhole (last_gives config number walk) walk.mode)) →
    IfOk r (λ runs. IsTrue runs ↔ ScriptRun config h stage)
run_answer {E = E} r config h given stage number place table walks found same stand long within l numbered placed w f i =
    by_result r i
  where
    inside : place < length table
    inside = omega (arith, l, placed, long)

    base : List Walk
    base = get_or (standing config given (length given)).table stage []

    walks_are : walks ≡ base
    walks_are =
        w ∙ f ∙ get_or_default table place found [] inside ∙
        ap (λ (t : List (List Walk)). get_or t place []) stand ∙
        ap (λ k. get_or (standing config given (length given)).table k []) placed

    decided : HasWhole config base stage ↔ ScriptRun config given stage
    decided = run_decided config given stage l within

    by_result : (q : Result Bool E) → IfOk q (λ some. IsTrue some ↔ HasWhole config walks number) →
        IfOk q (λ runs. IsTrue runs ↔ ScriptRun config h stage)
    by_result (Err e) j = j
    by_result (Ok b) j = (
      λ t.
          subst (λ x. ScriptRun config x stage) same
          (decided.0 (subst (λ k. HasWhole config base k) numbered (subst (λ ws. HasWhole config ws number) walks_are (j.0 t)))),
      λ run.
          j.1 (subst (λ ws. HasWhole config ws number) (sym walks_are)
          (subst (λ k. HasWhole config base k) (sym numbered)
          (decided.1 (subst (λ x. ScriptRun config x stage) (sym same) run)))),
    )
