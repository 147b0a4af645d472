-- The walks behind an entry are those that it passes by and those to which it leads.
use Rattle.std.proofs.Common.{◌≡◌, ◌∙◌, sym, ap, ℕ, List, [], take, Bool, true, false, refl, subst, Some, ◌⊎◌, inl, inr}
use Rattle.std.specs.Prelude.{Contains, ◌==◌, IsFalse, if◌then◌else◌}
use Rattle.std.specs.List.{flat_map}
use Rattle.std.specs.Option.{option_to_list}
use Rattle.std.proofs.lemmas.Bool.{false≢true}
use Rattle.std.proofs.lemmas.Bool.Decides.{Decides-eqb, Decides-and}
use Rattle.std.proofs.lemmas.List.Elements.{Contains-append_left, Contains-append_right, Contains-append_cases}
use Rattle.pipeline_lang.specs.declared.config.Config.{Config}
use Rattle.rss_model.specs.Tokens.{same_token}
use Rattle.rss_model.specs.declared.history.Entry.{Entry}
use Rattle.rss_model.specs.declared.history.Entry.TheVariants.{Begin, End, Give, Get, Over}
use Rattle.rss_model.specs.declared.history.Token.TheVariants as token
use Rattle.rss_model.specs.History.{entry_at}
use Rattle.rss_model.specs.Stages.{stage_at}
use Rattle.rss_model.specs.Walk.{Walk}
use Rattle.script_laws.specs.Entries.{entry_step}
use Rattle.script_laws.specs.Paths.{take_step}
use Rattle.script_laws.specs.States.{IsTold, Leads, by_entry, by_take, Behind, passed, led}
use Rattle.script_laws.proofs.EntrySteps.{token-Decides}
use Rattle.plain_script.specs.declared.told.Told.{Told}
use Rattle.plain_script.specs.Standing.{is_got, taken_by, leads_of, passed_of, next_states, way}
use Rattle.plain_script.proofs.Members.{nil_none, flat_to, flat_from, option_to, option_from}
use Rattle.plain_script.proofs.WayReaches.{way_reaches, way_has}

got-to : (stage : ℕ) (t : Told) (e : Entry) → is_got stage t e ≡ true →
    e ≡ Get stage (token.Chunk t.pipe t.number)
got-to stage t (Begin call s op) b = absurd (false≢true b)
got-to stage t (End call reply) b = absurd (false≢true b)
got-to stage t (Give s given) b = absurd (false≢true b)
got-to stage t (Get s got) b =
    let parts =
    (Decides-and (s == stage) (same_token got (token.Chunk t.pipe t.number)) (Decides-eqb s stage)
    (token-Decides got (token.Chunk t.pipe t.number))).0 b in
    λ i. Get (parts.0 i) (parts.1 i)
got-to stage t (Over s how) b = absurd (false≢true b)

got-from : (stage : ℕ) (t : Told) (e : Entry) → e ≡ Get stage (token.Chunk t.pipe t.number) →
    is_got stage t e ≡ true
got-from stage t e f =
    ap (is_got stage t) f ∙
    (Decides-and (stage == stage)
    (same_token (token.Chunk t.pipe t.number) (token.Chunk t.pipe t.number)) (Decides-eqb stage stage)
    (token-Decides (token.Chunk t.pipe t.number) (token.Chunk t.pipe t.number))).1 (refl, refl)

-- the list has what was told above the place, and no more
pub record IsExact (config : Config) (h : List Entry) (n : ℕ) (told : List Told) : Type 0 where
  pub sound : (t : Told) → Contains told t → IsTold config h n t.pipe t.number t.value
  pub all : (t : Told) → IsTold config h n t.pipe t.number t.value → Contains told t

module _ (config : Config) (h : List Entry) (stage : ℕ) where
  taken_to : (e : Entry) (w v : Walk) (t : Told) → Contains (taken_by config stage e w t) v →
      (e ≡ Get stage (token.Chunk t.pipe t.number)) × (take_step config stage w t.pipe t.number t.value ≡ Some v)
  unfolding taken_by
  taken_to e w v t c = by_test (is_got stage t e) refl c
    where
      by_test : (b : Bool) → is_got stage t e ≡ b →
          Contains (if b then option_to_list (take_step config stage w t.pipe t.number t.value) else []) v →
          (e ≡ Get stage (token.Chunk t.pipe t.number)) × (take_step config stage w t.pipe t.number t.value ≡ Some v)
      by_test true f d =
          (got-to stage t e f, option_to (take_step config stage w t.pipe t.number t.value) v d)
      by_test false f d = absurd (nil_none v d)

  taken_from : (e : Entry) (w v : Walk) (t : Told) → e ≡ Get stage (token.Chunk t.pipe t.number) →
      take_step config stage w t.pipe t.number t.value ≡ Some v → Contains (taken_by config stage e w t) v
  unfolding taken_by
  taken_from e w v t f s =
      subst
      (λ (b : Bool). Contains (if b then option_to_list (take_step config stage w t.pipe t.number t.value) else []) v)
      (sym (got-from stage t e f))
      (option_from (take_step config stage w t.pipe t.number t.value) v s)

  pub leads_to : (n : ℕ) (told : List Told) (w v : Walk) → IsExact config h n told →
      Contains (leads_of config h stage n told w) v → Leads config h stage n w v
  unfolding leads_of
  leads_to n told w v x c =
      by_part
      (Contains-append_cases (option_to_list (entry_step config h stage (take n h) (entry_at h n) w))
      (flat_map (taken_by config stage (entry_at h n) w) told) v c)
    where
      by_part : Contains (option_to_list (entry_step config h stage (take n h) (entry_at h n) w)) v ⊎ Contains (flat_map (taken_by config stage (entry_at h n) w) told) v →
          Leads config h stage n w v
      by_part (inl d) = by_entry (option_to (entry_step config h stage (take n h) (entry_at h n) w) v d)
      by_part (inr d) =
          let one = flat_to (taken_by config stage (entry_at h n) w) told v d in
          let taken = taken_to (entry_at h n) w v one.0 one.2 in
          by_take taken.0 (x.sound one.0 one.1) taken.1

  pub leads_from : (n : ℕ) (told : List Told) (w v : Walk) → IsExact config h n told →
      Leads config h stage n w v → Contains (leads_of config h stage n told w) v
  unfolding leads_of
  leads_from n told w v x (by_entry e) =
      Contains-append_left (option_to_list (entry_step config h stage (take n h) (entry_at h n) w))
      (flat_map (taken_by config stage (entry_at h n) w) told) v
      (option_from (entry_step config h stage (take n h) (entry_at h n) w) v e)
  leads_from n told w v x (by_take {pipe = pipe} {number = number} {value = value} g t s) =
      let one : Told = record { pipe = pipe; number = number; value = value } in
      Contains-append_right (option_to_list (entry_step config h stage (take n h) (entry_at h n) w))
      (flat_map (taken_by config stage (entry_at h n) w) told) v
      (flat_from (taken_by config stage (entry_at h n) w) told one v (x.all one t)
      (taken_from (entry_at h n) w v one g s))

  passed_to : (n : ℕ) (bases : List Walk) (v : Walk) → Contains (passed_of h stage n bases) v →
      Behind config h stage n bases v
  unfolding passed_of
  passed_to n bases v c = by_test (stage_at h n == stage) refl c
    where
      by_test : (b : Bool) → (stage_at h n == stage) ≡ b → Contains (if b then [] else bases) v →
          Behind config h stage n bases v
      by_test true e d = absurd (nil_none v d)
      by_test false e d = passed e d

  passed_from : (n : ℕ) (bases : List Walk) (v : Walk) → IsFalse (stage_at h n == stage) →
      Contains bases v → Contains (passed_of h stage n bases) v
  unfolding passed_of
  passed_from n bases v e c =
      subst (λ (b : Bool). Contains (if b then [] else bases) v) (sym e) c

  pub behind_to : (n : ℕ) (told : List Told) (bases : List Walk) (v : Walk) → IsExact config h n told →
      Contains (next_states config h stage n told bases) v → Behind config h stage n bases v
  unfolding next_states
  behind_to n told bases v x c =
      by_part
      (Contains-append_cases (passed_of h stage n bases)
      (flat_map (leads_of config h stage n told) (flat_map (way config h stage) bases)) v c)
    where
      by_part : Contains (passed_of h stage n bases) v ⊎ Contains (flat_map (leads_of config h stage n told) (flat_map (way config h stage) bases)) v →
          Behind config h stage n bases v
      by_part (inl d) = passed_to n bases v d
      by_part (inr d) =
          let from = flat_to (leads_of config h stage n told) (flat_map (way config h stage) bases) v d in
          let base = flat_to (way config h stage) bases from.0 from.1 in
          led base.1 (way_reaches config h stage base.0 from.0 base.2) (leads_to n told from.0 v x from.2)

  pub behind_from : (n : ℕ) (told : List Told) (bases : List Walk) (v : Walk) → IsExact config h n told →
      Behind config h stage n bases v → Contains (next_states config h stage n told bases) v
  unfolding next_states
  behind_from n told bases v x (passed e c) =
      Contains-append_left (passed_of h stage n bases)
      (flat_map (leads_of config h stage n told) (flat_map (way config h stage) bases)) v
      (passed_from n bases v e c)
  behind_from n told bases v x (led {u = u} {w = w} c p l) =
      Contains-append_right (passed_of h stage n bases)
      (flat_map (leads_of config h stage n told) (flat_map (way config h stage) bases)) v
      (flat_from (leads_of config h stage n told) (flat_map (way config h stage) bases) w v
      (flat_from (way config h stage) bases u w c (way_has config h stage w u p))
      (leads_from n told w v x l))
