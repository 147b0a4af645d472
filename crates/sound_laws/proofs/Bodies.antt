-- What the reader has tested of the script of each stage of a file.
use Rattle.std.proofs.Common.{◌≡◌, ℕ, zero, suc, ◌+◌, ◌-◌, ◌<◌, ◌≤◌, true, List, [], ◌∷◌, ◌++◌, length, get_or, Ok, refl, ap, sym, subst, arith}
use Rattle.pipeline_lang.specs.Config.{no_body, script_of, statement_at}
use Rattle.pipeline_lang.specs.declared.config.Body.{Body}
use Rattle.pipeline_lang.specs.declared.config.Config.{Config}
use Rattle.pipeline_lang.specs.declared.script.Statement.TheVariants as statement
use Rattle.script_binding.specs.Environment.{Bound, start, spawned_in}
use Rattle.script_binding.specs.Naming.{Naming}
use Rattle.script_binding.specs.Shapes.{has_number}
use Rattle.pipeline_tables.specs.declared.tables.StageTable.{StageTable}
use Rattle.pipeline_file.specs.declared.declared_names.Declared.{Declared}
use Rattle.pipeline_file.specs.declared.resolve.Resolved.{Resolved}
use Rattle.pipeline_tables.specs.Lists.{onto}
use Rattle.pipeline_file.specs.Scripts.{naming_of, script_said, bodies_from}
use Rattle.file_laws.proofs.Went.{ok_same, went, went_onto}
use Rattle.file_laws.proofs.Each.{Each}
use Rattle.file_laws.proofs.Parts.{IsSaid, script_well}
use Rattle.sound_laws.specs.Shaped.{AreShaped}
use Rattle.sound_laws.proofs.Above.{has_left, has_right, spawned_inside}
use Rattle.sound_laws.proofs.Tested.{scripts_are_shaped}

-- the script of a body was tested with these stages spawned in earlier ones, which have all that they spawn
pub record BodyShaped (d : Declared) (r : Resolved) (n : ℕ) (spawned : List ℕ) (bodies : List Body) (i : ℕ) : Type 0 where
  pub earlier : List ℕ
  pub shaped : AreShaped (naming_of d r (n + i) earlier) start (get_or bodies i no_body).script
  pub kept : (x : ℕ) → has_number x spawned ≡ true → has_number x earlier ≡ true
  pub before : (j place x : ℕ) → j < i → get_or (get_or bodies j no_body).script place statement.Exit ≡ statement.Spawn x → has_number x earlier ≡ true

exit_not_spawn : (place x : ℕ) → ◌≡◌ {A = Bound} (get_or [] place statement.Exit) (statement.Spawn x) → ⊥
exit_not_spawn zero x e = absurd cc
exit_not_spawn (suc place) x e = absurd cc

no_bodies : (d : Declared) (r : Resolved) (n : ℕ) (spawned : List ℕ) (i : ℕ) → BodyShaped d r n spawned [] i
no_bodies d r n spawned zero = record { earlier = spawned; shaped = tt; kept = λ x h. h; before = λ j place x l e. absurd (omega (arith, l)) }
no_bodies d r n spawned (suc i) = record { earlier = spawned; shaped = tt; kept = λ x h. h; before = λ j place x l e. absurd (nothing j place x e) }
  where
    nothing : (j place x : ℕ) → get_or (get_or [] j no_body).script place statement.Exit ≡ statement.Spawn x → ⊥
    nothing zero place x e = exit_not_spawn place x e
    nothing (suc j) place x e = exit_not_spawn place x e

first_body : (d : Declared) (r : Resolved) (n : ℕ) (spawned : List ℕ) (body : Body) (bodies : List Body) → AreShaped (naming_of d r n spawned) start body.script → BodyShaped d r n spawned (body ∷ bodies) 0
first_body d r n spawned body bodies h = record {
  earlier = spawned;
  shaped = subst (λ (m : ℕ). AreShaped (naming_of d r m spawned) start body.script) (none n) h;
  kept = λ x k. k;
  before = λ j place x l e. absurd (omega (arith, l));
}
  where
    none : (n : ℕ) → n ≡ n + 0
    none n = omega arith

later_body : (d : Declared) (r : Resolved) (n : ℕ) (spawned : List ℕ) (body : Body) (bodies : List Body) (i : ℕ) → BodyShaped d r (n + 1) (spawned ++ spawned_in body.script) bodies i → BodyShaped d r n spawned (body ∷ bodies) (suc i)
later_body d r n spawned body bodies i h = record {
  earlier = h.earlier;
  shaped = subst (λ (m : ℕ). AreShaped (naming_of d r m h.earlier) start (get_or bodies i no_body).script) (one n i) h.shaped;
  kept = λ x k. h.kept x (has_left x spawned (spawned_in body.script) k);
  before = spoken;
}
  where
    one : (n i : ℕ) → n + 1 + i ≡ n + suc i
    one n i = omega arith

    spoken : (j place x : ℕ) → j < suc i → get_or (get_or (body ∷ bodies) j no_body).script place statement.Exit ≡ statement.Spawn x → has_number x h.earlier ≡ true
    spoken zero place x l e = h.kept x (has_right x spawned (spawned_in body.script) (spawned_inside body.script place x e))
    spoken (suc j) place x l e = h.before j place x (omega (arith, l)) e

body_shaped : (d : Declared) (r : Resolved) (n : ℕ) (spawned : List ℕ) (ts : List StageTable) (bodies : List Body) → bodies_from d r n spawned ts ≡ Ok bodies → (i : ℕ) → BodyShaped d r n spawned bodies i
unfolding bodies_from
body_shaped d r n spawned [] bodies h i = subst (λ (bs : List Body). BodyShaped d r n spawned bs i) (ok_same [] bodies h) (no_bodies d r n spawned i)
body_shaped d r n spawned (t ∷ ts) bodies h zero =
    let script = went (script_said d r n spawned t.script) (λ (made : List Bound). onto (record { script = made; earliest_end = t.earliest_end } ∷ []) (bodies_from d r (n + 1) (spawned ++ spawned_in made) ts)) bodies h in
    let rest = went_onto _ _ bodies script.1.1 in
    let said = script_well d r n spawned t.script script.0 script.1.0 in
    subst (λ (bs : List Body). BodyShaped d r n spawned bs 0) rest.1.1 (first_body d r n spawned _ rest.0 (scripts_are_shaped (naming_of d r n spawned) said.raw script.0 said.came))
body_shaped d r n spawned (t ∷ ts) bodies h (suc i) =
    let script = went (script_said d r n spawned t.script) (λ (made : List Bound). onto (record { script = made; earliest_end = t.earliest_end } ∷ []) (bodies_from d r (n + 1) (spawned ++ spawned_in made) ts)) bodies h in
    let rest = went_onto _ _ bodies script.1.1 in
    subst (λ (bs : List Body). BodyShaped d r n spawned bs (suc i)) rest.1.1 (later_body d r n spawned _ rest.0 i (body_shaped d r (n + 1) (spawned ++ spawned_in script.0) ts rest.0 rest.1.0 i))

-- what holds of each script that is said holds of the script of each body
pub scripts_hold : (P : List Bound → Type 0) (d : Declared) (r : Resolved) (n : ℕ) (spawned : List ℕ) (ts : List StageTable) (bodies : List Body) → ((m : ℕ) (earlier text : List ℕ) (script : List Bound) → IsSaid (naming_of d r m earlier) text script → P script) → bodies_from d r n spawned ts ≡ Ok bodies → Each (λ (body : Body). P body.script) bodies
unfolding bodies_from
scripts_hold P d r n spawned [] bodies holds h = subst (Each (λ (body : Body). P body.script)) (ok_same [] bodies h) tt
scripts_hold P d r n spawned (t ∷ ts) bodies holds h =
    let script = went (script_said d r n spawned t.script) (λ (made : List Bound). onto (record { script = made; earliest_end = t.earliest_end } ∷ []) (bodies_from d r (n + 1) (spawned ++ spawned_in made) ts)) bodies h in
    let rest = went_onto _ _ bodies script.1.1 in
    subst (Each (λ (body : Body). P body.script)) rest.1.1 (holds n spawned t.script script.0 (script_well d r n spawned t.script script.0 script.1.0), scripts_hold P d r (n + 1) (spawned ++ spawned_in script.0) ts rest.0 holds rest.1.0)

-- each body has the least time of its calls from its stage
pub margins_hold : (most : ℕ) (d : Declared) (r : Resolved) (n : ℕ) (spawned : List ℕ) (ts : List StageTable) (bodies : List Body) → Each (λ (t : StageTable). t.earliest_end ≤ most) ts → bodies_from d r n spawned ts ≡ Ok bodies → Each (λ (body : Body). body.earliest_end ≤ most) bodies
unfolding bodies_from
margins_hold most d r n spawned [] bodies each h = subst (Each (λ (body : Body). body.earliest_end ≤ most)) (ok_same [] bodies h) tt
margins_hold most d r n spawned (t ∷ ts) bodies each h =
    let script = went (script_said d r n spawned t.script) (λ (made : List Bound). onto (record { script = made; earliest_end = t.earliest_end } ∷ []) (bodies_from d r (n + 1) (spawned ++ spawned_in made) ts)) bodies h in
    let rest = went_onto _ _ bodies script.1.1 in
    subst (Each (λ (body : Body). body.earliest_end ≤ most)) rest.1.1 (each.0, margins_hold most d r (n + 1) (spawned ++ spawned_in script.0) ts rest.0 each.1 rest.1.0)

-- as many bodies as stages
pub bodies_many : (d : Declared) (r : Resolved) (n : ℕ) (spawned : List ℕ) (ts : List StageTable) (bodies : List Body) → bodies_from d r n spawned ts ≡ Ok bodies → length bodies ≡ length ts
unfolding bodies_from
bodies_many d r n spawned [] bodies h = sym (ap length (ok_same [] bodies h))
bodies_many d r n spawned (t ∷ ts) bodies h =
    let script = went (script_said d r n spawned t.script) (λ (made : List Bound). onto (record { script = made; earliest_end = t.earliest_end } ∷ []) (bodies_from d r (n + 1) (spawned ++ spawned_in made) ts)) bodies h in
    let rest = went_onto _ _ bodies script.1.1 in
    subst (λ (bs : List Body). length bs ≡ length (t ∷ ts)) rest.1.1 (ap suc (bodies_many d r (n + 1) (spawned ++ spawned_in script.0) ts rest.0 rest.1.0))

-- the script of a stage of a file was tested as that stage's, with the pipes of the file and all that earlier scripts spawn
pub record StageShaped (c : Config) (n : ℕ) : Type 0 where
  pub naming : Naming
  pub stage : naming.stage ≡ n
  pub ends : naming.pipe_ends ≡ c.pipe_ends
  pub shaped : AreShaped naming start (script_of c n)
  pub before : (m place x : ℕ) → 0 < m → m < n → statement_at c m place ≡ statement.Spawn x → has_number x naming.spawned ≡ true

pub stage_shaped : (c : Config) (d : Declared) (r : Resolved) (ts : List StageTable) → bodies_from d r 1 [] ts ≡ Ok c.bodies → r.pipe_ends ≡ c.pipe_ends → (n : ℕ) → 0 < n → StageShaped c n
stage_shaped c d r ts h e n z =
    let b = body_shaped d r 1 [] ts c.bodies h (n - 1) in
    record {
      naming = naming_of d r (1 + (n - 1)) b.earlier;
      stage = back n z;
      ends = e;
      shaped = b.shaped;
      before = λ m place x y l q. b.before (m - 1) place x (less m n y l) q;
    }
  where
    back : (n : ℕ) → 0 < n → 1 + (n - 1) ≡ n
    back n z = omega (arith, z)

    less : (m n : ℕ) → 0 < m → m < n → m - 1 < n - 1
    less m n y l = omega (arith, y, l)
