-- What counting an act leaves: all that stages can make is as it was.
use Rattle.std.proofs.Common.{◌≡◌, ℕ, zero, suc, ◌+◌, ◌-◌, ◌<◌, ◌≤◌, Bool, true, false, ◌||◌, List, [], ◌∷◌, length, get_or, set, Option, Some, None, refl, ap, ◌∙◌, arith, if◌then◌else◌}
use Rattle.pipeline_lang.specs.Config.{ends_of, statement_at}
use Rattle.pipeline_lang.specs.declared.config.Config.{Config}
use Rattle.pipeline_lang.specs.declared.script.Statement.TheVariants as statement
use Rattle.rss_model.specs.Cursor.{NumberedStatement}
use Rattle.rss_tables.specs.Pipes.{has_room}
use Rattle.rss_machine.specs.Enabling.{act_enabling, live_enabling, can_make, next_statement, is_enabled_at, whether}
use Rattle.rss_machine.specs.Moves.{counts_act}
use Rattle.rss_machine.specs.Refusal.{unless_enabled}
use Rattle.rss_machine.specs.Standing.{stage_state, stub_end_of, life_state, is_done, is_settled_within, parent_of, is_live, is_over}
use Rattle.rss_machine.specs.State.{State, Stage, stage_at, pipe_at, no_stage}
use Rattle.rss_machine.specs.declared.state.Life.{Life}
use Rattle.rss_machine.specs.declared.step.StepRefusal.{StepRefusal}
use Rattle.rss_machine.specs.declared.turn.Enabling.{Enabling}
use Rattle.rss_machine.specs.declared.turn.Enabling.TheVariants.{Never}

-- what a look at a stage shows that the count does not touch
pub looks_same : {Y : Type 0} (view : Stage → Y) (stages : List Stage) (i : ℕ) (x : Stage) → view x ≡ view (get_or stages i no_stage) → (k : ℕ) → view (get_or (set stages i x) k no_stage) ≡ view (get_or stages k no_stage)
looks_same view [] i x e k = refl
looks_same view (a ∷ stages) zero x e zero = e
looks_same view (a ∷ stages) zero x e (suc k) = refl
looks_same view (a ∷ stages) (suc i) x e zero = refl
looks_same view (a ∷ stages) (suc i) x e (suc k) = looks_same view stages i x e k

module _ (c : Config) (s : State) (n : ℕ) where
  pub looks : {Y : Type 0} (view : Stage → Y) → view (record (stage_at s n) { acts = (stage_at s n).acts + 1 }) ≡ view (stage_at s n) → (k : ℕ) → view (stage_at (counts_act s n) k) ≡ view (stage_at s k)
  looks view e k = looks_same view s.stages (n - 1) (record (stage_at s n) { acts = (stage_at s n).acts + 1 }) e (k - 1)

  pub state_same : (k : ℕ) → stage_state (counts_act s n) k ≡ stage_state s k
  state_same k =
      ap (λ (l : Life). life_state l (stub_end_of s (stage_at (counts_act s n) k).stub)) (looks (λ (x : Stage). x.life) refl k)
      ∙ ap (λ (o : Option ℕ). life_state (stage_at s k).life (stub_end_of s o)) (looks (λ (x : Stage). x.stub) refl k)

  within_same : (left k : ℕ) → is_settled_within left c (counts_act s n) k ≡ is_settled_within left c s k
  within_same zero k = refl
  within_same (suc left) k = rw (state_same k, within_same left (parent_of c k)) refl

  made_same : (st : NumberedStatement) → can_make c (counts_act s n) st ≡ can_make c s st
  made_same (statement.Wait child) = ap is_done (state_same child)
  made_same (statement.Put p value) = ap (λ (b : Bool). has_room (pipe_at s p) (ends_of c p).capacity || b) (within_same 16 (ends_of c p).taker)
  made_same (statement.Take variable p) = refl
  made_same (statement.Let variable value) = refl
  made_same (statement.Read variable key) = refl
  made_same (statement.Write key value) = refl
  made_same (statement.Snap pairs) = refl
  made_same (statement.Txn pairs guard writes) = refl
  made_same (statement.Spawn child) = refl
  made_same (statement.Close p) = refl
  made_same statement.Fence = refl
  made_same (statement.Repeat times) = refl
  made_same (statement.When test) = refl
  made_same statement.End = refl
  made_same statement.Exit = refl

  pub next_same : next_statement c (counts_act s n) n ≡ next_statement c s n
  next_same = ap (λ (i : ℕ). statement_at c n i) (looks (λ (x : Stage). x.cursor.position) refl n)

  pub can_make_same : can_make c (counts_act s n) (next_statement c (counts_act s n) n) ≡ can_make c s (next_statement c s n)
  can_make_same = made_same (next_statement c (counts_act s n) n) ∙ ap (λ (st : NumberedStatement). can_make c s st) next_same

-- a stage that is not refused an act
whether_true : (b : Bool) (time : ℕ) → is_enabled_at (whether b) time ≡ true → b ≡ true
whether_true true time h = refl
whether_true false time h = absurd (cc)

unless_none : (b : Bool) → unless_enabled b ≡ None → b ≡ true
unless_none true h = refl
unless_none false h = absurd (cc)

by_over : (over b : Bool) (x : StepRefusal) → (if over then Some x else unless_enabled b) ≡ None → b ≡ true
by_over true b x h = absurd (cc)
by_over false b x h = unless_none b h

by_live : (live : Bool) (e : Enabling) (time : ℕ) → is_enabled_at (if live then e else Never) time ≡ true → (live ≡ true) × (is_enabled_at e time ≡ true)
by_live true e time h = (refl, h)
by_live false e time h = absurd (cc)

by_owner : (c : Config) (s : State) (n : ℕ) (owner : Option ℕ) (time : ℕ) → owner ≡ None → is_enabled_at (live_enabling c s n owner) time ≡ true → can_make c s (next_statement c s n) ≡ true
by_owner c s n None time e h = whether_true (can_make c s (next_statement c s n)) time h
by_owner c s n (Some o) time e h = absurd (cc)

pub act_live : (c : Config) (s : State) (n time : ℕ) (x : StepRefusal) → (if is_over (stage_at s n).life then Some x else unless_enabled (is_enabled_at (act_enabling c s n) time)) ≡ None → is_live (stage_at s n).life ≡ true
act_live c s n time x h = (by_live (is_live (stage_at s n).life) (live_enabling c s n (stage_at s n).owner) time (by_over (is_over (stage_at s n).life) _ x h)).0

pub act_makes : (c : Config) (s : State) (n time : ℕ) (x : StepRefusal) → (if is_over (stage_at s n).life then Some x else unless_enabled (is_enabled_at (act_enabling c s n) time)) ≡ None → (stage_at s n).owner ≡ None → can_make c s (next_statement c s n) ≡ true
act_makes c s n time x h idle = by_owner c s n (stage_at s n).owner time idle (by_live (is_live (stage_at s n).life) (live_enabling c s n (stage_at s n).owner) time (by_over (is_over (stage_at s n).life) _ x h)).1

-- a live stage is there
stage_there : (stages : List Stage) (i : ℕ) → is_live (get_or stages i no_stage).life ≡ true → i < length stages
stage_there [] i h = absurd (cc)
stage_there (x ∷ stages) zero h = omega arith
stage_there (x ∷ stages) (suc i) h = let r = stage_there stages i h in omega (arith, r)

pub live_there : (s : State) (n : ℕ) → 1 ≤ n → is_live (stage_at s n).life ≡ true → n ≤ length s.stages
live_there s n first h = let r = stage_there s.stages (n - 1) h in omega (arith, r, first)
