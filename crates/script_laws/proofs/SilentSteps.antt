-- The silent steps are those of the model.
use Rattle.std.proofs.Common.{◌≡◌, ◌∙◌, ap, ℕ, zero, suc, ◌≤◌, List, [], ◌∷◌, get_or, Bool, true, false, refl, arith, subst, Some, ◌⊎◌, inl, inr}
use Rattle.std.specs.Prelude.{nat_le}
use Rattle.std.specs.Bool.{Decides}
use Rattle.std.proofs.lemmas.Bool.{false≢true}
use Rattle.std.proofs.lemmas.Bool.Decides.{Decides-eqb, Decides-and, Decides-or, Decides-like, Decides-not, nat_tests}
use Rattle.pipeline_lang.specs.declared.config.Config.{Config}
use Rattle.pipeline_lang.specs.declared.script.Statement.TheVariants as statement
use Rattle.pipeline_lang.specs.Config.{script_of, statement_at}
use Rattle.rss_model.specs.declared.history.Entry.{Entry}
use Rattle.rss_model.specs.declared.history.Entry.TheVariants.{Begin, End, Give, Get, Over}
use Rattle.rss_model.specs.declared.history.Token.TheVariants as token
use Rattle.rss_model.specs.History.{entry_at}
use Rattle.rss_model.specs.Stages.{ending_of, is_death}
use Rattle.rss_model.specs.Cursor.{NumberedStatement, is_local, after_local}
use Rattle.rss_model.specs.Scripts.{giver_of}
use Rattle.rss_model.specs.Walk.{Walk, Mode, unborn, ready, in_call, over, IsNext, after_take, after_wait}
use Rattle.rss_model.specs.Given.{DiedUnfenced, IsCutOff}
use Rattle.rss_model.specs.Walked.{Silent, local, fence, take_nothing, wait_in_vain}
use Rattle.script_laws.specs.Steps.{gives_exit, gave_exit, is_dead, gives_past, gave_past, is_dry, silent_at, silent_in, silent_step}

itself : (b : Bool) → Decides b (b ≡ true)
itself b = (λ t. t, λ t. t)

gives_exit-Decides : (stage : ℕ) (e : Entry) →
    Decides (gives_exit stage e) (e ≡ Give stage (token.Exit stage))
gives_exit-Decides stage (Begin call s op) = (λ t. absurd (false≢true t), λ e. cc)
gives_exit-Decides stage (End call reply) = (λ t. absurd (false≢true t), λ e. cc)
gives_exit-Decides stage (Give s (token.Spawn child)) = (λ t. absurd (false≢true t), λ e. cc)
gives_exit-Decides stage (Give s (token.Chunk pipe number)) = (λ t. absurd (false≢true t), λ e. cc)
gives_exit-Decides stage (Give s (token.Exit t)) =
    Decides-like _ (λ p i. Give (p.0 i) (token.Exit (p.1 i))) (λ e. (cc, cc))
    (Decides-and _ _ (Decides-eqb s stage) (Decides-eqb t stage))
gives_exit-Decides stage (Get s t) = (λ t. absurd (false≢true t), λ e. cc)
gives_exit-Decides stage (Over s how) = (λ t. absurd (false≢true t), λ e. cc)

-- an entry of the history is so
abbrev Somewhere : (Entry → Type 0) → List Entry → Type 0
Somewhere P h = (i : ℕ) × P (entry_at h i)

some_cons : (P : Entry → Type 0) (e : Entry) (h : List Entry) → P e ⊎ Somewhere P h →
    Somewhere P (e ∷ h)
some_cons P e h (inl p) = (0, p)
some_cons P e h (inr (i, p)) = (suc i, p)

some_uncons : (P : Entry → Type 0) (e : Entry) (h : List Entry) → Somewhere P (e ∷ h) →
    P e ⊎ Somewhere P h
some_uncons P e h (zero, p) = inl p
some_uncons P e h (suc i, p) = inr (i, p)

gave_exit-Decides : (stage : ℕ) (h : List Entry) →
    Decides (gave_exit stage h) (Somewhere (λ e. e ≡ Give stage (token.Exit stage)) h)
gave_exit-Decides stage [] = (λ t. absurd (false≢true t), λ s. absurd (nowhere s.0 s.1))
  where
    nowhere : (i : ℕ) → entry_at [] i ≡ Give stage (token.Exit stage) → ⊥
    nowhere i e = cc
gave_exit-Decides stage (e ∷ h) =
    Decides-like _ (some_cons (λ x. x ≡ Give stage (token.Exit stage)) e h)
    (some_uncons (λ x. x ≡ Give stage (token.Exit stage)) e h)
    (Decides-or _ _ (gives_exit-Decides stage e) (gave_exit-Decides stage h))

pub is_dead-Decides : (h : List Entry) (stage : ℕ) → Decides (is_dead h stage) (DiedUnfenced h stage)
is_dead-Decides h stage =
    Decides-like _
    (λ p. record { died = p.0; unfenced = λ i e. p.1 (i, e) })
    (λ d. (d.died, λ s. d.unfenced s.0 s.1))
    (Decides-and _ _ (itself (is_death (ending_of h stage)))
    (Decides-not (gave_exit stage h) (gave_exit-Decides stage h)))

-- an entry gives a chunk of the pipe past a number
abbrev Past : ℕ → ℕ → ℕ → Entry → Type 0
Past giver pipe number e =
    (n : ℕ) × (e ≡ Give giver (token.Chunk pipe n)) × (n ≤ number → ⊥)

gives_past-Decides : (giver pipe number : ℕ) (e : Entry) →
    Decides (gives_past giver pipe number e) (Past giver pipe number e)
gives_past-Decides giver pipe number (Begin call s op) = (λ t. absurd (false≢true t), λ p. absurd (cc (p.1)))
gives_past-Decides giver pipe number (End call reply) = (λ t. absurd (false≢true t), λ p. absurd (cc (p.1)))
gives_past-Decides giver pipe number (Give s (token.Spawn child)) =
    (λ t. absurd (false≢true t), λ p. absurd (cc (p.1)))
gives_past-Decides giver pipe number (Give s (token.Chunk q n)) =
    Decides-like _
    (λ p. (n, (λ i. Give (p.0 i) (token.Chunk (p.1.0 i) n)), λ l. p.1.1 l))
    (λ p.
    let s_is : s ≡ giver = cc (p.1) in
    let q_is : q ≡ pipe = cc (p.1) in
    let n_is : n ≡ p.0 = cc (p.1) in
    (s_is, (q_is, λ l. p.2 (subst (λ m. m ≤ number) n_is l))))
    (Decides-and _ _ (Decides-eqb s giver)
    (Decides-and _ _ (Decides-eqb q pipe) (Decides-not (nat_le n number) (at_most n number))))
  where
    at_most : (a b : ℕ) → Decides (nat_le a b) (a ≤ b)
    at_most a b = (λ t. grind (arith, nat_tests, t), λ l. grind (arith, nat_tests, l))
gives_past-Decides giver pipe number (Give s (token.Exit t)) =
    (λ t. absurd (false≢true t), λ p. absurd (cc (p.1)))
gives_past-Decides giver pipe number (Get s t) = (λ t. absurd (false≢true t), λ p. absurd (cc (p.1)))
gives_past-Decides giver pipe number (Over s how) = (λ t. absurd (false≢true t), λ p. absurd (cc (p.1)))

gave_past-Decides : (giver pipe number : ℕ) (h : List Entry) →
    Decides (gave_past giver pipe number h) (Somewhere (Past giver pipe number) h)
gave_past-Decides giver pipe number [] = (λ t. absurd (false≢true t), λ s. absurd (cc (s.1.1)))
gave_past-Decides giver pipe number (e ∷ h) =
    Decides-like _ (some_cons (Past giver pipe number) e h) (some_uncons (Past giver pipe number) e h)
    (Decides-or _ _ (gives_past-Decides giver pipe number e) (gave_past-Decides giver pipe number h))

pub is_dry-Decides : (config : Config) (h : List Entry) (w : Walk) (pipe : ℕ) →
    Decides (is_dry config h w pipe) (IsCutOff config h w pipe)
is_dry-Decides config h w pipe =
    Decides-like _
    (λ p. record {
      giver = p.0;
      all_taken = λ i n e. by_test n (nat_le n (get_or w.taken pipe 0)) refl (λ l. p.1 (i, (n, e, l)));
    })
    (λ c. (c.giver, λ s. s.1.2 (c.all_taken s.0 s.1.0 s.1.1)))
    (Decides-and _ _ (is_dead-Decides h (giver_of config pipe))
    (Decides-not (gave_past (giver_of config pipe) pipe (get_or w.taken pipe 0) h)
    (gave_past-Decides (giver_of config pipe) pipe (get_or w.taken pipe 0) h)))
  where
    by_test : (n : ℕ) (b : Bool) → nat_le n (get_or w.taken pipe 0) ≡ b →
        ((n ≤ get_or w.taken pipe 0 → ⊥) → ⊥) → n ≤ get_or w.taken pipe 0
    by_test n true e f = grind (arith, nat_tests, e)
    by_test n false e f = absurd (f (λ l. grind (arith, nat_tests, e, l)))

module _ (config : Config) (h : List Entry) (stage : ℕ) where
  -- this statement comes next
  abbrev Next : Walk → NumberedStatement → Type 0
  Next w s = IsNext config stage w s

  silent_at-to : (w v : Walk) (s : NumberedStatement) → Next w s →
      silent_at config h stage w s ≡ Some v → Silent config h stage w v
  silent_at-to w v (statement.Let variable value) n e =
      subst (Silent config h stage w) (cc (e)) (local n refl)
  silent_at-to w v (statement.Read variable key) n e = absurd (cc (e))
  silent_at-to w v (statement.Write key value) n e = absurd (cc (e))
  silent_at-to w v (statement.Snap pairs) n e = absurd (cc (e))
  silent_at-to w v (statement.Txn pairs guard writes) n e = absurd (cc (e))
  silent_at-to w v (statement.Spawn child) n e = absurd (cc (e))
  silent_at-to w v (statement.Wait child) n e = by_test (is_dead h child) refl e
    where
      by_test : (b : Bool) → is_dead h child ≡ b →
          silent_at config h stage w (statement.Wait child) ≡ Some v → Silent config h stage w v
      by_test true t f =
          let same : after_wait w 2 ≡ v = grind (arith, t, f) in
          subst (Silent config h stage w) same (wait_in_vain n ((is_dead-Decides h child).0 t))
      by_test false t f = absurd (grind (arith, t, f))
  silent_at-to w v (statement.Put pipe value) n e = absurd (cc (e))
  silent_at-to w v (statement.Take variable pipe) n e = by_test (is_dry config h w pipe) refl e
    where
      by_test : (b : Bool) → is_dry config h w pipe ≡ b →
          silent_at config h stage w (statement.Take variable pipe) ≡ Some v → Silent config h stage w v
      by_test true t f =
          let same : after_take w variable 0 2 ≡ v = grind (arith, t, f) in
          subst (Silent config h stage w) same (take_nothing n ((is_dry-Decides config h w pipe).0 t))
      by_test false t f = absurd (grind (arith, t, f))
  silent_at-to w v (statement.Close pipe) n e = absurd (cc (e))
  silent_at-to w v statement.Fence n e = subst (Silent config h stage w) (cc (e)) (fence n)
  silent_at-to w v (statement.Repeat turns) n e =
      subst (Silent config h stage w) (cc (e)) (local n refl)
  silent_at-to w v (statement.When test) n e =
      subst (Silent config h stage w) (cc (e)) (local n refl)
  silent_at-to w v statement.End n e = subst (Silent config h stage w) (cc (e)) (local n refl)
  silent_at-to w v statement.Exit n e = absurd (cc (e))

  local_at : (w : Walk) (s : NumberedStatement) → is_local s ≡ true →
      silent_at config h stage w s ≡
      Some (record w { cursor = after_local (script_of config stage) w.cursor s })
  local_at w (statement.Let variable value) l = refl
  local_at w (statement.Read variable key) l = absurd (false≢true l)
  local_at w (statement.Write key value) l = absurd (false≢true l)
  local_at w (statement.Snap pairs) l = absurd (false≢true l)
  local_at w (statement.Txn pairs guard writes) l = absurd (false≢true l)
  local_at w (statement.Spawn child) l = absurd (false≢true l)
  local_at w (statement.Wait child) l = absurd (false≢true l)
  local_at w (statement.Put pipe value) l = absurd (false≢true l)
  local_at w (statement.Take variable pipe) l = absurd (false≢true l)
  local_at w (statement.Close pipe) l = absurd (false≢true l)
  local_at w statement.Fence l = absurd (false≢true l)
  local_at w (statement.Repeat turns) l = refl
  local_at w (statement.When test) l = refl
  local_at w statement.End l = refl
  local_at w statement.Exit l = absurd (false≢true l)

  -- before a statement the step is that of the statement
  at_next : (w : Walk) (s : NumberedStatement) → Next w s →
      silent_step config h stage w ≡ silent_at config h stage w s
  at_next w s n =
      ap (silent_in config h stage w) n.ready ∙ ap (silent_at config h stage w) n.statement

  pub silent-from : (w v : Walk) → Silent config h stage w v → silent_step config h stage w ≡ Some v
  silent-from w v (local {s = s} n l) = at_next w s n ∙ local_at w s l
  silent-from w v (fence n) = at_next w statement.Fence n
  silent-from w v (take_nothing {variable = variable} {pipe = pipe} n c) =
      at_next w (statement.Take variable pipe) n ∙ rw ((is_dry-Decides config h w pipe).1 c) refl
  silent-from w v (wait_in_vain {child = child} n d) =
      at_next w (statement.Wait child) n ∙ rw ((is_dead-Decides h child).1 d) refl

  silent_in-to : (w v : Walk) (m : Mode) → w.mode ≡ m → silent_in config h stage w m ≡ Some v →
      Silent config h stage w v
  silent_in-to w v unborn m e = absurd (cc (e))
  silent_in-to w v ready m e =
      silent_at-to w v (statement_at config stage w.cursor.position)
      (record { ready = m; statement = refl }) e
  silent_in-to w v (in_call call) m e = absurd (cc (e))
  silent_in-to w v (over how owed) m e = absurd (cc (e))

  pub silent-to : (w v : Walk) → silent_step config h stage w ≡ Some v → Silent config h stage w v
  silent-to w v e = silent_in-to w v w.mode refl e
