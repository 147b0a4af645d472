-- Pipes of a file keep apart: the giver of each puts and closes alone, its taker takes alone, and it is closed once, behind all that is put.
use Rattle.std.proofs.Common.{◌≡◌, ℕ, zero, suc, ◌-◌, ◌<◌, ◌≤◌, ◌⊎◌, inl, inr, Bool, true, false, ◌||◌, List, [], ◌∷◌, length, get_or, refl, ap, sym, ◌∙◌, subst, arith}
use Rattle.std.specs.Prelude.{not, slice_get}
use Rattle.std.proofs.lemmas.Bool.{true≢false, false≢true}
use Rattle.pipeline_lang.specs.Config.{script_of, statement_at, ends_of, no_ends}
use Rattle.pipeline_lang.specs.declared.config.Config.{Config}
use Rattle.pipeline_lang.specs.declared.config.PipeEnds.{PipeEnds}
use Rattle.pipeline_lang.specs.declared.script.Expr.{Expr}
use Rattle.pipeline_lang.specs.declared.script.Statement.TheVariants as statement
use Rattle.rss_model.specs.Scripts.{giver_of}
use Rattle.script_binding.specs.declared.environment.Environment.{Environment}
use Rattle.script_binding.specs.Environment.{Bound, start}
use Rattle.script_binding.specs.Naming.{Naming, is_giver, is_taker, gives_to, takes_from}
use Rattle.script_binding.specs.Shapes.{has_number, is_inside, is_bad_give, is_bad_take, is_bad_close}
use Rattle.world_laws.specs.Apart.{PipesApart}
use Rattle.sound_laws.specs.Shaped.{before}
use Rattle.sound_laws.proofs.Above.{closed_above}
use Rattle.sound_laws.proofs.Bodies.{StageShaped}
use Rattle.sound_laws.proofs.Named.{HasNumbers}
use Rattle.sound_laws.proofs.Spawned.{neither, not_false, none_open, in_order, statement_shaped}

-- a stage that gives to a pipe, or takes from it, is at its end, and the pipe is there
giver_there : (stage : ℕ) (ends : List PipeEnds) (i : ℕ) → is_giver stage (slice_get ends i) ≡ true → ((get_or ends i no_ends).giver ≡ stage) × (i < length ends)
giver_there stage [] i h = absurd (false≢true h)
giver_there stage (x ∷ ends) zero h = (grind (arith, h), omega arith)
giver_there stage (x ∷ ends) (suc i) h = let k = giver_there stage ends i h in (k.0, omega (arith, k.1))

taker_there : (stage : ℕ) (ends : List PipeEnds) (i : ℕ) → is_taker stage (slice_get ends i) ≡ true → ((get_or ends i no_ends).taker ≡ stage) × (i < length ends)
taker_there stage [] i h = absurd (false≢true h)
taker_there stage (x ∷ ends) zero h = (grind (arith, h), omega arith)
taker_there stage (x ∷ ends) (suc i) h = let k = taker_there stage ends i h in (k.0, omega (arith, k.1))

up_to : (p length : ℕ) → p - 1 < length → p ≤ length
up_to p length l = omega (arith, l)

-- a stage that gives to a pipe, which is not closed above
pub record GoodGive (n : Naming) (env : Environment) (p : ℕ) : Type 0 where
  pub mine : gives_to n p ≡ true
  pub open_still : has_number p env.closed ≡ false

good_give : (n : Naming) (env : Environment) (p : ℕ) → is_bad_give n env p ≡ false → GoodGive n env p
good_give n env p h = let a = neither (not (gives_to n p)) (has_number p env.closed) h in record { mine = not_false (gives_to n p) a.0; open_still = a.1 }

put_not_close : (p q : ℕ) (formula : Expr ℕ) → ◌≡◌ {A = Bound} (statement.Close p) (statement.Put q formula) → ⊥
put_not_close p q formula e = cc

module _ (c : Config) (shaped : (n : ℕ) → 0 < n → StageShaped c n) where
  put : (n place p : ℕ) (formula : Expr ℕ) (z : 0 < n) → statement_at c n place ≡ statement.Put p formula → GoodGive (shaped n z).naming (before start (script_of c n) place) p
  put n place p formula z e = good_give (shaped n z).naming (before start (script_of c n) place) p (statement_shaped c shaped n place z (statement.Put p formula) e)

  close : (n place p : ℕ) (z : 0 < n) → statement_at c n place ≡ statement.Close p → (is_inside (before start (script_of c n) place) ≡ false) × GoodGive (shaped n z).naming (before start (script_of c n) place) p
  close n place p z e =
      let a = neither (is_inside (before start (script_of c n) place)) (is_bad_give (shaped n z).naming (before start (script_of c n) place) p) (statement_shaped c shaped n place z (statement.Close p) e) in
      (a.0, good_give (shaped n z).naming (before start (script_of c n) place) p a.1)

  -- the giver of a pipe that a stage gives to
  gives : (n p : ℕ) (z : 0 < n) → gives_to (shaped n z).naming p ≡ true → (giver_of c p ≡ n) × (p ≤ length c.pipe_ends)
  gives n p z h =
      let k = giver_there (shaped n z).naming.stage c.pipe_ends (p - 1) (subst (λ (ends : List PipeEnds). is_giver (shaped n z).naming.stage (slice_get ends (p - 1)) ≡ true) (shaped n z).ends h) in
      (k.0 ∙ (shaped n z).stage, up_to p (length c.pipe_ends) k.1)

  takes : (n p : ℕ) (z : 0 < n) → takes_from (shaped n z).naming p ≡ true → ((ends_of c p).taker ≡ n) × (p ≤ length c.pipe_ends)
  takes n p z h =
      let k = taker_there (shaped n z).naming.stage c.pipe_ends (p - 1) (subst (λ (ends : List PipeEnds). is_taker (shaped n z).naming.stage (slice_get ends (p - 1)) ≡ true) (shaped n z).ends h) in
      (k.0 ∙ (shaped n z).stage, up_to p (length c.pipe_ends) k.1)

  take : (n place variable p : ℕ) (z : 0 < n) → statement_at c n place ≡ statement.Take variable p → takes_from (shaped n z).naming p ≡ true
  take n place variable p z e = not_false (takes_from (shaped n z).naming p) (statement_shaped c shaped n place z (statement.Take variable p) e)

  -- nothing is given behind a close
  not_put : (n i j p : ℕ) (formula : Expr ℕ) → 0 < n → statement_at c n i ≡ statement.Close p → statement_at c n j ≡ statement.Put p formula → i < j → ⊥
  not_put n i j p formula z e f l = true≢false (sym (closed_above start (script_of c n) i j p l e) ∙ (put n j p formula z f).open_still)

  not_closed : (n i j p : ℕ) → 0 < n → statement_at c n i ≡ statement.Close p → statement_at c n j ≡ statement.Close p → i < j → ⊥
  not_closed n i j p z e f l = true≢false (sym (closed_above start (script_of c n) i j p l e) ∙ (close n j p z f).1.open_still)

  last_put : (n i j p : ℕ) (formula : Expr ℕ) → 0 < n → statement_at c n i ≡ statement.Close p → statement_at c n j ≡ statement.Put p formula → j < i
  last_put n i j p formula z e f = by_order (in_order i j)
    where
      by_order : (i < j) ⊎ ((i ≡ j) ⊎ (j < i)) → j < i
      by_order (inl l) = absurd (not_put n i j p formula z e f l)
      by_order (inr (inl q)) = absurd (put_not_close p p formula (sym e ∙ (ap (λ (k : ℕ). statement_at c n k) q ∙ f)))
      by_order (inr (inr l)) = l

  one_close : (n i j p : ℕ) → 0 < n → statement_at c n i ≡ statement.Close p → statement_at c n j ≡ statement.Close p → i ≡ j
  one_close n i j p z e f = by_order (in_order i j)
    where
      by_order : (i < j) ⊎ ((i ≡ j) ⊎ (j < i)) → i ≡ j
      by_order (inl l) = absurd (not_closed n i j p z e f l)
      by_order (inr (inl q)) = q
      by_order (inr (inr l)) = absurd (not_closed n j i p z f e l)

  pub pipes_apart : (stages : ℕ) → ((n place : ℕ) → HasNumbers stages (statement_at c n place)) → length c.pipe_ends ≤ 16 → ((p : ℕ) → 0 < p → p ≤ length c.pipe_ends → 0 < giver_of c p) → PipesApart c
  pipes_apart stages numbers few givers = record {
    few = few;
    givers = givers;
    put = λ n place p formula z e. let g = gives n p z (put n place p formula z e).mine in (g.0, subst (HasNumbers stages) e (numbers n place), g.1);
    close = λ n place p z e. let g = gives n p z (close n place p z e).1.mine in (g.0, subst (HasNumbers stages) e (numbers n place), g.1);
    take = λ n place variable p z e. let g = takes n p z (take n place variable p z e) in (g.0, subst (HasNumbers stages) e (numbers n place), g.1);
    outside = λ n place p z e. none_open c n place (close n place p z e).0;
    last = last_put;
    closes_once = one_close;
  }
