-- What givers tell and takers take is what the model lets them.
use Rattle.std.proofs.Common.{◌≡◌, ◌∙◌, sym, ap, ℕ, ◌+◌, List, [], ◌∷◌, get_or, refl, subst, Some, None}
use Rattle.std.specs.Prelude.{◌&&◌, ◌==◌, Option}
use Rattle.std.proofs.lemmas.Bool.Decides.{Decides-eqb, Decides-and}
use Rattle.pipeline_lang.specs.declared.config.Config.{Config}
use Rattle.pipeline_lang.specs.declared.script.Statement.TheVariants as statement
use Rattle.pipeline_lang.specs.Config.{statement_at}
use Rattle.rss_model.specs.Tokens.{same_token}
use Rattle.rss_model.specs.declared.history.Entry.{Entry}
use Rattle.rss_model.specs.declared.history.Token.TheVariants as token
use Rattle.rss_model.specs.Formula.{formula_value}
use Rattle.rss_model.specs.Cursor.{NumberedStatement}
use Rattle.rss_model.specs.Scripts.{giver_of}
use Rattle.rss_model.specs.Walk.{Walk, Mode, unborn, ready, in_call, over, IsNext, next_given, after_chunk}
use Rattle.rss_model.specs.Given.{Puts, Marks, by_close, when_over}
use Rattle.rss_model.specs.Walked.{Takes, chunk, end_mark}
use Rattle.script_laws.specs.Entries.{next_statement}
use Rattle.script_laws.specs.Paths.{tells_at, tells_in, tells, took, takes_at, take_step}
use Rattle.script_laws.proofs.EntrySteps.{token-Decides, taken_if, chosen_if, next-to, next-from}

-- a giver tells this where it stands
abbrev Tells : Config → ℕ → Walk → ℕ → ℕ → Option ℕ → Type 0
Tells config giver w pipe number None = Marks config giver w pipe number
Tells config giver w pipe number (Some value) = Puts config giver w pipe number value

module _ (config : Config) (giver : ℕ) where
  told_at : (w : Walk) (pipe number : ℕ) (value : Option ℕ) (s : NumberedStatement) →
      IsNext config giver w s → tells_at w pipe number s ≡ Some value →
      Tells config giver w pipe number value
  told_at w pipe number value (statement.Let variable formula) n e = absurd (cc (e))
  told_at w pipe number value (statement.Read variable key) n e = absurd (cc (e))
  told_at w pipe number value (statement.Write key formula) n e = absurd (cc (e))
  told_at w pipe number value (statement.Snap pairs) n e = absurd (cc (e))
  told_at w pipe number value (statement.Txn pairs guard writes) n e = absurd (cc (e))
  told_at w pipe number value (statement.Spawn child) n e = absurd (cc (e))
  told_at w pipe number value (statement.Wait child) n e = absurd (cc (e))
  told_at w pipe number value (statement.Put p formula) n e =
      let at = taken_if ((p == pipe) && (number == next_given w pipe)) (Some (formula_value formula w.cursor.variables)) value e in
      let parts = (Decides-and (p == pipe) (number == next_given w pipe) (Decides-eqb p pipe) (Decides-eqb number (next_given w pipe))).0 at.0 in
      let puts : Puts config giver w pipe number (formula_value formula w.cursor.variables) =
      record {
        formula = formula;
        next = subst (λ x. IsNext config giver w (statement.Put x formula)) parts.0 n;
        numbered = parts.1;
        valued = refl;
      } in
      subst (Tells config giver w pipe number) at.1 puts
  told_at w pipe number value (statement.Take variable p) n e = absurd (cc (e))
  told_at w pipe number value (statement.Close p) n e =
      let at = taken_if ((p == pipe) && (number == next_given w pipe)) None value e in
      let parts = (Decides-and (p == pipe) (number == next_given w pipe) (Decides-eqb p pipe) (Decides-eqb number (next_given w pipe))).0 at.0 in
      let marks : Marks config giver w pipe number =
      by_close (subst (λ x. IsNext config giver w (statement.Close x)) parts.0 n) parts.1 in
      subst (Tells config giver w pipe number) at.1 marks
  told_at w pipe number value statement.Fence n e = absurd (cc (e))
  told_at w pipe number value (statement.Repeat turns) n e = absurd (cc (e))
  told_at w pipe number value (statement.When test) n e = absurd (cc (e))
  told_at w pipe number value statement.End n e = absurd (cc (e))
  told_at w pipe number value statement.Exit n e = absurd (cc (e))

  told_in : (w : Walk) (pipe number : ℕ) (value : Option ℕ) (m : Mode) → w.mode ≡ m →
      tells_in config giver w pipe number m ≡ Some value → Tells config giver w pipe number value
  told_in w pipe number value unborn m e = absurd (cc (e))
  told_in w pipe number value ready m e =
      told_at w pipe number value (statement_at config giver w.cursor.position)
      (record { ready = m; statement = refl }) e
  told_in w pipe number value (in_call call) m e = absurd (cc (e))
  told_in w pipe number value (over how []) m e = absurd (cc (e))
  told_in w pipe number value (over how (o ∷ owed)) m e =
      let at = taken_if (same_token o (token.Chunk pipe number)) None value e in
      let same : o ≡ token.Chunk pipe number = (token-Decides o (token.Chunk pipe number)).0 at.0 in
      let marks : Marks config giver w pipe number =
      when_over (m ∙ ap (λ x. over how (x ∷ owed)) same) in
      subst (Tells config giver w pipe number) at.1 marks

  pub tells-to : (w : Walk) (pipe number : ℕ) (value : Option ℕ) →
      tells config giver w pipe number ≡ Some value → Tells config giver w pipe number value
  tells-to w pipe number value e = told_in w pipe number value w.mode refl e

  pub tells-from : (w : Walk) (pipe number : ℕ) (value : Option ℕ) →
      Tells config giver w pipe number value → tells config giver w pipe number ≡ Some value
  tells-from w pipe number None (by_close n e) =
      rw (n.ready, n.statement, (Decides-eqb pipe pipe).1 refl, (Decides-eqb number (next_given w pipe)).1 e) refl
  tells-from w pipe number None (when_over m) =
      rw (m, (token-Decides (token.Chunk pipe number) (token.Chunk pipe number)).1 refl) refl
  tells-from w pipe number (Some value) p =
      rw (p.next.ready, p.next.statement, (Decides-eqb pipe pipe).1 refl, (Decides-eqb number (next_given w pipe)).1 p.numbered)
      (ap (λ x. Some (Some x)) (sym p.valued))

module _ (config : Config) (h : List Entry) (stage : ℕ) where
  took_by : (giving w v : Walk) (variable pipe number : ℕ) (value : Option ℕ) →
      Tells config (giver_of config pipe) giving pipe number value →
      IsNext config stage w (statement.Take variable pipe) →
      took w variable pipe number value ≡ Some v → Takes config h stage pipe number giving w v
  took_by giving w v variable pipe number None t n e =
      subst (Takes config h stage pipe number giving w) (cc (e)) (end_mark n t)
  took_by giving w v variable pipe number (Some value) t n e =
      let at = taken_if (number == get_or w.taken pipe 0 + 1) (after_chunk w variable pipe number value) v e in
      subst (Takes config h stage pipe number giving w) at.1
      (chunk n ((Decides-eqb number (get_or w.taken pipe 0 + 1)).0 at.0) t)

  took_at : (giving w v : Walk) (pipe number : ℕ) (value : Option ℕ) (s : NumberedStatement) →
      Tells config (giver_of config pipe) giving pipe number value → IsNext config stage w s →
      takes_at w pipe number value (Some s) ≡ Some v → Takes config h stage pipe number giving w v
  took_at giving w v pipe number value (statement.Let variable formula) t n e = absurd (cc (e))
  took_at giving w v pipe number value (statement.Read variable key) t n e = absurd (cc (e))
  took_at giving w v pipe number value (statement.Write key formula) t n e = absurd (cc (e))
  took_at giving w v pipe number value (statement.Snap pairs) t n e = absurd (cc (e))
  took_at giving w v pipe number value (statement.Txn pairs guard writes) t n e = absurd (cc (e))
  took_at giving w v pipe number value (statement.Spawn child) t n e = absurd (cc (e))
  took_at giving w v pipe number value (statement.Wait child) t n e = absurd (cc (e))
  took_at giving w v pipe number value (statement.Put p formula) t n e = absurd (cc (e))
  took_at giving w v pipe number value (statement.Take variable p) t n e =
      let at = chosen_if (p == pipe) (took w variable pipe number value) v e in
      took_by giving w v variable pipe number value t
      (subst (λ x. IsNext config stage w (statement.Take variable x)) ((Decides-eqb p pipe).0 at.0) n) at.1
  took_at giving w v pipe number value (statement.Close p) t n e = absurd (cc (e))
  took_at giving w v pipe number value statement.Fence t n e = absurd (cc (e))
  took_at giving w v pipe number value (statement.Repeat turns) t n e = absurd (cc (e))
  took_at giving w v pipe number value (statement.When test) t n e = absurd (cc (e))
  took_at giving w v pipe number value statement.End t n e = absurd (cc (e))
  took_at giving w v pipe number value statement.Exit t n e = absurd (cc (e))

  took_next : (giving w v : Walk) (pipe number : ℕ) (value : Option ℕ) (o : Option NumberedStatement) →
      Tells config (giver_of config pipe) giving pipe number value →
      next_statement config stage w ≡ o → takes_at w pipe number value o ≡ Some v →
      Takes config h stage pipe number giving w v
  took_next giving w v pipe number value None t n e = absurd (cc (e))
  took_next giving w v pipe number value (Some s) t n e =
      took_at giving w v pipe number value s t (next-to config h stage 0 w s n) e

  -- what is taken of what a giver tells is a take
  pub take-to : (giving w v : Walk) (pipe number : ℕ) (value : Option ℕ) →
      tells config (giver_of config pipe) giving pipe number ≡ Some value →
      take_step config stage w pipe number value ≡ Some v → Takes config h stage pipe number giving w v
  take-to giving w v pipe number value t e =
      took_next giving w v pipe number value (next_statement config stage w)
      (tells-to config (giver_of config pipe) giving pipe number value t) refl e

  -- and each take is one
  pub record IsTaken (giving w v : Walk) (pipe number : ℕ) : Type 0 where
    pub value : Option ℕ
    pub told : tells config (giver_of config pipe) giving pipe number ≡ Some value
    pub steps : take_step config stage w pipe number value ≡ Some v

  pub take-from : (giving w v : Walk) (pipe number : ℕ) → Takes config h stage pipe number giving w v →
      IsTaken giving w v pipe number
  take-from giving w v pipe number (chunk {variable = variable} {value = value} n e p) =
      record {
        value = Some value;
        told = tells-from config (giver_of config pipe) giving pipe number (Some value) p;
        steps =
            rw (
              next-from config h stage 0 w (statement.Take variable pipe) n,
              (Decides-eqb pipe pipe).1 refl,
              (Decides-eqb number (get_or w.taken pipe 0 + 1)).1 e,
            ) refl;
      }
  take-from giving w v pipe number (end_mark {variable = variable} n m) =
      record {
        value = None;
        told = tells-from config (giver_of config pipe) giving pipe number None m;
        steps =
            rw (next-from config h stage 0 w (statement.Take variable pipe) n, (Decides-eqb pipe pipe).1 refl) refl;
      }
