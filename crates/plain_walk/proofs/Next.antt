-- What the code finds is the statement that comes next; where it finds none the script is at its end, or
-- the walk is not between statements.
use Rattle.std.proofs.Common.{◌≡◌, ◌∙◌, ap, ℕ, ◌<◌, ◌≤◌, length, List, get_or, refl, Some, None, sym, ◌⊎◌, inl, inr}
use Rattle.std.proofs.lemmas.List.{get_or_past}
use Rattle.std.specs.List.{slice_get}
use Rattle.std.proofs.lemmas.Option.{get_or_from_slice_get, slice_get_cases}
use Rattle.pipeline_lang.specs.declared.config.Config.{Config}
use Rattle.pipeline_lang.specs.declared.script.Statement.TheVariants as statement
use Rattle.pipeline_lang.specs.Config.{script_of, statement_at}
use Rattle.rss_model.specs.declared.history.Entry.{Entry}
use Rattle.rss_model.specs.Cursor.{NumberedStatement}
use Rattle.rss_model.specs.Walk.{Walk, Mode, unborn, ready, in_call, over}
use Rattle.script_laws.specs.Steps.{silent_at, silent_in, silent_step}
use Rattle.script_laws.specs.Entries.{next_in, next_statement}
use Rattle.script_laws.specs.Paths.{tells_at, tells_in, tells}
use Rattle.plain_walk.specs.Found.{found_in, found_statement}

module _ (config : Config) (stage : ℕ) where
  -- past the end of a script stands an exit
  at_end : (place : ℕ) → slice_get (script_of config stage) place ≡ None → statement_at config stage place ≡ statement.Exit
  at_end place e = by_case (slice_get_cases (script_of config stage) place).1
    where
      by_case : ((x : NumberedStatement) × (place < length (script_of config stage)) × (slice_get (script_of config stage) place ≡ Some x) × (get_or (script_of config stage) place x ≡ x)) ⊎ ((length (script_of config stage) ≤ place) × (slice_get (script_of config stage) place ≡ None)) →
          statement_at config stage place ≡ statement.Exit
      by_case (inl (x, l, f, g)) = absurd (cc (e, f))
      by_case (inr (l, f)) = get_or_past (script_of config stage) place statement.Exit l

  pub found_next : (w : Walk) (s : NumberedStatement) →
      found_statement (script_of config stage) w ≡ Some s → next_statement config stage w ≡ Some s
  found_next w s e = by_mode w.mode e
    where
      by_mode : (m : Mode) → found_in m (slice_get (script_of config stage) w.cursor.position) ≡ Some s →
          next_in config stage w m ≡ Some s
      by_mode unborn f = absurd (cc (f))
      by_mode ready f =
          ap (λ x. Some x) (get_or_from_slice_get (script_of config stage) w.cursor.position s statement.Exit f)
      by_mode (in_call call) f = absurd (cc (f))
      by_mode (over how owed) f = absurd (cc (f))

  pub found_none : (w : Walk) → found_statement (script_of config stage) w ≡ None →
      (next_statement config stage w ≡ None) ⊎ (next_statement config stage w ≡ Some statement.Exit)
  found_none w e = by_mode w.mode e
    where
      by_mode : (m : Mode) → found_in m (slice_get (script_of config stage) w.cursor.position) ≡ None →
          (next_in config stage w m ≡ None) ⊎ (next_in config stage w m ≡ Some statement.Exit)
      by_mode unborn f = inl refl
      by_mode ready f = inr (ap (λ x. Some x) (at_end w.cursor.position f))
      by_mode (in_call call) f = inl refl
      by_mode (over how owed) f = inl refl

  pub silent_found : (h : List Entry) (w : Walk) (s : NumberedStatement) →
      found_statement (script_of config stage) w ≡ Some s →
      silent_step config h stage w ≡ silent_at config h stage w s
  silent_found h w s e = by_mode w.mode e
    where
      by_mode : (m : Mode) → found_in m (slice_get (script_of config stage) w.cursor.position) ≡ Some s →
          silent_in config h stage w m ≡ silent_at config h stage w s
      by_mode unborn f = absurd (cc (f))
      by_mode ready f =
          ap (silent_at config h stage w)
          (get_or_from_slice_get (script_of config stage) w.cursor.position s statement.Exit f)
      by_mode (in_call call) f = absurd (cc (f))
      by_mode (over how owed) f = absurd (cc (f))

  pub silent_none : (h : List Entry) (w : Walk) →
      found_statement (script_of config stage) w ≡ None → silent_step config h stage w ≡ None
  silent_none h w e = by_mode w.mode e
    where
      by_mode : (m : Mode) → found_in m (slice_get (script_of config stage) w.cursor.position) ≡ None →
          silent_in config h stage w m ≡ None
      by_mode unborn f = refl
      by_mode ready f = ap (silent_at config h stage w) (at_end w.cursor.position f)
      by_mode (in_call call) f = refl
      by_mode (over how owed) f = refl

  pub tells_none : (w : Walk) (pipe number : ℕ) → w.mode ≡ ready →
      found_statement (script_of config stage) w ≡ None → tells config stage w pipe number ≡ None
  tells_none w pipe number r e =
      ap (tells_in config stage w pipe number) r ∙
      ap (tells_at w pipe number)
      (at_end w.cursor.position
      (ap (λ m. found_in m (slice_get (script_of config stage) w.cursor.position)) (sym r) ∙ e))
