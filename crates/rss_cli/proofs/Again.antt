-- A printed log replays to the report of the same steps.
use Rattle.std.proofs.Common.{◌≡◌, ◌⊎◌, inl, inr, ℕ, ◌+◌, ◌<◌, ◌≤◌, Bool, true, false, cond, List, ◌∷◌, ◌++◌, length, Ok, Err, Some, None, All, refl, sym, ap, ◌∙◌, subst, arith, length-append}
use Rattle.std.proofs.lemmas.Bool.{true≢false}
use Rattle.std.proofs.lemmas.Bool.Decides.{nat_tests}
use Rattle.std.specs.Prelude.{⊤, Result, codes, nat_le}
use Rattle.command_words.specs.declared.command.Form.{Form}
use Rattle.command_words.specs.declared.command.Form.TheVariants.{Log}
use Rattle.file_laws.proofs.Went.{went}
use Rattle.log_laws.specs.Laws.{IsWholeFile, AreParts, tail_of}
use Rattle.log_laws.proofs.Lengths.{printed_short}
use Rattle.log_laws.proofs.Reading.{read_alone}
use Rattle.log_laws.proofs.Splitting.{printed_split}
use Rattle.pipeline_file.specs.Document.{short, config_of}
use Rattle.pipeline_lang.specs.declared.config.Config.{Config}
use Rattle.pipeline_tables.specs.declared.fault.FileFault.{FileFault}
use Rattle.rss_machine.specs.Endings.{ending_of}
use Rattle.rss_machine.specs.Refusal.{refusal}
use Rattle.rss_machine.specs.Run.{run}
use Rattle.rss_machine.specs.State.{State}
use Rattle.rss_machine.specs.declared.step.Step.{Step}
use Rattle.rss_machine.specs.declared.step.StepRefusal.{StepRefusal}
use Rattle.step_text.specs.Spelling.{IsStep, text_of}
use Rattle.world_laws.specs.Shapes.{IsSoundFile}
use Rattle.world_laws.proofs.Clock.{run_counted}
use Rattle.world_laws.proofs.Looks.{none_is_not}
use Rattle.world_laws.proofs.Runs.{run_split, run_rest}
use Rattle.rss_cli.specs.Again.{IsToldAgain, IsReplayable}
use Rattle.rss_cli.specs.Answer.{IsReported, IsRefusedStep, IsPlayed, IsSpelled, IsOffGrammar, IsStepsAnswer, IsValidFile, IsFaultyFile, IsFileAnswer, AreStepsTooLong, IsReplayed, IsRead, IsTooLong}
use Rattle.rss_cli.specs.Played.{IsFirstRefused}
use Rattle.rss_cli.specs.Statuses.{status_of}
use Rattle.rss_cli.specs.declared.asked.Asked.TheVariants.{Report}
use Rattle.rss_cli.specs.declared.status.Status.{Status}
use Rattle.rss_cli.proofs.Answered.{same_state}
use Rattle.rss_cli.proofs.Promised.{read_sound}

-- a file that is read has at most a MiB
file_short : (file : List ℕ) (c : Config) → config_of file ≡ Ok c → length file ≤ 1048576
unfolding config_of
file_short file c e = let fits = went (short file) _ c e in by_test (nat_le (length file) 1048576) _ refl fits.0 fits.1.0
  where
    by_test : (b : Bool) (first : FileFault) → nat_le (length file) 1048576 ≡ b → (x : ⊤) → cond b (Ok tt) (Err first) ≡ Ok x → length file ≤ 1048576
    by_test true first t x e = grind (arith, nat_tests, t)
    by_test false first t x e = absurd cc

-- one configuration is said
same_config : (a b : Config) (r : Result Config FileFault) → r ≡ Ok a → r ≡ Ok b → b ≡ a
same_config a b r e f = cc

faulty_not : (a : Config) (first : FileFault) (r : Result Config FileFault) → r ≡ Ok a → r ≡ Err first → ⊥
faulty_not a first r e f = absurd cc

-- of steps that are a run none is refused
run_refused : (c : Config) (steps : List Step) (s : State) (n : ℕ) (cause : StepRefusal) → run c steps ≡ Some s → IsFirstRefused c steps n cause → ⊥
run_refused c steps s n cause e f =
    let whole : run c (f.front ++ f.step ∷ f.rest) ≡ Some s = subst (λ (xs : List Step). run c xs ≡ Some s) f.steps_are e in
    let rest = run_split c f.front (f.step ∷ f.rest) f.state s f.runs whole in
    none_is_not cause (sym (run_rest c f.state f.step f.rest s rest).0 ∙ f.refused)

module _ (c : Config) (file : List ℕ) (steps : List Step) (text : List ℕ) (status : Status) (w : IsWholeFile file) (says : config_of file ≡ Ok c) (grammar : All IsStep steps) (told : IsReported Log c steps text status) where
  few : length steps ≤ 200000
  few =
      let k = run_counted c steps told.promise.state told.promise.runs in
      let b = (read_sound file c says).within.steps in
      let e = k.0 in let l = k.1 in omega (arith, e, l, b)

  steps_short : length (text_of steps) ≤ 11400000
  steps_short = printed_short steps grammar few

  again_reported : (form : Form) (again : List ℕ) (other : Status) → IsReported form c steps again other → IsToldAgain form c steps status again other
  again_reported form again other r = record {
    reported = r;
    same = r.ending ∙ ap (λ (s : State). status_of (ending_of c s)) (same_state c steps r.promise.state told.promise.state r.promise.runs told.promise.runs) ∙ sym told.ending;
  }

  again_played : (form : Form) (again : List ℕ) (other : Status) → IsPlayed (Report form) c steps again other → IsToldAgain form c steps status again other
  again_played form again other (inl r) = again_reported form again other r
  again_played form again other (inr r) = absurd (run_refused c steps told.promise.state r.number r.cause told.promise.runs r.first)

  again_spelled : (form : Form) (again : List ℕ) (other : Status) → IsSpelled (Report form) c (text_of steps) again other → IsToldAgain form c steps status again other
  again_spelled form again other r =
      let same = (read_alone steps grammar).alone r.steps r.grammar r.spelled in
      again_played form again other (subst (λ (xs : List Step). IsPlayed (Report form) c xs again other) (sym same) r.played)

  again_steps : (form : Form) (again : List ℕ) (other : Status) → IsStepsAnswer (Report form) c (text_of steps) again other → IsToldAgain form c steps status again other
  again_steps form again other (inl r) = again_spelled form again other r
  again_steps form again other (inr r) = absurd ((read_alone steps grammar).no_bad r.number r.column r.bad)

  again_file : (form : Form) (again : List ℕ) (other : Status) → (IsValidFile (Report form) file (text_of steps) again other ⊎ IsFaultyFile file again other) → IsToldAgain form c steps status again other
  again_file form again other (inl r) =
      let same : r.config ≡ c = same_config c r.config (config_of file) says r.says in
      again_steps form again other (subst (λ (d : Config). IsStepsAnswer (Report form) d (text_of steps) again other) same r.answer)
  again_file form again other (inr r) = absurd (faulty_not c r.first (config_of file) says r.says)

  again_parts : (form : Form) (again : List ℕ) (other : Status) → IsReplayed (Report form) file (text_of steps) again other → IsToldAgain form c steps status again other
  again_parts form again other (inl r) = again_file form again other r.answer
  again_parts form again other (inr r) = let l = steps_short in let m = r.long in absurd (omega (arith, l, m))

  again_read : (form : Form) (again : List ℕ) (other : Status) → IsRead (Report form) (file ++ tail_of steps) again other → IsToldAgain form c steps status again other
  again_read form again other r =
      let parts = printed_split file (text_of steps) r.file r.behind w r.parts in
      again_parts form again other (subst (λ (xs : List ℕ). IsReplayed (Report form) xs (text_of steps) again other) parts.file_is (subst (λ (xs : List ℕ). IsReplayed (Report form) r.file xs again other) parts.steps_are r.replayed))

  tail_short : length (file ++ tail_of steps) ≤ 17825799
  tail_short =
      let a = length-append file (tail_of steps) in
      let b = length-append (codes "%steps\n") (text_of steps) in
      let l = steps_short in let m = file_short file c says in
      by_sum (length (file ++ tail_of steps)) (length file) (length (tail_of steps)) (length (text_of steps)) a b l m
    where
      by_sum : (n f t s : ℕ) → n ≡ f + t → t ≡ 7 + s → s ≤ 11400000 → f ≤ 1048576 → n ≤ 17825799
      by_sum n f t s a b l m = omega (arith, a, b, l, m)

  pub replayable : IsReplayable c file steps status
  replayable = record {
    answers = again_read;
    short = λ again other r. let l = tail_short in let m = r.long in absurd (omega (arith, l, m));
  }
