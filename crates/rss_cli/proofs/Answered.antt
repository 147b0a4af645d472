-- The report of a World that has made all steps is the answer to them.
use Rattle.std.proofs.Common.{◌≡◌, ℕ, inl, List, [], ◌∷◌, Option, Some, None, Ok, Err, All, IfOk, refl, ap, sym, ◌∙◌, subst, arith}
use Rattle.std.specs.Prelude.{Result}
use Rattle.pipeline_lang.specs.declared.config.Config.{Config}
use Rattle.rss_machine.specs.Endings.{ending_of}
use Rattle.rss_machine.specs.Headline.{KeepsPromise}
use Rattle.rss_machine.specs.Run.{run, steps_of}
use Rattle.rss_machine.specs.Serial.{serial}
use Rattle.rss_machine.specs.State.{State}
use Rattle.rss_machine.specs.declared.ending.Ending.{Ending}
use Rattle.rss_machine.specs.declared.ending.Ending.TheVariants as ending
use Rattle.rss_machine.specs.declared.step.Step.{Step}
use Rattle.step_text.specs.Spelling.{IsStep}
use Rattle.ending_laws.proofs.Calm.{unhurt}
use Rattle.ending_laws.proofs.Strays.{serial_straight}
use Rattle.ending_laws.proofs.Stuck.{never_unfinished}
use Rattle.world_laws.specs.Shapes.{IsSoundFile}
use Rattle.event_world.specs.World.{WorldView}
use Rattle.serial_run.specs.Made.{IsSerial, made_by}
use Rattle.command_words.specs.declared.command.Form.{Form}
use Rattle.rss_cli.specs.Answer.{IsPlayed, IsReported, IsTold, IsWholeReport, Tells}
use Rattle.rss_cli.specs.Disk.{IsDiskAnswer, TellsDisk}
use Rattle.rss_cli.specs.Played.{HasPlayed}
use Rattle.rss_cli.specs.Reported.{IsReport}
use Rattle.rss_cli.specs.Statuses.{status_of}
use Rattle.rss_cli.specs.declared.answer.Answer.{Answer}
use Rattle.rss_cli.specs.declared.asked.Asked.{Asked}
use Rattle.rss_cli.specs.declared.asked.Asked.TheVariants as asked
use Rattle.rss_cli.specs.declared.status.Status.{Status}
use Rattle.rss_cli.specs.declared.status.Status.TheVariants.{Unfinished}
use Rattle.rss_cli.proofs.Plays.{steps_replayed}
use Rattle.rss_cli.proofs.Promised.{keeps_promise, policy_keeps_promise}

-- the state of an option, if it has one
abbrev held : Option State → State → State
held (Some s) other = s
held None other = other

-- a run leads to one state
pub same_state : (c : Config) (steps : List Step) (s t : State) → run c steps ≡ Some s → run c steps ≡ Some t → s ≡ t
same_state c steps s t e f = ap (λ (o : Option State). held o s) (sym e ∙ f)

-- what is told of a World that these steps lead to, and whose log they are
reported : (form : Form) (c : Config) (steps : List Step) (w : WorldView) (text : List ℕ) (status : Status) → KeepsPromise c steps → run c steps ≡ Some w.state → w.config ≡ c → steps_of w.log ≡ steps → IsReport form w.config w.state (steps_of w.log) text → status ≡ status_of (ending_of w.config w.state) → IsReported form c steps text status
reported form c steps w text status k runs config log report ending =
    let same : w.state ≡ k.state = same_state c steps w.state k.state runs k.runs in
    record {
      promise = k;
      report = subst (λ (s : State). IsReport form c s steps text) same (subst (λ (d : Config). IsReport form d w.state steps text) config (subst (λ (l : List Step). IsReport form w.config w.state l text) log report));
      ending = subst (λ (s : State). status ≡ status_of (ending_of c s)) same (subst (λ (d : Config). status ≡ status_of (ending_of d w.state)) config ending);
    }

-- the steps of the log of a World that has made these
log_is : (c : Config) (steps : List Step) (w : WorldView) → HasPlayed c steps w → steps_of w.log ≡ steps
log_is c steps w p = ap steps_of p.log ∙ steps_replayed steps

is_reported : (form : Form) (c : Config) (steps : List Step) (w : WorldView) (text : List ℕ) (status : Status) → IsSoundFile c → All IsStep steps → HasPlayed c steps w → IsReport form w.config w.state (steps_of w.log) text → status ≡ status_of (ending_of w.config w.state) → IsReported form c steps text status
is_reported form c steps w text status f grammar p report ending =
    reported form c steps w text status (keeps_promise c steps w.state f grammar p.run.runs) p.run.runs p.config (log_is c steps w p) report ending

-- what is told of a disk is so of the steps that the World has made
is_disk_answer : (replica stop : ℕ) (c : Config) (steps : List Step) (w : WorldView) (text : List ℕ) (status : Status) → HasPlayed c steps w → TellsDisk replica stop w.config w.state (steps_of w.log) text status → IsDiskAnswer replica stop c steps text status
is_disk_answer replica stop c steps w text status p told = record {
  state = w.state;
  run = p.run;
  told = subst (λ (d : Config). TellsDisk replica stop d w.state steps text status) p.config (subst (λ (l : List Step). TellsDisk replica stop w.config w.state l text status) (log_is c steps w p) told);
}

is_told : (what : Asked) (c : Config) (steps : List Step) (w : WorldView) (text : List ℕ) (status : Status) → IsSoundFile c → All IsStep steps → HasPlayed c steps w → Tells what w.config w.state (steps_of w.log) text status → IsTold what c steps text status
is_told (asked.Report form) c steps w text status f grammar p told = is_reported form c steps w text status f grammar p told.0 told.1
is_told (asked.Disk replica stop) c steps w text status f grammar p told = is_disk_answer replica stop c steps w text status p told

pub all_told : {E : Type 0} (what : Asked) (c : Config) (steps : List Step) (w : WorldView) (r : Result Answer E) → IsSoundFile c → All IsStep steps → HasPlayed c steps w → IfOk r (λ a. Tells what w.config w.state (steps_of w.log) a.text.items a.status) → IfOk r (λ a. IsPlayed what c steps a.text.items a.status)
all_told what c steps w (Ok a) f grammar p told = inl (is_told what c steps w a.text.items a.status f grammar p told)
all_told what c steps w (Err e) f grammar p told = told

-- the file of a World that has made all steps is sound
pub world_sound : (c : Config) (steps : List Step) (w : WorldView) → IsSoundFile c → HasPlayed c steps w → IsSoundFile w.config
world_sound c steps w f p = subst (λ (d : Config). IsSoundFile d) (sym p.config) f

-- the steps that a driver made are these
steps_made : (driver : ℕ) (steps : List Step) → steps_of (made_by driver steps) ≡ steps
steps_made driver [] = refl
steps_made driver (step ∷ steps) = ap (λ (rest : List Step). step ∷ rest) (steps_made driver steps)

-- an ending that is not unfinished gives another status
not_unfinished : (e : Ending) (status : Status) → (e ≡ ending.Unfinished → ⊥) → status ≡ status_of e → status ≡ Unfinished → ⊥
not_unfinished ending.Done status never is u = grind (arith, is, u)
not_unfinished ending.Hurt status never is u = grind (arith, is, u)
not_unfinished ending.Limit status never is u = grind (arith, is, u)
not_unfinished ending.Stuck status never is u = grind (arith, is, u)
not_unfinished ending.Unfinished status never is u = never refl

-- and what is told of a World that has made the steps of the policy
whole_report : (form : Form) (c : Config) (w : WorldView) (text : List ℕ) (status : Status) → IsSoundFile c → IsSerial c w → IsReport form w.config w.state (steps_of w.log) text → status ≡ status_of (ending_of w.config w.state) → IsWholeReport form c text status
whole_report form c w text status f p report ending =
    let k = policy_keeps_promise c w.state f p.runs in
    let told = reported form c (serial c) w text status k p.runs p.config (ap steps_of p.log ∙ steps_made 0 (serial c)) report ending in
    record {
      reported = told;
      finished = not_unfinished (ending_of c told.promise.state) status (never_unfinished c f told.promise.state told.promise.runs) told.ending;
      unhurt = λ calm. unhurt c calm (serial c) told.promise.state told.promise.runs (serial_straight c);
    }

pub policy_reported : {E : Type 0} (form : Form) (c : Config) (w : WorldView) (r : Result Answer E) → IsSoundFile c → IsSerial c w → IfOk r (λ a. IsReport form w.config w.state (steps_of w.log) a.text.items) → IfOk r (λ a. a.status ≡ status_of (ending_of w.config w.state)) → IfOk r (λ a. IsWholeReport form c a.text.items a.status)
policy_reported form c w (Ok a) f p report ending = whole_report form c w a.text.items a.status f p report ending
policy_reported form c w (Err e) f p report ending = report
