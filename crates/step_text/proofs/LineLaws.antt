-- What is read as the line of a step is its spelling.
use Rattle.std.proofs.Common.{◌≡◌, ℕ, ◌-◌, ◌^◌, ◌≤◌, ◌<◌, nat_le, cond, List, ◌++◌, length, Result, Ok, Err, ap, ◌∙◌, arith, subst}
use Rattle.std.specs.Prelude.{codes}
use Rattle.std.specs.Fmt.{decimal}
use Rattle.std.proofs.lemmas.Bool.{leb-true}
use Rattle.truetime.specs.Reading.{Reading, IsReading}
use Rattle.rss_machine.specs.declared.step.Step.{Step}
use Rattle.rss_machine.specs.declared.step.StepKind.{StepKind}
use Rattle.rss_machine.specs.declared.step.StepKind.TheVariants.{Act, Go, Lose, Again, Kill, Stub}
use Rattle.step_text.specs.Reading.{◌>>=◌, after_word}
use Rattle.step_text.specs.Numbers.{number_at}
use Rattle.step_text.specs.Lines.{stage_at, message_at, act_at, go_at, lose_at, again_at, kill_at, stub_at, kind_at, clock_at, step_at}
use Rattle.step_text.specs.Spelling.{kind_text, clock_text, line_of, IsKind, IsStep}
use Rattle.step_text.proofs.Parts.{bind_ok, cond_ok, ok_pair, one_of, joined}
use Rattle.step_text.proofs.NumberLaws.{word_spelled, number_spelled}

-- a word and a number are read as a kind
abbrev pub numbered_at : List ℕ → ℕ → (ℕ → StepKind) → List ℕ → Result (StepKind × List ℕ) ℕ
numbered_at word most make bytes = (after_word word bytes >>= λ rest. number_at 1 most rest) >>= λ n. Ok (make n.0, n.1)

-- the number of a kind that was read, and the text of both
pub record Numbered (word : List ℕ) (most : ℕ) (make : ℕ → StepKind) (kind : StepKind) (bytes rest : List ℕ) : Type 0 where
  pub number : ℕ
  pub is : make number ≡ kind
  pub text : bytes ≡ (word ++ decimal number) ++ rest
  pub low : 1 ≤ number
  pub high : number ≤ most

numbered_spelled : (word : List ℕ) (most : ℕ) (make : ℕ → StepKind) (kind : StepKind) (bytes rest : List ℕ) → 9 ≤ most → most < 2 ^ 64 → numbered_at word most make bytes ≡ Ok (kind, rest) → Numbered word most make kind bytes rest
numbered_spelled word most make kind bytes rest wide fits e =
    let b = bind_ok (after_word word bytes >>= λ r. number_at 1 most r) (λ (n : ℕ × List ℕ). Ok (make n.0, n.1)) (kind, rest) e in
    let a = bind_ok (after_word word bytes) (λ (r : List ℕ). number_at 1 most r) b.0 b.1 in
    let p = ok_pair (make b.0.0) kind b.0.1 rest b.2 in
    let n = number_spelled 1 most b.0.0 a.0 b.0.1 wide fits a.2 in
    record {
      number = b.0.0;
      is = p.0;
      text = joined bytes word a.0 (decimal b.0.0) b.0.1 (word_spelled word bytes a.0 a.1) n.text ∙ ap (λ (l : List ℕ). (word ++ decimal b.0.0) ++ l) p.1;
      low = n.low;
      high = n.high;
    }

-- the text of a kind that was read
pub record KindSpells (kind : StepKind) (bytes rest : List ℕ) : Type 0 where
  pub text : bytes ≡ kind_text kind ++ rest
  pub range : IsKind kind

act_spelled : (kind : StepKind) (bytes rest : List ℕ) → act_at bytes ≡ Ok (kind, rest) → KindSpells kind bytes rest
unfolding act_at stage_at kind_text IsKind
act_spelled kind bytes rest e =
    let n = numbered_spelled (codes "act ") 16 Act kind bytes rest (omega arith) (omega arith) e in
    subst (λ (k : StepKind). KindSpells k bytes rest) n.is (record { text = n.text; range = (n.low, n.high) })

go_spelled : (kind : StepKind) (bytes rest : List ℕ) → go_at bytes ≡ Ok (kind, rest) → KindSpells kind bytes rest
unfolding go_at message_at kind_text IsKind
go_spelled kind bytes rest e =
    let n = numbered_spelled (codes "go ") (2 ^ 32 - 1) Go kind bytes rest (omega arith) (omega arith) e in
    subst (λ (k : StepKind). KindSpells k bytes rest) n.is (record { text = n.text; range = (n.low, omega (arith, n.high)) })

lose_spelled : (kind : StepKind) (bytes rest : List ℕ) → lose_at bytes ≡ Ok (kind, rest) → KindSpells kind bytes rest
unfolding lose_at message_at kind_text IsKind
lose_spelled kind bytes rest e =
    let n = numbered_spelled (codes "lose ") (2 ^ 32 - 1) Lose kind bytes rest (omega arith) (omega arith) e in
    subst (λ (k : StepKind). KindSpells k bytes rest) n.is (record { text = n.text; range = (n.low, omega (arith, n.high)) })

again_spelled : (kind : StepKind) (bytes rest : List ℕ) → again_at bytes ≡ Ok (kind, rest) → KindSpells kind bytes rest
unfolding again_at message_at kind_text IsKind
again_spelled kind bytes rest e =
    let n = numbered_spelled (codes "again ") (2 ^ 32 - 1) Again kind bytes rest (omega arith) (omega arith) e in
    subst (λ (k : StepKind). KindSpells k bytes rest) n.is (record { text = n.text; range = (n.low, omega (arith, n.high)) })

kill_spelled : (kind : StepKind) (bytes rest : List ℕ) → kill_at bytes ≡ Ok (kind, rest) → KindSpells kind bytes rest
unfolding kill_at stage_at kind_text IsKind
kill_spelled kind bytes rest e =
    let n = numbered_spelled (codes "kill ") 16 Kill kind bytes rest (omega arith) (omega arith) e in
    subst (λ (k : StepKind). KindSpells k bytes rest) n.is (record { text = n.text; range = (n.low, n.high) })

stub_spelled : (kind : StepKind) (bytes rest : List ℕ) → stub_at bytes ≡ Ok (kind, rest) → KindSpells kind bytes rest
unfolding stub_at stage_at kind_text IsKind
stub_spelled kind bytes rest e =
    let n = numbered_spelled (codes "stub ") 16 Stub kind bytes rest (omega arith) (omega arith) e in
    subst (λ (k : StepKind). KindSpells k bytes rest) n.is (record { text = n.text; range = (n.low, n.high) })

kind_spelled : (kind : StepKind) (bytes rest : List ℕ) → kind_at bytes ≡ Ok (kind, rest) → KindSpells kind bytes rest
unfolding kind_at
kind_spelled kind bytes rest e =
    one_of _ (stub_at bytes) (kind, rest)
    (one_of _ (kill_at bytes) (kind, rest)
    (one_of _ (again_at bytes) (kind, rest)
    (one_of _ (lose_at bytes) (kind, rest)
    (one_of (act_at bytes) (go_at bytes) (kind, rest) (act_spelled kind bytes rest) (go_spelled kind bytes rest))
    (lose_spelled kind bytes rest))
    (again_spelled kind bytes rest))
    (kill_spelled kind bytes rest))
    (stub_spelled kind bytes rest)
    e

-- the text of a reading that was read
pub record ClockSpells (at : Reading) (bytes rest : List ℕ) : Type 0 where
  pub text : bytes ≡ clock_text at ++ rest
  pub range : IsReading at

-- the parts of a reading's text, one behind another
clock_joined : (earliest latest : ℕ) (bytes first behind second last rest : List ℕ) → bytes ≡ codes " " ++ first → first ≡ decimal earliest ++ behind → behind ≡ codes " " ++ second → second ≡ decimal latest ++ last → last ≡ codes "\n" ++ rest → bytes ≡ clock_text (record { earliest = earliest; latest = latest }) ++ rest
unfolding clock_text
clock_joined earliest latest bytes first behind second last rest a b c d f =
    let two = joined bytes (codes " ") first (decimal earliest) behind a b in
    let three = joined bytes (codes " " ++ decimal earliest) behind (codes " ") second two c in
    let four = joined bytes (codes " " ++ decimal earliest ++ codes " ") second (decimal latest) last three d in
    joined bytes (codes " " ++ decimal earliest ++ codes " " ++ decimal latest) last (codes "\n") rest four f

-- the reading that two numbers make
clock_made : (earliest latest : ℕ) (at : Reading) (bytes second behind rest : List ℕ) → latest ≤ 2 ^ 62 - 1 → bytes ≡ clock_text (record { earliest = earliest; latest = latest }) ++ behind → cond {A = Result (Reading × List ℕ) ℕ} (nat_le earliest latest) (Ok (record { earliest = earliest; latest = latest }, behind)) (Err (length second)) ≡ Ok (at, rest) → ClockSpells at bytes rest
clock_made earliest latest at bytes second behind rest high text e =
    let made : Reading = record { earliest = earliest; latest = latest } in
    let t = cond_ok (nat_le earliest latest) (Ok (made, behind)) (length second) (at, rest) e in
    let p = ok_pair made at behind rest t.1 in
    let order : earliest ≤ latest = leb-true _ _ t.0 in
    subst (λ (r : Reading). ClockSpells r bytes rest) p.0 (record {
      text = text ∙ ap (λ (l : List ℕ). clock_text made ++ l) p.1;
      range = (order, omega arith);
    })

clock_spelled : (at : Reading) (bytes rest : List ℕ) → clock_at bytes ≡ Ok (at, rest) → ClockSpells at bytes rest
unfolding clock_at
clock_spelled at bytes rest e =
    let a = bind_ok (after_word (codes " ") bytes) _ (at, rest) e in
    let b = bind_ok (number_at 0 (2 ^ 62 - 1) a.0) _ (at, rest) a.2 in
    let c = bind_ok (after_word (codes " ") b.0.1) _ (at, rest) b.2 in
    let d = bind_ok (number_at 0 (2 ^ 62 - 1) c.0) _ (at, rest) c.2 in
    let f = bind_ok (after_word (codes "\n") d.0.1) _ (at, rest) d.2 in
    let earliest = number_spelled 0 (2 ^ 62 - 1) b.0.0 a.0 b.0.1 (omega arith) (omega arith) b.1 in
    let latest = number_spelled 0 (2 ^ 62 - 1) d.0.0 c.0 d.0.1 (omega arith) (omega arith) d.1 in
    let text = clock_joined b.0.0 d.0.0 bytes a.0 b.0.1 c.0 d.0.1 f.0 (word_spelled (codes " ") bytes a.0 a.1) earliest.text (word_spelled (codes " ") b.0.1 c.0 c.1) latest.text (word_spelled (codes "\n") d.0.1 f.0 f.1) in
    clock_made b.0.0 d.0.0 at bytes c.0 f.0 rest latest.high text f.2

-- the text of a step that was read
pub record StepSpells (step : Step) (bytes rest : List ℕ) : Type 0 where
  pub text : bytes ≡ line_of step ++ rest
  pub range : IsStep step

pub step_spelled : (step : Step) (bytes rest : List ℕ) → step_at bytes ≡ Ok (step, rest) → StepSpells step bytes rest
unfolding step_at line_of
step_spelled step bytes rest e =
    let a = bind_ok (kind_at bytes) (λ (kind : StepKind × List ℕ). clock_at kind.1 >>= λ clock. Ok (record { kind = kind.0; at = clock.0 }, clock.1)) (step, rest) e in
    let b = bind_ok (clock_at a.0.1) (λ (clock : Reading × List ℕ). Ok (record { kind = a.0.0; at = clock.0 }, clock.1)) (step, rest) a.2 in
    let read : Step = record { kind = a.0.0; at = b.0.0 } in
    let p = ok_pair read step b.0.1 rest b.2 in
    let kind = kind_spelled a.0.0 bytes a.0.1 a.1 in
    let clock = clock_spelled b.0.0 a.0.1 b.0.1 b.1 in
    let text = joined bytes (kind_text a.0.0) a.0.1 (clock_text b.0.0) b.0.1 kind.text clock.text in
    subst (λ (s : Step). StepSpells s bytes rest) p.0 (record {
      text = text ∙ ap (λ (l : List ℕ). (kind_text a.0.0 ++ clock_text b.0.0) ++ l) p.1;
      range = record { kind = kind.range; at = clock.range };
    })
