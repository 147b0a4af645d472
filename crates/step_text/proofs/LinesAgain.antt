-- The line of a step is read again as this step, whatever stands behind it.
use Rattle.std.proofs.Common.{◌≡◌, ℕ, ◌-◌, ◌^◌, ◌≤◌, ◌<◌, nat_le, List, ◌++◌, Result, Ok, refl, ap, ◌∙◌, append_assoc, arith}
use Rattle.std.specs.Prelude.{codes}
use Rattle.std.specs.Fmt.{decimal}
use Rattle.std.proofs.lemmas.Bool.{le-leb, cond-true}
use Rattle.truetime.specs.Reading.{Reading, IsReading}
use Rattle.rss_machine.specs.declared.step.Step.{Step}
use Rattle.rss_machine.specs.declared.step.StepKind.{StepKind}
use Rattle.rss_machine.specs.declared.step.StepKind.TheVariants.{Act, Go, Lose, Again, Kill, Stub}
use Rattle.step_text.specs.Reading.{◌>>=◌, after_word, furthest}
use Rattle.step_text.specs.Numbers.{number_at}
use Rattle.step_text.specs.Lines.{stage_at, message_at, act_at, go_at, lose_at, again_at, kill_at, stub_at, kind_at, clock_at, step_at}
use Rattle.step_text.specs.Spelling.{kind_text, clock_text, line_of, IsKind, IsStep}
use Rattle.step_text.proofs.LineLaws.{numbered_at}
use Rattle.step_text.proofs.NumbersAgain.{IsBehind, word_again, number_again}

-- a reading goes on behind a first part that does not fail
pub bind_at : {A B : Type 0} (r : Result A ℕ) (f : A → Result B ℕ) (x : A) → r ≡ Ok x → (r >>= f) ≡ f x
bind_at {A = A} r f x e = ap (λ (q : Result A ℕ). q >>= f) e

-- a word, and what is read behind it
pub word_then : {B : Type 0} (word rest : List ℕ) (f : List ℕ → Result B ℕ) → (after_word word (word ++ rest) >>= f) ≡ f rest
word_then word rest f = bind_at (after_word word (word ++ rest)) f rest (word_again word rest)

-- a number, and what is read behind it
pub number_then : {B : Type 0} (least most n : ℕ) (rest : List ℕ) (f : ℕ × List ℕ → Result B ℕ) → least ≤ 1 → least ≤ n → n ≤ most → most < 2 ^ 64 → IsBehind rest → (number_at least most (decimal n ++ rest) >>= f) ≡ f (n, rest)
number_then least most n rest f low above within fits end = bind_at (number_at least most (decimal n ++ rest)) f (n, rest) (number_again least most n rest low above within fits end)

numbered_again : (word : List ℕ) (most n : ℕ) (make : ℕ → StepKind) (rest : List ℕ) → 1 ≤ n → n ≤ most → most < 2 ^ 64 → IsBehind rest → numbered_at word most make ((word ++ decimal n) ++ rest) ≡ Ok (make n, rest)
numbered_again word most n make rest low high fits end =
    ap (numbered_at word most make) (append_assoc word (decimal n) rest) ∙ bind_at (after_word word (word ++ (decimal n ++ rest)) >>= λ r. number_at 1 most r) (λ (m : ℕ × List ℕ). Ok (make m.0, m.1)) (n, rest) (word_then word (decimal n ++ rest) (λ (r : List ℕ). number_at 1 most r) ∙ number_again 1 most n rest (omega arith) low high fits end)

act_again : (stage : ℕ) (rest : List ℕ) → 1 ≤ stage → stage ≤ 16 → IsBehind rest → act_at ((codes "act " ++ decimal stage) ++ rest) ≡ Ok (Act stage, rest)
unfolding act_at stage_at
act_again stage rest low high end = numbered_again (codes "act ") 16 stage Act rest low high (omega arith) end

go_again : (message : ℕ) (rest : List ℕ) → 1 ≤ message → message < 2 ^ 32 → IsBehind rest → go_at ((codes "go " ++ decimal message) ++ rest) ≡ Ok (Go message, rest)
unfolding go_at message_at
go_again message rest low high end = numbered_again (codes "go ") (2 ^ 32 - 1) message Go rest low (omega arith) (omega arith) end

lose_again : (message : ℕ) (rest : List ℕ) → 1 ≤ message → message < 2 ^ 32 → IsBehind rest → lose_at ((codes "lose " ++ decimal message) ++ rest) ≡ Ok (Lose message, rest)
unfolding lose_at message_at
lose_again message rest low high end = numbered_again (codes "lose ") (2 ^ 32 - 1) message Lose rest low (omega arith) (omega arith) end

again_again : (message : ℕ) (rest : List ℕ) → 1 ≤ message → message < 2 ^ 32 → IsBehind rest → again_at ((codes "again " ++ decimal message) ++ rest) ≡ Ok (Again message, rest)
unfolding again_at message_at
again_again message rest low high end = numbered_again (codes "again ") (2 ^ 32 - 1) message Again rest low (omega arith) (omega arith) end

kill_again : (stage : ℕ) (rest : List ℕ) → 1 ≤ stage → stage ≤ 16 → IsBehind rest → kill_at ((codes "kill " ++ decimal stage) ++ rest) ≡ Ok (Kill stage, rest)
unfolding kill_at stage_at
kill_again stage rest low high end = numbered_again (codes "kill ") 16 stage Kill rest low high (omega arith) end

stub_again : (stage : ℕ) (rest : List ℕ) → 1 ≤ stage → stage ≤ 16 → IsBehind rest → stub_at ((codes "stub " ++ decimal stage) ++ rest) ≡ Ok (Stub stage, rest)
unfolding stub_at stage_at
stub_again stage rest low high end = numbered_again (codes "stub ") 16 stage Stub rest low high (omega arith) end

-- the kinds in the order in which they are tried
abbrev any_of : (act go lose again kill stub : Result (StepKind × List ℕ) ℕ) → Result (StepKind × List ℕ) ℕ
any_of act go lose again kill stub = furthest (furthest (furthest (furthest (furthest act go) lose) again) kill) stub

-- the line of one kind begins with the word of no kind that is tried before it
kind_again : (kind : StepKind) (rest : List ℕ) → IsKind kind → IsBehind rest → kind_at (kind_text kind ++ rest) ≡ Ok (kind, rest)
unfolding kind_at kind_text IsKind act_at go_at lose_at again_at kill_at stub_at stage_at message_at after_word
kind_again (Act stage) rest h end = let t : List ℕ = (codes "act " ++ decimal stage) ++ rest in ap (λ (r : Result (StepKind × List ℕ) ℕ). any_of r (go_at t) (lose_at t) (again_at t) (kill_at t) (stub_at t)) (act_again stage rest h.0 h.1 end)
kind_again (Go message) rest h end = let t : List ℕ = (codes "go " ++ decimal message) ++ rest in ap (λ (r : Result (StepKind × List ℕ) ℕ). any_of (act_at t) r (lose_at t) (again_at t) (kill_at t) (stub_at t)) (go_again message rest h.0 h.1 end)
kind_again (Lose message) rest h end = let t : List ℕ = (codes "lose " ++ decimal message) ++ rest in ap (λ (r : Result (StepKind × List ℕ) ℕ). any_of (act_at t) (go_at t) r (again_at t) (kill_at t) (stub_at t)) (lose_again message rest h.0 h.1 end)
kind_again (Again message) rest h end = let t : List ℕ = (codes "again " ++ decimal message) ++ rest in ap (λ (r : Result (StepKind × List ℕ) ℕ). any_of (act_at t) (go_at t) (lose_at t) r (kill_at t) (stub_at t)) (again_again message rest h.0 h.1 end)
kind_again (Kill stage) rest h end = let t : List ℕ = (codes "kill " ++ decimal stage) ++ rest in ap (λ (r : Result (StepKind × List ℕ) ℕ). any_of (act_at t) (go_at t) (lose_at t) (again_at t) r (stub_at t)) (kill_again stage rest h.0 h.1 end)
kind_again (Stub stage) rest h end = let t : List ℕ = (codes "stub " ++ decimal stage) ++ rest in ap (λ (r : Result (StepKind × List ℕ) ℕ). any_of (act_at t) (go_at t) (lose_at t) (again_at t) (kill_at t) r) (stub_again stage rest h.0 h.1 end)

regrouped : (a b c d e rest : List ℕ) → ((((a ++ b) ++ c) ++ d) ++ e) ++ rest ≡ a ++ (b ++ (c ++ (d ++ (e ++ rest))))
regrouped a b c d e rest = simp append_assoc

-- the reading of the clock behind its first end
clock_from : (earliest latest : ℕ) (rest : List ℕ) → earliest ≤ latest → latest < 2 ^ 62 → clock_at (codes " " ++ (decimal earliest ++ (codes " " ++ (decimal latest ++ (codes "\n" ++ rest))))) ≡ Ok (record { earliest = earliest; latest = latest }, rest)
unfolding clock_at
clock_from earliest latest rest order high =
    let last : List ℕ = codes "\n" ++ rest in
    let second : List ℕ = decimal latest ++ last in
    let behind : List ℕ = codes " " ++ second in
    word_then (codes " ") (decimal earliest ++ behind) _ ∙ number_then 0 (2 ^ 62 - 1) earliest behind _ (omega arith) (omega arith) (omega arith) (omega arith) refl ∙ word_then (codes " ") second _ ∙ number_then 0 (2 ^ 62 - 1) latest last _ (omega arith) (omega arith) (omega arith) (omega arith) refl ∙ word_then (codes "\n") rest _ ∙ cond-true (nat_le earliest latest) _ _ (le-leb _ _ order)

clock_again : (at : Reading) (rest : List ℕ) → IsReading at → clock_at (clock_text at ++ rest) ≡ Ok (at, rest)
unfolding clock_text
clock_again at rest h = ap clock_at (regrouped (codes " ") (decimal at.earliest) (codes " ") (decimal at.latest) (codes "\n") rest) ∙ clock_from at.earliest at.latest rest h.0 h.1

clock_behind : (at : Reading) (rest : List ℕ) → IsBehind (clock_text at ++ rest)
unfolding clock_text
clock_behind at rest = refl

pub step_again : (step : Step) (rest : List ℕ) → IsStep step → step_at (line_of step ++ rest) ≡ Ok (step, rest)
unfolding step_at line_of
step_again step rest h =
    let clock : List ℕ = clock_text step.at ++ rest in
    ap step_at (append_assoc (kind_text step.kind) (clock_text step.at) rest) ∙ bind_at (kind_at (kind_text step.kind ++ clock)) _ (step.kind, clock) (kind_again step.kind clock h.kind (clock_behind step.at rest)) ∙ bind_at (clock_at clock) _ (step.at, rest) (clock_again step.at rest h.at)
