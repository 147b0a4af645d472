-- How long the text of steps can be.
use Rattle.std.proofs.Common.{◌≡◌, ℕ, zero, suc, ◌+◌, ◌*◌, ◌<◌, ◌≤◌, ◌^◌, List, [], ◌∷◌, ◌++◌, length, All, ap, ◌∙◌, arith, length-append}
use Rattle.std.proofs.lemmas.Fmt.{length-decimal-le}
use Rattle.std.specs.Fmt.{decimal}
use Rattle.std.specs.Prelude.{codes}
use Rattle.truetime.specs.Reading.{Reading, IsReading}
use Rattle.rss_machine.specs.declared.step.Step.{Step}
use Rattle.rss_machine.specs.declared.step.StepKind.{StepKind}
use Rattle.rss_machine.specs.declared.step.StepKind.TheVariants.{Act, Go, Lose, Again, Kill, Stub}
use Rattle.step_text.specs.Spelling.{kind_text, clock_text, line_of, text_of, IsKind, IsStep}

-- a word of at most six bytes and a number of a kind
numbered : (word : List ℕ) (n : ℕ) → length word ≤ 6 → n < 2 ^ 32 → length (word ++ decimal n) ≤ 16
numbered word n l m =
    let e = length-append word (decimal n) in
    let d = length-decimal-le 10 n (omega arith) (omega (arith, m)) (omega (arith, m)) in
    omega (arith, e, d, l)

kind_short : (kind : StepKind) → IsKind kind → length (kind_text kind) ≤ 16
unfolding kind_text IsKind
kind_short (Act n) k = numbered (codes "act ") n (omega arith) (omega (arith, k.1))
kind_short (Go m) k = numbered (codes "go ") m (omega arith) k.1
kind_short (Lose m) k = numbered (codes "lose ") m (omega arith) k.1
kind_short (Again m) k = numbered (codes "again ") m (omega arith) k.1
kind_short (Kill n) k = numbered (codes "kill ") n (omega arith) (omega (arith, k.1))
kind_short (Stub n) k = numbered (codes "stub ") n (omega arith) (omega (arith, k.1))

-- five texts behind each other
five : (a b c d e : List ℕ) → length (a ++ b ++ c ++ d ++ e) ≡ length a + length b + length c + length d + length e
five a b c d e =
    length-append (a ++ b ++ c ++ d) e
    ∙ ap (λ (n : ℕ). n + length e) (length-append (a ++ b ++ c) d ∙ ap (λ (n : ℕ). n + length d) (length-append (a ++ b) c ∙ ap (λ (n : ℕ). n + length c) (length-append a b)))

-- a reading's numbers have nineteen digits at most
clock_short : (at : Reading) → IsReading at → length (clock_text at) ≤ 41
unfolding clock_text
clock_short at r =
    let low : at.latest < 2 ^ 62 = r.1 in
    let first = length-decimal-le 19 at.earliest (omega arith) (omega (arith, r.0, low)) (omega (arith, r.0, low)) in
    let last = length-decimal-le 19 at.latest (omega arith) (omega (arith, low)) (omega (arith, low)) in
    let n : length (clock_text at) ≡ 1 + length (decimal at.earliest) + 1 + length (decimal at.latest) + 1 = five (codes " ") (decimal at.earliest) (codes " ") (decimal at.latest) (codes "\n") in
    by_sum (length (clock_text at)) (length (decimal at.earliest)) (length (decimal at.latest)) n first last
  where
    by_sum : (n a b : ℕ) → n ≡ 1 + a + 1 + b + 1 → a ≤ 19 → b ≤ 19 → n ≤ 41
    by_sum n a b e l m = omega (arith, e, l, m)

line_short : (step : Step) → IsStep step → length (line_of step) ≤ 57
unfolding line_of
line_short step g =
    let e = length-append (kind_text step.kind) (clock_text step.at) in
    let k = kind_short step.kind g.kind in
    let c = clock_short step.at g.at in
    omega (arith, e, k, c)

text_short : (steps : List Step) → All IsStep steps → length (text_of steps) ≤ 57 * length steps
text_short [] g = omega arith
text_short (step ∷ steps) g =
    let e = length-append (line_of step) (text_of steps) in
    let l = line_short step (g 0 step (omega arith)) in
    let r = text_short steps (λ k d h. g (suc k) d (omega (arith, h))) in
    omega (arith, e, l, r)

pub printed_short : (steps : List Step) → All IsStep steps → length steps ≤ 200000 → length (text_of steps) ≤ 11400000
printed_short steps g few = let l = text_short steps g in omega (arith, l, few)
