-- The text of steps is read again as these steps, and as nothing else.
use Rattle.std.proofs.Common.{◌≡◌, ℕ, suc, ◌<◌, List, ◌∷◌, [], Result, Ok, Err, refl, sym, ap, ◌∙◌, All, length, arith, subst}
use Rattle.rss_machine.specs.declared.step.Step.{Step}
use Rattle.step_text.specs.Reading.{after_word}
use Rattle.step_text.specs.Lines.{stage_at, message_at, act_at, go_at, lose_at, again_at, kill_at, stub_at, kind_at, step_at}
use Rattle.step_text.specs.Spelling.{text_of, IsStep}
use Rattle.step_text.specs.Texts.{Reads}
use Rattle.step_text.proofs.LinesAgain.{step_again}

head_of : (s : Step) (steps : List Step) → All IsStep (s ∷ steps) → IsStep s
head_of s steps h = h 0 s (omega arith)

rest_of : (s : Step) (steps : List Step) → All IsStep (s ∷ steps) → All IsStep steps
rest_of s steps h = λ k d i. h (suc k) d (omega arith)

pub text_again : (steps : List Step) → All IsStep steps → Reads (text_of steps) steps []
text_again [] h = refl
text_again (s ∷ steps) h = (text_of steps, step_again s (text_of steps) (head_of s steps h), text_again steps (rest_of s steps h))

-- two readings of one line are one
same_line : (s t : Step) (a b : List ℕ) → ◌≡◌ {A = Result (Step × List ℕ) ℕ} (Ok (s, a)) (Ok (t, b)) → (s ≡ t) × (a ≡ b)
same_line s t a b e =
    let p : ◌≡◌ {A = Step × List ℕ} (s, a) (t, b) = cc in
    (ap (λ (q : Step × List ℕ). q.0) p, ap (λ (q : Step × List ℕ). q.1) p)

-- what fails gives nothing
no_both : (r : Result (Step × List ℕ) ℕ) (left : ℕ) (x : Step × List ℕ) → r ≡ Err left → r ≡ Ok x → ⊥
no_both r left x e f = cc

-- no line is empty
no_line : (bytes : List ℕ) (x : Step × List ℕ) → bytes ≡ [] → step_at bytes ≡ Ok x → ⊥
unfolding step_at kind_at act_at go_at lose_at again_at kill_at stub_at stage_at message_at after_word
no_line [] x e f = cc
no_line (b ∷ bs) x e f = cc

-- two readings of a whole text are one
pub reads_once : (bytes : List ℕ) (steps others : List Step) → Reads bytes steps [] → Reads bytes others [] → steps ≡ others
reads_once bytes [] [] r q = refl
reads_once bytes [] (t ∷ others) r q = absurd (no_line bytes (t, q.0) r q.1)
reads_once bytes (s ∷ steps) [] r q = absurd (no_line bytes (s, r.0) q r.1)
reads_once bytes (s ∷ steps) (t ∷ others) r q =
    let p = same_line s t r.0 q.0 (sym r.1 ∙ q.1) in
    let behind = reads_once r.0 steps others r.2 (subst (λ (l : List ℕ). Reads l others []) (sym p.1) q.2) in
    ap (λ (x : Step). x ∷ steps) p.0 ∙ ap (λ (l : List Step). t ∷ l) behind

-- a text that is read whole has no line off the grammar
pub no_bad_line : (bytes : List ℕ) (steps front : List Step) (line : List ℕ) (left : ℕ) → Reads bytes steps [] → Reads bytes front line → 0 < length line → step_at line ≡ Err left → ⊥
no_bad_line bytes [] [] line left r q more e =
    let none : line ≡ [] = sym q ∙ r in
    omega (arith, ap (λ (l : List ℕ). length l) none)
no_bad_line bytes [] (t ∷ front) line left r q more e = no_line bytes (t, q.0) r q.1
no_bad_line bytes (s ∷ steps) [] line left r q more e = no_both (step_at line) left (s, r.0) e (ap step_at (sym q) ∙ r.1)
no_bad_line bytes (s ∷ steps) (t ∷ front) line left r q more e =
    let p = same_line s t r.0 q.0 (sym r.1 ∙ q.1) in
    no_bad_line r.0 steps front line left r.2 (subst (λ (l : List ℕ). Reads l front line) (sym p.1) q.2) more e

-- a text that steps spell is read as these steps
pub spelled_alone : (bytes : List ℕ) (read : List Step) (rest : List ℕ) → length rest ≡ 0 → Reads bytes read rest → (steps : List Step) → All IsStep steps → bytes ≡ text_of steps → read ≡ steps
spelled_alone bytes read [] z r steps h e =
    reads_once bytes read steps r (subst (λ (l : List ℕ). Reads l steps []) (sym e) (text_again steps h))
spelled_alone bytes read (b ∷ rest) z r steps h e = absurd (omega arith)

-- and has no line off the grammar
pub spelled_whole : (bytes : List ℕ) (front : List Step) (line : List ℕ) (left : ℕ) → Reads bytes front line → 0 < length line → step_at line ≡ Err left → (steps : List Step) → All IsStep steps → bytes ≡ text_of steps → ⊥
spelled_whole bytes front line left r more bad steps h e =
    no_bad_line bytes steps front line left (subst (λ (l : List ℕ). Reads l steps []) (sym e) (text_again steps h)) r more bad
