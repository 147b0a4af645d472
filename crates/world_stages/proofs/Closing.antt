-- One pipe more of those that end.
use Rattle.std.proofs.Common.{◌≡◌, ℕ, suc, ◌+◌, ◌-◌, ◌<◌, ◌^◌, Bool, true, false, List, [], ◌∷◌, ◌++◌, length, drop, set, get_or, refl, ap, sym, ◌∙◌, arith, add-one, drop-cons, if◌then◌else◌}
use Rattle.std.proofs.lemmas.Grind.{common_steps}
use Rattle.causal_context.specs.Seen.{Seen}
use Rattle.pipeline_lang.specs.Config.{no_ends}
use Rattle.pipeline_lang.specs.declared.config.Config.{Config}
use Rattle.pipeline_lang.specs.declared.config.PipeEnds.{PipeEnds}
use Rattle.rss_machine.specs.Moves.{is_to_end, closes, cuts_pipe, closes_from, cuts_from}
use Rattle.rss_machine.specs.State.{State}
use Rattle.world_parts.specs.Parts.{Staging, assembled, at_step, in_staging, staging_of, no_traffic, no_stores, pipe_in}
use Rattle.world_stages.specs.Readies.{HasNumbers}

-- a staging alone, as a state
abbrev alone : Staging → State
alone g = assembled (at_step 0) g no_traffic no_stores

closes_one : (c : Config) (n : ℕ) (seen : Seen) (p : ℕ) (ends : PipeEnds) (rest : List PipeEnds) (g : Staging)
    → in_staging (λ (s : State). closes_from c s n seen p (ends ∷ rest)) g ≡ in_staging (λ (s : State). closes_from c s n seen (p + 1) rest) (in_staging (λ (s : State). if is_to_end c s n p then closes s n seen p else s) g)
closes_one c n seen p ends rest g = by (is_to_end c (alone g) n p)
  where
    by : (b : Bool) → staging_of (closes_from c (if b then closes (alone g) n seen p else alone g) n seen (p + 1) rest) ≡ in_staging (λ (s : State). closes_from c s n seen (p + 1) rest) (staging_of (if b then closes (alone g) n seen p else alone g))
    by true = refl
    by false = refl

-- the pipe at a place is the first of those that are left
pub closes_more : (c : Config) (n : ℕ) (seen : Seen) (g : Staging) (i : ℕ) → i < length c.pipe_ends
    → in_staging (λ (s : State). closes_from c s n seen (i + 1) (drop i c.pipe_ends)) g ≡ in_staging (λ (s : State). closes_from c s n seen (i + 1 + 1) (drop (i + 1) c.pipe_ends)) (in_staging (λ (s : State). if is_to_end c s n (i + 1) then closes s n seen (i + 1) else s) g)
closes_more c n seen g i l =
    ap (λ (rest : List PipeEnds). in_staging (λ (s : State). closes_from c s n seen (i + 1) rest) g) (drop-cons c.pipe_ends i no_ends l)
    ∙ closes_one c n seen (i + 1) (get_or c.pipe_ends i no_ends) (drop (suc i) c.pipe_ends) g
    ∙ ap (λ (j : ℕ). in_staging (λ (s : State). closes_from c s n seen (i + 1 + 1) (drop j c.pipe_ends)) (in_staging (λ (s : State). if is_to_end c s n (i + 1) then closes s n seen (i + 1) else s) g)) (sym (add-one i))

cuts_one : (c : Config) (n p : ℕ) (ends : PipeEnds) (rest : List PipeEnds) (g : Staging)
    → in_staging (λ (s : State). cuts_from c s n p (ends ∷ rest)) g ≡ in_staging (λ (s : State). cuts_from c s n (p + 1) rest) (in_staging (λ (s : State). if is_to_end c s n p then cuts_pipe s p else s) g)
cuts_one c n p ends rest g = by (is_to_end c (alone g) n p)
  where
    by : (b : Bool) → staging_of (cuts_from c (if b then cuts_pipe (alone g) p else alone g) n (p + 1) rest) ≡ in_staging (λ (s : State). cuts_from c s n (p + 1) rest) (staging_of (if b then cuts_pipe (alone g) p else alone g))
    by true = refl
    by false = refl

pub cuts_more : (c : Config) (n : ℕ) (g : Staging) (i : ℕ) → i < length c.pipe_ends
    → in_staging (λ (s : State). cuts_from c s n (i + 1) (drop i c.pipe_ends)) g ≡ in_staging (λ (s : State). cuts_from c s n (i + 1 + 1) (drop (i + 1) c.pipe_ends)) (in_staging (λ (s : State). if is_to_end c s n (i + 1) then cuts_pipe s (i + 1) else s) g)
cuts_more c n g i l =
    ap (λ (rest : List PipeEnds). in_staging (λ (s : State). cuts_from c s n (i + 1) rest) g) (drop-cons c.pipe_ends i no_ends l)
    ∙ cuts_one c n (i + 1) (get_or c.pipe_ends i no_ends) (drop (suc i) c.pipe_ends) g
    ∙ ap (λ (j : ℕ). in_staging (λ (s : State). cuts_from c s n (i + 1 + 1) (drop j c.pipe_ends)) (in_staging (λ (s : State). if is_to_end c s n (i + 1) then cuts_pipe s (i + 1) else s) g)) (sym (add-one i))

-- the pipes behind can be given one number more, still
pub numbers_left : (c : Config) (n : ℕ) (seen : Seen) (g : Staging) (i : ℕ) → HasNumbers g i → HasNumbers (in_staging (λ (s : State). if is_to_end c s n (i + 1) then closes s n seen (i + 1) else s) g) (i + 1)
numbers_left c n seen g i h = by (is_to_end c (alone g) n (i + 1))
  where
    by : (b : Bool) → HasNumbers (staging_of (if b then closes (alone g) n seen (i + 1) else alone g)) (i + 1)
    by true = record { next = λ p l. let k = h.next p (omega (arith, l)) in grind (arith, common_steps, k, l) }
    by false = record { next = λ p l. h.next p (omega (arith, l)) }
