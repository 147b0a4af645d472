-- What a take meets decides what it does.
use Rattle.std.proofs.Common.{◌≡◌, ℕ, List, [], ◌∷◌, Option, Some, None, refl, ap, sym, ◌∙◌}
use Rattle.causal_context.specs.Seen.{Seen}
use Rattle.pipeline_stage.specs.Marks.{front_of, lying}
use Rattle.pipeline_stage.specs.declared.pipe.Front.{Front}
use Rattle.pipeline_stage.specs.declared.pipe.Front.TheVariants as front
use Rattle.rss_model.specs.Cursor.{Cursor}
use Rattle.rss_model.specs.declared.history.Token.TheVariants as token
use Rattle.rss_tables.specs.Pipes.{Chunk, EndMark, no_mark, fenced_mark, bare_mark}
use Rattle.rss_machine.specs.Effect.{takes, takes_end, after_take}
use Rattle.rss_machine.specs.Moves.{takes_chunk}
use Rattle.rss_machine.specs.State.{State, pipe_at}
use Rattle.world_parts.specs.Parts.{Staging, assembled, at_step, in_staging, staging_of, no_traffic, no_stores, stage_in, pipe_in}
use Rattle.world_stages.specs.Halves.{staged, got_with}
use Rattle.world_stages.specs.Readies.{joined_if, seen_behind_take}

abbrev alone : Staging → State
alone g = assembled (at_step 0) g no_traffic no_stores

module _ (g : Staging) (n v p : ℕ) where
  -- a stage gets the chunk or the end mark of a number, with this context
  abbrev got : Staging → Seen → ℕ → ℕ → ℕ → Staging
  got h seen number value status = got_with h n (token.Chunk p number) seen (after_take (stage_in g n).cursor v value status)

  abbrev ctx : Seen
  ctx = (stage_in g n).context

  abbrev taken : Staging
  taken = in_staging (λ (s : State). takes_chunk s p) g

  chunk_met : (chunks : List Chunk) (mark : EndMark) (number value : ℕ) (seen : Seen) → front_of chunks mark ≡ front.Chunk number value
      → seen ≡ joined_if ctx (lying chunks mark) → got taken seen number value 0 ≡ staging_of (takes (alone g) n v p chunks)
  chunk_met [] no_mark number value seen e h = absurd (cc (e))
  chunk_met [] (fenced_mark m x) number value seen e h = absurd (cc (e))
  chunk_met [] bare_mark number value seen e h = absurd (cc (e))
  chunk_met (chunk ∷ chunks) mark number value seen e h =
      let a : chunk.number ≡ number = cc (e) in
      let b : chunk.value ≡ value = cc (e) in
      ap (λ (m : ℕ). got taken seen m value 0) (sym a) ∙ ap (λ (w : ℕ). got taken seen chunk.number w 0) (sym b) ∙ ap (λ (x : Seen). got taken x chunk.number chunk.value 0) h

  mark_met : (chunks : List Chunk) (mark : EndMark) (number : ℕ) (seen : Seen) → front_of chunks mark ≡ front.Fenced number
      → seen ≡ joined_if ctx (lying chunks mark) → mark ≡ (pipe_in g p).mark → got g seen number 0 1 ≡ staging_of (takes (alone g) n v p chunks)
  mark_met [] no_mark number seen e h k = absurd (cc (e))
  mark_met [] (fenced_mark m x) number seen e h k =
      let a : m ≡ number = cc (e) in
      ap (λ (m : ℕ). got g seen m 0 1) (sym a) ∙ ap (λ (x : Seen). got g x m 0 1) h ∙ ap (λ (y : EndMark). staging_of (takes_end (alone g) n v p y)) k
  mark_met [] bare_mark number seen e h k = absurd (cc (e))
  mark_met (chunk ∷ chunks) mark number seen e h k = absurd (cc (e))

  bare_met : (chunks : List Chunk) (mark : EndMark) → front_of chunks mark ≡ front.Bare → mark ≡ (pipe_in g p).mark
      → staged g n (record (stage_in g n) { cursor = after_take (stage_in g n).cursor v 0 2 }) ≡ staging_of (takes (alone g) n v p chunks)
  bare_met [] no_mark e k = absurd (cc (e))
  bare_met [] (fenced_mark m x) e k = absurd (cc (e))
  bare_met [] bare_mark e k = ap (λ (y : EndMark). staging_of (takes_end (alone g) n v p y)) k
  bare_met (chunk ∷ chunks) mark e k = absurd (cc (e))

  nothing_met : (chunks : List Chunk) (mark : EndMark) → front_of chunks mark ≡ front.Nothing → mark ≡ (pipe_in g p).mark → g ≡ staging_of (takes (alone g) n v p chunks)
  nothing_met [] no_mark e k = ap (λ (y : EndMark). staging_of (takes_end (alone g) n v p y)) k
  nothing_met [] (fenced_mark m x) e k = absurd (cc (e))
  nothing_met [] bare_mark e k = absurd (cc (e))
  nothing_met (chunk ∷ chunks) mark e k = absurd (cc (e))

-- a chunk is met
pub took_chunk : (g : Staging) (n v p number value : ℕ) (seen : Seen) → front.Chunk number value ≡ front_of (pipe_in g p).chunks (pipe_in g p).mark
    → seen ≡ seen_behind_take g n p
    → got_with (in_staging (λ (s : State). takes_chunk s p) g) n (token.Chunk p number) seen (after_take (stage_in g n).cursor v value 0) ≡ in_staging (λ (s : State). takes s n v p (pipe_at s p).chunks) g
took_chunk g n v p number value seen e h = chunk_met g n v p (pipe_in g p).chunks (pipe_in g p).mark number value seen (sym e) h

-- a fenced end mark is met
pub took_mark : (g : Staging) (n v p number : ℕ) (seen : Seen) → front.Fenced number ≡ front_of (pipe_in g p).chunks (pipe_in g p).mark
    → seen ≡ seen_behind_take g n p
    → got_with g n (token.Chunk p number) seen (after_take (stage_in g n).cursor v 0 1) ≡ in_staging (λ (s : State). takes s n v p (pipe_at s p).chunks) g
took_mark g n v p number seen e h = mark_met g n v p (pipe_in g p).chunks (pipe_in g p).mark number seen (sym e) h refl

-- a bare end mark is met
pub took_bare : (g : Staging) (n v p : ℕ) → front.Bare ≡ front_of (pipe_in g p).chunks (pipe_in g p).mark
    → staged g n (record (stage_in g n) { cursor = after_take (stage_in g n).cursor v 0 2 }) ≡ in_staging (λ (s : State). takes s n v p (pipe_at s p).chunks) g
took_bare g n v p e = bare_met g n v p (pipe_in g p).chunks (pipe_in g p).mark (sym e) refl

-- nothing is met
pub took_nothing : (g : Staging) (n v p : ℕ) → front.Nothing ≡ front_of (pipe_in g p).chunks (pipe_in g p).mark
    → g ≡ in_staging (λ (s : State). takes s n v p (pipe_at s p).chunks) g
took_nothing g n v p e = nothing_met g n v p (pipe_in g p).chunks (pipe_in g p).mark (sym e) refl
