-- A stage or a stub gives a chunk or an end mark.
use Rattle.std.proofs.Common.{◌≡◌, ℕ, ◌+◌, ◌-◌, ◌<◌, ◌≤◌, ◌⊎◌, inl, inr, Bool, true, false, List, length, get_or, All, refl, sym, ap, ◌∙◌, subst, arith}
use Rattle.std.specs.Prelude.{◌&&◌, ◌||◌, ◌==◌}
use Rattle.std.proofs.Math.ListN.{set, length-set}
use Rattle.std.proofs.lemmas.Bool.{true≢false, cases_eq, cases_lt}
use Rattle.std.proofs.lemmas.Bool.Decides.{nat_tests}
use Rattle.std.proofs.lemmas.List.Elements.{All-nil}
use Rattle.causal_context.specs.Seen.{Seen}
use Rattle.pipeline_lang.specs.declared.config.Config.{Config}
use Rattle.rss_model.specs.declared.history.Token.TheVariants as token
use Rattle.rss_tables.specs.Pipes.{Pipe, opening_pipe}
use Rattle.rss_machine.specs.State.{State, pipe_at}
use Rattle.world_laws.proofs.Looks.{looks, get_or_past}
use Rattle.order_laws.specs.CallsBehind.{CallsBehind}
use Rattle.coupling_laws.specs.Calls.{View}
use Rattle.coupling_laws.specs.Covers.{Covers}
use Rattle.coupling_laws.proofs.Places.{fewer}
use Rattle.context_moves.specs.Covering.{PipeCovers, ChunkCovers, MarkCovers, Covering}
use Rattle.context_moves.proofs.Later.{view_same, chunks_later, mark_later, pipe_later}
use Rattle.context_moves.proofs.Staging.{Fewer}
use Rattle.context_moves.proofs.Tables.{given_table, or_case, both_of, or_neither}

module _ (c : Config) (v : View) (b : CallsBehind) (s : State) (n p : ℕ) (k : Covering c v b s) where
  abbrev next : ℕ
  next = (pipe_at s p).next

  abbrev b' : CallsBehind
  b' = given_table b n (token.Chunk p next)

  or_false : (x : Bool) → (x || false) ≡ x
  or_false true = refl
  or_false false = refl

  pub give_fewer : Fewer b b'
  give_fewer = record { stage = λ j a. refl; spawn = λ j a. or_false (b.message (token.Spawn j) a); exit = λ j a e. (k.stages j).exit a (sym (or_false (b.message (token.Exit j) a)) ∙ e) }

  -- what lies elsewhere stays
  elsewhere : (q number a : ℕ) → (q - 1 ≡ p - 1 → ⊥) → b'.message (token.Chunk q number) a ≡ true → b.message (token.Chunk q number) a ≡ true
  elsewhere q number a f e = by_case (or_case (b.message (token.Chunk q number) a) _ e)
    where
      by_case : (b.message (token.Chunk q number) a ≡ true) ⊎ ((((p == q) && (next == number)) && b.stage n a) ≡ true) → b.message (token.Chunk q number) a ≡ true
      by_case (inl g) = g
      by_case (inr g) = let z = (both_of (p == q) (next == number) (both_of ((p == q) && (next == number)) _ g).0).0 in absurd (f (grind (arith, nat_tests, z)))

  below : (q number a : ℕ) → number < next → b'.message (token.Chunk q number) a ≡ true → b.message (token.Chunk q number) a ≡ true
  below q number a l e = by_case (or_case (b.message (token.Chunk q number) a) _ e)
    where
      by_case : (b.message (token.Chunk q number) a ≡ true) ⊎ ((((p == q) && (next == number)) && b.stage n a) ≡ true) → b.message (token.Chunk q number) a ≡ true
      by_case (inl g) = g
      by_case (inr g) = let z = (both_of (p == q) (next == number) (both_of ((p == q) && (next == number)) _ g).0).1 in absurd (let y : next ≡ number = grind (arith, nat_tests, z) in omega (arith, l, y))

  module _ (pipe : Pipe) (seen : Seen) (covers : Covers v (b.stage n) seen) (rises : pipe.next ≡ next + 1)
      (chunks : ((q : ℕ) → q - 1 ≡ p - 1 → All (ChunkCovers v b' q (next + 1)) (pipe_at s p).chunks) → ((q : ℕ) → q - 1 ≡ p - 1 → ChunkCovers v b' q (next + 1) (record { number = next; value = 0; context = seen })) → (q : ℕ) → q - 1 ≡ p - 1 → All (ChunkCovers v b' q (next + 1)) pipe.chunks)
      (mark : ((q : ℕ) → q - 1 ≡ p - 1 → MarkCovers v b' q (next + 1) (pipe_at s p).mark) → ((q : ℕ) → q - 1 ≡ p - 1 → (next < next + 1) × Covers v (b'.message (token.Chunk q next)) seen) → (q : ℕ) → q - 1 ≡ p - 1 → MarkCovers v b' q (next + 1) pipe.mark) where
    abbrev pipes' : List Pipe
    pipes' = set s.pipes (p - 1) pipe

    module _ (there : p - 1 < length s.pipes) where
      new_message : (q a : ℕ) → q - 1 ≡ p - 1 → b'.message (token.Chunk q next) a ≡ true → b.stage n a ≡ true
      new_message q a e m = by_case (or_case (b.message (token.Chunk q next) a) _ m)
        where
          none : b.message (token.Chunk q next) a ≡ false
          none = k.unused q next a (subst (λ (i : ℕ). i < length s.pipes) (sym e) there) (subst (λ (i : ℕ). (get_or s.pipes i opening_pipe).next ≤ next) (sym e) (omega arith))

          by_case : (b.message (token.Chunk q next) a ≡ true) ⊎ ((((p == q) && (next == next)) && b.stage n a) ≡ true) → b.stage n a ≡ true
          by_case (inl g) = absurd (true≢false (sym g ∙ none))
          by_case (inr g) = (both_of ((p == q) && (next == next)) (b.stage n a) g).1

      new_covers : (q : ℕ) → q - 1 ≡ p - 1 → Covers v (b'.message (token.Chunk q next)) seen
      new_covers q e = fewer v (b.stage n) (b'.message (token.Chunk q next)) seen (λ a. new_message q a e) covers

      own_pipe : (q : ℕ) → q - 1 ≡ p - 1 → PipeCovers v b' q (get_or pipes' (q - 1) opening_pipe)
      own_pipe q e = subst (PipeCovers v b' q) (sym at) record {
        chunks = subst (λ (i : ℕ). All (ChunkCovers v b' q i) pipe.chunks) (sym rises) (chunks (λ j f. old_chunks j f) (λ j f. record { early = omega arith; context = new_covers j f }) q e);
        mark = subst (λ (i : ℕ). MarkCovers v b' q i pipe.mark) (sym rises) (mark (λ j f. old_mark j f) (λ j f. (omega arith, new_covers j f)) q e);
      }
        where
          at : get_or pipes' (q - 1) opening_pipe ≡ pipe
          at = grind (arith, looks, there, e)

          old : (j : ℕ) → j - 1 ≡ p - 1 → PipeCovers v b j (pipe_at s p)
          old j f = subst (λ (i : ℕ). PipeCovers v b j (get_or s.pipes i opening_pipe)) f (k.pipes j)

          old_chunks : (j : ℕ) → j - 1 ≡ p - 1 → All (ChunkCovers v b' j (next + 1)) (pipe_at s p).chunks
          old_chunks j f = chunks_later v v b b' j next (next + 1) (pipe_at s p).chunks (view_same v) (omega arith) (λ number a l. below j number a l) (old j f).chunks

          old_mark : (j : ℕ) → j - 1 ≡ p - 1 → MarkCovers v b' j (next + 1) (pipe_at s p).mark
          old_mark j f = mark_later v v b b' j next (next + 1) (pipe_at s p).mark (view_same v) (omega arith) (λ number a l. below j number a l) (old j f).mark

    -- a pipe that is not there
    past_pipe : (q : ℕ) → length s.pipes ≤ p - 1 → q - 1 ≡ p - 1 → get_or pipes' (q - 1) opening_pipe ≡ opening_pipe
    past_pipe q l e = grind (arith, looks, get_or_past, l, e)

    other_pipe : (q : ℕ) → (q - 1 ≡ p - 1 → ⊥) → get_or pipes' (q - 1) opening_pipe ≡ pipe_at s q
    other_pipe q e = grind (arith, looks, e)

    pub give_pipes : (q : ℕ) → PipeCovers v b' q (get_or pipes' (q - 1) opening_pipe)
    give_pipes q = by_place (cases_eq (q - 1) (p - 1)) (cases_lt (p - 1) (length s.pipes))
      where
        by_place : (q - 1 ≡ p - 1) ⊎ (q - 1 ≡ p - 1 → ⊥) → (p - 1 < length s.pipes) ⊎ (length s.pipes ≤ p - 1) → PipeCovers v b' q (get_or pipes' (q - 1) opening_pipe)
        by_place (inl e) (inl l) = own_pipe l q e
        by_place (inl e) (inr l) = subst (PipeCovers v b' q) (sym (past_pipe q l e)) record { chunks = All-nil (ChunkCovers v b' q 1); mark = tt }
        by_place (inr e) l = subst (PipeCovers v b' q) (sym (other_pipe q e)) (pipe_later v v b b' q (pipe_at s q) (view_same v) (λ number a. elsewhere q number a e) (k.pipes q))

    pub give_unused : (q number a : ℕ) → q - 1 < length pipes' → (get_or pipes' (q - 1) opening_pipe).next ≤ number → b'.message (token.Chunk q number) a ≡ false
    give_unused q number a i l = by_place (cases_eq (q - 1) (p - 1))
      where
        inside : q - 1 < length s.pipes
        inside = let z = length-set s.pipes (p - 1) pipe in omega (arith, z, i)

        not_same : (x y z : Bool) → x ≡ false → ((x && y) && z) ≡ false
        not_same x y z e = ap (λ (w : Bool). (w && y) && z) e

        not_second : (x y z : Bool) → y ≡ false → ((x && y) && z) ≡ false
        not_second true y z e = ap (λ (w : Bool). w && z) e
        not_second false y z e = refl

        by_place : (q - 1 ≡ p - 1) ⊎ (q - 1 ≡ p - 1 → ⊥) → b'.message (token.Chunk q number) a ≡ false
        by_place (inl e) = or_neither (b.message (token.Chunk q number) a) _ (k.unused q number a inside (omega (arith, l', old))) (not_second (p == q) (next == number) (b.stage n a) (grind (arith, nat_tests, l')))
          where
            at : get_or pipes' (q - 1) opening_pipe ≡ pipe
            at = grind (arith, looks, inside, e)

            l' : next + 1 ≤ number
            l' = let z = ap (λ (w : Pipe). w.next) at in omega (arith, l, z, rises)

            old : (pipe_at s q).next ≡ next
            old = ap (λ (i : ℕ). (get_or s.pipes i opening_pipe).next) e
        by_place (inr e) =
            or_neither (b.message (token.Chunk q number) a) _ (k.unused q number a inside (subst (λ (w : Pipe). w.next ≤ number) (other_pipe q e) l))
            (not_same (p == q) (next == number) (b.stage n a) (other_number e))
          where
            other_number : (q - 1 ≡ p - 1 → ⊥) → (p == q) ≡ false
            other_number e = by_test (p == q) refl
              where
                by_test : (t : Bool) → (p == q) ≡ t → t ≡ false
                by_test true f = absurd (e (grind (arith, nat_tests, f)))
                by_test false f = refl
