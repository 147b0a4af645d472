-- What stages and pipes do, where owners stay.
use Rattle.std.proofs.Common.{◌≡◌, ℕ, ◌+◌, ◌-◌, ◌<◌, ◌≤◌, ◌⊎◌, inl, inr, Bool, true, false, List, [], ◌∷◌, ◌++◌, length, get_or, Option, Some, None, All, refl, sym, ap, ◌∙◌, subst, arith}
use Rattle.std.specs.Prelude.{◌&&◌, ◌||◌, ◌==◌, drop}
use Rattle.std.proofs.Math.ListN.{set, length-set}
use Rattle.std.proofs.lemmas.Bool.{false≢true}
use Rattle.std.proofs.lemmas.Bool.Decides.{nat_tests}
use Rattle.std.proofs.lemmas.List.Elements.{All-nil, All-cons, All-head, All-tail}
use Rattle.causal_context.specs.Seen.{Seen, context_joined}
use Rattle.pipeline_lang.specs.declared.config.Config.{Config}
use Rattle.rss_model.specs.declared.history.Entry.TheVariants.{Give, Get, Over}
use Rattle.rss_model.specs.declared.history.How.TheVariants.{Exited}
use Rattle.rss_model.specs.declared.history.Token.{Token}
use Rattle.rss_model.specs.declared.history.Token.TheVariants as token
use Rattle.rss_model.specs.Scripts.{is_spawned}
use Rattle.rss_model.specs.Cursor.{Cursor}
use Rattle.rss_tables.specs.Pipes.{Pipe, Chunk, fenced_mark, opening_pipe, pipe_put, pipe_closed, pipe_taken, pipe_cut_off}
use Rattle.rss_machine.specs.Moves.{receives, takes_chunk, puts, closes, cuts_pipe}
use Rattle.rss_machine.specs.Standing.{is_live, exit_context, exit_context_of}
use Rattle.rss_machine.specs.State.{State, Stage, no_stage, stage_at, owner_at, pipe_at}
use Rattle.rss_machine.specs.declared.state.Life.TheVariants as life
use Rattle.world_laws.specs.Calls.{StagesOwn}
use Rattle.world_laws.proofs.Looks.{looks, get_or_past}
use Rattle.world_laws.proofs.StageMoves.{Making, Giving, own, by_stub, Lying, exited, stubbed, marked}
use Rattle.order_laws.specs.CallsBehind.{CallsBehind}
use Rattle.coupling_laws.specs.Calls.{View, IsView, either}
use Rattle.coupling_laws.specs.Covers.{Covers}
use Rattle.coupling_laws.proofs.Places.{fewer, joined}
use Rattle.context_moves.specs.Covering.{PipeCovers, ChunkCovers, MarkCovers, IsGiven, Parts, Covering}
use Rattle.context_moves.proofs.Giving.{give_fewer, give_pipes, give_unused}
use Rattle.context_moves.proofs.Later.{view_same, live_not_unborn, over_not_unborn, given_more, pipe_later}
use Rattle.context_moves.proofs.Staging.{alike_set, alike_parts, Fewer, same_fewer, stage_changes, nobody_there}
use Rattle.context_moves.proofs.Tables.{given_table, got_table, or_case, both_of, or_first}

module _ (c : Config) (v : View) (b : CallsBehind) (s : State) (k : Covering c v b s) where
  same_pipes : (p : ℕ) → PipeCovers v b p (pipe_at s p)
  same_pipes p = k.pipes p

  -- the acts and the place of a stage change
  pub placed : (n : ℕ) (x : Stage) → x.context ≡ (stage_at s n).context → x.life ≡ (stage_at s n).life → x.stub ≡ (stage_at s n).stub → Parts c v b s.owners (set s.stages (n - 1) x) s.pipes s.history
  placed n x e f g = alike_parts c v b b s _ s.pipes s.history (alike_set s.stages (n - 1) x e f g) (same_fewer c v b s k) (λ j m. m) k.pipes k.unused k

  -- a pipe is cut off
  pub cut_off : (p : ℕ) → Covering c v b (cuts_pipe s p)
  cut_off p = alike_parts c v b b s s.stages _ s.history (record { context = λ i. refl; life = λ i. refl; stub = λ i. refl; long = refl }) (same_fewer c v b s k) (λ j m. m) pipes unused k
    where
      changes : List Pipe
      changes = set s.pipes (p - 1) (pipe_cut_off (pipe_at s p))

      at : (q : ℕ) → ((get_or changes (q - 1) opening_pipe ≡ pipe_cut_off (pipe_at s p)) × (q - 1 ≡ p - 1)) ⊎ (get_or changes (q - 1) opening_pipe ≡ pipe_at s q)
      at q = grind (arith, looks)

      pipes : (q : ℕ) → PipeCovers v b q (get_or changes (q - 1) opening_pipe)
      pipes q = by_place (at q)
        where
          old : q - 1 ≡ p - 1 → PipeCovers v b q (pipe_at s p)
          old e = subst (λ (i : ℕ). PipeCovers v b q (get_or s.pipes i opening_pipe)) e (k.pipes q)

          by_place : ((get_or changes (q - 1) opening_pipe ≡ pipe_cut_off (pipe_at s p)) × (q - 1 ≡ p - 1)) ⊎ (get_or changes (q - 1) opening_pipe ≡ pipe_at s q) → PipeCovers v b q (get_or changes (q - 1) opening_pipe)
          by_place (inl e) = subst (PipeCovers v b q) (sym e.0) record { chunks = (old e.1).chunks; mark = tt }
          by_place (inr e) = subst (PipeCovers v b q) (sym e) (k.pipes q)

      unused : (q number a : ℕ) → q - 1 < length changes → (get_or changes (q - 1) opening_pipe).next ≤ number → b.message (token.Chunk q number) a ≡ false
      unused q number a i l = k.unused q number a (let z = length-set s.pipes (p - 1) (pipe_cut_off (pipe_at s p)) in omega (arith, z, i)) (by_place (at q))
        where
          by_place : ((get_or changes (q - 1) opening_pipe ≡ pipe_cut_off (pipe_at s p)) × (q - 1 ≡ p - 1)) ⊎ (get_or changes (q - 1) opening_pipe ≡ pipe_at s q) → (pipe_at s q).next ≤ number
          by_place (inl e) = let z = ap (λ (x : Pipe). x.next) e.0 in let y = ap (λ (j : ℕ). (get_or s.pipes j opening_pipe).next) e.1 in omega (arith, l, z, y)
          by_place (inr e) = subst (λ (x : Pipe). x.next ≤ number) e l

  pub there_where : (n : ℕ) → is_live (stage_at s n).life ≡ true → n - 1 < length s.stages
  there_where n l = by_place (get_or_past s.stages (n - 1) no_stage)
    where
      by_place : (n - 1 < length s.stages) ⊎ (get_or s.stages (n - 1) no_stage ≡ no_stage) → n - 1 < length s.stages
      by_place (inl g) = g
      by_place (inr g) = absurd (false≢true (ap (λ (y : Stage). is_live y.life) (sym g) ∙ l))

  pub born_given : (n : ℕ) → is_live (stage_at s n).life ≡ true → (j : ℕ) → j - 1 ≡ n - 1 → 0 < j → is_spawned c j ≡ true → IsGiven s.history j
  born_given n l j e i m = by_case ((k.stages j).born i m)
    where
      by_case : ((stage_at s j).life ≡ life.Unborn) ⊎ IsGiven s.history j → IsGiven s.history j
      by_case (inl f) = absurd (live_not_unborn (stage_at s n).life l (ap (λ (i : ℕ). (get_or s.stages i no_stage).life) (sym e) ∙ f))
      by_case (inr f) = f

  pub at_place : (j n : ℕ) → j - 1 ≡ n - 1 → Covers v (b.stage j) (stage_at s n).context
  at_place j n e = subst (λ (i : ℕ). Covers v (b.stage j) (get_or s.stages i no_stage).context) e (k.stages j).context

  -- a stage exits
  pub exits_one : (n : ℕ) → is_live (stage_at s n).life ≡ true → Parts c v b s.owners (set s.stages (n - 1) (record (stage_at s n) { life = life.Over Exited })) s.pipes (s.history ++ Over n Exited ∷ [])
  exits_one n l =
      stage_changes c v b b s n (record (stage_at s n) { life = life.Over Exited }) s.pipes (s.history ++ Over n Exited ∷ []) (there_where n l) (λ m. refl) (λ m. over_not_unborn (life.Over Exited) refl m) refl (λ j a m z. z) (λ j e. at_place j n e) (λ i m e j a f z. z)
      (λ j a z. (k.stages j).exit a z) (λ j a m z. z) (λ j e i m. given_more s.history _ j (born_given n l j e i m)) (λ j. given_more s.history _ j) k.pipes k.unused k

  -- a stage gets what lies with a token
  abbrev got_calls : ℕ → Token → ℕ → ℕ → Bool
  got_calls n t j a = b.stage j a || ((n == j) && b.message t a)

  pub gets_one : (n : ℕ) (t : Token) (seen : Seen) (cursor : Cursor) (pipes' : List Pipe) → IsView v → Making s n → StagesOwn s → Covers v (b.message t) seen → ((p : ℕ) → PipeCovers v b p (get_or pipes' (p - 1) opening_pipe))
      → ((p number a : ℕ) → p - 1 < length pipes' → (get_or pipes' (p - 1) opening_pipe).next ≤ number → b.message (token.Chunk p number) a ≡ false)
      → Parts c v (got_table b n t) s.owners (set s.stages (n - 1) (record (stage_at s n) { cursor = cursor; context = context_joined (stage_at s n).context seen })) pipes' (s.history ++ Get n t ∷ [])
  gets_one n t seen cursor pipes' w m owns covers pipes unused =
      stage_changes c v b (got_table b n t) s n (record (stage_at s n) { cursor = cursor; context = context_joined (stage_at s n).context seen }) pipes' (s.history ++ Get n t ∷ []) (there_where n m.live) (λ z. z) (λ z. live_not_unborn (stage_at s n).life m.live z) refl
      others own_context (λ i y e. absurd (nobody_there c v b s n m owns k i y e))
      (λ j a z. or_first (b.stage j a) _ ((k.stages j).exit a z)) (λ j a y z. z) (λ j e i y. given_more s.history _ j (born_given n m.live j e i y)) (λ j. given_more s.history _ j) (λ p. pipe_later v v b (got_table b n t) p _ (view_same v) (λ number a e. e) (pipes p)) unused k
    where
      others : (j a : ℕ) → (j - 1 ≡ n - 1 → ⊥) → got_calls n t j a ≡ true → b.stage j a ≡ true
      others j a f e = by_case (or_case (b.stage j a) _ e)
        where
          by_case : (b.stage j a ≡ true) ⊎ (((n == j) && b.message t a) ≡ true) → b.stage j a ≡ true
          by_case (inl g) = g
          by_case (inr g) = let z = (both_of (n == j) _ g).0 in absurd (f (grind (arith, nat_tests, z)))

      either_one : (x y z : Bool) → (x || (y && z)) ≡ true → (x || z) ≡ true
      either_one true y z e = refl
      either_one false true z e = e
      either_one false false z e = absurd (false≢true e)

      own_context : (j : ℕ) → j - 1 ≡ n - 1 → Covers v (got_calls n t j) (context_joined (stage_at s n).context seen)
      own_context j e = fewer v (either (b.stage j) (b.message t)) (got_calls n t j) _ (λ a. either_one (b.stage j a) (n == j) (b.message t a)) (joined v (b.stage j) (b.message t) (stage_at s n).context seen w (at_place j n e) covers)

  -- what lies with a token
  exit_covers : (child : ℕ) → Covers v (b.message (token.Exit child)) (exit_context s child)
  exit_covers child = by_stub (stage_at s child).stub refl
    where
      by_stub : (o : Option ℕ) → (stage_at s child).stub ≡ o → Covers v (b.message (token.Exit child)) (exit_context_of s (stage_at s child) o)
      by_stub None e = fewer v (b.stage child) _ (stage_at s child).context (λ a. (k.stages child).exit a) (k.stages child).context
      by_stub (Some o) e = let z = (k.stages child).stub_of o e in fewer v (b.stage child) _ (owner_at s o).works.copy (λ a. (k.stages child).exit a) ((k.owners o).copy child (inr z.stub) (sym z.of_stage))

  mark_covers : (p number : ℕ) (seen : Seen) → (pipe_at s p).mark ≡ fenced_mark number seen → Covers v (b.message (token.Chunk p number)) seen
  mark_covers p number seen e = (subst (MarkCovers v b p (pipe_at s p).next) e (k.pipes p).mark).1

  pub lying_covers : (n : ℕ) (t : Token) (seen : Seen) → Lying c s n t seen → Covers v (b.message t) seen
  lying_covers n _ _ (exited child e f) = exit_covers child
  lying_covers n _ _ (stubbed child how e f) = exit_covers child
  lying_covers n _ _ (marked variable p number seen e f) = mark_covers p number seen f

  -- a chunk is taken
  pub taken_pipes : (p : ℕ) (chunk : Chunk) (chunks : List Chunk) → (pipe_at s p).chunks ≡ chunk ∷ chunks → (q : ℕ) → PipeCovers v b q (get_or (set s.pipes (p - 1) (pipe_taken (pipe_at s p))) (q - 1) opening_pipe)
  taken_pipes p chunk chunks f q = by_place at
    where
      at : ((get_or (set s.pipes (p - 1) (pipe_taken (pipe_at s p))) (q - 1) opening_pipe ≡ pipe_taken (pipe_at s p)) × (q - 1 ≡ p - 1)) ⊎ (get_or (set s.pipes (p - 1) (pipe_taken (pipe_at s p))) (q - 1) opening_pipe ≡ pipe_at s q)
      at = grind (arith, looks)

      old : q - 1 ≡ p - 1 → PipeCovers v b q (pipe_at s p)
      old e = subst (λ (i : ℕ). PipeCovers v b q (get_or s.pipes i opening_pipe)) e (k.pipes q)

      by_place : ((get_or (set s.pipes (p - 1) (pipe_taken (pipe_at s p))) (q - 1) opening_pipe ≡ pipe_taken (pipe_at s p)) × (q - 1 ≡ p - 1)) ⊎ (get_or (set s.pipes (p - 1) (pipe_taken (pipe_at s p))) (q - 1) opening_pipe ≡ pipe_at s q) → PipeCovers v b q (get_or (set s.pipes (p - 1) (pipe_taken (pipe_at s p))) (q - 1) opening_pipe)
      by_place (inl e) = subst (PipeCovers v b q) (sym e.0) record {
        chunks = subst (λ (xs : List Chunk). All (ChunkCovers v b q (pipe_at s p).next) (drop 1 xs)) (sym f) (All-tail (ChunkCovers v b q (pipe_at s p).next) chunk chunks (subst (All (ChunkCovers v b q (pipe_at s p).next)) f (old e.1).chunks));
        mark = (old e.1).mark;
      }
      by_place (inr e) = subst (PipeCovers v b q) (sym e) (k.pipes q)

  pub taken_unused : (p : ℕ) (q number a : ℕ) → q - 1 < length (set s.pipes (p - 1) (pipe_taken (pipe_at s p))) → (get_or (set s.pipes (p - 1) (pipe_taken (pipe_at s p))) (q - 1) opening_pipe).next ≤ number → b.message (token.Chunk q number) a ≡ false
  taken_unused p q number a i l = k.unused q number a (let z = length-set s.pipes (p - 1) (pipe_taken (pipe_at s p)) in omega (arith, z, i)) (subst (λ (j : ℕ). j ≤ number) same l)
    where
      same : (get_or (set s.pipes (p - 1) (pipe_taken (pipe_at s p))) (q - 1) opening_pipe).next ≡ (pipe_at s q).next
      same = grind (arith, looks)

  chunk_covers : (p : ℕ) (chunk : Chunk) (chunks : List Chunk) → (pipe_at s p).chunks ≡ chunk ∷ chunks → Covers v (b.message (token.Chunk p chunk.number)) chunk.context
  chunk_covers p chunk chunks e = (All-head (ChunkCovers v b p (pipe_at s p).next) chunk chunks (subst (All (ChunkCovers v b p (pipe_at s p).next)) e (k.pipes p).chunks)).context

  pub takes_covering : (n p : ℕ) (chunk : Chunk) (chunks : List Chunk) (cursor : Cursor) → IsView v → Making s n → StagesOwn s → (pipe_at s p).chunks ≡ chunk ∷ chunks → Covering c v (got_table b n (token.Chunk p chunk.number)) (receives (takes_chunk s p) n (token.Chunk p chunk.number) chunk.context cursor)
  takes_covering n p chunk chunks cursor w m owns f = gets_one n (token.Chunk p chunk.number) chunk.context cursor _ w m owns (chunk_covers p chunk chunks f) (taken_pipes p chunk chunks f) (taken_unused p)

  -- a chunk is put
  all_more : (Q : Chunk → Type 0) (xs : List Chunk) (x : Chunk) → All Q xs → Q x → All Q (xs ++ x ∷ [])
  all_more Q [] x h q = All-cons Q x [] q (All-nil Q)
  all_more Q (y ∷ xs) x h q = All-cons Q y (xs ++ x ∷ []) (All-head Q y xs h) (all_more Q xs x (All-tail Q y xs h) q)

  pub puts_covering : (n p value : ℕ) (dropped : Bool) (cursor : Cursor) → Covering c v (given_table b n (token.Chunk p (pipe_at s p).next)) (puts s n p value dropped cursor)
  puts_covering n p value dropped cursor =
      alike_parts c v b (given_table b n (token.Chunk p (pipe_at s p).next)) s _ _ (s.history ++ Give n (token.Chunk p (pipe_at s p).next) ∷ []) (alike_set s.stages (n - 1) (record (stage_at s n) { cursor = cursor }) refl refl refl) (give_fewer c v b s n p k) (λ j. given_more s.history _ j)
      (give_pipes c v b s n p k _ (stage_at s n).context (k.stages n).context (rises dropped) (chunks dropped) (mark dropped)) (give_unused c v b s n p k _ (stage_at s n).context (k.stages n).context (rises dropped) (chunks dropped) (mark dropped)) k
    where
      put : Bool → Pipe
      put d = pipe_put (pipe_at s p) value (stage_at s n).context d

      b' : CallsBehind
      b' = given_table b n (token.Chunk p (pipe_at s p).next)

      rises : (d : Bool) → (put d).next ≡ (pipe_at s p).next + 1
      rises true = refl
      rises false = refl

      chunks : (d : Bool) → ((q : ℕ) → q - 1 ≡ p - 1 → All (ChunkCovers v b' q ((pipe_at s p).next + 1)) (pipe_at s p).chunks) → ((q : ℕ) → q - 1 ≡ p - 1 → ChunkCovers v b' q ((pipe_at s p).next + 1) (record { number = (pipe_at s p).next; value = 0; context = (stage_at s n).context }))
          → (q : ℕ) → q - 1 ≡ p - 1 → All (ChunkCovers v b' q ((pipe_at s p).next + 1)) (put d).chunks
      chunks true old new q e = old q e
      chunks false old new q e = all_more (ChunkCovers v b' q ((pipe_at s p).next + 1)) (pipe_at s p).chunks _ (old q e) (record { early = (new q e).early; context = (new q e).context })

      mark : (d : Bool) → ((q : ℕ) → q - 1 ≡ p - 1 → MarkCovers v b' q ((pipe_at s p).next + 1) (pipe_at s p).mark) → ((q : ℕ) → q - 1 ≡ p - 1 → ((pipe_at s p).next < (pipe_at s p).next + 1) × Covers v (b'.message (token.Chunk q (pipe_at s p).next)) (stage_at s n).context)
          → (q : ℕ) → q - 1 ≡ p - 1 → MarkCovers v b' q ((pipe_at s p).next + 1) (put d).mark
      mark true old new q e = old q e
      mark false old new q e = old q e

  -- a pipe gets its end mark, and an exit is given
  pub giving_covers : (n : ℕ) (seen : Seen) → Giving s n seen → Covers v (b.stage n) seen
  giving_covers n seen (own e) = subst (Covers v (b.stage n)) (sym e) (k.stages n).context
  giving_covers n seen (by_stub o e f g) = subst (Covers v (b.stage n)) (sym g) ((k.owners o).copy n (inr e) (ap (λ (i : ℕ). i - 1) (sym f)))

  pub closes_covering : (n p : ℕ) (seen : Seen) → Giving s n seen → Covering c v (given_table b n (token.Chunk p (pipe_at s p).next)) (closes s n seen p)
  closes_covering n p seen g =
      alike_parts c v b (given_table b n (token.Chunk p (pipe_at s p).next)) s s.stages _ (s.history ++ Give n (token.Chunk p (pipe_at s p).next) ∷ []) (record { context = λ i. refl; life = λ i. refl; stub = λ i. refl; long = refl }) (give_fewer c v b s n p k) (λ j. given_more s.history _ j)
      (give_pipes c v b s n p k (pipe_closed (pipe_at s p) seen) seen (giving_covers n seen g) refl (λ old new q e. old q e) (λ old new q e. new q e)) (give_unused c v b s n p k (pipe_closed (pipe_at s p) seen) seen (giving_covers n seen g) refl (λ old new q e. old q e) (λ old new q e. new q e)) k

  pub exit_covering : (n : ℕ) → Parts c v (given_table b n (token.Exit n)) s.owners s.stages s.pipes (s.history ++ Give n (token.Exit n) ∷ [])
  exit_covering n =
      alike_parts c v b (given_table b n (token.Exit n)) s s.stages s.pipes (s.history ++ Give n (token.Exit n) ∷ []) (record { context = λ i. refl; life = λ i. refl; stub = λ i. refl; long = refl }) fewer_calls (λ j. given_more s.history _ j)
      (λ p. pipe_later v v b (given_table b n (token.Exit n)) p (pipe_at s p) (view_same v) (λ number a e. sym (or_false (b.message (token.Chunk p number) a)) ∙ e) (k.pipes p)) (λ p number a i l. or_false (b.message (token.Chunk p number) a) ∙ k.unused p number a i l) k
    where
      or_false : (x : Bool) → (x || false) ≡ x
      or_false true = refl
      or_false false = refl

      fewer_calls : Fewer b (given_table b n (token.Exit n))
      fewer_calls = record { stage = λ j a. refl; spawn = λ j a. or_false (b.message (token.Spawn j) a); exit = λ j a e. by_case j a (or_case (b.message (token.Exit j) a) _ e) }
        where
          by_case : (j a : ℕ) → (b.message (token.Exit j) a ≡ true) ⊎ (((n == j) && b.stage n a) ≡ true) → b.stage j a ≡ true
          by_case j a (inl g) = (k.stages j).exit a g
          by_case j a (inr g) = let z = both_of (n == j) (b.stage n a) g in let y = z.0 in subst (λ (i : ℕ). b.stage i a ≡ true) (grind (arith, nat_tests, y)) z.1
