-- Statements of stages and pipes, put together of the parts.
use Rattle.std.proofs.Common.{◌≡◌, ℕ, ◌<◌, ◌≤◌, Bool, true, false, ◌||◌, List, [], ◌∷◌, ◌++◌, ◌-◌, set, length, Some, None, refl, sym, ap, ◌∙◌, subst, arith}
use Rattle.std.proofs.lemmas.Bool.Decides.{nat_tests}
use Rattle.causal_context.specs.Seen.{Seen, context_joined}
use Rattle.pipeline_lang.specs.Config.{ends_of}
use Rattle.pipeline_lang.specs.declared.config.Config.{Config}
use Rattle.pipeline_lang.specs.declared.script.Expr.{Expr}
use Rattle.pipeline_lang.specs.declared.script.Statement.TheVariants as statement
use Rattle.rss_tables.specs.Pipes.{Chunk, EndMark, no_mark, fenced_mark, bare_mark, has_room}
use Rattle.rss_machine.specs.Effect.{takes, takes_end, waits_over}
use Rattle.rss_machine.specs.Enabling.{can_make, next_statement}
use Rattle.rss_machine.specs.Moves.{exits}
use Rattle.rss_machine.specs.Standing.{exit_context, is_settled}
use Rattle.rss_machine.specs.State.{State, stage_at, pipe_at}
use Rattle.rss_machine.specs.declared.ending.StageState.{StageState}
use Rattle.rss_machine.specs.declared.ending.StageState.TheVariants as standing
use Rattle.rss_machine.specs.declared.state.Life.TheVariants as life
use Rattle.truetime.specs.Reading.{Reading}
use Rattle.rss_model.specs.Cursor.{NumberedStatement}
use Rattle.rss_model.specs.declared.history.Entry.TheVariants.{Over}
use Rattle.rss_model.specs.declared.history.How.TheVariants.{Exited}
use Rattle.rss_tables.specs.declared.endings.StubEnd.TheVariants.{Fenced, Unfenced}
use Rattle.world_parts.specs.Parts.{Clock, Staging, Traffic, Stores, assembled, in_staging, stage_in, pipe_in}
use Rattle.world_parts.proofs.Frames.{exit_moves}
use Rattle.pipeline_stage.specs.CopiesView.{AreCopies}
use Rattle.world_stages.specs.Halves.{waited_with}
use Rattle.world_stages.specs.Readies.{IsReadyFor}
use Rattle.world_stages.specs.View.{StagingView}
use Rattle.world_machine.specs.declared.machine.Machine.{Machine}
use Rattle.world_machine.specs.Acting.{IsActing}
use Rattle.world_machine.specs.Machine.{state_of}
use Rattle.world_machine.specs.Rooms.{StatementRoom, is_fence, exit_seen}
use Rattle.world_machine.specs.Statements.{PipeFits}

-- what is spawned stands later in the file
pub later : (m : Machine) (n child : ℕ) → IsActing m n → next_statement m.config (state_of m) n ≡ statement.Spawn child → n < child
later m n child h e = h.file.spawns.later n (stage_at (state_of m) n).cursor.position child h.first e

-- what is put goes into a pipe of the file
pub put_fits : (m : Machine) (n p : ℕ) (value : Expr ℕ) → IsActing m n → next_statement m.config (state_of m) n ≡ statement.Put p value → PipeFits m.config p
put_fits m n p value h e = let q = h.file.pipes.put n (stage_at (state_of m) n).cursor.position p value h.first e in (q.1, q.2)

-- a chunk that is not dropped has room
room_left : (a b : Bool) → (a || b) ≡ true → b ≡ false → a ≡ true
room_left true b h e = refl
room_left false b h e = absurd (cc)

pub few_chunks : (m : Machine) (n p : ℕ) (value : Expr ℕ) (dropped : Bool) → IsActing m n → can_make m.config (state_of m) (statement.Put p value) ≡ true → dropped ≡ is_settled m.config (state_of m) (ends_of m.config p).taker → dropped ≡ false → length (pipe_in m.staging.staging p).chunks < 64
few_chunks m n p value dropped h can e d =
    let room : has_room (pipe_in m.staging.staging p) (ends_of m.config p).capacity ≡ true = room_left (has_room (pipe_in m.staging.staging p) (ends_of m.config p).capacity) (is_settled m.config (state_of m) (ends_of m.config p).taker) can (sym e ∙ d) in
    let most : (ends_of m.config p).capacity ≤ 64 = h.file.within.capacities p in
    grind (arith, nat_tests, room, most)

-- a wait
waits_parts : (k : Clock) (g : Staging) (t : Traffic) (d : Stores) (n child : ℕ) (state : StageState) → waits_over (assembled k g t d) n child state ≡ assembled k (waited_with g n child (context_joined (stage_in g n).context (exit_context (assembled k g t d) child)) state) t d
waits_parts k g t d n child standing.Exited = refl
waits_parts k g t d n child (standing.Ended how (Some Fenced)) = refl
waits_parts k g t d n child (standing.Ended how (Some (Unfenced target))) = refl
waits_parts k g t d n child (standing.Ended how None) = refl
waits_parts k g t d n child standing.Unborn = refl
waits_parts k g t d n child standing.Live = refl

pub waited : (k : Clock) (v : StagingView) (g : Staging) (t : Traffic) (d : Stores) (n child : ℕ) (state : StageState) → AreCopies v.spare (context_joined (stage_in v.staging n).context (exit_context (assembled k v.staging t d) child)) 1 → g ≡ waited_with v.staging n child v.spare.seen state → assembled k g t d ≡ waits_over (assembled k v.staging t d) n child state
waited k v g t d n child state e f =
    ap (λ (x : Staging). assembled k x t d) f ∙ ap (λ (x : Seen). assembled k (waited_with v.staging n child x state) t d) (e.seen (omega arith)) ∙ sym (waits_parts k v.staging t d n child state)

-- a take
ends_move : (k : Clock) (g : Staging) (t : Traffic) (d : Stores) (n variable p : ℕ) (m : EndMark) → takes_end (assembled k g t d) n variable p m ≡ assembled k (in_staging (λ (s : State). takes_end s n variable p m) g) t d
ends_move k g t d n variable p no_mark = refl
ends_move k g t d n variable p (fenced_mark number seen) = refl
ends_move k g t d n variable p bare_mark = refl

take_move : (k : Clock) (g : Staging) (t : Traffic) (d : Stores) (n variable p : ℕ) (chunks : List Chunk) → takes (assembled k g t d) n variable p chunks ≡ assembled k (in_staging (λ (s : State). takes s n variable p chunks) g) t d
take_move k g t d n variable p [] = ends_move k g t d n variable p (pipe_in g p).mark
take_move k g t d n variable p (chunk ∷ chunks) = refl

pub took : (k : Clock) (g g' : Staging) (t : Traffic) (d : Stores) (n variable p : ℕ) → g' ≡ in_staging (λ (s : State). takes s n variable p (pipe_at s p).chunks) g → assembled k g' t d ≡ takes (assembled k g t d) n variable p (pipe_in g p).chunks
took k g g' t d n variable p e = ap (λ (x : Staging). assembled k x t d) e ∙ sym (take_move k g t d n variable p (pipe_in g p).chunks)

-- an exit
exits_move : (c : Config) (k : Clock) (g : Staging) (t : Traffic) (d : Stores) (n : ℕ) → exits c (assembled k g t d) n ≡ assembled k (in_staging (λ (s : State). exits c s n) g) t d
exits_move c k g t d n =
    exit_moves c n (stage_in g n).context k (record g {
      stages = set g.stages (n - 1) (record (stage_in g n) { life = life.Over Exited });
      history = g.history ++ Over n Exited ∷ [];
    }) t d

pub exited : (c : Config) (k : Clock) (g g' : Staging) (t : Traffic) (d : Stores) (n : ℕ) → g' ≡ in_staging (λ (s : State). exits c s n) g → assembled k g' t d ≡ exits c (assembled k g t d) n
exited c k g g' t d n e = ap (λ (x : Staging). assembled k x t d) e ∙ sym (exits_move c k g t d n)

-- what a statement needs that is no fence statement is ready
pub ready_for : (m : Machine) (n : ℕ) (at : Reading) (st x : NumberedStatement) → x ≡ st → is_fence x ≡ false → StatementRoom m n at st → IsReadyFor m.config m.staging n (exit_seen (state_of m) x) x
ready_for m n at st x e f room = subst (λ (y : NumberedStatement). IsReadyFor m.config m.staging n (exit_seen (state_of m) y) y) (sym e) (room.ready (sym (ap is_fence e) ∙ f))
