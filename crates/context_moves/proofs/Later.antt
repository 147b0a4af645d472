-- What contexts cover they cover at later moments, and of fewer calls.
use Rattle.std.proofs.Common.{◌≡◌, ℕ, ◌-◌, ◌<◌, ◌≤◌, ◌⊎◌, Bool, true, false, List, ◌∷◌, ◌++◌, get_or, All, refl, sym, ap, ◌∙◌, subst, arith}
use Rattle.std.specs.Prelude.{◌&&◌, nat_le}
use Rattle.std.proofs.lemmas.Bool.{true≢false}
use Rattle.std.proofs.lemmas.List.Elements.{All-weaker}
use Rattle.rss_names.specs.declared.service.Key.{Key}
use Rattle.carstamps.specs.declared.carstamp.Carstamp.{Carstamp}
use Rattle.pipeline_lang.specs.declared.config.Config.{Config}
use Rattle.rss_model.specs.declared.history.Entry.{Entry}
use Rattle.rss_model.specs.declared.history.Token.TheVariants as token
use Rattle.rss_tables.specs.Pipes.{Pipe, Chunk, EndMark, no_mark, fenced_mark, bare_mark}
use Rattle.rss_machine.specs.Places.{has_ended, effect_step, is_read_work}
use Rattle.rss_machine.specs.Session.{Session}
use Rattle.rss_machine.specs.declared.session.Session.TheVariants as session
use Rattle.rss_machine.specs.Standing.{is_running, is_over, is_live}
use Rattle.rss_machine.specs.State.{State, Owner, Stage, no_stage, owner_at}
use Rattle.rss_machine.specs.Times.{marked_step, step_of_time}
use Rattle.rss_machine.specs.declared.state.Life.{Life}
use Rattle.rss_machine.specs.declared.state.Life.TheVariants.{Unborn, Live, Over}
use Rattle.rss_machine.specs.declared.state.Mark.{Mark}
use Rattle.rss_machine.specs.declared.state.OwnerFate.{OwnerFate}
use Rattle.rss_machine.specs.declared.state.OwnerFate.TheVariants.{Running, Ended, Dropped, CutOff}
use Rattle.shard_event_laws.specs.Known.{moment_at}
use Rattle.world_laws.specs.Calls.{is_call, is_stub}
use Rattle.world_laws.proofs.Looks.{looks}
use Rattle.rss_model.proofs.HistoryLemmas.{entry_at-append}
use Rattle.order_laws.specs.CallsBehind.{CallsBehind}
use Rattle.causal_context.specs.Seen.{Seen}
use Rattle.coupling_laws.specs.Calls.{View, Grows}
use Rattle.coupling_laws.specs.Covers.{Covers}
use Rattle.coupling_laws.proofs.Places.{grows, fewer}
use Rattle.context_moves.specs.Views.{view_of, told_time, told_stamp, work_key, call_of, step_of, told_step}
use Rattle.context_moves.specs.Covering.{OwnerCovers, PipeCovers, ChunkCovers, MarkCovers, IsGiven}

-- the same view, or a later one, and the same calls, or fewer of them
pub covers_later : (v v' : View) (calls calls' : ℕ → Bool) (seen : Seen) → Grows v v' → ((a : ℕ) → calls' a ≡ true → calls a ≡ true) → Covers v calls seen → Covers v' calls' seen
covers_later v v' calls calls' seen g f k = fewer v' calls calls' seen f (grows v v' calls seen g k)

pub view_same : (v : View) → Grows v v
view_same v = record { ended = λ a h. h; call = λ a h. refl; come = λ a h x. x; before = λ a t h x. x; home = λ r. refl; sound = λ d x. x }

-- an owner that stays
pub owner_later : (v v' : View) (b b' : CallsBehind) (stages stages' : List Stage) (w : Owner) → Grows v v'
    → ((n a : ℕ) → (is_running w.fate ≡ true) ⊎ (is_stub w.kind ≡ true) → n - 1 ≡ w.stage - 1 → b'.stage n a ≡ true → b.stage n a ≡ true)
    → (is_over (get_or stages (w.stage - 1) no_stage).life ≡ true → is_over (get_or stages' (w.stage - 1) no_stage).life ≡ true)
    → OwnerCovers v b stages w → OwnerCovers v' b' stages' w
owner_later v v' b b' stages stages' w g f l k = record {
  copy = λ n r e. covers_later v v' (b.stage n) (b'.stage n) w.works.copy g (λ a. f n a r e) (k.copy n r e);
  dead = λ e. l (k.dead e);
  own = k.own;
  fixing = k.fixing;
}

-- a pipe that stays
chunk_later : (v v' : View) (b b' : CallsBehind) (p next next' : ℕ) → Grows v v' → next ≤ next' → ((number a : ℕ) → number < next → b'.message (token.Chunk p number) a ≡ true → b.message (token.Chunk p number) a ≡ true) → (x : Chunk) → ChunkCovers v b p next x → ChunkCovers v' b' p next' x
chunk_later v v' b b' p next next' g l f x k = record { early = let e = k.early in omega (arith, e, l); context = covers_later v v' (b.message (token.Chunk p x.number)) (b'.message (token.Chunk p x.number)) x.context g (λ a. f x.number a k.early) k.context }

pub chunks_later : (v v' : View) (b b' : CallsBehind) (p next next' : ℕ) (chunks : List Chunk) → Grows v v' → next ≤ next' → ((number a : ℕ) → number < next → b'.message (token.Chunk p number) a ≡ true → b.message (token.Chunk p number) a ≡ true)
    → All (ChunkCovers v b p next) chunks → All (ChunkCovers v' b' p next') chunks
chunks_later v v' b b' p next next' chunks g l f k = All-weaker (ChunkCovers v b p next) (ChunkCovers v' b' p next') (chunk_later v v' b b' p next next' g l f) chunks k

pub mark_later : (v v' : View) (b b' : CallsBehind) (p next next' : ℕ) (x : EndMark) → Grows v v' → next ≤ next' → ((number a : ℕ) → number < next → b'.message (token.Chunk p number) a ≡ true → b.message (token.Chunk p number) a ≡ true)
    → MarkCovers v b p next x → MarkCovers v' b' p next' x
mark_later v v' b b' p next next' no_mark g l f k = tt
mark_later v v' b b' p next next' (fenced_mark number seen) g l f k = (let e = k.0 in omega (arith, e, l), covers_later v v' (b.message (token.Chunk p number)) (b'.message (token.Chunk p number)) seen g (λ a. f number a k.0) k.1)
mark_later v v' b b' p next next' bare_mark g l f k = tt

pub pipe_later : (v v' : View) (b b' : CallsBehind) (p : ℕ) (x : Pipe) → Grows v v' → ((number a : ℕ) → b'.message (token.Chunk p number) a ≡ true → b.message (token.Chunk p number) a ≡ true) → PipeCovers v b p x → PipeCovers v' b' p x
pipe_later v v' b b' p x g f k = record {
  chunks = chunks_later v v' b b' p x.next x.next x.chunks g (omega arith) (λ number a l. f number a) k.chunks;
  mark = mark_later v v' b b' p x.next x.next x.mark g (omega arith) (λ number a l. f number a) k.mark;
}

-- what was not behind a message is not behind it where no more is
pub not_more : (x y : Bool) → (x ≡ true → y ≡ true) → y ≡ false → x ≡ false
not_more true y f e = absurd (true≢false (sym (f refl) ∙ e))
not_more false y f e = refl

-- a stage that stays
pub given_more : (h more : List Entry) (child : ℕ) → IsGiven h child → IsGiven (h ++ more) child
given_more h more child k = record {
  place = k.place;
  giver = k.giver;
  inside = let l = k.inside in grind (arith, looks, l);
  says = grind (arith, entry_at-append h more k.place, k.inside, k.says);
}

-- an owner that has ended as a call has not run
pub running_not_ended : (x : OwnerFate) → is_running x ≡ true → has_ended x ≡ true → ⊥
running_not_ended Running g h = true≢false (sym h)
running_not_ended Ended g h = true≢false (sym g)
running_not_ended Dropped g h = true≢false (sym g)
running_not_ended (CutOff target) g h = true≢false (sym g)

pub over_not_live : (x : Life) → is_over x ≡ true → is_live x ≡ true → ⊥
over_not_live Unborn e f = true≢false (sym e)
over_not_live Live e f = true≢false (sym e)
over_not_live (Over how) e f = true≢false (sym f)

pub live_not_unborn : (x : Life) → is_live x ≡ true → x ≡ Unborn → ⊥
live_not_unborn x e f = true≢false (sym e ∙ ap is_live f)

pub over_not_unborn : (x : Life) → is_over x ≡ true → x ≡ Unborn → ⊥
over_not_unborn x e f = true≢false (sym e ∙ ap is_over f)

-- steps, moments and marks stay
pub record SameClock (s t : State) : Type 0 where
  pub steps : t.steps ≡ s.steps
  pub moments : t.moments ≡ s.moments
  pub marks : t.marks ≡ s.marks

time_same : (s t : State) → SameClock s t → (time : ℕ) → step_of_time t time ≡ step_of_time s time
time_same s t e time = ap (λ (m : List ℕ). step_of_time (record s { moments = m }) time) e.moments

pub marked_same : (s t : State) → SameClock s t → (key : Key) (z : Carstamp) → marked_step t key z ≡ marked_step s key z
marked_same s t e key z = ap (λ (m : List (List Mark)). marked_step (record t { marks = m }) key z) e.marks ∙ ap (λ (n : ℕ). marked_step (record s { steps = n }) key z) e.steps

pub told_same : (s t : State) → SameClock s t → (w : Owner) (x : Session) → told_step t w x ≡ told_step s w x
told_same s t e w session.Idle = refl
told_same s t e w (session.Fixing r) = refl
told_same s t e w (session.Register r) = ap (λ (n : ℕ). effect_step (is_read_work r.work) n w.dates.launched) (marked_same s t e (work_key r.work) (told_stamp (session.Register r)))
told_same s t e w (session.Transaction x) = time_same s t e (told_time (session.Transaction x))
told_same s t e w (session.Snapshot x) = time_same s t e (told_time (session.Snapshot x))
told_same s t e w (session.Settling attempt shards) = refl

-- owners that have ended stay what they were
abbrev pub is_ended : Owner → Bool
is_ended w = is_call w.kind && has_ended w.fate

pub view_grows : (c : Config) (s t : State) → SameClock s t → ((a : ℕ) → is_ended (owner_at s a) ≡ true → (call_of (owner_at t a) ≡ call_of (owner_at s a)) × (is_ended (owner_at t a) ≡ true) × (told_step s (owner_at t a) (owner_at t a).session ≡ step_of s a)) → Grows (view_of c s) (view_of c t)
view_grows c s t e f = record {
  ended = λ a g. (f a g).1;
  call = λ a g. (f a g).0;
  come = λ a g h. subst (λ (n : ℕ). nat_le (step_of t a) n ≡ true) (sym e.steps) (ap (λ (n : ℕ). nat_le n s.steps) (same a g) ∙ h);
  before = λ a y g h. subst (λ (n : ℕ). (nat_le (step_of t a) n && nat_le (moment_at t (step_of t a)) y) ≡ true) (sym e.steps)
      (subst (λ (m : List ℕ). (nat_le (step_of t a) s.steps && nat_le (get_or (0 ∷ m) (step_of t a) 0) y) ≡ true) (sym e.moments) (ap (λ (n : ℕ). nat_le n s.steps && nat_le (moment_at s n) y) (same a g) ∙ h));
  home = λ i. refl;
  sound = λ i g. refl;
}
  where
    same : (a : ℕ) → is_ended (owner_at s a) ≡ true → step_of t a ≡ step_of s a
    same a g = told_same s t e (owner_at t a) (owner_at t a).session ∙ (f a g).2

-- each that has ended is the same owner
pub view_kept : (c : Config) (s t : State) → SameClock s t → ((a : ℕ) → is_ended (owner_at s a) ≡ true → owner_at t a ≡ owner_at s a) → Grows (view_of c s) (view_of c t)
view_kept c s t e f = view_grows c s t e (λ a g. let q = f a g in (ap call_of q, ap is_ended q ∙ g, ap (λ (v : Owner). told_step s v v.session) q))
