-- What each move adds.
use Rattle.std.proofs.Common.{◌≡◌, ℕ, suc, ◌+◌, ◌-◌, ◌<◌, ◌≤◌, ◌⊎◌, inl, inr, Bool, true, false, List, [], ◌∷◌, ◌++◌, length, get_or, Option, Some, None, refl, ap, sym, ◌∙◌, subst, arith}
use Rattle.std.specs.Prelude.{if◌then◌else◌}
use Rattle.std.proofs.Math.ListN.{set}
use Rattle.std.proofs.lemmas.Bool.{cond_both}
use Rattle.rss_names.specs.declared.service.ServiceId.{ServiceId}
use Rattle.rss_names.specs.declared.service.Target.{Target}
use Rattle.rss_names.specs.declared.service.Target.TheVariants.{Shard, Replica}
use Rattle.rss_names.specs.Services.{same_service}
use Rattle.causal_context.specs.Seen.{Seen, fenced_outside}
use Rattle.pipeline_lang.specs.declared.config.Config.{Config}
use Rattle.pipeline_lang.specs.declared.config.PipeEnds.{PipeEnds}
use Rattle.rss_model.specs.Cursor.{Cursor}
use Rattle.rss_model.specs.declared.history.Entry.{Entry}
use Rattle.rss_model.specs.declared.history.Entry.TheVariants.{Over}
use Rattle.rss_model.specs.declared.history.How.{How}
use Rattle.rss_model.specs.declared.history.Token.{Token}
use Rattle.rss_model.specs.declared.op.Op.{Op}
use Rattle.rss_model.specs.declared.op.Shown.{Shown}
use Rattle.rss_wire.specs.declared.message.Fate.{Fate}
use Rattle.rss_wire.specs.declared.message.Message.{Message}
use Rattle.rss_wire.specs.declared.messages.Request.{Request}
use Rattle.rss_tables.specs.Losses.{target_place}
use Rattle.rss_tables.specs.Outs.{Out}
use Rattle.rss_tables.specs.Pipes.{Pipe, opening_pipe, pipe_put}
use Rattle.rss_tables.specs.RegisterSession.{RegSession}
use Rattle.rss_machine.specs.Moves.{marks_message, with_owner, sends_one, sends, serves_shard, serves_replica, notes_served, opens_call, opens_fence, starts_stub, plans_stub, waits_for, fence_ends, enters, turns_session, goes_on, clears, launches, listens, forgets, counts_loss, round_without, session_without, cuts_off, closed, ends_call, ends_fence, counts_act, moves_on, spawns, receives, takes_chunk, puts, closes, cuts_pipe, closes_from, cuts_from, is_to_end, gives_exit, exits, closes_owner, unsettled_by, dies, ends_stub, loses_stub}
use Rattle.rss_machine.specs.Session.{Session, left_unsettled}
use Rattle.rss_tables.specs.Works.{no_works}
use Rattle.rss_machine.specs.State.{State, Stage, Owner, no_stage, no_owner, opening_owner, owner_at, stage_at, pipe_at}
use Rattle.rss_machine.specs.declared.session.OwnerKind.TheVariants as kind
use Rattle.rss_machine.specs.declared.session.Session.TheVariants as session
use Rattle.rss_machine.specs.declared.state.Life.TheVariants as life
use Rattle.rss_machine.specs.declared.state.OwnerFate.{OwnerFate}
use Rattle.rss_machine.specs.declared.state.OwnerFate.TheVariants.{Ended, CutOff}
use Rattle.world_laws.proofs.Looks.{looks}
use Rattle.world_laws.proofs.Told.{each_grow}
use Rattle.count_laws.proofs.FewLines.{shards_few_of}
use Rattle.count_laws.proofs.Budget.{attempt_number, FewIn, FewKind, FewLeft, FewOwner, AllFew, Budget, none, plus, Within, within, OwnerGrew, Grew, grew_more, grew_both, chain, owner_least, still, for_owner, grew_owner, new_grew}

-- MESSAGES

abbrev pub sent : ℕ → Budget
sent n = record { net = n; owners = 0; entries = 0; acts = 0; next = 0; losses = 0; attempts = 0 }

pub g_marks : (s : State) (m : ℕ) (f : Fate) → Grew none s (marks_message s m f)
g_marks s m f = record { steps = refl; long = record { stages = refl; pipes = refl; shards = refl }; net = grind (arith, looks); owners = omega arith; entries = omega arith; acts = λ i. omega arith; next = λ i. omega arith; each = λ o. owner_least 0 0 (owner_at s o); few = λ y. y }

-- only what is current changes of an owner
same_owner : (s : State) (o : ℕ) (w : Owner) → w.losses ≡ (owner_at s o).losses → w.session ≡ (owner_at s o).session → OwnerGrew 0 0 (owner_at s o) w
same_owner s o w a b = record { losses = λ p. (let m = ap (λ (xs : List ℕ). get_or xs p 0) a in omega (arith, m)); attempts = let m = ap attempt_number b in omega (arith, m) }

-- a list with one element in another's place is as long
set_length : {A : Type 0} (xs : List A) (k : ℕ) (x : A) → length (set xs k x) ≡ length xs
set_length xs k x = grind (arith, looks)

more_sent : (xs : List Message) (x : Message) → length (xs ++ x ∷ []) ≤ length xs + 1
more_sent xs x = grind (arith, looks)

pub g_sends_one : (s : State) (o : ℕ) (out : Out) → Grew (sent 1) s (sends_one s o out)
g_sends_one s o out =
    let w = record (owner_at s o) { currents = (owner_at s o).currents } in
    let g = grew_owner 0 0 s (record s { owners = (sends_one s o out).owners }) o _ refl refl refl refl refl refl refl (same_owner s o _ refl refl) (λ h. record { session = h.session; kind = h.kind }) in
    record { steps = refl; long = record { stages = refl; pipes = refl; shards = refl }; net = more_sent s.net _; owners = g.owners; entries = g.entries; acts = g.acts; next = g.next; each = g.each; few = g.few }

pub g_sends : (o : ℕ) (outs : List Out) (s : State) → Grew (sent (length outs)) s (sends s o outs)
g_sends o [] s = still s
g_sends o (out ∷ outs) s =
    chain (sent 1) (sent (length outs)) (sent (suc (length outs))) s (sends_one s o out) (sends (sends_one s o out) o outs)
    (record { net = omega arith; owners = omega arith; entries = omega arith; acts = omega arith; next = omega arith; losses = omega arith; attempts = omega arith })
    (g_sends_one s o out) (g_sends o outs (sends_one s o out))

pub g_sends_upto : (n o : ℕ) (outs : List Out) (s : State) → length outs ≤ n → Grew (sent n) s (sends s o outs)
g_sends_upto n o outs s l = grew_more (sent (length outs)) (sent n) s (sends s o outs) (record { net = l; owners = omega arith; entries = omega arith; acts = omega arith; next = omega arith; losses = omega arith; attempts = omega arith }) (g_sends o outs s)

pub g_serves_shard : (s : State) (m shard latest : ℕ) (r : Request) → Grew (sent 1) s (serves_shard s m shard latest r)
g_serves_shard s m shard latest r = record { steps = refl; long = record { stages = refl; pipes = refl; shards = set_length s.shards (shard - 1) _ }; net = more_sent s.net _; owners = omega arith; entries = omega arith; acts = λ i. omega arith; next = λ i. omega arith; each = λ o. owner_least 0 0 (owner_at s o); few = λ y. y }

pub g_serves_replica : (s : State) (m o : ℕ) (service : ServiceId) (replica : ℕ) (r : Request) → Grew (sent 1) s (notes_served (serves_replica s m service replica r) o service r)
g_serves_replica s m o service replica r =
    let t = notes_served (serves_replica s m service replica r) o service r in
    let g = grew_owner 0 0 s (record s { owners = t.owners }) o _ refl refl refl refl refl refl refl (same_owner s o _ refl refl) (λ h. record { session = h.session; kind = h.kind }) in
    record { steps = refl; long = record { stages = refl; pipes = refl; shards = refl }; net = more_sent s.net _; owners = g.owners; entries = g.entries; acts = g.acts; next = g.next; each = g.each; few = g.few }

-- OWNERS

pub g_same : (s : State) (o : ℕ) (w : Owner) → w.losses ≡ (owner_at s o).losses → w.session ≡ (owner_at s o).session → w.kind ≡ (owner_at s o).kind → Grew none s (with_owner s o w)
g_same s o w a b d = grew_owner 0 0 s (with_owner s o w) o w refl refl refl refl refl refl refl (same_owner s o w a b) (λ h. record { session = subst FewIn (sym b) h.session; kind = subst FewKind (sym d) h.kind })

-- an owner with another session
pub g_session : (attempts : ℕ) (s : State) (o : ℕ) (w : Owner) → w.losses ≡ (owner_at s o).losses → attempt_number w.session ≤ attempt_number (owner_at s o).session + attempts → FewIn w.session → w.kind ≡ (owner_at s o).kind → Grew (for_owner 0 attempts) s (with_owner s o w)
g_session attempts s o w a b f d = grew_owner 0 attempts s (with_owner s o w) o w refl refl refl refl refl refl refl
    (record { losses = λ p. (let m = ap (λ (xs : List ℕ). get_or xs p 0) a in omega (arith, m)); attempts = b }) (λ h. record { session = f; kind = subst FewKind (sym d) h.kind })

pub g_idles : (s : State) (o : ℕ) (w : Owner) → w.losses ≡ (owner_at s o).losses → w.session ≡ session.Idle → w.kind ≡ (owner_at s o).kind → Grew none s (with_owner s o w)
g_idles s o w a b d = g_session 0 s o w a (let m = ap attempt_number b in omega (arith, m)) (subst FewIn (sym b) tt) d

pub g_turns : (attempts : ℕ) (s : State) (o : ℕ) (x : Session) → attempt_number x ≤ attempt_number (owner_at s o).session + attempts → FewIn x → Grew (for_owner 0 attempts) s (turns_session s o x)
g_turns attempts s o x b f = g_session attempts s o _ refl b f refl

abbrev pub going : ℕ → ℕ → Budget
going n attempts = record { net = n; owners = 0; entries = 0; acts = 0; next = 0; losses = 0; attempts = attempts }

pub going_within : (n attempts : ℕ) → Within (plus (for_owner 0 attempts) (sent n)) (going n attempts)
going_within n attempts = record { net = omega arith; owners = omega arith; entries = omega arith; acts = omega arith; next = omega arith; losses = omega arith; attempts = omega arith }

pub g_goes_on : (n attempts : ℕ) (s : State) (o : ℕ) (x : Session) (outs : List Out) → attempt_number x ≤ attempt_number (owner_at s o).session + attempts → FewIn x → length outs ≤ n → Grew (going n attempts) s (goes_on s o x outs)
g_goes_on n attempts s o x outs b f l = chain (for_owner 0 attempts) (sent n) (going n attempts) s (turns_session s o x) (goes_on s o x outs) (going_within n attempts) (g_turns attempts s o x b f) (g_sends_upto n o outs (turns_session s o x) l)

pub g_launches : (n attempts : ℕ) (s : State) (o : ℕ) (x : Session) (outs : List Out) → attempt_number x ≤ attempt_number (owner_at s o).session + attempts → FewIn x → length outs ≤ n → Grew (going n attempts) s (launches s o x outs)
g_launches n attempts s o x outs b f l =
    let w = record (owner_at s o) { session = x; dates = record (owner_at s o).dates { launched = s.steps } } in
    chain (for_owner 0 attempts) (sent n) (going n attempts) s (with_owner s o w) (launches s o x outs) (going_within n attempts) (g_session attempts s o w refl b f refl) (g_sends_upto n o outs (with_owner s o w) l)

-- an owner begins, with an entry or none
abbrev pub begun : ℕ → Budget
begun entries = record { net = 0; owners = 1; entries = entries; acts = 0; next = 0; losses = 0; attempts = 0 }

one_more : (xs : List Owner) (w : Owner) → length (xs ++ w ∷ []) ≤ length xs + 1
one_more xs w = grind (arith, looks)

pub more_entries : (xs : List Entry) (x : Entry) → length (xs ++ x ∷ []) ≤ length xs + 1
more_entries xs x = grind (arith, looks)

-- the stages with one of as many acts
pub acts_set : (xs : List Stage) (k : ℕ) (w : Stage) (i : ℕ) → w.acts ≡ (get_or xs k no_stage).acts → (get_or (set xs k w) i no_stage).acts ≤ (get_or xs i no_stage).acts + 0
acts_set xs k w i e = grind (arith, looks, e)

new_each : (s : State) (w : Owner) → OwnerGrew 0 0 (owner_at s (length s.owners)) w → (o : ℕ) → OwnerGrew 0 0 (owner_at s o) (get_or (s.owners ++ w ∷ []) o no_owner)
new_each s w h = each_grow (λ o v. OwnerGrew 0 0 (owner_at s o) v) s.owners w h (λ o. owner_least 0 0 (owner_at s o))

pub g_opens_call : (s : State) (n : ℕ) (x : Op) → Grew (begun 1) s (opens_call s n x)
g_opens_call s n x = record {
  steps = refl;
  long = record { stages = set_length s.stages (n - 1) _; pipes = refl; shards = refl };
  net = omega arith;
  owners = one_more s.owners _;
  entries = more_entries s.history _;
  acts = λ i. acts_set s.stages (n - 1) _ i refl;
  next = λ i. omega arith;
  each = new_each s _ (new_grew 0 0 (owner_at s (length s.owners)) _ refl refl);
  few = λ h. each_grow (λ o v. FewOwner v) s.owners _ (record { session = tt; kind = tt }) h;
}

pub g_opens_fence : (s : State) (n : ℕ) → Grew (begun 0) s (opens_fence s n)
g_opens_fence s n = record {
  steps = refl;
  long = record { stages = set_length s.stages (n - 1) _; pipes = refl; shards = refl };
  net = omega arith;
  owners = one_more s.owners _;
  entries = omega arith;
  acts = λ i. acts_set s.stages (n - 1) _ i refl;
  next = λ i. omega arith;
  each = new_each s _ (new_grew 0 0 (owner_at s (length s.owners)) _ refl refl);
  few = λ h. each_grow (λ o v. FewOwner v) s.owners _ (record { session = tt; kind = tt }) h;
}

pub g_plans_stub : (s : State) (o : ℕ) → Grew none s (plans_stub s o)
g_plans_stub s o =
    let g = g_idles s o (get_or (plans_stub s o).owners o no_owner) in
    grew_owner 0 0 s (plans_stub s o) o _ refl refl refl refl refl refl refl (record { losses = λ p. omega arith; attempts = omega arith }) (λ h. record { session = tt; kind = h.kind })

pub g_listens : (s : State) (o slot : ℕ) → Grew none s (listens s o slot)
g_listens s o slot = g_same s o _ refl refl refl

pub g_forgets : (s : State) (o : ℕ) → Grew none s (forgets s o)
g_forgets s o = g_same s o _ refl refl refl

pub g_starts_stub : (s : State) (o : ℕ) → Grew none s (starts_stub s o)
g_starts_stub s o = g_same s o _ refl refl refl

pub g_waits_for : (s : State) (o time : ℕ) → Grew none s (waits_for s o time)
g_waits_for s o time = g_same s o _ refl refl refl

pub g_enters : (s : State) (o : ℕ) (id : ServiceId) (latest : ℕ) → Grew none s (enters s o id latest)
g_enters s o id latest = g_same s o _ refl refl refl

pub g_fence_ends : (s : State) (o : ℕ) (id : ServiceId) → Grew none s (fence_ends s o id)
g_fence_ends s o id = g_idles s o _ refl refl refl

pub g_clears : (s : State) (o : ℕ) → Grew none s (clears s o)
g_clears s o = g_idles s o _ refl refl refl

lost_more : (xs : List ℕ) (k p : ℕ) → get_or (set xs k (get_or xs k 0 + 1)) p 0 ≤ get_or xs p 0 + 1
lost_more xs k p = grind (arith, looks)

pub g_counts_loss : (s : State) (o : ℕ) (target : Target) → Grew (for_owner 1 0) s (counts_loss s o target)
g_counts_loss s o target = grew_owner 1 0 s (counts_loss s o target) o _ refl refl refl refl refl refl refl
    (record { losses = λ p. lost_more (owner_at s o).losses (target_place target) p; attempts = omega arith }) (λ h. record { session = h.session; kind = h.kind })

without_few : (r : RegSession) (service : ServiceId) (replica : ℕ) → r.round.replicas ≤ 7 → (round_without r service replica).round.replicas ≤ 7
without_few r service replica l = cond_both (same_service r.service service) _ r (λ (x : RegSession). x.round.replicas ≤ 7) (λ e. l) (λ e. l)

session_few : (x : Session) (target : Target) → FewIn x → FewIn (session_without x target)
session_few session.Idle target h = tt
session_few (session.Register r) (Replica service replica) h = without_few r service replica h
session_few (session.Register r) (Shard shard) h = h
session_few (session.Fixing r) (Replica service replica) h = without_few r service replica h
session_few (session.Fixing r) (Shard shard) h = h
session_few (session.Transaction t) target h = h
session_few (session.Snapshot t) target h = h
session_few (session.Settling attempt shards) target h = h

session_attempts : (x : Session) (target : Target) → attempt_number (session_without x target) ≡ attempt_number x
session_attempts session.Idle target = refl
session_attempts (session.Register r) (Replica service replica) = refl
session_attempts (session.Register r) (Shard shard) = refl
session_attempts (session.Fixing r) (Replica service replica) = refl
session_attempts (session.Fixing r) (Shard shard) = refl
session_attempts (session.Transaction t) target = refl
session_attempts (session.Snapshot t) target = refl
session_attempts (session.Settling attempt shards) target = refl

pub g_cuts_off : (s : State) (o : ℕ) (target : Target) → Grew none s (cuts_off s o target)
g_cuts_off s o target = grew_owner 0 0 s (cuts_off s o target) o _ refl refl refl refl refl refl refl
    (record { losses = λ p. omega arith; attempts = let e = session_attempts (owner_at s o).session target in omega (arith, e) })
    (λ h. record { session = session_few (owner_at s o).session target h.session; kind = h.kind })

-- STAGES AND PIPES

abbrev pub entered : ℕ → Budget
entered n = record { net = 0; owners = 0; entries = n; acts = 0; next = 0; losses = 0; attempts = 0 }

-- owners change that keep their sessions, stages that keep their acts, and an entry is added
pub g_ends_call : (s : State) (o : ℕ) (shown : List Shown) (cursor : Cursor) (seen : Seen) → Grew (entered 1) s (ends_call s o shown cursor seen)
g_ends_call s o shown cursor seen =
    let g = g_same s o (closed s o _) refl refl refl in
    record { steps = refl; long = record { stages = set_length s.stages ((owner_at s o).stage - 1) _; pipes = refl; shards = refl }; net = omega arith; owners = g.owners; entries = more_entries s.history _; acts = λ i. acts_set s.stages ((owner_at s o).stage - 1) _ i refl; next = λ i. omega arith; each = g.each; few = g.few }

pub g_ends_fence : (s : State) (o : ℕ) (cursor : Cursor) (seen : Seen) → Grew none s (ends_fence s o cursor seen)
g_ends_fence s o cursor seen =
    let g = g_same s o (closed s o _) refl refl refl in
    record { steps = refl; long = record { stages = set_length s.stages ((owner_at s o).stage - 1) _; pipes = refl; shards = refl }; net = omega arith; owners = g.owners; entries = omega arith; acts = λ i. acts_set s.stages ((owner_at s o).stage - 1) _ i refl; next = λ i. omega arith; each = g.each; few = g.few }

abbrev pub one_act : Budget
one_act = record { net = 0; owners = 0; entries = 0; acts = 1; next = 0; losses = 0; attempts = 0 }

act_more : (xs : List Stage) (k : ℕ) (w : Stage) (i : ℕ) → w.acts ≡ (get_or xs k no_stage).acts + 1 → (get_or (set xs k w) i no_stage).acts ≤ (get_or xs i no_stage).acts + 1
act_more xs k w i e = grind (arith, looks, e)

pub g_counts_act : (s : State) (n : ℕ) → Grew one_act s (counts_act s n)
g_counts_act s n = record { steps = refl; long = record { stages = set_length s.stages (n - 1) _; pipes = refl; shards = refl }; net = omega arith; owners = omega arith; entries = omega arith; acts = λ i. act_more s.stages (n - 1) _ i refl; next = λ i. omega arith; each = λ o. owner_least 0 0 (owner_at s o); few = λ h. h }

-- stages keep their acts, and entries are added
staged : (n : ℕ) (s : State) (stages : List Stage) (history : List Entry) → length stages ≡ length s.stages → ((i : ℕ) → (get_or stages i no_stage).acts ≤ (get_or s.stages i no_stage).acts + 0) → length history ≤ length s.history + n → Grew (entered n) s (record s { stages = stages; history = history })
staged n s stages history e a l = record { steps = refl; long = record { stages = e; pipes = refl; shards = refl }; net = omega arith; owners = omega arith; entries = l; acts = a; next = λ i. omega arith; each = λ o. owner_least 0 0 (owner_at s o); few = λ h. h }

pub g_moves_on : (s : State) (n : ℕ) (cursor : Cursor) → Grew none s (moves_on s n cursor)
g_moves_on s n cursor = staged 0 s _ s.history (set_length s.stages (n - 1) _) (λ i. acts_set s.stages (n - 1) _ i refl) (omega arith)

two_entries : (xs : List Entry) (x y : Entry) → length (xs ++ x ∷ y ∷ []) ≤ length xs + 2
two_entries xs x y = let e = at xs (x ∷ y ∷ []) in omega (arith, e)
  where
    at : (xs ys : List Entry) → length (xs ++ ys) ≡ length xs + length ys
    at xs ys = grind (arith, looks)

acts_set_two : (xs : List Stage) (k j : ℕ) (v w : Stage) (i : ℕ) → v.acts ≡ (get_or xs k no_stage).acts → w.acts ≡ (get_or xs j no_stage).acts → (get_or (set (set xs k v) j w) i no_stage).acts ≤ (get_or xs i no_stage).acts + 0
acts_set_two xs k j v w i e f = grind (arith, looks, e, f)

pub g_spawns : (s : State) (n child : ℕ) (cursor : Cursor) → Grew (entered 2) s (spawns s n child cursor)
g_spawns s n child cursor = staged 2 s _ _ (set_length (set s.stages (n - 1) _) (child - 1) _ ∙ set_length s.stages (n - 1) _) (λ i. acts_set_two s.stages (n - 1) (child - 1) _ _ i refl refl) (two_entries s.history _ _)

pub g_receives : (s : State) (n : ℕ) (t : Token) (seen : Seen) (cursor : Cursor) → Grew (entered 1) s (receives s n t seen cursor)
g_receives s n t seen cursor = staged 1 s _ _ (set_length s.stages (n - 1) _) (λ i. acts_set s.stages (n - 1) _ i refl) (more_entries s.history _)

next_set : (xs : List Pipe) (k : ℕ) (w : Pipe) (i more : ℕ) → w.next ≤ (get_or xs k opening_pipe).next + more → (get_or (set xs k w) i opening_pipe).next ≤ (get_or xs i opening_pipe).next + more
next_set xs k w i more l = grind (arith, looks, l)

piped : (more n : ℕ) (s : State) (pipes : List Pipe) (stages : List Stage) (history : List Entry) → length pipes ≡ length s.pipes → length stages ≡ length s.stages → ((i : ℕ) → (get_or pipes i opening_pipe).next ≤ (get_or s.pipes i opening_pipe).next + more) → ((i : ℕ) → (get_or stages i no_stage).acts ≤ (get_or s.stages i no_stage).acts + 0) → length history ≤ length s.history + n
    → Grew (record { net = 0; owners = 0; entries = n; acts = 0; next = more; losses = 0; attempts = 0 }) s (record s { pipes = pipes; stages = stages; history = history })
piped more n s pipes stages history d e b a l = record { steps = refl; long = record { stages = e; pipes = d; shards = refl }; net = omega arith; owners = omega arith; entries = l; acts = a; next = b; each = λ o. owner_least 0 0 (owner_at s o); few = λ h. h }

pub g_takes_chunk : (s : State) (p : ℕ) → Grew none s (takes_chunk s p)
g_takes_chunk s p = piped 0 0 s _ s.stages s.history (set_length s.pipes (p - 1) _) refl (λ i. next_set s.pipes (p - 1) _ i 0 (omega arith)) (λ i. omega arith) (omega arith)

abbrev pub given : Budget
given = record { net = 0; owners = 0; entries = 1; acts = 0; next = 1; losses = 0; attempts = 0 }

put_next : (x : Pipe) (value : ℕ) (seen : Seen) (dropped : Bool) → (pipe_put x value seen dropped).next ≤ x.next + 1
put_next x value seen true = omega arith
put_next x value seen false = omega arith

pub g_puts : (s : State) (n p value : ℕ) (dropped : Bool) (cursor : Cursor) → Grew given s (puts s n p value dropped cursor)
g_puts s n p value dropped cursor = piped 1 1 s _ _ _ (set_length s.pipes (p - 1) _) (set_length s.stages (n - 1) _) (λ i. next_set s.pipes (p - 1) _ i 1 (put_next (pipe_at s p) value _ dropped)) (λ i. acts_set s.stages (n - 1) _ i refl) (more_entries s.history _)

pub g_closes : (s : State) (n : ℕ) (seen : Seen) (p : ℕ) → Grew given s (closes s n seen p)
g_closes s n seen p = piped 1 1 s _ s.stages _ (set_length s.pipes (p - 1) _) refl (λ i. next_set s.pipes (p - 1) _ i 1 (omega arith)) (λ i. omega arith) (more_entries s.history _)

pub g_cuts_pipe : (s : State) (p : ℕ) → Grew none s (cuts_pipe s p)
g_cuts_pipe s p = piped 0 0 s _ s.stages s.history (set_length s.pipes (p - 1) _) refl (λ i. next_set s.pipes (p - 1) _ i 0 (omega arith)) (λ i. omega arith) (omega arith)

-- each pipe is closed once at most: those before a number stay
abbrev pub many_given : ℕ → Budget
many_given n = record { net = 0; owners = 0; entries = n; acts = 0; next = 1; losses = 0; attempts = 0 }

record Closes (n p : ℕ) (s t : State) : Type 0 where
  grew : Grew (many_given n) s t
  before : (i : ℕ) → i < p - 1 → (get_or t.pipes i opening_pipe).next ≡ (get_or s.pipes i opening_pipe).next

closed_before : (xs : List Pipe) (k : ℕ) (w : Pipe) (i : ℕ) → i < k → (get_or (set xs k w) i opening_pipe).next ≡ (get_or xs i opening_pipe).next
closed_before xs k w i l = grind (arith, looks, l)

closed_other : (xs : List Pipe) (k : ℕ) (w : Pipe) (i : ℕ) → (i ≡ k → ⊥) → (get_or (set xs k w) i opening_pipe).next ≡ (get_or xs i opening_pipe).next
closed_other xs k w i n = grind (arith, looks, n)

-- what one of them does
record ClosesOne (p : ℕ) (s t : State) : Type 0 where
  one : Grew given s t
  other : (i : ℕ) → (i ≡ p - 1 → ⊥) → (get_or t.pipes i opening_pipe).next ≡ (get_or s.pipes i opening_pipe).next

closes_one : (c : Config) (s : State) (n : ℕ) (seen : Seen) (p : ℕ) → ClosesOne p s (if is_to_end c s n p then closes s n seen p else s)
closes_one c s n seen p = cond_both (is_to_end c s n p) (closes s n seen p) s (ClosesOne p s)
    (λ e. record { one = g_closes s n seen p; other = λ i f. closed_other s.pipes (p - 1) _ i f })
    (λ e. record { one = grew_more none given s s (within none given refl) (still s); other = λ i f. refl })

closes_all : (c : Config) (n : ℕ) (seen : Seen) (ends : List PipeEnds) (p : ℕ) (s : State) → 0 < p → Closes (length ends) p s (closes_from c s n seen p ends)
closes_all c n seen [] p s l = record { grew = grew_more none (many_given 0) s s (within none (many_given 0) refl) (still s); before = λ i m. refl }
closes_all c n seen (x ∷ ends) p s l =
    let t = if is_to_end c s n p then closes s n seen p else s in
    let u = closes_from c t n seen (p + 1) ends in
    let a = closes_one c s n seen p in
    let b = closes_all c n seen ends (p + 1) t (omega arith) in
    let g = a.one in
    let h = b.grew in
    record {
      grew = record {
        steps = h.steps ∙ g.steps;
        long = record { stages = h.long.stages ∙ g.long.stages; pipes = h.long.pipes ∙ g.long.pipes; shards = h.long.shards ∙ g.long.shards };
        net = let x = g.net in let y = h.net in omega (arith, x, y);
        owners = let x = g.owners in let y = h.owners in omega (arith, x, y);
        entries = let x = g.entries in let y = h.entries in omega (arith, x, y);
        acts = λ i. (let x = g.acts i in let y = h.acts i in omega (arith, x, y));
        next = λ i. by_place i b a (cases_of i (p - 1));
        each = (grew_both given (many_given (length ends)) s t u g h).each;
        few = λ f. h.few (g.few f);
      };
      before = λ i m. b.before i (omega (arith, m, l)) ∙ a.other i (λ e. omega (arith, e, m));
    }
  where
    cases_of : (i k : ℕ) → (i ≡ k) ⊎ (i ≡ k → ⊥)
    cases_of i k = grind arith

    by_place : (i : ℕ) → Closes (length ends) (p + 1) (if is_to_end c s n p then closes s n seen p else s) (closes_from c (if is_to_end c s n p then closes s n seen p else s) n seen (p + 1) ends) → ClosesOne p s (if is_to_end c s n p then closes s n seen p else s) → (i ≡ p - 1) ⊎ (i ≡ p - 1 → ⊥)
        → (get_or (closes_from c (if is_to_end c s n p then closes s n seen p else s) n seen (p + 1) ends).pipes i opening_pipe).next ≤ (get_or s.pipes i opening_pipe).next + 1
    by_place i b a (inl e) = let x = b.before i (omega (arith, e, l)) in let y = a.one.next i in omega (arith, x, y)
    by_place i b a (inr e) = let x = b.grew.next i in let y = a.other i e in omega (arith, x, y)

cuts_all : (c : Config) (n : ℕ) (ends : List PipeEnds) (p : ℕ) (s : State) → Grew none s (cuts_from c s n p ends)
cuts_all c n [] p s = still s
cuts_all c n (x ∷ ends) p s =
    let t = if is_to_end c s n p then cuts_pipe s p else s in
    chain none none none s t (cuts_from c t n (p + 1) ends) (within none none refl)
    (cond_both (is_to_end c s n p) (cuts_pipe s p) s (Grew none s) (λ e. g_cuts_pipe s p) (λ e. still s)) (cuts_all c n ends (p + 1) t)

-- all pipes of a stage end, and its exit is given
abbrev pub exit_given : Budget
exit_given = record { net = 0; owners = 0; entries = 17; acts = 0; next = 1; losses = 0; attempts = 0 }

pub g_gives_exit : (c : Config) (s : State) (n : ℕ) (seen : Seen) → length c.pipe_ends ≤ 16 → Grew exit_given s (gives_exit c s n seen)
g_gives_exit c s n seen l =
    let t = closes_from c s n seen 1 c.pipe_ends in
    chain (many_given (length c.pipe_ends)) (entered 1) exit_given s t (gives_exit c s n seen)
    (record { net = omega arith; owners = omega arith; entries = omega (arith, l); acts = omega arith; next = omega arith; losses = omega arith; attempts = omega arith })
    (closes_all c n seen c.pipe_ends 1 s (omega arith)).grew
    (staged 1 t t.stages _ refl (λ i. omega arith) (more_entries t.history _))

abbrev pub exited : Budget
exited = record { net = 0; owners = 0; entries = 18; acts = 0; next = 1; losses = 0; attempts = 0 }

pub g_exits : (c : Config) (s : State) (n : ℕ) → length c.pipe_ends ≤ 16 → Grew exited s (exits c s n)
g_exits c s n l =
    let t = record s { stages = (exits c s n).stages; history = s.history } in
    chain (entered 1) exit_given exited s _ (exits c s n) (within (plus (entered 1) exit_given) exited refl)
    (staged 1 s _ _ (set_length s.stages (n - 1) _) (λ i. acts_set s.stages (n - 1) _ i refl) (more_entries s.history _)) (g_gives_exit c _ n (stage_at s n).context l)

-- DEATHS AND STUBS

left_few : (x : Session) → FewIn x → FewLeft (left_unsettled x)
left_few (session.Transaction t) h = shards_few_of t.lines h
left_few session.Idle h = tt
left_few (session.Fixing r) h = tt
left_few (session.Register r) h = tt
left_few (session.Snapshot t) h = tt
left_few (session.Settling attempt shards) h = tt

unsettled_few : (s : State) (o : Option ℕ) → AllFew s → FewLeft (unsettled_by s o)
unsettled_few s None h = tt
unsettled_few s (Some o) h = left_few (owner_at s o).session (h o).session

g_closes_owner : (s : State) (o : Option ℕ) (f : OwnerFate) → Grew none s (closes_owner s o f)
g_closes_owner s None f = still s
g_closes_owner s (Some o) f = g_same s o _ refl refl refl

pub g_dies : (s : State) (n : ℕ) (how : How) (f : OwnerFate) → Grew (begun 1) s (dies s n how f)
g_dies s n how f =
    let stub = opening_owner n (kind.Stubbing (unsettled_by s (stage_at s n).owner)) false (no_works (stage_at s n).context) s.steps in
    let t = closes_owner s (stage_at s n).owner f in
    let g = g_closes_owner s (stage_at s n).owner f in
    record {
      steps = g.steps;
      long = record { stages = set_length t.stages (n - 1) _ ∙ g.long.stages; pipes = g.long.pipes; shards = g.long.shards };
      net = g.net;
      owners = let a = g.owners in let b = one_more t.owners stub in omega (arith, a, b);
      entries = let a = g.entries in let b = more_entries t.history (Over n how) in omega (arith, a, b);
      acts = λ i. (let a = g.acts i in let b = acts_set t.stages (n - 1) (record (stage_at t n) { life = life.Over how; owner = None; stub = Some (length t.owners) }) i refl in omega (arith, a, b));
      next = g.next;
      each = each_grow (λ o v. OwnerGrew 0 0 (owner_at s o) v) t.owners stub (new_grew 0 0 (owner_at s (length t.owners)) stub refl refl) g.each;
      few = λ h. each_grow (λ o v. FewOwner v) t.owners stub (record { session = tt; kind = unsettled_few s (stage_at s n).owner h }) (g.few h);
    }

-- a stub ends with a context
pub g_ends_stub : (c : Config) (s : State) (o : ℕ) → length c.pipe_ends ≤ 16 → Grew exit_given s (ends_stub c s o)
g_ends_stub c s o l =
    let seen = fenced_outside (owner_at s o).works.copy in
    let w = record (closed s o Ended) { works = record (owner_at s o).works { copy = seen } } in
    chain none exit_given exit_given s (with_owner s o w) (ends_stub c s o) (within (plus none exit_given) exit_given refl) (g_same s o w refl refl refl) (g_gives_exit c (with_owner s o w) (owner_at s o).stage seen l)

pub g_loses_stub : (c : Config) (s : State) (o : ℕ) (target : Target) → Grew none s (loses_stub c s o target)
g_loses_stub c s o target =
    let w = closed s o (CutOff target) in
    chain none none none s (with_owner s o w) (loses_stub c s o target) (within (plus none none) none refl) (g_same s o w refl refl refl) (cuts_all c (owner_at s o).stage c.pipe_ends 1 (with_owner s o w))
