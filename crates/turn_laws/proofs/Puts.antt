-- An owner that is put behind another, what sending leaves of it, and turns behind others.
use Rattle.std.proofs.Common.{◌≡◌, ℕ, ◌<◌, List, [], ◌∷◌, ◌++◌, zero, suc, length, get_or, set, Option, Some, None, refl, sym, ap, ◌∙◌, arith}
use Rattle.std.proofs.lemmas.List.{set-set, get_or-set_same, length-set}
use Rattle.rss_names.specs.declared.attempt.Attempt.{Attempt}
use Rattle.rss_names.specs.declared.service.ServiceId.{ServiceId}
use Rattle.rss_wire.specs.declared.message.Message.{Message}
use Rattle.rss_wire.specs.declared.messages.Outcome.{Outcome}
use Rattle.rss_wire.specs.Messages.{asks}
use Rattle.rss_tables.specs.Lines.{tells_decision, decision_request}
use Rattle.rss_tables.specs.Outs.{Out, told}
use Rattle.rss_tables.specs.Works.{Works}
use Rattle.rss_tables.specs.declared.fences.FenceWork.{FenceWork}
use Rattle.pipeline_lang.specs.declared.config.Config.{Config}
use Rattle.rss_machine.specs.Moves.{with_owner, sends, sends_one, counts_fences, one_more_at}
use Rattle.rss_machine.specs.State.{State, Owner, owner_at, no_owner}
use Rattle.turn_laws.specs.Turns.{OwnerTurn, TurnEnd, turns, takes_turn, ends_turn, behind}

pub put_twice : (s : State) (o : ℕ) (a b : Owner) → with_owner (with_owner s o a) o b ≡ with_owner s o b
put_twice s o a b = ap (λ (l : List Owner). record s { owners = l }) (set-set s.owners o a b)

pub put_there : (s : State) (o : ℕ) (a : Owner) → o < length s.owners → owner_at (with_owner s o a) o ≡ a
put_there s o a h = get_or-set_same s.owners o a no_owner h

-- a change of the owner behind another
pub put_then : (f : Owner → Owner) (s : State) (o : ℕ) (a : Owner) → o < length s.owners → with_owner (with_owner s o a) o (f (owner_at (with_owner s o a) o)) ≡ with_owner s o (f a)
put_then f s o a h = put_twice s o a (f (owner_at (with_owner s o a) o)) ∙ ap (λ (w : Owner). with_owner s o (f w)) (put_there s o a h)

set_same : (xs : List Owner) (i : ℕ) → i < length xs → set xs i (get_or xs i no_owner) ≡ xs
set_same [] i h = absurd (omega (arith, h))
set_same (x ∷ xs) zero h = refl
set_same (x ∷ xs) (suc i) h = ap (λ (l : List Owner). x ∷ l) (set_same xs i (omega (arith, h)))

-- an owner put where it stands
pub same_put : (s : State) (o : ℕ) → o < length s.owners → with_owner s o (owner_at s o) ≡ s
same_put s o h = ap (λ (l : List Owner). record s { owners = l }) (set_same s.owners o h)

-- sending leaves an owner's works
pub sends_works : (s : State) (o : ℕ) (outs : List Out) → o < length s.owners → (owner_at (sends s o outs) o).works ≡ (owner_at s o).works
sends_works s o [] h = refl
sends_works s o (out ∷ outs) h =
    sends_works (sends_one s o out) o outs (omega (arith, h, length-set s.owners o (owner_at (sends_one s o out) o), sent_length))
    ∙ ap (λ (w : Owner). w.works) (get_or-set_same s.owners o _ no_owner h)
  where
    sent_length : length (sends_one s o out).owners ≡ length s.owners
    sent_length = length-set s.owners o _

-- requests behind others
pub sends_behind : (s : State) (o : ℕ) (outs more : List Out) → sends s o (outs ++ more) ≡ sends (sends s o outs) o more
sends_behind s o [] more = refl
sends_behind s o (out ∷ outs) more = sends_behind (sends_one s o out) o outs more

-- fences behind others
pub counts_behind : (works more : List (ServiceId × FenceWork)) (counts : List ℕ) → counts_fences (works ++ more) counts ≡ counts_fences more (counts_fences works counts)
counts_behind [] more counts = refl
counts_behind (work ∷ works) more counts = counts_behind works more _

-- the net behind requests that an owner of this stage sends
abbrev pub net_told : List Message → ℕ → ℕ → List Out → List Message
net_told net o stage [] = net
net_told net o stage (out ∷ outs) = net_told (asks net o stage out.target out.request) o stage outs

-- a state behind requests without a slot, but for the owner
abbrev pub told_to : State → ℕ → ℕ → List Out → State
told_to s o stage outs = record s { net = net_told s.net o stage outs }

tells_one : (s : State) (o : ℕ) (w : Owner) (shard : ℕ) (attempt : Attempt) (outcome : Outcome) → o < length s.owners → sends_one (with_owner s o w) o (told shard (decision_request attempt outcome)) ≡ with_owner (told_to s o w.stage (told shard (decision_request attempt outcome) ∷ [])) o w
tells_one s o w shard attempt outcome h =
    ap (λ (x : Owner). record s { net = asks s.net o x.stage (told shard (decision_request attempt outcome)).target (told shard (decision_request attempt outcome)).request; owners = set (set s.owners o w) o x }) (put_there s o w h)
    ∙ put_twice (told_to s o w.stage (told shard (decision_request attempt outcome) ∷ [])) o w w

-- a decision that is told leaves its owner as it is
pub tells_so : (s : State) (o : ℕ) (w : Owner) (attempt : Attempt) (outcome : Outcome) (shards : List ℕ) → o < length s.owners → sends (with_owner s o w) o (tells_decision attempt outcome shards) ≡ with_owner (told_to s o w.stage (tells_decision attempt outcome shards)) o w
tells_so s o w attempt outcome [] h = refl
tells_so s o w attempt outcome (shard ∷ shards) h =
    ap (λ (t : State). sends t o (tells_decision attempt outcome shards)) (tells_one s o w shard attempt outcome h)
    ∙ tells_so (told_to s o w.stage (told shard (decision_request attempt outcome) ∷ [])) o w attempt outcome shards h

-- a turn behind fences that are planned
pub plans_behind : (c : Config) (s : State) (o : ℕ) (fences : List (ServiceId × FenceWork)) (t : OwnerTurn) → takes_turn c (record s { planned = counts_fences fences s.planned }) o t ≡ takes_turn c s o (behind [] fences t)
plans_behind c s o fences t = ap (λ (l : List ℕ). ends_turn c (sends (record (with_owner s o t.after) { planned = l }) o t.outs) o t.ending) (sym (counts_behind fences t.fences s.planned))

-- a turn behind a decision that is told
pub tells_behind : (c : Config) (s : State) (o : ℕ) (attempt : Attempt) (outcome : Outcome) (shards : List ℕ) (stage : ℕ) (t : OwnerTurn) → o < length s.owners → t.after.stage ≡ stage → takes_turn c (told_to s o stage (tells_decision attempt outcome shards)) o t ≡ takes_turn c s o (behind (tells_decision attempt outcome shards) [] t)
tells_behind c s o attempt outcome shards stage t h e =
    let p : State = record s { planned = counts_fences t.fences s.planned } in
    ap (λ (n : ℕ). ends_turn c (sends (with_owner (told_to p o n (tells_decision attempt outcome shards)) o t.after) o t.outs) o t.ending) (sym e)
    ∙ ap (λ (u : State). ends_turn c (sends u o t.outs) o t.ending) (sym (tells_so p o t.after attempt outcome shards h))
    ∙ ap (λ (u : State). ends_turn c u o t.ending) (sym (sends_behind (with_owner p o t.after) o (tells_decision attempt outcome shards) t.outs))
