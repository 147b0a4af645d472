-- The number of a request among those of its stage to its target is no greater than that of all messages.
use Rattle.std.proofs.Common.{◌≡◌, ℕ, suc, ◌+◌, ◌<◌, ◌≤◌, ◌⊎◌, inl, inr, List, [], ◌∷◌, ◌++◌, length, get_or, Some, None, ap, sym, subst, arith}
use Rattle.std.proofs.Math.ListN.{set}
use Rattle.std.proofs.lemmas.Bool.{cond_both}
use Rattle.rss_names.specs.declared.service.Target.{Target}
use Rattle.pipeline_lang.specs.declared.config.Config.{Config}
use Rattle.rss_wire.specs.Messages.{no_message, message_at, count_requests, is_request_to, asks, answers, meets}
use Rattle.rss_wire.specs.declared.message.Fate.{Fate}
use Rattle.rss_wire.specs.declared.message.Message.{Message}
use Rattle.rss_wire.specs.declared.messages.Reply.{Reply}
use Rattle.rss_wire.specs.declared.messages.Request.{Request}
use Rattle.rss_machine.specs.Effect.{stepped}
use Rattle.rss_machine.specs.Moves.{ticks}
use Rattle.rss_machine.specs.Refusal.{refusal}
use Rattle.rss_machine.specs.Run.{run}
use Rattle.rss_machine.specs.State.{State, owner_at}
use Rattle.rss_machine.specs.declared.step.Step.{Step}
use Rattle.world_laws.proofs.Looks.{looks}
use Rattle.world_laws.proofs.Runs.{passes, run_keeps}
use Rattle.world_laws.proofs.StoreMoves.{StoreKeeps}
use Rattle.world_laws.proofs.StoreWalk.{store_walk}

abbrev pub InOrder : List Message → Type 0
InOrder net = (m : ℕ) → (message_at net m).envelope.ordinal ≤ length net

counted : (stage : ℕ) (target : Target) (net : List Message) → count_requests stage target net ≤ length net
counted stage target [] = omega arith
counted stage target (m ∷ net) =
    let l = counted stage target net in
    cond_both (is_request_to stage target m.envelope) (suc (count_requests stage target net)) (count_requests stage target net) (λ (n : ℕ). n ≤ length (m ∷ net)) (λ e. omega (arith, l)) (λ e. omega (arith, l))

-- one more message
more : (net : List Message) (x : Message) → x.envelope.ordinal ≤ length net + 1 → InOrder net → InOrder (net ++ x ∷ [])
more net x l h m = by_place (at net x m)
  where
    at : (net : List Message) (x : Message) (m : ℕ) → ((message_at (net ++ x ∷ []) m ≡ message_at net m) × (m < length net)) ⊎ (message_at (net ++ x ∷ []) m ≡ x) ⊎ (message_at (net ++ x ∷ []) m ≡ no_message)
    at net x m = grind (arith, looks)

    long : (net : List Message) (x : Message) → length (net ++ x ∷ []) ≡ length net + 1
    long net x = grind (arith, looks)

    by_place : ((message_at (net ++ x ∷ []) m ≡ message_at net m) × (m < length net)) ⊎ (message_at (net ++ x ∷ []) m ≡ x) ⊎ (message_at (net ++ x ∷ []) m ≡ no_message) → (message_at (net ++ x ∷ []) m).envelope.ordinal ≤ length (net ++ x ∷ [])
    by_place (inl e) = let a = ap (λ (y : Message). y.envelope.ordinal) e.0 in let b = h m in let d = long net x in omega (arith, a, b, d)
    by_place (inr (inl e)) = let a = ap (λ (y : Message). y.envelope.ordinal) e in let d = long net x in omega (arith, a, l, d)
    by_place (inr (inr e)) = let a = ap (λ (y : Message). y.envelope.ordinal) e in omega (arith, a)

asked : (net : List Message) (owner stage : ℕ) (target : Target) (r : Request) → InOrder net → InOrder (asks net owner stage target r)
asked net owner stage target r h = more net _ (let l = counted stage target net in omega (arith, l)) h

answered : (net : List Message) (exchange : ℕ) (r : Reply) → InOrder net → InOrder (answers net exchange r)
answered net exchange r h = more net _ (let l = h exchange in omega (arith, l)) h

fated : (net : List Message) (n : ℕ) (f : Fate) → InOrder net → InOrder (meets net n f)
fated net n f h m = by_place (at net n (record (message_at net n) { fate = f }) m)
  where
    at : (net : List Message) (n : ℕ) (x : Message) (m : ℕ) → ((message_at (set net n x) m ≡ x) × (m ≡ n)) ⊎ (message_at (set net n x) m ≡ message_at net m)
    at net n x m = grind (arith, looks)

    long : (net : List Message) (n : ℕ) (x : Message) → length (set net n x) ≡ length net
    long net n x = grind (arith, looks)

    by_place : ((message_at (meets net n f) m ≡ record (message_at net n) { fate = f }) × (m ≡ n)) ⊎ (message_at (meets net n f) m ≡ message_at net m) → (message_at (meets net n f) m).envelope.ordinal ≤ length (meets net n f)
    by_place (inl e) = let a = ap (λ (y : Message). y.envelope.ordinal) e.0 in let b = h n in let d = long net n (record (message_at net n) { fate = f }) in omega (arith, a, b, d)
    by_place (inr e) = let a = ap (λ (y : Message). y.envelope.ordinal) e in let b = h m in let d = long net n (record (message_at net n) { fate = f }) in omega (arith, a, b, d)

ordinals_kept : StoreKeeps (λ (s : State). InOrder s.net)
ordinals_kept = record {
  fates = λ s m f h. fated s.net m f h;
  sends = λ s o out h. asked s.net o (owner_at s o).stage out.target out.request h;
  shards = λ s m shard latest r d h. answered s.net m _ h;
  replicas = λ s m id replica r d h. answered s.net m _ h;
  others = λ s t d h. subst InOrder (sym d.net) h;
}

ordinals_step : (c : Config) (s : State) (step : Step) → refusal c s step ≡ None → InOrder s.net → InOrder (stepped c s step).net
ordinals_step c s step r h = store_walk c (λ (t : State). InOrder t.net) ordinals_kept (ticks s step.at) step.at step.kind (passes c s step r).kind h

pub ordinals_run : (c : Config) (steps : List Step) (s : State) → run c steps ≡ Some s → InOrder s.net
ordinals_run c steps s e = run_keeps c (λ (t : State). InOrder t.net) (ordinals_step c) (λ m. first m) steps s e
  where
    first : (m : ℕ) → (message_at (no_message ∷ []) m).envelope.ordinal ≤ length (no_message ∷ [])
    first m = let e = alone m in let a = ap (λ (y : Message). y.envelope.ordinal) e in omega (arith, a)
      where
        alone : (m : ℕ) → get_or (no_message ∷ []) m no_message ≡ no_message
        alone m = grind (arith, looks)
