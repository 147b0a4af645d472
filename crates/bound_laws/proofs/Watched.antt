-- A call that begins where its stage's context has no dependency sends the requests of its own rounds alone, and
-- these are few.
use Rattle.std.proofs.Common.{◌≡◌, ℕ, zero, suc, ◌+◌, ◌*◌, ◌<◌, ◌≤◌, Bool, true, false, List, [], ◌∷◌, ◌++◌, length, Some, None, refl, ap, sym, ◌∙◌, arith}
use Rattle.std.specs.Prelude.{⊤, ◌&&◌, ◌==◌, if◌then◌else◌}
use Rattle.std.proofs.lemmas.Bool.{and_parts}
use Rattle.std.proofs.lemmas.Bool.Decides.{nat_tests}
use Rattle.rss_names.specs.declared.service.Key.{Key}
use Rattle.rss_model.specs.declared.op.Op.TheVariants as op
use Rattle.rss_tables.specs.Losses.{losses_of, replica_place, target_count}
use Rattle.rss_machine.specs.declared.session.OwnerKind.TheVariants as kind
use Rattle.rss_names.specs.declared.service.ServiceId.{ServiceId}
use Rattle.rss_names.specs.declared.service.ServiceId.TheVariants.{Txn, Reg}
use Rattle.rss_names.specs.declared.service.Target.{Target}
use Rattle.rss_names.specs.declared.service.Target.TheVariants.{Replica}
use Rattle.causal_context.specs.Seen.{Seen}
use Rattle.pipeline_lang.specs.declared.config.Config.{Config}
use Rattle.rss_wire.proofs.Lines.{same_target-true}
use Rattle.rss_wire.specs.Messages.{same_target}
use Rattle.rss_wire.specs.declared.message.Body.{Body}
use Rattle.rss_wire.specs.declared.message.Body.TheVariants as body
use Rattle.rss_wire.specs.declared.message.Message.{Message}
use Rattle.rss_wire.specs.declared.messages.Request.{Request}
use Rattle.world_laws.specs.Exchanges.{is_request}
use Rattle.rss_machine.specs.Effect.{stepped}
use Rattle.rss_machine.specs.Moves.{counts_act}
use Rattle.rss_machine.specs.Refusal.{refusal}
use Rattle.rss_machine.specs.Run.{run, run_from}
use Rattle.rss_machine.specs.State.{State, start, stage_at, owner_at}
use Rattle.rss_machine.specs.declared.step.Step.{Step}
use Rattle.world_laws.specs.Calls.{is_stub}
use Rattle.world_laws.proofs.Looks.{looks}
use Rattle.world_laws.proofs.Replies.{Sound, sound_start}
use Rattle.world_laws.proofs.Runs.{run_keeps, run_split, run_rest, steps_keep}
use Rattle.world_laws.proofs.Sent.{to_shard, Asks, SentAll, sent_none}
use Rattle.world_laws.proofs.StageMoves.{AnyState}
use Rattle.bound_laws.specs.Counts.{stores_dependencies, is_own, is_own_to, is_request_to, own_requests, requests_to, requests_to_all, losses_with_all}
use Rattle.bound_laws.specs.Laws.{BeginsClean, AllFew}
use Rattle.bound_laws.proofs.Clean.{IsOf}
use Rattle.bound_laws.proofs.ReadRounds.{calls_run}
use Rattle.bound_laws.proofs.Watch.{Plain, Watch, before, after, watch_step}

-- a request that stores no dependencies counts as one of its owner's own rounds
one_own : (o k : ℕ) (id : ServiceId) (m : Message) → Asks (Plain o) m → is_request_to o (Replica id k) m ≡ is_own_to o (Replica id k) m
one_own o k id m f = by_body m.body refl
  where
    x : Bool
    x = m.envelope.owner == o && same_target m.envelope.target (Replica id k)

    drops : (a : Bool) → false ≡ (a && false)
    drops true = refl
    drops false = refl

    plain : (r : Request) → m.body ≡ body.Request r → x ≡ true → stores_dependencies r ≡ false
    plain r e y =
        let p = and_parts _ _ y in
        let i : m.envelope.owner ≡ o = is_owner p.0 in
        f r e i (ap (λ (t : Target). to_shard t r) (same_target-true m.envelope.target (Replica id k) p.1))
      where
        is_owner : (m.envelope.owner == o) ≡ true → m.envelope.owner ≡ o
        is_owner z = grind (arith, nat_tests, z)

    by_test : (r : Request) → m.body ≡ body.Request r → (t : Bool) → x ≡ t → (true && t) ≡ ((if stores_dependencies r then false else true) && t)
    by_test r e false y = drops (if stores_dependencies r then false else true)
    by_test r e true y = ap (λ (b : Bool). (if b then false else true) && true) (sym (plain r e y))

    by_body : (b : Body) → m.body ≡ b → (is_request b && x) ≡ (is_own b && x)
    by_body (body.Request r) e = by_test r e x refl
    by_body (body.Reply r) e = refl

all_own : (o k : ℕ) (id : ServiceId) (net : List Message) → SentAll (Plain o) net → requests_to o (Replica id k) net ≡ own_requests o (Replica id k) net
all_own o k id [] h = refl
all_own o k id (m ∷ net) h =
    ap (λ (b : Bool). if b then suc (requests_to o (Replica id k) net) else requests_to o (Replica id k) net) (one_own o k id m (h.each 0))
    ∙ ap (λ (n : ℕ). if is_own_to o (Replica id k) m then suc n else n) (all_own o k id net (record { each = λ j. h.each (suc j) }))

module _ (c : Config) (n o : ℕ) where
  -- before it begins nothing was sent in its name
  unsent_start : (j : ℕ) → j ≡ o → Watch ⊤ ⊥ n o (start c)
  unsent_start zero e = after (omega (arith, e)) (λ x. absurd x)
  unsent_start (suc j) e = before tt (omega (arith, e)) (sent_none (Plain o))

  unsent : (steps : List Step) (u : State) → run c steps ≡ Some u → Sound u × Watch ⊤ ⊥ n o u
  unsent steps u e = run_keeps c (λ t. Sound t × Watch ⊤ ⊥ n o t) (λ t step r h. watch_step ⊤ ⊥ n o c AnyState (λ s m y. tt) (λ b x. absurd x) t step r tt h) (sound_start c, unsent_start o refl) steps u e

  none_sent : (u : State) → o ≡ length u.owners → Watch ⊤ ⊥ n o u → SentAll (Plain o) u.net
  none_sent u e (before b l h) = h
  none_sent u e (after l h) = absurd (omega (arith, e, l))

  -- it begins clean
  counted : (s : State) (m : ℕ) → (stage_at s n).context.deps ≡ [] → (stage_at (counts_act s m) n).context.deps ≡ []
  counted s m e = ap (λ (x : Seen). x.deps) kept ∙ e
    where
      kept : (stage_at (counts_act s m) n).context ≡ (stage_at s n).context
      kept = grind (arith, looks)

  begun : (v : State) → o < length v.owners → Watch ⊤ ⊤ n o v → Watch ⊥ ⊤ n o v
  begun v l (before b k h) = absurd (omega (arith, l, k))
  begun v l (after k h) = after k h

  begins : (u : State) (next : Step) → refusal c u next ≡ None → o ≡ length u.owners → (stage_at u n).context.deps ≡ [] → o < length (stepped c u next).owners → Sound u × Watch ⊤ ⊥ n o u → Sound (stepped c u next) × Watch ⊥ ⊤ n o (stepped c u next)
  begins u next r e d l h =
      let k = watch_step ⊤ ⊤ n o c (λ t. (stage_at t n).context.deps ≡ []) counted (λ b x s y. y) u next r d (h.0, before tt (omega (arith, e)) (none_sent u e h.1)) in
      (k.0, begun (stepped c u next) l k.1)

  -- and stays so
  goes_on : (more : List Step) (v s : State) → run_from c v more ≡ Some s → Sound v × Watch ⊥ ⊤ n o v → Sound s × Watch ⊥ ⊤ n o s
  goes_on more v s e h = steps_keep c (λ t. Sound t × Watch ⊥ ⊤ n o t) (λ t step r k. watch_step ⊥ ⊤ n o c AnyState (λ s m y. tt) (λ b. absurd b) t step r tt k) more v s e h

  sent_plain : (s : State) → Watch ⊥ ⊤ n o s → IsOf n (owner_at s o) → SentAll (Plain o) s.net
  sent_plain s (before b l h) q = absurd b
  sent_plain s (after l h) q = (h tt q).sent

-- the bounds of replicas together
place_down : (service : ServiceId) (n : ℕ) → replica_place service (suc n) < target_count → replica_place service n < target_count
place_down (Txn k) n l = l
place_down (Reg k) n l = omega (arith, l)

module _ (o : ℕ) (net : List Message) (losses : List ℕ) (service : ServiceId) where
  together_one : ((k : ℕ) → replica_place service k < target_count → requests_to o (Replica service k) net ≤ 1 + losses_of losses (Replica service k)) → (n : ℕ) → replica_place service n < target_count → requests_to_all o service n net ≤ n + losses_with_all losses service n
  together_one f zero l = omega arith
  together_one f (suc n) l = let h = together_one f n (place_down service n l) in let k = f (suc n) l in omega (arith, h, k)

  together_two : ((k : ℕ) → replica_place service k < target_count → requests_to o (Replica service k) net ≤ 2 + losses_of losses (Replica service k)) → (n : ℕ) → replica_place service n < target_count → requests_to_all o service n net ≤ 2 * n + losses_with_all losses service n
  together_two f zero l = omega arith
  together_two f (suc n) l = let h = together_two f n (place_down service n l) in let k = f (suc n) l in omega (arith, h, k)

pub clean_run : (c : Config) (steps more : List Step) (next : Step) (u s : State) (o : ℕ) → run c steps ≡ Some u → run c (steps ++ next ∷ more) ≡ Some s → BeginsClean c u next s o → AllFew s o
clean_run c steps more next u s o e f b = record {
  reads = reads;
  writes = writes;
  reads_together = λ m key service k. together_one o s.net (owner_at s o).losses service (λ replica. reads replica key service k) m;
  writes_together = λ m key value service k. together_two o s.net (owner_at s o).losses service (λ replica. writes replica key value service k) m;
}
  where
    n : ℕ
    n = (owner_at s o).stage

    rest : (refusal c u next ≡ None) × (run_from c (stepped c u next) more ≡ Some s)
    rest = run_rest c u next more s (run_split c steps (next ∷ more) u s e f)

    watched : Sound s × Watch ⊥ ⊤ n o s
    watched = goes_on c n o more (stepped c u next) s rest.1 (begins c n o u next rest.0 b.number b.clean b.begins (unsent c n o steps u e))

    same : (replica : ℕ) (service : ServiceId) → is_stub (owner_at s o).kind ≡ false → requests_to o (Replica service replica) s.net ≡ own_requests o (Replica service replica) s.net
    same replica service q = all_own o replica service s.net (sent_plain c n o s watched.1 (refl, q))

    reads : (replica : ℕ) (key : Key) (service : ServiceId) → (owner_at s o).kind ≡ kind.Calling (op.Read key) → replica_place service replica < target_count → requests_to o (Replica service replica) s.net ≤ 1 + losses_of (owner_at s o).losses (Replica service replica)
    reads replica key service k l =
        let z = same replica service (ap is_stub k) in
        let y = (calls_run c (steps ++ next ∷ more) s f).reads o replica key service k l in
        omega (arith, z, y)

    writes : (replica : ℕ) (key : Key) (value : ℕ) (service : ServiceId) → (owner_at s o).kind ≡ kind.Calling (op.Write key value) → replica_place service replica < target_count → requests_to o (Replica service replica) s.net ≤ 2 + losses_of (owner_at s o).losses (Replica service replica)
    writes replica key value service k l =
        let z = same replica service (ap is_stub k) in
        let y = (calls_run c (steps ++ next ∷ more) s f).writes o replica key value service k l in
        omega (arith, z, y)
