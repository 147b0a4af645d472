-- In every run the registers that are named are those that the scripts name.
use Rattle.std.proofs.Common.{◌≡◌, ℕ, List, [], ◌∷◌, ◌++◌, All, Some, None, refl, sym, subst}
use Rattle.std.proofs.Math.ListN.{set}
use Rattle.std.proofs.lemmas.List.Elements.{All-cons, All-nil, All-set, All-push}
use Rattle.truetime.specs.Reading.{Reading}
use Rattle.rss_names.specs.declared.attempt.Attempt.{Attempt}
use Rattle.rss_names.specs.declared.service.Key.{Key}
use Rattle.rss_names.specs.declared.service.Target.{Target}
use Rattle.causal_context.specs.declared.dep.Dep.{Dep}
use Rattle.pipeline_lang.specs.declared.config.Config.{Config}
use Rattle.pipeline_lang.specs.declared.script.Statement.{Statement}
use Rattle.pipeline_lang.specs.declared.script.Statement.TheVariants as statement
use Rattle.pipeline_lang.specs.Config.{statement_at}
use Rattle.rss_model.specs.CallStatement.{op_of_statement}
use Rattle.rss_model.specs.declared.op.Op.{Op}
use Rattle.rss_wire.specs.Messages.{message_at}
use Rattle.rss_wire.specs.declared.messages.Outcome.{Outcome}
use Rattle.rss_wire.specs.declared.messages.Request.{Request}
use Rattle.rss_tables.specs.Lines.{tells_decision}
use Rattle.rss_tables.specs.Outs.{Out}
use Rattle.rss_machine.specs.Effect.{stepped}
use Rattle.rss_machine.specs.Moves.{ticks, sends_one, sends, listens, plans_stub}
use Rattle.rss_machine.specs.Refusal.{refusal}
use Rattle.rss_machine.specs.Run.{run}
use Rattle.rss_machine.specs.Session.{Session}
use Rattle.rss_machine.specs.State.{State, Owner, start, no_owner, stage_at}
use Rattle.rss_machine.specs.declared.step.Step.{Step}
use Rattle.world_laws.specs.Registers.{statement_registers}
use Rattle.world_laws.proofs.Contexts.{deps_start}
use Rattle.world_laws.proofs.Doings.{Changed, Beginning, calls, fences}
use Rattle.world_laws.proofs.Looks.{some_is, none_is_not}
use Rattle.world_laws.proofs.OwnerMoves.{OwnerKeeps}
use Rattle.world_laws.proofs.OwnerWalk.{owner_walk}
use Rattle.world_laws.proofs.Runs.{passes}
use Rattle.world_laws.proofs.Sent.{SessionOut, IsTold, decision_outs, leaving_outs, doing_outs, sends_each, SentAll, sent_meets, sent_asks, sent_answers}
use Rattle.world_laws.proofs.SessionMoves.{IsAgain}
use Rattle.world_laws.proofs.Contexts.{set_copies}
use Rattle.world_laws.proofs.Runs.{run_keeps}
use Rattle.world_laws.proofs.Replies.{Sound, sound_keeps, sound_start}
use Rattle.world_laws.proofs.Stacked.{OwnerKeepsUnder, stacked, sent_before}
use Rattle.world_laws.proofs.StoreWalk.{store_owner}
use Rattle.world_laws.proofs.Sent.{sent_none}
use Rattle.world_laws.proofs.Named.{SessionOn}
use Rattle.world_laws.proofs.Named.{Kept, OwnerOn, RequestOn, Named, owner_on, out_on, shard_on, resting_on, working_on, leaving_on, doing_on, new_on, op_registers}

module _ (c : Config) (K : Key → Type 0) (scripts : (n place : ℕ) → All K (statement_registers (statement_at c n place))) where
  -- requests that are sent
  named_sends_one : (o : ℕ) (s : State) (out : Out) → RequestOn K o out.target out.request → Named K s → Named K (sends_one s o out)
  named_sends_one o s out q h = record {
    owners = All-set (OwnerOn K) s.owners o _ (record { does = (owner_on K s o h.owners).does; under_way = (owner_on K s o h.owners).under_way }) h.owners;
    deps = record { stages = h.deps.stages; pipes = h.deps.pipes; copies = set_copies (Kept K) s o _ refl h.deps };
    messages = sent_asks (RequestOn K) s.net o _ out.target out.request q h.messages;
  }

  named_sends : (o : ℕ) (s : State) (x : Session) (outs : List Out) → SessionOn K x → All (SessionOut x) outs → Named K s → Named K (sends s o outs)
  named_sends o s x outs h a n = sends_each (Named K) (SessionOut x) o (λ t out d p. named_sends_one o t out (out_on K o x out h d) p) outs s a n

  -- an owner in the place of what it was
  named_changed : (new : List Dep) (s t : State) (owners : List Owner) → Changed new owners s t → All (Kept K) new → All (OwnerOn K) owners → Named K s → Named K t
  named_changed new s t owners d a w h = record {
    owners = subst (All (OwnerOn K)) (sym d.owned) w;
    deps = d.deps (Kept K) a h.deps;
    messages = subst (SentAll (RequestOn K)) (sym d.stores.net) h.messages;
  }

  -- what a statement calls is about the registers that it names
  statement_on : (x : Statement ℕ Key ℕ ℕ) (variables : List ℕ) (y : Op) → op_of_statement x variables ≡ Some y → All K (statement_registers x) → All K (op_registers y)
  statement_on (statement.Read variable key) variables y e k = subst (λ (z : Op). All K (op_registers z)) (some_is _ y e) k
  statement_on (statement.Write key value) variables y e k = subst (λ (z : Op). All K (op_registers z)) (some_is _ y e) k
  statement_on (statement.Snap pairs) variables y e k = subst (λ (z : Op). All K (op_registers z)) (some_is _ y e) k
  statement_on (statement.Txn reads guard writes) variables y e k = subst (λ (z : Op). All K (op_registers z)) (some_is _ y e) k
  statement_on (statement.Let variable value) variables y e k = absurd (none_is_not y e)
  statement_on (statement.Spawn child) variables y e k = absurd (none_is_not y e)
  statement_on (statement.Wait child) variables y e k = absurd (none_is_not y e)
  statement_on (statement.Put p value) variables y e k = absurd (none_is_not y e)
  statement_on (statement.Take variable p) variables y e k = absurd (none_is_not y e)
  statement_on (statement.Close p) variables y e k = absurd (none_is_not y e)
  statement_on statement.Fence variables y e k = absurd (none_is_not y e)
  statement_on (statement.Repeat times) variables y e k = absurd (none_is_not y e)
  statement_on (statement.When test) variables y e k = absurd (none_is_not y e)
  statement_on statement.End variables y e k = absurd (none_is_not y e)
  statement_on statement.Exit variables y e k = absurd (none_is_not y e)

  beginning_on : (s : State) (w : Owner) → Beginning c s w → OwnerOn K w
  beginning_on s _ (calls n x e) = record { does = statement_on _ _ x e (scripts n (stage_at s n).cursor.position); under_way = tt }
  beginning_on s _ (fences n) = record { does = All-nil K; under_way = tt }

  named_listens : (s : State) (o slot : ℕ) → Named K s → Named K (listens s o slot)
  named_listens s o slot h = record {
    owners = All-set (OwnerOn K) s.owners o _ (record { does = (owner_on K s o h.owners).does; under_way = (owner_on K s o h.owners).under_way }) h.owners;
    deps = record { stages = h.deps.stages; pipes = h.deps.pipes; copies = set_copies (Kept K) s o _ refl h.deps };
    messages = h.messages;
  }

  named_plans : (s : State) (o : ℕ) → Named K s → Named K (plans_stub s o)
  named_plans s o h = record {
    owners = All-set (OwnerOn K) s.owners o _ (record { does = (owner_on K s o h.owners).does; under_way = tt }) h.owners;
    deps = record { stages = h.deps.stages; pipes = h.deps.pipes; copies = set_copies (Kept K) s o _ refl h.deps };
    messages = h.messages;
  }

  named_settles : (s : State) (o slot : ℕ) (a : Attempt) (shards : List ℕ) (outcome : Outcome) → Named K s → Named K (plans_stub (sends (listens s o slot) o (tells_decision a outcome shards)) o)
  named_settles s o slot a shards outcome h =
      named_plans (sends (listens s o slot) o (tells_decision a outcome shards)) o
      (sends_each (Named K) IsTold o (λ t out d p. named_sends_one o t out (shard_on K o out.target out.request d.to) p) (tells_decision a outcome shards) (listens s o slot) (decision_outs a outcome shards) (named_listens s o slot h))

  named_again : (s : State) (o exchange slot : ℕ) (target : Target) (r : Request) → IsAgain s o exchange slot target r → Sound s → Named K s → RequestOn K o target r
  named_again s o exchange slot target r d g h =
      let b = sent_before s o exchange slot target r g d in
      subst (λ (t : Target). RequestOn K o t r) b.target_of (subst (λ (n : ℕ). RequestOn K n (message_at s.net exchange).envelope.target r) b.owner (h.messages.each exchange r d.asked))

  named_under : (at : Reading) → OwnerKeepsUnder c at Sound (λ s o. Sound s) (Named K) (λ s o. Named K s)
  named_under at = record {
    fates = λ s m f g h. record { owners = h.owners; deps = record { stages = h.deps.stages; pipes = h.deps.pipes; copies = h.deps.copies }; messages = sent_meets (RequestOn K) s.net m f h.messages };
    shards = λ s m shard r d g h. record { owners = h.owners; deps = record { stages = h.deps.stages; pipes = h.deps.pipes; copies = h.deps.copies }; messages = sent_answers (RequestOn K) s.net m _ h.messages };
    replicas = λ s m service replica r d g h.
        let o = (message_at s.net m).envelope.owner in
        record {
          owners = All-set (OwnerOn K) s.owners o _ (record { does = (owner_on K s o h.owners).does; under_way = (owner_on K s o h.owners).under_way }) h.owners;
          deps = record { stages = h.deps.stages; pipes = h.deps.pipes; copies = set_copies (Kept K) s o _ refl h.deps };
          messages = sent_answers (RequestOn K) s.net m _ h.messages;
        };
    again = λ s o exchange slot target r d g h. named_sends_one o s (record { slot = Some slot; target = target; request = r }) (named_again s o exchange slot target r d g h) h;
    stages = λ s t d g h. named_changed [] s t s.owners d (All-nil (Kept K)) h.owners h;
    dies = λ s t n u d g h. named_changed [] s t _ d (All-nil (Kept K)) (All-push (OwnerOn K) s.owners _ h.owners (record { does = All-nil K; under_way = tt })) h;
    begins = λ s t w b d g h. named_changed [] s t (s.owners ++ w ∷ []) d (All-nil (Kept K)) (All-push (OwnerOn K) s.owners w h.owners (beginning_on s w b)) h;
    rests = λ s t o w i b d g h. named_changed [] s t (set s.owners o w) d (All-nil (Kept K)) (All-set (OwnerOn K) s.owners o w (resting_on K s o w b (owner_on K s o h.owners)) h.owners) h;
    settles = λ s o slot a shards outcome i e d g h. named_settles s o slot a shards outcome h;
    settled = λ s o g h. h;
    works = λ s t o w i b d g h. named_changed [] s t (set s.owners o w) d (All-nil (Kept K)) (All-set (OwnerOn K) s.owners o w (working_on K at s o w b (owner_on K s o h.owners)) h.owners) h;
    leaves = λ s t o w outs i b d g h.
        let x = leaving_on K c at s o w outs b h.deps (owner_on K s o h.owners) in
        named_sends o t w.session outs x.under_way (leaving_outs c at s o w outs b) (named_changed [] s t (set s.owners o w) d (All-nil (Kept K)) (All-set (OwnerOn K) s.owners o w x h.owners) h);
    does = λ s t o w outs new b d g h.
        let x = doing_on K s o w outs new b (owner_on K s o h.owners) in
        named_sends o t w.session outs x.under_way (doing_outs s o w outs new b) (named_changed new s t (set s.owners o w) d (new_on K s o w outs new b (owner_on K s o h.owners)) (All-set (OwnerOn K) s.owners o w x h.owners) h);
  }

  pub named_keeps : (at : Reading) → OwnerKeeps c at (λ s. Sound s × Named K s) (λ s o. Sound s × Named K s)
  named_keeps at = stacked c at Sound (λ s o. Sound s) (Named K) (λ s o. Named K s) (store_owner c at Sound sound_keeps) (named_under at)

  pub named_ticks : (s : State) (at : Reading) → Sound s × Named K s → Sound (ticks s at) × Named K (ticks s at)
  named_ticks s at h = (record { first = h.0.first; sound = h.0.sound }, record { owners = h.1.owners; deps = record { stages = h.1.deps.stages; pipes = h.1.deps.pipes; copies = h.1.deps.copies }; messages = h.1.messages })

  named_step : (s : State) (step : Step) → refusal c s step ≡ None → Sound s × Named K s → Sound (stepped c s step) × Named K (stepped c s step)
  named_step s step r h = owner_walk c step.at (λ t. Sound t × Named K t) (λ t o. Sound t × Named K t) (named_keeps step.at) (ticks s step.at) step.kind (passes c s step r).kind (named_ticks s step.at h)

  pub named_start : Named K (start c)
  named_start = record { owners = All-cons (OwnerOn K) no_owner [] (record { does = All-nil K; under_way = tt }) (All-nil (OwnerOn K)); deps = deps_start (Kept K) c; messages = sent_none (RequestOn K) }

  pub named_run : (steps : List Step) (s : State) → run c steps ≡ Some s → Named K s
  named_run steps s e = (run_keeps c (λ t. Sound t × Named K t) named_step (sound_start c, named_start) steps s e).1
