-- Place 0 of the net holds no message of a stage.
use Rattle.std.proofs.Common.{◌≡◌, ℕ, ◌+◌, ◌<◌, List, [], ◌∷◌, ◌++◌, length, Some, None, refl, sym, ap, ◌∙◌, subst, arith}
use Rattle.pipeline_lang.specs.declared.config.Config.{Config}
use Rattle.rss_wire.specs.Messages.{no_message, message_at}
use Rattle.rss_wire.specs.declared.envelope.Envelope.{Envelope}
use Rattle.rss_wire.specs.declared.message.Message.{Message}
use Rattle.rss_machine.specs.Effect.{stepped}
use Rattle.rss_machine.specs.Moves.{ticks}
use Rattle.rss_machine.specs.Refusal.{refusal}
use Rattle.rss_machine.specs.Run.{run}
use Rattle.rss_machine.specs.State.{State, start}
use Rattle.rss_machine.specs.declared.step.Step.{Step}
use Rattle.world_laws.proofs.Looks.{looks}
use Rattle.world_laws.proofs.Replies.{meets_envelope, old_message}
use Rattle.world_laws.proofs.Runs.{passes, run_keeps}
use Rattle.world_laws.proofs.StoreMoves.{StoreKeeps}
use Rattle.world_laws.proofs.StoreWalk.{store_walk}

pub record IsFree (s : State) : Type 0 where
  pub some : 0 < length s.net
  pub nothing : (message_at s.net 0).envelope ≡ no_message.envelope

envelope_before : (net : List Message) (x : Message) → 0 < length net → (message_at (net ++ x ∷ []) 0).envelope ≡ (message_at net 0).envelope
envelope_before net x l = ap (λ (y : Message). y.envelope) (old_message net x 0 l)

free_keeps : StoreKeeps IsFree
free_keeps = record {
  fates = λ s m f h. record { some = grind (arith, looks, h.some); nothing = meets_envelope s.net m f 0 ∙ h.nothing };
  sends = λ s o out h. record { some = grind (arith, looks, h.some); nothing = envelope_before s.net _ h.some ∙ h.nothing };
  shards = λ s m shard latest r d h. record { some = grind (arith, looks, h.some); nothing = envelope_before s.net _ h.some ∙ h.nothing };
  replicas = λ s m service replica r d h. record { some = grind (arith, looks, h.some); nothing = envelope_before s.net _ h.some ∙ h.nothing };
  others = λ s t e h. record { some = subst (λ (n : List Message). 0 < length n) (sym e.net) h.some; nothing = subst (λ (n : List Message). (message_at n 0).envelope ≡ no_message.envelope) (sym e.net) h.nothing };
}

free_step : (c : Config) (s : State) (step : Step) → refusal c s step ≡ None → IsFree s → IsFree (stepped c s step)
free_step c s step r h = store_walk c IsFree free_keeps (ticks s step.at) step.at step.kind (passes c s step r).kind (record { some = h.some; nothing = h.nothing })

pub free_run : (c : Config) (steps : List Step) (s : State) → run c steps ≡ Some s → IsFree s
free_run c steps s e = run_keeps c IsFree (free_step c) (record { some = omega arith; nothing = refl }) steps s e
