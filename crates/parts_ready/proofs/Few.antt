-- How few there are of everything in parts that are ready.
use Rattle.std.proofs.Common.{◌≡◌, ℕ, ◌+◌, ◌*◌, ◌<◌, ◌≤◌, true, length, Some, sym, ◌∙◌, subst, arith}
use Rattle.std.specs.Prelude.{get_or}
use Rattle.rss_names.specs.declared.service.Target.{Target}
use Rattle.pipeline_lang.specs.declared.config.Config.{Config}
use Rattle.rss_wire.specs.declared.envelope.Envelope.{Envelope}
use Rattle.rss_wire.specs.Messages.{message_at, is_sent}
use Rattle.rss_tables.specs.Losses.{losses_of}
use Rattle.world_parts.specs.Parts.{Staging, Traffic, Stores, stage_in, pipe_in, owner_in}
use Rattle.parts_ready.specs.Few.{AreFew}
use Rattle.parts_ready.specs.Ready.{AreReady}
use Rattle.parts_ready.proofs.Readying.{sent_same}

module _ (c : Config) (g : Staging) (t : Traffic) (d : Stores) (h : AreReady c g t d) where
  steps_few : h.clock.steps ≤ 200000
  steps_few = let a : h.clock.steps ≤ c.max_steps = h.facts.run.sizes.steps in let b : c.max_steps ≤ 200000 = h.facts.file.within.steps in omega (arith, a, b)

  pub owners_few : length t.owners ≤ 200001
  owners_few = let a : length t.owners ≤ h.clock.steps + 1 = h.facts.run.sizes.owners in omega (arith, a, steps_few)

  pub messages_few : length t.net ≤ 6400001
  messages_few = let a : length h.net ≤ 32 * h.clock.steps + 1 = h.facts.run.sizes.messages in omega (arith, a, h.says.same_length, steps_few)

  pub acts_few : (n : ℕ) → (stage_in g n).acts ≤ 200000
  acts_few n = let a : (stage_in g n).acts ≤ h.clock.steps = h.facts.run.sizes.acts n in omega (arith, a, steps_few)

  pub next_few : (p : ℕ) → (pipe_in g p).next ≤ 200001
  next_few p = let a : (pipe_in g p).next ≤ h.clock.steps + 1 = h.facts.run.sizes.next p in omega (arith, a, steps_few)

  pub losses_few : (o : ℕ) (target : Target) → losses_of (owner_in t o).losses target ≤ 200000
  losses_few o target = let a : losses_of (owner_in t o).losses target ≤ h.clock.steps = h.facts.run.sizes.losses o target in omega (arith, a, steps_few)

  pub planned_few : (place : ℕ) → get_or t.planned place 0 ≤ 3200000
  planned_few place = let a : get_or t.planned place 0 ≤ 16 * h.clock.steps = h.facts.run.works.planned place in omega (arith, a, steps_few)

  pub stages_few : length g.stages ≤ 16
  stages_few = let a : length g.stages ≡ length c.bodies = h.facts.run.sizes.stages in let b : length c.bodies ≤ 16 = h.facts.file.within.stages in omega (arith, a, b)

  pub pipes_few : length g.pipes ≤ 16
  pipes_few = let a : length g.pipes ≡ length c.pipe_ends = h.facts.run.sizes.pipes in let b : length c.pipe_ends ≤ 16 = h.facts.file.within.pipes in omega (arith, a, b)

  -- the owner of a message that was sent has begun, and is numbered from 1
  pub owner_from : (m : ℕ) → is_sent t.net m ≡ true → 1 ≤ (message_at t.net m).envelope.owner
  owner_from m e = subst (λ (x : Envelope). 1 ≤ x.owner) (sym (h.says.envelopes m)) (h.facts.run.messages.owned m (sym (sent_same h.net t.net m h.says) ∙ e))

  pub owner_there : (m : ℕ) → is_sent t.net m ≡ true → (message_at t.net m).envelope.owner < length t.owners
  owner_there m e = subst (λ (x : Envelope). x.owner < length t.owners) (sym (h.says.envelopes m)) (h.facts.run.messages.begun m (sym (sent_same h.net t.net m h.says) ∙ e))

  -- what a stage has under way has begun
  pub called : (n o : ℕ) → (stage_in g n).owner ≡ Some o → 1 ≤ o
  called n o e = h.facts.run.links.called n o e

  pub are_few : AreFew g t
  are_few = record { stages = stages_few; pipes = pipes_few; next = next_few; owners = owners_few; messages = messages_few; planned = planned_few }
