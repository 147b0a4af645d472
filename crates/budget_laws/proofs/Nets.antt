-- What each kind of step makes of the net: it only sends, but that a message meets its fate and a target replies.
use Rattle.std.proofs.Common.{◌≡◌, ℕ, suc, ◌+◌, ◌<◌, ◌≤◌, ◌⊎◌, inl, inr, Bool, true, false, List, [], ◌∷◌, ◌++◌, length, Option, Some, None, refl, ap, sym, ◌∙◌, subst, arith}
use Rattle.std.specs.Prelude.{nat_lt, if◌then◌else◌}
use Rattle.std.proofs.lemmas.Bool.{cond_both}
use Rattle.truetime.specs.Reading.{Reading}
use Rattle.rss_names.specs.declared.service.Key.{Key}
use Rattle.rss_names.specs.declared.service.ServiceId.{ServiceId}
use Rattle.rss_names.specs.declared.service.Target.{Target}
use Rattle.rss_names.specs.declared.service.Target.TheVariants.{Shard, Replica}
use Rattle.causal_context.specs.Seen.{Seen}
use Rattle.pipeline_lang.specs.Config.{ends_of}
use Rattle.pipeline_lang.specs.declared.config.Config.{Config}
use Rattle.pipeline_lang.specs.declared.config.PipeEnds.{PipeEnds}
use Rattle.pipeline_lang.specs.declared.script.Statement.{Statement}
use Rattle.pipeline_lang.specs.declared.script.Statement.TheVariants as statement
use Rattle.rss_model.specs.CallStatement.{op_of_statement}
use Rattle.rss_model.specs.declared.history.How.{How}
use Rattle.rss_model.specs.declared.history.How.TheVariants.{Unavailable}
use Rattle.rss_model.specs.declared.op.Op.{Op}
use Rattle.rss_wire.specs.Messages.{message_at, asks, answers}
use Rattle.rss_wire.specs.declared.envelope.Envelope.{Envelope}
use Rattle.rss_wire.specs.declared.message.Body.{Body as MessageBody}
use Rattle.rss_wire.specs.declared.message.Body.TheVariants as body
use Rattle.rss_wire.specs.declared.message.Message.{Message}
use Rattle.rss_wire.specs.declared.messages.Request.{Request}
use Rattle.rss_wire.specs.declared.messages.Reply.{Reply}
use Rattle.rss_tables.specs.Losses.{losses_of, reaches_tries}
use Rattle.rss_tables.specs.Outs.{Out}
use Rattle.rss_tables.specs.Pipes.{Chunk, EndMark, no_mark, fenced_mark, bare_mark}
use Rattle.rss_tables.specs.ReplicaRow.{replica_reply}
use Rattle.rss_tables.specs.ShardRow.{shard_reply}
use Rattle.rss_tables.specs.declared.endings.StubEnd.TheVariants.{Fenced, Unfenced}
use Rattle.rss_machine.specs.Calls.{goes_on_with_works, ends_work}
use Rattle.rss_machine.specs.Effect.{begins_call, makes, takes, takes_end, waits_over, acts, owner_acts, session_acts, request_comes, owner_hears, reply_comes, target_lost, asks_again, replaces, loses, stub_acts, stub_of_stage}
use Rattle.rss_machine.specs.Enabling.{next_statement}
use Rattle.rss_machine.specs.Moves.{sends, sends_one, with_owner, opens_call, opens_fence, counts_fences, closes, cuts_pipe, is_to_end, closes_from, cuts_from, closes_owner, dies, exits, loses_stub, listens, counts_loss}
use Rattle.rss_machine.specs.Slots.{slot_in}
use Rattle.rss_machine.specs.Standing.{is_running, stage_state}
use Rattle.rss_machine.specs.State.{State, Owner, no_owner, stage_at, owner_at, pipe_at, cells_at, shard_at}
use Rattle.rss_machine.specs.declared.ending.StageState.{StageState}
use Rattle.rss_machine.specs.declared.ending.StageState.TheVariants as standing
use Rattle.rss_machine.specs.declared.session.OwnerKind.{OwnerKind}
use Rattle.rss_machine.specs.declared.session.OwnerKind.TheVariants as kind
use Rattle.rss_machine.specs.declared.state.OwnerFate.{OwnerFate}
use Rattle.rss_machine.specs.declared.state.OwnerFate.TheVariants.{CutOff}
use Rattle.turn_laws.specs.Losses.{cut_at, counts_one, counts_lost, target_of_loss, ends_loss}
use Rattle.turn_laws.specs.Turns.{TurnEnd, goes, replied, fence_over, stub_over, OwnerTurn, turns, ends_turn, takes_turn, begin_turn, hear_turn, act_turn, stub_turn, lines_in}
use Rattle.rss_machine.specs.Effect.{waking_line}
use Rattle.turn_laws.proofs.Acts.{acting_is_a_turn, stubs_take_turns}
use Rattle.turn_laws.proofs.Hears.{hearing_is_a_turn}
use Rattle.turn_laws.proofs.Losses.{losing_is_a_move}
use Rattle.turn_laws.proofs.Works.{beginning_is_a_turn}
use Rattle.world_laws.proofs.Looks.{looks, get_or_past}

-- WHERE NOTHING IS SENT

closes_net : (c : Config) (n : ℕ) (seen : Seen) (rest : List PipeEnds) (s : State) (p : ℕ) → (closes_from c s n seen p rest).net ≡ s.net
closes_net c n seen [] s p = refl
closes_net c n seen (ends ∷ rest) s p = closes_net c n seen rest (if is_to_end c s n p then closes s n seen p else s) (p + 1) ∙ one (is_to_end c s n p)
  where
    one : (b : Bool) → (if b then closes s n seen p else s).net ≡ s.net
    one true = refl
    one false = refl

cuts_net : (c : Config) (n : ℕ) (rest : List PipeEnds) (s : State) (p : ℕ) → (cuts_from c s n p rest).net ≡ s.net
cuts_net c n [] s p = refl
cuts_net c n (ends ∷ rest) s p = cuts_net c n rest (if is_to_end c s n p then cuts_pipe s p else s) (p + 1) ∙ one (is_to_end c s n p)
  where
    one : (b : Bool) → (if b then cuts_pipe s p else s).net ≡ s.net
    one true = refl
    one false = refl

closed_net : (s : State) (o : Option ℕ) (f : OwnerFate) → (closes_owner s o f).net ≡ s.net
closed_net s None f = refl
closed_net s (Some o) f = refl

pub dies_net : (s : State) (n : ℕ) (how : How) (f : OwnerFate) → (dies s n how f).net ≡ s.net
dies_net s n how f = closed_net s (stage_at s n).owner f

-- TURNS

-- what is kept of the net where a request is sent, each step keeps but for fates and replies
module _ (P : List Message → Type 0) (asks_keep : (net : List Message) (owner stage : ℕ) (target : Target) (r : Request) → P net → P (asks net owner stage target r)) where
  sent : (o : ℕ) (outs : List Out) (s : State) → P s.net → P (sends s o outs).net
  sent o [] s h = h
  sent o (out ∷ outs) s h = sent o outs (sends_one s o out) (asks_keep s.net o (owner_at s o).stage out.target out.request h)

  ended : (c : Config) (s : State) (o : ℕ) (e : TurnEnd) → P s.net → P (ends_turn c s o e).net
  ended c s o goes h = h
  ended c s o (replied shown seen) h = h
  ended c s o fence_over h = h
  ended c s o stub_over h = subst P (sym (closes_net c _ _ c.pipe_ends _ 1)) h

  took : (c : Config) (s : State) (o : ℕ) (t : OwnerTurn) → P s.net → P (takes_turn c s o t).net
  took c s o t h = ended c (turns s o t) o t.ending (sent o t.outs (record (with_owner s o t.after) { planned = counts_fences t.fences s.planned }) h)

  -- STATEMENTS

  new_there : (xs : List Owner) (w : Owner) → length xs < length (xs ++ w ∷ [])
  new_there xs w = grind (arith, looks)

  begun : (c : Config) (s : State) (o : ℕ) (at : Reading) → o < length s.owners → P s.net → P (goes_on_with_works c s o at).net
  begun c s o at l h = subst (λ (t : State). P t.net) (sym (beginning_is_a_turn c s o at l)) (took c s o (begin_turn c o s.steps at (owner_at s o)) h)

  called : (c : Config) (s : State) (n : ℕ) (at : Reading) (x : Option Op) → P s.net → P (begins_call c s n at x).net
  called c s n at None h = h
  called c s n at (Some x) h = begun c (opens_call s n x) (length s.owners) at (new_there s.owners _) h

  waited : (s : State) (n child : ℕ) (x : StageState) → P s.net → P (waits_over s n child x).net
  waited s n child standing.Exited h = h
  waited s n child (standing.Ended how (Some Fenced)) h = h
  waited s n child (standing.Ended how (Some (Unfenced target))) h = h
  waited s n child (standing.Ended how None) h = h
  waited s n child standing.Unborn h = h
  waited s n child standing.Live h = h

  took_end : (s : State) (n variable p : ℕ) (x : EndMark) → P s.net → P (takes_end s n variable p x).net
  took_end s n variable p no_mark h = h
  took_end s n variable p (fenced_mark number seen) h = h
  took_end s n variable p bare_mark h = h

  took_one : (s : State) (n variable p : ℕ) (chunks : List Chunk) → P s.net → P (takes s n variable p chunks).net
  took_one s n variable p [] h = took_end s n variable p (pipe_at s p).mark h
  took_one s n variable p (chunk ∷ chunks) h = h

  exited : (c : Config) (s : State) (n : ℕ) → P s.net → P (exits c s n).net
  exited c s n h = subst P (sym (closes_net c _ _ c.pipe_ends _ 1)) h

  made : (c : Config) (s : State) (n : ℕ) (at : Reading) (x : Statement ℕ Key ℕ ℕ) → P s.net → P (makes c s n at x).net
  made c s n at (statement.Let variable value) h = h
  made c s n at (statement.Repeat times) h = h
  made c s n at (statement.When test) h = h
  made c s n at statement.End h = h
  made c s n at (statement.Read variable key) h = called c s n at (op_of_statement (statement.Read variable key) (stage_at s n).cursor.variables) h
  made c s n at (statement.Write key value) h = called c s n at (op_of_statement (statement.Write key value) (stage_at s n).cursor.variables) h
  made c s n at (statement.Snap pairs) h = called c s n at (op_of_statement (statement.Snap pairs) (stage_at s n).cursor.variables) h
  made c s n at (statement.Txn reads guard writes) h = called c s n at (op_of_statement (statement.Txn reads guard writes) (stage_at s n).cursor.variables) h
  made c s n at statement.Fence h = begun c (opens_fence s n) (length s.owners) at (new_there s.owners _) h
  made c s n at (statement.Spawn child) h = h
  made c s n at (statement.Wait child) h = waited s n child (stage_state s child) h
  made c s n at (statement.Put p value) h = h
  made c s n at (statement.Take variable p) h = took_one s n variable p (pipe_at s p).chunks h
  made c s n at (statement.Close p) h = h
  made c s n at statement.Exit h = exited c s n h

  -- ACTS, REPLIES AND STUBS

  absent_acts : (c : Config) (s : State) (o : ℕ) (at : Reading) → owner_at s o ≡ no_owner → owner_acts c s o at (owner_at s o).works.wait ≡ s
  absent_acts c s o at e = ap (λ (w : Owner). owner_acts c s o at w.works.wait) e ∙ ap (λ (w : Owner). session_acts c s o w.session) e

  pub acted : (c : Config) (s : State) (n : ℕ) (at : Reading) (o : Option ℕ) → P s.net → P (acts c s n at o).net
  acted c s n at None h = made c s n at (next_statement c s n) h
  acted c s n at (Some o) h = by_place (get_or_past s.owners o no_owner)
    where
      by_place : (o < length s.owners) ⊎ (owner_at s o ≡ no_owner) → P (owner_acts c s o at (owner_at s o).works.wait).net
      by_place (inl l) = subst (λ (t : State). P t.net) (sym (acting_is_a_turn c s o at l)) (took c s o (act_turn c o s.steps at (waking_line s (lines_in (owner_at s o).session)) (owner_at s o)) h)
      by_place (inr e) = subst (λ (t : State). P t.net) (sym (absent_acts c s o at e)) h

  pub replied_to : (c : Config) (s : State) (o : ℕ) (at : Reading) (r : Reply) (slot : Option ℕ) → P s.net → P (reply_comes c s o at r slot).net
  replied_to c s o at r None h = h
  replied_to c s o at r (Some slot) h = by_place (get_or_past s.owners o no_owner)
    where
      absent : owner_at s o ≡ no_owner → owner_hears c (listens s o slot) o slot at r (owner_at s o).session ≡ listens s o slot
      absent e = ap (λ (w : Owner). owner_hears c (listens s o slot) o slot at r w.session) e

      by_place : (o < length s.owners) ⊎ (owner_at s o ≡ no_owner) → P (owner_hears c (listens s o slot) o slot at r (owner_at s o).session).net
      by_place (inl l) = subst (λ (t : State). P t.net) (sym (hearing_is_a_turn c s o slot at r l)) (took c s o (hear_turn c o s.steps at slot r (owner_at s o)) h)
      by_place (inr e) = subst (λ (t : State). P t.net) (sym (absent e)) h

  absent_stub : (c : Config) (s : State) (o : ℕ) (at : Reading) → owner_at s o ≡ no_owner → stub_acts c s o at (owner_at s o).started ≡ s
  absent_stub c s o at e = ap (λ (w : Owner). stub_acts c s o at w.started) e ∙ ap (λ (w : Owner). ends_work c s o at w.works.left) e

  pub stubbed : (c : Config) (s : State) (o : Option ℕ) (at : Reading) → P s.net → P (stub_of_stage c s o at).net
  stubbed c s None at h = h
  stubbed c s (Some o) at h = by_place (get_or_past s.owners o no_owner)
    where
      by_place : (o < length s.owners) ⊎ (owner_at s o ≡ no_owner) → P (stub_acts c s o at (owner_at s o).started).net
      by_place (inl l) = subst (λ (t : State). P t.net) (sym (stubs_take_turns c s o at l)) (took c s o (stub_turn c o s.steps at (owner_at s o)) h)
      by_place (inr e) = subst (λ (t : State). P t.net) (sym (absent_stub c s o at e)) h

  -- LOSSES

  asked_again : (s : State) (o slot : ℕ) (target : Target) (x : MessageBody) → P s.net → P (asks_again s o slot target x).net
  asked_again s o slot target (body.Request r) h = asks_keep s.net o (owner_at s o).stage target r h
  asked_again s o slot target (body.Reply r) h = h

  replaced : (s : State) (o : ℕ) (target : Target) (exchange : ℕ) (slot : Option ℕ) → P s.net → P (replaces s o target exchange slot).net
  replaced s o target exchange None h = h
  replaced s o target exchange (Some slot) h = asked_again s o slot target (message_at s.net exchange).body h

  cut : (s : State) (o : ℕ) (target : Target) → P s.net → P (cut_at s o target).net
  cut s o (Shard shard) h = h
  cut s o (Replica service replica) h = h

  counted_one : (c : Config) (s : State) (o : ℕ) (e : Envelope) → P s.net → P (counts_one c s o e).net
  counted_one c s o e h =
      let t = counts_loss s o e.target in
      cond_both (reaches_tries c.tries (owner_at s o).losses e.target) _ _ (λ (u : State). P u.net)
      (λ r. cut t o e.target h)
      (λ f. cond_both (nat_lt (losses_of (owner_at t o).losses e.target) c.tries) _ t (λ (u : State). P u.net) (λ r. replaced t o e.target e.exchange (slot_in (owner_at t o).currents e.exchange) h) (λ b. h))

  counted_lost : (c : Config) (s : State) (e : Envelope) → P s.net → P (counts_lost c s e).net
  counted_lost c s e h = cond_both (is_running (owner_at s e.owner).fate) _ s (λ (u : State). P u.net) (λ r. counted_one c s e.owner e h) (λ f. h)

  lost_target : (c : Config) (s : State) (o : ℕ) (target : Target) (x : OwnerKind) → P s.net → P (target_lost c s o target x).net
  lost_target c s o target (kind.Calling op) h = subst P (sym (dies_net s (owner_at s o).stage Unavailable (CutOff target))) h
  lost_target c s o target kind.Fencing h = subst P (sym (dies_net s (owner_at s o).stage Unavailable (CutOff target))) h
  lost_target c s o target (kind.Stubbing unsettled) h = subst P (sym (cuts_net c _ c.pipe_ends _ 1)) h

  ended_loss : (c : Config) (s : State) (o : ℕ) (x : Option Target) → P s.net → P (ends_loss c s o x).net
  ended_loss c s o None h = h
  ended_loss c s o (Some target) h = lost_target c s o target (owner_at s o).kind h

  pub lost : (c : Config) (s : State) (e : Envelope) → P s.net → P (loses c s e).net
  lost c s e h = subst (λ (t : State). P t.net) (sym (losing_is_a_move c s e)) (ended_loss c (counts_lost c s e) e.owner (target_of_loss c s e) (counted_lost c s e h))

-- a request is served, and its reply sent
pub served : (P : List Message → Type 0) (s : State) (m o : ℕ) (at : Reading) (target : Target) (r : Request) → ((x : Reply) → P (answers s.net m x)) → P (request_comes s m o at target r).net
served P s m o at (Shard shard) r h = h (shard_reply (shard_at s shard) at.latest r)
served P s m o at (Replica service replica) r h = h (replica_reply (cells_at s service replica) r)
