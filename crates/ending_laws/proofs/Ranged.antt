-- Each owner is of a stage of the file, and so is each message.
use Rattle.std.proofs.Common.{◌≡◌, ◌⊎◌, inl, inr, ℕ, ◌+◌, ◌<◌, ◌≤◌, true, false, List, [], ◌∷◌, ◌++◌, length, get_or, Option, Some, None, refl, sym, ap, ◌∙◌, subst, arith}
use Rattle.std.proofs.Math.ListN.{set, length-set}
use Rattle.std.proofs.lemmas.Bool.{cond_both}
use Rattle.std.specs.Prelude.{nat_lt, if◌then◌else◌}
use Rattle.rss_names.specs.declared.service.Target.{Target}
use Rattle.rss_names.specs.declared.service.Target.TheVariants.{Shard, Replica}
use Rattle.causal_context.specs.Seen.{Seen}
use Rattle.pipeline_lang.specs.Config.{replicas_of}
use Rattle.pipeline_lang.specs.declared.config.Config.{Config}
use Rattle.pipeline_lang.specs.declared.config.PipeEnds.{PipeEnds}
use Rattle.rss_model.specs.declared.history.How.{How}
use Rattle.rss_model.specs.declared.history.How.TheVariants.{Unavailable}
use Rattle.rss_tables.specs.Losses.{losses_of, reaches_tries, is_quorum_lost}
use Rattle.rss_tables.specs.Outs.{Out}
use Rattle.rss_tables.specs.Works.{no_works}
use Rattle.rss_wire.specs.Messages.{no_message, message_at, is_pending, answers}
use Rattle.rss_wire.specs.declared.envelope.Envelope.{Envelope}
use Rattle.rss_wire.specs.declared.message.Body.{Body as MessageBody}
use Rattle.rss_wire.specs.declared.message.Body.TheVariants as body
use Rattle.rss_wire.specs.declared.message.Fate.{Fate}
use Rattle.rss_wire.specs.declared.message.Message.{Message}
use Rattle.rss_wire.specs.declared.messages.Reply.{Reply}
use Rattle.rss_machine.specs.Effect.{target_lost, is_cut_off, asks_again, replaces, loss_counts, loses}
use Rattle.rss_machine.specs.Moves.{with_owner, marks_message, sends_one, sends, closes, cuts_pipe, closes_from, cuts_from, is_to_end, closed, closes_owner, unsettled_by, dies, counts_loss, cuts_off}
use Rattle.rss_machine.specs.Slots.{slot_in}
use Rattle.rss_machine.specs.Standing.{is_running}
use Rattle.rss_machine.specs.State.{State, Owner, owner_at, stage_at, no_owner, opening_owner}
use Rattle.rss_machine.specs.declared.session.OwnerKind.{OwnerKind}
use Rattle.rss_machine.specs.declared.session.OwnerKind.TheVariants as kind
use Rattle.rss_machine.specs.declared.state.OwnerFate.{OwnerFate}
use Rattle.rss_machine.specs.declared.state.OwnerFate.TheVariants.{CutOff}
use Rattle.world_laws.proofs.Looks.{looks, get_or_set}
use Rattle.world_laws.proofs.Replies.{meets_envelope}
use Rattle.turn_laws.specs.Turns.{OwnerTurn, TurnEnd, goes, replied, fence_over, stub_over, turns, ends_turn, takes_turn}

-- a stage of a file of so many
abbrev pub IsStage : ℕ → ℕ → Type 0
IsStage many n = (1 ≤ n) × (n ≤ many)

-- the outside of a message of a stage of the file, of an owner that is not the one of number 0
pub record IsOfStage (many : ℕ) (e : Envelope) : Type 0 where
  pub stage : IsStage many e.stage
  pub owner : 1 ≤ e.owner

-- all owners but the one of number 0, which does nothing, and all messages but that of number 0, which is not to come
pub record AreOfStages (many : ℕ) (begun : List Owner) (net : List Message) : Type 0 where
  pub owners : (o : ℕ) → 1 ≤ o → o < length begun → IsStage many (get_or begun o no_owner).stage
  pub some : 0 < length net
  pub first : is_pending (message_at net 0).fate ≡ false
  pub messages : (m : ℕ) → 1 ≤ m → m < length net → IsOfStage many (message_at net m).envelope

abbrev pub Ranged : ℕ → State → Type 0
Ranged many s = AreOfStages many s.owners s.net

-- LISTS

-- an owner in the place of one of its stage
put_one : (many : ℕ) (xs : List Owner) (o : ℕ) (w : Owner) → w.stage ≡ (get_or xs o no_owner).stage → ((i : ℕ) → 1 ≤ i → i < length xs → IsStage many (get_or xs i no_owner).stage) → (i : ℕ) → 1 ≤ i → i < length (set xs o w) → IsStage many (get_or (set xs o w) i no_owner).stage
put_one many xs o w e f i z l = by_place (get_or_set xs o w i no_owner)
  where
    there : i < length xs
    there = subst (λ (n : ℕ). i < n) (length-set xs o w) l

    by_place : ((get_or (set xs o w) i no_owner ≡ w) × (i ≡ o) × (o < length xs)) ⊎ ((get_or (set xs o w) i no_owner ≡ get_or xs i no_owner) × ((i ≡ o → ⊥) ⊎ (length xs ≤ i))) → IsStage many (get_or (set xs o w) i no_owner).stage
    by_place (inl q) = subst (IsStage many) (sym (ap (λ (v : Owner). v.stage) q.0 ∙ (e ∙ ap (λ (n : ℕ). (get_or xs n no_owner).stage) (sym q.1)))) (f i z there)
    by_place (inr q) = subst (IsStage many) (ap (λ (v : Owner). v.stage) (sym q.0)) (f i z there)

-- one more element
module _ {A : Type 0} (P : A → Type 0) (xs : List A) (x d : A) (new : P x) (old : (i : ℕ) → 1 ≤ i → i < length xs → P (get_or xs i d)) where
  one_more : (i : ℕ) → 1 ≤ i → i < length (xs ++ x ∷ []) → P (get_or (xs ++ x ∷ []) i d)
  one_more i z l = by_place (at xs x d i l)
    where
      at : (xs : List A) (x d : A) (i : ℕ) → i < length (xs ++ x ∷ []) → ((get_or (xs ++ x ∷ []) i d ≡ get_or xs i d) × (i < length xs)) ⊎ (get_or (xs ++ x ∷ []) i d ≡ x)
      at xs x d i l = grind (arith, looks, l)

      by_place : ((get_or (xs ++ x ∷ []) i d ≡ get_or xs i d) × (i < length xs)) ⊎ (get_or (xs ++ x ∷ []) i d ≡ x) → P (get_or (xs ++ x ∷ []) i d)
      by_place (inl q) = subst P (sym q.0) (old i z q.1)
      by_place (inr q) = subst P (sym q) new

longer : (net : List Message) (x : Message) → 0 < length net → 0 < length (net ++ x ∷ [])
longer net x l = grind (arith, looks, l)

first_stays : (net : List Message) (x : Message) → 0 < length net → message_at (net ++ x ∷ []) 0 ≡ message_at net 0
first_stays net x l = grind (arith, looks, l)

-- A MOVE

module _ (many : ℕ) where
  -- an owner changes, and not its stage
  pub put : (owners : List Owner) (net : List Message) (o : ℕ) (w : Owner) → w.stage ≡ (get_or owners o no_owner).stage → AreOfStages many owners net → AreOfStages many (set owners o w) net
  put owners net o w e h = record { owners = put_one many owners o w e h.owners; some = h.some; first = h.first; messages = h.messages }

  -- an owner begins
  pub begun : (owners : List Owner) (net : List Message) (w : Owner) → IsStage many w.stage → AreOfStages many owners net → AreOfStages many (owners ++ w ∷ []) net
  begun owners net w e h = record { owners = one_more (λ (v : Owner). IsStage many v.stage) owners w no_owner e h.owners; some = h.some; first = h.first; messages = h.messages }

  -- a message is sent
  sent : (owners : List Owner) (net : List Message) (x : Message) → IsOfStage many x.envelope → AreOfStages many owners net → AreOfStages many owners (net ++ x ∷ [])
  sent owners net x e h = record {
    owners = h.owners;
    some = longer net x h.some;
    first = ap (λ (y : Message). is_pending y.fate) (first_stays net x h.some) ∙ h.first;
    messages = one_more (λ (y : Message). IsOfStage many y.envelope) net x no_message e h.messages;
  }

  -- a message meets a fate
  set_first : (net : List Message) (m : ℕ) (x : Message) → 1 ≤ m → message_at (set net m x) 0 ≡ message_at net 0
  set_first net m x z = grind (arith, looks, z)

  set_some : (net : List Message) (m : ℕ) (x : Message) → length (set net m x) ≡ length net
  set_some net m x = length-set net m x

  pub marked : (s : State) (m : ℕ) (f : Fate) → 1 ≤ m → Ranged many s → Ranged many (marks_message s m f)
  marked s m f z h =
      let x = record (message_at s.net m) { fate = f } in
      let e : length (set s.net m x) ≡ length s.net = set_some s.net m x in
      record {
        owners = h.owners;
        some = subst (λ (n : ℕ). 0 < n) (sym e) h.some;
        first = ap (λ (y : Message). is_pending y.fate) (set_first s.net m x z) ∙ h.first;
        messages = λ i a b. subst (IsOfStage many) (sym (meets_envelope s.net m f i)) (h.messages i a (subst (λ (n : ℕ). i < n) e b));
      }

  -- a reply is sent
  pub answered : (owners : List Owner) (net : List Message) (m : ℕ) (r : Reply) → 1 ≤ m → m < length net → AreOfStages many owners net → AreOfStages many owners (answers net m r)
  answered owners net m r z l h = let k = h.messages m z l in sent owners net _ (record { stage = k.stage; owner = k.owner }) h

  -- an owner sends requests
  sent_one : (s : State) (o : ℕ) (out : Out) → 1 ≤ o → o < length s.owners → Ranged many s → Ranged many (sends_one s o out)
  sent_one s o out z l h = put s.owners (sends_one s o out).net o _ refl (sent s.owners s.net _ (record { stage = h.owners o z l; owner = z }) h)

  pub sent_all : (o : ℕ) (outs : List Out) (s : State) → 1 ≤ o → o < length s.owners → Ranged many s → Ranged many (sends s o outs)
  sent_all o [] s z l h = h
  sent_all o (out ∷ outs) s z l h = sent_all o outs (sends_one s o out) z (subst (λ (n : ℕ). o < n) (sym (length-set s.owners o _)) l) (sent_one s o out z l h)

  -- pipes end
  pub closed_pipes : (c : Config) (ends : List PipeEnds) (s : State) (n p : ℕ) (seen : Seen) → Ranged many s → Ranged many (closes_from c s n seen p ends)
  closed_pipes c [] s n p seen h = h
  closed_pipes c (e ∷ ends) s n p seen h = closed_pipes c ends (if is_to_end c s n p then closes s n seen p else s) n (p + 1) seen (cond_both (is_to_end c s n p) (closes s n seen p) s (Ranged many) (λ q. h) (λ q. h))

  cut_pipes : (c : Config) (ends : List PipeEnds) (s : State) (n p : ℕ) → Ranged many s → Ranged many (cuts_from c s n p ends)
  cut_pipes c [] s n p h = h
  cut_pipes c (e ∷ ends) s n p h = cut_pipes c ends (if is_to_end c s n p then cuts_pipe s p else s) n (p + 1) (cond_both (is_to_end c s n p) (cuts_pipe s p) s (Ranged many) (λ q. h) (λ q. h))

  -- an owner's turn
  ended : (c : Config) (s : State) (o : ℕ) (e : TurnEnd) → Ranged many s → Ranged many (ends_turn c s o e)
  ended c s o goes h = h
  ended c s o (replied shown seen) h = put s.owners s.net o _ refl h
  ended c s o fence_over h = put s.owners s.net o _ refl h
  ended c s o stub_over h = closed_pipes c c.pipe_ends _ (owner_at s o).stage 1 _ (put s.owners s.net o _ refl h)

  pub turned : (c : Config) (s : State) (o : ℕ) (t : OwnerTurn) → t.after.stage ≡ (owner_at s o).stage → 1 ≤ o → o < length s.owners → Ranged many s → Ranged many (takes_turn c s o t)
  turned c s o t e z l h =
      ended c (turns s o t) o t.ending
      (sent_all o t.outs _ z (subst (λ (n : ℕ). o < n) (sym (length-set s.owners o t.after)) l) (put s.owners s.net o t.after e h))

  -- a stage dies
  closed_owner : (s : State) (o : Option ℕ) (f : OwnerFate) → Ranged many s → Ranged many (closes_owner s o f)
  closed_owner s None f h = h
  closed_owner s (Some o) f h = put s.owners s.net o (closed s o f) refl h

  pub died : (s : State) (n : ℕ) (how : How) (f : OwnerFate) → IsStage many n → Ranged many s → Ranged many (dies s n how f)
  died s n how f e h =
      let t = closes_owner s (stage_at s n).owner f in
      begun t.owners t.net (opening_owner n (kind.Stubbing (unsettled_by s (stage_at s n).owner)) false (no_works (stage_at s n).context) s.steps) e (closed_owner s (stage_at s n).owner f h)

  -- losses
  lost : (c : Config) (s : State) (o : ℕ) (target : Target) (k : OwnerKind) → IsStage many (owner_at s o).stage → Ranged many s → Ranged many (target_lost c s o target k)
  lost c s o target (kind.Calling x) e h = died s (owner_at s o).stage Unavailable (CutOff target) e h
  lost c s o target kind.Fencing e h = died s (owner_at s o).stage Unavailable (CutOff target) e h
  lost c s o target (kind.Stubbing u) e h = cut_pipes c c.pipe_ends _ (owner_at s o).stage 1 (put s.owners s.net o _ refl h)

  there : (s : State) (o : ℕ) (w : Owner) → o < length s.owners → o < length (with_owner s o w).owners
  there s o w l = subst (λ (n : ℕ). o < n) (sym (length-set s.owners o w)) l

  cut_off : (c : Config) (s : State) (o : ℕ) (target : Target) → 1 ≤ o → o < length s.owners → Ranged many s → Ranged many (is_cut_off c s o target)
  cut_off c s o (Shard shard) z l h = lost c s o (Shard shard) (owner_at s o).kind (h.owners o z l) h
  cut_off c s o (Replica service replica) z l h =
      let t = cuts_off s o (Replica service replica) in
      let k : Ranged many t = put s.owners s.net o _ refl h in
      cond_both (is_quorum_lost c.tries (owner_at s o).losses service (replicas_of c service)) _ t (Ranged many)
      (λ q. lost c t o (Replica service replica) (owner_at s o).kind (k.owners o z (there s o _ l)) k) (λ q. k)

  asked_again : (s : State) (o slot : ℕ) (target : Target) (b : MessageBody) → 1 ≤ o → o < length s.owners → Ranged many s → Ranged many (asks_again s o slot target b)
  asked_again s o slot target (body.Request r) z l h = sent_one s o (record { slot = Some slot; target = target; request = r }) z l h
  asked_again s o slot target (body.Reply r) z l h = h

  replaced : (s : State) (o : ℕ) (target : Target) (exchange : ℕ) (slot : Option ℕ) → 1 ≤ o → o < length s.owners → Ranged many s → Ranged many (replaces s o target exchange slot)
  replaced s o target exchange None z l h = h
  replaced s o target exchange (Some slot) z l h = asked_again s o slot target (message_at s.net exchange).body z l h

  loss_counted : (c : Config) (s : State) (o : ℕ) (e : Envelope) → 1 ≤ o → o < length s.owners → Ranged many s → Ranged many (loss_counts c s o e)
  loss_counted c s o e z l h =
      let t = counts_loss s o e.target in
      let k : Ranged many t = put s.owners s.net o _ refl h in
      let i = there s o _ l in
      cond_both (reaches_tries c.tries (owner_at s o).losses e.target) _ _ (Ranged many)
      (λ q. cut_off c t o e.target z i k)
      (λ q. cond_both (nat_lt (losses_of (owner_at t o).losses e.target) c.tries) _ t (Ranged many) (λ r. replaced t o e.target e.exchange (slot_in (owner_at t o).currents e.exchange) z i k) (λ r. k))

  pub lost_one : (c : Config) (s : State) (e : Envelope) → 1 ≤ e.owner → ((o : ℕ) → is_running (owner_at s o).fate ≡ true → o < length s.owners) → Ranged many s → Ranged many (loses c s e)
  lost_one c s e z f h = cond_both (is_running (owner_at s e.owner).fate) _ s (Ranged many) (λ q. loss_counted c s e.owner e z (f e.owner q) h) (λ q. h)
