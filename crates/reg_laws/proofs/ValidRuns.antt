-- All that stands in a state of a run was stored: what replicas hold and show, what contexts depend on, and
-- what rounds hear and store.
use Rattle.std.proofs.Common.{◌≡◌, ℕ, zero, suc, ◌<◌, ◌≤◌, List, [], ◌∷◌, ◌++◌, length, get_or, Some, refl, ap, sym, ◌∙◌, subst, arith}
use Rattle.std.proofs.Math.ListN.{set}
use Rattle.std.proofs.lemmas.List.Elements.{All-cons, All-nil, All-set, All-push}
use Rattle.truetime.specs.Reading.{Reading}
use Rattle.rss_names.specs.declared.attempt.Attempt.{Attempt}
use Rattle.rss_names.specs.declared.service.Key.{Key}
use Rattle.rss_names.specs.declared.service.ServiceId.{ServiceId}
use Rattle.rss_names.specs.declared.service.Target.{Target}
use Rattle.causal_context.specs.declared.dep.Dep.{Dep}
use Rattle.pipeline_lang.specs.declared.config.Config.{Config}
use Rattle.rss_wire.specs.Messages.{message_at}
use Rattle.rss_wire.specs.declared.messages.Outcome.{Outcome}
use Rattle.rss_wire.specs.declared.messages.RegReply.{RegReply}
use Rattle.rss_wire.specs.declared.messages.Request.{Request}
use Rattle.rss_wire.specs.declared.messages.Request.TheVariants as request
use Rattle.rss_tables.specs.Lines.{tells_decision}
use Rattle.rss_tables.specs.Outs.{Out}
use Rattle.rss_machine.specs.Moves.{ticks, sends_one, sends, listens, plans_stub}
use Rattle.rss_machine.specs.Run.{run}
use Rattle.rss_machine.specs.State.{State, Owner, start, owner_at, no_owner}
use Rattle.rss_machine.specs.declared.step.Step.{Step}
use Rattle.world_laws.proofs.Doings.{Changed, Doing}
use Rattle.world_laws.proofs.Sent.{IsTold, decision_outs, leaving_outs, doing_outs, sends_each}
use Rattle.world_laws.proofs.SessionMoves.{IsAgain}
use Rattle.world_laws.proofs.Replies.{Sound, sound_keeps}
use Rattle.world_laws.proofs.Stacked.{OwnerKeepsUnder, sent_before}
use Rattle.world_laws.proofs.Sent.{sent_none}
use Rattle.std.proofs.Common.{◌⊎◌, inl, inr}
use Rattle.rss_tables.specs.Works.{planned}
use Rattle.world_laws.proofs.Doings.{listened}
use Rattle.world_laws.proofs.Looks.{get_or_repeat, get_or_past}
use Rattle.std.proofs.Math.ListN.{length-set}
use Rattle.std.specs.Prelude.{replicate}
use Rattle.carstamps.specs.declared.carstamp.Carstamp.{Carstamp}
use Rattle.rss_names.specs.declared.service.ServiceId.TheVariants.{Txn, Reg}
use Rattle.pipeline_lang.specs.declared.config.ServiceDef.{ServiceDef}
use Rattle.rss_tables.specs.ReplicaRow.{held_at, opening_cell}
use Rattle.rss_machine.specs.State.{service_index, replicas_of_services, replicas_before, opening_replicas}
use Rattle.world_laws.specs.Registers.{NamesRegisters}
use Rattle.world_laws.proofs.Contexts.{set_copies, deps_start}
use Rattle.world_laws.proofs.Replies.{place}
use Rattle.reg_laws.specs.Stored.{WasStored, IsValid, DepIsValid, StampsName, HoldsStored}
use Rattle.reg_laws.proofs.Stores.{stamps_run}
use Rattle.reg_laws.proofs.Awaiting.{set_there}
use Rattle.reg_laws.proofs.Awaits.{nobody_sends, beginning_idle}
use Rattle.reg_laws.proofs.Base.{Known, KnownAt, sound_of, at_rest, known_run}
use Rattle.reg_laws.proofs.Hearing.{session_valid, leaving_valid, working_valid, resting_valid, doing_valid, new_valid}
use Rattle.reg_laws.proofs.Valid.{SessionValid, OwnerValid, RequestValid, Valid, valid_more}
use Rattle.reg_laws.proofs.ValidSends.{shard_valid_out, grown_same, grown_set, grown_grow, leaving_flag, working_flag, resting_flag, doing_flag, valid_one, valid_sends, valid_changed}
use Rattle.reg_laws.proofs.ValidServes.{valid_serves, valid_shards, valid_meets}

valid_again : (c : Config) (s : State) (o exchange slot : ℕ) (target : Target) (r : Request) → IsAgain s o exchange slot target r → Sound s → Valid c s → RequestValid s o target r
valid_again c s o exchange slot target r d g h =
    let b = sent_before s o exchange slot target r g d in
    subst (λ (t : Target). RequestValid s o t r) b.target_of (subst (λ (n : ℕ). RequestValid s n (message_at s.net exchange).envelope.target r) b.owner (h.messages.each exchange r d.asked))

valid_own : (c : Config) (s t : State) (o : ℕ) (w : Owner) → Changed [] (set s.owners o w) s t → w.stored ≡ (owner_at s o).stored → OwnerValid s w → Valid c s → Valid c t
valid_own c s t o w d f v h = valid_changed c [] s t (set s.owners o w) d (grown_set s t o w d.stores.net d.owned f) (All-nil (DepIsValid s)) (All-set (OwnerValid s) s.owners o w v h.owners) h

same_changed : (s : State) (o : ℕ) (w : Owner) (planned : List ℕ) → w.works.copy ≡ (owner_at s o).works.copy → Changed [] (set s.owners o w) s (record s { owners = set s.owners o w; planned = planned })
same_changed s o w planned e = record { stores = record { steps = refl; moment = refl; moments = refl; net = refl; shards = refl; replicas = refl; marks = refl }; owned = refl; deps = λ G a h. record { stages = h.stages; pipes = h.pipes; copies = set_copies G s o w e h } }

valid_settles : (c : Config) (s : State) (o slot : ℕ) (a : Attempt) (shards : List ℕ) (outcome : Outcome) → Sound s → Valid c s → Valid c (plans_stub (sends (listens s o slot) o (tells_decision a outcome shards)) o)
valid_settles c s o slot a shards outcome g h = valid_own c t (plans_stub t o) o _ (same_changed t o _ _ refl) refl tt told
  where
    u : State
    u = listens s o slot

    t : State
    t = sends u o (tells_decision a outcome shards)

    one : (v : State) (out : Out) → IsTold out → Sound v × Valid c v → Sound (sends_one v o out) × Valid c (sends_one v o out)
    one v out d p = (sound_keeps.sends v o out p.0, valid_one c o v out p.0 (shard_valid_out v o out.target out.request d.to) p.1)

    told : Valid c t
    told = (sends_each (λ v. Sound v × Valid c v) IsTold o one (tells_decision a outcome shards) u (decision_outs a outcome shards) (record { first = g.first; sound = g.sound }, valid_own c s u o (listened s o slot) (same_changed s o (listened s o slot) s.planned refl) refl (session_valid c s s o h) h)).1

sound_changed : (new : List Dep) (s t : State) (owners : List Owner) → Changed new owners s t → Sound s → Sound t
sound_changed new s t owners d h = sound_keeps.others s t d.stores h

pub valid_under : (c : Config) (at : Reading) → OwnerKeepsUnder c at (Known c) (KnownAt c) (Valid c) (λ s o. Valid c s)
valid_under c at = record {
  fates = λ s m f g h. valid_meets c s m f h;
  shards = λ s m shard r d g h. valid_shards c s m shard at.latest r d g h;
  replicas = λ s m id replica r d g h. valid_serves c s m replica id r d g h;
  again = λ s o exchange slot target r d g h. valid_one c o s (record { slot = Some slot; target = target; request = r }) (sound_of c s g) (valid_again c s o exchange slot target r d (sound_of c s g) h) h;
  stages = λ s t d g h. valid_changed c [] s t s.owners d (grown_same s t d.stores.net d.owned) (All-nil (DepIsValid s)) h.owners h;
  dies = λ s t n u d g h. valid_changed c [] s t _ d (grown_grow s t _ d.stores.net d.owned) (All-nil (DepIsValid s)) (All-push (OwnerValid s) s.owners _ h.owners tt) h;
  begins = λ s t w b d g h. valid_changed c [] s t (s.owners ++ w ∷ []) d (grown_grow s t w d.stores.net d.owned) (All-nil (DepIsValid s)) (All-push (OwnerValid s) s.owners w h.owners (subst (SessionValid s) (sym (beginning_idle c s w b)) tt)) h;
  rests = λ s t o w i b d g h. valid_own c s t o w d (resting_flag s o w b) (resting_valid s o w s b) h;
  settles = λ s o slot a shards outcome i e d g h. valid_settles c s o slot a shards outcome (sound_of c s g) h;
  settled = λ s o g h. h;
  works = λ s t o w i b d g h. valid_own c s t o w d (working_flag at s o w b) (working_valid at s o w s b (session_valid c s s o h)) h;
  leaves = λ s t o w outs i b d g h.
      valid_sends c o w.session outs t (leaving_outs c at s o w outs b) (ap (λ (v : Owner). v.session) (set_there s t o w i d.owned)) (sound_changed [] s t (set s.owners o w) d (sound_of c s (at_rest c s o g))) (there s t o w i d.owned)
      (valid_own c s t o w d (leaving_flag c at s o w outs b) (leaving_valid c at s o w outs b h) h);
  does = λ s t o w outs new b d g h. doing_sends s t o w outs new b d g (valid_changed c new s t (set s.owners o w) d (grown_set s t o w d.stores.net d.owned (doing_flag s o w outs new b)) (new_valid c s o w outs new b h) (All-set (OwnerValid s) s.owners o w (doing_valid c s o w outs new b g h) h.owners) h);
}
  where
    there : (s t : State) (o : ℕ) (w : Owner) → o < length s.owners → t.owners ≡ set s.owners o w → o < length t.owners
    there s t o w i d = subst (λ (owners : List Owner). o < length owners) (sym d) (subst (λ (n : ℕ). o < n) (sym (length-set s.owners o w)) i)

    doing_sends : (s t : State) (o : ℕ) (w : Owner) (outs : List Out) (new : List Dep) → Doing s o w outs new → Changed new (set s.owners o w) s t → Known c s → Valid c t → Valid c (sends t o outs)
    doing_sends s t o w outs new b d g h = by_place (get_or_past s.owners o no_owner)
      where
        by_place : (o < length s.owners) ⊎ (owner_at s o ≡ no_owner) → Valid c (sends t o outs)
        by_place (inl i) = valid_sends c o w.session outs t (doing_outs s o w outs new b) (ap (λ (v : Owner). v.session) (set_there s t o w i d.owned)) (sound_changed new s t (set s.owners o w) d (sound_of c s g)) (there s t o w i d.owned) h
        by_place (inr e) = subst (λ (xs : List Out). Valid c (sends t o xs)) (sym (nobody_sends s o w outs new b e)) h

-- before the first step replicas hold opening values
before_cells : (registers : ℕ) (id : ServiceId) (n : ℕ) (services : List ServiceDef) (key : Key) (place i : ℕ) → ((j : ℕ) → held_at (get_or (get_or (replicas_of_services registers services) j []) place []) key ≡ opening_cell) → held_at (get_or (get_or (replicas_before id (opening_replicas registers n) (replicas_of_services registers services)) i []) place []) key ≡ opening_cell
before_cells registers (Txn number) n services key place i h = h i
before_cells registers (Reg number) n services key place (suc i) h = h i
before_cells registers (Reg number) n services key place zero h = by_place (get_or_repeat n (replicate registers opening_cell) place []) (get_or_repeat registers opening_cell key.index opening_cell)
  where
    by_place : ((get_or (replicate n (replicate registers opening_cell)) place [] ≡ replicate registers opening_cell) × (place < n)) ⊎ ((get_or (replicate n (replicate registers opening_cell)) place [] ≡ []) × (n ≤ place)) → ((get_or (replicate registers opening_cell) key.index opening_cell ≡ opening_cell) × (key.index < registers)) ⊎ ((get_or (replicate registers opening_cell) key.index opening_cell ≡ opening_cell) × (registers ≤ key.index)) → held_at (get_or (replicate n (replicate registers opening_cell)) place []) key ≡ opening_cell
    by_place (inl a) (inl b) = ap (λ (cells : List RegReply). held_at cells key) a.0 ∙ b.0
    by_place (inl a) (inr b) = ap (λ (cells : List RegReply). held_at cells key) a.0 ∙ b.0
    by_place (inr a) b = ap (λ (cells : List RegReply). held_at cells key) a.0

pub start_cells : (registers : ℕ) (services : List ServiceDef) (key : Key) (place i : ℕ) → held_at (get_or (get_or (replicas_of_services registers services) i []) place []) key ≡ opening_cell
start_cells registers [] key place i = refl
start_cells registers (d ∷ services) key place i = before_cells registers d.id d.replicas services key place i (λ j. start_cells registers services key place j)

pub valid_start : (c : Config) → Valid c (start c)
valid_start c = record {
  owners = All-cons (OwnerValid (start c)) no_owner [] tt (All-nil (OwnerValid (start c)));
  deps = deps_start (DepIsValid (start c)) c;
  messages = sent_none (RequestValid (start c));
  replies = record { each = λ m value writer replica stamp service q key z l t b a e. absurd (omega (arith, z, l)) };
  replicas = record { each = λ key place i. inl (start_cells (length c.registers) c.services key place (service_index key.service)) };
}

pub valid_ticks : (c : Config) (s : State) (at : Reading) → Valid c s → Valid c (ticks s at)
valid_ticks c s at h =
    let t = ticks s at in
    let k = valid_more c s t s (record { nets = record { longer = omega arith; envelopes = λ m l. refl; bodies = λ m l. refl }; owners = omega arith; handled = λ i e. e }) h in
    record { owners = k.owners; deps = record { stages = k.deps.stages; pipes = k.deps.pipes; copies = k.deps.copies }; messages = k.messages; replies = k.replies; replicas = k.replicas }

-- values of one register with one stamp are the same
stored_above : (c : Config) (s : State) (key : Key) (cell : RegReply) → WasStored s.net key cell → Valid c s → 0 < cell.stamp.number
stored_above c s key cell a h = valid.0
  where
    valid : (0 < cell.stamp.number) × ((message_at s.net a.number).envelope.owner < length s.owners)
    valid = subst (λ (t : Target). RequestValid s (message_at s.net a.number).envelope.owner t (request.Store key cell.value cell.stamp cell.writer)) a.target (h.messages.each a.number (request.Store key cell.value cell.stamp cell.writer) a.says)

not_opening : (c : Config) (s : State) (key : Key) (x y : RegReply) → x ≡ opening_cell → WasStored s.net key y → Valid c s → x.stamp ≡ y.stamp → ⊥
not_opening c s key x y e a h f =
    let n : y.stamp.number ≡ 0 = ap (λ (z : Carstamp). z.number) (sym f) ∙ ap (λ (z : RegReply). z.stamp.number) e in
    let l = stored_above c s key y a h in
    absurd (omega (arith, n, l))

pub values_agree : (c : Config) (s : State) (key : Key) (x y : RegReply) → StampsName s.net → Valid c s → IsValid s key x → IsValid s key y → x.stamp ≡ y.stamp → x ≡ y
values_agree c s key x y n h (inl a) (inl b) e = a ∙ sym b
values_agree c s key x y n h (inr a) (inr b) e = n.cell key key x y a.stored b.stored e
values_agree c s key x y n h (inl a) (inr b) e = absurd (not_opening c s key x y a b.stored h e)
values_agree c s key x y n h (inr a) (inl b) e = absurd (not_opening c s key y x b a.stored h (sym e))

-- all that stands in a state of a run was stored
pub holds_run : (c : Config) (steps : List Step) (s : State) → NamesRegisters c → run c steps ≡ Some s → HoldsStored c s
holds_run c steps s n e =
    let h = (known_run c n (Valid c) (λ t o. Valid c t) (valid_under c) (valid_ticks c) (valid_start c) steps s e).1 in
    record {
      replicas = λ key place i. h.replicas.each key place i;
      dependencies = h.deps;
      fixes = λ m replica service deps t b. (subst (λ (x : Target). RequestValid s (message_at s.net m).envelope.owner x (request.Fix deps)) t (h.messages.each m (request.Fix deps) b)).0;
      agree = λ key x y a b f. values_agree c s key x y (stamps_run c steps s n e) h a b f;
    }
