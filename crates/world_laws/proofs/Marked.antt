-- The notes of a run tell the step of every stamp: the first one after which a majority holds it.
use Rattle.std.proofs.Common.{◌≡◌, ℕ, zero, suc, ◌+◌, ◌-◌, ◌<◌, ◌≤◌, ◌⊎◌, inl, inr, Bool, true, false, List, [], ◌∷◌, ◌++◌, map, length, get_or, Option, Some, None, refl, ap, ◌∙◌, sym, subst, arith}
use Rattle.std.specs.Prelude.{◌==◌, ◌&&◌, ◌||◌, not, is_some, replicate, if◌then◌else◌}
use Rattle.std.specs.List.{list_all}
use Rattle.std.specs.Option.{unwrap_or}
use Rattle.std.proofs.Math.ListN.{set}
use Rattle.std.proofs.lemmas.Bool.{and_parts, eqb-true, eq-eqb, true≢false, false≢true}
use Rattle.std.proofs.lemmas.List.{length-replicate, set-get_or}
use Rattle.rss_names.specs.declared.service.Key.{Key}
use Rattle.rss_names.specs.declared.service.ServiceId.{ServiceId}
use Rattle.rss_names.specs.declared.service.ServiceId.TheVariants.{Txn, Reg}
use Rattle.rss_names.specs.declared.service.Target.{Target}
use Rattle.rss_names.specs.declared.service.Target.TheVariants.{Replica}
use Rattle.rss_names.specs.Services.{same_service, same_key}
use Rattle.causal_context.specs.declared.dep.Dep.{Dep}
use Rattle.carstamps.specs.declared.carstamp.Carstamp.{Carstamp}
use Rattle.carstamps.specs.Stamp.{stamp_le, opening_stamp}
use Rattle.pipeline_lang.specs.declared.config.Config.{Config}
use Rattle.pipeline_lang.specs.declared.config.ServiceDef.{ServiceDef}
use Rattle.rss_wire.specs.declared.message.Body.{Body}
use Rattle.rss_wire.specs.declared.message.Body.TheVariants as body
use Rattle.rss_wire.specs.declared.message.Message.{Message}
use Rattle.rss_wire.specs.declared.messages.RegReply.{RegReply}
use Rattle.rss_wire.specs.declared.envelope.Envelope.{Envelope}
use Rattle.rss_wire.specs.declared.message.Fate.{Fate}
use Rattle.rss_wire.specs.declared.messages.Request.{Request}
use Rattle.rss_wire.specs.declared.messages.Request.TheVariants as request
use Rattle.rss_wire.specs.Messages.{message_at, meets}
use Rattle.rss_tables.specs.ReplicaRow.{held_at, opening_cell, replica_after}
use Rattle.rss_machine.specs.Effect.{stepped}
use Rattle.rss_machine.specs.Marks.{is_held, first_mark, notes_keys, raised_by}
use Rattle.rss_machine.specs.Moves.{ticks, serves_replica, notes_served}
use Rattle.rss_machine.specs.Refusal.{refusal}
use Rattle.rss_machine.specs.Run.{run, run_from}
use Rattle.rss_machine.specs.State.{State, start, replicas_at, cells_at, marks_at, service_index, replicas_of_services, replicas_before, opening_replicas}
use Rattle.rss_machine.specs.Times.{first_held, step_of_stamp, marked_step}
use Rattle.rss_machine.specs.declared.state.Mark.{Mark}
use Rattle.rss_machine.specs.declared.step.Step.{Step}
use Rattle.world_laws.proofs.Alone.{is_apart, leaves_registers, leaves_alone, IsAlone}
use Rattle.world_laws.specs.Later.{Later}
use Rattle.world_laws.specs.Proper.{registers_of, are_kept_by, is_proper_body}
use Rattle.world_laws.proofs.Looks.{looks, none_is_not, get_or_set, get_or_past, get_or_repeat}
use Rattle.world_laws.proofs.Runs.{passes, run_rest, run_none}
use Rattle.world_laws.proofs.Holders.{stamp_at, held_some}
use Rattle.world_laws.proofs.Later.{later_from}
use Rattle.world_laws.proofs.Notes.{NoKey, OnlyKey, AreNoted, IsNotedAt, Notes, notes_long, notes_none, notes_serve}
use Rattle.world_laws.proofs.RequestsProper.{proper_run}
use Rattle.world_laws.proofs.Replies.{meets_envelope, meets_body}
use Rattle.world_laws.proofs.StoreMoves.{StoreKeeps, SameStores, Serves}
use Rattle.world_laws.proofs.StoreWalk.{store_walk}

-- a list of some is not empty
cons_not_nil : {X : Type 0} (x : X) (xs : List X) → x ∷ xs ≡ [] → ⊥
cons_not_nil x xs e = cc

-- the same service and key, by their tests
pub same_service_is : (a b : ServiceId) → same_service a b ≡ true → a ≡ b
same_service_is (Txn a) (Txn b) e = ap Txn (eqb-true a b e)
same_service_is (Reg a) (Reg b) e = ap Reg (eqb-true a b e)
same_service_is (Txn a) (Reg b) e = absurd (false≢true e)
same_service_is (Reg a) (Txn b) e = absurd (false≢true e)

abbrev pub key_with : ServiceId → ℕ → Key
key_with service index = record { service = service; index = index }

same_key_is : (a b : Key) → same_key a b ≡ true → a ≡ b
same_key_is a b e =
    let p = and_parts (same_service a.service b.service) (a.index == b.index) e in
    let f : a.service ≡ b.service = same_service_is a.service b.service p.0 in
    let g : a.index ≡ b.index = eqb-true a.index b.index p.1 in
    let h : a ≡ record { service = b.service; index = a.index } = ap (λ (x : ServiceId). key_with x a.index) f in
    let k : record { service = b.service; index = a.index } ≡ b = ap (λ (n : ℕ). key_with b.service n) g in
    h ∙ k

-- numbers that a test tells apart
not_equal : (a b : ℕ) → not (a == b) ≡ true → a ≡ b → ⊥
not_equal a b e q = true≢false (sym e ∙ (ap (λ (n : ℕ). not (n == b)) q ∙ ap not (eq-eqb b b refl)))

either_true : (a b : Bool) → (a || b) ≡ true → (a ≡ true) ⊎ (b ≡ true)
either_true true b e = inl refl
either_true false b e = inr e

-- registers that are apart from this one, or are this one
only_apart : (key : Key) (ks : List Key) → list_all (is_apart key) ks ≡ true → OnlyKey key ks
only_apart key [] e = tt
only_apart key (k ∷ ks) e =
    let p = and_parts (is_apart key k) (list_all (is_apart key) ks) e in
    (by_either (either_true (not (k.index == key.index)) (same_key k key) p.0), only_apart key ks p.1)
  where
    by_either : (not (k.index == key.index) ≡ true) ⊎ (same_key k key ≡ true) → ((k.index ≡ key.index → ⊥) ⊎ (k ≡ key))
    by_either (inl a) = inl (not_equal k.index key.index a)
    by_either (inr a) = inr (same_key_is k key a)

-- a service is itself
pub same_service_itself : (a : ServiceId) → same_service a a ≡ true
same_service_itself (Txn n) = eq-eqb n n refl
same_service_itself (Reg n) = eq-eqb n n refl

-- what another service keeps is not this register
kept_apart : (key : Key) (service : ServiceId) (ks : List Key) → (service ≡ key.service → ⊥) → are_kept_by service ks ≡ true → OnlyKey key ks → NoKey key ks
unfolding are_kept_by
kept_apart key service [] n e o = tt
kept_apart key service (k ∷ ks) n e o =
    let p = and_parts (same_service service k.service) (list_all (λ (j : Key). same_service service j.service) ks) e in
    (by_key o.0 p.0, kept_apart key service ks n p.1 o.1)
  where
    by_key : ((k.index ≡ key.index → ⊥) ⊎ (k ≡ key)) → same_service service k.service ≡ true → k.index ≡ key.index → ⊥
    by_key (inl a) f i = a i
    by_key (inr a) f i = n (same_service_is service k.service f ∙ ap (λ (j : Key). j.service) a)

-- what a request raises is among what it names
raised_kept : (service : ServiceId) (r : Request) → are_kept_by service (registers_of r) ≡ true → are_kept_by service (raised_by r) ≡ true
unfolding are_kept_by
raised_kept service (request.Store other value stamp writer) e = e
raised_kept service (request.Fix deps) e = e
raised_kept service (request.Ask other) e = refl
raised_kept service (request.Stamp other) e = refl
raised_kept service (request.Lock attempt coordinator reads writes) e = refl
raised_kept service (request.Prepare attempt least earliest_end writes) e = refl
raised_kept service (request.Decide attempt commit time) e = refl
raised_kept service (request.Commit attempt commit_time) e = refl
raised_kept service (request.Abort attempt) e = refl
raised_kept service (request.Inquire attempt) e = refl
raised_kept service (request.Release attempt time last) e = refl
raised_kept service (request.Snapshot read_time least keys skip) e = refl

-- the notes of this register say what a majority holds, and what they say anew they say of this step
record Since (key : Key) (u s : State) : Type 0 where
  steps : s.steps ≡ u.steps
  long : key.index < length s.marks
  told : AreNoted key (replicas_at s key.service) (marks_at s key)
  first : (z : Carstamp) → stamp_le z opening_stamp ≡ false → IsNotedAt u.steps (first_mark (marks_at u key) z) (first_mark (marks_at s key) z)

-- noted in two moves of a step
noted_twice : (step : ℕ) (x y w : Option ℕ) → IsNotedAt step x y → IsNotedAt step y w → IsNotedAt step x w
noted_twice step x y w (inl e) (inl f) = inl (f ∙ e)
noted_twice step x y w (inl e) (inr f) = inr (sym e ∙ f.0, f.1)
noted_twice step x y w (inr e) (inl f) = inr (e.0, f ∙ e.1)
noted_twice step x y w (inr e) (inr f) = absurd (none_is_not step (sym f.0 ∙ e.1))

set_there : (rss : List (List (List RegReply))) (i j : ℕ) (cells : List RegReply) → get_or (set rss i (set (get_or rss i []) j cells)) i [] ≡ set (get_or rss i []) j cells
set_there rss i j cells = by_place (get_or_set rss i (set (get_or rss i []) j cells) i []) (get_or_past rss i [])
  where
    by_place : ((get_or (set rss i (set (get_or rss i []) j cells)) i [] ≡ set (get_or rss i []) j cells) × (i ≡ i) × (i < length rss)) ⊎ ((get_or (set rss i (set (get_or rss i []) j cells)) i [] ≡ get_or rss i []) × ((i ≡ i → ⊥) ⊎ (length rss ≤ i))) → (i < length rss) ⊎ (get_or rss i [] ≡ []) → get_or (set rss i (set (get_or rss i []) j cells)) i [] ≡ set (get_or rss i []) j cells
    by_place (inl a) b = a.0
    by_place (inr a) (inr e) = a.0 ∙ (e ∙ ap (λ (x : List (List RegReply)). set x j cells) (sym e))
    by_place (inr a) (inl l) = by_past a.1
      where
        by_past : (i ≡ i → ⊥) ⊎ (length rss ≤ i) → get_or (set rss i (set (get_or rss i []) j cells)) i [] ≡ set (get_or rss i []) j cells
        by_past (inl n) = absurd (n refl)
        by_past (inr g) = absurd (omega (arith, l, g))

set_elsewhere : (rss : List (List (List RegReply))) (i j : ℕ) (rs : List (List RegReply)) → (j ≡ i → ⊥) → get_or (set rss j rs) i [] ≡ get_or rss i []
set_elsewhere rss i j rs n = grind (arith, looks, n)

-- a replica of the register's service serves a request
since_own : (key : Key) (u s : State) (m replica o : ℕ) (r : Request) → OnlyKey key (raised_by r) → Since key u s → Since key u (notes_served (serves_replica s m key.service replica r) o key.service r)
since_own key u s m replica o r k h = record {
  steps = h.steps;
  long = subst (λ (n : ℕ). key.index < n) (sym (notes_long (replicas_at (serves_replica s m key.service replica r) key.service) s.steps (raised_by r) s.marks)) h.long;
  told = subst (λ (rs : List (List RegReply)). AreNoted key rs (get_or (notes_keys rs s.steps (raised_by r) s.marks) key.index [])) (sym there) (λ z f. (notes z f).told);
  first = λ z f. noted_twice u.steps (first_mark (marks_at u key) z) (first_mark (marks_at s key) z) _ (h.first z f)
      (subst (λ (rs : List (List RegReply)). IsNotedAt u.steps (first_mark (marks_at s key) z) (first_mark (get_or (notes_keys rs s.steps (raised_by r) s.marks) key.index []) z)) (sym there)
      (subst (λ (n : ℕ). IsNotedAt n (first_mark (marks_at s key) z) (first_mark (get_or (notes_keys ts s.steps (raised_by r) s.marks) key.index []) z)) h.steps (notes z f).first));
}
  where
    ts : List (List RegReply)
    ts = set (replicas_at s key.service) (replica - 1) (replica_after (cells_at s key.service replica) r)

    there : replicas_at (serves_replica s m key.service replica r) key.service ≡ ts
    there = set_there s.replicas (service_index key.service) (replica - 1) (replica_after (cells_at s key.service replica) r)

    notes : (z : Carstamp) → stamp_le z opening_stamp ≡ false → Notes key s.steps ts (marks_at s key) (get_or (notes_keys ts s.steps (raised_by r) s.marks) key.index []) z
    notes = notes_serve key (replicas_at s key.service) (replica - 1) s.steps r s.marks h.long k h.told

-- a replica of another service does
since_other : (key : Key) (u s : State) (m : ℕ) (service : ServiceId) (replica o : ℕ) (r : Request) → (service_index service ≡ service_index key.service → ⊥) → NoKey key (raised_by r) → Since key u s → Since key u (notes_served (serves_replica s m service replica r) o service r)
since_other key u s m service replica o r n k h = record {
  steps = h.steps;
  long = subst (λ (j : ℕ). key.index < j) (sym (notes_long (replicas_at (serves_replica s m service replica r) service) s.steps (raised_by r) s.marks)) h.long;
  told = subst (λ (rs : List (List RegReply)). AreNoted key rs (get_or (notes_keys (replicas_at (serves_replica s m service replica r) service) s.steps (raised_by r) s.marks) key.index [])) (sym (set_elsewhere s.replicas (service_index key.service) (service_index service) _ n))
      (subst (λ (marks : List Mark). AreNoted key (replicas_at s key.service) marks) (sym same) h.told);
  first = λ z f. subst (λ (marks : List Mark). IsNotedAt u.steps (first_mark (marks_at u key) z) (first_mark marks z)) (sym same) (h.first z f);
}
  where
    same : get_or (notes_keys (replicas_at (serves_replica s m service replica r) service) s.steps (raised_by r) s.marks) key.index [] ≡ marks_at s key
    same = notes_none (replicas_at (serves_replica s m service replica r) service) s.steps (raised_by r) s.marks key k

-- a request that raises nothing changes nothing
raises_nothing : (cells : List RegReply) (r : Request) → raised_by r ≡ [] → replica_after cells r ≡ cells
unfolding replica_after
raises_nothing cells (request.Store key value stamp writer) e = absurd (cons_not_nil key [] e)
raises_nothing cells (request.Fix []) e = refl
raises_nothing cells (request.Fix (dep ∷ deps)) e = absurd (cons_not_nil dep.key (map (λ (d : Dep). d.key) deps) e)
raises_nothing cells (request.Ask other) e = refl
raises_nothing cells (request.Stamp other) e = refl
raises_nothing cells (request.Lock attempt coordinator reads writes) e = refl
raises_nothing cells (request.Prepare attempt least earliest_end writes) e = refl
raises_nothing cells (request.Decide attempt commit time) e = refl
raises_nothing cells (request.Commit attempt commit_time) e = refl
raises_nothing cells (request.Abort attempt) e = refl
raises_nothing cells (request.Inquire attempt) e = refl
raises_nothing cells (request.Release attempt time last) e = refl
raises_nothing cells (request.Snapshot read_time least keys skip) e = refl

since_nothing : (key : Key) (u s : State) (m : ℕ) (service : ServiceId) (replica o : ℕ) (r : Request) → raised_by r ≡ [] → Since key u s → Since key u (notes_served (serves_replica s m service replica r) o service r)
since_nothing key u s m service replica o r e h = record {
  steps = h.steps;
  long = subst (λ (ml : List (List Mark)). key.index < length ml) (sym marks) h.long;
  told = subst (λ (rss : List (List (List RegReply))). AreNoted key (get_or rss (service_index key.service) []) (marks_at t key)) (sym replicas) (subst (λ (ml : List (List Mark)). AreNoted key (replicas_at s key.service) (get_or ml key.index [])) (sym marks) h.told);
  first = λ z f. subst (λ (ml : List (List Mark)). IsNotedAt u.steps (first_mark (marks_at u key) z) (first_mark (get_or ml key.index []) z)) (sym marks) (h.first z f);
}
  where
    t : State
    t = notes_served (serves_replica s m service replica r) o service r

    rows : List (List RegReply)
    rows = replicas_at s service

    one : set rows (replica - 1) (replica_after (cells_at s service replica) r) ≡ rows
    one = ap (λ (cells : List RegReply). set rows (replica - 1) cells) (raises_nothing (cells_at s service replica) r e) ∙ set-get_or rows (replica - 1) []

    replicas : t.replicas ≡ s.replicas
    replicas = ap (λ (rs : List (List RegReply)). set s.replicas (service_index service) rs) one ∙ set-get_or s.replicas (service_index service) []

    marks : t.marks ≡ s.marks
    marks = ap (λ (ks : List Key). notes_keys (replicas_at (serves_replica s m service replica r) service) s.steps ks s.marks) e

-- whichever serves a request that raises registers
since_raises : (key : Key) (u s : State) (m : ℕ) (service : ServiceId) (replica o : ℕ) (r : Request) → are_kept_by service (registers_of r) ≡ true → ((same_service service key.service || not (service_index service == service_index key.service)) && list_all (is_apart key) (raised_by r)) ≡ true → Since key u s → Since key u (notes_served (serves_replica s m service replica r) o service r)
since_raises key u s m service replica o r e l h = by_service (same_service service key.service) refl (either_true (same_service service key.service) (not (service_index service == service_index key.service)) p.0)
  where
    p : ((same_service service key.service || not (service_index service == service_index key.service)) ≡ true) × (list_all (is_apart key) (raised_by r) ≡ true)
    p = and_parts (same_service service key.service || not (service_index service == service_index key.service)) (list_all (is_apart key) (raised_by r)) l

    only : OnlyKey key (raised_by r)
    only = only_apart key (raised_by r) p.1

    by_service : (t : Bool) → same_service service key.service ≡ t → (same_service service key.service ≡ true) ⊎ (not (service_index service == service_index key.service) ≡ true) → Since key u (notes_served (serves_replica s m service replica r) o service r)
    by_service true f a = subst (λ (x : ServiceId). Since key u (notes_served (serves_replica s m x replica r) o x r)) (sym (same_service_is service key.service f)) (since_own key u s m replica o r only h)
    by_service false f (inl a) = absurd (true≢false (sym a ∙ f))
    by_service false f (inr a) =
        let n = not_equal (service_index service) (service_index key.service) a in
        since_other key u s m service replica o r n (kept_apart key service (raised_by r) (λ q. n (ap service_index q)) (raised_kept service r e) only) h

-- whichever serves it
since_serves : (key : Key) (u s : State) (m : ℕ) (service : ServiceId) (replica o : ℕ) (r : Request) → are_kept_by service (registers_of r) ≡ true → leaves_alone key (Replica service replica) (body.Request r) ≡ true → Since key u s → Since key u (notes_served (serves_replica s m service replica r) o service r)
since_serves key u s m service replica o r e l h = by_raised (raised_by r) refl l
  where
    by_raised : (ks : List Key) → raised_by r ≡ ks → leaves_registers key service ks ≡ true → Since key u (notes_served (serves_replica s m service replica r) o service r)
    by_raised [] f l = since_nothing key u s m service replica o r f h
    by_raised (k ∷ ks) f l = since_raises key u s m service replica o r e (subst (λ (js : List Key). ((same_service service key.service || not (service_index service == service_index key.service)) && list_all (is_apart key) js) ≡ true) (sym f) l) h

-- every message that was sent is proper, and leaves the register alone
Quiet : Key → List Message → Type 0
Quiet key net = (m : ℕ) → m < length net → (is_proper_body (message_at net m).envelope.target (message_at net m).body ≡ true) × (leaves_alone key (message_at net m).envelope.target (message_at net m).body ≡ true)

quiet_less : (key : Key) (net : List Message) (x : Message) → Quiet key (net ++ x ∷ []) → Quiet key net
unfolding Quiet
quiet_less key net x q m l =
    let o : message_at (net ++ x ∷ []) m ≡ message_at net m = grind (arith, looks, l) in
    subst (λ (y : Message). (is_proper_body y.envelope.target y.body ≡ true) × (leaves_alone key y.envelope.target y.body ≡ true)) o (q m (grind (arith, looks, l)))

quiet_meets : (key : Key) (net : List Message) (m : ℕ) (f : Fate) → Quiet key (meets net m f) → Quiet key net
unfolding Quiet
quiet_meets key net m f q k l =
    let a = meets_envelope net m f k in
    let b = meets_body net m f k in
    subst (λ (y : Body). (is_proper_body (message_at net k).envelope.target y ≡ true) × (leaves_alone key (message_at net k).envelope.target y ≡ true)) b
    (subst (λ (y : Envelope). (is_proper_body y.target (message_at (meets net m f) k).body ≡ true) × (leaves_alone key y.target (message_at (meets net m f) k).body ≡ true)) a (q k (grind (arith, looks, l))))

quiet_earlier : (key : Key) (u s : State) → Later u s → Quiet key s.net → Quiet key u.net
unfolding Quiet
quiet_earlier key u s h q k l =
    let n = h.net in
    subst (λ (y : Body). (is_proper_body (message_at u.net k).envelope.target y ≡ true) × (leaves_alone key (message_at u.net k).envelope.target y ≡ true)) (h.bodies k l)
    (subst (λ (y : Envelope). (is_proper_body y.target (message_at s.net k).body ≡ true) × (leaves_alone key y.target (message_at s.net k).body ≡ true)) (h.envelopes k l) (q k (omega (arith, n, l))))

-- a request that is served is proper, and leaves the register alone
quiet_serves : (key : Key) (s : State) (m : ℕ) (r : Request) (target : Target) → Serves s m r target → Quiet key s.net → (is_proper_body target (body.Request r) ≡ true) × (leaves_alone key target (body.Request r) ≡ true)
unfolding Quiet
quiet_serves key s m r target d q =
    subst (λ (t : Target). (is_proper_body t (body.Request r) ≡ true) × (leaves_alone key t (body.Request r) ≡ true)) d.to
    (subst (λ (b : Body). (is_proper_body (message_at s.net m).envelope.target b ≡ true) × (leaves_alone key (message_at s.net m).envelope.target b ≡ true)) d.asks (q m d.sent))

since_again : (key : Key) (u s t : State) → SameStores s t → Since key u s → Since key u t
since_again key u s t e h = record {
  steps = e.steps ∙ h.steps;
  long = subst (λ (ml : List (List Mark)). key.index < length ml) (sym e.marks) h.long;
  told = subst (λ (rss : List (List (List RegReply))). AreNoted key (get_or rss (service_index key.service) []) (marks_at t key)) (sym e.replicas) (subst (λ (ml : List (List Mark)). AreNoted key (replicas_at s key.service) (get_or ml key.index [])) (sym e.marks) h.told);
  first = λ z f. subst (λ (ml : List (List Mark)). IsNotedAt u.steps (first_mark (marks_at u key) z) (first_mark (get_or ml key.index []) z)) (sym e.marks) (h.first z f);
}

since_keeps : (key : Key) (u : State) → StoreKeeps (λ s. Quiet key s.net → Since key u s)
since_keeps key u = record {
  fates = λ s m f p q. let h = p (quiet_meets key s.net m f q) in record { steps = h.steps; long = h.long; told = h.told; first = h.first };
  sends = λ s o out p q. let h = p (quiet_less key s.net _ q) in record { steps = h.steps; long = h.long; told = h.told; first = h.first };
  shards = λ s m shard latest r d p q. let h = p (quiet_less key s.net _ q) in record { steps = h.steps; long = h.long; told = h.told; first = h.first };
  replicas = λ s m service replica r d p q.
      let less = quiet_less key s.net _ q in
      let g = quiet_serves key s m r (Replica service replica) d less in
      since_serves key u s m service replica (message_at s.net m).envelope.owner r g.0 g.1 (p less);
  others = λ s t e p q. since_again key u s t e (p (subst (Quiet key) e.net q));
}

-- in a state of a run: the notes say what a majority holds
record Kept (key : Key) (s : State) : Type 0 where
  long : key.index < length s.marks
  noted : AreNoted key (replicas_at s key.service) (marks_at s key)

-- what one step notes
record Stepped (key : Key) (s t : State) : Type 0 where
  kept : Kept key t
  counted : t.steps ≡ s.steps + 1
  first : (z : Carstamp) → stamp_le z opening_stamp ≡ false → IsNotedAt t.steps (first_mark (marks_at s key) z) (first_mark (marks_at t key) z)

steps_on : (c : Config) (key : Key) (s : State) (step : Step) → refusal c s step ≡ None → Quiet key (stepped c s step).net → Kept key s → Stepped key s (stepped c s step)
steps_on c key s step r q h =
    let u = ticks s step.at in
    let w = store_walk c (λ t. Quiet key t.net → Since key u t) (since_keeps key u) u step.at step.kind (passes c s step r).kind (λ g. record { steps = refl; long = h.long; told = h.noted; first = λ z f. inl refl }) q in
    record {
      kept = record { long = w.long; noted = w.told };
      counted = w.steps;
      first = λ z f. subst (λ (n : ℕ). IsNotedAt n (first_mark (marks_at s key) z) (first_mark (marks_at (stepped c s step) key) z)) (sym w.steps) (w.first z f);
    }

-- at the start no majority holds a stamp above the opening one
before_opening : (registers : ℕ) (id : ServiceId) (n : ℕ) (services : List ServiceDef) (key : Key) (place i : ℕ) → ((j : ℕ) → stamp_at (get_or (replicas_of_services registers services) j []) key place ≡ opening_stamp) → stamp_at (get_or (replicas_before id (opening_replicas registers n) (replicas_of_services registers services)) i []) key place ≡ opening_stamp
before_opening registers (Txn number) n services key place i h = h i
before_opening registers (Reg number) n services key place (suc i) h = h i
before_opening registers (Reg number) n services key place zero h = by_place (get_or_repeat n (replicate registers opening_cell) place []) (get_or_repeat registers opening_cell key.index opening_cell)
  where
    by_place : ((get_or (replicate n (replicate registers opening_cell)) place [] ≡ replicate registers opening_cell) × (place < n)) ⊎ ((get_or (replicate n (replicate registers opening_cell)) place [] ≡ []) × (n ≤ place)) → ((get_or (replicate registers opening_cell) key.index opening_cell ≡ opening_cell) × (key.index < registers)) ⊎ ((get_or (replicate registers opening_cell) key.index opening_cell ≡ opening_cell) × (registers ≤ key.index)) → stamp_at (replicate n (replicate registers opening_cell)) key place ≡ opening_stamp
    by_place (inl a) (inl b) = ap (λ (cells : List RegReply). (held_at cells key).stamp) a.0 ∙ ap (λ (cell : RegReply). cell.stamp) b.0
    by_place (inl a) (inr b) = ap (λ (cells : List RegReply). (held_at cells key).stamp) a.0 ∙ ap (λ (cell : RegReply). cell.stamp) b.0
    by_place (inr a) b = ap (λ (cells : List RegReply). (held_at cells key).stamp) a.0

start_opening : (registers : ℕ) (services : List ServiceDef) (key : Key) (place i : ℕ) → stamp_at (get_or (replicas_of_services registers services) i []) key place ≡ opening_stamp
start_opening registers [] key place i = refl
start_opening registers (d ∷ services) key place i = before_opening registers d.id d.replicas services key place i (λ j. start_opening registers services key place j)

pub start_not_held : (c : Config) (key : Key) (z : Carstamp) → stamp_le z opening_stamp ≡ false → is_held (replicas_at (start c) key.service) key z ≡ false
start_not_held c key z f = by_test (is_held (replicas_at (start c) key.service) key z) refl
  where
    by_test : (t : Bool) → is_held (replicas_at (start c) key.service) key z ≡ t → t ≡ false
    by_test true e =
        let p = held_some key z (replicas_at (start c) key.service) e in
        absurd (true≢false (sym (subst (λ (x : Carstamp). stamp_le z x ≡ true) (start_opening (length c.registers) c.services key p.0 (service_index key.service)) p.1) ∙ f))
    by_test false e = refl

abbrev pub no_marks : List Mark
no_marks = []

pub none_at : (n i : ℕ) → get_or (replicate n no_marks) i no_marks ≡ no_marks
none_at n i = by_place (get_or_repeat n no_marks i no_marks)
  where
    by_place : ((get_or (replicate n no_marks) i no_marks ≡ no_marks) × (i < n)) ⊎ ((get_or (replicate n no_marks) i no_marks ≡ no_marks) × (n ≤ i)) → get_or (replicate n no_marks) i no_marks ≡ no_marks
    by_place (inl a) = a.0
    by_place (inr a) = a.0

start_unmarked : (c : Config) (key : Key) → marks_at (start c) key ≡ []
start_unmarked c key = none_at (length c.registers) key.index

kept_start : (c : Config) (key : Key) → key.index < length c.registers → Kept key (start c)
kept_start c key l = record {
  long = subst (λ (n : ℕ). key.index < n) (sym (length-replicate (length c.registers) [])) l;
  noted = λ z f. ap (λ (marks : List Mark). is_some (first_mark marks z)) (start_unmarked c key) ∙ sym (start_not_held c key z f);
}

-- what was noted stays so
noted_stays : (x : Option ℕ) (n step : ℕ) (y : Option ℕ) → x ≡ Some n → IsNotedAt step x y → y ≡ Some n
noted_stays x n step y e (inl f) = f ∙ e
noted_stays x n step y e (inr f) = absurd (none_is_not n (sym f.0 ∙ e))

mark_stays : (c : Config) (key : Key) (z : Carstamp) (steps : List Step) (u s : State) (n : ℕ) → stamp_le z opening_stamp ≡ false → run_from c u steps ≡ Some s → Quiet key s.net → Kept key u → first_mark (marks_at u key) z ≡ Some n → first_mark (marks_at s key) z ≡ Some n
mark_stays c key z [] u s n f e q k m = subst (λ (t : State). first_mark (marks_at t key) z ≡ Some n) (run_none c u s e) m
mark_stays c key z (step ∷ steps) u s n f e q k m =
    let t = run_rest c u step steps s e in
    let v = stepped c u step in
    let w = steps_on c key u step t.0 (quiet_earlier key v s (later_from c steps v s t.1) q) k in
    mark_stays c key z steps v s n f t.1 q w.kept (noted_stays (first_mark (marks_at u key) z) n v.steps (first_mark (marks_at v key) z) m (w.first z f))

-- what is noted anew is noted at this step
noted_now : (x y : Option ℕ) (step : ℕ) → x ≡ None → is_some y ≡ true → IsNotedAt step x y → y ≡ Some step
noted_now x y step e h (inl f) = absurd (true≢false (sym h ∙ ap (λ (o : Option ℕ). is_some o) (f ∙ e)))
noted_now x y step e h (inr f) = f.1

not_noted : (y : Option ℕ) → is_some y ≡ false → y ≡ None
not_noted None e = refl
not_noted (Some n) e = absurd (true≢false e)

-- the first step after which a majority holds a stamp that was not noted before
pub first_one : (c : Config) (s : State) (step : Step) (steps : List Step) (key : Key) (z : Carstamp) → is_held (replicas_at (stepped c s step) key.service) key z ≡ true → first_held c s (step ∷ steps) key z ≡ 1
unfolding first_held
first_one c s step steps key z e = ap (λ (t : Bool). if t then 1 else suc (first_held c (stepped c s step) steps key z)) e

pub first_more : (c : Config) (s : State) (step : Step) (steps : List Step) (key : Key) (z : Carstamp) → is_held (replicas_at (stepped c s step) key.service) key z ≡ false → first_held c s (step ∷ steps) key z ≡ suc (first_held c (stepped c s step) steps key z)
unfolding first_held
first_more c s step steps key z e = ap (λ (t : Bool). if t then 1 else suc (first_held c (stepped c s step) steps key z)) e

pub first_none : (c : Config) (s : State) (key : Key) (z : Carstamp) → first_held c s [] key z ≡ 1
unfolding first_held
first_none c s key z = refl

marked_from : (c : Config) (key : Key) (z : Carstamp) (steps : List Step) (u s : State) → stamp_le z opening_stamp ≡ false → run_from c u steps ≡ Some s → Quiet key s.net → Kept key u → first_mark (marks_at u key) z ≡ None → unwrap_or (first_mark (marks_at s key) z) (s.steps + 1) ≡ first_held c u steps key z + u.steps
marked_from c key z [] u s f e q k m =
    let p = run_none c u s e in
    let g : first_mark (marks_at s key) z ≡ None = ap (λ (t : State). first_mark (marks_at t key) z) (sym p) ∙ m in
    let h : unwrap_or (first_mark (marks_at s key) z) (s.steps + 1) ≡ s.steps + 1 = ap (λ (x : Option ℕ). unwrap_or x (s.steps + 1)) g in
    omega (arith, h, first_none c u key z, ap (λ (t : State). t.steps) p)
marked_from c key z (step ∷ steps) u s f e q k m = by_held (is_held (replicas_at v key.service) key z) refl (marked_from c key z steps v s f t.1 q w.kept)
  where
    v : State
    v = stepped c u step

    t : (refusal c u step ≡ None) × (run_from c v steps ≡ Some s)
    t = run_rest c u step steps s e

    w : Stepped key u v
    w = steps_on c key u step t.0 (quiet_earlier key v s (later_from c steps v s t.1) q) k

    by_held : (b : Bool) → is_held (replicas_at v key.service) key z ≡ b → (first_mark (marks_at v key) z ≡ None → unwrap_or (first_mark (marks_at s key) z) (s.steps + 1) ≡ first_held c v steps key z + v.steps) → unwrap_or (first_mark (marks_at s key) z) (s.steps + 1) ≡ first_held c u (step ∷ steps) key z + u.steps
    by_held true h ih =
        let g : first_mark (marks_at v key) z ≡ Some v.steps = noted_now (first_mark (marks_at u key) z) (first_mark (marks_at v key) z) v.steps m (w.kept.noted z f ∙ h) (w.first z f) in
        let j : first_mark (marks_at s key) z ≡ Some v.steps = mark_stays c key z steps v s v.steps f t.1 q w.kept g in
        let p : unwrap_or (first_mark (marks_at s key) z) (s.steps + 1) ≡ v.steps = ap (λ (x : Option ℕ). unwrap_or x (s.steps + 1)) j in
        omega (arith, p, w.counted, first_one c u step steps key z h)
    by_held false h ih =
        let g : first_mark (marks_at v key) z ≡ None = not_noted (first_mark (marks_at v key) z) (w.kept.noted z f ∙ h) in
        omega (arith, ih g, w.counted, first_more c u step steps key z h)

-- the notes tell the step of every stamp of a register that the run leaves alone
pub marks_tell : (c : Config) (key : Key) (z : Carstamp) (steps : List Step) (s : State) → key.index < length c.registers → run c steps ≡ Some s → IsAlone key s.net → step_of_stamp c steps key z ≡ marked_step s key z
unfolding run Quiet
marks_tell c key z steps s l e a = by_opening (stamp_le z opening_stamp) refl
  where
    quiet : Quiet key s.net
    quiet m n = (proper_run c steps s e m, a m n)

    by_opening : (t : Bool) → stamp_le z opening_stamp ≡ t → (if t then 0 else first_held c (start c) steps key z) ≡ (if t then 0 else unwrap_or (first_mark (marks_at s key) z) (s.steps + 1))
    by_opening true f = refl
    by_opening false f =
        let h = marked_from c key z steps (start c) s f e quiet (kept_start c key l) (ap (λ (marks : List Mark). first_mark marks z) (start_unmarked c key)) in
        omega (arith, h)
