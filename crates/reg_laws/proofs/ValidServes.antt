-- What replicas serve keeps that all that stands in a state was stored.
use Rattle.std.proofs.Common.{◌≡◌, ℕ, ◌<◌, ◌≤◌, Bool, true, false, List, [], ◌∷◌, ◌++◌, All, map, length, get_or, Some, refl, ap, sym, ◌∙◌, subst, arith}
use Rattle.std.specs.Prelude.{⊤}
use Rattle.std.proofs.Math.ListN.{set}
use Rattle.std.proofs.lemmas.Bool.{cond_both}
use Rattle.std.proofs.lemmas.List.Elements.{All-cons, All-nil, All-head, All-set}
use Rattle.rss_names.specs.declared.service.Key.{Key}
use Rattle.rss_names.specs.declared.service.ServiceId.{ServiceId}
use Rattle.rss_names.specs.declared.service.Target.{Target}
use Rattle.rss_names.specs.declared.service.Target.TheVariants.{Shard, Replica}
use Rattle.rss_names.specs.Services.{same_service}
use Rattle.causal_context.specs.declared.dep.Dep.{Dep}
use Rattle.pipeline_lang.specs.declared.config.Config.{Config}
use Rattle.rss_wire.specs.Messages.{message_at}
use Rattle.rss_wire.specs.declared.message.Body.TheVariants as body
use Rattle.rss_wire.specs.declared.message.Message.{Message}
use Rattle.rss_wire.specs.declared.messages.RegReply.{RegReply}
use Rattle.rss_wire.specs.declared.messages.Reply.{Reply}
use Rattle.rss_wire.specs.declared.messages.Reply.TheVariants as reply
use Rattle.rss_wire.specs.declared.messages.Request.{Request}
use Rattle.rss_wire.specs.declared.messages.Request.TheVariants as request
use Rattle.rss_tables.specs.RegisterSession.{reply_cell}
use Rattle.rss_machine.specs.Moves.{serves_replica, notes_served}
use Rattle.rss_machine.specs.State.{State, Owner, owner_at, no_owner}
use Rattle.world_laws.proofs.Looks.{some_is, none_is_not}
use Rattle.world_laws.proofs.Sent.{sent_meets, sent_answers}
use Rattle.std.proofs.Common.{◌-◌, ◌⊎◌, inl, inr}
use Rattle.std.specs.Prelude.{◌==◌, if◌then◌else◌}
use Rattle.std.proofs.lemmas.Bool.{eqb-true}
use Rattle.std.proofs.lemmas.List.{get_or-set_same}
use Rattle.rss_wire.specs.declared.message.Fate.{Fate}
use Rattle.rss_wire.specs.declared.message.Fate.TheVariants.{Pending}
use Rattle.world_laws.proofs.Looks.{get_or_set}
use Rattle.std.proofs.Math.ListN.{length-set}
use Rattle.std.proofs.lemmas.List.Elements.{All-tail}
use Rattle.std.proofs.lemmas.Bool.{and_parts}
use Rattle.std.specs.List.{list_all}
use Rattle.carstamps.specs.declared.carstamp.Carstamp.{Carstamp}
use Rattle.carstamps.specs.Stamp.{stamp_lt}
use Rattle.rss_wire.specs.declared.message.Body.{Body}
use Rattle.rss_wire.specs.Messages.{reply_envelope}
use Rattle.rss_tables.specs.ReplicaRow.{held_at, dep_cell, opening_cell, accept, accept_all, replica_after, replica_reply}
use Rattle.rss_tables.specs.ShardRow.{shard_reply}
use Rattle.rss_machine.specs.Moves.{marks_message, serves_shard}
use Rattle.rss_machine.specs.State.{service_index, cells_at, shard_at}
use Rattle.world_laws.specs.Proper.{registers_of, are_kept_by, is_proper_body}
use Rattle.world_laws.specs.Registers.{IsRegister}
use Rattle.world_laws.proofs.Contexts.{set_copies}
use Rattle.world_laws.proofs.FileRegisters.{same_number}
use Rattle.world_laws.proofs.Marked.{key_with, same_service_is}
use Rattle.world_laws.proofs.Named.{RequestOn}
use Rattle.world_laws.proofs.Replies.{place, old_message}
use Rattle.world_laws.proofs.StoreMoves.{Serves}
use Rattle.reg_laws.specs.Stored.{WasStored, IsValid, DepIsValid}
use Rattle.rss_machine.specs.Marks.{is_store}
use Rattle.world_laws.specs.Own.{is_own_body}
use Rattle.reg_laws.proofs.Awaiting.{set_each}
use Rattle.reg_laws.proofs.Base.{Known, sound_of, named_of, fine_of, owned_of}
use Rattle.reg_laws.proofs.Hearing.{session_valid}
use Rattle.reg_laws.proofs.Valid.{grows_more, grows_meets, stored_grows, Grown, fix_grows, asks_about, OwnerValid, FixValid, RequestValid, ValidIn, Valid, valid_more}
use Rattle.reg_laws.proofs.ValidSends.{replies_stay, replies_meet}

-- what a replica holds of a register, after it has accepted
pub accept_holds : (G : RegReply → Type 0) (cells : List RegReply) (other key : Key) (cell : RegReply) → G (held_at cells key) → (other.index ≡ key.index → G cell) → G (held_at (accept cells other cell) key)
accept_holds G cells other key cell h f = cond_both (stamp_lt (held_at cells other).stamp cell.stamp) (set cells other.index cell) cells (λ (xs : List RegReply). G (held_at xs key)) (λ t. by_place (get_or_set cells other.index cell key.index opening_cell)) (λ t. h)
  where
    by_place : ((get_or (set cells other.index cell) key.index opening_cell ≡ cell) × (key.index ≡ other.index) × (other.index < length cells)) ⊎ ((get_or (set cells other.index cell) key.index opening_cell ≡ get_or cells key.index opening_cell) × ((key.index ≡ other.index → ⊥) ⊎ (length cells ≤ key.index))) → G (held_at (set cells other.index cell) key)
    by_place (inl e) = subst G (sym e.0) (f (sym e.1))
    by_place (inr e) = subst G (sym e.0) h

abbrev pub Fitting : (RegReply → Type 0) → Key → Dep → Type 0
Fitting G key dep = dep.key.index ≡ key.index → G (dep_cell dep)

accept_all_holds : (G : RegReply → Type 0) (key : Key) (deps : List Dep) (cells : List RegReply) → G (held_at cells key) → All (Fitting G key) deps → G (held_at (accept_all cells deps) key)
accept_all_holds G key [] cells h a = h
accept_all_holds G key (dep ∷ deps) cells h a =
    accept_all_holds G key deps (accept cells dep.key (dep_cell dep)) (accept_holds G cells dep.key key (dep_cell dep) h (All-head (Fitting G key) dep deps a)) (All-tail (Fitting G key) dep deps a)

-- what a request brings of a register
abbrev pub Brings : (RegReply → Type 0) → Key → Request → Type 0
Brings G key (request.Store other value stamp writer) = other.index ≡ key.index → G (record { value = value; stamp = stamp; writer = writer })
Brings G key (request.Fix deps) = All (Fitting G key) deps
Brings G key (request.Ask other) = ⊤
Brings G key (request.Stamp other) = ⊤
Brings G key (request.Lock attempt coordinator reads writes) = ⊤
Brings G key (request.Prepare attempt least earliest_end writes) = ⊤
Brings G key (request.Decide attempt commit time) = ⊤
Brings G key (request.Commit attempt commit_time) = ⊤
Brings G key (request.Abort attempt) = ⊤
Brings G key (request.Inquire attempt) = ⊤
Brings G key (request.Release attempt time last) = ⊤
Brings G key (request.Snapshot read_time least keys skip) = ⊤

pub after_holds : (G : RegReply → Type 0) (key : Key) (cells : List RegReply) (r : Request) → G (held_at cells key) → Brings G key r → G (held_at (replica_after cells r) key)
unfolding replica_after
after_holds G key cells (request.Store other value stamp writer) h f = accept_holds G cells other key (record { value = value; stamp = stamp; writer = writer }) h f
after_holds G key cells (request.Fix deps) h f = accept_all_holds G key deps cells h f
after_holds G key cells (request.Ask other) h f = h
after_holds G key cells (request.Stamp other) h f = h
after_holds G key cells (request.Lock attempt coordinator reads writes) h f = h
after_holds G key cells (request.Prepare attempt least earliest_end writes) h f = h
after_holds G key cells (request.Decide attempt commit time) h f = h
after_holds G key cells (request.Commit attempt commit_time) h f = h
after_holds G key cells (request.Abort attempt) h f = h
after_holds G key cells (request.Inquire attempt) h f = h
after_holds G key cells (request.Release attempt time last) h f = h
after_holds G key cells (request.Snapshot read_time least keys skip) h f = h

-- registers of the file of one number are the same
same_register : (c : Config) (a b : Key) → IsRegister c a → IsRegister c b → a.index ≡ b.index → a ≡ b
same_register c a b g h e =
    let f : a.service ≡ b.service = same_number c a b g h e in
    let p : a ≡ key_with b.service a.index = ap (λ (x : ServiceId). key_with x a.index) f in
    let q : key_with b.service a.index ≡ b = ap (λ (n : ℕ). key_with b.service n) e in
    p ∙ q

-- a request that a replica serves brings what was stored
brings : (c : Config) (known : State) (key : Key) (r : Request) → IsRegister c key → All (IsRegister c) (registers_of r) → FixValid known r → ((other : Key) (value writer : ℕ) (stamp : Carstamp) → r ≡ request.Store other value stamp writer → IsValid known other (record { value = value; stamp = stamp; writer = writer })) → Brings (IsValid known key) key r
brings c known key (request.Store other value stamp writer) g k v f =
    λ e. subst (λ (x : Key). IsValid known x (record { value = value; stamp = stamp; writer = writer })) (same_register c other key (All-head (IsRegister c) other [] k) g e) (f other value writer stamp refl)
brings c known key (request.Fix deps) g k v f = fitting deps k v
  where
    fitting : (deps : List Dep) → All (IsRegister c) (map (λ (dep : Dep). dep.key) deps) → All (DepIsValid known) deps → All (Fitting (IsValid known key) key) deps
    fitting [] k v = All-nil (Fitting (IsValid known key) key)
    fitting (dep ∷ deps) k v =
        All-cons (Fitting (IsValid known key) key) dep deps
        (λ e. subst (λ (x : Key). IsValid known x (dep_cell dep)) (same_register c dep.key key (All-head (IsRegister c) dep.key (map (λ (d : Dep). d.key) deps) k) g e) (All-head (DepIsValid known) dep deps v))
        (fitting deps (All-tail (IsRegister c) dep.key (map (λ (d : Dep). d.key) deps) k) (All-tail (DepIsValid known) dep deps v))
brings c known key (request.Ask other) g k v f = tt
brings c known key (request.Stamp other) g k v f = tt
brings c known key (request.Lock attempt coordinator reads writes) g k v f = tt
brings c known key (request.Prepare attempt least earliest_end writes) g k v f = tt
brings c known key (request.Decide attempt commit time) g k v f = tt
brings c known key (request.Commit attempt commit_time) g k v f = tt
brings c known key (request.Abort attempt) g k v f = tt
brings c known key (request.Inquire attempt) g k v f = tt
brings c known key (request.Release attempt time last) g k v f = tt
brings c known key (request.Snapshot read_time least keys skip) g k v f = tt

-- one replica of one service in the place of what it was
pub placed : (G : List RegReply → Type 0) (all : List (List (List RegReply))) (x i : ℕ) (cells : List RegReply) (y j : ℕ) → G (get_or (get_or all y []) j []) → (y ≡ x → j ≡ i → G cells) → G (get_or (get_or (set all x (set (get_or all x []) i cells)) y []) j [])
placed G all x i cells y j h f = by_service (get_or_set all x (set (get_or all x []) i cells) y [])
  where
    by_service : ((get_or (set all x (set (get_or all x []) i cells)) y [] ≡ set (get_or all x []) i cells) × (y ≡ x) × (x < length all)) ⊎ ((get_or (set all x (set (get_or all x []) i cells)) y [] ≡ get_or all y []) × ((y ≡ x → ⊥) ⊎ (length all ≤ y))) → G (get_or (get_or (set all x (set (get_or all x []) i cells)) y []) j [])
    by_service (inr e) = subst (λ (rows : List (List RegReply)). G (get_or rows j [])) (sym e.0) h
    by_service (inl e) = subst (λ (rows : List (List RegReply)). G (get_or rows j [])) (sym e.0) (by_replica (get_or_set (get_or all x []) i cells j []))
      where
        by_replica : ((get_or (set (get_or all x []) i cells) j [] ≡ cells) × (j ≡ i) × (i < length (get_or all x []))) ⊎ ((get_or (set (get_or all x []) i cells) j [] ≡ get_or (get_or all x []) j []) × ((j ≡ i → ⊥) ⊎ (length (get_or all x []) ≤ j))) → G (get_or (set (get_or all x []) i cells) j [])
        by_replica (inl d) = subst G (sym d.0) (f e.1 d.1)
        by_replica (inr d) = subst G (sym d.0) (subst (λ (n : ℕ). G (get_or (get_or all n []) j [])) e.1 h)

-- what a replica shows it holds
shown_held : (cells : List RegReply) (q : Request) (key : Key) (value writer : ℕ) (stamp : Carstamp) → asks_about q ≡ Some key → replica_reply cells q ≡ reply.Held value stamp writer → held_at cells key ≡ record { value = value; stamp = stamp; writer = writer }
unfolding replica_reply
shown_held cells (request.Ask k) key value writer stamp a e = ap (λ (x : Key). held_at cells x) (sym (some_is k key a)) ∙ cell_shown (held_at cells k) value writer stamp e
  where
    cell_shown : (cell : RegReply) (value writer : ℕ) (stamp : Carstamp) → reply.Held cell.value cell.stamp cell.writer ≡ reply.Held value stamp writer → cell ≡ record { value = value; stamp = stamp; writer = writer }
    cell_shown cell value writer stamp e = ap reply_cell e
shown_held cells (request.Stamp k) key value writer stamp a e = ap (λ (x : Key). held_at cells x) (sym (some_is k key a)) ∙ cell_shown (held_at cells k) value writer stamp e
  where
    cell_shown : (cell : RegReply) (value writer : ℕ) (stamp : Carstamp) → reply.Held cell.value cell.stamp cell.writer ≡ reply.Held value stamp writer → cell ≡ record { value = value; stamp = stamp; writer = writer }
    cell_shown cell value writer stamp e = ap reply_cell e
shown_held cells (request.Store k v z w) key value writer stamp a e = absurd (stored_not_held value writer stamp e)
  where
    stored_not_held : (value writer : ℕ) (stamp : Carstamp) → reply.Stored ≡ reply.Held value stamp writer → ⊥
    stored_not_held value writer stamp e = cc
shown_held cells (request.Fix deps) key value writer stamp a e = absurd (none_is_not key a)
shown_held cells (request.Lock attempt coordinator reads writes) key value writer stamp a e = absurd (none_is_not key a)
shown_held cells (request.Prepare attempt least earliest_end writes) key value writer stamp a e = absurd (none_is_not key a)
shown_held cells (request.Decide attempt commit time) key value writer stamp a e = absurd (none_is_not key a)
shown_held cells (request.Commit attempt commit_time) key value writer stamp a e = absurd (none_is_not key a)
shown_held cells (request.Abort attempt) key value writer stamp a e = absurd (none_is_not key a)
shown_held cells (request.Inquire attempt) key value writer stamp a e = absurd (none_is_not key a)
shown_held cells (request.Release attempt time last) key value writer stamp a e = absurd (none_is_not key a)
shown_held cells (request.Snapshot read_time least keys skip) key value writer stamp a e = absurd (none_is_not key a)

-- what a request asks about it names
pub about_named : (Q : Key → Type 0) (q : Request) (key : Key) → asks_about q ≡ Some key → All Q (registers_of q) → Q key
about_named Q (request.Ask k) key a h = subst Q (some_is k key a) (All-head Q k [] h)
about_named Q (request.Stamp k) key a h = subst Q (some_is k key a) (All-head Q k [] h)
about_named Q (request.Store k v z w) key a h = subst Q (some_is k key a) (All-head Q k [] h)
about_named Q (request.Fix deps) key a h = absurd (none_is_not key a)
about_named Q (request.Lock attempt coordinator reads writes) key a h = absurd (none_is_not key a)
about_named Q (request.Prepare attempt least earliest_end writes) key a h = absurd (none_is_not key a)
about_named Q (request.Decide attempt commit time) key a h = absurd (none_is_not key a)
about_named Q (request.Commit attempt commit_time) key a h = absurd (none_is_not key a)
about_named Q (request.Abort attempt) key a h = absurd (none_is_not key a)
about_named Q (request.Inquire attempt) key a h = absurd (none_is_not key a)
about_named Q (request.Release attempt time last) key a h = absurd (none_is_not key a)
about_named Q (request.Snapshot read_time least keys skip) key a h = absurd (none_is_not key a)

-- registers that are kept by a service, by the test and each by itself
pub each_kept : (id : ServiceId) (keys : List Key) → are_kept_by id keys ≡ true → All (λ (k : Key). id ≡ k.service) keys
unfolding are_kept_by
each_kept id [] e = All-nil (λ (k : Key). id ≡ k.service)
each_kept id (key ∷ keys) e =
    let p = and_parts (same_service id key.service) (list_all (λ (k : Key). same_service id k.service) keys) e in
    All-cons (λ (k : Key). id ≡ k.service) key keys (same_service_is id key.service p.0) (each_kept id keys p.1)

-- a request that is served is of the file's registers, and of the replica's service
pub record ServedWell (c : Config) (s : State) (owner : ℕ) (id : ServiceId) (r : Request) : Type 0 where
  pub registers : All (IsRegister c) (registers_of r)
  pub kept : All (λ (k : Key). id ≡ k.service) (registers_of r)
  pub fixes : FixValid s r
  pub there : owner < length s.owners

pub served_well : (c : Config) (s : State) (m replica : ℕ) (id : ServiceId) (r : Request) → Serves s m r (Replica id replica) → Known c s → Valid c s → ServedWell c s (message_at s.net m).envelope.owner id r
served_well c s m replica id r d g h = record {
  registers = subst (λ (t : Target). RequestOn (IsRegister c) (message_at s.net m).envelope.owner t r) d.to ((named_of c s g).messages.each m r d.asks);
  kept = each_kept id (registers_of r) (subst (λ (t : Target). is_proper_body t (body.Request r) ≡ true) d.to (subst (λ (b : Body). is_proper_body (message_at s.net m).envelope.target b ≡ true) d.asks ((fine_of c s g).messages m)));
  fixes = valid.0;
  there = valid.1;
}
  where
    valid : FixValid s r × ((message_at s.net m).envelope.owner < length s.owners)
    valid = subst (λ (t : Target). RequestValid s (message_at s.net m).envelope.owner t r) d.to (h.messages.each m r d.asks)

-- what a served request notes
pub flag_notes : (s : State) (o : ℕ) (id : ServiceId) (r : Request) (i : ℕ) → (owner_at s i).stored ≡ true → (owner_at (notes_served s o id r) i).stored ≡ true
flag_notes s o id r = set_each (λ i v. (owner_at s i).stored ≡ true → v.stored ≡ true) s.owners o _ (λ e. kept_flag (is_store r) (owner_at s o).stored e) (λ i e. e)
  where
    kept_flag : (b f : Bool) → f ≡ true → (if b then true else f) ≡ true
    kept_flag true f e = refl
    kept_flag false f e = e

pub flag_noted : (s : State) (o : ℕ) (id : ServiceId) (r : Request) → o < length s.owners → is_store r ≡ true → (owner_at (notes_served s o id r) o).stored ≡ true
flag_noted s o id r i e =
    ap (λ (v : Owner). v.stored) (get_or-set_same s.owners o (record (owner_at s o) { stored = if is_store r then true else (owner_at s o).stored }) no_owner i) ∙ ap (λ (b : Bool). if b then true else (owner_at s o).stored) e

-- a replica serves a request
pub valid_serves : (c : Config) (s : State) (m replica : ℕ) (id : ServiceId) (r : Request) → Serves s m r (Replica id replica) → Known c s → Valid c s → Valid c (notes_served (serves_replica s m id replica r) (message_at s.net m).envelope.owner id r)
valid_serves c s m replica id r d g h = record {
  owners = All-set (OwnerValid t) s.owners o _ (session_valid c t s o k) k.owners;
  deps = record { stages = k.deps.stages; pipes = k.deps.pipes; copies = set_copies (DepIsValid t) s o _ refl k.deps };
  messages = sent_answers (RequestValid t) s.net m _ k.messages;
  replies = replies_stay t s.net x (sound_of c s g).sound k.replies shown;
  replicas = record {
    each = λ key place i. placed (λ cells. IsValid t key (held_at cells key)) s.replicas (service_index id) (replica - 1) (replica_after (cells_at s id replica) r) (service_index key.service) place (k.replicas.each key place i)
        (λ e f. after_holds (IsValid t key) key (cells_at s id replica) r
        (subst (λ (n : ℕ). IsValid t key (held_at (get_or (get_or s.replicas n []) (replica - 1) []) key)) e (subst (λ (j : ℕ). IsValid t key (held_at (get_or (get_or s.replicas (service_index key.service) []) j []) key)) f (k.replicas.each key place i)))
        (brings c t key r i well.registers (fix_grows s t grown r well.fixes) stored));
  };
}
  where
    o : ℕ
    o = (message_at s.net m).envelope.owner

    x : Message
    x = record { envelope = reply_envelope s.net m; body = body.Reply (replica_reply (cells_at s id replica) r); fate = Pending }

    t : State
    t = notes_served (serves_replica s m id replica r) o id r

    grown : Grown s t
    grown = record {
      nets = grows_more s.net x;
      owners = let l = length-set s.owners o (record (owner_at s o) { stored = if is_store r then true else (owner_at s o).stored }) in omega (arith, l);
      handled = λ i e. flag_notes (serves_replica s m id replica r) o id r i e;
    }

    k : ValidIn c t s
    k = valid_more c s t s grown h

    well : ServedWell c s o id r
    well = served_well c s m replica id r d g h

    reply_same : (a b : Reply) → body.Reply a ≡ body.Reply b → a ≡ b
    reply_same a b e = cc

    request_same : (a b : Request) → body.Request a ≡ body.Request b → a ≡ b
    request_same a b e = cc

    -- a store that is served is one that was sent, and it is noted
    stored : (other : Key) (value writer : ℕ) (stamp : Carstamp) → r ≡ request.Store other value stamp writer → IsValid t other (record { value = value; stamp = stamp; writer = writer })
    stored other value writer stamp e =
        let was : WasStored s.net other (record { value = value; stamp = stamp; writer = writer }) = record { number = m; sent = d.sent; service = id; replica = replica; target = d.to; says = d.asks ∙ ap body.Request e } in
        let own : is_own_body o (Replica id replica) (body.Request (request.Store other value stamp writer)) ≡ true = subst (λ (b : Body). is_own_body o (Replica id replica) b ≡ true) (d.asks ∙ ap body.Request e) (subst (λ (v : Target). is_own_body o v (message_at s.net m).body ≡ true) d.to ((owned_of c s g).messages m)) in
        let by : writer ≡ o = eqb-true writer o (and_parts (writer == o) (stamp.call == o) own).0 in
        inr (record {
          stored = stored_grows s.net t.net other (record { value = value; stamp = stamp; writer = writer }) grown.nets was;
          handled = subst (λ (n : ℕ). (owner_at t n).stored ≡ true) (sym by) (flag_noted (serves_replica s m id replica r) o id r well.there (ap is_store e));
        })

    shown : (value writer place : ℕ) (stamp : Carstamp) (service : ServiceId) (q : Request) (key : Key) → x.envelope.target ≡ Replica service place → x.body ≡ body.Reply (reply.Held value stamp writer) → (message_at (s.net ++ x ∷ []) x.envelope.exchange).body ≡ body.Request q → asks_about q ≡ Some key → IsValid t key (record { value = value; stamp = stamp; writer = writer })
    shown value writer place stamp service q key l b a e =
        let same : r ≡ q = request_same r q (sym d.asks ∙ (sym (ap (λ (v : Message). v.body) (old_message s.net x m d.sent)) ∙ a)) in
        let about : asks_about r ≡ Some key = ap asks_about same ∙ e in
        let i : IsRegister c key = about_named (IsRegister c) r key about well.registers in
        let j : id ≡ key.service = about_named (λ (v : Key). id ≡ v.service) r key about well.kept in
        let held : held_at (cells_at s id replica) key ≡ record { value = value; stamp = stamp; writer = writer } = shown_held (cells_at s id replica) r key value writer stamp about (reply_same _ _ b) in
        subst (IsValid t key) held (subst (λ (v : ServiceId). IsValid t key (held_at (get_or (get_or s.replicas (service_index v) []) (replica - 1) []) key)) (sym j) (k.replicas.each key (replica - 1) i))

pub valid_shards : (c : Config) (s : State) (m shard latest : ℕ) (r : Request) → Serves s m r (Shard shard) → Known c s → Valid c s → Valid c (serves_shard s m shard latest r)
valid_shards c s m shard latest r d g h = record {
  owners = k.owners;
  deps = record { stages = k.deps.stages; pipes = k.deps.pipes; copies = k.deps.copies };
  messages = sent_answers (RequestValid t) s.net m _ k.messages;
  replies = replies_stay t s.net x (sound_of c s g).sound k.replies (λ value writer place stamp service q key l b a e. absurd (shard_not_replica shard service place (sym d.to ∙ l)));
  replicas = k.replicas;
}
  where
    x : Message
    x = record { envelope = reply_envelope s.net m; body = body.Reply (shard_reply (shard_at s shard) latest r); fate = Pending }

    t : State
    t = serves_shard s m shard latest r

    k : ValidIn c t s
    k = valid_more c s t s (record { nets = grows_more s.net x; owners = omega arith; handled = λ i e. e }) h

    shard_not_replica : (n : ℕ) (service : ServiceId) (place : ℕ) → Shard n ≡ Replica service place → ⊥
    shard_not_replica n service place e = cc

pub valid_meets : (c : Config) (s : State) (m : ℕ) (f : Fate) → Valid c s → Valid c (marks_message s m f)
valid_meets c s m f h =
    let t = marks_message s m f in
    let k = valid_more c s t s (record { nets = grows_meets s.net m f; owners = omega arith; handled = λ i e. e }) h in
    record {
      owners = k.owners;
      deps = record { stages = k.deps.stages; pipes = k.deps.pipes; copies = k.deps.copies };
      messages = sent_meets (RequestValid t) s.net m f k.messages;
      replies = replies_meet t s.net m f k.replies;
      replicas = k.replicas;
    }
