-- What it is that each current exchange of an owner is awaited, and that the requests which an owner sends keep it so.
use Rattle.std.proofs.Common.{◌≡◌, ℕ, zero, suc, ◌<◌, ◌≤◌, Bool, true, false, List, [], ◌∷◌, ◌++◌, All, length, get_or, Option, Some, None, refl, ap, sym, ◌∙◌, subst, arith}
use Rattle.std.specs.Prelude.{⊤}
use Rattle.std.proofs.Math.ListN.{set}
use Rattle.rss_names.specs.declared.service.Target.{Target}
use Rattle.rss_names.specs.declared.service.Target.TheVariants.{Replica}
use Rattle.rss_wire.specs.Messages.{message_at}
use Rattle.rss_wire.specs.declared.message.Body.TheVariants as body
use Rattle.rss_wire.specs.declared.message.Message.{Message}
use Rattle.rss_tables.specs.Outs.{Out}
use Rattle.rss_tables.specs.RegisterSession.{RegSession}
use Rattle.rss_tables.specs.declared.register_session.RegWork.{RegWork}
use Rattle.rss_tables.specs.declared.register_session.RegWork.TheVariants as work
use Rattle.rss_machine.specs.Moves.{sends_one, sends}
use Rattle.rss_machine.specs.Session.{Session}
use Rattle.rss_machine.specs.State.{State, Owner, owner_at, no_owner}
use Rattle.rss_machine.specs.declared.session.Session.TheVariants as session
use Rattle.world_laws.proofs.Looks.{looks, some_is, none_is_not}
use Rattle.world_laws.proofs.Sent.{RoundOut, sends_each}
use Rattle.world_laws.proofs.SessionMoves.{session_at}
use Rattle.std.proofs.Common.{◌-◌, ◌⊎◌, inl, inr}
use Rattle.std.specs.Prelude.{◌==◌, if◌then◌else◌}
use Rattle.std.proofs.lemmas.Bool.{eqb-true}
use Rattle.std.proofs.lemmas.List.{get_or-set_same}
use Rattle.rss_wire.specs.declared.envelope.Envelope.{Envelope}
use Rattle.rss_wire.specs.declared.message.Fate.{Fate}
use Rattle.rss_wire.specs.declared.message.Fate.TheVariants.{Pending}
use Rattle.rss_wire.specs.Messages.{meets, asks, request_envelope, same_target}
use Rattle.rss_tables.specs.Outs.{slot_count, slot_replica, line_slot}
use Rattle.rss_machine.specs.Effect.{least_shard}
use Rattle.rss_machine.specs.Slots.{slot_in, slot_from, with_current, without_target, unless_with}
use Rattle.rss_machine.specs.State.{no_currents}
use Rattle.world_laws.proofs.Looks.{get_or_set, get_or_append, get_or_one, get_or_repeat, get_or_past}
use Rattle.world_laws.proofs.Replies.{meets_envelope, meets_body}
use Rattle.world_laws.proofs.RequestsProper.{sends_same}
use Rattle.reg_laws.specs.Awaited.{IsAsked, IsAwaited}

-- what is true of each owner by its number stays true where one changes, and where one begins
pub set_each : (Q : ℕ → Owner → Type 0) (xs : List Owner) (o : ℕ) (w : Owner) → Q o w → ((i : ℕ) → Q i (get_or xs i no_owner)) → (i : ℕ) → Q i (get_or (set xs o w) i no_owner)
set_each Q xs o w q h i = by_place (get_or_set xs o w i no_owner)
  where
    by_place : ((get_or (set xs o w) i no_owner ≡ w) × (i ≡ o) × (o < length xs)) ⊎ ((get_or (set xs o w) i no_owner ≡ get_or xs i no_owner) × ((i ≡ o → ⊥) ⊎ (length xs ≤ i))) → Q i (get_or (set xs o w) i no_owner)
    by_place (inl e) = subst (λ (j : ℕ). Q j (get_or (set xs o w) i no_owner)) (sym e.1) (subst (Q o) (sym e.0) q)
    by_place (inr e) = subst (Q i) (sym e.0) (h i)

pub grow_each : (Q : ℕ → Owner → Type 0) (xs : List Owner) (w : Owner) → Q (length xs) w → ((i : ℕ) → Q i (get_or xs i no_owner)) → (i : ℕ) → Q i (get_or (xs ++ w ∷ []) i no_owner)
grow_each Q xs w q h i = by_place (get_or_append xs (w ∷ []) i no_owner)
  where
    by_place : ((get_or (xs ++ w ∷ []) i no_owner ≡ get_or xs i no_owner) × (i < length xs)) ⊎ ((get_or (xs ++ w ∷ []) i no_owner ≡ get_or (w ∷ []) (i - length xs) no_owner) × (length xs ≤ i)) → Q i (get_or (xs ++ w ∷ []) i no_owner)
    by_place (inl e) = subst (Q i) (sym e.0) (h i)
    by_place (inr e) = by_one (get_or_one w (i - length xs) no_owner)
      where
        by_one : ((get_or (w ∷ []) (i - length xs) no_owner ≡ w) × (i - length xs ≡ 0)) ⊎ ((get_or (w ∷ []) (i - length xs) no_owner ≡ no_owner) × (0 < i - length xs)) → Q i (get_or (xs ++ w ∷ []) i no_owner)
        by_one (inl f) =
            let j : length xs ≡ i = let l = e.1 in let z = f.1 in omega (arith, l, z) in
            subst (Q i) (sym (e.0 ∙ f.0)) (subst (λ (n : ℕ). Q n w) j q)
        by_one (inr f) =
            let p : (i < length xs) ⊎ (get_or xs i no_owner ≡ no_owner) = get_or_past xs i no_owner in
            past p
          where
            past : (i < length xs) ⊎ (get_or xs i no_owner ≡ no_owner) → Q i (get_or (xs ++ w ∷ []) i no_owner)
            past (inl l) = absurd (let k = e.1 in omega (arith, k, l))
            past (inr p) = subst (Q i) (sym (e.0 ∙ (f.0 ∙ sym p))) (h i)

-- a message that was sent stays
asked_stays : (net net' : List Message) (o : ℕ) (r : RegSession) (slot m : ℕ) → length net ≤ length net' → (message_at net' m).envelope ≡ (message_at net m).envelope → (message_at net' m).body ≡ (message_at net m).body → IsAsked net o r slot m → IsAsked net' o r slot m
asked_stays net net' o r slot m l e b h = record {
  sent = let k = h.sent in omega (arith, k, l);
  owner = ap (λ (v : Envelope). v.owner) e ∙ h.owner;
  target = ap (λ (v : Envelope). v.target) e ∙ h.target;
  request = h.request;
  says = b ∙ h.says;
  within = h.within;
  of_phase = h.of_phase;
}

awaited_stays : (net net' : List Message) (o : ℕ) (x : Session) (slot m : ℕ) → ((r : RegSession) → IsAsked net o r slot m → IsAsked net' o r slot m) → IsAwaited net o x slot m → IsAwaited net' o x slot m
awaited_stays net net' o session.Idle slot m f h = h
awaited_stays net net' o (session.Fixing r) slot m f h = f r h
awaited_stays net net' o (session.Register r) slot m f h = f r h
awaited_stays net net' o (session.Transaction t) slot m f h = h
awaited_stays net net' o (session.Snapshot t) slot m f h = h
awaited_stays net net' o (session.Settling attempt shards) slot m f h = h

-- a round of dependencies stores dependencies
abbrev pub IsFix : RegWork → Type 0
IsFix (work.Fix deps) = ⊤
IsFix (work.Read key) = ⊥
IsFix (work.Write key value) = ⊥

abbrev pub FixesOnly : Session → Type 0
FixesOnly (session.Fixing r) = IsFix r.work
FixesOnly (session.Register r) = ⊤
FixesOnly session.Idle = ⊤
FixesOnly (session.Transaction t) = ⊤
FixesOnly (session.Snapshot t) = ⊤
FixesOnly (session.Settling attempt shards) = ⊤

-- an owner's current exchanges are awaited, and it has nothing under way where it waits or has not started
pub record OwnAwaited (net : List Message) (o : ℕ) (w : Owner) : Type 0 where
  pub awaited : (slot m : ℕ) → get_or w.currents slot None ≡ Some m → IsAwaited net o w.session slot m
  pub waiting : (time : ℕ) → w.works.wait ≡ Some time → w.session ≡ session.Idle
  pub unstarted : w.started ≡ false → (w.session ≡ session.Idle) × (w.works.wait ≡ None)
  pub fixes : FixesOnly w.session

pub record Awaiting (s : State) : Type 0 where
  pub each : (o : ℕ) → OwnAwaited s.net o (owner_at s o)

-- an owner between its works has nothing under way
pub record IsFree (w : Owner) : Type 0 where
  pub idle : w.session ≡ session.Idle
  pub begun : w.started ≡ true
  pub awake : w.works.wait ≡ None

abbrev pub AtRest : State → ℕ → Type 0
AtRest s o = Awaiting s × IsFree (owner_at s o)

pub own_stays : (net net' : List Message) (o : ℕ) (w : Owner) → ((r : RegSession) (slot m : ℕ) → IsAsked net o r slot m → IsAsked net' o r slot m) → OwnAwaited net o w → OwnAwaited net' o w
own_stays net net' o w f h = record {
  awaited = λ slot m e. awaited_stays net net' o w.session slot m (λ r. f r slot m) (h.awaited slot m e);
  waiting = h.waiting;
  unstarted = h.unstarted;
  fixes = h.fixes;
}

more_asked : (net : List Message) (x : Message) (o : ℕ) (r : RegSession) (slot m : ℕ) → IsAsked net o r slot m → IsAsked (net ++ x ∷ []) o r slot m
more_asked net x o r slot m h =
    let l = h.sent in
    let e : message_at (net ++ x ∷ []) m ≡ message_at net m = grind (arith, looks, l) in
    asked_stays net (net ++ x ∷ []) o r slot m (grind (arith, looks)) (ap (λ (y : Message). y.envelope) e) (ap (λ (y : Message). y.body) e) h

pub meets_asked : (net : List Message) (n : ℕ) (f : Fate) (o : ℕ) (r : RegSession) (slot m : ℕ) → IsAsked net o r slot m → IsAsked (meets net n f) o r slot m
meets_asked net n f o r slot m h = asked_stays net (meets net n f) o r slot m (grind (arith, looks)) (meets_envelope net n f m) (meets_body net n f m) h

pub awaiting_more : (s : State) (x : Message) → Awaiting s → (o : ℕ) → OwnAwaited (s.net ++ x ∷ []) o (owner_at s o)
awaiting_more s x h o = own_stays s.net (s.net ++ x ∷ []) o (owner_at s o) (more_asked s.net x o) (h.each o)

-- nobody is awaited where there are no current exchanges
pub none_current : (slot m : ℕ) → get_or no_currents slot None ≡ Some m → ⊥
none_current slot m e = by_place (get_or_repeat slot_count None slot None)
  where
    by_place : ((get_or no_currents slot None ≡ None) × (slot < slot_count)) ⊎ ((get_or no_currents slot None ≡ None) × (slot_count ≤ slot)) → ⊥
    by_place (inl a) = none_is_not m (sym a.0 ∙ e)
    by_place (inr a) = none_is_not m (sym a.0 ∙ e)

pub idle_current : (net : List Message) (o : ℕ) (w : Owner) (slot m : ℕ) → OwnAwaited net o w → w.session ≡ session.Idle → get_or w.currents slot None ≡ Some m → ⊥
idle_current net o w slot m h i e = subst (λ (x : Session). IsAwaited net o x slot m) i (h.awaited slot m e)

-- the requests that an owner sends are what it awaits
abbrev pub OutFits : Session → Out → Type 0
OutFits session.Idle out = ⊥
OutFits (session.Fixing r) out = RoundOut r out
OutFits (session.Register r) out = RoundOut r out
OutFits (session.Transaction t) out = ⊤
OutFits (session.Snapshot t) out = ⊤
OutFits (session.Settling attempt shards) out = (slot : ℕ) → out.slot ≡ Some slot → slot ≡ line_slot (least_shard shards)

round_awaited : (net : List Message) (o n : ℕ) (r : RegSession) (out : Out) (slot : ℕ) → RoundOut r out → out.slot ≡ Some slot → IsAsked (asks net o n out.target out.request) o r slot (length net)
round_awaited net o n r out slot d e =
    let x : Message = record { envelope = request_envelope net o n out.target; body = body.Request out.request; fate = Pending } in
    let q : message_at (net ++ x ∷ []) (length net) ≡ x = grind (arith, looks) in
    let k : d.replica - 1 ≡ slot = some_is (d.replica - 1) slot (sym d.slot ∙ e) in
    let l : d.replica ≡ slot_replica slot = let one = d.from_one in omega (arith, k, one) in
    record {
      sent = grind (arith, looks);
      owner = ap (λ (y : Message). y.envelope.owner) q;
      target = ap (λ (y : Message). y.envelope.target) q ∙ (d.target ∙ ap (λ (i : ℕ). Replica r.service i) l);
      request = out.request;
      says = ap (λ (y : Message). y.body) q;
      within = let n = d.within in let one = d.from_one in omega (arith, k, n, one);
      of_phase = d.asked;
    }

new_awaited : (net : List Message) (o n : ℕ) (x : Session) (out : Out) (slot : ℕ) → OutFits x out → out.slot ≡ Some slot → IsAwaited (asks net o n out.target out.request) o x slot (length net)
new_awaited net o n session.Idle out slot d e = d
new_awaited net o n (session.Fixing r) out slot d e = round_awaited net o n r out slot d e
new_awaited net o n (session.Register r) out slot d e = round_awaited net o n r out slot d e
new_awaited net o n (session.Transaction t) out slot d e = tt
new_awaited net o n (session.Snapshot t) out slot d e = tt
new_awaited net o n (session.Settling attempt shards) out slot d e = d slot e

-- a current exchange is the new one of a slot, or an older one
pub current_more : (cs : List (Option ℕ)) (q : Option ℕ) (m slot j : ℕ) → get_or (with_current cs q m) slot None ≡ Some j → ((j ≡ m) × (q ≡ Some slot)) ⊎ (get_or cs slot None ≡ Some j)
current_more cs None m slot j e = inr e
current_more cs (Some k) m slot j e = by_place (get_or_set cs k (Some m) slot None)
  where
    by_place : ((get_or (set cs k (Some m)) slot None ≡ Some m) × (slot ≡ k) × (k < length cs)) ⊎ ((get_or (set cs k (Some m)) slot None ≡ get_or cs slot None) × ((slot ≡ k → ⊥) ⊎ (length cs ≤ slot))) → ((j ≡ m) × (Some k ≡ Some slot)) ⊎ (get_or cs slot None ≡ Some j)
    by_place (inl f) = inl (some_is j m (sym e ∙ f.0), ap Some (sym f.1))
    by_place (inr f) = inr (sym f.0 ∙ e)

-- a slot that was heard has no current exchange, and the others keep theirs
pub current_less : (cs : List (Option ℕ)) (k slot j : ℕ) → get_or (set cs k None) slot None ≡ Some j → (get_or cs slot None ≡ Some j) × (slot ≡ k → ⊥)
current_less cs k slot j e = by_place (get_or_set cs k None slot None)
  where
    by_place : ((get_or (set cs k None) slot None ≡ None) × (slot ≡ k) × (k < length cs)) ⊎ ((get_or (set cs k None) slot None ≡ get_or cs slot None) × ((slot ≡ k → ⊥) ⊎ (length cs ≤ slot))) → (get_or cs slot None ≡ Some j) × (slot ≡ k → ⊥)
    by_place (inl f) = absurd (none_is_not j (sym f.0 ∙ e))
    by_place (inr f) = (sym f.0 ∙ e, apart f.1)
      where
        apart : (slot ≡ k → ⊥) ⊎ (length cs ≤ slot) → slot ≡ k → ⊥
        apart (inl n) = n
        apart (inr l) = λ g. past (get_or_past cs slot None)
          where
            past : (slot < length cs) ⊎ (get_or cs slot None ≡ None) → ⊥
            past (inl i) = absurd (omega (arith, i, l))
            past (inr p) = none_is_not j (sym p ∙ (sym f.0 ∙ e))

-- the slot of a current exchange
slot_is : (cs : List (Option ℕ)) (from exchange slot : ℕ) → slot_from from cs exchange ≡ Some slot → (from ≤ slot) × (get_or cs (slot - from) None ≡ Some exchange)
slot_is [] from exchange slot e = absurd (none_is_not slot e)
slot_is (None ∷ cs) from exchange slot e =
    let r = slot_is cs (suc from) exchange slot e in
    let l = r.0 in
    let n : slot - from ≡ suc (slot - suc from) = omega (arith, l) in
    (omega (arith, l), ap (λ (i : ℕ). get_or (None ∷ cs) i None) n ∙ r.1)
slot_is (Some m ∷ cs) from exchange slot e = by_same (m == exchange) refl e (slot_is cs (suc from) exchange slot)
  where
    by_same : (t : Bool) → (m == exchange) ≡ t → (if t then Some from else slot_from (suc from) cs exchange) ≡ Some slot → (slot_from (suc from) cs exchange ≡ Some slot → (suc from ≤ slot) × (get_or cs (slot - suc from) None ≡ Some exchange)) → (from ≤ slot) × (get_or (Some m ∷ cs) (slot - from) None ≡ Some exchange)
    by_same true f e ih =
        let g : from ≡ slot = some_is from slot e in
        let n : slot - from ≡ 0 = omega (arith, g) in
        (omega (arith, g), ap (λ (i : ℕ). get_or (Some m ∷ cs) i None) n ∙ ap Some (eqb-true m exchange f))
    by_same false f e ih =
        let r = ih e in
        let l = r.0 in
        let n : slot - from ≡ suc (slot - suc from) = omega (arith, l) in
        (omega (arith, l), ap (λ (i : ℕ). get_or (Some m ∷ cs) i None) n ∙ r.1)

pub slot_current : (cs : List (Option ℕ)) (exchange slot : ℕ) → slot_in cs exchange ≡ Some slot → get_or cs slot None ≡ Some exchange
slot_current cs exchange slot e = let n : slot ≡ slot - 0 = omega arith in ap (λ (i : ℕ). get_or cs i None) n ∙ (slot_is cs 0 exchange slot e).1

-- no current exchange with a target that was cut off
pub current_without : (net : List Message) (target : Target) (cs : List (Option ℕ)) (slot j : ℕ) → get_or (without_target net target cs) slot None ≡ Some j → get_or cs slot None ≡ Some j
current_without net target [] slot j e = e
current_without net target (q ∷ cs) (suc slot) j e = current_without net target cs slot j e
current_without net target (q ∷ cs) zero j e = by_current q e
  where
    by_same : (m : ℕ) (t : Bool) → (if t then None else Some m) ≡ Some j → Some m ≡ Some j
    by_same m true f = absurd (none_is_not j f)
    by_same m false f = f

    by_current : (q : Option ℕ) → unless_with net target q ≡ Some j → q ≡ Some j
    by_current None f = f
    by_current (Some m) f = by_same m (same_target (message_at net m).envelope.target target) f

-- requests that are sent
pub awaits_one : (o : ℕ) (s : State) (out : Out) → OutFits (session_at s o) out → Awaiting s → Awaiting (sends_one s o out)
awaits_one o s out d h = record { each = set_each (OwnAwaited net) s.owners o w own (awaiting_more s x h) }
  where
    x : Message
    x = record { envelope = request_envelope s.net o (owner_at s o).stage out.target; body = body.Request out.request; fate = Pending }

    net : List Message
    net = s.net ++ x ∷ []

    w : Owner
    w = record (owner_at s o) { currents = with_current (owner_at s o).currents out.slot (length s.net) }

    before : OwnAwaited net o (owner_at s o)
    before = awaiting_more s x h o

    own : OwnAwaited net o w
    own = record {
      awaited = λ slot m e. by_current slot m (current_more (owner_at s o).currents out.slot (length s.net) slot m e);
      waiting = before.waiting;
      unstarted = before.unstarted;
      fixes = before.fixes;
    }
      where
        by_current : (slot m : ℕ) → ((m ≡ length s.net) × (out.slot ≡ Some slot)) ⊎ (get_or (owner_at s o).currents slot None ≡ Some m) → IsAwaited net o (session_at s o) slot m
        by_current slot m (inl e) = subst (λ (n : ℕ). IsAwaited net o (session_at s o) slot n) (sym e.0) (new_awaited s.net o (owner_at s o).stage (session_at s o) out slot d e.1)
        by_current slot m (inr e) = before.awaited slot m e

pub awaits_sends : (o : ℕ) (x : Session) (outs : List Out) (s : State) → All (OutFits x) outs → session_at s o ≡ x → Awaiting s → Awaiting (sends s o outs)
awaits_sends o x outs s a e h =
    (sends_each (λ t. Awaiting t × (session_at t o ≡ x)) (OutFits x) o (λ t out d p. (awaits_one o t out (subst (λ (y : Session). OutFits y out) (sym p.1) d) p.0, sends_same t o out o ∙ p.1)) outs s a (h, e)).0

-- an owner in the place of what it was, or behind the others
pub awaiting_set : (s t : State) (o : ℕ) (w : Owner) → t.net ≡ s.net → t.owners ≡ set s.owners o w → OwnAwaited s.net o w → Awaiting s → Awaiting t
awaiting_set s t o w n d q h = record {
  each = subst (λ (net : List Message). (i : ℕ) → OwnAwaited net i (owner_at t i)) (sym n)
      (subst (λ (owners : List Owner). (i : ℕ) → OwnAwaited s.net i (get_or owners i no_owner)) (sym d) (set_each (OwnAwaited s.net) s.owners o w q h.each));
}

pub awaiting_grow : (s t : State) (w : Owner) → t.net ≡ s.net → t.owners ≡ s.owners ++ w ∷ [] → OwnAwaited s.net (length s.owners) w → Awaiting s → Awaiting t
awaiting_grow s t w n d q h = record {
  each = subst (λ (net : List Message). (i : ℕ) → OwnAwaited net i (owner_at t i)) (sym n)
      (subst (λ (owners : List Owner). (i : ℕ) → OwnAwaited s.net i (get_or owners i no_owner)) (sym d) (grow_each (OwnAwaited s.net) s.owners w q h.each));
}

pub set_there : (s t : State) (o : ℕ) (w : Owner) → o < length s.owners → t.owners ≡ set s.owners o w → owner_at t o ≡ w
set_there s t o w i d = ap (λ (owners : List Owner). get_or owners o no_owner) d ∙ get_or-set_same s.owners o w no_owner i

pub grown_there : (s t : State) (w : Owner) → t.owners ≡ s.owners ++ w ∷ [] → owner_at t (length s.owners) ≡ w
grown_there s t w d = ap (λ (owners : List Owner). get_or owners (length s.owners) no_owner) d ∙ at_end s.owners w
  where
    at_end : (xs : List Owner) (w : Owner) → get_or (xs ++ w ∷ []) (length xs) no_owner ≡ w
    at_end xs w = grind (arith, looks)
