-- What a round has heard its replicas hold. So what a round ends with a majority holds: a write its stamp, a
-- read the stamp that all agreed on, and a round of dependencies each of them.
use Rattle.std.proofs.Common.{◌≡◌, ℕ, zero, suc, ◌<◌, ◌≤◌, Bool, true, false, List, [], ◌∷◌, All, map, length, get_or, Option, Some, None, refl, ap, sym, ◌∙◌, subst, arith}
use Rattle.std.specs.Prelude.{⊤}
use Rattle.std.proofs.Math.ListN.{set}
use Rattle.std.proofs.lemmas.Bool.{cond_both}
use Rattle.std.proofs.lemmas.List.Elements.{All-cons, All-nil, All-head, All-weaker}
use Rattle.rss_names.specs.declared.service.Key.{Key}
use Rattle.rss_names.specs.declared.service.ServiceId.{ServiceId}
use Rattle.rss_names.specs.declared.service.Target.TheVariants.{Replica}
use Rattle.rss_names.specs.Services.{same_service}
use Rattle.causal_context.specs.declared.dep.Dep.{Dep}
use Rattle.pipeline_lang.specs.declared.config.Config.{Config}
use Rattle.rss_wire.specs.declared.messages.RegReply.{RegReply}
use Rattle.rss_wire.specs.declared.messages.Reply.{Reply}
use Rattle.rss_wire.specs.declared.messages.Request.{Request}
use Rattle.rss_wire.specs.declared.messages.Request.TheVariants as request
use Rattle.rss_tables.specs.RegisterSession.{RegSession, phase_request, session_after, reached, reply_cell, read_end, read_dep, found_cell}
use Rattle.rss_tables.specs.Round.{Round, was_heard, hears, is_reached, greatest_heard, is_agreed}
use Rattle.rss_tables.specs.declared.register_session.RegEnd.{RegEnd}
use Rattle.rss_tables.specs.declared.register_session.RegEnd.TheVariants as ends
use Rattle.rss_tables.specs.declared.register_session.RegPhase.{RegPhase}
use Rattle.rss_tables.specs.declared.register_session.RegPhase.TheVariants as phase
use Rattle.rss_tables.specs.declared.register_session.RegWork.{RegWork}
use Rattle.rss_tables.specs.declared.register_session.RegWork.TheVariants as work
use Rattle.rss_machine.specs.Calls.{session_for}
use Rattle.rss_machine.specs.Moves.{session_without}
use Rattle.rss_machine.specs.Session.{Session}
use Rattle.rss_machine.specs.State.{State, Owner, no_owner}
use Rattle.rss_machine.specs.declared.session.Session.TheVariants as session
use Rattle.world_laws.proofs.Looks.{some_is, none_is_not}
use Rattle.world_laws.proofs.SessionMoves.{session_at}
use Rattle.std.proofs.Common.{◌-◌, ◌⊎◌, inl, inr}
use Rattle.std.specs.Prelude.{if◌then◌else◌}
use Rattle.rss_tables.specs.Outs.{slot_replica}
use Rattle.world_laws.proofs.Looks.{get_or_set, get_or_repeat}
use Rattle.std.proofs.lemmas.Bool.{and_parts}
use Rattle.std.proofs.lemmas.List.Elements.{All-tail}
use Rattle.std.specs.Prelude.{nat_le}
use Rattle.carstamps.specs.declared.carstamp.Carstamp.{Carstamp}
use Rattle.carstamps.specs.Stamp.{stamp_le}
use Rattle.quorum_laws.specs.Heard.{IsHeardAt, HearsItsReplicas}
use Rattle.quorum_laws.specs.Majority.{count_passing, majority_passes}
use Rattle.quorum_laws.proofs.Rounds.{told_of_majority}
use Rattle.quorum_laws.proofs.StampTests.{opening_le}
use Rattle.rss_tables.specs.ReplicaRow.{held_at}
use Rattle.rss_tables.specs.RegisterSession.{first_phase}
use Rattle.rss_tables.specs.Round.{opening_round, nobody_heard, all_agree, agrees_with, same_stamp, majority}
use Rattle.rss_machine.specs.Marks.{is_held, count_holders}
use Rattle.rss_machine.specs.State.{replicas_at}
use Rattle.world_laws.specs.Later.{stamp_in}
use Rattle.world_laws.specs.Proper.{work_registers}
use Rattle.world_laws.proofs.Contexts.{at_place}
use Rattle.world_laws.proofs.Holders.{held_more}
use Rattle.world_laws.proofs.Later.{le_trans}
use Rattle.reg_laws.specs.Told.{Stamped, asked_to_hold, asked_of, HoldsAtLeast}
use Rattle.reg_laws.proofs.AwaitsOf.{hears_replicas}
use Rattle.reg_laws.proofs.Valid.{work_deps}

-- what a reply of a round proves of a replica, counted from 0
pub record Holding (s : State) (service : ServiceId) (at : ℕ) (q : Request) (cell : RegReply) : Type 0 where
  pub holds : All (HoldsAtLeast s service at) (asked_to_hold q)
  pub shown : All (λ (key : Key). stamp_le cell.stamp (stamp_in s service at key) ≡ true) (asked_of q)

-- a majority holds a dependency
abbrev pub DepHeld : State → ServiceId → Dep → Type 0
DepHeld s service dep = is_held (replicas_at s service) dep.key dep.stamp ≡ true

-- a read leaves what it read as a dependency, or a majority holds it
abbrev pub ReadHeld : State → ServiceId → Key → RegReply → Option Dep → Type 0
ReadHeld s service key cell None = is_held (replicas_at s service) key cell.stamp ≡ true
ReadHeld s service key cell (Some dep) = dep ≡ record { key = key; value = cell.value; stamp = cell.stamp; writer = cell.writer }

abbrev pub EndHeld : State → ServiceId → RegWork → RegEnd → Type 0
EndHeld s service w ends.Fixed = All (DepHeld s service) (work_deps w)
EndHeld s service w (ends.Written stamp) = (key : Key) (value : ℕ) → w ≡ work.Write key value → is_held (replicas_at s service) key stamp ≡ true
EndHeld s service w (ends.Read cell dep) = (key : Key) → w ≡ work.Read key → ReadHeld s service key cell dep

abbrev pub PhaseHeld : State → ServiceId → RegWork → RegPhase → Type 0
PhaseHeld s service w phase.Fixing = ⊤
PhaseHeld s service w phase.Asking = ⊤
PhaseHeld s service w phase.Stamping = ⊤
PhaseHeld s service w (phase.Storing stamp) = ⊤
PhaseHeld s service w (phase.Done end) = EndHeld s service w end

-- what a round has heard is of its own replicas, which hold it, and so what it ends with is held
pub record RoundHeld (s : State) (r : RegSession) : Type 0 where
  pub inside : HearsItsReplicas r.round
  pub heard : (at : ℕ) (cell : RegReply) (q : Request) → IsHeardAt r.round at cell → phase_request r.call r.work r.phase ≡ Some q → Holding s r.service at q cell
  pub ended : PhaseHeld s r.service r.work r.phase

abbrev pub SessionHeld : State → Session → Type 0
SessionHeld s (session.Fixing r) = RoundHeld s r
SessionHeld s (session.Register r) = RoundHeld s r
SessionHeld s session.Idle = ⊤
SessionHeld s (session.Transaction t) = ⊤
SessionHeld s (session.Snapshot t) = ⊤
SessionHeld s (session.Settling attempt shards) = ⊤

pub record Rounding (s : State) : Type 0 where
  pub rounds : All (λ (w : Owner). SessionHeld s w.session) s.owners

-- stamps rise, over as many replicas
pub record Upward (s t : State) : Type 0 where
  pub rises : (service : ServiceId) (place : ℕ) (key : Key) → stamp_le (stamp_in s service place key) (stamp_in t service place key) ≡ true
  pub rows : (service : ServiceId) → length (replicas_at t service) ≡ length (replicas_at s service)

pub held_up : (s t : State) (service : ServiceId) (key : Key) (stamp : Carstamp) → Upward s t → is_held (replicas_at s service) key stamp ≡ true → is_held (replicas_at t service) key stamp ≡ true
held_up s t service key stamp u e = held_more key stamp stamp (replicas_at s service) (replicas_at t service) (sym (u.rows service)) (λ i l f. le_trans stamp (stamp_in s service i key) (stamp_in t service i key) f (u.rises service i key)) e

holding_up : (s t : State) (service : ServiceId) (at : ℕ) (q : Request) (cell : RegReply) → Upward s t → Holding s service at q cell → Holding t service at q cell
holding_up s t service at q cell u h = record {
  holds = All-weaker (HoldsAtLeast s service at) (HoldsAtLeast t service at) (λ x e. le_trans x.stamp (stamp_in s service at x.key) (stamp_in t service at x.key) e (u.rises service at x.key)) (asked_to_hold q) h.holds;
  shown = All-weaker (λ (key : Key). stamp_le cell.stamp (stamp_in s service at key) ≡ true) (λ (key : Key). stamp_le cell.stamp (stamp_in t service at key) ≡ true) (λ key e. le_trans cell.stamp (stamp_in s service at key) (stamp_in t service at key) e (u.rises service at key)) (asked_of q) h.shown;
}

read_up : (s t : State) (service : ServiceId) (key : Key) (cell : RegReply) (dep : Option Dep) → Upward s t → ReadHeld s service key cell dep → ReadHeld t service key cell dep
read_up s t service key cell None u h = held_up s t service key cell.stamp u h
read_up s t service key cell (Some dep) u h = h

end_up : (s t : State) (service : ServiceId) (w : RegWork) (e : RegEnd) → Upward s t → EndHeld s service w e → EndHeld t service w e
end_up s t service w ends.Fixed u h = All-weaker (DepHeld s service) (DepHeld t service) (λ dep e. held_up s t service dep.key dep.stamp u e) (work_deps w) h
end_up s t service w (ends.Written stamp) u h = λ key value e. held_up s t service key stamp u (h key value e)
end_up s t service w (ends.Read cell dep) u h = λ key e. read_up s t service key cell dep u (h key e)

phase_up : (s t : State) (service : ServiceId) (w : RegWork) (p : RegPhase) → Upward s t → PhaseHeld s service w p → PhaseHeld t service w p
phase_up s t service w phase.Fixing u h = tt
phase_up s t service w phase.Asking u h = tt
phase_up s t service w phase.Stamping u h = tt
phase_up s t service w (phase.Storing stamp) u h = tt
phase_up s t service w (phase.Done end) u h = end_up s t service w end u h

round_up : (s t : State) (r : RegSession) → Upward s t → RoundHeld s r → RoundHeld t r
round_up s t r u h = record {
  inside = h.inside;
  heard = λ at cell q a e. holding_up s t r.service at q cell u (h.heard at cell q a e);
  ended = phase_up s t r.service r.work r.phase u h.ended;
}

pub session_up : (s t : State) (x : Session) → Upward s t → SessionHeld s x → SessionHeld t x
session_up s t (session.Fixing r) u h = round_up s t r u h
session_up s t (session.Register r) u h = round_up s t r u h
session_up s t session.Idle u h = tt
session_up s t (session.Transaction x) u h = tt
session_up s t (session.Snapshot x) u h = tt
session_up s t (session.Settling attempt shards) u h = tt

-- nobody was heard in a round that begins
pub nobody_heard_at : (replicas : ℕ) (cut : List Bool) (at : ℕ) (cell : RegReply) → IsHeardAt (opening_round replicas cut) at cell → ⊥
nobody_heard_at replicas cut at cell e = by_place (get_or_repeat 7 None at None)
  where
    by_place : ((get_or nobody_heard at None ≡ None) × (at < 7)) ⊎ ((get_or nobody_heard at None ≡ None) × (7 ≤ at)) → ⊥
    by_place (inl a) = none_is_not cell (sym a.0 ∙ e)
    by_place (inr a) = none_is_not cell (sym a.0 ∙ e)

-- a cell of a round that has heard one more is the new one or an old one
pub hears_cell : (round : Round) (slot : ℕ) (new : RegReply) (at : ℕ) (cell : RegReply) → IsHeardAt (hears round (slot_replica slot) new) at cell → ((at ≡ slot) × (cell ≡ new)) ⊎ IsHeardAt round at cell
hears_cell round slot new at cell = cond_both (was_heard round (slot_replica slot)) round (record round { heard = set round.heard (slot_replica slot - 1) (Some new) }) (λ (x : Round). IsHeardAt x at cell → ((at ≡ slot) × (cell ≡ new)) ⊎ IsHeardAt round at cell) (λ t e. inr e) (λ t e. by_place (get_or_set round.heard (slot_replica slot - 1) (Some new) at None) e)
  where
    by_place : ((get_or (set round.heard (slot_replica slot - 1) (Some new)) at None ≡ Some new) × (at ≡ slot_replica slot - 1) × (slot_replica slot - 1 < length round.heard)) ⊎ ((get_or (set round.heard (slot_replica slot - 1) (Some new)) at None ≡ get_or round.heard at None) × ((at ≡ slot_replica slot - 1 → ⊥) ⊎ (length round.heard ≤ at))) →
        get_or (set round.heard (slot_replica slot - 1) (Some new)) at None ≡ Some cell → ((at ≡ slot) × (cell ≡ new)) ⊎ IsHeardAt round at cell
    by_place (inl a) e = inl (let i = a.1 in omega (arith, i), some_is cell new (sym e ∙ a.0))
    by_place (inr a) e = inr (sym a.0 ∙ e)

-- each cell that agrees with the greatest has its stamp
agrees_each : (best : RegReply) (heard : List (Option RegReply)) (at : ℕ) (cell : RegReply) → all_agree best heard ≡ true → get_or heard at None ≡ Some cell → stamp_le best.stamp cell.stamp ≡ true
agrees_each best [] at cell a e = absurd (none_is_not cell e)
agrees_each best (None ∷ heard) zero cell a e = absurd (none_is_not cell e)
agrees_each best (None ∷ heard) (suc at) cell a e = agrees_each best heard at cell a e
agrees_each best (Some other ∷ heard) zero cell a e =
    let p = and_parts (same_stamp best other) (all_agree best heard) a in
    let q = and_parts (stamp_le best.stamp other.stamp) (stamp_le other.stamp best.stamp) p.0 in
    subst (λ (x : RegReply). stamp_le best.stamp x.stamp ≡ true) (some_is other cell e) q.0
agrees_each best (Some other ∷ heard) (suc at) cell a e = agrees_each best heard at cell (and_parts (same_stamp best other) (all_agree best heard) a).1 e

found_agrees : (round : Round) (at : ℕ) (cell : RegReply) → is_agreed round ≡ true → IsHeardAt round at cell → stamp_le (found_cell (greatest_heard round)).stamp cell.stamp ≡ true
found_agrees round at cell a e = by_greatest (greatest_heard round) a
  where
    by_greatest : (best : Option RegReply) → agrees_with best round.heard ≡ true → stamp_le (found_cell best).stamp cell.stamp ≡ true
    by_greatest None a = opening_le cell.stamp
    by_greatest (Some best) a = agrees_each best round.heard at cell a e

-- a majority of replicas, by the two counts
count_same : (key : Key) (stamp : Carstamp) (rows : List (List RegReply)) → count_passing (λ (cells : List RegReply). stamp_le stamp (held_at cells key).stamp) rows ≡ count_holders key stamp rows
count_same key stamp [] = refl
count_same key stamp (cells ∷ rows) =
    let m = count_same key stamp rows in
    ap (λ (n : ℕ). if stamp_le stamp (held_at cells key).stamp then suc n else n) m

pub majority_held : (key : Key) (stamp : Carstamp) (rows : List (List RegReply)) → majority_passes (λ (cells : List RegReply). stamp_le stamp (held_at cells key).stamp) rows ≡ is_held rows key stamp
majority_held key stamp rows = ap (λ (n : ℕ). nat_le (majority (length rows)) n) (count_same key stamp rows)

-- what each heard replica holds a majority holds
told_held : (s : State) (r : RegSession) (round : Round) (key : Key) (stamp : Carstamp) → is_reached round ≡ true → HearsItsReplicas round → length (replicas_at s r.service) ≡ round.replicas → ((at : ℕ) (cell : RegReply) → IsHeardAt round at cell → stamp_le stamp (stamp_in s r.service at key) ≡ true) → is_held (replicas_at s r.service) key stamp ≡ true
told_held s r round key stamp e own l f =
    sym (majority_held key stamp (replicas_at s r.service)) ∙ told_of_majority round (replicas_at s r.service) (λ (cells : List RegReply). stamp_le stamp (held_at cells key).stamp) e own l f

-- what a phase asks of its work
record AsksOf (w : RegWork) (p : RegPhase) (q : Request) : Type 0 where
  fixes : (deps : List Dep) → w ≡ work.Fix deps → p ≡ phase.Fixing → q ≡ request.Fix deps
  asks : (key : Key) → w ≡ work.Read key → p ≡ phase.Asking → q ≡ request.Ask key
  stores : (key : Key) (value : ℕ) (stamp : Carstamp) → w ≡ work.Write key value → p ≡ phase.Storing stamp → asked_to_hold q ≡ record { key = key; stamp = stamp } ∷ []

asks_of : (call : ℕ) (w : RegWork) (p : RegPhase) (q : Request) → phase_request call w p ≡ Some q → AsksOf w p q
asks_of call w p q a = record {
  fixes = λ deps e f. some_is q (request.Fix deps) (sym a ∙ (ap (λ (x : RegWork). phase_request call x p) e ∙ ap (λ (x : RegPhase). phase_request call (work.Fix deps) x) f));
  asks = λ key e f. some_is q (request.Ask key) (sym a ∙ (ap (λ (x : RegWork). phase_request call x p) e ∙ ap (λ (x : RegPhase). phase_request call (work.Read key) x) f));
  stores = λ key value stamp e f. ap asked_to_hold (some_is q (request.Store key value stamp call) (sym a ∙ (ap (λ (x : RegWork). phase_request call x p) e ∙ ap (λ (x : RegPhase). phase_request call (work.Write key value) x) f)));
}

-- nothing is asked in a phase that is done
done_asks : (call : ℕ) (w : RegWork) (e : RegEnd) (q : Request) → phase_request call w (phase.Done e) ≡ Some q → ⊥
done_asks call (work.Fix deps) e q a = none_is_not q a
done_asks call (work.Read key) e q a = none_is_not q a
done_asks call (work.Write key value) e q a = none_is_not q a

-- the replicas of a round that works on a register are as many as the round says
abbrev pub RowsOf : State → RegSession → Type 0
RowsOf s r = (key : Key) (keys : List Key) → work_registers r.work ≡ key ∷ keys → length (replicas_at s r.service) ≡ r.round.replicas

stamped : Dep → Stamped
stamped dep = record { key = dep.key; stamp = dep.stamp }

-- a round that has reached a majority
module _ (s : State) (r : RegSession) (q : Request) (asked : phase_request r.call r.work r.phase ≡ Some q) (full : is_reached r.round ≡ true) (rows : RowsOf s r) (own : HearsItsReplicas r.round) (heard : (at : ℕ) (cell : RegReply) → IsHeardAt r.round at cell → Holding s r.service at q cell) where
  held_by_all : (key : Key) (keys : List Key) (stamp : Carstamp) → work_registers r.work ≡ key ∷ keys → (k : Key) → ((at : ℕ) (cell : RegReply) → IsHeardAt r.round at cell → stamp_le stamp (stamp_in s r.service at k) ≡ true) → is_held (replicas_at s r.service) k stamp ≡ true
  held_by_all key keys stamp e k f = told_held s r r.round k stamp full own (rows key keys e) f

  fixed_each : (key : Key) (keys : List Key) → work_registers r.work ≡ key ∷ keys → (deps : List Dep) → ((at : ℕ) (cell : RegReply) → IsHeardAt r.round at cell → All (HoldsAtLeast s r.service at) (map (λ (dep : Dep). record { key = dep.key; stamp = dep.stamp }) deps)) → All (DepHeld s r.service) deps
  fixed_each key keys e [] f = All-nil (DepHeld s r.service)
  fixed_each key keys e (dep ∷ deps) f =
      All-cons (DepHeld s r.service) dep deps
      (held_by_all key keys dep.stamp e dep.key (λ at cell i. All-head (HoldsAtLeast s r.service at) _ (map (λ (d : Dep). record { key = d.key; stamp = d.stamp }) deps) (f at cell i)))
      (fixed_each key keys e deps (λ at cell i. All-tail (HoldsAtLeast s r.service at) _ (map (λ (d : Dep). record { key = d.key; stamp = d.stamp }) deps) (f at cell i)))

  fixed_held : r.phase ≡ phase.Fixing → (w : RegWork) → r.work ≡ w → All (DepHeld s r.service) (work_deps w)
  fixed_held p (work.Read key) e = All-nil (DepHeld s r.service)
  fixed_held p (work.Write key value) e = All-nil (DepHeld s r.service)
  fixed_held p (work.Fix []) e = All-nil (DepHeld s r.service)
  fixed_held p (work.Fix (dep ∷ deps)) e =
      let b : q ≡ request.Fix (dep ∷ deps) = (asks_of r.call r.work r.phase q asked).fixes (dep ∷ deps) e p in
      fixed_each dep.key (map (λ (d : Dep). d.key) deps) (ap work_registers e) (dep ∷ deps) (λ at cell i. subst (λ (x : Request). All (HoldsAtLeast s r.service at) (asked_to_hold x)) b (heard at cell i).holds)

  read_work : (a b : Key) → work.Read a ≡ work.Read b → a ≡ b
  read_work a b e = cc

  fix_not_read : (deps : List Dep) (key : Key) → work.Fix deps ≡ work.Read key → ⊥
  fix_not_read deps key e = cc

  write_not_read : (k : Key) (value : ℕ) (key : Key) → work.Write k value ≡ work.Read key → ⊥
  write_not_read k value key e = cc

  read_held : r.phase ≡ phase.Asking → (key : Key) → r.work ≡ work.Read key → (agreed : Bool) → is_agreed r.round ≡ agreed → ReadHeld s r.service key (found_cell (greatest_heard r.round)) (read_dep key (found_cell (greatest_heard r.round)) agreed)
  read_held p key e false a = refl
  read_held p key e true a =
      let found = found_cell (greatest_heard r.round) in
      let b : q ≡ request.Ask key = (asks_of r.call r.work r.phase q asked).asks key e p in
      held_by_all key [] found.stamp (ap work_registers e) key (λ at cell i. le_trans found.stamp cell.stamp (stamp_in s r.service at key) (found_agrees r.round at cell a i)
      (All-head (λ (k : Key). stamp_le cell.stamp (stamp_in s r.service at k) ≡ true) key [] (subst (λ (x : Request). All (λ (k : Key). stamp_le cell.stamp (stamp_in s r.service at k) ≡ true) (asked_of x)) b (heard at cell i).shown)))

  asking_held : r.phase ≡ phase.Asking → (w : RegWork) → r.work ≡ w → EndHeld s r.service r.work (read_end w (found_cell (greatest_heard r.round)) (is_agreed r.round))
  asking_held p (work.Fix deps) e = λ key f. absurd (fix_not_read deps key (sym e ∙ f))
  asking_held p (work.Write k value) e = λ key f. absurd (write_not_read k value key (sym e ∙ f))
  asking_held p (work.Read k) e = λ key f.
      let same : k ≡ key = read_work k key (sym e ∙ f) in
      subst (λ (x : Key). ReadHeld s r.service x (found_cell (greatest_heard r.round)) (read_dep k (found_cell (greatest_heard r.round)) (is_agreed r.round))) same (read_held p k e (is_agreed r.round) refl)

  stored_held : (stamp : Carstamp) → r.phase ≡ phase.Storing stamp → EndHeld s r.service r.work (ends.Written stamp)
  stored_held stamp p key value e =
      let b = (asks_of r.call r.work r.phase q asked).stores key value stamp e p in
      held_by_all key [] stamp (ap work_registers e) key (λ at cell i. All-head (HoldsAtLeast s r.service at) (record { key = key; stamp = stamp }) [] (subst (λ (xs : List Stamped). All (HoldsAtLeast s r.service at) xs) b (heard at cell i).holds))

  reached_held : (p : RegPhase) → r.phase ≡ p → RoundHeld s (reached r p)
  reached_held phase.Fixing e = record { inside = own; heard = λ at cell x i a. absurd (done_asks r.call r.work ends.Fixed x a); ended = fixed_held e r.work refl }
  reached_held phase.Asking e = record { inside = own; heard = λ at cell x i a. absurd (done_asks r.call r.work _ x a); ended = asking_held e r.work refl }
  reached_held phase.Stamping e = record { inside = λ at cell i. absurd (nobody_heard_at r.round.replicas r.round.cut at cell i); heard = λ at cell x i a. absurd (nobody_heard_at r.round.replicas r.round.cut at cell i); ended = tt }
  reached_held (phase.Storing stamp) e = record { inside = own; heard = λ at cell x i a. absurd (done_asks r.call r.work (ends.Written stamp) x a); ended = stored_held stamp e }
  reached_held (phase.Done end) e = absurd (done_asks r.call r.work end q (ap (λ (p : RegPhase). phase_request r.call r.work p) (sym e) ∙ asked))

-- a round that hears a reply
pub after_held : (s : State) (f : RegSession) (slot : ℕ) (r : Reply) (q : Request) → phase_request f.call f.work f.phase ≡ Some q → slot < f.round.replicas → Holding s f.service slot q (reply_cell r) → RowsOf s f → RoundHeld s f → RoundHeld s (session_after f (slot_replica slot) r)
after_held s f slot r q asked l new rows h =
    cond_both (is_reached g.round) (reached g f.phase) g (RoundHeld s)
    (λ t. reached_held s g q asked t (λ key keys e. rows key keys e ∙ sym same) own heard f.phase refl)
    (λ t. record { inside = own; heard = λ at cell x i a. subst (λ (y : Request). Holding s f.service at y cell) (some_is q x (sym asked ∙ a)) (heard at cell i); ended = h.ended })
  where
    g : RegSession
    g = record f { round = hears f.round (slot_replica slot) (reply_cell r) }

    same : g.round.replicas ≡ f.round.replicas
    same = hears_replicas f.round (slot_replica slot) (reply_cell r)

    own : HearsItsReplicas g.round
    own at cell i = subst (λ (n : ℕ). at < n) (sym same) (by_cell (hears_cell f.round slot (reply_cell r) at cell i))
      where
        by_cell : ((at ≡ slot) × (cell ≡ reply_cell r)) ⊎ IsHeardAt f.round at cell → at < f.round.replicas
        by_cell (inl e) = subst (λ (n : ℕ). n < f.round.replicas) (sym e.0) l
        by_cell (inr e) = h.inside at cell e

    heard : (at : ℕ) (cell : RegReply) → IsHeardAt g.round at cell → Holding s f.service at q cell
    heard at cell i = by_cell (hears_cell f.round slot (reply_cell r) at cell i)
      where
        by_cell : ((at ≡ slot) × (cell ≡ reply_cell r)) ⊎ IsHeardAt f.round at cell → Holding s f.service at q cell
        by_cell (inl e) = subst (λ (n : ℕ). Holding s f.service n q cell) (sym e.0) (subst (λ (x : RegReply). Holding s f.service slot q x) (sym e.1) new)
        by_cell (inr e) = h.heard at cell q e asked

pub without_held : (s : State) (x : Session) (id : ServiceId) (replica : ℕ) → SessionHeld s x → SessionHeld s (session_without x (Replica id replica))
without_held s (session.Fixing r) id replica h = cond_both (same_service r.service id) _ r (RoundHeld s) (λ t. record { inside = h.inside; heard = h.heard; ended = h.ended }) (λ t. h)
without_held s (session.Register r) id replica h = cond_both (same_service r.service id) _ r (RoundHeld s) (λ t. record { inside = h.inside; heard = h.heard; ended = h.ended }) (λ t. h)
without_held s session.Idle id replica h = tt
without_held s (session.Transaction t) id replica h = tt
without_held s (session.Snapshot t) id replica h = tt
without_held s (session.Settling attempt shards) id replica h = tt

-- a round that begins
pub opening_held : (t : State) (c : Config) (s : State) (o : ℕ) (w : RegWork) (id : ServiceId) → RoundHeld t (session_for c s o w id)
opening_held t c s o w id = record { inside = λ at cell i. absurd (nobody_heard_at (session_for c s o w id).round.replicas (session_for c s o w id).round.cut at cell i); heard = λ at cell q i a. absurd (nobody_heard_at (session_for c s o w id).round.replicas (session_for c s o w id).round.cut at cell i); ended = first_plain w }
  where
    first_plain : (w : RegWork) → PhaseHeld t id w (first_phase w)
    first_plain (work.Fix deps) = tt
    first_plain (work.Read key) = tt
    first_plain (work.Write key value) = tt

pub session_held : (s : State) (o : ℕ) → All (λ (w : Owner). SessionHeld s w.session) s.owners → SessionHeld s (session_at s o)
session_held s o h = at_place (λ (w : Owner). SessionHeld s w.session) s.owners o no_owner tt h
