-- A call sees each stamp whose step is not later than that of its own first round. In a step the stores of
-- registers stay, or the dates of all owners do, so a round and a new mark never come in one step.
use Rattle.std.proofs.Common.{◌≡◌, ℕ, ◌<◌, ◌≤◌, Bool, true, false, List, [], ◌∷◌, ◌++◌, All, length, get_or, Some, None, refl, ap, ◌∙◌, subst, arith}
use Rattle.std.proofs.lemmas.List.Elements.{All-head}
use Rattle.truetime.specs.Reading.{Reading}
use Rattle.rss_names.specs.declared.service.Key.{Key}
use Rattle.rss_names.specs.declared.service.ServiceId.{ServiceId}
use Rattle.rss_names.specs.declared.service.Target.{Target}
use Rattle.rss_names.specs.declared.service.Target.TheVariants.{Shard, Replica}
use Rattle.pipeline_lang.specs.declared.config.Config.{Config}
use Rattle.rss_wire.specs.Messages.{message_at}
use Rattle.rss_wire.specs.declared.messages.RegReply.{RegReply}
use Rattle.rss_wire.specs.declared.messages.Request.{Request}
use Rattle.rss_tables.specs.Lines.{tells_decision}
use Rattle.rss_tables.specs.Outs.{Out}
use Rattle.rss_tables.specs.RegisterSession.{RegSession}
use Rattle.rss_tables.specs.declared.register_session.RegEnd.TheVariants as ends
use Rattle.rss_tables.specs.declared.register_session.RegPhase.{RegPhase}
use Rattle.rss_tables.specs.declared.register_session.RegPhase.TheVariants as phase
use Rattle.rss_machine.specs.Effect.{stepped}
use Rattle.rss_machine.specs.Moves.{ticks, sends_one, sends, serves_replica, notes_served, listens}
use Rattle.rss_machine.specs.Refusal.{refusal}
use Rattle.rss_machine.specs.Run.{run, run_from}
use Rattle.rss_machine.specs.Session.{Session}
use Rattle.rss_machine.specs.State.{State, start, owner_at, no_owner}
use Rattle.rss_machine.specs.declared.session.Session.TheVariants as session
use Rattle.rss_machine.specs.declared.step.Step.{Step}
use Rattle.world_laws.proofs.Looks.{looks}
use Rattle.world_laws.proofs.Runs.{passes, run_rest}
use Rattle.world_laws.proofs.SessionMoves.{session_at}
use Rattle.std.proofs.Common.{◌⊎◌, inl, inr}
use Rattle.std.specs.Prelude.{if◌then◌else◌}
use Rattle.std.specs.Prelude.{◌+◌}
use Rattle.std.proofs.lemmas.Bool.Decides.{nat_tests}
use Rattle.std.proofs.lemmas.List.Elements.{All-from_get_or}
use Rattle.carstamps.specs.declared.carstamp.Carstamp.{Carstamp}
use Rattle.carstamps.specs.Stamp.{stamp_le, stamp_lt, opening_stamp}
use Rattle.rss_tables.specs.RegisterSession.{work_key}
use Rattle.rss_machine.specs.Effect.{request_comes}
use Rattle.rss_machine.specs.Marks.{is_held}
use Rattle.rss_machine.specs.Moves.{marks_message}
use Rattle.rss_machine.specs.State.{service_index, replicas_at}
use Rattle.rss_machine.specs.Times.{first_held, step_of_stamp}
use Rattle.rss_machine.specs.declared.state.Dates.{Dates}
use Rattle.world_laws.specs.Proper.{work_registers}
use Rattle.world_laws.proofs.Clock.{clock_step, run_counted}
use Rattle.world_laws.proofs.Contexts.{at_place}
use Rattle.world_laws.proofs.Marked.{first_one, first_more, first_none}
use Rattle.world_laws.proofs.OwnerMoves.{OwnerMoves}
use Rattle.world_laws.proofs.OwnerWalk.{Served, moves_or_serves}
use Rattle.world_laws.proofs.Properly.{session_proper}
use Rattle.world_laws.proofs.RequestsProper.{Fine}
use Rattle.world_laws.proofs.Runs.{run_ends, run_before, run_from_more, run_split, run_is}
use Rattle.world_laws.proofs.StackRuns.{kept_from}
use Rattle.reg_laws.specs.Files.{IsInOrder}
use Rattle.reg_laws.specs.Rounds.{EndsHeld, RoundsSee, SeesSteps}
use Rattle.reg_laws.proofs.Base.{sound_of, fine_of}
use Rattle.reg_laws.proofs.Dates.{DatesUpTo, up_to_run, DatesSince, dated_since_from}
use Rattle.reg_laws.proofs.Hearing.{round_valid}
use Rattle.reg_laws.proofs.RoundsHeld.{PhaseHeld}
use Rattle.reg_laws.proofs.Rounds.{round_held, Settled, SettledAt, settled_run}
use Rattle.reg_laws.proofs.Shapes.{SameShape}
use Rattle.reg_laws.proofs.Since.{PhaseSees, HeldBefore, RoundSince, SessionSince, OwnerSince, Seeing, seeing_kept}
use Rattle.reg_laws.proofs.Tells.{Telling, telling_same}
use Rattle.reg_laws.proofs.Valid.{AboveIn}
use Rattle.reg_laws.proofs.ValidServes.{each_kept}

-- the stores of registers are the same
pub record SameKept (s t : State) : Type 0 where
  pub replicas : t.replicas ≡ s.replicas
  pub marks : t.marks ≡ s.marks

kept_again : (s t v : State) → v.replicas ≡ t.replicas → v.marks ≡ t.marks → SameKept s t → SameKept s v
kept_again s t v e f h = record { replicas = e ∙ h.replicas; marks = f ∙ h.marks }

kept_sends : (s : State) (o : ℕ) (outs : List Out) (t : State) → SameKept s t → SameKept s (sends t o outs)
kept_sends s o [] t h = h
kept_sends s o (out ∷ outs) t h = kept_sends s o outs (sends_one t o out) (record { replicas = h.replicas; marks = h.marks })

pub quiet_moves : (c : Config) (at : Reading) (s : State) → OwnerMoves c at (SameKept s) (λ t o. SameKept s t)
quiet_moves c at s = record {
  fates = λ t m f h. record { replicas = h.replicas; marks = h.marks };
  again = λ t o exchange slot target r d h. record { replicas = h.replicas; marks = h.marks };
  stages = λ t v d h. kept_again s t v d.stores.replicas d.stores.marks h;
  dies = λ t v n u d h. kept_again s t v d.stores.replicas d.stores.marks h;
  begins = λ t v w b d h. kept_again s t v d.stores.replicas d.stores.marks h;
  rests = λ t v o w i b d h. kept_again s t v d.stores.replicas d.stores.marks h;
  settles = λ t o slot a shards outcome i e d h. let v = kept_sends s o (tells_decision a outcome shards) (listens t o slot) (record { replicas = h.replicas; marks = h.marks }) in record { replicas = v.replicas; marks = v.marks };
  settled = λ t o h. h;
  works = λ t v o w i b d h. kept_again s t v d.stores.replicas d.stores.marks h;
  leaves = λ t v o w outs i b d h. kept_sends s o outs v (kept_again s t v d.stores.replicas d.stores.marks h);
  does = λ t v o w outs new b d h. kept_sends s o outs v (kept_again s t v d.stores.replicas d.stores.marks h);
}

-- a request that is served changes no dates
served_dates : (t : State) (m o : ℕ) (at : Reading) (target : Target) (r : Request) (i : ℕ) → (owner_at (request_comes t m o at target r) i).dates ≡ (owner_at t i).dates
served_dates t m o at (Shard n) r i = refl
served_dates t m o at (Replica id replica) r i = stored_dates (serves_replica t m id replica r) o id r i
  where
    stored_dates : (t : State) (o : ℕ) (id : ServiceId) (r : Request) (i : ℕ) → (owner_at (notes_served t o id r) i).dates ≡ (owner_at t i).dates
    stored_dates t o id r i = grind (arith, looks)

-- in a step the stores of registers stay, or the dates of all owners do
pub step_alone : (c : Config) (s : State) (step : Step) → refusal c s step ≡ None → SameKept s (stepped c s step) ⊎ ((o : ℕ) → (owner_at (stepped c s step) o).dates ≡ (owner_at s o).dates)
step_alone c s step r = by_served (moves_or_serves c step.at (SameKept (ticks s step.at)) (λ t o. SameKept (ticks s step.at) t) (quiet_moves c step.at (ticks s step.at)) (ticks s step.at) step.kind (passes c s step r).kind (record { replicas = refl; marks = refl }))
  where
    by_served : SameKept (ticks s step.at) (stepped c s step) ⊎ Served c step.at (ticks s step.at) (stepped c s step) → SameKept s (stepped c s step) ⊎ ((o : ℕ) → (owner_at (stepped c s step) o).dates ≡ (owner_at s o).dates)
    by_served (inl h) = inl (record { replicas = h.replicas; marks = h.marks })
    by_served (inr d) = inr (λ o. ap (λ (t : State). (owner_at t o).dates) d.same ∙ served_dates (marks_message (ticks s step.at) d.number d.fate) d.number (message_at (marks_message (ticks s step.at) d.number d.fate).net d.number).envelope.owner step.at (message_at (marks_message (ticks s step.at) d.number d.fate).net d.number).envelope.target d.request o)

-- the step after which a majority first holds a stamp, in a run
record HeldAfter (c : Config) (key : Key) (z : Carstamp) (u s : State) (k : ℕ) : Type 0 where
  before : List Step
  step : Step
  after : List Step
  mid : State
  leads : run_from c u before ≡ Some mid
  passed : refusal c mid step ≡ None
  ends_in : run_from c (stepped c mid step) after ≡ Some s
  held : is_held (replicas_at (stepped c mid step) key.service) key z ≡ true
  count : mid.steps + 1 ≡ u.steps + k

held_after : (c : Config) (key : Key) (z : Carstamp) (steps : List Step) (u s : State) → run_from c u steps ≡ Some s → first_held c u steps key z ≤ length steps → HeldAfter c key z u s (first_held c u steps key z)
held_after c key z [] u s e l = absurd (let n = first_none c u key z in omega (arith, l, n))
held_after c key z (step ∷ steps) u s e l = by_held (is_held (replicas_at v key.service) key z) refl (held_after c key z steps v s t.1)
  where
    v : State
    v = stepped c u step

    t : (refusal c u step ≡ None) × (run_from c v steps ≡ Some s)
    t = run_rest c u step steps s e

    by_held : (b : Bool) → is_held (replicas_at v key.service) key z ≡ b → (first_held c v steps key z ≤ length steps → HeldAfter c key z v s (first_held c v steps key z)) → HeldAfter c key z u s (first_held c u (step ∷ steps) key z)
    by_held true h ih = record { before = []; step = step; after = steps; mid = u; leads = run_ends c u; passed = t.0; ends_in = t.1; held = h; count = let n = first_one c u step steps key z h in omega (arith, n) }
    by_held false h ih =
        let n = first_more c u step steps key z h in
        let m = (clock_step c u step t.0).0 in
        let r = ih (let k = l in omega (arith, k, n)) in
        record {
          before = step ∷ r.before;
          step = r.step;
          after = r.after;
          mid = r.mid;
          leads = run_before c u step r.before r.mid t.0 r.leads;
          passed = r.passed;
          ends_in = r.ends_in;
          held = r.held;
          count = let k = r.count in omega (arith, k, n, m);
        }

-- from a state of a run, with what is known of it, to a later one
record Seen (c : Config) (n : IsInOrder c) (u s : State) : Type 0 where
  settled : Settled c n s
  seeing : Seeing u s

seen_from : (c : Config) (n : IsInOrder c) (u s : State) (more : List Step) → Settled c n u → DatesUpTo u → run_from c u more ≡ Some s → Seen c n u s
seen_from c n u s more g d e = record { settled = h.0.0; seeing = h.1 }
  where
    none_since : (o : ℕ) → OwnerSince u (owner_at u o)
    none_since o = record { since = λ l. absurd (let k = (d.each o).launched in omega (arith, k, l)) }

    shape : SameShape (start c) u
    shape = g.0.0.1.same

    h : (Settled c n s × Telling u s) × Seeing u s
    h = kept_from c (λ t. (Settled c n t × Telling u t) × Seeing u t) (λ t o. (SettledAt c n t o × Telling u t) × Seeing u t) (seeing_kept c n u shape) more u s e
        ((g, telling_same u (sound_of c u g.0.0.0.0)), record { owners = All-from_get_or (OwnerSince u) u.owners no_owner (λ i l. none_since i) })

-- the service of a call's round is its register's
pub proper_service : (c : Config) (s : State) (o : ℕ) (r : RegSession) (key : Key) → Fine s → session_at s o ≡ session.Register r → work_registers r.work ≡ key ∷ [] → r.service ≡ key.service
proper_service c s o r key g x e =
    All-head (λ (k : Key). r.service ≡ k.service) key [] (subst (All (λ (k : Key). r.service ≡ k.service)) e (each_kept r.service (work_registers r.work) (subst (λ (z : Session). session_proper z ≡ true) x (g.sessions o))))

own_since : (u s : State) (o : ℕ) (r : RegSession) → Seeing u s → session_at s o ≡ session.Register r → u.steps < (owner_at s o).dates.launched → RoundSince u r
own_since u s o r h x l = (subst (λ (y : Session). SessionSince u y (owner_at s o).currents) x ((at_place (OwnerSince u) s.owners o no_owner (record { since = λ k. tt }) h.owners).since l)).since

-- what a call has found of what a majority held in an earlier state
sees_phase : (c : Config) (n : IsInOrder c) (u s : State) (o : ℕ) (key : Key) (r : RegSession) (p : RegPhase) → Seen c n u s → u.steps < (owner_at s o).dates.launched → session_at s o ≡ session.Register r → work_key r.work ≡ Some key → work_registers r.work ≡ key ∷ [] → r.phase ≡ p → PhaseSees (HeldBefore u key.service key) p
sees_phase c n u s o key r p h l x k w e =
    subst (PhaseSees (HeldBefore u key.service key)) e
    (subst (λ (id : ServiceId). PhaseSees (HeldBefore u id key) r.phase) (proper_service c s o r key (fine_of c s h.settled.0.0.0.0) x w) ((own_since u s o r h.seeing x l).found key k))

rounds_see : (c : Config) (n : IsInOrder c) (u s : State) → Seen c n u s → RoundsSee u s
rounds_see c n u s h = record {
  stored = λ o key value stamp held l w e. sees_phase c n u s o key w.round (phase.Storing stamp) h l w.under_way (ap work_key w.of_work) (ap work_registers w.of_work) w.in_phase held e;
  written = λ o key value stamp held l w e. sees_phase c n u s o key w.round (phase.Done (ends.Written stamp)) h l w.under_way (ap work_key w.of_work) (ap work_registers w.of_work) w.in_phase held e;
  read = λ o key cell dep held l w e. sees_phase c n u s o key w.round (phase.Done (ends.Read cell dep)) h l w.under_way (ap work_key w.of_work) (ap work_registers w.of_work) w.in_phase held e;
}

pub see_run : (c : Config) (steps more : List Step) (u s : State) → IsInOrder c → run c steps ≡ Some u → run c (steps ++ more) ≡ Some s → RoundsSee u s
see_run c steps more u s n e f = rounds_see c n u s (seen_from c n u s more (settled_run c n steps u e) (up_to_run c steps u e) (run_split c steps more u s e f))

-- a call has found each stamp whose step is not later than that of its first round
step_seen : (c : Config) (n : IsInOrder c) (steps : List Step) (s : State) (o : ℕ) (key : Key) (r : RegSession) (p : RegPhase) (z : Carstamp) → run_from c (start c) steps ≡ Some s → session_at s o ≡ session.Register r → work_key r.work ≡ Some key → work_registers r.work ≡ key ∷ [] → r.phase ≡ p → first_held c (start c) steps key z ≤ (owner_at s o).dates.launched →
    (u : State) × (PhaseSees (HeldBefore u key.service key) p × HeldBefore u key.service key z)
step_seen c n steps s o key r p z e x k w d l = by_dates (since.launched) (step_alone c h.mid h.step h.passed)
  where
    counted : s.steps ≡ length steps
    counted = (run_counted c steps s (run_is c steps s e)).0

    small : first_held c (start c) steps key z ≤ length steps
    small = let a = ((up_to_from steps s e).each o).launched in omega (arith, a, l, counted)
      where
        up_to_from : (steps : List Step) (s : State) → run_from c (start c) steps ≡ Some s → DatesUpTo s
        up_to_from steps s e = up_to_run c steps s (run_is c steps s e)

    h : HeldAfter c key z (start c) s (first_held c (start c) steps key z)
    h = held_after c key z steps (start c) s e small

    mid : State
    mid = h.mid

    next : State
    next = stepped c mid h.step

    settled_mid : Settled c n mid
    settled_mid = settled_run c n h.before mid (run_is c h.before mid h.leads)

    dates_mid : DatesUpTo mid
    dates_mid = up_to_run c h.before mid (run_is c h.before mid h.leads)

    next_run : run_from c (start c) (h.before ++ h.step ∷ []) ≡ Some next
    next_run = run_from_more c h.before (start c) mid h.step h.leads h.passed

    dates_next : DatesUpTo next
    dates_next = up_to_run c (h.before ++ h.step ∷ []) next (run_is c (h.before ++ h.step ∷ []) next next_run)

    settled_next : Settled c n next
    settled_next = settled_run c n (h.before ++ h.step ∷ []) next (run_is c (h.before ++ h.step ∷ []) next next_run)

    since : DatesSince next (owner_at next o).dates (owner_at s o).dates
    since = ((dated_since_from c h.after next s h.ends_in).1.each o).since

    steps_next : next.steps ≡ mid.steps + 1
    steps_next = (clock_step c mid h.step h.passed).0

    from_mid : run_from c mid (h.step ∷ h.after) ≡ Some s
    from_mid = run_before c mid h.step h.after s h.passed h.ends_in

    by_dates : ((owner_at s o).dates.launched ≡ (owner_at next o).dates.launched) ⊎ (next.steps < (owner_at s o).dates.launched) → SameKept mid next ⊎ ((i : ℕ) → (owner_at next i).dates ≡ (owner_at mid i).dates) → (u : State) × (PhaseSees (HeldBefore u key.service key) p × HeldBefore u key.service key z)
    by_dates (inr a) b = (next, (sees_phase c n next s o key r p (seen_from c n next s h.after settled_next dates_next h.ends_in) a x k w d, h.held))
    by_dates (inl a) (inl b) =
        let q : mid.steps < (owner_at s o).dates.launched = let m = h.count in omega (arith, m, l) in
        (mid, (sees_phase c n mid s o key r p (seen_from c n mid s (h.step ∷ h.after) settled_mid dates_mid from_mid) q x k w d, subst (λ (all : List (List (List RegReply))). is_held (get_or all (service_index key.service) []) key z ≡ true) b.replicas h.held))
    by_dates (inl a) (inr b) =
        let f : (owner_at next o).dates.launched ≡ (owner_at mid o).dates.launched = ap (λ (v : Dates). v.launched) (b o) in
        let g = (dates_mid.each o).launched in
        absurd (let m = h.count in omega (arith, a, f, g, m, l))

opening_lt : (z stamp : Carstamp) → stamp_le z opening_stamp ≡ true → 0 < stamp.number → stamp_lt z stamp ≡ true
opening_lt z stamp e l = grind (arith, nat_tests)

opening_least : (z stamp : Carstamp) → stamp_le z opening_stamp ≡ true → stamp_le z stamp ≡ true
opening_least z stamp e = grind (arith, nat_tests)

-- a stamp of a call's round is above the opening one
above_opening : (c : Config) (n : IsInOrder c) (s : State) (o : ℕ) (r : RegSession) (p : RegPhase) → Settled c n s → session_at s o ≡ session.Register r → r.phase ≡ p → AboveIn p
above_opening c n s o r p h x e = subst AboveIn e (round_valid c s s o r (inr x) h.0.0.0.1).above

-- by the step of a stamp
below_by : (c : Config) (steps : List Step) (key : Key) (z stamp : Carstamp) (launched : ℕ) → 0 < stamp.number → (first_held c (start c) steps key z ≤ launched → stamp_lt z stamp ≡ true) → step_of_stamp c steps key z ≤ launched → stamp_lt z stamp ≡ true
below_by c steps key z stamp launched a f l = by_opening (stamp_le z opening_stamp) refl l
  where
    by_opening : (t : Bool) → stamp_le z opening_stamp ≡ t → (if t then 0 else first_held c (start c) steps key z) ≤ launched → stamp_lt z stamp ≡ true
    by_opening true e l = opening_lt z stamp e a
    by_opening false e l = f l

least_by : (c : Config) (steps : List Step) (key : Key) (z stamp : Carstamp) (launched : ℕ) → (first_held c (start c) steps key z ≤ launched → stamp_le z stamp ≡ true) → step_of_stamp c steps key z ≤ launched → stamp_le z stamp ≡ true
least_by c steps key z stamp launched f l = by_opening (stamp_le z opening_stamp) refl l
  where
    by_opening : (t : Bool) → stamp_le z opening_stamp ≡ t → (if t then 0 else first_held c (start c) steps key z) ≤ launched → stamp_le z stamp ≡ true
    by_opening true e l = opening_least z stamp e
    by_opening false e l = f l

pub sees_run : (c : Config) (steps : List Step) (s : State) → IsInOrder c → run c steps ≡ Some s → SeesSteps c steps s
unfolding run
sees_run c steps s n e = record {
  stored = λ o key value stamp z w l. below_by c steps key z stamp (owner_at s o).dates.launched (above_opening c n s o w.round (phase.Storing stamp) settled w.under_way w.in_phase)
      (λ k. let v = step_seen c n steps s o key w.round (phase.Storing stamp) z e w.under_way (ap work_key w.of_work) (ap work_registers w.of_work) w.in_phase k in v.1.0 z v.1.1) l;
  written = λ o key value stamp z w l. below_by c steps key z stamp (owner_at s o).dates.launched (above_opening c n s o w.round (phase.Done (ends.Written stamp)) settled w.under_way w.in_phase)
      (λ k. let v = step_seen c n steps s o key w.round (phase.Done (ends.Written stamp)) z e w.under_way (ap work_key w.of_work) (ap work_registers w.of_work) w.in_phase k in v.1.0 z v.1.1) l;
  read = λ o key cell dep z w l. least_by c steps key z cell.stamp (owner_at s o).dates.launched
      (λ k. let v = step_seen c n steps s o key w.round (phase.Done (ends.Read cell dep)) z e w.under_way (ap work_key w.of_work) (ap work_registers w.of_work) w.in_phase k in v.1.0 z v.1.1) l;
}
  where
    settled : Settled c n s
    settled = settled_run c n steps s (run_is c steps s e)

-- what a call ends with is held
pub ends_run : (c : Config) (steps : List Step) (s : State) → IsInOrder c → run c steps ≡ Some s → EndsHeld s
ends_run c steps s n e = record {
  written = λ o key value stamp w.
      subst (λ (id : ServiceId). is_held (replicas_at s id) key stamp ≡ true) (proper_service c s o w.round key (fine_of c s h.0.0.0.0) w.under_way (ap work_registers w.of_work))
      (subst (PhaseHeld s w.round.service w.round.work) w.in_phase (round_held s o w.round (inr w.under_way) h.1).ended key value w.of_work);
  agreed = λ o key cell w.
      subst (λ (id : ServiceId). is_held (replicas_at s id) key cell.stamp ≡ true) (proper_service c s o w.round key (fine_of c s h.0.0.0.0) w.under_way (ap work_registers w.of_work))
      (subst (PhaseHeld s w.round.service w.round.work) w.in_phase (round_held s o w.round (inr w.under_way) h.1).ended key w.of_work);
  left = λ o key cell dep w. subst (PhaseHeld s w.round.service w.round.work) w.in_phase (round_held s o w.round (inr w.under_way) h.1).ended key w.of_work;
}
  where
    h : Settled c n s
    h = settled_run c n steps s e
