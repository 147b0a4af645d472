-- The placed calls of a register in the order of their keys: each read that has ended replied what the last
-- write before it wrote, and a write's place is after the step of its own first round.
use Rattle.std.proofs.Common.{◌≡◌, ℕ, ◌<◌, ◌≤◌, Bool, true, false, List, [], ◌∷◌, All, Option, Some, refl, ap, sym, ◌∙◌, subst, arith}
use Rattle.std.proofs.lemmas.List.Elements.{All-head}
use Rattle.rss_names.specs.declared.service.Key.{Key}
use Rattle.causal_context.specs.declared.dep.Dep.{Dep}
use Rattle.pipeline_lang.specs.declared.config.Config.{Config}
use Rattle.rss_wire.specs.declared.messages.RegReply.{RegReply}
use Rattle.rss_tables.specs.RegisterSession.{RegSession}
use Rattle.rss_tables.specs.declared.register_session.RegEnd.TheVariants as ends
use Rattle.rss_tables.specs.declared.register_session.RegPhase.{RegPhase}
use Rattle.rss_tables.specs.declared.register_session.RegPhase.TheVariants as phase
use Rattle.rss_tables.specs.declared.register_session.RegWork.{RegWork}
use Rattle.rss_tables.specs.declared.register_session.RegWork.TheVariants as work
use Rattle.rss_machine.specs.Effect.{stepped}
use Rattle.rss_machine.specs.Run.{run}
use Rattle.rss_machine.specs.Session.{Session}
use Rattle.rss_machine.specs.State.{State, start, owner_at}
use Rattle.rss_machine.specs.declared.session.Session.TheVariants as session
use Rattle.rss_machine.specs.declared.step.Step.{Step}
use Rattle.world_laws.proofs.Looks.{some_is, none_is_not}
use Rattle.world_laws.proofs.SessionMoves.{session_at}
use Rattle.std.proofs.Common.{◌⊎◌, inl, inr}
use Rattle.std.specs.Prelude.{if◌then◌else◌}
use Rattle.std.proofs.lemmas.Bool.{true≢false}
use Rattle.std.specs.Prelude.{max}
use Rattle.std.proofs.lemmas.Bool.Decides.{nat_tests}
use Rattle.carstamps.specs.declared.carstamp.Carstamp.{Carstamp}
use Rattle.carstamps.specs.Stamp.{stamp_le, stamp_lt, opening_stamp}
use Rattle.rss_tables.specs.RegisterSession.{work_key}
use Rattle.rss_tables.specs.ReplicaRow.{opening_cell}
use Rattle.rss_machine.specs.Marks.{is_held}
use Rattle.rss_machine.specs.Places.{phase_stamp, key_lt}
use Rattle.rss_machine.specs.State.{replicas_at}
use Rattle.rss_machine.specs.Times.{first_held, step_of_stamp, marked_step}
use Rattle.rss_machine.specs.declared.place.PlaceKey.{PlaceKey}
use Rattle.rss_machine.specs.declared.place.PlacePart.TheVariants as part
use Rattle.world_laws.specs.Proper.{work_registers}
use Rattle.world_laws.specs.Registers.{IsRegister}
use Rattle.world_laws.proofs.FileRegisters.{marks_tell_all}
use Rattle.world_laws.proofs.Holders.{held_less}
use Rattle.world_laws.proofs.Later.{le_trans, lt_le}
use Rattle.world_laws.proofs.Marked.{first_one, first_more, first_none}
use Rattle.world_laws.proofs.Named.{SessionOn, owner_on}
use Rattle.reg_laws.specs.Files.{IsInOrder}
use Rattle.reg_laws.specs.Line.{PlacedWrite, write_key, read_key, WriterBefore, BeforeWrites, ReadsLegal, PlacesInside}
use Rattle.reg_laws.specs.Rounds.{Reads, SeesSteps}
use Rattle.reg_laws.specs.Stored.{WasHandled, IsValid}
use Rattle.reg_laws.proofs.Above.{sees_run}
use Rattle.reg_laws.proofs.Base.{Known, named_of, owned_of, known_run}
use Rattle.reg_laws.proofs.Dates.{begun_first}
use Rattle.reg_laws.proofs.Hearing.{round_valid}
use Rattle.reg_laws.proofs.OwnStamps.{phase_stored, PhaseFits, CallRound, StampOwn, OwnStamps, own_stamps_run}
use Rattle.reg_laws.proofs.Rounds.{Settled, settled_run}
use Rattle.reg_laws.proofs.Stores.{StoresIn, StoredBy, Stores, stored_by, named_by, stores_under, stores_start}
use Rattle.reg_laws.proofs.Valid.{AboveIn}

-- a greater stamp has no earlier step
one_least : (c : Config) (key : Key) (z : Carstamp) (steps : List Step) (s : State) → 1 ≤ first_held c s steps key z
one_least c key z [] s = let n = first_none c s key z in omega (arith, n)
one_least c key z (step ∷ steps) s = by_held (is_held (replicas_at (stepped c s step) key.service) key z) refl
  where
    by_held : (b : Bool) → is_held (replicas_at (stepped c s step) key.service) key z ≡ b → 1 ≤ first_held c s (step ∷ steps) key z
    by_held true e = let n = first_one c s step steps key z e in omega (arith, n)
    by_held false e = let n = first_more c s step steps key z e in omega (arith, n)

first_rises : (c : Config) (key : Key) (z y : Carstamp) (steps : List Step) (s : State) → stamp_le z y ≡ true → first_held c s steps key z ≤ first_held c s steps key y
first_rises c key z y [] s l = let n = first_none c s key z in let m = first_none c s key y in omega (arith, n, m)
first_rises c key z y (step ∷ steps) s l = by_held (is_held (replicas_at v key.service) key z) (is_held (replicas_at v key.service) key y) refl refl (first_rises c key z y steps v l)
  where
    v : State
    v = stepped c s step

    by_held : (a b : Bool) → is_held (replicas_at v key.service) key z ≡ a → is_held (replicas_at v key.service) key y ≡ b → first_held c v steps key z ≤ first_held c v steps key y → first_held c s (step ∷ steps) key z ≤ first_held c s (step ∷ steps) key y
    by_held true b e f ih = let n = first_one c s step steps key z e in let m = one_least c key y (step ∷ steps) s in omega (arith, n, m)
    by_held false false e f ih = let n = first_more c s step steps key z e in let m = first_more c s step steps key y f in omega (arith, n, m, ih)
    by_held false true e f ih = absurd (true≢false (sym (held_less key z y (replicas_at v key.service) l f) ∙ e))

pub step_rises : (c : Config) (key : Key) (z y : Carstamp) (steps : List Step) → stamp_le z y ≡ true → step_of_stamp c steps key z ≤ step_of_stamp c steps key y
step_rises c key z y steps l = by_opening (stamp_le z opening_stamp) (stamp_le y opening_stamp) refl refl
  where
    by_opening : (a b : Bool) → stamp_le z opening_stamp ≡ a → stamp_le y opening_stamp ≡ b → (if a then 0 else first_held c (start c) steps key z) ≤ (if b then 0 else first_held c (start c) steps key y)
    by_opening true b e f = omega arith
    by_opening false false e f = first_rises c key z y steps (start c) l
    by_opening false true e f = absurd (true≢false (sym (le_trans z y opening_stamp l f) ∙ e))

-- stamps, by their tests
not_below_itself : (z : Carstamp) → stamp_lt z z ≡ true → ⊥
not_below_itself z e = grind (arith, nat_tests)

below_not_least : (z y : Carstamp) → stamp_lt z y ≡ true → stamp_le y z ≡ true → ⊥
below_not_least z y e f = grind (arith, nat_tests)

three_ways : (z y : Carstamp) → (stamp_lt z y ≡ true) ⊎ ((stamp_lt y z ≡ true) ⊎ ((z.number ≡ y.number) × (z.call ≡ y.call)))
three_ways z y = grind (arith, nat_tests)

-- keys of register calls, by their parts
abbrev keyed : ℕ → ℕ → Carstamp → Bool → ℕ → PlaceKey
keyed step index stamp reads call = record { step = step; part = part.Register index stamp reads call }

pub by_step : (m k i j : ℕ) (z y : Carstamp) (a b : Bool) (o p : ℕ) → m < k → key_lt (keyed m i z a o) (keyed k j y b p) ≡ true
by_step m k i j z y a b o p l = grind (arith, nat_tests, l)

by_stamp : (m k i : ℕ) (z y : Carstamp) (a b : Bool) (o p : ℕ) → m ≤ k → stamp_lt z y ≡ true → key_lt (keyed m i z a o) (keyed k i y b p) ≡ true
by_stamp m k i z y a b o p l e = by_number (ltb-true-or m k l)
  where
    ltb-true-or : (m k : ℕ) → m ≤ k → (m < k) ⊎ (m ≡ k)
    ltb-true-or m k l = grind (arith, l)

    by_number : (m < k) ⊎ (m ≡ k) → key_lt (keyed m i z a o) (keyed k i y b p) ≡ true
    by_number (inl f) = by_step m k i i z y a b o p f
    by_number (inr f) = grind (arith, nat_tests, f, e)

by_kind : (m k i : ℕ) (z : Carstamp) (o p : ℕ) → m ≤ k → key_lt (keyed m i z false o) (keyed k i z true p) ≡ true
by_kind m k i z o p l = grind (arith, nat_tests, l)

-- the phase of a placed write
placed_phase : (key : Key) (value : ℕ) (p : RegPhase) (stamp : Carstamp) → PhaseFits (work.Write key value) p → phase_stamp p ≡ Some stamp → (p ≡ phase.Storing stamp) ⊎ (p ≡ phase.Done (ends.Written stamp))
placed_phase key value phase.Fixing stamp f e = absurd f
placed_phase key value phase.Asking stamp f e = absurd f
placed_phase key value phase.Stamping stamp f e = absurd (none_is_not stamp e)
placed_phase key value (phase.Storing z) stamp f e = inl (ap phase.Storing (some_is z stamp e))
placed_phase key value (phase.Done (ends.Written z)) stamp f e = inr (ap (λ (x : Carstamp). phase.Done (ends.Written x)) (some_is z stamp e))
placed_phase key value (phase.Done (ends.Read cell dep)) stamp f e = absurd f
placed_phase key value (phase.Done ends.Fixed) stamp f e = absurd f

module _ (c : Config) (n : IsInOrder c) (steps : List Step) (s : State) (e : run c steps ≡ Some s) where
  settled : Settled c n s
  settled = settled_run c n steps s e

  sees : SeesSteps c steps s
  sees = sees_run c steps s n e

  stamps : OwnStamps s
  stamps = own_stamps_run c steps s n.names e

  known : Known c s
  known = settled.0.0.0.0

  stores : Stores s
  stores = (known_run c n.names Stores (λ t o. Stores t) (stores_under c) (λ t at k. record { stores = k.stores }) (stores_start c) steps s e).1

  -- the register of a call's round is the file's
  pub register_of : (o : ℕ) (r : RegSession) (key : Key) → session_at s o ≡ session.Register r → work_registers r.work ≡ key ∷ [] → IsRegister c key
  register_of o r key x w = All-head (IsRegister c) key [] (subst (All (IsRegister c)) w (subst (SessionOn (IsRegister c)) x (owner_on (IsRegister c) s o (named_of c s known).owners).under_way).work)

  pub tells : (key : Key) (z : Carstamp) → IsRegister c key → step_of_stamp c steps key z ≡ marked_step s key z
  tells key z g = marks_tell_all c key z steps s n.names g e

  rises : (key : Key) (z y : Carstamp) → IsRegister c key → stamp_le z y ≡ true → marked_step s key z ≤ marked_step s key y
  rises key z y g l = let a = tells key z g in let b = tells key y g in let k = step_rises c key z y steps l in omega (arith, a, b, k)

  module _ (o : ℕ) (key : Key) (value : ℕ) (stamp : Carstamp) (w : PlacedWrite s o key value stamp) where
    write_register : IsRegister c key
    write_register = register_of o w.round key w.under_way (ap work_registers w.of_work)

    call_round : CallRound o w.round
    call_round = subst (StampOwn o) w.under_way (stamps.each o)

    write_phase : (w.round.phase ≡ phase.Storing stamp) ⊎ (w.round.phase ≡ phase.Done (ends.Written stamp))
    write_phase = placed_phase key value w.round.phase stamp (subst (λ (x : RegWork). PhaseFits x w.round.phase) w.of_work call_round.fits) w.with_stamp

    write_call : stamp.call ≡ o
    write_call = by_phase write_phase
      where
        by_phase : (w.round.phase ≡ phase.Storing stamp) ⊎ (w.round.phase ≡ phase.Done (ends.Written stamp)) → stamp.call ≡ o
        by_phase (inl p) = call_round.own stamp (ap phase_stored p)
        by_phase (inr p) = call_round.own stamp (ap phase_stored p)

    write_above : 0 < stamp.number
    write_above = by_phase write_phase
      where
        valid : AboveIn w.round.phase
        valid = (round_valid c s s o w.round (inr w.under_way) settled.0.0.0.1).above

        by_phase : (w.round.phase ≡ phase.Storing stamp) ⊎ (w.round.phase ≡ phase.Done (ends.Written stamp)) → 0 < stamp.number
        by_phase (inl p) = subst AboveIn p valid
        by_phase (inr p) = subst AboveIn p valid

    -- a write sees each stamp whose step is not later than its own first round's
    write_sees : (z : Carstamp) → step_of_stamp c steps key z ≤ (owner_at s o).dates.launched → stamp_lt z stamp ≡ true
    write_sees z l = by_phase write_phase
      where
        by_phase : (w.round.phase ≡ phase.Storing stamp) ⊎ (w.round.phase ≡ phase.Done (ends.Written stamp)) → stamp_lt z stamp ≡ true
        by_phase (inl p) = sees.stored o key value stamp z (record { round = w.round; under_way = w.under_way; of_work = w.of_work; in_phase = p }) l
        by_phase (inr p) = sees.written o key value stamp z (record { round = w.round; under_way = w.under_way; of_work = w.of_work; in_phase = p }) l

    -- so its own step is later
    write_late : (owner_at s o).dates.launched < marked_step s key stamp
    write_late = by_order (order (owner_at s o).dates.launched (step_of_stamp c steps key stamp))
      where
        order : (m k : ℕ) → (m < k) ⊎ (k ≤ m)
        order m k = grind arith

        by_order : ((owner_at s o).dates.launched < step_of_stamp c steps key stamp) ⊎ (step_of_stamp c steps key stamp ≤ (owner_at s o).dates.launched) → (owner_at s o).dates.launched < marked_step s key stamp
        by_order (inl l) = subst (λ (k : ℕ). (owner_at s o).dates.launched < k) (tells key stamp write_register) l
        by_order (inr l) = absurd (not_below_itself stamp (write_sees stamp l))

  module _ (o : ℕ) (key : Key) (cell : RegReply) (dep : Option Dep) (r : Reads s o key (phase.Done (ends.Read cell dep))) where
    read_register : IsRegister c key
    read_register = register_of o r.round key r.under_way (ap work_registers r.of_work)

    read_valid : IsValid s key cell
    read_valid = (round_valid c s s o r.round (inr r.under_way) settled.0.0.0.1).cells key cell dep (ap work_key r.of_work) r.in_phase

    -- a stamp above what was read has a step after the read's own round
    read_late : (z : Carstamp) → stamp_lt cell.stamp z ≡ true → (owner_at s o).dates.launched < marked_step s key z
    read_late z f = by_order (order (owner_at s o).dates.launched (step_of_stamp c steps key z))
      where
        order : (m k : ℕ) → (m < k) ⊎ (k ≤ m)
        order m k = grind arith

        by_order : ((owner_at s o).dates.launched < step_of_stamp c steps key z) ⊎ (step_of_stamp c steps key z ≤ (owner_at s o).dates.launched) → (owner_at s o).dates.launched < marked_step s key z
        by_order (inl l) = subst (λ (k : ℕ). (owner_at s o).dates.launched < k) (tells key z read_register) l
        by_order (inr l) = absurd (below_not_least cell.stamp z f (sees.read o key cell dep z r l))

    -- so a write of such a stamp stands after the read
    after_read_key : (a value : ℕ) (stamp : Carstamp) → stamp_lt cell.stamp stamp ≡ true → key_lt (read_key s o key cell.stamp) (write_key s a key stamp) ≡ true
    after_read_key a value stamp f =
        by_stamp (max (marked_step s key cell.stamp) (owner_at s o).dates.launched) (marked_step s key stamp) key.index cell.stamp stamp true false o a
        (let l = read_late stamp f in let k = rises key cell.stamp stamp read_register (lt_le cell.stamp stamp f) in at_most_max (marked_step s key cell.stamp) (owner_at s o).dates.launched (marked_step s key stamp) k l) f
      where
        at_most_max : (m k b : ℕ) → m ≤ b → k < b → max m k ≤ b
        at_most_max m k b l f = grind (arith, l, f)

    by_opening : cell ≡ opening_cell → BeforeWrites s o key cell
    by_opening f = record { opening = f; others = λ a value stamp w. after_read_key a value stamp (opening_below a value stamp w) }
      where
        opening_lt : (z : Carstamp) → 0 < z.number → stamp_lt opening_stamp z ≡ true
        opening_lt z l = grind (arith, nat_tests, l)

        opening_below : (a value : ℕ) (stamp : Carstamp) → PlacedWrite s a key value stamp → stamp_lt cell.stamp stamp ≡ true
        opening_below a value stamp w = subst (λ (x : RegReply). stamp_lt x.stamp stamp ≡ true) (sym f) (opening_lt stamp (write_above a key value stamp w))

    -- the writer is placed
    writer_placed : WasHandled s key cell → PlacedWrite s cell.writer key cell.value cell.stamp
    writer_placed h =
        let by = (named_by s key cell h.stored (owned_of c s known).messages).0 in
        of_session (session_at s cell.writer) refl (subst (λ (i : ℕ). StoredBy (session_at s i) key cell.value cell.stamp) (sym by) (stored_by s key cell h.stored stores))
      where
        in_phase_stamp : (p : RegPhase) (z : Carstamp) → StoresIn p z → phase_stamp p ≡ Some z
        in_phase_stamp (phase.Storing x) z f = ap Some f
        in_phase_stamp (phase.Done (ends.Written x)) z f = ap Some f
        in_phase_stamp (phase.Done ends.Fixed) z f = absurd f
        in_phase_stamp (phase.Done (ends.Read d e)) z f = absurd f
        in_phase_stamp phase.Fixing z f = absurd f
        in_phase_stamp phase.Asking z f = absurd f
        in_phase_stamp phase.Stamping z f = absurd f

        of_session : (x : Session) → session_at s cell.writer ≡ x → StoredBy x key cell.value cell.stamp → PlacedWrite s cell.writer key cell.value cell.stamp
        of_session (session.Register f) x d = record { round = f; under_way = x; of_work = d.work; with_stamp = in_phase_stamp f.phase cell.stamp d.phase; handled = h.handled }
        of_session session.Idle x d = absurd d
        of_session (session.Fixing f) x d = absurd d
        of_session (session.Transaction t) x d = absurd d
        of_session (session.Snapshot t) x d = absurd d
        of_session (session.Settling attempt shards) x d = absurd d

    by_writer : WasHandled s key cell → WriterBefore s o key cell
    by_writer h = record { placed = placed; before = by_kind (marked_step s key cell.stamp) (max (marked_step s key cell.stamp) (owner_at s o).dates.launched) key.index cell.stamp cell.writer o (at_least_max (marked_step s key cell.stamp) (owner_at s o).dates.launched); others = others }
      where
        placed : PlacedWrite s cell.writer key cell.value cell.stamp
        placed = writer_placed h

        at_least_max : (m k : ℕ) → m ≤ max m k
        at_least_max m k = grind arith

        others : (a value : ℕ) (stamp : Carstamp) → PlacedWrite s a key value stamp → (a ≡ cell.writer → ⊥) → (key_lt (write_key s a key stamp) (write_key s cell.writer key cell.stamp) ≡ true) ⊎ (key_lt (read_key s o key cell.stamp) (write_key s a key stamp) ≡ true)
        others a value stamp w ne = by_ways (three_ways stamp cell.stamp)
          where
            by_ways : (stamp_lt stamp cell.stamp ≡ true) ⊎ ((stamp_lt cell.stamp stamp ≡ true) ⊎ ((stamp.number ≡ cell.stamp.number) × (stamp.call ≡ cell.stamp.call))) → (key_lt (write_key s a key stamp) (write_key s cell.writer key cell.stamp) ≡ true) ⊎ (key_lt (read_key s o key cell.stamp) (write_key s a key stamp) ≡ true)
            by_ways (inl l) = inl (by_stamp (marked_step s key stamp) (marked_step s key cell.stamp) key.index stamp cell.stamp false false a cell.writer (rises key stamp cell.stamp read_register (lt_le stamp cell.stamp l)) l)
            by_ways (inr (inl l)) = inr (after_read_key a value stamp l)
            by_ways (inr (inr d)) = absurd (ne (sym (write_call a key value stamp w) ∙ (d.1 ∙ write_call cell.writer key cell.value cell.stamp placed)))

    read_is_legal : BeforeWrites s o key cell ⊎ WriterBefore s o key cell
    read_is_legal = by_valid read_valid
      where
        by_valid : IsValid s key cell → BeforeWrites s o key cell ⊎ WriterBefore s o key cell
        by_valid (inl f) = inl (by_opening f)
        by_valid (inr h) = inr (by_writer h)

pub legal_run : (c : Config) (steps : List Step) (s : State) → IsInOrder c → run c steps ≡ Some s → ReadsLegal s
legal_run c steps s n e = record { read = λ o key cell dep r. read_is_legal c n steps s e o key cell dep r }

pub inside_run : (c : Config) (steps : List Step) (s : State) → IsInOrder c → run c steps ≡ Some s → PlacesInside s
inside_run c steps s n e = record {
  write = λ o key value stamp w. write_late c n steps s e o key value stamp w;
  read = λ o key stamp. at_least_max (marked_step s key stamp) (owner_at s o).dates.launched;
  begun = λ o l. begun_first c steps s e o l;
}
  where
    at_least_max : (m k : ℕ) → k ≤ max m k
    at_least_max m k = grind arith
