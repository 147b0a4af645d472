-- The slot of a current exchange is that of a replica, or of a line's shard.
use Rattle.std.proofs.Common.{◌≡◌, ℕ, zero, suc, ◌-◌, ◌<◌, ◌≤◌, Bool, true, ◌==◌, List, [], ◌∷◌, length, get_or, Option, Some, None, refl, sym, subst, arith}
use Rattle.std.proofs.lemmas.Bool.{cond_both}
use Rattle.rss_names.specs.declared.service.Target.{Target}
use Rattle.pipeline_lang.specs.declared.config.Config.{Config}
use Rattle.rss_wire.specs.declared.message.Message.{Message}
use Rattle.rss_wire.specs.declared.messages.Request.{Request}
use Rattle.rss_tables.specs.Lines.{Line, shards_of}
use Rattle.rss_tables.specs.Outs.{slot_shard}
use Rattle.rss_machine.specs.Effect.{least_shard}
use Rattle.rss_machine.specs.Session.{Session}
use Rattle.rss_machine.specs.State.{State, owner_at}
use Rattle.rss_machine.specs.declared.session.Session.TheVariants as session
use Rattle.owner_turns.specs.Going.{SlotFits}
use Rattle.shard_lines.specs.Flat.{has_line}
use Rattle.session_laws.specs.Frames.{nth_line}
use Rattle.reg_laws.specs.Awaited.{IsAwaited, CurrentsAwaited}
use Rattle.txn_state_laws.specs.Awaited.{LineAwaits, AllAwaited}
use Rattle.txn_state_laws.specs.Framed.{LinesFit, AllFramed}
use Rattle.run_laws.specs.Facts.{SessionsFew}

-- a line of a place is found by its shard
line_there : (lines : List Line) (place : ℕ) → place < length lines → has_line lines (nth_line lines place).shard ≡ true
line_there [] place h = absurd (omega (arith, h))
line_there (l ∷ lines) zero h = grind arith
line_there (l ∷ lines) (suc place) h =
    let shard = (nth_line lines place).shard in
    cond_both (l.shard == shard) true (has_line lines shard) (λ (b : Bool). b ≡ true) (λ e. refl) (λ e. line_there lines place (omega (arith, h)))

line_fits : (c : Config) (net : List Message) (o slot m : ℕ) (lines : List Line) (awaits : Line → Option (Target × Request)) → length c.shard_services ≤ 16 → LinesFit c lines → LineAwaits net o slot m lines awaits → (slot < 23) × ((7 ≤ slot) × (has_line lines (slot_shard slot) ≡ true))
line_fits c net o slot m lines awaits n f h =
    let first = f.first h.place h.inside in
    let last = f.last h.place h.inside in
    let e = h.of_line in
    let g : (nth_line lines h.place).shard ≡ slot - 6 = omega (arith, e) in
    (omega (arith, n, last, e), (omega (arith, first, e), subst (λ (shard : ℕ). has_line lines shard ≡ true) g (line_there lines h.place h.inside)))

-- the first of the shards of lines
least_few : (c : Config) (lines : List Line) → length c.shard_services ≤ 16 → LinesFit c lines → least_shard (shards_of lines) ≤ 16
least_few c [] n f = omega arith
least_few c (l ∷ lines) n f = let last : l.shard ≤ length c.shard_services = f.last 0 (omega arith) in omega (arith, n, last)

module _ (c : Config) (s : State) (n : length c.shard_services ≤ 16) (few : SessionsFew s) (currents : CurrentsAwaited s) (framed : AllFramed c s) (lines : AllAwaited s) where
  at_session : (o slot m : ℕ) (x : Session) → (owner_at s o).session ≡ x → get_or (owner_at s o).currents slot None ≡ Some m → IsAwaited s.net o x slot m → (slot < 23) × SlotFits x slot
  at_session o slot m session.Idle e g a = absurd a
  at_session o slot m (session.Fixing r) e g a = let w = a.within in let k = few.fixing o r e in (omega (arith, w, k), omega (arith, w, k))
  at_session o slot m (session.Register r) e g a = let w = a.within in let k = few.register o r e in (omega (arith, w, k), omega (arith, w, k))
  at_session o slot m (session.Transaction t) e g a = line_fits c s.net o slot m t.lines _ n (framed.txn o t e).lines (lines.txn o slot m t e g)
  at_session o slot m (session.Snapshot t) e g a = line_fits c s.net o slot m t.lines _ n (framed.snap o t e).lines (lines.snap o slot m t e g)
  at_session o slot m (session.Settling attempt shards) e g a =
      let stub = framed.stub o attempt shards (framed.settles o attempt shards e) in
      let k : least_shard shards ≤ 16 = subst (λ (xs : List ℕ). least_shard xs ≤ 16) (sym stub.shards_are) (least_few c stub.txn.lines n (framed.txn attempt.call stub.txn stub.of.under_way).lines) in
      (omega (arith, a, k), tt)

  pub slot_fits : (o slot m : ℕ) → get_or (owner_at s o).currents slot None ≡ Some m → (slot < 23) × SlotFits (owner_at s o).session slot
  slot_fits o slot m g = at_session o slot m (owner_at s o).session refl g (currents.awaited o slot m g)
