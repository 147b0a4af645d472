-- What stubs are: what they settle has shards, and what they have under way may begin a session.
use Rattle.std.proofs.Common.{◌≡◌, ℕ, ◌≤◌, true, false, List, length, Option, Some, None, refl, ap, sym, ◌∙◌, arith}
use Rattle.std.proofs.lemmas.Bool.{true≢false}
use Rattle.std.proofs.lemmas.List.{length-map}
use Rattle.rss_names.specs.declared.attempt.Attempt.{Attempt}
use Rattle.pipeline_lang.specs.declared.config.Config.{Config}
use Rattle.rss_tables.specs.Lines.{Line}
use Rattle.rss_tables.specs.declared.register_session.RegWork.{RegWork}
use Rattle.rss_tables.specs.declared.register_session.RegWork.TheVariants as work
use Rattle.rss_machine.specs.Session.{Session}
use Rattle.rss_machine.specs.State.{State, Owner}
use Rattle.rss_machine.specs.declared.session.OwnerKind.{OwnerKind}
use Rattle.rss_machine.specs.declared.session.Session.TheVariants as session
use Rattle.world_laws.specs.Calls.{is_stub}
use Rattle.owner_turns.specs.Going.{may_start}
use Rattle.reg_laws.specs.Agree.{WorkAgrees, Agrees}
use Rattle.txn_state_laws.specs.Framed.{AllFramed, StubFramed}
use Rattle.run_laws.specs.Facts.{SessionsFew}

-- what a stub settles has one shard at least and sixteen at most
pub settles_few : (c : Config) (s : State) (a : Attempt) (shards : List ℕ) → AllFramed c s → SessionsFew s → StubFramed s a shards → (1 ≤ length shards) × (length shards ≤ 16)
settles_few c s a shards f g stub =
    let some = (f.txn a.call stub.txn stub.of.under_way).lines.some in
    let few = g.txn a.call stub.txn stub.of.under_way in
    let n = ap (λ (xs : List ℕ). length xs) stub.shards_are in
    let m = length-map stub.txn.lines (λ (l : Line). l.shard) in
    (omega (arith, some, n, m), omega (arith, few, n, m))

-- rounds of a call are none of a stub
work_calls : (x : RegWork) (k : OwnerKind) → WorkAgrees x k → is_stub k ≡ false
work_calls (work.Read key) k h = ap is_stub h
work_calls (work.Write key value) k h = ap is_stub h
work_calls (work.Fix deps) k h = absurd h

-- a stub has no call under way
stub_rests : (w : Owner) (x : Session) → is_stub w.kind ≡ true → Agrees w x → may_start None x ≡ true
stub_rests w session.Idle e h = refl
stub_rests w (session.Fixing r) e h = refl
stub_rests w (session.Settling attempt shards) e h = refl
stub_rests w (session.Register r) e h = absurd (true≢false (sym e ∙ work_calls r.work w.kind h.of_kind))
stub_rests w (session.Transaction t) e h = absurd (true≢false (sym e ∙ ap is_stub h.of_kind))
stub_rests w (session.Snapshot t) e h = absurd (true≢false (sym e ∙ ap is_stub h.of_kind))

pub stub_starts : (w : Owner) (wait : Option ℕ) → is_stub w.kind ≡ true → Agrees w w.session → may_start wait w.session ≡ true
stub_starts w (Some time) e h = refl
stub_starts w None e h = stub_rests w w.session e h
