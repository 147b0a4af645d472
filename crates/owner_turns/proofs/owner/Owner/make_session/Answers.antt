use Rattle.std.proofs.Common.{◌≡◌, ap, sym, subst, ◌∙◌, List, []}
use Rattle.std.specs.Prelude.{max}
use Rattle.rss_machine.specs.declared.session.OwnerKind.{OwnerKind}
use Rattle.rss_tables.specs.Lines.{lines_of}
use Rattle.rss_tables.specs.TransactionSession.{written_keys}
use Rattle.shard_lines.specs.Flat.{home_in}
use Rattle.owner_sessions.specs.Parts.{TellsTxn, TellsSnap}
use Rattle.owner_turns.specs.Whole.{OwnerView}
use Rattle.owner_turns.specs.Going.{OpensKind, OpensTxn, OpensSnap}
use Rattle.owner_turns.proofs.Roomy.{map_ok, opens_txn, opens_snap}
use Rattle.owner_turns.proofs.owner.Owner.make_session.Goals as goal

pub returns-in-Txn-clause-opens : goal.returns-in-Txn-clause-opens
returns-in-Txn-clause-opens c =
    let kind = ap (λ (v : OwnerView). v.row.kind) c.self.view_is in
    let tells = subst (λ (k : OwnerKind). TellsTxn c.txn-op.result k c.called.result) kind c.txn-op.ensures in
    map_ok c.make_txn.result (OpensTxn (lines_of (home_in c.as_slice.result.now) c.txn-op.result.reads.now (written_keys c.txn-op.result.writes.now)) c.make_txn.new.self.txn) (OpensKind c.args.now.now.config.now c.args.at c.args.self.now.row.works.copy c.make_txn.new.self c.args.self.now.row.kind)
    (λ o. opens_txn c.args.now.now.config.now c.args.at c.args.self.now.row.works.copy c.args.self.now.row.kind c.in-Txn.id c.make_txn.new.self c.txn-op.result c.called.result c.as_slice.result.now (sym c.aim.ensures.aim ∙ c.in-Txn.is) tells c.as_slice.ensures o)
    c.make_txn.ensures.opens

pub returns-in-Snap-clause-opens : goal.returns-in-Snap-clause-opens
returns-in-Snap-clause-opens c =
    let kind = ap (λ (v : OwnerView). v.row.kind) c.self.view_is in
    let tells = subst (λ (k : OwnerKind). TellsSnap c.snap-op.result k c.called-in-Snap.result) kind c.snap-op.ensures in
    map_ok c.make_snap.result (OpensSnap (lines_of (home_in c.as_slice-in-Snap.result.now) c.snap-op.result.keys.now []) (max c.args.at.latest c.snap-op.result.least) c.make_snap.new.self.snap) (OpensKind c.args.now.now.config.now c.args.at c.args.self.now.row.works.copy c.make_snap.new.self c.args.self.now.row.kind)
    (λ o. opens_snap c.args.now.now.config.now c.args.at c.args.self.now.row.works.copy c.args.self.now.row.kind c.in-Snap.id c.make_snap.new.self c.snap-op.result c.called-in-Snap.result c.as_slice-in-Snap.result.now (sym c.aim.ensures.aim ∙ c.in-Snap.is) tells c.called-in-Snap.ensures.least c.as_slice-in-Snap.ensures o)
    c.make_snap.ensures.opens
