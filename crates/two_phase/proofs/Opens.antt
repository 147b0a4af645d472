-- A session that has sent nothing yet.
use Rattle.std.proofs.Common.{◌≡◌, ℕ, List, ap, ◌∙◌}
use Rattle.rss_names.specs.declared.service.Key.{Key}
use Rattle.rss_tables.specs.Lines.{Line, lines_of}
use Rattle.rss_tables.specs.TransactionSession.{written_keys}
use Rattle.rss_tables.specs.declared.phases.TxnPhase.TheVariants as phase
use Rattle.two_phase.specs.Session.{txn_of, opening_of}
use Rattle.two_phase.specs.declared.txn.Txn.{Txn}

pub opens : (home : ℕ → ℕ) (op : Txn) (lines : List Line) (keys : List Key) (room : ℕ) → lines ≡ lines_of home op.reads.now keys → keys ≡ written_keys op.writes.now → txn_of op (record { k = 1; phase = phase.Locking; earliest_end = 0; lines = lines; room = room }) ≡ opening_of home op
opens home op lines keys room l e = ap (λ (ls : List Line). txn_of op (record { k = 1; phase = phase.Locking; earliest_end = 0; lines = ls; room = room })) (l ∙ ap (lines_of home op.reads.now) e)
