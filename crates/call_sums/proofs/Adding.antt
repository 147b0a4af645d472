-- Sums of what was counted and of what is left.
use Rattle.std.proofs.Common.{◌≡◌, ℕ, ◌+◌, ◌≤◌, Bool, true, false, List, [], ◌∷◌, refl, arith, ap, sym, ◌∙◌}
use Rattle.rss_model.specs.declared.op.Op.{Op}
use Rattle.rss_model.specs.declared.op.Op.TheVariants as op
use Rattle.rss_model.specs.declared.history.Entry.{Entry}
use Rattle.rss_model.specs.declared.history.Entry.TheVariants.{Begin, End, Give, Get, Over}
use Rattle.rss_model.specs.History.{has_ended}
use Rattle.rss_machine.specs.ReportText.{Sums, counts_begin, sums_of}
use Rattle.call_sums.specs.Sums.{after_entry, counts_open}

-- sums together
abbrev pub added : Sums → Sums → Sums
added a b = record {
  reads = a.reads + b.reads;
  writes = a.writes + b.writes;
  snaps = a.snaps + b.snaps;
  txns = a.txns + b.txns;
  not_ended = a.not_ended + b.not_ended;
}

-- what an entry adds to either side, it adds to both together
pub begun_moves : (o : Op) (ended : Bool) (a b : Sums) → added a (counts_begin o ended b) ≡ added (counts_open ended (counts_begin o true a)) b
begun_moves (op.Read key) true a b = grind arith
begun_moves (op.Read key) false a b = grind arith
begun_moves (op.Write key value) true a b = grind arith
begun_moves (op.Write key value) false a b = grind arith
begun_moves (op.Snap keys) true a b = grind arith
begun_moves (op.Snap keys) false a b = grind arith
begun_moves (op.Txn reads guard writes) true a b = grind arith
begun_moves (op.Txn reads guard writes) false a b = grind arith

pub entry_moves : (h : List Entry) (e : Entry) (rest : List Entry) (a : Sums) → added a (sums_of h (e ∷ rest)) ≡ added (after_entry h e a) (sums_of h rest)
entry_moves h (Begin call n o) rest a = begun_moves o (has_ended h call) a (sums_of h rest)
entry_moves h (End call shown) rest a = refl
entry_moves h (Give n token) rest a = refl
entry_moves h (Get n token) rest a = refl
entry_moves h (Over n how) rest a = refl

-- each of these sums is at most a number
pub record AtMost (sums : Sums) (n : ℕ) : Type 0 where
  pub reads : sums.reads ≤ n
  pub writes : sums.writes ≤ n
  pub snaps : sums.snaps ≤ n
  pub txns : sums.txns ≤ n
  pub not_ended : sums.not_ended ≤ n
