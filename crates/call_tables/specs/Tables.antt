-- Tables by the number of a call: what was first noted of each.
use Rattle.std.specs.Prelude.{◌≡◌, ℕ, suc, ◌==◌, Bool, List, [], ◌∷◌, get_or, Option, Some, None, if◌then◌else◌}
use Rattle.rss_model.specs.declared.history.Entry.{Entry}
use Rattle.rss_model.specs.declared.history.Entry.TheVariants.{Begin, End, Give, Get, Over}
use Rattle.rss_model.specs.declared.op.Op.{Op}
use Rattle.rss_model.specs.declared.op.Shown.{Shown}
use Rattle.rss_model.specs.History.{begins, ends, entry_at}

-- what a table holds of a number
abbrev pub held : List (Option ℕ) → ℕ → Option ℕ
held table n = get_or table n None

-- of two the first that there is
abbrev pub first_of : Option ℕ → Option ℕ → Option ℕ
first_of None other = other
first_of (Some x) other = Some x

-- a value, of this number alone
abbrev pub only_at : ℕ → ℕ → ℕ → Option ℕ
only_at number value n = if number == n then Some value else None

-- the place of an entry, if it says this
abbrev pub here_if : Bool → ℕ → Option ℕ
here_if b at = if b then Some at else None

-- the place of the first entry of which a test of a call is true, where the first entry has this place
abbrev pub found_from : (ℕ → Entry → Bool) → ℕ → List Entry → ℕ → Option ℕ
found_from test at [] call = None
found_from test at (e ∷ h) call = if test call e then Some at else found_from test (suc at) h call

-- the operation that an entry begins, if it begins one
abbrev pub begun_op : Entry → Option Op
begun_op (Begin call stage op) = Some op
begun_op (End call reply) = None
begun_op (Give stage token) = None
begun_op (Get stage token) = None
begun_op (Over stage how) = None

-- the reply with which an entry ends a call, if it ends one
abbrev pub ended_reply : Entry → Option (List Shown)
ended_reply (Begin call stage op) = None
ended_reply (End call reply) = Some reply
ended_reply (Give stage token) = None
ended_reply (Get stage token) = None
ended_reply (Over stage how) = None

-- the same of the entry at a place, if there is one
abbrev pub op_at : List Entry → ℕ → Option Op
op_at h at = begun_op (entry_at h at)

abbrev pub reply_at : List Entry → ℕ → Option (List Shown)
reply_at h at = ended_reply (entry_at h at)

-- of each call one table holds where it begins, and the other one where it ends
pub record AreTables (h : List Entry) (begun ended : List (Option ℕ)) : Type 0 where
  pub beginning : (call : ℕ) → held begun call ≡ found_from begins 0 h call
  pub ending : (call : ℕ) → held ended call ≡ found_from ends 0 h call
