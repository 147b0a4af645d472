-- A history: what its entries say of each call. Calls are numbered from 1.
use Rattle.std.specs.Prelude.{ℕ, ◌==◌, ◌||◌, Bool, false, if◌then◌else◌, List, [], ◌∷◌, get_or, IsTrue}
use Rattle.rss_model.specs.declared.op.Op.{Op}
use Rattle.rss_model.specs.declared.op.Op.TheVariants.{Snap}
use Rattle.rss_model.specs.declared.op.Shown.{Shown}
use Rattle.rss_model.specs.declared.history.Entry.{Entry}
use Rattle.rss_model.specs.declared.history.Entry.TheVariants.{Begin, End, Give, Get, Over}
use Rattle.rss_model.specs.declared.history.How.TheVariants.{Exited}

-- the entry at a place of a history, oldest first, counted from 0; past the end one of no stage
abbrev pub entry_at : List Entry → ℕ → Entry
entry_at h i = get_or h i (Over 0 Exited)

-- whether an entry begins this call
abbrev pub begins : ℕ → Entry → Bool
begins call (Begin c stage op) = c == call
begins call (End c reply) = false
begins call (Give stage token) = false
begins call (Get stage token) = false
begins call (Over stage how) = false

-- whether an entry ends this call
abbrev pub ends : ℕ → Entry → Bool
ends call (Begin c stage op) = false
ends call (End c reply) = c == call
ends call (Give stage token) = false
ends call (Get stage token) = false
ends call (Over stage how) = false

-- the operation that an entry begins; else one that reads and writes nothing
abbrev pub op_in : Entry → Op
op_in (Begin c stage op) = op
op_in (End c reply) = Snap []
op_in (Give stage token) = Snap []
op_in (Get stage token) = Snap []
op_in (Over stage how) = Snap []

-- the reply with which an entry ends a call
abbrev pub reply_in : Entry → List Shown
reply_in (Begin c stage op) = []
reply_in (End c reply) = reply
reply_in (Give stage token) = []
reply_in (Get stage token) = []
reply_in (Over stage how) = []

-- whether a call has begun
unfoldable pub has_begun : List Entry → ℕ → Bool
has_begun [] call = false
has_begun (e ∷ h) call = begins call e || has_begun h call

-- whether a call has ended
unfoldable pub has_ended : List Entry → ℕ → Bool
has_ended [] call = false
has_ended (e ∷ h) call = ends call e || has_ended h call

-- the operation of a call; before its Begin one that reads and writes nothing
unfoldable pub op_of : List Entry → ℕ → Op
op_of [] call = Snap []
op_of (e ∷ h) call = if begins call e then op_in e else op_of h call

-- what an ended call replied, in the order of the keys that it reads
unfoldable pub reply_of : List Entry → ℕ → List Shown
reply_of [] call = []
reply_of (e ∷ h) call = if ends call e then reply_in e else reply_of h call

-- a call begins at a place
abbrev pub BeginsAt : List Entry → ℕ → ℕ → Type 0
BeginsAt h call i = IsTrue (begins call (entry_at h i))

-- a call ends at a place
abbrev pub EndsAt : List Entry → ℕ → ℕ → Type 0
EndsAt h call i = IsTrue (ends call (entry_at h i))
