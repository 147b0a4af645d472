-- What the entry at a place says of the call that it begins or ends.
use Rattle.std.specs.Prelude.{ℕ, List, Option, Some, None, slice_get}
use Rattle.rss_model.specs.declared.op.Op.{Op}
use Rattle.rss_model.specs.declared.op.Shown.{Shown}
use Rattle.rss_model.specs.declared.history.Entry.{Entry}
use Rattle.rss_model.specs.declared.history.Entry.TheVariants.{Begin, End, Give, Get, Over}

-- the operation that an entry, if there is one, begins
abbrev pub op_started : Option Entry → Option Op
op_started None = None
op_started (Some (Begin call stage op)) = Some op
op_started (Some (End call reply)) = None
op_started (Some (Give stage token)) = None
op_started (Some (Get stage token)) = None
op_started (Some (Over stage how)) = None

-- the stage of the call that it begins
abbrev pub stage_started : Option Entry → Option ℕ
stage_started None = None
stage_started (Some (Begin call stage op)) = Some stage
stage_started (Some (End call reply)) = None
stage_started (Some (Give stage token)) = None
stage_started (Some (Get stage token)) = None
stage_started (Some (Over stage how)) = None

-- the reply with which it ends a call
abbrev pub reply_given : Option Entry → Option (List Shown)
reply_given None = None
reply_given (Some (Begin call stage op)) = None
reply_given (Some (End call reply)) = Some reply
reply_given (Some (Give stage token)) = None
reply_given (Some (Get stage token)) = None
reply_given (Some (Over stage how)) = None

abbrev pub op_there : List Entry → ℕ → Option Op
op_there h place = op_started (slice_get h place)

abbrev pub stage_there : List Entry → ℕ → Option ℕ
stage_there h place = stage_started (slice_get h place)

abbrev pub reply_there : List Entry → ℕ → Option (List Shown)
reply_there h place = reply_given (slice_get h place)
