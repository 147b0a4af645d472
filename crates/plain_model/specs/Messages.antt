-- Tests of what reaches a place of a history by messages.
use Rattle.std.specs.Prelude.{ℕ, ◌||◌, ◌&&◌, ◌==◌, nat_le, Bool, false, List, [], ◌∷◌, ◌++◌, Option, Some, None}
use Rattle.rss_model.specs.Tokens.{same_token}
use Rattle.rss_model.specs.declared.op.Shown.{Shown}
use Rattle.rss_model.specs.declared.history.Entry.{Entry}
use Rattle.rss_model.specs.declared.history.Entry.TheVariants.{Begin, End, Give, Get, Over}
use Rattle.rss_model.specs.declared.history.Token.{Token}
use Rattle.rss_model.specs.declared.history.Token.TheVariants.{Spawn, Chunk, Exit}
use Rattle.rss_model.specs.History.{begins, ends}
use Rattle.rss_model.specs.Stages.{entry_stage}
use Rattle.plain_model.specs.Found.{found_reply}

-- whether an entry gets this token
abbrev pub gets : Token → Entry → Bool
gets token (Begin call stage op) = false
gets token (End call reply) = false
gets token (Give stage given) = false
gets token (Get stage got) = same_token token got
gets token (Over stage how) = false

-- whether an entry gives the token that another one gets
abbrev pub carries : Entry → Entry → Bool
carries (Begin call stage op) e = false
carries (End call reply) e = false
carries (Give stage token) e = gets token e
carries (Get stage token) e = false
carries (Over stage how) e = false

-- whether an entry leads to a later one: along its stage, or by the token that it gives
abbrev pub leads : List Entry → Entry → Entry → Bool
leads h k e = (entry_stage h k == entry_stage h e) || carries k e

-- whether one of the marked entries leads to this one
abbrev pub leads_from : List Entry → List Bool → List Entry → Entry → Bool
leads_from h [] above e = false
leads_from h (mark ∷ marks) [] e = false
leads_from h (mark ∷ marks) (k ∷ above) e = (mark && leads h k e) || leads_from h marks above e

-- marks for the places above, and for each further entry: whether a call is behind it
abbrev pub behind_from : List Entry → ℕ → List Bool → List Entry → List Bool
behind_from h call marks [] = marks
behind_from h call marks (e ∷ rest) =
    behind_from h call (marks ++ (ends call e || leads_from h marks h e) ∷ []) rest

-- for each place of a history whether a call is behind it
abbrev pub behind : List Entry → ℕ → List Bool
behind h call = behind_from h call [] h

-- whether a call begins at a marked place
abbrev pub begins_marked : List Bool → List Entry → ℕ → Bool
begins_marked [] h call = false
begins_marked (mark ∷ marks) [] call = false
begins_marked (mark ∷ marks) (e ∷ h) call = (mark && begins call e) || begins_marked marks h call

-- whether this call wrote what was shown; writer 0 is no call
abbrev pub is_writer : ℕ → ℕ → Bool
is_writer writer call = nat_le 1 writer && (writer == call)

-- whether a reply names a call as a writer
abbrev pub names_writer : List Shown → ℕ → Bool
names_writer [] call = false
names_writer (shown ∷ reply) call = is_writer shown.writer call || names_writer reply call

-- whether a reply, if there is one, does
abbrev pub names_in : Option (List Shown) → ℕ → Bool
names_in None call = false
names_in (Some reply) call = names_writer reply call

-- whether a pair of calls generates potential causality: by messages, or b reads from a
abbrev pub generates : List Entry → ℕ → ℕ → Bool
generates h a b = begins_marked (behind h a) h b || names_in (found_reply h b) a
