-- What may stand behind which entries, and histories in which each entry may.
use Rattle.std.specs.Prelude.{ℕ, Bool, true, false, ◌&&◌, ◌||◌, not, ◌==◌, nat_lt, List, [], ◌∷◌, ◌++◌, length, Option, Some, None}
use Rattle.std.specs.List.{list_all}
use Rattle.rss_names.specs.declared.service.Key.{Key}
use Rattle.rss_names.specs.Services.{same_key}
use Rattle.pipeline_lang.specs.declared.script.Term.{Term}
use Rattle.pipeline_lang.specs.declared.script.Term.TheVariants.{Number, Variable}
use Rattle.pipeline_lang.specs.declared.script.Expr.{Expr}
use Rattle.pipeline_lang.specs.declared.script.Expr.TheVariants.{One, Plus, Minus}
use Rattle.pipeline_lang.specs.declared.script.Compare.{Compare}
use Rattle.pipeline_lang.specs.declared.script.Compare.TheVariants.{Equal, Less}
use Rattle.rss_model.specs.declared.op.Op.{Op}
use Rattle.rss_model.specs.declared.op.Op.TheVariants.{Read, Write, Snap, Txn}
use Rattle.rss_model.specs.declared.op.Shown.{Shown}
use Rattle.rss_model.specs.declared.history.Entry.{Entry}
use Rattle.rss_model.specs.declared.history.Entry.TheVariants.{Begin, End, Give, Get, Over}
use Rattle.rss_model.specs.declared.history.Token.{Token}
use Rattle.rss_model.specs.Tokens.{same_token}
use Rattle.rss_model.specs.Operation.{reads_of}
use Rattle.rss_model.specs.History.{has_begun, has_ended, op_of}

-- whether a term names none but these positions
abbrev pub term_within : ℕ → Term ℕ → Bool
term_within reads (Number n) = true
term_within reads (Variable i) = nat_lt i reads

-- whether a formula does
abbrev pub formula_within : ℕ → Expr ℕ → Bool
formula_within reads (One a) = term_within reads a
formula_within reads (Plus a b) = term_within reads a && term_within reads b
formula_within reads (Minus a b) = term_within reads a && term_within reads b

-- whether a guard does
abbrev pub guard_within : ℕ → Option (Compare ℕ) → Bool
guard_within reads None = true
guard_within reads (Some (Equal a b)) = formula_within reads a && formula_within reads b
guard_within reads (Some (Less a b)) = formula_within reads a && formula_within reads b

-- whether the formulas of writes do
abbrev pub writes_within : ℕ → List (Key × Expr ℕ) → Bool
writes_within reads [] = true
writes_within reads (write ∷ writes) = formula_within reads write.1 && writes_within reads writes

-- whether each position that an operation names is one of its own reads
abbrev pub positions_within : Op → Bool
positions_within (Read key) = true
positions_within (Write key value) = true
positions_within (Snap keys) = true
positions_within (Txn keys guard writes) =
    guard_within (length keys) guard && writes_within (length keys) writes

-- whether a reply shows these keys, in this order
abbrev pub shows : List Shown → List Key → Bool
shows [] [] = true
shows [] (key ∷ keys) = false
shows (shown ∷ reply) [] = false
shows (shown ∷ reply) (key ∷ keys) = same_key shown.key key && shows reply keys

-- whether an entry gives a message
abbrev pub gives : Token → Entry → Bool
gives token (Begin call stage op) = false
gives token (End call reply) = false
gives token (Give stage given) = same_token token given
gives token (Get stage got) = false
gives token (Over stage how) = false

-- whether one of these entries gives a message
unfoldable pub gave : List Entry → Token → Bool
gave [] token = false
gave (e ∷ h) token = gives token e || gave h token

-- whether a call has begun and not ended
abbrev pub is_open : List Entry → ℕ → Bool
is_open h call = has_begun h call && not (has_ended h call)

-- whether an entry may stand behind these: a call begins once and names its own reads alone; it ends
-- once, behind its Begin, and is shown the keys that it reads; what is got was given
abbrev pub may_follow : List Entry → Entry → Bool
may_follow above (Begin call stage op) = not (has_begun above call) && positions_within op
may_follow above (End call reply) = is_open above call && shows reply (reads_of (op_of above call))
may_follow above (Give stage token) = true
may_follow above (Get stage token) = gave above token
may_follow above (Over stage how) = true

-- whether these entries may stand, one behind another, behind others
unfoldable pub is_well_formed_from : List Entry → List Entry → Bool
is_well_formed_from above [] = true
is_well_formed_from above (e ∷ h) = may_follow above e && is_well_formed_from (above ++ e ∷ []) h

-- whether each entry of a history may stand behind those above it
abbrev pub is_well_formed : List Entry → Bool
is_well_formed h = is_well_formed_from [] h
