-- What owners wait for.
use Rattle.std.proofs.Common.{◌≡◌, List, [], ◌∷◌, Option, Some, None, refl, ap, ◌∙◌}
use Rattle.rss_names.specs.declared.attempt.Attempt.{Attempt}
use Rattle.rss_wire.specs.declared.messages.Holder.{Holder}
use Rattle.rss_tables.specs.Lines.{Line, asleep_on}
use Rattle.rss_tables.specs.declared.endings.Await.{Await}
use Rattle.rss_tables.specs.declared.endings.Await.TheVariants as await
use Rattle.rss_machine.specs.Endings.{awaits_in, awaits_line, awaits_holder}
use Rattle.rss_machine.specs.Session.{Session}
use Rattle.rss_machine.specs.declared.session.Session.TheVariants as session
use Rattle.owner_turns.specs.Asked.{awaited_in, awaited_holder}
use Rattle.turn_laws.specs.Turns.{lines_in}

-- the call of the attempt that is waited for
abbrev pub call_of : Option Attempt → Option Await
call_of None = None
call_of (Some a) = Some (await.Call a.call)

by_holder : (h : Option Holder) (a : Option Await) (b : Option Attempt) → a ≡ call_of b → awaits_holder h a ≡ call_of (awaited_holder h b)
by_holder None a b e = e
by_holder (Some h) a b e = refl

by_lines : (lines : List Line) → awaits_line lines ≡ call_of (awaited_in lines)
by_lines [] = refl
by_lines (l ∷ lines) = by_holder (asleep_on l.state) (awaits_line lines) (awaited_in lines) (by_lines lines)

pub awaits_told : (x : Session) → awaits_in x ≡ call_of (awaited_in (lines_in x))
awaits_told (session.Transaction t) = by_lines t.lines
awaits_told (session.Snapshot t) = by_lines t.lines
awaits_told session.Idle = refl
awaits_told (session.Fixing r) = refl
awaits_told (session.Register r) = refl
awaits_told (session.Settling attempt shards) = refl
