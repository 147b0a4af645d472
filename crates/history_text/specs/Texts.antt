-- How the text of a history is read, line by line, up to its end or the first bad line.
use Rattle.std.specs.Prelude.{◌≡◌, ℕ, suc, Vec, cond, List, [], ◌∷◌, ◌++◌, Result, Ok, Err, Option, Some, None, codes}
use Rattle.std.specs.List.{slice_split}
use Rattle.std.specs.Str.{bytes_eq}
use Rattle.std.specs.Borrow.{Bor}
use Rattle.history_text.specs.declared.stop.Stop.{Stop}
use Rattle.history_text.specs.declared.stop.Stop.TheVariants.{Misfit}
use Rattle.history_text.specs.declared.stop.Stop.TheVariants as stop
use Rattle.pipeline_lang.specs.declared.config.Config.{Config}
use Rattle.pipeline_lang.specs.Tokens.{is_newline}
use Rattle.rss_model.specs.declared.history.Entry.{Entry}
use Rattle.history_text.specs.declared.error.HistoryError.{HistoryError}
use Rattle.history_text.specs.declared.error.HistoryError.TheVariants.{BadHistory, OutOfMemory}
use Rattle.history_text.specs.Entries.{line_at, place_at}

-- one thing where a piece of a text is the last one, what stands behind the last newline, else another
abbrev pub if_last : {A : Type 0} → List (List ℕ) → A → A → A
if_last [] last more = last
if_last (piece ∷ pieces) last more = more

-- a list with one more member, if there is one
abbrev pub with_read : {A : Type 0} → List A → Option A → List A
with_read xs None = xs
with_read xs (Some x) = xs ++ x ∷ []

-- what follows a line that was read; a line that was not is bad
abbrev pub onward : {A B : Type 0} → Option A → ℕ → Result B ℕ → Result B ℕ
onward None n result = Err n
onward (Some x) n result = result

-- behind the last newline nothing stands
abbrev pub ended_by : {B : Type 0} → ℕ → B → List ℕ → Result B ℕ
ended_by n x [] = Ok x
ended_by n x (b ∷ bs) = Err n

-- the calls of an order, from the line of this number on, or the number of the first bad line
unfoldable pub places_from : ℕ → List ℕ → List (List ℕ) → Result (List ℕ) ℕ
places_from n calls [] = Err n
places_from n calls (line ∷ pieces) =
    if_last pieces
    (ended_by n calls line)
    (onward (place_at line) n (places_from (suc n) (with_read calls (place_at line)) pieces))

-- entries together with the calls of an order
abbrev pub paired : List Entry → Result (List ℕ) ℕ → Result (List Entry × List ℕ) ℕ
paired h (Ok c) = Ok (h, c)
paired h (Err n) = Err n

-- entries behind these, and an order, from the line of this number on, or the number of the first
-- bad line; where the line `%places` is missing, that is the one behind the last
unfoldable pub entries_from : Config → ℕ → List Entry → List (List ℕ) → Result (List Entry × List ℕ) ℕ
entries_from config n above [] = Err n
entries_from config n above (line ∷ pieces) =
    if_last pieces
    (Err n)
    (cond (bytes_eq line (codes "%places"))
    (paired above (places_from (suc n) [] pieces))
    (onward (line_at config above line) n
    (entries_from config (suc n) (with_read above (line_at config above line)) pieces)))

-- the history and the order that a text spells, or the number of its first bad line, from 1
abbrev pub history_of_text : Config → List ℕ → Result (List Entry × List ℕ) ℕ
history_of_text config text = entries_from config 1 [] (slice_split is_newline text)

-- what a function returned is what is read; want of memory says nothing
abbrev pub Tells : {A : Type 0} → Result A HistoryError → Result A ℕ → Type 0
Tells (Ok x) read = read ≡ Ok x
Tells (Err (BadHistory line)) read = read ≡ Err line
Tells (Err OutOfMemory) read = Unit {0}

-- the same of the calls of an order
abbrev pub TellsPlaces : {A : Type 0} → Result (Vec ℕ A) HistoryError → Result (List ℕ) ℕ → Type 0
TellsPlaces (Ok calls) read = read ≡ Ok calls.items
TellsPlaces (Err (BadHistory line)) read = read ≡ Err line
TellsPlaces (Err OutOfMemory) read = Unit {0}

-- these entries were read, and the order stands in the text that is left, from the line of this number on
abbrev pub LeadsOn : Result (ℕ × Bor (List ℕ)) HistoryError → List Entry → Result (List Entry × List ℕ) ℕ → Type 0
LeadsOn (Ok left) h read = read ≡ paired h (places_from left.0 [] (slice_split is_newline left.1.now))
LeadsOn (Err (BadHistory line)) h read = read ≡ Err line
LeadsOn (Err OutOfMemory) h read = Unit {0}

-- why reading ends at the line of this number
abbrev pub refused_at : ℕ → Stop → HistoryError
refused_at n Misfit = BadHistory n
refused_at n stop.OutOfMemory = OutOfMemory
