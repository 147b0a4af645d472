-- The lines of a text, one by one.
use Rattle.std.proofs.Common.{◌≡◌, ℕ, suc, ◌+◌, Bool, true, false, cond, List, [], ◌∷◌, ◌++◌, length, Option, Some, None, Result, Ok, Err, refl, sym, ap, ◌∙◌, add-one, arith, codes}
use Rattle.std.specs.List.{slice_split, onto_first}
use Rattle.std.specs.Str.{bytes_eq}
use Rattle.std.specs.Prelude.{◌==◌}
use Rattle.std.specs.Borrow.{Bor}
use Rattle.std.proofs.lemmas.Bool.{cond-true, cond-false, eqb-true, eqb-false}
use Rattle.pipeline_lang.specs.declared.config.Config.{Config}
use Rattle.pipeline_lang.specs.Tokens.{is_newline, lines_left}
use Rattle.rss_model.specs.declared.history.Entry.{Entry}
use Rattle.history_text.specs.Entries.{line_at, place_at}
use Rattle.history_text.specs.Texts.{if_last, with_read, onward, ended_by, places_from, paired, entries_from}

onto_there : {A : Type 0} (b : ℕ) (pieces : List (List ℕ)) (last more : A) → if_last (onto_first b pieces) last more ≡ more
onto_there b [] last more = refl
onto_there b (piece ∷ pieces) last more = refl

-- a text has a piece
pieces_there : {A : Type 0} (text : List ℕ) (last more : A) → if_last (slice_split is_newline text) last more ≡ more
pieces_there [] last more = refl
pieces_there (b ∷ bs) last more = by_test (is_newline b) refl
  where
    by_test : (t : Bool) → is_newline b ≡ t → if_last (slice_split is_newline (b ∷ bs)) last more ≡ more
    by_test true t = ap (λ (l : List (List ℕ)). if_last l last more) (cond-true (is_newline b) _ _ t)
    by_test false t = ap (λ (l : List (List ℕ)). if_last l last more) (cond-false (is_newline b) _ _ t) ∙ onto_there b (slice_split is_newline bs) last more

place_line : (n : ℕ) (calls line text : List ℕ) → places_from n calls (line ∷ slice_split is_newline text) ≡ onward (place_at line) n (places_from (suc n) (with_read calls (place_at line)) (slice_split is_newline text))
unfolding places_from
place_line n calls line text = pieces_there text (ended_by n calls line) (onward (place_at line) n (places_from (suc n) (with_read calls (place_at line)) (slice_split is_newline text)))

-- a call is placed
pub place_more : (n : ℕ) (calls rest line more : List ℕ) (call : ℕ) → slice_split is_newline rest ≡ line ∷ slice_split is_newline more → place_at line ≡ Some call → places_from n calls (slice_split is_newline rest) ≡ places_from (n + 1) (calls ++ call ∷ []) (slice_split is_newline more)
place_more n calls rest line more call s e =
    ap (λ (l : List (List ℕ)). places_from n calls l) s
    ∙ place_line n calls line more
    ∙ ap (λ (o : Option ℕ). onward o n (places_from (suc n) (with_read calls o) (slice_split is_newline more))) e
    ∙ ap (λ (m : ℕ). places_from m (calls ++ call ∷ []) (slice_split is_newline more)) (sym (add-one n))

-- a line places none
pub place_bad : (n : ℕ) (calls rest line more : List ℕ) → slice_split is_newline rest ≡ line ∷ slice_split is_newline more → place_at line ≡ None → places_from n calls (slice_split is_newline rest) ≡ Err n
place_bad n calls rest line more s e =
    ap (λ (l : List (List ℕ)). places_from n calls l) s
    ∙ place_line n calls line more
    ∙ ap (λ (o : Option ℕ). onward o n (places_from (suc n) (with_read calls o) (slice_split is_newline more))) e

-- what stands behind the last newline
pub place_last : (n : ℕ) (calls rest line : List ℕ) → slice_split is_newline rest ≡ line ∷ [] → places_from n calls (slice_split is_newline rest) ≡ ended_by n calls line
unfolding places_from
place_last n calls rest line s = ap (λ (l : List (List ℕ)). places_from n calls l) s

entry_line : (config : Config) (n : ℕ) (above : List Entry) (line text : List ℕ) → entries_from config n above (line ∷ slice_split is_newline text) ≡ cond (bytes_eq line (codes "%places")) (paired above (places_from (suc n) [] (slice_split is_newline text))) (onward (line_at config above line) n (entries_from config (suc n) (with_read above (line_at config above line)) (slice_split is_newline text)))
unfolding entries_from
entry_line config n above line text = pieces_there text _ _

-- the line `%places`
pub entries_end : (config : Config) (n : ℕ) (above : List Entry) (rest line more : List ℕ) → slice_split is_newline rest ≡ line ∷ slice_split is_newline more → bytes_eq line (codes "%places") ≡ true → entries_from config n above (slice_split is_newline rest) ≡ paired above (places_from (n + 1) [] (slice_split is_newline more))
entries_end config n above rest line more s e =
    ap (λ (l : List (List ℕ)). entries_from config n above l) s
    ∙ entry_line config n above line more
    ∙ cond-true (bytes_eq line (codes "%places")) _ _ e
    ∙ ap (λ (m : ℕ). paired above (places_from m [] (slice_split is_newline more))) (sym (add-one n))

-- an entry
pub entries_more : (config : Config) (n : ℕ) (above : List Entry) (rest line more : List ℕ) (e : Entry) → slice_split is_newline rest ≡ line ∷ slice_split is_newline more → bytes_eq line (codes "%places") ≡ false → line_at config above line ≡ Some e → entries_from config n above (slice_split is_newline rest) ≡ entries_from config (n + 1) (above ++ e ∷ []) (slice_split is_newline more)
entries_more config n above rest line more e s t r =
    ap (λ (l : List (List ℕ)). entries_from config n above l) s
    ∙ entry_line config n above line more
    ∙ cond-false (bytes_eq line (codes "%places")) _ _ t
    ∙ ap (λ (o : Option Entry). onward o n (entries_from config (suc n) (with_read above o) (slice_split is_newline more))) r
    ∙ ap (λ (m : ℕ). entries_from config m (above ++ e ∷ []) (slice_split is_newline more)) (sym (add-one n))

-- a line that is none
pub entries_bad : (config : Config) (n : ℕ) (above : List Entry) (rest line more : List ℕ) → slice_split is_newline rest ≡ line ∷ slice_split is_newline more → bytes_eq line (codes "%places") ≡ false → line_at config above line ≡ None → entries_from config n above (slice_split is_newline rest) ≡ Err n
entries_bad config n above rest line more s t r =
    ap (λ (l : List (List ℕ)). entries_from config n above l) s
    ∙ entry_line config n above line more
    ∙ cond-false (bytes_eq line (codes "%places")) _ _ t
    ∙ ap (λ (o : Option Entry). onward o n (entries_from config (suc n) (with_read above o) (slice_split is_newline more))) r

-- the line `%places` is missing
pub entries_last : (config : Config) (n : ℕ) (above : List Entry) (rest line : List ℕ) → slice_split is_newline rest ≡ line ∷ [] → entries_from config n above (slice_split is_newline rest) ≡ Err n
unfolding entries_from
entries_last config n above rest line s = ap (λ (l : List (List ℕ)). entries_from config n above l) s

-- what stands behind the last newline, by whether it is nothing
last_piece : (rest line : List ℕ) (behind : Option (Bor (List ℕ))) → slice_split is_newline rest ≡ line ∷ lines_left behind → behind ≡ None → slice_split is_newline rest ≡ line ∷ []
last_piece rest line behind s e = s ∙ ap (λ (o : Option (Bor (List ℕ))). line ∷ lines_left o) e

ended_well : (n : ℕ) (calls line : List ℕ) → (length line == 0) ≡ true → ended_by n calls line ≡ Ok calls
ended_well n calls [] e = refl
ended_well n calls (b ∷ bs) e = absurd (omega (arith, eqb-true (length (b ∷ bs)) 0 e))

ended_badly : (n : ℕ) (calls line : List ℕ) → (length line == 0) ≡ false → ended_by n calls line ≡ Err n
ended_badly n calls [] e = absurd (eqb-false (length {A = ℕ} []) 0 e refl)
ended_badly n calls (b ∷ bs) e = refl

pub place_done : (n : ℕ) (calls rest line : List ℕ) (behind : Option (Bor (List ℕ))) → slice_split is_newline rest ≡ line ∷ lines_left behind → behind ≡ None → (length line == 0) ≡ true → places_from n calls (slice_split is_newline rest) ≡ Ok calls
place_done n calls rest line behind s e t = place_last n calls rest line (last_piece rest line behind s e) ∙ ended_well n calls line t

pub place_left : (n : ℕ) (calls rest line : List ℕ) (behind : Option (Bor (List ℕ))) → slice_split is_newline rest ≡ line ∷ lines_left behind → behind ≡ None → (length line == 0) ≡ false → places_from n calls (slice_split is_newline rest) ≡ Err n
place_left n calls rest line behind s e t = place_last n calls rest line (last_piece rest line behind s e) ∙ ended_badly n calls line t
