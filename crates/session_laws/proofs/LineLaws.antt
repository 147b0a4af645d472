-- Lines by place: how each change of lines is read.
use Rattle.std.proofs.Common.{◌≡◌, ◌⊎◌, inl, inr, ℕ, zero, suc, ◌<◌, ◌≤◌, Bool, true, false, List, [], ◌∷◌, length, map, refl, sym, ap, ◌∙◌, arith}
use Rattle.std.specs.Prelude.{◌==◌, if◌then◌else◌}
use Rattle.std.proofs.lemmas.Bool.{cond_both, true≢false, eqb-true, eqb-false}
use Rattle.std.proofs.lemmas.List.{length-map, get_or-map, get_or_past}
use Rattle.std.proofs.lemmas.List.Folds.{list_all_at}
use Rattle.rss_tables.specs.Lines.{Line, no_line, line_at, with_line, is_answered, all_answered, all_awaiting, only_awaiting}
use Rattle.rss_tables.specs.declared.lines.LineState.TheVariants.{Awaiting, Dropped}
use Rattle.session_laws.specs.Frames.{nth_line, IsLine}

-- a line of a place, or past the end none
pub nth_past : (lines : List Line) (i : ℕ) → length lines ≤ i → nth_line lines i ≡ no_line
nth_past lines i h = get_or_past lines i no_line h

-- each line is changed by itself
pub length_mapped : (f : Line → Line) (lines : List Line) → length (map f lines) ≡ length lines
length_mapped f lines = length-map lines f

pub nth_map : (f : Line → Line) (lines : List Line) (i : ℕ) → i < length lines → nth_line (map f lines) i ≡ f (nth_line lines i)
nth_map f lines i h = get_or-map f lines i no_line no_line h

pub nth_map_cases : (f : Line → Line) (lines : List Line) (i : ℕ) → ((nth_line (map f lines) i ≡ f (nth_line lines i)) × (i < length lines)) ⊎ ((nth_line (map f lines) i ≡ no_line) × (nth_line lines i ≡ no_line) × (length lines ≤ i))
nth_map_cases f [] i = inr (nth_past [] i (omega arith), nth_past [] i (omega arith), omega arith)
nth_map_cases f (l ∷ lines) zero = inl (refl, omega arith)
nth_map_cases f (l ∷ lines) (suc i) = by_rest (nth_map_cases f lines i)
  where
    by_rest : ((nth_line (map f lines) i ≡ f (nth_line lines i)) × (i < length lines)) ⊎ ((nth_line (map f lines) i ≡ no_line) × (nth_line lines i ≡ no_line) × (length lines ≤ i))
        → ((nth_line (map f lines) i ≡ f (nth_line lines i)) × (suc i < length (l ∷ lines))) ⊎ ((nth_line (map f lines) i ≡ no_line) × (nth_line lines i ≡ no_line) × (length (l ∷ lines) ≤ suc i))
    by_rest (inl h) = inl (h.0, let a = h.1 in omega (arith, a))
    by_rest (inr h) = inr (h.0, h.1, let a = h.2 in omega (arith, a))

-- a line is replaced by one of the same shard
pub length_with_line : (lines : List Line) (new : Line) → length (with_line lines new) ≡ length lines
length_with_line lines new = length-map lines _

pub nth_with_line : (lines : List Line) (new : Line) (i : ℕ) → i < length lines → nth_line (with_line lines new) i ≡ (if (nth_line lines i).shard == new.shard then new else nth_line lines i)
nth_with_line lines new i h = nth_map (λ (l : Line). if l.shard == new.shard then new else l) lines i h

pub nth_with_line_cases : (lines : List Line) (new : Line) (i : ℕ) → ((nth_line (with_line lines new) i ≡ new) × ((nth_line lines i).shard ≡ new.shard) × (i < length lines)) ⊎ ((nth_line (with_line lines new) i ≡ nth_line lines i) × (((nth_line lines i).shard ≡ new.shard → ⊥) ⊎ (length lines ≤ i)))
nth_with_line_cases lines new i = by_place (nth_map_cases (λ (l : Line). if l.shard == new.shard then new else l) lines i)
  where
    by_place : ((nth_line (with_line lines new) i ≡ (if (nth_line lines i).shard == new.shard then new else nth_line lines i)) × (i < length lines)) ⊎ ((nth_line (with_line lines new) i ≡ no_line) × (nth_line lines i ≡ no_line) × (length lines ≤ i))
        → ((nth_line (with_line lines new) i ≡ new) × ((nth_line lines i).shard ≡ new.shard) × (i < length lines)) ⊎ ((nth_line (with_line lines new) i ≡ nth_line lines i) × (((nth_line lines i).shard ≡ new.shard → ⊥) ⊎ (length lines ≤ i)))
    by_place (inl h) = cond_both ((nth_line lines i).shard == new.shard) new (nth_line lines i)
        (λ (m : Line). nth_line (with_line lines new) i ≡ m → ((nth_line (with_line lines new) i ≡ new) × ((nth_line lines i).shard ≡ new.shard) × (i < length lines)) ⊎ ((nth_line (with_line lines new) i ≡ nth_line lines i) × (((nth_line lines i).shard ≡ new.shard → ⊥) ⊎ (length lines ≤ i))))
        (λ e g. inl (g, eqb-true (nth_line lines i).shard new.shard e, h.1)) (λ e g. inr (g, inl (eqb-false (nth_line lines i).shard new.shard e))) h.0
    by_place (inr h) = inr (h.0 ∙ sym h.1, inr h.2)

-- all lines await
pub length_all_awaiting : (lines : List Line) → length (all_awaiting lines) ≡ length lines
length_all_awaiting lines = length-map lines _

pub nth_all_awaiting : (lines : List Line) (i : ℕ) → i < length lines → nth_line (all_awaiting lines) i ≡ record (nth_line lines i) { state = Awaiting }
nth_all_awaiting lines i h = nth_map (λ (l : Line). record l { state = Awaiting }) lines i h

-- past the end a line awaits too
pub nth_all_awaiting_each : (lines : List Line) (i : ℕ) → nth_line (all_awaiting lines) i ≡ record (nth_line lines i) { state = Awaiting }
nth_all_awaiting_each lines i = by_place (nth_map_cases (λ (l : Line). record l { state = Awaiting }) lines i)
  where
    by_place : ((nth_line (all_awaiting lines) i ≡ record (nth_line lines i) { state = Awaiting }) × (i < length lines)) ⊎ ((nth_line (all_awaiting lines) i ≡ no_line) × (nth_line lines i ≡ no_line) × (length lines ≤ i)) → nth_line (all_awaiting lines) i ≡ record (nth_line lines i) { state = Awaiting }
    by_place (inl h) = h.0
    by_place (inr h) = h.0 ∙ ap (λ (l : Line). record l { state = Awaiting }) (sym h.1)

-- one line awaits, and the others are dropped
pub length_only_awaiting : (shard : ℕ) (lines : List Line) → length (only_awaiting shard lines) ≡ length lines
length_only_awaiting shard lines = length-map lines _

pub nth_only_awaiting : (shard : ℕ) (lines : List Line) (i : ℕ) → i < length lines → nth_line (only_awaiting shard lines) i ≡ record (nth_line lines i) { state = if (nth_line lines i).shard == shard then Awaiting else Dropped }
nth_only_awaiting shard lines i h = nth_map (λ (l : Line). record l { state = if l.shard == shard then Awaiting else Dropped }) lines i h

pub nth_only_awaiting_cases : (shard : ℕ) (lines : List Line) (i : ℕ) → i < length lines → ((nth_line (only_awaiting shard lines) i ≡ record (nth_line lines i) { state = Awaiting }) × ((nth_line lines i).shard ≡ shard)) ⊎ ((nth_line (only_awaiting shard lines) i ≡ record (nth_line lines i) { state = Dropped }) × ((nth_line lines i).shard ≡ shard → ⊥))
nth_only_awaiting_cases shard lines i h = by_test ((nth_line lines i).shard == shard) refl
  where
    by_test : (b : Bool) → ((nth_line lines i).shard == shard) ≡ b → ((nth_line (only_awaiting shard lines) i ≡ record (nth_line lines i) { state = Awaiting }) × ((nth_line lines i).shard ≡ shard)) ⊎ ((nth_line (only_awaiting shard lines) i ≡ record (nth_line lines i) { state = Dropped }) × ((nth_line lines i).shard ≡ shard → ⊥))
    by_test true e = inl (nth_only_awaiting shard lines i h ∙ ap (λ (b : Bool). record (nth_line lines i) { state = if b then Awaiting else Dropped }) e, eqb-true (nth_line lines i).shard shard e)
    by_test false e = inr (nth_only_awaiting shard lines i h ∙ ap (λ (b : Bool). record (nth_line lines i) { state = if b then Awaiting else Dropped }) e, eqb-false (nth_line lines i).shard shard e)

-- a line among more lines
is_line_more : (m : Line) (lines : List Line) (l : Line) → IsLine lines l → IsLine (m ∷ lines) l
is_line_more m lines l h = record { place = suc h.place; inside = (let a = h.inside in omega (arith, a)); at = h.at }

-- the line of a shard is one of the lines and of that shard, or there is none
pub line_at_is : (lines : List Line) (shard : ℕ) → (IsLine lines (line_at lines shard) × ((line_at lines shard).shard ≡ shard)) ⊎ (line_at lines shard ≡ no_line)
line_at_is [] shard = inr refl
line_at_is (l ∷ lines) shard = by_test (l.shard == shard) refl (line_at_is lines shard)
  where
    by_test : (b : Bool) → (l.shard == shard) ≡ b → (IsLine lines (line_at lines shard) × ((line_at lines shard).shard ≡ shard)) ⊎ (line_at lines shard ≡ no_line) → (IsLine (l ∷ lines) (line_at (l ∷ lines) shard) × ((line_at (l ∷ lines) shard).shard ≡ shard)) ⊎ (line_at (l ∷ lines) shard ≡ no_line)
    by_test true e h = rw e (inl (record { place = 0; inside = omega arith; at = refl }, eqb-true l.shard shard e))
    by_test false e (inl h) = rw e (inl (is_line_more l lines (line_at lines shard) h.0, h.1))
    by_test false e (inr h) = rw e (inr h)

-- where all are answered, each is
pub answered_nth : (lines : List Line) → all_answered lines ≡ true → (i : ℕ) → i < length lines → is_answered (nth_line lines i).state ≡ true
answered_nth lines e i h = by_test (is_answered (nth_line lines i).state) refl
  where
    by_test : (b : Bool) → is_answered (nth_line lines i).state ≡ b → is_answered (nth_line lines i).state ≡ true
    by_test true f = f
    by_test false f = absurd (true≢false (sym e ∙ list_all_at (λ (l : Line). is_answered l.state) lines i no_line h f))
