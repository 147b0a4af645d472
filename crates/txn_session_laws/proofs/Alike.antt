-- Lines that show the same, and that were told the same prepare times.
use Rattle.std.proofs.Common.{◌≡◌, ◌⊎◌, inl, inr, ℕ, suc, ◌<◌, ◌≤◌, max, List, [], ◌∷◌, length, map, refl, sym, ap, ◌∙◌, arith}
use Rattle.rss_names.specs.declared.service.Key.{Key}
use Rattle.pipeline_lang.specs.declared.script.Expr.{Expr}
use Rattle.rss_model.specs.Formula.{formula_value}
use Rattle.rss_wire.specs.declared.messages.Version.{Version}
use Rattle.rss_tables.specs.Lines.{Line, version_in, version_or, shown_on, with_line, coordinator_of}
use Rattle.rss_tables.specs.TransactionSession.{TxnSession, values_shown, computed, greatest_time, greatest_shown, greatest_prepared}
use Rattle.session_laws.specs.Frames.{frames_of, nth_line, IsLine, AreApartShards, SameTxn}
use Rattle.session_laws.proofs.Frames.{frames_length, frames_shard}
use Rattle.session_laws.proofs.LineLaws.{nth_map, nth_with_line_cases, length_with_line, length_mapped}

-- lines of which each shows what the other of its place shows
pub record ShowAlike (u v : List Line) : Type 0 where
  pub long : length u ≡ length v
  pub shown : (i : ℕ) → i < length v → (nth_line u i).shown ≡ (nth_line v i).shown

pub record TimesAlike (u v : List Line) : Type 0 where
  pub long : length u ≡ length v
  pub timed : (i : ℕ) → i < length v → (nth_line u i).prepare_time ≡ (nth_line v i).prepare_time

show_rest : (l m : Line) (u v : List Line) → ShowAlike (l ∷ u) (m ∷ v) → ShowAlike u v
show_rest l m u v h = record { long = (let a = h.long in omega (arith, a)); shown = λ i a. h.shown (suc i) (omega (arith, a)) }

times_rest : (l m : Line) (u v : List Line) → TimesAlike (l ∷ u) (m ∷ v) → TimesAlike u v
times_rest l m u v h = record { long = (let a = h.long in omega (arith, a)); timed = λ i a. h.timed (suc i) (omega (arith, a)) }

-- they show the same of a key
pub shown_alike : (u v : List Line) (key : Key) → ShowAlike u v → shown_on u key ≡ shown_on v key
shown_alike [] [] key h = refl
shown_alike [] (m ∷ v) key h = absurd (let a = h.long in omega (arith, a))
shown_alike (l ∷ u) [] key h = absurd (let a = h.long in omega (arith, a))
shown_alike (l ∷ u) (m ∷ v) key h =
    ap (λ (shown : List (Key × Version)). version_or (version_in shown key) (shown_on u key)) (h.shown 0 (omega arith))
    ∙ ap (λ (x : Version). version_or (version_in m.shown key) x) (shown_alike u v key (show_rest l m u v h))

pub greatest_alike : (u v : List Line) → ShowAlike u v → greatest_shown u ≡ greatest_shown v
greatest_alike [] [] h = refl
greatest_alike [] (m ∷ v) h = absurd (let a = h.long in omega (arith, a))
greatest_alike (l ∷ u) [] h = absurd (let a = h.long in omega (arith, a))
greatest_alike (l ∷ u) (m ∷ v) h =
    ap (λ (shown : List (Key × Version)). max (greatest_time shown) (greatest_shown u)) (h.shown 0 (omega arith))
    ∙ ap (λ (x : ℕ). max (greatest_time m.shown) x) (greatest_alike u v (show_rest l m u v h))

pub prepared_alike : (u v : List Line) → TimesAlike u v → greatest_prepared u ≡ greatest_prepared v
prepared_alike [] [] h = refl
prepared_alike [] (m ∷ v) h = absurd (let a = h.long in omega (arith, a))
prepared_alike (l ∷ u) [] h = absurd (let a = h.long in omega (arith, a))
prepared_alike (l ∷ u) (m ∷ v) h =
    ap (λ (x : ℕ). max x (greatest_prepared u)) (h.timed 0 (omega arith))
    ∙ ap (λ (x : ℕ). max m.prepare_time x) (prepared_alike u v (times_rest l m u v h))

-- the values of keys, and what is computed of them
values_of : (u v : List Line) (reads : List Key) → ShowAlike u v → map (λ (key : Key). (shown_on u key).value) reads ≡ map (λ (key : Key). (shown_on v key).value) reads
values_of u v [] h = refl
values_of u v (key ∷ reads) h =
    ap (λ (x : Version). x.value ∷ map (λ (k : Key). (shown_on u k).value) reads) (shown_alike u v key h)
    ∙ ap (λ (xs : List ℕ). (shown_on v key).value ∷ xs) (values_of u v reads h)

pub values_alike : (x y : TxnSession) → SameTxn x y → ShowAlike y.lines x.lines → values_shown y ≡ values_shown x
values_alike x y s h = ap (λ (reads : List Key). map (λ (key : Key). (shown_on y.lines key).value) reads) s.reads ∙ values_of y.lines x.lines x.reads h

pub computed_alike : (x y : TxnSession) → SameTxn x y → ShowAlike y.lines x.lines → computed y ≡ computed x
computed_alike x y s h =
    ap (λ (values : List ℕ). map (λ (write : Key × Expr ℕ). (write.0, formula_value write.1 values)) y.writes) (values_alike x y s h)
    ∙ ap (λ (writes : List (Key × Expr ℕ)). map (λ (write : Key × Expr ℕ). (write.0, formula_value write.1 (values_shown x))) writes) s.writes

-- lines of one make have one coordinator
pub coordinator_alike : (u v : List Line) → frames_of u ≡ frames_of v → coordinator_of u ≡ coordinator_of v
coordinator_alike [] [] e = refl
coordinator_alike [] (m ∷ v) e = absurd (let a = frames_length [] (m ∷ v) e in omega (arith, a))
coordinator_alike (l ∷ u) [] e = absurd (let a = frames_length (l ∷ u) [] e in omega (arith, a))
coordinator_alike (l ∷ u) (m ∷ v) e = frames_shard (l ∷ u) (m ∷ v) e 0

-- where a line is replaced by one of its shard, it stands in its place, and the others stay
pub with_line_nth : (lines : List Line) (l new : Line) → IsLine lines l → AreApartShards lines → new.shard ≡ l.shard → (i : ℕ) → i < length lines
    → ((nth_line (with_line lines new) i ≡ new) × (nth_line lines i ≡ l)) ⊎ ((nth_line (with_line lines new) i ≡ nth_line lines i) × ((nth_line lines i).shard ≡ l.shard → ⊥))
with_line_nth lines l new p apart e i h = by_cases (nth_with_line_cases lines new i)
  where
    by_cases : ((nth_line (with_line lines new) i ≡ new) × ((nth_line lines i).shard ≡ new.shard) × (i < length lines)) ⊎ ((nth_line (with_line lines new) i ≡ nth_line lines i) × (((nth_line lines i).shard ≡ new.shard → ⊥) ⊎ (length lines ≤ i)))
        → ((nth_line (with_line lines new) i ≡ new) × (nth_line lines i ≡ l)) ⊎ ((nth_line (with_line lines new) i ≡ nth_line lines i) × ((nth_line lines i).shard ≡ l.shard → ⊥))
    by_cases (inl g) = inl (g.0, ap (nth_line lines) (apart i p.place h p.inside (g.1 ∙ e ∙ ap (λ (m : Line). m.shard) (sym p.at))) ∙ p.at)
    by_cases (inr (g, inl n)) = inr (g, λ s. n (s ∙ sym e))
    by_cases (inr (g, inr n)) = absurd (omega (arith, n, h))

-- what the new line has of the old one stays in each place
pub with_line_field : {A : Type 0} (f : Line → A) (lines : List Line) (l new : Line) → IsLine lines l → AreApartShards lines → new.shard ≡ l.shard → f new ≡ f l → (i : ℕ) → i < length lines → f (nth_line (with_line lines new) i) ≡ f (nth_line lines i)
with_line_field f lines l new p apart e same i h = by_cases (with_line_nth lines l new p apart e i h)
  where
    by_cases : ((nth_line (with_line lines new) i ≡ new) × (nth_line lines i ≡ l)) ⊎ ((nth_line (with_line lines new) i ≡ nth_line lines i) × ((nth_line lines i).shard ≡ l.shard → ⊥)) → f (nth_line (with_line lines new) i) ≡ f (nth_line lines i)
    by_cases (inl g) = ap f g.0 ∙ same ∙ ap f (sym g.1)
    by_cases (inr g) = ap f g.0

pub mapped_field : {A : Type 0} (f : Line → A) (g : Line → Line) (lines : List Line) → ((l : Line) → f (g l) ≡ f l) → (i : ℕ) → i < length lines → f (nth_line (map g lines) i) ≡ f (nth_line lines i)
mapped_field f g lines same i h = ap f (nth_map g lines i h) ∙ same (nth_line lines i)

-- where only the state of a line changes, lines show the same, and have the same times
pub show_with_line : (lines : List Line) (l new : Line) → IsLine lines l → AreApartShards lines → new.shard ≡ l.shard → new.shown ≡ l.shown → ShowAlike (with_line lines new) lines
show_with_line lines l new p apart e same = record { long = length_with_line lines new; shown = with_line_field (λ (m : Line). m.shown) lines l new p apart e same }

pub times_with_line : (lines : List Line) (l new : Line) → IsLine lines l → AreApartShards lines → new.shard ≡ l.shard → new.prepare_time ≡ l.prepare_time → TimesAlike (with_line lines new) lines
times_with_line lines l new p apart e same = record { long = length_with_line lines new; timed = with_line_field (λ (m : Line). m.prepare_time) lines l new p apart e same }

pub show_later : (u v w : List Line) → ShowAlike u v → ShowAlike v w → ShowAlike u w
show_later u v w a b = record {
  long = a.long ∙ b.long;
  shown = λ i h. a.shown i (let e = b.long in omega (arith, e, h)) ∙ b.shown i h;
}

pub times_later : (u v w : List Line) → TimesAlike u v → TimesAlike v w → TimesAlike u w
times_later u v w a b = record {
  long = a.long ∙ b.long;
  timed = λ i h. a.timed i (let e = b.long in omega (arith, e, h)) ∙ b.timed i h;
}

pub show_itself : (u : List Line) → ShowAlike u u
show_itself u = record { long = refl; shown = λ i h. refl }

pub times_itself : (u : List Line) → TimesAlike u u
times_itself u = record { long = refl; timed = λ i h. refl }

-- where each line is changed by itself, and shows the same, or keeps its time
pub show_mapped : (g : Line → Line) (lines : List Line) → ((l : Line) → (g l).shown ≡ l.shown) → ShowAlike (map g lines) lines
show_mapped g lines same = record { long = length_mapped g lines; shown = mapped_field (λ (m : Line). m.shown) g lines same }

pub times_mapped : (g : Line → Line) (lines : List Line) → ((l : Line) → (g l).prepare_time ≡ l.prepare_time) → TimesAlike (map g lines) lines
times_mapped g lines same = record { long = length_mapped g lines; timed = mapped_field (λ (m : Line). m.prepare_time) g lines same }
