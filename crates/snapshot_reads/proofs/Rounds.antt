-- Which lines are asked in a round.
use Rattle.std.proofs.Common.{◌≡◌, ℕ, ◌+◌, ◌<◌, Bool, true, false, ◌||◌, List, [], ◌∷◌, ◌++◌, length, map, get_or, drop, refl, sym, ap, ◌∙◌, append_assoc}
use Rattle.std.specs.Prelude.{if◌then◌else◌}
use Rattle.std.proofs.lemmas.List.{drop_more, append-nil}
use Rattle.rss_tables.specs.Outs.{Out}
use Rattle.rss_tables.specs.Lines.{Line, no_line}
use Rattle.rss_tables.specs.Turns.{Turn, quiet}
use Rattle.rss_tables.specs.SnapshotSession.{SnapSession, snap_asks, asked_again, must_ask_again, second_round}
use Rattle.rss_tables.specs.declared.phases.SnapPhase.TheVariants.{Second, Done}
use Rattle.snapshot_reads.specs.Session.{passed_of, has_lines}

-- what was asked, with what is still asked, is the whole
pub asks_more : (t : SnapSession) (outs now : List Out) (lines : List Line) (at : ℕ) (whole : List Out) → at < length lines → now ≡ outs ++ snap_asks t (get_or lines at no_line ∷ []) → outs ++ snap_asks t (drop at lines) ≡ whole → now ++ snap_asks t (drop (at + 1) lines) ≡ whole
asks_more t outs now lines at whole h e w =
    ap (λ (l : List Out). l ++ snap_asks t (drop (at + 1) lines)) e
    ∙ append_assoc outs (snap_asks t (get_or lines at no_line ∷ [])) (snap_asks t (drop (at + 1) lines))
    ∙ ap (λ (l : List Line). outs ++ snap_asks t l) (sym (drop_more lines at no_line h))
    ∙ w

split_asks : (t : SnapSession) (time : ℕ) (l : Line) (ls : List Line) → snap_asks t (passed_of time (l ∷ ls)) ≡ snap_asks t (passed_of time (l ∷ [])) ++ snap_asks t (passed_of time ls)
split_asks t time l ls = go (must_ask_again time l)
  where
    go : (b : Bool) → snap_asks t (if b then l ∷ passed_of time ls else passed_of time ls) ≡ snap_asks t (if b then l ∷ [] else []) ++ snap_asks t (passed_of time ls)
    go true = refl
    go false = refl

split_some : (time : ℕ) (l : Line) (ls : List Line) → has_lines (passed_of time (l ∷ ls)) ≡ (has_lines (passed_of time (l ∷ [])) || has_lines (passed_of time ls))
split_some time l ls = go (must_ask_again time l)
  where
    go : (b : Bool) → has_lines (if b then l ∷ passed_of time ls else passed_of time ls) ≡ (has_lines (if b then l ∷ [] else []) || has_lines (passed_of time ls))
    go true = refl
    go false = refl

pub passed_more : (t : SnapSession) (time : ℕ) (outs now : List Out) (lines : List Line) (at : ℕ) (whole : List Out) → at < length lines → now ≡ outs ++ snap_asks t (passed_of time (get_or lines at no_line ∷ [])) → outs ++ snap_asks t (passed_of time (drop at lines)) ≡ whole → now ++ snap_asks t (passed_of time (drop (at + 1) lines)) ≡ whole
passed_more t time outs now lines at whole h e w =
    let l : Line = get_or lines at no_line in
    ap (λ (x : List Out). x ++ snap_asks t (passed_of time (drop (at + 1) lines))) e
    ∙ append_assoc outs (snap_asks t (passed_of time (l ∷ []))) (snap_asks t (passed_of time (drop (at + 1) lines)))
    ∙ ap (λ (x : List Out). outs ++ x) (sym (split_asks t time l (drop (at + 1) lines)))
    ∙ ap (λ (x : List Line). outs ++ snap_asks t (passed_of time x)) (sym (drop_more lines at no_line h))
    ∙ w

or_assoc : (a b c : Bool) → ((a || b) || c) ≡ (a || (b || c))
or_assoc true b c = refl
or_assoc false b c = refl

pub some_more : (time : ℕ) (lines : List Line) (at : ℕ) (asked one whole : Bool) → at < length lines → one ≡ has_lines (passed_of time (get_or lines at no_line ∷ [])) → (asked || has_lines (passed_of time (drop at lines))) ≡ whole → ((asked || one) || has_lines (passed_of time (drop (at + 1) lines))) ≡ whole
some_more time lines at asked one whole h e w =
    let l : Line = get_or lines at no_line in
    or_assoc asked one (has_lines (passed_of time (drop (at + 1) lines)))
    ∙ ap (λ (x : Bool). asked || (x || has_lines (passed_of time (drop (at + 1) lines)))) e
    ∙ ap (λ (x : Bool). asked || x) (sym (split_some time l (drop (at + 1) lines)))
    ∙ ap (λ (x : List Line). asked || has_lines (passed_of time x)) (sym (drop_more lines at no_line h))
    ∙ w

-- what is done where a line is asked again, and where none is
pub second_some : (t : SnapSession) (time : ℕ) (xs : List Line) → has_lines xs ≡ true → second_round t time xs ≡ record { after = record t { phase = Second time; lines = asked_again time t.lines }; anew = true; outs = snap_asks (record t { phase = Second time; lines = asked_again time t.lines }) xs }
second_some t time [] e = cc
second_some t time (l ∷ xs) e = refl

pub second_none : (t : SnapSession) (time : ℕ) (xs : List Line) → has_lines xs ≡ false → second_round t time xs ≡ quiet (record t { phase = Done time })
second_none t time [] e = refl
second_none t time (l ∷ xs) e = cc

pub none_asked : (t : SnapSession) (xs : List Line) → has_lines xs ≡ false → snap_asks t xs ≡ []
none_asked t [] e = refl
none_asked t (l ∷ xs) e = cc

pub ruleset seconds = (second_some, second_none, none_asked, append-nil)
