-- Lines in four vectors are the tables' lines.
use Rattle.std.proofs.Common.{◌≡◌, ℕ, ◌+◌, ◌-◌, ◌<◌, ◌≤◌, ◌==◌, ◌&&◌, Bool, true, false, zero, suc, List, [], ◌∷◌, ◌++◌, length, take, drop, map, set, get_or, refl, sym, subst, ap, ◌∙◌, arith}
use Rattle.std.specs.Prelude.{if◌then◌else◌}
use Rattle.std.proofs.lemmas.List.{take-append-le, drop-append-le, length-append, length-map, get_or-map, map-set, length-drop, drop_at, take_all}
use Rattle.rss_names.specs.declared.service.Key.{Key}
use Rattle.rss_wire.specs.declared.messages.Skipped.{Skipped}
use Rattle.rss_wire.specs.declared.messages.Version.{Version}
use Rattle.rss_tables.specs.declared.lines.LineState.{LineState}
use Rattle.rss_tables.specs.Lines.{Line, no_line, with_line, in_state}
use Rattle.shard_lines.specs.declared.flat.Part.{Part}
use Rattle.shard_lines.specs.declared.flat.FlatLine.{FlatLine}
use Rattle.shard_lines.specs.Flat.{part, read_line, IsInside, IsLine, AreAbove, AreLines}
use Rattle.std.specs.Prelude.{max}
use Rattle.rss_tables.specs.Lines.{line_at, all_awaiting, only_awaiting, coordinator_of, shown_on, version_in, version_or}
use Rattle.rss_tables.specs.SnapshotSession.{asked_again, must_ask_again}
use Rattle.rss_tables.specs.TransactionSession.{greatest_prepared, greatest_shown, greatest_time}
use Rattle.rss_tables.specs.declared.lines.LineState.TheVariants.{Awaiting}
use Rattle.rss_tables.specs.Lines as tables
use Rattle.shard_lines.specs.Flat.{HasShard, IsPlace, has_line, has_flat, awaiting, awaiting_one, opened, open_line, are_answered, last_prepared, AreShown, AreSkips, version_of, awaiting_but, awaits_unless, last_shown, may_stand_by, awaiting_passed}

pub lines_length : (keys : List Key) (shown : List (Key × Version)) (skipped : List Skipped) (fs : List FlatLine) → length (map (read_line keys shown skipped) fs) ≡ length fs
lines_length keys shown skipped fs = length-map fs (read_line keys shown skipped)

pub read_one : (keys : List Key) (shown : List (Key × Version)) (skipped : List Skipped) (fs : List FlatLine) (at : ℕ) (d : FlatLine) → at < length fs → get_or (map (read_line keys shown skipped) fs) at no_line ≡ read_line keys shown skipped (get_or fs at d)
read_one keys shown skipped fs at d h = get_or-map (read_line keys shown skipped) fs at d no_line h

-- no line of a greater shard is replaced
others_stay : (keys : List Key) (shown : List (Key × Version)) (skipped : List Skipped) (fs : List FlatLine) (new : Line) → AreAbove new.shard fs → with_line (map (read_line keys shown skipped) fs) new ≡ map (read_line keys shown skipped) fs
others_stay keys shown skipped [] new h = refl
others_stay keys shown skipped (f ∷ fs) new h =
    let e : (f.shard == new.shard) ≡ false = not_same f.shard new.shard h.0 in
    ap (λ (b : Bool). (if b then new else read_line keys shown skipped f) ∷ with_line (map (read_line keys shown skipped) fs) new) e
    ∙ ap (λ (l : List Line). read_line keys shown skipped f ∷ l) (others_stay keys shown skipped fs new h.1)
  where
    not_same : (a b : ℕ) → b < a → (a == b) ≡ false
    not_same a b l = grind (arith, l)

above_at : (shard : ℕ) (fs : List FlatLine) (at : ℕ) (d : FlatLine) → AreAbove shard fs → at < length fs → shard < (get_or fs at d).shard
above_at shard [] at d h l = absurd (omega (arith, l))
above_at shard (f ∷ fs) zero d h l = h.0
above_at shard (f ∷ fs) (suc at) d h l = above_at shard fs at d h.1 (omega (arith, l))

-- one line is replaced by one of its shard
put_one : (keys : List Key) (shown : List (Key × Version)) (skipped : List Skipped) (ks vs ss : ℕ) (fs : List FlatLine) (at : ℕ) (d x : FlatLine) → AreLines ks vs ss fs → at < length fs → x.shard ≡ (get_or fs at d).shard → with_line (map (read_line keys shown skipped) fs) (read_line keys shown skipped x) ≡ map (read_line keys shown skipped) (set fs at x)
put_one keys shown skipped ks vs ss [] at d x h l e = absurd (omega (arith, l))
put_one keys shown skipped ks vs ss (f ∷ fs) zero d x h l e =
    let here : (f.shard == x.shard) ≡ true = same_one f.shard x.shard e in
    let above : AreAbove x.shard fs = subst (λ n. AreAbove n fs) (sym e) h.1 in
    ap (λ (b : Bool). (if b then read_line keys shown skipped x else read_line keys shown skipped f) ∷ with_line (map (read_line keys shown skipped) fs) (read_line keys shown skipped x)) here
    ∙ ap (λ (l : List Line). read_line keys shown skipped x ∷ l) (others_stay keys shown skipped fs (read_line keys shown skipped x) above)
  where
    same_one : (a b : ℕ) → b ≡ a → (a == b) ≡ true
    same_one a b q = grind (arith, q)
put_one keys shown skipped ks vs ss (f ∷ fs) (suc at) d x h l e =
    let below : f.shard < (get_or fs at d).shard = above_at f.shard fs at d h.1 (omega (arith, l)) in
    let other : (f.shard == x.shard) ≡ false = not_same f.shard x.shard (omega (arith, below, e)) in
    ap (λ (b : Bool). (if b then read_line keys shown skipped x else read_line keys shown skipped f) ∷ with_line (map (read_line keys shown skipped) fs) (read_line keys shown skipped x)) other
    ∙ ap (λ (l : List Line). read_line keys shown skipped f ∷ l) (put_one keys shown skipped ks vs ss fs at d x h.2 (omega (arith, l)) e)
  where
    not_same : (a b : ℕ) → a < b → (a == b) ≡ false
    not_same a b q = grind (arith, q)

-- a line in another state
pub puts : (keys : List Key) (shown : List (Key × Version)) (skipped : List Skipped) (ks vs ss : ℕ) (fs : List FlatLine) (at : ℕ) (d : FlatLine) (state : LineState) → AreLines ks vs ss fs → at < length fs
    → map (read_line keys shown skipped) (set fs at (record (get_or fs at d) { state = state })) ≡ with_line (map (read_line keys shown skipped) fs) (in_state (get_or (map (read_line keys shown skipped) fs) at no_line) state)
puts keys shown skipped ks vs ss fs at d state h l =
    sym (put_one keys shown skipped ks vs ss fs at d (record (get_or fs at d) { state = state }) h l refl)
    ∙ ap (λ (x : Line). with_line (map (read_line keys shown skipped) fs) (in_state x state)) (sym (read_one keys shown skipped fs at d l))

above_set : (shard : ℕ) (fs : List FlatLine) (at : ℕ) (d x : FlatLine) → AreAbove shard fs → x.shard ≡ (get_or fs at d).shard → AreAbove shard (set fs at x)
above_set shard [] at d x h e = tt
above_set shard (f ∷ fs) zero d x h e = (subst (λ n. shard < n) (sym e) h.0, h.1)
above_set shard (f ∷ fs) (suc at) d x h e = (h.0, above_set shard fs at d x h.1 e)

pub lines_set : (ks vs ss : ℕ) (fs : List FlatLine) (at : ℕ) (d x : FlatLine) → AreLines ks vs ss fs → x.shard ≡ (get_or fs at d).shard → IsLine ks vs ss x → AreLines ks vs ss (set fs at x)
lines_set ks vs ss [] at d x h e i = tt
lines_set ks vs ss (f ∷ fs) zero d x h e i = (i, subst (λ n. AreAbove n fs) (sym e) h.1, h.2)
lines_set ks vs ss (f ∷ fs) (suc at) d x h e i = (h.0, above_set f.shard fs at d x h.1 e, lines_set ks vs ss fs at d x h.2 e i)

pub line_inside : (ks vs ss : ℕ) (fs : List FlatLine) (at : ℕ) (d : FlatLine) → AreLines ks vs ss fs → at < length fs → IsLine ks vs ss (get_or fs at d)
line_inside ks vs ss [] at d h l = absurd (omega (arith, l))
line_inside ks vs ss (f ∷ fs) zero d h l = h.0
line_inside ks vs ss (f ∷ fs) (suc at) d h l = line_inside ks vs ss fs at d h.2 (omega (arith, l))

-- as a search finds them: the line read is the one of its place
pub put_read : (keys : List Key) (shown : List (Key × Version)) (skipped : List Skipped) (ks vs ss : ℕ) (fs : List FlatLine) (ls : List Line) (at : ℕ) (old x : FlatLine) → map (read_line keys shown skipped) fs ≡ ls → old ≡ get_or fs at old → AreLines ks vs ss fs → at < length ls → x.shard ≡ old.shard
    → (map (read_line keys shown skipped) (set fs at x) ≡ with_line ls (read_line keys shown skipped x)) × (get_or ls at no_line ≡ read_line keys shown skipped old)
put_read keys shown skipped ks vs ss fs ls at old x v e h l same =
    let inside : at < length fs = omega (arith, l, ap (λ (z : List Line). length z) v, lines_length keys shown skipped fs) in (
      sym (put_one keys shown skipped ks vs ss fs at old x h inside (same ∙ ap (λ (z : FlatLine). z.shard) e)) ∙ ap (λ (z : List Line). with_line z (read_line keys shown skipped x)) v,
      ap (λ (z : List Line). get_or z at no_line) (sym v) ∙ read_one keys shown skipped fs at old inside ∙ ap (read_line keys shown skipped) (sym e),
    )

pub put_keeps : (ks vs ss : ℕ) (fs : List FlatLine) (at n : ℕ) (old x : FlatLine) → old ≡ get_or fs at old → AreLines ks vs ss fs → at < n → n ≡ length fs → x.shard ≡ old.shard → (IsLine ks vs ss old → IsLine ks vs ss x) → AreLines ks vs ss (set fs at x)
put_keeps ks vs ss fs at n old x e h l q same keeps =
    lines_set ks vs ss fs at old x h (same ∙ ap (λ (z : FlatLine). z.shard) e) (keeps (subst (λ (z : FlatLine). IsLine ks vs ss z) (sym e) (line_inside ks vs ss fs at old h (omega (arith, l, q)))))

pub view_length : (keys : List Key) (shown : List (Key × Version)) (skipped : List Skipped) (fs : List FlatLine) (ls : List Line) → map (read_line keys shown skipped) fs ≡ ls → length ls ≡ length fs
view_length keys shown skipped fs ls v = ap (λ (z : List Line). length z) (sym v) ∙ lines_length keys shown skipped fs

-- what is done to each line, and asked of all, is the tables' word
pub answered_view : (keys : List Key) (shown : List (Key × Version)) (skipped : List Skipped) (fs : List FlatLine) → are_answered fs ≡ tables.all_answered (map (read_line keys shown skipped) fs)
answered_view keys shown skipped [] = refl
answered_view keys shown skipped (f ∷ fs) = ap (λ (b : Bool). tables.is_answered f.state && b) (answered_view keys shown skipped fs)

pub awaiting_view : (keys : List Key) (shown : List (Key × Version)) (skipped : List Skipped) (fs : List FlatLine) → map (read_line keys shown skipped) (map awaiting fs) ≡ all_awaiting (map (read_line keys shown skipped) fs)
awaiting_view keys shown skipped [] = refl
awaiting_view keys shown skipped (f ∷ fs) = ap (λ (l : List Line). read_line keys shown skipped (awaiting f) ∷ l) (awaiting_view keys shown skipped fs)

pub awaiting_one_view : (shard : ℕ) (keys : List Key) (shown : List (Key × Version)) (skipped : List Skipped) (fs : List FlatLine) → map (read_line keys shown skipped) (map (awaiting_one shard) fs) ≡ only_awaiting shard (map (read_line keys shown skipped) fs)
awaiting_one_view shard keys shown skipped [] = refl
awaiting_one_view shard keys shown skipped (f ∷ fs) = ap (λ (l : List Line). read_line keys shown skipped (awaiting_one shard f) ∷ l) (awaiting_one_view shard keys shown skipped fs)

pub opened_view : (keys : List Key) (shown : List (Key × Version)) (skipped : List Skipped) (fs : List FlatLine) → map (read_line keys [] skipped) (map opened fs) ≡ map open_line (map (read_line keys shown skipped) fs)
opened_view keys shown skipped [] = refl
opened_view keys shown skipped (f ∷ fs) = ap (λ (l : List Line). read_line keys [] skipped (opened f) ∷ l) (opened_view keys shown skipped fs)

pub prepared_view : (keys : List Key) (shown : List (Key × Version)) (skipped : List Skipped) (fs : List FlatLine) → last_prepared fs ≡ greatest_prepared (map (read_line keys shown skipped) fs)
prepared_view keys shown skipped [] = refl
prepared_view keys shown skipped (f ∷ fs) = ap (max f.prepare_time) (prepared_view keys shown skipped fs)

pub version_view : (keys : List Key) (shown : List (Key × Version)) (skipped : List Skipped) (fs : List FlatLine) (key : Key) → version_of shown fs key ≡ shown_on (map (read_line keys shown skipped) fs) key
version_view keys shown skipped [] key = refl
version_view keys shown skipped (f ∷ fs) key = ap (version_or (version_in (part shown f.shown) key)) (version_view keys shown skipped fs key)

-- the line of a shard stands at the only place of that shard
line_at_place : (keys : List Key) (shown : List (Key × Version)) (skipped : List Skipped) (ks vs ss : ℕ) (fs : List FlatLine) (at shard : ℕ) (d : FlatLine) → AreLines ks vs ss fs → at < length fs → (get_or fs at d).shard ≡ shard → read_line keys shown skipped (get_or fs at d) ≡ line_at (map (read_line keys shown skipped) fs) shard
line_at_place keys shown skipped ks vs ss [] at shard d h l e = absurd (omega (arith, l))
line_at_place keys shown skipped ks vs ss (f ∷ fs) zero shard d h l e =
    let here : (f.shard == shard) ≡ true = same_one f.shard shard e in
    sym (ap (λ (b : Bool). if b then read_line keys shown skipped f else line_at (map (read_line keys shown skipped) fs) shard) here)
  where
    same_one : (a b : ℕ) → a ≡ b → (a == b) ≡ true
    same_one a b q = grind (arith, q)
line_at_place keys shown skipped ks vs ss (f ∷ fs) (suc at) shard d h l e =
    let below : f.shard < (get_or fs at d).shard = above_at f.shard fs at d h.1 (omega (arith, l)) in
    let other : (f.shard == shard) ≡ false = not_same f.shard shard (omega (arith, below, e)) in
    line_at_place keys shown skipped ks vs ss fs at shard d h.2 (omega (arith, l)) e
    ∙ sym (ap (λ (b : Bool). if b then read_line keys shown skipped f else line_at (map (read_line keys shown skipped) fs) shard) other)
  where
    not_same : (a b : ℕ) → a < b → (a == b) ≡ false
    not_same a b q = grind (arith, q)

pub place_is : (keys : List Key) (shown : List (Key × Version)) (skipped : List Skipped) (ks vs ss : ℕ) (fs : List FlatLine) (ls : List Line) (at shard : ℕ) (d : FlatLine) → map (read_line keys shown skipped) fs ≡ ls → AreLines ks vs ss fs → HasShard fs at shard → IsPlace ls at shard
place_is keys shown skipped ks vs ss fs ls at shard d v h p = record {
  inside = omega (arith, p.inside, view_length keys shown skipped fs ls v);
  same = ap (λ (z : List Line). get_or z at no_line) (sym v) ∙ read_one keys shown skipped fs at d p.inside ∙ line_at_place keys shown skipped ks vs ss fs at shard d h p.inside (p.same d) ∙ ap (λ (z : List Line). line_at z shard) v;
}

-- whether there is a line of a shard
has_read : (keys : List Key) (shown : List (Key × Version)) (skipped : List Skipped) (fs : List FlatLine) (shard : ℕ) → has_line (map (read_line keys shown skipped) fs) shard ≡ has_flat fs shard
has_read keys shown skipped [] shard = refl
has_read keys shown skipped (f ∷ fs) shard = ap (λ (b : Bool). if f.shard == shard then true else b) (has_read keys shown skipped fs shard)

pub no_place : (keys : List Key) (shown : List (Key × Version)) (skipped : List Skipped) (fs : List FlatLine) (ls : List Line) (shard : ℕ) → map (read_line keys shown skipped) fs ≡ ls → has_flat fs shard ≡ false → has_line ls shard ≡ false
no_place keys shown skipped fs ls shard v h = ap (λ (z : List Line). has_line z shard) (sym v) ∙ has_read keys shown skipped fs shard ∙ h

above_map : (f : FlatLine → FlatLine) → ((x : FlatLine) → (f x).shard ≡ x.shard) → (shard : ℕ) (fs : List FlatLine) → AreAbove shard fs → AreAbove shard (map f fs)
above_map f same shard [] h = tt
above_map f same shard (x ∷ fs) h = (subst (λ n. shard < n) (sym (same x)) h.0, above_map f same shard fs h.1)

-- what is done to each line leaves them lines
lines_map : (ks vs ws ss : ℕ) (f : FlatLine → FlatLine) → ((x : FlatLine) → (f x).shard ≡ x.shard) → ((x : FlatLine) → IsLine ks vs ss x → IsLine ks ws ss (f x)) → (fs : List FlatLine) → AreLines ks vs ss fs → AreLines ks ws ss (map f fs)
lines_map ks vs ws ss f same keeps [] h = tt
lines_map ks vs ws ss f same keeps (x ∷ fs) h = (keeps x h.0, subst (λ n. AreAbove n (map f fs)) (sym (same x)) (above_map f same x.shard fs h.1), lines_map ks vs ws ss f same keeps fs h.2)

pub awaiting_lines : (ks vs ss : ℕ) (fs : List FlatLine) → AreLines ks vs ss fs → AreLines ks vs ss (map awaiting fs)
awaiting_lines ks vs ss fs h = lines_map ks vs vs ss awaiting (λ x. refl) (λ x i. i) fs h

pub awaiting_one_lines : (shard ks vs ss : ℕ) (fs : List FlatLine) → AreLines ks vs ss fs → AreLines ks vs ss (map (awaiting_one shard) fs)
awaiting_one_lines shard ks vs ss fs h = lines_map ks vs vs ss (awaiting_one shard) (λ x. refl) (λ x i. i) fs h

pub opened_lines : (ks vs ss : ℕ) (fs : List FlatLine) → AreLines ks vs ss fs → AreLines ks 0 ss (map opened fs)
opened_lines ks vs ss fs h = lines_map ks vs 0 ss opened (λ x. refl) (λ x i. (i.0, i.1, omega arith, i.3, i.4, i.5)) fs h

pub lines_shown : (ks vs ss : ℕ) (fs : List FlatLine) → AreLines ks vs ss fs → AreShown vs fs
lines_shown ks vs ss [] h = tt
lines_shown ks vs ss (f ∷ fs) h = (h.0.2, lines_shown ks vs ss fs h.2)

-- more versions do not change what stands before them
pub part_grown : {A : Type 0} (xs more : List A) (p : Part) → IsInside (length xs) p → part (xs ++ more) p ≡ part xs p
part_grown xs more p h =
    ap (take p.many) (drop-append-le p.from xs more (omega (arith, h)))
    ∙ take-append-le p.many (drop p.from xs) more (omega (arith, h, length-drop p.from xs))

grown : (keys : List Key) (shown more : List (Key × Version)) (skipped : List Skipped) (ks ss : ℕ) (fs : List FlatLine) → AreLines ks (length shown) ss fs → map (read_line keys (shown ++ more) skipped) fs ≡ map (read_line keys shown skipped) fs
grown keys shown more skipped ks ss [] h = refl
grown keys shown more skipped ks ss (f ∷ fs) h =
    ap (λ (l : List (Key × Version)). (record (read_line keys shown skipped f) { shown = l }) ∷ map (read_line keys (shown ++ more) skipped) fs) (part_grown shown more f.shown h.0.2)
    ∙ ap (λ (l : List Line). read_line keys shown skipped f ∷ l) (grown keys shown more skipped ks ss fs h.2)

grown_skips : (keys : List Key) (shown : List (Key × Version)) (skipped others : List Skipped) (ks vs : ℕ) (fs : List FlatLine) → AreLines ks vs (length skipped) fs → map (read_line keys shown (skipped ++ others)) fs ≡ map (read_line keys shown skipped) fs
grown_skips keys shown skipped others ks vs [] h = refl
grown_skips keys shown skipped others ks vs (f ∷ fs) h =
    ap (λ (l : List Skipped). (record (read_line keys shown skipped f) { skipped = l }) ∷ map (read_line keys shown (skipped ++ others)) fs) (part_grown skipped others f.skipped h.0.3)
    ∙ ap (λ (l : List Line). read_line keys shown skipped f ∷ l) (grown_skips keys shown skipped others ks vs fs h.2)

grown_lines : (ks vs ws ss us : ℕ) (fs : List FlatLine) → vs ≤ ws → ss ≤ us → AreLines ks vs ss fs → AreLines ks ws us fs
grown_lines ks vs ws ss us [] q r h = tt
grown_lines ks vs ws ss us (f ∷ fs) q r h = ((h.0.0, h.0.1, omega (arith, q, h.0.2), omega (arith, r, h.0.3), h.0.4, h.0.5), h.1, grown_lines ks vs ws ss us fs q r h.2)

last_part : {A : Type 0} (xs more : List A) → part (xs ++ more) (record { from = length xs; many = length more }) ≡ more
last_part xs more = ap (take (length more)) (drop_at xs more (length xs) refl) ∙ take_all (length more) more (omega arith)

-- a line shows versions that were put behind the others
pub grants : (keys : List Key) (shown more : List (Key × Version)) (skipped : List Skipped) (ks ss : ℕ) (fs : List FlatLine) (ls : List Line) (at n : ℕ) (old : FlatLine) (state : LineState) → map (read_line keys shown skipped) fs ≡ ls → old ≡ get_or fs at old → n ≡ length shown → AreLines ks n ss fs → at < length ls
    → map (read_line keys (shown ++ more) skipped) (set fs at (record old { shown = record { from = n; many = length more }; state = state })) ≡ with_line ls (in_state (record (get_or ls at no_line) { shown = more }) state)
grants keys shown more skipped ks ss fs ls at n old state v e q h l =
    let kept : AreLines ks (length shown) ss fs = subst (λ m. AreLines ks m ss fs) q h in
    let wide = grown_lines ks (length shown) (length (shown ++ more)) ss ss fs (omega (arith, length-append shown more)) (omega arith) kept in
    let x : FlatLine = record old { shown = record { from = n; many = length more }; state = state } in
    let p = put_read keys (shown ++ more) skipped ks (length (shown ++ more)) ss fs ls at old x (grown keys shown more skipped ks ss fs kept ∙ v) e wide l refl in
    let p0 = put_read keys shown skipped ks (length shown) ss fs ls at old x v e kept l refl in
    p.0
    ∙ ap (λ (s : List (Key × Version)). with_line ls (record (read_line keys (shown ++ more) skipped x) { shown = s })) (ap (λ (m : ℕ). part (shown ++ more) (record { from = m; many = length more })) q ∙ last_part shown more)
    ∙ ap (λ (y : Line). with_line ls (in_state (record y { shown = more }) state)) (sym p0.1)

-- a line shows versions and writers that were put behind the others
pub shows : (keys : List Key) (shown more : List (Key × Version)) (skipped others : List Skipped) (ks : ℕ) (fs : List FlatLine) (ls : List Line) (at n m : ℕ) (old : FlatLine) (state : LineState) → map (read_line keys shown skipped) fs ≡ ls → old ≡ get_or fs at old → n ≡ length shown → m ≡ length skipped → AreLines ks n m fs → at < length ls
    → map (read_line keys (shown ++ more) (skipped ++ others)) (set fs at (record old { shown = record { from = n; many = length more }; skipped = record { from = m; many = length others }; state = state })) ≡ with_line ls (in_state (record (get_or ls at no_line) { shown = more; skipped = others }) state)
shows keys shown more skipped others ks fs ls at n m old state v e q r h l =
    let kept : AreLines ks (length shown) (length skipped) fs = subst (λ i. AreLines ks i (length skipped) fs) q (subst (λ i. AreLines ks n i fs) r h) in
    let wide = grown_lines ks (length shown) (length (shown ++ more)) (length skipped) (length (skipped ++ others)) fs (omega (arith, length-append shown more)) (omega (arith, length-append skipped others)) kept in
    let x : FlatLine = record old { shown = record { from = n; many = length more }; skipped = record { from = m; many = length others }; state = state } in
    let view : map (read_line keys (shown ++ more) (skipped ++ others)) fs ≡ ls = grown_skips keys (shown ++ more) skipped others ks (length shown) fs kept ∙ grown keys shown more skipped ks (length skipped) fs kept ∙ v in
    let p = put_read keys (shown ++ more) (skipped ++ others) ks (length (shown ++ more)) (length (skipped ++ others)) fs ls at old x view e wide l refl in
    let p0 = put_read keys shown skipped ks (length shown) (length skipped) fs ls at old x v e kept l refl in
    p.0
    ∙ ap (λ (s : List (Key × Version)). with_line ls (record (read_line keys (shown ++ more) (skipped ++ others) x) { shown = s })) (ap (λ (i : ℕ). part (shown ++ more) (record { from = i; many = length more })) q ∙ last_part shown more)
    ∙ ap (λ (s : List Skipped). with_line ls (record (read_line keys (shown ++ more) (skipped ++ others) x) { shown = more; skipped = s })) (ap (λ (i : ℕ). part (skipped ++ others) (record { from = i; many = length others })) r ∙ last_part skipped others)
    ∙ ap (λ (y : Line). with_line ls (in_state (record y { shown = more; skipped = others }) state)) (sym p0.1)

pub granted_lines : (ks n ws ss : ℕ) (fs : List FlatLine) (at many : ℕ) (old x : FlatLine) → old ≡ get_or fs at old → AreLines ks n ss fs → at < length fs → n + many ≡ ws → x.shard ≡ old.shard → x.reads ≡ old.reads → x.writes ≡ old.writes → x.skipped ≡ old.skipped → x.shown ≡ record { from = n; many = many } → AreLines ks ws ss (set fs at x)
granted_lines ks n ws ss fs at many old x e h l w same r1 w1 s1 p1 =
    let wide = grown_lines ks n ws ss ss fs (omega (arith, w)) (omega arith) h in
    put_keeps ks ws ss fs at (length fs) old x e wide l refl same (λ i. (subst (λ (p : Part). IsInside ks p) (sym r1) i.0, subst (λ (p : Part). IsInside ks p) (sym w1) i.1, subst (λ (p : Part). IsInside ws p) (sym p1) (omega (arith, w)), subst (λ (p : Part). IsInside ss p) (sym s1) i.3, subst (λ (p : Part). p.many ≤ 8) (sym r1) i.4, subst (λ (p : Part). p.many ≤ 8) (sym w1) i.5))

pub shown_lines : (ks n ws m us : ℕ) (fs : List FlatLine) (at many others : ℕ) (old x : FlatLine) → old ≡ get_or fs at old → AreLines ks n m fs → at < length fs → n + many ≡ ws → m + others ≡ us → x.shard ≡ old.shard → x.reads ≡ old.reads → x.writes ≡ old.writes → x.shown ≡ record { from = n; many = many } → x.skipped ≡ record { from = m; many = others } → AreLines ks ws us (set fs at x)
shown_lines ks n ws m us fs at many others old x e h l w u same r1 w1 p1 s1 =
    let wide = grown_lines ks n ws m us fs (omega (arith, w)) (omega (arith, u)) h in
    put_keeps ks ws us fs at (length fs) old x e wide l refl same (λ i. (subst (λ (p : Part). IsInside ks p) (sym r1) i.0, subst (λ (p : Part). IsInside ks p) (sym w1) i.1, subst (λ (p : Part). IsInside ws p) (sym p1) (omega (arith, w)), subst (λ (p : Part). IsInside us p) (sym s1) (omega (arith, u)), subst (λ (p : Part). p.many ≤ 8) (sym r1) i.4, subst (λ (p : Part). p.many ≤ 8) (sym w1) i.5))

awaits_one : (shard : ℕ) (keys : List Key) (shown : List (Key × Version)) (skipped : List Skipped) (f : FlatLine) → read_line keys shown skipped (awaiting_but shard f) ≡ awaits_unless shard (read_line keys shown skipped f)
awaits_one shard keys shown skipped f = go (f.shard == shard)
  where
    go : (b : Bool) → read_line keys shown skipped (record f { state = if b then f.state else Awaiting }) ≡ (if b then read_line keys shown skipped f else in_state (read_line keys shown skipped f) Awaiting)
    go true = refl
    go false = refl

pub awaits_view : (shard : ℕ) (keys : List Key) (shown : List (Key × Version)) (skipped : List Skipped) (fs : List FlatLine) → map (read_line keys shown skipped) (map (awaiting_but shard) fs) ≡ map (awaits_unless shard) (map (read_line keys shown skipped) fs)
awaits_view shard keys shown skipped [] = refl
awaits_view shard keys shown skipped (f ∷ fs) =
    ap (λ (l : Line). l ∷ map (read_line keys shown skipped) (map (awaiting_but shard) fs)) (awaits_one shard keys shown skipped f)
    ∙ ap (λ (l : List Line). awaits_unless shard (read_line keys shown skipped f) ∷ l) (awaits_view shard keys shown skipped fs)

pub awaits_lines : (shard ks vs ss : ℕ) (fs : List FlatLine) → AreLines ks vs ss fs → AreLines ks vs ss (map (awaiting_but shard) fs)
awaits_lines shard ks vs ss fs h = lines_map ks vs vs ss (awaiting_but shard) (λ x. refl) (λ x i. i) fs h

pub shown_view : (keys : List Key) (shown : List (Key × Version)) (skipped : List Skipped) (fs : List FlatLine) → last_shown shown fs ≡ greatest_shown (map (read_line keys shown skipped) fs)
shown_view keys shown skipped [] = refl
shown_view keys shown skipped (f ∷ fs) = ap (max (greatest_time (part shown f.shown))) (shown_view keys shown skipped fs)

-- the first line is the coordinator's own
pub first_place : (ls : List Line) → 0 < length ls → IsPlace ls 0 (coordinator_of ls)
first_place [] h = absurd (omega (arith, h))
first_place (l ∷ ls) h = record {
  inside = h;
  same = sym (ap (λ (b : Bool). if b then l else line_at ls l.shard) (same_one l.shard));
}
  where
    same_one : (n : ℕ) → (n == n) ≡ true
    same_one n = grind arith

-- the lines that passed by a writer await
passed_one : (time : ℕ) (keys : List Key) (shown : List (Key × Version)) (skipped : List Skipped) (f : FlatLine) → read_line keys shown skipped (awaiting_passed skipped time f) ≡ (if must_ask_again time (read_line keys shown skipped f) then in_state (read_line keys shown skipped f) Awaiting else read_line keys shown skipped f)
passed_one time keys shown skipped f = go (may_stand_by time (part skipped f.skipped))
  where
    go : (b : Bool) → read_line keys shown skipped (record f { state = if b then Awaiting else f.state }) ≡ (if b then in_state (read_line keys shown skipped f) Awaiting else read_line keys shown skipped f)
    go true = refl
    go false = refl

pub passed_view : (time : ℕ) (keys : List Key) (shown : List (Key × Version)) (skipped : List Skipped) (fs : List FlatLine) → map (read_line keys shown skipped) (map (awaiting_passed skipped time) fs) ≡ asked_again time (map (read_line keys shown skipped) fs)
passed_view time keys shown skipped [] = refl
passed_view time keys shown skipped (f ∷ fs) =
    ap (λ (l : Line). l ∷ map (read_line keys shown skipped) (map (awaiting_passed skipped time) fs)) (passed_one time keys shown skipped f)
    ∙ ap (λ (l : List Line). (if must_ask_again time (read_line keys shown skipped f) then in_state (read_line keys shown skipped f) Awaiting else read_line keys shown skipped f) ∷ l) (passed_view time keys shown skipped fs)

pub passed_lines : (time ks vs ss : ℕ) (skipped : List Skipped) (fs : List FlatLine) → AreLines ks vs ss fs → AreLines ks vs ss (map (awaiting_passed skipped time) fs)
passed_lines time ks vs ss skipped fs h = lines_map ks vs vs ss (awaiting_passed skipped time) (λ x. refl) (λ x i. i) fs h

pub lines_skips : (ks vs ss : ℕ) (fs : List FlatLine) → AreLines ks vs ss fs → AreSkips ss fs
lines_skips ks vs ss [] h = tt
lines_skips ks vs ss (f ∷ fs) h = (h.0.3, lines_skips ks vs ss fs h.2)

-- the first line is the coordinator's
pub coordinator_view : (keys : List Key) (shown : List (Key × Version)) (skipped : List Skipped) (fs : List FlatLine) (d : FlatLine) → 0 < length fs → coordinator_of (map (read_line keys shown skipped) fs) ≡ (get_or fs 0 d).shard
coordinator_view keys shown skipped [] d h = absurd (omega (arith, h))
coordinator_view keys shown skipped (f ∷ fs) d h = refl

pub ruleset views = (passed_view, passed_lines, lines_skips, awaits_view, awaits_lines, shown_view, answered_view, awaiting_view, awaiting_one_view, opened_view, prepared_view, version_view, read_one, lines_length, awaiting_lines, awaiting_one_lines, opened_lines, lines_shown)

pub line_of : (ks vs ss : ℕ) (fs : List FlatLine) (at n : ℕ) (old : FlatLine) → old ≡ get_or fs at old → AreLines ks vs ss fs → at < n → n ≡ length fs → IsLine ks vs ss old
line_of ks vs ss fs at n old e h l q = subst (λ (z : FlatLine). IsLine ks vs ss z) (sym e) (line_inside ks vs ss fs at old h (omega (arith, l, q)))
