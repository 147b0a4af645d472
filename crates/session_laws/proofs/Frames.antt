-- What lines are made of: changes that leave it as it is, and the lines of a call's keys.
use Rattle.std.proofs.Common.{◌≡◌, ◌⊎◌, inl, inr, ℕ, zero, suc, ◌+◌, ◌<◌, ◌≤◌, Bool, true, false, ◌&&◌, List, [], ◌∷◌, length, map, get_or, filter, IsTrue, refl, sym, ap, ◌∙◌, subst, arith}
use Rattle.std.specs.Prelude.{⊤, ◌==◌, if◌then◌else◌}
use Rattle.std.proofs.lemmas.Bool.{cond_both, true≢false, and_parts, and_from, eqb-true, eq-eqb, ne_eqb, cases_lt}
use Rattle.std.proofs.lemmas.List.{length-map}
use Rattle.std.proofs.Math.ListN.{get_or-map}
use Rattle.std.proofs.lemmas.Map.Views.{any-filter_same}
use Rattle.rss_names.specs.declared.service.Key.{Key}
use Rattle.rss_names.specs.Services.{same_key}
use Rattle.rss_names.proofs.Services.{same_key-Decides}
use Rattle.rss_tables.specs.Lines.{Line, keys_on, opening_line, lines_from, lines_of, no_line, line_at, with_line}
use Rattle.rss_tables.specs.Locks.{has_key}
use Rattle.session_laws.specs.Frames.{Frame, frame_of, frames_of, nth_line, IsLine, AreApartShards}
use Rattle.session_laws.proofs.LineLaws.{line_at_is}

-- a change of each line by itself that leaves what it is made of
pub map_frames : (f : Line → Line) → ((l : Line) → frame_of (f l) ≡ frame_of l) → (lines : List Line) → frames_of (map f lines) ≡ frames_of lines
map_frames f same [] = refl
map_frames f same (l ∷ lines) = ap (λ (x : Frame). x ∷ frames_of (map f lines)) (same l) ∙ ap (λ (xs : List Frame). frame_of l ∷ xs) (map_frames f same lines)

pub map_frames_at : (f : Line → Line) (lines : List Line) → ((i : ℕ) → i < length lines → frame_of (f (nth_line lines i)) ≡ frame_of (nth_line lines i)) → frames_of (map f lines) ≡ frames_of lines
map_frames_at f [] same = refl
map_frames_at f (l ∷ lines) same =
    ap (λ (x : Frame). x ∷ frames_of (map f lines)) (same 0 (omega arith))
    ∙ ap (λ (xs : List Frame). frame_of l ∷ xs) (map_frames_at f lines (λ i h. same (suc i) (omega (arith, h))))

-- a line is replaced by one that is made of the same
pub with_line_frames : (lines : List Line) (l new : Line) → IsLine lines l → AreApartShards lines → frame_of new ≡ frame_of l → frames_of (with_line lines new) ≡ frames_of lines
with_line_frames lines l new p apart e = map_frames_at (λ (m : Line). if m.shard == new.shard then new else m) lines at_place
  where
    at_place : (i : ℕ) → i < length lines → frame_of (if (nth_line lines i).shard == new.shard then new else nth_line lines i) ≡ frame_of (nth_line lines i)
    at_place i h = cond_both ((nth_line lines i).shard == new.shard) new (nth_line lines i) (λ (m : Line). frame_of m ≡ frame_of (nth_line lines i))
        (λ t. e ∙ ap frame_of (sym p.at)
        ∙ ap (λ (j : ℕ). frame_of (nth_line lines j)) (sym (apart i p.place h p.inside (eqb-true (nth_line lines i).shard new.shard t ∙ ap (λ (f : Frame). f.shard) e ∙ ap (λ (m : Line). m.shard) (sym p.at)))))
        (λ t. refl)

-- lines that are made of the same
pub frames_length : (u v : List Line) → frames_of u ≡ frames_of v → length u ≡ length v
frames_length u v e = sym (length-map u frame_of) ∙ ap length e ∙ length-map v frame_of

pub frames_nth : (u v : List Line) → frames_of u ≡ frames_of v → (i : ℕ) → frame_of (nth_line u i) ≡ frame_of (nth_line v i)
frames_nth u v e i = sym (get_or-map frame_of u i no_line) ∙ ap (λ (xs : List Frame). get_or xs i (frame_of no_line)) e ∙ get_or-map frame_of v i no_line

pub frames_shard : (u v : List Line) → frames_of u ≡ frames_of v → (i : ℕ) → (nth_line u i).shard ≡ (nth_line v i).shard
frames_shard u v e i = ap (λ (f : Frame). f.shard) (frames_nth u v e i)

pub frames_reads : (u v : List Line) → frames_of u ≡ frames_of v → (i : ℕ) → (nth_line u i).reads ≡ (nth_line v i).reads
frames_reads u v e i = ap (λ (f : Frame). f.reads) (frames_nth u v e i)

pub frames_writes : (u v : List Line) → frames_of u ≡ frames_of v → (i : ℕ) → (nth_line u i).writes ≡ (nth_line v i).writes
frames_writes u v e i = ap (λ (f : Frame). f.writes) (frames_nth u v e i)

pub frames_apart : (u v : List Line) → frames_of u ≡ frames_of v → AreApartShards v → AreApartShards u
frames_apart u v e apart i j h k s =
    apart i j (subst (λ (n : ℕ). i < n) (frames_length u v e) h) (subst (λ (n : ℕ). j < n) (frames_length u v e) k)
    (sym (frames_shard u v e i) ∙ s ∙ frames_shard u v e j)

-- lines by ascending shard, from a number on
abbrev Rise : ℕ → List Line → Type 0
Rise n [] = ⊤
Rise n (l ∷ lines) = (n ≤ l.shard) × Rise (suc l.shard) lines

rise_down : (m n : ℕ) (lines : List Line) → n ≤ m → Rise m lines → Rise n lines
rise_down m n [] h r = tt
rise_down m n (l ∷ lines) h r = (let a = r.0 in omega (arith, a, h), r.1)

rise_above : (n : ℕ) (lines : List Line) → Rise n lines → (i : ℕ) → i < length lines → n ≤ (nth_line lines i).shard
rise_above n [] r i h = absurd (omega (arith, h))
rise_above n (l ∷ lines) r zero h = r.0
rise_above n (l ∷ lines) r (suc i) h = let a = r.0 in let b = rise_above (suc l.shard) lines r.1 i (omega (arith, h)) in omega (arith, a, b)

rise_apart : (n : ℕ) (lines : List Line) → Rise n lines → AreApartShards lines
rise_apart n [] r i j h k s = absurd (omega (arith, h))
rise_apart n (l ∷ lines) r zero zero h k s = refl
rise_apart n (l ∷ lines) r zero (suc j) h k s = absurd (let b = rise_above (suc l.shard) lines r.1 j (omega (arith, k)) in let e : l.shard ≡ (nth_line lines j).shard = s in omega (arith, b, e))
rise_apart n (l ∷ lines) r (suc i) zero h k s = absurd (let b = rise_above (suc l.shard) lines r.1 i (omega (arith, h)) in let e : (nth_line lines i).shard ≡ l.shard = s in omega (arith, b, e))
rise_apart n (l ∷ lines) r (suc i) (suc j) h k s = ap suc (rise_apart (suc l.shard) lines r.1 i j (omega (arith, h)) (omega (arith, k)) s)

lines_rise : (home : ℕ → ℕ) (reads writes : List Key) (shard left : ℕ) → Rise shard (lines_from home reads writes shard left)
lines_rise home reads writes shard zero = tt
lines_rise home reads writes shard (suc left) =
    cond_both (length (keys_on home shard reads) + length (keys_on home shard writes) == 0) (lines_from home reads writes (shard + 1) left)
    (opening_line shard (keys_on home shard reads) (keys_on home shard writes) ∷ lines_from home reads writes (shard + 1) left) (Rise shard)
    (λ e. rise_down (shard + 1) shard (lines_from home reads writes (shard + 1) left) (omega arith) (lines_rise home reads writes (shard + 1) left))
    (λ e. (omega arith, subst (λ (n : ℕ). Rise n (lines_from home reads writes (shard + 1) left)) (omega arith) (lines_rise home reads writes (shard + 1) left)))

pub lines_of_apart : (home : ℕ → ℕ) (reads writes : List Key) → AreApartShards (lines_of home reads writes)
lines_of_apart home reads writes = rise_apart 1 (lines_of home reads writes) (lines_rise home reads writes 1 16)

-- a line is the opening one of a shard in a range
pub record IsOpened (home : ℕ → ℕ) (reads writes : List Key) (low high : ℕ) (l : Line) : Type 0 where
  pub above : low ≤ l.shard
  pub below : l.shard < high
  pub opened : l ≡ opening_line l.shard (keys_on home l.shard reads) (keys_on home l.shard writes)

opened_more : (home : ℕ → ℕ) (reads writes : List Key) (low low' high high' : ℕ) (l : Line) → low ≤ low' → high' ≡ high → IsOpened home reads writes low' high' l → IsOpened home reads writes low high l
opened_more home reads writes low low' high high' l h e o = record { above = (let a = o.above in omega (arith, a, h)); below = (let a = o.below in omega (arith, a, e)); opened = o.opened }

lines_opened : (home : ℕ → ℕ) (reads writes : List Key) (shard left i : ℕ) → i < length (lines_from home reads writes shard left) → IsOpened home reads writes shard (shard + left) (nth_line (lines_from home reads writes shard left) i)
lines_opened home reads writes shard zero i h = absurd (omega (arith, h))
lines_opened home reads writes shard (suc left) i h =
    cond_both (length (keys_on home shard reads) + length (keys_on home shard writes) == 0) (lines_from home reads writes (shard + 1) left)
    (opening_line shard (keys_on home shard reads) (keys_on home shard writes) ∷ lines_from home reads writes (shard + 1) left)
    (λ (lines : List Line). i < length lines → IsOpened home reads writes shard (shard + suc left) (nth_line lines i))
    (λ e a. more i (lines_opened home reads writes (shard + 1) left i a)) (λ e. by_place i (lines_opened home reads writes (shard + 1) left)) h
  where
    more : (j : ℕ) → IsOpened home reads writes (shard + 1) (shard + 1 + left) (nth_line (lines_from home reads writes (shard + 1) left) j) → IsOpened home reads writes shard (shard + suc left) (nth_line (lines_from home reads writes (shard + 1) left) j)
    more j o = opened_more home reads writes shard (shard + 1) (shard + suc left) (shard + 1 + left) (nth_line (lines_from home reads writes (shard + 1) left) j) (omega arith) (omega arith) o

    by_place : (j : ℕ) → ((k : ℕ) → k < length (lines_from home reads writes (shard + 1) left) → IsOpened home reads writes (shard + 1) (shard + 1 + left) (nth_line (lines_from home reads writes (shard + 1) left) k))
        → j < length (opening_line shard (keys_on home shard reads) (keys_on home shard writes) ∷ lines_from home reads writes (shard + 1) left)
        → IsOpened home reads writes shard (shard + suc left) (nth_line (opening_line shard (keys_on home shard reads) (keys_on home shard writes) ∷ lines_from home reads writes (shard + 1) left) j)
    by_place zero ih h = record { above = omega arith; below = omega arith; opened = refl }
    by_place (suc j) ih h = more j (ih j (omega (arith, h)))

pub lines_of_opened : (home : ℕ → ℕ) (reads writes : List Key) (i : ℕ) → i < length (lines_of home reads writes) → IsOpened home reads writes 1 17 (nth_line (lines_of home reads writes) i)
lines_of_opened home reads writes i h = lines_opened home reads writes 1 16 i h

-- shards are numbered from 1 to 16
pub lines_of_bounds : (home : ℕ → ℕ) (reads writes : List Key) (i : ℕ) → i < length (lines_of home reads writes) → (1 ≤ (nth_line (lines_of home reads writes) i).shard) × ((nth_line (lines_of home reads writes) i).shard ≤ 16)
lines_of_bounds home reads writes i h = let o = lines_of_opened home reads writes i h in (o.above, let a = o.below in omega (arith, a))

-- the line of a shard is found where it stands
pub line_at_nth : (lines : List Line) → AreApartShards lines → (i : ℕ) → i < length lines → line_at lines (nth_line lines i).shard ≡ nth_line lines i
line_at_nth [] apart i h = absurd (omega (arith, h))
line_at_nth (l ∷ lines) apart zero h = rw (eq-eqb l.shard l.shard refl) refl
line_at_nth (l ∷ lines) apart (suc i) h = by_test (l.shard == (nth_line lines i).shard) refl (line_at_nth lines (λ j k a b s. let e = apart (suc j) (suc k) (omega (arith, a)) (omega (arith, b)) s in omega (arith, e)) i (omega (arith, h)))
  where
    by_test : (b : Bool) → (l.shard == (nth_line lines i).shard) ≡ b → line_at lines (nth_line lines i).shard ≡ nth_line lines i → line_at (l ∷ lines) (nth_line lines i).shard ≡ nth_line lines i
    by_test true e ih = absurd (let a = apart 0 (suc i) (omega arith) h (eqb-true l.shard (nth_line lines i).shard e) in omega (arith, a))
    by_test false e ih = rw e ih

-- a key among keys that pass a test
pub key_kept : (test : Key → Bool) (keys : List Key) (key : Key) → has_key (filter test keys) key ≡ (test key && has_key keys key)
key_kept test keys key = any-filter_same (same_key key) test (test key) (λ k e. ap test (sym ((same_key-Decides key k).0 e))) keys

pub key_on : (home : ℕ → ℕ) (shard : ℕ) (keys : List Key) (key : Key) → has_key (keys_on home shard keys) key ≡ true → (home key.index ≡ shard) × (has_key keys key ≡ true)
key_on home shard keys key h =
    let p = and_parts (home key.index == shard) (has_key keys key) (sym (key_kept (λ (k : Key). home k.index == shard) keys key) ∙ h) in
    (eqb-true (home key.index) shard p.0, p.1)

pub key_at_home : (home : ℕ → ℕ) (keys : List Key) (key : Key) → has_key keys key ≡ true → has_key (keys_on home (home key.index) keys) key ≡ true
key_at_home home keys key h = key_kept (λ (k : Key). home k.index == home key.index) keys key ∙ and_from (home key.index == home key.index) (has_key keys key) (eq-eqb (home key.index) (home key.index) refl) h

-- keys of which one is found are not none
not_empty : (keys : List Key) (key : Key) → has_key keys key ≡ true → 0 < length keys
not_empty [] key h = absurd (true≢false (sym h))
not_empty (k ∷ keys) key h = omega arith

-- the line of a shard that has a key
line_found : (home : ℕ → ℕ) (reads writes : List Key) (shard left s : ℕ) → shard ≤ s → s < shard + left → 0 < length (keys_on home s reads) + length (keys_on home s writes) → line_at (lines_from home reads writes shard left) s ≡ opening_line s (keys_on home s reads) (keys_on home s writes)
line_found home reads writes shard zero s a b c = absurd (omega (arith, a, b))
line_found home reads writes shard (suc left) s a b c = by_shard (cases_lt shard s) (λ d. line_found home reads writes (shard + 1) left s d (omega (arith, b)) c)
  where
    later : shard < s → line_at (lines_from home reads writes (shard + 1) left) s ≡ opening_line s (keys_on home s reads) (keys_on home s writes) → line_at (lines_from home reads writes shard (suc left)) s ≡ opening_line s (keys_on home s reads) (keys_on home s writes)
    later d ih = cond_both (length (keys_on home shard reads) + length (keys_on home shard writes) == 0) (lines_from home reads writes (shard + 1) left)
        (opening_line shard (keys_on home shard reads) (keys_on home shard writes) ∷ lines_from home reads writes (shard + 1) left)
        (λ (lines : List Line). line_at lines s ≡ opening_line s (keys_on home s reads) (keys_on home s writes))
        (λ e. ih) (λ e. rw (ne_eqb shard s (λ f. omega (arith, d, f))) ih)

    here : shard ≡ s → line_at (lines_from home reads writes shard (suc left)) s ≡ opening_line s (keys_on home s reads) (keys_on home s writes)
    here e = rw e (rw (ne_eqb (length (keys_on home s reads) + length (keys_on home s writes)) 0 (λ f. omega (arith, c, f))) (rw (eq-eqb s s refl) refl))

    by_shard : (shard < s) ⊎ (s ≤ shard) → (shard + 1 ≤ s → line_at (lines_from home reads writes (shard + 1) left) s ≡ opening_line s (keys_on home s reads) (keys_on home s writes)) → line_at (lines_from home reads writes shard (suc left)) s ≡ opening_line s (keys_on home s reads) (keys_on home s writes)
    by_shard (inl d) ih = later d (ih (omega (arith, d)))
    by_shard (inr d) ih = here (omega (arith, a, d))

line_of_home : (home : ℕ → ℕ) (reads writes : List Key) (s : ℕ) → 1 ≤ s → s ≤ 16 → 0 < length (keys_on home s reads) + length (keys_on home s writes) → line_at (lines_of home reads writes) s ≡ opening_line s (keys_on home s reads) (keys_on home s writes)
line_of_home home reads writes s a b c = line_found home reads writes 1 16 s a (omega (arith, b)) c

line_is_there : (lines : List Line) (s : ℕ) → 1 ≤ s → (line_at lines s).shard ≡ s → IsLine lines (line_at lines s)
line_is_there lines s a e = by_cases (line_at_is lines s)
  where
    by_cases : (IsLine lines (line_at lines s) × ((line_at lines s).shard ≡ s)) ⊎ (line_at lines s ≡ no_line) → IsLine lines (line_at lines s)
    by_cases (inl h) = h.0
    by_cases (inr h) = absurd (let f : 0 ≡ s = sym (ap (λ (l : Line). l.shard) h) ∙ e in omega (arith, f, a))

-- a key that a call reads is on the line of its home
pub lines_of_reads : (home : ℕ → ℕ) (reads writes : List Key) (key : Key) → IsTrue (has_key reads key) → 1 ≤ home key.index → home key.index ≤ 16
    → IsTrue (has_key (line_at (lines_of home reads writes) (home key.index)).reads key) × ((line_at (lines_of home reads writes) (home key.index)).shard ≡ home key.index) × IsLine (lines_of home reads writes) (line_at (lines_of home reads writes) (home key.index))
lines_of_reads home reads writes key h a b =
    let k : has_key (keys_on home (home key.index) reads) key ≡ true = key_at_home home reads key h in
    let n : 0 < length (keys_on home (home key.index) reads) = not_empty (keys_on home (home key.index) reads) key k in
    let e : line_at (lines_of home reads writes) (home key.index) ≡ opening_line (home key.index) (keys_on home (home key.index) reads) (keys_on home (home key.index) writes) = line_of_home home reads writes (home key.index) a b (omega (arith, n)) in
    (ap (λ (l : Line). has_key l.reads key) e ∙ k, ap (λ (l : Line). l.shard) e, line_is_there (lines_of home reads writes) (home key.index) a (ap (λ (l : Line). l.shard) e))

pub lines_of_writes : (home : ℕ → ℕ) (reads writes : List Key) (key : Key) → IsTrue (has_key writes key) → 1 ≤ home key.index → home key.index ≤ 16
    → IsTrue (has_key (line_at (lines_of home reads writes) (home key.index)).writes key) × ((line_at (lines_of home reads writes) (home key.index)).shard ≡ home key.index) × IsLine (lines_of home reads writes) (line_at (lines_of home reads writes) (home key.index))
lines_of_writes home reads writes key h a b =
    let k : has_key (keys_on home (home key.index) writes) key ≡ true = key_at_home home writes key h in
    let n : 0 < length (keys_on home (home key.index) writes) = not_empty (keys_on home (home key.index) writes) key k in
    let e : line_at (lines_of home reads writes) (home key.index) ≡ opening_line (home key.index) (keys_on home (home key.index) reads) (keys_on home (home key.index) writes) = line_of_home home reads writes (home key.index) a b (omega (arith, n)) in
    (ap (λ (l : Line). has_key l.writes key) e ∙ k, ap (λ (l : Line). l.shard) e, line_is_there (lines_of home reads writes) (home key.index) a (ap (λ (l : Line). l.shard) e))

-- a key on a line is one of the call's, and the line is that of its home
pub lines_of_home : (home : ℕ → ℕ) (reads writes : List Key) (key : Key) (i : ℕ) → i < length (lines_of home reads writes) → has_key (nth_line (lines_of home reads writes) i).reads key ≡ true
    → (home key.index ≡ (nth_line (lines_of home reads writes) i).shard) × (has_key reads key ≡ true)
lines_of_home home reads writes key i h e = key_on home (nth_line (lines_of home reads writes) i).shard reads key (ap (λ (l : Line). has_key l.reads key) (sym (lines_of_opened home reads writes i h).opened) ∙ e)

pub lines_of_home_writes : (home : ℕ → ℕ) (reads writes : List Key) (key : Key) (i : ℕ) → i < length (lines_of home reads writes) → has_key (nth_line (lines_of home reads writes) i).writes key ≡ true
    → (home key.index ≡ (nth_line (lines_of home reads writes) i).shard) × (has_key writes key ≡ true)
lines_of_home_writes home reads writes key i h e = key_on home (nth_line (lines_of home reads writes) i).shard writes key (ap (λ (l : Line). has_key l.writes key) (sym (lines_of_opened home reads writes i h).opened) ∙ e)
