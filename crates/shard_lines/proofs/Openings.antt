-- Lines as they open.
use Rattle.std.proofs.Common.{◌≡◌, ℕ, ◌+◌, ◌-◌, ◌<◌, ◌≤◌, ◌==◌, Bool, true, false, zero, suc, List, [], ◌∷◌, ◌++◌, length, take, drop, map, refl, sym, subst, ap, ◌∙◌, arith, append_assoc}
use Rattle.std.specs.Prelude.{if◌then◌else◌}
use Rattle.std.proofs.lemmas.List.{take-append-le, drop-append-le, length-append, length-drop, drop_at, take_all, append-nil, map-append, length-take, length-map}
use Rattle.rss_names.specs.declared.service.Key.{Key}
use Rattle.rss_tables.specs.declared.lines.LineState.TheVariants.{Awaiting}
use Rattle.rss_tables.specs.Lines.{Line, keys_on, line_before, opening_line, lines_from, lines_of}
use Rattle.shard_lines.specs.declared.flat.Part.{Part}
use Rattle.shard_lines.specs.declared.flat.FlatLine.{FlatLine}
use Rattle.shard_lines.specs.Flat.{part, read_line, IsInside, IsLine, AreAbove, AreBelow, AreLines, AreHomed, home_in, no_part}
use Rattle.shard_lines.proofs.Flats.{part_grown}

-- one key more is looked at
pub keys_more : (xs : List Key) (y : Key) (ys : List Key) → (xs ++ y ∷ []) ++ ys ≡ xs ++ (y ∷ ys)
keys_more xs y ys = append_assoc xs (y ∷ []) ys

-- more keys do not change the lines before them
keys_grown : (keys more : List Key) (n : ℕ) (fs : List FlatLine) → n ≡ length keys → AreLines n 0 0 fs → map (read_line (keys ++ more) [] []) fs ≡ map (read_line keys [] []) fs
keys_grown keys more n [] e h = refl
keys_grown keys more n (f ∷ fs) e h =
    let reads = part_grown keys more f.reads (subst (λ m. IsInside m f.reads) e h.0.0) in
    let writes = part_grown keys more f.writes (subst (λ m. IsInside m f.writes) e h.0.1) in
    ap (λ (l : List Key). (record (read_line (keys ++ more) [] [] f) { reads = l }) ∷ map (read_line (keys ++ more) [] []) fs) reads
    ∙ ap (λ (l : List Key). (record (read_line keys [] [] f) { writes = l }) ∷ map (read_line (keys ++ more) [] []) fs) writes
    ∙ ap (λ (l : List Line). read_line keys [] [] f ∷ l) (keys_grown keys more n fs e h.2)

lines_wider : (n m : ℕ) (fs : List FlatLine) → n ≤ m → AreLines n 0 0 fs → AreLines m 0 0 fs
lines_wider n m [] q h = tt
lines_wider n m (f ∷ fs) q h = ((omega (arith, q, h.0.0), omega (arith, q, h.0.1), h.0.2, h.0.3, h.0.4, h.0.5), h.1, lines_wider n m fs q h.2)

above_end : (shard : ℕ) (fs : List FlatLine) (x : FlatLine) → AreAbove shard fs → shard < x.shard → AreAbove shard (fs ++ x ∷ [])
above_end shard [] x h l = (l, tt)
above_end shard (f ∷ fs) x h l = (h.0, above_end shard fs x h.1 l)

lines_end : (n : ℕ) (fs : List FlatLine) (x : FlatLine) → AreLines n 0 0 fs → AreBelow x.shard fs → IsLine n 0 0 x → AreLines n 0 0 (fs ++ x ∷ [])
lines_end n [] x h b i = (i, tt, tt)
lines_end n (f ∷ fs) x h b i = (h.0, above_end f.shard fs x h.1 b.0, lines_end n fs x h.2 b.1 i)

below_more : (shard : ℕ) (fs : List FlatLine) → AreBelow shard fs → AreBelow (shard + 1) fs
below_more shard [] h = tt
below_more shard (f ∷ fs) h = (omega (arith, h.0), below_more shard fs h.1)

below_end : (shard : ℕ) (fs : List FlatLine) (x : FlatLine) → x.shard ≡ shard → AreBelow shard fs → AreBelow (shard + 1) (fs ++ x ∷ [])
below_end shard [] x e h = (omega (arith, e), tt)
below_end shard (f ∷ fs) x e h = (omega (arith, h.0), below_end shard fs x e h.1)

map_end : (keys : List Key) (fs : List FlatLine) (x : FlatLine) → map (read_line keys [] []) (fs ++ x ∷ []) ≡ map (read_line keys [] []) fs ++ read_line keys [] [] x ∷ []
map_end keys [] x = refl
map_end keys (f ∷ fs) x = ap (λ (l : List Line). read_line keys [] [] f ∷ l) (map_end keys fs x)

-- what a shard adds
pub record Adds (keys now : List Key) (n m : ℕ) (fs gs : List FlatLine) (shard : ℕ) (reads writes : List Key) : Type 0 where
  pub added : map (read_line now [] []) gs ≡ map (read_line keys [] []) fs ++ line_before shard reads writes []
  pub lines : AreLines m 0 0 gs
  pub below : AreBelow (shard + 1) gs

-- the line of a shard with keys
middle_part : (keys reads writes : List Key) → part ((keys ++ reads) ++ writes) (record { from = length keys; many = length reads }) ≡ reads
middle_part keys reads writes =
    ap (take (length reads)) (ap (drop (length keys)) (append_assoc keys reads writes) ∙ drop_at keys (reads ++ writes) (length keys) refl)
    ∙ take-append-le (length reads) reads writes (omega arith) ∙ take_all (length reads) reads (omega arith)

end_part : (keys writes : List Key) → part (keys ++ writes) (record { from = length keys; many = length writes }) ≡ writes
end_part keys writes = ap (take (length writes)) (drop_at keys writes (length keys) refl) ∙ take_all (length writes) writes (omega arith)

not_none : (n : ℕ) → 0 < n → (n == 0) ≡ false
not_none n h = grind (arith, h)

first_part : (keys k1 k2 reads writes : List Key) (n many : ℕ) → k1 ≡ keys ++ reads → k2 ≡ k1 ++ writes → n ≡ length keys → many ≡ length reads → take many (drop n k2) ≡ reads
first_part keys k1 k2 reads writes n many e f g h =
    ap (λ (l : List Key). take many (drop n l)) (f ∙ ap (λ (l : List Key). l ++ writes) e)
    ∙ ap (λ i. take many (drop i ((keys ++ reads) ++ writes))) g
    ∙ ap (λ i. take i (drop (length keys) ((keys ++ reads) ++ writes))) h
    ∙ middle_part keys reads writes

last_part_is : (k1 k2 writes : List Key) (m many : ℕ) → k2 ≡ k1 ++ writes → m ≡ length k1 → many ≡ length writes → take many (drop m k2) ≡ writes
last_part_is k1 k2 writes m many f g h =
    ap (λ (l : List Key). take many (drop m l)) f
    ∙ ap (λ i. take many (drop i (k1 ++ writes))) g
    ∙ ap (λ i. take i (drop (length k1) (k1 ++ writes))) h
    ∙ end_part k1 writes

pub adds_line : (keys k1 k2 reads writes : List Key) (n m e : ℕ) (fs gs : List FlatLine) (shard : ℕ) (x : FlatLine) → k1 ≡ keys ++ reads → k2 ≡ k1 ++ writes → n ≡ length keys → m ≡ length k1 → e ≡ length k2 → AreLines n 0 0 fs → AreBelow shard fs → n < e → m ≤ n + 8 → e ≤ m + 8
    → x ≡ record { shard = shard; reads = record { from = n; many = m - n }; writes = record { from = m; many = e - m }; state = Awaiting; shown = no_part; skipped = no_part; prepare_time = 0 } → gs ≡ fs ++ x ∷ []
    → Adds keys k2 n e fs gs shard reads writes
adds_line keys k1 k2 reads writes n m e fs gs shard x p q en em ee h b some few_reads few_writes is g =
    let l1 : length k1 ≡ length keys + length reads = ap length p ∙ length-append keys reads in
    let l2 : length k2 ≡ length k1 + length writes = ap length q ∙ length-append k1 writes in
    let r : take (m - n) (drop n k2) ≡ reads = first_part keys k1 k2 reads writes n (m - n) p q en (omega (arith, l1, en, em)) in
    let w : take (e - m) (drop m k2) ≡ writes = last_part_is k1 k2 writes m (e - m) q em (omega (arith, l2, em, ee)) in
    let y : FlatLine = record { shard = shard; reads = record { from = n; many = m - n }; writes = record { from = m; many = e - m }; state = Awaiting; shown = no_part; skipped = no_part; prepare_time = 0 } in
    let gy : gs ≡ fs ++ y ∷ [] = g ∙ ap (λ (z : FlatLine). fs ++ z ∷ []) is in
    let whole : k2 ≡ keys ++ (reads ++ writes) = q ∙ ap (λ (l : List Key). l ++ writes) p ∙ append_assoc keys reads writes in
    record {
      added = ap (map (read_line k2 [] [])) gy ∙ map_end k2 fs y
          ∙ ap (λ (l : List Line). l ++ read_line k2 [] [] y ∷ []) (ap (λ (l : List Key). map (read_line l [] []) fs) whole ∙ keys_grown keys (reads ++ writes) n fs en h)
          ∙ ap (λ (l : List Key). map (read_line keys [] []) fs ++ (record (opening_line shard [] []) { reads = l; writes = take (e - m) (drop m k2) }) ∷ []) r
          ∙ ap (λ (l : List Key). map (read_line keys [] []) fs ++ opening_line shard reads l ∷ []) w
          ∙ sym (ap (λ (t : Bool). map (read_line keys [] []) fs ++ (if t then [] else opening_line shard reads writes ∷ [])) (not_none (length reads + length writes) (omega (arith, l1, l2, en, ee, some))));
      lines = subst (λ (l : List FlatLine). AreLines e 0 0 l) (sym gy) (lines_end e fs y (lines_wider n e fs (omega (arith, some)) h) b (omega (arith, l1, l2, en, em, ee), omega (arith, l2, em, ee), omega arith, omega arith, omega (arith, few_reads), omega (arith, few_writes)));
      below = subst (λ (l : List FlatLine). AreBelow (shard + 1) l) (sym gy) (below_end shard fs y refl b);
    }

pub below_next : (shard : ℕ) (fs : List FlatLine) → AreBelow shard fs → AreBelow (shard + 1) fs
below_next shard fs h = below_more shard fs h

before_more : (shard : ℕ) (reads writes : List Key) (ls : List Line) → line_before shard reads writes ls ≡ line_before shard reads writes [] ++ ls
before_more shard reads writes ls = go (length reads + length writes == 0)
  where
    go : (t : Bool) → (if t then ls else opening_line shard reads writes ∷ ls) ≡ (if t then [] else opening_line shard reads writes ∷ []) ++ ls
    go true = refl
    go false = refl

-- the lines of one shard more
pub lines_more : (home : ℕ → ℕ) (reads writes : List Key) (old now whole : List Line) (at : ℕ) → at < 16 → now ≡ old ++ line_before (at + 1) (keys_on home (at + 1) reads) (keys_on home (at + 1) writes) [] → old ++ lines_from home reads writes (at + 1) (16 - at) ≡ whole → now ++ lines_from home reads writes (at + 1 + 1) (16 - (at + 1)) ≡ whole
lines_more home reads writes old now whole at h e w =
    let left : 16 - at ≡ suc (16 - (at + 1)) = omega (arith, h) in
    let rest : List Line = lines_from home reads writes (at + 1 + 1) (16 - (at + 1)) in
    ap (λ (l : List Line). l ++ rest) e
    ∙ append_assoc old (line_before (at + 1) (keys_on home (at + 1) reads) (keys_on home (at + 1) writes) []) rest
    ∙ ap (λ (l : List Line). old ++ l) (sym (before_more (at + 1) (keys_on home (at + 1) reads) (keys_on home (at + 1) writes) rest))
    ∙ ap (λ n. old ++ lines_from home reads writes (at + 1) n) (sym left)
    ∙ w

-- a key among keys that are on a shard
some_on : (home : ℕ → ℕ) (shard : ℕ) (key : Key) (keys : List Key) → home key.index ≡ shard → 0 < length (keys_on home shard (key ∷ keys))
some_on home shard key keys e = subst (λ (b : Bool). 0 < length (if b then key ∷ keys_on home shard keys else keys_on home shard keys)) (sym (same (home key.index) shard e)) (omega arith)
  where
    same : (a b : ℕ) → a ≡ b → (a == b) ≡ true
    same a b q = grind (arith, q)

-- where a shard has keys, it has a line before the others
line_some : (shard : ℕ) (reads writes : List Key) (ls : List Line) → 0 < length reads + length writes → 0 < length (line_before shard reads writes ls)
line_some shard reads writes ls h = subst (λ (b : Bool). 0 < length (if b then ls else opening_line shard reads writes ∷ ls)) (sym (not_none (length reads + length writes) h)) (omega arith)

line_rest : (shard : ℕ) (reads writes : List Key) (ls : List Line) → 0 < length ls → 0 < length (line_before shard reads writes ls)
line_rest shard reads writes ls h = go (length reads + length writes == 0)
  where
    go : (b : Bool) → 0 < length (if b then ls else opening_line shard reads writes ∷ ls)
    go true = h
    go false = omega arith

-- whichever list a key stands in, its shard has a line
some_from : (home : ℕ → ℕ) (reads writes : List Key) (shard left n : ℕ) → shard ≤ n → n < shard + left → ((s : ℕ) → s ≡ n → 0 < length (keys_on home s reads) + length (keys_on home s writes)) → 0 < length (lines_from home reads writes shard left)
some_from home reads writes shard zero n low high h = absurd (omega (arith, low, high))
some_from home reads writes shard (suc left) n low high h =
    go (λ e. some_from home reads writes (shard + 1) left n (is_past shard n e low) (omega (arith, high)) h) (shard == n) refl
  where
    is_here : (a b : ℕ) → (a == b) ≡ true → a ≡ b
    is_here a b e = grind (arith, e)

    is_past : (a b : ℕ) → (a == b) ≡ false → a ≤ b → a + 1 ≤ b
    is_past a b e q = grind (arith, e, q)

    go : ((shard == n) ≡ false → 0 < length (lines_from home reads writes (shard + 1) left)) → (b : Bool) → (shard == n) ≡ b → 0 < length (lines_from home reads writes shard (suc left))
    go on true e = line_some shard (keys_on home shard reads) (keys_on home shard writes) (lines_from home reads writes (shard + 1) left) (h shard (is_here shard n e))
    go on false e = line_rest shard (keys_on home shard reads) (keys_on home shard writes) (lines_from home reads writes (shard + 1) left) (on e)

-- a call with a key has a line
pub some_lines : (homes : List ℕ) (reads writes : List Key) → 0 < length writes + length reads → AreHomed homes reads → AreHomed homes writes → 0 < length (lines_of (home_in homes) reads writes)
some_lines homes [] [] h r w = absurd (omega (arith, h))
some_lines homes reads (key ∷ writes) h r w =
    some_from (home_in homes) reads (key ∷ writes) 1 16 (home_in homes key.index) w.0.0 (omega (arith, w.0.1)) (λ s e. omega (arith, some_on (home_in homes) s key writes (sym e)))
some_lines homes (key ∷ reads) [] h r w =
    some_from (home_in homes) (key ∷ reads) [] 1 16 (home_in homes key.index) r.0.0 (omega (arith, r.0.1)) (λ s e. omega (arith, some_on (home_in homes) s key reads (sym e)))

-- behind the last shard some line was made
pub some_made : (homes : List ℕ) (reads writes keys : List Key) (fs : List FlatLine) (n at : ℕ) → 0 < length writes + length reads → AreHomed homes reads → AreHomed homes writes → n ≡ length fs → at ≡ 16 → map (read_line keys [] []) fs ++ lines_from (home_in homes) reads writes (at + 1) (16 - at) ≡ lines_of (home_in homes) reads writes → 0 < n
some_made homes reads writes keys fs n at some r w e last whole =
    let none : length (lines_from (home_in homes) reads writes (at + 1) (16 - at)) ≡ 0 = ap (λ k. length (lines_from (home_in homes) reads writes (k + 1) (16 - k))) last in
    omega (arith, e, none, some_lines homes reads writes some r w, ap length whole, length-append (map (read_line keys [] []) fs) (lines_from (home_in homes) reads writes (at + 1) (16 - at)), length-map fs (read_line keys [] []))
