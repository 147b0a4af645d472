-- Cells that are put, one after another.
use Rattle.std.proofs.Common.{◌≡◌, ◌≢◌, ℕ, zero, suc, ◌+◌, ◌-◌, ◌*◌, ◌<◌, ◌≤◌, ◌==◌, ◌&&◌, Bool, true, false, List, [], ◌∷◌, ◌++◌, length, take, get_or, set, replicate, refl, sym, ap, ◌∙◌, subst, arith}
use Rattle.std.specs.Prelude.{if◌then◌else◌}
use Rattle.std.proofs.lemmas.List.{get_or-set_same, get_or-set_other, get_or_default}
use Rattle.rss_names.specs.declared.service.Key.{Key}
use Rattle.rss_names.specs.declared.service.ServiceId.{ServiceId}
use Rattle.rss_names.specs.declared.service.ServiceId.TheVariants.{Txn, Reg}
use Rattle.rss_names.specs.Services.{same_service, same_key}
use Rattle.rss_model.specs.declared.op.Shown.{Shown}
use Rattle.plain_model.specs.Written.{one_over}
use Rattle.call_tables.specs.declared.cells.Cell.{Cell}
use Rattle.call_tables.specs.Cells.{no_cell, cell_in, cell_after, row_place, row_in, cell_of, table_in}

-- a cell that is put is seen at its index
pub seen : (xs : List Cell) (index : ℕ) (cell : Cell) → index < length xs → (at : ℕ) → cell_in (set xs index cell) at ≡ cell_after xs index cell at
seen xs index cell l at = go (index == at) refl
  where
    same : (index == at) ≡ true → index ≡ at
    same t = grind (arith, t)

    other : (index == at) ≡ false → at ≢ index
    other t = λ f. absurd (grind (arith, t, f))

    go : (b : Bool) → (index == at) ≡ b → cell_in (set xs index cell) at ≡ (if b then cell else cell_in xs at)
    go true t = rw (← same t) (get_or-set_same xs index cell no_cell l)
    go false t = get_or-set_other xs index at cell no_cell (other t)

pub seen_through : (old xs : List Cell) (index : ℕ) (cell : Cell) → index < length xs → ((at : ℕ) → cell_in xs at ≡ cell_in old at) → (at : ℕ) → cell_in (set xs index cell) at ≡ cell_after old index cell at
seen_through old xs index cell l same at =
    seen xs index cell l at ∙ ap (λ (c : Cell). if index == at then cell else c) (same at)

pub ruleset cell_through = (seen_through)

-- one more row, without cells
pub one_more_row : (rows : List (List Cell)) (at : ℕ) → row_in (rows ++ [] ∷ []) at ≡ row_in rows at
one_more_row [] zero = refl
one_more_row [] (suc at) = refl
one_more_row (r ∷ rows) zero = refl
one_more_row (r ∷ rows) (suc at) = one_more_row rows at

-- services have rows of their own
same_row : (a b : ServiceId) → same_service a b ≡ true → row_place a ≡ row_place b
same_row (Txn m) (Txn n) e = let s : m ≡ n = grind (arith, e) in omega (arith, s)
same_row (Reg m) (Reg n) e = let s : m ≡ n = grind (arith, e) in omega (arith, s)
same_row (Txn m) (Reg n) e = cc
same_row (Reg m) (Txn n) e = cc

other_row : (a b : ServiceId) → same_service a b ≡ false → row_place a ≢ row_place b
other_row (Txn m) (Txn n) e = λ s. let t : m ≡ n = omega (arith, s) in absurd (grind (arith, e, t))
other_row (Reg m) (Reg n) e = λ s. let t : m ≡ n = omega (arith, s) in absurd (grind (arith, e, t))
other_row (Txn m) (Reg n) e = λ s. absurd (omega (arith, s))
other_row (Reg m) (Txn n) e = λ s. absurd (omega (arith, s))

-- what is shown of a key by its cell
abbrev shown : Key → Cell → Shown
shown key cell = record { key = key; value = cell.value; writer = cell.writer }

eq_turns : (i j : ℕ) (b : Bool) → (i == j) ≡ b → (j == i) ≡ b
eq_turns i j b e = grind (arith, e)

here_by : (old new : List (List Cell)) (w : Shown) (key : Key) (b : Bool) → (key.index == w.key.index) ≡ b → same_service key.service w.key.service ≡ true
    → cell_of new key ≡ (if b then record { value = w.value; writer = w.writer } else cell_of old key) → table_in new key ≡ one_over (table_in old key) w
here_by old new w key true e t q = rw (t, e) (ap (shown key) q)
here_by old new w key false e t q = rw (t, e) (ap (shown key) q)

-- a cell that is put in a row of rows is a write of its key
pub written : (old rows new : List (List Cell)) (w : Shown) → row_place w.key.service < length rows
    → ((at : ℕ) → row_in rows at ≡ row_in old at)
    → new ≡ set rows (row_place w.key.service) (row_in new (row_place w.key.service))
    → ((at : ℕ) → cell_in (row_in new (row_place w.key.service)) at ≡ cell_after (row_in rows (row_place w.key.service)) w.key.index (record { value = w.value; writer = w.writer }) at)
    → (key : Key) → table_in new key ≡ one_over (table_in old key) w
written old rows new w l same own put key = go (same_service key.service w.key.service) refl
  where
    place : ℕ
    place = row_place w.key.service

    cell : Cell
    cell = record { value = w.value; writer = w.writer }

    here : (b : Bool) → (key.index == w.key.index) ≡ b → same_service key.service w.key.service ≡ true → table_in new key ≡ one_over (table_in old key) w
    here b e t =
        let p : row_place key.service ≡ place = same_row key.service w.key.service t in
        here_by old new w key b e t
        (ap (λ (i : ℕ). cell_in (row_in new i) key.index) p ∙ put key.index
        ∙ ap (λ (c : Bool). if c then cell else cell_in (row_in rows place) key.index) (eq_turns key.index w.key.index b e)
        ∙ ap (λ (r : List Cell). if b then cell else cell_in r key.index) (same place ∙ ap (row_in old) (sym p)))

    go : (b : Bool) → same_service key.service w.key.service ≡ b → table_in new key ≡ one_over (table_in old key) w
    go true t = here (key.index == w.key.index) refl t
    go false t =
        let apart : row_place key.service ≢ place = other_row key.service w.key.service t in
        let r : row_in new (row_place key.service) ≡ row_in old (row_place key.service) =
        ap (λ (rs : List (List Cell)). row_in rs (row_place key.service)) own ∙ get_or-set_other rows place (row_place key.service) (row_in new place) [] apart ∙ same (row_place key.service) in
        rw t (ap (λ (row : List Cell). shown key (cell_in row key.index)) r)

pub row_pushed : (rows old : List (List Cell)) (row : List Cell) → ((at : ℕ) → row_in rows at ≡ row_in old at) → row ≡ [] → (at : ℕ) → row_in (rows ++ row ∷ []) at ≡ row_in old at
row_pushed rows old row h e at = ap (λ (r : List Cell). row_in (rows ++ r ∷ []) at) e ∙ one_more_row rows at ∙ h at

pub ruleset pushing = (row_pushed)

pub writes : (old rows new : List (List Cell)) (w : Shown) (place : ℕ) → new ≡ set rows place (row_in new place) → place ≡ row_place w.key.service → place < length rows
    → ((at : ℕ) → row_in rows at ≡ row_in old at)
    → ((at : ℕ) → cell_in (row_in new place) at ≡ cell_after (row_in rows place) w.key.index (record { value = w.value; writer = w.writer }) at)
    → (key : Key) → table_in new key ≡ one_over (table_in old key) w
writes old rows new w place own e l same put =
    written old rows new w (subst (λ (p : ℕ). p < length rows) e l) same (subst (λ (p : ℕ). new ≡ set rows p (row_in new p)) e own)
    (subst (λ (p : ℕ). (at : ℕ) → cell_in (row_in new p) at ≡ cell_after (row_in rows p) w.key.index (record { value = w.value; writer = w.writer }) at) e put)

pub ruleset writing = (writes)

pub put_seen : (rows : List (List Cell)) (place : ℕ) (row d : List Cell) (index : ℕ) (cell : Cell) → place < length rows → ((at : ℕ) → cell_in row at ≡ cell_after (get_or rows place d) index cell at) → (at : ℕ) → cell_in (row_in (set rows place row) place) at ≡ cell_after (row_in rows place) index cell at
put_seen rows place row d index cell l h at =
    ap (λ (r : List Cell). cell_in r at) (get_or-set_same rows place row [] l) ∙ h at ∙ ap (λ (r : List Cell). cell_after r index cell at) (get_or_default rows place d [] l)

pub put_own : (rows : List (List Cell)) (place : ℕ) (row : List Cell) → place < length rows → set rows place row ≡ set rows place (row_in (set rows place row) place)
put_own rows place row l = ap (set rows place) (sym (get_or-set_same rows place row [] l))

pub ruleset putting = (put_seen, put_own)
