-- What it does to all marks that one register is noted.
use Rattle.std.proofs.Common.{◌≡◌, ◌≢◌, ◌⊎◌, inl, inr, ℕ, zero, suc, ◌+◌, ◌<◌, Bool, true, false, ◌||◌, ◌&&◌, List, [], ◌∷◌, ◌++◌, length, get_or, set, map, drop, arith, refl, sym, ap, ◌∙◌, subst, add-one}
use Rattle.std.specs.Prelude.{is_some}
use Rattle.std.proofs.lemmas.Grind.{common_steps}
use Rattle.std.proofs.lemmas.List.{at_drop_more, map-set, set-get_or, get_or-map, get_or-set_same, get_or-set_other}
use Rattle.rss_names.specs.declared.service.Key.{Key}
use Rattle.causal_context.specs.declared.dep.Dep.{Dep}
use Rattle.carstamps.specs.declared.carstamp.Carstamp.{Carstamp}
use Rattle.carstamps.specs.Stamp.{stamp_le, opening_stamp}
use Rattle.rss_wire.specs.declared.messages.RegReply.{RegReply}
use Rattle.rss_tables.specs.ReplicaRow.{opening_cell}
use Rattle.rss_machine.specs.Marks.{first_mark, is_noted, is_held, count_holders, greatest_held, majority_stamp, noted, notes_keys}
use Rattle.rss_machine.specs.declared.state.Mark.{Mark}
use Rattle.reg_world.specs.Rows.{MarksView, no_marks, marks_of, with_mark, is_ready, is_ready_at, are_ready, StayReady}

-- where no replica is there, nothing is noted
pub nothing-noted : (step : ℕ) (keys : List Key) (marks : List (List Mark)) → notes_keys [] step keys marks ≡ marks
nothing-noted step [] marks = refl
nothing-noted step (key ∷ keys) marks = rw (set-get_or marks key.index []) (nothing-noted step keys marks)

-- the marks of one register, put in the place of what they were
pub marks-noted : (replicas : List (List RegReply)) (rows : List MarksView) (key : Key) (step : ℕ) (d new : MarksView) (stamp : Carstamp) → key.index < length rows
    → stamp ≡ majority_stamp replicas key → new.marks ≡ with_mark (get_or rows key.index d).marks stamp step
    → marks_of (set rows key.index new) ≡ set (marks_of rows) key.index (noted replicas key step (get_or (marks_of rows) key.index []))
marks-noted replicas rows key step d new stamp l m e =
    let old : get_or (marks_of rows) key.index [] ≡ (get_or rows key.index d).marks = get_or-map (λ (r : MarksView). r.marks) rows key.index d [] l in
    map-set {B = List Mark} (λ (r : MarksView). r.marks) rows key.index new
    ∙ ap (set (marks_of rows) key.index) (e ∙ ap (λ (s : Carstamp). with_mark (get_or rows key.index d).marks s step) m ∙ ap (noted replicas key step) (sym old))

-- what a majority holds of a register depends on its index alone
count-same : (a b : Key) (stamp : Carstamp) (replicas : List (List RegReply)) → a.index ≡ b.index → count_holders a stamp replicas ≡ count_holders b stamp replicas
count-same a b stamp [] e = refl
count-same a b stamp (cells ∷ replicas) e = rw (e, count-same a b stamp replicas e) refl

held-same : (a b : Key) (stamp : Carstamp) (replicas : List (List RegReply)) → a.index ≡ b.index → is_held replicas a stamp ≡ is_held replicas b stamp
held-same a b stamp replicas e = rw (count-same a b stamp replicas e) refl

greatest-same : (a b : Key) (replicas some : List (List RegReply)) → a.index ≡ b.index → greatest_held replicas a some ≡ greatest_held replicas b some
greatest-same a b replicas [] e = refl
greatest-same a b replicas (cells ∷ some) e = rw (held-same a b (get_or cells a.index opening_cell).stamp replicas e, greatest-same a b replicas some e, e) refl

majority-same : (a b : Key) (replicas : List (List RegReply)) → a.index ≡ b.index → majority_stamp replicas a ≡ majority_stamp replicas b
majority-same a b replicas e = greatest-same a b replicas replicas e

le-itself : (a : Carstamp) → stamp_le a a ≡ true
le-itself a = grind (arith, common_steps)

found-behind : (marks : List Mark) (mark : Mark) → is_some (first_mark (marks ++ mark ∷ []) mark.stamp) ≡ true
found-behind [] mark = rw (le-itself mark.stamp) refl
found-behind (m ∷ marks) mark = go (stamp_le mark.stamp m.stamp) refl (found-behind marks mark)
  where
    go : (b : Bool) → stamp_le mark.stamp m.stamp ≡ b → is_some (first_mark (marks ++ mark ∷ []) mark.stamp) ≡ true → is_some (first_mark (m ∷ (marks ++ mark ∷ [])) mark.stamp) ≡ true
    go true p ih = rw p refl
    go false p ih = rw p ih

-- once a stamp is noted, it needs no note
noted-once : (marks : List Mark) (stamp : Carstamp) (step : ℕ) → is_noted (with_mark marks stamp step) stamp ≡ true
noted-once marks stamp step = go (is_noted marks stamp) refl
  where
    more : (b : Bool) → stamp_le stamp opening_stamp ≡ b → is_noted (marks ++ record { stamp = stamp; step = step } ∷ []) stamp ≡ true
    more true p = rw p refl
    more false p = rw p (found-behind marks record { stamp = stamp; step = step })

    go : (b : Bool) → is_noted marks stamp ≡ b → is_noted (with_mark marks stamp step) stamp ≡ true
    go true p = rw p p
    go false p = rw p (more (stamp_le stamp opening_stamp) refl)

or-right : (a b : Bool) → b ≡ true → (a || b) ≡ true
or-right true b e = refl
or-right false b e = e

same-or-other : (i j : ℕ) → (i ≡ j) ⊎ (i ≢ j)
same-or-other i j = grind arith

-- a register that is noted leaves ready what was ready
pub ready-noted : (replicas : List (List RegReply)) (rows : List MarksView) (key : Key) (step : ℕ) (old : List Mark) (new : MarksView) (stamp : Carstamp) → key.index < length rows
    → stamp ≡ majority_stamp replicas key → new.marks ≡ with_mark old stamp step → StayReady replicas rows (set rows key.index new)
ready-noted replicas rows key step old new stamp l m e = record { stays = λ k h. go k h (same-or-other k.index key.index) }
  where
    here : (k : Key) → k.index ≡ key.index → is_noted new.marks (majority_stamp replicas k) ≡ true
    here k p = rw (majority-same k key replicas p, ← m, e) (noted-once old stamp step)

    go : (k : Key) → is_ready_at replicas rows k ≡ true → ((k.index ≡ key.index) ⊎ (k.index ≢ key.index)) → is_ready_at replicas (set rows key.index new) k ≡ true
    go k h (inl p) =
        let g : get_or (set rows key.index new) k.index no_marks ≡ new = rw p (get_or-set_same rows key.index new no_marks l) in
        rw g (or-right new.room (is_noted new.marks (majority_stamp replicas k)) (here k p))
    go k h (inr p) = rw (get_or-set_other rows key.index k.index new no_marks p) h

-- a register that is not there leaves all as it was
pub ready-same : (replicas : List (List RegReply)) (rows : List MarksView) → StayReady replicas rows rows
ready-same replicas rows = record { stays = λ key h. h }

both-true : (a b : Bool) → (a && b) ≡ true → (a ≡ true) × (b ≡ true)
both-true true b e = (refl, e)
both-true false b e = absurd (let x : false ≡ true = e in cc)

-- the first of some keys, and the others
pub ready-first : (replicas : List (List RegReply)) (rows : List MarksView) (key : Key) (keys : List Key) → are_ready replicas rows (key ∷ keys) ≡ true → is_ready_at replicas rows key ≡ true
ready-first replicas rows key keys h = (both-true (is_ready_at replicas rows key) (are_ready replicas rows keys) h).0

pub ready-rest : (replicas : List (List RegReply)) (old new : List MarksView) (key : Key) (keys : List Key) → StayReady replicas old new → are_ready replicas old (key ∷ keys) ≡ true → are_ready replicas new keys ≡ true
ready-rest replicas old new key keys stay h = each keys (both-true (is_ready_at replicas old key) (are_ready replicas old keys) h).1
  where
    each : (ks : List Key) → are_ready replicas old ks ≡ true → are_ready replicas new ks ≡ true
    each [] h = refl
    each (k ∷ ks) h =
        let p = both-true (is_ready_at replicas old k) (are_ready replicas old ks) h in
        rw (stay.stays k p.0, each ks p.1) refl

-- what is left to note behind one more dependency
behind : (replicas : List (List RegReply)) (old new : List MarksView) (deps : List Dep) (i : ℕ) → StayReady replicas old new → are_ready replicas old (map (λ (d : Dep). d.key) (drop i deps)) ≡ true → are_ready replicas new (map (λ (d : Dep). d.key) (drop (suc i) deps)) ≡ true
behind replicas old new [] i stay h = refl
behind replicas old new (d ∷ deps) zero stay h = ready-rest replicas old new d.key (map (λ (e : Dep). e.key) deps) stay h
behind replicas old new (d ∷ deps) (suc i) stay h = behind replicas old new deps i stay h

pub ready-behind : (replicas : List (List RegReply)) (old new : List MarksView) (deps : List Dep) (i : ℕ) → StayReady replicas old new → are_ready replicas old (map (λ (d : Dep). d.key) (drop i deps)) ≡ true → are_ready replicas new (map (λ (d : Dep). d.key) (drop (i + 1) deps)) ≡ true
ready-behind replicas old new deps i stay h =
    subst (λ (n : ℕ). are_ready replicas new (map (λ (d : Dep). d.key) (drop n deps)) ≡ true) (sym (add-one i)) (behind replicas old new deps i stay h)

pub notes-behind : (replicas : List (List RegReply)) (step : ℕ) (deps : List Dep) (i : ℕ) (d : Dep) (old new whole : List (List Mark)) → i < length deps
    → new ≡ set old (get_or deps i d).key.index (noted replicas (get_or deps i d).key step (get_or old (get_or deps i d).key.index []))
    → notes_keys replicas step (map (λ (e : Dep). e.key) (drop i deps)) old ≡ whole → notes_keys replicas step (map (λ (e : Dep). e.key) (drop (i + 1) deps)) new ≡ whole
notes-behind replicas step deps i d old new whole l e w =
    ap (notes_keys replicas step (map (λ (e : Dep). e.key) (drop (i + 1) deps))) e
    ∙ sym (at_drop_more (λ (ds : List Dep). notes_keys replicas step (map (λ (e : Dep). e.key) ds) old) deps i d l) ∙ w
