-- names that are declared once
use Rattle.std.proofs.Common.{◌≡◌, ℕ, ◌+◌, ◌<◌, ◌≤◌, Bool, true, false, ◌||◌, cond, List, [], ◌∷◌, ◌++◌, length, get_or, drop, Option, Some, None, refl, ◌∙◌, sym, append_assoc, append-nil}
use Rattle.std.proofs.lemmas.List.{drop_more, drop_all}
use Rattle.std.proofs.lemmas.Bool.{false≢true}
use Rattle.std.proofs.lemmas.List.Folds.{list_any-append}
use Rattle.std.specs.Str.{bytes_eq}
use Rattle.pipeline_tables.specs.declared.fault.Place.{Place}
use Rattle.pipeline_lang.specs.Positions.{has_name}
use Rattle.pipeline_file.specs.declared.declaration.NameKind.{NameKind}
use Rattle.pipeline_file.specs.declared.declaration.NameKind.TheVariants as kind
use Rattle.pipeline_file.specs.declared.declaration.NameSet.{NameSet}
use Rattle.pipeline_file.specs.declared.declaration.NameSet.TheVariants.{Shared}
use Rattle.pipeline_file.specs.declared.declaration.Declaration.{Declaration}
use Rattle.pipeline_file.specs.Doubles.{belongs, first_double, same_kind, names_of}

-- what the first declaration from an index on adds
pub first_double_drop : (names : NameSet) (seen : List (List ℕ)) (xs : List Declaration) (i : ℕ) (d : Declaration) → i < length xs → first_double names seen (drop i xs) ≡ cond (belongs names (get_or xs i d).kind) (cond (has_name (get_or xs i d).name seen) (Some (get_or xs i d).place) (first_double names (seen ++ (get_or xs i d).name ∷ []) (drop (i + 1) xs))) (first_double names seen (drop (i + 1) xs))
unfolding first_double
first_double_drop names seen xs i d h = rw (drop_more xs i d h)

pub names_of_drop : (k : NameKind) (xs : List Declaration) (i : ℕ) (d : Declaration) → i < length xs → names_of k (drop i xs) ≡ cond (same_kind k (get_or xs i d).kind) ((get_or xs i d).name ∷ names_of k (drop (i + 1) xs)) (names_of k (drop (i + 1) xs))
unfolding names_of
names_of_drop k xs i d h = rw (drop_more xs i d h)

-- two kinds that are the same
pub same_kind_is : (a b : NameKind) → same_kind a b ≡ true → a ≡ b
same_kind_is kind.Register kind.Register h = refl
same_kind_is kind.Shard kind.Shard h = refl
same_kind_is kind.Key kind.Key h = refl
same_kind_is kind.Pipe kind.Pipe h = refl
same_kind_is kind.Stage kind.Stage h = refl
same_kind_is kind.Killed kind.Killed h = refl
same_kind_is kind.Service kind.Service h = refl
same_kind_is a b h = absurd (false≢true h)

-- a table whose names are among those that were seen, where no declaration that is left repeats one
pub record IsAmong (seen table : List (List ℕ)) (left : List Declaration) : Type 0 where
  pub alone : first_double Shared seen left ≡ None
  pub within : (x : List ℕ) → has_name x table ≡ true → has_name x seen ≡ true

-- what was seen is some list
abbrev pub Fresh : List (List ℕ) → List Declaration → Type 0
Fresh table left = (seen : List (List ℕ)) × IsAmong seen table left

-- a name of one more
pub has_name_more : (x y : List ℕ) (xs : List (List ℕ)) → has_name x (xs ++ y ∷ []) ≡ (has_name x xs || (bytes_eq x y || false))
has_name_more x y xs = list_any-append (bytes_eq x) xs (y ∷ [])

or_within : (a b c : Bool) → (a ≡ true → b ≡ true) → (a || c) ≡ true → (b || c) ≡ true
or_within true b c f h = rw (f refl) refl
or_within false true c f h = refl
or_within false false c f h = h

not_within : (a b : Bool) → (a ≡ true → b ≡ true) → b ≡ false → a ≡ false
not_within true b f h = absurd (false≢true (sym h ∙ f refl))
not_within false b f h = refl

-- a test that is passed beside a name more
pub more_within : (seen table : List (List ℕ)) (y : List ℕ) → ((x : List ℕ) → has_name x table ≡ true → has_name x seen ≡ true) → (x : List ℕ) → has_name x (table ++ y ∷ []) ≡ true → has_name x (seen ++ y ∷ []) ≡ true
more_within seen table y within x h = rw (has_name_more x y seen) (or_within (has_name x table) (has_name x seen) (bytes_eq x y || false) (within x) (rw (has_name_more x y table) at h))

pub seen_within : (seen table : List (List ℕ)) (y : List ℕ) → ((x : List ℕ) → has_name x table ≡ true → has_name x seen ≡ true) → (x : List ℕ) → has_name x table ≡ true → has_name x (seen ++ y ∷ []) ≡ true
seen_within seen table y within x h = rw (has_name_more x y seen, within x h) refl

-- the first declaration that is left
none_double : (b : Bool) (p : Place) (rest : Option Place) → cond b (Some p) rest ≡ None → (b ≡ false) × (rest ≡ None)
none_double true p rest h = absurd (cc)
none_double false p rest h = (refl, h)

lacks : (seen table : List (List ℕ)) (d : Declaration) (ds : List Declaration) → belongs Shared d.kind ≡ true → IsAmong seen table (d ∷ ds) → (has_name d.name seen ≡ false) × (first_double Shared (seen ++ d.name ∷ []) ds ≡ None)
unfolding first_double
lacks seen table d ds b a = none_double (has_name d.name seen) d.place _ (rw b at a.alone)

pub lacks_at : (k : NameKind) (table : List (List ℕ)) (xs : List Declaration) (i : ℕ) (d : Declaration) → i < length xs → belongs Shared k ≡ true → same_kind k (get_or xs i d).kind ≡ true → Fresh table (drop i xs) → has_name (get_or xs i d).name table ≡ false
lacks_at k table xs i d h b s f =
    let k_is = same_kind_is k (get_or xs i d).kind s in
    let l = lacks f.0 table (get_or xs i d) (drop (i + 1) xs) (rw k_is at b) (rw (drop_more xs i d h) at f.1) in
    not_within (has_name (get_or xs i d).name table) (has_name (get_or xs i d).name f.0) (f.1.within (get_or xs i d).name) l.0

pub keeps_same : (k : NameKind) (table : List (List ℕ)) (xs : List Declaration) (i : ℕ) (d : Declaration) → i < length xs → belongs Shared k ≡ true → same_kind k (get_or xs i d).kind ≡ true → Fresh table (drop i xs) → Fresh (table ++ (get_or xs i d).name ∷ []) (drop (i + 1) xs)
keeps_same k table xs i d h b s f =
    let k_is = same_kind_is k (get_or xs i d).kind s in
    let l = lacks f.0 table (get_or xs i d) (drop (i + 1) xs) (rw k_is at b) (rw (drop_more xs i d h) at f.1) in
    (f.0 ++ (get_or xs i d).name ∷ [], record { alone = l.1; within = more_within f.0 table (get_or xs i d).name f.1.within })

other : (b : Bool) (seen table : List (List ℕ)) (d : Declaration) (ds : List Declaration) → belongs Shared d.kind ≡ b → IsAmong seen table (d ∷ ds) → Fresh table ds
unfolding first_double
other true seen table d ds b a =
    let l = lacks seen table d ds b a in
    (seen ++ d.name ∷ [], record { alone = l.1; within = seen_within seen table d.name a.within })
other false seen table d ds b a = (seen, record { alone = rw b at a.alone; within = a.within })

pub keeps_other : (table : List (List ℕ)) (xs : List Declaration) (i : ℕ) (d : Declaration) → i < length xs → Fresh table (drop i xs) → Fresh table (drop (i + 1) xs)
keeps_other table xs i d h f = other (belongs Shared (get_or xs i d).kind) f.0 table (get_or xs i d) (drop (i + 1) xs) refl (rw (drop_more xs i d h) at f.1)

pub begins : (xs : List Declaration) → first_double Shared [] xs ≡ None → Fresh [] xs
begins xs h = ([], record { alone = h; within = λ x t. t })

keeps_by : (t : Bool) (k : NameKind) (table : List (List ℕ)) (xs : List Declaration) (i : ℕ) (d : Declaration) → i < length xs → belongs Shared k ≡ true → same_kind k (get_or xs i d).kind ≡ t → Fresh table (drop i xs) → Fresh (cond t (table ++ (get_or xs i d).name ∷ []) table) (drop (i + 1) xs)
keeps_by true k table xs i d h b s f = keeps_same k table xs i d h b s f
keeps_by false k table xs i d h b s f = keeps_other table xs i d h f

so_far : (t : Bool) (table : List (List ℕ)) (x : List ℕ) (rest : List (List ℕ)) → table ++ cond t (x ∷ rest) rest ≡ cond t (table ++ x ∷ []) table ++ rest
so_far true table x rest = sym (append_assoc table (x ∷ []) rest)
so_far false table x rest = refl

-- the table and what is left, behind one declaration more
pub keeps : (k : NameKind) (table : List (List ℕ)) (xs : List Declaration) (i : ℕ) (d : Declaration) → i < length xs → belongs Shared k ≡ true → Fresh table (drop i xs) → Fresh (cond (same_kind k (get_or xs i d).kind) (table ++ (get_or xs i d).name ∷ []) table) (drop (i + 1) xs)
keeps k table xs i d h b f = keeps_by (same_kind k (get_or xs i d).kind) k table xs i d h b refl f

pub names_so_far : (k : NameKind) (table : List (List ℕ)) (xs : List Declaration) (i : ℕ) (d : Declaration) → i < length xs → table ++ names_of k (drop i xs) ≡ cond (same_kind k (get_or xs i d).kind) (table ++ (get_or xs i d).name ∷ []) table ++ names_of k (drop (i + 1) xs)
names_so_far k table xs i d h = rw (names_of_drop k xs i d h) (so_far (same_kind k (get_or xs i d).kind) table (get_or xs i d).name (names_of k (drop (i + 1) xs)))

pub names_of_end : (k : NameKind) (table : List (List ℕ)) (xs : List Declaration) (i : ℕ) → length xs ≤ i → table ++ names_of k (drop i xs) ≡ table
unfolding names_of
names_of_end k table xs i h = rw (drop_all i xs h) (append-nil table)
