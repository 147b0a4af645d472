-- What the rows of a document say is within its range.
use Rattle.std.proofs.Common.{◌≡◌, ℕ, suc, ◌+◌, ◌*◌, ◌-◌, ◌≤◌, ◌⊎◌, inl, inr, List, [], ◌∷◌, ◌++◌, length, Option, Some, None, Result, Ok, Err, refl, sym, ap, subst, arith}
use Rattle.std.specs.Prelude.{Bool, true, cond, ◌&&◌, ◌||◌, ◌==◌, nat_le, ℤ, pos, negsuc}
use Rattle.std.proofs.lemmas.Bool.{and_parts}
use Rattle.std.proofs.lemmas.Bool.Decides.{nat_tests}
use Rattle.std.proofs.lemmas.List.{length-append}
use Rattle.toml.specs.Data.{Data, Items, no_items, item, Members, as_array, as_integer, as_table}
use Rattle.pipeline_tables.specs.declared.fault.FaultKind.TheVariants.{OverLimit, WrongKind}
use Rattle.pipeline_tables.specs.declared.fault.FileFault.{FileFault}
use Rattle.pipeline_tables.specs.declared.fault.FileKey.TheVariants as key
use Rattle.pipeline_tables.specs.declared.fault.Place.{Place}
use Rattle.pipeline_tables.specs.declared.fault.Table.TheVariants as table
use Rattle.pipeline_tables.specs.declared.tables.FileTables.{FileTables}
use Rattle.pipeline_tables.specs.declared.tables.PipeTable.{PipeTable}
use Rattle.pipeline_tables.specs.declared.tables.RootTable.{RootTable}
use Rattle.pipeline_tables.specs.declared.tables.ServiceKind.{ServiceKind}
use Rattle.pipeline_tables.specs.declared.tables.ServiceKind.TheVariants.{Txn, Reg}
use Rattle.pipeline_tables.specs.declared.tables.ServiceTable.{ServiceTable}
use Rattle.pipeline_tables.specs.declared.tables.ShardTable.{ShardTable}
use Rattle.pipeline_tables.specs.declared.tables.StageTable.{StageTable}
use Rattle.pipeline_tables.specs.Faults.{◌>>=◌, key_place, fault}
use Rattle.pipeline_tables.specs.Keys.{only_keys, value_at}
use Rattle.pipeline_tables.specs.Lists.{some_items, some_members, names_of, so_many, name_list, names_at, names_or_none, row_in}
use Rattle.pipeline_tables.specs.Rows.{root_of, shard_of, pipe_of, stage_of, kind_at, most_registers, service_of}
use Rattle.pipeline_tables.specs.Services.{services_from}
use Rattle.pipeline_tables.specs.Values.{required, or_default, in_range, number_of, number_or, optional_number, three_five_seven, replicas_of, replicas_or, text_at, name_at, optional_name}
use Rattle.pipeline_file.specs.Services.{for_each, homes_from}
use Rattle.file_laws.specs.FileOrder.{flat}
use Rattle.file_laws.proofs.Each.{Each}
use Rattle.file_laws.proofs.Went.{ok_same, went, went_onto, after}
use Rattle.sound_laws.proofs.Said.{let_through}

-- NUMBERS

at_most : (n m : ℕ) → nat_le n m ≡ true → n ≤ m
at_most n m e = grind (arith, nat_tests, e)

in_range_fits : (least most : ℕ) (at : Place) (i : Option ℤ) (n : ℕ) → in_range least most at i ≡ Ok n → (least ≤ n) × (n ≤ most)
in_range_fits least most at (Some (pos k)) n h =
    let t = let_through (nat_le least k && nat_le k most) k n (fault OverLimit at) h in
    let p = and_parts (nat_le least k) (nat_le k most) t.0 in
    subst (λ (m : ℕ). (least ≤ m) × (m ≤ most)) t.1 (at_most least k p.0, at_most k most p.1)
in_range_fits least most at (Some (negsuc k)) n h = absurd cc
in_range_fits least most at None n h = absurd cc

number_value : (default least most : ℕ) (at : Place) (v : Option Data) (n : ℕ) → least ≤ default → default ≤ most → or_default default (number_of least most at) v ≡ Ok n → (least ≤ n) × (n ≤ most)
unfolding number_of
number_value default least most at (Some value) n l m h = in_range_fits least most at (as_integer value) n h
number_value default least most at None n l m h = subst (λ (k : ℕ). (least ≤ k) × (k ≤ most)) (ok_same default n h) (l, m)

number_fits : (default least most : ℕ) (at : Place) (keyed : Members) (n : ℕ) → least ≤ default → default ≤ most → number_or default least most at keyed ≡ Ok n → (least ≤ n) × (n ≤ most)
unfolding number_or
number_fits default least most at keyed n l m h = number_value default least most at (value_at at.key keyed) n l m h

small_three : (n : ℕ) → (n == 3 || n == 5 || n == 7) ≡ true → n ≤ 7
small_three n h = grind (arith, h)

three_fits : (at : Place) (i : Option ℤ) (n : ℕ) → three_five_seven at i ≡ Ok n → n ≤ 7
three_fits at (Some (pos k)) n h =
    let t = let_through (k == 3 || k == 5 || k == 7) k n (fault WrongKind at) h in
    subst (λ (m : ℕ). m ≤ 7) t.1 (small_three k t.0)
three_fits at (Some (negsuc k)) n h = absurd cc
three_fits at None n h = absurd cc

replicas_value : (default : ℕ) (at : Place) (v : Option Data) (n : ℕ) → default ≤ 7 → or_default default (replicas_of at) v ≡ Ok n → n ≤ 7
unfolding replicas_of
replicas_value default at (Some value) n l h = three_fits at (as_integer value) n h
replicas_value default at None n l h = subst (λ (k : ℕ). k ≤ 7) (ok_same default n h) l

replicas_fit : (default : ℕ) (at : Place) (keyed : Members) (n : ℕ) → default ≤ 7 → replicas_or default at keyed ≡ Ok n → n ≤ 7
unfolding replicas_or
replicas_fit default at keyed n l h = replicas_value default at (value_at at.key keyed) n l h

-- NAMES

names_listed : (least most : ℕ) (at : Place) (value : Data) (names : List (List ℕ)) → name_list least most at value ≡ Ok names → length names ≤ most
unfolding name_list
names_listed least most at value names h =
    let read = went (some_items at (as_array value) >>= names_of at) (so_many least most at) names h in
    let t = let_through (nat_le least (length read.0) && nat_le (length read.0) most) read.0 names (fault OverLimit at) read.1.1 in
    subst (λ (xs : List (List ℕ)). length xs ≤ most) t.1 (at_most (length read.0) most (and_parts (nat_le least (length read.0)) (nat_le (length read.0) most) t.0).1)

names_value : (most : ℕ) (at : Place) (v : Option Data) (names : List (List ℕ)) → or_default [] (name_list 0 most at) v ≡ Ok names → length names ≤ most
names_value most at (Some value) names h = names_listed 0 most at value names h
names_value most at None names h = subst (λ (xs : List (List ℕ)). length xs ≤ most) (ok_same [] names h) (omega arith)

names_fit : (most : ℕ) (at : Place) (keyed : Members) (names : List (List ℕ)) → names_or_none most at keyed ≡ Ok names → length names ≤ most
unfolding names_or_none
names_fit most at keyed names h = names_value most at (value_at at.key keyed) names h

names_required : (least most : ℕ) (at : Place) (v : Option Data) (names : List (List ℕ)) → (required at v >>= name_list least most at) ≡ Ok names → length names ≤ most
names_required least most at (Some value) names h = names_listed least most at value names h
names_required least most at None names h = absurd cc

names_are_few : (least most : ℕ) (at : Place) (keyed : Members) (names : List (List ℕ)) → names_at least most at keyed ≡ Ok names → length names ≤ most
unfolding names_at
names_are_few least most at keyed names h = names_required least most at (value_at at.key keyed) names h

-- ROWS

pub record RootFits (root : RootTable) : Type 0 where
  pub tries : 1 ≤ root.tries
  pub steps : root.max_steps ≤ 200000
  pub margin : root.earliest_end ≤ 1000000
  pub replicas : root.replicas ≤ 7
  pub registers : length root.registers ≤ 64

pub root_fits : (keyed : Members) (root : RootTable) → root_of keyed ≡ Ok root → RootFits root
unfolding root_of
root_fits keyed root = after RootFits root (only_keys _ table.Root 0 keyed) _ (λ known _.
    after RootFits root (number_or 3 1 8 (key_place table.Root 0 key.Tries) keyed) _ (λ tries t.
    after RootFits root (number_or 100000 1 200000 (key_place table.Root 0 key.MaxSteps) keyed) _ (λ max_steps s.
    after RootFits root (number_or 2000 0 1000000 (key_place table.Root 0 key.EarliestEnd) keyed) _ (λ earliest_end e.
    after RootFits root (replicas_or 3 (key_place table.Root 0 key.Replicas) keyed) _ (λ replicas r.
    after RootFits root (names_or_none 64 (key_place table.Root 0 key.Registers) keyed) _ (λ registers g.
    after RootFits root (optional_number 1 16 (key_place table.Root 0 key.Drivers) keyed) _ (λ drivers _ made.
    subst RootFits (ok_same _ root made) (record {
      tries = (number_fits 3 1 8 (key_place table.Root 0 key.Tries) keyed tries (omega arith) (omega arith) t).0;
      steps = (number_fits 100000 1 200000 (key_place table.Root 0 key.MaxSteps) keyed max_steps (omega arith) (omega arith) s).1;
      margin = (number_fits 2000 0 1000000 (key_place table.Root 0 key.EarliestEnd) keyed earliest_end (omega arith) (omega arith) e).1;
      replicas = replicas_fit 3 (key_place table.Root 0 key.Replicas) keyed replicas (omega arith) r;
      registers = names_fit 64 (key_place table.Root 0 key.Registers) keyed registers g;
    }))))))))

abbrev pub HasFewKeys : ShardTable → Type 0
HasFewKeys s = length s.keys ≤ 64

pub shard_fits : (root : RootTable) (n : ℕ) (keyed : Members) (s : ShardTable) → shard_of root n keyed ≡ Ok s → HasFewKeys s
unfolding shard_of
shard_fits root n keyed s = after HasFewKeys s (only_keys _ table.Shard n keyed) _ (λ known _.
    after HasFewKeys s (name_at (key_place table.Shard n key.Name) keyed) _ (λ name _.
    after HasFewKeys s (names_at 1 64 (key_place table.Shard n key.Keys) keyed) _ (λ keys k.
    after HasFewKeys s (optional_name (key_place table.Shard n key.Service) keyed) _ (λ service _ made.
    subst HasFewKeys (ok_same _ s made) (names_are_few 1 64 (key_place table.Shard n key.Keys) keyed keys k)))))

-- as many homes as the shards have keys
homes_of_one : (n : ℕ) (names : List (List ℕ)) → length (for_each n names) ≡ length names
unfolding for_each
homes_of_one n [] = refl
homes_of_one n (name ∷ names) = ap suc (homes_of_one n names)

pub homes_are_few : (n : ℕ) (shards : List ShardTable) → Each HasFewKeys shards → length (homes_from n shards) ≤ 64 * length shards
unfolding homes_from
homes_are_few n [] each = omega arith
homes_are_few n (s ∷ shards) each =
    let first = homes_of_one n s.keys in
    let rest = homes_are_few (n + 1) shards each.1 in
    let both = length-append (for_each n s.keys) (homes_from (n + 1) shards) in
    omega (arith, first, rest, both, each.0)

abbrev pub HasRoom : PipeTable → Type 0
HasRoom p = p.capacity ≤ 64

pub pipe_fits : (root : RootTable) (n : ℕ) (keyed : Members) (p : PipeTable) → pipe_of root n keyed ≡ Ok p → HasRoom p
unfolding pipe_of
pipe_fits root n keyed p = after HasRoom p (only_keys _ table.Pipe n keyed) _ (λ known _.
    after HasRoom p (name_at (key_place table.Pipe n key.Name) keyed) _ (λ name _.
    after HasRoom p (name_at (key_place table.Pipe n key.From) keyed) _ (λ from _.
    after HasRoom p (name_at (key_place table.Pipe n key.To) keyed) _ (λ to _.
    after HasRoom p (number_or 1 1 64 (key_place table.Pipe n key.Capacity) keyed) _ (λ capacity c made.
    subst HasRoom (ok_same _ p made) (number_fits 1 1 64 (key_place table.Pipe n key.Capacity) keyed capacity (omega arith) (omega arith) c).1)))))

abbrev pub HasMargin : StageTable → Type 0
HasMargin s = s.earliest_end ≤ 1000000

pub stage_fits : (root : RootTable) → root.earliest_end ≤ 1000000 → (n : ℕ) (keyed : Members) (s : StageTable) → stage_of root n keyed ≡ Ok s → HasMargin s
unfolding stage_of
stage_fits root l n keyed s = after HasMargin s (only_keys _ table.Stage n keyed) _ (λ known _.
    after HasMargin s (name_at (key_place table.Stage n key.Name) keyed) _ (λ name _.
    after HasMargin s (text_at (key_place table.Stage n key.Script) keyed) _ (λ script _.
    after HasMargin s (number_or root.earliest_end 0 1000000 (key_place table.Stage n key.EarliestEnd) keyed) _ (λ earliest_end e made.
    subst HasMargin (ok_same _ s made) (number_fits root.earliest_end 0 1000000 (key_place table.Stage n key.EarliestEnd) keyed earliest_end (omega arith) l e).1))))

pub record ServiceFits (room : ℕ) (s : ServiceTable) : Type 0 where
  pub replicas : s.replicas ≤ 7
  pub registers : length s.registers ≤ room

room_within : (kind : ServiceKind) (room n : ℕ) → n ≤ most_registers kind room → n ≤ room
room_within Txn room n l = omega (arith, l)
room_within Reg room n l = l

service_fits : (root : RootTable) → root.replicas ≤ 7 → (room n : ℕ) (keyed : Members) (s : ServiceTable) → service_of root room n keyed ≡ Ok s → ServiceFits room s
unfolding service_of
service_fits root l room n keyed s = after (ServiceFits room) s (only_keys _ table.Service n keyed) _ (λ known _.
    after (ServiceFits room) s (name_at (key_place table.Service n key.Name) keyed) _ (λ name _.
    after (ServiceFits room) s (kind_at (key_place table.Service n key.Kind) keyed) _ (λ kind _.
    after (ServiceFits room) s (names_or_none (most_registers kind room) (key_place table.Service n key.Registers) keyed) _ (λ registers g.
    after (ServiceFits room) s (replicas_or root.replicas (key_place table.Service n key.Replicas) keyed) _ (λ replicas r made.
    subst (ServiceFits room) (ok_same _ s made) (record {
      replicas = replicas_fit root.replicas (key_place table.Service n key.Replicas) keyed replicas l r;
      registers = room_within kind room (length registers) (names_fit (most_registers kind room) (key_place table.Service n key.Registers) keyed registers g);
    }))))))

-- further services, with no more registers than there is room for
abbrev pub HasFewReplicas : ServiceTable → Type 0
HasFewReplicas s = s.replicas ≤ 7

pub record ServicesFit (room : ℕ) (ss : List ServiceTable) : Type 0 where
  pub replicas : Each HasFewReplicas ss
  pub registers : length (flat (λ (s : ServiceTable). s.registers) ss) ≤ room

pub services_fit : (root : RootTable) → root.replicas ≤ 7 → (at : Place) (room n : ℕ) (items : Items) (ss : List ServiceTable) → services_from root at room n items ≡ Ok ss → ServicesFit room ss
unfolding services_from
services_fit root l at room n no_items ss h = subst (ServicesFit room) (ok_same [] ss h) (record { replicas = tt; registers = omega arith })
services_fit root l at room n (item value items) ss h =
    let row = went (row_in (service_of root room) at n value) _ ss h in
    let rest = went_onto row.0 (services_from root at (room - length row.0.registers) (n + 1) items) ss row.1.1 in
    let members = went (some_members at (as_table value)) (service_of root room n) row.0 row.1.0 in
    let fits = service_fits root l room n members.0 row.0 members.1.1 in
    let below = services_fit root l at (room - length row.0.registers) (n + 1) items rest.0 rest.1.0 in
    subst (ServicesFit room) rest.1.1 (record {
      replicas = (fits.replicas, below.replicas);
      registers = both row.0.registers (flat (λ (s : ServiceTable). s.registers) rest.0) room fits.registers below.registers;
    })
  where
    both : (xs ys : List (List ℕ)) (room : ℕ) → length xs ≤ room → length ys ≤ room - length xs → length (xs ++ ys) ≤ room
    both xs ys room a b = let e = length-append xs ys in omega (arith, a, b, e)
