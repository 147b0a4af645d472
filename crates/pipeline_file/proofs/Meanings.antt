-- meanings, table by table
use Rattle.std.proofs.Common.{◌≡◌, ℕ, ◌+◌, ◌<◌, ◌≤◌, ◌==◌, cond, List, [], ◌∷◌, length, get_or, drop, Some, Result, Ok, Err}
use Rattle.std.proofs.lemmas.List.{drop_more, drop_all}
use Rattle.std.specs.Str.{bytes_eq}
use Rattle.pipeline_lang.specs.declared.config.ServiceDef.{ServiceDef}
use Rattle.pipeline_lang.specs.declared.config.PipeEnds.{PipeEnds}
use Rattle.pipeline_tables.specs.declared.fault.FileFault.{FileFault}
use Rattle.pipeline_tables.specs.declared.fault.FaultKind.TheVariants.{PipeShape}
use Rattle.pipeline_tables.specs.declared.fault.Table.TheVariants as table
use Rattle.pipeline_tables.specs.declared.fault.FileKey.TheVariants as key
use Rattle.pipeline_tables.specs.Faults.{◌>>=◌, key_place, fault}
use Rattle.pipeline_tables.specs.Lists.{onto}
use Rattle.pipeline_file.specs.Resolve.{service_named, each_from, no_loops}

pub each_from_drop : {A B : Type 0} (means : ℕ → A → Result B FileFault) (n : ℕ) (xs : List A) (i : ℕ) (d : A) → i < length xs → each_from means n (drop i xs) ≡ (means n (get_or xs i d) >>= λ meaning. onto (meaning ∷ []) (each_from means (n + 1) (drop (i + 1) xs)))
unfolding each_from
each_from_drop means n xs i d h = rw (drop_more xs i d h)

pub each_from_end : {A B : Type 0} (means : ℕ → A → Result B FileFault) (n : ℕ) (xs : List A) (i : ℕ) → length xs ≤ i → each_from means n (drop i xs) ≡ Ok []
unfolding each_from
each_from_end means n xs i h = rw (drop_all i xs h)

pub service_named_drop : (name : List ℕ) (xs : List ServiceDef) (i : ℕ) (d : ServiceDef) → i < length xs → service_named (drop i xs) name ≡ cond (bytes_eq name (get_or xs i d).name) (Some (get_or xs i d)) (service_named (drop (i + 1) xs) name)
unfolding service_named
service_named_drop name xs i d h = rw (drop_more xs i d h)

pub no_loops_drop : (n : ℕ) (xs : List PipeEnds) (i : ℕ) (d : PipeEnds) → i < length xs → no_loops n (drop i xs) ≡ cond ((get_or xs i d).giver == (get_or xs i d).taker) (Err (fault PipeShape (key_place table.Pipe n key.To))) (no_loops (n + 1) (drop (i + 1) xs))
unfolding no_loops
no_loops_drop n xs i d h = rw (drop_more xs i d h)
