-- scripts and sums, stage by stage
use Rattle.std.proofs.Common.{◌≡◌, ℕ, ◌+◌, ◌<◌, ◌≤◌, cond, List, [], ◌∷◌, ◌++◌, length, get_or, drop, Result, Ok, Err, IfErr, IsErrAnd, ap, ◌∙◌}
use Rattle.std.proofs.lemmas.List.{drop_more, drop_all}
use Rattle.std.proofs.lemmas.Result.{err_from_is_err_and}
use Rattle.pipeline_lang.specs.declared.config.Body.{Body}
use Rattle.script_binding.specs.declared.tally.Tally.{Tally}
use Rattle.script_binding.specs.Counts.{tallied, is_within}
use Rattle.script_binding.specs.Environment.{spawned_in}
use Rattle.pipeline_tables.specs.declared.fault.FaultKind.TheVariants as kind
use Rattle.pipeline_tables.specs.declared.fault.FileFault.{FileFault}
use Rattle.pipeline_tables.specs.declared.fault.FileError.{FileError}
use Rattle.pipeline_tables.specs.declared.fault.FileError.TheVariants.{Fault, OutOfMemory}
use Rattle.pipeline_tables.specs.declared.tables.StageTable.{StageTable}
use Rattle.pipeline_tables.specs.Faults.{◌>>=◌, fault, IsFault, Tells}
use Rattle.pipeline_tables.specs.Lists.{onto}
use Rattle.pipeline_tables.proofs.Laws.{onto_more}
use Rattle.pipeline_file.specs.declared.declared_names.Declared.{Declared}
use Rattle.pipeline_file.specs.declared.resolve.Resolved.{Resolved}
use Rattle.pipeline_file.specs.Scripts.{script_place, script_said, bodies_from, sums_from}

pub bodies_from_drop : (d : Declared) (r : Resolved) (n : ℕ) (spawned : List ℕ) (xs : List StageTable) (i : ℕ) (t : StageTable) → i < length xs → bodies_from d r n spawned (drop i xs) ≡ (script_said d r n spawned (get_or xs i t).script >>= λ script. onto (record { script = script; earliest_end = (get_or xs i t).earliest_end } ∷ []) (bodies_from d r (n + 1) (spawned ++ spawned_in script) (drop (i + 1) xs)))
unfolding bodies_from
bodies_from_drop d r n spawned xs i t h = rw (drop_more xs i t h)

pub bodies_from_end : (d : Declared) (r : Resolved) (n : ℕ) (spawned : List ℕ) (xs : List StageTable) (i : ℕ) → length xs ≤ i → bodies_from d r n spawned (drop i xs) ≡ Ok []
unfolding bodies_from
bodies_from_end d r n spawned xs i h = rw (drop_all i xs h)

pub sums_from_drop : (sums : Tally) (n : ℕ) (xs : List Body) (i : ℕ) (b : Body) → i < length xs → sums_from sums n (drop i xs) ≡ cond (is_within (tallied sums (get_or xs i b).script)) (sums_from (tallied sums (get_or xs i b).script) (n + 1) (drop (i + 1) xs)) (Err (fault kind.OverLimit (script_place n 0 0)))
unfolding sums_from
sums_from_drop sums n xs i b h = rw (drop_more xs i b h)

-- one turn of a loop that makes a value of what it read, where what the rest says hangs on it
pub turn_made : {A B : Type 0} (total rest : Result (List A) FileFault) (xs : List A) (x : B) (step : Result B FileFault) (made : B → A) (tail : B → Result (List A) FileFault) → total ≡ onto xs rest → rest ≡ (step >>= λ y. onto (made y ∷ []) (tail y)) → step ≡ Ok x → total ≡ onto (xs ++ made x ∷ []) (tail x)
turn_made total rest xs x step made tail h r s = h ∙ ap (onto xs) (r ∙ ap (λ q. q >>= λ y. onto (made y ∷ []) (tail y)) s) ∙ onto_more xs (made x) (tail x)

-- an error of one step, which a chain of steps hands on
pub refused_on : {A B C : Type 0} (e : FileError) (result : Result C FileError) (said : Result A FileFault) (total : Result B FileFault) → Tells {A = A} (Err e) said → ((first : FileFault) → said ≡ Err first → total ≡ Err first) → IsErrAnd result (λ y. y ≡ e) → IfErr result (λ y. IsFault y total)
refused_on (Fault first) result said total h on r = let p = err_from_is_err_and result r in rw (p.1, p.2) (on first h)
refused_on OutOfMemory result said total h on r = let p = err_from_is_err_and result r in rw (p.1, p.2) tt
