-- Every file that is read is sound.
use Rattle.std.proofs.Common.{◌≡◌, ℕ, ◌+◌, ◌-◌, ◌<◌, ◌≤◌, List, [], ◌∷◌, ◌++◌, length, map, get_or, Ok, refl, ap, sym, ◌∙◌, subst, arith}
use Rattle.std.proofs.lemmas.List.{length-append, length-map}
use Rattle.toml.specs.Data.{Members}
use Rattle.rss_names.specs.declared.service.Key.{Key}
use Rattle.rss_model.specs.Scripts.{giver_of}
use Rattle.pipeline_lang.specs.Config.{no_body, no_ends, statement_at}
use Rattle.pipeline_lang.specs.declared.config.Body.{Body}
use Rattle.pipeline_lang.specs.declared.config.Config.{Config}
use Rattle.pipeline_lang.specs.declared.config.PipeEnds.{PipeEnds}
use Rattle.script_binding.specs.Named.{IsKey}
use Rattle.script_binding.proofs.AllLimited.{bound_scripts_have_limits}
use Rattle.pipeline_tables.specs.Services.{tables_said}
use Rattle.pipeline_tables.specs.declared.tables.FileTables.{FileTables}
use Rattle.pipeline_tables.specs.declared.tables.ServiceTable.{ServiceTable}
use Rattle.pipeline_tables.specs.declared.tables.StageTable.{StageTable}
use Rattle.pipeline_file.specs.Document.{assembled}
use Rattle.pipeline_file.specs.NameTables.{all_declared}
use Rattle.pipeline_file.specs.Resolve.{pipe_ends, resolved_of}
use Rattle.pipeline_file.specs.Scripts.{naming_of, bodies_from}
use Rattle.pipeline_file.specs.Services.{homes_from}
use Rattle.pipeline_file.specs.declared.declared_names.Declared.{Declared}
use Rattle.pipeline_file.specs.declared.resolve.Resolved.{Resolved}
use Rattle.file_laws.specs.FileOrder.{flat}
use Rattle.file_laws.proofs.Each.{Each, each_at, each_or}
use Rattle.file_laws.proofs.Limits.{tables_few}
use Rattle.file_laws.proofs.NamedKeys.{files_name_keys}
use Rattle.file_laws.proofs.Order.{tables_are_in_file_order}
use Rattle.file_laws.proofs.Parts.{HoldsOfMeant, read_holds}
use Rattle.file_laws.proofs.ReadFiles.{files_are_in_order}
use Rattle.file_laws.proofs.Shards.{shards_served, IsHome, homes_among, meanings_many}
use Rattle.world_laws.specs.Apart.{SpawnsApart, PipesApart}
use Rattle.world_laws.specs.Shapes.{KeepsServices, IsWithin}
use Rattle.sound_laws.specs.Sound.{FilesAreSound}
use Rattle.sound_laws.proofs.Bodies.{scripts_hold, margins_hold, bodies_many, StageShaped, stage_shaped}
use Rattle.sound_laws.proofs.Defined.{services_defined, gives_places}
use Rattle.sound_laws.proofs.Depths.{IsSmall, is_small, none_small}
use Rattle.sound_laws.proofs.Named.{HasNumbers, statements_number}
use Rattle.sound_laws.proofs.Piped.{pipes_apart}
use Rattle.sound_laws.proofs.Ranges.{HasFewKeys, HasRoom, HasMargin, RootFits, root_fits, shard_fits, homes_are_few, pipe_fits, stage_fits, ServicesFit, services_fit}
use Rattle.sound_laws.proofs.Resolved.{AreResolved, are_resolved, IsDefined, shards_txn, EndsFit, pipes_fit}
use Rattle.sound_laws.proofs.Said.{AreSaid, are_said, each_row}
use Rattle.sound_laws.proofs.Serviced.{key_served, statements_keep}
use Rattle.sound_laws.proofs.Spawned.{spawns_apart}
use Rattle.sound_laws.proofs.TxnKeys.{IsTxnKey}

-- what is shown here of a configuration
record IsMeant (c : Config) : Type 0 where
  pub services : KeepsServices c
  pub spawns : SpawnsApart c
  pub pipes : PipesApart c
  pub within : IsWithin c

-- a pipe is between stages of the file
pub giver_above : (stages : ℕ) (ends : List PipeEnds) (p : ℕ) → Each (EndsFit stages) ends → 0 < p → p ≤ length ends → 0 < (get_or ends (p - 1) no_ends).giver
giver_above stages ends p each z l = (each_at (EndsFit stages) ends (p - 1) no_ends (inside p (length ends) z l) each).giver
  where
    inside : (p length : ℕ) → 0 < p → p ≤ length → p - 1 < length
    inside p length z l = omega (arith, z, l)

taker_within : (stages : ℕ) (ends : List PipeEnds) (i : ℕ) → Each (EndsFit stages) ends → (get_or ends i no_ends).taker ≤ stages
taker_within stages ends i each = each_or (λ (e : PipeEnds). e.taker ≤ stages) ends i no_ends (omega arith) (takers ends each)
  where
    takers : (ends : List PipeEnds) → Each (EndsFit stages) ends → Each (λ (e : PipeEnds). e.taker ≤ stages) ends
    takers [] each = tt
    takers (x ∷ ends) each = (each.0.taker, takers ends each.1)

capacity_within : (stages : ℕ) (ends : List PipeEnds) (i : ℕ) → Each (EndsFit stages) ends → (get_or ends i no_ends).capacity ≤ 64
capacity_within stages ends i each = each_or (λ (e : PipeEnds). e.capacity ≤ 64) ends i no_ends (omega arith) (capacities ends each)
  where
    capacities : (ends : List PipeEnds) → Each (EndsFit stages) ends → Each (λ (e : PipeEnds). e.capacity ≤ 64) ends
    capacities [] each = tt
    capacities (x ∷ ends) each = (each.0.capacity, capacities ends each.1)

few_registers : (root further : List (List ℕ)) → length root ≤ 64 → length further ≤ 64 - length root → length (root ++ further) ≤ 64
few_registers root further a b = let e = length-append root further in omega (arith, a, b, e)

-- what the tables of a document mean
module _ (keyed : Members) (t : FileTables) (said : tables_said keyed ≡ Ok t) (r : Resolved) (bodies : List Body) (named : resolved_of (all_declared t).known t ≡ Ok r) (read : bodies_from (all_declared t) r 1 [] t.stages ≡ Ok bodies) where
  abbrev d : Declared
  d = all_declared t

  abbrev c : Config
  c = assembled t d r bodies

  tables : AreSaid keyed t
  tables = are_said keyed t said

  root : RootFits t.root
  root = root_fits keyed t.root tables.root

  further : ServicesFit (64 - length t.root.registers) t.services
  further = services_fit t.root root.replicas _ (64 - length t.root.registers) 1 tables.services.items t.services tables.services.said

  resolved : AreResolved d.known t r
  resolved = are_resolved d.known t r named

  defined : Each IsDefined d.known.services
  unfolding all_declared
  defined = services_defined t root.replicas (tables_few keyed t said).few further.replicas

  rooms : Each HasRoom t.pipes
  rooms = each_row HasRoom _ _ 1 tables.pipes.items t.pipes (pipe_fits t.root) tables.pipes.said

  ends : Each (EndsFit (length d.known.stages)) r.pipe_ends
  ends = pipes_fit d.known t r rooms resolved

  -- as many bodies as names of stages
  stages : length d.known.stages ≡ length bodies
  stages = ap length (tables_are_in_file_order t).stages ∙ (length-map t.stages (λ (s : StageTable). s.name) ∙ sym (bodies_many d r 1 [] t.stages bodies read))

  served : length r.shard_services ≡ length t.shards
  served = shards_served d.known t r named

  few_homes : length d.homes ≤ 1024
  unfolding all_declared
  few_homes =
      let most = homes_are_few 1 t.shards (each_row HasFewKeys _ _ 1 tables.shards.items t.shards (shard_fits t.root) tables.shards.said) in
      let shards = tables.shards.few in
      omega (arith, most, shards)

  few_pipes : length r.pipe_ends ≤ 16
  few_pipes = subst (λ (n : ℕ). n ≤ 16) (sym (meanings_many (pipe_ends d.known) 1 t.pipes r.pipe_ends resolved.ends)) tables.pipes.few

  homes : Each (IsHome (length r.shard_services)) d.homes
  unfolding all_declared
  homes = subst (λ (m : ℕ). Each (IsHome m) (homes_from 1 t.shards)) (sym served) (homes_among t)

  keys : (m : ℕ) (earlier : List ℕ) (key : Key) → IsKey (naming_of d r m earlier) key → IsTxnKey key
  keys m earlier = key_served (naming_of d r m earlier) (tables_are_in_file_order t).homes (shards_txn d.known t r defined resolved) homes

  small : Each (λ (body : Body). IsSmall body.script) bodies
  small = scripts_hold IsSmall d r 1 [] t.stages bodies (λ m earlier text script h. is_small script (bound_scripts_have_limits (naming_of d r m earlier) h.raw script h.came)) read

  margins : Each (λ (body : Body). body.earliest_end ≤ 1000000) bodies
  margins = margins_hold 1000000 d r 1 [] t.stages bodies (each_row HasMargin _ _ 1 tables.stages.items t.stages (stage_fits t.root root.margin) tables.stages.said) read

  meant : IsMeant (assembled t (all_declared t) r bodies)
  unfolding assembled
  meant =
      let script = λ (n : ℕ). each_or (λ (body : Body). IsSmall body.script) bodies (n - 1) no_body none_small small in
      let numbers = subst (λ (many : ℕ). (n place : ℕ) → HasNumbers many (statement_at c n place)) stages (statements_number c d r t.stages read) in
      let shaped = stage_shaped c d r t.stages read refl in
      record {
        services = statements_keep c d r t.stages keys read;
        spawns = spawns_apart c shaped numbers;
        pipes = pipes_apart c shaped (length bodies) numbers few_pipes (λ p z l. giver_above (length d.known.stages) r.pipe_ends p ends z l);
        within = record {
          places = gives_places c root.tries defined;
          steps = root.steps;
          stages = subst (λ (n : ℕ). n ≤ 16) (sym (bodies_many d r 1 [] t.stages bodies read)) tables.stages.few;
          shards = subst (λ (n : ℕ). n ≤ 16) (sym served) tables.shards.few;
          keys = few_homes;
          registers = subst (λ (xs : List (List ℕ)). length xs ≤ 64) (sym (tables_are_in_file_order t).registers) (few_registers t.root.registers (flat (λ (s : ServiceTable). s.registers) t.services) root.registers further.registers);
          listed = (tables_are_in_file_order t).owners;
          pipes = few_pipes;
          takers = λ p. subst (λ (n : ℕ). (get_or r.pipe_ends (p - 1) no_ends).taker ≤ n) stages (taker_within (length d.known.stages) r.pipe_ends (p - 1) ends);
          capacities = λ p. capacity_within (length d.known.stages) r.pipe_ends (p - 1) ends;
          scripts = λ n. (script n).few;
          nesting = λ n place. (script n).nesting place;
          repeats = λ n place times e. (script n).repeats place times e;
          margins = λ n. each_or (λ (body : Body). body.earliest_end ≤ 1000000) bodies (n - 1) no_body (omega arith) margins;
        };
      }

pub files_are_sound : FilesAreSound
files_are_sound bytes c h =
    let m = read_holds IsMeant bytes c (λ keyed t said r bodies named read. meant keyed t said r bodies named read) h in
    record {
      in_order = files_are_in_order bytes c h;
      keys = files_name_keys bytes c h;
      services = m.services;
      spawns = m.spawns;
      pipes = m.pipes;
      within = m.within;
    }
