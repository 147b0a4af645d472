-- What the names of a file mean: shards are of transaction services, pipes lead between stages of the file.
use Rattle.std.proofs.Common.{◌≡◌, ℕ, ◌+◌, ◌<◌, ◌≤◌, Bool, true, false, List, [], ◌∷◌, length, Option, Some, None, Result, Ok, Err, refl, sym, subst, arith}
use Rattle.std.specs.Prelude.{cond, codes, unwrap_or, nat_lt}
use Rattle.std.specs.Str.{bytes_eq}
use Rattle.std.proofs.lemmas.Bool.{false≢true}
use Rattle.std.proofs.lemmas.List.Quantifiers.{position-Some}
use Rattle.rss_names.specs.declared.service.ServiceId.{ServiceId}
use Rattle.rss_names.specs.declared.service.ServiceId.TheVariants as id
use Rattle.pipeline_lang.specs.Positions.{position_of}
use Rattle.pipeline_lang.specs.declared.config.PipeEnds.{PipeEnds}
use Rattle.pipeline_lang.specs.declared.config.ServiceDef.{ServiceDef}
use Rattle.pipeline_tables.specs.declared.fault.FaultKind.TheVariants.{UnknownName}
use Rattle.pipeline_tables.specs.declared.fault.FileFault.{FileFault}
use Rattle.pipeline_tables.specs.declared.fault.FileKey.TheVariants as key
use Rattle.pipeline_tables.specs.declared.fault.Place.{Place}
use Rattle.pipeline_tables.specs.declared.fault.Table.TheVariants as table
use Rattle.pipeline_tables.specs.declared.tables.FileTables.{FileTables}
use Rattle.pipeline_tables.specs.declared.tables.PipeTable.{PipeTable}
use Rattle.pipeline_tables.specs.declared.tables.ServiceKind.TheVariants.{Txn}
use Rattle.pipeline_tables.specs.declared.tables.ShardTable.{ShardTable}
use Rattle.pipeline_tables.specs.Faults.{key_place, fault}
use Rattle.pipeline_file.specs.declared.resolve.Known.{Known}
use Rattle.pipeline_file.specs.declared.resolve.Resolved.{Resolved}
use Rattle.pipeline_file.specs.Resolve.{numbered, number_in, service_named, txn_service, shard_service, pipe_ends, withhold_said, kill_said, each_from, no_loops, resolved_of}
use Rattle.pipeline_file.specs.Services.{is_of}
use Rattle.file_laws.proofs.Each.{Each}
use Rattle.file_laws.proofs.Went.{ok_same, went, went_onto, after}
use Rattle.sound_laws.proofs.Ranges.{HasRoom}
use Rattle.sound_laws.proofs.Said.{let_through}
use Rattle.sound_laws.proofs.Serviced.{IsTxnService}

-- the parts of what names mean
pub record AreResolved (known : Known) (t : FileTables) (r : Resolved) : Type 0 where
  pub services : each_from (shard_service known) 1 t.shards ≡ Ok r.shard_services
  pub ends : each_from (pipe_ends known) 1 t.pipes ≡ Ok r.pipe_ends

pub are_resolved : (known : Known) (t : FileTables) (r : Resolved) → resolved_of known t ≡ Ok r → AreResolved known t r
unfolding resolved_of
are_resolved known t r = after (AreResolved known t) r (each_from (shard_service known) 1 t.shards) _ (λ services said.
    after (AreResolved known t) r (each_from (pipe_ends known) 1 t.pipes) _ (λ ends told.
    after (AreResolved known t) r (each_from (withhold_said known) 1 t.withholds) _ (λ withholds _.
    after (AreResolved known t) r (each_from (kill_said known) 1 t.kills) _ (λ kills _.
    after (AreResolved known t) r (no_loops 1 ends) _ (λ shaped _ made.
    subst (AreResolved known t) (ok_same _ r made) (record { services = said; ends = told }))))))

-- what holds of each row holds of what it means
each_meaning : {A B : Type 0} (P : A → Type 0) (Q : B → Type 0) (means : ℕ → A → Result B FileFault) (n : ℕ) (rows : List A) (meanings : List B) → ((m : ℕ) (row : A) (meaning : B) → P row → means m row ≡ Ok meaning → Q meaning) → Each P rows → each_from means n rows ≡ Ok meanings → Each Q meanings
unfolding each_from
each_meaning P Q means n [] meanings holds each h = subst (Each Q) (ok_same [] meanings h) tt
each_meaning P Q means n (row ∷ rows) meanings holds each h =
    let meaning = went (means n row) _ meanings h in
    let rest = went_onto meaning.0 (each_from means (n + 1) rows) meanings meaning.1.1 in
    subst (Each Q) rest.1.1 (holds n row meaning.0 each.0 meaning.1.0, each_meaning P Q means (n + 1) rows rest.0 holds each.1 rest.1.0)

each_any : {A : Type 0} (xs : List A) → Each (λ (x : A). Unit {0}) xs
each_any [] = tt
each_any (x ∷ xs) = (tt, each_any xs)

-- SHARDS

-- a service that a file defines: register services and transaction services are numbered from 1 to 8, and only the
-- former have replicas
abbrev pub Fits : ServiceId → ℕ → Type 0
Fits (id.Reg number) replicas = (replicas ≤ 7) × (1 ≤ number) × (number ≤ 8)
Fits (id.Txn number) replicas = (replicas ≡ 0) × (1 ≤ number) × (number ≤ 8)

abbrev pub IsDefined : ServiceDef → Type 0
IsDefined d = Fits d.id d.replicas

txn_is : (s : ServiceId) (replicas : ℕ) → Fits s replicas → is_of Txn s ≡ true → IsTxnService s
txn_is (id.Txn number) replicas f e = record { number = number; is = refl; first = f.1; last = f.2 }
txn_is (id.Reg number) replicas f e = absurd (false≢true e)

named_txn : (at : Place) (services : List ServiceDef) (name : List ℕ) (s : ServiceId) → Each IsDefined services → txn_service at (service_named services name) ≡ Ok s → IsTxnService s
unfolding service_named
named_txn at [] name s each h = absurd cc
named_txn at (d ∷ ds) name s each h = by_name (bytes_eq name d.name) h (named_txn at ds name s each.1)
  where
    by_name : (b : Bool) → txn_service at (cond b (Some d) (service_named ds name)) ≡ Ok s → (txn_service at (service_named ds name) ≡ Ok s → IsTxnService s) → IsTxnService s
    by_name true i ih =
        let t = let_through (is_of Txn d.id) d.id s (fault UnknownName at) i in
        subst IsTxnService t.1 (txn_is d.id d.replicas each.0 t.0)
    by_name false i ih = ih i

shard_txn : (known : Known) → Each IsDefined known.services → (n : ℕ) (t : ShardTable) (s : ServiceId) → shard_service known n t ≡ Ok s → IsTxnService s
unfolding shard_service
shard_txn known each n t s h = named_txn (key_place table.Shard n key.Service) known.services (unwrap_or t.service (codes "txn")) s each h

pub shards_txn : (known : Known) (t : FileTables) (r : Resolved) → Each IsDefined known.services → AreResolved known t r → Each IsTxnService r.shard_services
shards_txn known t r each h = each_meaning (λ (s : ShardTable). Unit {0}) IsTxnService (shard_service known) 1 t.shards r.shard_services (λ m row s _ e. shard_txn known each m row s e) (each_any t.shards) h.services

-- PIPES

-- the ends of a pipe between stages of the file
pub record EndsFit (stages : ℕ) (ends : PipeEnds) : Type 0 where
  pub giver : 1 ≤ ends.giver
  pub taker : ends.taker ≤ stages
  pub capacity : ends.capacity ≤ 64

number_within : (names : List (List ℕ)) (at : Place) (name : List ℕ) (k : ℕ) → number_in names at name ≡ Ok k → (1 ≤ k) × (k ≤ length names)
unfolding number_in
number_within names at name k h = by_position (position_of name names) refl h
  where
    by_position : (o : Option ℕ) → position_of name names ≡ o → numbered at o ≡ Ok k → (1 ≤ k) × (k ≤ length names)
    by_position None e i = absurd cc
    by_position (Some place) e i =
        let t = let_through (nat_lt place 16) (place + 1) k (fault UnknownName at) i in
        let l = (position-Some (bytes_eq name) names place name e).0 in
        subst (λ (m : ℕ). (1 ≤ m) × (m ≤ length names)) t.1 (omega arith, omega (arith, l))

ends_fit : (known : Known) (n : ℕ) (p : PipeTable) (ends : PipeEnds) → HasRoom p → pipe_ends known n p ≡ Ok ends → EndsFit (length known.stages) ends
unfolding pipe_ends
ends_fit known n p ends room = after (EndsFit (length known.stages)) ends (number_in known.stages (key_place table.Pipe n key.From) p.from) _ (λ giver g.
    after (EndsFit (length known.stages)) ends (number_in known.stages (key_place table.Pipe n key.To) p.to) _ (λ taker t made.
    subst (EndsFit (length known.stages)) (ok_same _ ends made) (record {
      giver = (number_within known.stages (key_place table.Pipe n key.From) p.from giver g).0;
      taker = (number_within known.stages (key_place table.Pipe n key.To) p.to taker t).1;
      capacity = room;
    })))

pub pipes_fit : (known : Known) (t : FileTables) (r : Resolved) → Each HasRoom t.pipes → AreResolved known t r → Each (EndsFit (length known.stages)) r.pipe_ends
pipes_fit known t r room h = each_meaning HasRoom (EndsFit (length known.stages)) (pipe_ends known) 1 t.pipes r.pipe_ends (λ m row ends k e. ends_fit known m row ends k e) room h.ends
