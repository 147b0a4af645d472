-- the services of a file are numbered in order, and a register service from 1 to 8 keeps each register
use Rattle.std.proofs.Common.{◌≡◌, ℕ, ◌+◌, ◌≤◌, List, [], ◌∷◌, ◌++◌, length, refl, sym, subst, arith}
use Rattle.rss_names.specs.declared.service.ServiceId.{ServiceId}
use Rattle.rss_names.specs.declared.service.ServiceId.TheVariants as id
use Rattle.pipeline_lang.specs.declared.config.ServiceDef.{ServiceDef}
use Rattle.pipeline_tables.specs.declared.tables.FileTables.{FileTables}
use Rattle.pipeline_tables.specs.declared.tables.ServiceTable.{ServiceTable}
use Rattle.pipeline_tables.specs.declared.tables.ServiceKind.{ServiceKind}
use Rattle.pipeline_tables.specs.declared.tables.ServiceKind.TheVariants.{Txn, Reg}
use Rattle.pipeline_file.specs.Services.{for_each, of_kind, further_one, next_txn, next_reg, further_from, owners_from, register_services, those_of, services_of}
use Rattle.reg_laws.specs.Files.{AreNumbered}
use Rattle.file_laws.proofs.Each.{Each, each_append}
use Rattle.file_laws.proofs.Limits.{IsBare, AreFew}

-- services of transactions take no number
txn_first : (txn reg n : ℕ) (t : ServiceTable) (k : ServiceKind) (ds rest : List ServiceDef) → AreNumbered n (those_of Txn ds ++ rest) → AreNumbered n (those_of Txn (of_kind txn reg t k ∷ ds) ++ rest)
txn_first txn reg n t Txn ds rest h = (tt, h)
txn_first txn reg n t Reg ds rest h = h

txns_numbered : (txn reg n : ℕ) (ts : List ServiceTable) (rest : List ServiceDef) → AreNumbered n rest → AreNumbered n (those_of Txn (further_from txn reg ts) ++ rest)
unfolding further_from
txns_numbered txn reg n [] rest h = h
txns_numbered txn reg n (t ∷ ts) rest h = txn_first txn reg n t t.kind (further_from (next_txn txn t.kind) (next_reg reg t.kind) ts) rest (txns_numbered (next_txn txn t.kind) (next_reg reg t.kind) n ts rest h)

-- a register service takes the next number
reg_first : (txn reg : ℕ) (t : ServiceTable) (k : ServiceKind) (ds : List ServiceDef) → AreNumbered (next_reg reg k) (those_of Reg ds) → AreNumbered reg (those_of Reg (of_kind txn reg t k ∷ ds))
reg_first txn reg t Txn ds h = h
reg_first txn reg t Reg ds h = (refl, h)

regs_numbered : (txn reg : ℕ) (ts : List ServiceTable) → AreNumbered reg (those_of Reg (further_from txn reg ts))
unfolding further_from
regs_numbered txn reg [] = tt
regs_numbered txn reg (t ∷ ts) = reg_first txn reg t t.kind (further_from (next_txn txn t.kind) (next_reg reg t.kind) ts) (regs_numbered (next_txn txn t.kind) (next_reg reg t.kind) ts)

pub services_numbered : (t : FileTables) → AreNumbered 1 (services_of t)
unfolding services_of
services_numbered t = (tt, txns_numbered 2 2 1 t.services _ (refl, regs_numbered 2 2 t.services))

-- a register service from 1 to 8
pub record IsKeeper (s : ServiceId) : Type 0 where
  pub number : ℕ
  pub is : s ≡ id.Reg number
  pub first : 1 ≤ number
  pub last : number ≤ 8

each_for : (s : ServiceId) (names : List (List ℕ)) → IsKeeper s → Each IsKeeper (for_each s names)
unfolding for_each
each_for s [] k = tt
each_for s (name ∷ names) k = (k, each_for s names k)

no_keepers : (s : ServiceId) → Each IsKeeper (for_each s [])
unfolding for_each
no_keepers s = tt

row_keepers : (txn reg : ℕ) (t : ServiceTable) (k : ServiceKind) → t.kind ≡ k → IsBare t → 1 ≤ reg → reg ≤ 8 → Each IsKeeper (for_each (of_kind txn reg t k).id t.registers)
row_keepers txn reg t Txn e b first last = subst (λ (names : List (List ℕ)). Each IsKeeper (for_each (id.Txn txn) names)) (sym (b e)) (no_keepers (id.Txn txn))
row_keepers txn reg t Reg e b first last = each_for (id.Reg reg) t.registers (record { number = reg; is = refl; first = first; last = last })

next_near : (reg : ℕ) (k : ServiceKind) → (reg ≤ next_reg reg k) × (next_reg reg k ≤ reg + 1)
next_near reg Txn = (omega arith, omega arith)
next_near reg Reg = (omega arith, omega arith)

keepers_from : (txn reg : ℕ) (ts : List ServiceTable) → 1 ≤ reg → reg + length ts ≤ 9 → Each IsBare ts → Each IsKeeper (owners_from txn reg ts)
unfolding owners_from
keepers_from txn reg [] first few b = tt
keepers_from txn reg (t ∷ ts) first few b =
    let near = next_near reg t.kind in
    each_append IsKeeper (for_each (further_one txn reg t).id t.registers) (owners_from (next_txn txn t.kind) (next_reg reg t.kind) ts)
    (row_keepers txn reg t t.kind refl b.0 first (omega (arith, few)))
    (keepers_from (next_txn txn t.kind) (next_reg reg t.kind) ts (omega (arith, first, near.0)) (omega (arith, few, near.1)) b.1)

pub keepers : (t : FileTables) → AreFew 6 t.services → Each IsKeeper (register_services t)
unfolding register_services
keepers t f =
    each_append IsKeeper (for_each (id.Reg 1) t.root.registers) (owners_from 2 2 t.services)
    (each_for (id.Reg 1) t.root.registers (record { number = 1; is = refl; first = omega arith; last = omega arith }))
    (keepers_from 2 2 t.services (omega arith) (omega (arith, f.few)) f.bare)
