use Rattle.std.proofs.Common.{◌≡◌, Bool, false, not, List, filter, sym, ◌∙◌, ap}
use Rattle.rss_names.specs.declared.attempt.Attempt.{Attempt}
use Rattle.rss_tables.specs.Locks.{LockHolder, after_lock, attempts_of, conflicts, holds, is_tombstoned, is_wounded_by}
use Rattle.shard_locks.specs.Holders.{holder_of, is_open, without_holders}
use Rattle.shard_locks.specs.LockView.{LockView, answer_by, wounded_at}
use Rattle.shard_locks.proofs.Alike.{not-holding, none-kept, wounded-is, left-is, waiting-is}
use Rattle.shard_locks.proofs.Answered.{asked, wounds-those}
use Rattle.shard_locks.proofs.table.LockTable.ask.Goals as goal

pub list_in_way-requires-clause-new : goal.list_in_way-requires-clause-new
list_in_way-requires-clause-new c =
    let held = ap (λ (v : LockView). v.locks.holders) c.self.view_is in
    let none = sym c.holds.ensures ∙ c.if-holds.false in
    let at : c.args.attempt ≡ c.new-new.result.attempt = sym (ap (λ (h : LockHolder). h.attempt) c.new-new.ensures) in
    ap (λ (a : Attempt). holder_of c.self.inside.holders.holders a) (sym at) ∙ not-holding c.self.inside.holders.holders c.args.attempt (rw (← held) at none)

pub settle-requires-clause-new : goal.settle-requires-clause-new
settle-requires-clause-new c =
    let held = ap (λ (v : LockView). v.locks.holders) c.self.view_is in
    let none = sym c.holds.ensures ∙ c.if-holds.false in
    let at : c.args.attempt ≡ c.new-new.result.attempt = sym (ap (λ (h : LockHolder). h.attempt) c.new-new.ensures) in
    let hs : List LockHolder = c.self.inside.holders.holders in
    let wounds : LockHolder → Bool = is_wounded_by c.args.prepared.now c.new-new.result.attempt c.new-new.result.reads c.new-new.result.writes in
    let wounded : c.list_wounded.new.wounded.items ≡ attempts_of (filter wounds hs) = rw c.as_slice.ensures.value at c.list_wounded.ensures.listed ∙ ap (λ (l : List Attempt). filter (is_open c.args.prepared.now c.args.attempt) l) c.list_in_way.ensures.found ∙ ap (λ (a : Attempt). filter (is_open c.args.prepared.now a) (attempts_of (filter (conflicts c.new-new.result.attempt c.new-new.result.reads c.new-new.result.writes) hs))) at ∙ wounded-is c.args.prepared.now c.new-new.result.attempt c.new-new.result.reads c.new-new.result.writes hs in
    let left : c.remove_all.new.holders.holders ≡ filter (λ (h : LockHolder). not (wounds h)) hs = rw c.as_slice-2.ensures.value at c.remove_all.ensures.left ∙ ap (λ (l : List Attempt). without_holders hs l) wounded ∙ left-is wounds hs c.list_in_way.ensures.ascending in
    let free = ap (λ (a : Attempt). holder_of hs a) (sym at) ∙ not-holding hs c.args.attempt (rw (← held) at none) in
    rw left (none-kept (λ (h : LockHolder). not (wounds h)) hs c.new-new.result.attempt free)

pub settle-requires-clause-in_way : goal.settle-requires-clause-in_way
settle-requires-clause-in_way c =
    let held = ap (λ (v : LockView). v.locks.holders) c.self.view_is in
    let none = sym c.holds.ensures ∙ c.if-holds.false in
    let at : c.args.attempt ≡ c.new-new.result.attempt = sym (ap (λ (h : LockHolder). h.attempt) c.new-new.ensures) in
    let hs : List LockHolder = c.self.inside.holders.holders in
    let wounds : LockHolder → Bool = is_wounded_by c.args.prepared.now c.new-new.result.attempt c.new-new.result.reads c.new-new.result.writes in
    let wounded : c.list_wounded.new.wounded.items ≡ attempts_of (filter wounds hs) = rw c.as_slice.ensures.value at c.list_wounded.ensures.listed ∙ ap (λ (l : List Attempt). filter (is_open c.args.prepared.now c.args.attempt) l) c.list_in_way.ensures.found ∙ ap (λ (a : Attempt). filter (is_open c.args.prepared.now a) (attempts_of (filter (conflicts c.new-new.result.attempt c.new-new.result.reads c.new-new.result.writes) hs))) at ∙ wounded-is c.args.prepared.now c.new-new.result.attempt c.new-new.result.reads c.new-new.result.writes hs in
    let left : c.remove_all.new.holders.holders ≡ filter (λ (h : LockHolder). not (wounds h)) hs = rw c.as_slice-2.ensures.value at c.remove_all.ensures.left ∙ ap (λ (l : List Attempt). without_holders hs l) wounded ∙ left-is wounds hs c.list_in_way.ensures.ascending in
    rw (left, c.as_slice-in_way.ensures.value, c.list_in_way.ensures.found) (waiting-is wounds (conflicts c.new-new.result.attempt c.new-new.result.reads c.new-new.result.writes) hs c.list_in_way.ensures.ascending)

pub returns-clause-locks : goal.returns-clause-locks
returns-clause-locks c =
    let held = ap (λ (v : LockView). v.locks.holders) c.self.view_is in
    let none = sym c.holds.ensures ∙ c.if-holds.false in
    let at : c.args.attempt ≡ c.new-new.result.attempt = sym (ap (λ (h : LockHolder). h.attempt) c.new-new.ensures) in
    let hs : List LockHolder = c.self.inside.holders.holders in
    let wounds : LockHolder → Bool = is_wounded_by c.args.prepared.now c.new-new.result.attempt c.new-new.result.reads c.new-new.result.writes in
    let wounded : c.list_wounded.new.wounded.items ≡ attempts_of (filter wounds hs) = rw c.as_slice.ensures.value at c.list_wounded.ensures.listed ∙ ap (λ (l : List Attempt). filter (is_open c.args.prepared.now c.args.attempt) l) c.list_in_way.ensures.found ∙ ap (λ (a : Attempt). filter (is_open c.args.prepared.now a) (attempts_of (filter (conflicts c.new-new.result.attempt c.new-new.result.reads c.new-new.result.writes) hs))) at ∙ wounded-is c.args.prepared.now c.new-new.result.attempt c.new-new.result.reads c.new-new.result.writes hs in
    let left : c.remove_all.new.holders.holders ≡ filter (λ (h : LockHolder). not (wounds h)) hs = rw c.as_slice-2.ensures.value at c.remove_all.ensures.left ∙ ap (λ (l : List Attempt). without_holders hs l) wounded ∙ left-is wounds hs c.list_in_way.ensures.ascending in
    let tombs = ap (λ (v : LockView). v.locks.tombs) c.self.view_is in
    let new : c.new-new.result ≡ record { attempt = c.args.attempt; coordinator = c.args.coordinator; reads = c.args.reads.now; writes = c.args.writes.now } = rw (c.new-new.ensures, c.filled-reads.ensures, c.filled-writes.ensures) in
    let free : is_tombstoned c.args.self.now.locks c.new-new.result.attempt ≡ false = rw new (sym c.is_tombstoned.ensures ∙ c.if-is_tombstoned.false) in
    let unheld : holds c.args.self.now.locks c.new-new.result.attempt ≡ false = rw new none in
    let both = asked c.args.self.now.locks c.args.prepared.now c.new-new.result c.list_wounded.new.wounded.items c.remove_all.new.holders.holders c.bury_all.new.tombs.keys c.settle.new.holders.holders c.settle.result free unheld (rw held at wounded) (rw held at left) (rw (tombs, c.as_slice-3.ensures.value) at c.bury_all.ensures.joined) c.settle.ensures.taken c.settle.ensures.answers in
    both.0 ∙ ap (λ (h : LockHolder). after_lock c.args.self.now.locks c.args.prepared.now h) new

pub returns-clause-answers : goal.returns-clause-answers
returns-clause-answers c =
    let held = ap (λ (v : LockView). v.locks.holders) c.self.view_is in
    let none = sym c.holds.ensures ∙ c.if-holds.false in
    let at : c.args.attempt ≡ c.new-new.result.attempt = sym (ap (λ (h : LockHolder). h.attempt) c.new-new.ensures) in
    let hs : List LockHolder = c.self.inside.holders.holders in
    let wounds : LockHolder → Bool = is_wounded_by c.args.prepared.now c.new-new.result.attempt c.new-new.result.reads c.new-new.result.writes in
    let wounded : c.list_wounded.new.wounded.items ≡ attempts_of (filter wounds hs) = rw c.as_slice.ensures.value at c.list_wounded.ensures.listed ∙ ap (λ (l : List Attempt). filter (is_open c.args.prepared.now c.args.attempt) l) c.list_in_way.ensures.found ∙ ap (λ (a : Attempt). filter (is_open c.args.prepared.now a) (attempts_of (filter (conflicts c.new-new.result.attempt c.new-new.result.reads c.new-new.result.writes) hs))) at ∙ wounded-is c.args.prepared.now c.new-new.result.attempt c.new-new.result.reads c.new-new.result.writes hs in
    let left : c.remove_all.new.holders.holders ≡ filter (λ (h : LockHolder). not (wounds h)) hs = rw c.as_slice-2.ensures.value at c.remove_all.ensures.left ∙ ap (λ (l : List Attempt). without_holders hs l) wounded ∙ left-is wounds hs c.list_in_way.ensures.ascending in
    let tombs = ap (λ (v : LockView). v.locks.tombs) c.self.view_is in
    let new : c.new-new.result ≡ record { attempt = c.args.attempt; coordinator = c.args.coordinator; reads = c.args.reads.now; writes = c.args.writes.now } = rw (c.new-new.ensures, c.filled-reads.ensures, c.filled-writes.ensures) in
    let free : is_tombstoned c.args.self.now.locks c.new-new.result.attempt ≡ false = rw new (sym c.is_tombstoned.ensures ∙ c.if-is_tombstoned.false) in
    let unheld : holds c.args.self.now.locks c.new-new.result.attempt ≡ false = rw new none in
    let both = asked c.args.self.now.locks c.args.prepared.now c.new-new.result c.list_wounded.new.wounded.items c.remove_all.new.holders.holders c.bury_all.new.tombs.keys c.settle.new.holders.holders c.settle.result free unheld (rw held at wounded) (rw held at left) (rw (tombs, c.as_slice-3.ensures.value) at c.bury_all.ensures.joined) c.settle.ensures.taken c.settle.ensures.answers in
    both.1 ∙ ap (λ (h : LockHolder). answer_by record { holders = c.settle.new.holders.holders; tombs = c.bury_all.new.tombs.keys } h.attempt h.reads h.writes) new

pub returns-clause-wounded : goal.returns-clause-wounded
returns-clause-wounded c =
    let held = ap (λ (v : LockView). v.locks.holders) c.self.view_is in
    let none = sym c.holds.ensures ∙ c.if-holds.false in
    let at : c.args.attempt ≡ c.new-new.result.attempt = sym (ap (λ (h : LockHolder). h.attempt) c.new-new.ensures) in
    let hs : List LockHolder = c.self.inside.holders.holders in
    let wounds : LockHolder → Bool = is_wounded_by c.args.prepared.now c.new-new.result.attempt c.new-new.result.reads c.new-new.result.writes in
    let wounded : c.list_wounded.new.wounded.items ≡ attempts_of (filter wounds hs) = rw c.as_slice.ensures.value at c.list_wounded.ensures.listed ∙ ap (λ (l : List Attempt). filter (is_open c.args.prepared.now c.args.attempt) l) c.list_in_way.ensures.found ∙ ap (λ (a : Attempt). filter (is_open c.args.prepared.now a) (attempts_of (filter (conflicts c.new-new.result.attempt c.new-new.result.reads c.new-new.result.writes) hs))) at ∙ wounded-is c.args.prepared.now c.new-new.result.attempt c.new-new.result.reads c.new-new.result.writes hs in
    let left : c.remove_all.new.holders.holders ≡ filter (λ (h : LockHolder). not (wounds h)) hs = rw c.as_slice-2.ensures.value at c.remove_all.ensures.left ∙ ap (λ (l : List Attempt). without_holders hs l) wounded ∙ left-is wounds hs c.list_in_way.ensures.ascending in
    let tombs = ap (λ (v : LockView). v.locks.tombs) c.self.view_is in
    let new : c.new-new.result ≡ record { attempt = c.args.attempt; coordinator = c.args.coordinator; reads = c.args.reads.now; writes = c.args.writes.now } = rw (c.new-new.ensures, c.filled-reads.ensures, c.filled-writes.ensures) in
    let free : is_tombstoned c.args.self.now.locks c.new-new.result.attempt ≡ false = rw new (sym c.is_tombstoned.ensures ∙ c.if-is_tombstoned.false) in
    let unheld : holds c.args.self.now.locks c.new-new.result.attempt ≡ false = rw new none in
    rw held at wounded ∙ sym (wounds-those c.args.self.now.locks c.args.prepared.now c.new-new.result free unheld) ∙ ap (λ (h : LockHolder). wounded_at c.args.self.now.locks c.args.prepared.now h) new
