-- Accepts of the front of a list, and how many writes and syncs they take.
use Rattle.std.proofs.Common.{◌≡◌, ℕ, ◌+◌, ◌<◌, ◌≤◌, ◌⊎◌, false, List, [], ◌∷◌, ◌++◌, length, get_or, take, drop, arith, refl, sym, ap, ◌∙◌, inl, inr}
use Rattle.std.proofs.lemmas.Grind.{common_steps}
use Rattle.std.proofs.lemmas.List.{take_more, take-append-drop, take_all, set_past}
use Rattle.carstamps.specs.Stamp.{stamp_lt}
use Rattle.causal_context.specs.declared.dep.Dep.{Dep}
use Rattle.rss_wire.specs.declared.messages.RegReply.{RegReply}
use Rattle.rss_wire.specs.declared.messages.Request.{Request}
use Rattle.rss_wire.specs.declared.messages.Request.TheVariants.{Lock, Prepare, Decide, Commit, Abort, Inquire, Release, Snapshot, Fix, Ask, Stamp, Store}
use Rattle.rss_tables.specs.ReplicaRow.{held_at, dep_cell, accept, accept_all, replica_after, replica_reply}
use Rattle.replica_disk.specs.Accepts.{accepts_of, accept_cost, times_accepted, times_all, cost_all}

pub accept_all-append : (cells : List RegReply) (xs ys : List Dep) → accept_all cells (xs ++ ys) ≡ accept_all (accept_all cells xs) ys
accept_all-append cells [] ys = refl
accept_all-append cells (x ∷ xs) ys = accept_all-append (accept cells x.key (dep_cell x)) xs ys

pub times_all-append : (cells : List RegReply) (times : List ℕ) (xs ys : List Dep) → times_all cells times (xs ++ ys) ≡ times_all (accept_all cells xs) (times_all cells times xs) ys
times_all-append cells times [] ys = refl
times_all-append cells times (x ∷ xs) ys = times_all-append (accept cells x.key (dep_cell x)) (times_accepted cells times x) xs ys

plus_zero : (n : ℕ) → n ≡ 0 + n
plus_zero n = omega arith

plus_assoc : (a b c d : ℕ) → b ≡ c + d → a + b ≡ a + c + d
plus_assoc a b c d e = omega arith

pub cost_all-append : (cells : List RegReply) (times : List ℕ) (xs ys : List Dep)
    → cost_all cells times (xs ++ ys) ≡ cost_all cells times xs + cost_all (accept_all cells xs) (times_all cells times xs) ys
cost_all-append cells times [] ys = plus_zero (cost_all cells times ys)
cost_all-append cells times (x ∷ xs) ys =
    plus_assoc (accept_cost cells times x) _ _ _ (cost_all-append (accept cells x.key (dep_cell x)) (times_accepted cells times x) xs ys)

-- one accept more
pub accept_more : (cells : List RegReply) (ds : List Dep) (k : ℕ) (d : Dep) → k < length ds
    → accept_all cells (take (k + 1) ds) ≡ accept (accept_all cells (take k ds)) (get_or ds k d).key (dep_cell (get_or ds k d))
accept_more cells ds k d lt = ap (accept_all cells) (take_more ds k d lt) ∙ accept_all-append cells (take k ds) (get_or ds k d ∷ [])

pub times_more : (cells : List RegReply) (times : List ℕ) (ds : List Dep) (k : ℕ) (d : Dep) → k < length ds
    → times_all cells times (take (k + 1) ds) ≡ times_accepted (accept_all cells (take k ds)) (times_all cells times (take k ds)) (get_or ds k d)
times_more cells times ds k d lt = ap (times_all cells times) (take_more ds k d lt) ∙ times_all-append cells times (take k ds) (get_or ds k d ∷ [])

plus_nothing : (a b c : ℕ) → a ≡ b + (c + 0) → a ≡ b + c
plus_nothing a b c e = omega arith

pub cost_more : (cells : List RegReply) (times : List ℕ) (ds : List Dep) (k : ℕ) (d : Dep) → k < length ds
    → cost_all cells times (take (k + 1) ds) ≡ cost_all cells times (take k ds) + accept_cost (accept_all cells (take k ds)) (times_all cells times (take k ds)) (get_or ds k d)
cost_more cells times ds k d lt =
    plus_nothing _ _ _ (ap (cost_all cells times) (take_more ds k d lt) ∙ cost_all-append cells times (take k ds) (get_or ds k d ∷ []))

at_most_sum : (a b c : ℕ) → c ≡ a + b → a ≤ c
at_most_sum a b c e = omega arith

-- a front costs at most the whole
pub cost_front : (cells : List RegReply) (times : List ℕ) (ds : List Dep) (k : ℕ) → cost_all cells times (take k ds) ≤ cost_all cells times ds
cost_front cells times ds k =
    at_most_sum _ _ _ (ap (cost_all cells times) (sym (take-append-drop k ds)) ∙ cost_all-append cells times (take k ds) (drop k ds))

-- a replica has accepted this already: it holds no smaller stamp, or has no such register
abbrev Has : List RegReply → Dep → Type 0
Has cells d = (stamp_lt (held_at cells d.key).stamp d.stamp ≡ false) ⊎ (length cells ≤ d.key.index)

accepted_has : (cells : List RegReply) (d : Dep) → Has (accept cells d.key (dep_cell d)) d
accepted_has cells d = grind (arith, common_steps)

has_still : (cells : List RegReply) (d e : Dep) → Has cells d → Has (accept cells e.key (dep_cell e)) d
has_still cells d e has = grind (arith, common_steps)

has_after : (cells : List RegReply) (d : Dep) (es : List Dep) → Has cells d → Has (accept_all cells es) d
has_after cells d [] has = has
has_after cells d (e ∷ es) has = has_after (accept cells e.key (dep_cell e)) d es (has_still cells d e has)

unchanged : (cells : List RegReply) (d : Dep) → Has cells d → accept cells d.key (dep_cell d) ≡ cells
unchanged cells d has = grind (arith, common_steps, set_past)

-- what was accepted is accepted again without a change
again : (cells : List RegReply) (ds : List Dep) → accept_all (accept_all cells ds) ds ≡ accept_all cells ds
again cells [] = refl
again cells (d ∷ ds) =
    let now : List RegReply = accept_all (accept cells d.key (dep_cell d)) ds in
    ap (λ (c : List RegReply). accept_all c ds) (unchanged now d (has_after (accept cells d.key (dep_cell d)) d ds (accepted_has cells d)))
    ∙ again (accept cells d.key (dep_cell d)) ds

pub accept_again : (cells : List RegReply) (ds : List Dep) (n : ℕ) → accept_all (accept_all cells (take n ds)) ds ≡ accept_all cells ds
accept_again cells ds n =
    let half : List RegReply = accept_all cells (take n ds) in
    ap (accept_all half) (sym (take-append-drop n ds)) ∙ accept_all-append half (take n ds) (drop n ds)
    ∙ ap (λ (c : List RegReply). accept_all c (drop n ds)) (again cells (take n ds))
    ∙ sym (accept_all-append cells (take n ds) (drop n ds)) ∙ ap (accept_all cells) (take-append-drop n ds)

-- what a request leaves is what its accepts leave
pub after_accepts : (cells : List RegReply) (r : Request) → replica_after cells r ≡ accept_all cells (accepts_of r)
unfolding replica_after accepts_of
after_accepts cells (Fix deps) = refl
after_accepts cells (Ask key) = refl
after_accepts cells (Stamp key) = refl
after_accepts cells (Store key value stamp writer) = refl
after_accepts cells (Lock attempt coordinator reads writes) = refl
after_accepts cells (Prepare attempt least earliest_end writes) = refl
after_accepts cells (Decide attempt commit time) = refl
after_accepts cells (Commit attempt commit_time) = refl
after_accepts cells (Abort attempt) = refl
after_accepts cells (Inquire attempt) = refl
after_accepts cells (Release attempt time last) = refl
after_accepts cells (Snapshot read_time least keys skip) = refl

-- a request is handled again
pub registers_again : (cells : List RegReply) (r : Request) (n : ℕ) → replica_after (accept_all cells (take n (accepts_of r))) r ≡ replica_after cells r
registers_again cells r n =
    after_accepts (accept_all cells (take n (accepts_of r))) r ∙ accept_again cells (accepts_of r) n ∙ sym (after_accepts cells r)

take_none : (n : ℕ) → ◌≡◌ {A = List Dep} (take n []) []
take_none n = take_all n [] (omega arith)

-- with the same reply
pub reply_again : (cells : List RegReply) (r : Request) (n : ℕ) → replica_reply (accept_all cells (take n (accepts_of r))) r ≡ replica_reply cells r
unfolding replica_reply accepts_of
reply_again cells (Fix deps) n = refl
reply_again cells (Ask key) n = ap (λ (ds : List Dep). replica_reply (accept_all cells ds) (Ask key)) (take_none n)
reply_again cells (Stamp key) n = ap (λ (ds : List Dep). replica_reply (accept_all cells ds) (Stamp key)) (take_none n)
reply_again cells (Store key value stamp writer) n = refl
reply_again cells (Lock attempt coordinator reads writes) n = refl
reply_again cells (Prepare attempt least earliest_end writes) n = refl
reply_again cells (Decide attempt commit time) n = refl
reply_again cells (Commit attempt commit_time) n = refl
reply_again cells (Abort attempt) n = refl
reply_again cells (Inquire attempt) n = refl
reply_again cells (Release attempt time last) n = refl
reply_again cells (Snapshot read_time least keys skip) n = refl

-- what a request accepts does not change its reply
pub reply_after : (cells : List RegReply) (r : Request) → replica_reply (accept_all cells (accepts_of r)) r ≡ replica_reply cells r
unfolding replica_reply accepts_of
reply_after cells (Fix deps) = refl
reply_after cells (Ask key) = refl
reply_after cells (Stamp key) = refl
reply_after cells (Store key value stamp writer) = refl
reply_after cells (Lock attempt coordinator reads writes) = refl
reply_after cells (Prepare attempt least earliest_end writes) = refl
reply_after cells (Decide attempt commit time) = refl
reply_after cells (Commit attempt commit_time) = refl
reply_after cells (Abort attempt) = refl
reply_after cells (Inquire attempt) = refl
reply_after cells (Release attempt time last) = refl
reply_after cells (Snapshot read_time least keys skip) = refl

-- no accept changes how many registers there are
accept_length : (cells : List RegReply) (d : Dep) → length (accept cells d.key (dep_cell d)) ≡ length cells
accept_length cells d = grind (arith, common_steps)

accept_all_length : (cells : List RegReply) (ds : List Dep) → length (accept_all cells ds) ≡ length cells
accept_all_length cells [] = refl
accept_all_length cells (d ∷ ds) = accept_all_length (accept cells d.key (dep_cell d)) ds ∙ accept_length cells d

pub after_length : (cells : List RegReply) (r : Request) → length (replica_after cells r) ≡ length cells
after_length cells r = ap length (after_accepts cells r) ∙ accept_all_length cells (accepts_of r)
