-- What a shard's answer to a snapshot shows, and whom it names as passed by.
use Rattle.std.proofs.Common.{◌≡◌, ◌⊎◌, inl, inr, ℕ, suc, ◌<◌, ◌≤◌, Bool, true, false, ◌&&◌, not, List, [], ◌∷◌, length, refl, sym, ap, ◌∙◌, subst, arith}
use Rattle.std.specs.Prelude.{nat_le, if◌then◌else◌}
use Rattle.std.specs.List.{list_any}
use Rattle.std.proofs.lemmas.Bool.{true≢false, cond_both, leb-true, le-leb, cases_lt}
use Rattle.rss_names.specs.declared.service.Key.{Key}
use Rattle.rss_wire.specs.declared.messages.Reply.{Reply}
use Rattle.rss_wire.specs.declared.messages.Reply.TheVariants as reply
use Rattle.rss_wire.specs.declared.messages.Request.TheVariants as request
use Rattle.rss_wire.specs.declared.messages.Skipped.{Skipped}
use Rattle.rss_wire.specs.declared.messages.Version.{Version}
use Rattle.rss_tables.specs.Lines.{Line}
use Rattle.rss_tables.specs.Prepared.{PreparedWriter, is_asked_about, must_wait_for, passed_by, blocking, named_skipped, named_blocking}
use Rattle.rss_tables.specs.ShardRow.{Shard as ShardState, is_clear, shard_reply}
use Rattle.rss_tables.specs.TransactionSession.{greatest_time, greatest_shown}
use Rattle.rss_tables.specs.Versions.{KeyVersions, opening_version, last_upto, versions_of, versions_at}
use Rattle.shard_laws.specs.Closed.{EachOf}
use Rattle.shard_laws.specs.Snapshots.{IsBefore}
use Rattle.session_laws.specs.Awaits.{IsReplyTo}
use Rattle.session_laws.specs.Frames.{nth_line}

-- the version at a time is not above it
last_below : (found : Version) (time : ℕ) (vs : List Version) → found.time ≤ time → (last_upto found time vs).time ≤ time
last_below found time [] h = h
last_below found time (v ∷ vs) h =
    cond_both (nat_le v.time time) v found (λ (f : Version). (last_upto f time vs).time ≤ time) (λ e. last_below v time vs (leb-true v.time time e)) (λ e. last_below found time vs h)

greatest_upto : (store : List KeyVersions) (keys : List Key) (time : ℕ) → greatest_time (versions_at store keys time) ≤ time
greatest_upto store [] time = omega arith
greatest_upto store (key ∷ keys) time =
    let a = last_below opening_version time (versions_of store key) (omega arith) in
    let b = greatest_upto store keys time in
    omega (arith, a, b)

-- where nobody may be passed by, nobody is
none_passed : (prepared : List PreparedWriter) (keys : List Key) (read_time least : ℕ) → passed_by prepared keys read_time least false ≡ []
none_passed [] keys read_time least = refl
none_passed (p ∷ prepared) keys read_time least = by_test (is_asked_about keys read_time p) (none_passed prepared keys read_time least)
  where
    by_test : (b : Bool) → passed_by prepared keys read_time least false ≡ [] → (if b && not (must_wait_for read_time least false p) then p ∷ passed_by prepared keys read_time least false else passed_by prepared keys read_time least false) ≡ []
    by_test true ih = ih
    by_test false ih = ih

-- what an answer says
pub record IsAnswer (read_time : ℕ) (skip : Bool) (shown : List (Key × Version)) (skipped : List Skipped) : Type 0 where
  pub upto : greatest_time shown ≤ read_time
  pub passed : skip ≡ false → skipped ≡ []

values_shown_are : (a b : List (Key × Version)) (c d : List Skipped) → ◌≡◌ {A = Reply} (reply.Values a c) (reply.Values b d) → a ≡ b
values_shown_are a b c d e = cc

values_skipped_are : (a b : List (Key × Version)) (c d : List Skipped) → ◌≡◌ {A = Reply} (reply.Values a c) (reply.Values b d) → c ≡ d
values_skipped_are a b c d e = cc

answer_of : (sh : ShardState) (latest read_time least : ℕ) (keys : List Key) (skip : Bool) (shown : List (Key × Version)) (skipped : List Skipped) → reply.Values shown skipped ≡ shard_reply sh latest (request.Snapshot read_time least keys skip) → IsAnswer read_time skip shown skipped
unfolding shard_reply
answer_of sh latest read_time least keys skip shown skipped =
    cond_both (is_clear sh keys read_time least skip) clear (reply.Blocked (named_blocking (blocking sh.prepared keys read_time least skip))) (λ (r : Reply). reply.Values shown skipped ≡ r → IsAnswer read_time skip shown skipped)
    (λ b e. answers e) (λ b e. absurd (let f : ◌≡◌ {A = Reply} (reply.Values shown skipped) (reply.Blocked (named_blocking (blocking sh.prepared keys read_time least skip))) = e in cc))
  where
    clear : Reply
    clear = reply.Values (versions_at sh.store keys read_time) (named_skipped (passed_by sh.prepared keys read_time least skip))

    answers : reply.Values shown skipped ≡ clear → IsAnswer read_time skip shown skipped
    answers e = record {
      upto = subst (λ (xs : List (Key × Version)). greatest_time xs ≤ read_time) (sym (values_shown_are shown (versions_at sh.store keys read_time) skipped (named_skipped (passed_by sh.prepared keys read_time least skip)) e)) (greatest_upto sh.store keys read_time);
      passed = λ s. values_skipped_are shown (versions_at sh.store keys read_time) skipped (named_skipped (passed_by sh.prepared keys read_time least skip)) e
          ∙ ap (λ (b : Bool). named_skipped (passed_by sh.prepared keys read_time least b)) s ∙ ap named_skipped (none_passed sh.prepared keys read_time least);
    }

pub answer_is : (read_time least : ℕ) (keys : List Key) (skip : Bool) (shown : List (Key × Version)) (skipped : List Skipped) → IsReplyTo (request.Snapshot read_time least keys skip) (reply.Values shown skipped) → IsAnswer read_time skip shown skipped
answer_is read_time least keys skip shown skipped i = answer_of i.shard i.latest read_time least keys skip shown skipped i.gives

-- whom a line need not ask about again stands after the time
pub all_after : (time : ℕ) (skipped : List Skipped) → list_any (λ (s : Skipped). nat_le s.prepare_time time) skipped ≡ false → EachOf (IsBefore time) skipped
all_after time [] e = tt
all_after time (p ∷ skipped) e = by_test (nat_le p.prepare_time time) refl (cases_lt time p.prepare_time) (all_after time skipped)
  where
    rest : nat_le p.prepare_time time ≡ false → list_any (λ (s : Skipped). nat_le s.prepare_time time) skipped ≡ false
    rest f = rw f at e

    by_test : (b : Bool) → nat_le p.prepare_time time ≡ b → (time < p.prepare_time) ⊎ (p.prepare_time ≤ time) → (list_any (λ (s : Skipped). nat_le s.prepare_time time) skipped ≡ false → EachOf (IsBefore time) skipped) → EachOf (IsBefore time) (p ∷ skipped)
    by_test true f c ih = absurd (true≢false (rw f at e))
    by_test false f (inl c) ih = (c, ih (rest f))
    by_test false f (inr c) ih = absurd (true≢false (sym (le-leb p.prepare_time time c) ∙ f))

-- the greatest time that lines show
pub shown_upto : (lines : List Line) (time : ℕ) → ((i : ℕ) → i < length lines → greatest_time (nth_line lines i).shown ≤ time) → greatest_shown lines ≤ time
shown_upto [] time h = omega arith
shown_upto (l ∷ lines) time h =
    let a = h 0 (omega arith) in
    let b = shown_upto lines time (λ i c. h (suc i) (omega (arith, c))) in
    omega (arith, a, b)
