-- The greatest number that is kept of a key or a message, after one more.
use Rattle.std.proofs.Common.{◌≡◌, ◌∙◌, sym, ap, refl, ℕ, Bool, true, false, cond, max, Option, Some, arith, subst}
use Rattle.std.specs.Prelude.{◌==◌, ◌&&◌, if◌then◌else◌}
use Rattle.std.proofs.lemmas.Bool.{eqb-true, eq-eqb}
use Rattle.indexmap.specs.IndexMap.{IndexMap, get}
use Rattle.rss_names.specs.declared.service.Key.{Key}
use Rattle.rss_names.specs.Services.{same_key}
use Rattle.rss_model.specs.declared.history.Token.{Token}
use Rattle.rss_model.specs.Tokens.{same_token}
use Rattle.history_index.specs.declared.messages.MessageKey.{MessageKey}
use Rattle.history_index.specs.Kept.{key_of_message, same_message}
use Rattle.history_index.proofs.Indexed.{same_key_is}
use Rattle.rss_check.specs.declared.table.KeyNumber.{KeyNumber}
use Rattle.rss_check.specs.Places.{number_or_zero}
use Rattle.rss_check.specs.Table.{number_of_key, same_number}
use Rattle.rss_check.proofs.Tables.{numbers_same}

and_first : (a b : Bool) → (a && b) ≡ true → a ≡ true
and_first true b e = refl
and_first false b e = absurd cc

and_second : (a b : Bool) → (a && b) ≡ true → b ≡ true
and_second true b e = e
and_second false b e = absurd cc

and_three : (a b c : Bool) → a ≡ true → b ≡ true → c ≡ true → (a && b && c) ≡ true
and_three true true true d e f = refl
and_three true true false d e f = absurd cc
and_three true false c d e f = absurd cc
and_three false b c d e f = absurd cc

number_is : (a b : KeyNumber) → same_number a b ≡ true → a ≡ b
number_is a b e =
    let rest = and_second (a.kind == b.kind) (a.service == b.service && a.index == b.index) e in
    let kind = eqb-true a.kind b.kind (and_first (a.kind == b.kind) (a.service == b.service && a.index == b.index) e) in
    let service = eqb-true a.service b.service (and_first (a.service == b.service) (a.index == b.index) rest) in
    let index = eqb-true a.index b.index (and_second (a.service == b.service) (a.index == b.index) rest) in
    λ i. record { kind = kind i; service = service i; index = index i }

message_is : (a b : MessageKey) → same_message a b ≡ true → a ≡ b
message_is a b e =
    let first = and_first (a.kind == b.kind && a.of == b.of) (a.number == b.number) e in
    let kind = eqb-true a.kind b.kind (and_first (a.kind == b.kind) (a.of == b.of) first) in
    let of_one = eqb-true a.of b.of (and_second (a.kind == b.kind) (a.of == b.of) first) in
    let number = eqb-true a.number b.number (and_second (a.kind == b.kind && a.of == b.of) (a.number == b.number) e) in
    λ i. record { kind = kind i; of = of_one i; number = number i }

and_grouped : (a b c : Bool) → (a && (b && c)) ≡ (a && b && c)
and_grouped true b c = refl
and_grouped false b c = refl

-- the same test, as it is derived
abbrev pub is_same : MessageKey → MessageKey → Bool
is_same a b = a.kind == b.kind && (a.of == b.of && a.number == b.number)

same_grouped : is_same ≡ same_message
same_grouped = λ i a b. and_grouped (a.kind == b.kind) (a.of == b.of) (a.number == b.number) i

pub put_grouped : {S : Type 0} (old new : IndexMap MessageKey ℕ S) (message other : MessageKey) (top : ℕ) → get is_same new other ≡ cond (is_same message other) (Some top) (get is_same old other) → get same_message new other ≡ cond (same_message message other) (Some top) (get same_message old other)
put_grouped old new message other top e = subst (λ (same : MessageKey → MessageKey → Bool). get same new other ≡ cond (same message other) (Some top) (get same old other)) same_grouped e

message_itself : (a : MessageKey) → same_message a a ≡ true
message_itself a = and_three _ _ _ (eq-eqb a.kind a.kind refl) (eq-eqb a.of a.of refl) (eq-eqb a.number a.number refl)

message_turned : (a b : MessageKey) (p q : Bool) → same_message a b ≡ p → same_message b a ≡ q → p ≡ q
message_turned a b true true e f = refl
message_turned a b false false e f = refl
message_turned a b true false e f = absurd (let x : true ≡ false = sym (message_itself b) ∙ ap (λ (m : MessageKey). same_message b m) (sym (message_is a b e)) ∙ f in cc)
message_turned a b false true e f = absurd (let x : true ≡ false = sym (message_itself a) ∙ ap (λ (m : MessageKey). same_message a m) (sym (message_is b a f)) ∙ e in cc)

token_is : (token other : Token) → same_message (key_of_message token) (key_of_message other) ≡ same_token token other
token_is token other = message_turned (key_of_message token) (key_of_message other) _ _ refl refl ∙ same_key_is other token

-- the number after one more, by whether it is the same key
raised : (b : Bool) (top place here there : ℕ) → top ≡ max here place → (b ≡ true → here ≡ there) → number_or_zero (cond b (Some top) (Some there)) ≡ max there (if b then place else 0)
raised true top place here there t s = let e : here ≡ there = s refl in omega (arith, t, e)
raised false top place here there t s = omega arith

of_cond : (b : Bool) (top : ℕ) (old : Option ℕ) → number_or_zero (cond b (Some top) old) ≡ number_or_zero (cond b (Some top) (Some (number_or_zero old)))
of_cond true top old = refl
of_cond false top old = refl

pub raised_key : (key other : Key) (number : KeyNumber) (place top : ℕ) (old : KeyNumber → Option ℕ) (new : Option ℕ) → number ≡ number_of_key key → top ≡ max (number_or_zero (old number)) place → new ≡ cond (same_number number (number_of_key other)) (Some top) (old (number_of_key other)) → number_or_zero new ≡ max (number_or_zero (old (number_of_key other))) (if same_key other key then place else 0)
raised_key key other number place top old new n t e =
    ap number_or_zero e ∙ of_cond _ top (old (number_of_key other)) ∙
    raised (same_number number (number_of_key other)) top place (number_or_zero (old number)) (number_or_zero (old (number_of_key other))) t (λ s. ap (λ (k : KeyNumber). number_or_zero (old k)) (number_is number (number_of_key other) s)) ∙
    ap (λ (b : Bool). max (number_or_zero (old (number_of_key other))) (if b then place else 0)) (ap (λ (k : KeyNumber). same_number k (number_of_key other)) n ∙ numbers_same key other)

pub raised_message : (token other : Token) (message : MessageKey) (place top : ℕ) (old : MessageKey → Option ℕ) (new : Option ℕ) → message ≡ key_of_message token → top ≡ max (number_or_zero (old message)) place → new ≡ cond (same_message message (key_of_message other)) (Some top) (old (key_of_message other)) → number_or_zero new ≡ max (number_or_zero (old (key_of_message other))) (if same_token token other then place else 0)
raised_message token other message place top old new n t e =
    ap number_or_zero e ∙ of_cond _ top (old (key_of_message other)) ∙
    raised (same_message message (key_of_message other)) top place (number_or_zero (old message)) (number_or_zero (old (key_of_message other))) t (λ s. ap (λ (k : MessageKey). number_or_zero (old k)) (message_is message (key_of_message other) s)) ∙
    ap (λ (b : Bool). max (number_or_zero (old (key_of_message other))) (if b then place else 0)) (ap (λ (k : MessageKey). same_message k (key_of_message other)) n ∙ token_is token other)
