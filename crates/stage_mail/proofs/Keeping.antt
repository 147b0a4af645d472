-- The lists stay those of the messages that are still to come, whatever becomes of the messages.
use Rattle.std.proofs.Common.{◌≡◌, ℕ, suc, zero, ◌+◌, ◌<◌, ◌≤◌, ◌==◌, ◌&&◌, Bool, true, false, List, [], ◌∷◌, ◌++◌, length, get_or, set, Option, Some, None, arith, refl, ap, sym, ◌∙◌}
use Rattle.std.proofs.lemmas.List.{length-append}
use Rattle.rss_wire.specs.declared.message.Fate.{Fate}
use Rattle.rss_wire.specs.declared.message.Message.{Message}
use Rattle.rss_wire.specs.Messages.{no_message, message_at, is_sent, is_asked, is_pending, meets, envelope_at}
use Rattle.rss_wire.specs.Net.{NetView, deliver_refusal, again_refusal}
use Rattle.rss_wire.proofs.Fates.{deliver_refusal-none, again_refusal-none}
use Rattle.rss_machine.specs.Turns.{is_due, due_message}
use Rattle.stage_mail.specs.Due.{due_numbers, message_zero}
use Rattle.stage_mail.specs.Lists.{DueView, list_at, rises_from, without, first_of}
use Rattle.stage_mail.specs.Kept.{IsKept}
use Rattle.stage_mail.proofs.Dues.{due-added, due-passed, due-taken, due-kept, due-rises, due-none, due-first, IsFirst}
use Rattle.stage_mail.proofs.Places.{at-same, others}
use Rattle.stage_mail.proofs.Taking.{itself, unequal, length-without}

-- what holds at one place, and at each other one, holds at each
at-each : (P : ℕ → Type 0) (place p : ℕ) → P place → ((p ≡ place → ⊥) → P p) → P p
at-each P place p own other = go (p == place) refl
  where
    same : (p == place) ≡ true → p ≡ place
    same e = grind (arith, e)

    apart : (p == place) ≡ false → p ≡ place → ⊥
    apart e q = absurd (let t : true ≡ false = sym (itself p place q) ∙ e in cc)

    go : (b : Bool) → (p == place) ≡ b → P p
    go true e = rw (same e) own
    go false e = other (apart e)

and-false : (b : Bool) → (b && false) ≡ false
and-false true = refl
and-false false = refl

is-due : (n : ℕ) (m : Message) → m.envelope.stage ≡ n → is_pending m.fate ≡ true → is_due n m ≡ true
is-due n m e f = rw (itself m.envelope.stage n e) f

not-due : (n : ℕ) (m : Message) → (m.envelope.stage ≡ n → ⊥) → is_due n m ≡ false
not-due n m e = rw (unequal m.envelope.stage n e) refl

over : (n : ℕ) (m : Message) → is_pending m.fate ≡ false → is_due n m ≡ false
over n m f = rw f (and-false (m.envelope.stage == n))

zero-more : (ms : List Message) (m : Message) → message_zero ms ≡ Some no_message → message_zero (ms ++ m ∷ []) ≡ Some no_message
zero-more [] m h = absurd (let t : ◌≡◌ {A = Option Message} None (Some no_message) = h in cc)
zero-more (x ∷ ms) m h = h

zero-set : (ms : List Message) (i : ℕ) (m : Message) → 0 < i → message_zero ms ≡ Some no_message → message_zero (set ms i m) ≡ Some no_message
zero-set [] i m l h = h
zero-set (x ∷ ms) zero m l h = absurd (omega (arith, l))
zero-set (x ∷ ms) (suc i) m l h = h

-- a message that is sent joins the list of its stage
pub sent-kept : (net new : NetView) (due next : List DueView) (m : Message) (place number : ℕ)
    → IsKept net due
    → new.messages ≡ net.messages ++ m ∷ []
    → new.room + 1 ≡ net.room
    → number ≡ length net.messages
    → is_pending m.fate ≡ true
    → place + 1 ≡ m.envelope.stage
    → next ≡ set due place (list_at next place)
    → (list_at next place).numbers ≡ (list_at due place).numbers ++ number ∷ []
    → (list_at due place).capacity ≤ (list_at next place).capacity
    → IsKept new next
sent-kept net new due next m place number k sent room at fate stage own added memory = record {
  begins = ap message_zero sent ∙ zero-more net.messages m k.begins;
  listed = λ p. at-each (λ (p : ℕ). p < 16 → (list_at next p).numbers ≡ due_numbers (suc p) new.messages) place p mine (theirs p);
  fits = record { fits = λ p. at-each (λ (p : ℕ). p < 16 → length (list_at next p).numbers + new.room ≤ (list_at next p).capacity) place p my-room (their-room p) };
}
  where
    mine : place < 16 → (list_at next place).numbers ≡ due_numbers (suc place) new.messages
    mine l =
        added
        ∙ ap (λ (xs : List ℕ). xs ++ number ∷ []) (k.listed place l)
        ∙ ap (λ (x : ℕ). due_numbers (suc place) net.messages ++ x ∷ []) (let e : number ≡ 0 + length net.messages = omega (arith, at) in e)
        ∙ sym (due-added (suc place) 0 net.messages m (is-due (suc place) m (omega (arith, stage)) fate))
        ∙ ap (due_numbers (suc place)) (sym sent)

    theirs : (p : ℕ) → (p ≡ place → ⊥) → p < 16 → (list_at next p).numbers ≡ due_numbers (suc p) new.messages
    theirs p n l =
        ap (λ (d : DueView). d.numbers) (others due next place p own n)
        ∙ k.listed p l
        ∙ sym (due-passed (suc p) 0 net.messages m (not-due (suc p) m (λ e. n (omega (arith, stage, e)))))
        ∙ ap (due_numbers (suc p)) (sym sent)

    my-room : place < 16 → length (list_at next place).numbers + new.room ≤ (list_at next place).capacity
    my-room l = rw added (simp length-append (omega (arith, k.fits.fits place l, room, memory)))

    their-room : (p : ℕ) → (p ≡ place → ⊥) → p < 16 → length (list_at next p).numbers + new.room ≤ (list_at next p).capacity
    their-room p n l = rw (others due next place p own n) (omega (arith, k.fits.fits p l, room))

sent-within : (ms : List Message) (m : ℕ) → is_sent ms m ≡ true → (0 < m) × (m < length ms)
sent-within ms m h = (grind (arith, h), grind (arith, h))

refusal-sent : (ms : List Message) (m : ℕ) → deliver_refusal ms m ≡ None → is_sent ms m ≡ true
refusal-sent ms m h = go (is_sent ms m) refl
  where
    go : (b : Bool) → is_sent ms m ≡ b → is_sent ms m ≡ true
    go true e = e
    go false e = grind (arith, e, h)

again-sent : (ms : List Message) (m : ℕ) → again_refusal ms m ≡ None → is_sent ms m ≡ true
again-sent ms m h = go (is_sent ms m) refl
  where
    go : (b : Bool) → is_sent ms m ≡ b → is_sent ms m ≡ true
    go true e = e
    go false e = grind (arith, e, h)

length-met : (ms : List Message) (i : ℕ) (m : Message) → length (set ms i m) ≡ length ms
length-met [] i m = refl
length-met (x ∷ ms) zero m = refl
length-met (x ∷ ms) (suc i) m = ap suc (length-met ms i m)

-- a message that could be delivered is there when it has met its fate
pub met-sent : (old new : List Message) (m : ℕ) (f : Fate) → deliver_refusal old m ≡ None → new ≡ meets old m f → is_sent new m ≡ true
met-sent old new m f h e = rw (e, length-met old m (record (message_at old m) { fate = f })) (refusal-sent old m h)

-- the numbers of a list ascend
pub list-rises : (net : NetView) (due : List DueView) (place : ℕ) → IsKept net due → place < 16 → rises_from 0 (list_at due place).numbers ≡ true
list-rises net due place k l = rw (k.listed place l) (due-rises (suc place) 0 0 net.messages (omega arith))

-- a message that is delivered or lost leaves the list of its stage
pub taken-kept : (net new : NetView) (due next : List DueView) (m : ℕ) (f : Fate) (place : ℕ)
    → IsKept net due
    → is_pending f ≡ false
    → deliver_refusal net.messages m ≡ None
    → new.messages ≡ meets net.messages m f
    → new.room ≡ net.room
    → place + 1 ≡ (message_at new.messages m).envelope.stage
    → next ≡ set due place (list_at next place)
    → (list_at next place).numbers ≡ without m (list_at due place).numbers
    → (list_at due place).capacity ≤ (list_at next place).capacity
    → IsKept new next
taken-kept net new due next m f place k over-now refusal met room stage own left memory = record {
  begins = ap message_zero met ∙ zero-set net.messages m (record (message_at net.messages m) { fate = f }) (sent-within net.messages m sent).0 k.begins;
  listed = λ p. at-each (λ (p : ℕ). p < 16 → (list_at next p).numbers ≡ due_numbers (suc p) new.messages) place p mine (theirs p);
  fits = record { fits = λ p. at-each (λ (p : ℕ). p < 16 → length (list_at next p).numbers + new.room ≤ (list_at next p).capacity) place p my-room (their-room p) };
}
  where
    sent : is_sent net.messages m ≡ true
    sent = refusal-sent net.messages m refusal

    same-stage : place + 1 ≡ (message_at net.messages m).envelope.stage
    same-stage = stage ∙ ap (λ (ms : List Message). (message_at ms m).envelope.stage) met ∙ ap (λ (x : Message). x.envelope.stage) (at-same net.messages m (record (message_at net.messages m) { fate = f }) no_message (sent-within net.messages m sent).1)

    mine : place < 16 → (list_at next place).numbers ≡ due_numbers (suc place) new.messages
    mine l =
        left
        ∙ ap (without m) (k.listed place l)
        ∙ ap (λ (x : ℕ). without x (due_numbers (suc place) net.messages)) (let e : m ≡ 0 + m = omega arith in e)
        ∙ sym (due-taken (suc place) 0 net.messages m (record (message_at net.messages m) { fate = f }) no_message (sent-within net.messages m sent).1
        (is-due (suc place) (message_at net.messages m) (omega (arith, same-stage)) (deliver_refusal-none net.messages m refusal))
        (over (suc place) (record (message_at net.messages m) { fate = f }) over-now))
        ∙ ap (due_numbers (suc place)) (sym met)

    theirs : (p : ℕ) → (p ≡ place → ⊥) → p < 16 → (list_at next p).numbers ≡ due_numbers (suc p) new.messages
    theirs p n l =
        ap (λ (d : DueView). d.numbers) (others due next place p own n)
        ∙ k.listed p l
        ∙ sym (due-kept (suc p) 0 net.messages m (record (message_at net.messages m) { fate = f }) no_message
        (not-due (suc p) (message_at net.messages m) (λ e. n (omega (arith, same-stage, e))) ∙ sym (over (suc p) (record (message_at net.messages m) { fate = f }) over-now)))
        ∙ ap (due_numbers (suc p)) (sym met)

    my-room : place < 16 → length (list_at next place).numbers + new.room ≤ (list_at next place).capacity
    my-room l = rw left (omega (arith, length-without m (list_at due place).numbers, k.fits.fits place l, room, memory))

    their-room : (p : ℕ) → (p ≡ place → ⊥) → p < 16 → length (list_at next p).numbers + new.room ≤ (list_at next p).capacity
    their-room p n l = rw (others due next place p own n) (omega (arith, k.fits.fits p l, room))

-- a message that is repeated is in no list, and joins none
pub repeated-kept : (net new : NetView) (due : List DueView) (m : ℕ) (f : Fate)
    → IsKept net due
    → is_pending f ≡ false
    → again_refusal net.messages m ≡ None
    → new.messages ≡ meets net.messages m f
    → new.room ≡ net.room
    → IsKept new due
repeated-kept net new due m f k over-now refusal met room = record {
  begins = ap message_zero met ∙ zero-set net.messages m (record (message_at net.messages m) { fate = f }) (sent-within net.messages m (again-sent net.messages m refusal)).0 k.begins;
  listed = λ p l. k.listed p l
      ∙ sym (due-kept (suc p) 0 net.messages m (record (message_at net.messages m) { fate = f }) no_message
      (over (suc p) (message_at net.messages m) (again_refusal-none net.messages m refusal) ∙ sym (over (suc p) (record (message_at net.messages m) { fate = f }) over-now)))
      ∙ ap (due_numbers (suc p)) (sym met);
  fits = record { fits = λ p l. rw room (k.fits.fits p l) };
}

-- what was asked was sent
pub asked-sent : (ms : List Message) (x : ℕ) → message_zero ms ≡ Some no_message → is_asked ms x ≡ true → is_sent ms x ≡ true
asked-sent [] x z h = absurd (let t : ◌≡◌ {A = Option Message} None (Some no_message) = z in cc)
asked-sent (m ∷ ms) zero z h = absurd (let t : ◌≡◌ {A = Option Message} (Some m) (Some no_message) = z in let same : m ≡ no_message = cc in let r : false ≡ true = sym (ap (λ (y : Message). y.envelope.request) same) ∙ h in cc)
asked-sent (m ∷ ms) (suc x) z h = let l = asked-within ms x h in grind (arith, l)
  where
    asked-within : (ms : List Message) (x : ℕ) → (get_or ms x no_message).envelope.request ≡ true → x < length ms
    asked-within [] x h = absurd (let r : false ≡ true = h in cc)
    asked-within (m ∷ ms) zero h = omega arith
    asked-within (m ∷ ms) (suc x) h = omega (arith, asked-within ms x h)

-- the first of a stage's list is the first of its messages that are still to come
pub first-due : (net : NetView) (due : List DueView) (place n number : ℕ) → IsKept net due → place < 16 → place + 1 ≡ n → first_of (list_at due place).numbers ≡ Some number → envelope_at net.messages number ≡ due_message n net.messages
first-due net due place n number k l s h =
    let e : suc place ≡ n = omega (arith, s) in
    let f : IsFirst n number 0 net.messages no_message = due-first n number 0 net.messages no_message (ap (λ (x : ℕ). first_of (due_numbers x net.messages)) (sym e) ∙ ap first_of (sym (k.listed place l)) ∙ h) in
    let same : number ≡ f.place = omega (arith, f.at_place) in
    let sent : is_sent net.messages f.place ≡ true = due-sent net.messages f.place k.begins f.within f.is_due in
    rw (same, sent) (sym f.first)
  where
    due-sent : (ms : List Message) (x : ℕ) → message_zero ms ≡ Some no_message → x < length ms → is_due n (get_or ms x no_message) ≡ true → is_sent ms x ≡ true
    due-sent [] x z l h = absurd (omega (arith, l))
    due-sent (m ∷ ms) zero z l h = absurd (let t : ◌≡◌ {A = Option Message} (Some m) (Some no_message) = z in let same : m ≡ no_message = cc in let r : false ≡ true = sym (over n m (ap (λ (y : Message). is_pending y.fate) same)) ∙ h in cc)
    due-sent (m ∷ ms) (suc x) z l h = grind (arith, l)

-- where a stage's list is empty, none of its messages is still to come
pub none-due : (net : NetView) (due : List DueView) (place n : ℕ) → IsKept net due → place < 16 → place + 1 ≡ n → first_of (list_at due place).numbers ≡ None → due_message n net.messages ≡ None
none-due net due place n k l s h =
    let e : suc place ≡ n = omega (arith, s) in
    due-none n 0 net.messages (ap (λ (x : ℕ). first_of (due_numbers x net.messages)) (sym e) ∙ ap first_of (sym (k.listed place l)) ∙ h)
