-- An index of a history: its calls and the messages that were given, by number.
use Rattle.std.specs.Prelude.{◌≡◌, ℕ, suc, Bool, true, false, ◌&&◌, ◌==◌, cond, if◌then◌else◌, List, [], ◌∷◌, Option, Some, None, nat_eq}
use Rattle.indexmap.specs.IndexMap.{get}
use Rattle.indexmap.specs.IndexSet.{contains}
use Rattle.rss_model.specs.declared.history.Entry.{Entry}
use Rattle.rss_model.specs.declared.history.Entry.TheVariants.{Begin, End, Give, Get, Over}
use Rattle.rss_model.specs.declared.history.Token.{Token}
use Rattle.rss_model.specs.declared.history.Token.TheVariants.{Spawn, Chunk, Exit}
use Rattle.rss_model.specs.History.{begins, ends, has_begun, has_ended}
use Rattle.history_index.specs.Following.{gave}
use Rattle.history_index.specs.declared.index.Begun.{Begun}
use Rattle.history_index.specs.declared.index.HistoryIndex.{HistoryIndex}
use Rattle.history_index.specs.declared.messages.MessageKey.{MessageKey}

-- a message by its kind and its numbers
abbrev pub key_of_message : Token → MessageKey
key_of_message (Spawn stage) = record { kind = 0; of = stage; number = 0 }
key_of_message (Chunk pipe number) = record { kind = 1; of = pipe; number = number }
key_of_message (Exit stage) = record { kind = 2; of = stage; number = 0 }

abbrev pub same_message : MessageKey → MessageKey → Bool
same_message a b = a.kind == b.kind && a.of == b.of && a.number == b.number

-- the place at which a call begins; past the end where none does
unfoldable pub begin_place : List Entry → ℕ → ℕ
begin_place [] call = 0
begin_place (e ∷ h) call = if begins call e then 0 else suc (begin_place h call)

-- the place at which a call ends; past the end where none does
unfoldable pub end_place : List Entry → ℕ → ℕ
end_place [] call = 0
end_place (e ∷ h) call = if ends call e then 0 else suc (end_place h call)

-- the place at which a call ends, if it does
abbrev pub end_of : List Entry → ℕ → Option ℕ
end_of h call = if has_ended h call then Some (end_place h call) else None

-- where a call begins and ends, if it has begun
abbrev pub begun_of : List Entry → ℕ → Option Begun
begun_of h call =
    if has_begun h call
    then Some (record { begin = begin_place h call; end = end_of h call })
    else None

-- what is kept of a call once it has ended
abbrev pub with_end : Option Begun → ℕ → Option Begun
with_end None place = None
with_end (Some begun) place = Some (record { begin = begun.begin; end = Some place })

-- what is kept of a call behind an entry at this place
abbrev pub noted_call : (ℕ → Option Begun) → ℕ → Entry → ℕ → Option Begun
noted_call kept place (Begin c stage op) call =
    cond (nat_eq c call) (Some (record { begin = place; end = None })) (kept call)
noted_call kept place (End c reply) call = cond (nat_eq c call) (with_end (kept c) place) (kept call)
noted_call kept place (Give stage token) call = kept call
noted_call kept place (Get stage token) call = kept call
noted_call kept place (Over stage how) call = kept call

-- whether a message was given behind an entry
abbrev pub noted_message : (MessageKey → Bool) → Entry → MessageKey → Bool
noted_message kept (Begin c stage op) message = kept message
noted_message kept (End c reply) message = kept message
noted_message kept (Give stage token) message =
    cond (same_message (key_of_message token) message) true (kept message)
noted_message kept (Get stage token) message = kept message
noted_message kept (Over stage how) message = kept message

-- an index is that of a history
pub record Indexes (h : List Entry) (index : HistoryIndex) : Type 0 where
  pub calls : (call : ℕ) → get nat_eq index.calls call ≡ begun_of h call
  pub given : (token : Token) → contains same_message index.given (key_of_message token) ≡ gave h token
  -- no call has ended that has not begun
  pub ended : (call : ℕ) → has_begun h call ≡ false → has_ended h call ≡ false

-- what an index is that has one more entry
pub record Notes (old new : HistoryIndex) (place : ℕ) (e : Entry) : Type 0 where
  pub calls : (call : ℕ) → get nat_eq new.calls call ≡ noted_call (get nat_eq old.calls) place e call
  pub messages : (message : MessageKey) →
      contains same_message new.given message ≡ noted_message (contains same_message old.given) e message

-- an index that holds what another one does
pub record IsAlike (old new : HistoryIndex) : Type 0 where
  pub calls : new.calls.entries ≡ old.calls.entries
  pub messages : new.given.keys ≡ old.given.keys
