-- Samples of the tables, each computed: the register r is written with 5 by call 1 and read by call 2.
use Rattle.std.specs.Prelude.{◌≡◌, Bool, false, List, [], ◌∷◌, length, replicate, Some, refl}
use Rattle.rss_names.specs.declared.service.Key.{Key}
use Rattle.rss_names.specs.declared.service.ServiceId.TheVariants.{Reg}
use Rattle.rss_wire.specs.declared.messages.RegReply.{RegReply}
use Rattle.rss_wire.specs.declared.messages.Request.TheVariants as request
use Rattle.rss_wire.specs.declared.messages.Reply.TheVariants as reply
use Rattle.rss_tables.specs.ReplicaRow.{opening_cell, replica_after, replica_reply}
use Rattle.rss_tables.specs.Round.{majority, spare}
use Rattle.rss_tables.specs.RegisterSession.{RegSession, opening_session, session_after, session_sends, phase_end}
use Rattle.rss_tables.specs.declared.register_session.RegWork.TheVariants as work
use Rattle.rss_tables.specs.declared.register_session.RegEnd.TheVariants as ends
use Rattle.rss_tables.specs.declared.register_session.RegPhase.TheVariants.{Stamping, Storing}

abbrev r : Key
r = record { service = Reg 1; index = 0 }

abbrev five : RegReply
five = record { value = 5; stamp = record { number = 1; call = 1 }; writer = 1 }

abbrev nobody_cut : List Bool
nobody_cut = replicate 7 false

-- a store is accepted, and shown to who asks
stored-shown : replica_reply (replica_after (opening_cell ∷ []) (request.Store r 5 five.stamp 1)) (request.Ask r) ≡ reply.Held 5 five.stamp 1
unfolding replica_after replica_reply
stored-shown = refl

-- a smaller stamp is not accepted
smaller-refused : replica_after (five ∷ []) (request.Store r 6 (record { number = 1; call = 0 }) 7) ≡ five ∷ []
unfolding replica_after
smaller-refused = refl

-- a majority of three, five and seven
majority-three : majority 3 ≡ 2
majority-three = refl

majority-five : majority 5 ≡ 3
majority-five = refl

majority-seven : majority 7 ≡ 4
majority-seven = refl

spare-seven : spare 7 ≡ 3
spare-seven = refl

abbrev write : RegSession
write = opening_session 1 (work.Write r 5) (Reg 1) 3 nobody_cut

abbrev once_heard : RegSession
once_heard = session_after write 1 (reply.Held 0 (record { number = 0; call = 0 }) 0)

-- one reply of three is no majority
one-of-three : once_heard.phase ≡ Stamping
one-of-three = refl

-- with the second reply the write takes the next stamp, and stores at all three
two-of-three : (session_after once_heard 3 (reply.Held 9 (record { number = 3; call = 9 }) 9)).phase ≡ Storing record { number = 4; call = 1 }
two-of-three = refl

stores-at-three : length (session_sends once_heard 3 (reply.Held 9 (record { number = 3; call = 9 }) 9)) ≡ 3
stores-at-three = refl

-- a read answers the greatest stamp of its majority
abbrev read : RegSession
read = opening_session 2 (work.Read r) (Reg 1) 3 nobody_cut

read-greatest : phase_end (session_after (session_after read 1 reply.Stored) 2 (reply.Held 5 five.stamp 1)).phase ≡ Some (ends.Read five (Some record { key = r; value = 5; stamp = five.stamp; writer = 1 }))
read-greatest = refl
