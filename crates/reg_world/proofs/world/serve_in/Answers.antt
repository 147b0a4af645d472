use Rattle.std.proofs.Common.{◌≡◌, ◌≤◌, true, List, [], ap, ◌∙◌, sym, length, arith}
use Rattle.std.proofs.lemmas.List.{get_or_past}
use Rattle.rss_wire.specs.declared.messages.RegReply.{RegReply}
use Rattle.rss_machine.specs.Marks.{raised_by, notes_keys}
use Rattle.rss_machine.specs.State.{service_index}
use Rattle.reg_world.specs.Served.{replicas_in}
use Rattle.reg_world.specs.Rows.{marks_of, rooms_of, have_room_at}
use Rattle.reg_world.proofs.Noting.{nothing-noted}
use Rattle.reg_world.proofs.Rooms.{ready-for}
use Rattle.reg_world.proofs.world.serve_in.Goals as goal

pub returns-then-place-len-clause-notes : goal.returns-then-place-len-clause-notes
returns-then-place-len-clause-notes c =
    let behind : length c.args.services.now.items ≤ service_index c.args.service = omega (arith, c.if-place-len.true, c.len.ensures, c.place_of-place.ensures, c.args.services.now.ok.0) in
    let none : replicas_in c.args.services.now.items c.args.service ≡ [] = get_or_past c.args.services.now.items (service_index c.args.service) [] behind in
    sym (ap (λ (rs : List (List RegReply)). notes_keys rs c.args.step (raised_by c.args.r.now) (marks_of c.args.registers.now.items)) none ∙ nothing-noted c.args.step (raised_by c.args.r.now) (marks_of c.args.registers.now.items))

pub note_request-requires : goal.note_request-requires
note_request-requires c =
    let room = c.requires.room in
    record { ready = ready-for c.index.result.now c.deref_mut.result.now (raised_by c.args.r.now) (rw c.deref_mut.ensures.value room) }
