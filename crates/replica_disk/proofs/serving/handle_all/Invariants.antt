use Rattle.std.proofs.Common.{◌≡◌, ℕ, length, take}
use Rattle.replica_disk.specs.Memory.{is_loose, stops_met}
use Rattle.replica_disk.specs.Registers.{IsSettled, gates_of}
use Rattle.replica_disk.specs.Accepts.{after_all, requests_cost, times_after_all}
use Rattle.replica_disk.specs.Serving.{GoesOn}
use Rattle.replica_disk.proofs.serving.handle_all.Given as goal

-- the front was handled
abbrev pub invariant-loop-request : goal.invariant-loop-request
invariant-loop-request l =
    let start = l.fn.replica.held.items in
    let gates = gates_of l.fn.replica.disk.bytes l.fn.registers in
    let front = take l.request-index l.requests in
    record {
      held : l.replica.held.items ≡ after_all start front;
      settled : IsSettled l.replica.disk.bytes (is_loose l.replica.disk.loose) l.replica.held.items;
      registers : length l.replica.held.items ≡ l.fn.registers;
      goes_on : GoesOn l.fn.replica.disk l.replica.disk (requests_cost start gates front);
      times : stops_met l.replica.disk ≡ 0 → gates_of l.replica.disk.bytes l.fn.registers ≡ times_after_all start gates front;
    }
