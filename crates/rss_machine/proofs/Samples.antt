-- Samples of the machine besides its reports, and of the clock and the drivers, each computed.
use Rattle.std.specs.Prelude.{◌≡◌, true, false, [], ◌∷◌, length, Some, None, refl}
use Rattle.std.specs.Option.{option_map}
use Rattle.std.specs.Fmt.{digits}
use Rattle.rss_names.specs.declared.service.Key.{Key}
use Rattle.rss_names.specs.declared.service.ServiceId.TheVariants.{Reg}
use Rattle.rss_names.specs.declared.service.Target.TheVariants.{Shard}
use Rattle.carstamps.specs.declared.carstamp.Carstamp.{Carstamp}
use Rattle.rss_model.specs.Cursor.{statements_to_end}
use Rattle.rss_model.specs.Walk.{all_zero}
use Rattle.rss_tables.specs.ReplicaRow.{replica_after, replica_reply}
use Rattle.rss_tables.specs.ShardRow.{shard_after, shard_reply}
use Rattle.rss_machine.specs.Budget.{budget}
use Rattle.rss_machine.specs.Drivers.{driver_steps, killed_instead, asks_kill, asks_fate, takes_reading}
use Rattle.rss_machine.specs.Effect.{effect}
use Rattle.rss_machine.specs.Generated.{generated_addend, generated_file}
use Rattle.rss_machine.specs.Places.{key_lt}
use Rattle.rss_machine.specs.Refusal.{refusal}
use Rattle.rss_machine.proofs.RowsPolicy.{kill_by_the_file_file}
use Rattle.rss_machine.proofs.SampleFiles.{write_then_read}
use Rattle.rss_machine.proofs.RowsRegister.{smallest_steps, place_is_not_call_number_file, place_is_not_call_number_steps}
use Rattle.rss_machine.proofs.RowsWithheld.{tries_two_lost_file, tries_three_lost_file, quorum_two_withheld_file, quorum_three_withheld_file}
use Rattle.rss_machine.specs.Run.{run, run_from}
use Rattle.rss_machine.specs.Serial.{serial_clock, ticked, passed, turn_step, serial, serial_from, strays, strays_from}
use Rattle.rss_machine.specs.Times.{step_of_time, step_of_stamp, marked_step, first_held}
use Rattle.rss_machine.specs.Withheld.{is_target_withheld, is_quorum_withheld, lost_from}
use Rattle.rss_machine.specs.declared.place.PlacePart.TheVariants as part
use Rattle.rss_machine.specs.declared.step.StepKind.TheVariants.{Act, Go, Again, Kill}
use Rattle.rss_machine.specs.declared.turn.Fate.TheVariants as fate
use Rattle.rss_machine.specs.declared.turn.Turn.TheVariants as turn

abbrev r : Key
r = record { service = Reg 1; index = 0 }

abbrev first_stamp : Carstamp
first_stamp = record { number = 1; call = 1 }

-- the stamp of the write is first held by a majority after step 9, by the list of steps and by the marks
stamp-step : step_of_stamp write_then_read smallest_steps r first_stamp ≡ 9
unfolding first_held effect replica_after replica_reply all_zero
stamp-step = refl

marked-step : option_map (λ s. marked_step s r first_stamp) (run write_then_read smallest_steps) ≡ Some 9
unfolding run run_from refusal effect replica_after replica_reply all_zero
marked-step = refl

-- the true moment is above 44 first in step 5, above 50 in step 6, and above 210 never
time-step : option_map (λ s. step_of_time s 44) (run write_then_read smallest_steps) ≡ Some 5
unfolding run run_from refusal effect replica_after replica_reply all_zero
time-step = refl

time-of-a-reading : option_map (λ s. step_of_time s 50) (run write_then_read smallest_steps) ≡ Some 6
unfolding run run_from refusal effect replica_after replica_reply all_zero
time-of-a-reading = refl

time-to-come : option_map (λ s. step_of_time s 210) (run write_then_read smallest_steps) ≡ Some 22
unfolding run run_from refusal effect replica_after replica_reply all_zero
time-to-come = refl

-- at one step transactions stand before register calls, and those that write before those that read
txn-first : key_lt (record { step = 7; part = part.Txn 99 true 9 }) (record { step = 7; part = part.Register 0 first_stamp false 1 }) ≡ true
txn-first = refl

writer-first : key_lt (record { step = 7; part = part.Txn 50 false 9 }) (record { step = 7; part = part.Txn 50 true 2 }) ≡ true
writer-first = refl

-- three withheld messages withhold a shard, and two do not
three-withhold : is_target_withheld tries_three_lost_file (serial tries_three_lost_file) 1 (Shard 1) ≡ true
unfolding lost_from serial_from effect shard_after shard_reply statements_to_end all_zero
three-withhold = refl

two-do-not : is_target_withheld tries_two_lost_file (serial tries_two_lost_file) 1 (Shard 1) ≡ false
unfolding lost_from serial_from effect shard_after shard_reply statements_to_end all_zero
two-do-not = refl

-- three replicas of five withhold a quorum, and two do not
three-of-five : is_quorum_withheld quorum_three_withheld_file (serial quorum_three_withheld_file) 1 (Reg 1) ≡ true
unfolding lost_from serial_from effect replica_after replica_reply statements_to_end all_zero
three-of-five = refl

two-of-five : is_quorum_withheld quorum_two_withheld_file (serial quorum_two_withheld_file) 1 (Reg 1) ≡ false
unfolding lost_from serial_from effect replica_after replica_reply statements_to_end all_zero
two-of-five = refl

-- the steps of the policy are turns, also where the file kills; messages and acts out of their turn are astray
policy-strays : strays kill_by_the_file_file (serial kill_by_the_file_file) ≡ 0
unfolding strays_from serial_from effect replica_after replica_reply statements_to_end all_zero
policy-strays = refl

some-strays : strays place_is_not_call_number_file place_is_not_call_number_steps ≡ 14
unfolding strays_from effect replica_after replica_reply statements_to_end all_zero
some-strays = refl

-- the clock goes on as long as its reading ends below 2^62, and passes a time as long as that does
clock-goes-on : ticked (record { now = 4611686018427387888; tick = 10; half = 5 }) ≡ record { now = 4611686018427387898; tick = 10; half = 5 }
clock-goes-on = refl

clock-stops : ticked (record { now = 4611686018427387889; tick = 10; half = 5 }) ≡ record { now = 4611686018427387889; tick = 10; half = 5 }
clock-stops = refl

clock-passes : passed serial_clock 4611686018427387892 ≡ Some (record { now = 4611686018427387898; tick = 10; half = 5 })
clock-passes = refl

clock-cannot-pass : passed serial_clock 4611686018427387893 ≡ None
clock-cannot-pass = refl

-- and where it cannot, the policy makes no step
no-step-past-the-end : turn_step serial_clock (turn.Past (Act 1) 4611686018427387893) ≡ None
no-step-past-the-end = refl

-- a kill of the fates waits for no time, and a repeat follows its delivery
kill-at-once : killed_instead (turn.Past (Act 2) 70) true ≡ turn.Step (Kill 2)
kill-at-once = refl

repeated : driver_steps (turn.Step (Go 5)) 2 fate.Again true ≡ Go 5 ∷ Again 5 ∷ []
repeated = refl

no-room-for-two : driver_steps (turn.Step (Go 5)) 1 fate.Lose true ≡ Go 5 ∷ []
no-room-for-two = refl

-- a full log makes no step and asks nobody, and with room for one step no fate is asked
full-log : driver_steps (turn.Step (Go 5)) 0 fate.Again true ≡ []
full-log = refl

full-log-waits : driver_steps (killed_instead (turn.Past (Act 2) 70) true) 0 fate.Deliver true ≡ []
full-log-waits = refl

nobody-asked : asks_kill (turn.Step (Act 2)) 0 ∷ asks_fate (turn.Step (Go 5)) 0 ∷ takes_reading (turn.Step (Go 5)) 0 ∷ asks_fate (turn.Step (Go 5)) 1 ∷ [] ≡ false ∷ false ∷ false ∷ false ∷ []
nobody-asked = refl

all-asked : asks_kill (turn.Past (Act 2) 70) 1 ∷ asks_fate (turn.Step (Go 5)) 2 ∷ takes_reading (turn.Past (Act 2) 70) 1 ∷ [] ≡ true ∷ true ∷ true ∷ []
all-asked = refl

-- the budget: of a script of two statements over three replicas, and of one statement over a shard of
-- which three requests are withheld
budget-smallest : budget write_then_read ≡ 212
budget-smallest = refl

budget-withheld : budget tries_three_lost_file ≡ 236
budget-withheld = refl

-- the generated file
addend-500 : generated_addend 500 ≡ 958
addend-500 = refl

addend-1 : generated_addend 1 ≡ 591
addend-1 = refl

generated-length : length (generated_file 1) ≡ 451
unfolding digits
generated-length = refl
