-- The places of every run are a regular order for its history.
use Rattle.std.proofs.Common.{◌≡◌, true, List, [], Option, Some, None, All, refl}
use Rattle.std.proofs.lemmas.List.Elements.{All-nil}
use Rattle.pipeline_lang.specs.declared.config.Config.{Config}
use Rattle.rss_model.specs.Regular.{Regular}
use Rattle.rss_machine.specs.Places.{places_of, placed_calls, order_in, order_of}
use Rattle.rss_machine.specs.Run.{run, readings_of, history_in, history_of}
use Rattle.rss_machine.specs.State.{State, start}
use Rattle.rss_machine.specs.declared.step.Step.{Step}
use Rattle.world_laws.specs.Laws.{IsOrdered}
use Rattle.world_laws.proofs.Runs.{run_is, run_ends}
use Rattle.world_laws.proofs.Scripts.{scripted_run}
use Rattle.world_laws.proofs.Sound.{ops_served}
use Rattle.world_laws.proofs.ToldLaws.{history_run, dates_run}
use Rattle.reg_laws.proofs.Agree.{agree_run}
use Rattle.reg_laws.proofs.AtDates.{ends_in_time_run}
use Rattle.reg_laws.proofs.Legal.{legal_run, inside_run}
use Rattle.reg_laws.proofs.OwnStamps.{own_stamps_run}
use Rattle.fence_laws.proofs.StepsOf.{times_run}
use Rattle.world_laws.specs.Numbered.{are_numbered}
use Rattle.txn_line_laws.proofs.True.{facts_run}
use Rattle.order_laws.proofs.OnePass.{message_order_told}
use Rattle.world_laws.specs.Shapes.{IsSoundFile}
use Rattle.covering_laws.proofs.Premises.{served_run}
use Rattle.covering_laws.proofs.RunsLaunches.{both_run}
use Rattle.covering_laws.proofs.Told.{runs_tell}
use Rattle.regular_laws.specs.Kept.{OpsKept, CallsKept}
use Rattle.regular_laws.proofs.Keeps.{ops_kept}
use Rattle.regular_laws.proofs.Known.{Known}
use Rattle.regular_laws.proofs.Regular.{regular_places}

kept_run : (c : Config) → OpsKept c → (steps : List Step) (s : State) → run c steps ≡ Some s → CallsKept s
kept_run c h steps s e = record { each = λ o x k. let g = (scripted_run c steps s e).calls o x k in h.each _ g.place g.variables x g.makes }

pub known_run : (c : Config) → IsSoundFile c → (steps : List Step) (s : State) → All IsOrdered (readings_of steps) → are_numbered steps ≡ true → run c steps ≡ Some s → Known c steps s
known_run c file steps s a m e =
    let launches = (both_run c (runs_tell c file) steps s a m e).1 in
    record {
      told = history_run c steps s e;
      dates = dates_run c steps s e;
      agree = agree_run c steps s e;
      stamps = own_stamps_run c steps s file.in_order.names e;
      served = served_run c (ops_served c file) steps s e;
      kept = kept_run c (ops_kept c file.keys file.services) steps s e;
      legal = legal_run c steps s file.in_order e;
      inside = inside_run c steps s file.in_order e;
      ends = ends_in_time_run c steps s file.in_order e;
      txns = facts_run c steps s file.keys a e;
      times = times_run c steps s e;
      finds = λ a b y p k l. let w = (message_order_told s.history a b).0 p in launches.finds b a y k l (record { place = w.0; begun = w.1; behind = w.2 });
    }

pub places_run : (c : Config) → IsSoundFile c → (steps : List Step) (s : State) → All IsOrdered (readings_of steps) → are_numbered steps ≡ true → run c steps ≡ Some s → Regular s.history (placed_calls (places_of s))
places_run c file steps s a m e = regular_places c steps s (known_run c file steps s a m e)

-- over every list of steps; where one of them is refused there is no history
pub orders_run : (c : Config) → IsSoundFile c → (steps : List Step) → All IsOrdered (readings_of steps) → are_numbered steps ≡ true → Regular (history_of c steps) (order_of c steps)
orders_run c file steps a m = by_run (run c steps) refl
  where
    begins : run c [] ≡ Some (start c)
    begins = run_is c [] (start c) (run_ends c (start c))

    by_run : (x : Option State) → run c steps ≡ x → Regular (history_in x) (order_in x)
    by_run None e = places_run c file [] (start c) (All-nil IsOrdered) refl begins
    by_run (Some s) e = places_run c file steps s a m e
