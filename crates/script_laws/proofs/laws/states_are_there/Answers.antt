use Rattle.script_laws.proofs.AllStates.{all_first, all_behind}
use Rattle.script_laws.proofs.laws.states_are_there.Goals as goal

pub returns-clause-first : goal.returns-clause-first
returns-clause-first c config h stage = all_first config h stage

pub returns-clause-next : goal.returns-clause-next
returns-clause-next c config h stage n bases next a e =
    all_behind config h stage n bases next a (λ v. (e v).0) (λ v. (e v).1)
