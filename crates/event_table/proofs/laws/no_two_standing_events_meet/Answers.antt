use Rattle.event_table.proofs.EventLemmas.{apart-common}
use Rattle.event_table.proofs.laws.no_two_standing_events_meet.Goals as goal

pub returns : goal.returns
returns g c = λ latest standing stands i j d before below. apart-common _ _ (stands.apart i j d before below)
