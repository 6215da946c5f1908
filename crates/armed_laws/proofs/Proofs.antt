-- The laws.
use Rattle.armed_laws.specs.Laws.{EventsGrow, EventsSettle, EventsNeverMeet}
use Rattle.armed_laws.proofs.GrowLemmas.{packet-grows, packets-grow}
use Rattle.armed_laws.proofs.MeetLemmas.{none-meet}

pub events_grow : EventsGrow
events_grow = packet-grows

pub events_settle : EventsSettle
events_settle = packets-grow

pub events_never_meet : EventsNeverMeet
events_never_meet = none-meet
