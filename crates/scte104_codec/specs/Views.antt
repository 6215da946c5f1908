-- What a message that was read shows, without where its bytes lie.
use Rattle.std.specs.Prelude.{Result, Ok, Err}
use Rattle.scte104_codec.specs.declared.message.Message.{Message}
use Rattle.scte104_codec.specs.declared.message.Message.TheVariants.{Init, Alive, Other, Multi}
use Rattle.scte104_codec.specs.declared.message.BadMessage.{BadMessage}
use Rattle.scte104_codec.specs.OperationsLeft.{operations_left}
use Rattle.scte104_codec.specs.Reading.{MessageReading, init, alive, other, multiple, bad}

abbrev pub reading_of : Result Message BadMessage → MessageReading
reading_of (Ok (Init head)) = init head
reading_of (Ok (Alive head body)) = alive head body.now
reading_of (Ok (Other head)) = other head
reading_of (Ok (Multi m)) = multiple (record { head = m.head; version = m.version; cue_version = m.cue_version; time_kind = m.time_kind; operations = operations_left m.operations })
reading_of (Err e) = bad e.multi e.head
