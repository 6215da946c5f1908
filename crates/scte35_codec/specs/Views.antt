-- What a cue that was read shows, without where its bytes lie.
use Rattle.std.specs.Prelude.{Result, Ok, Err}
use Rattle.scte35_codec.specs.declared.cue.Cue.{Cue}
use Rattle.scte35_codec.specs.declared.cue.Cue.TheVariants.{Insert, Cancel, Null, Other}
use Rattle.scte35_codec.specs.declared.cue.CueFault.{CueFault}
use Rattle.scte35_codec.specs.AvailsLeft.{avails_left}
use Rattle.scte35_codec.specs.Reading.{CueReading, insert, cancel, null, other, bad}

abbrev pub reading_of : Result Cue CueFault → CueReading
reading_of (Ok (Insert i avails)) = insert i (avails_left avails)
reading_of (Ok (Cancel event)) = cancel event
reading_of (Ok Null) = null
reading_of (Ok Other) = other
reading_of (Err fault) = bad fault
