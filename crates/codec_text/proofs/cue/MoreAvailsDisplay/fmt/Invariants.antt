use Rattle.std.proofs.Common.{◌≡◌, ℕ, List, ◌++◌}
use Rattle.std.specs.Fmt.{HasWritten, IsPlainFormatter}
use Rattle.scte35_codec.specs.AvailsLeft.{avails_left}
use Rattle.codec_text.specs.Texts.{more_avails_text}
use Rattle.codec_text.proofs.cue.MoreAvailsDisplay.fmt.Given as goal

abbrev pub invariant-loop-avail : goal.invariant-loop-avail
invariant-loop-avail g l =
    IsPlainFormatter l.initial.f → (done : List ℕ) × HasWritten g.W.Write.write_str_gives l.initial.f done l.f
    × (done ++ more_avails_text (avails_left l.avail-iterator) ≡ more_avails_text (avails_left l.fn.self.0))
