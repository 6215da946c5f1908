-- What an iterator over avails has left.
use Rattle.std.specs.Prelude.{ℕ, List}
use Rattle.scte35_codec.specs.declared.descriptors.Avails.{Avails}
use Rattle.scte35_codec.specs.Descriptors.{descriptors_of, avails_of}

-- the provider_avail_ids that are still to come
unfoldable pub avails_left : Avails → List ℕ
avails_left a = avails_of (descriptors_of a.bytes.now).0
