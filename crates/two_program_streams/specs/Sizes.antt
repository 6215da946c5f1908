-- How many bytes a stream comes to.
use Rattle.std.specs.Prelude.{ℕ, List}
use Rattle.std.specs.List.{sum_by}
use Rattle.two_program_streams.specs.declared.stream.Item.{Item}
use Rattle.two_program_streams.specs.declared.stream.Item.TheVariants.{FromZero}

-- counters that begin again are no packet; all else is one, of 188 bytes (ISO/IEC 13818-1, 2.4.3.2)
abbrev pub item_size : Item → ℕ
item_size (FromZero pid) = 0
item_size _ = 188

-- all of them together
abbrev pub size_of : List Item → ℕ
size_of items = sum_by item_size items
