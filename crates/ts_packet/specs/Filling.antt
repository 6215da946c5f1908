-- How many packets bytes take that go on in packets of payload alone, 184 bytes in each (ISO/IEC 13818-1, 2.4.3.2).
use Rattle.std.specs.Prelude.{ℕ, ◌+◌, ◌/◌}

abbrev pub packets_for : ℕ → ℕ
packets_for size = (size + 183) / 184
