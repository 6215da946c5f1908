-- The streams of an advertisement count from one zero.
use Rattle.std.specs.Prelude.{ℕ, Bool, ◌==◌}
use Rattle.ad_library.specs.declared.ad_stream.AdStream.{AdStream}

abbrev pub has_zero : {A : Type 0} → ℕ → AdStream A → Bool
has_zero zero' s = s.zero == zero'
