-- Whether an advertisement fits a break, and if not why.
use Rattle.std.specs.Prelude.{◌≡◌, ℕ, List, [], ◌∷◌, ◌++◌, true, false, Option, None, Some}
use Rattle.psi_tables.specs.declared.stream.Stream.{Stream}
use Rattle.ad_library.specs.Advertisements.{AdvertUnit, Advertisement, count_of_kind}
use Rattle.ad_library.specs.Library.{fits_held, slice_held}
use Rattle.break_plans.specs.declared.fits.Fit.{Fit}
use Rattle.break_plans.specs.declared.fits.Fit.TheVariants.{Fits, Missing, NoStream, Short}

abbrev pub why_from : Stream → Option (List AdvertUnit) → Fit
why_from s None = NoStream s
why_from s (Some us) = Short s

-- why it does not fit a stream behind these: it has no stream for it, or one that is too short
abbrev pub why_not : Option Advertisement → List Stream → Stream → ℕ → Fit
why_not ad before s length = why_from s (slice_held ad s.kind (count_of_kind s.kind before) length)

-- it fits the streams before one, and not with that
pub record FailsAt (ad : Option Advertisement) (streams : List Stream) (length : ℕ) (s : Stream) (fit : Fit) : Type 0 where
  pub before : List Stream
  pub behind : List Stream
  pub parts : streams ≡ before ++ s ∷ behind
  pub fits : fits_held ad before length ≡ true
  pub fails : fits_held ad (before ++ s ∷ []) length ≡ false
  pub why : fit ≡ why_not ad before s length

-- HOW the advertisement that is listed under a number fits streams for so many ticks
abbrev pub IsFit : Option Advertisement → List Stream → ℕ → Fit → Type 0
IsFit ad streams length Fits = fits_held ad streams length ≡ true
IsFit ad streams length Missing = ad ≡ None
IsFit ad streams length (NoStream s) = FailsAt ad streams length s (NoStream s)
IsFit ad streams length (Short s) = FailsAt ad streams length s (Short s)
