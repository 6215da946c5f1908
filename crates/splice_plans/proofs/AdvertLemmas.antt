-- What a library says of an event goes by what never changes of it.
use Rattle.std.proofs.Common.{ap, ◌∙◌, []}
use Rattle.ad_library.specs.Library.{fits_held}
use Rattle.splice_plans.specs.Adverts.{kind_and_place, units_at, LibrariesAreSteady}

pub libraries_are_steady : LibrariesAreSteady
libraries_are_steady filed streams = record {
  fits = λ latest e x b. ap (λ n. fits_held (filed n) streams x.asked) b.program ∙ ap (λ n. fits_held (filed e.program) streams n) b.asked;
  units = λ latest e x b pid.
      ap (λ s. units_at s (filed x.program) (kind_and_place pid [] streams)) b.start ∙ ap (λ n. units_at e.start (filed n) (kind_and_place pid [] streams)) b.program;
}
