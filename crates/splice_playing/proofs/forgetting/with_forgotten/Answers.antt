use Rattle.std.proofs.Common.{◌≤◌, subst, length}
use Rattle.ad_library.specs.Library.{held}
use Rattle.splice_plans.specs.Adverts.{adverts_of}
use Rattle.splice_plans.specs.Reporting.{ReportIs, with_counted, is_out_at}
use Rattle.splice_playing.proofs.ReportLemmas.{all-pairs}
use Rattle.splice_playing.proofs.forgetting.with_forgotten.Goals as goal

pub loop-at-preserved : goal.loop-at-preserved
loop-at-preserved c = λ latest later es counts s can is before.
    c.with_one_forgotten-counted.ensures latest later es counts s can is (c.loop-at.invariant latest later es counts s can is before)

pub returns : goal.returns
returns c = λ latest later es counts s can is before.
    let t = c.args.table.now in
    subst (λ xs. ReportIs c.loop-at.counted (with_counted (is_out_at later) (adverts_of (held c.args.library.now) c.args.streams.now) xs counts))
    (all-pairs t latest es s c.loop-at.at (subst (λ xs. length xs ≤ c.loop-at.at) c.standing-at-end.ensures.entries c.loop-at-test.false))
    (c.loop-at.invariant latest later es counts s can is before)
