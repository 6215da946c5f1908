use Rattle.std.proofs.Common.{◌≡◌, ◌∙◌, ap, sym, List, take, true, arith}
use Rattle.psi_tables.specs.declared.stream.Stream.{Stream}
use Rattle.ad_library.specs.Advertisements.{fits_behind, reaches, stream_at, count_of_kind}
use Rattle.ad_library.specs.Library.{advert_seen}
use Rattle.ad_library.proofs.FitLemmas.{take_more, one_more}
use Rattle.ad_library.proofs.advert.Advert.fits.Goals as goal

pub loop-stream-preserved : goal.loop-stream-preserved
loop-stream-preserved g c =
    let ad = advert_seen c.args.self.now in
    let limit = c.args.limit in
    let streams = c.args.streams.now in
    let done = c.loop-stream.passed in
    let s = c.in-Some.stream.now in
    let e = c.in-Some.ensures.cases.0 in
    let size = c.in-Some.ensures.cases.1 in
    let inv = c.loop-stream.invariant in
    let passed = inv.passed in
    let more = take_more done streams c.in-Some.behind.now s (inv.rest ∙ e) in
    let front = c.split_at.ensures.front in
    let count = c.count_of_kind.ensures ∙ ap (count_of_kind s.kind) front in
    let yes : reaches limit (stream_at ad s.kind (count_of_kind s.kind (take done streams))) ≡ true =
    sym (c.reaches.ensures ∙ ap (λ k. reaches limit (stream_at ad s.kind k)) count) ∙ c.if-not-reaches.false in
    record {
      passed = omega (arith, size, passed);
      rest = more.1;
      fits = ap (λ (ts : List Stream). fits_behind ad limit ts c.in-Some.behind.now) more.0 ∙ one_more ad limit (take done streams) _ c.in-Some.behind.now s e yes ∙ inv.fits;
    }
