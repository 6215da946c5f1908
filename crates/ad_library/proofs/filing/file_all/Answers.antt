use Rattle.std.proofs.Common.{◌∙◌, ap, map, arith, length}
use Rattle.std.proofs.lemmas.List.{map-append}
use Rattle.std.specs.List.{list_all}
use Rattle.ad_library.specs.Library.{stream_seen}
use Rattle.ad_library.specs.Zeros.{has_zero}
use Rattle.ad_library.proofs.FiledLemmas.{begin_behind, begin_filed, first_behind, one_filed, all_filed, none_left, one_less, one_same}
use Rattle.ad_library.proofs.filing.file_all.Goals as goal

pub loop-stream-init : goal.loop-stream-init
loop-stream-init g c =
    let (ks, s, e) = c.requires in
    let all = c.into_iter-stream-iterator.ensures.into_iter_gives in
    record {
      next = tt;
      finite = tt;
      size = let n = all.1 in let l = ap length all.0 in let k = c.args.gathered.ok.0 in omega (arith, n, l, k);
      same = ap (list_all (has_zero c.args.zero)) c.new-streams.ensures.items;
      some = begin_behind _ _ c.args.zero ks all.0 s e;
      done = λ ls t f. begin_filed _ _ _ c.args.zero ls (ap (map stream_seen) c.new-streams.ensures.items) all.0 t f;
    }

pub file-requires : goal.file-requires
file-requires g c =
    let (first, rest) = first_behind _ _ c.in-Some.stream c.args.zero c.in-Some.ensures.steps.0 c.loop-stream.invariant.some in
    (first.units, first.stored, first.past)

pub loop-stream-preserved : goal.loop-stream-preserved
loop-stream-preserved g c =
    let (first, rest) = first_behind _ _ c.in-Some.stream c.args.zero c.in-Some.ensures.steps.0 c.loop-stream.invariant.some in
    record {
      next = tt;
      finite = tt;
      size = one_less _ _ c.in-Some.stream _ _ c.in-Some.ensures.steps.0 c.loop-stream.invariant.size c.in-Some.ensures.steps.1;
      same = one_same c.args.zero _ _ c.file.result c.loop-stream.invariant.same c.file.ensures.zero c.in_ok-push.ensures.items;
      some = rest;
      done = λ ks s e. one_filed _ _ c.in-Some.stream c.args.zero _ _ (stream_seen c.file.result) ks c.in-Some.ensures.steps.0 (c.loop-stream.invariant.done ks s e) c.file.ensures.units
          (ap (map stream_seen) c.in_ok-push.ensures.items ∙ map-append stream_seen _ _);
    }

pub returns-clause-streams : goal.returns-clause-streams
returns-clause-streams g c = λ ks s e. all_filed _ c.args.zero _ ks (none_left _ _ c.loop-stream.invariant.size c.in-None.ensures.steps.0) (c.loop-stream.invariant.done ks s e)
