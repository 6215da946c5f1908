use Rattle.std.proofs.Common.{rules, ◌≡◌, ◌<◌, length, Some, refl, sym, subst}
use Rattle.std.proofs.lemmas.List.{get_or_default}
use Rattle.on_air.specs.Stretches.{as_read, stream_at}
use Rattle.on_air.specs.Marking.{nothing, KeepsOf, StandsSo}
use Rattle.on_air.proofs.MarkLemmas.{of-stream}
use Rattle.on_air.proofs.marks.Marks.judge_standing.Goals as goal

pub returns : goal.returns
returns c = λ purpose past keeps stands is.
    let n = c.in-Streamed.stream in
    let p = c.args.packet.now in
    let so = subst (λ s. StandsSo s purpose p past) c.in-Streamed.is stands in
    let at : stream_at purpose p past ≡ Some n = so.0 in
    let below : n < length c.args.self.now.streams = search rules in
    of-stream c.args.self.now purpose n p past c.args.fault c.take-verdict.new.self _ _ c.take-verdict.result keeps below at is
    (λ mine. c.take-verdict.ensures purpose n past (subst (λ s. KeepsOf s purpose n past) (get_or_default c.args.self.now.streams n nothing c.index-self-stream.result below) mine) at so.1) refl c.is_any-self.ensures
