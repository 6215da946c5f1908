use Rattle.std.proofs.Common.{ap, length, arith}
use Rattle.std.proofs.lemmas.List.{length-append}
use Rattle.scte35_codec.proofs.SpellingLemmas.{avails_length}
use Rattle.scte35_codec.proofs.cue_out.put_unchecked.Goals as goal

pub returns-in-Start-clause-size : goal.returns-in-Start-clause-size
returns-in-Start-clause-size c =
    let head = simp length-append at (ap length c.put_head.ensures) in
    let event = simp length-append at (ap length c.put_number32.ensures) in
    let flags = simp length-append at (ap length c.put.ensures) in
    let time = simp length-append at (ap length c.put_ticks.ensures) in
    let duration = simp length-append at (ap length c.put_ticks-in-Start.ensures) in
    let program = simp length-append at (ap length c.put_number16.ensures) in
    let numbers = simp length-append at (ap length c.put-in-Start.ensures) in
    let size = simp length-append at (ap length c.put_number16-in-Start.ensures) in
    let loop = simp length-append at (ap length c.put_avails.ensures) in
    let all = avails_length c.as_slice.result.now in
    let few = c.as_slice.ensures.fits in
    omega arith
