use Rattle.std.proofs.Common.{refl}
use Rattle.ad_library.proofs.KeepLemmas.{Passed, of_some, is_gathered, there, not_there, got, one_more}
use Rattle.ad_library.proofs.gathering.keep.Goals as goal

pub returns-in-None-get_mut-clause-ok : goal.returns-in-None-get_mut-clause-ok
returns-in-None-get_mut-clause-ok g c = λ one ss past h.
    let t : Passed c.args.high.now c.pass-time.new.high c.args.part.now c.pass-time.result = record { own = c.pass-time.ensures.time; raised_so = c.pass-time.ensures.high; other = c.pass-time.ensures.other } in
    let k = of_some c.args.streams.now c.in-Some.streams c.args.high.now c.args.part.now c.args.index one ss c.args.packet.now past c.in-Some.is h in
    not_there c.in-Some.streams c.args.high.now c.pass-time.new.high c.pass-time.result c.args.part.now c.args.index one ss c.args.packet.now past k t (λ lt. let e = c.in-None-get_mut.ensures.variant.1 lt in absurd (cc))

pub returns-in-None-get_mut-clause-whole : goal.returns-in-None-get_mut-clause-whole
returns-in-None-get_mut-clause-whole g c = λ one ss past h.
    let t : Passed c.args.high.now c.pass-time.new.high c.args.part.now c.pass-time.result = record { own = c.pass-time.ensures.time; raised_so = c.pass-time.ensures.high; other = c.pass-time.ensures.other } in
    let k = of_some c.args.streams.now c.in-Some.streams c.args.high.now c.args.part.now c.args.index one ss c.args.packet.now past c.in-Some.is h in
    not_there c.in-Some.streams c.args.high.now c.pass-time.new.high c.pass-time.result c.args.part.now c.args.index one ss c.args.packet.now past k t (λ lt. let e = c.in-None-get_mut.ensures.variant.1 lt in absurd (cc))

pub returns-in-Ok-clause-ok : goal.returns-in-Ok-clause-ok
returns-in-Ok-clause-ok g c = λ one ss past h.
    let t : Passed c.args.high.now c.pass-time.new.high c.args.part.now c.pass-time.result = record { own = c.pass-time.ensures.time; raised_so = c.pass-time.ensures.high; other = c.pass-time.ensures.other } in
    let k = of_some c.args.streams.now c.in-Some.streams c.args.high.now c.args.part.now c.args.index one ss c.args.packet.now past c.in-Some.is h in
    let old = there c.in-Some.streams c.args.high.now c.pass-time.new.high c.pass-time.result c.args.part.now c.args.index one ss c.args.packet.now past k t c.in-Some-get_mut.stream.now (got c.in-Some.streams c.args.index c.in-Some-get_mut.stream.now (c.in-Some-get_mut.ensures.variant.0 refl) c.in-Some-get_mut.ensures.value) in
    let is = is_gathered c.in-Some.streams c.args.high.now c.pass-time.new.high c.pass-time.result c.args.part.now c.args.index one ss c.args.packet.now past k t in
    one_more c.in-Some.streams c.args.high.now c.pass-time.new.high c.pass-time.result c.args.part.now c.args.index one ss c.args.packet.now past k t _ c.in-Some-get_mut.stream.now c.take.new.self (got c.in-Some.streams c.args.index c.in-Some-get_mut.stream.now (c.in-Some-get_mut.ensures.variant.0 refl) c.in-Some-get_mut.ensures.value) refl c.take.ensures.kind (c.in-Ok.ensures.ok _ one.1 past old is)

pub returns-in-Ok-clause-whole : goal.returns-in-Ok-clause-whole
returns-in-Ok-clause-whole g c = λ one ss past h.
    let t : Passed c.args.high.now c.pass-time.new.high c.args.part.now c.pass-time.result = record { own = c.pass-time.ensures.time; raised_so = c.pass-time.ensures.high; other = c.pass-time.ensures.other } in
    let k = of_some c.args.streams.now c.in-Some.streams c.args.high.now c.args.part.now c.args.index one ss c.args.packet.now past c.in-Some.is h in
    let old = there c.in-Some.streams c.args.high.now c.pass-time.new.high c.pass-time.result c.args.part.now c.args.index one ss c.args.packet.now past k t c.in-Some-get_mut.stream.now (got c.in-Some.streams c.args.index c.in-Some-get_mut.stream.now (c.in-Some-get_mut.ensures.variant.0 refl) c.in-Some-get_mut.ensures.value) in
    let is = is_gathered c.in-Some.streams c.args.high.now c.pass-time.new.high c.pass-time.result c.args.part.now c.args.index one ss c.args.packet.now past k t in
    c.in-Ok.ensures.whole _ one.1 past old is

pub returns-in-Err-clause-err : goal.returns-in-Err-clause-err
returns-in-Err-clause-err g c = λ one ss past h.
    let t : Passed c.args.high.now c.pass-time.new.high c.args.part.now c.pass-time.result = record { own = c.pass-time.ensures.time; raised_so = c.pass-time.ensures.high; other = c.pass-time.ensures.other } in
    let k = of_some c.args.streams.now c.in-Some.streams c.args.high.now c.args.part.now c.args.index one ss c.args.packet.now past c.in-Some.is h in
    let old = there c.in-Some.streams c.args.high.now c.pass-time.new.high c.pass-time.result c.args.part.now c.args.index one ss c.args.packet.now past k t c.in-Some-get_mut.stream.now (got c.in-Some.streams c.args.index c.in-Some-get_mut.stream.now (c.in-Some-get_mut.ensures.variant.0 refl) c.in-Some-get_mut.ensures.value) in
    let is = is_gathered c.in-Some.streams c.args.high.now c.pass-time.new.high c.pass-time.result c.args.part.now c.args.index one ss c.args.packet.now past k t in
    c.in-Err.ensures.err _ one.1 past old is
