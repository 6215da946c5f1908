use Rattle.std.proofs.Common.{sym, inl, inr, refl}
use Rattle.ts_packet.specs.Fields.{bytes}
use Rattle.unit_stream.proofs.ReadingLemmas.{bytes_are}
use Rattle.ad_library.proofs.GatheredLemmas.{off, no_gap, no_payload, has_payload, told, gathers_more, starts_whole}
use Rattle.ad_library.proofs.gathered.Gathered.take.Goals as goal

pub returns-in_default-clause-ok : goal.returns-in_default-clause-ok
returns-in_default-clause-ok g c = λ pids pid past h is. off pids pid c.args.packet.now past c.args.self.now (no_payload pids pid c.args.packet.now past is.is_on c.in_default.ensures) h

pub returns-in_default-clause-whole : goal.returns-in_default-clause-whole
returns-in_default-clause-whole g c = λ pids pid past h is. no_gap pids pid c.args.packet.now past (no_payload pids pid c.args.packet.now past is.is_on c.in_default.ensures)

pub returns-then-not-is_whole-clause-err : goal.returns-then-not-is_whole-clause-err
returns-then-not-is_whole-clause-err g c = λ pids pid past h is.
    let p = c.args.packet.now in
    inr (
      refl,
      told pids pid p past c.args.part.now c.args.time _ _ _ _ is (has_payload pids pid p past c.in-Some.payload.now is.is_on c.in-Some.ensures) h.counter c.counter.ensures.value
          c.goes_on-is_whole.ensures c.if-not-is_whole.true,
    )

pub add-requires : goal.add-requires
add-requires g c = starts_whole c.args.part.now c.in-Some.payload.now (bytes c.args.packet.now) (bytes_are c.args.packet.now c.in-Some.payload.now (sym c.in-Some.ensures)) c.requires

pub returns-in-Ok-clause-ok : goal.returns-in-Ok-clause-ok
returns-in-Ok-clause-ok g c = λ pids pid past h is.
    let p = c.args.packet.now in
    gathers_more _ _ pids pid p past c.args.part.now c.args.time c.in-Some.payload.now c.random_access.result c.counter-2.result is c.in-Some.ensures
    (bytes_are p c.in-Some.payload.now (sym c.in-Some.ensures)) c.random_access.ensures c.counter-2.ensures.value refl c.in-Ok.ensures h

pub returns-in-Ok-clause-whole : goal.returns-in-Ok-clause-whole
returns-in-Ok-clause-whole g c = λ pids pid past h is.
    let p = c.args.packet.now in
    told pids pid p past c.args.part.now c.args.time _ _ _ _ is (has_payload pids pid p past c.in-Some.payload.now is.is_on c.in-Some.ensures) h.counter c.counter.ensures.value
    c.goes_on-is_whole.ensures c.if-not-is_whole.false

pub returns-in-Err-clause-err : goal.returns-in-Err-clause-err
returns-in-Err-clause-err g c = λ pids pid past h is.
    let p = c.args.packet.now in
    inl (
      refl,
      told pids pid p past c.args.part.now c.args.time _ _ _ _ is (has_payload pids pid p past c.in-Some.payload.now is.is_on c.in-Some.ensures) h.counter c.counter.ensures.value
          c.goes_on-is_whole.ensures c.if-not-is_whole.false,
    )
