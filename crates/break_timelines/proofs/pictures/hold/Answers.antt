use Rattle.std.proofs.Common.{◌++◌, ap, sym, ◌∙◌, arith}
use Rattle.std.proofs.lemmas.List.{append-nil}
use Rattle.ts_packet.specs.Fields.{bytes}
use Rattle.unit_stream.proofs.ReadingLemmas.{bytes_are}
use Rattle.break_timelines.proofs.UnitLemmas.{full, longer, extended, no_bytes}
use Rattle.break_timelines.proofs.pictures.hold.Goals as goal

pub returns-then-len-ge-LOOKED_AT : goal.returns-then-len-ge-LOOKED_AT
returns-then-len-ge-LOOKED_AT c = λ more. full c.args.unit.now.items (bytes c.args.packet.now) more (omega (arith, c.if-len-ge-LOOKED_AT.true, c.len.ensures))

pub returns-in-Some : goal.returns-in-Some
returns-in-Some c =
    extended c.extend_from_slice.result c.args.unit.now.items c.in-Some.payload.now (bytes c.args.packet.now) c.extend_from_slice.new.self.items
    (bytes_are c.args.packet.now c.in-Some.payload.now (sym c.in-Some.ensures)) c.extend_from_slice.ensures.items

pub returns-in-None : goal.returns-in-None
returns-in-None c = λ more.
    longer c.args.unit.now.items (bytes c.args.packet.now) c.args.unit.now.items more
    (sym (ap (λ bs. c.args.unit.now.items ++ bs) (no_bytes c.args.packet.now (sym c.in-None.ensures)) ∙ append-nil c.args.unit.now.items))
