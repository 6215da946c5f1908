use Rattle.std.proofs.Common.{◌≡◌, false, rules, subst}
use Rattle.ts_packet.specs.Sources.{GivesInto}
use Rattle.dpi_program.proofs.PlanningLemmas.{fed_more}
use Rattle.dpi_program.proofs.planning.feed_all.Goals as goal

pub loop-number-preserved : goal.loop-number-preserved
loop-number-preserved g c =
    let before = g.S.Source.remaining c.loop-number.packets.source.now in
    let behind = g.S.Source.remaining c.read_into.new.self.source.now in
    let given = subst (λ more. GivesInto before behind more c.read_into.new.packet) c.in-Ok-true.field-0-test c.in-Ok-true.ensures.ok in
    record {
      whole = search rules;
      fed = λ program first. fed_more c.loop-number.timeline c.feed.new.self program c.loop-number.number _ before behind c.read_into.new.packet
          (c.loop-number.invariant.fed program first) given (c.in-Ok.ensures.stands program);
    }
