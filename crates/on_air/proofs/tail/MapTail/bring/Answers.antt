use Rattle.std.proofs.Common.{◌≡◌, [], true, sym, ap, subst, ◌∙◌}
use Rattle.ts_packet.specs.Fields.{unit_start}
use Rattle.on_air.specs.Tails.{KeepsPackets, has_part}
use Rattle.on_air.proofs.TailLemmas.{keeps-none, brought-first, brought-more}
use Rattle.on_air.proofs.tail.MapTail.bring.Goals.{then-unit_start, else-unit_start}
use Rattle.on_air.proofs.tail.MapTail.bring.Goals as goal

pub returns-clause-keeps : goal.returns-clause-keeps
returns-clause-keeps c = λ pid past ps waits keeps.
    let p = c.args.packet.now in
    let has : has_part pid past ≡ true = sym (c.has_part.ensures pid past waits) ∙ c.if-not-has_part.false in
    elim c.if-unit_start.branch [
      | then-unit_start w ↦
          subst (KeepsPackets c.keep.new.self) (sym (brought-first (has_part pid past) (unit_start p) p ps has (sym c.unit_start.ensures ∙ w.if-unit_start.true)))
          (c.keep.ensures.keeps [] (keeps-none c.if-unit_start.self (ap (λ t. t.count) w.self-is)))
      | else-unit_start w ↦
          subst (KeepsPackets c.keep.new.self) (sym (brought-more (has_part pid past) (unit_start p) p ps has (sym c.unit_start.ensures ∙ w.if-unit_start.false)))
          (c.keep.ensures.keeps ps (subst (λ t. KeepsPackets t ps) (sym w.self-is) keeps))
    ]
