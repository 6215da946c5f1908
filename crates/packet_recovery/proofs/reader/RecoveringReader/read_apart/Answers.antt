use Rattle.std.proofs.Common.{arith, refl}
use Rattle.packet_recovery.proofs.ReaderLemmas.{still_at, over_at, unbroken, unended, unfull, not_ended}
use Rattle.packet_recovery.proofs.reader.RecoveringReader.read_apart.Goals as goal

pub returns-then-self-clause-missed : goal.returns-then-self-clause-missed
returns-then-self-clause-missed g c = λ start h.
    let self = c.args.self.now in
    still_at c.args.is_filled self.has_ended self.is_ahead start (g.S.Source.remaining self.source.now) _ self.skipped
    (unbroken c.args.is_filled self.is_broken _ _ _ c.requires c.if-self.true) h (not_ended self.has_ended self.is_broken self.ended c.if-self.true) (omega arith)

pub returns-then-self-2-clause-ok : goal.returns-then-self-2-clause-ok
returns-then-self-2-clause-ok g c = λ start h.
    let self = c.args.self.now in (
      over_at c.args.is_filled self.has_ended self.is_ahead start (g.S.Source.remaining self.source.now) _ self.skipped
          (unended c.args.is_filled self.has_ended _ _ _ c.requires c.if-self-2.true) h c.if-self-2.true (omega arith),
      refl,
      refl,
    )

pub returns-then-self-3-clause-missed : goal.returns-then-self-3-clause-missed
returns-then-self-3-clause-missed g c = λ start h.
    let self = c.args.self.now in
    let full = c.if-self-3.true in
    still_at c.args.is_filled self.has_ended self.is_ahead start (g.S.Source.remaining self.source.now) _ self.skipped
    (unfull c.args.is_filled self.given _ _ _ c.requires (omega (arith, full))) h c.if-self-2.false (omega arith)
