use Rattle.std.proofs.Common.{◌+◌, ◌*◌, ◌<◌, ◌≤◌, Some, arith}
use Rattle.break_choices.specs.Cuts.{named_time}
use Rattle.break_choices.proofs.EndingLemmas.{ends_at, clean_at}
use Rattle.break_choices.proofs.endings.clean_ending.Goals as goal

pub returns : goal.returns
returns c =
    let x = c.args.placed.now in
    let p = c.in_ok-picture.picture in
    let roll = c.min-pre_roll.result in
    let time = named_time x.mark.high roll + 9000 * c.args.tenths in
    let low : x.pre_rolls.least ≤ roll = c.if-pre_roll-least.false in
    let high : roll ≤ x.pre_rolls.most = omega (arith, c.min-pre_roll.ensures) in
    let some : 1 ≤ x.pre_rolls.least = c.requires.stands.rolls.some in
    let within : time ≤ p.time = omega (arith, c.min-pre_roll.ensures, c.in_ok-room.ensures, c.saturating_add.ensures, low, some) in
    let after : c.slot_of.result.after < time = omega (arith, c.if-end-slot_of.false, c.saturating_add-end.ensures) in
    record {
      ends = λ long near. ends_at c.args.pictures.now x long roll c.args.tenths (Some p) c.requires.stands low high near
          (clean_at c.args.pictures.now _ time p c.slot_of.result c.in_ok-picture.ensures c.slot_of.ensures.until c.slot_of.ensures.parts after within);
    }
