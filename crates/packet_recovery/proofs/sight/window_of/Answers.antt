use Rattle.std.proofs.Common.{◌≡◌, [], ◌∷◌, arith, length, ◌∙◌}
use lib.Seq.{take_all, take-append-le}
use Rattle.packet_recovery.proofs.sight.window_of.Goals as goal

pub returns-clause-front : goal.returns-clause-front
returns-clause-front c =
    let size : length c.copy_from_slice.new.self ≡ 188 = grind arith in
    take-append-le 188 c.copy_from_slice.new.self (0 ∷ []) (omega (arith, size)) ∙ take_all 188 c.copy_from_slice.new.self (omega (arith, size))
    ∙ c.copy_from_slice.ensures.after ∙ c.as_bytes.ensures.value
