use Rattle.std.proofs.Common.{ℕ, List}
use Rattle.arrayvec.specs.ArrayString.{ArrayString as Text}
use Rattle.event_logs.proofs.TextLemmas.{text_of_writes}
use Rattle.event_logs.proofs.log.text_of.Goals as goal

pub returns-in-Ok : goal.returns-in-Ok
returns-in-Ok g c =
    let bytes : Text → List ℕ = λ text. text.bytes in
    text_of_writes bytes _ _ _ c.new-text.ensures c.in-Ok.ensures.writes
