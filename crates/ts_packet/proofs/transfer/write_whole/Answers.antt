use Rattle.std.proofs.Common.{◌++◌, ◌+◌, take, sym, ap, ◌∙◌, subst}
use Rattle.std.specs.Io.KnownBytes.{Appends}
use Rattle.std.proofs.KnownBytes.{Appends-trans}
use Rattle.std.proofs.lemmas.List.{take_rest}
use Rattle.std.proofs.lemmas.Result.{on_err_weaker}
use lib.Seq.{take-add}
use Rattle.ts_packet.proofs.transfer.write_whole.Goals as goal

-- what the first write took, and then what the others took
pub returns-else-n-bytes-clause-err : goal.returns-else-n-bytes-clause-err
returns-else-n-bytes-clause-err g c =
    let n = c.in-Ok.n in
    let bytes = c.args.bytes.now in
    on_err_weaker c.write_rest.result (λ p. (n + p.0, subst (Appends _ _) (ap (λ l. take n bytes ++ take p.0 l) (take_rest bytes n) ∙ sym (take-add n p.0 bytes)) (Appends-trans _ _ _ _ _ c.in-Ok.ensures.bytes p.1))) c.write_rest.ensures.err
