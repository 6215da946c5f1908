use Rattle.std.proofs.Common.{◌≡◌, Err, ap, refl, rules}
use Rattle.ts_packet.specs.declared.reader.ReadFault.TheVariants as read_faults
use Rattle.ad_library.specs.declared.fault.AdFault.TheVariants as ad_faults
use Rattle.ad_lists.proofs.ListLemmas.{stalls_over, stops_over}
use Rattle.ts_packet.specs.Transfers.{FallsShort}
use Rattle.ad_lists.proofs.list.file_device.Goals as goal

pub returns-in-Err-clause-turns : goal.returns-in-Err-clause-turns
returns-in-Err-clause-turns g c = λ e.
    let k : c.in-Err.fault ≡ ad_faults.Packets read_faults.Turns = cc in
    stalls_over g.S.Source.counts g.S.Source.remaining (λ r s. s.source.ghost_name ≡ r.source.ghost_name) (λ r. r.source.now) (λ r. r.given) c.new-packets.result c.add.new.source _ _ (search rules) (search rules) (search rules) (c.in-Err.ensures.turns (ap Err k))

pub returns-in-Err-clause-at : goal.returns-in-Err-clause-at
returns-in-Err-clause-at g c = λ own.
    stops_over g.S.Source.counts g.S.Source.remaining (λ r s. s.source.ghost_name ≡ r.source.ghost_name) (λ r. r.source.now) (λ r. r.given) (λ r. r.is_broken)
    (λ r s. FallsShort 188 (g.S.Source.remaining r.source.now) (g.S.Source.remaining s.source.now)) c.in-Err.fault c.new-packets.result c.add.new.source _ _ (search rules) (search rules) (search rules) (c.in-Err.ensures.at own)

pub returns-in-Err-OutOfMemory-clause-at : goal.returns-in-Err-OutOfMemory-clause-at
returns-in-Err-OutOfMemory-clause-at g c =
    let at = rw c.in-Err-OutOfMemory.field-0-is at c.in-Err-OutOfMemory.ensures.at in
    stops_over g.S.Source.counts g.S.Source.remaining (λ r s. s.source.ghost_name ≡ r.source.ghost_name) (λ r. r.source.now) (λ r. r.given) (λ r. r.is_broken)
    (λ r s. FallsShort 188 (g.S.Source.remaining r.source.now) (g.S.Source.remaining s.source.now)) ad_faults.OutOfMemory c.new-packets.result c.add.new.source _ _ (search rules) (search rules) (search rules) (at refl)
