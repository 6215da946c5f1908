use Rattle.std.proofs.Common.{ap, sym, ◌∙◌, ◌≡◌, Err}
use Rattle.std.proofs.lemmas.List.{reverse-reverse}
use Rattle.std.specs.Prelude.{reverse}
use Rattle.ts_packet.specs.declared.reader.ReadFault.TheVariants as read_faults
use Rattle.ad_library.specs.declared.fault.AdFault.TheVariants as ad_faults
use Rattle.ad_library.specs.Faults.{end_fault}
use Rattle.ad_library.proofs.ReadLemmas.{end_files, end_sound, end_says, end_own, end_is_quiet, end_blamed, not_turns}
use Rattle.ad_library.proofs.StopLemmas.{stopped_end}
use Rattle.ad_library.proofs.reading.read_advert.Goals as goal

pub finish-requires : goal.finish-requires
finish-requires g c = (reverse c.in-Ok.ensures.ok.packets, c.in-Ok.ensures.ok.gathered)

pub returns-in-Ok-finish-clause-files : goal.returns-in-Ok-finish-clause-files
returns-in-Ok-finish-clause-files g c =
    let h = c.in-Ok.ensures.ok in
    (h.packets, h.packets_are, end_files _ _ h _ (c.in-Ok-finish.ensures.ok (reverse h.packets) h.gathered))

pub returns-in-Ok-finish-clause-sound : goal.returns-in-Ok-finish-clause-sound
returns-in-Ok-finish-clause-sound g c =
    let h = c.in-Ok.ensures.ok in
    end_sound _ _ h (c.in-Ok-finish.ensures.sound (reverse h.packets) h.gathered)

pub returns-in-Ok-finish-clause-end : goal.returns-in-Ok-finish-clause-end
returns-in-Ok-finish-clause-end g c =
    let (ps, end, gathered) = c.in-Ok.ensures.end in
    (ps, end, ap end_fault (sym (reverse-reverse ps)) ∙ c.in-Ok-finish.ensures.sound (reverse ps) gathered)

pub returns-in-Err-finish-clause-says : goal.returns-in-Err-finish-clause-says
returns-in-Err-finish-clause-says g c =
    let h = c.in-Ok.ensures.ok in
    end_says _ _ h c.in-Err-finish.fault (c.in-Err-finish.ensures.err (reverse h.packets) h.gathered)

pub returns-in-Err-finish-clause-own : goal.returns-in-Err-finish-clause-own
returns-in-Err-finish-clause-own g c =
    let h = c.in-Ok.ensures.ok in
    end_own (reverse (reverse h.packets)) c.in-Err-finish.fault (c.in-Err-finish.ensures.err (reverse h.packets) h.gathered)

pub returns-in-Err-finish-clause-reading : goal.returns-in-Err-finish-clause-reading
returns-in-Err-finish-clause-reading g c =
    let h = c.in-Ok.ensures.ok in
    end_blamed _ _ _ _ c.in-Err-finish.fault c.in-Ok.ensures.read (end_is_quiet (reverse (reverse h.packets)) c.in-Err-finish.fault (c.in-Err-finish.ensures.err (reverse h.packets) h.gathered))

pub returns-in-Err-finish-clause-turns : goal.returns-in-Err-finish-clause-turns
returns-in-Err-finish-clause-turns g c = λ e.
    let h = c.in-Ok.ensures.ok in
    not_turns c.in-Err-finish.fault (end_is_quiet (reverse (reverse h.packets)) c.in-Err-finish.fault (c.in-Err-finish.ensures.err (reverse h.packets) h.gathered))
    (let k : c.in-Err-finish.fault ≡ ad_faults.Packets read_faults.Turns = cc in k)

pub returns-in-Err-finish-clause-at : goal.returns-in-Err-finish-clause-at
returns-in-Err-finish-clause-at g c =
    let (ps, end, gathered) = c.in-Ok.ensures.end in
    stopped_end _ _ _ _ _ _ _ c.in-Err-finish.fault ps _ _ end (c.in-Err-finish.ensures.err (reverse ps) gathered)

pub returns-in-Err-clause-turns : goal.returns-in-Err-clause-turns
returns-in-Err-clause-turns g c = λ e. c.in-Err.ensures.turns (let k : c.in-Err.fault ≡ ad_faults.Packets read_faults.Turns = cc in ap Err k)
