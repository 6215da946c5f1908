use Rattle.std.proofs.Common.{◌≡◌, ◌++◌, codes, OnOk, sym, ◌∙◌, append_assoc}
use Rattle.std.specs.Io.KnownBytes.{Appends}
use Rattle.psi_tables.specs.ProgramMap.{map_of, pmt_section}
use Rattle.psi_tables.specs.Cue.{with_cue_entry, without_cue_entry, section_or_too_long}
use Rattle.codec_text.specs.Texts.{bytes_text, map_text}
use Rattle.conformance.specs.Answers.{added_text}
use Rattle.conformance.proofs.WritingLemmas.{on_ok, appends_three}
use Rattle.conformance.proofs.table.write_map.Goals as goal

pub returns : goal.returns
returns g c =
    let contents = g.O.Write.contents in
    let m = map_of c.args.pmt.now.bytes.now in
    let added = added_text (section_or_too_long (with_cue_entry 0x1F0 m)) in
    let stripped = codes " | strip=" ++ bytes_text (pmt_section (without_cue_entry 0x1F0 m)) in
    let same : c.as_slice.result.now ≡ pmt_section (without_cue_entry 0x1F0 m) =
    c.as_slice.ensures.value ∙ rw c.of_bits-cue_pid.ensures at c.strip_cue-section.ensures.exact in
    let first : Appends (contents c.args.output.now) (contents c.write.new.self) (map_text m ++ codes " | add=") = c.in_ok-write.ensures.bytes in
    let second : Appends (contents c.write.new.self) (contents c.write_added.new.output) added =
    rw c.of_bits-cue_pid.ensures at c.in_ok-write_added.ensures in
    let third : OnOk c.write-2.result (Appends (contents c.write_added.new.output) (contents c.write-2.new.self) (codes " | strip=" ++ bytes_text c.as_slice.result.now)) =
    c.write-2.ensures.bytes in
    let third_stripped : OnOk c.write-2.result (Appends (contents c.write_added.new.output) (contents c.write-2.new.self) stripped) = rw same at third in
    let front = map_text m ++ codes " | add=" in
    let bytes = bytes_text (pmt_section (without_cue_entry 0x1F0 m)) in
    let whole : front ++ (added ++ (codes " | strip=" ++ bytes)) ≡ front ++ added ++ codes " | strip=" ++ bytes =
    sym (append_assoc (front ++ added) (codes " | strip=") bytes ∙ append_assoc front added (codes " | strip=" ++ bytes)) in
    on_ok c.write-2.result (λ written. appends_three _ _ _ _ _ _ _ _ first second written whole) third_stripped
