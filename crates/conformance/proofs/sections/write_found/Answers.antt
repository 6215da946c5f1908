use Rattle.std.proofs.Common.{◌++◌, codes, sym, subst}
use Rattle.std.specs.Fmt.{decimal}
use Rattle.codec_text.specs.Texts.{bytes_text}
use Rattle.std.proofs.KnownBytes.{Appends-trans}
use Rattle.std.specs.Io.KnownBytes.{Appends}
use Rattle.conformance.proofs.WritingLemmas.{section_text, section_text_joined, sections_text_more}
use Rattle.conformance.proofs.sections.write_found.Goals as goal

pub loop-finished-preserved : goal.loop-finished-preserved
loop-finished-preserved g c =
    let finished = c.finished-item.result in
    let contents = g.O.Write.contents in
    let more = sections_text_more c.deref-finished-items.result.now c.loop-finished.finished-index finished c.loop-finished-test.true c.finished-item.is in
    let joined : Appends (contents c.loop-finished.output) (contents c.write-in-loop-finished.new.self)
    (codes " " ++ (decimal finished.place ++ (codes ":" ++ bytes_text c.as_slice.result.now))) = c.in_ok-write-2.ensures.bytes in
    let here : Appends (contents c.loop-finished.output) (contents c.write-in-loop-finished.new.self) (section_text finished) =
    subst (Appends (contents c.loop-finished.output) (contents c.write-in-loop-finished.new.self)) (section_text_joined finished) (rw c.as_slice.ensures.value at joined) in
    subst (Appends (contents c.write.new.self) (contents c.write-in-loop-finished.new.self)) (sym more)
    (Appends-trans _ _ _ _ _ c.loop-finished.invariant here)
