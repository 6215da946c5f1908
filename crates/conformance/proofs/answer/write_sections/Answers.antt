use Rattle.std.proofs.Common.{◌≡◌, Some, sym, refl}
use Rattle.conformance.specs.Sections.{words_of, packets_in}
use Rattle.conformance.specs.Answers.{ended, found_text}
use Rattle.conformance.proofs.WritingLemmas.{on_ok}
use Rattle.conformance.proofs.answer.write_sections.Goals as goal

pub returns-in_ok-found_in-in-Some : goal.returns-in_ok-found_in-in-Some
returns-in_ok-found_in-in-Some g c =
    let packets : packets_in (words_of c.args.words.now) ≡ Some c.in-Some.packets.items = sym (rw c.in-Some.is at c.in_ok-packets_of.ensures) in
    let found = c.in_ok-found_in-in-Some.field-0 in
    let is_found = rw c.as_slice.ensures.value at c.in_ok-found_in-in-Some.ensures.found in
    rw packets (on_ok c.write_found.result (λ written. (ended (found_text found), (found, refl, is_found), written)) c.write_found.ensures)
