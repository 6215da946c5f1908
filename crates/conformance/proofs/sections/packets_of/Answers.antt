use Rattle.std.proofs.Common.{◌≡◌, Some, option_map, ap, sym, ◌∙◌}
use Rattle.conformance.specs.Sections.{packet_of, words_of, words_behind}
use Rattle.conformance.proofs.WordLemmas.{packet_more}
use Rattle.conformance.proofs.sections.packets_of.Goals as goal

pub loop-rest-preserved : goal.loop-rest-preserved
loop-rest-preserved c =
    let packet : packet_of c.cut_word.result.0.now ≡ Some c.in-Some-2.packet = sym c.in_ok-packet.ensures ∙ c.in-Some-2.is in
    let left : words_behind (option_map (λ r. r.now) c.loop-rest.rest) ≡ words_of c.in-Some.left.now = ap (λ r. words_behind (option_map (λ x. x.now) r)) c.in-Some.is in
    packet_more c.loop-rest.packets.items c.push.new.self.items c.in-Some-2.packet c.cut_word.result.0.now
    (words_behind (option_map (λ r. r.now) c.cut_word.result.1)) _ _ packet c.in_ok-push.ensures.items (left ∙ c.cut_word.ensures) c.loop-rest.invariant
