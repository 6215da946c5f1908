use Rattle.std.proofs.Common.{◌≡◌, ◌<◌, ◌++◌, ◌∷◌, [], length, OnOk, IfErr, sym, ap, subst, ◌∙◌}
use Rattle.std.specs.Prelude.{map}
use Rattle.ts_packet.specs.Runs.{onto}
use Rattle.program_laws.specs.Writing.{packets_out}
use Rattle.scte35_codec.specs.Spelling.{cue_bytes}
use Rattle.outgoing_packets.specs.Numbers.{HasPut, FrontFails}
use Rattle.injector.specs.Senders.{when}
use Rattle.injector.proofs.CueLemmas.{cue-some}
use Rattle.injector.proofs.cues.put_chosen.Goals as goal

pub returns-clause-ok : goal.returns-clause-ok
returns-clause-ok g c = λ start ps puts h k.
    let same : c.as_slice.result.now ≡ cue_bytes c.args.cue.now = c.as_slice.ensures.value ∙ c.write.ensures.spelled in
    let some : 0 < length c.as_slice.result.now = subst (λ s. 0 < length s) (sym same) (cue-some c.args.cue.now) in
    let sections : c.as_slice.result.now ∷ [] ≡ map cue_bytes (when c.args.is_chosen c.args.cue.now)
    = ap (λ s. s ∷ []) same ∙ ap (λ b. map cue_bytes (when b c.args.cue.now)) (sym c.if-not-is_chosen.false) in
    subst (λ ss. OnOk c.put_section.result (g.S.PacketSink.holds c.put_section.new.sink start (ps ++ packets_out c.args.pid puts ss))) sections (c.put_section.ensures.ok start ps puts h k some)

pub returns-clause-numbers : goal.returns-clause-numbers
returns-clause-numbers g c = λ puts k.
    let same : c.as_slice.result.now ≡ cue_bytes c.args.cue.now = c.as_slice.ensures.value ∙ c.write.ensures.spelled in
    let some : 0 < length c.as_slice.result.now = subst (λ s. 0 < length s) (sym same) (cue-some c.args.cue.now) in
    let sections : c.as_slice.result.now ∷ [] ≡ map cue_bytes (when c.args.is_chosen c.args.cue.now)
    = ap (λ s. s ∷ []) same ∙ ap (λ b. map cue_bytes (when b c.args.cue.now)) (sym c.if-not-is_chosen.false) in
    subst (λ ss. OnOk c.put_section.result (HasPut c.put_section.new.self (onto puts (packets_out c.args.pid puts ss)))) sections (c.put_section.ensures.numbers puts k some)

pub returns-clause-err : goal.returns-clause-err
returns-clause-err g c = λ start ps puts h k.
    let same : c.as_slice.result.now ≡ cue_bytes c.args.cue.now = c.as_slice.ensures.value ∙ c.write.ensures.spelled in
    let some : 0 < length c.as_slice.result.now = subst (λ s. 0 < length s) (sym same) (cue-some c.args.cue.now) in
    let sections : c.as_slice.result.now ∷ [] ≡ map cue_bytes (when c.args.is_chosen c.args.cue.now)
    = ap (λ s. s ∷ []) same ∙ ap (λ b. map cue_bytes (when b c.args.cue.now)) (sym c.if-not-is_chosen.false) in
    subst (λ ss. IfErr c.put_section.result (λ f. FrontFails (packets_out c.args.pid puts ss) (λ put p. g.S.PacketSink.fails c.put_section.new.sink start (ps ++ put) p f))) sections (c.put_section.ensures.err start ps puts h k some)
