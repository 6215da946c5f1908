use Rattle.std.proofs.Common.{◌≡◌, true, false, sym, ap, ◌∙◌, length, Some, is_some}
use Rattle.ts_packet.specs.Fields.{payload, payload_on}
use Rattle.psi_section.specs.declared.assembler.Assembler.{Assembler}
use Rattle.psi_section.specs.Sections.{taken}
use Rattle.psi_section.specs.Storing.{content}
use Rattle.psi_section.proofs.AssemblerLemmas.{payload_on-of, bytes-some, payload-size, passes_over, passes_repeat, takes_in}
use Rattle.psi_section.proofs.assembler.Assembler.feed.Goals as goal
use Rattle.psi_section.proofs.assembler.Assembler.feed.Goals.{then-not-is_repeat, else-not-is_repeat}

pub returns-in_default : goal.returns-in_default
returns-in_default c = λ pid past o h.
    let a = c.args.self.now in
    let p = c.args.packet.now in
    passes_over a a pid p past h (payload_on-of pid p o ∙ ap is_some (sym c.in_default.ensures))

pub read-requires-clause-size : goal.read-requires-clause-size
read-requires-clause-size c =
    payload-size c.args.packet.now c.in-Some.payload.now (sym (ap length c.as_bytes-bytes.ensures.value) ∙ c.as_bytes-bytes.ensures.size) c.in-Some.ensures

pub read-requires-clause-same : goal.read-requires-clause-same
read-requires-clause-same c = bytes-some c.args.packet.now c.in-Some.payload.now c.in-Some.ensures

pub returns : goal.returns
returns c = λ pid past o h.
    let a = c.args.self.now in
    let p = c.args.packet.now in
    let e : Some c.in-Some.payload.now ≡ payload p = c.in-Some.ensures in
    let y : payload_on pid p ≡ true = payload_on-of pid p o ∙ ap is_some (sym e) in
    let d = c.if-not-is_repeat.self in
    let r = c.is_repeated-is_repeat.result in
    let b : Assembler = record { last = Some (record { packet = p; is_repeat = r }); store = d.store; bad = d.bad } in
    elim c.if-not-is_repeat.branch [
      | then-not-is_repeat w ↦
          let n : r ≡ false = w.if-not-is_repeat.true in
          let q = w.read.ensures in
          let s = w.self-is in
          takes_in a b pid p past h y (sym c.is_repeated-is_repeat.ensures ∙ n) (ap (λ x. Some (record { packet = p; is_repeat = x })) n)
          (ap (λ (x : Assembler). taken (content x.store)) s ∙ q.taken) (ap (λ (x : Assembler). x.bad) s ∙ q.bad)
      | else-not-is_repeat w ↦
          let n : r ≡ true = w.if-not-is_repeat.false in
          let s = w.self-is in
          passes_repeat a b pid p past h y (sym c.is_repeated-is_repeat.ensures ∙ n) (ap (λ x. Some (record { packet = p; is_repeat = x })) n)
          (ap (λ (x : Assembler). x.store) s) (ap (λ (x : Assembler). x.bad) s)
    ]
