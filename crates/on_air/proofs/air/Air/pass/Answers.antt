use Rattle.std.proofs.Common.{rules, ◌≡◌, ℕ, List, [], ◌∷◌, ◌++◌, false, true, sym, ap, subst, ◌∙◌}
use Rattle.std.specs.Prelude.{if◌then◌else◌}
use Rattle.std.proofs.lemmas.Result.{on_ok_weaker}
use Rattle.ts_packet.specs.Fields.{marked}
use Rattle.on_air.specs.Stretches.{as_read, verdict, first_entry, is_judged, as_first}
use Rattle.on_air.specs.Marking.{Keeps, is_judged_by}
use Rattle.on_air.specs.AirRuns.{AirStands, newest, has_no}
use Rattle.on_air.specs.AirOutputs.{aired, ended_in}
use Rattle.psi_tables.specs.declared.network.NetworkFault.{NetworkFault}
use Rattle.on_air.specs.declared.marks.Verdict.TheVariants as verdicts
use Rattle.on_air.proofs.AirLemmas.{begun, first-is, stands-anew}
use Rattle.on_air.proofs.OutputLemmas.{joins, joins-stands, joins-follows, joins-on-air, begins-on-air}
use Rattle.on_air.proofs.air.Air.pass.Goals as goal

pub returns-then-is_judged-clause-stands : goal.returns-then-is_judged-clause-stands
returns-then-is_judged-clause-stands g c = λ purpose ss h follows.
    let p = c.args.packet.now in
    let is : c.judge.result ≡ verdicts.BeginsAnew c.in-BeginsAnew-2.fault = search rules in
    let anew = begun c.judge.result c.in-BeginsAnew-2.fault c.judge.new.self purpose p ss (sym h.is_empty ∙ c.if-self.false) is (c.judge.ensures purpose (newest ss) h.marks follows) in
    let from = c.in_ok-begin_anew-in-BeginsAnew-2.ensures in
    let begins = from.follows purpose (as_read (newest ss)) follows in
    let first = first-is c.judge-in-BeginsAnew-2.result (verdict purpose p []) (λ j. Keeps c.judge-in-BeginsAnew-2.new.self purpose (record { packet = p; judgement = j } ∷ [])) (c.judge-in-BeginsAnew-2.ensures purpose [] (from.marks purpose) begins) in
    let judged : is_judged (as_first (verdict purpose p [])) ≡ true = first.0 ∙ sym c.is_judged.ensures ∙ c.if-is_judged.true in
    let counted = c.pass_judged-then-is_judged.ensures.counted in
    let stands = stands-anew c.args.self.now _ c.pass_judged-then-is_judged.new.self purpose p ss true h from.counts.0 from.counts.1 from.counts.2 counted judged
    (subst (λ m. Keeps m purpose (first_entry purpose p ∷ [])) (sym counted.marks) first.1) in
    let read : (if true then p else marked p) ∷ [] ≡ as_read (first_entry purpose p ∷ []) = ap (λ b. (if b then p else marked p) ∷ []) (sym judged) in
    on_ok_weaker c.pass_judged-then-is_judged.result
    (λ f. subst (λ w. AirStands c.pass_judged-then-is_judged.new.self purpose w × g.S.AirStage.follows c.pass_judged-then-is_judged.new.stage purpose (as_read (newest w))) (sym anew)
    (stands, subst (g.S.AirStage.follows c.pass_judged-then-is_judged.new.stage purpose) read f))
    (c.pass_judged-then-is_judged.ensures.follows purpose [] begins)

pub returns-else-is_judged-clause-stands : goal.returns-else-is_judged-clause-stands
returns-else-is_judged-clause-stands g c = λ purpose ss h follows.
    let p = c.args.packet.now in
    let is : c.judge.result ≡ verdicts.BeginsAnew c.in-BeginsAnew-2.fault = search rules in
    let anew = begun c.judge.result c.in-BeginsAnew-2.fault c.judge.new.self purpose p ss (sym h.is_empty ∙ c.if-self.false) is (c.judge.ensures purpose (newest ss) h.marks follows) in
    let from = c.in_ok-begin_anew-in-BeginsAnew-2.ensures in
    let begins = from.follows purpose (as_read (newest ss)) follows in
    let first = first-is c.judge-in-BeginsAnew-2.result (verdict purpose p []) (λ j. Keeps c.judge-in-BeginsAnew-2.new.self purpose (record { packet = p; judgement = j } ∷ [])) (c.judge-in-BeginsAnew-2.ensures purpose [] (from.marks purpose) begins) in
    let judged : is_judged (as_first (verdict purpose p [])) ≡ false = first.0 ∙ sym c.is_judged.ensures ∙ c.if-is_judged.false in
    let counted = c.pass_unjudged-else-is_judged.ensures.counted in
    let stands = stands-anew c.args.self.now _ c.pass_unjudged-else-is_judged.new.self purpose p ss false h from.counts.0 from.counts.1 from.counts.2 counted judged
    (subst (λ m. Keeps m purpose (first_entry purpose p ∷ [])) (sym counted.marks) first.1) in
    let read : (if false then p else marked p) ∷ [] ≡ as_read (first_entry purpose p ∷ []) = ap (λ b. (if b then p else marked p) ∷ []) (sym judged) in
    on_ok_weaker c.pass_unjudged-else-is_judged.result
    (λ f. subst (λ w. AirStands c.pass_unjudged-else-is_judged.new.self purpose w × g.S.AirStage.follows c.pass_unjudged-else-is_judged.new.stage purpose (as_read (newest w))) (sym anew)
    (stands, subst (g.S.AirStage.follows c.pass_unjudged-else-is_judged.new.stage purpose) read f))
    (c.pass_unjudged-else-is_judged.ensures.follows purpose [] begins)

pub returns-in-Judged-clause-stands : goal.returns-in-Judged-clause-stands
returns-in-Judged-clause-stands g c = λ purpose ss h follows.
    let p = c.args.packet.now in
    let is : c.judge.result ≡ verdicts.Judged = search rules in
    let j = joins c.judge.result c.judge.new.self purpose p ss true (c.judge.ensures purpose (newest ss) h.marks follows) (ap is_judged_by is) (λ fault e. let no : verdicts.Judged ≡ verdicts.BeginsAnew fault = sym is ∙ e in absurd (cc)) in
    on_ok_weaker c.pass_judged.result
    (λ f. (
      joins-stands c.judge.new.self c.args.self.now c.pass_judged.new.self purpose p ss true h j c.pass_judged.ensures.counted,
      joins-follows g.S.AirStage.follows c.judge.new.self c.pass_judged.new.stage purpose p ss true j f,
    ))
    (c.pass_judged.ensures.follows purpose (as_read (newest ss)) follows)

pub returns-in-Judged-clause-out : goal.returns-in-Judged-clause-out
returns-in-Judged-clause-out g c = λ first purpose ss start before h follows air.
    let p = c.args.packet.now in
    let is : c.judge.result ≡ verdicts.Judged = search rules in
    let j = joins c.judge.result c.judge.new.self purpose p ss true (c.judge.ensures purpose (newest ss) h.marks follows) (ap is_judged_by is) (λ fault e. let no : verdicts.Judged ≡ verdicts.BeginsAnew fault = sym is ∙ e in absurd (cc)) in
    let tail = c.pass_judged.ensures.tail purpose (as_read (newest ss)) follows air.tail in
    on_ok_weaker c.pass_judged.result
    (λ went. joins-on-air g.S.AirStage.summed (g.S.AirStage.airs first) purpose p ss true c.judge.new.self c.args.self.now c.pass_judged.new.self c.args.stage.now c.pass_judged.new.stage
    (λ (l : List (List ℕ)). g.K.PacketSink.holds c.args.out.now start (before ++ l)) (λ (l : List (List ℕ)). g.K.PacketSink.holds c.pass_judged.new.out start (before ++ l)) air j tail c.pass_judged.ensures.ended went)
    (c.pass_judged.ensures.airs first (ended_in purpose ss) (aired (newest ss)) air.told air.sent start before air.airs_so air.out)

pub returns-in-Unjudged-clause-stands : goal.returns-in-Unjudged-clause-stands
returns-in-Unjudged-clause-stands g c = λ purpose ss h follows.
    let p = c.args.packet.now in
    let is : c.judge.result ≡ verdicts.Unjudged = search rules in
    let j = joins c.judge.result c.judge.new.self purpose p ss false (c.judge.ensures purpose (newest ss) h.marks follows) (ap is_judged_by is) (λ fault e. let no : verdicts.Unjudged ≡ verdicts.BeginsAnew fault = sym is ∙ e in absurd (cc)) in
    on_ok_weaker c.pass_unjudged.result
    (λ f. (
      joins-stands c.judge.new.self c.args.self.now c.pass_unjudged.new.self purpose p ss false h j c.pass_unjudged.ensures.counted,
      joins-follows g.S.AirStage.follows c.judge.new.self c.pass_unjudged.new.stage purpose p ss false j f,
    ))
    (c.pass_unjudged.ensures.follows purpose (as_read (newest ss)) follows)

pub returns-in-Unjudged-clause-out : goal.returns-in-Unjudged-clause-out
returns-in-Unjudged-clause-out g c = λ first purpose ss start before h follows air.
    let p = c.args.packet.now in
    let is : c.judge.result ≡ verdicts.Unjudged = search rules in
    let j = joins c.judge.result c.judge.new.self purpose p ss false (c.judge.ensures purpose (newest ss) h.marks follows) (ap is_judged_by is) (λ fault e. let no : verdicts.Unjudged ≡ verdicts.BeginsAnew fault = sym is ∙ e in absurd (cc)) in
    let tail = c.pass_unjudged.ensures.tail purpose (as_read (newest ss)) air.tail in
    on_ok_weaker c.pass_unjudged.result
    (λ went. joins-on-air g.S.AirStage.summed (g.S.AirStage.airs first) purpose p ss false c.judge.new.self c.args.self.now c.pass_unjudged.new.self c.args.stage.now c.pass_unjudged.new.stage
    (λ (l : List (List ℕ)). g.K.PacketSink.holds c.args.out.now start (before ++ l)) (λ (l : List (List ℕ)). g.K.PacketSink.holds c.pass_unjudged.new.out start (before ++ l)) air j tail c.pass_unjudged.ensures.ended went)
    (c.pass_unjudged.ensures.airs first (ended_in purpose ss) (aired (newest ss)) air.told air.sent start before air.airs_so air.out)

pub returns-in-BeginsAnew-clause-stands : goal.returns-in-BeginsAnew-clause-stands
returns-in-BeginsAnew-clause-stands g c = λ purpose ss h follows.
    let p = c.args.packet.now in
    let is : c.judge.result ≡ verdicts.BeginsAnew c.in-BeginsAnew.field-0 = search rules in
    let j = joins c.judge.result c.judge.new.self purpose p ss false (c.judge.ensures purpose (newest ss) h.marks follows) (ap is_judged_by is) (λ fault e. sym h.is_empty ∙ c.if-self.true) in
    on_ok_weaker c.pass_unjudged-in-BeginsAnew.result
    (λ f. (
      joins-stands c.judge.new.self c.args.self.now c.pass_unjudged-in-BeginsAnew.new.self purpose p ss false h j c.pass_unjudged-in-BeginsAnew.ensures.counted,
      joins-follows g.S.AirStage.follows c.judge.new.self c.pass_unjudged-in-BeginsAnew.new.stage purpose p ss false j f,
    ))
    (c.pass_unjudged-in-BeginsAnew.ensures.follows purpose (as_read (newest ss)) follows)

pub returns-in-BeginsAnew-clause-out : goal.returns-in-BeginsAnew-clause-out
returns-in-BeginsAnew-clause-out g c = λ first purpose ss start before h follows air.
    let p = c.args.packet.now in
    let is : c.judge.result ≡ verdicts.BeginsAnew c.in-BeginsAnew.field-0 = search rules in
    let j = joins c.judge.result c.judge.new.self purpose p ss false (c.judge.ensures purpose (newest ss) h.marks follows) (ap is_judged_by is) (λ fault e. sym h.is_empty ∙ c.if-self.true) in
    let tail = c.pass_unjudged-in-BeginsAnew.ensures.tail purpose (as_read (newest ss)) air.tail in
    on_ok_weaker c.pass_unjudged-in-BeginsAnew.result
    (λ went. joins-on-air g.S.AirStage.summed (g.S.AirStage.airs first) purpose p ss false c.judge.new.self c.args.self.now c.pass_unjudged-in-BeginsAnew.new.self c.args.stage.now c.pass_unjudged-in-BeginsAnew.new.stage
    (λ (l : List (List ℕ)). g.K.PacketSink.holds c.args.out.now start (before ++ l)) (λ (l : List (List ℕ)). g.K.PacketSink.holds c.pass_unjudged-in-BeginsAnew.new.out start (before ++ l)) air j tail c.pass_unjudged-in-BeginsAnew.ensures.ended went)
    (c.pass_unjudged-in-BeginsAnew.ensures.airs first (ended_in purpose ss) (aired (newest ss)) air.told air.sent start before air.airs_so air.out)

pub returns-then-is_judged-clause-out : goal.returns-then-is_judged-clause-out
returns-then-is_judged-clause-out g c = λ first purpose ss start before h follows air.
    let p = c.args.packet.now in
    let is : c.judge.result ≡ verdicts.BeginsAnew c.in-BeginsAnew-2.fault = search rules in
    let some : has_no ss ≡ false = sym h.is_empty ∙ c.if-self.false in
    let anew = begun c.judge.result c.in-BeginsAnew-2.fault c.judge.new.self purpose p ss some is (c.judge.ensures purpose (newest ss) h.marks follows) in
    let from = c.in_ok-begin_anew-in-BeginsAnew-2.ensures in
    let begins = from.follows purpose (as_read (newest ss)) follows in
    let judging = first-is c.judge-in-BeginsAnew-2.result (verdict purpose p []) (λ j. Keeps c.judge-in-BeginsAnew-2.new.self purpose (record { packet = p; judgement = j } ∷ [])) (c.judge-in-BeginsAnew-2.ensures purpose [] (from.marks purpose) begins) in
    let judged : is_judged (as_first (verdict purpose p [])) ≡ true = judging.0 ∙ sym c.is_judged.ensures ∙ c.if-is_judged.true in
    let began = from.out first purpose (as_read (newest ss)) (ended_in purpose ss) (aired (newest ss)) air.told air.sent start before air.tail air.ended air.airs_so air.out in
    let tail = c.pass_judged-then-is_judged.ensures.tail purpose [] begins (from.tail purpose) in
    on_ok_weaker c.pass_judged-then-is_judged.result
    (λ went. begins-on-air g.S.AirStage.summed (g.S.AirStage.airs first) purpose p ss true _ c.pass_judged-then-is_judged.new.self _ c.pass_judged-then-is_judged.new.stage _ (λ (l : List (List ℕ)). g.K.PacketSink.holds c.pass_judged-then-is_judged.new.out start (before ++ l))
    air.sent some anew judged began tail c.pass_judged-then-is_judged.ensures.ended went)
    (c.pass_judged-then-is_judged.ensures.airs first _ [] began.told _ start before began.airs_so began.out)

pub returns-else-is_judged-clause-out : goal.returns-else-is_judged-clause-out
returns-else-is_judged-clause-out g c = λ first purpose ss start before h follows air.
    let p = c.args.packet.now in
    let is : c.judge.result ≡ verdicts.BeginsAnew c.in-BeginsAnew-2.fault = search rules in
    let some : has_no ss ≡ false = sym h.is_empty ∙ c.if-self.false in
    let anew = begun c.judge.result c.in-BeginsAnew-2.fault c.judge.new.self purpose p ss some is (c.judge.ensures purpose (newest ss) h.marks follows) in
    let from = c.in_ok-begin_anew-in-BeginsAnew-2.ensures in
    let begins = from.follows purpose (as_read (newest ss)) follows in
    let judging = first-is c.judge-in-BeginsAnew-2.result (verdict purpose p []) (λ j. Keeps c.judge-in-BeginsAnew-2.new.self purpose (record { packet = p; judgement = j } ∷ [])) (c.judge-in-BeginsAnew-2.ensures purpose [] (from.marks purpose) begins) in
    let judged : is_judged (as_first (verdict purpose p [])) ≡ false = judging.0 ∙ sym c.is_judged.ensures ∙ c.if-is_judged.false in
    let began = from.out first purpose (as_read (newest ss)) (ended_in purpose ss) (aired (newest ss)) air.told air.sent start before air.tail air.ended air.airs_so air.out in
    let tail = c.pass_unjudged-else-is_judged.ensures.tail purpose [] (from.tail purpose) in
    on_ok_weaker c.pass_unjudged-else-is_judged.result
    (λ went. begins-on-air g.S.AirStage.summed (g.S.AirStage.airs first) purpose p ss false _ c.pass_unjudged-else-is_judged.new.self _ c.pass_unjudged-else-is_judged.new.stage _ (λ (l : List (List ℕ)). g.K.PacketSink.holds c.pass_unjudged-else-is_judged.new.out start (before ++ l))
    air.sent some anew judged began tail c.pass_unjudged-else-is_judged.ensures.ended went)
    (c.pass_unjudged-else-is_judged.ensures.airs first _ [] began.told _ start before began.airs_so began.out)
