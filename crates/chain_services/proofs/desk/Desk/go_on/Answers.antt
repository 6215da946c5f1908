use Rattle.std.proofs.Common.{rules, ◌≡◌, ◌++◌, ◌+◌, length, true, false, drop, sym, ap, subst, ◌∙◌}
use Rattle.std.proofs.lemmas.List.{with_items_is, length-append}
use lib.Seq.{drop-append_seam}
use Rattle.chain_services.specs.Owners.{IsShifted}
use Rattle.chain_services.specs.Serving.{FiledAs, AllServe}
use Rattle.chain_services.specs.Parts.{PassedEach, FirstGoesOn}
use Rattle.chain_services.proofs.ShiftLemmas.{behind-front, passed-behind, failed-behind, whole-of}
use Rattle.chain_services.proofs.desk.Desk.go_on.Goals as goal

pub returns-in-Ok-clause-ok : goal.returns-in-Ok-clause-ok
returns-in-Ok-clause-ok g c = λ ts steps takers start ps filed all skip on is_held.
    let v = c.args.self.now.services in
    let p = c.args.packet.now in
    let n = c.args.alone.count in
    let front = c.split_at_mut-services.result.0.now in
    let back = c.split_at_mut-services.result.1.now in
    let lfront = c.split_at.result.0.now in
    let lback = c.split_at.result.1.now in
    let new = c.go_on_first.new.services in
    let many = c.split_at_mut-services.ensures.front_len in
    let items : v.items ≡ front ++ back = sym c.as_mut_slice.ensures.value ∙ c.split_at_mut-services.ensures.value in
    let whole = whole-of n c.args.libraries.now lfront lback c.split_at.ensures.front c.split_at.ensures.back in
    let w = behind-front lfront lback front back ts p steps 1 takers (c.split_at.ensures.front_len ∙ sym many) (subst (λ k. IsShifted k 1 takers) (sym many) on.taker) c.of_bytes.ensures
    (subst (λ l. FiledAs l ts) whole filed) (subst (λ l. AllServe l ts steps) items all) skip in
    let by : FirstGoesOn back c.args.alone.of p =
    subst (λ l. FirstGoesOn l c.args.alone.of p) (ap (drop n) items ∙ subst (λ k. drop k (front ++ back) ≡ back) many (drop-append_seam front back)) on.goes_on in
    let done = passed-behind lback front back 1 ts p steps w true false new _ (c.in-Ok.ensures.ok w.us steps start ps w.filed w.serve w.skip by is_held) in
    let holds = g.K.PacketSink.holds c.go_on_first.new.out start in
    let same_back : length new ≡ length back = search rules in
    let total : length v.items ≡ v.len = search rules in
    let kept : length (front ++ new) ≡ v.len = length-append front new ∙ ap (λ k. length front + k) same_back ∙ sym (length-append front back) ∙ sym (ap length items) ∙ total in
    subst (λ l. PassedEach true false l ts p steps (λ qs. holds (ps ++ qs))) (sym (with_items_is v (front ++ new) kept)) done

pub returns-in-Err-clause-err : goal.returns-in-Err-clause-err
returns-in-Err-clause-err g c = λ ts steps takers start ps filed all skip on is_held.
    let v = c.args.self.now.services in
    let p = c.args.packet.now in
    let n = c.args.alone.count in
    let front = c.split_at_mut-services.result.0.now in
    let back = c.split_at_mut-services.result.1.now in
    let lfront = c.split_at.result.0.now in
    let lback = c.split_at.result.1.now in
    let many = c.split_at_mut-services.ensures.front_len in
    let items : v.items ≡ front ++ back = sym c.as_mut_slice.ensures.value ∙ c.split_at_mut-services.ensures.value in
    let whole = whole-of n c.args.libraries.now lfront lback c.split_at.ensures.front c.split_at.ensures.back in
    let w = behind-front lfront lback front back ts p steps 1 takers (c.split_at.ensures.front_len ∙ sym many) (subst (λ k. IsShifted k 1 takers) (sym many) on.taker) c.of_bytes.ensures
    (subst (λ l. FiledAs l ts) whole filed) (subst (λ l. AllServe l ts steps) items all) skip in
    let by : FirstGoesOn back c.args.alone.of p =
    subst (λ l. FirstGoesOn l c.args.alone.of p) (ap (drop n) items ∙ subst (λ k. drop k (front ++ back) ≡ back) many (drop-append_seam front back)) on.goes_on in
    failed-behind lback front back 1 ts p steps w c.in-Err.fault _ _ (c.in-Err.ensures.err w.us steps start ps w.filed w.serve by is_held)
