-- A unit put in before the first payload packet of its PID makes a gap.
use Rattle.std.proofs.Common.{subst, ◌≡◌, ℕ, ◌+◌, ◌%◌, List, [], ◌∷◌, ◌++◌, true, false, sym, ap, ◌∙◌, None, arith}
use Rattle.std.proofs.lemmas.List.Elements.{All-head, All-tail, All-cons, All-nil}
use Rattle.ts_packet.specs.Fields.{payload_on, number, alike, renumbered}
use Rattle.ts_packet.specs.Duplicates.{InStep}
use Rattle.ts_packet.specs.Runs.{Seen, IsGaplessAfter}
use Rattle.ts_packet.proofs.Cases.{by_test, test-same}
use Rattle.ts_packet.proofs.FieldLemmas.{alike-number, number-renumbered, payload_on-on, payload_on-renumbered}
use Rattle.output_laws.specs.Output.{Keep, Put, kept_packet, output}
use Rattle.output_laws.specs.Laws.{FedIsNeeded}
use Rattle.output_laws.proofs.StepLemmas.{kept_on}

alone : (pid : ℕ) (p : List ℕ) → IsGaplessAfter None pid (p ∷ [])
alone pid p = All-cons (λ (s : Seen). InStep None pid s.packet s.past) (record { packet = p; past = [] }) [] (record { next = λ _. tt; same = λ _ _. tt }) (All-nil (λ (s : Seen). InStep None pid s.packet s.past))

gap : (pid : ℕ) (p q : List ℕ) → payload_on pid q ≡ true → payload_on pid p ≡ true → number q ≡ 0 → number p ≡ 6 → IsGaplessAfter None pid (q ∷ p ∷ []) → ⊥
gap pid p q y z n m h =
    let f = λ (s : Seen). InStep None pid s.packet s.past in
    let s1 : Seen = record { packet = q; past = [] } in
    let s2 : Seen = record { packet = p; past = q ∷ [] } in
    let t : InStep None pid p (q ∷ []) = All-head f s2 [] (All-tail f s1 (s2 ∷ []) h) in
    let a : alike q p ≡ false = by_test (alike q p) (λ e. let d = alike-number q p e in absurd (omega (arith, d, n, m))) (λ e. e) in
    let k = t.next (simp (y, z, a)) in
    let c : number p ≡ (number q + 1) % 16 = simp y at k in omega (arith, c, n, m)

pub fed_is_needed : FedIsNeeded
fed_is_needed packed pid u p q e y n z m =
    let t = test-same pid in
    let o = payload_on-on pid p z in
    let k = kept_on packed pid p (Put pid u ∷ []) o in
    let v : renumbered 1 p ≡ kept_packet packed p (Put pid u ∷ []) = sym (k ∙ simp (t, e)) in
    let c = number-renumbered 1 p in
    let out : output packed (Put pid u ∷ Keep p ∷ []) ≡ q ∷ renumbered 1 p ∷ [] = ap (λ l. l ++ (kept_packet packed p (Put pid u ∷ []) ∷ [])) e ∙ ap (λ r. q ∷ r ∷ []) (sym v) in
    (alone pid p, λ h. gap pid (renumbered 1 p) q y (payload_on-renumbered pid 1 p ∙ z) n (c ∙ ap (λ j. (j + 1) % 16) m) (subst (IsGaplessAfter None pid) out h))
