-- A stretch that begins anew with a packet.
use Rattle.std.proofs.Common.{◌++◌, reverse, map, None, ◌≡◌, ℕ, suc, ◌+◌, List, [], ◌∷◌, length, Bool, true, false, refl, sym, ap, subst, ◌∙◌, arith}
use Rattle.std.specs.Prelude.{if◌then◌else◌}
use Rattle.std.proofs.lemmas.List.{reverse-append}
use Rattle.program_follower.specs.Faults.{network_fault}
use Rattle.on_air.proofs.MarkLemmas.{quiet}
use Rattle.psi_section.specs.Assembling.{capped}
use Rattle.psi_tables.specs.declared.network.NetworkFault.{NetworkFault}
use Rattle.program_follower.specs.declared.purpose.Purpose.{Purpose}
use Rattle.on_air.specs.Stretches.{Entry, Judgement, Judged, Passed, Damaged, Jumped, Verdict as Verdict', Is, BeginsNew, is_judged, as_first, first_entry, verdict, joined, with_next, as_read, stretches}
use Rattle.on_air.specs.Marking.{Keeps, Becomes, BecomesOf, is_judged_by}
use Rattle.on_air.specs.AirRuns.{AirStands, Counted, newest, has_no, unjudged_of, unjudged_in}
use Rattle.chain_engine.specs.Airing.{judged}
use Rattle.on_air.specs.Tails.{TailOf}
use Rattle.on_air.specs.AirOutputs.{aired, ended_of, ended_in}
use Rattle.on_air.specs.declared.air.Air.{Air}
use Rattle.on_air.specs.declared.marks.Marks.{Marks}
use Rattle.on_air.specs.declared.marks.Verdict.{Verdict}
use Rattle.on_air.specs.declared.marks.Verdict.TheVariants as verdicts

-- the packet does begin one, where there is one before it
pub begun : (answer : Verdict) (fault : NetworkFault) (m : Marks) (c : Purpose) (p : List ℕ) (ss : List (List Entry)) → has_no ss ≡ false → answer ≡ verdicts.BeginsAnew fault
    → Becomes answer m c p (newest ss) → with_next c p ss ≡ (first_entry c p ∷ []) ∷ ss
begun answer fault m c p [] some is b = absurd (cc)
begun answer fault m c p (past ∷ earlier) some is b = by_verdict (verdict c p past) (λ j. Keeps m c (record { packet = p; judgement = j } ∷ past)) b where
  by_verdict : (v : Verdict') (keeps : Judgement → Type 0) → BecomesOf answer v keeps → joined c v p past earlier ≡ (first_entry c p ∷ []) ∷ (past ∷ earlier)
  by_verdict (Is Judged) keeps b = let no : verdicts.Judged ≡ verdicts.BeginsAnew fault = sym b.0 ∙ is in absurd (cc)
  by_verdict (Is Passed) keeps b = let no : verdicts.Unjudged ≡ verdicts.BeginsAnew fault = sym b.0 ∙ is in absurd (cc)
  by_verdict (Is Damaged) keeps b = let no : verdicts.Unjudged ≡ verdicts.BeginsAnew fault = sym b.0 ∙ is in absurd (cc)
  by_verdict (Is Jumped) keeps b = let no : verdicts.Unjudged ≡ verdicts.BeginsAnew fault = sym b.0 ∙ is in absurd (cc)
  by_verdict (BeginsNew other) keeps b = refl

-- and is its first: judged or not
pub first-is : (answer : Verdict) (v : Verdict') (keeps : Judgement → Type 0) → BecomesOf answer v keeps
    → (is_judged (as_first v) ≡ is_judged_by answer) × keeps (as_first v)
first-is answer (Is Judged) keeps b = (sym (ap is_judged_by b.0), b.1)
first-is answer (Is Passed) keeps b = (sym (ap is_judged_by b.0), b.1)
first-is answer (Is Damaged) keeps b = (sym (ap is_judged_by b.0), b.1)
first-is answer (Is Jumped) keeps b = (sym (ap is_judged_by b.0), b.1)
first-is answer (BeginsNew fault) keeps b = (sym (ap is_judged_by b.0), b.1)

one-more : (n k : ℕ) → n ≡ capped k → capped (n + 1) ≡ capped (suc k)
one-more n k e = grind arith

-- what is counted of it
counted-first : (j : Judgement) (p : List ℕ) (b : Bool) (n k : ℕ) → is_judged j ≡ b → n ≡ capped k
    → (if b then n else capped (n + 1)) ≡ capped (unjudged_of (record { packet = p; judgement = j } ∷ []) + k)
counted-first Judged p b n k is e = subst (λ d. (if d then n else capped (n + 1)) ≡ capped (0 + k)) is (grind arith)
counted-first Passed p b n k is e = subst (λ d. (if d then n else capped (n + 1)) ≡ capped (1 + k)) is (grind arith)
counted-first Damaged p b n k is e = subst (λ d. (if d then n else capped (n + 1)) ≡ capped (1 + k)) is (grind arith)
counted-first Jumped p b n k is e = subst (λ d. (if d then n else capped (n + 1)) ≡ capped (1 + k)) is (grind arith)

pub stands-anew : {R : Type 0} (before anew now : Air R) (c : Purpose) (p : List ℕ) (ss : List (List Entry)) (b : Bool) → AirStands before c ss
    → anew.is_empty ≡ true → anew.stretches ≡ before.stretches → anew.unjudged ≡ before.unjudged → Counted anew now b → is_judged (as_first (verdict c p [])) ≡ b
    → Keeps now.marks c (first_entry c p ∷ []) → AirStands now c ((first_entry c p ∷ []) ∷ ss)
stands-anew before anew now c p ss b h empty stretches unjudged counted is keeps = record {
  marks = keeps;
  is_empty = counted.is_empty;
  stretches = counted.stretches ∙ ap (λ e. if e then capped (anew.stretches + 1) else anew.stretches) empty ∙ one-more anew.stretches (length ss) (stretches ∙ h.stretches);
  unjudged = counted.unjudged ∙ counted-first (as_first (verdict c p [])) p b anew.unjudged (unjudged_in ss) is (unjudged ∙ h.unjudged);
}

-- ---- a stretch without a fault so far: all its packets are judged, and nothing is kept

pub record SoundAir {R : Type 0} (air : Air R) (c : Purpose) (ps : List (List ℕ)) : Type 0 where
  pub none : air.marks.has_any ≡ false
  pub stands : AirStands air c (stretches c (reverse ps))
  pub read : as_read (newest (stretches c (reverse ps))) ≡ reverse ps
  pub only : ended_in c (stretches c (reverse ps)) ≡ []
  pub aired_so : aired (newest (stretches c (reverse ps))) ≡ map judged (reverse ps)
  pub tail : TailOf air.tail c (reverse ps)
  pub ended : air.ended ≡ None

pub sound-none : {R : Type 0} (air : Air R) (c : Purpose) → air.marks.has_any ≡ false → AirStands air c [] → TailOf air.tail c [] → air.ended ≡ None → SoundAir air c []
sound-none air c none stands tail ended = record { none = none; stands = stands; read = refl; only = refl; aired_so = refl; tail = tail; ended = ended }

is-judged : (v : Verdict') (keeps : Judgement → Type 0) → BecomesOf verdicts.Judged v keeps → (v ≡ Is Judged) × keeps Judged
is-judged (Is Judged) keeps b = (refl, b.1)
is-judged (Is Passed) keeps b = let no = b.0 in absurd (cc)
is-judged (Is Damaged) keeps b = let no = b.0 in absurd (cc)
is-judged (Is Jumped) keeps b = let no = b.0 in absurd (cc)
is-judged (BeginsNew fault) keeps b = let no = b.0 in absurd (cc)

judged-next : {R : Type 0} (old new : Air R) (c : Purpose) (p : List ℕ) (ss : List (List Entry)) → AirStands old c ss → Counted old new true
    → verdict c p (newest ss) ≡ Is Judged → Keeps old.marks c (record { packet = p; judgement = Judged } ∷ newest ss)
    → AirStands new c (with_next c p ss) × (as_read (newest (with_next c p ss)) ≡ p ∷ as_read (newest ss))
    × (ended_in c (with_next c p ss) ≡ ended_in c ss) × (aired (newest (with_next c p ss)) ≡ judged p ∷ aired (newest ss))
judged-next old new c p [] h counted is keeps =
    let first : first_entry c p ≡ record { packet = p; judgement = Judged } = ap (λ v. record { packet = p; judgement = as_first v }) is in (
      record {
        marks = subst (λ m. Keeps m c (first_entry c p ∷ [])) (sym counted.marks) (subst (λ e. Keeps old.marks c (e ∷ [])) (sym first) keeps);
        is_empty = counted.is_empty;
        stretches = counted.stretches ∙ ap (λ e. if e then capped (old.stretches + 1) else old.stretches) h.is_empty ∙ one-more old.stretches 0 h.stretches;
        unjudged = counted.unjudged ∙ h.unjudged ∙ ap (λ e. capped (unjudged_in ((e ∷ []) ∷ []))) (sym first);
      },
      ap (λ e. as_read (e ∷ [])) first,
      refl,
      ap (λ e. aired (e ∷ [])) first,
    )
judged-next old new c p (past ∷ earlier) h counted is keeps =
    subst (λ v. AirStands new c (joined c v p past earlier) × (as_read (newest (joined c v p past earlier)) ≡ p ∷ as_read past)
    × (ended_in c (joined c v p past earlier) ≡ map (ended_of c) earlier) × (aired (newest (joined c v p past earlier)) ≡ judged p ∷ aired past)) (sym is) (
      record {
        marks = subst (λ m. Keeps m c (record { packet = p; judgement = Judged } ∷ past)) (sym counted.marks) keeps;
        is_empty = counted.is_empty;
        stretches = counted.stretches ∙ ap (λ e. if e then capped (old.stretches + 1) else old.stretches) h.is_empty ∙ h.stretches;
        unjudged = counted.unjudged ∙ h.unjudged;
      },
      refl,
      refl,
      refl,
    )

pub sound-next : {R : Type 0} (old new : Air R) (c : Purpose) (ps : List (List ℕ)) (p : List ℕ) → SoundAir old c ps → Counted old new true
    → network_fault c p (reverse ps) ≡ None → TailOf new.tail c (p ∷ reverse ps) → new.ended ≡ old.ended → SoundAir new c (ps ++ p ∷ [])
sound-next old new c ps p h counted sound tail ended =
    let ss = stretches c (reverse ps) in
    let past = newest ss in
    let quiet-so = quiet old.marks c p past h.stands.marks h.none (ap (network_fault c p) h.read ∙ sound) in
    let v = is-judged (verdict c p past) (λ j. Keeps old.marks c (record { packet = p; judgement = j } ∷ past)) quiet-so in
    let next = judged-next old new c p ss h.stands counted v.0 v.1 in
    let all : reverse (ps ++ p ∷ []) ≡ p ∷ reverse ps = reverse-append ps (p ∷ []) in
    record {
      none = ap (λ m. m.has_any) counted.marks ∙ h.none;
      stands = subst (λ l. AirStands new c (stretches c l)) (sym all) next.0;
      read = subst (λ l. as_read (newest (stretches c l)) ≡ l) (sym all) (next.1 ∙ ap (λ l. p ∷ l) h.read);
      only = subst (λ l. ended_in c (stretches c l) ≡ []) (sym all) (next.2 ∙ h.only);
      aired_so = subst (λ l. aired (newest (stretches c l)) ≡ map judged l) (sym all) (next.3 ∙ ap (λ l. judged p ∷ l) h.aired_so);
      tail = subst (TailOf new.tail c) (sym all) tail;
      ended = ended ∙ h.ended;
    }
