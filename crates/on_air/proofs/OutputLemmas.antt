-- What is out behind one packet more: it joins the stretch, or begins one anew.
use Rattle.std.proofs.Common.{◌≡◌, ℕ, suc, ◌+◌, List, [], ◌∷◌, ◌++◌, map, reverse, length, arith, Bool, true, false, Option, None, Some, refl, sym, ap, subst, ◌∙◌}
use Rattle.std.specs.Prelude.{if◌then◌else◌, cond, not}
use Rattle.std.proofs.lemmas.List.Sums.{sum_by-cons}
use Rattle.ts_packet.specs.Fields.{marked}
use Rattle.psi_tables.specs.declared.network.NetworkFault.{NetworkFault}
use Rattle.program_follower.specs.declared.purpose.Purpose.{Purpose}
use Rattle.chain_engine.specs.Airing.{Aired, judged, Stretch, WentOnAir, total}
use Rattle.on_air.specs.Stretches.{Entry, Judgement, Judged, Passed, Damaged, Jumped, Verdict as Verdict', Is, BeginsNew, is_judged, as_first, first_entry, verdict, joined, with_next, as_read, stretches}
use Rattle.on_air.specs.Marking.{Keeps, Becomes, BecomesOf, is_judged_by}
use Rattle.psi_section.specs.Assembling.{capped}
use Rattle.on_air.specs.AirRuns.{AirStands, Counted, newest, has_no, unjudged_of, unjudged_in}
use Rattle.on_air.specs.Tails.{TailOf, tail_behind}
use Rattle.on_air.specs.AirOutputs.{aired, ended_of, ended_in, sum_of, IsOnAir, BeganAnew}
use Rattle.on_air.proofs.AirLemmas.{SoundAir}
use Rattle.on_air.specs.declared.air.Air.{Air}
use Rattle.on_air.specs.declared.marks.Marks.{Marks}
use Rattle.on_air.specs.declared.marks.Verdict.{Verdict}
use Rattle.on_air.specs.declared.marks.Verdict.TheVariants as verdicts

abbrev pub entry_of : List ℕ → Judgement → Entry
entry_of p j = record { packet = p; judgement = j }

-- all but the newest stretch
abbrev pub earlier_of : List (List Entry) → List (List Entry)
earlier_of [] = []
earlier_of (past ∷ earlier) = earlier

-- ---- which stretches there are

-- the packet joins the newest stretch so, of which this is kept
pub record Joins (m : Marks) (c : Purpose) (p : List ℕ) (ss : List (List Entry)) (b : Bool) : Type 0 where
  pub judgement : Judgement
  pub is : is_judged judgement ≡ b
  pub keeps : Keeps m c (entry_of p judgement ∷ newest ss)
  pub next : with_next c p ss ≡ (entry_of p judgement ∷ newest ss) ∷ earlier_of ss

joins-is : (m : Marks) (c : Purpose) (p : List ℕ) (ss : List (List Entry)) (j : Judgement) (b : Bool) → is_judged j ≡ b → Keeps m c (entry_of p j ∷ newest ss) → verdict c p (newest ss) ≡ Is j
    → Joins m c p ss b
joins-is m c p [] j b is keeps v = record { judgement = j; is = is; keeps = keeps; next = ap (λ w. (entry_of p (as_first w) ∷ []) ∷ []) v }
joins-is m c p (past ∷ earlier) j b is keeps v = record { judgement = j; is = is; keeps = keeps; next = ap (λ w. joined c w p past earlier) v }

joins-by : (answer : Verdict) (m : Marks) (c : Purpose) (p : List ℕ) (ss : List (List Entry)) (v : Verdict') → verdict c p (newest ss) ≡ v → BecomesOf answer v (λ j. Keeps m c (entry_of p j ∷ newest ss))
    → ((fault : NetworkFault) → answer ≡ verdicts.BeginsAnew fault → has_no ss ≡ true) → Joins m c p ss (is_judged_by answer)
joins-by answer m c p ss (Is Judged) v b first = joins-is m c p ss Judged (is_judged_by answer) (sym (ap is_judged_by b.0)) b.1 v
joins-by answer m c p ss (Is Passed) v b first = joins-is m c p ss Passed (is_judged_by answer) (sym (ap is_judged_by b.0)) b.1 v
joins-by answer m c p ss (Is Damaged) v b first = joins-is m c p ss Damaged (is_judged_by answer) (sym (ap is_judged_by b.0)) b.1 v
joins-by answer m c p ss (Is Jumped) v b first = joins-is m c p ss Jumped (is_judged_by answer) (sym (ap is_judged_by b.0)) b.1 v
joins-by answer m c p [] (BeginsNew fault) v b first =
    record { judgement = Passed; is = sym (ap is_judged_by b.0); keeps = b.1; next = ap (λ w. (entry_of p (as_first w) ∷ []) ∷ []) v }
joins-by answer m c p (past ∷ earlier) (BeginsNew fault) v b first = let none : false ≡ true = first fault b.0 in absurd (cc)

pub joins : (answer : Verdict) (m : Marks) (c : Purpose) (p : List ℕ) (ss : List (List Entry)) (b : Bool) → Becomes answer m c p (newest ss) → is_judged_by answer ≡ b
    → ((fault : NetworkFault) → answer ≡ verdicts.BeginsAnew fault → has_no ss ≡ true) → Joins m c p ss b
joins answer m c p ss b becomes is first = subst (Joins m c p ss) is (joins-by answer m c p ss (verdict c p (newest ss)) refl becomes first)

ended-earlier : (c : Purpose) (ss : List (List Entry)) → map (ended_of c) (earlier_of ss) ≡ ended_in c ss
ended-earlier c [] = refl
ended-earlier c (past ∷ earlier) = refl

-- those that ended, where a stretch begins anew behind some
ended-all : (c : Purpose) (ss : List (List Entry)) → has_no ss ≡ false
    → map (ended_of c) ss ≡ record { packets = aired (newest ss); behind = tail_behind c (as_read (newest ss)) } ∷ ended_in c ss
ended-all c [] some = absurd (cc)
ended-all c (past ∷ earlier) some = refl

-- ---- what is counted

count-joined : (n : ℕ) (b : Bool) (ss : List (List Entry)) → b ≡ has_no ss → n ≡ capped (length ss) → (if b then capped (n + 1) else n) ≡ capped (suc (length (earlier_of ss)))
count-joined n b [] is h = ap (λ (q : Bool). if q then capped (n + 1) else n) is ∙ grind (arith, h)
count-joined n b (past ∷ earlier) is h = ap (λ (q : Bool). if q then capped (n + 1) else n) is ∙ h

unjudged-more : (j : Judgement) (p : List ℕ) (past : List Entry) → unjudged_of (entry_of p j ∷ past) ≡ cond (not (is_judged j)) 1 0 + unjudged_of past
unjudged-more j p past = sum_by-cons (λ (e : Entry). cond (not (is_judged e.judgement)) 1 0) (entry_of p j) past

unjudged-by : (j : Judgement) (b : Bool) (n m k : ℕ) → is_judged j ≡ b → n ≡ capped (m + k) → (if b then n else capped (n + 1)) ≡ capped ((cond (not (is_judged j)) 1 0 + m) + k)
unjudged-by Judged b n m k is e = subst (λ d. (if d then n else capped (n + 1)) ≡ capped ((0 + m) + k)) is (grind (arith, e))
unjudged-by Passed b n m k is e = subst (λ d. (if d then n else capped (n + 1)) ≡ capped ((1 + m) + k)) is (grind (arith, e))
unjudged-by Damaged b n m k is e = subst (λ d. (if d then n else capped (n + 1)) ≡ capped ((1 + m) + k)) is (grind (arith, e))
unjudged-by Jumped b n m k is e = subst (λ d. (if d then n else capped (n + 1)) ≡ capped ((1 + m) + k)) is (grind (arith, e))

unjudged-joined : (j : Judgement) (p : List ℕ) (past : List Entry) (b : Bool) (n k : ℕ) → is_judged j ≡ b → n ≡ capped (unjudged_of past + k)
    → (if b then n else capped (n + 1)) ≡ capped (unjudged_of (entry_of p j ∷ past) + k)
unjudged-joined j p past b n k is e = unjudged-by j b n (unjudged_of past) k is e ∙ ap (λ m. capped (m + k)) (sym (unjudged-more j p past))

unjudged-all : (ss : List (List Entry)) → unjudged_in ss ≡ unjudged_of (newest ss) + unjudged_in (earlier_of ss)
unjudged-all [] = refl
unjudged-all (past ∷ earlier) = refl

pub joins-stands : {R : Type 0} (m : Marks) (old new : Air R) (c : Purpose) (p : List ℕ) (ss : List (List Entry)) (b : Bool) → AirStands old c ss → Joins m c p ss b → Counted (record old { marks = m }) new b
    → AirStands new c (with_next c p ss)
joins-stands m old new c p ss b h j counted =
    subst (AirStands new c) (sym j.next) (record {
      marks = subst (λ w. Keeps w c (entry_of p j.judgement ∷ newest ss)) (sym counted.marks) j.keeps;
      is_empty = counted.is_empty;
      stretches = counted.stretches ∙ count-joined old.stretches old.is_empty ss h.is_empty h.stretches;
      unjudged = counted.unjudged ∙ unjudged-joined j.judgement p (newest ss) b old.unjudged (unjudged_in (earlier_of ss)) j.is (h.unjudged ∙ ap capped (unjudged-all ss));
    })

pub joins-follows : {S : Type 0} (follows : S → Purpose → List (List ℕ) → Type 0) (m : Marks) (stage : S) (c : Purpose) (p : List ℕ) (ss : List (List Entry)) (b : Bool) → Joins m c p ss b
    → follows stage c ((if b then p else marked p) ∷ as_read (newest ss)) → follows stage c (as_read (newest (with_next c p ss)))
joins-follows follows m stage c p ss b j f =
    subst (λ w. follows stage c (as_read (newest w))) (sym j.next) (subst (λ q. follows stage c ((if q then p else marked p) ∷ as_read (newest ss))) (sym j.is) f)

-- ---- what is out

module _ {S R : Type 0} (summed : R → R → R) (airs : List Stretch → List Aired → List R → List (List ℕ) → S → Type 0) (c : Purpose) (p : List ℕ) (ss : List (List Entry)) (b : Bool) where
  pub joins-on-air : (m : Marks) (old new : Air R) (stage stage' : S) (is_out is_out' : List (List ℕ) → Type 0) → (h : IsOnAir summed airs old stage c ss is_out) → Joins m c p ss b
      → TailOf new.tail c ((if b then p else marked p) ∷ as_read (newest ss)) → new.ended ≡ old.ended
      → WentOnAir (airs (ended_in c ss) (record { packet = p; is_judged = b } ∷ aired (newest ss)) h.told) stage' is_out' → IsOnAir summed airs new stage' c (with_next c p ss) is_out'
  joins-on-air m old new stage stage' is_out is_out' h j tail ended went =
      subst (λ w. IsOnAir summed airs new stage' c w is_out') (sym j.next) (record {
        tail = subst (λ q. TailOf new.tail c ((if q then p else marked p) ∷ as_read (newest ss))) (sym j.is) tail;
        told = h.told;
        ended = ended ∙ h.ended;
        sent = went.sent;
        airs_so = subst (λ l. airs l (aired (entry_of p j.judgement ∷ newest ss)) h.told went.sent stage') (sym (ended-earlier c ss))
            (subst (λ q. airs (ended_in c ss) (record { packet = p; is_judged = q } ∷ aired (newest ss)) h.told went.sent stage') (sym j.is) went.airs_so);
        out = went.out;
      })

  pub begins-on-air : (began new : Air R) (stage stage' : S) (is_out is_out' : List (List ℕ) → Type 0) (qs : List (List ℕ)) → has_no ss ≡ false
      → with_next c p ss ≡ (first_entry c p ∷ []) ∷ ss → is_judged (as_first (verdict c p [])) ≡ b
      → (h : BeganAnew summed airs began stage c (as_read (newest ss)) (ended_in c ss) (aired (newest ss)) qs is_out)
      → TailOf new.tail c ((if b then p else marked p) ∷ []) → new.ended ≡ began.ended
      → WentOnAir (airs (record { packets = aired (newest ss); behind = tail_behind c (as_read (newest ss)) } ∷ ended_in c ss) (record { packet = p; is_judged = b } ∷ []) h.told) stage' is_out'
      → IsOnAir summed airs new stage' c (with_next c p ss) is_out'
  begins-on-air began new stage stage' is_out is_out' qs some next is h tail ended went =
      subst (λ w. IsOnAir summed airs new stage' c w is_out') (sym next) (record {
        tail = subst (λ q. TailOf new.tail c ((if q then p else marked p) ∷ [])) (sym is) tail;
        told = h.told;
        ended = ended ∙ h.ended_so;
        sent = went.sent;
        airs_so = subst (λ l. airs l (aired (first_entry c p ∷ [])) h.told went.sent stage') (sym (ended-all c ss some))
            (subst (λ q. airs (record { packets = aired (newest ss); behind = tail_behind c (as_read (newest ss)) } ∷ ended_in c ss) (record { packet = p; is_judged = q } ∷ []) h.told went.sent stage') (sym is) went.airs_so);
        out = went.out;
      })

-- ---- sums

-- what was counted in the first stretch that ended, and in one more
pub sum-none : {R : Type 0} (summed : R → R → R) (old : Option R) (told : List R) (report : R) → old ≡ sum_of summed told → old ≡ None → Some report ≡ sum_of summed (report ∷ told)
sum-none summed old [] report e none = refl
sum-none summed old (before ∷ earlier) report e none = let no : None ≡ Some (total summed before earlier) = sym none ∙ e in absurd (cc)

pub sum-some : {R : Type 0} (summed : R → R → R) (old : Option R) (told : List R) (report ended : R) → old ≡ sum_of summed told → old ≡ Some ended
    → Some (summed ended report) ≡ sum_of summed (report ∷ told)
sum-some summed old [] report ended e some = let no : None ≡ Some ended = sym e ∙ some in absurd (cc)
sum-some summed old (before ∷ earlier) report ended e some =
    let same : Some ended ≡ Some (total summed before earlier) = sym some ∙ e in
    let is : ended ≡ total summed before earlier = cc in
    ap (λ r. Some (summed r report)) is

-- ---- a stretch without a fault so far

pub sound-on-air : {S R : Type 0} (summed : R → R → R) (airs : List Stretch → List Aired → List R → List (List ℕ) → S → Type 0) (air : Air R) (stage : S) (c : Purpose) (ps sent : List (List ℕ))
    (is_out : List (List ℕ) → Type 0) → SoundAir air c ps → airs [] (map judged (reverse ps)) [] sent stage → is_out sent → IsOnAir summed airs air stage c (stretches c (reverse ps)) is_out
sound-on-air summed airs air stage c ps sent is_out s h out = record {
  tail = subst (TailOf air.tail c) (sym s.read) s.tail;
  told = [];
  ended = s.ended;
  sent = sent;
  airs_so = subst (λ l. airs l (aired (newest (stretches c (reverse ps)))) [] sent stage) (sym s.only) (subst (λ l. airs [] l [] sent stage) (sym s.aired_so) h);
  out = out;
}

-- what is out may be said of a later output
pub still-on-air : {S R : Type 0} (summed : R → R → R) (airs : List Stretch → List Aired → List R → List (List ℕ) → S → Type 0) (air : Air R) (stage : S) (c : Purpose) (ss : List (List Entry))
    (is_out is_out' : List (List ℕ) → Type 0) → ((qs : List (List ℕ)) → is_out qs → is_out' qs) → IsOnAir summed airs air stage c ss is_out → IsOnAir summed airs air stage c ss is_out'
still-on-air summed airs air stage c ss is_out is_out' so h = record { tail = h.tail; told = h.told; ended = h.ended; sent = h.sent; airs_so = h.airs_so; out = so h.sent h.out }
