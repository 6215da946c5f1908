-- What is kept of the streams: where it is told of none, of each; and behind a packet.
use Rattle.std.proofs.Common.{◌≡◌, ℕ, zero, suc, ◌<◌, List, [], ◌∷◌, length, Bool, true, false, ◌&&◌, ◌==◌, refl, sym, ap, subst, ◌∙◌, Option, None, Some}
use Rattle.std.specs.Prelude.{slice_index_or, slice_set, is_some, if◌then◌else◌}
use Rattle.std.specs.List.{list_any}
use Rattle.std.proofs.lemmas.Bool.{or_parts, eqb-true, eqb-false}
use Rattle.std.proofs.lemmas.List.{get_or-set_same, get_or-set_other}
use Rattle.ts_packet.specs.Fields.{payload, alike}
use Rattle.ts_packet.proofs.Cases.{by_test}
use Rattle.psi_tables.specs.declared.network.NetworkFault.{NetworkFault}
use Rattle.program_follower.specs.declared.purpose.Purpose.{Purpose}
use Rattle.program_follower.specs.Faults.{network_fault}
use Rattle.on_air.specs.Stretches.{Entry, Judgement, Judged, Passed, Damaged, Jumped, Verdict as Verdict', Is, BeginsNew, as_read, is_of, is_stream, is_timed, stream_at, in_damaged, jumped_last, last_payload, repeats_jumped, verdict_at, verdict_of}
use Rattle.on_air.specs.Marking.{keeps_any, nothing, KeepsOf, Keeps, BecomesOf, Becomes}
use Rattle.on_air.specs.declared.marks.Verdict.{Verdict}
use Rattle.on_air.specs.declared.marks.Verdict.TheVariants as verdicts
use Rattle.on_air.specs.declared.marks.StreamMarks.{StreamMarks}
use Rattle.on_air.specs.declared.marks.Marks.{Marks}

none-of : (streams : List StreamMarks) → list_any keeps_any streams ≡ false → (n : ℕ) → keeps_any (slice_index_or streams n nothing) ≡ false
none-of [] h n = refl
none-of (s ∷ streams) h zero = (or_parts (keeps_any s) (list_any keeps_any streams) h).0
none-of (s ∷ streams) h (suc n) = none-of streams (or_parts (keeps_any s) (list_any keeps_any streams) h).1 n

-- ---- nothing is kept, and a packet without a fault comes

stays-false : (a b d : Bool) → d ≡ false → (if a then (if b then false else d) else d) ≡ false
stays-false true true d h = refl
stays-false true false d h = h
stays-false false b d h = h

rep-false : (q p : List ℕ) (b : Bool) (o : Option Entry) → repeats_jumped q o ≡ false
    → repeats_jumped q (if b then Some (record { packet = p; judgement = Judged }) else o) ≡ false
rep-false q p true o h = refl
rep-false q p false o h = h

quiet-of : (s : StreamMarks) (c : Purpose) (k : ℕ) (p : List ℕ) (past : List Entry) → KeepsOf s c k past → keeps_any s ≡ false
    → KeepsOf s c k (record { packet = p; judgement = Judged } ∷ past)
quiet-of s c k p past h none =
    let parts = or_parts _ s.is_jump none in
    let flags = or_parts s.is_damaged s.has_jumped parts.0 in
    let e : Entry = record { packet = p; judgement = Judged } in
    let still : (q : List ℕ) → (s.is_jump && alike s.jump q) ≡ false = (λ q. ap (λ b. b && alike s.jump q) parts.1) in
    record {
      damaged = flags.0 ∙ sym (stays-false (is_of c k e past) (is_timed c e past) (in_damaged c k past) (sym h.damaged ∙ flags.0));
      jumped = flags.1 ∙ sym (stays-false (is_of c k e past) (is_timed c e past) (jumped_last c k past) (sym h.jumped ∙ flags.1));
      repeats = λ q. still q ∙ sym (rep-false q p (is_of c k e past && is_some (payload p)) (last_payload c k past) (sym (h.repeats q) ∙ still q));
    }

pub quiet : (m : Marks) (c : Purpose) (p : List ℕ) (past : List Entry) → Keeps m c past → m.has_any ≡ false → network_fault c p (as_read past) ≡ None
    → Becomes verdicts.Judged m c p past
quiet m c p past h none sound = by_stream (stream_at c p past) where
  more : Keeps m c (record { packet = p; judgement = Judged } ∷ past)
  more = record {
    streams = λ n. quiet-of (slice_index_or m.streams n nothing) c n p past (h.streams n) (h.none none n);
    none = h.none;
  }

  by_stream : (o : Option ℕ) → BecomesOf verdicts.Judged (verdict_at c o p past) (λ j. Keeps m c (record { packet = p; judgement = j } ∷ past))
  by_stream None = simp sound (refl, more)
  by_stream (Some n) =
      let flags = or_parts _ (slice_index_or m.streams n nothing).is_jump (h.none none n) in
      let undamaged : in_damaged c n past ≡ false = sym (h.streams n).damaged ∙ (or_parts (slice_index_or m.streams n nothing).is_damaged _ flags.0).0 in
      simp (sound, undamaged) (refl, more)

-- ---- a packet of a stream

becomes-more : (answer : Verdict) (v : Verdict') (P Q : Judgement → Type 0) → ((j : Judgement) → P j → Q j) → BecomesOf answer v P → BecomesOf answer v Q
becomes-more answer (Is Judged) P Q f h = (h.0, f Judged h.1)
becomes-more answer (Is Passed) P Q f h = (h.0, f Passed h.1)
becomes-more answer (Is Damaged) P Q f h = (h.0, f Damaged h.1)
becomes-more answer (Is Jumped) P Q f h = (h.0, f Jumped h.1)
becomes-more answer (BeginsNew fault) P Q f h = (h.0, f Passed h.1)

-- it says nothing of other streams
keeps-off : (s : StreamMarks) (c : Purpose) (k : ℕ) (e : Entry) (past : List Entry) → is_of c k e past ≡ false → KeepsOf s c k past → KeepsOf s c k (e ∷ past)
keeps-off s c k e past off h = record {
  damaged = simp off h.damaged;
  jumped = simp off h.jumped;
  repeats = λ q. simp off (h.repeats q);
}

pub of-stream : (m : Marks) (c : Purpose) (n : ℕ) (p : List ℕ) (past : List Entry) (fault : Option NetworkFault) (new : StreamMarks) (streams : List StreamMarks) (any : Bool) (answer : Verdict)
    → Keeps m c past → n < length m.streams → stream_at c p past ≡ Some n → fault ≡ network_fault c p (as_read past)
    → (KeepsOf (slice_index_or m.streams n nothing) c n past → BecomesOf answer (verdict_of c n fault p past) (λ j. KeepsOf new c n (record { packet = p; judgement = j } ∷ past)))
    → streams ≡ slice_set m.streams n new → any ≡ list_any keeps_any streams → Becomes answer (record { streams = streams; has_any = any }) c p past
of-stream m c n p past fault new streams any answer h below at is takes set told =
    let one = becomes-more answer (verdict_of c n fault p past) _ (λ j. Keeps (record { streams = streams; has_any = any }) c (record { packet = p; judgement = j } ∷ past)) all (takes (h.streams n)) in
    subst (λ o. BecomesOf answer (verdict_at c o p past) (λ j. Keeps (record { streams = streams; has_any = any }) c (record { packet = p; judgement = j } ∷ past))) (sym at)
    (subst (λ f. BecomesOf answer (verdict_of c n f p past) (λ j. Keeps (record { streams = streams; has_any = any }) c (record { packet = p; judgement = j } ∷ past))) is one) where
      slot : (j : Judgement) → KeepsOf new c n (record { packet = p; judgement = j } ∷ past) → (k : ℕ) → KeepsOf (slice_index_or streams k nothing) c k (record { packet = p; judgement = j } ∷ past)
      slot j mine k =
          by_test (n == k)
          (λ y. let same = eqb-true n k y in
          subst (λ i. KeepsOf (slice_index_or streams i nothing) c i (record { packet = p; judgement = j } ∷ past)) same
          (subst (λ s. KeepsOf s c n (record { packet = p; judgement = j } ∷ past)) (sym (ap (λ l. slice_index_or l n nothing) set ∙ get_or-set_same m.streams n new nothing below)) mine))
          (λ no. let off : is_of c k (record { packet = p; judgement = j }) past ≡ false = ap (is_stream k) at ∙ no in
          keeps-off (slice_index_or streams k nothing) c k (record { packet = p; judgement = j }) past off
          (subst (λ s. KeepsOf s c k past) (sym (ap (λ l. slice_index_or l k nothing) set ∙ get_or-set_other m.streams n k new nothing (λ e. eqb-false n k no (sym e)))) (h.streams k)))

      all : (j : Judgement) → KeepsOf new c n (record { packet = p; judgement = j } ∷ past) → Keeps (record { streams = streams; has_any = any }) c (record { packet = p; judgement = j } ∷ past)
      all j mine = record { streams = slot j mine; none = λ none. none-of streams (sym told ∙ none) }
