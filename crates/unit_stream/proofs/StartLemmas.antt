-- A packet with the start bit repeats none but the payload packet before it, which has the start bit too.
use Rattle.std.proofs.Common.{◌≡◌, ℕ, List, [], ◌∷◌, true, false, not, ◌&&◌, ◌==◌, refl, sym, ap, ◌∙◌, Option, Some, None}
use Rattle.std.specs.Prelude.{is_some, option_map}
use Rattle.std.specs.Borrow.{Bor}
use Rattle.std.proofs.lemmas.Bool.{and_right}
use Rattle.ts_packet.specs.Fields.{payload_on, payload, unit_start, alike, carries_as, number}
use Rattle.ts_packet.specs.Duplicates.{original, repeats}
use Rattle.ts_packet.proofs.Cases.{by_test}
use Rattle.ts_packet.proofs.FieldLemmas.{payload-some}
use Rattle.unit_stream.specs.Times.{begins}
use Rattle.unit_stream.specs.Starts.{since_more, ReadsStarts, IsBegin}
use Rattle.unit_stream.proofs.ReadingLemmas.{bytes_are}
use Rattle.unit_stream.specs.declared.starts.StartReader.{StartReader}

-- packets whose start bits differ are not alike
unlike : (q p : List ℕ) → unit_start q ≡ false → unit_start p ≡ true → alike q p ≡ false
unfolding alike carries_as
unlike q p h k = and_right (number q == number p) _ (rw (h, k) refl)

same_repeats : (pid : ℕ) (q p : List ℕ) (past : List (List ℕ)) → unit_start p ≡ true
    → ((r : List ℕ) → unit_start r ≡ true → repeats pid r (since_more pid past) ≡ repeats pid r past)
    → repeats pid p (since_more pid (q ∷ past)) ≡ repeats pid p (q ∷ past)
same_repeats pid q p past start before =
    by_test (payload_on pid q)
    (λ y. by_test (unit_start q)
    (λ s. let b = before q s in simp (y, s, b))
    (λ s. let a = unlike q p s start in simp (y, s, a)))
    (λ y. let b = before p start in simp (y, b))

pub start_repeats : (pid : ℕ) (p : List ℕ) (past : List (List ℕ)) → unit_start p ≡ true → repeats pid p (since_more pid past) ≡ repeats pid p past
start_repeats pid p [] start = refl
start_repeats pid p (q ∷ past) start = same_repeats pid q p past start (λ r s. start_repeats pid r past s)

-- a packet with the start bit is new to the reader where it is new
pub start_original : (pid : ℕ) (p : List ℕ) (past : List (List ℕ)) → unit_start p ≡ true → original pid p (since_more pid past) ≡ original pid p past
start_original pid p past start = ap (λ b. payload_on pid p && not b) (start_repeats pid p past start)

-- ---- one packet more

-- without payload on the PID
pub starts_passed : (r : StartReader) (pid : ℕ) (p : List ℕ) (past : List (List ℕ)) → payload_on pid p ≡ false → ReadsStarts r pid past → ReadsStarts r pid (p ∷ past)
starts_passed r pid p past y h = record { same = h.same; follows = simp y (record { same = h.follows.same; last = simp y h.follows.last }) }

-- ---- what is answered

pub begin_is : (o : Option (Bor (List ℕ))) (pid : ℕ) (p : List ℕ) (past : List (List ℕ)) → payload_on pid p ≡ true → begins pid p past ≡ true → option_map (λ (b : Bor (List ℕ)). b.now) o ≡ payload p → IsBegin o pid p past
begin_is None pid p past y h is = absurd (let e : false ≡ true = ap is_some is ∙ payload-some pid p y in cc)
begin_is (Some b) pid p past y h is = (h, bytes_are p b.now (sym is))
