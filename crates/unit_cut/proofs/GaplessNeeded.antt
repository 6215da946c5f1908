-- Without gapless counters the units in what the cut leaves need not be the units that stay: three packets.
use Rattle.std.specs.Prelude.{ℤ}
use Rattle.std.proofs.Common.{◌≡◌, ℕ, ◌+◌, ◌%◌, List, [], ◌∷◌, ◌++◌, Bool, true, false, ◌&&◌, refl, ap, ◌∙◌, if◌then◌else◌, Option, arith}
use Rattle.std.proofs.lemmas.List.{append-nil}
use Rattle.ts_packet.specs.Fields.{payload_on, unit_start, number, payload, bytes, carries_as, alike, renumbered}
use Rattle.ts_packet.specs.Duplicates.{original}
use Rattle.ts_packet.proofs.Cases.{by_test}
use Rattle.ts_packet.proofs.FieldLemmas.{number-below, number-renumbered, start-renumbered, payload_on-renumbered, payload_on-on, payload-renumbered, bytes-renumbered, alike-number}
use Rattle.unit_stream.specs.Times.{unit_time}
use Rattle.unit_stream.specs.Units.{units, payloads}
use Rattle.unit_stream.specs.Fates.{is_cut}
use Rattle.ts_packet.proofs.EqualLemmas.{same-byte, same-payload, same-flag}
use Rattle.unit_cut.specs.Cutting.{staying}
use Rattle.unit_cut.proofs.Counted.{gone, kept_as, counted_cut, cut_is}
use Rattle.unit_cut.specs.Laws.{GaplessIsNeeded}
use Rattle.unit_cut.proofs.InOrder.{cut_after, cut_after-cons}

-- moved up by 1 and then by 15 it is like the packet itself
around : (p : List ℕ) → alike (renumbered 0 p) (renumbered 15 (renumbered 1 p)) ≡ true
unfolding alike carries_as
around p =
    let e : ((number p + 1) % 16 + 15) % 16 ≡ (number p + 0) % 16 = omega arith in
    rw (
      number-renumbered 0 p,
      number-renumbered 15 (renumbered 1 p),
      number-renumbered 1 p,
      start-renumbered 0 p,
      start-renumbered 15 (renumbered 1 p),
      start-renumbered 1 p,
      payload-renumbered 0 p,
      payload-renumbered 15 (renumbered 1 p),
      payload-renumbered 1 p,
      e,
      same-byte ((number p + 0) % 16),
      same-flag (unit_start p),
      same-payload (payload p),
    ) refl

-- of two packets that are alike one unit is read
one_unit : (sw : List ℕ) (pid : ℕ) (a b : List ℕ) → payload_on pid a ≡ true → unit_start a ≡ true → payload_on pid b ≡ true → alike a b ≡ true
    → payloads (units sw pid (a ∷ b ∷ [])) ≡ bytes a ∷ []
one_unit sw pid a b ya sa yb e = simp (ya, sa, yb, e, append-nil)

-- three unit starts are three units
three_units : (goes : Option ℤ → Bool) (sw : List ℕ) (pid : ℕ) (a b c : List ℕ) → original pid a [] ≡ true → original pid b (a ∷ []) ≡ true → original pid c (b ∷ a ∷ []) ≡ true
    → unit_start a ≡ true → unit_start b ≡ true → unit_start c ≡ true
    → goes (unit_time sw pid (a ∷ [])) ≡ false → goes (unit_time sw pid (b ∷ a ∷ [])) ≡ true → goes (unit_time sw pid (c ∷ b ∷ a ∷ [])) ≡ false
    → payloads (staying goes (units sw pid (a ∷ b ∷ c ∷ []))) ≡ bytes a ∷ bytes c ∷ []
three_units goes sw pid a b c oa ob oc sa sb sc ga gb gc =
    let fa = simp (oa, sa) at ga in
    let fb = simp (oa, ob, sa, sb) at gb in
    let fc = simp (oa, ob, oc, sa, sb, sc) at gc in
    simp (oa, ob, oc, sa, sb, sc, fa, fb, fc, append-nil)

both_are : (x y z : Bool) → x ≡ true → y ≡ z → (x && y) ≡ z
both_are x y z e f = rw e f

counted : (x y z w : Bool) → x ≡ true → y ≡ true → z ≡ false → (if x && y then (if z && w then 0 + 1 else 0) + 1 else (if z && w then 0 + 1 else 0)) ≡ 1
counted x y z w e f g = rw (e, f, g) refl

one_kept : (x : Bool) (k k' : List ℕ) (l l' : List (List ℕ)) → x ≡ false → k ≡ k' → l ≡ l' → (if x then [] else k ∷ []) ++ l ≡ k' ∷ l'
one_kept x k k' l l' e f g = rw (e, f, g) refl

one_gone : (x : Bool) (k : List ℕ) (l l' : List (List ℕ)) → x ≡ true → l ≡ l' → (if x then [] else k ∷ []) ++ l ≡ l'
one_gone x k l l' e g = rw (e, g) refl

module _ (goes : Option ℤ → Bool) (sw : List ℕ) (pid : ℕ) (a b c : List ℕ) where
  -- the first and the third stay, and one has gone between them
  two_kept : payload_on pid a ≡ true → payload_on pid c ≡ true → is_cut goes sw pid a [] ≡ false → is_cut goes sw pid b (a ∷ []) ≡ true → original pid b (a ∷ []) ≡ true → is_cut goes sw pid c (b ∷ a ∷ []) ≡ false
      → counted_cut goes sw pid (a ∷ b ∷ c ∷ []) ≡ renumbered 0 a ∷ renumbered 15 c ∷ []
  two_kept ya yc ca cb ob cg =
      let oa = payload_on-on pid a ya in
      let oc = payload_on-on pid c yc in
      let n : gone goes sw pid (b ∷ a ∷ []) ≡ 1 = counted (is_cut goes sw pid b (a ∷ [])) (original pid b (a ∷ [])) (is_cut goes sw pid a []) (original pid a []) cb ob ca in
      let ka : kept_as goes sw pid a [] ≡ renumbered 0 a = simp oa in
      let kc : kept_as goes sw pid c (b ∷ a ∷ []) ≡ renumbered 15 c = rw (oc, n) refl in
      cut_after-cons goes sw pid a [] (b ∷ c ∷ [])
      ∙ one_kept (is_cut goes sw pid a []) (kept_as goes sw pid a []) (renumbered 0 a) (cut_after goes sw pid (a ∷ []) (b ∷ c ∷ [])) (renumbered 15 c ∷ []) ca ka
      (cut_after-cons goes sw pid b (a ∷ []) (c ∷ [])
      ∙ one_gone (is_cut goes sw pid b (a ∷ [])) (kept_as goes sw pid b (a ∷ [])) (cut_after goes sw pid (b ∷ a ∷ []) (c ∷ [])) (renumbered 15 c ∷ []) cb
      (cut_after-cons goes sw pid c (b ∷ a ∷ []) []
      ∙ one_kept (is_cut goes sw pid c (b ∷ a ∷ [])) (kept_as goes sw pid c (b ∷ a ∷ [])) (renumbered 15 c) [] [] cg kc refl))

pub gapless_is_needed : GaplessIsNeeded
gapless_is_needed goes sw sw' pid p q yp sp yq sq next stays goes_q stays_again =
    let c = renumbered 1 p in
    let yc = payload_on-renumbered pid 1 p ∙ yp in
    let sc = start-renumbered 1 p ∙ sp in
    let unlike : alike p q ≡ false = by_test (alike p q) (λ a. let n = alike-number p q a in absurd (omega (arith, n, next, number-below p))) (λ a. a) in
    let op : original pid p [] ≡ true = simp yp in
    let oq : original pid q (p ∷ []) ≡ true = simp (yp, yq, unlike) in
    let fresh : alike q c ≡ false = by_test (alike q c)
    (λ a. let r : original pid c (q ∷ p ∷ []) ≡ false = simp (yp, yq, yc, unlike, a) in
    let t : unit_time sw pid (c ∷ q ∷ p ∷ []) ≡ unit_time sw pid (q ∷ p ∷ []) = simp r in
    let k = ap goes t in cc) (λ a. a) in
    let oc : original pid c (q ∷ p ∷ []) ≡ true = simp (yq, yc, fresh) in
    let ca : is_cut goes sw pid p [] ≡ false = both_are (payload_on pid p) (goes (unit_time sw pid (p ∷ []))) false yp stays in
    let cb : is_cut goes sw pid q (p ∷ []) ≡ true = both_are (payload_on pid q) (goes (unit_time sw pid (q ∷ p ∷ []))) true yq goes_q in
    let cg : is_cut goes sw pid c (q ∷ p ∷ []) ≡ false = both_are (payload_on pid c) (goes (unit_time sw pid (c ∷ q ∷ p ∷ []))) false yc stays_again in
    let left = one_unit sw' pid (renumbered 0 p) (renumbered 15 c) (payload_on-renumbered pid 0 p ∙ yp) (start-renumbered 0 p ∙ sp) (payload_on-renumbered pid 15 c ∙ yc) (around p) in
    let right = three_units goes sw pid p q c op oq oc sp sq sc stays goes_q stays_again in (
      ap (λ l. payloads (units sw' pid l)) (cut_is goes sw pid (p ∷ q ∷ c ∷ []) ∙ two_kept goes sw pid p q c yp yc ca cb oq cg) ∙ left ∙ ap (λ x. x ∷ []) (bytes-renumbered 0 p),
      right ∙ ap (λ x. bytes p ∷ x ∷ []) (bytes-renumbered 1 p),
    )
