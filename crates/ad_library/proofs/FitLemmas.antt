-- The streams of an advertisement, looked for one after another, and streams that it is to fit.
use Rattle.std.proofs.Common.{◌≡◌, ℕ, zero, suc, ◌+◌, ◌-◌, ◌<◌, ◌≤◌, List, [], ◌∷◌, ◌++◌, map, true, false, ◌&&◌, ◌==◌, take, drop, sym, ap, arith, ◌∙◌, if◌then◌else◌, Option, Some}
use Rattle.std.specs.Prelude.{filter, slice_get}
use Rattle.ts_packet.proofs.Cases.{by_test}
use Rattle.psi_tables.specs.declared.stream.Stream.{Stream}
use Rattle.ad_library.specs.Advertisements.{AdvertStream, Advertisement, is_of_kind, one_of_kind, stream_at, reaches, fits_behind, count_of_kind}

one_yes : (a b : ℕ) → (a == b) ≡ true → one_of_kind a b ≡ 1
one_yes a b y = ap (λ c. if c then 1 else 0) y

one_no : (a b : ℕ) → (a == b) ≡ false → one_of_kind a b ≡ 0
one_no a b n = ap (λ c. if c then 1 else 0) n

module _ {X : Type 0} (seen : X → AdvertStream) (kind : ℕ) (rest behind : List X) (s : X) (before one : ℕ) (e : rest ≡ s ∷ behind) (is : one ≡ one_of_kind (seen s).kind kind) where
  abbrev at : List X → ℕ → Option AdvertStream
  at xs n = slice_get (filter (is_of_kind kind) (map seen xs)) n

  pub found : before < one → Some (seen s) ≡ at rest before
  found lt =
      by_test ((seen s).kind == kind)
      (λ y. let o = one_yes (seen s).kind kind y in let z : before ≡ 0 = omega arith in
      sym (ap (λ xs. at xs before) e ∙ ap (at (s ∷ behind)) z ∙ ap (λ b. slice_get (if b then seen s ∷ filter (is_of_kind kind) (map seen behind) else filter (is_of_kind kind) (map seen behind)) 0) y))
      (λ n. absurd (let o = one_no (seen s).kind kind n in omega arith))

  pub passed_on : one ≤ before → at behind (before - one) ≡ at rest before
  passed_on le =
      by_test ((seen s).kind == kind)
      (λ y. let o = one_yes (seen s).kind kind y in let z : before ≡ suc (before - one) = omega arith in
      sym (ap (λ xs. at xs before) e ∙ ap (at (s ∷ behind)) z ∙ ap (λ b. slice_get (if b then seen s ∷ filter (is_of_kind kind) (map seen behind) else filter (is_of_kind kind) (map seen behind)) (suc (before - one))) y))
      (λ n. let o = one_no (seen s).kind kind n in let z : before ≡ before - one = omega arith in
      sym (ap (λ xs. at xs before) e ∙ ap (at (s ∷ behind)) z ∙ ap (λ b. slice_get (if b then seen s ∷ filter (is_of_kind kind) (map seen behind) else filter (is_of_kind kind) (map seen behind)) (before - one)) n))

-- ---- one stream more

pub take_more : {X : Type 0} (n : ℕ) (xs ys : List X) (x : X) → drop n xs ≡ x ∷ ys → (take (n + 1) xs ≡ take n xs ++ x ∷ []) × (drop (n + 1) xs ≡ ys)
take_more zero [] ys x e = absurd (cc)
take_more zero (z ∷ zs) ys x e = (cc, cc)
take_more (suc n) [] ys x e = absurd (cc)
take_more (suc n) (z ∷ zs) ys x e =
    let r = take_more n zs ys x e in
    let k : suc n + 1 ≡ suc (n + 1) = omega arith in
    (ap (λ m. take m (z ∷ zs)) k ∙ ap (λ (us : List _). z ∷ us) r.0, ap (λ m. drop m (z ∷ zs)) k ∙ r.1)

module _ (ad : Advertisement) (limit : ℕ) (before rest behind : List Stream) (s : Stream) (e : rest ≡ s ∷ behind) where
  pub one_more : reaches limit (stream_at ad s.kind (count_of_kind s.kind before)) ≡ true → fits_behind ad limit (before ++ s ∷ []) behind ≡ fits_behind ad limit before rest
  one_more y = sym (ap (fits_behind ad limit before) e ∙ ap (λ b. b && fits_behind ad limit (before ++ s ∷ []) behind) y)

  pub one_short : reaches limit (stream_at ad s.kind (count_of_kind s.kind before)) ≡ false → false ≡ fits_behind ad limit before rest
  one_short n = sym (ap (fits_behind ad limit before) e ∙ ap (λ b. b && fits_behind ad limit (before ++ s ∷ []) behind) n)
