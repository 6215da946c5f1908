-- A sink that puts a packet as it came in the place of one that is marked in error.
use Rattle.std.proofs.Common.{◌≡◌, ℕ, List, [], ◌∷◌, ◌++◌, map, length, take, drop, Option, true, false, refl, sym, ap, subst, ◌∙◌, append_assoc}
use Rattle.std.specs.Prelude.{if◌then◌else◌}
use Rattle.std.proofs.Math.Seq.{take-append_seam, drop-append_seam}
use Rattle.std.proofs.Math.ListN.{length-map}
use Rattle.std.proofs.lemmas.List.{append-nil, map-append}
use Rattle.ts_packet.specs.Fields.{in_error}
use Rattle.ts_packet.specs.declared.sink.PutFault.{PutFault}
use Rattle.chain_engine.specs.Unjudged.{restored, put_behind, RestoringHolds, RestoringFails}

-- ---- the list tells both parts

abbrev before_in : List (List ℕ) → List (List ℕ)
before_in [] = []
before_in (mark ∷ ps) = take (length mark) ps

abbrev put_in : List (List ℕ) → List (List ℕ)
put_in [] = []
put_in (mark ∷ ps) = drop (length mark) ps

tells_before : (before put : List (List ℕ)) → before_in (put_behind before put) ≡ before
tells_before before put = ap (λ n. take n (before ++ put)) (length-map before (λ p. 0)) ∙ take-append_seam before put

tells_put : (before put : List (List ℕ)) → put_in (put_behind before put) ≡ put
tells_put before put = ap (λ n. drop n (before ++ put)) (length-map before (λ p. 0)) ∙ drop-append_seam before put

put_more : (before put more : List (List ℕ)) → put_behind before put ++ more ≡ put_behind before (put ++ more)
put_more before put more = ap (λ (l : List (List ℕ)). map (λ p. 0) before ∷ l) (append_assoc before put more)

module _ {K : Type 0} (holds : K → Option (List ℕ) → List (List ℕ) → Type 0) (p : List ℕ) (start : Option (List ℕ)) where
  -- nothing is put yet
  pub restoring_begins : (out : K) (before : List (List ℕ)) → holds out start before → RestoringHolds holds p out start (put_behind before [])
  restoring_begins out before h = record { before = before; put = []; parts = refl; sent = subst (holds out start) (sym (append-nil before)) h }

  -- one packet more
  pub restoring_takes : (out out' : K) (ps : List (List ℕ)) (q r : List ℕ) → restored p q ≡ r → (h : RestoringHolds holds p out start ps)
      → holds out' start ((h.before ++ map (restored p) h.put) ++ r ∷ []) → RestoringHolds holds p out' start (ps ++ q ∷ [])
  restoring_takes out out' ps q r is h sent = record {
    before = h.before;
    put = h.put ++ q ∷ [];
    parts = ap (λ (l : List (List ℕ)). l ++ q ∷ []) h.parts ∙ put_more h.before h.put (q ∷ []);
    sent = subst (holds out' start)
        (append_assoc h.before (map (restored p) h.put) (r ∷ [])
        ∙ ap (λ (w : List ℕ). h.before ++ (map (restored p) h.put ++ w ∷ [])) (sym is)
        ∙ ap (λ l. h.before ++ l) (sym (map-append (restored p) h.put (q ∷ []))))
        sent;
  }

  -- what the output holds in the end
  pub restoring_ends : (out : K) (before sent : List (List ℕ)) → RestoringHolds holds p out start (put_behind before [] ++ sent) → holds out start (before ++ map (restored p) sent)
  restoring_ends out before sent h =
      let same : put_behind before sent ≡ put_behind h.before h.put = sym (put_more before [] sent) ∙ h.parts in
      let one : h.before ≡ before = sym (tells_before h.before h.put) ∙ ap before_in (sym same) ∙ tells_before before sent in
      let two : h.put ≡ sent = sym (tells_put h.before h.put) ∙ ap put_in (sym same) ∙ tells_put before sent in
      subst (λ l. holds out start (before ++ map (restored p) l)) two (subst (λ l. holds out start (l ++ map (restored p) h.put)) one h.sent)

  -- a packet is not taken
  pub restoring_fails : (fails : K → Option (List ℕ) → List (List ℕ) → List ℕ → PutFault → Type 0) (out out' : K) (ps : List (List ℕ)) (q r : List ℕ) (fault : PutFault) → restored p q ≡ r
      → (h : RestoringHolds holds p out start ps) → fails out' start (h.before ++ map (restored p) h.put) r fault → RestoringFails fails p out' start ps q fault
  restoring_fails fails out out' ps q r fault is h failed = record {
    before = h.before;
    put = h.put;
    parts = h.parts;
    failed = subst (λ w. fails out' start (h.before ++ map (restored p) h.put) w fault) (sym is) failed;
  }

-- the packet that is put
pub restored-marked : (p q : List ℕ) → in_error q ≡ true → restored p q ≡ p
restored-marked p q e = ap (λ b. if b then p else q) e

pub restored-other : (p q : List ℕ) → in_error q ≡ false → restored p q ≡ q
restored-other p q e = ap (λ b. if b then p else q) e
