-- The store of one stream, one packet more.
use Rattle.std.proofs.lemmas.Bool.{eqb-true}
use Rattle.std.proofs.Common.{◌≡◌, ℕ, zero, suc, ◌==◌, true, List, [], ◌∷◌, ◌++◌, length, arith, refl, sym, ap, ◌∙◌, append_assoc, Some, None, false}
use Rattle.std.specs.Prelude.{max, slice_get, ◌-◌, ◌<◌}
use Rattle.std.proofs.lemmas.List.{length-append}
use Rattle.std.proofs.lemmas.List.Elements.{All-cons, All-head, All-tail}
use Rattle.pes_time.specs.Stamps.{is_split}
use Rattle.pes_time.proofs.ReadLemmas as reads
use Rattle.ad_library.specs.declared.store.UnitPlace.{UnitPlace}
use Rattle.ad_library.specs.declared.store.UnitStore.{UnitStore}
use Rattle.ad_library.specs.Storing.{StoredUnit, Stores, joined, places_of, place_of, greatest_of, longer_stored, StampsAreWhole}

pub get_snoc : {X : Type 0} (xs : List X) (x : X) → slice_get (xs ++ x ∷ []) (length (xs ++ x ∷ []) - 1) ≡ Some x
get_snoc [] x = refl
get_snoc (y ∷ ys) x = let n = length-append ys (x ∷ []) in let e : length (y ∷ ys ++ x ∷ []) - 1 ≡ suc (length (ys ++ x ∷ []) - 1) = omega arith in ap (λ n. slice_get (y ∷ (ys ++ x ∷ [])) n) e ∙ get_snoc ys x

pub last_is : (u : StoredUnit) (us : List StoredUnit) → slice_get (places_of (u ∷ us)) (length (places_of (u ∷ us)) - 1) ≡ Some (place_of u us)
last_is u us = get_snoc (places_of us) (place_of u us)

some_is : {X : Type 0} (x y : X) → Some x ≡ Some y → x ≡ y
some_is x y e = cc

pub top_none : (us : List StoredUnit) (ps : List UnitPlace) (t : ℕ) → ps ≡ places_of us → None ≡ slice_get ps (length ps - 1) → t ≡ max (greatest_of us) t
top_none [] ps t h e = omega arith
top_none (u ∷ us) ps t h e = absurd (let k = e ∙ ap (λ (qs : List UnitPlace). slice_get qs (length qs - 1)) h ∙ last_is u us in cc)

pub top_some : (us : List StoredUnit) (ps : List UnitPlace) (p : UnitPlace) (t : ℕ) → ps ≡ places_of us → Some p ≡ slice_get ps (length ps - 1) → max p.top t ≡ max (greatest_of us) t
top_some [] ps p t h e = absurd (let k = e ∙ ap (λ (qs : List UnitPlace). slice_get qs (length qs - 1)) h in cc)
top_some (u ∷ us) ps p t h e =
    let same : p ≡ place_of u us = some_is p (place_of u us) (e ∙ ap (λ (qs : List UnitPlace). slice_get qs (length qs - 1)) h ∙ last_is u us) in
    ap (λ (q : UnitPlace). max q.top t) same

pub place_is : (u : StoredUnit) (us : List StoredUnit) (start top : ℕ) → start ≡ length (joined us) → top ≡ max (greatest_of us) u.time
    → record { start = start; random_access = u.random_access; time = u.time; top = top } ≡ place_of u us
place_is u us start top s t = cc

pub begun : {A : Type 0} (old new : UnitStore A) (us : List StoredUnit) (u : StoredUnit) (p : UnitPlace) → Stores old us → new.bytes.items ≡ old.bytes.items ++ u.payload
    → new.places.items ≡ old.places.items ++ p ∷ [] → p ≡ place_of u us → is_split u.payload ≡ false → Stores new (u ∷ us)
begun old new us u p h b q e w = record {
  bytes = b ∙ ap (λ xs. xs ++ u.payload) h.bytes;
  places = q ∙ ap (λ xs. xs ++ p ∷ []) h.places ∙ ap (λ (x : UnitPlace). places_of us ++ x ∷ []) e;
  whole = All-cons StampsAreWhole u us (record { whole = w }) h.whole;
}

pub some_there : (n : ℕ) → false ≡ (n == 0) → 0 < n
some_there zero e = absurd (cc)
some_there (suc n) e = omega arith

pub not_begun : {A : Type 0} (s : UnitStore A) (us : List StoredUnit) (bs : List ℕ) → Stores s us → true ≡ (length s.places.items == 0) → Stores s (longer_stored us bs)
not_begun s [] bs h e = h
not_begun s (u ∷ us) bs h e = absurd (let k = ap length h.places in let n = length-append (places_of us) (place_of u us ∷ []) in let z : length s.places.items ≡ 0 = eqb-true _ 0 (sym e) in omega arith)

pub gone_on : {A : Type 0} (old new : UnitStore A) (us : List StoredUnit) (bs : List ℕ) → Stores old us → new.bytes.items ≡ old.bytes.items ++ bs → new.places.items ≡ old.places.items
    → 0 < length old.places.items → Stores new (longer_stored us bs)
gone_on old new [] bs h b q some = let e : length old.places.items ≡ 0 = ap length h.places in absurd (omega arith)
gone_on old new (u ∷ us) bs h b q some = record {
  bytes = b ∙ ap (λ xs. xs ++ bs) h.bytes ∙ append_assoc (joined us) u.payload bs;
  places = q ∙ h.places;
  whole = All-cons StampsAreWhole (record { time = u.time; payload = u.payload ++ bs; random_access = u.random_access }) us (record { whole = (reads.more_reads_the_same u.payload bs (All-head StampsAreWhole u us h.whole).whole).2 })
      (All-tail StampsAreWhole u us h.whole);
}
