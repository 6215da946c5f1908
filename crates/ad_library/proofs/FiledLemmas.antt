-- Streams that are filed one after another.
use Rattle.std.specs.Prelude.{option_map, ℤ, reverse, Vec}
use Rattle.std.specs.List.{list_all}
use Rattle.std.proofs.Common.{◌≡◌, ℕ, ◌+◌, List, [], ◌∷◌, ◌++◌, map, true, ◌==◌, refl, sym, ap, ◌∙◌, subst, Option, Some, None, append_assoc, length, arith}
use Rattle.std.proofs.lemmas.List.{reverse-reverse, append-nil}
use Rattle.unit_stream.specs.Units.{units_back}
use Rattle.unit_stream.proofs.UnitLemmas.{units_in_order}
use Rattle.psi_tables.specs.declared.stream.Stream.{Stream}
use Rattle.program_follower.specs.Faults.{pids_in}
use Rattle.program_follower.specs.Program.{Program, program_of, behind_head, pids_of}
use Rattle.program_follower.specs.Following.{streams_of_program}
use Rattle.ad_library.specs.declared.fault.AdFault.{AdFault}
use Rattle.ad_library.specs.declared.fault.AdFault.TheVariants as ad_faults
use Rattle.ad_library.specs.declared.gathered.Gathered.{Gathered}
use Rattle.ad_library.specs.Advertisements.{kept, KeptStream, kept_stream, kept_streams, zero_of, least_of, lower_of, AdvertStream, Advertisement, stream_from, advertisement, advertisement_from}
use Rattle.ad_library.specs.Storing.{StoredUnit, Stores, on_line}
use Rattle.ad_library.specs.Faults.{end_fault, without_zero}
use Rattle.ad_library.specs.Gathering.{GathersStream, AllGathered, StreamsGathered}
use Rattle.ad_library.specs.Filing.{kept_of, ArePast, least_of_places, StoresStream, AllStored, AreOf}
use Rattle.std.proofs.lemmas.Bool.{eq-eqb, and_from, and_parts}
use Rattle.ad_library.specs.declared.ad_stream.AdStream.{AdStream}
use Rattle.ad_library.specs.Zeros.{has_zero}
use Rattle.ad_library.proofs.FilingLemmas.{NotBefore, NoneBefore, none_before, are_past, kept_reverse, least_stored, lower_of_push}

-- ---- the streams that are left

-- each of them is stored, and none of its units lies before the zero
pub record NoneBehind {A : Type 0} (gs : List (Gathered A)) (zero' : ℕ) : Type 0 where
  pub streams : List KeptStream
  pub stored : AllStored gs streams
  pub past : NoneBefore (on_line zero') streams

pub record FiledSo {A : Type 0} (done : List AdvertStream) (gs : List (Gathered A)) (zero' : ℕ) (ks : List KeptStream) : Type 0 where
  pub streams : List KeptStream
  pub stored : AllStored gs streams
  pub past : NoneBefore (on_line zero') streams
  pub is : done ++ map (stream_from (on_line zero')) streams ≡ map (stream_from (on_line zero')) ks

pub begin_behind : {A : Type 0} (all gs : List (Gathered A)) (z : ℕ) (ks : List KeptStream) → gs ≡ all → AllStored all ks → zero_of ks ≡ Some (on_line z) → NoneBehind gs z
begin_behind {A} all gs z ks i s e = record { streams = ks; stored = subst (λ (xs : List (Gathered A)). AllStored xs ks) (sym i) s; past = none_before (on_line z) ks e }

pub begin_filed : {A : Type 0} (done : List AdvertStream) (all gs : List (Gathered A)) (z : ℕ) (ks : List KeptStream) → done ≡ [] → gs ≡ all → AllStored all ks → zero_of ks ≡ Some (on_line z) → FiledSo done gs z ks
begin_filed {A} done all gs z ks d i s e = record {
  streams = ks;
  stored = subst (λ (xs : List (Gathered A)). AllStored xs ks) (sym i) s;
  past = none_before (on_line z) ks e;
  is = ap (λ l. l ++ map (stream_from (on_line z)) ks) d;
}

-- nothing is left
pub none_left : {X : Type 0} (xs : List X) (n : ℕ) → n ≡ length xs → n ≡ 0 → xs ≡ []
none_left [] n h e = refl
none_left (x ∷ xs) n h e = absurd (omega (arith, h, e))

pub one_less : {X : Type 0} (xs ys : List X) (x : X) (m n : ℕ) → xs ≡ x ∷ ys → m ≡ length xs → n + 1 ≡ m → n ≡ length ys
one_less xs ys x m n e h k = let l = ap length e in omega (arith, l, h, k)

-- the first of them
pub record First {A : Type 0} (g : Gathered A) (z : ℕ) : Type 0 where
  pub units : List StoredUnit
  pub stored : Stores g.store units
  pub past : ArePast z units

first_of : {A : Type 0} (g : Gathered A) (k : KeptStream) (z : ℕ) → StoresStream g k → NotBefore (on_line z) k.units → First g z
first_of g k z s n = record { units = s.units; stored = s.stored; past = are_past z s.units (subst (NotBefore (on_line z)) s.units_are n) }

pub first_behind : {A : Type 0} (all gs : List (Gathered A)) (g : Gathered A) (z : ℕ) → all ≡ g ∷ gs → NoneBehind all z → First g z × NoneBehind gs z
first_behind {A} all gs g z e h = by_streams h.streams (subst (λ (xs : List (Gathered A)). AllStored xs h.streams) e h.stored) h.past where
  by_streams : (ks : List KeptStream) → AllStored (g ∷ gs) ks → NoneBefore (on_line z) ks → First g z × NoneBehind gs z
  by_streams [] s n = absurd s
  by_streams (k ∷ ks) s n = (first_of g k z s.0 n.0, record { streams = ks; stored = s.1; past = n.1 })

seen_is : {A : Type 0} (g : Gathered A) (k : KeptStream) (us : List StoredUnit) (z : ℕ) → g.kind ≡ k.kind → k.units ≡ kept_of us
    → stream_from (on_line z) (record { kind = g.kind; units = kept_of us }) ≡ stream_from (on_line z) k
seen_is g k us z e u =
    ap (λ n. stream_from (on_line z) (record { kind = n; units = kept_of us })) e ∙ ap (λ v. stream_from (on_line z) (record { kind = k.kind; units = v })) (sym u)

pub one_filed : {A : Type 0} (all gs : List (Gathered A)) (g : Gathered A) (z : ℕ) (done more : List AdvertStream) (x : AdvertStream) (ks : List KeptStream) → all ≡ g ∷ gs → FiledSo done all z ks
    → ((us : List StoredUnit) → Stores g.store us → ArePast z us → x ≡ stream_from (on_line z) (record { kind = g.kind; units = kept_of us }))
    → more ≡ done ++ x ∷ [] → FiledSo more gs z ks
one_filed {A} all gs g z done more x ks e h f m = by_streams h.streams (subst (λ (xs : List (Gathered A)). AllStored xs h.streams) e h.stored) h.past h.is where
  by_streams : (ls : List KeptStream) → AllStored (g ∷ gs) ls → NoneBefore (on_line z) ls → done ++ map (stream_from (on_line z)) ls ≡ map (stream_from (on_line z)) ks → FiledSo more gs z ks
  by_streams [] s n is = absurd s
  by_streams (k ∷ ls) s n is =
      let own : x ≡ stream_from (on_line z) k = f s.0.units s.0.stored (are_past z s.0.units (subst (NotBefore (on_line z)) s.0.units_are n.0)) ∙ seen_is g k s.0.units z s.0.kind s.0.units_are in
      record {
        streams = ls;
        stored = s.1;
        past = n.1;
        is = ap (λ l. l ++ map (stream_from (on_line z)) ls) m ∙ append_assoc done (x ∷ []) (map (stream_from (on_line z)) ls) ∙ ap (λ y. done ++ y ∷ map (stream_from (on_line z)) ls) own ∙ is;
      }

pub all_filed : {A : Type 0} (gs : List (Gathered A)) (z : ℕ) (done : List AdvertStream) (ks : List KeptStream) → gs ≡ [] → FiledSo done gs z ks → done ≡ map (stream_from (on_line z)) ks
all_filed {A} gs z done ks e h = by_streams h.streams (subst (λ (xs : List (Gathered A)). AllStored xs h.streams) e h.stored) h.is where
  by_streams : (ls : List KeptStream) → AllStored {A = A} [] ls → done ++ map (stream_from (on_line z)) ls ≡ map (stream_from (on_line z)) ks → done ≡ map (stream_from (on_line z)) ks
  by_streams [] s is = sym (append-nil done) ∙ is
  by_streams (k ∷ ls) s is = absurd s

-- ---- the least time of streams, one after another

pub record LowestSo {A : Type 0} (least : Option ℤ) (gs : List (Gathered A)) (ks : List KeptStream) : Type 0 where
  pub streams : List KeptStream
  pub stored : AllStored gs streams
  pub is : lower_of least (zero_of streams) ≡ zero_of ks

pub one_lowest : {A : Type 0} (all gs : List (Gathered A)) (g : Gathered A) (least more : Option ℤ) (ks : List KeptStream) → all ≡ g ∷ gs → LowestSo least all ks
    → more ≡ lower_of least (least_of_places g.store.places.items) → LowestSo more gs ks
one_lowest {A} all gs g least more ks e h m = by_streams h.streams (subst (λ (xs : List (Gathered A)). AllStored xs h.streams) e h.stored) h.is where
  by_streams : (ls : List KeptStream) → AllStored (g ∷ gs) ls → lower_of least (zero_of ls) ≡ zero_of ks → LowestSo more gs ks
  by_streams [] s is = absurd s
  by_streams (k ∷ ls) s is =
      let own : least_of_places g.store.places.items ≡ least_of k.units = ap least_of_places s.0.stored.places ∙ least_stored s.0.units ∙ ap least_of (sym s.0.units_are) in
      record {
        streams = ls;
        stored = s.1;
        is = ap (λ o. lower_of o (zero_of ls)) (m ∙ ap (lower_of least) own) ∙ lower_of_push least (least_of k.units) (zero_of ls) ∙ is;
      }

pub all_lowest : {A : Type 0} (gs : List (Gathered A)) (least : Option ℤ) (ks : List KeptStream) → gs ≡ [] → LowestSo least gs ks → least ≡ zero_of ks
all_lowest {A} gs least ks e h = by_streams h.streams (subst (λ (xs : List (Gathered A)). AllStored xs h.streams) e h.stored) h.is where
  by_streams : (ls : List KeptStream) → AllStored {A = A} [] ls → lower_of least (zero_of ls) ≡ zero_of ks → least ≡ zero_of ks
  by_streams [] s is = is
  by_streams (k ∷ ls) s is = absurd s

-- ---- the streams of a gathering

stored_by : {A : Type 0} (g : Gathered A) (s : Stream) (pids : List ℕ) (past : List (List ℕ)) → g.kind ≡ s.kind → GathersStream g pids s.pid past → StoresStream g (kept_stream pids (reverse past) s)
stored_by g s pids past e h = record {
  units = h.units;
  stored = h.stored;
  kind = e;
  units_are = ap kept (units_in_order pids s.pid (reverse past)) ∙ ap (λ ps. kept (reverse (units_back pids s.pid ps))) (reverse-reverse past) ∙ kept_reverse (units_back pids s.pid past) ∙ ap reverse (sym h.keeps.kept_are);
}

pub all_stored : {A : Type 0} (gs : List (Gathered A)) (ss : List Stream) (pids : List ℕ) (past : List (List ℕ)) → AllGathered gs ss pids past → AllStored gs (map (kept_stream pids (reverse past)) ss)
all_stored [] [] pids past h = tt
all_stored [] (s ∷ ss) pids past h = absurd h
all_stored (g ∷ gs) [] pids past h = absurd h
all_stored (g ∷ gs) (s ∷ ss) pids past h = (stored_by g s pids past h.0 h.1, all_stored gs ss pids past h.2)

-- of the whole stream
streams_are : (past : List (List ℕ)) → kept_streams (reverse past) ≡ map (kept_stream (pids_of (program_of None past)) (reverse (behind_head None past))) (streams_of_program (program_of None past))
streams_are past = ap (λ ps. map (kept_stream (pids_of (program_of None ps)) (reverse (behind_head None ps))) (streams_of_program (program_of None ps))) (reverse-reverse past)

pub gathered_stored : {A : Type 0} (gs : List (Gathered A)) (past : List (List ℕ)) → StreamsGathered (Some gs) (program_of None past) (behind_head None past) → AllStored gs (kept_streams (reverse past))
gathered_stored {A} gs past h = subst (AllStored gs) (sym (streams_are past)) (by_program (program_of None past) h) where
  by_program : (o : Option Program) → StreamsGathered (Some gs) o (behind_head None past) → AllStored gs (map (kept_stream (pids_of o) (reverse (behind_head None past))) (streams_of_program o))
  by_program None h = absurd h
  by_program (Some r) h = all_stored gs r.streams (pids_in r.streams) (behind_head None past) h

program_back : (past : List (List ℕ)) → program_of None (reverse (reverse past)) ≡ program_of None past
program_back past = ap (program_of None) (reverse-reverse past)

end_without : (ps : List (List ℕ)) → zero_of (kept_streams ps) ≡ None → end_fault ps ≡ without_zero (program_of None (reverse ps))
end_without ps e = ap (λ z. elim z as (λ (o : Option ℤ). Option AdFault) [ None ↦ without_zero (program_of None (reverse ps)) | Some zero ↦ None ]) e

pub ends_with : (ps : List (List ℕ)) (z : ℤ) → zero_of (kept_streams ps) ≡ Some z → end_fault ps ≡ None
ends_with ps z e = ap (λ z. elim z as (λ (o : Option ℤ). Option AdFault) [ None ↦ without_zero (program_of None (reverse ps)) | Some zero ↦ None ]) e

-- no program
pub no_program : {A : Type 0} (past : List (List ℕ)) (o : Option (List (Gathered A))) → o ≡ None → StreamsGathered o (program_of None past) (behind_head None past) → end_fault (reverse past) ≡ Some ad_faults.NoProgram
no_program {A} past o e h = by_program (program_of None past) refl (subst (λ (x : Option (List (Gathered A))). StreamsGathered x (program_of None past) (behind_head None past)) e h) where
  by_program : (r : Option Program) → program_of None past ≡ r → StreamsGathered {A = A} None r (behind_head None past) → end_fault (reverse past) ≡ Some ad_faults.NoProgram
  by_program None k s =
      let none : zero_of (kept_streams (reverse past)) ≡ None = ap zero_of (streams_are past) ∙ ap (λ r. zero_of (map (kept_stream (pids_of r) (reverse (behind_head None past))) (streams_of_program r))) k in
      end_without (reverse past) none ∙ ap without_zero (program_back past ∙ k)
  by_program (Some r) k s = absurd s

-- no time
pub no_time : {A : Type 0} (past : List (List ℕ)) (gs : List (Gathered A)) → StreamsGathered (Some gs) (program_of None past) (behind_head None past) → zero_of (kept_streams (reverse past)) ≡ None
    → end_fault (reverse past) ≡ Some ad_faults.NoTime
no_time past gs h e = end_without (reverse past) e ∙ ap without_zero (program_back past) ∙ by_program (program_of None past) h where
  by_program : (r : Option Program) → StreamsGathered (Some gs) r (behind_head None past) → without_zero r ≡ Some ad_faults.NoTime
  by_program None s = absurd s
  by_program (Some r) s = refl

pub is_filed : (ps : List (List ℕ)) (z : ℤ) (streams : List AdvertStream) → zero_of (kept_streams ps) ≡ Some z → streams ≡ map (stream_from z) (kept_streams ps)
    → Some (record { zero = z; streams = streams }) ≡ advertisement ps
is_filed ps z streams e m =
    ap (λ ss. let x : Option Advertisement = Some (record { zero = z; streams = ss }) in x) m ∙ sym (ap (advertisement_from (kept_streams ps)) e)

pub of_gathered : {A Z : Type 0} (o : Option (Vec (Gathered A) Z)) (v : Vec (Gathered A) Z) (past : List (List ℕ)) → o ≡ Some v
    → StreamsGathered (option_map (λ v. v.items) o) (program_of None past) (behind_head None past) → AreOf v.items past
of_gathered {A} {Z} o v past e h = subst (λ (x : Option (Vec (Gathered A) Z)). StreamsGathered (option_map (λ v. v.items) x) (program_of None past) (behind_head None past)) e h

-- one more of the same zero
pub one_same : {A : Type 0} (z : ℕ) (old new : List (AdStream A)) (x : AdStream A) → list_all (has_zero z) old ≡ true → x.zero ≡ z → new ≡ old ++ x ∷ [] → list_all (has_zero z) new ≡ true
one_same {A} z old new x h e i = ap (list_all (has_zero z)) i ∙ all_snoc old h where
  all_snoc : (xs : List (AdStream A)) → list_all (has_zero z) xs ≡ true → list_all (has_zero z) (xs ++ x ∷ []) ≡ true
  all_snoc [] k = and_from (x.zero == z) true (eq-eqb x.zero z e) refl
  all_snoc (y ∷ ys) k = let r = and_parts (y.zero == z) (list_all (has_zero z) ys) k in and_from (y.zero == z) (list_all (has_zero z) (ys ++ x ∷ [])) r.0 (all_snoc ys r.1)

pub stored_as : {A : Type 0} (gs hs : List (Gathered A)) (ks : List KeptStream) → gs ≡ hs → AllStored hs ks → AllStored gs ks
stored_as {A} gs hs ks e h = subst (λ (xs : List (Gathered A)). AllStored xs ks) (sym e) h

pub of_filed : {A Z : Type 0} (o : Option (Vec (Gathered A) Z)) (v w : Vec (Gathered A) Z) (past : List (List ℕ)) → o ≡ Some v → w ≡ v
    → StreamsGathered (option_map (λ v. v.items) o) (program_of None past) (behind_head None past) → AreOf w.items past
of_filed {A} {Z} o v w past e i h = subst (λ (x : Vec (Gathered A) Z). AreOf x.items past) (sym i) (of_gathered o v past e h)
