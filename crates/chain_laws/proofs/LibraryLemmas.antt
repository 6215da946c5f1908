-- The units of advertisements can be packed.
use Rattle.std.proofs.Common.{◌≡◌, ℕ, ℤ, zero, suc, ◌<◌, ◌%◌, List, [], ◌∷◌, ◌++◌, refl, sym, subst, Option, None, Some, length, map, arith}
use Rattle.std.specs.Prelude.{◌-ℤ◌, filter, slice_get, option_map, ◌==◌}
use Rattle.std.specs.List.{AllByRecursion}
use Rattle.std.proofs.lemmas.Bool.{eqb-true}
use Rattle.ts_packet.proofs.Cases.{by_test}
use Rattle.pes_time.proofs.ReadLemmas.{restamp_moves_alone}
use Rattle.pes_time.specs.Line.{ring_of}
use Rattle.psi_tables.specs.declared.stream.Stream.{Stream}
use Rattle.psi_tables.specs.Streams.{Entry, stream_of, switched_of, is_switched}
use Rattle.psi_tables.specs.ProgramMap.{ProgramMap}
use Rattle.program_follower.specs.Program.{program_in, known_map}
use Rattle.program_follower.specs.Following.{streams_of_program}
use Rattle.unit_stream.specs.UnitPackets.{IsPacked}
use Rattle.unit_packing.proofs.UnitPacketLemmas.{packed}
use Rattle.ad_library.specs.Advertisements.{AdvertUnit, AdvertStream, Advertisement, is_of_kind, stream_at, played_bytes}
use Rattle.ad_library.specs.Library.{HasBytes, IsLibrary}
use Rattle.injector.specs.Steps.{packets_in}
use Rattle.splice_laws.specs.Splicing.{SliceUnit}
use Rattle.splice_plans.specs.Adverts.{slice_unit, slice_units, kind_and_place, units_at, packed_units}
use Rattle.chain_laws.specs.Libraries.{LibrariesArePacked}

-- ---- PIDs of 13 bits

abbrev Below : Stream → Type 0
Below s = s.pid < 8192

switched-below : (es : List Entry) → AllByRecursion Below (switched_of (map stream_of es))
switched-below [] = tt
switched-below (e ∷ es) = by_test (is_switched e.kind) (λ y. simp y (small e.pid_field, switched-below es)) (λ n. simp n (switched-below es))
  where
    small : (n : ℕ) → n % 8192 < 8192
    small n = omega arith

program-below : (o : Option ProgramMap) → AllByRecursion Below (streams_of_program (option_map program_in o))
program-below None = tt
program-below (Some m) = switched-below m.entries

kind-below : (pid : ℕ) (before ss : List Stream) (which : ℕ × ℕ) → kind_and_place pid before ss ≡ Some which → AllByRecursion Below ss → pid < 8192
kind-below pid before [] which h b = cc
kind-below pid before (s ∷ ss) which h b = by_test (s.pid == pid)
    (λ y. subst (λ n. n < 8192) (eqb-true s.pid pid y) b.0)
    (λ n. kind-below pid (before ++ s ∷ []) ss which (simp n at h) b.1)

-- ---- units

one-got : (P : AdvertStream → Type 0) (s : AdvertStream) (ss : List AdvertStream) (i : ℕ) → slice_get ss i ≡ Some s → AllByRecursion P ss → P s
one-got P s [] i h a = cc
one-got P s (x ∷ ss) zero h a = let e : x ≡ s = cc in subst P e a.0
one-got P s (x ∷ ss) (suc i) h a = one-got P s ss i h a.1

kind-bytes : (kind : ℕ) (ss : List AdvertStream) → AllByRecursion HasBytes ss → AllByRecursion HasBytes (filter (is_of_kind kind) ss)
kind-bytes kind [] a = tt
kind-bytes kind (s ∷ ss) a = by_test (is_of_kind kind s) (λ y. simp y (a.0, kind-bytes kind ss a.1)) (λ n. simp n (kind-bytes kind ss a.1))

abbrev CanBePacked : ℕ → SliceUnit → Type 0
CanBePacked pid u = (n : ℕ) → n < 16 → IsPacked pid u.payload n (packed_units pid u n)

module _ (pid : ℕ) (small : pid < 8192) (start : ℤ) (ad : Advertisement) where
  units-packed : (us : List AdvertUnit) → AllByRecursion (λ (u : AdvertUnit). 0 < length u.payload) us → AllByRecursion (CanBePacked pid) (map (slice_unit start ad) us)
  units-packed [] a = tt
  units-packed (u ∷ us) a = (
    λ n k. packed pid n u.random_access (played_bytes start ad u) small k (subst (λ m. 0 < m) (sym (restamp_moves_alone u.payload (ring_of (start -ℤ ad.zero))).size) a.0),
    units-packed us a.1,
  )

  stream-packed : (o : Option AdvertStream) (ss : List AdvertStream) (i : ℕ) → slice_get ss i ≡ o → AllByRecursion HasBytes ss → AllByRecursion (CanBePacked pid) (slice_units start ad o)
  stream-packed None ss i h a = tt
  stream-packed (Some s) ss i h a = units-packed s.units (one-got HasBytes s ss i h a)

module _ (filed : ℕ → Option Advertisement) (g : IsLibrary filed) (start : ℤ) (id pid : ℕ) (ss : List Stream) (b : AllByRecursion Below ss) where
  at-packed : (o : Option Advertisement) → filed id ≡ o → (which : Option (ℕ × ℕ)) → kind_and_place pid [] ss ≡ which → AllByRecursion (CanBePacked pid) (units_at start o which)
  at-packed None h which k = tt
  at-packed (Some ad) h None k = tt
  at-packed (Some ad) h (Some which) k =
      stream-packed pid (kind-below pid [] ss which k b) start ad (stream_at ad which.0 which.1) (filter (is_of_kind which.0) ad.streams) which.1 refl
      (kind-bytes which.0 ad.streams (g id ad h))

pub libraries_are_packed : LibrariesArePacked
libraries_are_packed c filed steps g e pid =
    let o = known_map (Some c.program) (packets_in steps) in
    let ss = streams_of_program (option_map program_in o) in
    at-packed filed g e.start e.program pid ss (program-below o) (filed e.program) refl (kind_and_place pid [] ss) refl
